-- What the replies to one name come to.
use Rattle.std.specs.Prelude.{◌≡◌, ℕ, ◌<◌, ◌≤◌, Bool, true, false, not, cond, ◌==◌, ◌&&◌, is_some, Option, Some, None}
use Rattle.ec_attr.specs.Bricks.{count_below, is_in}
use Rattle.ec_attr.specs.GoodGroup.{same_kind}
use Rattle.ec_attr.specs.declared.kind.Child.{Child}
use Rattle.ec_wire.specs.declared.reply.Reply.{Reply}
use Rattle.ec_wire.specs.declared.reply.Reply.TheVariants.{Child as ChildIs}
use Rattle.ec_entry.specs.declared.named.Named.{Named}
use Rattle.ec_entry.specs.declared.named.Named.TheVariants.{Alike, Fewer, Split}

-- what a name leads to: a child, or none
abbrev pub Value : Type 0
Value = Option Child

abbrev pub same_value : Value → Value → Bool
same_value None None = true
same_value None (Some b) = false
same_value (Some a) None = false
same_value (Some a) (Some b) = same_kind a.kind b.kind && (a.gfid.0 == b.gfid.0)

abbrev pub value_in : Option Reply → Option Value
value_in (Some (ChildIs value)) = Some value
value_in reply = None

-- what each brick of a set replied last, where that is a value
abbrev pub said : ℕ → (ℕ → Option Reply) → ℕ → Option Value
said bits replies x = cond (is_in bits x) (value_in (replies x)) None

abbrev pub says : Value → Option Value → Bool
says v None = false
says v (Some w) = same_value v w

abbrev pub differs : Value → Option Value → Bool
differs v None = false
differs v (Some w) = not (same_value v w)

-- how many bricks replied, and how many of them this value
abbrev pub count_said : (ℕ → Option Value) → ℕ
count_said said = count_below 31 (λ x. is_some (said x))

abbrev pub count_of : (ℕ → Option Value) → Value → ℕ
count_of said v = count_below 31 (λ x. says v (said x))

-- the value of the lowest brick that replied
abbrev pub IsLowest : (ℕ → Option Value) → Value → Type 0
IsLowest said a = (x : ℕ) × (x < 31) × (said x ≡ Some a) × ((z : ℕ) → z < x → said z ≡ None)

-- the value of the lowest brick whose reply is another one than a
abbrev pub IsOther : (ℕ → Option Value) → Value → Value → Type 0
IsOther said a b = (x : ℕ) × (x < 31) × (said x ≡ Some b) × (same_value a b ≡ false) × ((z : ℕ) → z < x → differs a (said z) ≡ false)

-- no value comes from k bricks
abbrev pub NoneAlike : ℕ → (ℕ → Option Value) → Type 0
NoneAlike k said = (x : ℕ) (v : Value) → x < 31 → said x ≡ Some v → count_of said v < k

-- Fewer than k bricks replied; or k replied alike; or as many replied, and no k of them alike.
abbrev pub IsNamed : ℕ → (ℕ → Option Value) → Named → Type 0
IsNamed k said (Fewer most) = (most ≡ count_said said) × (most < k)
IsNamed k said (Alike v) = k ≤ count_of said v
IsNamed k said (Split a b) = (k ≤ count_said said) × NoneAlike k said × IsLowest said a × IsOther said a b
