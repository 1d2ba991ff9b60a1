-- The good group of a gfid: enough bricks whose records are alike. The heads are given by brick, None where a brick has
-- no record and where there is no such brick. Versions and dirty numbers are the content halves.
use Rattle.std.specs.Prelude.{◌≡◌, ℕ, zero, suc, ◌≤◌, max, Bool, true, false, not, ◌==◌, ◌&&◌, if◌then◌else◌, Option, Some, None}
use Rattle.ec_attr.specs.Bricks.{count_below}
use Rattle.ec_attr.specs.Marks.{is_marked, stripped}
use Rattle.ec_attr.specs.declared.attr.Attr.{Attr}
use Rattle.ec_attr.specs.declared.config.Config.{Config}
use Rattle.ec_attr.specs.declared.head.Head.{Head}
use Rattle.ec_attr.specs.declared.kind.Kind.{Kind}
use Rattle.ec_attr.specs.declared.kind.Kind.TheVariants.{File, Dir}

abbrev pub same_kind : Kind → Kind → Bool
same_kind File File = true
same_kind File Dir = false
same_kind Dir File = false
same_kind Dir Dir = true

abbrev pub same_config : Config → Config → Bool
same_config a b = (a.geometry.n == b.geometry.n) && (a.geometry.r == b.geometry.r) && (a.geometry.algorithm == b.geometry.algorithm)

abbrev pub same_attr : Attr → Attr → Bool
same_attr a b = (a.mode == b.mode) && (a.owner == b.owner) && (a.group == b.group)

-- heads agree in kind, config, version, size and attribute
unfoldable pub agree : Head → Head → Bool
agree a b =
    same_kind a.kind b.kind && same_config a.config b.config && (a.version.content == b.version.content)
    && (a.size == b.size) && same_attr a.attr b.attr

abbrev pub has_mark : Head → Bool
has_mark h = is_marked h.version.content

-- a brick's head is unmarked and agrees with this one
abbrev pub agrees_with : Head → Option Head → Bool
agrees_with h None = false
agrees_with h (Some g) = not (has_mark g) && agree h g

-- two bricks have heads that are unmarked and agree
abbrev pub alike_heads : Option Head → Option Head → Bool
alike_heads None o = false
alike_heads (Some h) o = not (has_mark h) && agrees_with h o

abbrev pub alike : (ℕ → Option Head) → ℕ → ℕ → Bool
alike heads b c = alike_heads (heads b) (heads c)

-- at least k bricks, each of which is alike with just the bricks of the group
abbrev pub IsGoodGroup : ℕ → (ℕ → Option Head) → (ℕ → Bool) → Type 0
IsGoodGroup k heads group = (k ≤ count_below 31 group) × ((b c : ℕ) → group b ≡ true → group c ≡ alike heads b c)

-- the head without its mark
abbrev pub without_mark : Head → Head
without_mark h = record h { version = record h.version { content = stripped h.version.content } }

-- a writer's sink, beside a group of this head: its head is marked, and agrees but for the mark
abbrev pub is_sink : Head → Option Head → Bool
is_sink h None = false
is_sink h (Some g) = has_mark g && agree h (without_mark g)

-- the greatest of f b over the b below n
unfoldable pub greatest_below : ℕ → (ℕ → ℕ) → ℕ
greatest_below zero f = 0
greatest_below (suc n) f = max (greatest_below n f) (f n)

-- the size of the largest set of bricks that are alike
abbrev pub most_alike : (ℕ → Option Head) → ℕ
most_alike heads = greatest_below 31 (λ b. count_below 31 (alike heads b))

abbrev pub dirty_of : Option Head → ℕ
dirty_of None = 0
dirty_of (Some h) = h.dirty.content

-- the greatest dirty number of a group
abbrev pub greatest_dirty : (ℕ → Option Head) → (ℕ → Bool) → ℕ
greatest_dirty heads group = greatest_below 31 (λ b. if group b then dirty_of (heads b) else 0)
