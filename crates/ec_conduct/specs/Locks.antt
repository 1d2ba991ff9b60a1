-- When a call may ask for locks, release them, and ask for heads.
use Rattle.std.specs.Prelude.{◌≡◌, ◌⊎◌, ℕ, Bool, true, false, ◌==◌, ◌||◌, Option, Some, None}
use Rattle.ec_attr.specs.Marks.{marked}
use Rattle.ec_attr.specs.declared.kind.Domain.{Domain}
use Rattle.ec_attr.specs.declared.kind.Domain.TheVariants.{Inode, Heal}
use Rattle.ec_wire.specs.declared.op.Op.{Op}
use Rattle.ec_wire.specs.declared.op.Op.TheVariants.{Heal as HealOp, Sweep}
use Rattle.ec_conduct.specs.Account.{Account, Lock, at}
use Rattle.ec_conduct.specs.Done.{did, history, is_any, is_ask, is_heal_ask, is_mark, tried}
use Rattle.ec_conduct.specs.Group.{has}
use Rattle.ec_conduct.specs.Standing.{Every, NoneWaits, group_of, heads_at, holds, is_held, is_rebuilt}

-- the call heals this gfid
abbrev pub heals : Op → ℕ → Bool
heals (HealOp h) g = h.0 == g
heals (Sweep full) g = true
heals op g = false

-- the call is a heal of one gfid
abbrev pub is_heal : Op → Bool
is_heal (HealOp h) = true
is_heal op = false

-- every ask on the gfid's content is released
abbrev pub IsUnlocked : Account → ℕ → Type 0
IsUnlocked c g = Every c (λ x. (at c g x).inode ≡ None)

-- In the window of its Mark, or its head was then the group's, marked: the sink is where the heal believes it.
abbrev pub follows : Account → ℕ → ℕ → Bool
follows c g x = did is_mark (at c g x).window || has (λ h. has (λ q. h.version.content == marked q.version.content) (group_of c g)) (heads_at c g x)

-- For the content of a gfid a brick is asked again only after all its locks there are released, and by a heal only where
-- each sink follows. A heal asks only bricks that granted it the Heal lock; so does a sweep while it heals the gfid.
pub record MayLock (c : Account) (b g : ℕ) : Type 0 where
  pub once : (at c g b).inode ≡ None
  pub window : ((c.on g).queried ≡ None) ⊎ (IsUnlocked c g × Every c (λ x. is_rebuilt (at c g x) ≡ true → follows c g x ≡ true))
  pub healed : ((is_heal c.given.op ≡ false) × Every c (λ x. (at c g x).heal ≡ None)) ⊎ (is_held (at c g b).heal ≡ true)

-- A heal asks each brick once, before it locks the content.
pub record MayLockHeal (c : Account) (b g : ℕ) : Type 0 where
  pub heals : heals c.given.op g ≡ true
  pub once : ((at c g b).heal ≡ None) × (tried is_heal_ask (history (at c g b)) ≡ false)
  pub first : IsUnlocked c g

abbrev pub MayAsk : Account → ℕ → ℕ → Domain → Type 0
MayAsk c b g Inode = MayLock c b g
MayAsk c b g Heal = MayLockHeal c b g

abbrev pub is_asked : Option Lock → ℕ → Bool
is_asked lock grant = has (λ l. l.number == grant) lock

-- an ask with this number isn't released, of the content or of a heal
abbrev pub IsAsked : Account → ℕ → ℕ → ℕ → Type 0
IsAsked c b g grant = (is_asked (at c g b).inode grant || is_asked (at c g b).heal grant) ≡ true

-- An ask is released, granted or not, where nothing on its gfid is waited for.
pub record MayRelease (c : Account) (b g grant : ℕ) : Type 0 where
  pub asked : IsAsked c b g grant
  pub idle : NoneWaits c g is_any

-- The Queries of a window go out in one step, after all its asks.
pub record MayQuery (c : Account) (b g grant : ℕ) : Type 0 where
  pub grant_held : holds (at c g b).inode grant ≡ true
  pub asked : NoneWaits c g is_ask
  pub together : ((c.on g).queried ≡ None) ⊎ ((c.on g).queried ≡ Some c.steps)
