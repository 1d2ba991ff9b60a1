-- When a call may change data and names, and which bytes its chunks code.
use Rattle.std.specs.Prelude.{◌≡◌, ◌⊎◌, ℕ, ◌+◌, ◌-◌, ◌*◌, ◌/◌, ◌%◌, ◌<◌, Bool, true, false, not, cond, ◌==◌, ◌&&◌, ◌||◌, nat_le, nat_lt, Option, Some, None, List, [], ◌∷◌, ◌++◌, map, length, slice_index}
use Rattle.std.specs.List.{Contains}
use Rattle.ec_attr.specs.declared.head.Head.{Head}
use Rattle.ec_field.specs.Code.{IsCode, IsStripe, chunk_at}
use Rattle.ec_stripe.specs.Span.{stripe_bytes}
use Rattle.ec_wire.specs.declared.op.Op.{Op}
use Rattle.ec_wire.specs.declared.op.Op.TheVariants.{Write, Truncate, Create, Mkdir, Unlink, Rename, Rmdir, Scrub}
use Rattle.ec_wire.specs.declared.request.Request.{Request}
use Rattle.ec_conduct.specs.Account.{Account, Exchange, Place, Wait, at, gfid_of}
use Rattle.ec_conduct.specs.Done.{chunk_of, chunk_read, did, is_pre, since}
use Rattle.ec_conduct.specs.Given.{quorum_of}
use Rattle.ec_conduct.specs.Group.{has}
use Rattle.ec_conduct.specs.Standing.{Every, Quorum, did_changes, group_of, holds, is_grouped}

-- the call changes the data of this file, or the names of this directory
abbrev pub changes_data : Op → ℕ → Bool
changes_data (Write h off bytes) g = h.0 == g
changes_data (Truncate h to) g = h.0 == g
changes_data (Scrub h settle) g = settle && (h.0 == g)
changes_data op g = false

abbrev pub cuts_file : Op → ℕ → Bool
cuts_file (Truncate h to) g = h.0 == g
cuts_file op g = false

abbrev pub changes_names : Op → ℕ → Bool
changes_names (Create h name) g = h.0 == g
changes_names (Mkdir h name) g = h.0 == g
changes_names (Unlink h name) g = h.0 == g
changes_names (Rmdir h name) g = h.0 == g
changes_names (Rename old name new to) g = (old.0 == g) || (new.0 == g)
changes_names op g = false

abbrev pub makes_child : Op → ℕ → Bool
makes_child (Create h name) g = h.0 == g
makes_child (Mkdir h name) g = h.0 == g
makes_child op g = false

abbrev pub removes_child : Op → ℕ → Bool
removes_child (Unlink h name) g = h.0 == g
removes_child (Rmdir h name) g = h.0 == g
removes_child op g = false

-- A change goes only to a brick that did the PreOp and all changes before, under that PreOp's grant.
pub record MayChange (c : Account) (b g grant : ℕ) : Type 0 where
  pub grant_held : holds (at c g b).inode grant ≡ true
  pub ready : did_changes (at c g b) ≡ true

-- byte i of a stripe
abbrev pub stripe_byte : List (List ℕ) → ℕ → ℕ
stripe_byte stripe i = slice_index (chunk_at stripe (i / 512)) (i % 512)

-- the call leaves byte `place` of a file of this size as it was
abbrev pub stays : Op → ℕ → ℕ → Bool
stays (Write g off bytes) size place = nat_lt place size && not (nat_le off place && nat_lt place (off + length bytes))
stays (Truncate g to) size place = nat_lt place size && nat_lt place to
stays op size place = nat_lt place size

-- what it makes of any other byte
abbrev pub fresh_byte : Op → ℕ → ℕ
fresh_byte (Write g off bytes) place = cond (nat_le off place && nat_lt place (off + length bytes)) (slice_index bytes (place - off)) 0
fresh_byte op place = 0

-- A quorum of the group gave chunks that are the codes of this stripe: `test` says which bricks count, `f` which exchanges.
abbrev pub Decodes : Account → ℕ → ℕ → (Place → Bool) → (List Exchange → List Exchange) → List (List ℕ) → Type 0
Decodes c g s test f stripe = Quorum c (λ x. (is_grouped c g x ≡ true) × (test (at c g x) ≡ true) × (chunk : List ℕ) × (chunk_read s (f (at c g x).window) ≡ Some chunk) × IsCode (quorum_of c.given) c.given.geometry.algorithm x stripe chunk)

-- the client's cache has the stripe under the group's version
abbrev pub IsCached : Account → ℕ → ℕ → Head → List (List ℕ) → Type 0
IsCached c g s head stripe = Contains c.given.cache (record { gfid = g; stripe = s; version = head.version.content; chunks = stripe })

-- Stripe s as it was: decoded from what the call read after its PreOp at bricks that did it, or cached.
pub record IsOld (c : Account) (g s : ℕ) (head : Head) (stripe : List (List ℕ)) : Type 0 where
  pub stripe_is : IsStripe (quorum_of c.given) stripe
  pub known : Decodes c g s (λ p. did is_pre p.window) (since is_pre) stripe ⊎ IsCached c g s head stripe

abbrev pub waited_at : ℕ → Option Wait → List Request
waited_at g None = []
waited_at g (Some w) = cond (has (λ h. h == g) (gfid_of w.request)) (w.request ∷ []) []

-- the requests on a gfid that went to brick x in this window, the last first
abbrev pub requests_at : Account → ℕ → ℕ → List Request
requests_at c g x = waited_at g (c.waits x) ++ map (λ e. e.request) (at c g x).window

-- a chunk, where there is one, is the code of a stripe at brick x
abbrev pub CodesAt : Account → ℕ → List (List ℕ) → Option (List ℕ) → Type 0
CodesAt c x stripe None = Unit {0}
CodesAt c x stripe (Some chunk) = IsCode (quorum_of c.given) c.given.geometry.algorithm x stripe chunk

abbrev pub AllCode : Account → ℕ → List (List ℕ) → ℕ → List Request → Type 0
AllCode c x stripe s [] = Unit {0}
AllCode c x stripe s (r ∷ rs) = CodesAt c x stripe (chunk_of s r) × AllCode c x stripe s rs

-- The call's own stripe s: its bytes, zeros, and else the bytes of the old stripe, which has to be known only where a byte
-- of it stays. Every chunk of stripe s that the call sent is its code.
pub record IsNewStripe (c : Account) (g s : ℕ) (head : Head) (stripe : List (List ℕ)) : Type 0 where
  pub stripe_is : IsStripe (quorum_of c.given) stripe
  pub old : List (List ℕ)
  pub known : (i : ℕ) → i < stripe_bytes (quorum_of c.given) → stays c.given.op head.size (stripe_bytes (quorum_of c.given) * s + i) ≡ true → IsOld c g s head old
  pub bytes : (i : ℕ) → i < stripe_bytes (quorum_of c.given) → stripe_byte stripe i ≡ cond (stays c.given.op head.size (stripe_bytes (quorum_of c.given) * s + i)) (stripe_byte old i) (fresh_byte c.given.op (stripe_bytes (quorum_of c.given) * s + i))
  pub one : Every c (λ x. AllCode c x stripe s (requests_at c g x))

-- the chunk for brick b is the code of the call's own stripe
pub record IsNewChunk (c : Account) (b g s : ℕ) (head : Head) (chunk : List ℕ) : Type 0 where
  pub stripe : List (List ℕ)
  pub of : IsNewStripe c g s head stripe
  pub code : IsCode (quorum_of c.given) c.given.geometry.algorithm b stripe chunk

-- of a write, truncate or scrub
pub record MayWrite (c : Account) (b g grant first : ℕ) (chunks : List (List ℕ)) : Type 0 where
  pub change : MayChange c b g grant
  pub op : changes_data c.given.op g ≡ true
  pub head : Head
  pub group : group_of c g ≡ Some head
  pub codes : (i : ℕ) → i < length chunks → IsNewChunk c b g (first + i) head (chunk_at chunks i)
