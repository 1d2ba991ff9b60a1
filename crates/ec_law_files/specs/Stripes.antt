-- Which stripes a call writes and cuts, and which stripes it makes.
use Rattle.std.specs.Prelude.{◌≡◌, ℕ, ◌+◌, ◌-◌, ◌*◌, ◌/◌, ◌%◌, ◌<◌, Bool, true, false, cond, ◌==◌, ◌||◌, min, Some, List, [], ◌∷◌, length}
use Rattle.ec_attr.specs.declared.head.Head.{Head}
use Rattle.ec_conduct.specs.Account.{Account, after, at}
use Rattle.ec_conduct.specs.Changes.{are, stripes_of, writes}
use Rattle.ec_conduct.specs.Data.{IsOld, fresh_byte, stays, stripe_byte}
use Rattle.ec_conduct.specs.Done.{is_trim, is_write}
use Rattle.ec_conduct.specs.Given.{Given, quorum_of}
use Rattle.ec_conduct.specs.Opened.{opened}
use Rattle.ec_conduct.specs.Own.{Own, Sends}
use Rattle.ec_conduct.specs.Standing.{changes_at, group_of}
use Rattle.ec_field.specs.Code.{IsCode, IsStripe, chunk_at}
use Rattle.ec_stripe.specs.Span.{stripe_bytes}
use Rattle.ec_txn.specs.Rounds.{subject}
use Rattle.ec_wire.specs.declared.op.Op.{Op}
use Rattle.ec_wire.specs.declared.op.Op.TheVariants.{Write, Truncate}
use Rattle.ec_wire.specs.declared.request.Request.{Request}
use Rattle.ec_wire.specs.declared.request.Request.TheVariants.{WriteChunks, SetLength, PostOp}

-- a request that writes stripes of a file, or cuts them off
abbrev pub puts_stripes : Request → Bool
puts_stripes r = is_write r || is_trim r

-- a call of this kind writes or cuts stripes
abbrev pub makes_stripes : Op → Bool
makes_stripes (Write h off bytes) = true
makes_stripes (Truncate h to) = true
makes_stripes op = false

-- A write of a file of this size writes the stripes of its range, in one request; a truncate writes the stripe of the lesser of
-- the two sizes, where that lies within one.
abbrev pub WritesStripes : Op → ℕ → ℕ → ℕ → ℕ → Type 0
WritesStripes (Write h off bytes) k size first count = (first ≡ off / stripe_bytes k) × (count ≡ stripes_of k (off + length bytes) - off / stripe_bytes k)
WritesStripes (Truncate h to) k size first count = ((min size to % stripe_bytes k == 0) ≡ false) × (first ≡ min size to / stripe_bytes k) × (count ≡ 1)
WritesStripes op k size first count = ⊥

-- A truncate keeps the stripes that have bytes below the lesser size, and leaves as many as the new size needs.
abbrev pub CutsStripes : Op → ℕ → ℕ → ℕ → ℕ → Type 0
CutsStripes (Truncate h to) k size keep count = (keep ≡ stripes_of k (min size to)) × (count ≡ stripes_of k to)
CutsStripes op k size keep count = ⊥

-- what a truncate has a brick do before the cut: nothing, or the stripe of the lesser size
abbrev pub WroteTail : Op → ℕ → ℕ → List Request → Type 0
WroteTail (Truncate h to) k size rs = are (cond (min size to % stripe_bytes k == 0) [] (writes (min size to / stripe_bytes k) 1 ∷ [])) rs ≡ true
WroteTail op k size rs = ⊥

-- Stripe s as the call makes it: its own bytes, zeros, and else the bytes of the old stripe, which it knows where a byte stays.
pub record IsOwnStripe (c : Account) (g s : ℕ) (head : Head) (stripe : List (List ℕ)) : Type 0 where
  pub stripe_is : IsStripe (quorum_of c.given) stripe
  pub old : List (List ℕ)
  pub known : (i : ℕ) → i < stripe_bytes (quorum_of c.given) → stays c.given.op head.size (stripe_bytes (quorum_of c.given) * s + i) ≡ true → IsOld c g s head old
  pub bytes : (i : ℕ) → i < stripe_bytes (quorum_of c.given) → stripe_byte stripe i ≡ cond (stays c.given.op head.size (stripe_bytes (quorum_of c.given) * s + i)) (stripe_byte old i) (fresh_byte c.given.op (stripe_bytes (quorum_of c.given) * s + i))

-- What a call makes of its file: by the head of its group, and by stripe.
pub record Making : Type 0 where
  pub head : Head
  pub stripe : ℕ → List (List ℕ)

-- chunks that the call sends to brick b: of its own stripes, each the code of the one stripe that the call makes
pub record IsOwnWrite (w : Making) (c : Account) (b g first : ℕ) (chunks : List (List ℕ)) : Type 0 where
  pub on : g ≡ subject c.given.op
  pub group : group_of c g ≡ Some w.head
  pub range : WritesStripes c.given.op (quorum_of c.given) w.head.size first (length chunks)
  pub made : (i : ℕ) → i < length chunks → IsOwnStripe c g (first + i) w.head (w.stripe (first + i))
  pub codes : (i : ℕ) → i < length chunks → IsCode (quorum_of c.given) c.given.geometry.algorithm b (w.stripe (first + i)) (chunk_at chunks i)

-- a cut that it sends there: of its own lengths, after the stripe of the lesser size
pub record IsOwnCut (w : Making) (c : Account) (b g keep count : ℕ) : Type 0 where
  pub on : g ≡ subject c.given.op
  pub group : group_of c g ≡ Some w.head
  pub range : CutsStripes c.given.op (quorum_of c.given) w.head.size keep count
  pub tail : WroteTail c.given.op (quorum_of c.given) w.head.size (changes_at (at c g b))

-- A PostOp of a call that makes stripes finds the same group.
abbrev pub IsOwn : Making → Account → ℕ → Request → Type 0
IsOwn w c b (WriteChunks g grant first chunks) = IsOwnWrite w c b g.0 first chunks
IsOwn w c b (SetLength g grant keep count) = IsOwnCut w c b g.0 keep count
IsOwn w c b (PostOp g grant old new size attr) = makes_stripes c.given.op ≡ true → group_of c g.0 ≡ Some w.head
IsOwn w c b r = Unit {0}

-- so it is of each request, at the account by which it is sent
abbrev pub EachSent : (Account → ℕ → Request → Type 0) → Account → List Own → Type 0
EachSent P c [] = Unit {0}
EachSent P c (Sends b i r ∷ es) = P c b r × EachSent P (after c (Sends b i r)) es
EachSent P c (e ∷ es) = EachSent P (after c e) es

-- One making for all that the call sends: each write and cut is of its own stripes.
abbrev pub IsMade : Given → List Own → Type 0
IsMade given es = (w : Making) × EachSent (IsOwn w) (opened given) es

-- What a request puts is of this making, whatever the account by which it was sent.
abbrev pub IsPut : Making → Given → ℕ → Request → Type 0
IsPut w v b (WriteChunks g grant first chunks) = WritesStripes v.op (quorum_of v) w.head.size first (length chunks) × ((i : ℕ) → i < length chunks → IsCode (quorum_of v) v.geometry.algorithm b (w.stripe (first + i)) (chunk_at chunks i))
IsPut w v b (SetLength g grant keep count) = CutsStripes v.op (quorum_of v) w.head.size keep count
IsPut w v b r = Unit {0}
