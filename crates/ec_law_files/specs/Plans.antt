-- What the commit of a call on a file is planned to be: by its op, the head of its group and what it makes.
use Rattle.std.specs.Prelude.{◌≡◌, ◌⊎◌, ℕ, ◌+◌, ◌-◌, ◌*◌, ◌/◌, ◌%◌, ◌^◌, ◌<◌, Bool, true, false, not, cond, ◌==◌, ◌&&◌, ◌||◌, nat_lt, min, Option, Some, None, unwrap_or, List, [], ◌∷◌, length}
use Rattle.std.specs.List.{list_any}
use Rattle.ec_attr.specs.declared.head.Head.{Head}
use Rattle.ec_conduct.specs.Account.{Account, at, gfid_of}
use Rattle.ec_conduct.specs.Ballots.{attr_after, size_after}
use Rattle.ec_conduct.specs.Changes.{IsAllOf, stripes_of}
use Rattle.ec_conduct.specs.Data.{IsOld, fresh_byte, stays, stripe_byte}
use Rattle.ec_conduct.specs.Given.{Given, quorum_of}
use Rattle.ec_conduct.specs.Standing.{changes_at}
use Rattle.ec_field.specs.Chunk.{IsChunk}
use Rattle.ec_field.specs.Code.{chunk_at}
use Rattle.ec_history.specs.IsRun.{AreChunks}
use Rattle.ec_history.specs.Story.{is_among}
use Rattle.ec_law_data.specs.Coding.{by_rows}
use Rattle.ec_law_data.specs.Forms.{Coder, Piece, Shape, file_form, is_data, of_file, stripes_written, zero_stripe}
use Rattle.ec_law_data.specs.Link.{Codes}
use Rattle.ec_law_pieces.specs.Deed.{AreCodes, Deed, IsPlan, Plan, step}
use Rattle.ec_law_pieces.specs.Deed.Deed.{Intend}
use Rattle.ec_law_pieces.specs.File.{File, Form}
use Rattle.ec_matrix.specs.Inverse.{IsByteRow}
use Rattle.ec_stripe.specs.Span.{stripe_bytes}
use Rattle.ec_wire.specs.declared.op.Op.{Op}
use Rattle.ec_wire.specs.declared.op.Op.TheVariants.{Write, Truncate}
use Rattle.ec_wire.specs.declared.request.Request.{Request}
use Rattle.ec_wire.specs.declared.request.Request.TheVariants.{WriteChunks, SetLength, PostOp}
use Rattle.ec_law_files.specs.Stripes.{IsOwn, IsPut, Making, puts_stripes}

-- the stripe of the lesser size, where that lies within one
abbrev pub is_tail : ℕ → ℕ → ℕ → Bool
is_tail k low s = not (low % stripe_bytes k == 0) && (s == low / stripe_bytes k)

-- the stripes that a call writes, and those that it cuts: these have no byte below both sizes
abbrev pub is_written : ℕ → Op → ℕ → ℕ → Bool
is_written k (Write h off bytes) size s = is_among (off / stripe_bytes k) (stripes_of k (off + length bytes) - off / stripe_bytes k) s
is_written k (Truncate h to) size s = is_tail k (min size to) s
is_written k op size s = false

abbrev pub is_cut : ℕ → Op → ℕ → ℕ → Bool
is_cut k (Truncate h to) size s = not (nat_lt s (stripes_of k (min size to)) && nat_lt s (stripes_of k to))
is_cut k op size s = false

-- Byte i of a stripe, where the call sets it: a byte that stays is carried over, and past the stripe's bytes there is nothing.
abbrev pub byte_set : ℕ → Op → ℕ → ℕ → ℕ → Option ℕ
byte_set k op size s i = cond (nat_lt i (stripe_bytes k)) (cond (stays op size (stripe_bytes k * s + i)) None (Some (fresh_byte op (stripe_bytes k * s + i)))) (Some 0)

abbrev pub value_of : ℕ → Op → Making → ℕ → List (List ℕ)
value_of k op w s = cond (is_written k op w.head.size s) (w.stripe s) (zero_stripe k)

abbrev pub file_plan : ℕ → Op → Making → Plan ℕ (List (List ℕ)) ℕ Shape
file_plan k op w = record {
  covers = λ s. is_written k op w.head.size s || is_cut k op w.head.size s;
  sets = byte_set k op w.head.size;
  value = value_of k op w;
  becomes = record { size = size_after op w.head.size; attr = unwrap_or (attr_after op) w.head.attr };
}

-- a write or cut was sent to the brick in this window
abbrev pub wrote_any : Account → ℕ → ℕ → Bool
wrote_any c g b = list_any puts_stripes (changes_at (at c g b))

-- The request by which a turn plans: its first write or cut, or its PostOp where it has none.
abbrev pub IsFirst : Making → Account → ℕ → Request → Type 0
IsFirst w c b (WriteChunks g grant first chunks) = IsOwn w c b (WriteChunks g grant first chunks)
IsFirst w c b (SetLength g grant keep count) = IsOwn w c b (SetLength g grant keep count) × (wrote_any c g.0 b ≡ false)
IsFirst w c b (PostOp g grant old new size attr) = IsAllOf c g.0 w.head c.given.op (changes_at (at c g.0 b)) × (wrote_any c g.0 b ≡ false)
IsFirst w c b r = ⊥

-- one of these requests writes or cuts the stripe of gfid g
abbrev pub PutsOne : ℕ → List Request → ℕ → Type 0
PutsOne g [] s = ⊥
PutsOne g (q ∷ qs) s = ((is_data g q ≡ true) × (stripes_written q s ≡ true)) ⊎ PutsOne g qs s

-- each of them is on the gfid
abbrev pub AreOn : ℕ → List Request → Type 0
AreOn g [] = Unit {0}
AreOn g (q ∷ qs) = (gfid_of q ≡ Some g) × AreOn g qs

-- The form of a file, of which each byte of a stripe is read by a function. A list of lists may have a number for a byte that is none,
-- and its code has the low eight bits; so what is given at K bricks tells those bits alone.
abbrev pub form_by : (ℕ → ℕ) → ℕ → Coder → Form ℕ (List (List ℕ)) Piece ℕ Shape
form_by byte k coder = record (file_form k coder) { unit = λ stripe i. byte (stripe_byte stripe i) }

-- it reads bytes as they are
abbrev pub ReadsBytes : (ℕ → ℕ) → Type 0
ReadsBytes byte = (x : ℕ) → x < 2 ^ 8 → byte x ≡ x

-- What the turn was given of a stripe, as the machine has it, is what its call takes for the old stripe.
abbrev pub ReadsOld : (ℕ → ℕ) → ℕ → Coder → ℕ → ℕ → File ℕ (List (List ℕ)) Piece ℕ Shape → ℕ → Account → ℕ → Head → Type 0
ReadsOld byte k coder n q f a c g head = (s : ℕ) (old : List (List ℕ)) → IsOld c g s head old → (v : List (List ℕ)) → AreCodes (form_by byte k coder) n q f a s v → (i : ℕ) → i < stripe_bytes k → byte (stripe_byte v i) ≡ byte (stripe_byte old i)

-- the machine has this plan of the turn
pub record HasPlan (f : File ℕ (List (List ℕ)) Piece ℕ Shape) (a : ℕ) (plan : Plan ℕ (List (List ℕ)) ℕ Shape) : Type 0 where
  pub planned : f.planned a ≡ true
  pub covers : (s : ℕ) → f.covers a s ≡ plan.covers s
  pub value : (s : ℕ) → f.value a s ≡ plan.value s

-- no plan is made for this turn
abbrev pub IsOther : ℕ → Deed ℕ (List (List ℕ)) Piece ℕ Shape → Type 0
IsOther a (Intend x plan) = x ≡ a → ⊥
IsOther a d = Unit {0}

pub record FilePlanLaws : Type 0 where
  -- the low eight bits are such a reading
  pub low : ReadsBytes (λ x. x % 2 ^ 8)
  -- at the request by which a turn plans, what its call makes is a plan
  pub is_plan : (byte : ℕ → ℕ) → ReadsBytes byte → (n q : ℕ) (coder : Coder) (f : File ℕ (List (List ℕ)) Piece ℕ Shape) (a : ℕ) (c : Account) (b g : ℕ) (w : Making) (r : Request)
      → (f.took a).size ≡ w.head.size
      → ReadsOld byte (quorum_of c.given) coder n q f a c g w.head
      → gfid_of r ≡ Some g
      → IsFirst w c b r
      → IsPlan (form_by byte (quorum_of c.given) coder) n q f a (file_plan (quorum_of c.given) c.given.op w)
  -- what is covered is put by one of the changes that a commit of the call is made of
  pub changes : (c : Account) (g : ℕ) (w : Making) (rs : List Request)
      → IsAllOf c g w.head c.given.op rs → AreOn g rs
      → (s : ℕ) → (file_plan (quorum_of c.given) c.given.op w).covers s ≡ true → PutsOne g rs s
  -- what is the call's own is of its making
  pub put : (w : Making) (c : Account) (b : ℕ) (r : Request) → IsOwn w c b r → IsPut w c.given b r
  -- each write and cut of the call goes to places that the plan covers
  pub covered : (f : File ℕ (List (List ℕ)) Piece ℕ Shape) (a : ℕ) (v : Given) (b : ℕ) (w : Making) (r : Request)
      → HasPlan f a (file_plan (quorum_of v) v.op w) → IsPut w v b r
      → (s : ℕ) → stripes_written r s ≡ true → f.covers a s ≡ true
  -- and puts the code of the planned values there
  pub codes : (rows : ℕ → ℕ → ℕ) (f : File ℕ (List (List ℕ)) Piece ℕ Shape) (g a : ℕ) (v : Given) (b : ℕ) (w : Making) (r : Request)
      → HasPlan f a (file_plan (quorum_of v) v.op w) → IsPut w v b r → AreChunks r
      → b < v.geometry.n → IsByteRow (quorum_of v) v.geometry.algorithm b (rows b)
      → Codes (of_file (quorum_of v) (by_rows (quorum_of v) rows)) f g a b r
  -- a plan that is made is there, and stays whatever is done
  pub planned : (form : Form ℕ (List (List ℕ)) Piece ℕ Shape) (n q : ℕ) (f : File ℕ (List (List ℕ)) Piece ℕ Shape) (a : ℕ) (plan : Plan ℕ (List (List ℕ)) ℕ Shape) → HasPlan (step form n q f (Intend a plan)) a plan
  pub stays : (form : Form ℕ (List (List ℕ)) Piece ℕ Shape) (n q : ℕ) (f : File ℕ (List (List ℕ)) Piece ℕ Shape) (a : ℕ) (plan : Plan ℕ (List (List ℕ)) ℕ Shape) (d : Deed ℕ (List (List ℕ)) Piece ℕ Shape) → IsOther a d → HasPlan f a plan → HasPlan (step form n q f d) a plan
