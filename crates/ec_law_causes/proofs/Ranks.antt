-- In which order the phases ask: each kind of request has a rank, and what wasn't asked yet is told by the ranks.
use Rattle.std.proofs.Common.{◌≡◌, ℕ, ◌≤◌, ◌<◌, ◌||◌, nat_le, Bool, true, false, cond, refl, ◌∙◌, ap, List, [], ◌∷◌, arith, Option, Some, None}
use Rattle.std.proofs.lemmas.Bool.Decides.{nat_tests}
use Rattle.ec_conduct.specs.Account.{Exchange, Place}
use Rattle.ec_conduct.specs.Done.{is_lock, is_query, reply_to, tried}
use Rattle.ec_wire.specs.declared.request.Request.{Request}
use Rattle.ec_wire.specs.declared.request.Request.TheVariants.{Ask, Release, Query, PreOp, ReadChunks, WriteChunks, SetLength, PostOp, Clear, NameGet, NamesAfter, NameSet, Make, Made, Unmake}
use Rattle.ec_txn.specs.Rounds.{asked_place}
use Rattle.ec_law_causes.proofs.Rounds.{IsOver}

abbrev pub rank : Request → ℕ
rank (Ask g domain kind) = 0
rank (Release g grant) = 0
rank (Query g grant) = 1
rank (NameGet g grant name) = 2
rank (NamesAfter g grant after) = 2
rank (PreOp g grant version dirty) = 3
rank (ReadChunks g grant first count) = 4
rank (Make g grant child) = 5
rank (WriteChunks g grant first chunks) = 6
rank (SetLength g grant keep len) = 7
rank (NameSet g grant name child) = 8
rank (PostOp g grant old new size attr) = 9
rank (Clear g grant version) = 10
rank (Made g grant child) = 11
rank (Unmake g grant child) = 12
rank r = 13

-- a request of this rank or a later one
abbrev pub is_late : ℕ → Request → Bool
is_late m r = nat_le m (rank r)

-- no such request is over
abbrev pub Below : ℕ → (ℕ → List Exchange) → Type 0
Below m w = (x : ℕ) → tried (is_late m) (w x) ≡ false

-- a test that only late requests pass
abbrev pub OnlyLate : ℕ → (Request → Bool) → Type 0
OnlyLate m p = (r : Request) → p r ≡ true → m ≤ rank r

or_false : (a b : Bool) → (a || b) ≡ false → (a ≡ false) × (b ≡ false)
or_false true b e = absurd (cc)
or_false false b e = (refl, e)

both_false : (a b : Bool) → a ≡ false → b ≡ false → (a || b) ≡ false
both_false true b e f = absurd (cc)
both_false false b e f = f

not_passed : (m : ℕ) (p : Request → Bool) (r : Request) (t : Bool) → OnlyLate m p → is_late m r ≡ false → p r ≡ t → p r ≡ false
not_passed m p r true only e w = absurd (let l = only r w in let v : nat_le m (rank r) ≡ true = grind (arith, nat_tests) in cc)
not_passed m p r false only e w = w

pub untried : (m : ℕ) (p : Request → Bool) (es : List Exchange) → OnlyLate m p → tried (is_late m) es ≡ false → tried p es ≡ false
untried m p [] only e = refl
untried m p (k ∷ es) only e = let w = or_false (is_late m k.request) (tried (is_late m) es) e in both_false (p k.request) (tried p es) (not_passed m p k.request (p k.request) only w.0 refl) (untried m p es only w.1)

pub unreplied : (p : Request → Bool) (es : List Exchange) → tried p es ≡ false → reply_to p es ≡ None
unreplied p [] e = refl
unreplied p (k ∷ es) e = let w = or_false (p k.request) (tried p es) e in ap (λ (t : Bool). cond t k.reply (reply_to p es)) w.0 ∙ unreplied p es w.1

-- what is below a rank is below a later one
pub late_more : (m k : ℕ) → m ≤ k → OnlyLate m (is_late k)
late_more m k le r e = (let v : k ≤ rank r = grind (arith, nat_tests) in omega (arith, le, v))

early : (m : ℕ) (r : Request) → rank r < m → is_late m r ≡ false
early m r less = grind (arith, nat_tests)

pub below_over : (m k : ℕ) (o : Option Request) (old new : List Exchange) → m ≤ k → IsOver o old new → ((r : Request) → o ≡ Some r → rank r < k) → tried (is_late m) old ≡ false → tried (is_late k) new ≡ false
below_over m k None old new le w asks e = ap (tried (is_late k)) w ∙ untried m (is_late k) old (late_more m k le) e
below_over m k (Some r) old new le w asks e = ap (tried (is_late k)) w.2 ∙ both_false (is_late k r) (tried (is_late k) old) (early k r (asks r refl)) (untried m (is_late k) old (late_more m k le) e)

-- requests after the Queries

pub late_lock : (r : Request) → 2 ≤ rank r → is_lock r ≡ false
late_lock (Ask g domain kind) le = absurd (omega arith)
late_lock r le = refl

pub late_query : (r : Request) → 2 ≤ rank r → is_query r ≡ false
late_query (Query g grant) le = absurd (omega arith)
late_query r le = refl

pub late_place : (p : Place) (i : ℕ) (r : Request) → 2 ≤ rank r → asked_place p i r ≡ p
late_place p i (Ask g domain kind) le = absurd (omega arith)
late_place p i r le = refl
