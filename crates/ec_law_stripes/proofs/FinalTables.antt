-- A table that goes in order asks for no content once it works.
use Rattle.std.proofs.Common.{◌≡◌, ℕ, Bool, true, false, refl, ap}
use Rattle.ec_attr.specs.declared.kind.LockKind.{LockKind}
use Rattle.ec_conduct.specs.Done.{is_lock, is_make, is_post, is_query}
use Rattle.ec_txn.specs.Tables.{Table}
use Rattle.ec_wire.specs.declared.request.Request.{Request}
use Rattle.ec_wire.specs.declared.request.Request.TheVariants.{Ask, Make, PostOp, Query}
use Rattle.ec_law_calls.specs.Parts.{Ends, Fits, GoesInOrder, Heads, IsNext, Locks, Makes, Names, Part, Posts, Works, is_work}
use Rattle.ec_law_stripes.specs.Finals.{EndsWithFinals, is_final}

-- the locks and the Queries are over
abbrev is_working : Part → Bool
is_working (Locks brick) = false
is_working Heads = false
is_working p = true

query_not_final : (r : Request) → is_query r ≡ true → is_final r ≡ false
query_not_final (Query g grant) e = refl
query_not_final r e = absurd (cc)

work_no_lock : (kind : LockKind) (r : Request) → is_work kind r ≡ true → is_lock r ≡ false
work_no_lock kind (Ask g domain k) e = absurd (cc)
work_no_lock kind r e = refl

make_no_lock : (r : Request) → is_make r ≡ true → is_lock r ≡ false
make_no_lock (Make g grant child) e = refl
make_no_lock r e = absurd (cc)

post_no_lock : (r : Request) → is_post r ≡ true → is_lock r ≡ false
post_no_lock (PostOp g grant old new size attr) e = refl
post_no_lock r e = absurd (cc)

pub fits_early : (kind : LockKind) (p : Part) (x : ℕ) (r : Request) → Fits kind p x r → is_working p ≡ false → is_final r ≡ false
fits_early kind (Locks brick) x r f t = ap is_final f.2
fits_early kind Heads x r f t = query_not_final r f
fits_early kind p x r f t = absurd (cc)

fits_off : (kind : LockKind) (p : Part) (x : ℕ) (r : Request) → Fits kind p x r → is_working p ≡ true → is_lock r ≡ false
fits_off kind Works x r f t = work_no_lock kind r f
fits_off kind Makes x r f t = make_no_lock r f
fits_off kind Names x r f t = work_no_lock kind r f
fits_off kind Posts x r f t = post_no_lock r f
fits_off kind Ends x r f t = work_no_lock kind r f
fits_off kind p x r f t = absurd (cc)

never_locks : (p : Part) (b : ℕ) → is_working p ≡ true → IsNext p (Locks b) → ⊥
never_locks (Locks c) b e n = absurd (cc)
never_locks Heads b e n = absurd (cc)
never_locks p b e n = n

never_heads : (p : Part) → is_working p ≡ true → IsNext p Heads → ⊥
never_heads (Locks c) e n = absurd (cc)
never_heads Heads e n = absurd (cc)
never_heads p e n = n

stays_late : (p q : Part) → IsNext p q → is_working p ≡ true → is_working q ≡ true
stays_late p (Locks b) n e = absurd (never_locks p b e n)
stays_late p Heads n e = absurd (never_heads p e n)
stays_late p q n e = refl

pub no_asks : {P : Type 0} (kind : LockKind) (t : Table P) → GoesInOrder kind t → EndsWithFinals is_lock t
no_asks kind t order = record {
  is_late = λ p. is_working (order.part p);
  early = λ p c x r e late. fits_early kind (order.part p) x r (order.asks p c x r e) late;
  off = λ p c x r e late. fits_off kind (order.part p) x r (order.asks p c x r e) late;
  stays = λ p q c f late. stays_late (order.part p) (order.part q) (order.next p q c f) late;
}
