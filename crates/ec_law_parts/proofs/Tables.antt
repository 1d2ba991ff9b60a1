-- A table that goes in order asks for no content from its PostOps on.
use Rattle.std.proofs.Common.{◌≡◌, ℕ, true, false, refl, ap}
use Rattle.ec_attr.specs.declared.kind.LockKind.{LockKind}
use Rattle.ec_conduct.specs.Done.{is_lock, is_make, is_post, is_query}
use Rattle.ec_txn.specs.Tables.{Table}
use Rattle.ec_wire.specs.declared.request.Request.{Request}
use Rattle.ec_wire.specs.declared.request.Request.TheVariants.{Ask, Query, PostOp, Make}
use Rattle.ec_law_calls.specs.Parts.{Fits, GoesInOrder, IsNext, Part, Locks, Heads, Works, Makes, Names, Posts, Ends, is_work}
use Rattle.ec_law_calls.proofs.Stages.{is_posted}
use Rattle.ec_law_parts.specs.LeavesOff.{EndsWithPosts}

work_no_post : (kind : LockKind) (r : Request) → is_work kind r ≡ true → is_post r ≡ false
work_no_post kind (PostOp g grant old new size attr) e = absurd (cc)
work_no_post kind r e = refl

work_no_lock : (kind : LockKind) (r : Request) → is_work kind r ≡ true → is_lock r ≡ false
work_no_lock kind (Ask g domain k) e = absurd (cc)
work_no_lock kind r e = refl

query_no_post : (r : Request) → is_query r ≡ true → is_post r ≡ false
query_no_post (Query g grant) e = refl
query_no_post r e = absurd (cc)

make_no_post : (r : Request) → is_make r ≡ true → is_post r ≡ false
make_no_post (Make g grant child) e = refl
make_no_post r e = absurd (cc)

post_no_lock : (r : Request) → is_post r ≡ true → is_lock r ≡ false
post_no_lock (PostOp g grant old new size attr) e = refl
post_no_lock r e = absurd (cc)

pub fits_early : (kind : LockKind) (p : Part) (x : ℕ) (r : Request) → Fits kind p x r → is_posted p ≡ false → is_post r ≡ false
fits_early kind (Locks brick) x r f t = ap is_post f.2
fits_early kind Heads x r f t = query_no_post r f
fits_early kind Works x r f t = work_no_post kind r f
fits_early kind Makes x r f t = make_no_post r f
fits_early kind Names x r f t = work_no_post kind r f
fits_early kind p x r f t = absurd (cc)

fits_off : (kind : LockKind) (p : Part) (x : ℕ) (r : Request) → Fits kind p x r → is_posted p ≡ true → is_lock r ≡ false
fits_off kind Posts x r f t = post_no_lock r f
fits_off kind Ends x r f t = work_no_lock kind r f
fits_off kind p x r f t = absurd (cc)

from_posts : (q : Part) → IsNext Posts q → is_posted q ≡ true
from_posts Ends n = refl
from_posts q n = absurd n

from_ends : (q : Part) → IsNext Ends q → is_posted q ≡ true
from_ends Ends n = refl
from_ends q n = absurd n

stays_late : (p q : Part) → IsNext p q → is_posted p ≡ true → is_posted q ≡ true
stays_late Posts q n e = from_posts q n
stays_late Ends q n e = from_ends q n
stays_late p q n e = absurd (cc)

pub no_asks : {P : Type 0} (kind : LockKind) (t : Table P) → GoesInOrder kind t → EndsWithPosts is_lock t
no_asks kind t order = record {
  is_late = λ p. is_posted (order.part p);
  early = λ p c x r e late. fits_early kind (order.part p) x r (order.asks p c x r e) late;
  off = λ p c x r e late. fits_off kind (order.part p) x r (order.asks p c x r e) late;
  stays = λ p q c f late. stays_late (order.part p) (order.part q) (order.next p q c f) late;
}
