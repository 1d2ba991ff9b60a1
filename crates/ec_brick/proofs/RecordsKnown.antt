-- What is known of records is known after the same change of records that are known better.
use Rattle.std.proofs.Common.{◌≡◌, ℕ, ◌*◌, Bool, true, false, Option, Some, None, is_some, List, length, refl, sym, ◌∙◌, ap, subst, arith}
use Rattle.std.proofs.lemmas.Bool.Decides.{nat_tests}
use Rattle.ec_attr.specs.declared.config.Config.{Config}
use Rattle.ec_attr.specs.declared.head.Head.{Head}
use Rattle.ec_attr.specs.declared.kind.Child.{Child}
use Rattle.ec_store.specs.Records.{Record, Records, changed, empty, headed, kept, named, over, replaced, with_bytes, with_head, with_length, wrote}
use Rattle.ec_wire.specs.declared.reply.Reply.{Reply}
use Rattle.ec_wire.specs.declared.reply.Reply.TheVariants.{Child as ChildIs, Chunks, Head as HeadIs}
use Rattle.ec_wire.specs.declared.request.Request.{Request}
use Rattle.ec_wire.specs.declared.request.Request.TheVariants.{Ask, Release, Query, PreOp, ReadChunks, WriteChunks, SetLength, PostOp, Clear, NameGet, NamesAfter, NameSet, NamesPut, Make, Made, Unmake, Mark, Unmark, GfidsAfter}
use Rattle.ec_brick.specs.Known.{AreKnown, IsKnown, IsKnownAt}
use Rattle.ec_brick.specs.Replies.{Is, Replies, RepliesChunks, Says, ShowsChunks, ShowsGfids, ShowsNames, gfids_of, of_record, own_of}
use Rattle.ec_brick.specs.Work.{broken_of, bytes_of, committed, new_head, unmarked, unset, unset_at, with_head_by, with_unset, work_of}
use Rattle.ec_brick.proofs.Known.{changed_known, put_known, reach_most, same_dirty}
use Rattle.ec_brick.proofs.Sets.{same_set}
use Rattle.ec_attr.specs.Head.{with_dirty}

-- the same change of two records
both : (m r : Records) (g : ℕ) (f : Record → Record) → ((a b : Record) → IsKnown a b → IsKnown (f a) (f b)) → AreKnown m r → AreKnown (changed m g f) (changed r g f)
both m r g f keeps k = changed_known m r g f f keeps k

head_by : (m r : Records) (g : ℕ) (f : Head → Head) → AreKnown m r → AreKnown (with_head_by m g f) (with_head_by r g f)
head_by m r g f k = both m r g (λ r. record r { head = f r.head }) (λ a b h. record { same_head = ap f h.same_head; same_names = h.same_names; bytes = h.bytes; least = h.least; most = h.most }) k

headed_at : (o p : Option Record) (h : Head) → IsKnownAt o p → IsKnownAt (Some (headed o h)) (Some (headed p h))
headed_at None p h k = subst (λ x. IsKnownAt (Some (empty h)) (Some (headed x h))) (sym k) (_, refl, record { same_head = refl; same_names = refl; bytes = λ s i v e. e; least = omega arith; most = omega arith })
headed_at (Some m) p h k = subst (λ x. IsKnownAt (Some (record m { head = h })) (Some (headed x h))) (sym k.1) (_, refl, record { same_head = refl; same_names = k.2.same_names; bytes = k.2.bytes; least = k.2.least; most = k.2.most })

head_put : (m r : Records) (g : ℕ) (h : Head) → AreKnown m r → AreKnown (with_head m g h) (with_head r g h)
head_put m r g h k = put_known m r g _ _ k (headed_at (m g) (r g) h (k g))

names_by : (m r : Records) (g : ℕ) (f : (List ℕ → Option Child) → List ℕ → Option Child) → AreKnown m r → AreKnown (changed m g (λ r. record r { names = f r.names })) (changed r g (λ r. record r { names = f r.names }))
names_by m r g f k = both m r g (λ r. record r { names = f r.names }) (λ a b h. record { same_head = h.same_head; same_names = ap f h.same_names; bytes = h.bytes; least = h.least; most = h.most }) k

over_byte : (x y : ℕ → ℕ → Option ℕ) (at : ℕ) (bytes : List ℕ) (s i v : ℕ) → (x s i ≡ Some v → y s i ≡ Some v) → over x at bytes s i ≡ Some v → over y at bytes s i ≡ Some v
over_byte x y at bytes s i v k e = grind (arith, nat_tests)

unset_byte : (x y : ℕ → ℕ → Option ℕ) (at count s i v : ℕ) → (x s i ≡ Some v → y s i ≡ Some v) → unset x at count s i ≡ Some v → unset y at count s i ≡ Some v
unset_byte x y at count s i v k e = grind (arith, nat_tests)

kept_byte : (x y : ℕ → ℕ → Option ℕ) (keep count s i v : ℕ) → (x s i ≡ Some v → y s i ≡ Some v) → kept x keep count s i ≡ Some v → kept y keep count s i ≡ Some v
kept_byte x y keep count s i v k e = grind (arith, nat_tests)

pub wrote_known : (m r : Records) (g at : ℕ) (bytes : List ℕ) → AreKnown m r → AreKnown (wrote m g at bytes) (wrote r g at bytes)
wrote_known m r g at bytes k = both m r g (λ r. with_bytes r at bytes) (λ a b h. record { same_head = h.same_head; same_names = h.same_names; bytes = λ s i v e. over_byte a.piece b.piece at bytes s i v (h.bytes s i v) e; least = reach_most b.shortest a.shortest at _ _ h.least (omega arith); most = reach_most a.longest b.longest at _ _ h.most (omega arith) }) k

pub unset_known : (m r : Records) (g at count : ℕ) → AreKnown m r → AreKnown (unset_at m g at count) (unset_at r g at count)
unset_known m r g at count k = both m r g (λ r. with_unset r at count) (λ a b h. record { same_head = h.same_head; same_names = h.same_names; bytes = λ s i v e. unset_byte a.piece b.piece at count s i v (h.bytes s i v) e; least = h.least; most = reach_most a.longest b.longest at _ _ h.most (omega arith) }) k

sized_known : (m r : Records) (g keep count : ℕ) → AreKnown m r → AreKnown (changed m g (λ r. with_length r keep count)) (changed r g (λ r. with_length r keep count))
sized_known m r g keep count k = both m r g (λ r. with_length r keep count) (λ a b h. record { same_head = h.same_head; same_names = h.same_names; bytes = λ s i v e. kept_byte a.piece b.piece keep count s i v (h.bytes s i v) e; least = omega arith; most = omega arith }) k

-- the work of a request
pub work_known : (config : Config) (q : Request) (m r : Records) → AreKnown m r → AreKnown (work_of config q m) (work_of config q r)
work_known config (Ask g domain kind) m r k = k
work_known config (Release g n) m r k = k
work_known config (Query g n) m r k = k
work_known config (PreOp g n at dirty) m r k = head_by m r g.0 (with_dirty dirty) k
work_known config (ReadChunks g n first count) m r k = k
work_known config (WriteChunks g n first chunks) m r k = wrote_known m r g.0 (512 * first) (bytes_of chunks) k
work_known config (SetLength g n keep count) m r k = sized_known m r g.0 keep count k
work_known config (PostOp g n at version size attr) m r k = head_by m r g.0 (committed version size attr) k
work_known config (Clear g n at) m r k = head_by m r g.0 (with_dirty 0) k
work_known config (NameGet g n name) m r k = k
work_known config (NamesAfter g n after) m r k = k
work_known config (NameSet g n name child) m r k = names_by m r g.0 (λ names. named names name child) k
work_known config (NamesPut g n after upto list) m r k = names_by m r g.0 (λ names. replaced names after upto list) k
work_known config (Make g n child) m r k = head_put m r child.gfid.0 (new_head config child.kind) k
work_known config (Made g n child) m r k = head_by m r child.0 (with_dirty 0) k
work_known config (Unmake g n child) m r k = put_known m r child.0 None None k refl
work_known config (Mark g n heal head) m r k = head_put m r g.0 head k
work_known config (Unmark g n at dirty) m r k = head_by m r g.0 (unmarked dirty) k
work_known config (GfidsAfter after dirty) m r k = k

pub broken_known : (q : Request) (m r : Records) → AreKnown m r → AreKnown (broken_of q m) (broken_of q r)
broken_known (WriteChunks g n first chunks) m r k = unset_known m r g.0 (512 * first) (length (bytes_of chunks)) k
broken_known q m r k = k

is_there : (o p : Option Record) → IsKnownAt o p → is_some p ≡ is_some o
is_there None p k = ap is_some k
is_there (Some m) p k = ap is_some k.1

pub same_present : (m r : Records) (g : ℕ) → AreKnown m r → is_some (r g) ≡ is_some (m g)
same_present m r g k = is_there (m g) (r g) (k g)

-- a reply by a record
by_record : (o p : Option Record) (say : Record → Says) → ((a b : Record) → IsKnown a b → (reply : Option Reply) → Replies (say b) reply → Replies (say a) reply) → IsKnownAt o p → (reply : Option Reply) → Replies (of_record p say) reply → Replies (of_record o say) reply
by_record None p say keeps k reply e = subst (λ x. Replies (of_record x say) reply) k e
by_record (Some m) p say keeps k reply e = keeps m k.0 k.2 reply (subst (λ x. Replies (of_record x say) reply) k.1 e)

shows : (x y : ℕ → ℕ → Option ℕ) (first count : ℕ) → ((s i v : ℕ) → x s i ≡ Some v → y s i ≡ Some v) → (reply : Option Reply) → RepliesChunks y first count reply → RepliesChunks x first count reply
shows x y first count k (Some (Chunks list)) e = record { many = e.many; each = λ j i v few within is. e.each j i v few within (k _ i v is) }
shows x y first count k reply e = elim e [ ]

same_gfids : (m r : Records) (dirty : Bool) (g : ℕ) → AreKnown m r → gfids_of r dirty g ≡ gfids_of m dirty g
same_gfids m r true g k = same_dirty m r g k
same_gfids m r false g k = same_present m r g k

-- a request's own reply
pub own_known : (q : Request) (m r : Records) → AreKnown m r → (reply : Option Reply) → Replies (own_of q r) reply → Replies (own_of q m) reply
own_known (Query g n) m r k reply e = by_record (m g.0) (r g.0) (λ r. Is (HeadIs r.head)) (λ a b h y e. e ∙ ap (λ x. Some (HeadIs x)) h.same_head) (k g.0) reply e
own_known (ReadChunks g n first count) m r k reply e = by_record (m g.0) (r g.0) (λ r. ShowsChunks r.piece first count) (λ a b h y e. shows a.piece b.piece first count h.bytes y e) (k g.0) reply e
own_known (NameGet g n name) m r k reply e = by_record (m g.0) (r g.0) (λ r. Is (ChildIs (r.names name))) (λ a b h y e. e ∙ ap (λ (f : List ℕ → Option Child). Some (ChildIs (f name))) h.same_names) (k g.0) reply e
own_known (NamesAfter g n after) m r k reply e = by_record (m g.0) (r g.0) (λ r. ShowsNames after r.names) (λ a b h y e. subst (λ (f : List ℕ → Option Child). Replies (ShowsNames after f) y) h.same_names e) (k g.0) reply e
own_known (GfidsAfter after dirty) m r k reply e = subst (λ (s : ℕ → Bool). Replies (ShowsGfids after s) reply) (same_set (gfids_of r dirty) (gfids_of m dirty) (λ g. same_gfids m r dirty g k)) e
own_known q m r k reply e = e
