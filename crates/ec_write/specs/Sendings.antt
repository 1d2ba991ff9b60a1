-- What the stage that writes asks may be sent: each chunk is the code of one new stripe.
use Rattle.std.proofs.Common.{◌≡◌, ◌⊎◌, inl, inr, ⊎_elim, ℕ, zero, suc, ◌+◌, ◌-◌, ◌*◌, ◌<◌, ◌≤◌, ◌==◌, ◌&&◌, ◌||◌, not, nat_lt, nat_le, Bool, true, false, cond, refl, sym, ◌∙◌, ap, subst, List, [], ◌∷◌, ◌++◌, length, arith, Option, Some, None, eq-eqb}
use Rattle.std.specs.Prelude.{map, slice_index}
use Rattle.std.proofs.lemmas.Bool.{and_parts, cases_lt}
use Rattle.std.proofs.lemmas.Bool.Decides.{nat_tests}
use Rattle.ec_answers.specs.declared.grouped.Group.{Group}
use Rattle.ec_conduct.specs.Account.{Account, Exchange, Place, Wait, at, gfid_of}
use Rattle.ec_conduct.specs.Conduct.{MaySend}
use Rattle.ec_conduct.specs.Data.{AllCode, CodesAt, IsNewStripe, IsOld, changes_data, fresh_byte, requests_at, stays, stripe_byte, waited_at}
use Rattle.ec_conduct.specs.Done.{chunk_of, is_write, item_at, reply_to, is_query, tried}
use Rattle.ec_conduct.specs.Given.{bricks_of, quorum_of}
use Rattle.ec_conduct.specs.Group.{has}
use Rattle.ec_conduct.specs.Standing.{did_changes, head_of as told_head, holds}
use Rattle.ec_field.specs.Code.{IsCode, chunk_at}
use Rattle.ec_stripe.specs.Span.{stripe_bytes}
use Rattle.ec_wire.specs.declared.op.Op.{Op}
use Rattle.ec_wire.specs.declared.request.Request.{Request}
use Rattle.ec_wire.specs.declared.request.Request.TheVariants.{Ask, Release, Query, PreOp, ReadChunks, WriteChunks, SetLength, PostOp, Clear, NameGet, NamesAfter, NameSet, NamesPut, Make, Made, Unmake, Mark, Unmark, GfidsAfter}
use Rattle.ec_txn.specs.declared.ctx.Ctx.{Ctx}
use Rattle.ec_txn.specs.Ballot.{IsGroupAt}
use Rattle.ec_txn.specs.Rounds.{Asks, IsSent, IsSentTo, subject}
use Rattle.ec_txn.specs.Tables.{IsIn as IsAt}
use Rattle.ec_txn.proofs.Ballots.{group_stays, serving_is}
use Rattle.ec_txn.proofs.BallotSends.{holds_by}
use Rattle.ec_txn.proofs.Openings.{is_free}
use Rattle.ec_write.specs.During.{IsWritingAt}
use Rattle.ec_write.specs.Range.{count_stripes, data_of, first_stripe, head_of, kept_bytes, off_of, reach}
use Rattle.ec_write.specs.Stripes.{list_at, old_stripe}
use Rattle.ec_write.specs.Write.{IsWrite, write_request}
use Rattle.ec_write.specs.Bytes.{IsEdge, is_inside, new_is, place_is, stays_at_edge}
use Rattle.ec_write.specs.Olds.{old_stays}
use Rattle.ec_write.specs.Windows.{data_same}
use Rattle.ec_write.specs.Writings.{of_write, wide, writing_data}

-- no chunk but by a write
unwritten_chunk : (s : ℕ) (r : Request) → is_write r ≡ false → chunk_of s r ≡ None
unwritten_chunk s (WriteChunks g grant first chunks) e = absurd (cc)
unwritten_chunk s (ReadChunks g grant first count) e = refl
unwritten_chunk s (Ask g domain kind) e = refl
unwritten_chunk s (Release g grant) e = refl
unwritten_chunk s (Query g grant) e = refl
unwritten_chunk s (PreOp g grant version dirty) e = refl
unwritten_chunk s (SetLength g grant keep len) e = refl
unwritten_chunk s (PostOp g grant old new size attr) e = refl
unwritten_chunk s (Clear g grant version) e = refl
unwritten_chunk s (NameGet g grant name) e = refl
unwritten_chunk s (NamesAfter g grant after) e = refl
unwritten_chunk s (NameSet g grant name child) e = refl
unwritten_chunk s (NamesPut g grant after upto list) e = refl
unwritten_chunk s (Make g grant child) e = refl
unwritten_chunk s (Made g grant child) e = refl
unwritten_chunk s (Unmake g grant child) e = refl
unwritten_chunk s (Mark g grant heal head) e = refl
unwritten_chunk s (Unmark g grant version dirty) e = refl
unwritten_chunk s (GfidsAfter after dirty) e = refl

or_parts : (a b : Bool) → (a || b) ≡ false → (a ≡ false) × (b ≡ false)
or_parts true b e = absurd (cc)
or_parts false b e = (refl, e)

unwritten_codes : (d : Account) (y s : ℕ) (stripe : List (List ℕ)) (es : List Exchange) → tried is_write es ≡ false → AllCode d y stripe s (map (λ (e : Exchange). e.request) es)
unwritten_codes d y s stripe [] t = tt
unwritten_codes d y s stripe (e ∷ es) t =
    let w = or_parts (is_write e.request) (tried is_write es) t in
    (subst (CodesAt d y stripe) (sym (unwritten_chunk s e.request w.0)) tt, unwritten_codes d y s stripe es w.1)

codes_joined : (d : Account) (y s : ℕ) (stripe : List (List ℕ)) (xs ys : List Request) → AllCode d y stripe s xs → AllCode d y stripe s ys → AllCode d y stripe s (xs ++ ys)
codes_joined d y s stripe [] ys a b = b
codes_joined d y s stripe (x ∷ xs) ys a b = (a.0, codes_joined d y s stripe xs ys a.1 b)

item_there : (first j : ℕ) (chunks : List (List ℕ)) → j < length chunks → item_at first chunks (first + j) ≡ Some (chunk_at chunks j)
item_there first j chunks l =
    let a : nat_le first (first + j) ≡ true = grind (arith, nat_tests) in
    let b : nat_lt (first + j) (first + length chunks) ≡ true = grind (arith, nat_tests) in
    let z : first + j - first ≡ j = omega arith in
    rw (a, b, z) refl

-- the request that a brick is waited for with codes the stripe
waited_codes : (d : Account) (y g first j i version : ℕ) (stripe chunks : List (List ℕ)) (w : Wait) → w.request ≡ write_request g first chunks i version → j < length chunks
    → IsCode (quorum_of d.given) d.given.geometry.algorithm y stripe (chunk_at chunks j) → AllCode d y stripe (first + j) (waited_at g (Some w))
waited_codes d y g first j i version stripe chunks w is l code =
    let here : CodesAt d y stripe (chunk_of (first + j) (write_request g first chunks i version)) = subst (CodesAt d y stripe) (sym (item_there first j chunks l)) code in
    let t : (g == g) ≡ true = eq-eqb g g refl in
    subst (λ (r : Request). AllCode d y stripe (first + j) (cond (has (λ (h : ℕ). h == g) (gfid_of r)) (r ∷ []) [])) (sym is)
    (subst (λ (b : Bool). AllCode d y stripe (first + j) (cond b (write_request g first chunks i version ∷ []) [])) (sym t) (here, tt))

-- what the conduct says of the bytes of a write

stays_is : (op : Op) → IsWrite op → (size place : ℕ) → stays op size place ≡ (nat_lt place size && not (is_inside (off_of op) (length (data_of op)) place))
stays_is op i size place = of_write (λ (o : Op). stays o size place ≡ (nat_lt place size && not (is_inside (off_of o) (length (data_of o)) place))) op i (λ g off bytes. refl)

fresh_is : (op : Op) → IsWrite op → (place : ℕ) → fresh_byte op place ≡ cond (is_inside (off_of op) (length (data_of op)) place) (slice_index (data_of op) (place - off_of op)) 0
fresh_is op i place = of_write (λ (o : Op). fresh_byte o place ≡ cond (is_inside (off_of o) (length (data_of o)) place) (slice_index (data_of o) (place - off_of o)) 0) op i (λ g off bytes. refl)

changes_it : (op : Op) → IsWrite op → changes_data op (subject op) ≡ true
changes_it op i = of_write (λ (o : Op). changes_data o (subject o) ≡ true) op i (λ g off bytes. eq-eqb g.0 g.0 refl)

-- What a call makes of a file of `old` bytes: those of a range, and zeros past `size`; all others stay.
pub record Fills (op : Op) (old off : ℕ) (bytes : List ℕ) (size : ℕ) : Type 0 where
  pub changes : changes_data op (subject op) ≡ true
  pub stays_is : (place : ℕ) → stays op old place ≡ (nat_lt place size && not (is_inside off (length bytes) place))
  pub fresh_is : (place : ℕ) → fresh_byte op place ≡ cond (is_inside off (length bytes) place) (slice_index bytes (place - off)) 0

pub write_fills : (op : Op) → IsWrite op → (size : ℕ) → Fills op size (off_of op) (data_of op) size
write_fills op i size = record { changes = changes_it op i; stays_is = stays_is op i size; fresh_is = fresh_is op i }

not_false : (b : Bool) → not b ≡ true → b ≡ false
not_false true e = absurd (cc)
not_false false e = refl

outside : (off len place : ℕ) → is_inside off len place ≡ false → (place < off) ⊎ (off + len ≤ place)
outside off len place e = elim (cases_lt place off) [
  | inl l ↦ inl l
  | inr l ↦ elim (cases_lt place (off + len)) [
    | inl m ↦ absurd (let a : nat_le off place ≡ true = grind (arith, nat_tests) in let b : nat_lt place (off + len) ≡ true = grind (arith, nat_tests) in let t : is_inside off len place ≡ true = (rw (a, b) refl) in let z : true ≡ false = sym t ∙ e in cc)
    | inr m ↦ inr m
  ]
]

-- a stripe with a byte that stays is one that is read
edge_of : (k off len size i p : ℕ) → 0 < stripe_bytes k → p < stripe_bytes k → i < count_stripes k off len
    → (nat_lt (stripe_bytes k * (first_stripe k off + i) + p) size && not (is_inside off len (stripe_bytes k * (first_stripe k off + i) + p))) ≡ true → IsEdge k off len size i
edge_of k off len size i p pos l less e =
    let place : ℕ = stripe_bytes k * (first_stripe k off + i) + p in
    let w = and_parts (nat_lt (stripe_bytes k * (first_stripe k off + i) + p) size) (not (is_inside off len (stripe_bytes k * (first_stripe k off + i) + p))) e in
    let below : stripe_bytes k * (first_stripe k off + i) + p < size = (let t = w.0 in grind (arith, nat_tests)) in
    let is : stripe_bytes k * (first_stripe k off + i) + p ≡ stripe_bytes k * first_stripe k off + (stripe_bytes k * i + p) = place_is k off [] size i p pos in
    let parts : stripe_bytes k * first_stripe k off + head_of k off ≡ off = Rattle.std.proofs.Math.Nat.div-add-mod off (stripe_bytes k) in
    let kept : stripe_bytes k * i + p < kept_bytes k off size = omega (arith, below, is) in
    let side : (stripe_bytes k * i + p < head_of k off) ⊎ (reach k off len ≤ stripe_bytes k * i + p) = ⊎_elim (λ z. inl (omega (arith, z, is, parts))) (λ z. inr (omega (arith, z, is, parts))) (outside off len (stripe_bytes k * (first_stripe k off + i) + p) (not_false (is_inside off len (stripe_bytes k * (first_stripe k off + i) + p)) w.1)) in
    stays_at_edge k off len size i p pos l less kept side

old_back : (front back : List (List ℕ)) (i : ℕ) → 0 < i → old_stripe front back i ≡ back
old_back front back zero l = absurd (omega (arith, l))
old_back front back (suc i) l = refl

module _ (x : Ctx) (group : Group) (off : ℕ) (content : List ℕ) (size : ℕ) (lists : List (List (List ℕ))) (c : Account) (f h : Asks) (d : Account) (a : IsAt x d.given c) (l : IsWritingAt d.given c group off content size lists f) (fills : Fills d.given.op group.head.size off content size) (s : IsSent (subject d.given.op) c h d)
    (part : (y : ℕ) (r : Request) → h y ≡ Some r → f y ≡ Some r) where
  -- what is over is the same all through the round
  same : (y : ℕ) → at d (subject d.given.op) y ≡ at c (subject d.given.op) y
  same = data_same (subject d.given.op) c f h d (writing_data d.given group off content size lists c f l) s part

  group_here : IsGroupAt d (subject d.given.op) group
  group_here = group_stays c d (subject d.given.op) group s.given (λ y. ap (λ (p : Place). told_head (reply_to is_query p.window)) (same y)) l.between.group_is

  old_here : (t : ℕ) (stripe : List (List ℕ)) → IsOld c (subject d.given.op) t group.head stripe → IsOld d (subject d.given.op) t group.head stripe
  old_here t stripe o = old_stays (subject d.given.op) t group.head stripe c d s.given (λ y. inl (ap (λ (p : Place). p.window) (same y))) o

  all_code : (i : ℕ) → i < count_stripes (quorum_of d.given) off (length content) → (y : ℕ) → y < bricks_of d.given → AllCode d y (l.coded.stripe i) (first_stripe (quorum_of d.given) off + i) (requests_at d (subject d.given.op) y)
  all_code i less y below =
      codes_joined d y (first_stripe (quorum_of d.given) off + i) (l.coded.stripe i) (waited_at (subject d.given.op) (d.waits y)) (map (λ (e : Exchange). e.request) (at d (subject d.given.op) y).window)
      (go (h y) refl (s.each y))
      (unwritten_codes d y (first_stripe (quorum_of d.given) off + i) (l.coded.stripe i) (at d (subject d.given.op) y).window (ap (λ (p : Place). tried is_write p.window) (same y) ∙ l.between.unwritten y))
    where
      go : (o : Option Request) → h y ≡ o → IsSentTo o (at c (subject d.given.op) y) (d.waits y) (at d (subject d.given.op) y) → AllCode d y (l.coded.stripe i) (first_stripe (quorum_of d.given) off + i) (waited_at (subject d.given.op) (d.waits y))
      go None e t = subst (λ (w : Option Wait). AllCode d y (l.coded.stripe i) (first_stripe (quorum_of d.given) off + i) (waited_at (subject d.given.op) w)) (sym t.0) tt
      go (Some r) e t =
          let w = l.changing.asks y r (part y r e) in
          let n : length (list_at lists y) ≡ count_stripes (quorum_of d.given) off (length content) = l.coded.len y below in
          subst (λ (z : Option Wait). AllCode d y (l.coded.stripe i) (first_stripe (quorum_of d.given) off + i) (waited_at (subject d.given.op) z)) (sym t.1)
          (waited_codes d y (subject d.given.op) (first_stripe (quorum_of d.given) off) i w.1 w.2 (l.coded.stripe i) (list_at lists y) (record { number = t.0; request = r }) w.5 (omega (arith, n, less)) (l.coded.codes y i below less))

  known : (i p : ℕ) → i < count_stripes (quorum_of d.given) off (length content) → p < stripe_bytes (quorum_of d.given) → stays d.given.op group.head.size (stripe_bytes (quorum_of d.given) * (first_stripe (quorum_of d.given) off + i) + p) ≡ true
      → IsOld d (subject d.given.op) (first_stripe (quorum_of d.given) off + i) group.head (old_stripe l.front l.back i)
  known i p less below e =
      let k : ℕ = quorum_of d.given in
      let pos : 0 < stripe_bytes (quorum_of d.given) = (let z = wide d.given in omega (arith, z)) in
      let edge : IsEdge (quorum_of d.given) off (length content) size i = edge_of (quorum_of d.given) off (length content) size i p pos below less
      (sym (fills.stays_is (stripe_bytes (quorum_of d.given) * (first_stripe (quorum_of d.given) off + i) + p)) ∙ e) in
      ⊎_elim
      (λ z.
      let o : IsOld d (subject d.given.op) (first_stripe (quorum_of d.given) off) group.head l.front = old_here (first_stripe (quorum_of d.given) off) l.front (l.knows_first z.1) in
      let t : first_stripe (quorum_of d.given) off ≡ first_stripe (quorum_of d.given) off + i = (let q = z.0 in omega (arith, q)) in
      subst (λ (n : ℕ). IsOld d (subject d.given.op) n group.head (old_stripe l.front l.back i)) t (subst (λ (n : ℕ). IsOld d (subject d.given.op) (first_stripe (quorum_of d.given) off) group.head (old_stripe l.front l.back n)) (sym z.0) o))
      (λ z.
      let o : IsOld d (subject d.given.op) (first_stripe (quorum_of d.given) off + (count_stripes (quorum_of d.given) off (length content) - 1)) group.head l.back = old_here (first_stripe (quorum_of d.given) off + (count_stripes (quorum_of d.given) off (length content) - 1)) l.back (l.knows_last z.2) in
      let t : first_stripe (quorum_of d.given) off + (count_stripes (quorum_of d.given) off (length content) - 1) ≡ first_stripe (quorum_of d.given) off + i = (let q = z.1 in ap (λ (n : ℕ). first_stripe (quorum_of d.given) off + n) (sym q)) in
      subst (λ (n : ℕ). IsOld d (subject d.given.op) n group.head (old_stripe l.front l.back i)) t (subst (λ (st : List (List ℕ)). IsOld d (subject d.given.op) (first_stripe (quorum_of d.given) off + (count_stripes (quorum_of d.given) off (length content) - 1)) group.head st) (sym (old_back l.front l.back i z.0)) o))
      edge

  new_stripe : (i : ℕ) → i < count_stripes (quorum_of d.given) off (length content) → IsNewStripe d (subject d.given.op) (first_stripe (quorum_of d.given) off + i) group.head (l.coded.stripe i)
  new_stripe i less = record {
    stripe_is = l.coded.stripe_is i less;
    old = old_stripe l.front l.back i;
    known = λ p below e. known i p less below e;
    bytes = λ p below.
        (let pos : 0 < stripe_bytes (quorum_of d.given) = (let z = wide d.given in omega (arith, z)) in
        let place : ℕ = stripe_bytes (quorum_of d.given) * (first_stripe (quorum_of d.given) off + i) + p in
        l.coded.bytes_are i p less below
        ∙ (new_is (quorum_of d.given) off content size i p pos (stripe_byte (old_stripe l.front l.back i) p)
        ∙ sym (λ j. cond (fills.stays_is (stripe_bytes (quorum_of d.given) * (first_stripe (quorum_of d.given) off + i) + p) j) (stripe_byte (old_stripe l.front l.back i) p) (fills.fresh_is (stripe_bytes (quorum_of d.given) * (first_stripe (quorum_of d.given) off + i) + p) j))));
    one = all_code i less;
  }

  pub write_may : (b : ℕ) (r : Request) → f b ≡ Some r → h b ≡ None → MaySend d b r
  write_may b r e n =
      let w = l.changing.asks b r e in
      let g : ℕ = subject d.given.op in
      let len : length (list_at lists b) ≡ count_stripes (quorum_of d.given) off (length content) = l.coded.len b w.0 in
      let ready = l.between.readied b w.1 w.2 w.0 w.3 w.4 in
      subst (λ (q : Request). MaySend d b q) (sym w.5) (
        is_free x d.given b c d h a s n w.0,
        inl (record {
          change = record {
            grant_held = ap (λ (p : Place). holds p.inode w.1) (same b) ∙ holds_by (at c (subject d.given.op) b).inode w.1 (serving_is (at c (subject d.given.op) b) w.1 w.3).1;
            ready = ap did_changes (same b) ∙ ready.done;
          };
          op = fills.changes;
          head = group.head;
          group = group_here.head;
          codes = λ j m.
              (let less : j < count_stripes (quorum_of d.given) off (length content) = omega (arith, len, m) in
              record { stripe = l.coded.stripe j; of = new_stripe j less; code = l.coded.codes b j w.0 less });
        }),
      )
