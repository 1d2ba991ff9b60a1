-- A round: what it sends may be sent, and what comes of it.
use Rattle.std.proofs.Common.{◌≡◌, ◌⊎◌, inl, inr, ⊎_elim, ℕ, zero, suc, ◌+◌, ◌<◌, ◌≤◌, ◌==◌, nat_lt, Bool, true, false, cond, refl, sym, ◌∙◌, ap, subst, List, [], ◌∷◌, ◌++◌, length, arith, Option, Some, None, eqb-true, eq-eqb, append-nil}
use Rattle.std.specs.Prelude.{map}
use Rattle.std.proofs.Math.Path.{fun_ext}
use Rattle.std.proofs.lemmas.Bool.{cases_Bool, cases_eq}
use Rattle.std.proofs.lemmas.Bool.Decides.{nat_tests}
use Rattle.ec_attr.specs.declared.kind.Domain.{Domain}
use Rattle.ec_attr.specs.declared.kind.Domain.TheVariants.{Inode, Heal}
use Rattle.ec_conduct.specs.Account.{Account, Dealings, Exchange, Lock, Place, Wait, at, filed, gave_up, gfid_of, inserted, noted, over, sent, told, with_dealings, with_place}
use Rattle.ec_conduct.specs.Conduct.{MaySend}
use Rattle.ec_conduct.specs.Done.{is_lock, is_pre, is_query}
use Rattle.ec_conduct.specs.Given.{bricks_of}
use Rattle.ec_conduct.specs.Table.{Send, sent_all, to_bricks}
use Rattle.ec_store.specs.Put.{put}
use Rattle.ec_wire.specs.declared.reply.Reply.{Reply}
use Rattle.ec_wire.specs.declared.request.Request.{Request}
use Rattle.ec_wire.specs.declared.request.Request.TheVariants.{Ask, Release, Query, PreOp, ReadChunks, WriteChunks, SetLength, PostOp, Clear, NameGet, NamesAfter, NameSet, NamesPut, Make, Made, Unmake, Mark, Unmark, GfidsAfter}
use Rattle.ec_txn.specs.Rounds.{AllGood, Asks, IsGood, IsIdle, IsIn, IsListed, IsOn, IsReady, IsRound, IsSent, IsSentTo, asked_place, dirty_of, is_plain, one, round}
use Rattle.ec_txn.proofs.Lists.{sent_append}
use Rattle.ec_txn.proofs.Sending.{SendDoes, SendKeeps, on_at, places, put_at, put_other, send_does, send_keeps}

-- a lock alone changes the place as it is asked for
asked_same : (p : Place) (i : ℕ) (r : Request) → is_lock r ≡ false → asked_place p i r ≡ p
asked_same p i (Ask g Inode kind) e = absurd (cc)
asked_same p i (Ask g Heal kind) e = refl
asked_same p i (Release g grant) e = refl
asked_same p i (Query g grant) e = refl
asked_same p i (PreOp g grant version dirty) e = refl
asked_same p i (ReadChunks g grant first count) e = refl
asked_same p i (WriteChunks g grant first chunks) e = refl
asked_same p i (SetLength g grant keep len) e = refl
asked_same p i (PostOp g grant old new size attr) e = refl
asked_same p i (Clear g grant version) e = refl
asked_same p i (NameGet g grant name) e = refl
asked_same p i (NamesAfter g grant after) e = refl
asked_same p i (NameSet g grant name child) e = refl
asked_same p i (NamesPut g grant after upto list) e = refl
asked_same p i (Make g grant child) e = refl
asked_same p i (Made g grant child) e = refl
asked_same p i (Unmake g grant child) e = refl
asked_same p i (Mark g grant heal head) e = refl
asked_same p i (Unmark g grant version dirty) e = refl
asked_same p i (GfidsAfter after dirty) e = refl

pub asked_heal : (p : Place) (i : ℕ) (r : Request) → (asked_place p i r).heal ≡ p.heal
asked_heal p i (Ask g Inode kind) = refl
asked_heal p i (Ask g Heal kind) = refl
asked_heal p i (Release g grant) = refl
asked_heal p i (Query g grant) = refl
asked_heal p i (PreOp g grant version dirty) = refl
asked_heal p i (ReadChunks g grant first count) = refl
asked_heal p i (WriteChunks g grant first chunks) = refl
asked_heal p i (SetLength g grant keep len) = refl
asked_heal p i (PostOp g grant old new size attr) = refl
asked_heal p i (Clear g grant version) = refl
asked_heal p i (NameGet g grant name) = refl
asked_heal p i (NamesAfter g grant after) = refl
asked_heal p i (NameSet g grant name child) = refl
asked_heal p i (NamesPut g grant after upto list) = refl
asked_heal p i (Make g grant child) = refl
asked_heal p i (Made g grant child) = refl
asked_heal p i (Unmake g grant child) = refl
asked_heal p i (Mark g grant heal head) = refl
asked_heal p i (Unmark g grant version dirty) = refl
asked_heal p i (GfidsAfter after dirty) = refl

-- a fact at each place of a function that is changed at one
pub each_put : {X : Type 0} (P : ℕ → X → Type 0) (f : ℕ → X) (b : ℕ) (x : X) → P b x → ((y : ℕ) → (y ≡ b → ⊥) → P y (f y)) → (y : ℕ) → P y (put f b x y)
each_put P f b x here there y = elim (cases_Bool (y == b)) [
  | inl t ↦ let e : y ≡ b = eqb-true y b t in subst (λ z. P z (put f b x z)) (sym e) (subst (P b) (sym (put_at f b x)) here)
  | inr n ↦ let ne : y ≡ b → ⊥ = λ (e : y ≡ b). (let w : (y == b) ≡ true = eq-eqb y b e in absurd (cc)) in subst (P y) (sym (put_other f b y x ne)) (there y ne)
]

inserted_one : (g : ℕ) (gs : List ℕ) → (gs ≡ g ∷ []) ⊎ (gs ≡ []) → inserted g gs ≡ g ∷ []
inserted_one g gs (inl e) = rw e (let u : nat_lt g g ≡ false = grind (arith, nat_tests) in let v : (g == g) ≡ true = eq-eqb g g refl in rw (u, v) refl)
inserted_one g gs (inr e) = rw e refl

pub none_some : {A : Type 0} (x : A) → None ≡ Some x → ⊥
none_some x e = cc

pub listed : (g b i : ℕ) (c d : Account) (r : Request) → SendDoes c d g b i r → IsListed g c → IsListed g d
listed g b i c d r s l = elim (cases_Bool (is_lock r)) [
  | inl t ↦ inl (s.gfids.0 t ∙ inserted_one g c.gfids (⊎_elim (λ e. inl e) (λ p. inr p.0) l))
  | inr f ↦ ⊎_elim (λ e. inl (s.gfids.1 f ∙ e)) (λ p. inr (s.gfids.1 f ∙ p.0, λ x. ap (λ (q : Place). q.inode) (s.place x) ∙ each_put (λ (y : ℕ) (q : Place). q.inode ≡ None) (places c g) b (asked_place (at c g b) i r) (ap (λ (q : Place). q.inode) (asked_same (at c g b) i r f) ∙ p.1 b) (λ y n. p.1 y) x)) l
]

-- one send more of a round
pub send_more : (g i b : ℕ) (c d : Account) (h : Asks) (r : Request) → IsSent g c h d → h b ≡ None → gfid_of r ≡ Some g → is_plain r ≡ true → (is_lock r ≡ true → (d.on g).queried ≡ None) → IsSent g c (put h b (Some r)) (sent d b i r)
send_more g i b c d h r s n of p q =
    let k = send_keeps d b i r p in
    let t = send_does d g b i r of p q in
    let here : at d g b ≡ at c g b = (subst (λ (o : Option Request). IsSentTo o (at c g b) (d.waits b) (at d g b)) n (s.each b)).1 in
    let apart : (x : ℕ) (v : Request) → h x ≡ Some v → x ≡ b → ⊥ = λ (x : ℕ) (v : Request) (e : h x ≡ Some v) (u : x ≡ b). none_some v (sym n ∙ (sym (ap h u) ∙ e)) in
    let old : (x : ℕ) (v : Request) → h x ≡ Some v → put h b (Some r) x ≡ Some v = λ (x : ℕ) (v : Request) (e : h x ≡ Some v). put_other h b x (Some r) (apart x v e) ∙ e in
    record {
      given = k.given ∙ s.given;
      unanswered = k.answer ∙ s.unanswered;
      heal = λ x. ap (λ (z : Place). z.heal) (t.place x) ∙ each_put (λ (y : ℕ) (z : Place). z.heal ≡ (at c g y).heal) (places d g) b (asked_place (at d g b) i r) (asked_heal (at d g b) i r ∙ s.heal b) (λ y ne. s.heal y) x;
      gfids = listed g b i d (sent d b i r) r t s.gfids;
      queried = elim (cases_Bool (is_query r)) [
        | inl u ↦ inr (t.queried.0 u ∙ ap (λ (z : ℕ). Some z) (sym k.steps))
        | inr u ↦ ⊎_elim (λ e. inl (t.queried.1 u ∙ e)) (λ e. inr (t.queried.1 u ∙ (e ∙ ap (λ (z : ℕ). Some z) (sym k.steps)))) s.queried
      ];
      unqueried = λ none. t.queried.1 (none b r (put_at h b (Some r))) ∙ s.unqueried (λ x v e. none x v (old x v e));
      clean = λ none. t.clean (none b r (put_at h b (Some r))) ∙ s.clean (λ x v e. none x v (old x v e));
      dirty = ⊎_elim
          (λ e. ⊎_elim (λ f. inl (e ∙ f)) (λ f. inr (f.0, f.1, old f.0 f.1 f.2, f.3 ∙ sym e)) s.dirty)
          (λ e. inr (b, r, put_at h b (Some r), e)) t.dirty;
      each = λ x. subst (λ (w : ℕ → Option Wait). IsSentTo (put h b (Some r) x) (at c g x) (w x) (at (sent d b i r) g x)) (sym k.waits)
          (subst (λ (z : Place). IsSentTo (put h b (Some r) x) (at c g x) (put d.waits b (Some (record { number = i; request = r })) x) z) (sym (t.place x))
          (elim (cases_Bool (x == b)) [
            | inl u ↦ let e : x ≡ b = eqb-true x b u in subst (λ (y : ℕ). IsSentTo (put h b (Some r) y) (at c g y) (put d.waits b (Some (record { number = i; request = r })) y) (put (places d g) b (asked_place (at d g b) i r) y)) (sym e)
                (subst (λ (o : Option Request). IsSentTo o (at c g b) (put d.waits b (Some (record { number = i; request = r })) b) (put (places d g) b (asked_place (at d g b) i r) b)) (sym (put_at h b (Some r)))
                (i, put_at d.waits b (Some (record { number = i; request = r })), put_at (places d g) b (asked_place (at d g b) i r) ∙ ap (λ (z : Place). asked_place z i r) here))
            | inr u ↦ rw u (s.each x)
          ]));
    }

-- those of the first m bricks
abbrev pub first_of : ℕ → Asks → Asks
first_of m f x = cond (nat_lt x m) (f x) None

pub first_more : (m : ℕ) (f : Asks) (r : Request) → f m ≡ Some r → first_of (suc m) f ≡ put (first_of m f) m (Some r)
first_more m f r e = fun_ext (λ x. elim (cases_eq x m) [
  | inl u ↦ let a : nat_lt x (suc m) ≡ true = grind (arith, nat_tests) in let b : (x == m) ≡ true = eq-eqb x m u in rw (a, b) (ap f u ∙ e)
  | inr u ↦ let b : (x == m) ≡ false = grind (arith, nat_tests) in let a : nat_lt x (suc m) ≡ nat_lt x m = grind (arith, nat_tests) in rw (a, b) refl
])

pub first_less : (m : ℕ) (f : Asks) → f m ≡ None → first_of (suc m) f ≡ first_of m f
first_less m f e = fun_ext (λ x. elim (cases_eq x m) [
  | inl u ↦ let a : nat_lt x (suc m) ≡ true = grind (arith, nat_tests) in let b : nat_lt x m ≡ false = grind (arith, nat_tests) in rw (a, b) (ap f u ∙ e)
  | inr u ↦ let a : nat_lt x (suc m) ≡ nat_lt x m = grind (arith, nat_tests) in rw a refl
])

pub first_all : (n : ℕ) (f : Asks) → ((x : ℕ) (r : Request) → f x ≡ Some r → x < n) → first_of n f ≡ f
first_all n f l = fun_ext (λ x. go x (f x) refl)
  where
    go : (x : ℕ) (o : Option Request) → f x ≡ o → first_of n f x ≡ f x
    go x None e = elim (cases_Bool (nat_lt x n)) [ inl t ↦ rw t refl | inr t ↦ rw t (sym e) ]
    go x (Some r) e = let u = l x r e in let t : nat_lt x n ≡ true = grind (arith, nat_tests) in rw t refl

pub part_of : (m : ℕ) (f : Asks) (x : ℕ) (r : Request) → first_of m f x ≡ Some r → f x ≡ Some r
part_of m f x r e = elim (cases_Bool (nat_lt x m)) [ inl t ↦ rw t at e | inr t ↦ absurd (none_some r (rw t at e)) ]

pub first_here : (m : ℕ) (f : Asks) → first_of m f m ≡ None
first_here m f = let t : nat_lt m m ≡ false = grind (arith, nat_tests) in rw t refl

pub sent_none : (g : ℕ) (c : Account) (f : Asks) → IsReady g c → IsSent g c (first_of 0 f) c
sent_none g c f r = record { given = refl; unanswered = refl; heal = λ x. refl; gfids = r.gfids; queried = inl refl; unqueried = λ none. refl; clean = λ none. refl; dirty = inl refl; each = λ x. let t : nat_lt x 0 ≡ false = grind (arith, nat_tests) in rw t (r.idle x, refl) }

-- what the first m bricks are sent
pub record RoundTo (g i m : ℕ) (c : Account) (f : Asks) : Type 0 where
  pub sent : IsSent g c (first_of m f) (sent_all c i (round m f))
  pub good : AllGood g c i (round m f)

pub good_append : (g : ℕ) (c : Account) (i : ℕ) (xs ys : List Send) → AllGood g c i xs → AllGood g (sent_all c i xs) (i + length xs) ys → AllGood g c i (xs ++ ys)
good_append g c i [] ys m n = let e : i + length {A = Send} [] ≡ i = omega arith in rw e at n
good_append g c i (x ∷ xs) ys m n =
    let e : i + length (x ∷ xs) ≡ (i + 1) + length xs = omega arith in
    (m.0, good_append g (sent c x.0 i x.1) (i + 1) xs ys m.1 (rw e at n))

-- what a round asks may be sent in the midst of the round
abbrev pub MayBeSent : ℕ → Account → Asks → Type 0
MayBeSent g c f = (h : Asks) (d : Account) → IsSent g c h d → ((x : ℕ) (r : Request) → h x ≡ Some r → f x ≡ Some r) → (b : ℕ) (r : Request) → f b ≡ Some r → h b ≡ None → MaySend d b r

pub round_to : (g i m : ℕ) (c : Account) (f : Asks) → IsReady g c → IsOn g (bricks_of c.given) (c.on g).queried f → MayBeSent g c f → m ≤ bricks_of c.given → RoundTo g i m c f
round_to g i zero c f ready on may l = record { sent = sent_none g c f ready; good = tt }
round_to g i (suc m) c f ready on may l = go (f m) refl (round_to g i m c f ready on may (omega arith))
  where
    go : (o : Option Request) → f m ≡ o → RoundTo g i m c f → RoundTo g i (suc m) c f
    go None e w =
        let same : round (suc m) f ≡ round m f = ap (λ (o : Option Request). round m f ++ map (λ (r : Request). (m, r)) (one o)) e ∙ append-nil (round m f) in
        record {
          sent = subst (λ (ss : List Send). IsSent g c (first_of (suc m) f) (sent_all c i ss)) (sym same) (subst (λ (h : Asks). IsSent g c h (sent_all c i (round m f))) (sym (first_less m f e)) w.sent);
          good = subst (λ (ss : List Send). AllGood g c i ss) (sym same) w.good;
        }
    go (Some r) e w =
        let same : round (suc m) f ≡ round m f ++ (m, r) ∷ [] = ap (λ (o : Option Request). round m f ++ map (λ (s : Request). (m, s)) (one o)) e in
        let d = sent_all c i (round m f) in
        let j = i + length (round m f) in
        let first : is_lock r ≡ true → (d.on g).queried ≡ None = λ (t : is_lock r ≡ true). (let u = on.first m r e t in w.sent.unqueried (λ x s a. u.1 x s (part_of m f x s a)) ∙ u.0) in
        let ends : sent_all c i (round (suc m) f) ≡ sent d m j r = ap (λ (ss : List Send). sent_all c i ss) same ∙ sent_append c i (round m f) ((m, r) ∷ []) in
        record {
          sent = subst (λ (x : Account). IsSent g c (first_of (suc m) f) x) (sym ends) (subst (λ (h : Asks). IsSent g c h (sent d m j r)) (sym (first_more m f r e)) (send_more g j m c d (first_of m f) r w.sent (first_here m f) (on.of m r e) (on.plain m r e) first));
          good = subst (λ (ss : List Send). AllGood g c i ss) (sym same) (good_append g c i (round m f) ((m, r) ∷ []) w.good (
            record { may = may (first_of m f) d w.sent (part_of m f) m r e (first_here m f); below = subst (λ (x : ℕ). m < x) (sym (ap bricks_of w.sent.given)) (omega arith); fit = on.fit m r e; of = on.of m r e; plain = inl (on.plain m r e); first = first },
            tt,
          ));
        }

sent_in : (o : Option Request) (p : Place) (w : Option Wait) (q : Place) → IsSentTo o p w q → IsIn o p w q
sent_in None p w q s = s
sent_in (Some r) p w q s = inl s

pub round_of : (g i : ℕ) (c : Account) (f : Asks) → IsReady g c → IsOn g (bricks_of c.given) (c.on g).queried f → MayBeSent g c f → AllGood g c i (round (bricks_of c.given) f) × IsRound g c f (sent_all c i (round (bricks_of c.given) f))
round_of g i c f ready on may =
    let w = round_to g i (bricks_of c.given) c f ready on may (omega arith) in
    let s : IsSent g c f (sent_all c i (round (bricks_of c.given) f)) = subst (λ (h : Asks). IsSent g c h (sent_all c i (round (bricks_of c.given) f))) (first_all (bricks_of c.given) f on.below) w.sent in
    (w.good, record { given = s.given; unanswered = s.unanswered; heal = λ x. s.heal x ∙ ready.heal x; gfids = s.gfids; unqueried = s.unqueried; clean = s.clean; each = λ x. sent_in (f x) (at c g x) _ _ (s.each x) })
