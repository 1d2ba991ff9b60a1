-- What a stage asks again in the midst of a round.
use Rattle.std.proofs.Common.{◌≡◌, ◌⊎◌, inl, inr, ⊎_elim, ℕ, zero, suc, ◌+◌, ◌<◌, ◌≤◌, ◌==◌, ◌||◌, not, nat_lt, is_some, Bool, true, false, cond, refl, sym, ◌∙◌, ap, subst, List, [], ◌∷◌, ◌++◌, length, arith, Option, Some, None, eqb-true, eq-eqb, append-nil, Ok, Err}
use Rattle.std.specs.Prelude.{map, OnOk, Result}
use Rattle.std.proofs.Math.Path.{fun_ext}
use Rattle.std.proofs.lemmas.Bool.{cases_Bool, cases_eq}
use Rattle.std.proofs.lemmas.Bool.Decides.{nat_tests}
use Rattle.ec_conduct.specs.Account.{Account, Place, Wait, at, gfid_of, sent}
use Rattle.ec_conduct.specs.Done.{is_lock, is_pre, is_query}
use Rattle.ec_conduct.specs.Given.{bricks_of}
use Rattle.ec_conduct.specs.Table.{Send, sent_all, to_bricks}
use Rattle.ec_store.specs.Put.{put}
use Rattle.ec_wire.specs.declared.request.Request.{Request}
use Rattle.ec_txn.specs.Rounds.{AllGood, Asks, IsIn, IsGood, IsMore, IsOn, IsRound, asked_place, is_plain, is_quiet, joined, one, round, where_so}
use Rattle.ec_txn.proofs.Lists.{bricks_none, bricks_same, sent_append}
use Rattle.ec_txn.proofs.Rounds.{asked_heal, each_put, first_all, first_here, first_less, first_more, first_of, good_append, listed, none_some, part_of}
use Rattle.ec_txn.proofs.Sending.{places, put_at, put_other, send_does, send_keeps}

pub none_again : (n : ℕ) (f : Asks) → round n (where_so false f) ≡ []
none_again n f = bricks_none n

pub quiet_parts : (a b c : Bool) → not (a || b || c) ≡ true → (a ≡ false) × (b ≡ false) × (c ≡ false)
quiet_parts true b c e = absurd (cc)
quiet_parts false true c e = absurd (cc)
quiet_parts false false true e = absurd (cc)
quiet_parts false false false e = (refl, refl, refl)

pub in_none : (o : Option Request) (p : Place) (w : Option Wait) (q : Place) → o ≡ None → IsIn o p w q → (w ≡ None) × (q ≡ p)
in_none o p w q e i = subst (λ (v : Option Request). IsIn v p w q) e i

-- one send more in the midst of a round
round_more : (g j b : ℕ) (c e : Account) (f : Asks) (r : Request) → IsRound g c f e → f b ≡ None → gfid_of r ≡ Some g → is_plain r ≡ true → is_quiet r ≡ true → IsRound g c (put f b (Some r)) (sent e b j r)
round_more g j b c e f r s n of p q =
    let u = quiet_parts (is_lock r) (is_query r) (is_pre r) q in
    let k = send_keeps e b j r p in
    let t = send_does e g b j r of p (λ l. let v = u.0 in absurd (cc)) in
    let here : at e g b ≡ at c g b = (in_none (f b) (at c g b) (e.waits b) (at e g b) n (s.each b)).1 in
    let apart : (x : ℕ) (v : Request) → f x ≡ Some v → x ≡ b → ⊥ = λ (x : ℕ) (v : Request) (a : f x ≡ Some v) (w : x ≡ b). none_some v (sym n ∙ (sym (ap f w) ∙ a)) in
    let old : (x : ℕ) (v : Request) → f x ≡ Some v → put f b (Some r) x ≡ Some v = λ (x : ℕ) (v : Request) (a : f x ≡ Some v). put_other f b x (Some r) (apart x v a) ∙ a in
    record {
      given = k.given ∙ s.given;
      unanswered = k.answer ∙ s.unanswered;
      heal = λ x. ap (λ (z : Place). z.heal) (t.place x) ∙ each_put (λ (y : ℕ) (z : Place). z.heal ≡ None) (places e g) b (asked_place (at e g b) j r) (asked_heal (at e g b) j r ∙ s.heal b) (λ y ne. s.heal y) x;
      gfids = listed g b j e (sent e b j r) r t s.gfids;
      unqueried = λ none. t.queried.1 u.1 ∙ s.unqueried (λ x v a. none x v (old x v a));
      clean = λ none. t.clean u.2 ∙ s.clean (λ x v a. none x v (old x v a));
      each = λ x. subst (λ (w : ℕ → Option Wait). IsIn (put f b (Some r) x) (at c g x) (w x) (at (sent e b j r) g x)) (sym k.waits)
          (subst (λ (z : Place). IsIn (put f b (Some r) x) (at c g x) (put e.waits b (Some (record { number = j; request = r })) x) z) (sym (t.place x))
          (elim (cases_Bool (x == b)) [
            | inl w ↦ let a : x ≡ b = eqb-true x b w in subst (λ (y : ℕ). IsIn (put f b (Some r) y) (at c g y) (put e.waits b (Some (record { number = j; request = r })) y) (put (places e g) b (asked_place (at e g b) j r) y)) (sym a)
                (subst (λ (o : Option Request). IsIn o (at c g b) (put e.waits b (Some (record { number = j; request = r })) b) (put (places e g) b (asked_place (at e g b) j r) b)) (sym (put_at f b (Some r)))
                (inl (j, put_at e.waits b (Some (record { number = j; request = r })), put_at (places e g) b (asked_place (at e g b) j r) ∙ ap (λ (z : Place). asked_place z j r) here)))
            | inr w ↦ rw w (s.each x)
          ]));
    }

joined_none : (f h : Asks) → joined f (first_of 0 h) ≡ f
joined_none f h = fun_ext (λ x. (let t : nat_lt x 0 ≡ false = grind (arith, nat_tests) in rw t (both (f x))))
  where
    both : (o : Option Request) → cond (is_some o) o None ≡ o
    both None = refl
    both (Some r) = refl

joined_put : (f h : Asks) (b : ℕ) (r : Request) → f b ≡ None → joined f (put h b (Some r)) ≡ put (joined f h) b (Some r)
joined_put f h b r n = fun_ext (λ x. elim (cases_Bool (x == b)) [
  | inl t ↦ let e : f x ≡ None = ap f (eqb-true x b t) ∙ n in rw (t, e) refl
  | inr t ↦ rw t refl
])

pub joined_at : (f h : Asks) (b : ℕ) → f b ≡ None → joined f h b ≡ h b
joined_at f h b n = rw n refl

-- what the first m bricks are sent
pub record AgainTo (g i m : ℕ) (c : Account) (f h : Asks) (d : Account) : Type 0 where
  pub sent : IsRound g c (joined f (first_of m h)) (sent_all d i (round m h))
  pub good : AllGood g d i (round m h)

again_to : (g i m : ℕ) (c : Account) (f h : Asks) (d : Account) → IsOn g (bricks_of d.given) (c.on g).queried (joined f h) → IsMore g c f h → IsRound g c f d → d.given ≡ c.given → AgainTo g i m c f h d
again_to g i zero c f h d on more s eg = record { sent = subst (λ (k : Asks). IsRound g c k d) (sym (joined_none f h)) s; good = tt }
again_to g i (suc m) c f h d on more s eg = go (h m) refl (again_to g i m c f h d on more s eg)
  where
    go : (o : Option Request) → h m ≡ o → AgainTo g i m c f h d → AgainTo g i (suc m) c f h d
    go None e w =
        let same : round (suc m) h ≡ round m h = ap (λ (o : Option Request). round m h ++ map (λ (r : Request). (m, r)) (one o)) e ∙ append-nil (round m h) in
        record {
          sent = subst (λ (ss : List Send). IsRound g c (joined f (first_of (suc m) h)) (sent_all d i ss)) (sym same) (subst (λ (k : Asks). IsRound g c (joined f k) (sent_all d i (round m h))) (sym (first_less m h e)) w.sent);
          good = subst (λ (ss : List Send). AllGood g d i ss) (sym same) w.good;
        }
    go (Some r) e w =
        let same : round (suc m) h ≡ round m h ++ (m, r) ∷ [] = ap (λ (o : Option Request). round m h ++ map (λ (s : Request). (m, s)) (one o)) e in
        let a = sent_all d i (round m h) in
        let j = i + length (round m h) in
        let n : f m ≡ None = more.new m r e in
        let all : joined f h m ≡ Some r = joined_at f h m n ∙ e in
        let free : joined f (first_of m h) m ≡ None = joined_at f (first_of m h) m n ∙ first_here m h in
        let ends : sent_all d i (round (suc m) h) ≡ sent a m j r = ap (λ (ss : List Send). sent_all d i ss) same ∙ sent_append d i (round m h) ((m, r) ∷ []) in
        let q = more.quiet m r e in
        let u = quiet_parts (is_lock r) (is_query r) (is_pre r) q in
        let asked : joined f (first_of (suc m) h) ≡ put (joined f (first_of m h)) m (Some r) = ap (joined f) (first_more m h r e) ∙ joined_put f (first_of m h) m r n in
        record {
          sent = subst (λ (z : Account). IsRound g c (joined f (first_of (suc m) h)) z) (sym ends) (subst (λ (k : Asks). IsRound g c k (sent a m j r)) (sym asked) (round_more g j m c a (joined f (first_of m h)) r w.sent free (on.of m r all) (on.plain m r all) q));
          good = subst (λ (ss : List Send). AllGood g d i ss) (sym same) (good_append g d i (round m h) ((m, r) ∷ []) w.good (
            record { may = more.may (first_of m h) a w.sent (part_of m h) m r e (first_here m h); below = subst (λ (x : ℕ). m < x) (ap bricks_of (eg ∙ sym w.sent.given)) (on.below m r all); fit = on.fit m r all; of = on.of m r all; plain = inl (on.plain m r all); first = λ l. let v = u.0 in absurd (cc) },
            tt,
          ));
        }

-- What a stage asks again may be sent, and it is as if the round had asked it from the first.
pub again_sent : (g i : ℕ) (c : Account) (f h : Asks) (d : Account) (n : ℕ) → bricks_of d.given ≡ n → IsOn g n (c.on g).queried (joined f h) → IsMore g c f h → IsRound g c f d
    → AllGood g d i (round n h) × IsRound g c (joined f h) (sent_all d i (round n h))
again_sent g i c f h d n e on more s =
    let w = again_to g i n c f h d (subst (λ (m : ℕ). IsOn g m (c.on g).queried (joined f h)) (sym e) on) more s s.given in
    (w.good, subst (λ (k : Asks). IsRound g c (joined f k) (sent_all d i (round n h))) (first_all n h (λ x r a. on.below x r (joined_at f h x (more.new x r a) ∙ a))) w.sent)

-- what is sent where a stage asks again, and where it doesn't

pub none_asked : (n : ℕ) (f : Asks) (so : Bool) (ss : List Send) → so ≡ false → ss ≡ ss ++ to_bricks n (λ x. one (where_so so f x))
none_asked n f so ss e = sym (ap (λ (u : Bool). ss ++ to_bricks n (λ x. one (where_so u f x))) e ∙ (ap (λ (v : List Send). ss ++ v) (bricks_none n) ∙ append-nil ss))

pub asked_so : {E : Type 0} (r : Result (Unit {0}) E) (P : Account → Type 0) (n : ℕ) (f : Account → Asks) (so : Bool) (old new : List Send) → so ≡ true
    → OnOk r ((c : Account) → P c → new ≡ old ++ to_bricks n (λ x. one (f c x))) → OnOk r ((c : Account) → P c → new ≡ old ++ to_bricks n (λ x. one (where_so so (f c) x)))
asked_so (Ok u) P n f so old new e h = λ c p. h c p ∙ ap (λ (u : Bool). old ++ to_bricks n (λ x. one (where_so u (f c) x))) (sym e)
asked_so (Err v) P n f so old new e h = h
