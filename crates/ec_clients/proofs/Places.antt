-- The slots of the clients, as calls begin, take steps and are answered.
use Rattle.std.proofs.Common.{◌≡◌, ◌≢◌, ◌⊎◌, ⊎_elim, ℕ, true, false, Option, Some, None, List, refl, sym, ◌∙◌, ap, subst, arith}
use Rattle.std.proofs.lemmas.Bool.Decides.{nat_tests}
use Rattle.std.specs.Prelude.{is_some, slice_get}
use Rattle.ec_store.specs.Put.{put}
use Rattle.ec_conduct.specs.Given.{Given}
use Rattle.ec_conduct.specs.Opened.{account}
use Rattle.ec_conduct.specs.Own.{Own}
use Rattle.ec_history.specs.Run.{Asker}
use Rattle.ec_txn.specs.declared.ctx.Ctx.{Ctx}
use Rattle.ec_clients.specs.Calls.{HasEnded, IsRunning, OfSlots, begun_with, ctx_of}
use Rattle.ec_clients.specs.Frames.{ChangesAt}
use Rattle.ec_clients.specs.Ledger.{Ledger}
use Rattle.ec_clients.specs.declared.clients.Running.{Running}
use Rattle.ec_clients.specs.declared.options.Options.{Options}

pub either : (x y : ℕ) → (x ≡ y) ⊎ (x ≢ y)
either x y = grind arith

pub put_is : {X : Type 0} (f : ℕ → X) (i : ℕ) (x : X) (j : ℕ) → ((j ≡ i) × (put f i x j ≡ x)) ⊎ ((j ≢ i) × (put f i x j ≡ f j))
put_is f i x j = grind (arith, nat_tests)

pub put_here : {X : Type 0} (f : ℕ → X) (i : ℕ) (x : X) → put f i x i ≡ x
put_here f i x = ⊎_elim (λ p. p.1) (λ p. absurd (p.0 refl)) (put_is f i x i)

pub put_other : {X : Type 0} (f : ℕ → X) (i : ℕ) (x : X) (j : ℕ) → j ≢ i → put f i x j ≡ f j
put_other f i x j ne = ⊎_elim (λ p. absurd (ne p.0)) (λ p. p.1) (put_is f i x j)

pub some_is : {X : Type 0} (x y : X) → Some x ≡ Some y → x ≡ y
some_is x y e = cc

module _ {C : Type 0} (stands : Ctx → Given → C → List Own → Type 0) (by_table : Ctx → Given → List Own → Type 0) (o : Options) where
  same_running : (slots : List (Option (Running C))) (j : ℕ) (r s : Running C) → slice_get slots j ≡ Some (Some r) → slice_get slots j ≡ Some (Some s) → r ≡ s
  same_running slots j r s e f = cc

  empty : (slots : List (Option (Running C))) (j : ℕ) (r : Running C) → slice_get slots j ≡ Some None → slice_get slots j ≡ Some (Some r) → ⊥
  empty slots j r e f = cc

  -- two clients run two calls
  pub apart : (l : Ledger) (i j : ℕ) (r s : Running C) → IsRunning stands o l i r → IsRunning stands o l j s → r.number ≡ s.number → i ≡ j
  apart l i j r s f g e =
      let same : Some f.asker ≡ Some g.asker = sym f.made ∙ (ap l.asker e ∙ g.made) in
      sym f.of_client ∙ (ap (λ (x : Asker). x.client) (some_is f.asker g.asker same) ∙ g.of_client)

  -- a call is taken out of its slot
  pub take_out : (slots rest : List (Option (Running C))) (l : Ledger) (j : ℕ) (r : Running C) → OfSlots stands by_table o slots None l → slice_get slots j ≡ Some (Some r) → ChangesAt slots rest j None → OfSlots stands by_table o rest (Some r.number) l
  take_out slots rest l j r h is at = record {
    runs = λ i s e. ⊎_elim
        (λ (p : i ≡ j). absurd (empty rest j s at.here (subst (λ (x : ℕ). slice_get rest x ≡ Some (Some s)) p e)))
        (λ ne. let was : slice_get slots i ≡ Some (Some s) = sym (at.others i ne) ∙ e in ((h.runs i s was).0, λ f. ne (apart l i j s r (h.runs i s was).0 (h.runs j r is).0 (sym (some_is r.number s.number f)))))
        (either i j);
    unanswered = λ a asker made un out.
        let x = h.unanswered a asker made un (λ f. absurd (cc)) in
        let ne : asker.client ≢ j = λ f. out (ap (λ (z : Running C). Some z.number) (same_running slots j r x.0 is (subst (λ (z : ℕ). slice_get slots z ≡ Some (Some x.0)) f x.1)) ∙ ap Some x.2) in
        (x.0, at.others asker.client ne ∙ x.1, x.2);
    ended = h.ended;
  }

  -- and put back
  pub put_back : (slots full : List (Option (Running C))) (l : Ledger) (j : ℕ) (r : Running C) → OfSlots stands by_table o slots (Some r.number) l → slice_get slots j ≡ Some None → ChangesAt slots full j (Some r) → IsRunning stands o l j r → OfSlots stands by_table o full None l
  put_back slots full l j r h free at is = record {
    runs = λ i s e. ⊎_elim
        (λ (p : i ≡ j). let q : r ≡ s = same_running full j r s at.here (subst (λ (x : ℕ). slice_get full x ≡ Some (Some s)) p e) in (subst (λ (x : ℕ). IsRunning stands o l x s) (sym p) (subst (λ (x : Running C). IsRunning stands o l j x) q is), λ f. absurd (cc)))
        (λ ne. ((h.runs i s (sym (at.others i ne) ∙ e)).0, λ f. absurd (cc)))
        (either i j);
    unanswered = λ a asker made un out. ⊎_elim
        (λ (p : r.number ≡ a).
        let same : Some is.asker ≡ Some asker = sym is.made ∙ (ap l.asker p ∙ made) in
        let at_j : asker.client ≡ j = ap (λ (x : Asker). x.client) (sym (some_is is.asker asker same)) ∙ is.of_client in
        (r, subst (λ (x : ℕ). slice_get full x ≡ Some (Some r)) (sym at_j) at.here, p))
        (λ ne.
        let x = h.unanswered a asker made un (λ f. ne (some_is r.number a f)) in
        let other : asker.client ≢ j = λ f. empty slots j x.0 free (subst (λ (z : ℕ). slice_get slots z ≡ Some (Some x.0)) f x.1) in
        (x.0, at.others asker.client other ∙ x.1, x.2))
        (either r.number a);
    ended = h.ended;
  }

  -- what the slots are read by stays, but for call a
  pub other_calls : (slots : List (Option (Running C))) (l k : Ledger) (a : ℕ) → k.asker ≡ l.asker → k.given ≡ l.given → ((x : ℕ) → x ≢ a → k.answered x ≡ l.answered x) → ((x : ℕ) → x ≢ a → k.own x ≡ l.own x) → (j : ℕ) (r : Running C) → r.number ≢ a → IsRunning stands o l j r → IsRunning stands o k j r
  other_calls slots l k a askers givens ans own j r ne is = record {
    asker = is.asker;
    made = (λ i. askers i r.number) ∙ is.made;
    of_client = is.of_client;
    unanswered = ans r.number ne ∙ is.unanswered;
    child = is.child;
    begun = (λ i. givens i r.number) ∙ is.begun;
    meets = subst (stands (ctx_of o r.number j is.child) (begun_with o is.asker.op is.child) r.call) (sym (own r.number ne)) is.meets;
  }

  -- a call that is out of its slot takes a step
  pub out_moves : (slots : List (Option (Running C))) (l k : Ledger) (a : ℕ) → OfSlots stands by_table o slots (Some a) l → k.asker ≡ l.asker → k.given ≡ l.given → k.answered ≡ l.answered → l.answered a ≡ false → ((x : ℕ) → x ≢ a → k.own x ≡ l.own x) → OfSlots stands by_table o slots (Some a) k
  out_moves slots l k a h askers givens ans un own = record {
    runs = λ j r e. (other_calls slots l k a askers givens (λ x ne. λ i. ans i x) own j r (λ f. (h.runs j r e).1 (ap Some (sym f))) (h.runs j r e).0, (h.runs j r e).1);
    unanswered = λ x asker made no_answer out. h.unanswered x asker (sym (λ i. askers i x) ∙ made) (sym (λ i. ans i x) ∙ no_answer) out;
    ended = λ x asker made yes.
        let ne : x ≢ a = λ f. absurd (let e : true ≡ false = sym yes ∙ ((λ i. ans i x) ∙ (ap l.answered f ∙ un)) in cc) in
        let old = h.ended x asker (sym (λ i. askers i x) ∙ made) (sym (λ i. ans i x) ∙ yes) in
        record { child = old.child; begun = (λ i. givens i x) ∙ old.begun; tabled = subst (by_table (ctx_of o x asker.client old.child) (begun_with o asker.op old.child)) (sym (own x ne)) old.tabled; call = old.call; stood = subst (stands (ctx_of o x asker.client old.child) (begun_with o asker.op old.child) old.call) (sym (own x ne)) old.stood; over = subst (λ (es : List Own). is_some (account (begun_with o asker.op old.child) es).answer ≡ true) (sym (own x ne)) old.over };
  }

  -- a call that is out of its slot is answered
  pub out_ends : (slots : List (Option (Running C))) (l k : Ledger) (a : ℕ) (asker : Asker) → OfSlots stands by_table o slots (Some a) l → k.asker ≡ l.asker → k.given ≡ l.given → k.answered ≡ put l.answered a true → ((x : ℕ) → x ≢ a → k.own x ≡ l.own x) → l.asker a ≡ Some asker → HasEnded stands by_table o k a asker → OfSlots stands by_table o slots None k
  out_ends slots l k a asker h askers givens ans own is ended =
      let rest : (x : ℕ) → x ≢ a → k.answered x ≡ l.answered x = λ x ne. (λ i. ans i x) ∙ put_other l.answered a true x ne in
      record {
        runs = λ j r e. (other_calls slots l k a askers givens rest own j r (λ f. (h.runs j r e).1 (ap Some (sym f))) (h.runs j r e).0, λ f. absurd (cc));
        unanswered = λ x other made no_answer out.
            let ne : x ≢ a = λ f. absurd (let e : true ≡ false = sym ((λ i. ans i x) ∙ (ap (put l.answered a true) f ∙ put_here l.answered a true)) ∙ no_answer in cc) in
            h.unanswered x other (sym (λ i. askers i x) ∙ made) (sym (rest x ne) ∙ no_answer) (λ f. ne (sym (some_is a x f)));
        ended = λ x other made yes. ⊎_elim
            (λ (f : x ≡ a).
            let same : Some asker ≡ Some other = sym is ∙ (sym (λ i. askers i a) ∙ (ap k.asker (sym f) ∙ made)) in
            subst (λ (z : Asker). HasEnded stands by_table o k x z) (some_is asker other same) (subst (λ (z : ℕ). HasEnded stands by_table o k z asker) (sym f) ended))
            (λ ne.
            let old = h.ended x other (sym (λ i. askers i x) ∙ made) (sym (rest x ne) ∙ yes) in
            record { child = old.child; begun = (λ i. givens i x) ∙ old.begun; tabled = subst (by_table (ctx_of o x other.client old.child) (begun_with o other.op old.child)) (sym (own x ne)) old.tabled; call = old.call; stood = subst (stands (ctx_of o x other.client old.child) (begun_with o other.op old.child) old.call) (sym (own x ne)) old.stood; over = subst (λ (es : List Own). is_some (account (begun_with o other.op old.child) es).answer ≡ true) (sym (own x ne)) old.over })
            (either x a);
      }

  -- a call begins, out of any slot
  pub begins_out : (slots : List (Option (Running C))) (l k : Ledger) (a : ℕ) (asker : Asker) (given : Given) → OfSlots stands by_table o slots None l → l.asker a ≡ None → l.answered a ≡ false → k.asker ≡ put l.asker a (Some asker) → k.given ≡ put l.given a (Some given) → k.answered ≡ l.answered → k.own ≡ l.own → OfSlots stands by_table o slots (Some a) k
  begins_out slots l k a asker given h unmade un askers givens ans own =
      let other : (x : ℕ) (w : Asker) → l.asker x ≡ Some w → x ≢ a = λ x w e f. absurd (let z : None ≡ Some w = sym unmade ∙ (ap l.asker (sym f) ∙ e) in cc) in
      record {
        runs = λ j r e.
            let is = (h.runs j r e).0 in
            let ne : r.number ≢ a = other r.number is.asker is.made in (
              record {
                asker = is.asker;
                made = (λ i. askers i r.number) ∙ (put_other l.asker a (Some asker) r.number ne ∙ is.made);
                of_client = is.of_client;
                unanswered = (λ i. ans i r.number) ∙ is.unanswered;
                child = is.child;
                begun = (λ i. givens i r.number) ∙ (put_other l.given a (Some given) r.number ne ∙ is.begun);
                meets = subst (stands (ctx_of o r.number j is.child) (begun_with o is.asker.op is.child) r.call) (sym (λ i. own i r.number)) is.meets;
              },
              λ f. ne (sym (some_is a r.number f)),
            );
        unanswered = λ x w made no_answer out.
            let ne : x ≢ a = λ f. out (ap Some (sym f)) in
            h.unanswered x w (sym ((λ i. askers i x) ∙ put_other l.asker a (Some asker) x ne) ∙ made) (sym (λ i. ans i x) ∙ no_answer) (λ f. absurd (cc));
        ended = λ x w made yes.
            let ne : x ≢ a = λ f. absurd (let e : true ≡ false = sym yes ∙ ((λ i. ans i x) ∙ (ap l.answered f ∙ un)) in cc) in
            let old = h.ended x w (sym ((λ i. askers i x) ∙ put_other l.asker a (Some asker) x ne) ∙ made) (sym (λ i. ans i x) ∙ yes) in
            record { child = old.child; begun = (λ i. givens i x) ∙ (put_other l.given a (Some given) x ne ∙ old.begun); tabled = subst (by_table (ctx_of o x w.client old.child) (begun_with o w.op old.child)) (sym (λ i. own i x)) old.tabled; call = old.call; stood = subst (stands (ctx_of o x w.client old.child) (begun_with o w.op old.child) old.call) (sym (λ i. own i x)) old.stood; over = subst (λ (es : List Own). is_some (account (begun_with o w.op old.child) es).answer ≡ true) (sym (λ i. own i x)) old.over };
      }

  -- what the slots are read by stays
  pub slots_same : (slots : List (Option (Running C))) (out : Option ℕ) (l k : Ledger) → OfSlots stands by_table o slots out l → k.asker ≡ l.asker → k.given ≡ l.given → k.answered ≡ l.answered → k.own ≡ l.own → OfSlots stands by_table o slots out k
  slots_same slots out l k h askers givens ans own = record {
    runs = λ j r e. let is = (h.runs j r e).0 in (
      record {
        asker = is.asker;
        made = (λ i. askers i r.number) ∙ is.made;
        of_client = is.of_client;
        unanswered = (λ i. ans i r.number) ∙ is.unanswered;
        child = is.child;
        begun = (λ i. givens i r.number) ∙ is.begun;
        meets = subst (stands (ctx_of o r.number j is.child) (begun_with o is.asker.op is.child) r.call) (sym (λ i. own i r.number)) is.meets;
      },
      (h.runs j r e).1,
    );
    unanswered = λ x asker made no_answer un. h.unanswered x asker (sym (λ i. askers i x) ∙ made) (sym (λ i. ans i x) ∙ no_answer) un;
    ended = λ x asker made done.
        let old = h.ended x asker (sym (λ i. askers i x) ∙ made) (sym (λ i. ans i x) ∙ done) in
        record { child = old.child; begun = (λ i. givens i x) ∙ old.begun; tabled = subst (by_table (ctx_of o x asker.client old.child) (begun_with o asker.op old.child)) (sym (λ i. own i x)) old.tabled; call = old.call; stood = subst (stands (ctx_of o x asker.client old.child) (begun_with o asker.op old.child) old.call) (sym (λ i. own i x)) old.stood; over = subst (λ (es : List Own). is_some (account (begun_with o asker.op old.child) es).answer ≡ true) (sym (λ i. own i x)) old.over };
  }
