-- A step by a table, as it is taken from what is known.
use Rattle.std.proofs.Common.{◌≡◌, ◌≢◌, ◌⊎◌, inl, inr, ⊎_elim, ℕ, ◌+◌, ◌*◌, ◌<◌, ◌≤◌, ◌^◌, Bool, true, false, cond, refl, sym, ◌∙◌, ap, subst, List, [], ◌∷◌, ◌++◌, length, arith, Option, Some, None, vec_len}
use Rattle.std.specs.Prelude.{All, is_some}
use Rattle.std.proofs.lemmas.Bool.{cases_lt}
use Rattle.std.proofs.lemmas.List.Elements.{All-nil}
use Rattle.ec_conduct.specs.Account.{Account, Lock, Wait, at}
use Rattle.ec_conduct.specs.Given.{Given, bricks_of}
use Rattle.ec_conduct.specs.Table.{Send, to_bricks}
use Rattle.ec_wire.specs.declared.answer.Answer.{Answer}
use Rattle.ec_wire.specs.declared.request.Request.{Request}
use Rattle.ec_txn.specs.declared.ctx.Ctx.{Ctx}
use Rattle.ec_txn.specs.declared.known.Held.{Held}
use Rattle.ec_txn.specs.declared.known.Known.{Known}
use Rattle.ec_txn.specs.declared.known.Pending.{Pending}
use Rattle.ec_txn.specs.declared.known.Place.{Place}
use Rattle.ec_txn.specs.declared.stage.Next.{Next}
use Rattle.ec_txn.specs.declared.stage.Next.TheVariants.{Go, Say}
use Rattle.ec_txn.specs.Digest.{Shows, all_sent, any_waits, held, no_place, pending, place_at}
use Rattle.ec_txn.specs.Lists.{Extends, back_at, back_of, refused_at, refused_of}
use Rattle.ec_txn.specs.Rounds.{IsIdle, IsWaiting, give_back, given_back, one, refused, round, subject, unlock, where_so}
use Rattle.ec_txn.specs.Tables.{Goes, Sees, asked_again, Table, TakesStep}
use Rattle.ec_txn.proofs.Lists.{bricks_same}
use Rattle.ec_txn.proofs.Places.{none_waits, past_last, some_waits}

pub all_below : (n : ℕ) (s t : List Send) → s ≡ [] → Extends n n s t → All (λ s. s.0 < n) t
all_below n s t e x = x.below (subst (λ v. All (λ (s : Send). s.0 < n) v) (sym e) (All-nil (λ (s : Send). s.0 < n)))

pub all_below_two : (n : ℕ) (s t u : List Send) → s ≡ [] → Extends n n s t → Extends n n t u → All (λ s. s.0 < n) u
all_below_two n s t u e x y = y.below (all_below n s t e x)

pub some_same : {A : Type 0} (a b : A) → Some a ≡ Some b → a ≡ b
some_same a b e = cc

waits_none : (o : Option Wait) → pending o ≡ None → o ≡ None
waits_none None e = refl
waits_none (Some w) e = absurd (cc)

waits_some : (o : Option Wait) → is_some (pending o) ≡ true → is_some o ≡ true
waits_some None e = absurd (cc)
waits_some (Some w) e = refl

pub is_idle : (g n m : ℕ) (known : Known) (c : Account) → Shows g n known c → m ≡ vec_len known.places → any_waits known.places.items m ≡ false → IsIdle c
is_idle g n m known c s l e x = waits_none (c.waits x) (ap (λ (p : Place). p.waits) (sym (s.each x)) ∙ here)
  where
    here : (place_at known.places.items x).waits ≡ None
    here = elim (cases_lt x m) [
      | inl a ↦ none_waits known.places.items m x e a
      | inr a ↦ ap (λ (p : Place). p.waits) (past_last known.places.items x (omega (arith, a, l, known.places.ok.0)))
    ]

pub is_waiting : (g n m : ℕ) (known : Known) (c : Account) → Shows g n known c → any_waits known.places.items m ≡ true → IsWaiting c
is_waiting g n m known c s e = let w = some_waits known.places.items m e in (w.0, waits_some (c.waits w.0) (subst (λ (p : Place). is_some p.waits ≡ true) (s.each w.0) w.2))

refused_same : (g : ℕ) (o : Option Lock) → refused_of g (held o) ≡ refused g o
refused_same g None = refl
refused_same g (Some lock) = refl

back_same : (g : ℕ) (o : Option Lock) → back_of g (held o) ≡ given_back g o
back_same g None = refl
back_same g (Some lock) = refl

pub unlock_is : (g n : ℕ) (known : Known) (c : Account) → Shows g n known c → bricks_of c.given ≡ n → to_bricks n (refused_at g known.places.items) ≡ unlock c g
unlock_is g n known c s e = bricks_same n (refused_at g known.places.items) (λ x. refused g (at c g x).inode) (λ x. ap (λ (p : Place). refused_of g p.lock) (s.each x) ∙ refused_same g (at c g x).inode) ∙ ap (λ (m : ℕ). to_bricks m (λ x. refused g (at c g x).inode)) (sym e)

pub back_is : (g n : ℕ) (known : Known) (c : Account) → Shows g n known c → bricks_of c.given ≡ n → to_bricks n (back_at g known.places.items) ≡ give_back c g
back_is g n known c s e = bricks_same n (back_at g known.places.items) (λ x. given_back g (at c g x).inode) (λ x. ap (λ (p : Place). back_of g p.lock) (s.each x) ∙ back_same g (at c g x).inode) ∙ ap (λ (m : ℕ). to_bricks m (λ x. given_back g (at c g x).inode)) (sym e)

module _ {P : Type 0} (x : Ctx) (t : Table P) (fits : Given → Type 0) (p : P) (c : Account) (i gfid : ℕ) (old : Known) (sees : Sees x fits old c) (on : subject c.given.op ≡ gfid) where
  shows_at : Shows gfid x.geometry.n old c
  shows_at = let s : Shows gfid (bricks_of c.given) old c = subst (λ (g : ℕ). Shows g (bricks_of c.given) old c) on sees.shows in
      subst (λ (n : ℕ). Shows gfid n old c) (ap (λ geometry. geometry.n) sees.of.geometry) s

  size : bricks_of c.given ≡ x.geometry.n
  size = ap (λ geometry. geometry.n) sees.of.geometry

  pub again_is : (s ss : List Send) → s ≡ [] → ss ≡ s ++ to_bricks x.geometry.n (λ b. one (where_so (t.again p) (t.asks p c) b)) → ss ≡ asked_again t p c
  again_is s ss e h = h ∙ (λ j. e j ++ to_bricks (sym size j) (λ b. one (where_so (t.again p) (t.asks p c) b)))

  pub lasts_takes : (m : ℕ) (new : Known) (s ss : List Send) → (any_waits old.places.items m ≡ true) ⊎ (ss ≢ []) → s ≡ [] → ss ≡ s ++ to_bricks x.geometry.n (λ b. one (where_so (t.again p) (t.asks p c) b))
      → place_at new.places.items ≡ all_sent (place_at old.places.items) i ss → new.replies ≡ old.replies → TakesStep t p c i old new (Some p) None ss
  lasts_takes m new s ss busy e h places replies =
      let is = again_is s ss e h in
      record {
        step = record { stage = Some p; sends = asked_again t p c; answer = None; kept = None };
        goes = inl (⊎_elim (λ w. inl (is_waiting gfid x.geometry.n m old c shows_at w)) (λ w. inr (λ (none : asked_again t p c ≡ []). w (is ∙ none))) busy, refl);
        stage_is = refl;
        answer_is = refl;
        sends_are = is;
        places = places;
        replies = replies;
      }

  pub goes_takes : (m : ℕ) (q : P) (new : Known) (r s u ss : List Send) → r ≡ [] → s ≡ r ++ to_bricks x.geometry.n (λ b. one (where_so (t.again p) (t.asks p c) b)) → new.replies ≡ old.replies → m ≡ vec_len old.places → any_waits old.places.items m ≡ false → t.follows p c (Go q) → s ≡ [] → u ≡ s ++ to_bricks x.geometry.n (refused_at gfid old.places.items)
      → ss ≡ u ++ to_bricks x.geometry.n (λ b. one (t.asks q c b)) → place_at new.places.items ≡ all_sent (place_at old.places.items) i ss → TakesStep t p c i old new (Some q) None ss
  goes_takes m q new r s u ss er hs replies len e follows es eu ess places = record {
    step = record { stage = Some q; sends = unlock c (subject c.given.op) ++ round (bricks_of c.given) (t.asks q c); answer = None; kept = None };
    goes = inr (is_idle gfid x.geometry.n m old c shows_at len e, sym (again_is r s er hs) ∙ es, Go q, follows, refl);
    stage_is = refl;
    answer_is = refl;
    sends_are = ess ∙ (λ j. (eu ∙ ((λ k. es k ++ to_bricks x.geometry.n (refused_at gfid old.places.items)) ∙ (unlock_is gfid x.geometry.n old c shows_at size ∙ ap (unlock c) (sym on)))) j ++ to_bricks (sym size j) (λ b. one (t.asks q c b)));
    places = places;
    replies = replies;
  }

  pub says_takes : (m : ℕ) (answer : Answer) (new : Known) (r s u ss : List Send) → r ≡ [] → s ≡ r ++ to_bricks x.geometry.n (λ b. one (where_so (t.again p) (t.asks p c) b)) → new.replies ≡ old.replies → m ≡ vec_len old.places → any_waits old.places.items m ≡ false → t.follows p c (Say answer) → s ≡ [] → u ≡ s ++ to_bricks x.geometry.n (refused_at gfid old.places.items)
      → ss ≡ u ++ to_bricks x.geometry.n (back_at gfid old.places.items) → place_at new.places.items ≡ all_sent (place_at old.places.items) i ss → TakesStep t p c i old new None (Some answer) ss
  says_takes m answer new r s u ss er hs replies len e follows es eu ess places = record {
    step = record { stage = None; sends = unlock c (subject c.given.op) ++ give_back c (subject c.given.op); answer = Some answer; kept = None };
    goes = inr (is_idle gfid x.geometry.n m old c shows_at len e, sym (again_is r s er hs) ∙ es, Say answer, follows, refl);
    stage_is = refl;
    answer_is = refl;
    sends_are = ess ∙ (λ j. (eu ∙ ((λ k. es k ++ to_bricks x.geometry.n (refused_at gfid old.places.items)) ∙ (unlock_is gfid x.geometry.n old c shows_at size ∙ ap (unlock c) (sym on)))) j ++ (back_is gfid x.geometry.n old c shows_at size ∙ ap (give_back c) (sym on)) j);
    places = places;
    replies = replies;
  }
