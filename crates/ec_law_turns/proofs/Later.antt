-- What a turn saw and did stays, and so do its ballot and the Makes.
use Rattle.std.proofs.Common.{◌≡◌, ℕ, ◌<◌, Bool, true, false, cond, ◌==◌, ◌&&◌, Option, Some, List, [], ◌∷◌, refl, sym, ◌∙◌, ap, arith}
use Rattle.std.specs.Prelude.{is_some}
use Rattle.ec_law_base.specs.State.{Ballot, Head, State}
use Rattle.ec_law_ballots.specs.Act.{Act, after, step}
use Rattle.ec_law_ballots.specs.Act.Act.{Grant, Free, Share, Unshare, Moment, See, Keep, Carry, Choose, Choose_kept, Pre, Sink_pre, Post, Sink_post, Clear, Heal_grant, Heal_free, Mark, Unmark, Maker_grant, Maker_free, Make, Made, Unmake, Stop, Replace}
use Rattle.ec_law_ballots.specs.Guard.{May, Runs}
use Rattle.ec_law_turns.proofs.Basics.{equal}

pub record Later (s s' : State) : Type 0 where
  pub seen : (t b : ℕ) (h : Head) → s.seen t b ≡ Some h → s'.seen t b ≡ Some h
  pub pre : (t b : ℕ) → s.pre t b ≡ true → s'.pre t b ≡ true
  pub post : (t b : ℕ) → s.post t b ≡ true → s'.post t b ≡ true
  pub born : (b : ℕ) → s.born b ≡ true → s'.born b ≡ true
  pub ballot : (t : ℕ) → 0 < (s.ballot t).number → s'.ballot t ≡ s.ballot t

pub same_later : (s : State) → Later s s
same_later s = record { seen = λ t b h e. e; pre = λ t b e. e; post = λ t b e. e; born = λ b e. e; ballot = λ t lt. refl }

then_later : (r s t : State) → Later r s → Later s t → Later r t
then_later r s t h i = record {
  seen = λ a b y e. i.seen a b y (h.seen a b y e);
  pre = λ a b e. i.pre a b (h.pre a b e);
  post = λ a b e. i.post a b (h.post a b e);
  born = λ b e. i.born b (h.born b e);
  ballot = λ a lt. let same = h.ballot a lt in i.ballot a (let e = ap (λ (p : Ballot). p.number) same in omega (arith, e, lt)) ∙ same;
}

shown : (f : ℕ → ℕ → Option Head) (x y a b : ℕ) (h new : Head) → is_some (f x y) ≡ false → (t u : Bool) → (a == x) ≡ t → (b == y) ≡ u → f a b ≡ Some h → cond (t && u) (Some new) (f a b) ≡ Some h
shown f x y a b h new none true true e i is = absurd (let z = ap (λ (k : ℕ). f k b) (sym (equal a x e)) in let w = ap (λ (k : ℕ). f x k) (sym (equal b y i)) in let q = sym none ∙ (ap (λ (o : Option Head). is_some o) (w ∙ (z ∙ is))) in cc)
shown f x y a b h new none true false e i is = is
shown f x y a b h new none false u e i is = is

set : (f : ℕ → ℕ → Bool) (a b : ℕ) (t : Bool) → f a b ≡ true → cond t true (f a b) ≡ true
set f a b true h = refl
set f a b false h = h

set_one : (f : ℕ → Bool) (b : ℕ) (t : Bool) → f b ≡ true → cond t true (f b) ≡ true
set_one f b true h = refl
set_one f b false h = h

taken : (f : ℕ → Ballot) (x a : ℕ) (p : Ballot) → (f x).number ≡ 0 → (t : Bool) → (a == x) ≡ t → 0 < (f a).number → cond t p (f a) ≡ f a
taken f x a p none true e lt = absurd (let z = ap (λ (k : ℕ). (f k).number) (equal a x e) in omega (arith, z, lt, none))
taken f x a p none false e lt = refl

left : (s s' : State) → s'.seen ≡ s.seen → s'.pre ≡ s.pre → s'.post ≡ s.post → s'.born ≡ s.born → s'.ballot ≡ s.ballot → Later s s'
left s s' seen pre post born ballot = record { seen = λ t b h e. ap (λ (f : ℕ → ℕ → Option Head). f t b) seen ∙ e; pre = λ t b e. ap (λ (f : ℕ → ℕ → Bool). f t b) pre ∙ e; post = λ t b e. ap (λ (f : ℕ → ℕ → Bool). f t b) post ∙ e; born = λ b e. ap (λ (f : ℕ → Bool). f b) born ∙ e; ballot = λ t lt. ap (λ (f : ℕ → Ballot). f t) ballot }

step_later : (n k : ℕ) (s : State) (e : Act) → May n k s e → Later s (step s e)
step_later n k s (See x y) may = record { seen = λ a b h e. shown s.seen x y a b h _ may.3 (a == x) (b == y) refl refl e; pre = λ t b e. e; post = λ t b e. e; born = λ b e. e; ballot = λ t lt. refl }
step_later n k s (Pre x y) may = record { seen = λ t b h e. e; pre = λ a b e. set s.pre a b ((a == x) && (b == y)) e; post = λ t b e. e; born = λ b e. e; ballot = λ t lt. refl }
step_later n k s (Post x y) may = record { seen = λ t b h e. e; pre = λ t b e. e; post = λ a b e. set s.post a b ((a == x) && (b == y)) e; born = λ b e. e; ballot = λ t lt. refl }
step_later n k s (Choose x p) may = record { seen = λ t b h e. e; pre = λ t b e. e; post = λ t b e. e; born = λ b e. e; ballot = λ a lt. taken s.ballot x a p may.0 (a == x) refl lt }
step_later n k s (Choose_kept x y p) may = record { seen = λ t b h e. e; pre = λ t b e. e; post = λ t b e. e; born = λ b e. e; ballot = λ a lt. taken s.ballot x a p may.0 (a == x) refl lt }
step_later n k s (Grant x y) may = left s _ refl refl refl refl refl
step_later n k s (Free y) may = left s _ refl refl refl refl refl
step_later n k s (Share x y) may = left s _ refl refl refl refl refl
step_later n k s (Unshare x y) may = left s _ refl refl refl refl refl
step_later n k s (Moment x) may = left s _ refl refl refl refl refl
step_later n k s (Keep x y) may = left s _ refl refl refl refl refl
step_later n k s (Carry x y z) may = left s _ refl refl refl refl refl
step_later n k s (Sink_pre x y) may = left s _ refl refl refl refl refl
step_later n k s (Sink_post x y) may = left s _ refl refl refl refl refl
step_later n k s (Clear x y) may = left s _ refl refl refl refl refl
step_later n k s (Heal_grant x y) may = left s _ refl refl refl refl refl
step_later n k s (Heal_free y) may = left s _ refl refl refl refl refl
step_later n k s (Mark x y) may = left s _ refl refl refl refl refl
step_later n k s (Unmark x y) may = left s _ refl refl refl refl refl
step_later n k s (Maker_grant y) may = left s _ refl refl refl refl refl
step_later n k s (Maker_free y) may = left s _ refl refl refl refl refl
step_later n k s (Make y) may = record { seen = λ t b h e. e; pre = λ t b e. e; post = λ t b e. e; born = λ b e. set_one s.born b (b == y) e; ballot = λ t lt. refl }
step_later n k s (Made y) may = left s _ refl refl refl refl refl
step_later n k s (Unmake y) may = left s _ refl refl refl refl refl
step_later n k s (Stop y) may = left s _ refl refl refl refl refl
step_later n k s (Replace y) may = left s _ refl refl refl refl refl

pub after_later : (n k : ℕ) (xs : List Act) (s : State) → Runs n k xs s → Later s (after xs s)
after_later n k [] s runs = same_later s
after_later n k (e ∷ xs) s runs = then_later s (step s e) (after xs (step s e)) (step_later n k s e runs.0) (after_later n k xs (step s e) runs.1)
