-- Which acts grant the content: those of the lock table alone.
use Rattle.std.proofs.Common.{◌≡◌, ◌⊎◌, ℕ, Bool, true, false, cond, ◌==◌, ◌&&◌, Option, Some, None, List, [], ◌∷◌, ◌++◌, refl, sym, ◌∙◌, subst, arith, inl, inr, ⊎_elim}
use Rattle.std.proofs.lemmas.Bool.Decides.{nat_tests}
use Rattle.ec_attr.specs.Marks.{is_marked}
use Rattle.ec_attr.specs.declared.kind.Domain.TheVariants.{Inode, Heal}
use Rattle.ec_locks.specs.declared.ask.Ask.{Ask as Asking}
use Rattle.ec_wire.specs.declared.message.Body.{Body}
use Rattle.ec_wire.specs.declared.message.Body.TheVariants.{ToBrick, ToClient}
use Rattle.ec_wire.specs.declared.request.Request.{Request}
use Rattle.ec_wire.specs.declared.request.Request.TheVariants.{Ask, Release, Query, PreOp, ReadChunks, WriteChunks, SetLength, PostOp, Clear, NameGet, NamesAfter, NameSet, NamesPut, Make, Made, Unmake, Mark, Unmark, GfidsAfter}
use Rattle.ec_brick.specs.Replies.{Says}
use Rattle.ec_history.specs.Run.{Net, call_of, is_number}
use Rattle.ec_history.specs.Story.{is_done}
use Rattle.ec_law_base.specs.State.{State}
use Rattle.ec_law_ballots.specs.Act.{Act, after, step}
use Rattle.ec_law_ballots.specs.Act.Act.{Grant, Free, Share, Unshare, Moment, See, Keep, Carry, Choose, Choose_kept, Pre, Sink_pre, Post, Sink_post, Clear as Clears, Heal_grant, Heal_free, Mark as Marks, Unmark as Unmarks, Maker_grant, Maker_free, Make as Makes, Made as Mades, Unmake as Unmakes, Stop, Replace}
use Rattle.ec_law_net.specs.Turns.{View, acts_changed, acts_done, acts_locks, acts_maker, acts_sent, acts_shown, acts_worked, exclusive, freed, granted, has_directory, is_shown}
use Rattle.ec_law_net.proofs.Changed.{after_both}

-- these acts grant nothing
abbrev pub Keeps : List Act → Type 0
Keeps xs = (s : State) (a c : ℕ) → (after xs s).granted a c ≡ s.granted a c

keeps_cond : (t : Bool) (xs ys : List Act) → Keeps xs → Keeps ys → Keeps (cond t xs ys)
keeps_cond true xs ys h i = h
keeps_cond false xs ys h i = i

nil : Keeps []
nil s a c = refl

done_keeps : (g a b : ℕ) (q : Request) → Keeps (acts_done g a b q)
done_keeps g a b (PreOp x n at number) = keeps_cond (x.0 == g) (cond (is_marked at) (Sink_pre a b) (Pre a b) ∷ []) [] (either (is_marked at)) nil
  where
    either : (t : Bool) → Keeps (cond t (Sink_pre a b) (Pre a b) ∷ [])
    either true s x c = refl
    either false s x c = refl
done_keeps g a b (PostOp x n at version size attr) = keeps_cond (x.0 == g) (cond (is_marked at) (Sink_post a b) (Post a b) ∷ []) [] (either (is_marked at)) nil
  where
    either : (t : Bool) → Keeps (cond t (Sink_post a b) (Post a b) ∷ [])
    either true s x c = refl
    either false s x c = refl
done_keeps g a b (Clear x n at) = keeps_cond (x.0 == g) (Clears a b ∷ []) [] (λ s y c. refl) nil
done_keeps g a b (Mark x n heal head) = keeps_cond (x.0 == g) (Marks a b ∷ []) [] (λ s y c. refl) nil
done_keeps g a b (Unmark x n at dirty) = keeps_cond (x.0 == g) (Unmarks a b ∷ []) [] (λ s y c. refl) nil
done_keeps g a b (Make x n child) = keeps_cond (child.gfid.0 == g) (Makes b ∷ []) [] (λ s y c. refl) nil
done_keeps g a b (Made x n child) = keeps_cond (child.0 == g) (Mades b ∷ []) [] (λ s y c. refl) nil
done_keeps g a b (Unmake x n child) = keeps_cond (child.0 == g) (Unmakes b ∷ []) [] (λ s y c. refl) nil
done_keeps g a b (Ask x domain kind) = nil
done_keeps g a b (Release x n) = nil
done_keeps g a b (Query x n) = nil
done_keeps g a b (ReadChunks x n first count) = nil
done_keeps g a b (WriteChunks x n first chunks) = nil
done_keeps g a b (SetLength x n keep count) = nil
done_keeps g a b (NameGet x n name) = nil
done_keeps g a b (NamesAfter x n start) = nil
done_keeps g a b (NameSet x n name child) = nil
done_keeps g a b (NamesPut x n start upto list) = nil
done_keeps g a b (GfidsAfter start dirty) = nil

shown_keeps : (g a b : ℕ) (holder : Option ℕ) (q : Request) → Keeps (acts_shown g a b holder q)
shown_keeps g a b holder (Query x n) = keeps_cond ((x.0 == g) && is_number n holder) (See a b ∷ []) [] (λ s y c. refl) nil
shown_keeps g a b holder q = nil

pub worked_keeps : (g a b : ℕ) (holder : Option ℕ) (q : Request) (says : Says) → Keeps (acts_worked g a b holder q says)
worked_keeps g a b holder q says = keeps_cond (is_done says) (acts_done g a b q) (cond (is_shown says) (acts_shown g a b holder q) []) (done_keeps g a b q) (keeps_cond (is_shown says) (acts_shown g a b holder q) [] (shown_keeps g a b holder q) nil)

-- no act makes a turn one of before the run
pub step_old : (s : State) (e : Act) (a : ℕ) → (step s e).old a ≡ s.old a
step_old s (Grant x b) a = refl
step_old s (Free b) a = refl
step_old s (Share x b) a = refl
step_old s (Unshare x b) a = refl
step_old s (Moment x) a = refl
step_old s (See x b) a = refl
step_old s (Keep x y) a = refl
step_old s (Carry x y b) a = refl
step_old s (Choose x p) a = refl
step_old s (Choose_kept x y p) a = refl
step_old s (Pre x b) a = refl
step_old s (Sink_pre x b) a = refl
step_old s (Post x b) a = refl
step_old s (Sink_post x b) a = refl
step_old s (Clears x b) a = refl
step_old s (Heal_grant h b) a = refl
step_old s (Heal_free b) a = refl
step_old s (Marks x b) a = refl
step_old s (Unmarks x b) a = refl
step_old s (Maker_grant b) a = refl
step_old s (Maker_free b) a = refl
step_old s (Makes b) a = refl
step_old s (Mades b) a = refl
step_old s (Unmakes b) a = refl
step_old s (Stop b) a = refl
step_old s (Replace b) a = refl

pub after_old : (xs : List Act) (s : State) (a : ℕ) → (after xs s).old a ≡ s.old a
after_old [] s a = refl
after_old (x ∷ xs) s a = after_old xs (step s x) a ∙ step_old s x a

-- a message that is sent grants nothing
pub sent_keeps : (g : ℕ) (s : State) (a : ℕ) (body : Body) → Keeps (acts_sent g s a body)
sent_keeps g s a (ToClient re reply) = nil
sent_keeps g s a (ToBrick (Query x n)) = keeps_cond (x.0 == g) (cond (s.moment a) [] (Moment a ∷ [])) [] (keeps_cond (s.moment a) [] (Moment a ∷ []) nil (λ t y c. refl)) nil
sent_keeps g s a (ToBrick (PreOp x n at number)) = keeps_cond (x.0 == g) _ [] (keeps_cond ((s.ballot a).number == 0) (Choose a _ ∷ []) [] (λ t y c. refl) nil) nil
sent_keeps g s a (ToBrick (Mark x n heal head)) = keeps_cond (x.0 == g) _ [] (keeps_cond ((s.ballot a).number == 0) (Choose a _ ∷ []) [] (λ t y c. refl) nil) nil
sent_keeps g s a (ToBrick (Unmark x n at dirty)) = keeps_cond (x.0 == g) _ [] (keeps_cond ((s.ballot a).number == 0) (Choose a _ ∷ []) [] (λ t y c. refl) nil) nil
sent_keeps g s a (ToBrick (Ask x domain kind)) = nil
sent_keeps g s a (ToBrick (Release x n)) = nil
sent_keeps g s a (ToBrick (ReadChunks x n first count)) = nil
sent_keeps g s a (ToBrick (WriteChunks x n first chunks)) = nil
sent_keeps g s a (ToBrick (SetLength x n keep count)) = nil
sent_keeps g s a (ToBrick (PostOp x n at version size attr)) = nil
sent_keeps g s a (ToBrick (Clear x n at)) = nil
sent_keeps g s a (ToBrick (NameGet x n name)) = nil
sent_keeps g s a (ToBrick (NamesAfter x n start)) = nil
sent_keeps g s a (ToBrick (NameSet x n name child)) = nil
sent_keeps g s a (ToBrick (NamesPut x n start upto list)) = nil
sent_keeps g s a (ToBrick (Make x n child)) = nil
sent_keeps g s a (ToBrick (Made x n child)) = nil
sent_keeps g s a (ToBrick (Unmake x n child)) = nil
sent_keeps g s a (ToBrick (GfidsAfter start dirty)) = nil

-- Who is granted by what becomes of locks is the turn of the grant that stands then.
abbrev pub Newly : (ℕ → ℕ) → ℕ → Option ℕ → State → State → Type 0
Newly of b now s t = (a c : ℕ) → t.granted a c ≡ true → (s.granted a c ≡ true) ⊎ ((c ≡ b) × (i : ℕ) × (now ≡ Some i) × (a ≡ of i))

given : (of : ℕ → ℕ) (b i : ℕ) (s : State) → Newly of b (Some i) s (step s (Grant (of i) b))
given of b i s a c e = at ((a == of i) && (c == b)) refl e
  where
    at : (t : Bool) → ((a == of i) && (c == b)) ≡ t → cond t true (s.granted a c) ≡ true → (s.granted a c ≡ true) ⊎ ((c ≡ b) × (j : ℕ) × (Some i ≡ Some j) × (a ≡ of j))
    at true f h = inr (grind (arith, nat_tests), i, refl, grind (arith, nat_tests))
    at false f h = inl h

content_newly : (of : ℕ → ℕ) (b : ℕ) (old new : Option ℕ) (s : State) → Newly of b new s (after (acts_changed (Free b) (λ i. Grant (of i) b) old new) s)
content_newly of b None None s a c e = inl e
content_newly of b None (Some j) s a c e = given of b j s a c e
content_newly of b (Some i) None s a c e = inl e
content_newly of b (Some i) (Some j) s a c e = at (i == j) e
  where
    at : (t : Bool) → (after (cond t [] (freed (Free b) (Some i) ++ granted (λ i. Grant (of i) b) (Some j))) s).granted a c ≡ true → (s.granted a c ≡ true) ⊎ ((c ≡ b) × (x : ℕ) × (Some j ≡ Some x) × (a ≡ of x))
    at true h = inl h
    at false h = given of b j (step s (Free b)) a c h

heal_keeps : (of : ℕ → ℕ) (b : ℕ) (old new : Option ℕ) → Keeps (acts_changed (Heal_free b) (λ i. Heal_grant (of i) b) old new)
heal_keeps of b None None = nil
heal_keeps of b None (Some j) = λ s a c. refl
heal_keeps of b (Some i) None = λ s a c. refl
heal_keeps of b (Some i) (Some j) = keeps_cond (i == j) [] (freed (Heal_free b) (Some i) ++ granted (λ i. Heal_grant (of i) b) (Some j)) nil (λ s a c. refl)

maker_keeps : (r : State) (b : ℕ) (old new : Bool) → Keeps (acts_maker r b old new)
maker_keeps r b false true = keeps_cond r.making [] (Maker_grant b ∷ []) nil (λ s a c. refl)
maker_keeps r b true false = λ s a c. refl
maker_keeps r b true true = nil
maker_keeps r b false false = nil

pub locks_newly : (g : ℕ) (m : Net) (v : View) (b : ℕ) (old new : List Asking) (s : State) → Newly v.of b (exclusive g Inode new) s (after (acts_locks g m v b old new) s)
locks_newly g m v b old new s a c e =
    let p = acts_changed (Heal_free b) (λ i. Heal_grant (call_of (m.said i)) b) (exclusive g Heal old) (exclusive g Heal new) in
    let q = acts_changed (Free b) (λ i. Grant (v.of i) b) (exclusive g Inode old) (exclusive g Inode new) in
    let r = acts_maker v.core b (has_directory m.said v.maker old) (has_directory m.said v.maker new) in
    let h = subst (λ (t : State). t.granted a c ≡ true) (after_both p (q ++ r) s ∙ after_both q r (after p s)) e in
    let w = maker_keeps v.core b (has_directory m.said v.maker old) (has_directory m.said v.maker new) (after q (after p s)) a c in
    ⊎_elim (λ x. inl (sym (heal_keeps (λ i. call_of (m.said i)) b (exclusive g Heal old) (exclusive g Heal new) s a c) ∙ x)) (λ x. inr x) (content_newly v.of b (exclusive g Inode old) (exclusive g Inode new) (after p s) a c (sym w ∙ h))
