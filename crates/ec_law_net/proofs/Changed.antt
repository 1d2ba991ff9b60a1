-- What comes of grants that end and are given.
use Rattle.std.proofs.Common.{◌≡◌, ◌≢◌, ℕ, Bool, true, false, cond, ◌==◌, Option, Some, None, List, [], ◌∷◌, ◌++◌, refl, ◌∙◌, ap, arith}
use Rattle.std.proofs.lemmas.Bool.Decides.{nat_tests}
use Rattle.std.specs.Option.{option_map}
use Rattle.ec_law_base.specs.State.{State}
use Rattle.ec_law_ballots.specs.Act.{Act, after, step}
use Rattle.ec_law_ballots.specs.Act.Act.{Grant, Free, Heal_grant, Heal_free, Maker_grant}
use Rattle.ec_law_ballots.specs.Guard.{Runs}
use Rattle.ec_law_net.specs.Turns.{acts_changed, acts_maker, freed, granted}

-- two parts of a run, and what comes of them
pub after_both : (xs ys : List Act) (s : State) → after (xs ++ ys) s ≡ after ys (after xs s)
after_both [] ys s = refl
after_both (x ∷ xs) ys s = after_both xs ys (step s x)

pub runs_both : (n k : ℕ) (xs ys : List Act) (s : State) → Runs n k xs s → Runs n k ys (after xs s) → Runs n k (xs ++ ys) s
runs_both n k [] ys s h i = i
runs_both n k (x ∷ xs) ys s h i = (h.0, runs_both n k xs ys (step s x) h.1 i)

-- heads, and what no grant changes
pub record Same (s t : State) : Type 0 where
  pub present : (c : ℕ) → t.present c ≡ s.present c
  pub version : (c : ℕ) → t.version c ≡ s.version c
  pub dirty : (c : ℕ) → t.dirty c ≡ s.dirty c
  pub marked : (c : ℕ) → t.marked c ≡ s.marked c
  pub removed : (c : ℕ) → t.removed c ≡ s.removed c
  pub carries : (a : ℕ) → t.carries a ≡ s.carries a
  pub shares : (a d : ℕ) → t.shares a d ≡ s.shares a d
  pub reads : (a : ℕ) → t.reads a ≡ s.reads a
  pub making : t.making ≡ s.making

pub same_on : {s t u : State} → Same s t → Same t u → Same s u
same_on f h = record {
  present = λ c. h.present c ∙ f.present c;
  version = λ c. h.version c ∙ f.version c;
  dirty = λ c. h.dirty c ∙ f.dirty c;
  marked = λ c. h.marked c ∙ f.marked c;
  removed = λ c. h.removed c ∙ f.removed c;
  carries = λ a. h.carries a ∙ f.carries a;
  shares = λ a d. h.shares a d ∙ f.shares a d;
  reads = λ a. h.reads a ∙ f.reads a;
  making = h.making ∙ f.making;
}

pub same_self : (s : State) → Same s s
same_self s = record { present = λ c. refl; version = λ c. refl; dirty = λ c. refl; marked = λ c. refl; removed = λ c. refl; carries = λ a. refl; shares = λ a d. refl; reads = λ a. refl; making = refl }

-- no turn carries grants over, has a shared one or asks for one
pub record OwnGrants (s : State) : Type 0 where
  pub carries : (a : ℕ) → s.carries a ≡ None
  pub shares : (a b : ℕ) → s.shares a b ≡ false
  pub reads : (a : ℕ) → s.reads a ≡ false

pub own_after : {s t : State} → Same s t → OwnGrants s → OwnGrants t
own_after h o = record { carries = λ a. h.carries a ∙ o.carries a; shares = λ a b. h.shares a b ∙ o.shares a b; reads = λ a. h.reads a ∙ o.reads a }

-- at brick b the content's grant is this one now
pub record ContentIs (n k : ℕ) (acts : List Act) (s : State) (b : ℕ) (now : Option ℕ) : Type 0 where
  pub runs : Runs n k acts s
  pub same : Same s (after acts s)
  pub holder : (c : ℕ) → (after acts s).holder c ≡ cond (c == b) now (s.holder c)
  pub healer : (c : ℕ) → (after acts s).healer c ≡ s.healer c
  pub maker : (c : ℕ) → (after acts s).maker c ≡ s.maker c

module _ (n k : ℕ) (s : State) (b : ℕ) (of : ℕ → ℕ) (own : OwnGrants s) where
  content_stays : (now : Option ℕ) → s.holder b ≡ now → ContentIs n k [] s b now
  content_stays now e = record { runs = refl; same = same_self s; holder = λ c. grind (arith, nat_tests); healer = λ c. refl; maker = λ c. refl }

  content_given : (i : ℕ) → s.holder b ≡ None → s.granted (of i) b ≡ false → s.old (of i) ≡ false → ContentIs n k (Grant (of i) b ∷ []) s b (Some (of i))
  content_given i e once real = record { runs = ((e, once, real, own.carries (of i), own.reads (of i), λ x. own.shares x b), refl); same = record { present = λ c. refl; version = λ c. refl; dirty = λ c. refl; marked = λ c. refl; removed = λ c. refl; carries = λ a. refl; shares = λ a d. refl; reads = λ a. refl; making = refl }; holder = λ c. refl; healer = λ c. refl; maker = λ c. refl }

  content_freed : ContentIs n k (Free b ∷ []) s b None
  content_freed = record { runs = (refl, refl); same = record { present = λ c. refl; version = λ c. refl; dirty = λ c. refl; marked = λ c. refl; removed = λ c. refl; carries = λ a. refl; shares = λ a d. refl; reads = λ a. refl; making = refl }; holder = λ c. refl; healer = λ c. refl; maker = λ c. refl }

  content_passed : (i : ℕ) → s.granted (of i) b ≡ false → s.old (of i) ≡ false → ContentIs n k (Free b ∷ Grant (of i) b ∷ []) s b (Some (of i))
  content_passed i once real = record { runs = (refl, ((grind (arith, nat_tests), once, real, own.carries (of i), own.reads (of i), λ x. own.shares x b), refl)); same = record { present = λ c. refl; version = λ c. refl; dirty = λ c. refl; marked = λ c. refl; removed = λ c. refl; carries = λ a. refl; shares = λ a d. refl; reads = λ a. refl; making = refl }; holder = λ c. grind (arith, nat_tests); healer = λ c. refl; maker = λ c. refl }

  pub content : (old new : Option ℕ) → s.holder b ≡ option_map of old → ((i : ℕ) → new ≡ Some i → old ≢ Some i → (s.granted (of i) b ≡ false) × (s.old (of i) ≡ false)) → ContentIs n k (acts_changed (Free b) (λ i. Grant (of i) b) old new) s b (option_map of new)
  content None None e ready = content_stays None e
  content None (Some j) e ready = let r = ready j refl (λ (h : None ≡ Some j). cc) in content_given j e r.0 r.1
  content (Some i) None e ready = content_freed
  content (Some i) (Some j) e ready = either (i == j) refl
    where
      either : (t : Bool) → (i == j) ≡ t → ContentIs n k (cond t [] (freed (Free b) (Some i) ++ granted (λ i. Grant (of i) b) (Some j))) s b (Some (of j))
      either true h = content_stays (Some (of j)) (e ∙ ap (λ (x : ℕ). Some (of x)) (grind (arith, nat_tests)))
      either false h = let r = ready j refl (λ (q : Some i ≡ Some j). grind (arith, nat_tests)) in content_passed j r.0 r.1

-- at brick b the Heal grant is this one now
pub record HealIs (n k : ℕ) (acts : List Act) (s : State) (b : ℕ) (now : Option ℕ) : Type 0 where
  pub runs : Runs n k acts s
  pub same : Same s (after acts s)
  pub healer : (c : ℕ) → (after acts s).healer c ≡ cond (c == b) now (s.healer c)
  pub holder : (c : ℕ) → (after acts s).holder c ≡ s.holder c
  pub maker : (c : ℕ) → (after acts s).maker c ≡ s.maker c
  pub granted : (a c : ℕ) → (after acts s).granted a c ≡ s.granted a c
  pub old : (a : ℕ) → (after acts s).old a ≡ s.old a

module _ (n k : ℕ) (s : State) (b : ℕ) (of : ℕ → ℕ) where
  heal_stays : (now : Option ℕ) → s.healer b ≡ now → HealIs n k [] s b now
  heal_stays now e = record { runs = refl; same = same_self s; healer = λ c. grind (arith, nat_tests); holder = λ c. refl; maker = λ c. refl; granted = λ a c. refl; old = λ a. refl }

  heal_given : (i : ℕ) → s.healer b ≡ None → ((a : ℕ) → s.call a ≡ of i → s.granted a b ≡ false) → HealIs n k (Heal_grant (of i) b ∷ []) s b (Some (of i))
  heal_given i e once = record { runs = ((e, once), refl); same = record { present = λ c. refl; version = λ c. refl; dirty = λ c. refl; marked = λ c. refl; removed = λ c. refl; carries = λ a. refl; shares = λ a d. refl; reads = λ a. refl; making = refl }; healer = λ c. refl; holder = λ c. refl; maker = λ c. refl; granted = λ a c. refl; old = λ a. refl }

  heal_freed : HealIs n k (Heal_free b ∷ []) s b None
  heal_freed = record { runs = (refl, refl); same = record { present = λ c. refl; version = λ c. refl; dirty = λ c. refl; marked = λ c. refl; removed = λ c. refl; carries = λ a. refl; shares = λ a d. refl; reads = λ a. refl; making = refl }; healer = λ c. refl; holder = λ c. refl; maker = λ c. refl; granted = λ a c. refl; old = λ a. refl }

  heal_passed : (i : ℕ) → ((a : ℕ) → s.call a ≡ of i → s.granted a b ≡ false) → HealIs n k (Heal_free b ∷ Heal_grant (of i) b ∷ []) s b (Some (of i))
  heal_passed i once = record { runs = (refl, ((grind (arith, nat_tests), once), refl)); same = record { present = λ c. refl; version = λ c. refl; dirty = λ c. refl; marked = λ c. refl; removed = λ c. refl; carries = λ a. refl; shares = λ a d. refl; reads = λ a. refl; making = refl }; healer = λ c. grind (arith, nat_tests); holder = λ c. refl; maker = λ c. refl; granted = λ a c. refl; old = λ a. refl }

  pub heal : (old new : Option ℕ) → s.healer b ≡ option_map of old → ((i : ℕ) → new ≡ Some i → old ≢ Some i → (a : ℕ) → s.call a ≡ of i → s.granted a b ≡ false) → HealIs n k (acts_changed (Heal_free b) (λ i. Heal_grant (of i) b) old new) s b (option_map of new)
  heal None None e ready = heal_stays None e
  heal None (Some j) e ready = heal_given j e (ready j refl (λ (h : None ≡ Some j). cc))
  heal (Some i) None e ready = heal_freed
  heal (Some i) (Some j) e ready = either (i == j) refl
    where
      either : (t : Bool) → (i == j) ≡ t → HealIs n k (cond t [] (freed (Heal_free b) (Some i) ++ granted (λ i. Heal_grant (of i) b) (Some j))) s b (Some (of j))
      either true h = heal_stays (Some (of j)) (e ∙ ap (λ (x : ℕ). Some (of x)) (grind (arith, nat_tests)))
      either false h = heal_passed j (ready j refl (λ (q : Some i ≡ Some j). grind (arith, nat_tests)))

-- the maker has the directory at brick b only where it has it now
pub record MakerIs (n k : ℕ) (acts : List Act) (s : State) (b : ℕ) (now : Bool) : Type 0 where
  pub runs : Runs n k acts s
  pub same : Same s (after acts s)
  pub here : (after acts s).maker b ≡ true → now ≡ true
  pub others : (c : ℕ) → c ≢ b → (after acts s).maker c ≡ s.maker c
  pub holder : (c : ℕ) → (after acts s).holder c ≡ s.holder c
  pub healer : (c : ℕ) → (after acts s).healer c ≡ s.healer c

pub maker : (n k : ℕ) (r s : State) (b : ℕ) (old new : Bool) → s.making ≡ r.making → (s.maker b ≡ true → old ≡ true) → MakerIs n k (acts_maker r b old new) s b new
maker n k r s b false true making was = either r.making refl
  where
    either : (t : Bool) → r.making ≡ t → MakerIs n k (cond t [] (Maker_grant b ∷ [])) s b true
    either true e = record { runs = refl; same = same_self s; here = λ h. refl; others = λ c ne. refl; holder = λ c. refl; healer = λ c. refl }
    either false e = record { runs = (making ∙ e, refl); same = record { present = λ c. refl; version = λ c. refl; dirty = λ c. refl; marked = λ c. refl; removed = λ c. refl; carries = λ a. refl; shares = λ a d. refl; reads = λ a. refl; making = refl }; here = λ h. refl; others = λ c ne. grind (arith, nat_tests); holder = λ c. refl; healer = λ c. refl }
maker n k r s b true false making was = record { runs = (refl, refl); same = record { present = λ c. refl; version = λ c. refl; dirty = λ c. refl; marked = λ c. refl; removed = λ c. refl; carries = λ a. refl; shares = λ a d. refl; reads = λ a. refl; making = refl }; here = λ h. grind (arith, nat_tests); others = λ c ne. grind (arith, nat_tests); holder = λ c. refl; healer = λ c. refl }
maker n k r s b true true making was = record { runs = refl; same = same_self s; here = λ h. refl; others = λ c ne. refl; holder = λ c. refl; healer = λ c. refl }
maker n k r s b false false making was = record { runs = refl; same = same_self s; here = was; others = λ c ne. refl; holder = λ c. refl; healer = λ c. refl }
