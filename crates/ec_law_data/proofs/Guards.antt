-- The guards of deeds that follow from those of their acts, and what deeds leave of plans.
use Rattle.std.proofs.Common.{◌≡◌, ◌⊎◌, ℕ, Bool, true, false, cond, ◌==◌, ◌&&◌, Option, Some, None, List, [], ◌∷◌, ◌++◌, map, refl, sym, ◌∙◌, subst, inl, inr}
use Rattle.ec_attr.specs.Marks.{is_marked}
use Rattle.ec_attr.specs.declared.kind.Domain.TheVariants.{Inode, Heal}
use Rattle.ec_locks.specs.declared.ask.Ask.{Ask as Asking}
use Rattle.ec_brick.specs.Replies.{Says}
use Rattle.ec_history.specs.Run.{Net, call_of, is_number}
use Rattle.ec_history.specs.Story.{is_done}
use Rattle.ec_wire.specs.declared.message.Body.{Body}
use Rattle.ec_wire.specs.declared.message.Body.TheVariants.{ToBrick, ToClient}
use Rattle.ec_wire.specs.declared.request.Request.{Request}
use Rattle.ec_wire.specs.declared.request.Request.TheVariants.{Ask, Release, Query, PreOp, ReadChunks, WriteChunks, SetLength, PostOp, Clear as ClearOf, NameGet, NamesAfter, NameSet, NamesPut, Make as MakeOf, Made as MadeOf, Unmake as UnmakeOf, Mark as MarkOf, Unmark as UnmarkOf, GfidsAfter}
use Rattle.ec_law_base.specs.State.{State}
use Rattle.ec_law_ballots.specs.Act.{Act, step as act_step}
use Rattle.ec_law_ballots.specs.Act.Act.{Grant, Free, Share, Unshare, Moment, See, Keep, Carry, Choose, Choose_kept, Pre, Sink_pre, Post, Sink_post, Clear, Heal_grant, Heal_free, Mark, Unmark, Maker_grant, Maker_free, Make, Made, Unmake, Stop, Replace}
use Rattle.ec_law_ballots.specs.Guard.{May, Runs}
use Rattle.ec_law_ballots.specs.Words.{met}
use Rattle.ec_law_pieces.specs.Deed.{Deed, MayDo, Runs as DeedsRun, after as after_deeds, step}
use Rattle.ec_law_pieces.specs.Deed.Deed.{Commit, Follow}
use Rattle.ec_law_pieces.specs.File.{File, Form}
use Rattle.ec_law_net.specs.Turns.{View, acts_changed, acts_done, acts_locks, acts_maker, acts_sent, acts_shown, acts_worked, exclusive, freed, granted, has_directory, is_shown, same}
use Rattle.ec_law_data.specs.Deeds.{dressed, is_post_on}
use Rattle.ec_law_data.specs.Owing.{AllOwe, Owes}
use Rattle.ec_law_data.specs.Reading.{Plans, Reading}

-- an act of which nothing more is needed: no PostOp, and no heal's Mark or Unmark
abbrev pub is_easy : Act → Bool
is_easy (Post a b) = false
is_easy (Sink_post a b) = false
is_easy (Mark a b) = false
is_easy (Unmark a b) = false
is_easy e = true

abbrev pub Easy : List Act → Type 0
Easy [] = Unit {0}
Easy (e ∷ es) = (is_easy e ≡ true) × Easy es

pub easy_both : (xs ys : List Act) → Easy xs → Easy ys → Easy (xs ++ ys)
easy_both [] ys h i = i
easy_both (x ∷ xs) ys h i = (h.0, easy_both xs ys h.1 i)

pub easy_if : (t : Bool) (xs ys : List Act) → Easy xs → Easy ys → Easy (cond t xs ys)
easy_if true xs ys h i = h
easy_if false xs ys h i = i

easy_changed : (free : Act) (grant : ℕ → Act) → is_easy free ≡ true → ((i : ℕ) → is_easy (grant i) ≡ true) → (old new : Option ℕ) → Easy (acts_changed free grant old new)
easy_changed free grant h i old new = easy_if (same old new) [] (freed free old ++ granted grant new) tt (easy_both (freed free old) (granted grant new) (frees old) (grants new))
  where
    frees : (o : Option ℕ) → Easy (freed free o)
    frees None = tt
    frees (Some x) = (h, tt)

    grants : (o : Option ℕ) → Easy (granted grant o)
    grants None = tt
    grants (Some x) = (i x, tt)

easy_maker : (s : State) (b : ℕ) (old new : Bool) → Easy (acts_maker s b old new)
easy_maker s b false true = easy_if s.making [] (Maker_grant b ∷ []) tt (refl, tt)
easy_maker s b true false = (refl, tt)
easy_maker s b true true = tt
easy_maker s b false false = tt

pub easy_locks : (g : ℕ) (m : Net) (v : View) (b : ℕ) (old new : List Asking) → Easy (acts_locks g m v b old new)
easy_locks g m v b old new =
    easy_both (acts_changed (Heal_free b) (λ i. Heal_grant (call_of (m.said i)) b) (exclusive g Heal old) (exclusive g Heal new)) _ (easy_changed (Heal_free b) (λ i. Heal_grant (call_of (m.said i)) b) refl (λ i. refl) (exclusive g Heal old) (exclusive g Heal new))
    (easy_both (acts_changed (Free b) (λ i. Grant (v.of i) b) (exclusive g Inode old) (exclusive g Inode new)) _ (easy_changed (Free b) (λ i. Grant (v.of i) b) refl (λ i. refl) (exclusive g Inode old) (exclusive g Inode new))
    (easy_maker v.core b (has_directory m.said v.maker old) (has_directory m.said v.maker new)))

pub easy_sent : (g : ℕ) (s : State) (a : ℕ) (body : Body) → Easy (acts_sent g s a body)
easy_sent g s a (ToClient re reply) = tt
easy_sent g s a (ToBrick (Ask x domain kind)) = tt
easy_sent g s a (ToBrick (Release x n)) = tt
easy_sent g s a (ToBrick (Query x n)) = easy_if (x.0 == g) _ [] (easy_if (s.moment a) [] (Moment a ∷ []) tt (refl, tt)) tt
easy_sent g s a (ToBrick (PreOp x n at dirty)) = easy_if (x.0 == g) _ [] (easy_if ((s.ballot a).number == 0) _ [] (refl, tt) tt) tt
easy_sent g s a (ToBrick (ReadChunks x n first count)) = tt
easy_sent g s a (ToBrick (WriteChunks x n first chunks)) = tt
easy_sent g s a (ToBrick (SetLength x n keep count)) = tt
easy_sent g s a (ToBrick (PostOp x n at version size attr)) = tt
easy_sent g s a (ToBrick (ClearOf x n at)) = tt
easy_sent g s a (ToBrick (NameGet x n name)) = tt
easy_sent g s a (ToBrick (NamesAfter x n start)) = tt
easy_sent g s a (ToBrick (NameSet x n name child)) = tt
easy_sent g s a (ToBrick (NamesPut x n start upto list)) = tt
easy_sent g s a (ToBrick (MakeOf x n child)) = tt
easy_sent g s a (ToBrick (MadeOf x n child)) = tt
easy_sent g s a (ToBrick (UnmakeOf x n child)) = tt
easy_sent g s a (ToBrick (MarkOf x n heal head)) = easy_if (x.0 == g) _ [] (easy_if ((s.ballot a).number == 0) _ [] (refl, tt) tt) tt
easy_sent g s a (ToBrick (UnmarkOf x n at dirty)) = easy_if (x.0 == g) _ [] (easy_if ((s.ballot a).number == 0) _ [] (refl, tt) tt) tt
easy_sent g s a (ToBrick (GfidsAfter start dirty)) = tt

easy_shown : (g a b : ℕ) (holder : Option ℕ) (q : Request) → Easy (acts_shown g a b holder q)
easy_shown g a b holder (Ask x domain kind) = tt
easy_shown g a b holder (Release x n) = tt
easy_shown g a b holder (Query x n) = easy_if ((x.0 == g) && is_number n holder) _ [] (refl, tt) tt
easy_shown g a b holder (PreOp x n at dirty) = tt
easy_shown g a b holder (ReadChunks x n first count) = tt
easy_shown g a b holder (WriteChunks x n first chunks) = tt
easy_shown g a b holder (SetLength x n keep count) = tt
easy_shown g a b holder (PostOp x n at version size attr) = tt
easy_shown g a b holder (ClearOf x n at) = tt
easy_shown g a b holder (NameGet x n name) = tt
easy_shown g a b holder (NamesAfter x n start) = tt
easy_shown g a b holder (NameSet x n name child) = tt
easy_shown g a b holder (NamesPut x n start upto list) = tt
easy_shown g a b holder (MakeOf x n child) = tt
easy_shown g a b holder (MadeOf x n child) = tt
easy_shown g a b holder (UnmakeOf x n child) = tt
easy_shown g a b holder (MarkOf x n heal head) = tt
easy_shown g a b holder (UnmarkOf x n at dirty) = tt
easy_shown g a b holder (GfidsAfter start dirty) = tt

-- a Mark or Unmark on the gfid
abbrev pub is_marking : ℕ → Request → Bool
is_marking g (MarkOf x n heal head) = x.0 == g
is_marking g (UnmarkOf x n at dirty) = x.0 == g
is_marking g q = false

either : (t : Bool) (x y : Act) → is_easy x ≡ true → is_easy y ≡ true → is_easy (cond t x y) ≡ true
either true x y h i = h
either false x y h i = i

none_of : (t : Bool) (xs : List Act) → t ≡ false → Easy (cond t xs [])
none_of true xs e = absurd (cc)
none_of false xs e = tt

easy_done : (g a b : ℕ) (q : Request) → is_post_on g q ≡ false → is_marking g q ≡ false → Easy (acts_done g a b q)
easy_done g a b (Ask x domain kind) e d = tt
easy_done g a b (Release x n) e d = tt
easy_done g a b (Query x n) e d = tt
easy_done g a b (PreOp x n at dirty) e d = easy_if (x.0 == g) _ [] (either (is_marked at) (Sink_pre a b) (Pre a b) refl refl, tt) tt
easy_done g a b (ReadChunks x n first count) e d = tt
easy_done g a b (WriteChunks x n first chunks) e d = tt
easy_done g a b (SetLength x n keep count) e d = tt
easy_done g a b (PostOp x n at version size attr) e d = none_of (x.0 == g) _ e
easy_done g a b (ClearOf x n at) e d = easy_if (x.0 == g) _ [] (refl, tt) tt
easy_done g a b (NameGet x n name) e d = tt
easy_done g a b (NamesAfter x n start) e d = tt
easy_done g a b (NameSet x n name child) e d = tt
easy_done g a b (NamesPut x n start upto list) e d = tt
easy_done g a b (MakeOf x n child) e d = easy_if (child.gfid.0 == g) _ [] (refl, tt) tt
easy_done g a b (MadeOf x n child) e d = easy_if (child.0 == g) _ [] (refl, tt) tt
easy_done g a b (UnmakeOf x n child) e d = easy_if (child.0 == g) _ [] (refl, tt) tt
easy_done g a b (MarkOf x n heal head) e d = none_of (x.0 == g) _ d
easy_done g a b (UnmarkOf x n at dirty) e d = none_of (x.0 == g) _ d
easy_done g a b (GfidsAfter start dirty) e d = tt

-- of a request that isn't done, or is no PostOp on the gfid
pub easy_worked : (g a b : ℕ) (holder : Option ℕ) (q : Request) (says : Says) → (is_done says && is_post_on g q) ≡ false → is_marking g q ≡ false → Easy (acts_worked g a b holder q says)
easy_worked g a b holder q says e d = at (is_done says) refl
  where
    at : (t : Bool) → is_done says ≡ t → Easy (cond t (acts_done g a b q) (cond (is_shown says) (acts_shown g a b holder q) []))
    at true u = easy_done g a b q (subst (λ (t : Bool). (t && is_post_on g q) ≡ false) u e) d
    at false u = easy_if (is_shown says) (acts_shown g a b holder q) [] (easy_shown g a b holder q) tt

-- a PostOp that is done, on a marked record or on another one
pub worked_post : (g a b : ℕ) (holder : Option ℕ) (q : Request) (says : Says) → is_done says ≡ true → is_post_on g q ≡ true → (acts_worked g a b holder q says ≡ Post a b ∷ []) ⊎ (acts_worked g a b holder q says ≡ Sink_post a b ∷ [])
worked_post g a b holder q says d e = subst (λ (t : Bool). (cond t (acts_done g a b q) (cond (is_shown says) (acts_shown g a b holder q) []) ≡ Post a b ∷ []) ⊎ (cond t (acts_done g a b q) (cond (is_shown says) (acts_shown g a b holder q) []) ≡ Sink_post a b ∷ [])) (sym d) (posts q e)
  where
    posts : (q : Request) → is_post_on g q ≡ true → (acts_done g a b q ≡ Post a b ∷ []) ⊎ (acts_done g a b q ≡ Sink_post a b ∷ [])
    posts (PostOp x n at version size attr) e = subst (λ (t : Bool). (cond t (cond (is_marked at) (Sink_post a b) (Post a b) ∷ []) [] ≡ Post a b ∷ []) ⊎ (cond t (cond (is_marked at) (Sink_post a b) (Post a b) ∷ []) [] ≡ Sink_post a b ∷ [])) (sym e) (by (is_marked at))
      where
        by : (t : Bool) → (cond t (Sink_post a b) (Post a b) ∷ [] ≡ Post a b ∷ []) ⊎ (cond t (Sink_post a b) (Post a b) ∷ [] ≡ Sink_post a b ∷ [])
        by true = inr refl
        by false = inl refl
    posts (Ask x domain kind) e = absurd (cc)
    posts (Release x n) e = absurd (cc)
    posts (Query x n) e = absurd (cc)
    posts (PreOp x n at dirty) e = absurd (cc)
    posts (ReadChunks x n first count) e = absurd (cc)
    posts (WriteChunks x n first chunks) e = absurd (cc)
    posts (SetLength x n keep count) e = absurd (cc)
    posts (ClearOf x n at) e = absurd (cc)
    posts (NameGet x n name) e = absurd (cc)
    posts (NamesAfter x n start) e = absurd (cc)
    posts (NameSet x n name child) e = absurd (cc)
    posts (NamesPut x n start upto list) e = absurd (cc)
    posts (MakeOf x n child) e = absurd (cc)
    posts (MadeOf x n child) e = absurd (cc)
    posts (UnmakeOf x n child) e = absurd (cc)
    posts (MarkOf x n heal head) e = absurd (cc)
    posts (UnmarkOf x n at dirty) e = absurd (cc)
    posts (GfidsAfter start dirty) e = absurd (cc)

module _ {P V C U S : Type 0} (form : Form P V C U S) (n k : ℕ) where
  pub owe_both : (xs ys : List (Deed P V C U S)) (f : File P V C U S) → AllOwe form n k (xs ++ ys) f → AllOwe form n k xs f × AllOwe form n k ys (after_deeds form n k xs f)
  owe_both [] ys f h = (tt, h)
  owe_both (x ∷ xs) ys f h = let o = owe_both xs ys (step form n k f x) h.1 in ((h.0, o.0), o.1)

  pub run_both : (xs ys : List (Deed P V C U S)) (f : File P V C U S) → DeedsRun form n k xs f → DeedsRun form n k ys (after_deeds form n k xs f) → DeedsRun form n k (xs ++ ys) f
  run_both [] ys f h i = i
  run_both (x ∷ xs) ys f h i = (h.0, run_both xs ys (step form n k f x) h.1 i)

module _ {P V C U S : Type 0} (R : Reading P V C U S) (plans : Plans P V U S) (n k g : ℕ) where
  dressed_heads : (e : Act) (f : File P V C U S) → (step R.form n k f (dressed R plans n k g e)).heads ≡ act_step f.heads e
  dressed_heads (Grant a b) f = refl
  dressed_heads (Free b) f = refl
  dressed_heads (Share a b) f = refl
  dressed_heads (Unshare a b) f = refl
  dressed_heads (Moment a) f = refl
  dressed_heads (See a b) f = refl
  dressed_heads (Keep x a) f = refl
  dressed_heads (Carry a x b) f = refl
  dressed_heads (Choose a p) f = refl
  dressed_heads (Choose_kept x a p) f = refl
  dressed_heads (Pre a b) f = refl
  dressed_heads (Sink_pre a b) f = refl
  dressed_heads (Post a b) f = refl
  dressed_heads (Sink_post a b) f = refl
  dressed_heads (Clear a b) f = refl
  dressed_heads (Heal_grant h b) f = refl
  dressed_heads (Heal_free b) f = refl
  dressed_heads (Mark a b) f = refl
  dressed_heads (Unmark a b) f = refl
  dressed_heads (Maker_grant b) f = refl
  dressed_heads (Maker_free b) f = refl
  dressed_heads (Make b) f = refl
  dressed_heads (Made b) f = refl
  dressed_heads (Unmake b) f = refl
  dressed_heads (Stop b) f = refl
  dressed_heads (Replace b) f = refl

  dressed_may : (e : Act) (f : File P V C U S) → is_easy e ≡ true → May n k f.heads e → Owes R.form n k f (dressed R plans n k g e) → MayDo R.form n k f (dressed R plans n k g e)
  dressed_may (Grant a b) f e may owes = (may, refl)
  dressed_may (Free b) f e may owes = (may, refl)
  dressed_may (Share a b) f e may owes = (may, refl)
  dressed_may (Unshare a b) f e may owes = (may, refl)
  dressed_may (Moment a) f e may owes = (may, refl)
  dressed_may (See a b) f e may owes = may
  dressed_may (Keep x a) f e may owes = (may, refl)
  dressed_may (Carry a x b) f e may owes = (may, refl)
  dressed_may (Choose a p) f e may owes = (may, owes)
  dressed_may (Choose_kept x a p) f e may owes = may
  dressed_may (Pre a b) f e may owes = (may, refl)
  dressed_may (Sink_pre a b) f e may owes = (may, refl)
  dressed_may (Post a b) f e may owes = absurd (cc)
  dressed_may (Sink_post a b) f e may owes = absurd (cc)
  dressed_may (Clear a b) f e may owes = (may, refl)
  dressed_may (Heal_grant h b) f e may owes = (may, refl)
  dressed_may (Heal_free b) f e may owes = (may, refl)
  dressed_may (Mark a b) f e may owes = absurd (cc)
  dressed_may (Unmark a b) f e may owes = absurd (cc)
  dressed_may (Maker_grant b) f e may owes = (may, refl)
  dressed_may (Maker_free b) f e may owes = (may, refl)
  dressed_may (Make b) f e may owes = (may, owes)
  dressed_may (Made b) f e may owes = (may, refl)
  dressed_may (Unmake b) f e may owes = (may, refl)
  dressed_may (Stop b) f e may owes = (may, refl)
  dressed_may (Replace b) f e may owes = (may, refl)

  -- acts run as deeds
  pub easy_run : (es : List Act) (f : File P V C U S) → Easy es → Runs n k es f.heads → AllOwe R.form n k (map (dressed R plans n k g) es) f → DeedsRun R.form n k (map (dressed R plans n k g) es) f
  easy_run [] f h runs owes = refl
  easy_run (e ∷ es) f h runs owes = (dressed_may e f h.0 runs.0 owes.0, easy_run es (step R.form n k f (dressed R plans n k g e)) h.1 (subst (Runs n k es) (sym (dressed_heads e f)) runs.1) owes.1)

  -- and so does a PostOp of a turn that has planned and met the brick
  pub post_run : (a b : ℕ) (es : List Act) (f : File P V C U S) → Easy es → f.planned a ≡ true → met f.heads a b ≡ true → Runs n k (Post a b ∷ es) f.heads → AllOwe R.form n k (map (dressed R plans n k g) (Post a b ∷ es)) f → DeedsRun R.form n k (map (dressed R plans n k g) (Post a b ∷ es)) f
  post_run a b es f h planned met runs owes = ((runs.0, planned, met, owes.0), easy_run es (step R.form n k f (Commit a b)) h runs.1 owes.1)

  pub sink_run : (a b : ℕ) (es : List Act) (f : File P V C U S) → Easy es → f.planned a ≡ true → met f.heads a b ≡ true → Runs n k (Sink_post a b ∷ es) f.heads → AllOwe R.form n k (map (dressed R plans n k g) (Sink_post a b ∷ es)) f → DeedsRun R.form n k (map (dressed R plans n k g) (Sink_post a b ∷ es)) f
  sink_run a b es f h planned met runs owes = ((runs.0, planned, met, owes.0), easy_run es (step R.form n k f (Follow a b)) h runs.1 owes.1)

  -- plans stay, and each turn counts as a call of its own
  pub dressed_plans : (e : Act) (f : File P V C U S) → ((step R.form n k f (dressed R plans n k g e)).planned ≡ f.planned) × ((step R.form n k f (dressed R plans n k g e)).writes ≡ f.writes) × ((step R.form n k f (dressed R plans n k g e)).heads.call ≡ f.heads.call)
  dressed_plans (Grant a b) f = (refl, refl, refl)
  dressed_plans (Free b) f = (refl, refl, refl)
  dressed_plans (Share a b) f = (refl, refl, refl)
  dressed_plans (Unshare a b) f = (refl, refl, refl)
  dressed_plans (Moment a) f = (refl, refl, refl)
  dressed_plans (See a b) f = (refl, refl, refl)
  dressed_plans (Keep x a) f = (refl, refl, refl)
  dressed_plans (Carry a x b) f = (refl, refl, refl)
  dressed_plans (Choose a p) f = (refl, refl, refl)
  dressed_plans (Choose_kept x a p) f = (refl, refl, refl)
  dressed_plans (Pre a b) f = (refl, refl, refl)
  dressed_plans (Sink_pre a b) f = (refl, refl, refl)
  dressed_plans (Post a b) f = (refl, refl, refl)
  dressed_plans (Sink_post a b) f = (refl, refl, refl)
  dressed_plans (Clear a b) f = (refl, refl, refl)
  dressed_plans (Heal_grant h b) f = (refl, refl, refl)
  dressed_plans (Heal_free b) f = (refl, refl, refl)
  dressed_plans (Mark a b) f = (refl, refl, refl)
  dressed_plans (Unmark a b) f = (refl, refl, refl)
  dressed_plans (Maker_grant b) f = (refl, refl, refl)
  dressed_plans (Maker_free b) f = (refl, refl, refl)
  dressed_plans (Make b) f = (refl, refl, refl)
  dressed_plans (Made b) f = (refl, refl, refl)
  dressed_plans (Unmake b) f = (refl, refl, refl)
  dressed_plans (Stop b) f = (refl, refl, refl)
  dressed_plans (Replace b) f = (refl, refl, refl)

  pub acts_plans : (es : List Act) (f : File P V C U S) → ((after_deeds R.form n k (map (dressed R plans n k g) es) f).planned ≡ f.planned) × ((after_deeds R.form n k (map (dressed R plans n k g) es) f).writes ≡ f.writes) × ((after_deeds R.form n k (map (dressed R plans n k g) es) f).heads.call ≡ f.heads.call)
  acts_plans [] f = (refl, refl, refl)
  acts_plans (e ∷ es) f = let o = dressed_plans e f in let p = acts_plans es (step R.form n k f (dressed R plans n k g e)) in (p.0 ∙ o.0, p.1 ∙ o.1, p.2 ∙ o.2)
