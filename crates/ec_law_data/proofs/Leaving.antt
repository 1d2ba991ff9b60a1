-- What the deeds of an entry do to pieces: acts make none but where a record is made.
use Rattle.std.proofs.Common.{◌≡◌, ℕ, Bool, true, false, cond, ◌==◌, ◌&&◌, Option, Some, None, List, [], ◌∷◌, ◌++◌, map, refl, sym, ◌∙◌, ap, subst}
use Rattle.ec_attr.specs.Marks.{is_marked}
use Rattle.ec_locks.specs.declared.ask.Ask.{Ask as Asking}
use Rattle.ec_brick.specs.Replies.{Says}
use Rattle.ec_history.specs.Run.{Net, call_of, is_number}
use Rattle.ec_history.specs.Story.{is_done}
use Rattle.ec_attr.specs.declared.kind.Domain.TheVariants.{Inode, Heal}
use Rattle.ec_wire.specs.declared.message.Body.{Body}
use Rattle.ec_wire.specs.declared.message.Body.TheVariants.{ToBrick, ToClient}
use Rattle.ec_wire.specs.declared.request.Request.{Request}
use Rattle.ec_wire.specs.declared.request.Request.TheVariants.{Ask, Release, Query, PreOp, ReadChunks, WriteChunks, SetLength, PostOp, Clear as ClearOf, NameGet, NamesAfter, NameSet, NamesPut, Make as MakeOf, Made as MadeOf, Unmake as UnmakeOf, Mark as MarkOf, Unmark as UnmarkOf, GfidsAfter}
use Rattle.ec_law_base.specs.State.{State}
use Rattle.ec_law_ballots.specs.Act.{Act}
use Rattle.ec_law_ballots.specs.Act.Act.{Grant, Free, Share, Unshare, Moment, See, Keep, Carry, Choose, Choose_kept, Pre, Sink_pre, Post, Sink_post, Clear, Heal_grant, Heal_free, Mark, Unmark, Maker_grant, Maker_free, Make, Made, Unmake, Stop, Replace}
use Rattle.ec_law_pieces.specs.Deed.{after as after_deeds, step}
use Rattle.ec_law_pieces.specs.File.{File}
use Rattle.ec_law_turns.specs.Once.{is_make_of}
use Rattle.ec_law_net.specs.Turns.{View, acts_changed, acts_done, acts_locks, acts_maker, acts_sent, acts_shown, acts_worked, exclusive, freed, granted, has_directory, is_shown, same}
use Rattle.ec_law_data.specs.Deeds.{dressed}
use Rattle.ec_law_data.specs.Reading.{Plans, Reading}

abbrev pub is_make : Act → Bool
is_make (Make b) = true
is_make e = false

-- no record is made
abbrev pub NoMake : List Act → Type 0
NoMake [] = Unit {0}
NoMake (e ∷ es) = (is_make e ≡ false) × NoMake es

pub makes_both : (xs ys : List Act) → NoMake xs → NoMake ys → NoMake (xs ++ ys)
makes_both [] ys h i = i
makes_both (x ∷ xs) ys h i = (h.0, makes_both xs ys h.1 i)

pub makes_if : (t : Bool) (xs ys : List Act) → NoMake xs → NoMake ys → NoMake (cond t xs ys)
makes_if true xs ys h i = h
makes_if false xs ys h i = i

no_changed : (free : Act) (grant : ℕ → Act) → is_make free ≡ false → ((i : ℕ) → is_make (grant i) ≡ false) → (old new : Option ℕ) → NoMake (acts_changed free grant old new)
no_changed free grant h i old new = makes_if (same old new) [] (freed free old ++ granted grant new) tt (makes_both (freed free old) (granted grant new) (frees old) (grants new))
  where
    frees : (o : Option ℕ) → NoMake (freed free o)
    frees None = tt
    frees (Some x) = (h, tt)

    grants : (o : Option ℕ) → NoMake (granted grant o)
    grants None = tt
    grants (Some x) = (i x, tt)

no_maker : (s : State) (b : ℕ) (old new : Bool) → NoMake (acts_maker s b old new)
no_maker s b false true = makes_if s.making [] (Maker_grant b ∷ []) tt (refl, tt)
no_maker s b true false = (refl, tt)
no_maker s b true true = tt
no_maker s b false false = tt

pub no_locks : (g : ℕ) (m : Net) (v : View) (b : ℕ) (old new : List Asking) → NoMake (acts_locks g m v b old new)
no_locks g m v b old new =
    makes_both (acts_changed (Heal_free b) (λ i. Heal_grant (call_of (m.said i)) b) (exclusive g Heal old) (exclusive g Heal new)) _ (no_changed (Heal_free b) (λ i. Heal_grant (call_of (m.said i)) b) refl (λ i. refl) (exclusive g Heal old) (exclusive g Heal new))
    (makes_both (acts_changed (Free b) (λ i. Grant (v.of i) b) (exclusive g Inode old) (exclusive g Inode new)) _ (no_changed (Free b) (λ i. Grant (v.of i) b) refl (λ i. refl) (exclusive g Inode old) (exclusive g Inode new))
    (no_maker v.core b (has_directory m.said v.maker old) (has_directory m.said v.maker new)))

pub no_sent : (g : ℕ) (s : State) (a : ℕ) (body : Body) → NoMake (acts_sent g s a body)
no_sent g s a (ToClient re reply) = tt
no_sent g s a (ToBrick (Ask x domain kind)) = tt
no_sent g s a (ToBrick (Release x n)) = tt
no_sent g s a (ToBrick (Query x n)) = makes_if (x.0 == g) _ [] (makes_if (s.moment a) [] (Moment a ∷ []) tt (refl, tt)) tt
no_sent g s a (ToBrick (PreOp x n at dirty)) = makes_if (x.0 == g) _ [] (makes_if ((s.ballot a).number == 0) _ [] (refl, tt) tt) tt
no_sent g s a (ToBrick (ReadChunks x n first count)) = tt
no_sent g s a (ToBrick (WriteChunks x n first chunks)) = tt
no_sent g s a (ToBrick (SetLength x n keep count)) = tt
no_sent g s a (ToBrick (PostOp x n at version size attr)) = tt
no_sent g s a (ToBrick (ClearOf x n at)) = tt
no_sent g s a (ToBrick (NameGet x n name)) = tt
no_sent g s a (ToBrick (NamesAfter x n start)) = tt
no_sent g s a (ToBrick (NameSet x n name child)) = tt
no_sent g s a (ToBrick (NamesPut x n start upto list)) = tt
no_sent g s a (ToBrick (MakeOf x n child)) = tt
no_sent g s a (ToBrick (MadeOf x n child)) = tt
no_sent g s a (ToBrick (UnmakeOf x n child)) = tt
no_sent g s a (ToBrick (MarkOf x n heal head)) = makes_if (x.0 == g) _ [] (makes_if ((s.ballot a).number == 0) _ [] (refl, tt) tt) tt
no_sent g s a (ToBrick (UnmarkOf x n at dirty)) = makes_if (x.0 == g) _ [] (makes_if ((s.ballot a).number == 0) _ [] (refl, tt) tt) tt
no_sent g s a (ToBrick (GfidsAfter start dirty)) = tt

no_shown : (g a b : ℕ) (holder : Option ℕ) (q : Request) → NoMake (acts_shown g a b holder q)
no_shown g a b holder (Ask x domain kind) = tt
no_shown g a b holder (Release x n) = tt
no_shown g a b holder (Query x n) = makes_if ((x.0 == g) && is_number n holder) _ [] (refl, tt) tt
no_shown g a b holder (PreOp x n at dirty) = tt
no_shown g a b holder (ReadChunks x n first count) = tt
no_shown g a b holder (WriteChunks x n first chunks) = tt
no_shown g a b holder (SetLength x n keep count) = tt
no_shown g a b holder (PostOp x n at version size attr) = tt
no_shown g a b holder (ClearOf x n at) = tt
no_shown g a b holder (NameGet x n name) = tt
no_shown g a b holder (NamesAfter x n start) = tt
no_shown g a b holder (NameSet x n name child) = tt
no_shown g a b holder (NamesPut x n start upto list) = tt
no_shown g a b holder (MakeOf x n child) = tt
no_shown g a b holder (MadeOf x n child) = tt
no_shown g a b holder (UnmakeOf x n child) = tt
no_shown g a b holder (MarkOf x n heal head) = tt
no_shown g a b holder (UnmarkOf x n at dirty) = tt
no_shown g a b holder (GfidsAfter start dirty) = tt

either : (t : Bool) (x y : Act) → is_make x ≡ false → is_make y ≡ false → is_make (cond t x y) ≡ false
either true x y h i = h
either false x y h i = i

no_done : (g a b : ℕ) (q : Request) → is_make_of g q ≡ false → NoMake (acts_done g a b q)
no_done g a b (Ask x domain kind) e = tt
no_done g a b (Release x n) e = tt
no_done g a b (Query x n) e = tt
no_done g a b (PreOp x n at dirty) e = makes_if (x.0 == g) _ [] (either (is_marked at) (Sink_pre a b) (Pre a b) refl refl, tt) tt
no_done g a b (ReadChunks x n first count) e = tt
no_done g a b (WriteChunks x n first chunks) e = tt
no_done g a b (SetLength x n keep count) e = tt
no_done g a b (PostOp x n at version size attr) e = makes_if (x.0 == g) _ [] (either (is_marked at) (Sink_post a b) (Post a b) refl refl, tt) tt
no_done g a b (ClearOf x n at) e = makes_if (x.0 == g) _ [] (refl, tt) tt
no_done g a b (NameGet x n name) e = tt
no_done g a b (NamesAfter x n start) e = tt
no_done g a b (NameSet x n name child) e = tt
no_done g a b (NamesPut x n start upto list) e = tt
no_done g a b (MakeOf x n child) e = subst (λ (t : Bool). NoMake (cond t (Make b ∷ []) [])) (sym e) tt
no_done g a b (MadeOf x n child) e = makes_if (child.0 == g) _ [] (refl, tt) tt
no_done g a b (UnmakeOf x n child) e = makes_if (child.0 == g) _ [] (refl, tt) tt
no_done g a b (MarkOf x n heal head) e = makes_if (x.0 == g) _ [] (refl, tt) tt
no_done g a b (UnmarkOf x n at dirty) e = makes_if (x.0 == g) _ [] (refl, tt) tt
no_done g a b (GfidsAfter start dirty) e = tt

-- of a request that isn't done, or makes no record of the gfid
pub no_worked : (g a b : ℕ) (holder : Option ℕ) (q : Request) (says : Says) → (is_done says && is_make_of g q) ≡ false → NoMake (acts_worked g a b holder q says)
no_worked g a b holder q says e = at (is_done says) refl
  where
    at : (t : Bool) → is_done says ≡ t → NoMake (cond t (acts_done g a b q) (cond (is_shown says) (acts_shown g a b holder q) []))
    at true u = no_done g a b q (subst (λ (t : Bool). (t && is_make_of g q) ≡ false) u e)
    at false u = makes_if (is_shown says) (acts_shown g a b holder q) [] (no_shown g a b holder q) tt

-- of one that makes it
pub worked_make : (g a b : ℕ) (holder : Option ℕ) (q : Request) (says : Says) → is_done says ≡ true → is_make_of g q ≡ true → acts_worked g a b holder q says ≡ Make b ∷ []
worked_make g a b holder q says d e = subst (λ (t : Bool). cond t (acts_done g a b q) (cond (is_shown says) (acts_shown g a b holder q) []) ≡ Make b ∷ []) (sym d) (makes q e)
  where
    makes : (q : Request) → is_make_of g q ≡ true → acts_done g a b q ≡ Make b ∷ []
    makes (MakeOf x n child) e = ap (λ (t : Bool). cond t (Make b ∷ []) []) e
    makes (Ask x domain kind) e = absurd (cc)
    makes (Release x n) e = absurd (cc)
    makes (Query x n) e = absurd (cc)
    makes (PreOp x n at dirty) e = absurd (cc)
    makes (ReadChunks x n first count) e = absurd (cc)
    makes (WriteChunks x n first chunks) e = absurd (cc)
    makes (SetLength x n keep count) e = absurd (cc)
    makes (PostOp x n at version size attr) e = absurd (cc)
    makes (ClearOf x n at) e = absurd (cc)
    makes (NameGet x n name) e = absurd (cc)
    makes (NamesAfter x n start) e = absurd (cc)
    makes (NameSet x n name child) e = absurd (cc)
    makes (NamesPut x n start upto list) e = absurd (cc)
    makes (MadeOf x n child) e = absurd (cc)
    makes (UnmakeOf x n child) e = absurd (cc)
    makes (MarkOf x n heal head) e = absurd (cc)
    makes (UnmarkOf x n at dirty) e = absurd (cc)
    makes (GfidsAfter start dirty) e = absurd (cc)

module _ {P V C U S : Type 0} (R : Reading P V C U S) (plans : Plans P V U S) (n k g : ℕ) where
  dressed_piece : (e : Act) (f : File P V C U S) → is_make e ≡ false → (step R.form n k f (dressed R plans n k g e)).piece ≡ f.piece
  dressed_piece (Grant a b) f e = refl
  dressed_piece (Free b) f e = refl
  dressed_piece (Share a b) f e = refl
  dressed_piece (Unshare a b) f e = refl
  dressed_piece (Moment a) f e = refl
  dressed_piece (See a b) f e = refl
  dressed_piece (Keep x a) f e = refl
  dressed_piece (Carry a x b) f e = refl
  dressed_piece (Choose a p) f e = refl
  dressed_piece (Choose_kept x a p) f e = refl
  dressed_piece (Pre a b) f e = refl
  dressed_piece (Sink_pre a b) f e = refl
  dressed_piece (Post a b) f e = refl
  dressed_piece (Sink_post a b) f e = refl
  dressed_piece (Clear a b) f e = refl
  dressed_piece (Heal_grant h b) f e = refl
  dressed_piece (Heal_free b) f e = refl
  dressed_piece (Mark a b) f e = refl
  dressed_piece (Unmark a b) f e = refl
  dressed_piece (Maker_grant b) f e = refl
  dressed_piece (Maker_free b) f e = refl
  dressed_piece (Make b) f e = absurd (cc)
  dressed_piece (Made b) f e = refl
  dressed_piece (Unmake b) f e = refl
  dressed_piece (Stop b) f e = refl
  dressed_piece (Replace b) f e = refl

  -- acts that make no record leave all pieces
  pub acts_leave : (es : List Act) (f : File P V C U S) → NoMake es → (after_deeds R.form n k (map (dressed R plans n k g) es) f).piece ≡ f.piece
  acts_leave [] f h = refl
  acts_leave (e ∷ es) f h = acts_leave es (step R.form n k f (dressed R plans n k g e)) h.1 ∙ dressed_piece e f h.0
