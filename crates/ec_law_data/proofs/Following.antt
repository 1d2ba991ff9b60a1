-- The machine of pieces follows one brick: through a request that it executes, whole or in part.
use Rattle.std.proofs.Common.{◌≡◌, ◌≢◌, ◌⊎◌, ℕ, Bool, true, false, cond, ◌==◌, ◌&&◌, Option, Some, None, List, [], ◌∷◌, ◌++◌, map, refl, sym, ◌∙◌, ap, subst, arith, inl, inr}
use Rattle.std.proofs.lemmas.Bool.Decides.{nat_tests}
use Rattle.ec_attr.specs.declared.gfid.Gfid.{Gfid}
use Rattle.ec_attr.specs.declared.head.Head.{Head}
use Rattle.ec_store.specs.Records.{Record, Records}
use Rattle.ec_brick.specs.State.{State as Brick}
use Rattle.ec_brick.specs.Step.{Out}
use Rattle.ec_brick.specs.Work.{work_of}
use Rattle.ec_history.specs.Story.{is_done}
use Rattle.ec_wire.specs.declared.request.Request.{Request}
use Rattle.ec_wire.specs.declared.request.Request.TheVariants.{Ask, Release, Query, PreOp, ReadChunks, WriteChunks, SetLength, PostOp, Clear, NameGet, NamesAfter, NameSet, NamesPut, Make, Made, Unmake, Mark, Unmark, GfidsAfter}
use Rattle.ec_law_ballots.specs.Act.{Act}
use Rattle.ec_law_ballots.specs.Act.Act.{Make as Makes}
use Rattle.ec_law_pieces.specs.Deed.{Deed, after as after_deeds, step}
use Rattle.ec_law_pieces.specs.Deed.Deed.{Read, Write, Tear, Spoil}
use Rattle.ec_law_pieces.specs.File.{File}
use Rattle.ec_law_turns.specs.Once.{is_make_of}
use Rattle.ec_law_data.specs.Deeds.{deeds_answered, deeds_done, deeds_partly, dressed, is_at_base, is_granted, pieces_of, shows}
use Rattle.ec_law_data.specs.Link.{Codes, Fits, IsBeside, IsWhole, IsWriter, NoMark, left_by}
use Rattle.ec_law_data.specs.Reading.{Plans, Reading}
use Rattle.ec_law_data.proofs.Cores.{deeds_both}
use Rattle.ec_law_data.proofs.Leaving.{NoMake, acts_leave}
use Rattle.ec_law_data.proofs.Outs.{Rests, Works, unworked}
use Rattle.ec_law_data.proofs.Recording.{made_empty, work_beside, work_held}

-- a request that writes data makes no record
writers_make_none : (g : ℕ) (q : Request) → IsWriter g q → is_make_of g q ≡ false
writers_make_none g (Ask x domain kind) w = absurd w
writers_make_none g (Release x n) w = absurd w
writers_make_none g (Query x n) w = absurd w
writers_make_none g (PreOp x n at dirty) w = absurd w
writers_make_none g (ReadChunks x n first count) w = absurd w
writers_make_none g (WriteChunks x n first chunks) w = refl
writers_make_none g (SetLength x n keep count) w = refl
writers_make_none g (PostOp x n at version size attr) w = absurd w
writers_make_none g (Clear x n at) w = absurd w
writers_make_none g (NameGet x n name) w = absurd w
writers_make_none g (NamesAfter x n start) w = absurd w
writers_make_none g (NameSet x n name child) w = refl
writers_make_none g (NamesPut x n start upto list) w = refl
writers_make_none g (Make x n child) w = absurd w
writers_make_none g (Made x n child) w = absurd w
writers_make_none g (Unmake x n child) w = absurd w
writers_make_none g (Mark x n heal head) w = absurd w
writers_make_none g (Unmark x n at dirty) w = absurd w
writers_make_none g (GfidsAfter start dirty) w = absurd w

some_record : (o : Option Record) → (o ≡ None → ⊥) → (r : Record) × (o ≡ Some r)
some_record None h = absurd (h refl)
some_record (Some r) h = (r, refl)

same_brick : (b : ℕ) → (b == b) ≡ true
same_brick b = grind (arith, nat_tests)

other_brick : (c b : ℕ) → c ≢ b → (c == b) ≡ false
other_brick c b ne = pick (c == b) refl
  where
    pick : (t : Bool) → (c == b) ≡ t → (c == b) ≡ false
    pick false e = e
    pick true e = absurd (ne (equal c b e))
      where
        equal : (x y : ℕ) → (x == y) ≡ true → x ≡ y
        equal x y e = grind (arith, nat_tests)

module _ {P V C U S : Type 0} (R : Reading P V C U S) (fits : Fits R) (plans : Plans P V U S) (n k g : ℕ) where
  abbrev pub HasAt : Records → (ℕ → P → C) → ℕ → Type 0
  HasAt records piece b = (r : Record) → records g ≡ Some r → (p : P) → piece b p ≡ R.held r p

  -- the pieces at brick b are those of these records, and the others' are as they were
  pub record Follows (f f' : File P V C U S) (b : ℕ) (records : Records) : Type 0 where
    pub here : HasAt records f'.piece b
    pub there : (c : ℕ) (p : P) → c ≢ b → f'.piece c p ≡ f.piece c p

  pub after_data : (ds : List (Deed P V C U S)) (es : List Act) (f : File P V C U S) → NoMake es → (after_deeds R.form n k (ds ++ map (dressed R plans n k g) es) f).piece ≡ (after_deeds R.form n k ds f).piece
  after_data ds es f h = ap (λ (z : File P V C U S). z.piece) (deeds_both R.form n k ds (map (dressed R plans n k g) es) f) ∙ acts_leave R plans n k g es (after_deeds R.form n k ds f) h

  -- the same of the same pieces
  pub follows_as : (f f' h : File P V C U S) (b : ℕ) (records : Records) → h.piece ≡ f'.piece → Follows f f' b records → Follows f h b records
  follows_as f f' h b records e l = record {
    here = λ r is p. ap (λ (z : ℕ → P → C). z b p) e ∙ l.here r is p;
    there = λ c p ne. ap (λ (z : ℕ → P → C). z c p) e ∙ l.there c p ne;
  }

  pub follows_same : (f : File P V C U S) (b : ℕ) (old now : Records) → HasAt old f.piece b → now ≡ old → Follows f f b now
  follows_same f b old now has e = record { here = λ r is p. has r (sym (ap (λ (z : Records). z g) e) ∙ is) p; there = λ c p ne. refl }

  module _ (f : File P V C U S) (a b : ℕ) (s : Brick) (q : Request) (has : HasAt s.records f.piece b) (whole : IsWhole q) (unmarked : NoMark R g q) where
    -- these pieces at the places of the request
    module _ (f' : File P V C U S) (x : P → C) (puts : (c : ℕ) (p : P) → f'.piece c p ≡ cond ((c == b) && R.writes g q p) (x p) (f.piece c p)) where
      at_b : (p : P) → f'.piece b p ≡ cond (R.writes g q p) (x p) (f.piece b p)
      at_b p = puts b p ∙ ap (λ (t : Bool). cond (t && R.writes g q p) (x p) (f.piece b p)) (same_brick b)

      pub put_follows : (now : Records) → ((r' : Record) → now g ≡ Some r' → (r : Record) × (s.records g ≡ Some r)) → ((r r' : Record) (p : P) → s.records g ≡ Some r → now g ≡ Some r' → R.writes g q p ≡ true → x p ≡ R.held r' p) → ((r r' : Record) (p : P) → s.records g ≡ Some r → now g ≡ Some r' → R.writes g q p ≡ false → R.held r' p ≡ R.held r p) → Follows f f' b now
      put_follows now was inside outside = record {
        here = λ r' is p. at_b p ∙ here r' is p (R.writes g q p) refl;
        there = λ c p ne. puts c p ∙ ap (λ (t : Bool). cond (t && R.writes g q p) (x p) (f.piece c p)) (other_brick c b ne);
      }
        where
          here : (r' : Record) → now g ≡ Some r' → (p : P) (t : Bool) → R.writes g q p ≡ t → cond t (x p) (f.piece b p) ≡ R.held r' p
          here r' is p true e = let w = was r' is in inside w.0 r' p w.1 is e
          here r' is p false e = let w = was r' is in has w.0 w.1 p ∙ sym (outside w.0 r' p w.1 is e)

    -- what a brick has after it
    now_held : (now : Records) (r' : Record) (p : P) → now g ≡ Some r' → pieces_of R plans n k g (now g) p ≡ R.held r' p
    now_held now r' p e = ap (λ (o : Option Record). pieces_of R plans n k g o p) e

    -- a part of it may stand
    pub partly_follows : (now : Brick) → ((r' : Record) → now.records g ≡ Some r' → (r : Record) × (s.records g ≡ Some r)) → ((r r' : Record) (p : P) → s.records g ≡ Some r → now.records g ≡ Some r' → R.writes g q p ≡ false → R.held r' p ≡ R.held r p) → Follows f (after_deeds R.form n k (deeds_partly R plans n k g a b q s now) f) b now.records
    partly_follows now was outside = at (is_granted s q)
      where
        at : (t : Bool) → Follows f (after_deeds R.form n k (cond t (Tear a b (R.writes g q) (pieces_of R plans n k g (now.records g))) (Spoil b (R.writes g q) (pieces_of R plans n k g (now.records g))) ∷ []) f) b now.records
        at true = put_follows (after_deeds R.form n k (Tear a b (R.writes g q) (pieces_of R plans n k g (now.records g)) ∷ []) f) (pieces_of R plans n k g (now.records g)) (λ c p. refl) now.records was (λ r r' p e is t. now_held now.records r' p is) outside
        at false = put_follows (after_deeds R.form n k (Spoil b (R.writes g q) (pieces_of R plans n k g (now.records g)) ∷ []) f) (pieces_of R plans n k g (now.records g)) (λ c p. refl) now.records was (λ r r' p e is t. now_held now.records r' p is) outside

    no_mark : (x : Gfid) (i heal : ℕ) (head : Head) → q ≡ Mark x i heal head → x.0 ≢ g
    no_mark x i heal head e z = subst (λ (y : Request). NoMark R g y) e unmarked z

    -- a request of data found a record
    found : (now : Records) → now ≡ work_of s.config q s.records → is_make_of g q ≡ false → (r' : Record) → now g ≡ Some r' → (r : Record) × (s.records g ≡ Some r)
    found now w e r' is = some_record (s.records g) (λ none. absurd (let m = made_empty s.config g q s.records r' no_mark none (sym (ap (λ (z : Records). z g) w) ∙ is) in let x = sym e ∙ m.0 in cc))

    module _ (o : Out) (codes : R.is_write g q ≡ true → is_granted s q ≡ true → is_done o.says ≡ true → Codes R f g a b q) where
      done_follows : Works g s q o → is_done o.says ≡ true → R.is_write g q ≡ true → Follows f (after_deeds R.form n k (deeds_done R plans n k g a b q s o.brick) f) b o.brick.records
      done_follows w done write = at (is_granted s q) refl
        where
          now : (r' : Record) → o.brick.records g ≡ Some r' → work_of s.config q s.records g ≡ Some r'
          now r' is = sym (ap (λ (z : Records). z g) w.records) ∙ is

          inside : (r' : Record) (p : P) (y : C) → R.writes g q p ≡ true → R.held r' p ≡ left_by R g q p y → R.held r' p ≡ R.puts q p
          inside r' p y t e = e ∙ (ap (λ (u : Bool). cond (u && R.writes g q p) (R.puts q p) y) write ∙ ap (λ (u : Bool). cond u (R.puts q p) y) t)

          beside : (p : P) → R.writes g q p ≡ false → IsBeside R g q p
          beside p t = ap (λ (u : Bool). u && R.writes g q p) write ∙ t

          was : (r' : Record) → o.brick.records g ≡ Some r' → (r : Record) × (s.records g ≡ Some r)
          was = found o.brick.records w.records (writers_make_none g q (fits.writers g q write))

          at : (t : Bool) → is_granted s q ≡ t → Follows f (after_deeds R.form n k (cond t (Write a b (R.writes g q)) (Spoil b (R.writes g q) (pieces_of R plans n k g (o.brick.records g))) ∷ []) f) b o.brick.records
          at true e = put_follows (after_deeds R.form n k (Write a b (R.writes g q) ∷ []) f) (λ p. R.form.code (f.value a p) b) (λ c p. refl) o.brick.records was (λ r r' p is is' t. sym (codes write e done p t) ∙ sym (inside r' p (R.held r p) t (work_held R fits g s.config s q s.records r r' p whole e is (now r' is')))) (λ r r' p is is' t. work_beside R fits g s.config s q s.records r r' p whole (beside p t) is (now r' is'))
          at false e = put_follows (after_deeds R.form n k (Spoil b (R.writes g q) (pieces_of R plans n k g (o.brick.records g)) ∷ []) f) (pieces_of R plans n k g (o.brick.records g)) (λ c p. refl) o.brick.records was (λ r r' p is is' t. now_held o.brick.records r' p is') (λ r r' p is is' t. work_beside R fits g s.config s q s.records r r' p whole (beside p t) is (now r' is'))

      read_leaves : (t : Bool) → (after_deeds R.form n k (cond t (Read a b (R.reads g q) ∷ []) []) f).piece ≡ f.piece
      read_leaves true = refl
      read_leaves false = refl

      not_done : is_done o.says ≡ false → (after_deeds R.form n k (deeds_answered R plans n k g f a b q s o) f).piece ≡ f.piece
      not_done e = ap (λ (t : Bool). (after_deeds R.form n k (cond t (cond (R.is_write g q) (deeds_done R plans n k g a b q s o.brick) []) (cond (shows o.says && R.is_read g q && is_at_base f.heads a b) (Read a b (R.reads g q) ∷ []) [])) f).piece) e ∙ read_leaves (shows o.says && R.is_read g q && is_at_base f.heads a b)

      is_done_deeds : is_done o.says ≡ true → deeds_answered R plans n k g f a b q s o ≡ cond (R.is_write g q) (deeds_done R plans n k g a b q s o.brick) []
      is_done_deeds e = ap (λ (t : Bool). cond t (cond (R.is_write g q) (deeds_done R plans n k g a b q s o.brick) []) (cond (shows o.says && R.is_read g q && is_at_base f.heads a b) (Read a b (R.reads g q) ∷ []) [])) e

      -- a request that the brick answered, with its acts
      pub answered : (es rest : List Act) → ((is_done o.says && is_make_of g q) ≡ false → NoMake es) → NoMake rest → (is_done o.says ≡ true → is_make_of g q ≡ true → es ≡ Makes b ∷ rest) → Works g s q o ⊎ Rests s o → Follows f (after_deeds R.form n k (deeds_answered R plans n k g f a b q s o ++ map (dressed R plans n k g) es) f) b o.brick.records
      answered es rest plain later makes (inr d) = follows_as f f _ b o.brick.records (after_data (deeds_answered R plans n k g f a b q s o) es f (plain (ap (λ (t : Bool). t && is_make_of g q) d.says)) ∙ not_done d.says) (follows_same f b s.records o.brick.records has d.records)
      answered es rest plain later makes (inl w) = by (is_done o.says) refl
        where
          by : (t : Bool) → is_done o.says ≡ t → Follows f (after_deeds R.form n k (deeds_answered R plans n k g f a b q s o ++ map (dressed R plans n k g) es) f) b o.brick.records
          by false e = follows_as f f _ b o.brick.records (after_data (deeds_answered R plans n k g f a b q s o) es f (plain (ap (λ (t : Bool). t && is_make_of g q) e)) ∙ not_done e) (follows_same f b s.records o.brick.records has (w.records ∙ unworked s q (sym (ap is_done w.says) ∙ e)))
          by true e = write (R.is_write g q) refl
            where
              write : (t : Bool) → R.is_write g q ≡ t → Follows f (after_deeds R.form n k (deeds_answered R plans n k g f a b q s o ++ map (dressed R plans n k g) es) f) b o.brick.records
              write true u = follows_as f (after_deeds R.form n k (deeds_done R plans n k g a b q s o.brick) f) _ b o.brick.records (after_data (deeds_answered R plans n k g f a b q s o) es f (plain (ap (λ (t : Bool). is_done o.says && t) (writers_make_none g q (fits.writers g q u)) ∙ and_false (is_done o.says))) ∙ ap (λ (z : List (Deed P V C U S)). (after_deeds R.form n k z f).piece) (is_done_deeds e ∙ ap (λ (t : Bool). cond t (deeds_done R plans n k g a b q s o.brick) []) u)) (done_follows w e u)
                where
                  and_false : (t : Bool) → (t && false) ≡ false
                  and_false true = refl
                  and_false false = refl
              write false u = make (is_make_of g q) refl
                where
                  none : deeds_answered R plans n k g f a b q s o ≡ []
                  none = is_done_deeds e ∙ ap (λ (t : Bool). cond t (deeds_done R plans n k g a b q s o.brick) []) u

                  make : (t : Bool) → is_make_of g q ≡ t → Follows f (after_deeds R.form n k (deeds_answered R plans n k g f a b q s o ++ map (dressed R plans n k g) es) f) b o.brick.records
                  make false m = follows_as f f _ b o.brick.records (after_data (deeds_answered R plans n k g f a b q s o) es f (plain (ap (λ (t : Bool). t && is_make_of g q) e ∙ m)) ∙ ap (λ (z : List (Deed P V C U S)). (after_deeds R.form n k z f).piece) none) (record {
                    here = λ r' is p. let r = found o.brick.records w.records m r' is in has r.0 r.1 p ∙ sym (work_beside R fits g s.config s q s.records r.0 r' p whole (ap (λ (t : Bool). t && R.writes g q p) u) r.1 (sym (ap (λ (z : Records). z g) w.records) ∙ is));
                    there = λ c p ne. refl;
                  })
                  make true m = subst (λ (z : List (Deed P V C U S)). Follows f (after_deeds R.form n k (z ++ map (dressed R plans n k g) es) f) b o.brick.records) (sym none) (subst (λ (z : List Act). Follows f (after_deeds R.form n k (map (dressed R plans n k g) z) f) b o.brick.records) (sym (makes e m)) (follows_as f (step R.form n k f (dressed R plans n k g (Makes b))) _ b o.brick.records (acts_leave R plans n k g rest (step R.form n k f (dressed R plans n k g (Makes b))) later) (record {
                    here = λ r' is p. let d = made_empty s.config g q s.records r' no_mark (w.absent m) (sym (ap (λ (z : Records). z g) w.records) ∙ is) in ap (λ (t : Bool). cond t (R.form.code R.form.zero b) (f.piece b p)) (same_brick b) ∙ (sym (fits.made d.1 p b) ∙ sym (ap (λ (z : Record). R.held z p) d.2));
                    there = λ c p ne. ap (λ (t : Bool). cond t (R.form.code R.form.zero b) (f.piece c p)) (other_brick c b ne);
                  })))
