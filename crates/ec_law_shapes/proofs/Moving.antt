-- What a request that a brick executes makes of shapes, of what was told and of what the machine saw.
use Rattle.std.proofs.Common.{◌≡◌, ℕ, Bool, true, false, not, cond, ◌==◌, ◌&&◌, ◌||◌, Option, Some, List, [], ◌∷◌, ◌++◌, map, refl, sym, ◌∙◌, ap, subst}
use Rattle.std.proofs.lemmas.List.{map-append}
use Rattle.ec_attr.specs.Marks.{is_marked}
use Rattle.ec_attr.specs.declared.attr.Attr.{Attr}
use Rattle.ec_attr.specs.declared.gfid.Gfid.{Gfid}
use Rattle.ec_attr.specs.declared.kind.Child.{Child}
use Rattle.ec_wire.specs.declared.request.Request.{Request}
use Rattle.ec_wire.specs.declared.request.Request.TheVariants.{Query, PreOp, PostOp, Clear, Make, Made, Unmake, Mark, Unmark}
use Rattle.ec_brick.specs.Replies.{Says}
use Rattle.ec_history.specs.Run.{is_number}
use Rattle.ec_history.specs.Story.{is_done}
use Rattle.ec_law_base.specs.State.{State, put, put2, target}
use Rattle.ec_law_ballots.specs.Act.{Act}
use Rattle.ec_law_ballots.specs.Act.Act.{Clear as Clears, Made as Mades, Make as Makes_it, Post, Pre, See, Sink_post, Sink_pre, Unmake as Unmakes}
use Rattle.ec_law_ballots.specs.Words.{head}
use Rattle.ec_law_pieces.specs.Deed.{Deed, after as after_deeds}
use Rattle.ec_law_pieces.specs.File.{File}
use Rattle.ec_law_net.specs.Turns.{acts_done, acts_shown, acts_worked, is_shown}
use Rattle.ec_law_turns.specs.Once.{is_make_of}
use Rattle.ec_law_turns.proofs.Basics.{equal}
use Rattle.ec_law_data.specs.Deeds.{dressed, is_post_on}
use Rattle.ec_law_data.specs.Reading.{Plans, Reading}
use Rattle.ec_law_data.proofs.Cores.{deeds_both}
use Rattle.ec_law_data.proofs.Guards.{is_marking}
use Rattle.ec_law_shapes.proofs.Quiet.{Calm, Same, calm_acts, calm_if, same_then}

abbrev pub is_special : ℕ → Request → Says → Bool
is_special g q says = is_done says && (is_post_on g q || is_make_of g q)

-- ## Acts

-- the acts of a request
pub data Works (g a b : ℕ) (q : Request) (says : Says) (es : List Act) : Type 0 where
  Calmly : Calm es → is_special g q says ≡ false → Works g a b q says es
  Sees : (x : Gfid) (i : ℕ) → q ≡ Query x i → x.0 ≡ g → is_done says ≡ false → es ≡ See a b ∷ [] → Works g a b q says es
  Posts : (x : Gfid) (i at version size : ℕ) (attr : Option Attr) → q ≡ PostOp x i at version size attr → x.0 ≡ g → is_done says ≡ true → es ≡ cond (is_marked at) (Sink_post a b) (Post a b) ∷ [] → Works g a b q says es
  Makes : (x : Gfid) (i : ℕ) (child : Child) → q ≡ Make x i child → child.gfid.0 ≡ g → is_done says ≡ true → es ≡ Makes_it b ∷ [] → Works g a b q says es

shut : (t u : Bool) → u ≡ false → (t && u) ≡ false
shut true u e = e
shut false u e = refl

module _ (g a b : ℕ) (says : Says) where
  calm_one : (e : Act) → Calm (e ∷ []) → (t : Bool) (q : Request) → (is_post_on g q || is_make_of g q) ≡ false → Works g a b q says (cond t (e ∷ []) [])
  calm_one e h t q other = Calmly (calm_if t (e ∷ []) [] h tt) (shut (is_done says) (is_post_on g q || is_make_of g q) other)

  calm_none : (q : Request) → (is_post_on g q || is_make_of g q) ≡ false → Works g a b q says []
  calm_none q other = Calmly tt (shut (is_done says) (is_post_on g q || is_make_of g q) other)

  pre_calm : (t : Bool) → Calm (cond t (Sink_pre a b) (Pre a b) ∷ [])
  pre_calm true = (refl, tt)
  pre_calm false = (refl, tt)

  posts : (x : Gfid) (i at version size : ℕ) (attr : Option Attr) → is_done says ≡ true → (t : Bool) → (x.0 == g) ≡ t → Works g a b (PostOp x i at version size attr) says (cond t (cond (is_marked at) (Sink_post a b) (Post a b) ∷ []) [])
  posts x i at version size attr d true e = Posts x i at version size attr refl (equal x.0 g e) d refl
  posts x i at version size attr d false e = calm_none (PostOp x i at version size attr) (ap (λ (t : Bool). t || false) e)

  makes : (x : Gfid) (i : ℕ) (child : Child) → is_done says ≡ true → (t : Bool) → (child.gfid.0 == g) ≡ t → Works g a b (Make x i child) says (cond t (Makes_it b ∷ []) [])
  makes x i child d true e = Makes x i child refl (equal child.gfid.0 g e) d refl
  makes x i child d false e = calm_none (Make x i child) e

  none_marked : (q : Request) (t : Bool) (es : List Act) → t ≡ false → (is_post_on g q || is_make_of g q) ≡ false → Works g a b q says (cond t es [])
  none_marked q true es e other = absurd (cc)
  none_marked q false es e other = calm_none q other

  works_done : (q : Request) → is_marking g q ≡ false → is_done says ≡ true → Works g a b q says (acts_done g a b q)
  works_done (PreOp x i at number) k d = calm_one (cond (is_marked at) (Sink_pre a b) (Pre a b)) (pre_calm (is_marked at)) (x.0 == g) (PreOp x i at number) refl
  works_done (PostOp x i at version size attr) k d = posts x i at version size attr d (x.0 == g) refl
  works_done (Clear x i at) k d = calm_one (Clears a b) (refl, tt) (x.0 == g) (Clear x i at) refl
  works_done (Mark x i heal hd) k d = none_marked (Mark x i heal hd) (x.0 == g) _ k refl
  works_done (Unmark x i at dirty) k d = none_marked (Unmark x i at dirty) (x.0 == g) _ k refl
  works_done (Make x i child) k d = makes x i child d (child.gfid.0 == g) refl
  works_done (Made x i child) k d = calm_one (Mades b) (refl, tt) (child.0 == g) (Made x i child) refl
  works_done (Unmake x i child) k d = calm_one (Unmakes b) (refl, tt) (child.0 == g) (Unmake x i child) refl
  works_done q k d = calm_none q refl

  undone : (q : Request) → is_done says ≡ false → is_special g q says ≡ false
  undone q d = ap (λ (t : Bool). t && (is_post_on g q || is_make_of g q)) d

  both_true : (t u : Bool) → (t && u) ≡ true → t ≡ true
  both_true true u e = refl
  both_true false u e = absurd (cc)

  works_shown : (holder : Option ℕ) (q : Request) → is_done says ≡ false → Works g a b q says (acts_shown g a b holder q)
  works_shown holder (Query x i) d = by ((x.0 == g) && is_number i holder) refl
    where
      by : (t : Bool) → ((x.0 == g) && is_number i holder) ≡ t → Works g a b (Query x i) says (cond t (See a b ∷ []) [])
      by true e = Sees x i refl (equal x.0 g (both_true (x.0 == g) (is_number i holder) e)) d refl
      by false e = Calmly tt (undone (Query x i) d)
  works_shown holder q d = Calmly tt (undone q d)

  pub works : (holder : Option ℕ) (q : Request) → is_marking g q ≡ false → Works g a b q says (acts_worked g a b holder q says)
  works holder q k = by (is_done says) refl
    where
      told : (t : Bool) → is_done says ≡ false → Works g a b q says (cond t (acts_shown g a b holder q) [])
      told true d = works_shown holder q d
      told false d = Calmly tt (undone q d)

      by : (t : Bool) → is_done says ≡ t → Works g a b q says (cond t (acts_done g a b q) (cond (is_shown says) (acts_shown g a b holder q) []))
      by true d = works_done q k d
      by false d = told (is_shown says) d

-- ## The machine

-- turns' shapes and plans stay
pub record Stays {P V C U S : Type 0} (f f' : File P V C U S) : Type 0 where
  pub took : f'.took ≡ f.took
  pub planned : f'.planned ≡ f.planned
  pub becomes : f'.becomes ≡ f.becomes

-- what the request does
pub data Moves {P V C U S : Type 0} (new : S) (g a b : ℕ) (q : Request) (says : Says) (f f' : File P V C U S) : Type 0 where
  Still : Same f f' → is_special g q says ≡ false → Moves new g a b q says f f'
  Saw : (x : Gfid) (i : ℕ) → q ≡ Query x i → x.0 ≡ g → is_done says ≡ false → Stays f f' → f'.shape ≡ f.shape → f'.shape_of ≡ f.shape_of → f'.heads.making ≡ f.heads.making
      → f'.told ≡ put2 f.told a b (f.shape b) → f'.heads.seen ≡ put2 f.heads.seen a b (Some (head f.heads b)) → Moves new g a b q says f f'
  Posted : (x : Gfid) (i at version size : ℕ) (attr : Option Attr) → q ≡ PostOp x i at version size attr → x.0 ≡ g → is_done says ≡ true → Stays f f' → f'.told ≡ f.told → f'.heads.seen ≡ f.heads.seen → f'.heads.making ≡ f.heads.making
      → f'.shape ≡ put f.shape b (f.becomes a) → f'.shape_of ≡ put f.shape_of (target (f.heads.ballot a)) (f.becomes a) → Moves new g a b q says f f'
  Created : (x : Gfid) (i : ℕ) (child : Child) → q ≡ Make x i child → child.gfid.0 ≡ g → is_done says ≡ true → Stays f f' → f'.told ≡ f.told → f'.heads.seen ≡ f.heads.seen
      → f'.shape ≡ put f.shape b new → ((v : ℕ) → f'.shape_of v ≡ cond (f.heads.making || not (v == 0)) (f.shape_of v) new) → Moves new g a b q says f f'

module _ {P V C U S : Type 0} (R : Reading P V C U S) (plans : Plans P V U S) (n k g a b : ℕ) (q : Request) (says : Says) (f f1 : File P V C U S) (first : Same f f1) (heads : f1.heads ≡ f.heads) (f3 : File P V C U S) where
  abbrev mid : List Act → File P V C U S
  mid es = after_deeds R.form n k (map (dressed R plans n k g) es) f1

  stays : (f2 : File P V C U S) → f2.took ≡ f1.took → f2.planned ≡ f1.planned → f2.becomes ≡ f1.becomes → Same f2 f3 → Stays f f3
  stays f2 took planned becomes last = record { took = last.took ∙ (took ∙ first.took); planned = last.planned ∙ (planned ∙ first.planned); becomes = last.becomes ∙ (becomes ∙ first.becomes) }

  moves_by : (es : List Act) → Works g a b q says es → Same (mid es) f3 → Moves R.new g a b q says f f3
  moves_by es (Calmly calm other) last = Still (same_then f f1 f3 first (same_then f1 (mid es) f3 (calm_acts R plans n k g es f1 calm) last)) other
  moves_by es (Sees x i is on d e) last =
      let l = subst (λ (xs : List Act). Same (mid xs) f3) e last in
      Saw x i is on d (stays (mid (See a b ∷ [])) refl refl refl l) (l.shape ∙ first.shape) (l.shape_of ∙ first.shape_of) (l.making ∙ first.making)
      (l.told ∙ (ap (λ (z : ℕ → ℕ → S). put2 z a b (f1.shape b)) first.told ∙ ap (λ (z : ℕ → S). put2 f.told a b (z b)) first.shape))
      (l.seen ∙ ap (λ (s : State). put2 s.seen a b (Some (head s b))) heads)
  moves_by es (Posts x i at version size attr is on d e) last = by (is_marked at) (subst (λ (xs : List Act). Same (mid xs) f3) e last)
    where
      done : (f2 : File P V C U S) → f2.took ≡ f1.took → f2.planned ≡ f1.planned → f2.becomes ≡ f1.becomes → f2.told ≡ f1.told → f2.heads.seen ≡ f1.heads.seen → f2.heads.making ≡ f1.heads.making → f2.shape ≡ put f1.shape b (f1.becomes a) → f2.shape_of ≡ put f1.shape_of (target (f1.heads.ballot a)) (f1.becomes a) → Same f2 f3 → Moves R.new g a b q says f f3
      done f2 took planned becomes told seen making shape shape_of l = Posted x i at version size attr is on d (stays f2 took planned becomes l) (l.told ∙ (told ∙ first.told)) (l.seen ∙ (seen ∙ first.seen)) (l.making ∙ (making ∙ first.making))
          (l.shape ∙ (shape ∙ (ap (λ (z : ℕ → S). put z b (f1.becomes a)) first.shape ∙ ap (λ (z : ℕ → S). put f.shape b (z a)) first.becomes)))
          (l.shape_of ∙ (shape_of ∙ (ap (λ (z : ℕ → S). put z (target (f1.heads.ballot a)) (f1.becomes a)) first.shape_of ∙ (ap (λ (z : ℕ → S). put f.shape_of (target (f1.heads.ballot a)) (z a)) first.becomes ∙ ap (λ (s : State). put f.shape_of (target (s.ballot a)) (f.becomes a)) heads))))

      by : (t : Bool) → Same (mid (cond t (Sink_post a b) (Post a b) ∷ [])) f3 → Moves R.new g a b q says f f3
      by true l = done (mid (Sink_post a b ∷ [])) refl refl refl refl refl refl refl refl l
      by false l = done (mid (Post a b ∷ [])) refl refl refl refl refl refl refl refl l
  moves_by es (Makes x i child is on d e) last =
      let l = subst (λ (xs : List Act). Same (mid xs) f3) e last in
      Created x i child is on d (stays (mid (Makes_it b ∷ [])) refl refl refl l) (l.told ∙ first.told) (l.seen ∙ first.seen)
      (l.shape ∙ ap (λ (z : ℕ → S). put z b R.new) first.shape)
      (λ v. ap (λ (z : ℕ → S). z v) l.shape_of ∙ (ap (λ (z : ℕ → S). cond (f1.heads.making || not (v == 0)) (z v) R.new) first.shape_of ∙ ap (λ (s : State). cond (s.making || not (v == 0)) (f.shape_of v) R.new) heads))

-- the deeds of a request: of data, of the work, and of locks
pub moves : {P V C U S : Type 0} (R : Reading P V C U S) (plans : Plans P V U S) (n k g a b : ℕ) (q : Request) (says : Says) (f : File P V C U S) (ds : List (Deed P V C U S)) (es locks : List Act)
    → Same f (after_deeds R.form n k ds f) → (after_deeds R.form n k ds f).heads ≡ f.heads → Works g a b q says es → Calm locks
    → Moves R.new g a b q says f (after_deeds R.form n k (ds ++ map (dressed R plans n k g) (es ++ locks)) f)
moves R plans n k g a b q says f ds es locks first heads w calm =
    subst (λ (x : File _ _ _ _ _). Moves R.new g a b q says f x) (sym (deeds_both R.form n k ds (map (dressed R plans n k g) (es ++ locks)) f ∙ (ap (λ (xs : List (Deed _ _ _ _ _)). after_deeds R.form n k xs (after_deeds R.form n k ds f)) (map-append (dressed R plans n k g) es locks) ∙ deeds_both R.form n k (map (dressed R plans n k g) es) (map (dressed R plans n k g) locks) (after_deeds R.form n k ds f))))
    (moves_by R plans n k g a b q says f (after_deeds R.form n k ds f) first heads (after_deeds R.form n k (map (dressed R plans n k g) locks) (after_deeds R.form n k (map (dressed R plans n k g) es) (after_deeds R.form n k ds f))) es w (calm_acts R plans n k g locks (after_deeds R.form n k (map (dressed R plans n k g) es) (after_deeds R.form n k ds f)) calm))
