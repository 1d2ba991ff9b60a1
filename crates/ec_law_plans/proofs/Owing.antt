-- What the deeds of an entry of a directory owe, where its call's plans have its names and brick and call have done what they must.
use Rattle.std.proofs.Common.{◌≡◌, ◌⊎◌, ℕ, Bool, true, false, ◌&&◌, Option, Some, None, List, [], ◌∷◌, ◌++◌, map, refl, sym, subst, inl, inr, ◌∙◌, ◌==◌}
use Rattle.std.specs.Prelude.{bytes_eq}
use Rattle.std.proofs.lemmas.Map.Text.{is_eq-slice_cmp}
use Rattle.std.proofs.lemmas.Slice.Eq.{bytes_eq-Decides}
use Rattle.ec_attr.specs.declared.head.Head.{Head}
use Rattle.ec_attr.specs.declared.kind.Child.{Child}
use Rattle.ec_attr.specs.declared.kind.Kind.TheVariants.{Dir, File as FileKind}
use Rattle.ec_conduct.specs.Account.{Account}
use Rattle.ec_conduct.specs.Changes.{IsAllOf, are, is_child, is_nothing, makes, sets}
use Rattle.ec_conduct.specs.Given.{Given}
use Rattle.ec_store.specs.Records.{same_name}
use Rattle.ec_wire.specs.declared.op.Op.{Op}
use Rattle.ec_wire.specs.declared.op.Op.TheVariants.{Create, Mkdir, Unlink}
use Rattle.ec_wire.specs.declared.request.Request.{Request}
use Rattle.ec_wire.specs.declared.request.Request.TheVariants.{NameSet}
use Rattle.ec_law_ballots.specs.Act.{Act}
use Rattle.ec_law_ballots.specs.Act.Act.{Choose, Make, Post, Sink_post}
use Rattle.ec_law_pieces.specs.Deed.{Deed, IsPlan, after as after_deeds, step}
use Rattle.ec_law_pieces.specs.File.{Form}
use Rattle.ec_law_data.specs.Deeds.{dressed}
use Rattle.ec_law_data.specs.Forms.{Shape, names_written, of_directory}
use Rattle.ec_law_data.specs.Owing.{AllOwe, Owes}
use Rattle.ec_law_data.proofs.Guards.{Easy, is_easy}
use Rattle.ec_law_plans.specs.Given.{AllOweShape, AreWritten, OwesShape}
use Rattle.ec_law_plans.specs.Naming.{NameFile, NamePlans, child_set, covers_name, name_plan}
use Rattle.ec_law_parts.specs.Names.{SetsName}
use Rattle.ec_law_plans.proofs.Extending.{owe_more}
use Rattle.ec_law_plans.proofs.Windows.{RequestsOn}
use Rattle.ec_conduct.specs.Account.{gfid_of}
use Rattle.ec_law_turns.proofs.Basics.{itself, some_is}
use Rattle.ec_law_data.specs.Forms.{is_naming}

abbrev pub NameDeeds : Type 0
NameDeeds = List (Deed (List ℕ) (Option Child) (Option Child) (Option Child) Shape)

abbrev pub form : Form (List ℕ) (Option Child) (Option Child) (Option Child) Shape
form = of_directory.form

-- ## Acts

first_true : (t u : Bool) → (t && u) ≡ true → t ≡ true
first_true true u e = refl
first_true false u e = absurd (cc)

module _ (plans : NamePlans) (n k g : ℕ) where
  shape_both : (xs ys : NameDeeds) (f : NameFile) → AllOweShape form n k (xs ++ ys) f → AllOweShape form n k ys (after_deeds form n k xs f)
  shape_both [] ys f h = h
  shape_both (x ∷ xs) ys f h = shape_both xs ys (step form n k f x) h.1

  easy_one : (e : Act) (f : NameFile) → is_easy e ≡ true → OwesShape form n k f (dressed of_directory plans n k g e) → Owes form n k f (dressed of_directory plans n k g e)
  easy_one (Choose a p) f e h = h
  easy_one (Make b) f e h = h
  easy_one (Post a b) f e h = absurd (cc)
  easy_one (Sink_post a b) f e h = absurd (cc)
  easy_one x f e h = tt

  easy_owe : (es : List Act) (f : NameFile) → Easy es → AllOweShape form n k (map (dressed of_directory plans n k g) es) f → AllOwe form n k (map (dressed of_directory plans n k g) es) f
  easy_owe [] f e h = tt
  easy_owe (x ∷ es) f e h = (easy_one x f e.0 h.0, easy_owe es (step form n k f (dressed of_directory plans n k g x)) e.1 h.1)

  -- deeds on data that owe nothing, and acts that are no PostOps
  pub easily : (ds : NameDeeds) (es : List Act) (f : NameFile) → AllOwe form n k ds f → Easy es → AllOweShape form n k (ds ++ map (dressed of_directory plans n k g) es) f → AllOwe form n k (ds ++ map (dressed of_directory plans n k g) es) f
  easily ds es f h e shape = owe_more form n k ds (map (dressed of_directory plans n k g) es) f h (easy_owe es (after_deeds form n k ds f) e (shape_both ds (map (dressed of_directory plans n k g) es) f shape))

  -- a PostOp of a turn for which the brick has written all that its plan covers
  pub posted : (a b : ℕ) (es rest : List Act) (f : NameFile) → (es ≡ Post a b ∷ rest) ⊎ (es ≡ Sink_post a b ∷ rest) → Easy rest → ((p : List ℕ) → f.covers a p ≡ true → f.wrote a b p ≡ true) → AllOweShape form n k (map (dressed of_directory plans n k g) es) f → AllOwe form n k (map (dressed of_directory plans n k g) es) f
  posted a b es rest f (inl e) easy wrote shape = subst (λ (xs : List Act). AllOweShape form n k (map (dressed of_directory plans n k g) xs) f → AllOwe form n k (map (dressed of_directory plans n k g) xs) f) (sym e) (λ shape. (wrote, easy_owe rest (step form n k f (dressed of_directory plans n k g (Post a b))) easy shape.1)) shape
  posted a b es rest f (inr e) easy wrote shape = subst (λ (xs : List Act). AllOweShape form n k (map (dressed of_directory plans n k g) xs) f → AllOwe form n k (map (dressed of_directory plans n k g) xs) f) (sym e) (λ shape. (wrote, easy_owe rest (step form n k f (dressed of_directory plans n k g (Sink_post a b))) easy shape.1)) shape

-- ## Plans of names

-- a call's plan for its name is one
pub names_plan : (n k : ℕ) (f : NameFile) (a : ℕ) (given : Given) (shape : Shape) → IsPlan form n k f a (name_plan given shape)
names_plan n k f a given shape = record {
  sets = λ p i u covers is. some_same (child_set given.op given.child) u is;
  keeps = λ p i covers none. absurd (some_not (child_set given.op given.child) none);
  zero = λ p covers past. absurd (cc);
  grows = λ p covers past. absurd (cc);
}
  where
    some_same : (x y : Option Child) → Some x ≡ Some y → x ≡ y
    some_same x y e = cc

    some_not : (x : Option Child) → Some x ≡ None → ⊥
    some_not x e = cc

-- names that are the same are so both ways
name_back : (p q : List ℕ) → same_name p q ≡ true → same_name q p ≡ true
name_back p q e = is_eq-slice_cmp p q ∙ (bytes_eq-Decides p q).1 (sym ((bytes_eq-Decides q p).0 (sym (is_eq-slice_cmp q p) ∙ e)))

-- a NameSet of the call's own name is to a place that the plan covers, and puts what it plans there
pub own_name : (op : Op) (taken x : ℕ) (name : List ℕ) (child : Option Child) → SetsName op taken x name child → (child ≡ child_set op taken) × ((p : List ℕ) → same_name p name ≡ true → covers_name op p ≡ true)
own_name (Create dir own) taken x name child h = (h.2, λ p is. name_back p own (subst (λ (z : List ℕ). same_name p z ≡ true) h.1 is))
own_name (Mkdir dir own) taken x name child h = (h.2, λ p is. name_back p own (subst (λ (z : List ℕ). same_name p z ≡ true) h.1 is))
own_name (Unlink dir own) taken x name child h = (h.2, λ p is. name_back p own (subst (λ (z : List ℕ). same_name p z ≡ true) h.1 is))
own_name op taken x name child h = absurd h

-- a request that sets the name writes it
set_writes : (name : List ℕ) (test : Option Child → Bool) (r : Request) (p : List ℕ) → sets name test r ≡ true → same_name name p ≡ true → names_written r p ≡ true
set_writes name test (NameSet x i entry child) p h is = subst (λ (z : List ℕ). same_name p z ≡ true) (sym ((bytes_eq-Decides entry name).0 (first_true (bytes_eq entry name) (test child) h))) (name_back name p is)
set_writes name test r p h is = absurd (cc)

-- and is one on the gfid that it names
set_on : (name : List ℕ) (test : Option Child → Bool) (g : ℕ) (r : Request) → sets name test r ≡ true → gfid_of r ≡ Some g → is_naming g r ≡ true
set_on name test g (NameSet x i entry child) h on = subst (λ (y : ℕ). (x.0 == y) ≡ true) (some_is x.0 g on) (itself x.0)
set_on name test g r h on = absurd (cc)

-- the first change that a commit is made of, where it sets the name
first_set : (name : List ℕ) (test : Option Child → Bool) (tests : List (Request → Bool)) (rs : List Request) (f : NameFile) (g a b : ℕ) → are (sets name test ∷ tests) rs ≡ true → RequestsOn g rs → AreWritten of_directory g f a b rs → (p : List ℕ) → same_name name p ≡ true → f.wrote a b p ≡ true
first_set name test tests [] f g a b h on w p is = absurd (cc)
first_set name test tests (r ∷ rs) f g a b h on w p is = let t = first_true (sets name test r) (are tests rs) h in w.0 p (set_on name test g r t on.0) (set_writes name test r p t is)

-- all that the commit is made of are the places that the plan covers
pub all_written : (op : Op) (c : Account) (g a b : ℕ) (head : Head) (rs : List Request) (f : NameFile) → IsAllOf c g head op rs → RequestsOn g rs → AreWritten of_directory g f a b rs → (p : List ℕ) → covers_name op p ≡ true → f.wrote a b p ≡ true
all_written (Create dir own) c g a b head rs f h on w p is = first_set own (is_child FileKind c.given.child) (makes (is_child FileKind c.given.child) ∷ []) rs f g a b h.1 on w p is
all_written (Mkdir dir own) c g a b head rs f h on w p is = first_set own (is_child Dir c.given.child) (makes (is_child Dir c.given.child) ∷ []) rs f g a b h.1 on w p is
all_written (Unlink dir own) c g a b head rs f h on w p is = first_set own is_nothing [] rs f g a b h.1 on w p is
all_written op c g a b head rs f h on w p is = absurd (cc)
