-- Pages of names, by the children that they lead to.
use Rattle.std.proofs.Common.{◌≡◌, ◌≢◌, ◌⊎◌, inl, inr, ℕ, ◌+◌, ◌<◌, Bool, true, false, cond, ◌==◌, ◌||◌, Option, Some, None, List, [], ◌∷◌, length, get_or, take, refl, sym, ap, subst, ◌∙◌, eq-eqb}
use Rattle.std.proofs.lemmas.Bool.Decides.{eqb_tells}
use Rattle.std.proofs.lemmas.List.Folds.{list_any_more}
use Rattle.std.specs.List.{AllByRecursion, list_any}
use Rattle.std.specs.BTreeMap.{is_at}
use Rattle.std.specs.Ordering.{nat_cmp}
use Rattle.std.specs.Cmp.Lexicographic.{slice_cmp}
use Rattle.ec_attr.specs.declared.kind.Child.{Child}
use Rattle.ec_brick.specs.Walk.{next_page, passed, reached}
use Rattle.ec_brick.proofs.NamePages.{Extends, extends}
use Rattle.ec_index.specs.Members.{with_member}
use Rattle.ec_store.specs.Pages.{IsPage, Page, is_rising}
use Rattle.ec_store.specs.Records.{listed}
use Rattle.ec_report.specs.Reading.{GrowsBy, LeadsTo}
use Rattle.ec_report.proofs.Growing.{false_true, grows_none}

-- whether a name of the page leads to the gfid
abbrev pub leads : Page → ℕ → Bool
leads page g = list_any (λ e. e.1.gfid.0 == g) page

no_child : (c : Child) → ◌≡◌ {A = Option Child} None (Some c) → ⊥
no_child c e = cc

same_child : (x c : Child) → ◌≡◌ {A = Option Child} (Some x) (Some c) → x ≡ c
same_child x c e = cc

or_right : (a b : Bool) → b ≡ true → (a || b) ≡ true
or_right true b e = refl
or_right false b e = e

or_cases : (a b : Bool) → (a || b) ≡ true → (a ≡ true) ⊎ (b ≡ true)
or_cases true b e = inl refl
or_cases false b e = inr e

listed_leads : (page : Page) (n : List ℕ) (c : Child) (g : ℕ) → listed page n ≡ Some c → c.gfid.0 ≡ g → leads page g ≡ true
listed_leads [] n c g s e = absurd (no_child c s)
listed_leads (x ∷ xs) n c g s e = at (is_at (slice_cmp nat_cmp n) x.0) s (λ k. listed_leads xs n c g k e) where
  at : (t : Bool) → cond t (Some x.1) (listed xs n) ≡ Some c → (listed xs n ≡ Some c → leads xs g ≡ true) → ((x.1.gfid.0 == g) || leads xs g) ≡ true
  at true s rest = ap (λ t. t || leads xs g) (eq-eqb x.1.gfid.0 g (ap (λ (y : Child). y.gfid.0) (same_child x.1 c s) ∙ e))
  at false s rest = or_right (x.1.gfid.0 == g) (leads xs g) (rest s)

any_leads : (names : List ℕ → Option Child) (page : Page) (g : ℕ) → AllByRecursion (λ (e : List ℕ × Child). names e.0 ≡ Some e.1) page → leads page g ≡ true → LeadsTo names g
any_leads names [] g all h = absurd (false_true h)
any_leads names (x ∷ xs) g all h = at (eqb_tells x.1.gfid.0 g) (any_leads names xs g all.1) where
  at : (((x.1.gfid.0 == g) ≡ true) × (x.1.gfid.0 ≡ g)) ⊎ (((x.1.gfid.0 == g) ≡ false) × (x.1.gfid.0 ≢ g)) → (leads xs g ≡ true → LeadsTo names g) → LeadsTo names g
  at (inl w) rest = (x.0, x.1, all.0, w.1)
  at (inr w) rest = rest (sym (ap (λ t. t || leads xs g) w.0) ∙ h)

page_more : (old new : List ℕ → Option Child) (page : Page) (set a b : ℕ → Bool) → Extends old new page → ((g : ℕ) → b g ≡ (a g || leads page g)) → GrowsBy (LeadsTo old) set a → GrowsBy (LeadsTo new) set b
page_more old new page set a b x is grows = record {
  kept = λ g e. is g ∙ ap (λ t. t || leads page g) (grows.kept g e);
  added = λ g l. is g ∙ add g l;
  only = λ g e. elim (or_cases (a g) (leads page g) (sym (is g) ∙ e)) [ inl h ↦ old_only g (grows.only g h) | inr h ↦ inr (any_leads new page g x.shown h) ];
} where
  add : (g : ℕ) → LeadsTo new g → (a g || leads page g) ≡ true
  add g (n, c, e, to) = elim (x.all n c e) [ inl o ↦ ap (λ t. t || leads page g) (grows.added g (n, c, o, to)) | inr s ↦ or_right (a g) (leads page g) (listed_leads page n c g s to) ]

  old_only : (g : ℕ) → (set g ≡ true) ⊎ LeadsTo old g → (set g ≡ true) ⊎ LeadsTo new g
  old_only g (inl s) = inl s
  old_only g (inr (n, c, e, to)) = inr (n, c, x.kept n c e, to)

-- one page of names more
pub page_grows : (after next : Option (List ℕ)) (names : List ℕ → Option Child) (page : Page) (set a b : ℕ → Bool) → IsPage after names page → is_rising after page ≡ true → next ≡ next_page after page → ((g : ℕ) → b g ≡ (a g || leads page g)) → GrowsBy (LeadsTo (passed after names)) set a → GrowsBy (LeadsTo (reached next names)) set b
page_grows after next names page set a b is r e put grows = subst (λ (o : Option (List ℕ)). GrowsBy (LeadsTo (reached o names)) set b) (sym e) (page_more (passed after names) (reached (next_page after page) names) page set a b (extends after names page is r) put grows)

-- before the first page
pub page_none : (names : List ℕ → Option Child) (set : ℕ → Bool) → GrowsBy (LeadsTo (passed None names)) set set
page_none names set = grows_none (LeadsTo (passed None names)) set none where
  none : (g : ℕ) → LeadsTo (passed None names) g → ⊥
  none g (n, c, e, to) = no_child c e

put_three : (t a b s : Bool) → s ≡ (a || b) → cond t true s ≡ (a || (b || t))
put_three true a b s e = sym (last a b) where
  last : (a b : Bool) → (a || (b || true)) ≡ true
  last true b = refl
  last false true = refl
  last false false = refl
put_three false a b s e = e ∙ ap (λ x. a || x) (first b) where
  first : (b : Bool) → b ≡ (b || false)
  first true = refl
  first false = refl

-- one child more
pub put_more : (page : Page) (i : ℕ) (d : List ℕ × Child) (start set new : ℕ → Bool) → i < length page → new ≡ with_member set (get_or page i d).1.gfid.0 true → ((g : ℕ) → set g ≡ (start g || leads (take i page) g)) → (g : ℕ) → new g ≡ (start g || leads (take (i + 1) page) g)
put_more page i d start set new lt is so_far g = ap (λ f. f g) is ∙ (put_three ((get_or page i d).1.gfid.0 == g) (start g) (leads (take i page) g) (set g) (so_far g) ∙ ap (λ b. start g || b) (sym (list_any_more (λ e. e.1.gfid.0 == g) page i d lt)))
