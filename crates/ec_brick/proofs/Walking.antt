-- From one record of a store to the next, and which fault ends the walk.
use Rattle.std.proofs.Common.{◌≡◌, ◌≢◌, ◌⊎◌, inl, inr, ℕ, zero, suc, ◌<◌, ◌≤◌, Bool, true, false, cond, nat_lt, Option, Some, None, refl, sym, ap, subst, ◌∙◌, arith, ◌-◌, List, [], ◌∷◌, length, get_or, IfSome}
use Rattle.std.specs.Option.{option_map}
use Rattle.std.proofs.lemmas.Bool.Decides.{nat_tests}
use Rattle.ec_attr.specs.declared.config.Config.{Config}
use Rattle.ec_attr.specs.declared.gfid.Gfid.{Gfid}
use Rattle.ec_attr.specs.declared.head.Head.{Head}
use Rattle.ec_attr.specs.declared.kind.Child.{Child}
use Rattle.ec_attr.specs.declared.kind.Kind.{Kind}
use Rattle.ec_store.specs.Put.{put}
use Rattle.ec_store.specs.Reads.{NextIs}
use Rattle.ec_store.specs.Records.{Record, Records, head_at, is_past, kind_at}
use Rattle.ec_store.specs.Pages.{Page, end_of, is_rising}
use Rattle.ec_brick.specs.Opening.{IsForeign, IsOfLowest, IsStartFault, Refuses}
use Rattle.ec_brick.specs.StartFault.{is_of_store}
use Rattle.ec_brick.specs.Walk.{Sees, before, next_page}
use Rattle.ec_brick.specs.declared.seen.Seen.{Seen}
use Rattle.ec_brick.specs.declared.start_fault.StartFault.{StartFault}
use Rattle.ec_brick.specs.declared.start_fault.StartFault.TheVariants.{Failed, Config as OtherConfig, Head as BadHead, NoMemory}
use Rattle.ec_brick.proofs.NamePages.{end_past}
use Rattle.ec_brick.proofs.Seeing.{where_put}

lt_true : (a b : ℕ) → a < b → nat_lt a b ≡ true
lt_true a b h = grind (arith, nat_tests)

pub lt_cases : (a b : ℕ) → ((nat_lt a b ≡ true) × (a < b)) ⊎ ((nat_lt a b ≡ false) × (b ≤ a))
lt_cases a b = at (nat_lt a b) refl where
  at : (t : Bool) → nat_lt a b ≡ t → ((t ≡ true) × (a < b)) ⊎ ((t ≡ false) × (b ≤ a))
  at true e = inl (refl, grind (arith, nat_tests))
  at false e = inr (refl, grind (arith, nat_tests))

-- before the first record there is none
pub before_first : (m : Records) (next : Option Gfid) → NextIs m None next → (h : ℕ) → before next m h ≡ None
before_first m None is h = is h tt
before_first m (Some n) is h = elim (lt_cases h n.0) [ inl w ↦ ap (λ b. cond b (m h) None) w.0 ∙ is.2 h tt w.1 | inr w ↦ ap (λ b. cond b (m h) None) w.0 ]

before_other : (m : Records) (g : Gfid) (next : Option Gfid) → NextIs m (Some g) next → (h : ℕ) → h ≢ g.0 → before next m h ≡ before (Some g) m h
before_other m g next is h apart = elim (lt_cases h g.0) [ inl w ↦ below next is w.1 ∙ sym (ap (λ b. cond b (m h) None) w.0) | inr w ↦ above next is (omega (arith, w.1, apart)) ∙ sym (ap (λ b. cond b (m h) None) w.0) ] where
  below : (next : Option Gfid) → NextIs m (Some g) next → h < g.0 → before next m h ≡ m h
  below None is lt = refl
  below (Some n) is lt = ap (λ b. cond b (m h) None) (lt_true h n.0 (omega (arith, is.0, lt)))

  above : (next : Option Gfid) → NextIs m (Some g) next → g.0 < h → before next m h ≡ None
  above None is lt = is h lt
  above (Some n) is lt = elim (lt_cases h n.0) [ inl w ↦ ap (λ b. cond b (m h) None) w.0 ∙ is.2 h lt w.1 | inr w ↦ ap (λ b. cond b (m h) None) w.0 ]

before_it : (m : Records) (g : Gfid) (next : Option Gfid) → NextIs m (Some g) next → before next m g.0 ≡ m g.0
before_it m g None is = refl
before_it m g (Some n) is = ap (λ b. cond b (m g.0) None) (lt_true g.0 n.0 is.0)

-- one record more up to the next one
pub before_next : (m : Records) (g : Gfid) (r : Record) (next : Option Gfid) → m g.0 ≡ Some r → NextIs m (Some g) next → (h : ℕ) → put (before (Some g) m) g.0 (Some r) h ≡ before next m h
before_next m g r next here is h = elim (where_put (before (Some g) m) g.0 (Some r) h) [ inl w ↦ w.1 ∙ sym here ∙ sym (before_it m g next is) ∙ ap (before next m) (sym w.0) | inr w ↦ w.1 ∙ sym (before_other m g next is h w.0) ]

pub before_none : (m : Records) (g : Gfid) → before (Some g) m g.0 ≡ None
before_none m g = elim (lt_cases g.0 g.0) [ inl w ↦ absurd (omega (arith, w.1)) | inr w ↦ ap (λ b. cond b (m g.0) None) w.0 ]

-- what is seen goes by what each gfid has
pub sees_same : (config : Config) (m n : Records) (s : Seen) → ((h : ℕ) → m h ≡ n h) → Sees config m s → Sees config n s
sees_same config m n s same sees = let e : m ≡ n = λ i h. same h i in subst (λ (x : Records). Sees config x s) e sees

pub of_store_fault : (config : Config) (m : Records) (e : StartFault) → is_of_store e ≡ true → IsStartFault config m e
of_store_fault config m Failed h = tt
of_store_fault config m (OtherConfig c) h = absurd (wrong h) where
  wrong : false ≡ true → ⊥
  wrong e = cc
of_store_fault config m (BadHead b) h = absurd (wrong h) where
  wrong : false ≡ true → ⊥
  wrong e = cc
of_store_fault config m NoMemory h = tt

pub of_store_foreign : (config : Config) (e : StartFault) → is_of_store e ≡ true → IsForeign config e
of_store_foreign config Failed h = tt
of_store_foreign config (OtherConfig c) h = absurd (wrong h) where
  wrong : false ≡ true → ⊥
  wrong e = cc
of_store_foreign config (BadHead b) h = tt
of_store_foreign config NoMemory h = tt

-- a head that is refused after all heads below were accepted is the lowest
pub of_head : (config : Config) (m : Records) (g : Gfid) (r : Record) (s : Seen) (e : StartFault) → m g.0 ≡ Some r → Sees config (before (Some g) m) s → Refuses config g.0 r.head e → IsStartFault config m e
of_head config m g r s e here sees refuses = at e refuses where
  lowest : (e : StartFault) → Refuses config g.0 r.head e → IsOfLowest config m e
  lowest e refuses = (g.0, r.head, ap (option_map (λ (r : Record). r.head)) here, refuses, λ b h lt is. sees.accepts b h (ap (option_map (λ (r : Record). r.head)) (ap (λ t. cond t (m b) None) (lt_true b g.0 lt)) ∙ is))

  at : (e : StartFault) → Refuses config g.0 r.head e → IsStartFault config m e
  at Failed k = tt
  at (OtherConfig c) k = lowest (OtherConfig c) k
  at (BadHead b) k = lowest (BadHead b) k
  at NoMemory k = tt

pub kind_of : (m : Records) (g : ℕ) (r : Record) (k : Kind) → kind_at m g ≡ Some k → m g ≡ Some r → r.head.kind ≡ k
kind_of m g r k e f = let h : ◌≡◌ {A = Option Kind} (Some r.head.kind) (Some k) = rw f at e in cc

pub head_is : (m : Records) (g : ℕ) (r : Record) (h : Head) → head_at m g ≡ Some h → m g ≡ Some r → r.head ≡ h
head_is m g r h e f = let k : ◌≡◌ {A = Option Head} (Some r.head) (Some h) = rw f at e in cc

pub next_there : (m : Records) (after next : Option Gfid) → NextIs m after next → IfSome next (λ n. m n.0 ≢ None)
next_there m after None is = tt
next_there m after (Some n) is = is.1

pub page_past : (after : Option (List ℕ)) (page : Page) (next : Option (List ℕ)) → next ≡ next_page after page → is_rising after page ≡ true → IfSome next (λ l. is_past after l ≡ true)
page_past after page None e r = tt
page_past after page (Some l) e r = end_past after page l r (sym e)

-- a page that isn't empty ends with its last name
last_at : (after : Option (List ℕ)) (page : Page) (n : ℕ) (d : List ℕ × Child) → length page ≡ suc n → end_of after page ≡ Some (get_or page n d).0
last_at after [] n d e = absurd (omega (arith, e))
last_at after (x ∷ []) zero d e = refl
last_at after (x ∷ []) (suc n) d e = absurd (omega (arith, e))
last_at after (x ∷ y ∷ ys) zero d e = absurd (omega (arith, e))
last_at after (x ∷ y ∷ ys) (suc n) d e = last_at (Some x.0) (y ∷ ys) n d (omega (arith, e))

pub full_next : (after : Option (List ℕ)) (page : Page) (d : List ℕ × Child) → 64 ≤ length page → Some (get_or page (length page - 1) d).0 ≡ next_page after page
full_next after page d few = sym (ap (λ b. cond b None (end_of after page)) (full (nat_lt (length page) 64) refl) ∙ last_at after page (length page - 1) d (omega (arith, few))) where
  full : (b : Bool) → nat_lt (length page) 64 ≡ b → nat_lt (length page) 64 ≡ false
  full true e = absurd (grind (arith, nat_tests))
  full false e = e
