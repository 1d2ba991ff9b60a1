-- Lists of gfids in rising order.
use Rattle.std.proofs.Common.{◌≡◌, inl, inr, ℕ, Bool, true, Option, Some, None, List, [], ◌∷◌, ◌++◌, refl, sym, subst, ◌∙◌}
use Rattle.std.proofs.lemmas.Bool.{cases_Bool}
use Rattle.ec_attr.specs.declared.gfid.Gfid.{Gfid}
use Rattle.ec_brick.specs.Gfids.{IsNextGfid, IsPageStart, gfids_rise, is_above, is_listed, last_gfid}
use Rattle.ec_brick.proofs.GfidPages.{lasts, page_more, rises, start}
use Rattle.ec_report.specs.Reading.{IsSetOf}
use Rattle.ec_report.specs.Records.{IsListOf}

-- the first gfids of a set, of which this one is next
pub record IsStart (set : ℕ → Bool) (gfids : List Gfid) (next : Option Gfid) : Type 0 where
  pub rise : gfids_rise None gfids ≡ true
  pub page : IsPageStart None set gfids
  pub comes : IsNextGfid set (last_gfid None gfids) next

pub start_list : (set : ℕ → Bool) (next : Option Gfid) → IsNextGfid set None next → IsStart set [] next
start_list set next is = record { rise = refl; page = start None set; comes = is }

pub more_listed : (set : ℕ → Bool) (gfids : List Gfid) (g : Gfid) (next : Option Gfid) → IsStart set gfids (Some g) → IsNextGfid set (Some g) next → IsStart set (gfids ++ g ∷ []) next
more_listed set gfids g next s is = record {
  rise = rises None (last_gfid None gfids) gfids g refl s.rise s.comes.0;
  page = page_more None (last_gfid None gfids) set gfids g refl s.page s.comes;
  comes = subst (λ (o : Option Gfid). IsNextGfid set o next) (lasts None gfids g) is;
}

pub all_listed : (set : ℕ → Bool) (gfids : List Gfid) → IsStart set gfids None → IsListOf (λ g. set g ≡ true) gfids
all_listed set gfids s = record {
  rises = s.rise;
  all = λ g e. same g ∙ e;
  only = λ g e. sym (same g) ∙ e;
} where
  same : (g : ℕ) → is_listed gfids g ≡ set g
  same g = elim (cases_Bool (is_above (last_gfid None gfids) g)) [ inl t ↦ s.page.ends g t ∙ sym (s.comes g t) | inr f ↦ s.page.shows g refl f ]

-- the list goes by what the set is of
pub listed_set : (P : ℕ → Type 0) (set : ℕ → Bool) (gfids : List Gfid) → IsSetOf P set → IsListOf (λ g. set g ≡ true) gfids → IsListOf P gfids
listed_set P set gfids is l = record { rises = l.rises; all = λ g p. l.all g (is.all g p); only = λ g e. is.only g (l.only g e) }
