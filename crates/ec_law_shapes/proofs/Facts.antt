-- What a machine knows of shapes by its shadow without data.
use Rattle.std.proofs.Common.{◌≡◌, ◌⊎◌, ℕ, ◌+◌, ◌<◌, ◌≤◌, true, false, Some, sym, ◌∙◌, ap, subst}
use Rattle.ec_law_base.specs.State.{Ballot, Head as Seen, State, target}
use Rattle.ec_law_ballots.specs.Act.Act.{Choose}
use Rattle.ec_law_ballots.specs.Guard.{IsCommitted, May}
use Rattle.ec_law_pieces.specs.File.{File}
use Rattle.ec_law_data.specs.Forms.{Shape}
use Rattle.ec_law_net.specs.Turns.{View}
use Rattle.ec_history.specs.Run.{Net}
use Rattle.ec_law_shapes.specs.Shadows.{HasShadow, bare_form}
use Rattle.ec_law_shapes.proofs.Grouping.{base_shape, base_then, told_shape}

-- a version on which a ballot may stand: that of the beginning, or of a commit
abbrev pub BaseIn : ℕ → ℕ → State → ℕ → Type 0
BaseIn n k s v = (v ≡ s.origin) ⊎ ((c : ℕ) × IsCommitted n k s c × (target (s.ballot c) ≡ v))

pub record Facts {P V C U : Type 0} (n k : ℕ) (f : File P V C U Shape) : Type 0 where
  pub told_is : (a b : ℕ) (h : Seen) → f.heads.seen a b ≡ Some h → h.present ≡ true → h.marked ≡ false → (v : ℕ) → h.version ≡ v → BaseIn n k f.heads v → f.told a b ≡ f.shape_of v
  pub here_is : (a b : ℕ) → 0 < (f.heads.ballot a).number → f.heads.old a ≡ false → f.heads.present b ≡ true → f.heads.marked b ≡ false → f.heads.version b ≡ (f.heads.ballot a).base → f.shape b ≡ f.took a
  pub base_is : (x : ℕ) (p : Ballot) → May n k f.heads (Choose x p) → BaseIn n k f.heads p.base
  pub took_is : (a : ℕ) → 0 < (f.heads.ballot a).number → f.heads.old a ≡ false → f.took a ≡ f.shape_of (f.heads.ballot a).base
  pub chosen : (a : ℕ) → 0 < (f.heads.ballot a).number → BaseIn n k f.heads (f.heads.ballot a).base

pub facts : {P V C U : Type 0} (n k g : ℕ) → n < k + k → k ≤ n → (m : Net) (v : View) (f : File P V C U Shape) → HasShadow n k g m v f → Facts n k f
facts n k g most fits m v f h =
    let s = h.shadow in
    let e = h.is.heads in
    record {
      told_is = λ a b hd seen there clear w is base. sym (ap (λ (z : ℕ → ℕ → Shape). z a b) h.is.told) ∙ (told_shape bare_form n k most fits s h.inv h.good a b hd (ap (λ (z : State). z.seen a b) e ∙ seen) there clear w is (subst (λ (z : State). BaseIn n k z w) (sym e) base) ∙ ap (λ (z : ℕ → Shape). z w) h.is.shape_of);
      here_is = λ a b number real there clear at. sym (ap (λ (z : ℕ → Shape). z b) h.is.shape) ∙ (base_shape bare_form n k most fits s h.inv h.good a b (subst (λ (z : State). 0 < (z.ballot a).number) (sym e) number) (subst (λ (z : State). z.old a ≡ false) (sym e) real) (subst (λ (z : State). z.present b ≡ true) (sym e) there) (subst (λ (z : State). z.marked b ≡ false) (sym e) clear) (subst (λ (z : State). z.version b ≡ (z.ballot a).base) (sym e) at) ∙ ap (λ (z : ℕ → Shape). z a) h.is.took);
      base_is = λ x p may. subst (λ (z : State). BaseIn n k z p.base) e (base_then bare_form n k most fits s h.inv h.good x p (subst (λ (z : State). May n k z (Choose x p)) (sym e) may));
      took_is = λ a number real. sym (ap (λ (z : ℕ → Shape). z a) h.is.took) ∙ (h.good.took_is a (subst (λ (z : State). 0 < (z.ballot a).number) (sym e) number) (subst (λ (z : State). z.old a ≡ false) (sym e) real) ∙ (ap (λ (z : ℕ → Shape). z (s.heads.ballot a).base) h.is.shape_of ∙ ap (λ (z : State). f.shape_of (z.ballot a).base) e));
      chosen = λ a number. subst (λ (z : State). BaseIn n k z (z.ballot a).base) e (h.inv.wide.chosen a (subst (λ (z : State). 0 < (z.ballot a).number) (sym e) number));
    }
