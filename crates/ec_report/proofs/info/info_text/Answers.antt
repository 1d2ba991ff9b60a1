use Rattle.std.proofs.Common.{ℕ, ◌≡◌, ◌++◌, ◌∙◌, ap, Bool, true, Some, Option, List, subst, sym, add-one, string_bytes}
use Rattle.std.proofs.lemmas.Option.{slice_get-get_or}
use Rattle.ec_attr.specs.declared.gfid.Gfid.{Gfid}
use Rattle.ec_brick.specs.declared.brick.Brick.{Brick}
use Rattle.ec_report.specs.Info.{IsInfoOf, info_lines}
use Rattle.ec_report.specs.Records.{IsListOf}
use Rattle.ec_report.proofs.info.info_text.Goals as goal

some_brick : (x y : Brick) → x ≡ y → ◌≡◌ {A = Option Brick} (Some x) (Some y)
some_brick x y e = ap (λ (b : Brick). Some b) e

pub loop-b-preserved : goal.loop-b-preserved
loop-b-preserved c =
    subst (λ (n : ℕ). IsInfoOf n c.args.bricks.now (string_bytes c.push_info.new.text)) (sym (add-one c.loop-b.b)) (
      string_bytes c.loop-b.text,
      c.index-bricks-b.result,
      c.in_ok-gfids.gfids.items,
      c.loop-b.invariant,
      slice_get-get_or c.args.bricks.now c.loop-b.b c.index-bricks-b.result c.loop-b-test.true ∙ some_brick _ _ (sym c.index-bricks-b.is),
      subst (λ (set : ℕ → Bool). IsListOf (λ g. set g ≡ true) c.in_ok-gfids.gfids.items) c.index.ensures c.in_ok-gfids.ensures,
      c.in_ok-push_info.ensures ∙ ap (λ (gs : List Gfid). string_bytes c.loop-b.text ++ info_lines c.loop-b.b gs) c.as_slice.ensures.value,
    )
