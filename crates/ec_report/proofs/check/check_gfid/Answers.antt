use Rattle.std.proofs.Common.{◌-◌, ◌∙◌, ap, map, List, Option, subst}
use Rattle.ec_attr.specs.Bricks.{bricks}
use Rattle.ec_attr.specs.declared.head.Head.{Head}
use Rattle.ec_index.specs.Members.{members}
use Rattle.ec_report.specs.Lines.{check_line}
use Rattle.ec_report.specs.Records.{AreGood, head_of}
use Rattle.ec_report.proofs.Lining.{orphan_is}
use Rattle.ec_report.proofs.check.check_gfid.Goals as goal

pub returns-in-Ok-line_of-clause-line : goal.returns-in-Ok-line_of-clause-line
returns-in-Ok-line_of-clause-line g c told set = let same = c.as_slice-all.ensures.value ∙ c.in-Ok.ensures.heads told in record {
  group = bricks c.good_bricks-group.result;
  orphan = c.is_orphan.result;
  good = subst (λ (hs : List (Option Head)). AreGood (c.args.geometry.now.n - c.args.geometry.now.r) (head_of hs) (bricks c.good_bricks-group.result)) same c.good_bricks-group.ensures;
  named = orphan_is (map g.S.BrickStore.records c.args.stores.now) (members c.args.named.now) c.args.g.0 c.is_orphan.result set c.is_orphan.ensures;
  text = c.in-Ok-line_of.ensures ∙ ap (λ (hs : List (Option Head)). check_line c.args.g.0 hs (bricks c.good_bricks-group.result) c.is_orphan.result) same;
}
