use Rattle.std.proofs.Common.{ℕ, ◌∙◌, ap, true, List}
use Rattle.ec_attr.specs.declared.kind.Child.{Child}
use Rattle.ec_index.specs.Members.{members, with_member}
use Rattle.ec_report.proofs.Naming.{put_more}
use Rattle.ec_report.proofs.found.put_children.Goals as goal

pub loop-child-preserved : goal.loop-child-preserved
loop-child-preserved c = put_more c.args.page.now c.loop-child.child-index c.loop-child-item.result (members c.args.named.now) (members c.loop-child.named) (members c.set.new.self) c.loop-child-test.true (c.in_ok-set.ensures.ok ∙ ap (λ (e : List ℕ × Child). with_member (members c.loop-child.named) e.1.gfid.0 true) c.loop-child-item.is) c.loop-child.invariant
