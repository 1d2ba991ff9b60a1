use Rattle.std.proofs.Common.{rules, ◌≡◌, List, [], subst, sym, Option}
use Rattle.ec_attr.specs.declared.gfid.Gfid.{Gfid}
use Rattle.ec_index.specs.Members.{members}
use Rattle.ec_report.proofs.Lists.{IsStart, all_listed, more_listed, start_list}
use Rattle.ec_report.proofs.found.list_of.Goals as goal

pub loop-next-init : goal.loop-next-init
loop-next-init c =
    let none : c.new-list.result.items ≡ [] = search rules in
    subst (λ (xs : List Gfid). IsStart (members c.args.index.now) xs c.next_in-first.result) (sym none) (start_list (members c.args.index.now) c.next_in-first.result c.next_in-first.ensures.next)

pub loop-next-preserved : goal.loop-next-preserved
loop-next-preserved c =
    subst (λ (xs : List Gfid). IsStart (members c.args.index.now) xs c.next_in-next.result) (sym c.in_ok-push.ensures.items)
    (more_listed (members c.args.index.now) c.loop-next.list.items c.in-Some.g c.next_in-next.result (subst (λ (o : Option Gfid). IsStart (members c.args.index.now) c.loop-next.list.items o) c.in-Some.is c.loop-next.invariant) c.next_in-next.ensures.next)

pub returns : goal.returns
returns c = all_listed (members c.args.index.now) c.loop-next.list.items (subst (λ (o : Option Gfid). IsStart (members c.args.index.now) c.loop-next.list.items o) c.in_default.is c.loop-next.invariant)
