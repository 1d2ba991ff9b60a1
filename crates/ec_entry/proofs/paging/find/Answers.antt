use Rattle.std.proofs.Common.{sym, ◌∙◌, ap, ◌+◌, cond, drop, Bool, Some, List, ℕ}
use Rattle.std.proofs.lemmas.List.{drop_all}
use Rattle.ec_store.specs.Records.{listed}
use Rattle.ec_entry.proofs.Gathering.{listed_left}
use Rattle.ec_entry.proofs.paging.find.Goals as goal

pub loop-other-preserved : goal.loop-other-preserved
loop-other-preserved c =
    let items = c.items-other-items.result.now in
    c.loop-other.invariant
    ∙ (listed_left items c.loop-other.other-index c.args.name.now c.loop-other-item.result c.loop-other-item.is c.loop-other-test.true
    ∙ ap (λ (b : Bool). cond b (Some c.loop-other-item.result.1) (listed (drop (c.loop-other.other-index + 1) items) c.args.name.now)) (sym c.is_same_name.ensures ∙ c.if-is_same_name.false))

pub returns : goal.returns
returns c = sym (c.loop-other.invariant ∙ ap (λ es. listed es c.args.name.now) (drop_all c.loop-other.other-index c.items-other-items.result.now c.loop-other-test.false))
