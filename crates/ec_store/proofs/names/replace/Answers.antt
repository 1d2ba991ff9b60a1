use Rattle.std.proofs.Common.{ap, ◌∙◌, option_copied}
use Rattle.ec_store.specs.Records.{replaced}
use Rattle.ec_store.proofs.names.replace.Goals as goal

pub returns-clause-ok : goal.returns-clause-ok
returns-clause-ok c = c.in_ok-put_names.ensures ∙ ap (λ f. replaced f (option_copied c.args.after) (option_copied c.args.upto) c.args.list.now) c.in_ok-fresh.ensures
