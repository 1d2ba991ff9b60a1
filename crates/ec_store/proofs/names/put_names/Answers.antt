use Rattle.std.proofs.Common.{◌≡◌, subst, OnOk}
use Rattle.ec_store.specs.Memory.{names_of}
use Rattle.ec_store.specs.Records.{filled}
use Rattle.ec_store.proofs.names.put_names.Goals as goal

pub returns : goal.returns
returns c = subst (λ x. OnOk c.fill.result (names_of c.fill.new.names ≡ filled x c.args.list.now)) c.drop_inside.ensures c.fill.ensures
