use Rattle.std.proofs.Common.{rules, not, option_copied}
use Rattle.std.proofs.lemmas.Map.Made.{filter_same_pairs}
use Rattle.ec_store.specs.Records.{is_inside}
use Rattle.ec_store.proofs.NameMaps.{dropped_names}
use Rattle.ec_store.proofs.names.drop_inside.Goals as goal

pub returns : goal.returns
returns c = dropped_names c.args.names.now c.retain.new.self (option_copied c.args.after) (option_copied c.args.upto) (filter_same_pairs _ (λ p. not (is_inside (option_copied c.args.after) (option_copied c.args.upto) p.0)) _ (λ k v b w f' t. search rules) _ _ c.retain.ensures.filtered)
