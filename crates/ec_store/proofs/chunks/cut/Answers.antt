use Rattle.std.proofs.Common.{rules, nat_lt, ◌&&◌}
use Rattle.std.proofs.lemmas.Map.Made.{filter_same_pairs}
use Rattle.ec_store.proofs.RecordMaps.{cut_bytes}
use Rattle.ec_store.proofs.chunks.cut.Goals as goal

pub returns : goal.returns
returns c = cut_bytes c.args.chunks.now c.retain.new.self c.args.keep c.args.length (filter_same_pairs _ (λ p. nat_lt p.0 c.args.keep && nat_lt p.0 c.args.length) _ (λ k v b w f' t. search rules) _ _ c.retain.ensures.filtered)
