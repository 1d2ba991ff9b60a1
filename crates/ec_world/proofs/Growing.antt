-- A log that goes on is longer.
use Rattle.std.proofs.Common.{◌≡◌, ◌<◌, ap, arith, List, ◌∷◌, ◌++◌, length, length-append}
use Rattle.ec_cluster.specs.Views.{log_of}
use Rattle.ec_cluster.specs.declared.cluster.Cluster.{Cluster}
use Rattle.ec_wire.specs.declared.entry.Entry.{Entry}

pub grown : (s t : Cluster) (e : Entry) (es : List Entry) → log_of t ≡ log_of s ++ e ∷ es → length (log_of s) < length (log_of t)
grown s t e es h = omega (arith, ap (λ (l : List Entry). length l) h, length-append (log_of s) (e ∷ es))
