-- What comes next, as a stage of another table.
use Rattle.ec_txn.specs.declared.stage.Next.{Next}
use Rattle.ec_txn.specs.declared.stage.Next.TheVariants.{Go, Say}

abbrev pub next_as : {P Q : Type 0} → (P → Q) → Next P → Next Q
next_as f (Go p) = Go (f p)
next_as f (Say answer) = Say answer
