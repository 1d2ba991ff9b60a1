-- The worked run of heads and grants, up to where records are removed, is one that the law speaks of.
use Rattle.ec_law_ballots.specs.WorkedRun.{nothing, creation, writes, reading, marking, beside, touching, after_creation, after_writes, after_reading, after_marking, after_beside}
use Rattle.ec_law_index.specs.Index.{InIndex, KeepsAll}

pub record WorkedIndex : Type 0 where
  -- no brick has a record as it begins
  pub start : InIndex 3 2 nothing.began
  pub creation : KeepsAll 3 creation nothing
  pub writes : KeepsAll 3 writes after_creation
  pub reading : KeepsAll 3 reading after_writes
  pub marking : KeepsAll 3 marking after_reading
  pub beside : KeepsAll 3 beside after_marking
  pub touching : KeepsAll 3 touching after_beside
