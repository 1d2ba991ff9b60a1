-- What sources and sinks in memory are to their callers.
use Rattle.std.specs.Prelude.{ℕ, List, Option}

-- a source: the bytes that are left, the read that fails, and how many reads and faults there were
pub record SourceState : Type 0 where
  pub rest : List ℕ
  pub fail : Option ℕ
  pub reads : ℕ
  pub faults : ℕ

-- a sink: the bytes that were written, the writes that fail and take nothing, and how many writes and faults there were
pub record SinkState : Type 0 where
  pub bytes : List ℕ
  pub fail : Option ℕ
  pub stuck : Option ℕ
  pub writes : ℕ
  pub faults : ℕ
