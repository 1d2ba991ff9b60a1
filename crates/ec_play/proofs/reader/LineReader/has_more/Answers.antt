use Rattle.std.proofs.Common.{List, ℕ, Option, Some, None, true, false, Result, Ok, Err, length, ◌<◌, []}
use Rattle.std.specs.Prelude.{IfOk, MatchBool, Bool, OnOk}
use Rattle.std.specs.Io.KnownBytes.{Consumes, IsAtEnd, prepend_known}
use Rattle.ec_store.specs.declared.ends.Failed.{Failed}
use Rattle.ec_play.specs.Lines.{HasLine, HasNoLine}
use Rattle.ec_play.proofs.HeldLines.{held_line, no_line}
use Rattle.ec_play.proofs.reader.LineReader.has_more.Goals as goal

-- what was there before is what is there now
pub same_line : (old now : Option (List ℕ)) → Consumes old now [] → HasLine now → HasLine old
same_line None now same h = tt
same_line (Some xs) None same h = absurd same
same_line (Some xs) (Some ys) same h = (h.0, h.1, rw same h.2)

pub same_none : (old now : Option (List ℕ)) → Consumes old now [] → HasNoLine now → HasNoLine old
same_none None now same h = tt
same_none (Some xs) None same h = absurd same
same_none (Some xs) (Some ys) same h = rw same h

more_line : (old left : Option (List ℕ)) (held : List ℕ) (r : Result Bool Failed) → OnOk r (Consumes old (prepend_known held left) [])
    → IfOk r (λ more. MatchBool more (0 < length held) (IsAtEnd (prepend_known held left))) → IfOk r (λ more. MatchBool more (HasLine old) (HasNoLine old))
more_line old left held (Ok true) same more = same_line old (prepend_known held left) same (held_line held left more)
more_line old left held (Ok false) same more = same_none old (prepend_known held left) same (no_line (prepend_known held left) more)
more_line old left held (Err e) same more = tt

pub returns-clause-line : goal.returns-clause-line
returns-clause-line g c = more_line _ _ c.refill.new.self c.refill.result c.refill.ensures.same c.refill.ensures.more
