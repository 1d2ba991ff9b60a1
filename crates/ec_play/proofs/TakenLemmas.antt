-- How much of a source is taken by one step after another.
use Rattle.std.proofs.Common.{◌≡◌, ℕ, ◌+◌, ◌*◌, ◌-◌, ◌≤◌, List, [], ◌++◌, None, Some, Option, Ok, Err, Result, length, take, drop, refl, sym, length-append, arith}
use Rattle.std.specs.Prelude.{Bool, OnErr, OnOk}
use Rattle.std.specs.Io.KnownBytes.{Consumes, Keeps, prepend_known}
use Rattle.std.proofs.KnownBytes.{Consumes-trans}
use Rattle.std.proofs.lemmas.List.{length-take}
use Rattle.ec_play.specs.Taken.{TakesAtMost, most_of_script}
use Rattle.ec_store.specs.declared.ends.Failed.{Failed}
use Rattle.ec_play.proofs.KnownLemmas.{consumes_front, prepend_nothing}

pub takes : (most : ℕ) (old new : Option (List ℕ)) (bytes : List ℕ) → length bytes ≤ most → Consumes old new bytes → TakesAtMost most old new
takes most old new bytes short consumed = (bytes, short, consumed)

-- no byte was taken
pub takes_none : (most : ℕ) (old new : Option (List ℕ)) → Keeps old new → TakesAtMost most old new
takes_none most None new kept = ([], omega arith, tt)
takes_none most (Some xs) None kept = absurd kept
takes_none most (Some xs) (Some ys) kept = ([], omega arith, sym kept)

-- one step after another
pub takes_then : (first second most : ℕ) (old now new : Option (List ℕ)) → first + second ≤ most → TakesAtMost first old now → TakesAtMost second now new → TakesAtMost most old new
takes_then first second most old now new sum a b =
    let all : length (a.0 ++ b.0) ≡ length a.0 + length b.0 = length-append a.0 b.0 in
    (a.0 ++ b.0, omega (arith, all, a.1, b.1, sum), Consumes-trans old now new a.0 b.0 a.2 b.2)

-- what is held was taken of the source
pub takes_held : (most : ℕ) (left : Option (List ℕ)) (held : List ℕ) → length held ≤ most → TakesAtMost most (prepend_known held left) left
takes_held most None held short = (held, short, tt)
takes_held most (Some xs) held short = (held, short, refl)

-- what an empty reader was filled with was taken of the source
pub takes_filled : (most : ℕ) (before held : List ℕ) (old new : Option (List ℕ)) (r : Result Bool Failed) → before ≡ [] → length held ≤ most → OnOk r (Consumes old new held) → OnErr r ((held ≡ []) × Keeps old new) → TakesAtMost most (prepend_known before old) new
takes_filled most before held old new (Ok more) none short bytes same = rw (none, prepend_nothing old) (takes most old new held short bytes)
takes_filled most before held old new (Err e) none short bytes same = rw (none, prepend_nothing old) (takes_none most old new same.1)

-- a line more
pub takes_line : (number : ℕ) (old now new : Option (List ℕ)) → 1 ≤ number → TakesAtMost ((number - 1) * 2200001) old now → TakesAtMost 2200001 now new → TakesAtMost ((number + 1 - 1) * 2200001) old new
takes_line number old now new some a b = takes_then ((number - 1) * 2200001) 2200001 ((number + 1 - 1) * 2200001) old now new (omega (arith, some)) a b

-- the lines before one that a script may have, and what is read for it
pub takes_lines : (number : ℕ) (old now new : Option (List ℕ)) → 1 ≤ number → number ≤ 1048576 → TakesAtMost ((number - 1) * 2200001) old now → TakesAtMost 2204096 now new → TakesAtMost most_of_script old new
takes_lines number old now new some few a b = takes_then ((number - 1) * 2200001) 2204096 most_of_script old now new (omega (arith, some, few)) a b

-- all lines that a script may have, and what is read to see whether one follows
pub takes_all : (number : ℕ) (old now new : Option (List ℕ)) → number ≤ 1048577 → TakesAtMost ((number - 1) * 2200001) old now → TakesAtMost 4096 now new → TakesAtMost most_of_script old new
takes_all number old now new few a b = takes_then ((number - 1) * 2200001) 4096 most_of_script old now new (omega (arith, few)) a b

-- the part of a line that was taken so far, and what is held beyond it
pub takes_part : (old now new : Option (List ℕ)) (line : List ℕ) → length line ≤ 2200000 → Consumes old now line → TakesAtMost 4096 now new → TakesAtMost 2204096 old new
takes_part old now new line short taken read = takes_then 2200000 4096 2204096 old now new (omega arith) (takes 2200000 old now line short taken) read

-- the last line, which no newline ends
pub takes_last : (old now new : Option (List ℕ)) (line : List ℕ) → length line ≤ 2200000 → Consumes old now line → Consumes now new [] → TakesAtMost 2200001 old new
takes_last old now new line short taken same = takes_then 2200000 0 2200001 old now new (omega arith) (takes 2200000 old now line short taken) (takes 0 now new [] (omega arith) same)

-- a line with its newline
pub takes_ended : (old now left : Option (List ℕ)) (line held : List ℕ) (count : ℕ) → length line + count ≤ 2200000 → Consumes old now line → Consumes now (prepend_known held left) [] → TakesAtMost 2200001 old (prepend_known (drop (count + 1) held) left)
takes_ended old now left line held count short taken same =
    let most : length (take (count + 1) held) ≤ count + 1 = omega (arith, length-take {A = ℕ}) in
    let all : length (line ++ take (count + 1) held) ≡ length line + length (take (count + 1) held) = length-append line (take (count + 1) held) in
    takes 2200001 old (prepend_known (drop (count + 1) held) left) (line ++ take (count + 1) held) (omega (arith, all, most, short)) (consumes_front old now left line held (count + 1) taken same)
