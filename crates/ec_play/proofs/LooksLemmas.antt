-- The lines that a run looks at, and what is taken for them.
use Rattle.std.proofs.Common.{◌≡◌, ℕ, ◌+◌, ◌*◌, ◌-◌, ◌≤◌, List, [], ◌∷◌, ◌++◌, None, Some, Option, length, refl, sym, ap, ◌∙◌, append_assoc, length-append, arith}
use Rattle.std.specs.Prelude.{IfSome}
use Rattle.std.proofs.lemmas.List.Elements.{All-nil, All-push}
use Rattle.ec_play.specs.declared.obeying.Stop.{Stop}
use Rattle.ec_play.specs.declared.obeying.Stop.TheVariants as stop
use Rattle.ec_play.specs.declared.status.Status.{Status}
use Rattle.ec_play.specs.Lines.{HasNoLine, TakesLine, lines}
use Rattle.ec_play.specs.Statuses.{stop_status}
use Rattle.ec_play.specs.Taken.{HasSeen, LooksAt, StopsAfter, TakesAtMost}
use Rattle.ec_play.proofs.TakenLemmas.{takes_then}

-- before the first line
pub seen_start : (input : Option (List ℕ)) → HasSeen input input 1
seen_start None = tt
seen_start (Some xs) = ([], refl, refl, All-nil (λ (line : List ℕ). length line ≤ 2200000))

-- a line is read
pub seen_next : (input now later : Option (List ℕ)) (number : ℕ) (line : List ℕ) → HasSeen input now number → TakesLine now later line → length line ≤ 2200000 → HasSeen input later (number + 1)
seen_next None now later number line seen takes short = tt
seen_next (Some xs) None later number line seen takes short = absurd seen
seen_next (Some xs) (Some ys) None number line seen takes short = absurd takes
seen_next (Some xs) (Some ys) (Some zs) number line seen takes short =
    let longer : number + 1 ≡ length (seen.0 ++ line ∷ []) + 1 = omega (arith, seen.2, length-append seen.0 (line ∷ [])) in (
      seen.0 ++ line ∷ [],
      seen.1 ∙ ap (λ rest. seen.0 ++ rest) takes ∙ sym (append_assoc seen.0 (line ∷ []) (lines zs)),
      longer,
      All-push (λ (line : List ℕ). length line ≤ 2200000) seen.0 line seen.3 short,
    )

-- after any front of the lines with this number beyond, a run may stop with this status
abbrev pub MayStop : Status → Option (List ℕ) → ℕ → Type 0
MayStop how now number = IfSome now (λ xs. (front : List (List ℕ)) → number ≡ length front + 1 → StopsAfter how front (lines xs))

-- a run that looks at the line of this number, and no further
pub looks : (how : Status) (input now left : Option (List ℕ)) (number read : ℕ) → read ≤ 2204096 → number ≤ 1048577
    → HasSeen input now number → MayStop how now number
    → TakesAtMost ((number - 1) * 2200001) input now → TakesAtMost read now left → LooksAt how input left
looks how None now left number read piece few seen stops before then = tt
looks how (Some xs) None left number read piece few seen stops before then = absurd seen
looks how (Some xs) (Some ys) None number read piece few seen stops before then = tt
looks how (Some xs) (Some ys) (Some zs) number read piece few seen stops before then =
    let all = takes_then ((number - 1) * 2200001) read ((number - 1) * 2200001 + 2204096) (Some xs) (Some ys) (Some zs) (omega (arith, piece)) before then in
    record {
      front = seen.0;
      rest = lines ys;
      parts = seen.1;
      few = omega (arith, few, seen.2);
      short = seen.3;
      upto = stops seen.0 seen.2;
      taken = all.0;
      of_input = all.2;
      most = omega (arith, all.1, seen.2);
    }

-- all lines are read
pub stops_at_end : (how : Status) (now : Option (List ℕ)) (number : ℕ) → HasNoLine now → ((front : List (List ℕ)) → StopsAfter how front []) → MayStop how now number
stops_at_end how None number none stops = tt
stops_at_end how (Some xs) number none stops = λ front at. rw none (stops front)

-- a status that names no line
pub stops_anywhere : (how : Status) (now : Option (List ℕ)) (number : ℕ) → ((front rest : List (List ℕ)) → number ≡ length front + 1 → StopsAfter how front rest) → MayStop how now number
stops_anywhere how None number stops = tt
stops_anywhere how (Some xs) number stops = λ front at. stops front (lines xs) at

-- at a line that isn't obeyed
pub stops_at_line : (now : Option (List ℕ)) (number : ℕ) (s : Stop) → MayStop (stop_status number s) now number
stops_at_line now number (stop.Bad why) = stops_anywhere (stop_status number (stop.Bad why)) now number (λ front rest at. at)
stops_at_line now number stop.WriteFault = stops_anywhere (stop_status number stop.WriteFault) now number (λ front rest at. tt)
stops_at_line now number stop.NoMemory = stops_anywhere (stop_status number stop.NoMemory) now number (λ front rest at. tt)

-- nothing is read
pub looks_at_none : (how : Status) (input : Option (List ℕ)) → ((rest : List (List ℕ)) → StopsAfter how [] rest) → LooksAt how input input
looks_at_none how None stops = tt
looks_at_none how (Some xs) stops = record {
  front = [];
  rest = lines xs;
  parts = refl;
  few = omega arith;
  short = All-nil (λ (line : List ℕ). length line ≤ 2200000);
  upto = stops (lines xs);
  taken = [];
  of_input = refl;
  most = omega arith;
}
