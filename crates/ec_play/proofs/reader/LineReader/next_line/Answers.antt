use Rattle.std.proofs.Common.{◌≡◌, ◌+◌, ◌<◌, ◌≤◌, ◌++◌, length, take, ap, ◌∙◌, arith, length-append}
use Rattle.std.specs.Prelude.{nat_eq, not, ◌==◌}
use Rattle.std.proofs.lemmas.List.Folds.{length-prefix_len}
use Rattle.std.specs.List.{position_or_len}
use Rattle.ec_play.proofs.KnownLemmas.{consumes_front}
use Rattle.ec_play.proofs.LineLemmas.{ends_line, begins_long, takes_line, no_newline_before}
use Rattle.std.specs.Io.KnownBytes.{prepend_known}
use Rattle.ec_play.proofs.TakenLemmas.{takes_ended, takes_last, takes_part}
use Rattle.ec_play.proofs.reader.LineReader.next_line.Goals as goal

pub returns-then-not-branch-clause-line : goal.returns-then-not-branch-clause-line
returns-then-not-branch-clause-line g c =
    ends_line _ _ _ c.bytes.line.items c.is_empty.result (c.is_empty.ensures ∙ ap (λ n. n == 0) c.bytes.line.ok.0) c.bytes.invariant.taken c.in_ok-refill.ensures.same
    (rw c.if-not-branch.true at c.in_ok-refill.ensures.more) c.bytes.invariant.inner

pub returns-then-count-len-clause-long : goal.returns-then-count-len-clause-long
returns-then-count-len-clause-long g c =
    λ is_long.
    begins_long 2200000 _ _ _ c.bytes.line.items c.refill.new.self c.bytes.invariant.taken c.in_ok-refill.ensures.same c.bytes.invariant.inner
    (let place : c.place_of-count.result ≡ position_or_len (λ b. nat_eq b 10) c.refill.new.self =
    c.place_of-count.ensures ∙ ap (position_or_len (λ b. nat_eq b 10)) c.held-held.ensures in
    let size : c.len.result ≡ length c.bytes.line.items = c.len.ensures ∙ c.bytes.line.ok.0 in
    omega (arith, place, size, c.if-count-len.true))

pub returns-then-ended-clause-line : goal.returns-then-ended-clause-line
returns-then-ended-clause-line g c =
    let place : c.place_of-count.result ≡ position_or_len (λ b. nat_eq b 10) c.refill.new.self =
    c.place_of-count.ensures ∙ ap (position_or_len (λ b. nat_eq b 10)) c.held-held.ensures in
    let added : c.extend_from_slice.new.self.items ≡ c.bytes.line.items ++ take c.place_of-count.result c.held-held.result.now = c.in_ok-extend_from_slice.ensures.items in
    rw (added, c.held-held.ensures, c.take.ensures, place)
    (takes_line _ _ _ c.bytes.line.items c.refill.new.self c.bytes.invariant.taken c.in_ok-refill.ensures.same c.bytes.invariant.inner
    (rw (← place, ← c.held-held.ensures) c.if-ended.true))

pub bytes-preserved : goal.bytes-preserved
bytes-preserved g c =
    let place : c.place_of-count.result ≡ position_or_len (λ b. nat_eq b 10) c.refill.new.self =
    c.place_of-count.ensures ∙ ap (position_or_len (λ b. nat_eq b 10)) c.held-held.ensures in
    let added : c.extend_from_slice.new.self.items ≡ c.bytes.line.items ++ take c.place_of-count.result c.refill.new.self =
    c.in_ok-extend_from_slice.ensures.items ∙ ap (λ held. c.bytes.line.items ++ take c.place_of-count.result held) c.held-held.ensures in
    let size : length c.extend_from_slice.new.self.items ≡ length c.bytes.line.items + c.place_of-count.result =
    ap length added ∙ length-append c.bytes.line.items (take c.place_of-count.result c.refill.new.self)
    ∙ ap (λ n. length c.bytes.line.items + n) (rw place (length-prefix_len (λ b. not (nat_eq b 10)) c.refill.new.self)) in
    let all : length c.refill.new.self ≤ c.place_of-count.result = rw (← c.held-held.ensures) c.if-ended.false in
    let some : 0 < length c.refill.new.self = rw c.if-not-branch.false at c.in_ok-refill.ensures.more in
    record {
      taken = rw (added, c.take-in-bytes.ensures)
          (consumes_front _ _ (g.S.Source.left c.refill.new.source) c.bytes.line.items c.refill.new.self c.place_of-count.result c.bytes.invariant.taken c.in_ok-refill.ensures.same);
      inner = rw (added, place) (no_newline_before c.bytes.line.items c.refill.new.self c.bytes.invariant.inner);
      grown = omega (arith, size, all, some, c.bytes.invariant.grown);
      short = omega (arith, size, c.if-count-len.false, c.len.ensures, c.bytes.line.ok.0, c.bytes.invariant.short);
      told = c.in_ok-refill.ensures.told ∙ c.bytes.invariant.told;
      later = omega (arith, c.bytes.invariant.later, c.in_ok-refill.ensures.later);
    }

pub returns-then-not-branch-clause-read : goal.returns-then-not-branch-clause-read
returns-then-not-branch-clause-read g c = takes_part (prepend_known c.args.self.now (g.S.Source.left c.args.source.now)) (prepend_known c.bytes.self (g.S.Source.left c.bytes.source)) (g.S.Source.left c.refill.new.source) c.bytes.line.items c.bytes.invariant.short c.bytes.invariant.taken c.refill.ensures.read

pub returns-then-count-len-clause-read : goal.returns-then-count-len-clause-read
returns-then-count-len-clause-read g c = takes_part (prepend_known c.args.self.now (g.S.Source.left c.args.source.now)) (prepend_known c.bytes.self (g.S.Source.left c.bytes.source)) (g.S.Source.left c.refill.new.source) c.bytes.line.items c.bytes.invariant.short c.bytes.invariant.taken c.refill.ensures.read

pub returns-in_err-refill-clause-read : goal.returns-in_err-refill-clause-read
returns-in_err-refill-clause-read g c = takes_part (prepend_known c.args.self.now (g.S.Source.left c.args.source.now)) (prepend_known c.bytes.self (g.S.Source.left c.bytes.source)) (g.S.Source.left c.refill.new.source) c.bytes.line.items c.bytes.invariant.short c.bytes.invariant.taken c.refill.ensures.read

pub returns-in_err-extend_from_slice-clause-read : goal.returns-in_err-extend_from_slice-clause-read
returns-in_err-extend_from_slice-clause-read g c = takes_part (prepend_known c.args.self.now (g.S.Source.left c.args.source.now)) (prepend_known c.bytes.self (g.S.Source.left c.bytes.source)) (g.S.Source.left c.refill.new.source) c.bytes.line.items c.bytes.invariant.short c.bytes.invariant.taken c.refill.ensures.read

pub returns-then-ended-clause-read : goal.returns-then-ended-clause-read
returns-then-ended-clause-read g c = takes_part (prepend_known c.args.self.now (g.S.Source.left c.args.source.now)) (prepend_known c.bytes.self (g.S.Source.left c.bytes.source)) (g.S.Source.left c.refill.new.source) c.bytes.line.items c.bytes.invariant.short c.bytes.invariant.taken c.refill.ensures.read

pub returns-then-not-branch-clause-taken : goal.returns-then-not-branch-clause-taken
returns-then-not-branch-clause-taken g c =
    takes_last (prepend_known c.args.self.now (g.S.Source.left c.args.source.now)) (prepend_known c.bytes.self (g.S.Source.left c.bytes.source)) (prepend_known c.refill.new.self (g.S.Source.left c.refill.new.source)) c.bytes.line.items c.bytes.invariant.short c.bytes.invariant.taken c.in_ok-refill.ensures.same

pub returns-then-ended-clause-taken : goal.returns-then-ended-clause-taken
returns-then-ended-clause-taken g c =
    rw c.take.ensures
    (takes_ended (prepend_known c.args.self.now (g.S.Source.left c.args.source.now)) (prepend_known c.bytes.self (g.S.Source.left c.bytes.source)) (g.S.Source.left c.refill.new.source) c.bytes.line.items c.refill.new.self c.place_of-count.result (omega (arith, c.if-count-len.false, c.len.ensures, c.bytes.line.ok.0, c.bytes.invariant.short)) c.bytes.invariant.taken c.in_ok-refill.ensures.same)
