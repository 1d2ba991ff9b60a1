use Rattle.std.proofs.Common.{◌≡◌, ℕ, ◌+◌, ◌-◌, ◌≤◌, ◌++◌, length, take, sym, length-append, arith}
use Rattle.std.proofs.lemmas.List.{length-take}
use Rattle.std.proofs.KnownBytes.{Consumes-trans}
use Rattle.ec_play.proofs.TakenLemmas.{takes}
use Rattle.ec_run.proofs.VolumeLemmas.{least}
use Rattle.ec_run.specs.VolumeText.{most_of_volume}
use Rattle.ec_run.proofs.volume.read_text.Goals as goal

pub returns-in_err-extend_from_slice-clause-taken : goal.returns-in_err-extend_from_slice-clause-taken
returns-in_err-extend_from_slice-clause-taken g c =
    let piece = take c.in_ok-count.count c.read.new.buf in
    let count : c.in_ok-count.count ≡ length piece = c.in_ok-count.ensures.bound.1 in
    let all : length (c.pieces.bytes.items ++ piece) ≡ length c.pieces.bytes.items + length piece = length-append c.pieces.bytes.items piece in
    takes most_of_volume _ _ (c.pieces.bytes.items ++ piece) (omega (arith, all, count, c.in_ok-count.ensures.bound.0, c.read.auto.buf, length-take {A = ℕ}, c.min.ensures, least (1048577 - c.len.result) 4096, c.len.ensures, c.pieces.bytes.ok.0, c.pieces.invariant.most))
    (Consumes-trans _ _ _ c.pieces.bytes.items piece c.pieces.invariant.taken c.in_ok-count.ensures.bytes.0)

pub pieces-preserved : goal.pieces-preserved
pieces-preserved g c =
    let piece = take c.in_ok-count.count c.read.new.buf in
    let count : c.in_ok-count.count ≡ length piece = c.in_ok-count.ensures.bound.1 in
    let added : c.extend_from_slice.new.self.items ≡ c.pieces.bytes.items ++ piece = c.in_ok-extend_from_slice.ensures.items in
    let all : length (c.pieces.bytes.items ++ piece) ≡ length c.pieces.bytes.items + length piece = length-append c.pieces.bytes.items piece in
    record {
      taken = rw added (Consumes-trans _ _ _ c.pieces.bytes.items piece c.pieces.invariant.taken c.in_ok-count.ensures.bytes.0);
      grown = rw added (omega (arith, all, count, c.if-count-eq0.false, c.pieces.invariant.grown));
      most = rw added (omega (arith, all, count, c.in_ok-count.ensures.bound.0, c.read.auto.buf, length-take {A = ℕ}, c.min.ensures, least (1048577 - c.len.result) 4096, c.len.ensures, c.pieces.bytes.ok.0, c.pieces.invariant.most));
      later = omega (arith, c.in_ok-count.ensures.cause, c.pieces.invariant.later);
    }
