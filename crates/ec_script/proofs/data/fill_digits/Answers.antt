use Rattle.std.proofs.Common.{◌++◌, length, length-append, take, ap, ◌∙◌, arith}
use Rattle.std.specs.Prelude.{Ok, Err}
use Rattle.hex.specs.Hex.{decode_sized}
use Rattle.ec_script.specs.Data.{digits_bytes}
use Rattle.ec_script.proofs.DataLemmas.{decoded, digits_are, filled}
use Rattle.ec_script.proofs.data.fill_digits.Goals as goal

pub unreachable-requires : goal.unreachable-requires
unreachable-requires c =
    let room = decoded c.args.text.now (length c.split_at_mut-room.result.1.now) c.requires.digits (omega (arith, c.requires.room, c.split_at_mut-room.ensures.back_len)) in
    let done = filled (decode_sized c.args.text.now (length c.split_at_mut-room.result.1.now)) (digits_bytes c.args.text.now) c.decode_to_slice.new.out (Err c.in-Err.field-0) c.in-Err.ensures.value room in
    cc done.0

pub returns : goal.returns
returns c =
    let room = decoded c.args.text.now (length c.split_at_mut-room.result.1.now) c.requires.digits (omega (arith, c.requires.room, c.split_at_mut-room.ensures.back_len)) in
    let done = filled (decode_sized c.args.text.now (length c.split_at_mut-room.result.1.now)) (digits_bytes c.args.text.now) c.decode_to_slice.new.out (Ok c.in-Ok.field-0) c.in-Ok.ensures.value room in
    let sized = (digits_are c.args.text.now c.requires.digits (omega (arith, c.requires.room))).0 in
    record {
      value = ap (λ xs. xs ++ c.decode_to_slice.new.out) c.split_at_mut-room.ensures.front ∙ ap (λ xs. take c.args.start c.args.bytes.now ++ xs) done.1;
      length = omega (arith, length-append c.split_at_mut-room.result.0.now c.decode_to_slice.new.out, ap length done.1, sized, c.requires.room, c.split_at_mut-room.ensures.front_len);
    }
