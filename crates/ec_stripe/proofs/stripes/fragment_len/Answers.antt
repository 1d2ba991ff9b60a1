use Rattle.std.proofs.Common.{◌+◌, ◌-◌, ◌/◌, arith, refl}
use Rattle.ec_stripe.proofs.Rounding.{rounded_up}
use Rattle.ec_stripe.proofs.stripes.fragment_len.Goals as goal

pub returns : goal.returns
returns c =
    let bytes = c.stripe_bytes-bytes in
    record {
      stripes = (c.args.size + bytes.result - 1) / bytes.result;
      hold = rounded_up (c.args.g.now.n - c.args.g.now.r) bytes.result c.args.size bytes.ensures.value (omega arith);
      chunks = refl;
    }
