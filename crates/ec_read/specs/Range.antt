-- Which bytes a read gives, and of which stripes they are.
use Rattle.std.specs.Prelude.{ℕ, ◌+◌, ◌-◌, ◌/◌, ◌%◌, ◌^◌, min}
use Rattle.ec_attr.specs.declared.policy.Policy.{Policy}
use Rattle.ec_attr.specs.declared.policy.Policy.TheVariants.{RoundRobin, GfidHash}
use Rattle.ec_stripe.specs.Span.{stripe_bytes}
use Rattle.ec_txn.specs.declared.ctx.Ctx.{Ctx}
use Rattle.ec_txn.specs.declared.reading.Reading.{Reading}

-- where the bytes end that lie below the size; no brick tells a size past 2^40
abbrev pub end_of : ℕ → ℕ → ℕ → ℕ
end_of off len size = min (off + len) (min size (2 ^ 40))

-- the brick from which on a read of n bricks chooses: in turn by the call's number, or by the file's id
abbrev pub start_by : Policy → ℕ → ℕ → ℕ → ℕ
start_by RoundRobin call g n = (call - 1) % n
start_by GfidHash call g n = g % n

-- the stripe past the last one of the bytes before `end`
abbrev pub stripes_to : ℕ → ℕ → ℕ
stripes_to k end = (end - 1) / stripe_bytes k + 1

-- What is read: a chunk of each stripe of k chunks that has a byte of the range, of k bricks of `among`.
abbrev pub reading_by : Ctx → ℕ → ℕ → ℕ → ℕ → ℕ → ℕ → Reading
reading_by x g k off len among size = record {
  among = among;
  start = start_by x.policy x.call g x.geometry.n;
  first = off / stripe_bytes k;
  count = stripes_to k (end_of off len size) - off / stripe_bytes k;
}
