use Rattle.std.proofs.Common.{◌≡◌, subst, sym, slice_index}
use Rattle.ec_store.proofs.Zeros.{zero_at}
use Rattle.ec_store.proofs.chunks.zeros.Goals as goal

pub returns : goal.returns
returns c i = subst (λ chunk. slice_index chunk i ≡ 0) (sym c.zero.ensures.value) (zero_at i)
