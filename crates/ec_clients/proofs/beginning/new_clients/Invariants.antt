-- So many clients, which live and run no call.
use Rattle.std.proofs.Common.{◌≡◌, None, false, replicate}
use Rattle.ec_clients.proofs.beginning.new_clients.Given as goal

abbrev pub invariant-loop : goal.invariant-loop
invariant-loop g l = record {
  slots : l.running.items ≡ replicate l.counter None;
  lives : l.dead.items ≡ replicate l.counter false;
}
