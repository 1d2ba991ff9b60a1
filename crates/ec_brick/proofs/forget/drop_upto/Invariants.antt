use Rattle.std.proofs.Common.{◌≡◌, ◌≤◌, ℕ, IfSome}
use Rattle.ec_index.specs.Members.{members}
use Rattle.ec_brick.specs.Forget.{remains}
use Rattle.ec_brick.specs.Walk.{gfids_left}
use Rattle.ec_brick.proofs.forget.drop_upto.Given as goal

-- of what is to go, that from the next one on is still there
abbrev pub invariant-loop-next : goal.invariant-loop-next
invariant-loop-next l = record {
  set : (h : ℕ) → members l.index h ≡ remains l.next l.last (members l.fn.index) h;
  within : IfSome l.next (λ n. n.0 ≤ l.last.0);
}

abbrev pub decreases-loop-next : goal.decreases-loop-next
decreases-loop-next l = gfids_left l.next
