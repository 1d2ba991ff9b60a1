use Rattle.std.proofs.Common.{◌≡◌, ◌||◌, ℕ, take}
use Rattle.ec_index.specs.Members.{members}
use Rattle.ec_report.proofs.Naming.{leads}
use Rattle.ec_report.proofs.found.put_children.Given as goal

abbrev pub invariant-loop-child : goal.invariant-loop-child
invariant-loop-child l = (g : ℕ) → members l.named g ≡ (members l.fn.named g || leads (take l.child-index l.page) g)
