-- The last place is the one behind the front.
use Rattle.std.proofs.Common.{◌≡◌, ℕ, ◌-◌, List, [], ◌∷◌, ◌++◌, length, ap, ◌∙◌, arith, length-append}
use Rattle.std.proofs.Math.Seq.{set-append_seam}
use Rattle.std.specs.Prelude.{slice_set}
use Rattle.ec_wire.proofs.lists.ItemList.set_last.Goals as goal

set_end : {X : Type 0} (items front : List X) (n : ℕ) (x y : X) → items ≡ front ++ y ∷ [] → n ≡ length items → slice_set items (n - 1) x ≡ front ++ x ∷ []
set_end items front n x y e k = let at : n - 1 ≡ length front = omega (arith, ap length e, length-append front (y ∷ [])) in (λ i. slice_set (e i) (at i) x) ∙ set-append_seam front y [] x

pub returns-then-n-gt0 : goal.returns-then-n-gt0
returns-then-n-gt0 g c = λ front y e. set_end c.self.inside.items.items front c.len-n.result c.args.x y (c.self.view_is ∙ e) (omega (arith, c.self.inside.items.ok.0))
