use Rattle.std.proofs.Common.{rules, subst, sym, ◌∙◌}
use Rattle.std.specs.declared.ops.Bound.TheVariants.{Included, Unbounded}
use Rattle.std.specs.BTreeSet.{IsKeyRangeOf}
use Rattle.ec_wire.specs.Places.{IsNext, place_cmp, has_place}
use Rattle.ec_wire.proofs.PlaceOrder.{first_given, next_of_range}
use Rattle.ec_wire.proofs.places.Places.next_from.Goals as goal

pub returns : goal.returns
returns c =
    let h : IsKeyRangeOf place_cmp (Included c.args.p) Unbounded c.args.self.now.places c.range.result = search rules in
    subst (IsNext (has_place c.args.self.now) c.args.p) (sym (c.copied.ensures ∙ first_given c.next.result c.range.result c.next.new.self c.next.ensures.steps)) (next_of_range c.args.self.now.places c.args.p c.range.result h)
