use Rattle.std.proofs.Common.{rules, ◌≡◌, ◌≤◌, subst, refl, ℕ, Option, Some, IfSome, Bool, false, arith, Result, Ok, Err, IsOk, OnOk}
use Rattle.ec_attr.specs.declared.gfid.Gfid.{Gfid}
use Rattle.ec_index.specs.Members.{members, with_member}
use Rattle.ec_brick.specs.Forget.{remains}
use Rattle.ec_brick.proofs.Dropping.{Drops, drops, drop_last, drop_next}
use Rattle.ec_brick.proofs.forget.drop_upto.Goals as goal

of_ok : {T E : Type 0} (P : Type 0) (r : Result T E) → IsOk r → OnOk r P → P
of_ok P (Ok x) is p = p
of_ok P (Err e) is p = absurd (search rules)

within : (next : Option Gfid) (g last : Gfid) → next ≡ Some g → IfSome next (λ n. n.0 ≤ last.0) → g.0 ≤ last.0
within next g last is w = subst (λ (o : Option Gfid). IfSome o (λ n. n.0 ≤ last.0)) is w

dropped : (old set new : ℕ → Bool) (next : Option Gfid) (g last : Gfid) → next ≡ Some g → IfSome next (λ n. n.0 ≤ last.0) → ((h : ℕ) → set h ≡ remains next last old h) → new ≡ with_member set g.0 false → Drops old new g.0 last.0
dropped old set new next g last is w so_far now = drops old set new g last (within next g last is w) (subst (λ (o : Option Gfid). (h : ℕ) → set h ≡ remains o last old h) is so_far) now

pub loop-next-preserved-in-Some-after : goal.loop-next-preserved-in-Some-after
loop-next-preserved-in-Some-after c = record {
  set = drop_next (members c.args.index.now) (members c.set.new.self) c.in-Some.g c.args.last c.in-Some-after.above (dropped (members c.args.index.now) (members c.loop-next.index) (members c.set.new.self) c.loop-next.next c.in-Some.g c.args.last c.in-Some.is c.loop-next.invariant.within c.loop-next.invariant.set (of_ok _ c.set.result (c.set.ensures.out refl) c.set.ensures.ok)) c.if-above-last.true c.in-Some-after.ensures;
  within = c.if-above-last.true;
}

pub loop-next-preserved-in_default-after : goal.loop-next-preserved-in_default-after
loop-next-preserved-in_default-after c = record {
  set = drop_last (members c.args.index.now) (members c.set.new.self) c.in-Some.g c.args.last (within c.loop-next.next c.in-Some.g c.args.last c.in-Some.is c.loop-next.invariant.within) (dropped (members c.args.index.now) (members c.loop-next.index) (members c.set.new.self) c.loop-next.next c.in-Some.g c.args.last c.in-Some.is c.loop-next.invariant.within c.loop-next.invariant.set (of_ok _ c.set.result (c.set.ensures.out refl) c.set.ensures.ok)) (λ h lt le. c.in-Some-after.ensures.2 h lt (omega (arith, le, c.if-above-last.false)));
  within = tt;
}

pub loop-next-preserved : goal.loop-next-preserved
loop-next-preserved c = record {
  set = drop_last (members c.args.index.now) (members c.set.new.self) c.in-Some.g c.args.last (within c.loop-next.next c.in-Some.g c.args.last c.in-Some.is c.loop-next.invariant.within) (dropped (members c.args.index.now) (members c.loop-next.index) (members c.set.new.self) c.loop-next.next c.in-Some.g c.args.last c.in-Some.is c.loop-next.invariant.within c.loop-next.invariant.set (of_ok _ c.set.result (c.set.ensures.out refl) c.set.ensures.ok)) (λ h lt le. c.in_default-after.ensures h lt);
  within = tt;
}
