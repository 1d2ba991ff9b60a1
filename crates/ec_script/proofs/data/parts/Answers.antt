use Rattle.std.proofs.Common.{◌++◌, Ok, length, sym, ap, subst, ◌∙◌, arith, inr}
use Rattle.std.specs.Prelude.{Bool}
use Rattle.std.specs.Option.{option_map}
use Rattle.ec_script.specs.Data.{Holds, part_bytes, not_bulky}
use Rattle.ec_script.specs.Results.{◌>>=◌}
use Rattle.ec_script.proofs.DataLemmas.{parts_next, parts_fault, parts_end, too_many, not_too_many, joined_fault, fails_as}
use Rattle.ec_script.proofs.WordLemmas.{below_rest}
use Rattle.ec_script.proofs.data.parts.Goals as goal

pub loop-rest-preserved : goal.loop-rest-preserved
loop-rest-preserved c =
    let inv = c.loop-rest.invariant in
    let found = c.in-Ok.ensures.found in (
      inv.0 ++ found.0,
      found.2 inv.0 inv.1,
      inv.2
          ∙ parts_next inv.0 found.0 c.loop-rest.place (option_map (λ rest. rest.now) c.loop-rest.rest) c.in-Some.parts.now c.first_piece.result.0.now (option_map (λ rest. rest.now) c.first_piece.result.1)
          (ap (option_map (λ rest. rest.now)) c.in-Some.is) c.first_piece.ensures.pieces found.1,
      below_rest c.first_piece.result.1 (λ rest. length rest.now) c.loop-rest.place (length c.first_piece.result.0.now) (length c.in-Some.parts.now) _ c.first_piece.ensures.shorter (rw c.in-Some.is at inv.3),
    )

pub returns-in-Err-clause-found : goal.returns-in-Err-clause-found
returns-in-Err-clause-found c =
    let inv = c.loop-rest.invariant in
    joined_fault c.in-Err.fault c.args.place c.args.text.now
    (fails_as c.in-Err.fault (part_bytes c.loop-rest.place c.first_piece.result.0.now) _
    (λ e.
    inv.2
    ∙ parts_fault c.in-Err.fault inv.0 c.loop-rest.place (option_map (λ rest. rest.now) c.loop-rest.rest) c.in-Some.parts.now c.first_piece.result.0.now (option_map (λ rest. rest.now) c.first_piece.result.1)
    (ap (option_map (λ rest. rest.now)) c.in-Some.is) c.first_piece.ensures.pieces e)
    c.in-Err.ensures.fault)

pub returns-then-bulky-clause-found : goal.returns-then-bulky-clause-found
returns-then-bulky-clause-found c =
    let inv = c.loop-rest.invariant in
    inr (ap (λ r. r >>= not_bulky) (inv.2 ∙ parts_end inv.0 c.loop-rest.place (option_map (λ rest. rest.now) c.loop-rest.rest) (ap (option_map (λ rest. rest.now)) c.in_default.is)) ∙ too_many inv.0 (subst (λ (t : Bool). Holds t c.loop-rest.bytes.items inv.0) c.if-bulky.true inv.1))

pub returns-else-bulky-clause-found : goal.returns-else-bulky-clause-found
returns-else-bulky-clause-found c =
    let inv = c.loop-rest.invariant in
    let held = subst (λ (t : Bool). Holds t c.loop-rest.bytes.items inv.0) c.if-bulky.false inv.1 in
    ap (λ r. r >>= not_bulky) (inv.2 ∙ parts_end inv.0 c.loop-rest.place (option_map (λ rest. rest.now) c.loop-rest.rest) (ap (option_map (λ rest. rest.now)) c.in_default.is)) ∙ not_too_many inv.0 held.1 ∙ ap (λ xs. Ok xs) (sym held.0)

pub returns-else-bulky-clause-most : goal.returns-else-bulky-clause-most
returns-else-bulky-clause-most c =
    let held = subst (λ (t : Bool). Holds t c.loop-rest.bytes.items c.loop-rest.invariant.0) c.if-bulky.false c.loop-rest.invariant.1 in
    omega (arith, ap length held.0, held.1)
