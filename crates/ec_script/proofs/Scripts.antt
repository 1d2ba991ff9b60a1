-- One step of a generated script.
use Rattle.std.proofs.Common.{◌≡◌, ℕ, zero, suc, ◌+◌, ◌-◌, ◌<◌, ◌%◌, ◌≢◌, Bool, [], ◌∷◌, ◌++◌, refl, arith}
use Rattle.std.proofs.Math.Path.{fun_ext}
use Rattle.std.proofs.lemmas.Bool.{eq-eqb, ne_eqb}
use Rattle.ec_attr.specs.declared.geometry.Geometry.{Geometry}
use Rattle.ec_script.specs.Generator.{call_of, client_of, creations, draws, file_name, kind_of, round_events, rounds, settled, state_after, stopped_after, turns}
use Rattle.ec_script.specs.declared.draws.Draws.{Draws}
use Rattle.ec_wire.specs.declared.event.Event.TheVariants.{Call, Settle}
use Rattle.ec_wire.specs.declared.op.Op.{Op}
use Rattle.ec_wire.specs.declared.op.Op.TheVariants.{Create}

pub creations_none : (gfid : ℕ) → creations 0 gfid ≡ []
unfolding creations
creations_none gfid = refl

pub creations_more : (n gfid : ℕ) → 0 < n
    → creations n gfid ≡ Call 1 (Create (record { 0 = 1 }) (file_name gfid)) ∷ Settle ∷ creations (n - 1) (gfid + 1)
unfolding creations
creations_more zero gfid l = absurd (omega arith)
creations_more (suc n) gfid l = let e : suc n - 1 ≡ n = omega arith in rw e refl

pub rounds_none : (g : Geometry) (first x : ℕ) (stopped : ℕ → Bool) → rounds g first 0 x stopped ≡ []
unfolding rounds
rounds_none g first x stopped = refl

pub rounds_more : (g : Geometry) (first n x : ℕ) (stopped : ℕ → Bool) → 0 < n
    → rounds g first n x stopped ≡ round_events g first stopped (draws x)
    ++ rounds g first (n - 1) (state_after x) (stopped_after (round_events g first stopped (draws x)) stopped)
unfolding rounds
rounds_more g first zero x stopped l = absurd (omega arith)
rounds_more g first (suc n) x stopped l = let e : suc n - 1 ≡ n = omega arith in rw e refl

pub events_of_turn : (g : Geometry) (first : ℕ) (stopped : ℕ → Bool) (r : Draws) → kind_of r ≡ 14
    → round_events g first stopped r ≡ turns g stopped (r.c % g.n)
events_of_turn g first stopped r e = rw (eq-eqb (kind_of r) 14 e) refl

pub events_of_call : (g : Geometry) (first : ℕ) (stopped : ℕ → Bool) (r : Draws) → kind_of r ≢ 14
    → round_events g first stopped r ≡ settled (client_of r) (call_of first r)
events_of_call g first stopped r d = rw (ne_eqb (kind_of r) 14 d) refl

pub stopped_after_call : (stopped : ℕ → Bool) (client : ℕ) (op : Op) → stopped_after (settled client op) stopped ≡ stopped
stopped_after_call stopped client op = fun_ext (λ b. refl)
