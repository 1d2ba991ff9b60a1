-- Clients that have made no call, with another gfid to take.
use Rattle.std.proofs.Common.{◌≡◌, ℕ, Some, None, List, refl}
use Rattle.ec_brick.specs.State.{State}
use Rattle.ec_cluster.specs.declared.cluster.Cluster.{Cluster}
use Rattle.ec_conduct.specs.Given.{Given}
use Rattle.ec_conduct.specs.Own.{Own}
use Rattle.ec_history.specs.Flat.{Tree}
use Rattle.ec_history.specs.Run.{Asker}
use Rattle.ec_txn.specs.declared.ctx.Ctx.{Ctx}
use Rattle.ec_clients.specs.Beginning.{beginning}
use Rattle.ec_clients.specs.Owned.{Sees}
use Rattle.ec_clients.specs.declared.clients.Clients.{Clients}

no_asker : (asker : Asker) → None ≡ Some asker → ⊥
no_asker asker e = cc

module _ {C : Type 0} (stands : Ctx → Given → C → List Own → Type 0) (by_table : Ctx → Given → List Own → Type 0) where
  pub gfid_sees : (c : Clients C) (next : ℕ) (s : Cluster) (bricks : ℕ → State) (tree : Tree) (first : ℕ) → Sees stands by_table s c (beginning bricks tree first) → Sees stands by_table s (record c { next_gfid = next }) (beginning bricks tree next)
  gfid_sees c next s bricks tree first h = record {
    seen = record {
      said = h.seen.said;
      clients = record {
        count = h.seen.clients.count;
        gfid = refl;
        dead = h.seen.clients.dead;
        released = h.seen.clients.released;
        calls = record {
          made = λ a asker e. absurd (no_asker asker e);
          given = h.seen.clients.calls.given;
          later = λ a e. record { asker = refl; given = refl; answered = refl; own = refl; awaits = λ b. refl };
          range = λ a lt. refl;
          no_grants = λ j. refl;
          no_stripes = λ j. refl;
        };
        slots = record {
          runs = λ j r e. let x = (h.seen.clients.slots.runs j r e).0 in absurd (no_asker x.asker x.made);
          unanswered = λ a asker e un out. absurd (no_asker asker e);
          ended = λ a asker e un. absurd (no_asker asker e);
        };
      };
    };
    owned = h.owned;
    below = h.below;
    booked = h.booked;
  }
