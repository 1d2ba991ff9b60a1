-- Which message is next, and where none is.
use Rattle.std.proofs.Common.{◌≡◌, ◌⊎◌, inl, inr, ℕ, ◌<◌, Bool, true, false, Option, Some, None, List, refl, sym, ◌∙◌, ap, subst}
use Rattle.std.specs.Prelude.{is_some}
use Rattle.ec_clients.specs.Come.{Come}
use Rattle.ec_clients.specs.Owned.{Sees}
use Rattle.ec_cluster.specs.Matches.{Matches}
use Rattle.ec_cluster.specs.Sound.{IsSound}
use Rattle.ec_cluster.specs.Views.{flight}
use Rattle.ec_cluster.specs.declared.cluster.Cluster.{Cluster}
use Rattle.ec_clients.specs.declared.clients.Clients.{Clients}
use Rattle.ec_history.specs.Run.{Net}
use Rattle.ec_history.specs.Script.{IsNext, IsSettling, NoneFly}
use Rattle.ec_conduct.specs.Given.{Given}
use Rattle.ec_conduct.specs.Own.{Own}
use Rattle.ec_store.specs.Records.{Records}
use Rattle.ec_txn.specs.declared.ctx.Ctx.{Ctx}
use Rattle.ec_wire.specs.Places.{IsLowest}
use Rattle.ec_wire.specs.declared.entry.Entry.{Entry}
use Rattle.ec_wire.specs.declared.message.Message.{Message}
use Rattle.ec_world.specs.Resting.{IsFirst}
use Rattle.ec_world.specs.Settling.{Moves}
use Rattle.ec_world.specs.Steps.{IsGivingUp}
use Rattle.ec_world.specs.declared.settling.Stuck.{Stuck}
use Rattle.ec_world.proofs.InNet.{first_is, nowhere}

pub next_is : (s : Cluster) (before : List Records) (m : Net) (n : ℕ) → Matches s before m → IsLowest (λ i. is_some (flight s i)) (Some n) → IsNext m n
next_is s before m n k low = record {
  itself = k.flies n ∙ low.0;
  least = λ j lt fly. absurd (let bad : true ≡ false = sym fly ∙ (k.flies j ∙ low.1 j lt) in cc);
}

pub none_fly : (s : Cluster) (before : List Records) (m : Net) → Matches s before m → IsLowest (λ i. is_some (flight s i)) None → NoneFly m
none_fly s before m k low = λ i. k.flies i ∙ low i

pub none_there : (s : Cluster) → IsLowest (λ i. is_some (flight s i)) None → (i : ℕ) → flight s i ≡ None
none_there s low i = by (flight s i) refl
  where
    by : (o : Option Message) → flight s i ≡ o → flight s i ≡ None
    by None e = e
    by (Some m) e = absurd (let bad : false ≡ true = sym (low i) ∙ ap is_some e in cc)

-- the lowest message moves on, and a client gives a brick up, as settling names them
module _ {C : Type 0} (stands : Ctx → Given → C → List Own → Type 0) (by_table : Ctx → Given → List Own → Type 0) (s : Cluster) (c : Clients C) (before : List Records) (p : Come) (sound : IsSound s) (h : Sees stands by_table s c p) (m : Matches s before p.net) where
  pub moves_settle : (n : ℕ) (e : Entry) → IsLowest (λ i. is_some (flight s i)) (Some n) → Moves s c n p.net e → IsSettling p.net e
  moves_settle n e low (inl (inl x)) = subst (IsSettling p.net) (sym x.2) (next_is s before p.net n m low)
  moves_settle n e low (inl (inr x)) = subst (IsSettling p.net) (sym x) (next_is s before p.net n m low)
  moves_settle n e low (inr x) = subst (IsSettling p.net) (sym x.0) (next_is s before p.net n m low, nowhere stands by_table s c before p sound h m n x.1)

  pub gives_up_settles : (x : Stuck) (e : Entry) → IsLowest (λ i. is_some (flight s i)) None → IsFirst stands s c x → IsGivingUp x.client x.brick x.no p.net e → IsSettling p.net e
  gives_up_settles x e low first is = let f = first_is stands by_table s c before p sound h m x first in subst (IsSettling p.net) (sym is) (none_fly s before p.net m low, f.client, f.brick)
