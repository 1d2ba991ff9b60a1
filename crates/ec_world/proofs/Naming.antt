-- Messages that scripts name, as what has come of a log has them.
use Rattle.std.proofs.Common.{◌≡◌, ◌⊎◌, inl, inr, ℕ, ◌<◌, Bool, true, false, cond, ◌==◌, ◌&&◌, Option, Some, None, List, [], ◌∷◌, refl, sym, ◌∙◌, ap, subst, eqb-true, eq-eqb}
use Rattle.std.specs.Bool.{beq}
use Rattle.std.specs.Prelude.{is_some}
use Rattle.ec_clients.specs.Come.{Come}
use Rattle.ec_clients.specs.Owned.{Sees}
use Rattle.ec_clients.specs.declared.clients.Clients.{Clients}
use Rattle.ec_clients.proofs.Places.{some_is}
use Rattle.ec_cluster.specs.Matches.{Matches}
use Rattle.ec_cluster.specs.Sound.{IsSound}
use Rattle.ec_cluster.specs.Views.{flight}
use Rattle.ec_cluster.specs.declared.cluster.Cluster.{Cluster}
use Rattle.ec_conduct.specs.Given.{Given}
use Rattle.ec_conduct.specs.Own.{Own}
use Rattle.ec_history.specs.Run.{Net}
use Rattle.ec_history.specs.Script.{FliesBetween, IsLeast, IsNamed, Names}
use Rattle.ec_store.specs.Records.{Records}
use Rattle.ec_txn.specs.declared.ctx.Ctx.{Ctx}
use Rattle.ec_wire.specs.Lanes.{goes_between, is_going, is_to_brick}
use Rattle.ec_wire.specs.Places.{IsLowest}
use Rattle.ec_wire.specs.declared.entry.Entry.{Entry}
use Rattle.ec_wire.specs.declared.event.Event.TheVariants.{Deliver, GiveUp, Lose, Tear}
use Rattle.ec_wire.specs.declared.event.Which.{Which}
use Rattle.ec_wire.specs.declared.event.Which.TheVariants.{Number, ToBrick as OfRequests, ToClient as OfReplies}
use Rattle.ec_wire.specs.declared.message.Body.{Body}
use Rattle.ec_wire.specs.declared.message.Body.TheVariants.{ToBrick, ToClient}
use Rattle.ec_wire.specs.declared.message.Message.{Message}
use Rattle.ec_world.specs.Steps.{IsDelivery, IsGivingUp, IsLoss, IsTear}
use Rattle.ec_world.specs.Refusals.{IsFound}

both_left : (x y : Bool) → (x && y) ≡ true → x ≡ true
both_left true y e = refl
both_left false y e = absurd (cc)

both_right : (x y : Bool) → (x && y) ≡ true → y ≡ true
both_right true y e = e
both_right false y e = absurd (cc)

both : (x y : Bool) → x ≡ true → y ≡ true → (x && y) ≡ true
both true y e f = f
both false y e f = absurd (cc)

beq_is : (x y : Bool) → beq x y ≡ true → x ≡ y
beq_is true true e = refl
beq_is false false e = refl
beq_is true false e = absurd (cc)
beq_is false true e = absurd (cc)

is_beq : (x y : Bool) → x ≡ y → beq x y ≡ true
is_beq true true e = refl
is_beq false false e = refl
is_beq true false e = absurd (cc)
is_beq false true e = absurd (cc)

going_is : (client b : ℕ) (way : Bool) (m : Message) → goes_between client b way m ≡ true → (m.client ≡ client) × (m.brick ≡ b) × (is_to_brick m.body ≡ way)
going_is client b way m e =
    let f : ((m.client == client) && (m.brick == b)) ≡ true = both_left ((m.client == client) && (m.brick == b)) (beq (is_to_brick m.body) way) e in
    let g : beq (is_to_brick m.body) way ≡ true = both_right ((m.client == client) && (m.brick == b)) (beq (is_to_brick m.body) way) e in
    (eqb-true m.client client (both_left (m.client == client) (m.brick == b) f), eqb-true m.brick b (both_right (m.client == client) (m.brick == b) f), beq_is (is_to_brick m.body) way g)

is_going_so : (client b : ℕ) (way : Bool) (m : Message) → m.client ≡ client → m.brick ≡ b → is_to_brick m.body ≡ way → goes_between client b way m ≡ true
is_going_so client b way m x y z = both ((m.client == client) && (m.brick == b)) (beq (is_to_brick m.body) way) (both (m.client == client) (m.brick == b) (eq-eqb m.client client x) (eq-eqb m.brick b y)) (is_beq (is_to_brick m.body) way z)

module _ {C : Type 0} (stands : Ctx → Given → C → List Own → Type 0) (by_table : Ctx → Given → List Own → Type 0) (s : Cluster) (c : Clients C) (before : List Records) (p : Come) (sound : IsSound s) (h : Sees stands by_table s c p) (m : Matches s before p.net) where
  pub said_now : (i : ℕ) (msg : Message) → flight s i ≡ Some msg → p.net.said i ≡ Some msg
  said_now i msg e = (λ k. h.seen.said k i) ∙ (sound.flies i msg e).sent

  pub flies_now : (i : ℕ) (msg : Message) → flight s i ≡ Some msg → p.net.flying i ≡ true
  flies_now i msg e = m.flies i ∙ ap is_some e

  -- what flies in the net is in flight
  pub in_flight_now : (i : ℕ) → p.net.flying i ≡ true → (msg : Message) × (flight s i ≡ Some msg)
  in_flight_now i e = by (flight s i) refl
    where
      by : (o : Option Message) → flight s i ≡ o → (msg : Message) × (flight s i ≡ Some msg)
      by None f = absurd (let bad : true ≡ false = sym e ∙ (m.flies i ∙ ap is_some f) in cc)
      by (Some msg) f = (msg, f)

  between_is : (client b : ℕ) (way : Bool) (n : ℕ) → IsLowest (λ i. is_going client b way (flight s i)) (Some n) → IsLeast (FliesBetween p.net client b way) n
  between_is client b way n e = record { itself = here (flight s n) refl e.0; least = λ j lt k. below j (e.1 j lt) k }
    where
      here : (o : Option Message) → flight s n ≡ o → is_going client b way o ≡ true → FliesBetween p.net client b way n
      here None f g = absurd (cc)
      here (Some msg) f g = let x = going_is client b way msg g in record { message = msg; said = said_now n msg f; flying = flies_now n msg f; of_client = x.0; of_brick = x.1; way = x.2 }

      below : (j : ℕ) → is_going client b way (flight s j) ≡ false → FliesBetween p.net client b way j → ⊥
      below j no_ k =
          let f = in_flight_now j k.flying in
          let same : k.message ≡ f.0 = some_is k.message f.0 (sym k.said ∙ said_now j f.0 f.1) in
          let go : goes_between client b way f.0 ≡ true = subst (λ (z : Message). goes_between client b way z ≡ true) same (is_going_so client b way k.message k.of_client k.of_brick k.way) in
          let bad : true ≡ false = sym go ∙ (ap (is_going client b way) (sym f.1) ∙ no_) in
          absurd (cc)

  pub named_is : (which : Which) (n : ℕ) → IsFound s which (Some n) → IsNamed p.net which n
  named_is (Number j) n e = by (is_some (flight s j)) e
    where
      by : (u : Bool) → Some n ≡ cond u (Some j) None → n ≡ j
      by true f = some_is n j f
      by false f = absurd (cc)
  named_is (OfRequests client b) n e = between_is client b true n e
  named_is (OfReplies client b) n e = between_is client b false n e

-- what these events name
pub names_delivery : (m : Net) (which : Which) (i : ℕ) (e : Entry) → IsNamed m which i → IsDelivery i m e → Names m (Deliver which) e
names_delivery m which i e named (inl x) = subst (λ (z : Entry). Names m (Deliver which) z) (sym x.2) named
names_delivery m which i e named (inr x) = subst (λ (z : Entry). Names m (Deliver which) z) (sym x) named

pub names_loss : (m : Net) (which : Which) (i : ℕ) (e : Entry) → IsNamed m which i → IsLoss i m e → Names m (Lose which) e
names_loss m which i e named x = subst (λ (z : Entry). Names m (Lose which) z) (sym x) named

pub names_tear : (m : Net) (which : Which) (i bytes : ℕ) (e : Entry) → IsNamed m which i → IsTear i bytes m e → Names m (Tear which bytes) e
names_tear m which i bytes e named x = subst (λ (z : Entry). Names m (Tear which bytes) z) (sym x.1) (named, refl)

pub names_giving_up : (m : Net) (j b i : ℕ) (e : Entry) → IsGivingUp j b i m e → Names m (GiveUp j b) e
names_giving_up m j b i e x = subst (λ (z : Entry). Names m (GiveUp j b) z) (sym x) (refl, refl)
