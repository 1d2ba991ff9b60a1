-- Whither a message goes, and what refuses its delivery.
use Rattle.std.proofs.Common.{◌≡◌, ℕ, Bool, true, false, cond, ◌&&◌, Option, Some, None, refl, sym, ◌∙◌, ap, subst}
use Rattle.ec_clients.specs.Hearing.{IsReplyAt, reply_message}
use Rattle.ec_clients.specs.Views.{is_dead_at}
use Rattle.ec_clients.specs.declared.clients.Clients.{Clients}
use Rattle.ec_cluster.specs.Sound.{IsSound}
use Rattle.ec_cluster.specs.Views.{can_execute, flight, goes_to_up, is_up_at}
use Rattle.ec_cluster.specs.declared.cluster.Cluster.{Cluster}
use Rattle.ec_wire.specs.declared.message.Body.{Body}
use Rattle.ec_wire.specs.declared.message.Body.TheVariants.{ToBrick, ToClient}
use Rattle.ec_wire.specs.declared.message.Message.{Message}
use Rattle.ec_world.specs.Address.{address_of, body_address}
use Rattle.ec_wire.specs.Lanes.{is_to_brick}
use Rattle.ec_world.specs.Refusals.{body_refusal, message_refusal}
use Rattle.ec_world.specs.declared.address.Address.TheVariants.{Brick, Client}
use Rattle.ec_world.specs.declared.refused.Refused.TheVariants.{Dead, Down}
use Rattle.ec_world.specs.Settling.{GoesNowhere, goes_nowhere}

-- a request goes to this brick
pub record GoesTo {C : Type 0} (s : Cluster) (c : Clients C) (i b : ℕ) : Type 0 where
  pub refusal : message_refusal s c (flight s i) ≡ cond (is_up_at s b) None (Some (Down b))
  pub can : is_up_at s b ≡ true → can_execute s i ≡ true

pub to_brick : {C : Type 0} (s : Cluster) (c : Clients C) (i b : ℕ) → address_of (flight s i) ≡ Some (Brick b) → GoesTo s c i b
to_brick s c i b e = record { refusal = refusal (flight s i) e; can = can (flight s i) e }
  where
    refusal_by : (m : Message) (y : Body) → body_address m y ≡ Brick b → body_refusal s c m y ≡ cond (is_up_at s b) None (Some (Down b))
    refusal_by m (ToBrick q) h = let x : m.brick ≡ b = cc in (λ k. cond (is_up_at s (x k)) None (Some (Down (x k))))
    refusal_by m (ToClient re reply) h = absurd (cc)

    refusal : (o : Option Message) → address_of o ≡ Some (Brick b) → message_refusal s c o ≡ cond (is_up_at s b) None (Some (Down b))
    refusal None h = absurd (cc)
    refusal (Some m) h = refusal_by m m.body (cc)

    can_by : (m : Message) (y : Body) → body_address m y ≡ Brick b → is_up_at s b ≡ true → (is_to_brick y && is_up_at s m.brick) ≡ true
    can_by m (ToBrick q) h up = let x : m.brick ≡ b = cc in (λ k. is_up_at s (x k)) ∙ up
    can_by m (ToClient re reply) h up = absurd (cc)

    can : (o : Option Message) → address_of o ≡ Some (Brick b) → is_up_at s b ≡ true → goes_to_up s o ≡ true
    can None h up = absurd (cc)
    can (Some m) h up = can_by m m.body (cc) up

-- a reply goes to this client
pub record ComesTo {C : Type 0} (s : Cluster) (c : Clients C) (i j a b re : ℕ) : Type 0 where
  pub refusal : message_refusal s c (flight s i) ≡ cond (is_dead_at c j) (Some (Dead j)) None
  pub there : IsReplyAt s i a j b re

pub to_client : {C : Type 0} (s : Cluster) (c : Clients C) (i j a b re : ℕ) → IsSound s → address_of (flight s i) ≡ Some (Client j a b re) → ComesTo s c i j a b re
to_client s c i j a b re sound e = by (flight s i) refl e
  where
    by_body : (m : Message) (y : Body) → flight s i ≡ Some (record { no = i; call = m.call; client = m.client; brick = m.brick; body = y }) → body_address m y ≡ Client j a b re → ComesTo s c i j a b re
    by_body m (ToBrick q) f h = absurd (cc)
    by_body m (ToClient x reply) f h =
        let ej : m.client ≡ j = cc in
        let ea : m.call ≡ a = cc in
        let eb : m.brick ≡ b = cc in
        let er : x ≡ re = cc in
        record {
          refusal = (λ k. message_refusal s c (f k)) ∙ (λ k. cond (is_dead_at c (ej k)) (Some (Dead (ej k))) None);
          there = record { reply = reply; flies = f ∙ (λ k. Some (reply_message i (ea k) (ej k) (eb k) (er k) reply)) };
        }

    by : (o : Option Message) → flight s i ≡ o → address_of o ≡ Some (Client j a b re) → ComesTo s c i j a b re
    by None f h = absurd (cc)
    by (Some m) f h = by_body m m.body (f ∙ (λ k. Some (record m { no = (sound.flies i m f).own k }))) (cc)

-- a message that isn't delivered goes nowhere
pub nowhere_brick : {C : Type 0} (s : Cluster) (c : Clients C) (i b : ℕ) → address_of (flight s i) ≡ Some (Brick b) → is_up_at s b ≡ false → GoesNowhere s c (flight s i)
nowhere_brick {C} s c i b e down = by (flight s i) e
  where
    by_body : (m : Message) (y : Body) → body_address m y ≡ Brick b → goes_nowhere s c m y
    by_body m (ToBrick q) h = let x : m.brick ≡ b = cc in (λ k. is_up_at s (x k)) ∙ down
    by_body m (ToClient re reply) h = absurd (cc)

    by : (o : Option Message) → address_of o ≡ Some (Brick b) → GoesNowhere s c o
    by None h = absurd (cc)
    by (Some m) h = by_body m m.body (cc)

pub nowhere_client : {C : Type 0} (s : Cluster) (c : Clients C) (i j a b re : ℕ) → address_of (flight s i) ≡ Some (Client j a b re) → is_dead_at c j ≡ true → GoesNowhere s c (flight s i)
nowhere_client {C} s c i j a b re e dead = by (flight s i) e
  where
    by_body : (m : Message) (y : Body) → body_address m y ≡ Client j a b re → goes_nowhere s c m y
    by_body m (ToBrick q) h = absurd (cc)
    by_body m (ToClient x reply) h = let y : m.client ≡ j = cc in (λ k. is_dead_at c (y k)) ∙ dead

    by : (o : Option Message) → address_of o ≡ Some (Client j a b re) → GoesNowhere s c o
    by None h = absurd (cc)
    by (Some m) h = by_body m m.body (cc)
