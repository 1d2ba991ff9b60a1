-- What a message that is sent makes of turns and moments.
use Rattle.std.proofs.Common.{◌≡◌, ◌≢◌, ℕ, ◌+◌, Bool, true, false, cond, ◌==◌, ◌&&◌, Option, Some, [], ◌∷◌, refl, arith}
use Rattle.std.proofs.lemmas.Bool.Decides.{nat_tests}
use Rattle.ec_attr.specs.declared.gfid.Gfid.{Gfid}
use Rattle.ec_attr.specs.Marks.{stripped}
use Rattle.ec_store.specs.Put.{put}
use Rattle.ec_wire.specs.declared.message.Body.{Body}
use Rattle.ec_wire.specs.declared.message.Body.TheVariants.{ToBrick, ToClient}
use Rattle.ec_wire.specs.declared.message.Message.{Message}
use Rattle.ec_wire.specs.declared.request.Request.{Request}
use Rattle.ec_wire.specs.declared.request.Request.TheVariants.{Query, PreOp, Mark, Unmark}
use Rattle.ec_conduct.specs.Done.{is_query}
use Rattle.ec_law_base.specs.State.{State}
use Rattle.ec_law_ballots.specs.Act.{after}
use Rattle.ec_law_ballots.specs.Act.Act.{Choose, Moment}
use Rattle.ec_law_net.specs.Turns.{View, acts_sent, is_lock_on, is_over, turn_after, turn_from}
use Rattle.ec_law_turns.proofs.Basics.{put_here, put_there}

-- ## Turns

module _ (g : ℕ) (v : View) (msg : Message) where
  pub turn_other : (a : ℕ) → a ≢ msg.call → turn_after g v msg a ≡ v.turn a
  turn_other a ne = at (is_lock_on g msg.body && is_over v.core (v.turn msg.call))
    where
      at : (t : Bool) → cond {A = ℕ → Option ℕ} t (put v.turn msg.call (Some (turn_from msg.no))) v.turn a ≡ v.turn a
      at true = put_there v.turn msg.call (Some (turn_from msg.no)) a ne
      at false = refl

  pub turn_kept : (a : ℕ) → (is_lock_on g msg.body && is_over v.core (v.turn msg.call)) ≡ false → turn_after g v msg a ≡ v.turn a
  turn_kept a e = at (is_lock_on g msg.body && is_over v.core (v.turn msg.call)) e
    where
      at : (t : Bool) → t ≡ false → cond {A = ℕ → Option ℕ} t (put v.turn msg.call (Some (turn_from msg.no))) v.turn a ≡ v.turn a
      at true h = absurd (cc)
      at false h = refl

  pub turn_new : (is_lock_on g msg.body && is_over v.core (v.turn msg.call)) ≡ true → turn_after g v msg msg.call ≡ Some (turn_from msg.no)
  turn_new e = at (is_lock_on g msg.body && is_over v.core (v.turn msg.call)) e
    where
      at : (t : Bool) → t ≡ true → cond {A = ℕ → Option ℕ} t (put v.turn msg.call (Some (turn_from msg.no))) v.turn msg.call ≡ Some (turn_from msg.no)
      at true h = put_here v.turn msg.call (Some (turn_from msg.no)) msg.call refl
      at false h = absurd (cc)

-- ## Moments

choices : (s : State) (a base number t : ℕ) (hit u : Bool) → (after (cond hit (cond u (Choose a (record { base = base; number = number }) ∷ []) []) []) s).moment t ≡ s.moment t
choices s a base number t true true = refl
choices s a base number t true false = refl
choices s a base number t false u = refl

-- only a Query is a moment, and of its own turn
pub moment_other : (g : ℕ) (s : State) (a : ℕ) (body : Body) (t : ℕ) → t ≢ a → (after (acts_sent g s a body) s).moment t ≡ s.moment t
moment_other g s a (ToClient re reply) t ne = refl
moment_other g s a (ToBrick (Query x n)) t ne = at (x.0 == g) (s.moment a)
  where
    at : (hit u : Bool) → (after (cond hit (cond u [] (Moment a ∷ [])) []) s).moment t ≡ s.moment t
    at true true = refl
    at true false = put_there s.moment a true t ne
    at false u = refl
moment_other g s a (ToBrick (PreOp x n v number)) t ne = choices s a (stripped v) number t (x.0 == g) ((s.ballot a).number == 0)
moment_other g s a (ToBrick (Mark x n heal head)) t ne = choices s a (stripped head.version.content) (head.dirty.content + 1) t (x.0 == g) ((s.ballot a).number == 0)
moment_other g s a (ToBrick (Unmark x n v dirty)) t ne = choices s a (stripped v) (dirty + 1) t (x.0 == g) ((s.ballot a).number == 0)
moment_other g s a (ToBrick q) t ne = refl

pub moment_same : (g : ℕ) (s : State) (a : ℕ) (q : Request) (t : ℕ) → is_query q ≡ false → (after (acts_sent g s a (ToBrick q)) s).moment t ≡ s.moment t
moment_same g s a (Query x n) t isnt = absurd (cc)
moment_same g s a (PreOp x n v number) t isnt = choices s a (stripped v) number t (x.0 == g) ((s.ballot a).number == 0)
moment_same g s a (Mark x n heal head) t isnt = choices s a (stripped head.version.content) (head.dirty.content + 1) t (x.0 == g) ((s.ballot a).number == 0)
moment_same g s a (Unmark x n v dirty) t isnt = choices s a (stripped v) (dirty + 1) t (x.0 == g) ((s.ballot a).number == 0)
moment_same g s a q t isnt = refl

pub moment_apart : (g : ℕ) (s : State) (a : ℕ) (x : Gfid) (n t : ℕ) → (x.0 == g) ≡ false → (after (acts_sent g s a (ToBrick (Query x n))) s).moment t ≡ s.moment t
moment_apart g s a x n t isnt = at (x.0 == g) isnt
  where
    at : (hit : Bool) → hit ≡ false → (after (cond hit (cond (s.moment a) [] (Moment a ∷ [])) []) s).moment t ≡ s.moment t
    at true e = absurd (cc)
    at false e = refl

pub moment_come : (g : ℕ) (s : State) (a : ℕ) (x : Gfid) (n : ℕ) → x.0 ≡ g → (after (acts_sent g s a (ToBrick (Query x n))) s).moment a ≡ true
moment_come g s a x n e = at (x.0 == g) (s.moment a) (grind (arith, nat_tests)) refl
  where
    at : (hit u : Bool) → hit ≡ true → s.moment a ≡ u → (after (cond hit (cond u [] (Moment a ∷ [])) []) s).moment a ≡ true
    at true true h k = k
    at true false h k = put_here s.moment a true a refl
    at false u h k = absurd (cc)
