-- What is said of stores that tell, where those before tell alike.
use Rattle.std.proofs.Common.{◌≡◌, ℕ, Bool, true, List, Option, Result, subst}
use Rattle.ec_history.specs.Run.{Net}
use Rattle.ec_script.specs.declared.fault.LineFault.{LineFault}
use Rattle.ec_store.specs.Records.{Records}
use Rattle.ec_wire.specs.declared.event.Event.{Event}
use Rattle.ec_play.specs.declared.obeying.Stop.{Stop}
use Rattle.ec_play.specs.Going.{Goes, Obeys, Stopped}
use Rattle.ec_play.specs.Meaning.{Meaning}

pub told_obeys : {W : Type 0} (M : Meaning W) (a b : Bool) (logs : Bool) (said : Result (Option Event) LineFault) (s t : W) (before after : List Records) (was written : Option (List ℕ)) → a ≡ b
    → ((start : Net) (old : Option (List ℕ)) (events : List Event) → Goes M (a ≡ true) logs start old events s before was → Obeys M (a ≡ true) logs start old events said t after written)
    → (start : Net) (old : Option (List ℕ)) (events : List Event) → Goes M (b ≡ true) logs start old events s before was → Obeys M (b ≡ true) logs start old events said t after written
told_obeys M a b logs said s t before after was written e h =
    subst (λ (x : Bool). (start : Net) (old : Option (List ℕ)) (events : List Event) → Goes M (x ≡ true) logs start old events s before was → Obeys M (x ≡ true) logs start old events said t after written) e h

pub told_stopped : {W : Type 0} (M : Meaning W) (a b : Bool) (logs : Bool) (said : Result (Option Event) LineFault) (s t : W) (before after : List Records) (was written : Option (List ℕ)) (stop : Stop) → a ≡ b
    → ((start : Net) (old : Option (List ℕ)) (events : List Event) → Goes M (a ≡ true) logs start old events s before was → Stopped M (a ≡ true) logs start old events said s t after written stop)
    → (start : Net) (old : Option (List ℕ)) (events : List Event) → Goes M (b ≡ true) logs start old events s before was → Stopped M (b ≡ true) logs start old events said s t after written stop
told_stopped M a b logs said s t before after was written stop e h =
    subst (λ (x : Bool). (start : Net) (old : Option (List ℕ)) (events : List Event) → Goes M (x ≡ true) logs start old events s before was → Stopped M (x ≡ true) logs start old events said s t after written stop) e h
