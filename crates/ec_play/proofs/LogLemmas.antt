-- The log of one event more.
use Rattle.std.proofs.Common.{ℕ, List, [], ◌∷◌, ◌++◌, sym, ap, subst, ◌∙◌, append-nil}
use Rattle.std.specs.List.{flat_map}
use Rattle.std.proofs.lemmas.Grind.{flat_map-append}
use Rattle.ec_history.specs.Run.{Net, run}
use Rattle.ec_history.specs.Script.{IsLogOf, IsOfEvent, IsOfScript, Step, entries_of}
use Rattle.ec_history.proofs.Runs.{joins}
use Rattle.ec_wire.specs.declared.entry.Entry.{Entry}
use Rattle.ec_wire.specs.declared.event.Event.{Event}
use Rattle.ec_play.specs.Meaning.{IsDone}

of_script_more : (n : ℕ) (m : Net) (events : List Event) (steps : List (List Step)) (event : Event) (more : List Step)
    → IsOfScript n m events steps → IsOfEvent n (run (flat_map entries_of steps) m) event more → IsOfScript n m (events ++ event ∷ []) (steps ++ more ∷ [])
of_script_more n m [] [] event more all one = (one, tt)
of_script_more n m [] (s ∷ steps) event more all one = absurd all
of_script_more n m (e ∷ events) [] event more all one = absurd all
of_script_more n m (e ∷ events) (s ∷ steps) event more all one = (
  all.0,
  of_script_more n (run (entries_of s) m) events steps event more all.1
      (subst (λ (x : Net). IsOfEvent n x event more) (joins (entries_of s) (flat_map entries_of steps) m) one),
)

-- an event that is done
pub log_more : (n : ℕ) (m : Net) (events : List Event) (event : Event) (log entries : List Entry) → IsLogOf n m events log → IsDone n (run log m) event entries
    → IsLogOf n m (events ++ event ∷ []) (log ++ entries)
log_more n m events event log entries is done = record {
  steps = is.steps ++ done.steps ∷ [];
  entries =
      ap (λ (l : List Entry). l ++ entries) is.entries
      ∙ ap (λ (l : List Entry). flat_map entries_of is.steps ++ l) (done.of_steps ∙ sym (append-nil (entries_of done.steps)))
      ∙ sym (flat_map-append entries_of is.steps (done.steps ∷ []));
  of_script =
      of_script_more n m events is.steps event done.steps is.of_script
      (subst (λ (l : List Entry). IsOfEvent n (run l m) event done.steps) is.entries done.of_event);
}
