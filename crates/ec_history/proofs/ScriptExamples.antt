-- What settling names, by example.
use Rattle.std.proofs.Common.{◌≡◌, List, [], ◌∷◌, ◌++◌, None, ℕ, zero, suc, ◌<◌, true, false, refl, sym, subst, lit≤, arith, Some}
use Rattle.std.specs.List.{flat_map}
use Rattle.ec_wire.specs.declared.entry.Entry.{Entry}
use Rattle.ec_wire.specs.declared.entry.Entry.TheVariants.{Called, Stopped}
use Rattle.ec_wire.specs.declared.event.Event.TheVariants.{Call}
use Rattle.ec_wire.specs.declared.message.Message.{Message}
use Rattle.ec_wire.specs.declared.op.Op.TheVariants.{Stat}
use Rattle.ec_history.specs.Run.{Asker, after, fresh, run}
use Rattle.ec_history.specs.RunExample.{idle}
use Rattle.ec_history.specs.Script.{IsOfScript, IsOneStep, IsStuckSomewhere, GoesNowhere, Names, Step, entries_of}
use Rattle.ec_history.specs.ScriptExamples.{CutShortCall, SettlingOfTwo, asking, both_lost}
use Rattle.ec_history.specs.Short.{two}

differ : false ≡ true → ⊥
differ e = absurd (cc)

none_lower : (j : ℕ) → j < 1 → asking.flying j ≡ true → ⊥
none_lower zero l e = differ e
none_lower (suc j) l e = absurd (omega (arith, l))

who : Asker
who = record { client = 1; op = Stat two }

first_stuck : IsStuckSomewhere both_lost 1
unfolding who
first_stuck = (0, record { call = 1; number = 1; calling = record { asker = who; made = refl; of_client = refl; unanswered = refl; lives = refl }; waits = refl; out_of_queue = refl })

same_message : (a b : Message) → Some a ≡ Some b → a ≡ b
same_message a b e = cc

down : (msg : Message) → asking.said 1 ≡ Some msg → GoesNowhere (after asking (Stopped 0)) msg msg.body
down msg said = subst (λ g. GoesNowhere (after asking (Stopped 0)) g g.body) (same_message _ msg said) refl

pub settling_of_two : SettlingOfTwo
settling_of_two = record {
  lowest = record { itself = refl; least = none_lower };
  higher = λ s. s.least 1 (lit≤ tt) refl;
  lost = (record { itself = refl; least = none_lower }, down);
  lost_in_vain = λ s. differ (sym (s.1 _ refl));
  early = λ s. differ (sym (s.0 1));
  other_client = λ s. s.1.least 1 (lit≤ tt) first_stuck;
  not_settled = λ s. s.none_stuck 1 first_stuck;
}

no_asker : (x : Asker) → None ≡ Some x → ⊥
no_asker x e = absurd (cc)

first_entry : (a b : Entry) (es fs : List Entry) → a ∷ es ≡ b ∷ fs → a ≡ b
first_entry a b es fs e = cc

other_named : (e : Entry) → Called 1 2 (Stat two) ≡ e → Names (fresh idle) (Call 1 (Stat two)) e → ⊥
other_named e same named = let n : Names (fresh idle) (Call 1 (Stat two)) (Called 1 2 (Stat two)) = subst (λ x. Names (fresh idle) (Call 1 (Stat two)) x) (sym same) named in let who : 2 ≡ 1 = n.0 in absurd (omega (arith, who))

other_steps : (steps : List Step) (rest : List Entry) → IsOneStep (fresh idle) (Call 1 (Stat two)) steps → Called 1 2 (Stat two) ∷ rest ≡ entries_of steps → ⊥
other_steps [] rest o e = o
other_steps (s ∷ []) rest o e = other_named s.named (first_entry _ _ _ _ e) o.0
other_steps (s ∷ t ∷ steps) rest o e = o

no_events : (steps : List (List Step)) → IsOfScript 3 (fresh idle) [] steps → flat_map entries_of steps ≡ []
no_events [] o = refl
no_events (s ∷ steps) o = absurd o

pub cut_short_call : CutShortCall
cut_short_call = record {
  cut_log = record {
    steps = [];
    of_script = tt;
    more = record { named = Called 1 1 (Stat two); follow = [] } ∷ [];
    of_last = ((refl, refl, λ a c. no_asker c.asker c.made), refl);
    rest = [];
    entries = refl;
  };
  other_call = λ c.
      let none = no_events c.steps c.of_script in
      other_steps c.more c.rest (subst (λ es. IsOneStep (run es (fresh idle)) (Call 1 (Stat two)) c.more) none c.of_last)
      (subst (λ es. Called 1 2 (Stat two) ∷ c.rest ≡ es ++ entries_of c.more) none c.entries);
}
