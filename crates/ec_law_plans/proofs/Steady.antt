-- What a machine has read of its plans it goes on having read: a turn that has planned has, and a ballot keeps a number above 0.
use Rattle.std.proofs.Common.{◌≡◌, ℕ, ◌<◌, Bool, true, false, cond, ◌==◌, List, [], ◌∷◌, ◌++◌, refl}
use Rattle.ec_history.specs.Run.{Net, after as net_after}
use Rattle.ec_wire.specs.declared.entry.Entry.{Entry}
use Rattle.ec_law_base.specs.State.{Ballot, State}
use Rattle.ec_law_ballots.specs.Act.{Act, after as after_acts, step as act_step}
use Rattle.ec_law_ballots.specs.Act.Act.{Choose, Choose_kept}
use Rattle.ec_law_ballots.specs.Guard.{May, Runs}
use Rattle.ec_law_pieces.specs.Deed.{Deed, after as after_deeds, step}
use Rattle.ec_law_pieces.specs.Deed.Deed.{Intend}
use Rattle.ec_law_pieces.specs.File.{File, Form}
use Rattle.ec_law_net.specs.Turns.{View, acts, all_acts, seen_after, view}
use Rattle.ec_law_data.specs.Deeds.{deeds, file, file_after}
use Rattle.ec_law_data.specs.Reading.{Plans, Reading}

-- ## Ballots

pub runs_first : (n k : ℕ) (xs ys : List Act) (s : State) → Runs n k (xs ++ ys) s → Runs n k xs s × Runs n k ys (after_acts xs s)
runs_first n k [] ys s h = (refl, h)
runs_first n k (x ∷ xs) ys s h = let o = runs_first n k xs ys (act_step s x) h.1 in ((h.0, o.0), o.1)

chosen : (t : Bool) (p q : Ballot) → 0 < p.number → 0 < q.number → 0 < (cond t p q).number
chosen true p q h i = h
chosen false p q h i = i

number_step : (n k : ℕ) (s : State) (e : Act) (a : ℕ) → May n k s e → 0 < (s.ballot a).number → 0 < ((act_step s e).ballot a).number
number_step n k s (Choose x p) a may h = chosen (a == x) p (s.ballot a) may.1 h
number_step n k s (Choose_kept x y p) a may h = chosen (a == x) p (s.ballot a) may.1 h
number_step n k s e a may h = h

pub number_acts : (n k : ℕ) (es : List Act) (s : State) (a : ℕ) → Runs n k es s → 0 < (s.ballot a).number → 0 < ((after_acts es s).ballot a).number
number_acts n k [] s a runs h = h
number_acts n k (e ∷ es) s a runs h = number_acts n k es (act_step s e) a runs.1 (number_step n k s e a runs.0 h)

pub number_log : (n k g : ℕ) (es : List Entry) (m : Net) (v : View) (a : ℕ) → Runs n k (all_acts g es m v) v.core → 0 < (v.core.ballot a).number → 0 < ((view g es m v).core.ballot a).number
number_log n k g [] m v a runs h = h
number_log n k g (e ∷ es) m v a runs h =
    let o = runs_first n k (acts g m v e) (all_acts g es (net_after m e) (seen_after g m v e)) v.core runs in
    number_log n k g es (net_after m e) (seen_after g m v e) a o.1 (number_acts n k (acts g m v e) v.core a o.0 h)

-- ## Plans

stays_true : (t u : Bool) → u ≡ true → cond t true u ≡ true
stays_true true u h = refl
stays_true false u h = h

module _ {P V C U S : Type 0} where
  planned_step : (form : Form P V C U S) (n k : ℕ) (d : Deed P V C U S) (f : File P V C U S) (a : ℕ) → f.planned a ≡ true → (step form n k f d).planned a ≡ true
  planned_step form n k (Intend x plan) f a h = stays_true (a == x) (f.planned a) h
  planned_step form n k d f a h = h

  pub planned_deeds : (form : Form P V C U S) (n k : ℕ) (ds : List (Deed P V C U S)) (f : File P V C U S) (a : ℕ) → f.planned a ≡ true → (after_deeds form n k ds f).planned a ≡ true
  planned_deeds form n k [] f a h = h
  planned_deeds form n k (d ∷ ds) f a h = planned_deeds form n k ds (step form n k f d) a (planned_step form n k d f a h)

  pub planned_log : (R : Reading P V C U S) (plans : Plans P V U S) (n k g : ℕ) (es : List Entry) (m : Net) (v : View) (f : File P V C U S) (a : ℕ) → f.planned a ≡ true → (file R plans n k g es m v f).planned a ≡ true
  planned_log R plans n k g [] m v f a h = h
  planned_log R plans n k g (e ∷ es) m v f a h = planned_log R plans n k g es (net_after m e) (seen_after g m v e) (file_after R plans n k g m v f e) a (planned_deeds R.form n k (deeds R plans n k g m v f e) f a h)
