-- The machine has of each turn that has planned the shape that the plans have for it.
use Rattle.std.proofs.Common.{◌≡◌, ℕ, Bool, true, false, not, cond, ◌==◌, ◌&&◌, ◌||◌, List, [], ◌∷◌, ◌++◌, map, refl, sym, ◌∙◌, ap, subst}
use Rattle.ec_history.specs.Run.{Net, after as net_after}
use Rattle.ec_wire.specs.declared.entry.Entry.{Entry}
use Rattle.ec_wire.specs.declared.entry.Entry.TheVariants.{Sent, Executed, Torn}
use Rattle.ec_wire.specs.declared.message.Body.{Body}
use Rattle.ec_wire.specs.declared.message.Body.TheVariants.{ToBrick, ToClient}
use Rattle.ec_law_pieces.specs.Deed.{Deed, after as after_deeds, step}
use Rattle.ec_law_pieces.specs.Deed.Deed.{Intend}
use Rattle.ec_law_pieces.specs.File.{File, Form}
use Rattle.ec_law_net.specs.Turns.{View, acts, seen_after, turn_of}
use Rattle.ec_law_turns.proofs.Basics.{equal}
use Rattle.ec_law_data.specs.Deeds.{deeds_executed, deeds_sent, deeds_torn, dressed, file, file_after, is_post_on}
use Rattle.ec_law_data.specs.Reading.{Plans, Reading}
use Rattle.ec_law_data.proofs.Cores.{deeds_both}
use Rattle.ec_law_plans.proofs.Having.{PlanNone, none_acts, none_executed, none_torn, plans_none}

module _ {P V C U S : Type 0} where
  record Kept (f t : File P V C U S) : Type 0 where
    planned : t.planned ≡ f.planned
    becomes : t.becomes ≡ f.becomes

  kept_step : (form : Form P V C U S) (n k : ℕ) (d : Deed P V C U S) (f : File P V C U S) → plans_none d ≡ true → Kept f (step form n k f d)
  kept_step form n k (Intend a plan) f e = absurd (cc)
  kept_step form n k d f e = record { planned = refl; becomes = refl }

  kept_then : (f t u : File P V C U S) → Kept f t → Kept t u → Kept f u
  kept_then f t u h i = record { planned = i.planned ∙ h.planned; becomes = i.becomes ∙ h.becomes }

  kept_deeds : (form : Form P V C U S) (n k : ℕ) (ds : List (Deed P V C U S)) (f : File P V C U S) → PlanNone ds → Kept f (after_deeds form n k ds f)
  kept_deeds form n k [] f h = record { planned = refl; becomes = refl }
  kept_deeds form n k (d ∷ ds) f h = kept_then f (step form n k f d) (after_deeds form n k ds (step form n k f d)) (kept_step form n k d f h.0) (kept_deeds form n k ds (step form n k f d) h.1)

module _ {P V C U S : Type 0} (R : Reading P V C U S) (plans : Plans P V U S) (n k g : ℕ) where
  abbrev pub AsBecomes : File P V C U S → Type 0
  AsBecomes f = (a : ℕ) → f.planned a ≡ true → f.becomes a ≡ (plans.plan a).becomes

  as_kept : (f t : File P V C U S) → Kept f t → AsBecomes f → AsBecomes t
  as_kept f t same h a planned = ap (λ (z : ℕ → S). z a) same.becomes ∙ h a (sym (ap (λ (z : ℕ → Bool). z a) same.planned) ∙ planned)

  as_intended : (f : File P V C U S) (a : ℕ) → AsBecomes f → AsBecomes (step R.form n k f (Intend a (plans.plan a)))
  as_intended f a h x planned = by (x == a) refl planned
    where
      by : (t : Bool) → (x == a) ≡ t → cond t true (f.planned x) ≡ true → cond (x == a) (plans.plan a).becomes (f.becomes x) ≡ (plans.plan x).becomes
      by true e z = ap (λ (t : Bool). cond t (plans.plan a).becomes (f.becomes x)) e ∙ ap (λ (y : ℕ). (plans.plan y).becomes) (sym (equal x a e))
      by false e z = ap (λ (t : Bool). cond t (plans.plan a).becomes (f.becomes x)) e ∙ h x z

  as_sent : (f : File P V C U S) (a : ℕ) (z : Body) → AsBecomes f → AsBecomes (after_deeds R.form n k (deeds_sent R plans n k g f a z) f)
  as_sent f a (ToClient re reply) h = h
  as_sent f a (ToBrick q) h = by ((R.is_write g q || is_post_on g q) && not (f.planned a))
    where
      by : (t : Bool) → AsBecomes (after_deeds R.form n k (cond t (Intend a (plans.plan a) ∷ []) []) f)
      by true = as_intended f a h
      by false = h

  as_acts : (m : Net) (v : View) (f : File P V C U S) (e : Entry) (ds : List (Deed P V C U S)) → AsBecomes (after_deeds R.form n k ds f) → AsBecomes (after_deeds R.form n k (ds ++ map (dressed R plans n k g) (acts g m v e)) f)
  as_acts m v f e ds h =
      let es = map (dressed R plans n k g) (acts g m v e) in
      subst AsBecomes (sym (deeds_both R.form n k ds es f)) (as_kept (after_deeds R.form n k ds f) (after_deeds R.form n k es (after_deeds R.form n k ds f)) (kept_deeds R.form n k es (after_deeds R.form n k ds f) (none_acts R plans n k g (acts g m v e))) h)

  pub as_entry : (m : Net) (v : View) (f : File P V C U S) (e : Entry) → AsBecomes f → AsBecomes (file_after R plans n k g m v f e)
  as_entry m v f (Sent msg) h = as_acts m v f (Sent msg) (deeds_sent R plans n k g f (turn_of g v msg) msg.body) (as_sent f (turn_of g v msg) msg.body h)
  as_entry m v f (Executed i version failed) h = let ds = deeds_executed R plans n k g m v f (m.said i) version failed in as_acts m v f (Executed i version failed) ds (as_kept f (after_deeds R.form n k ds f) (kept_deeds R.form n k ds f (none_executed R plans n k g m v f (m.said i) version failed)) h)
  as_entry m v f (Torn i count version) h = let ds = deeds_torn R plans n k g m v (m.said i) count version in as_acts m v f (Torn i count version) ds (as_kept f (after_deeds R.form n k ds f) (kept_deeds R.form n k ds f (none_torn R plans n k g m v (m.said i) count version)) h)
  as_entry m v f e h = as_acts m v f e [] h

  pub as_becomes : (es : List Entry) (m : Net) (v : View) (f : File P V C U S) → AsBecomes f → AsBecomes (file R plans n k g es m v f)
  as_becomes [] m v f h = h
  as_becomes (e ∷ es) m v f h = as_becomes es (net_after m e) (seen_after g m v e) (file_after R plans n k g m v f e) (as_entry m v f e h)
