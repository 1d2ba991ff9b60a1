-- A property of turns that holds of each that has planned holds after an entry too, if it holds of the turn that plans by it.
use Rattle.std.proofs.Common.{◌≡◌, ℕ, Bool, true, false, not, cond, ◌==◌, ◌&&◌, ◌||◌, [], ◌∷◌, map, refl, sym, ◌∙◌, ap, subst}
use Rattle.ec_history.specs.Run.{Net}
use Rattle.ec_wire.specs.declared.entry.Entry.{Entry}
use Rattle.ec_wire.specs.declared.entry.Entry.TheVariants.{Sent, Executed, Torn}
use Rattle.ec_wire.specs.declared.message.Body.{Body}
use Rattle.ec_wire.specs.declared.message.Body.TheVariants.{ToBrick, ToClient}
use Rattle.ec_wire.specs.declared.message.Message.{Message}
use Rattle.ec_wire.specs.declared.request.Request.{Request}
use Rattle.ec_law_pieces.specs.Deed.{after as after_deeds}
use Rattle.ec_law_pieces.specs.Deed.Deed.{Intend}
use Rattle.ec_law_pieces.specs.File.{File}
use Rattle.ec_law_net.specs.Turns.{View, acts, turn_of}
use Rattle.ec_law_turns.proofs.Basics.{equal}
use Rattle.ec_law_data.specs.Deeds.{deeds_sent, dressed, file_after, is_post_on}
use Rattle.ec_law_data.specs.Reading.{Plans, Reading}
use Rattle.ec_law_data.proofs.Cores.{deeds_both}
use Rattle.ec_law_plans.proofs.Having.{SamePlans, none_acts, none_executed, none_torn, same_entry, same_plans}

module _ {P V C U S : Type 0} (R : Reading P V C U S) (plans : Plans P V U S) (n k g : ℕ) (Q : ℕ → Type 0) where
  abbrev Each : File P V C U S → Type 0
  Each f = (a : ℕ) → f.planned a ≡ true → Q a

  each_same : (f t : File P V C U S) → SamePlans f t → Each f → Each t
  each_same f t same h a planned = h a (sym (ap (λ (z : ℕ → Bool). z a) same.planned) ∙ planned)

  each_sent : (f : File P V C U S) (a : ℕ) (z : Body) → ((q : Request) → z ≡ ToBrick q → (R.is_write g q || is_post_on g q) ≡ true → f.planned a ≡ false → Q a) → Each f → Each (after_deeds R.form n k (deeds_sent R plans n k g f a z) f)
  each_sent f a (ToClient re reply) now h = h
  each_sent f a (ToBrick q) now h = by ((R.is_write g q || is_post_on g q) && not (f.planned a)) refl
    where
      first : (t u : Bool) → (t && u) ≡ true → t ≡ true
      first true u e = refl
      first false u e = absurd (cc)

      second : (t u : Bool) → (t && not u) ≡ true → u ≡ false
      second true true e = absurd (cc)
      second true false e = refl
      second false u e = absurd (cc)

      here : Q a → (x : ℕ) (t : Bool) → (x == a) ≡ t → cond t true (f.planned x) ≡ true → Q x
      here q x true e z = subst Q (sym (equal x a e)) q
      here q x false e z = h x z

      by : (t : Bool) → ((R.is_write g q || is_post_on g q) && not (f.planned a)) ≡ t → Each (after_deeds R.form n k (cond t (Intend a (plans.plan a) ∷ []) []) f)
      by true e = λ x z. here (now q refl (first (R.is_write g q || is_post_on g q) (not (f.planned a)) e) (second (R.is_write g q || is_post_on g q) (f.planned a) e)) x (x == a) refl z
      by false e = h

  pub each_entry : (m : Net) (v : View) (f : File P V C U S) (e : Entry) → ((msg : Message) (q : Request) → e ≡ Sent msg → msg.body ≡ ToBrick q → (R.is_write g q || is_post_on g q) ≡ true → f.planned (turn_of g v msg) ≡ false → Q (turn_of g v msg)) → Each f → Each (file_after R plans n k g m v f e)
  each_entry m v f (Sent msg) now h =
      let ds = deeds_sent R plans n k g f (turn_of g v msg) msg.body in
      let es = map (dressed R plans n k g) (acts g m v (Sent msg)) in
      subst Each (sym (deeds_both R.form n k ds es f)) (each_same (after_deeds R.form n k ds f) (after_deeds R.form n k es (after_deeds R.form n k ds f)) (same_plans R.form n k es (after_deeds R.form n k ds f) (none_acts R plans n k g (acts g m v (Sent msg)))) (each_sent f (turn_of g v msg) msg.body (λ q body on free. now msg q refl body on free) h))
  each_entry m v f (Executed i version failed) now h = each_same f (file_after R plans n k g m v f (Executed i version failed)) (same_entry R plans n k g m v f (Executed i version failed) (none_executed R plans n k g m v f (m.said i) version failed)) h
  each_entry m v f (Torn i count version) now h = each_same f (file_after R plans n k g m v f (Torn i count version)) (same_entry R plans n k g m v f (Torn i count version) (none_torn R plans n k g m v (m.said i) count version)) h
  each_entry m v f e now h = each_same f (file_after R plans n k g m v f e) (same_entry R plans n k g m v f e tt) h
