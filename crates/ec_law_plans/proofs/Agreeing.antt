-- Plans that agree with others on all that the machine has read of those make the same of a log.
use Rattle.std.proofs.Common.{◌≡◌, ℕ, ◌<◌, Bool, true, false, not, cond, ◌==◌, ◌&&◌, ◌||◌, Option, Some, None, List, [], ◌∷◌, ◌++◌, map, refl, sym, ◌∙◌, ap, subst}
use Rattle.ec_brick.specs.State.{State as Brick}
use Rattle.ec_history.specs.Run.{Net, after as net_after, out_of, torn_out}
use Rattle.ec_wire.specs.declared.entry.Entry.{Entry}
use Rattle.ec_wire.specs.declared.entry.Entry.TheVariants.{Sent, Executed, Torn}
use Rattle.ec_wire.specs.declared.message.Body.{Body}
use Rattle.ec_wire.specs.declared.message.Body.TheVariants.{ToBrick, ToClient}
use Rattle.ec_wire.specs.declared.message.Message.{Message}
use Rattle.ec_wire.specs.declared.request.Request.{Request}
use Rattle.ec_law_base.specs.State.{Ballot, State, put}
use Rattle.ec_law_ballots.specs.Act.{Act, after as after_acts, step as act_step}
use Rattle.ec_law_ballots.specs.Act.Act.{Choose}
use Rattle.ec_law_ballots.specs.Guard.{May, Runs}
use Rattle.ec_law_pieces.specs.Deed.{Deed, after as after_deeds}
use Rattle.ec_law_pieces.specs.Deed.Deed.{Intend, Take}
use Rattle.ec_law_pieces.specs.File.{File}
use Rattle.ec_law_net.specs.Turns.{View, acts, all_acts, seen_after, turn_of}
use Rattle.ec_law_turns.proofs.Basics.{itself}
use Rattle.ec_law_data.specs.Deeds.{all_deeds, data_deeds, deeds, deeds_executed, deeds_of_request, deeds_of_torn, deeds_sent, deeds_torn, deeds_failed, dressed, file, file_after, is_post_on}
use Rattle.ec_law_data.specs.Link.{AllCoded}
use Rattle.ec_law_data.specs.Reading.{Plans, Reading}
use Rattle.ec_law_data.proofs.Cores.{deeds_both, entry_heads, log_heads}
use Rattle.ec_law_plans.specs.Extend.{Agree}
use Rattle.ec_law_plans.proofs.Steady.{number_acts, number_log, planned_deeds, planned_log, runs_first}

pub put_itself : {X : Type 0} (f : ℕ → X) (a : ℕ) (x : X) → put f a x a ≡ x
put_itself f a x = at (a == a) (itself a)
  where
    at : (t : Bool) → t ≡ true → cond t x (f a) ≡ x
    at true e = refl
    at false e = absurd (cc)

module _ {P V C U S : Type 0} (R : Reading P V C U S) (old new : Plans P V U S) (n k g : ℕ) where
  -- ## Acts as deeds

  dressed_one : (e : Act) (s : State) → May n k s e → ((a : ℕ) → 0 < ((act_step s e).ballot a).number → new.took a ≡ old.took a) → dressed R new n k g e ≡ dressed R old n k g e
  dressed_one (Choose a p) s may same = ap (λ (shape : S). Take a p shape) (same a (subst (λ (q : Ballot). 0 < q.number) (sym (put_itself s.ballot a p)) may.1))
  dressed_one e s may same = refl

  dressed_all : (es : List Act) (s : State) → Runs n k es s → ((a : ℕ) → 0 < ((after_acts es s).ballot a).number → new.took a ≡ old.took a) → map (dressed R new n k g) es ≡ map (dressed R old n k g) es
  dressed_all [] s runs same = refl
  dressed_all (e ∷ es) s runs same =
      ap (λ (d : Deed P V C U S). d ∷ map (dressed R new n k g) es) (dressed_one e s runs.0 (λ a h. same a (number_acts n k es (act_step s e) a runs.1 h)))
      ∙ ap (λ (ds : List (Deed P V C U S)). dressed R old n k g e ∷ ds) (dressed_all es (act_step s e) runs.1 same)

  -- ## What is done to data

  sent_plan : (t : Bool) (f : File P V C U S) (a : ℕ) → ((x : ℕ) → (after_deeds R.form n k (cond t (Intend a (old.plan a) ∷ []) []) f).planned x ≡ true → new.plan x ≡ old.plan x) → cond {A = List (Deed P V C U S)} t (Intend a (new.plan a) ∷ []) [] ≡ cond t (Intend a (old.plan a) ∷ []) []
  sent_plan true f a same = ap (λ plan. Intend a plan ∷ []) (same a (put_itself f.planned a true))
  sent_plan false f a same = refl

  sent_same : (f : File P V C U S) (a : ℕ) (body : Body) → ((x : ℕ) → (after_deeds R.form n k (deeds_sent R old n k g f a body) f).planned x ≡ true → new.plan x ≡ old.plan x) → deeds_sent R new n k g f a body ≡ deeds_sent R old n k g f a body
  sent_same f a (ToBrick q) same = sent_plan ((R.is_write g q || is_post_on g q) && not (f.planned a)) f a same
  sent_same f a (ToClient re reply) same = refl

  failed_same : (a b : ℕ) (q : Request) (version : Option ℕ) (was now : Brick) → deeds_failed R new n k g a b q version was now ≡ deeds_failed R old n k g a b q version was now
  failed_same a b q None was now = refl
  failed_same a b q (Some version) was now = refl

  executed_same : (m : Net) (v : View) (f : File P V C U S) (o : Option Message) (version : Option ℕ) (failed : Bool) → deeds_executed R new n k g m v f o version failed ≡ deeds_executed R old n k g m v f o version failed
  executed_same m v f None version failed = refl
  executed_same m v f (Some msg) version failed = body msg.body failed
    where
      body : (z : Body) (failed : Bool) → deeds_of_request R new n k g m v f msg z version failed ≡ deeds_of_request R old n k g m v f msg z version failed
      body (ToBrick q) true = failed_same (v.of msg.no) msg.brick q version (m.brick msg.brick) (out_of m msg q version true).brick
      body (ToBrick q) false = refl
      body (ToClient re reply) failed = refl

  torn_same : (m : Net) (v : View) (o : Option Message) (count : ℕ) (version : Option ℕ) → deeds_torn R new n k g m v o count version ≡ deeds_torn R old n k g m v o count version
  torn_same m v None count version = refl
  torn_same m v (Some msg) count version = body msg.body
    where
      body : (z : Body) → deeds_of_torn R new n k g m v msg z count version ≡ deeds_of_torn R old n k g m v msg z count version
      body (ToBrick q) = failed_same (v.of msg.no) msg.brick q version (m.brick msg.brick) (torn_out m msg q count version).brick
      body (ToClient re reply) = refl

  data_same : (m : Net) (v : View) (f : File P V C U S) (e : Entry) → ((x : ℕ) → (after_deeds R.form n k (data_deeds R old n k g m v f e) f).planned x ≡ true → new.plan x ≡ old.plan x) → data_deeds R new n k g m v f e ≡ data_deeds R old n k g m v f e
  data_same m v f (Sent msg) same = sent_same f (turn_of g v msg) msg.body same
  data_same m v f (Executed i version failed) same = executed_same m v f (m.said i) version failed
  data_same m v f (Torn i count version) same = torn_same m v (m.said i) count version
  data_same m v f e same = refl

  -- ## Entries and logs

  entry_same : (m : Net) (v : View) (f : File P V C U S) (e : Entry) → f.heads ≡ v.core → Runs n k (acts g m v e) v.core → Agree (file_after R old n k g m v f e) old new → deeds R new n k g m v f e ≡ deeds R old n k g m v f e
  entry_same m v f e heads runs agree =
      ap (λ (ds : List (Deed P V C U S)). ds ++ map (dressed R new n k g) (acts g m v e)) (data_same m v f e (λ x h. agree.plan x (ap (λ (z : File P V C U S). z.planned x) (deeds_both R.form n k (data_deeds R old n k g m v f e) (map (dressed R old n k g) (acts g m v e)) f) ∙ planned_deeds R.form n k (map (dressed R old n k g) (acts g m v e)) (after_deeds R.form n k (data_deeds R old n k g m v f e) f) x h)))
      ∙ ap (λ (ds : List (Deed P V C U S)). data_deeds R old n k g m v f e ++ ds) (dressed_all (acts g m v e) v.core runs (λ a h. agree.took a (subst (λ (s : State). 0 < (s.ballot a).number) (sym (entry_heads R old n k g m v f e heads)) h)))

  -- plans that agree at the end of a log agree after its first entry
  pub agree_first : (e : Entry) (es : List Entry) (m : Net) (v : View) (f : File P V C U S) → f.heads ≡ v.core → Runs n k (all_acts g (e ∷ es) m v) v.core → Agree (file R old n k g (e ∷ es) m v f) old new → Agree (file_after R old n k g m v f e) old new
  agree_first e es m v f heads runs agree =
      let then = entry_heads R old n k g m v f e heads in
      let o = runs_first n k (acts g m v e) (all_acts g es (net_after m e) (seen_after g m v e)) v.core runs in
      record {
        took = λ a h. agree.took a (subst (λ (s : State). 0 < (s.ballot a).number) (sym (log_heads R old n k g (e ∷ es) m v f heads)) (number_log n k g es (net_after m e) (seen_after g m v e) a o.1 (subst (λ (s : State). 0 < (s.ballot a).number) then h)));
        plan = λ a h. agree.plan a (planned_log R old n k g es (net_after m e) (seen_after g m v e) (file_after R old n k g m v f e) a h);
      }

  module _ (e : Entry) (es : List Entry) (m : Net) (v : View) (f : File P V C U S) (heads : f.heads ≡ v.core) (runs : Runs n k (all_acts g (e ∷ es) m v) v.core) (agree : Agree (file R old n k g (e ∷ es) m v f) old new) where
    first_deeds : deeds R new n k g m v f e ≡ deeds R old n k g m v f e
    first_deeds = entry_same m v f e heads (runs_first n k (acts g m v e) (all_acts g es (net_after m e) (seen_after g m v e)) v.core runs).0 (agree_first e es m v f heads runs agree)

    pub first_file : file_after R new n k g m v f e ≡ file_after R old n k g m v f e
    first_file = ap (λ (ds : List (Deed P V C U S)). after_deeds R.form n k ds f) first_deeds

    pub later_heads : (file_after R old n k g m v f e).heads ≡ (seen_after g m v e).core
    later_heads = entry_heads R old n k g m v f e heads

    pub later_runs : Runs n k (all_acts g es (net_after m e) (seen_after g m v e)) (seen_after g m v e).core
    later_runs = (runs_first n k (acts g m v e) (all_acts g es (net_after m e) (seen_after g m v e)) v.core runs).1

  pub same_deeds : (es : List Entry) (m : Net) (v : View) (f : File P V C U S) → f.heads ≡ v.core → Runs n k (all_acts g es m v) v.core → Agree (file R old n k g es m v f) old new → all_deeds R new n k g es m v f ≡ all_deeds R old n k g es m v f
  same_deeds [] m v f heads runs agree = refl
  same_deeds (e ∷ es) m v f heads runs agree =
      ap (λ (z : File P V C U S). deeds R new n k g m v f e ++ all_deeds R new n k g es (net_after m e) (seen_after g m v e) z) (first_file e es m v f heads runs agree)
      ∙ (ap (λ (ds : List (Deed P V C U S)). ds ++ all_deeds R new n k g es (net_after m e) (seen_after g m v e) (file_after R old n k g m v f e)) (first_deeds e es m v f heads runs agree)
      ∙ ap (λ (ds : List (Deed P V C U S)). deeds R old n k g m v f e ++ ds) (same_deeds es (net_after m e) (seen_after g m v e) (file_after R old n k g m v f e) (later_heads e es m v f heads runs agree) (later_runs e es m v f heads runs agree) agree))

  pub same_file : (es : List Entry) (m : Net) (v : View) (f : File P V C U S) → f.heads ≡ v.core → Runs n k (all_acts g es m v) v.core → Agree (file R old n k g es m v f) old new → file R new n k g es m v f ≡ file R old n k g es m v f
  same_file [] m v f heads runs agree = refl
  same_file (e ∷ es) m v f heads runs agree =
      ap (λ (z : File P V C U S). file R new n k g es (net_after m e) (seen_after g m v e) z) (first_file e es m v f heads runs agree)
      ∙ same_file es (net_after m e) (seen_after g m v e) (file_after R old n k g m v f e) (later_heads e es m v f heads runs agree) (later_runs e es m v f heads runs agree) agree

  pub same_coded : (es : List Entry) (m : Net) (v : View) (f : File P V C U S) → f.heads ≡ v.core → Runs n k (all_acts g es m v) v.core → Agree (file R old n k g es m v f) old new → AllCoded R old n k g es m v f → AllCoded R new n k g es m v f
  same_coded [] m v f heads runs agree coded = tt
  same_coded (e ∷ es) m v f heads runs agree coded = (
    coded.0,
    subst (λ (z : File P V C U S). AllCoded R new n k g es (net_after m e) (seen_after g m v e) z) (sym (first_file e es m v f heads runs agree))
        (same_coded es (net_after m e) (seen_after g m v e) (file_after R old n k g m v f e) (later_heads e es m v f heads runs agree) (later_runs e es m v f heads runs agree) agree coded.1),
  )
