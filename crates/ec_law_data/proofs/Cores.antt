-- The deeds of a log, without what they do to pieces, are its acts.
use Rattle.std.proofs.Common.{◌≡◌, ℕ, Bool, true, false, not, cond, ◌&&◌, ◌||◌, Option, Some, None, List, [], ◌∷◌, ◌++◌, map, refl, sym, ◌∙◌, ap}
use Rattle.std.proofs.lemmas.List.{append_assoc}
use Rattle.ec_brick.specs.State.{State as Brick}
use Rattle.ec_brick.specs.Step.{Out}
use Rattle.ec_history.specs.Run.{Net, after as net_after, out_of, torn_out}
use Rattle.ec_history.specs.Story.{is_done}
use Rattle.ec_wire.specs.declared.entry.Entry.{Entry}
use Rattle.ec_wire.specs.declared.entry.Entry.TheVariants.{Called, Sent, Executed, Heard, Lost, GivenUp, Stopped, Returned, Cut, Died, Yielded, Torn, Answered, Replaced}
use Rattle.ec_wire.specs.declared.message.Body.{Body}
use Rattle.ec_wire.specs.declared.message.Body.TheVariants.{ToBrick, ToClient}
use Rattle.ec_wire.specs.declared.message.Message.{Message}
use Rattle.ec_wire.specs.declared.request.Request.{Request}
use Rattle.ec_law_base.specs.State.{State}
use Rattle.ec_law_ballots.specs.Act.{Act, after as after_acts}
use Rattle.ec_law_ballots.specs.Act.Act.{Grant, Free, Share, Unshare, Moment, See, Keep, Carry, Choose, Choose_kept, Pre, Sink_pre, Post, Sink_post, Clear, Heal_grant, Heal_free, Mark, Unmark, Maker_grant, Maker_free, Make, Made, Unmake, Stop, Replace}
use Rattle.ec_law_pieces.specs.Deed.{Deed, after as after_deeds, step}
use Rattle.ec_law_pieces.specs.Deed.Deed.{Do, Look, Take, Take_kept, Read, Intend, Write, Tear, Copy, Spoil, Commit, Follow, Begin, Finish, Create}
use Rattle.ec_law_pieces.specs.File.{File, Form}
use Rattle.ec_law_net.specs.Turns.{View, acts, all_acts, seen_after, turn_of, view}
use Rattle.ec_law_net.proofs.Changed.{after_both}
use Rattle.ec_law_data.specs.Deeds.{all_deeds, core_of, cores, data_deeds, deeds, deeds_answered, deeds_done, deeds_failed, deeds_partly, deeds_executed, deeds_of_request, deeds_of_torn, deeds_sent, deeds_torn, dressed, file, file_after, is_at_base, is_granted, is_partial, is_post_on, pieces_of, shows}
use Rattle.ec_law_data.specs.Laws.{CoreLaws}
use Rattle.ec_law_data.specs.Reading.{Plans, Reading}

module _ {P V C U S : Type 0} where
  pub cores_both : (xs ys : List (Deed P V C U S)) → cores (xs ++ ys) ≡ cores xs ++ cores ys
  cores_both [] ys = refl
  cores_both (x ∷ xs) ys = ap (λ (z : List Act). core_of x ++ z) (cores_both xs ys) ∙ sym (append_assoc (core_of x) (cores xs) (cores ys))

  none_if : (t : Bool) (xs ys : List (Deed P V C U S)) → cores xs ≡ [] → cores ys ≡ [] → cores (cond t xs ys) ≡ []
  none_if true xs ys h i = h
  none_if false xs ys h i = i

  none_either : (t : Bool) (x y : Deed P V C U S) → core_of x ≡ [] → core_of y ≡ [] → cores (cond t x y ∷ []) ≡ []
  none_either true x y h i = ap (λ (z : List Act). z ++ []) h
  none_either false x y h i = ap (λ (z : List Act). z ++ []) i

  module _ (form : Form P V C U S) (n k : ℕ) where
    pub deeds_both : (xs ys : List (Deed P V C U S)) (f : File P V C U S) → after_deeds form n k (xs ++ ys) f ≡ after_deeds form n k ys (after_deeds form n k xs f)
    deeds_both [] ys f = refl
    deeds_both (x ∷ xs) ys f = deeds_both xs ys (step form n k f x)

    step_heads : (d : Deed P V C U S) (f : File P V C U S) → (step form n k f d).heads ≡ after_acts (core_of d) f.heads
    step_heads (Do e) f = refl
    step_heads (Look a b) f = refl
    step_heads (Take a p shape) f = refl
    step_heads (Take_kept x a p) f = refl
    step_heads (Read a b places) f = refl
    step_heads (Intend a plan) f = refl
    step_heads (Write a b places) f = refl
    step_heads (Tear a b places pieces) f = refl
    step_heads (Copy a b places pieces) f = refl
    step_heads (Spoil b places pieces) f = refl
    step_heads (Commit a b) f = refl
    step_heads (Follow a b) f = refl
    step_heads (Begin a b) f = refl
    step_heads (Finish a b) f = refl
    step_heads (Create b shape) f = refl

    pub deeds_heads : (ds : List (Deed P V C U S)) (f : File P V C U S) → (after_deeds form n k ds f).heads ≡ after_acts (cores ds) f.heads
    deeds_heads [] f = refl
    deeds_heads (d ∷ ds) f = deeds_heads ds (step form n k f d) ∙ (ap (λ (s : State). after_acts (cores ds) s) (step_heads d f) ∙ sym (after_both (core_of d) (cores ds) f.heads))

module _ {P V C U S : Type 0} (R : Reading P V C U S) (plans : Plans P V U S) (n k g : ℕ) where
  core_dressed : (e : Act) → core_of (dressed R plans n k g e) ≡ e ∷ []
  core_dressed (Grant a b) = refl
  core_dressed (Free b) = refl
  core_dressed (Share a b) = refl
  core_dressed (Unshare a b) = refl
  core_dressed (Moment a) = refl
  core_dressed (See a b) = refl
  core_dressed (Keep x a) = refl
  core_dressed (Carry a x b) = refl
  core_dressed (Choose a p) = refl
  core_dressed (Choose_kept x a p) = refl
  core_dressed (Pre a b) = refl
  core_dressed (Sink_pre a b) = refl
  core_dressed (Post a b) = refl
  core_dressed (Sink_post a b) = refl
  core_dressed (Clear a b) = refl
  core_dressed (Heal_grant h b) = refl
  core_dressed (Heal_free b) = refl
  core_dressed (Mark a b) = refl
  core_dressed (Unmark a b) = refl
  core_dressed (Maker_grant b) = refl
  core_dressed (Maker_free b) = refl
  core_dressed (Make b) = refl
  core_dressed (Made b) = refl
  core_dressed (Unmake b) = refl
  core_dressed (Stop b) = refl
  core_dressed (Replace b) = refl

  pub cores_dressed : (es : List Act) → cores (map (dressed R plans n k g) es) ≡ es
  cores_dressed [] = refl
  cores_dressed (e ∷ es) = ap (λ (z : List Act). z ++ cores (map (dressed R plans n k g) es)) (core_dressed e) ∙ ap (λ (z : List Act). e ∷ z) (cores_dressed es)

  none_partly : (a b : ℕ) (q : Request) (old now : Brick) → cores (deeds_partly R plans n k g a b q old now) ≡ []
  none_partly a b q old now = none_either (is_granted old q) (Tear a b (R.writes g q) (pieces_of R plans n k g (now.records g))) (Spoil b (R.writes g q) (pieces_of R plans n k g (now.records g))) refl refl

  none_done : (a b : ℕ) (q : Request) (old now : Brick) → cores (deeds_done R plans n k g a b q old now) ≡ []
  none_done a b q old now = none_either (is_granted old q) (Write a b (R.writes g q)) (Spoil b (R.writes g q) (pieces_of R plans n k g (now.records g))) refl refl

  none_failed : (a b : ℕ) (q : Request) (version : Option ℕ) (old now : Brick) → cores (deeds_failed R plans n k g a b q version old now) ≡ []
  none_failed a b q None old now = refl
  none_failed a b q (Some version) old now = none_if (R.is_write g q && is_partial q) _ [] (none_partly a b q old now) refl

  none_answered : (f : File P V C U S) (a b : ℕ) (q : Request) (old : Brick) (out : Out) → cores (deeds_answered R plans n k g f a b q old out) ≡ []
  none_answered f a b q old out = none_if (is_done out.says) _ _ (none_if (R.is_write g q) _ [] (none_done a b q old out.brick) refl) (none_if (shows out.says && R.is_read g q && is_at_base f.heads a b) (Read a b (R.reads g q) ∷ []) [] refl refl)

  none_sent : (f : File P V C U S) (a : ℕ) (body : Body) → cores (deeds_sent R plans n k g f a body) ≡ []
  none_sent f a (ToBrick q) = none_if ((R.is_write g q || is_post_on g q) && not (f.planned a)) (Intend a (plans.plan a) ∷ []) [] refl refl
  none_sent f a (ToClient re reply) = refl

  none_executed : (m : Net) (v : View) (f : File P V C U S) (o : Option Message) (version : Option ℕ) (failed : Bool) → cores (deeds_executed R plans n k g m v f o version failed) ≡ []
  none_executed m v f None version failed = refl
  none_executed m v f (Some msg) version failed = body msg.body failed
    where
      body : (z : Body) (failed : Bool) → cores (deeds_of_request R plans n k g m v f msg z version failed) ≡ []
      body (ToBrick q) true = none_failed (v.of msg.no) msg.brick q version (m.brick msg.brick) (out_of m msg q version true).brick
      body (ToBrick q) false = none_answered f (v.of msg.no) msg.brick q (m.brick msg.brick) (out_of m msg q version false)
      body (ToClient re reply) failed = refl

  none_torn : (m : Net) (v : View) (o : Option Message) (count : ℕ) (version : Option ℕ) → cores (deeds_torn R plans n k g m v o count version) ≡ []
  none_torn m v None count version = refl
  none_torn m v (Some msg) count version = body msg.body
    where
      body : (z : Body) → cores (deeds_of_torn R plans n k g m v msg z count version) ≡ []
      body (ToBrick q) = none_failed (v.of msg.no) msg.brick q version (m.brick msg.brick) (torn_out m msg q count version).brick
      body (ToClient re reply) = refl

  pub none_data : (m : Net) (v : View) (f : File P V C U S) (e : Entry) → cores (data_deeds R plans n k g m v f e) ≡ []
  none_data m v f (Called a client op) = refl
  none_data m v f (Sent msg) = none_sent f (turn_of g v msg) msg.body
  none_data m v f (Executed i version failed) = none_executed m v f (m.said i) version failed
  none_data m v f (Heard i) = refl
  none_data m v f (Lost i) = refl
  none_data m v f (GivenUp client brick i) = refl
  none_data m v f (Stopped b) = refl
  none_data m v f (Returned b) = refl
  none_data m v f (Cut client b) = refl
  none_data m v f (Died client) = refl
  none_data m v f (Yielded client) = refl
  none_data m v f (Torn i bytes version) = none_torn m v (m.said i) bytes version
  none_data m v f (Answered a answer) = refl
  none_data m v f (Replaced b removed all) = refl

  pub entry_cores : (m : Net) (v : View) (f : File P V C U S) (e : Entry) → cores (deeds R plans n k g m v f e) ≡ acts g m v e
  entry_cores m v f e = cores_both (data_deeds R plans n k g m v f e) (map (dressed R plans n k g) (acts g m v e)) ∙ (ap (λ (z : List Act). z ++ cores (map (dressed R plans n k g) (acts g m v e))) (none_data m v f e) ∙ cores_dressed (acts g m v e))

  pub entry_heads : (m : Net) (v : View) (f : File P V C U S) (e : Entry) → f.heads ≡ v.core → (file_after R plans n k g m v f e).heads ≡ (seen_after g m v e).core
  entry_heads m v f e h = deeds_heads R.form n k (deeds R plans n k g m v f e) f ∙ (ap (λ (z : List Act). after_acts z f.heads) (entry_cores m v f e) ∙ ap (λ (s : State). after_acts (acts g m v e) s) h)

  log_cores : (es : List Entry) (m : Net) (v : View) (f : File P V C U S) → cores (all_deeds R plans n k g es m v f) ≡ all_acts g es m v
  log_cores [] m v f = refl
  log_cores (e ∷ es) m v f =
      cores_both (deeds R plans n k g m v f e) (all_deeds R plans n k g es (net_after m e) (seen_after g m v e) (file_after R plans n k g m v f e))
      ∙ (ap (λ (z : List Act). z ++ cores (all_deeds R plans n k g es (net_after m e) (seen_after g m v e) (file_after R plans n k g m v f e))) (entry_cores m v f e)
      ∙ ap (λ (z : List Act). acts g m v e ++ z) (log_cores es (net_after m e) (seen_after g m v e) (file_after R plans n k g m v f e)))

  pub log_heads : (es : List Entry) (m : Net) (v : View) (f : File P V C U S) → f.heads ≡ v.core → (file R plans n k g es m v f).heads ≡ (view g es m v).core
  log_heads [] m v f h = h
  log_heads (e ∷ es) m v f h = log_heads es (net_after m e) (seen_after g m v e) (file_after R plans n k g m v f e) (entry_heads m v f e h)

  pub lead_on : (es : List Entry) (m : Net) (v : View) (f : File P V C U S) → file R plans n k g es m v f ≡ after_deeds R.form n k (all_deeds R plans n k g es m v f) f
  lead_on [] m v f = refl
  lead_on (e ∷ es) m v f =
      lead_on es (net_after m e) (seen_after g m v e) (file_after R plans n k g m v f e)
      ∙ sym (deeds_both R.form n k (deeds R plans n k g m v f e) (all_deeds R plans n k g es (net_after m e) (seen_after g m v e) (file_after R plans n k g m v f e)) f)

pub core_laws : {P V C U S : Type 0} (R : Reading P V C U S) (plans : Plans P V U S) → CoreLaws R plans
core_laws R plans = record { entry = entry_cores R plans; log = log_cores R plans; heads = log_heads R plans; lead_on = lead_on R plans }
