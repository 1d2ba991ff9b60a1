-- Turns have planned what their calls commit, entry by entry, in every log read in any way.
use Rattle.std.proofs.Common.{◌≡◌, ◌⊎◌, ℕ, ◌≤◌, Bool, true, false, not, cond, ◌&&◌, Option, Some, None, List, [], ◌∷◌, ◌++◌, map, refl, sym, ◌∙◌, ap, subst, inl, inr}
use Rattle.std.specs.Prelude.{is_some}
use Rattle.ec_attr.specs.Marks.{is_marked}
use Rattle.ec_attr.specs.declared.geometry.Geometry.{Geometry}
use Rattle.ec_brick.specs.Step.{cut_off}
use Rattle.ec_conduct.specs.Given.{quorum}
use Rattle.ec_history.specs.Accounts.{Books, Leaving}
use Rattle.ec_history.specs.Changes.{Found}
use Rattle.ec_history.specs.IsRun.{May as MayEnter, MayExecute, MayTear}
use Rattle.ec_history.specs.Run.{Net, after as net_after, wiped}
use Rattle.ec_history.specs.Story.{Story, op_of, told}
use Rattle.ec_wire.specs.declared.entry.Entry.{Entry}
use Rattle.ec_wire.specs.declared.entry.Entry.TheVariants.{Called, Sent, Executed, Heard, Lost, GivenUp, Stopped, Returned, Cut, Died, Yielded, Torn, Answered, Replaced}
use Rattle.ec_wire.specs.declared.message.Body.{Body}
use Rattle.ec_wire.specs.declared.message.Body.TheVariants.{ToBrick}
use Rattle.ec_wire.specs.declared.message.Message.{Message}
use Rattle.ec_wire.specs.declared.op.Op.{Op}
use Rattle.ec_wire.specs.declared.request.Request.{Request}
use Rattle.ec_law_ballots.specs.Act.{Act}
use Rattle.ec_law_ballots.specs.Act.Act.{Replace, Stop}
use Rattle.ec_law_pieces.specs.Deed.{after as after_deeds, commits}
use Rattle.ec_law_pieces.specs.File.{File}
use Rattle.ec_law_net.specs.Turns.{View, acts, acts_executed, acts_of_request, acts_torn, seen_after, turn_of}
use Rattle.ec_law_turns.proofs.Basics.{put_here}
use Rattle.ec_law_turns.proofs.Numbered.{IsPlainEntry}
use Rattle.ec_law_turns.proofs.Sends.{adds}
use Rattle.ec_law_turns.proofs.Steps.{EntryKept, executed_same, heard_same, made_same, torn_same as torn_said}
use Rattle.ec_law_turns.proofs.Tracks.{Adds}
use Rattle.ec_law_data.specs.Deeds.{deeds_executed, deeds_of_request, deeds_of_torn, deeds_torn, dressed, file_after, is_post_on}
use Rattle.ec_law_data.specs.Reading.{Plans, Reading}
use Rattle.ec_law_data.proofs.Guards.{Easy, easy_locks}
use Rattle.ec_law_data.proofs.Reaching.{Reaches, reached_then}
use Rattle.ec_law_flats.specs.Plans.{plans_on}
use Rattle.ec_law_flats.proofs.Calls.{AllBuilt, calls_stay}
use Rattle.ec_law_flats.proofs.MachineSteps.{PlansKept, committed_file, opens_easily, opens_torn, posted_file, same_acts, sunk_file}
use Rattle.ec_law_flats.proofs.Planning.{ArePlanned, Stable, planned_sent, planned_still}
use Rattle.ec_law_flats.proofs.PostKinds.{IsNoPost, IsPost, its_acts}
use Rattle.ec_law_flats.proofs.Posting.{known_kind, post_on}

easy_replaced : (c : Bool) (b : ℕ) → Easy (cond c (Replace b ∷ []) [])
easy_replaced true b = (refl, tt)
easy_replaced false b = tt

module _ {P V C U S : Type 0} (R : Reading P V C U S) (plans : Plans P V U S) (no_write : (g : ℕ) (x : Request) → is_post_on g x ≡ true → R.is_write g x ≡ false) (geometry : Geometry) (left : ℕ → Leaving) (none : (a : ℕ) → (left a).kept ≡ None) (first : ℕ) (origins : ℕ → ℕ) (new : (h : ℕ) → first ≤ h → origins h ≡ 0) (g : ℕ) (m : Net) (vs : ℕ → View) (t : Story) (b : Books) (e : Entry) (plain : IsPlainEntry e) (may : MayEnter geometry.n m e) (kept : EntryKept m b e) (k : Reaches geometry first origins m vs t b) (f : File P V C U S) where
  abbrev v : View
  v = vs g

  -- a request that is executed, by its parts
  abbrev pub request_file : Message → Request → Option ℕ → Bool → File P V C U S
  request_file msg q version failed = after_deeds R.form geometry.n (quorum geometry) (deeds_of_request R plans geometry.n (quorum geometry) g m v f msg (ToBrick q) version failed ++ map (dressed R plans geometry.n (quorum geometry) g) (its_acts geometry g m v msg q version failed)) f

  abbrev pub executed_file : ℕ → Option ℕ → Bool → File P V C U S
  executed_file i version failed = after_deeds R.form geometry.n (quorum geometry) (deeds_executed R plans geometry.n (quorum geometry) g m v f (m.said i) version failed ++ map (dressed R plans geometry.n (quorum geometry) g) (acts_executed g m v (m.said i) version failed)) f

  pub request_is : (i : ℕ) (version : Option ℕ) (failed : Bool) (may : MayExecute m i version failed) → executed_file i version failed ≡ request_file may.message may.request version failed
  request_is i version failed may =
      ap (λ (o : Option Message). after_deeds R.form geometry.n (quorum geometry) (deeds_executed R plans geometry.n (quorum geometry) g m v f o version failed ++ map (dressed R plans geometry.n (quorum geometry) g) (acts_executed g m v o version failed)) f) may.at.said
      ∙ ap (λ (z : Body). after_deeds R.form geometry.n (quorum geometry) (deeds_of_request R plans geometry.n (quorum geometry) g m v f may.message z version failed ++ map (dressed R plans geometry.n (quorum geometry) g) (acts_of_request g m v may.message z version failed)) f) may.at.body

  -- a torn write, by its parts
  abbrev pub part_file : Message → Request → ℕ → Option ℕ → File P V C U S
  part_file msg q count version = after_deeds R.form geometry.n (quorum geometry) (deeds_of_torn R plans geometry.n (quorum geometry) g m v msg (ToBrick q) count version ++ map (dressed R plans geometry.n (quorum geometry) g) (Stop msg.brick ∷ [])) f

  abbrev pub torn_file : ℕ → ℕ → Option ℕ → File P V C U S
  torn_file i count version = after_deeds R.form geometry.n (quorum geometry) (deeds_torn R plans geometry.n (quorum geometry) g m v (m.said i) count version ++ map (dressed R plans geometry.n (quorum geometry) g) (acts_torn (m.said i))) f

  pub part_is : (i count : ℕ) (version : Option ℕ) (may : MayTear m i count version) → torn_file i count version ≡ part_file may.message may.request count version
  part_is i count version may =
      ap (λ (o : Option Message). after_deeds R.form geometry.n (quorum geometry) (deeds_torn R plans geometry.n (quorum geometry) g m v o count version ++ map (dressed R plans geometry.n (quorum geometry) g) (acts_torn o)) f) may.at.said
      ∙ ap (λ (z : Body). after_deeds R.form geometry.n (quorum geometry) (deeds_of_torn R plans geometry.n (quorum geometry) g m v may.message z count version ++ map (dressed R plans geometry.n (quorum geometry) g) (Stop may.message.brick ∷ [])) f) may.at.body

  -- ## Plans

  executed_plans : (i : ℕ) (version : Option ℕ) (failed : Bool) → MayExecute m i version failed → PlansKept f (executed_file i version failed)
  executed_plans i version failed may1 = subst (λ (h : File P V C U S). PlansKept f h) (sym (request_is i version failed may1)) (by (known_kind geometry left none first origins new g m vs t b e plain may kept k i version failed may1))
    where
      by : IsNoPost geometry g m v may1.message may1.request version failed ⊎ IsPost geometry g m v may1.message may1.request version failed → PlansKept f (request_file may1.message may1.request version failed)
      by (inl p) = (opens_easily R plans geometry.n (quorum geometry) g m v f may1.message may1.request version failed (its_acts geometry g m v may1.message may1.request version failed) p.easy).plans
      by (inr p) = marked (is_marked p.old) (commits geometry.n (quorum geometry) f.heads (v.of may1.message.no) may1.message.brick) refl refl
        where
          on : is_post_on g may1.request ≡ true
          on = post_on geometry g m v t may1.message may1.request version failed p

          marked : (c d : Bool) → is_marked p.old ≡ c → commits geometry.n (quorum geometry) f.heads (v.of may1.message.no) may1.message.brick ≡ d → PlansKept f (request_file may1.message may1.request version failed)
          marked true d e u = (sunk_file R plans geometry g (no_write g) m v f may1.message may1.request version failed p on e).plans
          marked false true e u = (committed_file R plans geometry g (no_write g) m v f may1.message may1.request version failed p on e u).plans
          marked false false e u = (posted_file R plans geometry g (no_write g) m v f may1.message may1.request version failed p on e u).plans

  torn_plans : (i count : ℕ) (version : Option ℕ) → MayTear m i count version → PlansKept f (torn_file i count version)
  torn_plans i count version may = subst (λ (h : File P V C U S). PlansKept f h) (sym (part_is i count version may)) (opens_torn R plans geometry.n (quorum geometry) g m v f may.message may.request version count (Stop may.message.brick ∷ []) (refl, tt)).plans

  module _ (Fits : ℕ → Op → Found → (P → Bool) → (P → ℕ → Option U) → Type 0) (stable : Stable R Fits g) (built : AllBuilt m) (planned : ArePlanned R Fits g m.said v.of m t f) where
    abbrev Then : Entry → Type 0
    Then x = ArePlanned R Fits g (net_after m x).said (seen_after g m v x).of (net_after m x) (told geometry m t x) (file_after R plans geometry.n (quorum geometry) g m v f x)

    below : (i : ℕ) (x : Message) → m.said i ≡ Some x → x.call ≤ m.calls
    below i x is = (k.reached g).known.numbers.said_below i x is

    still : (x : Entry) → e ≡ x → (net_after m x).said ≡ m.said → (seen_after g m v x).of ≡ v.of → PlansKept f (file_after R plans geometry.n (quorum geometry) g m v f x) → Then x
    still x is said of s =
        subst (λ (y : ℕ → Option Message). ArePlanned R Fits g y (seen_after g m v x).of (net_after m x) (told geometry m t x) (file_after R plans geometry.n (quorum geometry) g m v f x)) (sym said)
        (subst (λ (y : ℕ → ℕ). ArePlanned R Fits g m.said y (net_after m x) (told geometry m t x) (file_after R plans geometry.n (quorum geometry) g m v f x)) (sym of)
        (planned_still R Fits g stable m.said v.of m (net_after m x) t (told geometry m t x) f (file_after R plans geometry.n (quorum geometry) g m v f x) built (calls_stay geometry m t x (subst (λ (z : Entry). MayEnter geometry.n m z) is may)) below s planned))

    quiet : (x : Entry) → e ≡ x → (net_after m x).said ≡ m.said → (seen_after g m v x).of ≡ v.of → (es : List Act) → Easy es → file_after R plans geometry.n (quorum geometry) g m v f x ≡ after_deeds R.form geometry.n (quorum geometry) (map (dressed R plans geometry.n (quorum geometry) g) es) f → Then x
    quiet x is said of es easy made = still x is said of (subst (λ (h : File P V C U S). PlansKept f h) (sym made) (same_acts R plans geometry.n (quorum geometry) g es f easy).plans)

    sent_then : (msg : Message) → e ≡ Sent msg → (plans_on R g msg.body ≡ true → f.planned (turn_of g v msg) ≡ false → Fits (turn_of g v msg) (op_of m msg.call) (t.found msg.call) (plans.plan (turn_of g v msg)).covers (plans.plan (turn_of g v msg)).sets) → Then (Sent msg)
    sent_then msg is fits = planned_sent R Fits g stable plans geometry m v t f msg built below mine (calls_stay geometry m t (Sent msg) (subst (λ (z : Entry). MayEnter geometry.n m z) is may)) more fits planned
      where
        more : Adds m.said (net_after m (Sent msg)).said v.of (seen_after g m v (Sent msg)).of msg.no msg
        more = adds geometry.n g m v msg (subst (λ (z : Entry). MayEnter geometry.n m z) is may).0 (k.reached g).known.messages

        mine : msg.call ≤ m.calls
        mine = (subst (λ (y : Entry). (i : ℕ) (x : Message) → (net_after m y).said i ≡ Some x → x.call ≤ (net_after m y).calls) is (reached_then geometry left none first origins new m vs t b e plain may kept k g).known.numbers.said_below) msg.no msg (put_here m.said msg.no (Some msg) msg.no refl)

    pub planned_then : (x : Entry) → e ≡ x → ((msg : Message) → e ≡ Sent msg → plans_on R g msg.body ≡ true → f.planned (turn_of g v msg) ≡ false → Fits (turn_of g v msg) (op_of m msg.call) (t.found msg.call) (plans.plan (turn_of g v msg)).covers (plans.plan (turn_of g v msg)).sets) → Then x
    planned_then (Called a client op) is fits = quiet (Called a client op) is refl (made_same g v a op).1 [] tt refl
    planned_then (Sent msg) is fits = sent_then msg is (fits msg is)
    planned_then (Executed i version failed) is fits = still (Executed i version failed) is (executed_same m (m.said i) version failed).0 refl (executed_plans i version failed (subst (λ (z : Entry). MayEnter geometry.n m z) is may))
    planned_then (Heard i) is fits = quiet (Heard i) is (heard_same m (m.said i)).0 refl [] tt refl
    planned_then (Torn i count version) is fits = still (Torn i count version) is (torn_said m (m.said i) count version).0 refl (torn_plans i count version (subst (λ (z : Entry). MayEnter geometry.n m z) is may))
    planned_then (Cut client c) is fits = quiet (Cut client c) is refl refl (acts g m v (Cut client c)) (easy_locks g m v c (m.brick c).asks (cut_off (m.brick c) client).brick.asks) refl
    planned_then (Stopped c) is fits = quiet (Stopped c) is refl refl (Stop c ∷ []) (refl, tt) refl
    planned_then (Replaced c removed all) is fits = quiet (Replaced c removed all) is refl refl (acts g m v (Replaced c removed all)) (easy_replaced (is_some ((m.brick c).records g) && not (is_some (wiped removed all (m.brick c).records g))) c) refl
    planned_then (Lost i) is fits = quiet (Lost i) is refl refl [] tt refl
    planned_then (GivenUp client brick i) is fits = quiet (GivenUp client brick i) is refl refl [] tt refl
    planned_then (Returned c) is fits = quiet (Returned c) is refl refl [] tt refl
    planned_then (Died client) is fits = quiet (Died client) is refl refl [] tt refl
    planned_then (Yielded client) is fits = quiet (Yielded client) is refl refl [] tt refl
    planned_then (Answered a answer) is fits = quiet (Answered a answer) is refl refl [] tt refl
