-- Each turn plans, as it sends its first request on names or its PostOp, what the history says of its call's commit.
use Rattle.std.proofs.Common.{◌≡◌, ℕ, ◌-◌, ◌^◌, ◌≤◌, Bool, true, false, not, cond, ◌==◌, ◌&&◌, Option, Some, None, List, [], ◌∷◌, refl, sym, ◌∙◌, ap, subst}
use Rattle.ec_attr.specs.declared.geometry.Geometry.{Geometry}
use Rattle.ec_attr.specs.declared.kind.Child.{Child}
use Rattle.ec_conduct.specs.Given.{Given, quorum}
use Rattle.ec_history.specs.Accounts.{Books, Leaving, booked, books}
use Rattle.ec_history.specs.Changes.{Found}
use Rattle.ec_history.specs.IsRun.{IsRun, MaySay}
use Rattle.ec_history.specs.Run.{Net, after as net_after, call_of, run}
use Rattle.ec_history.specs.Story.{Story, makes_a_child, op_of, story, told}
use Rattle.ec_wire.specs.declared.entry.Entry.{Entry}
use Rattle.ec_wire.specs.declared.entry.Entry.TheVariants.{Sent, Executed, Torn}
use Rattle.ec_wire.specs.declared.message.Body.{Body}
use Rattle.ec_wire.specs.declared.message.Body.TheVariants.{ToBrick, ToClient}
use Rattle.ec_wire.specs.declared.message.Message.{Message}
use Rattle.ec_wire.specs.declared.op.Op.{Op}
use Rattle.ec_wire.specs.declared.op.Op.TheVariants.{Create, Mkdir, Rename, Rmdir}
use Rattle.ec_wire.specs.declared.request.Request.{Request}
use Rattle.ec_law_net.specs.Turns.{View, seen_after, turn_of, view}
use Rattle.ec_law_turns.specs.Orderly.{ArePlain}
use Rattle.ec_law_turns.proofs.Basics.{equal, itself, put_here, some_is}
use Rattle.ec_law_turns.proofs.Runs.{Kept, kept_there, plain_first}
use Rattle.ec_law_data.specs.Deeds.{file, file_after}
use Rattle.ec_law_data.specs.Forms.{of_directory}
use Rattle.ec_law_data.proofs.Reaching.{Reaches, reaches_then}
use Rattle.ec_law_flats.specs.Plans.{AllPlans, AreBuilt, EntryPlans, FitsNames, NamePlan, is_unbuilt, plans_on}
use Rattle.ec_law_flats.proofs.Calls.{AllBuilt, built_first, built_then}
use Rattle.ec_law_flats.proofs.MachineSteps.{Intends, SentAs, sent_as}
use Rattle.ec_law_plans.specs.Naming.{HavePlans, NameFile, NamePlans, PlansAreHistory, child_set, covers_name}
use Rattle.ec_law_plans.specs.Naming as naming
use Rattle.ec_law_plans.proofs.Having.{none_executed, none_torn, same_entry, SamePlans}
use Rattle.ec_law_plans.proofs.Saying.{given_last}
use Rattle.ec_law_plans.proofs.Steady.{planned_log}
use Rattle.ec_law_names.proofs.Ends.{reaches_end, said_end}
use Rattle.ec_law_names.proofs.Givens.{AreGiven, IsGiven, given_then}

-- ## What a turn has planned stays

pub record KeepsPlan (f h : NameFile) (a : ℕ) : Type 0 where
  pub covers : (name : List ℕ) → h.covers a name ≡ f.covers a name
  pub sets : (name : List ℕ) (i : ℕ) → h.sets a name i ≡ f.sets a name i

by_same : (f h : NameFile) (a : ℕ) → h.covers ≡ f.covers → h.sets ≡ f.sets → KeepsPlan f h a
by_same f h a c s = record { covers = λ name. ap (λ (z : ℕ → List ℕ → Bool). z a name) c; sets = λ name i. ap (λ (z : ℕ → List ℕ → ℕ → Option (Option Child)). z a name i) s }

module _ (plans : NamePlans) (geometry : Geometry) (g : ℕ) where
  abbrev n : ℕ
  n = geometry.n

  abbrev k : ℕ
  k = quorum geometry

  module _ (m : Net) (v : View) (f : NameFile) (a : ℕ) (planned : f.planned a ≡ true) where
    none : (e : Entry) → SamePlans f (file_after of_directory plans n k g m v f e) → KeepsPlan f (file_after of_directory plans n k g m v f e) a
    none e s = by_same f (file_after of_directory plans n k g m v f e) a s.covers s.sets

    sent : (msg : Message) → KeepsPlan f (file_after of_directory plans n k g m v f (Sent msg)) a
    sent msg = by (plans_on of_directory g msg.body) (f.planned (turn_of g v msg)) refl (sent_as of_directory plans geometry g m v f msg)
      where
        h : NameFile
        h = file_after of_directory plans n k g m v f (Sent msg)

        other : (c : Bool) → (a == turn_of g v msg) ≡ c → f.planned (turn_of g v msg) ≡ false → c ≡ false
        other false e free = refl
        other true e free = absurd (let z = sym planned ∙ (ap f.planned (equal a (turn_of g v msg) e) ∙ free) in cc)

        skip : {X : Type 0} (c : Bool) (x y : X) → c ≡ false → cond c x y ≡ y
        skip false x y e = refl
        skip true x y e = absurd (cc)

        by : (c d : Bool) → f.planned (turn_of g v msg) ≡ d → SentAs of_directory plans geometry g m v f msg (c && not (f.planned (turn_of g v msg))) h → KeepsPlan f h a
        by false d free s = by_same f h a s.plans.covers s.plans.sets
        by true true free s = let t = subst (λ (z : Bool). SentAs of_directory plans geometry g m v f msg (not z) h) free s in by_same f h a t.plans.covers t.plans.sets
        by true false free s =
            let t = subst (λ (z : Bool). SentAs of_directory plans geometry g m v f msg (not z) h) free s in
            let apart = other (a == turn_of g v msg) refl free in
            record {
              covers = λ name. ap (λ (z : ℕ → List ℕ → Bool). z a name) t.covers ∙ skip (a == turn_of g v msg) ((plans.plan (turn_of g v msg)).covers name) (f.covers a name) apart;
              sets = λ name i. ap (λ (z : ℕ → List ℕ → ℕ → Option (Option Child)). z a name i) t.sets ∙ skip (a == turn_of g v msg) ((plans.plan (turn_of g v msg)).sets name i) (f.sets a name i) apart;
            }

    keeps_entry : (e : Entry) → KeepsPlan f (file_after of_directory plans n k g m v f e) a
    keeps_entry (Sent msg) = sent msg
    keeps_entry (Executed i version failed) = none (Executed i version failed) (same_entry of_directory plans n k g m v f (Executed i version failed) (none_executed of_directory plans n k g m v f (m.said i) version failed))
    keeps_entry (Torn i count version) = none (Torn i count version) (same_entry of_directory plans n k g m v f (Torn i count version) (none_torn of_directory plans n k g m v (m.said i) count version))
    keeps_entry e = none e (same_entry of_directory plans n k g m v f e tt)

  keeps_log : (es : List Entry) (m : Net) (v : View) (f : NameFile) (a : ℕ) → f.planned a ≡ true → KeepsPlan f (file of_directory plans n k g es m v f) a
  keeps_log [] m v f a planned = record { covers = λ name. refl; sets = λ name i. refl }
  keeps_log (e ∷ es) m v f a planned =
      let now = keeps_entry m v f a planned e in
      let rest = keeps_log es (net_after m e) (seen_after g m v e) (file_after of_directory plans n k g m v f e) a (planned_log of_directory plans n k g (e ∷ []) m v f a planned) in
      record { covers = λ name. rest.covers name ∙ now.covers name; sets = λ name i. rest.sets name i ∙ now.sets name i }

-- ## What the history says

built_names : (op : Op) → is_unbuilt op ≡ false → naming.is_unbuilt op ≡ false
built_names (Rename from_dir from_name to_dir to_name) e = absurd (cc)
built_names (Rmdir dir name) e = absurd (cc)
built_names op e = refl

same_set : (op : Op) (x y : ℕ) → (makes_a_child op ≡ true → x ≡ y) → child_set op x ≡ child_set op y
same_set (Create dir name) x y e = ap (λ (z : ℕ). child_set (Create dir name) z) (e refl)
same_set (Mkdir dir name) x y e = ap (λ (z : ℕ). child_set (Mkdir dir name) z) (e refl)
same_set op x y e = refl

fits_history : PlansAreHistory → (k g : ℕ) (op : Op) (found : Found) (given : Given) (covers : List ℕ → Bool) (sets : List ℕ → ℕ → Option (Option Child)) → is_unbuilt op ≡ false → op ≡ given.op → (makes_a_child given.op ≡ true → found.took ≡ given.child) → ((name : List ℕ) → covers name ≡ covers_name given.op name) → ((name : List ℕ) (i : ℕ) → sets name i ≡ Some (child_set given.op given.child)) → FitsNames k g op found covers sets
fits_history history k g op found given covers sets built same took c s =
    let h = history k g op found (built_names op built) in
    record {
      covers = λ name. c name ∙ (ap (λ (z : Op). covers_name z name) (sym same) ∙ h.covers name);
      sets = λ name child is. s name 0 ∙ (ap (λ (z : Option Child). Some z) (sym (same_set given.op found.took given.child took) ∙ ap (λ (z : Op). child_set z found.took) (sym same)) ∙ h.sets name child is);
    }

-- ## A log

module _ (history : PlansAreHistory) (plans : NamePlans) (geometry : Geometry) (left : ℕ → Leaving) (unkept : (a : ℕ) → (left a).kept ≡ None) (first : ℕ) (origins : ℕ → ℕ) (new : (h : ℕ) → first ≤ h → origins h ≡ 0) (g : ℕ) where
  module _ (msg : Message) (es : List Entry) (m : Net) (vs : ℕ → View) (t : Story) (b : Books) (f : NameFile) (runs : IsRun geometry.n (Sent msg ∷ es) m) (plain : ArePlain (Sent msg ∷ es)) (kept : Kept geometry left unkept (books geometry left (Sent msg ∷ es) m t b)) (reaches : Reaches geometry first origins m vs t b) (built : AllBuilt m) (givens : AreGiven m t b) (have : HavePlans g (run (Sent msg ∷ es) m) (view g (Sent msg ∷ es) m (vs g)) (books geometry left (Sent msg ∷ es) m t b) (file of_directory plans geometry.n (quorum geometry) g (Sent msg ∷ es) m (vs g) f)) where
    abbrev v : View
    v = vs g

    abbrev turn : ℕ
    turn = turn_of g v msg

    abbrev next : Net
    next = net_after m (Sent msg)

    abbrev nexts : ℕ → View
    nexts h = seen_after h m (vs h) (Sent msg)

    abbrev h : NameFile
    h = file_after of_directory plans geometry.n (quorum geometry) g m v f (Sent msg)

    abbrev end : NameFile
    end = file of_directory plans geometry.n (quorum geometry) g (Sent msg ∷ es) m v f

    later : Reaches geometry first origins next nexts (told geometry m t (Sent msg)) (booked geometry left m t b (Sent msg))
    later = reaches_then geometry left unkept first origins new m vs t b (Sent msg) (plain_first (Sent msg) es plain).0 runs.0 (kept_there geometry left unkept (Sent msg) es m t b runs plain (reaches.reached 0).known.numbers kept) reaches

    said_last : ((run (Sent msg ∷ es) m).said msg.no ≡ Some msg) × ((view g (Sent msg ∷ es) m v).of msg.no ≡ turn)
    said_last =
        let o = said_end geometry left unkept first origins new g es next nexts (told geometry m t (Sent msg)) (booked geometry left m t b (Sent msg)) runs.1 (plain_first (Sent msg) es plain).1 kept later msg.no msg (put_here m.said msg.no (Some msg) msg.no refl) in
        (o.0, o.1 ∙ put_here v.of msg.no turn msg.no refl)

    last : Reaches geometry first origins (run (Sent msg ∷ es) m) (λ x. view x (Sent msg ∷ es) m (vs x)) (story geometry (Sent msg ∷ es) m t) (books geometry left (Sent msg ∷ es) m t b)
    last = reaches_end geometry left unkept first origins new (Sent msg ∷ es) m vs t b runs plain kept reaches

    module _ (q : Request) (body : msg.body ≡ ToBrick q) (on : plans_on of_directory g (ToBrick q) ≡ true) (free : f.planned turn ≡ false) where
      intends : Intends of_directory plans geometry g f h turn
      intends = subst (λ (z : Bool). SentAs of_directory plans geometry g m v f msg z h) (ap (λ (z : Body). plans_on of_directory g z && not (f.planned turn)) body ∙ (ap (λ (z : Bool). z && not (f.planned turn)) on ∙ ap not free)) (sent_as of_directory plans geometry g m v f msg)

      planned_now : h.planned turn ≡ true
      planned_now = ap (λ (z : ℕ → Bool). z turn) intends.planned ∙ ap (λ (c : Bool). cond c true (f.planned turn)) (itself turn)

      planned_last : end.planned turn ≡ true
      planned_last = planned_log of_directory plans geometry.n (quorum geometry) g es next (nexts g) h turn planned_now

      keeps : KeepsPlan h end turn
      keeps = keeps_log plans geometry g es next (nexts g) h turn planned_now

      -- the caller of the turn's first ask is the sender
      caller : call_of ((run (Sent msg ∷ es) m).said (turn - 2 ^ 61)) ≡ msg.call
      caller =
          let o = have.sent msg.no msg q said_last.0 body on in
          subst (λ (a : ℕ). call_of ((run (Sent msg ∷ es) m).said (a - 2 ^ 61)) ≡ msg.call) said_last.1 ((last.reached g).known.messages.caller msg.no msg said_last.0 o.1)

      asker : (given : Given) × (b.given msg.call ≡ Some given)
      asker =
          let may = subst (λ (z : Body). MaySay geometry.n m msg z) body runs.0.1 in
          let made = (reaches.reached g).known.numbers.made msg.call may.asker may.made in
          (made.1, made.2)

      fits : FitsNames (quorum geometry) g (op_of m msg.call) (t.found msg.call) (plans.plan turn).covers (plans.plan turn).sets
      fits =
          let p = have.has turn planned_last in
          let at_last = given_last geometry left unkept (Sent msg ∷ es) m t b runs plain (reaches.reached g).known.numbers msg.call asker.0 asker.1 in
          let same : asker.0 ≡ p.given = some_is asker.0 p.given (sym at_last ∙ (ap (books geometry left (Sent msg ∷ es) m t b).given (sym caller) ∙ p.made)) in
          let given : IsGiven m t msg.call p.given = subst (IsGiven m t msg.call) same (givens msg.call asker.0 asker.1) in
          fits_history history (quorum geometry) g (op_of m msg.call) (t.found msg.call) p.given (plans.plan turn).covers (plans.plan turn).sets (built msg.call) given.op given.took
          (λ name. sym (ap (λ (z : ℕ → List ℕ → Bool). z turn name) intends.covers ∙ ap (λ (c : Bool). cond c ((plans.plan turn).covers name) (f.covers turn name)) (itself turn)) ∙ (sym (keeps.covers name) ∙ p.covers name))
          (λ name i. sym (ap (λ (z : ℕ → List ℕ → ℕ → Option (Option Child)). z turn name i) intends.sets ∙ ap (λ (c : Bool). cond c ((plans.plan turn).sets name i) (f.sets turn name i)) (itself turn)) ∙ (sym (keeps.sets name i) ∙ p.sets name i))

    sent_plans : EntryPlans of_directory (NamePlan (quorum geometry) g) plans geometry g m v t f (Sent msg)
    sent_plans = by msg.body refl
      where
        by : (z : Body) → msg.body ≡ z → plans_on of_directory g z ≡ true → f.planned turn ≡ false → NamePlan (quorum geometry) g turn (op_of m msg.call) (t.found msg.call) (plans.plan turn)
        by (ToBrick q) body on free = fits q body on free
        by (ToClient re reply) body on free = absurd (cc)

  entry_plans : (e : Entry) (es : List Entry) (m : Net) (vs : ℕ → View) (t : Story) (b : Books) (f : NameFile) → IsRun geometry.n (e ∷ es) m → ArePlain (e ∷ es) → Kept geometry left unkept (books geometry left (e ∷ es) m t b) → Reaches geometry first origins m vs t b → AllBuilt m → AreGiven m t b → HavePlans g (run (e ∷ es) m) (view g (e ∷ es) m (vs g)) (books geometry left (e ∷ es) m t b) (file of_directory plans geometry.n (quorum geometry) g (e ∷ es) m (vs g) f) → EntryPlans of_directory (NamePlan (quorum geometry) g) plans geometry g m (vs g) t f e
  entry_plans (Sent msg) es m vs t b f runs plain kept reaches built givens have = sent_plans msg es m vs t b f runs plain kept reaches built givens have
  entry_plans e es m vs t b f runs plain kept reaches built givens have = tt

  pub all_plans : (es : List Entry) (m : Net) (vs : ℕ → View) (t : Story) (b : Books) (f : NameFile) → IsRun geometry.n es m → ArePlain es → AreBuilt es → Kept geometry left unkept (books geometry left es m t b) → Reaches geometry first origins m vs t b → AllBuilt m → AreGiven m t b → HavePlans g (run es m) (view g es m (vs g)) (books geometry left es m t b) (file of_directory plans geometry.n (quorum geometry) g es m (vs g) f) → AllPlans of_directory (NamePlan (quorum geometry) g) plans geometry g es m (vs g) t f
  all_plans [] m vs t b f runs plain are_built kept reaches built givens have = tt
  all_plans (e ∷ es) m vs t b f runs plain are_built kept reaches built givens have =
      let p = plain_first e es plain in
      let c = built_first e es are_built in
      let may = kept_there geometry left unkept e es m t b runs plain (reaches.reached 0).known.numbers kept in (
        entry_plans e es m vs t b f runs plain kept reaches built givens have,
        all_plans es (net_after m e) (λ h. seen_after h m (vs h) e) (told geometry m t e) (booked geometry left m t b e) (file_after of_directory plans geometry.n (quorum geometry) g m (vs g) f e) runs.1 p.1 c.1 kept
            (reaches_then geometry left unkept first origins new m vs t b e p.0 runs.0 may reaches)
            (built_then m e c.0 built)
            (given_then geometry left m t b (reaches.reached 0).known.numbers givens e runs.0)
            have,
      )
