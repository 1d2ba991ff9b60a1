-- Plans for the names of a directory, entry by entry, for which all of the log owes nothing.
use Rattle.std.proofs.Common.{◌≡◌, ℕ, ◌+◌, ◌-◌, ◌^◌, ◌<◌, ◌≤◌, Bool, true, false, not, cond, ◌==◌, ◌&&◌, ◌||◌, Option, Some, None, List, [], ◌∷◌, ◌++◌, refl, sym, ◌∙◌, ap, subst, arith}
use Rattle.std.proofs.lemmas.Bool.Decides.{nat_tests}
use Rattle.ec_attr.specs.Head.{new_attr}
use Rattle.ec_attr.specs.declared.config.Config.{Config}
use Rattle.ec_attr.specs.declared.geometry.Geometry.{Geometry}
use Rattle.ec_attr.specs.declared.kind.Kind.{Kind}
use Rattle.ec_attr.specs.declared.kind.Kind.TheVariants.{Dir}
use Rattle.ec_brick.specs.State.{State as Brick}
use Rattle.ec_conduct.specs.Given.{Given, quorum}
use Rattle.ec_history.specs.Accounts.{Books, Leaving, booked, books, no_books}
use Rattle.ec_history.specs.Flat.{Tree}
use Rattle.ec_history.specs.IsRun.{IsRun, May as MayEnter, MaySay}
use Rattle.ec_history.specs.Run.{Net, after as net_after, call_of, fresh, run}
use Rattle.ec_history.specs.Starts.{IsStart}
use Rattle.ec_history.specs.Story.{Story, opening, story, told}
use Rattle.ec_store.specs.Records.{Records}
use Rattle.ec_wire.specs.declared.entry.Entry.{Entry}
use Rattle.ec_wire.specs.declared.entry.Entry.TheVariants.{Called, Sent, Executed, Heard, Lost, GivenUp, Stopped, Returned, Cut, Died, Yielded, Torn, Answered, Replaced}
use Rattle.ec_wire.specs.declared.message.Body.{Body}
use Rattle.ec_wire.specs.declared.message.Body.TheVariants.{ToBrick, ToClient}
use Rattle.ec_wire.specs.declared.message.Message.{Message}
use Rattle.ec_wire.specs.declared.request.Request.{Request}
use Rattle.ec_wire.specs.declared.request.Request.TheVariants.{Make, PostOp}
use Rattle.ec_law_net.specs.Turns.{View, seen_after, turn_of, view}
use Rattle.ec_law_turns.specs.Known.{Known}
use Rattle.ec_law_turns.specs.Laws.{Always}
use Rattle.ec_law_turns.specs.Orderly.{ArePlain, IsOrderly}
use Rattle.ec_law_turns.specs.Sound.{IsSound}
use Rattle.ec_law_turns.proofs.Basics.{equal, put_here, put_there, some_none}
use Rattle.ec_law_turns.proofs.Origins.{unversioned}
use Rattle.ec_law_turns.proofs.Runs.{given_stays, kept_there, plain_first}
use Rattle.ec_law_turns.proofs.Sends.{adds}
use Rattle.ec_law_turns.proofs.Steps.{EntryKept, executed_same, heard_same, made_same, torn_same}
use Rattle.ec_law_turns.proofs.Tracks.{Adds}
use Rattle.ec_law_data.specs.Deeds.{data_deeds, deeds, file, file_after, is_post_on}
use Rattle.ec_law_data.specs.Forms.{is_naming, of_directory}
use Rattle.ec_law_data.specs.Laws.{begun, directory_begun}
use Rattle.ec_law_data.specs.Link.{BodyWhole, EntryCoded, IsWhole, MessageWhole}
use Rattle.ec_law_data.specs.Owing.{AllOwe}
use Rattle.ec_law_data.proofs.Cores.{log_heads}
use Rattle.ec_law_data.proofs.Forms.{directory_fits}
use Rattle.ec_law_data.proofs.Holding.{held_laws}
use Rattle.ec_law_data.proofs.OrderlyDeeds.{unmarking}
use Rattle.ec_law_data.proofs.Planning.{writer_names}
use Rattle.ec_law_data.proofs.Reaching.{reached_then, reaches_start}
use Rattle.ec_law_plans.specs.Extend.{ActsRun, Agree, GoesOn, OweNothing}
use Rattle.ec_law_plans.specs.Given.{AllFit, AllGuarded, AllOweShape, AllWrite, BodyFits, EachRequest, EntryFits, EntryGuarded, EntryWrites, MakesDirectory, MessageFits, SentFits, ShapeLaw, WriteLaws}
use Rattle.ec_law_plans.specs.Named.{AreNamed, NamedInEveryLog, SetOwnNames}
use Rattle.ec_law_plans.specs.Naming.{HavePlans, NameFile, NamePlans, chosen_at, chosen_by, group_shape, name_plan}
use Rattle.ec_law_parts.specs.LeavesOff.{DataBeforePosts}
use Rattle.ec_law_plans.proofs.Agreeing.{same_file}
use Rattle.ec_law_plans.proofs.Chunks.{run_whole}
use Rattle.ec_law_plans.proofs.Entries.{BodyKnown, EntryKnown, MessageKnown, SentKnown, entry_coded, entry_owes}
use Rattle.ec_law_plans.proofs.Extending.{acts_run, extended, runs_front, same_owed}
use Rattle.ec_law_plans.proofs.Fitting.{fits_last, plan_is, same_fits, sent_fits}
use Rattle.ec_law_plans.proofs.Having.{PlanNone, Stays, have_reply, have_request, have_same, none_executed, none_torn}
use Rattle.ec_law_plans.proofs.Saying.{AtMoment, given_last, moment}

-- ## Entries of a whole log

guarded_front : (g : ℕ) (es : List Entry) (e : Entry) (rest : List Entry) (m : Net) (v : View) → AllGuarded g (es ++ e ∷ rest) m v → EntryGuarded g (run es m) (view g es m v) e
guarded_front g [] e rest m v h = h.0
guarded_front g (x ∷ es) e rest m v h = guarded_front g es e rest (net_after m x) (seen_after g m v x) h.1

writes_front : (plans : NamePlans) (geometry : Geometry) (left : ℕ → Leaving) (n k g : ℕ) (es : List Entry) (e : Entry) (rest : List Entry) (m : Net) (v : View) (t : Story) (b : Books) (f : NameFile) → AllWrite of_directory plans geometry left n k g (es ++ e ∷ rest) m v t b f → EntryWrites of_directory g (run es m) (view g es m v) (books geometry left es m t b) (file of_directory plans n k g es m v f) e
writes_front plans geometry left n k g [] e rest m v t b f h = h.0
writes_front plans geometry left n k g (x ∷ es) e rest m v t b f h = writes_front plans geometry left n k g es e rest (net_after m x) (seen_after g m v x) (told geometry m t x) (booked geometry left m t b x) (file_after of_directory plans n k g m v f x) h.1

-- what holds after an entry holds after the log with it
last_entry : (plans : NamePlans) (geometry : Geometry) (left : ℕ → Leaving) (n k g : ℕ) (P : Net → View → Books → NameFile → Type 0) (e : Entry) (es : List Entry) (m : Net) (v : View) (t : Story) (b : Books) (f : NameFile)
    → P (net_after (run es m) e) (seen_after g (run es m) (view g es m v) e) (booked geometry left (run es m) (story geometry es m t) (books geometry left es m t b) e) (file_after of_directory plans n k g (run es m) (view g es m v) (file of_directory plans n k g es m v f) e)
    → P (run (es ++ e ∷ []) m) (view g (es ++ e ∷ []) m v) (books geometry left (es ++ e ∷ []) m t b) (file of_directory plans n k g (es ++ e ∷ []) m v f)
last_entry plans geometry left n k g P e [] m v t b f h = h
last_entry plans geometry left n k g P e (x ∷ es) m v t b f h = last_entry plans geometry left n k g P e es (net_after m x) (seen_after g m v x) (told geometry m t x) (booked geometry left m t b x) (file_after of_directory plans n k g m v f x) h

-- ## One entry

module _ (geometry : Geometry) (left : ℕ → Leaving) (none : (a : ℕ) → (left a).kept ≡ None) (first : ℕ) (origins : ℕ → ℕ) (new_origins : (h : ℕ) → first ≤ h → origins h ≡ 0) (n k g : ℕ) (same_n : geometry.n ≡ n) where
  -- what was said and what calls began with stays
  stays_entry : (m : Net) (t : Story) (b : Books) (e : Entry) → MayEnter geometry.n m e → ((a : ℕ) (given : Given) → b.given a ≡ Some given → (booked geometry left m t b e).given a ≡ Some given) → Stays m (net_after m e) b (booked geometry left m t b e)
  stays_entry m t b (Sent msg) may given = record { next = omega arith; said = λ j lt. put_there m.said msg.no (Some msg) j (λ e. let no = may.0 in omega (arith, e, no, lt)); given = given }
  stays_entry m t b (Executed i version failed) may given = let o = executed_same m (m.said i) version failed in record { next = let e = o.1 in omega (arith, e); said = λ j lt. ap (λ (h : ℕ → Option Message). h j) o.0; given = given }
  stays_entry m t b (Heard i) may given = let o = heard_same m (m.said i) in record { next = let e = o.1 in omega (arith, e); said = λ j lt. ap (λ (h : ℕ → Option Message). h j) o.0; given = given }
  stays_entry m t b (Torn i count version) may given = let o = torn_same m (m.said i) count version in record { next = let e = o.1 in omega (arith, e); said = λ j lt. ap (λ (h : ℕ → Option Message). h j) o.0; given = given }
  stays_entry m t b e may given = record { next = omega arith; said = λ j lt. refl; given = given }

  module _ (e : Entry) (rest : List Entry) (m : Net) (vs : ℕ → View) (t : Story) (b : Books) (at : AtMoment geometry left none g first origins (e ∷ rest) m vs t b) (f : NameFile) (heads : f.heads ≡ (vs g).core) (have : HavePlans g m (vs g) b f) (old : NamePlans) where
    abbrev v : View
    v = vs g

    abbrev new : NamePlans
    new = chosen_at g v b f e old

    abbrev c : Books
    c = booked geometry left m t b e

    known : Known geometry g m v b
    known = (at.reaches.reached g).known

    kept : EntryKept m b e
    kept = kept_there geometry left none e rest m t b at.runs at.plain known.numbers at.kept

    known_then : Known geometry g (net_after m e) (seen_after g m v e) c
    known_then = (reached_then geometry left none first origins new_origins m vs t b e (plain_first e rest at.plain).0 at.runs.0 kept at.reaches g).known

    stay : Stays m (net_after m e) b c
    stay = stays_entry m t b e at.runs.0 (given_stays geometry left none m t b e at.runs.0 known.numbers)

    -- ## A message that is sent

    given_of : (msg : Message) (q : Request) → e ≡ Sent msg → msg.body ≡ ToBrick q → (given : Given) × (b.given msg.call ≡ Some given)
    given_of msg q is body =
        let may = subst (λ (x : Entry). MayEnter geometry.n m x) is at.runs.0 in
        let asker = subst (λ (z : Body). MaySay geometry.n m msg z) body may.1 in
        let begun = known.numbers.made msg.call asker.asker asker.made in
        (begun.1, begun.2)

    -- its turn is one of the log, and of its call
    turn_known : (msg : Message) (q : Request) → e ≡ Sent msg → msg.body ≡ ToBrick q → (is_naming g q || is_post_on g q) ≡ true → (2 ^ 61 ≤ turn_of g v msg) × (turn_of g v msg < 2 ^ 61 + (net_after m (Sent msg)).next) × (call_of ((net_after m (Sent msg)).said (turn_of g v msg - 2 ^ 61)) ≡ msg.call)
    turn_known msg q is body w =
        let may = subst (λ (x : Entry). MayEnter geometry.n m x) is at.runs.0 in
        let later = subst (λ (x : Entry). Known geometry g (net_after m x) (seen_after g m v x) (booked geometry left m t b x)) is known_then in
        let here = put_here m.said msg.no (Some msg) msg.no refl in
        let turn = put_here v.of msg.no (turn_of g v msg) msg.no refl in
        let begun = subst (λ (x : ℕ). 2 ^ 61 ≤ x) turn (begins may later here (is_naming g q) refl) in
        (begun, subst (λ (x : ℕ). x < 2 ^ 61 + (net_after m (Sent msg)).next) turn (later.messages.below msg.no msg here), subst (λ (x : ℕ). 2 ^ 61 ≤ x → call_of ((net_after m (Sent msg)).said (x - 2 ^ 61)) ≡ msg.call) turn (later.messages.caller msg.no msg here) begun)
      where
        second : (t u : Bool) → t ≡ false → (t || u) ≡ true → u ≡ true
        second false u e h = h
        second true u e h = absurd (cc)

        post_begun : (said : ℕ → Option Message) (of : ℕ → ℕ) (moment : ℕ → Bool) (a b i : ℕ) (q : Request) → is_post_on g q ≡ true → IsSound g said of moment a b i q → 2 ^ 61 ≤ of i
        post_begun said of moment a b i (PostOp x j from to size attr) on s = (s (equal x.0 g on)).begun
        post_begun said of moment a b i q on s = absurd (cc)

        begins : MayEnter geometry.n m (Sent msg) → Known geometry g (net_after m (Sent msg)) (seen_after g m v (Sent msg)) (booked geometry left m t b (Sent msg)) → (net_after m (Sent msg)).said msg.no ≡ Some msg → (u : Bool) → is_naming g q ≡ u → 2 ^ 61 ≤ (seen_after g m v (Sent msg)).of msg.no
        begins may later here true naming = (writer_names geometry g m v b msg may.0 may.1 (subst (λ (x : Entry). EntryKept m b x) is kept) known (at.reaches.reached g).shown q body (directory_fits.writers g q naming)).2.begun
        begins may later here false naming = post_begun (net_after m (Sent msg)).said (seen_after g m v (Sent msg)).of (seen_after g m v (Sent msg)).core.moment msg.call msg.brick msg.no q (second (is_naming g q) (is_post_on g q) naming w) (later.sound msg.no msg q here body)

    -- ## What is known of the entry

    executed_known : (i : ℕ) (o : Option Message) → m.said i ≡ o → MessageKnown new n k g m v b f heads o
    executed_known i None is = tt
    executed_known i (Some msg) is = body msg.body refl
      where
        number : msg.no ≡ i
        number = (known.messages.number i msg is).0

        said : m.said msg.no ≡ Some msg
        said = ap m.said number ∙ is

        body : (z : Body) → msg.body ≡ z → BodyKnown new n k g m v b f heads msg z
        body (ToClient re reply) own = tt
        body (ToBrick q) own =
            let fair = at.fair i msg q is own in
            record {
              whole = fair.whole;
              unmarking = unmarking g m.said v.of v.core.moment msg.call msg.brick i q (known.sound i msg q is own);
              no_page = fair.no_page;
              has = λ w. have.has (v.of msg.no) (have.sent msg.no msg q said own w).0;
              planned = λ w. (have.sent msg.no msg q said own w).0;
              made = λ w. let o = have.sent msg.no msg q said own w in ap b.given (sym (known.messages.caller msg.no msg said o.1)) ∙ (have.has (v.of msg.no) o.0).made;
              names = λ given made. fair.names given (given_last geometry left none (e ∷ rest) m t b at.runs at.plain known.numbers msg.call given made);
              fresh = λ given made. (known.numbers.given_below msg.call given made).1.none_kept;
            }

    torn_known : (i : ℕ) (o : Option Message) → m.said i ≡ o → MessageWhole of_directory o
    torn_known i None is = tt
    torn_known i (Some msg) is = body msg.body refl
      where
        body : (z : Body) → msg.body ≡ z → BodyWhole of_directory z
        body (ToClient re reply) own = tt
        body (ToBrick q) own = (at.fair i msg q is own).whole

    entry_known : (x : Entry) → e ≡ x → EntryKnown new n k g m v b f heads x
    entry_known (Sent msg) is = body msg.body refl
      where
        body : (z : Body) → msg.body ≡ z → SentKnown new n k g m v b f heads msg z
        body (ToClient re reply) own = tt
        body (ToBrick q) own = λ w unplanned. let given = given_of msg q is own in (given.0, group_shape given.0 (b.own msg.call) g, subst (λ (y : Entry). (chosen_at g v b f y old).plan (turn_of g v msg) ≡ name_plan given.0 (group_shape given.0 (b.own msg.call) g)) (sym is) (plan_is g v b f old msg given.0 given.1 unplanned))
    entry_known (Executed i version failed) is = executed_known i (m.said i) refl
    entry_known (Torn i count version) is = torn_known i (m.said i) refl
    entry_known x is = tt

    -- ## The plans

    agree : Agree f old new
    agree = by e
      where
        skip : {X : Type 0} (t u : Bool) (x y : X) → u ≡ false → cond (t && u) x y ≡ y
        skip true u x y h = ap (λ (w : Bool). cond w x y) h
        skip false u x y h = refl

        positive : (x : ℕ) → 0 < x → (x == 0) ≡ false
        positive x lt = grind (arith, nat_tests)

        sent : (msg : Message) (o : Option Given) → Agree f old (chosen_by g v b f msg o old)
        sent msg None = record { took = λ a h. refl; plan = λ a h. refl }
        sent msg (Some given) = record {
          took = λ a h. skip (a == turn_of g v msg) ((f.heads.ballot a).number == 0) (group_shape given (b.own msg.call) g) (old.took a) (positive (f.heads.ballot a).number h);
          plan = λ a h. skip (a == turn_of g v msg) (not (f.planned a)) (name_plan given (group_shape given (b.own msg.call) g)) (old.plan a) (ap not h);
        }

        by : (x : Entry) → Agree f old (chosen_at g v b f x old)
        by (Sent msg) = sent msg (b.given msg.call)
        by x = record { took = λ a h. refl; plan = λ a h. refl }

    fits : EntryFits of_directory new g m v b f e
    fits = by e refl
      where
        made : (q : Request) → MakesDirectory g q → BodyFits of_directory new g (ToBrick q)
        made (Make x i child) h = λ on. ap (λ (kind : Kind). record { size = 0; attr = new_attr kind }) (sym (h on))
        made q h = tt

        message : (i : ℕ) (o : Option Message) → m.said i ≡ o → MessageFits of_directory new g o
        message i None is = tt
        message i (Some msg) is = body msg.body refl
          where
            body : (z : Body) → msg.body ≡ z → BodyFits of_directory new g z
            body (ToClient re reply) own = tt
            body (ToBrick q) own = made q (at.fair i msg q is own).made

        by : (x : Entry) → e ≡ x → EntryFits of_directory new g m v b f x
        by (Sent msg) is = body msg.body refl
          where
            body : (z : Body) → msg.body ≡ z → SentFits of_directory new g v b f msg z
            body (ToClient re reply) own = tt
            body (ToBrick q) own = let given = given_of msg q is own in subst (λ (y : Entry). SentFits of_directory (chosen_at g v b f y old) g v b f msg (ToBrick q)) (sym is) (sent_fits g v b f old msg given.0 given.1 heads (ToBrick q))
        by (Executed i version failed) is = message i (m.said i) refl
        by x is = tt

    -- the plans after the entry
    have_then : HavePlans g (net_after m e) (seen_after g m v e) c (file_after of_directory new n k g m v f e)
    have_then = by e refl stay
      where
        Then : Entry → Type 0
        Then x = HavePlans g (net_after m x) (seen_after g m v x) (booked geometry left m t b x) (file_after of_directory new n k g m v f x)

        plain_have : (x : Entry) → PlanNone (data_deeds of_directory new n k g m v f x) → Stays m (net_after m x) b (booked geometry left m t b x) → (net_after m x).said ≡ m.said → (seen_after g m v x).of ≡ v.of → Then x
        plain_have x nothing s said of = have_same new n k g m v b (booked geometry left m t b x) f have x nothing s said of

        by : (x : Entry) → e ≡ x → Stays m (net_after m x) b (booked geometry left m t b x) → Then x
        by (Sent msg) is s = body msg.body refl
          where
            more : Adds m.said (net_after m (Sent msg)).said v.of (seen_after g m v (Sent msg)).of msg.no msg
            more = adds geometry.n g m v msg (subst (λ (x : Entry). MayEnter geometry.n m x) is at.runs.0).0 known.messages

            body : (z : Body) → msg.body ≡ z → Then (Sent msg)
            body (ToClient re reply) own = have_reply new n k g m v b (booked geometry left m t b (Sent msg)) f have msg s more re reply own
            body (ToBrick q) own = let given = given_of msg q is own in have_request new n k g m v b (booked geometry left m t b (Sent msg)) f have msg s more given.0 (group_shape given.0 (b.own msg.call) g) q own given.1 (λ unplanned. subst (λ (y : Entry). (chosen_at g v b f y old).plan (turn_of g v msg) ≡ name_plan given.0 (group_shape given.0 (b.own msg.call) g)) (sym is) (plan_is g v b f old msg given.0 given.1 unplanned)) (turn_known msg q is own)
        by (Called a client op) is s = plain_have (Called a client op) tt s refl (made_same g v a op).1
        by (Executed i version failed) is s = plain_have (Executed i version failed) (none_executed of_directory new n k g m v f (m.said i) version failed) s (executed_same m (m.said i) version failed).0 refl
        by (Heard i) is s = plain_have (Heard i) tt s (heard_same m (m.said i)).0 refl
        by (Torn i count version) is s = plain_have (Torn i count version) (none_torn of_directory new n k g m v (m.said i) count version) s (torn_same m (m.said i) count version).0 refl
        by (Lost i) is s = plain_have (Lost i) tt s refl refl
        by (GivenUp client brick i) is s = plain_have (GivenUp client brick i) tt s refl refl
        by (Stopped x) is s = plain_have (Stopped x) tt s refl refl
        by (Returned x) is s = plain_have (Returned x) tt s refl refl
        by (Cut client x) is s = plain_have (Cut client x) tt s refl refl
        by (Died client) is s = plain_have (Died client) tt s refl refl
        by (Yielded client) is s = plain_have (Yielded client) tt s refl refl
        by (Answered a answer) is s = plain_have (Answered a answer) tt s refl refl
        by (Replaced x removed all) is s = plain_have (Replaced x removed all) tt s refl refl

    -- So the entry owes nothing by them.
    owes_now : EntryGuarded g m v e → EntryWrites of_directory g m v b f e → AllOweShape of_directory.form n k (deeds of_directory new n k g m v f e) f → AllOwe of_directory.form n k (deeds of_directory new n k g m v f e) f
    owes_now guarded writes shape = entry_owes new n k g m v b f heads e (entry_known e refl) guarded writes shape

    coded_now : EntryCoded of_directory g m v f e
    coded_now = entry_coded new n k g m v b f heads e (entry_known e refl)

-- ## A log

module _ (writes : WriteLaws) (shapes : ShapeLaw) (config : Config) (records : ℕ → Records) (bricks : ℕ → Brick) (tree : Tree) (next g : ℕ) (all : List Entry) (start : IsStart config records bricks tree next) (runs : IsRun config.geometry.n all (fresh bricks)) (plain : ArePlain all) (orderly : IsOrderly config.geometry all (fresh bricks) (opening tree next)) (data_first : Always DataBeforePosts g all (fresh bricks) (begun config records tree next g)) (own : SetOwnNames (books config.geometry orderly.left all (fresh bricks) (opening tree next) no_books)) (whole : EachRequest IsWhole all) (made : EachRequest (MakesDirectory g) all) where
  abbrev n : ℕ
  n = config.geometry.n

  abbrev k : ℕ
  k = quorum config.geometry

  abbrev m0 : Net
  m0 = fresh bricks

  abbrev v0 : View
  v0 = begun config records tree next g

  abbrev f0 : NameFile
  f0 = directory_begun config records tree g

  abbrev left : ℕ → Leaving
  left = orderly.left

  abbrev books_at : List Entry → Books
  books_at es = books config.geometry left es m0 (opening tree next) no_books

  abbrev machine_at : NamePlans → List Entry → NameFile
  machine_at plans es = file of_directory plans n k g es m0 v0 f0

  most : n < k + k
  most = let h = config.geometry.majority in omega (arith, h)

  begun_heads : f0.heads ≡ v0.core
  begun_heads = refl

  first_moment : AtMoment config.geometry left orderly.none_kept g next (λ h. (tree h).version) all m0 (λ h. begun config records tree next h) (opening tree next) no_books
  first_moment = record {
    runs = runs;
    plain = plain;
    kept = λ a given h. (orderly.conduct a given h, orderly.order a given h);
    own = own;
    whole = whole;
    made = made;
    reaches = reaches_start config records bricks tree next (λ a. a) most start;
    fair = λ i x q is body. absurd (some_none x (sym is));
  }

  acts : ActsRun n k g all m0 v0
  acts = acts_run config records bricks tree next g all start runs plain orderly

  -- the plans fit, and each turn that has planned has its call's plan
  abbrev Keeps : NamePlans → List Entry → Type 0
  Keeps plans es = AllFit of_directory plans g n k config.geometry left es m0 v0 (opening tree next) no_books f0 × HavePlans g (run es m0) (view g es m0 v0) (books_at es) (machine_at plans es)

  first_plans : NamePlans
  first_plans = record { took = λ a. record { size = 0; attr = new_attr Dir }; plan = λ a. record { covers = λ p. false; sets = λ p i. None; value = λ p. None; becomes = record { size = 0; attr = new_attr Dir } } }

  first_keeps : Keeps first_plans []
  first_keeps = (tt, record { has = λ a h. absurd (cc); sent = λ i x q is body w. absurd (some_none x (sym is)) })

  extend : (es : List Entry) (e : Entry) (rest : List Entry) → all ≡ es ++ e ∷ rest → (old : NamePlans) → OweNothing of_directory n k g m0 v0 f0 old es → Keeps old es → (new : NamePlans) × GoesOn of_directory n k g m0 v0 f0 es e old new × Keeps new (es ++ e ∷ [])
  extend es e rest parts old owes keeps = (
    plans,
    record {
      agree = agrees;
      owe = owes_now config.geometry left orderly.none_kept next (λ h. (tree h).version) origins n k g refl e rest m vs t b there f heads keeps.1 old
          (guarded_front g es e rest m0 v0 (subst (λ (xs : List Entry). AllGuarded g xs m0 v0) parts (writes.guarded config records bricks tree next g all start runs plain orderly data_first)))
          (writes_front old config.geometry left n k g es e rest m0 v0 (opening tree next) no_books f0 (subst (λ (xs : List Entry). AllWrite of_directory old config.geometry left n k g xs m0 v0 (opening tree next) no_books f0) parts (writes.written old config records bricks tree next g all f0 start runs plain orderly data_first)))
          (subst (λ (z : NameFile). AllOweShape of_directory.form n k (deeds of_directory plans n k g m (vs g) z e) z) same
          (shapes plans config records bricks tree next g all es e rest parts start runs plain orderly (same_owed of_directory n k g m0 v0 f0 begun_heads es old plans front agrees owes) fit (subst (λ (z : NameFile). EntryFits of_directory plans g m (vs g) b z e) (sym same) fits_now)));
      coded = coded_now config.geometry left orderly.none_kept next (λ h. (tree h).version) origins n k g refl e rest m vs t b there f heads keeps.1 old;
    },
    (
      fits_last of_directory plans n k g config.geometry left e es m0 v0 (opening tree next) no_books f0 fit (subst (λ (z : NameFile). EntryFits of_directory plans g m (vs g) b z e) (sym same) fits_now),
      last_entry plans config.geometry left n k g (HavePlans g) e es m0 v0 (opening tree next) no_books f0
          (subst (λ (z : NameFile). HavePlans g (net_after m e) (seen_after g m (vs g) e) (booked config.geometry left m t b e) (file_after of_directory plans n k g m (vs g) z e)) (sym same)
          (have_then config.geometry left orderly.none_kept next (λ h. (tree h).version) origins n k g refl e rest m vs t b there f heads keeps.1 old)),
    ),
  )
    where
      m : Net
      m = run es m0

      vs : ℕ → View
      vs h = view h es m0 (begun config records tree next h)

      t : Story
      t = story config.geometry es m0 (opening tree next)

      b : Books
      b = books_at es

      f : NameFile
      f = machine_at old es

      heads : f.heads ≡ (vs g).core
      heads = log_heads of_directory old n k g es m0 v0 f0 begun_heads

      origins : (h : ℕ) → next ≤ h → (tree h).version ≡ 0
      origins h le = unversioned config records bricks tree next h start le

      there : AtMoment config.geometry left orderly.none_kept g next (λ h. (tree h).version) (e ∷ rest) m vs t b
      there = moment config.geometry left orderly.none_kept g next (λ h. (tree h).version) origins es (e ∷ rest) m0 (λ h. begun config records tree next h) (opening tree next) no_books (subst (λ (xs : List Entry). AtMoment config.geometry left orderly.none_kept g next (λ h. (tree h).version) xs m0 (λ h. begun config records tree next h) (opening tree next) no_books) parts first_moment)

      plans : NamePlans
      plans = chosen_at g (vs g) b f e old

      agrees : Agree f old plans
      agrees = agree config.geometry left orderly.none_kept next (λ h. (tree h).version) origins n k g refl e rest m vs t b there f heads keeps.1 old

      front : ActsRun n k g es m0 v0
      front = runs_front n k g es (e ∷ rest) m0 v0 (subst (λ (xs : List Entry). ActsRun n k g xs m0 v0) parts acts)

      same : machine_at plans es ≡ f
      same = same_file of_directory old plans n k g es m0 v0 f0 begun_heads front agrees

      fit : AllFit of_directory plans g n k config.geometry left es m0 v0 (opening tree next) no_books f0
      fit = same_fits of_directory old plans n k g config.geometry left es m0 v0 (opening tree next) no_books f0 begun_heads front agrees keeps.0

      fits_now : EntryFits of_directory plans g m (vs g) b f e
      fits_now = fits config.geometry left orderly.none_kept next (λ h. (tree h).version) origins n k g refl e rest m vs t b there f heads keeps.1 old

  pub are_named : AreNamed config records bricks tree next g left all
  are_named =
      let o = extended of_directory n k g m0 v0 f0 begun_heads Keeps all acts extend first_plans first_keeps all [] (sym (append_none all)) in
      record { plans = o.0; owes = o.1; have = o.2.1; held = held_laws.of_names o.0 config records bricks tree next g all start runs plain orderly o.1.owe o.1.coded }
    where
      append_none : (xs : List Entry) → xs ++ [] ≡ xs
      append_none [] = refl
      append_none (x ∷ xs) = ap (λ (ys : List Entry). x ∷ ys) (append_none xs)

pub named_logs : NamedInEveryLog
named_logs writes shapes config records bricks tree next g es start runs plain orderly data_first own made = are_named writes shapes config records bricks tree next g es start runs plain orderly data_first own (run_whole config.geometry.n es (fresh bricks) runs) made
