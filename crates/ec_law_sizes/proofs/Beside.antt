-- The machine without data beside one with them, for plans by which Takes and Creates owe nothing: it keeps the clauses of pieces, entry
-- by entry.
use Rattle.std.proofs.Common.{◌≡◌, ℕ, ◌+◌, ◌<◌, Bool, true, false, not, cond, ◌&&◌, ◌||◌, Option, Some, None, List, [], ◌∷◌, ◌++◌, map, refl, sym, ◌∙◌, ap, subst, arith, ⊎_elim}
use Rattle.std.specs.Prelude.{is_some}
use Rattle.ec_attr.specs.declared.geometry.Geometry.{Geometry}
use Rattle.ec_attr.specs.declared.kind.Domain.TheVariants.{Inode}
use Rattle.ec_wire.specs.declared.entry.Entry.{Entry}
use Rattle.ec_wire.specs.declared.entry.Entry.TheVariants.{Called, Sent, Executed, Heard, Lost, GivenUp, Stopped, Returned, Cut, Died, Yielded, Torn, Answered, Replaced}
use Rattle.ec_wire.specs.declared.message.Body.{Body}
use Rattle.ec_wire.specs.declared.message.Body.TheVariants.{ToBrick, ToClient}
use Rattle.ec_wire.specs.declared.message.Message.{Message}
use Rattle.ec_wire.specs.declared.request.Request.{Request}
use Rattle.ec_wire.specs.declared.request.Request.TheVariants.{PostOp}
use Rattle.ec_brick.specs.Step.{cut_off}
use Rattle.ec_conduct.specs.Given.{quorum}
use Rattle.ec_history.specs.Accounts.{Books, Leaving, booked}
use Rattle.ec_history.specs.IsRun.{May as MayEnter}
use Rattle.ec_history.specs.Run.{Net, after as net_after, out_of, wiped}
use Rattle.ec_history.specs.Story.{Story, is_done}
use Rattle.ec_law_base.specs.State.{State}
use Rattle.ec_law_ballots.specs.Act.{Act, after as after_acts}
use Rattle.ec_law_ballots.specs.Act.Act.{Replace, Stop}
use Rattle.ec_law_ballots.specs.Guard.{Runs}
use Rattle.ec_law_ballots.specs.Words.{met}
use Rattle.ec_law_pieces.specs.Deed.{Deed, Runs as DeedsRun, after as after_deeds, step}
use Rattle.ec_law_pieces.specs.Deed.Deed.{Intend, Read}
use Rattle.ec_law_pieces.specs.File.{File, Form}
use Rattle.ec_law_pieces.proofs.Runs.{both_after}
use Rattle.ec_law_net.specs.Turns.{View, acts, acts_executed, acts_locks, acts_of_request, acts_sent, acts_torn, acts_worked, counted, exclusive, seen_after, turn_of}
use Rattle.ec_law_net.proofs.GrantEntries.{real_turn}
use Rattle.ec_law_turns.specs.Reached.{Reached}
use Rattle.ec_law_turns.specs.Told.{Told}
use Rattle.ec_law_quorum.specs.Wide.{Inv}
use Rattle.ec_law_pieces.specs.Clauses.{Good}
use Rattle.ec_law_turns.proofs.Basics.{equal, put_here}
use Rattle.ec_law_turns.proofs.Sends.{adds}
use Rattle.ec_law_turns.proofs.Steps.{executed_same, heard_same, made_same, torn_same}
use Rattle.ec_law_turns.proofs.Tracks.{Adds}
use Rattle.ec_law_data.specs.Deeds.{deeds, deeds_done, deeds_executed, deeds_of_torn, deeds_of_request, deeds_sent, deeds_torn, dressed, file_after, is_at_base, is_post_on, shows}
use Rattle.ec_law_data.specs.Forms.{Shape}
use Rattle.ec_law_data.specs.Owing.{AllOwe}
use Rattle.ec_law_data.specs.Reading.{Plans, Reading}
use Rattle.ec_law_data.proofs.Cores.{deeds_both}
use Rattle.ec_law_data.proofs.OrderlyDeeds.{unmarking}
use Rattle.ec_law_data.proofs.Planning.{post_met}
use Rattle.ec_law_data.proofs.Settling.{BodyTorn, BodyWritten, EntryKnown, MessageKnown, MessageTorn, MessageWritten, PlanKnown, PostKnown, entry_come, entry_plans, newly_planned}
use Rattle.ec_law_shapes.specs.Fitting.{AllOweShape}
use Rattle.ec_law_shapes.specs.Shadows.{Bare, IsShadow, bare_form, of_shapes}
use Rattle.ec_law_shapes.proofs.Moving.{works}
use Rattle.ec_law_shapes.proofs.Quiet.{Same, calm_if, calm_locks, request_keeps, same_itself, torn_keeps}
use Rattle.ec_law_shapes.proofs.Shadowing.{ArePlanned, acts_go, bare_plans, calm_planned, planned_both, same_shadow, sent_goes, sent_planned, work_planned}

-- what is owed after deeds that came before
owe_after : {P V C U S : Type 0} (form : Form P V C U S) (n k : ℕ) (xs ys : List (Deed P V C U S)) (f : File P V C U S) → AllOweShape form n k (xs ++ ys) f → AllOweShape form n k ys (after_deeds form n k xs f)
owe_after form n k [] ys f h = h
owe_after form n k (x ∷ xs) ys f h = owe_after form n k xs ys (step form n k f x) h.1

owe_join : {P V C U S : Type 0} (form : Form P V C U S) (n k : ℕ) (xs ys : List (Deed P V C U S)) (f : File P V C U S) → AllOwe form n k xs f → AllOwe form n k ys (after_deeds form n k xs f) → AllOwe form n k (xs ++ ys) f
owe_join form n k [] ys f h i = i
owe_join form n k (x ∷ xs) ys f h i = (h.0, owe_join form n k xs ys (step form n k f x) h.1 i)

-- It has the heads and the shapes of the other, and its clauses. Each turn counts as a call of its own, and has planned by its first PostOp.
pub record Beside {P V C U : Type 0} (n k g : ℕ) (m : Net) (v : View) (f : File P V C U Shape) (s : Bare) : Type 0 where
  pub is : IsShadow f s
  pub inv : Inv n k s.heads
  pub good : Good bare_form n k s
  pub call : (a : ℕ) → s.heads.call a ≡ a
  pub own : (a : ℕ) → s.writes a ≡ s.planned a
  pub posted : (i : ℕ) (x : Message) (q : Request) → m.said i ≡ Some x → x.body ≡ ToBrick q → is_post_on g q ≡ true → s.planned (v.of i) ≡ true

-- a PostOp that goes out finds its turn with a ballot
post_number : (n k g : ℕ) (said : ℕ → Option Message) (of : ℕ → ℕ) (s : State) (t a b : ℕ) (q : Request) → is_post_on g q ≡ true → Told n k g said of (after_acts (acts_sent g s t (ToBrick q)) s) a b q → 0 < (s.ballot a).number
post_number n k g said of s t a b (PostOp x i at version size attr) on told = (told (equal x.0 g on)).ballot
post_number n k g said of s t a b q on told = absurd (cc)

module _ {P V C U : Type 0} (R : Reading P V C U Shape) (plans : Plans P V U Shape) (geometry : Geometry) (g : ℕ) (left : ℕ → Leaving) (m : Net) (v : View) (t : Story) (b : Books) (f : File P V C U Shape) (s : Bare) (r : Reached geometry g m v b) (heads : f.heads ≡ v.core) (sh : Beside geometry.n (quorum geometry) g m v f s) where
  abbrev n : ℕ
  n = geometry.n

  abbrev k : ℕ
  k = quorum geometry

  most : geometry.n < quorum geometry + quorum geometry
  most = let z = geometry.majority in omega (arith, z)

  abbrev pub R0 : Reading ⊥ (Unit {0}) (Unit {0}) (Unit {0}) Shape
  R0 = of_shapes R.new

  abbrev pub P0 : Plans ⊥ (Unit {0}) (Unit {0}) Shape
  P0 = bare_plans plans f

  pub core : s.heads ≡ v.core
  core = sh.is.heads ∙ heads

  -- ## Data

  pub no_request : (msg : Message) (z : Body) (version : Option ℕ) (failed : Bool) → deeds_of_request R0 P0 n k g m v s msg z version failed ≡ []
  no_request msg (ToBrick q) None true = refl
  no_request msg (ToBrick q) (Some x) true = refl
  no_request msg (ToBrick q) version false = by (is_done (out_of m msg q version false).says) (shows (out_of m msg q version false).says)
    where
      by : (t u : Bool) → cond t (cond false (deeds_done R0 P0 n k g (v.of msg.no) msg.brick q (m.brick msg.brick) (out_of m msg q version false).brick) []) (cond (u && false && is_at_base s.heads (v.of msg.no) msg.brick) (Read (v.of msg.no) msg.brick (R0.reads g q) ∷ []) []) ≡ []
      by true u = refl
      by false true = refl
      by false false = refl
  no_request msg (ToClient re reply) version failed = refl

  pub no_executed : (o : Option Message) (version : Option ℕ) (failed : Bool) → deeds_executed R0 P0 n k g m v s o version failed ≡ []
  no_executed None version failed = refl
  no_executed (Some msg) version failed = no_request msg msg.body version failed

  pub no_torn : (o : Option Message) (count : ℕ) (version : Option ℕ) → deeds_torn R0 P0 n k g m v o count version ≡ []
  no_torn None count version = refl
  no_torn (Some msg) count version = body msg.body version
    where
      body : (z : Body) (version : Option ℕ) → deeds_of_torn R0 P0 n k g m v msg z count version ≡ []
      body (ToBrick q) None = refl
      body (ToBrick q) (Some x) = refl
      body (ToClient re reply) version = refl

  executed_keeps : (o : Option Message) (version : Option ℕ) (failed : Bool) → Same f (after_deeds R.form n k (deeds_executed R plans n k g m v f o version failed) f) × ((after_deeds R.form n k (deeds_executed R plans n k g m v f o version failed) f).heads ≡ f.heads)
  executed_keeps None version failed = (same_itself f, refl)
  executed_keeps (Some msg) version failed = request_keeps R plans n k g f m v msg msg.body version failed

  -- ## Deeds

  abbrev Along : List (Deed P V C U Shape) → List (Deed ⊥ (Unit {0}) (Unit {0}) (Unit {0}) Shape) → Type 0
  Along ds ds0 = IsShadow (after_deeds R.form n k ds f) (after_deeds bare_form n k ds0 s) × AllOwe bare_form n k ds0 s

  -- data of the machine alone, and then acts
  beside : (ds : List (Deed P V C U Shape)) (ds0 : List (Deed ⊥ (Unit {0}) (Unit {0}) (Unit {0}) Shape)) (es : List Act) → ds0 ≡ [] → Same f (after_deeds R.form n k ds f) × ((after_deeds R.form n k ds f).heads ≡ f.heads) → ArePlanned s.planned es → AllOweShape R.form n k (ds ++ map (dressed R plans n k g) es) f → Along (ds ++ map (dressed R plans n k g) es) (ds0 ++ map (dressed R0 P0 n k g) es)
  beside ds ds0 es none keeps planned owe =
      let f1 = after_deeds R.form n k ds f in
      let o = acts_go R plans P0 n k g (λ a. refl) es f1 s (same_shadow f f1 s keeps.0 keeps.1 sh.is) planned (owe_after R.form n k ds (map (dressed R plans n k g) es) f owe) in
      subst (λ (x : List (Deed ⊥ (Unit {0}) (Unit {0}) (Unit {0}) Shape)). Along (ds ++ map (dressed R plans n k g) es) (x ++ map (dressed R0 P0 n k g) es)) (sym none)
      (subst (λ (x : File P V C U Shape). IsShadow x (after_deeds bare_form n k (map (dressed R0 P0 n k g) es) s)) (sym (deeds_both R.form n k ds (map (dressed R plans n k g) es) f)) o.0, o.1)

  -- a message, by which both may plan
  beside_sent : (a : ℕ) (z : Body) → AllOweShape R.form n k (deeds_sent R plans n k g f a z ++ map (dressed R plans n k g) (acts_sent g v.core a z)) f → Along (deeds_sent R plans n k g f a z ++ map (dressed R plans n k g) (acts_sent g v.core a z)) (deeds_sent R0 P0 n k g s a z ++ map (dressed R0 P0 n k g) (acts_sent g v.core a z))
  beside_sent a z owe =
      let es = acts_sent g v.core a z in
      let ds = deeds_sent R plans n k g f a z in
      let ds0 = deeds_sent R0 P0 n k g s a z in
      let f1 = after_deeds R.form n k ds f in
      let s1 = after_deeds bare_form n k ds0 s in
      let o = acts_go R plans P0 n k g (λ a. refl) es f1 s1 (sent_goes R plans n k g a f s sh.is z) (sent_planned s1.planned g v.core a z) (owe_after R.form n k ds (map (dressed R plans n k g) es) f owe) in (
        subst (λ (x : File P V C U Shape). IsShadow x (after_deeds bare_form n k (ds0 ++ map (dressed R0 P0 n k g) es) s)) (sym (deeds_both R.form n k ds (map (dressed R plans n k g) es) f)) (subst (λ (x : Bare). IsShadow (after_deeds R.form n k (map (dressed R plans n k g) es) f1) x) (sym (deeds_both bare_form n k ds0 (map (dressed R0 P0 n k g) es) s)) o.0),
        owe_join bare_form n k ds0 (map (dressed R0 P0 n k g) es) s (plan_owes z) o.1,
      )
    where
      one : (t : Bool) → AllOwe bare_form n k (cond t (Intend a (P0.plan a) ∷ []) []) s
      one true = (record { sets = λ p. absurd p; keeps = λ p. absurd p; zero = λ p. absurd p; grows = λ p. absurd p }, tt)
      one false = tt

      plan_owes : (z : Body) → AllOwe bare_form n k (deeds_sent R0 P0 n k g s a z) s
      plan_owes (ToBrick q) = one ((false || is_post_on g q) && not (s.planned a))
      plan_owes (ToClient re reply) = tt

  -- ## Entries

  module _ (e : Entry) (may : MayEnter geometry.n m e) (runs : Runs n k (acts g m v e) v.core) (r' : Reached geometry g (net_after m e) (seen_after g m v e) (booked geometry left m t b e)) (owe : AllOweShape R.form n k (deeds R plans n k g m v f e) f) where
    -- a turn of which a PostOp was sent has planned
    posted_planned : (i : ℕ) (msg : Message) (q : Request) → m.said i ≡ Some msg → msg.body ≡ ToBrick q → is_post_on g q ≡ true → s.planned (v.of msg.no) ≡ true
    posted_planned i msg q is body on = subst (λ (j : ℕ). s.planned (v.of j) ≡ true) (sym (r.known.messages.number i msg is).0) (sh.posted i msg q is body on)

    request_planned : (i : ℕ) (msg : Message) (q : Request) (version : Option ℕ) (failed : Bool) → m.said i ≡ Some msg → msg.body ≡ ToBrick q → ArePlanned s.planned (acts_of_request g m v msg (ToBrick q) version failed)
    request_planned i msg q version failed is body =
        let says = (out_of m msg q version failed).says in
        let holder = counted v.core (v.of msg.no) (exclusive g Inode (m.brick msg.brick).asks) in
        planned_both s.planned (acts_worked g (v.of msg.no) msg.brick holder q says) (acts_locks g m v msg.brick (m.brick msg.brick).asks (out_of m msg q version failed).brick.asks)
        (work_planned s.planned g (v.of msg.no) msg.brick q says (acts_worked g (v.of msg.no) msg.brick holder q says) (works g (v.of msg.no) msg.brick says holder q (unmarking g m.said v.of v.core.moment msg.call msg.brick i q (r.known.sound i msg q is body))) (posted_planned i msg q is body))
        (calm_planned s.planned (acts_locks g m v msg.brick (m.brick msg.brick).asks (out_of m msg q version failed).brick.asks) (calm_locks g m v msg.brick (m.brick msg.brick).asks (out_of m msg q version failed).brick.asks))

    executed_planned : (i : ℕ) (version : Option ℕ) (failed : Bool) → ArePlanned s.planned (acts_executed g m v (m.said i) version failed)
    executed_planned i version failed = message (m.said i) refl
      where
        message : (o : Option Message) → m.said i ≡ o → ArePlanned s.planned (acts_executed g m v o version failed)
        message None is = tt
        message (Some msg) is = body msg.body refl
          where
            body : (z : Body) → msg.body ≡ z → ArePlanned s.planned (acts_of_request g m v msg z version failed)
            body (ToClient re reply) z = tt
            body (ToBrick q) z = request_planned i msg q version failed is z

    torn_planned : (o : Option Message) → ArePlanned s.planned (acts_torn o)
    torn_planned None = tt
    torn_planned (Some msg) = (tt, tt)

    nothing : Same f f × (f.heads ≡ f.heads)
    nothing = (same_itself f, refl)

    by_entry : (x : Entry) → AllOweShape R.form n k (deeds R plans n k g m v f x) f → Along (deeds R plans n k g m v f x) (deeds R0 P0 n k g m v s x)
    by_entry (Sent msg) o = beside_sent (turn_of g v msg) msg.body o
    by_entry (Executed i version failed) o = beside (deeds_executed R plans n k g m v f (m.said i) version failed) (deeds_executed R0 P0 n k g m v s (m.said i) version failed) (acts_executed g m v (m.said i) version failed) (no_executed (m.said i) version failed) (executed_keeps (m.said i) version failed) (executed_planned i version failed) o
    by_entry (Torn i count version) o = beside (deeds_torn R plans n k g m v (m.said i) count version) (deeds_torn R0 P0 n k g m v (m.said i) count version) (acts_torn (m.said i)) (no_torn (m.said i) count version) (torn_keeps R plans n k g f m v (m.said i) count version) (torn_planned (m.said i)) o
    by_entry (Called a client op) o = (sh.is, tt)
    by_entry (Heard i) o = (sh.is, tt)
    by_entry (Lost i) o = (sh.is, tt)
    by_entry (GivenUp client brick i) o = (sh.is, tt)
    by_entry (Returned x) o = (sh.is, tt)
    by_entry (Died client) o = (sh.is, tt)
    by_entry (Yielded client) o = (sh.is, tt)
    by_entry (Answered x answer) o = (sh.is, tt)
    by_entry (Stopped x) o = beside [] [] (Stop x ∷ []) refl nothing (tt, tt) o
    by_entry (Cut client x) o = beside [] [] (acts_locks g m v x (m.brick x).asks (cut_off (m.brick x) client).brick.asks) refl nothing (calm_planned s.planned (acts_locks g m v x (m.brick x).asks (cut_off (m.brick x) client).brick.asks) (calm_locks g m v x (m.brick x).asks (cut_off (m.brick x) client).brick.asks)) o
    by_entry (Replaced x removed all) o = beside [] [] (acts g m v (Replaced x removed all)) refl nothing (calm_planned s.planned (acts g m v (Replaced x removed all)) (calm_if (is_some ((m.brick x).records g) && not (is_some (wiped removed all (m.brick x).records g))) (Replace x ∷ []) [] (refl, tt) tt)) o

    -- ## What the shadow knows of messages

    message_known : (i : ℕ) (o : Option Message) → m.said i ≡ o → MessageKnown R0 P0 n k g m v s o
    message_known i None is = tt
    message_known i (Some msg) is = body msg.body refl
      where
        body : (z : Body) → msg.body ≡ z → PostKnown R0 P0 n k g m v s msg z
        body (ToClient re reply) z = tt
        body (ToBrick q) z = (
          unmarking g m.said v.of v.core.moment msg.call msg.brick i q (r.known.sound i msg q is z),
          λ on. (posted_planned i msg q is z on, ap (λ (x : State). met x (v.of msg.no) msg.brick) core ∙ subst (λ (j : ℕ). met v.core (v.of j) msg.brick ≡ true) (sym (r.known.messages.number i msg is).0) (post_met n k g m v r.once r.shown.asked r.known.sound i msg q is z on)),
        )

    message_written : (o : Option Message) (version : Option ℕ) (failed : Bool) → MessageWritten R0 P0 n k g m v s o version failed
    message_written None version failed = tt
    message_written (Some msg) version failed = body msg.body version failed
      where
        body : (z : Body) (version : Option ℕ) (failed : Bool) → BodyWritten R0 P0 n k g m v s msg z version failed
        body (ToBrick q) None true = tt
        body (ToBrick q) (Some x) true = λ w. absurd (cc)
        body (ToBrick q) version false = λ w. absurd (cc)
        body (ToClient re reply) version failed = tt

    message_torn : (o : Option Message) (version : Option ℕ) → MessageTorn R0 P0 n k g m v s o version
    message_torn None version = tt
    message_torn (Some msg) version = body msg.body version
      where
        body : (z : Body) (version : Option ℕ) → BodyTorn R0 P0 n k g m v s msg z version
        body (ToBrick q) None = tt
        body (ToBrick q) (Some x) = λ w. absurd (cc)
        body (ToClient re reply) version = tt

    plan_known : (msg : Message) → e ≡ Sent msg → PlanKnown R0 P0 n k g m v s msg msg.body
    plan_known msg is = body msg.body refl
      where
        may' : MayEnter n m (Sent msg)
        may' = subst (λ (z : Entry). MayEnter n m z) is may

        told : (q : Request) → msg.body ≡ ToBrick q → Told geometry.n (quorum geometry) g (net_after m (Sent msg)).said (seen_after g m v (Sent msg)).of (after_acts (acts_sent g v.core (turn_of g v msg) (ToBrick q)) v.core) (turn_of g v msg) msg.brick q
        told q body =
            subst (λ (y : Body). Told geometry.n (quorum geometry) g (net_after m (Sent msg)).said (seen_after g m v (Sent msg)).of (after_acts (acts_sent g v.core (turn_of g v msg) y) v.core) (turn_of g v msg) msg.brick q) body
            (subst (λ (u : ℕ). Told geometry.n (quorum geometry) g (net_after m (Sent msg)).said (seen_after g m v (Sent msg)).of (seen_after g m v (Sent msg)).core u msg.brick q) (put_here v.of msg.no (turn_of g v msg) msg.no refl) ((subst (λ (z : Entry). Reached geometry g (net_after m z) (seen_after g m v z) (booked geometry left m t b z)) is r').shown.asked msg.no msg q (put_here m.said msg.no (Some msg) msg.no refl) body))

        body : (z : Body) → msg.body ≡ z → PlanKnown R0 P0 n k g m v s msg z
        body (ToClient re reply) z = tt
        body (ToBrick q) z = λ w. (
          subst (λ (x : State). 0 < (x.ballot (turn_of g v msg)).number) (sym core) (post_number n k g (net_after m (Sent msg)).said (seen_after g m v (Sent msg)).of v.core (turn_of g v msg) (turn_of g v msg) msg.brick q w (told q z)),
          ap (λ (x : State). x.old (turn_of g v msg)) core ∙ real_turn n g m v msg r.linked r.locks may'.0,
        )

    entry_known : (x : Entry) → e ≡ x → EntryKnown R0 P0 n k g m v s x
    entry_known (Sent msg) is = (ap s.writes (sh.call (turn_of g v msg)) ∙ sh.own (turn_of g v msg), plan_known msg is)
    entry_known (Executed i version failed) is = (message_known i (m.said i) refl, message_written (m.said i) version failed)
    entry_known (Torn i count version) is = message_torn (m.said i) version
    entry_known (Called a client op) is = tt
    entry_known (Heard i) is = tt
    entry_known (Lost i) is = tt
    entry_known (GivenUp client brick i) is = tt
    entry_known (Stopped c) is = tt
    entry_known (Returned c) is = tt
    entry_known (Cut client c) is = tt
    entry_known (Died client) is = tt
    entry_known (Yielded client) is = tt
    entry_known (Answered a answer) is = tt
    entry_known (Replaced c removed all) is = tt

    went : Along (deeds R plans n k g m v f e) (deeds R0 P0 n k g m v s e)
    went = by_entry e owe

    abbrev pub s' : Bare
    s' = file_after R0 P0 n k g m v s e

    pub come : DeedsRun bare_form n k (deeds R0 P0 n k g m v s e) s
    come = entry_come R0 P0 n k g m v s e (entry_known e refl) (subst (Runs n k (acts g m v e)) (sym core) runs) went.1

    stay : (a : ℕ) → s.planned a ≡ true → s'.planned a ≡ true
    stay = (entry_plans R0 P0 n k g m v s e (entry_known e refl)).stay

    -- ## PostOps

    abbrev Posted : Entry → Type 0
    Posted x = (i : ℕ) (msg : Message) (q : Request) → (net_after m x).said i ≡ Some msg → msg.body ≡ ToBrick q → is_post_on g q ≡ true → (file_after R0 P0 n k g m v s x).planned ((seen_after g m v x).of i) ≡ true

    posted_same : (x : Entry) → e ≡ x → (net_after m x).said ≡ m.said → (seen_after g m v x).of ≡ v.of → Posted x
    posted_same x same said of i msg q is body on = subst (λ (z : Entry). (file_after R0 P0 n k g m v s z).planned ((seen_after g m v x).of i) ≡ true) same (stay ((seen_after g m v x).of i) (ap (λ (z : ℕ → ℕ). s.planned (z i)) of ∙ sh.posted i msg q (sym (ap (λ (z : ℕ → Option Message). z i) said) ∙ is) body on))

    posted_sent : (msg : Message) → e ≡ Sent msg → Posted (Sent msg)
    posted_sent msg is i x q said body on = ⊎_elim
        (λ z. subst (λ (j : ℕ). (file_after R0 P0 n k g m v s (Sent msg)).planned ((seen_after g m v (Sent msg)).of j) ≡ true) (sym z.0) (ap (file_after R0 P0 n k g m v s (Sent msg)).planned (put_here v.of msg.no (turn_of g v msg) msg.no refl) ∙ newly_planned R0 P0 n k g m v s msg q (ap (λ (y : Message). y.body) z.1 ∙ body) on))
        (λ z. ap (file_after R0 P0 n k g m v s (Sent msg)).planned (more.still i x z).1 ∙ subst (λ (y : Entry). (file_after R0 P0 n k g m v s y).planned (v.of i) ≡ true) is (stay (v.of i) (sh.posted i x q z body on)))
        (more.newest i x said)
      where
        more : Adds m.said (net_after m (Sent msg)).said v.of (seen_after g m v (Sent msg)).of msg.no msg
        more = adds n g m v msg (subst (λ (z : Entry). MayEnter n m z) is may).0 r.known.messages

    posted_then : (x : Entry) → e ≡ x → Posted x
    posted_then (Called a client op) is = posted_same (Called a client op) is refl (made_same g v a op).1
    posted_then (Sent msg) is = posted_sent msg is
    posted_then (Executed i version failed) is = posted_same (Executed i version failed) is (executed_same m (m.said i) version failed).0 refl
    posted_then (Heard i) is = posted_same (Heard i) is (heard_same m (m.said i)).0 refl
    posted_then (Torn i count version) is = posted_same (Torn i count version) is (torn_same m (m.said i) count version).0 refl
    posted_then (Lost i) is = posted_same (Lost i) is refl refl
    posted_then (GivenUp client brick i) is = posted_same (GivenUp client brick i) is refl refl
    posted_then (Stopped c) is = posted_same (Stopped c) is refl refl
    posted_then (Returned c) is = posted_same (Returned c) is refl refl
    posted_then (Cut client c) is = posted_same (Cut client c) is refl refl
    posted_then (Died client) is = posted_same (Died client) is refl refl
    posted_then (Yielded client) is = posted_same (Yielded client) is refl refl
    posted_then (Answered a answer) is = posted_same (Answered a answer) is refl refl
    posted_then (Replaced c removed all) is = posted_same (Replaced c removed all) is refl refl

    pub beside_then : Beside geometry.n (quorum geometry) g (net_after m e) (seen_after g m v e) (file_after R plans n k g m v f e) s'
    beside_then =
        let o = entry_plans R0 P0 n k g m v s e (entry_known e refl) in
        let kept_clauses = both_after bare_form n k most (omega arith) (deeds R0 P0 n k g m v s e) s come (record { inv = sh.inv; good = sh.good }) in
        record {
          is = went.0;
          inv = kept_clauses.inv;
          good = kept_clauses.good;
          call = λ a. ap (λ (z : ℕ → ℕ). z a) o.call ∙ sh.call a;
          own = o.own sh.call sh.own;
          posted = posted_then e refl;
        }
