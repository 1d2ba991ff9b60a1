-- Every log: what it keeps of locks, its grants, and so the laws of versions.
use Rattle.std.proofs.Common.{nat_lt, ◌≡◌, ℕ, ◌^◌, ◌<◌, Bool, true, false, not, cond, ◌==◌, ◌&&◌, Option, Some, None, List, [], ◌∷◌, refl, sym, ◌∙◌, ap, subst, arith, inl}
use Rattle.std.proofs.lemmas.Bool.Decides.{nat_tests}
use Rattle.std.specs.Prelude.{is_some}
use Rattle.ec_conduct.specs.Given.{quorum}
use Rattle.ec_locks.specs.declared.ask.Leaving.TheVariants.{Client}
use Rattle.ec_store.specs.Put.{put}
use Rattle.ec_wire.specs.declared.message.Body.{Body}
use Rattle.ec_wire.specs.declared.message.Body.TheVariants.{ToBrick, ToClient}
use Rattle.ec_wire.specs.declared.message.Message.{Message}
use Rattle.ec_brick.specs.State.{State as Brick}
use Rattle.ec_brick.specs.Step.{Out}
use Rattle.ec_law_base.specs.State.{State}
use Rattle.ec_wire.specs.declared.entry.Entry.{Entry}
use Rattle.ec_wire.specs.declared.entry.Entry.TheVariants.{Called, Sent, Executed, Heard, Lost, GivenUp, Stopped, Returned, Cut, Died, Yielded, Torn, Answered, Replaced}
use Rattle.ec_wire.specs.declared.op.Op.{Op}
use Rattle.ec_wire.specs.declared.op.Op.TheVariants.{Create, Mkdir}
use Rattle.ec_brick.specs.Meets.{failing_at}
use Rattle.ec_brick.specs.Step.{cut_off, quiet as quiet_out, started, stopped, torn_off as torn_at}
use Rattle.ec_history.specs.IsRun.{May as MayEnter, MayExecute, MayTear}
use Rattle.ec_history.specs.Run.{Net, after as net_after, executed as executed_net, executed_by, heard, heard_by, let_in_owed, torn_by, torn_off, torn_out, wiped}
use Rattle.ec_law_ballots.specs.Act.{Act, after, step}
use Rattle.ec_law_ballots.specs.Act.Act.{Moment, Replace, Stop}
use Rattle.ec_wire.specs.declared.request.Request.TheVariants.{Query}
use Rattle.ec_law_net.specs.Turns.{View, acts, acts_executed, acts_locks, acts_of_request, acts_torn, made_by, seen_after}
use Rattle.ec_law_net.specs.Link.{BodyReady, EntryReady, Linked, MessageReady}
use Rattle.ec_law_net.specs.Grants.{AreAsks, AsksOnce, BodyKnown, EntryKnown, LocksStand, MessageKnown}
use Rattle.ec_law_net.proofs.GrantActs.{after_old, locks_newly}
use Rattle.ec_law_net.proofs.GrantEntries.{locks_same, locks_sent}
use Rattle.ec_law_net.proofs.GrantsKept.{Lands, Stays, changed, locks_brick}
use Rattle.ec_law_net.proofs.Logs.{goes}
use Rattle.ec_attr.specs.Bricks.{count_below}
use Rattle.ec_attr.specs.declared.config.Config.{Config}
use Rattle.ec_history.specs.Flat.{Tree}
use Rattle.ec_history.specs.Run.{fresh}
use Rattle.ec_history.specs.Starts.{IsStart}
use Rattle.ec_law_base.proofs.Counts.{some}
use Rattle.ec_law_base.specs.State.{Head as Seen}
use Rattle.ec_law_quorum.specs.Laws.{AboveOthers, AfterEveryRun, NoTwoAlike}
use Rattle.ec_law_quorum.proofs.Laws.{above_others, no_two_alike}
use Rattle.ec_store.specs.Records.{Records}
use Rattle.ec_law_ballots.specs.Guard.{Runs}
use Rattle.ec_law_net.specs.Grants.{SentKnown}
use Rattle.ec_law_net.specs.Turns.{acts_sent, turn_of}
use Rattle.ec_law_net.proofs.GrantEntries.{real_turn}
use Rattle.ec_law_net.specs.Laws.{AfterEveryLog, GrantsFollow, LogLaws}
use Rattle.ec_law_net.specs.Start.{first_heads, first_view, is_new}
use Rattle.ec_law_net.specs.Turns.{all_acts}
use Rattle.ec_law_net.proofs.AtBrick.{torn_down}
use Rattle.ec_law_net.proofs.GrantLogs.{locks_request, ready_of, ready_request, tabled_same, tabled_shorter}
use Rattle.ec_law_net.proofs.Logs.{acts_lead_on, acts_may_come, heard_same}
use Rattle.ec_law_net.proofs.Starting.{found, starts_linked}

lands_put : (f : ℕ → Bool) (j i : ℕ) → f i ≡ false → put f j false i ≡ false
lands_put f j i e = at (i == j)
  where
    at : (t : Bool) → cond t false (f i) ≡ false
    at true = refl
    at false = e

heard_lands : (m : Net) (o : Option Message) (i : ℕ) → m.flying i ≡ false → (heard m o).flying i ≡ false
heard_lands m None i e = e
heard_lands m (Some msg) i e = body msg.body
  where
    body : (z : Body) → (heard_by m msg z).flying i ≡ false
    body (ToBrick q) = e
    body (ToClient re reply) = lands_put m.flying msg.no i e

made_same : (g : ℕ) (v : View) (a : ℕ) (op : Op) → ((made_by g v a op).of ≡ v.of) × ((made_by g v a op).turn ≡ v.turn)
made_same g v a (Create parent name) = (refl, refl)
made_same g v a (Mkdir parent name) = (refl, refl)
made_same g v a op = (refl, refl)

replaced_keeps : (t : Bool) (b : ℕ) (s : State) (a c : ℕ) → (after (cond t (Replace b ∷ []) []) s).granted a c ≡ s.granted a c
replaced_keeps true b s a c = refl
replaced_keeps false b s a c = refl

module _ (n g : ℕ) (m : Net) (v : View) (link : Linked n g m v) (l : LocksStand n g m v) where
  -- a brick whose asks stay, by acts that grant nothing
  stays_so : (b : ℕ) (nb : Brick) (xs : List Act) → b < n → nb.asks ≡ (m.brick b).asks → ((a c : ℕ) → (after xs v.core).granted a c ≡ v.core.granted a c) → LocksStand n g (changed m b nb m.flying m.owed) (record v { core = after xs v.core })
  stays_so b nb xs lt e keeps = let tab = tabled_same n g m v b lt l nb m.flying m.owed (λ i f. f) nb.asks e in locks_brick n g m v b nb m.flying m.owed (after xs v.core) l (λ i f. f) (λ h. tab.are) tab.stays (λ a c h. inl (sym (keeps a c) ∙ h)) (after_old xs v.core)

  -- a brick that stops
  stops_so : (b : ℕ) (nb : Brick) (flying : ℕ → Bool) → Lands m flying → nb.asks ≡ [] → LocksStand n g (changed m b nb flying m.owed) (record v { core = step v.core (Stop b) })
  stops_so b nb flying lands e = locks_brick n g m v b nb flying m.owed (step v.core (Stop b)) l lands (λ h. subst (AreAsks (changed m b nb flying m.owed) b) (sym e) tt) (subst (Stays g m (m.brick b).asks) (sym e) (λ i msg said f h. inl refl)) (λ a c h. inl h) (λ a. refl)

  cut_so : (client b : ℕ) → b < n → LocksStand n g (net_after m (Cut client b)) (seen_after g m v (Cut client b))
  cut_so client b lt =
      let o = cut_off (m.brick b) client in
      let tab = tabled_shorter n g m v b lt l o.brick m.flying (let_in_owed m b o) (λ i f. f) (Client client) o.brick.asks refl in
      locks_brick n g m v b o.brick m.flying (let_in_owed m b o) (after (acts_locks g m v b (m.brick b).asks o.brick.asks) v.core) l (λ i f. f) (λ h. tab.are) tab.stays (λ a c h. locks_newly g m v b (m.brick b).asks o.brick.asks v.core a c h) (after_old (acts_locks g m v b (m.brick b).asks o.brick.asks) v.core)

  executed_so : (i : ℕ) (version : Option ℕ) (failed : Bool) → MayExecute m i version failed → LocksStand n g (net_after m (Executed i version failed)) (seen_after g m v (Executed i version failed))
  executed_so i version failed may =
      subst (λ (o : Option Message). LocksStand n g (executed_net m o version failed) (record v { core = after (acts_executed g m v o version failed) v.core })) (sym may.at.said)
      (subst (λ (z : Body). LocksStand n g (executed_by m may.message z version failed) (record v { core = after (acts_of_request g m v may.message z version failed) v.core })) (sym may.at.body)
      (locks_request n g m v link l i may.message may.request may.at.said may.at.body may.at.flying version failed may.at.up))

  torn_so : (i bytes : ℕ) (version : Option ℕ) → MayTear m i bytes version → LocksStand n g (net_after m (Torn i bytes version)) (seen_after g m v (Torn i bytes version))
  torn_so i bytes version may =
      subst (λ (o : Option Message). LocksStand n g (torn_off m o bytes version) (record v { core = after (acts_torn o) v.core })) (sym may.at.said)
      (subst (λ (z : Body). LocksStand n g (torn_by m may.message z bytes version) (record v { core = step v.core (Stop may.message.brick) })) (sym may.at.body)
      (stops_so may.message.brick (torn_out m may.message may.request bytes version).brick (put m.flying may.message.no false) (lands_put m.flying may.message.no) (ap (λ (o : Out). o.brick.asks) went ∙ (torn_down g (m.brick may.message.brick) (failing_at version) may.request bytes).1)))
    where
      went : torn_out m may.message may.request bytes version ≡ torn_at (m.brick may.message.brick) (failing_at version) may.request bytes
      went = ap (λ (t : Bool). cond t (torn_at (m.brick may.message.brick) (failing_at version) may.request bytes) (quiet_out (m.brick may.message.brick))) may.at.up

pub locks_entry : (n g : ℕ) (m : Net) (v : View) (e : Entry) → MayEnter n m e → Linked n g m v → LocksStand n g m v → LocksStand n g (net_after m e) (seen_after g m v e)
locks_entry n g m v (Called a client op) may k l = let h = made_same g v a op in locks_same n g m (net_after m (Called a client op)) v (record (made_by g v a op) { core = v.core }) l refl refl (λ i e. e) refl h.0 h.1
locks_entry n g m v (Sent msg) may k l = locks_sent n g m v msg k l may.0
locks_entry n g m v (Executed i version failed) may k l = executed_so n g m v k l i version failed may
locks_entry n g m v (Heard i) may k l = let h = heard_same m (m.said i) in locks_same n g m (heard m (m.said i)) v v l h.0 h.1 (heard_lands m (m.said i)) refl refl refl
locks_entry n g m v (Lost i) may k l = locks_same n g m (net_after m (Lost i)) v v l refl refl (lands_put m.flying i) refl refl refl
locks_entry n g m v (GivenUp client brick i) may k l = locks_same n g m (net_after m (GivenUp client brick i)) v v l refl refl (λ j e. e) refl refl refl
locks_entry n g m v (Stopped b) may k l = stops_so n g m v k l b (stopped (m.brick b)) m.flying (λ i e. e) refl
locks_entry n g m v (Returned b) may k l = stays_so n g m v k l b (started (m.brick b)) [] may.0 refl (λ a c. refl)
locks_entry n g m v (Cut client b) may k l = cut_so n g m v k l client b may.0
locks_entry n g m v (Died client) may k l = locks_same n g m (net_after m (Died client)) v v l refl refl (λ j e. e) refl refl refl
locks_entry n g m v (Yielded client) may k l = l
locks_entry n g m v (Torn i bytes version) may k l = torn_so n g m v k l i bytes version may
locks_entry n g m v (Answered a answer) may k l = locks_same n g m (net_after m (Answered a answer)) v v l refl refl (λ j e. e) refl refl refl
locks_entry n g m v (Replaced b removed all) may k l = stays_so n g m v k l b (record (m.brick b) { records = wiped removed all (m.brick b).records }) (acts g m v (Replaced b removed all)) may.0 refl (replaced_keeps (is_some ((m.brick b).records g) && not (is_some (wiped removed all (m.brick b).records g))) b v.core)

-- a Query is the moment of its turn, or no act
sent_ready : (n k g : ℕ) (s : State) (a : ℕ) → s.old a ≡ false → (body : Body) → SentKnown n k g s a body → Runs n k (acts_sent g s a body) s
sent_ready n k g s a real (ToBrick (Query x i)) h = at (x.0 == g) (s.moment a) refl
  where
    at : (t u : Bool) → s.moment a ≡ u → Runs n k (cond t (cond u [] (Moment a ∷ [])) []) s
    at false u e = refl
    at true true e = refl
    at true false e = ((e, real), refl)
sent_ready n k g s a real body h = h

pub entry_ready : (n k g : ℕ) (m : Net) (v : View) (e : Entry) → MayEnter n m e → Linked n g m v → LocksStand n g m v → AsksOnce g m v → EntryKnown n k g m v e → EntryReady n k g m v e
entry_ready n k g m v (Called a client op) may link l once r = tt
entry_ready n k g m v (Sent msg) may link l once r = sent_ready n k g v.core (turn_of g v msg) (real_turn n g m v msg link l may.0) msg.body r
entry_ready n k g m v (Executed i version failed) may link l once r =
    subst (λ (o : Option Message). MessageReady n k g m v o version failed) (sym may.at.said) (subst (λ (z : Body). BodyReady n k g m v may.message z version failed) (sym may.at.body) (known.0, ready_request n g m v link l i may.message may.request may.at.said may.at.body may.at.flying version failed may.at.up once known.1))
  where
    known : BodyKnown n k g m v may.message (ToBrick may.request) version failed
    known = subst (λ (z : Body). BodyKnown n k g m v may.message z version failed) may.at.body (subst (λ (o : Option Message). MessageKnown n k g m v o version failed) may.at.said r)
entry_ready n k g m v (Heard i) may link l once r = tt
entry_ready n k g m v (Lost i) may link l once r = tt
entry_ready n k g m v (GivenUp client brick i) may link l once r = tt
entry_ready n k g m v (Stopped b) may link l once r = tt
entry_ready n k g m v (Returned b) may link l once r = tt
entry_ready n k g m v (Cut client b) may link l once r =
    let o = cut_off (m.brick b) client in
    ready_of n g m v b may.0 l o.brick m.flying [] (λ i e. e) o.brick.asks once (tabled_shorter n g m v b may.0 l o.brick m.flying [] (λ i e. e) (Client client) o.brick.asks refl) r
entry_ready n k g m v (Died client) may link l once r = tt
entry_ready n k g m v (Yielded client) may link l once r = tt
entry_ready n k g m v (Torn i bytes version) may link l once r = tt
entry_ready n k g m v (Answered a answer) may link l once r = tt
entry_ready n k g m v (Replaced b removed all) may link l once r = tt

grants_follow : GrantsFollow
grants_follow n k g [] m v runs link l known = tt
grants_follow n k g (e ∷ es) m v runs link l known =
    let r = entry_ready n k g m v e runs.0 link l known.0 known.1 in
    (r, grants_follow n k g es (net_after m e) (seen_after g m v e) runs.1 (goes n k g m v e runs.0 link r).linked (locks_entry n g m v e runs.0 link l) known.2)

pub locks_start : (config : Config) (records : ℕ → Records) (bricks : ℕ → Brick) (tree : Tree) (next g : ℕ) (call : ℕ → ℕ) → IsStart config records bricks tree next → LocksStand config.geometry.n g (fresh bricks) (first_view config.geometry.n (tree g).version records g call next)
locks_start config records bricks tree next g call start = record {
  asks = λ b lt. subst (AreAsks (fresh bricks) b) (sym (start.opened b lt).unlocked) tt;
  once = λ a b lt e. absurd (cc);
  begun = λ c a e. absurd (cc);
  turns = λ i b a h. absurd (let x = h.said in cc);
  old = λ a e. bound a (some (λ b. (first_heads config.geometry.n records g b).present && ((first_heads config.geometry.n records g b).version == a)) config.geometry.n (counted (nat_lt (tree g).version a) (count_below config.geometry.n (λ b. (first_heads config.geometry.n records g b).present && ((first_heads config.geometry.n records g b).version == a))) e));
  none = fresh_zero (tree g).version (nat_lt 0 (count_below config.geometry.n (λ b. (first_heads config.geometry.n records g b).present && ((first_heads config.geometry.n records g b).version == 0))));
}
  where
    fresh_zero : (x : ℕ) (t : Bool) → (nat_lt x 0 && t) ≡ false
    fresh_zero x t = grind (arith, nat_tests)

    counted : (t : Bool) (x : ℕ) → (t && nat_lt 0 x) ≡ true → 0 < x
    counted t x e = grind (arith, nat_tests)

    bound : (a : ℕ) → (b : ℕ) × (((first_heads config.geometry.n records g b).present && ((first_heads config.geometry.n records g b).version == a)) ≡ true) → a < 2 ^ 61
    bound a h =
        let o = found config.geometry.n records g h.0 (first_part (first_heads config.geometry.n records g h.0).present _ h.1) in
        let v = second_part (first_heads config.geometry.n records g h.0).present (first_heads config.geometry.n records g h.0).version a h.1 in
        let w = ap (λ (x : Seen). x.version) o.3 in
        subst (λ (x : ℕ). x < 2 ^ 61) (sym w ∙ v) ((start.stand g).bounded h.0 o.0 o.1 o.2).version
      where
        first_part : (t u : Bool) → (t && u) ≡ true → t ≡ true
        first_part t u e = grind (arith)

        second_part : (t : Bool) (x y : ℕ) → (t && (x == y)) ≡ true → x ≡ y
        second_part t x y e = grind (arith, nat_tests)

by_log : (law : ℕ → ℕ → State → Type 0) → AfterEveryRun law → AfterEveryLog law
by_log law holds config records bricks tree next g call es most starts runs known =
    let n = config.geometry.n in
    let k = quorum config.geometry in
    let v = first_view n (tree g).version records g call next in
    let o = starts_linked config records bricks tree next g call (omega (arith, most)) starts in
    let r = grants_follow n k g es (fresh bricks) v runs o.linked (locks_start config records bricks tree next g call starts) known in
    subst (λ (s : State). law n k s) (sym (acts_lead_on g es (fresh bricks) v)) (holds n k most (omega arith) (tree g).version (first_heads n records g) (is_new n records g) call o.standing (all_acts g es (fresh bricks) v) (acts_may_come n k g es (fresh bricks) v runs o.linked r).0)

pub laws : LogLaws
laws = record {
  acts_may_come = acts_may_come;
  acts_lead_on = acts_lead_on;
  starts_linked = starts_linked;
  grants_follow = grants_follow;
  no_two_alike = by_log NoTwoAlike no_two_alike;
  above_others = by_log AboveOthers above_others;
}
