-- Where a brick changes data for a turn, the turn may: the turn holds the brick, whose record stands at its base, and none of the
-- turn's PostOps was done there.
use Rattle.std.proofs.Common.{◌≡◌, ℕ, ◌+◌, ◌-◌, ◌^◌, ◌<◌, ◌≤◌, Bool, true, false, not, cond, ◌==◌, ◌||◌, Option, Some, None, List, [], ◌∷◌, refl, sym, ◌∙◌, ap, subst, arith}
use Rattle.std.specs.Option.{option_map}
use Rattle.ec_attr.specs.Marks.{is_marked, stripped}
use Rattle.ec_attr.specs.declared.geometry.Geometry.{Geometry}
use Rattle.ec_attr.specs.declared.gfid.Gfid.{Gfid}
use Rattle.ec_attr.specs.declared.head.Head.{Head}
use Rattle.ec_brick.specs.Meets.{failing_at}
use Rattle.ec_brick.specs.Step.{Out, executed as executed_at, quiet as quiet_out, torn_off as torn_at}
use Rattle.ec_conduct.specs.Account.{gfid_of}
use Rattle.ec_conduct.specs.Done.{is_post, is_pre}
use Rattle.ec_conduct.specs.Given.{quorum}
use Rattle.ec_history.specs.Accounts.{Books, Leaving, booked, books, no_books}
use Rattle.ec_history.specs.IsRun.{IsRun, May as MayEnter, MayExecute, MayTear}
use Rattle.ec_history.specs.Run.{Net, after as net_after, call_of, failing, fresh, out_of, torn_out}
use Rattle.ec_history.specs.Story.{Story, is_done, opening, told}
use Rattle.ec_wire.specs.declared.entry.Entry.{Entry}
use Rattle.ec_wire.specs.declared.entry.Entry.TheVariants.{Called, Sent, Executed, Heard, Lost, GivenUp, Stopped, Returned, Cut, Died, Yielded, Torn, Answered, Replaced}
use Rattle.ec_wire.specs.declared.message.Body.{Body}
use Rattle.ec_wire.specs.declared.message.Body.TheVariants.{ToBrick}
use Rattle.ec_wire.specs.declared.message.Message.{Message}
use Rattle.ec_wire.specs.declared.request.Request.{Request}
use Rattle.ec_wire.specs.declared.request.Request.TheVariants.{PostOp, PreOp, WriteChunks, SetLength, NameSet}
use Rattle.ec_law_base.specs.State.{Ballot}
use Rattle.ec_law_ballots.specs.Words.{did, is_there, met}
use Rattle.ec_law_net.specs.Link.{IsHead}
use Rattle.ec_law_net.specs.Turns.{View, seen_after}
use Rattle.ec_law_turns.specs.Laws.{Always}
use Rattle.ec_law_turns.specs.Once.{Landed, is_plain_pre}
use Rattle.ec_law_turns.specs.Orderly.{ArePlain}
use Rattle.ec_law_turns.specs.Reached.{Reached}
use Rattle.ec_law_turns.specs.Told.{ToldPreOp}
use Rattle.ec_law_turns.proofs.Basics.{itself, some_is}
use Rattle.ec_law_turns.proofs.Origins.{unversioned}
use Rattle.ec_law_turns.proofs.Runs.{Kept, kept_there, plain_first}
use Rattle.ec_law_data.specs.Deeds.{is_post_on}
use Rattle.ec_law_data.specs.Laws.{begun}
use Rattle.ec_law_data.proofs.Fenced.{Stood, done_stood, part_stood, torn_stood}
use Rattle.ec_law_data.proofs.Planning.{did_pre_met}
use Rattle.ec_law_data.proofs.Reaching.{Reaches, reaches_start, reaches_then}
use Rattle.ec_law_parts.specs.LeavesOff.{DataBeforePosts, puts_data}
use Rattle.ec_law_writes.specs.Guarding.{AllGuarded, BodyGuarded, BodyTornGuarded, EntryGuarded, IsGuarded, MessageGuarded, TornGuarded, changes_on}
use Rattle.ec_law_writes.specs.Laws.{GuardedInEveryLog, WriteGuardLaws}
use Rattle.ec_law_writes.proofs.Answering.{done_after}
use Rattle.ec_law_writes.proofs.Changing.{IsChange, SawSink, change_writes}
use Rattle.ec_law_writes.proofs.Watching.{Watched, watched_entry, watched_start}

-- ## Tests

pub change_puts : (g : ℕ) (q : Request) → changes_on g q ≡ true → puts_data q ≡ true
change_puts g (WriteChunks x n first chunks) on = refl
change_puts g (SetLength x n keep count) on = refl
change_puts g (NameSet x n name child) on = refl
change_puts g q on = absurd (cc)

post_on : (g : ℕ) (q : Request) → is_post q ≡ true → gfid_of q ≡ Some g → is_post_on g q ≡ true
post_on g (PostOp x n at version size attr) post on = subst (λ (y : ℕ). (y == g) ≡ true) (sym (some_is x.0 g on)) (itself g)
post_on g q post on = absurd (cc)

-- a PreOp by its test
pub record IsPreOp (q : Request) : Type 0 where
  pub gfid : Gfid
  pub grant : ℕ
  pub version : ℕ
  pub dirty : ℕ
  pub is : q ≡ PreOp gfid grant version dirty

pre_is : (q : Request) → is_pre q ≡ true → IsPreOp q
pre_is (PreOp x n version dirty) e = record { gfid = x; grant = n; version = version; dirty = dirty; is = refl }
pre_is q e = absurd (cc)

or_false : (t u : Bool) → t ≡ false → u ≡ false → (t || u) ≡ false
or_false false false e f = refl
or_false false true e f = absurd (cc)
or_false true u e f = absurd (cc)

or_right : (t u : Bool) → u ≡ true → (t || u) ≡ true
or_right true u e = refl
or_right false u e = e

not_so : (t : Bool) → (t ≡ true → ⊥) → t ≡ false
not_so true h = absurd (h refl)
not_so false h = refl

module _ (geometry : Geometry) (g : ℕ) (m : Net) (v : View) (b : Books) (done : ℕ → Bool) (r : Reached geometry g m v b) (h : Watched geometry g m v b done) (first : DataBeforePosts m v) where
  -- messages of one turn are of one call, so changes come before PostOps
  pub comes_first : (i j : ℕ) (x y : Message) (q p : Request) → m.said i ≡ Some x → m.said j ≡ Some y → x.body ≡ ToBrick q → y.body ≡ ToBrick p → changes_on g q ≡ true → is_post p ≡ true → v.of i ≡ v.of j → 2 ^ 61 ≤ v.of j → i < j
  comes_first i j x y q p is its asks posts change post turn begun =
      first i j x y q p is its asks posts (change_puts g q change) post
      (sym (r.known.messages.caller i x is (subst (λ (u : ℕ). 2 ^ 61 ≤ u) (sym turn) begun)) ∙ (ap (λ (u : ℕ). call_of (m.said (u - 2 ^ 61))) turn ∙ r.known.messages.caller j y its begun))

  -- a change that is on its way: no PostOp of its turn has come there
  no_post : (i : ℕ) (x : Message) (q : Request) → m.said i ≡ Some x → x.body ≡ ToBrick q → changes_on g q ≡ true → m.flying i ≡ true → 2 ^ 61 ≤ v.of i → Landed g m.said m.flying v.of is_post x.brick (v.of i) → ⊥
  no_post i x q is body on flies begun l =
      let o = l.asked in
      let lt = comes_first i l.number x o.message q o.request is o.is body o.body on o.passes (sym o.turn) (subst (λ (u : ℕ). 2 ^ 61 ≤ u) (sym o.turn) begun) in
      let post = h.posts l.number o.message o.request o.is o.body (post_on g o.request o.passes o.on) in
      let d = post.dones i x q is body on (sym o.turn) (sym o.brick) lt in
      let z = sym flies ∙ h.landed i d in cc

  unposted : (i : ℕ) (x : Message) (q : Request) → m.said i ≡ Some x → x.body ≡ ToBrick q → changes_on g q ≡ true → m.flying i ≡ true → 2 ^ 61 ≤ v.of i → (v.core.post (v.of i) x.brick ≡ false) × (v.core.spost (v.of i) x.brick ≡ false)
  unposted i x q is body on flies begun = (
    not_so (v.core.post (v.of i) x.brick) (λ z. no_post i x q is body on flies begun (r.once.post (v.of i) x.brick begun z)),
    not_so (v.core.spost (v.of i) x.brick) (λ z. no_post i x q is body on flies begun (h.sink_posts (v.of i) x.brick begun z)),
  )

  pub guards : (i : ℕ) (x : Message) (q : Request) → m.said i ≡ Some x → x.body ≡ ToBrick q → changes_on g q ≡ true → m.flying i ≡ true → Stood g (m.brick x.brick) q → IsGuarded v.core (v.of i) x.brick
  guards i x q is body on flies stood = by (is_marked pre.version) refl
    where
      a : ℕ
      a = v.of i

      lt : x.brick < geometry.n
      lt = r.linked.to i x q is body

      w : IsChange g m.said v.of v.core x.call x.brick i q
      w = h.changes i x q is body on

      grant : stood.grant ≡ w.grant
      grant = some_is stood.grant w.grant (sym stood.names ∙ w.names)

      holder : v.core.holder x.brick ≡ Some (v.of i)
      holder = r.linked.holders x.brick lt ∙ (ap (option_map v.of) stood.stands ∙ ap (λ (y : ℕ). Some (v.of y)) grant) ∙ ap (λ (y : ℕ). Some y) w.lock.turn

      there : v.core.present x.brick ≡ true
      there = (subst (λ (o : Option Head). IsHead o v.core x.brick) stood.there (r.linked.heads x.brick lt)).0

      un : (v.core.post (v.of i) x.brick ≡ false) × (v.core.spost (v.of i) x.brick ≡ false)
      un = unposted i x q is body on flies w.lock.begun

      before : did v.core (v.of i) x.brick ≡ false
      before = or_false (v.core.post (v.of i) x.brick) (v.core.spost (v.of i) x.brick) un.0 un.1

      pre : IsPreOp w.asked.request
      pre = pre_is w.asked.request w.asked.passes

      asks : w.asked.message.body ≡ ToBrick (PreOp pre.gfid pre.grant pre.version pre.dirty)
      asks = w.asked.body ∙ ap (λ (y : Request). ToBrick y) pre.is

      gfid : pre.gfid.0 ≡ g
      gfid = some_is pre.gfid.0 g (sym (ap gfid_of pre.is) ∙ w.asked.on)

      told : ToldPreOp v.core (v.of i) x.brick pre.version pre.dirty
      told = subst (λ (u : ℕ). ToldPreOp v.core u x.brick pre.version pre.dirty) w.asked.turn (subst (λ (c : ℕ). ToldPreOp v.core (v.of w.pre) c pre.version pre.dirty) w.asked.brick (r.shown.asked w.pre w.asked.message (PreOp pre.gfid pre.grant pre.version pre.dirty) w.asked.is asks gfid))

      number : 0 < (v.core.ballot (v.of i)).number
      number = let e = ap (λ (p : Ballot). p.number) told.ballot in let z = told.above in omega (arith, e, z)

      made : v.core.version x.brick ≡ (v.core.ballot (v.of i)).base → met v.core (v.of i) x.brick ≡ true → IsGuarded v.core (v.of i) x.brick
      made version met = record { before = before; holds = holder; present = there; version = version; number = number; met = met }

      by : (t : Bool) → is_marked pre.version ≡ t → IsGuarded v.core (v.of i) x.brick
      by false e =
          let did = w.plain (ap is_plain_pre pre.is ∙ ap not e) in
          made ((h.inv.local x.brick).still_pre (v.of i) holder did un.0 there).0 (did_pre_met geometry.n (quorum geometry) g m v r.once r.shown.asked r.known.sound (v.of i) x.brick w.lock.begun did)
      by true e =
          let saw = subst (λ (u : ℕ). SawSink v.core u x.brick (stripped pre.version)) w.asked.turn (subst (λ (c : ℕ). SawSink v.core (v.of w.pre) c (stripped pre.version)) w.asked.brick (h.sinks w.pre w.asked.message pre.gfid pre.grant pre.version pre.dirty w.asked.is asks gfid e)) in
          let still = h.still x.brick (v.of i) saw.head holder saw.seen saw.present saw.marked before there in
          made (still.0 ∙ (saw.at ∙ sym (ap (λ (p : Ballot). p.base) told.ballot))) (or_right (v.core.mark (v.of i) x.brick) (is_there (v.core.seen (v.of i) x.brick)) (ap is_there saw.seen ∙ saw.present))

  -- ## Entries

  executed_guarded : (i : ℕ) (version : Option ℕ) (failed : Bool) → MayExecute m i version failed → MessageGuarded g m v (m.said i) version failed
  executed_guarded i version failed may =
      subst (λ (o : Option Message). MessageGuarded g m v o version failed) (sym may.at.said)
      (subst (λ (z : Body). BodyGuarded g m v may.message z version failed) (sym may.at.body)
      (by failed version may.read))
    where
      went : (version : Option ℕ) (failed : Bool) → out_of m may.message may.request version failed ≡ executed_at (m.brick may.message.brick) (failing failed version) may.message.client may.message.no may.request
      went version failed = ap (λ (t : Bool). cond t (executed_at (m.brick may.message.brick) (failing failed version) may.message.client may.message.no may.request) (quiet_out (m.brick may.message.brick))) may.at.up

      at_no : IsGuarded v.core (v.of i) may.message.brick → IsGuarded v.core (v.of may.message.no) may.message.brick
      at_no = subst (λ (j : ℕ). IsGuarded v.core (v.of j) may.message.brick) (sym (r.known.messages.number i may.message may.at.said).0)

      by : (failed : Bool) (version : Option ℕ) → version ≡ (out_of m may.message may.request version failed).version → BodyGuarded g m v may.message (ToBrick may.request) version failed
      by false version read = λ on granted did. at_no (guards i may.message may.request may.at.said may.at.body on may.at.flying (done_stood g (m.brick may.message.brick) may.message.client may.message.no may.request (change_writes g may.request on) granted (subst (λ (o : Out). is_done o.says ≡ true) (went version false) did)))
      by true None read = tt
      by true (Some y) read = λ on granted. at_no (guards i may.message may.request may.at.said may.at.body on may.at.flying (part_stood g (m.brick may.message.brick) may.message.client may.message.no y may.request (change_writes g may.request on) granted (sym (read ∙ ap (λ (o : Out). o.version) (went (Some y) true)))))

  torn_guarded : (i count : ℕ) (version : Option ℕ) → MayTear m i count version → TornGuarded g m v (m.said i) version
  torn_guarded i count version may =
      subst (λ (o : Option Message). TornGuarded g m v o version) (sym may.at.said)
      (subst (λ (z : Body). BodyTornGuarded g m v may.message z version) (sym may.at.body)
      (by version may.read))
    where
      went : (version : Option ℕ) → torn_out m may.message may.request count version ≡ torn_at (m.brick may.message.brick) (failing_at version) may.request count
      went version = ap (λ (t : Bool). cond t (torn_at (m.brick may.message.brick) (failing_at version) may.request count) (quiet_out (m.brick may.message.brick))) may.at.up

      by : (version : Option ℕ) → version ≡ (torn_out m may.message may.request count version).version → BodyTornGuarded g m v may.message (ToBrick may.request) version
      by None read = tt
      by (Some y) read = λ on granted. subst (λ (j : ℕ). IsGuarded v.core (v.of j) may.message.brick) (sym (r.known.messages.number i may.message may.at.said).0) (guards i may.message may.request may.at.said may.at.body on may.at.flying (torn_stood g (m.brick may.message.brick) count y may.request (change_writes g may.request on) granted (sym (read ∙ ap (λ (o : Out). o.version) (went (Some y))))))

  entry_guarded : (e : Entry) → MayEnter geometry.n m e → EntryGuarded g m v e
  entry_guarded (Executed i version failed) may = executed_guarded i version failed may
  entry_guarded (Torn i count version) may = torn_guarded i count version may
  entry_guarded (Called a client op) may = tt
  entry_guarded (Sent msg) may = tt
  entry_guarded (Heard i) may = tt
  entry_guarded (Lost i) may = tt
  entry_guarded (GivenUp client brick i) may = tt
  entry_guarded (Stopped c) may = tt
  entry_guarded (Returned c) may = tt
  entry_guarded (Cut client c) may = tt
  entry_guarded (Died client) may = tt
  entry_guarded (Yielded client) may = tt
  entry_guarded (Answered a answer) may = tt
  entry_guarded (Replaced c removed all) may = tt

-- ## Logs

pub first_of : (law : Net → View → Type 0) (g : ℕ) (es : List Entry) (m : Net) (v : View) → Always law g es m v → law m v
first_of law g [] m v h = h
first_of law g (e ∷ es) m v h = h.0

module _ (g : ℕ) (geometry : Geometry) (left : ℕ → Leaving) (none : (a : ℕ) → (left a).kept ≡ None) (first : ℕ) (origins : ℕ → ℕ) (new : (h : ℕ) → first ≤ h → origins h ≡ 0) where
  all_guarded : (es : List Entry) (m : Net) (vs : ℕ → View) (t : Story) (b : Books) (done : ℕ → Bool) → IsRun geometry.n es m → ArePlain es → Kept geometry left none (books geometry left es m t b) → Reaches geometry first origins m vs t b → Watched geometry g m (vs g) b done → Always DataBeforePosts g es m (vs g) → AllGuarded g es m (vs g)
  all_guarded [] m vs t b done runs plain kept k h before = tt
  all_guarded (e ∷ es) m vs t b done runs plain kept k h before =
      let p = plain_first e es plain in
      let may = kept_there geometry left none e es m t b runs plain (k.reached g).known.numbers kept in (
        entry_guarded geometry g m (vs g) b done (k.reached g) h before.0 e runs.0,
        all_guarded es (net_after m e) (λ h. seen_after h m (vs h) e) (told geometry m t e) (booked geometry left m t b e) (done_after m e done) runs.1 p.1 kept (reaches_then geometry left none first origins new m vs t b e p.0 runs.0 may k) (watched_entry geometry left none first origins new g m vs t b e p.0 runs.0 may k done h) before.1,
      )

guarded : GuardedInEveryLog
guarded config records bricks tree next g es start runs plain orderly before =
    all_guarded g config.geometry orderly.left orderly.none_kept next (λ h. (tree h).version) (λ h le. unversioned config records bricks tree next h start le) es (fresh bricks) (λ h. begun config records tree next h) (opening tree next) no_books (λ i. false) runs plain (λ a given h. (orderly.conduct a given h, orderly.order a given h))
    (reaches_start config records bricks tree next (λ a. a) most start) (watched_start config records bricks tree next g start) before
  where
    most : config.geometry.n < quorum config.geometry + quorum config.geometry
    most = let h = config.geometry.majority in omega (arith, h)

pub laws : WriteGuardLaws
laws = record { guarded = guarded }
