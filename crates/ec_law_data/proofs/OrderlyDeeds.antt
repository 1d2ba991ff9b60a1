-- The deeds of every log in which the calls keep the conduct in order may come, where data owe nothing.
use Rattle.ec_brick.specs.Step.{Out, executed as executed_at, quiet as quiet_out, torn_off as torn_at}
use Rattle.ec_brick.specs.Meets.{failing_at}
use Rattle.ec_attr.specs.declared.head.Head.{Head}
use Rattle.std.specs.Option.{option_map}
use Rattle.ec_law_data.proofs.Fenced.{Stood, done_stood, part_stood, torn_stood}
use Rattle.ec_conduct.specs.Conduct.{named_grant}
use Rattle.ec_law_net.proofs.Starting.{starts_linked}
use Rattle.ec_law_quorum.proofs.Begins.{inv_begin}
use Rattle.ec_law_quorum.proofs.Laws.{inv_after}
use Rattle.ec_law_quorum.specs.Wide.{Inv}
use Rattle.std.proofs.Common.{◌≡◌, ◌⊎◌, ℕ, ◌+◌, ◌<◌, ◌≤◌, Bool, true, false, ◌||◌, Option, Some, None, List, [], ◌∷◌, refl, sym, ◌∙◌, ap, subst, arith, inl, inr, ⊎_elim, cond, ◌^◌}
use Rattle.ec_attr.specs.declared.config.Config.{Config}
use Rattle.ec_attr.specs.declared.geometry.Geometry.{Geometry}
use Rattle.ec_brick.specs.State.{State as Brick}
use Rattle.ec_conduct.specs.Given.{quorum}
use Rattle.ec_history.specs.Accounts.{Books, Leaving, booked, books, no_books}
use Rattle.ec_history.specs.Flat.{Tree}
use Rattle.ec_history.specs.IsRun.{IsRun, May as MayEnter, MayExecute, MayTear}
use Rattle.ec_history.specs.Run.{Net, after as net_after, fresh, run, failing, out_of, torn_out}
use Rattle.ec_history.specs.Starts.{IsStart}
use Rattle.ec_history.specs.Story.{Story, opening, story, told, is_done}
use Rattle.ec_store.specs.Records.{Records}
use Rattle.ec_wire.specs.declared.entry.Entry.{Entry}
use Rattle.ec_wire.specs.declared.entry.Entry.TheVariants.{Called, Sent, Executed, Heard, Lost, GivenUp, Stopped, Returned, Cut, Died, Yielded, Torn, Answered, Replaced}
use Rattle.ec_wire.specs.declared.message.Body.{Body}
use Rattle.ec_wire.specs.declared.message.Body.TheVariants.{ToBrick, ToClient}
use Rattle.ec_wire.specs.declared.message.Message.{Message}
use Rattle.ec_wire.specs.declared.request.Request.{Request}
use Rattle.ec_wire.specs.declared.request.Request.TheVariants.{Ask, Release, Query, PreOp, ReadChunks, WriteChunks, SetLength, PostOp, Clear, NameGet, NamesAfter, NameSet, NamesPut, Make, Made, Unmake, Mark, Unmark, GfidsAfter}
use Rattle.ec_law_base.specs.State.{State}
use Rattle.ec_law_ballots.specs.Act.{after as after_acts}
use Rattle.ec_law_ballots.specs.Begin.{begin}
use Rattle.ec_law_ballots.specs.Guard.{Runs}
use Rattle.ec_law_pieces.specs.Deed.{Runs as DeedsRun}
use Rattle.ec_law_pieces.specs.File.{File}
use Rattle.ec_law_pieces.specs.Laws.{AfterEveryRun, Alike, Closed, InOrder, StandAgain}
use Rattle.ec_law_pieces.proofs.Laws.{laws as file_laws}
use Rattle.ec_law_net.specs.Start.{first_heads, is_new}
use Rattle.ec_law_net.specs.Turns.{View, acts, acts_sent, seen_after, turn_of, view}
use Rattle.ec_law_net.specs.Link.{Linked, IsHead}
use Rattle.ec_law_net.proofs.GrantEntries.{real_turn}
use Rattle.ec_law_turns.specs.Orderly.{ArePlain, IsOrderly}
use Rattle.ec_law_turns.specs.Sound.{IsSound, Names}
use Rattle.ec_law_turns.specs.Told.{Told}
use Rattle.ec_law_turns.specs.Reached.{Reached}
use Rattle.ec_law_ballots.specs.Words.{met, did}
use Rattle.ec_law_turns.proofs.Tracks.{Adds}
use Rattle.ec_law_turns.proofs.Basics.{equal, put_here, some_none, unequal}
use Rattle.ec_law_turns.proofs.Numbered.{IsPlainEntry}
use Rattle.ec_law_turns.proofs.Origins.{unversioned}
use Rattle.ec_law_turns.proofs.Runs.{Kept, kept_there, plain_first}
use Rattle.ec_law_turns.proofs.Sends.{adds}
use Rattle.ec_law_turns.proofs.Steps.{EntryKept, executed_same, heard_same, made_same, torn_same}
use Rattle.ec_law_data.specs.Deeds.{all_deeds, deeds, file_after, is_post_on}
use Rattle.ec_law_data.specs.Laws.{AfterEveryOwedLog, OwedLaws, begun, begun_file}
use Rattle.ec_law_data.specs.Link.{Fits, IsWriter, AllUnmarked, BodyUnmarked, EntryUnmarked, MessageUnmarked, NoMark}
use Rattle.ec_law_data.specs.Owing.{AllOwe}
use Rattle.ec_law_data.specs.Reading.{Plans, Reading}
use Rattle.ec_law_data.proofs.Cores.{entry_heads, lead_on}
use Rattle.ec_law_data.proofs.Guards.{is_marking, owe_both, run_both}
use Rattle.ec_law_data.proofs.Planning.{post_met, writer_number, did_pre_met, writer_names}
use Rattle.ec_law_data.proofs.Reaching.{Reaches, gone, reached_then, reaches_start, reaches_then}
use Rattle.ec_law_data.proofs.Settling.{EntryKnown, MessageKnown, PlanKnown, PostKnown, entry_come, entry_plans, newly_planned, BodyTorn, BodyWritten, MessageTorn, MessageWritten, WriteKnown}

-- a PostOp that goes out finds its turn with a ballot
post_number : (n k g : ℕ) (said : ℕ → Option Message) (of : ℕ → ℕ) (s : State) (t a b : ℕ) (q : Request) → is_post_on g q ≡ true → Told n k g said of (after_acts (acts_sent g s t (ToBrick q)) s) a b q → 0 < (s.ballot a).number
post_number most k g said of s t a b (PostOp x i at version size attr) on told = (told (equal x.0 g on)).ballot
post_number most k g said of s t a b (Ask x domain kind) on told = absurd (cc)
post_number most k g said of s t a b (Release x n) on told = absurd (cc)
post_number most k g said of s t a b (Query x n) on told = absurd (cc)
post_number most k g said of s t a b (PreOp x n at dirty) on told = absurd (cc)
post_number most k g said of s t a b (ReadChunks x n first count) on told = absurd (cc)
post_number most k g said of s t a b (WriteChunks x n first chunks) on told = absurd (cc)
post_number most k g said of s t a b (SetLength x n keep count) on told = absurd (cc)
post_number most k g said of s t a b (Clear x n at) on told = absurd (cc)
post_number most k g said of s t a b (NameGet x n name) on told = absurd (cc)
post_number most k g said of s t a b (NamesAfter x n start) on told = absurd (cc)
post_number most k g said of s t a b (NameSet x n name child) on told = absurd (cc)
post_number most k g said of s t a b (NamesPut x n start upto list) on told = absurd (cc)
post_number most k g said of s t a b (Make x n child) on told = absurd (cc)
post_number most k g said of s t a b (Made x n child) on told = absurd (cc)
post_number most k g said of s t a b (Unmake x n child) on told = absurd (cc)
post_number most k g said of s t a b (Mark x n heal head) on told = absurd (cc)
post_number most k g said of s t a b (Unmark x n at dirty) on told = absurd (cc)
post_number most k g said of s t a b (GfidsAfter start dirty) on told = absurd (cc)

-- no heal marks a record of the gfid
pub unmarking : (g : ℕ) (said : ℕ → Option Message) (of : ℕ → ℕ) (moment : ℕ → Bool) (a b i : ℕ) (q : Request) → IsSound g said of moment a b i q → is_marking g q ≡ false
unmarking g said of moment a b i (Ask x domain kind) s = refl
unmarking g said of moment a b i (Release x n) s = refl
unmarking g said of moment a b i (Query x n) s = refl
unmarking g said of moment a b i (PreOp x n at dirty) s = refl
unmarking g said of moment a b i (ReadChunks x n first count) s = refl
unmarking g said of moment a b i (WriteChunks x n first chunks) s = refl
unmarking g said of moment a b i (SetLength x n keep count) s = refl
unmarking g said of moment a b i (PostOp x n at version size attr) s = refl
unmarking g said of moment a b i (Clear x n at) s = refl
unmarking g said of moment a b i (NameGet x n name) s = refl
unmarking g said of moment a b i (NamesAfter x n start) s = refl
unmarking g said of moment a b i (NameSet x n name child) s = refl
unmarking g said of moment a b i (NamesPut x n start upto list) s = refl
unmarking g said of moment a b i (Make x n child) s = refl
unmarking g said of moment a b i (Made x n child) s = refl
unmarking g said of moment a b i (Unmake x n child) s = refl
unmarking g said of moment a b i (Mark x n heal head) s = unequal x.0 g s
unmarking g said of moment a b i (Unmark x n at dirty) s = unequal x.0 g s
unmarking g said of moment a b i (GfidsAfter start dirty) s = refl

or_right : (t u : Bool) → u ≡ true → (t || u) ≡ true
or_right true u e = refl
or_right false u e = e

either_true : (t u : Bool) → (t || u) ≡ true → (t ≡ true) ⊎ (u ≡ true)
either_true true u e = inl refl
either_true false u e = inr e

module _ {P V C U S : Type 0} (R : Reading P V C U S) (fits : Fits R) (plans : Plans P V U S) (g : ℕ) where
  -- The machine of pieces stands beside that of versions; each turn is a call of its own, and has planned by its first data request
  -- or PostOp.
  record FileKnown (n k : ℕ) (m : Net) (v : View) (f : File P V C U S) : Type 0 where
    heads : f.heads ≡ v.core
    call : (a : ℕ) → f.heads.call a ≡ a
    own : (a : ℕ) → f.writes a ≡ f.planned a
    planned : (i : ℕ) (x : Message) (q : Request) → m.said i ≡ Some x → x.body ≡ ToBrick q → (R.is_write g q || is_post_on g q) ≡ true → f.planned (v.of i) ≡ true
    named : (i : ℕ) (x : Message) (q : Request) → m.said i ≡ Some x → x.body ≡ ToBrick q → IsWriter g q → (grant : ℕ) × (named_grant q ≡ Some grant) × Names g m.said v.of x.call x.brick i grant
    inv : Inv n k v.core

  module _ (geometry : Geometry) (left : ℕ → Leaving) (none : (a : ℕ) → (left a).kept ≡ None) (first : ℕ) (origins : ℕ → ℕ) (new : (h : ℕ) → first ≤ h → origins h ≡ 0) where
    module _ (m : Net) (vs : ℕ → View) (t : Story) (b : Books) (e : Entry) (plain : IsPlainEntry e) (may : MayEnter geometry.n m e) (kept : EntryKept m b e) (k : Reaches geometry first origins m vs t b) (f : File P V C U S) (known : FileKnown geometry.n (quorum geometry) m (vs g) f) where
      abbrev n : ℕ
      n = geometry.n

      abbrev q' : ℕ
      q' = quorum geometry

      message_known : (i : ℕ) (o : Option Message) → m.said i ≡ o → MessageKnown R plans n q' g m (vs g) f o
      message_known i None e = tt
      message_known i (Some msg) e = body msg.body refl
        where
          body : (z : Body) → msg.body ≡ z → PostKnown R plans n q' g m (vs g) f msg z
          body (ToClient re reply) is = tt
          body (ToBrick q) is =
              let r = k.reached g in
              let number = (r.known.messages.number i msg e).0 in
              (unmarking g m.said (vs g).of (vs g).core.moment msg.call msg.brick i q (r.known.sound i msg q e is), λ on. subst (λ (j : ℕ). (f.planned ((vs g).of j) ≡ true) × (met f.heads ((vs g).of j) msg.brick ≡ true)) (sym number) (known.planned i msg q e is (or_right (R.is_write g q) (is_post_on g q) on), ap (λ (s : State). met s ((vs g).of i) msg.brick) known.heads ∙ post_met n q' g m (vs g) r.once r.shown.asked r.known.sound i msg q e is on))

      sent_known : (msg : Message) → e ≡ Sent msg → PlanKnown R plans n q' g m (vs g) f msg msg.body
      sent_known msg is = body msg.body refl
        where
          may' : MayEnter n m (Sent msg)
          may' = subst (λ (z : Entry). MayEnter n m z) is may

          kept' : EntryKept m b (Sent msg)
          kept' = subst (λ (z : Entry). EntryKept m b z) is kept

          body : (z : Body) → msg.body ≡ z → PlanKnown R plans n q' g m (vs g) f msg z
          body (ToClient re reply) z = tt
          body (ToBrick q) z = λ w. (number (either_true (R.is_write g q) (is_post_on g q) w), ap (λ (s : State). s.old (turn_of g (vs g) msg)) known.heads ∙ real_turn n g m (vs g) msg r.linked r.locks may'.0)
            where
              r : Reached geometry g m (vs g) b
              r = k.reached g

              told_then : Told n q' g (net_after m (Sent msg)).said (seen_after g m (vs g) (Sent msg)).of (after_acts (acts_sent g (vs g).core (turn_of g (vs g) msg) (ToBrick q)) (vs g).core) (turn_of g (vs g) msg) msg.brick q
              told_then = subst (λ (y : ℕ). Told n q' g (net_after m (Sent msg)).said (seen_after g m (vs g) (Sent msg)).of (after_acts (acts_sent g (vs g).core (turn_of g (vs g) msg) (ToBrick q)) (vs g).core) y msg.brick q) (put_here (vs g).of msg.no (turn_of g (vs g) msg) msg.no refl)
                  (subst (λ (y : Body). Told n q' g (net_after m (Sent msg)).said (seen_after g m (vs g) (Sent msg)).of (after_acts (acts_sent g (vs g).core (turn_of g (vs g) msg) y) (vs g).core) ((seen_after g m (vs g) (Sent msg)).of msg.no) msg.brick q) z
                  ((subst (λ (y : Entry). Reached geometry g (net_after m y) (seen_after g m (vs g) y) (booked geometry left m t b y)) is (reached_then geometry left none first origins new m vs t b e plain may kept k g)).shown.asked msg.no msg q (put_here m.said msg.no (Some msg) msg.no refl) z))

              number : (R.is_write g q ≡ true) ⊎ (is_post_on g q ≡ true) → 0 < (f.heads.ballot (turn_of g (vs g) msg)).number
              number (inl w) = subst (λ (s : State). 0 < (s.ballot (turn_of g (vs g) msg)).number) (sym known.heads) (writer_number geometry g m (vs g) b msg may'.0 may'.1 kept' r.known r.shown q z (fits.writers g q w))
              number (inr w) = subst (λ (s : State). 0 < (s.ballot (turn_of g (vs g) msg)).number) (sym known.heads) (post_number n q' g (net_after m (Sent msg)).said (seen_after g m (vs g) (Sent msg)).of (vs g).core (turn_of g (vs g) msg) (turn_of g (vs g) msg) msg.brick q w told_then)

      -- a data request at a brick that did the turn's PreOp on an unmarked record
      write_known : (i : ℕ) (msg : Message) (q : Request) → m.said i ≡ Some msg → msg.body ≡ ToBrick q → R.is_write g q ≡ true → Stood g (m.brick msg.brick) q → WriteKnown R.form n q' f ((vs g).of msg.no) msg.brick
      write_known i msg q said body write stood =
          let r = k.reached g in
          subst (λ (j : ℕ). WriteKnown R.form n q' f ((vs g).of j) msg.brick) (sym (r.known.messages.number i msg said).0)
          (λ pre before.
          let w = known.named i msg q said body (fits.writers g q write) in
          let lt = r.linked.to i msg q said body in
          let a = (vs g).of i in
          let grant = some_same stood.grant w.0 (sym stood.names ∙ w.1) in
          let holder = r.linked.holders msg.brick lt ∙ (ap (option_map (vs g).of) stood.stands ∙ ap (λ (y : ℕ). Some ((vs g).of y)) grant) ∙ ap (λ (y : ℕ). Some y) w.2.turn in
          let there = (subst (λ (o : Option Head). IsHead o (vs g).core msg.brick) stood.there (r.linked.heads msg.brick lt)).0 in
          let pre' = subst (λ (s : State). s.pre a msg.brick ≡ true) known.heads pre in
          let before' = subst (λ (s : State). did s a msg.brick ≡ false) known.heads before in
          let local = known.inv.local msg.brick in
          let still = local.still_pre a holder pre' (first_false ((vs g).core.post a msg.brick) ((vs g).core.spost a msg.brick) before') there in
          record {
            holds = subst (λ (s : State). s.holder msg.brick ≡ Some a) (sym known.heads) holder;
            base = subst (λ (s : State). (s.present msg.brick ≡ true) × (s.version msg.brick ≡ (s.ballot a).base) × (0 < (s.ballot a).number)) (sym known.heads) (there, still.0, (local.pre_seen a pre').1);
            planned = known.planned i msg q said body (or_left (R.is_write g q) (is_post_on g q) write);
            met = ap (λ (s : State). met s a msg.brick) known.heads ∙ did_pre_met n q' g m (vs g) r.once r.shown.asked r.known.sound a msg.brick w.2.begun pre';
          })
        where
          some_same : (x y : ℕ) → Some x ≡ Some y → x ≡ y
          some_same x y e = cc

          first_false : (t u : Bool) → (t || u) ≡ false → t ≡ false
          first_false false u e = refl
          first_false true u e = absurd (cc)

          or_left : (t u : Bool) → t ≡ true → (t || u) ≡ true
          or_left true u e = refl
          or_left false u e = absurd (cc)

      message_written : (i : ℕ) (version : Option ℕ) (failed : Bool) → MayExecute m i version failed → MessageWritten R plans n q' g m (vs g) f (m.said i) version failed
      message_written i version failed may' =
          subst (λ (o : Option Message). MessageWritten R plans n q' g m (vs g) f o version failed) (sym may'.at.said)
          (subst (λ (z : Body). BodyWritten R plans n q' g m (vs g) f may'.message z version failed) (sym may'.at.body)
          (by failed version may'.read))
        where
          went : (version : Option ℕ) (failed : Bool) → out_of m may'.message may'.request version failed ≡ executed_at (m.brick may'.message.brick) (failing failed version) may'.message.client may'.message.no may'.request
          went version failed = ap (λ (t : Bool). cond t (executed_at (m.brick may'.message.brick) (failing failed version) may'.message.client may'.message.no may'.request) (quiet_out (m.brick may'.message.brick))) may'.at.up

          by : (failed : Bool) (version : Option ℕ) → version ≡ (out_of m may'.message may'.request version failed).version → BodyWritten R plans n q' g m (vs g) f may'.message (ToBrick may'.request) version failed
          by false version read = λ write granted done. write_known i may'.message may'.request may'.at.said may'.at.body write (done_stood g (m.brick may'.message.brick) may'.message.client may'.message.no may'.request (fits.writers g may'.request write) granted (subst (λ (o : Out). is_done o.says ≡ true) (went version false) done))
          by true None read = tt
          by true (Some x) read = λ write granted. write_known i may'.message may'.request may'.at.said may'.at.body write (part_stood g (m.brick may'.message.brick) may'.message.client may'.message.no x may'.request (fits.writers g may'.request write) granted (sym (read ∙ ap (λ (o : Out). o.version) (went (Some x) true))))

      message_torn : (i count : ℕ) (version : Option ℕ) → MayTear m i count version → MessageTorn R plans n q' g m (vs g) f (m.said i) version
      message_torn i count version may' =
          subst (λ (o : Option Message). MessageTorn R plans n q' g m (vs g) f o version) (sym may'.at.said)
          (subst (λ (z : Body). BodyTorn R plans n q' g m (vs g) f may'.message z version) (sym may'.at.body)
          (by version may'.read))
        where
          went : (version : Option ℕ) → torn_out m may'.message may'.request count version ≡ torn_at (m.brick may'.message.brick) (failing_at version) may'.request count
          went version = ap (λ (t : Bool). cond t (torn_at (m.brick may'.message.brick) (failing_at version) may'.request count) (quiet_out (m.brick may'.message.brick))) may'.at.up

          by : (version : Option ℕ) → version ≡ (torn_out m may'.message may'.request count version).version → BodyTorn R plans n q' g m (vs g) f may'.message (ToBrick may'.request) version
          by None read = tt
          by (Some x) read = λ write granted. write_known i may'.message may'.request may'.at.said may'.at.body write (torn_stood g (m.brick may'.message.brick) count x may'.request (fits.writers g may'.request write) granted (sym (read ∙ ap (λ (o : Out). o.version) (went (Some x)))))

      entry_known : (x : Entry) → e ≡ x → EntryKnown R plans n q' g m (vs g) f x
      entry_known (Sent msg) is = (ap f.writes (known.call (turn_of g (vs g) msg)) ∙ known.own (turn_of g (vs g) msg), sent_known msg is)
      entry_known (Executed i version failed) is = (message_known i (m.said i) refl, message_written i version failed (subst (λ (z : Entry). MayEnter n m z) is may))
      entry_known (Called a client op) is = tt
      entry_known (Heard i) is = tt
      entry_known (Lost i) is = tt
      entry_known (GivenUp client brick i) is = tt
      entry_known (Stopped c) is = tt
      entry_known (Returned c) is = tt
      entry_known (Cut client c) is = tt
      entry_known (Died client) is = tt
      entry_known (Yielded client) is = tt
      entry_known (Torn i count version) is = message_torn i count version (subst (λ (z : Entry). MayEnter n m z) is may)
      entry_known (Answered a answer) is = tt
      entry_known (Replaced c removed all) is = tt

      -- the deeds of the entry
      deeds_come : AllOwe R.form n q' (deeds R plans n q' g m (vs g) f e) f → DeedsRun R.form n q' (deeds R plans n q' g m (vs g) f e) f
      deeds_come = entry_come R plans n q' g m (vs g) f e (entry_known e refl) (subst (Runs n q' (acts g m (vs g) e)) (sym known.heads) (gone geometry left none first origins new m vs t b e plain may kept k g).runs)

      abbrev f' : File P V C U S
      f' = file_after R plans n q' g m (vs g) f e

      planned_same : (x : Entry) → e ≡ x → (net_after m x).said ≡ m.said → (seen_after g m (vs g) x).of ≡ (vs g).of → (i : ℕ) (msg : Message) (q : Request) → (net_after m x).said i ≡ Some msg → msg.body ≡ ToBrick q → (R.is_write g q || is_post_on g q) ≡ true → (file_after R plans n q' g m (vs g) f x).planned ((seen_after g m (vs g) x).of i) ≡ true
      planned_same x same said of i msg q is body w = (entry_plans R plans n q' g m (vs g) f x (entry_known x same)).stay ((seen_after g m (vs g) x).of i) (ap (λ (z : ℕ → ℕ). f.planned (z i)) of ∙ known.planned i msg q (sym (ap (λ (z : ℕ → Option Message). z i) said) ∙ is) body w)

      planned_sent : (msg : Message) → e ≡ Sent msg → (i : ℕ) (x : Message) (q : Request) → (net_after m (Sent msg)).said i ≡ Some x → x.body ≡ ToBrick q → (R.is_write g q || is_post_on g q) ≡ true → (file_after R plans n q' g m (vs g) f (Sent msg)).planned ((seen_after g m (vs g) (Sent msg)).of i) ≡ true
      planned_sent msg is i x q said body w = ⊎_elim
          (λ z. subst (λ (j : ℕ). (file_after R plans n q' g m (vs g) f (Sent msg)).planned ((seen_after g m (vs g) (Sent msg)).of j) ≡ true) (sym z.0) (ap (file_after R plans n q' g m (vs g) f (Sent msg)).planned (put_here (vs g).of msg.no (turn_of g (vs g) msg) msg.no refl) ∙ newly_planned R plans n q' g m (vs g) f msg q (ap (λ (y : Message). y.body) z.1 ∙ body) w))
          (λ z. ap (file_after R plans n q' g m (vs g) f (Sent msg)).planned (more.still i x z).1 ∙ (entry_plans R plans n q' g m (vs g) f (Sent msg) (entry_known (Sent msg) is)).stay ((vs g).of i) (known.planned i x q z body w))
          (more.newest i x said)
        where
          more : Adds m.said (net_after m (Sent msg)).said (vs g).of (seen_after g m (vs g) (Sent msg)).of msg.no msg
          more = adds n g m (vs g) msg (subst (λ (z : Entry). MayEnter n m z) is may).0 (k.reached g).known.messages

      planned_then : (x : Entry) → e ≡ x → (i : ℕ) (msg : Message) (q : Request) → (net_after m x).said i ≡ Some msg → msg.body ≡ ToBrick q → (R.is_write g q || is_post_on g q) ≡ true → (file_after R plans n q' g m (vs g) f x).planned ((seen_after g m (vs g) x).of i) ≡ true
      planned_then (Called a client op) is = planned_same (Called a client op) is refl (made_same g (vs g) a op).1
      planned_then (Sent msg) is = planned_sent msg is
      planned_then (Executed i version failed) is = planned_same (Executed i version failed) is (executed_same m (m.said i) version failed).0 refl
      planned_then (Heard i) is = planned_same (Heard i) is (heard_same m (m.said i)).0 refl
      planned_then (Torn i count version) is = planned_same (Torn i count version) is (torn_same m (m.said i) count version).0 refl
      planned_then (Lost i) is = planned_same (Lost i) is refl refl
      planned_then (GivenUp client brick i) is = planned_same (GivenUp client brick i) is refl refl
      planned_then (Stopped c) is = planned_same (Stopped c) is refl refl
      planned_then (Returned c) is = planned_same (Returned c) is refl refl
      planned_then (Cut client c) is = planned_same (Cut client c) is refl refl
      planned_then (Died client) is = planned_same (Died client) is refl refl
      planned_then (Yielded client) is = planned_same (Yielded client) is refl refl
      planned_then (Answered a answer) is = planned_same (Answered a answer) is refl refl
      planned_then (Replaced c removed all) is = planned_same (Replaced c removed all) is refl refl

      -- the grants that data requests name
      abbrev Named : (ℕ → Option Message) → (ℕ → ℕ) → Type 0
      Named said of = (i : ℕ) (x : Message) (q : Request) → said i ≡ Some x → x.body ≡ ToBrick q → IsWriter g q → (grant : ℕ) × (named_grant q ≡ Some grant) × Names g said of x.call x.brick i grant

      named_same : (x : Entry) → (net_after m x).said ≡ m.said → (seen_after g m (vs g) x).of ≡ (vs g).of → Named (net_after m x).said (seen_after g m (vs g) x).of
      named_same x said of = subst (λ (h : ℕ → Option Message). Named h (seen_after g m (vs g) x).of) (sym said) (subst (λ (h : ℕ → ℕ). Named m.said h) (sym of) known.named)

      named_sent : (msg : Message) → e ≡ Sent msg → Named (net_after m (Sent msg)).said (seen_after g m (vs g) (Sent msg)).of
      named_sent msg is i x q said body w = ⊎_elim
          (λ z. subst (λ (y : Message). (grant : ℕ) × (named_grant q ≡ Some grant) × Names g (net_after m (Sent msg)).said (seen_after g m (vs g) (Sent msg)).of y.call y.brick i grant) z.1 (subst (λ (j : ℕ). (grant : ℕ) × (named_grant q ≡ Some grant) × Names g (net_after m (Sent msg)).said (seen_after g m (vs g) (Sent msg)).of msg.call msg.brick j grant) (sym z.0) (writer_names geometry g m (vs g) b msg may'.0 may'.1 (subst (λ (z : Entry). EntryKept m b z) is kept) (k.reached g).known (k.reached g).shown q (ap (λ (y : Message). y.body) z.1 ∙ body) w)))
          (λ z. let o = known.named i x q z body w in (o.0, o.1, later i x z o.0 o.2))
          (more.newest i x said)
        where
          may' : MayEnter n m (Sent msg)
          may' = subst (λ (z : Entry). MayEnter n m z) is may

          more : Adds m.said (net_after m (Sent msg)).said (vs g).of (seen_after g m (vs g) (Sent msg)).of msg.no msg
          more = adds n g m (vs g) msg (subst (λ (z : Entry). MayEnter n m z) is may).0 (k.reached g).known.messages

          later : (i : ℕ) (x : Message) → m.said i ≡ Some x → (grant : ℕ) → Names g m.said (vs g).of x.call x.brick i grant → Names g (net_after m (Sent msg)).said (seen_after g m (vs g) (Sent msg)).of x.call x.brick i grant
          later i x said grant h = record {
            lock = record { gfid = h.lock.gfid; kind = h.lock.kind; on = h.lock.on; asks = record { message = h.lock.asks.message; is = (more.still grant h.lock.asks.message h.lock.asks.is).0; call = h.lock.asks.call; brick = h.lock.asks.brick; body = h.lock.asks.body } };
            turn = (more.still grant h.lock.asks.message h.lock.asks.is).1 ∙ (h.turn ∙ sym (more.still i x said).1);
            begun = subst (λ (t : ℕ). 2 ^ 61 ≤ t) (sym (more.still i x said).1) h.begun;
          }

      named_then : (x : Entry) → e ≡ x → Named (net_after m x).said (seen_after g m (vs g) x).of
      named_then (Called a client op) is = named_same (Called a client op) refl (made_same g (vs g) a op).1
      named_then (Sent msg) is = named_sent msg is
      named_then (Executed i version failed) is = named_same (Executed i version failed) (executed_same m (m.said i) version failed).0 refl
      named_then (Heard i) is = named_same (Heard i) (heard_same m (m.said i)).0 refl
      named_then (Torn i count version) is = named_same (Torn i count version) (torn_same m (m.said i) count version).0 refl
      named_then (Lost i) is = named_same (Lost i) refl refl
      named_then (GivenUp client brick i) is = named_same (GivenUp client brick i) refl refl
      named_then (Stopped c) is = named_same (Stopped c) refl refl
      named_then (Returned c) is = named_same (Returned c) refl refl
      named_then (Cut client c) is = named_same (Cut client c) refl refl
      named_then (Died client) is = named_same (Died client) refl refl
      named_then (Yielded client) is = named_same (Yielded client) refl refl
      named_then (Answered a answer) is = named_same (Answered a answer) refl refl
      named_then (Replaced c removed all) is = named_same (Replaced c removed all) refl refl

      most : geometry.n < quorum geometry + quorum geometry
      most = let h = geometry.majority in omega (arith, h)

      known_then : FileKnown geometry.n (quorum geometry) (net_after m e) (seen_after g m (vs g) e) f'
      known_then =
          let o = entry_plans R plans n q' g m (vs g) f e (entry_known e refl) in
          record {
            heads = entry_heads R plans n q' g m (vs g) f e known.heads;
            call = λ a. ap (λ (z : ℕ → ℕ). z a) o.call ∙ known.call a;
            own = o.own known.call known.own;
            planned = planned_then e refl;
            named = named_then e refl;
            inv = inv_after n q' most (omega arith) (acts g m (vs g) e) (vs g).core (gone geometry left none first origins new m vs t b e plain may kept k g).runs known.inv;
          }

    all_come : (es : List Entry) (m : Net) (vs : ℕ → View) (t : Story) (b : Books) (f : File P V C U S) → IsRun geometry.n es m → ArePlain es → Kept geometry left none (books geometry left es m t b) → Reaches geometry first origins m vs t b → FileKnown geometry.n (quorum geometry) m (vs g) f → AllOwe R.form geometry.n (quorum geometry) (all_deeds R plans geometry.n (quorum geometry) g es m (vs g) f) f → DeedsRun R.form geometry.n (quorum geometry) (all_deeds R plans geometry.n (quorum geometry) g es m (vs g) f) f
    all_come [] m vs t b f runs plain kept k known owes = refl
    all_come (e ∷ es) m vs t b f runs plain kept k known owes =
        let p = plain_first e es plain in
        let may = kept_there geometry left none e es m t b runs plain (k.reached g).known.numbers kept in
        let o = owe_both R.form geometry.n (quorum geometry) (deeds R plans geometry.n (quorum geometry) g m (vs g) f e) (all_deeds R plans geometry.n (quorum geometry) g es (net_after m e) (seen_after g m (vs g) e) (file_after R plans geometry.n (quorum geometry) g m (vs g) f e)) f owes in
        run_both R.form geometry.n (quorum geometry) (deeds R plans geometry.n (quorum geometry) g m (vs g) f e) (all_deeds R plans geometry.n (quorum geometry) g es (net_after m e) (seen_after g m (vs g) e) (file_after R plans geometry.n (quorum geometry) g m (vs g) f e)) f
        (deeds_come m vs t b e p.0 runs.0 may k f known o.0)
        (all_come es (net_after m e) (λ h. seen_after h m (vs h) e) (told geometry m t e) (booked geometry left m t b e) (file_after R plans geometry.n (quorum geometry) g m (vs g) f e) runs.1 p.1 kept (reaches_then geometry left none first origins new m vs t b e p.0 runs.0 may k) (known_then m vs t b e p.0 runs.0 may k f known) o.1)

-- all that a log has come to by its end
pub all_reach : (geometry : Geometry) (left : ℕ → Leaving) (none : (a : ℕ) → (left a).kept ≡ None) (first : ℕ) (origins : ℕ → ℕ) (new : (h : ℕ) → first ≤ h → origins h ≡ 0) (es : List Entry) (m : Net) (vs : ℕ → View) (t : Story) (b : Books) → IsRun geometry.n es m → ArePlain es → Kept geometry left none (books geometry left es m t b) → Reaches geometry first origins m vs t b → Reaches geometry first origins (run es m) (λ h. view h es m (vs h)) (story geometry es m t) (books geometry left es m t b)
all_reach geometry left none first origins new [] m vs t b runs plain kept k = k
all_reach geometry left none first origins new (e ∷ es) m vs t b runs plain kept k =
    let p = plain_first e es plain in
    let may = kept_there geometry left none e es m t b runs plain (k.reached 0).known.numbers kept in
    all_reach geometry left none first origins new es (net_after m e) (λ h. seen_after h m (vs h) e) (told geometry m t e) (booked geometry left m t b e) runs.1 p.1 kept (reaches_then geometry left none first origins new m vs t b e p.0 runs.0 may k)

-- no record is marked by an orderly log
sound_unmarked : {P V C U S : Type 0} (R : Reading P V C U S) (g : ℕ) (said : ℕ → Option Message) (of : ℕ → ℕ) (moment : ℕ → Bool) (a b i : ℕ) (q : Request) → IsSound g said of moment a b i q → NoMark R g q
sound_unmarked R g said of moment a b i (Ask x domain kind) s = tt
sound_unmarked R g said of moment a b i (Release x n) s = tt
sound_unmarked R g said of moment a b i (Query x n) s = tt
sound_unmarked R g said of moment a b i (PreOp x n at dirty) s = tt
sound_unmarked R g said of moment a b i (ReadChunks x n first count) s = tt
sound_unmarked R g said of moment a b i (WriteChunks x n first chunks) s = tt
sound_unmarked R g said of moment a b i (SetLength x n keep count) s = tt
sound_unmarked R g said of moment a b i (PostOp x n at version size attr) s = tt
sound_unmarked R g said of moment a b i (Clear x n at) s = tt
sound_unmarked R g said of moment a b i (NameGet x n name) s = tt
sound_unmarked R g said of moment a b i (NamesAfter x n start) s = tt
sound_unmarked R g said of moment a b i (NameSet x n name child) s = tt
sound_unmarked R g said of moment a b i (NamesPut x n start upto list) s = tt
sound_unmarked R g said of moment a b i (Make x n child) s = tt
sound_unmarked R g said of moment a b i (Made x n child) s = tt
sound_unmarked R g said of moment a b i (Unmake x n child) s = tt
sound_unmarked R g said of moment a b i (Mark x n heal head) s = s
sound_unmarked R g said of moment a b i (Unmark x n at dirty) s = tt
sound_unmarked R g said of moment a b i (GfidsAfter start dirty) s = tt

pub all_unmarked : {P V C U S : Type 0} (R : Reading P V C U S) (g : ℕ) (geometry : Geometry) (left : ℕ → Leaving) (none : (a : ℕ) → (left a).kept ≡ None) (first : ℕ) (origins : ℕ → ℕ) (new : (h : ℕ) → first ≤ h → origins h ≡ 0) (es : List Entry) (m : Net) (vs : ℕ → View) (t : Story) (b : Books) → IsRun geometry.n es m → ArePlain es → Kept geometry left none (books geometry left es m t b) → Reaches geometry first origins m vs t b → AllUnmarked R g es m
all_unmarked R g geometry left none first origins new [] m vs t b runs plain kept k = tt
all_unmarked R g geometry left none first origins new (e ∷ es) m vs t b runs plain kept k =
    let p = plain_first e es plain in
    let may = kept_there geometry left none e es m t b runs plain (k.reached 0).known.numbers kept in
    (entry e, all_unmarked R g geometry left none first origins new es (net_after m e) (λ h. seen_after h m (vs h) e) (told geometry m t e) (booked geometry left m t b e) runs.1 p.1 kept (reaches_then geometry left none first origins new m vs t b e p.0 runs.0 may k))
  where
    message : (i : ℕ) (o : Option Message) → m.said i ≡ o → MessageUnmarked R g o
    message i None e = tt
    message i (Some msg) e = body msg.body refl
      where
        body : (z : Body) → msg.body ≡ z → BodyUnmarked R g z
        body (ToClient re reply) is = tt
        body (ToBrick q) is = sound_unmarked R g m.said (vs g).of (vs g).core.moment msg.call msg.brick i q ((k.reached g).known.sound i msg q e is)

    entry : (x : Entry) → EntryUnmarked R g m x
    entry (Executed i version failed) = message i (m.said i) refl
    entry (Called a client op) = tt
    entry (Sent msg) = tt
    entry (Heard i) = tt
    entry (Lost i) = tt
    entry (GivenUp client brick i) = tt
    entry (Stopped c) = tt
    entry (Returned c) = tt
    entry (Cut client c) = tt
    entry (Died client) = tt
    entry (Yielded client) = tt
    entry (Torn i count version) = tt
    entry (Answered a answer) = tt
    entry (Replaced c removed all) = tt

pub unmarked_log : {P V C U S : Type 0} (R : Reading P V C U S) (config : Config) (records : ℕ → Records) (bricks : ℕ → Brick) (tree : Tree) (next g : ℕ) (es : List Entry) → IsStart config records bricks tree next → IsRun config.geometry.n es (fresh bricks) → ArePlain es → IsOrderly config.geometry es (fresh bricks) (opening tree next) → AllUnmarked R g es (fresh bricks)
unmarked_log R config records bricks tree next g es start runs plain orderly =
    all_unmarked R g config.geometry orderly.left orderly.none_kept next (λ h. (tree h).version) (λ h le. unversioned config records bricks tree next h start le) es (fresh bricks) (λ h. begun config records tree next h) (opening tree next) no_books runs plain (λ a given h. (orderly.conduct a given h, orderly.order a given h)) (reaches_start config records bricks tree next (λ a. a) most start)
  where
    most : config.geometry.n < quorum config.geometry + quorum config.geometry
    most = let h = config.geometry.majority in omega (arith, h)

-- the machine of versions has the heads of the bricks at the end of an orderly log
pub linked_end : (config : Config) (records : ℕ → Records) (bricks : ℕ → Brick) (tree : Tree) (next g : ℕ) (es : List Entry) → IsStart config records bricks tree next → IsRun config.geometry.n es (fresh bricks) → ArePlain es → IsOrderly config.geometry es (fresh bricks) (opening tree next) → Linked config.geometry.n g (run es (fresh bricks)) (view g es (fresh bricks) (begun config records tree next g))
linked_end config records bricks tree next g es start runs plain orderly =
    ((all_reach config.geometry orderly.left orderly.none_kept next (λ h. (tree h).version) (λ h le. unversioned config records bricks tree next h start le) es (fresh bricks) (λ h. begun config records tree next h) (opening tree next) no_books runs plain (λ a given h. (orderly.conduct a given h, orderly.order a given h)) (reaches_start config records bricks tree next (λ a. a) most start)).reached g).linked
  where
    most : config.geometry.n < quorum config.geometry + quorum config.geometry
    most = let h = config.geometry.majority in omega (arith, h)

module _ {P V C U S : Type 0} where
  pub by_log : (R : Reading P V C U S) → Fits R → (law : ℕ → ℕ → File P V C U S → Type 0) → AfterEveryRun R.form law → AfterEveryOwedLog R law
  by_log R fits law holds plans config records bricks tree next g es start runs plain orderly flat shape piece st version owes =
      subst (λ (f : File P V C U S). law config.geometry.n (quorum config.geometry) f) (sym (lead_on R plans config.geometry.n (quorum config.geometry) g es (fresh bricks) (begun config records tree next g) f0))
      (holds config.geometry.n (quorum config.geometry) most (omega arith) flat (first_heads config.geometry.n records g) (is_new config.geometry.n records g) (λ a. a) shape piece st (all_deeds R plans config.geometry.n (quorum config.geometry) g es (fresh bricks) (begun config records tree next g) f0)
      (all_come R fits plans g config.geometry orderly.left orderly.none_kept next (λ h. (tree h).version) (λ h le. unversioned config records bricks tree next h start le) es (fresh bricks) (λ h. begun config records tree next h) (opening tree next) no_books f0 runs plain (λ a given h. (orderly.conduct a given h, orderly.order a given h))
      (reaches_start config records bricks tree next (λ a. a) most start) (record {
        heads = ap (λ (origin : ℕ). begin config.geometry.n origin (first_heads config.geometry.n records g) (is_new config.geometry.n records g) (λ a. a)) version;
        call = λ a. refl;
        own = λ a. refl;
        planned = λ i x q e body w. absurd (some_none x (sym e));
        named = λ i x q e body w. absurd (some_none x (sym e));
        inv = inv_begin config.geometry.n (quorum config.geometry) most (omega arith) (tree g).version (first_heads config.geometry.n records g) (is_new config.geometry.n records g) (λ a. a) (starts_linked config records bricks tree next g (λ a. a) positive start).standing;
      }) owes))
    where
      f0 : File P V C U S
      f0 = begun_file R config records g flat shape piece st.value

      most : config.geometry.n < quorum config.geometry + quorum config.geometry
      most = let h = config.geometry.majority in omega (arith, h)

      positive : 0 < quorum config.geometry
      positive = let h = config.geometry.least in omega (arith, h)

  pub owed_laws : (R : Reading P V C U S) → Fits R → OwedLaws R
  owed_laws R fits = record {
    closed = by_log R fits (Closed R.form) (file_laws R.form).closed;
    alike = by_log R fits (Alike R.form) (file_laws R.form).alike;
    in_order = by_log R fits (InOrder R.form) (file_laws R.form).in_order;
    stand = by_log R fits (StandAgain R.form) (file_laws R.form).stand;
  }
