-- A brick that does a PostOp has written for its turn all that the commit is made of, whatever the plans are.
use Rattle.std.proofs.Common.{◌≡◌, ℕ, ◌+◌, ◌^◌, ◌<◌, ◌≤◌, Bool, true, false, cond, Option, Some, None, List, [], ◌∷◌, refl, sym, ◌∙◌, ap, subst, arith, ⊎_elim}
use Rattle.std.proofs.lemmas.Bool.Decides.{nat_tests}
use Rattle.ec_attr.specs.declared.geometry.Geometry.{Geometry}
use Rattle.ec_brick.specs.Step.{Out, executed as executed_at, quiet as quiet_out}
use Rattle.ec_conduct.specs.Account.{at as place_of}
use Rattle.ec_conduct.specs.Done.{is_change}
use Rattle.ec_conduct.specs.Given.{quorum}
use Rattle.ec_conduct.specs.Opened.{account}
use Rattle.ec_conduct.specs.Standing.{changes_at}
use Rattle.ec_history.specs.Accounts.{Books, Leaving, booked, books, no_books}
use Rattle.ec_history.specs.IsRun.{IsRun, May as MayEnter, MayExecute}
use Rattle.ec_history.specs.Run.{Net, after as net_after, failing, fresh, out_of}
use Rattle.ec_history.specs.Story.{Story, is_done, opening, told}
use Rattle.ec_store.specs.Put.{put}
use Rattle.ec_wire.specs.declared.entry.Entry.{Entry}
use Rattle.ec_wire.specs.declared.entry.Entry.TheVariants.{Called, Sent, Executed, Heard, Lost, GivenUp, Stopped, Returned, Cut, Died, Yielded, Torn, Answered, Replaced}
use Rattle.ec_wire.specs.declared.message.Body.{Body}
use Rattle.ec_wire.specs.declared.message.Body.TheVariants.{ToBrick}
use Rattle.ec_wire.specs.declared.message.Message.{Message}
use Rattle.ec_wire.specs.declared.request.Request.{Request}
use Rattle.ec_wire.specs.declared.request.Request.TheVariants.{PostOp, WriteChunks, SetLength, NameSet, NamesPut}
use Rattle.ec_law_pieces.specs.Deed.{Deed, after as after_deeds}
use Rattle.ec_law_pieces.specs.File.{File}
use Rattle.ec_law_net.specs.Turns.{View, seen_after, turn_of}
use Rattle.ec_law_turns.specs.Laws.{Always}
use Rattle.ec_law_turns.specs.Orderly.{ArePlain}
use Rattle.ec_law_turns.specs.Reached.{Reached}
use Rattle.ec_law_turns.specs.Sound.{IsSound}
use Rattle.ec_law_turns.proofs.Basics.{equal, some_none}
use Rattle.ec_law_turns.proofs.Origins.{unversioned}
use Rattle.ec_law_turns.proofs.Runs.{Kept, kept_there, plain_first}
use Rattle.ec_law_turns.proofs.Sends.{adds}
use Rattle.ec_law_data.specs.Deeds.{data_deeds, deeds_executed, deeds_of_request, deeds_of_torn, deeds_torn, file_after, is_granted, is_post_on}
use Rattle.ec_law_data.specs.Laws.{begun}
use Rattle.ec_law_data.specs.Link.{IsWriter}
use Rattle.ec_law_data.specs.Reading.{Plans, Reading}
use Rattle.ec_law_data.proofs.Reaching.{Reaches, reaches_start, reaches_then}
use Rattle.ec_law_parts.specs.LeavesOff.{DataBeforePosts}
use Rattle.ec_law_writes.specs.Guarding.{changes_on}
use Rattle.ec_law_writes.specs.Laws.{TakesWriters, WrittenInEveryLog, WrittenLaws}
use Rattle.ec_law_writes.specs.Writing.{AllWrite, AreWritten, BodyWrites, EntryWrites, HasWritten, MessageWrites}
use Rattle.ec_law_writes.proofs.Answering.{done_after}
use Rattle.ec_law_writes.proofs.Changing.{AllSent, IsPost}
use Rattle.ec_law_writes.proofs.Guarding.{comes_first}
use Rattle.ec_law_writes.proofs.Refusing.{done_granted}
use Rattle.ec_law_writes.proofs.Watching.{Says, SaysOne, SaysNone, Watched, executed_flying, lands, post_is, says_of, torn_flying, watched_entry, watched_start}
use Rattle.ec_law_writes.proofs.Wrote.{AllDone, HasWrote, data_wrote, executed_wrote, sent_leaves, torn_wrote, wrote_stays}

-- a change that writes data is one of the gfid
writer_changes : (g : ℕ) (q : Request) → is_change q ≡ true → IsWriter g q → changes_on g q ≡ true
writer_changes g (WriteChunks x n first chunks) change w = let e : x.0 ≡ g = w in grind (arith, nat_tests)
writer_changes g (SetLength x n keep count) change w = let e : x.0 ≡ g = w in grind (arith, nat_tests)
writer_changes g (NameSet x n name child) change w = let e : x.0 ≡ g = w in grind (arith, nat_tests)
writer_changes g (NamesPut x n start upto list) change w = absurd (cc)
writer_changes g q change w = absurd w

module _ {P V C U S : Type 0} (R : Reading P V C U S) (takes : TakesWriters R) (plans : Plans P V U S) (n k g : ℕ) where
  -- ## Entries

  module _ (geometry : Geometry) (m : Net) (v : View) (b : Books) (done : ℕ → Bool) (r : Reached geometry g m v b) (h : Watched geometry g m v b done) (f : File P V C U S) (w : HasWrote R takes plans n k g m.said m.flying v.of done f) where
    abbrev Then : (ℕ → Option Message) → (ℕ → Bool) → (ℕ → ℕ) → (ℕ → Bool) → File P V C U S → Type 0
    Then = HasWrote R takes plans n k g

    -- the same, of a file in which the same was written
    moved : (said' : ℕ → Option Message) (flying flying' : ℕ → Bool) (done' : ℕ → Bool) (f1 f2 : File P V C U S) → said' ≡ m.said → flying' ≡ flying → f2.wrote ≡ f1.wrote → HasWrote R takes plans n k g m.said flying v.of done' f1 → HasWrote R takes plans n k g said' flying' v.of done' f2
    moved said' flying flying' done' f1 f2 said flies wrote = wrote_stays R takes plans n k g m.said said' flying flying' v.of v.of done' done' f1 f2 (λ a c p. ap (λ (z : ℕ → ℕ → P → Bool). z a c p) wrote) (λ i x e. (ap (λ (z : ℕ → Option Message). z i) said ∙ e, refl, λ falls. ap (λ (z : ℕ → Bool). z i) flies ∙ falls)) (λ i x e d. sym (ap (λ (z : ℕ → Option Message). z i) said) ∙ e) (λ i. refl)

    numbers : (i : ℕ) (x : Message) → m.said i ≡ Some x → x.no ≡ i
    numbers i x e = (r.known.messages.number i x e).0

    executed_then : (i : ℕ) (version : Option ℕ) (failed : Bool) (may : MayExecute m i version failed) → (net_after m (Executed i version failed)).said ≡ m.said → HasWrote R takes plans n k g (net_after m (Executed i version failed)).said (net_after m (Executed i version failed)).flying v.of (done_after m (Executed i version failed) done) (file_after R plans n k g m v f (Executed i version failed))
    executed_then i version failed may said = moved (net_after m (Executed i version failed)).said (put m.flying may.message.no false) (net_after m (Executed i version failed)).flying (done_after m (Executed i version failed) done) (after_deeds R.form n k (deeds_of_request R plans n k g m v f may.message (ToBrick may.request) version failed) f) (file_after R plans n k g m v f (Executed i version failed)) said (executed_flying m i version failed may)
        (data_wrote R takes plans n k g m v f (Executed i version failed) ∙ (ap (λ (o : Option Message). (after_deeds R.form n k (deeds_executed R plans n k g m v f o version failed) f).wrote) may.at.said ∙ ap (λ (z : Body). (after_deeds R.form n k (deeds_of_request R plans n k g m v f may.message z version failed) f).wrote) may.at.body))
        (executed_wrote R takes plans n k g m v f done numbers h.landed w i version failed may granted)
      where
        went : out_of m may.message may.request version failed ≡ executed_at (m.brick may.message.brick) (failing failed version) may.message.client may.message.no may.request
        went = ap (λ (t : Bool). cond t (executed_at (m.brick may.message.brick) (failing failed version) may.message.client may.message.no may.request) (quiet_out (m.brick may.message.brick))) may.at.up

        granted : changes_on g may.request ≡ true → is_done (out_of m may.message may.request version failed).says ≡ true → is_granted (m.brick may.message.brick) may.request ≡ true
        granted on did = done_granted g m v.of v.core.moment r.known.sound may.message.brick (r.locks.asks may.message.brick (r.linked.to i may.message may.request may.at.said may.at.body)) (failing failed version) may.message.client may.message.no may.request on (ap (λ (o : Out). is_done o.says) (sym went) ∙ did)

    -- what does nothing to data, and says nothing
    quiet_then : (e : Entry) → MayEnter geometry.n m e → data_deeds R plans n k g m v f e ≡ [] → ((i : ℕ) → done_after m e done i ≡ done i) → (net_after m e).said ≡ m.said → (seen_after g m v e).of ≡ v.of → HasWrote R takes plans n k g (net_after m e).said (net_after m e).flying (seen_after g m v e).of (done_after m e done) (file_after R plans n k g m v f e)
    quiet_then e may none dones said of = wrote_stays R takes plans n k g m.said (net_after m e).said m.flying (net_after m e).flying v.of (seen_after g m v e).of done (done_after m e done) f (file_after R plans n k g m v f e)
        (λ a c p. ap (λ (z : ℕ → ℕ → P → Bool). z a c p) (data_wrote R takes plans n k g m v f e ∙ ap (λ (ds : List (Deed P V C U S)). (after_deeds R.form n k ds f).wrote) none))
        (λ i x z. (ap (λ (y : ℕ → Option Message). y i) said ∙ z, ap (λ (y : ℕ → ℕ). y i) of, λ falls. lands geometry.n m e may i (r.known.messages.number i x z).1 falls))
        (λ i x z d. sym (ap (λ (y : ℕ → Option Message). y i) said) ∙ z)
        dones w

    sent_then : (msg : Message) → MayEnter geometry.n m (Sent msg) → HasWrote R takes plans n k g (net_after m (Sent msg)).said (net_after m (Sent msg)).flying (seen_after g m v (Sent msg)).of done (file_after R plans n k g m v f (Sent msg))
    sent_then msg may =
        let more = adds geometry.n g m v msg may.0 r.known.messages in
        wrote_stays R takes plans n k g m.said (net_after m (Sent msg)).said m.flying (net_after m (Sent msg)).flying v.of (seen_after g m v (Sent msg)).of done done f (file_after R plans n k g m v f (Sent msg))
        (λ a c p. ap (λ (z : ℕ → ℕ → P → Bool). z a c p) (data_wrote R takes plans n k g m v f (Sent msg)) ∙ sent_leaves R takes plans n k g a c f (turn_of g v msg) msg.body p)
        (λ i x z. ((more.still i x z).0, (more.still i x z).1, λ falls. lands geometry.n m (Sent msg) may i (r.known.messages.number i x z).1 falls))
        (λ i x z d. ⊎_elim (λ y. absurd (let lt = h.below i d in let e = y.0 in let q = may.0 in omega (arith, lt, e, q))) (λ y. y) (more.newest i x z))
        (λ i. refl) w

    torn_then : (i count : ℕ) (version : Option ℕ) → MayEnter geometry.n m (Torn i count version) → (net_after m (Torn i count version)).said ≡ m.said → HasWrote R takes plans n k g (net_after m (Torn i count version)).said (net_after m (Torn i count version)).flying v.of done (file_after R plans n k g m v f (Torn i count version))
    torn_then i count version may said = moved (net_after m (Torn i count version)).said (put m.flying may.message.no false) (net_after m (Torn i count version)).flying done (after_deeds R.form n k (deeds_of_torn R plans n k g m v may.message (ToBrick may.request) count version) f) (file_after R plans n k g m v f (Torn i count version)) said (torn_flying m i count version may)
        (data_wrote R takes plans n k g m v f (Torn i count version) ∙ (ap (λ (o : Option Message). (after_deeds R.form n k (deeds_torn R plans n k g m v o count version) f).wrote) may.at.said ∙ ap (λ (z : Body). (after_deeds R.form n k (deeds_of_torn R plans n k g m v may.message z count version) f).wrote) may.at.body))
        (torn_wrote R takes plans n k g m v f done numbers h.landed w i count version may)

    pub wrote_entry : (e : Entry) → MayEnter geometry.n m e → HasWrote R takes plans n k g (net_after m e).said (net_after m e).flying (seen_after g m v e).of (done_after m e done) (file_after R plans n k g m v f e)
    wrote_entry e may = by (says_of g m v e)
      where
        by : Says g m v e → HasWrote R takes plans n k g (net_after m e).said (net_after m e).flying (seen_after g m v e).of (done_after m e done) (file_after R plans n k g m v f e)
        by (SaysOne msg is) = subst (λ (z : Entry). HasWrote R takes plans n k g (net_after m z).said (net_after m z).flying (seen_after g m v z).of (done_after m z done) (file_after R plans n k g m v f z)) (sym is) (sent_then msg (subst (λ (z : Entry). MayEnter geometry.n m z) is may))
        by (SaysNone said of next) = at e may said of
          where
            at : (e : Entry) → MayEnter geometry.n m e → (net_after m e).said ≡ m.said → (seen_after g m v e).of ≡ v.of → HasWrote R takes plans n k g (net_after m e).said (net_after m e).flying (seen_after g m v e).of (done_after m e done) (file_after R plans n k g m v f e)
            at (Executed i version failed) may said of = executed_then i version failed may said
            at (Torn i count version) may said of = torn_then i count version may said
            at (Sent msg) may said of = sent_then msg may
            at (Called a client op) may said of = quiet_then (Called a client op) may refl (λ i. refl) said of
            at (Heard i) may said of = quiet_then (Heard i) may refl (λ j. refl) said of
            at (Lost i) may said of = quiet_then (Lost i) may refl (λ j. refl) said of
            at (GivenUp client brick i) may said of = quiet_then (GivenUp client brick i) may refl (λ j. refl) said of
            at (Stopped c) may said of = quiet_then (Stopped c) may refl (λ j. refl) said of
            at (Returned c) may said of = quiet_then (Returned c) may refl (λ j. refl) said of
            at (Cut client c) may said of = quiet_then (Cut client c) may refl (λ j. refl) said of
            at (Died client) may said of = quiet_then (Died client) may refl (λ j. refl) said of
            at (Yielded client) may said of = quiet_then (Yielded client) may refl (λ j. refl) said of
            at (Answered a answer) may said of = quiet_then (Answered a answer) may refl (λ j. refl) said of
            at (Replaced c removed all) may said of = quiet_then (Replaced c removed all) may refl (λ j. refl) said of

    -- ## A PostOp

    module _ (first : DataBeforePosts m v) (j : ℕ) (x : Message) (q : Request) (is : m.said j ≡ Some x) (body : x.body ≡ ToBrick q) (on : is_post_on g q ≡ true) where
      post : IsPost g m.said v.of done b x.call x.brick j q
      post = h.posts j x q is body on

      real : 2 ^ 61 ≤ v.of j
      real = at q body on (r.known.sound j x q is body)
        where
          at : (q : Request) → x.body ≡ ToBrick q → is_post_on g q ≡ true → IsSound g m.said v.of v.core.moment x.call x.brick j q → 2 ^ 61 ≤ v.of j
          at (PostOp y l version size new attr) body on sound = (sound (equal y.0 g on)).begun
          at q body on sound = absurd (cc)

      -- each change of its turn that has come to the brick was done
      all_done : AllDone g m.said m.flying v.of done (v.of j) x.brick
      all_done i y s e asks change turn brick falls = post.dones i y s e asks change turn brick (comes_first geometry g m v b done r h first i j y x s q e is asks body change (post_is g q on).1 turn real)

      all_written : (qs : List Request) → AllSent m.said v.of (v.of j) x.brick j qs → AreWritten R g f (v.of j) x.brick qs
      all_written [] sent = tt
      all_written (s ∷ qs) sent =
          let o = sent.0.1 in (
            (λ p write places.
                let change = writer_changes g s sent.0.0 (takes g s write) in
                w (v.of j) x.brick all_done o.number o.message s o.is o.body change o.turn o.brick_is (post.dones o.number o.message s o.is o.body change o.turn o.brick_is o.below) p write places),
            all_written qs sent.1,
          )

      pub has_written : HasWritten R g b f (v.of j) x.call x.brick j q
      has_written = record {
        given = post.given;
        made = post.made;
        front = post.front;
        back = post.back;
        own_is = post.own_is;
        head = post.head;
        group = post.group;
        all = post.all;
        written = all_written (changes_at (place_of (account post.given post.front) g x.brick)) post.sent;
      }

    pub entry_writes : DataBeforePosts m v → (e : Entry) → MayEnter geometry.n m e → EntryWrites R g m v b f e
    entry_writes first (Executed i version failed) may =
        subst (λ (o : Option Message). MessageWrites R g m v b f o version failed) (sym may.at.said)
        (subst (λ (z : Body). BodyWrites R g m v b f may.message z version failed) (sym may.at.body)
        (λ on. has_written first may.message.no may.message may.request (ap m.said (numbers i may.message may.at.said) ∙ may.at.said) may.at.body on))
    entry_writes first (Called a client op) may = tt
    entry_writes first (Sent msg) may = tt
    entry_writes first (Heard i) may = tt
    entry_writes first (Lost i) may = tt
    entry_writes first (GivenUp client brick i) may = tt
    entry_writes first (Stopped c) may = tt
    entry_writes first (Returned c) may = tt
    entry_writes first (Cut client c) may = tt
    entry_writes first (Died client) may = tt
    entry_writes first (Yielded client) may = tt
    entry_writes first (Torn i count version) may = tt
    entry_writes first (Answered a answer) may = tt
    entry_writes first (Replaced c removed all) may = tt

  -- ## Logs

  module _ (geometry : Geometry) (left : ℕ → Leaving) (none : (a : ℕ) → (left a).kept ≡ None) (first : ℕ) (origins : ℕ → ℕ) (new : (h : ℕ) → first ≤ h → origins h ≡ 0) where
    all_write : (es : List Entry) (m : Net) (vs : ℕ → View) (t : Story) (b : Books) (done : ℕ → Bool) (f : File P V C U S) → IsRun geometry.n es m → ArePlain es → Kept geometry left none (books geometry left es m t b) → Reaches geometry first origins m vs t b → Watched geometry g m (vs g) b done → HasWrote R takes plans n k g m.said m.flying (vs g).of done f → Always DataBeforePosts g es m (vs g) → AllWrite R plans geometry left n k g es m (vs g) t b f
    all_write [] m vs t b done f runs plain kept k' h w before = tt
    all_write (e ∷ es) m vs t b done f runs plain kept k' h w before =
        let p = plain_first e es plain in
        let may = kept_there geometry left none e es m t b runs plain (k'.reached g).known.numbers kept in (
          entry_writes geometry m (vs g) b done (k'.reached g) h f w before.0 e runs.0,
          all_write es (net_after m e) (λ h. seen_after h m (vs h) e) (told geometry m t e) (booked geometry left m t b e) (done_after m e done) (file_after R plans n k g m (vs g) f e) runs.1 p.1 kept (reaches_then geometry left none first origins new m vs t b e p.0 runs.0 may k') (watched_entry geometry left none first origins new g m vs t b e p.0 runs.0 may k' done h) (wrote_entry geometry m (vs g) b done (k'.reached g) h f w e runs.0) before.1,
        )

module _ {P V C U S : Type 0} where
  written : (R : Reading P V C U S) → TakesWriters R → WrittenInEveryLog R
  written R takes plans config records bricks tree next g es f start runs plain orderly before =
      all_write R takes plans config.geometry.n (quorum config.geometry) g config.geometry orderly.left orderly.none_kept next (λ h. (tree h).version) (λ h le. unversioned config records bricks tree next h start le) es (fresh bricks) (λ h. begun config records tree next h) (opening tree next) no_books (λ i. false) f runs plain (λ a given h. (orderly.conduct a given h, orderly.order a given h))
      (reaches_start config records bricks tree next (λ a. a) most start) (watched_start config records bricks tree next g start) (λ a c all i x q is. absurd (some_none x (sym is))) before
    where
      most : config.geometry.n < quorum config.geometry + quorum config.geometry
      most = let h = config.geometry.majority in omega (arith, h)

  pub laws : (R : Reading P V C U S) → TakesWriters R → WrittenLaws R
  laws R takes = record { written = written R takes }
