-- The story and the machine agree on which bricks did whose PostOp, entry by entry, where the PostOps of a call are of one turn.
use Rattle.std.proofs.Common.{◌≡◌, ◌⊎◌, ℕ, ◌+◌, ◌-◌, ◌^◌, ◌≤◌, Bool, true, false, not, cond, ◌==◌, ◌&&◌, Option, Some, None, List, [], ◌∷◌, refl, sym, ◌∙◌, ap, subst, inl, inr, ⊎_elim}
use Rattle.std.specs.Prelude.{is_some}
use Rattle.ec_attr.specs.Marks.{is_marked}
use Rattle.ec_attr.specs.declared.geometry.Geometry.{Geometry}
use Rattle.ec_brick.specs.Step.{cut_off}
use Rattle.ec_conduct.specs.Account.{gfid_of}
use Rattle.ec_conduct.specs.Done.{is_post}
use Rattle.ec_conduct.specs.Given.{quorum}
use Rattle.ec_history.specs.Accounts.{Books, Leaving, booked}
use Rattle.ec_history.specs.Changes.{change}
use Rattle.ec_history.specs.Flat.{committed}
use Rattle.ec_history.specs.IsRun.{HasBytes, May as MayEnter, MayExecute, MayTear}
use Rattle.ec_history.specs.Run.{Net, after as net_after, call_of, out_of, wiped}
use Rattle.ec_history.specs.Story.{Story, began, done_by, executes, found_by, is_commit, is_done, is_unmarked, makes_a_child, op_of, outcome, post_done, request_of, tears, told, told_executed, told_torn, torn_by, with_flat, with_post}
use Rattle.ec_locks.specs.Table.{holds}
use Rattle.ec_attr.specs.declared.kind.Domain.TheVariants.{Inode}
use Rattle.ec_attr.specs.declared.kind.LockKind.TheVariants.{Exclusive}
use Rattle.ec_store.specs.Records.{head_at}
use Rattle.ec_wire.specs.declared.entry.Entry.{Entry}
use Rattle.ec_wire.specs.declared.entry.Entry.TheVariants.{Called, Sent, Executed, Heard, Lost, GivenUp, Stopped, Returned, Cut, Died, Yielded, Torn, Answered, Replaced}
use Rattle.ec_wire.specs.declared.message.Body.{Body}
use Rattle.ec_wire.specs.declared.message.Body.TheVariants.{ToBrick}
use Rattle.ec_wire.specs.declared.message.Message.{Message}
use Rattle.ec_wire.specs.declared.op.Op.{Op}
use Rattle.ec_wire.specs.declared.request.Request.{Request}
use Rattle.ec_wire.specs.declared.request.Request.TheVariants.{Ask, Release, Query, PreOp, ReadChunks, WriteChunks, SetLength, PostOp, Clear, NameGet, NamesAfter, NameSet, NamesPut, Make, Made, Unmake, Mark, Unmark, GfidsAfter}
use Rattle.ec_law_ballots.specs.Act.{Act, after as after_acts, step as act_step}
use Rattle.ec_law_ballots.specs.Act.Act.{Post, Sink_post, Replace}
use Rattle.ec_law_net.specs.Turns.{View, acts, acts_executed, acts_of_request, acts_torn, seen_after, turn_of}
use Rattle.ec_law_turns.specs.Reached.{Reached}
use Rattle.ec_law_turns.specs.Sound.{IsSound}
use Rattle.ec_law_turns.specs.Told.{Told}
use Rattle.ec_law_turns.proofs.Basics.{equal, itself, put_here}
use Rattle.ec_law_turns.proofs.Numbered.{IsPlainEntry}
use Rattle.ec_law_turns.proofs.Sends.{adds}
use Rattle.ec_law_turns.proofs.Steps.{EntryKept, executed_same, heard_same, made_same, torn_same as torn_said}
use Rattle.ec_law_turns.proofs.Tracks.{Adds}
use Rattle.ec_law_data.specs.Deeds.{is_post_on}
use Rattle.ec_law_data.specs.Versions.{PostsInOneTurn}
use Rattle.ec_law_data.proofs.FlatVersions.{SamePosts, done_posted, posts_done, posts_same}
use Rattle.ec_law_data.proofs.Guards.{Easy, easy_locks, easy_sent}
use Rattle.ec_law_data.proofs.OrderlyDeeds.{unmarking}
use Rattle.ec_law_data.proofs.Reaching.{Reaches, reached_then}
use Rattle.ec_law_data.proofs.Stories.{SameStory, done_same, easy_posts, failed_same, opens_same, said_same, same_if, same_story}
use Rattle.ec_law_flats.proofs.PostKinds.{IsNoPost, IsPost, its_acts, kind}

-- ## The story

-- a request that is not a PostOp that is done
pub quiet_told : (geometry : Geometry) (g : ℕ) (m : Net) (t : Story) (msg : Message) (q : Request) (version : Option ℕ) (failed : Bool) → (is_done (out_of m msg q version failed).says && is_post_on g q) ≡ false → SameStory g t (outcome geometry m t msg q version failed)
quiet_told geometry g m t msg q version true e = failed_same g m t msg q version
quiet_told geometry g m t msg q version false e = by (is_done (out_of m msg q version false).says) e
  where
    by : (d : Bool) → (d && is_post_on g q) ≡ false → SameStory g t (cond d (done_by geometry m t msg q) t)
    by true e = done_same geometry g m t msg q e
    by false e = same_story g t

-- a PostOp that is done
module _ (geometry : Geometry) (g : ℕ) (m : Net) (v : View) (t : Story) (msg : Message) (q : Request) (version : Option ℕ) (failed : Bool) (p : IsPost geometry g m v msg q version failed) where
  pub post_told : executes geometry m t msg (Some q) version failed ≡ post_done geometry m t msg.call g msg.brick p.new
  post_told =
      ap (λ (f : Bool). outcome geometry m t msg q version f) p.fine
      ∙ (ap (λ (c : Bool). cond c (done_by geometry m t msg q) t) (subst (λ (f : Bool). is_done (out_of m msg q version f).says ≡ true) p.fine p.done)
      ∙ (ap (λ (r : Request). done_by geometry m t msg r) p.is ∙ ap (λ (y : ℕ). post_done geometry m t msg.call y msg.brick p.new) p.on))

  pub post_on : is_post_on g q ≡ true
  post_on = subst (λ (y : Request). is_post_on g y ≡ true) (sym p.is) (subst (λ (y : ℕ). (p.gfid.0 == y) ≡ true) p.on (itself p.gfid.0))

  -- on a marked record it is told nothing
  pub sunk_told : is_marked p.old ≡ true → post_done geometry m t msg.call g msg.brick p.new ≡ t
  sunk_told e = ap (λ (c : Bool). cond c (cond (is_commit geometry t msg.call g msg.brick) (with_flat (with_post t msg.call g msg.brick) g (λ flat. committed (quorum geometry) msg.call p.new (change (quorum geometry) (op_of m msg.call) (t.found msg.call) g flat) flat)) (with_post t msg.call g msg.brick)) t) (p.unmarked ∙ ap not e)

  pub unmarked_there : is_marked p.old ≡ false → is_unmarked (head_at (m.brick msg.brick).records g) ≡ true
  unmarked_there e = p.unmarked ∙ ap not e

began_same : (g : ℕ) (t : Story) (a : ℕ) (op : Op) → SameStory g t (began t a op)
began_same g t a op = at (makes_a_child op)
  where
    at : (c : Bool) → SameStory g t (cond c (record (found_by t a (λ f. record f { took = t.next_gfid })) { next_gfid = t.next_gfid + 1 }) t)
    at true = record { posted = λ y z. refl; version = refl }
    at false = same_story g t

-- a torn write
torn_same : (g : ℕ) (m : Net) (t : Story) (msg : Message) (q : Request) (count : ℕ) (version : Option ℕ) → HasBytes q count → SameStory g t (torn_by m t msg q version)
torn_same g m t msg (WriteChunks x n first chunks) count None h = same_story g t
torn_same g m t msg (WriteChunks x n first chunks) count (Some version) h = same_if g t _ t (holds (m.brick msg.brick).asks n x Inode Exclusive) (opens_same g m t msg x.0 _) (same_story g t)
torn_same g m t msg (Ask x domain kind) most read h = absurd h
torn_same g m t msg (Release x n) most read h = absurd h
torn_same g m t msg (Query x n) most read h = absurd h
torn_same g m t msg (PreOp x n at dirty) most read h = absurd h
torn_same g m t msg (ReadChunks x n first count) most read h = absurd h
torn_same g m t msg (SetLength x n keep count) most read h = absurd h
torn_same g m t msg (PostOp x n at version size attr) most read h = absurd h
torn_same g m t msg (Clear x n at) most read h = absurd h
torn_same g m t msg (NameGet x n name) most read h = absurd h
torn_same g m t msg (NamesAfter x n start) most read h = absurd h
torn_same g m t msg (NameSet x n name child) most read h = absurd h
torn_same g m t msg (NamesPut x n start upto list) most read h = absurd h
torn_same g m t msg (Make x n child) most read h = absurd h
torn_same g m t msg (Made x n child) most read h = absurd h
torn_same g m t msg (Unmake x n child) most read h = absurd h
torn_same g m t msg (Mark x n heal head) most read h = absurd h
torn_same g m t msg (Unmark x n at dirty) most read h = absurd h
torn_same g m t msg (GfidsAfter start dirty) most read h = absurd h

-- ## A request that a brick executes

module _ (geometry : Geometry) (g : ℕ) (m : Net) (v : View) (t : Story) (h : SamePosts g m.said v.of t v.core) (i : ℕ) (msg : Message) (q : Request) (version : Option ℕ) (failed : Bool) (said : m.said i ≡ Some msg) (body : msg.body ≡ ToBrick q) (number : msg.no ≡ i) (one : is_post_on g q ≡ true → (j : ℕ) (x : Message) (r : Request) → m.said j ≡ Some x → x.body ≡ ToBrick r → is_post_on g r ≡ true → (x.call ≡ msg.call → v.of j ≡ v.of i) × (v.of j ≡ v.of i → x.call ≡ msg.call)) where
  abbrev Then : Type 0
  Then = SamePosts g m.said v.of (executes geometry m t msg (Some q) version failed) (after_acts (its_acts geometry g m v msg q version failed) v.core)

  no_post : IsNoPost geometry g m v msg q version failed → Then
  no_post p = posts_same g m.said v.of t v.core h _ _ (quiet_told geometry g m t msg q version failed p.not_done) (easy_posts (its_acts geometry g m v msg q version failed) v.core p.easy)

  a_post : IsPost geometry g m v msg q version failed → Then
  a_post p = by (is_marked p.old) refl
    where
      by : (c : Bool) → is_marked p.old ≡ c → Then
      by true e =
          let acts_are = p.acts ∙ ap (λ (c : Bool). cond c (Sink_post (v.of msg.no) msg.brick) (Post (v.of msg.no) msg.brick) ∷ p.rest) e in
          subst (λ (u : Story). SamePosts g m.said v.of u (after_acts (its_acts geometry g m v msg q version failed) v.core)) (sym (post_told geometry g m v t msg q version failed p ∙ sunk_told geometry g m v t msg q version failed p e))
          (posts_same g m.said v.of t v.core h t _ (same_story g t) (ap (λ (z : List Act). (after_acts z v.core).post) acts_are ∙ easy_posts p.rest (act_step v.core (Sink_post (v.of msg.no) msg.brick)) p.easy))
      by false e =
          let acts_are = p.acts ∙ (ap (λ (c : Bool). cond c (Sink_post (v.of msg.no) msg.brick) (Post (v.of msg.no) msg.brick) ∷ p.rest) e ∙ ap (λ (j : ℕ). Post (v.of j) msg.brick ∷ p.rest) number) in
          let on = post_on geometry g m v t msg q version failed p in
          subst (λ (u : Story). SamePosts g m.said v.of u (after_acts (its_acts geometry g m v msg q version failed) v.core)) (sym (post_told geometry g m v t msg q version failed p))
          (posts_done g m.said v.of t v.core h geometry m i msg q said body on (one on) msg.brick (post_done geometry m t msg.call g msg.brick p.new) _ (done_posted g m.said v.of t v.core h geometry m i msg q said body on (one on) msg.brick p.new (unmarked_there geometry g m v t msg q version failed p e)) (ap (λ (z : List Act). (after_acts z v.core).post) acts_are ∙ easy_posts p.rest (act_step v.core (Post (v.of i) msg.brick)) p.easy))

  pub executed_posts : IsNoPost geometry g m v msg q version failed ⊎ IsPost geometry g m v msg q version failed → Then
  executed_posts (inl p) = no_post p
  executed_posts (inr p) = a_post p

-- ## Entries

pub post_begun : (g : ℕ) (said : ℕ → Option Message) (of : ℕ → ℕ) (moment : ℕ → Bool) (a b i : ℕ) (q : Request) → is_post_on g q ≡ true → IsSound g said of moment a b i q → 2 ^ 61 ≤ of i
post_begun g said of moment a b i (PostOp x n at version size attr) on s = (s (equal x.0 g on)).begun
post_begun g said of moment a b i (Ask x domain kind) on s = absurd (cc)
post_begun g said of moment a b i (Release x n) on s = absurd (cc)
post_begun g said of moment a b i (Query x n) on s = absurd (cc)
post_begun g said of moment a b i (PreOp x n at dirty) on s = absurd (cc)
post_begun g said of moment a b i (ReadChunks x n first count) on s = absurd (cc)
post_begun g said of moment a b i (WriteChunks x n first chunks) on s = absurd (cc)
post_begun g said of moment a b i (SetLength x n keep count) on s = absurd (cc)
post_begun g said of moment a b i (Clear x n at) on s = absurd (cc)
post_begun g said of moment a b i (NameGet x n name) on s = absurd (cc)
post_begun g said of moment a b i (NamesAfter x n start) on s = absurd (cc)
post_begun g said of moment a b i (NameSet x n name child) on s = absurd (cc)
post_begun g said of moment a b i (NamesPut x n start upto list) on s = absurd (cc)
post_begun g said of moment a b i (Make x n child) on s = absurd (cc)
post_begun g said of moment a b i (Made x n child) on s = absurd (cc)
post_begun g said of moment a b i (Unmake x n child) on s = absurd (cc)
post_begun g said of moment a b i (Mark x n heal head) on s = absurd (cc)
post_begun g said of moment a b i (Unmark x n at dirty) on s = absurd (cc)
post_begun g said of moment a b i (GfidsAfter start dirty) on s = absurd (cc)

post_on_of : (g : ℕ) (q : Request) → is_post q ≡ true → gfid_of q ≡ Some g → is_post_on g q ≡ true
post_on_of g (PostOp x n at version size attr) p on = subst (λ (y : ℕ). (x.0 == y) ≡ true) (some_same x.0 g on) (itself x.0)
  where
    some_same : (x y : ℕ) → Some x ≡ Some y → x ≡ y
    some_same x y e = cc
post_on_of g (Ask x domain kind) p on = absurd (cc)
post_on_of g (Release x n) p on = absurd (cc)
post_on_of g (Query x n) p on = absurd (cc)
post_on_of g (PreOp x n at dirty) p on = absurd (cc)
post_on_of g (ReadChunks x n first count) p on = absurd (cc)
post_on_of g (WriteChunks x n first chunks) p on = absurd (cc)
post_on_of g (SetLength x n keep count) p on = absurd (cc)
post_on_of g (Clear x n at) p on = absurd (cc)
post_on_of g (NameGet x n name) p on = absurd (cc)
post_on_of g (NamesAfter x n start) p on = absurd (cc)
post_on_of g (NameSet x n name child) p on = absurd (cc)
post_on_of g (NamesPut x n start upto list) p on = absurd (cc)
post_on_of g (Make x n child) p on = absurd (cc)
post_on_of g (Made x n child) p on = absurd (cc)
post_on_of g (Unmake x n child) p on = absurd (cc)
post_on_of g (Mark x n heal head) p on = absurd (cc)
post_on_of g (Unmark x n at dirty) p on = absurd (cc)
post_on_of g (GfidsAfter start dirty) p on = absurd (cc)

easy_torn : (o : Option Message) → Easy (acts_torn o)
easy_torn None = tt
easy_torn (Some msg) = (refl, tt)

easy_replaced : (c : Bool) (b : ℕ) → Easy (cond c (Replace b ∷ []) [])
easy_replaced true b = (refl, tt)
easy_replaced false b = tt

module _ (geometry : Geometry) (left : ℕ → Leaving) (none : (a : ℕ) → (left a).kept ≡ None) (first : ℕ) (origins : ℕ → ℕ) (new : (h : ℕ) → first ≤ h → origins h ≡ 0) (g : ℕ) where
  module _ (m : Net) (vs : ℕ → View) (t : Story) (b : Books) (e : Entry) (plain : IsPlainEntry e) (may : MayEnter geometry.n m e) (kept : EntryKept m b e) (k : Reaches geometry first origins m vs t b) where
    -- what is known of a message that a brick executes
    pub known_kind : (i : ℕ) (version : Option ℕ) (failed : Bool) (may : MayExecute m i version failed) → IsNoPost geometry g m (vs g) may.message may.request version failed ⊎ IsPost geometry g m (vs g) may.message may.request version failed
    known_kind i version failed may =
        let r = k.reached g in
        let number = (r.known.messages.number i may.message may.at.said).0 in
        kind geometry g m (vs g) may.message may.request version failed may.at.up may.fault
        (unmarking g m.said (vs g).of (vs g).core.moment may.message.call may.message.brick i may.request (r.known.sound i may.message may.request may.at.said may.at.body))
        (subst (λ (j : ℕ). Told geometry.n (quorum geometry) g m.said (vs g).of (vs g).core ((vs g).of j) may.message.brick may.request) (sym number) (r.shown.asked i may.message may.request may.at.said may.at.body))

    -- a turn that sends a PostOp was begun by its call
    pub post_turn : (i : ℕ) (x : Message) (q : Request) → m.said i ≡ Some x → x.body ≡ ToBrick q → is_post_on g q ≡ true → 2 ^ 61 ≤ (vs g).of i
    post_turn i x q is body on = post_begun g m.said (vs g).of (vs g).core.moment x.call x.brick i q on ((k.reached g).known.sound i x q is body)

    -- messages of one turn are of one call
    pub one_caller : (i j : ℕ) (x y : Message) → m.said i ≡ Some x → m.said j ≡ Some y → 2 ^ 61 ≤ (vs g).of i → (vs g).of j ≡ (vs g).of i → y.call ≡ x.call
    one_caller i j x y is its le same =
        let r = k.reached g in
        sym (r.known.messages.caller j y its (subst (λ (z : ℕ). 2 ^ 61 ≤ z) (sym same) le)) ∙ (ap (λ (z : ℕ). call_of (m.said (z - 2 ^ 61))) same ∙ r.known.messages.caller i x is le)

    module _ (h : SamePosts g m.said (vs g).of t (vs g).core) (one : PostsInOneTurn g m (vs g)) (one' : PostsInOneTurn g (net_after m e) (seen_after g m (vs g) e)) where
      abbrev Later : Entry → Type 0
      Later x = SamePosts g (net_after m x).said (seen_after g m (vs g) x).of (told geometry m t x) (seen_after g m (vs g) x).core

      -- messages and turns as they were
      as_before : (x : Entry) → (net_after m x).said ≡ m.said → (seen_after g m (vs g) x).of ≡ (vs g).of → SamePosts g m.said (vs g).of (told geometry m t x) (seen_after g m (vs g) x).core → Later x
      as_before x said of a = subst (λ (y : ℕ → Option Message). SamePosts g y (seen_after g m (vs g) x).of (told geometry m t x) (seen_after g m (vs g) x).core) (sym said) (subst (λ (y : ℕ → ℕ). SamePosts g m.said y (told geometry m t x) (seen_after g m (vs g) x).core) (sym of) a)

      quietly : (x : Entry) → (net_after m x).said ≡ m.said → (seen_after g m (vs g) x).of ≡ (vs g).of → SameStory g t (told geometry m t x) → Easy (acts g m (vs g) x) → Later x
      quietly x said of same easy = as_before x said of (posts_same g m.said (vs g).of t (vs g).core h (told geometry m t x) (seen_after g m (vs g) x).core same (easy_posts (acts g m (vs g) x) (vs g).core easy))

      sent_then : (msg : Message) → e ≡ Sent msg → Later (Sent msg)
      sent_then msg is = record {
        posted = λ i x q its its_body its_on c. ⊎_elim
            (λ z. subst (λ (y : Message). (told geometry m t (Sent msg)).posted y.call g c ≡ (seen_after g m (vs g) (Sent msg)).core.post ((seen_after g m (vs g) (Sent msg)).of i) c) z.1 (subst (λ (j : ℕ). (told geometry m t (Sent msg)).posted msg.call g c ≡ (seen_after g m (vs g) (Sent msg)).core.post ((seen_after g m (vs g) (Sent msg)).of j) c) (sym z.0) (posted_as msg.call c ∙ (newest q (ap (λ (y : Message). y.body) z.1 ∙ its_body) its_on c (t.posted msg.call g c) refl ∙ sym (post_as ((seen_after g m (vs g) (Sent msg)).of msg.no) c)))))
            (λ z. posted_as x.call c ∙ (h.posted i x q z its_body its_on c ∙ (ap (λ (w : ℕ). (vs g).core.post w c) (sym (more.still i x z).1) ∙ sym (post_as ((seen_after g m (vs g) (Sent msg)).of i) c))))
            (more.newest i x its);
        from = λ a c p. let o = h.from a c (sym (posted_as a c) ∙ p) in (o.0, o.1, o.2, (more.still o.0 o.1 o.3).0, o.4, o.5, o.6);
      }
        where
          posted_as : (a c : ℕ) → (told geometry m t (Sent msg)).posted a g c ≡ t.posted a g c
          posted_as a c = ap (λ (y : ℕ → ℕ → ℕ → Bool). y a g c) (said_same t msg.call msg.body).0

          post_as : (w c : ℕ) → (seen_after g m (vs g) (Sent msg)).core.post w c ≡ (vs g).core.post w c
          post_as w c = ap (λ (y : ℕ → ℕ → Bool). y w c) (easy_posts (acts g m (vs g) (Sent msg)) (vs g).core (easy_sent g (vs g).core (turn_of g (vs g) msg) msg.body))

          more : Adds m.said (net_after m (Sent msg)).said (vs g).of (seen_after g m (vs g) (Sent msg)).of msg.no msg
          more = adds geometry.n g m (vs g) msg (subst (λ (z : Entry). MayEnter geometry.n m z) is may).0 (k.reached g).known.messages

          then : Reached geometry g (net_after m (Sent msg)) (seen_after g m (vs g) (Sent msg)) (booked geometry left m t b (Sent msg))
          then = subst (λ (y : Entry). Reached geometry g (net_after m y) (seen_after g m (vs g) y) (booked geometry left m t b y)) is (reached_then geometry left none first origins new m vs t b e plain may kept k g)

          once : PostsInOneTurn g (net_after m (Sent msg)) (seen_after g m (vs g) (Sent msg))
          once = subst (λ (y : Entry). PostsInOneTurn g (net_after m y) (seen_after g m (vs g) y)) is one'

          mine : (net_after m (Sent msg)).said msg.no ≡ Some msg
          mine = put_here m.said msg.no (Some msg) msg.no refl

          newest : (q : Request) → msg.body ≡ ToBrick q → is_post_on g q ≡ true → (c : ℕ) (u : Bool) → t.posted msg.call g c ≡ u → t.posted msg.call g c ≡ (vs g).core.post ((seen_after g m (vs g) (Sent msg)).of msg.no) c
          newest q body on c true p =
              let o = h.from msg.call c p in
              let its = more.still o.0 o.1 o.3 in
              let turn = once msg.no o.0 msg o.1 q o.2 mine its.0 body o.4 on o.5 (sym o.6) in
              ap (λ (y : ℕ). t.posted y g c) (sym o.6) ∙ (h.posted o.0 o.1 o.2 o.3 o.4 o.5 c ∙ ap (λ (w : ℕ). (vs g).core.post w c) (sym (turn ∙ its.1)))
          newest q body on c false p = p ∙ sym (none_done ((vs g).core.post ((seen_after g m (vs g) (Sent msg)).of msg.no) c) refl)
            where
              none_done : (u : Bool) → (vs g).core.post ((seen_after g m (vs g) (Sent msg)).of msg.no) c ≡ u → (vs g).core.post ((seen_after g m (vs g) (Sent msg)).of msg.no) c ≡ false
              none_done false u = u
              none_done true u = absurd (
                  let le = post_begun g (net_after m (Sent msg)).said (seen_after g m (vs g) (Sent msg)).of (seen_after g m (vs g) (Sent msg)).core.moment msg.call msg.brick msg.no q on (then.known.sound msg.no msg q mine body) in
                  let l = (k.reached g).once.post ((seen_after g m (vs g) (Sent msg)).of msg.no) c le u in
                  let a = l.asked in
                  let its = more.still l.number a.message a.is in
                  let turn = its.1 ∙ a.turn in
                  let caller = sym (then.known.messages.caller l.number a.message its.0 (subst (λ (y : ℕ). 2 ^ 61 ≤ y) (sym turn) le)) ∙ (ap (λ (y : ℕ). call_of ((net_after m (Sent msg)).said (y - 2 ^ 61))) turn ∙ then.known.messages.caller msg.no msg mine le) in
                  let done = h.posted l.number a.message a.request a.is a.body (post_on_of g a.request a.passes a.on) c ∙ (ap (λ (w : ℕ). (vs g).core.post w c) a.turn ∙ u) in
                  let z = sym p ∙ (ap (λ (y : ℕ). t.posted y g c) (sym caller) ∙ done) in cc)

      executed_then : (i : ℕ) (version : Option ℕ) (failed : Bool) → MayExecute m i version failed → SamePosts g m.said (vs g).of (told_executed geometry m t (m.said i) version failed) (after_acts (acts_executed g m (vs g) (m.said i) version failed) (vs g).core)
      executed_then i version failed may =
          subst (λ (o : Option Message). SamePosts g m.said (vs g).of (told_executed geometry m t o version failed) (after_acts (acts_executed g m (vs g) o version failed) (vs g).core)) (sym may.at.said)
          (subst (λ (z : Body). SamePosts g m.said (vs g).of (executes geometry m t may.message (request_of z) version failed) (after_acts (acts_of_request g m (vs g) may.message z version failed) (vs g).core)) (sym may.at.body)
          (executed_posts geometry g m (vs g) t h i may.message may.request version failed may.at.said may.at.body ((k.reached g).known.messages.number i may.message may.at.said).0
          (λ on j x w its its_body its_on. (λ c. one j i x may.message w may.request its may.at.said its_body may.at.body its_on on c, λ same. one_caller i j may.message x may.at.said its (post_turn i may.message may.request may.at.said may.at.body on) same))
          (known_kind i version failed may)))

      torn_then : (i count : ℕ) (version : Option ℕ) (may : MayTear m i count version) → SameStory g t (told_torn m t (m.said i) version)
      torn_then i count version may =
          subst (λ (o : Option Message). SameStory g t (told_torn m t o version)) (sym may.at.said)
          (subst (λ (z : Body). SameStory g t (tears m t may.message (request_of z) version)) (sym may.at.body) (torn_same g m t may.message may.request count version may.bytes))

      entry_then : (x : Entry) → e ≡ x → Later x
      entry_then (Called a client op) is = quietly (Called a client op) refl (made_same g (vs g) a op).1 (began_same g t a op) tt
      entry_then (Sent msg) is = sent_then msg is
      entry_then (Executed i version failed) is = as_before (Executed i version failed) (executed_same m (m.said i) version failed).0 refl (executed_then i version failed (subst (λ (z : Entry). MayEnter geometry.n m z) is may))
      entry_then (Heard i) is = quietly (Heard i) (heard_same m (m.said i)).0 refl (same_story g t) tt
      entry_then (Torn i count version) is = quietly (Torn i count version) (torn_said m (m.said i) count version).0 refl (torn_then i count version (subst (λ (z : Entry). MayEnter geometry.n m z) is may)) (easy_torn (m.said i))
      entry_then (Cut client c) is = quietly (Cut client c) refl refl (same_story g t) (easy_locks g m (vs g) c (m.brick c).asks (cut_off (m.brick c) client).brick.asks)
      entry_then (Stopped c) is = quietly (Stopped c) refl refl (same_story g t) (refl, tt)
      entry_then (Replaced c removed all) is = quietly (Replaced c removed all) refl refl (same_story g t) (easy_replaced (is_some ((m.brick c).records g) && not (is_some (wiped removed all (m.brick c).records g))) c)
      entry_then (Lost i) is = quietly (Lost i) refl refl (same_story g t) tt
      entry_then (GivenUp client brick i) is = quietly (GivenUp client brick i) refl refl (same_story g t) tt
      entry_then (Returned c) is = quietly (Returned c) refl refl (same_story g t) tt
      entry_then (Died client) is = quietly (Died client) refl refl (same_story g t) tt
      entry_then (Yielded client) is = quietly (Yielded client) refl refl (same_story g t) tt
      entry_then (Answered a answer) is = quietly (Answered a answer) refl refl (same_story g t) tt

      -- they agree after the entry
      pub posts_then : Later e
      posts_then = entry_then e refl
