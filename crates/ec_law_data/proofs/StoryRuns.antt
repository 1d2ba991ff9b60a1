-- The flat version of the machine is that of the story of every orderly log, where the PostOps of a call are of one turn.
use Rattle.std.specs.Prelude.{is_some}
use Rattle.ec_law_turns.specs.Laws.{Always}
use Rattle.ec_law_turns.proofs.Tracks.{Adds}
use Rattle.ec_law_turns.proofs.Sends.{adds}
use Rattle.ec_law_data.proofs.Cores.{entry_heads}
use Rattle.ec_law_data.proofs.OrderlyDeeds.{unmarking}
use Rattle.ec_law_data.proofs.Reaching.{Reaches, reached_then, reaches_then}
use Rattle.ec_law_turns.proofs.Steps.{EntryKept, executed_same, heard_same, made_same, torn_same as torn_said}
use Rattle.ec_law_turns.proofs.Runs.{Kept, kept_there, plain_first}
use Rattle.ec_law_turns.proofs.Numbered.{IsPlainEntry}
use Rattle.ec_law_turns.specs.Sound.{IsSound}
use Rattle.ec_history.specs.Changes.{change}
use Rattle.std.proofs.Common.{◌≡◌, ℕ, ◌+◌, ◌-◌, ◌^◌, ◌≤◌, Bool, true, false, not, cond, ◌==◌, ◌&&◌, Option, Some, None, List, [], ◌∷◌, ◌++◌, map, refl, sym, ◌∙◌, ap, subst, arith, ⊎_elim}
use Rattle.std.proofs.lemmas.Bool.Decides.{nat_tests}
use Rattle.ec_attr.specs.Marks.{is_marked}
use Rattle.ec_attr.specs.declared.attr.Attr.{Attr}
use Rattle.ec_attr.specs.declared.geometry.Geometry.{Geometry}
use Rattle.ec_attr.specs.declared.gfid.Gfid.{Gfid}
use Rattle.ec_attr.specs.declared.head.Head.{Head}
use Rattle.ec_attr.specs.declared.kind.Domain.TheVariants.{Inode}
use Rattle.ec_brick.specs.Step.{Fine, Out, cut_off, executed as executed_at, quiet as quiet_out}
use Rattle.ec_conduct.specs.Account.{gfid_of}
use Rattle.ec_conduct.specs.Done.{is_post}
use Rattle.ec_conduct.specs.Given.{quorum}
use Rattle.ec_history.specs.Accounts.{Books, Leaving, booked, books}
use Rattle.ec_history.specs.Flat.{Tree, committed}
use Rattle.ec_history.specs.IsRun.{IsRun, May as MayEnter, MayExecute, is_fault}
use Rattle.ec_history.specs.Run.{Net, after as net_after, call_of, out_of, wiped}
use Rattle.ec_history.specs.Story.{Story, began, done_by, executes, is_done, is_unmarked, post_done, request_of, story, tears, told, told_executed, told_torn, torn_by, found_by, makes_a_child, failed_by, is_commit, op_of, with_flat, with_post}
use Rattle.ec_store.specs.Records.{head_at}
use Rattle.ec_wire.specs.declared.entry.Entry.{Entry}
use Rattle.ec_wire.specs.declared.entry.Entry.TheVariants.{Called, Sent, Executed, Heard, Lost, GivenUp, Stopped, Returned, Cut, Died, Yielded, Torn, Answered, Replaced}
use Rattle.ec_wire.specs.declared.message.Body.{Body}
use Rattle.ec_wire.specs.declared.message.Body.TheVariants.{ToBrick, ToClient}
use Rattle.ec_wire.specs.declared.message.Message.{Message}
use Rattle.ec_wire.specs.declared.op.Op.{Op}
use Rattle.ec_wire.specs.declared.request.Request.{Request}
use Rattle.ec_wire.specs.declared.request.Request.TheVariants.{Ask, Release, Query, PreOp, ReadChunks, WriteChunks, SetLength, PostOp, Clear, NameGet, NamesAfter, NameSet, NamesPut, Make, Made, Unmake, Mark, Unmark, GfidsAfter}
use Rattle.ec_law_base.specs.State.{State, target}
use Rattle.ec_law_ballots.specs.Act.{Act, after as after_acts, step as act_step}
use Rattle.ec_law_ballots.specs.Act.Act.{Post, Sink_post, Replace}
use Rattle.ec_law_pieces.specs.Deed.{Deed, after as after_deeds, commits, step}
use Rattle.ec_law_pieces.specs.Deed.Deed.{Intend}
use Rattle.ec_law_pieces.specs.File.{File}
use Rattle.ec_law_net.specs.Turns.{View, acts, acts_executed, acts_locks, acts_of_request, acts_torn, acts_worked, counted, exclusive, seen_after, turn_of}
use Rattle.ec_law_turns.specs.Reached.{Reached}
use Rattle.ec_law_turns.specs.Orderly.{ArePlain}
use Rattle.ec_law_turns.specs.Told.{Told, ToldPostOp}
use Rattle.ec_law_turns.proofs.Basics.{equal, put_here}
use Rattle.ec_law_turns.proofs.Groups.{plain}
use Rattle.ec_law_data.specs.Deeds.{deeds_executed, deeds_of_request, deeds_sent, deeds_torn, dressed, file, file_after, is_post_on, data_deeds}
use Rattle.ec_law_data.specs.Versions.{PostsInOneTurn, no_plans, of_versions}
use Rattle.ec_law_data.proofs.Entries.{fault_not_done}
use Rattle.ec_law_data.proofs.FlatVersions.{SamePosts, done_posted, done_version, post_head, posts_done, posts_same, worked_is}
use Rattle.ec_law_data.proofs.Guards.{Easy, easy_both, easy_locks, easy_sent, easy_worked, is_marking}
use Rattle.ec_law_data.proofs.Settling.{BodyTorn, BodyWritten, MessageTorn, MessageWritten, Settled, settled_executed, settled_none, settled_torn}
use Rattle.ec_law_data.proofs.Stories.{SameStory, done_same, easy_posts, easy_version, failed_same, opens_same, said_same, same_if, same_story, version_easily, version_posted, version_sunk}

abbrev BareFile : Type 0
BareFile = File ⊥ (Unit {0}) (Unit {0}) (Unit {0}) (Unit {0})

module _ (n k g : ℕ) (m : Net) (v : View) (f : BareFile) where
  written_none : (o : Option Message) (version : Option ℕ) (failed : Bool) → MessageWritten of_versions no_plans n k g m v f o version failed
  written_none None version failed = tt
  written_none (Some msg) version failed = body msg.body version failed
    where
      body : (z : Body) (version : Option ℕ) (failed : Bool) → BodyWritten of_versions no_plans n k g m v f msg z version failed
      body (ToClient re reply) version failed = tt
      body (ToBrick q) version false = λ w. absurd (cc)
      body (ToBrick q) None true = tt
      body (ToBrick q) (Some x) true = λ w. absurd (cc)

  torn_none : (o : Option Message) (version : Option ℕ) → MessageTorn of_versions no_plans n k g m v f o version
  torn_none None version = tt
  torn_none (Some msg) version = body msg.body version
    where
      body : (z : Body) (version : Option ℕ) → BodyTorn of_versions no_plans n k g m v f msg z version
      body (ToClient re reply) version = tt
      body (ToBrick q) None = tt
      body (ToBrick q) (Some x) = λ w. absurd (cc)

-- the story and the machine agree
pub record Agrees (g : ℕ) (said : ℕ → Option Message) (of : ℕ → ℕ) (t : Story) (s : State) (version : ℕ) : Type 0 where
  pub same : SamePosts g said of t s
  pub version_is : version ≡ (t.tree g).version

module _ (g : ℕ) (said : ℕ → Option Message) (of : ℕ → ℕ) (t : Story) (s : State) (version : ℕ) (h : Agrees g said of t s version) where
  still : (u : Story) (r : State) (now : ℕ) → SameStory g t u → r.post ≡ s.post → now ≡ version → Agrees g said of u r now
  still u r now k e w = record { same = posts_same g said of t s h.same u r k e; version_is = w ∙ (h.version_is ∙ sym k.version) }

-- a torn write
torn_same : (g : ℕ) (m : Net) (t : Story) (msg : Message) (o : Option Request) (version : Option ℕ) → SameStory g t (tears m t msg o version)
torn_same g m t msg None version = same_story g t
torn_same g m t msg (Some q) None = none q
  where
    none : (q : Request) → SameStory g t (torn_by m t msg q None)
    none (Ask x domain kind) = same_story g t
    none (Release x n) = same_story g t
    none (Query x n) = same_story g t
    none (PreOp x n at dirty) = same_story g t
    none (ReadChunks x n first count) = same_story g t
    none (WriteChunks x n first chunks) = same_story g t
    none (SetLength x n keep count) = same_story g t
    none (PostOp x n at version size attr) = same_story g t
    none (Clear x n at) = same_story g t
    none (NameGet x n name) = same_story g t
    none (NamesAfter x n start) = same_story g t
    none (NameSet x n name child) = same_story g t
    none (NamesPut x n start upto list) = same_story g t
    none (Make x n child) = same_story g t
    none (Made x n child) = same_story g t
    none (Unmake x n child) = same_story g t
    none (Mark x n heal head) = same_story g t
    none (Unmark x n at dirty) = same_story g t
    none (GfidsAfter start dirty) = same_story g t
torn_same g m t msg (Some q) (Some version) = some q
  where
    some : (q : Request) → SameStory g t (torn_by m t msg q (Some version))
    some (Ask x domain kind) = same_story g t
    some (Release x n) = same_story g t
    some (Query x n) = same_story g t
    some (PreOp x n at dirty) = same_story g t
    some (ReadChunks x n first count) = same_story g t
    some (WriteChunks x n first chunks) = same_if g t _ t _ (opens_same g m t msg x.0 _) (same_story g t)
    some (SetLength x n keep count) = same_story g t
    some (PostOp x n at version size attr) = same_story g t
    some (Clear x n at) = same_story g t
    some (NameGet x n name) = same_story g t
    some (NamesAfter x n start) = same_story g t
    some (NameSet x n name child) = same_story g t
    some (NamesPut x n start upto list) = same_story g t
    some (Make x n child) = same_story g t
    some (Made x n child) = same_story g t
    some (Unmake x n child) = same_story g t
    some (Mark x n heal head) = same_story g t
    some (Unmark x n at dirty) = same_story g t
    some (GfidsAfter start dirty) = same_story g t

not_taken : (g : ℕ) (t u : Story) (c : Bool) → c ≡ false → SameStory g t (cond c u t)
not_taken g t u true e = absurd (cc)
not_taken g t u false e = same_story g t

began_same : (g : ℕ) (t : Story) (a : ℕ) (op : Op) → SameStory g t (began t a op)
began_same g t a op = at (makes_a_child op)
  where
    at : (c : Bool) → SameStory g t (cond c (record (found_by t a (λ f. record f { took = t.next_gfid })) { next_gfid = t.next_gfid + 1 }) t)
    at true = record { posted = λ y z. refl; version = refl }
    at false = same_story g t

module _ (geometry : Geometry) (g : ℕ) (m : Net) (v : View) (t : Story) (f : BareFile) (heads : f.heads ≡ v.core) (h : Agrees g m.said v.of t v.core f.flat.version) where
  abbrev n : ℕ
  n = geometry.n

  abbrev k : ℕ
  k = quorum geometry

  abbrev After : State → Story → ℕ → Type 0
  After s u version = Agrees g m.said v.of u s version

  -- what is known of a message that a brick executes
  record Posting (i : ℕ) (msg : Message) (q : Request) : Type 0 where
    unmarking : is_marking g q ≡ false
    number : msg.no ≡ i
    one : is_post_on g q ≡ true → (j : ℕ) (x : Message) (r : Request) → m.said j ≡ Some x → x.body ≡ ToBrick r → is_post_on g r ≡ true → (x.call ≡ msg.call → v.of j ≡ v.of i) × (v.of j ≡ v.of i → x.call ≡ msg.call)
    told : Told n k g m.said v.of v.core (v.of i) msg.brick q

  module _ (i : ℕ) (msg : Message) (q : Request) (said : m.said i ≡ Some msg) (body : msg.body ≡ ToBrick q) (known : Posting i msg q) where
    abbrev worked_acts : Out → List Act
    worked_acts o = acts_worked g (v.of msg.no) msg.brick (counted v.core (v.of msg.no) (exclusive g Inode (m.brick msg.brick).asks)) q o.says

    abbrev lock_acts : Out → List Act
    lock_acts o = acts_locks g m v msg.brick (m.brick msg.brick).asks o.brick.asks

    easy_locks_of : (o : Out) → Easy (lock_acts o)
    easy_locks_of o = easy_locks g m v msg.brick (m.brick msg.brick).asks o.brick.asks

    -- not done, or no PostOp on the gfid
    easily : (u : Story) (o : Out) (ds : List (Deed ⊥ (Unit {0}) (Unit {0}) (Unit {0}) (Unit {0}))) → Settled of_versions.form n k f ds → (is_done o.says && is_post_on g q) ≡ false → SameStory g t u → After (after_acts (worked_acts o ++ lock_acts o) v.core) u (after_deeds of_versions.form n k (ds ++ map (dressed of_versions no_plans n k g) (worked_acts o ++ lock_acts o)) f).flat.version
    easily u o ds s e same =
        let easy = easy_both (worked_acts o) (lock_acts o) (easy_worked g (v.of msg.no) msg.brick _ q o.says e known.unmarking) (easy_locks_of o) in
        still g m.said v.of t v.core f.flat.version h u _ _ same (easy_posts (worked_acts o ++ lock_acts o) v.core easy) (version_easily of_versions no_plans n k g f ds s (worked_acts o ++ lock_acts o) easy)

    -- a PostOp that is done
    posted : (o : Out) (ds : List (Deed ⊥ (Unit {0}) (Unit {0}) (Unit {0}) (Unit {0}))) → Settled of_versions.form n k f ds → (x : Gfid) (grant at version size : ℕ) (attr : Option Attr) → q ≡ PostOp x grant at version size attr → x.0 ≡ g → is_done o.says ≡ true → (head : Head) → head_at (m.brick msg.brick).records g ≡ Some head → head.version.content ≡ at → After (after_acts (worked_acts o ++ lock_acts o) v.core) (post_done geometry m t msg.call g msg.brick version) (after_deeds of_versions.form n k (ds ++ map (dressed of_versions no_plans n k g) (worked_acts o ++ lock_acts o)) f).flat.version
    posted o ds s x grant at version size attr is on done head there names = by (is_marked at) refl
      where
        post_on : is_post_on g q ≡ true
        post_on = subst (λ (y : Request). is_post_on g y ≡ true) (sym is) (subst (λ (y : ℕ). (x.0 == y) ≡ true) on (itself x.0))
          where
            itself : (x : ℕ) → (x == x) ≡ true
            itself x = grind (arith, nat_tests)

        told_post : ToldPostOp n k g m.said v.of v.core (v.of i) msg.brick at version
        told_post = (subst (λ (y : Request). Told n k g m.said v.of v.core (v.of i) msg.brick y) is known.told) on

        worked : worked_acts o ≡ cond (is_marked at) (Sink_post (v.of msg.no) msg.brick) (Post (v.of msg.no) msg.brick) ∷ []
        worked = ap (λ (y : Request). acts_worked g (v.of msg.no) msg.brick (counted v.core (v.of msg.no) (exclusive g Inode (m.brick msg.brick).asks)) y o.says) is ∙ worked_is g (v.of msg.no) msg.brick (counted v.core (v.of msg.no) (exclusive g Inode (m.brick msg.brick).asks)) x grant at version size attr o.says done on

        by : (c : Bool) → is_marked at ≡ c → After (after_acts (worked_acts o ++ lock_acts o) v.core) (post_done geometry m t msg.call g msg.brick version) (after_deeds of_versions.form n k (ds ++ map (dressed of_versions no_plans n k g) (worked_acts o ++ lock_acts o)) f).flat.version
        by true e =
            let acts_are = ap (λ (z : List Act). z ++ lock_acts o) (worked ∙ ap (λ (c : Bool). cond c (Sink_post (v.of msg.no) msg.brick) (Post (v.of msg.no) msg.brick) ∷ []) e) in
            subst (λ (z : List Act). After (after_acts z v.core) (post_done geometry m t msg.call g msg.brick version) (after_deeds of_versions.form n k (ds ++ map (dressed of_versions no_plans n k g) z) f).flat.version) (sym acts_are)
            (still g m.said v.of t v.core f.flat.version h (post_done geometry m t msg.call g msg.brick version) _ _ (untouched (marked e)) (easy_posts (lock_acts o) (act_step v.core (Sink_post (v.of msg.no) msg.brick)) (easy_locks_of o)) (version_sunk of_versions no_plans n k g f ds s (lock_acts o) (v.of msg.no) msg.brick (easy_locks_of o)))
          where
            marked : is_marked at ≡ true → is_unmarked (head_at (m.brick msg.brick).records g) ≡ false
            marked e = ap is_unmarked there ∙ (ap (λ (z : ℕ). not (is_marked z)) names ∙ ap not e)

            untouched : is_unmarked (head_at (m.brick msg.brick).records g) ≡ false → SameStory g t (post_done geometry m t msg.call g msg.brick version)
            untouched u = not_taken g t (cond (is_commit geometry t msg.call g msg.brick) (with_flat (with_post t msg.call g msg.brick) g (λ flat. committed (quorum geometry) msg.call version (change (quorum geometry) (op_of m msg.call) (t.found msg.call) g flat) flat)) (with_post t msg.call g msg.brick)) (is_unmarked (head_at (m.brick msg.brick).records g)) u
        by false e =
            let acts_are = ap (λ (z : List Act). z ++ lock_acts o) (worked ∙ (ap (λ (c : Bool). cond c (Sink_post (v.of msg.no) msg.brick) (Post (v.of msg.no) msg.brick) ∷ []) e ∙ ap (λ (j : ℕ). Post (v.of j) msg.brick ∷ []) known.number)) in
            let unmarked = ap is_unmarked there ∙ (ap (λ (z : ℕ). not (is_marked z)) names ∙ ap not e) in
            subst (λ (z : List Act). After (after_acts z v.core) (post_done geometry m t msg.call g msg.brick version) (after_deeds of_versions.form n k (ds ++ map (dressed of_versions no_plans n k g) z) f).flat.version) (sym acts_are)
            (record {
              same = posts_done g m.said v.of t v.core h.same geometry m i msg q said body post_on (known.one post_on) msg.brick (post_done geometry m t msg.call g msg.brick version) _ (done_posted g m.said v.of t v.core h.same geometry m i msg q said body post_on (known.one post_on) msg.brick version unmarked) (easy_posts (lock_acts o) (act_step v.core (Post (v.of i) msg.brick)) (easy_locks_of o));
              version_is = version_posted of_versions no_plans n k g f ds s (lock_acts o) (v.of i) msg.brick (easy_locks_of o)
                  ∙ (ap (λ (z : State). cond (commits n k z (v.of i) msg.brick) (target (z.ballot (v.of i))) f.flat.version) heads
                  ∙ (ap (λ (z : ℕ). cond (commits n k v.core (v.of i) msg.brick) z f.flat.version) (told_post.target ∙ plain version (told_post.mark ∙ e))
                  ∙ (ap (λ (z : ℕ). cond (commits n k v.core (v.of i) msg.brick) version z) h.version_is
                  ∙ sym (done_version g m.said v.of t v.core h.same geometry m i msg q said body post_on (known.one post_on) msg.brick version unmarked))));
            })

    -- a request that a brick answered
    answered : (o : Out) → (ds : List (Deed ⊥ (Unit {0}) (Unit {0}) (Unit {0}) (Unit {0}))) → Settled of_versions.form n k f ds → o ≡ executed_at (m.brick msg.brick) Fine msg.client msg.no q → After (after_acts (worked_acts o ++ lock_acts o) v.core) (cond (is_done o.says) (done_by geometry m t msg q) t) (after_deeds of_versions.form n k (ds ++ map (dressed of_versions no_plans n k g) (worked_acts o ++ lock_acts o)) f).flat.version
    answered o ds s e = by (is_done o.says) refl
      where
        by : (d : Bool) → is_done o.says ≡ d → After (after_acts (worked_acts o ++ lock_acts o) v.core) (cond d (done_by geometry m t msg q) t) (after_deeds of_versions.form n k (ds ++ map (dressed of_versions no_plans n k g) (worked_acts o ++ lock_acts o)) f).flat.version
        by false d = easily t o ds s (ap (λ (c : Bool). c && is_post_on g q) d) (same_story g t)
        by true d = post (is_post_on g q) refl
          where
            posts : (r : Request) → q ≡ r → is_post_on g r ≡ true → After (after_acts (worked_acts o ++ lock_acts o) v.core) (done_by geometry m t msg r) (after_deeds of_versions.form n k (ds ++ map (dressed of_versions no_plans n k g) (worked_acts o ++ lock_acts o)) f).flat.version
            posts (PostOp x grant at version size attr) is on =
                let here = equal x.0 g on in
                let head = post_head (m.brick msg.brick) msg.client msg.no x grant at version size attr (subst (λ (y : Request). is_done (executed_at (m.brick msg.brick) Fine msg.client msg.no y).says ≡ true) is (subst (λ (z : Out). is_done z.says ≡ true) e d)) in
                subst (λ (y : ℕ). After (after_acts (worked_acts o ++ lock_acts o) v.core) (post_done geometry m t msg.call y msg.brick version) (after_deeds of_versions.form n k (ds ++ map (dressed of_versions no_plans n k g) (worked_acts o ++ lock_acts o)) f).flat.version) (sym here)
                (posted o ds s x grant at version size attr is here d head.0 (subst (λ (y : ℕ). head_at (m.brick msg.brick).records y ≡ Some head.0) here head.1) head.2)
            posts (Ask x domain kind) is on = absurd (cc)
            posts (Release x n) is on = absurd (cc)
            posts (Query x n) is on = absurd (cc)
            posts (PreOp x n at dirty) is on = absurd (cc)
            posts (ReadChunks x n first count) is on = absurd (cc)
            posts (WriteChunks x n first chunks) is on = absurd (cc)
            posts (SetLength x n keep count) is on = absurd (cc)
            posts (Clear x n at) is on = absurd (cc)
            posts (NameGet x n name) is on = absurd (cc)
            posts (NamesAfter x n start) is on = absurd (cc)
            posts (NameSet x n name child) is on = absurd (cc)
            posts (NamesPut x n start upto list) is on = absurd (cc)
            posts (Make x n child) is on = absurd (cc)
            posts (Made x n child) is on = absurd (cc)
            posts (Unmake x n child) is on = absurd (cc)
            posts (Mark x n heal head) is on = absurd (cc)
            posts (Unmark x n at dirty) is on = absurd (cc)
            posts (GfidsAfter start dirty) is on = absurd (cc)

            post : (c : Bool) → is_post_on g q ≡ c → After (after_acts (worked_acts o ++ lock_acts o) v.core) (done_by geometry m t msg q) (after_deeds of_versions.form n k (ds ++ map (dressed of_versions no_plans n k g) (worked_acts o ++ lock_acts o)) f).flat.version
            post true c = posts q refl c
            post false c = easily (done_by geometry m t msg q) o ds s (ap (λ (b : Bool). is_done o.says && b) c ∙ none (is_done o.says)) (done_same geometry g m t msg q c)
              where
                none : (b : Bool) → (b && false) ≡ false
                none true = refl
                none false = refl

  -- an entry by which a brick executes a request
  executed_agrees : (i : ℕ) (version : Option ℕ) (failed : Bool) (may : MayExecute m i version failed) → Posting i may.message may.request → After (after_acts (acts_executed g m v (m.said i) version failed) v.core) (told_executed geometry m t (m.said i) version failed) (after_deeds of_versions.form n k (deeds_executed of_versions no_plans n k g m v f (m.said i) version failed ++ map (dressed of_versions no_plans n k g) (acts_executed g m v (m.said i) version failed)) f).flat.version
  executed_agrees i version failed may known =
      subst (λ (o : Option Message). After (after_acts (acts_executed g m v o version failed) v.core) (told_executed geometry m t o version failed) (after_deeds of_versions.form n k (deeds_executed of_versions no_plans n k g m v f o version failed ++ map (dressed of_versions no_plans n k g) (acts_executed g m v o version failed)) f).flat.version) (sym may.at.said)
      (subst (λ (z : Body). After (after_acts (acts_of_request g m v may.message z version failed) v.core) (executes geometry m t may.message (request_of z) version failed) (after_deeds of_versions.form n k (deeds_of_request of_versions no_plans n k g m v f may.message z version failed ++ map (dressed of_versions no_plans n k g) (acts_of_request g m v may.message z version failed)) f).flat.version) (sym may.at.body)
      (by failed may.fault))
    where
      went : out_of m may.message may.request version false ≡ executed_at (m.brick may.message.brick) Fine may.message.client may.message.no may.request
      went = ap (λ (c : Bool). cond c (executed_at (m.brick may.message.brick) Fine may.message.client may.message.no may.request) (quiet_out (m.brick may.message.brick))) may.at.up

      settled : (failed : Bool) → Settled of_versions.form n k f (deeds_of_request of_versions no_plans n k g m v f may.message (ToBrick may.request) version failed)
      settled failed = subst (λ (z : Body). Settled of_versions.form n k f (deeds_of_request of_versions no_plans n k g m v f may.message z version failed)) may.at.body (settled_executed of_versions no_plans n k g m v f (Some may.message) version failed (written_none n k g m v f (Some may.message) version failed))

      by : (failed : Bool) → failed ≡ is_fault (out_of m may.message may.request version failed).says → After (after_acts (acts_of_request g m v may.message (ToBrick may.request) version failed) v.core) (executes geometry m t may.message (Some may.request) version failed) (after_deeds of_versions.form n k (deeds_of_request of_versions no_plans n k g m v f may.message (ToBrick may.request) version failed ++ map (dressed of_versions no_plans n k g) (acts_of_request g m v may.message (ToBrick may.request) version failed)) f).flat.version
      by false fault = answered i may.message may.request may.at.said may.at.body known (out_of m may.message may.request version false) (deeds_of_request of_versions no_plans n k g m v f may.message (ToBrick may.request) version false) (settled false) went
      by true fault = easily i may.message may.request may.at.said may.at.body known (failed_by m t may.message may.request version) (out_of m may.message may.request version true) (deeds_of_request of_versions no_plans n k g m v f may.message (ToBrick may.request) version true) (settled true) (ap (λ (c : Bool). c && is_post_on g may.request) (fault_not_done (out_of m may.message may.request version true).says (sym fault))) (failed_same g m t may.message may.request version)

-- ## Entries

post_begun : (g : ℕ) (said : ℕ → Option Message) (of : ℕ → ℕ) (moment : ℕ → Bool) (a b i : ℕ) (q : Request) → is_post_on g q ≡ true → IsSound g said of moment a b i q → 2 ^ 61 ≤ of i
post_begun g said of moment a b i (PostOp x n at version size attr) on s = (s (equal x.0 g on)).begun
post_begun g said of moment a b i (Ask x domain kind) on s = absurd (cc)
post_begun g said of moment a b i (Release x n) on s = absurd (cc)
post_begun g said of moment a b i (Query x n) on s = absurd (cc)
post_begun g said of moment a b i (PreOp x n at dirty) on s = absurd (cc)
post_begun g said of moment a b i (ReadChunks x n first count) on s = absurd (cc)
post_begun g said of moment a b i (WriteChunks x n first chunks) on s = absurd (cc)
post_begun g said of moment a b i (SetLength x n keep count) on s = absurd (cc)
post_begun g said of moment a b i (Clear x n at) on s = absurd (cc)
post_begun g said of moment a b i (NameGet x n name) on s = absurd (cc)
post_begun g said of moment a b i (NamesAfter x n start) on s = absurd (cc)
post_begun g said of moment a b i (NameSet x n name child) on s = absurd (cc)
post_begun g said of moment a b i (NamesPut x n start upto list) on s = absurd (cc)
post_begun g said of moment a b i (Make x n child) on s = absurd (cc)
post_begun g said of moment a b i (Made x n child) on s = absurd (cc)
post_begun g said of moment a b i (Unmake x n child) on s = absurd (cc)
post_begun g said of moment a b i (Mark x n heal head) on s = absurd (cc)
post_begun g said of moment a b i (Unmark x n at dirty) on s = absurd (cc)
post_begun g said of moment a b i (GfidsAfter start dirty) on s = absurd (cc)

post_on_of : (g : ℕ) (q : Request) → is_post q ≡ true → gfid_of q ≡ Some g → is_post_on g q ≡ true
post_on_of g (PostOp x n at version size attr) p on = subst (λ (y : ℕ). (x.0 == y) ≡ true) (some_same x.0 g on) (itself x.0)
  where
    some_same : (x y : ℕ) → Some x ≡ Some y → x ≡ y
    some_same x y e = cc

    itself : (x : ℕ) → (x == x) ≡ true
    itself x = grind (arith, nat_tests)
post_on_of g (Ask x domain kind) p on = absurd (cc)
post_on_of g (Release x n) p on = absurd (cc)
post_on_of g (Query x n) p on = absurd (cc)
post_on_of g (PreOp x n at dirty) p on = absurd (cc)
post_on_of g (ReadChunks x n first count) p on = absurd (cc)
post_on_of g (WriteChunks x n first chunks) p on = absurd (cc)
post_on_of g (SetLength x n keep count) p on = absurd (cc)
post_on_of g (Clear x n at) p on = absurd (cc)
post_on_of g (NameGet x n name) p on = absurd (cc)
post_on_of g (NamesAfter x n start) p on = absurd (cc)
post_on_of g (NameSet x n name child) p on = absurd (cc)
post_on_of g (NamesPut x n start upto list) p on = absurd (cc)
post_on_of g (Make x n child) p on = absurd (cc)
post_on_of g (Made x n child) p on = absurd (cc)
post_on_of g (Unmake x n child) p on = absurd (cc)
post_on_of g (Mark x n heal head) p on = absurd (cc)
post_on_of g (Unmark x n at dirty) p on = absurd (cc)
post_on_of g (GfidsAfter start dirty) p on = absurd (cc)

easy_torn : (o : Option Message) → Easy (acts_torn o)
easy_torn None = tt
easy_torn (Some msg) = (refl, tt)

easy_replaced : (c : Bool) (b : ℕ) → Easy (cond c (Replace b ∷ []) [])
easy_replaced true b = (refl, tt)
easy_replaced false b = tt

told_torn_same : (g : ℕ) (m : Net) (t : Story) (o : Option Message) (version : Option ℕ) → SameStory g t (told_torn m t o version)
told_torn_same g m t None version = same_story g t
told_torn_same g m t (Some msg) version = torn_same g m t msg (request_of msg.body) version

module _ (geometry : Geometry) (left : ℕ → Leaving) (none : (a : ℕ) → (left a).kept ≡ None) (first : ℕ) (origins : ℕ → ℕ) (new : (h : ℕ) → first ≤ h → origins h ≡ 0) (g : ℕ) where
  module _ (m : Net) (vs : ℕ → View) (t : Story) (b : Books) (e : Entry) (plain : IsPlainEntry e) (may : MayEnter geometry.n m e) (kept : EntryKept m b e) (k : Reaches geometry first origins m vs t b) (f : BareFile) (heads : f.heads ≡ (vs g).core) (h : Agrees g m.said (vs g).of t (vs g).core f.flat.version) (one : PostsInOneTurn g m (vs g)) (one' : PostsInOneTurn g (net_after m e) (seen_after g m (vs g) e)) where
    v : View
    v = vs g

    r : Reached geometry g m (vs g) b
    r = k.reached g

    posting : (i : ℕ) (msg : Message) (q : Request) → m.said i ≡ Some msg → msg.body ≡ ToBrick q → Posting geometry g m (vs g) t f heads h i msg q
    posting i msg q said body = record {
      unmarking = unmarking g m.said (vs g).of (vs g).core.moment msg.call msg.brick i q (r.known.sound i msg q said body);
      number = (r.known.messages.number i msg said).0;
      one = λ on j x w its its_body its_on. (
        λ c. one j i x msg w q its said its_body body its_on on c,
        λ same.
            let le = post_begun g m.said (vs g).of (vs g).core.moment msg.call msg.brick i q on (r.known.sound i msg q said body) in
            sym (r.known.messages.caller j x its (subst (λ (y : ℕ). 2 ^ 61 ≤ y) (sym same) le)) ∙ (ap (λ (y : ℕ). call_of (m.said (y - 2 ^ 61))) same ∙ r.known.messages.caller i msg said le),
      );
      told = r.shown.asked i msg q said body;
    }

    abbrev Then : Entry → Type 0
    Then x = Agrees g (net_after m x).said (seen_after g m (vs g) x).of (told geometry m t x) (seen_after g m (vs g) x).core (file_after of_versions no_plans geometry.n (quorum geometry) g m (vs g) f x).flat.version

    -- messages and turns as they were
    as_before : (x : Entry) → (net_after m x).said ≡ m.said → (seen_after g m (vs g) x).of ≡ (vs g).of → Agrees g m.said (vs g).of (told geometry m t x) (seen_after g m (vs g) x).core (file_after of_versions no_plans geometry.n (quorum geometry) g m (vs g) f x).flat.version → Then x
    as_before x said of = λ a. subst (λ (y : ℕ → Option Message). Agrees g y (seen_after g m (vs g) x).of (told geometry m t x) (seen_after g m (vs g) x).core (file_after of_versions no_plans geometry.n (quorum geometry) g m (vs g) f x).flat.version) (sym said) (subst (λ (y : ℕ → ℕ). Agrees g m.said y (told geometry m t x) (seen_after g m (vs g) x).core (file_after of_versions no_plans geometry.n (quorum geometry) g m (vs g) f x).flat.version) (sym of) a)

    quietly : (x : Entry) (ds : List (Deed ⊥ (Unit {0}) (Unit {0}) (Unit {0}) (Unit {0}))) → Settled of_versions.form geometry.n (quorum geometry) f ds → data_deeds of_versions no_plans geometry.n (quorum geometry) g m (vs g) f x ≡ ds → (net_after m x).said ≡ m.said → (seen_after g m (vs g) x).of ≡ (vs g).of → SameStory g t (told geometry m t x) → Easy (acts g m (vs g) x) → (seen_after g m (vs g) x).core ≡ after_acts (acts g m (vs g) x) (vs g).core → Then x
    quietly x ds s is said of same easy core = as_before x said of (still g m.said (vs g).of t (vs g).core f.flat.version h (told geometry m t x) (seen_after g m (vs g) x).core (file_after of_versions no_plans geometry.n (quorum geometry) g m (vs g) f x).flat.version same (ap (λ (y : State). y.post) core ∙ easy_posts (acts g m (vs g) x) (vs g).core easy) (ap (λ (y : List (Deed ⊥ (Unit {0}) (Unit {0}) (Unit {0}) (Unit {0}))). (after_deeds of_versions.form geometry.n (quorum geometry) (y ++ map (dressed of_versions no_plans geometry.n (quorum geometry) g) (acts g m (vs g) x)) f).flat.version) is ∙ version_easily of_versions no_plans geometry.n (quorum geometry) g f ds s (acts g m (vs g) x) easy))

    sent_version : (msg : Message) → (file_after of_versions no_plans geometry.n (quorum geometry) g m (vs g) f (Sent msg)).flat.version ≡ f.flat.version
    sent_version msg = body msg.body
      where
        easy : Easy (acts g m (vs g) (Sent msg))
        easy = easy_sent g (vs g).core (turn_of g (vs g) msg) msg.body

        body : (z : Body) → (after_deeds of_versions.form geometry.n (quorum geometry) (deeds_sent of_versions no_plans geometry.n (quorum geometry) g f (turn_of g (vs g) msg) z ++ map (dressed of_versions no_plans geometry.n (quorum geometry) g) (acts g m (vs g) (Sent msg))) f).flat.version ≡ f.flat.version
        body (ToClient re reply) = version_easily of_versions no_plans geometry.n (quorum geometry) g f [] (settled_none of_versions.form geometry.n (quorum geometry) f) (acts g m (vs g) (Sent msg)) easy
        body (ToBrick q) = by (is_post_on g q && not (f.planned (turn_of g (vs g) msg)))
          where
            by : (c : Bool) → (after_deeds of_versions.form geometry.n (quorum geometry) (cond c (Intend (turn_of g (vs g) msg) (no_plans.plan (turn_of g (vs g) msg)) ∷ []) [] ++ map (dressed of_versions no_plans geometry.n (quorum geometry) g) (acts g m (vs g) (Sent msg))) f).flat.version ≡ f.flat.version
            by false = version_easily of_versions no_plans geometry.n (quorum geometry) g f [] (settled_none of_versions.form geometry.n (quorum geometry) f) (acts g m (vs g) (Sent msg)) easy
            by true = easy_version of_versions no_plans geometry.n (quorum geometry) g (acts g m (vs g) (Sent msg)) (step of_versions.form geometry.n (quorum geometry) f (Intend (turn_of g (vs g) msg) (no_plans.plan (turn_of g (vs g) msg)))) easy

    sent_then : (msg : Message) → e ≡ Sent msg → Then (Sent msg)
    sent_then msg is = record {
      same = record {
        posted = λ i x q its its_body its_on c. ⊎_elim
            (λ z. subst (λ (y : Message). (told geometry m t (Sent msg)).posted y.call g c ≡ (seen_after g m (vs g) (Sent msg)).core.post ((seen_after g m (vs g) (Sent msg)).of i) c) z.1 (subst (λ (j : ℕ). (told geometry m t (Sent msg)).posted msg.call g c ≡ (seen_after g m (vs g) (Sent msg)).core.post ((seen_after g m (vs g) (Sent msg)).of j) c) (sym z.0) (posted_as (said.0) msg.call c ∙ (newest q (ap (λ (y : Message). y.body) z.1 ∙ its_body) its_on c ((t.posted msg.call g c)) refl ∙ sym (post_as ((seen_after g m (vs g) (Sent msg)).of msg.no) c)))))
            (λ z. posted_as said.0 x.call c ∙ (h.same.posted i x q z its_body its_on c ∙ (ap (λ (w : ℕ). (vs g).core.post w c) (sym (more.still i x z).1) ∙ sym (post_as ((seen_after g m (vs g) (Sent msg)).of i) c))))
            (more.newest i x its);
        from = λ a c p. let o = h.same.from a c (sym (posted_as said.0 a c) ∙ p) in (o.0, o.1, o.2, (more.still o.0 o.1 o.3).0, o.4, o.5, o.6);
      };
      version_is = sent_version msg ∙ (h.version_is ∙ ap (λ (y : Tree). (y g).version) (sym said.1));
    }
      where
        said : ((told geometry m t (Sent msg)).posted ≡ t.posted) × ((told geometry m t (Sent msg)).tree ≡ t.tree)
        said = said_same t msg.call msg.body

        posted_as : (told geometry m t (Sent msg)).posted ≡ t.posted → (a c : ℕ) → (told geometry m t (Sent msg)).posted a g c ≡ t.posted a g c
        posted_as e a c = ap (λ (y : ℕ → ℕ → ℕ → Bool). y a g c) e

        post_as : (w c : ℕ) → (seen_after g m (vs g) (Sent msg)).core.post w c ≡ (vs g).core.post w c
        post_as w c = ap (λ (y : ℕ → ℕ → Bool). y w c) (easy_posts (acts g m (vs g) (Sent msg)) (vs g).core (easy_sent g (vs g).core (turn_of g (vs g) msg) msg.body))

        more : Adds m.said (net_after m (Sent msg)).said (vs g).of (seen_after g m (vs g) (Sent msg)).of msg.no msg
        more = adds geometry.n g m (vs g) msg (subst (λ (z : Entry). MayEnter geometry.n m z) is may).0 (k.reached g).known.messages

        then : Reached geometry g (net_after m (Sent msg)) (seen_after g m (vs g) (Sent msg)) (booked geometry left m t b (Sent msg))
        then = subst (λ (y : Entry). Reached geometry g (net_after m y) (seen_after g m (vs g) y) (booked geometry left m t b y)) is (reached_then geometry left none first origins new m vs t b e plain may kept k g)

        once : PostsInOneTurn g (net_after m (Sent msg)) (seen_after g m (vs g) (Sent msg))
        once = subst (λ (y : Entry). PostsInOneTurn g (net_after m y) (seen_after g m (vs g) y)) is one'

        mine : (net_after m (Sent msg)).said msg.no ≡ Some msg
        mine = put_here m.said msg.no (Some msg) msg.no refl

        newest : (q : Request) → msg.body ≡ ToBrick q → is_post_on g q ≡ true → (c : ℕ) (u : Bool) → t.posted msg.call g c ≡ u → t.posted msg.call g c ≡ (vs g).core.post ((seen_after g m (vs g) (Sent msg)).of msg.no) c
        newest q body on c true p =
            let o = h.same.from msg.call c p in
            let its = more.still o.0 o.1 o.3 in
            let turn = once msg.no o.0 msg o.1 q o.2 mine its.0 body o.4 on o.5 (sym o.6) in
            ap (λ (y : ℕ). t.posted y g c) (sym o.6) ∙ (h.same.posted o.0 o.1 o.2 o.3 o.4 o.5 c ∙ ap (λ (w : ℕ). (vs g).core.post w c) (sym (turn ∙ its.1)))
        newest q body on c false p = p ∙ sym (none_done ((vs g).core.post ((seen_after g m (vs g) (Sent msg)).of msg.no) c) refl)
          where
            none_done : (u : Bool) → (vs g).core.post ((seen_after g m (vs g) (Sent msg)).of msg.no) c ≡ u → (vs g).core.post ((seen_after g m (vs g) (Sent msg)).of msg.no) c ≡ false
            none_done false u = u
            none_done true u = absurd (
                let le = post_begun g (net_after m (Sent msg)).said (seen_after g m (vs g) (Sent msg)).of (seen_after g m (vs g) (Sent msg)).core.moment msg.call msg.brick msg.no q on (then.known.sound msg.no msg q mine body) in
                let l = (k.reached g).once.post ((seen_after g m (vs g) (Sent msg)).of msg.no) c le u in
                let a = l.asked in
                let its = more.still l.number a.message a.is in
                let turn = its.1 ∙ a.turn in
                let caller = sym (then.known.messages.caller l.number a.message its.0 (subst (λ (y : ℕ). 2 ^ 61 ≤ y) (sym turn) le)) ∙ (ap (λ (y : ℕ). call_of ((net_after m (Sent msg)).said (y - 2 ^ 61))) turn ∙ then.known.messages.caller msg.no msg mine le) in
                let done = h.same.posted l.number a.message a.request a.is a.body (post_on_of g a.request a.passes a.on) c ∙ (ap (λ (w : ℕ). (vs g).core.post w c) a.turn ∙ u) in
                let z = sym p ∙ (ap (λ (y : ℕ). t.posted y g c) (sym caller) ∙ done) in cc)

    entry_then : (x : Entry) → e ≡ x → Then x
    entry_then (Called a client op) is = quietly (Called a client op) [] (settled_none of_versions.form geometry.n (quorum geometry) f) refl refl (made_same g (vs g) a op).1 (began_same g t a op) tt refl
    entry_then (Sent msg) is = sent_then msg is
    entry_then (Executed i version failed) is = let may' = subst (λ (z : Entry). MayEnter geometry.n m z) is may in as_before (Executed i version failed) (executed_same m (m.said i) version failed).0 refl (executed_agrees geometry g m (vs g) t f heads h i version failed may' (posting i may'.message may'.request may'.at.said may'.at.body))
    entry_then (Heard i) is = quietly (Heard i) [] (settled_none of_versions.form geometry.n (quorum geometry) f) refl (heard_same m (m.said i)).0 refl (same_story g t) tt refl
    entry_then (Torn i count version) is = quietly (Torn i count version) (deeds_torn of_versions no_plans geometry.n (quorum geometry) g m (vs g) (m.said i) count version) (settled_torn of_versions no_plans geometry.n (quorum geometry) g m (vs g) f (m.said i) count version (torn_none geometry.n (quorum geometry) g m (vs g) f (m.said i) version)) refl (torn_said m (m.said i) count version).0 refl (told_torn_same g m t (m.said i) version) (easy_torn (m.said i)) refl
    entry_then (Cut client c) is = quietly (Cut client c) [] (settled_none of_versions.form geometry.n (quorum geometry) f) refl refl refl (same_story g t) (easy_locks g m (vs g) c (m.brick c).asks (cut_off (m.brick c) client).brick.asks) refl
    entry_then (Stopped c) is = quietly (Stopped c) [] (settled_none of_versions.form geometry.n (quorum geometry) f) refl refl refl (same_story g t) (refl, tt) refl
    entry_then (Replaced c removed all) is = quietly (Replaced c removed all) [] (settled_none of_versions.form geometry.n (quorum geometry) f) refl refl refl (same_story g t) (easy_replaced (is_some ((m.brick c).records g) && not (is_some (wiped removed all (m.brick c).records g))) c) refl
    entry_then (Lost i) is = quietly (Lost i) [] (settled_none of_versions.form geometry.n (quorum geometry) f) refl refl refl (same_story g t) tt refl
    entry_then (GivenUp client brick i) is = quietly (GivenUp client brick i) [] (settled_none of_versions.form geometry.n (quorum geometry) f) refl refl refl (same_story g t) tt refl
    entry_then (Returned c) is = quietly (Returned c) [] (settled_none of_versions.form geometry.n (quorum geometry) f) refl refl refl (same_story g t) tt refl
    entry_then (Died client) is = quietly (Died client) [] (settled_none of_versions.form geometry.n (quorum geometry) f) refl refl refl (same_story g t) tt refl
    entry_then (Yielded client) is = quietly (Yielded client) [] (settled_none of_versions.form geometry.n (quorum geometry) f) refl refl refl (same_story g t) tt refl
    entry_then (Answered a answer) is = quietly (Answered a answer) [] (settled_none of_versions.form geometry.n (quorum geometry) f) refl refl refl (same_story g t) tt refl

  always_first : (es : List Entry) (m : Net) (v : View) → Always (PostsInOneTurn g) g es m v → PostsInOneTurn g m v
  always_first [] m v a = a
  always_first (e ∷ es) m v a = a.0

  pub versions_agree : (es : List Entry) (m : Net) (vs : ℕ → View) (t : Story) (b : Books) (f : BareFile) → IsRun geometry.n es m → ArePlain es → Kept geometry left none (books geometry left es m t b) → Reaches geometry first origins m vs t b → f.heads ≡ (vs g).core → Agrees g m.said (vs g).of t (vs g).core f.flat.version → Always (PostsInOneTurn g) g es m (vs g) → (file of_versions no_plans geometry.n (quorum geometry) g es m (vs g) f).flat.version ≡ ((story geometry es m t).tree g).version
  versions_agree [] m vs t b f runs plain kept k heads h one = h.version_is
  versions_agree (e ∷ es) m vs t b f runs plain kept k heads h one =
      let p = plain_first e es plain in
      let may = kept_there geometry left none e es m t b runs plain (k.reached g).known.numbers kept in
      versions_agree es (net_after m e) (λ h. seen_after h m (vs h) e) (told geometry m t e) (booked geometry left m t b e) (file_after of_versions no_plans geometry.n (quorum geometry) g m (vs g) f e) runs.1 p.1 kept (reaches_then geometry left none first origins new m vs t b e p.0 runs.0 may k) (entry_heads of_versions no_plans geometry.n (quorum geometry) g m (vs g) f e heads) (entry_then m vs t b e p.0 runs.0 may k f heads h one.0 (always_first es (net_after m e) (seen_after g m (vs g) e) one.1) e refl) one.1
