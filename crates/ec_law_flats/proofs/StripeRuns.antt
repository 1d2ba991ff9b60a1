-- The machine of a file and the flat file have the same closed stripes, entry by entry.
use Rattle.std.proofs.Common.{◌≡◌, ◌⊎◌, ℕ, ◌+◌, ◌≤◌, Bool, true, false, not, cond, ◌==◌, ◌&&◌, ◌||◌, Option, Some, None, List, [], ◌∷◌, map, refl, sym, ◌∙◌, ap, subst, inl, inr}
use Rattle.std.specs.Prelude.{is_some}
use Rattle.ec_attr.specs.Marks.{is_marked, stripped}
use Rattle.ec_attr.specs.declared.geometry.Geometry.{Geometry}
use Rattle.ec_attr.specs.declared.head.Head.{Head}
use Rattle.ec_brick.specs.Step.{Out, cut_off, executed as executed_at, quiet as quiet_out}
use Rattle.ec_conduct.specs.Given.{quorum}
use Rattle.ec_history.specs.Accounts.{Books, Leaving}
use Rattle.ec_history.specs.Changes.{Found}
use Rattle.ec_history.specs.Flat.{Flat as FlatFile, Opener, Tree}
use Rattle.ec_history.specs.Flat.Opener.{Nobody}
use Rattle.ec_history.specs.IsRun.{May as MayEnter, MayExecute, MayTear}
use Rattle.ec_history.specs.Run.{Net, out_of, wiped}
use Rattle.ec_history.specs.Story.{Story, began, done_by, executes, failed_by, found_by, is_at, is_at_flat, is_commit, is_done, is_unmarked, makes_a_child, op_of, outcome, post_done, request_of, tears, told, told_executed, told_torn, torn_by}
use Rattle.ec_store.specs.Records.{head_at}
use Rattle.ec_wire.specs.declared.entry.Entry.{Entry}
use Rattle.ec_wire.specs.declared.entry.Entry.TheVariants.{Called, Sent, Executed, Heard, Lost, GivenUp, Stopped, Returned, Cut, Died, Yielded, Torn, Answered, Replaced}
use Rattle.ec_wire.specs.declared.message.Body.{Body}
use Rattle.ec_wire.specs.declared.message.Body.TheVariants.{ToBrick}
use Rattle.ec_wire.specs.declared.message.Message.{Message}
use Rattle.ec_wire.specs.declared.op.Op.{Op}
use Rattle.ec_wire.specs.declared.request.Request.{Request}
use Rattle.ec_wire.specs.declared.request.Request.TheVariants.{Ask, Release, Query, PreOp, ReadChunks, WriteChunks, SetLength, PostOp, Clear, NameGet, NamesAfter, NameSet, NamesPut, Make, Made, Unmake, Mark, Unmark, GfidsAfter}
use Rattle.ec_law_base.specs.State.{State, target}
use Rattle.ec_law_ballots.specs.Act.{Act}
use Rattle.ec_law_ballots.specs.Act.Act.{Replace, Stop}
use Rattle.ec_law_pieces.specs.Deed.{after as after_deeds, commits}
use Rattle.ec_law_net.specs.Link.{IsHead}
use Rattle.ec_law_net.specs.Turns.{View, acts, turn_of}
use Rattle.ec_law_turns.proofs.Basics.{equal, itself}
use Rattle.ec_law_turns.proofs.Groups.{plain as plain_version}
use Rattle.ec_law_turns.proofs.Numbered.{IsPlainEntry}
use Rattle.ec_law_turns.proofs.Steps.{EntryKept}
use Rattle.ec_law_data.specs.Deeds.{dressed, file_after, is_granted, is_partial, is_post_on}
use Rattle.ec_law_data.specs.Forms.{Shape}
use Rattle.ec_law_data.specs.Reading.{Plans}
use Rattle.ec_law_data.proofs.Fenced.{done_stood}
use Rattle.ec_law_data.proofs.FlatVersions.{SamePosts, commits_same}
use Rattle.ec_law_data.proofs.Guards.{Easy, easy_locks}
use Rattle.ec_law_data.proofs.Reaching.{Reaches}
use Rattle.ec_law_data.proofs.Stories.{said_same}
use Rattle.ec_law_flats.specs.Plans.{plans_on}
use Rattle.ec_law_flats.proofs.MachineSteps.{FlatKept, Opens, SentAs, committed_file, opens_easily, opens_torn, posted_file, same_acts, sent_as, sunk_file, wrote_part}
use Rattle.ec_law_flats.proofs.Planning.{ArePlanned, Stable}
use Rattle.ec_law_flats.proofs.PlanRuns.{executed_file, part_file, part_is, request_file, request_is, torn_file}
use Rattle.ec_law_flats.proofs.PostKinds.{IsNoPost, IsPost, its_acts}
use Rattle.ec_law_flats.proofs.Posting.{known_kind, one_caller, post_on, post_told, post_turn, sunk_told, unmarked_there}
use Rattle.ec_brick.specs.Meets.{failing_at}
use Rattle.ec_law_net.specs.Turns.{seen_after}
use Rattle.ec_law_data.specs.Link.{IsWriter}
use Rattle.std.specs.Prelude.{◌<◌}
use Rattle.ec_history.specs.Run.{after as net_after, failing, torn_out}
use Rattle.ec_history.specs.Story.{commits as story_commits, commits_by, commits_of, commits_with}
use Rattle.ec_brick.specs.Step.{torn_off as torn_at}
use Rattle.ec_law_ballots.specs.Act.{after as after_acts, step as act_step}
use Rattle.ec_law_ballots.specs.Act.Act.{Grant, Free, Share, Unshare, Moment, See, Keep, Carry, Choose, Choose_kept, Pre, Sink_pre, Post, Sink_post, Clear as Clears, Heal_grant, Heal_free, Mark as Marks, Unmark as Unmarks, Maker_grant, Maker_free, Make as Makes, Made as Mades, Unmake as Unmakes}
use Rattle.ec_law_turns.proofs.Sends.{adds}
use Rattle.ec_law_turns.proofs.Tracks.{Adds}
use Rattle.ec_law_data.proofs.Fenced.{part_stood, torn_stood}
use Rattle.ec_law_data.specs.Forms.{Coder, Piece, is_data, stripes_written}
use Rattle.ec_law_data.specs.Reading.{Reading}
use Rattle.ec_law_pieces.specs.File.{Flat, Form}
use Rattle.ec_law_turns.proofs.Steps.{executed_same, heard_same, made_same, torn_same as torn_said}
use Rattle.ec_law_flats.specs.Stripes.{CutsKeep, DataInOneTurn, EntrySized, FitsStripes, of_file_by}
use Rattle.ec_law_flats.proofs.Calls.{AllPlain}
use Rattle.ec_law_flats.proofs.NameRuns.{committed_tree, uncommitted_tree}
use Rattle.ec_law_flats.proofs.StripeSteps.{Below, HasTurn, OneTurn, StripedFile, StripesBelow, commit_below, opens_below, still_below, stripes_stable}
use Rattle.ec_law_flats.proofs.StripeTelling.{CutKeeps, OpensStripes, done_stripes, failed_stripes, opens_nowhere, same_stripes, torn_stripes, unread_stripes, unread_torn}
use Rattle.ec_history.specs.Flat.Opener.{One, Several}

-- the stripes that the machine says a write has
abbrev pub StripeFits : ℕ → ℕ → (ℕ → Shape) → ℕ → Op → Found → (ℕ → Bool) → (ℕ → ℕ → Option ℕ) → Type 0
StripeFits k g took a op found covers sets = FitsStripes k g (took a).size op found covers sets

pub stripes_are_stable : (k g : ℕ) (coder : Coder) (form : Form ℕ (List (List ℕ)) Piece ℕ Shape) (took : ℕ → Shape) → Stable (of_file_by k coder form) (StripeFits k g took) g
stripes_are_stable k g coder form took a op found found' covers sets built same x = stripes_stable k g (took a).size op found found' covers sets built x

pub file_no_write : (g : ℕ) (x : Request) → is_post_on g x ≡ true → is_data g x ≡ false
file_no_write g (PostOp x n at version size attr) on = refl
file_no_write g (Ask x domain kind) on = absurd (cc)
file_no_write g (Release x n) on = absurd (cc)
file_no_write g (Query x n) on = absurd (cc)
file_no_write g (PreOp x n at dirty) on = absurd (cc)
file_no_write g (ReadChunks x n first count) on = absurd (cc)
file_no_write g (WriteChunks x n first chunks) on = absurd (cc)
file_no_write g (SetLength x n keep count) on = absurd (cc)
file_no_write g (Clear x n at) on = absurd (cc)
file_no_write g (NameGet x n name) on = absurd (cc)
file_no_write g (NamesAfter x n start) on = absurd (cc)
file_no_write g (NameSet x n name child) on = absurd (cc)
file_no_write g (NamesPut x n start upto list) on = absurd (cc)
file_no_write g (Make x n child) on = absurd (cc)
file_no_write g (Made x n child) on = absurd (cc)
file_no_write g (Unmake x n child) on = absurd (cc)
file_no_write g (Mark x n heal head) on = absurd (cc)
file_no_write g (Unmark x n at dirty) on = absurd (cc)
file_no_write g (GfidsAfter start dirty) on = absurd (cc)

-- acts leave which call a turn is
pub calls_kept : (es : List Act) (s : State) → (after_acts es s).call ≡ s.call
calls_kept [] s = refl
calls_kept (e ∷ es) s = calls_kept es (act_step s e) ∙ one e
  where
    one : (e : Act) → (act_step s e).call ≡ s.call
    one (Grant a b) = refl
    one (Free b) = refl
    one (Share a b) = refl
    one (Unshare a b) = refl
    one (Moment a) = refl
    one (See a b) = refl
    one (Keep x a) = refl
    one (Carry a x b) = refl
    one (Choose a p) = refl
    one (Choose_kept x a p) = refl
    one (Pre a b) = refl
    one (Sink_pre a b) = refl
    one (Post a b) = refl
    one (Sink_post a b) = refl
    one (Clears a b) = refl
    one (Heal_grant h b) = refl
    one (Heal_free b) = refl
    one (Marks a b) = refl
    one (Unmarks a b) = refl
    one (Maker_grant b) = refl
    one (Maker_free b) = refl
    one (Makes b) = refl
    one (Mades b) = refl
    one (Unmakes b) = refl
    one (Stop b) = refl
    one (Replace b) = refl

-- what is kept as messages are added
below_more : (k g : ℕ) (said said' : ℕ → Option Message) (of of' : ℕ → ℕ) (flat : Flat ℕ ℕ Shape) (x : FlatFile) → ((i : ℕ) (y : Message) → said i ≡ Some y → (said' i ≡ Some y) × (of' i ≡ of i)) → StripesBelow k g said of flat x → StripesBelow k g said' of' flat x
below_more k g said said' of of' flat x more j = record { version = j.version; below = λ s. by (flat.opener s) (x.opener s) (j.below s); bytes = j.bytes }
  where
    turn : (c a : ℕ) → HasTurn g said of c a → HasTurn g said' of' c a
    turn c a h = let o = more h.number h.message h.is in record { number = h.number; message = h.message; request = h.request; is = o.0; body = h.body; changes = h.changes; caller = h.caller; turn_is = o.1 ∙ h.turn_is }

    by : (y o : Opener) → Below g said of y o → Below g said' of' y o
    by y Nobody b = b
    by y Several b = b
    by y (One c) (inl b) = inl b
    by y (One c) (inr b) = inr (b.0, b.1, turn c b.0 b.2)

began_tree : (t : Story) (a : ℕ) (op : Op) → (began t a op).tree ≡ t.tree
began_tree t a op = by (makes_a_child op)
  where
    by : (c : Bool) → (cond c (record (found_by t a (λ f. record f { took = t.next_gfid })) { next_gfid = t.next_gfid + 1 }) t).tree ≡ t.tree
    by true = refl
    by false = refl

easy_replaced : (c : Bool) (b : ℕ) → Easy (cond c (Replace b ∷ []) [])
easy_replaced true b = (refl, tt)
easy_replaced false b = tt

-- a data request on the gfid is one of a writer
data_writer : (g : ℕ) (q : Request) → is_data g q ≡ true → IsWriter g q
data_writer g (WriteChunks x n first chunks) e = equal x.0 g e
data_writer g (SetLength x n keep count) e = equal x.0 g e
data_writer g (Ask x domain kind) e = absurd (cc)
data_writer g (Release x n) e = absurd (cc)
data_writer g (Query x n) e = absurd (cc)
data_writer g (PreOp x n at dirty) e = absurd (cc)
data_writer g (ReadChunks x n first count) e = absurd (cc)
data_writer g (PostOp x n at version size attr) e = absurd (cc)
data_writer g (Clear x n at) e = absurd (cc)
data_writer g (NameGet x n name) e = absurd (cc)
data_writer g (NamesAfter x n start) e = absurd (cc)
data_writer g (NameSet x n name child) e = absurd (cc)
data_writer g (NamesPut x n start upto list) e = absurd (cc)
data_writer g (Make x n child) e = absurd (cc)
data_writer g (Made x n child) e = absurd (cc)
data_writer g (Unmake x n child) e = absurd (cc)
data_writer g (Mark x n heal head) e = absurd (cc)
data_writer g (Unmark x n at dirty) e = absurd (cc)
data_writer g (GfidsAfter start dirty) e = absurd (cc)

module _ (coder : Coder) (form : Form ℕ (List (List ℕ)) Piece ℕ Shape) (plans : Plans ℕ (List (List ℕ)) ℕ Shape) (geometry : Geometry) (left : ℕ → Leaving) (none : (a : ℕ) → (left a).kept ≡ None) (first : ℕ) (origins : ℕ → ℕ) (new : (h : ℕ) → first ≤ h → origins h ≡ 0) (g : ℕ) (m : Net) (vs : ℕ → View) (t : Story) (b : Books) (e : Entry) (plain : IsPlainEntry e) (may : MayEnter geometry.n m e) (kept : EntryKept m b e) (k : Reaches geometry first origins m vs t b) (f : StripedFile) (heads : f.heads ≡ (vs g).core) (own : (a : ℕ) → (vs g).core.call a ≡ a) (posts : SamePosts g m.said (vs g).of t (vs g).core) (planned : ArePlanned (of_file_by (quorum geometry) coder form) (StripeFits (quorum geometry) g plans.took) g m.said (vs g).of m t f) (all_plain : AllPlain m) (one : DataInOneTurn g m (vs g)) (cuts : CutsKeep g m (vs g)) (sized : EntrySized plans.took geometry g m (vs g) t e) (agree : StripesBelow (quorum geometry) g m.said (vs g).of f.flat (t.tree g)) where
  abbrev v : View
  v = vs g

  abbrev R : Reading ℕ (List (List ℕ)) Piece ℕ Shape
  R = of_file_by (quorum geometry) coder form

  abbrev Agrees : StripedFile → FlatFile → Type 0
  Agrees h y = StripesBelow (quorum geometry) g m.said v.of h.flat y

  own_call : (a : ℕ) → f.heads.call a ≡ a
  own_call a = ap (λ (s : State). s.call a) heads ∙ own a

  -- the head of a brick that has a record
  at_flat : (c : ℕ) (head : Head) → c < geometry.n → head_at (m.brick c).records g ≡ Some head → (f.heads.version c == f.flat.version) ≡ true → is_at_flat m t c g ≡ true
  at_flat c head lt is e =
      let l = (k.reached g).linked in
      let h = subst (λ (o : Option Head). IsHead o v.core c) is (l.heads c lt) in
      ap (λ (o : Option Head). is_at o (t.tree g).version) is
      ∙ subst (λ (y : ℕ). (stripped head.version.content == y) ≡ true) (sym h.1 ∙ (sym (ap (λ (s : State). s.version c) heads) ∙ (equal (f.heads.version c) f.flat.version e ∙ agree.version))) (itself (stripped head.version.content))

  apart : (c d : Bool) → (c && d) ≡ true → (c ≡ true) × (d ≡ true)
  apart true d h = (refl, h)
  apart false d h = absurd (cc)

  -- of a message that was said
  module _ (i : ℕ) (msg : Message) (q : Request) (said : m.said i ≡ Some msg) (body : msg.body ≡ ToBrick q) where
    number : msg.no ≡ i
    number = ((k.reached g).known.messages.number i msg said).0

    there : Bool
    there = f.heads.version msg.brick == f.flat.version

    has_turn : (is_data g q ≡ true) ⊎ (is_post_on g q ≡ true) → HasTurn g m.said v.of msg.call (v.of msg.no) × OneTurn g m.said v.of msg.call (v.of msg.no)
    has_turn changes = (
      record { number = i; message = msg; request = q; is = said; body = body; changes = changes; caller = refl; turn_is = ap v.of (sym number) },
      λ x h. sym h.turn_is ∙ (one h.number i h.message msg h.request q h.is said h.body body h.changes changes h.caller ∙ ap v.of (sym number)),
    )

    below_n : msg.brick < geometry.n
    below_n = (k.reached g).linked.to i msg q said body

    cut_keeps : (r : Request) → q ≡ r → CutKeeps geometry g m t msg (m.brick msg.brick) (f.heads.version msg.brick == f.flat.version) (all_plain msg.call) r
    cut_keeps (SetLength x n keep count) is = λ on. cuts i msg x n keep count said (body ∙ ap (λ (r : Request). ToBrick r) is) on
    cut_keeps (Ask x domain kind) is = tt
    cut_keeps (Release x n) is = tt
    cut_keeps (Query x n) is = tt
    cut_keeps (PreOp x n at dirty) is = tt
    cut_keeps (ReadChunks x n first count) is = tt
    cut_keeps (WriteChunks x n first chunks) is = tt
    cut_keeps (PostOp x n at version size attr) is = tt
    cut_keeps (Clear x n at) is = tt
    cut_keeps (NameGet x n name) is = tt
    cut_keeps (NamesAfter x n start) is = tt
    cut_keeps (NameSet x n name child) is = tt
    cut_keeps (NamesPut x n start upto list) is = tt
    cut_keeps (Make x n child) is = tt
    cut_keeps (Made x n child) is = tt
    cut_keeps (Unmake x n child) is = tt
    cut_keeps (Mark x n heal head) is = tt
    cut_keeps (Unmark x n at dirty) is = tt
    cut_keeps (GfidsAfter start dirty) is = tt

    -- the machine opens what the story opens, or less
    opens_agree : (h : StripedFile) (y : FlatFile) (test : ℕ → Bool) (w : Bool) → Opens f h (v.of msg.no) msg.brick (stripes_written q) w → OpensStripes (t.tree g) y msg.call (is_data g q) test → ((s : ℕ) → test s ≡ (w && (stripes_written q s && (f.heads.version msg.brick == f.flat.version)))) → Agrees h y
    opens_agree h y test w s d same = opens_below (quorum geometry) g m.said v.of f h (t.tree g) y (v.of msg.no) msg.brick msg.call (stripes_written q) test w (own_call (v.of msg.no)) (is_data g q) (λ e. has_turn (inl e)) s d same agree

  -- of a request that a brick executes
  module _ (i : ℕ) (version : Option ℕ) (failed : Bool) (x : MayExecute m i version failed) where
    abbrev msg : Message
    msg = x.message

    abbrev q : Request
    q = x.request

    abbrev its_file : Bool → StripedFile
    its_file failed = request_file R plans file_no_write geometry left none first origins new g m vs t b e plain may kept k f msg q version failed

    went : (failed : Bool) → out_of m msg q version failed ≡ executed_at (m.brick msg.brick) (failing failed version) msg.client msg.no q
    went failed = ap (λ (c : Bool). cond c (executed_at (m.brick msg.brick) (failing failed version) msg.client msg.no q) (quiet_out (m.brick msg.brick))) x.at.up

    abbrev is_there : Bool
    is_there = f.heads.version msg.brick == f.flat.version

    done_at : is_done (out_of m msg q version false).says ≡ true → (is_data g q && is_granted (m.brick msg.brick) q) ≡ true → is_there ≡ true → is_at_flat m t msg.brick g ≡ true
    done_at done both e =
        let two = apart (is_data g q) (is_granted (m.brick msg.brick) q) both in
        let head = done_stood g (m.brick msg.brick) msg.client msg.no q (data_writer g q two.0) two.1 (subst (λ (o : Out). is_done o.says ≡ true) (went false) done) in
        at_flat msg.brick head.head (below_n i msg q x.at.said x.at.body) head.there e

    failed_at : (y : ℕ) → version ≡ Some y → version ≡ (out_of m msg q version true).version → ((is_data g q && is_partial q) && is_granted (m.brick msg.brick) q) ≡ true → is_there ≡ true → is_at_flat m t msg.brick g ≡ true
    failed_at y is read both e =
        let two = apart (is_data g q && is_partial q) (is_granted (m.brick msg.brick) q) both in
        let writes = (apart (is_data g q) (is_partial q) two.0).0 in
        let head = part_stood g (m.brick msg.brick) msg.client msg.no y q (data_writer g q writes) two.1 (ap (λ (o : Option ℕ). (executed_at (m.brick msg.brick) (failing_at o) msg.client msg.no q).version) (sym is) ∙ (sym (ap (λ (o : Out). o.version) (went true)) ∙ (sym read ∙ is))) in
        at_flat msg.brick head.head (below_n i msg q x.at.said x.at.body) head.there e

    -- a request that is no PostOp that is done
    no_post : (failed : Bool) → version ≡ (out_of m msg q version failed).version → (is_done (out_of m msg q version failed).says && is_post_on g q) ≡ false → Easy (its_acts geometry g m v msg q version failed) → Agrees (its_file failed) ((outcome geometry m t msg q version failed).tree g)
    no_post true read undone easy = by version refl (opens_easily R plans geometry.n (quorum geometry) g m v f msg q version true (its_acts geometry g m v msg q version true) easy)
      where
        by : (o : Option ℕ) → version ≡ o → Opens f (its_file true) (v.of msg.no) msg.brick (stripes_written q) (wrote_part R plans geometry.n (quorum geometry) g f (v.of msg.no) msg.brick q (m.brick msg.brick) version) → Agrees (its_file true) ((failed_by m t msg q version).tree g)
        by None is s = subst (λ (o : Option ℕ). Agrees (its_file true) ((failed_by m t msg q o).tree g)) (sym is)
            (opens_agree i msg q x.at.said x.at.body (its_file true) ((failed_by m t msg q None).tree g) (λ s. false) false (subst (λ (o : Option ℕ). Opens f (its_file true) (v.of msg.no) msg.brick (stripes_written q) (wrote_part R plans geometry.n (quorum geometry) g f (v.of msg.no) msg.brick q (m.brick msg.brick) o)) is s) (unread_stripes geometry g m t msg (m.brick msg.brick) is_there (all_plain msg.call) q) (λ s. refl))
        by (Some y) is s = subst (λ (o : Option ℕ). Agrees (its_file true) ((failed_by m t msg q o).tree g)) (sym is)
            (opens_agree i msg q x.at.said x.at.body (its_file true) ((failed_by m t msg q (Some y)).tree g) _ ((is_data g q && is_partial q) && is_granted (m.brick msg.brick) q) (subst (λ (o : Option ℕ). Opens f (its_file true) (v.of msg.no) msg.brick (stripes_written q) (wrote_part R plans geometry.n (quorum geometry) g f (v.of msg.no) msg.brick q (m.brick msg.brick) o)) is s) (failed_stripes geometry g m t msg (m.brick msg.brick) is_there (all_plain msg.call) q y (failed_at y is read)) (λ s. refl))
    no_post false read undone easy = by (is_done (out_of m msg q version false).says) refl (opens_easily R plans geometry.n (quorum geometry) g m v f msg q version false (its_acts geometry g m v msg q version false) easy)
      where
        by : (d : Bool) → is_done (out_of m msg q version false).says ≡ d → Opens f (its_file false) (v.of msg.no) msg.brick (stripes_written q) (is_done (out_of m msg q version false).says && (is_data g q && is_granted (m.brick msg.brick) q)) → Agrees (its_file false) ((cond d (done_by geometry m t msg q) t).tree g)
        by true d s = opens_agree i msg q x.at.said x.at.body (its_file false) ((done_by geometry m t msg q).tree g) _ (is_done (out_of m msg q version false).says && (is_data g q && is_granted (m.brick msg.brick) q)) s (done_stripes geometry g m t msg (m.brick msg.brick) is_there (all_plain msg.call) q (sym (ap (λ (c : Bool). c && is_post_on g q) d) ∙ undone) (done_at d) (cut_keeps i msg q x.at.said x.at.body q refl)) (λ s. sym (ap (λ (c : Bool). (c && (is_data g q && is_granted (m.brick msg.brick) q)) && (stripes_written q s && is_there)) d))
        by false d s = opens_agree i msg q x.at.said x.at.body (its_file false) (t.tree g) (λ s. false) (is_done (out_of m msg q version false).says && (is_data g q && is_granted (m.brick msg.brick) q)) s (opens_nowhere (t.tree g) (t.tree g) msg.call (is_data g q) (λ s. false) (same_stripes (t.tree g)) (λ s. refl)) (λ s. sym (ap (λ (c : Bool). (c && (is_data g q && is_granted (m.brick msg.brick) q)) && (stripes_written q s && is_there)) d))

    -- a PostOp that is done
    a_post : IsPost geometry g m v msg q version failed → EntrySized plans.took geometry g m v t (Executed i version failed) → Agrees (its_file failed) ((executes geometry m t msg (Some q) version failed).tree g)
    a_post p size = subst (λ (u : Story). Agrees (its_file failed) (u.tree g)) (sym (post_told geometry g m v t msg q version failed p)) (by (is_marked p.old) (is_commit geometry t msg.call g msg.brick) refl refl)
      where
        on : is_post_on g q ≡ true
        on = post_on geometry g m v t msg q version failed p

        no_is : msg.no ≡ i
        no_is = number i msg q x.at.said x.at.body

        same_call : (j : ℕ) (y : Message) → m.said j ≡ Some y → v.of j ≡ v.of i → y.call ≡ msg.call
        same_call j y its same = one_caller geometry left none first origins new g m vs t b e plain may kept k i j msg y x.at.said its (post_turn geometry left none first origins new g m vs t b e plain may kept k i msg q x.at.said x.at.body on) same

        commits_are : is_commit geometry t msg.call g msg.brick ≡ commits geometry.n (quorum geometry) f.heads (v.of msg.no) msg.brick
        commits_are =
            commits_same g m.said v.of t v.core posts geometry m i msg q x.at.said x.at.body on (λ j y w its its_body its_on. (λ c. one j i y msg w q its x.at.said its_body x.at.body (inr its_on) (inr on) c, λ same. same_call j y its same)) msg.brick
            ∙ (ap (λ (s : State). commits geometry.n (quorum geometry) s (v.of i) msg.brick) (sym heads) ∙ ap (λ (j : ℕ). commits geometry.n (quorum geometry) f.heads (v.of j) msg.brick) (sym no_is))

        fits : FitsStripes (quorum geometry) g (plans.took (v.of msg.no)).size (op_of m msg.call) (t.found msg.call) (f.covers (v.of msg.no)) (f.sets (v.of msg.no))
        fits =
            let has = planned.plan (v.of msg.no) (subst (λ (j : ℕ). f.planned (v.of j) ≡ true) (sym no_is) (planned.asked i msg x.at.said (ap (λ (z : Body). plans_on R g z) x.at.body ∙ either (is_data g q) (is_post_on g q) on))) in
            subst (λ (c : ℕ). FitsStripes (quorum geometry) g (plans.took (v.of msg.no)).size (op_of m c) (t.found c) (f.covers (v.of msg.no)) (f.sets (v.of msg.no))) (same_call has.number has.message has.is (has.turn ∙ ap v.of no_is)) has.fits
          where
            either : (c d : Bool) → d ≡ true → (c || d) ≡ true
            either true d e = refl
            either false d e = e

        commits_now : is_marked p.old ≡ false → is_commit geometry t msg.call g msg.brick ≡ true → story_commits geometry m t (Executed i version failed) ≡ true
        commits_now e u =
            ap (λ (o : Option Message). commits_of geometry m t o version failed) x.at.said
            ∙ (ap (λ (z : Body). commits_with geometry m t msg (request_of z) version failed) x.at.body
            ∙ (ap (λ (c : Bool). commits_with geometry m t msg (Some q) version c) p.fine
            ∙ (ap (λ (d : Bool). d && commits_by geometry m t msg q) (subst (λ (c : Bool). is_done (out_of m msg q version c).says ≡ true) p.fine p.done)
            ∙ (ap (λ (r : Request). commits_by geometry m t msg r) p.is
            ∙ (ap (λ (y : ℕ). is_unmarked (head_at (m.brick msg.brick).records y) && is_commit geometry t msg.call y msg.brick) p.on
            ∙ (ap (λ (c : Bool). c && is_commit geometry t msg.call g msg.brick) (unmarked_there geometry g m v t msg q version failed p e) ∙ u))))))

        by : (c d : Bool) → is_marked p.old ≡ c → is_commit geometry t msg.call g msg.brick ≡ d → Agrees (its_file failed) ((post_done geometry m t msg.call g msg.brick p.new).tree g)
        by true d e u = subst (λ (z : Story). Agrees (its_file failed) (z.tree g)) (sym (sunk_told geometry g m v t msg q version failed p e)) (still_below (quorum geometry) g m.said v.of f (its_file failed) (t.tree g) (t.tree g) (sunk_file R plans geometry g (file_no_write g) m v f msg q version failed p on e).flat (same_stripes (t.tree g)) agree)
        by false true e u = subst (λ (z : FlatFile). Agrees (its_file failed) z) (sym (committed_tree geometry m t msg.call g msg.brick p.new (unmarked_there geometry g m v t msg q version failed p e) u))
            (commit_below (quorum geometry) g m.said v.of f (its_file failed) (t.tree g) (v.of msg.no) msg.call (plans.took (v.of msg.no)).size p.new (op_of m msg.call) (t.found msg.call) (own_call (v.of msg.no)) (has_turn i msg q x.at.said x.at.body (inr on)).1 (committed_file R plans geometry g (file_no_write g) m v f msg q version failed p on e (sym commits_are ∙ u)) fits (ap (λ (j : ℕ). (plans.took (v.of j)).size) no_is ∙ size msg q x.at.said x.at.body on (commits_now e u)) (ap (λ (s : State). target (s.ballot (v.of msg.no))) heads ∙ (p.target ∙ plain_version p.new (p.mark ∙ e))) agree)
        by false false e u = subst (λ (z : FlatFile). Agrees (its_file failed) z) (sym (uncommitted_tree geometry m t msg.call g msg.brick p.new (unmarked_there geometry g m v t msg q version failed p e) u))
            (still_below (quorum geometry) g m.said v.of f (its_file failed) (t.tree g) (t.tree g) (posted_file R plans geometry g (file_no_write g) m v f msg q version failed p on e (sym commits_are ∙ u)).flat (same_stripes (t.tree g)) agree)

    request_then : EntrySized plans.took geometry g m v t (Executed i version failed) → IsNoPost geometry g m v msg q version failed ⊎ IsPost geometry g m v msg q version failed → Agrees (its_file failed) ((executes geometry m t msg (Some q) version failed).tree g)
    request_then size (inl p) = no_post failed x.read p.not_done p.easy
    request_then size (inr p) = a_post p size

    executed_then : EntrySized plans.took geometry g m v t (Executed i version failed) → Agrees (executed_file R plans file_no_write geometry left none first origins new g m vs t b e plain may kept k f i version failed) ((told_executed geometry m t (m.said i) version failed).tree g)
    executed_then size =
        subst (λ (h : StripedFile). Agrees h ((told_executed geometry m t (m.said i) version failed).tree g)) (sym (request_is R plans file_no_write geometry left none first origins new g m vs t b e plain may kept k f i version failed x))
        (subst (λ (o : Option Message). Agrees (its_file failed) ((told_executed geometry m t o version failed).tree g)) (sym x.at.said)
        (subst (λ (z : Body). Agrees (its_file failed) ((executes geometry m t msg (request_of z) version failed).tree g)) (sym x.at.body)
        (request_then size (known_kind geometry left none first origins new g m vs t b e plain may kept k i version failed x))))

  -- of a write that is torn
  module _ (i count : ℕ) (version : Option ℕ) (x : MayTear m i count version) where
    abbrev part : StripedFile
    part = part_file R plans file_no_write geometry left none first origins new g m vs t b e plain may kept k f x.message x.request count version

    torn_at_flat : (y : ℕ) → version ≡ Some y → ((is_data g x.request && is_partial x.request) && is_granted (m.brick x.message.brick) x.request) ≡ true → (f.heads.version x.message.brick == f.flat.version) ≡ true → is_at_flat m t x.message.brick g ≡ true
    torn_at_flat y is both e =
        let two = apart (is_data g x.request && is_partial x.request) (is_granted (m.brick x.message.brick) x.request) both in
        let writes = (apart (is_data g x.request) (is_partial x.request) two.0).0 in
        let head = torn_stood g (m.brick x.message.brick) count y x.request (data_writer g x.request writes) two.1 (ap (λ (o : Option ℕ). (torn_at (m.brick x.message.brick) (failing_at o) x.request count).version) (sym is) ∙ (sym (ap (λ (o : Out). o.version) went) ∙ (sym x.read ∙ is))) in
        at_flat x.message.brick head.head (below_n i x.message x.request x.at.said x.at.body) head.there e
      where
        went : torn_out m x.message x.request count version ≡ torn_at (m.brick x.message.brick) (failing_at version) x.request count
        went = ap (λ (c : Bool). cond c (torn_at (m.brick x.message.brick) (failing_at version) x.request count) (quiet_out (m.brick x.message.brick))) x.at.up

    part_agrees : Agrees part ((torn_by m t x.message x.request version).tree g)
    part_agrees = by version refl (opens_torn R plans geometry.n (quorum geometry) g m v f x.message x.request version count (Stop x.message.brick ∷ []) (refl, tt))
      where
        by : (o : Option ℕ) → version ≡ o → Opens f part (v.of x.message.no) x.message.brick (stripes_written x.request) (wrote_part R plans geometry.n (quorum geometry) g f (v.of x.message.no) x.message.brick x.request (m.brick x.message.brick) version) → Agrees part ((torn_by m t x.message x.request version).tree g)
        by None is s = subst (λ (o : Option ℕ). Agrees part ((torn_by m t x.message x.request o).tree g)) (sym is)
            (opens_agree i x.message x.request x.at.said x.at.body part ((torn_by m t x.message x.request None).tree g) (λ s. false) false (subst (λ (o : Option ℕ). Opens f part (v.of x.message.no) x.message.brick (stripes_written x.request) (wrote_part R plans geometry.n (quorum geometry) g f (v.of x.message.no) x.message.brick x.request (m.brick x.message.brick) o)) is s) (unread_torn geometry g m t x.message (f.heads.version x.message.brick == f.flat.version) (all_plain x.message.call) x.request count x.bytes) (λ s. refl))
        by (Some y) is s = subst (λ (o : Option ℕ). Agrees part ((torn_by m t x.message x.request o).tree g)) (sym is)
            (opens_agree i x.message x.request x.at.said x.at.body part ((torn_by m t x.message x.request (Some y)).tree g) _ ((is_data g x.request && is_partial x.request) && is_granted (m.brick x.message.brick) x.request) (subst (λ (o : Option ℕ). Opens f part (v.of x.message.no) x.message.brick (stripes_written x.request) (wrote_part R plans geometry.n (quorum geometry) g f (v.of x.message.no) x.message.brick x.request (m.brick x.message.brick) o)) is s) (torn_stripes geometry g m t x.message (f.heads.version x.message.brick == f.flat.version) (all_plain x.message.call) x.request count y x.bytes (torn_at_flat y is)) (λ s. refl))

    torn_then : Agrees (torn_file R plans file_no_write geometry left none first origins new g m vs t b e plain may kept k f i count version) ((told_torn m t (m.said i) version).tree g)
    torn_then =
        subst (λ (h : StripedFile). Agrees h ((told_torn m t (m.said i) version).tree g)) (sym (part_is R plans file_no_write geometry left none first origins new g m vs t b e plain may kept k f i count version x))
        (subst (λ (o : Option Message). Agrees part ((told_torn m t o version).tree g)) (sym x.at.said)
        (subst (λ (z : Body). Agrees part ((tears m t x.message (request_of z) version).tree g)) (sym x.at.body) part_agrees))

  abbrev Then : Entry → Type 0
  Then x = StripesBelow (quorum geometry) g (net_after m x).said (seen_after g m v x).of (file_after R plans geometry.n (quorum geometry) g m v f x).flat ((told geometry m t x).tree g)

  -- messages and turns as they were
  as_before : (x : Entry) → (net_after m x).said ≡ m.said → (seen_after g m v x).of ≡ v.of → Agrees (file_after R plans geometry.n (quorum geometry) g m v f x) ((told geometry m t x).tree g) → Then x
  as_before x said of a = below_more (quorum geometry) g m.said (net_after m x).said v.of (seen_after g m v x).of (file_after R plans geometry.n (quorum geometry) g m v f x).flat ((told geometry m t x).tree g) (λ i y is. (ap (λ (z : ℕ → Option Message). z i) said ∙ is, ap (λ (z : ℕ → ℕ). z i) of)) a

  -- entries by which no brick does a request
  quiet : (es : List Act) → Easy es → Agrees (after_deeds R.form geometry.n (quorum geometry) (map (dressed R plans geometry.n (quorum geometry) g) es) f) (t.tree g)
  quiet es easy = still_below (quorum geometry) g m.said v.of f (after_deeds R.form geometry.n (quorum geometry) (map (dressed R plans geometry.n (quorum geometry) g) es) f) (t.tree g) (t.tree g) (same_acts R plans geometry.n (quorum geometry) g es f easy).flat (same_stripes (t.tree g)) agree

  sent_then : (msg : Message) → e ≡ Sent msg → Then (Sent msg)
  sent_then msg is =
      subst (λ (y : Tree). StripesBelow (quorum geometry) g (net_after m (Sent msg)).said (seen_after g m v (Sent msg)).of (file_after R plans geometry.n (quorum geometry) g m v f (Sent msg)).flat (y g)) (sym (said_same t msg.call msg.body).1)
      (below_more (quorum geometry) g m.said (net_after m (Sent msg)).said v.of (seen_after g m v (Sent msg)).of (file_after R plans geometry.n (quorum geometry) g m v f (Sent msg)).flat (t.tree g) more.still
      (still_below (quorum geometry) g m.said v.of f (file_after R plans geometry.n (quorum geometry) g m v f (Sent msg)) (t.tree g) (t.tree g) (by (plans_on R g msg.body && not (f.planned (turn_of g v msg))) (sent_as R plans geometry g m v f msg)) (same_stripes (t.tree g)) agree))
    where
      more : Adds m.said (net_after m (Sent msg)).said v.of (seen_after g m v (Sent msg)).of msg.no msg
      more = adds geometry.n g m v msg (subst (λ (z : Entry). MayEnter geometry.n m z) is may).0 (k.reached g).known.messages

      by : (c : Bool) → SentAs R plans geometry g m v f msg c (file_after R plans geometry.n (quorum geometry) g m v f (Sent msg)) → FlatKept f (file_after R plans geometry.n (quorum geometry) g m v f (Sent msg))
      by true s = s.flat
      by false s = s.flat

  entry_then : (x : Entry) → e ≡ x → Then x
  entry_then (Called a client op) is = as_before (Called a client op) refl (made_same g v a op).1 (subst (λ (y : Tree). Agrees f (y g)) (sym (began_tree t a op)) agree)
  entry_then (Sent msg) is = sent_then msg is
  entry_then (Executed i version failed) is = as_before (Executed i version failed) (executed_same m (m.said i) version failed).0 refl (executed_then i version failed (subst (λ (z : Entry). MayEnter geometry.n m z) is may) (subst (λ (z : Entry). EntrySized plans.took geometry g m v t z) is sized))
  entry_then (Heard i) is = as_before (Heard i) (heard_same m (m.said i)).0 refl agree
  entry_then (Torn i count version) is = as_before (Torn i count version) (torn_said m (m.said i) count version).0 refl (torn_then i count version (subst (λ (z : Entry). MayEnter geometry.n m z) is may))
  entry_then (Cut client c) is = quiet (acts g m v (Cut client c)) (easy_locks g m v c (m.brick c).asks (cut_off (m.brick c) client).brick.asks)
  entry_then (Stopped c) is = quiet (Stop c ∷ []) (refl, tt)
  entry_then (Replaced c removed all) is = quiet (acts g m v (Replaced c removed all)) (easy_replaced (is_some ((m.brick c).records g) && not (is_some (wiped removed all (m.brick c).records g))) c)
  entry_then (Lost i) is = agree
  entry_then (GivenUp client brick i) is = agree
  entry_then (Returned c) is = agree
  entry_then (Died client) is = agree
  entry_then (Yielded client) is = agree
  entry_then (Answered a answer) is = agree

  pub stripes_then : Then e
  stripes_then = entry_then e refl
