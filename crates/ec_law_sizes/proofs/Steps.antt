-- The machine without data has the version and the shape of the flat file, entry by entry; and where a call commits, its turn's group had
-- the shape of the flat file. `part` is what is looked at of a shape: its size, or all of it.
use Rattle.std.proofs.Common.{◌≡◌, ◌⊎◌, ℕ, ◌+◌, ◌<◌, ◌≤◌, Bool, true, false, not, cond, ◌&&◌, ◌||◌, Option, Some, None, List, [], ◌∷◌, ◌++◌, map, refl, sym, ◌∙◌, ap, subst, arith, inl, inr}
use Rattle.std.specs.Prelude.{is_some, nat_le, nat_lt}
use Rattle.std.proofs.lemmas.Bool.Decides.{nat_tests}
use Rattle.ec_attr.specs.Bricks.{count_below}
use Rattle.ec_attr.specs.Marks.{is_marked}
use Rattle.ec_attr.specs.declared.geometry.Geometry.{Geometry}
use Rattle.ec_attr.specs.declared.kind.Kind.{Kind}
use Rattle.ec_brick.specs.Step.{cut_off}
use Rattle.ec_conduct.specs.Given.{quorum}
use Rattle.ec_history.specs.Accounts.{Books, Leaving}
use Rattle.ec_history.specs.Changes.{Found, change}
use Rattle.ec_history.specs.Flat.{Flat as FlatFile, Tree, committed}
use Rattle.ec_history.specs.IsRun.{May as MayEnter, MayExecute}
use Rattle.ec_history.specs.Run.{Net, out_of, wiped}
use Rattle.ec_history.specs.Story.{Story, commits as story_commits, commits_by, commits_of, commits_with, executes, is_commit, is_done, is_unmarked, op_of, outcome, post_done, request_of, told, told_executed}
use Rattle.ec_store.specs.Records.{head_at}
use Rattle.ec_wire.specs.declared.entry.Entry.{Entry}
use Rattle.ec_wire.specs.declared.entry.Entry.TheVariants.{Called, Sent, Executed, Heard, Lost, GivenUp, Stopped, Returned, Cut, Died, Yielded, Torn, Answered, Replaced}
use Rattle.ec_wire.specs.declared.message.Body.{Body}
use Rattle.ec_wire.specs.declared.message.Body.TheVariants.{ToBrick, ToClient}
use Rattle.ec_wire.specs.declared.message.Message.{Message}
use Rattle.ec_wire.specs.declared.op.Op.{Op}
use Rattle.ec_wire.specs.declared.op.Op.TheVariants.{Write, Truncate, Read, Stat, Create, Mkdir, Unlink, Lookup, Readdir, Heal, SetAttr, GetAttr, Rename, Rmdir, Scrub, Sweep}
use Rattle.ec_wire.specs.declared.request.Request.{Request}
use Rattle.ec_law_base.specs.State.{State, target}
use Rattle.ec_law_ballots.specs.Act.{Act, step as act_step}
use Rattle.ec_law_ballots.specs.Act.Act.{Post, Replace, Sink_post, Stop}
use Rattle.ec_law_ballots.specs.Guard.{May, Runs}
use Rattle.ec_law_quorum.proofs.Laws.{inv_step}
use Rattle.ec_law_pieces.specs.Deed.{Deed, after as after_deeds, commits, step}
use Rattle.ec_law_pieces.specs.Deed.Deed.{Intend}
use Rattle.ec_law_pieces.specs.File.{File}
use Rattle.ec_law_pieces.proofs.Known.{base_is}
use Rattle.ec_law_net.specs.Turns.{View, acts, acts_executed, acts_of_request, acts_torn, turn_of}
use Rattle.ec_law_turns.proofs.Groups.{plain as plain_version}
use Rattle.ec_law_turns.proofs.Numbered.{IsPlainEntry}
use Rattle.ec_law_turns.proofs.Steps.{EntryKept}
use Rattle.ec_law_data.specs.Deeds.{deeds_executed, deeds_of_request, deeds_sent, dressed, file_after, is_post_on}
use Rattle.ec_law_data.specs.Forms.{Shape}
use Rattle.ec_law_data.specs.Reading.{Plans, Reading}
use Rattle.ec_law_data.specs.Versions.{PostsInOneTurn}
use Rattle.ec_law_data.proofs.FlatVersions.{SamePosts, commits_same}
use Rattle.ec_law_data.proofs.Guards.{Easy, easy_if, easy_locks, easy_sent}
use Rattle.ec_law_data.proofs.Reaching.{Reaches, gone}
use Rattle.ec_law_data.proofs.Stories.{said_same}
use Rattle.ec_law_flats.proofs.NameRuns.{committed_tree, uncommitted_tree}
use Rattle.ec_law_flats.proofs.PostKinds.{IsNoPost, IsPost, its_acts}
use Rattle.ec_law_flats.proofs.Posting.{known_kind, one_caller, post_on, post_told, post_turn, sunk_told, unmarked_there}
use Rattle.ec_law_heads.proofs.Blank.{IsUnmade}
use Rattle.ec_law_shapes.specs.Shadows.{Bare, bare_form, of_shapes}
use Rattle.ec_law_shapes.specs.Shapes.{shape_after}
use Rattle.ec_law_shapes.proofs.Shadowing.{bare_plans}
use Rattle.ec_law_sizes.specs.Sizes.{tree_shape}
use Rattle.ec_law_sizes.proofs.Beside.{Beside, no_request, no_torn}
use Rattle.ec_law_sizes.proofs.Showing.{Becomes, Stays, easy_stays, posted_becomes, posted_stays, shown_flat, stays, sunk_stays}
use Rattle.ec_law_sizes.proofs.Telling.{MakesNew, SameShown, began_shown, new_keeps, outcome_shown, same_shown, shown_file, shown_of, torn_shown}

-- what a commit makes of a flat file's shape is what the call makes of it
pub change_shape : (k : ℕ) (op : Op) (found : Found) (g a version : ℕ) (x : FlatFile) → shape_after op (tree_shape x) ≡ tree_shape (committed k a version (change k op found g x) x)
change_shape k (Write gfid off bytes) found g a version x = refl
change_shape k (Truncate gfid size) found g a version x = refl
change_shape k (Read gfid off len via) found g a version x = refl
change_shape k (Stat gfid) found g a version x = refl
change_shape k (Create parent name) found g a version x = refl
change_shape k (Mkdir parent name) found g a version x = refl
change_shape k (Unlink parent name) found g a version x = refl
change_shape k (Lookup parent name) found g a version x = refl
change_shape k (Readdir gfid) found g a version x = refl
change_shape k (Heal gfid) found g a version x = refl
change_shape k (SetAttr gfid attr) found g a version x = refl
change_shape k (GetAttr gfid) found g a version x = refl
change_shape k (Rename from_dir from_name to_dir to_name) found g a version x = refl
change_shape k (Rmdir parent name) found g a version x = refl
change_shape k (Scrub gfid settle) found g a version x = refl
change_shape k (Sweep full) found g a version x = refl

fewer_of : (k p q : ℕ) → (nat_lt p k && nat_le k q) ≡ true → p < k
fewer_of k p q h = grind (arith, nat_tests)

reached_of : (k p q : ℕ) → (nat_lt p k && nat_le k q) ≡ true → k ≤ q
reached_of k p q h = grind (arith, nat_tests)

easy_torn : (o : Option Message) → Easy (acts_torn o)
easy_torn None = tt
easy_torn (Some msg) = (refl, tt)

-- The machine's flat value is at the flat file's version, and has this part of its shape. The version is unmarked where that of the
-- beginning was.
pub record Tracks {X : Type 0} (origin : ℕ) (part : Shape → X) (new : Shape) (s : Bare) (x : FlatFile) : Type 0 where
  pub version : s.flat.version ≡ x.version
  pub shape : part (shown_flat new s) ≡ part (shown_file new x)
  pub unmarked : is_marked origin ≡ false → is_marked x.version ≡ false

-- where a call commits on the gfid, this part of the flat file's shape is that of the turn's group
abbrev pub EntryShaped : {X : Type 0} → (Shape → X) → (ℕ → Shape) → Geometry → ℕ → Net → View → Story → Entry → Type 0
EntryShaped part took geometry g m v t (Executed i version failed) = (x : Message) (q : Request) → m.said i ≡ Some x → x.body ≡ ToBrick q → is_post_on g q ≡ true → story_commits geometry m t (Executed i version failed) ≡ true → part (took (v.of i)) ≡ part (tree_shape (t.tree g))
EntryShaped part took geometry g m v t e = Unit {0}

-- what is looked at after a call's commit is told by what is looked at before it
abbrev pub IsPart : {X : Type 0} → (Shape → X) → Type 0
IsPart part = (op : Op) (s h : Shape) → part s ≡ part h → part (shape_after op s) ≡ part (shape_after op h)

module _ {P V C U X : Type 0} (origin : ℕ) (part : Shape → X) (goes : IsPart part) (R : Reading P V C U Shape) (plans : Plans P V U Shape) (geometry : Geometry) (left : ℕ → Leaving) (none : (a : ℕ) → (left a).kept ≡ None) (first : ℕ) (origins : ℕ → ℕ) (new_origins : (h : ℕ) → first ≤ h → origins h ≡ 0) (g : ℕ) (m : Net) (vs : ℕ → View) (t : Story) (b : Books) (e : Entry) (plain : IsPlainEntry e) (may : MayEnter geometry.n m e) (kept : EntryKept m b e) (k : Reaches geometry first origins m vs t b) (f : File P V C U Shape) (s : Bare) (heads : f.heads ≡ (vs g).core) (sh : Beside geometry.n (quorum geometry) g m (vs g) f s) (posts : SamePosts g m.said (vs g).of t (vs g).core) (one : PostsInOneTurn g m (vs g)) (unmade : (t.tree g).kind ≡ None → IsUnmade geometry.n g m (t.tree g)) (makes : (i : ℕ) (x : Message) (q : Request) → m.said i ≡ Some x → x.body ≡ ToBrick q → MakesNew part R.new g q) (ops : (i : ℕ) (x : Message) (q : Request) → m.said i ≡ Some x → x.body ≡ ToBrick q → is_post_on g q ≡ true → part (f.becomes ((vs g).of i)) ≡ part (shape_after (op_of m x.call) (f.took ((vs g).of i)))) (track : Tracks origin part R.new s (t.tree g)) where
  abbrev v : View
  v = vs g

  abbrev n : ℕ
  n = geometry.n

  abbrev q' : ℕ
  q' = quorum geometry

  abbrev R0 : Reading ⊥ (Unit {0}) (Unit {0}) (Unit {0}) Shape
  R0 = of_shapes R.new

  abbrev P0 : Plans ⊥ (Unit {0}) (Unit {0}) Shape
  P0 = bare_plans plans f

  abbrev new : Shape
  new = R.new

  abbrev acted : List Act → Bare
  acted es = after_deeds bare_form n q' (map (dressed R0 P0 n q' g) es) s

  core : s.heads ≡ v.core
  core = sh.is.heads ∙ heads

  most : geometry.n < quorum geometry + quorum geometry
  most = let z = geometry.majority in omega (arith, z)

  zero_size : (t.tree g).kind ≡ None → (t.tree g).size ≡ 0
  zero_size e = ap (λ (x : FlatFile). x.size) (unmade e).blank_is

  still : (h : Bare) (y : FlatFile) → Stays new s h → SameShown part new (t.tree g) y → Tracks origin part new h y
  still h y a c = record { version = a.version ∙ (track.version ∙ sym c.version); shape = ap part a.shape ∙ (track.shape ∙ sym c.shape); unmarked = λ h. ap is_marked c.version ∙ track.unmarked h }

  -- ## A request that a brick executes

  module _ (i : ℕ) (version : Option ℕ) (failed : Bool) (x : MayExecute m i version failed) (runs : Runs geometry.n (quorum geometry) (acts g m (vs g) (Executed i version failed)) (vs g).core) where
    abbrev msg : Message
    msg = x.message

    abbrev q : Request
    q = x.request

    no_is : msg.no ≡ i
    no_is = ((k.reached g).known.messages.number i msg x.at.said).0

    abbrev its_file : Bare
    its_file = acted (its_acts geometry g m v msg q version failed)

    abbrev file_of : Option Message → Bare
    file_of o = after_deeds bare_form n q' (deeds_executed R0 P0 n q' g m v s o version failed ++ map (dressed R0 P0 n q' g) (acts_executed g m v o version failed)) s

    abbrev file_by : Body → Bare
    file_by z = after_deeds bare_form n q' (deeds_of_request R0 P0 n q' g m v s msg z version failed ++ map (dressed R0 P0 n q' g) (acts_of_request g m v msg z version failed)) s

    file_is : file_of (m.said i) ≡ its_file
    file_is =
        ap file_of x.at.said
        ∙ (ap file_by x.at.body
        ∙ ap (λ (ds : List (Deed ⊥ (Unit {0}) (Unit {0}) (Unit {0}) Shape)). after_deeds bare_form n q' (ds ++ map (dressed R0 P0 n q' g) (its_acts geometry g m v msg q version failed)) s) (no_request R plans geometry g left m v t b f s (k.reached g) heads sh msg (ToBrick q) version failed))

    told_is : told_executed geometry m t (m.said i) version failed ≡ executes geometry m t msg (Some q) version failed
    told_is = ap (λ (o : Option Message). told_executed geometry m t o version failed) x.at.said ∙ ap (λ (z : Body). executes geometry m t msg (request_of z) version failed) x.at.body

    its_runs : Runs n q' (its_acts geometry g m v msg q version failed) v.core
    its_runs = subst (λ (z : Body). Runs n q' (acts_of_request g m v msg z version failed) v.core) x.at.body (subst (λ (o : Option Message). Runs n q' (acts_executed g m v o version failed) v.core) x.at.said runs)

    no_post : IsNoPost geometry g m v msg q version failed → Tracks origin part new its_file ((executes geometry m t msg (Some q) version failed).tree g)
    no_post p = still its_file ((outcome geometry m t msg q version failed).tree g) (easy_stays new P0 n q' g (its_acts geometry g m v msg q version failed) s p.easy) (outcome_shown part new g geometry m t msg q version failed p.not_done (new_keeps part new g q (t.tree g) zero_size (makes i msg q x.at.said x.at.body)))

    -- ## A PostOp that is done

    module _ (p : IsPost geometry g m v msg q version failed) where
      on : is_post_on g q ≡ true
      on = post_on geometry g m v t msg q version failed p

      same_call : (j : ℕ) (y : Message) → m.said j ≡ Some y → v.of j ≡ v.of i → y.call ≡ msg.call
      same_call j y its same = one_caller geometry left none first origins new_origins g m vs t b e plain may kept k i j msg y x.at.said its (post_turn geometry left none first origins new_origins g m vs t b e plain may kept k i msg q x.at.said x.at.body on) same

      commits_are : is_commit geometry t msg.call g msg.brick ≡ commits geometry.n (quorum geometry) s.heads (v.of i) msg.brick
      commits_are =
          commits_same g m.said v.of t v.core posts geometry m i msg q x.at.said x.at.body on (λ j y w its its_body its_on. (λ z. one j i y msg w q its x.at.said its_body x.at.body its_on on z, λ same. same_call j y its same)) msg.brick
          ∙ ap (λ (z : State). commits geometry.n (quorum geometry) z (v.of i) msg.brick) (sym core)

      planned : s.planned (v.of i) ≡ true
      planned = sh.posted i msg q x.at.said x.at.body on

      real : (0 < (s.heads.ballot (v.of i)).number) × (s.heads.old (v.of i) ≡ false)
      real = let z = sh.good.planned_number (v.of i) planned in (z.0, z.1)

      acts_are : (d : Bool) → is_marked p.old ≡ d → its_file ≡ acted (cond d (Sink_post (v.of i) msg.brick) (Post (v.of i) msg.brick) ∷ p.rest)
      acts_are d u =
          ap acted p.acts
          ∙ (ap (λ (j : ℕ). acted (cond (is_marked p.old) (Sink_post (v.of j) msg.brick) (Post (v.of j) msg.brick) ∷ p.rest)) no_is
          ∙ ap (λ (z : Bool). acted (cond z (Sink_post (v.of i) msg.brick) (Post (v.of i) msg.brick) ∷ p.rest)) u)

      -- there is a record, and so a kind
      kind_there : is_marked p.old ≡ false → (o : Option Kind) → (t.tree g).kind ≡ o → (kind : Kind) × ((t.tree g).kind ≡ Some kind)
      kind_there u (Some kind) is = (kind, is)
      kind_there u None is = absurd (
          let there = unmarked_there geometry g m v t msg q version failed p u in
          let gone = (unmade is).none msg.brick ((k.reached g).linked.to i msg q x.at.said x.at.body) in
          let z = sym (ap is_unmarked gone) ∙ there in cc)

      -- the acts of the entry, at their first
      may_post : is_marked p.old ≡ false → May n q' s.heads (Post (v.of i) msg.brick)
      may_post u = subst (λ (z : State). May n q' z (Post (v.of i) msg.brick)) (sym core)
          (subst (λ (es : List Act). Runs n q' es v.core) (p.acts ∙ (ap (λ (j : ℕ). cond (is_marked p.old) (Sink_post (v.of j) msg.brick) (Post (v.of j) msg.brick) ∷ p.rest) no_is ∙ ap (λ (z : Bool). cond z (Sink_post (v.of i) msg.brick) (Post (v.of i) msg.brick) ∷ p.rest) u)) its_runs).0

      flat_is : is_marked p.old ≡ false → commits geometry.n (quorum geometry) s.heads (v.of i) msg.brick ≡ true → s.took (v.of i) ≡ s.flat.shape
      flat_is u d = sh.good.took_is (v.of i) real.0 real.1 ∙ (ap s.shape_of base ∙ sym sh.good.flat_shape)
        where
          promised : quorum geometry ≤ count_below geometry.n (s.heads.pre (v.of i))
          promised = (may_post u).5

          base : (s.heads.ballot (v.of i)).base ≡ s.flat.version
          base = base_is bare_form n q' most (omega arith) s sh.inv sh.good (v.of i) msg.brick (inv_step n q' most (omega arith) s.heads (Post (v.of i) msg.brick) (may_post u) sh.inv) (let z = most in let y = promised in omega arith, λ o. promised)
              (fewer_of (quorum geometry) (count_below geometry.n (s.heads.post (v.of i))) (count_below geometry.n ((act_step s.heads (Post (v.of i) msg.brick)).post (v.of i))) d)
              (reached_of (quorum geometry) (count_below geometry.n (s.heads.post (v.of i))) (count_below geometry.n ((act_step s.heads (Post (v.of i) msg.brick)).post (v.of i))) d)

      -- the group of the turn that commits had the flat file's shape
      took_is : is_marked p.old ≡ false → commits geometry.n (quorum geometry) s.heads (v.of i) msg.brick ≡ true → part (f.took (v.of i)) ≡ part (tree_shape (t.tree g))
      took_is u d =
          let kind = kind_there u (t.tree g).kind refl in
          ap part (sym (ap (λ (z : ℕ → Shape). z (v.of i)) sh.is.took))
          ∙ (ap part (flat_is u d)
          ∙ (sym (ap (λ (z : Bool). part (cond z s.flat.shape new)) (sh.inv.wide.number_making (v.of i) real.0))
          ∙ (track.shape
          ∙ ap (λ (o : Option Kind). part (shown_of o new (tree_shape (t.tree g)))) kind.1)))

      commit : is_marked p.old ≡ false → commits geometry.n (quorum geometry) s.heads (v.of i) msg.brick ≡ true → Tracks origin part new its_file (committed (quorum geometry) msg.call p.new (change (quorum geometry) (op_of m msg.call) (t.found msg.call) g (t.tree g)) (t.tree g))
      commit u d =
          let made = subst (λ (h : Bare). Becomes new s h (v.of i)) (sym (acts_are false u)) (posted_becomes new P0 n q' g (v.of i) msg.brick p.rest s p.easy d) in
          let kind = kind_there u (t.tree g).kind refl in
          let x1 = tree_shape (committed (quorum geometry) msg.call p.new (change (quorum geometry) (op_of m msg.call) (t.found msg.call) g (t.tree g)) (t.tree g)) in
          record {
            version = made.version ∙ (ap (λ (z : State). target (z.ballot (v.of i))) core ∙ (ap (λ (j : ℕ). target (v.core.ballot (v.of j))) (sym no_is) ∙ (p.target ∙ plain_version p.new (p.mark ∙ u))));
            shape =
                ap part made.shape
                ∙ (ap (λ (z : Bool). part (cond z (s.becomes (v.of i)) new)) (sh.inv.wide.number_making (v.of i) real.0)
                ∙ (ap part (sh.is.plan (v.of i) planned).1
                ∙ (ops i msg q x.at.said x.at.body on
                ∙ (goes (op_of m msg.call) (f.took (v.of i)) (tree_shape (t.tree g)) (took_is u d)
                ∙ (ap part (change_shape (quorum geometry) (op_of m msg.call) (t.found msg.call) g msg.call p.new (t.tree g))
                ∙ sym (ap (λ (o : Option Kind). part (shown_of o new x1)) kind.1))))));
            unmarked = λ h. p.mark ∙ u;
          }

      a_post : Tracks origin part new its_file ((executes geometry m t msg (Some q) version failed).tree g)
      a_post = subst (λ (u : Story). Tracks origin part new its_file (u.tree g)) (sym (post_told geometry g m v t msg q version failed p)) (by (is_marked p.old) (is_commit geometry t msg.call g msg.brick) refl refl)
        where
          by : (c d : Bool) → is_marked p.old ≡ c → is_commit geometry t msg.call g msg.brick ≡ d → Tracks origin part new its_file ((post_done geometry m t msg.call g msg.brick p.new).tree g)
          by true d u w = subst (λ (z : Story). Tracks origin part new its_file (z.tree g)) (sym (sunk_told geometry g m v t msg q version failed p u)) (still its_file (t.tree g) (subst (λ (h : Bare). Stays new s h) (sym (acts_are true u)) (sunk_stays new P0 n q' g (v.of i) msg.brick p.rest s p.easy)) (same_shown part new (t.tree g)))
          by false true u w = subst (λ (z : FlatFile). Tracks origin part new its_file z) (sym (committed_tree geometry m t msg.call g msg.brick p.new (unmarked_there geometry g m v t msg q version failed p u) w)) (commit u (sym commits_are ∙ w))
          by false false u w = subst (λ (z : FlatFile). Tracks origin part new its_file z) (sym (uncommitted_tree geometry m t msg.call g msg.brick p.new (unmarked_there geometry g m v t msg q version failed p u) w)) (still its_file (t.tree g) (subst (λ (h : Bare). Stays new s h) (sym (acts_are false u)) (posted_stays new P0 n q' g (v.of i) msg.brick p.rest s p.easy (sym commits_are ∙ w))) (same_shown part new (t.tree g)))

      -- the story says so where it commits
      commits_then : story_commits geometry m t (Executed i version failed) ≡ true → part (f.took (v.of i)) ≡ part (tree_shape (t.tree g))
      commits_then w = by (is_marked p.old) (is_commit geometry t msg.call g msg.brick) refl refl (sym commits_is ∙ w)
        where
          commits_is : story_commits geometry m t (Executed i version failed) ≡ (is_unmarked (head_at (m.brick msg.brick).records g) && is_commit geometry t msg.call g msg.brick)
          commits_is =
              ap (λ (o : Option Message). commits_of geometry m t o version failed) x.at.said
              ∙ (ap (λ (z : Body). commits_with geometry m t msg (request_of z) version failed) x.at.body
              ∙ (ap (λ (c : Bool). commits_with geometry m t msg (Some q) version c) p.fine
              ∙ (ap (λ (d : Bool). d && commits_by geometry m t msg q) (subst (λ (c : Bool). is_done (out_of m msg q version c).says ≡ true) p.fine p.done)
              ∙ (ap (λ (r : Request). commits_by geometry m t msg r) p.is
              ∙ ap (λ (y : ℕ). is_unmarked (head_at (m.brick msg.brick).records y) && is_commit geometry t msg.call y msg.brick) p.on))))

          by : (c d : Bool) → is_marked p.old ≡ c → is_commit geometry t msg.call g msg.brick ≡ d → (is_unmarked (head_at (m.brick msg.brick).records g) && is_commit geometry t msg.call g msg.brick) ≡ true → part (f.took (v.of i)) ≡ part (tree_shape (t.tree g))
          by true d u y z = absurd (let w = sym (ap (λ (z : Bool). z && is_commit geometry t msg.call g msg.brick) (p.unmarked ∙ ap not u)) ∙ z in cc)
          by false true u y z = took_is u (sym commits_are ∙ y)
          by false false u y z = absurd (let w = sym (ap (λ (z : Bool). z && is_commit geometry t msg.call g msg.brick) (unmarked_there geometry g m v t msg q version failed p u)) ∙ z in let w2 = sym y ∙ w in cc)

    executed_then : IsNoPost geometry g m v msg q version failed ⊎ IsPost geometry g m v msg q version failed → Tracks origin part new (file_of (m.said i)) ((told_executed geometry m t (m.said i) version failed).tree g)
    executed_then o = subst (λ (u : Story). Tracks origin part new (file_of (m.said i)) (u.tree g)) (sym told_is) (subst (λ (h : Bare). Tracks origin part new h ((executes geometry m t msg (Some q) version failed).tree g)) (sym file_is) (by o))
      where
        by : IsNoPost geometry g m v msg q version failed ⊎ IsPost geometry g m v msg q version failed → Tracks origin part new its_file ((executes geometry m t msg (Some q) version failed).tree g)
        by (inl p) = no_post p
        by (inr p) = a_post p

    -- where the story commits
    shaped_then : IsNoPost geometry g m v msg q version failed ⊎ IsPost geometry g m v msg q version failed → is_post_on g q ≡ true → story_commits geometry m t (Executed i version failed) ≡ true → part (f.took (v.of i)) ≡ part (tree_shape (t.tree g))
    shaped_then (inr p) on w = commits_then p w
    shaped_then (inl p) on w = absurd (never failed p.not_done (sym commits_is ∙ w))
      where
        commits_is : story_commits geometry m t (Executed i version failed) ≡ commits_with geometry m t msg (Some q) version failed
        commits_is = ap (λ (o : Option Message). commits_of geometry m t o version failed) x.at.said ∙ ap (λ (z : Body). commits_with geometry m t msg (request_of z) version failed) x.at.body

        done_of : (d u : Bool) → (d && u) ≡ false → u ≡ true → d ≡ false
        done_of true u e f = absurd (cc)
        done_of false u e f = refl

        never : (failed : Bool) → (is_done (out_of m msg q version failed).says && is_post_on g q) ≡ false → commits_with geometry m t msg (Some q) version failed ≡ true → ⊥
        never true e w = absurd (cc)
        never false e w = let d = done_of (is_done (out_of m msg q version false).says) (is_post_on g q) e on in let z = sym (ap (λ (d : Bool). d && commits_by geometry m t msg q) d) ∙ w in cc

  -- ## Entries

  abbrev Next : Entry → Bare
  Next x = file_after R0 P0 n q' g m v s x

  abbrev Then : Entry → Type 0
  Then x = Tracks origin part new (Next x) ((told geometry m t x).tree g)

  -- entries by which no brick does a request
  quiet : (es : List Act) → Easy es → Tracks origin part new (acted es) (t.tree g)
  quiet es easy = still (acted es) (t.tree g) (easy_stays new P0 n q' g es s easy) (same_shown part new (t.tree g))

  sent_then : (msg : Message) → Then (Sent msg)
  sent_then msg = subst (λ (y : Tree). Tracks origin part new (Next (Sent msg)) (y g)) (sym (said_same t msg.call msg.body).1) (still (Next (Sent msg)) (t.tree g) (body msg.body) (same_shown part new (t.tree g)))
    where
      es : List Act
      es = acts g m v (Sent msg)

      by : (c : Bool) → Stays new s (after_deeds bare_form n q' (cond c (Intend (turn_of g v msg) (P0.plan (turn_of g v msg)) ∷ []) [] ++ map (dressed R0 P0 n q' g) (acts g m v (Sent msg))) s)
      by false = easy_stays new P0 n q' g (acts g m v (Sent msg)) s (easy_sent g v.core (turn_of g v msg) msg.body)
      by true =
          let h = step bare_form n q' s (Intend (turn_of g v msg) (P0.plan (turn_of g v msg))) in
          let o = easy_stays new P0 n q' g (acts g m v (Sent msg)) h (easy_sent g v.core (turn_of g v msg) msg.body) in
          record { version = o.version; shape = o.shape }

      body : (z : Body) → Stays new s (after_deeds bare_form n q' (deeds_sent R0 P0 n q' g s (turn_of g v msg) z ++ map (dressed R0 P0 n q' g) (acts g m v (Sent msg))) s)
      body (ToClient re reply) = by false
      body (ToBrick q) = by ((false || is_post_on g q) && not (s.planned (turn_of g v msg)))

  torn_then : (i count : ℕ) (version : Option ℕ) → Then (Torn i count version)
  torn_then i count version =
      subst (λ (ds : List (Deed ⊥ (Unit {0}) (Unit {0}) (Unit {0}) Shape)). Tracks origin part new (after_deeds bare_form n q' (ds ++ map (dressed R0 P0 n q' g) (acts_torn (m.said i))) s) ((told geometry m t (Torn i count version)).tree g)) (sym (no_torn R plans geometry g left m v t b f s (k.reached g) heads sh (m.said i) count version))
      (still (acted (acts_torn (m.said i))) ((told geometry m t (Torn i count version)).tree g) (easy_stays new P0 n q' g (acts_torn (m.said i)) s (easy_torn (m.said i))) (torn_shown part new g geometry m t (m.said i) version))

  entry_runs : Runs n q' (acts g m v e) v.core
  entry_runs = (gone geometry left none first origins new_origins m vs t b e plain may kept k g).runs

  kind_of : (i : ℕ) (version : Option ℕ) (failed : Bool) (x : MayExecute m i version failed) → IsNoPost geometry g m v x.message x.request version failed ⊎ IsPost geometry g m v x.message x.request version failed
  kind_of i version failed x = known_kind geometry left none first origins new_origins g m vs t b e plain may kept k i version failed x

  entry_then : (x : Entry) → e ≡ x → Then x
  entry_then (Called a client op) is = still s ((told geometry m t (Called a client op)).tree g) (stays new s) (began_shown part new g t a op)
  entry_then (Sent msg) is = sent_then msg
  entry_then (Executed i version failed) is = let x = subst (λ (z : Entry). MayEnter geometry.n m z) is may in executed_then i version failed x (subst (λ (z : Entry). Runs n q' (acts g m v z) v.core) is entry_runs) (kind_of i version failed x)
  entry_then (Torn i count version) is = torn_then i count version
  entry_then (Cut client c) is = quiet (acts g m v (Cut client c)) (easy_locks g m v c (m.brick c).asks (cut_off (m.brick c) client).brick.asks)
  entry_then (Stopped c) is = quiet (Stop c ∷ []) (refl, tt)
  entry_then (Replaced c removed all) is = quiet (acts g m v (Replaced c removed all)) (easy_if (is_some ((m.brick c).records g) && not (is_some (wiped removed all (m.brick c).records g))) (Replace c ∷ []) [] (refl, tt) tt)
  entry_then (Heard i) is = track
  entry_then (Lost i) is = track
  entry_then (GivenUp client brick i) is = track
  entry_then (Returned c) is = track
  entry_then (Died client) is = track
  entry_then (Yielded client) is = track
  entry_then (Answered a answer) is = track

  -- the machine tracks the flat file after the entry
  pub tracks_then : Then e
  tracks_then = entry_then e refl

  -- and if a call commits by it, its turn's group had the flat file's shape
  pub shaped_now : EntryShaped part f.took geometry g m (vs g) t e
  shaped_now = by e refl
    where
      by : (x : Entry) → e ≡ x → EntryShaped part f.took geometry g m (vs g) t x
      by (Executed i version failed) is = λ y q its its_body on w.
          let x = subst (λ (z : Entry). MayEnter geometry.n m z) is may in
          let same = some_same x.message y (sym x.at.said ∙ its) in
          shaped_then i version failed x (subst (λ (z : Entry). Runs n q' (acts g m v z) v.core) is entry_runs) (kind_of i version failed x) (subst (λ (r : Request). is_post_on g r ≡ true) (request_same q x.request (sym its_body ∙ (ap (λ (z : Message). z.body) (sym same) ∙ x.at.body))) on) w
        where
          some_same : (x y : Message) → Some x ≡ Some y → x ≡ y
          some_same x y e = cc

          request_same : (x y : Request) → ToBrick x ≡ ToBrick y → x ≡ y
          request_same x y e = cc
      by x is = tt
