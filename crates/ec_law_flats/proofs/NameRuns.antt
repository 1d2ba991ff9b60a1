-- The machine of a directory and the flat file have the same closed names, entry by entry.
use Rattle.std.proofs.Common.{◌≡◌, ◌⊎◌, ℕ, ◌+◌, ◌≤◌, Bool, true, false, not, cond, ◌==◌, ◌&&◌, ◌||◌, Option, Some, None, List, [], ◌∷◌, map, refl, sym, ◌∙◌, ap, subst, inl, inr}
use Rattle.std.specs.Prelude.{is_some, unwrap_or}
use Rattle.ec_attr.specs.Marks.{is_marked, stripped}
use Rattle.ec_attr.specs.declared.geometry.Geometry.{Geometry}
use Rattle.ec_attr.specs.declared.head.Head.{Head}
use Rattle.ec_attr.specs.declared.kind.Child.{Child}
use Rattle.ec_attr.specs.declared.kind.Kind.TheVariants.{File as FileKind, Dir}
use Rattle.ec_brick.specs.Step.{Fine, Out, cut_off, executed as executed_at, quiet as quiet_out}
use Rattle.ec_conduct.specs.Given.{quorum}
use Rattle.ec_history.specs.Accounts.{Books, Leaving}
use Rattle.ec_history.specs.Changes.{Found, change}
use Rattle.ec_history.specs.Flat.{Flat as FlatFile, Opener, Tree, blank, committed, is_open_to_it_alone, named, opened_by}
use Rattle.ec_history.specs.Flat.Opener.{Nobody}
use Rattle.ec_history.specs.IsRun.{May as MayEnter, MayExecute, MayTear}
use Rattle.ec_history.specs.Run.{Net, out_of, wiped}
use Rattle.ec_history.specs.Story.{Story, began, done_by, executes, failed_by, found_by, is_at, is_at_flat, is_commit, is_done, is_unmarked, makes_a_child, op_of, outcome, post_done, request_of, tears, told, told_executed, told_torn, torn_by, with_flat, with_post}
use Rattle.ec_store.specs.Records.{head_at}
use Rattle.ec_wire.specs.declared.entry.Entry.{Entry}
use Rattle.ec_wire.specs.declared.entry.Entry.TheVariants.{Called, Sent, Executed, Heard, Lost, GivenUp, Stopped, Returned, Cut, Died, Yielded, Torn, Answered, Replaced}
use Rattle.ec_wire.specs.declared.message.Body.{Body}
use Rattle.ec_wire.specs.declared.message.Body.TheVariants.{ToBrick}
use Rattle.ec_wire.specs.declared.message.Message.{Message}
use Rattle.ec_wire.specs.declared.op.Op.{Op}
use Rattle.ec_wire.specs.declared.op.Op.TheVariants.{Write, Truncate, Read, Stat, Create, Mkdir, Unlink, Lookup, Readdir, Heal, SetAttr, GetAttr, Rename, Rmdir, Scrub, Sweep}
use Rattle.ec_wire.specs.declared.request.Request.{Request}
use Rattle.ec_wire.specs.declared.request.Request.TheVariants.{Ask, Release, Query, PreOp, ReadChunks, WriteChunks, SetLength, PostOp, Clear, NameGet, NamesAfter, NameSet, NamesPut, Make, Made, Unmake, Mark, Unmark, GfidsAfter}
use Rattle.ec_law_base.specs.State.{State, target}
use Rattle.ec_law_ballots.specs.Act.{Act}
use Rattle.ec_law_ballots.specs.Act.Act.{Replace, Stop}
use Rattle.ec_law_pieces.specs.Deed.{after as after_deeds, carried_unit, commits}
use Rattle.ec_law_pieces.specs.File.{File}
use Rattle.ec_law_net.specs.Link.{IsHead}
use Rattle.ec_law_net.specs.Turns.{View, acts, turn_of}
use Rattle.ec_law_turns.proofs.Basics.{equal, itself}
use Rattle.ec_law_turns.proofs.Groups.{plain as plain_version}
use Rattle.ec_law_turns.proofs.Numbered.{IsPlainEntry}
use Rattle.ec_law_turns.proofs.Steps.{EntryKept}
use Rattle.ec_law_data.specs.Deeds.{dressed, file_after, is_granted, is_partial, is_post_on}
use Rattle.ec_law_data.specs.Forms.{Shape, is_naming, names_written, of_directory}
use Rattle.ec_law_data.specs.Reading.{Plans}
use Rattle.ec_law_data.proofs.Fenced.{done_stood}
use Rattle.ec_law_data.proofs.FlatVersions.{SamePosts, commits_same}
use Rattle.ec_law_data.proofs.Forms.{directory_fits}
use Rattle.ec_law_data.proofs.Guards.{Easy, easy_locks}
use Rattle.ec_law_data.proofs.Reaching.{Reaches}
use Rattle.ec_law_data.proofs.Stories.{said_same}
use Rattle.ec_law_flats.specs.Laws.{NamesAgree}
use Rattle.ec_law_flats.specs.Plans.{FitsNames, is_unbuilt, plans_on}
use Rattle.ec_law_flats.proofs.MachineSteps.{Commits, FlatKept, Opens, SentAs, committed_file, opens_easily, opens_torn, posted_file, same_acts, sent_as, sunk_file, wrote_part}
use Rattle.ec_law_flats.proofs.NameTelling.{OpensNames, SameNames, done_names, failed_names, opens_none, same_names, torn_names}
use Rattle.ec_law_flats.proofs.Planning.{ArePlanned, Stable}
use Rattle.ec_law_flats.proofs.PlanRuns.{executed_file, part_file, part_is, request_file, request_is, torn_file}
use Rattle.ec_law_flats.proofs.PostKinds.{IsNoPost, IsPost, its_acts}
use Rattle.ec_law_flats.proofs.Posting.{known_kind, one_caller, post_on, post_told, post_turn, sunk_told, unmarked_there}

abbrev pub Directory : Type 0
Directory = File (List ℕ) (Option Child) (Option Child) (Option Child) Shape

-- ## Changes

-- the names that a call sets follow from what it asked for and the gfid that it took
same_change : (k g : ℕ) (op : Op) (found found' : Found) → is_unbuilt op ≡ false → found'.took ≡ found.took → (change k op found' g blank).names ≡ (change k op found g blank).names
same_change k g (Create parent name) found found' e d = ap (λ (x : ℕ). (name, Some (record { kind = FileKind; gfid = record { 0 = x } })) ∷ []) d
same_change k g (Mkdir parent name) found found' e d = ap (λ (x : ℕ). (name, Some (record { kind = Dir; gfid = record { 0 = x } })) ∷ []) d
same_change k g (Write gfid off bytes) found found' e d = refl
same_change k g (Truncate gfid size) found found' e d = refl
same_change k g (Read gfid off len via) found found' e d = refl
same_change k g (Stat gfid) found found' e d = refl
same_change k g (Unlink parent name) found found' e d = refl
same_change k g (Lookup parent name) found found' e d = refl
same_change k g (Readdir gfid) found found' e d = refl
same_change k g (Heal gfid) found found' e d = refl
same_change k g (SetAttr gfid attr) found found' e d = refl
same_change k g (GetAttr gfid) found found' e d = refl
same_change k g (Rename from_dir from_name to_dir to_name) found found' e d = absurd (cc)
same_change k g (Rmdir parent name) found found' e d = refl
same_change k g (Scrub gfid settle) found found' e d = refl
same_change k g (Sweep full) found found' e d = refl

-- whatever the flat file
any_flat : (k g : ℕ) (op : Op) (found : Found) (x : FlatFile) → (change k op found g x).names ≡ (change k op found g blank).names
any_flat k g (Create parent name) found x = refl
any_flat k g (Mkdir parent name) found x = refl
any_flat k g (Write gfid off bytes) found x = refl
any_flat k g (Truncate gfid size) found x = refl
any_flat k g (Read gfid off len via) found x = refl
any_flat k g (Stat gfid) found x = refl
any_flat k g (Unlink parent name) found x = refl
any_flat k g (Lookup parent name) found x = refl
any_flat k g (Readdir gfid) found x = refl
any_flat k g (Heal gfid) found x = refl
any_flat k g (SetAttr gfid attr) found x = refl
any_flat k g (GetAttr gfid) found x = refl
any_flat k g (Rename from_dir from_name to_dir to_name) found x = refl
any_flat k g (Rmdir parent name) found x = refl
any_flat k g (Scrub gfid settle) found x = refl
any_flat k g (Sweep full) found x = refl

abbrev pub NameFits : ℕ → ℕ → ℕ → Op → Found → (List ℕ → Bool) → (List ℕ → ℕ → Option (Option Child)) → Type 0
NameFits k g a op found covers sets = FitsNames k g op found covers sets

pub names_stable : (k g : ℕ) → Stable of_directory (NameFits k g) g
names_stable k g a op found found' covers sets built took x =
    let e = same_change k g op found found' built took in
    record {
      covers = λ n. x.covers n ∙ ap (λ (z : List (List ℕ × Option Child)). is_some (named z n)) (sym e);
      sets = λ n child h. x.sets n child (sym (ap (λ (z : List (List ℕ × Option Child)). named z n) e) ∙ h);
    }

pub no_write : (g : ℕ) (x : Request) → is_post_on g x ≡ true → of_directory.is_write g x ≡ false
no_write g (PostOp x n at version size attr) on = refl
no_write g (Ask x domain kind) on = absurd (cc)
no_write g (Release x n) on = absurd (cc)
no_write g (Query x n) on = absurd (cc)
no_write g (PreOp x n at dirty) on = absurd (cc)
no_write g (ReadChunks x n first count) on = absurd (cc)
no_write g (WriteChunks x n first chunks) on = absurd (cc)
no_write g (SetLength x n keep count) on = absurd (cc)
no_write g (Clear x n at) on = absurd (cc)
no_write g (NameGet x n name) on = absurd (cc)
no_write g (NamesAfter x n start) on = absurd (cc)
no_write g (NameSet x n name child) on = absurd (cc)
no_write g (NamesPut x n start upto list) on = absurd (cc)
no_write g (Make x n child) on = absurd (cc)
no_write g (Made x n child) on = absurd (cc)
no_write g (Unmake x n child) on = absurd (cc)
no_write g (Mark x n heal head) on = absurd (cc)
no_write g (Unmark x n at dirty) on = absurd (cc)
no_write g (GfidsAfter start dirty) on = absurd (cc)

-- ## Flat values

still_agree : (f h : Directory) (x y : FlatFile) → FlatKept f h → SameNames x y → NamesAgree f.flat x → NamesAgree h.flat y
still_agree f h x y s d a = record {
  version = s.version ∙ (a.version ∙ sym d.version);
  closed = λ n e. ap (λ (o : List ℕ → Opener). o n) s.opener ∙ a.closed n (sym (ap (λ (z : List ℕ → Bool). z n) d.names) ∙ e);
  child = λ n e. ap (λ (u : List ℕ → ℕ → Option (Option Child)). u n 0) s.unit ∙ (a.child n (sym (ap (λ (z : List ℕ → Bool). z n) d.names) ∙ e) ∙ sym (ap (λ (z : List ℕ → Option Child). Some (z n)) d.child));
}

opens_agree : (f h : Directory) (x y : FlatFile) (a b : ℕ) (places test : List ℕ → Bool) (w : Bool) → Opens f h a b places w → OpensNames x y test → ((n : List ℕ) → test n ≡ (w && (places n && (f.heads.version b == f.flat.version)))) → NamesAgree f.flat x → NamesAgree h.flat y
opens_agree f h x y a b places test w s d same k = record {
  version = s.version ∙ (k.version ∙ sym d.version);
  closed = λ n e. s.opener n ∙ (ap (λ (c : Bool). cond c (opened_by (f.heads.call a) (f.flat.opener n)) (f.flat.opener n)) (sym (same n) ∙ (d.closed n e).1) ∙ k.closed n (d.closed n e).0);
  child = λ n e. ap (λ (u : List ℕ → ℕ → Option (Option Child)). u n 0) s.unit ∙ (k.child n (d.closed n e).0 ∙ sym (ap (λ (z : List ℕ → Option Child). Some (z n)) d.child));
}

commit_agree : (f h : Directory) (x : FlatFile) (k g a call version : ℕ) (op : Op) (found : Found) → Commits f h a → FitsNames k g op found (f.covers a) (f.sets a) → target (f.heads.ballot a) ≡ version → NamesAgree f.flat x → NamesAgree h.flat (committed k call version (change k op found g x) x)
commit_agree f h x k g a call version op found s p e d = record {
  version = s.version ∙ e;
  closed = λ n o. s.opener n ∙ closes n (named (change k op found g x).names n) refl o;
  child = λ n o. s.unit n 0 ∙ leads n (named (change k op found g x).names n) refl o;
}
  where
    names_are : (n : List ℕ) → named (change k op found g x).names n ≡ named (change k op found g blank).names n
    names_are n = ap (λ (z : List (List ℕ × Option Child)). named z n) (any_flat k g op found x)

    covers_are : (n : List ℕ) (o : Option (Option Child)) → named (change k op found g x).names n ≡ o → f.covers a n ≡ is_some o
    covers_are n o is = p.covers n ∙ ap (λ (z : Option (Option Child)). is_some z) (sym (names_are n) ∙ is)

    closes : (n : List ℕ) (o : Option (Option Child)) → named (change k op found g x).names n ≡ o → cond (is_some (named (change k op found g x).names n)) false (x.is_name_open n) ≡ false → cond (f.covers a n) Nobody (f.flat.opener n) ≡ Nobody
    closes n (Some child) is u = ap (λ (c : Bool). cond c Nobody (f.flat.opener n)) (covers_are n (Some child) is)
    closes n None is u = ap (λ (c : Bool). cond c Nobody (f.flat.opener n)) (covers_are n None is) ∙ d.closed n (sym (ap (λ (z : Option (Option Child)). cond (is_some z) false (x.is_name_open n)) is) ∙ u)

    leads : (n : List ℕ) (o : Option (Option Child)) → named (change k op found g x).names n ≡ o → cond (is_some (named (change k op found g x).names n)) false (x.is_name_open n) ≡ false → cond (f.covers a n) (carried_unit (f.sets a n 0) (is_open_to_it_alone (f.heads.call a) (f.flat.opener n)) (f.flat.unit n 0)) (f.flat.unit n 0) ≡ Some (unwrap_or (named (change k op found g x).names n) (x.child n))
    leads n (Some child) is u =
        ap (λ (c : Bool). cond c (carried_unit (f.sets a n 0) (is_open_to_it_alone (f.heads.call a) (f.flat.opener n)) (f.flat.unit n 0)) (f.flat.unit n 0)) (covers_are n (Some child) is)
        ∙ (ap (λ (z : Option (Option Child)). carried_unit z (is_open_to_it_alone (f.heads.call a) (f.flat.opener n)) (f.flat.unit n 0)) (p.sets n child (sym (names_are n) ∙ is))
        ∙ sym (ap (λ (z : Option (Option Child)). Some (unwrap_or z (x.child n))) is))
    leads n None is u =
        ap (λ (c : Bool). cond c (carried_unit (f.sets a n 0) (is_open_to_it_alone (f.heads.call a) (f.flat.opener n)) (f.flat.unit n 0)) (f.flat.unit n 0)) (covers_are n None is)
        ∙ (d.child n (sym (ap (λ (z : Option (Option Child)). cond (is_some z) false (x.is_name_open n)) is) ∙ u)
        ∙ sym (ap (λ (z : Option (Option Child)). Some (unwrap_or z (x.child n))) is))

-- ## The story's commits

pub committed_tree : (geometry : Geometry) (m : Net) (t : Story) (a g b version : ℕ) → is_unmarked (head_at (m.brick b).records g) ≡ true → is_commit geometry t a g b ≡ true → (post_done geometry m t a g b version).tree g ≡ committed (quorum geometry) a version (change (quorum geometry) (op_of m a) (t.found a) g (t.tree g)) (t.tree g)
committed_tree geometry m t a g b version u c =
    ap (λ (z : Bool). (cond z (cond (is_commit geometry t a g b) (with_flat (with_post t a g b) g (λ flat. committed (quorum geometry) a version (change (quorum geometry) (op_of m a) (t.found a) g flat) flat)) (with_post t a g b)) t).tree g) u
    ∙ (ap (λ (z : Bool). (cond z (with_flat (with_post t a g b) g (λ flat. committed (quorum geometry) a version (change (quorum geometry) (op_of m a) (t.found a) g flat) flat)) (with_post t a g b)).tree g) c
    ∙ ap (λ (z : Bool). cond z (committed (quorum geometry) a version (change (quorum geometry) (op_of m a) (t.found a) g (t.tree g)) (t.tree g)) (t.tree g)) (itself g))

pub uncommitted_tree : (geometry : Geometry) (m : Net) (t : Story) (a g b version : ℕ) → is_unmarked (head_at (m.brick b).records g) ≡ true → is_commit geometry t a g b ≡ false → (post_done geometry m t a g b version).tree g ≡ t.tree g
uncommitted_tree geometry m t a g b version u c =
    ap (λ (z : Bool). (cond z (cond (is_commit geometry t a g b) (with_flat (with_post t a g b) g (λ flat. committed (quorum geometry) a version (change (quorum geometry) (op_of m a) (t.found a) g flat) flat)) (with_post t a g b)) t).tree g) u
    ∙ ap (λ (z : Bool). (cond z (with_flat (with_post t a g b) g (λ flat. committed (quorum geometry) a version (change (quorum geometry) (op_of m a) (t.found a) g flat) flat)) (with_post t a g b)).tree g) c

began_tree : (t : Story) (a : ℕ) (op : Op) → (began t a op).tree ≡ t.tree
began_tree t a op = by (makes_a_child op)
  where
    by : (c : Bool) → (cond c (record (found_by t a (λ f. record f { took = t.next_gfid })) { next_gfid = t.next_gfid + 1 }) t).tree ≡ t.tree
    by true = refl
    by false = refl

easy_replaced : (c : Bool) (b : ℕ) → Easy (cond c (Replace b ∷ []) [])
easy_replaced true b = (refl, tt)
easy_replaced false b = tt

-- no request on names is done in part
no_part : (g : ℕ) (q : Request) → (is_naming g q && is_partial q) ≡ false
no_part g (NameSet x n name child) = outside (x.0 == g)
  where
    outside : (c : Bool) → (c && false) ≡ false
    outside true = refl
    outside false = refl
no_part g (NamesPut x n start upto list) = outside (x.0 == g)
  where
    outside : (c : Bool) → (c && false) ≡ false
    outside true = refl
    outside false = refl
no_part g (Ask x domain kind) = refl
no_part g (Release x n) = refl
no_part g (Query x n) = refl
no_part g (PreOp x n at dirty) = refl
no_part g (ReadChunks x n first count) = refl
no_part g (WriteChunks x n first chunks) = refl
no_part g (SetLength x n keep count) = refl
no_part g (PostOp x n at version size attr) = refl
no_part g (Clear x n at) = refl
no_part g (NameGet x n name) = refl
no_part g (NamesAfter x n start) = refl
no_part g (Make x n child) = refl
no_part g (Made x n child) = refl
no_part g (Unmake x n child) = refl
no_part g (Mark x n heal head) = refl
no_part g (Unmark x n at dirty) = refl
no_part g (GfidsAfter start dirty) = refl

-- ## Entries

module _ (plans : Plans (List ℕ) (Option Child) (Option Child) Shape) (geometry : Geometry) (left : ℕ → Leaving) (none : (a : ℕ) → (left a).kept ≡ None) (first : ℕ) (origins : ℕ → ℕ) (new : (h : ℕ) → first ≤ h → origins h ≡ 0) (g : ℕ) (m : Net) (vs : ℕ → View) (t : Story) (b : Books) (e : Entry) (plain : IsPlainEntry e) (may : MayEnter geometry.n m e) (kept : EntryKept m b e) (k : Reaches geometry first origins m vs t b) (f : Directory) (heads : f.heads ≡ (vs g).core) (posts : SamePosts g m.said (vs g).of t (vs g).core) (planned : ArePlanned of_directory (NameFits (quorum geometry) g) g m.said (vs g).of m t f) (one : (i j : ℕ) (x y : Message) (q r : Request) → m.said i ≡ Some x → m.said j ≡ Some y → x.body ≡ ToBrick q → y.body ≡ ToBrick r → is_post_on g q ≡ true → is_post_on g r ≡ true → x.call ≡ y.call → (vs g).of i ≡ (vs g).of j) (agree : NamesAgree f.flat (t.tree g)) where
  abbrev v : View
  v = vs g

  -- of a request that a brick executes
  module _ (i : ℕ) (version : Option ℕ) (failed : Bool) (x : MayExecute m i version failed) where
    abbrev msg : Message
    msg = x.message

    abbrev q : Request
    q = x.request

    abbrev there : Bool
    there = f.heads.version msg.brick == f.flat.version

    abbrev its_file : Bool → Directory
    its_file failed = request_file of_directory plans no_write geometry left none first origins new g m vs t b e plain may kept k f msg q version failed

    -- a brick that does it at the flat version of the machine is at that of the flat file
    at_flat : is_done (out_of m msg q version false).says ≡ true → (is_naming g q && is_granted (m.brick msg.brick) q) ≡ true → there ≡ true → is_at_flat m t msg.brick g ≡ true
    at_flat done both e =
        let two = apart (is_naming g q) (is_granted (m.brick msg.brick) q) both in
        let head = done_stood g (m.brick msg.brick) msg.client msg.no q (directory_fits.writers g q two.0) two.1 (subst (λ (o : Out). is_done o.says ≡ true) went done) in
        let l = (k.reached g).linked in
        let is = subst (λ (o : Option Head). IsHead o v.core msg.brick) head.there (l.heads msg.brick (l.to i msg q x.at.said x.at.body)) in
        ap (λ (o : Option Head). is_at o (t.tree g).version) head.there
        ∙ subst (λ (y : ℕ). (stripped head.head.version.content == y) ≡ true) (sym is.1 ∙ (sym (ap (λ (s : State). s.version msg.brick) heads) ∙ (equal (f.heads.version msg.brick) f.flat.version e ∙ agree.version))) (itself (stripped head.head.version.content))
      where
        apart : (c d : Bool) → (c && d) ≡ true → (c ≡ true) × (d ≡ true)
        apart true d h = (refl, h)
        apart false d h = absurd (cc)

        went : out_of m msg q version false ≡ executed_at (m.brick msg.brick) Fine msg.client msg.no q
        went = ap (λ (c : Bool). cond c (executed_at (m.brick msg.brick) Fine msg.client msg.no q) (quiet_out (m.brick msg.brick))) x.at.up

    -- a request that is no PostOp that is done
    no_post : (failed : Bool) → (is_done (out_of m msg q version failed).says && is_post_on g q) ≡ false → Easy (its_acts geometry g m v msg q version failed) → NamesAgree (its_file failed).flat ((outcome geometry m t msg q version failed).tree g)
    no_post true undone easy =
        let s = opens_easily of_directory plans geometry.n (quorum geometry) g m v f msg q version true (its_acts geometry g m v msg q version true) easy in
        opens_agree f (its_file true) (t.tree g) ((failed_by m t msg q version).tree g) (v.of msg.no) msg.brick (names_written q) (λ n. false) _ s (opens_none (t.tree g) ((failed_by m t msg q version).tree g) (λ n. false) (failed_names g m t msg q version) (λ n. refl)) (λ n. sym (part version n)) agree
      where
        part : (o : Option ℕ) (n : List ℕ) → (wrote_part of_directory plans geometry.n (quorum geometry) g f (v.of msg.no) msg.brick q (m.brick msg.brick) o && (names_written q n && there)) ≡ false
        part None n = refl
        part (Some y) n = ap (λ (c : Bool). (c && is_granted (m.brick msg.brick) q) && (names_written q n && there)) (no_part g q)
    no_post false undone easy = by (is_done (out_of m msg q version false).says) refl (opens_easily of_directory plans geometry.n (quorum geometry) g m v f msg q version false (its_acts geometry g m v msg q version false) easy)
      where
        by : (d : Bool) → is_done (out_of m msg q version false).says ≡ d → Opens f (its_file false) (v.of msg.no) msg.brick (names_written q) (is_done (out_of m msg q version false).says && (is_naming g q && is_granted (m.brick msg.brick) q)) → NamesAgree (its_file false).flat ((cond d (done_by geometry m t msg q) t).tree g)
        by true d s = opens_agree f (its_file false) (t.tree g) ((done_by geometry m t msg q).tree g) (v.of msg.no) msg.brick (names_written q) _ (is_done (out_of m msg q version false).says && (is_naming g q && is_granted (m.brick msg.brick) q)) s (done_names geometry g m t msg (m.brick msg.brick) there q (sym (ap (λ (c : Bool). c && is_post_on g q) d) ∙ undone) (at_flat d)) (λ n. sym (ap (λ (c : Bool). (c && (is_naming g q && is_granted (m.brick msg.brick) q)) && (names_written q n && there)) d)) agree
        by false d s = opens_agree f (its_file false) (t.tree g) (t.tree g) (v.of msg.no) msg.brick (names_written q) (λ n. false) (is_done (out_of m msg q version false).says && (is_naming g q && is_granted (m.brick msg.brick) q)) s (opens_none (t.tree g) (t.tree g) (λ n. false) (same_names (t.tree g)) (λ n. refl)) (λ n. sym (ap (λ (c : Bool). (c && (is_naming g q && is_granted (m.brick msg.brick) q)) && (names_written q n && there)) d)) agree

    -- a PostOp that is done
    a_post : IsPost geometry g m v msg q version failed → NamesAgree (its_file failed).flat ((executes geometry m t msg (Some q) version failed).tree g)
    a_post p = subst (λ (u : Story). NamesAgree (its_file failed).flat (u.tree g)) (sym (post_told geometry g m v t msg q version failed p)) (by (is_marked p.old) (is_commit geometry t msg.call g msg.brick) refl refl)
      where
        on : is_post_on g q ≡ true
        on = post_on geometry g m v t msg q version failed p

        number : msg.no ≡ i
        number = ((k.reached g).known.messages.number i msg x.at.said).0

        same_call : (j : ℕ) (y : Message) → m.said j ≡ Some y → v.of j ≡ v.of i → y.call ≡ msg.call
        same_call j y its same = one_caller geometry left none first origins new g m vs t b e plain may kept k i j msg y x.at.said its (post_turn geometry left none first origins new g m vs t b e plain may kept k i msg q x.at.said x.at.body on) same

        commits_are : is_commit geometry t msg.call g msg.brick ≡ commits geometry.n (quorum geometry) f.heads (v.of msg.no) msg.brick
        commits_are =
            commits_same g m.said v.of t v.core posts geometry m i msg q x.at.said x.at.body on (λ j y w its its_body its_on. (λ c. one j i y msg w q its x.at.said its_body x.at.body its_on on c, λ same. same_call j y its same)) msg.brick
            ∙ (ap (λ (s : State). commits geometry.n (quorum geometry) s (v.of i) msg.brick) (sym heads) ∙ ap (λ (j : ℕ). commits geometry.n (quorum geometry) f.heads (v.of j) msg.brick) (sym number))

        fits : FitsNames (quorum geometry) g (op_of m msg.call) (t.found msg.call) (f.covers (v.of msg.no)) (f.sets (v.of msg.no))
        fits =
            let has = planned.plan (v.of msg.no) (subst (λ (j : ℕ). f.planned (v.of j) ≡ true) (sym number) (planned.asked i msg x.at.said (ap (λ (z : Body). plans_on of_directory g z) x.at.body ∙ either (is_naming g q) on))) in
            subst (λ (c : ℕ). FitsNames (quorum geometry) g (op_of m c) (t.found c) (f.covers (v.of msg.no)) (f.sets (v.of msg.no))) (same_call has.number has.message has.is (has.turn ∙ ap v.of number)) has.fits
          where
            either : (c : Bool) {d : Bool} → d ≡ true → (c || d) ≡ true
            either true e = refl
            either false e = e

        by : (c d : Bool) → is_marked p.old ≡ c → is_commit geometry t msg.call g msg.brick ≡ d → NamesAgree (its_file failed).flat ((post_done geometry m t msg.call g msg.brick p.new).tree g)
        by true d e u = subst (λ (z : Story). NamesAgree (its_file failed).flat (z.tree g)) (sym (sunk_told geometry g m v t msg q version failed p e)) (still_agree f (its_file failed) (t.tree g) (t.tree g) (sunk_file of_directory plans geometry g (no_write g) m v f msg q version failed p on e).flat (same_names (t.tree g)) agree)
        by false true e u = subst (λ (z : FlatFile). NamesAgree (its_file failed).flat z) (sym (committed_tree geometry m t msg.call g msg.brick p.new (unmarked_there geometry g m v t msg q version failed p e) u))
            (commit_agree f (its_file failed) (t.tree g) (quorum geometry) g (v.of msg.no) msg.call p.new (op_of m msg.call) (t.found msg.call) (committed_file of_directory plans geometry g (no_write g) m v f msg q version failed p on e (sym commits_are ∙ u)) fits (ap (λ (s : State). target (s.ballot (v.of msg.no))) heads ∙ (p.target ∙ plain_version p.new (p.mark ∙ e))) agree)
        by false false e u = subst (λ (z : FlatFile). NamesAgree (its_file failed).flat z) (sym (uncommitted_tree geometry m t msg.call g msg.brick p.new (unmarked_there geometry g m v t msg q version failed p e) u))
            (still_agree f (its_file failed) (t.tree g) (t.tree g) (posted_file of_directory plans geometry g (no_write g) m v f msg q version failed p on e (sym commits_are ∙ u)).flat (same_names (t.tree g)) agree)

    request_then : IsNoPost geometry g m v msg q version failed ⊎ IsPost geometry g m v msg q version failed → NamesAgree (its_file failed).flat ((executes geometry m t msg (Some q) version failed).tree g)
    request_then (inl p) = no_post failed p.not_done p.easy
    request_then (inr p) = a_post p

    executed_then : NamesAgree (executed_file of_directory plans no_write geometry left none first origins new g m vs t b e plain may kept k f i version failed).flat ((told_executed geometry m t (m.said i) version failed).tree g)
    executed_then =
        subst (λ (h : Directory). NamesAgree h.flat ((told_executed geometry m t (m.said i) version failed).tree g)) (sym (request_is of_directory plans no_write geometry left none first origins new g m vs t b e plain may kept k f i version failed x))
        (subst (λ (o : Option Message). NamesAgree (its_file failed).flat ((told_executed geometry m t o version failed).tree g)) (sym x.at.said)
        (subst (λ (z : Body). NamesAgree (its_file failed).flat ((executes geometry m t msg (request_of z) version failed).tree g)) (sym x.at.body)
        (request_then (known_kind geometry left none first origins new g m vs t b e plain may kept k i version failed x))))

  -- of a write that is torn
  torn_then : (i count : ℕ) (version : Option ℕ) → MayTear m i count version → NamesAgree (torn_file of_directory plans no_write geometry left none first origins new g m vs t b e plain may kept k f i count version).flat ((told_torn m t (m.said i) version).tree g)
  torn_then i count version x =
      subst (λ (h : Directory). NamesAgree h.flat ((told_torn m t (m.said i) version).tree g)) (sym (part_is of_directory plans no_write geometry left none first origins new g m vs t b e plain may kept k f i count version x))
      (subst (λ (o : Option Message). NamesAgree its_file.flat ((told_torn m t o version).tree g)) (sym x.at.said)
      (subst (λ (z : Body). NamesAgree its_file.flat ((tears m t x.message (request_of z) version).tree g)) (sym x.at.body)
      (opens_agree f its_file (t.tree g) ((torn_by m t x.message x.request version).tree g) (v.of x.message.no) x.message.brick (names_written x.request) (λ n. false) _ (opens_torn of_directory plans geometry.n (quorum geometry) g m v f x.message x.request version count (Stop x.message.brick ∷ []) (refl, tt)) (opens_none (t.tree g) ((torn_by m t x.message x.request version).tree g) (λ n. false) (torn_names g m t x.message x.request version) (λ n. refl)) (λ n. sym (part version n)) agree)))
    where
      its_file : Directory
      its_file = part_file of_directory plans no_write geometry left none first origins new g m vs t b e plain may kept k f x.message x.request count version

      part : (o : Option ℕ) (n : List ℕ) → (wrote_part of_directory plans geometry.n (quorum geometry) g f (v.of x.message.no) x.message.brick x.request (m.brick x.message.brick) o && (names_written x.request n && (f.heads.version x.message.brick == f.flat.version))) ≡ false
      part None n = refl
      part (Some y) n = ap (λ (c : Bool). (c && is_granted (m.brick x.message.brick) x.request) && (names_written x.request n && (f.heads.version x.message.brick == f.flat.version))) (no_part g x.request)

  abbrev Then : Entry → Type 0
  Then x = NamesAgree (file_after of_directory plans geometry.n (quorum geometry) g m v f x).flat ((told geometry m t x).tree g)

  -- entries by which no brick does a request
  quiet : (x : Entry) (es : List Act) → Easy es → NamesAgree (after_deeds of_directory.form geometry.n (quorum geometry) (map (dressed of_directory plans geometry.n (quorum geometry) g) es) f).flat (t.tree g)
  quiet x es easy = still_agree f _ (t.tree g) (t.tree g) (same_acts of_directory plans geometry.n (quorum geometry) g es f easy).flat (same_names (t.tree g)) agree

  sent_then : (msg : Message) → Then (Sent msg)
  sent_then msg = subst (λ (y : Tree). NamesAgree (file_after of_directory plans geometry.n (quorum geometry) g m v f (Sent msg)).flat (y g)) (sym (said_same t msg.call msg.body).1) (still_agree f (file_after of_directory plans geometry.n (quorum geometry) g m v f (Sent msg)) (t.tree g) (t.tree g) (by (plans_on of_directory g msg.body && not (f.planned (turn_of g v msg))) (sent_as of_directory plans geometry g m v f msg)) (same_names (t.tree g)) agree)
    where
      by : (c : Bool) → SentAs of_directory plans geometry g m v f msg c (file_after of_directory plans geometry.n (quorum geometry) g m v f (Sent msg)) → FlatKept f (file_after of_directory plans geometry.n (quorum geometry) g m v f (Sent msg))
      by true s = s.flat
      by false s = s.flat

  entry_then : (x : Entry) → e ≡ x → Then x
  entry_then (Called a client op) is = subst (λ (y : Tree). NamesAgree f.flat (y g)) (sym (began_tree t a op)) agree
  entry_then (Sent msg) is = sent_then msg
  entry_then (Executed i version failed) is = executed_then i version failed (subst (λ (z : Entry). MayEnter geometry.n m z) is may)
  entry_then (Heard i) is = agree
  entry_then (Torn i count version) is = torn_then i count version (subst (λ (z : Entry). MayEnter geometry.n m z) is may)
  entry_then (Cut client c) is = quiet (Cut client c) (acts g m v (Cut client c)) (easy_locks g m v c (m.brick c).asks (cut_off (m.brick c) client).brick.asks)
  entry_then (Stopped c) is = quiet (Stopped c) (Stop c ∷ []) (refl, tt)
  entry_then (Replaced c removed all) is = quiet (Replaced c removed all) (acts g m v (Replaced c removed all)) (easy_replaced (is_some ((m.brick c).records g) && not (is_some (wiped removed all (m.brick c).records g))) c)
  entry_then (Lost i) is = agree
  entry_then (GivenUp client brick i) is = agree
  entry_then (Returned c) is = agree
  entry_then (Died client) is = agree
  entry_then (Yielded client) is = agree
  entry_then (Answered a answer) is = agree

  pub names_then : Then e
  names_then = entry_then e refl
