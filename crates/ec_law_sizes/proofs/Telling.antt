-- What a request that a brick executes makes of the size and the attribute of the flat file, unless a call commits by it. Until its
-- record is first made, the flat file counts as having the shape of a new record.
use Rattle.std.proofs.Common.{◌≡◌, ℕ, ◌+◌, Bool, true, false, not, cond, ◌==◌, ◌&&◌, Option, Some, None, length, refl, sym, ◌∙◌, ap, subst}
use Rattle.ec_attr.specs.Head.{new_attr}
use Rattle.ec_attr.specs.declared.geometry.Geometry.{Geometry}
use Rattle.ec_attr.specs.declared.kind.Domain.TheVariants.{Inode}
use Rattle.ec_attr.specs.declared.kind.Kind.{Kind}
use Rattle.ec_attr.specs.declared.kind.LockKind.TheVariants.{Exclusive}
use Rattle.ec_conduct.specs.Given.{quorum}
use Rattle.ec_locks.specs.Table.{holds}
use Rattle.ec_store.specs.Records.{head_at}
use Rattle.ec_history.specs.Changes.{change}
use Rattle.ec_history.specs.Flat.{Flat, committed, made, made_from, name_opened, opened}
use Rattle.ec_history.specs.Run.{Net, out_of}
use Rattle.ec_history.specs.Story.{Story, began, done_by, failed_by, found_by, is_among, is_at_flat, is_commit, is_done, is_heal, is_unmarked, makes_a_child, op_of, opens, outcome, post_done, request_of, tears, told_torn, torn_by, with_flat, with_post}
use Rattle.ec_wire.specs.declared.message.Message.{Message}
use Rattle.ec_wire.specs.declared.op.Op.{Op}
use Rattle.ec_wire.specs.declared.request.Request.{Request}
use Rattle.ec_wire.specs.declared.request.Request.TheVariants.{WriteChunks, SetLength, PostOp, NameSet, Make}
use Rattle.ec_law_turns.proofs.Basics.{differ, equal}
use Rattle.ec_law_data.specs.Deeds.{is_post_on}
use Rattle.ec_law_data.specs.Forms.{Shape}
use Rattle.ec_law_sizes.specs.Sizes.{tree_shape}

abbrev pub shown_of : Option Kind → Shape → Shape → Shape
shown_of None new s = new
shown_of (Some kind) new s = s

abbrev pub shown_file : Shape → Flat → Shape
shown_file new x = shown_of x.kind new (tree_shape x)

module _ {X : Type 0} (part : Shape → X) (new : Shape) where
  -- two flat files of one version of which this part of their shapes is the same
  pub record SameShown (x y : Flat) : Type 0 where
    pub version : y.version ≡ x.version
    pub shape : part (shown_file new y) ≡ part (shown_file new x)

  pub same_shown : (x : Flat) → SameShown x x
  same_shown x = record { version = refl; shape = refl }

  -- a Make of the gfid makes a new record
  abbrev pub MakesNew : ℕ → Request → Type 0
  MakesNew g (Make x n child) = child.gfid.0 ≡ g → part new ≡ part (record { size = 0; attr = new_attr child.kind })
  MakesNew g q = Unit {0}

  made_shown : (kind : Kind) (flat : Flat) → (flat.kind ≡ None → flat.size ≡ 0) → part new ≡ part (record { size = 0; attr = new_attr kind }) → SameShown flat (made kind flat)
  made_shown kind flat zero fits = by flat.kind refl
    where
      by : (o : Option Kind) → flat.kind ≡ o → SameShown flat (made_from o kind flat)
      by None e = record { version = refl; shape = ap (λ (z : ℕ). part (record { size = z; attr = new_attr kind })) (zero e) ∙ (sym fits ∙ sym (ap (λ (o : Option Kind). part (shown_of o new (tree_shape flat))) e)) }
      by (Some k) e = same_shown flat

  -- and leaves a flat file as it counted before
  abbrev pub MakeKeeps : ℕ → Request → Flat → Type 0
  MakeKeeps g (Make x n child) flat = child.gfid.0 ≡ g → SameShown flat (made child.kind flat)
  MakeKeeps g q flat = Unit {0}

  pub new_keeps : (g : ℕ) (q : Request) (flat : Flat) → (flat.kind ≡ None → flat.size ≡ 0) → MakesNew g q → MakeKeeps g q flat
  new_keeps g (Make x n child) flat zero fits = λ on. made_shown child.kind flat zero (fits on)
  new_keeps g q flat zero fits = tt

  module _ (g : ℕ) where
    abbrev pub Same : Story → Story → Type 0
    Same t u = SameShown (t.tree g) (u.tree g)

    same_if : (t u w : Story) (c : Bool) → Same t u → Same t w → Same t (cond c u w)
    same_if t u w true h k = h
    same_if t u w false h k = k

    with_same : (t : Story) (x : ℕ) (f : Flat → Flat) → (x ≡ g → SameShown (t.tree g) (f (t.tree g))) → Same t (with_flat t x f)
    with_same t x f keeps = at (g == x) refl
      where
        at : (c : Bool) → (g == x) ≡ c → SameShown (t.tree g) (cond c (f (t.tree x)) (t.tree g))
        at true u = subst (λ (y : ℕ). SameShown (t.tree g) (f (t.tree y))) (equal g x u) (keeps (sym (equal g x u)))
        at false u = same_shown (t.tree g)

    module _ (geometry : Geometry) (m : Net) (t : Story) (msg : Message) where
      opens_shown : (x : ℕ) (stripes : ℕ → Bool) → Same t (opens m t msg x stripes)
      opens_shown x stripes = same_if t (with_flat t x (opened msg.call stripes)) t (not (is_heal (op_of m msg.call)) && is_at_flat m t msg.brick x) (with_same t x (opened msg.call stripes) (λ on. record { version = refl; shape = refl })) (same_shown (t.tree g))

      posted_shown : (x version : ℕ) → (x == g) ≡ false → Same t (post_done geometry m t msg.call x msg.brick version)
      posted_shown x version other = same_if t (cond (is_commit geometry t msg.call x msg.brick) (with_flat posting x commit) posting) t (is_unmarked (head_at (m.brick msg.brick).records x)) (same_if t (with_flat posting x commit) posting (is_commit geometry t msg.call x msg.brick) (with_same posting x commit (λ on. absurd (differ x g other on))) (same_shown (t.tree g))) (same_shown (t.tree g))
        where
          posting : Story
          posting = with_post t msg.call x msg.brick

          commit : Flat → Flat
          commit flat = committed (quorum geometry) msg.call version (change (quorum geometry) (op_of m msg.call) (t.found msg.call) x flat) flat

      done_shown : (q : Request) → is_post_on g q ≡ false → MakeKeeps g q (t.tree g) → Same t (done_by geometry m t msg q)
      done_shown (WriteChunks x n first chunks) other keeps = opens_shown x.0 _
      done_shown (SetLength x n keep count) other keeps = opens_shown x.0 _
      done_shown (NameSet x n name child) other keeps = same_if t (with_flat t x.0 (name_opened name)) t (is_at_flat m t msg.brick x.0) (with_same t x.0 (name_opened name) (λ on. record { version = refl; shape = refl })) (same_shown (t.tree g))
      done_shown (Make x n child) other keeps = with_same t child.gfid.0 (made child.kind) (λ on. keeps on)
      done_shown (PostOp x n at version size attr) other keeps = posted_shown x.0 version other
      done_shown q other keeps = same_shown (t.tree g)

      failed_shown : (q : Request) (version : Option ℕ) → Same t (failed_by m t msg q version)
      failed_shown (WriteChunks x n first chunks) (Some version) = opens_shown x.0 _
      failed_shown (WriteChunks x n first chunks) None = same_shown (t.tree g)
      failed_shown q version = same_shown (t.tree g)

      cut_shown : (q : Request) (version : Option ℕ) → Same t (torn_by m t msg q version)
      cut_shown (WriteChunks x n first chunks) (Some version) = same_if t (opens m t msg x.0 (is_among first (length chunks))) t (holds (m.brick msg.brick).asks n x Inode Exclusive) (opens_shown x.0 (is_among first (length chunks))) (same_shown (t.tree g))
      cut_shown (WriteChunks x n first chunks) None = same_shown (t.tree g)
      cut_shown q version = same_shown (t.tree g)

      -- a request by which no call commits on the gfid
      pub outcome_shown : (q : Request) (version : Option ℕ) (failed : Bool) → (is_done (out_of m msg q version failed).says && is_post_on g q) ≡ false → MakeKeeps g q (t.tree g) → Same t (outcome geometry m t msg q version failed)
      outcome_shown q version true quiet keeps = failed_shown q version
      outcome_shown q version false quiet keeps = by (is_done (out_of m msg q version false).says) quiet
        where
          by : (d : Bool) → (d && is_post_on g q) ≡ false → Same t (cond d (done_by geometry m t msg q) t)
          by true e = done_shown q e keeps
          by false e = same_shown (t.tree g)

    pub torn_shown : (geometry : Geometry) (m : Net) (t : Story) (o : Option Message) (version : Option ℕ) → Same t (told_torn m t o version)
    torn_shown geometry m t None version = same_shown (t.tree g)
    torn_shown geometry m t (Some msg) version = by (request_of msg.body)
      where
        by : (o : Option Request) → Same t (tears m t msg o version)
        by None = same_shown (t.tree g)
        by (Some q) = cut_shown geometry m t msg q version

    pub began_shown : (t : Story) (a : ℕ) (op : Op) → Same t (began t a op)
    began_shown t a op = by (makes_a_child op)
      where
        by : (c : Bool) → Same t (cond c (record (found_by t a (λ f. record f { took = t.next_gfid })) { next_gfid = t.next_gfid + 1 }) t)
        by true = same_shown (t.tree g)
        by false = same_shown (t.tree g)
