-- What a request makes of the names of a flat file.
use Rattle.std.proofs.Common.{◌≡◌, ◌≢◌, ℕ, Bool, true, false, not, cond, ◌==◌, ◌&&◌, Option, Some, None, List, length, refl, sym, ◌∙◌, ap, subst}
use Rattle.std.specs.Prelude.{nat_le}
use Rattle.std.specs.BTreeMap.{is_at}
use Rattle.std.specs.Cmp.Lexicographic.{slice_cmp}
use Rattle.std.specs.Ordering.{nat_cmp}
use Rattle.ec_attr.specs.declared.geometry.Geometry.{Geometry}
use Rattle.ec_attr.specs.declared.kind.Domain.TheVariants.{Inode}
use Rattle.ec_attr.specs.declared.kind.Kind.{Kind}
use Rattle.ec_attr.specs.declared.kind.LockKind.TheVariants.{Exclusive}
use Rattle.ec_brick.specs.State.{State as Brick}
use Rattle.ec_conduct.specs.Given.{quorum}
use Rattle.ec_history.specs.Changes.{change}
use Rattle.ec_history.specs.Flat.{Flat as FlatFile, committed, made, made_from, name_opened, opened}
use Rattle.ec_history.specs.Run.{Net}
use Rattle.ec_history.specs.Story.{Story, done_by, failed_by, is_among, is_at_flat, is_commit, is_heal, is_unmarked, op_of, opens, post_done, torn_by, with_flat, with_post}
use Rattle.ec_locks.specs.Table.{holds}
use Rattle.ec_store.specs.Records.{head_at}
use Rattle.ec_wire.specs.declared.message.Message.{Message}
use Rattle.ec_wire.specs.declared.request.Request.{Request}
use Rattle.ec_wire.specs.declared.request.Request.TheVariants.{Ask, Release, Query, PreOp, ReadChunks, WriteChunks, SetLength, PostOp, Clear, NameGet, NamesAfter, NameSet, NamesPut, Make, Made, Unmake, Mark, Unmark, GfidsAfter}
use Rattle.ec_law_turns.proofs.Basics.{differ, equal, itself, unequal}
use Rattle.ec_law_data.specs.Deeds.{is_granted, is_post_on}
use Rattle.ec_law_data.specs.Forms.{is_naming, names_written}

-- the names are as they were
pub record SameNames (x y : FlatFile) : Type 0 where
  pub version : y.version ≡ x.version
  pub child : y.child ≡ x.child
  pub names : y.is_name_open ≡ x.is_name_open

pub same_names : (x : FlatFile) → SameNames x x
same_names x = record { version = refl; child = refl; names = refl }

-- names are opened, among them each that passes the test
pub record OpensNames (x y : FlatFile) (test : List ℕ → Bool) : Type 0 where
  pub version : y.version ≡ x.version
  pub child : y.child ≡ x.child
  pub closed : (n : List ℕ) → y.is_name_open n ≡ false → (x.is_name_open n ≡ false) × (test n ≡ false)

pub opens_none : (x y : FlatFile) (test : List ℕ → Bool) → SameNames x y → ((n : List ℕ) → test n ≡ false) → OpensNames x y test
opens_none x y test s h = record { version = s.version; child = s.child; closed = λ n e. (sym (ap (λ (f : List ℕ → Bool). f n) s.names) ∙ e, h n) }

-- what is done to one flat file, seen from a gfid
pub seen_if : (P : FlatFile → FlatFile → Type 0) → ((x : FlatFile) → P x x) → (g : ℕ) (t : Story) (x : ℕ) (f : FlatFile → FlatFile) → ((flat : FlatFile) → P flat (f flat)) → P (t.tree g) ((with_flat t x f).tree g)
seen_if P still g t x f keeps = by (g == x) refl
  where
    by : (c : Bool) → (g == x) ≡ c → P (t.tree g) (cond (g == x) (f (t.tree x)) (t.tree g))
    by true e = subst (λ (c : Bool). P (t.tree g) (cond c (f (t.tree x)) (t.tree g))) (sym e) (subst (λ (z : ℕ). P (t.tree g) (f (t.tree z))) (equal g x e) (keeps (t.tree g)))
    by false e = subst (λ (c : Bool). P (t.tree g) (cond c (f (t.tree x)) (t.tree g))) (sym e) (still (t.tree g))

pub tree_if : (P : FlatFile → FlatFile → Type 0) (g : ℕ) (t u w : Story) (c : Bool) → P (t.tree g) (u.tree g) → P (t.tree g) (w.tree g) → P (t.tree g) ((cond c u w).tree g)
tree_if P g t u w true h i = h
tree_if P g t u w false h i = i

opens_names : (g : ℕ) (m : Net) (t : Story) (msg : Message) (x : ℕ) (stripes : ℕ → Bool) → SameNames (t.tree g) ((opens m t msg x stripes).tree g)
opens_names g m t msg x stripes = tree_if SameNames g t (with_flat t x (opened msg.call stripes)) t (not (is_heal (op_of m msg.call)) && is_at_flat m t msg.brick x) (seen_if SameNames same_names g t x (opened msg.call stripes) (λ flat. record { version = refl; child = refl; names = refl })) (same_names (t.tree g))

made_names : (kind : Kind) (flat : FlatFile) → SameNames flat (made kind flat)
made_names kind flat = by flat.kind
  where
    by : (o : Option Kind) → SameNames flat (made_from o kind flat)
    by None = record { version = refl; child = refl; names = refl }
    by (Some x) = same_names flat

-- the PostOp on another gfid
pub post_elsewhere : (P : FlatFile → FlatFile → Type 0) → ((x : FlatFile) → P x x) → (geometry : Geometry) (g : ℕ) (m : Net) (t : Story) (a x b version : ℕ) → g ≢ x → P (t.tree g) ((post_done geometry m t a x b version).tree g)
post_elsewhere P still geometry g m t a x b version ne = by (is_unmarked (head_at (m.brick b).records x)) (is_commit geometry t a x b) (g == x) (unequal g x ne)
  where
    commit : FlatFile → FlatFile
    commit flat = committed (quorum geometry) a version (change (quorum geometry) (op_of m a) (t.found a) x flat) flat

    by : (u c d : Bool) → d ≡ false → P (t.tree g) ((cond u (cond c (record (with_post t a x b) { tree = λ y. cond (y == x) (commit (t.tree x)) (t.tree y) }) (with_post t a x b)) t).tree g)
    by true true d e = subst (λ (z : Bool). P (t.tree g) (cond z (commit (t.tree x)) (t.tree g))) (sym (unequal g x ne)) (still (t.tree g))
    by true false d e = still (t.tree g)
    by false c d e = still (t.tree g)

-- a request that is done, and is no PostOp on the gfid
module _ (geometry : Geometry) (g : ℕ) (m : Net) (t : Story) (msg : Message) (old : Brick) (there : Bool) where
  abbrev pub test_of : Request → List ℕ → Bool
  test_of q n = (is_naming g q && is_granted old q) && (names_written q n && there)

  outside : (c d : Bool) → ((c && false) && d) ≡ false
  outside true d = refl
  outside false d = refl

  pub done_names : (q : Request) → is_post_on g q ≡ false → ((is_naming g q && is_granted old q) ≡ true → there ≡ true → is_at_flat m t msg.brick g ≡ true) → OpensNames (t.tree g) ((done_by geometry m t msg q).tree g) (test_of q)
  done_names (WriteChunks x n first chunks) e h = opens_none (t.tree g) _ (test_of (WriteChunks x n first chunks)) (opens_names g m t msg x.0 (is_among first (length chunks))) (λ n. refl)
  done_names (SetLength x n keep count) e h = opens_none (t.tree g) _ (test_of (SetLength x n keep count)) (opens_names g m t msg x.0 (λ s. nat_le keep s)) (λ n. refl)
  done_names (PostOp x n at version size attr) e h = opens_none (t.tree g) _ (test_of (PostOp x n at version size attr)) (post_elsewhere SameNames same_names geometry g m t msg.call x.0 msg.brick version (λ z. differ x.0 g e (sym z))) (λ n. refl)
  done_names (Make x n child) e h = opens_none (t.tree g) _ (test_of (Make x n child)) (seen_if SameNames same_names g t child.gfid.0 (made child.kind) (made_names child.kind)) (λ n. refl)
  done_names (NamesPut x n start upto list) e h = opens_none (t.tree g) (t.tree g) (test_of (NamesPut x n start upto list)) (same_names (t.tree g)) (λ k. outside (x.0 == g) there)
  done_names (NameSet x n name child) e h = by (x.0 == g) refl
    where
      set : Story → Story
      set t = cond (is_at_flat m t msg.brick x.0) (with_flat t x.0 (name_opened name)) t

      by : (c : Bool) → (x.0 == g) ≡ c → OpensNames (t.tree g) ((set t).tree g) (test_of (NameSet x n name child))
      by false e = opens_none (t.tree g) _ (test_of (NameSet x n name child)) (tree_if SameNames g t (with_flat t x.0 (name_opened name)) t (is_at_flat m t msg.brick x.0) (elsewhere) (same_names (t.tree g))) (λ k. ap (λ (c : Bool). (c && true) && (is_at (slice_cmp nat_cmp name) k && there)) e)
        where
          elsewhere : SameNames (t.tree g) ((with_flat t x.0 (name_opened name)).tree g)
          elsewhere = subst (λ (c : Bool). SameNames (t.tree g) (cond c (name_opened name (t.tree x.0)) (t.tree g))) (sym (unequal g x.0 (λ z. differ x.0 g e (sym z)))) (same_names (t.tree g))
      by true e = at (is_at_flat m t msg.brick x.0) refl
        where
          here : x.0 ≡ g
          here = equal x.0 g e

          test_is : (k : List ℕ) → test_of (NameSet x n name child) k ≡ (is_at (slice_cmp nat_cmp name) k && there)
          test_is k = ap (λ (c : Bool). (c && true) && (is_at (slice_cmp nat_cmp name) k && there)) e

          opened_then : OpensNames (t.tree g) (name_opened name (t.tree g)) (test_of (NameSet x n name child))
          opened_then = record { version = refl; child = refl; closed = λ k o. let z = shut (is_at (slice_cmp nat_cmp name) k) ((t.tree g).is_name_open k) there o in (z.0, test_is k ∙ z.1) }
            where
              shut : (c d u : Bool) → cond c true d ≡ false → (d ≡ false) × ((c && u) ≡ false)
              shut true d u o = absurd (cc)
              shut false d u o = (o, refl)

          at : (c : Bool) → is_at_flat m t msg.brick x.0 ≡ c → OpensNames (t.tree g) ((set t).tree g) (test_of (NameSet x n name child))
          at true f = subst (λ (c : Bool). OpensNames (t.tree g) ((cond c (with_flat t x.0 (name_opened name)) t).tree g) (test_of (NameSet x n name child))) (sym f)
              (subst (λ (y : ℕ). OpensNames (t.tree g) ((with_flat t y (name_opened name)).tree g) (test_of (NameSet x n name child))) (sym here)
              (subst (λ (c : Bool). OpensNames (t.tree g) (cond c (name_opened name (t.tree g)) (t.tree g)) (test_of (NameSet x n name child))) (sym (itself g)) opened_then))
          at false f = subst (λ (c : Bool). OpensNames (t.tree g) ((cond c (with_flat t x.0 (name_opened name)) t).tree g) (test_of (NameSet x n name child))) (sym f)
              (opens_none (t.tree g) (t.tree g) (test_of (NameSet x n name child)) (same_names (t.tree g)) (λ k. test_is k ∙ away (is_at (slice_cmp nat_cmp name) k) there refl))
            where
              away : (c u : Bool) → there ≡ u → (c && u) ≡ false
              away true true z = absurd (let w = sym f ∙ (ap (λ (y : ℕ). is_at_flat m t msg.brick y) here ∙ h (ap (λ (c : Bool). c && true) e) z) in cc)
              away false true z = refl
              away true false z = refl
              away false false z = refl
  done_names (Ask x domain kind) e h = opens_none (t.tree g) (t.tree g) (test_of (Ask x domain kind)) (same_names (t.tree g)) (λ k. refl)
  done_names (Release x n) e h = opens_none (t.tree g) (t.tree g) (test_of (Release x n)) (same_names (t.tree g)) (λ k. refl)
  done_names (Query x n) e h = opens_none (t.tree g) (t.tree g) (test_of (Query x n)) (same_names (t.tree g)) (λ k. refl)
  done_names (PreOp x n at dirty) e h = opens_none (t.tree g) (t.tree g) (test_of (PreOp x n at dirty)) (same_names (t.tree g)) (λ k. refl)
  done_names (ReadChunks x n first count) e h = opens_none (t.tree g) (t.tree g) (test_of (ReadChunks x n first count)) (same_names (t.tree g)) (λ k. refl)
  done_names (Clear x n at) e h = opens_none (t.tree g) (t.tree g) (test_of (Clear x n at)) (same_names (t.tree g)) (λ k. refl)
  done_names (NameGet x n name) e h = opens_none (t.tree g) (t.tree g) (test_of (NameGet x n name)) (same_names (t.tree g)) (λ k. refl)
  done_names (NamesAfter x n start) e h = opens_none (t.tree g) (t.tree g) (test_of (NamesAfter x n start)) (same_names (t.tree g)) (λ k. refl)
  done_names (Made x n child) e h = opens_none (t.tree g) (t.tree g) (test_of (Made x n child)) (same_names (t.tree g)) (λ k. refl)
  done_names (Unmake x n child) e h = opens_none (t.tree g) (t.tree g) (test_of (Unmake x n child)) (same_names (t.tree g)) (λ k. refl)
  done_names (Mark x n heal head) e h = opens_none (t.tree g) (t.tree g) (test_of (Mark x n heal head)) (same_names (t.tree g)) (λ k. refl)
  done_names (Unmark x n at dirty) e h = opens_none (t.tree g) (t.tree g) (test_of (Unmark x n at dirty)) (same_names (t.tree g)) (λ k. refl)
  done_names (GfidsAfter start dirty) e h = opens_none (t.tree g) (t.tree g) (test_of (GfidsAfter start dirty)) (same_names (t.tree g)) (λ k. refl)

-- one in whose work the store failed, or that was torn, opens no names
pub failed_names : (g : ℕ) (m : Net) (t : Story) (msg : Message) (q : Request) (o : Option ℕ) → SameNames (t.tree g) ((failed_by m t msg q o).tree g)
failed_names g m t msg (WriteChunks x n first chunks) (Some v) = opens_names g m t msg x.0 (is_among first (length chunks))
failed_names g m t msg (Ask x domain kind) (Some v) = same_names (t.tree g)
failed_names g m t msg (Release x n) (Some v) = same_names (t.tree g)
failed_names g m t msg (Query x n) (Some v) = same_names (t.tree g)
failed_names g m t msg (PreOp x n at dirty) (Some v) = same_names (t.tree g)
failed_names g m t msg (ReadChunks x n first count) (Some v) = same_names (t.tree g)
failed_names g m t msg (SetLength x n keep count) (Some v) = same_names (t.tree g)
failed_names g m t msg (PostOp x n at version size attr) (Some v) = same_names (t.tree g)
failed_names g m t msg (Clear x n at) (Some v) = same_names (t.tree g)
failed_names g m t msg (NameGet x n name) (Some v) = same_names (t.tree g)
failed_names g m t msg (NamesAfter x n start) (Some v) = same_names (t.tree g)
failed_names g m t msg (NameSet x n name child) (Some v) = same_names (t.tree g)
failed_names g m t msg (NamesPut x n start upto list) (Some v) = same_names (t.tree g)
failed_names g m t msg (Make x n child) (Some v) = same_names (t.tree g)
failed_names g m t msg (Made x n child) (Some v) = same_names (t.tree g)
failed_names g m t msg (Unmake x n child) (Some v) = same_names (t.tree g)
failed_names g m t msg (Mark x n heal head) (Some v) = same_names (t.tree g)
failed_names g m t msg (Unmark x n at dirty) (Some v) = same_names (t.tree g)
failed_names g m t msg (GfidsAfter start dirty) (Some v) = same_names (t.tree g)
failed_names g m t msg (Ask x domain kind) None = same_names (t.tree g)
failed_names g m t msg (Release x n) None = same_names (t.tree g)
failed_names g m t msg (Query x n) None = same_names (t.tree g)
failed_names g m t msg (PreOp x n at dirty) None = same_names (t.tree g)
failed_names g m t msg (ReadChunks x n first count) None = same_names (t.tree g)
failed_names g m t msg (WriteChunks x n first chunks) None = same_names (t.tree g)
failed_names g m t msg (SetLength x n keep count) None = same_names (t.tree g)
failed_names g m t msg (PostOp x n at version size attr) None = same_names (t.tree g)
failed_names g m t msg (Clear x n at) None = same_names (t.tree g)
failed_names g m t msg (NameGet x n name) None = same_names (t.tree g)
failed_names g m t msg (NamesAfter x n start) None = same_names (t.tree g)
failed_names g m t msg (NameSet x n name child) None = same_names (t.tree g)
failed_names g m t msg (NamesPut x n start upto list) None = same_names (t.tree g)
failed_names g m t msg (Make x n child) None = same_names (t.tree g)
failed_names g m t msg (Made x n child) None = same_names (t.tree g)
failed_names g m t msg (Unmake x n child) None = same_names (t.tree g)
failed_names g m t msg (Mark x n heal head) None = same_names (t.tree g)
failed_names g m t msg (Unmark x n at dirty) None = same_names (t.tree g)
failed_names g m t msg (GfidsAfter start dirty) None = same_names (t.tree g)

pub torn_names : (g : ℕ) (m : Net) (t : Story) (msg : Message) (q : Request) (o : Option ℕ) → SameNames (t.tree g) ((torn_by m t msg q o).tree g)
torn_names g m t msg (WriteChunks x n first chunks) (Some v) = tree_if SameNames g t (opens m t msg x.0 (is_among first (length chunks))) t (holds (m.brick msg.brick).asks n x Inode Exclusive) (opens_names g m t msg x.0 (is_among first (length chunks))) (same_names (t.tree g))
torn_names g m t msg (Ask x domain kind) (Some v) = same_names (t.tree g)
torn_names g m t msg (Release x n) (Some v) = same_names (t.tree g)
torn_names g m t msg (Query x n) (Some v) = same_names (t.tree g)
torn_names g m t msg (PreOp x n at dirty) (Some v) = same_names (t.tree g)
torn_names g m t msg (ReadChunks x n first count) (Some v) = same_names (t.tree g)
torn_names g m t msg (SetLength x n keep count) (Some v) = same_names (t.tree g)
torn_names g m t msg (PostOp x n at version size attr) (Some v) = same_names (t.tree g)
torn_names g m t msg (Clear x n at) (Some v) = same_names (t.tree g)
torn_names g m t msg (NameGet x n name) (Some v) = same_names (t.tree g)
torn_names g m t msg (NamesAfter x n start) (Some v) = same_names (t.tree g)
torn_names g m t msg (NameSet x n name child) (Some v) = same_names (t.tree g)
torn_names g m t msg (NamesPut x n start upto list) (Some v) = same_names (t.tree g)
torn_names g m t msg (Make x n child) (Some v) = same_names (t.tree g)
torn_names g m t msg (Made x n child) (Some v) = same_names (t.tree g)
torn_names g m t msg (Unmake x n child) (Some v) = same_names (t.tree g)
torn_names g m t msg (Mark x n heal head) (Some v) = same_names (t.tree g)
torn_names g m t msg (Unmark x n at dirty) (Some v) = same_names (t.tree g)
torn_names g m t msg (GfidsAfter start dirty) (Some v) = same_names (t.tree g)
torn_names g m t msg (Ask x domain kind) None = same_names (t.tree g)
torn_names g m t msg (Release x n) None = same_names (t.tree g)
torn_names g m t msg (Query x n) None = same_names (t.tree g)
torn_names g m t msg (PreOp x n at dirty) None = same_names (t.tree g)
torn_names g m t msg (ReadChunks x n first count) None = same_names (t.tree g)
torn_names g m t msg (WriteChunks x n first chunks) None = same_names (t.tree g)
torn_names g m t msg (SetLength x n keep count) None = same_names (t.tree g)
torn_names g m t msg (PostOp x n at version size attr) None = same_names (t.tree g)
torn_names g m t msg (Clear x n at) None = same_names (t.tree g)
torn_names g m t msg (NameGet x n name) None = same_names (t.tree g)
torn_names g m t msg (NamesAfter x n start) None = same_names (t.tree g)
torn_names g m t msg (NameSet x n name child) None = same_names (t.tree g)
torn_names g m t msg (NamesPut x n start upto list) None = same_names (t.tree g)
torn_names g m t msg (Make x n child) None = same_names (t.tree g)
torn_names g m t msg (Made x n child) None = same_names (t.tree g)
torn_names g m t msg (Unmake x n child) None = same_names (t.tree g)
torn_names g m t msg (Mark x n heal head) None = same_names (t.tree g)
torn_names g m t msg (Unmark x n at dirty) None = same_names (t.tree g)
torn_names g m t msg (GfidsAfter start dirty) None = same_names (t.tree g)
