-- What a request makes of the stripes of a flat file.
use Rattle.std.proofs.Common.{◌≡◌, ℕ, ◌≤◌, Bool, true, false, not, cond, ◌==◌, ◌&&◌, Option, Some, None, length, refl, sym, ◌∙◌, ap, subst, arith}
use Rattle.std.specs.Prelude.{nat_le, nat_lt}
use Rattle.std.proofs.lemmas.Bool.Decides.{nat_tests}
use Rattle.ec_attr.specs.declared.geometry.Geometry.{Geometry}
use Rattle.ec_attr.specs.declared.kind.Domain.TheVariants.{Inode}
use Rattle.ec_attr.specs.declared.kind.Kind.{Kind}
use Rattle.ec_attr.specs.declared.kind.LockKind.TheVariants.{Exclusive}
use Rattle.ec_brick.specs.State.{State as Brick}
use Rattle.ec_history.specs.Flat.{Flat as FlatFile, Opener, made, made_from, name_opened, opened, opened_by}
use Rattle.ec_history.specs.IsRun.{HasBytes}
use Rattle.ec_history.specs.Run.{Net}
use Rattle.ec_history.specs.Story.{Story, done_by, failed_by, is_among, is_at_flat, is_heal, op_of, opens, torn_by, with_flat}
use Rattle.ec_locks.specs.Table.{holds}
use Rattle.ec_wire.specs.declared.message.Message.{Message}
use Rattle.ec_wire.specs.declared.request.Request.{Request}
use Rattle.ec_wire.specs.declared.request.Request.TheVariants.{Ask, Release, Query, PreOp, ReadChunks, WriteChunks, SetLength, PostOp, Clear, NameGet, NamesAfter, NameSet, NamesPut, Make, Made, Unmake, Mark, Unmark, GfidsAfter}
use Rattle.ec_law_turns.proofs.Basics.{differ, equal, itself}
use Rattle.ec_law_data.specs.Deeds.{is_granted, is_partial, is_post_on}
use Rattle.ec_law_data.specs.Forms.{is_data, stripes_written}
use Rattle.ec_law_flats.proofs.NameTelling.{post_elsewhere, seen_if, tree_if}

-- the stripes are as they were
pub record SameStripes (x y : FlatFile) : Type 0 where
  pub version : y.version ≡ x.version
  pub byte : y.byte ≡ x.byte
  pub opener : y.opener ≡ x.opener

pub same_stripes : (x : FlatFile) → SameStripes x x
same_stripes x = record { version = refl; byte = refl; opener = refl }

-- call c opens stripe s, or leaves it; it does where the test is met, and only by a request on data of the gfid
pub record OpensOne (x y : FlatFile) (c s : ℕ) (on test : Bool) : Type 0 where
  pub opens : Bool
  pub here : opens ≡ true → on ≡ true
  pub opener : y.opener s ≡ cond opens (opened_by c (x.opener s)) (x.opener s)
  pub where_met : test ≡ true → opens ≡ true

pub record OpensStripes (x y : FlatFile) (c : ℕ) (on : Bool) (test : ℕ → Bool) : Type 0 where
  pub version : y.version ≡ x.version
  pub byte : y.byte ≡ x.byte
  pub each : (s : ℕ) → OpensOne x y c s on (test s)

pub opens_nowhere : (x y : FlatFile) (c : ℕ) (on : Bool) (test : ℕ → Bool) → SameStripes x y → ((s : ℕ) → test s ≡ false) → OpensStripes x y c on test
opens_nowhere x y c on test d h = record { version = d.version; byte = d.byte; each = λ s. record { opens = false; here = λ e. absurd (cc); opener = ap (λ (o : ℕ → Opener). o s) d.opener; where_met = λ e. absurd (let z = sym e ∙ h s in cc) } }

made_stripes : (kind : Kind) (flat : FlatFile) → SameStripes flat (made kind flat)
made_stripes kind flat = by flat.kind
  where
    by : (o : Option Kind) → SameStripes flat (made_from o kind flat)
    by None = record { version = refl; byte = refl; opener = refl }
    by (Some x) = same_stripes flat

module _ (geometry : Geometry) (g : ℕ) (m : Net) (t : Story) (msg : Message) where
  -- the call opens these stripes of gfid x
  opened_there : (x : ℕ) (stripes : ℕ → Bool) (on : Bool) (test : ℕ → Bool) → (x ≡ g → on ≡ true) → is_heal (op_of m msg.call) ≡ false → ((s : ℕ) → test s ≡ true → (x ≡ g) × (is_at_flat m t msg.brick g ≡ true) × (stripes s ≡ true)) → OpensStripes (t.tree g) ((opens m t msg x stripes).tree g) msg.call on test
  opened_there x stripes on test on_here plain met = by (not (is_heal (op_of m msg.call)) && is_at_flat m t msg.brick x) (g == x) refl refl
    where
      by : (c d : Bool) → (not (is_heal (op_of m msg.call)) && is_at_flat m t msg.brick x) ≡ c → (g == x) ≡ d → OpensStripes (t.tree g) ((cond c (with_flat t x (opened msg.call stripes)) t).tree g) msg.call on test
      by false d e u = record { version = refl; byte = refl; each = λ s. record { opens = false; here = λ e. absurd (cc); opener = refl; where_met = λ h. absurd (let o = met s h in let z = sym e ∙ (ap (λ (b : Bool). not b && is_at_flat m t msg.brick x) plain ∙ (ap (λ (y : ℕ). is_at_flat m t msg.brick y) o.0 ∙ o.1)) in cc) } }
      by true false e u = subst (λ (c : Bool). OpensStripes (t.tree g) (cond c (opened msg.call stripes (t.tree x)) (t.tree g)) msg.call on test) (sym u)
          (record { version = refl; byte = refl; each = λ s. record { opens = false; here = λ e. absurd (cc); opener = refl; where_met = λ h. absurd (let o = met s h in let z = sym u ∙ (ap (λ (y : ℕ). g == y) o.0 ∙ itself g) in cc) } })
      by true true e u = subst (λ (c : Bool). OpensStripes (t.tree g) (cond c (opened msg.call stripes (t.tree x)) (t.tree g)) msg.call on test) (sym u)
          (subst (λ (y : ℕ). OpensStripes (t.tree g) (opened msg.call stripes (t.tree y)) msg.call on test) (equal g x u)
          (record { version = refl; byte = refl; each = λ s. record { opens = stripes s; here = λ h. on_here (sym (equal g x u)); opener = refl; where_met = λ h. (met s h).2 } }))

  both : (t u : Bool) → (t && u) ≡ true → (t ≡ true) × (u ≡ true)
  both true u e = (refl, e)
  both false u e = absurd (cc)

  -- stripes that the machine opens by a request that is done in this way
  module _ (old : Brick) (there : Bool) (plain : is_heal (op_of m msg.call) ≡ false) where
    abbrev pub test_of : Request → ℕ → Bool
    test_of q s = (is_data g q && is_granted old q) && (stripes_written q s && there)

    abbrev pub part_of : Request → ℕ → Bool
    part_of q s = ((is_data g q && is_partial q) && is_granted old q) && (stripes_written q s && there)

    -- a cut keeps no more chunks than it leaves
    abbrev pub CutKeeps : Request → Type 0
    CutKeeps (SetLength x n keep count) = x.0 ≡ g → keep ≤ count
    CutKeeps q = Unit {0}

    cut_from : (keep count s : ℕ) → keep ≤ count → not (nat_lt s keep && nat_lt s count) ≡ true → nat_le keep s ≡ true
    cut_from keep count s le e = grind (arith, nat_tests)

    pub done_stripes : (q : Request) → is_post_on g q ≡ false → ((is_data g q && is_granted old q) ≡ true → there ≡ true → is_at_flat m t msg.brick g ≡ true) → CutKeeps q → OpensStripes (t.tree g) ((done_by geometry m t msg q).tree g) msg.call (is_data g q) (test_of q)
    done_stripes (WriteChunks x n first chunks) e h k = opened_there x.0 (is_among first (length chunks)) (x.0 == g) (test_of (WriteChunks x n first chunks)) (λ e. subst (λ (y : ℕ). (x.0 == y) ≡ true) e (itself x.0)) plain (λ s z.
        let o = both ((x.0 == g) && is_granted old (WriteChunks x n first chunks)) (is_among first (length chunks) s && there) z in
        let p = both (x.0 == g) (is_granted old (WriteChunks x n first chunks)) o.0 in
        let r = both (is_among first (length chunks) s) there o.1 in
        (equal x.0 g p.0, h o.0 r.1, r.0))
    done_stripes (SetLength x n keep count) e h k = opened_there x.0 (λ s. nat_le keep s) (x.0 == g) (test_of (SetLength x n keep count)) (λ e. subst (λ (y : ℕ). (x.0 == y) ≡ true) e (itself x.0)) plain (λ s z.
        let o = both ((x.0 == g) && is_granted old (SetLength x n keep count)) (not (nat_lt s keep && nat_lt s count) && there) z in
        let p = both (x.0 == g) (is_granted old (SetLength x n keep count)) o.0 in
        let r = both (not (nat_lt s keep && nat_lt s count)) there o.1 in
        (equal x.0 g p.0, h o.0 r.1, cut_from keep count s (k (equal x.0 g p.0)) r.0))
    done_stripes (PostOp x n at version size attr) e h k = opens_nowhere (t.tree g) _ msg.call (is_data g (PostOp x n at version size attr)) (test_of (PostOp x n at version size attr)) (post_elsewhere SameStripes same_stripes geometry g m t msg.call x.0 msg.brick version (λ z. differ x.0 g e (sym z))) (λ s. refl)
    done_stripes (Make x n child) e h k = opens_nowhere (t.tree g) _ msg.call (is_data g (Make x n child)) (test_of (Make x n child)) (seen_if SameStripes same_stripes g t child.gfid.0 (made child.kind) (made_stripes child.kind)) (λ s. refl)
    done_stripes (NameSet x n name child) e h k = opens_nowhere (t.tree g) _ msg.call (is_data g (NameSet x n name child)) (test_of (NameSet x n name child)) (tree_if SameStripes g t (with_flat t x.0 (name_opened name)) t (is_at_flat m t msg.brick x.0) (seen_if SameStripes same_stripes g t x.0 (name_opened name) (λ flat. record { version = refl; byte = refl; opener = refl })) (same_stripes (t.tree g))) (λ s. refl)
    done_stripes (Ask x domain kind) e h k = opens_nowhere (t.tree g) (t.tree g) msg.call (is_data g (Ask x domain kind)) (test_of (Ask x domain kind)) (same_stripes (t.tree g)) (λ s. refl)
    done_stripes (Release x n) e h k = opens_nowhere (t.tree g) (t.tree g) msg.call (is_data g (Release x n)) (test_of (Release x n)) (same_stripes (t.tree g)) (λ s. refl)
    done_stripes (Query x n) e h k = opens_nowhere (t.tree g) (t.tree g) msg.call (is_data g (Query x n)) (test_of (Query x n)) (same_stripes (t.tree g)) (λ s. refl)
    done_stripes (PreOp x n at dirty) e h k = opens_nowhere (t.tree g) (t.tree g) msg.call (is_data g (PreOp x n at dirty)) (test_of (PreOp x n at dirty)) (same_stripes (t.tree g)) (λ s. refl)
    done_stripes (ReadChunks x n first count) e h k = opens_nowhere (t.tree g) (t.tree g) msg.call (is_data g (ReadChunks x n first count)) (test_of (ReadChunks x n first count)) (same_stripes (t.tree g)) (λ s. refl)
    done_stripes (Clear x n at) e h k = opens_nowhere (t.tree g) (t.tree g) msg.call (is_data g (Clear x n at)) (test_of (Clear x n at)) (same_stripes (t.tree g)) (λ s. refl)
    done_stripes (NameGet x n name) e h k = opens_nowhere (t.tree g) (t.tree g) msg.call (is_data g (NameGet x n name)) (test_of (NameGet x n name)) (same_stripes (t.tree g)) (λ s. refl)
    done_stripes (NamesAfter x n start) e h k = opens_nowhere (t.tree g) (t.tree g) msg.call (is_data g (NamesAfter x n start)) (test_of (NamesAfter x n start)) (same_stripes (t.tree g)) (λ s. refl)
    done_stripes (NamesPut x n start upto list) e h k = opens_nowhere (t.tree g) (t.tree g) msg.call (is_data g (NamesPut x n start upto list)) (test_of (NamesPut x n start upto list)) (same_stripes (t.tree g)) (λ s. refl)
    done_stripes (Made x n child) e h k = opens_nowhere (t.tree g) (t.tree g) msg.call (is_data g (Made x n child)) (test_of (Made x n child)) (same_stripes (t.tree g)) (λ s. refl)
    done_stripes (Unmake x n child) e h k = opens_nowhere (t.tree g) (t.tree g) msg.call (is_data g (Unmake x n child)) (test_of (Unmake x n child)) (same_stripes (t.tree g)) (λ s. refl)
    done_stripes (Mark x n heal head) e h k = opens_nowhere (t.tree g) (t.tree g) msg.call (is_data g (Mark x n heal head)) (test_of (Mark x n heal head)) (same_stripes (t.tree g)) (λ s. refl)
    done_stripes (Unmark x n at dirty) e h k = opens_nowhere (t.tree g) (t.tree g) msg.call (is_data g (Unmark x n at dirty)) (test_of (Unmark x n at dirty)) (same_stripes (t.tree g)) (λ s. refl)
    done_stripes (GfidsAfter start dirty) e h k = opens_nowhere (t.tree g) (t.tree g) msg.call (is_data g (GfidsAfter start dirty)) (test_of (GfidsAfter start dirty)) (same_stripes (t.tree g)) (λ s. refl)

    outside : (c d u : Bool) → (((c && false) && d) && u) ≡ false
    outside true d u = refl
    outside false d u = refl

    -- one in whose work the store failed
    pub failed_stripes : (q : Request) (v : ℕ) → (((is_data g q && is_partial q) && is_granted old q) ≡ true → there ≡ true → is_at_flat m t msg.brick g ≡ true) → OpensStripes (t.tree g) ((failed_by m t msg q (Some v)).tree g) msg.call (is_data g q) (part_of q)
    failed_stripes (WriteChunks x n first chunks) v h = opened_there x.0 (is_among first (length chunks)) (x.0 == g) (part_of (WriteChunks x n first chunks)) (λ e. subst (λ (y : ℕ). (x.0 == y) ≡ true) e (itself x.0)) plain (λ s z.
        let o = both (((x.0 == g) && true) && is_granted old (WriteChunks x n first chunks)) (is_among first (length chunks) s && there) z in
        let p = both ((x.0 == g) && true) (is_granted old (WriteChunks x n first chunks)) o.0 in
        let r = both (is_among first (length chunks) s) there o.1 in
        (equal x.0 g (both (x.0 == g) true p.0).0, h o.0 r.1, r.0))
    failed_stripes (SetLength x n keep count) v h = opens_nowhere (t.tree g) (t.tree g) msg.call (is_data g (SetLength x n keep count)) (part_of (SetLength x n keep count)) (same_stripes (t.tree g)) (λ s. outside (x.0 == g) (is_granted old (SetLength x n keep count)) (not (nat_lt s keep && nat_lt s count) && there))
    failed_stripes (Ask x domain kind) v h = opens_nowhere (t.tree g) (t.tree g) msg.call (is_data g (Ask x domain kind)) (part_of (Ask x domain kind)) (same_stripes (t.tree g)) (λ s. refl)
    failed_stripes (Release x n) v h = opens_nowhere (t.tree g) (t.tree g) msg.call (is_data g (Release x n)) (part_of (Release x n)) (same_stripes (t.tree g)) (λ s. refl)
    failed_stripes (Query x n) v h = opens_nowhere (t.tree g) (t.tree g) msg.call (is_data g (Query x n)) (part_of (Query x n)) (same_stripes (t.tree g)) (λ s. refl)
    failed_stripes (PreOp x n at dirty) v h = opens_nowhere (t.tree g) (t.tree g) msg.call (is_data g (PreOp x n at dirty)) (part_of (PreOp x n at dirty)) (same_stripes (t.tree g)) (λ s. refl)
    failed_stripes (ReadChunks x n first count) v h = opens_nowhere (t.tree g) (t.tree g) msg.call (is_data g (ReadChunks x n first count)) (part_of (ReadChunks x n first count)) (same_stripes (t.tree g)) (λ s. refl)
    failed_stripes (PostOp x n at version size attr) v h = opens_nowhere (t.tree g) (t.tree g) msg.call (is_data g (PostOp x n at version size attr)) (part_of (PostOp x n at version size attr)) (same_stripes (t.tree g)) (λ s. refl)
    failed_stripes (Clear x n at) v h = opens_nowhere (t.tree g) (t.tree g) msg.call (is_data g (Clear x n at)) (part_of (Clear x n at)) (same_stripes (t.tree g)) (λ s. refl)
    failed_stripes (NameGet x n name) v h = opens_nowhere (t.tree g) (t.tree g) msg.call (is_data g (NameGet x n name)) (part_of (NameGet x n name)) (same_stripes (t.tree g)) (λ s. refl)
    failed_stripes (NamesAfter x n start) v h = opens_nowhere (t.tree g) (t.tree g) msg.call (is_data g (NamesAfter x n start)) (part_of (NamesAfter x n start)) (same_stripes (t.tree g)) (λ s. refl)
    failed_stripes (NameSet x n name child) v h = opens_nowhere (t.tree g) (t.tree g) msg.call (is_data g (NameSet x n name child)) (part_of (NameSet x n name child)) (same_stripes (t.tree g)) (λ s. refl)
    failed_stripes (NamesPut x n start upto list) v h = opens_nowhere (t.tree g) (t.tree g) msg.call (is_data g (NamesPut x n start upto list)) (part_of (NamesPut x n start upto list)) (same_stripes (t.tree g)) (λ s. refl)
    failed_stripes (Make x n child) v h = opens_nowhere (t.tree g) (t.tree g) msg.call (is_data g (Make x n child)) (part_of (Make x n child)) (same_stripes (t.tree g)) (λ s. refl)
    failed_stripes (Made x n child) v h = opens_nowhere (t.tree g) (t.tree g) msg.call (is_data g (Made x n child)) (part_of (Made x n child)) (same_stripes (t.tree g)) (λ s. refl)
    failed_stripes (Unmake x n child) v h = opens_nowhere (t.tree g) (t.tree g) msg.call (is_data g (Unmake x n child)) (part_of (Unmake x n child)) (same_stripes (t.tree g)) (λ s. refl)
    failed_stripes (Mark x n heal head) v h = opens_nowhere (t.tree g) (t.tree g) msg.call (is_data g (Mark x n heal head)) (part_of (Mark x n heal head)) (same_stripes (t.tree g)) (λ s. refl)
    failed_stripes (Unmark x n at dirty) v h = opens_nowhere (t.tree g) (t.tree g) msg.call (is_data g (Unmark x n at dirty)) (part_of (Unmark x n at dirty)) (same_stripes (t.tree g)) (λ s. refl)
    failed_stripes (GfidsAfter start dirty) v h = opens_nowhere (t.tree g) (t.tree g) msg.call (is_data g (GfidsAfter start dirty)) (part_of (GfidsAfter start dirty)) (same_stripes (t.tree g)) (λ s. refl)

    pub unread_stripes : (q : Request) → OpensStripes (t.tree g) ((failed_by m t msg q None).tree g) msg.call (is_data g q) (λ s. false)
    unread_stripes (Ask x domain kind) = opens_nowhere (t.tree g) (t.tree g) msg.call (is_data g (Ask x domain kind)) (λ s. false) (same_stripes (t.tree g)) (λ s. refl)
    unread_stripes (Release x n) = opens_nowhere (t.tree g) (t.tree g) msg.call (is_data g (Release x n)) (λ s. false) (same_stripes (t.tree g)) (λ s. refl)
    unread_stripes (Query x n) = opens_nowhere (t.tree g) (t.tree g) msg.call (is_data g (Query x n)) (λ s. false) (same_stripes (t.tree g)) (λ s. refl)
    unread_stripes (PreOp x n at dirty) = opens_nowhere (t.tree g) (t.tree g) msg.call (is_data g (PreOp x n at dirty)) (λ s. false) (same_stripes (t.tree g)) (λ s. refl)
    unread_stripes (ReadChunks x n first count) = opens_nowhere (t.tree g) (t.tree g) msg.call (is_data g (ReadChunks x n first count)) (λ s. false) (same_stripes (t.tree g)) (λ s. refl)
    unread_stripes (WriteChunks x n first chunks) = opens_nowhere (t.tree g) (t.tree g) msg.call (is_data g (WriteChunks x n first chunks)) (λ s. false) (same_stripes (t.tree g)) (λ s. refl)
    unread_stripes (SetLength x n keep count) = opens_nowhere (t.tree g) (t.tree g) msg.call (is_data g (SetLength x n keep count)) (λ s. false) (same_stripes (t.tree g)) (λ s. refl)
    unread_stripes (PostOp x n at version size attr) = opens_nowhere (t.tree g) (t.tree g) msg.call (is_data g (PostOp x n at version size attr)) (λ s. false) (same_stripes (t.tree g)) (λ s. refl)
    unread_stripes (Clear x n at) = opens_nowhere (t.tree g) (t.tree g) msg.call (is_data g (Clear x n at)) (λ s. false) (same_stripes (t.tree g)) (λ s. refl)
    unread_stripes (NameGet x n name) = opens_nowhere (t.tree g) (t.tree g) msg.call (is_data g (NameGet x n name)) (λ s. false) (same_stripes (t.tree g)) (λ s. refl)
    unread_stripes (NamesAfter x n start) = opens_nowhere (t.tree g) (t.tree g) msg.call (is_data g (NamesAfter x n start)) (λ s. false) (same_stripes (t.tree g)) (λ s. refl)
    unread_stripes (NameSet x n name child) = opens_nowhere (t.tree g) (t.tree g) msg.call (is_data g (NameSet x n name child)) (λ s. false) (same_stripes (t.tree g)) (λ s. refl)
    unread_stripes (NamesPut x n start upto list) = opens_nowhere (t.tree g) (t.tree g) msg.call (is_data g (NamesPut x n start upto list)) (λ s. false) (same_stripes (t.tree g)) (λ s. refl)
    unread_stripes (Make x n child) = opens_nowhere (t.tree g) (t.tree g) msg.call (is_data g (Make x n child)) (λ s. false) (same_stripes (t.tree g)) (λ s. refl)
    unread_stripes (Made x n child) = opens_nowhere (t.tree g) (t.tree g) msg.call (is_data g (Made x n child)) (λ s. false) (same_stripes (t.tree g)) (λ s. refl)
    unread_stripes (Unmake x n child) = opens_nowhere (t.tree g) (t.tree g) msg.call (is_data g (Unmake x n child)) (λ s. false) (same_stripes (t.tree g)) (λ s. refl)
    unread_stripes (Mark x n heal head) = opens_nowhere (t.tree g) (t.tree g) msg.call (is_data g (Mark x n heal head)) (λ s. false) (same_stripes (t.tree g)) (λ s. refl)
    unread_stripes (Unmark x n at dirty) = opens_nowhere (t.tree g) (t.tree g) msg.call (is_data g (Unmark x n at dirty)) (λ s. false) (same_stripes (t.tree g)) (λ s. refl)
    unread_stripes (GfidsAfter start dirty) = opens_nowhere (t.tree g) (t.tree g) msg.call (is_data g (GfidsAfter start dirty)) (λ s. false) (same_stripes (t.tree g)) (λ s. refl)

  -- one that was torn
  module _ (there : Bool) (plain : is_heal (op_of m msg.call) ≡ false) where
    pub torn_stripes : (q : Request) (count v : ℕ) → HasBytes q count → (((is_data g q && is_partial q) && is_granted (m.brick msg.brick) q) ≡ true → there ≡ true → is_at_flat m t msg.brick g ≡ true) → OpensStripes (t.tree g) ((torn_by m t msg q (Some v)).tree g) msg.call (is_data g q) (part_of (m.brick msg.brick) there plain q)
    torn_stripes (WriteChunks x n first chunks) count v bytes h = by (holds (m.brick msg.brick).asks n x Inode Exclusive) refl
      where
        by : (c : Bool) → holds (m.brick msg.brick).asks n x Inode Exclusive ≡ c → OpensStripes (t.tree g) ((cond c (opens m t msg x.0 (is_among first (length chunks))) t).tree g) msg.call (x.0 == g) (part_of (m.brick msg.brick) there plain (WriteChunks x n first chunks))
        by true e = failed_stripes (m.brick msg.brick) there plain (WriteChunks x n first chunks) v h
        by false e = opens_nowhere (t.tree g) (t.tree g) msg.call (x.0 == g) (part_of (m.brick msg.brick) there plain (WriteChunks x n first chunks)) (same_stripes (t.tree g)) (λ s. ap (λ (c : Bool). (((x.0 == g) && true) && c) && (is_among first (length chunks) s && there)) e ∙ away ((x.0 == g) && true) (is_among first (length chunks) s && there))
          where
            away : (c d : Bool) → ((c && false) && d) ≡ false
            away true d = refl
            away false d = refl
    torn_stripes (Ask x domain kind) most v bytes h = absurd bytes
    torn_stripes (Release x n) most v bytes h = absurd bytes
    torn_stripes (Query x n) most v bytes h = absurd bytes
    torn_stripes (PreOp x n at dirty) most v bytes h = absurd bytes
    torn_stripes (ReadChunks x n first count) most v bytes h = absurd bytes
    torn_stripes (SetLength x n keep count) most v bytes h = absurd bytes
    torn_stripes (PostOp x n at version size attr) most v bytes h = absurd bytes
    torn_stripes (Clear x n at) most v bytes h = absurd bytes
    torn_stripes (NameGet x n name) most v bytes h = absurd bytes
    torn_stripes (NamesAfter x n start) most v bytes h = absurd bytes
    torn_stripes (NameSet x n name child) most v bytes h = absurd bytes
    torn_stripes (NamesPut x n start upto list) most v bytes h = absurd bytes
    torn_stripes (Make x n child) most v bytes h = absurd bytes
    torn_stripes (Made x n child) most v bytes h = absurd bytes
    torn_stripes (Unmake x n child) most v bytes h = absurd bytes
    torn_stripes (Mark x n heal head) most v bytes h = absurd bytes
    torn_stripes (Unmark x n at dirty) most v bytes h = absurd bytes
    torn_stripes (GfidsAfter start dirty) most v bytes h = absurd bytes

    pub unread_torn : (q : Request) (count : ℕ) → HasBytes q count → OpensStripes (t.tree g) ((torn_by m t msg q None).tree g) msg.call (is_data g q) (λ s. false)
    unread_torn (WriteChunks x n first chunks) count bytes = opens_nowhere (t.tree g) (t.tree g) msg.call (is_data g (WriteChunks x n first chunks)) (λ s. false) (same_stripes (t.tree g)) (λ s. refl)
    unread_torn (Ask x domain kind) most bytes = absurd bytes
    unread_torn (Release x n) most bytes = absurd bytes
    unread_torn (Query x n) most bytes = absurd bytes
    unread_torn (PreOp x n at dirty) most bytes = absurd bytes
    unread_torn (ReadChunks x n first count) most bytes = absurd bytes
    unread_torn (SetLength x n keep count) most bytes = absurd bytes
    unread_torn (PostOp x n at version size attr) most bytes = absurd bytes
    unread_torn (Clear x n at) most bytes = absurd bytes
    unread_torn (NameGet x n name) most bytes = absurd bytes
    unread_torn (NamesAfter x n start) most bytes = absurd bytes
    unread_torn (NameSet x n name child) most bytes = absurd bytes
    unread_torn (NamesPut x n start upto list) most bytes = absurd bytes
    unread_torn (Make x n child) most bytes = absurd bytes
    unread_torn (Made x n child) most bytes = absurd bytes
    unread_torn (Unmake x n child) most bytes = absurd bytes
    unread_torn (Mark x n heal head) most bytes = absurd bytes
    unread_torn (Unmark x n at dirty) most bytes = absurd bytes
    unread_torn (GfidsAfter start dirty) most bytes = absurd bytes
