-- What the commit of each call makes of the flat file, by what the call asked for.
use Rattle.std.specs.Prelude.{ℕ, ◌+◌, ◌-◌, Bool, false, cond, ◌==◌, ◌&&◌, nat_lt, nat_le, min, max, Option, Some, None, List, [], ◌∷◌, ◌++◌, length, slice_index}
use Rattle.ec_attr.specs.declared.gfid.Gfid.{Gfid}
use Rattle.ec_attr.specs.declared.kind.Child.{Child}
use Rattle.ec_attr.specs.declared.kind.Kind.TheVariants.{File, Dir}
use Rattle.ec_wire.specs.declared.op.Op.{Op}
use Rattle.ec_wire.specs.declared.op.Op.TheVariants.{Write, Truncate, Read, Stat, Create, Mkdir, Unlink, Lookup, Readdir, Heal, SetAttr, GetAttr, Rename, Rmdir, Scrub, Sweep}
use Rattle.ec_conduct.specs.Done.{or_else}
use Rattle.ec_history.specs.Flat.{Change, Flat, stripe_of}

-- the byte that a range from `off` on has at a place
abbrev pub in_range : ℕ → List ℕ → ℕ → Option ℕ
in_range off bytes p = cond (nat_le off p && nat_lt p (off + length bytes)) (Some (slice_index bytes (p - off))) None

-- zeros from a place on
abbrev pub zeros_from : ℕ → ℕ → Option ℕ
zeros_from c p = cond (nat_le c p) (Some 0) None

-- no stripe and no name, the same size: the commit of a heal, which touches the versions alone
abbrev pub touch : Flat → Change
touch flat = record { covers = λ s. false; sets = λ p. None; size = flat.size; attr = None; names = [] }

-- The stripes that the range touches; in them its bytes, and zeros at or past the old size.
abbrev pub writes : ℕ → ℕ → List ℕ → Flat → Change
writes k off bytes flat = record (touch flat) {
  covers = λ s. nat_lt 0 (length bytes) && nat_le (stripe_of k off) s && nat_le s (stripe_of k (off + length bytes - 1));
  sets = λ p. or_else (in_range off bytes p) (zeros_from flat.size p);
  size = max flat.size (off + length bytes);
}

-- With c the lesser of the old and the new size: every stripe with a byte at or past c; in them zeros from c on.
abbrev pub truncates : ℕ → ℕ → Flat → Change
truncates k size flat = record (touch flat) {
  covers = λ s. nat_le (stripe_of k (min size flat.size)) s;
  sets = zeros_from (min size flat.size);
  size = size;
}

-- The stripes that it rewrote; in them zeros at or past the size.
abbrev pub scrubs : (ℕ → Bool) → Flat → Change
scrubs rewrote flat = record (touch flat) { covers = rewrote; sets = zeros_from flat.size }

abbrev pub names : List (List ℕ × Option Child) → Flat → Change
names list flat = record (touch flat) { names = list }

-- What a call knows by its commit, beside what it asked for: the gfid that it took for its child, the child that it
-- renames, and the stripes that it rewrote.
pub record Found : Type 0 where
  pub took : ℕ
  pub renames : Option Child
  pub rewrote : ℕ → Bool

-- in a rename's new directory the new name leads to the child, in the old one the old name to none
abbrev pub renamed : Gfid → List ℕ → Gfid → List ℕ → Option Child → ℕ → List (List ℕ × Option Child)
renamed from_dir from_name to_dir to_name child g =
    cond (g == to_dir.0) ((to_name, child) ∷ []) [] ++ cond (g == from_dir.0) ((from_name, None) ∷ []) []

-- What the commit of a call makes of gfid g.
abbrev pub change : ℕ → Op → Found → ℕ → Flat → Change
change k (Write gfid off bytes) found g flat = writes k off bytes flat
change k (Truncate gfid size) found g flat = truncates k size flat
change k (Read gfid off len via) found g flat = touch flat
change k (Stat gfid) found g flat = touch flat
change k (Create parent name) found g flat = names ((name, Some (record { kind = File; gfid = record { 0 = found.took } })) ∷ []) flat
change k (Mkdir parent name) found g flat = names ((name, Some (record { kind = Dir; gfid = record { 0 = found.took } })) ∷ []) flat
change k (Unlink parent name) found g flat = names ((name, None) ∷ []) flat
change k (Lookup parent name) found g flat = touch flat
change k (Readdir gfid) found g flat = touch flat
change k (Heal gfid) found g flat = touch flat
change k (SetAttr gfid attr) found g flat = record (touch flat) { attr = Some attr }
change k (GetAttr gfid) found g flat = touch flat
change k (Rename from_dir from_name to_dir to_name) found g flat = names (renamed from_dir from_name to_dir to_name found.renames g) flat
change k (Rmdir parent name) found g flat = names ((name, None) ∷ []) flat
change k (Scrub gfid settle) found g flat = scrubs found.rewrote flat
change k (Sweep full) found g flat = touch flat
