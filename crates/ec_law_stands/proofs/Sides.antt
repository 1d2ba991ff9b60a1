-- The two sides of a gfid: the names of a directory, and the stripes of a file.
use Rattle.std.proofs.Common.{◌≡◌, ℕ, Bool, true, false, cond, ◌==◌, ◌&&◌, Option, Some, None, List, [], ◌∷◌, length, refl, sym, ◌∙◌, subst}
use Rattle.std.specs.Cmp.Lexicographic.{slice_cmp}
use Rattle.std.specs.BTreeMap.{is_at}
use Rattle.std.specs.Ordering.{nat_cmp}
use Rattle.ec_attr.specs.declared.head.Head.{Head}
use Rattle.ec_attr.specs.declared.kind.Child.{Child}
use Rattle.ec_attr.specs.declared.kind.Kind.{Kind}
use Rattle.ec_attr.specs.declared.kind.Kind.TheVariants.{Dir, File}
use Rattle.ec_conduct.specs.Account.{Account, gfid_of}
use Rattle.ec_conduct.specs.Done.{is_change}
use Rattle.ec_conduct.specs.Changes.{IsAllOf, are, cuts, is_child, is_nothing, makes, sets, writes}
use Rattle.ec_brick.specs.declared.row.Need.TheVariants.{Writing, Healing, Either}
use Rattle.ec_brick.specs.declared.row.Check.TheVariants.{OfKind, Content}
use Rattle.ec_history.specs.Changes.{Found, change}
use Rattle.ec_history.specs.Flat.{Flat, Opener, committed, made_from, opened_by}
use Rattle.ec_history.specs.Flat.Opener.{Nobody, One, Several}
use Rattle.ec_store.specs.Records.{Record}
use Rattle.ec_wire.specs.declared.op.Op.{Op}
use Rattle.ec_wire.specs.declared.op.Op.TheVariants.{Write, Truncate, Read, Stat, Create, Mkdir, Unlink, Lookup, Readdir, Heal, SetAttr, GetAttr, Rename, Rmdir, Scrub, Sweep}
use Rattle.ec_wire.specs.declared.request.Request.{Request}
use Rattle.ec_wire.specs.declared.request.Request.TheVariants.{WriteChunks, SetLength, NameSet, NamesPut}
use Rattle.ec_law_net.proofs.Guarded.{own_row}
use Rattle.ec_law_turns.proofs.Basics.{equal, itself, some_is}
use Rattle.ec_law_data.specs.Forms.{is_data, is_naming}
use Rattle.ec_law_flats.specs.Plans.{is_unbuilt}
use Rattle.ec_law_plans.proofs.Windows.{RequestsOn}
use Rattle.ec_law_writes.specs.Guarding.{changes_on}
use Rattle.ec_law_stands.proofs.Flats.{IsKept}
use Rattle.ec_law_stands.proofs.Parts.{IsChecked, IsPart}
use Rattle.ec_law_stands.proofs.Still.{IsSide}

not_itself : {X : Type 0} (x : ℕ) → (x == x) ≡ false → X
not_itself x e = absurd (let z = sym (itself x) ∙ e in cc)

both_true : (t u : Bool) → (t && u) ≡ true → t ≡ true
both_true true u e = refl
both_true false u e = absurd (cc)

on_itself : (x : ℕ) (g : ℕ) → Some x ≡ Some g → (x == g) ≡ true
on_itself x g e = subst (λ (y : ℕ). (x == y) ≡ true) (some_is x g e) (itself x)

-- ## Names

abbrev pub Names : Type 0
Names = List ℕ → Option Child

abbrev pub names_of : Record → Names
names_of r = r.names

abbrev pub no_names : Names
no_names n = None

-- the ops that set names
abbrev pub touches_names : Op → Bool
touches_names (Create dir own) = true
touches_names (Mkdir dir own) = true
touches_names (Unlink dir own) = true
touches_names (Rmdir dir own) = true
touches_names (Rename from_dir from_name to_dir to_name) = true
touches_names op = false

naming_checked : (g : ℕ) (q : Request) → is_naming g q ≡ true → IsChecked Dir g q
naming_checked g (NameSet x n name child) e = record { row = own_row x n Writing (OfKind Dir); row_is = refl; subject = equal x.0 g e; needs = refl; runs = λ s f client number. refl }
naming_checked g (NamesPut x n start upto list) e = record { row = own_row x n Healing (Content Dir); row_is = refl; subject = equal x.0 g e; needs = refl; runs = λ s f client number. refl }
naming_checked g q e = absurd (cc)

names_part : IsPart names_of no_names is_naming Dir
names_part = record {
  checked = naming_checked;
  with_head = λ r h. refl;
  new = λ h. refl;
  bytes = λ x n first chunks r at bs e. refl;
  unset = λ x n first chunks r at count e. refl;
  cut = λ x n keep count r e. refl;
  name = λ x n name child r e. not_itself x.0 e;
  names = λ x n start upto list r e. not_itself x.0 e;
}

-- a request that sets a name
set_naming : (name : List ℕ) (test : Option Child → Bool) (g : ℕ) (r : Request) → sets name test r ≡ true → gfid_of r ≡ Some g → is_naming g r ≡ true
set_naming name test g (NameSet x i entry child) e on = on_itself x.0 g on
set_naming name test g r e on = absurd (cc)

-- the first change of a commit, where it passes a test
first_change : (changes : Request → Bool) (test : Request → Bool) (tests : List (Request → Bool)) (g : ℕ) (rs : List Request) → ((r : Request) → test r ≡ true → gfid_of r ≡ Some g → changes r ≡ true) → are (test ∷ tests) rs ≡ true → RequestsOn g rs → (q : Request) × (qs : List Request) × (rs ≡ q ∷ qs) × (changes q ≡ true)
first_change changes test tests g [] told e on = absurd (cc)
first_change changes test tests g (r ∷ rs) told e on = (r, rs, refl, told r (both_true (test r) (are tests rs) e) on.0)

names_first : (op : Op) (c : Account) (g : ℕ) (head : Head) (rs : List Request) → is_unbuilt op ≡ false → touches_names op ≡ true → IsAllOf c g head op rs → RequestsOn g rs → (q : Request) × (qs : List Request) × (rs ≡ q ∷ qs) × (is_naming g q ≡ true)
names_first (Create dir own) c g head rs built touches all on = first_change (is_naming g) (sets own (is_child File c.given.child)) (makes (is_child File c.given.child) ∷ []) g rs (set_naming own (is_child File c.given.child) g) all.1 on
names_first (Mkdir dir own) c g head rs built touches all on = first_change (is_naming g) (sets own (is_child Dir c.given.child)) (makes (is_child Dir c.given.child) ∷ []) g rs (set_naming own (is_child Dir c.given.child) g) all.1 on
names_first (Unlink dir own) c g head rs built touches all on = first_change (is_naming g) (sets own is_nothing) [] g rs (set_naming own is_nothing g) all.1 on
names_first op c g head rs built touches all on = absurd (cc)

naming_changes : (g : ℕ) (q : Request) → is_change q ≡ true → is_naming g q ≡ true → changes_on g q ≡ true
naming_changes g (NameSet x n name child) change e = e
naming_changes g (NamesPut x n start upto list) change e = absurd (cc)
naming_changes g q change e = absurd (cc)

-- each name that is closed was closed, and leads to the same child
pub record NamesKept (old now : Flat) : Type 0 where
  pub shut : (n : List ℕ) → now.is_name_open n ≡ false → old.is_name_open n ≡ false
  pub child : (n : List ℕ) → now.child n ≡ old.child n

names_kept : IsKept NamesKept
names_kept = record {
  same = λ flat. record { shut = λ n e. e; child = λ n. refl };
  opening = λ a test flat. record { shut = λ n e. e; child = λ n. refl };
  naming = λ n flat. record { shut = λ m e. shut (is_at (slice_cmp nat_cmp n) m) (flat.is_name_open m) e; child = λ m. refl };
  making = λ kind flat. record { shut = λ n e. sym (made_open flat.kind kind flat n) ∙ e; child = λ n. made_child flat.kind kind flat n };
}
  where
    shut : (t u : Bool) → cond t true u ≡ false → u ≡ false
    shut true u e = absurd (cc)
    shut false u e = e

    made_open : (o : Option Kind) (kind : Kind) (flat : Flat) (n : List ℕ) → (made_from o kind flat).is_name_open n ≡ flat.is_name_open n
    made_open None kind flat n = refl
    made_open (Some k) kind flat n = refl

    made_child : (o : Option Kind) (kind : Kind) (flat : Flat) (n : List ℕ) → (made_from o kind flat).child n ≡ flat.child n
    made_child None kind flat n = refl
    made_child (Some k) kind flat n = refl

names_commit : (k a version g : ℕ) (op : Op) (found : Found) (flat : Flat) → touches_names op ≡ false → NamesKept flat (committed k a version (change k op found g flat) flat)
names_commit k a version g (Write x off bytes) found flat e = record { shut = λ n e. e; child = λ n. refl }
names_commit k a version g (Truncate x size) found flat e = record { shut = λ n e. e; child = λ n. refl }
names_commit k a version g (Read x off len via) found flat e = record { shut = λ n e. e; child = λ n. refl }
names_commit k a version g (Stat x) found flat e = record { shut = λ n e. e; child = λ n. refl }
names_commit k a version g (Lookup dir own) found flat e = record { shut = λ n e. e; child = λ n. refl }
names_commit k a version g (Readdir x) found flat e = record { shut = λ n e. e; child = λ n. refl }
names_commit k a version g (Heal x) found flat e = record { shut = λ n e. e; child = λ n. refl }
names_commit k a version g (SetAttr x attr) found flat e = record { shut = λ n e. e; child = λ n. refl }
names_commit k a version g (GetAttr x) found flat e = record { shut = λ n e. e; child = λ n. refl }
names_commit k a version g (Scrub x settle) found flat e = record { shut = λ n e. e; child = λ n. refl }
names_commit k a version g (Sweep full) found flat e = record { shut = λ n e. e; child = λ n. refl }
names_commit k a version g (Create dir own) found flat e = absurd (cc)
names_commit k a version g (Mkdir dir own) found flat e = absurd (cc)
names_commit k a version g (Unlink dir own) found flat e = absurd (cc)
names_commit k a version g (Rmdir dir own) found flat e = absurd (cc)
names_commit k a version g (Rename from_dir from_name to_dir to_name) found flat e = absurd (cc)

pub names_side : IsSide names_of no_names is_naming Dir touches_names NamesKept
names_side = record {
  is_part = names_part;
  touch = record { first = names_first; change = naming_changes };
  kept = names_kept;
  joined = λ x y z h k. record { shut = λ n e. h.shut n (k.shut n e); child = λ n. k.child n ∙ h.child n };
  commits = names_commit;
}

-- ## Stripes

abbrev pub Pieces : Type 0
Pieces = ℕ → ℕ → Option ℕ

abbrev pub pieces_of : Record → Pieces
pieces_of r = r.piece

abbrev pub zero_pieces : Pieces
zero_pieces s i = Some 0

-- the ops that change stripes
abbrev pub touches_stripes : Op → Bool
touches_stripes (Write x off bytes) = true
touches_stripes (Truncate x size) = true
touches_stripes (Scrub x settle) = true
touches_stripes op = false

data_checked : (g : ℕ) (q : Request) → is_data g q ≡ true → IsChecked File g q
data_checked g (WriteChunks x n first chunks) e = record { row = own_row x n Either (Content File); row_is = refl; subject = equal x.0 g e; needs = refl; runs = λ s f client number. refl }
data_checked g (SetLength x n keep count) e = record { row = own_row x n Either (Content File); row_is = refl; subject = equal x.0 g e; needs = refl; runs = λ s f client number. refl }
data_checked g q e = absurd (cc)

pieces_part : IsPart pieces_of zero_pieces is_data File
pieces_part = record {
  checked = data_checked;
  with_head = λ r h. refl;
  new = λ h. refl;
  bytes = λ x n first chunks r at bs e. not_itself x.0 e;
  unset = λ x n first chunks r at count e. not_itself x.0 e;
  cut = λ x n keep count r e. not_itself x.0 e;
  name = λ x n name child r e. refl;
  names = λ x n start upto list r e. refl;
}

write_data : (first count g : ℕ) (r : Request) → writes first count r ≡ true → gfid_of r ≡ Some g → is_data g r ≡ true
write_data first count g (WriteChunks x i from chunks) e on = on_itself x.0 g on
write_data first count g r e on = absurd (cc)

cut_data : (keep count g : ℕ) (r : Request) → cuts keep count r ≡ true → gfid_of r ≡ Some g → is_data g r ≡ true
cut_data keep count g (SetLength x i from length) e on = on_itself x.0 g on
cut_data keep count g r e on = absurd (cc)

stripes_first : (op : Op) (c : Account) (g : ℕ) (head : Head) (rs : List Request) → is_unbuilt op ≡ false → touches_stripes op ≡ true → IsAllOf c g head op rs → RequestsOn g rs → (q : Request) × (qs : List Request) × (rs ≡ q ∷ qs) × (is_data g q ≡ true)
stripes_first (Write x off bytes) c g head rs built touches all on = first_change (is_data g) (writes _ _) [] g rs (write_data _ _ g) all.2 on
stripes_first (Truncate x size) c g head rs built touches all on = first_change (is_data g) (cuts _ _) _ g rs (cut_data _ _ g) all.1 on
stripes_first op c g head rs built touches all on = absurd (cc)

data_changes : (g : ℕ) (q : Request) → is_change q ≡ true → is_data g q ≡ true → changes_on g q ≡ true
data_changes g (WriteChunks x n first chunks) change e = e
data_changes g (SetLength x n keep count) change e = e
data_changes g q change e = absurd (cc)

-- each stripe that is closed was closed, and each byte is as it was
pub record StripesKept (old now : Flat) : Type 0 where
  pub shut : (s : ℕ) → now.opener s ≡ Nobody → old.opener s ≡ Nobody
  pub byte : (p : ℕ) → now.byte p ≡ old.byte p

opened_is : (a : ℕ) (o : Opener) → opened_by a o ≡ Nobody → ⊥
opened_is a Nobody e = cc
opened_is a (One b) e = by (b == a) e
  where
    by : (t : Bool) → cond t (One b) Several ≡ Nobody → ⊥
    by true e = cc
    by false e = cc
opened_is a Several e = cc

stripes_kept : IsKept StripesKept
stripes_kept = record {
  same = λ flat. record { shut = λ s e. e; byte = λ p. refl };
  opening = λ a test flat. record { shut = λ s e. shut a (test s) (flat.opener s) e; byte = λ p. refl };
  naming = λ n flat. record { shut = λ s e. e; byte = λ p. refl };
  making = λ kind flat. record { shut = λ s e. sym (made_opener flat.kind kind flat s) ∙ e; byte = λ p. made_byte flat.kind kind flat p };
}
  where
    shut : (a : ℕ) (t : Bool) (o : Opener) → cond t (opened_by a o) o ≡ Nobody → o ≡ Nobody
    shut a true o e = absurd (opened_is a o e)
    shut a false o e = e

    made_opener : (o : Option Kind) (kind : Kind) (flat : Flat) (s : ℕ) → (made_from o kind flat).opener s ≡ flat.opener s
    made_opener None kind flat s = refl
    made_opener (Some k) kind flat s = refl

    made_byte : (o : Option Kind) (kind : Kind) (flat : Flat) (p : ℕ) → (made_from o kind flat).byte p ≡ flat.byte p
    made_byte None kind flat p = refl
    made_byte (Some k) kind flat p = refl

stripes_commit : (k a version g : ℕ) (op : Op) (found : Found) (flat : Flat) → touches_stripes op ≡ false → StripesKept flat (committed k a version (change k op found g flat) flat)
stripes_commit k a version g (Write x off bytes) found flat e = absurd (cc)
stripes_commit k a version g (Truncate x size) found flat e = absurd (cc)
stripes_commit k a version g (Scrub x settle) found flat e = absurd (cc)
stripes_commit k a version g (Read x off len via) found flat e = record { shut = λ s e. e; byte = λ p. refl }
stripes_commit k a version g (Stat x) found flat e = record { shut = λ s e. e; byte = λ p. refl }
stripes_commit k a version g (Lookup dir own) found flat e = record { shut = λ s e. e; byte = λ p. refl }
stripes_commit k a version g (Readdir x) found flat e = record { shut = λ s e. e; byte = λ p. refl }
stripes_commit k a version g (Heal x) found flat e = record { shut = λ s e. e; byte = λ p. refl }
stripes_commit k a version g (SetAttr x attr) found flat e = record { shut = λ s e. e; byte = λ p. refl }
stripes_commit k a version g (GetAttr x) found flat e = record { shut = λ s e. e; byte = λ p. refl }
stripes_commit k a version g (Sweep full) found flat e = record { shut = λ s e. e; byte = λ p. refl }
stripes_commit k a version g (Create dir own) found flat e = record { shut = λ s e. e; byte = λ p. refl }
stripes_commit k a version g (Mkdir dir own) found flat e = record { shut = λ s e. e; byte = λ p. refl }
stripes_commit k a version g (Unlink dir own) found flat e = record { shut = λ s e. e; byte = λ p. refl }
stripes_commit k a version g (Rmdir dir own) found flat e = record { shut = λ s e. e; byte = λ p. refl }
stripes_commit k a version g (Rename from_dir from_name to_dir to_name) found flat e = record { shut = λ s e. e; byte = λ p. refl }

pub stripes_side : IsSide pieces_of zero_pieces is_data File touches_stripes StripesKept
stripes_side = record {
  is_part = pieces_part;
  touch = record { first = stripes_first; change = data_changes };
  kept = stripes_kept;
  joined = λ x y z h k. record { shut = λ s e. h.shut s (k.shut s e); byte = λ p. k.byte p ∙ h.byte p };
  commits = stripes_commit;
}
