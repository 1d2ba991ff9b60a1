-- What the plans and the requests of a log have to be so that the machine of a file has the stripes of the flat file.
use Rattle.std.specs.Prelude.{◌≡◌, ℕ, ◌+◌, ◌*◌, ◌<◌, ◌≤◌, Bool, true, cond, nat_lt, ◌⊎◌, Option, Some, None, List, [], ◌∷◌}
use Rattle.ec_attr.specs.declared.geometry.Geometry.{Geometry}
use Rattle.ec_history.specs.Changes.{Found, change}
use Rattle.ec_history.specs.Flat.{Flat as FlatFile, blank, opened_before}
use Rattle.ec_history.specs.Flat.Opener.{Nobody}
use Rattle.ec_history.specs.Run.{Net, after}
use Rattle.ec_history.specs.Story.{Story, commits, told}
use Rattle.ec_stripe.specs.Span.{stripe_bytes}
use Rattle.ec_wire.specs.declared.entry.Entry.{Entry}
use Rattle.ec_wire.specs.declared.entry.Entry.TheVariants.{Executed}
use Rattle.ec_wire.specs.declared.message.Body.TheVariants.{ToBrick}
use Rattle.ec_wire.specs.declared.message.Message.{Message}
use Rattle.ec_wire.specs.declared.op.Op.{Op}
use Rattle.ec_wire.specs.declared.request.Request.{Request}
use Rattle.ec_wire.specs.declared.request.Request.TheVariants.{SetLength}
use Rattle.ec_attr.specs.declared.gfid.Gfid.{Gfid}
use Rattle.ec_law_pieces.specs.Deed.{Plan}
use Rattle.ec_law_pieces.specs.File.{Flat, Form}
use Rattle.ec_law_net.specs.Turns.{View, seen_after}
use Rattle.ec_law_data.specs.Deeds.{is_post_on}
use Rattle.ec_law_data.specs.Forms.{Coder, Piece, Shape, is_data, of_file}
use Rattle.ec_law_data.specs.Reading.{Reading}

-- A file, whose units may be read of its values in any way: which requests write which stripes doesn't depend on it.
abbrev pub of_file_by : ℕ → Coder → Form ℕ (List (List ℕ)) Piece ℕ Shape → Reading ℕ (List (List ℕ)) Piece ℕ Shape
of_file_by k coder form = record (of_file k coder) { form = form }

-- ## The beginning

-- A file of the tree as the machine has it: an open stripe counts as opened by calls that are none of the log's, and past a
-- stripe's bytes nothing is known.
abbrev pub file_flat : ℕ → FlatFile → Flat ℕ ℕ Shape
file_flat k flat = record {
  version = flat.version;
  shape = record { size = flat.size; attr = flat.attr };
  unit = λ s i. cond (nat_lt i (stripe_bytes k)) (flat.byte (stripe_bytes k * s + i)) None;
  opener = λ s. opened_before (flat.opener s);
}

-- The machine's flat value of a file: it is at the flat file's version, and each stripe that is closed there is closed here, with
-- each of its known bytes.
pub record StripesAgree (k : ℕ) (flat : Flat ℕ ℕ Shape) (x : FlatFile) : Type 0 where
  pub version : flat.version ≡ x.version
  pub closed : (s : ℕ) → x.opener s ≡ Nobody → flat.opener s ≡ Nobody
  pub bytes : (s i v : ℕ) → x.opener s ≡ Nobody → i < stripe_bytes k → x.byte (stripe_bytes k * s + i) ≡ Some v → flat.unit s i ≡ Some v

-- ## Plans

-- A plan covers the stripes that the call's commit covers, and sets the bytes in them that it sets, for a file of this size: a change
-- of stripes depends on nothing else of the flat file.
pub record FitsStripes (k g size : ℕ) (op : Op) (found : Found) (covered : ℕ → Bool) (set : ℕ → ℕ → Option ℕ) : Type 0 where
  pub covers : (s : ℕ) → covered s ≡ (change k op found g (record blank { size = size })).covers s
  pub sets : (s i : ℕ) → covered s ≡ true → i < stripe_bytes k → set s i ≡ (change k op found g (record blank { size = size })).sets (stripe_bytes k * s + i)

-- the size is that of the turn's group
abbrev pub StripePlan : ℕ → ℕ → (ℕ → Shape) → ℕ → Op → Found → Plan ℕ (List (List ℕ)) ℕ Shape → Type 0
StripePlan k g took a op found plan = FitsStripes k g (took a).size op found plan.covers plan.sets

-- where a call commits on the gfid, the flat file has the size of the turn's group
abbrev pub EntrySized : (ℕ → Shape) → Geometry → ℕ → Net → View → Story → Entry → Type 0
EntrySized took geometry g m v t (Executed i version failed) = (x : Message) (q : Request) → m.said i ≡ Some x → x.body ≡ ToBrick q → is_post_on g q ≡ true → commits geometry m t (Executed i version failed) ≡ true → (took (v.of i)).size ≡ (t.tree g).size
EntrySized took geometry g m v t e = Unit {0}

abbrev pub AllSized : (ℕ → Shape) → Geometry → ℕ → List Entry → Net → View → Story → Type 0
AllSized took geometry g [] m v t = Unit {0}
AllSized took geometry g (e ∷ es) m v t = EntrySized took geometry g m v t e × AllSized took geometry g es (after m e) (seen_after g m v e) (told geometry m t e)

-- ## Requests

-- the data requests and the PostOps of one call on the gfid are of one turn
abbrev pub DataInOneTurn : ℕ → Net → View → Type 0
DataInOneTurn g m v = (i j : ℕ) (x y : Message) (q r : Request) → m.said i ≡ Some x → m.said j ≡ Some y → x.body ≡ ToBrick q → y.body ≡ ToBrick r → (is_data g q ≡ true) ⊎ (is_post_on g q ≡ true) → (is_data g r ≡ true) ⊎ (is_post_on g r ≡ true) → x.call ≡ y.call → v.of i ≡ v.of j

-- a cut keeps no more chunks than it leaves
abbrev pub CutsKeep : ℕ → Net → View → Type 0
CutsKeep g m v = (i : ℕ) (x : Message) (gfid : Gfid) (n keep count : ℕ) → m.said i ≡ Some x → x.body ≡ ToBrick (SetLength gfid n keep count) → gfid.0 ≡ g → keep ≤ count
