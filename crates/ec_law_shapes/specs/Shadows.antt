-- The machine without data: it has the heads and the shapes of a machine of pieces, and keeps their clauses whatever is written.
-- So a version has one shape, as far as calls keep the conduct.
use Rattle.std.specs.Prelude.{◌≡◌, ℕ, true, false, Some}
use Rattle.ec_history.specs.Accounts.{Books}
use Rattle.ec_history.specs.Run.{Net}
use Rattle.ec_wire.specs.declared.message.Body.TheVariants.{ToBrick}
use Rattle.ec_wire.specs.declared.message.Message.{Message}
use Rattle.ec_wire.specs.declared.request.Request.{Request}
use Rattle.ec_law_quorum.specs.Wide.{Inv}
use Rattle.ec_law_pieces.specs.Clauses.{Good}
use Rattle.ec_law_pieces.specs.File.{File, Form}
use Rattle.ec_law_net.specs.Turns.{View}
use Rattle.ec_law_data.specs.Deeds.{is_post_on}
use Rattle.ec_law_data.specs.Forms.{Shape}
use Rattle.ec_law_data.specs.Reading.{Reading}
use Rattle.ec_law_shapes.specs.Shapes.{ShapesFollow}

-- there is no place
abbrev pub bare_form : Form ⊥ (Unit {0}) (Unit {0}) (Unit {0}) Shape
bare_form = record { code = λ x b. tt; unit = λ x i. tt; past = λ shape p. false; zero = tt }

abbrev pub of_shapes : Shape → Reading ⊥ (Unit {0}) (Unit {0}) (Unit {0}) Shape
of_shapes new = record {
  form = bare_form;
  held = λ r p. tt;
  is_write = λ g q. false;
  writes = λ g q p. false;
  puts = λ q p. tt;
  is_read = λ g q. false;
  reads = λ g q p. false;
  new = new;
}

abbrev pub Bare : Type 0
Bare = File ⊥ (Unit {0}) (Unit {0}) (Unit {0}) Shape

-- A machine without data beside one with them: it plans with the first PostOp of a turn, so later or at once.
pub record IsShadow {P V C U : Type 0} (f : File P V C U Shape) (s : Bare) : Type 0 where
  pub heads : s.heads ≡ f.heads
  pub shape : s.shape ≡ f.shape
  pub shape_of : s.shape_of ≡ f.shape_of
  pub told : s.told ≡ f.told
  pub took : s.took ≡ f.took
  pub plan : (t : ℕ) → s.planned t ≡ true → (f.planned t ≡ true) × (s.becomes t ≡ f.becomes t)

-- It keeps the clauses of pieces. Each turn counts as a call of its own, and has planned by its first PostOp.
pub record HasShadow {P V C U : Type 0} (n k g : ℕ) (m : Net) (v : View) (f : File P V C U Shape) : Type 0 where
  pub shadow : Bare
  pub is : IsShadow f shadow
  pub inv : Inv n k shadow.heads
  pub good : Good bare_form n k shadow
  pub call : (a : ℕ) → shadow.heads.call a ≡ a
  pub own : (a : ℕ) → shadow.writes a ≡ shadow.planned a
  pub posted : (i : ℕ) (x : Message) (q : Request) → m.said i ≡ Some x → x.body ≡ ToBrick q → is_post_on g q ≡ true → shadow.planned (v.of i) ≡ true

-- All that stands of shapes: `first` is the gfid that the first create or mkdir of the log takes, and `new` the shape of a new record.
pub record HasShapes {P V C U : Type 0} (n k first g : ℕ) (new : Shape) (m : Net) (v : View) (b : Books) (f : File P V C U Shape) : Type 0 where
  pub follow : ShapesFollow n first g new m v b f
  pub shadow : HasShadow n k g m v f
