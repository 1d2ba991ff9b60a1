-- A reading of no data at all: what is left is which version is the flat one, and in which order calls commit.
use Rattle.ec_law_data.specs.Deeds.{is_post_on}
use Rattle.ec_law_net.specs.Turns.{View}
use Rattle.ec_wire.specs.declared.request.Request.{Request}
use Rattle.ec_wire.specs.declared.message.Message.{Message}
use Rattle.ec_wire.specs.declared.message.Body.TheVariants.{ToBrick}
use Rattle.ec_history.specs.Run.{Net}
use Rattle.std.specs.Prelude.{false, ◌≡◌, true, Some, ℕ}
use Rattle.ec_law_data.specs.Reading.{Plans, Reading}

-- there is no place
abbrev pub of_versions : Reading ⊥ (Unit {0}) (Unit {0}) (Unit {0}) (Unit {0})
of_versions = record {
  form = record { code = λ x b. tt; unit = λ x i. tt; past = λ shape p. false; zero = tt };
  held = λ r p. tt;
  is_write = λ g q. false;
  writes = λ g q p. false;
  puts = λ q p. tt;
  is_read = λ g q. false;
  reads = λ g q p. false;
  new = tt;
}

abbrev pub no_plans : Plans ⊥ (Unit {0}) (Unit {0}) (Unit {0})
no_plans = record { took = λ a. tt; plan = λ a. record { covers = λ p. false; sets = λ p i. absurd p; value = λ p. tt; becomes = tt } }

-- the PostOps of one call on the gfid are of one turn
abbrev pub PostsInOneTurn : ℕ → Net → View → Type 0
PostsInOneTurn g m v = (i j : ℕ) (x y : Message) (q r : Request) → m.said i ≡ Some x → m.said j ≡ Some y → x.body ≡ ToBrick q → y.body ≡ ToBrick r → is_post_on g q ≡ true → is_post_on g r ≡ true → x.call ≡ y.call → v.of i ≡ v.of j
