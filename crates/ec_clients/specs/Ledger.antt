-- What a net, its story and its books say of calls and clients.
use Rattle.std.specs.Prelude.{ℕ, Bool, Option, List}
use Rattle.ec_conduct.specs.Given.{CachedStripe, Given}
use Rattle.ec_conduct.specs.Own.{Own}
use Rattle.ec_conduct.specs.declared.kept.Kept.{Kept}
use Rattle.ec_history.specs.Run.{Asker}
use Rattle.ec_clients.specs.Come.{Come}

pub record Ledger : Type 0 where
  pub calls : ℕ
  pub asker : ℕ → Option Asker
  pub answered : ℕ → Bool
  pub dead : ℕ → Bool
  pub awaits : ℕ → ℕ → Option ℕ
  pub let_go : ℕ → Bool
  pub next_gfid : ℕ
  pub own : ℕ → List Own
  pub given : ℕ → Option Given
  pub kept : ℕ → Option Kept
  pub cache : ℕ → List CachedStripe

abbrev pub ledger : Come → Ledger
ledger p = record {
  calls = p.net.calls;
  asker = p.net.asker;
  answered = p.net.answered;
  dead = p.net.dead;
  awaits = p.net.awaits;
  let_go = p.net.let_go;
  next_gfid = p.story.next_gfid;
  own = p.books.own;
  given = p.books.given;
  kept = p.books.kept;
  cache = p.books.cache;
}
