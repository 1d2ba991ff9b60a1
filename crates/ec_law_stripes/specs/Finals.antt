-- What a call sends no more once it has sent a request that changes data, or a PostOp.
use Rattle.std.specs.Prelude.{◌≡◌, ◌⊎◌, ℕ, Bool, true, false, ◌||◌, Some, List, [], ◌∷◌}
use Rattle.ec_conduct.specs.Account.{Account}
use Rattle.ec_conduct.specs.Done.{is_lock, is_post}
use Rattle.ec_conduct.specs.Given.{Given}
use Rattle.ec_conduct.specs.Own.{Own, Sends}
use Rattle.ec_calls.specs.declared.any.AnyCall.{AnyCall}
use Rattle.ec_txn.specs.Tables.{Table}
use Rattle.ec_txn.specs.declared.ctx.Ctx.{Ctx}
use Rattle.ec_txn.specs.declared.stage.Next.TheVariants.{Go}
use Rattle.ec_wire.specs.declared.request.Request.{Request}
use Rattle.ec_law_data.specs.Deeds.{is_post_on}
use Rattle.ec_law_data.specs.Forms.{is_data}
use Rattle.ec_law_parts.specs.LeavesOff.{SendsNone, puts_data}
use Rattle.ec_law_stripes.specs.Given.{WritesSome}

-- a request that changes data, or a PostOp
abbrev pub is_final : Request → Bool
is_final r = puts_data r || is_post r

abbrev pub sends_final : Own → Bool
sends_final (Sends b i r) = is_final r
sends_final e = false

-- such a request was sent, to whatever brick
abbrev pub has_final : List Own → Bool
has_final [] = false
has_final (e ∷ es) = sends_final e || has_final es

-- From the first such request on none of the own entries sends a request that passes the test; `final` tells whether one was sent
-- before them.
abbrev pub AsksOffFrom : (Request → Bool) → Bool → List Own → Type 0
AsksOffFrom test final [] = Unit {0}
AsksOffFrom test final (e ∷ es) = (final ≡ true → SendsNone test e) × AsksOffFrom test (final || sends_final e) es

abbrev pub AsksOff : (Request → Bool) → List Own → Type 0
AsksOff test es = AsksOffFrom test false es

-- A table has late stages, which aren't left for others. Before them no such request is asked, and in them nothing that passes the test.
pub record EndsWithFinals {P : Type 0} (test : Request → Bool) (t : Table P) : Type 0 where
  pub is_late : P → Bool
  pub early : (p : P) (c : Account) (x : ℕ) (r : Request) → t.asks p c x ≡ Some r → is_late p ≡ false → is_final r ≡ false
  pub off : (p : P) (c : Account) (x : ℕ) (r : Request) → t.asks p c x ≡ Some r → is_late p ≡ true → test r ≡ false
  pub stays : (p q : P) (c : Account) → t.follows p c (Go q) → is_late p ≡ true → is_late q ≡ true

-- a data request or a PostOp on the gfid
abbrev pub IsFinalOn : ℕ → Request → Type 0
IsFinalOn g q = (is_data g q ≡ true) ⊎ (is_post_on g q ≡ true)

-- Of the own entries that a call stands for: it asks for no content once it has sent data or a PostOp, and has bytes to write if it
-- sent one of them and is a write.
pub record CallFinalLaws (stands : Ctx → Given → AnyCall → List Own → Type 0) : Type 0 where
  pub no_asks : (x : Ctx) (given : Given) (call : AnyCall) (es : List Own) → stands x given call es → AsksOff is_lock es
  pub some : (x : Ctx) (given : Given) (call : AnyCall) (es : List Own) → stands x given call es → has_final es ≡ true → WritesSome given.op
