-- What a call sends no more once it has sent a PostOp.
use Rattle.std.specs.Prelude.{◌≡◌, ℕ, ◌<◌, Bool, true, false, ◌||◌, Some, List, [], ◌∷◌}
use Rattle.ec_conduct.specs.Account.{Account}
use Rattle.ec_conduct.specs.Done.{is_post}
use Rattle.ec_conduct.specs.Own.{Own, Sends}
use Rattle.ec_history.specs.Run.{Net}
use Rattle.ec_law_net.specs.Turns.{View}
use Rattle.ec_txn.specs.Tables.{Table}
use Rattle.ec_txn.specs.declared.stage.Next.TheVariants.{Go}
use Rattle.ec_wire.specs.declared.message.Body.TheVariants.{ToBrick}
use Rattle.ec_wire.specs.declared.message.Message.{Message}
use Rattle.ec_wire.specs.declared.request.Request.{Request}
use Rattle.ec_wire.specs.declared.request.Request.TheVariants.{WriteChunks, SetLength, NameSet, NamesPut}

abbrev pub sends_post : Own → Bool
sends_post (Sends b i r) = is_post r
sends_post e = false

-- a request that changes the chunks of a file, or the names of a directory
abbrev pub puts_data : Request → Bool
puts_data (WriteChunks g grant first chunks) = true
puts_data (SetLength g grant keep length) = true
puts_data (NameSet g grant name child) = true
puts_data (NamesPut g grant start upto list) = true
puts_data r = false

-- a PostOp was sent, to whatever brick
abbrev pub has_posted : List Own → Bool
has_posted [] = false
has_posted (e ∷ es) = sends_post e || has_posted es

-- the entry sends no request that passes the test
abbrev pub SendsNone : (Request → Bool) → Own → Type 0
SendsNone test (Sends b i r) = test r ≡ false
SendsNone test e = Unit {0}

-- From the first PostOp on none of the own entries sends a request that passes the test; `posted` tells whether a PostOp was sent
-- before them.
abbrev pub LeavesOffFrom : (Request → Bool) → Bool → List Own → Type 0
LeavesOffFrom test posted [] = Unit {0}
LeavesOffFrom test posted (e ∷ es) = (posted ≡ true → SendsNone test e) × LeavesOffFrom test (posted || sends_post e) es

abbrev pub LeavesOff : (Request → Bool) → List Own → Type 0
LeavesOff test es = LeavesOffFrom test false es

-- A table has late stages, which aren't left for others. Before them no PostOp is asked, and in them nothing that passes the test.
pub record EndsWithPosts {P : Type 0} (test : Request → Bool) (t : Table P) : Type 0 where
  pub is_late : P → Bool
  pub early : (p : P) (c : Account) (x : ℕ) (r : Request) → t.asks p c x ≡ Some r → is_late p ≡ false → is_post r ≡ false
  pub off : (p : P) (c : Account) (x : ℕ) (r : Request) → t.asks p c x ≡ Some r → is_late p ≡ true → test r ≡ false
  pub stays : (p q : P) (c : Account) → t.follows p c (Go q) → is_late p ≡ true → is_late q ≡ true

-- Each request of a call that changes data was sent before each of its PostOps: as it goes out the call has sent none.
abbrev pub DataBeforePosts : Net → View → Type 0
DataBeforePosts m v = (i j : ℕ) (x y : Message) (q r : Request) → m.said i ≡ Some x → m.said j ≡ Some y → x.body ≡ ToBrick q → y.body ≡ ToBrick r → puts_data q ≡ true → is_post r ≡ true → x.call ≡ y.call → i < j
