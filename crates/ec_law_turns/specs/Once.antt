-- Which requests go to a brick once in a turn, and that the machine did only what a message asked for.
use Rattle.std.specs.Prelude.{◌≡◌, ℕ, ◌^◌, ◌≤◌, Bool, true, false, not, ◌==◌, Option, Some}
use Rattle.ec_wire.specs.declared.message.Body.TheVariants.{ToBrick}
use Rattle.ec_wire.specs.declared.message.Message.{Message}
use Rattle.ec_wire.specs.declared.request.Request.{Request}
use Rattle.ec_wire.specs.declared.request.Request.TheVariants.{PreOp, Make, Made}
use Rattle.ec_attr.specs.Marks.{is_marked}
use Rattle.ec_conduct.specs.Account.{gfid_of}
use Rattle.ec_conduct.specs.Done.{is_made, is_make, is_post, is_pre, is_query}
use Rattle.ec_law_base.specs.State.{State}
use Rattle.ec_law_ballots.specs.Words.{saw}

-- a PreOp on an unmarked record, and on a marked one
abbrev pub is_plain_pre : Request → Bool
is_plain_pre (PreOp x n at dirty) = not (is_marked at)
is_plain_pre q = false

abbrev pub is_sink_pre : Request → Bool
is_sink_pre (PreOp x n at dirty) = is_marked at
is_sink_pre q = false

-- a Make and a Made of the record of a gfid
abbrev pub is_make_of : ℕ → Request → Bool
is_make_of g (Make x n child) = child.gfid.0 == g
is_make_of g q = false

abbrev pub is_made_of : ℕ → Request → Bool
is_made_of g (Made x n child) = child.0 == g
is_made_of g q = false

-- message i is such a request to brick b, in turn t
pub record IsIn (g : ℕ) (said : ℕ → Option Message) (of : ℕ → ℕ) (test : Request → Bool) (i b t : ℕ) : Type 0 where
  pub message : Message
  pub request : Request
  pub is : said i ≡ Some message
  pub brick : message.brick ≡ b
  pub body : message.body ≡ ToBrick request
  pub on : gfid_of request ≡ Some g
  pub passes : test request ≡ true
  pub turn : of i ≡ t

abbrev pub OnceOf : ℕ → (ℕ → Option Message) → (ℕ → ℕ) → (Request → Bool) → Type 0
OnceOf g said of test = (i j b t : ℕ) → 2 ^ 61 ≤ t → IsIn g said of test i b t → IsIn g said of test j b t → i ≡ j

-- such a message has arrived
pub record Landed (g : ℕ) (said : ℕ → Option Message) (flying : ℕ → Bool) (of : ℕ → ℕ) (test : Request → Bool) (b t : ℕ) : Type 0 where
  pub number : ℕ
  pub asked : IsIn g said of test number b t
  pub landed : flying number ≡ false

-- one to this brick, in any turn, on any directory
pub record LandedAt (said : ℕ → Option Message) (flying : ℕ → Bool) (test : Request → Bool) (b : ℕ) : Type 0 where
  pub number : ℕ
  pub message : Message
  pub request : Request
  pub is : said number ≡ Some message
  pub brick : message.brick ≡ b
  pub body : message.body ≡ ToBrick request
  pub passes : test request ≡ true
  pub landed : flying number ≡ false

pub record Once (g : ℕ) (said : ℕ → Option Message) (flying : ℕ → Bool) (of : ℕ → ℕ) (core : State) : Type 0 where
  pub queries : OnceOf g said of is_query
  pub preops : OnceOf g said of is_pre
  pub posts : OnceOf g said of is_post
  pub makes : OnceOf g said of is_make
  pub mades : OnceOf g said of is_made
  pub seen : (t b : ℕ) → 2 ^ 61 ≤ t → saw core t b ≡ true → Landed g said flying of is_query b t
  pub pre : (t b : ℕ) → 2 ^ 61 ≤ t → core.pre t b ≡ true → Landed g said flying of is_plain_pre b t
  pub post : (t b : ℕ) → 2 ^ 61 ≤ t → core.post t b ≡ true → Landed g said flying of is_post b t
  pub born : (b : ℕ) → core.born b ≡ true → LandedAt said flying (is_make_of g) b
  pub grown : (b : ℕ) → core.grown b ≡ true → LandedAt said flying (is_made_of g) b
