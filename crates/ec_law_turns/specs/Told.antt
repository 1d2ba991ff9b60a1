-- What a PreOp, PostOp and Clear stand on: the turn's ballot, its group, and what bricks did of it.
use Rattle.std.specs.Prelude.{◌≡◌, ℕ, ◌+◌, ◌^◌, ◌<◌, Bool, true, false, Option, Some}
use Rattle.ec_attr.specs.Marks.{is_marked, stripped}
use Rattle.ec_wire.specs.declared.message.Message.{Message}
use Rattle.ec_wire.specs.declared.request.Request.{Request}
use Rattle.ec_wire.specs.declared.request.Request.TheVariants.{PreOp, PostOp, Clear}
use Rattle.ec_law_base.specs.State.{Head, State, target}
use Rattle.ec_law_ballots.specs.Guard.{HasQuorum}
use Rattle.ec_law_ballots.specs.Words.{at_base, is_marked_head}
use Rattle.ec_law_turns.specs.Once.{IsIn, is_sink_pre}

-- the turn saw this at the brick
pub record Saw (s : State) (a b : ℕ) (P : Option Head → Type 0) : Type 0 where
  pub head : Head
  pub seen : s.seen a b ≡ Some head
  pub so : P (Some head)

-- it goes to a brick of the turn's group, or to one that showed a mark
abbrev pub PreTold : State → ℕ → ℕ → Bool → Type 0
PreTold s a b false = Saw s a b (λ h. at_base (s.ballot a) h ≡ true)
PreTold s a b true = Saw s a b (λ h. is_marked_head h ≡ true)

-- it follows the PreOp; on a marked record that is none that counts
abbrev pub PostTold : ℕ → (ℕ → Option Message) → (ℕ → ℕ) → State → ℕ → ℕ → Bool → Type 0
PostTold g said of s a b false = s.pre a b ≡ true
PostTold g said of s a b true = Saw s a b (λ h. is_marked_head h ≡ true) × ((i : ℕ) × IsIn g said of is_sink_pre i b a)

-- the ballot is the turn's
pub record ToldPreOp (s : State) (a b at number : ℕ) : Type 0 where
  pub ballot : s.ballot a ≡ record { base = stripped at; number = number }
  pub above : 0 < number
  pub limit : stripped at + number < 2 ^ 61
  pub ready : PreTold s a b (is_marked at)

-- K bricks did the PreOp, and this one did
pub record ToldPostOp (n k g : ℕ) (said : ℕ → Option Message) (of : ℕ → ℕ) (s : State) (a b at version : ℕ) : Type 0 where
  pub ballot : 0 < (s.ballot a).number
  pub base : (s.ballot a).base ≡ stripped at
  pub target : target (s.ballot a) ≡ stripped version
  pub mark : is_marked version ≡ is_marked at
  pub quorum : HasQuorum n k s a
  pub ready : PostTold g said of s a b (is_marked at)

-- all bricks did the PostOp to this version
pub record ToldClear (n : ℕ) (s : State) (a at : ℕ) : Type 0 where
  pub ballot : 0 < (s.ballot a).number
  pub target : target (s.ballot a) ≡ at
  pub all : (c : ℕ) → c < n → s.post a c ≡ true

-- of a request of turn a to brick b
abbrev pub Told : ℕ → ℕ → ℕ → (ℕ → Option Message) → (ℕ → ℕ) → State → ℕ → ℕ → Request → Type 0
Told n k g said of s a b (PreOp x grant at number) = x.0 ≡ g → ToldPreOp s a b at number
Told n k g said of s a b (PostOp x grant at version size attr) = x.0 ≡ g → ToldPostOp n k g said of s a b at version
Told n k g said of s a b (Clear x grant at) = x.0 ≡ g → ToldClear n s a at
Told n k g said of s a b q = Unit {0}
