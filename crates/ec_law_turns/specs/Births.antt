-- How the records of children come to be: where Makes and Mades go out, what their calls knew, and at which bricks a maker
-- counts.
use Rattle.std.specs.Prelude.{◌≡◌, ℕ, ◌<◌, ◌≤◌, Bool, true, false, Option, Some}
use Rattle.ec_attr.specs.declared.gfid.Gfid.{Gfid}
use Rattle.ec_wire.specs.declared.message.Body.TheVariants.{ToBrick}
use Rattle.ec_wire.specs.declared.message.Message.{Message}
use Rattle.ec_wire.specs.declared.reply.Reply.{Reply}
use Rattle.ec_wire.specs.declared.request.Request.{Request}
use Rattle.ec_wire.specs.declared.request.Request.TheVariants.{Make, Made}
use Rattle.ec_conduct.specs.Account.{Exchange}
use Rattle.ec_conduct.specs.Data.{makes_child}
use Rattle.ec_conduct.specs.Given.{Given}
use Rattle.ec_conduct.specs.Opened.{account}
use Rattle.ec_history.specs.Accounts.{Books}
use Rattle.ec_history.specs.Run.{Net}
use Rattle.ec_law_base.specs.State.{State}
use Rattle.ec_law_net.specs.Turns.{Maker, View, has_directory}
use Rattle.ec_law_turns.specs.Follows.{All, IsLock}
use Rattle.ec_law_turns.specs.Once.{is_make_of}
use Rattle.ec_law_turns.specs.Replied.{QueryTold, is_early}
use Rattle.ec_law_turns.specs.Shown.{IsTold}

-- ## Messages

-- Message i of call a to brick b names ask n, which is of its turn on directory d and was granted before that turn's moment.
-- The call has this turn there for good.
pub record InDirectory (d : ℕ) (said : ℕ → Option Message) (v : View) (a b i n : ℕ) : Type 0 where
  pub lock : IsLock d said a b n
  pub turn : v.of n ≡ v.of i
  pub now : v.turn a ≡ Some (v.of i)
  pub moment : v.core.moment (v.of i) ≡ true
  pub early : QueryTold d said v.of v.core n

-- the child that call a took as it began, to make it in directory d
pub record IsChildOf (b : Books) (a d child : ℕ) : Type 0 where
  pub given : Given
  pub is : b.given a ≡ Some given
  pub child_is : child ≡ given.child
  pub makes : makes_child given.op d ≡ true

-- of message i of call a to brick x; `vs` are the views by gfid
abbrev pub BirthKnown : (ℕ → Option Message) → (ℕ → View) → Books → ℕ → ℕ → ℕ → Request → Type 0
BirthKnown said vs b a x i (Make y n child) = InDirectory y.0 said (vs y.0) a x i n × IsChildOf b a y.0 child.gfid.0
BirthKnown said vs b a x i (Made y n child) = InDirectory y.0 said (vs y.0) a x i n × IsChildOf b a y.0 child.0
BirthKnown said vs b a x i q = Unit {0}

-- each Make and Made of a log
abbrev pub AreBirths : Net → (ℕ → View) → Books → Type 0
AreBirths m vs b = (i : ℕ) (x : Message) (q : Request) → m.said i ≡ Some x → x.body ≡ ToBrick q → BirthKnown m.said vs b x.call x.brick i q

-- ## A gfid

-- what the reply to an exchange tells of the gfid
abbrev pub Heard : ℕ → (ℕ → Option Message) → (ℕ → ℕ) → State → Exchange → Type 0
Heard g said of s e = (reply : Reply) → e.reply ≡ Some reply → IsTold g said of s e.number reply

-- in the windows of each call, whichever gfid they are on
abbrev pub AllHeard : ℕ → (ℕ → Option Message) → (ℕ → ℕ) → State → Books → Type 0
AllHeard g said of s b = (a : ℕ) (given : Given) → b.given a ≡ Some given → (h x : ℕ) → All (Heard g said of s) (((account given (b.own a)).on h).place x).window

-- some message was such a request
pub record WasAsked (said : ℕ → Option Message) (test : Request → Bool) : Type 0 where
  pub number : ℕ
  pub message : Message
  pub request : Request
  pub is : said number ≡ Some message
  pub body : message.body ≡ ToBrick request
  pub passes : test request ≡ true

-- What stands of a gfid and its maker; from gfid `first` on no record was there as the log began. A Made goes only where the Make
-- was done, and no record is made but by a Make. The maker counts at each brick where it has the directory as long as no record
-- was made anywhere; and at each that the call's turn there has since before its moment.
pub record HasBirths (n first g : ℕ) (m : Net) (vs : ℕ → View) (b : Books) : Type 0 where
  pub heard : AllHeard g m.said (vs g).of (vs g).core b
  pub mades : (i : ℕ) (x : Message) (y : Gfid) (k : ℕ) (child : Gfid) → m.said i ≡ Some x → x.body ≡ ToBrick (Made y k child) → child.0 ≡ g → (vs g).core.born x.brick ≡ true
  pub made : first ≤ g → (vs g).core.making ≡ true → WasAsked m.said (is_make_of g)
  pub before : (c : ℕ) → c < n → (vs g).core.making ≡ false → has_directory m.said (vs g).maker (m.brick c).asks ≡ true → (vs g).core.maker c ≡ true
  pub since : (x : Maker) → (vs g).maker ≡ Some x → (c t : ℕ) → c < n → (vs x.dir).core.holder c ≡ Some t → (vs x.dir).turn x.call ≡ Some t → is_early (vs x.dir).core t c ≡ true → (vs g).core.maker c ≡ true
