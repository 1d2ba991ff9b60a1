-- Each call's own entries in a log, and the conduct of all calls.
use Rattle.std.specs.Prelude.{◌≡◌, ℕ, Bool, true, false, not, cond, ◌==◌, ◌&&◌, is_some, Option, Some, None, List, [], ◌∷◌, ◌++◌}
use Rattle.ec_attr.specs.declared.geometry.Geometry.{Geometry}
use Rattle.ec_store.specs.Put.{put}
use Rattle.ec_wire.specs.declared.answer.Answer.{Answer}
use Rattle.ec_wire.specs.declared.answer.Answer.TheVariants.{TooLong, TooBig, Spent}
use Rattle.ec_wire.specs.declared.entry.Entry.{Entry}
use Rattle.ec_wire.specs.declared.entry.Entry.TheVariants.{Called, Sent, Heard, GivenUp, Yielded, Answered}
use Rattle.ec_wire.specs.declared.message.Body.{Body}
use Rattle.ec_wire.specs.declared.message.Body.TheVariants.{ToBrick, ToClient}
use Rattle.ec_wire.specs.declared.message.Message.{Message}
use Rattle.ec_wire.specs.declared.op.Op.{Op}
use Rattle.ec_wire.specs.declared.op.Op.TheVariants.{Write}
use Rattle.ec_wire.specs.declared.request.Request.{Request}
use Rattle.ec_wire.specs.declared.request.Request.TheVariants.{Release}
use Rattle.ec_conduct.specs.Conduct.{Keeps}
use Rattle.ec_conduct.specs.Given.{CachedStripe, Given, is_on_file}
use Rattle.ec_conduct.specs.Leaves.{KeepsCache, KeepsGrants}
use Rattle.ec_conduct.specs.Opened.{account}
use Rattle.ec_conduct.specs.Own.{Own, Sends, Hears, GivesUp, Answers}
use Rattle.ec_conduct.specs.declared.kept.Kept.{Kept}
use Rattle.ec_history.specs.Run.{Asker, Net, after, call_of, is_number}
use Rattle.ec_history.specs.Story.{Story, op_of, told}

-- what an answered call leaves to its client's next one
pub record Leaving : Type 0 where
  pub kept : Option Kept
  pub cache : List CachedStripe

-- By call, its own entries and what it began with; by client, the call that runs, the grants that are kept and the
-- stripes that are cached.
pub record Books : Type 0 where
  pub own : ℕ → List Own
  pub given : ℕ → Option Given
  pub running : ℕ → Option ℕ
  pub kept : ℕ → Option Kept
  pub cache : ℕ → List CachedStripe

abbrev pub no_books : Books
no_books = record { own = λ a. []; given = λ a. None; running = λ c. None; kept = λ c. None; cache = λ c. [] }

-- a call on the content of a file goes on under the grants that are kept of it
abbrev pub taken_over : Option Kept → Op → Option Kept
taken_over None op = None
taken_over (Some kept) op = cond (is_on_file op kept.gfid.0) (Some kept) None

-- only writes have to do with cached stripes
abbrev pub is_write : Op → Bool
is_write (Write g off bytes) = true
is_write op = false

abbrev pub given_to : Geometry → Story → Books → ℕ → Op → Given
given_to geometry t books client op = record { geometry = geometry; op = op; child = t.next_gfid; kept = taken_over (books.kept client) op; cache = cond (is_write op) (books.cache client) [] }

abbrev pub begins : Geometry → Story → Books → ℕ → ℕ → Op → Books
begins geometry t books a client op = record books { given = put books.given a (Some (given_to geometry t books client op)); running = put books.running client (Some a) }

abbrev pub with_own : Books → ℕ → Own → Books
with_own books a e = record books { own = put books.own a (books.own a ++ e ∷ []) }

abbrev pub has_kept : Option Given → Bool
has_kept None = false
has_kept (Some given) = is_some given.kept

-- the call that runs where it began under kept grants
abbrev pub under_kept : Books → Option ℕ → Option ℕ
under_kept books None = None
under_kept books (Some a) = cond (has_kept (books.given a)) (Some a) None

-- Whose a Release is: the call's that asked, while it isn't answered; of a grant that was kept, the call's that took it
-- over. Others are no call's: a Release that is sent again as a Granted comes late, and those of a client that yields.
abbrev pub releaser : Net → Books → Message → ℕ → Option ℕ
releaser m books msg grant = cond (m.let_go grant) None (cond (m.answered msg.call) (under_kept books (books.running msg.client)) (Some msg.call))

abbrev pub sender : Net → Books → Message → Request → Option ℕ
sender m books msg (Release g grant) = releaser m books msg grant
sender m books msg q = Some msg.call

abbrev pub own_of : Books → Option ℕ → Own → Books
own_of books None e = books
own_of books (Some a) e = with_own books a e

abbrev pub sends : Net → Books → Message → Body → Books
sends m books msg (ToBrick q) = own_of books (sender m books msg q) (Sends msg.brick msg.no q)
sends m books msg (ToClient re reply) = books

-- a reply that its call no longer waits for isn't handed to it
abbrev pub hears_body : Net → Books → Message → Body → Books
hears_body m books msg (ToBrick q) = books
hears_body m books msg (ToClient re reply) = cond (is_number re (m.awaits msg.call msg.brick) && not (m.answered msg.call)) (with_own books msg.call (Hears msg.brick re reply)) books

abbrev pub hears : Net → Books → Option Message → Books
hears m books None = books
hears m books (Some msg) = hears_body m books msg msg.body

-- answers that are given before anything is done: they leave what is kept
abbrev pub is_at_once : Answer → Bool
is_at_once (TooLong n) = true
is_at_once (TooBig n) = true
is_at_once Spent = true
is_at_once answer = false

abbrev pub client_of : Option Asker → ℕ
client_of None = 0
client_of (Some asker) = asker.client

abbrev pub leaves : Books → ℕ → Op → Answer → Leaving → Books
leaves books client op answer left = record books {
  running = put books.running client None;
  kept = cond (is_at_once answer) books.kept (put books.kept client left.kept);
  cache = cond (is_write op && not (is_at_once answer)) (put books.cache client left.cache) books.cache;
}

abbrev pub ends : Net → Books → (ℕ → Leaving) → ℕ → Answer → Books
ends m books left a answer = leaves (with_own books a (Answers answer)) (client_of (m.asker a)) (op_of m a) answer (left a)

-- What an entry adds to the books, where `left` is what each call leaves.
abbrev pub booked : Geometry → (ℕ → Leaving) → Net → Story → Books → Entry → Books
booked geometry left m t books (Called a client op) = begins geometry t books a client op
booked geometry left m t books (Sent msg) = sends m books msg msg.body
booked geometry left m t books (Heard i) = hears m books (m.said i)
booked geometry left m t books (GivenUp client brick i) = with_own books (call_of (m.said i)) (GivesUp brick i)
booked geometry left m t books (Yielded client) = record books { kept = put books.kept client None }
booked geometry left m t books (Answered a answer) = ends m books left a answer
booked geometry left m t books e = books

abbrev pub books : Geometry → (ℕ → Leaving) → List Entry → Net → Story → Books → Books
books geometry left [] m t b = b
books geometry left (e ∷ es) m t b = books geometry left es (after m e) (told geometry m t e) (booked geometry left m t b e)

-- The call's own entries keep the conduct, and what it leaves is what it may leave.
pub record KeepsConduct (books : Books) (left : ℕ → Leaving) (a : ℕ) (given : Given) : Type 0 where
  pub conduct : Keeps given (books.own a)
  pub grants : KeepsGrants (account given (books.own a)) (left a).kept
  pub stripes : KeepsCache (account given (books.own a)) (left a).cache

-- Every call of a log keeps the conduct.
pub record AllKeepConduct (geometry : Geometry) (es : List Entry) (m : Net) (t : Story) : Type 0 where
  pub left : ℕ → Leaving
  pub each : (a : ℕ) (given : Given) → (books geometry left es m t no_books).given a ≡ Some given → KeepsConduct (books geometry left es m t no_books) left a given
