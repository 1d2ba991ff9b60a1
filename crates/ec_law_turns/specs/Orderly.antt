-- Logs in which every call keeps the conduct, and four rules of order that the conduct does not state yet.
use Rattle.std.specs.Prelude.{◌≡◌, ℕ, Bool, true, false, None, Some, List, [], ◌∷◌}
use Rattle.ec_attr.specs.declared.geometry.Geometry.{Geometry}
use Rattle.ec_attr.specs.declared.kind.Domain.TheVariants.{Inode}
use Rattle.ec_attr.specs.declared.kind.LockKind.TheVariants.{Shared}
use Rattle.ec_wire.specs.declared.entry.Entry.{Entry}
use Rattle.ec_wire.specs.declared.entry.Entry.TheVariants.{Called}
use Rattle.ec_wire.specs.declared.op.Op.{Op}
use Rattle.ec_wire.specs.declared.request.Request.{Request}
use Rattle.ec_wire.specs.declared.request.Request.TheVariants.{Ask, PreOp, PostOp, Make}
use Rattle.ec_conduct.specs.Account.{Account, after, at}
use Rattle.ec_conduct.specs.Conduct.{Keeps}
use Rattle.ec_conduct.specs.Data.{makes_child}
use Rattle.ec_conduct.specs.Done.{is_lock, is_make, is_post, tried}
use Rattle.ec_conduct.specs.Given.{Given}
use Rattle.ec_conduct.specs.Opened.{opened}
use Rattle.ec_conduct.specs.Own.{Own, Sends, Hears, GivesUp, Answers}
use Rattle.ec_conduct.specs.Standing.{Every}
use Rattle.ec_history.specs.Accounts.{Leaving, books, no_books}
use Rattle.ec_history.specs.Run.{Net}
use Rattle.ec_history.specs.Story.{Story, is_heal}

-- ## Order

-- an ask for the content that others may share
abbrev pub is_shared : Request → Bool
is_shared (Ask g Inode Shared) = true
is_shared r = false

-- The call begins no second window on the directory in which it makes its child: it asks for its content only before the
-- Queries.
abbrev pub HasOneWindow : Account → ℕ → Type 0
HasOneWindow c g = makes_child c.given.op g ≡ true → (c.on g).queried ≡ None

-- In one window a brick is asked for the content once, a ballot is taken only where no lock is shared, and a PostOp goes to
-- a brick once. A call that makes a child has one window on its directory, and sends a brick one Make there.
abbrev pub InOrder : Account → ℕ → Request → Type 0
InOrder c b (Ask g Inode kind) = (tried is_lock (at c g.0 b).window ≡ false) × HasOneWindow c g.0
InOrder c b (PreOp g grant version dirty) = Every c (λ x. tried is_shared (at c g.0 x).window ≡ false)
InOrder c b (PostOp g grant old new size attr) = tried is_post (at c g.0 b).window ≡ false
InOrder c b (Make g grant child) = tried is_make (at c g.0 b).window ≡ false
InOrder c b r = Unit {0}

abbrev pub Ordered : Account → Own → Type 0
Ordered c (Sends b i r) = InOrder c b r
Ordered c (Hears b i reply) = Unit {0}
Ordered c (GivesUp b i) = Unit {0}
Ordered c (Answers answer) = Unit {0}

-- own entries in order
abbrev pub OrderedFrom : Account → List Own → Type 0
OrderedFrom c [] = Unit {0}
OrderedFrom c (e ∷ es) = Ordered c e × OrderedFrom (after c e) es

abbrev pub KeepsOrder : Given → List Own → Type 0
KeepsOrder given es = OrderedFrom (opened given) es

-- ## Logs

-- no heal and no sweep
abbrev pub IsPlain : Op → Type 0
IsPlain op = is_heal op ≡ false

abbrev pub ArePlain : List Entry → Type 0
ArePlain [] = Unit {0}
ArePlain (Called a client op ∷ es) = IsPlain op × ArePlain es
ArePlain (e ∷ es) = ArePlain es

-- Every call's own entries keep the conduct and its order; no call leaves grants to its client's next one.
pub record IsOrderly (geometry : Geometry) (es : List Entry) (m : Net) (t : Story) : Type 0 where
  pub left : ℕ → Leaving
  pub none_kept : (a : ℕ) → (left a).kept ≡ None
  pub conduct : (a : ℕ) (given : Given) → (books geometry left es m t no_books).given a ≡ Some given → Keeps given ((books geometry left es m t no_books).own a)
  pub order : (a : ℕ) (given : Given) → (books geometry left es m t no_books).given a ≡ Some given → KeepsOrder given ((books geometry left es m t no_books).own a)
