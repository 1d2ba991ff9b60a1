-- The commits of a call on a gfid, among the entries of a log, and what they make of the flat files.
use Rattle.std.specs.Prelude.{◌≡◌, ℕ, ◌+◌, Bool, true, false, cond, ◌==◌, ◌&&◌, Option, Some, None, List, [], ◌∷◌, ◌++◌}
use Rattle.ec_attr.specs.declared.geometry.Geometry.{Geometry}
use Rattle.ec_brick.specs.State.{State as Brick}
use Rattle.ec_conduct.specs.Given.{quorum}
use Rattle.ec_history.specs.Changes.{change}
use Rattle.ec_history.specs.Flat.{Flat, Tree, committed}
use Rattle.ec_history.specs.Run.{Net, after, fresh, run}
use Rattle.ec_history.specs.Story.{Story, commits, op_of, opening, request_of, story, told}
use Rattle.ec_store.specs.Put.{put}
use Rattle.ec_wire.specs.declared.entry.Entry.{Entry}
use Rattle.ec_wire.specs.declared.entry.Entry.TheVariants.{Called, Executed}
use Rattle.ec_wire.specs.declared.message.Message.{Message}
use Rattle.ec_wire.specs.declared.op.Op.{Op}
use Rattle.ec_wire.specs.declared.request.Request.{Request}
use Rattle.ec_wire.specs.declared.request.Request.TheVariants.{PostOp}

-- a PostOp on gfid g
abbrev pub is_post_on : ℕ → Option Request → Bool
is_post_on g (Some (PostOp x n at version size attr)) = g == x.0
is_post_on g o = false

-- that call a sent
abbrev pub is_post_of : ℕ → ℕ → Option Message → Bool
is_post_of a g None = false
is_post_of a g (Some msg) = (a == msg.call) && is_post_on g (request_of msg.body)

-- whether call a commits on gfid g by this entry
abbrev pub commits_on : Geometry → Net → Story → ℕ → ℕ → Entry → Bool
commits_on geometry m t a g (Executed i version failed) = commits geometry m t (Executed i version failed) && is_post_of a g (m.said i)
commits_on geometry m t a g e = false

-- by how many of these entries it does
abbrev pub times : Geometry → ℕ → ℕ → List Entry → Net → Story → ℕ
times geometry a g [] m t = 0
times geometry a g (e ∷ es) m t = cond (commits_on geometry m t a g e) 1 0 + times geometry a g es (after m e) (told geometry m t e)

-- what has come of the entries since a log began over these bricks, which stood for the tree
abbrev pub net_of : (ℕ → Brick) → List Entry → Net
net_of bricks es = run es (fresh bricks)

abbrev pub story_of : Geometry → (ℕ → Brick) → Tree → ℕ → List Entry → Story
story_of geometry bricks tree next es = story geometry es (fresh bricks) (opening tree next)

-- what the commit of a call at a version makes of a flat file, by what it asked for and has found
abbrev pub changed : Geometry → Story → ℕ → Op → ℕ → ℕ → Flat
changed geometry t a op version g = committed (quorum geometry) a version (change (quorum geometry) op (t.found a) g (t.tree g)) (t.tree g)

-- A call that was made after the entries of `earlier` commits on gfid g by one of those of `between`, at which the flat file
-- becomes what the call makes of it and no other one changes; and by no other entry of the log.
pub record CommitsOnce (geometry : Geometry) (bricks : ℕ → Brick) (tree : Tree) (next : ℕ) (es earlier between : List Entry) (call client : ℕ) (op : Op) (g : ℕ) : Type 0 where
  pub front : List Entry
  pub commit : Entry
  pub back : List Entry
  pub parts : between ≡ front ++ commit ∷ back
  pub commits : commits_on geometry (net_of bricks (earlier ++ Called call client op ∷ front)) (story_of geometry bricks tree next (earlier ++ Called call client op ∷ front)) call g commit ≡ true
  pub version : ℕ
  pub changes : (told geometry (net_of bricks (earlier ++ Called call client op ∷ front)) (story_of geometry bricks tree next (earlier ++ Called call client op ∷ front)) commit).tree
      ≡ put (story_of geometry bricks tree next (earlier ++ Called call client op ∷ front)).tree g (changed geometry (story_of geometry bricks tree next (earlier ++ Called call client op ∷ front)) call op version g)
  pub once : times geometry call g es (fresh bricks) (opening tree next) ≡ 1

-- The entry is the commit of one call on one gfid, at which its flat file becomes what the call makes of it and no other one
-- changes.
pub record IsCommit (geometry : Geometry) (m : Net) (t : Story) (e : Entry) : Type 0 where
  pub call : ℕ
  pub gfid : ℕ
  pub commits : commits_on geometry m t call gfid e ≡ true
  pub version : ℕ
  pub changes : (told geometry m t e).tree ≡ put t.tree gfid (changed geometry t call (op_of m call) version gfid)
