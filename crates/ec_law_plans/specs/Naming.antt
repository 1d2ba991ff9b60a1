-- What calls plan for a directory: each its own name, and the shape that it makes of that of its group.
use Rattle.std.specs.Prelude.{◌≡◌, ℕ, ◌-◌, ◌+◌, ◌^◌, ◌<◌, ◌≤◌, Bool, true, false, not, cond, ◌==◌, ◌&&◌, ◌||◌, Option, Some, None, unwrap_or, is_some, List}
use Rattle.ec_attr.specs.Head.{new_attr}
use Rattle.ec_attr.specs.declared.head.Head.{Head}
use Rattle.ec_attr.specs.declared.kind.Child.{Child}
use Rattle.ec_attr.specs.declared.kind.Kind.TheVariants.{Dir, File as FileKind}
use Rattle.ec_conduct.specs.Ballots.{attr_after, size_after}
use Rattle.ec_conduct.specs.Given.{Given}
use Rattle.ec_conduct.specs.Opened.{account}
use Rattle.ec_conduct.specs.Own.{Own}
use Rattle.ec_conduct.specs.Standing.{group_of}
use Rattle.ec_history.specs.Accounts.{Books}
use Rattle.ec_history.specs.Changes.{Found, change}
use Rattle.ec_history.specs.Flat.{blank, named}
use Rattle.ec_history.specs.Run.{Net, call_of}
use Rattle.ec_store.specs.Records.{same_name}
use Rattle.ec_wire.specs.declared.entry.Entry.{Entry}
use Rattle.ec_wire.specs.declared.entry.Entry.TheVariants.{Sent}
use Rattle.ec_wire.specs.declared.message.Body.TheVariants.{ToBrick}
use Rattle.ec_wire.specs.declared.message.Message.{Message}
use Rattle.ec_wire.specs.declared.op.Op.{Op}
use Rattle.ec_wire.specs.declared.op.Op.TheVariants.{Create, Mkdir, Rename, Rmdir, Unlink}
use Rattle.ec_wire.specs.declared.request.Request.{Request}
use Rattle.ec_law_pieces.specs.Deed.{Plan}
use Rattle.ec_law_pieces.specs.File.{File}
use Rattle.ec_law_net.specs.Turns.{View, turn_of}
use Rattle.ec_law_data.specs.Deeds.{is_post_on}
use Rattle.ec_law_data.specs.Forms.{Shape, is_naming}
use Rattle.ec_law_data.specs.Reading.{Plans}

-- plans for a directory, and the machine of its names
abbrev pub NamePlans : Type 0
NamePlans = Plans (List ℕ) (Option Child) (Option Child) Shape

abbrev pub NameFile : Type 0
NameFile = File (List ℕ) (Option Child) (Option Child) (Option Child) Shape

-- ## Names

-- a name that the op's commit sets on its directory
abbrev pub covers_name : Op → List ℕ → Bool
covers_name (Create dir own) name = same_name own name
covers_name (Mkdir dir own) name = same_name own name
covers_name (Unlink dir own) name = same_name own name
covers_name op name = false

-- the child to which it sets it, where the call took gfid `taken`
abbrev pub child_set : Op → ℕ → Option Child
child_set (Create dir own) taken = Some (record { kind = FileKind; gfid = record { 0 = taken } })
child_set (Mkdir dir own) taken = Some (record { kind = Dir; gfid = record { 0 = taken } })
child_set op taken = None

-- ## Shapes

-- the shape that a head tells
abbrev pub head_shape : Head → Shape
head_shape h = record { size = h.size; attr = h.attr }

-- the shape that a call's commit makes of that of its group
abbrev pub shape_after : Op → Shape → Shape
shape_after op s = record { size = size_after op s.size; attr = unwrap_or (attr_after op) s.attr }

abbrev pub shape_of : Option Head → Shape
shape_of None = record { size = 0; attr = new_attr Dir }
shape_of (Some h) = head_shape h

-- the shape of a call's group on gfid g, by its own entries
abbrev pub group_shape : Given → List Own → ℕ → Shape
group_shape given own g = shape_of (group_of (account given own) g)

-- ## Plans

abbrev pub name_plan : Given → Shape → Plan (List ℕ) (Option Child) (Option Child) Shape
name_plan given shape = record {
  covers = covers_name given.op;
  sets = λ name i. Some (child_set given.op given.child);
  value = λ name. child_set given.op given.child;
  becomes = shape_after given.op shape;
}

-- A call that sends a message takes the shape of its group as long as its turn has no ballot, and plans its own name as long as the
-- turn hasn't planned.
abbrev pub chosen_by : ℕ → View → Books → NameFile → Message → Option Given → NamePlans → NamePlans
chosen_by g v b f msg None plans = plans
chosen_by g v b f msg (Some given) plans = record {
  took = λ x. cond ((x == turn_of g v msg) && ((f.heads.ballot x).number == 0)) (group_shape given (b.own msg.call) g) (plans.took x);
  plan = λ x. cond ((x == turn_of g v msg) && not (f.planned x)) (name_plan given (group_shape given (b.own msg.call) g)) (plans.plan x);
}

abbrev pub chosen_at : ℕ → View → Books → NameFile → Entry → NamePlans → NamePlans
chosen_at g v b f (Sent msg) plans = chosen_by g v b f msg (b.given msg.call) plans
chosen_at g v b f e plans = plans

-- Turn a is one of the log and has planned what its call, that of the ask that began the turn, makes of names.
pub record HasPlan (g : ℕ) (m : Net) (b : Books) (f : NameFile) (a : ℕ) : Type 0 where
  pub begun : 2 ^ 61 ≤ a
  pub below : a < 2 ^ 61 + m.next
  pub given : Given
  pub made : b.given (call_of (m.said (a - 2 ^ 61))) ≡ Some given
  pub covers : (name : List ℕ) → f.covers a name ≡ covers_name given.op name
  pub sets : (name : List ℕ) (i : ℕ) → f.sets a name i ≡ Some (child_set given.op given.child)
  pub value : (name : List ℕ) → f.value a name ≡ child_set given.op given.child

-- Each turn that has planned has its call's plan; and a turn of which a NameSet or PostOp was sent has planned.
pub record HavePlans (g : ℕ) (m : Net) (v : View) (b : Books) (f : NameFile) : Type 0 where
  pub has : (a : ℕ) → f.planned a ≡ true → HasPlan g m b f a
  pub sent : (i : ℕ) (x : Message) (q : Request) → m.said i ≡ Some x → x.body ≡ ToBrick q → (is_naming g q || is_post_on g q) ≡ true → (f.planned (v.of i) ≡ true) × (2 ^ 61 ≤ v.of i)

-- ## The history

-- A call that is built names, by the history of the flat files, what its turns plan: op `op` of a call that took gfid `taken` for its
-- child, as the history has it too.
pub record IsHistory (k g : ℕ) (op : Op) (found : Found) : Type 0 where
  pub covers : (name : List ℕ) → covers_name op name ≡ is_some (named (change k op found g blank).names name)
  pub sets : (name : List ℕ) (child : Option Child) → named (change k op found g blank).names name ≡ Some child → Some (child_set op found.took) ≡ Some child

-- an op that isn't built yet and sets names
abbrev pub is_unbuilt : Op → Bool
is_unbuilt (Rename from_dir from_name to_dir to_name) = true
is_unbuilt (Rmdir dir own) = true
is_unbuilt op = false

abbrev pub PlansAreHistory : Type 0
PlansAreHistory = (k g : ℕ) (op : Op) (found : Found) → is_unbuilt op ≡ false → IsHistory k g op found
