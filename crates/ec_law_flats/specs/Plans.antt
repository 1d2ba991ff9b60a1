-- What the plans of a log have to be so that the commits of its machine of pieces are those of the flat file: each turn plans, as it
-- sends its first data request or its PostOp, what the history says that its call's commit makes of the gfid.
use Rattle.std.specs.Prelude.{◌≡◌, ℕ, ◌||◌, Bool, true, false, is_some, Option, Some, List, [], ◌∷◌}
use Rattle.ec_attr.specs.declared.geometry.Geometry.{Geometry}
use Rattle.ec_attr.specs.declared.kind.Child.{Child}
use Rattle.ec_conduct.specs.Given.{quorum}
use Rattle.ec_history.specs.Changes.{Found, change}
use Rattle.ec_history.specs.Flat.{blank, named}
use Rattle.ec_history.specs.Run.{Net, after}
use Rattle.ec_history.specs.Story.{Story, op_of, told}
use Rattle.ec_wire.specs.declared.entry.Entry.{Entry}
use Rattle.ec_wire.specs.declared.entry.Entry.TheVariants.{Called, Sent}
use Rattle.ec_wire.specs.declared.message.Body.{Body}
use Rattle.ec_wire.specs.declared.message.Body.TheVariants.{ToBrick, ToClient}
use Rattle.ec_wire.specs.declared.op.Op.{Op}
use Rattle.ec_wire.specs.declared.op.Op.TheVariants.{Rename, Rmdir, Scrub}
use Rattle.ec_law_pieces.specs.Deed.{Plan}
use Rattle.ec_law_pieces.specs.File.{File}
use Rattle.ec_law_net.specs.Turns.{View, seen_after, turn_of}
use Rattle.ec_law_data.specs.Deeds.{file_after, is_post_on}
use Rattle.ec_law_data.specs.Forms.{Shape}
use Rattle.ec_law_data.specs.Reading.{Plans, Reading}

-- an op that isn't built yet: what a rename and a scrub commit depends on what they find after they have planned
abbrev pub is_unbuilt : Op → Bool
is_unbuilt (Rename from_dir from_name to_dir to_name) = true
is_unbuilt (Rmdir parent name) = true
is_unbuilt (Scrub gfid settle) = true
is_unbuilt op = false

-- no call is one of these
abbrev pub AreBuilt : List Entry → Type 0
AreBuilt [] = Unit {0}
AreBuilt (Called a client op ∷ es) = (is_unbuilt op ≡ false) × AreBuilt es
AreBuilt (e ∷ es) = AreBuilt es

-- a data request or a PostOp on the gfid: by the first one a turn plans
abbrev pub plans_on : {P V C U S : Type 0} → Reading P V C U S → ℕ → Body → Bool
plans_on R g (ToBrick q) = R.is_write g q || is_post_on g q
plans_on R g (ToClient re reply) = false

-- what a plan has to be, by what its call asked for and has found as the turn plans
module _ {P V C U S : Type 0} (R : Reading P V C U S) (Fits : ℕ → Op → Found → Plan P V U S → Type 0) (plans : Plans P V U S) (geometry : Geometry) (g : ℕ) where
  abbrev pub EntryPlans : Net → View → Story → File P V C U S → Entry → Type 0
  EntryPlans m v t f (Sent msg) = plans_on R g msg.body ≡ true → f.planned (turn_of g v msg) ≡ false → Fits (turn_of g v msg) (op_of m msg.call) (t.found msg.call) (plans.plan (turn_of g v msg))
  EntryPlans m v t f e = Unit {0}

  -- so it is of each turn of the log as it plans
  abbrev pub AllPlans : List Entry → Net → View → Story → File P V C U S → Type 0
  AllPlans [] m v t f = Unit {0}
  AllPlans (e ∷ es) m v t f = EntryPlans m v t f e × AllPlans es (after m e) (seen_after g m v e) (told geometry m t e) (file_after R plans geometry.n (quorum geometry) g m v f e)

-- ## A directory

-- A plan covers the names that the call's commit sets, and sets each to what that leads it to. The names of a change don't depend
-- on the flat file.
pub record FitsNames (k g : ℕ) (op : Op) (found : Found) (covered : List ℕ → Bool) (set : List ℕ → ℕ → Option (Option Child)) : Type 0 where
  pub covers : (n : List ℕ) → covered n ≡ is_some (named (change k op found g blank).names n)
  pub sets : (n : List ℕ) (child : Option Child) → named (change k op found g blank).names n ≡ Some child → set n 0 ≡ Some child

abbrev pub NamePlan : ℕ → ℕ → ℕ → Op → Found → Plan (List ℕ) (Option Child) (Option Child) Shape → Type 0
NamePlan k g a op found plan = FitsNames k g op found plan.covers plan.sets
