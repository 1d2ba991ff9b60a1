-- The size and the attribute of a flat file, beside those of the machine of pieces and of the records.
use Rattle.std.specs.Prelude.{◌≡◌, ℕ, ◌<◌, true, Some}
use Rattle.ec_attr.specs.declared.config.Config.{Config}
use Rattle.ec_conduct.specs.Ballots.{size_after}
use Rattle.ec_history.specs.Flat.{Flat as FlatFile}
use Rattle.ec_history.specs.Holds.{Copies}
use Rattle.ec_history.specs.Run.{Net}
use Rattle.ec_history.specs.Story.{op_of}
use Rattle.ec_store.specs.Records.{Record}
use Rattle.ec_wire.specs.declared.message.Body.TheVariants.{ToBrick}
use Rattle.ec_wire.specs.declared.message.Message.{Message}
use Rattle.ec_wire.specs.declared.request.Request.{Request}
use Rattle.ec_law_net.specs.Turns.{View}
use Rattle.ec_law_data.specs.Deeds.{is_post_on}
use Rattle.ec_law_data.specs.Forms.{Shape}
use Rattle.ec_law_data.specs.Reading.{Plans}

abbrev pub tree_shape : FlatFile → Shape
tree_shape x = record { size = x.size; attr = x.attr }

-- Each turn of which a PostOp was sent plans the size that its call makes of that of the turn's group.
abbrev pub PlanSizes : {P V U : Type 0} → Plans P V U Shape → ℕ → Net → View → Type 0
PlanSizes plans g m v = (i : ℕ) (x : Message) (q : Request) → m.said i ≡ Some x → x.body ≡ ToBrick q → is_post_on g q ≡ true → (plans.plan (v.of i)).becomes.size ≡ size_after (op_of m x.call) (plans.took (v.of i)).size

-- each record at the flat version has the flat size and the flat attribute
abbrev pub AreSized : Config → Copies → FlatFile → Type 0
AreSized config copies flat = (b : ℕ) (r : Record) → b < config.geometry.n → copies b ≡ Some r → r.head.version.content ≡ flat.version → (r.head.size ≡ flat.size) × (r.head.attr ≡ flat.attr)
