-- A Granted that comes late: its ask was released already.
use Rattle.std.specs.Prelude.{ℕ, Bool, cond, Option, Some, None, List, [], ◌∷◌}
use Rattle.ec_attr.specs.declared.gfid.Gfid.{Gfid}
use Rattle.ec_wire.specs.declared.entry.Entry.{Entry}
use Rattle.ec_wire.specs.declared.entry.Entry.TheVariants.{Sent}
use Rattle.ec_wire.specs.declared.message.Body.{Body}
use Rattle.ec_wire.specs.declared.message.Body.TheVariants.{ToBrick, ToClient}
use Rattle.ec_wire.specs.declared.message.Message.{Message}
use Rattle.ec_wire.specs.declared.reply.Reply.{Reply}
use Rattle.ec_wire.specs.declared.reply.Reply.TheVariants.{Granted}
use Rattle.ec_wire.specs.declared.request.Request.TheVariants.{Ask, Release}
use Rattle.ec_clients.specs.Calls.{request_message}

abbrev pub asked_by : Body → Option Gfid
asked_by (ToBrick (Ask g domain kind)) = Some g
asked_by body = None

-- the gfid that a message asks for
abbrev pub asked_gfid : Option Message → Option Gfid
asked_gfid None = None
asked_gfid (Some m) = asked_by m.body

abbrev pub granted_gfid : Reply → Option Message → Option Gfid
granted_gfid Granted asked = asked_gfid asked
granted_gfid reply asked = None

abbrev pub late_by : Bool → Option Message → Body → Option Gfid
late_by released asked (ToBrick q) = None
late_by released asked (ToClient re reply) = cond released (granted_gfid reply asked) None

-- The gfid of the ask, where the message is a Granted whose ask was released.
abbrev pub late_gfid : Bool → Option Message → Option Message → Option Gfid
late_gfid released asked None = None
late_gfid released asked (Some m) = late_by released asked m.body

-- a Release of it once more
abbrev pub late_entries : ℕ → ℕ → ℕ → ℕ → ℕ → Option Gfid → List Entry
late_entries i a j b re None = []
late_entries i a j b re (Some g) = Sent (request_message i a j b (Release g re)) ∷ []
