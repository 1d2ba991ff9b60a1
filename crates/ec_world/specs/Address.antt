-- Whither messages go.
use Rattle.std.specs.Prelude.{Option, Some, None}
use Rattle.ec_wire.specs.declared.message.Body.{Body}
use Rattle.ec_wire.specs.declared.message.Body.TheVariants.{ToBrick, ToClient}
use Rattle.ec_wire.specs.declared.message.Message.{Message}
use Rattle.ec_world.specs.declared.address.Address.{Address}
use Rattle.ec_world.specs.declared.address.Address.TheVariants.{Brick, Client}

abbrev pub body_address : Message → Body → Address
body_address m (ToBrick q) = Brick m.brick
body_address m (ToClient re reply) = Client m.client m.call m.brick re

abbrev pub address_of : Option Message → Option Address
address_of None = None
address_of (Some m) = Some (body_address m m.body)
