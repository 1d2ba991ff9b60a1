use Rattle.ec_law_data.specs.Forms.{of_directory}
use Rattle.ec_law_data.proofs.Forms.{directory_fits}
use Rattle.ec_law_shapes.proofs.Logs.{laws as shape_laws}
use Rattle.ec_law_writes.proofs.Writing.{laws as written_laws}
use Rattle.ec_law_names.proofs.Shapes.{shape_law}
use Rattle.ec_law_names.proofs.Worlds.{world_names}
use Rattle.ec_law_names.proofs.Writes.{takes_names, write_law}
use Rattle.ec_law_names.proofs.world_name_laws.Goals as goal

pub returns : goal.returns
returns c = world_names _ _ c.call_laws.ensures c.world_laws.ensures c.call_built_laws.ensures c.world_flat_laws.ensures c.world_head_laws.ensures c.name_laws.ensures c.flat_name_laws.ensures c.planned_history.ensures (write_law c.write_guard_laws.ensures (written_laws of_directory takes_names)) (shape_law (shape_laws of_directory directory_fits))
