use Rattle.ec_entry.proofs.unlink.remove_past.Goals as goal

pub returns : goal.returns
returns c = (c.first_past.result, c.first_past.ensures, c.remove_child.ensures)
