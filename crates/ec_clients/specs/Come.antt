-- What has come of a log: the net, the story of the flat files and the books of the calls, read beside each other.
use Rattle.std.specs.Prelude.{ℕ, None, List, [], ◌∷◌}
use Rattle.ec_attr.specs.declared.geometry.Geometry.{Geometry}
use Rattle.ec_wire.specs.declared.entry.Entry.{Entry}
use Rattle.ec_history.specs.Accounts.{Books, Leaving, booked}
use Rattle.ec_history.specs.Run.{Net, after}
use Rattle.ec_history.specs.Story.{Story, told}

pub record Come : Type 0 where
  pub net : Net
  pub story : Story
  pub books : Books

-- a call leaves no grants and no stripes to its client's next one
abbrev pub nothing_left : ℕ → Leaving
nothing_left a = record { kept = None; cache = [] }

abbrev pub come_after : Geometry → Come → Entry → Come
come_after geometry p e = record {
  net = after p.net e;
  story = told geometry p.net p.story e;
  books = booked geometry nothing_left p.net p.story p.books e;
}

-- after all of these, the first one first
abbrev pub come : Geometry → List Entry → Come → Come
come geometry [] p = p
come geometry (e ∷ es) p = come geometry es (come_after geometry p e)
