-- How the data of one gfid are read in a log: what a record has at each place, and which requests write and read there.
use Rattle.std.specs.Prelude.{ℕ, Bool}
use Rattle.ec_store.specs.Records.{Record}
use Rattle.ec_wire.specs.declared.request.Request.{Request}
use Rattle.ec_law_pieces.specs.Deed.{Plan}
use Rattle.ec_law_pieces.specs.File.{Form}

-- `held` is what a record has at a place. Of a request on gfid g, `is_write` is whether it writes data, `writes` at which
-- places, and `puts` what it puts there; `reads` at which places it reads. `new` is the shape of a new record.
pub record Reading (P V C U S : Type 0) : Type 0 where
  pub form : Form P V C U S
  pub held : Record → P → C
  pub is_write : ℕ → Request → Bool
  pub writes : ℕ → Request → P → Bool
  pub puts : Request → P → C
  pub is_read : ℕ → Request → Bool
  pub reads : ℕ → Request → P → Bool
  pub new : S

-- By turn: the shape of its group, and what its commit is made of. No one entry of a log tells it: it is what the call made
-- of all that it heard.
pub record Plans (P V U S : Type 0) : Type 0 where
  pub took : ℕ → S
  pub plan : ℕ → Plan P V U S
