use Rattle.std.proofs.Common.{refl}
use Rattle.ec_wire.specs.declared.request.Request.TheVariants.{ReadChunks, NameGet, NamesAfter}
use Rattle.ec_brick.proofs.Done.{unchanged}
use Rattle.ec_brick.proofs.work.read_work.Goals as goal

pub returns-in-Err-clause-does : goal.returns-in-Err-clause-does
returns-in-Err-clause-does g c = λ config. rw c.in-ReadChunks-Some.is-0 (unchanged config (ReadChunks c.in-ReadChunks-Some.gfid c.in-ReadChunks-Some.grant-0 c.in-ReadChunks-Some.first c.in-ReadChunks-Some.count) _ _ _ _ _ c.in-Err.ensures.does.tells c.in-Err.ensures.does.err refl)

pub returns-in-Err-name-clause-does : goal.returns-in-Err-name-clause-does
returns-in-Err-name-clause-does g c = λ config. rw c.in-NameGet-Some.is-0 (unchanged config (NameGet c.in-NameGet-Some.gfid c.in-NameGet-Some.grant-0 c.in-NameGet-Some.name) _ _ _ _ _ c.in-Err-name.ensures.does.tells c.in-Err-name.ensures.does.err refl)

pub returns-in-Err-names_after-clause-does : goal.returns-in-Err-names_after-clause-does
returns-in-Err-names_after-clause-does g c = λ config. rw c.in-NamesAfter-Some.is-0 (unchanged config (NamesAfter c.in-NamesAfter-Some.gfid c.in-NamesAfter-Some.grant-0 c.in-NamesAfter-Some.after) _ _ _ _ _ c.in-Err-names_after.ensures.does.tells c.in-Err-names_after.ensures.does.err refl)
