-- Each chunk that a run sends has 512 bytes.
use Rattle.std.proofs.Common.{ℕ, List, [], ◌∷◌}
use Rattle.ec_history.specs.IsRun.{AreChunks, IsRun, May, MaySay}
use Rattle.ec_history.specs.Run.{Net, after}
use Rattle.ec_wire.specs.declared.entry.Entry.{Entry}
use Rattle.ec_wire.specs.declared.entry.Entry.TheVariants.{Sent}
use Rattle.ec_wire.specs.declared.message.Body.{Body}
use Rattle.ec_wire.specs.declared.message.Body.TheVariants.{ToBrick, ToClient}
use Rattle.ec_wire.specs.declared.message.Message.{Message}
use Rattle.ec_wire.specs.declared.request.Request.{Request}
use Rattle.ec_law_data.specs.Link.{IsWhole}
use Rattle.ec_law_data.proofs.Chunks.{whole_request}
use Rattle.ec_law_plans.specs.Given.{BodyIs, EachRequest, EntryIs}

body_chunks : (n : ℕ) (m : Net) (msg : Message) (z : Body) → MaySay n m msg z → BodyIs AreChunks z
body_chunks n m msg (ToBrick q) may = may.chunks
body_chunks n m msg (ToClient re reply) may = tt

entry_chunks : (n : ℕ) (m : Net) (e : Entry) → May n m e → EntryIs AreChunks e
entry_chunks n m (Sent msg) may = body_chunks n m msg msg.body may.1
entry_chunks n m e may = tt

pub run_chunks : (n : ℕ) (es : List Entry) (m : Net) → IsRun n es m → EachRequest AreChunks es
run_chunks n [] m runs = tt
run_chunks n (e ∷ es) m runs = (entry_chunks n m e runs.0, run_chunks n es (after m e) runs.1)

body_whole : (z : Body) → BodyIs AreChunks z → BodyIs IsWhole z
body_whole (ToBrick q) each = whole_request q each
body_whole (ToClient re reply) each = tt

entry_whole : (e : Entry) → EntryIs AreChunks e → EntryIs IsWhole e
entry_whole (Sent msg) each = body_whole msg.body each
entry_whole e each = tt

each_whole : (es : List Entry) → EachRequest AreChunks es → EachRequest IsWhole es
each_whole [] each = tt
each_whole (e ∷ es) each = (entry_whole e each.0, each_whole es each.1)

pub run_whole : (n : ℕ) (es : List Entry) (m : Net) → IsRun n es m → EachRequest IsWhole es
run_whole n es m runs = each_whole es (run_chunks n es m runs)
