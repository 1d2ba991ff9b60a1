-- A file read by the low eight bits of its bytes fits what bricks do.
use Rattle.std.proofs.Common.{ℕ, ap, sym}
use Rattle.ec_brick.specs.State.{State as Brick}
use Rattle.ec_conduct.specs.Given.{quorum}
use Rattle.ec_history.specs.Run.{fresh, run}
use Rattle.ec_law_ballots.specs.Begin.{begin}
use Rattle.ec_law_data.specs.Coding.{by_rows}
use Rattle.ec_law_data.specs.Deeds.{file}
use Rattle.ec_law_data.specs.Laws.{HeldInEveryOwedLog, begun, begun_file}
use Rattle.ec_law_data.specs.Link.{Fits, GoToBricks}
use Rattle.ec_law_data.specs.Reading.{Reading}
use Rattle.ec_law_data.proofs.Coding.{coding_laws}
use Rattle.ec_law_data.proofs.Cores.{log_heads}
use Rattle.ec_law_data.proofs.Forms.{file_fits}
use Rattle.ec_law_data.proofs.Holding.{held}
use Rattle.ec_law_data.proofs.Logs.{pieces_follow}
use Rattle.ec_law_data.proofs.OrderlyDeeds.{linked_end, owed_laws, unmarked_log}
use Rattle.ec_law_net.specs.Start.{first_heads, is_new}
use Rattle.ec_law_net.specs.Turns.{view}
use Rattle.ec_law_turns.proofs.Basics.{some_none}
use Rattle.ec_law_stripes.specs.Bytes.{of_bytes}
use Rattle.ec_law_stripes.specs.Laws.{ByteLaws}

-- bytes may be read in any way
pub bytes_fit : (k : ℕ) (rows : ℕ → ℕ → ℕ) → Fits (of_bytes k rows)
bytes_fit k rows =
    let f = file_fits k (by_rows k rows) (coding_laws.zeros k rows) in
    record { writers = f.writers; headed = f.headed; made = f.made; bytes = f.bytes; unset = f.unset; cut = f.cut; name = f.name; names = f.names }

to_none : (n : ℕ) (bricks : ℕ → Brick) → GoToBricks n (fresh bricks)
to_none n bricks i x q is body = absurd (some_none x (sym is))

-- a log of any reading that fits
held_log : {P V C U S : Type 0} (R : Reading P V C U S) → Fits R → HeldInEveryOwedLog R
held_log R fits plans config records bricks tree next g es start runs plain orderly flat shape piece st version has owes coded =
    held R config.geometry.n (quorum config.geometry) g (run es (fresh bricks)) (view g es (fresh bricks) (begun config records tree next g)) (linked_end config records bricks tree next g es start runs plain orderly)
    (file R plans config.geometry.n (quorum config.geometry) g es (fresh bricks) (begun config records tree next g) (begun_file R config records g flat shape piece st.value))
    (log_heads R plans config.geometry.n (quorum config.geometry) g es (fresh bricks) (begun config records tree next g) (begun_file R config records g flat shape piece st.value) (ap (λ (origin : ℕ). begin config.geometry.n origin (first_heads config.geometry.n records g) (is_new config.geometry.n records g) (λ a. a)) version))
    ((owed_laws R fits).closed plans config records bricks tree next g es start runs plain orderly flat shape piece st version owes)
    (pieces_follow R fits plans config.geometry.n (quorum config.geometry) g es (fresh bricks) (begun config records tree next g) (begun_file R config records g flat shape piece st.value) runs (to_none config.geometry.n bricks) has (unmarked_log R config records bricks tree next g es start runs plain orderly) coded)

pub byte_laws : (k : ℕ) (rows : ℕ → ℕ → ℕ) → ByteLaws k rows
byte_laws k rows = record { fits = bytes_fit k rows; follow = pieces_follow (of_bytes k rows) (bytes_fit k rows); held = held_log (of_bytes k rows) (bytes_fit k rows) }
