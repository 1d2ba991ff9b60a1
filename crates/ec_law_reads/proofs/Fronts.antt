-- The machine has the pieces of the bricks before each entry, where each data request that is done puts the codes of what its turn
-- planned.
use Rattle.std.proofs.Common.{ℕ, List, [], ◌∷◌, sym}
use Rattle.ec_conduct.specs.Given.{quorum}
use Rattle.ec_history.specs.IsRun.{IsRun}
use Rattle.ec_history.specs.Run.{Net, after as net_after, fresh}
use Rattle.ec_wire.specs.declared.entry.Entry.{Entry}
use Rattle.ec_law_net.specs.Turns.{View, seen_after}
use Rattle.ec_law_pieces.specs.File.{File}
use Rattle.ec_law_turns.proofs.Basics.{some_none}
use Rattle.ec_law_data.specs.Deeds.{file_after}
use Rattle.ec_law_data.specs.Forms.{CodesZeros, Coder}
use Rattle.ec_law_data.specs.Laws.{begun, begun_file}
use Rattle.ec_law_data.specs.Link.{AllCoded, AllUnmarked, Fits, GoToBricks, HasPieces}
use Rattle.ec_law_data.specs.Reading.{Plans, Reading}
use Rattle.ec_law_data.proofs.Forms.{file_fits}
use Rattle.ec_law_data.proofs.Logs.{pieces_follow, to_entry}
use Rattle.ec_law_data.proofs.OrderlyDeeds.{unmarked_log}
use Rattle.ec_law_reads.specs.Laws.{FrontLaws, HadInEveryLog, HadPieces}
use Rattle.ec_law_reads.specs.Units.{of_units}

units_fit : (unit : List (List ℕ) → ℕ → ℕ) (k : ℕ) (coder : Coder) → CodesZeros k coder → Fits (of_units unit k coder)
units_fit unit k coder zeros =
    let o = file_fits k coder zeros in
    record { writers = o.writers; headed = o.headed; made = o.made; bytes = o.bytes; unset = o.unset; cut = o.cut; name = o.name; names = o.names }

had_pieces : {P V C U S : Type 0} (R : Reading P V C U S) → Fits R → (plans : Plans P V U S) (n k g : ℕ) (es : List Entry) (m : Net) (v : View) (f : File P V C U S) → IsRun n es m → GoToBricks n m → HasPieces R n g m f → AllUnmarked R g es m → AllCoded R plans n k g es m v f → HadPieces R plans n k g es m v f
had_pieces R fits plans n k g [] m v f runs to has unmarked coded = tt
had_pieces R fits plans n k g (e ∷ es) m v f runs to has unmarked coded =
    (has, had_pieces R fits plans n k g es (net_after m e) (seen_after g m v e) (file_after R plans n k g m v f e) runs.1 (to_entry n m e runs.0 to) (pieces_follow R fits plans n k g (e ∷ []) m v f (runs.0, tt) to has (unmarked.0, tt) (coded.0, tt)) unmarked.1 coded.1)

had : HadInEveryLog
had unit coder plans config records bricks tree next g es zeros start runs plain orderly b has coded =
    had_pieces (of_units unit (quorum config.geometry) coder) (units_fit unit (quorum config.geometry) coder zeros) plans config.geometry.n (quorum config.geometry) g es (fresh bricks) (begun config records tree next g) (begun_file (of_units unit (quorum config.geometry) coder) config records g b.flat b.shape b.piece b.value) runs
    (λ i x q is body. absurd (some_none x (sym is))) has (unmarked_log (of_units unit (quorum config.geometry) coder) config records bricks tree next g es start runs plain orderly) coded

pub front_laws : FrontLaws
front_laws = record { had = had }
