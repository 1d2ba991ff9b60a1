-- The bricks hold the closed stripes of the flat file after every log.
use Rattle.std.proofs.Common.{◌≡◌, ℕ, ◌+◌, ◌<◌, ◌≤◌, arith, refl, sym}
use Rattle.ec_conduct.specs.Given.{quorum}
use Rattle.ec_history.specs.Accounts.{books, no_books}
use Rattle.ec_history.specs.Run.{fresh, run}
use Rattle.ec_history.specs.Story.{opening}
use Rattle.ec_law_data.specs.Coding.{by_rows}
use Rattle.ec_law_data.specs.Forms.{shape_in}
use Rattle.ec_law_data.specs.Laws.{begun}
use Rattle.ec_law_data.proofs.OrderlyDeeds.{all_reach}
use Rattle.ec_law_data.proofs.Reaching.{reaches_start}
use Rattle.ec_law_net.specs.Turns.{view}
use Rattle.ec_law_files.specs.Plans.{form_by}
use Rattle.ec_law_flats.specs.Stripes.{file_flat}
use Rattle.ec_law_flats.proofs.BuiltLogs.{built_log}
use Rattle.ec_law_flats.proofs.StripeFlats.{flat_stripe_laws}
use Rattle.ec_law_reads.specs.Rows.{row_at}
use Rattle.ec_law_reads.proofs.Stripes.{stripe_laws}
use Rattle.ec_law_turns.proofs.Basics.{some_none}
use Rattle.ec_law_turns.proofs.Origins.{unversioned}
use Rattle.ec_law_turns.proofs.Runs.{Kept}
use Rattle.ec_law_sizes.proofs.Logs.{size_laws}
use Rattle.ec_law_stripes.specs.Begins.{piece_in, stripes_begun}
use Rattle.ec_law_stripes.specs.Bytes.{low, of_volume}
use Rattle.ec_law_stripes.specs.HeldStripes.{HeldInEveryLog}
use Rattle.ec_law_stripes.proofs.FitLogs.{cuts_keep, fit_log}
use Rattle.ec_law_stripes.proofs.PlanSizes.{plan_sizes, posts_in_one}
use Rattle.ec_law_stripes.proofs.StripeLogs.{striped_logs}

pub held_logs : HeldInEveryLog
held_logs config records bricks tree next g es start zeros runs plain orderly empty data_first makings made files built some one =
    let s = striped_logs config records bricks tree next g es start zeros runs plain orderly empty data_first makings made files in
    let most : config.geometry.n < quorum config.geometry + quorum config.geometry = (let h = config.geometry.majority in omega (arith, h)) in
    let begins = reaches_start config records bricks tree next (λ a. a) most start in
    let kept : Kept config.geometry orderly.left orderly.none_kept (books config.geometry orderly.left es (fresh bricks) (opening tree next) no_books) = (λ a given h. (orderly.conduct a given h, orderly.order a given h)) in
    let none : ((h : ℕ) → next ≤ h → (tree h).version ≡ 0) = λ h le. unversioned config records bricks tree next h start le in
    let reaches = all_reach config.geometry orderly.left orderly.none_kept next (λ h. (tree h).version) none es (fresh bricks) (λ h. begun config records tree next h) (opening tree next) no_books runs plain kept begins in
    let fits = fit_log makings (by_rows (quorum config.geometry) (row_at (quorum config.geometry) config.geometry.algorithm)) s.plans config.geometry orderly.left orderly.none_kept next (λ h. (tree h).version) none g es (fresh bricks) (λ h. begun config records tree next h) (opening tree next) no_books (stripes_begun config records tree g s.begins.stands) runs plain kept begins
    (λ a given is. absurd (some_none given (sym is)))
    (record { have = s.have; planned = s.planned; ops = s.ops; callers = λ i x is. (reaches.reached g).known.messages.caller i x is; some = some; built = built }) in
    let cuts = cuts_keep makings (by_rows (quorum config.geometry) (row_at (quorum config.geometry) config.geometry.algorithm)) s.plans config.geometry orderly.left orderly.none_kept next (λ h. (tree h).version) none g es (fresh bricks) (λ h. begun config records tree next h) (opening tree next) no_books _ runs plain kept begins s.have in
    let sized = (size_laws (of_volume config.geometry) refl).sized s.plans config records bricks tree next g es start runs plain orderly (posts_in_one g es (fresh bricks) (begun config records tree next g) one)
    (file_flat (quorum config.geometry) (tree g)) (λ b. piece_in (records b g)) s.begins.stands refl refl s.owes.owe
    (plan_sizes makings s.plans g (run es (fresh bricks)) (view g es (fresh bricks) (begun config records tree next g)) (books config.geometry orderly.left es (fresh bricks) (opening tree next) no_books) _ s.have s.planned s.ops (λ i x is. (reaches.reached g).known.messages.caller i x is)) in
    flat_stripe_laws.held (by_rows (quorum config.geometry) (row_at (quorum config.geometry) config.geometry.algorithm)) (form_by low (quorum config.geometry) (by_rows (quorum config.geometry) (row_at (quorum config.geometry) config.geometry.algorithm))) s.plans config records bricks tree next g es start runs plain
    (built_log config.geometry es (fresh bricks) runs built) orderly one cuts
    (file_flat (quorum config.geometry) (tree g)) (λ b. shape_in (records b g)) (λ b. piece_in (records b g)) s.begins.stands.value
    (flat_stripe_laws.begins (quorum config.geometry) (tree g)) fits sized
    (row_at (quorum config.geometry) config.geometry.algorithm)
    (λ b lt. stripe_laws.row (quorum config.geometry) config.geometry.algorithm b (let h = config.geometry.most in omega (arith, h)) (let h = config.geometry.bricks in omega (arith, h, lt)))
    (record { codes = λ x b. refl; units = λ x i lt. refl })
    s.held
