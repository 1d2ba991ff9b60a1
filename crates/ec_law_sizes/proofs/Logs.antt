-- The laws of sizes after every log.
use Rattle.std.proofs.Common.{◌≡◌, ℕ, ◌+◌, ◌<◌, List, [], ◌∷◌, ap, arith}
use Rattle.ec_attr.specs.declared.config.Config.{Config}
use Rattle.ec_attr.specs.declared.geometry.Geometry.{Geometry}
use Rattle.ec_brick.specs.State.{State as Brick}
use Rattle.ec_conduct.specs.Ballots.{size_after}
use Rattle.ec_conduct.specs.Given.{quorum}
use Rattle.ec_history.specs.Accounts.{no_books}
use Rattle.ec_history.specs.Flat.{Tree}
use Rattle.ec_history.specs.IsRun.{IsRun}
use Rattle.ec_history.specs.Run.{Net, after as net_after, fresh, run}
use Rattle.ec_history.specs.Starts.{IsStart}
use Rattle.ec_history.specs.Story.{Story, opening, story, told}
use Rattle.ec_store.specs.Records.{Records}
use Rattle.ec_wire.specs.declared.entry.Entry.{Entry}
use Rattle.ec_wire.specs.declared.entry.Entry.TheVariants.{Executed}
use Rattle.ec_wire.specs.declared.request.Request.{Request}
use Rattle.ec_wire.specs.declared.request.Request.TheVariants.{Make}
use Rattle.ec_law_pieces.specs.Deed.{Deed, step}
use Rattle.ec_law_pieces.specs.Deed.Deed.{Create, Take}
use Rattle.ec_law_pieces.specs.File.{File, Flat, Form}
use Rattle.ec_law_pieces.specs.Laws.{Stands}
use Rattle.ec_law_net.specs.Start.{first_heads, is_new}
use Rattle.ec_law_net.specs.Turns.{View, seen_after, view}
use Rattle.ec_law_turns.specs.Laws.{Always}
use Rattle.ec_law_turns.specs.Orderly.{ArePlain, IsOrderly}
use Rattle.ec_law_turns.proofs.Origins.{unversioned}
use Rattle.ec_law_data.specs.Deeds.{all_deeds, file}
use Rattle.ec_law_data.specs.Forms.{Shape, shape_in}
use Rattle.ec_law_data.specs.Laws.{begun, begun_file}
use Rattle.ec_law_data.specs.Owing.{AllOwe, Owes}
use Rattle.ec_law_data.specs.Reading.{Plans, Reading}
use Rattle.ec_law_data.specs.Versions.{PostsInOneTurn}
use Rattle.ec_law_data.proofs.Reaching.{reaches_start}
use Rattle.ec_law_flats.specs.Stripes.{AllSized, EntrySized}
use Rattle.ec_law_shapes.specs.Fitting.{AllOweShape, OwesShape}
use Rattle.ec_law_sizes.specs.Laws.{SizeLaws}
use Rattle.ec_law_sizes.specs.Sizes.{tree_shape}
use Rattle.ec_law_sizes.proofs.Beginning.{begins, first_bare}
use Rattle.ec_law_sizes.proofs.Steps.{EntryShaped, IsPart}
use Rattle.ec_law_sizes.proofs.Telling.{MakesNew}
use Rattle.ec_law_sizes.proofs.Walking.{AllShaped, Ends, MakesAre, PlanParts, walk}

-- what a Take and a Create owe is part of what all deeds owe
pub owe_shapes : {P V C U S : Type 0} (form : Form P V C U S) (n k : ℕ) (ds : List (Deed P V C U S)) (f : File P V C U S) → AllOwe form n k ds f → AllOweShape form n k ds f
owe_shapes form n k [] f h = tt
owe_shapes form n k (d ∷ ds) f h = (one d h.0, owe_shapes form n k ds (step form n k f d) h.1)
  where
    one : (d : Deed _ _ _ _ _) → Owes form n k f d → OwesShape form n k f d
    one (Take a p shape) h = h
    one (Create b shape) h = h
    one d h = tt

module _ {P V C U X : Type 0} (part : Shape → X) (goes : IsPart part) (R : Reading P V C U Shape) (plans : Plans P V U Shape) (config : Config) (records : ℕ → Records) (bricks : ℕ → Brick) (tree : Tree) (next g : ℕ) (es : List Entry) (start : IsStart config records bricks tree next) (runs : IsRun config.geometry.n es (fresh bricks)) (plain : ArePlain es) (orderly : IsOrderly config.geometry es (fresh bricks) (opening tree next)) (one : Always (PostsInOneTurn g) g es (fresh bricks) (begun config records tree next g)) (flat : Flat P U Shape) (piece : ℕ → P → C) (st : Stands R.form config.geometry.n (quorum config.geometry) flat (first_heads config.geometry.n records g) (is_new config.geometry.n records g) (λ b. shape_in (records b g)) piece) (version : flat.version ≡ (tree g).version) (shape : part flat.shape ≡ part (tree_shape (tree g))) where
  most : config.geometry.n < quorum config.geometry + quorum config.geometry
  most = let h = config.geometry.majority in omega (arith, h)

  abbrev f0 : File P V C U Shape
  f0 = begun_file R config records g flat (λ b. shape_in (records b g)) piece st.value

  -- after every log, for any part of a shape
  pub part_log : AllOweShape R.form config.geometry.n (quorum config.geometry) (all_deeds R plans config.geometry.n (quorum config.geometry) g es (fresh bricks) (begun config records tree next g) (begun_file R config records g flat (λ b. shape_in (records b g)) piece st.value)) (begun_file R config records g flat (λ b. shape_in (records b g)) piece st.value)
      → MakesAre part R.new g (run es (fresh bricks)) → PlanParts part plans g (run es (fresh bricks)) (view g es (fresh bricks) (begun config records tree next g))
      → AllShaped part plans.took config.geometry g es (fresh bricks) (begun config records tree next g) (opening tree next)
      × Ends (tree g).version part R plans config.geometry g (run es (fresh bricks)) (view g es (fresh bricks) (begun config records tree next g)) (story config.geometry es (fresh bricks) (opening tree next)) (file R plans config.geometry.n (quorum config.geometry) g es (fresh bricks) (begun config records tree next g) (begun_file R config records g flat (λ b. shape_in (records b g)) piece st.value))
  part_log owe makes ops =
      walk (tree g).version part goes R plans config.geometry orderly.left orderly.none_kept next (λ h. (tree h).version) (λ h le. unversioned config records bricks tree next h start le) g es (fresh bricks) (λ h. begun config records tree next h) (opening tree next) no_books f0
      (first_bare part R plans config records bricks tree next g start flat piece st version shape) runs plain (λ a given h. (orderly.conduct a given h, orderly.order a given h)) (reaches_start config records bricks tree next (λ a. a) most start)
      (begins part R plans config records bricks tree next g start flat piece st version shape) one owe makes ops

-- ## Sizes

size_part : IsPart (λ (s : Shape). s.size)
size_part op s h e = ap (size_after op) e

new_size : (new : Shape) → new.size ≡ 0 → (g : ℕ) (q : Request) → MakesNew (λ (s : Shape). s.size) new g q
new_size new e g (Make x n child) = λ on. e
new_size new e g q = tt

all_sized : (took : ℕ → Shape) (geometry : Geometry) (g : ℕ) (es : List Entry) (m : Net) (v : View) (t : Story) → AllShaped (λ (s : Shape). s.size) took geometry g es m v t → AllSized took geometry g es m v t
all_sized took geometry g [] m v t h = tt
all_sized took geometry g (e ∷ es) m v t h = (by e h.0, all_sized took geometry g es (net_after m e) (seen_after g m v e) (told geometry m t e) h.1)
  where
    by : (e : Entry) → EntryShaped (λ (s : Shape). s.size) took geometry g m v t e → EntrySized took geometry g m v t e
    by (Executed i version failed) h = h
    by e h = tt

pub size_laws : {P V C U : Type 0} (R : Reading P V C U Shape) → R.new.size ≡ 0 → SizeLaws R
size_laws R new = record {
  sized = λ plans config records bricks tree next g es start runs plain orderly one flat piece st version size owe ops.
      let f0 = begun_file R config records g flat (λ b. shape_in (records b g)) piece st.value in
      let ds = all_deeds R plans config.geometry.n (quorum config.geometry) g es (fresh bricks) (begun config records tree next g) f0 in
      all_sized plans.took config.geometry g es (fresh bricks) (begun config records tree next g) (opening tree next)
      (part_log (λ (s : Shape). s.size) size_part R plans config records bricks tree next g es start runs plain orderly one flat piece st version size
      (owe_shapes R.form config.geometry.n (quorum config.geometry) ds f0 owe)
      (λ i x q is body. new_size R.new new g q) ops).0;
}
