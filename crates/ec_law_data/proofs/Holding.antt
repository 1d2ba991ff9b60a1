-- What the bricks hold at the end of an orderly log.
use Rattle.ec_law_data.proofs.Directories.{directory_pieces, directory_stands}
use Rattle.std.proofs.Common.{◌≡◌, ℕ, ◌<◌, Bool, true, false, not, ◌==◌, ◌&&◌, Option, Some, None, refl, sym, ◌∙◌, ap, subst, arith}
use Rattle.std.proofs.lemmas.Bool.Decides.{nat_tests}
use Rattle.std.specs.Option.{option_map}
use Rattle.ec_attr.specs.Marks.{is_marked}
use Rattle.ec_brick.specs.State.{State as Brick}
use Rattle.ec_conduct.specs.Given.{quorum}
use Rattle.ec_history.specs.Holds.{is_at_version}
use Rattle.ec_history.specs.Run.{Net, fresh, run}
use Rattle.ec_store.specs.Records.{Record}
use Rattle.ec_law_base.specs.State.{State}
use Rattle.ec_attr.proofs.Sets.{part}
use Rattle.ec_law_ballots.specs.Begin.{begin, is_plain}
use Rattle.ec_law_ballots.specs.Words.{head}
use Rattle.ec_law_pieces.specs.File.{File}
use Rattle.ec_law_pieces.specs.Laws.{Alike, Closed}
use Rattle.ec_law_net.specs.Link.{IsHead, Linked}
use Rattle.ec_law_net.specs.Start.{first_heads, is_new}
use Rattle.ec_law_net.specs.Turns.{View, view}
use Rattle.ec_law_turns.proofs.Basics.{some_none}
use Rattle.ec_law_turns.proofs.Groups.{plain}
use Rattle.ec_law_data.specs.Deeds.{file}
use Rattle.ec_law_data.specs.Forms.{of_directory, of_file, child_in, directory_flat, shape_in}
use Rattle.ec_law_data.specs.Laws.{HeldInEveryOwedLog, HeldLaws, begun, begun_file, HeldNames}
use Rattle.ec_law_data.specs.Link.{AgreeAtFlat, Fits, GoToBricks, HasPieces, HoldClosed}
use Rattle.ec_law_data.specs.Reading.{Reading}
use Rattle.ec_law_data.proofs.Cores.{log_heads}
use Rattle.ec_law_data.proofs.Forms.{directory_fits, file_fits}
use Rattle.ec_law_data.proofs.Logs.{pieces_follow}
use Rattle.ec_law_data.proofs.OrderlyDeeds.{linked_end, owed_laws, unmarked_log}

-- an unmarked record at a version, as the machine of versions has it
plain_there : (n g : ℕ) (m : Net) (v : View) → Linked n g m v → (b version : ℕ) (r : Record) → b < n → (m.brick b).records g ≡ Some r → is_marked r.head.version.content ≡ false → r.head.version.content ≡ version → is_plain version (head v.core b) ≡ true
plain_there n g m v l b version r lt is unmarked at =
    let h = subst (λ (o : Option Record). IsHead (option_map (λ (r : Record). r.head) o) v.core b) is (l.heads b lt) in
    tests (v.core.present b) (v.core.marked b) (v.core.version b) version h.0 (h.2 ∙ unmarked) (h.1 ∙ (plain r.head.version.content unmarked ∙ at))
  where
    tests : (t u : Bool) (x y : ℕ) → t ≡ true → u ≡ false → x ≡ y → (t && not u && (x == y)) ≡ true
    tests t u x y e f h = grind (arith, nat_tests)

-- an unmarked record of a version is one of those that agree
agree_there : (n g : ℕ) (m : Net) (v : View) → Linked n g m v → (version b : ℕ) → is_marked version ≡ false → b < n → is_at_version version ((m.brick b).records g) ≡ true → is_plain version (head v.core b) ≡ true
agree_there n g m v l version b unmarked lt h = by ((m.brick b).records g) refl h
  where
    equal : (x y : ℕ) → (x == y) ≡ true → x ≡ y
    equal x y e = grind (arith, nat_tests)

    by : (o : Option Record) → (m.brick b).records g ≡ o → is_at_version version o ≡ true → is_plain version (head v.core b) ≡ true
    by None is h = absurd (cc)
    by (Some r) is h = let e = equal r.head.version.content version h in plain_there n g m v l b version r lt is (ap is_marked e ∙ unmarked) e

module _ {P V C U S : Type 0} (R : Reading P V C U S) (n k g : ℕ) (m : Net) (v : View) (l : Linked n g m v) (f : File P V C U S) (same : f.heads ≡ v.core) where
  pub held : Closed R.form n k f → HasPieces R n g m f → HoldClosed R n g m f
  held closed has p shut = let x = closed p shut in (
    x.0,
    record {
      codes = λ b r lt is unmarked at. sym (has b r lt is p) ∙ x.1.codes b (subst (λ (s : State). is_plain f.flat.version (head s b) ≡ true) (sym same) (plain_there n g m v l b f.flat.version r lt is unmarked at));
      units = x.1.units;
    },
  )

  pub agree : Alike R.form n k f → AgreeAtFlat n k g m f
  agree alike version unmarked enough =
      let more = part n (λ b. is_at_version version ((m.brick b).records g)) (λ b. is_plain version (head f.heads b)) (λ b lt h. subst (λ (s : State). is_plain version (head s b) ≡ true) (sym same) (agree_there n g m v l version b unmarked lt h)) in
      (alike version (omega (arith, more, enough))).0

to_none : (n : ℕ) (bricks : ℕ → Brick) → GoToBricks n (fresh bricks)
to_none n bricks i x q is body = absurd (some_none x (sym is))

held_log : {P V C U S : Type 0} (R : Reading P V C U S) → Fits R → HeldInEveryOwedLog R
held_log R fits plans config records bricks tree next g es start runs plain' orderly flat shape piece st version has owes coded =
    held R config.geometry.n (quorum config.geometry) g (run es (fresh bricks)) (view g es (fresh bricks) (begun config records tree next g)) (linked_end config records bricks tree next g es start runs plain' orderly)
    (file R plans config.geometry.n (quorum config.geometry) g es (fresh bricks) (begun config records tree next g) (begun_file R config records g flat shape piece st.value))
    (log_heads R plans config.geometry.n (quorum config.geometry) g es (fresh bricks) (begun config records tree next g) (begun_file R config records g flat shape piece st.value) (ap (λ (origin : ℕ). begin config.geometry.n origin (first_heads config.geometry.n records g) (is_new config.geometry.n records g) (λ a. a)) version))
    ((owed_laws R fits).closed plans config records bricks tree next g es start runs plain' orderly flat shape piece st version owes)
    (pieces_follow R fits plans config.geometry.n (quorum config.geometry) g es (fresh bricks) (begun config records tree next g) (begun_file R config records g flat shape piece st.value) runs (to_none config.geometry.n bricks) has (unmarked_log R config records bricks tree next g es start runs plain' orderly) coded)

held_names : HeldNames
held_names plans config records bricks tree next g es start runs plain' orderly owes coded = held_log of_directory directory_fits plans config records bricks tree next g es start runs plain' orderly (directory_flat (tree g)) (λ b. shape_in (records b g)) (λ b. child_in (records b g)) (directory_stands config records bricks tree next g start) refl (directory_pieces config records bricks tree next g start) owes coded

pub held_laws : HeldLaws
held_laws = record { of_files = λ k coder zeros. held_log (of_file k coder) (file_fits k coder zeros); of_directories = held_log of_directory directory_fits; of_names = held_names }
