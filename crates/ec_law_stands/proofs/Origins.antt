-- An unmarked record at the flat file's version is one that stood at it as the log began, unless no brick had a record then.
use Rattle.std.proofs.Common.{◌≡◌, ◌⊎◌, ℕ, ◌<◌, Bool, true, false, not, cond, ◌==◌, ◌&&◌, Option, Some, None, List, [], ◌∷◌, refl, sym, ◌∙◌, ap, subst, arith, inl, inr}
use Rattle.std.proofs.lemmas.Bool.Decides.{nat_tests}
use Rattle.std.specs.Option.{option_map}
use Rattle.ec_attr.specs.Marks.{is_marked}
use Rattle.ec_attr.specs.declared.config.Config.{Config}
use Rattle.ec_brick.specs.State.{State as Brick}
use Rattle.ec_conduct.specs.Given.{quorum}
use Rattle.ec_history.specs.Flat.{Opener, Tree}
use Rattle.ec_history.specs.Flat.Opener.{Nobody}
use Rattle.ec_history.specs.Holds.{is_at_version}
use Rattle.ec_history.specs.IsRun.{IsRun}
use Rattle.ec_history.specs.Run.{Net, fresh, run}
use Rattle.ec_history.specs.Starts.{IsStart}
use Rattle.ec_history.specs.Story.{opening}
use Rattle.ec_store.specs.Records.{Record, Records}
use Rattle.ec_wire.specs.declared.entry.Entry.{Entry}
use Rattle.ec_law_base.specs.State.{State}
use Rattle.ec_law_ballots.specs.Begin.{is_plain}
use Rattle.ec_law_ballots.specs.Words.{head}
use Rattle.ec_law_pieces.specs.Deed.{Deed, after as after_deeds, commits, flat_after, step}
use Rattle.ec_law_pieces.specs.Deed.Deed.{Do, Look, Take, Take_kept, Read, Intend, Write, Tear, Copy, Spoil, Commit, Follow, Begin, Finish, Create}
use Rattle.ec_law_pieces.specs.File.{File, Flat}
use Rattle.ec_law_pieces.specs.Laws.{Stands}
use Rattle.ec_law_net.specs.Link.{IsHead, Linked}
use Rattle.ec_law_net.specs.Start.{first_heads, is_new}
use Rattle.ec_law_net.specs.Turns.{view}
use Rattle.ec_law_net.proofs.Starting.{starts_linked}
use Rattle.ec_law_turns.specs.Orderly.{ArePlain, IsOrderly}
use Rattle.ec_law_turns.proofs.Basics.{equal, itself, some_none}
use Rattle.ec_law_turns.proofs.Groups.{plain}
use Rattle.ec_law_data.specs.Deeds.{all_deeds, file}
use Rattle.ec_law_data.specs.Laws.{begun, begun_file, versions_begun}
use Rattle.ec_law_data.specs.Link.{Fits}
use Rattle.ec_law_data.specs.Owing.{AllOwe, Owes}
use Rattle.ec_law_data.specs.Reading.{Plans, Reading}
use Rattle.ec_law_data.specs.Versions.{no_plans, of_versions}
use Rattle.ec_law_data.proofs.Cores.{core_laws}
use Rattle.ec_law_data.proofs.Directories.{at_version, no_record, positive}
use Rattle.ec_law_data.proofs.OrderlyDeeds.{linked_end, owed_laws}
use Rattle.ec_law_data.proofs.Versions.{flat_laws}
use Rattle.ec_law_heads.specs.Laws.{flat_after as flat_file_after}
use Rattle.ec_law_parts.specs.Laws.{AlwaysInOneTurn}
use Rattle.ec_law_stands.proofs.Silent.{Silent, Silents, log_version, silent_log}

-- ## A reading of where records come from

-- At its one place a record has whether it stood at the flat version as the log began.
abbrev of_origin : Reading (Unit {0}) Bool Bool Bool (Unit {0})
of_origin = record {
  form = record { code = λ x b. x; unit = λ x i. x; past = λ shape p. false; zero = false };
  held = λ r p. false;
  is_write = λ g q. false;
  writes = λ g q p. false;
  puts = λ q p. false;
  is_read = λ g q. false;
  reads = λ g q p. false;
  new = tt;
}

origin_fits : Fits of_origin
origin_fits = record {
  writers = λ g q e. absurd (cc);
  headed = λ r h p. refl;
  made = λ h p b. refl;
  bytes = λ x n first chunks r p w. refl;
  unset = λ x n first count chunks r p le e. refl;
  cut = λ x n keep count r p. refl;
  name = λ x n name child r p. refl;
  names = λ x n start upto list r p e. refl;
}

-- no turn covers it
abbrev covers_none : Plans (Unit {0}) Bool Bool (Unit {0})
covers_none = record { took = λ a. tt; plan = λ a. record { covers = λ p. false; sets = λ p i. None; value = λ p. false; becomes = tt } }

abbrev OriginFile : Type 0
OriginFile = File (Unit {0}) Bool Bool Bool (Unit {0})

same_unit : (x y : Unit {0}) → x ≡ y
same_unit x y = refl

skip : {X : Type 0} (t : Bool) (x y : X) → t ≡ false → cond t x y ≡ y
skip true x y e = absurd (cc)
skip false x y e = refl

-- ## It stays so

-- nothing is covered or opened, what is known stays, and no record comes to have stood there
record Rests (known : Bool) (first : ℕ → Bool) (covers : ℕ → Unit {0} → Bool) (unit : Unit {0} → ℕ → Option Bool) (opener : Unit {0} → Opener) (piece : ℕ → Unit {0} → Bool) : Type 0 where
  pub covers_is : (a : ℕ) (p : Unit {0}) → covers a p ≡ false
  pub unit_is : (p : Unit {0}) (i : ℕ) → unit p i ≡ Some known
  pub opener_is : (p : Unit {0}) → opener p ≡ Nobody
  pub piece_is : (b : ℕ) (p : Unit {0}) → piece b p ≡ true → first b ≡ true

module _ (known : Bool) (first : ℕ → Bool) (n k : ℕ) where
  abbrev RestsIn : OriginFile → Type 0
  RestsIn f = Rests known first f.covers f.flat.unit f.flat.opener f.piece

  rests_step : (d : Deed (Unit {0}) Bool Bool Bool (Unit {0})) (f : OriginFile) → Silent d → RestsIn f → RestsIn (step of_origin.form n k f d)
  rests_step (Do e) f s h = h
  rests_step (Look a b) f s h = h
  rests_step (Take a p shape) f s h = h
  rests_step (Take_kept x a p) f s h = h
  rests_step (Read a b places) f s h = h
  rests_step (Intend a plan) f s h = record { covers_is = covers; unit_is = h.unit_is; opener_is = h.opener_is; piece_is = h.piece_is }
    where
      covers : (x : ℕ) (p : Unit {0}) → cond (x == a) (plan.covers p) (f.covers x p) ≡ false
      covers x p = by (x == a)
        where
          by : (t : Bool) → cond t (plan.covers p) (f.covers x p) ≡ false
          by true = s p
          by false = h.covers_is x p
  rests_step (Write a b places) f s h = absurd s
  rests_step (Tear a b places pieces) f s h = absurd s
  rests_step (Copy a b places pieces) f s h = absurd s
  rests_step (Spoil b places pieces) f s h = absurd s
  rests_step (Commit a b) f s h = record { covers_is = h.covers_is; unit_is = unit (commits n k f.heads a b); opener_is = opener (commits n k f.heads a b); piece_is = h.piece_is }
    where
      unit : (t : Bool) (p : Unit {0}) (i : ℕ) → (cond t (flat_after f a) f.flat).unit p i ≡ Some known
      unit true p i = skip (f.covers a p) _ (f.flat.unit p i) (h.covers_is a p) ∙ h.unit_is p i
      unit false p i = h.unit_is p i

      opener : (t : Bool) (p : Unit {0}) → (cond t (flat_after f a) f.flat).opener p ≡ Nobody
      opener true p = skip (f.covers a p) Nobody (f.flat.opener p) (h.covers_is a p) ∙ h.opener_is p
      opener false p = h.opener_is p
  rests_step (Follow a b) f s h = h
  rests_step (Begin a b) f s h = h
  rests_step (Finish a b) f s h = h
  rests_step (Create b shape) f s h = record { covers_is = h.covers_is; unit_is = h.unit_is; opener_is = h.opener_is; piece_is = λ c p e. by c p (c == b) e }
    where
      by : (c : ℕ) (p : Unit {0}) (t : Bool) → cond t false (f.piece c p) ≡ true → first c ≡ true
      by c p true e = absurd (cc)
      by c p false e = h.piece_is c p e

  both_ways : (t : Bool) → t ≡ false → t ≡ true → ⊥
  both_ways t e h = absurd (let z = sym e ∙ h in cc)

  owes : (d : Deed (Unit {0}) Bool Bool Bool (Unit {0})) (f : OriginFile) → Silent d → RestsIn f → Owes of_origin.form n k f d
  owes (Do e) f s h = tt
  owes (Look a b) f s h = tt
  owes (Take a p shape) f s h = λ b e. same_unit (f.told a b) shape
  owes (Take_kept x a p) f s h = tt
  owes (Read a b places) f s h = tt
  owes (Intend a plan) f s h = record {
    sets = λ p i u c e. absurd (both_ways (plan.covers p) (s p) c);
    keeps = λ p i c e. absurd (both_ways (plan.covers p) (s p) c);
    zero = λ p c e. absurd (both_ways (plan.covers p) (s p) c);
    grows = λ p c e. absurd (cc);
  }
  owes (Write a b places) f s h = absurd s
  owes (Tear a b places pieces) f s h = absurd s
  owes (Copy a b places pieces) f s h = absurd s
  owes (Spoil b places pieces) f s h = absurd s
  owes (Commit a b) f s h = λ p e. absurd (both_ways (f.covers a p) (h.covers_is a p) e)
  owes (Follow a b) f s h = λ p e. absurd (both_ways (f.covers a p) (h.covers_is a p) e)
  owes (Begin a b) f s h = tt
  owes (Finish a b) f s h = tt
  owes (Create b shape) f s h = inr (same_unit shape (f.shape_of 0))

  all_owe : (ds : List (Deed (Unit {0}) Bool Bool Bool (Unit {0}))) (f : OriginFile) → Silents ds → RestsIn f → AllOwe of_origin.form n k ds f
  all_owe [] f s h = tt
  all_owe (d ∷ ds) f s h = (owes d f s.0 h, all_owe ds (step of_origin.form n k f d) s.1 (rests_step d f s.0 h))

  all_rest : (ds : List (Deed (Unit {0}) Bool Bool Bool (Unit {0}))) (f : OriginFile) → Silents ds → RestsIn f → RestsIn (after_deeds of_origin.form n k ds f)
  all_rest [] f s h = h
  all_rest (d ∷ ds) f s h = all_rest ds (step of_origin.form n k f d) s.1 (rests_step d f s.0 h)

-- an unmarked record at a version, as the machine of versions has it
plain_there : (n g : ℕ) (m : Net) (s : State) → ((b : ℕ) → b < n → IsHead (option_map (λ (r : Record). r.head) ((m.brick b).records g)) s b) → (b version : ℕ) (r : Record) → b < n → (m.brick b).records g ≡ Some r → is_marked r.head.version.content ≡ false → r.head.version.content ≡ version → is_plain version (head s b) ≡ true
plain_there n g m s heads b version r lt is unmarked at =
    let h = subst (λ (o : Option Record). IsHead (option_map (λ (r : Record). r.head) o) s b) is (heads b lt) in
    tests (s.present b) (s.marked b) (s.version b) version h.0 (h.2 ∙ unmarked) (h.1 ∙ (plain r.head.version.content unmarked ∙ at))
  where
    tests : (t u : Bool) (x y : ℕ) → t ≡ true → u ≡ false → x ≡ y → (t && not u && (x == y)) ≡ true
    tests t u x y e f h = grind (arith, nat_tests)

-- ## After every log

module _ (config : Config) (records : ℕ → Records) (bricks : ℕ → Brick) (tree : Tree) (next g : ℕ) (es : List Entry) (start : IsStart config records bricks tree next) (runs : IsRun config.geometry.n es (fresh bricks)) (plain_log : ArePlain es) (orderly : IsOrderly config.geometry es (fresh bricks) (opening tree next)) (one : AlwaysInOneTurn config records bricks tree next g es) where
  abbrev n : ℕ
  n = config.geometry.n

  abbrev k : ℕ
  k = quorum config.geometry

  abbrev known : Bool
  known = not (is_new config.geometry.n records g)

  abbrev first : ℕ → Bool
  first b = is_at_version (tree g).version (records b g)

  abbrev flat : Flat (Unit {0}) Bool (Unit {0})
  flat = record { version = (tree g).version; shape = tt; unit = λ p i. Some known; opener = λ p. Nobody }

  some_bool : (x y : Bool) → Some x ≡ Some y → x ≡ y
  some_bool x y e = cc

  abbrev stands : Stands of_origin.form config.geometry.n (quorum config.geometry) flat (first_heads config.geometry.n records g) (is_new config.geometry.n records g) (λ b. tt) (λ b p. first b)
  stands = record {
    standing = (starts_linked config records bricks tree next g (λ a. a) (positive config records bricks tree next g start) start).standing;
    shapes = λ b e. refl;
    value = λ p. known;
    closed = λ p e. record { codes = λ b h. codes b h; units = λ i u h. some_bool known u h };
    past = λ p e h. absurd (cc);
    blank = λ e p. ap not e;
    unopened = λ p c e. absurd (cc);
  }
    where
      codes : (b : ℕ) → is_plain (tree g).version (first_heads config.geometry.n records g b) ≡ true → first b ≡ known
      codes b h = by (is_new config.geometry.n records g) refl
        where
          o : (r : Record) × (b < config.geometry.n) × (records b g ≡ Some r) × (r.head.version.content ≡ (tree g).version)
          o = at_version config.geometry.n records g b (tree g).version h

          there : first b ≡ true
          there = ap (λ (x : Option Record). is_at_version (tree g).version x) o.2 ∙ subst (λ (x : ℕ). (x == (tree g).version) ≡ true) (sym o.3) (itself (tree g).version)

          by : (t : Bool) → is_new config.geometry.n records g ≡ t → first b ≡ not t
          by true e = absurd (some_none o.0 (sym o.2 ∙ no_record config.geometry.n records g b o.1 (((starts_linked config records bricks tree next g (λ a. a) (positive config records bricks tree next g start) start).standing.none e).1 b)))
          by false e = there

  abbrev began : OriginFile
  began = begun_file of_origin config records g flat (λ b. tt) (λ b p. first b) stands.value

  abbrev ends : OriginFile
  ends = file of_origin covers_none config.geometry.n (quorum config.geometry) g es (fresh bricks) (begun config records tree next g) began

  silent : Silents (all_deeds of_origin covers_none config.geometry.n (quorum config.geometry) g es (fresh bricks) (begun config records tree next g) began)
  silent = silent_log of_origin (λ g q. refl) covers_none (λ a p. refl) config.geometry.n (quorum config.geometry) g es (fresh bricks) (begun config records tree next g) began

  rests_began : RestsIn known first config.geometry.n (quorum config.geometry) began
  rests_began = record { covers_is = λ a p. refl; unit_is = λ p i. refl; opener_is = λ p. refl; piece_is = λ b p e. e }

  rests_end : RestsIn known first config.geometry.n (quorum config.geometry) ends
  rests_end = subst (λ (f : OriginFile). RestsIn known first config.geometry.n (quorum config.geometry) f) (sym ((core_laws of_origin covers_none).lead_on config.geometry.n (quorum config.geometry) g es (fresh bricks) (begun config records tree next g) began))
      (all_rest known first config.geometry.n (quorum config.geometry) (all_deeds of_origin covers_none config.geometry.n (quorum config.geometry) g es (fresh bricks) (begun config records tree next g) began) began silent rests_began)

  -- the flat version is that of the flat file
  version_end : ends.flat.version ≡ (flat_file_after config es bricks tree next g).version
  version_end =
      log_version of_origin (λ g q. refl) covers_none (λ a p. refl) config.geometry.n (quorum config.geometry) g es (fresh bricks) (begun config records tree next g) began
      ∙ (sym (log_version of_versions (λ g q. refl) no_plans (λ a p. refl) config.geometry.n (quorum config.geometry) g es (fresh bricks) (begun config records tree next g) (versions_begun config records tree g))
      ∙ flat_laws.same_version config records bricks tree next g es start runs plain_log orderly one)

  heads_end : ends.heads ≡ (view g es (fresh bricks) (begun config records tree next g)).core
  heads_end = (core_laws of_origin covers_none).heads config.geometry.n (quorum config.geometry) g es (fresh bricks) (begun config records tree next g) began refl

  of_first : (o : Option Record) → is_at_version (tree g).version o ≡ true → (r : Record) × (o ≡ Some r) × (r.head.version.content ≡ (tree g).version)
  of_first None e = absurd (cc)
  of_first (Some r) e = (r, refl, equal r.head.version.content (tree g).version e)

  pub stood_there : (b : ℕ) (r : Record) → b < config.geometry.n → ((run es (fresh bricks)).brick b).records g ≡ Some r → is_marked r.head.version.content ≡ false → r.head.version.content ≡ (flat_file_after config es bricks tree next g).version
      → (is_new config.geometry.n records g ≡ true) ⊎ ((r0 : Record) × (records b g ≡ Some r0) × (r0.head.version.content ≡ (tree g).version))
  stood_there b r lt is unmarked at = by (is_new config.geometry.n records g) refl
    where
      linked : Linked config.geometry.n g (run es (fresh bricks)) (view g es (fresh bricks) (begun config records tree next g))
      linked = linked_end config records bricks tree next g es start runs plain_log orderly

      there : is_plain ends.flat.version (head ends.heads b) ≡ true
      there = subst (λ (s : State). is_plain ends.flat.version (head s b) ≡ true) (sym heads_end) (plain_there config.geometry.n g (run es (fresh bricks)) (view g es (fresh bricks) (begun config records tree next g)).core linked.heads b ends.flat.version r lt is unmarked (at ∙ sym version_end))

      held : ends.piece b tt ≡ known
      held =
          let x = (owed_laws of_origin origin_fits).closed covers_none config records bricks tree next g es start runs plain_log orderly flat (λ b. tt) (λ b p. first b) stands refl (all_owe known first config.geometry.n (quorum config.geometry) (all_deeds of_origin covers_none config.geometry.n (quorum config.geometry) g es (fresh bricks) (begun config records tree next g) began) began silent rests_began) tt (rests_end.opener_is tt) in
          x.1.codes b there ∙ x.1.units 0 known (rests_end.unit_is tt 0)

      by : (t : Bool) → is_new config.geometry.n records g ≡ t → (is_new config.geometry.n records g ≡ true) ⊎ ((r0 : Record) × (records b g ≡ Some r0) × (r0.head.version.content ≡ (tree g).version))
      by true e = inl e
      by false e = inr (of_first (records b g) (rests_end.piece_is b tt (held ∙ ap not e)))
