-- As a log begins, from bricks that stand: the machine without data beside one with them, which has the tree's version and shape.
use Rattle.std.proofs.Common.{◌≡◌, ℕ, zero, suc, ◌+◌, ◌-◌, ◌<◌, Bool, true, false, not, cond, ◌==◌, Option, Some, None, [], refl, sym, ◌∙◌, ap, arith}
use Rattle.std.specs.Prelude.{is_some}
use Rattle.std.specs.Option.{option_map}
use Rattle.ec_attr.proofs.Sets.{count_none, count_out}
use Rattle.ec_attr.specs.Bricks.{count_below}
use Rattle.ec_attr.specs.declared.config.Config.{Config}
use Rattle.ec_attr.specs.declared.kind.Kind.{Kind}
use Rattle.ec_brick.specs.State.{State as Brick}
use Rattle.ec_conduct.specs.Given.{quorum}
use Rattle.ec_history.specs.Flat.{Flat as FlatFile, Tree, from_before}
use Rattle.ec_history.specs.Flat.Opener.{Nobody}
use Rattle.ec_history.specs.Run.{fresh}
use Rattle.ec_history.specs.Starts.{IsStart}
use Rattle.ec_history.specs.Story.{opening}
use Rattle.ec_store.specs.Records.{Record, Records, head_at}
use Rattle.ec_law_base.specs.State.{Ballot}
use Rattle.ec_law_ballots.specs.Begin.{begin as begin_state}
use Rattle.ec_law_pieces.specs.File.{File, Flat}
use Rattle.ec_law_pieces.specs.Laws.{Stands, start as start_file}
use Rattle.ec_law_pieces.proofs.Laws.{both as both_first}
use Rattle.ec_law_pieces.proofs.Runs.{Both}
use Rattle.ec_law_net.specs.Start.{first_heads, is_new}
use Rattle.ec_law_net.proofs.Starting.{starts_linked}
use Rattle.ec_law_turns.proofs.Basics.{some_none}
use Rattle.ec_law_turns.proofs.Runs.{first_moment}
use Rattle.ec_law_data.specs.Forms.{Shape, shape_in}
use Rattle.ec_law_data.specs.Laws.{begun, begun_file}
use Rattle.ec_law_data.specs.Reading.{Plans, Reading}
use Rattle.ec_law_data.proofs.Directories.{no_record}
use Rattle.ec_law_heads.proofs.Blank.{IsUnmade}
use Rattle.ec_law_shapes.specs.Shadows.{Bare, bare_form}
use Rattle.ec_law_sizes.specs.Sizes.{tree_shape}
use Rattle.ec_law_sizes.proofs.Beside.{Beside}
use Rattle.ec_law_sizes.proofs.Steps.{Tracks}
use Rattle.ec_law_sizes.proofs.Taking.{AsTook}
use Rattle.ec_law_sizes.proofs.Telling.{shown_of}
use Rattle.ec_law_sizes.proofs.Walking.{Front}

none_of : (p : ℕ → Bool) (n : ℕ) → ((b : ℕ) → b < n → p b ≡ false) → count_below n p ≡ 0
none_of p zero h = count_none p
none_of p (suc n) h = count_out n p (h n (omega arith)) ∙ none_of p n (λ b lt. h b (omega (arith, lt)))

module _ {P V C U X : Type 0} (part : Shape → X) (R : Reading P V C U Shape) (plans : Plans P V U Shape) (config : Config) (records : ℕ → Records) (bricks : ℕ → Brick) (tree : Tree) (next g : ℕ) (start : IsStart config records bricks tree next) (flat : Flat P U Shape) (piece : ℕ → P → C) (st : Stands R.form config.geometry.n (quorum config.geometry) flat (first_heads config.geometry.n records g) (is_new config.geometry.n records g) (λ b. shape_in (records b g)) piece) (version : flat.version ≡ (tree g).version) (shape : part flat.shape ≡ part (tree_shape (tree g))) where
  abbrev n : ℕ
  n = config.geometry.n

  abbrev q' : ℕ
  q' = quorum config.geometry

  abbrev first_file : File P V C U Shape
  first_file = begun_file R config records g flat (λ b. shape_in (records b g)) piece st.value

  abbrev bare_flat : Flat ⊥ (Unit {0}) Shape
  bare_flat = record { version = flat.version; shape = flat.shape; unit = λ p i. None; opener = λ p. Nobody }

  abbrev pub first_bare : Bare
  first_bare = start_file bare_form config.geometry.n (record { version = flat.version; shape = flat.shape; unit = λ p i. None; opener = λ p. Nobody }) (first_heads config.geometry.n records g) (is_new config.geometry.n records g) (λ a. a) (λ b. shape_in (records b g)) (λ b p. tt) (λ p. tt)

  most : config.geometry.n < quorum config.geometry + quorum config.geometry
  most = let h = config.geometry.majority in omega (arith, h)

  positive : 0 < quorum config.geometry
  positive = let h = config.geometry.least in omega (arith, h)

  stands0 : Stands bare_form n q' bare_flat (first_heads config.geometry.n records g) (is_new config.geometry.n records g) (λ b. shape_in (records b g)) (λ b p. tt)
  stands0 = record { standing = st.standing; shapes = st.shapes; value = λ p. tt; closed = λ p. absurd p; past = λ p. absurd p; blank = λ e p. refl; unopened = λ p. absurd p }

  clauses : Both bare_form n q' first_bare
  clauses = both_first bare_form n q' most (omega arith) bare_flat (first_heads config.geometry.n records g) (is_new config.geometry.n records g) (λ a. a) (λ b. shape_in (records b g)) (λ b p. tt) stands0 [] refl

  beside : Beside n q' g (fresh bricks) (begun config records tree next g) first_file first_bare
  beside = record {
    is = record { heads = refl; shape = refl; shape_of = refl; told = refl; took = refl; plan = λ t e. absurd (cc) };
    inv = clauses.inv;
    good = clauses.good;
    call = λ a. refl;
    own = λ a. refl;
    posted = λ i x q is body on. absurd (some_none x (sym is));
  }

  -- of a gfid that has no kind no brick has a record
  unmade_first : (tree g).kind ≡ None → (b : ℕ) → b < config.geometry.n → records b g ≡ None
  unmade_first unmade b lt = at (records b g) refl
    where
      kind_none : (k : Kind) → Some k ≡ None → ⊥
      kind_none k e = cc

      at : (o : Option Record) → records b g ≡ o → o ≡ None
      at None is = refl
      at (Some r) is = absurd (kind_none r.head.kind ((start.stand g).kinds b r lt is ∙ unmade))

  -- and of a gfid of which no brick has a record nothing is told
  new_kind : is_new config.geometry.n records g ≡ true → (tree g).kind ≡ None
  new_kind e = ap (λ (x : FlatFile). x.kind) (start.elsewhere g (λ b lt. no_record config.geometry.n records g b lt (((starts_linked config records bricks tree next g (λ a. a) positive start).standing.none e).1 b)))

  not_new : is_new config.geometry.n records g ≡ false → (tree g).kind ≡ None → ⊥
  not_new e unmade =
      let none : count_below config.geometry.n (λ b. is_some (records b g)) ≡ 0 = none_of (λ b. is_some (records b g)) config.geometry.n (λ b lt. ap (λ (o : Option Record). is_some o) (unmade_first unmade b lt)) in
      absurd (let z = sym e ∙ ap (λ (c : ℕ). c == 0) none in cc)

  track : Tracks (tree g).version part R.new first_bare (from_before (tree g))
  track = record { version = version; unmarked = λ h. h; shape = by (is_new config.geometry.n records g) (tree g).kind refl refl }
    where
      by : (c : Bool) (o : Option Kind) → is_new config.geometry.n records g ≡ c → (tree g).kind ≡ o → part (cond (not (is_new config.geometry.n records g)) flat.shape R.new) ≡ part (shown_of (tree g).kind R.new (tree_shape (tree g)))
      by true o e is = ap (λ (z : Bool). part (cond (not z) flat.shape R.new)) e ∙ sym (ap (λ (z : Option Kind). part (shown_of z R.new (tree_shape (tree g)))) (new_kind e))
      by false None e is = absurd (not_new e is)
      by false (Some kind) e is = ap (λ (z : Bool). part (cond (not z) flat.shape R.new)) e ∙ (shape ∙ sym (ap (λ (z : Option Kind). part (shown_of z R.new (tree_shape (tree g)))) is))

  pub first_unmade : (from_before (tree g)).kind ≡ None → IsUnmade config.geometry.n g (fresh bricks) (from_before (tree g))
  first_unmade unmade = record {
    blank_is = ap from_before (start.elsewhere g (unmade_first unmade));
    none = λ b lt. ap (λ (m : Records). head_at m g) (start.opened b lt).kept ∙ ap (option_map (λ (r : Record). r.head)) (unmade_first unmade b lt);
  }

  -- no turn of the log has a ballot as it begins
  pub no_ballot : AsTook R plans n q' g first_file
  no_ballot a begun' number = absurd (none ((begun config records tree next g).core.moment a) refl)
    where
      none : (t : Bool) → (begun config records tree next g).core.moment a ≡ t → ⊥
      none true e = let lt = first_moment config records bricks tree next g (λ a. a) start a e in omega (arith, lt, begun')
      none false e = let z = ap (λ (u : Bool). (cond {A = Ballot} u (record { base = flat.version; number = a - flat.version }) (record { base = 0; number = 0 })).number) (moment ∙ e) in omega (arith, z, number)
        where
          moment : first_file.heads.moment a ≡ (begun config records tree next g).core.moment a
          moment = ap (λ (origin : ℕ). (begin_state config.geometry.n origin (first_heads config.geometry.n records g) (is_new config.geometry.n records g) (λ a. a)).moment a) version

  pub begins : Front (tree g).version part R plans config.geometry g (fresh bricks) (λ h. begun config records tree next h) (opening tree next) first_file first_bare
  begins = record {
    heads = ap (λ (origin : ℕ). begin_state config.geometry.n origin (first_heads config.geometry.n records g) (is_new config.geometry.n records g) (λ a. a)) version;
    beside = beside;
    posts = record { posted = λ i x q is body on b. absurd (some_none x (sym is)); from = λ a b e. absurd (cc) };
    unmade = first_unmade;
    becomes = λ a h. absurd (cc);
    took = no_ballot;
    track = track;
  }
