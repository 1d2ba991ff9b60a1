-- The laws of shapes along a log.
use Rattle.std.proofs.Common.{◌≡◌, ℕ, ◌+◌, ◌<◌, ◌≤◌, Option, Some, None, List, [], ◌∷◌, ◌++◌, refl, sym, ◌∙◌, ap, arith, ⊎_elim}
use Rattle.std.specs.Option.{option_map}
use Rattle.ec_attr.specs.declared.config.Config.{Config}
use Rattle.ec_attr.specs.declared.geometry.Geometry.{Geometry}
use Rattle.ec_attr.specs.declared.head.Head.{Head}
use Rattle.ec_brick.specs.State.{State as Brick}
use Rattle.ec_conduct.specs.Given.{quorum}
use Rattle.ec_history.specs.Accounts.{Books, Leaving, booked, books, no_books}
use Rattle.ec_history.specs.Flat.{Tree}
use Rattle.ec_history.specs.Flat.Opener.{Nobody}
use Rattle.ec_history.specs.IsRun.{IsRun}
use Rattle.ec_history.specs.Run.{Net, after as net_after, fresh, run}
use Rattle.ec_history.specs.Starts.{IsStart}
use Rattle.ec_history.specs.Story.{Story, opening, told}
use Rattle.ec_store.specs.Records.{Record, Records, head_at}
use Rattle.ec_wire.specs.declared.entry.Entry.{Entry}
use Rattle.ec_law_ballots.specs.Begin.{begin as begin_state}
use Rattle.ec_law_ballots.specs.Guard.{Runs as ActsRun}
use Rattle.ec_law_pieces.specs.File.{File, Flat}
use Rattle.ec_law_pieces.specs.Laws.{Stands, start as start_file}
use Rattle.ec_law_pieces.proofs.Laws.{both as both_after}
use Rattle.ec_law_pieces.proofs.Runs.{Both}
use Rattle.ec_law_net.specs.Start.{first_heads, is_new}
use Rattle.ec_law_net.specs.Turns.{Maker, View, acts, seen_after, view}
use Rattle.ec_law_turns.specs.Orderly.{ArePlain, IsOrderly}
use Rattle.ec_law_turns.proofs.Basics.{some_is, some_none}
use Rattle.ec_law_turns.specs.Reached.{Reached}
use Rattle.ec_law_turns.proofs.Numbered.{IsPlainEntry}
use Rattle.ec_law_turns.proofs.Steps.{EntryKept}
use Rattle.ec_law_turns.proofs.Origins.{unversioned}
use Rattle.ec_law_turns.proofs.Runs.{Kept, kept_there, plain_first}
use Rattle.ec_law_data.specs.Deeds.{deeds, file, file_after}
use Rattle.ec_law_data.specs.Forms.{Shape, shape_in}
use Rattle.ec_law_data.specs.Laws.{begun}
use Rattle.ec_law_data.specs.Link.{Fits}
use Rattle.ec_law_data.specs.Reading.{Plans, Reading}
use Rattle.ec_law_data.proofs.Reaching.{Reaches, gone, reached_then, reaches_start, reaches_then}
use Rattle.ec_law_shapes.specs.Fitting.{AllOweShape, EntryFits}
use Rattle.ec_law_shapes.specs.Laws.{ShapeLaws, ShapesAfter, shaped_begun}
use Rattle.ec_law_shapes.specs.Shadows.{Bare, HasShapes, bare_form}
use Rattle.ec_law_shapes.specs.Shapes.{head_shape}
use Rattle.ec_law_data.proofs.OrderlyDeeds.{all_reach}
use Rattle.ec_law_shapes.proofs.Asking.{told_heard, took_group}
use Rattle.ec_law_shapes.proofs.Beside.{shadow_then}
use Rattle.ec_law_shapes.proofs.Facts.{Facts, facts}
use Rattle.ec_law_shapes.proofs.Steps.{has_entry, owe_entry}

module _ {P V C U : Type 0} (R : Reading P V C U Shape) (fits : Fits R) (plans : Plans P V U Shape) (g : ℕ) (geometry : Geometry) (left : ℕ → Leaving) (none : (a : ℕ) → (left a).kept ≡ None) (first : ℕ) (origins : ℕ → ℕ) (new : (h : ℕ) → first ≤ h → origins h ≡ 0) (e : Entry) where
  abbrev n : ℕ
  n = geometry.n

  abbrev k : ℕ
  k = quorum geometry

  most : geometry.n < quorum geometry + quorum geometry
  most = let h = geometry.majority in omega (arith, h)

  -- what holds of the last entry
  abbrev Last : List Entry → Net → View → Story → Books → File P V C U Shape → Type 0
  Last es m v t b f =
      HasShapes geometry.n (quorum geometry) first g R.new (run es m) (view g es m v) (books geometry left es m t b) (file R plans n k g es m v f)
      → EntryFits R plans g (run es m) (view g es m v) (books geometry left es m t b) (file R plans n k g es m v f) e
      → AllOweShape R.form n k (deeds R plans n k g (run es m) (view g es m v) (file R plans n k g es m v f) e) (file R plans n k g es m v f)
      × HasShapes geometry.n (quorum geometry) first g R.new (run (es ++ e ∷ []) m) (view g (es ++ e ∷ []) m v) (books geometry left (es ++ e ∷ []) m t b) (file R plans n k g (es ++ e ∷ []) m v f)

  -- each entry leads on to the last
  pub last : (es : List Entry) (m : Net) (vs : ℕ → View) (t : Story) (b : Books) (f : File P V C U Shape) → IsRun geometry.n (es ++ e ∷ []) m → ArePlain (es ++ e ∷ []) → Kept geometry left none (books geometry left (es ++ e ∷ []) m t b) → Reaches geometry first origins m vs t b → Last es m (vs g) t b f
  last [] m vs t b f runs plain kept reaches = λ has fitting. (
    owes has fitting,
    record {
      follow = has_entry R fits plans geometry g first left m (vs g) t b f (reaches.reached g) has.follow (known has) e runs.0 kept' runs' r' new_gfid fitting;
      shadow = shadow_then R fits plans geometry g first left m (vs g) t b f (reaches.reached g) has.follow (known has) has.shadow e runs.0 kept' runs' r' fitting (owes has fitting);
    },
  )
    where
      p : IsPlainEntry e × ArePlain []
      p = plain_first e [] plain

      kept' : EntryKept m b e
      kept' = kept_there geometry left none e [] m t b runs plain (reaches.reached g).known.numbers kept

      runs' : ActsRun n k (acts g m (vs g) e) (vs g).core
      runs' = (gone geometry left none first origins new m vs t b e p.0 runs.0 kept' reaches g).runs

      r' : Reached geometry g (net_after m e) (seen_after g m (vs g) e) (booked geometry left m t b e)
      r' = reached_then geometry left none first origins new m vs t b e p.0 runs.0 kept' reaches g

      new_gfid : (x : Maker) → (vs g).maker ≡ Some x → first ≤ g
      new_gfid x is = ⊎_elim (λ no_one. absurd (some_none x (sym is ∙ no_one))) (λ le. le) (reaches.fresh g).taken

      known : HasShapes geometry.n (quorum geometry) first g R.new m (vs g) b f → Facts geometry.n (quorum geometry) f
      known has = facts geometry.n (quorum geometry) g most (omega arith) m (vs g) f has.shadow

      owes : HasShapes geometry.n (quorum geometry) first g R.new m (vs g) b f → EntryFits R plans g m (vs g) b f e → AllOweShape R.form n k (deeds R plans n k g m (vs g) f e) f
      owes has fitting = owe_entry R fits plans geometry g first left m (vs g) t b f (reaches.reached g) has.follow (known has) e runs.0 kept' runs' r' new_gfid fitting
  last (x ∷ es) m vs t b f runs plain kept reaches =
      let p = plain_first x (es ++ e ∷ []) plain in
      let kept' = kept_there geometry left none x (es ++ e ∷ []) m t b runs plain (reaches.reached g).known.numbers kept in
      last es (net_after m x) (λ h. seen_after h m (vs h) x) (told geometry m t x) (booked geometry left m t b x) (file_after R plans n k g m (vs g) f x) runs.1 p.1 kept (reaches_then geometry left none first origins new m vs t b x p.0 runs.0 kept' reaches)

-- the shape of a record as the log begins
shape_begins : (o : Option Record) (hd : Head) → option_map (λ r. r.head) o ≡ Some hd → shape_in o ≡ head_shape hd
shape_begins None hd e = absurd (some_none hd (sym e))
shape_begins (Some r) hd e = ap head_shape (some_is r.head hd e)

module _ {P V C U : Type 0} (R : Reading P V C U Shape) where
  begins : (plans : Plans P V U Shape) (config : Config) (records : ℕ → Records) (bricks : ℕ → Brick) (tree : Tree) (next g : ℕ) (left : ℕ → Leaving)
      → IsStart config records bricks tree next
      → (flat : Flat P U Shape) (piece : ℕ → P → C) (st : Stands R.form config.geometry.n (quorum config.geometry) flat (first_heads config.geometry.n records g) (is_new config.geometry.n records g) (λ b. shape_in (records b g)) piece)
      → flat.version ≡ (tree g).version → ShapesAfter R plans config records bricks tree next g left (shaped_begun R config records g flat piece st.value) []
  begins plans config records bricks tree next g left start flat piece st version = record {
    follow = record {
      heads = heads;
      here = λ c hd lt e clear. shape_begins (records c g) hd (sym (ap (λ (z : Records). head_at z g) (start.opened c lt).kept) ∙ e);
      told = record { to_say = tt; sent = λ i x re reply is body. absurd (some_none x (sym is)); heard = λ a given is h x. absurd (some_none given (sym is)) };
      plans = λ a given t is has now. absurd (some_none given (sym is));
      posts = λ i x y k at new size attr is body on. absurd (some_none x (sym is));
      fresh = λ t le. refl;
      numbered = λ t e. absurd (cc);
      made = λ le making. absurd (let w = ((reaches_start config records bricks tree next (λ a. a) most start).has g).made le making in some_none w.message (sym w.is));
    };
    shadow = record {
      shadow = first_shadow;
      is = record { heads = refl; shape = refl; shape_of = refl; told = refl; took = refl; plan = λ t e. absurd (cc) };
      inv = clauses.inv;
      good = clauses.good;
      call = λ a. refl;
      own = λ a. refl;
      posted = λ i x q is body on. absurd (some_none x (sym is));
    };
  }
    where
      most : config.geometry.n < quorum config.geometry + quorum config.geometry
      most = let h = config.geometry.majority in omega (arith, h)

      heads : (shaped_begun R config records g flat piece st.value).heads ≡ (begun config records tree next g).core
      heads = ap (λ (origin : ℕ). begin_state config.geometry.n origin (first_heads config.geometry.n records g) (is_new config.geometry.n records g) (λ a. a)) version

      stands0 : Stands bare_form config.geometry.n (quorum config.geometry) (record { version = flat.version; shape = flat.shape; unit = λ p i. None; opener = λ p. Nobody }) (first_heads config.geometry.n records g) (is_new config.geometry.n records g) (λ b. shape_in (records b g)) (λ b p. tt)
      stands0 = record { standing = st.standing; shapes = st.shapes; value = λ p. tt; closed = λ p. absurd p; past = λ p. absurd p; blank = λ e p. refl; unopened = λ p. absurd p }

      first_shadow : Bare
      first_shadow = start_file bare_form config.geometry.n (record { version = flat.version; shape = flat.shape; unit = λ p i. None; opener = λ p. Nobody }) (first_heads config.geometry.n records g) (is_new config.geometry.n records g) (λ a. a) (λ b. shape_in (records b g)) (λ b p. tt) (λ p. tt)

      clauses : Both bare_form config.geometry.n (quorum config.geometry) (start_file bare_form config.geometry.n (record { version = flat.version; shape = flat.shape; unit = λ p i. None; opener = λ p. Nobody }) (first_heads config.geometry.n records g) (is_new config.geometry.n records g) (λ a. a) (λ b. shape_in (records b g)) (λ b p. tt) (λ p. tt))
      clauses = both_after bare_form config.geometry.n (quorum config.geometry) most (omega arith) (record { version = flat.version; shape = flat.shape; unit = λ p i. None; opener = λ p. Nobody }) (first_heads config.geometry.n records g) (is_new config.geometry.n records g) (λ a. a) (λ b. shape_in (records b g)) (λ b p. tt) stands0 [] refl

  -- all that a log has come to, by its end
  reaches_end : (config : Config) (records : ℕ → Records) (bricks : ℕ → Brick) (tree : Tree) (next g : ℕ) (es : List Entry) → IsStart config records bricks tree next → IsRun config.geometry.n es (fresh bricks) → ArePlain es → (orderly : IsOrderly config.geometry es (fresh bricks) (opening tree next)) → Reached config.geometry g (run es (fresh bricks)) (view g es (fresh bricks) (begun config records tree next g)) (books config.geometry orderly.left es (fresh bricks) (opening tree next) no_books)
  reaches_end config records bricks tree next g es start runs plain orderly =
      (all_reach config.geometry orderly.left orderly.none_kept next (λ h. (tree h).version) (λ h le. unversioned config records bricks tree next h start le) es (fresh bricks) (λ h. begun config records tree next h) (opening tree next) no_books runs plain (λ a given h. (orderly.conduct a given h, orderly.order a given h)) (reaches_start config records bricks tree next (λ a. a) most start)).reached g
    where
      most : config.geometry.n < quorum config.geometry + quorum config.geometry
      most = let h = config.geometry.majority in omega (arith, h)

  pub laws : Fits R → ShapeLaws R
  laws fits = record {
    begin = begins;
    step = λ plans config records bricks tree next g es e start runs plain orderly f has fitting.
        last R fits plans g config.geometry orderly.left orderly.none_kept next (λ h. (tree h).version) (λ h le. unversioned config records bricks tree next h start le) e es (fresh bricks) (λ h. begun config records tree next h) (opening tree next) no_books f runs plain (λ a given h. (orderly.conduct a given h, orderly.order a given h)) (reaches_start config records bricks tree next (λ a. a) (most config) start)
        has fitting;
    told = λ plans config records bricks tree next g es start runs plain orderly f has a t x given hd is turn heard clear.
        let m = run es (fresh bricks) in
        let v = view g es (fresh bricks) (begun config records tree next g) in
        let b = books config.geometry orderly.left es (fresh bricks) (opening tree next) no_books in
        let now = file R plans config.geometry.n (quorum config.geometry) g es (fresh bricks) (begun config records tree next g) f in
        told_heard R fits plans config.geometry g next m v b now (reaches_end config records bricks tree next g es start runs plain orderly) has.follow (facts config.geometry.n (quorum config.geometry) g (most config) (omega arith) m v now has.shadow) a t x given hd is turn.0 turn.1 heard clear;
    took = λ plans config records bricks tree next g es start runs plain orderly f has a t given hd is turn group.
        let m = run es (fresh bricks) in
        let v = view g es (fresh bricks) (begun config records tree next g) in
        let b = books config.geometry orderly.left es (fresh bricks) (opening tree next) no_books in
        let now = file R plans config.geometry.n (quorum config.geometry) g es (fresh bricks) (begun config records tree next g) f in
        took_group R fits plans config.geometry g next m v b now (reaches_end config records bricks tree next g es start runs plain orderly) has.follow (facts config.geometry.n (quorum config.geometry) g (most config) (omega arith) m v now has.shadow) a t given hd is turn.0 turn.1 group;
  }
    where
      most : (config : Config) → config.geometry.n < quorum config.geometry + quorum config.geometry
      most config = let h = config.geometry.majority in omega (arith, h)
