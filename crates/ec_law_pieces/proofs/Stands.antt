-- Grants, Queries and ballots, reads and plans: each deed keeps each clause. A clause that speaks of nothing that the deed changes is handed on.
use Rattle.std.proofs.Common.{◌≡◌, ℕ, ◌<◌, Bool, true, false, ◌==◌, None, refl, sym, ◌∙◌, ap, arith, inl, inr, ⊎_elim, eqb-true}
use Rattle.std.proofs.lemmas.Bool.Decides.{nat_tests}
use Rattle.ec_history.specs.Flat.{Opener, is_open_to_it_alone}
use Rattle.ec_history.specs.Flat.Opener.{Nobody, One, Several}
use Rattle.ec_law_base.specs.State.{State, Ballot, target, put}
use Rattle.ec_law_ballots.specs.Act.Act.{Carry, Free, Grant, Maker_free, Maker_grant, Replace, Stop, Unmake}
use Rattle.ec_law_pieces.specs.File.{Form, File}
use Rattle.ec_law_pieces.specs.Deed.{Plan, step, MayDo}
use Rattle.ec_law_pieces.specs.Deed.Deed.{Do, Intend, Look, Read, Take, Take_kept}
use Rattle.ec_law_pieces.specs.Clauses.{Top, Last, Here, SyncedAll, Ahead, AheadNew, Behind, Written, Latest, WrotePlanned, PlannedNumber, CoversPlanned, DidPlanned, OneWriter, OpenerWrites, Units, Sets, Keeps, GotIs, GotNumber, ShapeHere, StaleIs, ToldIs, TookIs, BecomesIs, PlanZero, PlanGrows, NotMadeZero, MakerZero, Good}
use Rattle.ec_law_pieces.specs.Facts.{CommitNumber, CommitPlanned, DidNumber, MetGranted}

-- the ballot of a turn that has one stays
same_ballot : (s : State) (x : ℕ) (p : Ballot) (c : ℕ) → 0 < (s.ballot c).number → (s.ballot x).number ≡ 0 → s.ballot c ≡ put s.ballot x p c
same_ballot s x p c h z = grind (arith, nat_tests)

module _ {P V C U S : Type 0} (form : Form P V C U S) (n k : ℕ) (f : File P V C U S) (x d : ℕ) (may : MayDo form n k f (Do (Grant x d))) where
  pub behind-grant : Behind form n k f → MetGranted n k f → Behind form n k (step form n k f (Do (Grant x d)))
  behind-grant behind' met_granted a b p e g h j l m o q r = grind (arith, nat_tests)

  pub written-grant : Written form n k f → WrotePlanned form n k f → MetGranted n k f → Written form n k (step form n k f (Do (Grant x d)))
  written-grant written' wrote_planned' met_granted a b p e g h j l = grind (arith, nat_tests)

  pub good-grant : MetGranted n k f → Good form n k f → Good form n k (step form n k f (Do (Grant x d)))
  good-grant met_granted g = record {
    top = g.top;
    last = g.last;
    here = g.here;
    synced_all = g.synced_all;
    ahead = g.ahead;
    ahead_new = g.ahead_new;
    behind = behind-grant g.behind met_granted;
    written = written-grant g.written g.wrote_planned met_granted;
    latest = g.latest;
    wrote_planned = g.wrote_planned;
    planned_number = g.planned_number;
    covers_planned = g.covers_planned;
    did_planned = g.did_planned;
    one_writer = g.one_writer;
    opener_writes = g.opener_writes;
    units = g.units;
    sets = g.sets;
    keeps = g.keeps;
    got_is = g.got_is;
    got_number = g.got_number;
    shape_here = g.shape_here;
    stale_is = g.stale_is;
    told_is = g.told_is;
    took_is = g.took_is;
    becomes_is = g.becomes_is;
    flat_shape = g.flat_shape;
    zero_past = g.zero_past;
    plan_zero = g.plan_zero;
    plan_grows = g.plan_grows;
    not_made_zero = g.not_made_zero;
    maker_zero = g.maker_zero;
  }

module _ {P V C U S : Type 0} (form : Form P V C U S) (n k : ℕ) (f : File P V C U S) (u x d : ℕ) (may : MayDo form n k f (Do (Carry u x d))) where
  pub behind-carry : Behind form n k f → MetGranted n k f → Behind form n k (step form n k f (Do (Carry u x d)))
  behind-carry behind' met_granted a b p e g h j l m o q r = grind (arith, nat_tests)

  pub written-carry : Written form n k f → WrotePlanned form n k f → MetGranted n k f → Written form n k (step form n k f (Do (Carry u x d)))
  written-carry written' wrote_planned' met_granted a b p e g h j l = grind (arith, nat_tests)

  pub good-carry : MetGranted n k f → Good form n k f → Good form n k (step form n k f (Do (Carry u x d)))
  good-carry met_granted g = record {
    top = g.top;
    last = g.last;
    here = g.here;
    synced_all = g.synced_all;
    ahead = g.ahead;
    ahead_new = g.ahead_new;
    behind = behind-carry g.behind met_granted;
    written = written-carry g.written g.wrote_planned met_granted;
    latest = g.latest;
    wrote_planned = g.wrote_planned;
    planned_number = g.planned_number;
    covers_planned = g.covers_planned;
    did_planned = g.did_planned;
    one_writer = g.one_writer;
    opener_writes = g.opener_writes;
    units = g.units;
    sets = g.sets;
    keeps = g.keeps;
    got_is = g.got_is;
    got_number = g.got_number;
    shape_here = g.shape_here;
    stale_is = g.stale_is;
    told_is = g.told_is;
    took_is = g.took_is;
    becomes_is = g.becomes_is;
    flat_shape = g.flat_shape;
    zero_past = g.zero_past;
    plan_zero = g.plan_zero;
    plan_grows = g.plan_grows;
    not_made_zero = g.not_made_zero;
    maker_zero = g.maker_zero;
  }

module _ {P V C U S : Type 0} (form : Form P V C U S) (n k : ℕ) (f : File P V C U S) (d : ℕ) (may : MayDo form n k f (Do (Free d))) where
  pub behind-free : Behind form n k f → Behind form n k (step form n k f (Do (Free d)))
  behind-free behind' a b p e g h j l m o q r = grind (arith, nat_tests)

  pub written-free : Written form n k f → Written form n k (step form n k f (Do (Free d)))
  written-free written' a b p e g h j l = grind (arith, nat_tests)

  pub good-free : Good form n k f → Good form n k (step form n k f (Do (Free d)))
  good-free g = record {
    top = g.top;
    last = g.last;
    here = g.here;
    synced_all = g.synced_all;
    ahead = g.ahead;
    ahead_new = g.ahead_new;
    behind = behind-free g.behind;
    written = written-free g.written;
    latest = g.latest;
    wrote_planned = g.wrote_planned;
    planned_number = g.planned_number;
    covers_planned = g.covers_planned;
    did_planned = g.did_planned;
    one_writer = g.one_writer;
    opener_writes = g.opener_writes;
    units = g.units;
    sets = g.sets;
    keeps = g.keeps;
    got_is = g.got_is;
    got_number = g.got_number;
    shape_here = g.shape_here;
    stale_is = g.stale_is;
    told_is = g.told_is;
    took_is = g.took_is;
    becomes_is = g.becomes_is;
    flat_shape = g.flat_shape;
    zero_past = g.zero_past;
    plan_zero = g.plan_zero;
    plan_grows = g.plan_grows;
    not_made_zero = g.not_made_zero;
    maker_zero = g.maker_zero;
  }

module _ {P V C U S : Type 0} (form : Form P V C U S) (n k : ℕ) (f : File P V C U S) (d : ℕ) (may : MayDo form n k f (Do (Stop d))) where
  pub behind-stop : Behind form n k f → Behind form n k (step form n k f (Do (Stop d)))
  behind-stop behind' a b p e g h j l m o q r = grind (arith, nat_tests)

  pub written-stop : Written form n k f → Written form n k (step form n k f (Do (Stop d)))
  written-stop written' a b p e g h j l = grind (arith, nat_tests)

  pub maker_zero-stop : MakerZero form n k f → MakerZero form n k (step form n k f (Do (Stop d)))
  maker_zero-stop maker_zero' b p e g = grind (arith, nat_tests)

  pub good-stop : Good form n k f → Good form n k (step form n k f (Do (Stop d)))
  good-stop g = record {
    top = g.top;
    last = g.last;
    here = g.here;
    synced_all = g.synced_all;
    ahead = g.ahead;
    ahead_new = g.ahead_new;
    behind = behind-stop g.behind;
    written = written-stop g.written;
    latest = g.latest;
    wrote_planned = g.wrote_planned;
    planned_number = g.planned_number;
    covers_planned = g.covers_planned;
    did_planned = g.did_planned;
    one_writer = g.one_writer;
    opener_writes = g.opener_writes;
    units = g.units;
    sets = g.sets;
    keeps = g.keeps;
    got_is = g.got_is;
    got_number = g.got_number;
    shape_here = g.shape_here;
    stale_is = g.stale_is;
    told_is = g.told_is;
    took_is = g.took_is;
    becomes_is = g.becomes_is;
    flat_shape = g.flat_shape;
    zero_past = g.zero_past;
    plan_zero = g.plan_zero;
    plan_grows = g.plan_grows;
    not_made_zero = g.not_made_zero;
    maker_zero = maker_zero-stop g.maker_zero;
  }

module _ {P V C U S : Type 0} (form : Form P V C U S) (n k : ℕ) (f : File P V C U S) (d : ℕ) (may : MayDo form n k f (Do (Unmake d))) where
  pub here-unmake : Here form n k f → Here form n k (step form n k f (Do (Unmake d)))
  here-unmake here' b p e g h j = grind (arith, nat_tests)

  pub synced_all-unmake : SyncedAll form n k f → SyncedAll form n k (step form n k f (Do (Unmake d)))
  synced_all-unmake synced_all' b p e g = grind (arith, nat_tests)

  pub ahead-unmake : Ahead form n k f → Ahead form n k (step form n k f (Do (Unmake d)))
  ahead-unmake ahead' a b p e g h j l m o q = grind (arith, nat_tests)

  pub ahead_new-unmake : AheadNew form n k f → AheadNew form n k (step form n k f (Do (Unmake d)))
  ahead_new-unmake ahead_new' a b p e g h j l m o = grind (arith, nat_tests)

  pub behind-unmake : Behind form n k f → Behind form n k (step form n k f (Do (Unmake d)))
  behind-unmake behind' a b p e g h j l m o q r = grind (arith, nat_tests)

  pub written-unmake : Written form n k f → Written form n k (step form n k f (Do (Unmake d)))
  written-unmake written' a b p e g h j l = grind (arith, nat_tests)

  pub shape_here-unmake : ShapeHere form n k f → ShapeHere form n k (step form n k f (Do (Unmake d)))
  shape_here-unmake shape_here' b e g = grind (arith, nat_tests)

  pub stale_is-unmake : StaleIs form n k f → StaleIs form n k (step form n k f (Do (Unmake d)))
  stale_is-unmake stale_is' b e g h = grind (arith, nat_tests)

  pub good-unmake : Good form n k f → Good form n k (step form n k f (Do (Unmake d)))
  good-unmake g = record {
    top = g.top;
    last = g.last;
    here = here-unmake g.here;
    synced_all = synced_all-unmake g.synced_all;
    ahead = ahead-unmake g.ahead;
    ahead_new = ahead_new-unmake g.ahead_new;
    behind = behind-unmake g.behind;
    written = written-unmake g.written;
    latest = g.latest;
    wrote_planned = g.wrote_planned;
    planned_number = g.planned_number;
    covers_planned = g.covers_planned;
    did_planned = g.did_planned;
    one_writer = g.one_writer;
    opener_writes = g.opener_writes;
    units = g.units;
    sets = g.sets;
    keeps = g.keeps;
    got_is = g.got_is;
    got_number = g.got_number;
    shape_here = shape_here-unmake g.shape_here;
    stale_is = stale_is-unmake g.stale_is;
    told_is = g.told_is;
    took_is = g.took_is;
    becomes_is = g.becomes_is;
    flat_shape = g.flat_shape;
    zero_past = g.zero_past;
    plan_zero = g.plan_zero;
    plan_grows = g.plan_grows;
    not_made_zero = g.not_made_zero;
    maker_zero = g.maker_zero;
  }

module _ {P V C U S : Type 0} (form : Form P V C U S) (n k : ℕ) (f : File P V C U S) (d : ℕ) (may : MayDo form n k f (Do (Replace d))) where
  pub here-replace : Here form n k f → Here form n k (step form n k f (Do (Replace d)))
  here-replace here' b p e g h j = grind (arith, nat_tests)

  pub synced_all-replace : SyncedAll form n k f → SyncedAll form n k (step form n k f (Do (Replace d)))
  synced_all-replace synced_all' b p e g = grind (arith, nat_tests)

  pub ahead-replace : Ahead form n k f → Ahead form n k (step form n k f (Do (Replace d)))
  ahead-replace ahead' a b p e g h j l m o q = grind (arith, nat_tests)

  pub ahead_new-replace : AheadNew form n k f → AheadNew form n k (step form n k f (Do (Replace d)))
  ahead_new-replace ahead_new' a b p e g h j l m o = grind (arith, nat_tests)

  pub behind-replace : Behind form n k f → Behind form n k (step form n k f (Do (Replace d)))
  behind-replace behind' a b p e g h j l m o q r = grind (arith, nat_tests)

  pub written-replace : Written form n k f → Written form n k (step form n k f (Do (Replace d)))
  written-replace written' a b p e g h j l = grind (arith, nat_tests)

  pub shape_here-replace : ShapeHere form n k f → ShapeHere form n k (step form n k f (Do (Replace d)))
  shape_here-replace shape_here' b e g = grind (arith, nat_tests)

  pub stale_is-replace : StaleIs form n k f → StaleIs form n k (step form n k f (Do (Replace d)))
  stale_is-replace stale_is' b e g h = grind (arith, nat_tests)

  pub good-replace : Good form n k f → Good form n k (step form n k f (Do (Replace d)))
  good-replace g = record {
    top = g.top;
    last = g.last;
    here = here-replace g.here;
    synced_all = synced_all-replace g.synced_all;
    ahead = ahead-replace g.ahead;
    ahead_new = ahead_new-replace g.ahead_new;
    behind = behind-replace g.behind;
    written = written-replace g.written;
    latest = g.latest;
    wrote_planned = g.wrote_planned;
    planned_number = g.planned_number;
    covers_planned = g.covers_planned;
    did_planned = g.did_planned;
    one_writer = g.one_writer;
    opener_writes = g.opener_writes;
    units = g.units;
    sets = g.sets;
    keeps = g.keeps;
    got_is = g.got_is;
    got_number = g.got_number;
    shape_here = shape_here-replace g.shape_here;
    stale_is = stale_is-replace g.stale_is;
    told_is = g.told_is;
    took_is = g.took_is;
    becomes_is = g.becomes_is;
    flat_shape = g.flat_shape;
    zero_past = g.zero_past;
    plan_zero = g.plan_zero;
    plan_grows = g.plan_grows;
    not_made_zero = g.not_made_zero;
    maker_zero = g.maker_zero;
  }

module _ {P V C U S : Type 0} (form : Form P V C U S) (n k : ℕ) (f : File P V C U S) (d : ℕ) (may : MayDo form n k f (Do (Maker_grant d))) where
  pub maker_zero-maker_grant : MakerZero form n k f → NotMadeZero form n k f → MakerZero form n k (step form n k f (Do (Maker_grant d)))
  maker_zero-maker_grant maker_zero' not_made_zero' b p e g = grind (arith, nat_tests)

  pub good-maker_grant : Good form n k f → Good form n k (step form n k f (Do (Maker_grant d)))
  good-maker_grant g = record {
    top = g.top;
    last = g.last;
    here = g.here;
    synced_all = g.synced_all;
    ahead = g.ahead;
    ahead_new = g.ahead_new;
    behind = g.behind;
    written = g.written;
    latest = g.latest;
    wrote_planned = g.wrote_planned;
    planned_number = g.planned_number;
    covers_planned = g.covers_planned;
    did_planned = g.did_planned;
    one_writer = g.one_writer;
    opener_writes = g.opener_writes;
    units = g.units;
    sets = g.sets;
    keeps = g.keeps;
    got_is = g.got_is;
    got_number = g.got_number;
    shape_here = g.shape_here;
    stale_is = g.stale_is;
    told_is = g.told_is;
    took_is = g.took_is;
    becomes_is = g.becomes_is;
    flat_shape = g.flat_shape;
    zero_past = g.zero_past;
    plan_zero = g.plan_zero;
    plan_grows = g.plan_grows;
    not_made_zero = g.not_made_zero;
    maker_zero = maker_zero-maker_grant g.maker_zero g.not_made_zero;
  }

module _ {P V C U S : Type 0} (form : Form P V C U S) (n k : ℕ) (f : File P V C U S) (d : ℕ) (may : MayDo form n k f (Do (Maker_free d))) where
  pub maker_zero-maker_free : MakerZero form n k f → MakerZero form n k (step form n k f (Do (Maker_free d)))
  maker_zero-maker_free maker_zero' b p e g = grind (arith, nat_tests)

  pub good-maker_free : Good form n k f → Good form n k (step form n k f (Do (Maker_free d)))
  good-maker_free g = record {
    top = g.top;
    last = g.last;
    here = g.here;
    synced_all = g.synced_all;
    ahead = g.ahead;
    ahead_new = g.ahead_new;
    behind = g.behind;
    written = g.written;
    latest = g.latest;
    wrote_planned = g.wrote_planned;
    planned_number = g.planned_number;
    covers_planned = g.covers_planned;
    did_planned = g.did_planned;
    one_writer = g.one_writer;
    opener_writes = g.opener_writes;
    units = g.units;
    sets = g.sets;
    keeps = g.keeps;
    got_is = g.got_is;
    got_number = g.got_number;
    shape_here = g.shape_here;
    stale_is = g.stale_is;
    told_is = g.told_is;
    took_is = g.took_is;
    becomes_is = g.becomes_is;
    flat_shape = g.flat_shape;
    zero_past = g.zero_past;
    plan_zero = g.plan_zero;
    plan_grows = g.plan_grows;
    not_made_zero = g.not_made_zero;
    maker_zero = maker_zero-maker_free g.maker_zero;
  }

module _ {P V C U S : Type 0} (form : Form P V C U S) (n k : ℕ) (f : File P V C U S) (x d : ℕ) (may : MayDo form n k f (Look x d)) where
  pub behind-look : Behind form n k f → CommitNumber n k f → Behind form n k (step form n k f (Look x d))
  behind-look behind' commit_number a b p e g h j l m o q r = grind (arith, nat_tests)

  pub wrote_planned-look : WrotePlanned form n k f → WrotePlanned form n k (step form n k f (Look x d))
  wrote_planned-look wrote_planned' a b p e = grind (arith, nat_tests)

  pub told_is-look : ToldIs form n k f → ShapeHere form n k f → StaleIs form n k f → ToldIs form n k (step form n k f (Look x d))
  told_is-look told_is' shape_here' stale_is' a b h e g j = grind (arith, nat_tests)

  pub good-look : CommitNumber n k f → Good form n k f → Good form n k (step form n k f (Look x d))
  good-look commit_number g = record {
    top = g.top;
    last = g.last;
    here = g.here;
    synced_all = g.synced_all;
    ahead = g.ahead;
    ahead_new = g.ahead_new;
    behind = behind-look g.behind commit_number;
    written = g.written;
    latest = g.latest;
    wrote_planned = wrote_planned-look g.wrote_planned;
    planned_number = g.planned_number;
    covers_planned = g.covers_planned;
    did_planned = g.did_planned;
    one_writer = g.one_writer;
    opener_writes = g.opener_writes;
    units = g.units;
    sets = g.sets;
    keeps = g.keeps;
    got_is = g.got_is;
    got_number = g.got_number;
    shape_here = g.shape_here;
    stale_is = g.stale_is;
    told_is = told_is-look g.told_is g.shape_here g.stale_is;
    took_is = g.took_is;
    becomes_is = g.becomes_is;
    flat_shape = g.flat_shape;
    zero_past = g.zero_past;
    plan_zero = g.plan_zero;
    plan_grows = g.plan_grows;
    not_made_zero = g.not_made_zero;
    maker_zero = g.maker_zero;
  }

module _ {P V C U S : Type 0} (form : Form P V C U S) (n k : ℕ) (f : File P V C U S) (x : ℕ) (p : Ballot) (shape : S) (may : MayDo form n k f (Take x p shape)) where
  pub top-take : Top form n k f → CommitNumber n k f → Top form n k (step form n k f (Take x p shape))
  top-take top' commit_number a e = grind (arith, nat_tests)

  pub last-take : Last form n k f → CommitNumber n k f → Last form n k (step form n k f (Take x p shape))
  last-take (inl z) commit_number = inl z
  last-take (inr c) commit_number = inr (c.0, c.1, c.2 ∙ ap target (same_ballot f.heads x p c.0 (commit_number c.0 c.1) may.0.0))

  pub ahead-take : Ahead form n k f → DidNumber n k f → Ahead form n k (step form n k f (Take x p shape))
  ahead-take ahead' did_number a b z e g h j l m o q = grind (arith, nat_tests)

  pub ahead_new-take : AheadNew form n k f → DidNumber n k f → AheadNew form n k (step form n k f (Take x p shape))
  ahead_new-take ahead_new' did_number a b z e g h j l m o = grind (arith, nat_tests)

  pub behind-take : Behind form n k f → CommitNumber n k f → Behind form n k (step form n k f (Take x p shape))
  behind-take behind' commit_number a b z e g h j l m o q r = grind (arith, nat_tests)

  pub written-take : Written form n k f → WrotePlanned form n k f → PlannedNumber form n k f → Written form n k (step form n k f (Take x p shape))
  written-take written' wrote_planned' planned_number' a b z e g h j l = grind (arith, nat_tests)

  pub latest-take : Latest form n k f → CommitNumber n k f → Latest form n k (step form n k f (Take x p shape))
  latest-take latest' commit_number a z e g h j = grind (arith, nat_tests)

  pub planned_number-take : PlannedNumber form n k f → PlannedNumber form n k (step form n k f (Take x p shape))
  planned_number-take planned_number' a e = grind (arith, nat_tests)

  pub keeps-take : Keeps form n k f → CoversPlanned form n k f → PlannedNumber form n k f → Keeps form n k (step form n k f (Take x p shape))
  keeps-take keeps' covers_planned' planned_number' a z i u e g h j l = grind (arith, nat_tests)

  pub got_is-take : GotIs form n k f → GotNumber form n k f → GotIs form n k (step form n k f (Take x p shape))
  got_is-take got_is' got_number' a b z y e g h = grind (arith, nat_tests)

  pub got_number-take : GotNumber form n k f → GotNumber form n k (step form n k f (Take x p shape))
  got_number-take got_number' a b z y e = grind (arith, nat_tests)

  pub took_is-take : TookIs form n k f → shape ≡ f.shape_of p.base → TookIs form n k (step form n k f (Take x p shape))
  took_is-take took_is' took_new a e g = grind (arith, nat_tests)

  pub becomes_is-take : BecomesIs form n k f → DidNumber n k f → BecomesIs form n k (step form n k f (Take x p shape))
  becomes_is-take becomes_is' did_number a b e g = grind (arith, nat_tests)

  pub plan_grows-take : PlanGrows form n k f → PlannedNumber form n k f → PlanGrows form n k (step form n k f (Take x p shape))
  plan_grows-take plan_grows' planned_number' a z e g h = grind (arith, nat_tests)

  pub good-take : CommitNumber n k f → DidNumber n k f → shape ≡ f.shape_of p.base → Good form n k f → Good form n k (step form n k f (Take x p shape))
  good-take commit_number did_number took_new g = record {
    top = top-take g.top commit_number;
    last = last-take g.last commit_number;
    here = g.here;
    synced_all = g.synced_all;
    ahead = ahead-take g.ahead did_number;
    ahead_new = ahead_new-take g.ahead_new did_number;
    behind = behind-take g.behind commit_number;
    written = written-take g.written g.wrote_planned g.planned_number;
    latest = latest-take g.latest commit_number;
    wrote_planned = g.wrote_planned;
    planned_number = planned_number-take g.planned_number;
    covers_planned = g.covers_planned;
    did_planned = g.did_planned;
    one_writer = g.one_writer;
    opener_writes = g.opener_writes;
    units = g.units;
    sets = g.sets;
    keeps = keeps-take g.keeps g.covers_planned g.planned_number;
    got_is = got_is-take g.got_is g.got_number;
    got_number = got_number-take g.got_number;
    shape_here = g.shape_here;
    stale_is = g.stale_is;
    told_is = g.told_is;
    took_is = took_is-take g.took_is took_new;
    becomes_is = becomes_is-take g.becomes_is did_number;
    flat_shape = g.flat_shape;
    zero_past = g.zero_past;
    plan_zero = g.plan_zero;
    plan_grows = plan_grows-take g.plan_grows g.planned_number;
    not_made_zero = g.not_made_zero;
    maker_zero = g.maker_zero;
  }

module _ {P V C U S : Type 0} (form : Form P V C U S) (n k : ℕ) (f : File P V C U S) (x u : ℕ) (p : Ballot) (may : MayDo form n k f (Take_kept x u p)) where
  pub top-take_kept : Top form n k f → CommitNumber n k f → Top form n k (step form n k f (Take_kept x u p))
  top-take_kept top' commit_number a e = grind (arith, nat_tests)

  pub last-take_kept : Last form n k f → CommitNumber n k f → Last form n k (step form n k f (Take_kept x u p))
  last-take_kept (inl z) commit_number = inl z
  last-take_kept (inr c) commit_number = inr (c.0, c.1, c.2 ∙ ap target (same_ballot f.heads x p c.0 (commit_number c.0 c.1) may.0))

  pub ahead-take_kept : Ahead form n k f → DidNumber n k f → Ahead form n k (step form n k f (Take_kept x u p))
  ahead-take_kept ahead' did_number a b z e g h j l m o q = grind (arith, nat_tests)

  pub ahead_new-take_kept : AheadNew form n k f → DidNumber n k f → AheadNew form n k (step form n k f (Take_kept x u p))
  ahead_new-take_kept ahead_new' did_number a b z e g h j l m o = grind (arith, nat_tests)

  pub behind-take_kept : Behind form n k f → CommitNumber n k f → Behind form n k (step form n k f (Take_kept x u p))
  behind-take_kept behind' commit_number a b z e g h j l m o q r = grind (arith, nat_tests)

  pub written-take_kept : Written form n k f → WrotePlanned form n k f → PlannedNumber form n k f → Written form n k (step form n k f (Take_kept x u p))
  written-take_kept written' wrote_planned' planned_number' a b z e g h j l = grind (arith, nat_tests)

  pub latest-take_kept : Latest form n k f → CommitNumber n k f → Latest form n k (step form n k f (Take_kept x u p))
  latest-take_kept latest' commit_number a z e g h j = grind (arith, nat_tests)

  pub planned_number-take_kept : PlannedNumber form n k f → PlannedNumber form n k (step form n k f (Take_kept x u p))
  planned_number-take_kept planned_number' a e = grind (arith, nat_tests)

  pub keeps-take_kept : Keeps form n k f → CoversPlanned form n k f → PlannedNumber form n k f → Keeps form n k (step form n k f (Take_kept x u p))
  keeps-take_kept keeps' covers_planned' planned_number' a z i u e g h j l = grind (arith, nat_tests)

  pub got_is-take_kept : GotIs form n k f → GotNumber form n k f → GotIs form n k (step form n k f (Take_kept x u p))
  got_is-take_kept got_is' got_number' a b z y e g h = grind (arith, nat_tests)

  pub got_number-take_kept : GotNumber form n k f → GotNumber form n k (step form n k f (Take_kept x u p))
  got_number-take_kept got_number' a b z y e = grind (arith, nat_tests)

  pub took_is-take_kept : TookIs form n k f → f.becomes u ≡ f.shape_of p.base → TookIs form n k (step form n k f (Take_kept x u p))
  took_is-take_kept took_is' took_kept a e g = grind (arith, nat_tests)

  pub becomes_is-take_kept : BecomesIs form n k f → DidNumber n k f → BecomesIs form n k (step form n k f (Take_kept x u p))
  becomes_is-take_kept becomes_is' did_number a b e g = grind (arith, nat_tests)

  pub plan_grows-take_kept : PlanGrows form n k f → PlannedNumber form n k f → PlanGrows form n k (step form n k f (Take_kept x u p))
  plan_grows-take_kept plan_grows' planned_number' a z e g h = grind (arith, nat_tests)

  pub good-take_kept : CommitNumber n k f → DidNumber n k f → f.becomes u ≡ f.shape_of p.base → Good form n k f → Good form n k (step form n k f (Take_kept x u p))
  good-take_kept commit_number did_number took_kept g = record {
    top = top-take_kept g.top commit_number;
    last = last-take_kept g.last commit_number;
    here = g.here;
    synced_all = g.synced_all;
    ahead = ahead-take_kept g.ahead did_number;
    ahead_new = ahead_new-take_kept g.ahead_new did_number;
    behind = behind-take_kept g.behind commit_number;
    written = written-take_kept g.written g.wrote_planned g.planned_number;
    latest = latest-take_kept g.latest commit_number;
    wrote_planned = g.wrote_planned;
    planned_number = planned_number-take_kept g.planned_number;
    covers_planned = g.covers_planned;
    did_planned = g.did_planned;
    one_writer = g.one_writer;
    opener_writes = g.opener_writes;
    units = g.units;
    sets = g.sets;
    keeps = keeps-take_kept g.keeps g.covers_planned g.planned_number;
    got_is = got_is-take_kept g.got_is g.got_number;
    got_number = got_number-take_kept g.got_number;
    shape_here = g.shape_here;
    stale_is = g.stale_is;
    told_is = g.told_is;
    took_is = took_is-take_kept g.took_is took_kept;
    becomes_is = becomes_is-take_kept g.becomes_is did_number;
    flat_shape = g.flat_shape;
    zero_past = g.zero_past;
    plan_zero = g.plan_zero;
    plan_grows = plan_grows-take_kept g.plan_grows g.planned_number;
    not_made_zero = g.not_made_zero;
    maker_zero = g.maker_zero;
  }

module _ {P V C U S : Type 0} (form : Form P V C U S) (n k : ℕ) (f : File P V C U S) (x d : ℕ) (places : P → Bool) (may : MayDo form n k f (Read x d places)) where
  pub got_is-read : GotIs form n k f → Here form n k f → SyncedAll form n k f → GotIs form n k (step form n k f (Read x d places))
  got_is-read got_is' here' synced_all' a b p y e g h = grind (arith, nat_tests)

  pub got_number-read : GotNumber form n k f → GotNumber form n k (step form n k f (Read x d places))
  got_number-read got_number' a b p y e = grind (arith, nat_tests)

  pub good-read : Good form n k f → Good form n k (step form n k f (Read x d places))
  good-read g = record {
    top = g.top;
    last = g.last;
    here = g.here;
    synced_all = g.synced_all;
    ahead = g.ahead;
    ahead_new = g.ahead_new;
    behind = g.behind;
    written = g.written;
    latest = g.latest;
    wrote_planned = g.wrote_planned;
    planned_number = g.planned_number;
    covers_planned = g.covers_planned;
    did_planned = g.did_planned;
    one_writer = g.one_writer;
    opener_writes = g.opener_writes;
    units = g.units;
    sets = g.sets;
    keeps = g.keeps;
    got_is = got_is-read g.got_is g.here g.synced_all;
    got_number = got_number-read g.got_number;
    shape_here = g.shape_here;
    stale_is = g.stale_is;
    told_is = g.told_is;
    took_is = g.took_is;
    becomes_is = g.becomes_is;
    flat_shape = g.flat_shape;
    zero_past = g.zero_past;
    plan_zero = g.plan_zero;
    plan_grows = g.plan_grows;
    not_made_zero = g.not_made_zero;
    maker_zero = g.maker_zero;
  }

module _ {P V C U S : Type 0} (form : Form P V C U S) (n k : ℕ) (f : File P V C U S) (x : ℕ) (plan : Plan P V U S) (may : MayDo form n k f (Intend x plan)) where
  pub ahead-intend : Ahead form n k f → DidPlanned form n k f → Ahead form n k (step form n k f (Intend x plan))
  ahead-intend ahead' did_planned' a b p e g h j l m o q = grind (arith, nat_tests)

  pub ahead_new-intend : AheadNew form n k f → DidPlanned form n k f → AheadNew form n k (step form n k f (Intend x plan))
  ahead_new-intend ahead_new' did_planned' a b p e g h j l m o = grind (arith, nat_tests)

  pub behind-intend : Behind form n k f → CommitPlanned n k f → Behind form n k (step form n k f (Intend x plan))
  behind-intend behind' commit_planned a b p e g h j l m o q r = grind (arith, nat_tests)

  pub written-intend : Written form n k f → WrotePlanned form n k f → Written form n k (step form n k f (Intend x plan))
  written-intend written' wrote_planned' a b p e g h j l = grind (arith, nat_tests)

  pub latest-intend : Latest form n k f → CommitPlanned n k f → Latest form n k (step form n k f (Intend x plan))
  latest-intend latest' commit_planned a p e g h j = grind (arith, nat_tests)

  pub wrote_planned-intend : WrotePlanned form n k f → WrotePlanned form n k (step form n k f (Intend x plan))
  wrote_planned-intend wrote_planned' a b p e = grind (arith, nat_tests)

  pub planned_number-intend : PlannedNumber form n k f → PlannedNumber form n k (step form n k f (Intend x plan))
  planned_number-intend planned_number' a e = grind (arith, nat_tests)

  pub covers_planned-intend : CoversPlanned form n k f → CoversPlanned form n k (step form n k f (Intend x plan))
  covers_planned-intend covers_planned' a p e = grind (arith, nat_tests)

  pub did_planned-intend : DidPlanned form n k f → DidPlanned form n k (step form n k f (Intend x plan))
  did_planned-intend did_planned' a b e g = grind (arith, nat_tests)

  pub one_writer-intend : OneWriter form n k f → PlannedNumber form n k f → OneWriter form n k (step form n k f (Intend x plan))
  one_writer-intend one_writer' planned_number' a x2 e g h = grind (arith, nat_tests)

  pub opener_writes-intend : OpenerWrites form n k f → OpenerWrites form n k (step form n k f (Intend x plan))
  opener_writes-intend opener_writes' p c e = grind (arith, nat_tests)

  pub sets-intend : Sets form n k f → Sets form n k (step form n k f (Intend x plan))
  sets-intend sets' a p i u e g = let s = may.4.sets p i u in grind (arith, nat_tests)

  -- a unit that the plan carries over is that of the one value
  kept_unit : GotIs form n k f → Latest form n k f → (p : P) (i : ℕ) → plan.covers p ≡ true → plan.sets p i ≡ None → (f.heads.ballot x).base ≡ f.flat.version → f.flat.opener p ≡ Nobody → form.unit (plan.value p) i ≡ form.unit (f.content p) i
  kept_unit got_is' latest' p i e g h o = ⊎_elim (λ read. read (f.content p) (λ c y q. got_is' x c p y q h o)) (λ c. c.4 ∙ ap (λ (v : V). form.unit v i) (sym (latest' c.0 p c.1 (c.2 ∙ h) c.3 o))) (may.4.keeps p i e g)

  pub keeps-intend : Keeps form n k f → GotIs form n k f → Units form n k f → Latest form n k f → OpenerWrites form n k f → Keeps form n k (step form n k f (Intend x plan))
  keeps-intend keeps' got_is' units' latest' opener_writes' a p i u e g h j l = pick (a == x) refl
    where
      closed : (o : Opener) → f.flat.opener p ≡ o → is_open_to_it_alone (f.heads.call x) o ≡ true → o ≡ Nobody
      closed Nobody q alone = refl
      closed (One c) q alone = absurd (let w = opener_writes' p c q in let v = may.3 in let s : c ≡ f.heads.call x = eqb-true c (f.heads.call x) alone in grind (arith, nat_tests))
      closed Several q alone = absurd (cc)

      pick : (t : Bool) → (a == x) ≡ t → form.unit ((step form n k f (Intend x plan)).value a p) i ≡ u
      pick true is =
          let s = eqb-true a x is in
          let covered : plan.covers p ≡ true = grind (arith, nat_tests) in
          let unset : plan.sets p i ≡ None = grind (arith, nat_tests) in
          let alone : is_open_to_it_alone (f.heads.call x) (f.flat.opener p) ≡ true = rw s at h' in
          let c = closed (f.flat.opener p) refl alone in
          let k' = kept_unit got_is' latest' p i covered unset (rw s at g) c in
          let v = units' p i u c l in
          grind (arith, nat_tests)
        where
          h' : is_open_to_it_alone (f.heads.call a) (f.flat.opener p) ≡ true
          h' = h
      pick false is = let v = keeps' a p i u in grind (arith, nat_tests)

  pub becomes_is-intend : BecomesIs form n k f → DidPlanned form n k f → BecomesIs form n k (step form n k f (Intend x plan))
  becomes_is-intend becomes_is' did_planned' a b e g = grind (arith, nat_tests)

  pub plan_zero-intend : PlanZero form n k f → PlanZero form n k (step form n k f (Intend x plan))
  plan_zero-intend plan_zero' a p e g h = let s = may.4.zero p in grind (arith, nat_tests)

  pub plan_grows-intend : PlanGrows form n k f → PlanGrows form n k (step form n k f (Intend x plan))
  plan_grows-intend plan_grows' a p e g h = let s = may.4.grows p in grind (arith, nat_tests)

  pub good-intend : CommitPlanned n k f → Good form n k f → Good form n k (step form n k f (Intend x plan))
  good-intend commit_planned g = record {
    top = g.top;
    last = g.last;
    here = g.here;
    synced_all = g.synced_all;
    ahead = ahead-intend g.ahead g.did_planned;
    ahead_new = ahead_new-intend g.ahead_new g.did_planned;
    behind = behind-intend g.behind commit_planned;
    written = written-intend g.written g.wrote_planned;
    latest = latest-intend g.latest commit_planned;
    wrote_planned = wrote_planned-intend g.wrote_planned;
    planned_number = planned_number-intend g.planned_number;
    covers_planned = covers_planned-intend g.covers_planned;
    did_planned = did_planned-intend g.did_planned;
    one_writer = one_writer-intend g.one_writer g.planned_number;
    opener_writes = opener_writes-intend g.opener_writes;
    units = g.units;
    sets = sets-intend g.sets;
    keeps = keeps-intend g.keeps g.got_is g.units g.latest g.opener_writes;
    got_is = g.got_is;
    got_number = g.got_number;
    shape_here = g.shape_here;
    stale_is = g.stale_is;
    told_is = g.told_is;
    took_is = g.took_is;
    becomes_is = becomes_is-intend g.becomes_is g.did_planned;
    flat_shape = g.flat_shape;
    zero_past = g.zero_past;
    plan_zero = plan_zero-intend g.plan_zero;
    plan_grows = plan_grows-intend g.plan_grows;
    not_made_zero = g.not_made_zero;
    maker_zero = g.maker_zero;
  }
