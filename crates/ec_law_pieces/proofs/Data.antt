-- Data requests, copies, marks and what takes them away, and Make: each deed keeps each clause. A clause that speaks of nothing that the deed changes is handed on.
use Rattle.std.proofs.Common.{◌≡◌, ℕ, Bool, true, arith}
use Rattle.std.proofs.lemmas.Bool.Decides.{nat_tests}
use Rattle.ec_history.specs.Flat.Opener.{Nobody}
use Rattle.ec_law_pieces.specs.File.{Form, File}
use Rattle.ec_law_pieces.specs.Deed.{step, MayDo}
use Rattle.ec_law_pieces.specs.Deed.Deed.{Begin, Copy, Create, Finish, Spoil, Tear, Write}
use Rattle.ec_law_pieces.specs.Clauses.{Here, SyncedAll, Ahead, AheadNew, Behind, Written, Latest, WrotePlanned, PlannedNumber, OpenerWrites, Units, Keeps, GotIs, ShapeHere, StaleIs, ToldIs, TookIs, BecomesIs, FlatShape, ZeroPast, NotMadeZero, MakerZero, Good}
use Rattle.ec_law_pieces.specs.Facts.{AloneBefore, BaseLe, CommitPlanned, DidNumber, NoneMade, OneBefore, OpenAfter, UnbornMet}

module _ {P V C U S : Type 0} (form : Form P V C U S) (n k : ℕ) (f : File P V C U S) (x d : ℕ) (places : P → Bool) (may : MayDo form n k f (Write x d places)) where
  pub here-write : Here form n k f → OpenAfter n k f → Here form n k (step form n k f (Write x d places))
  here-write here' open_after b p e g h j = grind (arith, nat_tests)

  pub ahead-write : Ahead form n k f → OpenAfter n k f → BaseLe n k f → DidNumber n k f → Ahead form n k (step form n k f (Write x d places))
  ahead-write ahead' open_after base_le did_number a b p e g h j l m o q = grind (arith, nat_tests)

  pub ahead_new-write : AheadNew form n k f → BaseLe n k f → DidNumber n k f → AheadNew form n k (step form n k f (Write x d places))
  ahead_new-write ahead_new' base_le did_number a b p e g h j l m o = grind (arith, nat_tests)

  pub behind-write : Behind form n k f → OpenAfter n k f → Behind form n k (step form n k f (Write x d places))
  behind-write behind' open_after a b p e g h j l m o q r = grind (arith, nat_tests)

  pub written-write : Written form n k f → Written form n k (step form n k f (Write x d places))
  written-write written' a b p e g h j l = grind (arith, nat_tests)

  pub latest-write : Latest form n k f → OpenAfter n k f → Latest form n k (step form n k f (Write x d places))
  latest-write latest' open_after a p e g h j = grind (arith, nat_tests)

  pub wrote_planned-write : WrotePlanned form n k f → WrotePlanned form n k (step form n k f (Write x d places))
  wrote_planned-write wrote_planned' a b p e = grind (arith, nat_tests)

  pub opener_writes-write : OpenerWrites form n k f → OneBefore n k f → PlannedNumber form n k f → OpenerWrites form n k (step form n k f (Write x d places))
  opener_writes-write opener_writes' one_before planned_number' p c e = grind (arith, nat_tests)

  pub units-write : Units form n k f → OpenAfter n k f → Units form n k (step form n k f (Write x d places))
  units-write units' open_after p i u e g = grind (arith, nat_tests)

  pub keeps-write : Keeps form n k f → AloneBefore n k f → Keeps form n k (step form n k f (Write x d places))
  keeps-write keeps' alone_before a p i u e g h j l = grind (arith, nat_tests)

  pub got_is-write : GotIs form n k f → OpenAfter n k f → GotIs form n k (step form n k f (Write x d places))
  got_is-write got_is' open_after a b p y e g h = grind (arith, nat_tests)

  pub zero_past-write : ZeroPast form n k f → OpenAfter n k f → ZeroPast form n k (step form n k f (Write x d places))
  zero_past-write zero_past' open_after p e g = grind (arith, nat_tests)

  pub good-write : OpenAfter n k f → BaseLe n k f → DidNumber n k f → OneBefore n k f → AloneBefore n k f → Good form n k f → Good form n k (step form n k f (Write x d places))
  good-write open_after base_le did_number one_before alone_before g = record {
    top = g.top;
    last = g.last;
    here = here-write g.here open_after;
    synced_all = g.synced_all;
    ahead = ahead-write g.ahead open_after base_le did_number;
    ahead_new = ahead_new-write g.ahead_new base_le did_number;
    behind = behind-write g.behind open_after;
    written = written-write g.written;
    latest = latest-write g.latest open_after;
    wrote_planned = wrote_planned-write g.wrote_planned;
    planned_number = g.planned_number;
    covers_planned = g.covers_planned;
    did_planned = g.did_planned;
    one_writer = g.one_writer;
    opener_writes = opener_writes-write g.opener_writes one_before g.planned_number;
    units = units-write g.units open_after;
    sets = g.sets;
    keeps = keeps-write g.keeps alone_before;
    got_is = got_is-write g.got_is open_after;
    got_number = g.got_number;
    shape_here = g.shape_here;
    stale_is = g.stale_is;
    told_is = g.told_is;
    took_is = g.took_is;
    becomes_is = g.becomes_is;
    flat_shape = g.flat_shape;
    zero_past = zero_past-write g.zero_past open_after;
    plan_zero = g.plan_zero;
    plan_grows = g.plan_grows;
    not_made_zero = g.not_made_zero;
    maker_zero = g.maker_zero;
  }

module _ {P V C U S : Type 0} (form : Form P V C U S) (n k : ℕ) (f : File P V C U S) (x d : ℕ) (places : P → Bool) (pieces : P → C) (may : MayDo form n k f (Tear x d places pieces)) where
  pub here-tear : Here form n k f → OpenAfter n k f → Here form n k (step form n k f (Tear x d places pieces))
  here-tear here' open_after b p e g h j = grind (arith, nat_tests)

  pub ahead-tear : Ahead form n k f → OpenAfter n k f → BaseLe n k f → DidNumber n k f → Ahead form n k (step form n k f (Tear x d places pieces))
  ahead-tear ahead' open_after base_le did_number a b p e g h j l m o q = grind (arith, nat_tests)

  pub ahead_new-tear : AheadNew form n k f → BaseLe n k f → DidNumber n k f → AheadNew form n k (step form n k f (Tear x d places pieces))
  ahead_new-tear ahead_new' base_le did_number a b p e g h j l m o = grind (arith, nat_tests)

  pub behind-tear : Behind form n k f → OpenAfter n k f → Behind form n k (step form n k f (Tear x d places pieces))
  behind-tear behind' open_after a b p e g h j l m o q r = grind (arith, nat_tests)

  pub written-tear : Written form n k f → Written form n k (step form n k f (Tear x d places pieces))
  written-tear written' a b p e g h j l = grind (arith, nat_tests)

  pub latest-tear : Latest form n k f → OpenAfter n k f → Latest form n k (step form n k f (Tear x d places pieces))
  latest-tear latest' open_after a p e g h j = grind (arith, nat_tests)

  pub wrote_planned-tear : WrotePlanned form n k f → WrotePlanned form n k (step form n k f (Tear x d places pieces))
  wrote_planned-tear wrote_planned' a b p e = grind (arith, nat_tests)

  pub opener_writes-tear : OpenerWrites form n k f → OneBefore n k f → PlannedNumber form n k f → OpenerWrites form n k (step form n k f (Tear x d places pieces))
  opener_writes-tear opener_writes' one_before planned_number' p c e = grind (arith, nat_tests)

  pub units-tear : Units form n k f → OpenAfter n k f → Units form n k (step form n k f (Tear x d places pieces))
  units-tear units' open_after p i u e g = grind (arith, nat_tests)

  pub keeps-tear : Keeps form n k f → AloneBefore n k f → Keeps form n k (step form n k f (Tear x d places pieces))
  keeps-tear keeps' alone_before a p i u e g h j l = grind (arith, nat_tests)

  pub got_is-tear : GotIs form n k f → OpenAfter n k f → GotIs form n k (step form n k f (Tear x d places pieces))
  got_is-tear got_is' open_after a b p y e g h = grind (arith, nat_tests)

  pub zero_past-tear : ZeroPast form n k f → OpenAfter n k f → ZeroPast form n k (step form n k f (Tear x d places pieces))
  zero_past-tear zero_past' open_after p e g = grind (arith, nat_tests)

  pub good-tear : OpenAfter n k f → BaseLe n k f → DidNumber n k f → OneBefore n k f → AloneBefore n k f → Good form n k f → Good form n k (step form n k f (Tear x d places pieces))
  good-tear open_after base_le did_number one_before alone_before g = record {
    top = g.top;
    last = g.last;
    here = here-tear g.here open_after;
    synced_all = g.synced_all;
    ahead = ahead-tear g.ahead open_after base_le did_number;
    ahead_new = ahead_new-tear g.ahead_new base_le did_number;
    behind = behind-tear g.behind open_after;
    written = written-tear g.written;
    latest = latest-tear g.latest open_after;
    wrote_planned = wrote_planned-tear g.wrote_planned;
    planned_number = g.planned_number;
    covers_planned = g.covers_planned;
    did_planned = g.did_planned;
    one_writer = g.one_writer;
    opener_writes = opener_writes-tear g.opener_writes one_before g.planned_number;
    units = units-tear g.units open_after;
    sets = g.sets;
    keeps = keeps-tear g.keeps alone_before;
    got_is = got_is-tear g.got_is open_after;
    got_number = g.got_number;
    shape_here = g.shape_here;
    stale_is = g.stale_is;
    told_is = g.told_is;
    took_is = g.took_is;
    becomes_is = g.becomes_is;
    flat_shape = g.flat_shape;
    zero_past = zero_past-tear g.zero_past open_after;
    plan_zero = g.plan_zero;
    plan_grows = g.plan_grows;
    not_made_zero = g.not_made_zero;
    maker_zero = g.maker_zero;
  }

module _ {P V C U S : Type 0} (form : Form P V C U S) (n k : ℕ) (f : File P V C U S) (x d : ℕ) (places : P → Bool) (pieces : P → C) (may : MayDo form n k f (Copy x d places pieces)) where
  pub here-copy : Here form n k f → ((p : P) → places p ≡ true → f.heads.version d ≡ f.flat.version → f.flat.opener p ≡ Nobody → pieces p ≡ form.code (f.content p) d) → Here form n k (step form n k f (Copy x d places pieces))
  here-copy here' copy_is b p e g h j = grind (arith, nat_tests)

  pub synced_all-copy : SyncedAll form n k f → SyncedAll form n k (step form n k f (Copy x d places pieces))
  synced_all-copy synced_all' b p e g = grind (arith, nat_tests)

  pub ahead-copy : Ahead form n k f → BaseLe n k f → DidNumber n k f → Ahead form n k (step form n k f (Copy x d places pieces))
  ahead-copy ahead' base_le did_number a b p e g h j l m o q = grind (arith, nat_tests)

  pub ahead_new-copy : AheadNew form n k f → BaseLe n k f → DidNumber n k f → AheadNew form n k (step form n k f (Copy x d places pieces))
  ahead_new-copy ahead_new' base_le did_number a b p e g h j l m o = grind (arith, nat_tests)

  pub behind-copy : Behind form n k f → CommitPlanned n k f → Behind form n k (step form n k f (Copy x d places pieces))
  behind-copy behind' commit_planned a b p e g h j l m o q r = grind (arith, nat_tests)

  pub written-copy : Written form n k f → WrotePlanned form n k f → Written form n k (step form n k f (Copy x d places pieces))
  written-copy written' wrote_planned' a b p e g h j l = grind (arith, nat_tests)

  pub good-copy : ((p : P) → places p ≡ true → f.heads.version d ≡ f.flat.version → f.flat.opener p ≡ Nobody → pieces p ≡ form.code (f.content p) d) → BaseLe n k f → DidNumber n k f → CommitPlanned n k f → Good form n k f → Good form n k (step form n k f (Copy x d places pieces))
  good-copy copy_is base_le did_number commit_planned g = record {
    top = g.top;
    last = g.last;
    here = here-copy g.here copy_is;
    synced_all = synced_all-copy g.synced_all;
    ahead = ahead-copy g.ahead base_le did_number;
    ahead_new = ahead_new-copy g.ahead_new base_le did_number;
    behind = behind-copy g.behind commit_planned;
    written = written-copy g.written g.wrote_planned;
    latest = g.latest;
    wrote_planned = g.wrote_planned;
    planned_number = g.planned_number;
    covers_planned = g.covers_planned;
    did_planned = g.did_planned;
    one_writer = g.one_writer;
    opener_writes = g.opener_writes;
    units = g.units;
    sets = g.sets;
    keeps = g.keeps;
    got_is = g.got_is;
    got_number = g.got_number;
    shape_here = g.shape_here;
    stale_is = g.stale_is;
    told_is = g.told_is;
    took_is = g.took_is;
    becomes_is = g.becomes_is;
    flat_shape = g.flat_shape;
    zero_past = g.zero_past;
    plan_zero = g.plan_zero;
    plan_grows = g.plan_grows;
    not_made_zero = g.not_made_zero;
    maker_zero = g.maker_zero;
  }

module _ {P V C U S : Type 0} (form : Form P V C U S) (n k : ℕ) (f : File P V C U S) (d : ℕ) (places : P → Bool) (pieces : P → C) (may : MayDo form n k f (Spoil d places pieces)) where
  pub here-spoil : Here form n k f → Here form n k (step form n k f (Spoil d places pieces))
  here-spoil here' b p e g h j = grind (arith, nat_tests)

  pub synced_all-spoil : SyncedAll form n k f → SyncedAll form n k (step form n k f (Spoil d places pieces))
  synced_all-spoil synced_all' b p e g = grind (arith, nat_tests)

  pub ahead-spoil : Ahead form n k f → Ahead form n k (step form n k f (Spoil d places pieces))
  ahead-spoil ahead' a b p e g h j l m o q = grind (arith, nat_tests)

  pub ahead_new-spoil : AheadNew form n k f → AheadNew form n k (step form n k f (Spoil d places pieces))
  ahead_new-spoil ahead_new' a b p e g h j l m o = grind (arith, nat_tests)

  pub behind-spoil : Behind form n k f → Behind form n k (step form n k f (Spoil d places pieces))
  behind-spoil behind' a b p e g h j l m o q r = grind (arith, nat_tests)

  pub written-spoil : Written form n k f → Written form n k (step form n k f (Spoil d places pieces))
  written-spoil written' a b p e g h j l = grind (arith, nat_tests)

  pub good-spoil : Good form n k f → Good form n k (step form n k f (Spoil d places pieces))
  good-spoil g = record {
    top = g.top;
    last = g.last;
    here = here-spoil g.here;
    synced_all = synced_all-spoil g.synced_all;
    ahead = ahead-spoil g.ahead;
    ahead_new = ahead_new-spoil g.ahead_new;
    behind = behind-spoil g.behind;
    written = written-spoil g.written;
    latest = g.latest;
    wrote_planned = g.wrote_planned;
    planned_number = g.planned_number;
    covers_planned = g.covers_planned;
    did_planned = g.did_planned;
    one_writer = g.one_writer;
    opener_writes = g.opener_writes;
    units = g.units;
    sets = g.sets;
    keeps = g.keeps;
    got_is = g.got_is;
    got_number = g.got_number;
    shape_here = g.shape_here;
    stale_is = g.stale_is;
    told_is = g.told_is;
    took_is = g.took_is;
    becomes_is = g.becomes_is;
    flat_shape = g.flat_shape;
    zero_past = g.zero_past;
    plan_zero = g.plan_zero;
    plan_grows = g.plan_grows;
    not_made_zero = g.not_made_zero;
    maker_zero = g.maker_zero;
  }

module _ {P V C U S : Type 0} (form : Form P V C U S) (n k : ℕ) (f : File P V C U S) (x d : ℕ) (may : MayDo form n k f (Begin x d)) where
  pub here-begin : Here form n k f → Here form n k (step form n k f (Begin x d))
  here-begin here' b p e g h j = grind (arith, nat_tests)

  pub synced_all-begin : SyncedAll form n k f → SyncedAll form n k (step form n k f (Begin x d))
  synced_all-begin synced_all' b p e g = grind (arith, nat_tests)

  pub ahead-begin : Ahead form n k f → Ahead form n k (step form n k f (Begin x d))
  ahead-begin ahead' a b p e g h j l m o q = grind (arith, nat_tests)

  pub ahead_new-begin : AheadNew form n k f → AheadNew form n k (step form n k f (Begin x d))
  ahead_new-begin ahead_new' a b p e g h j l m o = grind (arith, nat_tests)

  pub behind-begin : Behind form n k f → Behind form n k (step form n k f (Begin x d))
  behind-begin behind' a b p e g h j l m o q r = grind (arith, nat_tests)

  pub written-begin : Written form n k f → Written form n k (step form n k f (Begin x d))
  written-begin written' a b p e g h j l = grind (arith, nat_tests)

  pub wrote_planned-begin : WrotePlanned form n k f → WrotePlanned form n k (step form n k f (Begin x d))
  wrote_planned-begin wrote_planned' a b p e = grind (arith, nat_tests)

  pub shape_here-begin : ShapeHere form n k f → TookIs form n k f → ShapeHere form n k (step form n k f (Begin x d))
  shape_here-begin shape_here' took_is' b e g = grind (arith, nat_tests)

  pub stale_is-begin : StaleIs form n k f → StaleIs form n k (step form n k f (Begin x d))
  stale_is-begin stale_is' b e g h = grind (arith, nat_tests)

  pub good-begin : Good form n k f → Good form n k (step form n k f (Begin x d))
  good-begin g = record {
    top = g.top;
    last = g.last;
    here = here-begin g.here;
    synced_all = synced_all-begin g.synced_all;
    ahead = ahead-begin g.ahead;
    ahead_new = ahead_new-begin g.ahead_new;
    behind = behind-begin g.behind;
    written = written-begin g.written;
    latest = g.latest;
    wrote_planned = wrote_planned-begin g.wrote_planned;
    planned_number = g.planned_number;
    covers_planned = g.covers_planned;
    did_planned = g.did_planned;
    one_writer = g.one_writer;
    opener_writes = g.opener_writes;
    units = g.units;
    sets = g.sets;
    keeps = g.keeps;
    got_is = g.got_is;
    got_number = g.got_number;
    shape_here = shape_here-begin g.shape_here g.took_is;
    stale_is = stale_is-begin g.stale_is;
    told_is = g.told_is;
    took_is = g.took_is;
    becomes_is = g.becomes_is;
    flat_shape = g.flat_shape;
    zero_past = g.zero_past;
    plan_zero = g.plan_zero;
    plan_grows = g.plan_grows;
    not_made_zero = g.not_made_zero;
    maker_zero = g.maker_zero;
  }

module _ {P V C U S : Type 0} (form : Form P V C U S) (n k : ℕ) (f : File P V C U S) (x d : ℕ) (may : MayDo form n k f (Finish x d)) where
  pub synced_all-finish : SyncedAll form n k f → SyncedAll form n k (step form n k f (Finish x d))
  synced_all-finish synced_all' b p e g = grind (arith, nat_tests)

  pub stale_is-finish : StaleIs form n k f → StaleIs form n k (step form n k f (Finish x d))
  stale_is-finish stale_is' b e g h = grind (arith, nat_tests)

  pub good-finish : Good form n k f → Good form n k (step form n k f (Finish x d))
  good-finish g = record {
    top = g.top;
    last = g.last;
    here = g.here;
    synced_all = synced_all-finish g.synced_all;
    ahead = g.ahead;
    ahead_new = g.ahead_new;
    behind = g.behind;
    written = g.written;
    latest = g.latest;
    wrote_planned = g.wrote_planned;
    planned_number = g.planned_number;
    covers_planned = g.covers_planned;
    did_planned = g.did_planned;
    one_writer = g.one_writer;
    opener_writes = g.opener_writes;
    units = g.units;
    sets = g.sets;
    keeps = g.keeps;
    got_is = g.got_is;
    got_number = g.got_number;
    shape_here = g.shape_here;
    stale_is = stale_is-finish g.stale_is;
    told_is = g.told_is;
    took_is = g.took_is;
    becomes_is = g.becomes_is;
    flat_shape = g.flat_shape;
    zero_past = g.zero_past;
    plan_zero = g.plan_zero;
    plan_grows = g.plan_grows;
    not_made_zero = g.not_made_zero;
    maker_zero = g.maker_zero;
  }

module _ {P V C U S : Type 0} (form : Form P V C U S) (n k : ℕ) (f : File P V C U S) (d : ℕ) (shape : S) (may : MayDo form n k f (Create d shape)) where
  pub here-create : Here form n k f → MakerZero form n k f → Here form n k (step form n k f (Create d shape))
  here-create here' maker_zero' b p e g h j = grind (arith, nat_tests)

  pub synced_all-create : SyncedAll form n k f → SyncedAll form n k (step form n k f (Create d shape))
  synced_all-create synced_all' b p e g = grind (arith, nat_tests)

  pub ahead-create : Ahead form n k f → DidNumber n k f → Ahead form n k (step form n k f (Create d shape))
  ahead-create ahead' did_number a b p e g h j l m o q = grind (arith, nat_tests)

  pub ahead_new-create : AheadNew form n k f → DidNumber n k f → AheadNew form n k (step form n k f (Create d shape))
  ahead_new-create ahead_new' did_number a b p e g h j l m o = grind (arith, nat_tests)

  pub behind-create : Behind form n k f → UnbornMet n k f d → Behind form n k (step form n k f (Create d shape))
  behind-create behind' unborn_met a b p e g h j l m o q r = grind (arith, nat_tests)

  pub written-create : Written form n k f → UnbornMet n k f d → WrotePlanned form n k f → Written form n k (step form n k f (Create d shape))
  written-create written' unborn_met wrote_planned' a b p e g h j l = grind (arith, nat_tests)

  pub shape_here-create : ShapeHere form n k f → NoneMade n k f → ShapeHere form n k (step form n k f (Create d shape))
  shape_here-create shape_here' none_made b e g = grind (arith, nat_tests)

  pub stale_is-create : StaleIs form n k f → StaleIs form n k (step form n k f (Create d shape))
  stale_is-create stale_is' b e g h = grind (arith, nat_tests)

  pub told_is-create : ToldIs form n k f → NoneMade n k f → ToldIs form n k (step form n k f (Create d shape))
  told_is-create told_is' none_made a b h e g j = grind (arith, nat_tests)

  pub took_is-create : TookIs form n k f → NoneMade n k f → TookIs form n k (step form n k f (Create d shape))
  took_is-create took_is' none_made a e g = grind (arith, nat_tests)

  pub becomes_is-create : BecomesIs form n k f → NoneMade n k f → DidNumber n k f → BecomesIs form n k (step form n k f (Create d shape))
  becomes_is-create becomes_is' none_made did_number a b e g = grind (arith, nat_tests)

  pub flat_shape-create : FlatShape form n k f → NoneMade n k f → FlatShape form n k (step form n k f (Create d shape))
  flat_shape-create flat_shape' none_made = grind (arith, nat_tests)

  pub zero_past-create : ZeroPast form n k f → NotMadeZero form n k f → ZeroPast form n k (step form n k f (Create d shape))
  zero_past-create zero_past' not_made_zero' p e g = grind (arith, nat_tests)

  pub not_made_zero-create : NotMadeZero form n k f → NotMadeZero form n k (step form n k f (Create d shape))
  not_made_zero-create not_made_zero' p e = grind (arith, nat_tests)

  pub good-create : DidNumber n k f → UnbornMet n k f d → NoneMade n k f → Good form n k f → Good form n k (step form n k f (Create d shape))
  good-create did_number unborn_met none_made g = record {
    top = g.top;
    last = g.last;
    here = here-create g.here g.maker_zero;
    synced_all = synced_all-create g.synced_all;
    ahead = ahead-create g.ahead did_number;
    ahead_new = ahead_new-create g.ahead_new did_number;
    behind = behind-create g.behind unborn_met;
    written = written-create g.written unborn_met g.wrote_planned;
    latest = g.latest;
    wrote_planned = g.wrote_planned;
    planned_number = g.planned_number;
    covers_planned = g.covers_planned;
    did_planned = g.did_planned;
    one_writer = g.one_writer;
    opener_writes = g.opener_writes;
    units = g.units;
    sets = g.sets;
    keeps = g.keeps;
    got_is = g.got_is;
    got_number = g.got_number;
    shape_here = shape_here-create g.shape_here none_made;
    stale_is = stale_is-create g.stale_is;
    told_is = told_is-create g.told_is none_made;
    took_is = took_is-create g.took_is none_made;
    becomes_is = becomes_is-create g.becomes_is none_made did_number;
    flat_shape = flat_shape-create g.flat_shape none_made;
    zero_past = zero_past-create g.zero_past g.not_made_zero;
    plan_zero = g.plan_zero;
    plan_grows = g.plan_grows;
    not_made_zero = not_made_zero-create g.not_made_zero;
    maker_zero = g.maker_zero;
  }
