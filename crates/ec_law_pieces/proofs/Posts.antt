-- PostOps: each deed keeps each clause. A clause that speaks of nothing that the deed changes is handed on.
use Rattle.std.proofs.Common.{◌≡◌, ◌≢◌, ℕ, ◌<◌, ◌≤◌, Bool, true, false, cond, ◌==◌, Option, Some, None, refl, ◌∙◌, arith, inl, inr, eqb-true}
use Rattle.std.proofs.lemmas.Bool.Decides.{nat_tests}
use Rattle.ec_history.specs.Flat.{is_open_to_it_alone}
use Rattle.ec_history.specs.Flat.Opener.{Nobody}
use Rattle.ec_law_base.specs.State.{target}
use Rattle.ec_law_base.proofs.Counts.{mono}
use Rattle.ec_law_ballots.specs.Words.{did}
use Rattle.ec_law_ballots.specs.Act.{step as act_step}
use Rattle.ec_law_ballots.specs.Act.Act.{Post}
use Rattle.ec_law_ballots.specs.Guard.{IsCommitted}
use Rattle.ec_law_pieces.specs.File.{Form, File}
use Rattle.ec_law_pieces.specs.Deed.{step, MayDo, posted_at, committed_at, carried_unit}
use Rattle.ec_law_pieces.specs.Deed.Deed.{Commit, Follow}
use Rattle.ec_law_pieces.specs.Clauses.{Top, Last, Here, Ahead, AheadNew, Behind, Written, Latest, PlannedNumber, CoversPlanned, DidPlanned, OpenerWrites, Units, Sets, Keeps, GotIs, GotNumber, ShapeHere, StaleIs, ToldIs, TookIs, BecomesIs, FlatShape, ZeroPast, PlanZero, PlanGrows, NotMadeZero, MakerZero, Good}
use Rattle.ec_law_pieces.specs.Facts.{Back, DidNumber, OneShape, SameDid}

module _ {P V C U S : Type 0} (form : Form P V C U S) (n k : ℕ) (f : File P V C U S) (x d : ℕ) (may : MayDo form n k f (Follow x d)) where
  pub here-follow : Here form n k f → ((p : P) → target (f.heads.ballot x) ≡ f.flat.version → f.flat.opener p ≡ Nobody → f.synced d p ≡ true → f.piece d p ≡ form.code (f.content p) d) → Here form n k (step form n k f (Follow x d))
  here-follow here' piece_at b p e g h j = grind (arith, nat_tests)

  pub ahead-follow : Ahead form n k f → SameDid n k f x → Here form n k f → Ahead form n k (step form n k f (Follow x d))
  ahead-follow ahead' same_did here' a b p e g h j l m o q = grind (arith, nat_tests)

  pub ahead_new-follow : AheadNew form n k f → SameDid n k f x → Written form n k f → AheadNew form n k (step form n k f (Follow x d))
  ahead_new-follow ahead_new' same_did written' a b p e g h j l m o = grind (arith, nat_tests)

  pub behind-follow : Behind form n k f → Behind form n k (step form n k f (Follow x d))
  behind-follow behind' a b p e g h j l m o q r = grind (arith, nat_tests)

  pub written-follow : Written form n k f → Written form n k (step form n k f (Follow x d))
  written-follow written' a b p e g h j l = grind (arith, nat_tests)

  pub did_planned-follow : DidPlanned form n k f → DidPlanned form n k (step form n k f (Follow x d))
  did_planned-follow did_planned' a b e g = grind (arith, nat_tests)

  pub shape_here-follow : ShapeHere form n k f → OneShape n k f x → ShapeHere form n k (step form n k f (Follow x d))
  shape_here-follow shape_here' one_shape b e g = grind (arith, nat_tests)

  pub stale_is-follow : StaleIs form n k f → StaleIs form n k (step form n k f (Follow x d))
  stale_is-follow stale_is' b e g h = grind (arith, nat_tests)

  pub told_is-follow : ToldIs form n k f → OneShape n k f x → ToldIs form n k (step form n k f (Follow x d))
  told_is-follow told_is' one_shape a b h e g j = grind (arith, nat_tests)

  pub took_is-follow : TookIs form n k f → OneShape n k f x → TookIs form n k (step form n k f (Follow x d))
  took_is-follow took_is' one_shape a e g = grind (arith, nat_tests)

  pub becomes_is-follow : BecomesIs form n k f → OneShape n k f x → BecomesIs form n k (step form n k f (Follow x d))
  becomes_is-follow becomes_is' one_shape a b e g = grind (arith, nat_tests)

  pub flat_shape-follow : FlatShape form n k f → OneShape n k f x → FlatShape form n k (step form n k f (Follow x d))
  flat_shape-follow flat_shape' one_shape = grind (arith, nat_tests)

  pub good-follow : ((p : P) → target (f.heads.ballot x) ≡ f.flat.version → f.flat.opener p ≡ Nobody → f.synced d p ≡ true → f.piece d p ≡ form.code (f.content p) d) → SameDid n k f x → OneShape n k f x → Good form n k f → Good form n k (step form n k f (Follow x d))
  good-follow piece_at same_did one_shape g = record {
    top = g.top;
    last = g.last;
    here = here-follow g.here piece_at;
    synced_all = g.synced_all;
    ahead = ahead-follow g.ahead same_did g.here;
    ahead_new = ahead_new-follow g.ahead_new same_did g.written;
    behind = behind-follow g.behind;
    written = written-follow g.written;
    latest = g.latest;
    wrote_planned = g.wrote_planned;
    planned_number = g.planned_number;
    covers_planned = g.covers_planned;
    did_planned = did_planned-follow g.did_planned;
    one_writer = g.one_writer;
    opener_writes = g.opener_writes;
    units = g.units;
    sets = g.sets;
    keeps = g.keeps;
    got_is = g.got_is;
    got_number = g.got_number;
    shape_here = shape_here-follow g.shape_here one_shape;
    stale_is = stale_is-follow g.stale_is;
    told_is = told_is-follow g.told_is one_shape;
    took_is = took_is-follow g.took_is one_shape;
    becomes_is = becomes_is-follow g.becomes_is one_shape;
    flat_shape = flat_shape-follow g.flat_shape one_shape;
    zero_past = g.zero_past;
    plan_zero = g.plan_zero;
    plan_grows = g.plan_grows;
    not_made_zero = g.not_made_zero;
    maker_zero = g.maker_zero;
  }

module _ {P V C U S : Type 0} (form : Form P V C U S) (n k : ℕ) (f : File P V C U S) (x d : ℕ) (may : MayDo form n k f (Commit x d)) where
  pub top-still : Top form n k f → Back n k f x d → Top form n k (posted_at f x d)
  top-still top' back a e = grind (arith, nat_tests)

  pub last-still : Last form n k f → Last form n k (posted_at f x d)
  last-still (inl z) = inl z
  last-still (inr c) = inr (c.0, let m = mono (f.heads.post c.0) ((act_step f.heads (Post x d)).post c.0) n (λ b e. grind (arith, nat_tests)) in omega (arith, c.1), c.2)

  pub here-still : Here form n k f → ((p : P) → target (f.heads.ballot x) ≡ f.flat.version → f.flat.opener p ≡ Nobody → f.synced d p ≡ true → f.piece d p ≡ form.code (f.content p) d) → Here form n k (posted_at f x d)
  here-still here' piece_at b p e g h j = grind (arith, nat_tests)

  pub ahead-still : Ahead form n k f → SameDid n k f x → Here form n k f → Ahead form n k (posted_at f x d)
  ahead-still ahead' same_did here' a b p e g h j l m o q = grind (arith, nat_tests)

  pub ahead_new-still : AheadNew form n k f → SameDid n k f x → Written form n k f → AheadNew form n k (posted_at f x d)
  ahead_new-still ahead_new' same_did written' a b p e g h j l m o = grind (arith, nat_tests)

  pub behind-still : Behind form n k f → Back n k f x d → Behind form n k (posted_at f x d)
  behind-still behind' back a b p e g h j l m o q r = grind (arith, nat_tests)

  pub written-still : Written form n k f → Written form n k (posted_at f x d)
  written-still written' a b p e g h j l = grind (arith, nat_tests)

  pub latest-still : Latest form n k f → Back n k f x d → Latest form n k (posted_at f x d)
  latest-still latest' back a p e g h j = grind (arith, nat_tests)

  pub did_planned-still : DidPlanned form n k f → DidPlanned form n k (posted_at f x d)
  did_planned-still did_planned' a b e g = grind (arith, nat_tests)

  pub shape_here-still : ShapeHere form n k f → OneShape n k f x → ShapeHere form n k (posted_at f x d)
  shape_here-still shape_here' one_shape b e g = grind (arith, nat_tests)

  pub stale_is-still : StaleIs form n k f → StaleIs form n k (posted_at f x d)
  stale_is-still stale_is' b e g h = grind (arith, nat_tests)

  pub told_is-still : ToldIs form n k f → OneShape n k f x → ToldIs form n k (posted_at f x d)
  told_is-still told_is' one_shape a b h e g j = grind (arith, nat_tests)

  pub took_is-still : TookIs form n k f → OneShape n k f x → TookIs form n k (posted_at f x d)
  took_is-still took_is' one_shape a e g = grind (arith, nat_tests)

  pub becomes_is-still : BecomesIs form n k f → OneShape n k f x → BecomesIs form n k (posted_at f x d)
  becomes_is-still becomes_is' one_shape a b e g = grind (arith, nat_tests)

  pub flat_shape-still : FlatShape form n k f → OneShape n k f x → FlatShape form n k (posted_at f x d)
  flat_shape-still flat_shape' one_shape = grind (arith, nat_tests)

  pub good-still : Back n k f x d → ((p : P) → target (f.heads.ballot x) ≡ f.flat.version → f.flat.opener p ≡ Nobody → f.synced d p ≡ true → f.piece d p ≡ form.code (f.content p) d) → SameDid n k f x → OneShape n k f x → Good form n k f → Good form n k (posted_at f x d)
  good-still back piece_at same_did one_shape g = record {
    top = top-still g.top back;
    last = last-still g.last;
    here = here-still g.here piece_at;
    synced_all = g.synced_all;
    ahead = ahead-still g.ahead same_did g.here;
    ahead_new = ahead_new-still g.ahead_new same_did g.written;
    behind = behind-still g.behind back;
    written = written-still g.written;
    latest = latest-still g.latest back;
    wrote_planned = g.wrote_planned;
    planned_number = g.planned_number;
    covers_planned = g.covers_planned;
    did_planned = did_planned-still g.did_planned;
    one_writer = g.one_writer;
    opener_writes = g.opener_writes;
    units = g.units;
    sets = g.sets;
    keeps = g.keeps;
    got_is = g.got_is;
    got_number = g.got_number;
    shape_here = shape_here-still g.shape_here one_shape;
    stale_is = stale_is-still g.stale_is;
    told_is = told_is-still g.told_is one_shape;
    took_is = took_is-still g.took_is one_shape;
    becomes_is = becomes_is-still g.becomes_is one_shape;
    flat_shape = flat_shape-still g.flat_shape one_shape;
    zero_past = g.zero_past;
    plan_zero = g.plan_zero;
    plan_grows = g.plan_grows;
    not_made_zero = g.not_made_zero;
    maker_zero = g.maker_zero;
  }

module _ {P V C U S : Type 0} (form : Form P V C U S) (n k : ℕ) (f : File P V C U S) (x d : ℕ) (may : MayDo form n k f (Commit x d)) where
  pub top-commit : Top form n k f → ((a : ℕ) → IsCommitted n k (act_step f.heads (Post x d)) a → target (f.heads.ballot a) ≤ target (f.heads.ballot x)) → Top form n k (committed_at f x d)
  top-commit top' top_new a e = grind (arith, nat_tests)

  pub last-commit : Last form n k f → IsCommitted n k (act_step f.heads (Post x d)) x → Last form n k (committed_at f x d)
  last-commit last' reached = inr (x, reached, refl)

  here_there : (p : P) → (f.heads.ballot x).base ≡ f.flat.version → Here form n k f → Written form n k f → cond (f.covers x p) Nobody (f.flat.opener p) ≡ Nobody → f.synced d p ≡ true → f.piece d p ≡ form.code (cond (f.covers x p) (f.value x p) (f.content p)) d
  here_there p base here' written' o y = let m = may.0 in let q = may.3 p in let h = here' d p in let w = written' x d p in grind (arith, nat_tests)

  here_elsewhere : (b : ℕ) (p : P) → did f.heads x b ≡ true → f.heads.old x ≡ false → f.heads.present b ≡ true → (f.heads.ballot x).base ≡ f.flat.version → f.heads.version b ≡ target (f.heads.ballot x) → Ahead form n k f → AheadNew form n k f → cond (f.covers x p) Nobody (f.flat.opener p) ≡ Nobody → f.synced b p ≡ true → f.piece b p ≡ form.code (cond (f.covers x p) (f.value x p) (f.content p)) b
  here_elsewhere b p did' real there base at ahead' ahead_new' o y = let h = ahead' x b p did' real there base at in let w = ahead_new' x b p did' real there base at in grind (arith, nat_tests)

  pub here-commit : Here form n k f → (f.heads.ballot x).base ≡ f.flat.version → ((b : ℕ) → b ≢ d → f.heads.present b ≡ true → f.heads.version b ≡ target (f.heads.ballot x) → did f.heads x b ≡ true) → f.heads.old x ≡ false → Ahead form n k f → AheadNew form n k f → Written form n k f → Here form n k (committed_at f x d)
  here-commit here' base_is did_is real_is ahead' ahead_new' written' b p e g h j = pick (b == d) refl
    where
      pick : (t : Bool) → (b == d) ≡ t → f.piece b p ≡ form.code (cond (f.covers x p) (f.value x p) (f.content p)) b
      pick true is = let s = eqb-true b d is in rw s (here_there p base_is here' written' h (rw s at j))
      pick false is =
          let at : f.heads.version b ≡ target (f.heads.ballot x) = grind (arith, nat_tests) in
          let ne : b ≢ d = λ q. let z = rw q at is in grind (arith, nat_tests) in
          here_elsewhere b p (did_is b ne e at) real_is e base_is at ahead' ahead_new' h j

  pub ahead-commit : Ahead form n k f → DidNumber n k f → ((a : ℕ) → 0 < (f.heads.ballot a).number → (f.heads.ballot a).base ≢ target (f.heads.ballot x)) → Ahead form n k (committed_at f x d)
  ahead-commit ahead' did_number below_new a b p e g h j l m o q = grind (arith, nat_tests)

  pub ahead_new-commit : AheadNew form n k f → DidNumber n k f → ((a : ℕ) → 0 < (f.heads.ballot a).number → (f.heads.ballot a).base ≢ target (f.heads.ballot x)) → AheadNew form n k (committed_at f x d)
  ahead_new-commit ahead_new' did_number below_new a b p e g h j l m o = grind (arith, nat_tests)

  pub behind-commit : Behind form n k f → (f.heads.ballot x).base ≡ f.flat.version → ((a : ℕ) → IsCommitted n k (act_step f.heads (Post x d)) a → target (f.heads.ballot a) ≡ target (f.heads.ballot x) → a ≡ x) → Here form n k f → 0 < (f.heads.ballot x).number → Behind form n k (committed_at f x d)
  behind-commit behind' base_is committed_is here' number_is a b p e g h j l m o q r = grind (arith, nat_tests)

  pub written-commit : Written form n k f → Written form n k (committed_at f x d)
  written-commit written' a b p e g h j l = grind (arith, nat_tests)

  pub latest-commit : Latest form n k f → ((a : ℕ) → IsCommitted n k (act_step f.heads (Post x d)) a → target (f.heads.ballot a) ≡ target (f.heads.ballot x) → a ≡ x) → Latest form n k (committed_at f x d)
  latest-commit latest' committed_is a p e g h j = grind (arith, nat_tests)

  pub did_planned-commit : DidPlanned form n k f → DidPlanned form n k (committed_at f x d)
  did_planned-commit did_planned' a b e g = grind (arith, nat_tests)

  pub opener_writes-commit : OpenerWrites form n k f → OpenerWrites form n k (committed_at f x d)
  opener_writes-commit opener_writes' p c e = grind (arith, nat_tests)

  pub units-commit : Units form n k f → (f.heads.ballot x).base ≡ f.flat.version → Sets form n k f → Keeps form n k f → Units form n k (committed_at f x d)
  units-commit units' base_is sets' keeps' p i u e g = by_cover (f.covers x p) refl
    where
      by_alone : (m : Bool) → is_open_to_it_alone (f.heads.call x) (f.flat.opener p) ≡ m → f.covers x p ≡ true → f.sets x p i ≡ None → carried_unit None m (f.flat.unit p i) ≡ Some u → form.unit (f.value x p) i ≡ u
      by_alone true q c h w = keeps' x p i u c base_is q h w
      by_alone false q c h w = absurd (cc)

      by_set : (o : Option U) → f.sets x p i ≡ o → f.covers x p ≡ true → carried_unit o (is_open_to_it_alone (f.heads.call x) (f.flat.opener p)) (f.flat.unit p i) ≡ Some u → form.unit (f.value x p) i ≡ u
      by_set (Some y) h c w = sets' x p i u c (h ∙ w)
      by_set None h c w = by_alone (is_open_to_it_alone (f.heads.call x) (f.flat.opener p)) refl c h w

      by_cover : (o : Bool) → f.covers x p ≡ o → form.unit (cond (f.covers x p) (f.value x p) (f.content p)) i ≡ u
      by_cover true c = rw c (by_set (f.sets x p i) refl c (rw c at g))
      by_cover false c = rw c (units' p i u (rw c at e) (rw c at g))

  pub keeps-commit : Keeps form n k f → CoversPlanned form n k f → PlannedNumber form n k f → ((a : ℕ) → 0 < (f.heads.ballot a).number → (f.heads.ballot a).base ≢ target (f.heads.ballot x)) → Keeps form n k (committed_at f x d)
  keeps-commit keeps' covers_planned' planned_number' below_new a p i u e g h j l = grind (arith, nat_tests)

  pub got_is-commit : GotIs form n k f → GotNumber form n k f → ((a : ℕ) → 0 < (f.heads.ballot a).number → (f.heads.ballot a).base ≢ target (f.heads.ballot x)) → GotIs form n k (committed_at f x d)
  got_is-commit got_is' got_number' below_new a b p y e g h = grind (arith, nat_tests)

  pub shape_here-commit : ShapeHere form n k f → OneShape n k f x → ShapeHere form n k (committed_at f x d)
  shape_here-commit shape_here' one_shape b e g = grind (arith, nat_tests)

  pub stale_is-commit : StaleIs form n k f → StaleIs form n k (committed_at f x d)
  stale_is-commit stale_is' b e g h = grind (arith, nat_tests)

  pub told_is-commit : ToldIs form n k f → OneShape n k f x → ToldIs form n k (committed_at f x d)
  told_is-commit told_is' one_shape a b h e g j = grind (arith, nat_tests)

  pub took_is-commit : TookIs form n k f → OneShape n k f x → TookIs form n k (committed_at f x d)
  took_is-commit took_is' one_shape a e g = grind (arith, nat_tests)

  pub becomes_is-commit : BecomesIs form n k f → OneShape n k f x → BecomesIs form n k (committed_at f x d)
  becomes_is-commit becomes_is' one_shape a b e g = grind (arith, nat_tests)

  pub flat_shape-commit : FlatShape form n k f → FlatShape form n k (committed_at f x d)
  flat_shape-commit flat_shape' = grind (arith, nat_tests)

  pub zero_past-commit : ZeroPast form n k f → (f.heads.ballot x).base ≡ f.flat.version → PlanZero form n k f → PlanGrows form n k f → TookIs form n k f → FlatShape form n k f → 0 < (f.heads.ballot x).number → ZeroPast form n k (committed_at f x d)
  zero_past-commit zero_past' base_is plan_zero' plan_grows' took_is' flat_shape' number_is p e g = grind (arith, nat_tests)

  pub not_made_zero-commit : NotMadeZero form n k f → f.heads.making ≡ true → NotMadeZero form n k (committed_at f x d)
  not_made_zero-commit not_made_zero' making_is p e = grind (arith, nat_tests)

  pub maker_zero-commit : MakerZero form n k f → 0 < (f.heads.ballot x).number → MakerZero form n k (committed_at f x d)
  maker_zero-commit maker_zero' number_is b p e g = grind (arith, nat_tests)

  pub good-commit : ((a : ℕ) → IsCommitted n k (act_step f.heads (Post x d)) a → target (f.heads.ballot a) ≤ target (f.heads.ballot x)) → IsCommitted n k (act_step f.heads (Post x d)) x → (f.heads.ballot x).base ≡ f.flat.version → ((b : ℕ) → b ≢ d → f.heads.present b ≡ true → f.heads.version b ≡ target (f.heads.ballot x) → did f.heads x b ≡ true) → f.heads.old x ≡ false → DidNumber n k f → ((a : ℕ) → 0 < (f.heads.ballot a).number → (f.heads.ballot a).base ≢ target (f.heads.ballot x)) → ((a : ℕ) → IsCommitted n k (act_step f.heads (Post x d)) a → target (f.heads.ballot a) ≡ target (f.heads.ballot x) → a ≡ x) → 0 < (f.heads.ballot x).number → OneShape n k f x → f.heads.making ≡ true → Good form n k f → Good form n k (committed_at f x d)
  good-commit top_new reached base_is did_is real_is did_number below_new committed_is number_is one_shape making_is g = record {
    top = top-commit g.top top_new;
    last = last-commit g.last reached;
    here = here-commit g.here base_is did_is real_is g.ahead g.ahead_new g.written;
    synced_all = g.synced_all;
    ahead = ahead-commit g.ahead did_number below_new;
    ahead_new = ahead_new-commit g.ahead_new did_number below_new;
    behind = behind-commit g.behind base_is committed_is g.here number_is;
    written = written-commit g.written;
    latest = latest-commit g.latest committed_is;
    wrote_planned = g.wrote_planned;
    planned_number = g.planned_number;
    covers_planned = g.covers_planned;
    did_planned = did_planned-commit g.did_planned;
    one_writer = g.one_writer;
    opener_writes = opener_writes-commit g.opener_writes;
    units = units-commit g.units base_is g.sets g.keeps;
    sets = g.sets;
    keeps = keeps-commit g.keeps g.covers_planned g.planned_number below_new;
    got_is = got_is-commit g.got_is g.got_number below_new;
    got_number = g.got_number;
    shape_here = shape_here-commit g.shape_here one_shape;
    stale_is = stale_is-commit g.stale_is;
    told_is = told_is-commit g.told_is one_shape;
    took_is = took_is-commit g.took_is one_shape;
    becomes_is = becomes_is-commit g.becomes_is one_shape;
    flat_shape = flat_shape-commit g.flat_shape;
    zero_past = zero_past-commit g.zero_past base_is g.plan_zero g.plan_grows g.took_is g.flat_shape number_is;
    plan_zero = g.plan_zero;
    plan_grows = g.plan_grows;
    not_made_zero = not_made_zero-commit g.not_made_zero making_is;
    maker_zero = maker_zero-commit g.maker_zero number_is;
  }
