-- PreOp and PostOp on marked records: each act keeps each clause at each brick. A clause that speaks of nothing that the act changes is handed on.
use Rattle.std.proofs.Common.{ℕ, arith}
use Rattle.std.proofs.lemmas.Bool.Decides.{nat_tests}
use Rattle.ec_law_base.specs.State.{State}
use Rattle.ec_law_ballots.specs.Act.{step}
use Rattle.ec_law_ballots.specs.Act.Act.{Sink_pre, Sink_post}
use Rattle.ec_law_ballots.specs.Guard.{May}
use Rattle.ec_law_ballots.specs.Clauses.{SpostSeen, StillSeen, StillFixed, StillPre, StillDid, SharedNone, SharedStill, Kept, KeptDirty, Past, Apart, Passed, LowDirty, BeganIs, YoungDirty, YoungRisen, Local}
use Rattle.ec_law_ballots.specs.Facts.{OriginLe, PreBelow}

module _ (n k : ℕ) (s : State) (b : ℕ) (t d : ℕ) (may : May n k s (Sink_pre t d)) where
  pub still_seen-sink_pre : StillSeen s b → StillSeen (step s (Sink_pre t d)) b
  still_seen-sink_pre still_seen' a h f g i j l m o = grind (arith, nat_tests)

  pub still_fixed-sink_pre : StillFixed s b → StillFixed (step s (Sink_pre t d)) b
  still_fixed-sink_pre still_fixed' a f g i j = grind (arith, nat_tests)

  pub still_pre-sink_pre : StillPre s b → StillPre (step s (Sink_pre t d)) b
  still_pre-sink_pre still_pre' a f g i j = grind (arith, nat_tests)

  pub kept_dirty-sink_pre : KeptDirty s b → KeptDirty (step s (Sink_pre t d)) b
  kept_dirty-sink_pre kept_dirty' a f g i j = grind (arith, nat_tests)

  pub apart-sink_pre : Apart s b → Apart (step s (Sink_pre t d)) b
  apart-sink_pre apart' a c f g i j l m = grind (arith, nat_tests)

  pub passed-sink_pre : Passed s b → Passed (step s (Sink_pre t d)) b
  passed-sink_pre passed' a c f g i j l m o = grind (arith, nat_tests)

  pub low_dirty-sink_pre : LowDirty s b → LowDirty (step s (Sink_pre t d)) b
  low_dirty-sink_pre low_dirty' x e h f g i j l = grind (arith, nat_tests)

  pub young_dirty-sink_pre : YoungDirty s b → YoungDirty (step s (Sink_pre t d)) b
  young_dirty-sink_pre young_dirty' f g i = grind (arith, nat_tests)

  pub local-sink_pre : Local s b → Local (step s (Sink_pre t d)) b
  local-sink_pre l = record {
    saw = l.saw;
    holder_granted = l.holder_granted;
    early_granted = l.early_granted;
    pre_seen = l.pre_seen;
    post_pre = l.post_pre;
    spost_seen = l.spost_seen;
    mark_seen = l.mark_seen;
    fixed_seen = l.fixed_seen;
    group_mark = l.group_mark;
    old_none = l.old_none;
    still_seen = still_seen-sink_pre l.still_seen;
    still_fixed = still_fixed-sink_pre l.still_fixed;
    still_pre = still_pre-sink_pre l.still_pre;
    still_did = l.still_did;
    carried_below = l.carried_below;
    held_pre = l.held_pre;
    held_post = l.held_post;
    held_mark = l.held_mark;
    held_saw = l.held_saw;
    shared_none = l.shared_none;
    shared_pre = l.shared_pre;
    shared_post = l.shared_post;
    shared_mark = l.shared_mark;
    shared_saw = l.shared_saw;
    shared_still = l.shared_still;
    strip_marked = l.strip_marked;
    strip_pre = l.strip_pre;
    strip_post = l.strip_post;
    strip_mark = l.strip_mark;
    kept = l.kept;
    kept_dirty = kept_dirty-sink_pre l.kept_dirty;
    past = l.past;
    apart = apart-sink_pre l.apart;
    passed = passed-sink_pre l.passed;
    post_order = l.post_order;
    low_dirty = low_dirty-sink_pre l.low_dirty;
    low_version = l.low_version;
    no_more_pre = l.no_more_pre;
    no_more_post = l.no_more_post;
    too_late = l.too_late;
    at_pre_is = l.at_pre_is;
    at_post_is = l.at_post_is;
    begun_post = l.begun_post;
    began_is = l.began_is;
    seen_began = l.seen_began;
    not_made = l.not_made;
    not_made_pre = l.not_made_pre;
    not_made_seen = l.not_made_seen;
    unborn_pre = l.unborn_pre;
    unborn_seen = l.unborn_seen;
    young_present = l.young_present;
    young_dirty = young_dirty-sink_pre l.young_dirty;
    young_seen = l.young_seen;
    young_pre = l.young_pre;
    young_risen = l.young_risen;
  }

module _ (n k : ℕ) (s : State) (b : ℕ) (t d : ℕ) (may : May n k s (Sink_post t d)) where
  pub spost_seen-sink_post : SpostSeen s b → SpostSeen (step s (Sink_post t d)) b
  spost_seen-sink_post spost_seen' a f = grind (arith, nat_tests)

  pub still_seen-sink_post : StillSeen s b → StillSeen (step s (Sink_post t d)) b
  still_seen-sink_post still_seen' a h f g i j l m o = grind (arith, nat_tests)

  pub still_fixed-sink_post : StillFixed s b → StillFixed (step s (Sink_post t d)) b
  still_fixed-sink_post still_fixed' a f g i j = grind (arith, nat_tests)

  pub still_pre-sink_post : StillPre s b → StillPre (step s (Sink_post t d)) b
  still_pre-sink_post still_pre' a f g i j = grind (arith, nat_tests)

  pub still_did-sink_post : StillDid s b → PreBelow s d t → StillDid (step s (Sink_post t d)) b
  still_did-sink_post still_did' pre_below a c f g i = grind (arith, nat_tests)

  pub shared_still-sink_post : SharedStill s b → SharedNone s b → SharedStill (step s (Sink_post t d)) b
  shared_still-sink_post shared_still' shared_none' x h f g i j l = grind (arith, nat_tests)

  pub kept-sink_post : Kept s b → Kept (step s (Sink_post t d)) b
  kept-sink_post kept' a f g = grind (arith, nat_tests)

  pub kept_dirty-sink_post : KeptDirty s b → PreBelow s d t → KeptDirty (step s (Sink_post t d)) b
  kept_dirty-sink_post kept_dirty' pre_below a f g i j = grind (arith, nat_tests)

  pub past-sink_post : Past s b → Past (step s (Sink_post t d)) b
  past-sink_post past' a f g i = grind (arith, nat_tests)

  pub began_is-sink_post : BeganIs s b → OriginLe s → BeganIs (step s (Sink_post t d)) b
  began_is-sink_post began_is' origin_le f g = grind (arith, nat_tests)

  pub young_dirty-sink_post : YoungDirty s b → YoungDirty (step s (Sink_post t d)) b
  young_dirty-sink_post young_dirty' f g i = grind (arith, nat_tests)

  pub young_risen-sink_post : YoungRisen s b → YoungRisen (step s (Sink_post t d)) b
  young_risen-sink_post young_risen' f = grind (arith, nat_tests)

  pub local-sink_post : PreBelow s d t → OriginLe s → Local s b → Local (step s (Sink_post t d)) b
  local-sink_post pre_below origin_le l = record {
    saw = l.saw;
    holder_granted = l.holder_granted;
    early_granted = l.early_granted;
    pre_seen = l.pre_seen;
    post_pre = l.post_pre;
    spost_seen = spost_seen-sink_post l.spost_seen;
    mark_seen = l.mark_seen;
    fixed_seen = l.fixed_seen;
    group_mark = l.group_mark;
    old_none = l.old_none;
    still_seen = still_seen-sink_post l.still_seen;
    still_fixed = still_fixed-sink_post l.still_fixed;
    still_pre = still_pre-sink_post l.still_pre;
    still_did = still_did-sink_post l.still_did pre_below;
    carried_below = l.carried_below;
    held_pre = l.held_pre;
    held_post = l.held_post;
    held_mark = l.held_mark;
    held_saw = l.held_saw;
    shared_none = l.shared_none;
    shared_pre = l.shared_pre;
    shared_post = l.shared_post;
    shared_mark = l.shared_mark;
    shared_saw = l.shared_saw;
    shared_still = shared_still-sink_post l.shared_still l.shared_none;
    strip_marked = l.strip_marked;
    strip_pre = l.strip_pre;
    strip_post = l.strip_post;
    strip_mark = l.strip_mark;
    kept = kept-sink_post l.kept;
    kept_dirty = kept_dirty-sink_post l.kept_dirty pre_below;
    past = past-sink_post l.past;
    apart = l.apart;
    passed = l.passed;
    post_order = l.post_order;
    low_dirty = l.low_dirty;
    low_version = l.low_version;
    no_more_pre = l.no_more_pre;
    no_more_post = l.no_more_post;
    too_late = l.too_late;
    at_pre_is = l.at_pre_is;
    at_post_is = l.at_post_is;
    begun_post = l.begun_post;
    began_is = began_is-sink_post l.began_is origin_le;
    seen_began = l.seen_began;
    not_made = l.not_made;
    not_made_pre = l.not_made_pre;
    not_made_seen = l.not_made_seen;
    unborn_pre = l.unborn_pre;
    unborn_seen = l.unborn_seen;
    young_present = l.young_present;
    young_dirty = young_dirty-sink_post l.young_dirty;
    young_seen = l.young_seen;
    young_pre = l.young_pre;
    young_risen = young_risen-sink_post l.young_risen;
  }
