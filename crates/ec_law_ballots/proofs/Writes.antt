-- PreOp, PostOp and Clear: each act keeps each clause at each brick. A clause that speaks of nothing that the act changes is handed on.
use Rattle.std.proofs.Common.{ℕ, arith}
use Rattle.std.proofs.lemmas.Bool.Decides.{nat_tests}
use Rattle.ec_law_base.specs.State.{State}
use Rattle.ec_law_ballots.specs.Act.{step}
use Rattle.ec_law_ballots.specs.Act.Act.{Pre, Post, Clear}
use Rattle.ec_law_ballots.specs.Guard.{May}
use Rattle.ec_law_ballots.specs.Clauses.{Saw, PreSeen, PostPre, FixedSeen, GroupMark, StillSeen, StillFixed, StillPre, StillDid, CarriedBelow, HeldPre, HeldPost, SharedNone, SharedPre, SharedPost, SharedStill, StripMarked, StripPre, StripPost, Kept, KeptDirty, Past, Apart, Passed, PostOrder, NoMorePre, NoMorePost, TooLate, AtPreIs, AtPostIs, BeganIs, NotMade, NotMadePre, UnbornPre, YoungDirty, YoungSeen, YoungPre, YoungRisen, Local}
use Rattle.ec_law_ballots.specs.Facts.{Alive, NumberMoment, OriginLe}

module _ (n k : ℕ) (s : State) (b : ℕ) (t d : ℕ) (may : May n k s (Pre t d)) where
  pub pre_seen-pre : PreSeen s b → FixedSeen s b → NumberMoment s → PreSeen (step s (Pre t d)) b
  pre_seen-pre pre_seen' fixed_seen' number_moment a f = grind (arith, nat_tests)

  pub post_pre-pre : PostPre s b → PostPre (step s (Pre t d)) b
  post_pre-pre post_pre' a f = grind (arith, nat_tests)

  pub still_seen-pre : StillSeen s b → StillSeen (step s (Pre t d)) b
  still_seen-pre still_seen' a h f g i j l m o = grind (arith, nat_tests)

  pub still_fixed-pre : StillFixed s b → StillFixed (step s (Pre t d)) b
  still_fixed-pre still_fixed' a f g i j = grind (arith, nat_tests)

  pub still_pre-pre : StillPre s b → StillPre (step s (Pre t d)) b
  still_pre-pre still_pre' a f g i j = grind (arith, nat_tests)

  pub still_did-pre : StillDid s b → StillDid (step s (Pre t d)) b
  still_did-pre still_did' a c f g i = grind (arith, nat_tests)

  pub carried_below-pre : CarriedBelow s b → CarriedBelow (step s (Pre t d)) b
  carried_below-pre carried_below' x a e f g i j = grind (arith, nat_tests)

  pub held_pre-pre : HeldPre s b → HeldPre (step s (Pre t d)) b
  held_pre-pre held_pre' x e f g i j l = grind (arith, nat_tests)

  pub shared_pre-pre : SharedPre s b → SharedNone s b → SharedPre (step s (Pre t d)) b
  shared_pre-pre shared_pre' shared_none' x e f g i j l = grind (arith, nat_tests)

  pub strip_pre-pre : StripPre s b → StripMarked s b → StripPre (step s (Pre t d)) b
  strip_pre-pre strip_pre' strip_marked' x e f g i j l = grind (arith, nat_tests)

  pub kept-pre : Kept s b → Kept (step s (Pre t d)) b
  kept-pre kept' a f g = grind (arith, nat_tests)

  pub kept_dirty-pre : KeptDirty s b → StillSeen s b → StillFixed s b → GroupMark s b → KeptDirty (step s (Pre t d)) b
  kept_dirty-pre kept_dirty' still_seen' still_fixed' group_mark' a f g i j = grind (arith, nat_tests)

  pub apart-pre : Apart s b → KeptDirty s b → StillSeen s b → StillFixed s b → GroupMark s b → Apart (step s (Pre t d)) b
  apart-pre apart' kept_dirty' still_seen' still_fixed' group_mark' a c f g i j l m = grind (arith, nat_tests)

  pub passed-pre : Passed s b → Past s b → PreSeen s b → PostPre s b → Passed (step s (Pre t d)) b
  passed-pre passed' past' pre_seen' post_pre' a c f g i j l m o = grind (arith, nat_tests)

  pub post_order-pre : PostOrder s b → HeldPost s b → Saw s b → FixedSeen s b → PostOrder (step s (Pre t d)) b
  post_order-pre post_order' held_post' saw' fixed_seen' a e f g i j = grind (arith, nat_tests)

  pub no_more_pre-pre : NoMorePre s b → TooLate s b → Saw s b → FixedSeen s b → NoMorePre (step s (Pre t d)) b
  no_more_pre-pre no_more_pre' too_late' saw' fixed_seen' x e f g i j = grind (arith, nat_tests)

  pub at_pre_is-pre : AtPreIs s b → AtPreIs (step s (Pre t d)) b
  at_pre_is-pre at_pre_is' x e f = grind (arith, nat_tests)

  pub not_made_pre-pre : NotMadePre s b → NotMade s b → NotMadePre (step s (Pre t d)) b
  not_made_pre-pre not_made_pre' not_made' a f = grind (arith, nat_tests)

  pub unborn_pre-pre : UnbornPre s b → UnbornPre (step s (Pre t d)) b
  unborn_pre-pre unborn_pre' a f g i j = grind (arith, nat_tests)

  pub young_dirty-pre : YoungDirty s b → YoungDirty (step s (Pre t d)) b
  young_dirty-pre young_dirty' f g i = grind (arith, nat_tests)

  pub young_pre-pre : YoungPre s b → YoungSeen s b → YoungDirty s b → StillFixed s b → StillSeen s b → GroupMark s b → YoungPre (step s (Pre t d)) b
  young_pre-pre young_pre' young_seen' young_dirty' still_fixed' still_seen' group_mark' a f g i = grind (arith, nat_tests)

  pub local-pre : NumberMoment s → Local s b → Local (step s (Pre t d)) b
  local-pre number_moment l = record {
    saw = l.saw;
    holder_granted = l.holder_granted;
    early_granted = l.early_granted;
    pre_seen = pre_seen-pre l.pre_seen l.fixed_seen number_moment;
    post_pre = post_pre-pre l.post_pre;
    spost_seen = l.spost_seen;
    mark_seen = l.mark_seen;
    fixed_seen = l.fixed_seen;
    group_mark = l.group_mark;
    old_none = l.old_none;
    still_seen = still_seen-pre l.still_seen;
    still_fixed = still_fixed-pre l.still_fixed;
    still_pre = still_pre-pre l.still_pre;
    still_did = still_did-pre l.still_did;
    carried_below = carried_below-pre l.carried_below;
    held_pre = held_pre-pre l.held_pre;
    held_post = l.held_post;
    held_mark = l.held_mark;
    held_saw = l.held_saw;
    shared_none = l.shared_none;
    shared_pre = shared_pre-pre l.shared_pre l.shared_none;
    shared_post = l.shared_post;
    shared_mark = l.shared_mark;
    shared_saw = l.shared_saw;
    shared_still = l.shared_still;
    strip_marked = l.strip_marked;
    strip_pre = strip_pre-pre l.strip_pre l.strip_marked;
    strip_post = l.strip_post;
    strip_mark = l.strip_mark;
    kept = kept-pre l.kept;
    kept_dirty = kept_dirty-pre l.kept_dirty l.still_seen l.still_fixed l.group_mark;
    past = l.past;
    apart = apart-pre l.apart l.kept_dirty l.still_seen l.still_fixed l.group_mark;
    passed = passed-pre l.passed l.past l.pre_seen l.post_pre;
    post_order = post_order-pre l.post_order l.held_post l.saw l.fixed_seen;
    low_dirty = l.low_dirty;
    low_version = l.low_version;
    no_more_pre = no_more_pre-pre l.no_more_pre l.too_late l.saw l.fixed_seen;
    no_more_post = l.no_more_post;
    too_late = l.too_late;
    at_pre_is = at_pre_is-pre l.at_pre_is;
    at_post_is = l.at_post_is;
    begun_post = l.begun_post;
    began_is = l.began_is;
    seen_began = l.seen_began;
    not_made = l.not_made;
    not_made_pre = not_made_pre-pre l.not_made_pre l.not_made;
    not_made_seen = l.not_made_seen;
    unborn_pre = unborn_pre-pre l.unborn_pre;
    unborn_seen = l.unborn_seen;
    young_present = l.young_present;
    young_dirty = young_dirty-pre l.young_dirty;
    young_seen = l.young_seen;
    young_pre = young_pre-pre l.young_pre l.young_seen l.young_dirty l.still_fixed l.still_seen l.group_mark;
    young_risen = l.young_risen;
  }

module _ (n k : ℕ) (s : State) (b : ℕ) (t d : ℕ) (may : May n k s (Post t d)) where
  pub post_pre-post : PostPre s b → PostPre (step s (Post t d)) b
  post_pre-post post_pre' a f = grind (arith, nat_tests)

  pub still_seen-post : StillSeen s b → StillSeen (step s (Post t d)) b
  still_seen-post still_seen' a h f g i j l m o = grind (arith, nat_tests)

  pub still_fixed-post : StillFixed s b → StillFixed (step s (Post t d)) b
  still_fixed-post still_fixed' a f g i j = grind (arith, nat_tests)

  pub still_pre-post : StillPre s b → StillPre (step s (Post t d)) b
  still_pre-post still_pre' a f g i j = grind (arith, nat_tests)

  pub still_did-post : StillDid s b → Kept s b → OriginLe s → PreSeen s b → StillDid (step s (Post t d)) b
  still_did-post still_did' kept' origin_le pre_seen' a c f g i = grind (arith, nat_tests)

  pub held_post-post : HeldPost s b → HeldPost (step s (Post t d)) b
  held_post-post held_post' x e f g i j l = grind (arith, nat_tests)

  pub shared_post-post : SharedPost s b → SharedNone s b → SharedPost (step s (Post t d)) b
  shared_post-post shared_post' shared_none' x e f g i j l = grind (arith, nat_tests)

  pub shared_still-post : SharedStill s b → SharedNone s b → SharedStill (step s (Post t d)) b
  shared_still-post shared_still' shared_none' x h f g i j l = grind (arith, nat_tests)

  pub strip_post-post : StripPost s b → StripMarked s b → StripPost (step s (Post t d)) b
  strip_post-post strip_post' strip_marked' x e f g i j l = grind (arith, nat_tests)

  pub kept-post : Kept s b → Kept (step s (Post t d)) b
  kept-post kept' a f g = grind (arith, nat_tests)

  pub kept_dirty-post : KeptDirty s b → Kept s b → OriginLe s → PreSeen s b → KeptDirty (step s (Post t d)) b
  kept_dirty-post kept_dirty' kept' origin_le pre_seen' a f g i j = grind (arith, nat_tests)

  pub past-post : Past s b → Past (step s (Post t d)) b
  past-post past' a f g i = grind (arith, nat_tests)

  pub passed-post : Passed s b → KeptDirty s b → StillPre s b → Apart s b → Alive s t → Passed (step s (Post t d)) b
  passed-post passed' kept_dirty' still_pre' apart' alive a c f g i j l m o = grind (arith, nat_tests)

  pub post_order-post : PostOrder s b → Kept s b → PostOrder (step s (Post t d)) b
  post_order-post post_order' kept' a e f g i j = grind (arith, nat_tests)

  pub no_more_post-post : NoMorePost s b → TooLate s b → Saw s b → PreSeen s b → NoMorePost (step s (Post t d)) b
  no_more_post-post no_more_post' too_late' saw' pre_seen' x e f g i j = grind (arith, nat_tests)

  pub at_post_is-post : AtPostIs s b → AtPostIs (step s (Post t d)) b
  at_post_is-post at_post_is' x e f = grind (arith, nat_tests)

  pub began_is-post : BeganIs s b → OriginLe s → BeganIs (step s (Post t d)) b
  began_is-post began_is' origin_le f g = grind (arith, nat_tests)

  pub young_dirty-post : YoungDirty s b → YoungDirty (step s (Post t d)) b
  young_dirty-post young_dirty' f g i = grind (arith, nat_tests)

  pub young_risen-post : YoungRisen s b → YoungRisen (step s (Post t d)) b
  young_risen-post young_risen' f = grind (arith, nat_tests)

  pub local-post : OriginLe s → Alive s t → Local s b → Local (step s (Post t d)) b
  local-post origin_le alive l = record {
    saw = l.saw;
    holder_granted = l.holder_granted;
    early_granted = l.early_granted;
    pre_seen = l.pre_seen;
    post_pre = post_pre-post l.post_pre;
    spost_seen = l.spost_seen;
    mark_seen = l.mark_seen;
    fixed_seen = l.fixed_seen;
    group_mark = l.group_mark;
    old_none = l.old_none;
    still_seen = still_seen-post l.still_seen;
    still_fixed = still_fixed-post l.still_fixed;
    still_pre = still_pre-post l.still_pre;
    still_did = still_did-post l.still_did l.kept origin_le l.pre_seen;
    carried_below = l.carried_below;
    held_pre = l.held_pre;
    held_post = held_post-post l.held_post;
    held_mark = l.held_mark;
    held_saw = l.held_saw;
    shared_none = l.shared_none;
    shared_pre = l.shared_pre;
    shared_post = shared_post-post l.shared_post l.shared_none;
    shared_mark = l.shared_mark;
    shared_saw = l.shared_saw;
    shared_still = shared_still-post l.shared_still l.shared_none;
    strip_marked = l.strip_marked;
    strip_pre = l.strip_pre;
    strip_post = strip_post-post l.strip_post l.strip_marked;
    strip_mark = l.strip_mark;
    kept = kept-post l.kept;
    kept_dirty = kept_dirty-post l.kept_dirty l.kept origin_le l.pre_seen;
    past = past-post l.past;
    apart = l.apart;
    passed = passed-post l.passed l.kept_dirty l.still_pre l.apart alive;
    post_order = post_order-post l.post_order l.kept;
    low_dirty = l.low_dirty;
    low_version = l.low_version;
    no_more_pre = l.no_more_pre;
    no_more_post = no_more_post-post l.no_more_post l.too_late l.saw l.pre_seen;
    too_late = l.too_late;
    at_pre_is = l.at_pre_is;
    at_post_is = at_post_is-post l.at_post_is;
    begun_post = l.begun_post;
    began_is = began_is-post l.began_is origin_le;
    seen_began = l.seen_began;
    not_made = l.not_made;
    not_made_pre = l.not_made_pre;
    not_made_seen = l.not_made_seen;
    unborn_pre = l.unborn_pre;
    unborn_seen = l.unborn_seen;
    young_present = l.young_present;
    young_dirty = young_dirty-post l.young_dirty;
    young_seen = l.young_seen;
    young_pre = l.young_pre;
    young_risen = young_risen-post l.young_risen;
  }

module _ (n k : ℕ) (s : State) (b : ℕ) (t d : ℕ) (may : May n k s (Clear t d)) where
  pub still_seen-clear : StillSeen s b → PostPre s b → StillSeen (step s (Clear t d)) b
  still_seen-clear still_seen' post_pre' a h f g i j l m o = grind (arith, nat_tests)

  pub still_fixed-clear : StillFixed s b → PostPre s b → StillFixed (step s (Clear t d)) b
  still_fixed-clear still_fixed' post_pre' a f g i j = grind (arith, nat_tests)

  pub still_pre-clear : StillPre s b → StillPre (step s (Clear t d)) b
  still_pre-clear still_pre' a f g i j = grind (arith, nat_tests)

  pub kept_dirty-clear : KeptDirty s b → StillDid s b → KeptDirty (step s (Clear t d)) b
  kept_dirty-clear kept_dirty' still_did' a f g i j = grind (arith, nat_tests)

  pub young_dirty-clear : YoungDirty s b → PostPre s b → PreSeen s b → YoungDirty (step s (Clear t d)) b
  young_dirty-clear young_dirty' post_pre' pre_seen' f g i = grind (arith, nat_tests)

  pub local-clear : Local s b → Local (step s (Clear t d)) b
  local-clear l = record {
    saw = l.saw;
    holder_granted = l.holder_granted;
    early_granted = l.early_granted;
    pre_seen = l.pre_seen;
    post_pre = l.post_pre;
    spost_seen = l.spost_seen;
    mark_seen = l.mark_seen;
    fixed_seen = l.fixed_seen;
    group_mark = l.group_mark;
    old_none = l.old_none;
    still_seen = still_seen-clear l.still_seen l.post_pre;
    still_fixed = still_fixed-clear l.still_fixed l.post_pre;
    still_pre = still_pre-clear l.still_pre;
    still_did = l.still_did;
    carried_below = l.carried_below;
    held_pre = l.held_pre;
    held_post = l.held_post;
    held_mark = l.held_mark;
    held_saw = l.held_saw;
    shared_none = l.shared_none;
    shared_pre = l.shared_pre;
    shared_post = l.shared_post;
    shared_mark = l.shared_mark;
    shared_saw = l.shared_saw;
    shared_still = l.shared_still;
    strip_marked = l.strip_marked;
    strip_pre = l.strip_pre;
    strip_post = l.strip_post;
    strip_mark = l.strip_mark;
    kept = l.kept;
    kept_dirty = kept_dirty-clear l.kept_dirty l.still_did;
    past = l.past;
    apart = l.apart;
    passed = l.passed;
    post_order = l.post_order;
    low_dirty = l.low_dirty;
    low_version = l.low_version;
    no_more_pre = l.no_more_pre;
    no_more_post = l.no_more_post;
    too_late = l.too_late;
    at_pre_is = l.at_pre_is;
    at_post_is = l.at_post_is;
    begun_post = l.begun_post;
    began_is = l.began_is;
    seen_began = l.seen_began;
    not_made = l.not_made;
    not_made_pre = l.not_made_pre;
    not_made_seen = l.not_made_seen;
    unborn_pre = l.unborn_pre;
    unborn_seen = l.unborn_seen;
    young_present = l.young_present;
    young_dirty = young_dirty-clear l.young_dirty l.post_pre l.pre_seen;
    young_seen = l.young_seen;
    young_pre = l.young_pre;
    young_risen = l.young_risen;
  }
