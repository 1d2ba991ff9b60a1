-- Heal grants, marks and what takes them away: each act keeps each clause at each brick. A clause that speaks of nothing that the act changes is handed on.
use Rattle.std.proofs.Common.{ℕ, arith}
use Rattle.std.proofs.lemmas.Bool.Decides.{nat_tests}
use Rattle.ec_law_base.specs.State.{State}
use Rattle.ec_law_ballots.specs.Act.{step}
use Rattle.ec_law_ballots.specs.Act.Act.{Heal_grant, Heal_free, Mark, Unmark}
use Rattle.ec_law_ballots.specs.Guard.{May}
use Rattle.ec_law_ballots.specs.Clauses.{Saw, PreSeen, PostPre, MarkSeen, FixedSeen, GroupMark, StillSeen, StillFixed, StillPre, HeldPre, HeldPost, HeldMark, SharedNone, SharedMark, SharedStill, StripMarked, StripPre, StripPost, StripMark, Kept, KeptDirty, Past, Apart, Passed, LowDirty, LowVersion, BeganIs, NotMade, NotMadePre, UnbornPre, UnbornSeen, YoungPresent, YoungDirty, YoungRisen, Local}
use Rattle.ec_law_ballots.specs.Facts.{MarkBelow, NumberBelow, NumberMaking, OriginLe, PostBelow, PreBelow}

module _ (n k : ℕ) (s : State) (b : ℕ) (h d : ℕ) (may : May n k s (Heal_grant h d)) where
  pub strip_marked-heal_grant : StripMarked s b → Saw s b → MarkSeen s b → StripMarked (step s (Heal_grant h d)) b
  strip_marked-heal_grant strip_marked' saw' mark_seen' x f g i j = grind (arith, nat_tests)

  pub strip_pre-heal_grant : StripPre s b → Saw s b → MarkSeen s b → StripPre (step s (Heal_grant h d)) b
  strip_pre-heal_grant strip_pre' saw' mark_seen' x e f g i j l = grind (arith, nat_tests)

  pub strip_post-heal_grant : StripPost s b → Saw s b → MarkSeen s b → StripPost (step s (Heal_grant h d)) b
  strip_post-heal_grant strip_post' saw' mark_seen' x e f g i j l = grind (arith, nat_tests)

  pub strip_mark-heal_grant : StripMark s b → Saw s b → MarkSeen s b → StripMark (step s (Heal_grant h d)) b
  strip_mark-heal_grant strip_mark' saw' mark_seen' x e f g i j l = grind (arith, nat_tests)

  pub local-heal_grant : Local s b → Local (step s (Heal_grant h d)) b
  local-heal_grant l = record {
    saw = l.saw;
    holder_granted = l.holder_granted;
    early_granted = l.early_granted;
    pre_seen = l.pre_seen;
    post_pre = l.post_pre;
    spost_seen = l.spost_seen;
    mark_seen = l.mark_seen;
    fixed_seen = l.fixed_seen;
    group_mark = l.group_mark;
    old_none = l.old_none;
    still_seen = l.still_seen;
    still_fixed = l.still_fixed;
    still_pre = l.still_pre;
    still_did = l.still_did;
    carried_below = l.carried_below;
    held_pre = l.held_pre;
    held_post = l.held_post;
    held_mark = l.held_mark;
    held_saw = l.held_saw;
    shared_none = l.shared_none;
    shared_pre = l.shared_pre;
    shared_post = l.shared_post;
    shared_mark = l.shared_mark;
    shared_saw = l.shared_saw;
    shared_still = l.shared_still;
    strip_marked = strip_marked-heal_grant l.strip_marked l.saw l.mark_seen;
    strip_pre = strip_pre-heal_grant l.strip_pre l.saw l.mark_seen;
    strip_post = strip_post-heal_grant l.strip_post l.saw l.mark_seen;
    strip_mark = strip_mark-heal_grant l.strip_mark l.saw l.mark_seen;
    kept = l.kept;
    kept_dirty = l.kept_dirty;
    past = l.past;
    apart = l.apart;
    passed = l.passed;
    post_order = l.post_order;
    low_dirty = l.low_dirty;
    low_version = l.low_version;
    no_more_pre = l.no_more_pre;
    no_more_post = l.no_more_post;
    too_late = l.too_late;
    at_pre_is = l.at_pre_is;
    at_post_is = l.at_post_is;
    begun_post = l.begun_post;
    began_is = l.began_is;
    seen_began = l.seen_began;
    not_made = l.not_made;
    not_made_pre = l.not_made_pre;
    not_made_seen = l.not_made_seen;
    unborn_pre = l.unborn_pre;
    unborn_seen = l.unborn_seen;
    young_present = l.young_present;
    young_dirty = l.young_dirty;
    young_seen = l.young_seen;
    young_pre = l.young_pre;
    young_risen = l.young_risen;
  }

module _ (n k : ℕ) (s : State) (b : ℕ) (d : ℕ) (may : May n k s (Heal_free d)) where
  pub strip_marked-heal_free : StripMarked s b → StripMarked (step s (Heal_free d)) b
  strip_marked-heal_free strip_marked' x f g i j = grind (arith, nat_tests)

  pub strip_pre-heal_free : StripPre s b → StripPre (step s (Heal_free d)) b
  strip_pre-heal_free strip_pre' x e f g i j l = grind (arith, nat_tests)

  pub strip_post-heal_free : StripPost s b → StripPost (step s (Heal_free d)) b
  strip_post-heal_free strip_post' x e f g i j l = grind (arith, nat_tests)

  pub strip_mark-heal_free : StripMark s b → StripMark (step s (Heal_free d)) b
  strip_mark-heal_free strip_mark' x e f g i j l = grind (arith, nat_tests)

  pub local-heal_free : Local s b → Local (step s (Heal_free d)) b
  local-heal_free l = record {
    saw = l.saw;
    holder_granted = l.holder_granted;
    early_granted = l.early_granted;
    pre_seen = l.pre_seen;
    post_pre = l.post_pre;
    spost_seen = l.spost_seen;
    mark_seen = l.mark_seen;
    fixed_seen = l.fixed_seen;
    group_mark = l.group_mark;
    old_none = l.old_none;
    still_seen = l.still_seen;
    still_fixed = l.still_fixed;
    still_pre = l.still_pre;
    still_did = l.still_did;
    carried_below = l.carried_below;
    held_pre = l.held_pre;
    held_post = l.held_post;
    held_mark = l.held_mark;
    held_saw = l.held_saw;
    shared_none = l.shared_none;
    shared_pre = l.shared_pre;
    shared_post = l.shared_post;
    shared_mark = l.shared_mark;
    shared_saw = l.shared_saw;
    shared_still = l.shared_still;
    strip_marked = strip_marked-heal_free l.strip_marked;
    strip_pre = strip_pre-heal_free l.strip_pre;
    strip_post = strip_post-heal_free l.strip_post;
    strip_mark = strip_mark-heal_free l.strip_mark;
    kept = l.kept;
    kept_dirty = l.kept_dirty;
    past = l.past;
    apart = l.apart;
    passed = l.passed;
    post_order = l.post_order;
    low_dirty = l.low_dirty;
    low_version = l.low_version;
    no_more_pre = l.no_more_pre;
    no_more_post = l.no_more_post;
    too_late = l.too_late;
    at_pre_is = l.at_pre_is;
    at_post_is = l.at_post_is;
    begun_post = l.begun_post;
    began_is = l.began_is;
    seen_began = l.seen_began;
    not_made = l.not_made;
    not_made_pre = l.not_made_pre;
    not_made_seen = l.not_made_seen;
    unborn_pre = l.unborn_pre;
    unborn_seen = l.unborn_seen;
    young_present = l.young_present;
    young_dirty = l.young_dirty;
    young_seen = l.young_seen;
    young_pre = l.young_pre;
    young_risen = l.young_risen;
  }

module _ (n k : ℕ) (s : State) (b : ℕ) (t d : ℕ) (may : May n k s (Mark t d)) where
  pub mark_seen-mark : MarkSeen s b → MarkSeen (step s (Mark t d)) b
  mark_seen-mark mark_seen' a f = grind (arith, nat_tests)

  pub fixed_seen-mark : FixedSeen s b → FixedSeen (step s (Mark t d)) b
  fixed_seen-mark fixed_seen' a f = grind (arith, nat_tests)

  pub group_mark-mark : GroupMark s b → GroupMark (step s (Mark t d)) b
  group_mark-mark group_mark' a f = grind (arith, nat_tests)

  pub still_seen-mark : StillSeen s b → StillSeen (step s (Mark t d)) b
  still_seen-mark still_seen' a h f g i j l m o = grind (arith, nat_tests)

  pub still_fixed-mark : StillFixed s b → StillFixed (step s (Mark t d)) b
  still_fixed-mark still_fixed' a f g i j = grind (arith, nat_tests)

  pub still_pre-mark : StillPre s b → StillPre (step s (Mark t d)) b
  still_pre-mark still_pre' a f g i j = grind (arith, nat_tests)

  pub held_mark-mark : HeldMark s b → HeldMark (step s (Mark t d)) b
  held_mark-mark held_mark' x e f g i j l = grind (arith, nat_tests)

  pub shared_mark-mark : SharedMark s b → SharedNone s b → SharedMark (step s (Mark t d)) b
  shared_mark-mark shared_mark' shared_none' x e f g i j l = grind (arith, nat_tests)

  pub shared_still-mark : SharedStill s b → SharedNone s b → SharedStill (step s (Mark t d)) b
  shared_still-mark shared_still' shared_none' x h f g i j l = grind (arith, nat_tests)

  pub strip_marked-mark : StripMarked s b → StripMarked (step s (Mark t d)) b
  strip_marked-mark strip_marked' x f g i j = grind (arith, nat_tests)

  pub strip_pre-mark : StripPre s b → HeldPre s b → Saw s b → MarkSeen s b → StripPre (step s (Mark t d)) b
  strip_pre-mark strip_pre' held_pre' saw' mark_seen' x e f g i j l = grind (arith, nat_tests)

  pub strip_post-mark : StripPost s b → HeldPost s b → Saw s b → MarkSeen s b → StripPost (step s (Mark t d)) b
  strip_post-mark strip_post' held_post' saw' mark_seen' x e f g i j l = grind (arith, nat_tests)

  pub strip_mark-mark : StripMark s b → HeldMark s b → Saw s b → MarkSeen s b → StripMark (step s (Mark t d)) b
  strip_mark-mark strip_mark' held_mark' saw' mark_seen' x e f g i j l = grind (arith, nat_tests)

  pub kept-mark : Kept s b → PreBelow s d t → Kept (step s (Mark t d)) b
  kept-mark kept' pre_below a f g = grind (arith, nat_tests)

  pub kept_dirty-mark : KeptDirty s b → KeptDirty (step s (Mark t d)) b
  kept_dirty-mark kept_dirty' a f g i j = grind (arith, nat_tests)

  pub past-mark : Past s b → PostPre s b → PreBelow s d t → PostBelow s → Past (step s (Mark t d)) b
  past-mark past' post_pre' pre_below post_below a f g i = grind (arith, nat_tests)

  pub apart-mark : Apart s b → Apart (step s (Mark t d)) b
  apart-mark apart' a c f g i j l m = grind (arith, nat_tests)

  pub passed-mark : Passed s b → Passed (step s (Mark t d)) b
  passed-mark passed' a c f g i j l m o = grind (arith, nat_tests)

  pub low_dirty-mark : LowDirty s b → LowDirty (step s (Mark t d)) b
  low_dirty-mark low_dirty' x e h f g i j l = grind (arith, nat_tests)

  pub low_version-mark : LowVersion s b → LowVersion (step s (Mark t d)) b
  low_version-mark low_version' x e h f g i j = grind (arith, nat_tests)

  pub began_is-mark : BeganIs s b → OriginLe s → BeganIs (step s (Mark t d)) b
  began_is-mark began_is' origin_le f g = grind (arith, nat_tests)

  pub not_made-mark : NotMade s b → NumberMaking s → NotMade (step s (Mark t d)) b
  not_made-mark not_made' number_making f = grind (arith, nat_tests)

  pub not_made_pre-mark : NotMadePre s b → NumberMaking s → NotMadePre (step s (Mark t d)) b
  not_made_pre-mark not_made_pre' number_making a f = grind (arith, nat_tests)

  pub unborn_pre-mark : UnbornPre s b → UnbornPre (step s (Mark t d)) b
  unborn_pre-mark unborn_pre' a f g i j = grind (arith, nat_tests)

  pub unborn_seen-mark : UnbornSeen s b → UnbornSeen (step s (Mark t d)) b
  unborn_seen-mark unborn_seen' a h f g i j l = grind (arith, nat_tests)

  pub young_present-mark : YoungPresent s b → YoungPresent (step s (Mark t d)) b
  young_present-mark young_present' f = grind (arith, nat_tests)

  pub young_dirty-mark : YoungDirty s b → YoungDirty (step s (Mark t d)) b
  young_dirty-mark young_dirty' f g i = grind (arith, nat_tests)

  pub young_risen-mark : YoungRisen s b → YoungPresent s b → YoungRisen (step s (Mark t d)) b
  young_risen-mark young_risen' young_present' f = grind (arith, nat_tests)

  pub local-mark : PreBelow s d t → PostBelow s → OriginLe s → NumberMaking s → Local s b → Local (step s (Mark t d)) b
  local-mark pre_below post_below origin_le number_making l = record {
    saw = l.saw;
    holder_granted = l.holder_granted;
    early_granted = l.early_granted;
    pre_seen = l.pre_seen;
    post_pre = l.post_pre;
    spost_seen = l.spost_seen;
    mark_seen = mark_seen-mark l.mark_seen;
    fixed_seen = fixed_seen-mark l.fixed_seen;
    group_mark = group_mark-mark l.group_mark;
    old_none = l.old_none;
    still_seen = still_seen-mark l.still_seen;
    still_fixed = still_fixed-mark l.still_fixed;
    still_pre = still_pre-mark l.still_pre;
    still_did = l.still_did;
    carried_below = l.carried_below;
    held_pre = l.held_pre;
    held_post = l.held_post;
    held_mark = held_mark-mark l.held_mark;
    held_saw = l.held_saw;
    shared_none = l.shared_none;
    shared_pre = l.shared_pre;
    shared_post = l.shared_post;
    shared_mark = shared_mark-mark l.shared_mark l.shared_none;
    shared_saw = l.shared_saw;
    shared_still = shared_still-mark l.shared_still l.shared_none;
    strip_marked = strip_marked-mark l.strip_marked;
    strip_pre = strip_pre-mark l.strip_pre l.held_pre l.saw l.mark_seen;
    strip_post = strip_post-mark l.strip_post l.held_post l.saw l.mark_seen;
    strip_mark = strip_mark-mark l.strip_mark l.held_mark l.saw l.mark_seen;
    kept = kept-mark l.kept pre_below;
    kept_dirty = kept_dirty-mark l.kept_dirty;
    past = past-mark l.past l.post_pre pre_below post_below;
    apart = apart-mark l.apart;
    passed = passed-mark l.passed;
    post_order = l.post_order;
    low_dirty = low_dirty-mark l.low_dirty;
    low_version = low_version-mark l.low_version;
    no_more_pre = l.no_more_pre;
    no_more_post = l.no_more_post;
    too_late = l.too_late;
    at_pre_is = l.at_pre_is;
    at_post_is = l.at_post_is;
    begun_post = l.begun_post;
    began_is = began_is-mark l.began_is origin_le;
    seen_began = l.seen_began;
    not_made = not_made-mark l.not_made number_making;
    not_made_pre = not_made_pre-mark l.not_made_pre number_making;
    not_made_seen = l.not_made_seen;
    unborn_pre = unborn_pre-mark l.unborn_pre;
    unborn_seen = unborn_seen-mark l.unborn_seen;
    young_present = young_present-mark l.young_present;
    young_dirty = young_dirty-mark l.young_dirty;
    young_seen = l.young_seen;
    young_pre = l.young_pre;
    young_risen = young_risen-mark l.young_risen l.young_present;
  }

module _ (n k : ℕ) (s : State) (b : ℕ) (t d : ℕ) (may : May n k s (Unmark t d)) where
  pub fixed_seen-unmark : FixedSeen s b → MarkSeen s b → FixedSeen (step s (Unmark t d)) b
  fixed_seen-unmark fixed_seen' mark_seen' a f = grind (arith, nat_tests)

  pub still_seen-unmark : StillSeen s b → StillSeen (step s (Unmark t d)) b
  still_seen-unmark still_seen' a h f g i j l m o = grind (arith, nat_tests)

  pub still_fixed-unmark : StillFixed s b → StillFixed (step s (Unmark t d)) b
  still_fixed-unmark still_fixed' a f g i j = grind (arith, nat_tests)

  pub still_pre-unmark : StillPre s b → StillPre (step s (Unmark t d)) b
  still_pre-unmark still_pre' a f g i j = grind (arith, nat_tests)

  pub shared_still-unmark : SharedStill s b → SharedStill (step s (Unmark t d)) b
  shared_still-unmark shared_still' x h f g i j l = grind (arith, nat_tests)

  pub strip_marked-unmark : StripMarked s b → StripMarked (step s (Unmark t d)) b
  strip_marked-unmark strip_marked' x f g i j = grind (arith, nat_tests)

  pub strip_pre-unmark : StripPre s b → StripPre (step s (Unmark t d)) b
  strip_pre-unmark strip_pre' x e f g i j l = grind (arith, nat_tests)

  pub strip_post-unmark : StripPost s b → StripPost (step s (Unmark t d)) b
  strip_post-unmark strip_post' x e f g i j l = grind (arith, nat_tests)

  pub strip_mark-unmark : StripMark s b → StripMark (step s (Unmark t d)) b
  strip_mark-unmark strip_mark' x e f g i j l = grind (arith, nat_tests)

  pub kept_dirty-unmark : KeptDirty s b → KeptDirty (step s (Unmark t d)) b
  kept_dirty-unmark kept_dirty' a f g i j = grind (arith, nat_tests)

  pub apart-unmark : Apart s b → Apart (step s (Unmark t d)) b
  apart-unmark apart' a c f g i j l m = grind (arith, nat_tests)

  pub passed-unmark : Passed s b → Passed (step s (Unmark t d)) b
  passed-unmark passed' a c f g i j l m o = grind (arith, nat_tests)

  pub low_dirty-unmark : LowDirty s b → LowDirty (step s (Unmark t d)) b
  low_dirty-unmark low_dirty' x e h f g i j l = grind (arith, nat_tests)

  pub began_is-unmark : BeganIs s b → OriginLe s → BeganIs (step s (Unmark t d)) b
  began_is-unmark began_is' origin_le f g = grind (arith, nat_tests)

  pub young_dirty-unmark : YoungDirty s b → YoungRisen s b → PostPre s b → PreSeen s b → NumberBelow s d t → MarkBelow s d t → YoungDirty (step s (Unmark t d)) b
  young_dirty-unmark young_dirty' young_risen' post_pre' pre_seen' number_below mark_below f g i = grind (arith, nat_tests)

  pub young_risen-unmark : YoungRisen s b → YoungRisen (step s (Unmark t d)) b
  young_risen-unmark young_risen' f = grind (arith, nat_tests)

  pub local-unmark : OriginLe s → NumberBelow s d t → MarkBelow s d t → Local s b → Local (step s (Unmark t d)) b
  local-unmark origin_le number_below mark_below l = record {
    saw = l.saw;
    holder_granted = l.holder_granted;
    early_granted = l.early_granted;
    pre_seen = l.pre_seen;
    post_pre = l.post_pre;
    spost_seen = l.spost_seen;
    mark_seen = l.mark_seen;
    fixed_seen = fixed_seen-unmark l.fixed_seen l.mark_seen;
    group_mark = l.group_mark;
    old_none = l.old_none;
    still_seen = still_seen-unmark l.still_seen;
    still_fixed = still_fixed-unmark l.still_fixed;
    still_pre = still_pre-unmark l.still_pre;
    still_did = l.still_did;
    carried_below = l.carried_below;
    held_pre = l.held_pre;
    held_post = l.held_post;
    held_mark = l.held_mark;
    held_saw = l.held_saw;
    shared_none = l.shared_none;
    shared_pre = l.shared_pre;
    shared_post = l.shared_post;
    shared_mark = l.shared_mark;
    shared_saw = l.shared_saw;
    shared_still = shared_still-unmark l.shared_still;
    strip_marked = strip_marked-unmark l.strip_marked;
    strip_pre = strip_pre-unmark l.strip_pre;
    strip_post = strip_post-unmark l.strip_post;
    strip_mark = strip_mark-unmark l.strip_mark;
    kept = l.kept;
    kept_dirty = kept_dirty-unmark l.kept_dirty;
    past = l.past;
    apart = apart-unmark l.apart;
    passed = passed-unmark l.passed;
    post_order = l.post_order;
    low_dirty = low_dirty-unmark l.low_dirty;
    low_version = l.low_version;
    no_more_pre = l.no_more_pre;
    no_more_post = l.no_more_post;
    too_late = l.too_late;
    at_pre_is = l.at_pre_is;
    at_post_is = l.at_post_is;
    begun_post = l.begun_post;
    began_is = began_is-unmark l.began_is origin_le;
    seen_began = l.seen_began;
    not_made = l.not_made;
    not_made_pre = l.not_made_pre;
    not_made_seen = l.not_made_seen;
    unborn_pre = l.unborn_pre;
    unborn_seen = l.unborn_seen;
    young_present = l.young_present;
    young_dirty = young_dirty-unmark l.young_dirty l.young_risen l.post_pre l.pre_seen number_below mark_below;
    young_seen = l.young_seen;
    young_pre = l.young_pre;
    young_risen = young_risen-unmark l.young_risen;
  }
