-- Moments and Queries: each act keeps each clause at each brick. A clause that speaks of nothing that the act changes is handed on.
use Rattle.std.proofs.Common.{ℕ, arith}
use Rattle.std.proofs.lemmas.Bool.Decides.{nat_tests}
use Rattle.ec_law_base.specs.State.{State}
use Rattle.ec_law_ballots.specs.Act.{step}
use Rattle.ec_law_ballots.specs.Act.Act.{Moment, See}
use Rattle.ec_law_ballots.specs.Guard.{May}
use Rattle.ec_law_ballots.specs.Clauses.{Saw, EarlyGranted, PreSeen, PostPre, SpostSeen, MarkSeen, FixedSeen, GroupMark, StillSeen, HeldPre, HeldPost, HeldMark, HeldSaw, SharedNone, SharedPre, SharedPost, SharedMark, SharedSaw, SharedStill, StripMarked, StripPre, StripPost, StripMark, KeptDirty, Past, PostOrder, LowDirty, LowVersion, NoMorePre, NoMorePost, TooLate, AtPreIs, AtPostIs, BegunPost, BeganIs, SeenBegan, NotMade, NotMadePre, NotMadeSeen, UnbornPre, UnbornSeen, YoungDirty, YoungSeen, Local}
use Rattle.ec_law_ballots.specs.Facts.{BegunMoment}

module _ (n k : ℕ) (s : State) (b : ℕ) (t : ℕ) (may : May n k s (Moment t)) where
  pub saw-moment : Saw s b → Saw (step s (Moment t)) b
  saw-moment saw' a f = grind (arith, nat_tests)

  pub pre_seen-moment : PreSeen s b → PreSeen (step s (Moment t)) b
  pre_seen-moment pre_seen' a f = grind (arith, nat_tests)

  pub held_pre-moment : HeldPre s b → HeldPre (step s (Moment t)) b
  held_pre-moment held_pre' x e f g i j l = grind (arith, nat_tests)

  pub held_post-moment : HeldPost s b → HeldPost (step s (Moment t)) b
  held_post-moment held_post' x e f g i j l = grind (arith, nat_tests)

  pub held_mark-moment : HeldMark s b → MarkSeen s b → HeldMark (step s (Moment t)) b
  held_mark-moment held_mark' mark_seen' x e f g i j l = grind (arith, nat_tests)

  pub held_saw-moment : HeldSaw s b → Saw s b → HeldSaw (step s (Moment t)) b
  held_saw-moment held_saw' saw' x e f g i j l = grind (arith, nat_tests)

  pub shared_pre-moment : SharedPre s b → SharedPre (step s (Moment t)) b
  shared_pre-moment shared_pre' x e f g i j l = grind (arith, nat_tests)

  pub shared_post-moment : SharedPost s b → SharedPost (step s (Moment t)) b
  shared_post-moment shared_post' x e f g i j l = grind (arith, nat_tests)

  pub shared_mark-moment : SharedMark s b → MarkSeen s b → SharedMark (step s (Moment t)) b
  shared_mark-moment shared_mark' mark_seen' x e f g i j l = grind (arith, nat_tests)

  pub shared_saw-moment : SharedSaw s b → Saw s b → SharedSaw (step s (Moment t)) b
  shared_saw-moment shared_saw' saw' x e f g i j l m = grind (arith, nat_tests)

  pub strip_pre-moment : StripPre s b → StripPre (step s (Moment t)) b
  strip_pre-moment strip_pre' x e f g i j l = grind (arith, nat_tests)

  pub strip_post-moment : StripPost s b → StripPost (step s (Moment t)) b
  strip_post-moment strip_post' x e f g i j l = grind (arith, nat_tests)

  pub strip_mark-moment : StripMark s b → MarkSeen s b → StripMark (step s (Moment t)) b
  strip_mark-moment strip_mark' mark_seen' x e f g i j l = grind (arith, nat_tests)

  pub post_order-moment : PostOrder s b → PreSeen s b → PostOrder (step s (Moment t)) b
  post_order-moment post_order' pre_seen' a e f g i j = grind (arith, nat_tests)

  pub low_dirty-moment : LowDirty s b → Saw s b → LowDirty (step s (Moment t)) b
  low_dirty-moment low_dirty' saw' x e h f g i j l = grind (arith, nat_tests)

  pub low_version-moment : LowVersion s b → Saw s b → LowVersion (step s (Moment t)) b
  low_version-moment low_version' saw' x e h f g i j = grind (arith, nat_tests)

  pub no_more_pre-moment : NoMorePre s b → Saw s b → NoMorePre (step s (Moment t)) b
  no_more_pre-moment no_more_pre' saw' x e f g i j = grind (arith, nat_tests)

  pub no_more_post-moment : NoMorePost s b → Saw s b → NoMorePost (step s (Moment t)) b
  no_more_post-moment no_more_post' saw' x e f g i j = grind (arith, nat_tests)

  pub too_late-moment : TooLate s b → Saw s b → TooLate (step s (Moment t)) b
  too_late-moment too_late' saw' x e f g i j = grind (arith, nat_tests)

  pub at_pre_is-moment : AtPreIs s b → PreSeen s b → AtPreIs (step s (Moment t)) b
  at_pre_is-moment at_pre_is' pre_seen' x e f = grind (arith, nat_tests)

  pub at_post_is-moment : AtPostIs s b → PostPre s b → PreSeen s b → AtPostIs (step s (Moment t)) b
  at_post_is-moment at_post_is' post_pre' pre_seen' x e f = grind (arith, nat_tests)

  pub begun_post-moment : BegunPost s b → AtPostIs s b → BegunMoment s → BegunPost (step s (Moment t)) b
  begun_post-moment begun_post' at_post_is' begun_moment x t e f g = grind (arith, nat_tests)

  pub local-moment : BegunMoment s → Local s b → Local (step s (Moment t)) b
  local-moment begun_moment l = record {
    saw = saw-moment l.saw;
    holder_granted = l.holder_granted;
    early_granted = l.early_granted;
    pre_seen = pre_seen-moment l.pre_seen;
    post_pre = l.post_pre;
    spost_seen = l.spost_seen;
    mark_seen = l.mark_seen;
    fixed_seen = l.fixed_seen;
    group_mark = l.group_mark;
    old_none = l.old_none;
    still_seen = l.still_seen;
    still_fixed = l.still_fixed;
    still_pre = l.still_pre;
    still_did = l.still_did;
    carried_below = l.carried_below;
    held_pre = held_pre-moment l.held_pre;
    held_post = held_post-moment l.held_post;
    held_mark = held_mark-moment l.held_mark l.mark_seen;
    held_saw = held_saw-moment l.held_saw l.saw;
    shared_none = l.shared_none;
    shared_pre = shared_pre-moment l.shared_pre;
    shared_post = shared_post-moment l.shared_post;
    shared_mark = shared_mark-moment l.shared_mark l.mark_seen;
    shared_saw = shared_saw-moment l.shared_saw l.saw;
    shared_still = l.shared_still;
    strip_marked = l.strip_marked;
    strip_pre = strip_pre-moment l.strip_pre;
    strip_post = strip_post-moment l.strip_post;
    strip_mark = strip_mark-moment l.strip_mark l.mark_seen;
    kept = l.kept;
    kept_dirty = l.kept_dirty;
    past = l.past;
    apart = l.apart;
    passed = l.passed;
    post_order = post_order-moment l.post_order l.pre_seen;
    low_dirty = low_dirty-moment l.low_dirty l.saw;
    low_version = low_version-moment l.low_version l.saw;
    no_more_pre = no_more_pre-moment l.no_more_pre l.saw;
    no_more_post = no_more_post-moment l.no_more_post l.saw;
    too_late = too_late-moment l.too_late l.saw;
    at_pre_is = at_pre_is-moment l.at_pre_is l.pre_seen;
    at_post_is = at_post_is-moment l.at_post_is l.post_pre l.pre_seen;
    begun_post = begun_post-moment l.begun_post l.at_post_is begun_moment;
    began_is = l.began_is;
    seen_began = l.seen_began;
    not_made = l.not_made;
    not_made_pre = l.not_made_pre;
    not_made_seen = l.not_made_seen;
    unborn_pre = l.unborn_pre;
    unborn_seen = l.unborn_seen;
    young_present = l.young_present;
    young_dirty = l.young_dirty;
    young_seen = l.young_seen;
    young_pre = l.young_pre;
    young_risen = l.young_risen;
  }

module _ (n k : ℕ) (s : State) (b : ℕ) (t d : ℕ) (may : May n k s (See t d)) where
  pub saw-see : Saw s b → EarlyGranted s b → Saw (step s (See t d)) b
  saw-see saw' early_granted' a f = grind (arith, nat_tests)

  pub pre_seen-see : PreSeen s b → PreSeen (step s (See t d)) b
  pre_seen-see pre_seen' a f = grind (arith, nat_tests)

  pub spost_seen-see : SpostSeen s b → SpostSeen (step s (See t d)) b
  spost_seen-see spost_seen' a f = grind (arith, nat_tests)

  pub mark_seen-see : MarkSeen s b → MarkSeen (step s (See t d)) b
  mark_seen-see mark_seen' a f = grind (arith, nat_tests)

  pub fixed_seen-see : FixedSeen s b → FixedSeen (step s (See t d)) b
  fixed_seen-see fixed_seen' a f = grind (arith, nat_tests)

  pub group_mark-see : GroupMark s b → MarkSeen s b → GroupMark (step s (See t d)) b
  group_mark-see group_mark' mark_seen' a f = grind (arith, nat_tests)

  pub still_seen-see : StillSeen s b → StillSeen (step s (See t d)) b
  still_seen-see still_seen' a h f g i j l m o = grind (arith, nat_tests)

  pub held_saw-see : HeldSaw s b → SharedNone s b → HeldSaw (step s (See t d)) b
  held_saw-see held_saw' shared_none' x e f g i j l = grind (arith, nat_tests)

  pub shared_saw-see : SharedSaw s b → SharedNone s b → SharedSaw (step s (See t d)) b
  shared_saw-see shared_saw' shared_none' x e f g i j l m = grind (arith, nat_tests)

  pub shared_still-see : SharedStill s b → SharedStill (step s (See t d)) b
  shared_still-see shared_still' x h f g i j l = grind (arith, nat_tests)

  pub strip_marked-see : StripMarked s b → MarkSeen s b → StripMarked (step s (See t d)) b
  strip_marked-see strip_marked' mark_seen' x f g i j = grind (arith, nat_tests)

  pub strip_pre-see : StripPre s b → HeldPre s b → SharedPre s b → StripPre (step s (See t d)) b
  strip_pre-see strip_pre' held_pre' shared_pre' x e f g i j l = grind (arith, nat_tests)

  pub strip_post-see : StripPost s b → HeldPost s b → SharedPost s b → StripPost (step s (See t d)) b
  strip_post-see strip_post' held_post' shared_post' x e f g i j l = grind (arith, nat_tests)

  pub strip_mark-see : StripMark s b → HeldMark s b → SharedMark s b → StripMark (step s (See t d)) b
  strip_mark-see strip_mark' held_mark' shared_mark' x e f g i j l = grind (arith, nat_tests)

  pub low_dirty-see : LowDirty s b → AtPreIs s b → KeptDirty s b → LowDirty (step s (See t d)) b
  low_dirty-see low_dirty' at_pre_is' kept_dirty' x e h f g i j l = grind (arith, nat_tests)

  pub low_version-see : LowVersion s b → AtPostIs s b → Past s b → LowVersion (step s (See t d)) b
  low_version-see low_version' at_post_is' past' x e h f g i j = grind (arith, nat_tests)

  pub no_more_pre-see : NoMorePre s b → HeldPre s b → SharedPre s b → NoMorePre (step s (See t d)) b
  no_more_pre-see no_more_pre' held_pre' shared_pre' x e f g i j = grind (arith, nat_tests)

  pub no_more_post-see : NoMorePost s b → HeldPost s b → SharedPost s b → NoMorePost (step s (See t d)) b
  no_more_post-see no_more_post' held_post' shared_post' x e f g i j = grind (arith, nat_tests)

  pub too_late-see : TooLate s b → SharedNone s b → TooLate (step s (See t d)) b
  too_late-see too_late' shared_none' x e f g i j = grind (arith, nat_tests)

  pub seen_began-see : SeenBegan s b → BeganIs s b → SeenBegan (step s (See t d)) b
  seen_began-see seen_began' began_is' x h f g i = grind (arith, nat_tests)

  pub not_made_pre-see : NotMadePre s b → NotMade s b → NotMadePre (step s (See t d)) b
  not_made_pre-see not_made_pre' not_made' a f = grind (arith, nat_tests)

  pub not_made_seen-see : NotMadeSeen s b → NotMade s b → NotMadeSeen (step s (See t d)) b
  not_made_seen-see not_made_seen' not_made' a h f g = grind (arith, nat_tests)

  pub unborn_pre-see : UnbornPre s b → UnbornPre (step s (See t d)) b
  unborn_pre-see unborn_pre' a f g i j = grind (arith, nat_tests)

  pub unborn_seen-see : UnbornSeen s b → UnbornSeen (step s (See t d)) b
  unborn_seen-see unborn_seen' a h f g i j l = grind (arith, nat_tests)

  pub young_seen-see : YoungSeen s b → YoungDirty s b → YoungSeen (step s (See t d)) b
  young_seen-see young_seen' young_dirty' a h f g i j l = grind (arith, nat_tests)

  pub local-see : Local s b → Local (step s (See t d)) b
  local-see l = record {
    saw = saw-see l.saw l.early_granted;
    holder_granted = l.holder_granted;
    early_granted = l.early_granted;
    pre_seen = pre_seen-see l.pre_seen;
    post_pre = l.post_pre;
    spost_seen = spost_seen-see l.spost_seen;
    mark_seen = mark_seen-see l.mark_seen;
    fixed_seen = fixed_seen-see l.fixed_seen;
    group_mark = group_mark-see l.group_mark l.mark_seen;
    old_none = l.old_none;
    still_seen = still_seen-see l.still_seen;
    still_fixed = l.still_fixed;
    still_pre = l.still_pre;
    still_did = l.still_did;
    carried_below = l.carried_below;
    held_pre = l.held_pre;
    held_post = l.held_post;
    held_mark = l.held_mark;
    held_saw = held_saw-see l.held_saw l.shared_none;
    shared_none = l.shared_none;
    shared_pre = l.shared_pre;
    shared_post = l.shared_post;
    shared_mark = l.shared_mark;
    shared_saw = shared_saw-see l.shared_saw l.shared_none;
    shared_still = shared_still-see l.shared_still;
    strip_marked = strip_marked-see l.strip_marked l.mark_seen;
    strip_pre = strip_pre-see l.strip_pre l.held_pre l.shared_pre;
    strip_post = strip_post-see l.strip_post l.held_post l.shared_post;
    strip_mark = strip_mark-see l.strip_mark l.held_mark l.shared_mark;
    kept = l.kept;
    kept_dirty = l.kept_dirty;
    past = l.past;
    apart = l.apart;
    passed = l.passed;
    post_order = l.post_order;
    low_dirty = low_dirty-see l.low_dirty l.at_pre_is l.kept_dirty;
    low_version = low_version-see l.low_version l.at_post_is l.past;
    no_more_pre = no_more_pre-see l.no_more_pre l.held_pre l.shared_pre;
    no_more_post = no_more_post-see l.no_more_post l.held_post l.shared_post;
    too_late = too_late-see l.too_late l.shared_none;
    at_pre_is = l.at_pre_is;
    at_post_is = l.at_post_is;
    begun_post = l.begun_post;
    began_is = l.began_is;
    seen_began = seen_began-see l.seen_began l.began_is;
    not_made = l.not_made;
    not_made_pre = not_made_pre-see l.not_made_pre l.not_made;
    not_made_seen = not_made_seen-see l.not_made_seen l.not_made;
    unborn_pre = unborn_pre-see l.unborn_pre;
    unborn_seen = unborn_seen-see l.unborn_seen;
    young_present = l.young_present;
    young_dirty = l.young_dirty;
    young_seen = young_seen-see l.young_seen l.young_dirty;
    young_pre = l.young_pre;
    young_risen = l.young_risen;
  }
