-- Grants that are given, taken over and ended: each act keeps each clause at each brick. A clause that speaks of nothing that the act changes is handed on.
use Rattle.std.proofs.Common.{ℕ, arith}
use Rattle.std.proofs.lemmas.Bool.Decides.{nat_tests}
use Rattle.ec_law_base.specs.State.{State}
use Rattle.ec_law_ballots.specs.Act.{step}
use Rattle.ec_law_ballots.specs.Act.Act.{Grant, Free, Share, Unshare, Keep, Carry}
use Rattle.ec_law_ballots.specs.Guard.{May}
use Rattle.ec_law_ballots.specs.Clauses.{Saw, HolderGranted, EarlyGranted, PreSeen, PostPre, SpostSeen, FixedSeen, OldNone, StillSeen, StillFixed, StillPre, StillDid, CarriedBelow, HeldPre, HeldPost, HeldMark, HeldSaw, SharedNone, SharedPre, SharedPost, SharedMark, SharedSaw, SharedStill, TooLate, Local}
use Rattle.ec_law_ballots.specs.Facts.{BegunMoment}

module _ (n k : ℕ) (s : State) (b : ℕ) (t d : ℕ) (may : May n k s (Grant t d)) where
  pub saw-grant : Saw s b → Saw (step s (Grant t d)) b
  saw-grant saw' a f = grind (arith, nat_tests)

  pub holder_granted-grant : HolderGranted s b → HolderGranted (step s (Grant t d)) b
  holder_granted-grant holder_granted' a f = grind (arith, nat_tests)

  pub early_granted-grant : EarlyGranted s b → EarlyGranted (step s (Grant t d)) b
  early_granted-grant early_granted' a f = grind (arith, nat_tests)

  pub old_none-grant : OldNone s b → OldNone (step s (Grant t d)) b
  old_none-grant old_none' a f = grind (arith, nat_tests)

  pub still_seen-grant : StillSeen s b → Saw s b → StillSeen (step s (Grant t d)) b
  still_seen-grant still_seen' saw' a h f g i j l m o = grind (arith, nat_tests)

  pub still_fixed-grant : StillFixed s b → FixedSeen s b → Saw s b → StillFixed (step s (Grant t d)) b
  still_fixed-grant still_fixed' fixed_seen' saw' a f g i j = grind (arith, nat_tests)

  pub still_pre-grant : StillPre s b → PreSeen s b → Saw s b → StillPre (step s (Grant t d)) b
  still_pre-grant still_pre' pre_seen' saw' a f g i j = grind (arith, nat_tests)

  pub still_did-grant : StillDid s b → PostPre s b → PreSeen s b → SpostSeen s b → Saw s b → StillDid (step s (Grant t d)) b
  still_did-grant still_did' post_pre' pre_seen' spost_seen' saw' a c f g i = grind (arith, nat_tests)

  pub carried_below-grant : CarriedBelow s b → CarriedBelow (step s (Grant t d)) b
  carried_below-grant carried_below' x a e f g i j = grind (arith, nat_tests)

  pub held_pre-grant : HeldPre s b → HeldPre (step s (Grant t d)) b
  held_pre-grant held_pre' x e f g i j l = grind (arith, nat_tests)

  pub held_post-grant : HeldPost s b → HeldPost (step s (Grant t d)) b
  held_post-grant held_post' x e f g i j l = grind (arith, nat_tests)

  pub held_mark-grant : HeldMark s b → HeldMark (step s (Grant t d)) b
  held_mark-grant held_mark' x e f g i j l = grind (arith, nat_tests)

  pub held_saw-grant : HeldSaw s b → HeldSaw (step s (Grant t d)) b
  held_saw-grant held_saw' x e f g i j l = grind (arith, nat_tests)

  pub shared_none-grant : SharedNone s b → SharedNone (step s (Grant t d)) b
  shared_none-grant shared_none' x f = grind (arith, nat_tests)

  pub shared_pre-grant : SharedPre s b → SharedPre (step s (Grant t d)) b
  shared_pre-grant shared_pre' x e f g i j l = grind (arith, nat_tests)

  pub shared_post-grant : SharedPost s b → SharedPost (step s (Grant t d)) b
  shared_post-grant shared_post' x e f g i j l = grind (arith, nat_tests)

  pub shared_mark-grant : SharedMark s b → SharedMark (step s (Grant t d)) b
  shared_mark-grant shared_mark' x e f g i j l = grind (arith, nat_tests)

  pub shared_saw-grant : SharedSaw s b → SharedSaw (step s (Grant t d)) b
  shared_saw-grant shared_saw' x e f g i j l m = grind (arith, nat_tests)

  pub too_late-grant : TooLate s b → BegunMoment s → TooLate (step s (Grant t d)) b
  too_late-grant too_late' begun_moment x e f g i j = grind (arith, nat_tests)

  pub local-grant : BegunMoment s → Local s b → Local (step s (Grant t d)) b
  local-grant begun_moment l = record {
    saw = saw-grant l.saw;
    holder_granted = holder_granted-grant l.holder_granted;
    early_granted = early_granted-grant l.early_granted;
    pre_seen = l.pre_seen;
    post_pre = l.post_pre;
    spost_seen = l.spost_seen;
    mark_seen = l.mark_seen;
    fixed_seen = l.fixed_seen;
    group_mark = l.group_mark;
    old_none = old_none-grant l.old_none;
    still_seen = still_seen-grant l.still_seen l.saw;
    still_fixed = still_fixed-grant l.still_fixed l.fixed_seen l.saw;
    still_pre = still_pre-grant l.still_pre l.pre_seen l.saw;
    still_did = still_did-grant l.still_did l.post_pre l.pre_seen l.spost_seen l.saw;
    carried_below = carried_below-grant l.carried_below;
    held_pre = held_pre-grant l.held_pre;
    held_post = held_post-grant l.held_post;
    held_mark = held_mark-grant l.held_mark;
    held_saw = held_saw-grant l.held_saw;
    shared_none = shared_none-grant l.shared_none;
    shared_pre = shared_pre-grant l.shared_pre;
    shared_post = shared_post-grant l.shared_post;
    shared_mark = shared_mark-grant l.shared_mark;
    shared_saw = shared_saw-grant l.shared_saw;
    shared_still = l.shared_still;
    strip_marked = l.strip_marked;
    strip_pre = l.strip_pre;
    strip_post = l.strip_post;
    strip_mark = l.strip_mark;
    kept = l.kept;
    kept_dirty = l.kept_dirty;
    past = l.past;
    apart = l.apart;
    passed = l.passed;
    post_order = l.post_order;
    low_dirty = l.low_dirty;
    low_version = l.low_version;
    no_more_pre = l.no_more_pre;
    no_more_post = l.no_more_post;
    too_late = too_late-grant l.too_late begun_moment;
    at_pre_is = l.at_pre_is;
    at_post_is = l.at_post_is;
    begun_post = l.begun_post;
    began_is = l.began_is;
    seen_began = l.seen_began;
    not_made = l.not_made;
    not_made_pre = l.not_made_pre;
    not_made_seen = l.not_made_seen;
    unborn_pre = l.unborn_pre;
    unborn_seen = l.unborn_seen;
    young_present = l.young_present;
    young_dirty = l.young_dirty;
    young_seen = l.young_seen;
    young_pre = l.young_pre;
    young_risen = l.young_risen;
  }

module _ (n k : ℕ) (s : State) (b : ℕ) (d : ℕ) (may : May n k s (Free d)) where
  pub holder_granted-free : HolderGranted s b → HolderGranted (step s (Free d)) b
  holder_granted-free holder_granted' a f = grind (arith, nat_tests)

  pub still_seen-free : StillSeen s b → StillSeen (step s (Free d)) b
  still_seen-free still_seen' a h f g i j l m o = grind (arith, nat_tests)

  pub still_fixed-free : StillFixed s b → StillFixed (step s (Free d)) b
  still_fixed-free still_fixed' a f g i j = grind (arith, nat_tests)

  pub still_pre-free : StillPre s b → StillPre (step s (Free d)) b
  still_pre-free still_pre' a f g i j = grind (arith, nat_tests)

  pub still_did-free : StillDid s b → StillDid (step s (Free d)) b
  still_did-free still_did' a c f g i = grind (arith, nat_tests)

  pub carried_below-free : CarriedBelow s b → CarriedBelow (step s (Free d)) b
  carried_below-free carried_below' x a e f g i j = grind (arith, nat_tests)

  pub held_pre-free : HeldPre s b → HeldPre (step s (Free d)) b
  held_pre-free held_pre' x e f g i j l = grind (arith, nat_tests)

  pub held_post-free : HeldPost s b → HeldPost (step s (Free d)) b
  held_post-free held_post' x e f g i j l = grind (arith, nat_tests)

  pub held_mark-free : HeldMark s b → HeldMark (step s (Free d)) b
  held_mark-free held_mark' x e f g i j l = grind (arith, nat_tests)

  pub held_saw-free : HeldSaw s b → HeldSaw (step s (Free d)) b
  held_saw-free held_saw' x e f g i j l = grind (arith, nat_tests)

  pub shared_none-free : SharedNone s b → SharedNone (step s (Free d)) b
  shared_none-free shared_none' x f = grind (arith, nat_tests)

  pub too_late-free : TooLate s b → TooLate (step s (Free d)) b
  too_late-free too_late' x e f g i j = grind (arith, nat_tests)

  pub local-free : Local s b → Local (step s (Free d)) b
  local-free l = record {
    saw = l.saw;
    holder_granted = holder_granted-free l.holder_granted;
    early_granted = l.early_granted;
    pre_seen = l.pre_seen;
    post_pre = l.post_pre;
    spost_seen = l.spost_seen;
    mark_seen = l.mark_seen;
    fixed_seen = l.fixed_seen;
    group_mark = l.group_mark;
    old_none = l.old_none;
    still_seen = still_seen-free l.still_seen;
    still_fixed = still_fixed-free l.still_fixed;
    still_pre = still_pre-free l.still_pre;
    still_did = still_did-free l.still_did;
    carried_below = carried_below-free l.carried_below;
    held_pre = held_pre-free l.held_pre;
    held_post = held_post-free l.held_post;
    held_mark = held_mark-free l.held_mark;
    held_saw = held_saw-free l.held_saw;
    shared_none = shared_none-free l.shared_none;
    shared_pre = l.shared_pre;
    shared_post = l.shared_post;
    shared_mark = l.shared_mark;
    shared_saw = l.shared_saw;
    shared_still = l.shared_still;
    strip_marked = l.strip_marked;
    strip_pre = l.strip_pre;
    strip_post = l.strip_post;
    strip_mark = l.strip_mark;
    kept = l.kept;
    kept_dirty = l.kept_dirty;
    past = l.past;
    apart = l.apart;
    passed = l.passed;
    post_order = l.post_order;
    low_dirty = l.low_dirty;
    low_version = l.low_version;
    no_more_pre = l.no_more_pre;
    no_more_post = l.no_more_post;
    too_late = too_late-free l.too_late;
    at_pre_is = l.at_pre_is;
    at_post_is = l.at_post_is;
    begun_post = l.begun_post;
    began_is = l.began_is;
    seen_began = l.seen_began;
    not_made = l.not_made;
    not_made_pre = l.not_made_pre;
    not_made_seen = l.not_made_seen;
    unborn_pre = l.unborn_pre;
    unborn_seen = l.unborn_seen;
    young_present = l.young_present;
    young_dirty = l.young_dirty;
    young_seen = l.young_seen;
    young_pre = l.young_pre;
    young_risen = l.young_risen;
  }

module _ (n k : ℕ) (s : State) (b : ℕ) (t d : ℕ) (may : May n k s (Share t d)) where
  pub saw-share : Saw s b → Saw (step s (Share t d)) b
  saw-share saw' a f = grind (arith, nat_tests)

  pub holder_granted-share : HolderGranted s b → HolderGranted (step s (Share t d)) b
  holder_granted-share holder_granted' a f = grind (arith, nat_tests)

  pub early_granted-share : EarlyGranted s b → EarlyGranted (step s (Share t d)) b
  early_granted-share early_granted' a f = grind (arith, nat_tests)

  pub old_none-share : OldNone s b → OldNone (step s (Share t d)) b
  old_none-share old_none' a f = grind (arith, nat_tests)

  pub held_pre-share : HeldPre s b → HeldPre (step s (Share t d)) b
  held_pre-share held_pre' x e f g i j l = grind (arith, nat_tests)

  pub held_post-share : HeldPost s b → HeldPost (step s (Share t d)) b
  held_post-share held_post' x e f g i j l = grind (arith, nat_tests)

  pub held_mark-share : HeldMark s b → HeldMark (step s (Share t d)) b
  held_mark-share held_mark' x e f g i j l = grind (arith, nat_tests)

  pub held_saw-share : HeldSaw s b → HeldSaw (step s (Share t d)) b
  held_saw-share held_saw' x e f g i j l = grind (arith, nat_tests)

  pub shared_none-share : SharedNone s b → SharedNone (step s (Share t d)) b
  shared_none-share shared_none' x f = grind (arith, nat_tests)

  pub shared_pre-share : SharedPre s b → SharedPre (step s (Share t d)) b
  shared_pre-share shared_pre' x e f g i j l = grind (arith, nat_tests)

  pub shared_post-share : SharedPost s b → SharedPost (step s (Share t d)) b
  shared_post-share shared_post' x e f g i j l = grind (arith, nat_tests)

  pub shared_mark-share : SharedMark s b → SharedMark (step s (Share t d)) b
  shared_mark-share shared_mark' x e f g i j l = grind (arith, nat_tests)

  pub shared_saw-share : SharedSaw s b → SharedSaw (step s (Share t d)) b
  shared_saw-share shared_saw' x e f g i j l m = grind (arith, nat_tests)

  pub shared_still-share : SharedStill s b → Saw s b → SharedStill (step s (Share t d)) b
  shared_still-share shared_still' saw' x h f g i j l = grind (arith, nat_tests)

  pub too_late-share : TooLate s b → TooLate (step s (Share t d)) b
  too_late-share too_late' x e f g i j = grind (arith, nat_tests)

  pub local-share : Local s b → Local (step s (Share t d)) b
  local-share l = record {
    saw = saw-share l.saw;
    holder_granted = holder_granted-share l.holder_granted;
    early_granted = early_granted-share l.early_granted;
    pre_seen = l.pre_seen;
    post_pre = l.post_pre;
    spost_seen = l.spost_seen;
    mark_seen = l.mark_seen;
    fixed_seen = l.fixed_seen;
    group_mark = l.group_mark;
    old_none = old_none-share l.old_none;
    still_seen = l.still_seen;
    still_fixed = l.still_fixed;
    still_pre = l.still_pre;
    still_did = l.still_did;
    carried_below = l.carried_below;
    held_pre = held_pre-share l.held_pre;
    held_post = held_post-share l.held_post;
    held_mark = held_mark-share l.held_mark;
    held_saw = held_saw-share l.held_saw;
    shared_none = shared_none-share l.shared_none;
    shared_pre = shared_pre-share l.shared_pre;
    shared_post = shared_post-share l.shared_post;
    shared_mark = shared_mark-share l.shared_mark;
    shared_saw = shared_saw-share l.shared_saw;
    shared_still = shared_still-share l.shared_still l.saw;
    strip_marked = l.strip_marked;
    strip_pre = l.strip_pre;
    strip_post = l.strip_post;
    strip_mark = l.strip_mark;
    kept = l.kept;
    kept_dirty = l.kept_dirty;
    past = l.past;
    apart = l.apart;
    passed = l.passed;
    post_order = l.post_order;
    low_dirty = l.low_dirty;
    low_version = l.low_version;
    no_more_pre = l.no_more_pre;
    no_more_post = l.no_more_post;
    too_late = too_late-share l.too_late;
    at_pre_is = l.at_pre_is;
    at_post_is = l.at_post_is;
    begun_post = l.begun_post;
    began_is = l.began_is;
    seen_began = l.seen_began;
    not_made = l.not_made;
    not_made_pre = l.not_made_pre;
    not_made_seen = l.not_made_seen;
    unborn_pre = l.unborn_pre;
    unborn_seen = l.unborn_seen;
    young_present = l.young_present;
    young_dirty = l.young_dirty;
    young_seen = l.young_seen;
    young_pre = l.young_pre;
    young_risen = l.young_risen;
  }

module _ (n k : ℕ) (s : State) (b : ℕ) (t d : ℕ) (may : May n k s (Unshare t d)) where
  pub shared_none-unshare : SharedNone s b → SharedNone (step s (Unshare t d)) b
  shared_none-unshare shared_none' x f = grind (arith, nat_tests)

  pub shared_pre-unshare : SharedPre s b → SharedPre (step s (Unshare t d)) b
  shared_pre-unshare shared_pre' x e f g i j l = grind (arith, nat_tests)

  pub shared_post-unshare : SharedPost s b → SharedPost (step s (Unshare t d)) b
  shared_post-unshare shared_post' x e f g i j l = grind (arith, nat_tests)

  pub shared_mark-unshare : SharedMark s b → SharedMark (step s (Unshare t d)) b
  shared_mark-unshare shared_mark' x e f g i j l = grind (arith, nat_tests)

  pub shared_saw-unshare : SharedSaw s b → SharedSaw (step s (Unshare t d)) b
  shared_saw-unshare shared_saw' x e f g i j l m = grind (arith, nat_tests)

  pub shared_still-unshare : SharedStill s b → SharedStill (step s (Unshare t d)) b
  shared_still-unshare shared_still' x h f g i j l = grind (arith, nat_tests)

  pub local-unshare : Local s b → Local (step s (Unshare t d)) b
  local-unshare l = record {
    saw = l.saw;
    holder_granted = l.holder_granted;
    early_granted = l.early_granted;
    pre_seen = l.pre_seen;
    post_pre = l.post_pre;
    spost_seen = l.spost_seen;
    mark_seen = l.mark_seen;
    fixed_seen = l.fixed_seen;
    group_mark = l.group_mark;
    old_none = l.old_none;
    still_seen = l.still_seen;
    still_fixed = l.still_fixed;
    still_pre = l.still_pre;
    still_did = l.still_did;
    carried_below = l.carried_below;
    held_pre = l.held_pre;
    held_post = l.held_post;
    held_mark = l.held_mark;
    held_saw = l.held_saw;
    shared_none = shared_none-unshare l.shared_none;
    shared_pre = shared_pre-unshare l.shared_pre;
    shared_post = shared_post-unshare l.shared_post;
    shared_mark = shared_mark-unshare l.shared_mark;
    shared_saw = shared_saw-unshare l.shared_saw;
    shared_still = shared_still-unshare l.shared_still;
    strip_marked = l.strip_marked;
    strip_pre = l.strip_pre;
    strip_post = l.strip_post;
    strip_mark = l.strip_mark;
    kept = l.kept;
    kept_dirty = l.kept_dirty;
    past = l.past;
    apart = l.apart;
    passed = l.passed;
    post_order = l.post_order;
    low_dirty = l.low_dirty;
    low_version = l.low_version;
    no_more_pre = l.no_more_pre;
    no_more_post = l.no_more_post;
    too_late = l.too_late;
    at_pre_is = l.at_pre_is;
    at_post_is = l.at_post_is;
    begun_post = l.begun_post;
    began_is = l.began_is;
    seen_began = l.seen_began;
    not_made = l.not_made;
    not_made_pre = l.not_made_pre;
    not_made_seen = l.not_made_seen;
    unborn_pre = l.unborn_pre;
    unborn_seen = l.unborn_seen;
    young_present = l.young_present;
    young_dirty = l.young_dirty;
    young_seen = l.young_seen;
    young_pre = l.young_pre;
    young_risen = l.young_risen;
  }

module _ (n k : ℕ) (s : State) (b : ℕ) (t u : ℕ) (may : May n k s (Keep t u)) where
  pub carried_below-keep : CarriedBelow s b → HolderGranted s b → CarriedBelow (step s (Keep t u)) b
  carried_below-keep carried_below' holder_granted' x a e f g i j = grind (arith, nat_tests)

  pub local-keep : Local s b → Local (step s (Keep t u)) b
  local-keep l = record {
    saw = l.saw;
    holder_granted = l.holder_granted;
    early_granted = l.early_granted;
    pre_seen = l.pre_seen;
    post_pre = l.post_pre;
    spost_seen = l.spost_seen;
    mark_seen = l.mark_seen;
    fixed_seen = l.fixed_seen;
    group_mark = l.group_mark;
    old_none = l.old_none;
    still_seen = l.still_seen;
    still_fixed = l.still_fixed;
    still_pre = l.still_pre;
    still_did = l.still_did;
    carried_below = carried_below-keep l.carried_below l.holder_granted;
    held_pre = l.held_pre;
    held_post = l.held_post;
    held_mark = l.held_mark;
    held_saw = l.held_saw;
    shared_none = l.shared_none;
    shared_pre = l.shared_pre;
    shared_post = l.shared_post;
    shared_mark = l.shared_mark;
    shared_saw = l.shared_saw;
    shared_still = l.shared_still;
    strip_marked = l.strip_marked;
    strip_pre = l.strip_pre;
    strip_post = l.strip_post;
    strip_mark = l.strip_mark;
    kept = l.kept;
    kept_dirty = l.kept_dirty;
    past = l.past;
    apart = l.apart;
    passed = l.passed;
    post_order = l.post_order;
    low_dirty = l.low_dirty;
    low_version = l.low_version;
    no_more_pre = l.no_more_pre;
    no_more_post = l.no_more_post;
    too_late = l.too_late;
    at_pre_is = l.at_pre_is;
    at_post_is = l.at_post_is;
    begun_post = l.begun_post;
    began_is = l.began_is;
    seen_began = l.seen_began;
    not_made = l.not_made;
    not_made_pre = l.not_made_pre;
    not_made_seen = l.not_made_seen;
    unborn_pre = l.unborn_pre;
    unborn_seen = l.unborn_seen;
    young_present = l.young_present;
    young_dirty = l.young_dirty;
    young_seen = l.young_seen;
    young_pre = l.young_pre;
    young_risen = l.young_risen;
  }

module _ (n k : ℕ) (s : State) (b : ℕ) (u t d : ℕ) (may : May n k s (Carry u t d)) where
  pub saw-carry : Saw s b → Saw (step s (Carry u t d)) b
  saw-carry saw' a f = grind (arith, nat_tests)

  pub holder_granted-carry : HolderGranted s b → HolderGranted (step s (Carry u t d)) b
  holder_granted-carry holder_granted' a f = grind (arith, nat_tests)

  pub early_granted-carry : EarlyGranted s b → EarlyGranted (step s (Carry u t d)) b
  early_granted-carry early_granted' a f = grind (arith, nat_tests)

  pub old_none-carry : OldNone s b → OldNone (step s (Carry u t d)) b
  old_none-carry old_none' a f = grind (arith, nat_tests)

  pub still_seen-carry : StillSeen s b → Saw s b → StillSeen (step s (Carry u t d)) b
  still_seen-carry still_seen' saw' a h f g i j l m o = grind (arith, nat_tests)

  pub still_fixed-carry : StillFixed s b → FixedSeen s b → Saw s b → StillFixed (step s (Carry u t d)) b
  still_fixed-carry still_fixed' fixed_seen' saw' a f g i j = grind (arith, nat_tests)

  pub still_pre-carry : StillPre s b → PreSeen s b → Saw s b → StillPre (step s (Carry u t d)) b
  still_pre-carry still_pre' pre_seen' saw' a f g i j = grind (arith, nat_tests)

  pub still_did-carry : StillDid s b → PostPre s b → PreSeen s b → SpostSeen s b → Saw s b → StillDid (step s (Carry u t d)) b
  still_did-carry still_did' post_pre' pre_seen' spost_seen' saw' a c f g i = grind (arith, nat_tests)

  pub carried_below-carry : CarriedBelow s b → StillDid s b → CarriedBelow (step s (Carry u t d)) b
  carried_below-carry carried_below' still_did' x a e f g i j = grind (arith, nat_tests)

  pub held_pre-carry : HeldPre s b → HeldPre (step s (Carry u t d)) b
  held_pre-carry held_pre' x e f g i j l = grind (arith, nat_tests)

  pub held_post-carry : HeldPost s b → HeldPost (step s (Carry u t d)) b
  held_post-carry held_post' x e f g i j l = grind (arith, nat_tests)

  pub held_mark-carry : HeldMark s b → HeldMark (step s (Carry u t d)) b
  held_mark-carry held_mark' x e f g i j l = grind (arith, nat_tests)

  pub held_saw-carry : HeldSaw s b → HeldSaw (step s (Carry u t d)) b
  held_saw-carry held_saw' x e f g i j l = grind (arith, nat_tests)

  pub shared_none-carry : SharedNone s b → SharedNone (step s (Carry u t d)) b
  shared_none-carry shared_none' x f = grind (arith, nat_tests)

  pub shared_pre-carry : SharedPre s b → SharedPre (step s (Carry u t d)) b
  shared_pre-carry shared_pre' x e f g i j l = grind (arith, nat_tests)

  pub shared_post-carry : SharedPost s b → SharedPost (step s (Carry u t d)) b
  shared_post-carry shared_post' x e f g i j l = grind (arith, nat_tests)

  pub shared_mark-carry : SharedMark s b → SharedMark (step s (Carry u t d)) b
  shared_mark-carry shared_mark' x e f g i j l = grind (arith, nat_tests)

  pub shared_saw-carry : SharedSaw s b → SharedSaw (step s (Carry u t d)) b
  shared_saw-carry shared_saw' x e f g i j l m = grind (arith, nat_tests)

  pub too_late-carry : TooLate s b → BegunMoment s → TooLate (step s (Carry u t d)) b
  too_late-carry too_late' begun_moment x e f g i j = grind (arith, nat_tests)

  pub local-carry : BegunMoment s → Local s b → Local (step s (Carry u t d)) b
  local-carry begun_moment l = record {
    saw = saw-carry l.saw;
    holder_granted = holder_granted-carry l.holder_granted;
    early_granted = early_granted-carry l.early_granted;
    pre_seen = l.pre_seen;
    post_pre = l.post_pre;
    spost_seen = l.spost_seen;
    mark_seen = l.mark_seen;
    fixed_seen = l.fixed_seen;
    group_mark = l.group_mark;
    old_none = old_none-carry l.old_none;
    still_seen = still_seen-carry l.still_seen l.saw;
    still_fixed = still_fixed-carry l.still_fixed l.fixed_seen l.saw;
    still_pre = still_pre-carry l.still_pre l.pre_seen l.saw;
    still_did = still_did-carry l.still_did l.post_pre l.pre_seen l.spost_seen l.saw;
    carried_below = carried_below-carry l.carried_below l.still_did;
    held_pre = held_pre-carry l.held_pre;
    held_post = held_post-carry l.held_post;
    held_mark = held_mark-carry l.held_mark;
    held_saw = held_saw-carry l.held_saw;
    shared_none = shared_none-carry l.shared_none;
    shared_pre = shared_pre-carry l.shared_pre;
    shared_post = shared_post-carry l.shared_post;
    shared_mark = shared_mark-carry l.shared_mark;
    shared_saw = shared_saw-carry l.shared_saw;
    shared_still = l.shared_still;
    strip_marked = l.strip_marked;
    strip_pre = l.strip_pre;
    strip_post = l.strip_post;
    strip_mark = l.strip_mark;
    kept = l.kept;
    kept_dirty = l.kept_dirty;
    past = l.past;
    apart = l.apart;
    passed = l.passed;
    post_order = l.post_order;
    low_dirty = l.low_dirty;
    low_version = l.low_version;
    no_more_pre = l.no_more_pre;
    no_more_post = l.no_more_post;
    too_late = too_late-carry l.too_late begun_moment;
    at_pre_is = l.at_pre_is;
    at_post_is = l.at_post_is;
    begun_post = l.begun_post;
    began_is = l.began_is;
    seen_began = l.seen_began;
    not_made = l.not_made;
    not_made_pre = l.not_made_pre;
    not_made_seen = l.not_made_seen;
    unborn_pre = l.unborn_pre;
    unborn_seen = l.unborn_seen;
    young_present = l.young_present;
    young_dirty = l.young_dirty;
    young_seen = l.young_seen;
    young_pre = l.young_pre;
    young_risen = l.young_risen;
  }
