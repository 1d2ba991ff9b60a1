-- Make, Made and Unmake, and bricks that stop or are replaced: each act keeps each clause at each brick. A clause that speaks of nothing that the act changes is handed on.
use Rattle.std.proofs.Common.{ℕ, arith}
use Rattle.std.proofs.lemmas.Bool.Decides.{nat_tests}
use Rattle.ec_law_base.specs.State.{State}
use Rattle.ec_law_ballots.specs.Act.{step}
use Rattle.ec_law_ballots.specs.Act.Act.{Maker_grant, Maker_free, Make, Made, Unmake, Stop, Replace}
use Rattle.ec_law_ballots.specs.Guard.{May}
use Rattle.ec_law_ballots.specs.Clauses.{HolderGranted, PostPre, FixedSeen, StillSeen, StillFixed, StillPre, StillDid, CarriedBelow, HeldPre, HeldPost, HeldMark, HeldSaw, SharedNone, SharedPre, SharedPost, SharedMark, SharedSaw, SharedStill, StripMarked, StripPre, StripPost, StripMark, Kept, KeptDirty, Past, TooLate, BeganIs, NotMade, NotMadePre, NotMadeSeen, UnbornPre, UnbornSeen, YoungPresent, YoungDirty, YoungSeen, YoungPre, YoungRisen, Local}

module _ (n k : ℕ) (s : State) (b : ℕ) (d : ℕ) (may : May n k s (Maker_grant d)) where
  pub unborn_pre-maker_grant : UnbornPre s b → NotMadePre s b → UnbornPre (step s (Maker_grant d)) b
  unborn_pre-maker_grant unborn_pre' not_made_pre' a f g i j = grind (arith, nat_tests)

  pub unborn_seen-maker_grant : UnbornSeen s b → NotMadeSeen s b → UnbornSeen (step s (Maker_grant d)) b
  unborn_seen-maker_grant unborn_seen' not_made_seen' a h f g i j l = grind (arith, nat_tests)

  pub young_present-maker_grant : YoungPresent s b → NotMade s b → YoungPresent (step s (Maker_grant d)) b
  young_present-maker_grant young_present' not_made' f = grind (arith, nat_tests)

  pub young_dirty-maker_grant : YoungDirty s b → NotMade s b → YoungDirty (step s (Maker_grant d)) b
  young_dirty-maker_grant young_dirty' not_made' f g i = grind (arith, nat_tests)

  pub young_seen-maker_grant : YoungSeen s b → NotMade s b → YoungSeen (step s (Maker_grant d)) b
  young_seen-maker_grant young_seen' not_made' a h f g i j l = grind (arith, nat_tests)

  pub young_pre-maker_grant : YoungPre s b → NotMade s b → YoungPre (step s (Maker_grant d)) b
  young_pre-maker_grant young_pre' not_made' a f g i = grind (arith, nat_tests)

  pub young_risen-maker_grant : YoungRisen s b → NotMade s b → YoungRisen (step s (Maker_grant d)) b
  young_risen-maker_grant young_risen' not_made' f = grind (arith, nat_tests)

  pub local-maker_grant : Local s b → Local (step s (Maker_grant d)) b
  local-maker_grant l = record {
    saw = l.saw;
    holder_granted = l.holder_granted;
    early_granted = l.early_granted;
    pre_seen = l.pre_seen;
    post_pre = l.post_pre;
    spost_seen = l.spost_seen;
    mark_seen = l.mark_seen;
    fixed_seen = l.fixed_seen;
    group_mark = l.group_mark;
    old_none = l.old_none;
    still_seen = l.still_seen;
    still_fixed = l.still_fixed;
    still_pre = l.still_pre;
    still_did = l.still_did;
    carried_below = l.carried_below;
    held_pre = l.held_pre;
    held_post = l.held_post;
    held_mark = l.held_mark;
    held_saw = l.held_saw;
    shared_none = l.shared_none;
    shared_pre = l.shared_pre;
    shared_post = l.shared_post;
    shared_mark = l.shared_mark;
    shared_saw = l.shared_saw;
    shared_still = l.shared_still;
    strip_marked = l.strip_marked;
    strip_pre = l.strip_pre;
    strip_post = l.strip_post;
    strip_mark = l.strip_mark;
    kept = l.kept;
    kept_dirty = l.kept_dirty;
    past = l.past;
    apart = l.apart;
    passed = l.passed;
    post_order = l.post_order;
    low_dirty = l.low_dirty;
    low_version = l.low_version;
    no_more_pre = l.no_more_pre;
    no_more_post = l.no_more_post;
    too_late = l.too_late;
    at_pre_is = l.at_pre_is;
    at_post_is = l.at_post_is;
    begun_post = l.begun_post;
    began_is = l.began_is;
    seen_began = l.seen_began;
    not_made = l.not_made;
    not_made_pre = l.not_made_pre;
    not_made_seen = l.not_made_seen;
    unborn_pre = unborn_pre-maker_grant l.unborn_pre l.not_made_pre;
    unborn_seen = unborn_seen-maker_grant l.unborn_seen l.not_made_seen;
    young_present = young_present-maker_grant l.young_present l.not_made;
    young_dirty = young_dirty-maker_grant l.young_dirty l.not_made;
    young_seen = young_seen-maker_grant l.young_seen l.not_made;
    young_pre = young_pre-maker_grant l.young_pre l.not_made;
    young_risen = young_risen-maker_grant l.young_risen l.not_made;
  }

module _ (n k : ℕ) (s : State) (b : ℕ) (d : ℕ) (may : May n k s (Maker_free d)) where
  pub unborn_pre-maker_free : UnbornPre s b → UnbornPre (step s (Maker_free d)) b
  unborn_pre-maker_free unborn_pre' a f g i j = grind (arith, nat_tests)

  pub unborn_seen-maker_free : UnbornSeen s b → UnbornSeen (step s (Maker_free d)) b
  unborn_seen-maker_free unborn_seen' a h f g i j l = grind (arith, nat_tests)

  pub young_present-maker_free : YoungPresent s b → YoungPresent (step s (Maker_free d)) b
  young_present-maker_free young_present' f = grind (arith, nat_tests)

  pub young_dirty-maker_free : YoungDirty s b → YoungDirty (step s (Maker_free d)) b
  young_dirty-maker_free young_dirty' f g i = grind (arith, nat_tests)

  pub young_seen-maker_free : YoungSeen s b → YoungSeen (step s (Maker_free d)) b
  young_seen-maker_free young_seen' a h f g i j l = grind (arith, nat_tests)

  pub young_pre-maker_free : YoungPre s b → YoungPre (step s (Maker_free d)) b
  young_pre-maker_free young_pre' a f g i = grind (arith, nat_tests)

  pub young_risen-maker_free : YoungRisen s b → YoungRisen (step s (Maker_free d)) b
  young_risen-maker_free young_risen' f = grind (arith, nat_tests)

  pub local-maker_free : Local s b → Local (step s (Maker_free d)) b
  local-maker_free l = record {
    saw = l.saw;
    holder_granted = l.holder_granted;
    early_granted = l.early_granted;
    pre_seen = l.pre_seen;
    post_pre = l.post_pre;
    spost_seen = l.spost_seen;
    mark_seen = l.mark_seen;
    fixed_seen = l.fixed_seen;
    group_mark = l.group_mark;
    old_none = l.old_none;
    still_seen = l.still_seen;
    still_fixed = l.still_fixed;
    still_pre = l.still_pre;
    still_did = l.still_did;
    carried_below = l.carried_below;
    held_pre = l.held_pre;
    held_post = l.held_post;
    held_mark = l.held_mark;
    held_saw = l.held_saw;
    shared_none = l.shared_none;
    shared_pre = l.shared_pre;
    shared_post = l.shared_post;
    shared_mark = l.shared_mark;
    shared_saw = l.shared_saw;
    shared_still = l.shared_still;
    strip_marked = l.strip_marked;
    strip_pre = l.strip_pre;
    strip_post = l.strip_post;
    strip_mark = l.strip_mark;
    kept = l.kept;
    kept_dirty = l.kept_dirty;
    past = l.past;
    apart = l.apart;
    passed = l.passed;
    post_order = l.post_order;
    low_dirty = l.low_dirty;
    low_version = l.low_version;
    no_more_pre = l.no_more_pre;
    no_more_post = l.no_more_post;
    too_late = l.too_late;
    at_pre_is = l.at_pre_is;
    at_post_is = l.at_post_is;
    begun_post = l.begun_post;
    began_is = l.began_is;
    seen_began = l.seen_began;
    not_made = l.not_made;
    not_made_pre = l.not_made_pre;
    not_made_seen = l.not_made_seen;
    unborn_pre = unborn_pre-maker_free l.unborn_pre;
    unborn_seen = unborn_seen-maker_free l.unborn_seen;
    young_present = young_present-maker_free l.young_present;
    young_dirty = young_dirty-maker_free l.young_dirty;
    young_seen = young_seen-maker_free l.young_seen;
    young_pre = young_pre-maker_free l.young_pre;
    young_risen = young_risen-maker_free l.young_risen;
  }

module _ (n k : ℕ) (s : State) (b : ℕ) (d : ℕ) (may : May n k s (Make d)) where
  pub still_seen-make : StillSeen s b → UnbornSeen s b → StillSeen (step s (Make d)) b
  still_seen-make still_seen' unborn_seen' a h f g i j l m o = grind (arith, nat_tests)

  pub still_fixed-make : StillFixed s b → UnbornPre s b → FixedSeen s b → StillFixed (step s (Make d)) b
  still_fixed-make still_fixed' unborn_pre' fixed_seen' a f g i j = grind (arith, nat_tests)

  pub still_pre-make : StillPre s b → UnbornPre s b → StillPre (step s (Make d)) b
  still_pre-make still_pre' unborn_pre' a f g i j = grind (arith, nat_tests)

  pub shared_still-make : SharedStill s b → UnbornSeen s b → SharedStill (step s (Make d)) b
  shared_still-make shared_still' unborn_seen' x h f g i j l = grind (arith, nat_tests)

  pub strip_marked-make : StripMarked s b → UnbornPre s b → StripMarked (step s (Make d)) b
  strip_marked-make strip_marked' unborn_pre' x f g i j = grind (arith, nat_tests)

  pub kept-make : Kept s b → UnbornPre s b → Kept (step s (Make d)) b
  kept-make kept' unborn_pre' a f g = grind (arith, nat_tests)

  pub kept_dirty-make : KeptDirty s b → UnbornPre s b → KeptDirty (step s (Make d)) b
  kept_dirty-make kept_dirty' unborn_pre' a f g i j = grind (arith, nat_tests)

  pub past-make : Past s b → PostPre s b → UnbornPre s b → Past (step s (Make d)) b
  past-make past' post_pre' unborn_pre' a f g i = grind (arith, nat_tests)

  pub began_is-make : BeganIs s b → BeganIs (step s (Make d)) b
  began_is-make began_is' f g = grind (arith, nat_tests)

  pub not_made-make : NotMade s b → NotMade (step s (Make d)) b
  not_made-make not_made' f = grind (arith, nat_tests)

  pub not_made_pre-make : NotMadePre s b → NotMadePre (step s (Make d)) b
  not_made_pre-make not_made_pre' a f = grind (arith, nat_tests)

  pub not_made_seen-make : NotMadeSeen s b → NotMadeSeen (step s (Make d)) b
  not_made_seen-make not_made_seen' a h f g = grind (arith, nat_tests)

  pub unborn_pre-make : UnbornPre s b → UnbornPre (step s (Make d)) b
  unborn_pre-make unborn_pre' a f g i j = grind (arith, nat_tests)

  pub unborn_seen-make : UnbornSeen s b → UnbornSeen (step s (Make d)) b
  unborn_seen-make unborn_seen' a h f g i j l = grind (arith, nat_tests)

  pub young_present-make : YoungPresent s b → YoungPresent (step s (Make d)) b
  young_present-make young_present' f = grind (arith, nat_tests)

  pub young_dirty-make : YoungDirty s b → YoungDirty (step s (Make d)) b
  young_dirty-make young_dirty' f g i = grind (arith, nat_tests)

  pub young_seen-make : YoungSeen s b → UnbornSeen s b → YoungSeen (step s (Make d)) b
  young_seen-make young_seen' unborn_seen' a h f g i j l = grind (arith, nat_tests)

  pub young_pre-make : YoungPre s b → UnbornPre s b → YoungPre (step s (Make d)) b
  young_pre-make young_pre' unborn_pre' a f g i = grind (arith, nat_tests)

  pub young_risen-make : YoungRisen s b → YoungRisen (step s (Make d)) b
  young_risen-make young_risen' f = grind (arith, nat_tests)

  pub local-make : Local s b → Local (step s (Make d)) b
  local-make l = record {
    saw = l.saw;
    holder_granted = l.holder_granted;
    early_granted = l.early_granted;
    pre_seen = l.pre_seen;
    post_pre = l.post_pre;
    spost_seen = l.spost_seen;
    mark_seen = l.mark_seen;
    fixed_seen = l.fixed_seen;
    group_mark = l.group_mark;
    old_none = l.old_none;
    still_seen = still_seen-make l.still_seen l.unborn_seen;
    still_fixed = still_fixed-make l.still_fixed l.unborn_pre l.fixed_seen;
    still_pre = still_pre-make l.still_pre l.unborn_pre;
    still_did = l.still_did;
    carried_below = l.carried_below;
    held_pre = l.held_pre;
    held_post = l.held_post;
    held_mark = l.held_mark;
    held_saw = l.held_saw;
    shared_none = l.shared_none;
    shared_pre = l.shared_pre;
    shared_post = l.shared_post;
    shared_mark = l.shared_mark;
    shared_saw = l.shared_saw;
    shared_still = shared_still-make l.shared_still l.unborn_seen;
    strip_marked = strip_marked-make l.strip_marked l.unborn_pre;
    strip_pre = l.strip_pre;
    strip_post = l.strip_post;
    strip_mark = l.strip_mark;
    kept = kept-make l.kept l.unborn_pre;
    kept_dirty = kept_dirty-make l.kept_dirty l.unborn_pre;
    past = past-make l.past l.post_pre l.unborn_pre;
    apart = l.apart;
    passed = l.passed;
    post_order = l.post_order;
    low_dirty = l.low_dirty;
    low_version = l.low_version;
    no_more_pre = l.no_more_pre;
    no_more_post = l.no_more_post;
    too_late = l.too_late;
    at_pre_is = l.at_pre_is;
    at_post_is = l.at_post_is;
    begun_post = l.begun_post;
    began_is = began_is-make l.began_is;
    seen_began = l.seen_began;
    not_made = not_made-make l.not_made;
    not_made_pre = not_made_pre-make l.not_made_pre;
    not_made_seen = not_made_seen-make l.not_made_seen;
    unborn_pre = unborn_pre-make l.unborn_pre;
    unborn_seen = unborn_seen-make l.unborn_seen;
    young_present = young_present-make l.young_present;
    young_dirty = young_dirty-make l.young_dirty;
    young_seen = young_seen-make l.young_seen l.unborn_seen;
    young_pre = young_pre-make l.young_pre l.unborn_pre;
    young_risen = young_risen-make l.young_risen;
  }

module _ (n k : ℕ) (s : State) (b : ℕ) (d : ℕ) (may : May n k s (Made d)) where
  pub still_seen-made : StillSeen s b → StillSeen (step s (Made d)) b
  still_seen-made still_seen' a h f g i j l m o = grind (arith, nat_tests)

  pub still_fixed-made : StillFixed s b → StillFixed (step s (Made d)) b
  still_fixed-made still_fixed' a f g i j = grind (arith, nat_tests)

  pub still_pre-made : StillPre s b → StillPre (step s (Made d)) b
  still_pre-made still_pre' a f g i j = grind (arith, nat_tests)

  pub kept_dirty-made : KeptDirty s b → YoungPre s b → KeptDirty (step s (Made d)) b
  kept_dirty-made kept_dirty' young_pre' a f g i j = grind (arith, nat_tests)

  pub young_present-made : YoungPresent s b → YoungPresent (step s (Made d)) b
  young_present-made young_present' f = grind (arith, nat_tests)

  pub young_dirty-made : YoungDirty s b → YoungDirty (step s (Made d)) b
  young_dirty-made young_dirty' f g i = grind (arith, nat_tests)

  pub young_seen-made : YoungSeen s b → YoungSeen (step s (Made d)) b
  young_seen-made young_seen' a h f g i j l = grind (arith, nat_tests)

  pub young_pre-made : YoungPre s b → YoungPre (step s (Made d)) b
  young_pre-made young_pre' a f g i = grind (arith, nat_tests)

  pub young_risen-made : YoungRisen s b → YoungRisen (step s (Made d)) b
  young_risen-made young_risen' f = grind (arith, nat_tests)

  pub local-made : Local s b → Local (step s (Made d)) b
  local-made l = record {
    saw = l.saw;
    holder_granted = l.holder_granted;
    early_granted = l.early_granted;
    pre_seen = l.pre_seen;
    post_pre = l.post_pre;
    spost_seen = l.spost_seen;
    mark_seen = l.mark_seen;
    fixed_seen = l.fixed_seen;
    group_mark = l.group_mark;
    old_none = l.old_none;
    still_seen = still_seen-made l.still_seen;
    still_fixed = still_fixed-made l.still_fixed;
    still_pre = still_pre-made l.still_pre;
    still_did = l.still_did;
    carried_below = l.carried_below;
    held_pre = l.held_pre;
    held_post = l.held_post;
    held_mark = l.held_mark;
    held_saw = l.held_saw;
    shared_none = l.shared_none;
    shared_pre = l.shared_pre;
    shared_post = l.shared_post;
    shared_mark = l.shared_mark;
    shared_saw = l.shared_saw;
    shared_still = l.shared_still;
    strip_marked = l.strip_marked;
    strip_pre = l.strip_pre;
    strip_post = l.strip_post;
    strip_mark = l.strip_mark;
    kept = l.kept;
    kept_dirty = kept_dirty-made l.kept_dirty l.young_pre;
    past = l.past;
    apart = l.apart;
    passed = l.passed;
    post_order = l.post_order;
    low_dirty = l.low_dirty;
    low_version = l.low_version;
    no_more_pre = l.no_more_pre;
    no_more_post = l.no_more_post;
    too_late = l.too_late;
    at_pre_is = l.at_pre_is;
    at_post_is = l.at_post_is;
    begun_post = l.begun_post;
    began_is = l.began_is;
    seen_began = l.seen_began;
    not_made = l.not_made;
    not_made_pre = l.not_made_pre;
    not_made_seen = l.not_made_seen;
    unborn_pre = l.unborn_pre;
    unborn_seen = l.unborn_seen;
    young_present = young_present-made l.young_present;
    young_dirty = young_dirty-made l.young_dirty;
    young_seen = young_seen-made l.young_seen;
    young_pre = young_pre-made l.young_pre;
    young_risen = young_risen-made l.young_risen;
  }

module _ (n k : ℕ) (s : State) (b : ℕ) (d : ℕ) (may : May n k s (Unmake d)) where
  pub still_seen-unmake : StillSeen s b → StillSeen (step s (Unmake d)) b
  still_seen-unmake still_seen' a h f g i j l m o = grind (arith, nat_tests)

  pub still_fixed-unmake : StillFixed s b → StillFixed (step s (Unmake d)) b
  still_fixed-unmake still_fixed' a f g i j = grind (arith, nat_tests)

  pub still_pre-unmake : StillPre s b → StillPre (step s (Unmake d)) b
  still_pre-unmake still_pre' a f g i j = grind (arith, nat_tests)

  pub shared_still-unmake : SharedStill s b → SharedStill (step s (Unmake d)) b
  shared_still-unmake shared_still' x h f g i j l = grind (arith, nat_tests)

  pub strip_marked-unmake : StripMarked s b → StripMarked (step s (Unmake d)) b
  strip_marked-unmake strip_marked' x f g i j = grind (arith, nat_tests)

  pub kept-unmake : Kept s b → Kept (step s (Unmake d)) b
  kept-unmake kept' a f g = grind (arith, nat_tests)

  pub kept_dirty-unmake : KeptDirty s b → KeptDirty (step s (Unmake d)) b
  kept_dirty-unmake kept_dirty' a f g i j = grind (arith, nat_tests)

  pub past-unmake : Past s b → Past (step s (Unmake d)) b
  past-unmake past' a f g i = grind (arith, nat_tests)

  pub began_is-unmake : BeganIs s b → BeganIs (step s (Unmake d)) b
  began_is-unmake began_is' f g = grind (arith, nat_tests)

  pub not_made-unmake : NotMade s b → NotMade (step s (Unmake d)) b
  not_made-unmake not_made' f = grind (arith, nat_tests)

  pub unborn_pre-unmake : UnbornPre s b → UnbornPre (step s (Unmake d)) b
  unborn_pre-unmake unborn_pre' a f g i j = grind (arith, nat_tests)

  pub unborn_seen-unmake : UnbornSeen s b → UnbornSeen (step s (Unmake d)) b
  unborn_seen-unmake unborn_seen' a h f g i j l = grind (arith, nat_tests)

  pub young_present-unmake : YoungPresent s b → YoungPresent (step s (Unmake d)) b
  young_present-unmake young_present' f = grind (arith, nat_tests)

  pub young_dirty-unmake : YoungDirty s b → YoungDirty (step s (Unmake d)) b
  young_dirty-unmake young_dirty' f g i = grind (arith, nat_tests)

  pub young_seen-unmake : YoungSeen s b → YoungSeen (step s (Unmake d)) b
  young_seen-unmake young_seen' a h f g i j l = grind (arith, nat_tests)

  pub young_pre-unmake : YoungPre s b → YoungPre (step s (Unmake d)) b
  young_pre-unmake young_pre' a f g i = grind (arith, nat_tests)

  pub young_risen-unmake : YoungRisen s b → YoungRisen (step s (Unmake d)) b
  young_risen-unmake young_risen' f = grind (arith, nat_tests)

  pub local-unmake : Local s b → Local (step s (Unmake d)) b
  local-unmake l = record {
    saw = l.saw;
    holder_granted = l.holder_granted;
    early_granted = l.early_granted;
    pre_seen = l.pre_seen;
    post_pre = l.post_pre;
    spost_seen = l.spost_seen;
    mark_seen = l.mark_seen;
    fixed_seen = l.fixed_seen;
    group_mark = l.group_mark;
    old_none = l.old_none;
    still_seen = still_seen-unmake l.still_seen;
    still_fixed = still_fixed-unmake l.still_fixed;
    still_pre = still_pre-unmake l.still_pre;
    still_did = l.still_did;
    carried_below = l.carried_below;
    held_pre = l.held_pre;
    held_post = l.held_post;
    held_mark = l.held_mark;
    held_saw = l.held_saw;
    shared_none = l.shared_none;
    shared_pre = l.shared_pre;
    shared_post = l.shared_post;
    shared_mark = l.shared_mark;
    shared_saw = l.shared_saw;
    shared_still = shared_still-unmake l.shared_still;
    strip_marked = strip_marked-unmake l.strip_marked;
    strip_pre = l.strip_pre;
    strip_post = l.strip_post;
    strip_mark = l.strip_mark;
    kept = kept-unmake l.kept;
    kept_dirty = kept_dirty-unmake l.kept_dirty;
    past = past-unmake l.past;
    apart = l.apart;
    passed = l.passed;
    post_order = l.post_order;
    low_dirty = l.low_dirty;
    low_version = l.low_version;
    no_more_pre = l.no_more_pre;
    no_more_post = l.no_more_post;
    too_late = l.too_late;
    at_pre_is = l.at_pre_is;
    at_post_is = l.at_post_is;
    begun_post = l.begun_post;
    began_is = began_is-unmake l.began_is;
    seen_began = l.seen_began;
    not_made = not_made-unmake l.not_made;
    not_made_pre = l.not_made_pre;
    not_made_seen = l.not_made_seen;
    unborn_pre = unborn_pre-unmake l.unborn_pre;
    unborn_seen = unborn_seen-unmake l.unborn_seen;
    young_present = young_present-unmake l.young_present;
    young_dirty = young_dirty-unmake l.young_dirty;
    young_seen = young_seen-unmake l.young_seen;
    young_pre = young_pre-unmake l.young_pre;
    young_risen = young_risen-unmake l.young_risen;
  }

module _ (n k : ℕ) (s : State) (b : ℕ) (d : ℕ) (may : May n k s (Stop d)) where
  pub holder_granted-stop : HolderGranted s b → HolderGranted (step s (Stop d)) b
  holder_granted-stop holder_granted' a f = grind (arith, nat_tests)

  pub still_seen-stop : StillSeen s b → StillSeen (step s (Stop d)) b
  still_seen-stop still_seen' a h f g i j l m o = grind (arith, nat_tests)

  pub still_fixed-stop : StillFixed s b → StillFixed (step s (Stop d)) b
  still_fixed-stop still_fixed' a f g i j = grind (arith, nat_tests)

  pub still_pre-stop : StillPre s b → StillPre (step s (Stop d)) b
  still_pre-stop still_pre' a f g i j = grind (arith, nat_tests)

  pub still_did-stop : StillDid s b → StillDid (step s (Stop d)) b
  still_did-stop still_did' a c f g i = grind (arith, nat_tests)

  pub carried_below-stop : CarriedBelow s b → CarriedBelow (step s (Stop d)) b
  carried_below-stop carried_below' x a e f g i j = grind (arith, nat_tests)

  pub held_pre-stop : HeldPre s b → HeldPre (step s (Stop d)) b
  held_pre-stop held_pre' x e f g i j l = grind (arith, nat_tests)

  pub held_post-stop : HeldPost s b → HeldPost (step s (Stop d)) b
  held_post-stop held_post' x e f g i j l = grind (arith, nat_tests)

  pub held_mark-stop : HeldMark s b → HeldMark (step s (Stop d)) b
  held_mark-stop held_mark' x e f g i j l = grind (arith, nat_tests)

  pub held_saw-stop : HeldSaw s b → HeldSaw (step s (Stop d)) b
  held_saw-stop held_saw' x e f g i j l = grind (arith, nat_tests)

  pub shared_none-stop : SharedNone s b → SharedNone (step s (Stop d)) b
  shared_none-stop shared_none' x f = grind (arith, nat_tests)

  pub shared_pre-stop : SharedPre s b → SharedPre (step s (Stop d)) b
  shared_pre-stop shared_pre' x e f g i j l = grind (arith, nat_tests)

  pub shared_post-stop : SharedPost s b → SharedPost (step s (Stop d)) b
  shared_post-stop shared_post' x e f g i j l = grind (arith, nat_tests)

  pub shared_mark-stop : SharedMark s b → SharedMark (step s (Stop d)) b
  shared_mark-stop shared_mark' x e f g i j l = grind (arith, nat_tests)

  pub shared_saw-stop : SharedSaw s b → SharedSaw (step s (Stop d)) b
  shared_saw-stop shared_saw' x e f g i j l m = grind (arith, nat_tests)

  pub shared_still-stop : SharedStill s b → SharedStill (step s (Stop d)) b
  shared_still-stop shared_still' x h f g i j l = grind (arith, nat_tests)

  pub strip_marked-stop : StripMarked s b → StripMarked (step s (Stop d)) b
  strip_marked-stop strip_marked' x f g i j = grind (arith, nat_tests)

  pub strip_pre-stop : StripPre s b → StripPre (step s (Stop d)) b
  strip_pre-stop strip_pre' x e f g i j l = grind (arith, nat_tests)

  pub strip_post-stop : StripPost s b → StripPost (step s (Stop d)) b
  strip_post-stop strip_post' x e f g i j l = grind (arith, nat_tests)

  pub strip_mark-stop : StripMark s b → StripMark (step s (Stop d)) b
  strip_mark-stop strip_mark' x e f g i j l = grind (arith, nat_tests)

  pub too_late-stop : TooLate s b → TooLate (step s (Stop d)) b
  too_late-stop too_late' x e f g i j = grind (arith, nat_tests)

  pub unborn_pre-stop : UnbornPre s b → UnbornPre (step s (Stop d)) b
  unborn_pre-stop unborn_pre' a f g i j = grind (arith, nat_tests)

  pub unborn_seen-stop : UnbornSeen s b → UnbornSeen (step s (Stop d)) b
  unborn_seen-stop unborn_seen' a h f g i j l = grind (arith, nat_tests)

  pub young_present-stop : YoungPresent s b → YoungPresent (step s (Stop d)) b
  young_present-stop young_present' f = grind (arith, nat_tests)

  pub young_dirty-stop : YoungDirty s b → YoungDirty (step s (Stop d)) b
  young_dirty-stop young_dirty' f g i = grind (arith, nat_tests)

  pub young_seen-stop : YoungSeen s b → YoungSeen (step s (Stop d)) b
  young_seen-stop young_seen' a h f g i j l = grind (arith, nat_tests)

  pub young_pre-stop : YoungPre s b → YoungPre (step s (Stop d)) b
  young_pre-stop young_pre' a f g i = grind (arith, nat_tests)

  pub young_risen-stop : YoungRisen s b → YoungRisen (step s (Stop d)) b
  young_risen-stop young_risen' f = grind (arith, nat_tests)

  pub local-stop : Local s b → Local (step s (Stop d)) b
  local-stop l = record {
    saw = l.saw;
    holder_granted = holder_granted-stop l.holder_granted;
    early_granted = l.early_granted;
    pre_seen = l.pre_seen;
    post_pre = l.post_pre;
    spost_seen = l.spost_seen;
    mark_seen = l.mark_seen;
    fixed_seen = l.fixed_seen;
    group_mark = l.group_mark;
    old_none = l.old_none;
    still_seen = still_seen-stop l.still_seen;
    still_fixed = still_fixed-stop l.still_fixed;
    still_pre = still_pre-stop l.still_pre;
    still_did = still_did-stop l.still_did;
    carried_below = carried_below-stop l.carried_below;
    held_pre = held_pre-stop l.held_pre;
    held_post = held_post-stop l.held_post;
    held_mark = held_mark-stop l.held_mark;
    held_saw = held_saw-stop l.held_saw;
    shared_none = shared_none-stop l.shared_none;
    shared_pre = shared_pre-stop l.shared_pre;
    shared_post = shared_post-stop l.shared_post;
    shared_mark = shared_mark-stop l.shared_mark;
    shared_saw = shared_saw-stop l.shared_saw;
    shared_still = shared_still-stop l.shared_still;
    strip_marked = strip_marked-stop l.strip_marked;
    strip_pre = strip_pre-stop l.strip_pre;
    strip_post = strip_post-stop l.strip_post;
    strip_mark = strip_mark-stop l.strip_mark;
    kept = l.kept;
    kept_dirty = l.kept_dirty;
    past = l.past;
    apart = l.apart;
    passed = l.passed;
    post_order = l.post_order;
    low_dirty = l.low_dirty;
    low_version = l.low_version;
    no_more_pre = l.no_more_pre;
    no_more_post = l.no_more_post;
    too_late = too_late-stop l.too_late;
    at_pre_is = l.at_pre_is;
    at_post_is = l.at_post_is;
    begun_post = l.begun_post;
    began_is = l.began_is;
    seen_began = l.seen_began;
    not_made = l.not_made;
    not_made_pre = l.not_made_pre;
    not_made_seen = l.not_made_seen;
    unborn_pre = unborn_pre-stop l.unborn_pre;
    unborn_seen = unborn_seen-stop l.unborn_seen;
    young_present = young_present-stop l.young_present;
    young_dirty = young_dirty-stop l.young_dirty;
    young_seen = young_seen-stop l.young_seen;
    young_pre = young_pre-stop l.young_pre;
    young_risen = young_risen-stop l.young_risen;
  }

module _ (n k : ℕ) (s : State) (b : ℕ) (d : ℕ) (may : May n k s (Replace d)) where
  pub still_seen-replace : StillSeen s b → StillSeen (step s (Replace d)) b
  still_seen-replace still_seen' a h f g i j l m o = grind (arith, nat_tests)

  pub still_fixed-replace : StillFixed s b → StillFixed (step s (Replace d)) b
  still_fixed-replace still_fixed' a f g i j = grind (arith, nat_tests)

  pub still_pre-replace : StillPre s b → StillPre (step s (Replace d)) b
  still_pre-replace still_pre' a f g i j = grind (arith, nat_tests)

  pub shared_still-replace : SharedStill s b → SharedStill (step s (Replace d)) b
  shared_still-replace shared_still' x h f g i j l = grind (arith, nat_tests)

  pub strip_marked-replace : StripMarked s b → StripMarked (step s (Replace d)) b
  strip_marked-replace strip_marked' x f g i j = grind (arith, nat_tests)

  pub kept-replace : Kept s b → Kept (step s (Replace d)) b
  kept-replace kept' a f g = grind (arith, nat_tests)

  pub kept_dirty-replace : KeptDirty s b → KeptDirty (step s (Replace d)) b
  kept_dirty-replace kept_dirty' a f g i j = grind (arith, nat_tests)

  pub past-replace : Past s b → Past (step s (Replace d)) b
  past-replace past' a f g i = grind (arith, nat_tests)

  pub began_is-replace : BeganIs s b → BeganIs (step s (Replace d)) b
  began_is-replace began_is' f g = grind (arith, nat_tests)

  pub not_made-replace : NotMade s b → NotMade (step s (Replace d)) b
  not_made-replace not_made' f = grind (arith, nat_tests)

  pub unborn_pre-replace : UnbornPre s b → UnbornPre (step s (Replace d)) b
  unborn_pre-replace unborn_pre' a f g i j = grind (arith, nat_tests)

  pub unborn_seen-replace : UnbornSeen s b → UnbornSeen (step s (Replace d)) b
  unborn_seen-replace unborn_seen' a h f g i j l = grind (arith, nat_tests)

  pub young_present-replace : YoungPresent s b → YoungPresent (step s (Replace d)) b
  young_present-replace young_present' f = grind (arith, nat_tests)

  pub local-replace : Local s b → Local (step s (Replace d)) b
  local-replace l = record {
    saw = l.saw;
    holder_granted = l.holder_granted;
    early_granted = l.early_granted;
    pre_seen = l.pre_seen;
    post_pre = l.post_pre;
    spost_seen = l.spost_seen;
    mark_seen = l.mark_seen;
    fixed_seen = l.fixed_seen;
    group_mark = l.group_mark;
    old_none = l.old_none;
    still_seen = still_seen-replace l.still_seen;
    still_fixed = still_fixed-replace l.still_fixed;
    still_pre = still_pre-replace l.still_pre;
    still_did = l.still_did;
    carried_below = l.carried_below;
    held_pre = l.held_pre;
    held_post = l.held_post;
    held_mark = l.held_mark;
    held_saw = l.held_saw;
    shared_none = l.shared_none;
    shared_pre = l.shared_pre;
    shared_post = l.shared_post;
    shared_mark = l.shared_mark;
    shared_saw = l.shared_saw;
    shared_still = shared_still-replace l.shared_still;
    strip_marked = strip_marked-replace l.strip_marked;
    strip_pre = l.strip_pre;
    strip_post = l.strip_post;
    strip_mark = l.strip_mark;
    kept = kept-replace l.kept;
    kept_dirty = kept_dirty-replace l.kept_dirty;
    past = past-replace l.past;
    apart = l.apart;
    passed = l.passed;
    post_order = l.post_order;
    low_dirty = l.low_dirty;
    low_version = l.low_version;
    no_more_pre = l.no_more_pre;
    no_more_post = l.no_more_post;
    too_late = l.too_late;
    at_pre_is = l.at_pre_is;
    at_post_is = l.at_post_is;
    begun_post = l.begun_post;
    began_is = began_is-replace l.began_is;
    seen_began = l.seen_began;
    not_made = not_made-replace l.not_made;
    not_made_pre = l.not_made_pre;
    not_made_seen = l.not_made_seen;
    unborn_pre = unborn_pre-replace l.unborn_pre;
    unborn_seen = unborn_seen-replace l.unborn_seen;
    young_present = young_present-replace l.young_present;
    young_dirty = l.young_dirty;
    young_seen = l.young_seen;
    young_pre = l.young_pre;
    young_risen = l.young_risen;
  }
