-- Ballots that are chosen: each act keeps each clause at each brick. A clause that speaks of nothing that the act changes is handed on.
use Rattle.std.proofs.Common.{ℕ, arith}
use Rattle.std.proofs.lemmas.Bool.Decides.{nat_tests}
use Rattle.ec_law_base.specs.State.{State, Ballot}
use Rattle.ec_law_ballots.specs.Act.{step}
use Rattle.ec_law_ballots.specs.Act.Act.{Choose, Choose_kept}
use Rattle.ec_law_ballots.specs.Guard.{May}
use Rattle.ec_law_ballots.specs.Clauses.{PreSeen, PostPre, SpostSeen, MarkSeen, FixedSeen, GroupMark, StillFixed, StillPre, StillDid, CarriedBelow, Kept, KeptDirty, Past, Apart, Passed, PostOrder, LowDirty, LowVersion, AtPreIs, AtPostIs, YoungPre, YoungRisen, Local}
use Rattle.ec_law_ballots.specs.Facts.{CarriesNumber}

module _ (n k : ℕ) (s : State) (b : ℕ) (t : ℕ) (p : Ballot) (may : May n k s (Choose t p)) where
  pub pre_seen-choose : PreSeen s b → PreSeen (step s (Choose t p)) b
  pre_seen-choose pre_seen' a f = grind (arith, nat_tests)

  pub spost_seen-choose : SpostSeen s b → SpostSeen (step s (Choose t p)) b
  spost_seen-choose spost_seen' a f = grind (arith, nat_tests)

  pub mark_seen-choose : MarkSeen s b → MarkSeen (step s (Choose t p)) b
  mark_seen-choose mark_seen' a f = grind (arith, nat_tests)

  pub fixed_seen-choose : FixedSeen s b → FixedSeen (step s (Choose t p)) b
  fixed_seen-choose fixed_seen' a f = grind (arith, nat_tests)

  pub group_mark-choose : GroupMark s b → MarkSeen s b → GroupMark (step s (Choose t p)) b
  group_mark-choose group_mark' mark_seen' a f = grind (arith, nat_tests)

  pub still_fixed-choose : StillFixed s b → FixedSeen s b → StillFixed (step s (Choose t p)) b
  still_fixed-choose still_fixed' fixed_seen' a f g i j = grind (arith, nat_tests)

  pub still_pre-choose : StillPre s b → PreSeen s b → StillPre (step s (Choose t p)) b
  still_pre-choose still_pre' pre_seen' a f g i j = grind (arith, nat_tests)

  pub still_did-choose : StillDid s b → PostPre s b → PreSeen s b → SpostSeen s b → StillDid (step s (Choose t p)) b
  still_did-choose still_did' post_pre' pre_seen' spost_seen' a c f g i = grind (arith, nat_tests)

  pub carried_below-choose : CarriedBelow s b → PreSeen s b → CarriesNumber s → CarriedBelow (step s (Choose t p)) b
  carried_below-choose carried_below' pre_seen' carries_number x a e f g i j = grind (arith, nat_tests)

  pub kept-choose : Kept s b → PreSeen s b → Kept (step s (Choose t p)) b
  kept-choose kept' pre_seen' a f g = grind (arith, nat_tests)

  pub kept_dirty-choose : KeptDirty s b → PreSeen s b → KeptDirty (step s (Choose t p)) b
  kept_dirty-choose kept_dirty' pre_seen' a f g i j = grind (arith, nat_tests)

  pub past-choose : Past s b → PostPre s b → PreSeen s b → Past (step s (Choose t p)) b
  past-choose past' post_pre' pre_seen' a f g i = grind (arith, nat_tests)

  pub apart-choose : Apart s b → PreSeen s b → Apart (step s (Choose t p)) b
  apart-choose apart' pre_seen' a c f g i j l m = grind (arith, nat_tests)

  pub passed-choose : Passed s b → PostPre s b → PreSeen s b → Passed (step s (Choose t p)) b
  passed-choose passed' post_pre' pre_seen' a c f g i j l m o = grind (arith, nat_tests)

  pub post_order-choose : PostOrder s b → PreSeen s b → PostPre s b → PostOrder (step s (Choose t p)) b
  post_order-choose post_order' pre_seen' post_pre' a e f g i j = grind (arith, nat_tests)

  pub low_dirty-choose : LowDirty s b → AtPreIs s b → PreSeen s b → LowDirty (step s (Choose t p)) b
  low_dirty-choose low_dirty' at_pre_is' pre_seen' x e h f g i j l = grind (arith, nat_tests)

  pub low_version-choose : LowVersion s b → AtPostIs s b → PostPre s b → PreSeen s b → LowVersion (step s (Choose t p)) b
  low_version-choose low_version' at_post_is' post_pre' pre_seen' x e h f g i j = grind (arith, nat_tests)

  pub young_pre-choose : YoungPre s b → PreSeen s b → YoungPre (step s (Choose t p)) b
  young_pre-choose young_pre' pre_seen' a f g i = grind (arith, nat_tests)

  pub young_risen-choose : YoungRisen s b → PostPre s b → PreSeen s b → MarkSeen s b → YoungRisen (step s (Choose t p)) b
  young_risen-choose young_risen' post_pre' pre_seen' mark_seen' f = grind (arith, nat_tests)

  pub local-choose : CarriesNumber s → Local s b → Local (step s (Choose t p)) b
  local-choose carries_number l = record {
    saw = l.saw;
    holder_granted = l.holder_granted;
    early_granted = l.early_granted;
    pre_seen = pre_seen-choose l.pre_seen;
    post_pre = l.post_pre;
    spost_seen = spost_seen-choose l.spost_seen;
    mark_seen = mark_seen-choose l.mark_seen;
    fixed_seen = fixed_seen-choose l.fixed_seen;
    group_mark = group_mark-choose l.group_mark l.mark_seen;
    old_none = l.old_none;
    still_seen = l.still_seen;
    still_fixed = still_fixed-choose l.still_fixed l.fixed_seen;
    still_pre = still_pre-choose l.still_pre l.pre_seen;
    still_did = still_did-choose l.still_did l.post_pre l.pre_seen l.spost_seen;
    carried_below = carried_below-choose l.carried_below l.pre_seen carries_number;
    held_pre = l.held_pre;
    held_post = l.held_post;
    held_mark = l.held_mark;
    held_saw = l.held_saw;
    shared_none = l.shared_none;
    shared_pre = l.shared_pre;
    shared_post = l.shared_post;
    shared_mark = l.shared_mark;
    shared_saw = l.shared_saw;
    shared_still = l.shared_still;
    strip_marked = l.strip_marked;
    strip_pre = l.strip_pre;
    strip_post = l.strip_post;
    strip_mark = l.strip_mark;
    kept = kept-choose l.kept l.pre_seen;
    kept_dirty = kept_dirty-choose l.kept_dirty l.pre_seen;
    past = past-choose l.past l.post_pre l.pre_seen;
    apart = apart-choose l.apart l.pre_seen;
    passed = passed-choose l.passed l.post_pre l.pre_seen;
    post_order = post_order-choose l.post_order l.pre_seen l.post_pre;
    low_dirty = low_dirty-choose l.low_dirty l.at_pre_is l.pre_seen;
    low_version = low_version-choose l.low_version l.at_post_is l.post_pre l.pre_seen;
    no_more_pre = l.no_more_pre;
    no_more_post = l.no_more_post;
    too_late = l.too_late;
    at_pre_is = l.at_pre_is;
    at_post_is = l.at_post_is;
    begun_post = l.begun_post;
    began_is = l.began_is;
    seen_began = l.seen_began;
    not_made = l.not_made;
    not_made_pre = l.not_made_pre;
    not_made_seen = l.not_made_seen;
    unborn_pre = l.unborn_pre;
    unborn_seen = l.unborn_seen;
    young_present = l.young_present;
    young_dirty = l.young_dirty;
    young_seen = l.young_seen;
    young_pre = young_pre-choose l.young_pre l.pre_seen;
    young_risen = young_risen-choose l.young_risen l.post_pre l.pre_seen l.mark_seen;
  }

module _ (n k : ℕ) (s : State) (b : ℕ) (t u : ℕ) (p : Ballot) (may : May n k s (Choose_kept t u p)) where
  pub pre_seen-choose_kept : PreSeen s b → PreSeen (step s (Choose_kept t u p)) b
  pre_seen-choose_kept pre_seen' a f = grind (arith, nat_tests)

  pub spost_seen-choose_kept : SpostSeen s b → SpostSeen (step s (Choose_kept t u p)) b
  spost_seen-choose_kept spost_seen' a f = grind (arith, nat_tests)

  pub mark_seen-choose_kept : MarkSeen s b → MarkSeen (step s (Choose_kept t u p)) b
  mark_seen-choose_kept mark_seen' a f = grind (arith, nat_tests)

  pub fixed_seen-choose_kept : FixedSeen s b → FixedSeen (step s (Choose_kept t u p)) b
  fixed_seen-choose_kept fixed_seen' a f = grind (arith, nat_tests)

  pub group_mark-choose_kept : GroupMark s b → MarkSeen s b → GroupMark (step s (Choose_kept t u p)) b
  group_mark-choose_kept group_mark' mark_seen' a f = grind (arith, nat_tests)

  pub still_fixed-choose_kept : StillFixed s b → FixedSeen s b → StillFixed (step s (Choose_kept t u p)) b
  still_fixed-choose_kept still_fixed' fixed_seen' a f g i j = grind (arith, nat_tests)

  pub still_pre-choose_kept : StillPre s b → PreSeen s b → StillPre (step s (Choose_kept t u p)) b
  still_pre-choose_kept still_pre' pre_seen' a f g i j = grind (arith, nat_tests)

  pub still_did-choose_kept : StillDid s b → PostPre s b → PreSeen s b → SpostSeen s b → StillDid (step s (Choose_kept t u p)) b
  still_did-choose_kept still_did' post_pre' pre_seen' spost_seen' a c f g i = grind (arith, nat_tests)

  pub carried_below-choose_kept : CarriedBelow s b → PreSeen s b → CarriesNumber s → CarriedBelow (step s (Choose_kept t u p)) b
  carried_below-choose_kept carried_below' pre_seen' carries_number x a e f g i j = grind (arith, nat_tests)

  pub kept-choose_kept : Kept s b → PreSeen s b → Kept (step s (Choose_kept t u p)) b
  kept-choose_kept kept' pre_seen' a f g = grind (arith, nat_tests)

  pub kept_dirty-choose_kept : KeptDirty s b → PreSeen s b → KeptDirty (step s (Choose_kept t u p)) b
  kept_dirty-choose_kept kept_dirty' pre_seen' a f g i j = grind (arith, nat_tests)

  pub past-choose_kept : Past s b → PostPre s b → PreSeen s b → Past (step s (Choose_kept t u p)) b
  past-choose_kept past' post_pre' pre_seen' a f g i = grind (arith, nat_tests)

  pub apart-choose_kept : Apart s b → PreSeen s b → Apart (step s (Choose_kept t u p)) b
  apart-choose_kept apart' pre_seen' a c f g i j l m = grind (arith, nat_tests)

  pub passed-choose_kept : Passed s b → PostPre s b → PreSeen s b → Passed (step s (Choose_kept t u p)) b
  passed-choose_kept passed' post_pre' pre_seen' a c f g i j l m o = grind (arith, nat_tests)

  pub post_order-choose_kept : PostOrder s b → PreSeen s b → PostPre s b → PostOrder (step s (Choose_kept t u p)) b
  post_order-choose_kept post_order' pre_seen' post_pre' a e f g i j = grind (arith, nat_tests)

  pub low_dirty-choose_kept : LowDirty s b → AtPreIs s b → PreSeen s b → LowDirty (step s (Choose_kept t u p)) b
  low_dirty-choose_kept low_dirty' at_pre_is' pre_seen' x e h f g i j l = grind (arith, nat_tests)

  pub low_version-choose_kept : LowVersion s b → AtPostIs s b → PostPre s b → PreSeen s b → LowVersion (step s (Choose_kept t u p)) b
  low_version-choose_kept low_version' at_post_is' post_pre' pre_seen' x e h f g i j = grind (arith, nat_tests)

  pub young_pre-choose_kept : YoungPre s b → PreSeen s b → YoungPre (step s (Choose_kept t u p)) b
  young_pre-choose_kept young_pre' pre_seen' a f g i = grind (arith, nat_tests)

  pub young_risen-choose_kept : YoungRisen s b → PostPre s b → PreSeen s b → MarkSeen s b → YoungRisen (step s (Choose_kept t u p)) b
  young_risen-choose_kept young_risen' post_pre' pre_seen' mark_seen' f = grind (arith, nat_tests)

  pub local-choose_kept : CarriesNumber s → Local s b → Local (step s (Choose_kept t u p)) b
  local-choose_kept carries_number l = record {
    saw = l.saw;
    holder_granted = l.holder_granted;
    early_granted = l.early_granted;
    pre_seen = pre_seen-choose_kept l.pre_seen;
    post_pre = l.post_pre;
    spost_seen = spost_seen-choose_kept l.spost_seen;
    mark_seen = mark_seen-choose_kept l.mark_seen;
    fixed_seen = fixed_seen-choose_kept l.fixed_seen;
    group_mark = group_mark-choose_kept l.group_mark l.mark_seen;
    old_none = l.old_none;
    still_seen = l.still_seen;
    still_fixed = still_fixed-choose_kept l.still_fixed l.fixed_seen;
    still_pre = still_pre-choose_kept l.still_pre l.pre_seen;
    still_did = still_did-choose_kept l.still_did l.post_pre l.pre_seen l.spost_seen;
    carried_below = carried_below-choose_kept l.carried_below l.pre_seen carries_number;
    held_pre = l.held_pre;
    held_post = l.held_post;
    held_mark = l.held_mark;
    held_saw = l.held_saw;
    shared_none = l.shared_none;
    shared_pre = l.shared_pre;
    shared_post = l.shared_post;
    shared_mark = l.shared_mark;
    shared_saw = l.shared_saw;
    shared_still = l.shared_still;
    strip_marked = l.strip_marked;
    strip_pre = l.strip_pre;
    strip_post = l.strip_post;
    strip_mark = l.strip_mark;
    kept = kept-choose_kept l.kept l.pre_seen;
    kept_dirty = kept_dirty-choose_kept l.kept_dirty l.pre_seen;
    past = past-choose_kept l.past l.post_pre l.pre_seen;
    apart = apart-choose_kept l.apart l.pre_seen;
    passed = passed-choose_kept l.passed l.post_pre l.pre_seen;
    post_order = post_order-choose_kept l.post_order l.pre_seen l.post_pre;
    low_dirty = low_dirty-choose_kept l.low_dirty l.at_pre_is l.pre_seen;
    low_version = low_version-choose_kept l.low_version l.at_post_is l.post_pre l.pre_seen;
    no_more_pre = l.no_more_pre;
    no_more_post = l.no_more_post;
    too_late = l.too_late;
    at_pre_is = l.at_pre_is;
    at_post_is = l.at_post_is;
    begun_post = l.begun_post;
    began_is = l.began_is;
    seen_began = l.seen_began;
    not_made = l.not_made;
    not_made_pre = l.not_made_pre;
    not_made_seen = l.not_made_seen;
    unborn_pre = l.unborn_pre;
    unborn_seen = l.unborn_seen;
    young_present = l.young_present;
    young_dirty = l.young_dirty;
    young_seen = l.young_seen;
    young_pre = young_pre-choose_kept l.young_pre l.pre_seen;
    young_risen = young_risen-choose_kept l.young_risen l.post_pre l.pre_seen l.mark_seen;
  }
