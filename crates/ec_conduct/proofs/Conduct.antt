-- The laws of the conduct.
use Rattle.std.proofs.Common.{refl}
use Rattle.ec_attr.specs.Bricks.{BrickLaws, bricks_below, count_below}
use Rattle.ec_attr.specs.GoodGroup.{agree, greatest_below}
use Rattle.ec_conduct.specs.Laws.{ChangeLaws, ConductLaws, CreateLaws, ExampleLaws, GeneralLaws, GroupLaws, HealLaws, KeptLaws, LaterLaws, NoQuorumLaws, StepLaws, TruncateLaws, UnlinkLaws}
use Rattle.ec_conduct.specs.Opened.{opened}
use Rattle.ec_conduct.proofs.Creates.{create_keeps, other_child_refused, unclear_refused, unmade_refused, unnamed_refused}
use Rattle.ec_conduct.proofs.HealedNames.{names_allowed, other_names_refused, put_allowed, unput_refused}
use Rattle.ec_conduct.proofs.Later.{good_stripe_refused, named_refused, shared_refused}
use Rattle.ec_conduct.proofs.Heals.{copy_allowed, unread_copy_refused, early_all_refused, early_touch_refused, other_sinks_refused, stuck_refused, untold_all_refused, good_brick_refused, heal_keeps, late_mark_refused, moved_refused, second_followed, second_moved_refused, other_grant_refused, second_mark_refused, uncopied_refused, unhealed_refused, untrimmed_copy_refused, untrimmed_refused}
use Rattle.ec_conduct.proofs.Leaving.{other_stripe_refused, own_stripe_left, write_leaves, write_too_early}
use Rattle.ec_conduct.proofs.Unlinks.{other_call_refused, truncate_cut_first, truncate_cut_late, truncate_uncut, unlink_other_child, unlink_removes, unlink_unposted}
use Rattle.ec_conduct.proofs.OnKept.{kept_anew, kept_fits, kept_goes_on, kept_locked, kept_query}
use Rattle.ec_conduct.proofs.Fronts.{account_append, front_from, join_from, rest_from}
use Rattle.ec_conduct.proofs.Grants.{released, stands}
use Rattle.ec_conduct.proofs.Groups.{one_group, share, whole_group}
use Rattle.ec_conduct.proofs.Parts.{cached_allowed, part_allowed}
use Rattle.ec_conduct.proofs.Plain.{alone, late, other, renamed, silent}
use Rattle.ec_conduct.proofs.Refusals.{answered_allowed, faulted_refused, low_dirty_refused, other_dirty_refused, other_version_refused, partly_posted_refused, sink_allowed, sink_pre_allowed, sink_unclear_refused, sinks_no_quorum_refused, stale_refused, twice_refused, unfinished_refused, unlocked_refused, unmarked_pre_refused, unmarked_sink_refused, unposted_refused, unread_refused}
use Rattle.ec_conduct.proofs.NoQuorums.{begins_anew, sinks_uncounted, enough_alike, enough_done, few_done, not_asked}
use Rattle.ec_conduct.proofs.Steps.{no_sends_apart, step_account, step_keeps}
use Rattle.ec_conduct.proofs.Setattr.{setattr_keeps}
use Rattle.ec_conduct.proofs.Writes.{write_keeps}

general : BrickLaws → GeneralLaws
general bricks = record {
  front = λ given es fs k. front_from (opened given) es fs k;
  rest = λ given es fs k. rest_from (opened given) es fs k;
  whole = λ given es fs k l. join_from (opened given) es fs k l;
  parts = λ given es fs. account_append (opened given) es fs;
  stands = stands;
  released = released;
  alone = alone;
  renamed = renamed;
  silent = silent;
  late = late;
  other = other;
  share = share bricks;
  one_group = one_group bricks;
  whole_group = whole_group bricks;
}

groups : GroupLaws
unfolding bricks_below count_below agree greatest_below
groups = record { two = refl; third = refl; size = refl; version = refl; attr = refl; kind = refl; marked_ones = refl; dirty = refl; sink = refl; no_sink = refl }

changes : ChangeLaws
changes = record { stripes = (refl, refl, refl, refl); write = refl; short_write = refl; two_writes = refl; truncate = refl; tail_left = refl; border = refl; rename = refl; other_order = refl; old_directory = refl; new_directory = refl }

examples : ExampleLaws
examples = record {
  setattr = setattr_keeps;
  write = write_keeps;
  faulted = faulted_refused;
  partly_posted = partly_posted_refused;
  unposted = unposted_refused;
  answered = answered_allowed;
  unlocked = unlocked_refused;
  unfinished = unfinished_refused;
  other_dirty = other_dirty_refused;
  low_dirty = low_dirty_refused;
  sink = sink_allowed;
  unmarked_sink = unmarked_sink_refused;
  sink_unclear = sink_unclear_refused;
  sink_pre = sink_pre_allowed;
  unmarked_pre = unmarked_pre_refused;
  sinks_no_quorum = sinks_no_quorum_refused;
  twice = twice_refused;
  stale = stale_refused;
  other_version = other_version_refused;
  part = part_allowed;
  cached = cached_allowed;
  unread = unread_refused;
}

creates : CreateLaws
creates = record { create = create_keeps; other_child = other_child_refused; unnamed = unnamed_refused; unclear = unclear_refused; unmade = unmade_refused }

unlinks : UnlinkLaws
unlinks = record { unposted = unlink_unposted; removes = unlink_removes; other_child = unlink_other_child; other_call = other_call_refused }

truncates : TruncateLaws
truncates = record { uncut = truncate_uncut; cut_late = truncate_cut_late; cut_first = truncate_cut_first }

heals : HealLaws
heals = record {
  heal = heal_keeps;
  unhealed = unhealed_refused;
  second_mark = second_mark_refused;
  other_grant = other_grant_refused;
  good_brick = good_brick_refused;
  untrimmed_copy = untrimmed_copy_refused;
  untrimmed = untrimmed_refused;
  uncopied = uncopied_refused;
  other_version = moved_refused;
  late_mark = late_mark_refused;
  moved = second_moved_refused;
  followed = second_followed;
  copy = copy_allowed;
  unread_copy = unread_copy_refused;
  stuck = stuck_refused;
  early_all = early_all_refused;
  untold_all = untold_all_refused;
  other_sinks = other_sinks_refused;
  names = names_allowed;
  other_names = other_names_refused;
  unput = unput_refused;
  put = put_allowed;
  early_touch = early_touch_refused;
}

on_kept : KeptLaws
on_kept = record { fits = kept_fits; goes_on = kept_goes_on; anew = kept_anew; leaves = write_leaves; too_early = write_too_early; stripe = own_stripe_left; other_stripe = other_stripe_refused; still_kept = kept_locked; no_query = kept_query }

steps : StepLaws
steps = record { keeps = step_keeps; releases = refl; account_is = step_account; no_sends_apart = no_sends_apart }

no_quorum : NoQuorumLaws
no_quorum = record { few = few_done; enough = enough_done; sinks = sinks_uncounted; on_kept = begins_anew; alike = enough_alike; unasked = not_asked }

later : LaterLaws
later = record { good_stripe = good_stripe_refused; named = named_refused; shared = shared_refused }

pub laws : BrickLaws → ConductLaws
laws bricks = record { general = general bricks; groups = groups; changes = changes; examples = examples; creates = creates; unlinks = unlinks; truncates = truncates; heals = heals; kept = on_kept; steps = steps; no_quorum = no_quorum; later = later }
