-- The history of a create.
use Rattle.std.proofs.Common.{◌≡◌, inl, inr, true, refl, lit≤, arith, List, ◌++◌, Some, None}
use Rattle.ec_attr.specs.Bricks.{bricks_below, count_below}
use Rattle.ec_attr.specs.GoodGroup.{agree, greatest_below}
use Rattle.ec_attr.specs.declared.kind.Kind.TheVariants.{File}
use Rattle.ec_wire.specs.declared.answer.Answer.TheVariants.{Child as ChildOf}
use Rattle.ec_wire.specs.declared.op.Op.{Op}
use Rattle.ec_wire.specs.declared.op.Op.TheVariants.{Create}
use Rattle.ec_wire.specs.declared.reply.Reply.TheVariants.{Child as ChildIs, Done, Head as HeadIs}
use Rattle.ec_wire.specs.declared.request.Request.TheVariants.{Clear, Made, Make, NameGet, NameSet, PostOp, PreOp, Query}
use Rattle.ec_conduct.specs.Account.{Account, account_from}
use Rattle.ec_conduct.specs.Conduct.{Keeps, KeepsFrom, MaySend}
use Rattle.ec_conduct.specs.Examples.{answered, begun, clears, directory, grant_at, half_create, locks, name_f, new_child, new_directory, post_ops, pre_ops, queries, releases, round, unmade_create, whole_create}
use Rattle.ec_conduct.specs.Opened.{account, opened}
use Rattle.ec_conduct.specs.Own.{Own}
use Rattle.ec_conduct.proofs.Examples.{each, free, running}
use Rattle.ec_conduct.proofs.Fronts.{join_from, round_keeps}
use Rattle.ec_conduct.proofs.Refusals.{differ}

abbrev make_op : Op
make_op = Create directory name_f

abbrev dir_locked : Account
dir_locked = account_from (opened (begun make_op)) (locks directory 1)

abbrev dir_queried : Account
dir_queried = account_from dir_locked (queries directory new_directory 7)

abbrev asked : List Own
asked = round 13 (λ b. NameGet directory (grant_at b) name_f) (ChildIs None)

abbrev dir_named : Account
dir_named = account_from dir_queried asked

abbrev dir_begun : Account
dir_begun = account_from dir_named (pre_ops directory 0 1 19)

abbrev made_records : List Own
made_records = round 25 (λ b. Make directory (grant_at b) new_child) Done

abbrev dir_made : Account
dir_made = account_from dir_begun made_records

abbrev set_names : List Own
set_names = round 31 (λ b. NameSet directory (grant_at b) name_f (Some new_child)) Done

abbrev dir_entered : Account
dir_entered = account_from dir_made set_names

abbrev dir_posted : Account
dir_posted = account_from dir_entered (post_ops directory 0 1 0 None 37)

abbrev dir_clean : Account
dir_clean = account_from dir_posted (clears directory 1 43)

abbrev cleared : List Own
cleared = round 49 (λ b. Made directory (grant_at b) new_child.gfid) Done

abbrev dir_done : Account
dir_done = account_from dir_clean cleared

dir_locks : KeepsFrom (opened (begun make_op)) (locks directory 1)
dir_locks = (
  (free _ _ _ (refl, lit≤ tt, refl, refl), record { once = refl; window = inl refl; healed = inl (refl, each _ refl refl refl) }),
  (
    tt,
    (
      (free _ _ _ (refl, lit≤ tt, refl, refl), record { once = refl; window = inl refl; healed = inl (refl, each _ refl refl refl) }),
      (
        tt,
        ((free _ _ _ (refl, lit≤ tt, refl, refl), record { once = refl; window = inl refl; healed = inl (refl, each _ refl refl refl) }), (tt, tt)),
      ),
    ),
  ),
)

dir_queries : KeepsFrom dir_locked (queries directory new_directory 7)
unfolding bricks_below count_below agree greatest_below
dir_queries = round_keeps dir_locked 7 (λ b. Query directory (grant_at b)) (HeadIs new_directory)
    (free _ _ _ (refl, lit≤ tt, refl, refl), record { grant_held = refl; asked = each _ refl refl refl; together = inl refl })
    (free _ _ _ (refl, lit≤ tt, refl, refl), record { grant_held = refl; asked = each _ refl refl refl; together = inr refl })
    (free _ _ _ (refl, lit≤ tt, refl, refl), record { grant_held = refl; asked = each _ refl refl refl; together = inr refl })

dir_names : KeepsFrom dir_queried asked
unfolding bricks_below count_below agree greatest_below
dir_names = round_keeps dir_queried 13 (λ b. NameGet directory (grant_at b) name_f) (ChildIs None)
    (free _ _ _ (refl, lit≤ tt, refl, refl), refl)
    (free _ _ _ (refl, lit≤ tt, refl, refl), refl)
    (free _ _ _ (refl, lit≤ tt, refl, refl), refl)

dir_pre_ops : KeepsFrom dir_named (pre_ops directory 0 1 19)
unfolding bricks_below count_below agree greatest_below
dir_pre_ops = round_keeps dir_named 19 (λ b. PreOp directory (grant_at b) 0 1) Done
    (free _ _ _ (refl, lit≤ tt, refl, refl), record { grant_held = refl; idle = each _ refl refl refl; once = refl; head = new_directory; group = refl; version_is = inl (refl, refl); above = lit≤ tt; limit = omega arith; one = inl refl })
    (free _ _ _ (refl, lit≤ tt, refl, refl), record { grant_held = refl; idle = each _ refl refl refl; once = refl; head = new_directory; group = refl; version_is = inl (refl, refl); above = lit≤ tt; limit = omega arith; one = inr refl })
    (free _ _ _ (refl, lit≤ tt, refl, refl), record { grant_held = refl; idle = each _ refl refl refl; once = refl; head = new_directory; group = refl; version_is = inl (refl, refl); above = lit≤ tt; limit = omega arith; one = inr refl })

dir_makes : KeepsFrom dir_begun made_records
unfolding bricks_below count_below agree greatest_below
dir_makes = round_keeps dir_begun 25 (λ b. Make directory (grant_at b) new_child) Done
    (free _ _ _ (refl, lit≤ tt, refl, refl), record { change = record { grant_held = refl; ready = refl }; op = refl; child_is = refl })
    (free _ _ _ (refl, lit≤ tt, refl, refl), record { change = record { grant_held = refl; ready = refl }; op = refl; child_is = refl })
    (free _ _ _ (refl, lit≤ tt, refl, refl), record { change = record { grant_held = refl; ready = refl }; op = refl; child_is = refl })

dir_entries : KeepsFrom dir_made set_names
unfolding bricks_below count_below agree greatest_below
dir_entries = round_keeps dir_made 31 (λ b. NameSet directory (grant_at b) name_f (Some new_child)) Done
    (free _ _ _ (refl, lit≤ tt, refl, refl), record { change = record { grant_held = refl; ready = refl }; op = refl; anew = tt })
    (free _ _ _ (refl, lit≤ tt, refl, refl), record { change = record { grant_held = refl; ready = refl }; op = refl; anew = tt })
    (free _ _ _ (refl, lit≤ tt, refl, refl), record { change = record { grant_held = refl; ready = refl }; op = refl; anew = tt })

dir_post_ops : KeepsFrom dir_entered (post_ops directory 0 1 0 None 37)
unfolding bricks_below count_below agree greatest_below
dir_post_ops = round_keeps dir_entered 37 (λ b. PostOp directory (grant_at b) 0 1 0 None) Done
    (free _ _ _ (refl, lit≤ tt, refl, refl), record { grant_held = refl; head = new_directory; group = refl; whole = record { done = refl; all = (refl, refl) }; quorum = record { which = λ x. true; enough = lit≤ tt; each = each _ (λ e. (refl, record { done = refl; all = (refl, refl) })) (λ e. (refl, record { done = refl; all = (refl, refl) })) (λ e. (refl, record { done = refl; all = (refl, refl) })) }; dirty = 1; pre = refl; version = refl; size_is = refl; attr_is = refl })
    (free _ _ _ (refl, lit≤ tt, refl, refl), record { grant_held = refl; head = new_directory; group = refl; whole = record { done = refl; all = (refl, refl) }; quorum = record { which = λ x. true; enough = lit≤ tt; each = each _ (λ e. (refl, record { done = refl; all = (refl, refl) })) (λ e. (refl, record { done = refl; all = (refl, refl) })) (λ e. (refl, record { done = refl; all = (refl, refl) })) }; dirty = 1; pre = refl; version = refl; size_is = refl; attr_is = refl })
    (free _ _ _ (refl, lit≤ tt, refl, refl), record { grant_held = refl; head = new_directory; group = refl; whole = record { done = refl; all = (refl, refl) }; quorum = record { which = λ x. true; enough = lit≤ tt; each = each _ (λ e. (refl, record { done = refl; all = (refl, refl) })) (λ e. (refl, record { done = refl; all = (refl, refl) })) (λ e. (refl, record { done = refl; all = (refl, refl) })) }; dirty = 1; pre = refl; version = refl; size_is = refl; attr_is = refl })

dir_clears : KeepsFrom dir_posted (clears directory 1 43)
unfolding bricks_below count_below agree greatest_below
dir_clears = round_keeps dir_posted 43 (λ b. Clear directory (grant_at b) 1) Done
    (free _ _ _ (refl, lit≤ tt, refl, refl), record { grant_held = refl; unmarked = refl; posted = each _ refl refl refl })
    (free _ _ _ (refl, lit≤ tt, refl, refl), record { grant_held = refl; unmarked = refl; posted = each _ refl refl refl })
    (free _ _ _ (refl, lit≤ tt, refl, refl), record { grant_held = refl; unmarked = refl; posted = each _ refl refl refl })

dir_mades : KeepsFrom dir_clean cleared
unfolding bricks_below count_below agree greatest_below
dir_mades = round_keeps dir_clean 49 (λ b. Made directory (grant_at b) new_child.gfid) Done
    (free _ _ _ (refl, lit≤ tt, refl, refl), record { grant_held = refl; once = refl; child_is = refl; all = each _ (refl, refl) (refl, refl) (refl, refl) })
    (free _ _ _ (refl, lit≤ tt, refl, refl), record { grant_held = refl; once = refl; child_is = refl; all = each _ (refl, refl) (refl, refl) (refl, refl) })
    (free _ _ _ (refl, lit≤ tt, refl, refl), record { grant_held = refl; once = refl; child_is = refl; all = each _ (refl, refl) (refl, refl) (refl, refl) })

dir_ends : KeepsFrom dir_done (releases directory 55 ++ answered (ChildOf new_child))
unfolding bricks_below count_below agree greatest_below
dir_ends = (
  (running _ _ (refl, lit≤ tt), record { asked = refl; idle = each _ refl refl refl }),
  (
    (running _ _ (refl, lit≤ tt), record { asked = refl; idle = each _ refl refl refl }),
    (
      (running _ _ (refl, lit≤ tt), record { asked = refl; idle = each _ refl refl refl }),
      ((refl, record { which = λ x. true; enough = lit≤ tt; each = each _ (λ e. (refl, refl)) (λ e. (refl, refl)) (λ e. (refl, refl)) }), tt),
    ),
  ),
)

pub create_keeps : Keeps (begun make_op) whole_create
create_keeps =
    let ends = releases directory 55 ++ answered (ChildOf new_child) in
    let mades = cleared ++ ends in
    let clear = clears directory 1 43 ++ mades in
    let post = post_ops directory 0 1 0 None 37 ++ clear in
    let entry = set_names ++ post in
    let make = made_records ++ entry in
    let pre = pre_ops directory 0 1 19 ++ make in
    let name = asked ++ pre in
    let query = queries directory new_directory 7 ++ name in
    join_from (opened (begun make_op)) (locks directory 1) query dir_locks
    (join_from dir_locked (queries directory new_directory 7) name dir_queries
    (join_from dir_queried asked pre dir_names
    (join_from dir_named (pre_ops directory 0 1 19) make dir_pre_ops
    (join_from dir_begun made_records entry dir_makes
    (join_from dir_made set_names post dir_entries
    (join_from dir_entered (post_ops directory 0 1 0 None 37) clear dir_post_ops
    (join_from dir_posted (clears directory 1 43) mades dir_clears
    (join_from dir_clean cleared ends dir_mades dir_ends))))))))

pub other_child_refused : MaySend (account (begun make_op) half_create) 0 (Make directory 1 (record { kind = File; gfid = record { 0 = 8 } })) → ⊥
other_child_refused m = let e : 8 ≡ 9 = m.1.child_is in absurd (omega (arith, e))

pub unnamed_refused : MaySend (account (begun make_op) half_create) 0 (PostOp directory 1 0 1 0 None) → ⊥
unfolding bricks_below count_below agree greatest_below
unnamed_refused m = differ m.1.whole.all.1

pub unclear_refused : MaySend (account (begun make_op) half_create) 0 (Made directory 1 new_child.gfid) → ⊥
unclear_refused m = differ (m.1.all 0 (lit≤ tt)).1

pub unmade_refused : MaySend (account (begun make_op) unmade_create) 2 (NameSet directory 5 name_f (Some new_child)) → ⊥
unmade_refused m = differ m.1.change.ready
