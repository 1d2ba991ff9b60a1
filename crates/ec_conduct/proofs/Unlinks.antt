-- Histories of an unlink and of a truncate.
use Rattle.std.proofs.Common.{◌≡◌, ℕ, ◌<◌, ◌&&◌, true, refl, sym, subst, lit≤, None}
use Rattle.std.specs.List.{list_any}
use Rattle.ec_attr.specs.Bricks.{bricks_below, count_below}
use Rattle.ec_attr.specs.GoodGroup.{agree, greatest_below}
use Rattle.ec_attr.specs.declared.head.Head.{Head}
use Rattle.ec_wire.specs.declared.op.Op.{Op}
use Rattle.ec_wire.specs.declared.op.Op.TheVariants.{Create, Truncate, Unlink}
use Rattle.ec_wire.specs.declared.request.Request.TheVariants.{PostOp, Unmake}
use Rattle.ec_conduct.specs.Account.{Account, at}
use Rattle.ec_conduct.specs.Ballots.{DidWhole}
use Rattle.ec_conduct.specs.Children.{leads_to}
use Rattle.ec_conduct.specs.Conduct.{MaySend}
use Rattle.ec_conduct.specs.Done.{is_name}
use Rattle.ec_conduct.specs.Examples.{begun, begun_truncate, cut_truncate, directory, file, full_file, half_unlink, name_f, posted_unlink}
use Rattle.ec_conduct.specs.Opened.{account}
use Rattle.ec_conduct.proofs.Examples.{each, free}
use Rattle.ec_conduct.proofs.Refusals.{differ, no_quorum, some_head}

abbrev unlink_op : Op
unlink_op = Unlink directory name_f

pub unlink_unposted : MaySend (account (begun unlink_op) half_unlink) 0 (Unmake directory 1 (record { 0 = 9 })) → ⊥
unfolding bricks_below count_below agree greatest_below
unlink_unposted m = let q = m.1.posted in no_quorum _ q.which q.enough q.each (each _ (λ r. differ r.1) (λ r. differ r.1) (λ r. differ r.1))

pub unlink_removes : MaySend (account (begun unlink_op) posted_unlink) 0 (Unmake directory 1 (record { 0 = 9 }))
unfolding bricks_below count_below agree greatest_below
unlink_removes = (free _ _ _ (refl, lit≤ tt, refl, refl), record { op = refl; grant_held = refl; posted = record { which = λ x. true; enough = lit≤ tt; each = each _ (λ e. (refl, refl)) (λ e. (refl, refl)) (λ e. (refl, refl)) }; found = (0, lit≤ tt, refl) })

-- no brick answered that the name leads to gfid 8
abbrev IsNot : ℕ → Type 0
IsNot x = list_any (λ e. is_name e.request && leads_to 8 e.reply) (at (account (begun unlink_op) posted_unlink) 1 x).window ≡ true → ⊥

not_found : (x : ℕ) → x < 3 → IsNot x
not_found = each IsNot (λ e. differ e) (λ e. differ e) (λ e. differ e)

pub unlink_other_child : MaySend (account (begun unlink_op) posted_unlink) 0 (Unmake directory 1 (record { 0 = 8 })) → ⊥
unlink_other_child m = not_found m.1.found.0 m.1.found.1 m.1.found.2

abbrev cut_op : Op
cut_op = Truncate file 0

-- the truncate is whole at a brick by the group's head
whole_by : (c : Account) (x : ℕ) (head : Head) → full_file ≡ head → DidWhole c 2 head x → DidWhole c 2 full_file x
whole_by c x head e w = subst (λ (h : Head). DidWhole c 2 h x) (sym e) w

pub truncate_uncut : MaySend (account (begun cut_op) begun_truncate) 0 (PostOp file 1 1 3 0 None) → ⊥
unfolding bricks_below count_below agree greatest_below
truncate_uncut m = differ (whole_by (account (begun cut_op) begun_truncate) 0 m.1.head (some_head full_file m.1.head m.1.group) m.1.whole).all.1

pub truncate_cut_late : MaySend (account (begun cut_op) (cut_truncate 1)) 0 (PostOp file 1 1 3 0 None) → ⊥
unfolding bricks_below count_below agree greatest_below
truncate_cut_late m = differ (whole_by (account (begun cut_op) (cut_truncate 1)) 0 m.1.head (some_head full_file m.1.head m.1.group) m.1.whole).all.1

pub truncate_cut_first : MaySend (account (begun cut_op) (cut_truncate 0)) 0 (PostOp file 1 1 3 0 None)
unfolding bricks_below count_below agree greatest_below
truncate_cut_first = (free _ _ _ (refl, lit≤ tt, refl, refl), record { grant_held = refl; head = full_file; group = refl; whole = record { done = refl; all = (refl, refl) }; quorum = record { which = λ x. true; enough = lit≤ tt; each = each _ (λ e. (refl, record { done = refl; all = (refl, refl) })) (λ e. (refl, record { done = refl; all = (refl, refl) })) (λ e. (refl, record { done = refl; all = (refl, refl) })) }; dirty = 2; pre = refl; version = refl; size_is = refl; attr_is = refl })

pub other_call_refused : MaySend (account (begun (Create directory name_f)) posted_unlink) 0 (Unmake directory 1 (record { 0 = 9 })) → ⊥
other_call_refused m = differ m.1.op
