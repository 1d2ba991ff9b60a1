-- The history of a heal.
use Rattle.std.proofs.Common.{◌≡◌, inl, inr, ℕ, ◌<◌, ◌==◌, not, true, false, refl, sym, ap, ◌∙◌, subst, lit≤, arith, List, [], ◌∷◌, ◌++◌, Some, None}
use Rattle.ec_attr.specs.Bricks.{bricks_below, count_below}
use Rattle.ec_attr.specs.GoodGroup.{agree, greatest_below}
use Rattle.ec_attr.specs.Marks.{marked}
use Rattle.ec_attr.specs.declared.head.Head.{Head}
use Rattle.ec_attr.specs.declared.kind.Domain.TheVariants.{Inode}
use Rattle.ec_attr.specs.declared.kind.LockKind.TheVariants.{Exclusive}
use Rattle.ec_wire.specs.declared.answer.Answer.TheVariants.{Healed}
use Rattle.ec_wire.specs.declared.op.Op.{Op}
use Rattle.ec_wire.specs.declared.op.Op.TheVariants.{Heal}
use Rattle.ec_wire.specs.declared.reply.Reply.TheVariants.{Done, Head as HeadIs, NoInode}
use Rattle.ec_wire.specs.declared.request.Request.TheVariants.{Ask, Clear, Mark, PostOp, PreOp, Release, SetLength, Unmark, WriteChunks}
use Rattle.ec_conduct.specs.Account.{Account, Lock, account_from}
use Rattle.ec_conduct.specs.Conduct.{Keeps, KeepsFrom, MayAnswer, MaySend}
use Rattle.ec_conduct.specs.Copies.{IsCopied}
use Rattle.ec_conduct.specs.Examples.{IsOneStripe, answered, begun, begun_heal, behind_heal, file, full_file, heal_locks, later_file, locks, marked_head, marked_heal, newer_file, read_heal, round, second_window, sink_queries, touched_heal, trimmed_heal, two_heal_locks, unmarked_heal, whole_heal, window_grant}
use Rattle.ec_conduct.specs.Opened.{account, opened}
use Rattle.ec_conduct.specs.Own.{Own, Sends, Hears}
use Rattle.ec_conduct.proofs.Examples.{each, free, running}
use Rattle.ec_conduct.proofs.Fronts.{join_from, round_keeps}
use Rattle.ec_conduct.proofs.Parts.{only}
use Rattle.ec_conduct.proofs.Refusals.{differ, no_item, no_quorum, some_head}

abbrev heal_op : Op
heal_op = Heal file

abbrev heal_locked : Account
heal_locked = account_from (opened (begun heal_op)) heal_locks

abbrev content_locked : Account
content_locked = account_from heal_locked (locks file 7)

abbrev sink_queried : Account
sink_queried = account_from content_locked (sink_queries later_file)

abbrev mark : List Own
mark = Sends 2 19 (Mark file 11 5 (marked_head later_file)) ∷ Hears 2 19 Done ∷ []

abbrev sink_marked : Account
sink_marked = account_from sink_queried mark

abbrev trim : List Own
trim = Sends 2 21 (SetLength file 5 0 0) ∷ Hears 2 21 Done ∷ []

abbrev sink_trimmed : Account
sink_trimmed = account_from sink_marked trim

abbrev unmark : List Own
unmark = Sends 2 23 (Unmark file 5 4611686018427387905 1) ∷ Hears 2 23 Done ∷ []

abbrev sink_unmarked : Account
sink_unmarked = account_from sink_trimmed unmark

abbrev touch : List Own
touch = round 25 (λ b. PreOp file (window_grant b) 1 2) Done

abbrev touched : Account
touched = account_from sink_unmarked touch

abbrev posts : List Own
posts = round 31 (λ b. PostOp file (window_grant b) 1 3 0 None) Done

abbrev touch_posted : Account
touch_posted = account_from touched posts

abbrev clean_up : List Own
clean_up = round 37 (λ b. Clear file (window_grant b) 3) Done

abbrev touch_clean : Account
touch_clean = account_from touch_posted clean_up

heal_locks_keep : KeepsFrom (opened (begun heal_op)) heal_locks
heal_locks_keep = (
  (free _ _ _ (refl, lit≤ tt, refl, refl), record { heals = refl; once = (refl, refl); first = each _ refl refl refl }),
  (
    tt,
    (
      (free _ _ _ (refl, lit≤ tt, refl, refl), record { heals = refl; once = (refl, refl); first = each _ refl refl refl }),
      (
        tt,
        ((free _ _ _ (refl, lit≤ tt, refl, refl), record { heals = refl; once = (refl, refl); first = each _ refl refl refl }), (tt, tt)),
      ),
    ),
  ),
)

content_locks_keep : KeepsFrom heal_locked (locks file 7)
content_locks_keep = (
  (free _ _ _ (refl, lit≤ tt, refl, refl), record { once = refl; window = inl refl; healed = inr refl }),
  (
    tt,
    (
      (free _ _ _ (refl, lit≤ tt, refl, refl), record { once = refl; window = inl refl; healed = inr refl }),
      (
        tt,
        ((free _ _ _ (refl, lit≤ tt, refl, refl), record { once = refl; window = inl refl; healed = inr refl }), (tt, tt)),
      ),
    ),
  ),
)

sink_queries_keep : KeepsFrom content_locked (sink_queries later_file)
unfolding bricks_below count_below agree greatest_below
sink_queries_keep = (
  (free _ _ _ (refl, lit≤ tt, refl, refl), record { grant_held = refl; asked = each _ refl refl refl; together = inl refl }),
  (
    (free _ _ _ (refl, lit≤ tt, refl, refl), record { grant_held = refl; asked = each _ refl refl refl; together = inr refl }),
    ((free _ _ _ (refl, lit≤ tt, refl, refl), record { grant_held = refl; asked = each _ refl refl refl; together = inr refl }), (tt, (tt, (tt, tt)))),
  ),
)

mark_keeps : KeepsFrom sink_queried mark
unfolding bricks_below count_below agree greatest_below
mark_keeps = ((free _ _ _ (refl, lit≤ tt, refl, refl), record { grant_held = refl; heal_held = refl; answered = each _ refl refl refl; first = each _ refl refl refl; once = refl; sink = refl; group = refl }), (tt, tt))

trim_keeps : KeepsFrom sink_marked trim
unfolding bricks_below count_below agree greatest_below
trim_keeps = ((free _ _ _ (refl, lit≤ tt, refl, refl), inr (record { rebuild = record { heal_held = refl; locked = refl; answered = each _ refl refl refl; marked = refl }; once = refl; size = 0; of_mark = refl; keep_is = refl; length_is = refl })), (tt, tt))

no_stripes : (P : ℕ → Type 0) (s : ℕ) → s < 0 → P s
no_stripes P s l = absurd (omega arith)

unmark_keeps : KeepsFrom sink_trimmed unmark
unfolding bricks_below count_below agree greatest_below
unmark_keeps = ((free _ _ _ (refl, lit≤ tt, refl, refl), record { rebuild = record { heal_held = refl; locked = refl; answered = each _ refl refl refl; marked = refl }; once = refl; head = later_file; group = refl; version_is = refl; dirty_is = refl; following = refl; copied = (refl, no_stripes _) }), (tt, tt))

touch_keeps : KeepsFrom sink_unmarked touch
unfolding bricks_below count_below agree greatest_below
touch_keeps = round_keeps sink_unmarked 25 (λ b. PreOp file (window_grant b) 1 2) Done
    (free _ _ _ (refl, lit≤ tt, refl, refl), record { grant_held = refl; idle = each _ refl refl refl; once = refl; head = later_file; group = refl; version_is = inl (refl, refl); above = lit≤ tt; limit = omega arith; one = inl refl })
    (free _ _ _ (refl, lit≤ tt, refl, refl), record { grant_held = refl; idle = each _ refl refl refl; once = refl; head = later_file; group = refl; version_is = inl (refl, refl); above = lit≤ tt; limit = omega arith; one = inr refl })
    (free _ _ _ (refl, lit≤ tt, refl, refl), record { grant_held = refl; idle = each _ refl refl refl; once = refl; head = later_file; group = refl; version_is = inl (refl, refl); above = lit≤ tt; limit = omega arith; one = inr refl })

posts_keep : KeepsFrom touched posts
unfolding bricks_below count_below agree greatest_below
posts_keep = round_keeps touched 31 (λ b. PostOp file (window_grant b) 1 3 0 None) Done
    (free _ _ _ (refl, lit≤ tt, refl, refl), record { grant_held = refl; head = later_file; group = refl; whole = record { done = refl; all = (refl, refl) }; quorum = record { which = λ x. true; enough = lit≤ tt; each = each _ (λ e. (refl, record { done = refl; all = (refl, refl) })) (λ e. (refl, record { done = refl; all = (refl, refl) })) (λ e. (refl, record { done = refl; all = (refl, refl) })) }; dirty = 2; pre = refl; version = refl; size_is = refl; attr_is = refl })
    (free _ _ _ (refl, lit≤ tt, refl, refl), record { grant_held = refl; head = later_file; group = refl; whole = record { done = refl; all = (refl, refl) }; quorum = record { which = λ x. true; enough = lit≤ tt; each = each _ (λ e. (refl, record { done = refl; all = (refl, refl) })) (λ e. (refl, record { done = refl; all = (refl, refl) })) (λ e. (refl, record { done = refl; all = (refl, refl) })) }; dirty = 2; pre = refl; version = refl; size_is = refl; attr_is = refl })
    (free _ _ _ (refl, lit≤ tt, refl, refl), record { grant_held = refl; head = later_file; group = refl; whole = record { done = refl; all = (refl, refl) }; quorum = record { which = λ x. true; enough = lit≤ tt; each = each _ (λ e. (refl, record { done = refl; all = (refl, refl) })) (λ e. (refl, record { done = refl; all = (refl, refl) })) (λ e. (refl, record { done = refl; all = (refl, refl) })) }; dirty = 2; pre = refl; version = refl; size_is = refl; attr_is = refl })

clean_keeps : KeepsFrom touch_posted clean_up
unfolding bricks_below count_below agree greatest_below
clean_keeps = round_keeps touch_posted 37 (λ b. Clear file (window_grant b) 3) Done
    (free _ _ _ (refl, lit≤ tt, refl, refl), record { grant_held = refl; unmarked = refl; posted = each _ refl refl refl })
    (free _ _ _ (refl, lit≤ tt, refl, refl), record { grant_held = refl; unmarked = refl; posted = each _ refl refl refl })
    (free _ _ _ (refl, lit≤ tt, refl, refl), record { grant_held = refl; unmarked = refl; posted = each _ refl refl refl })

abbrev lasts : List Own
lasts = (Sends 0 43 (Release file 7) ∷ Sends 0 44 (Release file 1) ∷ Sends 1 45 (Release file 9) ∷ Sends 1 46 (Release file 3) ∷ Sends 2 47 (Release file 11) ∷ Sends 2 48 (Release file 5) ∷ []) ++ answered (Healed 4 true)

lasts_keep : KeepsFrom touch_clean lasts
unfolding bricks_below count_below agree greatest_below
lasts_keep = (
  (running _ _ (refl, lit≤ tt), record { asked = refl; idle = each _ refl refl refl }),
  (
    (running _ _ (refl, lit≤ tt), record { asked = refl; idle = each _ refl refl refl }),
    (
      (running _ _ (refl, lit≤ tt), record { asked = refl; idle = each _ refl refl refl }),
      (
        (running _ _ (refl, lit≤ tt), record { asked = refl; idle = each _ refl refl refl }),
        (
          (running _ _ (refl, lit≤ tt), record { asked = refl; idle = each _ refl refl refl }),
          (
            (running _ _ (refl, lit≤ tt), record { asked = refl; idle = each _ refl refl refl }),
            ((refl, record { sinks_are = each _ refl refl refl; cleared = (λ e. each _ refl refl refl, λ e. refl) }), tt),
          ),
        ),
      ),
    ),
  ),
)

pub heal_keeps : Keeps (begun heal_op) whole_heal
heal_keeps =
    let clear = clean_up ++ lasts in
    let post = posts ++ clear in
    let pre = touch ++ post in
    let unmarks = unmark ++ pre in
    let trims = trim ++ unmarks in
    let marks = mark ++ trims in
    let query = sink_queries later_file ++ marks in
    let lock = locks file 7 ++ query in
    join_from (opened (begun heal_op)) heal_locks lock heal_locks_keep
    (join_from heal_locked (locks file 7) query content_locks_keep
    (join_from content_locked (sink_queries later_file) marks sink_queries_keep
    (join_from sink_queried mark trims mark_keeps
    (join_from sink_marked trim unmarks trim_keeps
    (join_from sink_trimmed unmark pre unmark_keeps
    (join_from sink_unmarked touch post touch_keeps
    (join_from touched posts clear posts_keep
    (join_from touch_posted clean_up lasts clean_keeps lasts_keep))))))))

some_lock : (lock : Lock) → Some lock ≡ None → ⊥
some_lock lock e = absurd (cc)

pub unhealed_refused : MaySend (account (begun heal_op) two_heal_locks) 2 (Ask file Inode Exclusive) → ⊥
unhealed_refused m = elim m.1.healed [ inl e ↦ differ (sym e.0) | inr e ↦ differ e ]

pub second_mark_refused : MaySend (account (begun heal_op) (marked_heal later_file)) 2 (Mark file 11 5 (marked_head later_file)) → ⊥
second_mark_refused m = differ (sym m.1.once)

pub other_grant_refused : MaySend (account (begun heal_op) (begun_heal later_file)) 2 (Mark file 11 3 (marked_head later_file)) → ⊥
other_grant_refused m = differ m.1.heal_held

pub good_brick_refused : MaySend (account (begun heal_op) (begun_heal later_file)) 0 (Mark file 7 1 (marked_head later_file)) → ⊥
unfolding bricks_below count_below agree greatest_below
good_brick_refused m = differ m.1.sink

pub untrimmed_copy_refused : (chunk : List ℕ) → MaySend (account (begun heal_op) (marked_heal full_file)) 2 (WriteChunks file 5 0 (chunk ∷ [])) → ⊥
unfolding bricks_below count_below agree greatest_below
untrimmed_copy_refused chunk m = elim m.1 [ inl w ↦ differ w.change.grant_held | inr w ↦ differ w.trimmed ]

pub untrimmed_refused : MaySend (account (begun heal_op) (marked_heal later_file)) 2 (Unmark file 5 (marked 1) 1) → ⊥
unfolding bricks_below count_below agree greatest_below
untrimmed_refused m = differ (subst (λ (h : Head). IsCopied (account (begun heal_op) (marked_heal later_file)) 2 2 h h.kind) (sym (some_head later_file m.1.head m.1.group)) m.1.copied).0

pub uncopied_refused : MaySend (account (begun heal_op) (trimmed_heal full_file 1)) 2 (Unmark file 5 (marked 1) 1) → ⊥
unfolding bricks_below count_below agree greatest_below
uncopied_refused m = differ ((subst (λ (h : Head). IsCopied (account (begun heal_op) (trimmed_heal full_file 1)) 2 2 h h.kind) (sym (some_head full_file m.1.head m.1.group)) m.1.copied).1 0 (lit≤ tt))

pub moved_refused : MaySend (account (begun heal_op) (trimmed_heal later_file 0)) 2 (Unmark file 5 (marked 2) 1) → ⊥
unfolding bricks_below count_below agree greatest_below
moved_refused m = let e : 4611686018427387906 ≡ 4611686018427387905 = m.1.version_is ∙ sym (ap (λ (h : Head). marked h.version.content) (some_head later_file m.1.head m.1.group)) in absurd (omega (arith, e))

pub early_touch_refused : MaySend (account (begun heal_op) (trimmed_heal later_file 0)) 2 (PreOp file 11 1 2) → ⊥
unfolding bricks_below count_below agree greatest_below
early_touch_refused m = elim m.1.version_is [ inl e ↦ differ e.0 | inr e ↦ differ e.0 ]

some_item : (X : Type 0) (x : X) (xs : List X) → x ∷ xs ≡ [] → ⊥
some_item X x xs e = absurd (cc)

pub late_mark_refused : MaySend (account (begun heal_op) (begun_heal later_file ++ second_window later_file NoInode)) 2 (Mark file 35 5 (marked_head later_file)) → ⊥
late_mark_refused m = some_item _ _ _ (m.1.first 2 (lit≤ tt))

pub second_moved_refused : MaySend (account (begun heal_op) (trimmed_heal later_file 0 ++ second_window newer_file (HeadIs (marked_head later_file)))) 2 (Unmark file 5 (marked 3) 1) → ⊥
unfolding bricks_below count_below agree greatest_below
second_moved_refused m = differ m.1.following

pub second_followed : MaySend (account (begun heal_op) (trimmed_heal later_file 0 ++ second_window newer_file (HeadIs (marked_head newer_file)))) 2 (Unmark file 5 (marked 3) 1)
unfolding bricks_below count_below agree greatest_below
second_followed = (free _ _ _ (refl, lit≤ tt, refl, refl), record { rebuild = record { heal_held = refl; locked = refl; answered = each _ refl refl refl; marked = refl }; once = refl; head = newer_file; group = refl; version_is = refl; dirty_is = refl; following = refl; copied = (refl, no_stripes _) })

pub stuck_refused : MaySend (account (begun heal_op) behind_heal) 0 (Ask file Inode Exclusive) → ⊥
unfolding bricks_below count_below agree greatest_below
stuck_refused m = elim m.1.window [ inl e ↦ absurd (cc) | inr e ↦ differ (e.1 2 (lit≤ tt) refl) ]

pub early_all_refused : MayAnswer (account (begun heal_op) unmarked_heal) (Healed 4 true) → ⊥
early_all_refused m = differ (m.1.cleared.0 refl 0 (lit≤ tt))

pub untold_all_refused : MayAnswer (account (begun heal_op) touched_heal) (Healed 4 false) → ⊥
untold_all_refused m = differ (m.1.cleared.1 (each _ refl refl refl))

pub other_sinks_refused : MayAnswer (account (begun heal_op) unmarked_heal) (Healed 0 false) → ⊥
other_sinks_refused m = differ (m.1.sinks_are 2 (lit≤ tt))

abbrev copy_account : (ℕ → List ℕ) → Account
copy_account code = account (begun heal_op) (read_heal code)

pub copy_allowed : (bytes : List ℕ) (stripe : List (List ℕ)) (code : ℕ → List ℕ) → IsOneStripe bytes stripe code → MaySend (copy_account code) 2 (WriteChunks file 5 0 (code 2 ∷ []))
unfolding bricks_below count_below agree greatest_below
copy_allowed bytes stripe code h = (
  free _ _ _ (refl, lit≤ tt, refl, refl),
  inr (record {
    rebuild = record { heal_held = refl; locked = refl; answered = each _ refl refl refl; marked = refl };
    trimmed = refl;
    head = full_file;
    group = refl;
    within = lit≤ tt;
    codes = only _ (record {
      stripe = stripe;
      stripe_is = h.stripe_is;
      decoded = record { which = λ x. not (x == 2); enough = lit≤ tt; each = each _ (λ e. (refl, refl, code 0, refl, h.codes 0 (lit≤ tt))) (λ e. (refl, refl, code 1, refl, h.codes 1 (lit≤ tt))) (λ e. absurd (differ e)) };
      code = h.codes 2 (lit≤ tt);
    });
  }),
)

pub unread_copy_refused : (chunk : List ℕ) → MaySend (account (begun heal_op) (trimmed_heal full_file 1)) 2 (WriteChunks file 5 0 (chunk ∷ [])) → ⊥
unfolding bricks_below count_below agree greatest_below
unread_copy_refused chunk m = elim m.1 [
  | inl w ↦ differ w.change.grant_held
  | inr w ↦ (let q = (w.codes 0 (lit≤ tt)).decoded in no_quorum _ q.which q.enough q.each (each _ (λ r. no_item _ _ r.3) (λ r. no_item _ _ r.3) (λ r. no_item _ _ r.3)))
]
