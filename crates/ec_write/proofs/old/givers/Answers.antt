use Rattle.std.proofs.Common.{◌+◌, inl, inr, sym, ◌∙◌, subst, arith, ℕ}
use Rattle.ec_txn.specs.Digest.{place_at}
use Rattle.ec_write.specs.Stripes.{gave as gave_at}
use Rattle.ec_txn.specs.Replies.{reply_at}
use Rattle.ec_write.proofs.Givers.{AreGivers, none_given, none_more, one_given}
use Rattle.ec_write.proofs.old.givers.Goals as goal
use Rattle.ec_write.proofs.old.givers.Goals.{then-count-k+then-gave, else-count-k, else-count-k-via-then-count-k+else-gave, else-count-k-via-else-count-k}

pub loop-brick-init : goal.loop-brick-init
loop-brick-init c =
    let p = gave_at c.args.reading.now (place_at c.args.known.now.places.items) (reply_at c.args.known.now.replies.items.items) in
    let g = none_given c.args.k c.empty-bricks.result p c.empty-bricks.ensures.members in
    record { done = g.done; below = g.below; counted = g.counted; most = g.most; few = g.few }

pub loop-brick-preserved : goal.loop-brick-preserved
loop-brick-preserved c =
    let p = gave_at c.args.reading.now (place_at c.args.known.now.places.items) (reply_at c.args.known.now.replies.items.items) in
    let k : ℕ = c.args.k in
    let b : ℕ = c.loop-brick.brick in
    let i = c.loop-brick.invariant in
    let old : AreGivers k b c.loop-brick.count c.loop-brick.bricks p = record { done = i.done; below = i.below; counted = i.counted; most = i.most; few = i.few } in
    let g : AreGivers k (b + 1) c.if-count-k.count c.if-count-k.bricks p = elim c.if-count-k.branch [
      | then-count-k+then-gave w ↦
          subst (λ (n : ℕ). AreGivers k (b + 1) n c.if-count-k.bricks p) (sym w.count-is) (subst (λ (n : ℕ). AreGivers k (b + 1) (c.loop-brick.count + 1) n p) (sym w.bricks-is)
          (one_given k b c.loop-brick.count c.loop-brick.bricks w.plus-bricks.result p old (sym w.gave.ensures ∙ w.if-gave.true) w.if-count-k.true (omega arith) w.plus-bricks.ensures.members))
      | else-count-k w ↦
          subst (λ (n : ℕ). AreGivers k (b + 1) n c.if-count-k.bricks p) (sym w.count-is) (subst (λ (n : ℕ). AreGivers k (b + 1) c.loop-brick.count n p) (sym w.bricks-is)
          (none_more k b c.loop-brick.count c.loop-brick.bricks p old (elim w.else-count-k.branch [
            | else-count-k-via-then-count-k+else-gave v ↦ inl (sym v.gave.ensures ∙ v.if-gave.false)
            | else-count-k-via-else-count-k v ↦ inr (let n = v.if-count-k.false in omega (arith, n))
          ])))
    ] in
    record { done = g.done; below = g.below; counted = g.counted; most = g.most; few = g.few }
