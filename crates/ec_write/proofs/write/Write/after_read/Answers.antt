use Rattle.std.proofs.Common.{◌∙◌, ap, arith, ℕ}
use Rattle.ec_txn.proofs.Turns.{if_more}
use Rattle.ec_txn.specs.Digest.{place_at}
use Rattle.ec_txn.specs.Replies.{reply_at}
use Rattle.ec_wire.specs.declared.op.Op.TheVariants.{Write}
use Rattle.ec_write.specs.Range.{second_read}
use Rattle.ec_write.proofs.Following.{first_ends, last_ends}
use Rattle.ec_write.proofs.write.Write.after_read.Goals as goal

pub returns-then-reading-first_stripe : goal.returns-then-reading-first_stripe
returns-then-reading-first_stripe g c = if_more c.go_on.result _ _
    (λ next h. first_ends c.args.ctx.now (Write c.args.self.now.gfid c.args.self.now.off c.args.self.now.bytes) c.args.group.now c.args.reading.now c.args.front.now (place_at c.args.known.now.places.items) (reply_at c.args.known.now.replies.items.items) c.in_ok-stripe.stripe
    c.k-k.result c.first_stripe.result c.second_read-next.result next c.k-k.ensures.value (let n = c.if-most-k.false in let m = c.count_gave-most.ensures in omega (arith, n, m)) c.in_ok-stripe.ensures c.if-reading-first_stripe.true c.first_stripe.ensures.value
    (c.second_read-next.ensures ∙ ap (λ (n : ℕ). second_read c.k-k.result c.args.self.now.off n c.args.group.now.head.size) c.len.ensures) h)
    c.go_on.ensures

pub returns-in_ok-copy : goal.returns-in_ok-copy
returns-in_ok-copy g c = if_more c.go_on-else-reading-first_stripe.result _ _
    (λ next h. last_ends c.args.ctx.now (Write c.args.self.now.gfid c.args.self.now.off c.args.self.now.bytes) c.args.group.now c.args.reading.now c.args.front.now (place_at c.args.known.now.places.items) (reply_at c.args.known.now.replies.items.items) c.in_ok-stripe.stripe
    c.in_ok-copy.field-0 c.items.result.now c.k-k.result c.first_stripe.result next c.k-k.ensures.value (let n = c.if-most-k.false in let m = c.count_gave-most.ensures in omega (arith, n, m)) c.in_ok-stripe.ensures c.if-reading-first_stripe.false c.first_stripe.ensures.value
    c.in_ok-copy.ensures c.items.ensures h)
    c.go_on-else-reading-first_stripe.ensures
