use Rattle.std.proofs.Common.{◌≡◌, ◌<◌, ◌+◌, true, false, length, refl, sym, ap, subst, ◌∙◌, arith}
use Rattle.std.proofs.lemmas.List.{length-set}
use Rattle.ec_attr.specs.Bricks.{is_in}
use Rattle.ec_attr.proofs.Sets.{count_none, count_more_in, count_more_out, count_grows, len, most}
use Rattle.ec_write.proofs.Gathered.{AreGathered, gathered_in, gathered_out, counted}
use Rattle.ec_txn.specs.Replies.{reply_at}
use Rattle.ec_write.proofs.old.gather.Goals as goal
use Rattle.ec_write.proofs.old.gather.Goals.{then-has, else-has}

pub loop-brick-init : goal.loop-brick-init
loop-brick-init c = record {
  count = sym (count_none (is_in c.args.which.now));
  len = refl;
  done = λ i l. absurd (omega (arith, count_none (is_in c.args.which.now)));
}

pub offset_bounds-pieces-count : goal.offset_bounds-pieces-count
offset_bounds-pieces-count c =
    let test = is_in c.args.which.now in
    let passes : test c.loop-brick.brick ≡ true = sym c.has.ensures.value ∙ c.if-has.true in
    omega (arith, counted c.loop-brick.brick 31 test passes (omega arith), len 31 test, count_grows c.loop-brick.brick 31 test (omega arith), most 31 test)

pub bounds-pieces-count : goal.bounds-pieces-count
bounds-pieces-count c =
    let test = is_in c.args.which.now in
    let passes : test c.loop-brick.brick ≡ true = sym c.has.ensures.value ∙ c.if-has.true in
    omega (arith, counted c.loop-brick.brick 31 test passes (omega arith), len 31 test)

pub overflow_add-count : goal.overflow_add-count
overflow_add-count c =
    let test = is_in c.args.which.now in
    omega (arith, most c.loop-brick.brick test)

pub loop-brick-preserved : goal.loop-brick-preserved
loop-brick-preserved c =
    let test = is_in c.args.which.now in
    let b = c.loop-brick.brick in
    let replies = reply_at c.args.known.now.replies.items.items in
    elim c.if-has.branch [
      | then-has w ↦
          let passes : test b ≡ true = sym c.has.ensures.value ∙ w.if-has.true in
          let room : c.loop-brick.count < length c.loop-brick.pieces = omega (arith, counted b 31 test passes (omega arith), len 31 test) in
          record {
            count = w.count-is ∙ ap (λ n. n + 1) c.loop-brick.invariant.count ∙ sym (count_more_in b test passes);
            len = ap length w.pieces-is ∙ length-set c.loop-brick.pieces c.loop-brick.count w.chunk_given.result ∙ c.loop-brick.invariant.len;
            done = gathered_in b c.loop-brick.count test replies c.loop-brick.pieces c.if-has.pieces w.chunk_given.result
                c.loop-brick.invariant.done passes c.loop-brick.invariant.count room w.chunk_given.ensures w.pieces-is;
          }
      | else-has w ↦
          let fails : test b ≡ false = sym c.has.ensures.value ∙ w.if-has.false in
          record {
            count = w.count-is ∙ c.loop-brick.invariant.count ∙ sym (count_more_out b test fails);
            len = ap length w.pieces-is ∙ c.loop-brick.invariant.len;
            done = subst (λ x. AreGathered (b + 1) test replies x) (sym w.pieces-is)
                (gathered_out b test replies c.loop-brick.pieces c.loop-brick.invariant.done fails);
          }
    ]

pub returns : goal.returns
returns c =
    let test = is_in c.args.which.now in
    let replies = reply_at c.args.known.now.replies.items.items in
    let all : c.loop-brick.brick ≡ 31 = omega arith in
    let gathered : AreGathered 31 test replies c.loop-brick.pieces =
    subst (λ n. AreGathered n test replies c.loop-brick.pieces) all c.loop-brick.invariant.done in
    λ i l. gathered i (omega (arith, len 31 test, c.requires))
