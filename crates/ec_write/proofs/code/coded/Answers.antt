use Rattle.ec_txn.proofs.Turns.{if_more}
use Rattle.ec_write.proofs.Filling.{coded_of}
use Rattle.ec_write.proofs.code.coded.Goals as goal

pub returns : goal.returns
returns g c = if_more c.code_lists.result _ _
    (λ lists each. coded_of c.args.geometry.now c.k-k.result c.args.off c.args.bytes.now c.args.size c.args.front.now c.args.back.now c.in_ok-chunks.chunks.items c.as_slice.result.now c.count_stripes-count.result lists c.k-k.ensures.value c.in_ok-chunks.ensures c.as_slice.ensures.value c.count_stripes-count.ensures.value each)
    c.code_lists.ensures
