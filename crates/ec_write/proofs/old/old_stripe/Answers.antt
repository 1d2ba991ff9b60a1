use Rattle.std.proofs.Common.{◌≡◌, ◌∙◌, ℕ, List, sym, ap, subst, arith, length}
use Rattle.ec_attr.specs.Bricks.{is_in}
use Rattle.ec_attr.proofs.Sets.{len}
use Rattle.ec_field.specs.Code.{chunk_at}
use Rattle.ec_txn.proofs.Turns.{if_more}
use Rattle.ec_txn.specs.Digest.{place_at}
use Rattle.ec_txn.specs.Replies.{reply_at}
use Rattle.ec_write.specs.Stripes.{IsDecoded}
use Rattle.ec_write.proofs.Gathered.{decoded_by, front_of}
use Rattle.ec_write.proofs.old.old_stripe.Goals as goal

pub gather-requires : goal.gather-requires
gather-requires g c = record { places = (let m = c.givers-which.ensures.many in let n = len 31 (is_in c.givers-which.result) in let k = c.k-k.ensures.value in let e = c.requires in let a = c.as_mut_slice.ensures.len in let b = c.in_ok-pieces.ensures.len in let f = c.from.ensures in omega (arith, m, n, k, e, a, b, f)) }

pub decode-requires-clause-bricks : goal.decode-requires-clause-bricks
decode-requires-clause-bricks g c = (let m = c.givers-which.ensures.many in let n = len 31 (is_in c.givers-which.result) in let k = c.k-k.ensures.value in let e = c.requires in omega (arith, m, n, k, e))

pub decode-requires-clause-pieces : goal.decode-requires-clause-pieces
decode-requires-clause-pieces g c =
    let here : length c.gather.new.pieces ≡ c.in_ok-pieces.pieces.len = (let a = c.gather.auto.pieces in let b = c.as_mut_slice.ensures.len in omega (arith, a, b)) in
    ap length (c.as_slice.ensures.value ∙ front_of c.in_ok-pieces.pieces.len c.gather.new.pieces _ here)
    ∙ (let m = c.givers-which.ensures.many in let n = len 31 (is_in c.givers-which.result) in let k = c.k-k.ensures.value in let e = c.requires in let a = c.as_mut_slice.ensures.len in let b = c.in_ok-pieces.ensures.len in let f = c.from.ensures in let h = c.gather.auto.pieces in omega (arith, m, n, k, e, a, b, f, h))

pub decode-requires-clause-places : goal.decode-requires-clause-places
decode-requires-clause-places g c = (let m = c.givers-which.ensures.many in let n = len 31 (is_in c.givers-which.result) in let k = c.k-k.ensures.value in let e = c.requires in let a = c.as_mut_slice-2.ensures.len in let b = c.in_ok-stripe.ensures.len in let f = c.from-2.ensures in omega (arith, m, n, k, e, a, b, f))

pub returns : goal.returns
returns g c =
    let ps = place_at c.args.known.now.places.items in
    let rs = reply_at c.args.known.now.replies.items.items in
    let here : length c.gather.new.pieces ≡ c.in_ok-pieces.pieces.len = (let a = c.gather.auto.pieces in let b = c.as_mut_slice.ensures.len in omega (arith, a, b)) in
    let given : c.as_slice.result.now ≡ c.gather.new.pieces = c.as_slice.ensures.value ∙ front_of c.in_ok-pieces.pieces.len c.gather.new.pieces _ here in
    let there : length c.decode.new.out ≡ c.in_ok-stripe.stripe.len = (let a = c.decode.auto.out in let b = c.as_mut_slice-2.ensures.len in omega (arith, a, b)) in
    let out : c.as_slice-2.result.now ≡ c.decode.new.out = c.as_slice-2.ensures.value ∙ front_of c.in_ok-stripe.stripe.len c.decode.new.out _ there in
    let many : length c.as_slice.result.now ≡ c.k-k.result = ap length given ∙ (let a = c.gather.auto.pieces in let b = c.as_mut_slice.ensures.len in let d = c.in_ok-pieces.ensures.len in let f = c.from.ensures in omega (arith, a, b, d, f)) in
    let decoded : IsDecoded c.args.geometry.now c.args.reading.now ps rs c.decode.new.out =
    decoded_by c.args.geometry.now c.args.reading.now ps rs c.givers-which.result c.k-k.result c.as_slice.result.now c.decode.new.out
    (let k = c.k-k.ensures.value in omega (arith, k))
    (let m = c.givers-which.ensures.many in let k = c.k-k.ensures.value in let e = c.requires in omega (arith, m, k, e))
    many
    c.givers-which.ensures.done
    c.givers-which.ensures.below
    (λ i l. ap (λ (p : List (List ℕ)). chunk_at p i) given ∙ c.gather.ensures i (let a = c.as_mut_slice.ensures.len in let d = c.in_ok-pieces.ensures.len in let f = c.from.ensures in omega (arith, a, d, f, l)))
    c.decode.ensures.stripe
    c.decode.ensures.codes in
    if_more c.listed.result _ _ (λ list e. subst (λ s. IsDecoded c.args.geometry.now c.args.reading.now ps rs s) (sym (e ∙ out)) decoded) c.listed.ensures
