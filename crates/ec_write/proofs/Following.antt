-- What follows a stage, by what is known.
use Rattle.std.proofs.Common.{◌≡◌, inr, ℕ, ◌+◌, ◌≤◌, Bool, sym, ◌∙◌, ap, subst, arith, List, [], length, Option, None, eq-eqb}
use Rattle.std.proofs.Math.Path.{fun_ext}
use Rattle.std.proofs.lemmas.Bool.{ne_eqb}
use Rattle.ec_answers.specs.declared.grouped.Group.{Group}
use Rattle.ec_attr.specs.declared.geometry.Geometry.{Geometry}
use Rattle.ec_conduct.specs.Account.{Account}
use Rattle.ec_conduct.specs.Given.{bricks_of, quorum}
use Rattle.ec_txn.specs.declared.ctx.Ctx.{Ctx}
use Rattle.ec_txn.specs.declared.known.Known.{Known}
use Rattle.ec_txn.specs.declared.known.Place.{Place}
use Rattle.ec_txn.specs.declared.reading.Reading.{Reading}
use Rattle.ec_txn.specs.declared.stage.Next.{Next}
use Rattle.ec_txn.specs.Digest.{Shows, place_at}
use Rattle.ec_txn.specs.ReadPhase.{places_of}
use Rattle.ec_txn.specs.Replies.{replied, reply_at}
use Rattle.ec_txn.specs.Rounds.{subject}
use Rattle.ec_wire.specs.declared.op.Op.{Op}
use Rattle.ec_wire.specs.declared.reply.Reply.{Reply}
use Rattle.ec_write.specs.declared.stage.WriteStage.{WriteStage}
use Rattle.ec_write.specs.Range.{data_of, first_read, first_stripe, off_of, second_read}
use Rattle.ec_write.specs.Stripes.{IsDecoded, count_gave}
use Rattle.ec_write.specs.Write.{AfterRead, GoesOn, Prepares, ReadEnds, ReadFollows, first_of, second_of}

pub prepares_by : (x : Ctx) (op : Op) (group : Group) (a : Account) (front : List (List ℕ)) (k : ℕ) (o : Option ℕ) (next : Next WriteStage) → a.given.op ≡ op → a.given.geometry ≡ x.geometry → front ≡ [] → k + x.geometry.r ≡ x.geometry.n
    → o ≡ first_read k (off_of op) (length (data_of op)) group.head.size → GoesOn x x.geometry op group front [] o next → Prepares x group a next
prepares_by x op group a front k o next eo eg ef ke oe h =
    let e : k ≡ quorum x.geometry = omega (arith, ke) in
    let same : o ≡ first_of x.geometry op group = oe ∙ ap (λ (z : ℕ). first_read z (off_of op) (length (data_of op)) group.head.size) e in
    let one = subst (λ (z : List (List ℕ)). GoesOn x x.geometry op group z [] o next) ef h in
    let two = subst (λ (z : Option ℕ). GoesOn x x.geometry op group [] [] z next) same one in
    let three = subst (λ (z : Geometry). GoesOn x z op group [] [] (first_of z op group) next) (sym eg) two in
    subst (λ (z : Op). GoesOn x a.given.geometry z group [] [] (first_of a.given.geometry z group) next) (sym eo) three

pub first_ends : (x : Ctx) (op : Op) (group : Group) (reading : Reading) (front : List (List ℕ)) (ps : ℕ → Place) (rs : ℕ → Option Reply) (stripe : List (List ℕ)) (k s : ℕ) (o : Option ℕ) (next : Next WriteStage) → k + x.geometry.r ≡ x.geometry.n
    → k ≤ count_gave reading ps rs → IsDecoded x.geometry reading ps rs stripe → reading.first ≡ s → s ≡ first_stripe k (off_of op) → o ≡ second_read k (off_of op) (length (data_of op)) group.head.size
    → GoesOn x x.geometry op group stripe [] o next → ReadEnds x x.geometry op group reading front ps rs next
first_ends x op group reading front ps rs stripe k s o next ke enough decoded here is oe h =
    let e : k ≡ quorum x.geometry = omega (arith, ke) in
    let same : o ≡ second_of x.geometry op group = oe ∙ ap (λ (z : ℕ). second_read z (off_of op) (length (data_of op)) group.head.size) e in
    let at_first : reading.first ≡ first_stripe (quorum x.geometry) (off_of op) = here ∙ (is ∙ ap (λ (z : ℕ). first_stripe z (off_of op)) e) in
    inr (omega (arith, e, enough), stripe, decoded, subst (λ (b : Bool). AfterRead b x x.geometry op group front stripe next) (sym (eq-eqb reading.first (first_stripe (quorum x.geometry) (off_of op)) at_first)) (subst (λ (z : Option ℕ). GoesOn x x.geometry op group stripe [] z next) same h))

pub last_ends : (x : Ctx) (op : Op) (group : Group) (reading : Reading) (front : List (List ℕ)) (ps : ℕ → Place) (rs : ℕ → Option Reply) (stripe copy back : List (List ℕ)) (k s : ℕ) (next : Next WriteStage) → k + x.geometry.r ≡ x.geometry.n
    → k ≤ count_gave reading ps rs → IsDecoded x.geometry reading ps rs stripe → (reading.first ≡ s → ⊥) → s ≡ first_stripe k (off_of op) → copy ≡ front → back ≡ stripe
    → GoesOn x x.geometry op group copy back None next → ReadEnds x x.geometry op group reading front ps rs next
last_ends x op group reading front ps rs stripe copy back k s next ke enough decoded other is ec eb h =
    let e : k ≡ quorum x.geometry = omega (arith, ke) in
    let elsewhere : reading.first ≡ first_stripe (quorum x.geometry) (off_of op) → ⊥ = λ (q : reading.first ≡ first_stripe (quorum x.geometry) (off_of op)). other (q ∙ sym (is ∙ ap (λ (z : ℕ). first_stripe z (off_of op)) e)) in
    inr (
      omega (arith, e, enough),
      stripe,
      decoded,
      subst (λ (b : Bool). AfterRead b x x.geometry op group front stripe next) (sym (ne_eqb reading.first (first_stripe (quorum x.geometry) (off_of op)) elsewhere))
          (subst (λ (z : List (List ℕ)). GoesOn x x.geometry op group front z None next) eb (subst (λ (z : List (List ℕ)). GoesOn x x.geometry op group z back None next) ec h)),
    )

pub read_follows : (x : Ctx) (op : Op) (group : Group) (reading : Reading) (front : List (List ℕ)) (known : Known) (a : Account) (next : Next WriteStage) → a.given.op ≡ op → a.given.geometry ≡ x.geometry → Shows (subject a.given.op) (bricks_of a.given) known a
    → ReadEnds x x.geometry op group reading front (place_at known.places.items) (reply_at known.replies.items.items) next → ReadFollows x group reading front a next
read_follows x op group reading front known a next eo eg shows h =
    let ps : place_at known.places.items ≡ places_of a (subject a.given.op) = fun_ext shows.each in
    let rs : reply_at known.replies.items.items ≡ replied a (subject a.given.op) = fun_ext shows.told in
    let one = subst (λ (z : ℕ → Place). ReadEnds x x.geometry op group reading front z (reply_at known.replies.items.items) next) ps h in
    let two = subst (λ (z : ℕ → Option Reply). ReadEnds x x.geometry op group reading front (places_of a (subject a.given.op)) z next) rs one in
    let three = subst (λ (z : Geometry). ReadEnds x z op group reading front (places_of a (subject a.given.op)) (replied a (subject a.given.op)) next) (sym eg) two in
    subst (λ (z : Op). ReadEnds x a.given.geometry z group reading front (places_of a (subject a.given.op)) (replied a (subject a.given.op)) next) (sym eo) three
