-- What follows the stage of a truncate that reads, by what is known.
use Rattle.std.proofs.Common.{◌≡◌, ℕ, sym, subst, Option}
use Rattle.std.proofs.Math.Path.{fun_ext}
use Rattle.ec_answers.specs.declared.grouped.Group.{Group}
use Rattle.ec_attr.specs.declared.geometry.Geometry.{Geometry}
use Rattle.ec_conduct.specs.Account.{Account}
use Rattle.ec_conduct.specs.Given.{bricks_of}
use Rattle.ec_txn.specs.declared.ctx.Ctx.{Ctx}
use Rattle.ec_txn.specs.declared.known.Known.{Known}
use Rattle.ec_txn.specs.declared.known.Place.{Place}
use Rattle.ec_txn.specs.declared.reading.Reading.{Reading}
use Rattle.ec_txn.specs.declared.stage.Next.{Next}
use Rattle.ec_txn.specs.Digest.{Shows, place_at}
use Rattle.ec_txn.specs.ReadPhase.{places_of}
use Rattle.ec_txn.specs.Replies.{replied, reply_at}
use Rattle.ec_txn.specs.Rounds.{subject}
use Rattle.ec_wire.specs.declared.op.Op.{Op}
use Rattle.ec_wire.specs.declared.reply.Reply.{Reply}
use Rattle.ec_write.specs.declared.stage.TruncateStage.{TruncateStage}
use Rattle.ec_write.specs.Truncate.{TailEnds, TailFollows}

pub tail_follows : (x : Ctx) (op : Op) (group : Group) (reading : Reading) (known : Known) (a : Account) (next : Next TruncateStage) → a.given.op ≡ op → a.given.geometry ≡ x.geometry → Shows (subject a.given.op) (bricks_of a.given) known a
    → TailEnds x.geometry op group reading (place_at known.places.items) (reply_at known.replies.items.items) next → TailFollows group reading a next
tail_follows x op group reading known a next eo eg shows h =
    let ps : place_at known.places.items ≡ places_of a (subject a.given.op) = fun_ext shows.each in
    let rs : reply_at known.replies.items.items ≡ replied a (subject a.given.op) = fun_ext shows.told in
    let one = subst (λ (z : ℕ → Place). TailEnds x.geometry op group reading z (reply_at known.replies.items.items) next) ps h in
    let two = subst (λ (z : ℕ → Option Reply). TailEnds x.geometry op group reading (places_of a (subject a.given.op)) z next) rs one in
    let three = subst (λ (z : Geometry). TailEnds z op group reading (places_of a (subject a.given.op)) (replied a (subject a.given.op)) next) (sym eg) two in
    subst (λ (z : Op). TailEnds a.given.geometry z group reading (places_of a (subject a.given.op)) (replied a (subject a.given.op)) next) (sym eo) three
