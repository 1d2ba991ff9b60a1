-- What is known of the bricks tells what an unlink asks, and what the replies to its name come to.
use Rattle.std.proofs.Common.{◌≡◌, ℕ, ◌+◌, ◌-◌, ◌&&◌, nat_lt, cond, refl, sym, ◌∙◌, ap, subst, arith, Option, Some, None, List}
use Rattle.std.proofs.Math.Path.{fun_ext}
use Rattle.ec_answers.specs.declared.grouped.Group.{Group}
use Rattle.ec_attr.specs.declared.geometry.Geometry.{Geometry}
use Rattle.ec_attr.specs.declared.gfid.Gfid.{Gfid}
use Rattle.ec_conduct.specs.Account.{Account, Lock, at}
use Rattle.ec_conduct.specs.Given.{Given, bricks_of, quorum_of}
use Rattle.ec_txn.specs.declared.ctx.Ctx.{Ctx}
use Rattle.ec_txn.specs.declared.known.Known.{Known}
use Rattle.ec_txn.specs.declared.known.Place.{Place as KnownPlace}
use Rattle.ec_txn.specs.declared.stage.Next.{Next}
use Rattle.ec_txn.specs.Digest.{Shows, held, place_at}
use Rattle.ec_txn.specs.Fetching.{under}
use Rattle.ec_txn.specs.Replies.{replied, reply_at}
use Rattle.ec_txn.specs.Rounds.{subject}
use Rattle.ec_txn.specs.Tables.{IsOf, Sees}
use Rattle.ec_wire.specs.declared.op.Op.TheVariants.{Unlink}
use Rattle.ec_wire.specs.declared.reply.Reply.{Reply}
use Rattle.ec_wire.specs.declared.request.Request.{Request}
use Rattle.ec_wire.specs.declared.request.Request.TheVariants.{NameSet, Unmake}
use Rattle.ec_entry.specs.declared.unlink.UnlinkStage.{UnlinkStage}
use Rattle.ec_entry.specs.Asked.{under_held}
use Rattle.ec_entry.specs.Named.{said}
use Rattle.ec_entry.specs.Unlink.{NameFollows, asked_unmake, entry_request, name_in, to_locked, unmake_request}

pub entry_is : (given : Given) (parent : Gfid) (name : List ℕ) → given.op ≡ Unlink parent name → (i v : ℕ) → NameSet parent i name None ≡ entry_request given i v
entry_is given parent name fit i v = λ j. NameSet (record { 0 = subject (sym fit j) }) i (name_in (sym fit j)) None

held_under : (o : Option Lock) (q : ℕ → Request) → under_held (held o) q ≡ under o q
held_under None q = refl
held_under (Some lock) q = refl

pub unmake_by : (x : Ctx) (known : Known) (c : Account) (child : Gfid) (g brick : ℕ) → IsOf x c.given → Shows (subject c.given.op) (bricks_of c.given) known c → subject c.given.op ≡ g
    → asked_unmake x.geometry.n g child (place_at known.places.items brick).lock brick ≡ to_locked (unmake_request c.given child) c brick
unmake_by x known c child g brick of shows is =
    let n : x.geometry.n ≡ bricks_of c.given = ap (λ (v : Geometry). v.n) (sym of.geometry) in
    let p : (place_at known.places.items brick).lock ≡ held (at c (subject c.given.op) brick).inode = ap (λ (z : KnownPlace). z.lock) (shows.each brick) in
    (λ j. cond (nat_lt brick (n j)) (under_held (p j) (λ grant. Unmake (record { 0 = sym is j }) grant child)) None)
    ∙ ap (λ (o : Option Request). cond (nat_lt brick (bricks_of c.given)) o None) (held_under (at c (subject c.given.op) brick).inode (unmake_request c.given child))

pub name_at : (x : Ctx) (fits : Given → Type 0) (known : Known) (c : Account) (group : Group) (k : ℕ) (next : Next UnlinkStage) → Sees x fits known c → k + x.geometry.r ≡ x.geometry.n
    → NameFollows group k (said group.bricks (reply_at known.replies.items.items)) next → NameFollows group (quorum_of c.given) (said group.bricks (replied c (subject c.given.op))) next
name_at x fits known c group k next sees e is =
    let q : k ≡ x.geometry.n - x.geometry.r = omega (arith, e) in
    let q' : k ≡ quorum_of c.given = q ∙ sym (ap (λ (v : Geometry). v.n - v.r) sees.of.geometry) in
    subst (λ (f : ℕ → Option Reply). NameFollows group (quorum_of c.given) (said group.bricks f) next) (fun_ext sees.shows.told)
    (subst (λ (m : ℕ). NameFollows group m (said group.bricks (reply_at known.replies.items.items)) next) q' is)
