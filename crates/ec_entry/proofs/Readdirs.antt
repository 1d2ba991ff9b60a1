-- What is known of the bricks tells what they are asked for names, and what their pages come to.
use Rattle.std.proofs.Common.{◌≡◌, ℕ, ◌+◌, ◌-◌, ◌&&◌, nat_lt, cond, sym, ◌∙◌, ap, subst, arith, Option, None, List}
use Rattle.std.proofs.Math.Path.{fun_ext}
use Rattle.ec_attr.specs.Bricks.{is_in}
use Rattle.ec_attr.specs.declared.geometry.Geometry.{Geometry}
use Rattle.ec_conduct.specs.Account.{Account, at}
use Rattle.ec_conduct.specs.Given.{Given, bricks_of, quorum_of}
use Rattle.ec_txn.specs.declared.ctx.Ctx.{Ctx}
use Rattle.ec_txn.specs.declared.known.Known.{Known}
use Rattle.ec_txn.specs.declared.stage.Next.{Next}
use Rattle.ec_txn.specs.Ballot.{serving, serving_by}
use Rattle.ec_txn.specs.Digest.{Shows, place_at}
use Rattle.ec_txn.specs.Replies.{replied, reply_at}
use Rattle.ec_txn.specs.Rounds.{subject}
use Rattle.ec_txn.specs.Tables.{IsOf, Sees}
use Rattle.ec_wire.specs.declared.reply.Reply.{Reply}
use Rattle.ec_wire.specs.declared.request.Request.TheVariants.{NamesAfter}
use Rattle.ec_entry.specs.declared.readdir.ReaddirStage.{ReaddirStage}
use Rattle.ec_entry.specs.Members.{under_grant}
use Rattle.ec_entry.specs.Paging.{Entries, paged}
use Rattle.ec_entry.specs.Readdir.{PageFollows, asked_names, names_asks}
use Rattle.ec_entry.proofs.Makes.{serves}

pub names_by : (x : Ctx) (known : Known) (c : Account) (bits : ℕ) (past : Option (List ℕ)) (g brick : ℕ) → IsOf x c.given → Shows (subject c.given.op) (bricks_of c.given) known c → subject c.given.op ≡ g
    → asked_names bits past x.geometry.n g (place_at known.places.items brick) brick ≡ names_asks bits past c brick
names_by x known c bits past g brick of shows is =
    let n : x.geometry.n ≡ bricks_of c.given = ap (λ (v : Geometry). v.n) (sym of.geometry) in
    let p : serving_by (place_at known.places.items brick) ≡ serving (at c (subject c.given.op) brick) = ap serving_by (shows.each brick) ∙ serves (c.waits brick) (at c (subject c.given.op) brick) in
    λ j. cond (is_in bits brick && nat_lt brick (n j)) (under_grant (p j) (λ grant. NamesAfter (record { 0 = sym is j }) grant past)) None

pub page_at : (x : Ctx) (fits : Given → Type 0) (known : Known) (c : Account) (bits k : ℕ) (past : Option (List ℕ)) (list : Entries) (next : Next ReaddirStage) → Sees x fits known c → k + x.geometry.r ≡ x.geometry.n
    → PageFollows k bits past list (paged bits (reply_at known.replies.items.items)) next → PageFollows (quorum_of c.given) bits past list (paged bits (replied c (subject c.given.op))) next
page_at x fits known c bits k past list next sees e is =
    let q : k ≡ x.geometry.n - x.geometry.r = omega (arith, e) in
    let q' : k ≡ quorum_of c.given = q ∙ sym (ap (λ (v : Geometry). v.n - v.r) sees.of.geometry) in
    subst (λ (f : ℕ → Option Reply). PageFollows (quorum_of c.given) bits past list (paged bits f) next) (fun_ext sees.shows.told)
    (subst (λ (m : ℕ). PageFollows m bits past list (paged bits (reply_at known.replies.items.items)) next) q' is)
