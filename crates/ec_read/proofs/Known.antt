-- What is known of a read tells what is read, and what comes of it.
use Rattle.std.proofs.Common.{◌≡◌, ℕ, sym, ◌∙◌, ap, subst, Option}
use Rattle.std.proofs.Math.Path.{fun_ext}
use Rattle.ec_attr.specs.declared.geometry.Geometry.{Geometry}
use Rattle.ec_attr.specs.declared.gfid.Gfid.{Gfid}
use Rattle.ec_conduct.specs.Account.{Account}
use Rattle.ec_conduct.specs.Given.{bricks_of, quorum}
use Rattle.ec_txn.specs.declared.ctx.Ctx.{Ctx}
use Rattle.ec_txn.specs.declared.known.Known.{Known}
use Rattle.ec_txn.specs.declared.known.Place.{Place}
use Rattle.ec_txn.specs.declared.stage.Next.{Next}
use Rattle.ec_txn.specs.Digest.{Shows, place_at}
use Rattle.ec_txn.specs.ReadPhase.{places_of}
use Rattle.ec_txn.specs.Replies.{reply_at}
use Rattle.ec_txn.specs.Rounds.{subject}
use Rattle.ec_wire.specs.declared.op.Op.{Op}
use Rattle.ec_wire.specs.declared.op.Op.TheVariants.{Read}
use Rattle.ec_wire.specs.declared.reply.Reply.{Reply}
use Rattle.ec_read.specs.declared.read.ReadStage.{ReadStage}
use Rattle.ec_read.specs.declared.read.ReadStage.TheVariants.{Reads}
use Rattle.ec_read.specs.Range.{end_of, reading_by}
use Rattle.ec_read.specs.Read.{EndsBy, ReadFollows, len_in, off_in, reading_of}

-- what is read is told by the call
pub reading_same : (x : Ctx) (g : Gfid) (off len : ℕ) (via : Option ℕ) (among size : ℕ) (c : Account) → c.given.geometry ≡ x.geometry → c.given.op ≡ Read g off len via
    → reading_by x g.0 (quorum x.geometry) off len among size ≡ reading_of x c.given among size
reading_same x g off len via among size c geometry op =
    ap (λ (o : Op). reading_by x (subject o) (quorum x.geometry) (off_in o) (len_in o) among size) (sym op)
    ∙ ap (λ (v : Geometry). reading_by x (subject c.given.op) (quorum v) (off_in c.given.op) (len_in c.given.op) among size) (sym geometry)

abbrev ends : Ctx → ℕ → ℕ → Next ReadStage → Geometry → Op → (ℕ → Place) → (ℕ → Option Reply) → Type 0
ends x among size next v op places replies = EndsBy (quorum v) v.algorithm (reading_by x (subject op) (quorum v) (off_in op) (len_in op) among size) places replies (off_in op) (end_of (off_in op) (len_in op) size) next

-- and so is what comes of it
pub ends_at : (x : Ctx) (known : Known) (g : Gfid) (off len : ℕ) (via : Option ℕ) (among size : ℕ) (next : Next ReadStage) (c : Account)
    → EndsBy (quorum x.geometry) x.geometry.algorithm (reading_by x g.0 (quorum x.geometry) off len among size) (place_at known.places.items) (reply_at known.replies.items.items) off (end_of off len size) next
    → c.given.geometry ≡ x.geometry → c.given.op ≡ Read g off len via → Shows (subject c.given.op) (bricks_of c.given) known c → ReadFollows x (Reads among size) c next
ends_at x known g off len via among size next c w geometry op shows =
    subst (λ (f : ℕ → Option Reply). ends x among size next c.given.geometry c.given.op (places_of c (subject c.given.op)) f) (fun_ext shows.told)
    (subst (λ (f : ℕ → Place). ends x among size next c.given.geometry c.given.op f (reply_at known.replies.items.items)) (fun_ext shows.each)
    (subst (λ (v : Geometry). ends x among size next v c.given.op (place_at known.places.items) (reply_at known.replies.items.items)) (sym geometry)
    (subst (λ (o : Op). ends x among size next x.geometry o (place_at known.places.items) (reply_at known.replies.items.items)) (sym op) w)))
