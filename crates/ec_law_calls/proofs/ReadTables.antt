-- The tables of the calls that read a file go in order.
use Rattle.std.proofs.Common.{◌≡◌, inl, inr, ℕ, ◌^◌, ◌==◌, nat_lt, Bool, true, false, cond, refl, ap, Some}
use Rattle.ec_answers.specs.declared.grouped.Group.{Group}
use Rattle.ec_answers.specs.declared.grouped.Grouped.{Grouped}
use Rattle.ec_answers.specs.declared.grouped.Grouped.TheVariants.{Group as Found, Gone, Fewer}
use Rattle.ec_attr.specs.Bricks.{count_below, is_in}
use Rattle.ec_attr.specs.declared.kind.Kind.{Kind}
use Rattle.ec_attr.specs.declared.kind.Kind.TheVariants.{File, Dir}
use Rattle.ec_attr.specs.declared.kind.LockKind.TheVariants.{Shared}
use Rattle.ec_conduct.specs.Account.{Account}
use Rattle.ec_wire.specs.declared.op.Op.{Op}
use Rattle.ec_wire.specs.declared.request.Request.{Request}
use Rattle.ec_txn.specs.declared.ctx.Ctx.{Ctx}
use Rattle.ec_txn.specs.declared.opening.Opening.{Opening}
use Rattle.ec_txn.specs.declared.opening.Opening.TheVariants.{Lock as Locking}
use Rattle.ec_txn.specs.declared.stage.Next.TheVariants.{Go, Say}
use Rattle.ec_read.specs.declared.read.ReadStage.{ReadStage}
use Rattle.ec_read.specs.declared.read.ReadStage.TheVariants.{Opens, Reads}
use Rattle.ec_read.specs.Read.{OfFile, OfKind, ReadFollows, ReadJudges, len_in, read_asks, read_table, reading_of}
use Rattle.ec_read.specs.Stat.{StatJudges, stat_table}
use Rattle.ec_law_calls.specs.Parts.{Fits, GoesInOrder, IsNext, Part, Works}
use Rattle.ec_law_calls.proofs.Asking.{go_is, go_say, opening_fits, opening_next, opening_part, reading_works}

-- a stat

stat_ends : (c : Account) (grouped : Grouped) (q : Opening) → StatJudges c grouped (Go q) → opening_part q ≡ Works
stat_ends c grouped q e = absurd (go_say q _ e)

pub stat_order : GoesInOrder Shared stat_table
stat_order = record {
  part = opening_part;
  first = λ given q s. ap opening_part (go_is q (Locking 0) s.1);
  asks = λ o c x r e. opening_fits Shared o c x r e;
  next = λ p q c f. opening_next opening_part (λ o. o) StatJudges (λ o. refl) stat_ends p c q f;
  again = λ p e. absurd (let x : false ≡ true = e in cc);
}

-- a read

abbrev read_part : ReadStage → Part
read_part (Opens o) = opening_part o
read_part (Reads among size) = Works

never_opens : (t : Bool) (among size : ℕ) (answer : Rattle.ec_wire.specs.declared.answer.Answer.Answer) (q : ReadStage) → Go q ≡ cond t (Say answer) (Go (Reads among size)) → read_part q ≡ Works
never_opens true among size answer q e = absurd (go_say q answer e)
never_opens false among size answer q e = ap read_part (go_is q (Reads among size) e)

of_file : (op : Op) (group : Group) (q : ReadStage) → OfFile op group (Go q) → read_part q ≡ Works
of_file op group q (inl (le, e)) = absurd (go_say q _ e)
of_file op group q (inr (lt, among, are, e)) = never_opens (count_below 31 (is_in among) == 0) among group.head.size _ q e

of_kind : (kind : Kind) (op : Op) (group : Group) (q : ReadStage) → OfKind kind op group (Go q) → read_part q ≡ Works
of_kind File op group q e = of_file op group q e
of_kind Dir op group q e = absurd (go_say q _ e)

read_judged : (c : Account) (grouped : Grouped) (q : ReadStage) → ReadJudges c grouped (Go q) → read_part q ≡ Works
read_judged c (Found group) q e = of_kind group.head.kind c.given.op group q e
read_judged c (Gone bricks) q e = absurd (go_say q _ e)
read_judged c (Fewer most) q e = absurd (go_say q _ e)

read_first : (t : Bool) (answer : Rattle.ec_wire.specs.declared.answer.Answer.Answer) (p q : ReadStage) → Go q ≡ cond t (Say answer) (Go p) → q ≡ p
read_first true answer p q e = absurd (go_say q answer e)
read_first false answer p q e = go_is q p e

read_fits : (x : Ctx) (p : ReadStage) (c : Account) (b : ℕ) (r : Request) → read_asks x p c b ≡ Some r → Fits Shared (read_part p) b r
read_fits x (Opens o) c b r e = opening_fits Shared o c b r e
read_fits x (Reads among size) c b r e = reading_works Shared (reading_of x c.given among size) c b r e

read_next : (x : Ctx) (p q : ReadStage) (c : Account) → ReadFollows x p c (Go q) → IsNext (read_part p) (read_part q)
read_next x (Opens o) q c f = opening_next read_part (λ o. Opens o) ReadJudges (λ o. refl) read_judged o c q f
read_next x (Reads among size) q c (inl (few, e)) = absurd (go_say q _ e)
read_next x (Reads among size) q c (inr (bytes, gives, e)) = absurd (go_say q _ e)

read_again_works : (x : Ctx) (p : ReadStage) → (read_table x).again p ≡ true → read_part p ≡ Works
read_again_works x (Opens o) e = absurd (cc)
read_again_works x (Reads among size) e = refl

pub read_order : (x : Ctx) → GoesInOrder Shared (read_table x)
read_order x = record {
  part = read_part;
  first = λ given q s. ap read_part (read_first (nat_lt (2 ^ 20) (len_in given.op)) _ (Opens (Locking 0)) q s.1);
  asks = λ p c b r e. read_fits x p c b r e;
  next = λ p q c f. read_next x p q c f;
  again = λ p e. read_again_works x p e;
}
