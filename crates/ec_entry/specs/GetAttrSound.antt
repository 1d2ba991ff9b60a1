-- The table of a getattr keeps the conduct.
use Rattle.std.proofs.Common.{◌≡◌, true, false, refl, sym, ◌∙◌, subst}
use Rattle.ec_attr.specs.declared.kind.LockKind.TheVariants.{Shared}
use Rattle.ec_conduct.specs.Account.{Account}
use Rattle.ec_conduct.specs.Conduct.{IsEarned}
use Rattle.ec_conduct.specs.Given.{Given}
use Rattle.ec_conduct.specs.Opened.{opened}
use Rattle.ec_txn.specs.declared.ctx.Ctx.{Ctx}
use Rattle.ec_txn.specs.declared.opening.Opening.{Opening}
use Rattle.ec_txn.specs.declared.opening.Opening.TheVariants.{Lock, Query}
use Rattle.ec_txn.specs.declared.stage.Next.TheVariants.{Go, Say}
use Rattle.ec_txn.specs.Opening.{InOpening, opening_asks}
use Rattle.ec_txn.specs.Rounds.{Asks, IsIdle, IsRound, IsUnlocked, subject}
use Rattle.ec_txn.specs.Tables.{IsIn, IsOf, IsSound}
use Rattle.ec_txn.proofs.Openings.{lock_goes, opening_begins, opening_may, opening_on}
use Rattle.ec_wire.specs.declared.answer.Answer.{Answer}
use Rattle.ec_wire.specs.declared.op.Op.{Op}
use Rattle.ec_wire.specs.declared.op.Op.TheVariants.{Write, Truncate, Read, Stat, Create, Mkdir, Unlink, Lookup, Readdir, Heal, SetAttr, GetAttr, Rename, Rmdir, Scrub, Sweep}
use Rattle.ec_entry.specs.GetAttr.{DuringGetAttr, IsGetAttr, GetAttrJudges, getattr_answer, getattr_table}

-- a getattr changes nothing, so that it may answer anything
earns : (c : Account) (op : Op) (answer : Answer) → IsGetAttr op → IsEarned c op answer
earns c (GetAttr g) answer i = tt
earns c (Write g off bytes) answer i = absurd i
earns c (Truncate g size) answer i = absurd i
earns c (Read g off len via) answer i = absurd i
earns c (Create g name) answer i = absurd i
earns c (Mkdir g name) answer i = absurd i
earns c (Unlink g name) answer i = absurd i
earns c (Lookup g name) answer i = absurd i
earns c (Readdir g) answer i = absurd i
earns c (Heal g) answer i = absurd i
earns c (SetAttr g attr) answer i = absurd i
earns c (Stat g) answer i = absurd i
earns c (Rename old name new to) answer i = absurd i
earns c (Rmdir g name) answer i = absurd i
earns c (Scrub g settle) answer i = absurd i
earns c (Sweep full) answer i = absurd i

go_same : (a b : Opening) → Go a ≡ Go b → a ≡ b
go_same a b e = cc

go_say : (a : Opening) (b : Answer) → Go a ≡ Say b → ⊥
go_say a b e = cc

begins : (x : Ctx) (given : Given) (q : Opening) → IsOf x given → getattr_table.starts given (Go q) → DuringGetAttr q (opened given) (getattr_table.asks q (opened given))
begins x given q of s = subst (λ (o : Opening). DuringGetAttr o (opened given) (opening_asks Shared o (opened given))) (sym (go_same q (Lock 0) s.1)) (s.0, opening_begins x given Shared of)

goes : (x : Ctx) (given : Given) (p q : Opening) (c : Account) (f : Asks) (d e : Account) → IsIn x given c → DuringGetAttr p c f → IsRound (subject given.op) c f d → IsIdle d
    → getattr_table.follows p d (Go q) → IsIn x given e → IsUnlocked (subject given.op) d e → DuringGetAttr q e (getattr_table.asks q d)
goes x given (Lock brick) q c f d e a l r idle follows b u = (
  subst (λ (v : Given). IsGetAttr v.op) (a.given_is ∙ sym b.given_is) l.0,
  lock_goes (λ o. o) GetAttrJudges (InOpening Shared) (opening_asks Shared) x given Shared brick q c f d e (λ o y h i. i) (λ o y. refl) a l.1 r idle follows b u,
)
goes x given Query q c f d e a l r idle follows b u = absurd (go_say q (getattr_answer follows.0) follows.2)

pub getattr_sound : (x : Ctx) → IsSound x getattr_table DuringGetAttr
getattr_sound x = record {
  begins = begins x;
  earned_first = λ given answer of s. earns (opened given) given.op answer s.0;
  goes = goes x;
  earned = λ given p answer c f d e a l r idle follows u. earns e given.op answer (subst (λ (v : Given). IsGetAttr v.op) a.given_is l.0);
  again = λ given p c f d e a l r. absurd (let v : false ≡ true = e in cc);
  on = λ given p c f a l. opening_on x given Shared p c f a l.1;
  may = λ given p c f h d a l s part b r e n. opening_may x given Shared p c f h d a l.1 s part b r e n;
}
