-- A read that is answered bytes was replied the chunks that they decode to.
use Rattle.std.proofs.Common.{◌≡◌, inl, inr, ℕ, ◌+◌, ◌-◌, ◌/◌, ◌^◌, ◌<◌, ◌≤◌, ◌==◌, ◌&&◌, nat_le, nat_lt, Bool, false, true, cond, refl, sym, ◌∙◌, ap, subst, arith, List, [], ◌∷◌, Option, Some, None, eq-eqb}
use Rattle.std.specs.Prelude.{slice_index}
use Rattle.std.specs.List.{Contains}
use Rattle.std.proofs.lemmas.Bool.{and_parts}
use Rattle.ec_answers.specs.declared.grouped.Group.{Group}
use Rattle.ec_answers.specs.declared.grouped.Grouped.{Grouped}
use Rattle.ec_answers.specs.declared.grouped.Grouped.TheVariants.{Group as Found, Gone, Fewer}
use Rattle.ec_attr.specs.Bricks.{count_below, is_in}
use Rattle.ec_attr.specs.declared.kind.Kind.{Kind}
use Rattle.ec_attr.specs.declared.kind.Kind.TheVariants.{File, Dir}
use Rattle.ec_attr.specs.declared.kind.LockKind.TheVariants.{Shared}
use Rattle.ec_conduct.specs.Account.{Account, Exchange}
use Rattle.ec_conduct.specs.Done.{reply_to}
use Rattle.ec_conduct.specs.Given.{Given, bricks_of, quorum_of}
use Rattle.ec_conduct.specs.Phases.{is_read_from, is_via, via_of}
use Rattle.ec_field.specs.Code.{IsCode}
use Rattle.ec_read.specs.Decoded.{AreBytes, IsByteAt, IsDecoded, chunk_given}
use Rattle.ec_read.specs.Range.{end_of, stripes_to}
use Rattle.ec_read.specs.Read.{AreAmong, DuringRead, EndsBy, InRead, Judges, OfKind, ReadFollows, first_of, is_named, len_in, off_in, read_of, read_table, reading_of, via_in}
use Rattle.ec_read.specs.declared.read.ReadStage.{ReadStage}
use Rattle.ec_read.specs.declared.read.ReadStage.TheVariants.{Opens as OpensAt, Reads}
use Rattle.ec_stripe.specs.Span.{stripe_bytes}
use Rattle.ec_txn.specs.Digest.{last_read}
use Rattle.ec_txn.specs.ReadPhase.{IsReading, has_chunks, is_done, is_first, places_of}
use Rattle.ec_txn.specs.Replies.{last_reply, replied}
use Rattle.ec_txn.specs.Rounds.{Asks, IsIdle, IsRound, subject}
use Rattle.ec_txn.specs.Tables.{IsIn}
use Rattle.ec_txn.specs.declared.ctx.Ctx.{Ctx}
use Rattle.ec_txn.specs.declared.opening.Opening.TheVariants.{Lock as Locking, Query}
use Rattle.ec_txn.specs.declared.reading.Reading.{Reading}
use Rattle.ec_txn.specs.declared.stage.Next.{Next}
use Rattle.ec_txn.specs.declared.stage.Next.TheVariants.{Go, Say}
use Rattle.ec_wire.specs.declared.answer.Answer.{Answer}
use Rattle.ec_wire.specs.declared.answer.Answer.TheVariants.{Bytes, IsDir, NoQuorum, NoSuch, TooLong}
use Rattle.ec_wire.specs.declared.phase.Phase.TheVariants.{Lock as LockPhase, Query as QueryPhase, Read as ReadPhase}
use Rattle.ec_wire.specs.declared.reply.Reply.{Reply}
use Rattle.ec_wire.specs.declared.request.Request.{Request}
use Rattle.ec_wire.specs.declared.request.Request.TheVariants.{ReadChunks}
use Rattle.ec_law_causes.specs.Counted.{Windows, is_grouped, may_read}
use Rattle.ec_law_causes.proofs.Along.{NonePast, Tells, windows}
use Rattle.ec_law_causes.proofs.Members.{HasMembers}
use Rattle.ec_law_causes.proofs.OpeningSteps.{queried}
use Rattle.ec_law_causes.proofs.Queried.{HasGroup, JudgedIn, judged}
use Rattle.ec_law_causes.proofs.Ranks.{unreplied}
use Rattle.ec_law_causes.proofs.Read.{HereRead, HereReads}
use Rattle.ec_law_causes.proofs.Reading.{gave_at, reading_members}
use Rattle.ec_law_causes.proofs.Rounds.{IsOver, over_at}
use Rattle.ec_law_replies.specs.Replies.{GivesBytes, GivesRange}

-- what an answer of bytes comes of
abbrev pub BytesCome : Given → Windows → Answer → Type 0
BytesCome given w answer = (bytes : List ℕ) → answer ≡ Bytes bytes → GivesBytes given w bytes

-- ## Other answers

abbrev gives_bytes : Next ReadStage → Bool
gives_bytes (Say (Bytes bytes)) = true
gives_bytes next = false

-- what follows gives no bytes
none_given : {Z : Type 0} (answer : Answer) (next : Next ReadStage) (bytes : List ℕ) → Say answer ≡ next → gives_bytes next ≡ false → answer ≡ Bytes bytes → Z
none_given answer next bytes e n is = absurd (let v : true ≡ false = ap (λ (a : Answer). gives_bytes (Say a)) (sym is) ∙ (ap gives_bytes e ∙ n) in cc)

when_neither : (t : Bool) (a b : Next ReadStage) → gives_bytes a ≡ false → gives_bytes b ≡ false → gives_bytes (cond t a b) ≡ false
when_neither true a b e f = e
when_neither false a b e f = f

some_bytes : (a b : List ℕ) → Bytes a ≡ Bytes b → a ≡ b
some_bytes a b e = cc

said_bytes : (answer : Answer) (a b : List ℕ) → ◌≡◌ {A = Next ReadStage} (Say answer) (Say (Bytes a)) → answer ≡ Bytes b → b ≡ a
said_bytes answer a b e is = some_bytes b a (sym is ∙ Rattle.ec_law_causes.proofs.OpeningSteps.say_same {P = ReadStage} answer (Bytes a) (Say answer) refl e)

-- ## Who was asked for chunks

via_same : (op : Rattle.ec_wire.specs.declared.op.Op.Op) → via_of op ≡ via_in op
via_same (Rattle.ec_wire.specs.declared.op.Op.TheVariants.Read g off len via) = refl
via_same op = refl

named_same : (via : Option ℕ) (y : ℕ) → is_via via y ≡ is_named via y
named_same None y = refl
named_same (Some bits) y = refl

-- of a group the bricks that may be read are those of the set
may_be : (given : Given) (w : Windows) (group : Group) (among y : ℕ) → HasGroup given w group → AreAmong among group.bricks (via_in given.op) → y < 31 → is_in among y ≡ may_read given w y
may_be given w group among y h are less = are y less ∙ sym ((λ i. h.bricks y i && is_via (via_same given.op i) y) ∙ ap (λ (u : Bool). is_in group.bricks y && u) (named_same (via_in given.op) y))

-- the last exchange is among them
pub contains_last : (es old : List Exchange) (k e : Exchange) → es ≡ k ∷ old → k ≡ e → Contains es e
contains_last es old k e is same = subst (λ (xs : List Exchange). Contains xs e) (sym is) (0, omega arith, same)

-- The bytes stay what replies decode to, where these bricks' replies stay.
bytes_of : (k algorithm which : ℕ) (old new : ℕ → Option Reply) (first off end : ℕ) (bytes : List ℕ) → ((b : ℕ) → is_in which b ≡ true → old b ≡ new b) → AreBytes k algorithm which old first off end bytes → AreBytes k algorithm which new first off end bytes
bytes_of k algorithm which old new first off end bytes same are = record { many = are.many; each = λ i less. byte_of (off + i) (slice_index bytes i) (are.each i less) }
  where
    byte_of : (place byte : ℕ) → IsByteAt k algorithm which old first place byte → IsByteAt k algorithm which new first place byte
    byte_of place byte b = record {
      stripe = b.stripe;
      decoded = record {
        is_stripe = b.decoded.is_stripe;
        codes = λ y less t. subst (λ (o : Option Reply). IsCode k algorithm y b.stripe (chunk_given o (place / stripe_bytes k - first))) (same y t) (b.decoded.codes y less t);
      };
      byte_is = b.byte_is;
    }

module _ (x : Ctx) (given : Given) (c : Account) (f : Asks) (d : Account) (isin : IsIn x given c) (none : NonePast (subject given.op) (bricks_of given) d) (r : IsRound (subject given.op) c f d) (idle : IsIdle d) where
  dg : d.given ≡ given
  dg = r.given ∙ isin.given_is

  module _ (among size : ℕ) (here : HereReads x given among size c f) (l : InRead x (Reads among size) c f) where
    abbrev reading : Reading
    reading = reading_of x given among size

    abbrev first : ℕ
    first = off_in given.op / stripe_bytes (quorum_of given)

    is_reading : IsReading (subject given.op) (bricks_of given) (reading_of x given among size) c f
    is_reading = subst (λ (v : Given). IsReading (subject v.op) (bricks_of v) (reading_of x v among size) c f) isin.given_is l

    members : HasMembers given here.group 5 d
    members = reading_members given here.group 4 (reading_of x given among size) c f d isin.given_is here.reading is_reading r idle 5 (omega arith) (omega arith)

    grouped : (y : ℕ) → y < 31 → is_in among y ≡ true → is_grouped given (windows given d) y ≡ true
    grouped y less t = (and_parts (is_grouped given (windows given d) y) (is_via (via_of given.op) y) (sym (may_be given (windows given d) here.group among y members.group_is here.among_are less) ∙ t)).0

    -- a brick that gave chunks was asked for them, and this was its last reply
    record Gave (y : ℕ) : Type 0 where
      pub below : y < bricks_of given
      pub grouped_is : is_grouped given (windows given d) y ≡ true
      pub gave : has_chunks (reply_to (is_read_from (off_in given.op / stripe_bytes (quorum_of given))) (windows given d y)) ≡ true
      pub grant : ℕ
      pub number : ℕ
      pub exchanged : Contains (windows given d y) (record {
        number = number;
        request = ReadChunks (record { 0 = subject given.op }) grant (off_in given.op / stripe_bytes (quorum_of given)) (stripes_to (quorum_of given) (end_of (off_in given.op) (len_in given.op) size) - off_in given.op / stripe_bytes (quorum_of given));
        reply = reply_to (is_read_from (off_in given.op / stripe_bytes (quorum_of given))) (windows given d y);
      })
      pub last : replied d (subject given.op) y ≡ reply_to (is_read_from (off_in given.op / stripe_bytes (quorum_of given))) (windows given d y)

    gave_chunks : (y : ℕ) → is_done (reading_of x given among size) (places_of d (subject given.op)) (replied d (subject given.op)) y ≡ true → Gave y
    gave_chunks y done = by (f y) refl
      where
        parts : (is_in among y ≡ true) × ((is_first (last_read (windows given d y)) (off_in given.op / stripe_bytes (quorum_of given)) && has_chunks (last_reply (windows given d y))) ≡ true)
        parts = and_parts (is_in among y) (is_first (last_read (windows given d y)) (off_in given.op / stripe_bytes (quorum_of given)) && has_chunks (last_reply (windows given d y))) done

        chunks : has_chunks (reply_to (is_read_from (off_in given.op / stripe_bytes (quorum_of given))) (windows given d y)) ≡ true
        chunks = sym (gave_at given here.group 4 (reading_of x given among size) c f d isin.given_is here.reading is_reading r idle has_chunks refl y) ∙ parts.1

        by : (a : Option Request) → f y ≡ a → Gave y
        by None e =
            let same : windows given d y ≡ windows given c y = subst (λ (a : Option Request). IsOver a (windows given c y) (windows given d y)) e (over_at (subject given.op) c f d r idle y) in
            let nothing : reply_to (is_read_from first) (windows given d y) ≡ None = ap (reply_to (is_read_from first)) same ∙ unreplied (is_read_from first) (windows given c y) (here.reading.unread y) in
            absurd (let v : false ≡ true = sym (ap has_chunks nothing) ∙ chunks in cc)
        by (Some q) e =
            let w : IsOver (Some q) (windows given c y) (windows given d y) = subst (λ (a : Option Request). IsOver a (windows given c y) (windows given d y)) e (over_at (subject given.op) c f d r idle y) in
            let a = is_reading.asks y q e in
            let passes : is_read_from first q ≡ true = ap (is_read_from first) a.4 ∙ eq-eqb first first refl in
            let reply : reply_to (is_read_from first) (windows given d y) ≡ w.1 = ap (reply_to (is_read_from first)) w.2 ∙ rw passes refl in
            record {
              below = a.0;
              grouped_is = grouped y (let less = a.0 in let n = given.geometry.bricks in omega (arith, less, n)) parts.0;
              gave = chunks;
              grant = a.1.number;
              number = w.0;
              exchanged = contains_last (windows given d y) (windows given c y) (record { number = w.0; request = q; reply = w.1 }) _ w.2 (λ i. record { number = w.0; request = a.4 i; reply = sym reply i });
              last = ap last_reply w.2 ∙ sym reply;
            }

    gives_range : (bytes : List ℕ) → Rattle.ec_read.specs.Decoded.Gives (quorum_of given) given.geometry.algorithm (reading_of x given among size) (places_of d (subject given.op)) (replied d (subject given.op)) (off_in given.op) (end_of (off_in given.op) (len_in given.op) size) bytes
        → GivesRange given (windows given d) here.group.head bytes
    gives_range bytes g = record {
      first = first;
      first_is = refl;
      which = g.which;
      enough = g.enough;
      each = λ y t. (let k = gave_chunks y (g.done y t) in (k.below, k.grouped_is, k.gave));
      count = stripes_to (quorum_of given) (end_of (off_in given.op) (len_in given.op) size) - first;
      covers = subst (λ (n : ℕ). stripes_to (quorum_of given) (end_of (off_in given.op) (len_in given.op) n) ≤ first + (stripes_to (quorum_of given) (end_of (off_in given.op) (len_in given.op) size) - first)) (sym here.size_is)
          (covered (stripes_to (quorum_of given) (end_of (off_in given.op) (len_in given.op) size)) first);
      asked = λ y t. (let k = gave_chunks y (g.done y t) in (record { 0 = subject given.op }, k.grant, k.number, k.exchanged));
      decoded = subst (λ (n : ℕ). AreBytes (quorum_of given) given.geometry.algorithm g.which (λ y. reply_to (is_read_from first) (windows given d y)) first (off_in given.op) (end_of (off_in given.op) (len_in given.op) n) bytes) (sym here.size_is)
          (bytes_of (quorum_of given) given.geometry.algorithm g.which (replied d (subject given.op)) (λ y. reply_to (is_read_from first) (windows given d y)) first (off_in given.op) (end_of (off_in given.op) (len_in given.op) size) bytes (λ y t. (gave_chunks y (g.done y t)).last) g.decoded);
    }
      where
        covered : (a b : ℕ) → a ≤ b + (a - b)
        covered a b = omega arith

    reads_come : (answer : Answer) → ReadFollows x (Reads among size) d (Say answer) → BytesCome given (windows given d) answer
    reads_come answer follows bytes is = by ends
      where
        ends : EndsBy (quorum_of given) given.geometry.algorithm (reading_of x given among size) (places_of d (subject given.op)) (replied d (subject given.op)) (off_in given.op) (end_of (off_in given.op) (len_in given.op) size) (Say answer)
        ends = subst (λ (v : Given). EndsBy (quorum_of v) v.geometry.algorithm (reading_of x v among size) (places_of d (subject v.op)) (replied d (subject v.op)) (off_in v.op) (end_of (off_in v.op) (len_in v.op) size) (Say answer)) dg follows

        by : EndsBy (quorum_of given) given.geometry.algorithm (reading_of x given among size) (places_of d (subject given.op)) (replied d (subject given.op)) (off_in given.op) (end_of (off_in given.op) (len_in given.op) size) (Say answer) → GivesBytes given (windows given d) bytes
        by (inl (few, v)) = none_given answer (Say (NoQuorum ReadPhase (count_below 31 (is_done (reading_of x given among size) (places_of d (subject given.op)) (replied d (subject given.op)))))) bytes v refl is
        by (inr (others, gave, v)) = record {
          head = here.group.head;
          head_is = members.group_is.head;
          kind = here.file;
          range = inr (here.some, gives_range bytes (subst (λ (bs : List ℕ). Rattle.ec_read.specs.Decoded.Gives (quorum_of given) given.geometry.algorithm (reading_of x given among size) (places_of d (subject given.op)) (replied d (subject given.op)) (off_in given.op) (end_of (off_in given.op) (len_in given.op) size) bs) (sym (said_bytes answer others bytes v is)) gave));
        }

  query_come : (answer : Answer) (grouped : Grouped) → JudgedIn given (windows given d) (λ answer. ⊥) grouped → Judges given.op grouped (Say answer) → BytesCome given (windows given d) answer
  query_come answer (Found group) h v bytes is = by group.head.kind refl v
    where
      by : (kind : Kind) → group.head.kind ≡ kind → OfKind kind given.op group (Say answer) → GivesBytes given (windows given d) bytes
      by Dir k v = none_given answer (Say IsDir) bytes v refl is
      by File k (inl (le, v)) = record { head = group.head; head_is = h.head; kind = k; range = inl (le, said_bytes answer [] bytes v is) }
      by File k (inr (some, among, are, v)) = none_given answer (read_of among group.head.size) bytes v (when_neither (count_below 31 (is_in among) == 0) (Say (NoQuorum ReadPhase 0)) (Go (Reads among group.head.size)) refl refl) is
  query_come answer (Gone bricks) h v bytes is = none_given answer (Say NoSuch) bytes v refl is
  query_come answer (Fewer most) h v bytes is = none_given answer (Say (NoQuorum QueryPhase most)) bytes v refl is

pub read_comes : (x : Ctx) → Tells x (read_table x) (DuringRead x) (HereRead x) BytesCome
read_comes x = record {
  first = λ given answer of s bytes is. none_given answer (first_of (len_in given.op)) bytes s.1 (when_neither (nat_lt (2 ^ 20) (len_in given.op)) (Say (TooLong (len_in given.op))) (Go (OpensAt (Locking 0))) refl refl) is;
  last = λ given p answer c f d isin none dur here r idle quiet follows. last given p answer c f d isin none dur here r idle follows;
}
  where
    last : (given : Given) (p : ReadStage) (answer : Answer) (c : Account) (f : Asks) (d : Account) → IsIn x given c → NonePast (subject given.op) (bricks_of given) d → DuringRead x p c f → HereRead x given p c f → IsRound (subject given.op) c f d → IsIdle d
        → ReadFollows x p d (Say answer) → BytesCome given (windows given d) answer
    last given (OpensAt (Locking brick)) answer c f d isin none dur here r idle follows = λ bytes is. none_given answer _ bytes follows
        (when_neither (nat_lt (brick + 1) (bricks_of d.given)) (Go (OpensAt (Locking (brick + 1)))) _ refl (when_neither (nat_le (quorum_of d.given) (Rattle.ec_txn.specs.Opening.count_locks d (subject d.given.op))) (Go (OpensAt Query)) (Say (NoQuorum LockPhase (Rattle.ec_txn.specs.Opening.count_locks d (subject d.given.op)))) refl refl)) is
    last given (OpensAt Query) answer c f d isin none dur here r idle (came, comes, is) =
        query_come x given c f d isin none r idle answer came (judged given d (r.given ∙ isin.given_is) (queried Shared given c f d isin.given_is dur.1 here.0 r idle none) (λ answer. ⊥) came comes) (subst (λ (v : Given). Judges v.op came (Say answer)) (r.given ∙ isin.given_is) is)
    last given (Reads among size) answer c f d isin none dur here r idle follows = reads_come x given c f d isin none r idle among size here.0 dur.1 answer follows
