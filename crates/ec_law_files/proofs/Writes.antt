-- What a write and a truncate put: each chunk and cut is of the call's own stripes.
use Rattle.std.proofs.Common.{◌≡◌, inl, inr, ℕ, ◌+◌, ◌<◌, Bool, true, false, cond, refl, sym, ◌∙◌, ap, subst, arith, List, [], length, Some}
use Rattle.std.specs.Prelude.{nat_le, nat_lt, ◌^◌}
use Rattle.ec_answers.specs.declared.grouped.Group.{Group}
use Rattle.ec_attr.specs.declared.kind.LockKind.TheVariants.{Exclusive}
use Rattle.ec_conduct.specs.Account.{Account}
use Rattle.ec_conduct.specs.Given.{Given, bricks_of, quorum_of}
use Rattle.ec_txn.specs.Ballot.{ballot_asks, count_serving}
use Rattle.ec_txn.specs.ReadPhase.{reading_asks}
use Rattle.ec_txn.specs.Rounds.{Asks, subject}
use Rattle.ec_txn.specs.declared.ballot.Ballot.{Ballot}
use Rattle.ec_txn.specs.declared.ballot.Ballot.TheVariants.{Pre, Post, Clear}
use Rattle.ec_txn.specs.declared.ctx.Ctx.{Ctx}
use Rattle.ec_txn.specs.declared.opening.Opening.TheVariants.{Lock as Locking}
use Rattle.ec_txn.specs.declared.stage.Next.{Next}
use Rattle.ec_txn.specs.declared.stage.Next.TheVariants.{Go, Say}
use Rattle.ec_wire.specs.declared.op.Op.{Op}
use Rattle.ec_wire.specs.declared.phase.Phase.TheVariants.{Write as WritePhase}
use Rattle.ec_wire.specs.declared.answer.Answer.{Answer}
use Rattle.ec_wire.specs.declared.request.Request.{Request}
use Rattle.ec_write.specs.During.{DuringWrite, IsWritingAt}
use Rattle.ec_write.specs.Numbers.{count_less}
use Rattle.ec_write.specs.Range.{count_stripes, data_of, first_stripe, off_of}
use Rattle.ec_write.specs.Sendings.{Fills, write_fills}
use Rattle.ec_write.specs.Stripes.{list_at}
use Rattle.ec_write.specs.Write.{IsWrite, is_short, says_size, write_table}
use Rattle.ec_write.specs.WriteSound.{write_sound}
use Rattle.ec_write.specs.Writings.{of_write, wide}
use Rattle.ec_write.specs.declared.stage.WriteStage.{WriteStage}
use Rattle.ec_write.specs.declared.stage.WriteStage.TheVariants as writing
use Rattle.ec_law_calls.proofs.Asking.{go_is, go_say, go_when, if_quorum, where_is}
use Rattle.ec_law_files.specs.Stripes.{IsOwn, Making, WritesStripes}
use Rattle.ec_law_files.proofs.Coded.{codes_there, group_there, made_there, making}
use Rattle.ec_law_files.proofs.Quiet.{clear_untold, opening_untold, posts_told, pre_untold, reading_untold}
use Rattle.ec_law_files.proofs.Sent.{IsSo, is_told, untold}
use Rattle.ec_law_files.proofs.Stages.{Asked, IsFree, MakesStripes}

-- ## The stage that writes

module _ (group : Group) (off : ℕ) (content : List ℕ) (size : ℕ) (lists : List (List (List ℕ))) (f : Asks) (d : Account) (l : IsWritingAt d.given d group off content size lists f) (fills : Fills d.given.op group.head.size off content size)
    (range : (n : ℕ) → n ≡ count_stripes (quorum_of d.given) off (length content) → WritesStripes d.given.op (quorum_of d.given) group.head.size (first_stripe (quorum_of d.given) off) n) where
  pub written : (y : ℕ) (r : Request) → f y ≡ Some r → (is_told r ≡ true) × IsSo (IsOwn (making group off content size lists f d l fills)) d y r
  written y r e =
      let a = l.changing.asks y r e in
      let len : length (list_at lists y) ≡ count_stripes (quorum_of d.given) off (length content) = l.coded.len y a.0 in (
        ap is_told a.5,
        λ c on given. subst (IsOwn (making group off content size lists f d l fills) c y) (sym a.5) (record {
          on = ap (λ (v : Given). subject v.op) (sym given);
          group = group_there group off content size lists f d l fills c on given;
          range = subst (λ (v : Given). WritesStripes v.op (quorum_of v) group.head.size (first_stripe (quorum_of d.given) off) (length (list_at lists y))) (sym given) (range (length (list_at lists y)) len);
          made = λ i less. made_there group off content size lists f d l fills c on given i (subst (λ (n : ℕ). i < n) len less);
          codes = λ i less. codes_there group off content size lists f d l fills c on given y i a.0 (subst (λ (n : ℕ). i < n) len less);
        }),
      )

-- ## A write

write_range : (v : Given) (size n : ℕ) → IsWrite v.op → n ≡ count_stripes (quorum_of v) (off_of v.op) (length (data_of v.op)) → WritesStripes v.op (quorum_of v) size (first_stripe (quorum_of v) (off_of v.op)) n
write_range v size n is e =
    of_write (λ (o : Op). n ≡ count_stripes (quorum_of v) (off_of o) (length (data_of o)) → WritesStripes o (quorum_of v) size (first_stripe (quorum_of v) (off_of o)) n) v.op is
    (λ g off bytes e. (refl, e ∙ sym (count_less (quorum_of v) off (length bytes) (let z = wide v in omega (arith, z))))) e

abbrev pub early_ballot : Ballot → Bool
early_ballot (Pre group) = true
early_ballot (Post group) = false
early_ballot (Clear group) = false

abbrev write_early : WriteStage → Bool
write_early (writing.Opens o) = true
write_early (writing.Votes b) = early_ballot b
write_early (writing.Reads group reading front) = true
write_early (writing.Writes group lists) = false

abbrev pub LateBallot : Making → Ballot → Type 0
LateBallot w (Pre group) = ⊥
LateBallot w (Post group) = group.head ≡ w.head
LateBallot w (Clear group) = Unit {0}

abbrev write_fits : Making → WriteStage → Type 0
write_fits w (writing.Opens o) = ⊥
write_fits w (writing.Votes b) = LateBallot w b
write_fits w (writing.Reads group reading front) = ⊥
write_fits w (writing.Writes group lists) = group.head ≡ w.head

abbrev pub nothing_made : Group → Making
nothing_made group = record { head = group.head; stripe = λ s. [] }

module _ (x : Ctx) (given : Given) where
  write_again : (p : WriteStage) (c : Account) (y : ℕ) (r : Request) → (write_table x).again p ≡ true → (write_table x).asks p c y ≡ Some r → IsFree x (write_table x) (DuringWrite x) (write_sound x) given y r
  write_again (writing.Reads group reading front) c y r so e = λ w d is. untold w d y r (reading_untold reading c y r (where_is (nat_lt reading.start 31) (reading_asks reading c) y r e))
  write_again (writing.Opens o) c y r so e = absurd (cc)
  write_again (writing.Votes b) c y r so e = absurd (cc)
  write_again (writing.Writes group lists) c y r so e = absurd (cc)

  write_begins : (q : WriteStage) → (write_table x).starts given (Go q) → write_early q ≡ true
  write_begins q (is, e) = by _ _ (nat_lt (2 ^ 20) (length (data_of given.op))) (nat_lt (2 ^ 40) (off_of given.op + length (data_of given.op))) e
    where
      by : (a b : Answer) (s t : Bool) → Go q ≡ cond s (Say a) (cond t (Say b) (Go (writing.Opens (Locking 0)))) → write_early q ≡ true
      by a b true t e = absurd (go_say q _ e)
      by a b false true e = absurd (go_say q _ e)
      by a b false false e = ap write_early (go_is q (writing.Opens (Locking 0)) e)

  write_quiet : (q : WriteStage) (c : Account) (y : ℕ) (r : Request) → write_early q ≡ true → (write_table x).asks q c y ≡ Some r → IsFree x (write_table x) (DuringWrite x) (write_sound x) given y r
  write_quiet (writing.Opens o) c y r early e = λ w d is. untold w d y r (opening_untold Exclusive o c y r e)
  write_quiet (writing.Votes (Pre group)) c y r early e = λ w d is. untold w d y r (pre_untold group c y r (where_is (is_short c.given.op) (ballot_asks (Pre group) c) y r e))
  write_quiet (writing.Votes (Post group)) c y r early e = absurd (cc)
  write_quiet (writing.Votes (Clear group)) c y r early e = absurd (cc)
  write_quiet (writing.Reads group reading front) c y r early e = λ w d is. untold w d y r (reading_untold reading c y r (where_is (nat_lt reading.start 31) (reading_asks reading c) y r e))
  write_quiet (writing.Writes group lists) c y r early e = absurd (cc)

  write_posts : (w : Making) (group : Group) (c d : Account) → group.head ≡ w.head → c.given ≡ given → d.given ≡ given → DuringWrite x (writing.Votes (Post group)) d ((write_table x).asks (writing.Votes (Post group)) c) → Asked x (write_table x) (DuringWrite x) (write_sound x) given w (writing.Votes (Post group)) c d
  write_posts w group c d head cg dg dur = inl (λ y r e. posts_told w group c d head dur.1.group (cg ∙ sym dg) y r (where_is (is_short c.given.op) (ballot_asks (Post group) c) y r e))

  write_clears : (w : Making) (group : Group) (c d : Account) → Asked x (write_table x) (DuringWrite x) (write_sound x) given w (writing.Votes (Clear group)) c d
  write_clears w group c d = inr (λ y r e v z is. untold v z y r (clear_untold group c y r (where_is (is_short c.given.op) (ballot_asks (Clear group) c) y r e)))

  write_goes : (q : WriteStage) (c d : Account) → write_early q ≡ false → c.given ≡ given → d.given ≡ given → DuringWrite x q d ((write_table x).asks q c) → (w : Making) × write_fits w q × Asked x (write_table x) (DuringWrite x) (write_sound x) given w q c d
  write_goes (writing.Opens o) c d late cg dg dur = absurd (cc)
  write_goes (writing.Votes (Pre group)) c d late cg dg dur = absurd (cc)
  write_goes (writing.Votes (Post group)) c d late cg dg dur = (nothing_made group, refl, write_posts (nothing_made group) group c d refl cg dg dur)
  write_goes (writing.Votes (Clear group)) c d late cg dg dur = (nothing_made group, tt, write_clears (nothing_made group) group c d)
  write_goes (writing.Reads group reading front) c d late cg dg dur = absurd (cc)
  write_goes (writing.Writes group lists) c d late cg dg dur =
      let f = (write_table x).asks (writing.Writes group lists) c in
      let fills = write_fills d.given.op dur.0.0 group.head.size in
      let off = off_of d.given.op in
      let content = data_of d.given.op in (
        making group off content group.head.size lists f d dur.1.1 fills,
        refl,
        inl (written group off content group.head.size lists f d dur.1.1 fills (λ n e. write_range d.given group.head.size n dur.0.0 e)),
      )

  write_further : (w : Making) (p q : WriteStage) (c d : Account) → write_fits w p → (write_table x).follows p c (Go q) → c.given ≡ given → d.given ≡ given → DuringWrite x q d ((write_table x).asks q c) → write_fits w q × Asked x (write_table x) (DuringWrite x) (write_sound x) given w q c d
  write_further w (writing.Opens o) q c d fits follows cg dg dur = absurd fits
  write_further w (writing.Reads group reading front) q c d fits follows cg dg dur = absurd fits
  write_further w (writing.Votes (Pre group)) q c d fits follows cg dg dur = absurd fits
  write_further w (writing.Votes (Post group)) q c d fits follows cg dg dur =
      let e = go_when (nat_le (bricks_of c.given) (count_serving c group)) (writing.Votes (Clear group)) q (says_size c group) (if_quorum c group _ (λ (next : Next WriteStage). next ≡ cond (nat_le (bricks_of c.given) (count_serving c group)) (Go (writing.Votes (Clear group))) (Say (says_size c group))) q follows) in
      subst (λ (z : WriteStage). write_fits w z × Asked x (write_table x) (DuringWrite x) (write_sound x) given w z c d) (sym e) (tt, write_clears w group c d)
  write_further w (writing.Votes (Clear group)) q c d fits follows cg dg dur = absurd (go_say q _ follows)
  write_further w (writing.Writes group lists) q c d fits follows cg dg dur =
      let e = go_is q (writing.Votes (Post group)) (if_quorum c group WritePhase (λ (next : Next WriteStage). next ≡ Go (writing.Votes (Post group))) q follows) in
      let dur' = subst (λ (z : WriteStage). DuringWrite x z d ((write_table x).asks z c)) e dur in
      subst (λ (z : WriteStage). write_fits w z × Asked x (write_table x) (DuringWrite x) (write_sound x) given w z c d) (sym e) (fits, write_posts w group c d fits cg dg dur')

  pub write_makes : MakesStripes x (write_table x) (DuringWrite x) (write_sound x) given
  write_makes = record { early = write_early; fits = write_fits; again = write_again; starts = write_begins; quiet = write_quiet; goes = write_goes; further = write_further }
