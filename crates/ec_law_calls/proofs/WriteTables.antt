-- The tables of a write and a truncate go in order.
use Rattle.std.proofs.Common.{◌≡◌, inl, inr, ℕ, ◌+◌, ◌^◌, ◌==◌, nat_lt, Bool, true, false, cond, refl, sym, ap, subst, List, [], length, Option, Some, None}
use Rattle.ec_answers.specs.declared.grouped.Group.{Group}
use Rattle.ec_answers.specs.declared.grouped.Grouped.{Grouped}
use Rattle.ec_answers.specs.declared.grouped.Grouped.TheVariants.{Group as Found, Gone, Fewer}
use Rattle.ec_attr.specs.declared.geometry.Geometry.{Geometry}
use Rattle.ec_attr.specs.declared.kind.Kind.{Kind}
use Rattle.ec_attr.specs.declared.kind.Kind.TheVariants.{File, Dir}
use Rattle.ec_attr.specs.declared.kind.LockKind.TheVariants.{Exclusive}
use Rattle.ec_conduct.specs.Account.{Account}
use Rattle.ec_conduct.specs.Changes.{stripes_of}
use Rattle.ec_conduct.specs.Given.{quorum, quorum_of}
use Rattle.ec_wire.specs.declared.answer.Answer.{Answer}
use Rattle.ec_wire.specs.declared.op.Op.{Op}
use Rattle.ec_wire.specs.declared.request.Request.{Request}
use Rattle.ec_txn.specs.declared.ballot.Ballot.TheVariants.{Pre, Post}
use Rattle.ec_txn.specs.declared.ctx.Ctx.{Ctx}
use Rattle.ec_txn.specs.declared.opening.Opening.TheVariants.{Lock as Locking}
use Rattle.ec_txn.specs.declared.reading.Reading.{Reading}
use Rattle.ec_txn.specs.declared.stage.Next.{Next}
use Rattle.ec_txn.specs.declared.stage.Next.TheVariants.{Go, Say}
use Rattle.ec_txn.specs.Ballot.{ballot_asks, is_within}
use Rattle.ec_txn.specs.ReadPhase.{reading_asks}
use Rattle.ec_txn.specs.Rounds.{subject}
use Rattle.ec_write.specs.declared.stage.TruncateStage.{TruncateStage}
use Rattle.ec_write.specs.declared.stage.TruncateStage.TheVariants as cuts
use Rattle.ec_write.specs.declared.stage.WriteStage.{WriteStage}
use Rattle.ec_write.specs.declared.stage.WriteStage.TheVariants as writes
use Rattle.ec_write.specs.Range.{data_of, first_stripe, head_of, off_of}
use Rattle.ec_write.specs.Stripes.{list_at}
use Rattle.ec_write.specs.Truncate.{Trims, TruncateFollows, TruncateJudges, cut_request, low_of, says_to, to_of, trims_from, truncate_asks, truncate_judged, truncate_table}
use Rattle.ec_write.specs.Write.{AfterRead, GoesOn, Prepares, WriteFollows, WriteJudges, asks_of, first_of, is_short, judged, read_asks, says_size, second_of, write_request, write_starts, write_table}
use Rattle.ec_law_calls.specs.Parts.{Fits, GoesInOrder, IsNext, Part, Works, is_work}
use Rattle.ec_law_calls.proofs.Asking.{ballot_fits, ballot_next, ballot_part, go_is, go_say, go_when, if_quorum, member_is, opening_fits, opening_next, opening_part, reading_works, where_is}

-- a refusal, or what else comes
refused_or : {P : Type 0} (t : Bool) (answer : Answer) (next : Next P) (q : P) → Go q ≡ cond t (Say answer) next → Go q ≡ next
refused_or true answer next q e = absurd (go_say q answer e)
refused_or false answer next q e = e

reads_work : (reading : Reading) (c : Account) (x : ℕ) (r : Request) → read_asks reading c x ≡ Some r → is_work Exclusive r ≡ true
reads_work reading c x r e = reading_works Exclusive reading c x r (where_is (nat_lt reading.start 31) (reading_asks reading c) x r e)

-- ## A write

abbrev write_part : WriteStage → Part
write_part (writes.Opens o) = opening_part o
write_part (writes.Votes b) = ballot_part b
write_part (writes.Reads group reading front) = Works
write_part (writes.Writes group lists) = Works

-- a write of some bytes begins its ballot, where the version after it is within the limit
some_bytes : (t u : Bool) (group : Group) (limit size : Answer) (q : WriteStage) → Go q ≡ cond t (cond u (Go (writes.Votes (Pre group))) (Say limit)) (Say size) → write_part q ≡ Works
some_bytes true u group limit size q e = ap write_part (go_when u (writes.Votes (Pre group)) q limit e)
some_bytes false u group limit size q e = absurd (go_say q size e)

write_kind : (kind : Kind) (op : Op) (group : Group) (q : WriteStage) → Go q ≡ judged kind op group → write_part q ≡ Works
write_kind Dir op group q e = absurd (go_say q _ e)
write_kind File op group q e = some_bytes (nat_lt 0 (length (data_of op))) (is_within group.head) group _ _ q e

write_judged : (c : Account) (grouped : Grouped) (q : WriteStage) → WriteJudges c grouped (Go q) → write_part q ≡ Works
write_judged c (Found group) q e = write_kind group.head.kind c.given.op group q e
write_judged c (Gone bricks) q e = absurd (go_say q _ e)
write_judged c (Fewer most) q e = absurd (go_say q _ e)

write_fits : (p : WriteStage) (c : Account) (x : ℕ) (r : Request) → asks_of p c x ≡ Some r → Fits Exclusive (write_part p) x r
write_fits (writes.Opens o) c x r e = opening_fits Exclusive o c x r e
write_fits (writes.Votes b) c x r e = ballot_fits b c x r (where_is (is_short c.given.op) (ballot_asks b c) x r e)
write_fits (writes.Reads group reading front) c x r e = reads_work reading c x r e
write_fits (writes.Writes group lists) c x r e = let w = member_is group (write_request (subject c.given.op) (first_stripe (quorum_of c.given) (off_of c.given.op)) (list_at lists x)) c x r e in ap (is_work Exclusive) w.2

goes_on_works : (x : Ctx) (geometry : Geometry) (op : Op) (group : Group) (front back : List (List ℕ)) (stripe : Option ℕ) (q : WriteStage) → GoesOn x geometry op group front back stripe (Go q) → write_part q ≡ Works
goes_on_works x geometry op group front back None q (lists, coded, e) = ap write_part (go_is q (writes.Writes group lists) e)
goes_on_works x geometry op group front back (Some stripe) q e = ap write_part (go_is q _ e)

after_read_works : (x : Ctx) (t : Bool) (geometry : Geometry) (op : Op) (group : Group) (front stripe : List (List ℕ)) (q : WriteStage) → AfterRead t x geometry op group front stripe (Go q) → write_part q ≡ Works
after_read_works x true geometry op group front stripe q e = goes_on_works x geometry op group stripe [] (second_of geometry op group) q e
after_read_works x false geometry op group front stripe q e = goes_on_works x geometry op group front stripe None q e

prepares_works : (x : Ctx) (group : Group) (c : Account) (q : WriteStage) → Prepares x group c (Go q) → IsNext Works (write_part q)
prepares_works x group c q e = subst (λ (z : Part). IsNext Works z) (sym (goes_on_works x c.given.geometry c.given.op group [] [] (first_of c.given.geometry c.given.op group) q e)) tt

write_goes : (x : Ctx) (p q : WriteStage) (c : Account) → WriteFollows x p c (Go q) → IsNext (write_part p) (write_part q)
write_goes x (writes.Opens o) q c f = opening_next write_part (λ o. writes.Opens o) WriteJudges (λ o. refl) write_judged o c q f
write_goes x (writes.Votes b) q c f = ballot_next write_part (λ b. writes.Votes b) (Prepares x) says_size (λ b. refl) (prepares_works x) b c q f
write_goes x (writes.Reads group reading front) q c (inl (few, e)) = absurd (go_say q _ e)
write_goes x (writes.Reads group reading front) q c (inr (enough, stripe, decoded, e)) = subst (λ (z : Part). IsNext Works z) (sym (after_read_works x (reading.first == first_stripe (quorum c.given.geometry) (off_of c.given.op)) c.given.geometry c.given.op group front stripe q e)) tt
write_goes x (writes.Writes group lists) q c f = subst (λ (z : WriteStage). IsNext Works (write_part z)) (sym (go_is q (writes.Votes (Post group)) (if_quorum c group _ (λ next. next ≡ Go (writes.Votes (Post group))) q f))) tt

write_again : (x : Ctx) (p : WriteStage) → (write_table x).again p ≡ true → write_part p ≡ Works
write_again x (writes.Opens o) e = absurd (cc)
write_again x (writes.Votes b) e = absurd (cc)
write_again x (writes.Reads group reading front) e = refl
write_again x (writes.Writes group lists) e = absurd (cc)

write_first : (op : Op) (q : WriteStage) → Go q ≡ write_starts op → q ≡ writes.Opens (Locking 0)
write_first op q e = go_is q (writes.Opens (Locking 0)) (refused_or (nat_lt (2 ^ 40) (off_of op + length (data_of op))) _ (Go (writes.Opens (Locking 0))) q (refused_or (nat_lt (2 ^ 20) (length (data_of op))) _ _ q e))

pub write_order : (x : Ctx) → GoesInOrder Exclusive (write_table x)
write_order x = record {
  part = write_part;
  first = λ given q s. ap write_part (write_first given.op q s.1);
  asks = λ p c b r e. write_fits p c b r e;
  next = λ p q c f. write_goes x p q c f;
  again = λ p e. write_again x p e;
}

-- ## A truncate

abbrev truncate_part : TruncateStage → Part
truncate_part (cuts.Opens o) = opening_part o
truncate_part (cuts.Votes b) = ballot_part b
truncate_part (cuts.Reads group reading) = Works
truncate_part (cuts.Writes group lists) = Works
truncate_part (cuts.Cuts group) = Works

truncate_kind : (kind : Kind) (group : Group) (q : TruncateStage) → Go q ≡ truncate_judged kind group → truncate_part q ≡ Works
truncate_kind Dir group q e = absurd (go_say q _ e)
truncate_kind File group q e = ap truncate_part (go_when (is_within group.head) (cuts.Votes (Pre group)) q _ e)

truncate_judges : (c : Account) (grouped : Grouped) (q : TruncateStage) → TruncateJudges c grouped (Go q) → truncate_part q ≡ Works
truncate_judges c (Found group) q e = truncate_kind group.head.kind group q e
truncate_judges c (Gone bricks) q e = absurd (go_say q _ e)
truncate_judges c (Fewer most) q e = absurd (go_say q _ e)

truncate_fits : (p : TruncateStage) (c : Account) (x : ℕ) (r : Request) → truncate_asks p c x ≡ Some r → Fits Exclusive (truncate_part p) x r
truncate_fits (cuts.Opens o) c x r e = opening_fits Exclusive o c x r e
truncate_fits (cuts.Votes b) c x r e = ballot_fits b c x r e
truncate_fits (cuts.Reads group reading) c x r e = reads_work reading c x r e
truncate_fits (cuts.Writes group lists) c x r e = let w = member_is group (write_request (subject c.given.op) (first_stripe (quorum_of c.given) (low_of c.given.op group)) (list_at lists x)) c x r e in ap (is_work Exclusive) w.2
truncate_fits (cuts.Cuts group) c x r e = let w = member_is group (cut_request (subject c.given.op) (stripes_of (quorum_of c.given) (low_of c.given.op group)) (stripes_of (quorum_of c.given) (to_of c.given.op))) c x r e in ap (is_work Exclusive) w.2

reads_or_cuts : (t : Bool) (group : Group) (reading : Reading) (q : TruncateStage) → Go q ≡ cond t (Go (cuts.Cuts group)) (Go (cuts.Reads group reading)) → truncate_part q ≡ Works
reads_or_cuts true group reading q e = ap truncate_part (go_is q (cuts.Cuts group) e)
reads_or_cuts false group reading q e = ap truncate_part (go_is q (cuts.Reads group reading) e)

trims_works : (x : Ctx) (geometry : Geometry) (op : Op) (group : Group) (q : TruncateStage) → Go q ≡ trims_from x geometry op group → truncate_part q ≡ Works
trims_works x geometry op group q e = reads_or_cuts (head_of (quorum geometry) (low_of op group) == 0) group _ q e

trims_next : (x : Ctx) (group : Group) (c : Account) (q : TruncateStage) → Trims x group c (Go q) → IsNext Works (truncate_part q)
trims_next x group c q e = subst (λ (z : Part). IsNext Works z) (sym (trims_works x c.given.geometry c.given.op group q e)) tt

truncate_goes : (x : Ctx) (p q : TruncateStage) (c : Account) → TruncateFollows x p c (Go q) → IsNext (truncate_part p) (truncate_part q)
truncate_goes x (cuts.Opens o) q c f = opening_next truncate_part (λ o. cuts.Opens o) TruncateJudges (λ o. refl) truncate_judges o c q f
truncate_goes x (cuts.Votes b) q c f = ballot_next truncate_part (λ b. cuts.Votes b) (Trims x) says_to (λ b. refl) (trims_next x) b c q f
truncate_goes x (cuts.Reads group reading) q c (inl (few, e)) = absurd (go_say q _ e)
truncate_goes x (cuts.Reads group reading) q c (inr (enough, stripe, decoded, (lists, coded, e))) = subst (λ (z : TruncateStage). IsNext Works (truncate_part z)) (sym (go_is q (cuts.Writes group lists) e)) tt
truncate_goes x (cuts.Writes group lists) q c f = subst (λ (z : TruncateStage). IsNext Works (truncate_part z)) (sym (go_is q (cuts.Cuts group) (if_quorum c group _ (λ next. next ≡ Go (cuts.Cuts group)) q f))) tt
truncate_goes x (cuts.Cuts group) q c f = subst (λ (z : TruncateStage). IsNext Works (truncate_part z)) (sym (go_is q (cuts.Votes (Post group)) (if_quorum c group _ (λ next. next ≡ Go (cuts.Votes (Post group))) q f))) tt

truncate_again : (x : Ctx) (p : TruncateStage) → (truncate_table x).again p ≡ true → truncate_part p ≡ Works
truncate_again x (cuts.Opens o) e = absurd (cc)
truncate_again x (cuts.Votes b) e = absurd (cc)
truncate_again x (cuts.Reads group reading) e = refl
truncate_again x (cuts.Writes group lists) e = absurd (cc)
truncate_again x (cuts.Cuts group) e = absurd (cc)

pub truncate_order : (x : Ctx) → GoesInOrder Exclusive (truncate_table x)
truncate_order x = record {
  part = truncate_part;
  first = λ given q s. ap truncate_part (go_is q (cuts.Opens (Locking 0)) (refused_or (nat_lt (2 ^ 40) (to_of given.op)) _ (Go (cuts.Opens (Locking 0))) q s.1));
  asks = λ p c b r e. truncate_fits p c b r e;
  next = λ p q c f. truncate_goes x p q c f;
  again = λ p e. truncate_again x p e;
}
