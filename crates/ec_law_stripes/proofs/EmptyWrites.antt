-- A write of no bytes sends no data and no PostOp: it ends after its Queries.
use Rattle.std.proofs.Common.{◌≡◌, inl, inr, ℕ, ◌+◌, ◌<◌, ◌^◌, nat_lt, Bool, true, false, ◌||◌, cond, refl, sym, ◌∙◌, ap, subst, List, [], ◌∷◌, ◌++◌, length, Option, Some, None, arith}
use Rattle.ec_answers.specs.declared.grouped.Grouped.{Grouped}
use Rattle.ec_answers.specs.declared.grouped.Grouped.TheVariants.{Fewer, Gone, Group as Found}
use Rattle.ec_attr.specs.declared.kind.Kind.{Kind}
use Rattle.ec_attr.specs.declared.kind.Kind.TheVariants.{Dir, File}
use Rattle.ec_attr.specs.declared.kind.LockKind.TheVariants.{Exclusive}
use Rattle.ec_answers.specs.declared.grouped.Group.{Group}
use Rattle.ec_conduct.specs.Account.{Account, after}
use Rattle.ec_conduct.specs.Given.{Given, bricks_of}
use Rattle.ec_conduct.specs.Opened.{account, opened}
use Rattle.ec_conduct.specs.Own.{Own}
use Rattle.ec_conduct.specs.Table.{IsByTable, IsByTurns, Send, Step, Turned, step_entries}
use Rattle.ec_txn.specs.Rounds.{Asks, give_back, round, subject, unlock, where_so}
use Rattle.ec_txn.specs.Tables.{Begins, Goes}
use Rattle.ec_txn.specs.declared.ctx.Ctx.{Ctx}
use Rattle.ec_txn.specs.declared.opening.Opening.{Opening}
use Rattle.ec_txn.specs.declared.opening.Opening.TheVariants.{Lock as Locking, Query as Querying}
use Rattle.ec_txn.specs.declared.stage.Next.{Next}
use Rattle.ec_txn.specs.declared.stage.Next.TheVariants.{Go, Say}
use Rattle.ec_wire.specs.declared.answer.Answer.{Answer}
use Rattle.ec_wire.specs.declared.answer.Answer.TheVariants.{TooBig, TooLong}
use Rattle.ec_wire.specs.declared.op.Op.{Op}
use Rattle.ec_wire.specs.declared.op.Op.TheVariants.{Write}
use Rattle.ec_wire.specs.declared.request.Request.{Request}
use Rattle.ec_write.specs.Range.{data_of, off_of, told_end}
use Rattle.ec_write.specs.Write.{WriteFollows, WriteJudges, asks_of, judged, write_table}
use Rattle.ec_write.specs.declared.stage.WriteStage.{WriteStage}
use Rattle.ec_write.specs.declared.stage.WriteStage.TheVariants as writes
use Rattle.ec_law_calls.proofs.Asking.{go_is, go_say, opening_fits, opening_part, where_is}
use Rattle.ec_law_calls.proofs.Clean.{Each}
use Rattle.ec_law_calls.proofs.Sends.{IsRelease, each_append, each_round, each_weaker, give_back_releases, unlock_releases}
use Rattle.ec_law_turns.proofs.Allowed.{account_given, after_given}
use Rattle.ec_law_stripes.specs.Finals.{has_final, is_final, sends_final}
use Rattle.ec_law_stripes.specs.Given.{WritesSome}
use Rattle.ec_law_stripes.proofs.FinalEnding.{release_is}
use Rattle.ec_law_stripes.proofs.FinalScans.{IsNot, final_both, none_final, outside_unfinal}
use Rattle.ec_law_stripes.proofs.FinalTables.{fits_early}

abbrev is_opening : WriteStage → Bool
is_opening (writes.Opens o) = true
is_opening q = false

-- the locks and the Queries ask for no data
opening_early : (o : Opening) (c : Account) (x : ℕ) (r : Request) → asks_of (writes.Opens o) c x ≡ Some r → is_final r ≡ false
opening_early (Locking brick) c x r e = fits_early Exclusive (opening_part (Locking brick)) x r (opening_fits Exclusive (Locking brick) c x r e) refl
opening_early Querying c x r e = fits_early Exclusive (opening_part Querying) x r (opening_fits Exclusive Querying c x r e) refl

stage_early : (q : WriteStage) (c : Account) (x : ℕ) (r : Request) → is_opening q ≡ true → asks_of q c x ≡ Some r → is_final r ≡ false
stage_early (writes.Opens o) c x r is e = opening_early o c x r e
stage_early (writes.Votes b) c x r is e = absurd (cc)
stage_early (writes.Reads group reading front) c x r is e = absurd (cc)
stage_early (writes.Writes group lists) c x r is e = absurd (cc)

-- which are all, where there is nothing to write
ends_there : (t : Bool) (x y : Next WriteStage) (answer : Answer) (q : WriteStage) → t ≡ false → y ≡ Say answer → Go q ≡ cond t x y → ⊥
ends_there true x y answer q e same h = absurd (cc)
ends_there false x y answer q e same h = go_say q answer (h ∙ same)

none_judged : (kind : Kind) (op : Op) (group : Group) (q : WriteStage) → length (data_of op) ≡ 0 → Go q ≡ judged kind op group → ⊥
none_judged Dir op group q none e = go_say q _ e
none_judged File op group q none e = ends_there _ _ _ _ q (ap (λ (n : ℕ). nat_lt 0 n) none) refl e

query_ends : (c : Account) (grouped : Grouped) (q : WriteStage) → length (data_of c.given.op) ≡ 0 → WriteJudges c grouped (Go q) → ⊥
query_ends c (Found group) q none e = none_judged group.head.kind c.given.op group q none e
query_ends c (Gone bricks) q none e = go_say q _ e
query_ends c (Fewer most) q none e = go_say q _ e

opens_or : (t u : Bool) (o : Opening) (answer : Answer) (q : WriteStage) → Go q ≡ cond t (Go (writes.Opens o)) (cond u (Go (writes.Opens Querying)) (Say answer)) → is_opening q ≡ true
opens_or true u o answer q e = ap is_opening (go_is q (writes.Opens o) e)
opens_or false true o answer q e = ap is_opening (go_is q (writes.Opens Querying) e)
opens_or false false o answer q e = absurd (go_say q answer e)

starts_open : (t u : Bool) (a b : Answer) (q : WriteStage) → Go q ≡ cond t (Say a) (cond u (Say b) (Go (writes.Opens (Locking 0)))) → is_opening q ≡ true
starts_open true u a b q e = absurd (go_say q a e)
starts_open false true a b q e = absurd (go_say q b e)
starts_open false false a b q e = ap is_opening (go_is q (writes.Opens (Locking 0)) e)

stays_open : (x : Ctx) (p q : WriteStage) (c : Account) → length (data_of c.given.op) ≡ 0 → is_opening p ≡ true → WriteFollows x p c (Go q) → is_opening q ≡ true
stays_open x (writes.Opens (Locking brick)) q c none is e = opens_or _ _ (Locking (brick + 1)) _ q e
stays_open x (writes.Opens Querying) q c none is (grouped, comes, e) = absurd (query_ends c grouped q none e)
stays_open x (writes.Votes b) q c none is e = absurd (cc)
stays_open x (writes.Reads group reading front) q c none is e = absurd (cc)
stays_open x (writes.Writes group lists) q c none is e = absurd (cc)

some_same : {X : Type 0} (x y : X) → Some x ≡ Some y → x ≡ y
some_same x y e = cc

none_some : {X : Type 0} (x : X) → None ≡ Some x → ⊥
none_some x e = cc

module _ (x : Ctx) (given : Given) (none : length (data_of given.op) ≡ 0) where
  record Opens (i : ℕ) (step : Step WriteStage) : Type 0 where
    pub quiet : has_final (step_entries i step) ≡ false
    pub opens : (q : WriteStage) → step.stage ≡ Some q → is_opening q ≡ true

  asks_open : (q : WriteStage) (c : Account) (i n : ℕ) (f : Asks) (ss : List Send) → is_opening q ≡ true → ((y : ℕ) (r : Request) → f y ≡ Some r → asks_of q c y ≡ Some r) → Each IsRelease ss → Opens i (record { stage = Some q; sends = ss ++ round n f; answer = None; kept = None })
  asks_open q c i n f ss is same releases = record {
    quiet = none_final i (ss ++ round n f) None (each_append (IsNot is_final) ss (round n f) (each_weaker IsRelease (IsNot is_final) (release_is is_final (λ g n. refl)) ss releases) (each_round (IsNot is_final) n f (λ y r lt e. stage_early q c y r is (same y r e))));
    opens = λ z e. ap is_opening (sym (some_same q z e)) ∙ is;
  }

  says_open : (c : Account) (i : ℕ) (answer : Answer) → Opens i (record { stage = None; sends = unlock c (subject c.given.op) ++ give_back c (subject c.given.op); answer = Some answer; kept = None })
  says_open c i answer = record {
    quiet = none_final i (unlock c (subject c.given.op) ++ give_back c (subject c.given.op)) (Some answer) (each_weaker IsRelease (IsNot is_final) (release_is is_final (λ g n. refl)) (unlock c (subject c.given.op) ++ give_back c (subject c.given.op)) (each_append IsRelease (unlock c (subject c.given.op)) (give_back c (subject c.given.op)) (unlock_releases c (subject c.given.op)) (give_back_releases c (subject c.given.op))));
    opens = λ z e. absurd (none_some z e);
  }

  step_opens : (p : WriteStage) (c : Account) (i : ℕ) (step : Step WriteStage) → c.given ≡ given → is_opening p ≡ true → Goes (write_table x) p c step → Opens i step
  step_opens p c i step same is (inl (waits, e)) = subst (Opens i) (sym e) (asks_open p c i (bricks_of c.given) (where_so ((write_table x).again p) ((write_table x).asks p c)) [] is (where_is ((write_table x).again p) ((write_table x).asks p c)) tt)
  step_opens p c i step same is (inr (idle, quiet, Go q, follows, e)) = subst (Opens i) (sym e) (asks_open q c i (bricks_of c.given) ((write_table x).asks q c) (unlock c (subject c.given.op)) (stays_open x p q c (ap (λ (v : Given). length (data_of v.op)) same ∙ none) is follows) (λ y r w. w) (unlock_releases c (subject c.given.op)))
  step_opens p c i step same is (inr (idle, quiet, Say answer, follows, e)) = subst (Opens i) (sym e) (says_open c i answer)

  first_opens : (i : ℕ) (step : Step WriteStage) → Begins (write_table x) given step → Opens i step
  first_opens i step (Go q, starts, e) = subst (Opens i) (sym e) (asks_open q (opened given) i (bricks_of given) ((write_table x).asks q (opened given)) [] (starts_open (nat_lt (2 ^ 20) (length (data_of given.op))) (nat_lt (2 ^ 40) (off_of given.op + length (data_of given.op))) (TooLong (length (data_of given.op))) (TooBig (told_end (off_of given.op) (length (data_of given.op)))) q starts.1) (λ y r w. w) tt)
  first_opens i step (Say answer, starts, e) = subst (Opens i) (sym e) (record { quiet = refl; opens = λ z w. absurd (none_some z w) })

  record Quiet (es : List Own) (stage : Option WriteStage) : Type 0 where
    pub quiet : has_final es ≡ false
    pub opens : (q : WriteStage) → stage ≡ Some q → is_opening q ≡ true

  by_turns : (ts : List (Turned WriteStage)) (es : List Own) (stage : Option WriteStage) → IsByTurns (Begins (write_table x)) (Goes (write_table x)) given ts es stage → Quiet es stage
  by_turns [] es stage (i, step, begins, entries, is) = let l = first_opens i step begins in record { quiet = ap has_final entries ∙ l.quiet; opens = λ q e. l.opens q (sym is ∙ e) }
  by_turns (turn ∷ ts) es stage (earlier, before, by, outside, went, entries, is) =
      let h = by_turns ts earlier (Some before) by in
      let l = step_opens before (after (account given earlier) turn.what) turn.number turn.step (after_given (account given earlier) turn.what ∙ account_given given earlier) (h.opens before refl) went in
      record {
        quiet = ap has_final entries ∙ (final_both earlier (turn.what ∷ step_entries turn.number turn.step) ∙ both (has_final earlier) (sends_final turn.what) (has_final (step_entries turn.number turn.step)) h.quiet (outside_unfinal turn.what outside) l.quiet);
        opens = λ q e. l.opens q (sym is ∙ e);
      }
    where
      both : (t u w : Bool) → t ≡ false → u ≡ false → w ≡ false → (t || (u || w)) ≡ false
      both true u w a b c = absurd (cc)
      both false true w a b c = absurd (cc)
      both false false w a b c = c

  no_final : (es : List Own) (stage : Option WriteStage) → IsByTable (Begins (write_table x)) (Goes (write_table x)) given es stage → has_final es ≡ false
  no_final es stage (ts, by) = (by_turns ts es stage by).quiet

-- a call that has something to write, if it is a write
writes_some : (op : Op) → (length (data_of op) ≡ 0 → ⊥) → WritesSome op
writes_some (Write h off bytes) some = at bytes some
  where
    at : (xs : List ℕ) → (length xs ≡ 0 → ⊥) → 0 < length xs
    at [] some = absurd (some refl)
    at (x ∷ xs) some = omega arith
writes_some op some = tt

-- so a write that sent data or a PostOp has
pub some_final : (x : Ctx) (given : Given) (es : List Own) (stage : Option WriteStage) → IsByTable (Begins (write_table x)) (Goes (write_table x)) given es stage → has_final es ≡ true → WritesSome given.op
some_final x given es stage by final = writes_some given.op (λ none. absurd (both_ways (has_final es) final (no_final x given none es stage by)))
  where
    both_ways : (u : Bool) → u ≡ true → u ≡ false → ⊥
    both_ways u e f = absurd (let z = sym e ∙ f in cc)
