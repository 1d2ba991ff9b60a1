-- A call whose table ends with its data and PostOps sends nothing that passes the test after the first of them.
use Rattle.std.proofs.Common.{◌≡◌, inl, inr, ℕ, Bool, true, false, ◌||◌, refl, sym, ◌∙◌, ap, subst, List, [], ◌∷◌, ◌++◌, Option, Some, None}
use Rattle.ec_attr.specs.declared.gfid.Gfid.{Gfid}
use Rattle.ec_conduct.specs.Account.{Account, after}
use Rattle.ec_conduct.specs.Conduct.{is_release}
use Rattle.ec_conduct.specs.Given.{Given, bricks_of}
use Rattle.ec_conduct.specs.Opened.{account, opened}
use Rattle.ec_conduct.specs.Own.{Own}
use Rattle.ec_conduct.specs.Table.{IsByTable, IsByTurns, Send, Step, Turned, entries_of, step_entries}
use Rattle.ec_txn.specs.Rounds.{Asks, IsFirst, IsTaken, give_back, round, subject, unlock, where_so}
use Rattle.ec_txn.specs.Tables.{Begins, Goes, Table}
use Rattle.ec_txn.specs.declared.stage.Next.{Next}
use Rattle.ec_txn.specs.declared.stage.Next.TheVariants.{Go, Say}
use Rattle.ec_wire.specs.declared.request.Request.{Request}
use Rattle.ec_wire.specs.declared.request.Request.TheVariants.{Release}
use Rattle.ec_law_calls.proofs.Asking.{where_is}
use Rattle.ec_law_calls.proofs.Clean.{Each}
use Rattle.ec_law_calls.proofs.Sends.{IsRelease, each_append, each_round, each_weaker, give_back_releases, unlock_releases}
use Rattle.ec_law_stripes.specs.Finals.{AsksOff, AsksOffFrom, EndsWithFinals, has_final, is_final, sends_final}
use Rattle.ec_law_stripes.proofs.FinalScans.{IsNot, none_final, off_both, off_early, off_none, outside_none, outside_unfinal, final_both}

some_same : {X : Type 0} (x y : X) → Some x ≡ Some y → x ≡ y
some_same x y e = cc

none_some : {X : Type 0} (x : X) → None ≡ Some x → ⊥
none_some x e = cc

both_ways : (u : Bool) → u ≡ true → u ≡ false → ⊥
both_ways u e f = absurd (let x = sym e ∙ f in cc)

or_none : (p s : Bool) → p ≡ false → s ≡ false → (p || s) ≡ false
or_none true s e f = absurd (cc)
or_none false s e f = f

pub release_is : (test : Request → Bool) → ((g : Gfid) (n : ℕ) → test (Release g n) ≡ false) → (x : ℕ) (r : Request) → is_release r ≡ true → test r ≡ false
release_is test spares x (Release g grant) e = spares g grant
release_is test spares x r e = absurd (cc)

module _ {P : Type 0} (test : Request → Bool) (spares : (g : Gfid) (n : ℕ) → test (Release g n) ≡ false) (t : Table P) (ends : EndsWithFinals test t) where
  -- What a step sends, and that where the next stage isn't late none of these was sent by then.
  record Leaves (posted : Bool) (i : ℕ) (step : Step P) : Type 0 where
    pub off : AsksOffFrom test posted (step_entries i step)
    pub goes_on : (q : P) → step.stage ≡ Some q → ends.is_late q ≡ false → (posted || has_final (step_entries i step)) ≡ false

  -- a stage sends what it asks, after some releases
  asks_leave : (q : P) (c : Account) (i n : ℕ) (f : Asks) (ss : List Send) (posted : Bool) → ((x : ℕ) (r : Request) → f x ≡ Some r → t.asks q c x ≡ Some r) → Each IsRelease ss → (ends.is_late q ≡ false → posted ≡ false)
      → Leaves posted i (record { stage = Some q; sends = ss ++ round n f; answer = None; kept = None })
  asks_leave q c i n f ss posted same releases none = at (ends.is_late q) refl
    where
      now : Step P
      now = record { stage = Some q; sends = ss ++ round n f; answer = None; kept = None }

      at : (u : Bool) → ends.is_late q ≡ u → Leaves posted i (record { stage = Some q; sends = ss ++ round n f; answer = None; kept = None })
      at true late = record {
        off = off_none test posted i (ss ++ round n f) None (each_append (IsNot test) ss (round n f) (each_weaker IsRelease (IsNot test) (release_is test spares) ss releases) (each_round (IsNot test) n f (λ x r lt e. ends.off q c x r (same x r e) late)));
        goes_on = λ z e early. absurd (both_ways (ends.is_late q) late (ap ends.is_late (some_same q z e) ∙ early));
      }
      at false early =
          let quiet = each_append (IsNot is_final) ss (round n f) (each_weaker IsRelease (IsNot is_final) (release_is is_final (λ g n. refl)) ss releases) (each_round (IsNot is_final) n f (λ x r lt e. ends.early q c x r (same x r e) early)) in
          record {
            off = off_early test posted (none early) i (ss ++ round n f) None quiet;
            goes_on = λ z e w. or_none posted (has_final (entries_of i (ss ++ round n f) None)) (none early) (none_final i (ss ++ round n f) None quiet);
          }

  -- what comes after a late stage is late
  still_none : (p q : P) (c : Account) (posted : Bool) → t.follows p c (Go q) → (ends.is_late p ≡ false → posted ≡ false) → ends.is_late q ≡ false → posted ≡ false
  still_none p q c posted follows none early = at (ends.is_late p) refl
    where
      at : (u : Bool) → ends.is_late p ≡ u → posted ≡ false
      at true late = absurd (both_ways (ends.is_late q) (ends.stays p q c follows late) early)
      at false now = none now

  taken : (p : P) (c : Account) (i : ℕ) (step : Step P) (next : Next P) (posted : Bool) → (ends.is_late p ≡ false → posted ≡ false) → t.follows p c next → IsTaken (subject c.given.op) c (λ q. t.asks q c) next step → Leaves posted i step
  taken p c i step (Go q) posted none follows is = subst (Leaves posted i) (sym is) (asks_leave q c i (bricks_of c.given) (t.asks q c) (unlock c (subject c.given.op)) posted (λ x r e. e) (unlock_releases c (subject c.given.op)) (still_none p q c posted follows none))
  taken p c i step (Say answer) posted none follows is = subst (Leaves posted i) (sym is) (record {
    off = off_none test posted i (unlock c (subject c.given.op) ++ give_back c (subject c.given.op)) (Some answer) (each_weaker IsRelease (IsNot test) (release_is test spares) (unlock c (subject c.given.op) ++ give_back c (subject c.given.op)) (each_append IsRelease (unlock c (subject c.given.op)) (give_back c (subject c.given.op)) (unlock_releases c (subject c.given.op)) (give_back_releases c (subject c.given.op))));
    goes_on = λ z e. absurd (none_some z e);
  })

  step_leaves : (p : P) (c : Account) (i : ℕ) (step : Step P) (posted : Bool) → (ends.is_late p ≡ false → posted ≡ false) → Goes t p c step → Leaves posted i step
  step_leaves p c i step posted none (inl (waits, is)) = subst (Leaves posted i) (sym is) (asks_leave p c i (bricks_of c.given) (where_so (t.again p) (t.asks p c)) [] posted (where_is (t.again p) (t.asks p c)) tt none)
  step_leaves p c i step posted none (inr (idle, quiet, next, follows, is)) = taken p c i step next posted none follows is

  first_leaves : (given : Given) (i : ℕ) (step : Step P) (next : Next P) → IsFirst (bricks_of given) (λ q. t.asks q (opened given)) next step → Leaves false i step
  first_leaves given i step (Go q) is = subst (Leaves false i) (sym is) (asks_leave q (opened given) i (bricks_of given) (t.asks q (opened given)) [] false (λ x r e. e) tt (λ e. refl))
  first_leaves given i step (Say answer) is = subst (Leaves false i) (sym is) (record { off = (λ e. tt, tt); goes_on = λ z e. absurd (none_some z e) })

  record IsOff (es : List Own) (stage : Option P) : Type 0 where
    pub off : AsksOff test es
    pub unfinal : (q : P) → stage ≡ Some q → ends.is_late q ≡ false → has_final es ≡ false

  by_turns : (given : Given) (ts : List (Turned P)) (es : List Own) (stage : Option P) → IsByTurns (Begins t) (Goes t) given ts es stage → IsOff es stage
  by_turns given [] es stage (i, step, begins, entries, is) =
      let l = first_leaves given i step begins.0 begins.2 in
      record {
        off = subst (AsksOff test) (sym entries) l.off;
        unfinal = λ q e early. ap has_final entries ∙ l.goes_on q (sym is ∙ e) early;
      }
  by_turns given (turn ∷ ts) es stage (earlier, before, by, outside, went, entries, is) =
      let h = by_turns given ts earlier (Some before) by in
      let l = step_leaves before (after (account given earlier) turn.what) turn.number turn.step (has_final earlier) (h.unfinal before refl) went in
      let fs = step_entries turn.number turn.step in
      let same : (has_final earlier || sends_final turn.what) ≡ has_final earlier = ap (λ (u : Bool). has_final earlier || u) (outside_unfinal turn.what outside) ∙ or_false (has_final earlier) in
      record {
        off = subst (AsksOff test) (sym entries) (off_both test false earlier (turn.what ∷ fs) h.off (λ e. outside_none test turn.what outside, subst (λ (u : Bool). AsksOffFrom test u fs) (sym same) l.off));
        unfinal = λ q e early. ap has_final entries ∙ (final_both earlier (turn.what ∷ fs) ∙ (ap (λ (u : Bool). has_final earlier || (u || has_final fs)) (outside_unfinal turn.what outside) ∙ l.goes_on q (sym is ∙ e) early));
      }
    where
      or_false : (p : Bool) → (p || false) ≡ p
      or_false true = refl
      or_false false = refl

  pub by_table : (given : Given) (es : List Own) (stage : Option P) → IsByTable (Begins t) (Goes t) given es stage → AsksOff test es
  by_table given es stage (ts, by) = (by_turns given ts es stage by).off
