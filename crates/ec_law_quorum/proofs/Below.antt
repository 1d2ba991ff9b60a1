-- What a turn that holds a brick, or may still strip it, knows of those that were there before.
use Rattle.std.proofs.Common.{◌≡◌, ◌≢◌, ℕ, ◌+◌, ◌<◌, ◌≤◌, true, false, Some, None, ap, subst, arith, ⊎_elim}
use Rattle.ec_law_base.specs.State.{State}
use Rattle.ec_law_ballots.specs.Clauses.{Local}
use Rattle.ec_law_ballots.specs.Facts.{PreBelow, NumberBelow, MarkBelow}
use Rattle.ec_law_quorum.specs.Wide.{Wide}
use Rattle.ec_law_quorum.proofs.Quorums.{either, had_below, number_under}

module _ (n k : ℕ) (most : n < k + k) (fits : k ≤ n) (s : State) (l : (b : ℕ) → Local s b) (w : Wide n k s) (b t : ℕ) (real : s.old t ≡ false) (free : s.carries t ≡ None) (number : 0 < (s.ballot t).number) where
  -- whose PreOps, PostOps and marks there were there at its moment
  abbrev pub Before : Type 0
  Before = ((e : ℕ) → s.pre e b ≡ true → e ≢ t → s.at_pre t e b ≡ true) × ((e : ℕ) → s.mark e b ≡ true → e ≢ t → s.had t e ≡ true)

  pub by_held : s.holder b ≡ Some t → s.early t b ≡ true → Before
  by_held h y = let m = w.number_moment t number in (λ e p ne. (l b).held_pre t e h y m p ne, λ e p ne. (l b).held_mark t e h y m p ne)

  pub pre_below : Before → PreBelow s b t
  pre_below had e p = ⊎_elim (λ same. omega (arith, ap (λ (x : ℕ). (s.ballot x).base) same)) (λ ne. had_below n k most fits s l w t e ((l b).at_pre_is t e (had.0 e p ne)).3 free number) (either e t)

  pub mark_below : Before → MarkBelow s b t
  mark_below had e p = ⊎_elim (λ same. omega (arith, ap (λ (x : ℕ). (s.ballot x).base) same)) (λ ne. had_below n k most fits s l w t e (had.1 e p ne) free number) (either e t)

  pub number_below : Before → s.pre t b ≡ false → NumberBelow s b t
  number_below had not_pre e p same =
      let q = (l b).post_pre e p in
      let ne : e ≢ t = λ eq. let x = subst (λ (y : ℕ). s.pre y b ≡ true) eq q in cc in
      number_under n k most fits s l w t e real free number ((l b).at_pre_is t e (had.0 e q ne)).2 (w.whole e b p) same
