-- A ballot over a group stays one above a dirty number that the group told.
use Rattle.std.proofs.Common.{◌≡◌, ◌≢◌, ℕ, ◌<◌, true, false, Some, None, sym, subst, arith, ⊎_elim}
use Rattle.std.proofs.lemmas.Bool.Decides.{nat_tests}
use Rattle.ec_law_base.specs.State.{State, Head, Ballot}
use Rattle.ec_law_ballots.specs.Words.{saw}
use Rattle.ec_law_ballots.specs.Act.{Act, step as act_step}
use Rattle.ec_law_ballots.specs.Act.Act.{Grant, Free, Share, Unshare, Moment, See, Keep, Carry, Choose, Choose_kept, Pre, Sink_pre, Post, Sink_post, Clear, Heal_grant, Heal_free, Mark, Unmark, Maker_grant, Maker_free, Make, Made, Unmake, Stop, Replace}
use Rattle.ec_law_ballots.specs.Guard.{May}
use Rattle.ec_law_quorum.proofs.Quorums.{either}
use Rattle.ec_law_pieces.specs.File.{Form, File}
use Rattle.ec_law_pieces.specs.Deed.{Deed, step, MayDo, is_plain}
use Rattle.ec_law_pieces.specs.Deed.Deed.{Do, Look, Take, Take_kept, Read, Intend, Write, Tear, Copy, Spoil, Commit, Follow, Begin, Finish, Create}
use Rattle.ec_law_moments.specs.Windows.{Fenced, IsOneAbove}

abbrev pub Topped : State → ℕ → Type 0
Topped s a = s.old a ≡ false → s.carries a ≡ None → 0 < (s.ballot a).number → IsOneAbove s a (s.ballot a)

still_seen : (s : State) (y d a c : ℕ) (h : Head) → saw s y d ≡ false → s.seen a c ≡ Some h → (act_step s (See y d)).seen a c ≡ Some h
still_seen s y d a c h n e = grind (arith, nat_tests)

kept_none : (s : State) (y u a : ℕ) → (act_step s (Keep y u)).carries a ≡ None → s.carries a ≡ None
kept_none s y u a e = grind (arith, nat_tests)

new_ballot : (s : State) (y : ℕ) (q : Ballot) → (act_step s (Choose y q)).ballot y ≡ q
new_ballot s y q = grind (arith, nat_tests)

old_ballot : (s : State) (y : ℕ) (q : Ballot) (a : ℕ) → a ≢ y → (act_step s (Choose y q)).ballot a ≡ s.ballot a
old_ballot s y q a ne = grind (arith, nat_tests)

none_some : (s : State) (a u : ℕ) → s.carries a ≡ None → s.carries a ≡ Some u → ⊥
none_some s a u e g = cc

module _ {P V C U S : Type 0} (form : Form P V C U S) (n k : ℕ) (f : File P V C U S) (a : ℕ) (t : Topped f.heads a) where
  -- of another turn than the one that takes its ballot
  topped_other : (y : ℕ) (q : Ballot) → a ≢ y → f.heads.old a ≡ false → f.heads.carries a ≡ None → 0 < ((act_step f.heads (Choose y q)).ballot a).number → IsOneAbove f.heads a ((act_step f.heads (Choose y q)).ballot a)
  topped_other y q ne o c h = let e = old_ballot f.heads y q a ne in subst (λ (p : Ballot). IsOneAbove f.heads a p) (sym e) (t o c (subst (λ (p : Ballot). 0 < p.number) e h))

  topped_do : (e : Act) → May n k f.heads e → is_plain form n k e ≡ true → Topped (act_step f.heads e) a
  topped_do (Grant y d) may z = t
  topped_do (Free d) may z = t
  topped_do (Share y d) may z = t
  topped_do (Unshare y d) may z = t
  topped_do (Moment y) may z = t
  topped_do (See y d) may z = absurd (cc)
  topped_do (Keep y u) may z = λ o c h. t o (kept_none f.heads y u a c) h
  topped_do (Carry u y d) may z = t
  topped_do (Choose y q) may z = absurd (cc)
  topped_do (Choose_kept y u q) may z = absurd (cc)
  topped_do (Pre y d) may z = t
  topped_do (Sink_pre y d) may z = t
  topped_do (Post y d) may z = absurd (cc)
  topped_do (Sink_post y d) may z = absurd (cc)
  topped_do (Clear y d) may z = t
  topped_do (Heal_grant y d) may z = t
  topped_do (Heal_free d) may z = t
  topped_do (Mark y d) may z = absurd (cc)
  topped_do (Unmark y d) may z = absurd (cc)
  topped_do (Maker_grant d) may z = t
  topped_do (Maker_free d) may z = t
  topped_do (Make d) may z = absurd (cc)
  topped_do (Made d) may z = t
  topped_do (Unmake d) may z = t
  topped_do (Stop d) may z = t
  topped_do (Replace d) may z = t

  pub topped_step : (e : Deed P V C U S) → MayDo form n k f e → Fenced f e → Topped (step form n k f e).heads a
  topped_step (Do e) m fence = topped_do e m.0 m.1
  topped_step (Look y d) m fence = λ o c h. let w = t o c h in (w.0, w.1, still_seen f.heads y d a w.0 w.1 m.3 w.2, w.3, w.4)
  topped_step (Take y q shape) m fence = λ o c h. ⊎_elim (λ (e : a ≡ y). mine e) (λ ne. topped_other y q ne o c h) (either a y)
    where
      mine : a ≡ y → IsOneAbove f.heads a ((act_step f.heads (Choose y q)).ballot a)
      mine e = subst (λ (u : ℕ). IsOneAbove f.heads u ((act_step f.heads (Choose y q)).ballot u)) (sym e) (subst (λ (p : Ballot). IsOneAbove f.heads y p) (sym (new_ballot f.heads y q)) fence)
  topped_step (Take_kept y u q) m fence = λ o c h. ⊎_elim (λ (e : a ≡ y). absurd (none_some f.heads y u (subst (λ (z : ℕ). f.heads.carries z ≡ None) e c) m.2)) (λ ne. topped_other y q ne o c h) (either a y)
  topped_step (Read y d places) m fence = t
  topped_step (Intend y plan) m fence = t
  topped_step (Write y d places) m fence = t
  topped_step (Tear y d places pieces) m fence = t
  topped_step (Copy y d places pieces) m fence = t
  topped_step (Spoil d places pieces) m fence = t
  topped_step (Commit y d) m fence = t
  topped_step (Follow y d) m fence = t
  topped_step (Begin y d) m fence = t
  topped_step (Finish y d) m fence = t
  topped_step (Create d shape) m fence = t
