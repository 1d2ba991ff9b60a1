-- Each deed keeps what is good, so it holds after every run.
use Rattle.std.proofs.Common.{◌≡◌, ◌≢◌, ◌⊎◌, ℕ, ◌+◌, ◌<◌, ◌≤◌, Bool, true, false, cond, ◌&&◌, nat_lt, nat_le, Some, List, [], ◌∷◌, refl, sym, ◌∙◌, ap, subst, arith, inl, inr, ⊎_elim}
use Rattle.std.proofs.lemmas.Bool.Decides.{nat_tests}
use Rattle.ec_attr.specs.Bricks.{count_below}
use Rattle.ec_history.specs.Flat.Opener.{Nobody}
use Rattle.ec_law_base.specs.State.{State, Head, Ballot, target}
use Rattle.ec_law_base.proofs.Counts.{same, some}
use Rattle.ec_law_ballots.specs.Words.{did, group, at_base}
use Rattle.ec_law_ballots.specs.Act.{Act, step as act_step}
use Rattle.ec_law_ballots.specs.Act.Act.{Grant, Free, Share, Unshare, Moment, See, Keep, Carry, Choose, Choose_kept, Pre, Sink_pre, Post, Sink_post, Clear, Heal_grant, Heal_free, Mark, Unmark, Maker_grant, Maker_free, Make, Made, Unmake, Stop, Replace}
use Rattle.ec_law_ballots.specs.Guard.{May, IsCommitted}
use Rattle.ec_law_quorum.specs.Wide.{Inv, Promised}
use Rattle.ec_law_quorum.proofs.Quorums.{either, is_false, read}
use Rattle.ec_law_quorum.proofs.Laws.{inv_step}
use Rattle.ec_law_pieces.specs.File.{Form, File}
use Rattle.ec_law_pieces.specs.Deed.{Deed, step, MayDo, Runs, after, posted_at, committed_at, flat_after, content_after, commits, is_plain}
use Rattle.ec_law_pieces.specs.Deed.Deed.{Do, Look, Take, Take_kept, Read, Intend, Write, Tear, Copy, Spoil, Commit, Follow, Begin, Finish, Create}
use Rattle.ec_law_pieces.specs.Clauses.{Good}
use Rattle.ec_law_pieces.specs.Facts.{Back}
use Rattle.ec_law_pieces.proofs.Known.{alones, base_is, base_le, commit_number, commit_planned, commit_promised, commit_shape, did_number, granted_met, none_made, number_of, of_turn, one_shape, one_turn, ones, opens, piece_at, real_commit, same_did, unborn}
use Rattle.ec_law_pieces.proofs.Stands.{good-grant, good-carry, good-free, good-stop, good-unmake, good-replace, good-maker_grant, good-maker_free, good-look, good-take, good-take_kept, good-read, good-intend}
use Rattle.ec_law_pieces.proofs.Data.{good-write, good-tear, good-copy, good-spoil, good-begin, good-finish, good-create}
use Rattle.ec_law_pieces.proofs.Posts.{good-follow, good-still, good-commit}

below_or : (x y : ℕ) → (x < y) ⊎ (y ≤ x)
below_or x y = grind arith

unset : (s : State) (x d a : ℕ) → a ≢ x → (b : ℕ) → (act_step s (Post x d)).post a b ≡ s.post a b
unset s x d a ne b = grind (arith, nat_tests)

module _ {P V C U S : Type 0} (form : Form P V C U S) (n k : ℕ) (most : n < k + k) (fits : k ≤ n) (f : File P V C U S) (i : Inv n k f.heads) (g : Good form n k f) where
  -- acts that change nothing of which a clause speaks

  quiet-share : (x d : ℕ) → Good form n k (step form n k f (Do (Share x d)))
  quiet-share x d = record { top = g.top; last = g.last; here = g.here; synced_all = g.synced_all; ahead = g.ahead; ahead_new = g.ahead_new; behind = g.behind; written = g.written; latest = g.latest; wrote_planned = g.wrote_planned; planned_number = g.planned_number; covers_planned = g.covers_planned; did_planned = g.did_planned; one_writer = g.one_writer; opener_writes = g.opener_writes; units = g.units; sets = g.sets; keeps = g.keeps; got_is = g.got_is; got_number = g.got_number; shape_here = g.shape_here; stale_is = g.stale_is; told_is = g.told_is; took_is = g.took_is; becomes_is = g.becomes_is; flat_shape = g.flat_shape; zero_past = g.zero_past; plan_zero = g.plan_zero; plan_grows = g.plan_grows; not_made_zero = g.not_made_zero; maker_zero = g.maker_zero }

  quiet-unshare : (x d : ℕ) → Good form n k (step form n k f (Do (Unshare x d)))
  quiet-unshare x d = record { top = g.top; last = g.last; here = g.here; synced_all = g.synced_all; ahead = g.ahead; ahead_new = g.ahead_new; behind = g.behind; written = g.written; latest = g.latest; wrote_planned = g.wrote_planned; planned_number = g.planned_number; covers_planned = g.covers_planned; did_planned = g.did_planned; one_writer = g.one_writer; opener_writes = g.opener_writes; units = g.units; sets = g.sets; keeps = g.keeps; got_is = g.got_is; got_number = g.got_number; shape_here = g.shape_here; stale_is = g.stale_is; told_is = g.told_is; took_is = g.took_is; becomes_is = g.becomes_is; flat_shape = g.flat_shape; zero_past = g.zero_past; plan_zero = g.plan_zero; plan_grows = g.plan_grows; not_made_zero = g.not_made_zero; maker_zero = g.maker_zero }

  quiet-moment : (x : ℕ) → Good form n k (step form n k f (Do (Moment x)))
  quiet-moment x = record { top = g.top; last = g.last; here = g.here; synced_all = g.synced_all; ahead = g.ahead; ahead_new = g.ahead_new; behind = g.behind; written = g.written; latest = g.latest; wrote_planned = g.wrote_planned; planned_number = g.planned_number; covers_planned = g.covers_planned; did_planned = g.did_planned; one_writer = g.one_writer; opener_writes = g.opener_writes; units = g.units; sets = g.sets; keeps = g.keeps; got_is = g.got_is; got_number = g.got_number; shape_here = g.shape_here; stale_is = g.stale_is; told_is = g.told_is; took_is = g.took_is; becomes_is = g.becomes_is; flat_shape = g.flat_shape; zero_past = g.zero_past; plan_zero = g.plan_zero; plan_grows = g.plan_grows; not_made_zero = g.not_made_zero; maker_zero = g.maker_zero }

  quiet-keep : (x u : ℕ) → Good form n k (step form n k f (Do (Keep x u)))
  quiet-keep x u = record { top = g.top; last = g.last; here = g.here; synced_all = g.synced_all; ahead = g.ahead; ahead_new = g.ahead_new; behind = g.behind; written = g.written; latest = g.latest; wrote_planned = g.wrote_planned; planned_number = g.planned_number; covers_planned = g.covers_planned; did_planned = g.did_planned; one_writer = g.one_writer; opener_writes = g.opener_writes; units = g.units; sets = g.sets; keeps = g.keeps; got_is = g.got_is; got_number = g.got_number; shape_here = g.shape_here; stale_is = g.stale_is; told_is = g.told_is; took_is = g.took_is; becomes_is = g.becomes_is; flat_shape = g.flat_shape; zero_past = g.zero_past; plan_zero = g.plan_zero; plan_grows = g.plan_grows; not_made_zero = g.not_made_zero; maker_zero = g.maker_zero }

  quiet-pre : (x d : ℕ) → Good form n k (step form n k f (Do (Pre x d)))
  quiet-pre x d = record { top = g.top; last = g.last; here = g.here; synced_all = g.synced_all; ahead = g.ahead; ahead_new = g.ahead_new; behind = g.behind; written = g.written; latest = g.latest; wrote_planned = g.wrote_planned; planned_number = g.planned_number; covers_planned = g.covers_planned; did_planned = g.did_planned; one_writer = g.one_writer; opener_writes = g.opener_writes; units = g.units; sets = g.sets; keeps = g.keeps; got_is = g.got_is; got_number = g.got_number; shape_here = g.shape_here; stale_is = g.stale_is; told_is = g.told_is; took_is = g.took_is; becomes_is = g.becomes_is; flat_shape = g.flat_shape; zero_past = g.zero_past; plan_zero = g.plan_zero; plan_grows = g.plan_grows; not_made_zero = g.not_made_zero; maker_zero = g.maker_zero }

  quiet-sink_pre : (x d : ℕ) → Good form n k (step form n k f (Do (Sink_pre x d)))
  quiet-sink_pre x d = record { top = g.top; last = g.last; here = g.here; synced_all = g.synced_all; ahead = g.ahead; ahead_new = g.ahead_new; behind = g.behind; written = g.written; latest = g.latest; wrote_planned = g.wrote_planned; planned_number = g.planned_number; covers_planned = g.covers_planned; did_planned = g.did_planned; one_writer = g.one_writer; opener_writes = g.opener_writes; units = g.units; sets = g.sets; keeps = g.keeps; got_is = g.got_is; got_number = g.got_number; shape_here = g.shape_here; stale_is = g.stale_is; told_is = g.told_is; took_is = g.took_is; becomes_is = g.becomes_is; flat_shape = g.flat_shape; zero_past = g.zero_past; plan_zero = g.plan_zero; plan_grows = g.plan_grows; not_made_zero = g.not_made_zero; maker_zero = g.maker_zero }

  quiet-clear : (x d : ℕ) → Good form n k (step form n k f (Do (Clear x d)))
  quiet-clear x d = record { top = g.top; last = g.last; here = g.here; synced_all = g.synced_all; ahead = g.ahead; ahead_new = g.ahead_new; behind = g.behind; written = g.written; latest = g.latest; wrote_planned = g.wrote_planned; planned_number = g.planned_number; covers_planned = g.covers_planned; did_planned = g.did_planned; one_writer = g.one_writer; opener_writes = g.opener_writes; units = g.units; sets = g.sets; keeps = g.keeps; got_is = g.got_is; got_number = g.got_number; shape_here = g.shape_here; stale_is = g.stale_is; told_is = g.told_is; took_is = g.took_is; becomes_is = g.becomes_is; flat_shape = g.flat_shape; zero_past = g.zero_past; plan_zero = g.plan_zero; plan_grows = g.plan_grows; not_made_zero = g.not_made_zero; maker_zero = g.maker_zero }

  quiet-heal_grant : (x d : ℕ) → Good form n k (step form n k f (Do (Heal_grant x d)))
  quiet-heal_grant x d = record { top = g.top; last = g.last; here = g.here; synced_all = g.synced_all; ahead = g.ahead; ahead_new = g.ahead_new; behind = g.behind; written = g.written; latest = g.latest; wrote_planned = g.wrote_planned; planned_number = g.planned_number; covers_planned = g.covers_planned; did_planned = g.did_planned; one_writer = g.one_writer; opener_writes = g.opener_writes; units = g.units; sets = g.sets; keeps = g.keeps; got_is = g.got_is; got_number = g.got_number; shape_here = g.shape_here; stale_is = g.stale_is; told_is = g.told_is; took_is = g.took_is; becomes_is = g.becomes_is; flat_shape = g.flat_shape; zero_past = g.zero_past; plan_zero = g.plan_zero; plan_grows = g.plan_grows; not_made_zero = g.not_made_zero; maker_zero = g.maker_zero }

  quiet-heal_free : (d : ℕ) → Good form n k (step form n k f (Do (Heal_free d)))
  quiet-heal_free d = record { top = g.top; last = g.last; here = g.here; synced_all = g.synced_all; ahead = g.ahead; ahead_new = g.ahead_new; behind = g.behind; written = g.written; latest = g.latest; wrote_planned = g.wrote_planned; planned_number = g.planned_number; covers_planned = g.covers_planned; did_planned = g.did_planned; one_writer = g.one_writer; opener_writes = g.opener_writes; units = g.units; sets = g.sets; keeps = g.keeps; got_is = g.got_is; got_number = g.got_number; shape_here = g.shape_here; stale_is = g.stale_is; told_is = g.told_is; took_is = g.took_is; becomes_is = g.becomes_is; flat_shape = g.flat_shape; zero_past = g.zero_past; plan_zero = g.plan_zero; plan_grows = g.plan_grows; not_made_zero = g.not_made_zero; maker_zero = g.maker_zero }

  quiet-made : (d : ℕ) → Good form n k (step form n k f (Do (Made d)))
  quiet-made d = record { top = g.top; last = g.last; here = g.here; synced_all = g.synced_all; ahead = g.ahead; ahead_new = g.ahead_new; behind = g.behind; written = g.written; latest = g.latest; wrote_planned = g.wrote_planned; planned_number = g.planned_number; covers_planned = g.covers_planned; did_planned = g.did_planned; one_writer = g.one_writer; opener_writes = g.opener_writes; units = g.units; sets = g.sets; keeps = g.keeps; got_is = g.got_is; got_number = g.got_number; shape_here = g.shape_here; stale_is = g.stale_is; told_is = g.told_is; took_is = g.took_is; becomes_is = g.becomes_is; flat_shape = g.flat_shape; zero_past = g.zero_past; plan_zero = g.plan_zero; plan_grows = g.plan_grows; not_made_zero = g.not_made_zero; maker_zero = g.maker_zero }

  good_do : (e : Act) → May n k f.heads e → is_plain form n k e ≡ true → Good form n k (step form n k f (Do e))
  good_do (Grant x d) may p = good-grant form n k f x d (may, p) (granted_met form n k most fits f i g) g
  good_do (Free d) may p = good-free form n k f d (may, p) g
  good_do (Share x d) may p = quiet-share x d
  good_do (Unshare x d) may p = quiet-unshare x d
  good_do (Moment x) may p = quiet-moment x
  good_do (See x d) may p = absurd (cc)
  good_do (Keep x u) may p = quiet-keep x u
  good_do (Carry u x d) may p = good-carry form n k f u x d (may, p) (granted_met form n k most fits f i g) g
  good_do (Choose x p) may q = absurd (cc)
  good_do (Choose_kept x u p) may q = absurd (cc)
  good_do (Pre x d) may p = quiet-pre x d
  good_do (Sink_pre x d) may p = quiet-sink_pre x d
  good_do (Post x d) may p = absurd (cc)
  good_do (Sink_post x d) may p = absurd (cc)
  good_do (Clear x d) may p = quiet-clear x d
  good_do (Heal_grant x d) may p = quiet-heal_grant x d
  good_do (Heal_free d) may p = quiet-heal_free d
  good_do (Mark x d) may p = absurd (cc)
  good_do (Unmark x d) may p = absurd (cc)
  good_do (Maker_grant d) may p = good-maker_grant form n k f d (may, p) g
  good_do (Maker_free d) may p = good-maker_free form n k f d (may, p) g
  good_do (Make d) may p = absurd (cc)
  good_do (Made d) may p = quiet-made d
  good_do (Unmake d) may p = good-unmake form n k f d (may, p) g
  good_do (Stop d) may p = good-stop form n k f d (may, p) g
  good_do (Replace d) may p = good-replace form n k f d (may, p) g

  -- the shape of a group is that of its version
  group_shape : (x : ℕ) (p : Ballot) (shape : S) (m : MayDo form n k f (Take x p shape)) → shape ≡ f.shape_of p.base
  group_shape x p shape m =
      let c = some (λ b. at_base p (f.heads.seen x b)) n (let q = m.0.2 in omega arith) in
      let r = read p (f.heads.seen x c.0) c.1 in
      ⊎_elim (λ e. sym (m.1 c.0 (member c.0 c.1)) ∙ (e ∙ ap f.shape_of r.2)) (λ bad. absurd (not_stale c.0 r.0 r.1 r.5 r.4 (ap (λ (v : ℕ). v) r.2) bad)) (g.told_is x c.0 r.0 r.1 r.5 r.4)
    where
      member : (b : ℕ) → at_base p (f.heads.seen x b) ≡ true → group (act_step f.heads (Choose x p)) x b ≡ true
      member b e = new_group f.heads x p b e
        where
          new_group : (s : State) (x : ℕ) (p : Ballot) (b : ℕ) → at_base p (s.seen x b) ≡ true → group (act_step s (Choose x p)) x b ≡ true
          new_group s x p b e = grind (arith, nat_tests)

      j : Inv n k (act_step f.heads (Choose x p))
      j = inv_step n k most fits f.heads (Choose x p) m.0 i

      mine : ((act_step f.heads (Choose x p)).ballot x).base ≡ p.base
      mine = own f.heads x p
        where
          own : (s : State) (x : ℕ) (p : Ballot) → ((act_step s (Choose x p)).ballot x).base ≡ p.base
          own s x p = grind (arith, nat_tests)

      numbered' : 0 < ((act_step f.heads (Choose x p)).ballot x).number
      numbered' = own f.heads x p m.0.1
        where
          own : (s : State) (x : ℕ) (p : Ballot) → 0 < p.number → 0 < ((act_step s (Choose x p)).ballot x).number
          own s x p h = grind (arith, nat_tests)

      not_stale : (b : ℕ) (h : Head) → f.heads.seen x b ≡ Some h → h.present ≡ true → h.marked ≡ false → h.version ≡ p.base → (f.heads.old h.version ≡ true) ⊎ (h.version < f.heads.origin) → ⊥
      not_stale b h e there plain at (inr low) = let o = (j.wide.origin_le x numbered').0 in let q = mine in omega arith
      not_stale b h e there plain at (inl was_old) = ⊎_elim (λ z. old_high (sym mine ∙ z)) (λ c. old_commit c.0 c.1 (c.2 ∙ mine)) (j.wide.chosen x numbered')
        where
          target_is : target (f.heads.ballot h.version) ≡ h.version
          target_is = i.wide.old_target h.version was_old

          promised_old : Promised n k f.heads h.version
          promised_old = (i.wide.old_promised h.version was_old, λ r. absurd (cc))

          old_high : p.base ≡ f.heads.origin → ⊥
          old_high z = let q = number_of form n k most fits f i g h.version promised_old in let o = (i.wide.origin_le h.version q).1 was_old in let t = target_is in omega arith

          old_commit : (c : ℕ) → IsCommitted n k f.heads c → target ((act_step f.heads (Choose x p)).ballot c) ≡ p.base → ⊥
          old_commit c cc' t =
              let still = kept_ballot f.heads x p c (commit_number form n k most fits f i g c cc') m.0.0 in
              let q = one_turn form n k most fits f i g c h.version (commit_promised form n k most fits f i g c cc') promised_old (ap target still ∙ (t ∙ (sym at ∙ sym target_is))) in
              let r = real_commit form n k most fits f i g c cc' in
              let w = subst (λ (z : ℕ). f.heads.old z ≡ true) (sym q) was_old in
              cc
            where
              kept_ballot : (s : State) (x : ℕ) (p : Ballot) (c : ℕ) → 0 < (s.ballot c).number → (s.ballot x).number ≡ 0 → s.ballot c ≡ (act_step s (Choose x p)).ballot c
              kept_ballot s x p c h z = grind (arith, nat_tests)

  -- a copy of a closed place on the flat version is the code of the one value
  copy_is : (x d : ℕ) (places : P → Bool) (pieces : P → C) → MayDo form n k f (Copy x d places pieces) → (p : P) → places p ≡ true → f.heads.version d ≡ f.flat.version → f.flat.opener p ≡ Nobody → pieces p ≡ form.code (f.content p) d
  copy_is x d places pieces may p e at o = ⊎_elim
      (λ read. read (f.content p) (λ c y q. g.got_is x c p y q base o))
      (λ zero. zero.1 ∙ ap (λ (v : V). form.code v d) (sym (g.zero_past p o (past_is zero.0))))
      (may.3 p e)
    where
      base : (f.heads.ballot x).base ≡ f.flat.version
      base = sym may.1.1 ∙ at

      real : f.heads.old x ≡ false
      real = is_false (f.heads.old x) (λ w. let n' = ((i.local d).old_none x w).0 in let h = (i.local d).holder_granted x may.0 in cc)

      past_is : form.past (f.took x) p ≡ true → form.past f.flat.shape p ≡ true
      past_is h = ap (λ (z : S). form.past z p) (g.flat_shape ∙ (ap f.shape_of (sym base) ∙ sym (g.took_is x may.1.2 real))) ∙ h

  module _ (x d : ℕ) where
    promised_by : (t : ℕ) → k ≤ count_below n (f.heads.pre t) → Promised n k f.heads t
    promised_by t h = (let m = most in omega arith, λ o. h)

    good_follow : MayDo form n k f (Follow x d) → Good form n k (step form n k f (Follow x d))
    good_follow may =
        let px = promised_by x may.0.5 in
        good-follow form n k f x d may (piece_at form n k most fits f i g x d may.0.0 may.0.1.0 may.0.1.1 may.2 px may.3) (same_did form n k most fits f i g x px) (one_shape form n k most fits f i g x may.0.2.real px) g

    good_still : (may : MayDo form n k f (Commit x d)) → Back n k f x d → Good form n k (posted_at f x d)
    good_still may back =
        let px = promised_by x may.0.5 in
        good-still form n k f x d may back (piece_at form n k most fits f i g x d may.0.0 may.0.1.0 may.0.1.1 may.2 px may.3) (same_did form n k most fits f i g x px) (one_shape form n k most fits f i g x may.0.2.real px) g

    good_commit : (may : MayDo form n k f (Commit x d)) → count_below n (f.heads.post x) < k → IsCommitted n k (act_step f.heads (Post x d)) x → Good form n k (committed_at f x d)
    good_commit may fewer reached =
        good-commit form n k f x d may top_new reached base did_is may.0.2.real (did_number form n k most fits f i g) below_new committed_is number (one_shape form n k most fits f i g x may.0.2.real px) (i.wide.number_making x number) g
      where
        j : Inv n k (act_step f.heads (Post x d))
        j = inv_step n k most fits f.heads (Post x d) may.0 i

        px : Promised n k f.heads x
        px = promised_by x may.0.5

        number : 0 < (f.heads.ballot x).number
        number = may.0.2.number

        base : (f.heads.ballot x).base ≡ f.flat.version
        base = base_is form n k most fits f i g x d j px fewer reached

        back_to : (a : ℕ) → a ≢ x → IsCommitted n k (act_step f.heads (Post x d)) a → IsCommitted n k f.heads a
        back_to a ne h = let e = same ((act_step f.heads (Post x d)).post a) (f.heads.post a) n (unset f.heads x d a ne) in omega arith

        top_new : (a : ℕ) → IsCommitted n k (act_step f.heads (Post x d)) a → target (f.heads.ballot a) ≤ target (f.heads.ballot x)
        top_new a h = ⊎_elim (λ e. rw e (omega arith)) (λ ne. let o = g.top a (back_to a ne h) in let c = base in let u = number in omega arith) (either a x)

        below_new : (a : ℕ) → 0 < (f.heads.ballot a).number → (f.heads.ballot a).base ≢ target (f.heads.ballot x)
        below_new a h = let b = base_le form n k most fits f i g a h in let c = base in let u = number in omega arith

        committed_is : (a : ℕ) → IsCommitted n k (act_step f.heads (Post x d)) a → target (f.heads.ballot a) ≡ target (f.heads.ballot x) → a ≡ x
        committed_is a h e = ⊎_elim (λ q. q) (λ ne. one_turn form n k most fits f i g a x (commit_promised form n k most fits f i g a (back_to a ne h)) px e) (either a x)

        did_is : (b : ℕ) → b ≢ d → f.heads.present b ≡ true → f.heads.version b ≡ target (f.heads.ballot x) → did f.heads x b ≡ true
        did_is b ne p e = ⊎_elim (λ h. h) (λ c. absurd (let l = fewer in omega arith)) (of_turn form n k most fits f i g x b (f.heads.version b) px e (i.wide.known_marked b p))

  good_create : (d : ℕ) (shape : S) → MayDo form n k f (Create d shape) → Good form n k (step form n k f (Create d shape))
  good_create d shape may = good-create form n k f d shape may (did_number form n k most fits f i g) (unborn form n k most fits f i g d may.0.0 may.0.1 may.0.3 may.0.2) (none_made form n k most fits f i g may.0.4) g

  commit_good : (x d : ℕ) → MayDo form n k f (Commit x d) → (u : Bool) → commits n k f.heads x d ≡ u → Good form n k (record (posted_at f x d) { flat = cond u (flat_after f x) f.flat; content = cond u (content_after f x) f.content })
  commit_good x d m true e = good_commit x d m (fewer_of (count_below n (f.heads.post x)) (count_below n ((act_step f.heads (Post x d)).post x)) e) (reached_of (count_below n (f.heads.post x)) (count_below n ((act_step f.heads (Post x d)).post x)) e)
    where
      fewer_of : (p q : ℕ) → (nat_lt p k && nat_le k q) ≡ true → p < k
      fewer_of p q h = grind (arith, nat_tests)

      reached_of : (p q : ℕ) → (nat_lt p k && nat_le k q) ≡ true → k ≤ q
      reached_of p q h = grind (arith, nat_tests)
  commit_good x d m false e = good_still x d m back
    where
      again : (p q : ℕ) → (nat_lt p k && nat_le k q) ≡ false → k ≤ q → k ≤ p
      again p q h r = grind (arith, nat_tests)

      back : Back n k f x d
      back a h = ⊎_elim (λ is. rw is (again (count_below n (f.heads.post x)) (count_below n ((act_step f.heads (Post x d)).post x)) e (rw is at h))) (λ ne. let q = same ((act_step f.heads (Post x d)).post a) (f.heads.post a) n (unset f.heads x d a ne) in omega arith) (either a x)

  pub good_step : (e : Deed P V C U S) → MayDo form n k f e → Good form n k (step form n k f e)
  good_step (Do e) m = good_do e m.0 m.1
  good_step (Look x d) m = good-look form n k f x d m (commit_number form n k most fits f i g) g
  good_step (Take x p shape) m = good-take form n k f x p shape m (commit_number form n k most fits f i g) (did_number form n k most fits f i g) (group_shape x p shape m) g
  good_step (Take_kept x u p) m = good-take_kept form n k f x u p m (commit_number form n k most fits f i g) (did_number form n k most fits f i g) (commit_shape form n k most fits f i g u (i.wide.carried x u m.2).0 ∙ ap f.shape_of (sym m.3)) g
  good_step (Read x d places) m = good-read form n k f x d places m g
  good_step (Intend x plan) m = good-intend form n k f x plan m (commit_planned form n k most fits f i g) g
  good_step (Write x d places) m = good-write form n k f x d places m (opens form n k most fits f i g) (base_le form n k most fits f i g) (did_number form n k most fits f i g) (ones form n k most fits f i g) (alones form n k most fits f i g) g
  good_step (Tear x d places pieces) m = good-tear form n k f x d places pieces m (opens form n k most fits f i g) (base_le form n k most fits f i g) (did_number form n k most fits f i g) (ones form n k most fits f i g) (alones form n k most fits f i g) g
  good_step (Copy x d places pieces) m = good-copy form n k f x d places pieces m (copy_is x d places pieces m) (base_le form n k most fits f i g) (did_number form n k most fits f i g) (commit_planned form n k most fits f i g) g
  good_step (Spoil d places pieces) m = good-spoil form n k f d places pieces m g
  good_step (Commit x d) m = commit_good x d m (commits n k f.heads x d) refl
  good_step (Follow x d) m = good_follow x d m
  good_step (Begin x d) m = good-begin form n k f x d m g
  good_step (Finish x d) m = good-finish form n k f x d m g
  good_step (Create d shape) m = good_create d shape m

pub record Both {P V C U S : Type 0} (form : Form P V C U S) (n k : ℕ) (f : File P V C U S) : Type 0 where
  pub inv : Inv n k f.heads
  pub good : Good form n k f

module _ {P V C U S : Type 0} (form : Form P V C U S) (n k : ℕ) (most : n < k + k) (fits : k ≤ n) where
  inv_of : (f : File P V C U S) (e : Deed P V C U S) → MayDo form n k f e → Inv n k f.heads → Inv n k (step form n k f e).heads
  inv_of f (Do e) m i = inv_step n k most fits f.heads e m.0 i
  inv_of f (Look x d) m i = inv_step n k most fits f.heads (See x d) m i
  inv_of f (Take x p shape) m i = inv_step n k most fits f.heads (Choose x p) m.0 i
  inv_of f (Take_kept x u p) m i = inv_step n k most fits f.heads (Choose_kept x u p) m i
  inv_of f (Read x d places) m i = i
  inv_of f (Intend x plan) m i = i
  inv_of f (Write x d places) m i = i
  inv_of f (Tear x d places pieces) m i = i
  inv_of f (Copy x d places pieces) m i = i
  inv_of f (Spoil d places pieces) m i = i
  inv_of f (Commit x d) m i = inv_step n k most fits f.heads (Post x d) m.0 i
  inv_of f (Follow x d) m i = inv_step n k most fits f.heads (Sink_post x d) m.0 i
  inv_of f (Begin x d) m i = inv_step n k most fits f.heads (Mark x d) m.0 i
  inv_of f (Finish x d) m i = inv_step n k most fits f.heads (Unmark x d) m.0 i
  inv_of f (Create d shape) m i = inv_step n k most fits f.heads (Make d) m.0 i

  pub both_step : (f : File P V C U S) (e : Deed P V C U S) → MayDo form n k f e → Both form n k f → Both form n k (step form n k f e)
  both_step f e m h = record { inv = inv_of f e m h.inv; good = good_step form n k most fits f h.inv h.good e m }

  pub both_after : (es : List (Deed P V C U S)) (f : File P V C U S) → Runs form n k es f → Both form n k f → Both form n k (after form n k es f)
  both_after [] f r h = h
  both_after (e ∷ es) f r h = both_after es (step form n k f e) r.1 (both_step f e r.0 h)
