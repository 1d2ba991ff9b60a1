-- What the ballots say of the flat version.
use Rattle.std.proofs.Common.{◌≡◌, ◌⊎◌, ℕ, zero, suc, ◌+◌, ◌<◌, ◌≤◌, Bool, true, false, ◌==◌, Option, Some, None, refl, sym, ◌∙◌, ap, subst, arith, inl, inr, ⊎_elim}
use Rattle.std.proofs.lemmas.Bool.Decides.{nat_tests}
use Rattle.ec_attr.specs.Bricks.{count_below}
use Rattle.ec_history.specs.Flat.{Opener, opened_by, is_open_to_it_alone}
use Rattle.ec_history.specs.Flat.Opener.{Nobody, One, Several}
use Rattle.ec_law_base.specs.State.{State, Head, target}
use Rattle.ec_law_base.proofs.Counts.{some}
use Rattle.ec_law_ballots.specs.Words.{did, saw, met, tied}
use Rattle.ec_law_ballots.specs.Act.{step as act_step}
use Rattle.ec_law_ballots.specs.Act.Act.{Post}
use Rattle.ec_law_ballots.specs.Guard.{IsCommitted}
use Rattle.ec_law_quorum.specs.Wide.{Inv, Promised, Known, KnownMarked}
use Rattle.ec_law_quorum.proofs.Quorums.{either, order, is_false, promised, numbered, alike, low}
use Rattle.ec_law_quorum.proofs.Laws.{through, alone}
use Rattle.ec_law_pieces.specs.File.{Form, File}
use Rattle.ec_law_pieces.specs.Clauses.{Good}
use Rattle.ec_law_pieces.specs.Facts.{BaseLe, DidNumber, CommitNumber, CommitPlanned, MetGranted, SameDid, OpenAfter, AloneBefore, OneBefore, NoneMade, UnbornMet, OneShape}

open_after : (c : ℕ) (o : Opener) → opened_by c o ≡ Nobody → ⊥
open_after c Nobody e = absurd (cc)
open_after c (One x) e = pick (x == c) refl
  where
    pick : (u : Bool) → (x == c) ≡ u → ⊥
    pick true q = let g = rw q at e in absurd (cc)
    pick false q = let g = rw q at e in absurd (cc)
open_after c Several e = absurd (cc)

alone_before : (a c : ℕ) (o : Opener) → is_open_to_it_alone a (opened_by c o) ≡ true → is_open_to_it_alone a o ≡ true
alone_before a c Nobody e = refl
alone_before a c (One x) e = grind (arith, nat_tests)
alone_before a c Several e = e

one_before : (a c : ℕ) (o : Opener) → opened_by c o ≡ One a → (o ≡ One a) ⊎ (a ≡ c)
one_before a c Nobody e = inr (cc)
one_before a c (One x) e = grind (arith, nat_tests)
one_before a c Several e = absurd (cc)

did_either : (s : State) (a b : ℕ) → did s a b ≡ true → (s.post a b ≡ true) ⊎ (s.spost a b ≡ true)
did_either s a b h = grind (arith, nat_tests)

pub did_post : (s : State) (a b : ℕ) → s.post a b ≡ true → did s a b ≡ true
did_post s a b h = grind (arith, nat_tests)

did_spost : (s : State) (a b : ℕ) → s.spost a b ≡ true → did s a b ≡ true
did_spost s a b h = grind (arith, nat_tests)

met_granted : (s : State) (a b : ℕ) → (saw s a b ≡ true → s.granted a b ≡ true) → (s.mark a b ≡ true → saw s a b ≡ true) → met s a b ≡ true → s.granted a b ≡ true
met_granted s a b g m h = grind (arith, nat_tests)

unmet : (s : State) (a b : ℕ) → tied s a b ≡ false → ((h : Head) → s.seen a b ≡ Some h → h.present ≡ false) → met s a b ≡ false
unmet s a b t f = pick (s.seen a b) refl
  where
    unmarked : s.mark a b ≡ false
    unmarked = grind (arith, nat_tests)

    pick : (o : Option Head) → s.seen a b ≡ o → met s a b ≡ false
    pick None e = let m = unmarked in grind (arith, nat_tests)
    pick (Some h) e = let m = unmarked in let p = f h e in grind (arith, nat_tests)

no_number : (x : ℕ) → (0 < x → ⊥) → x ≡ 0
no_number zero f = refl
no_number (suc x) f = absurd (f (omega arith))

module _ {P V C U S : Type 0} (form : Form P V C U S) (n k : ℕ) (most : n < k + k) (fits : k ≤ n) (f : File P V C U S) (i : Inv n k f.heads) (g : Good form n k f) where
  pub did_promised : (a b : ℕ) → did f.heads a b ≡ true → Promised n k f.heads a
  did_promised a b h = ⊎_elim (λ p. i.wide.whole a b p) (λ p. i.wide.sink_whole a b p) (did_either f.heads a b h)

  pub number_of : (a : ℕ) → Promised n k f.heads a → 0 < (f.heads.ballot a).number
  number_of a h = numbered n k most fits f.heads i.local i.wide a h

  pub did_number : DidNumber n k f
  did_number a b h = number_of a (did_promised a b h)

  pub commit_promised : (a : ℕ) → IsCommitted n k f.heads a → Promised n k f.heads a
  commit_promised a h = promised n k most fits f.heads i.local i.wide a h

  pub commit_number : CommitNumber n k f
  commit_number a h = number_of a (commit_promised a h)

  pub real_commit : (a : ℕ) → IsCommitted n k f.heads a → f.heads.old a ≡ false
  real_commit a h = is_false (f.heads.old a) (λ o. let x = i.wide.old_short a o in omega arith)

  commit_did : (a : ℕ) → IsCommitted n k f.heads a → (b : ℕ) × (did f.heads a b ≡ true)
  commit_did a h = let b = some (f.heads.post a) n (omega arith) in (b.0, did_post f.heads a b.0 b.1)

  pub commit_planned : CommitPlanned n k f
  commit_planned a h = let b = commit_did a h in g.did_planned a b.0 b.1 (real_commit a h)

  pub commit_shape : (a : ℕ) → IsCommitted n k f.heads a → f.becomes a ≡ f.shape_of (target (f.heads.ballot a))
  commit_shape a h = let b = commit_did a h in g.becomes_is a b.0 b.1 (real_commit a h)

  pub origin_le : f.heads.origin ≤ f.flat.version
  origin_le = ⊎_elim (λ z. omega arith) (λ c. let o = (i.wide.origin_le c.0 (commit_number c.0 c.1)).0 in omega (arith, c.2)) g.last

  pub base_le : BaseLe n k f
  base_le a number = ⊎_elim (λ e. let o = origin_le in omega arith) (λ e. let h = g.top e.0 e.1 in omega (arith, e.2)) (i.wide.chosen a number)

  pub granted_met : MetGranted n k f
  granted_met a b h = met_granted f.heads a b (λ s. ((i.local b).saw a s).0) (λ m. ((i.local b).mark_seen a m).0) h

  -- two turns that are promised one version are one
  pub one_turn : (a c : ℕ) → Promised n k f.heads a → Promised n k f.heads c → target (f.heads.ballot a) ≡ target (f.heads.ballot c) → a ≡ c
  one_turn a c pa pc e = ⊎_elim (λ same. same) (λ ne. absurd (alike n k most fits f.heads i.local i.wide a c ne pa pc e)) (either a c)

  pub same_did : (x : ℕ) → Promised n k f.heads x → SameDid n k f x
  same_did x p e b h t = one_turn e x (did_promised e b h) p t

  pub opens : OpenAfter n k f
  opens c p e = open_after c (f.flat.opener p) e

  pub alones : AloneBefore n k f
  alones a c p e = alone_before a c (f.flat.opener p) e

  pub ones : OneBefore n k f
  ones a c p e = one_before a c (f.flat.opener p) e

  pub none_made : f.heads.origin ≡ 0 → NoneMade n k f
  none_made z m = (λ b. ((i.local b).not_made m).0, λ a b h e. (i.local b).not_made_seen a h m e, no_ballot, ⊎_elim (λ q. omega arith) (λ c. absurd (let x = commit_number c.0 c.1 in let y = no_ballot c.0 in omega arith)) g.last)
    where
      no_ballot : (a : ℕ) → (f.heads.ballot a).number ≡ 0
      no_ballot a = no_number (f.heads.ballot a).number (λ h. let x = i.wide.number_making a h in absurd (cc))

  pub unborn : (d : ℕ) → f.heads.maker d ≡ true → f.heads.removed d ≡ false → f.heads.born d ≡ false → f.heads.present d ≡ false → UnbornMet n k f d
  unborn d m r b p a = unmet f.heads a d ((i.local d).unborn_pre a m r b p).1 (λ h e. (i.local d).unborn_seen a h m r b p e)

  -- the turn that is promised the flat version is committed
  pub last_is : (a : ℕ) → Promised n k f.heads a → target (f.heads.ballot a) ≡ f.flat.version → IsCommitted n k f.heads a
  last_is a pa e = ⊎_elim none one g.last
    where
      none : f.flat.version ≡ f.heads.origin → IsCommitted n k f.heads a
      none z = absurd (let h = number_of a pa in let o = (i.wide.origin_le a h).0 in omega arith)

      one : (c : ℕ) × IsCommitted n k f.heads c × (f.flat.version ≡ target (f.heads.ballot c)) → IsCommitted n k f.heads a
      one c = rw (one_turn a c.0 pa (commit_promised c.0 c.1) (e ∙ c.2)) c.1

  -- whoever has a version of x has it of x
  pub of_turn : (x b v : ℕ) → Promised n k f.heads x → v ≡ target (f.heads.ballot x) → KnownMarked n k f.heads b v → (did f.heads x b ≡ true) ⊎ IsCommitted n k f.heads x
  of_turn x b v px is known = ⊎_elim plain (λ e. inl (same e.0 (i.wide.sink_whole e.0 b e.1) e.2 (did_spost f.heads e.0 b e.1))) known
    where
      same : (e : ℕ) → Promised n k f.heads e → target (f.heads.ballot e) ≡ v → did f.heads e b ≡ true → did f.heads x b ≡ true
      same e pe t h = let q = one_turn e x pe px (t ∙ is) in subst (λ (z : ℕ). did f.heads z b ≡ true) q h

      plain : Known n k f.heads b v → (did f.heads x b ≡ true) ⊎ IsCommitted n k f.heads x
      plain (inl z) = absurd (let h = number_of x px in let o = (i.wide.origin_le x h).0 in omega arith)
      plain (inr (inl e)) = inl (same e.0 (i.wide.whole e.0 b e.1) e.2 (did_post f.heads e.0 b e.1))
      plain (inr (inr e)) = inr (let q = one_turn e.0 x (commit_promised e.0 e.1) px (e.2 ∙ is) in subst (λ (z : ℕ). IsCommitted n k f.heads z) q e.1)

  shaped : (x b : ℕ) → f.heads.old x ≡ false → (did f.heads x b ≡ true) ⊎ IsCommitted n k f.heads x → f.shape_of (target (f.heads.ballot x)) ≡ f.becomes x
  shaped x b real known = ⊎_elim (λ h. sym (g.becomes_is x b h real)) (λ c. sym (commit_shape x c)) known

  pub one_shape : (x : ℕ) → f.heads.old x ≡ false → Promised n k f.heads x → OneShape n k f x
  one_shape x real px = record {
    here = λ b p s v. shaped x b real (of_turn x b (f.heads.version b) px v (i.wide.known_marked b p));
    told = λ a b h e p m v. shaped x b real (of_turn x b h.version px v (inl (i.wide.seen_known a b h e p m)));
    took = λ a number e. ⊎_elim (λ z. absurd (let h = number_of x px in let o = (i.wide.origin_le x h).0 in omega arith)) (λ c. let q = one_turn c.0 x (commit_promised c.0 c.1) px (c.2 ∙ e) in sym (commit_shape x (subst (λ (z : ℕ). IsCommitted n k f.heads z) q c.1))) (i.wide.chosen a number);
    did = λ a b h r e. let q = one_turn a x (did_promised a b h) px e in shaped x b real (inl (subst (λ (z : ℕ). did f.heads z b ≡ true) q h));
    flat = λ e. sym (commit_shape x (last_is x px (sym e)));
  }

  -- the piece of a brick that is about to do the PostOp of x after its commit
  pub piece_at : (x d : ℕ) → f.heads.holder d ≡ Some x → f.heads.present d ≡ true → f.heads.version d ≡ (f.heads.ballot x).base → met f.heads x d ≡ true → Promised n k f.heads x → ((p : P) → f.covers x p ≡ true → f.wrote x d p ≡ true) → (p : P) → target (f.heads.ballot x) ≡ f.flat.version → f.flat.opener p ≡ Nobody → f.synced d p ≡ true → f.piece d p ≡ form.code (f.content p) d
  piece_at x d h there at met' px all p e o y = pick (f.covers x p) refl
    where
      c : IsCommitted n k f.heads x
      c = last_is x px e

      pick : (u : Bool) → f.covers x p ≡ u → f.piece d p ≡ form.code (f.content p) d
      pick true q = g.written x d p h there at (all p q) y ∙ ap (λ (v : V). form.code v d) (sym (g.latest x p c e q o))
      pick false q = g.behind x d p h there at met' c e o q y

  -- a turn that commits does so on the flat version
  module _ (x d : ℕ) (j : Inv n k (act_step f.heads (Post x d))) (px : Promised n k f.heads x) (fewer : count_below n (f.heads.post x) < k) (reached : IsCommitted n k (act_step f.heads (Post x d)) x) where
    more : (a b : ℕ) → f.heads.post a b ≡ true → (act_step f.heads (Post x d)).post a b ≡ true
    more a b h = more_post f.heads x d a b h
      where
        more_post : (s : State) (x d a b : ℕ) → s.post a b ≡ true → (act_step s (Post x d)).post a b ≡ true
        more_post s x d a b h = grind (arith, nat_tests)

    nobody_else : (e : ℕ) → IsCommitted n k f.heads e → (f.heads.ballot e).base ≡ (f.heads.ballot x).base → ⊥
    nobody_else e ce same = alone n k most fits f.heads (act_step f.heads (Post x d)) i j (λ a. refl) more x px fewer reached e ce same

    pub base_is : (f.heads.ballot x).base ≡ f.flat.version
    base_is = ⊎_elim (λ z. let b = le in let o = (i.wide.origin_le x (number_of x px)).0 in omega arith) one g.last
      where
        le : (f.heads.ballot x).base ≤ f.flat.version
        le = base_le x (number_of x px)

        below : (e : ℕ) → IsCommitted n k f.heads e → f.flat.version ≡ target (f.heads.ballot e) → (f.heads.ballot x).base < f.flat.version → ⊥
        below e ce is lt =
            let pe = commit_promised e ce in
            ⊎_elim (λ h. let y = low n k most fits f.heads i.local i.wide e x pe (number_of x px) h in omega arith)
            (λ rest. ⊎_elim (λ eq. nobody_else e ce eq) (λ h. let c = through n k most fits f.heads i x e px (number_of e pe) h in nobody_else c.0 c.1 c.2) rest)
            (order (f.heads.ballot e).base (f.heads.ballot x).base)

        one : (e : ℕ) × IsCommitted n k f.heads e × (f.flat.version ≡ target (f.heads.ballot e)) → (f.heads.ballot x).base ≡ f.flat.version
        one e = ⊎_elim (λ lt. absurd (below e.0 e.1 e.2 lt)) (λ rest. ⊎_elim (λ eq. eq) (λ gt. absurd (let b = le in omega arith)) rest) (order (f.heads.ballot x).base f.flat.version)
