-- What the phases of a ballot count.
use Rattle.std.proofs.Common.{◌≡◌, ◌⊎◌, inl, inr, ℕ, ◌+◌, ◌^◌, ◌<◌, ◌≤◌, ◌&&◌, nat_le, nat_lt, Bool, true, false, refl, sym, ◌∙◌, ap, subst, arith, Some}
use Rattle.std.proofs.lemmas.Bool.{and_parts}
use Rattle.std.proofs.lemmas.Bool.Decides.{nat_tests}
use Rattle.ec_answers.specs.declared.grouped.Group.{Group}
use Rattle.ec_attr.specs.declared.head.Head.{Head}
use Rattle.ec_conduct.specs.Account.{Account, at}
use Rattle.ec_conduct.specs.Ballots.{attr_after, size_after}
use Rattle.ec_conduct.specs.Done.{is_post, is_pre}
use Rattle.ec_conduct.specs.Given.{Given, quorum_of}
use Rattle.ec_wire.specs.declared.answer.Answer.{Answer}
use Rattle.ec_wire.specs.declared.answer.Answer.TheVariants.{Limit}
use Rattle.ec_wire.specs.declared.phase.Phase.{Phase}
use Rattle.ec_wire.specs.declared.phase.Phase.TheVariants.{Pre as PrePhase, Post as PostPhase}
use Rattle.ec_wire.specs.declared.request.Request.{Request}
use Rattle.ec_wire.specs.declared.request.Request.TheVariants.{PreOp, PostOp}
use Rattle.ec_txn.specs.Ballot.{IfQuorum, InBallot, ballot_request, is_within, next_dirty}
use Rattle.ec_txn.specs.Rounds.{Asks, IsIdle, IsRound, subject}
use Rattle.ec_txn.specs.declared.ballot.Ballot.TheVariants.{Pre, Post, Clear}
use Rattle.ec_txn.specs.declared.stage.Next.{Next}
use Rattle.ec_law_causes.specs.Causes.{PassesLimit}
use Rattle.ec_law_causes.specs.Counted.{FallsShort, Windows, head_in, number}
use Rattle.ec_law_causes.proofs.Members.{AreBetween, HasMembers, PhaseOver, between_members, by_members, done_stays, ends, late_members, members_over}
use Rattle.ec_law_causes.proofs.Queried.{HasGroup}
use Rattle.ec_law_causes.proofs.Ranks.{OnlyLate, late_query, rank}

-- where the version and the size are within their limits, neither passes
pub within_limit : (given : Given) (w : Windows) (group : Group) → HasGroup given w group → is_within group.head ≡ true → (other : Answer) → PassesLimit given w other → ⊥
within_limit given w group h t other (head, e, past, is) = past_limit head (same head group.head e h.head) past
  where
    same : (a b : Head) → head_in given w ≡ Some a → head_in given w ≡ Some b → a ≡ b
    same a b e f = let v = sym e ∙ f in cc

    past_limit : (head : Head) → head ≡ group.head → (2 ^ 61 ≤ head.version.content + (head.dirty.content + 1)) ⊎ (2 ^ 40 < head.size) → ⊥
    past_limit head e past =
        let within : is_within head ≡ true = ap is_within e ∙ t in
        let parts = and_parts (nat_lt (head.version.content + next_dirty head) (2 ^ 61)) (nat_le head.size (2 ^ 40)) within in
        let low : head.version.content + next_dirty head < 2 ^ 61 = (let u = parts.0 in grind (arith, nat_tests)) in
        let small : head.size ≤ 2 ^ 40 = (let u = parts.1 in grind (arith, nat_tests)) in
        elim past [ inl l ↦ omega (arith, l, low) | inr l ↦ omega (arith, l, small) ]

-- and where not, that is the answer
pub past_limit : (given : Given) (w : Windows) (group : Group) → HasGroup given w group → is_within group.head ≡ false → PassesLimit given w (Limit group.head.version.content)
past_limit given w group h t = (group.head, h.head, by (nat_lt (group.head.version.content + next_dirty group.head) (2 ^ 61)) (nat_le group.head.size (2 ^ 40)) refl refl t, refl)
  where
    by : (a b : Bool) → nat_lt (group.head.version.content + next_dirty group.head) (2 ^ 61) ≡ a → nat_le group.head.size (2 ^ 40) ≡ b → (nat_lt (group.head.version.content + next_dirty group.head) (2 ^ 61) && nat_le group.head.size (2 ^ 40)) ≡ false
        → (2 ^ 61 ≤ group.head.version.content + (group.head.dirty.content + 1)) ⊎ (2 ^ 40 < group.head.size)
    by false b e f g = inl (let u = e in grind (arith, nat_tests))
    by true false e f g = inr (let u = f in grind (arith, nat_tests))
    by true true e f g = absurd (let u = rw (e, f) at g in cc)

only_pre : OnlyLate 3 is_pre
only_pre (PreOp g grant version dirty) e = omega arith
only_pre r e = absurd (cc)

only_post : OnlyLate 9 is_post
only_post (PostOp g grant old new size attr) e = omega arith
only_post r e = absurd (cc)

pub late_pre : (r : Request) → 4 ≤ rank r → is_pre r ≡ false
late_pre (PreOp g grant version dirty) le = absurd (omega arith)
late_pre r le = refl

pub late_post : (r : Request) → 10 ≤ rank r → is_post r ≡ false
late_post (PostOp g grant old new size attr) le = absurd (omega arith)
late_post r le = refl

abbrev pub pre_of : Group → Account → ℕ → ℕ → Request
pre_of group c = ballot_request (subject c.given.op) (size_after c.given.op group.head.size) (attr_after c.given.op) (Pre group)

abbrev pub post_of : Group → Account → ℕ → ℕ → Request
post_of group c = ballot_request (subject c.given.op) (size_after c.given.op group.head.size) (attr_after c.given.op) (Post group)

abbrev pub clear_of : Group → Account → ℕ → ℕ → Request
clear_of group c = ballot_request (subject c.given.op) (size_after c.given.op group.head.size) (attr_after c.given.op) (Clear group)

module _ (given : Given) (group : Group) (c : Account) (f : Asks) (d : Account) (cg : c.given ≡ given) (r : IsRound (subject given.op) c f d) (idle : IsIdle d) where
  pub pre_members : InBallot (Pre group) c f → HasMembers given group 3 c → HasMembers given group 4 d
  pre_members l h = members_over given group 3 4 c f d h r idle (omega arith) (between_members group (pre_of group c) c f 3 4 l.asks (λ i v. refl) (omega arith) (omega arith))

  pub pre_ends : {P : Type 0} → (goes_on : Next P → Type 0) (next : Next P) → InBallot (Pre group) c f → HasMembers given group 3 c → IfQuorum d group PrePhase goes_on next → PhaseOver given (λ x. (at d (subject given.op) x).window) PrePhase goes_on next
  pre_ends goes_on next l h i =
      ends given group 3 is_pre c f d h r idle (by_members given group is_pre (λ y. pre_of group c) c f cg l.asks (λ y i v. refl) (λ y i v. omega arith) l.within) only_pre PrePhase goes_on next (pre_members l h).group_is (r.given ∙ cg) (λ x. refl) (λ x. refl) refl i

  pub post_between : InBallot (Post group) c f → AreBetween 10 f
  post_between l = between_members group (post_of group c) c f 9 10 l.asks (λ i v. refl) (omega arith) (omega arith)

  pub post_members : InBallot (Post group) c f → HasMembers given group 9 c → HasMembers given group 10 d
  post_members l h = members_over given group 9 10 c f d h r idle (omega arith) (post_between l)

  pub post_ends : {P : Type 0} → (goes_on : Next P → Type 0) (next : Next P) → InBallot (Post group) c f → HasMembers given group 9 c → IfQuorum d group PostPhase goes_on next → PhaseOver given (λ x. (at d (subject given.op) x).window) PostPhase goes_on next
  post_ends goes_on next l h i =
      ends given group 9 is_post c f d h r idle (by_members given group is_post (λ y. post_of group c) c f cg l.asks (λ y i v. refl) (λ y i v. omega arith) l.within) only_post PostPhase goes_on next (post_members l h).group_is (r.given ∙ cg) (λ x. refl) (λ x. refl) refl i

  pub clear_members : InBallot (Clear group) c f → HasMembers given group 10 c → HasMembers given group 11 d
  clear_members l h = members_over given group 10 11 c f d h r idle (omega arith) (between_members group (clear_of group c) c f 10 11 l.asks (λ i v. refl) (omega arith) (omega arith))

  -- the PreOps stay done as later requests are over, and so do the PostOps
  pub pre_stays : ((x : ℕ) (q : Request) → f x ≡ Some q → 4 ≤ rank q) → quorum_of given ≤ number given (λ x. (at c (subject given.op) x).window) PrePhase → quorum_of given ≤ number given (λ x. (at d (subject given.op) x).window) PrePhase
  pre_stays late le = subst (λ (m : ℕ). quorum_of given ≤ m) (sym (done_stays given is_pre c f d r idle (λ x q e. (let l = late x q e in late_query q (omega (arith, l)), late_pre q (late x q e))))) le

  pub post_stays : ((x : ℕ) (q : Request) → f x ≡ Some q → 10 ≤ rank q) → quorum_of given ≤ number given (λ x. (at c (subject given.op) x).window) PostPhase → quorum_of given ≤ number given (λ x. (at d (subject given.op) x).window) PostPhase
  post_stays late le = subst (λ (m : ℕ). quorum_of given ≤ m) (sym (done_stays given is_post c f d r idle (λ x q e. (let l = late x q e in late_query q (omega (arith, l)), late_post q (late x q e))))) le

  pub post_late : InBallot (Post group) c f → (x : ℕ) (q : Request) → f x ≡ Some q → 9 ≤ rank q
  post_late l = late_members group (post_of group c) c f 9 l.asks (λ i v. refl)

  pub clear_late : InBallot (Clear group) c f → (x : ℕ) (q : Request) → f x ≡ Some q → 10 ≤ rank q
  clear_late l = late_members group (clear_of group c) c f 10 l.asks (λ i v. refl)

-- a phase that had a quorum doesn't fall short
pub no_short : (given : Given) (w : Windows) (phase : Phase) → quorum_of given ≤ number given w phase → (other : Answer) → FallsShort given w phase other → ⊥
no_short given w phase le other s = let f = s.few in omega (arith, le, f)
