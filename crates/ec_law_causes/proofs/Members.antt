-- The phases that ask the members of the good group, and what they count.
use Rattle.std.proofs.Common.{◌≡◌, ◌⊎◌, inl, inr, ⊎_elim, ℕ, ◌<◌, ◌≤◌, ◌&&◌, ◌||◌, nat_lt, is_some, Bool, true, false, cond, refl, sym, ◌∙◌, ap, subst, List, [], arith, Option, Some, None}
use Rattle.std.proofs.Math.Path.{fun_ext}
use Rattle.std.proofs.lemmas.Bool.{cases_lt}
use Rattle.std.proofs.lemmas.Bool.Decides.{nat_tests}
use Rattle.ec_answers.specs.declared.grouped.Group.{Group}
use Rattle.ec_answers.proofs.Agreement.{none_alike}
use Rattle.ec_answers.proofs.Counting.{count_of_none}
use Rattle.ec_attr.specs.Bricks.{count_below, is_in}
use Rattle.ec_attr.specs.GoodGroup.{alike}
use Rattle.ec_attr.specs.declared.kind.LockKind.{LockKind}
use Rattle.ec_attr.proofs.Sets.{same_count}
use Rattle.ec_conduct.specs.Account.{Account, Exchange, Lock, Place as PlaceOf, at, granted, is_granted, noted}
use Rattle.ec_conduct.specs.Done.{failed_none, is_any, is_done, is_lock, is_query, reply_to, tried}
use Rattle.ec_conduct.specs.Given.{Given, bricks_of, quorum_of}
use Rattle.ec_conduct.specs.Standing.{head_of, is_held}
use Rattle.ec_wire.specs.declared.answer.Answer.{Answer}
use Rattle.ec_wire.specs.declared.answer.Answer.TheVariants.{NoQuorum}
use Rattle.ec_wire.specs.declared.phase.Phase.{Phase}
use Rattle.ec_wire.specs.declared.request.Request.{Request}
use Rattle.ec_txn.specs.Ballot.{IfQuorum, grant_of, is_within, serving, to_members}
use Rattle.ec_txn.specs.Opening.{IsQuerying}
use Rattle.ec_txn.specs.Rounds.{Asks, IsIdle, IsIn, IsRound, IsUnlocked, asked_place, subject}
use Rattle.ec_txn.specs.declared.stage.Next.{Next}
use Rattle.ec_txn.specs.declared.stage.Next.TheVariants.{Say}
use Rattle.ec_conduct.specs.Group.{is_good}
use Rattle.ec_txn.proofs.Ballots.{asked_member, member_asked, grant_is, is_granted_of, serving_is}
use Rattle.ec_txn.proofs.BallotSends.{version_in}
use Rattle.ec_txn.proofs.Openings.{over_in}
use Rattle.ec_law_causes.specs.Counted.{FallsShort, Windows, belongs, is_asked, is_grouped, number}
use Rattle.ec_law_causes.proofs.Openings.{HereQuerying, held_unlocked}
use Rattle.ec_law_causes.proofs.Queried.{HasGroup, group_stays}
use Rattle.ec_law_causes.proofs.Ranks.{Below, OnlyLate, below_over, late_lock, late_place, late_query, rank, unreplied, untried}
use Rattle.ec_law_causes.proofs.Rounds.{over_at, replies_same}

none_some : {X : Type 0} (a : X) → None ≡ Some a → ⊥
none_some a e = cc

or_true : (a b : Bool) → a ≡ true → (a || b) ≡ true
or_true true b e = refl
or_true false b e = absurd (cc)

-- a lock that is held stays so
held_noted : (o : Option Lock) (e : Exchange) → is_held o ≡ true → is_held (granted o e) ≡ true
held_noted None e t = t
held_noted (Some lock) e t = or_true lock.granted _ t

-- The good group of a call, each brick of which holds its lock; and no request of a later rank was sent.
pub record HasMembers (given : Given) (group : Group) (m : ℕ) (c : Account) : Type 0 where
  pub group_is : HasGroup given (λ x. (at c (subject given.op) x).window) group
  pub locked : (x : ℕ) → is_in group.bricks x ≡ true → is_held (at c (subject given.op) x).inode ≡ true
  pub below : Below m (λ x. (at c (subject given.op) x).window)

pub members_unlocked : (given : Given) (group : Group) (m : ℕ) (d e : Account) → IsUnlocked (subject given.op) d e → HasMembers given group m d → HasMembers given group m e
members_unlocked given group m d e u h = record {
  group_is = subst (λ (w : Windows). HasGroup given w group) (sym (fun_ext u.window)) h.group_is;
  locked = λ x t. held_unlocked (subject given.op) d e u x ∙ h.locked x t;
  below = subst (Below m) (sym (fun_ext u.window)) h.below;
}

-- what is below a rank is below a later one
pub members_more : (given : Given) (group : Group) (m k : ℕ) (c : Account) → m ≤ k → HasMembers given group m c → HasMembers given group k c
members_more given group m k c le h = record { group_is = h.group_is; locked = h.locked; below = λ x. below_over m k None (at c (subject given.op) x).window (at c (subject given.op) x).window le refl (λ q e. absurd (none_some q e)) (h.below x) }

-- the requests of a round come after the Queries, and before a rank
abbrev pub AreBetween : ℕ → Asks → Type 0
AreBetween k f = (x : ℕ) (r : Request) → f x ≡ Some r → (2 ≤ rank r) × (rank r < k)

pub members_over : (given : Given) (group : Group) (m k : ℕ) (c : Account) (f : Asks) (d : Account) → HasMembers given group m c → IsRound (subject given.op) c f d → IsIdle d → m ≤ k → AreBetween k f → HasMembers given group k d
members_over given group m k c f d h r idle le between = record {
  group_is = group_stays given (λ x. (at d (subject given.op) x).window) (λ x. (at c (subject given.op) x).window) group
      (replies_same (subject given.op) c f d r idle is_lock (λ x q e. late_lock q (between x q e).0))
      (replies_same (subject given.op) c f d r idle is_query (λ x q e. late_query q (between x q e).0)) h.group_is;
  locked = λ x t. held_round x (f x) refl (r.each x) (h.locked x t);
  below = λ x. below_over m k (f x) (at c (subject given.op) x).window (at d (subject given.op) x).window le (over_at (subject given.op) c f d r idle x) (λ q e. (between x q e).1) (h.below x);
}
  where
    held_round : (x : ℕ) (o : Option Request) → f x ≡ o → IsIn o (at c (subject given.op) x) (d.waits x) (at d (subject given.op) x) → is_held (at c (subject given.op) x).inode ≡ true → is_held (at d (subject given.op) x).inode ≡ true
    held_round x None e i t = ap (λ (p : PlaceOf). is_held p.inode) i.1 ∙ t
    held_round x (Some q) e i t =
        let v = over_in q (at c (subject given.op) x) (d.waits x) (at d (subject given.op) x) i (idle x) in
        let k : Exchange = record { number = v.0; request = q; reply = v.1 } in
        ap (λ (p : PlaceOf). is_held p.inode) (v.2 ∙ ap (λ (p : PlaceOf). noted p k) (late_place (at c (subject given.op) x) v.0 q (between x q e).0)) ∙ held_noted (at c (subject given.op) x).inode k t

-- ## As the Queries are over

pub none_grouped : (given : Given) (w : Windows) (x : ℕ) → is_grouped given w x ≡ true → head_of (reply_to is_query (w x)) ≡ None → ⊥
none_grouped given w x t e =
    let none = count_of_none (bricks_of given) (alike (λ y. head_of (reply_to is_query (w y))) x) (λ b. none_alike (λ y. head_of (reply_to is_query (w y))) x b e) in
    let le : quorum_of given ≤ count_below (bricks_of given) (alike (λ y. head_of (reply_to is_query (w y))) x) = grind (arith, nat_tests) in
    absurd (let m = given.geometry.majority in omega (arith, le, none, m))

-- no brick of the group is past the last one
pub grouped_below : (given : Given) (w : Windows) (x : ℕ) → ((y : ℕ) → bricks_of given ≤ y → w y ≡ []) → is_grouped given w x ≡ true → x < bricks_of given
grouped_below given w x past t = elim (cases_lt x (bricks_of given)) [
  | inl l ↦ l
  | inr l ↦ absurd (none_grouped given w x t (ap (λ (es : List Exchange). head_of (reply_to is_query es)) (past x l)))
]

pub members_begin : (given : Given) (kind : LockKind) (group : Group) (c : Account) (f : Asks) (d : Account) → IsQuerying (subject given.op) (bricks_of given) kind c f → HereQuerying (subject given.op) (bricks_of given) (quorum_of given) c f
    → IsRound (subject given.op) c f d → IsIdle d → HasGroup given (λ x. (at d (subject given.op) x).window) group → HasMembers given group 2 d
members_begin given kind group c f d l h r idle g = record {
  group_is = g;
  locked = λ x t. held_at x (f x) refl (r.each x) (g.bricks x ∙ t);
  below = λ x. below_over 1 2 (f x) (at c (subject given.op) x).window (at d (subject given.op) x).window (omega arith) (over_at (subject given.op) c f d r idle x) (λ q e. let w = (l.asks x q e).4 in let v : rank q ≡ 1 = ap rank w in omega (arith, v)) (h.below x);
}
  where
    held_at : (x : ℕ) (o : Option Request) → f x ≡ o → IsIn o (at c (subject given.op) x) (d.waits x) (at d (subject given.op) x) → is_grouped given (λ x. (at d (subject given.op) x).window) x ≡ true → is_held (at d (subject given.op) x).inode ≡ true
    held_at x None e i t = absurd (none_grouped given (λ x. (at d (subject given.op) x).window) x t (ap (λ (p : PlaceOf). head_of (reply_to is_query p.window)) i.1 ∙ ap head_of (l.opens.quiet x)))
    held_at x (Some q) e i t =
        let a = l.asks x q e in
        let v = over_in q (at c (subject given.op) x) (d.waits x) (at d (subject given.op) x) i (idle x) in
        let k : Exchange = record { number = v.0; request = q; reply = v.1 } in
        let same : asked_place (at c (subject given.op) x) v.0 q ≡ at c (subject given.op) x = ap (asked_place (at c (subject given.op) x) v.0) a.4 in
        ap (λ (p : PlaceOf). is_held p.inode) (v.2 ∙ ap (λ (p : PlaceOf). noted p k) same) ∙ held_noted (at c (subject given.op) x).inode k (ap is_held a.2 ∙ a.3)

-- ## A phase of the members

-- how many bricks of the group did such a request
abbrev pub members_done : Given → Windows → (Request → Bool) → ℕ
members_done given w p = count_below (bricks_of given) (λ x. is_grouped given w x && is_done (reply_to p (w x)))

grant_stays : (o : Option Lock) (x : Exchange) (i : ℕ) → grant_of o ≡ Some i → is_some (grant_of (granted o x)) ≡ true
grant_stays o x i e =
    let w = grant_is o i e in
    let k : Lock = record w.0 { granted = w.0.granted || ((Rattle.std.specs.Prelude.nat_eq w.0.number x.number) && is_granted x.reply) } in
    ap is_some (is_granted_of (granted o x) k (ap (λ (l : Option Lock). granted l x) w.1) (or_true w.0.granted ((Rattle.std.specs.Prelude.nat_eq w.0.number x.number) && is_granted x.reply) w.2))

-- a brick that served serves on exactly where it did what it was asked
serves_done : (p : PlaceOf) (x : Exchange) (i : ℕ) → serving p ≡ Some i → is_some (serving (noted p x)) ≡ is_done x.reply
serves_done p x i e = by (is_done x.reply) refl
  where
    by : (t : Bool) → is_done x.reply ≡ t → is_some (serving (noted p x)) ≡ is_done x.reply
    by true t = let w = serving_is p i e in let f = w.0 in rw (t, f) (grant_stays p.inode x i w.1)
    by false t = rw t refl

-- a brick that holds its lock and doesn't serve failed in some request
pub fails : (p : PlaceOf) → is_held p.inode ≡ true → serving p ≡ None → failed_none is_any p.window ≡ false
fails p held none = by (failed_none is_any p.window) refl
  where
    at_lock : (o : Option Lock) → is_held o ≡ true → grant_of o ≡ None → ⊥
    at_lock None t e = absurd (let v : false ≡ true = t in cc)
    at_lock (Some lock) t e = absurd (none_some lock.number (sym e ∙ ap (λ (u : Bool). cond u (Some lock.number) None) t))

    by : (t : Bool) → failed_none is_any p.window ≡ t → failed_none is_any p.window ≡ false
    by true t = absurd (at_lock p.inode held (sym (ap (λ (u : Bool). cond u (grant_of p.inode) None) t) ∙ none))
    by false t = t

abbrev no_request : Option Request
no_request = None

none_of : (u : Bool) → cond u no_request None ≡ no_request
none_of true = refl
none_of false = refl

-- A phase that counts ended short of a quorum, and that is the answer; or it goes on.
abbrev pub PhaseOver : {P : Type 0} → Given → Windows → Phase → (Next P → Type 0) → Next P → Type 0
PhaseOver {P} given w phase goes_on next = ((answer : Answer) × (next ≡ Say answer) × FallsShort given w phase answer) ⊎ ((quorum_of given ≤ number given w phase) × goes_on next)

-- Of the group each brick that serves is asked such a request, and who doesn't serve is asked nothing.
pub record AsksMembers (given : Given) (group : Group) (p : Request → Bool) (c : Account) (f : Asks) : Type 0 where
  pub asked : (x i : ℕ) → x < bricks_of given → is_in group.bricks x ≡ true → serving (at c (subject given.op) x) ≡ Some i → (r : Request) × (f x ≡ Some r) × (p r ≡ true) × (2 ≤ rank r)
  pub unasked : (x : ℕ) → serving (at c (subject given.op) x) ≡ None → f x ≡ None

pub by_members : (given : Given) (group : Group) (p : Request → Bool) (request : ℕ → ℕ → ℕ → Request) (c : Account) (f : Asks) → c.given ≡ given → ((x : ℕ) → f x ≡ to_members group (request x) c x) → ((x i v : ℕ) → p (request x i v) ≡ true) → ((x i v : ℕ) → 2 ≤ rank (request x i v))
    → is_within group.head ≡ true → AsksMembers given group p c f
by_members given group p request c f cg asks fits late within = record {
  asked = λ x i less t s. (
    request x i group.head.version.content,
    asks x ∙ asked_member group (request x) c x i group.head.version.content within (subst (λ (z : Given). x < bricks_of z) (sym cg) less) (ap (λ (z : Given). serving (at c (subject z.op) x)) cg ∙ s) (version_in group x t),
    fits x i group.head.version.content,
    late x i group.head.version.content,
  );
  unasked = λ x s. asks x ∙ (let s' : serving (at c (subject c.given.op) x) ≡ None = ap (λ (v : Given). serving (at c (subject v.op) x)) cg ∙ s in rw s' (none_of (is_within group.head && nat_lt x (bricks_of c.given))));
}

module _ (given : Given) (group : Group) (m : ℕ) (p : Request → Bool) (c : Account) (f : Asks) (d : Account) (h : HasMembers given group m c) (r : IsRound (subject given.op) c f d) (idle : IsIdle d) (asks : AsksMembers given group p c f) (only : OnlyLate m p) where
  -- what a brick of the group did in the phase
  record Did (x : ℕ) : Type 0 where
    pub asked : (tried p (at d (subject given.op) x).window ≡ true) ⊎ (failed_none is_any (at d (subject given.op) x).window ≡ false)
    pub done : is_some (serving (at d (subject given.op) x)) ≡ is_done (reply_to p (at d (subject given.op) x).window)

  did_at : (x : ℕ) → x < bricks_of given → is_in group.bricks x ≡ true → Did x
  did_at x less t = go (serving (at c (subject given.op) x)) refl
    where
      go : (o : Option ℕ) → serving (at c (subject given.op) x) ≡ o → Did x
      go None s =
          let none : f x ≡ None = asks.unasked x s in
          let kept : at d (subject given.op) x ≡ at c (subject given.op) x = (subst (λ (q : Option Request). IsIn q (at c (subject given.op) x) (d.waits x) (at d (subject given.op) x)) none (r.each x)).1 in
          record {
            asked = inr (ap (λ (z : PlaceOf). failed_none is_any z.window) kept ∙ fails (at c (subject given.op) x) (h.locked x t) s);
            done = ap (λ (z : PlaceOf). is_some (serving z)) kept ∙ (ap is_some s ∙ sym (ap (λ (z : PlaceOf). is_done (reply_to p z.window)) kept ∙ ap is_done (unreplied p (at c (subject given.op) x).window (untried m p (at c (subject given.op) x).window only (h.below x)))));
          }
      go (Some i) s =
          let a = asks.asked x i less t s in
          let w = over_in a.0 (at c (subject given.op) x) (d.waits x) (at d (subject given.op) x) (subst (λ (q : Option Request). IsIn q (at c (subject given.op) x) (d.waits x) (at d (subject given.op) x)) a.1 (r.each x)) (idle x) in
          let k : Exchange = record { number = w.0; request = a.0; reply = w.1 } in
          let is : at d (subject given.op) x ≡ noted (at c (subject given.op) x) k = w.2 ∙ ap (λ (z : PlaceOf). noted z k) (late_place (at c (subject given.op) x) w.0 a.0 a.3) in
          let passes = a.2 in
          record {
            asked = inl (ap (λ (z : PlaceOf). tried p z.window) is ∙ or_true (p a.0) (tried p (at c (subject given.op) x).window) passes);
            done = ap (λ (z : PlaceOf). is_some (serving z)) is ∙ (serves_done (at c (subject given.op) x) k i s ∙ sym (ap (λ (z : PlaceOf). is_done (reply_to p z.window)) is ∙ ap (λ (u : Bool). is_done (cond u w.1 (reply_to p (at c (subject given.op) x).window))) passes));
          }

  and_same : (a b u v : Bool) → a ≡ u → (u ≡ true → b ≡ v) → (u && b) ≡ (a && v)
  and_same a b true v e f = f refl ∙ ap (λ (t : Bool). t && v) (sym e)
  and_same a b false v e f = ap (λ (t : Bool). t && v) (sym e)

  -- the bricks of the group that serve are those that did the request of the phase
  pub serve_as_done : HasGroup given (λ x. (at d (subject given.op) x).window) group → count_below (bricks_of given) (λ x. is_in group.bricks x && is_some (serving (at d (subject given.op) x))) ≡ members_done given (λ x. (at d (subject given.op) x).window) p
  serve_as_done g = same_count (bricks_of given) (λ x. is_in group.bricks x && is_some (serving (at d (subject given.op) x))) (λ x. is_grouped given (λ y. (at d (subject given.op) y).window) x && is_done (reply_to p (at d (subject given.op) x).window))
      (λ x less. and_same (is_grouped given (λ y. (at d (subject given.op) y).window) x) (is_some (serving (at d (subject given.op) x))) (is_in group.bricks x) (is_done (reply_to p (at d (subject given.op) x).window)) (g.bricks x) (λ t. (did_at x less t).done))

  -- What comes of the phase: fewer than K did it, and the call says so; or it goes on.
  pub phase_over : {P : Type 0} → (phase : Phase) (goes_on : Next P → Type 0) (next : Next P) → HasGroup given (λ x. (at d (subject given.op) x).window) group → d.given ≡ given → IfQuorum d group phase goes_on next
      → ((members_done given (λ x. (at d (subject given.op) x).window) p < quorum_of given) × (next ≡ Say (NoQuorum phase (members_done given (λ x. (at d (subject given.op) x).window) p))))
      ⊎ ((quorum_of given ≤ members_done given (λ x. (at d (subject given.op) x).window) p) × goes_on next)
  phase_over {P} phase goes_on next g dg i =
      let n = serve_as_done g in
      let i' : ((count_below (bricks_of given) (λ x. is_in group.bricks x && is_some (serving (at d (subject given.op) x))) < quorum_of given) × (next ≡ Say (NoQuorum phase (count_below (bricks_of given) (λ x. is_in group.bricks x && is_some (serving (at d (subject given.op) x)))))))
      ⊎ ((quorum_of given ≤ count_below (bricks_of given) (λ x. is_in group.bricks x && is_some (serving (at d (subject given.op) x)))) × goes_on next)
      = subst (λ (v : Given). ((count_below (bricks_of v) (λ x. is_in group.bricks x && is_some (serving (at d (subject v.op) x))) < quorum_of v) × (next ≡ Say (NoQuorum phase (count_below (bricks_of v) (λ x. is_in group.bricks x && is_some (serving (at d (subject v.op) x)))))))
      ⊎ ((quorum_of v ≤ count_below (bricks_of v) (λ x. is_in group.bricks x && is_some (serving (at d (subject v.op) x)))) × goes_on next)) dg i in
      subst (λ (z : ℕ). ((z < quorum_of given) × (next ≡ Say (NoQuorum phase z))) ⊎ ((quorum_of given ≤ z) × goes_on next)) n i'

  -- each brick of the group was asked in the phase or failed before
  pub asked_or_failed : HasGroup given (λ x. (at d (subject given.op) x).window) group → (x : ℕ) → x < bricks_of given → is_grouped given (λ y. (at d (subject given.op) y).window) x ≡ true
      → (tried p (at d (subject given.op) x).window ≡ true) ⊎ (failed_none is_any (at d (subject given.op) x).window ≡ false)
  asked_or_failed g x less t = (did_at x less (sym (g.bricks x) ∙ t)).asked

  -- the same by what the phase counts
  pub ends : {P : Type 0} → (phase : Phase) (goes_on : Next P → Type 0) (next : Next P) → HasGroup given (λ x. (at d (subject given.op) x).window) group → d.given ≡ given
      → ((x : ℕ) → belongs given (λ x. (at d (subject given.op) x).window) phase x ≡ is_grouped given (λ x. (at d (subject given.op) x).window) x)
      → ((x : ℕ) → is_asked phase (λ x. (at d (subject given.op) x).window) x ≡ tried p (at d (subject given.op) x).window)
      → number given (λ x. (at d (subject given.op) x).window) phase ≡ members_done given (λ x. (at d (subject given.op) x).window) p
      → IfQuorum d group phase goes_on next → PhaseOver given (λ x. (at d (subject given.op) x).window) phase goes_on next
  ends {P} phase goes_on next g dg of_group of_phase of_number i = ⊎_elim
      (λ w. inl (
        NoQuorum phase (members_done given (λ x. (at d (subject given.op) x).window) p),
        w.1,
        record {
          asked = λ x less b. ⊎_elim (λ t. inl (of_phase x ∙ t)) (λ t. inr t) (asked_or_failed g x less (sym (of_group x) ∙ b));
          few = subst (λ (z : ℕ). z < quorum_of given) (sym of_number) w.0;
          answer_is = ap (NoQuorum phase) (sym of_number);
        },
      ))
      (λ w. inr (subst (λ (z : ℕ). quorum_of given ≤ z) (sym of_number) w.0, w.1))
      (phase_over phase goes_on next g dg i)

-- ## What is asked of members

pub between_members : (group : Group) (request : ℕ → ℕ → Request) (c : Account) (f : Asks) (m k : ℕ) → ((x : ℕ) → f x ≡ to_members group request c x) → ((i v : ℕ) → rank (request i v) ≡ m) → 2 ≤ m → m < k → AreBetween k f
between_members group request c f m k asks is low high x r e =
    let w = member_asked group request c x r (sym (asks x) ∙ e) in
    let same : rank r ≡ m = ap rank w.request ∙ is w.grant w.version in
    (omega (arith, same, low), omega (arith, same, high))

pub late_members : (group : Group) (request : ℕ → ℕ → Request) (c : Account) (f : Asks) (m : ℕ) → ((x : ℕ) → f x ≡ to_members group request c x) → ((i v : ℕ) → rank (request i v) ≡ m) → (x : ℕ) (r : Request) → f x ≡ Some r → m ≤ rank r
late_members group request c f m asks is x r e =
    let w = member_asked group request c x r (sym (asks x) ∙ e) in
    let same : rank r ≡ m = ap rank w.request ∙ is w.grant w.version in
    omega (arith, same)

-- What was done in an earlier phase stays as it was.
pub done_stays : (given : Given) (p : Request → Bool) (c : Account) (f : Asks) (d : Account) → IsRound (subject given.op) c f d → IsIdle d → ((x : ℕ) (q : Request) → f x ≡ Some q → (is_query q ≡ false) × (p q ≡ false))
    → members_done given (λ x. (at d (subject given.op) x).window) p ≡ members_done given (λ x. (at c (subject given.op) x).window) p
done_stays given p c f d r idle other =
    let queries = replies_same (subject given.op) c f d r idle is_query (λ x q e. (other x q e).0) in
    let ps = replies_same (subject given.op) c f d r idle p (λ x q e. (other x q e).1) in
    λ i. count_below (bricks_of given) (λ x. is_good (bricks_of given) (quorum_of given) (λ y. head_of (queries i y)) x && is_done (ps i x))

pub done_unlocked : (given : Given) (p : Request → Bool) (d e : Account) → IsUnlocked (subject given.op) d e → members_done given (λ x. (at e (subject given.op) x).window) p ≡ members_done given (λ x. (at d (subject given.op) x).window) p
done_unlocked given p d e u = ap (λ (w : Windows). members_done given w p) (fun_ext u.window)
