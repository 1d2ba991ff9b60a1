-- What the replies to a name come to.
use Rattle.std.proofs.Common.{◌≡◌, inl, inr, ℕ, ◌<◌, ◌≤◌, ◌==◌, ◌&&◌, nat_lt, is_some, Bool, true, false, cond, refl, sym, ◌∙◌, ap, subst, List, [], arith, Option, Some, None}
use Rattle.std.proofs.Math.Path.{fun_ext}
use Rattle.std.proofs.lemmas.Bool.{and_parts, cases_lt}
use Rattle.std.proofs.lemmas.Bool.Decides.{nat_tests}
use Rattle.ec_answers.specs.declared.grouped.Group.{Group}
use Rattle.ec_answers.proofs.Counting.{count_within}
use Rattle.ec_attr.specs.Bricks.{count_below, is_in}
use Rattle.ec_attr.specs.GoodGroup.{same_kind}
use Rattle.ec_attr.specs.declared.kind.Kind.{Kind}
use Rattle.ec_attr.specs.declared.kind.Kind.TheVariants.{Dir, File}
use Rattle.ec_attr.proofs.Sets.{part, share}
use Rattle.ec_conduct.specs.Account.{Account, Exchange, Lock, at}
use Rattle.ec_conduct.specs.Done.{is_name, is_query, reply_to, tried}
use Rattle.ec_conduct.specs.Given.{Given, bricks_of, quorum_of}
use Rattle.ec_conduct.specs.Group.{is_good}
use Rattle.ec_conduct.specs.Standing.{head_of, is_held}
use Rattle.ec_entry.specs.declared.named.Named.{Named}
use Rattle.ec_entry.specs.declared.named.Named.TheVariants.{Alike, Fewer, Split}
use Rattle.ec_entry.specs.Named.{IsNamed, NoneAlike, Value, count_of, count_said, said, same_value, says, value_in}
use Rattle.ec_txn.specs.Fetching.{asks_of, under}
use Rattle.ec_txn.specs.Replies.{last_reply, replied}
use Rattle.ec_txn.specs.Rounds.{Asks, IsIdle, IsRound, IsUnlocked, subject}
use Rattle.ec_txn.proofs.Fetching.{under_is, within}
use Rattle.ec_wire.specs.declared.answer.Answer.{Answer}
use Rattle.ec_wire.specs.declared.answer.Answer.TheVariants.{NoQuorum, Split as SplitIs}
use Rattle.ec_wire.specs.declared.op.Op.{Op}
use Rattle.ec_wire.specs.declared.phase.Phase.TheVariants.{Name as NamePhase}
use Rattle.ec_wire.specs.declared.request.Request.{Request}
use Rattle.ec_wire.specs.declared.request.Request.TheVariants.{NameGet}
use Rattle.ec_law_causes.specs.Causes.{IsSplit}
use Rattle.ec_law_causes.specs.Counted.{FallsShort, Windows, is_grouped, named_in, number, number_named, reply_in}
use Rattle.ec_law_causes.proofs.Along.{NonePast}
use Rattle.ec_law_causes.proofs.Members.{HasMembers, grouped_below, members_over, members_unlocked}
use Rattle.ec_law_causes.proofs.Ranks.{late_query, rank}
use Rattle.ec_law_causes.proofs.Rounds.{IsOver, over_at, replies_same}
use Rattle.ec_law_causes.proofs.Walking.{some_below}

-- ## Values

kind_same : (a b : Kind) → same_kind a b ≡ true → a ≡ b
kind_same File File e = refl
kind_same Dir Dir e = refl
kind_same File Dir e = absurd (cc)
kind_same Dir File e = absurd (cc)

value_same : (a b : Value) → same_value a b ≡ true → a ≡ b
value_same None None e = refl
value_same None (Some b) e = absurd (cc)
value_same (Some a) None e = absurd (cc)
value_same (Some a) (Some b) e =
    let w = and_parts (same_kind a.kind b.kind) (a.gfid.0 == b.gfid.0) e in
    let g : a.gfid.0 ≡ b.gfid.0 = (let t = w.1 in grind (arith, nat_tests)) in
    let k : Some a ≡ Some (record { kind = b.kind; gfid = a.gfid }) = ap (λ (z : Kind). Some (record { kind = z; gfid = a.gfid })) (kind_same a.kind b.kind w.0) in
    k ∙ ap (λ (z : ℕ). Some (record { kind = b.kind; gfid = record { 0 = z } })) g

-- what a brick says it replied
says_same : (v : Value) (o : Option Value) → says v o ≡ true → o ≡ Some v
says_same v None e = absurd (let t : false ≡ true = e in cc)
says_same v (Some u) e = ap (λ (z : Value). Some z) (sym (value_same v u e))

some_same : (a b : Value) → Some a ≡ Some b → a ≡ b
some_same a b e = cc

none_cond : (t : Bool) (o : Option Value) → o ≡ None → cond t o None ≡ None
none_cond true o e = e
none_cond false o e = refl

some_cond : (t : Bool) (o : Option Value) → is_some (cond t o None) ≡ (t && is_some o)
some_cond true o = refl
some_cond false o = refl

says_some : (v : Value) (o : Option Value) → says v o ≡ true → is_some o ≡ true
says_some v o e = ap is_some (says_same v o e)

-- ## Counts

-- where K replied alike, K replied
pub alike_enough : (given : Given) (w : Windows) (v : Value) → quorum_of given ≤ number_named given w v → quorum_of given ≤ number given w NamePhase
alike_enough given w v le =
    let more = part (bricks_of given) (λ x. says v (named_in given w x)) (λ x. is_grouped given w x && is_some (value_in (reply_in NamePhase w x)))
    (λ x less t. sym (some_cond (is_grouped given w x) (value_in (reply_in NamePhase w x))) ∙ says_some v (named_in given w x) t) in
    omega (arith, le, more)

pub no_split : (given : Given) (w : Windows) (v : Value) → quorum_of given ≤ number_named given w v → (other : Answer) → IsSplit given w other → ⊥
no_split given w v le other s = let few = s.0 v in absurd (omega (arith, le, few))

-- K bricks reply one thing alone
pub one_value : (given : Given) (w : Windows) (a b : Value) → quorum_of given ≤ number_named given w a → quorum_of given ≤ number_named given w b → a ≡ b
one_value given w a b p q =
    let s = share (bricks_of given) (quorum_of given) (λ x. says a (named_in given w x)) (λ x. says b (named_in given w x)) (let m = given.geometry.majority in omega (arith, m)) p q in
    some_same a b (sym (says_same a (named_in given w s.0) s.2) ∙ says_same b (named_in given w s.0) s.3)

module _ (given : Given) (w : Windows) (past : (x : ℕ) → bricks_of given ≤ x → w x ≡ []) where
  pub beyond : (x : ℕ) → bricks_of given ≤ x → named_in given w x ≡ None
  beyond x le = none_cond (is_grouped given w x) (value_in (reply_in NamePhase w x)) (ap (λ (es : List Exchange). value_in (reply_to is_name es)) (past x le))

  pub all_bricks : bricks_of given ≤ 31
  all_bricks = let m = given.geometry.bricks in omega arith

  pub count_value : (v : Value) → count_of (named_in given w) v ≡ number_named given w v
  count_value v = count_within 31 (bricks_of given) (λ x. says v (named_in given w x)) all_bricks (λ x le. ap (says v) (beyond x le))

  count_replied : count_said (named_in given w) ≡ number given w NamePhase
  count_replied = count_within 31 (bricks_of given) (λ x. is_some (named_in given w x)) all_bricks (λ x le. ap is_some (beyond x le))
      ∙ ap (count_below (bricks_of given)) (fun_ext (λ x. some_cond (is_grouped given w x) (value_in (reply_in NamePhase w x))))

  none_alike : NoneAlike (quorum_of given) (named_in given w) → (v : Value) → number_named given w v < quorum_of given
  none_alike h v = elim (cases_lt (number_named given w v) (quorum_of given)) [
    | inl l ↦ l
    | inr le ↦ (let pos : 0 < number_named given w v = (let m = given.geometry.majority in omega (arith, m, le)) in
        let s = some_below (bricks_of given) (λ x. says v (named_in given w x)) pos in
        let few = h s.0 v (let l = s.1 in let m = all_bricks in omega (arith, l, m)) (says_same v (named_in given w s.0) s.2) in
        let same = count_value v in
        absurd (omega (arith, few, same, le)))
  ]

-- ## The group is asked for a name

pub record HereNaming (given : Given) (group : Group) (c : Account) (f : Asks) : Type 0 where
  pub members : HasMembers given group 2 c
  pub asked : (x : ℕ) → is_in group.bricks x ≡ true → x < bricks_of given → (r : Request) × (f x ≡ Some r)
  pub only : (x : ℕ) (r : Request) → f x ≡ Some r → (is_name r ≡ true) × (rank r ≡ 2)

abbrev pub name_request : (Op → List ℕ) → Given → ℕ → Request
name_request name v grant = NameGet (record { 0 = subject v.op }) grant (name v.op)

under_held : (o : Option Lock) (q : ℕ → Request) → is_held o ≡ true → (r : Request) × (under o q ≡ Some r)
under_held None q e = absurd (let t : false ≡ true = e in cc)
under_held (Some lock) q e = (q lock.number, rw e refl)

pub naming_begins : (given : Given) (group : Group) (name : Op → List ℕ) (d e : Account) → d.given ≡ given → HasMembers given group 2 d → IsUnlocked (subject given.op) d e → HereNaming given group e (asks_of group.bricks (name_request name d.given) d)
naming_begins given group name d e dg m u = record {
  members = members_unlocked given group 2 d e u m;
  asked = λ x t less. subst (λ (v : Given). (r : Request) × (cond (is_in group.bricks x && nat_lt x (bricks_of v)) (under (at d (subject v.op) x).inode (name_request name v)) None ≡ Some r)) (sym dg) (
      let l : nat_lt x (bricks_of given) ≡ true = grind (arith, nat_tests) in
      let k = under_held (at d (subject given.op) x).inode (name_request name given) (m.locked x t) in
      (k.0, rw (t, l) k.1)
      );
  only = λ x r a. (
      let k = within (is_in group.bricks x && nat_lt x (bricks_of d.given)) (under (at d (subject d.given.op) x).inode (name_request name d.given)) r a in
      let l = under_is (at d (subject d.given.op) x).inode (name_request name d.given) r k.1 in
      (ap is_name l.3, ap rank l.3)
      );
}

-- what a round of names adds to a window
module _ (given : Given) (group : Group) (c : Account) (f : Asks) (d : Account) (h : HereNaming given group c f) (r : IsRound (subject given.op) c f d) (idle : IsIdle d) (none : NonePast (subject given.op) (bricks_of given) d) where
  abbrev now : Windows
  now x = (at d (subject given.op) x).window

  pub naming_members : HasMembers given group 3 d
  naming_members = members_over given group 2 3 c f d h.members r idle (omega arith) (λ x q e. let k = (h.only x q e).1 in (omega (arith, k), omega (arith, k)))

  past : (x : ℕ) → bricks_of given ≤ x → now x ≡ []
  past x le = (none x le).1

  -- a brick of the group was asked, and this is its last reply
  replied_name : (x : ℕ) → is_in group.bricks x ≡ true → (tried is_name (now x) ≡ true) × (last_reply (now x) ≡ reply_to is_name (now x))
  replied_name x t =
      let a = h.asked x t (grouped_below given now x past (naming_members.group_is.bricks x ∙ t)) in
      let w : IsOver (Some a.0) (at c (subject given.op) x).window (now x) = subst (λ (o : Option Request). IsOver o (at c (subject given.op) x).window (now x)) a.1 (over_at (subject given.op) c f d r idle x) in
      let n = (h.only x a.0 a.1).0 in (
        ap (tried is_name) w.2 ∙ rw n refl,
        ap last_reply w.2 ∙ sym (ap (reply_to is_name) w.2 ∙ rw n refl),
      )

  pub said_now : said group.bricks (replied d (subject given.op)) ≡ named_in given now
  said_now = fun_ext (λ x. by x (is_in group.bricks x) refl)
    where
      by : (x : ℕ) (t : Bool) → is_in group.bricks x ≡ t → said group.bricks (replied d (subject given.op)) x ≡ named_in given now x
      by x true t = ap (λ (u : Bool). cond u (value_in (last_reply (now x))) None) t ∙ (ap value_in (replied_name x t).1 ∙ sym (ap (λ (u : Bool). cond u (value_in (reply_to is_name (now x))) None) (naming_members.group_is.bricks x ∙ t)))
      by x false t = ap (λ (u : Bool). cond u (value_in (last_reply (now x))) None) t ∙ sym (ap (λ (u : Bool). cond u (value_in (reply_to is_name (now x))) None) (naming_members.group_is.bricks x ∙ t))

-- by what the replies to the name come to
abbrev pub NamedIn : Given → Windows → Named → Type 0
NamedIn given w (Fewer most) = FallsShort given w NamePhase (NoQuorum NamePhase most)
NamedIn given w (Alike v) = quorum_of given ≤ number_named given w v
NamedIn given w (Split a b) = (quorum_of given ≤ number given w NamePhase) × IsSplit given w (SplitIs a b)

module _ (given : Given) (group : Group) (c : Account) (f : Asks) (d : Account) (h : HereNaming given group c f) (r : IsRound (subject given.op) c f d) (idle : IsIdle d) (none : NonePast (subject given.op) (bricks_of given) d) where
  abbrev here : Windows
  here x = (at d (subject given.op) x).window

  out : (x : ℕ) → bricks_of given ≤ x → here x ≡ []
  out x le = (none x le).1

  by_named : (named : Named) → IsNamed (quorum_of given) (named_in given here) named → NamedIn given here named
  by_named (Fewer most) (is, few) =
      let same : most ≡ number given here NamePhase = is ∙ count_replied given here out in
      record {
        asked = λ x less b. inl (replied_name given group c f d h r idle none x (sym ((naming_members given group c f d h r idle none).group_is.bricks x) ∙ b)).0;
        few = subst (λ (m : ℕ). m < quorum_of given) same few;
        answer_is = ap (NoQuorum NamePhase) same;
      }
  by_named (Alike v) le = subst (λ (m : ℕ). quorum_of given ≤ m) (count_value given here out v) le
  by_named (Split a b) (le, alike, lowest, other) = (subst (λ (m : ℕ). quorum_of given ≤ m) (count_replied given here out) le, (none_alike given here out alike, a, b, lowest, other, refl))

  pub named_here : (named : Named) → d.given ≡ given → IsNamed (quorum_of d.given) (said group.bricks (replied d (subject d.given.op))) named → NamedIn given here named
  named_here named dg is =
      let at_given : IsNamed (quorum_of given) (said group.bricks (replied d (subject given.op))) named = subst (λ (v : Given). IsNamed (quorum_of v) (said group.bricks (replied d (subject v.op))) named) dg is in
      by_named named (subst (λ (s : ℕ → Option Value). IsNamed (quorum_of given) s named) (said_now given group c f d h r idle none) at_given)

-- ## What was replied stays

pub late_name : (r : Request) → 3 ≤ rank r → is_name r ≡ false
late_name (NameGet g grant name) le = absurd (omega arith)
late_name r le = refl

pub names_stay : (given : Given) (c : Account) (f : Asks) (d : Account) → IsRound (subject given.op) c f d → IsIdle d → ((x : ℕ) (q : Request) → f x ≡ Some q → 3 ≤ rank q)
    → named_in given (λ x. (at d (subject given.op) x).window) ≡ named_in given (λ x. (at c (subject given.op) x).window)
names_stay given c f d r idle late =
    let queries = replies_same (subject given.op) c f d r idle is_query (λ x q e. let l = late x q e in late_query q (omega (arith, l))) in
    let ps = replies_same (subject given.op) c f d r idle is_name (λ x q e. late_name q (late x q e)) in
    λ i x. cond (is_good (bricks_of given) (quorum_of given) (λ y. head_of (queries i y)) x) (value_in (ps i x)) None

pub replies_stay : (given : Given) (c : Account) (f : Asks) (d : Account) → IsRound (subject given.op) c f d → IsIdle d → ((x : ℕ) (q : Request) → f x ≡ Some q → 3 ≤ rank q)
    → quorum_of given ≤ number given (λ x. (at c (subject given.op) x).window) NamePhase → quorum_of given ≤ number given (λ x. (at d (subject given.op) x).window) NamePhase
replies_stay given c f d r idle late le =
    let queries = replies_same (subject given.op) c f d r idle is_query (λ x q e. let l = late x q e in late_query q (omega (arith, l))) in
    let ps = replies_same (subject given.op) c f d r idle is_name (λ x q e. late_name q (late x q e)) in
    let same : number given (λ x. (at d (subject given.op) x).window) NamePhase ≡ number given (λ x. (at c (subject given.op) x).window) NamePhase
    = λ i. count_below (bricks_of given) (λ x. is_good (bricks_of given) (quorum_of given) (λ y. head_of (queries i y)) x && is_some (value_in (ps i x))) in
    subst (λ (m : ℕ). quorum_of given ≤ m) (sym same) le
