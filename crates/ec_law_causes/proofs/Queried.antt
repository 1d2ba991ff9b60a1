-- What the replies to the Queries come to, and the causes of the answers that follow from them.
use Rattle.std.proofs.Common.{◌≡◌, inl, inr, ℕ, ◌<◌, ◌≤◌, ◌||◌, max, is_some, true, false, refl, sym, ◌∙◌, ap, subst, List, [], arith, Option, Some, None}
use Rattle.std.proofs.Math.Path.{fun_ext}
use Rattle.std.proofs.lemmas.Bool.{cases_lt}
use Rattle.ec_answers.specs.Grouping.{IsGrouped, absent, given_by as answer_of, heads_of, head_in as head_given, is_no_inode, largest_alike}
use Rattle.ec_answers.specs.declared.answers.Answers.{Answers}
use Rattle.ec_answers.specs.declared.grouped.Group.{Group}
use Rattle.ec_answers.specs.declared.grouped.Grouped.{Grouped}
use Rattle.ec_answers.specs.declared.grouped.Grouped.TheVariants.{Group as Found, Gone, Fewer}
use Rattle.ec_answers.proofs.Counting.{count_within}
use Rattle.ec_answers.proofs.GoodGroups.{enough as group_enough}
use Rattle.ec_answers.proofs.Steps.{not_both}
use Rattle.ec_attr.specs.Bricks.{count_below, is_in}
use Rattle.ec_attr.specs.GoodGroup.{most_alike as most_heads_alike}
use Rattle.ec_attr.specs.declared.kind.LockKind.{LockKind}
use Rattle.ec_attr.proofs.Sets.{laws}
use Rattle.ec_conduct.specs.Account.{Account, Exchange, at, is_granted}
use Rattle.ec_conduct.specs.Children.{is_absent}
use Rattle.ec_conduct.specs.Done.{is_lock, is_query, reply_to, tried}
use Rattle.ec_conduct.specs.Given.{Given, bricks_of, quorum_of}
use Rattle.ec_conduct.specs.Group.{group_head, is_good}
use Rattle.ec_conduct.specs.Standing.{head_of, heads_at}
use Rattle.ec_wire.specs.declared.answer.Answer.{Answer}
use Rattle.ec_wire.specs.declared.answer.Answer.TheVariants.{NoQuorum, NoSuch}
use Rattle.ec_wire.specs.declared.phase.Phase.TheVariants.{Lock as LockPhase, Query as QueryPhase}
use Rattle.ec_wire.specs.declared.reply.Reply.{Reply}
use Rattle.ec_wire.specs.declared.reply.Reply.TheVariants.{Granted, Head as HeadIs, Chunks, Child, Names, Done, NoGrant, NoInode, IsInode, OtherKind, NotAt, Fault, Gfids}
use Rattle.ec_wire.specs.declared.request.Request.{Request}
use Rattle.ec_txn.specs.Digest.{given_by}
use Rattle.ec_txn.specs.Opening.{ComesTo, IsQuerying}
use Rattle.ec_txn.specs.Rounds.{Asks, IsIdle, IsRound, subject}
use Rattle.ec_txn.proofs.Groups.{group_at}
use Rattle.ec_law_causes.specs.Causes.{Opens}
use Rattle.ec_law_causes.specs.Counted.{Windows, head_in, heads_in, is_asked, is_grouped, number, reply_in}
use Rattle.ec_law_causes.proofs.Along.{NonePast}
use Rattle.ec_law_causes.proofs.Openings.{HereQuerying}
use Rattle.ec_law_causes.proofs.Rounds.{IsOver, over_at, replies_at, replies_same}

head_same : (o : Option Reply) → head_given (given_by o) ≡ head_of o
head_same None = refl
head_same (Some (HeadIs h)) = refl
head_same (Some Granted) = refl
head_same (Some (Chunks x)) = refl
head_same (Some (Child x)) = refl
head_same (Some (Names x)) = refl
head_same (Some Done) = refl
head_same (Some (NoGrant x)) = refl
head_same (Some NoInode) = refl
head_same (Some IsInode) = refl
head_same (Some OtherKind) = refl
head_same (Some (NotAt x)) = refl
head_same (Some Fault) = refl
head_same (Some (Gfids x)) = refl

absent_same : (o : Option Reply) → is_no_inode (given_by o) ≡ is_absent o
absent_same None = refl
absent_same (Some (HeadIs h)) = refl
absent_same (Some Granted) = refl
absent_same (Some (Chunks x)) = refl
absent_same (Some (Child x)) = refl
absent_same (Some (Names x)) = refl
absent_same (Some Done) = refl
absent_same (Some (NoGrant x)) = refl
absent_same (Some NoInode) = refl
absent_same (Some IsInode) = refl
absent_same (Some OtherKind) = refl
absent_same (Some (NotAt x)) = refl
absent_same (Some Fault) = refl
absent_same (Some (Gfids x)) = refl

-- the locks are granted by a quorum, and those bricks have answered or were given up
pub record Queried (given : Given) (w : Windows) : Type 0 where
  pub enough : quorum_of given ≤ number given w LockPhase
  pub asked : (x : ℕ) → x < bricks_of given → is_granted (reply_in LockPhase w x) ≡ true → is_asked QueryPhase w x ≡ true
  pub past : (x : ℕ) → bricks_of given ≤ x → w x ≡ []

pub queries_over : (given : Given) (kind : LockKind) (c : Account) (f : Asks) (d : Account) → IsQuerying (subject given.op) (bricks_of given) kind c f → HereQuerying (subject given.op) (bricks_of given) (quorum_of given) c f
    → IsRound (subject given.op) c f d → IsIdle d → NonePast (subject given.op) (bricks_of given) d → Queried given (λ x. (at d (subject given.op) x).window)
queries_over given kind c f d l h r idle none = record {
  enough = subst (λ (rs : ℕ → Option Reply). quorum_of given ≤ count_below (bricks_of given) (λ x. is_granted (rs x))) (sym same) h.enough;
  asked = λ x less is. at_asks x (f x) refl (h.asks x less (h.held x ∙ (ap (λ (rs : ℕ → Option Reply). is_granted (rs x)) (sym same) ∙ is)));
  past = λ x le. (none x le).1;
}
  where
    g : ℕ
    g = subject given.op

    same : replies_at is_lock d (subject given.op) ≡ replies_at is_lock c (subject given.op)
    same = replies_same (subject given.op) c f d r idle is_lock (λ x q e. ap is_lock (l.asks x q e).4)

    none_is : (o : Option Request) → o ≡ None → is_some o ≡ true → ⊥
    none_is None e t = absurd (let v : false ≡ true = t in cc)
    none_is (Some q) e t = absurd (cc)

    at_asks : (x : ℕ) (o : Option Request) → f x ≡ o → is_some (f x) ≡ true → tried is_query (at d (subject given.op) x).window ≡ true
    at_asks x None e t = absurd (none_is (f x) e t)
    at_asks x (Some q) e t =
        let w : IsOver (Some q) (at c (subject given.op) x).window (at d (subject given.op) x).window = subst (λ (o : Option Request). IsOver o (at c (subject given.op) x).window (at d (subject given.op) x).window) e (over_at (subject given.op) c f d r idle x) in
        ap (tried is_query) w.2 ∙ ap (λ (s : Request). is_query s || tried is_query (at c (subject given.op) x).window) (l.asks x q e).4

-- ## What the replies come to

-- the good group was found, and so the causes before it are absent
pub record HasGroup (given : Given) (w : Windows) (group : Group) : Type 0 where
  pub locks : quorum_of given ≤ number given w LockPhase
  pub alike : quorum_of given ≤ number given w QueryPhase
  pub some : count_below (bricks_of given) (λ x. is_absent (reply_in QueryPhase w x)) < quorum_of given
  pub head : head_in given w ≡ Some group.head
  pub bricks : (x : ℕ) → is_grouped given w x ≡ is_in group.bricks x

-- by what the replies come to
abbrev pub JudgedIn : Given → Windows → (Answer → Type 0) → Grouped → Type 0
JudgedIn given w later (Found group) = HasGroup given w group
JudgedIn given w later (Gone bricks) = Opens given w later NoSuch
JudgedIn given w later (Fewer most) = Opens given w later (NoQuorum QueryPhase most)

module _ (given : Given) (d : Account) (dg : d.given ≡ given) (q : Queried given (λ x. (at d (subject given.op) x).window)) where
  module _ (a : Answers) (each : (x : ℕ) → answer_of a x ≡ given_by (reply_to is_query (at d (subject given.op) x).window)) where
    heads_are : heads_of a ≡ heads_in (λ x. (at d (subject given.op) x).window)
    heads_are = fun_ext (λ x. ap head_given (each x) ∙ head_same (reply_to is_query (at d (subject given.op) x).window))

    absent_are : absent a ≡ (λ x. is_absent (reply_to is_query (at d (subject given.op) x).window))
    absent_are = fun_ext (λ x. ap is_no_inode (each x) ∙ absent_same (reply_to is_query (at d (subject given.op) x).window))

    none_given : (x : ℕ) → bricks_of given ≤ x → answer_of a x ≡ None
    none_given x le = each x ∙ ap (λ (es : List Exchange). given_by (reply_to is_query es)) (q.past x le)

    count_absent : count_below 31 (absent a) ≡ count_below (bricks_of given) (λ x. is_absent (reply_to is_query (at d (subject given.op) x).window))
    count_absent = count_within 31 (bricks_of given) (absent a) (let m = given.geometry.bricks in omega arith) (λ x le. ap is_no_inode (none_given x le)) ∙ ap (count_below (bricks_of given)) absent_are

    largest : largest_alike a ≡ number given (λ x. (at d (subject given.op) x).window) QueryPhase
    largest = λ i. max (most_heads_alike (heads_are i)) (count_absent i)

    fewer : (most : ℕ) (later : Answer → Type 0) → (most ≡ largest_alike a) × (most < quorum_of given) → Opens given (λ x. (at d (subject given.op) x).window) later (NoQuorum QueryPhase most)
    fewer most later (is, few) =
        let same : most ≡ number given (λ x. (at d (subject given.op) x).window) QueryPhase = is ∙ largest in
        inr (
          λ other c. (let e = q.enough in let l = c.few in omega (arith, e, l)),
          inl (record {
            asked = λ x less is. inl (q.asked x less is);
            few = subst (λ (m : ℕ). m < quorum_of given) same few;
            answer_is = ap (NoQuorum QueryPhase) same;
          }),
        )

    at_least : (m : ℕ) → m ≤ count_below 31 (absent a) → m ≤ number given (λ x. (at d (subject given.op) x).window) QueryPhase
    at_least m le = subst (λ (n : ℕ). m ≤ n) largest (omega (arith, le))

    no_such : (bricks : ℕ) (later : Answer → Type 0) → (quorum_of given ≤ count_below 31 (absent a)) → Opens given (λ x. (at d (subject given.op) x).window) later NoSuch
    no_such bricks later le = inr (
      λ other c. (let e = q.enough in let l = c.few in omega (arith, e, l)),
      inr (λ other c. (let e = at_least (quorum_of given) le in let l = c.few in omega (arith, e, l)), inl (subst (λ (m : ℕ). quorum_of given ≤ m) count_absent le, refl)),
    )

    found : (group : Group) → IsGrouped (quorum_of given) a (Found group) → HasGroup given (λ x. (at d (subject given.op) x).window) group
    found group is = record {
      locks = q.enough;
      alike = subst (λ (n : ℕ). quorum_of given ≤ n) largest (let e = group_enough (quorum_of given) (heads_of a) (is_in group.bricks) (let m = given.geometry.majority in omega arith) is.0 in omega (arith, e));
      some = elim (cases_lt (count_below (bricks_of given) (λ x. is_absent (reply_to is_query (at d (subject given.op) x).window))) (quorum_of given)) [
        | inl l ↦ l
        | inr l ↦ absurd (not_both (bricks_of given) (quorum_of given) a (is_in group.bricks) (let m = given.geometry.majority in omega arith) none_given (subst (λ (m : ℕ). quorum_of given ≤ m) (sym count_absent) l) is.0)
      ];
      head = at_group.0;
      bricks = at_group.1;
    }
      where
        at_group : (head_in given (λ x. (at d (subject given.op) x).window) ≡ Some group.head) × ((x : ℕ) → is_grouped given (λ x. (at d (subject given.op) x).window) x ≡ is_in group.bricks x)
        at_group =
            let at_d = group_at laws d (subject given.op) group (λ x le. ap (λ (es : List Exchange). head_of (reply_to is_query es)) (q.past x (subst (λ (v : Given). bricks_of v ≤ x) dg le)))
            (a, each, subst (λ (v : Given). IsGrouped (quorum_of v) a (Found group)) (sym dg) is) in (
              subst (λ (v : Given). group_head (bricks_of v) (quorum_of v) (heads_at d (subject given.op)) ≡ Some group.head) dg at_d.head,
              subst (λ (v : Given). (x : ℕ) → is_good (bricks_of v) (quorum_of v) (heads_at d (subject given.op)) x ≡ is_in group.bricks x) dg at_d.bricks,
            )

  by_grouped : (later : Answer → Type 0) (grouped : Grouped) (a : Answers) → ((x : ℕ) → answer_of a x ≡ given_by (reply_to is_query (at d (subject given.op) x).window)) → IsGrouped (quorum_of given) a grouped → JudgedIn given (λ x. (at d (subject given.op) x).window) later grouped
  by_grouped later (Found group) a each is = found a each group is
  by_grouped later (Gone bricks) a each is = no_such a each bricks later is.0
  by_grouped later (Fewer most) a each is = fewer a each most later is

  pub judged : (later : Answer → Type 0) (grouped : Grouped) → ComesTo d (subject d.given.op) grouped → JudgedIn given (λ x. (at d (subject given.op) x).window) later grouped
  judged later grouped (a, each, is) = by_grouped later grouped a (subst (λ (v : Given). (x : ℕ) → answer_of a x ≡ given_by (reply_to is_query (at d (subject v.op) x).window)) dg each) (subst (λ (v : Given). IsGrouped (quorum_of v) a grouped) dg is)

-- with a group, the cause is a later one
pub opens_group : (given : Given) (w : Windows) (group : Group) (later : Answer → Type 0) (answer : Answer) → HasGroup given w group → later answer → Opens given w later answer
opens_group given w group later answer h l = inr (
  λ other c. (let e = h.locks in let f = c.few in omega (arith, e, f)),
  inr (
    λ other c. (let e = h.alike in let f = c.few in omega (arith, e, f)),
    inr (λ other c. (let e = h.some in let f = c.0 in omega (arith, e, f)), l),
  ),
)

-- the group stays, where nobody is asked for locks or heads
pub group_stays : (given : Given) (v w : Windows) (group : Group) → reply_in LockPhase v ≡ reply_in LockPhase w → reply_in QueryPhase v ≡ reply_in QueryPhase w → HasGroup given w group → HasGroup given v group
group_stays given v w group locks queries h = record {
  locks = subst (λ (rs : ℕ → Option Reply). quorum_of given ≤ count_below (bricks_of given) (λ x. is_granted (rs x))) (sym locks) h.locks;
  alike = subst (λ (rs : ℕ → Option Reply). quorum_of given ≤ max (most_heads_alike (λ x. head_of (rs x))) (count_below (bricks_of given) (λ x. is_absent (rs x)))) (sym queries) h.alike;
  some = subst (λ (rs : ℕ → Option Reply). count_below (bricks_of given) (λ x. is_absent (rs x)) < quorum_of given) (sym queries) h.some;
  head = subst (λ (rs : ℕ → Option Reply). group_head (bricks_of given) (quorum_of given) (λ x. head_of (rs x)) ≡ Some group.head) (sym queries) h.head;
  bricks = subst (λ (rs : ℕ → Option Reply). (x : ℕ) → is_good (bricks_of given) (quorum_of given) (λ y. head_of (rs y)) x ≡ is_in group.bricks x) (sym queries) h.bricks;
}
