-- A stage of a ballot asks a brick of the group that serves, where one does.
use Rattle.std.proofs.Common.{◌≡◌, inl, inr, ℕ, ◌<◌, ◌≤◌, ◌&&◌, nat_lt, is_some, Bool, true, false, cond, refl, subst, Option, Some, None}
use Rattle.std.proofs.lemmas.Bool.Decides.{nat_tests}
use Rattle.std.proofs.Common.{arith}
use Rattle.ec_answers.specs.declared.grouped.Group.{Group}
use Rattle.ec_attr.specs.Bricks.{is_in}
use Rattle.ec_conduct.specs.Account.{Account, at}
use Rattle.ec_conduct.specs.Given.{Given, bricks_of, quorum_of}
use Rattle.ec_txn.specs.Ballot.{IfQuorum, count_serving, is_within, serving, to_members, under, version_at}
use Rattle.ec_txn.specs.Rounds.{subject}
use Rattle.ec_txn.proofs.BallotSends.{version_in}
use Rattle.ec_txn.specs.declared.stage.Next.{Next}
use Rattle.ec_txn.specs.declared.stage.Next.TheVariants.{Go}
use Rattle.ec_wire.specs.declared.answer.Answer.TheVariants.{NoQuorum}
use Rattle.ec_wire.specs.declared.phase.Phase.{Phase}
use Rattle.ec_wire.specs.declared.request.Request.{Request}
use Rattle.ec_law_causes.proofs.OpeningSteps.{go_say}
use Rattle.ec_law_causes.proofs.Walking.{some_below}
use Rattle.ec_law_settled.proofs.Waking.{Someone}

pub both : (t u : Bool) → (t && u) ≡ true → (t ≡ true) × (u ≡ true)
both true u e = (refl, e)
both false u e = absurd (cc)

pub asked_where : (t u : Bool) (o : Option Request) → t ≡ true → u ≡ true → is_some o ≡ true → is_some (cond (t && u) o None) ≡ true
asked_where true true o e f h = h
asked_where true false o e f h = absurd (cc)
asked_where false u o e f h = absurd (cc)

under_some : (o v : Option ℕ) (w : ℕ) (f : ℕ → ℕ → Request) → is_some o ≡ true → v ≡ Some w → is_some (under o v f) ≡ true
under_some None v w f e is = absurd (cc)
under_some (Some grant) None w f e is = absurd (cc)
under_some (Some grant) (Some version) w f e is = refl

pub less : (a b : ℕ) → a < b → nat_lt a b ≡ true
less a b l = grind (arith, nat_tests)

pub members_someone : (given : Given) (group : Group) (f : ℕ → ℕ → ℕ → Request) (d : Account) → d.given ≡ given → is_within group.head ≡ true → 0 < count_serving d group → Someone given (λ x. to_members group (f x) d x)
members_someone given group f d dg within some =
    let y = some_below (bricks_of d.given) (λ x. is_in group.bricks x && is_some (serving (at d (subject d.given.op) x))) some in
    let t = both (is_in group.bricks y.0) (is_some (serving (at d (subject d.given.op) y.0))) y.2 in
    let lt : y.0 < bricks_of d.given = y.1 in (
      y.0,
      subst (λ (v : Given). y.0 < bricks_of v) dg lt,
      asked_where (is_within group.head) (nat_lt y.0 (bricks_of d.given)) (under (serving (at d (subject d.given.op) y.0)) (version_at group y.0) (f y.0)) within (less y.0 (bricks_of d.given) lt)
          (under_some (serving (at d (subject d.given.op) y.0)) (version_at group y.0) group.head.version.content (f y.0) t.1 (version_in group y.0 t.0)),
    )

-- a quorum of it serves
pub quorum_someone : (given : Given) (group : Group) (f : ℕ → ℕ → ℕ → Request) (d : Account) → d.given ≡ given → is_within group.head ≡ true → quorum_of d.given ≤ count_serving d group → Someone given (λ x. to_members group (f x) d x)
quorum_someone given group f d dg within le = members_someone given group f d dg within (let m = d.given.geometry.majority in omega (arith, le, m))

-- a phase that counts goes on where a quorum did it
pub if_goes : {P : Type 0} (c : Account) (group : Group) (phase : Phase) (goes_on : Next P → Type 0) (q : P) → IfQuorum c group phase goes_on (Go q) → (quorum_of c.given ≤ count_serving c group) × goes_on (Go q)
if_goes c group phase goes_on q (inl w) = absurd (go_say q (NoQuorum phase (count_serving c group)) w.1)
if_goes c group phase goes_on q (inr w) = w
