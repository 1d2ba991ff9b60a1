-- Bricks that did all they were asked so far.
use Rattle.std.proofs.Common.{◌≡◌, ℕ, ◌<◌, ◌≤◌, ◌&&◌, ◌||◌, is_some, Bool, true, false, refl, sym, ◌∙◌, ap, subst, arith, Option, Some, None}
use Rattle.ec_answers.specs.declared.grouped.Group.{Group}
use Rattle.ec_attr.specs.Bricks.{count_below, is_in}
use Rattle.ec_attr.specs.declared.kind.LockKind.{LockKind}
use Rattle.ec_conduct.specs.Account.{Account, Exchange, Lock, Place as PlaceOf, at, granted, is_granted, noted}
use Rattle.ec_conduct.specs.Done.{is_done, is_name, is_query, reply_to}
use Rattle.ec_conduct.specs.Given.{Given, bricks_of, quorum_of}
use Rattle.ec_conduct.specs.Standing.{head_of}
use Rattle.ec_entry.specs.Named.{value_in}
use Rattle.ec_wire.specs.declared.phase.Phase.TheVariants.{Name as NamePhase}
use Rattle.ec_wire.specs.declared.reply.Reply.{Reply}
use Rattle.ec_wire.specs.declared.reply.Reply.TheVariants.{Head as HeadIs, Child as ChildIs}
use Rattle.ec_wire.specs.declared.request.Request.{Request}
use Rattle.ec_txn.specs.Ballot.{count_serving, grant_of, serving}
use Rattle.ec_txn.specs.Opening.{InOpening, IsQuerying}
use Rattle.ec_txn.specs.Replies.{last_reply}
use Rattle.ec_txn.specs.Rounds.{Asks, IsIdle, IsIn as IsInRound, IsRound, IsUnlocked, asked_place, subject}
use Rattle.ec_txn.specs.declared.opening.Opening.TheVariants.{Query}
use Rattle.ec_txn.proofs.Ballots.{grant_is, is_granted_of, serves_by, serving_is, unlocked_serving}
use Rattle.ec_txn.proofs.Openings.{over_in}
use Rattle.ec_law_causes.specs.Counted.{is_grouped, number, reply_in}
use Rattle.ec_law_causes.proofs.Along.{NonePast, windows}
use Rattle.ec_law_causes.proofs.Members.{none_grouped}
use Rattle.ec_law_causes.proofs.Naming.{HereNaming, naming_members}
use Rattle.ec_law_causes.proofs.Openings.{HereOpening}
use Rattle.ec_law_causes.proofs.OpeningSteps.{querying}
use Rattle.ec_law_causes.proofs.Queried.{HasGroup}
use Rattle.ec_law_causes.proofs.Ranks.{late_place, rank}
use Rattle.ec_law_causes.proofs.Walking.{counts_one, some_below}
use Rattle.ec_law_settled.proofs.WakingMembers.{both}
use Rattle.ec_law_settled.proofs.WakingNames.{grouped_some}

abbrev pub Serves : Given → Account → ℕ → Type 0
Serves given c y = is_some (serving (at c (subject given.op) y)) ≡ true

-- each brick of a set does
abbrev pub AllServe : Given → ℕ → Account → Type 0
AllServe given bits c = (y : ℕ) → is_in bits y ≡ true → Serves given c y

pub all_unlocked : (given : Given) (bits : ℕ) (d e : Account) → IsUnlocked (subject given.op) d e → AllServe given bits d → AllServe given bits e
all_unlocked given bits d e u h y t = ap is_some (unlocked_serving (subject given.op) y d e u) ∙ h y t

or_true : (a b : Bool) → a ≡ true → (a || b) ≡ true
or_true true b e = refl
or_true false b e = absurd (cc)

grant_stays : (o : Option Lock) (x : Exchange) (i : ℕ) → grant_of o ≡ Some i → is_some (grant_of (granted o x)) ≡ true
grant_stays o x i e =
    let w = grant_is o i e in
    let k : Lock = record w.0 { granted = w.0.granted || ((Rattle.std.specs.Prelude.nat_eq w.0.number x.number) && is_granted x.reply) } in
    ap is_some (is_granted_of (granted o x) k (ap (λ (l : Option Lock). granted l x) w.1) (or_true w.0.granted ((Rattle.std.specs.Prelude.nat_eq w.0.number x.number) && is_granted x.reply) w.2))

-- a brick that served serves on where it did what it was asked
serves_done : (p : PlaceOf) (x : Exchange) → is_some (serving p) ≡ true → is_done x.reply ≡ true → is_some (serving (noted p x)) ≡ true
serves_done p x s done = by (serving p) refl s
  where
    by : (o : Option ℕ) → serving p ≡ o → is_some o ≡ true → is_some (serving (noted p x)) ≡ true
    by None e t = absurd (cc)
    by (Some i) e t = let w = serving_is p i e in let f = w.0 in rw (done, f) (grant_stays p.inode x i w.1)

-- ## After a round

-- what a brick that was asked has then
pub over_noted : (given : Given) (c : Account) (f : Asks) (d : Account) (y : ℕ) (q : Request) → f y ≡ Some q → 2 ≤ rank q → IsRound (subject given.op) c f d → IsIdle d
    → (i : ℕ) × (reply : Option Reply) × (at d (subject given.op) y ≡ noted (at c (subject given.op) y) (record { number = i; request = q; reply = reply }))
over_noted given c f d y q e late r idle =
    let w = over_in q (at c (subject given.op) y) (d.waits y) (at d (subject given.op) y) (subst (λ (o : Option Request). IsInRound o (at c (subject given.op) y) (d.waits y) (at d (subject given.op) y)) e (r.each y)) (idle y) in
    (w.0, w.1, w.2 ∙ ap (λ (p : PlaceOf). noted p (record { number = w.0; request = q; reply = w.1 })) (late_place (at c (subject given.op) y) w.0 q late))

pub serves_on : (given : Given) (c : Account) (f : Asks) (d : Account) (y : ℕ) (q : Request) → f y ≡ Some q → 2 ≤ rank q → IsRound (subject given.op) c f d → IsIdle d → Serves given c y → is_done (last_reply (windows given d y)) ≡ true → Serves given d y
serves_on given c f d y q e late r idle s done =
    let w = over_noted given c f d y q e late r idle in
    ap (λ (p : PlaceOf). is_some (serving p)) w.2 ∙ serves_done (at c (subject given.op) y) (record { number = w.0; request = q; reply = w.1 }) s (sym (ap (λ (p : PlaceOf). is_done (last_reply p.window)) w.2) ∙ done)

-- ## After the Queries

head_done : (o : Option Reply) → (head_of o ≡ None → ⊥) → is_done o ≡ true
head_done (Some (HeadIs h)) n = refl
head_done o n = absurd (n refl)

-- each brick of the good group granted its lock and told its head
pub queried_serve : (given : Given) (kind : LockKind) (c : Account) (f : Asks) (d : Account) → IsQuerying (subject given.op) (bricks_of given) kind c f → IsRound (subject given.op) c f d → IsIdle d → (y : ℕ) → is_grouped given (windows given d) y ≡ true → Serves given d y
queried_serve given kind c f d l r idle y t = go (f y) refl (r.each y)
  where
    headed : head_of (reply_to is_query (windows given d y)) ≡ None → ⊥
    headed n = none_grouped given (windows given d) y t n

    go : (o : Option Request) → f y ≡ o → IsInRound o (at c (subject given.op) y) (d.waits y) (at d (subject given.op) y) → Serves given d y
    go None e i = absurd (headed (ap (λ (p : PlaceOf). head_of (reply_to is_query p.window)) i.1 ∙ ap head_of (l.opens.quiet y)))
    go (Some q) e i =
        let a = l.asks y q e in
        let w = over_in q (at c (subject given.op) y) (d.waits y) (at d (subject given.op) y) i (idle y) in
        let k : Exchange = record { number = w.0; request = q; reply = w.1 } in
        let same : asked_place (at c (subject given.op) y) w.0 q ≡ at c (subject given.op) y = ap (asked_place (at c (subject given.op) y) w.0) a.4 in
        let now : at d (subject given.op) y ≡ noted (at c (subject given.op) y) k = w.2 ∙ ap (λ (p : PlaceOf). noted p k) same in
        let served = serves_by (at c (subject given.op) y) a.1.number (l.opens.locked y a.1 a.2).1 (is_granted_of (at c (subject given.op) y).inode a.1 a.2 a.3) in
        let is : is_query q ≡ true = ap is_query a.4 in
        let replied : reply_to is_query (windows given d y) ≡ w.1 = ap (λ (p : PlaceOf). reply_to is_query p.window) now ∙ rw is refl in
        ap (λ (p : PlaceOf). is_some (serving p)) now ∙ serves_done (at c (subject given.op) y) k (ap is_some served) (head_done w.1 (λ n. headed (ap head_of replied ∙ n)))

-- one that is known to serve counts
pub serves_count : (given : Given) (group : Group) (d : Account) → d.given ≡ given → (y : ℕ) → y < bricks_of given → is_in group.bricks y ≡ true → Serves given d y → 0 < count_serving d group
serves_count given group d dg y less t u =
    let s : (is_in group.bricks y && is_some (serving (at d (subject given.op) y))) ≡ true = rw (t, u) refl in
    subst (λ (v : Given). 0 < count_below (bricks_of v) (λ x. is_in group.bricks x && is_some (serving (at d (subject v.op) x)))) (sym dg)
    (counts_one (bricks_of given) (λ x. is_in group.bricks x && is_some (serving (at d (subject given.op) x))) y less s)

-- where all of it serve, some brick of it does
pub all_count : (given : Given) (group : Group) (d : Account) → d.given ≡ given → HasGroup given (windows given d) group → AllServe given group.bricks d → 0 < count_serving d group
all_count given group d dg g all =
    let y = grouped_some given (windows given d) group.head g.head in
    let t : is_in group.bricks y.0 ≡ true = sym (g.bricks y.0) ∙ y.2 in
    serves_count given group d dg y.0 y.1 t (all y.0 t)

module _ (kind : LockKind) (given : Given) (c : Account) (f : Asks) (d : Account) (cg : c.given ≡ given) (l : InOpening kind Query c f) (h : HereOpening kind given Query c f) (r : IsRound (subject given.op) c f d) (idle : IsIdle d) (none : NonePast (subject given.op) (bricks_of given) d) (group : Group) (g : HasGroup given (windows given d) group) where
  pub group_serves : AllServe given group.bricks d
  group_serves y t = queried_serve given kind c f d (querying kind given c f d cg l h r idle none) r idle y (g.bricks y ∙ t)

  pub group_count : d.given ≡ given → 0 < count_serving d group
  group_count dg = all_count given group d dg g group_serves

-- ## After the name

child_done : (o : Option Reply) → is_some (value_in o) ≡ true → is_done o ≡ true
child_done (Some (ChildIs value)) e = refl
child_done o e = absurd (let v : false ≡ true = e in cc)

-- the last reply of a brick that was asked for the name
name_last : (given : Given) (c : Account) (f : Asks) (d : Account) (y : ℕ) (q : Request) → f y ≡ Some q → is_name q ≡ true → 2 ≤ rank q → IsRound (subject given.op) c f d → IsIdle d → last_reply (windows given d y) ≡ reply_to is_name (windows given d y)
name_last given c f d y q e n late r idle =
    let w = over_noted given c f d y q e late r idle in
    ap (λ (p : PlaceOf). last_reply p.window) w.2 ∙ sym (ap (λ (p : PlaceOf). reply_to is_name p.window) w.2 ∙ rw n refl)

-- a brick that told the name serves, where the group did before
named_serves : (given : Given) (group : Group) (c : Account) (f : Asks) (d : Account) → HereNaming given group c f → IsRound (subject given.op) c f d → IsIdle d → AllServe given group.bricks c → (y : ℕ) → y < bricks_of given → is_in group.bricks y ≡ true
    → is_some (value_in (reply_in NamePhase (windows given d) y)) ≡ true → Serves given d y
named_serves given group c f d h r idle all y less t told =
    let a = h.asked y t less in
    let k = h.only y a.0 a.1 in
    let late : 2 ≤ rank a.0 = (let m = k.1 in omega (arith, m)) in
    serves_on given c f d y a.0 a.1 late r idle (all y t) (child_done (last_reply (windows given d y)) (ap (λ (o : Option Reply). is_some (value_in o)) (name_last given c f d y a.0 a.1 k.0 late r idle) ∙ told))

pub named_count : (given : Given) (group : Group) (c : Account) (f : Asks) (d : Account) → d.given ≡ given → HereNaming given group c f → IsRound (subject given.op) c f d → IsIdle d → NonePast (subject given.op) (bricks_of given) d → AllServe given group.bricks c
    → quorum_of given ≤ number given (windows given d) NamePhase → 0 < count_serving d group
named_count given group c f d dg h r idle none all le =
    let members = naming_members given group c f d h r idle none in
    let y = some_below (bricks_of given) (λ x. is_grouped given (windows given d) x && is_some (value_in (reply_in NamePhase (windows given d) x))) (let m = given.geometry.majority in omega (arith, le, m)) in
    let w = both (is_grouped given (windows given d) y.0) (is_some (value_in (reply_in NamePhase (windows given d) y.0))) y.2 in
    let t : is_in group.bricks y.0 ≡ true = sym (members.group_is.bricks y.0) ∙ w.0 in
    serves_count given group d dg y.0 y.1 t (named_serves given group c f d h r idle all y.0 y.1 t w.1)
