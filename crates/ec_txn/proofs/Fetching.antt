-- What is asked under the locks may be asked.
use Rattle.std.proofs.Common.{◌≡◌, ◌⊎◌, inl, inr, ⊎_elim, ℕ, ◌+◌, ◌<◌, ◌≤◌, ◌==◌, ◌&&◌, ◌||◌, nat_lt, is_some, Bool, true, false, cond, refl, sym, ◌∙◌, ap, subst, arith, Option, Some, None, eq-eqb}
use Rattle.std.proofs.lemmas.Bool.{and_parts}
use Rattle.std.proofs.lemmas.Bool.Decides.{nat_tests}
use Rattle.ec_attr.specs.Bricks.{is_in}
use Rattle.ec_attr.specs.declared.kind.Domain.{Domain}
use Rattle.ec_brick.specs.Fit.{IsFit}
use Rattle.ec_conduct.specs.Account.{Account, Lock, Place, at, gfid_of}
use Rattle.ec_conduct.specs.Conduct.{Holds, IsFree, MaySend}
use Rattle.ec_conduct.specs.Done.{is_lock, is_pre, is_query}
use Rattle.ec_conduct.specs.Given.{Given, bricks_of}
use Rattle.ec_conduct.specs.Group.{has}
use Rattle.ec_wire.specs.declared.request.Request.{Request}
use Rattle.ec_wire.specs.declared.request.Request.TheVariants.{Ask, Release, Query, PreOp, ReadChunks, WriteChunks, SetLength, PostOp, Clear, NameGet, NamesAfter, NameSet, NamesPut, Make, Made, Unmake, Mark, Unmark, GfidsAfter}
use Rattle.ec_txn.specs.declared.ctx.Ctx.{Ctx}
use Rattle.ec_txn.specs.Fetching.{IsFetch, IsFetching, asks_of, under}
use Rattle.ec_txn.specs.Rounds.{Asks, IsIn as IsInRound, IsMore, IsOn, IsReady, IsRound, IsSent, IsUnlocked, is_plain, is_quiet, joined, subject}
use Rattle.ec_txn.specs.Tables.{IsIn, IsOf}
use Rattle.ec_txn.proofs.Again.{in_none, quiet_parts}
use Rattle.ec_txn.proofs.Openings.{is_free, unsent}

-- what such a request is
pub record Fetches (g grant : ℕ) (r : Request) : Type 0 where
  pub of : gfid_of r ≡ Some g
  pub plain : is_plain r ≡ true
  pub quiet : is_quiet r ≡ true
  pub fit : IsFit r
  pub may : (d : Account) (b : ℕ) → IsFree d b g → Holds d b g grant → MaySend d b r

fetches : (g grant : ℕ) (r : Request) → IsFetch g grant r → Fetches g grant r
fetches g grant (ReadChunks h n first count) (a, b, l) = record { of = ap (λ (x : ℕ). Some x) a; plain = refl; quiet = refl; fit = l; may = λ d y free held. (subst (IsFree d y) (sym a) free, subst (λ (x : ℕ). Holds d y x n) (sym a) (subst (Holds d y g) (sym b) held)) }
fetches g grant (NameGet h n name) (a, b) = record { of = ap (λ (x : ℕ). Some x) a; plain = refl; quiet = refl; fit = tt; may = λ d y free held. (subst (IsFree d y) (sym a) free, subst (λ (x : ℕ). Holds d y x n) (sym a) (subst (Holds d y g) (sym b) held)) }
fetches g grant (NamesAfter h n after) (a, b) = record { of = ap (λ (x : ℕ). Some x) a; plain = refl; quiet = refl; fit = tt; may = λ d y free held. (subst (IsFree d y) (sym a) free, subst (λ (x : ℕ). Holds d y x n) (sym a) (subst (Holds d y g) (sym b) held)) }
fetches g grant (Ask h domain kind) i = absurd i
fetches g grant (Release h n) i = absurd i
fetches g grant (Query h n) i = absurd i
fetches g grant (PreOp h n version dirty) i = absurd i
fetches g grant (WriteChunks h n first chunks) i = absurd i
fetches g grant (SetLength h n keep len) i = absurd i
fetches g grant (PostOp h n old new size attr) i = absurd i
fetches g grant (Clear h n version) i = absurd i
fetches g grant (NameSet h n name child) i = absurd i
fetches g grant (NamesPut h n after upto list) i = absurd i
fetches g grant (Make h n child) i = absurd i
fetches g grant (Made h n child) i = absurd i
fetches g grant (Unmake h n child) i = absurd i
fetches g grant (Mark h n heal head) i = absurd i
fetches g grant (Unmark h n version dirty) i = absurd i
fetches g grant (GfidsAfter after dirty) i = absurd i

what : (g n : ℕ) (c : Account) (f : Asks) → IsFetching g n c f → (x : ℕ) (r : Request) → f x ≡ Some r → (grant : ℕ) × Fetches g grant r
what g n c f l x r e = let w = l.asks x r e in (w.1.number, fetches g w.1.number r w.4)

not_lock : (r : Request) → is_quiet r ≡ true → is_lock r ≡ true → ⊥
not_lock r q t = let u = (quiet_parts (is_lock r) (is_query r) (is_pre r) q).0 in cc

pub fetch_on : (g n : ℕ) (queried : Option ℕ) (c : Account) (f : Asks) → IsFetching g n c f → IsOn g n queried f
fetch_on g n queried c f l = record {
  below = λ x r e. (l.asks x r e).0;
  of = λ x r e. (what g n c f l x r e).1.of;
  plain = λ x r e. (what g n c f l x r e).1.plain;
  first = λ x r e t. absurd (not_lock r (what g n c f l x r e).1.quiet t);
  fit = λ x r e. (what g n c f l x r e).1.fit;
}

pub held_here : (d : Account) (b g : ℕ) (lock : Lock) → (at d g b).inode ≡ Some lock → lock.granted ≡ true → Holds d b g lock.number
held_here d b g lock e t = subst (λ (o : Option Lock). has (λ (k : Lock). k.granted && (k.number == lock.number)) o ≡ true) (sym e) (let u = eq-eqb lock.number lock.number refl in rw (t, u) refl)

pub fetch_may : (x : Ctx) (given : Given) (c : Account) (f h : Asks) (d : Account) → IsIn x given c → IsFetching (subject given.op) (bricks_of given) c f → IsSent (subject given.op) c h d
    → (b : ℕ) (r : Request) → f b ≡ Some r → h b ≡ None → MaySend d b r
fetch_may x given c f h d a l s b r e n =
    let g = subject given.op in
    let w = l.asks b r e in
    let same = (unsent g b c d h s n).1 in
    (fetches g w.1.number r w.4).may d b (is_free x given b c d h a s n w.0) (held_here d b g w.1 (ap (λ (p : Place). p.inode) same ∙ w.2) w.3)

-- what the next stage asks under the locks that are kept
some_same : {A : Type 0} (a b : A) → Some a ≡ Some b → a ≡ b
some_same a b e = cc

pub within : (u : Bool) (o : Option Request) (r : Request) → cond u o None ≡ Some r → (u ≡ true) × (o ≡ Some r)
within true o r e = (refl, e)
within false o r e = absurd (cc)

pub under_is : (o : Option Lock) (q : ℕ → Request) (r : Request) → under o q ≡ Some r → (lock : Lock) × (o ≡ Some lock) × (lock.granted ≡ true) × (r ≡ q lock.number)
under_is None q r e = absurd (cc)
under_is (Some lock) q r e = let w = within lock.granted (Some (q lock.number)) r e in (lock, refl, w.0, sym (some_same (q lock.number) r w.1))

pub fetching : (given : Given) (bits : ℕ) (q : ℕ → Request) (d e : Account) → d.given ≡ given → IsUnlocked (subject given.op) d e → ((grant : ℕ) → IsFetch (subject given.op) grant (q grant)) → IsFetching (subject given.op) (bricks_of given) e (asks_of bits q d)
fetching given bits q d e dg u is = record {
  asks = λ x r a.
      (let w = within (is_in bits x && nat_lt x (bricks_of d.given)) (under (at d (subject d.given.op) x).inode q) r a in
      let t : nat_lt x (bricks_of d.given) ≡ true = (and_parts (is_in bits x) (nat_lt x (bricks_of d.given)) w.0).1 in
      let l : x < bricks_of d.given = grind (arith, nat_tests) in
      let k = under_is (at d (subject d.given.op) x).inode q r w.1 in
      let here : (at d (subject given.op) x).inode ≡ Some k.0 = subst (λ (v : Given). (at d (subject v.op) x).inode ≡ Some k.0) dg k.1 in
      (subst (λ (v : Given). x < bricks_of v) dg l, k.0, u.kept x k.0 here k.2, k.2, subst (IsFetch (subject given.op) k.0.number) (sym k.3) (is k.0.number)));
}
