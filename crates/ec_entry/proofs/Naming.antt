-- Counting the replies to a name.
use Rattle.std.proofs.Common.{◌≡◌, inl, inr, ℕ, zero, suc, ◌+◌, ◌-◌, ◌<◌, Bool, true, false, not, is_some, refl, sym, ◌∙◌, ap, subst, arith, Option, Some, None}
use Rattle.std.proofs.Math.Path.{fun_ext}
use Rattle.std.proofs.lemmas.Bool.{cases_eq}
use Rattle.ec_attr.specs.Bricks.{count_below}
use Rattle.ec_attr.specs.declared.geometry.Geometry.{Geometry}
use Rattle.ec_attr.proofs.Sets.{count_none, count_out, same_count}
use Rattle.ec_conduct.specs.Account.{Account}
use Rattle.ec_conduct.specs.Given.{Given, quorum_of}
use Rattle.ec_wire.specs.declared.reply.Reply.{Reply}
use Rattle.ec_txn.specs.declared.ctx.Ctx.{Ctx}
use Rattle.ec_txn.specs.declared.known.Known.{Known}
use Rattle.ec_txn.specs.Replies.{replied, reply_at}
use Rattle.ec_txn.specs.Rounds.{subject}
use Rattle.ec_txn.specs.Tables.{Sees}
use Rattle.ec_entry.specs.declared.named.Named.{Named}
use Rattle.ec_entry.specs.Named.{IsNamed, Value, count_of, count_said, differs, said, same_value, says}

count_empty : (n : ℕ) (p : ℕ → Bool) → ((z : ℕ) → z < n → p z ≡ false) → count_below n p ≡ 0
count_empty zero p h = count_none p
count_empty (suc n) p h = count_out n p (h n (omega arith)) ∙ count_empty n p (λ z l. h z (omega arith))

pub none_said : (f : ℕ → Option Value) → ((z : ℕ) → z < 31 → f z ≡ None) → count_said f ≡ 0
none_said f h = count_empty 31 (λ x. is_some (f x)) (λ z l. ap (λ (o : Option Value). is_some o) (h z l))

not_false : (b : Bool) → not b ≡ false → b ≡ true
not_false true e = refl
not_false false e = absurd (cc)

says_all : (a : Value) (o : Option Value) → differs a o ≡ false → is_some o ≡ says a o
says_all a None e = refl
says_all a (Some v) e = sym (not_false (same_value a v) e)

-- where no reply differs from one, all are alike
pub all_alike : (f : ℕ → Option Value) (a : Value) → ((z : ℕ) → z < 31 → differs a (f z) ≡ false) → count_said f ≡ count_of f a
all_alike f a h = same_count 31 (λ x. is_some (f x)) (λ x. says a (f x)) (λ z l. says_all a (f z) (h z l))

pub one_more : (f : ℕ → Option Value) (a : Value) (b : ℕ) → ((z : ℕ) → z < b → differs a (f z) ≡ false) → differs a (f b) ≡ false → (z : ℕ) → z < b + 1 → differs a (f z) ≡ false
one_more f a b h e z l = elim (cases_eq z b) [
  | inl u ↦ ap (λ (y : ℕ). differs a (f y)) u ∙ e
  | inr u ↦ h z (omega (arith, u))
]

pub same_differs : (a v : Value) (o : Option Value) → o ≡ Some v → same_value a v ≡ true → differs a o ≡ false
same_differs a v o e t = ap (λ (p : Option Value). differs a p) e ∙ ap not t

pub none_differs : (a : Value) (o : Option Value) → o ≡ None → differs a o ≡ false
none_differs a o e = ap (λ (p : Option Value). differs a p) e

-- what is known tells it of the account
pub named_at : (x : Ctx) (fits : Given → Type 0) (known : Known) (c : Account) (bits k : ℕ) (named : Named) → Sees x fits known c → k + x.geometry.r ≡ x.geometry.n → IsNamed k (said bits (reply_at known.replies.items.items)) named
    → IsNamed (quorum_of c.given) (said bits (replied c (subject c.given.op))) named
named_at x fits known c bits k named sees e is =
    let q : k ≡ x.geometry.n - x.geometry.r = omega (arith, e) in
    let q' : k ≡ quorum_of c.given = q ∙ sym (ap (λ (v : Geometry). v.n - v.r) sees.of.geometry) in
    subst (λ (f : ℕ → Option Reply). IsNamed (quorum_of c.given) (said bits f) named) (fun_ext sees.shows.told)
    (subst (λ (m : ℕ). IsNamed m (said bits (reply_at known.replies.items.items)) named) q' is)
