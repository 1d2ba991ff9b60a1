-- The group that was found is the account's good group.
use Rattle.std.proofs.Common.{◌≡◌, inl, inr, ℕ, zero, suc, ◌*◌, ◌<◌, ◌≤◌, Bool, true, false, if◌then◌else◌, refl, sym, ◌∙◌, ap, subst, List, [], ◌∷◌, ◌++◌, arith, Option, Some, None}
use Rattle.std.specs.Option.{option_map}
use Rattle.std.proofs.Math.Path.{fun_ext}
use Rattle.std.proofs.lemmas.Bool.{cases_eq, cases_lt}
use Rattle.std.proofs.lemmas.Bool.Decides.{nat_tests}
use Rattle.ec_answers.specs.Grouping.{head_in, heads_of}
use Rattle.ec_answers.specs.declared.grouped.Group.{Group}
use Rattle.ec_answers.specs.declared.grouped.Grouped.TheVariants.{Group as Found}
use Rattle.ec_answers.proofs.GoodGroups.{counted_below, out_of_group, unique}
use Rattle.ec_attr.specs.Bricks.{BrickLaws, bricks_below, count_below, is_in}
use Rattle.ec_attr.specs.GoodGroup.{IsGoodGroup, alike, greatest_dirty}
use Rattle.ec_attr.specs.declared.head.Head.{Head}
use Rattle.ec_conduct.specs.Account.{Account, at}
use Rattle.ec_conduct.specs.Done.{is_query, reply_to}
use Rattle.ec_conduct.specs.Given.{bricks_of, quorum_of}
use Rattle.ec_conduct.specs.Group.{Heads, first_head, good_group, group_head, is_good, is_sink}
use Rattle.ec_conduct.specs.Standing.{head_of, heads_at}
use Rattle.ec_conduct.proofs.Groups.{whole_group}
use Rattle.ec_wire.specs.declared.reply.Reply.{Reply}
use Rattle.ec_wire.specs.declared.reply.Reply.TheVariants.{Granted, Head as HeadIs, Chunks, Child, Names, Done, NoGrant, NoInode, IsInode, OtherKind, NotAt, Fault, Gfids}
use Rattle.ec_txn.specs.Ballot.{IsGroupAt}
use Rattle.ec_txn.specs.Digest.{given_by}
use Rattle.ec_txn.specs.Opening.{ComesTo}
use Rattle.ec_attr.specs.Head.{with_dirty}

head_same : (o : Option Reply) → head_in (given_by o) ≡ head_of o
head_same None = refl
head_same (Some (HeadIs h)) = refl
head_same (Some Granted) = refl
head_same (Some (Chunks x)) = refl
head_same (Some (Child x)) = refl
head_same (Some (Names x)) = refl
head_same (Some Done) = refl
head_same (Some (NoGrant x)) = refl
head_same (Some NoInode) = refl
head_same (Some IsInode) = refl
head_same (Some OtherKind) = refl
head_same (Some (NotAt x)) = refl
head_same (Some Fault) = refl
head_same (Some (Gfids x)) = refl

-- the first brick of a set

none_below : (m : ℕ) (p : ℕ → Bool) → ((c : ℕ) → c < m → p c ≡ false) → bricks_below m p ≡ []
unfolding bricks_below
none_below zero p out = refl
none_below (suc m) p out = let t = out m (omega arith) in let e = none_below m p (λ c l. out c (omega arith)) in rw (e, t) refl

first_below : (n m : ℕ) (p : ℕ → Bool) → m < n → bricks_below m p ≡ [] → p m ≡ true → (rest : List ℕ) × (bricks_below n p ≡ m ∷ rest)
unfolding bricks_below
first_below zero m p l e t = absurd (omega arith)
first_below (suc n) m p l e t = elim (cases_eq m n) [
  | inl u ↦ ([], subst (λ (x : ℕ). (bricks_below x p ++ (if p x then x ∷ [] else [])) ≡ m ∷ []) u (rw (e, t) refl))
  | inr u ↦ let w = first_below n m p (omega (arith, u)) e t in (w.0 ++ (if p n then n ∷ [] else []), ap (λ (xs : List ℕ). xs ++ (if p n then n ∷ [] else [])) w.1)
]

some_below : (n b : ℕ) (heads : Heads) (h : Head) → ((x : ℕ) → n ≤ x → heads x ≡ None) → heads b ≡ Some h → b < n
some_below n b heads h none e = elim (cases_lt b n) [ inl l ↦ l | inr l ↦ absurd (let v = sym (none b l) ∙ e in cc) ]

module _ (laws : BrickLaws) (n k : ℕ) (heads : Heads) (p : ℕ → Bool) (most : n < 2 * k) (few : n ≤ 31) (none : (x : ℕ) → n ≤ x → heads x ≡ None) (good : IsGoodGroup k heads p) where
  pub are_good : (b : ℕ) → p b ≡ true → p ≡ is_good n k heads
  are_good b t =
      let alone : p ≡ alike heads b = fun_ext (λ c. good.1 b c t) in
      let enough : k ≤ count_below n (alike heads b) = subst (λ (q : ℕ → Bool). k ≤ count_below n q) alone (counted_below n k p (out_of_group n k heads p none good) good.0) in
      let is : is_good n k heads b ≡ true = grind (arith, nat_tests) in
      fun_ext (unique n k heads p (is_good n k heads) most none good (whole_group laws n k b heads most few is))

  pub head_is : (b : ℕ) (h : Head) → p b ≡ true → heads b ≡ Some h → ((c : ℕ) → c < b → p c ≡ false) → group_head n k heads ≡ Some (with_dirty (greatest_dirty heads p) h)
  head_is b h t e first =
      let w = first_below n b p (some_below n b heads h none e) (none_below b p first) t in
      subst (λ (q : ℕ → Bool). option_map (with_dirty (greatest_dirty heads q)) (first_head heads (bricks_below n q)) ≡ Some (with_dirty (greatest_dirty heads p) h)) (are_good b t)
      (ap (λ (bs : List ℕ). option_map (with_dirty (greatest_dirty heads p)) (first_head heads bs)) w.1 ∙ ap (option_map (with_dirty (greatest_dirty heads p))) e)

pub group_at : BrickLaws → (c : Account) (g : ℕ) (group : Group) → ((x : ℕ) → bricks_of c.given ≤ x → heads_at c g x ≡ None) → ComesTo c g (Found group) → IsGroupAt c g group
group_at laws c g group none (a, each, (good, sinks, (b, h, t, e, is, first))) =
    let n = bricks_of c.given in
    let k = quorum_of c.given in
    let same : heads_of a ≡ heads_at c g = fun_ext (λ x. ap head_in (each x) ∙ head_same (reply_to is_query (at c g x).window)) in
    let good' : IsGoodGroup k (heads_at c g) (is_in group.bricks) = subst (λ (hs : Heads). IsGoodGroup k hs (is_in group.bricks)) same good in
    let most : n < 2 * k = (let m = c.given.geometry.majority in omega arith) in
    let few : n ≤ 31 = (let m = c.given.geometry.bricks in omega arith) in
    let e' : heads_at c g b ≡ Some h = ap (λ (hs : Heads). hs b) (sym same) ∙ e in
    let found : group_head n k (heads_at c g) ≡ Some group.head =
    head_is laws n k (heads_at c g) (is_in group.bricks) most few none good' b h t e' first
    ∙ ap (λ (q : Head). Some q) (ap (λ (hs : Heads). with_dirty (greatest_dirty hs (is_in group.bricks)) h) (sym same) ∙ sym is) in
    record {
      head = found;
      bricks = λ x. ap (λ (q : ℕ → Bool). q x) (sym (are_good laws n k (heads_at c g) (is_in group.bricks) most few none good' b t));
      sinks = λ x. ap (λ (o : Option Head). Rattle.ec_conduct.specs.Group.has (λ (q : Head). Rattle.ec_attr.specs.GoodGroup.is_sink q (heads_at c g x)) o) found
          ∙ (ap (λ (hs : Heads). Rattle.ec_attr.specs.GoodGroup.is_sink group.head (hs x)) (sym same) ∙ sym (sinks x));
    }
