-- Quorums share a brick, and there is at most one good group.
use Rattle.std.proofs.Common.{◌≡◌, ◌⊎◌, inl, inr, ℕ, zero, suc, ◌*◌, ◌<◌, ◌≤◌, ◌==◌, ◌&&◌, not, nat_le, Bool, true, false, refl, sym, subst, arith, Option, Some, None}
use Rattle.std.proofs.lemmas.Bool.Decides.{nat_tests}
use Rattle.ec_attr.specs.Bricks.{BrickLaws, count_below}
use Rattle.ec_attr.specs.GoodGroup.{IsGoodGroup, agree, agrees_with, alike, alike_heads, has_mark, same_attr, same_config, same_kind}
use Rattle.ec_attr.specs.declared.attr.Attr.{Attr}
use Rattle.ec_attr.specs.declared.config.Config.{Config}
use Rattle.ec_attr.specs.declared.head.Head.{Head}
use Rattle.ec_attr.specs.declared.kind.Kind.{Kind}
use Rattle.ec_attr.specs.declared.kind.Kind.TheVariants.{File, Dir}
use Rattle.ec_conduct.specs.Given.{Given, bricks_of, quorum_of}
use Rattle.ec_conduct.specs.Group.{Heads, is_good}

pub share : BrickLaws → (given : Given) (p q : ℕ → Bool) → quorum_of given ≤ count_below (bricks_of given) p → quorum_of given ≤ count_below (bricks_of given) q → (x : ℕ) × (x < bricks_of given) × (p x ≡ true) × (q x ≡ true)
share laws given p q a b =
    let majority = given.geometry.majority in
    let most : bricks_of given < 2 * quorum_of given = omega (arith, majority) in
    laws.share (bricks_of given) (quorum_of given) p q most a b

both : (u v : Bool) → (u && v) ≡ true → (u ≡ true) × (v ≡ true)
both true v h = (refl, h)
both false v h = absurd (cc)

kinds : (a b x : Kind) → same_kind a x ≡ true → same_kind b x ≡ true → same_kind a b ≡ true
kinds File File x h g = refl
kinds Dir Dir x h g = refl
kinds File Dir File h g = absurd (cc)
kinds File Dir Dir h g = absurd (cc)
kinds Dir File File h g = absurd (cc)
kinds Dir File Dir h g = absurd (cc)

kind_self : (a : Kind) → same_kind a a ≡ true
kind_self File = refl
kind_self Dir = refl

configs : (a b x : Config) → same_config a x ≡ true → same_config b x ≡ true → same_config a b ≡ true
configs a b x h g = grind (arith, nat_tests)

config_self : (a : Config) → same_config a a ≡ true
config_self a = grind (arith, nat_tests)

attrs : (a b x : Attr) → same_attr a x ≡ true → same_attr b x ≡ true → same_attr a b ≡ true
attrs a b x h g = grind (arith, nat_tests)

attr_self : (a : Attr) → same_attr a a ≡ true
attr_self a = grind (arith, nat_tests)

numbers : (a b x : ℕ) → (a == x) ≡ true → (b == x) ≡ true → (a == b) ≡ true
numbers a b x h g = grind (arith, nat_tests)

number_self : (a : ℕ) → (a == a) ≡ true
number_self a = grind (arith, nat_tests)

all_five : (p q r s t : Bool) → p ≡ true → q ≡ true → r ≡ true → s ≡ true → t ≡ true → (p && q && r && s && t) ≡ true
all_five true true true true true a b c d e = refl
all_five false q r s t a b c d e = absurd (cc)
all_five true false r s t a b c d e = absurd (cc)
all_five true true false s t a b c d e = absurd (cc)
all_five true true true false t a b c d e = absurd (cc)
all_five true true true true false a b c d e = absurd (cc)

parts : (p q r s t : Bool) → (p && q && r && s && t) ≡ true → (p ≡ true) × (q ≡ true) × (r ≡ true) × (s ≡ true) × (t ≡ true)
parts true true true true true h = (refl, refl, refl, refl, refl)
parts false q r s t h = absurd (cc)
parts true false r s t h = absurd (cc)
parts true true false s t h = absurd (cc)
parts true true true false t h = absurd (cc)
parts true true true true false h = absurd (cc)

pub heads_agree : (a b x : Head) → agree a x ≡ true → agree b x ≡ true → agree a b ≡ true
unfolding agree
heads_agree a b x h g =
    let p = parts (same_kind a.kind x.kind) (same_config a.config x.config) (a.version.content == x.version.content) (a.size == x.size) (same_attr a.attr x.attr) h in
    let q = parts (same_kind b.kind x.kind) (same_config b.config x.config) (b.version.content == x.version.content) (b.size == x.size) (same_attr b.attr x.attr) g in
    all_five (same_kind a.kind b.kind) (same_config a.config b.config) (a.version.content == b.version.content) (a.size == b.size) (same_attr a.attr b.attr) (kinds a.kind b.kind x.kind p.0 q.0) (configs a.config b.config x.config p.1 q.1) (numbers a.version.content b.version.content x.version.content p.2 q.2) (numbers a.size b.size x.size p.3 q.3) (attrs a.attr b.attr x.attr p.4 q.4)

agree_self : (a : Head) → agree a a ≡ true
unfolding agree
agree_self a = all_five (same_kind a.kind a.kind) (same_config a.config a.config) (a.version.content == a.version.content) (a.size == a.size) (same_attr a.attr a.attr) (kind_self a.kind) (config_self a.config) (number_self a.version.content) (number_self a.size) (attr_self a.attr)

-- heads that are alike: both are unmarked, and they agree
apart : (a b : Head) → alike_heads (Some a) (Some b) ≡ true → (not (has_mark a) ≡ true) × (not (has_mark b) ≡ true) × (agree a b ≡ true)
apart a b h =
    let p = both (not (has_mark a)) (agrees_with a (Some b)) h in
    let q = both (not (has_mark b)) (agree a b) p.1 in
    (p.0, q.0, q.1)

together : (u v w : Bool) → u ≡ true → v ≡ true → w ≡ true → (u && (v && w)) ≡ true
together u v w a b c = rw (a, b, c) refl

joined : (a b : Head) → not (has_mark a) ≡ true → not (has_mark b) ≡ true → agree a b ≡ true → alike_heads (Some a) (Some b) ≡ true
joined a b u v e = together (not (has_mark a)) (not (has_mark b)) (agree a b) u v e

meet : (a b x : Option Head) → alike_heads a x ≡ true → alike_heads b x ≡ true → alike_heads a b ≡ true
meet None b x h g = absurd (cc)
meet (Some a) None x h g = absurd (cc)
meet (Some a) (Some b) None h g = let p = both (not (has_mark a)) false h in absurd (cc)
meet (Some a) (Some b) (Some x) h g =
    let p = apart a x h in
    let q = apart b x g in
    joined a b p.0 q.0 (heads_agree a b x p.2 q.2)

own : (a b : Option Head) → alike_heads a b ≡ true → alike_heads b b ≡ true
own None b h = absurd (cc)
own (Some a) None h = let p = both (not (has_mark a)) false h in absurd (cc)
own (Some a) (Some b) h = let p = apart a b h in joined b b p.1 p.1 (agree_self b)

back : (a b : Option Head) → alike_heads a b ≡ true → alike_heads b a ≡ true
back a b h = meet b a b (own a b h) h

on : (a b x : Option Head) → alike_heads a b ≡ true → alike_heads b x ≡ true → alike_heads a x ≡ true
on a b x h g = meet a x b h (back b x g)

equal : (u v : Bool) → (u ≡ true → v ≡ true) → (v ≡ true → u ≡ true) → u ≡ v
equal true v f g = sym (f refl)
equal false true f g = g refl
equal false false f g = refl

-- what is alike with a head is alike with one that is alike with it
alike_same : (heads : Heads) (b c : ℕ) → alike heads b c ≡ true → (x : ℕ) → alike heads c x ≡ alike heads b x
alike_same heads b c h x = equal (alike heads c x) (alike heads b x) (on (heads b) (heads c) (heads x) h) (on (heads c) (heads b) (heads x) (back (heads b) (heads c) h))

le_of : (k m : ℕ) → nat_le k m ≡ true → k ≤ m
le_of k m e = grind (arith, nat_tests)

pub one_group : BrickLaws → (n k : ℕ) (heads : Heads) (a b : ℕ) (h q : Head) → n < 2 * k → heads a ≡ Some h → heads b ≡ Some q → is_good n k heads a ≡ true → is_good n k heads b ≡ true → agree h q ≡ true
one_group laws n k heads a b h q m e f x y =
    let s = laws.share n k (alike heads a) (alike heads b) m (le_of k (count_below n (alike heads a)) x) (le_of k (count_below n (alike heads b)) y) in
    let met : alike_heads (heads a) (heads b) ≡ true = meet (heads a) (heads b) (heads s.0) s.2 s.3 in
    let heads_met : alike_heads (Some h) (Some q) ≡ true = subst (λ o. alike_heads (Some h) o ≡ true) f (subst (λ o. alike_heads o (heads b) ≡ true) e met) in
    (apart h q heads_met).2

-- a brick that is alike with one of the group is of the group, and no other
member : BrickLaws → (n k b c : ℕ) (heads : Heads) → n < 2 * k → is_good n k heads b ≡ true → is_good n k heads c ≡ alike heads b c
member laws n k b c heads m g = equal (is_good n k heads c) (alike heads b c)
    (λ h. let s = laws.share n k (alike heads b) (alike heads c) m (le_of k (count_below n (alike heads b)) g) (le_of k (count_below n (alike heads c)) h) in meet (heads b) (heads c) (heads s.0) s.2 s.3)
    (λ h. subst (λ j. nat_le k j ≡ true) (sym (laws.same_count n (alike heads c) (alike heads b) (λ x l. alike_same heads b c h x))) g)

-- more bricks are no fewer that pass a test
grows : (n m : ℕ) (p : ℕ → Bool) → n ≤ m → count_below n p ≤ count_below m p
unfolding count_below
grows zero m p l = omega arith
grows (suc n) zero p l = absurd (omega (arith, l))
grows (suc n) (suc m) p l = elim (cases_le n m l) [
  | inl e ↦ rw e (omega arith)
  | inr f ↦ let h = grows (suc n) m p f in omega (arith, h)
]
  where
    cases_le : (n m : ℕ) → suc n ≤ suc m → (n ≡ m) ⊎ (suc n ≤ m)
    cases_le n m l = grind (arith)

pub whole_group : BrickLaws → (n k b : ℕ) (heads : Heads) → n < 2 * k → n ≤ 31 → is_good n k heads b ≡ true → IsGoodGroup k heads (is_good n k heads)
whole_group laws n k b heads m l g =
    let enough : k ≤ count_below n (alike heads b) = le_of k (count_below n (alike heads b)) g in
    let more : count_below n (alike heads b) ≤ count_below 31 (alike heads b) = grows n 31 (alike heads b) l in
    let same : count_below 31 (is_good n k heads) ≡ count_below 31 (alike heads b) = laws.same_count 31 (is_good n k heads) (alike heads b) (λ c z. member laws n k b c heads m g) in
    (omega (arith, enough, more, same), λ x c h. member laws n k x c heads m h)
