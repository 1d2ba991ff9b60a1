-- Heads that agree.
use Rattle.std.proofs.Common.{subst, ◌+◌, ◌*◌, ◌<◌, ◌≤◌, inl, inr, ◌≡◌, ℕ, Bool, true, false, ◌&&◌, ◌==◌, not, Option, Some, None, refl, sym, ap, arith}
use Rattle.std.proofs.lemmas.Bool.{and_parts, eq-eqb, cases_Bool}
use Rattle.std.proofs.lemmas.Bool.Decides.{nat_tests}
use Rattle.std.proofs.Props.{props}
use Rattle.std.specs.Prelude.{◌↔◌}
use Rattle.ec_attr.specs.GoodGroup.{agree, agrees_with, alike, alike_heads, has_mark, same_attr, same_config, same_kind}
use Rattle.ec_attr.specs.declared.attr.Attr.{Attr}
use Rattle.ec_attr.specs.declared.config.Config.{Config}
use Rattle.ec_attr.specs.declared.geometry.Geometry.{Geometry}
use Rattle.ec_attr.specs.declared.head.Head.{Head}
use Rattle.ec_attr.specs.declared.kind.Kind.{Kind}
use Rattle.ec_attr.specs.declared.kind.Kind.TheVariants.{File, Dir}

kinds_equal : (a b : Kind) → same_kind a b ≡ true → a ≡ b
kinds_equal File File t = refl
kinds_equal File Dir t = cc
kinds_equal Dir File t = cc
kinds_equal Dir Dir t = refl

-- a geometry is told by its three numbers, and an attribute likewise

abbrev GeometryFacts : ℕ → ℕ → ℕ → Type 0
GeometryFacts n r algorithm = (0 < r) × (2 * r < n) × (2 + r ≤ n) × (n ≤ 16 + r) × (n ≤ 31) × (algorithm ≤ 1)

geometry_facts_agree : (n r algorithm : ℕ) → IsProp (GeometryFacts n r algorithm)
geometry_facts_agree n r algorithm = Prim.hlevel props

abbrev geometry_of : (n r algorithm : ℕ) → GeometryFacts n r algorithm → Geometry
geometry_of n r algorithm f = record { n = n; r = r; algorithm = algorithm; redundant = f.0; majority = f.1; least = f.2; most = f.3; bricks = f.4; known = f.5 }

same_geometry_of : (n r a m s b : ℕ) (f : GeometryFacts n r a) (g : GeometryFacts m s b) → n ≡ m → r ≡ s → a ≡ b
    → geometry_of n r a f ≡ geometry_of m s b g
same_geometry_of n r a m s b f g bricks redundancy algorithm =
    subst (λ (x : ℕ). (h : GeometryFacts x s b) → geometry_of n r a f ≡ geometry_of x s b h) bricks
    (subst (λ (y : ℕ). (h : GeometryFacts n y b) → geometry_of n r a f ≡ geometry_of n y b h) redundancy
    (subst (λ (z : ℕ). (h : GeometryFacts n r z) → geometry_of n r a f ≡ geometry_of n r z h) algorithm
    (λ h. ap (geometry_of n r a) (geometry_facts_agree n r a f h)))) g

geometries_equal : (a b : Geometry) → a.n ≡ b.n → a.r ≡ b.r → a.algorithm ≡ b.algorithm → a ≡ b
geometries_equal a b n r algorithm =
    same_geometry_of a.n a.r a.algorithm b.n b.r b.algorithm
    (a.redundant, a.majority, a.least, a.most, a.bricks, a.known) (b.redundant, b.majority, b.least, b.most, b.bricks, b.known) n r algorithm

numbers_equal : (a b : ℕ) → (a == b) ≡ true → a ≡ b
numbers_equal a b t = grind (arith, nat_tests)

bound_agrees : (m : ℕ) → IsProp (m ≤ 4095)
bound_agrees m = Prim.hlevel props

abbrev config_of : Geometry → Config
config_of g = record { geometry = g }

configs_equal : (a b : Config) → same_config a b ≡ true → a ≡ b
configs_equal a b t =
    let all = and_parts ((a.geometry.n == b.geometry.n) && (a.geometry.r == b.geometry.r)) (a.geometry.algorithm == b.geometry.algorithm) t in
    let bricks = and_parts (a.geometry.n == b.geometry.n) (a.geometry.r == b.geometry.r) all.0 in
    let same : a.geometry ≡ b.geometry = geometries_equal a.geometry b.geometry (numbers_equal a.geometry.n b.geometry.n bricks.0)
    (numbers_equal a.geometry.r b.geometry.r bricks.1) (numbers_equal a.geometry.algorithm b.geometry.algorithm all.1) in
    ap config_of same

abbrev attr_of : (mode owner group : ℕ) → mode ≤ 4095 → Attr
attr_of mode owner group l = record { mode = mode; owner = owner; group = group; in_range = l }

same_attr_of : (m o g n p h : ℕ) (k : m ≤ 4095) (l : n ≤ 4095) → m ≡ n → o ≡ p → g ≡ h → attr_of m o g k ≡ attr_of n p h l
same_attr_of m o g n p h k l modes owners groups =
    rw (owners, groups) (subst (λ (x : ℕ). (j : x ≤ 4095) → attr_of m p h k ≡ attr_of x p h j) modes (λ j. ap (attr_of m p h) (bound_agrees m k j)) l)

attrs_equal : (a b : Attr) → same_attr a b ≡ true → a ≡ b
attrs_equal a b t =
    let all = and_parts ((a.mode == b.mode) && (a.owner == b.owner)) (a.group == b.group) t in
    let first = and_parts (a.mode == b.mode) (a.owner == b.owner) all.0 in
    same_attr_of a.mode a.owner a.group b.mode b.owner b.group a.in_range b.in_range
    (numbers_equal a.mode b.mode first.0) (numbers_equal a.owner b.owner first.1) (numbers_equal a.group b.group all.1)

pub parts_equal : (a b : Head) → agree a b ≡ true
    → (a.kind ≡ b.kind) × (a.config ≡ b.config) × (a.version.content ≡ b.version.content) × (a.size ≡ b.size) × (a.attr ≡ b.attr)
unfolding agree
parts_equal a b t =
    let kind = same_kind a.kind b.kind in
    let config = same_config a.config b.config in
    let version = a.version.content == b.version.content in
    let size = a.size == b.size in
    let attr = same_attr a.attr b.attr in
    let last = and_parts (kind && config && version && size) attr t in
    let fourth = and_parts (kind && config && version) size last.0 in
    let third = and_parts (kind && config) version fourth.0 in
    let second = and_parts kind config third.0 in (
      kinds_equal a.kind b.kind second.0,
      configs_equal a.config b.config second.1,
      numbers_equal a.version.content b.version.content third.1,
      numbers_equal a.size b.size fourth.1,
      attrs_equal a.attr b.attr last.1,
    )

number_self : (a : ℕ) → (a == a) ≡ true
number_self a = eq-eqb a a refl

kind_self : (a : Kind) → same_kind a a ≡ true
kind_self File = refl
kind_self Dir = refl

pub agree_self : (a : Head) → agree a a ≡ true
unfolding agree
agree_self a = simp (kind_self, number_self)

pub equal_parts : (a b : Head)
    → (a.kind ≡ b.kind) × (a.config ≡ b.config) × (a.version.content ≡ b.version.content) × (a.size ≡ b.size) × (a.attr ≡ b.attr)
    → agree a b ≡ true
unfolding agree
equal_parts a b e = rw (e.0, e.1, e.2, e.3, e.4) (agree_self b)

pub parts : (a b : Head) → (agree a b ≡ true) ↔ ((a.kind ≡ b.kind) × (a.config ≡ b.config) × (a.version.content ≡ b.version.content) × (a.size ≡ b.size) × (a.attr ≡ b.attr))
parts a b = (parts_equal a b, equal_parts a b)

-- a head agrees with the same ones as one that it agrees with
agree_same : (a b c : Head) → agree a b ≡ true → agree a c ≡ agree b c
unfolding agree
agree_same a b c t = let e = parts_equal a b t in rw (e.0, e.1, e.2, e.3, e.4) refl

pub none_alike : (heads : ℕ → Option Head) (b c : ℕ) → heads b ≡ None → alike heads b c ≡ false
none_alike heads b c e = rw e refl

both_false : (a b : Bool) → (a && false) ≡ (b && false)
both_false true true = refl
both_false true false = refl
both_false false true = refl
both_false false false = refl

same_by : (o p q : Option Head) → alike_heads o p ≡ true → alike_heads o q ≡ alike_heads p q
same_by None p q t = cc
same_by (Some h) None q t = elim (cases_Bool (has_mark h)) [ inl m ↦ rw m refl | inr m ↦ let f : false ≡ true = rw m at t in cc ]
same_by (Some h) (Some g) None t = both_false (not (has_mark h)) (not (has_mark g))
same_by (Some h) (Some g) (Some f) t =
    let first = and_parts (not (has_mark h)) (not (has_mark g) && agree h g) t in
    let second = and_parts (not (has_mark g)) (agree h g) first.1 in
    rw (first.0, second.0, agree_same h g f second.1) refl

pub alike_same : (heads : ℕ → Option Head) (b c d : ℕ) → alike heads b c ≡ true → alike heads b d ≡ alike heads c d
alike_same heads b c d t = same_by (heads b) (heads c) (heads d) t

-- heads that are alike are so too where more heads are known
pub alike_kept : (o p o' p' : Option Head) → ((h : Head) → o ≡ Some h → o' ≡ Some h) → ((h : Head) → p ≡ Some h → p' ≡ Some h)
    → alike_heads o p ≡ true → alike_heads o' p' ≡ true
alike_kept None p o' p' left right t = cc
alike_kept (Some h) None o' p' left right t = elim (cases_Bool (has_mark h)) [ inl m ↦ let f : false ≡ true = rw m at t in cc | inr m ↦ let f : false ≡ true = rw m at t in cc ]
alike_kept (Some h) (Some g) o' p' left right t = rw (left h refl, right g refl) t

-- the bricks that are alike with one of this unmarked head
pub alike_by : (heads : ℕ → Option Head) (b : ℕ) (h : Head) → heads b ≡ Some h → has_mark h ≡ false → (c : ℕ) → alike heads b c ≡ agrees_with h (heads c)
alike_by heads b h e f c = rw (e, f) refl

pub no_alike_by : (heads : ℕ → Option Head) (b : ℕ) (h : Head) → heads b ≡ Some h → has_mark h ≡ true → (c : ℕ) → alike heads b c ≡ false
no_alike_by heads b h e t c = rw (e, t) refl

-- a test that is true where two parts are equal, and only there

by_test : (r t : Bool) → (r ≡ true → t ≡ true) → (t ≡ true → r ≡ true) → r ≡ t
by_test true t f g = sym (f refl)
by_test false true f g = g refl
by_test false false f g = refl

pub configs_tested : (a b : Config) (r : Bool) → (r ≡ true → a ≡ b) → (a ≡ b → r ≡ true) → r ≡ same_config a b
configs_tested a b r f g =
    by_test r (same_config a b) (λ t. rw (f t) (simp number_self)) (λ t. g (configs_equal a b t))

pub attrs_tested : (a b : Attr) (r : Bool) → (r ≡ true → a ≡ b) → (a ≡ b → r ≡ true) → r ≡ same_attr a b
attrs_tested a b r f g =
    by_test r (same_attr a b) (λ t. rw (f t) (simp number_self)) (λ t. g (attrs_equal a b t))
