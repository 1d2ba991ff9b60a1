-- Records that are known less or better.
use Rattle.std.proofs.Common.{◌≡◌, ℕ, ◌+◌, ◌≤◌, true, false, cond, max, ◌==◌, Option, Some, None, List, length, take, refl, sym, ◌∙◌, ap, subst, arith, option_map, length-take}
use Rattle.std.proofs.lemmas.Bool.Decides.{nat_tests}
use Rattle.ec_attr.specs.declared.head.Head.{Head}
use Rattle.ec_store.specs.Put.{put}
use Rattle.ec_store.specs.Records.{Record, Records, changed, head_at, over, reach, with_bytes, wrote}
use Rattle.ec_brick.specs.Index.{dirty_of, is_dirty, is_dirty_record}
use Rattle.ec_brick.specs.Known.{AreKnown, IsKnown, IsKnownAt}
use Rattle.ec_brick.specs.Work.{unset, unset_at, with_unset}

pub known_record : (r : Record) → IsKnown r r
known_record r = record { same_head = refl; same_names = refl; bytes = λ s i v e. e; least = omega arith; most = omega arith }

pub known_self : (o : Option Record) → IsKnownAt o o
known_self None = refl
known_self (Some r) = (r, refl, known_record r)

pub all_known : (m : Records) → AreKnown m m
all_known m g = known_self (m g)

pub known_equal : (m n : Records) → n ≡ m → AreKnown m n
known_equal m n e = subst (AreKnown m) (sym e) (all_known m)

known_through : (a b c : Option Record) → IsKnownAt a b → IsKnownAt b c → IsKnownAt a c
known_through None b c h k = subst (λ x. IsKnownAt x c) h k
known_through (Some m) b c h k = let n : IsKnownAt (Some h.0) c = subst (λ x. IsKnownAt x c) h.1 k in (n.0, n.1, record { same_head = n.2.same_head ∙ h.2.same_head; same_names = n.2.same_names ∙ h.2.same_names; bytes = λ s i v e. n.2.bytes s i v (h.2.bytes s i v e); least = omega (arith, h.2.least, n.2.least); most = omega (arith, h.2.most, n.2.most) })

-- what is known of records that are known holds of the last
pub known_trans : (a b c : Records) → AreKnown a b → AreKnown b c → AreKnown a c
known_trans a b c h k g = known_through (a g) (b g) (c g) (h g) (k g)

pub put_known : (m r : Records) (g : ℕ) (x y : Option Record) → AreKnown m r → IsKnownAt x y → AreKnown (put m g x) (put r g y)
put_known m r g x y k h q = elim (q == g) as (λ b. IsKnownAt (cond b x (m q)) (cond b y (r q))) [ true ↦ h | false ↦ k q ]

-- two changes of which the second leaves what is known after the first
changed_at : (o p : Option Record) (f k : Record → Record) → ((a b : Record) → IsKnown a b → IsKnown (f a) (k b)) → IsKnownAt o p → IsKnownAt (option_map f o) (option_map k p)
changed_at None p f k keeps h = ap (option_map k) h
changed_at (Some m) p f k keeps h = (k h.0, ap (option_map k) h.1, keeps m h.0 h.2)

pub changed_known : (m r : Records) (g : ℕ) (f k : Record → Record) → ((a b : Record) → IsKnown a b → IsKnown (f a) (k b)) → AreKnown m r → AreKnown (changed m g f) (changed r g k)
changed_known m r g f k keeps h = put_known m r g _ _ h (changed_at (m g) (r g) f k keeps (h g))

part_byte : (piece piece' : ℕ → ℕ → Option ℕ) (at n : ℕ) (bytes : List ℕ) (s i v : ℕ) → (piece s i ≡ Some v → piece' s i ≡ Some v) → length bytes ≤ n → unset piece at n s i ≡ Some v → over piece' at bytes s i ≡ Some v
part_byte piece piece' at n bytes s i v is le e = grind (arith, nat_tests)

-- a fragment that grew by fewer bytes ends before one that grew by more
reach_least : (end end' at count : ℕ) → end ≤ end' → end ≤ reach end' at count
reach_least end end' at count le = elim (count == 0) as (λ b. end ≤ cond b end' (max end' (at + count))) [ true ↦ le | false ↦ omega arith ]

pub reach_most : (end end' at few many : ℕ) → end' ≤ end → few ≤ many → reach end' at few ≤ reach end at many
reach_most end end' at few many le fewer = grind (arith, nat_tests)

-- a part of a write leaves what is known where all of it is unset
part_record : (a b : Record) (at n : ℕ) (bytes : List ℕ) → length bytes ≤ n → IsKnown a b → IsKnown (with_unset a at n) (with_bytes b at bytes)
part_record a b at n bytes le h = record { same_head = h.same_head; same_names = h.same_names; bytes = λ s i v e. part_byte a.piece b.piece at n bytes s i v (h.bytes s i v) le e; least = reach_least a.shortest b.shortest at _ h.least; most = reach_most a.longest b.longest at _ _ h.most le }

pub part_known : (m : Records) (g at n : ℕ) (bytes : List ℕ) → length bytes ≤ n → AreKnown (unset_at m g at n) (wrote m g at bytes)
part_known m g at n bytes le = changed_known m m g (λ r. with_unset r at n) (λ r. with_bytes r at bytes) (λ a b h. part_record a b at n bytes le h) (all_known m)

-- the first bytes of a write
pub front_known : (m : Records) (g at k : ℕ) (bytes : List ℕ) → k ≤ length bytes → AreKnown (unset_at m g at (length bytes)) (wrote m g at (take k bytes))
front_known m g at k bytes le = let n = length-take k bytes in part_known m g at (length bytes) (take k bytes) (omega arith)

-- heads are known
heads_at : (o p : Option Record) → IsKnownAt o p → ◌≡◌ {A = Option Head} (option_map {T = Record} (λ r. r.head) p) (option_map {T = Record} (λ r. r.head) o)
heads_at None p k = ap (option_map {T = Record} (λ r. r.head)) k
heads_at (Some m) p k = ap (option_map {T = Record} (λ r. r.head)) k.1 ∙ ap Some k.2.same_head

pub same_head_at : (m r : Records) (g : ℕ) → AreKnown m r → head_at r g ≡ head_at m g
same_head_at m r g k = heads_at (m g) (r g) (k g)

dirty_at : (o p : Option Record) → IsKnownAt o p → is_dirty_record p ≡ is_dirty_record o
dirty_at None p k = ap is_dirty_record k
dirty_at (Some m) p k = ap is_dirty_record k.1 ∙ ap is_dirty k.2.same_head

pub same_dirty : (m r : Records) (g : ℕ) → AreKnown m r → dirty_of r g ≡ dirty_of m g
same_dirty m r g k = dirty_at (m g) (r g) (k g)
