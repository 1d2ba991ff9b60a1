-- What a store in memory keeps after a change of its map.
use Rattle.std.proofs.lemmas.Bool.Decides.{nat_tests}
use Rattle.std.proofs.Common.{rules, ◌≡◌, ℕ, ◌+◌, ◌-◌, ◌*◌, ◌&&◌, nat_lt, nat_le, length, filter, Bool, true, false, cond, ◌==◌, Option, Some, None, List, slice_index, refl, sym, ap, ◌∙◌, arith, option_map}
use Rattle.std.specs.Ordering.{nat_cmp}
use Rattle.std.specs.BTreeMap.{BTreeMap, get, is_at, WritesThrough}
use Rattle.std.specs.Map.{lookup}
use Rattle.std.proofs.lemmas.Map.Entries.{lookup-filter-keys}
use Rattle.ec_store.specs.declared.memory.Memory.{Memory}
use Rattle.ec_attr.specs.declared.head.Head.{Head}
use Rattle.ec_store.specs.Records.{Record, Records, over, kept, changed, with_head, headed}
use Rattle.ec_store.specs.Put.{put}
use Rattle.ec_store.specs.Memory.{record_of, records_of, pieces_of, byte_of}

pub same_records : (m n : Records) → ((g : ℕ) → m g ≡ n g) → m ≡ n
same_records m n h i g = h g i

put_at : (m n : BTreeMap ℕ Memory) (g : ℕ) (x w : Memory) → Some x ≡ get nat_cmp m g → WritesThrough nat_cmp (nat_cmp g) m w n → (q : ℕ) → records_of n q ≡ put (records_of m) g (Some (record_of w)) q
put_at m n g x w e h q = let u = (h.3 (search rules)).0 q in search (rules, u)

pub put_through : (m n : BTreeMap ℕ Memory) (g : ℕ) (x w : Memory) → Some x ≡ get nat_cmp m g → WritesThrough nat_cmp (nat_cmp g) m w n → records_of n ≡ put (records_of m) g (Some (record_of w))
put_through m n g x w e h = same_records _ _ (put_at m n g x w e h)

pub changed_through : (m n : BTreeMap ℕ Memory) (g : ℕ) (x w : Memory) (f : Record → Record) → Some x ≡ get nat_cmp m g → WritesThrough nat_cmp (nat_cmp g) m w n → record_of w ≡ f (record_of x) → records_of n ≡ changed (records_of m) g f
changed_through m n g x w f e h k = put_through m n g x w e h ∙ ap (λ r. put (records_of m) g (Some r)) k ∙ ap (λ (o : Option Memory). put (records_of m) g (option_map f (option_map record_of o))) e

piece_at : (m n : BTreeMap ℕ (List ℕ)) (s : ℕ) (w : List ℕ) → ((q : ℕ) → get nat_cmp n q ≡ cond (is_at (nat_cmp s) q) (Some w) (get nat_cmp m q)) → (q i : ℕ) → pieces_of n q i ≡ cond (q == s) (Some (slice_index w i)) (pieces_of m q i)
piece_at m n s w u q i = let e = u q in search (rules, e)

pub bytes_through : (m n : BTreeMap ℕ (List ℕ)) (s : ℕ) (x w : List ℕ) (at : ℕ) (bytes : List ℕ) → Some x ≡ get nat_cmp m s → WritesThrough nat_cmp (nat_cmp s) m w n → ((i : ℕ) → slice_index w i ≡ cond (nat_lt i 512 && nat_le at (512 * s + i) && nat_lt (512 * s + i) (at + length bytes)) (slice_index bytes (512 * s + i - at)) (slice_index x i)) → (q i : ℕ) → pieces_of n q i ≡ cond (q == s) (over (pieces_of m) at bytes q i) (pieces_of m q i)
bytes_through m n s x w at bytes e h k q i = let a = piece_at m n s w (h.3 (search rules)).0 q i in let b = k i in let d : pieces_of m s i ≡ Some (slice_index x i) = search (rules, e) in grind (arith, nat_tests)

cut_at : (m n : BTreeMap ℕ (List ℕ)) (keep len : ℕ) → n.entries ≡ filter (λ p. nat_lt p.0 keep && nat_lt p.0 len) m.entries → (s : ℕ) → get nat_cmp n s ≡ cond (nat_lt s keep && nat_lt s len) (get nat_cmp m s) None
cut_at m n keep len e s = ap (λ es. lookup (is_at (nat_cmp s)) es) e ∙ lookup-filter-keys (is_at (nat_cmp s)) (λ k. nat_lt k keep && nat_lt k len) (nat_lt s keep && nat_lt s len) (λ k t. let same : k ≡ s = grind (arith, nat_tests) in ap (λ j. nat_lt j keep && nat_lt j len) same) m.entries

cut_byte : (o : Option (List ℕ)) (b : Bool) (i : ℕ) → ◌≡◌ {A = Option ℕ} (Some (byte_of (cond b o None) i)) (cond b (Some (byte_of o i)) (Some 0))
cut_byte o true i = refl
cut_byte o false i = refl

pub cut_bytes : (m n : BTreeMap ℕ (List ℕ)) (keep len : ℕ) → n.entries ≡ filter (λ p. nat_lt p.0 keep && nat_lt p.0 len) m.entries → pieces_of n ≡ kept (pieces_of m) keep len
cut_bytes m n keep len e = let h : (s i : ℕ) → pieces_of n s i ≡ kept (pieces_of m) keep len s i = λ s i. ap (λ o. Some (byte_of o i)) (cut_at m n keep len e s) ∙ cut_byte (get nat_cmp m s) (nat_lt s keep && nat_lt s len) i in λ j s i. h s i j

pub same_through : (m n : BTreeMap ℕ Memory) (g : ℕ) (x w : Memory) → Some x ≡ get nat_cmp m g → WritesThrough nat_cmp (nat_cmp g) m w n → record_of w ≡ record_of x → records_of n ≡ records_of m
same_through m n g x w e h k = let a : (q : ℕ) → records_of n q ≡ records_of m q = λ q. let u = put_at m n g x w e h q in let d : records_of m g ≡ Some (record_of x) = search (rules, e) in grind (arith, nat_tests) in λ i q. a q i

pub headed_is : (m : BTreeMap ℕ Memory) (g : ℕ) (x : Memory) (h : Head) → Some x ≡ get nat_cmp m g → changed (records_of m) g (λ r. record r { head = h }) ≡ with_head (records_of m) g h
headed_is m g x h e = ap (λ (o : Option Memory). put (records_of m) g (option_map {T = Record} (λ r. record r { head = h }) (option_map record_of o))) (sym e) ∙ ap (λ (o : Option Memory). put (records_of m) g (Some (headed (option_map record_of o) h))) e
