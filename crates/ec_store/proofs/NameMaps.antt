-- What a directory in memory keeps after a change of its map.
use Rattle.std.proofs.Common.{◌≡◌, ℕ, Bool, true, false, cond, not, Option, None, List, filter, refl, sym, ap, ◌∙◌}
use Rattle.std.specs.Ordering.{nat_cmp, is_eq}
use Rattle.std.specs.declared.cmp.Ordering.{Ordering}
use Rattle.std.specs.declared.cmp.Ordering.TheVariants.{Less, Equal, Greater}
use Rattle.std.specs.Cmp.Lexicographic.{slice_cmp}
use Rattle.std.specs.BTreeMap.{BTreeMap, is_at}
use Rattle.std.specs.Map.{lookup}
use Rattle.std.proofs.lemmas.Map.Entries.{lookup-filter-keys}
use Rattle.std.proofs.lemmas.Map.Lookups.{exact_bytes}
use Rattle.ec_attr.specs.declared.kind.Child.{Child}
use Rattle.ec_store.specs.Records.{is_inside, dropped}
use Rattle.ec_store.specs.Memory.{names_of}

equal_of : (o : Ordering) → is_eq o ≡ true → o ≡ Equal
equal_of Less e = cc
equal_of Equal e = refl
equal_of Greater e = cc

pub same_at : (q k : List ℕ) → is_at (slice_cmp nat_cmp q) k ≡ true → q ≡ k
same_at q k e = exact_bytes q k (equal_of (slice_cmp nat_cmp q k) e)

not_cond : (b : Bool) (o : Option Child) → cond (not b) o None ≡ cond b None o
not_cond true o = refl
not_cond false o = refl

pub dropped_names : (m n : BTreeMap (List ℕ) Child) (after upto : Option (List ℕ)) → n.entries ≡ filter (λ p. not (is_inside after upto p.0)) m.entries → names_of n ≡ dropped (names_of m) after upto
dropped_names m n after upto e = let h : (q : List ℕ) → names_of n q ≡ dropped (names_of m) after upto q = λ q. ap (λ es. lookup (is_at (slice_cmp nat_cmp q)) es) e ∙ lookup-filter-keys (is_at (slice_cmp nat_cmp q)) (λ k. not (is_inside after upto k)) (not (is_inside after upto q)) (λ k t. ap (λ j. not (is_inside after upto j)) (sym (same_at q k t))) m.entries ∙ not_cond (is_inside after upto q) (names_of m q) in λ i q. h q i
