-- Counts of faults, store after store.
use Rattle.std.proofs.Common.{◌≡◌, ◌≢◌, ⊎_elim, ℕ, zero, suc, ◌+◌, ◌≤◌, Bool, true, Option, Some, List, [], ◌∷◌, map, refl, sym, ◌∙◌, ap, subst, arith}
use Rattle.std.proofs.Math.ListN.{set}
use Rattle.std.proofs.lemmas.Option.{slice_get-map, slice_get_within}
use Rattle.std.specs.List.{list_all}
use Rattle.std.specs.Option.{option_map}
use Rattle.std.specs.Prelude.{slice_get, slice_index, unwrap_or}
use Rattle.ec_attr.specs.declared.config.Config.{Config}
use Rattle.ec_brick.specs.StartFault.{is_failure}
use Rattle.ec_brick.specs.declared.start_fault.StartFault.{StartFault}
use Rattle.ec_store.specs.Causes.{Rose}
use Rattle.ec_store.specs.Records.{Records}
use Rattle.ec_cluster.proofs.Asking.{all_at, map_index, map_set}
use Rattle.ec_cluster.proofs.Saying.{either, set_at, set_off}
use Rattle.ec_cluster.specs.Open.{AreLater, AreRooted, HasRisen}

index_of : (xs : List ℕ) (c : ℕ) → slice_index xs c ≡ unwrap_or (slice_get xs c) 0
index_of [] zero = refl
index_of [] (suc c) = refl
index_of (x ∷ xs) zero = refl
index_of (x ∷ xs) (suc c) = index_of xs c

rose_later : (f h k : ℕ) → f ≤ h → Rose h k → Rose f k
rose_later f h k le r = omega arith

pub risen_before : (old mid now : List ℕ) (e : ℕ × StartFault) → AreLater old mid → HasRisen mid now e → HasRisen old now e
risen_before old mid now e later h f = rose_later (slice_index old e.0) (slice_index mid e.0) (slice_index now e.0) (later e.0) (h f)

-- no count falls
pub later_none : (counts : List ℕ) → AreLater counts counts
later_none counts c = omega arith

pub later_then : (old mid now : List ℕ) → AreLater old mid → AreLater mid now → AreLater old now
later_then old mid now h k c = let p : slice_index old c ≤ slice_index mid c = h c in let q : slice_index mid c ≤ slice_index now c = k c in omega (arith, p, q)

module _ {S : Type 0} (faults : S → ℕ) (first stores : List S) (b : ℕ) (x y : S) (is : slice_get stores b ≡ Some x) where
  now_at : slice_index (map faults (set stores b y)) b ≡ faults y
  now_at = map_index faults (set stores b y) b y (set_at stores b y (slice_get_within stores b x is))

  pub later_more : faults x ≤ faults y → AreLater (map faults first) (map faults stores) → AreLater (map faults first) (map faults (set stores b y))
  later_more le h c = ⊎_elim
      (λ (z : c ≡ b).
      let k : slice_index (map faults (set stores b y)) c ≡ faults y = ap (slice_index (map faults (set stores b y))) z ∙ now_at in
      let o : slice_index (map faults stores) c ≡ faults x = map_index faults stores c x (ap (slice_get stores) z ∙ is) in
      let p : slice_index (map faults first) c ≤ slice_index (map faults stores) c = h c in
      omega (arith, k, o, p, le))
      (λ (z : c ≢ b).
      let same : slice_get (map faults (set stores b y)) c ≡ slice_get (map faults stores) c = slice_get-map faults (set stores b y) c ∙ (ap (option_map faults) (set_off stores b c y z) ∙ sym (slice_get-map faults stores c)) in
      let k : slice_index (map faults (set stores b y)) c ≡ slice_index (map faults stores) c = index_of (map faults (set stores b y)) c ∙ (ap (λ (o : Option ℕ). unwrap_or o 0) same ∙ sym (index_of (map faults stores) c)) in
      let p : slice_index (map faults first) c ≤ slice_index (map faults stores) c = h c in
      omega (arith, k, p))
      (either c b)

  pub rest_more : ((c : ℕ) → b ≤ c → slice_get stores c ≡ slice_get first c) → (c : ℕ) → b + 1 ≤ c → slice_get (set stores b y) c ≡ slice_get first c
  rest_more h c le = set_off stores b c y (λ (e : c ≡ b). omega (arith, e, le)) ∙ h c (omega arith)

  pub risen : (fault : StartFault) → ((c : ℕ) → b ≤ c → slice_get stores c ≡ slice_get first c) → (is_failure fault ≡ true → Rose (faults x) (faults y)) → HasRisen (map faults first) (map faults (set stores b y)) (b, fault)
  risen fault rest h f =
      let a : slice_index (map faults first) b ≡ faults x = map_index faults first b x (sym (rest b (omega arith)) ∙ is) in
      subst (λ n. Rose n (slice_index (map faults (set stores b y)) b)) (sym a) (subst (λ n. Rose (faults x) n) (sym now_at) (h f))

-- where a root isn't put the store is as before
pub roots_kept : {S : Type 0} (told : S → Bool) (records : S → Records) (config : Config) (first stores : List S) (b : ℕ) (x y : S) → slice_get stores b ≡ Some x → list_all told stores ≡ list_all told first → (told x ≡ true → records y ≡ records x) → (list_all told first ≡ true → AreRooted config b (map records first) (map records stores)) → list_all told first ≡ true → AreRooted config b (map records first) (map records (set stores b y))
roots_kept told records config first stores b x y is tells same h t = subst (AreRooted config b (map records first)) (sym (map_set records stores b x y is (same (all_at told stores b x (tells ∙ t) is)))) (h t)
