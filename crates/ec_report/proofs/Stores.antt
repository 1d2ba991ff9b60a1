-- Stores that are read one after another.
use Rattle.std.proofs.Common.{◌≡◌, ℕ, zero, suc, ◌<◌, ◌≤◌, Bool, true, false, ◌&&◌, Option, Some, List, [], ◌∷◌, length, map, get_or, refl, sym, ap, subst, ◌∙◌, arith}
use Rattle.std.proofs.Math.ListN.{set}
use Rattle.std.proofs.Math.Seq.{map-set_same}
use Rattle.std.specs.List.{list_all}
use Rattle.std.specs.Prelude.{Err, IfErr, IfOk, Ok, Result, slice_get, slice_index}
use Rattle.ec_store.specs.Causes.{Rose}
use Rattle.ec_store.specs.Does.{is_failure}
use Rattle.ec_store.specs.Records.{Records}
use Rattle.ec_store.specs.declared.store.StoreFault.{StoreFault}
use Rattle.ec_store.specs.declared.store.StoreFault.TheVariants.{Failed, NoMemory as StoreFull}
use Rattle.ec_report.specs.Faults.{fault_of}
use Rattle.ec_report.specs.Reading.{AreLater, HasRisen, OnlyRead}
use Rattle.ec_report.specs.declared.fault.CheckFault.{CheckFault}
use Rattle.ec_report.specs.declared.fault.CheckFault.TheVariants.{Store, NoMemory}
use Rattle.ec_report.proofs.Growing.{false_true}

and_left : (a b : Bool) → (a && b) ≡ true → a ≡ true
and_left true b e = refl
and_left false b e = e

and_right : (a b : Bool) → (a && b) ≡ true → b ≡ true
and_right true b e = e
and_right false b e = absurd (false_true e)

all_set : {X : Type 0} (p : X → Bool) (xs : List X) (i : ℕ) (y d : X) → p y ≡ p (get_or xs i d) → list_all p (set xs i y) ≡ list_all p xs
all_set p [] i y d e = refl
all_set p (z ∷ xs) zero y d e = ap (λ b. b && list_all p xs) e
all_set p (z ∷ xs) (suc i) y d e = ap (λ b. p z && b) (all_set p xs i y d e)

-- one of them all
pub all_at : {X : Type 0} (p : X → Bool) (xs : List X) (i : ℕ) (d : X) → list_all p xs ≡ true → i < length xs → p (get_or xs i d) ≡ true
all_at p [] i d e lt = absurd (omega (arith, lt))
all_at p (z ∷ xs) zero d e lt = and_left (p z) (list_all p xs) e
all_at p (z ∷ xs) (suc i) d e lt = all_at p xs i d (and_right (p z) (list_all p xs) e) (omega (arith, lt))

index_map : {X : Type 0} (f : X → ℕ) (xs : List X) (i : ℕ) (d : X) → i < length xs → slice_index (map f xs) i ≡ f (get_or xs i d)
index_map f [] i d lt = absurd (omega (arith, lt))
index_map f (z ∷ xs) zero d lt = refl
index_map f (z ∷ xs) (suc i) d lt = index_map f xs i d (omega (arith, lt))

index_set : {X : Type 0} (f : X → ℕ) (xs : List X) (i : ℕ) (y : X) → i < length xs → slice_index (map f (set xs i y)) i ≡ f y
index_set f [] i y lt = absurd (omega (arith, lt))
index_set f (z ∷ xs) zero y lt = refl
index_set f (z ∷ xs) (suc i) y lt = index_set f xs i y (omega (arith, lt))

later_set : {X : Type 0} (f : X → ℕ) (xs : List X) (i : ℕ) (y d : X) → f (get_or xs i d) ≤ f y → AreLater (map f xs) (map f (set xs i y))
later_set f [] i y d le c = omega arith
later_set f (z ∷ xs) zero y d le zero = le
later_set f (z ∷ xs) zero y d le (suc c) = omega arith
later_set f (z ∷ xs) (suc i) y d le zero = omega arith
later_set f (z ∷ xs) (suc i) y d le (suc c) = later_set f xs i y d le c

-- the records of brick b
pub records_at : {S : Type 0} (records : S → Records) (stores : List S) (b : ℕ) (d : S) (m : Records) → b < length stores → slice_get (map records stores) b ≡ Some m → records (get_or stores b d) ≡ m
records_at records [] b d m lt is = absurd (omega (arith, lt))
records_at records (z ∷ stores) zero d m lt is = same (records z) is where
  same : (r : Records) → ◌≡◌ {A = Option Records} (Some r) (Some m) → r ≡ m
  same r e = cc
records_at records (z ∷ stores) (suc b) d m lt is = records_at records stores b d m (omega (arith, lt)) is

-- one store is read
pub one_read : {S : Type 0} (told : S → Bool) (records : S → Records) (faults : S → ℕ) (stores : List S) (b : ℕ) (y d : S) → b < length stores → told y ≡ told (get_or stores b d) → (told (get_or stores b d) ≡ true → records y ≡ records (get_or stores b d)) → faults (get_or stores b d) ≤ faults y → OnlyRead (list_all told stores) (list_all told (set stores b y)) (map records stores) (map records (set stores b y)) (map faults stores) (map faults (set stores b y))
one_read told records faults stores b y d lt tells same later = record {
  tells = all_set told stores b y d tells;
  same = λ t. map-set_same records stores b y d (same (all_at told stores b d t lt));
  later = later_set faults stores b y d later;
}

-- the store that failed has counted it
pub one_risen : {S : Type 0} (faults : S → ℕ) (stores : List S) (b : ℕ) (y d : S) (fault : StoreFault) → b < length stores → (is_failure fault ≡ true → Rose (faults (get_or stores b d)) (faults y)) → HasRisen (map faults stores) (map faults (set stores b y)) (fault_of b fault)
one_risen faults stores b y d Failed lt rose = subst (λ (n : ℕ). Rose n (slice_index (map faults (set stores b y)) b)) (sym (index_map faults stores b d lt)) (subst (λ (n : ℕ). Rose (faults (get_or stores b d)) n) (sym (index_set faults stores b y lt)) (rose refl))
one_risen faults stores b y d StoreFull lt rose = tt

rose_later : (f h k : ℕ) → f ≤ h → Rose h k → Rose f k
rose_later f h k le r = omega arith

-- what is read after what was read
pub read_none : (told : Bool) (records : List Records) (faults : List ℕ) → OnlyRead told told records records faults faults
read_none told records faults = record { tells = refl; same = λ t. refl; later = λ b. omega arith }

pub read_then : {ta tb tc : Bool} {ra rb rc : List Records} {fa fb fc : List ℕ} → OnlyRead ta tb ra rb fa fb → OnlyRead tb tc rb rc fb fc → OnlyRead ta tc ra rc fa fc
read_then x y = record {
  tells = y.tells ∙ x.tells;
  same = λ t. y.same (x.tells ∙ t) ∙ x.same t;
  later = λ b. (let p = x.later b in let q = y.later b in omega (arith, p, q));
}

pub risen_then : (fa fb fc : List ℕ) (fault : CheckFault) → AreLater fa fb → HasRisen fb fc fault → HasRisen fa fc fault
risen_then fa fb fc (Store b) later rose = rose_later (slice_index fa b) (slice_index fb b) (slice_index fc b) (later b) rose
risen_then fa fb fc NoMemory later rose = tt

pub risen_err : {T : Type 0} (fa fb fc : List ℕ) (result : Result T CheckFault) → AreLater fa fb → IfErr result (HasRisen fb fc) → IfErr result (HasRisen fa fc)
risen_err fa fb fc (Ok x) later h = tt
risen_err fa fb fc (Err fault) later h = risen_then fa fb fc fault later h

pub if_ok_then : {T E : Type 0} {P Q : T → Type 0} (result : Result T E) → ((x : T) → P x → Q x) → IfOk result P → IfOk result Q
if_ok_then (Ok x) f h = f x h
if_ok_then (Err e) f h = tt
