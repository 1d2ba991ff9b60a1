-- What a disperse section means, by what it was read to.
use Rattle.std.proofs.Common.{◌≡◌, ◌≢◌, ◌≤◌, ℕ, Bool, true, false, List, [], ◌∷◌, length, take, Option, Some, None, Ok, Err, refl, sym, ap, ◌∙◌, subst, arith}
use Rattle.std.specs.Prelude.{if◌then◌else◌, bytes_eq, unwrap_or, option_map}
use Rattle.std.specs.List.{AllByRecursion, list_any}
use Rattle.std.proofs.lemmas.Bool.{false≢true}
use Rattle.std.proofs.lemmas.Slice.Eq.{bytes_eq-Decides}
use Rattle.ec_attr.specs.declared.policy.Policy.TheVariants.{RoundRobin}
use Rattle.ec_volfile.specs.declared.volume.Kernel.TheVariants.{Fused}
use Rattle.ec_volfile.specs.declared.options.Key.TheVariants.{Redundancy, ReadPolicy, EagerLock, StripeCache, HealWindow, CpuExtensions, CodeRows}
use Rattle.ec_volfile.specs.declared.section.OpenSection.{OpenSection}
use Rattle.ec_volfile.specs.declared.section.Subvolumes.{Subvolumes}
use Rattle.ec_volfile.specs.declared.fault.VolumeFault.TheVariants.{BadGeometry}
use Rattle.ec_volfile.specs.Numbers.{number_of}
use Rattle.ec_volfile.specs.Options.{policy_of, eager_of, cache_of, window_of, systematic_of}
use Rattle.ec_volfile.specs.Outline.{Outline}
use Rattle.ec_volfile.specs.Sections.{new_section, repeats, subvolumes_of, subvolumes_or, is_geometry, outline_of, volume_with, volume_of}
use Rattle.ec_volfile.specs.Grammar.{Item, Section, names_in, HasNames, IsChosen, IsSet, NoneTwice, algorithm_of, disperse_type, Describes}
use Rattle.ec_volfile.proofs.Keys.{key_values, values-by_key}
use Rattle.ec_volfile.proofs.Items.{kernel_some, Joins, JoinsNames, Becomes}
use Rattle.ec_volfile.proofs.Names.{or_parts, or_both, take_all}
use Rattle.ec_volfile.proofs.Shapes.{is_geometry-yes, is_geometry-is}

-- an option that may be left out
chosen-from : {A : Type 0} (table : List ℕ → Option A) (vs : List (List ℕ)) (new : Option A) (d : A) → Joins table vs None new → IsChosen vs table d (unwrap_or new d)
chosen-from table [] new d j = ap (λ o. unwrap_or o d) j
chosen-from table (v ∷ []) new d j = j.1 ∙ ap Some (sym (ap (λ o. unwrap_or o d) j.2))
chosen-from table (v ∷ w ∷ more) new d j = absurd j.2

from-chosen : {A : Type 0} (table : List ℕ → Option A) (vs : List (List ℕ)) (d x : A) → IsChosen vs table d x → (new : Option A) × Joins table vs None new × (unwrap_or new d ≡ x)
from-chosen table [] d x h = (None, refl, sym h)
from-chosen table (v ∷ []) d x h = (Some x, (x, h, refl), refl)
from-chosen table (v ∷ w ∷ more) d x h = absurd h

-- an option that must be there
set-from : {A : Type 0} (table : List ℕ → Option A) (vs : List (List ℕ)) (new : Option A) (x : A) → new ≡ Some x → Joins table vs None new → IsSet vs table x
set-from table [] new x e j = cc
set-from table (v ∷ []) new x e j = j.1 ∙ (sym j.2 ∙ e)
set-from table (v ∷ w ∷ more) new x e j = absurd j.2

from-set : {A : Type 0} (table : List ℕ → Option A) (vs : List (List ℕ)) (x : A) → IsSet vs table x → Joins table vs None (Some x)
from-set table [] x h = absurd h
from-set table (v ∷ []) x h = (x, h, refl)
from-set table (v ∷ w ∷ more) x h = absurd h

-- the algorithm, by whether the rows are systematic
abbrev algorithm : Bool → ℕ
algorithm systematic = if systematic then 1 else 0

algorithm-from : (vs : List (List ℕ)) (b : Bool) → IsChosen vs systematic_of false b → IsChosen vs algorithm_of 0 (algorithm b)
algorithm-from [] b h = ap algorithm h
algorithm-from (v ∷ []) b h = ap (option_map algorithm) h
algorithm-from (v ∷ w ∷ more) b h = absurd h

mapped : (o : Option Bool) (a : ℕ) → option_map algorithm o ≡ Some a → (b : Bool) × (o ≡ Some b) × (algorithm b ≡ a)
mapped None a e = cc
mapped (Some b) a e = (b, refl, cc)

from-algorithm : (vs : List (List ℕ)) (a : ℕ) → IsChosen vs algorithm_of 0 a → (b : Bool) × IsChosen vs systematic_of false b × (algorithm b ≡ a)
from-algorithm [] a h = (false, refl, sym h)
from-algorithm (v ∷ []) a h = mapped (systematic_of v) a h
from-algorithm (v ∷ w ∷ more) a h = absurd h

algorithm_small : (b : Bool) → algorithm b ≤ 1
algorithm_small true = omega arith
algorithm_small false = omega arith

-- names that differ
any-none : (name : List ℕ) (names : List (List ℕ)) → list_any (bytes_eq name) names ≡ false → AllByRecursion (λ other. name ≢ other) names
any-none name [] e = tt
any-none name (n ∷ names) e =
    let p = or_parts (bytes_eq name n) (list_any (bytes_eq name) names) e in
    (λ h. false≢true (sym p.0 ∙ (bytes_eq-Decides name n).1 h), any-none name names p.1)

none-any : (name : List ℕ) (names : List (List ℕ)) → AllByRecursion (λ other. name ≢ other) names → list_any (bytes_eq name) names ≡ false
none-any name [] h = refl
none-any name (n ∷ names) h = or_both (bytes_eq name n) (list_any (bytes_eq name) names) (not_same (bytes_eq name n) refl) (none-any name names h.1) where
  not_same : (t : Bool) → bytes_eq name n ≡ t → t ≡ false
  not_same true e = absurd (h.0 ((bytes_eq-Decides name n).0 e))
  not_same false e = refl

repeats-none : (names : List (List ℕ)) → repeats names ≡ false → NoneTwice names
repeats-none [] e = tt
repeats-none (n ∷ names) e =
    let p = or_parts (list_any (bytes_eq n) names) (repeats names) e in
    (any-none n names p.0, repeats-none names p.1)

none-repeats : (names : List (List ℕ)) → NoneTwice names → repeats names ≡ false
none-repeats [] h = refl
none-repeats (n ∷ names) h = or_both (list_any (bytes_eq n) names) (repeats names) (none-any n names h.0) (none-repeats names h.1)

-- the bricks
record AreBricks (nss : List (List (List ℕ))) (s : Subvolumes) : Type 0 where
  names : HasNames nss s.names
  different : NoneTwice s.names
  count : s.count ≡ length s.names

bricks-of : (ns : List (List ℕ)) → repeats ns ≡ false → length ns ≤ 31 → AreBricks (ns ∷ []) (subvolumes_of ns)
bricks-of ns e l =
    let t : take 31 ns ≡ ns = take_all 31 ns l in
    record { names = t; different = subst NoneTwice (sym t) (repeats-none ns e); count = sym (ap length t) }

bricks-from : (nss : List (List (List ℕ))) (new : Option Subvolumes) → JoinsNames nss None new → (subvolumes_or new).count ≤ 31 → AreBricks nss (subvolumes_or new)
bricks-from [] new j l = subst (λ (o : Option Subvolumes). AreBricks [] (subvolumes_or o)) (sym j) (record { names = refl; different = tt; count = refl })
bricks-from (ns ∷ []) new j l =
    let e : subvolumes_or new ≡ subvolumes_of ns = ap subvolumes_or j.1 in
    subst (AreBricks (ns ∷ [])) (sym e) (bricks-of ns j.0 (omega (arith, ap (λ (s : Subvolumes). s.count) e)))
bricks-from (ns ∷ ms ∷ more) new j l = absurd j.1

from-bricks : (nss : List (List (List ℕ))) (bricks : List (List ℕ)) → HasNames nss bricks → NoneTwice bricks → (new : Option Subvolumes) × JoinsNames nss None new × (subvolumes_or new ≡ subvolumes_of bricks)
from-bricks [] bricks h d = (None, refl, ap subvolumes_of (sym h))
from-bricks (ns ∷ []) bricks h d = (Some (subvolumes_of ns), (ap repeats (sym h) ∙ none-repeats bricks d, refl), ap subvolumes_of (sym h))
from-bricks (ns ∷ ms ∷ more) bricks h d = absurd h

-- the volume of a section
record IsRead (s : OpenSection) (p : Outline) : Type 0 where
  r : ℕ
  redundancy : s.options.redundancy ≡ Some r
  geometry : is_geometry (subvolumes_or s.subvolumes).count r ≡ true
  is : outline_of s (subvolumes_or s.subvolumes) r ≡ p

volume-read : (s : OpenSection) (p : Outline) (o : Option ℕ) → s.options.redundancy ≡ o → volume_with s (subvolumes_or s.subvolumes) o ≡ Ok p → IsRead s p
volume-read s p None h e = cc
volume-read s p (Some r) h e = by_test (is_geometry (subvolumes_or s.subvolumes).count r) refl e where
  by_test : (t : Bool) → is_geometry (subvolumes_or s.subvolumes).count r ≡ t → (if t then Ok (outline_of s (subvolumes_or s.subvolumes) r) else Err (BadGeometry (subvolumes_or s.subvolumes).count r)) ≡ Ok p → IsRead s p
  by_test true g f = record { r = r; redundancy = h; geometry = g; is = cc }
  by_test false g f = cc

abbrev section : List ℕ → List ℕ → List Item → Section
section name type items = record { name = name; type = type; items = items }

pub volume-describes : (name type : List ℕ) (items : List Item) (t : OpenSection) (p : Outline) → type ≡ disperse_type → Becomes (new_section name true) (key_values items) (names_in items) t → volume_of t ≡ Ok p → Describes (section name type items) p
volume-describes name type items t p e b v =
    let read = volume-read t p t.options.redundancy refl v in
    let g = is_geometry-is (subvolumes_or t.subvolumes).count read.r (algorithm (unwrap_or t.options.systematic false)) read.geometry (algorithm_small (unwrap_or t.options.systematic false)) in
    let bricks = bricks-from (names_in items) t.subvolumes b.subvolumes g.bricks in
    subst (Describes (section name type items)) read.is (record {
      type = e;
      name = b.name;
      bricks = bricks.names;
      different = bricks.different;
      count = bricks.count;
      redundancy = subst (λ (vs : List (List ℕ)). IsSet vs number_of read.r) (sym (values-by_key Redundancy items)) (set-from number_of (key_values items Redundancy) t.options.redundancy read.r read.redundancy b.redundancy);
      algorithm = subst (λ (vs : List (List ℕ)). IsChosen vs algorithm_of 0 (algorithm (unwrap_or t.options.systematic false))) (sym (values-by_key CodeRows items)) (algorithm-from (key_values items CodeRows) (unwrap_or t.options.systematic false) (chosen-from systematic_of (key_values items CodeRows) t.options.systematic false b.systematic));
      geometry = g;
      policy = subst (λ (vs : List (List ℕ)). IsChosen vs policy_of RoundRobin (unwrap_or t.options.policy RoundRobin)) (sym (values-by_key ReadPolicy items)) (chosen-from policy_of (key_values items ReadPolicy) t.options.policy RoundRobin b.policy);
      eager = subst (λ (vs : List (List ℕ)). IsChosen vs eager_of false (unwrap_or t.options.eager false)) (sym (values-by_key EagerLock items)) (chosen-from eager_of (key_values items EagerLock) t.options.eager false b.eager);
      cache = subst (λ (vs : List (List ℕ)). IsChosen vs cache_of 4 (unwrap_or t.options.cache 4)) (sym (values-by_key StripeCache items)) (chosen-from cache_of (key_values items StripeCache) t.options.cache 4 b.cache);
      window = subst (λ (vs : List (List ℕ)). IsChosen vs window_of 16 (unwrap_or t.options.window 16)) (sym (values-by_key HealWindow items)) (chosen-from window_of (key_values items HealWindow) t.options.window 16 b.window);
      kernel = subst (λ (vs : List (List ℕ)). IsChosen vs kernel_some Fused (unwrap_or t.options.kernel Fused)) (sym (values-by_key CpuExtensions items)) (chosen-from kernel_some (key_values items CpuExtensions) t.options.kernel Fused b.kernel);
    })

pub record HasVolume (s : Section) (p : Outline) : Type 0 where
  pub read : OpenSection
  pub disperse : read.disperse ≡ true
  pub becomes : Becomes (new_section s.name true) (key_values s.items) (names_in s.items) read
  pub volume : volume_of read ≡ Ok p

pub describes-volume : (s : Section) (p : Outline) → Describes s p → HasVolume s p
describes-volume s p d =
    let items : List Item = s.items in
    let names = from-bricks (names_in s.items) p.bricks d.bricks d.different in
    let rows = from-algorithm (key_values s.items CodeRows) p.algorithm (subst (λ (vs : List (List ℕ)). IsChosen vs algorithm_of 0 p.algorithm) (values-by_key CodeRows s.items) d.algorithm) in
    let systematic = from-chosen systematic_of (key_values s.items CodeRows) false rows.0 rows.1 in
    let policy = from-chosen policy_of (key_values s.items ReadPolicy) RoundRobin p.policy (subst (λ (vs : List (List ℕ)). IsChosen vs policy_of RoundRobin p.policy) (values-by_key ReadPolicy s.items) d.policy) in
    let eager = from-chosen eager_of (key_values s.items EagerLock) false p.eager (subst (λ (vs : List (List ℕ)). IsChosen vs eager_of false p.eager) (values-by_key EagerLock s.items) d.eager) in
    let cache = from-chosen cache_of (key_values s.items StripeCache) 4 p.cache (subst (λ (vs : List (List ℕ)). IsChosen vs cache_of 4 p.cache) (values-by_key StripeCache s.items) d.cache) in
    let window = from-chosen window_of (key_values s.items HealWindow) 16 p.window (subst (λ (vs : List (List ℕ)). IsChosen vs window_of 16 p.window) (values-by_key HealWindow s.items) d.window) in
    let kernel = from-chosen kernel_some (key_values s.items CpuExtensions) Fused p.kernel (subst (λ (vs : List (List ℕ)). IsChosen vs kernel_some Fused p.kernel) (values-by_key CpuExtensions s.items) d.kernel) in
    let redundancy = from-set number_of (key_values s.items Redundancy) p.r (subst (λ (vs : List (List ℕ)). IsSet vs number_of p.r) (values-by_key Redundancy s.items) d.redundancy) in
    let count : (subvolumes_or names.0).count ≡ p.n = ap (λ (x : Subvolumes). x.count) names.2 ∙ sym d.count in
    let bricks : (subvolumes_or names.0).names ≡ p.bricks = ap (λ (x : Subvolumes). x.names) names.2 ∙ take_all 31 p.bricks (omega (arith, d.geometry.bricks, d.count)) in
    let g : is_geometry (subvolumes_or names.0).count p.r ≡ true = ap (λ n. is_geometry n p.r) count ∙ is_geometry-yes p.n p.r (record { redundant = d.geometry.redundant; majority = d.geometry.majority; least = d.geometry.least; most = d.geometry.most; bricks = d.geometry.bricks; known = omega arith }) in
    let t : OpenSection = record {
      name = s.name;
      disperse = true;
      subvolumes = names.0;
      options = record { redundancy = Some p.r; policy = policy.0; eager = eager.0; cache = cache.0; window = window.0; kernel = kernel.0; systematic = systematic.0 };
    } in
    let same : outline_of t (subvolumes_or names.0) p.r ≡ p = λ i. record {
      name = sym d.name i;
      bricks = bricks i;
      n = count i;
      r = p.r;
      algorithm = (ap algorithm systematic.2 ∙ rows.2) i;
      policy = policy.2 i;
      eager = eager.2 i;
      cache = cache.2 i;
      window = window.2 i;
      kernel = kernel.2 i;
    } in
    record {
      read = t;
      disperse = refl;
      becomes = record { name = refl; disperse = refl; subvolumes = names.1; redundancy = redundancy; policy = policy.1; eager = eager.1; cache = cache.1; window = window.1; kernel = kernel.1; systematic = systematic.1 };
      volume = ap (λ (b : Bool). if b then Ok (outline_of t (subvolumes_or names.0) p.r) else Err (BadGeometry (subvolumes_or names.0).count p.r)) g ∙ ap Ok same;
    }
