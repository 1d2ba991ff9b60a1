-- What the items of a section make of it.
use Rattle.std.proofs.Common.{◌≡◌, ℕ, Bool, true, false, List, [], ◌∷◌, Option, Some, None, Result, Ok, Err, refl, sym, ap, ◌∙◌, subst}
use Rattle.std.specs.Prelude.{if◌then◌else◌}
use Rattle.ec_attr.specs.declared.policy.Policy.{Policy}
use Rattle.ec_volfile.specs.declared.volume.Kernel.{Kernel}
use Rattle.ec_volfile.specs.declared.options.Key.{Key}
use Rattle.ec_volfile.specs.declared.options.Key.TheVariants.{Redundancy, ReadPolicy, EagerLock, StripeCache, HealWindow, CpuExtensions, CodeRows}
use Rattle.ec_volfile.specs.declared.options.Options.{Options}
use Rattle.ec_volfile.specs.declared.section.OpenSection.{OpenSection}
use Rattle.ec_volfile.specs.declared.section.Subvolumes.{Subvolumes}
use Rattle.ec_volfile.specs.declared.fault.VolumeFault.{VolumeFault}
use Rattle.ec_volfile.specs.declared.fault.VolumeFault.TheVariants.{Twice}
use Rattle.ec_volfile.specs.Numbers.{number_of}
use Rattle.ec_volfile.specs.Options.{policy_of, eager_of, cache_of, window_of, kernel_of, systematic_of, once, set, set_by}
use Rattle.ec_volfile.specs.Sections.{set_named, with_options, repeats, subvolumes_of, disperse_names, other_names}
use Rattle.ec_volfile.specs.Grammar.{Item}
use Rattle.ec_volfile.proofs.WordLemmas.{at_true}
use Rattle.ec_volfile.proofs.Keys.{with_value}
use Rattle.ec_volfile.specs.Statements.{with_names, take_item}

abbrev pub kernel_some : List ℕ → Option Kernel
kernel_some value = Some (kernel_of value)

-- an option before and after it is set to these values in turn
abbrev pub Joins : {A : Type 0} → (List ℕ → Option A) → List (List ℕ) → Option A → Option A → Type 0
Joins table [] old new = new ≡ old
Joins {A} table (v ∷ vs) None new = (x : A) × (table v ≡ Some x) × Joins table vs (Some x) new
Joins table (v ∷ vs) (Some y) new = ⊥

-- the subvolumes before and after these names are given in turn
abbrev pub JoinsNames : List (List (List ℕ)) → Option Subvolumes → Option Subvolumes → Type 0
JoinsNames [] old new = new ≡ old
JoinsNames (ns ∷ nss) None new = (repeats ns ≡ false) × JoinsNames nss (Some (subvolumes_of ns)) new
JoinsNames (ns ∷ nss) (Some y) new = ⊥

-- a section before and after items with these values and names
pub record Becomes (s : OpenSection) (vs : Key → List (List ℕ)) (nss : List (List (List ℕ))) (t : OpenSection) : Type 0 where
  pub name : t.name ≡ s.name
  pub disperse : t.disperse ≡ s.disperse
  pub subvolumes : JoinsNames nss s.subvolumes t.subvolumes
  pub redundancy : Joins number_of (vs Redundancy) s.options.redundancy t.options.redundancy
  pub policy : Joins policy_of (vs ReadPolicy) s.options.policy t.options.policy
  pub eager : Joins eager_of (vs EagerLock) s.options.eager t.options.eager
  pub cache : Joins cache_of (vs StripeCache) s.options.cache t.options.cache
  pub window : Joins window_of (vs HealWindow) s.options.window t.options.window
  pub kernel : Joins kernel_some (vs CpuExtensions) s.options.kernel t.options.kernel
  pub systematic : Joins systematic_of (vs CodeRows) s.options.systematic t.options.systematic

pub set_by-Ok : {A B : Type 0} (f : A → B) (r : Result A VolumeFault) (y : B) → set_by f r ≡ Ok y → (x : A) × (r ≡ Ok x) × (f x ≡ y)
set_by-Ok f (Ok x) y e = (x, refl, cc)
set_by-Ok f (Err d) y e = cc

pub once-Ok : {A : Type 0} (old value : Option A) (x : A) → once old value ≡ Ok x → (old ≡ None) × (value ≡ Some x)
once-Ok (Some y) value x e = cc
once-Ok None None x e = cc
once-Ok None (Some z) x e = (refl, cc)

same_Ok : (s u : OpenSection) → ◌≡◌ {A = Result OpenSection VolumeFault} (Ok s) (Ok u) → s ≡ u
same_Ok s u e = cc

joins_one : {A : Type 0} (table : List ℕ → Option A) (v : List ℕ) (vs : List (List ℕ)) (old new : Option A) (x : A) → old ≡ None → table v ≡ Some x → Joins table vs (Some x) new → Joins table (v ∷ vs) old new
joins_one table v vs None new x e f j = (x, f, j)
joins_one table v vs (Some y) new x e f j = cc

joins_first : {A : Type 0} (table : List ℕ → Option A) (v : List ℕ) (vs : List (List ℕ)) (old new : Option A) → Joins table (v ∷ vs) old new → (x : A) × (once old (table v) ≡ Ok x) × Joins table vs (Some x) new
joins_first table v vs None new j = (j.0, ap (once None) j.1, j.2)
joins_first table v vs (Some y) new j = absurd j

-- one option more, and what it leads to
pub becomes-named : (o : Option Key) (value : List ℕ) (s u t : OpenSection) (vs : Key → List (List ℕ)) (nss : List (List (List ℕ))) → s.disperse ≡ true → set_named s o value ≡ Ok u → Becomes u vs nss t → Becomes s (λ k. with_value k o value (vs k)) nss t
unfolding set
becomes-named None value s u t vs nss d e b =
    let c : Becomes s vs nss t = subst (λ (x : OpenSection). Becomes x vs nss t) (sym (same_Ok s u e)) b in
    record { name = c.name; disperse = c.disperse; subvolumes = c.subvolumes; redundancy = c.redundancy; policy = c.policy; eager = c.eager; cache = c.cache; window = c.window; kernel = c.kernel; systematic = c.systematic }
becomes-named (Some Redundancy) value s u t vs nss d e b =
    let p = set_by-Ok (λ (o : Options). record s { options = o }) (set s.options Redundancy value) u (sym (at_true s.disperse (with_options s (set s.options Redundancy value)) (Ok s) d) ∙ e) in
    let q = set_by-Ok (λ (x : ℕ). record s.options { redundancy = Some x }) (once s.options.redundancy (number_of value)) p.0 p.1 in
    let r = once-Ok s.options.redundancy (number_of value) q.0 q.1 in
    let c : Becomes (record s { options = record s.options { redundancy = Some q.0 } }) vs nss t = subst (λ (x : OpenSection). Becomes x vs nss t) (sym (ap (λ (o : Options). record s { options = o }) q.2 ∙ p.2)) b in
    record { name = c.name; disperse = c.disperse; subvolumes = c.subvolumes; redundancy = joins_one number_of value (vs Redundancy) s.options.redundancy t.options.redundancy q.0 r.0 r.1 c.redundancy; policy = c.policy; eager = c.eager; cache = c.cache; window = c.window; kernel = c.kernel; systematic = c.systematic }
becomes-named (Some ReadPolicy) value s u t vs nss d e b =
    let p = set_by-Ok (λ (o : Options). record s { options = o }) (set s.options ReadPolicy value) u (sym (at_true s.disperse (with_options s (set s.options ReadPolicy value)) (Ok s) d) ∙ e) in
    let q = set_by-Ok (λ (x : Policy). record s.options { policy = Some x }) (once s.options.policy (policy_of value)) p.0 p.1 in
    let r = once-Ok s.options.policy (policy_of value) q.0 q.1 in
    let c : Becomes (record s { options = record s.options { policy = Some q.0 } }) vs nss t = subst (λ (x : OpenSection). Becomes x vs nss t) (sym (ap (λ (o : Options). record s { options = o }) q.2 ∙ p.2)) b in
    record { name = c.name; disperse = c.disperse; subvolumes = c.subvolumes; redundancy = c.redundancy; policy = joins_one policy_of value (vs ReadPolicy) s.options.policy t.options.policy q.0 r.0 r.1 c.policy; eager = c.eager; cache = c.cache; window = c.window; kernel = c.kernel; systematic = c.systematic }
becomes-named (Some EagerLock) value s u t vs nss d e b =
    let p = set_by-Ok (λ (o : Options). record s { options = o }) (set s.options EagerLock value) u (sym (at_true s.disperse (with_options s (set s.options EagerLock value)) (Ok s) d) ∙ e) in
    let q = set_by-Ok (λ (x : Bool). record s.options { eager = Some x }) (once s.options.eager (eager_of value)) p.0 p.1 in
    let r = once-Ok s.options.eager (eager_of value) q.0 q.1 in
    let c : Becomes (record s { options = record s.options { eager = Some q.0 } }) vs nss t = subst (λ (x : OpenSection). Becomes x vs nss t) (sym (ap (λ (o : Options). record s { options = o }) q.2 ∙ p.2)) b in
    record { name = c.name; disperse = c.disperse; subvolumes = c.subvolumes; redundancy = c.redundancy; policy = c.policy; eager = joins_one eager_of value (vs EagerLock) s.options.eager t.options.eager q.0 r.0 r.1 c.eager; cache = c.cache; window = c.window; kernel = c.kernel; systematic = c.systematic }
becomes-named (Some StripeCache) value s u t vs nss d e b =
    let p = set_by-Ok (λ (o : Options). record s { options = o }) (set s.options StripeCache value) u (sym (at_true s.disperse (with_options s (set s.options StripeCache value)) (Ok s) d) ∙ e) in
    let q = set_by-Ok (λ (x : ℕ). record s.options { cache = Some x }) (once s.options.cache (cache_of value)) p.0 p.1 in
    let r = once-Ok s.options.cache (cache_of value) q.0 q.1 in
    let c : Becomes (record s { options = record s.options { cache = Some q.0 } }) vs nss t = subst (λ (x : OpenSection). Becomes x vs nss t) (sym (ap (λ (o : Options). record s { options = o }) q.2 ∙ p.2)) b in
    record { name = c.name; disperse = c.disperse; subvolumes = c.subvolumes; redundancy = c.redundancy; policy = c.policy; eager = c.eager; cache = joins_one cache_of value (vs StripeCache) s.options.cache t.options.cache q.0 r.0 r.1 c.cache; window = c.window; kernel = c.kernel; systematic = c.systematic }
becomes-named (Some HealWindow) value s u t vs nss d e b =
    let p = set_by-Ok (λ (o : Options). record s { options = o }) (set s.options HealWindow value) u (sym (at_true s.disperse (with_options s (set s.options HealWindow value)) (Ok s) d) ∙ e) in
    let q = set_by-Ok (λ (x : ℕ). record s.options { window = Some x }) (once s.options.window (window_of value)) p.0 p.1 in
    let r = once-Ok s.options.window (window_of value) q.0 q.1 in
    let c : Becomes (record s { options = record s.options { window = Some q.0 } }) vs nss t = subst (λ (x : OpenSection). Becomes x vs nss t) (sym (ap (λ (o : Options). record s { options = o }) q.2 ∙ p.2)) b in
    record { name = c.name; disperse = c.disperse; subvolumes = c.subvolumes; redundancy = c.redundancy; policy = c.policy; eager = c.eager; cache = c.cache; window = joins_one window_of value (vs HealWindow) s.options.window t.options.window q.0 r.0 r.1 c.window; kernel = c.kernel; systematic = c.systematic }
becomes-named (Some CpuExtensions) value s u t vs nss d e b =
    let p = set_by-Ok (λ (o : Options). record s { options = o }) (set s.options CpuExtensions value) u (sym (at_true s.disperse (with_options s (set s.options CpuExtensions value)) (Ok s) d) ∙ e) in
    let q = set_by-Ok (λ (x : Kernel). record s.options { kernel = Some x }) (once s.options.kernel (kernel_some value)) p.0 p.1 in
    let r = once-Ok s.options.kernel (kernel_some value) q.0 q.1 in
    let c : Becomes (record s { options = record s.options { kernel = Some q.0 } }) vs nss t = subst (λ (x : OpenSection). Becomes x vs nss t) (sym (ap (λ (o : Options). record s { options = o }) q.2 ∙ p.2)) b in
    record { name = c.name; disperse = c.disperse; subvolumes = c.subvolumes; redundancy = c.redundancy; policy = c.policy; eager = c.eager; cache = c.cache; window = c.window; kernel = joins_one kernel_some value (vs CpuExtensions) s.options.kernel t.options.kernel q.0 r.0 r.1 c.kernel; systematic = c.systematic }
becomes-named (Some CodeRows) value s u t vs nss d e b =
    let p = set_by-Ok (λ (o : Options). record s { options = o }) (set s.options CodeRows value) u (sym (at_true s.disperse (with_options s (set s.options CodeRows value)) (Ok s) d) ∙ e) in
    let q = set_by-Ok (λ (x : Bool). record s.options { systematic = Some x }) (once s.options.systematic (systematic_of value)) p.0 p.1 in
    let r = once-Ok s.options.systematic (systematic_of value) q.0 q.1 in
    let c : Becomes (record s { options = record s.options { systematic = Some q.0 } }) vs nss t = subst (λ (x : OpenSection). Becomes x vs nss t) (sym (ap (λ (o : Options). record s { options = o }) q.2 ∙ p.2)) b in
    record { name = c.name; disperse = c.disperse; subvolumes = c.subvolumes; redundancy = c.redundancy; policy = c.policy; eager = c.eager; cache = c.cache; window = c.window; kernel = c.kernel; systematic = joins_one systematic_of value (vs CodeRows) s.options.systematic t.options.systematic q.0 r.0 r.1 c.systematic }

pub named-becomes : (o : Option Key) (value : List ℕ) (s t : OpenSection) (vs : Key → List (List ℕ)) (nss : List (List (List ℕ))) → s.disperse ≡ true → Becomes s (λ k. with_value k o value (vs k)) nss t → (u : OpenSection) × (set_named s o value ≡ Ok u) × Becomes u vs nss t
unfolding set
named-becomes None value s t vs nss d b = (s, refl, record { name = b.name; disperse = b.disperse; subvolumes = b.subvolumes; redundancy = b.redundancy; policy = b.policy; eager = b.eager; cache = b.cache; window = b.window; kernel = b.kernel; systematic = b.systematic })
named-becomes (Some Redundancy) value s t vs nss d b =
    let j = joins_first number_of value (vs Redundancy) s.options.redundancy t.options.redundancy b.redundancy in (
      record s { options = record s.options { redundancy = Some j.0 } },
      at_true s.disperse (with_options s (set s.options Redundancy value)) (Ok s) d ∙ ap (λ (r : Result ℕ VolumeFault). with_options s (set_by (λ (x : ℕ). record s.options { redundancy = Some x }) r)) j.1,
      record { name = b.name; disperse = b.disperse; subvolumes = b.subvolumes; redundancy = j.2; policy = b.policy; eager = b.eager; cache = b.cache; window = b.window; kernel = b.kernel; systematic = b.systematic },
    )
named-becomes (Some ReadPolicy) value s t vs nss d b =
    let j = joins_first policy_of value (vs ReadPolicy) s.options.policy t.options.policy b.policy in (
      record s { options = record s.options { policy = Some j.0 } },
      at_true s.disperse (with_options s (set s.options ReadPolicy value)) (Ok s) d ∙ ap (λ (r : Result Policy VolumeFault). with_options s (set_by (λ (x : Policy). record s.options { policy = Some x }) r)) j.1,
      record { name = b.name; disperse = b.disperse; subvolumes = b.subvolumes; redundancy = b.redundancy; policy = j.2; eager = b.eager; cache = b.cache; window = b.window; kernel = b.kernel; systematic = b.systematic },
    )
named-becomes (Some EagerLock) value s t vs nss d b =
    let j = joins_first eager_of value (vs EagerLock) s.options.eager t.options.eager b.eager in (
      record s { options = record s.options { eager = Some j.0 } },
      at_true s.disperse (with_options s (set s.options EagerLock value)) (Ok s) d ∙ ap (λ (r : Result Bool VolumeFault). with_options s (set_by (λ (x : Bool). record s.options { eager = Some x }) r)) j.1,
      record { name = b.name; disperse = b.disperse; subvolumes = b.subvolumes; redundancy = b.redundancy; policy = b.policy; eager = j.2; cache = b.cache; window = b.window; kernel = b.kernel; systematic = b.systematic },
    )
named-becomes (Some StripeCache) value s t vs nss d b =
    let j = joins_first cache_of value (vs StripeCache) s.options.cache t.options.cache b.cache in (
      record s { options = record s.options { cache = Some j.0 } },
      at_true s.disperse (with_options s (set s.options StripeCache value)) (Ok s) d ∙ ap (λ (r : Result ℕ VolumeFault). with_options s (set_by (λ (x : ℕ). record s.options { cache = Some x }) r)) j.1,
      record { name = b.name; disperse = b.disperse; subvolumes = b.subvolumes; redundancy = b.redundancy; policy = b.policy; eager = b.eager; cache = j.2; window = b.window; kernel = b.kernel; systematic = b.systematic },
    )
named-becomes (Some HealWindow) value s t vs nss d b =
    let j = joins_first window_of value (vs HealWindow) s.options.window t.options.window b.window in (
      record s { options = record s.options { window = Some j.0 } },
      at_true s.disperse (with_options s (set s.options HealWindow value)) (Ok s) d ∙ ap (λ (r : Result ℕ VolumeFault). with_options s (set_by (λ (x : ℕ). record s.options { window = Some x }) r)) j.1,
      record { name = b.name; disperse = b.disperse; subvolumes = b.subvolumes; redundancy = b.redundancy; policy = b.policy; eager = b.eager; cache = b.cache; window = j.2; kernel = b.kernel; systematic = b.systematic },
    )
named-becomes (Some CpuExtensions) value s t vs nss d b =
    let j = joins_first kernel_some value (vs CpuExtensions) s.options.kernel t.options.kernel b.kernel in (
      record s { options = record s.options { kernel = Some j.0 } },
      at_true s.disperse (with_options s (set s.options CpuExtensions value)) (Ok s) d ∙ ap (λ (r : Result Kernel VolumeFault). with_options s (set_by (λ (x : Kernel). record s.options { kernel = Some x }) r)) j.1,
      record { name = b.name; disperse = b.disperse; subvolumes = b.subvolumes; redundancy = b.redundancy; policy = b.policy; eager = b.eager; cache = b.cache; window = b.window; kernel = j.2; systematic = b.systematic },
    )
named-becomes (Some CodeRows) value s t vs nss d b =
    let j = joins_first systematic_of value (vs CodeRows) s.options.systematic t.options.systematic b.systematic in (
      record s { options = record s.options { systematic = Some j.0 } },
      at_true s.disperse (with_options s (set s.options CodeRows value)) (Ok s) d ∙ ap (λ (r : Result Bool VolumeFault). with_options s (set_by (λ (x : Bool). record s.options { systematic = Some x }) r)) j.1,
      record { name = b.name; disperse = b.disperse; subvolumes = b.subvolumes; redundancy = b.redundancy; policy = b.policy; eager = b.eager; cache = b.cache; window = b.window; kernel = b.kernel; systematic = j.2 },
    )

-- the names of the subvolumes, and what they lead to
names-chosen : (t : Bool) (s u : OpenSection) (names : List (List ℕ)) → (if t then Err Twice else Ok (record s { subvolumes = Some (subvolumes_of names) })) ≡ Ok u → (t ≡ false) × (record s { subvolumes = Some (subvolumes_of names) } ≡ u)
names-chosen true s u names e = cc
names-chosen false s u names e = (refl, same_Ok (record s { subvolumes = Some (subvolumes_of names) }) u e)

becomes-by : (names : List (List ℕ)) (s u t : OpenSection) (vs : Key → List (List ℕ)) (nss : List (List (List ℕ))) (o : Option Subvolumes) → s.subvolumes ≡ o → s.disperse ≡ true → with_names s names o ≡ Ok u → Becomes u vs nss t → Becomes s vs (names ∷ nss) t
becomes-by names s u t vs nss (Some y) h d e b = cc
becomes-by names s u t vs nss None h d e b =
    let p = names-chosen (repeats names) s u names (sym (at_true s.disperse (disperse_names s names) (other_names s) d) ∙ e) in
    let c : Becomes (record s { subvolumes = Some (subvolumes_of names) }) vs nss t = subst (λ (x : OpenSection). Becomes x vs nss t) (sym p.1) b in
    record { subvolumes = subst (λ (o : Option Subvolumes). JoinsNames (names ∷ nss) o t.subvolumes) (sym h) (p.0, c.subvolumes); name = c.name; disperse = c.disperse; redundancy = c.redundancy; policy = c.policy; eager = c.eager; cache = c.cache; window = c.window; kernel = c.kernel; systematic = c.systematic }

pub becomes-names : (names : List (List ℕ)) (s u t : OpenSection) (vs : Key → List (List ℕ)) (nss : List (List (List ℕ))) → s.disperse ≡ true → with_names s names s.subvolumes ≡ Ok u → Becomes u vs nss t → Becomes s vs (names ∷ nss) t
becomes-names names s u t vs nss d e b = becomes-by names s u t vs nss s.subvolumes refl d e b

names-by : (names : List (List ℕ)) (s t : OpenSection) (vs : Key → List (List ℕ)) (nss : List (List (List ℕ))) (o : Option Subvolumes) → s.subvolumes ≡ o → s.disperse ≡ true → JoinsNames (names ∷ nss) o t.subvolumes → Becomes s vs (names ∷ nss) t → (u : OpenSection) × (with_names s names o ≡ Ok u) × Becomes u vs nss t
names-by names s t vs nss (Some y) h d j b = absurd j
names-by names s t vs nss None h d j b = (
  record s { subvolumes = Some (subvolumes_of names) },
  at_true s.disperse (disperse_names s names) (other_names s) d ∙ ap (λ (t : Bool). if t then Err Twice else Ok (record s { subvolumes = Some (subvolumes_of names) })) j.0,
  record { subvolumes = j.1; name = b.name; disperse = b.disperse; redundancy = b.redundancy; policy = b.policy; eager = b.eager; cache = b.cache; window = b.window; kernel = b.kernel; systematic = b.systematic },
)

pub names-becomes : (names : List (List ℕ)) (s t : OpenSection) (vs : Key → List (List ℕ)) (nss : List (List (List ℕ))) → s.disperse ≡ true → Becomes s vs (names ∷ nss) t → (u : OpenSection) × (with_names s names s.subvolumes ≡ Ok u) × Becomes u vs nss t
names-becomes names s t vs nss d b = names-by names s t vs nss s.subvolumes refl d b.subvolumes b

-- all items in turn
abbrev pub take_items : OpenSection → List Item → Result OpenSection VolumeFault
take_items s [] = Ok s
take_items s (item ∷ items) = elim (take_item s item) [ Ok u ↦ take_items u items | Err e ↦ Err e ]
