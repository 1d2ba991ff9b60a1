-- Attributes by their three numbers.
use Rattle.std.proofs.Common.{◌≡◌, ℕ, ◌≤◌, ◌<◌, Option, Some, None, refl, sym, ap, subst, ◌∙◌, arith, inl, inr}
use Rattle.std.specs.Prelude.{IsSome, IfSome, ◌⊎◌}
use Rattle.std.proofs.Math.Bridge.{le_prop}
use Rattle.std.proofs.lemmas.Bool.{cases_lt}
use Rattle.ec_attr.specs.declared.attr.Attr.{Attr}
use Rattle.ec_script.specs.Orders.{attr_by, attr_of}

abbrev attr : (mode owner group : ℕ) → mode ≤ 4095 → Attr
attr mode owner group h = record { mode = mode; owner = owner; group = group; in_range = h }

same_range : (m o g : ℕ) (h k : m ≤ 4095) → attr m o g h ≡ attr m o g k
same_range m o g h k = λ i. record { mode = m; owner = o; group = g; in_range = le_prop h k i }

-- attributes with the same numbers are equal
pub same_attr : (a : Attr) (m o g : ℕ) (h : m ≤ 4095) → a.mode ≡ m → a.owner ≡ o → a.group ≡ g → a ≡ record { mode = m; owner = o; group = g; in_range = h }
same_attr a m o g h e f k =
    subst (λ m. (h : m ≤ 4095) → a ≡ attr m o g h) e
    (λ h. subst (λ o. a ≡ attr a.mode o g h) f (subst (λ g. a ≡ attr a.mode a.owner g h) k (same_range a.mode a.owner a.group a.in_range h))) h

pub attr_range : (m o g : ℕ) (h : m ≤ 4095) (c : (4095 < m) ⊎ (m ≤ 4095)) → attr_by m o g c ≡ Some (record { mode = m; owner = o; group = g; in_range = h })
attr_range m o g h (inl above) = absurd (omega (arith, h, above))
attr_range m o g h (inr within) = ap (λ a. Some a) (same_range m o g within h)

attr_none : (m o g : ℕ) → 4095 < m → (c : (4095 < m) ⊎ (m ≤ 4095)) → attr_by m o g c ≡ None
attr_none m o g h (inl above) = refl
attr_none m o g h (inr within) = absurd (omega (arith, h, within))

-- what `Attr::new` gives
pub attr_new : (r : Option Attr) (m o g : ℕ) → (IsSome r → m ≤ 4095) → (m ≤ 4095 → IsSome r) → IfSome r (λ a. (a.mode ≡ m) × (a.owner ≡ o) × (a.group ≡ g)) → r ≡ attr_of m o g
attr_new None m o g some range value =
    elim (cases_lt 4095 m) [
      | inl above ↦ sym (attr_none m o g above (cases_lt 4095 m))
      | inr within ↦ cc (range (omega (arith, within)))
    ]
attr_new (Some a) m o g some range value =
    let h : m ≤ 4095 = some refl in
    ap (λ a. Some a) (same_attr a m o g h value.0 value.1 value.2) ∙ sym (attr_range m o g h (cases_lt 4095 m))
