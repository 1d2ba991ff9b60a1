-- Pages of names: up to 64 of them, in byte order.
use Rattle.std.specs.Prelude.{◌≡◌, ◌⊎◌, ℕ, ◌<◌, Bool, true, ◌&&◌, Option, Some, None, List, [], ◌∷◌, filter, length, take}
use Rattle.std.specs.List.{list_all}
use Rattle.std.specs.declared.ops.Bound.{Bound}
use Rattle.std.specs.declared.ops.Bound.TheVariants.{Excluded, Unbounded}
use Rattle.ec_attr.specs.declared.kind.Child.{Child}
use Rattle.ec_store.specs.Records.{is_past, is_within, listed}

abbrev pub Page : Type 0
Page = List (List ℕ × Child)

-- each name is past the one before it, the first past `after`
abbrev pub is_rising : {T : Type 0} → Option (List ℕ) → List (List ℕ × T) → Bool
is_rising after [] = true
is_rising after (e ∷ es) = is_past after e.0 && is_rising (Some e.0) es

-- no name is past `upto`
abbrev pub are_within : Option (List ℕ) → Page → Bool
are_within upto page = list_all (λ e. is_within upto e.0) page

-- how far a page tells: to its last name where it is full, else to the end
abbrev pub end_of : Option (List ℕ) → Page → Option (List ℕ)
end_of after [] = after
end_of after (e ∷ es) = end_of (Some e.0) es

-- a page shows exactly the names past `after`, up to its last name where it is full
pub record IsPage (after : Option (List ℕ)) (names : List ℕ → Option Child) (page : List (List ℕ × Child)) : Type 0 where
  pub shows : (n : List ℕ) → is_past after n ≡ true → (length page < 64) ⊎ (is_within (end_of after page) n ≡ true) → listed page n ≡ names n

-- where the names past `after` begin
abbrev pub start_of : Option (List ℕ) → Bound (List ℕ)
start_of None = Unbounded
start_of (Some a) = Excluded a

-- the first 64 names past `after`
abbrev pub first_names : Option (List ℕ) → Page → Page
first_names after entries = take 64 (filter (λ e. is_past after e.0) entries)
