-- What the pages of names come to that the bricks of a group replied in one round.
use Rattle.std.specs.Prelude.{◌≡◌, ◌⊎◌, ℕ, ◌<◌, ◌≤◌, Bool, true, false, cond, ◌==◌, is_some, Option, Some, None, List, length}
use Rattle.std.specs.Map.{lookup, update}
use Rattle.std.specs.Cmp.Lexicographic.{slice_cmp}
use Rattle.std.specs.BTreeMap.{is_at}
use Rattle.std.specs.Ordering.{eq_by_cmp, nat_cmp}
use Rattle.ec_attr.specs.Bricks.{count_below, is_in}
use Rattle.ec_attr.specs.declared.kind.Child.{Child}
use Rattle.ec_store.specs.Pages.{Page, end_of, is_rising}
use Rattle.ec_store.specs.Records.{is_inside, is_within, listed}
use Rattle.ec_wire.specs.declared.reply.Reply.{Reply}
use Rattle.ec_wire.specs.declared.reply.Reply.TheVariants.{Names}
use Rattle.ec_entry.specs.Named.{NoneAlike, Value, count_of}

-- what a list gives a name: a child, or None where the name is open
abbrev pub Entry : Type 0
Entry = Option Child

abbrev pub Entries : Type 0
Entries = List (List ℕ × Entry)

abbrev pub entry_at : Entries → List ℕ → Option Entry
entry_at es n = lookup (is_at (slice_cmp nat_cmp n)) es

abbrev pub page_in : Option Reply → Option Page
page_in (Some (Names page)) = Some page
page_in reply = None

-- what each brick of a set replied last, where that is a page
abbrev pub paged : ℕ → (ℕ → Option Reply) → ℕ → Option Page
paged bits replies x = cond (is_in bits x) (page_in (replies x)) None

-- how many bricks replied a page
abbrev pub count_paged : (ℕ → Option Page) → ℕ
count_paged pages = count_below 31 (λ x. is_some (pages x))

-- what a page says of a name: a child, or that there is none
abbrev pub said_in : List ℕ → Option Page → Option Value
said_in n None = None
said_in n (Some page) = Some (listed page n)

abbrev pub said_of : (ℕ → Option Page) → List ℕ → ℕ → Option Value
said_of pages n x = said_in n (pages x)

abbrev pub is_listed : List ℕ → Option Page → Bool
is_listed n None = false
is_listed n (Some page) = is_some (listed page n)

-- the last name of a full page, which has 64 names
abbrev pub full_end : Page → Option (List ℕ)
full_end page = cond (length page == 64) (end_of None page) None

abbrev pub end_in : Option Page → Option (List ℕ)
end_in None = None
end_in (Some page) = full_end page

-- the least of the names that the bricks below b have
abbrev pub IsLeast : ℕ → (ℕ → Option (List ℕ)) → Option (List ℕ) → Type 0
IsLeast b ends None = (x : ℕ) → x < b → ends x ≡ None
IsLeast b ends (Some u) = ((x : ℕ) × (x < b) × (ends x ≡ Some u)) × ((x : ℕ) (n : List ℕ) → x < b → ends x ≡ Some n → is_within (Some n) u ≡ true)

-- how far a round tells: up to the least last name of a full page, or to the end where no page is full
abbrev pub IsUpto : (ℕ → Option Page) → Option (List ℕ) → Type 0
IsUpto pages upto = IsLeast 31 (λ x. end_in (pages x)) upto

-- A name with k alike replies is listed with that child, or left out where there is none; any other name is open.
abbrev pub IsEntry : ℕ → (ℕ → Option Value) → Option Entry → Type 0
IsEntry k said None = k ≤ count_of said None
IsEntry k said (Some (Some child)) = k ≤ count_of said (Some child)
IsEntry k said (Some None) = NoneAlike k said

-- What a round lists: in rising order each name past `after` and not past `upto`, and no other.
pub record IsPart (k : ℕ) (pages : ℕ → Option Page) (after upto : Option (List ℕ)) (part : Entries) : Type 0 where
  pub rises : is_rising after part ≡ true
  pub each : (n : List ℕ) → is_inside after upto n ≡ true → IsEntry k (said_of pages n) (entry_at part n)
  pub none : (n : List ℕ) → is_inside after upto n ≡ false → entry_at part n ≡ None

-- A name is gathered as the pages of all bricks say, where it lies inside.
abbrev pub GathersOne : ℕ → (ℕ → Option Page) → Option (List ℕ) → Option (List ℕ) → List ℕ → (List ℕ → Option Entry) → (List ℕ → Option Entry) → Type 0
GathersOne k pages after upto n old new =
    ((is_inside after upto n ≡ true → IsEntry k (said_of pages n) None) × ((q : List ℕ) → new q ≡ old q))
    ⊎ ((entry : Entry) × (is_inside after upto n ≡ true) × IsEntry k (said_of pages n) (Some entry) × ((q : List ℕ) → new q ≡ update (eq_by_cmp (slice_cmp nat_cmp)) old n (Some entry) q))

-- The names of a page that lie inside are gathered, as the pages of all bricks say.
pub record Gathers (k : ℕ) (pages : ℕ → Option Page) (after upto : Option (List ℕ)) (page : Page) (old new : List ℕ → Option Entry) : Type 0 where
  pub some : (n : List ℕ) (e : Entry) → new n ≡ Some e → (old n ≡ Some e) ⊎ ((is_inside after upto n ≡ true) × IsEntry k (said_of pages n) (Some e))
  pub kept : (n : List ℕ) → new n ≡ None → old n ≡ None
  pub none : (n : List ℕ) → new n ≡ None → is_inside after upto n ≡ true → is_some (listed page n) ≡ true → IsEntry k (said_of pages n) None

-- the same of the pages of the bricks below b
pub record GathersBelow (k b : ℕ) (pages : ℕ → Option Page) (after upto : Option (List ℕ)) (got : List ℕ → Option Entry) : Type 0 where
  pub some : (n : List ℕ) (e : Entry) → got n ≡ Some e → (is_inside after upto n ≡ true) × IsEntry k (said_of pages n) (Some e)
  pub none : (n : List ℕ) (x : ℕ) → x < b → got n ≡ None → is_inside after upto n ≡ true → is_listed n (pages x) ≡ true → IsEntry k (said_of pages n) None
