-- The answers of a parse are those of the rows that it found.
use Rattle.std.proofs.Common.{◌≡◌, ◌∙◌, ℕ, Bool, refl, sym, ap, ap₂, subst, List, [], ◌∷◌, is_some, Option, Some, None, Result, Ok, Err, IfOk}
use Rattle.std.specs.Prelude.{codes, find, map, option_map, option_and_then, slice_get}
use Rattle.std.specs.Option.{ok_or}
use Rattle.std.specs.Borrow.{Bor}
use Rattle.std.specs.Str.{bytes_eq}
use Rattle.clap.specs.Facts.{Entry}
use Rattle.clap.specs.Matches.{first_value, matched_of}
use Rattle.clap.specs.Walk.{Row, all_of, first_of, row_of, rows_of}
use Rattle.clap.specs.Words.{IsAmong, Kinds, fault_of, matches_of}
use Rattle.clap.specs.declared.error.kind.ErrorKind.{ErrorKind}
use Rattle.clap.specs.declared.parser.matches.Found.{Found}
use Rattle.clap.specs.declared.parser.matches.MatchedArg.{MatchedArg}
use Rattle.clap.proofs.WalkLemmas.{find-map}
use Rattle.ec_words.specs.Program.{is_set, order_by, order_of, order_unless, ordered, program}
use Rattle.ec_words.specs.declared.command.Command.{Command}
use Rattle.ec_words.specs.declared.command.WordsFault.{WordsFault}
use Rattle.ec_words.specs.declared.command.WordsFault.TheVariants.{Bad}

found : (id : List ℕ) (xs : List Entry) → find (λ (r : Row). bytes_eq r.id id) (map row_of xs) ≡ option_map row_of (find (λ (e : Entry). bytes_eq e.0.now id) xs)
found id xs = sym (find-map (λ (r : Row). bytes_eq r.id id) row_of xs)

first_text : (xs : List (Bor (List ℕ))) → option_map (λ (s : Bor (List ℕ)). s.now) (slice_get xs 0) ≡ slice_get (map (λ (s : Bor (List ℕ)). s.now) xs) 0
first_text [] = refl
first_text (x ∷ xs) = refl

first_found : (o : Option Entry) → option_and_then (λ (a : MatchedArg). option_map (λ s. s.now) (slice_get a.vals.items 0)) (option_map (λ (e : Entry). e.1) o) ≡ option_and_then (λ (r : Row). slice_get r.values 0) (option_map row_of o)
first_found None = refl
first_found (Some e) = first_text e.1.vals.items

first_is : (f : Found) (id : List ℕ) → first_value f id ≡ first_of id (rows_of f)
first_is f id = first_found (find (λ (e : Entry). bytes_eq e.0.now id) f.entries.items) ∙ ap (option_and_then (λ (r : Row). slice_get r.values 0)) (sym (found id f.entries.items))

some_found : (o : Option Entry) → is_some (option_map (λ (e : Entry). e.1) o) ≡ is_some (option_map (λ (r : Row). r.values) (option_map row_of o))
some_found None = refl
some_found (Some e) = refl

some_is : (f : Found) (id : List ℕ) → is_some (matched_of f id) ≡ is_some (all_of id (rows_of f))
some_is f id = some_found (find (λ (e : Entry). bytes_eq e.0.now id) f.entries.items) ∙ ap (λ o. is_some (option_map (λ (r : Row). r.values) o)) (sym (found id f.entries.items))

pub order_is : (f : Found) (w l : Option (List ℕ)) (m : Bool) → w ≡ first_value f (codes "command") → m ≡ is_some (matched_of f (codes "arguments")) → l ≡ first_value f (codes "log")
    → order_by w m (is_set l) ≡ order_of (rows_of f)
order_is f w l m a b d = rw (a ∙ first_is f (codes "command"), b ∙ some_is f (codes "arguments"), d ∙ first_is f (codes "log")) refl

-- where the parser finds no fault, its rows order
pub by_rows : (words : List (List ℕ)) (rows : List Row) → fault_of program words ≡ [] → rows ≡ matches_of program words → order_of rows ≡ ordered words
by_rows words rows e r = ap₂ order_unless (sym e) r

-- where it finds one, nothing is ordered
pub none_ordered : (k : ErrorKind) (kinds : Kinds) (rows : List Row) → IsAmong k kinds → order_unless kinds rows ≡ None
none_ordered k [] rows e = absurd e
none_ordered k (x ∷ xs) rows e = refl

pub good_order : (o w : Option Command) (r : Result Command WordsFault) → r ≡ ok_or o Bad → o ≡ w → IfOk r (λ c. w ≡ Some c)
good_order None w r e f = subst (λ (q : Result Command WordsFault). IfOk q (λ c. w ≡ Some c)) (sym e) tt
good_order (Some x) w r e f = subst (λ (q : Result Command WordsFault). IfOk q (λ c. w ≡ Some c)) (sym e) (sym f)

pub bad_order : (o w : Option Command) (r : Result Command WordsFault) → r ≡ ok_or o Bad → o ≡ w → r ≡ Err Bad → w ≡ None
bad_order None w r e f g = sym f
bad_order (Some x) w r e f g = absurd (let bad : Ok x ≡ Err Bad = sym e ∙ g in cc)
