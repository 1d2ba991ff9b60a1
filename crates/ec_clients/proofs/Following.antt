-- Entries that follow from what an event names.
use Rattle.std.proofs.Common.{◌≡◌, ℕ, ◌+◌, Bool, true, false, ◌&&◌, Option, Some, None, List, [], ◌∷◌, ◌++◌, refl, sym, ◌∙◌, ap}
use Rattle.std.proofs.lemmas.List.Folds.{list_all-append}
use Rattle.std.specs.List.{list_all}
use Rattle.ec_attr.specs.declared.gfid.Gfid.{Gfid}
use Rattle.ec_conduct.specs.Table.{Send}
use Rattle.ec_history.specs.Script.{is_of_course}
use Rattle.ec_wire.specs.declared.answer.Answer.{Answer}
use Rattle.ec_wire.specs.declared.entry.Entry.{Entry}
use Rattle.ec_clients.specs.Going.{answer_entries, sent_entries}
use Rattle.ec_clients.specs.Late.{late_entries}
use Rattle.ec_clients.specs.Steps.{AreOfCourse}

pub requests_follow : (a j i : ℕ) (ss : List Send) → AreOfCourse (sent_entries a j i ss)
requests_follow a j i [] = refl
requests_follow a j i (s ∷ ss) = requests_follow a j (i + 1) ss

pub sent_follow : (a j i : ℕ) (ss : List Send) (answer : Option Answer) → AreOfCourse (sent_entries a j i ss ++ answer_entries a answer)
sent_follow a j i [] None = refl
sent_follow a j i [] (Some answer) = refl
sent_follow a j i (s ∷ ss) answer = sent_follow a j (i + 1) ss answer

pub late_follow : (i a j b re : ℕ) (g : Option Gfid) → AreOfCourse (late_entries i a j b re g)
late_follow i a j b re None = refl
late_follow i a j b re (Some g) = refl

pub then_follow : (xs ys : List Entry) → AreOfCourse xs → AreOfCourse ys → AreOfCourse (xs ++ ys)
then_follow xs ys h k = list_all-append is_of_course xs ys ∙ (λ i. (h i && k i))

front_true : (x y : Bool) → (x && y) ≡ true → x ≡ true
front_true true y h = refl
front_true false y h = absurd cc

pub front_follow : (xs ys zs : List Entry) → xs ++ ys ≡ zs → AreOfCourse zs → AreOfCourse xs
front_follow xs ys zs e h = front_true (list_all is_of_course xs) (list_all is_of_course ys) (sym (list_all-append is_of_course xs ys) ∙ (ap (list_all is_of_course) e ∙ h))
