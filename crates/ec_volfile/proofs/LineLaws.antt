-- What a line says, by its words.
use Rattle.std.proofs.Common.{◌≡◌, ◌≢◌, ◌<◌, ℕ, suc, Bool, true, false, cond, nat_eq, List, [], ◌∷◌, length, Option, Some, None, Ok, refl, sym, ap, ◌∙◌, subst, arith, ◌⊎◌, inl, inr}
use Rattle.std.specs.Prelude.{codes, if◌then◌else◌}
use Rattle.std.proofs.Math.Dec.{eqb-suc-zero}
use Rattle.std.proofs.lemmas.Bool.{false≢true}
use Rattle.ec_volfile.specs.declared.section.Keyword.{Keyword}
use Rattle.ec_volfile.specs.declared.section.Keyword.TheVariants as keyword
use Rattle.ec_volfile.specs.Lines.{is_blank, words, skip_blanks, trim, word_of, after_word}
use Rattle.ec_volfile.specs.Sections.{Front, keyword_of, one_word, obey, step}
use Rattle.ec_volfile.specs.Grammar.{is_remark, is_passed, Item, Sets, Names}
use Rattle.ec_volfile.proofs.WordLemmas.{at_true, at_false, solid, skip_twice, words_skip, next_words}
use Rattle.ec_volfile.specs.Statements.{Statement, Begins, HasType, Holds, Ends, Says, begins, has_type, statement_by, first_word, arguments, statement_of, lead, lead_if}
use Rattle.ec_volfile.proofs.StatementLaws.{by_statement, KeywordSays, keyword_says}

pub record HasWord (line : List ℕ) : Type 0 where
  pub b : ℕ
  pub bs : List ℕ
  pub first : first_word line ≡ b ∷ bs
  pub all : words line ≡ (b ∷ bs) ∷ words (arguments line)

first_of : (line s : List ℕ) → skip_blanks line ≡ s → ((words line ≡ []) × (first_word line ≡ [])) ⊎ HasWord line
first_of line [] e = inl (sym (words_skip line) ∙ ap words e, ap word_of e)
first_of line (b ∷ bs) e =
    let begins : skip_blanks (b ∷ bs) ≡ b ∷ bs = ap skip_blanks (sym e) ∙ (skip_twice line ∙ e) in
    let word : word_of (b ∷ bs) ≡ b ∷ word_of bs = at_false (is_blank b) [] (b ∷ word_of bs) (solid b bs begins) in
    inr (record {
      b = b;
      bs = word_of bs;
      first = ap word_of e ∙ word;
      all = sym (words_skip line) ∙ (ap words e ∙ (next_words (b ∷ bs) begins (omega arith) ∙ (ap (λ (w : List ℕ). w ∷ words (skip_blanks (after_word (b ∷ bs)))) word ∙ ap (λ (t : List ℕ). (b ∷ word_of bs) ∷ words (skip_blanks (after_word t))) (sym e))));
    })

first_or_none : (line : List ℕ) → ((words line ≡ []) × (first_word line ≡ [])) ⊎ HasWord line
first_or_none line = first_of line (skip_blanks line) refl

arguments-begin : (line : List ℕ) → skip_blanks (arguments line) ≡ arguments line
arguments-begin line = skip_twice (after_word (skip_blanks line))

-- the one word of the arguments
one_rest : (word rest name : List ℕ) → cond (nat_eq (length rest) 0) (Some word) None ≡ Some name → word ∷ words rest ≡ name ∷ []
one_rest word [] name e = cc
one_rest word (c ∷ cs) name e = let none : None ≡ Some name = sym (at_false (nat_eq (suc (length cs)) 0) (Some word) None (eqb-suc-zero (length cs))) ∙ e in cc

rest_one : (word rest name : List ℕ) → skip_blanks rest ≡ rest → word ∷ words rest ≡ name ∷ [] → cond (nat_eq (length rest) 0) (Some word) None ≡ Some name
rest_one word [] name b e = cc
rest_one word (c ∷ cs) name b e = let more : words (c ∷ cs) ≡ word_of (c ∷ cs) ∷ words (skip_blanks (after_word (c ∷ cs))) = next_words (c ∷ cs) b (omega arith) in cc

one_word-is : (args name : List ℕ) → skip_blanks args ≡ args → one_word args ≡ Some name → words args ≡ name ∷ []
unfolding one_word
one_word-is [] name b e = cc
one_word-is (a ∷ as') name b e =
    next_words (a ∷ as') b (omega arith)
    ∙ one_rest (word_of (a ∷ as')) (skip_blanks (after_word (a ∷ as'))) name (sym (at_false (nat_eq (suc (length as')) 0) None (cond (nat_eq (length (skip_blanks (after_word (a ∷ as')))) 0) (Some (word_of (a ∷ as'))) None) (eqb-suc-zero (length as'))) ∙ e)

one_word-of : (args name : List ℕ) → skip_blanks args ≡ args → words args ≡ name ∷ [] → one_word args ≡ Some name
unfolding one_word
one_word-of [] name b e = cc
one_word-of (a ∷ as') name b e =
    at_false (nat_eq (suc (length as')) 0) None (cond (nat_eq (length (skip_blanks (after_word (a ∷ as')))) 0) (Some (word_of (a ∷ as'))) None) (eqb-suc-zero (length as'))
    ∙ rest_one (word_of (a ∷ as')) (skip_blanks (after_word (a ∷ as'))) name (skip_twice (after_word (a ∷ as'))) (sym (next_words (a ∷ as') b (omega arith)) ∙ e)

-- the keyword of a line that is passed over, and of no other
nothing_of : (line : List ℕ) → is_passed line ≡ true → ((words line ≡ []) × (first_word line ≡ [])) ⊎ HasWord line → keyword_of (first_word line) ≡ keyword.Nothing
unfolding keyword_of
nothing_of line e (inl n) = ap keyword_of n.1
nothing_of line e (inr w) = ap keyword_of w.first ∙ at_true (nat_eq w.b 35) keyword.Nothing _ (sym (ap is_remark w.all) ∙ e)

-- a line that is passed over changes nothing
pub step-passed : (f : Front) (line : List ℕ) → is_passed line ≡ true → step f line ≡ Ok f
unfolding step
step-passed f line e = ap (λ (k : Keyword). obey f k (arguments line)) (nothing_of line e (first_or_none line))

-- a statement that a line makes, by its keyword
begun-says : (args : List ℕ) (o : Option (List ℕ)) (st : Statement) → begins o ≡ Some st → (name : List ℕ) × (o ≡ Some name) × (st ≡ Begins name)
begun-says args None st e = cc
begun-says args (Some name) st e = (name, refl, cc)

typed-says : (args : List ℕ) (o : Option (List ℕ)) (st : Statement) → has_type o ≡ Some st → (type : List ℕ) × (o ≡ Some type) × (st ≡ HasType type)
typed-says args None st e = cc
typed-says args (Some type) st e = (type, refl, cc)

some_bytes : (xs : List ℕ) → nat_eq (length xs) 0 ≡ false → 0 < length xs
some_bytes [] e = absurd (false≢true (sym e))
some_bytes (x ∷ xs) e = omega arith

test_some : (xs : List ℕ) → 0 < length xs → nat_eq (length xs) 0 ≡ false
test_some [] l = absurd (omega arith)
test_some (x ∷ xs) l = eqb-suc-zero (length xs)

item-says : (t : Bool) (i : Item) (st : Statement) → (if t then None else Some (Holds i)) ≡ Some st → (t ≡ false) × (st ≡ Holds i)
item-says true i st e = cc
item-says false i st e = (refl, cc)

end-says : (t : Bool) (st : Statement) → (if t then Some Ends else None) ≡ Some st → (t ≡ true) × (st ≡ Ends)
end-says true st e = (refl, cc)
end-says false st e = cc

no_words : (args : List ℕ) → nat_eq (length args) 0 ≡ true → words args ≡ []
no_words [] e = refl
no_words (a ∷ as') e = absurd (false≢true (sym (eqb-suc-zero (length as')) ∙ e))

value_some : (args : List ℕ) → 0 < length (trim (after_word args)) → 0 < length args
value_some [] l = l
value_some (a ∷ as') l = omega arith

stated-says : (line word : List ℕ) (k : Keyword) (st : Statement) → words line ≡ word ∷ words (arguments line) → KeywordSays k word → statement_by k (arguments line) ≡ Some st → Says line st
stated-says line word keyword.Nothing st w k e = cc
stated-says line word keyword.Volume st w k e =
    let s = begun-says (arguments line) (one_word (arguments line)) st e in
    subst (Says line) (sym s.2) (w ∙ (ap (λ (x : List ℕ). x ∷ words (arguments line)) k ∙ ap (λ (ws : List (List ℕ)). codes "volume" ∷ ws) (one_word-is (arguments line) s.0 (arguments-begin line) s.1)))
stated-says line word keyword.Type st w k e =
    let s = typed-says (arguments line) (one_word (arguments line)) st e in
    subst (Says line) (sym s.2) (w ∙ (ap (λ (x : List ℕ). x ∷ words (arguments line)) k ∙ ap (λ (ws : List (List ℕ)). codes "type" ∷ ws) (one_word-is (arguments line) s.0 (arguments-begin line) s.1)))
stated-says line word keyword.Option st w k e =
    let a : List ℕ = arguments line in
    let s = item-says (nat_eq (length (trim (after_word (arguments line)))) 0) (Sets (word_of (arguments line)) (trim (after_word (arguments line)))) st e in
    let l = some_bytes (trim (after_word (arguments line))) s.0 in
    subst (Says line) (sym s.1) (words (skip_blanks (after_word (arguments line))), w ∙ (ap (λ (x : List ℕ). x ∷ words (arguments line)) k ∙ ap (λ (ws : List (List ℕ)). codes "option" ∷ ws) (next_words (arguments line) (arguments-begin line) (value_some (arguments line) l))), refl, l)
stated-says line word keyword.Subvolumes st w k e =
    let s = item-says (nat_eq (length (arguments line)) 0) (Names (words (arguments line))) st e in
    let l = some_bytes (arguments line) s.0 in
    subst (Says line) (sym s.1) (w ∙ ap (λ (x : List ℕ). x ∷ words (arguments line)) k, omega (arith, ap length (next_words (arguments line) (arguments-begin line) l)))
stated-says line word keyword.EndVolume st w k e =
    let s = end-says (nat_eq (length (arguments line)) 0) st e in
    subst (Says line) (sym s.1) (w ∙ (ap (λ (x : List ℕ). x ∷ words (arguments line)) k ∙ ap (λ (ws : List (List ℕ)). codes "end-volume" ∷ ws) (no_words (arguments line) s.0)))
stated-says line word keyword.Other st w k e = cc

-- a line that isn't passed over
obey-some : (f : Front) (k : Keyword) (args : List ℕ) → k ≢ keyword.Nothing → obey f k args ≡ lead_if f f.place (statement_by k args)
obey-some f keyword.Nothing args n = absurd (n refl)
obey-some f keyword.Volume args n = by_statement f f.place keyword.Volume args
obey-some f keyword.Type args n = by_statement f f.place keyword.Type args
obey-some f keyword.Option args n = by_statement f f.place keyword.Option args
obey-some f keyword.Subvolumes args n = by_statement f f.place keyword.Subvolumes args
obey-some f keyword.EndVolume args n = by_statement f f.place keyword.EndVolume args
obey-some f keyword.Other args n = by_statement f f.place keyword.Other args

says_nothing : (line : List ℕ) (w : HasWord line) → is_passed line ≡ false → keyword_of (first_word line) ≡ keyword.Nothing → ⊥
says_nothing line w p e =
    let says = keyword_says (w.b ∷ w.bs) in
    let remark : nat_eq w.b 35 ≡ true = subst (λ (k : Keyword). KeywordSays k (w.b ∷ w.bs)) (ap keyword_of (sym w.first) ∙ e) says in
    false≢true (sym p ∙ (ap is_remark w.all ∙ remark))

-- the step of a line that isn't passed over
pub step-stated : (f : Front) (line : List ℕ) → is_passed line ≡ false → step f line ≡ lead_if f f.place (statement_of line)
unfolding step
step-stated f line p = by_word (first_or_none line) where
  by_word : ((words line ≡ []) × (first_word line ≡ [])) ⊎ HasWord line → obey f (keyword_of (first_word line)) (arguments line) ≡ lead_if f f.place (statement_of line)
  by_word (inl n) = absurd (false≢true (sym p ∙ ap is_remark n.0))
  by_word (inr w) = obey-some f (keyword_of (first_word line)) (arguments line) (says_nothing line w p)

abbrev pub LeadsBy : Front → List ℕ → Front → Type 0
LeadsBy f line g = (st : Statement) × Says line st × (lead f f.place st ≡ Ok g)

lead_some : (f : Front) (line : List ℕ) (k : Keyword) (g : Front) (o : Option Statement) → statement_by k (arguments line) ≡ o → lead_if f f.place o ≡ Ok g → ((st : Statement) → statement_by k (arguments line) ≡ Some st → Says line st) → LeadsBy f line g
lead_some f line k g None h e says = cc
lead_some f line k g (Some st) h e says = (st, says st h, e)

pub step-says : (f g : Front) (line : List ℕ) → is_passed line ≡ false → step f line ≡ Ok g → LeadsBy f line g
unfolding step
step-says f g line p e = by_word (first_or_none line) where
  by_word : ((words line ≡ []) × (first_word line ≡ [])) ⊎ HasWord line → LeadsBy f line g
  by_word (inl n) = absurd (false≢true (sym p ∙ ap is_remark n.0))
  by_word (inr w) =
      let k : Keyword = keyword_of (first_word line) in
      lead_some f line (keyword_of (first_word line)) g (statement_by (keyword_of (first_word line)) (arguments line)) refl
      (sym (obey-some f (keyword_of (first_word line)) (arguments line) (says_nothing line w p)) ∙ e)
      (λ st h. stated-says line (w.b ∷ w.bs) (keyword_of (first_word line)) st w.all (subst (λ (x : List ℕ). KeywordSays (keyword_of (first_word line)) x) w.first (keyword_says (first_word line))) h)

-- what is stated is said
pub stated-line : (line : List ℕ) (st : Statement) → is_passed line ≡ false → statement_of line ≡ Some st → Says line st
stated-line line st p h = by_word (first_or_none line) where
  by_word : ((words line ≡ []) × (first_word line ≡ [])) ⊎ HasWord line → Says line st
  by_word (inl n) = absurd (false≢true (sym p ∙ ap is_remark n.0))
  by_word (inr w) = stated-says line (w.b ∷ w.bs) (keyword_of (first_word line)) st w.all (subst (λ (x : List ℕ). KeywordSays (keyword_of (first_word line)) x) w.first (keyword_says (first_word line))) h

-- a line whose first word is known
record KnownWord (line : List ℕ) (word : List ℕ) (ws : List (List ℕ)) : Type 0 where
  first : first_word line ≡ word
  args : words (arguments line) ≡ ws

known_word : (line : List ℕ) (c : ℕ) (cs : List ℕ) (ws : List (List ℕ)) → words line ≡ (c ∷ cs) ∷ ws → KnownWord line (c ∷ cs) ws
known_word line c cs ws e = by_word (first_or_none line) where
  same_args : (w : HasWord line) → (w.b ∷ w.bs) ∷ words (arguments line) ≡ (c ∷ cs) ∷ ws → (w.b ∷ w.bs ≡ c ∷ cs) × (words (arguments line) ≡ ws)
  same_args w h = (cc, cc)

  by_word : ((words line ≡ []) × (first_word line ≡ [])) ⊎ HasWord line → KnownWord line (c ∷ cs) ws
  by_word (inl n) = let none : [] ≡ (c ∷ cs) ∷ ws = sym n.0 ∙ e in cc
  by_word (inr w) = let s = same_args w (sym w.all ∙ e) in record { first = w.first ∙ s.0; args = s.1 }

stated_by : (line word : List ℕ) (k : Keyword) (o : Option Statement) → first_word line ≡ word → keyword_of word ≡ k → statement_by k (arguments line) ≡ o → statement_of line ≡ o
stated_by line word k o w h e = ap (λ (k : Keyword). statement_by k (arguments line)) (ap keyword_of w ∙ h) ∙ e

item_stated : (t : Bool) (i : Item) → t ≡ false → (if t then None else Some (Holds i)) ≡ Some (Holds i)
item_stated t i e = ap (λ (t : Bool). if t then None else Some (Holds i)) e

no_arguments : (args : List ℕ) → skip_blanks args ≡ args → words args ≡ [] → nat_eq (length args) 0 ≡ true
no_arguments [] b e = refl
no_arguments (a ∷ as') b e = let more : words (a ∷ as') ≡ word_of (a ∷ as') ∷ words (skip_blanks (after_word (a ∷ as'))) = next_words (a ∷ as') b (omega arith) in cc

some_arguments : (args : List ℕ) → 0 < length (words args) → 0 < length args
some_arguments [] l = absurd (omega arith)
some_arguments (a ∷ as') l = omega arith

-- the key of an option, where its value is some
key_first : (args key : List ℕ) (more : List (List ℕ)) → skip_blanks args ≡ args → 0 < length args → words args ≡ key ∷ more → word_of args ≡ key
key_first args key more b l e = let w : words args ≡ word_of args ∷ words (skip_blanks (after_word args)) = next_words args b l in cc

-- what is said is stated
pub says-stated : (line : List ℕ) (st : Statement) → Says line st → (is_passed line ≡ false) × (statement_of line ≡ Some st)
unfolding keyword_of
says-stated line (Begins name) e =
    let w = known_word line 118 _ (name ∷ []) e in
    (ap is_remark e, stated_by line (codes "volume") keyword.Volume (Some (Begins name)) w.first refl (ap begins (one_word-of (arguments line) name (arguments-begin line) w.args)))
says-stated line (HasType type) e =
    let w = known_word line 116 _ (type ∷ []) e in
    (ap is_remark e, stated_by line (codes "type") keyword.Type (Some (HasType type)) w.first refl (ap has_type (one_word-of (arguments line) type (arguments-begin line) w.args)))
says-stated line (Holds (Sets key value)) e =
    let w = known_word line 111 _ (key ∷ e.0) e.1 in
    let l : 0 < length (trim (after_word (arguments line))) = omega (arith, e.3, ap length e.2) in
    let k = key_first (arguments line) key e.0 (arguments-begin line) (value_some (arguments line) l) w.args in (
      ap is_remark e.1,
      stated_by line (codes "option") keyword.Option (Some (Holds (Sets key value))) w.first refl
          (item_stated (nat_eq (length (trim (after_word (arguments line)))) 0) (Sets (word_of (arguments line)) (trim (after_word (arguments line)))) (test_some (trim (after_word (arguments line))) l)
          ∙ (ap (λ (x : List ℕ). Some (Holds (Sets x (trim (after_word (arguments line)))))) k ∙ ap (λ (x : List ℕ). Some (Holds (Sets key x))) e.2)),
    )
says-stated line (Holds (Names names)) e =
    let w = known_word line 115 _ names e.0 in
    let l : 0 < length (arguments line) = some_arguments (arguments line) (omega (arith, e.1, ap length w.args)) in (
      ap is_remark e.0,
      stated_by line (codes "subvolumes") keyword.Subvolumes (Some (Holds (Names names))) w.first refl
          (item_stated (nat_eq (length (arguments line)) 0) (Names (words (arguments line))) (test_some (arguments line) l) ∙ ap (λ (ws : List (List ℕ)). Some (Holds (Names ws))) w.args),
    )
says-stated line Ends e =
    let w = known_word line 101 _ [] e in
    (ap is_remark e, stated_by line (codes "end-volume") keyword.EndVolume (Some Ends) w.first refl (ap (λ (t : Bool). if t then Some Ends else None) (no_arguments (arguments line) (arguments-begin line) w.args)))

-- a line that makes a statement leads on by it
pub step-of : (f : Front) (line : List ℕ) (st : Statement) → Says line st → (is_passed line ≡ false) × (step f line ≡ lead f f.place st)
step-of f line st e =
    let p = says-stated line st e in
    (p.0, step-stated f line p.0 ∙ ap (lead_if f f.place) p.1)
