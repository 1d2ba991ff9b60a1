-- Parts of what holds of a whole log: at a front, and at its last entry.
use Rattle.std.proofs.Common.{◌≡◌, ℕ, Option, Some, List, [], ◌∷◌, ◌++◌, refl, sym, ◌∙◌, ap, subst, ⊎_elim}
use Rattle.ec_attr.specs.declared.geometry.Geometry.{Geometry}
use Rattle.ec_history.specs.Accounts.{Books, Leaving, booked, books}
use Rattle.ec_history.specs.Run.{Net, after as net_after, run}
use Rattle.ec_history.specs.Story.{Story, story, told}
use Rattle.ec_wire.specs.declared.entry.Entry.{Entry}
use Rattle.ec_wire.specs.declared.entry.Entry.TheVariants.{Called, Sent, Executed, Heard, Torn}
use Rattle.ec_wire.specs.declared.message.Body.TheVariants.{ToBrick}
use Rattle.ec_wire.specs.declared.message.Message.{Message}
use Rattle.ec_wire.specs.declared.request.Request.{Request}
use Rattle.ec_law_net.specs.Turns.{View, seen_after, view}
use Rattle.ec_law_pieces.specs.Deed.{Deed, after as after_deeds, step}
use Rattle.ec_law_pieces.specs.File.{File}
use Rattle.ec_law_calls.proofs.Fronts.{plain_front}
use Rattle.ec_law_turns.specs.Laws.{Always}
use Rattle.ec_law_turns.specs.Orderly.{ArePlain}
use Rattle.ec_law_turns.proofs.Basics.{put_some, some_is}
use Rattle.ec_law_turns.proofs.Steps.{executed_same, heard_same, torn_same}
use Rattle.ec_law_data.specs.Deeds.{all_deeds, deeds, file, file_after}
use Rattle.ec_law_data.specs.Reading.{Plans, Reading}
use Rattle.ec_law_files.specs.Laws.{AllMade, EntryMade, OwnMade}
use Rattle.ec_law_files.specs.Plans.{AreOn}
use Rattle.ec_law_files.specs.Stripes.{Making}
use Rattle.ec_law_plans.specs.Given.{BodyIs, EachRequest, EntryIs}
use Rattle.ec_law_plans.proofs.Windows.{RequestsOn}
use Rattle.ec_law_writes.specs.Owing.{AllOf}

pub append_none : (xs : List Entry) → xs ++ [] ≡ xs
append_none [] = refl
append_none (x ∷ xs) = ap (λ (ys : List Entry). x ∷ ys) (append_none xs)

pub one_more : (es : List Entry) (e : Entry) (rest : List Entry) → es ++ e ∷ rest ≡ (es ++ e ∷ []) ++ rest
one_more [] e rest = refl
one_more (x ∷ es) e rest = ap (λ (ys : List Entry). x ∷ ys) (one_more es e rest)

plain_rest : (es rest : List Entry) → ArePlain (es ++ rest) → ArePlain rest
plain_rest [] rest h = h
plain_rest (Called a client op ∷ es) rest h = plain_rest es rest h.1
plain_rest (e ∷ es) rest h = plain_rest es rest h

pub plain_one : (es : List Entry) (e : Entry) (rest : List Entry) → ArePlain (es ++ e ∷ rest) → ArePlain (e ∷ [])
plain_one es e rest h = plain_front (e ∷ []) rest (plain_rest es (e ∷ rest) h)

always_first : (law : Net → View → Type 0) (g : ℕ) (es : List Entry) (m : Net) (v : View) → Always law g es m v → law m v
always_first law g [] m v h = h
always_first law g (e ∷ es) m v h = h.0

pub always_front : (law : Net → View → Type 0) (g : ℕ) (es rest : List Entry) (m : Net) (v : View) → Always law g (es ++ rest) m v → Always law g es m v
always_front law g [] rest m v h = always_first law g rest m v h
always_front law g (e ∷ es) rest m v h = (h.0, always_front law g es rest (net_after m e) (seen_after g m v e) h.1)

-- ## Requests

pub each_front : (P : Request → Type 0) (es rest : List Entry) → EachRequest P (es ++ rest) → EachRequest P es
each_front P [] rest h = tt
each_front P (e ∷ es) rest h = (h.0, each_front P es rest h.1)

-- each request that was said is so
abbrev pub SaidAre : (Request → Type 0) → Net → Type 0
SaidAre P m = (i : ℕ) (x : Message) (q : Request) → m.said i ≡ Some x → x.body ≡ ToBrick q → P q

same_said : (P : Request → Type 0) (m x : Net) → x.said ≡ m.said → SaidAre P m → SaidAre P x
same_said P m x said h i y q is body = h i y q (sym (ap (λ (f : ℕ → Option Message). f i) said) ∙ is) body

said_entry : (P : Request → Type 0) (m : Net) (e : Entry) → EntryIs P e → SaidAre P m → SaidAre P (net_after m e)
said_entry P m (Sent msg) each h = λ i x q is body. ⊎_elim
    (λ z. let same = some_is msg x z.1 in subst (BodyIs P) (ap (λ (y : Message). y.body) same ∙ body) each)
    (λ z. h i x q z.1 body)
    (put_some m.said msg.no (Some msg) i x is)
said_entry P m (Executed i version failed) each h = same_said P m (net_after m (Executed i version failed)) (executed_same m (m.said i) version failed).0 h
said_entry P m (Heard i) each h = same_said P m (net_after m (Heard i)) (heard_same m (m.said i)).0 h
said_entry P m (Torn i count version) each h = same_said P m (net_after m (Torn i count version)) (torn_same m (m.said i) count version).0 h
said_entry P m e each h = h

pub said_are : (P : Request → Type 0) (es : List Entry) (m : Net) → EachRequest P es → SaidAre P m → SaidAre P (run es m)
said_are P [] m each h = h
said_are P (e ∷ es) m each h = said_are P es (net_after m e) each.1 (said_entry P m e each.0 h)

pub are_on : (g : ℕ) (qs : List Request) → RequestsOn g qs → AreOn g qs
are_on g [] h = tt
are_on g (q ∷ qs) h = (h.0, are_on g qs h.1)

-- ## What calls make

own_first : (makings : ℕ → Making) (geometry : Geometry) (left : ℕ → Leaving) (es : List Entry) (m : Net) (t : Story) (b : Books) → AllMade makings geometry left es m t b → OwnMade makings b
own_first makings geometry left [] m t b h = h
own_first makings geometry left (e ∷ es) m t b h = h.0

pub made_at : (makings : ℕ → Making) (geometry : Geometry) (left : ℕ → Leaving) (es : List Entry) (e : Entry) (rest : List Entry) (m : Net) (t : Story) (b : Books) → AllMade makings geometry left (es ++ e ∷ rest) m t b → EntryMade makings (books geometry left es m t b) e × OwnMade makings (booked geometry left (run es m) (story geometry es m t) (books geometry left es m t b) e)
made_at makings geometry left [] e rest m t b h = (h.1, own_first makings geometry left rest (net_after m e) (told geometry m t e) (booked geometry left m t b e) h.2)
made_at makings geometry left (x ∷ es) e rest m t b h = made_at makings geometry left es e rest (net_after m x) (told geometry m t x) (booked geometry left m t b x) h.2

-- ## The last entry

pub books_last : (geometry : Geometry) (left : ℕ → Leaving) (es : List Entry) (e : Entry) (m : Net) (t : Story) (b : Books) → books geometry left (es ++ e ∷ []) m t b ≡ booked geometry left (run es m) (story geometry es m t) (books geometry left es m t b) e
books_last geometry left [] e m t b = refl
books_last geometry left (x ∷ es) e m t b = books_last geometry left es e (net_after m x) (told geometry m t x) (booked geometry left m t b x)

module _ {P V C U S : Type 0} (R : Reading P V C U S) (plans : Plans P V U S) (n k g : ℕ) where
  -- what holds after an entry holds after the log with it
  pub after_last : (geometry : Geometry) (left : ℕ → Leaving) (Q : Net → View → Books → File P V C U S → Type 0) (e : Entry) (es : List Entry) (m : Net) (v : View) (t : Story) (b : Books) (f : File P V C U S)
      → Q (net_after (run es m) e) (seen_after g (run es m) (view g es m v) e) (booked geometry left (run es m) (story geometry es m t) (books geometry left es m t b) e) (file_after R plans n k g (run es m) (view g es m v) (file R plans n k g es m v f) e)
      → Q (run (es ++ e ∷ []) m) (view g (es ++ e ∷ []) m v) (books geometry left (es ++ e ∷ []) m t b) (file R plans n k g (es ++ e ∷ []) m v f)
  after_last geometry left Q e [] m v t b f h = h
  after_last geometry left Q e (x ∷ es) m v t b f h = after_last geometry left Q e es (net_after m x) (seen_after g m v x) (told geometry m t x) (booked geometry left m t b x) (file_after R plans n k g m v f x) h

  module _ (law : File P V C U S → Deed P V C U S → Type 0) where
    all_of_last : (xs ys : List (Deed P V C U S)) (f : File P V C U S) → AllOf R.form n k law (xs ++ ys) f → AllOf R.form n k law ys (after_deeds R.form n k xs f)
    all_of_last [] ys f h = h
    all_of_last (x ∷ xs) ys f h = all_of_last xs ys (step R.form n k f x) h.1

    all_of_first : (xs ys : List (Deed P V C U S)) (f : File P V C U S) → AllOf R.form n k law (xs ++ ys) f → AllOf R.form n k law xs f
    all_of_first [] ys f h = tt
    all_of_first (x ∷ xs) ys f h = (h.0, all_of_first xs ys (step R.form n k f x) h.1)

    -- the deeds of a log's last entry
    pub last_deeds : (e : Entry) (es : List Entry) (m : Net) (v : View) (f : File P V C U S) → AllOf R.form n k law (all_deeds R plans n k g (es ++ e ∷ []) m v f) f → AllOf R.form n k law (deeds R plans n k g (run es m) (view g es m v) (file R plans n k g es m v f) e) (file R plans n k g es m v f)
    last_deeds e [] m v f h = all_of_first (deeds R plans n k g m v f e) [] f h
    last_deeds e (x ∷ es) m v f h = last_deeds e es (net_after m x) (seen_after g m v x) (file_after R plans n k g m v f x) (all_of_last (deeds R plans n k g m v f x) (all_deeds R plans n k g (es ++ e ∷ []) (net_after m x) (seen_after g m v x) (file_after R plans n k g m v f x)) f h)
