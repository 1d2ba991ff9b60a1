-- What calls have at a front of a log, by the books of the whole, with the same leavings.
use Rattle.std.proofs.Common.{◌≡◌, ℕ, ◌+◌, ◌<◌, arith, Some, None, List, [], ◌∷◌, ◌++◌, refl, ◌∙◌, ap, subst}
use Rattle.ec_attr.specs.declared.config.Config.{Config}
use Rattle.ec_attr.specs.declared.geometry.Geometry.{Geometry}
use Rattle.ec_brick.specs.State.{State as Brick}
use Rattle.ec_conduct.specs.Account.{Account, after as account_after}
use Rattle.ec_conduct.specs.Conduct.{Keeps}
use Rattle.ec_conduct.specs.Given.{Given, quorum}
use Rattle.ec_conduct.specs.Opened.{opened}
use Rattle.ec_conduct.specs.Own.{Own}
use Rattle.ec_conduct.proofs.Fronts.{front_from}
use Rattle.ec_history.specs.Accounts.{Books, Leaving, booked, books, no_books}
use Rattle.ec_history.specs.Flat.{Tree}
use Rattle.ec_history.specs.IsRun.{IsRun}
use Rattle.ec_history.specs.Run.{Net, after as net_after, fresh, run}
use Rattle.ec_history.specs.Starts.{IsStart}
use Rattle.ec_history.specs.Story.{Story, opening, story, told}
use Rattle.ec_history.proofs.Runs.{rest as rest_runs}
use Rattle.ec_store.specs.Records.{Records}
use Rattle.ec_wire.specs.declared.entry.Entry.{Entry}
use Rattle.ec_wire.specs.declared.entry.Entry.TheVariants.{Called}
use Rattle.ec_law_net.proofs.Conducts.{log_grows}
use Rattle.ec_law_turns.specs.Follows.{Numbers}
use Rattle.ec_law_turns.specs.Orderly.{ArePlain, IsOrderly, KeepsOrder, OrderedFrom}
use Rattle.ec_law_turns.proofs.Numbered.{numbered}
use Rattle.ec_law_turns.proofs.Runs.{plain_first}
use Rattle.ec_law_data.proofs.Reaching.{reaches_start}
use Rattle.ec_law_plans.proofs.Saying.{given_last}

books_both : (geometry : Geometry) (left : ℕ → Leaving) (es fs : List Entry) (m : Net) (t : Story) (b : Books) → books geometry left (es ++ fs) m t b ≡ books geometry left fs (run es m) (story geometry es m t) (books geometry left es m t b)
books_both geometry left [] fs m t b = refl
books_both geometry left (e ∷ es) fs m t b = books_both geometry left es fs _ _ _

plain_rest : (es fs : List Entry) → ArePlain (es ++ fs) → ArePlain fs
plain_rest [] fs h = h
plain_rest (Called a client op ∷ es) fs h = plain_rest es fs h.1
plain_rest (e ∷ es) fs h = plain_rest es fs h

pub ordered_front : (c : Account) (xs ys : List Own) → OrderedFrom c (xs ++ ys) → OrderedFrom c xs
ordered_front c [] ys h = tt
ordered_front c (x ∷ xs) ys h = (h.0, ordered_front (account_after c x) xs ys h.1)

-- the numbers of calls and messages at a front
numbers_front : (geometry : Geometry) (left : ℕ → Leaving) → ((a : ℕ) → (left a).kept ≡ None) → (es rest : List Entry) (m : Net) (t : Story) (b : Books) → IsRun geometry.n (es ++ rest) m → ArePlain (es ++ rest) → Numbers geometry m.said m.owed m.calls m.asker b → Numbers geometry (run es m).said (run es m).owed (run es m).calls (run es m).asker (books geometry left es m t b)
numbers_front geometry left none [] rest m t b runs plain k = k
numbers_front geometry left none (e ∷ es) rest m t b runs plain k =
    let p = plain_first e (es ++ rest) plain in
    numbers_front geometry left none es rest (net_after m e) (told geometry m t e) (booked geometry left m t b e) runs.1 p.1 (numbered geometry left geometry.n m t b e none p.0 runs.0 k)

module _ (config : Config) (records : ℕ → Records) (bricks : ℕ → Brick) (tree : Tree) (next : ℕ) (start : IsStart config records bricks tree next) (left : ℕ → Leaving) (none : (a : ℕ) → (left a).kept ≡ None) (all : List Entry) (runs : IsRun config.geometry.n all (fresh bricks)) (plain : ArePlain all) where
  abbrev books_of : List Entry → Books
  books_of es = books config.geometry left es (fresh bricks) (opening tree next) no_books

  abbrev EachCall : (Given → List Own → Type 0) → List Entry → Type 0
  EachCall law es = (a : ℕ) (given : Given) → (books_of es).given a ≡ Some given → law given ((books_of es).own a)

  module _ (es rest : List Entry) (parts : all ≡ es ++ rest) where
    -- a law of the own entries of all calls is one of those that they have at a front, if it is one of their fronts
    pub at_front : (law : Given → List Own → Type 0) → ((given : Given) (xs ys : List Own) → law given (xs ++ ys) → law given xs) → EachCall law all → EachCall law es
    at_front law front holds a given e =
        let runs' = subst (λ (xs : List Entry). IsRun config.geometry.n xs (fresh bricks)) parts runs in
        let plain' = subst ArePlain parts plain in
        let both = books_both config.geometry left es rest (fresh bricks) (opening tree next) no_books in
        let more = log_grows config.geometry left rest (run es (fresh bricks)) (story config.geometry es (fresh bricks) (opening tree next)) (books_of es) a in
        let numbers = numbers_front config.geometry left none es rest (fresh bricks) (opening tree next) no_books runs' plain' ((reaches_start config records bricks tree next (λ a. a) most start).reached 0).known.numbers in
        let last = given_last config.geometry left none rest (run es (fresh bricks)) (story config.geometry es (fresh bricks) (opening tree next)) (books_of es) (rest_runs config.geometry.n es rest (fresh bricks) runs') (plain_rest es rest plain') numbers a given e in
        let whole = subst (λ (xs : List Entry). EachCall law xs) parts holds in
        front given ((books_of es).own a) more.0 (subst (law given) (ap (λ (b : Books). b.own a) both ∙ more.1) (whole a given (ap (λ (b : Books). b.given a) both ∙ last)))
      where
        most : config.geometry.n < quorum config.geometry + quorum config.geometry
        most = let h = config.geometry.majority in omega (arith, h)

    -- so a front is orderly, with the same leavings
    abbrev pub orderly_at : EachCall Keeps all → EachCall KeepsOrder all → IsOrderly config.geometry es (fresh bricks) (opening tree next)
    orderly_at conduct order = record {
      left = left;
      none_kept = none;
      conduct = at_front Keeps (λ given xs ys h. front_from (opened given) xs ys h) conduct;
      order = at_front KeepsOrder (λ given xs ys h. ordered_front (opened given) xs ys h) order;
    }
