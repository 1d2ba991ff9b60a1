-- A front of a log in which each call keeps the conduct in order is such a log.
use Rattle.std.proofs.Common.{◌≡◌, ℕ, ◌≤◌, Bool, true, false, not, cond, ◌&&◌, refl, sym, ◌∙◌, ap, subst, arith, List, [], ◌∷◌, ◌++◌, Option, Some, None, ⊎_elim}
use Rattle.ec_attr.specs.declared.geometry.Geometry.{Geometry}
use Rattle.ec_wire.specs.declared.entry.Entry.{Entry}
use Rattle.ec_wire.specs.declared.entry.Entry.TheVariants.{Called, Sent, Heard}
use Rattle.ec_wire.specs.declared.message.Body.{Body}
use Rattle.ec_wire.specs.declared.message.Body.TheVariants.{ToBrick, ToClient}
use Rattle.ec_wire.specs.declared.message.Message.{Message}
use Rattle.ec_conduct.specs.Account.{Account, after as account_after}
use Rattle.ec_conduct.specs.Conduct.{Keeps}
use Rattle.ec_conduct.specs.Given.{Given}
use Rattle.ec_conduct.specs.Opened.{opened}
use Rattle.ec_conduct.specs.Own.{Own, Hears, Sends}
use Rattle.ec_conduct.proofs.Fronts.{front_from}
use Rattle.ec_history.specs.Accounts.{Books, Leaving, booked, books, given_to, hears, hears_body, no_books, own_of, sender, sends, with_own}
use Rattle.ec_history.specs.IsRun.{IsRun, May}
use Rattle.ec_history.specs.Run.{Net, after, is_number, run}
use Rattle.ec_history.specs.Story.{Story, story, told}
use Rattle.ec_history.proofs.Runs.{front, rest}
use Rattle.ec_law_net.proofs.Conducts.{log_grows}
use Rattle.ec_law_turns.specs.Orderly.{ArePlain, IsOrderly, KeepsOrder, OrderedFrom}
use Rattle.ec_law_turns.proofs.Basics.{put_some, put_there}
use Rattle.ec_law_calls.proofs.Callers.{stays}

-- ## What calls began with stays

-- only calls that were made began with something
abbrev Below : Net → Books → Type 0
Below m b = (a : ℕ) (given : Given) → b.given a ≡ Some given → a ≤ m.calls

abbrev GivenStays : Net → Books → Books → Type 0
GivenStays k b c = ((a : ℕ) (given : Given) → b.given a ≡ Some given → c.given a ≡ Some given) × Below k c

sent_given : (m : Net) (b : Books) (msg : Message) (z : Body) → (sends m b msg z).given ≡ b.given
sent_given m b msg (ToClient re reply) = refl
sent_given m b msg (ToBrick q) = at (sender m b msg q)
  where
    at : (o : Option ℕ) → (own_of b o (Sends msg.brick msg.no q)).given ≡ b.given
    at None = refl
    at (Some a) = refl

heard_given : (m : Net) (b : Books) (o : Option Message) → (hears m b o).given ≡ b.given
heard_given m b None = refl
heard_given m b (Some msg) = by_body msg.body
  where
    by_body : (z : Body) → (hears_body m b msg z).given ≡ b.given
    by_body (ToBrick q) = refl
    by_body (ToClient re reply) = at (is_number re (m.awaits msg.call msg.brick) && not (m.answered msg.call))
      where
        at : (t : Bool) → (cond t (with_own b msg.call (Hears msg.brick re reply)) b).given ≡ b.given
        at true = refl
        at false = refl

module _ (geometry : Geometry) (left : ℕ → Leaving) where
  same_given : (m k : Net) (b c : Books) → c.given ≡ b.given → m.calls ≤ k.calls → Below m b → GivenStays k b c
  same_given m k b c same grows below = (
    λ a given e. ap (λ (f : ℕ → Option Given). f a) same ∙ e,
    λ a given e. let le = below a given (sym (ap (λ (f : ℕ → Option Given). f a) same) ∙ e) in omega (arith, le, grows),
  )

  entry_given : (m : Net) (t : Story) (b : Books) (e : Entry) → May geometry.n m e → Below m b → GivenStays (after m e) b (booked geometry left m t b e)
  entry_given m t b (Called x client op) may below = (
    λ a given e. put_there b.given x (Some (given_to geometry t b client op)) a (λ z. let le = below a given e in let n = may.0 in omega (arith, z, le, n)) ∙ e,
    λ a given e. ⊎_elim (λ z. (let same = z.0 in omega (arith, same))) (λ z. (let le = below a given z.1 in let n = may.0 in omega (arith, le, n))) (put_some b.given x (Some (given_to geometry t b client op)) a given e),
  )
  entry_given m t b (Sent msg) may below = same_given m (after m (Sent msg)) b (booked geometry left m t b (Sent msg)) (sent_given m b msg msg.body) (stays geometry.n m (Sent msg) may).grows below
  entry_given m t b (Heard i) may below = same_given m (after m (Heard i)) b (booked geometry left m t b (Heard i)) (heard_given m b (m.said i)) (stays geometry.n m (Heard i) may).grows below
  entry_given m t b e may below = same_given m (after m e) b (booked geometry left m t b e) refl (stays geometry.n m e may).grows below

  log_given : (es : List Entry) (m : Net) (t : Story) (b : Books) → IsRun geometry.n es m → Below m b → GivenStays (run es m) b (books geometry left es m t b)
  log_given [] m t b runs below = (λ a given e. e, below)
  log_given (e ∷ es) m t b runs below =
      let first = entry_given m t b e runs.0 below in
      let more = log_given es (after m e) (told geometry m t e) (booked geometry left m t b e) runs.1 first.1 in
      (λ a given h. more.0 a given (first.0 a given h), more.1)

  books_both : (es fs : List Entry) (m : Net) (t : Story) (b : Books) → books geometry left (es ++ fs) m t b ≡ books geometry left fs (run es m) (story geometry es m t) (books geometry left es m t b)
  books_both [] fs m t b = refl
  books_both (e ∷ es) fs m t b = books_both es fs (after m e) (told geometry m t e) (booked geometry left m t b e)

-- ## Fronts

ordered_front : (c : Account) (xs ys : List Own) → OrderedFrom c (xs ++ ys) → OrderedFrom c xs
ordered_front c [] ys h = tt
ordered_front c (x ∷ xs) ys h = (h.0, ordered_front (account_after c x) xs ys h.1)

pub plain_front : (es fs : List Entry) → ArePlain (es ++ fs) → ArePlain es
plain_front [] fs h = tt
plain_front (Called a client op ∷ es) fs h = (h.0, plain_front es fs h.1)
plain_front (e ∷ es) fs h = plain_front es fs h

none_given : (m : Net) → Below m no_books
none_given m a given e = absurd (let x : None ≡ Some given = e in cc)

pub orderly_front : (geometry : Geometry) (es fs : List Entry) (m : Net) (t : Story) → IsRun geometry.n (es ++ fs) m → IsOrderly geometry (es ++ fs) m t → IsOrderly geometry es m t
orderly_front geometry es fs m t runs o = record {
  left = o.left;
  none_kept = o.none_kept;
  conduct = λ a given e. front_from (opened given) (early.own a) (grown a).0 (subst (Keeps given) (own a) (o.conduct a given (whole a given e)));
  order = λ a given e. ordered_front (opened given) (early.own a) (grown a).0 (subst (KeepsOrder given) (own a) (o.order a given (whole a given e)));
}
  where
    early : Books
    early = books geometry o.left es m t no_books

    all : books geometry o.left (es ++ fs) m t no_books ≡ books geometry o.left fs (run es m) (story geometry es m t) early
    all = books_both geometry o.left es fs m t no_books

    begun : GivenStays (run es m) no_books early
    begun = log_given geometry o.left es m t no_books (front geometry.n es fs m runs) (none_given m)

    later : GivenStays (run fs (run es m)) early (books geometry o.left fs (run es m) (story geometry es m t) early)
    later = log_given geometry o.left fs (run es m) (story geometry es m t) early (rest geometry.n es fs m runs) begun.1

    whole : (a : ℕ) (given : Given) → early.given a ≡ Some given → (books geometry o.left (es ++ fs) m t no_books).given a ≡ Some given
    whole a given e = ap (λ (b : Books). b.given a) all ∙ later.0 a given e

    grown : (a : ℕ) → (more : List Own) × ((books geometry o.left fs (run es m) (story geometry es m t) early).own a ≡ early.own a ++ more)
    grown a = log_grows geometry o.left fs (run es m) (story geometry es m t) early a

    own : (a : ℕ) → (books geometry o.left (es ++ fs) m t no_books).own a ≡ early.own a ++ (grown a).0
    own a = ap (λ (b : Books). b.own a) all ∙ (grown a).1
