-- What holds of the own entries of each call of a log holds of each request as it goes out.
use Rattle.std.proofs.Common.{◌≡◌, ℕ, ◌≤◌, Bool, true, false, not, cond, ◌&&◌, refl, sym, ◌∙◌, ap, subst, arith, List, [], ◌∷◌, ◌++◌, Option, Some, None, ⊎_elim}
use Rattle.ec_attr.specs.declared.geometry.Geometry.{Geometry}
use Rattle.ec_attr.specs.declared.kind.Kind.TheVariants.{File}
use Rattle.ec_brick.specs.Work.{new_head}
use Rattle.ec_conduct.specs.Account.{Account, account_from, after as account_after}
use Rattle.ec_conduct.specs.Given.{Given}
use Rattle.ec_conduct.specs.Opened.{account, opened}
use Rattle.ec_conduct.specs.Own.{Own, Sends, Hears, GivesUp, Answers}
use Rattle.ec_history.specs.Accounts.{Books, Leaving, booked, books, given_to, hears, hears_body, own_of, sender, sends, with_own}
use Rattle.ec_history.specs.IsRun.{IsRun, May}
use Rattle.ec_history.specs.Run.{Net, after, is_number}
use Rattle.ec_history.specs.Story.{Story, told}
use Rattle.ec_wire.specs.declared.entry.Entry.{Entry}
use Rattle.ec_wire.specs.declared.entry.Entry.TheVariants.{Called, Sent, Heard}
use Rattle.ec_wire.specs.declared.message.Body.{Body}
use Rattle.ec_wire.specs.declared.message.Body.TheVariants.{ToBrick, ToClient}
use Rattle.ec_wire.specs.declared.message.Message.{Message}
use Rattle.ec_wire.specs.declared.request.Request.{Request}
use Rattle.ec_wire.specs.declared.request.Request.TheVariants.{Release}
use Rattle.ec_law_net.proofs.Conducts.{log_grows, sent_own, together}
use Rattle.ec_law_turns.proofs.Basics.{put_some, put_there}
use Rattle.ec_law_calls.proofs.Callers.{stays}
use Rattle.ec_law_files.specs.Laws.{AllMade, BodyMade, EntryMade, OwnMade}
use Rattle.ec_law_files.specs.Stripes.{EachSent, IsMade, IsOwn, Making}

-- what holds of each request that own entries send holds of one of them
pub sent_there : (P : Account → ℕ → Request → Type 0) (c : Account) (xs : List Own) (b i : ℕ) (r : Request) (ys : List Own) → EachSent P c (xs ++ Sends b i r ∷ ys) → P (account_from c xs) b r
sent_there P c [] b i r ys h = h.0
sent_there P c (Sends x j q ∷ xs) b i r ys h = sent_there P (account_after c (Sends x j q)) xs b i r ys h.1
sent_there P c (Hears x j reply ∷ xs) b i r ys h = sent_there P (account_after c (Hears x j reply)) xs b i r ys h
sent_there P c (GivesUp x j ∷ xs) b i r ys h = sent_there P (account_after c (GivesUp x j)) xs b i r ys h
sent_there P c (Answers answer ∷ xs) b i r ys h = sent_there P (account_after c (Answers answer)) xs b i r ys h

-- and of those of a front
sent_front : (P : Account → ℕ → Request → Type 0) (c : Account) (xs ys : List Own) → EachSent P c (xs ++ ys) → EachSent P c xs
sent_front P c [] ys h = tt
sent_front P c (Sends x j q ∷ xs) ys h = (h.0, sent_front P (account_after c (Sends x j q)) xs ys h.1)
sent_front P c (Hears x j reply ∷ xs) ys h = sent_front P (account_after c (Hears x j reply)) xs ys h
sent_front P c (GivesUp x j ∷ xs) ys h = sent_front P (account_after c (GivesUp x j)) xs ys h
sent_front P c (Answers answer ∷ xs) ys h = sent_front P (account_after c (Answers answer)) xs ys h

-- ## What calls began with stays

-- only calls that were made began with something
abbrev pub Below : Net → Books → Type 0
Below m b = (a : ℕ) (given : Given) → b.given a ≡ Some given → a ≤ m.calls

abbrev GivenStays : Net → Books → Books → Type 0
GivenStays k b c = ((a : ℕ) (given : Given) → b.given a ≡ Some given → c.given a ≡ Some given) × Below k c

sent_given : (m : Net) (b : Books) (msg : Message) (z : Body) → (sends m b msg z).given ≡ b.given
sent_given m b msg (ToClient re reply) = refl
sent_given m b msg (ToBrick q) = at (sender m b msg q)
  where
    at : (o : Option ℕ) → (own_of b o (Sends msg.brick msg.no q)).given ≡ b.given
    at None = refl
    at (Some a) = refl

heard_given : (m : Net) (b : Books) (o : Option Message) → (hears m b o).given ≡ b.given
heard_given m b None = refl
heard_given m b (Some msg) = by_body msg.body
  where
    by_body : (z : Body) → (hears_body m b msg z).given ≡ b.given
    by_body (ToBrick q) = refl
    by_body (ToClient re reply) = at (is_number re (m.awaits msg.call msg.brick) && not (m.answered msg.call))
      where
        at : (t : Bool) → (cond t (with_own b msg.call (Hears msg.brick re reply)) b).given ≡ b.given
        at true = refl
        at false = refl

module _ (geometry : Geometry) (left : ℕ → Leaving) where
  same_given : (m k : Net) (b c : Books) → c.given ≡ b.given → m.calls ≤ k.calls → Below m b → GivenStays k b c
  same_given m k b c same grows below = (
    λ a given e. ap (λ (f : ℕ → Option Given). f a) same ∙ e,
    λ a given e. let le = below a given (sym (ap (λ (f : ℕ → Option Given). f a) same) ∙ e) in omega (arith, le, grows),
  )

  entry_given : (m : Net) (t : Story) (b : Books) (e : Entry) → May geometry.n m e → Below m b → GivenStays (after m e) b (booked geometry left m t b e)
  entry_given m t b (Called x client op) may below = (
    λ a given e. put_there b.given x (Some (given_to geometry t b client op)) a (λ z. let le = below a given e in let n = may.0 in omega (arith, z, le, n)) ∙ e,
    λ a given e. ⊎_elim (λ z. (let same = z.0 in omega (arith, same))) (λ z. (let le = below a given z.1 in let n = may.0 in omega (arith, le, n))) (put_some b.given x (Some (given_to geometry t b client op)) a given e),
  )
  entry_given m t b (Sent msg) may below = same_given m (after m (Sent msg)) b (booked geometry left m t b (Sent msg)) (sent_given m b msg msg.body) (stays geometry.n m (Sent msg) may).grows below
  entry_given m t b (Heard i) may below = same_given m (after m (Heard i)) b (booked geometry left m t b (Heard i)) (heard_given m b (m.said i)) (stays geometry.n m (Heard i) may).grows below
  entry_given m t b e may below = same_given m (after m e) b (booked geometry left m t b e) refl (stays geometry.n m e may).grows below

  log_given : (es : List Entry) (m : Net) (t : Story) (b : Books) → IsRun geometry.n es m → Below m b → (a : ℕ) (given : Given) → b.given a ≡ Some given → (books geometry left es m t b).given a ≡ Some given
  log_given [] m t b runs below a given e = e
  log_given (e ∷ es) m t b runs below a given h =
      let first = entry_given m t b e runs.0 below in
      log_given es (after m e) (told geometry m t e) (booked geometry left m t b e) runs.1 first.1 a given (first.0 a given h)

  -- ## One making for each call

  -- what holds of each call that began, by its own entries in the whole log
  abbrev Made : (ℕ → Making) → Books → Type 0
  Made makings last = (a : ℕ) (given : Given) → last.given a ≡ Some given → EachSent (IsOwn (makings a)) (opened given) (last.own a)

  some_same : (x y : Given) → Some x ≡ Some y → x ≡ y
  some_same x y e = cc

  none_some : (x : Given) → None ≡ Some x → ⊥
  none_some x e = cc

  pub makings_of : (last : Books) → ((a : ℕ) (given : Given) → last.given a ≡ Some given → IsMade given (last.own a)) → (makings : ℕ → Making) × Made makings last
  makings_of last each = (λ a. (choice a (last.given a) refl).0, λ a given e. (choice a (last.given a) refl).1 given e)
    where
      choice : (a : ℕ) (o : Option Given) → last.given a ≡ o → (w : Making) × ((given : Given) → last.given a ≡ Some given → EachSent (IsOwn w) (opened given) (last.own a))
      choice a None is = (record { head = new_head (record { geometry = geometry }) File; stripe = λ s. [] }, λ given e. absurd (none_some given (sym is ∙ e)))
      choice a (Some x) is = let w = each a x is in (w.0, λ given e. subst (λ (v : Given). EachSent (IsOwn w.0) (opened v) (last.own a)) (some_same x given (sym is ∙ e)) w.1)

  module _ (makings : ℕ → Making) where
    entry_made : (e : Entry) (es : List Entry) (m : Net) (t : Story) (b : Books) → IsRun geometry.n (e ∷ es) m → Below m b → Made makings (books geometry left (e ∷ es) m t b) → EntryMade makings b e
    entry_made (Sent msg) es m t b runs below made = by_body msg.body refl
      where
        own_there : (q : Request) → msg.body ≡ ToBrick q → sender m b msg q ≡ Some msg.call → (given : Given) → b.given msg.call ≡ Some given → IsOwn (makings msg.call) (account given (b.own msg.call)) msg.brick q
        own_there q e mine given h =
            let all = made msg.call given (log_given (Sent msg ∷ es) m t b runs below msg.call given h) in
            let rest = log_grows geometry left es (after m (Sent msg)) (told geometry m t (Sent msg)) (booked geometry left m t b (Sent msg)) msg.call in
            let own = rest.1 ∙ (ap (λ (xs : List Own). xs ++ rest.0) (sent_own m b msg q msg.body msg.call e mine) ∙ together (b.own msg.call) (Sends msg.brick msg.no q ∷ []) rest.0) in
            sent_there (IsOwn (makings msg.call)) (opened given) (b.own msg.call) msg.brick msg.no q rest.0 (subst (EachSent (IsOwn (makings msg.call)) (opened given)) own all)

        by_body : (z : Body) → msg.body ≡ z → BodyMade makings b msg z
        by_body (ToClient re reply) e = tt
        by_body (ToBrick (Release x n)) e = λ given h. tt
        by_body (ToBrick q) e = λ given h. own_there q e refl given h
    entry_made e es m t b runs below made = tt

    own_now : (es : List Entry) (m : Net) (t : Story) (b : Books) → IsRun geometry.n es m → Below m b → Made makings (books geometry left es m t b) → OwnMade makings b
    own_now es m t b runs below made a given h =
        let rest = log_grows geometry left es m t b a in
        sent_front (IsOwn (makings a)) (opened given) (b.own a) rest.0 (subst (EachSent (IsOwn (makings a)) (opened given)) rest.1 (made a given (log_given es m t b runs below a given h)))

    pub all_made : (es : List Entry) (m : Net) (t : Story) (b : Books) → IsRun geometry.n es m → Below m b → Made makings (books geometry left es m t b) → AllMade makings geometry left es m t b
    all_made [] m t b runs below made = made
    all_made (e ∷ es) m t b runs below made = (own_now (e ∷ es) m t b runs below made, entry_made e es m t b runs below made, all_made es (after m e) (told geometry m t e) (booked geometry left m t b e) runs.1 (entry_given m t b e runs.0 below).1 made)

    first_made : (es : List Entry) (m : Net) (t : Story) (b : Books) → AllMade makings geometry left es m t b → OwnMade makings b
    first_made [] m t b h = h
    first_made (e ∷ es) m t b h = h.0

    pub made_front : (es fs : List Entry) (m : Net) (t : Story) (b : Books) → AllMade makings geometry left (es ++ fs) m t b → AllMade makings geometry left es m t b
    made_front [] fs m t b h = first_made fs m t b h
    made_front (e ∷ es) fs m t b h = (h.0, h.1, made_front es fs (after m e) (told geometry m t e) (booked geometry left m t b e) h.2)
