-- Own entries of a longer log begin with those of a shorter one, and what keeps the conduct keeps it at each entry.
use Rattle.std.proofs.Common.{◌≡◌, ℕ, Bool, true, false, not, cond, ◌==◌, ◌&&◌, Option, Some, None, List, [], ◌∷◌, ◌++◌, refl, sym, ◌∙◌, ap, subst, arith}
use Rattle.std.proofs.lemmas.Bool.Decides.{nat_tests}
use Rattle.ec_attr.specs.declared.geometry.Geometry.{Geometry}
use Rattle.ec_conduct.specs.Account.{Account, account_from, after as account_after}
use Rattle.ec_conduct.specs.Conduct.{Keeps, KeepsFrom, May}
use Rattle.ec_conduct.specs.Opened.{opened}
use Rattle.ec_conduct.specs.Own.{Own, Sends, Hears, GivesUp, Answers}
use Rattle.ec_history.specs.Accounts.{Books, Leaving, booked, books, hears, hears_body, no_books, own_of, sender, sends, with_own}
use Rattle.ec_history.specs.Run.{Net, after, call_of, is_number, run}
use Rattle.ec_history.specs.Story.{Story, story, told}
use Rattle.ec_wire.specs.declared.entry.Entry.{Entry}
use Rattle.ec_wire.specs.declared.entry.Entry.TheVariants.{Called, Sent, Executed, Heard, Lost, GivenUp, Stopped, Returned, Cut, Died, Yielded, Torn, Answered, Replaced}
use Rattle.ec_wire.specs.declared.message.Body.{Body}
use Rattle.ec_wire.specs.declared.message.Body.TheVariants.{ToBrick, ToClient}
use Rattle.ec_wire.specs.declared.message.Message.{Message}
use Rattle.ec_wire.specs.declared.request.Request.{Request}
use Rattle.ec_law_net.specs.Conducts.{ConductLaws, MaySendThere}

-- own entries that go on
abbrev pub Grows : List Own → List Own → Type 0
Grows xs ys = (more : List Own) × (ys ≡ xs ++ more)

no_more : (xs : List Own) → xs ≡ xs ++ []
no_more [] = refl
no_more (x ∷ xs) = ap (λ (ys : List Own). x ∷ ys) (no_more xs)

same_own : (xs : List Own) → Grows xs xs
same_own xs = ([], no_more xs)

pub together : (xs ys zs : List Own) → (xs ++ ys) ++ zs ≡ xs ++ (ys ++ zs)
together [] ys zs = refl
together (x ∷ xs) ys zs = ap (λ (us : List Own). x ∷ us) (together xs ys zs)

further : (xs ys zs : List Own) → Grows xs ys → Grows ys zs → Grows xs zs
further xs ys zs f h = (f.0 ++ h.0, h.1 ∙ (ap (λ (us : List Own). us ++ h.0) f.1 ∙ together xs f.0 h.0))

one_more : (b : Books) (c : ℕ) (e : Own) (a : ℕ) → Grows (b.own a) ((with_own b c e).own a)
one_more b c e a = at (a == c) refl
  where
    at : (t : Bool) → (a == c) ≡ t → Grows (b.own a) (cond t (b.own c ++ e ∷ []) (b.own a))
    at true f = (e ∷ [], ap (λ (x : ℕ). b.own x ++ e ∷ []) (sym (equal a c f)))
      where
        equal : (x y : ℕ) → (x == y) ≡ true → x ≡ y
        equal x y h = grind (arith, nat_tests)
    at false f = same_own (b.own a)

of_somebody : (b : Books) (o : Option ℕ) (e : Own) (a : ℕ) → Grows (b.own a) ((own_of b o e).own a)
of_somebody b None e a = same_own (b.own a)
of_somebody b (Some c) e a = one_more b c e a

sends_grow : (m : Net) (b : Books) (msg : Message) (body : Body) (a : ℕ) → Grows (b.own a) ((sends m b msg body).own a)
sends_grow m b msg (ToBrick q) a = of_somebody b (sender m b msg q) (Sends msg.brick msg.no q) a
sends_grow m b msg (ToClient re reply) a = same_own (b.own a)

hears_grow : (m : Net) (b : Books) (o : Option Message) (a : ℕ) → Grows (b.own a) ((hears m b o).own a)
hears_grow m b None a = same_own (b.own a)
hears_grow m b (Some msg) a = by_body msg.body
  where
    by_body : (body : Body) → Grows (b.own a) ((hears_body m b msg body).own a)
    by_body (ToBrick q) = same_own (b.own a)
    by_body (ToClient re reply) = at (is_number re (m.awaits msg.call msg.brick) && not (m.answered msg.call))
      where
        at : (t : Bool) → Grows (b.own a) ((cond t (with_own b msg.call (Hears msg.brick re reply)) b).own a)
        at true = one_more b msg.call (Hears msg.brick re reply) a
        at false = same_own (b.own a)

entry_grows : (geometry : Geometry) (left : ℕ → Leaving) (m : Net) (t : Story) (b : Books) (e : Entry) (a : ℕ) → Grows (b.own a) ((booked geometry left m t b e).own a)
entry_grows geometry left m t b (Called c client op) a = same_own (b.own a)
entry_grows geometry left m t b (Sent msg) a = sends_grow m b msg msg.body a
entry_grows geometry left m t b (Executed i version failed) a = same_own (b.own a)
entry_grows geometry left m t b (Heard i) a = hears_grow m b (m.said i) a
entry_grows geometry left m t b (Lost i) a = same_own (b.own a)
entry_grows geometry left m t b (GivenUp client brick i) a = one_more b (call_of (m.said i)) (GivesUp brick i) a
entry_grows geometry left m t b (Stopped x) a = same_own (b.own a)
entry_grows geometry left m t b (Returned x) a = same_own (b.own a)
entry_grows geometry left m t b (Cut client x) a = same_own (b.own a)
entry_grows geometry left m t b (Died client) a = same_own (b.own a)
entry_grows geometry left m t b (Yielded client) a = same_own (b.own a)
entry_grows geometry left m t b (Torn i bytes version) a = same_own (b.own a)
entry_grows geometry left m t b (Answered c answer) a = one_more b c (Answers answer) a
entry_grows geometry left m t b (Replaced x removed all) a = same_own (b.own a)

pub log_grows : (geometry : Geometry) (left : ℕ → Leaving) (es : List Entry) (m : Net) (t : Story) (b : Books) (a : ℕ) → Grows (b.own a) ((books geometry left es m t b).own a)
log_grows geometry left [] m t b a = same_own (b.own a)
log_grows geometry left (e ∷ es) m t b a = further (b.own a) ((booked geometry left m t b e).own a) ((books geometry left (e ∷ es) m t b).own a) (entry_grows geometry left m t b e a) (log_grows geometry left es (after m e) (told geometry m t e) (booked geometry left m t b e) a)

books_both : (geometry : Geometry) (left : ℕ → Leaving) (es fs : List Entry) (m : Net) (t : Story) (b : Books) → books geometry left (es ++ fs) m t b ≡ books geometry left fs (run es m) (story geometry es m t) (books geometry left es m t b)
books_both geometry left [] fs m t b = refl
books_both geometry left (e ∷ es) fs m t b = books_both geometry left es fs (after m e) (told geometry m t e) (booked geometry left m t b e)

-- what keeps the conduct keeps it where an entry comes
pub keeps_there : (c : Account) (xs : List Own) (e : Own) (ys : List Own) → KeepsFrom c (xs ++ e ∷ ys) → May (account_from c xs) e
keeps_there c [] e ys h = h.0
keeps_there c (x ∷ xs) e ys h = keeps_there (account_after c x) xs e ys h.1

pub sent_own : (m : Net) (b : Books) (msg : Message) (q : Request) (body : Body) (a : ℕ) → body ≡ ToBrick q → sender m b msg q ≡ Some a → (sends m b msg body).own a ≡ b.own a ++ Sends msg.brick msg.no q ∷ []
sent_own m b msg q body a is by = subst (λ (z : Body). (sends m b msg z).own a ≡ b.own a ++ Sends msg.brick msg.no q ∷ []) (sym is) (subst (λ (o : Option ℕ). (own_of b o (Sends msg.brick msg.no q)).own a ≡ b.own a ++ Sends msg.brick msg.no q ∷ []) (sym by) (at (a == a) (itself a)))
  where
    itself : (x : ℕ) → (x == x) ≡ true
    itself x = grind (arith, nat_tests)

    at : (t : Bool) → t ≡ true → cond t (b.own a ++ Sends msg.brick msg.no q ∷ []) (b.own a) ≡ b.own a ++ Sends msg.brick msg.no q ∷ []
    at true e = refl
    at false e = absurd (cc)

may_send : MaySendThere
may_send geometry left es more m t msg q a given is by keeps =
    let b = books geometry left es m t no_books in
    let m' = run es m in
    let s = story geometry es m t in
    let next = booked geometry left m' s b (Sent msg) in
    let rest = log_grows geometry left more (after m' (Sent msg)) (told geometry m' s (Sent msg)) next a in
    let own = ap (λ (x : Books). x.own a) (books_both geometry left es (Sent msg ∷ more) m t no_books) ∙ (rest.1 ∙ (ap (λ (xs : List Own). xs ++ rest.0) (sent_own m' b msg q msg.body a is by) ∙ together (b.own a) (Sends msg.brick msg.no q ∷ []) rest.0)) in
    keeps_there (opened given) (b.own a) (Sends msg.brick msg.no q) rest.0 (subst (Keeps given) own keeps)

pub laws : ConductLaws
laws = record { may_send = may_send }
