-- A call that was answered that it changed a gfid has committed there.
use Rattle.std.proofs.Common.{◌≡◌, ℕ, ◌-◌, ◌^◌, ◌≤◌, Bool, true, false, refl, sym, ◌∙◌, ap, subst, arith, List, [], ◌∷◌, ◌++◌, Option, Some, None, ⊎_elim}
use Rattle.ec_attr.proofs.Sets.{part}
use Rattle.ec_attr.specs.declared.geometry.Geometry.{Geometry}
use Rattle.ec_calls.specs.declared.any.AnyCall.{AnyCall}
use Rattle.ec_conduct.specs.Account.{Account}
use Rattle.ec_conduct.specs.Children.{IsPosted}
use Rattle.ec_conduct.specs.Conduct.{IsEarned, Keeps}
use Rattle.ec_conduct.specs.Given.{Given, quorum}
use Rattle.ec_conduct.specs.Opened.{account, opened}
use Rattle.ec_conduct.specs.Own.{Answers, Own}
use Rattle.ec_history.specs.Accounts.{Books, Leaving, booked, books, given_to, no_books}
use Rattle.ec_history.specs.Run.{Net, after, call_of, fresh, run}
use Rattle.ec_history.specs.Story.{Story, opening, story, told}
use Rattle.ec_txn.specs.declared.ctx.Ctx.{Ctx}
use Rattle.ec_wire.specs.declared.answer.Answer.{Answer}
use Rattle.ec_wire.specs.declared.answer.Answer.TheVariants.{Attr, Child, Gone, Settled, Size}
use Rattle.ec_wire.specs.declared.entry.Entry.{Entry}
use Rattle.ec_wire.specs.declared.entry.Entry.TheVariants.{Answered, Called}
use Rattle.ec_wire.specs.declared.message.Message.{Message}
use Rattle.ec_wire.specs.declared.op.Op.{Op}
use Rattle.ec_wire.specs.declared.op.Op.TheVariants.{Write, Truncate, Create, Mkdir, Unlink, SetAttr, Rename, Rmdir, Scrub}
use Rattle.ec_law_ballots.specs.Guard.{IsCommitted}
use Rattle.ec_law_net.specs.Start.{first_view}
use Rattle.ec_law_net.specs.Turns.{View, seen_after, view}
use Rattle.ec_law_net.proofs.Conducts.{keeps_there, log_grows, together}
use Rattle.ec_law_turns.proofs.Allowed.{account_given}
use Rattle.ec_law_turns.proofs.Basics.{put_here}
use Rattle.ec_law_turns.proofs.Origins.{unversioned}
use Rattle.ec_law_calls.specs.World.{WorldLaws}
use Rattle.ec_law_answers.specs.Answered.{CommitsBetween, SaysChanged, until}
use Rattle.ec_law_answers.specs.Laws.{AnswerLaws, AnsweredAfterCommit}
use Rattle.ec_law_answers.proofs.Committed.{is_committed}
use Rattle.ec_law_answers.proofs.Reaching.{IsAt, Stays, all_stays, begins, goes_on, next_at}

-- Such an answer is earned by a commit.
earned : (c : Account) (op : Op) (answer : Answer) (g : ℕ) → IsEarned c op answer → SaysChanged op answer g → IsPosted c g
earned c (Write h off bytes) (Size size) g e says = subst (IsPosted c) says.1 (e says.0)
earned c (Truncate h to) (Size size) g e says = subst (IsPosted c) says e
earned c (Create h name) (Child child) g e says = subst (IsPosted c) says e
earned c (Mkdir h name) (Child child) g e says = subst (IsPosted c) says e
earned c (Unlink h name) Gone g e says = subst (IsPosted c) says e
earned c (Rmdir h name) Gone g e says = subst (IsPosted c) says e
earned c (Rename old name new to) (Child child) g e says = ⊎_elim (λ z. subst (IsPosted c) z e.0) (λ z. subst (IsPosted c) z e.1) says
earned c (SetAttr h attr) (Attr now) g e says = subst (IsPosted c) says e
earned c (Scrub h settle) (Settled seen bad) g e says = subst (IsPosted c) says e
earned c op answer g e says = absurd says

-- the view after the entries of two parts
view_both : (g : ℕ) (es fs : List Entry) (m : Net) (v : View) → view g (es ++ fs) m v ≡ view g fs (run es m) (view g es m v)
view_both g [] fs m v = refl
view_both g (e ∷ es) fs m v = view_both g es fs (after m e) (seen_after g m v e)

module _ (geometry : Geometry) (left : ℕ → Leaving) (none : (a : ℕ) → (left a).kept ≡ None) (first : ℕ) (origins : ℕ → ℕ) (new : (h : ℕ) → first ≤ h → origins h ≡ 0) where
  abbrev At : List Entry → Net → (ℕ → View) → Story → Books → Type 0
  At es m vs t b = IsAt geometry left none first origins new es m vs t b

  -- as a call is answered it may give this answer
  answered : (a : ℕ) (answer : Answer) (es : List Entry) (m : Net) (vs : ℕ → View) (t : Story) (b : Books) (given : Given) → b.given a ≡ Some given → At (Answered a answer ∷ es) m vs t b → IsEarned (account given (b.own a)) given.op answer
  answered a answer es m vs t b given begun h =
      let e : Entry = Answered a answer in
      let last = (all_stays geometry left none first origins new (Answered a answer ∷ es) m vs t b h).given a given begun in
      let rest = log_grows geometry left es (after m e) (told geometry m t e) (booked geometry left m t b e) a in
      let own = rest.1 ∙ (ap (λ (xs : List Own). xs ++ rest.0) (put_here b.own a (b.own a ++ Answers answer ∷ []) a refl) ∙ together (b.own a) (Answers answer ∷ []) rest.0) in
      let keeps = subst (Keeps given) own (h.kept a given last).0 in
      subst (λ (y : Given). IsEarned (account given (b.own a)) y.op answer) (account_given given (b.own a)) (keeps_there (opened given) (b.own a) (Answers answer) rest.0 keeps).1

  module _ (g a client : ℕ) (op : Op) (answer : Answer) (says : SaysChanged op answer g) (earlier between since : List Entry) (m : Net) (vs : ℕ → View) (t : Story) (b : Books) (h : At (earlier ++ Called a client op ∷ (between ++ Answered a answer ∷ since)) m vs t b) where
    -- as the call is made
    abbrev net_called : Net
    net_called = run earlier m

    abbrev views_called : ℕ → View
    views_called x = view x earlier m (vs x)

    abbrev story_called : Story
    story_called = story geometry earlier m t

    abbrev books_called : Books
    books_called = books geometry left earlier m t b

    at_called : At (Called a client op ∷ (between ++ Answered a answer ∷ since)) net_called views_called story_called books_called
    at_called = (goes_on geometry left none first origins new earlier (Called a client op ∷ (between ++ Answered a answer ∷ since)) m vs t b h).0

    abbrev given : Given
    given = given_to geometry story_called books_called client op

    -- as it is answered
    abbrev net_answered : Net
    net_answered = run (Called a client op ∷ between) net_called

    abbrev views_answered : ℕ → View
    views_answered x = view x (Called a client op ∷ between) net_called (views_called x)

    abbrev story_answered : Story
    story_answered = story geometry (Called a client op ∷ between) net_called story_called

    abbrev books_answered : Books
    books_answered = books geometry left (Called a client op ∷ between) net_called story_called books_called

    at_answered : At (Answered a answer ∷ since) net_answered views_answered story_answered books_answered
    at_answered = (goes_on geometry left none first origins new (Called a client op ∷ between) (Answered a answer ∷ since) net_called views_called story_called books_called at_called).0

    meanwhile : Stays net_called net_answered views_called views_answered books_called books_answered
    meanwhile = (goes_on geometry left none first origins new (Called a client op ∷ between) (Answered a answer ∷ since) net_called views_called story_called books_called at_called).1

    begun : books_answered.given a ≡ Some given
    begun =
        let e : Entry = Called a client op in
        (goes_on geometry left none first origins new between (Answered a answer ∷ since) (after net_called e) (λ x. seen_after x net_called (views_called x) e) (told geometry net_called story_called e) (booked geometry left net_called story_called books_called e) (next_at geometry left none first origins new e (between ++ Answered a answer ∷ since) net_called views_called story_called books_called at_called)).1.given a given (put_here books_called.given a (Some given) a refl)

    posted : IsPosted (account given (books_answered.own a)) g
    posted = earned (account given (books_answered.own a)) op answer g (answered a answer since net_answered views_answered story_answered books_answered given begun at_answered) says

    done : (y : ℕ) × ((views_answered g).turn a ≡ Some y) × IsCommitted geometry.n (quorum geometry) (views_answered g).core y
    done = is_committed geometry g net_answered (views_answered g) books_answered (at_answered.stands.reached g) a given begun posted

    -- a turn of which a brick did a PostOp was begun before, by a call that had been made
    not_yet : (y : ℕ) → (views_called g).core.post done.0 y ≡ true → ⊥
    not_yet y is =
        let first = at_called.stands.reached g in
        let last = at_answered.stands.reached g in
        let turn = last.known.messages.turns a done.0 done.1 in
        let low = turn.0 in
        let x = first.once.post done.0 y turn.0 is in
        let less = first.known.messages.below x.number x.asked.message x.asked.is in
        let of = x.asked.turn in
        let same = meanwhile.said (done.0 - 2 ^ 61) (omega (arith, low, less, of)) in
        let le = called_below net_called.said net_called.calls first.known.numbers.said_below (done.0 - 2 ^ 61) in
        let caller = ap call_of (sym same) ∙ turn.2 in
        let number = at_called.runs.0.0 in
        omega (arith, le, caller, number)
      where
        called_below : (said : ℕ → Option Message) (calls : ℕ) → ((i : ℕ) (z : Message) → said i ≡ Some z → z.call ≤ calls) → (i : ℕ) → call_of (said i) ≤ calls
        called_below said calls below i = by (said i) refl
          where
            by : (o : Option Message) → said i ≡ o → call_of o ≤ calls
            by None e = omega arith
            by (Some z) e = below i z e

    abbrev last_view : View
    last_view = view g (Answered a answer ∷ since) net_answered (views_answered g)

    commits_there : CommitsBetween geometry.n (quorum geometry) (views_called g) (views_answered g) last_view a
    commits_there = record {
      turn = done.0;
      of_call = done.1;
      none_yet = λ y. by y ((views_called g).core.post done.0 y) refl;
      committed = done.2;
      stays = (let k = all_stays geometry left none first origins new (Answered a answer ∷ since) net_answered views_answered story_answered books_answered at_answered in let more = part geometry.n ((views_answered g).core.post done.0) (last_view.core.post done.0) (λ y lt is. k.post g done.0 y is) in let enough = done.2 in omega (arith, enough, more));
    }
      where
        by : (y : ℕ) (u : Bool) → (views_called g).core.post done.0 y ≡ u → (views_called g).core.post done.0 y ≡ false
        by y false e = e
        by y true e = absurd (not_yet y e)

    commits : CommitsBetween geometry.n (quorum geometry) (view g earlier m (vs g)) (view g (earlier ++ Called a client op ∷ between) m (vs g)) (view g (earlier ++ Called a client op ∷ (between ++ Answered a answer ∷ since)) m (vs g)) a
    commits =
        let mid = view_both g earlier (Called a client op ∷ between) m (vs g) in
        let whole = view_both g earlier (Called a client op ∷ (between ++ Answered a answer ∷ since)) m (vs g) ∙ view_both g (Called a client op ∷ between) (Answered a answer ∷ since) net_called (views_called g) in
        subst (λ (v : View). CommitsBetween geometry.n (quorum geometry) (views_called g) (view g (earlier ++ Called a client op ∷ between) m (vs g)) v a) (sym whole) (subst (λ (v : View). CommitsBetween geometry.n (quorum geometry) (views_called g) v last_view a) (sym mid) commits_there)

-- ## The log of a world

module _ (stands : Ctx → Given → AnyCall → List Own → Type 0) (by_table : Ctx → Given → List Own → Type 0) (laws : WorldLaws stands by_table) where
  answered_after_commit : AnsweredAfterCommit stands by_table
  answered_after_commit config records bricks tree next g call_of s c start logged es rest front call op answer h says =
      let log = h.earlier ++ Called call h.client op ∷ (h.between ++ Answered call answer ∷ h.since) in
      let w = laws.in_order config bricks tree next s c logged log rest (front ∙ ap (λ (xs : List Entry). xs ++ rest) h.parts) in
      let vs : ℕ → View = λ x. first_view config.geometry.n (tree x).version records x call_of next in
      subst (λ (xs : List Entry). CommitsBetween config.geometry.n (quorum config.geometry) (view g h.earlier (fresh bricks) (vs g)) (view g (until h) (fresh bricks) (vs g)) (view g xs (fresh bricks) (vs g)) call) (sym h.parts)
      (commits config.geometry w.orderly.left w.orderly.none_kept next (λ x. (tree x).version) (λ x le. unversioned config records bricks tree next x start le) g call h.client op answer says h.earlier h.between h.since (fresh bricks) vs (opening tree next) no_books (begins config records bricks tree next call_of log start w.is_run w.plain w.orderly))

  pub answer_laws : AnswerLaws stands by_table
  answer_laws = record { answered_after_commit = answered_after_commit }
