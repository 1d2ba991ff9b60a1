-- A call that was answered that it changed a gfid has one commit there, between its call and its answer.
use Rattle.std.proofs.Common.{◌≡◌, ℕ, zero, suc, ◌<◌, ◌≤◌, Bool, true, false, Some, None, List, [], ◌∷◌, ◌++◌, refl, sym, ◌∙◌, ap, subst, arith}
use Rattle.ec_attr.proofs.Sets.{count_none, count_out, part}
use Rattle.ec_attr.specs.Bricks.{count_below}
use Rattle.ec_attr.specs.declared.geometry.Geometry.{Geometry}
use Rattle.ec_calls.specs.declared.any.AnyCall.{AnyCall}
use Rattle.ec_conduct.specs.Given.{Given, quorum}
use Rattle.ec_conduct.specs.Own.{Own}
use Rattle.ec_history.specs.Accounts.{Books, Leaving, booked, books, no_books}
use Rattle.ec_history.specs.Changes.{change}
use Rattle.ec_history.specs.Flat.{committed}
use Rattle.ec_history.specs.IsRun.{IsRun}
use Rattle.ec_history.specs.Run.{Asker, Net, after, fresh, run}
use Rattle.ec_history.specs.Story.{Story, asked_for, makes_a_child, op_of, opening, posts, story, told}
use Rattle.ec_history.proofs.Runs.{front as front_of, joins}
use Rattle.ec_store.specs.Put.{put}
use Rattle.ec_txn.specs.declared.ctx.Ctx.{Ctx}
use Rattle.ec_wire.specs.declared.answer.Answer.{Answer}
use Rattle.ec_wire.specs.declared.entry.Entry.{Entry}
use Rattle.ec_wire.specs.declared.entry.Entry.TheVariants.{Answered, Called}
use Rattle.ec_wire.specs.declared.op.Op.{Op}
use Rattle.ec_law_net.specs.Start.{first_view}
use Rattle.ec_law_net.specs.Turns.{View, seen_after, view}
use Rattle.ec_law_turns.proofs.Basics.{put_here, some_none}
use Rattle.ec_law_turns.proofs.Origins.{unversioned}
use Rattle.ec_law_calls.specs.World.{WorldLaws}
use Rattle.ec_law_answers.specs.Answered.{CommitsBetween, until}
use Rattle.ec_law_answers.specs.Laws.{AnswerLaws}
use Rattle.ec_law_answers.proofs.Reaching.{IsAt, begins, goes_on, next_at, next_stays}
use Rattle.ec_law_commits.specs.Commits.{CommitsOnce, changed, commits_on, times}
use Rattle.ec_law_commits.specs.Laws.{AnsweredByOneCommit, CommitLaws}
use Rattle.ec_law_commits.proofs.Backing.{Backed, Made, backed_entry, calls_stay, made_entry}
use Rattle.ec_law_commits.proofs.Counting.{IsOnce, at_most_once, called_same, changes, just_one, none_below, none_past, of_call, story_both, times_both}

-- the view after the entries of two parts
view_both : (g : ℕ) (es fs : List Entry) (m : Net) (v : View) → view g (es ++ fs) m v ≡ view g fs (run es m) (view g es m v)
view_both g [] fs m v = refl
view_both g (e ∷ es) fs m v = view_both g es fs (after m e) (seen_after g m v e)

none_of : (p : ℕ → Bool) (n : ℕ) → ((b : ℕ) → b < n → p b ≡ false) → count_below n p ≡ 0
none_of p zero h = count_none p
none_of p (suc n) h = count_out n p (h n (omega arith)) ∙ none_of p n (λ b lt. h b (omega (arith, lt)))

-- a call that was made has asked for what it asked
asker_stays : (n : ℕ) (es : List Entry) (m : Net) (a : ℕ) (x : Asker) → IsRun n es m → a ≤ m.calls → m.asker a ≡ Some x → (run es m).asker a ≡ Some x
asker_stays n [] m a x runs le is = is
asker_stays n (e ∷ es) m a x runs le is =
    let k = calls_stay n m e runs.0 in
    asker_stays n es (after m e) a x runs.1 (let up = k.grows in omega (arith, le, up)) (k.asker a le ∙ is)

module _ (geometry : Geometry) (left : ℕ → Leaving) (none : (a : ℕ) → (left a).kept ≡ None) (first : ℕ) (origins : ℕ → ℕ) (new : (h : ℕ) → first ≤ h → origins h ≡ 0) where
  abbrev At : List Entry → Net → (ℕ → View) → Story → Books → Type 0
  At es m vs t b = IsAt geometry left none first origins new es m vs t b

  -- PostOps of the machine were counted, and those of calls that were made alone
  record Both (g : ℕ) (m : Net) (v : View) (t : Story) : Type 0 where
    backed : Backed g m v t
    made : Made m t

  both_stay : (g : ℕ) (es fs : List Entry) (m : Net) (vs : ℕ → View) (t : Story) (b : Books) → At (es ++ fs) m vs t b → Both g m (vs g) t → Both g (run es m) (view g es m (vs g)) (story geometry es m t)
  both_stay g [] fs m vs t b h k = k
  both_stay g (e ∷ es) fs m vs t b h k =
      let r = h.stands.reached g in
      both_stay g es fs (after m e) (λ x. seen_after x m (vs x) e) (told geometry m t e) (booked geometry left m t b e) (next_at geometry left none first origins new e (es ++ fs) m vs t b h) (record {
        backed = backed_entry geometry g m (vs g) t b r.known e h.runs.0 r.once (next_stays geometry left none first origins new e (es ++ fs) m vs t b h).said k.backed;
        made = made_entry geometry m t e h.runs.0 r.known.numbers.said_below k.made;
      })

  module _ (g a client : ℕ) (op : Op) (answer : Answer) (earlier between since : List Entry) (m : Net) (vs : ℕ → View) (t : Story) (b : Books) (h : At (earlier ++ Called a client op ∷ (between ++ Answered a answer ∷ since)) m vs t b) (both : Both g m (vs g) t) (committed_there : CommitsBetween geometry.n (quorum geometry) (view g earlier m (vs g)) (view g (earlier ++ Called a client op ∷ between) m (vs g)) (view g (earlier ++ Called a client op ∷ (between ++ Answered a answer ∷ since)) m (vs g)) a) where
    -- as the call is made
    abbrev net_called : Net
    net_called = run earlier m

    abbrev views_called : ℕ → View
    views_called x = view x earlier m (vs x)

    abbrev story_called : Story
    story_called = story geometry earlier m t

    abbrev books_called : Books
    books_called = books geometry left earlier m t b

    at_called : At (Called a client op ∷ (between ++ Answered a answer ∷ since)) net_called views_called story_called books_called
    at_called = (goes_on geometry left none first origins new earlier (Called a client op ∷ (between ++ Answered a answer ∷ since)) m vs t b h).0

    both_called : Both g net_called (views_called g) story_called
    both_called = both_stay g earlier (Called a client op ∷ (between ++ Answered a answer ∷ since)) m vs t b h both

    -- after it is made
    abbrev net_made : Net
    net_made = after net_called (Called a client op)

    abbrev story_made : Story
    story_made = told geometry net_called story_called (Called a client op)

    -- as it is answered
    abbrev net_answered : Net
    net_answered = run between net_made

    abbrev view_answered : View
    view_answered = view g (Called a client op ∷ between) net_called (views_called g)

    abbrev story_answered : Story
    story_answered = story geometry between net_made story_made

    at_answered : At (Answered a answer ∷ since) net_answered (λ x. view x (Called a client op ∷ between) net_called (views_called x)) story_answered (books geometry left (Called a client op ∷ between) net_called story_called books_called)
    at_answered = (goes_on geometry left none first origins new (Called a client op ∷ between) (Answered a answer ∷ since) net_called views_called story_called books_called at_called).0

    both_answered : Both g net_answered view_answered story_answered
    both_answered = both_stay g (Called a client op ∷ between) (Answered a answer ∷ since) net_called views_called story_called books_called at_called both_called

    positive : 0 < quorum geometry
    positive = let least = geometry.least in omega (arith, least)

    -- no PostOp of it was counted as it was made
    none_counted : posts geometry story_called a g ≡ 0
    none_counted = none_of (story_called.posted a g) geometry.n (λ y lt. by (story_called.posted a g y) y refl)
      where
        by : (u : Bool) (y : ℕ) → story_called.posted a g y ≡ u → story_called.posted a g y ≡ false
        by false y e = e
        by true y e = absurd (let le = both_called.made a g y e in let next = at_called.runs.0.0 in omega (arith, le, next))

    low_called : posts geometry story_called a g < quorum geometry
    low_called = let zero_is = none_counted in let some = positive in omega (arith, zero_is, some)

    low_made : posts geometry story_made a g < quorum geometry
    low_made = let same = ap (λ (f : ℕ → ℕ → ℕ → Bool). count_below geometry.n (f a g)) (called_same story_called _ (makes_a_child op) refl) in subst (λ (y : ℕ). y < quorum geometry) (sym same) low_called

    -- a quorum was as it was answered
    quorum_answered : quorum geometry ≤ posts geometry story_answered a g
    quorum_answered =
        let view_is : view g (earlier ++ Called a client op ∷ between) m (vs g) ≡ view_answered = view_both g earlier (Called a client op ∷ between) m (vs g) in
        let x = committed_there.turn in
        let has : view_answered.turn a ≡ Some x = ap (λ (v : View). v.turn a) (sym view_is) ∙ committed_there.of_call in
        let turn = (at_answered.stands.reached g).known.messages.turns a x has in
        let enough : quorum geometry ≤ count_below geometry.n (view_answered.core.post x) = subst (λ (v : View). quorum geometry ≤ count_below geometry.n (v.core.post x)) view_is committed_there.committed in
        let more = part geometry.n (view_answered.core.post x) (story_answered.posted a g) (λ y lt is. subst (λ (u : ℕ). story_answered.posted u g y ≡ true) turn.2 (both_answered.backed x y turn.0 is)) in
        omega (arith, enough, more)

    -- its one commit
    it : IsOnce geometry a g between net_made story_made
    it = just_one geometry a g between net_made story_made low_made quorum_answered

    abbrev net_then : Net
    net_then = run it.front net_made

    abbrev story_then : Story
    story_then = story geometry it.front net_made story_made

    asked : op_of net_then a ≡ op
    asked = ap asked_for (asker_stays geometry.n it.front net_made a (record { client = client; op = op }) runs (omega arith) (put_here net_called.asker a (Some (record { client = client; op = op })) a refl))
      where
        runs : IsRun geometry.n it.front net_made
        runs = front_of geometry.n it.front (it.commit ∷ it.back) net_made (subst (λ (xs : List Entry). IsRun geometry.n xs net_made) it.parts (front_of geometry.n between (Answered a answer ∷ since) net_made at_called.runs.1))

    becomes : (version : ℕ) × ((told geometry net_then story_then it.commit).tree ≡ put story_then.tree g (changed geometry story_then a op version g))
    becomes =
        let c = changes geometry net_then story_then a g it.commit it.commits in
        (c.0, c.1 ∙ ap (λ (o : Op). put story_then.tree g (committed (quorum geometry) a c.0 (change (quorum geometry) o (story_then.found a) g (story_then.tree g)) (story_then.tree g))) asked)

    only_once : times geometry a g (earlier ++ Called a client op ∷ (between ++ Answered a answer ∷ since)) m t ≡ 1
    only_once =
        let parts = times_both geometry a g earlier (Called a client op ∷ (between ++ Answered a answer ∷ since)) m t in
        let more = times_both geometry a g between (Answered a answer ∷ since) net_made story_made in
        let before = none_below geometry a g earlier m t low_called in
        let one = it.once in
        let past = none_past geometry a g (Answered a answer ∷ since) net_answered story_answered quorum_answered in
        omega (arith, parts, more, before, one, past)

    abbrev until_then : List Entry
    until_then = earlier ++ Called a client op ∷ it.front

    net_is : run until_then m ≡ net_then
    net_is = joins earlier (Called a client op ∷ it.front) m

    story_is : story geometry until_then m t ≡ story_then
    story_is = story_both geometry earlier (Called a client op ∷ it.front) m t

    commits_then : commits_on geometry (run until_then m) (story geometry until_then m t) a g it.commit ≡ true
    commits_then = subst (λ (n : Net). commits_on geometry n (story geometry until_then m t) a g it.commit ≡ true) (sym net_is) (subst (λ (s : Story). commits_on geometry net_then s a g it.commit ≡ true) (sym story_is) it.commits)

    changes_then : (told geometry (run until_then m) (story geometry until_then m t) it.commit).tree ≡ put (story geometry until_then m t).tree g (changed geometry (story geometry until_then m t) a op becomes.0 g)
    changes_then = subst (λ (n : Net). (told geometry n (story geometry until_then m t) it.commit).tree ≡ put (story geometry until_then m t).tree g (changed geometry (story geometry until_then m t) a op becomes.0 g)) (sym net_is)
        (subst (λ (s : Story). (told geometry net_then s it.commit).tree ≡ put s.tree g (changed geometry s a op becomes.0 g)) (sym story_is) becomes.1)

-- ## The log of a world

module _ (stands : Ctx → Given → AnyCall → List Own → Type 0) (by_table : Ctx → Given → List Own → Type 0) (laws : WorldLaws stands by_table) (answers : AnswerLaws stands by_table) where
  answered_by_one_commit : AnsweredByOneCommit stands by_table
  answered_by_one_commit config records bricks tree next g s c start logged es rest front call op answer h says =
      let log = h.earlier ++ Called call h.client op ∷ (h.between ++ Answered call answer ∷ h.since) in
      let w = laws.in_order config bricks tree next s c logged log rest (front ∙ ap (λ (xs : List Entry). xs ++ rest) h.parts) in
      let no_call : ℕ → ℕ = λ x. 0 in
      let vs : ℕ → View = λ x. first_view config.geometry.n (tree x).version records x no_call next in
      let new : (x : ℕ) → next ≤ x → (tree x).version ≡ 0 = λ x le. unversioned config records bricks tree next x start le in
      let beginning = begins config records bricks tree next no_call log start w.is_run w.plain w.orderly in
      let there = subst (λ (xs : List Entry). CommitsBetween config.geometry.n (quorum config.geometry) (view g h.earlier (fresh bricks) (vs g)) (view g (until h) (fresh bricks) (vs g)) (view g xs (fresh bricks) (vs g)) call) h.parts (answers.answered_after_commit config records bricks tree next g no_call s c start logged es rest front call op answer h says) in
      let both : Both config.geometry w.orderly.left w.orderly.none_kept next (λ x. (tree x).version) new g (fresh bricks) (vs g) (opening tree next) = record {
        backed = λ x y le e. absurd (let f = (beginning.stands.reached g).once.post x y le e in some_none f.asked.message (sym f.asked.is));
        made = λ x y z e. absurd (cc);
      } in
      let k = it config.geometry w.orderly.left w.orderly.none_kept next (λ x. (tree x).version) new g call h.client op answer h.earlier h.between h.since (fresh bricks) vs (opening tree next) no_books beginning both there in
      subst (λ (xs : List Entry). CommitsOnce config.geometry bricks tree next xs h.earlier h.between call h.client op g) (sym h.parts) (record {
        front = k.front;
        commit = k.commit;
        back = k.back;
        parts = k.parts;
        commits = commits_then config.geometry w.orderly.left w.orderly.none_kept next (λ x. (tree x).version) new g call h.client op answer h.earlier h.between h.since (fresh bricks) vs (opening tree next) no_books beginning both there;
        version = (becomes config.geometry w.orderly.left w.orderly.none_kept next (λ x. (tree x).version) new g call h.client op answer h.earlier h.between h.since (fresh bricks) vs (opening tree next) no_books beginning both there).0;
        changes = changes_then config.geometry w.orderly.left w.orderly.none_kept next (λ x. (tree x).version) new g call h.client op answer h.earlier h.between h.since (fresh bricks) vs (opening tree next) no_books beginning both there;
        once = only_once config.geometry w.orderly.left w.orderly.none_kept next (λ x. (tree x).version) new g call h.client op answer h.earlier h.between h.since (fresh bricks) vs (opening tree next) no_books beginning both there;
      })

  pub commit_laws : CommitLaws stands by_table
  commit_laws = record { answered_by_one_commit = answered_by_one_commit; never_twice = λ geometry call g. at_most_once geometry call g; each_of_a_call = of_call }
