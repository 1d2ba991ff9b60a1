-- Each turn that has planned has its call's plan, entry by entry.
use Rattle.std.proofs.Common.{◌≡◌, ◌⊎◌, ⊎_elim, inl, inr, ℕ, ◌+◌, ◌-◌, ◌^◌, ◌<◌, ◌≤◌, Bool, true, false, not, cond, ◌==◌, ◌&&◌, ◌||◌, Option, Some, None, List, [], ◌∷◌, ◌++◌, map, refl, sym, ◌∙◌, ap, subst, arith}
use Rattle.std.proofs.lemmas.Bool.Decides.{nat_tests}
use Rattle.ec_attr.specs.declared.geometry.Geometry.{Geometry}
use Rattle.ec_brick.specs.State.{State as Brick}
use Rattle.ec_brick.specs.Step.{Out}
use Rattle.ec_conduct.specs.Account.{Account, Exchange, Lock, at}
use Rattle.ec_conduct.specs.Conduct.{MaySend}
use Rattle.ec_conduct.specs.Copies.{MayCopy, MayTrim}
use Rattle.ec_conduct.specs.Conduct.{MayCut}
use Rattle.ec_conduct.specs.Data.{MayWrite}
use Rattle.ec_conduct.specs.Done.{did, failed_none, is_change, is_pre, since}
use Rattle.ec_conduct.specs.Given.{Given}
use Rattle.ec_conduct.specs.Opened.{account}
use Rattle.ec_conduct.specs.Standing.{did_changes, holds}
use Rattle.ec_history.specs.Accounts.{Books, Leaving, booked}
use Rattle.ec_history.specs.IsRun.{May as MayEnter, MaySay}
use Rattle.ec_history.specs.Run.{Net, after as net_after, call_of, out_of, torn_out}
use Rattle.ec_history.specs.Story.{Story, is_done}
use Rattle.ec_wire.specs.declared.entry.Entry.{Entry}
use Rattle.ec_wire.specs.declared.entry.Entry.TheVariants.{Called, Sent, Executed, Heard, Lost, GivenUp, Stopped, Returned, Cut, Died, Yielded, Torn, Answered, Replaced}
use Rattle.ec_wire.specs.declared.message.Body.{Body}
use Rattle.ec_wire.specs.declared.message.Body.TheVariants.{ToBrick, ToClient}
use Rattle.ec_wire.specs.declared.message.Message.{Message}
use Rattle.ec_wire.specs.declared.request.Request.{Request}
use Rattle.ec_wire.specs.declared.request.Request.TheVariants.{WriteChunks, SetLength, PostOp}
use Rattle.ec_law_ballots.specs.Act.{Act}
use Rattle.ec_law_ballots.specs.Act.Act.{Choose}
use Rattle.ec_law_data.specs.Deeds.{data_deeds, deeds_answered, deeds_executed, deeds_failed, deeds_of_request, deeds_of_torn, deeds_sent, deeds_torn, dressed, file_after, is_at_base, is_granted, is_partial, is_post_on, pieces_of, shows}
use Rattle.ec_law_data.specs.Forms.{Coder, Piece, Shape, is_data, of_file}
use Rattle.ec_law_data.specs.Reading.{Plans, Reading}
use Rattle.ec_law_data.proofs.Cores.{deeds_both}
use Rattle.ec_law_net.specs.Turns.{View, acts, seen_after, turn_of}
use Rattle.ec_law_pieces.specs.Deed.{Deed, Plan, after as after_deeds, step}
use Rattle.ec_law_pieces.specs.Deed.Deed.{Intend, Read, Spoil, Tear, Write}
use Rattle.ec_law_pieces.specs.File.{File, Form}
use Rattle.ec_law_turns.specs.Follows.{All, IsOfTurn}
use Rattle.ec_law_turns.specs.Known.{Known}
use Rattle.ec_law_turns.specs.Shown.{Shown}
use Rattle.ec_law_turns.proofs.Basics.{put_here, put_there}
use Rattle.ec_law_turns.proofs.Runs.{given_stays}
use Rattle.ec_law_turns.proofs.Sending.{number_is}
use Rattle.ec_law_turns.proofs.Sends.{adds}
use Rattle.ec_law_turns.proofs.SentKnown.{BodyKept}
use Rattle.ec_law_turns.proofs.SentSound.{own_sender}
use Rattle.ec_law_turns.proofs.Allowed.{account_given}
use Rattle.ec_law_turns.proofs.Steps.{EntryKept, executed_same, heard_same, made_same, torn_same}
use Rattle.ec_law_files.specs.Filing.{FilePlans, HasFilePlan, BodyChosen, EntryChosen, HaveFilePlans, StripeFile, plan_of}
use Rattle.ec_law_files.specs.Laws.{BodyMade, EntryMade}
use Rattle.ec_law_files.specs.Plans.{HasPlan}
use Rattle.ec_law_files.specs.Stripes.{IsPut, Making, makes_stripes}
use Rattle.ec_law_files.proofs.Coding.{put_own}
use Rattle.ec_law_files.proofs.Filing.{plans_first, sort_of}
use Rattle.ec_law_files.proofs.Plans.{file_plan_laws}

-- ## Deeds that plan nothing

module _ {P V C U S : Type 0} where
  abbrev plans_none : Deed P V C U S → Bool
  plans_none (Intend a plan) = false
  plans_none d = true

  abbrev PlanNone : List (Deed P V C U S) → Type 0
  PlanNone [] = Unit {0}
  PlanNone (d ∷ ds) = (plans_none d ≡ true) × PlanNone ds

  record SamePlans (f t : File P V C U S) : Type 0 where
    planned : t.planned ≡ f.planned
    covers : t.covers ≡ f.covers
    value : t.value ≡ f.value

  same_step : (form : Form P V C U S) (n k : ℕ) (d : Deed P V C U S) (f : File P V C U S) → plans_none d ≡ true → SamePlans f (step form n k f d)
  same_step form n k (Intend a plan) f e = absurd (cc)
  same_step form n k d f e = record { planned = refl; covers = refl; value = refl }

  same_then : (f t u : File P V C U S) → SamePlans f t → SamePlans t u → SamePlans f u
  same_then f t u h i = record { planned = i.planned ∙ h.planned; covers = i.covers ∙ h.covers; value = i.value ∙ h.value }

  same_plans : (form : Form P V C U S) (n k : ℕ) (ds : List (Deed P V C U S)) (f : File P V C U S) → PlanNone ds → SamePlans f (after_deeds form n k ds f)
  same_plans form n k [] f h = record { planned = refl; covers = refl; value = refl }
  same_plans form n k (d ∷ ds) f h = same_then f (step form n k f d) (after_deeds form n k ds (step form n k f d)) (same_step form n k d f h.0) (same_plans form n k ds (step form n k f d) h.1)

  none_both : (xs ys : List (Deed P V C U S)) → PlanNone xs → PlanNone ys → PlanNone (xs ++ ys)
  none_both [] ys h i = i
  none_both (x ∷ xs) ys h i = (h.0, none_both xs ys h.1 i)

  none_if : (t : Bool) (xs ys : List (Deed P V C U S)) → PlanNone xs → PlanNone ys → PlanNone (cond t xs ys)
  none_if true xs ys h i = h
  none_if false xs ys h i = i

  none_either : (t : Bool) (x y : Deed P V C U S) → plans_none x ≡ true → plans_none y ≡ true → PlanNone (cond t x y ∷ [])
  none_either true x y h i = (h, tt)
  none_either false x y h i = (i, tt)

module _ {P V C U S : Type 0} (R : Reading P V C U S) (plans : Plans P V U S) (n k g : ℕ) where
  none_dressed : (e : Act) → plans_none (dressed R plans n k g e) ≡ true
  none_dressed (Choose a p) = refl
  none_dressed e = refl

  none_acts : (es : List Act) → PlanNone (map (dressed R plans n k g) es)
  none_acts [] = tt
  none_acts (e ∷ es) = (none_dressed e, none_acts es)

  none_failed : (a b : ℕ) (q : Request) (version : Option ℕ) (old now : Brick) → PlanNone (deeds_failed R plans n k g a b q version old now)
  none_failed a b q None old now = tt
  none_failed a b q (Some version) old now = none_if (R.is_write g q && is_partial q) _ [] (none_either (is_granted old q) (Tear a b (R.writes g q) (pieces_of R plans n k g (now.records g))) (Spoil b (R.writes g q) (pieces_of R plans n k g (now.records g))) refl refl) tt

  none_answered : (f : File P V C U S) (a b : ℕ) (q : Request) (old : Brick) (out : Out) → PlanNone (deeds_answered R plans n k g f a b q old out)
  none_answered f a b q old out = none_if (is_done out.says) _ _ (none_if (R.is_write g q) _ [] (none_either (is_granted old q) (Write a b (R.writes g q)) (Spoil b (R.writes g q) (pieces_of R plans n k g (out.brick.records g))) refl refl) tt) (none_if (shows out.says && R.is_read g q && is_at_base f.heads a b) (Read a b (R.reads g q) ∷ []) [] (refl, tt) tt)

  none_executed : (m : Net) (v : View) (f : File P V C U S) (o : Option Message) (version : Option ℕ) (failed : Bool) → PlanNone (deeds_executed R plans n k g m v f o version failed)
  none_executed m v f None version failed = tt
  none_executed m v f (Some msg) version failed = body msg.body failed
    where
      body : (z : Body) (failed : Bool) → PlanNone (deeds_of_request R plans n k g m v f msg z version failed)
      body (ToBrick q) true = none_failed (v.of msg.no) msg.brick q version (m.brick msg.brick) (out_of m msg q version true).brick
      body (ToBrick q) false = none_answered f (v.of msg.no) msg.brick q (m.brick msg.brick) (out_of m msg q version false)
      body (ToClient re reply) failed = tt

  none_torn : (m : Net) (v : View) (o : Option Message) (count : ℕ) (version : Option ℕ) → PlanNone (deeds_torn R plans n k g m v o count version)
  none_torn m v None count version = tt
  none_torn m v (Some msg) count version = body msg.body
    where
      body : (z : Body) → PlanNone (deeds_of_torn R plans n k g m v msg z count version)
      body (ToBrick q) = none_failed (v.of msg.no) msg.brick q version (m.brick msg.brick) (torn_out m msg q count version).brick
      body (ToClient re reply) = tt

  -- the deeds of an entry after those on data leave plans as they are
  after_data : (m : Net) (v : View) (f : File P V C U S) (e : Entry) → SamePlans (after_deeds R.form n k (data_deeds R plans n k g m v f e) f) (file_after R plans n k g m v f e)
  after_data m v f e = subst (λ (z : File P V C U S). SamePlans (after_deeds R.form n k (data_deeds R plans n k g m v f e) f) z) (sym (deeds_both R.form n k (data_deeds R plans n k g m v f e) (map (dressed R plans n k g) (acts g m v e)) f)) (same_plans R.form n k (map (dressed R plans n k g) (acts g m v e)) (after_deeds R.form n k (data_deeds R plans n k g m v f e) f) (none_acts (acts g m v e)))

  same_entry : (m : Net) (v : View) (f : File P V C U S) (e : Entry) → PlanNone (data_deeds R plans n k g m v f e) → SamePlans f (file_after R plans n k g m v f e)
  same_entry m v f e h = same_then f (after_deeds R.form n k (data_deeds R plans n k g m v f e) f) (file_after R plans n k g m v f e) (same_plans R.form n k (data_deeds R plans n k g m v f e) f h) (after_data m v f e)

-- ## Plans of calls

equal : (x y : ℕ) → (x == y) ≡ true → x ≡ y
equal x y e = grind (arith, nat_tests)

itself : (x : ℕ) → (x == x) ≡ true
itself x = grind (arith, nat_tests)

-- what was said and what calls began with stays
record Stays (m t : Net) (b c : Books) : Type 0 where
  next : m.next ≤ t.next
  said : (j : ℕ) → j < m.next → t.said j ≡ m.said j
  given : (a : ℕ) (given : Given) → b.given a ≡ Some given → c.given a ≡ Some given

has_same : (f h : StripeFile) (a : ℕ) (p : Plan ℕ (List (List ℕ)) ℕ Shape) → SamePlans f h → HasPlan f a p → HasPlan h a p
has_same f h a p same has = record {
  planned = ap (λ (z : ℕ → Bool). z a) same.planned ∙ has.planned;
  covers = λ s. ap (λ (z : ℕ → ℕ → Bool). z a s) same.covers ∙ has.covers s;
  value = λ s. ap (λ (z : ℕ → ℕ → List (List ℕ)). z a s) same.value ∙ has.value s;
}

plan_stays : (makings : ℕ → Making) (m t : Net) (b c : Books) (f h : StripeFile) (a : ℕ) → Stays m t b c → ((p : Plan ℕ (List (List ℕ)) ℕ Shape) → HasPlan f a p → HasPlan h a p) → HasFilePlan makings m b f a → HasFilePlan makings t c h a
plan_stays makings m t b c f h a s same p =
    let said : t.said (a - 2 ^ 61) ≡ m.said (a - 2 ^ 61) = s.said (a - 2 ^ 61) (let lt = p.below in let le = p.begun in omega (arith, lt, le)) in
    record {
      begun = p.begun;
      below = let lt = p.below in let le = s.next in omega (arith, lt, le);
      given = p.given;
      made = ap (λ (o : Option Message). c.given (call_of o)) said ∙ s.given (call_of (m.said (a - 2 ^ 61))) p.given p.made;
      head = p.head;
      has = subst (λ (o : Option Message). HasPlan h a (plan_of makings (call_of o) p.given p.head)) (sym said) (same (plan_of makings (call_of (m.said (a - 2 ^ 61))) p.given p.head) p.has);
      own = subst (λ (o : Option Message). makes_stripes p.given.op ≡ true → p.head ≡ (makings (call_of o)).head) (sym said) p.own;
    }

module _ (makings : ℕ → Making) (k' : ℕ) (coder : Coder) (plans : FilePlans) (n k g : ℕ) (m : Net) (v : View) (b c : Books) (f : StripeFile) (have : HaveFilePlans makings g m v b f) where
  abbrev R : Reading ℕ (List (List ℕ)) Piece ℕ Shape
  R = of_file k' coder

  -- by an entry that says nothing and plans nothing
  have_same : (e : Entry) → PlanNone (data_deeds R plans n k g m v f e) → ((a : ℕ) (given : Given) → b.given a ≡ Some given → c.given a ≡ Some given) → (net_after m e).said ≡ m.said → (net_after m e).next ≡ m.next → (seen_after g m v e).of ≡ v.of
      → HaveFilePlans makings g (net_after m e) (seen_after g m v e) c (file_after R plans n k g m v f e)
  have_same e none given said next of =
      let same = same_entry R plans n k g m v f e none in
      let h = file_after R plans n k g m v f e in
      let s : Stays m (net_after m e) b c = record { next = let z = next in omega (arith, z); said = λ j lt. ap (λ (z : ℕ → Option Message). z j) said; given = given } in
      let before : (i : ℕ) (x : Message) → (net_after m e).said i ≡ Some x → m.said i ≡ Some x = λ i x is. sym (ap (λ (z : ℕ → Option Message). z i) said) ∙ is in
      record {
        has = λ a now. plan_stays makings m (net_after m e) b c f h a s (λ p. has_same f h a p same) (have.has a (sym (ap (λ (z : ℕ → Bool). z a) same.planned) ∙ now));
        sent = λ i x q is body w.
            (let o = have.sent i x q (before i x is) body w in
            let at = ap (λ (z : ℕ → ℕ). z i) of in
            (ap (λ (z : ℕ → Bool). z ((seen_after g m v e).of i)) same.planned ∙ (ap f.planned at ∙ o.0), subst (λ (j : ℕ). 2 ^ 61 ≤ j) (sym at) o.1));
        put = λ i x q is body on. (let o = have.put i x q (before i x is) body on in (o.0, given x.call o.0 o.1, o.2));
      }

-- ## A request

nothing_held : (o : Option Lock) (i : ℕ) → o ≡ None → holds o i ≡ true → ⊥
nothing_held None i e h = absurd (cc)
nothing_held (Some lock) i e h = absurd (cc)

first_true : (t u : Bool) → (t && u) ≡ true → t ≡ true
first_true true u e = refl
first_true false u e = absurd (cc)

-- a request that writes, cuts or commits goes where the PreOp was done
ready_there : (c : Account) (b g : ℕ) (q : Request) → ((x : ℕ) → (at c g x).heal ≡ None) → (is_data g q || is_post_on g q) ≡ true → MaySend c b q → did_changes (at c g b) ≡ true
ready_there c b g (WriteChunks x n first chunks) unhealed on may = subst (λ (y : ℕ). did_changes (at c y b) ≡ true) e (by may.1)
  where
    left : (t : Bool) → (t || false) ≡ true → t ≡ true
    left true e = refl
    left false e = absurd (cc)

    e : x.0 ≡ g
    e = equal x.0 g (left (x.0 == g) on)

    by : MayWrite c b x.0 n first chunks ⊎ MayCopy c b x.0 n first chunks → did_changes (at c x.0 b) ≡ true
    by (inl o) = o.change.ready
    by (inr o) = absurd (nothing_held (at c x.0 b).heal n (ap (λ (y : ℕ). (at c y b).heal) e ∙ unhealed b) o.rebuild.heal_held)
ready_there c b g (SetLength x n keep count) unhealed on may = subst (λ (y : ℕ). did_changes (at c y b) ≡ true) e (by may.1)
  where
    left : (t : Bool) → (t || false) ≡ true → t ≡ true
    left true e = refl
    left false e = absurd (cc)

    e : x.0 ≡ g
    e = equal x.0 g (left (x.0 == g) on)

    by : MayCut c b x.0 n ⊎ MayTrim c b x.0 n keep count → did_changes (at c x.0 b) ≡ true
    by (inl o) = o.change.ready
    by (inr o) = absurd (nothing_held (at c x.0 b).heal n (ap (λ (y : ℕ). (at c y b).heal) e ∙ unhealed b) o.rebuild.heal_held)
ready_there c b g (PostOp x n old new size attr) unhealed on may = subst (λ (y : ℕ). did_changes (at c y b) ≡ true) (equal x.0 g on) may.1.whole.done
ready_there c b g q unhealed on may = absurd (cc)

of_turn : (said : ℕ → Option Message) (turn : ℕ → Option ℕ) (of : ℕ → ℕ) (a b : ℕ) (es : List Exchange) → did is_pre es ≡ true → All (λ e. IsOfTurn said turn of a b e.number e.request) es → (i : ℕ) × (turn a ≡ Some (of i))
of_turn said turn of a b [] h all = absurd (cc)
of_turn said turn of a b (e ∷ es) h all = (e.number, all.0.1)

body_is : (r s : Request) → ToBrick r ≡ ToBrick s → r ≡ s
body_is r s e = cc

module _ (geometry : Geometry) (left : ℕ → Leaving) (none_left : (a : ℕ) → (left a).kept ≡ None) (makings : ℕ → Making) (k' : ℕ) (coder : Coder) (plans : FilePlans) (n k g : ℕ) (m : Net) (v : View) (t : Story) (b : Books) (f : StripeFile)
    (known : Known geometry g m v b) (shown : Shown geometry g m.said m.next v.turn v.of m.owed v.core b) (have : HaveFilePlans makings g m v b f) where
  module _ (msg : Message) (next_no : msg.no ≡ m.next) (may : MaySay geometry.n m msg msg.body) where
    abbrev a : ℕ
    a = turn_of g v msg

    abbrev t' : Net
    t' = net_after m (Sent msg)

    abbrev v' : View
    v' = seen_after g m v (Sent msg)

    abbrev b' : Books
    b' = booked geometry left m t b (Sent msg)

    abbrev h : StripeFile
    h = file_after (of_file k' coder) plans n k g m v f (Sent msg)

    stays : Stays m t' b b'
    stays = record {
      next = omega arith;
      said = λ j lt. put_there m.said msg.no (Some msg) j (λ e. absurd (omega (arith, lt, e, next_no)));
      given = λ x given is. given_stays geometry left none_left m t b (Sent msg) (next_no, may) known.numbers x given is;
    }

    mine : v'.of msg.no ≡ a
    mine = put_here v.of msg.no (turn_of g v msg) msg.no refl

    -- what is so of the turn of the new message, and of it, goes with what was so of the others
    together : ((x : ℕ) → h.planned x ≡ true → HasFilePlan makings t' b' h x) → ((x : ℕ) → f.planned x ≡ true → h.planned x ≡ true)
        → ((q : Request) → msg.body ≡ ToBrick q → (is_data g q || is_post_on g q) ≡ true → (h.planned a ≡ true) × (2 ^ 61 ≤ a))
        → ((q : Request) → msg.body ≡ ToBrick q → is_data g q ≡ true → (given : Given) × (b.given msg.call ≡ Some given) × IsPut (makings msg.call) given msg.brick q)
        → HaveFilePlans makings g t' v' b' h
    together has later new own = record {
      has = has;
      sent = λ i x q is body w. ⊎_elim
          (λ z. let at = ap v'.of z.0 ∙ mine in let o = new q (ap (λ (y : Message). y.body) z.1 ∙ body) w in (ap h.planned at ∙ o.0, subst (λ (j : ℕ). 2 ^ 61 ≤ j) (sym at) o.1))
          (λ z. let at = (more.still i x z).1 in let o = have.sent i x q z body w in (ap h.planned at ∙ later (v.of i) o.0, subst (λ (j : ℕ). 2 ^ 61 ≤ j) (sym at) o.1))
          (more.newest i x is);
      put = λ i x q is body on. ⊎_elim
          (λ z.
          let o = own q (ap (λ (y : Message). y.body) z.1 ∙ body) on in
          subst (λ (y : Message). (given : Given) × (b'.given y.call ≡ Some given) × IsPut (makings y.call) given y.brick q) z.1 (o.0, stays.given msg.call o.0 o.1, o.2))
          (λ z. let o = have.put i x q z body on in (o.0, stays.given x.call o.0 o.1, o.2))
          (more.newest i x is);
    }
      where
        more : Rattle.ec_law_turns.proofs.Tracks.Adds m.said t'.said v.of v'.of msg.no msg
        more = adds geometry.n g m v msg next_no known.messages

    abbrev Deeds : Type 0
    Deeds = List (Deed ℕ (List (List ℕ)) Piece ℕ Shape)

    -- by a message that plans nothing
    same_has : PlanNone (data_deeds (of_file k' coder) plans n k g m v f (Sent msg)) → ((x : ℕ) → h.planned x ≡ true → HasFilePlan makings t' b' h x) × ((x : ℕ) → f.planned x ≡ true → h.planned x ≡ true)
    same_has none =
        let same = same_entry (of_file k' coder) plans n k g m v f (Sent msg) none in (
          λ x now. plan_stays makings m t' b b' f h x stays (λ p. has_same f h x p same) (have.has x (sym (ap (λ (z : ℕ → Bool). z x) same.planned) ∙ now)),
          λ x p. ap (λ (z : ℕ → Bool). z x) same.planned ∙ p,
        )

    by_reply : (re : ℕ) (reply : Rattle.ec_wire.specs.declared.reply.Reply.Reply) → msg.body ≡ ToClient re reply → HaveFilePlans makings g t' v' b' h
    by_reply re reply body =
        let o = same_has (subst (λ (z : Body). PlanNone (deeds_sent (of_file k' coder) plans n k g f a z)) (sym body) tt) in
        together o.0 o.1 (λ q own w. absurd (let e = sym body ∙ own in cc)) (λ q own w. absurd (let e = sym body ∙ own in cc))

    module _ (q : Request) (body : msg.body ≡ ToBrick q) (kept : BodyKept m b msg msg.body) (own : BodyMade makings b msg msg.body) (chosen : BodyChosen makings g v b f plans msg msg.body) where
      deeds_are : (u : Bool) → ((is_data g q || is_post_on g q) && not (f.planned a)) ≡ u → data_deeds (of_file k' coder) plans n k g m v f (Sent msg) ≡ cond {A = Deeds} u (Intend a (plans.plan a) ∷ []) []
      deeds_are u e = ap (λ (z : Body). deeds_sent (of_file k' coder) plans n k g f a z) body ∙ ap (λ (y : Bool). cond {A = Deeds} y (Intend a (plans.plan a) ∷ []) []) e

      begun : (given : Given) × (b.given msg.call ≡ Some given)
      begun = let asker = subst (λ (z : Body). MaySay geometry.n m msg z) body may in let o = known.numbers.made msg.call asker.asker asker.made in (o.1, o.2)

      own_put : (r : Request) → msg.body ≡ ToBrick r → is_data g r ≡ true → (given : Given) × (b.given msg.call ≡ Some given) × IsPut (makings msg.call) given msg.brick r
      own_put r at on =
          let o = begun in
          (o.0, o.1, subst (λ (y : Given). IsPut (makings msg.call) y msg.brick r) (account_given o.0 (b.own msg.call)) (put_own (makings msg.call) (account o.0 (b.own msg.call)) msg.brick r (subst (BodyMade makings b msg) at own o.0 o.1)))

      -- the turn is the call's, and one of the log
      turn_is : (is_data g q || is_post_on g q) ≡ true → v.turn msg.call ≡ Some a
      turn_is on =
          let o = begun in
          let mine = own_sender m b msg q (sort_of g q on).0 in
          let c = account o.0 (b.own msg.call) in
          let follows = known.calls msg.call o.0 o.1 in
          let ready = ready_there c msg.brick g q follows.unhealed on (subst (BodyKept m b msg) body kept o.0 o.1 mine).0 in
          let w = of_turn m.said v.turn v.of msg.call msg.brick (at c g msg.brick).window (first_true (did is_pre (at c g msg.brick).window) (failed_none is_change (since is_pre (at c g msg.brick).window)) ready) (follows.window msg.brick) in
          w.1 ∙ ap (λ (y : ℕ). Some y) (sym (number_is geometry g m v b msg next_no may kept known shown q body o.0 o.1 mine (sort_of g q on).1 (v.of w.0) w.1))

      new_same : ((x : ℕ) → f.planned x ≡ true → h.planned x ≡ true) → f.planned a ≡ true → (r : Request) → msg.body ≡ ToBrick r → (is_data g r || is_post_on g r) ≡ true → (h.planned a ≡ true) × (2 ^ 61 ≤ a)
      new_same later p r at on = (later a p, (known.messages.turns msg.call a (turn_is (subst (λ (y : Request). (is_data g y || is_post_on g y) ≡ true) (body_is r q (sym at ∙ body)) on))).0)

      -- by one by which the turn plans
      planning : (is_data g q || is_post_on g q) ≡ true → f.planned a ≡ false → HaveFilePlans makings g t' v' b' h
      planning on none = together has later (λ r at w. (now, turn.0)) own_put
        where
          not_false : (u w : Bool) → u ≡ true → w ≡ false → (u && not w) ≡ true
          not_false true false e i = refl
          not_false u true e i = absurd (cc)
          not_false false w e i = absurd (cc)

          told : StripeFile
          told = step (of_file k' coder).form n k f (Intend a (plans.plan a))

          same : SamePlans (step (of_file k' coder).form n k f (Intend a (plans.plan a))) h
          same = subst (λ (ds : Deeds). SamePlans (after_deeds (of_file k' coder).form n k ds f) h) (deeds_are true (not_false (is_data g q || is_post_on g q) (f.planned a) on none)) (after_data (of_file k' coder) plans n k g m v f (Sent msg))

          turn : (2 ^ 61 ≤ a) × (a < 2 ^ 61 + m.next) × (call_of (m.said (a - 2 ^ 61)) ≡ msg.call)
          turn = known.messages.turns msg.call a (turn_is on)

          now : h.planned a ≡ true
          now = ap (λ (z : ℕ → Bool). z a) same.planned ∙ ap (λ (y : Bool). cond y true (f.planned a)) (itself a)

          later : (x : ℕ) → f.planned x ≡ true → h.planned x ≡ true
          later x p = ap (λ (z : ℕ → Bool). z x) same.planned ∙ by (x == a) (f.planned x) p
            where
              by : (u w : Bool) → w ≡ true → cond u true w ≡ true
              by true w e = refl
              by false w e = e

          mine_has : HasFilePlan makings t' b' h a
          mine_has =
              let o = begun in
              let first = plans_first geometry makings g m v b f msg q o.0 next_no may kept known shown own have body o.1 on none in
              let pick : plans.plan a ≡ plan_of makings msg.call o.0 first.head = subst (BodyChosen makings g v b f plans msg) body chosen on none o.0 first.head o.1 first.group in
              let said : t'.said (a - 2 ^ 61) ≡ m.said (a - 2 ^ 61) = stays.said (a - 2 ^ 61) (let lt = turn.1 in let le = turn.0 in omega (arith, lt, le)) in
              let call : call_of (t'.said (a - 2 ^ 61)) ≡ msg.call = ap call_of said ∙ turn.2 in
              record {
                begun = turn.0;
                below = let lt = turn.1 in let le = stays.next in omega (arith, lt, le);
                given = o.0;
                made = ap b'.given call ∙ stays.given msg.call o.0 o.1;
                head = first.head;
                has = subst (λ (y : ℕ). HasPlan h a (plan_of makings y o.0 first.head)) (sym call) (subst (HasPlan h a) pick (has_same (step (of_file k' coder).form n k f (Intend a (plans.plan a))) h a (plans.plan a) same (file_plan_laws.planned (of_file k' coder).form n k f a (plans.plan a))));
                own = subst (λ (y : ℕ). makes_stripes o.0.op ≡ true → first.head ≡ (makings y).head) (sym call) first.own;
              }

          has : (x : ℕ) → h.planned x ≡ true → HasFilePlan makings t' b' h x
          has x p = by (x == a) refl (sym (ap (λ (z : ℕ → Bool). z x) same.planned) ∙ p)
            where
              other : (x == a) ≡ false → a ≡ x → ⊥
              other e s = absurd (let z : (x == a) ≡ true = subst (λ (y : ℕ). (x == y) ≡ true) (sym s) (itself x) in let w = sym z ∙ e in cc)

              by : (u : Bool) → (x == a) ≡ u → cond (x == a) true (f.planned x) ≡ true → HasFilePlan makings t' b' h x
              by true e i = subst (HasFilePlan makings t' b' h) (sym (equal x a e)) mine_has
              by false e i =
                  plan_stays makings m t' b b' f h x stays
                  (λ r was. has_same (step (of_file k' coder).form n k f (Intend a (plans.plan a))) h x r same (file_plan_laws.stays (of_file k' coder).form n k f x r (Intend a (plans.plan a)) (other e) was))
                  (have.has x (sym (ap (λ (y : Bool). cond y true (f.planned x)) e) ∙ i))

      by_request : HaveFilePlans makings g t' v' b' h
      by_request = by (is_data g q || is_post_on g q) (f.planned a) refl refl
        where
          quiet : ((is_data g q || is_post_on g q) && not (f.planned a)) ≡ false → PlanNone (data_deeds (of_file k' coder) plans n k g m v f (Sent msg))
          quiet e = subst PlanNone (sym (deeds_are false e)) tt

          both : (u w : Bool) → u ≡ true → w ≡ true → (u && not w) ≡ false
          both true true e i = refl
          both false w e i = absurd (cc)
          both u false e i = absurd (cc)

          shut : (u w : Bool) → u ≡ false → (u && not w) ≡ false
          shut false w e = refl
          shut true w e = absurd (cc)

          clash : (r : Request) → msg.body ≡ ToBrick r → (is_data g q || is_post_on g q) ≡ false → (is_data g r || is_post_on g r) ≡ true → ⊥
          clash r at e w = absurd (let z = subst (λ (y : Request). (is_data g y || is_post_on g y) ≡ true) (body_is r q (sym at ∙ body)) w in let y = sym z ∙ e in cc)

          by : (u w : Bool) → (is_data g q || is_post_on g q) ≡ u → f.planned a ≡ w → HaveFilePlans makings g t' v' b' h
          by true false e i = planning e i
          by true true e i = let o = same_has (quiet (both (is_data g q || is_post_on g q) (f.planned a) e i)) in together o.0 o.1 (new_same o.1 i) own_put
          by false w e i = let o = same_has (quiet (shut (is_data g q || is_post_on g q) (f.planned a) e)) in together o.0 o.1 (λ r at on. absurd (clash r at e on)) own_put

  -- ## An entry

  same_books : (e : Entry) → MayEnter geometry.n m e → (x : ℕ) (given : Given) → b.given x ≡ Some given → (booked geometry left m t b e).given x ≡ Some given
  same_books e may x given is = given_stays geometry left none_left m t b e may known.numbers x given is

  by_same : (e : Entry) → MayEnter geometry.n m e → PlanNone (data_deeds (of_file k' coder) plans n k g m v f e) → (net_after m e).said ≡ m.said → (net_after m e).next ≡ m.next → (seen_after g m v e).of ≡ v.of → HaveFilePlans makings g (net_after m e) (seen_after g m v e) (booked geometry left m t b e) (file_after (of_file k' coder) plans n k g m v f e)
  by_same e may none said next of = have_same makings k' coder plans n k g m v b (booked geometry left m t b e) f have e none (same_books e may) said next of

  pub have_after : (e : Entry) → MayEnter geometry.n m e → EntryKept m b e → EntryMade makings b e → EntryChosen makings g v b f plans e → HaveFilePlans makings g (net_after m e) (seen_after g m v e) (booked geometry left m t b e) (file_after (of_file k' coder) plans n k g m v f e)
  have_after (Sent msg) may kept own chosen = by msg.body refl
    where
      by : (z : Body) → msg.body ≡ z → HaveFilePlans makings g (net_after m (Sent msg)) (seen_after g m v (Sent msg)) (booked geometry left m t b (Sent msg)) (file_after (of_file k' coder) plans n k g m v f (Sent msg))
      by (ToClient re reply) body = by_reply msg may.0 may.1 re reply body
      by (ToBrick q) body = by_request msg may.0 may.1 q body kept own chosen
  have_after (Called x client op) may kept own chosen = by_same (Called x client op) may tt refl refl (made_same g v x op).1
  have_after (Executed i version failed) may kept own chosen = by_same (Executed i version failed) may (none_executed (of_file k' coder) plans n k g m v f (m.said i) version failed) (executed_same m (m.said i) version failed).0 (executed_same m (m.said i) version failed).1 refl
  have_after (Heard i) may kept own chosen = by_same (Heard i) may tt (heard_same m (m.said i)).0 (heard_same m (m.said i)).1 refl
  have_after (Torn i count version) may kept own chosen = by_same (Torn i count version) may (none_torn (of_file k' coder) plans n k g m v (m.said i) count version) (torn_same m (m.said i) count version).0 (torn_same m (m.said i) count version).1 refl
  have_after (Lost i) may kept own chosen = by_same (Lost i) may tt refl refl refl
  have_after (GivenUp client brick i) may kept own chosen = by_same (GivenUp client brick i) may tt refl refl refl
  have_after (Stopped x) may kept own chosen = by_same (Stopped x) may tt refl refl refl
  have_after (Returned x) may kept own chosen = by_same (Returned x) may tt refl refl refl
  have_after (Cut client x) may kept own chosen = by_same (Cut client x) may tt refl refl refl
  have_after (Died client) may kept own chosen = by_same (Died client) may tt refl refl refl
  have_after (Yielded client) may kept own chosen = by_same (Yielded client) may tt refl refl refl
  have_after (Answered x answer) may kept own chosen = by_same (Answered x answer) may tt refl refl refl
  have_after (Replaced x removed all) may kept own chosen = by_same (Replaced x removed all) may tt refl refl refl
