-- Where the plans cover what the turns write, and no more than the changes of a PostOp write, data requests and PostOps owe nothing.
use Rattle.std.proofs.Common.{◌≡◌, ◌⊎◌, ℕ, ◌+◌, ◌<◌, ◌≤◌, Bool, true, false, not, cond, ◌==◌, ◌&&◌, ◌||◌, Option, Some, None, List, [], ◌∷◌, ◌++◌, map, refl, sym, ◌∙◌, ap, subst, arith, inl, inr, ⊎_elim}
use Rattle.std.proofs.lemmas.Bool.Decides.{nat_tests}
use Rattle.std.specs.Prelude.{is_some}
use Rattle.ec_attr.specs.declared.geometry.Geometry.{Geometry}
use Rattle.ec_attr.specs.declared.kind.Domain.TheVariants.{Inode}
use Rattle.ec_brick.specs.State.{State as Brick}
use Rattle.ec_brick.specs.Step.{Out, cut_off}
use Rattle.ec_conduct.specs.Given.{quorum}
use Rattle.ec_history.specs.Accounts.{Books, Leaving, booked, books, no_books}
use Rattle.ec_history.specs.IsRun.{IsRun, May as MayEnter, MayExecute, MayTear}
use Rattle.ec_history.specs.Run.{Net, after as net_after, fresh, out_of, torn_out, wiped}
use Rattle.ec_history.specs.Story.{Story, is_done, opening, told}
use Rattle.ec_wire.specs.declared.entry.Entry.{Entry}
use Rattle.ec_wire.specs.declared.entry.Entry.TheVariants.{Called, Sent, Executed, Heard, Lost, GivenUp, Stopped, Returned, Cut, Died, Yielded, Torn, Answered, Replaced}
use Rattle.ec_wire.specs.declared.message.Body.{Body}
use Rattle.ec_wire.specs.declared.message.Body.TheVariants.{ToBrick, ToClient}
use Rattle.ec_wire.specs.declared.message.Message.{Message}
use Rattle.ec_wire.specs.declared.request.Request.{Request}
use Rattle.ec_wire.specs.declared.request.Request.TheVariants.{PostOp}
use Rattle.ec_law_base.specs.State.{State}
use Rattle.ec_law_ballots.specs.Act.{Act}
use Rattle.ec_law_ballots.specs.Act.Act.{Mark, Post, Replace, Sink_post, Stop, Unmark}
use Rattle.ec_law_ballots.specs.Begin.{begin}
use Rattle.ec_law_pieces.specs.Deed.{Deed, after as after_deeds, step}
use Rattle.ec_law_pieces.specs.Deed.Deed.{Commit, Follow, Intend, Read, Spoil, Tear, Write}
use Rattle.ec_law_pieces.specs.File.{File, Form}
use Rattle.ec_law_net.specs.Start.{first_heads, is_new}
use Rattle.ec_law_net.specs.Turns.{View, acts, acts_executed, acts_locks, acts_of_request, acts_torn, acts_worked, counted, exclusive, seen_after, turn_of}
use Rattle.ec_law_turns.specs.Known.{Known}
use Rattle.ec_law_turns.specs.Laws.{Always}
use Rattle.ec_law_turns.specs.Orderly.{ArePlain}
use Rattle.ec_law_turns.specs.Sound.{IsSound}
use Rattle.ec_law_turns.proofs.Basics.{equal, put_here, some_none}
use Rattle.ec_law_turns.proofs.Origins.{unversioned}
use Rattle.ec_law_turns.proofs.Runs.{Kept, kept_there, plain_first}
use Rattle.ec_law_turns.proofs.Sends.{adds}
use Rattle.ec_law_data.specs.Deeds.{all_deeds, data_deeds, deeds, deeds_answered, deeds_done, deeds_executed, deeds_failed, deeds_of_request, deeds_of_torn, deeds_partly, deeds_sent, deeds_torn, dressed, file_after, is_at_base, is_granted, is_partial, is_post_on, pieces_of, shows}
use Rattle.ec_law_data.specs.Laws.{begun, begun_file}
use Rattle.ec_law_data.specs.Link.{IsWriter}
use Rattle.ec_law_data.specs.Owing.{AllOwe, Owes, OwesWrite}
use Rattle.ec_law_data.specs.Reading.{Plans, Reading}
use Rattle.ec_law_data.proofs.Cores.{deeds_both, entry_heads}
use Rattle.ec_law_data.proofs.Guards.{Easy, easy_both, easy_if, easy_locks, easy_sent, easy_worked, is_easy, worked_post}
use Rattle.ec_law_data.proofs.OrderlyDeeds.{unmarking}
use Rattle.ec_law_data.proofs.Reaching.{Reaches, reaches_start, reaches_then}
use Rattle.ec_law_writes.specs.Guarding.{AllGuarded, BodyGuarded, BodyTornGuarded, EntryGuarded, IsGuarded, MessageGuarded, TornGuarded, changes_on}
use Rattle.ec_law_writes.specs.Laws.{OwedInEveryLog, OwingLaws, TakesWriters}
use Rattle.ec_law_writes.specs.Owing.{AllOf, AlwaysOfCalls, CoverWrites, OwesElse, OwesWriting, PlansOfChanges, WritesOne}
use Rattle.ec_law_writes.specs.Writing.{AllWrite, AreWritten, BodyWrites, EntryWrites, HasWritten, MessageWrites}
use Rattle.ec_law_writes.proofs.Guarding.{laws as guard_laws}
use Rattle.ec_law_writes.proofs.Watching.{Says, SaysOne, SaysNone, says_of}
use Rattle.ec_law_writes.proofs.Writing.{laws as written_laws}
use Rattle.ec_law_writes.proofs.Wrote.{answered_leaves, failed_leaves, granted_change}

-- a PostOp writes no data
post_none : (g : ℕ) (q : Request) → is_post_on g q ≡ true → IsWriter g q → ⊥
post_none g (PostOp x n at version size attr) on w = absurd w
post_none g q on w = absurd (cc)

-- ## The two parts

module _ {P V C U S : Type 0} (form : Form P V C U S) (n k : ℕ) where
  one_part : (d : Deed P V C U S) (f : File P V C U S) → OwesWriting form n k f d → OwesElse form n k f d → Owes form n k f d
  one_part (Write a b places) f h i = h
  one_part (Tear a b places pieces) f h i = h
  one_part (Commit a b) f h i = h
  one_part (Follow a b) f h i = h
  one_part d f h i = i

  pub parts : (ds : List (Deed P V C U S)) (f : File P V C U S) → AllOf form n k (OwesWriting form n k) ds f → AllOf form n k (OwesElse form n k) ds f → AllOwe form n k ds f
  parts [] f h i = tt
  parts (d ∷ ds) f h i = (one_part d f h.0 i.0, parts ds (step form n k f d) h.1 i.1)

  pub both : (xs ys : List (Deed P V C U S)) (f : File P V C U S) → AllOf form n k (OwesWriting form n k) xs f → AllOf form n k (OwesWriting form n k) ys (after_deeds form n k xs f) → AllOf form n k (OwesWriting form n k) (xs ++ ys) f
  both [] ys f h i = i
  both (x ∷ xs) ys f h i = (h.0, both xs ys (step form n k f x) h.1 i)

module _ {P V C U S : Type 0} (R : Reading P V C U S) (takes : TakesWriters R) (plans : Plans P V U S) (n k g : ℕ) where
  abbrev Owed : List (Deed P V C U S) → File P V C U S → Type 0
  Owed ds f = AllOf R.form n k (OwesWriting R.form n k) ds f

  -- ## Acts

  easy_one : (e : Act) (f : File P V C U S) → is_easy e ≡ true → OwesWriting R.form n k f (dressed R plans n k g e)
  easy_one (Post a b) f h = absurd (cc)
  easy_one (Sink_post a b) f h = absurd (cc)
  easy_one (Mark a b) f h = absurd (cc)
  easy_one (Unmark a b) f h = absurd (cc)
  easy_one e f h = tt

  easy_owes : (es : List Act) (f : File P V C U S) → Easy es → Owed (map (dressed R plans n k g) es) f
  easy_owes [] f h = tt
  easy_owes (e ∷ es) f h = (easy_one e f h.0, easy_owes es (step R.form n k f (dressed R plans n k g e)) h.1)

  -- ## Plans

  -- these leave the plans
  abbrev Rests : List (Deed P V C U S) → Type 0
  Rests ds = (f : File P V C U S) → ((after_deeds R.form n k ds f).planned ≡ f.planned) × ((after_deeds R.form n k ds f).covers ≡ f.covers)

  none_rest : Rests []
  none_rest f = (refl, refl)

  if_rest : (t : Bool) (xs ys : List (Deed P V C U S)) → Rests xs → Rests ys → Rests (cond t xs ys)
  if_rest true xs ys h i = h
  if_rest false xs ys h i = i

  either_rest : (t : Bool) (x y : Deed P V C U S) → Rests (x ∷ []) → Rests (y ∷ []) → Rests (cond t x y ∷ [])
  either_rest true x y h i = h
  either_rest false x y h i = i

  dressed_rests : (e : Act) (f : File P V C U S) → ((step R.form n k f (dressed R plans n k g e)).planned ≡ f.planned) × ((step R.form n k f (dressed R plans n k g e)).covers ≡ f.covers)
  dressed_rests (Post a b) f = (refl, refl)
  dressed_rests (Sink_post a b) f = (refl, refl)
  dressed_rests (Mark a b) f = (refl, refl)
  dressed_rests (Unmark a b) f = (refl, refl)
  dressed_rests e f = (refl, refl)

  acts_rest : (es : List Act) → Rests (map (dressed R plans n k g) es)
  acts_rest [] f = (refl, refl)
  acts_rest (e ∷ es) f = let o = dressed_rests e f in let p = acts_rest es (step R.form n k f (dressed R plans n k g e)) in (p.0 ∙ o.0, p.1 ∙ o.1)

  both_rest : (xs ys : List (Deed P V C U S)) → Rests xs → Rests ys → Rests (xs ++ ys)
  both_rest xs ys h i f = subst (λ (z : File P V C U S). (z.planned ≡ f.planned) × (z.covers ≡ f.covers)) (sym (deeds_both R.form n k xs ys f)) (let o = h f in let p = i (after_deeds R.form n k xs f) in (p.0 ∙ o.0, p.1 ∙ o.1))

  failed_rest : (a b : ℕ) (q : Request) (version : Option ℕ) (old now : Brick) → Rests (deeds_failed R plans n k g a b q version old now)
  failed_rest a b q None old now = none_rest
  failed_rest a b q (Some version) old now = if_rest (R.is_write g q && is_partial q) (deeds_partly R plans n k g a b q old now) [] (either_rest (is_granted old q) (Tear a b (R.writes g q) (pieces_of R plans n k g (now.records g))) (Spoil b (R.writes g q) (pieces_of R plans n k g (now.records g))) (λ f. (refl, refl)) (λ f. (refl, refl))) none_rest

  answered_rest : (f' : File P V C U S) (a b : ℕ) (q : Request) (old : Brick) (out : Out) → Rests (deeds_answered R plans n k g f' a b q old out)
  answered_rest f' a b q old out = if_rest (is_done out.says) (cond (R.is_write g q) (deeds_done R plans n k g a b q old out.brick) []) (cond (shows out.says && R.is_read g q && is_at_base f'.heads a b) (Read a b (R.reads g q) ∷ []) [])
      (if_rest (R.is_write g q) (deeds_done R plans n k g a b q old out.brick) [] (either_rest (is_granted old q) (Write a b (R.writes g q)) (Spoil b (R.writes g q) (pieces_of R plans n k g (out.brick.records g))) (λ f. (refl, refl)) (λ f. (refl, refl))) none_rest)
      (if_rest (shows out.says && R.is_read g q && is_at_base f'.heads a b) (Read a b (R.reads g q) ∷ []) [] (λ f. (refl, refl)) none_rest)

  request_rests : (m : Net) (v : View) (f' : File P V C U S) (msg : Message) (q : Request) (version : Option ℕ) (failed : Bool) → Rests (deeds_of_request R plans n k g m v f' msg (ToBrick q) version failed)
  request_rests m v f' msg q version true = failed_rest (v.of msg.no) msg.brick q version (m.brick msg.brick) (out_of m msg q version true).brick
  request_rests m v f' msg q version false = answered_rest f' (v.of msg.no) msg.brick q (m.brick msg.brick) (out_of m msg q version false)

  -- The machine of pieces beside that of versions: the turn of each data request and PostOp has planned, and covers what its plan does.
  pub record Planned (m : Net) (v : View) (f : File P V C U S) : Type 0 where
    pub heads : f.heads ≡ v.core
    pub planned : (i : ℕ) (x : Message) (q : Request) → m.said i ≡ Some x → x.body ≡ ToBrick q → (R.is_write g q || is_post_on g q) ≡ true → f.planned (v.of i) ≡ true
    pub covers : (a : ℕ) (p : P) → f.planned a ≡ true → f.covers a p ≡ (plans.plan a).covers p

  module _ (m : Net) (v : View) (f : File P V C U S) (h : Planned m v f) where
    -- what is known of plans stays
    planned_stays : (e : Entry) → (net_after m e).said ≡ m.said → (seen_after g m v e).of ≡ v.of → Rests (data_deeds R plans n k g m v f e) → Planned (net_after m e) (seen_after g m v e) (file_after R plans n k g m v f e)
    planned_stays e said of rests =
        let o = both_rest (data_deeds R plans n k g m v f e) (map (dressed R plans n k g) (acts g m v e)) rests (acts_rest (acts g m v e)) f in
        record {
          heads = entry_heads R plans n k g m v f e h.heads;
          planned = λ i x q is body w. ap (λ (z : ℕ → Bool). z ((seen_after g m v e).of i)) o.0 ∙ (ap (λ (z : ℕ → ℕ). f.planned (z i)) of ∙ h.planned i x q (sym (ap (λ (z : ℕ → Option Message). z i) said) ∙ is) body w);
          covers = λ a p is. ap (λ (z : ℕ → P → Bool). z a p) o.1 ∙ h.covers a p (sym (ap (λ (z : ℕ → Bool). z a) o.0) ∙ is);
        }

    data_rests : (e : Entry) → ((msg : Message) → e ≡ Sent msg → ⊥) → Rests (data_deeds R plans n k g m v f e)
    data_rests (Sent msg) isnt = absurd (isnt msg refl)
    data_rests (Executed i version failed) isnt = said (m.said i)
      where
        said : (o : Option Message) → Rests (deeds_executed R plans n k g m v f o version failed)
        said None = none_rest
        said (Some msg) = by msg.body
          where
            by : (z : Body) → Rests (deeds_of_request R plans n k g m v f msg z version failed)
            by (ToBrick q) = request_rests m v f msg q version failed
            by (ToClient re reply) = none_rest
    data_rests (Torn i count version) isnt = said (m.said i)
      where
        said : (o : Option Message) → Rests (deeds_torn R plans n k g m v o count version)
        said None = none_rest
        said (Some msg) = by msg.body
          where
            by : (z : Body) → Rests (deeds_of_torn R plans n k g m v msg z count version)
            by (ToBrick q) = failed_rest (v.of msg.no) msg.brick q version (m.brick msg.brick) (torn_out m msg q count version).brick
            by (ToClient re reply) = none_rest
    data_rests e isnt = none_rest

    -- a turn plans as it sends
    sent_file : ℕ → Body → File P V C U S
    sent_file a z = after_deeds R.form n k (deeds_sent R plans n k g f a z) f

    sent_plans : (a : ℕ) (z : Body) → ((c : ℕ) → f.planned c ≡ true → (after_deeds R.form n k (deeds_sent R plans n k g f a z) f).planned c ≡ true)
        × ((q : Request) → z ≡ ToBrick q → (R.is_write g q || is_post_on g q) ≡ true → (after_deeds R.form n k (deeds_sent R plans n k g f a z) f).planned a ≡ true)
        × ((c : ℕ) (p : P) → (after_deeds R.form n k (deeds_sent R plans n k g f a z) f).planned c ≡ true → (after_deeds R.form n k (deeds_sent R plans n k g f a z) f).covers c p ≡ (plans.plan c).covers p)
    sent_plans a (ToClient re reply) = (λ c e. e, λ q e w. absurd (cc), λ c p e. h.covers c p e)
    sent_plans a (ToBrick r) = by (R.is_write g r || is_post_on g r) (f.planned a) refl refl
      where
        request_is : (q : Request) → ToBrick r ≡ ToBrick q → r ≡ q
        request_is q e = cc

        by : (t u : Bool) → (R.is_write g r || is_post_on g r) ≡ t → f.planned a ≡ u → ((c : ℕ) → f.planned c ≡ true → (after_deeds R.form n k (cond (t && not u) (Intend a (plans.plan a) ∷ []) []) f).planned c ≡ true)
            × ((q : Request) → ToBrick r ≡ ToBrick q → (R.is_write g q || is_post_on g q) ≡ true → (after_deeds R.form n k (cond (t && not u) (Intend a (plans.plan a) ∷ []) []) f).planned a ≡ true)
            × ((c : ℕ) (p : P) → (after_deeds R.form n k (cond (t && not u) (Intend a (plans.plan a) ∷ []) []) f).planned c ≡ true → (after_deeds R.form n k (cond (t && not u) (Intend a (plans.plan a) ∷ []) []) f).covers c p ≡ (plans.plan c).covers p)
        by false u e i = (λ c z. z, λ q z w. absurd (let y = sym e ∙ (ap (λ (x : Request). R.is_write g x || is_post_on g x) (request_is q z) ∙ w) in cc), λ c p z. h.covers c p z)
        by true true e i = (λ c z. z, λ q z w. i, λ c p z. h.covers c p z)
        by true false e i = (λ c z. stays c z (c == a), λ q z w. here (a == a) (same a), λ c p z. covered c p (c == a) refl z)
          where
            same : (x : ℕ) → (x == x) ≡ true
            same x = grind (arith, nat_tests)

            stays : (c : ℕ) → f.planned c ≡ true → (t : Bool) → cond t true (f.planned c) ≡ true
            stays c z true = refl
            stays c z false = z

            here : (t : Bool) → t ≡ true → cond t true (f.planned a) ≡ true
            here true z = refl
            here false z = absurd (cc)

            covered : (c : ℕ) (p : P) (t : Bool) → (c == a) ≡ t → cond t true (f.planned c) ≡ true → cond t ((plans.plan a).covers p) (f.covers c p) ≡ (plans.plan c).covers p
            covered c p true z y = ap (λ (x : ℕ). (plans.plan x).covers p) (sym (equal c a z))
            covered c p false z y = h.covers c p y

    planned_sent : (geometry : Geometry) (b : Books) → Known geometry g m v b → (msg : Message) → MayEnter geometry.n m (Sent msg) → Planned (net_after m (Sent msg)) (seen_after g m v (Sent msg)) (file_after R plans n k g m v f (Sent msg))
    planned_sent geometry b known msg may =
        let a = turn_of g v msg in
        let more = adds geometry.n g m v msg may.0 known.messages in
        let s = sent_plans (turn_of g v msg) msg.body in
        let mid = after_deeds R.form n k (deeds_sent R plans n k g f (turn_of g v msg) msg.body) f in
        let o = acts_rest (acts g m v (Sent msg)) mid in
        let z = deeds_both R.form n k (deeds_sent R plans n k g f (turn_of g v msg) msg.body) (map (dressed R plans n k g) (acts g m v (Sent msg))) f in
        let planned = ap (λ (y : File P V C U S). y.planned) z ∙ o.0 in
        let covers = ap (λ (y : File P V C U S). y.covers) z ∙ o.1 in
        record {
          heads = entry_heads R plans n k g m v f (Sent msg) h.heads;
          planned = λ i x q is body w. ⊎_elim
              (λ y. ap (λ (u : ℕ → Bool). u ((seen_after g m v (Sent msg)).of i)) planned ∙ (ap (λ (j : ℕ). mid.planned j) (ap (λ (j : ℕ). (seen_after g m v (Sent msg)).of j) y.0 ∙ put_here v.of msg.no (turn_of g v msg) msg.no refl) ∙ s.1 q (ap (λ (u : Message). u.body) y.1 ∙ body) w))
              (λ y. ap (λ (u : ℕ → Bool). u ((seen_after g m v (Sent msg)).of i)) planned ∙ s.0 ((seen_after g m v (Sent msg)).of i) (ap f.planned (more.still i x y).1 ∙ h.planned i x q y body w))
              (more.newest i x is);
          covers = λ c p is. ap (λ (u : ℕ → P → Bool). u c p) covers ∙ s.2 c p (sym (ap (λ (u : ℕ → Bool). u c) planned) ∙ is);
        }

    pub planned_entry : (geometry : Geometry) (b : Books) → Known geometry g m v b → (e : Entry) → MayEnter geometry.n m e → Planned (net_after m e) (seen_after g m v e) (file_after R plans n k g m v f e)
    planned_entry geometry b known e may = by (says_of g m v e)
      where
        at : (e : Entry) → MayEnter geometry.n m e → (net_after m e).said ≡ m.said → (seen_after g m v e).of ≡ v.of → Planned (net_after m e) (seen_after g m v e) (file_after R plans n k g m v f e)
        at (Sent msg) may said of = planned_sent geometry b known msg may
        at (Executed i version failed) may said of = planned_stays (Executed i version failed) said of (data_rests (Executed i version failed) (λ msg z. cc))
        at (Torn i count version) may said of = planned_stays (Torn i count version) said of (data_rests (Torn i count version) (λ msg z. cc))
        at e may said of = planned_stays e said of none_rest

        by : Says g m v e → Planned (net_after m e) (seen_after g m v e) (file_after R plans n k g m v f e)
        by (SaysOne msg is) = subst (λ (z : Entry). Planned (net_after m z) (seen_after g m v z) (file_after R plans n k g m v f z)) (sym is) (planned_sent geometry b known msg (subst (λ (z : Entry). MayEnter geometry.n m z) is may))
        by (SaysNone said of next) = at e may said of

    -- ## What data requests owe

    module _ (cover : CoverWrites R plans g m v) (msg : Message) (q : Request) (said : m.said msg.no ≡ Some msg) (body : msg.body ≡ ToBrick q) where
      or_left : (t u : Bool) → t ≡ true → (t || u) ≡ true
      or_left true u e = refl
      or_left false u e = absurd (cc)

      covered : R.is_write g q ≡ true → (p : P) → R.writes g q p ≡ true → f.covers (v.of msg.no) p ≡ true
      covered write p places = h.covers (v.of msg.no) p (h.planned msg.no msg q said body (or_left (R.is_write g q) (is_post_on g q) write)) ∙ cover msg.no msg q p said body write places

      guard_there : IsGuarded v.core (v.of msg.no) msg.brick → IsGuarded f.heads (v.of msg.no) msg.brick
      guard_there = subst (λ (s : State). IsGuarded s (v.of msg.no) msg.brick) (sym h.heads)

      owes_write : R.is_write g q ≡ true → IsGuarded v.core (v.of msg.no) msg.brick → OwesWrite R.form n k f (v.of msg.no) msg.brick (R.writes g q) (Write (v.of msg.no) msg.brick (R.writes g q))
      owes_write write guard =
          let u = guard_there guard in
          record { before = u.before; covered = covered write; sink = λ pre. (u.holds, (u.present, u.version, u.number), h.planned msg.no msg q said body (or_left (R.is_write g q) (is_post_on g q) write), u.met, u.before, covered write) }

      owes_tear : (pieces : P → C) → R.is_write g q ≡ true → IsGuarded v.core (v.of msg.no) msg.brick → OwesWrite R.form n k f (v.of msg.no) msg.brick (R.writes g q) (Tear (v.of msg.no) msg.brick (R.writes g q) pieces)
      owes_tear pieces write guard =
          let u = guard_there guard in
          record { before = u.before; covered = covered write; sink = λ pre. (u.holds, (u.present, u.version, u.number), h.planned msg.no msg q said body (or_left (R.is_write g q) (is_post_on g q) write), u.met, u.before, covered write) }

      if_owes : (t : Bool) (xs ys : List (Deed P V C U S)) → (t ≡ true → Owed xs f) → (t ≡ false → Owed ys f) → Owed (cond t xs ys) f
      if_owes true xs ys x y = x refl
      if_owes false xs ys x y = y refl

      either_owes : (t : Bool) (x y : Deed P V C U S) → (t ≡ true → Owed (x ∷ []) f) → Owed (y ∷ []) f → Owed (cond t x y ∷ []) f
      either_owes true x y u w = u refl
      either_owes false x y u w = w

      changes_it : R.is_write g q ≡ true → is_granted (m.brick msg.brick) q ≡ true → changes_on g q ≡ true
      changes_it write granted = granted_change g (m.brick msg.brick) q (takes g q write) granted

      failed_owes : (version : Option ℕ) (now : Brick) → BodyTornGuarded g m v msg (ToBrick q) version → Owed (deeds_failed R plans n k g (v.of msg.no) msg.brick q version (m.brick msg.brick) now) f
      failed_owes None now guard = tt
      failed_owes (Some version) now guard = if_owes (R.is_write g q && is_partial q) (deeds_partly R plans n k g (v.of msg.no) msg.brick q (m.brick msg.brick) now) []
          (λ e. either_owes (is_granted (m.brick msg.brick) q) (Tear (v.of msg.no) msg.brick (R.writes g q) (pieces_of R plans n k g (now.records g))) (Spoil msg.brick (R.writes g q) (pieces_of R plans n k g (now.records g))) (λ granted. let write = first (R.is_write g q) (is_partial q) e in (owes_tear (pieces_of R plans n k g (now.records g)) write (guard (changes_it write granted) granted), tt)) (tt, tt))
          (λ e. tt)
        where
          first : (t u : Bool) → (t && u) ≡ true → t ≡ true
          first true u e = refl
          first false u e = absurd (cc)

      request_owes : (version : Option ℕ) (failed : Bool) → BodyGuarded g m v msg (ToBrick q) version failed → Owed (deeds_of_request R plans n k g m v f msg (ToBrick q) version failed) f
      request_owes version true guard = failed_owes version (out_of m msg q version true).brick guard
      request_owes version false guard = if_owes (is_done (out_of m msg q version false).says) (cond (R.is_write g q) (deeds_done R plans n k g (v.of msg.no) msg.brick q (m.brick msg.brick) (out_of m msg q version false).brick) []) _
          (λ did. if_owes (R.is_write g q) (deeds_done R plans n k g (v.of msg.no) msg.brick q (m.brick msg.brick) (out_of m msg q version false).brick) []
          (λ write. either_owes (is_granted (m.brick msg.brick) q) (Write (v.of msg.no) msg.brick (R.writes g q)) (Spoil msg.brick (R.writes g q) (pieces_of R plans n k g ((out_of m msg q version false).brick.records g))) (λ granted. (owes_write write (guard (changes_it write granted) granted did), tt)) (tt, tt))
          (λ e. tt))
          (λ e. if_owes (shows (out_of m msg q version false).says && R.is_read g q && is_at_base f.heads (v.of msg.no) msg.brick) (Read (v.of msg.no) msg.brick (R.reads g q) ∷ []) [] (λ z. (tt, tt)) (λ z. tt))

      -- ## What PostOps owe

      module _ (version : Option ℕ) (failed : Bool) where
        written_stays : is_post_on g q ≡ true → (p : P) → (after_deeds R.form n k (deeds_of_request R plans n k g m v f msg (ToBrick q) version failed) f).wrote (v.of msg.no) msg.brick p ≡ f.wrote (v.of msg.no) msg.brick p
        written_stays on = by failed
          where
            else : R.is_write g q ≡ true → is_granted (m.brick msg.brick) q ≡ true → ((v.of msg.no == v.of msg.no) && (msg.brick == msg.brick)) ≡ false
            else write held = absurd (post_none g q on (takes g q write))

            by : (t : Bool) → (p : P) → (after_deeds R.form n k (deeds_of_request R plans n k g m v f msg (ToBrick q) version t) f).wrote (v.of msg.no) msg.brick p ≡ f.wrote (v.of msg.no) msg.brick p
            by true = failed_leaves R takes plans n k g (v.of msg.no) msg.brick f (v.of msg.no) msg.brick q (m.brick msg.brick) else version (out_of m msg q version true).brick
            by false = answered_leaves R takes plans n k g (v.of msg.no) msg.brick f (v.of msg.no) msg.brick q (m.brick msg.brick) else f (out_of m msg q version false)

        find : (qs : List Request) (p : P) → WritesOne R plans g qs p → AreWritten R g f (v.of msg.no) msg.brick qs → f.wrote (v.of msg.no) msg.brick p ≡ true
        find [] p one are = absurd one
        find (s ∷ qs) p (inl z) are = are.0 p z.0 z.1
        find (s ∷ qs) p (inr z) are = find qs p z are.1

        or_last : (t u : Bool) → u ≡ true → (t || u) ≡ true
        or_last true u e = refl
        or_last false u e = e

        commit_owes : (b : Books) → PlansOfChanges R plans g m v b → is_post_on g q ≡ true → HasWritten R g b f (v.of msg.no) msg.call msg.brick msg.no q → (p : P) → (after_deeds R.form n k (deeds_of_request R plans n k g m v f msg (ToBrick q) version failed) f).covers (v.of msg.no) p ≡ true → (after_deeds R.form n k (deeds_of_request R plans n k g m v f msg (ToBrick q) version failed) f).wrote (v.of msg.no) msg.brick p ≡ true
        commit_owes b changes on w p covers =
            let was = sym (ap (λ (z : ℕ → P → Bool). z (v.of msg.no) p) (request_rests m v f msg q version failed f).1) ∙ covers in
            let plan = sym (h.covers (v.of msg.no) p (h.planned msg.no msg q said body (or_last (R.is_write g q) (is_post_on g q) on))) ∙ was in
            written_stays on p ∙ find _ p (changes msg.no msg q w.given w.front w.back w.head said body on w.made w.own_is w.group w.all p plan) w.written

        acts_owe : (b : Books) → PlansOfChanges R plans g m v b → (is_post_on g q ≡ true → HasWritten R g b f (v.of msg.no) msg.call msg.brick msg.no q) → (moment : ℕ → Bool) → IsSound g m.said v.of moment msg.call msg.brick msg.no q → Owed (map (dressed R plans n k g) (acts_of_request g m v msg (ToBrick q) version failed)) (after_deeds R.form n k (deeds_of_request R plans n k g m v f msg (ToBrick q) version failed) f)
        acts_owe b changes wrote moment sound = by (is_done (out_of m msg q version failed).says && is_post_on g q) refl
          where
            easy : Easy (acts_locks g m v msg.brick (m.brick msg.brick).asks (out_of m msg q version failed).brick.asks)
            easy = easy_locks g m v msg.brick (m.brick msg.brick).asks (out_of m msg q version failed).brick.asks

            both_true : (t u : Bool) → (t && u) ≡ true → (t ≡ true) × (u ≡ true)
            both_true true u e = (refl, e)
            both_true false u e = absurd (cc)

            posted : (es : List Act) → is_post_on g q ≡ true → (es ≡ Post (v.of msg.no) msg.brick ∷ []) ⊎ (es ≡ Sink_post (v.of msg.no) msg.brick ∷ []) → Owed (map (dressed R plans n k g) (es ++ acts_locks g m v msg.brick (m.brick msg.brick).asks (out_of m msg q version failed).brick.asks)) (after_deeds R.form n k (deeds_of_request R plans n k g m v f msg (ToBrick q) version failed) f)
            posted es on (inl e) = subst (λ (xs : List Act). Owed (map (dressed R plans n k g) (xs ++ acts_locks g m v msg.brick (m.brick msg.brick).asks (out_of m msg q version failed).brick.asks)) (after_deeds R.form n k (deeds_of_request R plans n k g m v f msg (ToBrick q) version failed) f)) (sym e) (commit_owes b changes on (wrote on), easy_owes (acts_locks g m v msg.brick (m.brick msg.brick).asks (out_of m msg q version failed).brick.asks) _ easy)
            posted es on (inr e) = subst (λ (xs : List Act). Owed (map (dressed R plans n k g) (xs ++ acts_locks g m v msg.brick (m.brick msg.brick).asks (out_of m msg q version failed).brick.asks)) (after_deeds R.form n k (deeds_of_request R plans n k g m v f msg (ToBrick q) version failed) f)) (sym e) (commit_owes b changes on (wrote on), easy_owes (acts_locks g m v msg.brick (m.brick msg.brick).asks (out_of m msg q version failed).brick.asks) _ easy)

            by : (t : Bool) → (is_done (out_of m msg q version failed).says && is_post_on g q) ≡ t → Owed (map (dressed R plans n k g) (acts_of_request g m v msg (ToBrick q) version failed)) (after_deeds R.form n k (deeds_of_request R plans n k g m v f msg (ToBrick q) version failed) f)
            by false e = easy_owes (acts_of_request g m v msg (ToBrick q) version failed) _ (easy_both (acts_worked g (v.of msg.no) msg.brick (counted v.core (v.of msg.no) (exclusive g Inode (m.brick msg.brick).asks)) q (out_of m msg q version failed).says) _ (easy_worked g (v.of msg.no) msg.brick (counted v.core (v.of msg.no) (exclusive g Inode (m.brick msg.brick).asks)) q (out_of m msg q version failed).says e (unmarking g m.said v.of moment msg.call msg.brick msg.no q sound)) easy)
            by true e = let o = both_true (is_done (out_of m msg q version failed).says) (is_post_on g q) e in posted (acts_worked g (v.of msg.no) msg.brick (counted v.core (v.of msg.no) (exclusive g Inode (m.brick msg.brick).asks)) q (out_of m msg q version failed).says) o.1 (worked_post g (v.of msg.no) msg.brick (counted v.core (v.of msg.no) (exclusive g Inode (m.brick msg.brick).asks)) q (out_of m msg q version failed).says o.0 o.1)

    -- ## Entries

    module _ (geometry : Geometry) (b : Books) (known : Known geometry g m v b) (cover : CoverWrites R plans g m v) (changes : PlansOfChanges R plans g m v b) where
      executed_owes : (i : ℕ) (version : Option ℕ) (failed : Bool) → MayExecute m i version failed → EntryGuarded g m v (Executed i version failed) → EntryWrites R g m v b f (Executed i version failed) → Owed (deeds R plans n k g m v f (Executed i version failed)) f
      executed_owes i version failed may guards writes =
          subst (λ (o : Option Message). Owed (deeds_executed R plans n k g m v f o version failed ++ map (dressed R plans n k g) (acts_executed g m v o version failed)) f) (sym may.at.said)
          (subst (λ (z : Body). Owed (deeds_of_request R plans n k g m v f may.message z version failed ++ map (dressed R plans n k g) (acts_of_request g m v may.message z version failed)) f) (sym may.at.body)
          (both R.form n k (deeds_of_request R plans n k g m v f may.message (ToBrick may.request) version failed) (map (dressed R plans n k g) (acts_of_request g m v may.message (ToBrick may.request) version failed)) f
          (request_owes cover may.message may.request said may.at.body version failed (subst (λ (z : Body). BodyGuarded g m v may.message z version failed) may.at.body (subst (λ (o : Option Message). MessageGuarded g m v o version failed) may.at.said guards)))
          (acts_owe cover may.message may.request said may.at.body version failed b changes (subst (λ (z : Body). BodyWrites R g m v b f may.message z version failed) may.at.body (subst (λ (o : Option Message). MessageWrites R g m v b f o version failed) may.at.said writes)) v.core.moment (known.sound may.message.no may.message may.request said may.at.body))))
        where
          said : m.said may.message.no ≡ Some may.message
          said = ap m.said (known.messages.number i may.message may.at.said).0 ∙ may.at.said

      torn_owes : (i count : ℕ) (version : Option ℕ) → MayTear m i count version → EntryGuarded g m v (Torn i count version) → Owed (deeds R plans n k g m v f (Torn i count version)) f
      torn_owes i count version may guards =
          subst (λ (o : Option Message). Owed (deeds_torn R plans n k g m v o count version ++ map (dressed R plans n k g) (acts_torn o)) f) (sym may.at.said)
          (subst (λ (z : Body). Owed (deeds_of_torn R plans n k g m v may.message z count version ++ map (dressed R plans n k g) (Stop may.message.brick ∷ [])) f) (sym may.at.body)
          (both R.form n k (deeds_of_torn R plans n k g m v may.message (ToBrick may.request) count version) (map (dressed R plans n k g) (Stop may.message.brick ∷ [])) f
          (failed_owes cover may.message may.request said may.at.body version (torn_out m may.message may.request count version).brick (subst (λ (z : Body). BodyTornGuarded g m v may.message z version) may.at.body (subst (λ (o : Option Message). TornGuarded g m v o version) may.at.said guards)))
          (easy_owes (Stop may.message.brick ∷ []) (after_deeds R.form n k (deeds_of_torn R plans n k g m v may.message (ToBrick may.request) count version) f) (refl, tt))))
        where
          said : m.said may.message.no ≡ Some may.message
          said = ap m.said (known.messages.number i may.message may.at.said).0 ∙ may.at.said

      sent_owes : (a : ℕ) (z : Body) → Owed (deeds_sent R plans n k g f a z) f
      sent_owes a (ToClient re reply) = tt
      sent_owes a (ToBrick q) = by ((R.is_write g q || is_post_on g q) && not (f.planned a))
        where
          by : (t : Bool) → Owed (cond t (Intend a (plans.plan a) ∷ []) []) f
          by true = (tt, tt)
          by false = tt

      entry_owes : (e : Entry) → MayEnter geometry.n m e → EntryGuarded g m v e → EntryWrites R g m v b f e → Owed (deeds R plans n k g m v f e) f
      entry_owes (Executed i version failed) may guards writes = executed_owes i version failed may guards writes
      entry_owes (Torn i count version) may guards writes = torn_owes i count version may guards
      entry_owes (Sent msg) may guards writes = both R.form n k (deeds_sent R plans n k g f (turn_of g v msg) msg.body) (map (dressed R plans n k g) (acts g m v (Sent msg))) f (sent_owes (turn_of g v msg) msg.body) (easy_owes (acts g m v (Sent msg)) (after_deeds R.form n k (deeds_sent R plans n k g f (turn_of g v msg) msg.body) f) (easy_sent g v.core (turn_of g v msg) msg.body))
      entry_owes (Called a client op) may guards writes = tt
      entry_owes (Heard i) may guards writes = tt
      entry_owes (Lost i) may guards writes = tt
      entry_owes (GivenUp client brick i) may guards writes = tt
      entry_owes (Stopped c) may guards writes = easy_owes (Stop c ∷ []) f (refl, tt)
      entry_owes (Returned c) may guards writes = tt
      entry_owes (Cut client c) may guards writes = easy_owes (acts g m v (Cut client c)) f (easy_locks g m v c (m.brick c).asks (cut_off (m.brick c) client).brick.asks)
      entry_owes (Died client) may guards writes = tt
      entry_owes (Yielded client) may guards writes = tt
      entry_owes (Answered a answer) may guards writes = tt
      entry_owes (Replaced c removed all) may guards writes = easy_owes (acts g m v (Replaced c removed all)) f (easy_if (is_some ((m.brick c).records g) && not (is_some (wiped removed all (m.brick c).records g))) (Replace c ∷ []) [] (refl, tt) tt)

  -- ## Logs

  module _ (geometry : Geometry) (left : ℕ → Leaving) (none : (a : ℕ) → (left a).kept ≡ None) (first : ℕ) (origins : ℕ → ℕ) (new : (h : ℕ) → first ≤ h → origins h ≡ 0) where
    all_owed : (es : List Entry) (m : Net) (vs : ℕ → View) (t : Story) (b : Books) (f : File P V C U S) → IsRun geometry.n es m → ArePlain es → Kept geometry left none (books geometry left es m t b) → Reaches geometry first origins m vs t b → Planned m (vs g) f → AllGuarded g es m (vs g) → AllWrite R plans geometry left n k g es m (vs g) t b f → Always (CoverWrites R plans g) g es m (vs g) → AlwaysOfCalls (PlansOfChanges R plans g) geometry left g es m (vs g) t b → Owed (all_deeds R plans n k g es m (vs g) f) f
    all_owed [] m vs t b f runs plain kept k' h guards writes cover changes = tt
    all_owed (e ∷ es) m vs t b f runs plain kept k' h guards writes cover changes =
        let p = plain_first e es plain in
        let known = (k'.reached g).known in
        let may = kept_there geometry left none e es m t b runs plain known.numbers kept in
        both R.form n k (deeds R plans n k g m (vs g) f e) (all_deeds R plans n k g es (net_after m e) (seen_after g m (vs g) e) (file_after R plans n k g m (vs g) f e)) f
        (entry_owes m (vs g) f h geometry b known cover.0 changes.0 e runs.0 guards.0 writes.0)
        (all_owed es (net_after m e) (λ h. seen_after h m (vs h) e) (told geometry m t e) (booked geometry left m t b e) (file_after R plans n k g m (vs g) f e) runs.1 p.1 kept (reaches_then geometry left none first origins new m vs t b e p.0 runs.0 may k') (planned_entry m (vs g) f h geometry b known e runs.0) guards.1 writes.1 cover.1 changes.1)

module _ {P V C U S : Type 0} where
  owed : (R : Reading P V C U S) → TakesWriters R → OwedInEveryLog R
  owed R takes plans config records bricks tree next g es flat shape piece value start runs plain orderly before cover changes version =
      all_owed R takes plans config.geometry.n (quorum config.geometry) g config.geometry orderly.left orderly.none_kept next (λ h. (tree h).version) (λ h le. unversioned config records bricks tree next h start le) es (fresh bricks) (λ h. begun config records tree next h) (opening tree next) no_books (begun_file R config records g flat shape piece value) runs plain (λ a given h. (orderly.conduct a given h, orderly.order a given h))
      (reaches_start config records bricks tree next (λ a. a) most start)
      (record {
        heads = ap (λ (origin : ℕ). begin config.geometry.n origin (first_heads config.geometry.n records g) (is_new config.geometry.n records g) (λ a. a)) version;
        planned = λ i x q is body w. absurd (some_none x (sym is));
        covers = λ a p is. absurd (cc);
      })
      (guard_laws.guarded config records bricks tree next g es start runs plain orderly before)
      ((written_laws R takes).written plans config records bricks tree next g es (begun_file R config records g flat shape piece value) start runs plain orderly before)
      cover changes
    where
      most : config.geometry.n < quorum config.geometry + quorum config.geometry
      most = let h = config.geometry.majority in omega (arith, h)

  pub laws : (R : Reading P V C U S) → TakesWriters R → OwingLaws R
  laws R takes = record { owed = owed R takes; in_parts = λ n k. parts R.form n k }
