-- The plans of a file's turns go on by each entry of a log: what a turn plans is a plan, and the entry owes nothing.
use Rattle.std.proofs.Common.{◌≡◌, ℕ, ◌+◌, ◌^◌, ◌<◌, ◌≤◌, Bool, true, false, ◌&&◌, ◌||◌, Option, Some, None, List, [], ◌∷◌, refl, sym, ◌∙◌, ap, subst, arith}
use Rattle.std.specs.Prelude.{unwrap_or}
use Rattle.ec_attr.specs.Head.{new_attr}
use Rattle.ec_attr.specs.declared.geometry.Geometry.{Geometry}
use Rattle.ec_attr.specs.declared.head.Head.{Head}
use Rattle.ec_attr.specs.declared.kind.Kind.{Kind}
use Rattle.ec_conduct.specs.Given.{Given, quorum, quorum_of}
use Rattle.ec_conduct.specs.Opened.{account}
use Rattle.ec_history.specs.Accounts.{Books, Leaving, booked}
use Rattle.ec_history.specs.IsRun.{May as MayEnter, MaySay}
use Rattle.ec_history.specs.Run.{Net, after as net_after}
use Rattle.ec_history.specs.Story.{Story}
use Rattle.ec_wire.specs.declared.entry.Entry.{Entry}
use Rattle.ec_wire.specs.declared.entry.Entry.TheVariants.{Sent, Executed}
use Rattle.ec_wire.specs.declared.message.Body.{Body}
use Rattle.ec_wire.specs.declared.message.Body.TheVariants.{ToBrick, ToClient}
use Rattle.ec_wire.specs.declared.message.Message.{Message}
use Rattle.ec_wire.specs.declared.request.Request.{Request}
use Rattle.ec_wire.specs.declared.request.Request.TheVariants.{Make, PreOp, SetLength, WriteChunks, PostOp}
use Rattle.ec_law_base.specs.State.{State}
use Rattle.ec_law_ballots.specs.Guard.{Runs}
use Rattle.ec_law_pieces.specs.Deed.{IsPlan, Plan}
use Rattle.ec_law_net.specs.Turns.{View, acts, is_lock_on, is_over, seen_after, turn_after, turn_of}
use Rattle.ec_law_turns.specs.Known.{Known}
use Rattle.ec_law_turns.specs.Orderly.{ArePlain}
use Rattle.ec_law_turns.specs.Reached.{Reached}
use Rattle.ec_law_turns.specs.Shown.{Shown}
use Rattle.ec_law_turns.specs.Told.{Told}
use Rattle.ec_law_turns.proofs.Basics.{put_here}
use Rattle.ec_law_turns.proofs.Runs.{Kept, kept_there, plain_first}
use Rattle.ec_law_turns.proofs.SentKnown.{BodyKept}
use Rattle.ec_law_turns.proofs.Sends.{of_after, said_after}
use Rattle.ec_law_turns.proofs.Steps.{EntryKept}
use Rattle.ec_law_turns.proofs.Turned.{turn_kept}
use Rattle.ec_law_data.specs.Coding.{by_rows}
use Rattle.ec_law_data.specs.Deeds.{deeds, file_after, is_post_on}
use Rattle.ec_law_data.specs.Forms.{Piece, Shape, is_data}
use Rattle.ec_law_data.specs.Link.{EntryCoded}
use Rattle.ec_law_data.specs.Reading.{Reading}
use Rattle.ec_law_data.proofs.Reaching.{Reaches, gone, reached_then}
use Rattle.ec_law_files.specs.Filing.{AllChunks, AreRows, EntryChosen, BodyChosen, FilePlans, HaveFilePlans, PlansFirst, StripeFile, chosen_at, plan_of}
use Rattle.ec_law_files.specs.Laws.{EntryMade}
use Rattle.ec_law_files.specs.Plans.{ReadsBytes, ReadsOld, form_by}
use Rattle.ec_law_files.specs.Stripes.{Making}
use Rattle.ec_law_files.proofs.FilingLaws.{filing_laws}
use Rattle.ec_law_plans.specs.Extend.{Agree}
use Rattle.ec_law_reads.proofs.Leading.{IsBeside}
use Rattle.ec_law_reads.specs.Units.{of_units}
use Rattle.ec_law_shapes.specs.Fitting.{AllOweShape, BodyFits, EntryFits, MessageFits, SentFits}
use Rattle.ec_law_shapes.specs.Shadows.{HasShapes}
use Rattle.ec_law_shapes.specs.Shapes.{head_shape}
use Rattle.ec_law_shapes.proofs.Asking.{took_group, writes_number}
use Rattle.ec_law_shapes.proofs.Facts.{Facts, facts}
use Rattle.ec_law_shapes.proofs.Logs.{last as shapes_last}
use Rattle.ec_law_stripes.specs.Bytes.{low, low_byte}
use Rattle.ec_law_stripes.specs.Given.{MakesFile}
use Rattle.ec_law_stripes.proofs.Bytes.{bytes_fit}
use Rattle.ec_law_stripes.proofs.Others.{Else, entry_else}
use Rattle.ec_law_stripes.proofs.SameDeeds.{after_same, coded_same}

low_reads : ReadsBytes low
low_reads x lt = omega (arith, lt)

-- a request that plans asks for no lock
plans_no_lock : (g : ℕ) (q : Request) → (is_data g q || is_post_on g q) ≡ true → is_lock_on g (ToBrick q) ≡ false
plans_no_lock g (WriteChunks x n first chunks) e = refl
plans_no_lock g (SetLength x n keep count) e = refl
plans_no_lock g (PostOp x n at version size attr) e = refl
plans_no_lock g q e = absurd (cc)

-- the turn of a call that asks for nothing is the one that it has
turn_has : (g : ℕ) (v : View) (msg : Message) → is_lock_on g msg.body ≡ false → 2 ^ 61 ≤ turn_of g v msg → v.turn msg.call ≡ Some (turn_of g v msg)
turn_has g v msg free begun = by (v.turn msg.call) refl
  where
    shut : (t u : Bool) → t ≡ false → (t && u) ≡ false
    shut false u e = refl
    shut true u e = absurd (cc)

    same : turn_of g v msg ≡ unwrap_or (v.turn msg.call) 0
    same = ap (λ (o : Option ℕ). unwrap_or o 0) (turn_kept g v msg msg.call (shut (is_lock_on g msg.body) (is_over v.core (v.turn msg.call)) free))

    by : (o : Option ℕ) → v.turn msg.call ≡ o → v.turn msg.call ≡ Some (turn_of g v msg)
    by None e = absurd (let z : turn_of g v msg ≡ 0 = same ∙ ap (λ (o : Option ℕ). unwrap_or o 0) e in omega (arith, z, begun))
    by (Some t) e = e ∙ ap (λ (y : ℕ). Some y) (sym (same ∙ ap (λ (o : Option ℕ). unwrap_or o 0) e))

module _ (rows : ℕ → ℕ → ℕ) (makings : ℕ → Making) (geometry : Geometry) (left : ℕ → Leaving) (none : (a : ℕ) → (left a).kept ≡ None) (first : ℕ) (origins : ℕ → ℕ) (new_origins : (h : ℕ) → first ≤ h → origins h ≡ 0) (g : ℕ) (are : AreRows geometry rows) where
  abbrev n : ℕ
  n = geometry.n

  abbrev k : ℕ
  k = quorum geometry

  abbrev R : Reading ℕ (List (List ℕ)) Piece ℕ Shape
  R = of_units low_byte (quorum geometry) (by_rows (quorum geometry) rows)

  -- what a turn was given of a stripe is what its call takes for the old one
  abbrev pub Reads : View → Books → StripeFile → Type 0
  Reads v b f = (a t : ℕ) (given : Given) → b.given a ≡ Some given → v.turn a ≡ Some t → f.planned t ≡ false → (head : Head) → ReadsOld low (quorum_of given) (by_rows (quorum geometry) rows) geometry.n (quorum geometry) f t (account given (b.own a)) g head

  -- Turn a plans what its call makes, by the head of its group, whose size is that of the turn.
  pub record PlansNow (f : StripeFile) (plans : FilePlans) (a call : ℕ) (b : Books) : Type 0 where
    pub given : Given
    pub made : b.given call ≡ Some given
    pub head : Head
    pub plan : plans.plan a ≡ plan_of makings call given head
    pub size : (f.took a).size ≡ head.size
    pub begun : 2 ^ 61 ≤ a
    pub number : 0 < (f.heads.ballot a).number

  -- each Make of the gfid makes a file
  abbrev pub AllFiles : Net → Type 0
  AllFiles m = (i : ℕ) (x : Message) (q : Request) → m.said i ≡ Some x → x.body ≡ ToBrick q → MakesFile g q

  -- All that is known where entry e comes.
  pub record AtEntry (e : Entry) (m : Net) (vs : ℕ → View) (t : Story) (b : Books) (f : StripeFile) : Type 0 where
    pub may : MayEnter geometry.n m e
    pub plain : ArePlain (e ∷ [])
    pub kept : Kept geometry left none (booked geometry left m t b e)
    pub reaches : Reaches geometry first origins m vs t b
    pub heads : f.heads ≡ (vs g).core
    pub have : HaveFilePlans makings g m (vs g) b f
    pub shapes : HasShapes geometry.n (quorum geometry) first g (of_units low_byte (quorum geometry) (by_rows (quorum geometry) rows)).new m (vs g) b f
    pub beside : IsBeside (of_units low_byte (quorum geometry) (by_rows (quorum geometry) rows)) geometry.n (quorum geometry) g m (vs g) f
    pub made : EntryMade makings b e
    pub chunks : AllChunks m
    pub files : AllFiles m
    pub reads : Reads (vs g) b f

  module _ (e : Entry) (m : Net) (vs : ℕ → View) (t : Story) (b : Books) (f : StripeFile) (at : AtEntry e m vs t b f) (old : FilePlans) where
    abbrev v : View
    v = vs g

    abbrev new : FilePlans
    new = chosen_at makings g v b f e old

    abbrev c : Books
    c = booked geometry left m t b e

    known : Known geometry g m v b
    known = (at.reaches.reached g).known

    shown : Shown geometry g m.said m.next v.turn v.of m.owed v.core b
    shown = (at.reaches.reached g).shown

    entry_kept : EntryKept m b e
    entry_kept = kept_there geometry left none e [] m t b (at.may, tt) at.plain known.numbers at.kept

    most : geometry.n < quorum geometry + quorum geometry
    most = let h = geometry.majority in omega (arith, h)

    -- ## The plans

    pub agree : Agree f old new
    agree = record { took = λ a lt. filing_laws.took_stays makings g v b f e old a lt; plan = λ a p. filing_laws.plan_stays makings g v b f e old a p }

    chosen : EntryChosen makings g v b f new e
    chosen = filing_laws.chosen makings g v b f e old

    pub have_then : HaveFilePlans makings g (net_after m e) (seen_after g m v e) c (file_after (of_units low_byte (quorum geometry) (by_rows (quorum geometry) rows)) new geometry.n (quorum geometry) g m v f e)
    have_then = subst (λ (z : StripeFile). HaveFilePlans makings g (net_after m e) (seen_after g m v e) c z) (sym (after_same low_byte (quorum geometry) (by_rows (quorum geometry) rows) new geometry.n (quorum geometry) g m v f e))
        (filing_laws.kept geometry left none makings (quorum geometry) (by_rows (quorum geometry) rows) new geometry.n (quorum geometry) g m v t b f e at.may entry_kept known shown at.made chosen at.have)

    -- the plan of a turn that plans now
    plan_is : (msg : Message) (q : Request) → e ≡ Sent msg → msg.body ≡ ToBrick q → (is_data g q || is_post_on g q) ≡ true → f.planned (turn_of g v msg) ≡ false → (given : Given) (head : Head) → b.given msg.call ≡ Some given → Rattle.ec_conduct.specs.Standing.group_of (account given (b.own msg.call)) g ≡ Some head → new.plan (turn_of g v msg) ≡ plan_of makings msg.call given head
    plan_is msg q is body w free given head made group =
        subst (λ (z : Body). BodyChosen makings g v b f new msg z) body (subst (λ (x : Entry). EntryChosen makings g v b f new x) is chosen) w free given head made group

    -- ## Shapes

    fits : EntryFits (of_units low_byte (quorum geometry) (by_rows (quorum geometry) rows)) new g m v b f e
    fits = by e refl
      where
        sent : (msg : Message) → e ≡ Sent msg → (q : Request) → msg.body ≡ ToBrick q → SentFits (of_units low_byte (quorum geometry) (by_rows (quorum geometry) rows)) new g v b f msg (ToBrick q)
        sent msg is q body = (took q, λ w free given head made group. ap (λ (z : Plan ℕ (List (List ℕ)) ℕ Shape). z.becomes) (plan_is msg q is body w free given head made group))
          where
            took : (r : Request) → Rattle.ec_law_shapes.specs.Fitting.TookFits (of_units low_byte (quorum geometry) (by_rows (quorum geometry) rows)) new g v b msg r
            took (PreOp x i from number) = λ on zero given head made group.
                subst (λ (y : Entry). (chosen_at makings g v b f y old).took (turn_of g v msg) ≡ head_shape head) (sym is)
                (filing_laws.took makings g v b f msg old given head made group (ap (λ (s : State). (s.ballot (turn_of g v msg)).number) at.heads ∙ zero))
            took r = tt

        made_by : (q : Request) → MakesFile g q → BodyFits (of_units low_byte (quorum geometry) (by_rows (quorum geometry) rows)) new g (ToBrick q)
        made_by (Make x i child) h = λ on. ap (λ (kind : Kind). record { size = 0; attr = new_attr kind }) (sym (h on))
        made_by q h = tt

        message : (i : ℕ) (o : Option Message) → m.said i ≡ o → MessageFits (of_units low_byte (quorum geometry) (by_rows (quorum geometry) rows)) new g o
        message i None is = tt
        message i (Some msg) is = body msg.body refl
          where
            body : (z : Body) → msg.body ≡ z → BodyFits (of_units low_byte (quorum geometry) (by_rows (quorum geometry) rows)) new g z
            body (ToClient re reply) own = tt
            body (ToBrick q) own = made_by q (at.files i msg q is own)

        by : (x : Entry) → e ≡ x → EntryFits (of_units low_byte (quorum geometry) (by_rows (quorum geometry) rows)) new g m v b f x
        by (Sent msg) is = body msg.body refl
          where
            body : (z : Body) → msg.body ≡ z → SentFits (of_units low_byte (quorum geometry) (by_rows (quorum geometry) rows)) new g v b f msg z
            body (ToClient re reply) own = tt
            body (ToBrick q) own = sent msg is q own
        by (Executed i version failed) is = message i (m.said i) refl
        by x is = tt

    shape_step : AllOweShape (of_units low_byte (quorum geometry) (by_rows (quorum geometry) rows)).form geometry.n (quorum geometry) (deeds (of_units low_byte (quorum geometry) (by_rows (quorum geometry) rows)) new geometry.n (quorum geometry) g m v f e) f
        × HasShapes geometry.n (quorum geometry) first g (of_units low_byte (quorum geometry) (by_rows (quorum geometry) rows)).new (net_after m e) (seen_after g m v e) c (file_after (of_units low_byte (quorum geometry) (by_rows (quorum geometry) rows)) new geometry.n (quorum geometry) g m v f e)
    shape_step = shapes_last (of_units low_byte (quorum geometry) (by_rows (quorum geometry) rows)) (bytes_fit (quorum geometry) rows) new g geometry left none first origins new_origins e [] m vs t b f (at.may, tt) at.plain at.kept at.reaches at.shapes fits

    pub shapes_then : HasShapes geometry.n (quorum geometry) first g (of_units low_byte (quorum geometry) (by_rows (quorum geometry) rows)).new (net_after m e) (seen_after g m v e) c (file_after (of_units low_byte (quorum geometry) (by_rows (quorum geometry) rows)) new geometry.n (quorum geometry) g m v f e)
    shapes_then = shape_step.1

    -- ## What the entry owes

    runs : Runs geometry.n (quorum geometry) (acts g m v e) v.core
    runs = (gone geometry left none first origins new_origins m vs t b e (plain_first e [] at.plain).0 at.may entry_kept at.reaches g).runs

    pub reached_next : Reached geometry g (net_after m e) (seen_after g m v e) c
    reached_next = reached_then geometry left none first origins new_origins m vs t b e (plain_first e [] at.plain).0 at.may entry_kept at.reaches g

    facts_now : Facts geometry.n (quorum geometry) f
    facts_now = facts geometry.n (quorum geometry) g most (omega arith) m v f at.shapes.shadow

    -- a message by which its turn plans
    module _ (msg : Message) (q : Request) (is : e ≡ Sent msg) (body : msg.body ≡ ToBrick q) (w : (is_data g q || is_post_on g q) ≡ true) (free : f.planned (turn_of g v msg) ≡ false) where
      may' : MayEnter geometry.n m (Sent msg)
      may' = subst (λ (x : Entry). MayEnter geometry.n m x) is at.may

      kept' : BodyKept m b msg msg.body
      kept' = subst (λ (x : Entry). EntryKept m b x) is entry_kept

      given : (given : Given) × (b.given msg.call ≡ Some given)
      given =
          let asker = subst (λ (z : Body). MaySay geometry.n m msg z) body may'.1 in
          let begun = known.numbers.made msg.call asker.asker asker.made in
          (begun.1, begun.2)

      same_geometry : given.0.geometry ≡ geometry
      same_geometry = (known.numbers.given_below msg.call given.0 given.1).1.geometry_is

      plans : PlansFirst makings g b f (turn_of g v msg) msg.call given.0
      plans = filing_laws.first geometry makings g m v b f msg q given.0 may'.0 may'.1 kept' known shown (subst (λ (x : Entry). EntryMade makings b x) is at.made) at.have body given.1 w free

      begun : 2 ^ 61 ≤ turn_of g v msg
      begun = subst (λ (x : ℕ). 2 ^ 61 ≤ x) (put_here v.of msg.no (turn_of g v msg) msg.no refl)
          ((subst (λ (x : Entry). HaveFilePlans makings g (net_after m x) (seen_after g m v x) (booked geometry left m t b x) (file_after (of_units low_byte (quorum geometry) (by_rows (quorum geometry) rows)) new geometry.n (quorum geometry) g m v f x)) is have_then).sent msg.no msg q (put_here m.said msg.no (Some msg) msg.no refl) body w).1

      turn : v.turn msg.call ≡ Some (turn_of g v msg)
      turn = turn_has g v msg (ap (is_lock_on g) body ∙ plans_no_lock g q w) begun

      told_then : (r : Request) → msg.body ≡ ToBrick r → Told geometry.n (quorum geometry) g (said_after m msg) (of_after g v msg) (Rattle.ec_law_ballots.specs.Act.after (Rattle.ec_law_net.specs.Turns.acts_sent g v.core (turn_of g v msg) msg.body) v.core) (turn_of g v msg) msg.brick r
      told_then r own =
          let later = subst (λ (x : Entry). Reached geometry g (net_after m x) (seen_after g m v x) (booked geometry left m t b x)) is reached_next in
          subst (λ (u : ℕ). Told geometry.n (quorum geometry) g (net_after m (Sent msg)).said (seen_after g m v (Sent msg)).of (seen_after g m v (Sent msg)).core u msg.brick r) (put_here v.of msg.no (turn_of g v msg) msg.no refl) (later.shown.asked msg.no msg r (put_here m.said msg.no (Some msg) msg.no refl) own)

      number : 0 < (v.core.ballot (turn_of g v msg)).number
      number = writes_number (of_units low_byte (quorum geometry) (by_rows (quorum geometry) rows)) (bytes_fit (quorum geometry) rows) new geometry g first m v b f (at.reaches.reached g) at.shapes.follow facts_now msg may'.0 may'.1 kept' (subst (λ (x : Entry). Runs geometry.n (quorum geometry) (acts g m v x) v.core) is runs) told_then (subst (λ (x : Entry). EntryFits (of_units low_byte (quorum geometry) (by_rows (quorum geometry) rows)) new g m v b f x) is fits) q body w

      took : (f.took (turn_of g v msg)).size ≡ plans.head.size
      took = ap (λ (s : Shape). s.size) (took_group (of_units low_byte (quorum geometry) (by_rows (quorum geometry) rows)) (bytes_fit (quorum geometry) rows) new geometry g first m v b f (at.reaches.reached g) at.shapes.follow facts_now msg.call (turn_of g v msg) given.0 plans.head given.1 turn number plans.group)

      pub plan_now : IsPlan (of_units low_byte (quorum geometry) (by_rows (quorum geometry) rows)).form geometry.n (quorum geometry) f (turn_of g v msg) (new.plan (turn_of g v msg))
      plan_now =
          subst (λ (z : Geometry). IsPlan (form_by low (quorum z) (by_rows (quorum geometry) rows)) geometry.n (quorum geometry) f (turn_of g v msg) (new.plan (turn_of g v msg))) same_geometry
          (subst (λ (p : Plan ℕ (List (List ℕ)) ℕ Shape). IsPlan (form_by low (quorum_of given.0) (by_rows (quorum geometry) rows)) geometry.n (quorum geometry) f (turn_of g v msg) p) (sym (plan_is msg q is body w free given.0 plans.head given.1 plans.group))
          (plans.plan low low_reads geometry.n (quorum geometry) (by_rows (quorum geometry) rows) took (at.reads msg.call (turn_of g v msg) given.0 given.1 turn free plans.head)))

      -- what it plans, by whose head
      pub now_planned : PlansNow f new (turn_of g v msg) msg.call b
      now_planned = record {
        given = given.0;
        made = given.1;
        head = plans.head;
        plan = plan_is msg q is body w free given.0 plans.head given.1 plans.group;
        size = took;
        begun = begun;
        number = subst (λ (s : State). 0 < (s.ballot (turn_of g v msg)).number) (sym at.heads) number;
      }

    pub else_now : Else (of_units low_byte (quorum geometry) (by_rows (quorum geometry) rows)) new geometry.n (quorum geometry) g (deeds (of_units low_byte (quorum geometry) (by_rows (quorum geometry) rows)) new geometry.n (quorum geometry) g m v f e) f
    else_now = entry_else low_byte (quorum geometry) (by_rows (quorum geometry) rows) new geometry g m v (at.reaches.reached g).linked (at.reaches.reached g).locks f at.beside e at.may (λ msg q is body w free. plan_now msg q is body w free) shape_step.0

    pub coded_now : EntryCoded (of_units low_byte (quorum geometry) (by_rows (quorum geometry) rows)) g m v f e
    coded_now = coded_same low_byte (quorum geometry) (by_rows (quorum geometry) rows) g m v f e (filing_laws.coded geometry rows makings g m v b f e known at.have at.chunks are)
