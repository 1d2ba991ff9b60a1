-- Plans for the stripes of a file, entry by entry, for which all of the log owes nothing.
use Rattle.std.proofs.Common.{◌≡◌, ℕ, ◌+◌, ◌-◌, ◌^◌, ◌<◌, ◌≤◌, Bool, true, false, ◌||◌, Some, None, List, [], ◌∷◌, ◌++◌, refl, sym, ◌∙◌, ap, subst, arith, inl, inr, cond}
use Rattle.ec_attr.specs.Head.{new_attr}
use Rattle.ec_attr.specs.declared.config.Config.{Config}
use Rattle.ec_attr.specs.declared.geometry.Geometry.{Geometry}
use Rattle.ec_attr.specs.declared.head.Head.{Head}
use Rattle.ec_attr.specs.declared.kind.Kind.TheVariants.{File as FileKind}
use Rattle.ec_brick.specs.State.{State as Brick}
use Rattle.ec_conduct.specs.Given.{Given, quorum, quorum_of}
use Rattle.ec_conduct.specs.Opened.{account}
use Rattle.ec_history.specs.Accounts.{Books, Leaving, booked, books, no_books}
use Rattle.ec_history.specs.Flat.{Tree}
use Rattle.ec_history.specs.IsRun.{AreChunks, IsRun}
use Rattle.ec_history.specs.Run.{Net, after as net_after, call_of, fresh, run}
use Rattle.ec_history.specs.Starts.{IsStart}
use Rattle.ec_history.specs.Story.{Story, opening, story}
use Rattle.ec_history.proofs.Runs.{front as front_runs, rest as rest_runs}
use Rattle.ec_store.specs.Records.{Records}
use Rattle.ec_stripe.specs.Span.{stripe_bytes}
use Rattle.ec_wire.specs.declared.entry.Entry.{Entry}
use Rattle.ec_wire.specs.declared.entry.Entry.TheVariants.{Sent}
use Rattle.ec_wire.specs.declared.message.Body.TheVariants.{ToBrick}
use Rattle.ec_wire.specs.declared.message.Message.{Message}
use Rattle.ec_wire.specs.declared.request.Request.{Request}
use Rattle.ec_law_base.specs.State.{Ballot, State}
use Rattle.ec_law_calls.proofs.Fronts.{plain_front}
use Rattle.ec_law_net.specs.Turns.{View, seen_after, turn_of, view}
use Rattle.ec_law_turns.specs.Known.{Known}
use Rattle.ec_law_turns.specs.Laws.{Always}
use Rattle.ec_law_turns.specs.Orderly.{ArePlain, IsOrderly}
use Rattle.ec_law_turns.proofs.Basics.{put_here, some_none}
use Rattle.ec_law_turns.proofs.Origins.{unversioned}
use Rattle.ec_law_turns.proofs.Runs.{Kept, first_moment, given_stays}
use Rattle.ec_law_data.specs.Coding.{by_rows}
use Rattle.ec_law_data.specs.Deeds.{deeds, file, file_after, is_post_on}
use Rattle.ec_law_data.specs.Forms.{Piece, Shape, is_data, shape_in}
use Rattle.ec_law_data.specs.Laws.{begun}
use Rattle.ec_law_data.specs.Link.{AllCoded}
use Rattle.ec_law_data.specs.Reading.{Reading}
use Rattle.ec_law_data.proofs.Coding.{coding_laws}
use Rattle.ec_law_data.proofs.Cores.{log_heads}
use Rattle.ec_law_data.proofs.OrderlyDeeds.{all_reach}
use Rattle.ec_law_data.proofs.Reaching.{Reaches, reaches_start}
use Rattle.ec_law_files.specs.Filing.{AreRows, FilePlans, HaveFilePlans, StripeFile, chosen_at, plan_of}
use Rattle.ec_law_files.specs.Laws.{AllMade, OwnMade}
use Rattle.ec_law_files.specs.Plans.{PutsOne, ReadsOld}
use Rattle.ec_law_files.specs.Stripes.{Making}
use Rattle.ec_law_files.proofs.FilingLaws.{filing_laws}
use Rattle.ec_law_parts.specs.LeavesOff.{DataBeforePosts}
use Rattle.ec_law_plans.specs.Extend.{ActsRun, Agree, AsPlanned, GoesOn, OweNothing}
use Rattle.ec_law_plans.specs.Given.{EachRequest}
use Rattle.ec_law_plans.proofs.Chunks.{run_chunks}
use Rattle.ec_law_plans.proofs.Agreeing.{same_file}
use Rattle.ec_law_plans.proofs.Extending.{acts_run, extended, runs_front}
use Rattle.ec_law_plans.proofs.Fronts.{orderly_at}
use Rattle.ec_law_plans.proofs.Planned.{as_log}
use Rattle.ec_law_plans.proofs.Windows.{sent_changes}
use Rattle.ec_law_reads.specs.Laws.{Begins, FileLog}
use Rattle.ec_law_reads.specs.Rows.{row_at}
use Rattle.ec_law_reads.specs.Units.{of_units}
use Rattle.ec_law_reads.proofs.Fronts.{front_laws}
use Rattle.ec_law_reads.proofs.Laws.{read_laws, reads_begun}
use Rattle.ec_law_reads.proofs.Leading.{IsBeside}
use Rattle.ec_law_reads.proofs.Reading.{reads_end}
use Rattle.ec_law_reads.proofs.Stripes.{stripe_laws}
use Rattle.ec_law_shapes.specs.Shadows.{HasShapes}
use Rattle.ec_law_shapes.proofs.Logs.{laws as shape_laws}
use Rattle.ec_law_writes.specs.Owing.{AllOf, CoverWrites, OwesWriting, PlansOfChanges, WritesOne}
use Rattle.ec_law_writes.proofs.Owing.{laws as owing_laws, parts as parts_of}
use Rattle.ec_law_stripes.specs.Begins.{ZerosPastSizes, piece_in, stripes_begun}
use Rattle.ec_law_stripes.specs.Bytes.{low, low_byte}
use Rattle.ec_law_stripes.specs.Given.{MakesFile}
use Rattle.ec_law_stripes.specs.Laws.{FileBegins}
use Rattle.ec_law_stripes.specs.Striped.{AreStriped, HaveOps, HavePlanned, PlannedAs, StripedInEveryLog}
use Rattle.ec_law_stripes.proofs.Begins.{begin_laws}
use Rattle.ec_law_stripes.proofs.Bytes.{byte_laws, bytes_fit}
use Rattle.ec_law_stripes.proofs.Later.{changes_before, covered_before}
use Rattle.ec_law_stripes.proofs.LogParts.{after_last, always_front, append_none, are_on, books_last, each_front, last_deeds, made_at, one_more, plain_one, said_are}
use Rattle.ec_law_stripes.proofs.Striping.{AtEntry, agree, coded_now, else_now, have_then, now_planned, reached_next, shapes_then}
use Rattle.ec_law_stripes.proofs.Ops.{next_grows, ops_then, said_below}
use Rattle.ec_law_stripes.proofs.PlannedTurns.{each_entry}
use Rattle.ec_law_stripes.proofs.Taking.{AsTook, as_took}

or_left : (t u : Bool) → t ≡ true → (t || u) ≡ true
or_left true u e = refl
or_left false u e = absurd (cc)

or_right : (t u : Bool) → u ≡ true → (t || u) ≡ true
or_right true u e = refl
or_right false u e = e

module _ (config : Config) (records : ℕ → Records) (bricks : ℕ → Brick) (tree : Tree) (next g : ℕ) (all : List Entry) (start : IsStart config records bricks tree next) (zeros : ZerosPastSizes (quorum config.geometry) tree) (runs : IsRun config.geometry.n all (fresh bricks)) (plain : ArePlain all) (orderly : IsOrderly config.geometry all (fresh bricks) (opening tree next)) (empty : (client : ℕ) → (orderly.left client).cache ≡ []) (data_first : Always DataBeforePosts g all (fresh bricks) (begun config records tree next g)) (makings : ℕ → Making) (made : AllMade makings config.geometry orderly.left all (fresh bricks) (opening tree next) no_books) (chunks : EachRequest AreChunks all) (files : EachRequest (MakesFile g) all) where
  abbrev n : ℕ
  n = config.geometry.n

  abbrev k : ℕ
  k = quorum config.geometry

  abbrev rows : ℕ → ℕ → ℕ
  rows = row_at (quorum config.geometry) config.geometry.algorithm

  abbrev R : Reading ℕ (List (List ℕ)) Piece ℕ Shape
  R = of_units low_byte (quorum config.geometry) (by_rows (quorum config.geometry) (row_at (quorum config.geometry) config.geometry.algorithm))

  begins : FileBegins config records bricks tree g
  begins = begin_laws.begins config records bricks tree next g start zeros

  abbrev m0 : Net
  m0 = fresh bricks

  abbrev v0 : View
  v0 = begun config records tree next g

  abbrev f0 : StripeFile
  f0 = stripes_begun config records tree g begins.stands

  abbrev left : ℕ → Leaving
  left = orderly.left

  abbrev books_at : List Entry → Books
  books_at es = books config.geometry orderly.left es (fresh bricks) (opening tree next) no_books

  abbrev machine_at : FilePlans → List Entry → StripeFile
  machine_at plans es = file R plans n k g es m0 v0 f0

  most : config.geometry.n < quorum config.geometry + quorum config.geometry
  most = let h = config.geometry.majority in omega (arith, h)

  are : AreRows config.geometry (row_at (quorum config.geometry) config.geometry.algorithm)
  are b lt = stripe_laws.row (quorum config.geometry) config.geometry.algorithm b (let h = config.geometry.most in omega (arith, h)) (let h = config.geometry.bricks in omega (arith, h, lt))

  abbrev origin : ℕ → ℕ
  origin h = (tree h).version

  new_origins : (h : ℕ) → next ≤ h → (tree h).version ≡ 0
  new_origins h le = unversioned config records bricks tree next h start le

  begun_reaches : Reaches config.geometry next (λ h. (tree h).version) (fresh bricks) (λ h. begun config records tree next h) (opening tree next) no_books
  begun_reaches = reaches_start config records bricks tree next (λ a. a) most start

  acts : ActsRun n k g all m0 v0
  acts = acts_run config records bricks tree next g all start runs plain orderly

  abbrev begins_as : Begins
  begins_as = record { flat = f0.flat; shape = λ b. shape_in (records b g); piece = λ b. piece_in (records b g); value = begins.stands.value }

  -- Each turn that has planned has its call's plan, by the head of its group, the shapes are those of the records, and calls have their
  -- ops.
  abbrev KeptBy : FilePlans → Net → View → Books → StripeFile → Type 0
  KeptBy plans m v b f = HaveFilePlans makings g m v b f × HasShapes n k next g R.new m v b f × HavePlanned makings plans m b f × HaveOps m b

  abbrev Keeps : FilePlans → List Entry → Type 0
  Keeps plans es = KeptBy plans (run es m0) (view g es m0 v0) (books_at es) (machine_at plans es)

  first_plans : FilePlans
  first_plans = record { took = λ a. record { size = 0; attr = new_attr FileKind }; plan = λ a. record { covers = λ s. false; sets = λ s i. None; value = λ s. []; becomes = record { size = 0; attr = new_attr FileKind } } }

  first_keeps : Keeps first_plans []
  first_keeps = (
    filing_laws.begun makings g bricks v0 f0 (λ a. refl),
    (shape_laws R (bytes_fit k rows)).begin first_plans config records bricks tree next g orderly.left start f0.flat (λ b. piece_in (records b g)) begins.stands refl,
    (λ a h. absurd (cc)),
    (λ a given is. absurd (some_none given (sym is))),
  )

  -- no turn of the log has a ballot as it begins
  no_ballot : (plans : FilePlans) → AsTook R plans n k g f0
  no_ballot plans a begun number = absurd (none (v0.core.moment a) refl)
    where
      none : (t : Bool) → v0.core.moment a ≡ t → ⊥
      none true e = let lt = first_moment config records bricks tree next g (λ a. a) start a e in omega (arith, lt, begun)
      none false e = let z = ap (λ (u : Bool). (cond {A = Ballot} u (record { base = origin g; number = a - origin g }) (record { base = 0; number = 0 })).number) e in omega (arith, z, number)

  -- ## A front of the log

  module _ (es rest : List Entry) (parts : all ≡ es ++ rest) where
    runs_at : IsRun n es m0
    runs_at = front_runs n es rest m0 (subst (λ (xs : List Entry). IsRun n xs m0) parts runs)

    plain_at : ArePlain es
    plain_at = plain_front es rest (subst ArePlain parts plain)

    abbrev in_order : IsOrderly config.geometry es m0 (opening tree next)
    in_order = orderly_at config records bricks tree next start orderly.left orderly.none_kept all runs plain es rest parts orderly.conduct orderly.order

    kept_at : Kept config.geometry orderly.left orderly.none_kept (books_at es)
    kept_at a given h = (in_order.conduct a given h, in_order.order a given h)

    reaches_at : Reaches config.geometry next (λ h. (tree h).version) (run es m0) (λ h. view h es m0 (begun config records tree next h)) (story config.geometry es m0 (opening tree next)) (books_at es)
    reaches_at = all_reach config.geometry orderly.left orderly.none_kept next (λ h. (tree h).version) new_origins es m0 (λ h. begun config records tree next h) (opening tree next) no_books runs_at plain_at kept_at begun_reaches

    module _ (plans : FilePlans) (coded : AllCoded R plans n k g es m0 v0 f0) where
      abbrev had : Rattle.ec_law_reads.specs.Laws.HadPieces R plans n k g es m0 v0 f0
      had = front_laws.had low_byte (by_rows k rows) plans config records bricks tree next g es (coding_laws.zeros k rows) start runs_at plain_at in_order begins_as begins.pieces coded

      beside_at : IsBeside R n k g (run es m0) (view g es m0 v0) (machine_at plans es)
      beside_at = (reads_end low_byte k (by_rows k rows) plans config.geometry g orderly.left orderly.none_kept next (λ h. (tree h).version) new_origins es m0 (λ h. begun config records tree next h) (opening tree next) no_books f0 (λ i. false) runs_at plain_at kept_at begun_reaches
          (reads_begun low_byte (by_rows k rows) config records bricks tree next g start begins_as refl) had).known.beside

      abbrev the_log : FileLog low_byte (by_rows k rows)
      the_log = record { plans = plans; config = config; records = records; bricks = bricks; tree = tree; next = next; g = g; es = es; start = start; runs = runs_at; plain = plain_at; orderly = in_order; begins = begins_as; version = refl; pieces = had }

      reads_at : (a t : ℕ) (given : Given) → (books_at es).given a ≡ Some given → (view g es m0 v0).turn a ≡ Some t → (machine_at plans es).planned t ≡ false → (head : Head) → ReadsOld low (quorum_of given) (by_rows k rows) n k (machine_at plans es) t (account given ((books_at es).own a)) g head
      reads_at a t given made has free head s old is v codes i lt =
          (read_laws.old low_byte k rows the_log a t (account given ((books_at es).own a)) refl are empty (record { given = given; began = made; account_is = refl; turn = has; free = free }) s head old is v codes).low i
          (subst (λ (z : Geometry). i < stripe_bytes (quorum z)) ((reaches_at.reached g).known.numbers.given_below a given made).1.geometry_is lt)

  -- ## One entry more

  module _ (es : List Entry) (e : Entry) (rest : List Entry) (parts : all ≡ es ++ e ∷ rest) (old : FilePlans) (owes : OweNothing R n k g m0 v0 f0 old es) (keeps : Keeps old es) where
    abbrev m : Net
    m = run es m0

    abbrev vs : ℕ → View
    vs h = view h es m0 (begun config records tree next h)

    abbrev t : Story
    t = story config.geometry es m0 (opening tree next)

    abbrev b : Books
    b = books_at es

    abbrev f : StripeFile
    f = machine_at old es

    abbrev new : FilePlans
    new = chosen_at makings g (vs g) b f e old

    heads : f.heads ≡ (vs g).core
    heads = log_heads R old n k g es m0 v0 f0 refl

    parts' : all ≡ (es ++ e ∷ []) ++ rest
    parts' = parts ∙ one_more es e rest

    made_now : Rattle.ec_law_files.specs.Laws.EntryMade makings b e × OwnMade makings (booked config.geometry orderly.left m t b e)
    made_now = made_at makings config.geometry orderly.left es e rest m0 (opening tree next) no_books (subst (λ (xs : List Entry). AllMade makings config.geometry orderly.left xs (fresh bricks) (opening tree next) no_books) parts made)

    there : AtEntry rows makings config.geometry orderly.left orderly.none_kept next (λ h. (tree h).version) new_origins g are e m vs t b f
    there = record {
      may = (rest_runs n es (e ∷ rest) m0 (subst (λ (xs : List Entry). IsRun n xs m0) parts runs)).0;
      plain = plain_one es e rest (subst ArePlain parts plain);
      kept = subst (Kept config.geometry orderly.left orderly.none_kept) (books_last config.geometry orderly.left es e m0 (opening tree next) no_books) (kept_at (es ++ e ∷ []) rest parts');
      reaches = reaches_at es (e ∷ rest) parts;
      heads = heads;
      have = keeps.0;
      shapes = keeps.1;
      beside = beside_at es (e ∷ rest) parts old owes.coded;
      made = made_now.0;
      chunks = said_are AreChunks es m0 (each_front AreChunks es (e ∷ rest) (subst (EachRequest AreChunks) parts chunks)) (λ i x q is body. absurd (some_none x (sym is)));
      files = said_are (MakesFile g) es m0 (each_front (MakesFile g) es (e ∷ rest) (subst (EachRequest (MakesFile g)) parts files)) (λ i x q is body. absurd (some_none x (sym is)));
      reads = reads_at es (e ∷ rest) parts old owes.coded;
    }

    agrees : Agree f old new
    agrees = agree rows makings config.geometry orderly.left orderly.none_kept next (λ h. (tree h).version) new_origins g are e m vs t b f there old

    front : ActsRun n k g es m0 v0
    front = runs_front n k g es (e ∷ rest) m0 v0 (subst (λ (xs : List Entry). ActsRun n k g xs m0 v0) parts acts)

    same : machine_at new es ≡ f
    same = same_file R old new n k g es m0 v0 f0 refl front agrees

    abbrev f' : StripeFile
    f' = file_after R new n k g m (vs g) f e

    have_next : HaveFilePlans makings g (net_after m e) (seen_after g m (vs g) e) (booked config.geometry orderly.left m t b e) f'
    have_next = have_then rows makings config.geometry orderly.left orderly.none_kept next (λ h. (tree h).version) new_origins g are e m vs t b f there old

    known_next : Known config.geometry g (net_after m e) (seen_after g m (vs g) e) (booked config.geometry orderly.left m t b e)
    known_next = (reached_next rows makings config.geometry orderly.left orderly.none_kept next (λ h. (tree h).version) new_origins g are e m vs t b f there old).known

    -- the machine has what these plans have
    as_before : AsPlanned new f
    as_before = subst (λ (z : StripeFile). AsPlanned new z) same (as_log R new n k g es m0 v0 f0 (λ a h. absurd (cc)))

    as_next : AsPlanned new f'
    as_next = as_log R new n k g (e ∷ []) m (vs g) f as_before

    cover_next : CoverWrites R new g (net_after m e) (seen_after g m (vs g) e)
    cover_next i x q s is body on writes =
        sym ((as_next ((seen_after g m (vs g) e).of i) (have_next.sent i x q is body (or_left (is_data g q) (is_post_on g q) on)).0).0 s)
        ∙ filing_laws.covered config.geometry makings g (net_after m e) (seen_after g m (vs g) e) (booked config.geometry orderly.left m t b e) f' known_next have_next i x q is body on s writes

    puts_one : (qs : List Request) (s : ℕ) → PutsOne g qs s → WritesOne R new g qs s
    puts_one [] s h = h
    puts_one (q ∷ qs) s (inl h) = inl h
    puts_one (q ∷ qs) s (inr h) = inr (puts_one qs s h)

    changes_next : PlansOfChanges R new g (net_after m e) (seen_after g m (vs g) e) (booked config.geometry orderly.left m t b e)
    changes_next j x q given before back head is body on began own group whole s covers =
        puts_one _ s
        (filing_laws.changed config.geometry makings g (net_after m e) (seen_after g m (vs g) e) (booked config.geometry orderly.left m t b e) f' known_next have_next made_now.1 j x q given before back head is body on began own group whole
        (are_on g _ (sent_changes given (known_next.numbers.given_below x.call given began).1.none_kept before g x.brick))
        s ((as_next ((seen_after g m (vs g) e).of j) (have_next.sent j x q is body (or_right (is_data g q) (is_post_on g q) on)).0).0 s ∙ covers))

    took_before : AsTook R new n k g f
    took_before = subst (λ (z : StripeFile). AsTook R new n k g z) same (as_took R new n k g es m0 v0 f0 (no_ballot new))

    -- what each turn has planned
    planned_next : HavePlanned makings new (net_after m e) (booked config.geometry orderly.left m t b e) f'
    planned_next = each_entry R new n k g (PlannedAs makings new (net_after m e) (booked config.geometry orderly.left m t b e)) m (vs g) f e now before
      where
        known : Known config.geometry g m (vs g) b
        known = (there.reaches.reached g).known

        stays : (a : ℕ) (given : Given) → b.given a ≡ Some given → (booked config.geometry orderly.left m t b e).given a ≡ Some given
        stays a given is = given_stays config.geometry orderly.left orderly.none_kept m t b e there.may known.numbers a given is

        before : (a : ℕ) → f.planned a ≡ true → PlannedAs makings new (net_after m e) (booked config.geometry orderly.left m t b e) a
        before a planned =
            let o = keeps.2 a planned in
            let low = o.below in
            let begun = o.begun in
            let said = said_below n m e there.may (a - 2 ^ 61) (omega (arith, low, begun)) in
            let call = ap call_of (sym said) in
            let number = subst (λ (s : State). 0 < (s.ballot a).number) (sym heads) (keeps.1.follow.numbered a planned) in
            record {
              below = (let more = next_grows n m e there.may in omega (arith, low, more));
              begun = begun;
              given = o.given;
              made = subst (λ (c : ℕ). (booked config.geometry orderly.left m t b e).given c ≡ Some o.given) call (stays (call_of (m.said (a - 2 ^ 61))) o.given o.made);
              head = o.head;
              plan = agrees.plan a planned ∙ (o.plan ∙ ap (λ (c : ℕ). plan_of makings c o.given o.head) call);
              size = ap (λ (x : Shape). x.size) (agrees.took a number) ∙ o.size;
            }

        now : (msg : Message) (q : Request) → e ≡ Sent msg → msg.body ≡ ToBrick q → (is_data g q || is_post_on g q) ≡ true → f.planned (turn_of g (vs g) msg) ≡ false → PlannedAs makings new (net_after m e) (booked config.geometry orderly.left m t b e) (turn_of g (vs g) msg)
        now msg q is body on free =
            let p = now_planned rows makings config.geometry orderly.left orderly.none_kept next (λ h. (tree h).version) new_origins g are e m vs t b f there old msg q is body on free in
            let later = subst (λ (x : Entry). Known config.geometry g (net_after m x) (seen_after g m (vs g) x) (booked config.geometry orderly.left m t b x)) is known_next in
            let here = put_here m.said msg.no (Some msg) msg.no refl in
            let turn = put_here (vs g).of msg.no (turn_of g (vs g) msg) msg.no refl in
            let call = subst (λ (x : Entry). call_of ((net_after m x).said (turn_of g (vs g) msg - 2 ^ 61)) ≡ msg.call) (sym is) (subst (λ (x : ℕ). 2 ^ 61 ≤ x → call_of ((net_after m (Sent msg)).said (x - 2 ^ 61)) ≡ msg.call) turn (later.messages.caller msg.no msg here) p.begun) in
            record {
              below = subst (λ (x : Entry). turn_of g (vs g) msg < 2 ^ 61 + (net_after m x).next) (sym is) (subst (λ (x : ℕ). x < 2 ^ 61 + (net_after m (Sent msg)).next) turn (later.messages.below msg.no msg here));
              begun = p.begun;
              given = p.given;
              made = subst (λ (c : ℕ). (booked config.geometry orderly.left m t b e).given c ≡ Some p.given) (sym call) (stays msg.call p.given p.made);
              head = p.head;
              plan = p.plan ∙ ap (λ (c : ℕ). plan_of makings c p.given p.head) (sym call);
              size = ap (λ (x : Shape). x.size) (sym (took_before (turn_of g (vs g) msg) p.begun p.number)) ∙ p.size;
            }

    -- ## What data requests and PostOps owe

    writing_now : AllOf R.form n k (OwesWriting R.form n k) (deeds R new n k g m (vs g) f e) f
    writing_now =
        subst (λ (z : StripeFile). AllOf R.form n k (OwesWriting R.form n k) (deeds R new n k g m (vs g) z e) z) same
        (last_deeds R new n k g (OwesWriting R.form n k) e es m0 v0 f0
        ((owing_laws R (bytes_fit k rows).writers).owed new config records bricks tree next g (es ++ e ∷ []) f0.flat (λ b. shape_in (records b g)) (λ b. piece_in (records b g)) begins.stands.value start runs' plain' (in_order (es ++ e ∷ []) rest parts')
        (always_front DataBeforePosts g (es ++ e ∷ []) rest m0 v0 (subst (λ (xs : List Entry). Always DataBeforePosts g xs m0 v0) parts' data_first))
        (covered_before config.geometry orderly.left orderly.none_kept next (λ h. (tree h).version) new_origins g R new (es ++ e ∷ []) m0 (λ h. begun config records tree next h) (opening tree next) no_books runs' plain' kept' begun_reaches
        (after_last R new n k g config.geometry orderly.left (λ x y z w. CoverWrites R new g x y) e es m0 v0 (opening tree next) no_books f0 cover_next))
        (changes_before config.geometry orderly.left orderly.none_kept next (λ h. (tree h).version) new_origins g R new (es ++ e ∷ []) m0 (λ h. begun config records tree next h) (opening tree next) no_books runs' plain' kept' begun_reaches
        (after_last R new n k g config.geometry orderly.left (λ x y z w. PlansOfChanges R new g x y z) e es m0 v0 (opening tree next) no_books f0 changes_next))
        refl))
      where
        runs' : IsRun n (es ++ e ∷ []) m0
        runs' = runs_at (es ++ e ∷ []) rest parts'

        plain' : ArePlain (es ++ e ∷ [])
        plain' = plain_at (es ++ e ∷ []) rest parts'

        kept' : Kept config.geometry orderly.left orderly.none_kept (books_at (es ++ e ∷ []))
        kept' = kept_at (es ++ e ∷ []) rest parts'

    goes_on : GoesOn R n k g m0 v0 f0 es e old new
    goes_on = record {
      agree = agrees;
      owe = parts_of R.form n k (deeds R new n k g m (vs g) f e) f writing_now (else_now rows makings config.geometry orderly.left orderly.none_kept next (λ h. (tree h).version) new_origins g are e m vs t b f there old);
      coded = coded_now rows makings config.geometry orderly.left orderly.none_kept next (λ h. (tree h).version) new_origins g are e m vs t b f there old;
    }

    keeps_next : Keeps new (es ++ e ∷ [])
    keeps_next = after_last R new n k g config.geometry orderly.left (λ x y z w. KeptBy new x y z w) e es m0 v0 (opening tree next) no_books f0
        (subst (λ (z : StripeFile). KeptBy new (net_after m e) (seen_after g m (vs g) e) (booked config.geometry orderly.left m t b e) (file_after R new n k g m (vs g) z e)) (sym same) (
          have_next,
          shapes_then rows makings config.geometry orderly.left orderly.none_kept next (λ h. (tree h).version) new_origins g are e m vs t b f there old,
          planned_next,
          ops_then config.geometry orderly.left m t b (there.reaches.reached g).known.numbers keeps.3 e there.may,
        ))

  -- ## The log

  pub are_striped : AreStriped config records bricks tree next g orderly.left makings all
  are_striped =
      let o = extended R n k g m0 v0 f0 refl Keeps all acts (λ es e rest parts old owes keeps. (chosen_at makings g (view g es m0 v0) (books_at es) (machine_at old es) e old, goes_on es e rest parts old owes keeps, keeps_next es e rest parts old owes keeps)) first_plans first_keeps all [] (sym (append_none all)) in
      record {
        begins = begins;
        plans = o.0;
        owes = o.1;
        have = o.2.0;
        planned = o.2.2;
        ops = o.2.3;
        held = (byte_laws k rows).held o.0 config records bricks tree next g all start runs plain orderly f0.flat (λ b. shape_in (records b g)) (λ b. piece_in (records b g)) begins.stands refl begins.pieces o.1.owe o.1.coded;
      }

pub striped_logs : StripedInEveryLog
striped_logs config records bricks tree next g es start zeros runs plain orderly empty data_first makings made files = are_striped config records bricks tree next g es start zeros runs plain orderly empty data_first makings made (run_chunks config.geometry.n es (fresh bricks) runs) files
