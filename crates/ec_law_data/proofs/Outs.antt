-- What a brick makes of a request: it was done, or the records are as they were; and where the store fails, a part may stand.
use Rattle.std.proofs.Common.{◌≡◌, ◌⊎◌, ℕ, ◌*◌, Bool, true, false, cond, ◌==◌, Option, Some, None, length, take, refl, sym, ◌∙◌, ap, subst, arith, inl, inr}
use Rattle.std.proofs.lemmas.Bool.Decides.{nat_tests}
use Rattle.std.specs.Option.{option_map}
use Rattle.ec_attr.specs.declared.gfid.Gfid.{Gfid}
use Rattle.ec_locks.specs.Asked.{has_to_wait}
use Rattle.ec_store.specs.Records.{Record, Records, head_at}
use Rattle.ec_wire.specs.declared.reply.Reply.{Reply}
use Rattle.ec_wire.specs.declared.reply.Reply.TheVariants.{Granted}
use Rattle.ec_wire.specs.declared.request.Request.{Request}
use Rattle.ec_wire.specs.declared.request.Request.TheVariants.{Ask, Release, Query, PreOp, ReadChunks, WriteChunks, SetLength, PostOp, Clear, NameGet, NamesAfter, NameSet, NamesPut, Make, Made, Unmake, Mark, Unmark, GfidsAfter}
use Rattle.ec_brick.specs.Replies.{Nothing, Is, own_of}
use Rattle.ec_brick.specs.Rows.{fence, row_of}
use Rattle.ec_brick.specs.State.{State as Brick}
use Rattle.ec_brick.specs.Step.{Failing, Fine, Before, Within, Out, Work, by_row, executed, fenced, judged, part_work, refusal_of, torn_off, version_of, work, worked}
use Rattle.ec_brick.specs.Work.{broken_of, bytes_of, unset_at, work_of}
use Rattle.ec_brick.specs.declared.row.Row.{Row}
use Rattle.ec_history.specs.Story.{is_done}
use Rattle.ec_law_net.proofs.Outcomes.{IsDone, IsNot, outcome}
use Rattle.ec_law_net.proofs.Requests.{absent}
use Rattle.ec_law_net.proofs.Guarded.{own_row}
use Rattle.ec_brick.specs.declared.row.Need.TheVariants.{Reading, Writing, Healing, Either}
use Rattle.ec_brick.specs.declared.row.Check.{Check}
use Rattle.ec_brick.specs.declared.row.Check.TheVariants.{Present, At, OfKind, Content, Absent, Fresh, Markable}
use Rattle.ec_attr.specs.declared.kind.Kind.TheVariants.{File, Dir}
use Rattle.ec_law_turns.specs.Once.{is_make_of}

-- the request was done
pub record Works (g : ℕ) (s : Brick) (q : Request) (o : Out) : Type 0 where
  pub records : o.brick.records ≡ work_of s.config q s.records
  pub says : o.says ≡ own_of q s.records
  pub absent : is_make_of g q ≡ true → s.records g ≡ None

-- it was refused
pub record Rests (s : Brick) (o : Out) : Type 0 where
  pub records : o.brick.records ≡ s.records
  pub says : is_done o.says ≡ false

-- the rows of requests
abbrev of_child : Gfid → ℕ → Gfid → Check → Row
of_child x i child check = record { gfid = x; grant = i; need = Writing; heal = None; subject = child; check = check }

abbrev of_heal : Gfid → ℕ → ℕ → Check → Row
of_heal x i heal check = record { gfid = x; grant = i; need = Writing; heal = Some heal; subject = x; check = check }

same_gfid : (x g : ℕ) → (x == g) ≡ true → x ≡ g
same_gfid x g e = grind (arith, nat_tests)

no_record : (o : Option Record) → option_map (λ (r : Record). r.head) o ≡ None → o ≡ None
no_record None e = refl
no_record (Some r) e = absurd (cc)

-- a request that is answered with something else than Done leaves the records
pub unworked : (s : Brick) (q : Request) → is_done (own_of q s.records) ≡ false → work_of s.config q s.records ≡ s.records
unworked s (Ask x domain kind) e = refl
unworked s (Release x n) e = refl
unworked s (Query x n) e = refl
unworked s (PreOp x n at dirty) e = absurd (cc)
unworked s (ReadChunks x n first count) e = refl
unworked s (WriteChunks x n first chunks) e = absurd (cc)
unworked s (SetLength x n keep count) e = absurd (cc)
unworked s (PostOp x n at version size attr) e = absurd (cc)
unworked s (Clear x n at) e = absurd (cc)
unworked s (NameGet x n name) e = refl
unworked s (NamesAfter x n start) e = refl
unworked s (NameSet x n name child) e = absurd (cc)
unworked s (NamesPut x n start upto list) e = absurd (cc)
unworked s (Make x n child) e = absurd (cc)
unworked s (Made x n child) e = absurd (cc)
unworked s (Unmake x n child) e = absurd (cc)
unworked s (Mark x n heal head) e = absurd (cc)
unworked s (Unmark x n at dirty) e = absurd (cc)
unworked s (GfidsAfter start dirty) e = refl

module _ (g : ℕ) (s : Brick) (q : Request) where
  module _ (w : Work) where
    -- in which ways records may change
    abbrev pub Ends : (Records → Type 0) → Out → Type 0
    Ends P o = (o.brick.records ≡ s.records) ⊎ P o.brick.records

    ends_judged : (f : Failing) (P : Records → Type 0) → ((v : Option ℕ) → Ends P (worked s f w v)) → (v : Option ℕ) (o : Option Reply) → Ends P (judged s f w v o)
    ends_judged f P h v None = h v
    ends_judged f P h v (Some y) = inl refl

    ends_fenced : (f : Failing) (P : Records → Type 0) → ((v : Option ℕ) → Ends P (worked s f w v)) → (r : Row) (o : Option Reply) → Ends P (fenced s f w r o)
    ends_fenced f P h r (Some y) = inl refl
    ends_fenced Fine P h r None = ends_judged Fine P h (version_of (head_at s.records r.subject.0)) (refusal_of s r (head_at s.records r.subject.0))
    ends_fenced Before P h r None = inl refl
    ends_fenced Within P h r None = ends_judged Within P h (version_of (head_at s.records r.subject.0)) (refusal_of s r (head_at s.records r.subject.0))

    pub ends_row : (f : Failing) (P : Records → Type 0) → ((v : Option ℕ) → Ends P (worked s f w v)) → (o : Option Row) → Ends P (by_row s f w o)
    ends_row f P h None = inl refl
    ends_row f P h (Some r) = ends_fenced f P h r (fence s.asks r)

  fine_row : (r : Row) → (fence s.asks r ≡ None → refusal_of s r (head_at s.records r.subject.0) ≡ None → is_make_of g q ≡ true → s.records g ≡ None) → Works g s q (by_row s Fine (work s q) (Some r)) ⊎ Rests s (by_row s Fine (work s q) (Some r))
  fine_row r h = at (outcome s q r Fine) (judged_row (fence s.asks r))
    where
      judged_row : (o : Option Reply) → (((fenced s Fine (work s q) r o).brick.records ≡ s.records) ⊎ (((fenced s Fine (work s q) r o).brick ≡ (work s q).done) × ((fenced s Fine (work s q) r o).says ≡ own_of q s.records)))
      judged_row (Some y) = inl refl
      judged_row None = reads (refusal_of s r (head_at s.records r.subject.0))
        where
          reads : (o : Option Reply) → (((judged s Fine (work s q) (version_of (head_at s.records r.subject.0)) o).brick.records ≡ s.records) ⊎ (((judged s Fine (work s q) (version_of (head_at s.records r.subject.0)) o).brick ≡ (work s q).done) × ((judged s Fine (work s q) (version_of (head_at s.records r.subject.0)) o).says ≡ own_of q s.records)))
          reads None = inr (refl, refl)
          reads (Some y) = inl refl

      at : IsDone s q r (by_row s Fine (work s q) (Some r)) ⊎ IsNot s (by_row s Fine (work s q) (Some r)) → (((by_row s Fine (work s q) (Some r)).brick.records ≡ s.records) ⊎ (((by_row s Fine (work s q) (Some r)).brick ≡ (work s q).done) × ((by_row s Fine (work s q) (Some r)).says ≡ own_of q s.records))) → Works g s q (by_row s Fine (work s q) (Some r)) ⊎ Rests s (by_row s Fine (work s q) (Some r))
      at (inl d) c = inl (record { records = ap (λ (z : Brick). z.records) d.brick; says = d.says; absent = h d.passed d.allowed })
      at (inr d) (inl e) = inr (record { records = e; says = d.says })
      at (inr d) (inr e) = quiet_own (is_done (own_of q s.records)) refl
        where
          quiet_own : (t : Bool) → is_done (own_of q s.records) ≡ t → Works g s q (by_row s Fine (work s q) (Some r)) ⊎ Rests s (by_row s Fine (work s q) (Some r))
          quiet_own true u = absurd (let x = sym d.says ∙ (ap is_done e.1 ∙ u) in cc)
          quiet_own false u = inr (record { records = ap (λ (z : Brick). z.records) e.0 ∙ unworked s q u; says = d.says })

-- an Ask is granted or has to wait
ask_says : (t : Bool) → is_done (cond t Nothing (Is Granted)) ≡ false
ask_says true = refl
ask_says false = refl

module _ (g : ℕ) (s : Brick) (client number : ℕ) where
  -- a request that the store doesn't fail
  pub fine : (q : Request) → Works g s q (executed s Fine client number q) ⊎ Rests s (executed s Fine client number q)
  fine (Ask x domain kind) = inr (record { records = refl; says = ask_says (has_to_wait s.asks (record { number = number; client = client; gfid = x; domain = domain; kind = kind })) })
  fine (Release x n) = inr (record { records = refl; says = refl })
  fine (GfidsAfter start dirty) = inr (record { records = refl; says = refl })
  fine (Query x n) = fine_row g s (Query x n) (own_row x n Reading Present) (λ p a e. absurd (cc))
  fine (PreOp x n at dirty) = fine_row g s (PreOp x n at dirty) (own_row x n Writing (At at)) (λ p a e. absurd (cc))
  fine (ReadChunks x n first count) = fine_row g s (ReadChunks x n first count) (own_row x n Reading (OfKind File)) (λ p a e. absurd (cc))
  fine (WriteChunks x n first chunks) = fine_row g s (WriteChunks x n first chunks) (own_row x n Either (Content File)) (λ p a e. absurd (cc))
  fine (SetLength x n keep count) = fine_row g s (SetLength x n keep count) (own_row x n Either (Content File)) (λ p a e. absurd (cc))
  fine (PostOp x n at version size attr) = fine_row g s (PostOp x n at version size attr) (own_row x n Writing (At at)) (λ p a e. absurd (cc))
  fine (Clear x n at) = fine_row g s (Clear x n at) (own_row x n Writing (At at)) (λ p a e. absurd (cc))
  fine (NameGet x n name) = fine_row g s (NameGet x n name) (own_row x n Reading (OfKind Dir)) (λ p a e. absurd (cc))
  fine (NamesAfter x n start) = fine_row g s (NamesAfter x n start) (own_row x n Reading (OfKind Dir)) (λ p a e. absurd (cc))
  fine (NameSet x n name child) = fine_row g s (NameSet x n name child) (own_row x n Writing (OfKind Dir)) (λ p a e. absurd (cc))
  fine (NamesPut x n start upto list) = fine_row g s (NamesPut x n start upto list) (own_row x n Healing (Content Dir)) (λ p a e. absurd (cc))
  fine (Made x n child) = fine_row g s (Made x n child) (of_child x n child Fresh) (λ p a e. absurd (cc))
  fine (Unmake x n child) = fine_row g s (Unmake x n child) (of_child x n child Present) (λ p a e. absurd (cc))
  fine (Mark x n heal head) = fine_row g s (Mark x n heal head) (of_heal x n heal (Markable head.kind head.version.content)) (λ p a e. absurd (cc))
  fine (Unmark x n at dirty) = fine_row g s (Unmark x n at dirty) (own_row x n Healing (At at)) (λ p a e. absurd (cc))
  fine (Make x n child) = fine_row g s (Make x n child) (of_child x n child.gfid Absent) (λ p a e. subst (λ (z : ℕ). s.records z ≡ None) (same_gfid child.gfid.0 g e) (no_record (s.records child.gfid.0) (absent n true (s.removed child.gfid.0) (head_at s.records child.gfid.0) a).0))

  abbrev pub Broken : Request → Out → Type 0
  Broken q o = (o.brick.records ≡ s.records) ⊎ (o.brick.records ≡ broken_of q s.records)

  -- one in whose work it fails
  pub broken : (q : Request) → Broken q (executed s Within client number q)
  broken (Ask x domain kind) = inl refl
  broken (Release x n) = inl refl
  broken (GfidsAfter start dirty) = inl refl
  broken (Query x n) = ends_row g s (Query x n) (work s (Query x n)) Within (λ (m : Records). m ≡ broken_of (Query x n) s.records) (λ v. inr refl) (row_of (Query x n))
  broken (PreOp x n at dirty) = ends_row g s (PreOp x n at dirty) (work s (PreOp x n at dirty)) Within (λ (m : Records). m ≡ broken_of (PreOp x n at dirty) s.records) (λ v. inr refl) (row_of (PreOp x n at dirty))
  broken (ReadChunks x n first count) = ends_row g s (ReadChunks x n first count) (work s (ReadChunks x n first count)) Within (λ (m : Records). m ≡ broken_of (ReadChunks x n first count) s.records) (λ v. inr refl) (row_of (ReadChunks x n first count))
  broken (WriteChunks x n first chunks) = ends_row g s (WriteChunks x n first chunks) (work s (WriteChunks x n first chunks)) Within (λ (m : Records). m ≡ broken_of (WriteChunks x n first chunks) s.records) (λ v. inr refl) (row_of (WriteChunks x n first chunks))
  broken (SetLength x n keep count) = ends_row g s (SetLength x n keep count) (work s (SetLength x n keep count)) Within (λ (m : Records). m ≡ broken_of (SetLength x n keep count) s.records) (λ v. inr refl) (row_of (SetLength x n keep count))
  broken (PostOp x n at version size attr) = ends_row g s (PostOp x n at version size attr) (work s (PostOp x n at version size attr)) Within (λ (m : Records). m ≡ broken_of (PostOp x n at version size attr) s.records) (λ v. inr refl) (row_of (PostOp x n at version size attr))
  broken (Clear x n at) = ends_row g s (Clear x n at) (work s (Clear x n at)) Within (λ (m : Records). m ≡ broken_of (Clear x n at) s.records) (λ v. inr refl) (row_of (Clear x n at))
  broken (NameGet x n name) = ends_row g s (NameGet x n name) (work s (NameGet x n name)) Within (λ (m : Records). m ≡ broken_of (NameGet x n name) s.records) (λ v. inr refl) (row_of (NameGet x n name))
  broken (NamesAfter x n start) = ends_row g s (NamesAfter x n start) (work s (NamesAfter x n start)) Within (λ (m : Records). m ≡ broken_of (NamesAfter x n start) s.records) (λ v. inr refl) (row_of (NamesAfter x n start))
  broken (NameSet x n name child) = ends_row g s (NameSet x n name child) (work s (NameSet x n name child)) Within (λ (m : Records). m ≡ broken_of (NameSet x n name child) s.records) (λ v. inr refl) (row_of (NameSet x n name child))
  broken (NamesPut x n start upto list) = ends_row g s (NamesPut x n start upto list) (work s (NamesPut x n start upto list)) Within (λ (m : Records). m ≡ broken_of (NamesPut x n start upto list) s.records) (λ v. inr refl) (row_of (NamesPut x n start upto list))
  broken (Make x n child) = ends_row g s (Make x n child) (work s (Make x n child)) Within (λ (m : Records). m ≡ broken_of (Make x n child) s.records) (λ v. inr refl) (row_of (Make x n child))
  broken (Made x n child) = ends_row g s (Made x n child) (work s (Made x n child)) Within (λ (m : Records). m ≡ broken_of (Made x n child) s.records) (λ v. inr refl) (row_of (Made x n child))
  broken (Unmake x n child) = ends_row g s (Unmake x n child) (work s (Unmake x n child)) Within (λ (m : Records). m ≡ broken_of (Unmake x n child) s.records) (λ v. inr refl) (row_of (Unmake x n child))
  broken (Mark x n heal head) = ends_row g s (Mark x n heal head) (work s (Mark x n heal head)) Within (λ (m : Records). m ≡ broken_of (Mark x n heal head) s.records) (λ v. inr refl) (row_of (Mark x n heal head))
  broken (Unmark x n at dirty) = ends_row g s (Unmark x n at dirty) (work s (Unmark x n at dirty)) Within (λ (m : Records). m ≡ broken_of (Unmark x n at dirty) s.records) (λ v. inr refl) (row_of (Unmark x n at dirty))

  one : {m : Records} → (m ≡ s.records) ⊎ (m ≡ s.records) → m ≡ s.records
  one (inl e) = e
  one (inr e) = e

  -- one before whose work it fails
  pub unread : (q : Request) → (executed s Before client number q).brick.records ≡ s.records
  unread (Ask x domain kind) = refl
  unread (Release x n) = refl
  unread (GfidsAfter start dirty) = refl
  unread (Query x n) = one (ends_row g s (Query x n) (work s (Query x n)) Before (λ (m : Records). m ≡ s.records) (λ v. inl refl) (row_of (Query x n)))
  unread (PreOp x n at dirty) = one (ends_row g s (PreOp x n at dirty) (work s (PreOp x n at dirty)) Before (λ (m : Records). m ≡ s.records) (λ v. inl refl) (row_of (PreOp x n at dirty)))
  unread (ReadChunks x n first count) = one (ends_row g s (ReadChunks x n first count) (work s (ReadChunks x n first count)) Before (λ (m : Records). m ≡ s.records) (λ v. inl refl) (row_of (ReadChunks x n first count)))
  unread (WriteChunks x n first chunks) = one (ends_row g s (WriteChunks x n first chunks) (work s (WriteChunks x n first chunks)) Before (λ (m : Records). m ≡ s.records) (λ v. inl refl) (row_of (WriteChunks x n first chunks)))
  unread (SetLength x n keep count) = one (ends_row g s (SetLength x n keep count) (work s (SetLength x n keep count)) Before (λ (m : Records). m ≡ s.records) (λ v. inl refl) (row_of (SetLength x n keep count)))
  unread (PostOp x n at version size attr) = one (ends_row g s (PostOp x n at version size attr) (work s (PostOp x n at version size attr)) Before (λ (m : Records). m ≡ s.records) (λ v. inl refl) (row_of (PostOp x n at version size attr)))
  unread (Clear x n at) = one (ends_row g s (Clear x n at) (work s (Clear x n at)) Before (λ (m : Records). m ≡ s.records) (λ v. inl refl) (row_of (Clear x n at)))
  unread (NameGet x n name) = one (ends_row g s (NameGet x n name) (work s (NameGet x n name)) Before (λ (m : Records). m ≡ s.records) (λ v. inl refl) (row_of (NameGet x n name)))
  unread (NamesAfter x n start) = one (ends_row g s (NamesAfter x n start) (work s (NamesAfter x n start)) Before (λ (m : Records). m ≡ s.records) (λ v. inl refl) (row_of (NamesAfter x n start)))
  unread (NameSet x n name child) = one (ends_row g s (NameSet x n name child) (work s (NameSet x n name child)) Before (λ (m : Records). m ≡ s.records) (λ v. inl refl) (row_of (NameSet x n name child)))
  unread (NamesPut x n start upto list) = one (ends_row g s (NamesPut x n start upto list) (work s (NamesPut x n start upto list)) Before (λ (m : Records). m ≡ s.records) (λ v. inl refl) (row_of (NamesPut x n start upto list)))
  unread (Make x n child) = one (ends_row g s (Make x n child) (work s (Make x n child)) Before (λ (m : Records). m ≡ s.records) (λ v. inl refl) (row_of (Make x n child)))
  unread (Made x n child) = one (ends_row g s (Made x n child) (work s (Made x n child)) Before (λ (m : Records). m ≡ s.records) (λ v. inl refl) (row_of (Made x n child)))
  unread (Unmake x n child) = one (ends_row g s (Unmake x n child) (work s (Unmake x n child)) Before (λ (m : Records). m ≡ s.records) (λ v. inl refl) (row_of (Unmake x n child)))
  unread (Mark x n heal head) = one (ends_row g s (Mark x n heal head) (work s (Mark x n heal head)) Before (λ (m : Records). m ≡ s.records) (λ v. inl refl) (row_of (Mark x n heal head)))
  unread (Unmark x n at dirty) = one (ends_row g s (Unmark x n at dirty) (work s (Unmark x n at dirty)) Before (λ (m : Records). m ≡ s.records) (λ v. inl refl) (row_of (Unmark x n at dirty)))

-- a write that is cut short: nothing was written, or of its first bytes a part may stand
abbrev pub Torn : Brick → Request → ℕ → Records → Type 0
Torn s (WriteChunks x n first chunks) count m = m ≡ unset_at s.records x.0 (512 * first) (length (take count (bytes_of chunks)))
Torn s q count m = m ≡ s.records

module _ (g : ℕ) (s : Brick) (count : ℕ) where
  pub torn : (q : Request) → ((torn_off s Within q count).brick.records ≡ s.records) ⊎ Torn s q count (torn_off s Within q count).brick.records
  torn (Ask x domain kind) = inl refl
  torn (Release x n) = inl refl
  torn (Query x n) = inl refl
  torn (PreOp x n at dirty) = inl refl
  torn (ReadChunks x n first count) = inl refl
  torn (WriteChunks x n first chunks) = ends_row g s (WriteChunks x n first chunks) (part_work s x first (take count (bytes_of chunks))) Within (Torn s (WriteChunks x n first chunks) count) (λ v. inr refl) (row_of (WriteChunks x n first chunks))
  torn (SetLength x n keep count) = inl refl
  torn (PostOp x n at version size attr) = inl refl
  torn (Clear x n at) = inl refl
  torn (NameGet x n name) = inl refl
  torn (NamesAfter x n start) = inl refl
  torn (NameSet x n name child) = inl refl
  torn (NamesPut x n start upto list) = inl refl
  torn (Make x n child) = inl refl
  torn (Made x n child) = inl refl
  torn (Unmake x n child) = inl refl
  torn (Mark x n heal head) = inl refl
  torn (Unmark x n at dirty) = inl refl
  torn (GfidsAfter start dirty) = inl refl

  pub untorn : (q : Request) → (torn_off s Before q count).brick.records ≡ s.records
  untorn (Ask x domain kind) = refl
  untorn (Release x n) = refl
  untorn (Query x n) = refl
  untorn (PreOp x n at dirty) = refl
  untorn (ReadChunks x n first count) = refl
  untorn (WriteChunks x n first chunks) = either (ends_row g s (WriteChunks x n first chunks) (part_work s x first (take count (bytes_of chunks))) Before (λ (m : Records). m ≡ s.records) (λ v. inl refl) (row_of (WriteChunks x n first chunks)))
    where
      either : {m : Records} → (m ≡ s.records) ⊎ (m ≡ s.records) → m ≡ s.records
      either (inl e) = e
      either (inr e) = e
  untorn (SetLength x n keep count) = refl
  untorn (PostOp x n at version size attr) = refl
  untorn (Clear x n at) = refl
  untorn (NameGet x n name) = refl
  untorn (NamesAfter x n start) = refl
  untorn (NameSet x n name child) = refl
  untorn (NamesPut x n start upto list) = refl
  untorn (Make x n child) = refl
  untorn (Made x n child) = refl
  untorn (Unmake x n child) = refl
  untorn (Mark x n heal head) = refl
  untorn (Unmark x n at dirty) = refl
  untorn (GfidsAfter start dirty) = refl
