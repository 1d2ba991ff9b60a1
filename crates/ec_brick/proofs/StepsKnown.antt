-- The table's step of a state of which less is known allows that of each state that is known better.
use Rattle.std.proofs.Common.{◌≡◌, inl, inr, ℕ, ◌*◌, ◌≤◌, Bool, true, false, cond, Option, Some, None, List, length, take, refl, sym, ◌∙◌, ap, subst, arith, length-take}
use Rattle.ec_attr.specs.declared.gfid.Gfid.{Gfid}
use Rattle.ec_attr.specs.declared.head.Head.{Head}
use Rattle.ec_attr.specs.declared.kind.Kind.TheVariants.{File}
use Rattle.ec_locks.specs.declared.ask.Ask.{Ask as Asking}
use Rattle.ec_store.specs.Causes.{Rose}
use Rattle.ec_store.specs.Records.{Records, head_at}
use Rattle.ec_wire.specs.declared.reply.Reply.{Reply}
use Rattle.ec_wire.specs.declared.request.Request.{Request}
use Rattle.ec_wire.specs.declared.request.Request.TheVariants.{Ask, Release, WriteChunks, GfidsAfter}
use Rattle.ec_brick.specs.Known.{AreKnown, IsKnownOut, IsKnownState}
use Rattle.ec_brick.specs.KnownLaws.{IsTornLess, KnownLaws}
use Rattle.ec_brick.specs.Meets.{IsTorn, Meets, TearsOff, failing_at}
use Rattle.ec_brick.specs.Replies.{Nothing, Replies, Says, own_of}
use Rattle.ec_brick.specs.Rows.{row_of}
use Rattle.ec_brick.specs.State.{State}
use Rattle.ec_brick.specs.Step.{Before, Failing, Fine, Out, Within, Work, by_row, cut_off, executed, fenced, head_read, judged, part_work, quiet, refusal_of, replies, started, step, stopped, stops, torn, torn_off, unguarded, version_of, work}
use Rattle.ec_brick.specs.Work.{bytes_of}
use Rattle.ec_brick.specs.declared.effects.Effects.{Effects}
use Rattle.ec_brick.specs.declared.row.Check.TheVariants.{Content}
use Rattle.ec_brick.specs.declared.row.Need.TheVariants.{Either}
use Rattle.ec_brick.specs.declared.row.Row.{Row}
use Rattle.ec_brick.proofs.Exits.{made_of}
use Rattle.ec_brick.proofs.Known.{known_trans, part_known, same_dirty, same_head_at}
use Rattle.ec_brick.proofs.Locking.{state_self}
use Rattle.ec_brick.proofs.RecordsKnown.{broken_known, own_known, same_present, unset_known, work_known, wrote_known}

through : (b c d : State) → IsKnownState b c → IsKnownState c d → IsKnownState b d
through b c d h k = record { same_config = k.same_config ∙ h.same_config; known = known_trans b.records c.records d.records h.known k.known; same_up = k.same_up ∙ h.same_up; same_asks = k.same_asks ∙ h.same_asks; same_removed = k.same_removed ∙ h.same_removed }

-- only the records differ
same_but : (b c : State) → IsKnownState b c → record b { records = c.records } ≡ c
same_but b c k = sym (ap (λ x. made_of x c.records c.up c.asks c.removed) k.same_config ∙ ap (λ x. made_of b.config c.records x c.asks c.removed) k.same_up ∙ ap (λ x. made_of b.config c.records b.up x c.removed) k.same_asks ∙ ap (made_of b.config c.records b.up b.asks) k.same_removed)

out_self : (x : Out) → IsKnownOut x x
out_self x = record { state = state_self x.brick; allows = λ reply e. e; same_version = refl; same_lets_in = refl }

-- the works of two states
record IsKnownWork (w v : Work) : Type 0 where
  done : IsKnownState w.done v.done
  broken : IsKnownState w.broken v.broken
  own : (reply : Option Reply) → Replies v.own reply → Replies w.own reply

stops_known : (x y : Out) → IsKnownOut x y → IsKnownOut (stops x) (stops y)
stops_known x y k = record { state = record { same_config = k.state.same_config; known = k.state.known; same_up = refl; same_asks = refl; same_removed = refl }; allows = λ reply e. e; same_version = k.same_version; same_lets_in = refl }

cond_known : (t : Bool) (x y z w : Out) → IsKnownOut x y → IsKnownOut z w → IsKnownOut (cond t x z) (cond t y w)
cond_known true x y z w h k = h
cond_known false x y z w h k = k

module _ (b : State) (r : Records) (k : AreKnown b.records r) where
  abbrev c : State
  c = record b { records = r }

  with : (m n : Records) (up : Bool) (asks : List Asking) (removed : ℕ → Bool) → AreKnown m n → IsKnownState (made_of b.config m up asks removed) (made_of b.config n up asks removed)
  with m n up asks removed h = record { same_config = refl; known = h; same_up = refl; same_asks = refl; same_removed = refl }

  states : IsKnownState b c
  states = with b.records r b.up b.asks b.removed k

  replies_known : (s : Says) (version : Option ℕ) → IsKnownOut (replies b s version) (replies c s version)
  replies_known s version = record { state = states; allows = λ reply e. e; same_version = refl; same_lets_in = refl }

  judged_known : (f : Failing) (w v : Work) (version : Option ℕ) (o : Option Reply) → IsKnownWork w v → IsKnownOut (judged b f w version o) (judged c f v version o)
  judged_known Fine w v version None h = record { state = h.done; allows = h.own; same_version = refl; same_lets_in = refl }
  judged_known Before w v version None h = replies_known _ version
  judged_known Within w v version None h = record { state = h.broken; allows = λ reply e. e; same_version = refl; same_lets_in = refl }
  judged_known f w v version (Some y) h = replies_known _ version

  at_head : (f : Failing) (w v : Work) (row : Row) (h j : Option Head) → j ≡ h → IsKnownWork w v → IsKnownOut (judged b f w (version_of h) (refusal_of b row h)) (judged c f v (version_of j) (refusal_of b row j))
  at_head f w v row h j e known = subst (λ x. IsKnownOut (judged b f w (version_of h) (refusal_of b row h)) (judged c f v (version_of x) (refusal_of b row x))) (sym e) (judged_known f w v _ _ known)

  head_known : (f : Failing) (w v : Work) (row : Row) → IsKnownWork w v → IsKnownOut (head_read b f w row (head_at b.records row.subject.0)) (head_read c f v row (head_at r row.subject.0))
  head_known Fine w v row h = at_head Fine w v row _ _ (same_head_at b.records r row.subject.0 k) h
  head_known Before w v row h = replies_known _ None
  head_known Within w v row h = at_head Within w v row _ _ (same_head_at b.records r row.subject.0 k) h

  fenced_known : (f : Failing) (w v : Work) (row : Row) (o : Option Reply) → IsKnownWork w v → IsKnownOut (fenced b f w row o) (fenced c f v row o)
  fenced_known f w v row None h = head_known f w v row h
  fenced_known f w v row (Some y) h = replies_known _ None

  row_known : (f : Failing) (w v : Work) (o : Option Row) → IsKnownWork w v → IsKnownOut (by_row b f w o) (by_row c f v o)
  row_known f w v None h = replies_known _ None
  row_known f w v (Some row) h = fenced_known f w v row _ h

  works : (q : Request) → IsKnownWork (work b q) (work c q)
  works q = record { done = with _ _ b.up b.asks _ (work_known b.config q b.records r k); broken = with _ _ b.up b.asks b.removed (broken_known q b.records r k); own = own_known q b.records r k }

  unguarded_known : (f : Failing) (q : Request) → IsKnownOut (unguarded b f (own_of q b.records)) (unguarded c f (own_of q r))
  unguarded_known Fine q = record { state = states; allows = own_known q b.records r k; same_version = refl; same_lets_in = refl }
  unguarded_known Before q = replies_known _ None
  unguarded_known Within q = replies_known _ None

  executed_known : (f : Failing) (client number : ℕ) (q : Request) → IsKnownOut (executed b f client number q) (executed c f client number q)
  executed_known f client number (Ask g domain kind) = record { state = with _ _ b.up _ b.removed k; allows = λ reply e. e; same_version = refl; same_lets_in = refl }
  executed_known f client number (Release g n) = record { state = with _ _ b.up _ b.removed k; allows = λ reply e. e; same_version = refl; same_lets_in = refl }
  executed_known f client number (GfidsAfter after dirty) = unguarded_known f (GfidsAfter after dirty)
  executed_known f client number q = row_known f (work b q) (work c q) (row_of q) (works q)

  step_known : (f : Failing) (client number : ℕ) (q : Request) → IsKnownOut (step b f client number q) (step c f client number q)
  step_known f client number q = cond_known b.up _ _ _ _ (executed_known f client number q) (replies_known Nothing None)

  part_works : (g : Gfid) (first : ℕ) (bytes : List ℕ) → IsKnownWork (part_work b g first bytes) (part_work c g first bytes)
  part_works g first bytes = record { done = with _ _ b.up b.asks b.removed (wrote_known b.records r g.0 (512 * first) bytes k); broken = with _ _ b.up b.asks b.removed (unset_known b.records r g.0 (512 * first) (length bytes) k); own = λ reply e. e }

  torn_off_known : (f : Failing) (q : Request) (count : ℕ) → IsKnownOut (torn_off b f q count) (torn_off c f q count)
  torn_off_known f (WriteChunks g n first chunks) count =
      let bytes = take count (bytes_of chunks) in
      stops_known _ _ (row_known f (part_work b g first bytes) (part_work c g first bytes) (row_of (WriteChunks g n first chunks)) (part_works g first bytes))
  torn_off_known f q count = stops_known _ _ (replies_known Nothing None)

  torn_known : (f : Failing) (q : Request) (count : ℕ) → IsKnownOut (torn b f q count) (torn c f q count)
  torn_known f q count = cond_known b.up _ _ _ _ (torn_off_known f q count) (replies_known Nothing None)

  cut_known : (client : ℕ) → IsKnownOut (cut_off b client) (cut_off c client)
  cut_known client = record { state = with _ _ b.up _ b.removed k; allows = λ reply e. e; same_version = refl; same_lets_in = refl }

steps : (b c : State) (f : Failing) (client number : ℕ) (q : Request) → IsKnownState b c → IsKnownOut (step b f client number q) (step c f client number q)
steps b c f client number q k = subst (λ x. IsKnownOut (step b f client number q) (step x f client number q)) (same_but b c k) (step_known b c.records k.known f client number q)

tears : (b c : State) (f : Failing) (q : Request) (count : ℕ) → IsKnownState b c → IsKnownOut (torn b f q count) (torn c f q count)
tears b c f q count k = subst (λ x. IsKnownOut (torn b f q count) (torn x f q count)) (same_but b c k) (torn_known b c.records k.known f q count)

cuts : (b c : State) (client : ℕ) → IsKnownState b c → IsKnownOut (cut_off b client) (cut_off c client)
cuts b c client k = subst (λ x. IsKnownOut (cut_off b client) (cut_off x client)) (same_but b c k) (cut_known b c.records k.known client)

meets : (b c : State) (f : Failing) (client number : ℕ) (q : Request) (e : Effects) (now : State) → IsKnownState b c → Meets (step c f client number q) e now → Meets (step b f client number q) e now
meets b c f client number q e now k m =
    let out = steps b c f client number q k in
    record { state = through _ _ now out.state m.state; says = out.allows e.reply m.says; same_version = m.same_version ∙ out.same_version; same_lets_in = m.same_lets_in ∙ out.same_lets_in }

-- a write that was cut short, of a state by itself: where its bytes may be unset less is known
module _ (b : State) (w v : Work) (less : IsKnownState w.broken v.done) where
  judged_version : (version : Option ℕ) (o : Option Reply) → (judged b Fine v version o).version ≡ version
  judged_version version None = refl
  judged_version version (Some y) = refl

  judged_less : (version : Option ℕ) (o : Option Reply) → IsKnownOut (stops (judged b Within w version o)) (stops (judged b Fine v version o))
  judged_less version None = record { state = record { same_config = less.same_config; known = less.known; same_up = refl; same_asks = refl; same_removed = refl }; allows = λ reply e. e; same_version = refl; same_lets_in = refl }
  judged_less version (Some y) = out_self _

module _ (b : State) (g : Gfid) (n : ℕ) (w v : Work) (less : IsKnownState w.broken v.done) where
  abbrev r : Row
  r = record { gfid = g; grant = n; need = Either; heal = None; subject = g; check = Content File }

  -- where there is no record the write is refused in either way
  head_less : (h : Option Head) → IsKnownOut (stops (head_read b (failing_at (version_of h)) w r h)) (stops (judged b Fine v (version_of h) (refusal_of b r h)))
  head_less None = out_self _
  head_less (Some x) = judged_less b w v less (version_of (Some x)) (refusal_of b r (Some x))

  fenced_less : (version : Option ℕ) (o : Option Reply) → version ≡ (stops (fenced b Fine v r o)).version → IsKnownOut (stops (fenced b (failing_at version) w r o)) (stops (fenced b Fine v r o))
  fenced_less version (Some y) e = out_self _
  fenced_less version None e =
      let h = head_at b.records g.0 in
      let read : version ≡ version_of h = e ∙ judged_version b w v less (version_of h) (refusal_of b r h) in
      subst (λ x. IsKnownOut (stops (head_read b (failing_at x) w r h)) (stops (head_read b Fine v r h))) (sym read) (head_less h)

fewer_bytes : (k count : ℕ) (bytes : List ℕ) → k ≤ count → length (take k bytes) ≤ length (take count bytes)
fewer_bytes k count bytes le = let few = length-take k bytes in let all = length-take count bytes in omega arith

write_less : (b : State) (g : Gfid) (first k count : ℕ) (bytes : List ℕ) → k ≤ count → IsKnownState (part_work b g first (take count bytes)).broken (part_work b g first (take k bytes)).done
write_less b g first k count bytes le = record { same_config = refl; known = part_known b.records g.0 (512 * first) _ (take k bytes) (fewer_bytes k count bytes le); same_up = refl; same_asks = refl; same_removed = refl }

torn_off_less : (b : State) (q : Request) (k count : ℕ) (version : Option ℕ) → k ≤ count → version ≡ (torn_off b Fine q k).version → IsKnownOut (torn_off b (failing_at version) q count) (torn_off b Fine q k)
torn_off_less b (WriteChunks g n first chunks) k count version le e =
    fenced_less b g n (part_work b g first (take count (bytes_of chunks))) (part_work b g first (take k (bytes_of chunks))) (write_less b g first k count (bytes_of chunks) le) version _ e
torn_off_less b q k count version le e = out_self _

torn_less : (b : State) (q : Request) (k count : ℕ) (version : Option ℕ) → k ≤ count → version ≡ (torn b Fine q k).version → IsKnownOut (torn b (failing_at version) q count) (torn b Fine q k)
torn_less b q k count version le e = by b.up e where
  by : (t : Bool) → version ≡ (cond t (torn_off b Fine q k) (quiet b)).version → IsKnownOut (cond t (torn_off b (failing_at version) q count) (quiet b)) (cond t (torn_off b Fine q k) (quiet b))
  by true e = torn_off_less b q k count version le e
  by false e = out_self _

-- before the work no version is read
fenced_before : (b : State) (w : Work) (r : Row) (o : Option Reply) → (fenced b Before w r o).version ≡ None
fenced_before b w r None = refl
fenced_before b w r (Some y) = refl

row_before : (b : State) (w : Work) (o : Option Row) → (by_row b Before w o).version ≡ None
row_before b w None = refl
row_before b w (Some r) = fenced_before b w r _

torn_off_before : (b : State) (q : Request) (count : ℕ) → (torn_off b Before q count).version ≡ None
torn_off_before b (WriteChunks g n first chunks) count = row_before b (part_work b g first (take count (bytes_of chunks))) (row_of (WriteChunks g n first chunks))
torn_off_before b q count = refl

torn_before : (b : State) (q : Request) (count : ℕ) → (torn b Before q count).version ≡ None
torn_before b q count = by b.up where
  by : (t : Bool) → (cond t (torn_off b Before q count) (quiet b)).version ≡ None
  by true = torn_off_before b q count
  by false = refl

unread_less : (b : State) (q : Request) (count : ℕ) (version : Option ℕ) → version ≡ (torn b Before q count).version → IsKnownOut (torn b (failing_at version) q count) (torn b Before q count)
unread_less b q count version e = subst (λ x. IsKnownOut (torn b (failing_at x) q count) (torn b Before q count)) (sym (e ∙ torn_before b q count)) (out_self _)

torn_as : (b : State) (f : Failing) (q : Request) (k count : ℕ) (version : Option ℕ) (now : State) → IsTorn b f q k version now → IsKnownOut (torn b (failing_at version) q count) (torn b f q k) → IsTornLess b q count version now
torn_as b f q k count version now t known = record { same_version = t.same_version ∙ known.same_version; state = subst (IsKnownState (torn b (failing_at version) q count).brick) (sym t.same_state) known.state }

tears_less : (Risen : Type 0) (b : State) (q : Request) (count : ℕ) (version : Option ℕ) (now : State) → TearsOff Risen b q count version now → IsTornLess b q count version now
tears_less Risen b q count version now t = elim t [ inl whole ↦ torn_as b Fine q count count version now whole (torn_less b q count count version (omega arith) whole.same_version) | inr part ↦ elim part.1 [ inl unread ↦ torn_as b Before q count count version now unread (unread_less b q count version unread.same_version) | inr front ↦ torn_as b Fine q front.0 count version now front.2 (torn_less b q front.0 count version front.1 front.2.same_version) ] ]

torn_off_law : (b c : State) (q : Request) (count before after : ℕ) (version : Option ℕ) (now : State) → IsKnownState b c → TearsOff (Rose before after) c q count version now → IsTornLess b q count version now
torn_off_law b c q count before after version now k t =
    let less = tears_less (Rose before after) c q count version now t in
    let known = tears b c (failing_at version) q count k in
    record { same_version = less.same_version ∙ known.same_version; state = through _ _ now known.state less.state }

stop_known : (b c : State) → IsKnownState b c → IsKnownState (stopped b) (stopped c)
stop_known b c k = record { same_config = k.same_config; known = k.known; same_up = refl; same_asks = refl; same_removed = refl }

start_known : (b c : State) → IsKnownState b c → IsKnownState (started b) (started c)
start_known b c k = record { same_config = k.same_config; known = k.known; same_up = refl; same_asks = k.same_asks; same_removed = k.same_removed }

pub laws : KnownLaws
laws = record {
  same = state_self;
  through = through;
  present = same_present;
  heads = same_head_at;
  dirty = same_dirty;
  steps = steps;
  stops = stop_known;
  starts = start_known;
  cuts = cuts;
  tears = tears;
  meets = meets;
  torn_off = torn_off_law;
}
