-- All that is known of reads, entry by entry.
use Rattle.std.proofs.Common.{◌≡◌, ◌+◌, ◌<◌, ◌≤◌, ◌^◌, ℕ, Bool, true, false, not, ◌&&◌, ◌||◌, Option, Some, None, List, refl, sym, ◌∙◌, ap, subst, arith, ⊎_elim}
use Rattle.std.specs.Prelude.{unwrap_or}
use Rattle.ec_attr.specs.Marks.{is_marked}
use Rattle.ec_attr.specs.declared.geometry.Geometry.{Geometry}
use Rattle.ec_attr.specs.declared.gfid.Gfid.{Gfid}
use Rattle.ec_conduct.specs.Account.{Account, Exchange, at, gfid_of}
use Rattle.ec_conduct.specs.Conduct.{MaySend, is_release, named_grant}
use Rattle.ec_conduct.specs.Done.{did}
use Rattle.ec_conduct.specs.Given.{Given, quorum}
use Rattle.ec_conduct.specs.Opened.{account}
use Rattle.ec_conduct.specs.Standing.{holds}
use Rattle.ec_history.specs.Accounts.{Books, Leaving, booked, sender}
use Rattle.ec_history.specs.IsRun.{May as MayEnter, MaySay}
use Rattle.ec_history.specs.Run.{Net, after as net_after}
use Rattle.ec_history.specs.Story.{Story}
use Rattle.ec_wire.specs.declared.entry.Entry.{Entry}
use Rattle.ec_wire.specs.declared.entry.Entry.TheVariants.{Answered, Called, Cut, Died, Executed, GivenUp, Heard, Lost, Replaced, Returned, Sent, Stopped, Torn, Yielded}
use Rattle.ec_wire.specs.declared.message.Body.{Body}
use Rattle.ec_wire.specs.declared.message.Body.TheVariants.{ToBrick, ToClient}
use Rattle.ec_wire.specs.declared.message.Message.{Message}
use Rattle.ec_wire.specs.declared.reply.Reply.{Reply}
use Rattle.ec_wire.specs.declared.request.Request.{Request}
use Rattle.ec_wire.specs.declared.request.Request.TheVariants.{PreOp, ReadChunks}
use Rattle.ec_law_base.specs.State.{State}
use Rattle.ec_law_ballots.specs.Guard.{Runs}
use Rattle.ec_law_quorum.proofs.Laws.{inv_after}
use Rattle.ec_law_net.specs.Turns.{View, acts, is_lock_on, is_over, seen_after, turn_after, turn_of}
use Rattle.ec_law_turns.specs.Follows.{Follows, IsLock, IsOfTurn}
use Rattle.ec_law_turns.specs.Once.{is_plain_pre}
use Rattle.ec_law_turns.specs.Reached.{Reached}
use Rattle.ec_law_turns.specs.Shown.{IsOver, Tells}
use Rattle.ec_law_turns.specs.Sound.{Names}
use Rattle.ec_law_turns.proofs.Basics.{equal, put_here, put_there, some_is}
use Rattle.ec_law_turns.proofs.Filed.{InBooks, filed_entry, in_books_map}
use Rattle.ec_law_turns.proofs.Later.{after_later}
use Rattle.ec_law_turns.proofs.Sends.{adds, of_after, said_after}
use Rattle.ec_law_turns.proofs.SentKnown.{BodyKept}
use Rattle.ec_law_turns.proofs.SentSound.{holds_lock, own_sender}
use Rattle.ec_law_turns.proofs.Steps.{EntryKept, executed_same, heard_same, made_same, torn_same}
use Rattle.ec_law_turns.proofs.Tracks.{Adds}
use Rattle.ec_law_turns.proofs.Turned.{turn_kept}
use Rattle.ec_law_turns.proofs.Windows.{all_both, did_one, reply_of}
use Rattle.ec_law_data.specs.Deeds.{file_after, is_post_on}
use Rattle.ec_law_data.specs.Forms.{Coder, Piece, Shape, is_chunk_read}
use Rattle.ec_law_data.specs.Link.{HasPieces}
use Rattle.ec_law_reads.specs.Units.{of_units}
use Rattle.ec_law_data.specs.Reading.{Plans, Reading}
use Rattle.ec_law_data.proofs.Cores.{entry_heads}
use Rattle.ec_law_data.proofs.Planning.{writer_names}
use Rattle.ec_law_data.proofs.Settling.{newly_planned}
use Rattle.ec_law_reads.proofs.Answered.{FragmentFile, OwedRead, SentRead, late_after, owed_then, sent_then}
use Rattle.ec_law_reads.proofs.Leading.{IsBeside, IsNamed, Leads, leads}
use Rattle.ec_law_reads.proofs.Timing.{AllInTime, in_time_entry, in_time_later}

-- a reply that is over was sent
abbrev pub IsHeard : (ℕ → Option Message) → Exchange → Type 0
IsHeard said e = (reply : Reply) → e.reply ≡ Some reply → (j : ℕ) × (x : Message) × (said j ≡ Some x) × (x.body ≡ ToClient e.number reply)

pub record ReadsKnown (unit : List (List ℕ) → ℕ → ℕ) (kk : ℕ) (coder : Coder) (geometry : Geometry) (g : ℕ) (m : Net) (v : View) (b : Books) (f : FragmentFile) (late : ℕ → Bool) : Type 0 where
  pub beside : IsBeside (of_units unit kk coder) geometry.n (quorum geometry) g m v f
  pub sure : (i : ℕ) (x : Message) → m.said i ≡ Some x → late i ≡ true → v.core.pre (v.of i) x.brick ≡ true
  pub owed : OwedRead g m.said v.of late f m.owed
  pub sent : SentRead g m.said v.of late f
  pub timed : AllInTime g late b
  pub heard : InBooks (IsHeard m.said) b

-- ## A read that is sent names a lock of its turn

-- and where its call was told of a PreOp, that was done
module _ (geometry : Geometry) (g : ℕ) (m : Net) (v : View) (b : Books) (msg : Message) (next_no : msg.no ≡ m.next) (may : MaySay geometry.n m msg msg.body) (kept : BodyKept m b msg msg.body) (r : Reached geometry g m v b) (q : Request) (body : msg.body ≡ ToBrick q) (read : is_chunk_read g q ≡ true) where
  shut : (t u : Bool) → t ≡ false → (t && u) ≡ false
  shut false u e = refl
  shut true u e = absurd (cc)

  no_lock : (q : Request) → is_chunk_read g q ≡ true → (is_lock_on g (ToBrick q) ≡ false) × (is_release q ≡ false)
  no_lock (ReadChunks x n first count) e = (refl, refl)
  no_lock q e = absurd (cc)

  more : Adds m.said (said_after m msg) v.of (of_after g v msg) msg.no msg
  more = adds geometry.n g m v msg next_no r.known.messages

  same_turn : turn_after g v msg msg.call ≡ v.turn msg.call
  same_turn = turn_kept g v msg msg.call (shut (is_lock_on g msg.body) (is_over v.core (v.turn msg.call)) (ap (is_lock_on g) body ∙ (no_lock q read).0))

  turn_is : (t : ℕ) → v.turn msg.call ≡ Some t → turn_of g v msg ≡ t
  turn_is t has = ap (λ (o : Option ℕ). unwrap_or o 0) (same_turn ∙ has)

  held_grant : (c : Account) (q : Request) → is_chunk_read g q ≡ true → MaySend c msg.brick q → (grant : ℕ) × (named_grant q ≡ Some grant) × (holds (at c g msg.brick).inode grant ≡ true)
  held_grant c (ReadChunks x n first count) e h = (n, refl, subst (λ (y : ℕ). holds (at c y msg.brick).inode n ≡ true) (equal x.0 g e) h.1)
  held_grant c q e h = absurd (cc)

  named : (c : Account) → Follows g m.said v.turn v.of v.core.moment msg.call c → (n : ℕ) → holds (at c g msg.brick).inode n ≡ true → Names g (said_after m msg) (of_after g v msg) msg.call msg.brick msg.no n
  named c f n h =
      let o = holds_lock (at c g msg.brick).inode n h in
      let l = f.lock msg.brick o.0 o.1 in
      let lock = subst (IsLock g m.said msg.call msg.brick) o.2 l.1 in
      let turn = l.0 ∙ ap (λ (y : ℕ). Some (v.of y)) o.2 in
      let mine = put_here v.of msg.no (turn_of g v msg) msg.no refl ∙ turn_is (v.of n) turn in
      record {
        lock = record { gfid = lock.gfid; kind = lock.kind; on = lock.on; asks = record { message = lock.asks.message; is = (more.still n lock.asks.message lock.asks.is).0; call = lock.asks.call; brick = lock.asks.brick; body = lock.asks.body } };
        turn = (more.still n lock.asks.message lock.asks.is).1 ∙ sym mine;
        begun = subst (λ (t : ℕ). 2 ^ 61 ≤ t) (sym mine) (r.known.messages.turns msg.call (v.of n) turn).0;
      }

  pub reader_names : (grant : ℕ) × (named_grant q ≡ Some grant) × Names g (said_after m msg) (of_after g v msg) msg.call msg.brick msg.no grant
  reader_names =
      let asker = subst (λ (z : Body). MaySay geometry.n m msg z) body may in
      let made = r.known.numbers.made msg.call asker.asker asker.made in
      let mine = own_sender m b msg q (no_lock q read).1 in
      let c = account made.1 (b.own msg.call) in
      let allowed = subst (BodyKept m b msg) body kept made.1 made.2 mine in
      let grant = held_grant c q read allowed.0 in
      (grant.0, grant.1, named c (r.known.calls msg.call made.1 made.2) grant.0 grant.2)

  plain_is : (q : Request) → is_plain_pre q ≡ true → (x : Gfid) × (n : ℕ) × (v : ℕ) × (d : ℕ) × (q ≡ PreOp x n v d) × (is_marked v ≡ false)
  plain_is (PreOp x n v d) e = (x, n, v, d, refl, negated (is_marked v) e)
    where
      negated : (t : Bool) → not t ≡ true → t ≡ false
      negated false e = refl
      negated true e = absurd (cc)
  plain_is q e = absurd (cc)

  pub pre_was_done : (given : Given) → b.given msg.call ≡ Some given → did is_plain_pre (((account given (b.own msg.call)).on g).place msg.brick).window ≡ true → v.core.pre (turn_of g v msg) msg.brick ≡ true
  pre_was_done given is done =
      let c = account given (b.own msg.call) in
      let follows = r.known.calls msg.call given is in
      let learnt = r.shown.calls msg.call given is in
      let o = did_one (λ e. IsOfTurn m.said v.turn v.of msg.call msg.brick e.number e.request × IsOver g m.said v.of v.core e) is_plain_pre ((c.on g).place msg.brick).window (all_both (λ e. IsOfTurn m.said v.turn v.of msg.call msg.brick e.number e.request) (IsOver g m.said v.of v.core) ((c.on g).place msg.brick).window (follows.window msg.brick) (learnt.window msg.brick)) done in
      let u = plain_is o.e.request o.so.0 in
      let reply = reply_of o.e.reply o.so.1 in
      let told = o.all.1.told reply.0 reply.1 in
      let s = o.all.0.0 in
      let same = some_is told.message s.message (sym told.is ∙ s.is) in
      let tells = told.at o.e.request (ap (λ (y : Message). y.body) same ∙ s.body) in
      let tells' = subst (λ (z : Request). Tells g m.said v.core (v.of o.e.number) told.message.brick z reply.0) u.4 tells in
      let on = some_is u.0.0 g (ap gfid_of (sym u.4) ∙ o.all.1.on) in
      subst (λ (t : ℕ). v.core.pre t msg.brick ≡ true) (sym (turn_is (v.of o.e.number) o.all.0.1))
      (subst (λ (y : ℕ). v.core.pre (v.of o.e.number) y ≡ true) (ap (λ (y : Message). y.brick) same ∙ s.brick) (tells' on reply.2 u.5))

-- ## An entry

module _ (unit : List (List ℕ) → ℕ → ℕ) (kk : ℕ) (coder : Coder) (plans : Plans ℕ (List (List ℕ)) ℕ Shape) (geometry : Geometry) (left : ℕ → Leaving) (g : ℕ) (m : Net) (v : View) (t : Story) (b : Books) (r : Reached geometry g m v b) (f : FragmentFile) (late : ℕ → Bool) (known : ReadsKnown unit kk coder geometry g m v b f late) (pieces : HasPieces (of_units unit kk coder) geometry.n g m f) where
  abbrev R : Reading ℕ (List (List ℕ)) Piece ℕ Shape
  R = of_units unit kk coder

  abbrev later : Entry → FragmentFile
  later e = file_after (of_units unit kk coder) plans geometry.n (quorum geometry) g m v f e

  most' : geometry.n < quorum geometry + quorum geometry
  most' = let h = geometry.majority in omega (arith, h)

  stay : (f' : FragmentFile) → Leads f f' → (a : ℕ) → f.planned a ≡ true → f'.planned a ≡ true
  stay f' leads a h = by (f'.planned a) refl
    where
      by : (t : Bool) → f'.planned a ≡ t → t ≡ true
      by true e = refl
      by false e = absurd (let z = sym h ∙ leads.free a e in cc)

  -- plans

  abbrev PlannedBy : (ℕ → Option Message) → (ℕ → ℕ) → FragmentFile → Type 0
  PlannedBy said of f' = (i : ℕ) (x : Message) (q : Request) → said i ≡ Some x → x.body ≡ ToBrick q → (R.is_write g q || is_post_on g q) ≡ true → f'.planned (of i) ≡ true

  planned_same : (f' : FragmentFile) → Leads f f' → (said : ℕ → Option Message) (of : ℕ → ℕ) → said ≡ m.said → of ≡ v.of → PlannedBy said of f'
  planned_same f' leads said of e h = subst (λ (z : ℕ → Option Message). PlannedBy z of f') (sym e) (subst (λ (z : ℕ → ℕ). PlannedBy m.said z f') (sym h) (λ i x q is body w. stay f' leads (v.of i) (known.beside.planned i x q is body w)))

  planned_sent : (msg : Message) → msg.no ≡ m.next → Leads f (later (Sent msg)) → PlannedBy (said_after m msg) (of_after g v msg) (later (Sent msg))
  planned_sent msg next_no leads i x q said body w = ⊎_elim
      (λ z. subst (λ (j : ℕ). (later (Sent msg)).planned (of_after g v msg j) ≡ true) (sym z.0) (ap (later (Sent msg)).planned (put_here v.of msg.no (turn_of g v msg) msg.no refl) ∙ newly_planned (of_units unit kk coder) plans geometry.n (quorum geometry) g m v f msg q (ap (λ (y : Message). y.body) z.1 ∙ body) w))
      (λ z. ap (later (Sent msg)).planned (more.still i x z).1 ∙ stay (later (Sent msg)) leads (v.of i) (known.beside.planned i x q z body w))
      (more.newest i x said)
    where
      more : Adds m.said (said_after m msg) v.of (of_after g v msg) msg.no msg
      more = adds geometry.n g m v msg next_no r.known.messages

  -- names

  abbrev NamedBy : (ℕ → Option Message) → (ℕ → ℕ) → Type 0
  NamedBy said of = (i : ℕ) (x : Message) (q : Request) → said i ≡ Some x → x.body ≡ ToBrick q → IsNamed g q → (grant : ℕ) × (named_grant q ≡ Some grant) × Names g said of x.call x.brick i grant

  named_same : (said : ℕ → Option Message) (of : ℕ → ℕ) → said ≡ m.said → of ≡ v.of → NamedBy said of
  named_same said of e h = subst (λ (z : ℕ → Option Message). NamedBy z of) (sym e) (subst (λ (z : ℕ → ℕ). NamedBy m.said z) (sym h) known.beside.named)

  named_sent : (msg : Message) → msg.no ≡ m.next → MaySay geometry.n m msg msg.body → BodyKept m b msg msg.body → NamedBy (said_after m msg) (of_after g v msg)
  named_sent msg next_no may kept i x q said body w = ⊎_elim
      (λ z. subst (λ (y : Message). (grant : ℕ) × (named_grant q ≡ Some grant) × Names g (said_after m msg) (of_after g v msg) y.call y.brick i grant) z.1 (subst (λ (j : ℕ). (grant : ℕ) × (named_grant q ≡ Some grant) × Names g (said_after m msg) (of_after g v msg) msg.call msg.brick j grant) (sym z.0) (newest (ap (λ (y : Message). y.body) z.1 ∙ body))))
      (λ z. let o = known.beside.named i x q z body w in (o.0, o.1, later_names i x z o.0 o.2))
      (more.newest i x said)
    where
      more : Adds m.said (said_after m msg) v.of (of_after g v msg) msg.no msg
      more = adds geometry.n g m v msg next_no r.known.messages

      newest : msg.body ≡ ToBrick q → (grant : ℕ) × (named_grant q ≡ Some grant) × Names g (said_after m msg) (of_after g v msg) msg.call msg.brick msg.no grant
      newest is = ⊎_elim (λ h. writer_names geometry g m v b msg next_no may kept r.known r.shown q is h) (λ h. reader_names geometry g m v b msg next_no may kept r q is h) w

      later_names : (i : ℕ) (x : Message) → m.said i ≡ Some x → (grant : ℕ) → Names g m.said v.of x.call x.brick i grant → Names g (said_after m msg) (of_after g v msg) x.call x.brick i grant
      later_names i x said grant h = record {
        lock = record { gfid = h.lock.gfid; kind = h.lock.kind; on = h.lock.on; asks = record { message = h.lock.asks.message; is = (more.still grant h.lock.asks.message h.lock.asks.is).0; call = h.lock.asks.call; brick = h.lock.asks.brick; body = h.lock.asks.body } };
        turn = (more.still grant h.lock.asks.message h.lock.asks.is).1 ∙ (h.turn ∙ sym (more.still i x said).1);
        begun = subst (λ (t : ℕ). 2 ^ 61 ≤ t) (sym (more.still i x said).1) h.begun;
      }

  beside_by : (e : Entry) → Runs geometry.n (quorum geometry) (acts g m v e) v.core → PlannedBy (net_after m e).said (seen_after g m v e).of (later e) → NamedBy (net_after m e).said (seen_after g m v e).of → IsBeside (of_units unit kk coder) geometry.n (quorum geometry) g (net_after m e) (seen_after g m v e) (later e)
  beside_by e runs planned named = record {
    heads = entry_heads (of_units unit kk coder) plans geometry.n (quorum geometry) g m v f e known.beside.heads;
    inv = inv_after geometry.n (quorum geometry) most' (omega arith) (acts g m v e) v.core runs known.beside.inv;
    planned = planned;
    named = named;
  }

  -- reads after a PreOp

  abbrev SureBy : (ℕ → Option Message) → (ℕ → ℕ) → (ℕ → Bool) → State → Type 0
  SureBy said of late' s = (i : ℕ) (x : Message) → said i ≡ Some x → late' i ≡ true → s.pre (of i) x.brick ≡ true

  sure_same : (s : State) → ((a c : ℕ) → v.core.pre a c ≡ true → s.pre a c ≡ true) → (said : ℕ → Option Message) (of : ℕ → ℕ) → said ≡ m.said → of ≡ v.of → SureBy said of late s
  sure_same s grows said of e h = subst (λ (z : ℕ → Option Message). SureBy z of late s) (sym e) (subst (λ (z : ℕ → ℕ). SureBy m.said z late s) (sym h) (λ i x is so. grows (v.of i) x.brick (known.sure i x is so)))

  sure_sent : (msg : Message) → msg.no ≡ m.next → (s : State) → ((a c : ℕ) → v.core.pre a c ≡ true → s.pre a c ≡ true) → SureBy (said_after m msg) (of_after g v msg) (late_after g v late (Sent msg)) s
  sure_sent msg next_no s grows i x said so = ⊎_elim
      (λ z. subst (λ (y : Message). s.pre (of_after g v msg i) y.brick ≡ true) z.1 (subst (λ (j : ℕ). s.pre (of_after g v msg j) msg.brick ≡ true) (sym z.0) (subst (λ (a : ℕ). s.pre a msg.brick ≡ true) (sym (put_here v.of msg.no (turn_of g v msg) msg.no refl)) (grows (turn_of g v msg) msg.brick (sym (put_here late msg.no (v.core.pre (turn_of g v msg) msg.brick) i (sym z.0)) ∙ so)))))
      (λ z. subst (λ (a : ℕ). s.pre a x.brick ≡ true) (sym (more.still i x z).1) (grows (v.of i) x.brick (known.sure i x z (sym (put_there late msg.no (v.core.pre (turn_of g v msg) msg.brick) i (more.before i x z)) ∙ so))))
      (more.newest i x said)
    where
      more : Adds m.said (said_after m msg) v.of (of_after g v msg) msg.no msg
      more = adds geometry.n g m v msg next_no r.known.messages

  -- accounts

  late_still : (e : Entry) → MayEnter geometry.n m e → (i : ℕ) (x : Message) → m.said i ≡ Some x → late_after g v late e i ≡ late i
  late_still (Sent msg) may i x is = put_there late msg.no (v.core.pre (turn_of g v msg) msg.brick) i ((adds geometry.n g m v msg may.0 r.known.messages).before i x is)
  late_still e may i x is = refl

  newly_late : (e : Entry) → MayEnter geometry.n m e → EntryKept m b e → (msg : Message) (q : Request) (given : Given) → e ≡ Sent msg → msg.body ≡ ToBrick q → sender m b msg q ≡ Some msg.call → b.given msg.call ≡ Some given → is_chunk_read g q ≡ true → did is_plain_pre (((account given (b.own msg.call)).on g).place msg.brick).window ≡ true → late_after g v late e msg.no ≡ true
  newly_late e may kept msg q given is body mine there read done =
      let may' = subst (λ (z : Entry). MayEnter geometry.n m z) is may in
      let kept' = subst (λ (z : Entry). EntryKept m b z) is kept in
      ap (λ (z : Entry). late_after g v late z msg.no) is
      ∙ (put_here late msg.no (v.core.pre (turn_of g v msg) msg.brick) msg.no refl
      ∙ pre_was_done geometry g m v b msg may'.0 may'.1 kept' r q body read given there done)

  timed_then : (e : Entry) → MayEnter geometry.n m e → EntryKept m b e → AllInTime g (late_after g v late e) (booked geometry left m t b e)
  timed_then e may kept = in_time_entry geometry g m b r.known.numbers (late_after g v late e)
      (λ a given is. in_time_later g m.said v.turn v.of v.core.moment late (late_after g v late e) (late_still e may) a (account given (b.own a)) (r.known.calls a given is) (known.timed a given is))
      left t e may (newly_late e may kept)

  said_still : (e : Entry) → MayEnter geometry.n m e → (j : ℕ) (x : Message) → m.said j ≡ Some x → (net_after m e).said j ≡ Some x
  said_still (Sent msg) may j x is = ((adds geometry.n g m v msg may.0 r.known.messages).still j x is).0
  said_still (Executed i version failed) may j x is = ap (λ (z : ℕ → Option Message). z j) (executed_same m (m.said i) version failed).0 ∙ is
  said_still (Heard i) may j x is = ap (λ (z : ℕ → Option Message). z j) (heard_same m (m.said i)).0 ∙ is
  said_still (Torn i count version) may j x is = ap (λ (z : ℕ → Option Message). z j) (torn_same m (m.said i) count version).0 ∙ is
  said_still e may j x is = is

  heard_then : (e : Entry) → MayEnter geometry.n m e → InBooks (IsHeard (net_after m e).said) (booked geometry left m t b e)
  heard_then e may = in_books_map (IsHeard m.said) (IsHeard (net_after m e).said) (λ x h reply is. let o = h reply is in (o.0, o.1, said_still e may o.0 o.1 o.2, o.3)) (booked geometry left m t b e)
      (filed_entry (IsHeard m.said) geometry m b r.known.numbers (λ j q reply is. absurd (none_some reply is)) known.heard left t e may (λ i x re reply is body q other same. (i, x, is, body ∙ ap (ToClient re) (some_is reply other same))))
    where
      none_some : (reply : Reply) → None ≡ Some reply → ⊥
      none_some reply e = cc

  -- ## All of it

  pub known_then : (e : Entry) → MayEnter geometry.n m e → EntryKept m b e → Runs geometry.n (quorum geometry) (acts g m v e) v.core → ReadsKnown unit kk coder geometry g (net_after m e) (seen_after g m v e) (booked geometry left m t b e) (later e) (late_after g v late e)
  known_then e may kept runs = record {
    beside = beside_by e runs (planned e may goes) (named e may kept);
    sure = sure e may (after_later geometry.n (quorum geometry) (acts g m v e) v.core runs).pre;
    owed = owed_then unit kk coder plans geometry g m v b r f known.beside pieces late known.sure known.owed known.sent e may goes runs;
    sent = sent_then unit kk coder plans geometry g m v b r f known.beside pieces late known.sure known.owed known.sent e may goes;
    timed = timed_then e may kept;
    heard = heard_then e may;
  }
    where
      goes : Leads f (file_after (of_units unit kk coder) plans geometry.n (quorum geometry) g m v f e)
      goes = leads unit kk coder plans geometry g m v r.linked r.locks r.asks f known.beside e may runs

      planned : (e : Entry) → MayEnter geometry.n m e → Leads f (file_after (of_units unit kk coder) plans geometry.n (quorum geometry) g m v f e) → PlannedBy (net_after m e).said (seen_after g m v e).of (file_after (of_units unit kk coder) plans geometry.n (quorum geometry) g m v f e)
      planned (Called a client op) may goes = planned_same (later (Called a client op)) goes m.said (seen_after g m v (Called a client op)).of refl (made_same g v a op).1
      planned (Sent msg) may goes = planned_sent msg may.0 goes
      planned (Executed i version failed) may goes = planned_same (later (Executed i version failed)) goes (net_after m (Executed i version failed)).said v.of (executed_same m (m.said i) version failed).0 refl
      planned (Heard i) may goes = planned_same (later (Heard i)) goes (net_after m (Heard i)).said v.of (heard_same m (m.said i)).0 refl
      planned (Torn i count version) may goes = planned_same (later (Torn i count version)) goes (net_after m (Torn i count version)).said v.of (torn_same m (m.said i) count version).0 refl
      planned (Lost i) may goes = planned_same (later (Lost i)) goes m.said v.of refl refl
      planned (GivenUp client brick i) may goes = planned_same (later (GivenUp client brick i)) goes m.said v.of refl refl
      planned (Stopped c) may goes = planned_same (later (Stopped c)) goes m.said v.of refl refl
      planned (Returned c) may goes = planned_same (later (Returned c)) goes m.said v.of refl refl
      planned (Cut client c) may goes = planned_same (later (Cut client c)) goes m.said v.of refl refl
      planned (Died client) may goes = planned_same (later (Died client)) goes m.said v.of refl refl
      planned (Yielded client) may goes = planned_same (later (Yielded client)) goes m.said v.of refl refl
      planned (Answered a answer) may goes = planned_same (later (Answered a answer)) goes m.said v.of refl refl
      planned (Replaced c removed all) may goes = planned_same (later (Replaced c removed all)) goes m.said v.of refl refl

      named : (e : Entry) → MayEnter geometry.n m e → EntryKept m b e → NamedBy (net_after m e).said (seen_after g m v e).of
      named (Called a client op) may kept = named_same m.said (seen_after g m v (Called a client op)).of refl (made_same g v a op).1
      named (Sent msg) may kept = named_sent msg may.0 may.1 kept
      named (Executed i version failed) may kept = named_same (net_after m (Executed i version failed)).said v.of (executed_same m (m.said i) version failed).0 refl
      named (Heard i) may kept = named_same (net_after m (Heard i)).said v.of (heard_same m (m.said i)).0 refl
      named (Torn i count version) may kept = named_same (net_after m (Torn i count version)).said v.of (torn_same m (m.said i) count version).0 refl
      named e may kept = known.beside.named

      sure : (e : Entry) → MayEnter geometry.n m e → ((a c : ℕ) → v.core.pre a c ≡ true → (seen_after g m v e).core.pre a c ≡ true) → SureBy (net_after m e).said (seen_after g m v e).of (late_after g v late e) (seen_after g m v e).core
      sure (Called a client op) may grows = sure_same (seen_after g m v (Called a client op)).core grows m.said (seen_after g m v (Called a client op)).of refl (made_same g v a op).1
      sure (Sent msg) may grows = sure_sent msg may.0 (seen_after g m v (Sent msg)).core grows
      sure (Executed i version failed) may grows = sure_same (seen_after g m v (Executed i version failed)).core grows (net_after m (Executed i version failed)).said v.of (executed_same m (m.said i) version failed).0 refl
      sure (Heard i) may grows = sure_same (seen_after g m v (Heard i)).core grows (net_after m (Heard i)).said v.of (heard_same m (m.said i)).0 refl
      sure (Torn i count version) may grows = sure_same (seen_after g m v (Torn i count version)).core grows (net_after m (Torn i count version)).said v.of (torn_same m (m.said i) count version).0 refl
      sure e may grows = sure_same (seen_after g m v e).core grows m.said v.of refl refl
