-- Makes, Mades and makers go on by each entry.
use Rattle.std.proofs.Common.{◌≡◌, ℕ, ◌-◌, ◌^◌, ◌<◌, ◌≤◌, Bool, true, false, ◌==◌, Option, Some, None, List, [], ◌∷◌, refl, sym, ◌∙◌, ap, subst, ⊎_elim}
use Rattle.std.specs.Option.{option_map}
use Rattle.ec_attr.specs.declared.geometry.Geometry.{Geometry}
use Rattle.ec_attr.specs.declared.gfid.Gfid.{Gfid}
use Rattle.ec_attr.specs.declared.kind.Child.{Child}
use Rattle.ec_attr.specs.declared.kind.Domain.TheVariants.{Inode}
use Rattle.ec_wire.specs.declared.entry.Entry.{Entry}
use Rattle.ec_wire.specs.declared.entry.Entry.TheVariants.{Called, Sent, Executed, Heard, Torn}
use Rattle.ec_wire.specs.declared.message.Body.TheVariants.{ToBrick}
use Rattle.ec_wire.specs.declared.message.Message.{Message}
use Rattle.ec_wire.specs.declared.op.Op.{Op}
use Rattle.ec_wire.specs.declared.op.Op.TheVariants.{Create, Mkdir}
use Rattle.ec_wire.specs.declared.reply.Reply.{Reply}
use Rattle.ec_wire.specs.declared.request.Request.{Request}
use Rattle.ec_wire.specs.declared.request.Request.TheVariants.{Make, Made}
use Rattle.ec_conduct.specs.Account.{Exchange}
use Rattle.ec_conduct.specs.Done.{is_make}
use Rattle.ec_conduct.specs.Given.{Given, quorum}
use Rattle.ec_conduct.specs.Data.{makes_child}
use Rattle.ec_conduct.specs.Opened.{account}
use Rattle.ec_history.specs.Accounts.{Books, Leaving, booked, sender}
use Rattle.ec_history.specs.IsRun.{May as MayEnter, MaySay}
use Rattle.ec_history.specs.Run.{Net, after as net_after, call_of}
use Rattle.ec_history.specs.Story.{Story}
use Rattle.ec_law_base.specs.State.{State}
use Rattle.ec_law_ballots.specs.Act.{Act, after, step}
use Rattle.ec_law_ballots.specs.Act.Act.{Make as Makes}
use Rattle.ec_law_ballots.specs.Guard.{Runs}
use Rattle.ec_law_net.specs.Turns.{Maker, View, acts, exclusive, has_directory, is_ask_of, made_by, seen_after}
use Rattle.ec_law_turns.specs.Births.{AllHeard, AreBirths, BirthKnown, Heard as HeardOf, InDirectory, HasBirths, WasAsked}
use Rattle.ec_law_turns.specs.Follows.{All, IsOfTurn}
use Rattle.ec_law_turns.specs.Once.{is_make_of}
use Rattle.ec_law_turns.specs.Reached.{Reached}
use Rattle.ec_law_turns.specs.Replied.{is_early}
use Rattle.ec_law_turns.specs.Shown.{IsOver, IsTold}
use Rattle.ec_law_turns.proofs.Allowed.{account_given}
use Rattle.ec_law_turns.proofs.Basics.{equal, itself, put_some, some_is, some_none}
use Rattle.ec_law_turns.proofs.Births.{allowed, birth_later, bricks, births_same, made, make_on, newly_born, one_turn, past}
use Rattle.ec_law_turns.proofs.Early.{after_back, after_early, after_moment, after_yet}
use Rattle.ec_law_turns.proofs.Filed.{filed_entry, in_books_map}
use Rattle.ec_law_turns.proofs.Having.{Goes, maker_entry, making_entry}
use Rattle.ec_law_turns.proofs.Lasting.{is_told_later}
use Rattle.ec_law_turns.proofs.Later.{Later, after_later}
use Rattle.ec_law_turns.proofs.Letting.{owner}
use Rattle.ec_law_turns.proofs.Runs.{given_stays}
use Rattle.ec_law_turns.proofs.Sends.{adds, said_after}
use Rattle.ec_law_turns.proofs.SentKnown.{BodyKept}
use Rattle.ec_law_turns.proofs.Steps.{EntryKept, executed_same, heard_same, made_same, torn_same}
use Rattle.ec_law_turns.proofs.Takes.{or_else_keeps}
use Rattle.ec_law_turns.proofs.Windows.{all_both, did_one, reply_of}

-- ## What an entry leaves as it was

step_making : (s : State) (e : Act) → s.making ≡ true → (step s e).making ≡ true
step_making s (Makes b) h = refl
step_making s e h = h

making_stays : (xs : List Act) (s : State) → s.making ≡ true → (after xs s).making ≡ true
making_stays [] s h = h
making_stays (e ∷ xs) s h = making_stays xs (step s e) (step_making s e h)

maker_stays : (g : ℕ) (m : Net) (v : View) (e : Entry) (x : Maker) → v.maker ≡ Some x → (seen_after g m v e).maker ≡ Some x
maker_stays g m v (Called a client op) x h = by op
  where
    by : (op : Op) → (made_by g v a op).maker ≡ Some x
    by (Create parent name) = or_else_keeps v.maker _ x h
    by (Mkdir parent name) = or_else_keeps v.maker _ x h
    by op = h
maker_stays g m v e x h = h

still_entry : (geometry : Geometry) (g : ℕ) (m : Net) (v : View) (b : Books) (e : Entry) → MayEnter geometry.n m e → Reached geometry g m v b → (i : ℕ) (x : Message) → m.said i ≡ Some x → ((net_after m e).said i ≡ Some x) × ((seen_after g m v e).of i ≡ v.of i)
still_entry geometry g m v b (Called a client op) may r i x is = (is, ap (λ (f : ℕ → ℕ). f i) (made_same g v a op).1)
still_entry geometry g m v b (Sent msg) may r i x is = (adds geometry.n g m v msg may.0 r.known.messages).still i x is
still_entry geometry g m v b (Executed j version failed) may r i x is = (ap (λ (f : ℕ → Option Message). f i) (executed_same m (m.said j) version failed).0 ∙ is, refl)
still_entry geometry g m v b (Heard j) may r i x is = (ap (λ (f : ℕ → Option Message). f i) (heard_same m (m.said j)).0 ∙ is, refl)
still_entry geometry g m v b (Torn j bytes version) may r i x is = (ap (λ (f : ℕ → Option Message). f i) (torn_same m (m.said j) bytes version).0 ∙ is, refl)
still_entry geometry g m v b e may r i x is = (is, refl)

pub make_of_on : (g : ℕ) (q : Request) → is_make_of g q ≡ true → (y : Gfid) × (n : ℕ) × (child : Child) × (q ≡ Make y n child) × (child.gfid.0 ≡ g)
make_of_on g (Make y n child) e = (y, n, child, refl, equal child.gfid.0 g e)
make_of_on g q e = absurd (cc)

asked_later : (said said' : ℕ → Option Message) (test : Request → Bool) → ((i : ℕ) (x : Message) → said i ≡ Some x → said' i ≡ Some x) → WasAsked said test → WasAsked said' test
asked_later said said' test still h = record { number = h.number; message = h.message; request = h.request; is = still h.number h.message h.is; body = h.body; passes = h.passes }

module _ (geometry : Geometry) (left : ℕ → Leaving) (none : (a : ℕ) → (left a).kept ≡ None) (m : Net) (vs : ℕ → View) (t : Story) (b : Books) (e : Entry) (may : MayEnter geometry.n m e) (kept : EntryKept m b e) (reached : (h : ℕ) → Reached geometry h m (vs h) b) (runs : (h : ℕ) → Runs geometry.n (quorum geometry) (acts h m (vs h) e) (vs h).core) (births : AreBirths m vs b) where
  abbrev m' : Net
  m' = net_after m e

  abbrev vs' : ℕ → View
  vs' h = seen_after h m (vs h) e

  abbrev b' : Books
  b' = booked geometry left m t b e

  still : (h i : ℕ) (x : Message) → m.said i ≡ Some x → (m'.said i ≡ Some x) × ((vs' h).of i ≡ (vs h).of i)
  still h i x is = still_entry geometry h m (vs h) b e may (reached h) i x is

  stays : (a : ℕ) (given : Given) → b.given a ≡ Some given → b'.given a ≡ Some given
  stays a given is = given_stays geometry left none m t b e may (reached 0).known.numbers a given is

  moments : (h s : ℕ) → (vs h).core.moment s ≡ true → (vs' h).core.moment s ≡ true
  moments h s is = after_moment (acts h m (vs h) e) (vs h).core s is

  -- ## Makes and Mades

  one : (d a s : ℕ) (given : Given) → b.given a ≡ Some given → makes_child given.op d ≡ true → (vs d).turn a ≡ Some s → (vs d).core.moment s ≡ true → (vs' d).turn a ≡ (vs d).turn a
  one d a s given is makes turn moment = by e may kept
    where
      by : (e : Entry) → MayEnter geometry.n m e → EntryKept m b e → (seen_after d m (vs d) e).turn a ≡ (vs d).turn a
      by (Called x client op) may kept = ap (λ (f : ℕ → Option ℕ). f a) (made_same d (vs d) x op).0
      by (Sent msg) may kept = one_turn geometry m vs b msg may.0 may.1 kept reached births d a s given is makes turn moment
      by e may kept = refl

  old_birth : (i : ℕ) (x : Message) (q : Request) → m.said i ≡ Some x → x.body ≡ ToBrick q → BirthKnown m'.said vs' b' x.call x.brick i q
  old_birth i x q is body = birth_later m m' vs vs' b b' still moments (λ h. after_yet (acts h m (vs h) e) (vs h).core) (λ h. after_early geometry.n (quorum geometry) (acts h m (vs h) e) (vs h).core (runs h)) stays one x.call x.brick i x q is (births i x q is body)

  in_books : (said : ℕ → Option Message) (ws : ℕ → View) (a c i : ℕ) (q : Request) → BirthKnown said ws b a c i q → BirthKnown said ws b' a c i q
  in_books said ws a c i (Make y n child) h = (h.0, record { given = h.1.given; is = stays a h.1.given h.1.is; child_is = h.1.child_is; makes = h.1.makes })
  in_books said ws a c i (Made y n child) h = (h.0, record { given = h.1.given; is = stays a h.1.given h.1.is; child_is = h.1.child_is; makes = h.1.makes })
  in_books said ws a c i q h = tt

  same_births : m'.said ≡ m.said → AreBirths m' vs' b'
  same_births said = births_same m m' vs vs' b b' still moments (λ h. after_yet (acts h m (vs h) e) (vs h).core) (λ h. after_early geometry.n (quorum geometry) (acts h m (vs h) e) (vs h).core (runs h)) stays one said births

  -- ## What calls have heard of the gfid

  module _ (g : ℕ) where
    later : Later (vs g).core (vs' g).core
    later = after_later geometry.n (quorum geometry) (acts g m (vs g) e) (vs g).core (runs g)

    heard_later : AllHeard g m.said (vs g).of (vs g).core b → AllHeard g m'.said (vs' g).of (vs' g).core b'
    heard_later all = in_books_map (HeardOf g m.said (vs g).of (vs g).core) (HeardOf g m'.said (vs' g).of (vs' g).core) (λ x h reply is. is_told_later g m.said m'.said (vs g).of (vs' g).of (vs g).core (vs' g).core (still g) later x.number reply (h reply is)) b'
        (filed_entry (HeardOf g m.said (vs g).of (vs g).core) geometry m b (reached g).known.numbers (λ j q reply is. absurd (some_none reply (sym is))) all left t e may (λ i x re reply is body q r same. subst (λ (y : Reply). IsTold g m.said (vs g).of (vs g).core re y) (some_is reply r same) ((reached g).shown.sent i x re reply is body)))

    -- ## Who has the directory

    module _ (first : ℕ) (had : HasBirths geometry.n first g m vs b) (births' : AreBirths m' vs' b') (reached' : (h : ℕ) → Reached geometry h m' (vs' h) b') (new : (x : Maker) → (vs' g).maker ≡ Some x → first ≤ g) where
      goes : (c : ℕ) → c < geometry.n → Goes (vs g).core.making (has_directory m.said (vs g).maker (m.brick c).asks) ((vs' g).core.maker c) ((vs g).core.maker c) (has_directory m'.said (vs' g).maker (m'.brick c).asks)
      goes c lt = maker_entry geometry g m (vs g) (reached g).linked (reached g).known.numbers.said_below (λ i x is. ((reached g).known.messages.number i x is).0) e may c lt

      -- a turn of the maker that has a brick is the maker's directory there
      has_it : (x : Maker) → (vs' g).maker ≡ Some x → (c s : ℕ) → c < geometry.n → (vs' x.dir).core.holder c ≡ Some s → (vs' x.dir).turn x.call ≡ Some s → has_directory m'.said (vs' g).maker (m'.brick c).asks ≡ true
      has_it x is c s lt holder turn = ap (λ (o : Option Maker). has_directory m'.said o (m'.brick c).asks) is ∙ by (exclusive x.dir Inode (m'.brick c).asks) refl
        where
          r : Reached geometry x.dir m' (vs' x.dir) b'
          r = reached' x.dir

          by : (o : Option ℕ) → exclusive x.dir Inode (m'.brick c).asks ≡ o → is_ask_of m'.said x.call o ≡ true
          by None e = absurd (some_none s (sym holder ∙ (r.linked.holders c lt ∙ ap (option_map (vs' x.dir).of) e)))
          by (Some i) e =
              let of = some_is s ((vs' x.dir).of i) (sym holder ∙ (r.linked.holders c lt ∙ ap (option_map (vs' x.dir).of) e)) in
              let o = owner m' c x.dir [] (m'.brick c).asks i (r.locks.asks c lt) e in
              let said = sym (ap m'.said o.2) ∙ o.1.said in
              let turns = r.known.messages.turns x.call s turn in
              let caller = r.known.messages.caller i o.1.message said (subst (λ (y : ℕ). 2 ^ 61 ≤ y) of turns.0) in
              let same = sym caller ∙ (ap (λ (y : ℕ). call_of (m'.said (y - 2 ^ 61))) (sym of) ∙ turns.2) in
              ap (λ (y : Option Message). call_of y == x.call) said ∙ (ap (λ (y : ℕ). y == x.call) same ∙ itself x.call)

      -- where a record was made the maker is known, and its turn on the directory is that of its Makes
      still_has : (x : Maker) → (vs' g).maker ≡ Some x → (c s : ℕ) → c < geometry.n → (vs' x.dir).core.holder c ≡ Some s → (vs' x.dir).turn x.call ≡ Some s → is_early (vs' x.dir).core s c ≡ true → WasAsked m.said (is_make_of g) → (vs g).core.maker c ≡ true
      still_has x is c s lt holder turn early asked =
          let q = make_of_on g asked.request asked.passes in
          let body = asked.body ∙ ap (λ (y : Request). ToBrick y) q.3 in
          let by = (reached g).by_maker asked.number asked.message (Make q.0 q.1 q.2) asked.is body q.4 in
          let same = some_is _ x (sym (maker_stays g m (vs g) e _ by.maker_is) ∙ is) in
          at_turn asked.number asked.message q.0 q.1 q.2 asked.is (births asked.number asked.message (Make q.0 q.1 q.2) asked.is body).0 by.maker_is
          (subst (λ (y : Maker). (vs' y.dir).core.holder c ≡ Some s) (sym same) holder) (subst (λ (y : Maker). (vs' y.dir).turn y.call ≡ Some s) (sym same) turn) (subst (λ (y : Maker). is_early (vs' y.dir).core s c ≡ true) (sym same) early)
          (births' asked.number asked.message (Make q.0 q.1 q.2) (still g asked.number asked.message asked.is).0 body).0
        where
          at_turn : (i : ℕ) (msg : Message) (y : Gfid) (n : ℕ) (child : Child) → m.said i ≡ Some msg → InDirectory y.0 m.said (vs y.0) msg.call msg.brick i n → (vs g).maker ≡ Some (record { call = msg.call; dir = y.0 }) → (vs' y.0).core.holder c ≡ Some s → (vs' y.0).turn msg.call ≡ Some s → is_early (vs' y.0).core s c ≡ true → InDirectory y.0 m'.said (vs' y.0) msg.call msg.brick i n → (vs g).core.maker c ≡ true
          at_turn i msg y n child said old maker holder turn early now =
              let is = some_is s ((vs y.0).of i) (sym turn ∙ (now.now ∙ ap (λ (z : ℕ). Some z) (still y.0 i msg said).1)) in
              let moment = subst (λ (z : ℕ). (vs y.0).core.moment z ≡ true) (sym is) old.moment in
              let back = after_back geometry.n (quorum geometry) (acts y.0 m (vs y.0) e) (vs y.0).core (runs y.0) s c moment (early, holder) in
              had.since (record { call = msg.call; dir = y.0 }) maker c s lt back.1 (old.now ∙ ap (λ (z : ℕ). Some z) (sym is)) back.0

      unmade : (u : Bool) → (vs g).core.making ≡ u → (vs' g).core.making ≡ false → u ≡ false
      unmade false z h = refl
      unmade true z h = absurd (let w = sym (making_stays (acts g m (vs g) e) (vs g).core z) ∙ h in cc)

      before_later : (c : ℕ) → c < geometry.n → (vs' g).core.making ≡ false → has_directory m'.said (vs' g).maker (m'.brick c).asks ≡ true → (vs' g).core.maker c ≡ true
      before_later c lt h has = let z = unmade (vs g).core.making refl h in (goes c lt).comes z (had.before c lt z) has

      since_later : (x : Maker) → (vs' g).maker ≡ Some x → (c s : ℕ) → c < geometry.n → (vs' x.dir).core.holder c ≡ Some s → (vs' x.dir).turn x.call ≡ Some s → is_early (vs' x.dir).core s c ≡ true → (vs' g).core.maker c ≡ true
      since_later x is c s lt holder turn early = by (vs g).core.making refl
        where
          by : (u : Bool) → (vs g).core.making ≡ u → (vs' g).core.maker c ≡ true
          by false z = (goes c lt).comes z (had.before c lt z) (has_it x is c s lt holder turn)
          by true z = (goes c lt).keeps (still_has x is c s lt holder turn early (had.made (new x is) z)) (has_it x is c s lt holder turn)

      made_later : first ≤ g → (vs' g).core.making ≡ true → WasAsked m'.said (is_make_of g)
      made_later le h = asked_later m.said m'.said (is_make_of g) (λ i x is. (still g i x is).0) (⊎_elim (λ z. had.made le z) (λ z. z) (making_entry geometry g m (vs g) (reached g).linked (reached g).known.numbers.said_below (λ i x is. ((reached g).known.messages.number i x is).0) e may h))

      old_made : (c : ℕ) → (vs g).core.born c ≡ true → (vs' g).core.born c ≡ true
      old_made c h = later.born c h

      -- what a Made stands on, but for those that are sent now
      has_births_later : ((i : ℕ) (x : Message) (y : Gfid) (k : ℕ) (child : Gfid) → m'.said i ≡ Some x → x.body ≡ ToBrick (Made y k child) → child.0 ≡ g → (vs g).core.born x.brick ≡ true) → HasBirths geometry.n first g m' vs' b'
      has_births_later mades = record { heard = heard_later had.heard; mades = λ i x y k child is body on. old_made x.brick (mades i x y k child is body on); made = made_later; before = before_later; since = since_later }

-- ## A Made is sent

module _ (geometry : Geometry) (m : Net) (vs : ℕ → View) (b : Books) (msg : Message) (next_no : msg.no ≡ m.next) (may : MaySay geometry.n m msg msg.body) (kept : BodyKept m b msg msg.body) (reached : (h : ℕ) → Reached geometry h m (vs h) b) (births : AreBirths m vs b) (g : ℕ) (heard : AllHeard g m.said (vs g).of (vs g).core b) where
  abbrev given_of : (q : Request) → msg.body ≡ ToBrick q → sender m b msg q ≡ Some msg.call → (given : Given) × (b.given msg.call ≡ Some given)
  given_of = made geometry m vs b msg next_no may kept reached births

  abbrev Past : ℕ → Exchange → Type 0
  Past d e = (IsOfTurn m.said (vs d).turn (vs d).of msg.call msg.brick e.number e.request × IsOver d m.said (vs d).of (vs d).core e) × HeardOf g m.said (vs g).of (vs g).core e

  all_past : (d : ℕ) (given : Given) → b.given msg.call ≡ Some given → All (Past d) (((account given (b.own msg.call)).on d).place msg.brick).window
  all_past d given is = all_both (λ e. IsOfTurn m.said (vs d).turn (vs d).of msg.call msg.brick e.number e.request × IsOver d m.said (vs d).of (vs d).core e) (HeardOf g m.said (vs g).of (vs g).core) (((account given (b.own msg.call)).on d).place msg.brick).window (past geometry d m (vs d) b (reached d) msg.call msg.brick given is) (heard msg.call given is d msg.brick)

  new_made : (y : Gfid) (k : ℕ) (child : Gfid) → msg.body ≡ ToBrick (Made y k child) → child.0 ≡ g → (vs g).core.born msg.brick ≡ true
  new_made y k child body on =
      let mine = given_of (Made y k child) body refl in
      let a = allowed geometry m vs b msg next_no may kept reached births (Made y k child) body refl mine.0 mine.1 refl in
      let o = did_one (Past y.0) is_make (((account mine.0 (b.own msg.call)).on y.0).place msg.brick).window (all_past y.0 mine.0 mine.1) (a.0.1.all msg.brick (bricks geometry m vs b msg next_no may kept reached births (Made y k child) body refl)).0 in
      let s = o.all.0.0.0 in
      let r = make_on o.e.request o.so.0 in
      let reply = reply_of o.e.reply o.so.1 in
      let told = o.all.1 reply.0 reply.1 in
      let same = some_is told.message s.message (sym told.is ∙ s.is) in
      let their = s.body ∙ ap (λ (z : Request). ToBrick z) r.3 in
      let born = (births o.e.number s.message (Make r.0 r.1 r.2) s.is their).1 in
      let given = some_is born.given mine.0 (sym born.is ∙ (ap b.given s.call ∙ mine.1)) in
      let this = a.0.1.child_is ∙ ap (λ (z : Given). z.child) (account_given mine.0 (b.own msg.call)) in
      let of_g = born.child_is ∙ (ap (λ (z : Given). z.child) given ∙ (sym this ∙ on)) in
      subst (λ (z : ℕ). (vs g).core.born z ≡ true) (ap (λ (z : Message). z.brick) same ∙ s.brick) (told.at (Make r.0 r.1 r.2) (ap (λ (z : Message). z.body) same ∙ their) of_g reply.2)

-- ## Every entry

pub births_entry : (geometry : Geometry) (left : ℕ → Leaving) (none : (a : ℕ) → (left a).kept ≡ None) (m : Net) (vs : ℕ → View) (t : Story) (b : Books) (e : Entry) → MayEnter geometry.n m e → EntryKept m b e → ((h : ℕ) → Reached geometry h m (vs h) b) → ((h : ℕ) → Runs geometry.n (quorum geometry) (acts h m (vs h) e) (vs h).core) → AreBirths m vs b → AreBirths (net_after m e) (λ h. seen_after h m (vs h) e) (booked geometry left m t b e)
births_entry geometry left none m vs t b (Sent msg) may kept reached runs births i x q is body = ⊎_elim (λ z. new z.0 (some_is msg x z.1)) (λ z. old_birth geometry left none m vs t b (Sent msg) may kept reached runs births i x q z.1 body) (put_some m.said msg.no (Some msg) i x is)
  where
    new : i ≡ msg.no → msg ≡ x → BirthKnown (said_after m msg) (λ h. seen_after h m (vs h) (Sent msg)) (booked geometry left m t b (Sent msg)) x.call x.brick i q
    new number same = subst (λ (y : Message). BirthKnown (said_after m msg) (λ h. seen_after h m (vs h) (Sent msg)) (booked geometry left m t b (Sent msg)) y.call y.brick i q) same (subst (λ (j : ℕ). BirthKnown (said_after m msg) (λ h. seen_after h m (vs h) (Sent msg)) (booked geometry left m t b (Sent msg)) msg.call msg.brick j q) (sym number) (in_books geometry left none m vs t b (Sent msg) may kept reached runs births (said_after m msg) (λ h. seen_after h m (vs h) (Sent msg)) msg.call msg.brick msg.no q (newly_born geometry m vs b msg may.0 may.1 kept reached births runs q (ap (λ (y : Message). y.body) same ∙ body))))
births_entry geometry left none m vs t b (Executed j version failed) may kept reached runs births i x q is body = same_births geometry left none m vs t b (Executed j version failed) may kept reached runs births (executed_same m (m.said j) version failed).0 i x q is body
births_entry geometry left none m vs t b (Heard j) may kept reached runs births i x q is body = same_births geometry left none m vs t b (Heard j) may kept reached runs births (heard_same m (m.said j)).0 i x q is body
births_entry geometry left none m vs t b (Torn j bytes version) may kept reached runs births i x q is body = same_births geometry left none m vs t b (Torn j bytes version) may kept reached runs births (torn_same m (m.said j) bytes version).0 i x q is body
births_entry geometry left none m vs t b e may kept reached runs births i x q is body = same_births geometry left none m vs t b e may kept reached runs births refl i x q is body

pub has_births_entry : (geometry : Geometry) (left : ℕ → Leaving) (none : (a : ℕ) → (left a).kept ≡ None) (m : Net) (vs : ℕ → View) (t : Story) (b : Books) (e : Entry) → (may : MayEnter geometry.n m e) → EntryKept m b e → ((h : ℕ) → Reached geometry h m (vs h) b) → ((h : ℕ) → Runs geometry.n (quorum geometry) (acts h m (vs h) e) (vs h).core) → AreBirths m vs b → (g first : ℕ) → HasBirths geometry.n first g m vs b → AreBirths (net_after m e) (λ h. seen_after h m (vs h) e) (booked geometry left m t b e) → ((h : ℕ) → Reached geometry h (net_after m e) (seen_after h m (vs h) e) (booked geometry left m t b e)) → ((x : Maker) → (seen_after g m (vs g) e).maker ≡ Some x → first ≤ g) → HasBirths geometry.n first g (net_after m e) (λ h. seen_after h m (vs h) e) (booked geometry left m t b e)
has_births_entry geometry left none m vs t b (Sent msg) may kept reached runs births g first had births' reached' new = has_births_later geometry left none m vs t b (Sent msg) may kept reached runs births g first had births' reached' new (λ i x y k child is body on. ⊎_elim (λ z. sent_now x y k child body on (some_is msg x z.1)) (λ z. had.mades i x y k child z.1 body on) (put_some m.said msg.no (Some msg) i x is))
  where
    sent_now : (x : Message) (y : Gfid) (k : ℕ) (child : Gfid) → x.body ≡ ToBrick (Made y k child) → child.0 ≡ g → msg ≡ x → (vs g).core.born x.brick ≡ true
    sent_now x y k child body on same = subst (λ (z : Message). (vs g).core.born z.brick ≡ true) same (new_made geometry m vs b msg may.0 may.1 kept reached births g had.heard y k child (ap (λ (z : Message). z.body) same ∙ body) on)
has_births_entry geometry left none m vs t b (Executed j version failed) may kept reached runs births g first had births' reached' new = has_births_later geometry left none m vs t b (Executed j version failed) may kept reached runs births g first had births' reached' new (λ i x y k child is body on. had.mades i x y k child (sym (ap (λ (f : ℕ → Option Message). f i) (executed_same m (m.said j) version failed).0) ∙ is) body on)
has_births_entry geometry left none m vs t b (Heard j) may kept reached runs births g first had births' reached' new = has_births_later geometry left none m vs t b (Heard j) may kept reached runs births g first had births' reached' new (λ i x y k child is body on. had.mades i x y k child (sym (ap (λ (f : ℕ → Option Message). f i) (heard_same m (m.said j)).0) ∙ is) body on)
has_births_entry geometry left none m vs t b (Torn j bytes version) may kept reached runs births g first had births' reached' new = has_births_later geometry left none m vs t b (Torn j bytes version) may kept reached runs births g first had births' reached' new (λ i x y k child is body on. had.mades i x y k child (sym (ap (λ (f : ℕ → Option Message). f i) (torn_same m (m.said j) bytes version).0) ∙ is) body on)
has_births_entry geometry left none m vs t b e may kept reached runs births g first had births' reached' new = has_births_later geometry left none m vs t b e may kept reached runs births g first had births' reached' new had.mades
