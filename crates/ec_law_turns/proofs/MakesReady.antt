-- A Make or Made that is on its way finds what it needs, if it is done at all.
use Rattle.std.proofs.Common.{◌≡◌, ℕ, ◌^◌, ◌<◌, ◌≤◌, Bool, true, false, Some, [], refl, sym, ◌∙◌, ap, subst}
use Rattle.std.specs.Option.{option_map}
use Rattle.ec_attr.specs.declared.geometry.Geometry.{Geometry}
use Rattle.ec_attr.specs.declared.gfid.Gfid.{Gfid}
use Rattle.ec_attr.specs.declared.kind.Child.{Child}
use Rattle.ec_attr.specs.declared.kind.Domain.{Domain}
use Rattle.ec_attr.specs.declared.kind.Domain.TheVariants.{Inode}
use Rattle.ec_attr.specs.declared.kind.LockKind.{LockKind}
use Rattle.ec_attr.specs.declared.kind.LockKind.TheVariants.{Exclusive}
use Rattle.ec_locks.specs.declared.ask.Ask.{Ask as Asking}
use Rattle.ec_wire.specs.declared.message.Body.TheVariants.{ToBrick}
use Rattle.ec_wire.specs.declared.message.Message.{Message}
use Rattle.ec_wire.specs.declared.request.Request.{Request}
use Rattle.ec_wire.specs.declared.request.Request.TheVariants.{Ask, Make, Made}
use Rattle.ec_conduct.specs.Account.{gfid_of}
use Rattle.ec_conduct.specs.Done.{is_made, is_make}
use Rattle.ec_history.specs.Accounts.{Books}
use Rattle.ec_history.specs.Run.{Net}
use Rattle.ec_law_net.specs.Link.{IsMade, IsMake}
use Rattle.ec_law_net.specs.Turns.{Maker, View, exclusive}
use Rattle.ec_law_turns.specs.Births.{AreBirths, InDirectory, HasBirths}
use Rattle.ec_law_turns.specs.Once.{OnceOf, is_made_of}
use Rattle.ec_law_turns.specs.Reached.{Reached}
use Rattle.ec_law_turns.specs.Replied.{is_early}
use Rattle.ec_law_turns.proofs.Basics.{equal, some_is}
use Rattle.ec_law_turns.proofs.BirthRuns.{make_of_on}
use Rattle.ec_law_turns.proofs.Letting.{IsOwnAsk, owner}

-- what the machine asks of a Make or Made of the gfid that a brick does under the grant that it names
abbrev pub MakeReady : ℕ → Net → View → ℕ → Request → Type 0
MakeReady g m v b (Make x n child) = child.gfid.0 ≡ g → exclusive x.0 Inode (m.brick b).asks ≡ Some n → IsMake v b
MakeReady g m v b (Made x n child) = child.0 ≡ g → exclusive x.0 Inode (m.brick b).asks ≡ Some n → IsMade v b
MakeReady g m v b q = Unit {0}

-- whatever is on its way
abbrev pub MakesReady : ℕ → Net → View → Type 0
MakesReady g m v = (i : ℕ) (x : Message) (q : Request) → m.said i ≡ Some x → x.body ≡ ToBrick q → m.flying i ≡ true → MakeReady g m v x.brick q

made_of_on : (g : ℕ) (q : Request) → is_made_of g q ≡ true → (y : Gfid) × (n : ℕ) × (child : Gfid) × (q ≡ Made y n child) × (child.0 ≡ g)
made_of_on g (Made y n child) e = (y, n, child, refl, equal child.0 g e)
made_of_on g q e = absurd (cc)

own_body : (g : ℕ) (a : Asking) → IsOwnAsk g a → ToBrick (Ask a.gfid a.domain a.kind) ≡ ToBrick (Ask a.gfid Inode Exclusive)
own_body g a h = ap (λ (d : Domain). ToBrick (Ask a.gfid d a.kind)) h.domain ∙ ap (λ (y : LockKind). ToBrick (Ask a.gfid Inode y)) h.kind

module _ (geometry : Geometry) (m : Net) (vs : ℕ → View) (b : Books) (reached : (h : ℕ) → Reached geometry h m (vs h) b) (births : AreBirths m vs b) (g first : ℕ) (had : HasBirths geometry.n first g m vs b) (new : (x : Maker) → (vs g).maker ≡ Some x → (vs g).core.origin ≡ 0) where
  -- the maker counts at the brick
  counts : (a c i n d : ℕ) → c < geometry.n → InDirectory d m.said (vs d) a c i n → (vs g).maker ≡ Some (record { call = a; dir = d }) → exclusive d Inode (m.brick c).asks ≡ Some n → (vs g).core.maker c ≡ true
  counts a c i n d lt h maker e =
      let r = reached d in
      let o = owner m c d [] (m.brick c).asks n (r.locks.asks c lt) e in
      let told = h.early in
      let same = some_is told.message o.1.message (sym told.is ∙ (ap m.said (sym o.2) ∙ o.1.said)) in
      let asks = ap (λ (y : Message). y.body) same ∙ (o.1.body ∙ own_body d o.0 o.3) in
      let early = subst (λ (y : ℕ). is_early (vs d).core ((vs d).of n) y ≡ true) (ap (λ (y : Message). y.brick) same ∙ o.1.brick) (told.at o.0.gfid asks o.3.on) in
      had.since (record { call = a; dir = d }) maker c ((vs d).of n) lt (r.linked.holders c lt ∙ ap (option_map (vs d).of) e) (h.now ∙ ap (λ (y : ℕ). Some y) (sym h.turn)) early

  -- two of them are of one turn on one directory
  together : (a c i n d : ℕ) (a' c' j k d' : ℕ) → InDirectory d m.said (vs d) a c i n → (vs g).maker ≡ Some (record { call = a; dir = d }) → InDirectory d' m.said (vs d') a' c' j k → (vs g).maker ≡ Some (record { call = a'; dir = d' }) → (d' ≡ d) × ((vs d).of j ≡ (vs d).of i)
  together a c i n d a' c' j k d' h maker h' maker' =
      let same = some_is (record { call = a'; dir = d' }) (record { call = a; dir = d }) (sym maker' ∙ maker) in
      let dir = ap (λ (y : Maker). y.dir) same in
      let call = ap (λ (y : Maker). y.call) same in
      let now = subst (λ (y : ℕ). (vs y).turn a' ≡ Some ((vs y).of j)) dir h'.now in
      (dir, some_is ((vs d).of j) ((vs d).of i) (sym now ∙ (ap (vs d).turn call ∙ h.now)))

  module _ (msg : Message) (i : ℕ) (said : m.said i ≡ Some msg) (flies : m.flying i ≡ true) where
    lt : (q : Request) → msg.body ≡ ToBrick q → msg.brick < geometry.n
    lt q body = (reached g).linked.to i msg q said body

    -- no other one has gone there
    clash : (test : Request → Bool) (q q' : Request) (d j : ℕ) (x : Message) → OnceOf d m.said (vs d).of test → msg.body ≡ ToBrick q → gfid_of q ≡ Some d → test q ≡ true → m.said j ≡ Some x → x.brick ≡ msg.brick → x.body ≡ ToBrick q' → gfid_of q' ≡ Some d → test q' ≡ true → (vs d).of j ≡ (vs d).of i → 2 ^ 61 ≤ (vs d).of i → m.flying j ≡ false → ⊥
    clash test q q' d j x once body on passes said' brick body' on' passes' turn le landed =
        let same = once i j msg.brick ((vs d).of i) le (record { message = msg; request = q; is = said; brick = refl; body = body; on = on; passes = passes; turn = refl }) (record { message = x; request = q'; is = said'; brick = brick; body = body'; on = on'; passes = passes'; turn = turn }) in
        let z = sym flies ∙ (ap m.flying same ∙ landed) in cc

    make_ready : (y : Gfid) (n : ℕ) (child : Child) → msg.body ≡ ToBrick (Make y n child) → child.gfid.0 ≡ g → exclusive y.0 Inode (m.brick msg.brick).asks ≡ Some n → IsMake (vs g) msg.brick
    make_ready y n child body on e =
        let by = (reached g).by_maker i msg (Make y n child) said body on in
        let birth = (births i msg (Make y n child) said body).0 in
        record {
          maker = counts msg.call msg.brick i n y.0 (lt (Make y n child) body) birth by.maker_is e;
          once = unborn birth by.maker_is ((vs g).core.born msg.brick) refl;
          fresh = new (record { call = msg.call; dir = y.0 }) by.maker_is;
        }
      where
        unborn : InDirectory y.0 m.said (vs y.0) msg.call msg.brick i n → (vs g).maker ≡ Some (record { call = msg.call; dir = y.0 }) → (u : Bool) → (vs g).core.born msg.brick ≡ u → u ≡ false
        unborn birth maker false z = refl
        unborn birth maker true z =
            let o = (reached g).once.born msg.brick z in
            let q = make_of_on g o.request o.passes in
            let body' = o.body ∙ ap (λ (r : Request). ToBrick r) q.3 in
            let by' = (reached g).by_maker o.number o.message (Make q.0 q.1 q.2) o.is body' q.4 in
            let birth' = (births o.number o.message (Make q.0 q.1 q.2) o.is body').0 in
            let t = together msg.call msg.brick i n y.0 o.message.call o.message.brick o.number q.1 q.0.0 birth maker birth' by'.maker_is in
            absurd (clash is_make (Make y n child) (Make q.0 q.1 q.2) y.0 o.number o.message (reached y.0).once.makes body refl refl o.is o.brick body' (ap (λ (r : ℕ). Some r) t.0) refl t.1 ((reached y.0).known.messages.turns msg.call ((vs y.0).of i) birth.now).0 o.landed)

    made_ready : (y : Gfid) (n : ℕ) (child : Gfid) → msg.body ≡ ToBrick (Made y n child) → child.0 ≡ g → exclusive y.0 Inode (m.brick msg.brick).asks ≡ Some n → IsMade (vs g) msg.brick
    made_ready y n child body on e =
        let by = (reached g).by_maker i msg (Made y n child) said body on in
        let birth = (births i msg (Made y n child) said body).0 in
        record {
          maker = counts msg.call msg.brick i n y.0 (lt (Made y n child) body) birth by.maker_is e;
          born = had.mades i msg y n child said body on;
          once = ungrown birth by.maker_is ((vs g).core.grown msg.brick) refl;
        }
      where
        ungrown : InDirectory y.0 m.said (vs y.0) msg.call msg.brick i n → (vs g).maker ≡ Some (record { call = msg.call; dir = y.0 }) → (u : Bool) → (vs g).core.grown msg.brick ≡ u → u ≡ false
        ungrown birth maker false z = refl
        ungrown birth maker true z =
            let o = (reached g).once.grown msg.brick z in
            let q = made_of_on g o.request o.passes in
            let body' = o.body ∙ ap (λ (r : Request). ToBrick r) q.3 in
            let by' = (reached g).by_maker o.number o.message (Made q.0 q.1 q.2) o.is body' q.4 in
            let birth' = (births o.number o.message (Made q.0 q.1 q.2) o.is body').0 in
            let t = together msg.call msg.brick i n y.0 o.message.call o.message.brick o.number q.1 q.0.0 birth maker birth' by'.maker_is in
            absurd (clash is_made (Made y n child) (Made q.0 q.1 q.2) y.0 o.number o.message (reached y.0).once.mades body refl refl o.is o.brick body' (ap (λ (r : ℕ). Some r) t.0) refl t.1 ((reached y.0).known.messages.turns msg.call ((vs y.0).of i) birth.now).0 o.landed)

  pub makes_ready : MakesReady g m (vs g)
  makes_ready i x (Make y n child) said body flies = make_ready x i said flies y n child body
  makes_ready i x (Made y n child) said body flies = made_ready x i said flies y n child body
  makes_ready i x q said body flies = tt
