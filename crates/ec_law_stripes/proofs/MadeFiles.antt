-- A gfid whose flat file is a file was made as one, by whatever Make of it the log has sent.
use Rattle.std.proofs.Common.{◌≡◌, ℕ, ◌+◌, ◌<◌, ◌≤◌, arith, Option, Some, None, List, [], ◌∷◌, refl, sym, ◌∙◌, ap, subst, inl, ⊎_elim}
use Rattle.std.specs.Option.{option_map}
use Rattle.ec_attr.specs.declared.config.Config.{Config}
use Rattle.ec_attr.specs.declared.geometry.Geometry.{Geometry}
use Rattle.ec_attr.specs.declared.gfid.Gfid.{Gfid}
use Rattle.ec_attr.specs.declared.head.Head.{Head}
use Rattle.ec_attr.specs.declared.kind.Child.{Child}
use Rattle.ec_attr.specs.declared.kind.Kind.{Kind}
use Rattle.ec_attr.specs.declared.kind.Kind.TheVariants.{File}
use Rattle.ec_brick.specs.State.{State as Brick}
use Rattle.ec_conduct.specs.Given.{quorum}
use Rattle.ec_history.specs.Accounts.{Books, Leaving, booked, books, no_books}
use Rattle.ec_history.specs.Flat.{Flat, Tree}
use Rattle.ec_history.specs.IsRun.{IsRun}
use Rattle.ec_history.specs.Run.{Net, after as net_after, fresh, run}
use Rattle.ec_history.specs.Starts.{IsStart}
use Rattle.ec_history.specs.Story.{Story, opening, story, told}
use Rattle.ec_store.specs.Records.{Record, Records, head_at}
use Rattle.ec_wire.specs.declared.entry.Entry.{Entry}
use Rattle.ec_wire.specs.declared.entry.Entry.TheVariants.{Sent}
use Rattle.ec_wire.specs.declared.message.Body.{Body}
use Rattle.ec_wire.specs.declared.message.Body.TheVariants.{ToBrick, ToClient}
use Rattle.ec_wire.specs.declared.message.Message.{Message}
use Rattle.ec_wire.specs.declared.request.Request.{Request}
use Rattle.ec_wire.specs.declared.request.Request.TheVariants.{Make}
use Rattle.ec_law_net.specs.Turns.{Maker, View, seen_after, view}
use Rattle.ec_law_turns.specs.Laws.{Always}
use Rattle.ec_law_turns.specs.Orderly.{ArePlain, IsOrderly}
use Rattle.ec_law_turns.proofs.Basics.{put_here, some_is, some_none}
use Rattle.ec_law_turns.proofs.Origins.{unrecorded, unversioned}
use Rattle.ec_law_turns.proofs.Runs.{Kept, kept_there, plain_first}
use Rattle.ec_law_data.specs.Laws.{begun}
use Rattle.ec_law_data.proofs.OrderlyDeeds.{all_reach}
use Rattle.ec_law_data.proofs.Reaching.{Reaches, reaches_start, reaches_then}
use Rattle.ec_law_heads.specs.Laws.{AlwaysOneKind, MakesOneKind}
use Rattle.ec_law_heads.proofs.Bounds.{Heads}
use Rattle.ec_law_heads.proofs.Making.{HasKinds, kinds_entry}
use Rattle.ec_law_heads.proofs.Walking.{by_log}
use Rattle.ec_law_plans.specs.Given.{BodyIs, EachRequest, EntryIs}
use Rattle.ec_law_stripes.specs.Given.{MakesFile}
use Rattle.ec_law_stripes.proofs.Later.{still_log}

-- ## What was said of it

-- each Make of the gfid that was sent makes a file
abbrev MakesOfFile : ℕ → (ℕ → Option Message) → Type 0
MakesOfFile g said = (i : ℕ) (x : Message) (d : Gfid) (n : ℕ) (child : Child) → said i ≡ Some x → x.body ≡ ToBrick (Make d n child) → child.gfid.0 ≡ g → child.kind ≡ File

-- as all Makes of a gfid are of the one kind of its flat file
module _ (geometry : Geometry) (first : ℕ) (origins : ℕ → ℕ) (g : ℕ) (origin : Option Kind) (new : first ≤ g → origin ≡ None) (m : Net) (vs : ℕ → View) (t : Story) (b : Books) (r : Reaches geometry first origins m vs t b) (one : MakesOneKind g m (vs g)) (k : HasKinds geometry.n g origin m t) (file : (t.tree g).kind ≡ Some File) where
  make_file : MakesOfFile g m.said
  make_file i x d n child is body on = ⊎_elim
      (λ was. absurd (some_none File (sym was ∙ new taken)))
      (λ was. one i was.number x was.message d was.dir n was.grant child was.child is was.is body was.body on was.on (same_call was.number was.message was.dir was.grant was.child was.is was.body was.on) ∙ was.kind_is)
      (k.from File file)
    where
      taken : first ≤ g
      taken = let by = (r.reached g).by_maker i x (Make d n child) is body on in ⊎_elim (λ none. absurd (some_none _ (sym by.maker_is ∙ none))) (λ le. le) (r.fresh g).taken

      same_call : (j : ℕ) (y : Message) (e : Gfid) (l : ℕ) (other : Child) → m.said j ≡ Some y → y.body ≡ ToBrick (Make e l other) → other.gfid.0 ≡ g → x.call ≡ y.call
      same_call j y e l other its its_body its_on =
          let a = (r.reached g).by_maker i x (Make d n child) is body on in
          let c = (r.reached g).by_maker j y (Make e l other) its its_body its_on in
          ap (λ (z : Maker). z.call) (some_is (record { call = x.call; dir = d.0 }) (record { call = y.call; dir = e.0 }) (sym a.maker_is ∙ c.maker_is))

-- ## So is each request of the log

module _ (geometry : Geometry) (left : ℕ → Leaving) (none : (a : ℕ) → (left a).kept ≡ None) (first : ℕ) (origins : ℕ → ℕ) (new : (h : ℕ) → first ≤ h → origins h ≡ 0) (g : ℕ) where
  made_there : (q : Request) (i : ℕ) (x : Message) (said : ℕ → Option Message) → MakesOfFile g said → said i ≡ Some x → x.body ≡ ToBrick q → MakesFile g q
  made_there (Make d n child) i x said all is body = λ on. all i x d n child is body on
  made_there q i x said all is body = tt

  each_file : (es : List Entry) (m : Net) (vs : ℕ → View) (t : Story) (b : Books) → IsRun geometry.n es m → ArePlain es → Kept geometry left none (books geometry left es m t b) → Reaches geometry first origins m vs t b → MakesOfFile g (run es m).said → EachRequest (MakesFile g) es
  each_file [] m vs t b runs plain kept k all = tt
  each_file (e ∷ es) m vs t b runs plain kept k all = (by e refl, each_file es (net_after m e) (λ h. seen_after h m (vs h) e) (told geometry m t e) (booked geometry left m t b e) runs.1 (plain_first e es plain).1 kept then all)
    where
      then : Reaches geometry first origins (net_after m e) (λ h. seen_after h m (vs h) e) (told geometry m t e) (booked geometry left m t b e)
      then = reaches_then geometry left none first origins new m vs t b e (plain_first e es plain).0 runs.0 (kept_there geometry left none e es m t b runs plain (k.reached 0).known.numbers kept) k

      by : (x : Entry) → e ≡ x → EntryIs (MakesFile g) x
      by (Sent msg) is = body msg.body refl
        where
          said : (run (e ∷ es) m).said msg.no ≡ Some msg
          said = (still_log geometry left none first origins new g es (net_after m e) (λ h. seen_after h m (vs h) e) (told geometry m t e) (booked geometry left m t b e) runs.1 (plain_first e es plain).1 kept then msg.no msg (ap (λ (y : Entry). (net_after m y).said msg.no) is ∙ put_here m.said msg.no (Some msg) msg.no refl)).0

          body : (z : Body) → msg.body ≡ z → BodyIs (MakesFile g) z
          body (ToBrick q) own = made_there q msg.no msg (run (e ∷ es) m).said all said own
          body (ToClient re reply) own = tt
      by x is = tt

-- ## After every log

record_of : (m : Records) (g : ℕ) (h : Head) → head_at m g ≡ Some h → (r : Record) × (m g ≡ Some r) × (r.head ≡ h)
record_of m g h e = at (m g) refl e
  where
    at : (o : Option Record) → m g ≡ o → option_map (λ r. r.head) o ≡ Some h → (r : Record) × (m g ≡ Some r) × (r.head ≡ h)
    at None is z = absurd (cc)
    at (Some r) is z = (r, is, some_is r.head h z)

module _ (config : Config) (records : ℕ → Records) (bricks : ℕ → Brick) (tree : Tree) (next g : ℕ) (es : List Entry) (start : IsStart config records bricks tree next) (runs : IsRun config.geometry.n es (fresh bricks)) (plain : ArePlain es) (orderly : IsOrderly config.geometry es (fresh bricks) (opening tree next)) (one : AlwaysOneKind config records bricks tree next g es) where
  first_heads : Heads config.geometry.n g (fresh bricks) (λ h. Some h.kind ≡ (tree g).kind)
  first_heads b h lt is =
      let r = record_of (bricks b).records g h is in
      subst (λ (z : Head). Some z.kind ≡ (tree g).kind) r.2 ((start.stand g).kinds b r.0 lt (sym (ap (λ (m : Records). m g) (start.opened b lt).kept) ∙ r.1))

  new_kind : next ≤ g → (tree g).kind ≡ None
  new_kind le = ap (λ (y : Flat). y.kind) (start.elsewhere g (unrecorded config records bricks tree next g start le))

  kinds : HasKinds config.geometry.n g (tree g).kind (run es (fresh bricks)) (story config.geometry es (fresh bricks) (opening tree next))
  kinds = by_log (MakesOneKind g) (λ m vs t. HasKinds config.geometry.n g (tree g).kind m t) config records bricks tree next g es start runs plain orderly
      (λ m vs t books e may k premise h. kinds_entry config.geometry next (λ x. (tree x).version) g (tree g).kind new_kind m vs t books k premise h e may)
      one
      (record { heads = first_heads; from = λ kind is. inl is })

  most : config.geometry.n < quorum config.geometry + quorum config.geometry
  most = let h = config.geometry.majority in omega (arith, h)

  origins : (h : ℕ) → next ≤ h → (tree h).version ≡ 0
  origins h le = unversioned config records bricks tree next h start le

  kept : Kept config.geometry orderly.left orderly.none_kept (books config.geometry orderly.left es (fresh bricks) (opening tree next) no_books)
  kept a given h = (orderly.conduct a given h, orderly.order a given h)

  begins : Reaches config.geometry next (λ h. (tree h).version) (fresh bricks) (λ h. begun config records tree next h) (opening tree next) no_books
  begins = reaches_start config records bricks tree next (λ a. a) most start

  last_moment : (xs : List Entry) (m : Net) (v : View) → Always (MakesOneKind g) g xs m v → MakesOneKind g (run xs m) (view g xs m v)
  last_moment [] m v h = h
  last_moment (x ∷ xs) m v h = last_moment xs (net_after m x) (seen_after g m v x) h.1

  pub made_file : ((story config.geometry es (fresh bricks) (opening tree next)).tree g).kind ≡ Some File → EachRequest (MakesFile g) es
  made_file file = each_file config.geometry orderly.left orderly.none_kept next (λ h. (tree h).version) origins g es (fresh bricks) (λ h. begun config records tree next h) (opening tree next) no_books runs plain kept begins
      (make_file config.geometry next (λ h. (tree h).version) g (tree g).kind new_kind (run es (fresh bricks)) (λ h. view h es (fresh bricks) (begun config records tree next h)) (story config.geometry es (fresh bricks) (opening tree next)) (books config.geometry orderly.left es (fresh bricks) (opening tree next) no_books)
      (all_reach config.geometry orderly.left orderly.none_kept next (λ h. (tree h).version) origins es (fresh bricks) (λ h. begun config records tree next h) (opening tree next) no_books runs plain kept begins)
      (last_moment es (fresh bricks) (begun config records tree next g) one) kinds file)
