-- Each record has the kind of the flat file, where the Makes of a call are of one kind.
use Rattle.std.proofs.Common.{◌≡◌, ◌⊎◌, ℕ, ◌+◌, ◌≤◌, Bool, true, false, cond, ◌==◌, Option, Some, None, refl, sym, ◌∙◌, ap, subst, inl, inr, ⊎_elim}
use Rattle.ec_attr.specs.declared.config.Config.{Config}
use Rattle.ec_attr.specs.declared.geometry.Geometry.{Geometry}
use Rattle.ec_attr.specs.declared.gfid.Gfid.{Gfid}
use Rattle.ec_attr.specs.declared.head.Head.{Head}
use Rattle.ec_attr.specs.declared.kind.Child.{Child}
use Rattle.ec_attr.specs.declared.kind.Kind.{Kind}
use Rattle.ec_store.specs.Records.{head_at}
use Rattle.ec_conduct.specs.Given.{quorum}
use Rattle.ec_history.specs.Accounts.{Books}
use Rattle.ec_history.specs.Changes.{change}
use Rattle.ec_history.specs.Flat.{Flat, committed, made, made_from, name_opened, opened}
use Rattle.ec_history.specs.IsRun.{May as MayEnter, MayExecute}
use Rattle.ec_history.specs.Run.{Net, after, out_of}
use Rattle.ec_history.specs.Story.{Story, done_by, executes, failed_by, found_by, is_commit, is_done, is_unmarked, makes_a_child, op_of, opens, outcome, post_done, request_of, said_by, tears, told, told_executed, told_torn, torn_by, with_flat, with_post}
use Rattle.ec_wire.specs.declared.entry.Entry.{Entry}
use Rattle.ec_wire.specs.declared.entry.Entry.TheVariants.{Called, Sent, Executed, Heard, Torn}
use Rattle.ec_wire.specs.declared.message.Body.{Body}
use Rattle.ec_wire.specs.declared.message.Body.TheVariants.{ToBrick}
use Rattle.ec_wire.specs.declared.message.Message.{Message}
use Rattle.ec_wire.specs.declared.request.Request.{Request}
use Rattle.ec_wire.specs.declared.request.Request.TheVariants.{PreOp, WriteChunks, SetLength, PostOp, Clear, NameSet, Make, Made, Mark, Unmark}
use Rattle.ec_law_net.specs.Turns.{Maker, View}
use Rattle.ec_law_turns.specs.Follows.{Messages}
use Rattle.ec_law_turns.specs.Once.{is_make_of}
use Rattle.ec_law_turns.proofs.Basics.{differ, equal, itself, some_is, some_none}
use Rattle.ec_law_turns.proofs.Sends.{adds}
use Rattle.ec_law_turns.proofs.Steps.{executed_same, heard_same, torn_same}
use Rattle.ec_law_data.proofs.Reaching.{Reaches}
use Rattle.ec_law_heads.specs.Laws.{MakesOneKind}
use Rattle.ec_law_heads.proofs.Bounds.{HasLimit, Heads, has_limit}
use Rattle.ec_law_heads.proofs.Changing.{Did, Leaves, entry_head}

-- ## What entries make of the kind of a flat file

-- the kind of a flat file is as it was
pub record SameKind (g : ℕ) (t u : Story) : Type 0 where
  pub is : (u.tree g).kind ≡ (t.tree g).kind

module _ (g : ℕ) where
  same_kind : (t : Story) → SameKind g t t
  same_kind t = record { is = refl }

  flat_kind : (t : Story) (x : ℕ) (f : Flat → Flat) → ((flat : Flat) → (f flat).kind ≡ flat.kind) → SameKind g t (with_flat t x f)
  flat_kind t x f keeps = record { is = at (g == x) refl }
    where
      at : (c : Bool) → (g == x) ≡ c → (cond c (f (t.tree x)) (t.tree g)).kind ≡ (t.tree g).kind
      at true u = keeps (t.tree x) ∙ ap (λ (y : ℕ). (t.tree y).kind) (sym (equal g x u))
      at false u = refl

  other_kind : (t : Story) (x : ℕ) (f : Flat → Flat) → (x == g) ≡ false → SameKind g t (with_flat t x f)
  other_kind t x f ne = record { is = at (g == x) refl }
    where
      at : (c : Bool) → (g == x) ≡ c → (cond c (f (t.tree x)) (t.tree g)).kind ≡ (t.tree g).kind
      at true u = absurd (differ x g ne (sym (equal g x u)))
      at false u = refl

  pub own_kind : (t : Story) (x : ℕ) (f : Flat → Flat) → x ≡ g → ((with_flat t x f).tree g).kind ≡ (f (t.tree g)).kind
  own_kind t x f on = subst (λ (y : ℕ). ((with_flat t y f).tree g).kind ≡ (f (t.tree g)).kind) (sym on) (ap (λ (c : Bool). (cond c (f (t.tree g)) (t.tree g)).kind) (itself g))

  kind_if : (t : Story) (c : Bool) (u w : Story) → SameKind g t u → SameKind g t w → SameKind g t (cond c u w)
  kind_if t true u w h k = h
  kind_if t false u w h k = k

  module _ (geometry : Geometry) (m : Net) (t : Story) (msg : Message) where
    opens_kind : (x : ℕ) (stripes : ℕ → Bool) → SameKind g t (opens m t msg x stripes)
    opens_kind x stripes = kind_if t _ _ t (flat_kind t x (opened msg.call stripes) (λ flat. refl)) (same_kind t)

    posted_kind : (x version : ℕ) → SameKind g t (post_done geometry m t msg.call x msg.brick version)
    posted_kind x version = kind_if t (is_unmarked (head_at (m.brick msg.brick).records x)) (cond (is_commit geometry t msg.call x msg.brick) committing posting) t (kind_if t (is_commit geometry t msg.call x msg.brick) committing posting (record { is = (flat_kind posting x commit (λ flat. refl)).is }) (record { is = refl })) (same_kind t)
      where
        posting : Story
        posting = with_post t msg.call x msg.brick

        commit : Flat → Flat
        commit flat = committed (quorum geometry) msg.call version (change (quorum geometry) (op_of m msg.call) (t.found msg.call) x flat) flat

        committing : Story
        committing = with_flat posting x commit

    done_kind : (q : Request) → is_make_of g q ≡ false → SameKind g t (done_by geometry m t msg q)
    done_kind (WriteChunks x n first chunks) none = opens_kind x.0 _
    done_kind (SetLength x n keep count) none = opens_kind x.0 _
    done_kind (NameSet x n name child) none = kind_if t _ _ t (flat_kind t x.0 (name_opened name) (λ flat. refl)) (same_kind t)
    done_kind (Make x n child) none = other_kind t child.gfid.0 (made child.kind) none
    done_kind (PostOp x n at version size attr) none = posted_kind x.0 version
    done_kind q none = same_kind t

    failed_kind : (q : Request) (version : Option ℕ) → SameKind g t (failed_by m t msg q version)
    failed_kind (WriteChunks x n first chunks) (Some version) = opens_kind x.0 _
    failed_kind (WriteChunks x n first chunks) None = same_kind t
    failed_kind q version = same_kind t

    cut_kind : (q : Request) (version : Option ℕ) → SameKind g t (torn_by m t msg q version)
    cut_kind (WriteChunks x n first chunks) (Some version) = kind_if t _ _ t (opens_kind x.0 _) (same_kind t)
    cut_kind (WriteChunks x n first chunks) None = same_kind t
    cut_kind q version = same_kind t

  torn_kind : (geometry : Geometry) (m : Net) (t : Story) (o : Option Message) (version : Option ℕ) → SameKind g t (told_torn m t o version)
  torn_kind geometry m t None version = same_kind t
  torn_kind geometry m t (Some msg) version = by (request_of msg.body)
    where
      by : (o : Option Request) → SameKind g t (tears m t msg o version)
      by None = same_kind t
      by (Some q) = cut_kind geometry m t msg q version

  -- by the entry a brick did a Make of the gfid
  pub record MadeNow (geometry : Geometry) (m : Net) (t : Story) (e : Entry) : Type 0 where
    pub number : ℕ
    pub message : Message
    pub dir : Gfid
    pub grant : ℕ
    pub child : Child
    pub said : m.said number ≡ Some message
    pub body : message.body ≡ ToBrick (Make dir grant child)
    pub on : child.gfid.0 ≡ g
    pub kind : ((told geometry m t e).tree g).kind ≡ (made child.kind (t.tree g)).kind

  module _ (geometry : Geometry) (m : Net) (t : Story) where
    -- where the brick did it
    pub made_told : (i : ℕ) (version : Option ℕ) (msg : Message) (x : Gfid) (n : ℕ) (child : Child) → m.said i ≡ Some msg → msg.body ≡ ToBrick (Make x n child) → is_done (out_of m msg (Make x n child) version false).says ≡ true → child.gfid.0 ≡ g → ((told geometry m t (Executed i version false)).tree g).kind ≡ (made child.kind (t.tree g)).kind
    made_told i version msg x n child said body done on =
        ap (λ (o : Option Message). ((told_executed geometry m t o version false).tree g).kind) said
        ∙ (ap (λ (z : Body). ((executes geometry m t msg (request_of z) version false).tree g).kind) body
        ∙ (ap (λ (c : Bool). ((cond c (with_flat t child.gfid.0 (made child.kind)) t).tree g).kind) done
        ∙ own_kind t child.gfid.0 (made child.kind) on))

    executed_kind : (i : ℕ) (version : Option ℕ) (failed : Bool) → MayExecute m i version failed → (((told geometry m t (Executed i version failed)).tree g).kind ≡ (t.tree g).kind) ⊎ MadeNow geometry m t (Executed i version failed)
    executed_kind i version failed may = by failed
      where
        msg : Message
        msg = may.message

        is : (failed : Bool) → told geometry m t (Executed i version failed) ≡ outcome geometry m t msg may.request version failed
        is failed = ap (λ (o : Option Message). told_executed geometry m t o version failed) may.at.said ∙ ap (λ (z : Body). executes geometry m t msg (request_of z) version failed) may.at.body

        same : (failed : Bool) → ((outcome geometry m t msg may.request version failed).tree g).kind ≡ (t.tree g).kind → ((told geometry m t (Executed i version failed)).tree g).kind ≡ (t.tree g).kind
        same failed e = ap (λ (u : Story). (u.tree g).kind) (is failed) ∙ e

        made_by : (q : Request) → may.request ≡ q → is_make_of g q ≡ true → is_done (out_of m msg may.request version false).says ≡ true → MadeNow geometry m t (Executed i version false)
        made_by (Make x n child) e on done =
            let body : msg.body ≡ ToBrick (Make x n child) = may.at.body ∙ ap (λ (q : Request). ToBrick q) e in
            let here = equal child.gfid.0 g on in
            record { number = i; message = msg; dir = x; grant = n; child = child; said = may.at.said; body = body; on = here; kind = made_told i version msg x n child may.at.said body (subst (λ (q : Request). is_done (out_of m msg q version false).says ≡ true) e done) here }
        made_by q e on done = absurd (cc)

        by : (failed : Bool) → (((told geometry m t (Executed i version failed)).tree g).kind ≡ (t.tree g).kind) ⊎ MadeNow geometry m t (Executed i version failed)
        by true = inl (same true (failed_kind geometry m t msg may.request version).is)
        by false = answered (is_done (out_of m msg may.request version false).says) refl (is_make_of g may.request) refl
          where
            answered : (d : Bool) → is_done (out_of m msg may.request version false).says ≡ d → (c : Bool) → is_make_of g may.request ≡ c → (((told geometry m t (Executed i version false)).tree g).kind ≡ (t.tree g).kind) ⊎ MadeNow geometry m t (Executed i version false)
            answered false e c f = inl (same false (ap (λ (d : Bool). ((cond d (done_by geometry m t msg may.request) t).tree g).kind) e))
            answered true e true f = inr (made_by may.request refl f e)
            answered true e false f = inl (same false (ap (λ (d : Bool). ((cond d (done_by geometry m t msg may.request) t).tree g).kind) e ∙ (done_kind geometry m t msg may.request f).is))

    -- the kind stays, or a Make was done
    pub told_kind : (n : ℕ) (e : Entry) → MayEnter n m e → (((told geometry m t e).tree g).kind ≡ (t.tree g).kind) ⊎ MadeNow geometry m t e
    told_kind n (Called a client op) may = inl (by (makes_a_child op))
      where
        by : (c : Bool) → ((cond c (record (found_by t a (λ f. record f { took = t.next_gfid })) { next_gfid = t.next_gfid + 1 }) t).tree g).kind ≡ (t.tree g).kind
        by true = refl
        by false = refl
    told_kind n (Sent msg) may = inl (by msg.body)
      where
        by : (z : Body) → ((said_by t msg.call z).tree g).kind ≡ (t.tree g).kind
        by (ToBrick (WriteChunks x n first chunks)) = refl
        by (ToBrick (NameSet x n name (Some child))) = refl
        by z = refl
    told_kind n (Executed i version failed) may = executed_kind i version failed may
    told_kind n (Torn i count version) may = inl (torn_kind geometry m t (m.said i) version).is
    told_kind n e may = inl refl

-- ## What was said stays said

pub said_later : (n g : ℕ) (m : Net) (v : View) (e : Entry) → MayEnter n m e → Messages n m.said m.next v.turn v.of → (i : ℕ) (x : Message) → m.said i ≡ Some x → (after m e).said i ≡ Some x
said_later n g m v (Called a client op) may k i x is = is
said_later n g m v (Sent msg) may k i x is = ((adds n g m v msg may.0 k).still i x is).0
said_later n g m v (Executed j version failed) may k i x is = ap (λ (f : ℕ → Option Message). f i) (executed_same m (m.said j) version failed).0 ∙ is
said_later n g m v (Heard j) may k i x is = ap (λ (f : ℕ → Option Message). f i) (heard_same m (m.said j)).0 ∙ is
said_later n g m v (Torn j count version) may k i x is = ap (λ (f : ℕ → Option Message). f i) (torn_same m (m.said j) count version).0 ∙ is
said_later n g m v e may k i x is = is

-- ## Records and the flat file

-- a Make of the gfid with this kind was sent
pub record WasMade (g : ℕ) (said : ℕ → Option Message) (kind : Kind) : Type 0 where
  pub number : ℕ
  pub message : Message
  pub dir : Gfid
  pub grant : ℕ
  pub child : Child
  pub is : said number ≡ Some message
  pub body : message.body ≡ ToBrick (Make dir grant child)
  pub on : child.gfid.0 ≡ g
  pub kind_is : child.kind ≡ kind

-- Each head has the kind of the flat file, which has had it from the beginning or from a Make.
pub record HasKinds (n g : ℕ) (origin : Option Kind) (m : Net) (t : Story) : Type 0 where
  pub heads : Heads n g m (λ h. Some h.kind ≡ (t.tree g).kind)
  pub from : (k : Kind) → (t.tree g).kind ≡ Some k → (origin ≡ Some k) ⊎ WasMade g m.said k

kind_is : (x y : Kind) → Some x ≡ Some y → x ≡ y
kind_is x y e = cc

made_keeps : (kind k : Kind) (flat : Flat) → flat.kind ≡ Some k → (made kind flat).kind ≡ Some k
made_keeps kind k flat e = ap (λ (o : Option Kind). (made_from o kind flat).kind) e ∙ e

module _ (geometry : Geometry) (first : ℕ) (origins : ℕ → ℕ) (g : ℕ) (origin : Option Kind) (new : first ≤ g → origin ≡ None) (m : Net) (vs : ℕ → View) (t : Story) (b : Books) (r : Reaches geometry first origins m vs t b) (one : MakesOneKind g m (vs g)) (k : HasKinds geometry.n g origin m t) where
  -- who makes the gfid makes a new one
  taken : (i : ℕ) (x : Message) (d : Gfid) (n : ℕ) (child : Child) → m.said i ≡ Some x → x.body ≡ ToBrick (Make d n child) → child.gfid.0 ≡ g → first ≤ g
  taken i x d n child is body on = let by = (r.reached g).by_maker i x (Make d n child) is body on in ⊎_elim (λ none. absurd (some_none _ (sym by.maker_is ∙ none))) (λ le. le) (r.fresh g).taken

  -- two Makes of the gfid are of one call
  same_call : (i j : ℕ) (x y : Message) (d e : Gfid) (n l : ℕ) (child other : Child) → m.said i ≡ Some x → m.said j ≡ Some y → x.body ≡ ToBrick (Make d n child) → y.body ≡ ToBrick (Make e l other) → child.gfid.0 ≡ g → other.gfid.0 ≡ g → x.call ≡ y.call
  same_call i j x y d e n l child other is its body its_body on its_on =
      let a = (r.reached g).by_maker i x (Make d n child) is body on in
      let c = (r.reached g).by_maker j y (Make e l other) its its_body its_on in
      ap (λ (z : Maker). z.call) (some_is (record { call = x.call; dir = d.0 }) (record { call = y.call; dir = e.0 }) (sym a.maker_is ∙ c.maker_is))

  -- after a Make the flat file has the kind of that
  made_kind : (i : ℕ) (x : Message) (d : Gfid) (n : ℕ) (child : Child) → m.said i ≡ Some x → x.body ≡ ToBrick (Make d n child) → child.gfid.0 ≡ g → (made child.kind (t.tree g)).kind ≡ Some child.kind
  made_kind i x d n child is body on = at (t.tree g).kind refl
    where
      at : (o : Option Kind) → (t.tree g).kind ≡ o → (made child.kind (t.tree g)).kind ≡ Some child.kind
      at None e = ap (λ (o : Option Kind). (made_from o child.kind (t.tree g)).kind) e
      at (Some kind) e = made_keeps child.kind kind (t.tree g) e ∙ ap (λ (y : Kind). Some y) (sym (⊎_elim (λ was. absurd (some_none kind (sym was ∙ new (taken i x d n child is body on)))) (λ was. one i was.number x was.message d was.dir n was.grant child was.child is was.is body was.body on was.on (same_call i was.number x was.message d was.dir n was.grant child was.child is was.is body was.body on was.on) ∙ was.kind_is) (k.from kind e)))

  module _ (e : Entry) (may : MayEnter geometry.n m e) where
    abbrev now : Flat
    now = (told geometry m t e).tree g

    kept_kind : (kind : Kind) → (t.tree g).kind ≡ Some kind → now.kind ≡ Some kind
    kept_kind kind is = at (told_kind g geometry m t geometry.n e may)
      where
        at : (now.kind ≡ (t.tree g).kind) ⊎ MadeNow g geometry m t e → now.kind ≡ Some kind
        at (inl same) = same ∙ is
        at (inr d) = d.kind ∙ made_keeps d.child.kind kind (t.tree g) is

    -- a head whose kind is as it was
    kept_head : (h : Head) (kind : Kind) → kind ≡ h.kind → Some h.kind ≡ (t.tree g).kind → Some kind ≡ now.kind
    kept_head h kind same is = ap (λ (y : Kind). Some y) same ∙ sym (kept_kind h.kind (sym is))

    leaves_kind : (config : Config) (i : ℕ) (version : Option ℕ) (x : Message) (q : Request) (old : Option Head) (h : Head) → e ≡ Executed i version false → m.said i ≡ Some x → x.body ≡ ToBrick q → is_done (out_of m x q version false).says ≡ true → HasLimit g q → ((h : Head) → old ≡ Some h → Some h.kind ≡ (t.tree g).kind) → Leaves config g q old h → Some h.kind ≡ now.kind
    leaves_kind config i version x (PreOp y n at dirty) old h entry said body done limit before l = kept_head l.1.0 h.kind (ap (λ (z : Head). z.kind) l.1.2) (before l.1.0 l.1.1)
    leaves_kind config i version x (PostOp y n at to size attr) old h entry said body done limit before l = kept_head l.1.0 h.kind (ap (λ (z : Head). z.kind) l.1.2) (before l.1.0 l.1.1)
    leaves_kind config i version x (Clear y n at) old h entry said body done limit before l = kept_head l.1.0 h.kind (ap (λ (z : Head). z.kind) l.1.2) (before l.1.0 l.1.1)
    leaves_kind config i version x (Made y n child) old h entry said body done limit before l = kept_head l.1.0 h.kind (ap (λ (z : Head). z.kind) l.1.2) (before l.1.0 l.1.1)
    leaves_kind config i version x (Make y n child) old h entry said body done limit before l =
        ap (λ (z : Head). Some z.kind) l.2 ∙ sym (subst (λ (z : Entry). ((told geometry m t z).tree g).kind ≡ Some child.kind) (sym entry) (made_told g geometry m t i version x y n child said body done l.0 ∙ made_kind i x y n child said body l.0))
    leaves_kind config i version x (Mark y n heal head) old h entry said body done limit before l = absurd (limit l)
    leaves_kind config i version x (Unmark y n at dirty) old h entry said body done limit before l = absurd (limit l)
    leaves_kind config i version x q old h entry said body done limit before l = absurd l

    later : (kind : Kind) → WasMade g m.said kind → WasMade g (after m e).said kind
    later kind w = record { number = w.number; message = w.message; dir = w.dir; grant = w.grant; child = w.child; is = said_later geometry.n g m (vs g) e may (r.reached g).known.messages w.number w.message w.is; body = w.body; on = w.on; kind_is = w.kind_is }

    pub kinds_entry : HasKinds geometry.n g origin (after m e) (told geometry m t e)
    kinds_entry = record { heads = heads; from = from }
      where
        heads : Heads geometry.n g (after m e) (λ h. Some h.kind ≡ now.kind)
        heads c h lt is = at (entry_head g m c h geometry.n e may is)
          where
            at : (head_at (m.brick c).records g ≡ Some h) ⊎ Did g m e c h → Some h.kind ≡ now.kind
            at (inl was) = kept_head h h.kind refl (k.heads c h lt was)
            at (inr d) = leaves_kind (m.brick c).config d.number d.version d.message d.request (head_at (m.brick c).records g) h d.entry d.said d.body d.done (has_limit geometry g m (vs g) b (r.reached g) d.number d.message d.request d.said d.body) (λ z was. k.heads c z lt was) d.leaves

        from : (kind : Kind) → now.kind ≡ Some kind → (origin ≡ Some kind) ⊎ WasMade g (after m e).said kind
        from kind is = at (told_kind g geometry m t geometry.n e may)
          where
            at : (now.kind ≡ (t.tree g).kind) ⊎ MadeNow g geometry m t e → (origin ≡ Some kind) ⊎ WasMade g (after m e).said kind
            at (inl same) = ⊎_elim (λ z. inl z) (λ w. inr (later kind w)) (k.from kind (sym same ∙ is))
            at (inr d) = inr (record { number = d.number; message = d.message; dir = d.dir; grant = d.grant; child = d.child; is = said_later geometry.n g m (vs g) e may (r.reached g).known.messages d.number d.message d.said; body = d.body; on = d.on; kind_is = kind_is d.child.kind kind (sym (made_kind d.number d.message d.dir d.grant d.child d.said d.body d.on) ∙ (sym d.kind ∙ is)) })
