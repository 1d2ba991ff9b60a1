-- What is covered and coded of the requests of a log, and what a turn plans as it plans.
use Rattle.std.proofs.Common.{◌≡◌, inl, inr, ℕ, suc, ◌+◌, ◌-◌, ◌*◌, ◌^◌, ◌<◌, ◌≤◌, Bool, true, false, cond, ◌==◌, ◌&&◌, ◌||◌, Option, Some, None, List, [], ◌∷◌, ◌++◌, length, refl, sym, ◌∙◌, ap, subst, arith}
use Rattle.std.specs.List.{list_any}
use Rattle.std.proofs.lemmas.Bool.{cases_Bool}
use Rattle.std.proofs.lemmas.Bool.Decides.{nat_tests}
use Rattle.ec_attr.specs.declared.geometry.Geometry.{Geometry}
use Rattle.ec_attr.specs.declared.head.Head.{Head}
use Rattle.ec_brick.specs.Work.{bytes_of}
use Rattle.ec_conduct.specs.Account.{Account, Exchange, at, gfid_of}
use Rattle.ec_conduct.specs.Changes.{IsAllOf}
use Rattle.ec_conduct.specs.Conduct.{MaySend, is_release}
use Rattle.ec_conduct.specs.Done.{changes, is_change, is_pre, since}
use Rattle.ec_conduct.specs.Given.{Given, quorum, quorum_of}
use Rattle.ec_conduct.specs.Opened.{account, opened}
use Rattle.ec_conduct.specs.Standing.{changes_at, group_of}
use Rattle.ec_field.specs.Chunk.{IsChunk}
use Rattle.ec_field.specs.Code.{chunk_at}
use Rattle.ec_history.specs.Accounts.{Books, sender}
use Rattle.ec_history.specs.IsRun.{MaySay}
use Rattle.ec_history.specs.Run.{Net, call_of}
use Rattle.ec_wire.specs.declared.entry.Entry.{Entry}
use Rattle.ec_wire.specs.declared.entry.Entry.TheVariants.{Executed, Torn}
use Rattle.ec_wire.specs.declared.message.Body.{Body}
use Rattle.ec_wire.specs.declared.message.Body.TheVariants.{ToBrick, ToClient}
use Rattle.ec_wire.specs.declared.message.Message.{Message}
use Rattle.ec_wire.specs.declared.op.Op.{Op}
use Rattle.ec_wire.specs.declared.op.Op.TheVariants.{Write, Truncate}
use Rattle.ec_wire.specs.declared.request.Request.{Request}
use Rattle.ec_wire.specs.declared.request.Request.TheVariants.{WriteChunks, SetLength, PostOp}
use Rattle.ec_law_data.specs.Coding.{by_rows}
use Rattle.ec_law_data.specs.Deeds.{is_post_on}
use Rattle.ec_law_data.specs.Forms.{is_data, of_file}
use Rattle.ec_law_data.specs.Link.{Codes, EntryCoded, MessageCoded, MessageWhole, BodyCoded, BodyWhole}
use Rattle.ec_law_data.proofs.Chunks.{whole_request}
use Rattle.ec_law_net.specs.Turns.{View, is_lock_on, turn_of}
use Rattle.ec_law_pieces.specs.Deed.{IsPlan}
use Rattle.ec_law_turns.specs.Follows.{All, IsOfTurn}
use Rattle.ec_law_turns.specs.Known.{Known}
use Rattle.ec_law_turns.specs.Shown.{IsOver, Shown}
use Rattle.ec_law_turns.proofs.Allowed.{account_given}
use Rattle.ec_law_turns.proofs.Sending.{number_is}
use Rattle.ec_law_turns.proofs.SentKnown.{BodyKept}
use Rattle.ec_law_turns.proofs.SentSound.{own_sender}
use Rattle.ec_conduct.specs.Own.{Own, Sends}
use Rattle.ec_law_files.proofs.Changing.{changes_put}
use Rattle.ec_law_files.proofs.Entries.{sent_there}
use Rattle.ec_law_files.specs.Filing.{HasFilePlan, AllChunks, AreCovered, AreRows, HaveFilePlans, PlansFirst, StripeFile, plan_of}
use Rattle.ec_law_files.specs.Laws.{BodyMade, OwnMade}
use Rattle.ec_law_files.specs.Plans.{AreOn, PutsOne, is_cut, is_written, HasPlan, IsFirst, ReadsOld, file_plan, form_by, wrote_any}
use Rattle.ec_law_files.specs.Stripes.{CutsStripes, EachSent, IsOwn, IsPut, Making, WritesStripes, puts_stripes, makes_stripes}
use Rattle.ec_law_files.proofs.Planning.{post_quiet}
use Rattle.ec_law_files.proofs.Plans.{file_plan_laws}

equal : (x y : ℕ) → (x == y) ≡ true → x ≡ y
equal x y e = grind (arith, nat_tests)

itself : (x : ℕ) → (x == x) ≡ true
itself x = grind (arith, nat_tests)

some_same : (x y : ℕ) → Some x ≡ Some y → x ≡ y
some_same x y e = cc

both_ways : (t : Bool) → t ≡ true → t ≡ false → ⊥
both_ways t e f = absurd (let z = sym e ∙ f in cc)

-- ## Requests that were sent

-- a write or cut is of a call that makes stripes
put_makes : (w : Making) (v : Given) (b g : ℕ) (q : Request) → is_data g q ≡ true → IsPut w v b q → makes_stripes v.op ≡ true
put_makes w v b g (WriteChunks x n first chunks) on put = by v.op put.0
  where
    by : (op : Op) → WritesStripes op (quorum_of v) w.head.size first (length chunks) → makes_stripes op ≡ true
    by (Write h off bytes) r = refl
    by (Truncate h to) r = refl
    by op r = absurd r
put_makes w v b g (SetLength x n keep count) on put = by v.op put
  where
    by : (op : Op) → CutsStripes op (quorum_of v) w.head.size keep count → makes_stripes op ≡ true
    by (Truncate h to) r = refl
    by op r = absurd r
put_makes w v b g q on put = absurd (cc)

module _ (geometry : Geometry) (makings : ℕ → Making) (g : ℕ) (m : Net) (v : View) (b : Books) (f : StripeFile) (known : Known geometry g m v b) (have : HaveFilePlans makings g m v b f) where
  -- a write or cut that was sent has the plan of its turn's call
  record IsPlanned (i : ℕ) (x : Message) (q : Request) : Type 0 where
    given : Given
    made : b.given x.call ≡ Some given
    put : IsPut (makings x.call) given x.brick q
    has : HasPlan f (v.of i) (file_plan (quorum_of given) given.op (makings x.call))

  some_given : (x y : Given) → Some x ≡ Some y → x ≡ y
  some_given x y e = cc

  planned_so : (i : ℕ) (x : Message) (q : Request) → m.said i ≡ Some x → x.body ≡ ToBrick q → is_data g q ≡ true → IsPlanned i x q
  planned_so i x q is body on =
      let p = have.put i x q is body on in
      let s = have.sent i x q is body (or_left (is_data g q) (is_post_on g q) on) in
      let h = have.has (v.of i) s.0 in
      let call = known.messages.caller i x is s.1 in
      let same : h.given ≡ p.0 = some_given h.given p.0 (sym h.made ∙ (ap b.given call ∙ p.1)) in
      let makes = put_makes (makings x.call) p.0 x.brick g q on p.2 in
      record {
        given = p.0;
        made = p.1;
        put = p.2;
        has = subst (λ (y : Given). HasPlan f (v.of i) (file_plan (quorum_of y) y.op (makings x.call))) same
            (subst (λ (a : ℕ). HasPlan f (v.of i) (file_plan (quorum_of h.given) h.given.op (makings a))) call (subst (λ (y : Head). HasPlan f (v.of i) (file_plan (quorum_of h.given) h.given.op (record (makings (call_of (m.said (v.of i - 2 ^ 61)))) { head = y }))) (h.own (ap (λ (y : Given). makes_stripes y.op) same ∙ makes)) h.has));
      }
    where
      or_left : (t u : Bool) → t ≡ true → (t || u) ≡ true
      or_left true u e = refl
      or_left false u e = absurd (cc)

  quiet_covers : (k : ℕ) (op : Op) (size s : ℕ) → makes_stripes op ≡ false → (is_written k op size s || is_cut k op size s) ≡ false
  quiet_covers k (Write o off bytes) size s e = absurd (cc)
  quiet_covers k (Truncate o to) size s e = absurd (cc)
  quiet_covers k op size s e = refl

  some_head : (x y : Head) → Some x ≡ Some y → x ≡ y
  some_head x y e = cc

  post_group : (w : Making) (c : Account) (b : ℕ) (q : Request) → is_post_on g q ≡ true → IsOwn w c b q → makes_stripes c.given.op ≡ true → group_of c g ≡ Some w.head
  post_group w c b (PostOp x n old new size attr) on own makes = subst (λ (y : ℕ). group_of c y ≡ Some w.head) (equal x.0 g on) (own makes)
  post_group w c b q on own makes = absurd (cc)

  -- what a turn of which a PostOp was sent covers is put by the changes that it stands on
  pub changed : OwnMade makings b → (j : ℕ) (x : Message) (q : Request) (given : Given) (front back : List Own) (head : Head) → m.said j ≡ Some x → x.body ≡ ToBrick q → is_post_on g q ≡ true → b.given x.call ≡ Some given → b.own x.call ≡ front ++ Sends x.brick j q ∷ back
      → group_of (account given front) g ≡ Some head → IsAllOf (account given front) g head given.op (changes_at (at (account given front) g x.brick)) → AreOn g (changes_at (at (account given front) g x.brick)) → (s : ℕ) → f.covers (v.of j) s ≡ true → PutsOne g (changes_at (at (account given front) g x.brick)) s
  changed owns j x q given front back head is body on began own group all are_on s covers = by (makes_stripes given.op) refl
    where
      or_right : (t u : Bool) → u ≡ true → (t || u) ≡ true
      or_right true u e = refl
      or_right false u e = e

      p : (f.planned (v.of j) ≡ true) × (2 ^ 61 ≤ v.of j)
      p = have.sent j x q is body (or_right (is_data g q) (is_post_on g q) on)

      h : HasFilePlan makings m b f (v.of j)
      h = have.has (v.of j) p.0

      call : call_of (m.said (v.of j - 2 ^ 61)) ≡ x.call
      call = known.messages.caller j x is p.1

      same : h.given ≡ given
      same = some_given h.given given (sym h.made ∙ (ap b.given call ∙ began))

      cg : (account given front).given ≡ given
      cg = account_given given front

      mine : IsOwn (makings x.call) (account given front) x.brick q
      mine = sent_there (IsOwn (makings x.call)) (opened given) front x.brick j q back (subst (EachSent (IsOwn (makings x.call)) (opened given)) own (owns x.call given began))

      here : (is_written (quorum_of given) given.op h.head.size s || is_cut (quorum_of given) given.op h.head.size s) ≡ true
      here = subst (λ (y : Given). (is_written (quorum_of y) y.op h.head.size s || is_cut (quorum_of y) y.op h.head.size s) ≡ true) same (sym (h.has.covers s) ∙ covers)

      by : (t : Bool) → makes_stripes given.op ≡ t → PutsOne g (changes_at (at (account given front) g x.brick)) s
      by false e = absurd (both_ways (is_written (quorum_of given) given.op h.head.size s || is_cut (quorum_of given) given.op h.head.size s) here (quiet_covers (quorum_of given) given.op h.head.size s e))
      by true e =
          let one : head ≡ (makings x.call).head = some_head head (makings x.call).head (sym group ∙ post_group (makings x.call) (account given front) x.brick q on mine (ap (λ (y : Given). makes_stripes y.op) cg ∙ e)) in
          let two : h.head ≡ head = h.own (ap (λ (y : Given). makes_stripes y.op) same ∙ e) ∙ (ap (λ (y : ℕ). (makings y).head) call ∙ sym one) in
          changes_put given.op (account given front) g head (changes_at (at (account given front) g x.brick)) all are_on s
          (subst (λ (y : Given). (is_written (quorum_of y) given.op head.size s || is_cut (quorum_of y) given.op head.size s) ≡ true) (sym cg) (subst (λ (y : Head). (is_written (quorum_of given) given.op y.size s || is_cut (quorum_of given) given.op y.size s) ≡ true) two here))

  pub covered : AreCovered g m v f
  covered i x q is body on = let p = planned_so i x q is body on in file_plan_laws.covered f (v.of i) p.given x.brick (makings x.call) q p.has p.put

  module _ (rows : ℕ → ℕ → ℕ) (are_rows : AreRows geometry rows) (chunks : AllChunks m) where
    codes : (i : ℕ) (x : Message) (q : Request) → m.said i ≡ Some x → x.body ≡ ToBrick q → is_data g q ≡ true → Codes (of_file (quorum geometry) (by_rows (quorum geometry) rows)) f g (v.of i) x.brick q
    codes i x q is body on =
        let p = planned_so i x q is body on in
        let same : p.given.geometry ≡ geometry = (known.numbers.given_below x.call p.given p.made).1.geometry_is in
        let lt = known.messages.to i x q is body in
        subst (λ (y : Geometry). Codes (of_file (quorum y) (by_rows (quorum y) rows)) f g (v.of i) x.brick q) same
        (file_plan_laws.codes rows f g (v.of i) p.given x.brick (makings x.call) q p.has p.put (chunks i x q is body)
        (subst (λ (y : Geometry). x.brick < y.n) (sym same) lt)
        (subst (λ (y : Geometry). Rattle.ec_matrix.specs.Inverse.IsByteRow (quorum y) y.algorithm x.brick (rows x.brick)) (sym same) (are_rows x.brick lt)))

    message_coded : (i : ℕ) (o : Option Message) → m.said i ≡ o → (version : Option ℕ) (failed : Bool) → MessageCoded (of_file (quorum geometry) (by_rows (quorum geometry) rows)) g m v f o version failed
    message_coded i None is version failed = tt
    message_coded i (Some msg) is version failed = by msg.body refl
      where
        by : (z : Body) → msg.body ≡ z → BodyCoded (of_file (quorum geometry) (by_rows (quorum geometry) rows)) g m v f msg z version failed
        by (ToClient re reply) body = tt
        by (ToBrick q) body = record {
          whole = whole_request q (chunks i msg q is body);
          codes = λ did on granted done. subst (λ (j : ℕ). Codes (of_file (quorum geometry) (by_rows (quorum geometry) rows)) f g (v.of j) msg.brick q) (sym (known.messages.number i msg is).0) (codes i msg q is body on);
        }

    message_whole : (i : ℕ) (o : Option Message) → m.said i ≡ o → MessageWhole (of_file (quorum geometry) (by_rows (quorum geometry) rows)) o
    message_whole i None is = tt
    message_whole i (Some msg) is = by msg.body refl
      where
        by : (z : Body) → msg.body ≡ z → BodyWhole (of_file (quorum geometry) (by_rows (quorum geometry) rows)) z
        by (ToClient re reply) body = tt
        by (ToBrick q) body = whole_request q (chunks i msg q is body)

    pub coded : (e : Entry) → EntryCoded (of_file (quorum geometry) (by_rows (quorum geometry) rows)) g m v f e
    coded (Executed i version failed) = message_coded i (m.said i) refl version failed
    coded (Torn i count version) = message_whole i (m.said i) refl
    coded e = tt

-- ## The message by which a turn plans

any_changes : (es : List Exchange) → All (λ e. puts_stripes e.request ≡ false) es → list_any puts_stripes (changes es) ≡ false
any_changes [] h = refl
any_changes (e ∷ es) h = elim (cases_Bool (is_change e.request)) [
  | inl t ↦ let rest = any_changes es h.1 in let first = h.0 in rw (t, first) rest
  | inr t ↦ let rest = any_changes es h.1 in rw t rest
]

all_since : (P : Exchange → Type 0) (p : Request → Bool) (es : List Exchange) → All P es → All P (since p es)
all_since P p [] h = tt
all_since P p (e ∷ es) h = elim (cases_Bool (p e.request)) [
  | inl t ↦ rw t tt
  | inr t ↦ rw t (h.0, all_since P p es h.1)
]

pub sort_of : (g : ℕ) (q : Request) → (is_data g q || is_post_on g q) ≡ true → (is_release q ≡ false) × (is_lock_on g (ToBrick q) ≡ false)
sort_of g (WriteChunks x n first chunks) e = (refl, refl)
sort_of g (SetLength x n keep count) e = (refl, refl)
sort_of g (PostOp x n at version size attr) e = (refl, refl)
sort_of g q e = absurd (cc)

stripes_data : (g : ℕ) (q : Request) → puts_stripes q ≡ true → gfid_of q ≡ Some g → is_data g q ≡ true
stripes_data g (WriteChunks x n first chunks) e on = subst (λ (y : ℕ). (x.0 == y) ≡ true) (some_same x.0 g on) (itself x.0)
stripes_data g (SetLength x n keep count) e on = subst (λ (y : ℕ). (x.0 == y) ≡ true) (some_same x.0 g on) (itself x.0)
stripes_data g q e on = absurd (cc)

module _ (geometry : Geometry) (makings : ℕ → Making) (g : ℕ) (m : Net) (v : View) (b : Books) (f : StripeFile) (msg : Message) (q : Request) (given : Given) (next_no : msg.no ≡ m.next) (may : MaySay geometry.n m msg msg.body) (kept : BodyKept m b msg msg.body)
    (known : Known geometry g m v b) (shown : Shown geometry g m.said m.next v.turn v.of m.owed v.core b) (own : BodyMade makings b msg msg.body) (have : HaveFilePlans makings g m v b f) (body : msg.body ≡ ToBrick q) (made : b.given msg.call ≡ Some given) (on : (is_data g q || is_post_on g q) ≡ true) (none : f.planned (turn_of g v msg) ≡ false) where
  abbrev c : Account
  c = account given (b.own msg.call)

  mine : sender m b msg q ≡ Some msg.call
  mine = own_sender m b msg q (sort_of g q on).0

  may_send : MaySend c msg.brick q
  may_send = (subst (BodyKept m b msg) body kept given made mine).0

  own_here : IsOwn (makings msg.call) c msg.brick q
  own_here = subst (BodyMade makings b msg) body own given made

  -- an exchange of this window is no write and no cut, else the turn had planned
  no_stripes : (e : Exchange) → IsOfTurn m.said v.turn v.of msg.call msg.brick e.number e.request → gfid_of e.request ≡ Some g → puts_stripes e.request ≡ false
  no_stripes e of_turn of = elim (cases_Bool (puts_stripes e.request)) [
    | inl t ↦
        let s = have.sent e.number of_turn.0.message e.request of_turn.0.is of_turn.0.body (or_left (is_data g e.request) (is_post_on g e.request) (stripes_data g e.request t of)) in
        let turn = number_is geometry g m v b msg next_no may kept known shown q body given made mine (sort_of g q on).1 (v.of e.number) of_turn.1 in
        absurd (both_ways (f.planned (turn_of g v msg)) (ap f.planned turn ∙ s.0) none)
    | inr t ↦ t
  ]
    where
      or_left : (t u : Bool) → t ≡ true → (t || u) ≡ true
      or_left true u e = refl
      or_left false u e = absurd (cc)

  together : (es : List Exchange) → All (λ e. IsOfTurn m.said v.turn v.of msg.call msg.brick e.number e.request) es → All (IsOver g m.said v.of v.core) es → All (λ e. puts_stripes e.request ≡ false) es
  together [] h i = tt
  together (e ∷ es) h i = (no_stripes e h.0 i.0.on, together es h.1 i.1)

  unwritten : wrote_any c g msg.brick ≡ false
  unwritten = any_changes (since is_pre (at c g msg.brick).window) (all_since (λ e. puts_stripes e.request ≡ false) is_pre (at c g msg.brick).window (together (at c g msg.brick).window ((known.calls msg.call given made).window msg.brick) ((shown.calls msg.call given made).window msg.brick)))

  record First (r : Request) : Type 0 where
    head : Head
    group : group_of c g ≡ Some head
    alike : makes_stripes c.given.op ≡ true → head ≡ (makings msg.call).head
    of : gfid_of r ≡ Some g
    is : IsFirst (record (makings msg.call) { head = head }) c msg.brick r

  first_of : (q : Request) → (is_data g q || is_post_on g q) ≡ true → MaySend c msg.brick q → IsOwn (makings msg.call) c msg.brick q → First q
  first_of (WriteChunks x n first chunks) on may own =
      let e = left (x.0 == g) on in
      record { head = (makings msg.call).head; group = subst (λ (y : ℕ). group_of c y ≡ Some (makings msg.call).head) (equal x.0 g e) own.group; alike = λ z. refl; of = ap (λ (y : ℕ). Some y) (equal x.0 g e); is = own }
    where
      left : (t : Bool) → (t || false) ≡ true → t ≡ true
      left true e = refl
      left false e = absurd (cc)
  first_of (SetLength x n keep count) on may own =
      let e = left (x.0 == g) on in
      record {
        head = (makings msg.call).head;
        group = subst (λ (y : ℕ). group_of c y ≡ Some (makings msg.call).head) (equal x.0 g e) own.group;
        alike = λ z. refl;
        of = ap (λ (y : ℕ). Some y) (equal x.0 g e);
        is = (own, subst (λ (y : ℕ). wrote_any c y msg.brick ≡ false) (sym (equal x.0 g e)) unwritten);
      }
    where
      left : (t : Bool) → (t || false) ≡ true → t ≡ true
      left true e = refl
      left false e = absurd (cc)
  first_of (PostOp x n old new size attr) on may own =
      let e = equal x.0 g on in
      let none = subst (λ (y : ℕ). wrote_any c y msg.brick ≡ false) (sym e) unwritten in
      record {
        head = may.1.head;
        group = subst (λ (y : ℕ). group_of c y ≡ Some may.1.head) e may.1.group;
        alike = λ makes. absurd (both_ways (makes_stripes c.given.op) makes (post_quiet c.given.op c x.0 may.1.head (changes_at (at c x.0 msg.brick)) none may.1.whole.all));
        of = ap (λ (y : ℕ). Some y) e;
        is = (may.1.whole.all, none);
      }
  first_of q on may own = absurd (cc)

  pub plans_first : PlansFirst makings g b f (turn_of g v msg) msg.call given
  plans_first =
      let o = first_of q on may_send own_here in
      let same : c.given ≡ given = account_given given (b.own msg.call) in
      record {
        head = o.head;
        group = o.group;
        own = subst (λ (y : Given). makes_stripes y.op ≡ true → o.head ≡ (makings msg.call).head) same o.alike;
        plan = λ byte bytes n k coder took reads.
            subst (λ (y : Given). IsPlan (form_by byte (quorum_of y) coder) n k f (turn_of g v msg) (plan_of makings msg.call y o.head)) same
            (file_plan_laws.is_plan byte bytes n k coder f (turn_of g v msg) c msg.brick g (record (makings msg.call) { head = o.head }) q took (subst (λ (y : Given). ReadsOld byte (quorum_of y) coder n k f (turn_of g v msg) c g o.head) (sym same) reads) o.of o.is);
      }
