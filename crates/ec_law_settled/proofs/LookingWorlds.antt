-- In the log of a world a request that may alter records is of a call that has such a send among its own entries.
use Rattle.std.proofs.Common.{◌≡◌, inl, inr, ℕ, Bool, true, false, cond, not, ◌&&◌, ◌||◌, Option, Some, None, List, [], ◌∷◌, ◌++◌, refl, sym, ap, subst, ◌∙◌, append_assoc, arith}
use Rattle.ec_attr.specs.declared.config.Config.{Config}
use Rattle.ec_attr.specs.declared.geometry.Geometry.{Geometry}
use Rattle.ec_brick.specs.State.{State}
use Rattle.ec_calls.specs.declared.any.AnyCall.{AnyCall}
use Rattle.ec_clients.specs.Beginning.{beginning}
use Rattle.ec_clients.specs.Calls.{begun_with, ctx_of}
use Rattle.ec_clients.specs.Come.{Come, come, nothing_left}
use Rattle.ec_clients.specs.Owned.{Sees}
use Rattle.ec_clients.specs.declared.clients.Clients.{Clients}
use Rattle.ec_cluster.specs.Views.{log_of}
use Rattle.ec_cluster.specs.declared.cluster.Cluster.{Cluster}
use Rattle.ec_conduct.specs.Conduct.{is_release}
use Rattle.ec_conduct.specs.Given.{Given}
use Rattle.ec_conduct.specs.Own.{Own, Sends, Hears, GivesUp, Answers}
use Rattle.ec_history.proofs.Runs.{joins, rest}
use Rattle.ec_history.specs.Accounts.{Books, booked, books, hears, hears_body, no_books, own_of, sender, sends, with_own}
use Rattle.ec_history.specs.Flat.{Tree}
use Rattle.ec_history.specs.IsRun.{IsRun}
use Rattle.ec_history.specs.Run.{Asker, Net, after, call_of, executed, executed_by, fresh, heard, heard_by, is_number, run, torn_by, torn_off}
use Rattle.ec_history.specs.Script.{Step, entries_of}
use Rattle.ec_history.specs.Story.{Story, opening, told}
use Rattle.ec_txn.specs.declared.ctx.Ctx.{Ctx}
use Rattle.ec_wire.specs.declared.entry.Entry.{Entry}
use Rattle.ec_wire.specs.declared.entry.Entry.TheVariants.{Called, Sent, Executed, Heard, Lost, GivenUp, Stopped, Returned, Cut, Died, Yielded, Torn, Answered, Replaced}
use Rattle.ec_wire.specs.declared.message.Body.{Body}
use Rattle.ec_wire.specs.declared.message.Body.TheVariants.{ToBrick, ToClient}
use Rattle.ec_wire.specs.declared.message.Message.{Message}
use Rattle.ec_wire.specs.declared.op.Op.{Op}
use Rattle.ec_wire.specs.declared.request.Request.{Request}
use Rattle.ec_wire.specs.declared.request.Request.TheVariants.{Release}
use Rattle.ec_law_calls.specs.World.{IsLogged}
use Rattle.ec_law_settled.specs.Looking.{CallLookLaws, LooksAlterNothing, OnlyLooks, has_altering, is_altering}
use Rattle.ec_law_settled.specs.Settled.{IsSettledCall}
use Rattle.ec_law_settled.specs.Unchanged.{ExecutesOwn, NoneAlters, UnchangedLaws, alters, body_alters, entry_alters, message_alters}
use Rattle.ec_law_settled.specs.Worlds.{OfEveryWorldsCall}
use Rattle.ec_law_settled.proofs.Booked.{asker_along}
use Rattle.ec_law_settled.proofs.Counted.{counted, fresh_counted, said_along, some_message}
use Rattle.ec_law_settled.proofs.Places.{put_at, put_here}
use Rattle.ec_law_settled.proofs.Worlds.{come_books, come_net}

-- ## Own entries are only added

or_true : (t : Bool) → (t || true) ≡ true
or_true true = refl
or_true false = refl

or_with : (t u v : Bool) → (u ≡ true → v ≡ true) → (t || u) ≡ true → (t || v) ≡ true
or_with true u v h e = refl
or_with false u v h e = h e

still_altering : (xs ys : List Own) → has_altering xs ≡ true → has_altering (xs ++ ys) ≡ true
still_altering [] ys e = absurd (cc)
still_altering (x ∷ xs) ys e = or_with (is_altering x) (has_altering xs) (has_altering (xs ++ ys)) (still_altering xs ys) e

with_send : (xs : List Own) (b i : ℕ) (q : Request) → alters q ≡ true → has_altering (xs ++ Sends b i q ∷ []) ≡ true
with_send [] b i q e = rw e refl
with_send (x ∷ xs) b i q e = subst (λ (t : Bool). (is_altering x || t) ≡ true) (sym (with_send xs b i q e)) (or_true (is_altering x))

own_still : (b : Books) (a : ℕ) (e : Own) (c : ℕ) → has_altering (b.own c) ≡ true → has_altering ((with_own b a e).own c) ≡ true
own_still b a e c h = elim (put_at b.own a (b.own a ++ e ∷ []) c) [
  | inl w ↦ ap has_altering w.1 ∙ still_altering (b.own a) (e ∷ []) (ap (λ (z : ℕ). has_altering (b.own z)) (sym w.0) ∙ h)
  | inr w ↦ ap has_altering w.1 ∙ h
]

of_still : (b : Books) (o : Option ℕ) (e : Own) (c : ℕ) → has_altering (b.own c) ≡ true → has_altering ((own_of b o e).own c) ≡ true
of_still b None e c h = h
of_still b (Some a) e c h = own_still b a e c h

sends_still : (m : Net) (b : Books) (msg : Message) (body : Body) (c : ℕ) → has_altering (b.own c) ≡ true → has_altering ((sends m b msg body).own c) ≡ true
sends_still m b msg (ToBrick q) c h = of_still b (sender m b msg q) (Sends msg.brick msg.no q) c h
sends_still m b msg (ToClient re reply) c h = h

hears_body_still : (m : Net) (b : Books) (msg : Message) (body : Body) (c : ℕ) → has_altering (b.own c) ≡ true → has_altering ((hears_body m b msg body).own c) ≡ true
hears_body_still m b msg (ToBrick q) c h = h
hears_body_still m b msg (ToClient re reply) c h = by (is_number re (m.awaits msg.call msg.brick) && not (m.answered msg.call))
  where
    by : (t : Bool) → has_altering ((cond t (with_own b msg.call (Hears msg.brick re reply)) b).own c) ≡ true
    by true = own_still b msg.call (Hears msg.brick re reply) c h
    by false = h

hears_still : (m : Net) (b : Books) (o : Option Message) (c : ℕ) → has_altering (b.own c) ≡ true → has_altering ((hears m b o).own c) ≡ true
hears_still m b None c h = h
hears_still m b (Some msg) c h = hears_body_still m b msg msg.body c h

-- what is sent is among the own entries of its call
sender_is : (m : Net) (b : Books) (msg : Message) (q : Request) → alters q ≡ true → sender m b msg q ≡ Some msg.call
sender_is m b msg (Release g n) e = absurd (cc)
sender_is m b msg q e = refl

sends_new : (m : Net) (b : Books) (msg : Message) (q : Request) → alters q ≡ true → has_altering ((sends m b msg (ToBrick q)).own msg.call) ≡ true
sends_new m b msg q e = subst (λ (o : Option ℕ). has_altering ((own_of b o (Sends msg.brick msg.no q)).own msg.call) ≡ true) (sym (sender_is m b msg q e))
    (ap has_altering (put_here b.own msg.call (b.own msg.call ++ Sends msg.brick msg.no q ∷ []) msg.call refl) ∙ with_send (b.own msg.call) msg.brick msg.no q e)

-- ## Along a log

executed_said : (m : Net) (o : Option Message) (version : Option ℕ) (failed : Bool) → (executed m o version failed).said ≡ m.said
executed_said m None version failed = refl
executed_said m (Some msg) version failed = by msg.body
  where
    by : (body : Body) → (executed_by m msg body version failed).said ≡ m.said
    by (ToBrick q) = refl
    by (ToClient re reply) = refl

heard_said : (m : Net) (o : Option Message) → (heard m o).said ≡ m.said
heard_said m None = refl
heard_said m (Some msg) = by msg.body
  where
    by : (body : Body) → (heard_by m msg body).said ≡ m.said
    by (ToBrick q) = refl
    by (ToClient re reply) = refl

torn_said : (m : Net) (o : Option Message) (bytes : ℕ) (version : Option ℕ) → (torn_off m o bytes version).said ≡ m.said
torn_said m None bytes version = refl
torn_said m (Some msg) bytes version = by msg.body
  where
    by : (body : Body) → (torn_by m msg body bytes version).said ≡ m.said
    by (ToBrick q) = refl
    by (ToClient re reply) = refl

abbrev AreCovered : Net → Books → Type 0
AreCovered m b = (i : ℕ) (x : Message) (q : Request) → m.said i ≡ Some x → x.body ≡ ToBrick q → alters q ≡ true → has_altering (b.own x.call) ≡ true

module _ (geometry : Geometry) (m : Net) (t : Story) (b : Books) (h : AreCovered m b) where
  as_before : (e : Entry) → (after m e).said ≡ m.said → ((c : ℕ) → has_altering (b.own c) ≡ true → has_altering ((booked geometry nothing_left m t b e).own c) ≡ true) → AreCovered (after m e) (booked geometry nothing_left m t b e)
  as_before e same own i x q said body alter = own x.call (h i x q (ap (λ (f : ℕ → Option Message). f i) (sym same) ∙ said) body alter)

  sent : (msg : Message) → AreCovered (after m (Sent msg)) (booked geometry nothing_left m t b (Sent msg))
  sent msg i x q said body alter = elim (put_at m.said msg.no (Some msg) i) [
    | inl w ↦
        let it : x ≡ msg = some_message x msg (sym said ∙ w.1) in
        let at : msg.body ≡ ToBrick q = ap (λ (z : Message). z.body) (sym it) ∙ body in
        subst (λ (z : Message). has_altering ((sends m b msg msg.body).own z.call) ≡ true) (sym it) (subst (λ (z : Body). has_altering ((sends m b msg z).own msg.call) ≡ true) (sym at) (sends_new m b msg q alter))
    | inr w ↦ sends_still m b msg msg.body x.call (h i x q (sym w.1 ∙ said) body alter)
  ]

  covered_after : (e : Entry) → AreCovered (after m e) (booked geometry nothing_left m t b e)
  covered_after (Called a client op) = as_before (Called a client op) refl (λ c x. x)
  covered_after (Sent msg) = sent msg
  covered_after (Executed i version failed) = as_before (Executed i version failed) (executed_said m (m.said i) version failed) (λ c x. x)
  covered_after (Heard i) = as_before (Heard i) (heard_said m (m.said i)) (λ c x. hears_still m b (m.said i) c x)
  covered_after (Lost i) = as_before (Lost i) refl (λ c x. x)
  covered_after (GivenUp client brick i) = as_before (GivenUp client brick i) refl (λ c x. own_still b (call_of (m.said i)) (GivesUp brick i) c x)
  covered_after (Stopped d) = as_before (Stopped d) refl (λ c x. x)
  covered_after (Returned d) = as_before (Returned d) refl (λ c x. x)
  covered_after (Cut client d) = as_before (Cut client d) refl (λ c x. x)
  covered_after (Died client) = as_before (Died client) refl (λ c x. x)
  covered_after (Yielded client) = as_before (Yielded client) refl (λ c x. x)
  covered_after (Torn i bytes version) = as_before (Torn i bytes version) (torn_said m (m.said i) bytes version) (λ c x. x)
  covered_after (Answered a answer) = as_before (Answered a answer) refl (λ c x. own_still b a (Answers answer) c x)
  covered_after (Replaced d removed all) = as_before (Replaced d removed all) refl (λ c x. x)

covered_along : (geometry : Geometry) (es : List Entry) (m : Net) (t : Story) (b : Books) → AreCovered m b → AreCovered (run es m) (books geometry nothing_left es m t b)
covered_along geometry [] m t b h = h
covered_along geometry (e ∷ es) m t b h = covered_along geometry es (after m e) (told geometry m t e) (booked geometry nothing_left m t b e) (covered_after geometry m t b h e)

none_said : (x : Message) → None ≡ Some x → ⊥
none_said x e = cc

-- ## The log of a world

some_is : {X : Type 0} (x y : X) → Some x ≡ Some y → x ≡ y
some_is x y e = cc

none_is : (x : ℕ) → None ≡ Some x → ⊥
none_is x e = cc

differ : (t : Bool) → t ≡ true → t ≡ false → ⊥
differ t e f = absurd (let v = sym e ∙ f in cc)

none_by : (es : List Entry) (m : Net) → ((before rest : List Entry) (e : Entry) → es ≡ before ++ e ∷ rest → entry_alters (run before m) e ≡ false) → NoneAlters es m
none_by [] m h = tt
none_by (e ∷ es) m h = (h [] es e refl, none_by es (after m e) (λ f r x p. h (e ∷ f) r x (ap (λ (l : List Entry). e ∷ l) p)))

module _ (stands : Ctx → Given → AnyCall → List Own → Type 0) (by_table : Ctx → Given → List Own → Type 0) (looks : CallLookLaws stands) (laws : UnchangedLaws (OfEveryWorldsCall stands by_table)) (config : Config) (bricks : ℕ → State) (tree : Tree) (next : ℕ) (s : Cluster) (c : Clients AnyCall)
    (logged : IsLogged stands by_table config bricks tree next s c) where
  abbrev p : Come
  p = come c.options.geometry (log_of s) (beginning bricks tree logged.first)

  net_is : p.net ≡ run (log_of s) (fresh bricks)
  net_is = come_net c.options.geometry (log_of s) (beginning bricks tree logged.first)

  covered : AreCovered (run (log_of s) (fresh bricks)) p.books
  covered = subst (AreCovered (run (log_of s) (fresh bricks))) (sym (come_books c.options.geometry (log_of s) (beginning bricks tree logged.first)))
      (covered_along c.options.geometry (log_of s) (fresh bricks) (opening tree logged.first) no_books (λ i x q e. absurd (none_said x e)))

  -- a call that only looks has no such send
  own_looks : (a : ℕ) (asker : Asker) → p.net.asker a ≡ Some asker → OnlyLooks asker.op → has_altering (p.books.own a) ≡ false
  own_looks a asker e of = by (p.net.answered a) refl
    where
      h : Sees stands by_table s c p
      h = logged.sees

      by : (t : Bool) → p.net.answered a ≡ t → has_altering (p.books.own a) ≡ false
      by true t = let ended = h.seen.clients.slots.ended a asker e t in looks.looks (ctx_of c.options a asker.client ended.child) (begun_with c.options asker.op ended.child) ended.call (p.books.own a) ended.stood of
      by false t =
          let slot = h.seen.clients.slots.unanswered a asker e t (none_is a) in
          let runs = (h.seen.clients.slots.runs asker.client slot.0 slot.1).0 in
          let same : runs.asker ≡ asker = some_is runs.asker asker (sym runs.made ∙ (ap p.net.asker slot.2 ∙ e)) in
          subst (λ (z : ℕ). has_altering (p.books.own z) ≡ false) slot.2
          (looks.looks (ctx_of c.options slot.0.number asker.client runs.child) (begun_with c.options runs.asker.op runs.child) slot.0.call (p.books.own slot.0.number) runs.meets (subst (λ (z : Asker). OnlyLooks z.op) (sym same) of))

  module _ (earlier later : List Entry) (call client : ℕ) (op : Op) (called : Step) (steps : List Step) (parts : log_of s ≡ (earlier ++ entries_of (called ∷ steps)) ++ later) (settled : IsSettledCall config.geometry.n (run earlier (fresh bricks)) call client op called steps) (of : OnlyLooks op) where
    abbrev es : List Entry
    es = entries_of (called ∷ steps)

    abbrev start : Net
    start = run earlier (fresh bricks)

    parts_on : log_of s ≡ earlier ++ (es ++ later)
    parts_on = parts ∙ append_assoc earlier es later

    runs_on : IsRun config.geometry.n (es ++ later) start
    runs_on = rest config.geometry.n earlier (es ++ later) (fresh bricks) (subst (λ (l : List Entry). IsRun config.geometry.n l (fresh bricks)) parts_on logged.is_run)

    ends_is : run (log_of s) (fresh bricks) ≡ run (es ++ later) start
    ends_is = ap (λ (l : List Entry). run l (fresh bricks)) parts_on ∙ joins earlier (es ++ later) (fresh bricks)

    asker_by : (e : Entry) (tail : List Entry) → e ≡ Called call client op → IsRun config.geometry.n (e ∷ tail) start → (run (e ∷ tail) start).asker call ≡ Some (record { client = client; op = op })
    asker_by e tail is runs = subst (λ (z : Entry). (run (z ∷ tail) start).asker call ≡ Some (record { client = client; op = op })) (sym is) (by (subst (λ (z : Entry). IsRun config.geometry.n (z ∷ tail) start) is runs))
      where
        by : IsRun config.geometry.n (Called call client op ∷ tail) start → (run tail (after start (Called call client op))).asker call ≡ Some (record { client = client; op = op })
        by runs = asker_along config.geometry.n tail (after start (Called call client op)) runs.1 call (omega arith) ∙ put_here start.asker call (Some (record { client = client; op = op })) call refl

    made : p.net.asker call ≡ Some (record { client = client; op = op })
    made = ap (λ (m : Net). m.asker call) (net_is ∙ ends_is) ∙ asker_by called.named ((called.follow ++ entries_of steps) ++ later) settled.is runs_on

    -- no message of the call alters a record
    message_looks : (i : ℕ) (x : Message) (q : Request) → (run (log_of s) (fresh bricks)).said i ≡ Some x → x.body ≡ ToBrick q → x.call ≡ call → alters q ≡ false
    message_looks i x q said body is = by (alters q) refl
      where
        by : (t : Bool) → alters q ≡ t → alters q ≡ false
        by false e = e
        by true e = absurd (differ (has_altering (p.books.own call)) (subst (λ (a : ℕ). has_altering (p.books.own a) ≡ true) is (covered i x q said body e)) (own_looks call (record { client = client; op = op }) made of))

    executes : ExecutesOwn config.geometry.n start call es
    executes = laws.own config bricks tree next s c logged earlier later call client op called steps parts settled

    request_looks : (q : Request) → (is_release q ≡ false → alters q ≡ false) → alters q ≡ false
    request_looks (Release g n) h = refl
    request_looks q h = h refl

    entry_looks : (before on : List Entry) (e : Entry) → es ≡ before ++ e ∷ on → entry_alters (run before start) e ≡ false
    entry_looks before on (Executed i version failed) cut =
        let w = executes before on i version failed cut in
        let split : es ++ later ≡ before ++ ((Executed i version failed ∷ on) ++ later) = ap (λ (l : List Entry). l ++ later) cut ∙ append_assoc before (Executed i version failed ∷ on) later in
        let runs_so = subst (λ (l : List Entry). IsRun config.geometry.n l start) split runs_on in
        let runs_then = rest config.geometry.n before ((Executed i version failed ∷ on) ++ later) start runs_so in
        let at_start = counted config.geometry.n earlier (fresh bricks) (Rattle.ec_history.proofs.Runs.front config.geometry.n earlier (es ++ later) (fresh bricks) (subst (λ (l : List Entry). IsRun config.geometry.n l (fresh bricks)) parts_on logged.is_run)) (fresh_counted config.geometry.n bricks) in
        let counted_then = counted config.geometry.n before start (Rattle.ec_history.proofs.Runs.front config.geometry.n before ((Executed i version failed ∷ on) ++ later) start runs_so) at_start in
        let said_then = said_along config.geometry.n ((Executed i version failed ∷ on) ++ later) (run before start) runs_then counted_then i w.message w.said in
        let same : run (log_of s) (fresh bricks) ≡ run ((Executed i version failed ∷ on) ++ later) (run before start) = ends_is ∙ (ap (λ (l : List Entry). run l start) split ∙ joins before ((Executed i version failed ∷ on) ++ later) start) in
        let said_last : (run (log_of s) (fresh bricks)).said i ≡ Some w.message = ap (λ (m : Net). m.said i) same ∙ said_then in
        ap message_alters w.said ∙ (ap body_alters w.body ∙ request_looks w.request (λ speaks. message_looks i w.message w.request said_last w.body (w.own speaks)))
    entry_looks before on e cut = refl

    pub none_alters : NoneAlters es start
    none_alters = none_by es start entry_looks

pub look_laws : (stands : Ctx → Given → AnyCall → List Own → Type 0) (by_table : Ctx → Given → List Own → Type 0) → CallLookLaws stands → UnchangedLaws (OfEveryWorldsCall stands by_table) → LooksAlterNothing stands by_table
look_laws stands by_table looks laws config bricks tree next s c logged earlier later call client op called steps parts settled of =
    none_alters stands by_table looks laws config bricks tree next s c logged earlier later call client op called steps parts settled of
