-- What a turn was given stays by each entry of a log.
use Rattle.std.proofs.Common.{◌≡◌, ◌⊎◌, ◌<◌, ◌≤◌, ◌+◌, ℕ, Bool, true, false, not, cond, ◌==◌, ◌&&◌, ◌||◌, Option, Some, None, List, [], ◌∷◌, ◌++◌, map, refl, sym, ◌∙◌, ap, subst, inl, inr, arith, ⊎_elim}
use Rattle.std.specs.Option.{option_map}
use Rattle.std.proofs.lemmas.Bool.Decides.{nat_tests}
use Rattle.ec_attr.specs.declared.geometry.Geometry.{Geometry}
use Rattle.ec_attr.specs.declared.gfid.Gfid.{Gfid}
use Rattle.ec_attr.specs.declared.kind.Domain.TheVariants.{Heal, Inode}
use Rattle.ec_attr.specs.declared.kind.LockKind.TheVariants.{Exclusive, Shared}
use Rattle.ec_locks.specs.Table.{has, holds}
use Rattle.ec_brick.specs.Meets.{failing_at}
use Rattle.ec_brick.specs.State.{State as Brick}
use Rattle.ec_brick.specs.Step.{Fine, Out, executed as executed_at, quiet as quiet_out, torn_off as torn_at}
use Rattle.ec_conduct.specs.Conduct.{named_grant}
use Rattle.ec_conduct.specs.Given.{quorum}
use Rattle.ec_history.specs.IsRun.{May as MayEnter, MayExecute, MayTear}
use Rattle.ec_history.specs.Run.{Net, failing, out_of, torn_out}
use Rattle.ec_history.specs.Story.{is_done}
use Rattle.ec_wire.specs.declared.entry.Entry.{Entry}
use Rattle.ec_wire.specs.declared.entry.Entry.TheVariants.{Answered, Called, Cut, Died, Executed, GivenUp, Heard, Lost, Replaced, Returned, Sent, Stopped, Torn, Yielded}
use Rattle.ec_wire.specs.declared.message.Body.{Body}
use Rattle.ec_wire.specs.declared.message.Body.TheVariants.{ToBrick, ToClient}
use Rattle.ec_wire.specs.declared.message.Message.{Message}
use Rattle.ec_wire.specs.declared.request.Request.{Request}
use Rattle.ec_wire.specs.declared.request.Request.TheVariants.{ReadChunks, SetLength, WriteChunks}
use Rattle.ec_law_base.specs.State.{State}
use Rattle.ec_law_ballots.specs.Act.{Act}
use Rattle.ec_law_ballots.specs.Clauses.{Local}
use Rattle.ec_law_ballots.specs.Guard.{Holds, Runs}
use Rattle.ec_law_pieces.specs.Deed.{Deed, after as after_deeds, step}
use Rattle.ec_law_pieces.specs.Deed.Deed.{Begin, Commit, Copy, Create, Do, Finish, Follow, Intend, Look, Read, Spoil, Take, Take_kept, Tear, Write}
use Rattle.ec_law_pieces.specs.File.{File, Form}
use Rattle.ec_law_quorum.specs.Wide.{Inv}
use Rattle.ec_law_net.specs.Grants.{AsksIn, LocksStand}
use Rattle.ec_law_net.specs.Link.{Linked}
use Rattle.ec_law_net.specs.Turns.{View, acts, exclusive, turn_of}
use Rattle.ec_law_turns.specs.Sound.{Names}
use Rattle.ec_law_turns.proofs.Basics.{equal, some_is}
use Rattle.ec_law_data.specs.Deeds.{deeds_answered, deeds_done, deeds_executed, deeds_failed, deeds_of_request, deeds_of_torn, deeds_partly, deeds_sent, deeds_torn, dressed, file_after, is_at_base, is_granted, is_partial, is_post_on, pieces_of, shows}
use Rattle.ec_law_data.specs.Forms.{Coder, Piece, Shape, is_chunk_read}
use Rattle.ec_law_data.specs.Link.{IsWriter}
use Rattle.ec_law_reads.specs.Units.{of_units}
use Rattle.ec_law_data.specs.Reading.{Plans, Reading}
use Rattle.ec_law_data.proofs.Cores.{deeds_both}
use Rattle.ec_law_data.proofs.Fenced.{Stood, done_stood, part_stood, torn_stood}
use Rattle.ec_law_data.proofs.Guards.{acts_plans}
use Rattle.ec_law_reads.proofs.Fences.{GoesHealing, done_healing, grant_has, no_heal_grant, part_healing, shown_read, torn_healing}
use Rattle.ec_law_reads.proofs.Staying.{Fits, StaysYet, acts_stay, deed_stays}

-- ## One machine after another

-- what a turn was given stays, and a turn that has planned nothing yet had not
pub record Leads {P V C U S : Type 0} (f f' : File P V C U S) : Type 0 where
  pub stays : (a b : ℕ) (p : P) (y : C) → StaysYet f a b p y → StaysYet f' a b p y
  pub free : (a : ℕ) → f'.planned a ≡ false → f.planned a ≡ false

module _ {P V C U S : Type 0} where
  pub leads_same : (f : File P V C U S) → Leads f f
  leads_same f = record { stays = λ a b p y h. h; free = λ a h. h }

  pub leads_on : (f f' f'' : File P V C U S) → Leads f f' → Leads f' f'' → Leads f f''
  leads_on f f' f'' h i = record { stays = λ a b p y z. i.stays a b p y (h.stays a b p y z); free = λ a z. h.free a (i.free a z) }

  module _ (form : Form P V C U S) (n k : ℕ) where
    free_before : (d : Deed P V C U S) (f : File P V C U S) (a : ℕ) → (step form n k f d).planned a ≡ false → f.planned a ≡ false
    free_before (Intend x plan) f a h = by (a == x) h
      where
        by : (t : Bool) → cond t true (f.planned a) ≡ false → f.planned a ≡ false
        by true e = absurd (cc)
        by false e = e
    free_before (Do act) f a h = h
    free_before (Look x c) f a h = h
    free_before (Take x q shape) f a h = h
    free_before (Take_kept w x q) f a h = h
    free_before (Read x c places) f a h = h
    free_before (Write x c places) f a h = h
    free_before (Tear x c places pieces) f a h = h
    free_before (Copy x c places pieces) f a h = h
    free_before (Spoil c places pieces) f a h = h
    free_before (Commit x c) f a h = h
    free_before (Follow x c) f a h = h
    free_before (Begin x c) f a h = h
    free_before (Finish x c) f a h = h
    free_before (Create c shape) f a h = h

    -- deeds that leave heads and grants
    pub record Steady (ds : List (Deed P V C U S)) (f : File P V C U S) : Type 0 where
      pub leads : Leads f (after_deeds form n k ds f)
      pub heads : (after_deeds form n k ds f).heads ≡ f.heads

    pub steady_none : (f : File P V C U S) → Steady [] f
    steady_none f = record { leads = leads_same f; heads = refl }

    pub steady_one : (d : Deed P V C U S) (f : File P V C U S) → ((b : ℕ) → Local f.heads b) → Fits n k f d → (step form n k f d).heads ≡ f.heads → Steady (d ∷ []) f
    steady_one d f local fits heads = record { leads = record { stays = deed_stays form n k d f local fits; free = free_before d f }; heads = heads }

    pub steady_if : (t : Bool) (xs : List (Deed P V C U S)) (f : File P V C U S) → (t ≡ true → Steady xs f) → Steady (cond t xs []) f
    steady_if true xs f h = h refl
    steady_if false xs f h = steady_none f

    pub steady_either : (t : Bool) (x y : Deed P V C U S) (f : File P V C U S) → (t ≡ true → Steady (x ∷ []) f) → (t ≡ false → Steady (y ∷ []) f) → Steady (cond t x y ∷ []) f
    steady_either true x y f h i = h refl
    steady_either false x y f h i = i refl

first_true : (t u : Bool) → (t && u) ≡ true → t ≡ true
first_true true u e = refl
first_true false u e = absurd (cc)

second_true : (t u : Bool) → (t && u) ≡ true → u ≡ true
second_true true u e = e
second_true false u e = absurd (cc)

-- ## Requests

-- a request that reads chunks of the gfid or writes its data
abbrev pub IsNamed : ℕ → Request → Type 0
IsNamed g q = IsWriter g q ⊎ (is_chunk_read g q ≡ true)

module _ {P V C U S : Type 0} (R : Reading P V C U S) (plans : Plans P V U S) (n k g : ℕ) (m : Net) (v : View) (f : File P V C U S) (inv : Inv n k f.heads) where
  -- a write goes under the turn's grant of the content, and the turn has planned
  pub record IsWrite (a b : ℕ) (q : Request) (old : Brick) : Type 0 where
    pub granted : is_granted old q ≡ true → Holds f.heads a b × (f.planned a ≡ true)
    pub healing : is_granted old q ≡ false → ⊥

  steady_done : (a b : ℕ) (q : Request) (old now : Brick) → IsWrite a b q old → Steady R.form n k (deeds_done R plans n k g a b q old now) f
  steady_done a b q old now w = steady_either R.form n k (is_granted old q) _ _ f (λ e. steady_one R.form n k (Write a b (R.writes g q)) f inv.local (w.granted e) refl) (λ e. absurd (w.healing e))

  steady_partly : (a b : ℕ) (q : Request) (old now : Brick) → IsWrite a b q old → Steady R.form n k (deeds_partly R plans n k g a b q old now) f
  steady_partly a b q old now w = steady_either R.form n k (is_granted old q) _ _ f (λ e. steady_one R.form n k (Tear a b (R.writes g q) (pieces_of R plans n k g (now.records g))) f inv.local (w.granted e) refl) (λ e. absurd (w.healing e))

  abbrev pub PartIs : ℕ → ℕ → Request → Option ℕ → Brick → Type 0
  PartIs a b q None old = Unit {0}
  PartIs a b q (Some version) old = R.is_write g q ≡ true → IsWrite a b q old

  steady_failed : (a b : ℕ) (q : Request) (version : Option ℕ) (old now : Brick) → PartIs a b q version old → Steady R.form n k (deeds_failed R plans n k g a b q version old now) f
  steady_failed a b q None old now w = steady_none R.form n k f
  steady_failed a b q (Some version) old now w = steady_if R.form n k (R.is_write g q && is_partial q) _ f (λ e. steady_partly a b q old now (w (first_true (R.is_write g q) (is_partial q) e)))

  pub record AnswerIs (a b : ℕ) (q : Request) (old : Brick) (out : Out) : Type 0 where
    pub done : is_done out.says ≡ true → R.is_write g q ≡ true → IsWrite a b q old
    pub read : shows out.says ≡ true → R.is_read g q ≡ true → f.heads.pre a b ≡ true → Holds f.heads a b

  steady_answered : (a b : ℕ) (q : Request) (old : Brick) (out : Out) → AnswerIs a b q old out → Steady R.form n k (deeds_answered R plans n k g f a b q old out) f
  steady_answered a b q old out w = by (is_done out.says) refl
    where
      by : (t : Bool) → is_done out.says ≡ t → Steady R.form n k (cond t (cond (R.is_write g q) (deeds_done R plans n k g a b q old out.brick) []) (cond (shows out.says && R.is_read g q && is_at_base f.heads a b) (Read a b (R.reads g q) ∷ []) [])) f
      by true d = steady_if R.form n k (R.is_write g q) _ f (λ e. steady_done a b q old out.brick (w.done d e))
      by false d = steady_if R.form n k (shows out.says && R.is_read g q && is_at_base f.heads a b) _ f (λ e. let h = first_true (shows out.says && R.is_read g q) (is_at_base f.heads a b) e in steady_one R.form n k (Read a b (R.reads g q)) f inv.local (w.read (first_true (shows out.says) (R.is_read g q) h) (second_true (shows out.says) (R.is_read g q) h)) refl)

  abbrev pub BodyIs : Message → Body → Option ℕ → Bool → Type 0
  BodyIs msg (ToBrick q) version true = PartIs (v.of msg.no) msg.brick q version (m.brick msg.brick)
  BodyIs msg (ToBrick q) version false = AnswerIs (v.of msg.no) msg.brick q (m.brick msg.brick) (out_of m msg q version false)
  BodyIs msg (ToClient re reply) version failed = Unit {0}

  abbrev pub MessageIs : Option Message → Option ℕ → Bool → Type 0
  MessageIs None version failed = Unit {0}
  MessageIs (Some msg) version failed = BodyIs msg msg.body version failed

  steady_executed : (o : Option Message) (version : Option ℕ) (failed : Bool) → MessageIs o version failed → Steady R.form n k (deeds_executed R plans n k g m v f o version failed) f
  steady_executed None version failed w = steady_none R.form n k f
  steady_executed (Some msg) version failed w = body msg.body failed w
    where
      body : (z : Body) (failed : Bool) → BodyIs msg z version failed → Steady R.form n k (deeds_of_request R plans n k g m v f msg z version failed) f
      body (ToBrick q) true w = steady_failed (v.of msg.no) msg.brick q version (m.brick msg.brick) (out_of m msg q version true).brick w
      body (ToBrick q) false w = steady_answered (v.of msg.no) msg.brick q (m.brick msg.brick) (out_of m msg q version false) w
      body (ToClient re reply) failed w = steady_none R.form n k f

  abbrev pub TornBodyIs : Message → Body → Option ℕ → Type 0
  TornBodyIs msg (ToBrick q) version = PartIs (v.of msg.no) msg.brick q version (m.brick msg.brick)
  TornBodyIs msg (ToClient re reply) version = Unit {0}

  abbrev pub TornIs : Option Message → Option ℕ → Type 0
  TornIs None version = Unit {0}
  TornIs (Some msg) version = TornBodyIs msg msg.body version

  steady_torn : (o : Option Message) (count : ℕ) (version : Option ℕ) → TornIs o version → Steady R.form n k (deeds_torn R plans n k g m v o count version) f
  steady_torn None count version w = steady_none R.form n k f
  steady_torn (Some msg) count version w = body msg.body w
    where
      body : (z : Body) → TornBodyIs msg z version → Steady R.form n k (deeds_of_torn R plans n k g m v msg z count version) f
      body (ToBrick q) w = steady_failed (v.of msg.no) msg.brick q version (m.brick msg.brick) (torn_out m msg q count version).brick w
      body (ToClient re reply) w = steady_none R.form n k f

  steady_sent : (a : ℕ) (z : Body) → Steady R.form n k (deeds_sent R plans n k g f a z) f
  steady_sent a (ToBrick q) = steady_if R.form n k ((R.is_write g q || is_post_on g q) && not (f.planned a)) _ f (λ e. steady_one R.form n k (Intend a (plans.plan a)) f inv.local tt refl)
  steady_sent a (ToClient re reply) = steady_none R.form n k f

  module _ (most : n < k + k) (enough : k ≤ n) where
    -- data, and then acts
    pub leads_both : (ds : List (Deed P V C U S)) (es : List Act) → Steady R.form n k ds f → Runs n k es f.heads → Leads f (after_deeds R.form n k (ds ++ map (dressed R plans n k g) es) f)
    leads_both ds es s runs =
        let f1 : File P V C U S = after_deeds R.form n k ds f in
        let f2 : File P V C U S = after_deeds R.form n k (map (dressed R plans n k g) es) f1 in
        subst (λ (z : File P V C U S). Leads f z) (sym (deeds_both R.form n k ds (map (dressed R plans n k g) es) f))
        (leads_on f f1 f2 s.leads (record {
          stays = acts_stay R plans n k g most enough es f1 (subst (Inv n k) (sym s.heads) inv) (subst (Runs n k es) (sym s.heads) runs);
          free = λ a h. sym (ap (λ (z : ℕ → Bool). z a) (acts_plans R plans n k g es f1).0) ∙ h;
        }))

    -- what an entry needs of messages
    abbrev pub EntryIs : Entry → Type 0
    EntryIs (Executed i version failed) = MessageIs (m.said i) version failed
    EntryIs (Torn i count version) = TornIs (m.said i) version
    EntryIs e = Unit {0}

    pub entry_leads : (e : Entry) → EntryIs e → Runs n k (acts g m v e) f.heads → Leads f (file_after R plans n k g m v f e)
    entry_leads (Sent msg) w runs = leads_both (deeds_sent R plans n k g f (turn_of g v msg) msg.body) (acts g m v (Sent msg)) (steady_sent (turn_of g v msg) msg.body) runs
    entry_leads (Executed i version failed) w runs = leads_both (deeds_executed R plans n k g m v f (m.said i) version failed) (acts g m v (Executed i version failed)) (steady_executed (m.said i) version failed w) runs
    entry_leads (Torn i count version) w runs = leads_both (deeds_torn R plans n k g m v (m.said i) count version) (acts g m v (Torn i count version)) (steady_torn (m.said i) count version w) runs
    entry_leads (Called a client op) w runs = leads_both [] [] (steady_none R.form n k f) runs
    entry_leads (Heard i) w runs = leads_both [] [] (steady_none R.form n k f) runs
    entry_leads (Lost i) w runs = leads_both [] [] (steady_none R.form n k f) runs
    entry_leads (GivenUp client brick i) w runs = leads_both [] [] (steady_none R.form n k f) runs
    entry_leads (Stopped b) w runs = leads_both [] (acts g m v (Stopped b)) (steady_none R.form n k f) runs
    entry_leads (Returned b) w runs = leads_both [] [] (steady_none R.form n k f) runs
    entry_leads (Cut client b) w runs = leads_both [] (acts g m v (Cut client b)) (steady_none R.form n k f) runs
    entry_leads (Died client) w runs = leads_both [] [] (steady_none R.form n k f) runs
    entry_leads (Yielded client) w runs = leads_both [] [] (steady_none R.form n k f) runs
    entry_leads (Answered a answer) w runs = leads_both [] [] (steady_none R.form n k f) runs
    entry_leads (Replaced b removed all) w runs = leads_both [] (acts g m v (Replaced b removed all)) (steady_none R.form n k f) runs

-- ## What is known of the messages of a log

-- The machine of pieces stands beside that of versions. A turn has planned by its first data request or PostOp, and what reads or
-- writes data names a lock of its turn.
pub record IsBeside {P V C U S : Type 0} (R : Reading P V C U S) (n k g : ℕ) (m : Net) (v : View) (f : File P V C U S) : Type 0 where
  pub heads : f.heads ≡ v.core
  pub inv : Inv n k v.core
  pub planned : (i : ℕ) (x : Message) (q : Request) → m.said i ≡ Some x → x.body ≡ ToBrick q → (R.is_write g q || is_post_on g q) ≡ true → f.planned (v.of i) ≡ true
  pub named : (i : ℕ) (x : Message) (q : Request) → m.said i ≡ Some x → x.body ≡ ToBrick q → IsNamed g q → (grant : ℕ) × (named_grant q ≡ Some grant) × Names g m.said v.of x.call x.brick i grant

or_left : (t u : Bool) → t ≡ true → (t || u) ≡ true
or_left true u e = refl
or_left false u e = absurd (cc)

module _ (unit : List (List ℕ) → ℕ → ℕ) (kk : ℕ) (coder : Coder) (plans : Plans ℕ (List (List ℕ)) ℕ Shape) (geometry : Geometry) (g : ℕ) (m : Net) (v : View) (linked : Linked geometry.n g m v) (locks : LocksStand geometry.n g m v) (once : (i j b a : ℕ) → AsksIn g m v i b a → AsksIn g m v j b a → i ≡ j) (f : File ℕ (List (List ℕ)) Piece ℕ Shape) (known : IsBeside (of_units unit kk coder) geometry.n (quorum geometry) g m v f) where
  abbrev R : Reading ℕ (List (List ℕ)) Piece ℕ Shape
  R = of_units unit kk coder

  abbrev q' : ℕ
  q' = quorum geometry

  inv : Inv geometry.n (quorum geometry) f.heads
  inv = subst (Inv geometry.n (quorum geometry)) (sym known.heads) known.inv

  is_writer : (q : Request) → R.is_write g q ≡ true → IsWriter g q
  is_writer (WriteChunks x n first chunks) e = equal x.0 g e
  is_writer (SetLength x n keep count) e = equal x.0 g e
  is_writer q e = absurd (cc)

  no_healing : (i : ℕ) (msg : Message) (q : Request) → m.said i ≡ Some msg → msg.body ≡ ToBrick q → R.is_write g q ≡ true → GoesHealing (m.brick msg.brick) q → ⊥
  no_healing i msg q said body write goes = by q (known.named i msg q said body (inl (is_writer q write))) write goes
    where
      lt : msg.brick < geometry.n
      lt = linked.to i msg q said body

      lock : (x : Gfid) (n : ℕ) (grant : ℕ) → n ≡ grant → Names g m.said v.of msg.call msg.brick i grant → holds (m.brick msg.brick).asks n x Heal Exclusive ≡ true → ⊥
      lock x n grant same w h = let l = w.lock in no_heal_grant m msg.brick n x l.gfid l.kind l.asks.message (ap m.said same ∙ l.asks.is) l.asks.body [] (m.brick msg.brick).asks (locks.asks msg.brick lt) h

      by : (q : Request) → (grant : ℕ) × (named_grant q ≡ Some grant) × Names g m.said v.of msg.call msg.brick i grant → R.is_write g q ≡ true → GoesHealing (m.brick msg.brick) q → ⊥
      by (WriteChunks x n first chunks) w e h = lock x n w.0 (some_is n w.0 w.1) w.2 h
      by (SetLength x n keep count) w e h = lock x n w.0 (some_is n w.0 w.1) w.2 h
      by q w e h = absurd (cc)

  -- a write by a brick that does it
  is_write : (i : ℕ) (msg : Message) (q : Request) → m.said i ≡ Some msg → msg.body ≡ ToBrick q → R.is_write g q ≡ true → (is_granted (m.brick msg.brick) q ≡ true → Stood g (m.brick msg.brick) q) → (is_granted (m.brick msg.brick) q ≡ false → GoesHealing (m.brick msg.brick) q) → IsWrite R plans geometry.n q' g m v f inv (v.of msg.no) msg.brick q (m.brick msg.brick)
  is_write i msg q said body write stood goes = subst (λ (j : ℕ). IsWrite R plans geometry.n q' g m v f inv (v.of j) msg.brick q (m.brick msg.brick)) (sym (linked.said i msg said).0) (record {
    granted = λ e.
        let s = stood e in
        let w = known.named i msg q said body (inl (is_writer q write)) in
        let lt = linked.to i msg q said body in
        let grant = some_is s.grant w.0 (sym s.names ∙ w.1) in
        let holder = linked.holders msg.brick lt ∙ (ap (option_map v.of) s.stands ∙ ap (λ (y : ℕ). Some (v.of y)) grant) ∙ ap (λ (y : ℕ). Some y) w.2.turn in
        (ap (λ (z : State). z.holder msg.brick) known.heads ∙ holder, known.planned i msg q said body (or_left (R.is_write g q) (is_post_on g q) write));
    healing = λ e. no_healing i msg q said body write (goes e);
  })

  -- a turn that did its PreOp at a brick holds it where chunks are read there under a grant of its own
  pub reads_held : (i : ℕ) (msg : Message) (x : Gfid) (n first count : ℕ) → m.said i ≡ Some msg → msg.body ≡ ToBrick (ReadChunks x n first count) → x.0 ≡ g → holds (m.brick msg.brick).asks n x Inode Shared ≡ true → v.core.pre (v.of i) msg.brick ≡ true → v.core.holder msg.brick ≡ Some (v.of i)
  reads_held i msg x n first count said body on holds' pre =
      let w = known.named i msg (ReadChunks x n first count) said body (inr (is_it x.0 g on)) in
      let lt = linked.to i msg (ReadChunks x n first count) said body in
      let b = msg.brick in
      let a = v.of i in
      let begun = w.2.begun in
      let saw = ⊎_elim (λ o. absurd (let z = locks.old a o in omega (arith, z, begun))) (λ s. s) ((known.inv.local b).pre_seen a pre).0 in
      let granted = ((known.inv.local b).saw a saw).0 in
      let l = locks.once a b lt granted in
      let lock = w.2.lock in
      let number : n ≡ w.0 = some_is n w.0 w.1 in
      let mine : AsksIn g m v w.0 b a = record { message = lock.asks.message; gfid = lock.gfid; kind = lock.kind; said = lock.asks.is; brick = lock.asks.brick; body = lock.asks.body; on = lock.on; turn = w.2.turn } in
      let same = once l.number w.0 b a l.asked mine in
      let stands : exclusive g Inode (m.brick b).asks ≡ Some l.number = ⊎_elim (λ none. absurd (let z = sym none ∙ (ap (has (m.brick b).asks) (same ∙ sym number) ∙ grant_has x Inode Shared n [] (m.brick b).asks holds') in cc)) (λ s. s) l.stands in
      linked.holders b lt ∙ (ap (option_map v.of) stands ∙ ap (λ (y : ℕ). Some y) l.asked.turn)
    where
      is_it : (y z : ℕ) → y ≡ z → (y == z) ≡ true
      is_it y z e = grind (arith, nat_tests)

  shown : (s : Brick) (client number : ℕ) (q : Request) → R.is_read g q ≡ true → shows (executed_at s Fine client number q).says ≡ true → (x : Gfid) × (n : ℕ) × (first : ℕ) × (count : ℕ) × (q ≡ ReadChunks x n first count) × (x.0 ≡ g) × (holds s.asks n x Inode Shared ≡ true)
  shown s client number (ReadChunks x n first count) e h = (x, n, first, count, refl, equal x.0 g e, (shown_read s x n first count Fine client number (inl h)).granted)
  shown s client number q e h = absurd (cc)

  message_is : (i : ℕ) (version : Option ℕ) (failed : Bool) → MayExecute m i version failed → MessageIs R plans geometry.n q' g m v f inv (m.said i) version failed
  message_is i version failed may =
      subst (λ (o : Option Message). MessageIs R plans geometry.n q' g m v f inv o version failed) (sym may.at.said)
      (subst (λ (z : Body). BodyIs R plans geometry.n q' g m v f inv may.message z version failed) (sym may.at.body)
      (by failed version may.read))
    where
      s : Brick
      s = m.brick may.message.brick

      went : (version : Option ℕ) (failed : Bool) → out_of m may.message may.request version failed ≡ executed_at (m.brick may.message.brick) (failing failed version) may.message.client may.message.no may.request
      went version failed = ap (λ (t : Bool). cond t (executed_at (m.brick may.message.brick) (failing failed version) may.message.client may.message.no may.request) (quiet_out (m.brick may.message.brick))) may.at.up

      by : (failed : Bool) (version : Option ℕ) → version ≡ (out_of m may.message may.request version failed).version → BodyIs R plans geometry.n q' g m v f inv may.message (ToBrick may.request) version failed
      by false version read = record {
        done = λ done write.
            let done' = subst (λ (o : Out). is_done o.says ≡ true) (went version false) done in
            is_write i may.message may.request may.at.said may.at.body write
            (λ e. done_stood g (m.brick may.message.brick) may.message.client may.message.no may.request (is_writer may.request write) e done')
            (λ e. done_healing (m.brick may.message.brick) may.message.client may.message.no may.request e done');
        read = λ shows' is_read pre.
            let h = shown (m.brick may.message.brick) may.message.client may.message.no may.request is_read (subst (λ (o : Out). shows o.says ≡ true) (went version false) shows') in
            let no = (linked.said i may.message may.at.said).0 in
            let pre' = subst (λ (j : ℕ). v.core.pre (v.of j) may.message.brick ≡ true) no (sym (ap (λ (z : State). z.pre (v.of may.message.no) may.message.brick) known.heads) ∙ pre) in
            let held = reads_held i may.message h.0 h.1 h.2 h.3 may.at.said (may.at.body ∙ ap (λ (z : Request). ToBrick z) h.4) h.5 h.6 pre' in
            ap (λ (z : State). z.holder may.message.brick) known.heads ∙ (held ∙ ap (λ (j : ℕ). Some (v.of j)) (sym no));
      }
      by true None read = tt
      by true (Some x) read = λ write.
          let there = sym (read ∙ ap (λ (o : Out). o.version) (went (Some x) true)) in
          is_write i may.message may.request may.at.said may.at.body write
          (λ e. part_stood g (m.brick may.message.brick) may.message.client may.message.no x may.request (is_writer may.request write) e there)
          (λ e. part_healing (m.brick may.message.brick) may.message.client may.message.no x may.request e there)

  message_torn : (i count : ℕ) (version : Option ℕ) → MayTear m i count version → TornIs R plans geometry.n q' g m v f inv (m.said i) version
  message_torn i count version may =
      subst (λ (o : Option Message). TornIs R plans geometry.n q' g m v f inv o version) (sym may.at.said)
      (subst (λ (z : Body). TornBodyIs R plans geometry.n q' g m v f inv may.message z version) (sym may.at.body)
      (by version may.read))
    where
      went : (version : Option ℕ) → torn_out m may.message may.request count version ≡ torn_at (m.brick may.message.brick) (failing_at version) may.request count
      went version = ap (λ (t : Bool). cond t (torn_at (m.brick may.message.brick) (failing_at version) may.request count) (quiet_out (m.brick may.message.brick))) may.at.up

      by : (version : Option ℕ) → version ≡ (torn_out m may.message may.request count version).version → TornBodyIs R plans geometry.n q' g m v f inv may.message (ToBrick may.request) version
      by None read = tt
      by (Some x) read = λ write.
          let there = sym (read ∙ ap (λ (o : Out). o.version) (went (Some x))) in
          is_write i may.message may.request may.at.said may.at.body write
          (λ e. torn_stood g (m.brick may.message.brick) count x may.request (is_writer may.request write) e there)
          (λ e. torn_healing (m.brick may.message.brick) count x may.request e there)

  pub most : geometry.n < quorum geometry + quorum geometry
  most = let h = geometry.majority in omega (arith, h)

  pub enough : quorum geometry ≤ geometry.n
  enough = omega arith

  entry_is : (e : Entry) → MayEnter geometry.n m e → EntryIs R plans geometry.n q' g m v f inv most enough e
  entry_is (Executed i version failed) may = message_is i version failed may
  entry_is (Torn i count version) may = message_torn i count version may
  entry_is e may = tt

  -- so what a turn was given stays by each entry
  pub leads : (e : Entry) → MayEnter geometry.n m e → Runs geometry.n (quorum geometry) (acts g m v e) v.core → Leads f (file_after (of_units unit kk coder) plans geometry.n (quorum geometry) g m v f e)
  leads e may runs = entry_leads R plans geometry.n q' g m v f inv most enough e (entry_is e may) (subst (Runs geometry.n (quorum geometry) (acts g m v e)) (sym known.heads) runs)
