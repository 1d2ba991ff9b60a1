-- The deeds of an entry may come: what data owe and the acts of the entry suffice.
use Rattle.std.proofs.Common.{◌≡◌, ◌⊎◌, ℕ, ◌<◌, Bool, true, false, not, cond, ◌==◌, ◌&&◌, ◌||◌, Option, Some, None, List, [], ◌∷◌, ◌++◌, map, refl, sym, ◌∙◌, ap, subst, arith, inl, inr}
use Rattle.std.specs.Prelude.{nat_lt}
use Rattle.std.proofs.lemmas.Bool.Decides.{nat_tests}
use Rattle.ec_brick.specs.Step.{Out, cut_off}
use Rattle.ec_brick.specs.State.{State as Brick}
use Rattle.ec_history.specs.Run.{Net, out_of, torn_out}
use Rattle.ec_history.specs.Story.{is_done}
use Rattle.ec_wire.specs.declared.entry.Entry.{Entry}
use Rattle.ec_wire.specs.declared.entry.Entry.TheVariants.{Called, Sent, Executed, Heard, Lost, GivenUp, Stopped, Returned, Cut, Died, Yielded, Torn, Answered, Replaced}
use Rattle.ec_wire.specs.declared.message.Body.{Body}
use Rattle.ec_wire.specs.declared.message.Body.TheVariants.{ToBrick, ToClient}
use Rattle.ec_wire.specs.declared.message.Message.{Message}
use Rattle.ec_wire.specs.declared.request.Request.{Request}
use Rattle.ec_law_base.specs.State.{State}
use Rattle.ec_law_ballots.specs.Act.{Act}
use Rattle.ec_law_ballots.specs.Act.Act.{Post, Sink_post, Replace, Stop}
use Rattle.ec_law_ballots.specs.Guard.{Holds, Runs}
use Rattle.ec_law_ballots.specs.Words.{did, met}
use Rattle.ec_law_pieces.specs.Deed.{Deed, Runs as DeedsRun, after as after_deeds, step, HasBase, MayDo}
use Rattle.ec_law_pieces.specs.Deed.Deed.{Read, Intend, Write, Tear, Spoil}
use Rattle.ec_law_pieces.specs.File.{File, Form}
use Rattle.ec_law_net.specs.Turns.{View, acts, acts_executed, acts_locks, acts_of_request, acts_torn, acts_worked, counted, exclusive, turn_of}
use Rattle.ec_law_data.specs.Deeds.{deeds, deeds_answered, deeds_done, deeds_executed, deeds_failed, deeds_of_request, deeds_of_torn, deeds_partly, deeds_sent, deeds_torn, dressed, file_after, is_at_base, is_granted, is_partial, is_post_on, pieces_of, shows}
use Rattle.ec_law_data.specs.Owing.{AllOwe, OwesWrite}
use Rattle.ec_law_data.specs.Reading.{Plans, Reading}
use Rattle.ec_law_data.proofs.Cores.{deeds_both}
use Rattle.ec_attr.specs.declared.kind.Domain.TheVariants.{Inode}
use Rattle.ec_law_data.proofs.Guards.{Easy, acts_plans, easy_both, easy_if, easy_locks, easy_run, easy_sent, easy_worked, is_marking, owe_both, post_run, run_both, sink_run, worked_post}

module _ {P V C U S : Type 0} (form : Form P V C U S) (n k : ℕ) (f : File P V C U S) where
  -- these may come if they owe nothing, and leave plans and heads
  pub record Settled (ds : List (Deed P V C U S)) : Type 0 where
    pub run : AllOwe form n k ds f → DeedsRun form n k ds f
    pub planned : (after_deeds form n k ds f).planned ≡ f.planned
    pub writes : (after_deeds form n k ds f).writes ≡ f.writes
    pub heads : (after_deeds form n k ds f).heads ≡ f.heads
    pub version : (after_deeds form n k ds f).flat.version ≡ f.flat.version

  pub settled_none : Settled []
  settled_none = record { run = λ o. refl; planned = refl; writes = refl; heads = refl; version = refl }

  settled_if : (t : Bool) (xs : List (Deed P V C U S)) → (t ≡ true → Settled xs) → Settled (cond t xs [])
  settled_if true xs h = h refl
  settled_if false xs h = settled_none

  -- What the conduct gives of a data request to a brick that did the turn's PreOp on an unmarked record, before its PostOp.
  pub record Ready (a b : ℕ) : Type 0 where
    pub holds : Holds f.heads a b
    pub base : HasBase form n k f a b
    pub planned : f.planned a ≡ true
    pub met : met f.heads a b ≡ true

  abbrev pub WriteKnown : ℕ → ℕ → Type 0
  WriteKnown a b = f.heads.pre a b ≡ true → did f.heads a b ≡ false → Ready a b

  settled_write : (a b : ℕ) (places : P → Bool) → WriteKnown a b → Settled (Write a b places ∷ [])
  settled_write a b places known = record { run = λ o. (by o.0 (f.heads.pre a b) refl, refl); planned = refl; writes = refl; heads = refl; version = refl }
    where
      by : OwesWrite form n k f a b places (Write a b places) → (t : Bool) → f.heads.pre a b ≡ t → MayDo form n k f (Write a b places)
      by o true e = let r = known e o.before in (r.holds, r.base, r.planned, r.met, o.before, o.covered)
      by o false e = o.sink e

  settled_tear : (a b : ℕ) (places : P → Bool) (pieces : P → C) → WriteKnown a b → Settled (Tear a b places pieces ∷ [])
  settled_tear a b places pieces known = record { run = λ o. (by o.0 (f.heads.pre a b) refl, refl); planned = refl; writes = refl; heads = refl; version = refl }
    where
      by : OwesWrite form n k f a b places (Tear a b places pieces) → (t : Bool) → f.heads.pre a b ≡ t → MayDo form n k f (Tear a b places pieces)
      by o true e = let r = known e o.before in (r.holds, r.base, r.planned, r.met, o.before, o.covered)
      by o false e = o.sink e

  settled_spoil : (b : ℕ) (places : P → Bool) (pieces : P → C) → Settled (Spoil b places pieces ∷ [])
  settled_spoil b places pieces = record { run = λ o. (o.0, refl); planned = refl; writes = refl; heads = refl; version = refl }

  settled_either : (t : Bool) (x y : Deed P V C U S) → (t ≡ true → Settled (x ∷ [])) → Settled (y ∷ []) → Settled (cond t x y ∷ [])
  settled_either true x y h i = h refl
  settled_either false x y h i = i

  settled_read : (a b : ℕ) (places : P → Bool) → is_at_base f.heads a b ≡ true → Settled (Read a b places ∷ [])
  settled_read a b places e = record { run = λ o. (((there f.heads.present f.heads.marked e, version e, number e), unmarked e), refl); planned = refl; writes = refl; heads = refl; version = refl }
    where
      there : (present marked : ℕ → Bool) → (present b && not (marked b) && (f.heads.version b == (f.heads.ballot a).base) && nat_lt 0 (f.heads.ballot a).number) ≡ true → present b ≡ true
      there present marked e = grind (arith, nat_tests)

      unmarked : (f.heads.present b && not (f.heads.marked b) && (f.heads.version b == (f.heads.ballot a).base) && nat_lt 0 (f.heads.ballot a).number) ≡ true → f.heads.marked b ≡ false
      unmarked e = grind (arith, nat_tests)

      version : (f.heads.present b && not (f.heads.marked b) && (f.heads.version b == (f.heads.ballot a).base) && nat_lt 0 (f.heads.ballot a).number) ≡ true → f.heads.version b ≡ (f.heads.ballot a).base
      version e = grind (arith, nat_tests)

      number : (f.heads.present b && not (f.heads.marked b) && (f.heads.version b == (f.heads.ballot a).base) && nat_lt 0 (f.heads.ballot a).number) ≡ true → 0 < (f.heads.ballot a).number
      number e = grind (arith, nat_tests)

module _ {P V C U S : Type 0} (R : Reading P V C U S) (plans : Plans P V U S) (n k g : ℕ) (m : Net) (v : View) (f : File P V C U S) where
  settled_partly : (a b : ℕ) (q : Request) (old now : Brick) → (is_granted old q ≡ true → WriteKnown R.form n k f a b) → Settled R.form n k f (deeds_partly R plans n k g a b q old now)
  settled_partly a b q old now known = settled_either R.form n k f (is_granted old q) _ _ (λ e. settled_tear R.form n k f a b (R.writes g q) (pieces_of R plans n k g (now.records g)) (known e)) (settled_spoil R.form n k f b (R.writes g q) (pieces_of R plans n k g (now.records g)))

  settled_done : (a b : ℕ) (q : Request) (old now : Brick) → (is_granted old q ≡ true → WriteKnown R.form n k f a b) → Settled R.form n k f (deeds_done R plans n k g a b q old now)
  settled_done a b q old now known = settled_either R.form n k f (is_granted old q) _ _ (λ e. settled_write R.form n k f a b (R.writes g q) (known e)) (settled_spoil R.form n k f b (R.writes g q) (pieces_of R plans n k g (now.records g)))

  -- of a request in whose work the store failed, or that was torn
  abbrev pub PartKnown : ℕ → ℕ → Request → Option ℕ → Brick → Type 0
  PartKnown a b q None old = Unit {0}
  PartKnown a b q (Some version) old = R.is_write g q ≡ true → is_granted old q ≡ true → WriteKnown R.form n k f a b

  settled_failed : (a b : ℕ) (q : Request) (version : Option ℕ) (old now : Brick) → PartKnown a b q version old → Settled R.form n k f (deeds_failed R plans n k g a b q version old now)
  settled_failed a b q None old now known = settled_none R.form n k f
  settled_failed a b q (Some version) old now known = settled_if R.form n k f (R.is_write g q && is_partial q) _ (λ e. settled_partly a b q old now (known (first (R.is_write g q) (is_partial q) e)))
    where
      first : (t u : Bool) → (t && u) ≡ true → t ≡ true
      first true u e = refl
      first false u e = absurd (cc)

  -- of one that was answered
  abbrev pub DoneKnown : ℕ → ℕ → Request → Brick → Out → Type 0
  DoneKnown a b q old out = R.is_write g q ≡ true → is_granted old q ≡ true → is_done out.says ≡ true → WriteKnown R.form n k f a b

  settled_answered : (a b : ℕ) (q : Request) (old : Brick) (out : Out) → DoneKnown a b q old out → Settled R.form n k f (deeds_answered R plans n k g f a b q old out)
  settled_answered a b q old out known = by (is_done out.says) refl
    where
      last : (t u : Bool) → (t && u) ≡ true → u ≡ true
      last true u e = e
      last false u e = absurd (cc)

      by : (t : Bool) → is_done out.says ≡ t → Settled R.form n k f (cond t (cond (R.is_write g q) (deeds_done R plans n k g a b q old out.brick) []) (cond (shows out.says && R.is_read g q && is_at_base f.heads a b) (Read a b (R.reads g q) ∷ []) []))
      by true d = settled_if R.form n k f (R.is_write g q) _ (λ e. settled_done a b q old out.brick (λ granted. known e granted d))
      by false d = settled_if R.form n k f (shows out.says && R.is_read g q && is_at_base f.heads a b) _ (λ e. settled_read R.form n k f a b (R.reads g q) (last (shows out.says && R.is_read g q) (is_at_base f.heads a b) e))

  abbrev pub BodyWritten : Message → Body → Option ℕ → Bool → Type 0
  BodyWritten msg (ToBrick q) version true = PartKnown (v.of msg.no) msg.brick q version (m.brick msg.brick)
  BodyWritten msg (ToBrick q) version false = DoneKnown (v.of msg.no) msg.brick q (m.brick msg.brick) (out_of m msg q version false)
  BodyWritten msg (ToClient re reply) version failed = Unit {0}

  abbrev pub MessageWritten : Option Message → Option ℕ → Bool → Type 0
  MessageWritten None version failed = Unit {0}
  MessageWritten (Some msg) version failed = BodyWritten msg msg.body version failed

  pub settled_executed : (o : Option Message) (version : Option ℕ) (failed : Bool) → MessageWritten o version failed → Settled R.form n k f (deeds_executed R plans n k g m v f o version failed)
  settled_executed None version failed known = settled_none R.form n k f
  settled_executed (Some msg) version failed known = body msg.body failed known
    where
      body : (z : Body) (failed : Bool) → BodyWritten msg z version failed → Settled R.form n k f (deeds_of_request R plans n k g m v f msg z version failed)
      body (ToBrick q) true known = settled_failed (v.of msg.no) msg.brick q version (m.brick msg.brick) (out_of m msg q version true).brick known
      body (ToBrick q) false known = settled_answered (v.of msg.no) msg.brick q (m.brick msg.brick) (out_of m msg q version false) known
      body (ToClient re reply) failed known = settled_none R.form n k f

  abbrev pub BodyTorn : Message → Body → Option ℕ → Type 0
  BodyTorn msg (ToBrick q) version = PartKnown (v.of msg.no) msg.brick q version (m.brick msg.brick)
  BodyTorn msg (ToClient re reply) version = Unit {0}

  abbrev pub MessageTorn : Option Message → Option ℕ → Type 0
  MessageTorn None version = Unit {0}
  MessageTorn (Some msg) version = BodyTorn msg msg.body version

  pub settled_torn : (o : Option Message) (count : ℕ) (version : Option ℕ) → MessageTorn o version → Settled R.form n k f (deeds_torn R plans n k g m v o count version)
  settled_torn None count version known = settled_none R.form n k f
  settled_torn (Some msg) count version known = body msg.body known
    where
      body : (z : Body) → BodyTorn msg z version → Settled R.form n k f (deeds_of_torn R plans n k g m v msg z count version)
      body (ToBrick q) known = settled_failed (v.of msg.no) msg.brick q version (m.brick msg.brick) (torn_out m msg q count version).brick known
      body (ToClient re reply) known = settled_none R.form n k f

  -- ## Entries

  abbrev pub Come : List (Deed P V C U S) → Type 0
  Come ds = AllOwe R.form n k ds f → DeedsRun R.form n k ds f

  -- data, and then acts that are easy
  easily : (ds : List (Deed P V C U S)) (es : List Act) → Settled R.form n k f ds → Easy es → Runs n k es f.heads → Come (ds ++ map (dressed R plans n k g) es)
  easily ds es s easy runs owes =
      let o = owe_both R.form n k ds (map (dressed R plans n k g) es) f owes in
      run_both R.form n k ds (map (dressed R plans n k g) es) f (s.run o.0) (easy_run R plans n k g es (after_deeds R.form n k ds f) easy (subst (Runs n k es) (sym s.heads) runs) o.1)

  -- data, and a PostOp of a turn that has planned and met the brick
  by_post : (ds : List (Deed P V C U S)) (es rest : List Act) (a b : ℕ) → Settled R.form n k f ds → Easy rest → (es ≡ Post a b ∷ rest) ⊎ (es ≡ Sink_post a b ∷ rest) → f.planned a ≡ true → met f.heads a b ≡ true → Runs n k es f.heads → Come (ds ++ map (dressed R plans n k g) es)
  by_post ds es rest a b s easy posts planned met' runs owes =
      let o = owe_both R.form n k ds (map (dressed R plans n k g) es) f owes in
      run_both R.form n k ds (map (dressed R plans n k g) es) f (s.run o.0) (by posts (subst (Runs n k es) (sym s.heads) runs) o.1)
    where
      f1 : File P V C U S
      f1 = after_deeds R.form n k ds f

      by : (es ≡ Post a b ∷ rest) ⊎ (es ≡ Sink_post a b ∷ rest) → Runs n k es (after_deeds R.form n k ds f).heads → AllOwe R.form n k (map (dressed R plans n k g) es) (after_deeds R.form n k ds f) → DeedsRun R.form n k (map (dressed R plans n k g) es) (after_deeds R.form n k ds f)
      by (inl e) runs owes = subst (λ (z : List Act). DeedsRun R.form n k (map (dressed R plans n k g) z) (after_deeds R.form n k ds f)) (sym e) (post_run R plans n k g a b rest (after_deeds R.form n k ds f) easy (ap (λ (z : ℕ → Bool). z a) s.planned ∙ planned) (ap (λ (z : State). met z a b) s.heads ∙ met') (subst (λ (z : List Act). Runs n k z (after_deeds R.form n k ds f).heads) e runs) (subst (λ (z : List Act). AllOwe R.form n k (map (dressed R plans n k g) z) (after_deeds R.form n k ds f)) e owes))
      by (inr e) runs owes = subst (λ (z : List Act). DeedsRun R.form n k (map (dressed R plans n k g) z) (after_deeds R.form n k ds f)) (sym e) (sink_run R plans n k g a b rest (after_deeds R.form n k ds f) easy (ap (λ (z : ℕ → Bool). z a) s.planned ∙ planned) (ap (λ (z : State). met z a b) s.heads ∙ met') (subst (λ (z : List Act). Runs n k z (after_deeds R.form n k ds f).heads) e runs) (subst (λ (z : List Act). AllOwe R.form n k (map (dressed R plans n k g) z) (after_deeds R.form n k ds f)) e owes))

  -- What is known of a message that a brick executes: no heal's Mark, and a PostOp is of a turn that has planned and met the brick.
  abbrev pub PostKnown : Message → Body → Type 0
  PostKnown msg (ToBrick q) = (is_marking g q ≡ false) × (is_post_on g q ≡ true → (f.planned (v.of msg.no) ≡ true) × (met f.heads (v.of msg.no) msg.brick ≡ true))
  PostKnown msg (ToClient re reply) = Unit {0}

  abbrev pub MessageKnown : Option Message → Type 0
  MessageKnown None = Unit {0}
  MessageKnown (Some msg) = PostKnown msg msg.body

  executed_come : (o : Option Message) (version : Option ℕ) (failed : Bool) → MessageKnown o → MessageWritten o version failed → Runs n k (acts_executed g m v o version failed) f.heads → Come (deeds_executed R plans n k g m v f o version failed ++ map (dressed R plans n k g) (acts_executed g m v o version failed))
  executed_come None version failed known written runs = easily [] [] (settled_none R.form n k f) tt runs
  executed_come (Some msg) version failed known written runs = body msg.body known runs (settled_executed (Some msg) version failed written)
    where
      body : (z : Body) → PostKnown msg z → Runs n k (acts_of_request g m v msg z version failed) f.heads → Settled R.form n k f (deeds_executed R plans n k g m v f (Some msg) version failed) → Come (deeds_executed R plans n k g m v f (Some msg) version failed ++ map (dressed R plans n k g) (acts_of_request g m v msg z version failed))
      body (ToClient re reply) known runs s = easily _ [] s tt runs
      body (ToBrick q) known runs s = by ((is_done (out_of m msg q version failed).says && is_post_on g q)) refl
        where
          first : (t u : Bool) → (t && u) ≡ true → t ≡ true
          first true u e = refl
          first false u e = absurd (cc)

          second : (t u : Bool) → (t && u) ≡ true → u ≡ true
          second true u e = e
          second false u e = absurd (cc)

          posted : ((acts_worked g (v.of msg.no) msg.brick (counted v.core (v.of msg.no) (exclusive g Inode (m.brick msg.brick).asks)) q (out_of m msg q version failed).says) ≡ Post (v.of msg.no) msg.brick ∷ []) ⊎ ((acts_worked g (v.of msg.no) msg.brick (counted v.core (v.of msg.no) (exclusive g Inode (m.brick msg.brick).asks)) q (out_of m msg q version failed).says) ≡ Sink_post (v.of msg.no) msg.brick ∷ []) → ((acts_worked g (v.of msg.no) msg.brick (counted v.core (v.of msg.no) (exclusive g Inode (m.brick msg.brick).asks)) q (out_of m msg q version failed).says) ++ (acts_locks g m v msg.brick (m.brick msg.brick).asks (out_of m msg q version failed).brick.asks) ≡ Post (v.of msg.no) msg.brick ∷ (acts_locks g m v msg.brick (m.brick msg.brick).asks (out_of m msg q version failed).brick.asks)) ⊎ ((acts_worked g (v.of msg.no) msg.brick (counted v.core (v.of msg.no) (exclusive g Inode (m.brick msg.brick).asks)) q (out_of m msg q version failed).says) ++ (acts_locks g m v msg.brick (m.brick msg.brick).asks (out_of m msg q version failed).brick.asks) ≡ Sink_post (v.of msg.no) msg.brick ∷ (acts_locks g m v msg.brick (m.brick msg.brick).asks (out_of m msg q version failed).brick.asks))
          posted (inl e) = inl (ap (λ (z : List Act). z ++ (acts_locks g m v msg.brick (m.brick msg.brick).asks (out_of m msg q version failed).brick.asks)) e)
          posted (inr e) = inr (ap (λ (z : List Act). z ++ (acts_locks g m v msg.brick (m.brick msg.brick).asks (out_of m msg q version failed).brick.asks)) e)

          by : (t : Bool) → (is_done (out_of m msg q version failed).says && is_post_on g q) ≡ t → Come (deeds_executed R plans n k g m v f (Some msg) version failed ++ map (dressed R plans n k g) ((acts_worked g (v.of msg.no) msg.brick (counted v.core (v.of msg.no) (exclusive g Inode (m.brick msg.brick).asks)) q (out_of m msg q version failed).says) ++ (acts_locks g m v msg.brick (m.brick msg.brick).asks (out_of m msg q version failed).brick.asks)))
          by false e = easily _ ((acts_worked g (v.of msg.no) msg.brick (counted v.core (v.of msg.no) (exclusive g Inode (m.brick msg.brick).asks)) q (out_of m msg q version failed).says) ++ (acts_locks g m v msg.brick (m.brick msg.brick).asks (out_of m msg q version failed).brick.asks)) s (easy_both (acts_worked g (v.of msg.no) msg.brick (counted v.core (v.of msg.no) (exclusive g Inode (m.brick msg.brick).asks)) q (out_of m msg q version failed).says) (acts_locks g m v msg.brick (m.brick msg.brick).asks (out_of m msg q version failed).brick.asks) (easy_worked g (v.of msg.no) msg.brick _ q (out_of m msg q version failed).says e known.0) (easy_locks g m v msg.brick (m.brick msg.brick).asks (out_of m msg q version failed).brick.asks)) runs
          by true e = let h = known.1 (second (is_done (out_of m msg q version failed).says) (is_post_on g q) e) in by_post _ ((acts_worked g (v.of msg.no) msg.brick (counted v.core (v.of msg.no) (exclusive g Inode (m.brick msg.brick).asks)) q (out_of m msg q version failed).says) ++ (acts_locks g m v msg.brick (m.brick msg.brick).asks (out_of m msg q version failed).brick.asks)) (acts_locks g m v msg.brick (m.brick msg.brick).asks (out_of m msg q version failed).brick.asks) (v.of msg.no) msg.brick s (easy_locks g m v msg.brick (m.brick msg.brick).asks (out_of m msg q version failed).brick.asks) (posted (worked_post g (v.of msg.no) msg.brick _ q (out_of m msg q version failed).says (first (is_done (out_of m msg q version failed).says) (is_post_on g q) e) (second (is_done (out_of m msg q version failed).says) (is_post_on g q) e))) h.0 h.1 runs

  torn_come : (o : Option Message) (count : ℕ) (version : Option ℕ) → MessageTorn o version → Runs n k (acts_torn o) f.heads → Come (deeds_torn R plans n k g m v o count version ++ map (dressed R plans n k g) (acts_torn o))
  torn_come None count version known runs = easily [] [] (settled_none R.form n k f) tt runs
  torn_come (Some msg) count version known runs = easily (deeds_torn R plans n k g m v (Some msg) count version) (Stop msg.brick ∷ []) (settled_torn (Some msg) count version known) (refl, tt) runs

  -- What is known of a message that goes out: a turn that plans has a ballot, and is none of before.
  abbrev pub PlanKnown : Message → Body → Type 0
  PlanKnown msg (ToBrick q) = (R.is_write g q || is_post_on g q) ≡ true → (0 < (f.heads.ballot (turn_of g v msg)).number) × (f.heads.old (turn_of g v msg) ≡ false)
  PlanKnown msg (ToClient re reply) = Unit {0}

  sent_come : (msg : Message) → f.writes (f.heads.call (turn_of g v msg)) ≡ f.planned (turn_of g v msg) → PlanKnown msg msg.body → Runs n k (acts g m v (Sent msg)) f.heads → Come (deeds R plans n k g m v f (Sent msg))
  sent_come msg own known runs = body msg.body known
    where
      plain : Easy (acts g m v (Sent msg))
      plain = easy_sent g v.core (turn_of g v msg) msg.body

      body : (z : Body) → PlanKnown msg z → Come (deeds_sent R plans n k g f (turn_of g v msg) z ++ map (dressed R plans n k g) (acts g m v (Sent msg)))
      body (ToClient re reply) known = easily [] (acts g m v (Sent msg)) (settled_none R.form n k f) plain runs
      body (ToBrick q) known = by (R.is_write g q || is_post_on g q) (f.planned (turn_of g v msg)) refl refl
        where
          by : (t u : Bool) → (R.is_write g q || is_post_on g q) ≡ t → f.planned (turn_of g v msg) ≡ u → Come (cond (t && not u) (Intend (turn_of g v msg) (plans.plan (turn_of g v msg)) ∷ []) [] ++ map (dressed R plans n k g) (acts g m v (Sent msg)))
          by false u e h = easily [] (acts g m v (Sent msg)) (settled_none R.form n k f) plain runs
          by true true e h = easily [] (acts g m v (Sent msg)) (settled_none R.form n k f) plain runs
          by true false e h = λ owes. (((known e).0, (known e).1, h, own ∙ h, owes.0), easy_run R plans n k g (acts g m v (Sent msg)) (step R.form n k f (Intend (turn_of g v msg) (plans.plan (turn_of g v msg)))) plain runs owes.1)

  replaced_easy : (t : Bool) (b : ℕ) → Easy (cond t (Replace b ∷ []) [])
  replaced_easy t b = easy_if t (Replace b ∷ []) [] (refl, tt) tt

  -- what an entry needs of messages
  abbrev pub EntryKnown : Entry → Type 0
  EntryKnown (Sent msg) = (f.writes (f.heads.call (turn_of g v msg)) ≡ f.planned (turn_of g v msg)) × PlanKnown msg msg.body
  EntryKnown (Executed i version failed) = MessageKnown (m.said i) × MessageWritten (m.said i) version failed
  EntryKnown (Torn i count version) = MessageTorn (m.said i) version
  EntryKnown e = Unit {0}

  pub entry_come : (e : Entry) → EntryKnown e → Runs n k (acts g m v e) f.heads → Come (deeds R plans n k g m v f e)
  entry_come (Called a client op) known runs = easily [] [] (settled_none R.form n k f) tt runs
  entry_come (Sent msg) known runs = sent_come msg known.0 known.1 runs
  entry_come (Executed i version failed) known runs = executed_come (m.said i) version failed known.0 known.1 runs
  entry_come (Heard i) known runs = easily [] [] (settled_none R.form n k f) tt runs
  entry_come (Lost i) known runs = easily [] [] (settled_none R.form n k f) tt runs
  entry_come (GivenUp client brick i) known runs = easily [] [] (settled_none R.form n k f) tt runs
  entry_come (Stopped b) known runs = easily [] (Stop b ∷ []) (settled_none R.form n k f) (refl, tt) runs
  entry_come (Returned b) known runs = easily [] [] (settled_none R.form n k f) tt runs
  entry_come (Cut client b) known runs = easily [] (acts g m v (Cut client b)) (settled_none R.form n k f) (easy_locks g m v b (m.brick b).asks (cut_off (m.brick b) client).brick.asks) runs
  entry_come (Died client) known runs = easily [] [] (settled_none R.form n k f) tt runs
  entry_come (Yielded client) known runs = easily [] [] (settled_none R.form n k f) tt runs
  entry_come (Torn i count version) known runs = torn_come (m.said i) count version known runs
  entry_come (Answered a answer) known runs = easily [] [] (settled_none R.form n k f) tt runs
  entry_come (Replaced b removed all) known runs = easily [] (acts g m v (Replaced b removed all)) (settled_none R.form n k f) (replaced_easy _ b) runs

  -- ## What becomes of plans

  -- plans of turns stay, and are those of calls as long as each turn is a call of its own
  pub record Planned (t : File P V C U S) : Type 0 where
    pub stay : (a : ℕ) → f.planned a ≡ true → t.planned a ≡ true
    pub own : ((a : ℕ) → f.heads.call a ≡ a) → ((a : ℕ) → f.writes a ≡ f.planned a) → (a : ℕ) → t.writes a ≡ t.planned a
    pub call : t.heads.call ≡ f.heads.call

  settled_plans : (ds : List (Deed P V C U S)) (es : List Act) → Settled R.form n k f ds → Planned (after_deeds R.form n k (ds ++ map (dressed R plans n k g) es) f)
  settled_plans ds es s =
      let o = acts_plans R plans n k g es (after_deeds R.form n k ds f) in
      let b = deeds_both R.form n k ds (map (dressed R plans n k g) es) f in
      let planned = ap (λ (z : File P V C U S). z.planned) b ∙ (o.0 ∙ s.planned) in
      record {
        stay = λ a h. ap (λ (z : ℕ → Bool). z a) planned ∙ h;
        own = λ call own a. ap (λ (z : File P V C U S). z.writes a) b ∙ (ap (λ (z : ℕ → Bool). z a) (o.1 ∙ s.writes) ∙ (own a ∙ sym (ap (λ (z : ℕ → Bool). z a) planned)));
        call = ap (λ (z : File P V C U S). z.heads.call) b ∙ (o.2 ∙ ap (λ (z : State). z.call) s.heads);
      }

  intend_plans : (a : ℕ) (es : List Act) → Planned (after_deeds R.form n k (Intend a (plans.plan a) ∷ map (dressed R plans n k g) es) f)
  intend_plans a es =
      let o = acts_plans R plans n k g es (step R.form n k f (Intend a (plans.plan a))) in
      record {
        stay = λ c h. ap (λ (z : ℕ → Bool). z c) o.0 ∙ grown c h (c == a);
        own = λ call own c. ap (λ (z : ℕ → Bool). z c) o.1 ∙ (ap (λ (x : ℕ). cond (c == x) true (f.writes c)) (call a) ∙ (ap (λ (t : Bool). cond (c == a) true t) (own c) ∙ sym (ap (λ (z : ℕ → Bool). z c) o.0)));
        call = o.2;
      }
    where
      grown : (c : ℕ) → f.planned c ≡ true → (t : Bool) → cond t true (f.planned c) ≡ true
      grown c h true = refl
      grown c h false = h

  planned_here : (a : ℕ) (es : List Act) → (after_deeds R.form n k (Intend a (plans.plan a) ∷ map (dressed R plans n k g) es) f).planned a ≡ true
  planned_here a es = ap (λ (z : ℕ → Bool). z a) (acts_plans R plans n k g es (step R.form n k f (Intend a (plans.plan a)))).0 ∙ ap (λ (t : Bool). cond t true (f.planned a)) (same a)
    where
      same : (a : ℕ) → (a == a) ≡ true
      same a = grind (arith, nat_tests)

  sent_plans : (msg : Message) → Planned (file_after R plans n k g m v f (Sent msg)) × ((q : Request) → msg.body ≡ ToBrick q → (R.is_write g q || is_post_on g q) ≡ true → (file_after R plans n k g m v f (Sent msg)).planned (turn_of g v msg) ≡ true)
  sent_plans msg = body msg.body refl
    where
      body : (z : Body) → msg.body ≡ z → Planned (after_deeds R.form n k (deeds_sent R plans n k g f (turn_of g v msg) z ++ map (dressed R plans n k g) (acts g m v (Sent msg))) f) × ((q : Request) → msg.body ≡ ToBrick q → (R.is_write g q || is_post_on g q) ≡ true → (after_deeds R.form n k (deeds_sent R plans n k g f (turn_of g v msg) z ++ map (dressed R plans n k g) (acts g m v (Sent msg))) f).planned (turn_of g v msg) ≡ true)
      body (ToClient re reply) is = (settled_plans [] (acts g m v (Sent msg)) (settled_none R.form n k f), λ q h e. absurd (let y = sym is ∙ h in cc))
      body (ToBrick r) is = by (R.is_write g r || is_post_on g r) (f.planned (turn_of g v msg)) refl refl
        where
          request_is : (q : Request) → ToBrick r ≡ ToBrick q → r ≡ q
          request_is q e = cc

          by : (t u : Bool) → (R.is_write g r || is_post_on g r) ≡ t → f.planned (turn_of g v msg) ≡ u → Planned (after_deeds R.form n k (cond (t && not u) (Intend (turn_of g v msg) (plans.plan (turn_of g v msg)) ∷ []) [] ++ map (dressed R plans n k g) (acts g m v (Sent msg))) f) × ((q : Request) → msg.body ≡ ToBrick q → (R.is_write g q || is_post_on g q) ≡ true → (after_deeds R.form n k (cond (t && not u) (Intend (turn_of g v msg) (plans.plan (turn_of g v msg)) ∷ []) [] ++ map (dressed R plans n k g) (acts g m v (Sent msg))) f).planned (turn_of g v msg) ≡ true)
          by false u e h = (settled_plans [] (acts g m v (Sent msg)) (settled_none R.form n k f), λ q b w. absurd (let y = sym e ∙ (ap (λ (x : Request). R.is_write g x || is_post_on g x) (request_is q (sym is ∙ b)) ∙ w) in cc))
          by true true e h = (settled_plans [] (acts g m v (Sent msg)) (settled_none R.form n k f), λ q b w. (settled_plans [] (acts g m v (Sent msg)) (settled_none R.form n k f)).stay (turn_of g v msg) h)
          by true false e h = (intend_plans (turn_of g v msg) (acts g m v (Sent msg)), λ q b w. planned_here (turn_of g v msg) (acts g m v (Sent msg)))

  pub entry_plans : (e : Entry) → EntryKnown e → Planned (file_after R plans n k g m v f e)
  entry_plans (Sent msg) known = (sent_plans msg).0
  entry_plans (Executed i version failed) known = settled_plans (deeds_executed R plans n k g m v f (m.said i) version failed) (acts g m v (Executed i version failed)) (settled_executed (m.said i) version failed known.1)
  entry_plans (Torn i count version) known = settled_plans (deeds_torn R plans n k g m v (m.said i) count version) (acts g m v (Torn i count version)) (settled_torn (m.said i) count version known)
  entry_plans (Called a client op) known = settled_plans [] [] (settled_none R.form n k f)
  entry_plans (Heard i) known = settled_plans [] [] (settled_none R.form n k f)
  entry_plans (Lost i) known = settled_plans [] [] (settled_none R.form n k f)
  entry_plans (GivenUp client brick i) known = settled_plans [] [] (settled_none R.form n k f)
  entry_plans (Stopped b) known = settled_plans [] (acts g m v (Stopped b)) (settled_none R.form n k f)
  entry_plans (Returned b) known = settled_plans [] [] (settled_none R.form n k f)
  entry_plans (Cut client b) known = settled_plans [] (acts g m v (Cut client b)) (settled_none R.form n k f)
  entry_plans (Died client) known = settled_plans [] [] (settled_none R.form n k f)
  entry_plans (Yielded client) known = settled_plans [] [] (settled_none R.form n k f)
  entry_plans (Answered a answer) known = settled_plans [] [] (settled_none R.form n k f)
  entry_plans (Replaced b removed all) known = settled_plans [] (acts g m v (Replaced b removed all)) (settled_none R.form n k f)

  pub newly_planned : (msg : Message) (q : Request) → msg.body ≡ ToBrick q → (R.is_write g q || is_post_on g q) ≡ true → (file_after R plans n k g m v f (Sent msg)).planned (turn_of g v msg) ≡ true
  newly_planned msg q b w = (sent_plans msg).1 q b w
