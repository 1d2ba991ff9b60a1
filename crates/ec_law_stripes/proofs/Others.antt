-- What the deeds of an entry owe beside those of data requests and PostOps: the Takes and Creates shapes, a plan that it is one, and
-- of copies there are none.
use Rattle.std.proofs.Common.{◌≡◌, ◌<◌, ℕ, Bool, true, false, not, cond, ◌&&◌, ◌||◌, Option, Some, None, List, [], ◌∷◌, ◌++◌, map, refl, sym, ◌∙◌, ap, subst, inl}
use Rattle.ec_attr.specs.declared.geometry.Geometry.{Geometry}
use Rattle.ec_attr.specs.declared.gfid.Gfid.{Gfid}
use Rattle.ec_attr.specs.declared.kind.Domain.TheVariants.{Heal}
use Rattle.ec_attr.specs.declared.kind.LockKind.TheVariants.{Exclusive}
use Rattle.ec_locks.specs.Table.{holds}
use Rattle.ec_brick.specs.Meets.{failing_at}
use Rattle.ec_brick.specs.State.{State as Brick}
use Rattle.ec_brick.specs.Step.{Out, executed as executed_at, quiet as quiet_out, torn_off as torn_at}
use Rattle.ec_conduct.specs.Conduct.{named_grant}
use Rattle.ec_conduct.specs.Given.{quorum}
use Rattle.ec_history.specs.IsRun.{May as MayEnter, MayExecute, MayTear}
use Rattle.ec_history.specs.Run.{Net, failing, out_of, torn_out}
use Rattle.ec_history.specs.Story.{is_done}
use Rattle.ec_wire.specs.declared.entry.Entry.{Entry}
use Rattle.ec_wire.specs.declared.entry.Entry.TheVariants.{Executed, Sent, Torn}
use Rattle.ec_wire.specs.declared.message.Body.{Body}
use Rattle.ec_wire.specs.declared.message.Body.TheVariants.{ToBrick, ToClient}
use Rattle.ec_wire.specs.declared.message.Message.{Message}
use Rattle.ec_wire.specs.declared.request.Request.{Request}
use Rattle.ec_wire.specs.declared.request.Request.TheVariants.{SetLength, WriteChunks}
use Rattle.ec_law_ballots.specs.Act.{Act}
use Rattle.ec_law_ballots.specs.Act.Act.{See, Choose, Choose_kept, Post, Sink_post, Mark, Unmark, Make}
use Rattle.ec_law_pieces.specs.Deed.{Deed, IsPlan, after as after_deeds, step}
use Rattle.ec_law_pieces.specs.Deed.Deed.{Intend, Read, Spoil, Tear, Write}
use Rattle.ec_law_pieces.specs.File.{File}
use Rattle.ec_law_net.specs.Grants.{LocksStand}
use Rattle.ec_law_net.specs.Link.{Linked}
use Rattle.ec_law_net.specs.Turns.{View, acts, turn_of}
use Rattle.ec_law_turns.specs.Sound.{Names}
use Rattle.ec_law_turns.proofs.Basics.{equal, some_is}
use Rattle.ec_law_data.specs.Deeds.{data_deeds, deeds, deeds_answered, deeds_done, deeds_executed, deeds_failed, deeds_of_request, deeds_of_torn, deeds_partly, deeds_sent, deeds_torn, dressed, is_at_base, is_granted, is_partial, is_post_on, pieces_of, shows}
use Rattle.ec_law_data.specs.Forms.{Coder, Piece, Shape}
use Rattle.ec_law_data.specs.Link.{IsWriter}
use Rattle.ec_law_data.specs.Reading.{Plans, Reading}
use Rattle.ec_law_reads.specs.Units.{of_units}
use Rattle.ec_law_reads.proofs.Fences.{GoesHealing, done_healing, no_heal_grant, part_healing, torn_healing}
use Rattle.ec_law_reads.proofs.Leading.{IsBeside}
use Rattle.ec_law_shapes.specs.Fitting.{AllOweShape, OwesShape}
use Rattle.ec_law_writes.specs.Owing.{AllOf, OwesElse}

first_true : (t u : Bool) → (t && u) ≡ true → t ≡ true
first_true true u e = refl
first_true false u e = absurd (cc)

module _ {P V C U S : Type 0} (R : Reading P V C U S) (plans : Plans P V U S) (n k g : ℕ) where
  abbrev pub Else : List (Deed P V C U S) → File P V C U S → Type 0
  Else ds f = AllOf R.form n k (OwesElse R.form n k) ds f

  pub both_else : (xs ys : List (Deed P V C U S)) (f : File P V C U S) → Else xs f → Else ys (after_deeds R.form n k xs f) → Else (xs ++ ys) f
  both_else [] ys f h i = i
  both_else (x ∷ xs) ys f h i = (h.0, both_else xs ys (step R.form n k f x) h.1 i)

  last_shapes : (xs ys : List (Deed P V C U S)) (f : File P V C U S) → AllOweShape R.form n k (xs ++ ys) f → AllOweShape R.form n k ys (after_deeds R.form n k xs f)
  last_shapes [] ys f h = h
  last_shapes (x ∷ xs) ys f h = last_shapes xs ys (step R.form n k f x) h.1

  act_else : (e : Act) (f : File P V C U S) → OwesShape R.form n k f (dressed R plans n k g e) → OwesElse R.form n k f (dressed R plans n k g e)
  act_else (See a b) f h = tt
  act_else (Choose a p) f h = h
  act_else (Choose_kept x a p) f h = tt
  act_else (Post a b) f h = tt
  act_else (Sink_post a b) f h = tt
  act_else (Mark a b) f h = tt
  act_else (Unmark a b) f h = tt
  act_else (Make b) f h = h
  act_else e f h = tt

  acts_else : (es : List Act) (f : File P V C U S) → AllOweShape R.form n k (map (dressed R plans n k g) es) f → Else (map (dressed R plans n k g) es) f
  acts_else [] f h = tt
  acts_else (e ∷ es) f h = (act_else e f h.0, acts_else es (step R.form n k f (dressed R plans n k g e)) h.1)

  -- data, and then acts
  pub then_acts : (ds : List (Deed P V C U S)) (es : List Act) (f : File P V C U S) → Else ds f → AllOweShape R.form n k (ds ++ map (dressed R plans n k g) es) f → Else (ds ++ map (dressed R plans n k g) es) f
  then_acts ds es f h shape = both_else ds (map (dressed R plans n k g) es) f h (acts_else es (after_deeds R.form n k ds f) (last_shapes ds (map (dressed R plans n k g) es) f shape))

  if_else : (t : Bool) (xs ys : List (Deed P V C U S)) (f : File P V C U S) → (t ≡ true → Else xs f) → (t ≡ false → Else ys f) → Else (cond t xs ys) f
  if_else true xs ys f h i = h refl
  if_else false xs ys f h i = i refl

  either_else : (t : Bool) (x y : Deed P V C U S) (f : File P V C U S) → (t ≡ true → OwesElse R.form n k f x) → (t ≡ false → OwesElse R.form n k f y) → Else (cond t x y ∷ []) f
  either_else true x y f h i = (h refl, tt)
  either_else false x y f h i = (i refl, tt)

  sent_else : (f : File P V C U S) (a : ℕ) (z : Body) → ((q : Request) → z ≡ ToBrick q → (R.is_write g q || is_post_on g q) ≡ true → f.planned a ≡ false → IsPlan R.form n k f a (plans.plan a)) → Else (deeds_sent R plans n k g f a z) f
  sent_else f a (ToClient re reply) plan = tt
  sent_else f a (ToBrick q) plan = if_else ((R.is_write g q || is_post_on g q) && not (f.planned a)) (Intend a (plans.plan a) ∷ []) [] f (λ e. (plan q refl (first_true (R.is_write g q || is_post_on g q) (not (f.planned a)) e) (unplanned (R.is_write g q || is_post_on g q) (f.planned a) e), tt)) (λ e. tt)
    where
      unplanned : (t u : Bool) → (t && not u) ≡ true → u ≡ false
      unplanned true true e = absurd (cc)
      unplanned true false e = refl
      unplanned false u e = absurd (cc)

  -- Of a request that is done, or in part, under the grant of the content, nothing is owed here.
  failed_else : (a b : ℕ) (q : Request) (version : Option ℕ) (old now : Brick) (f : File P V C U S) → ((x : ℕ) → version ≡ Some x → R.is_write g q ≡ true → is_granted old q ≡ false → ⊥) → Else (deeds_failed R plans n k g a b q version old now) f
  failed_else a b q None old now f none = tt
  failed_else a b q (Some x) old now f none = if_else (R.is_write g q && is_partial q) (deeds_partly R plans n k g a b q old now) [] f (λ e. either_else (is_granted old q) (Tear a b (R.writes g q) (pieces_of R plans n k g (now.records g))) (Spoil b (R.writes g q) (pieces_of R plans n k g (now.records g))) f (λ h. tt) (λ h. absurd (none x refl (first_true (R.is_write g q) (is_partial q) e) h))) (λ e. tt)

  answered_else : (f' : File P V C U S) (a b : ℕ) (q : Request) (old : Brick) (out : Out) (f : File P V C U S) → (is_done out.says ≡ true → R.is_write g q ≡ true → is_granted old q ≡ false → ⊥) → Else (deeds_answered R plans n k g f' a b q old out) f
  answered_else f' a b q old out f none = if_else (is_done out.says) (cond (R.is_write g q) (deeds_done R plans n k g a b q old out.brick) []) (cond (shows out.says && R.is_read g q && is_at_base f'.heads a b) (Read a b (R.reads g q) ∷ []) []) f
      (λ done. if_else (R.is_write g q) (deeds_done R plans n k g a b q old out.brick) [] f (λ write. either_else (is_granted old q) (Write a b (R.writes g q)) (Spoil b (R.writes g q) (pieces_of R plans n k g (out.brick.records g))) f (λ h. tt) (λ h. absurd (none done write h))) (λ write. tt))
      (λ done. if_else (shows out.says && R.is_read g q && is_at_base f'.heads a b) (Read a b (R.reads g q) ∷ []) [] f (λ h. (tt, tt)) (λ h. tt))

module _ (unit : List (List ℕ) → ℕ → ℕ) (kk : ℕ) (coder : Coder) (plans : Plans ℕ (List (List ℕ)) ℕ Shape) (geometry : Geometry) (g : ℕ) (m : Net) (v : View) (linked : Linked geometry.n g m v) (locks : LocksStand geometry.n g m v) (f : File ℕ (List (List ℕ)) Piece ℕ Shape) (known : IsBeside (of_units unit kk coder) geometry.n (quorum geometry) g m v f) where
  abbrev R : Reading ℕ (List (List ℕ)) Piece ℕ Shape
  R = of_units unit kk coder

  abbrev n : ℕ
  n = geometry.n

  abbrev k : ℕ
  k = quorum geometry

  is_writer : (q : Request) → (of_units unit kk coder).is_write g q ≡ true → IsWriter g q
  is_writer (WriteChunks x n first chunks) e = equal x.0 g e
  is_writer (SetLength x n keep count) e = equal x.0 g e
  is_writer q e = absurd (cc)

  -- no write goes under the grant of a heal
  no_healing : (i : ℕ) (msg : Message) (q : Request) → m.said i ≡ Some msg → msg.body ≡ ToBrick q → (of_units unit kk coder).is_write g q ≡ true → GoesHealing (m.brick msg.brick) q → ⊥
  no_healing i msg q said body write goes = by q (known.named i msg q said body (inl (is_writer q write))) write goes
    where
      lt : msg.brick < geometry.n
      lt = linked.to i msg q said body

      lock : (x : Gfid) (n : ℕ) (grant : ℕ) → n ≡ grant → Names g m.said v.of msg.call msg.brick i grant → holds (m.brick msg.brick).asks n x Heal Exclusive ≡ true → ⊥
      lock x n grant same w h = let l = w.lock in no_heal_grant m msg.brick n x l.gfid l.kind l.asks.message (ap m.said same ∙ l.asks.is) l.asks.body [] (m.brick msg.brick).asks (locks.asks msg.brick lt) h

      by : (q : Request) → (grant : ℕ) × (named_grant q ≡ Some grant) × Names g m.said v.of msg.call msg.brick i grant → (of_units unit kk coder).is_write g q ≡ true → GoesHealing (m.brick msg.brick) q → ⊥
      by (WriteChunks x n first chunks) w e h = lock x n w.0 (some_is n w.0 w.1) w.2 h
      by (SetLength x n keep count) w e h = lock x n w.0 (some_is n w.0 w.1) w.2 h
      by q w e h = absurd (cc)

  abbrev Now : List (Deed ℕ (List (List ℕ)) Piece ℕ Shape) → Type 0
  Now ds = Else (of_units unit kk coder) plans geometry.n (quorum geometry) g ds f

  executed_else : (i : ℕ) (version : Option ℕ) (failed : Bool) → MayExecute m i version failed → Now (deeds_executed (of_units unit kk coder) plans geometry.n (quorum geometry) g m v f (m.said i) version failed)
  executed_else i version failed may =
      subst (λ (o : Option Message). Now (deeds_executed (of_units unit kk coder) plans geometry.n (quorum geometry) g m v f o version failed)) (sym may.at.said)
      (subst (λ (z : Body). Now (deeds_of_request (of_units unit kk coder) plans geometry.n (quorum geometry) g m v f may.message z version failed)) (sym may.at.body)
      (by failed version may.read))
    where
      went : (version : Option ℕ) (failed : Bool) → out_of m may.message may.request version failed ≡ executed_at (m.brick may.message.brick) (failing failed version) may.message.client may.message.no may.request
      went version failed = ap (λ (t : Bool). cond t (executed_at (m.brick may.message.brick) (failing failed version) may.message.client may.message.no may.request) (quiet_out (m.brick may.message.brick))) may.at.up

      by : (failed : Bool) (version : Option ℕ) → version ≡ (out_of m may.message may.request version failed).version → Now (deeds_of_request (of_units unit kk coder) plans geometry.n (quorum geometry) g m v f may.message (ToBrick may.request) version failed)
      by false version read = answered_else (of_units unit kk coder) plans geometry.n (quorum geometry) g f (v.of may.message.no) may.message.brick may.request (m.brick may.message.brick) (out_of m may.message may.request version false) f
          (λ done write e. no_healing i may.message may.request may.at.said may.at.body write (done_healing (m.brick may.message.brick) may.message.client may.message.no may.request e (subst (λ (o : Out). is_done o.says ≡ true) (went version false) done)))
      by true None read = tt
      by true (Some x) read = failed_else (of_units unit kk coder) plans geometry.n (quorum geometry) g (v.of may.message.no) may.message.brick may.request (Some x) (m.brick may.message.brick) (out_of m may.message may.request (Some x) true).brick f
          (λ y same write e. no_healing i may.message may.request may.at.said may.at.body write (part_healing (m.brick may.message.brick) may.message.client may.message.no x may.request e (sym (read ∙ ap (λ (o : Out). o.version) (went (Some x) true)))))

  torn_else : (i count : ℕ) (version : Option ℕ) → MayTear m i count version → Now (deeds_torn (of_units unit kk coder) plans geometry.n (quorum geometry) g m v (m.said i) count version)
  torn_else i count version may =
      subst (λ (o : Option Message). Now (deeds_torn (of_units unit kk coder) plans geometry.n (quorum geometry) g m v o count version)) (sym may.at.said)
      (subst (λ (z : Body). Now (deeds_of_torn (of_units unit kk coder) plans geometry.n (quorum geometry) g m v may.message z count version)) (sym may.at.body)
      (by version may.read))
    where
      went : (version : Option ℕ) → torn_out m may.message may.request count version ≡ torn_at (m.brick may.message.brick) (failing_at version) may.request count
      went version = ap (λ (t : Bool). cond t (torn_at (m.brick may.message.brick) (failing_at version) may.request count) (quiet_out (m.brick may.message.brick))) may.at.up

      by : (version : Option ℕ) → version ≡ (torn_out m may.message may.request count version).version → Now (deeds_of_torn (of_units unit kk coder) plans geometry.n (quorum geometry) g m v may.message (ToBrick may.request) count version)
      by None read = tt
      by (Some x) read = failed_else (of_units unit kk coder) plans geometry.n (quorum geometry) g (v.of may.message.no) may.message.brick may.request (Some x) (m.brick may.message.brick) (torn_out m may.message may.request count (Some x)).brick f
          (λ y same write e. no_healing i may.message may.request may.at.said may.at.body write (torn_healing (m.brick may.message.brick) count x may.request e (sym (read ∙ ap (λ (o : Out). o.version) (went (Some x))))))

  data_else : (e : Entry) → MayEnter geometry.n m e
      → ((msg : Message) (q : Request) → e ≡ Sent msg → msg.body ≡ ToBrick q → ((of_units unit kk coder).is_write g q || is_post_on g q) ≡ true → f.planned (turn_of g v msg) ≡ false → IsPlan (of_units unit kk coder).form geometry.n (quorum geometry) f (turn_of g v msg) (plans.plan (turn_of g v msg)))
      → Now (data_deeds (of_units unit kk coder) plans geometry.n (quorum geometry) g m v f e)
  data_else (Sent msg) may plan = sent_else (of_units unit kk coder) plans geometry.n (quorum geometry) g f (turn_of g v msg) msg.body (λ q body on none. plan msg q refl body on none)
  data_else (Executed i version failed) may plan = executed_else i version failed may
  data_else (Torn i count version) may plan = torn_else i count version may
  data_else e may plan = tt

  -- so it is of an entry whose Takes and Creates owe nothing, and whose plan is one
  pub entry_else : (e : Entry) → MayEnter geometry.n m e
      → ((msg : Message) (q : Request) → e ≡ Sent msg → msg.body ≡ ToBrick q → ((of_units unit kk coder).is_write g q || is_post_on g q) ≡ true → f.planned (turn_of g v msg) ≡ false → IsPlan (of_units unit kk coder).form geometry.n (quorum geometry) f (turn_of g v msg) (plans.plan (turn_of g v msg)))
      → AllOweShape (of_units unit kk coder).form geometry.n (quorum geometry) (deeds (of_units unit kk coder) plans geometry.n (quorum geometry) g m v f e) f
      → Now (deeds (of_units unit kk coder) plans geometry.n (quorum geometry) g m v f e)
  entry_else e may plan shape = then_acts (of_units unit kk coder) plans geometry.n (quorum geometry) g (data_deeds (of_units unit kk coder) plans geometry.n (quorum geometry) g m v f e) (acts g m v e) f (data_else e may plan) shape
