-- Deeds that owe nothing of shapes: those of data, and acts that are calm.
use Rattle.std.proofs.Common.{◌≡◌, ℕ, Bool, true, false, cond, ◌&&◌, Option, Some, None, List, [], ◌∷◌, ◌++◌, map}
use Rattle.ec_brick.specs.State.{State as Brick}
use Rattle.ec_brick.specs.Step.{Out}
use Rattle.ec_history.specs.Run.{Net, out_of, torn_out}
use Rattle.ec_history.specs.Story.{is_done}
use Rattle.ec_wire.specs.declared.message.Body.{Body}
use Rattle.ec_wire.specs.declared.message.Body.TheVariants.{ToBrick, ToClient}
use Rattle.ec_wire.specs.declared.message.Message.{Message}
use Rattle.ec_wire.specs.declared.request.Request.{Request}
use Rattle.ec_law_ballots.specs.Act.{Act}
use Rattle.ec_law_ballots.specs.Act.Act.{Grant, Free, Moment, Pre, Sink_pre, Clear as Clears, Heal_grant, Heal_free, Maker_grant, Maker_free, Made as Mades, Unmake as Unmakes, Stop, Replace}
use Rattle.ec_law_pieces.specs.Deed.{Deed, after as after_deeds, step}
use Rattle.ec_law_pieces.specs.Deed.Deed.{Read, Write, Tear, Spoil}
use Rattle.ec_law_pieces.specs.File.{File, Form}
use Rattle.ec_law_net.specs.Turns.{View}
use Rattle.ec_law_data.specs.Deeds.{deeds_answered, deeds_done, deeds_failed, deeds_of_request, deeds_of_torn, deeds_partly, deeds_torn, dressed, is_at_base, is_granted, is_partial, pieces_of, shows}
use Rattle.ec_law_data.specs.Reading.{Plans, Reading}
use Rattle.ec_law_shapes.specs.Fitting.{AllOweShape, OwesShape}
use Rattle.ec_law_shapes.proofs.Quiet.{Calm, is_calm}

module _ {P V C U S : Type 0} (form : Form P V C U S) (n k : ℕ) where
  pub owe_both : (xs ys : List (Deed P V C U S)) (f : File P V C U S) → AllOweShape form n k xs f → AllOweShape form n k ys (after_deeds form n k xs f) → AllOweShape form n k (xs ++ ys) f
  owe_both [] ys f h i = i
  owe_both (x ∷ xs) ys f h i = (h.0, owe_both xs ys (step form n k f x) h.1 i)

module _ {P V C U S : Type 0} (R : Reading P V C U S) (plans : Plans P V U S) (n k g : ℕ) where
  calm_owes : (e : Act) (f : File P V C U S) → is_calm e ≡ true → OwesShape R.form n k f (dressed R plans n k g e)
  calm_owes (Grant a b) f e = tt
  calm_owes (Free b) f e = tt
  calm_owes (Moment a) f e = tt
  calm_owes (Pre a b) f e = tt
  calm_owes (Sink_pre a b) f e = tt
  calm_owes (Clears a b) f e = tt
  calm_owes (Heal_grant h b) f e = tt
  calm_owes (Heal_free b) f e = tt
  calm_owes (Maker_grant b) f e = tt
  calm_owes (Maker_free b) f e = tt
  calm_owes (Mades b) f e = tt
  calm_owes (Unmakes b) f e = tt
  calm_owes (Stop b) f e = tt
  calm_owes (Replace b) f e = tt
  calm_owes e f h = absurd (cc)

  pub calm_owe : (es : List Act) (f : File P V C U S) → Calm es → AllOweShape R.form n k (map (dressed R plans n k g) es) f
  calm_owe [] f h = tt
  calm_owe (e ∷ es) f h = (calm_owes e f h.0, calm_owe es (step R.form n k f (dressed R plans n k g e)) h.1)

  module _ (f : File P V C U S) where
    pub owe_if : (t : Bool) (ds es : List (Deed P V C U S)) → AllOweShape R.form n k ds f → AllOweShape R.form n k es f → AllOweShape R.form n k (cond t ds es) f
    owe_if true ds es h i = h
    owe_if false ds es h i = i

    owe_either : (t : Bool) (x y : Deed P V C U S) → AllOweShape R.form n k (x ∷ []) f → AllOweShape R.form n k (y ∷ []) f → AllOweShape R.form n k (cond t x y ∷ []) f
    owe_either true x y h i = h
    owe_either false x y h i = i

    failed_owe : (a b : ℕ) (q : Request) (version : Option ℕ) (old now : Brick) → AllOweShape R.form n k (deeds_failed R plans n k g a b q version old now) f
    failed_owe a b q None old now = tt
    failed_owe a b q (Some version) old now = owe_if (R.is_write g q && is_partial q) (deeds_partly R plans n k g a b q old now) [] (owe_either (is_granted old q) (Tear a b (R.writes g q) (pieces_of R plans n k g (now.records g))) (Spoil b (R.writes g q) (pieces_of R plans n k g (now.records g))) (tt, tt) (tt, tt)) tt

    answered_owe : (a b : ℕ) (q : Request) (old : Brick) (out : Out) → AllOweShape R.form n k (deeds_answered R plans n k g f a b q old out) f
    answered_owe a b q old out = owe_if (is_done out.says) _ _
        (owe_if (R.is_write g q) (deeds_done R plans n k g a b q old out.brick) [] (owe_either (is_granted old q) (Write a b (R.writes g q)) (Spoil b (R.writes g q) (pieces_of R plans n k g (out.brick.records g))) (tt, tt) (tt, tt)) tt)
        (owe_if (shows out.says && R.is_read g q && is_at_base f.heads a b) (Read a b (R.reads g q) ∷ []) [] (tt, tt) tt)

    pub request_owe : (m : Net) (v : View) (msg : Message) (z : Body) (version : Option ℕ) (failed : Bool) → AllOweShape R.form n k (deeds_of_request R plans n k g m v f msg z version failed) f
    request_owe m v msg (ToBrick q) version true = failed_owe (v.of msg.no) msg.brick q version (m.brick msg.brick) (out_of m msg q version true).brick
    request_owe m v msg (ToBrick q) version false = answered_owe (v.of msg.no) msg.brick q (m.brick msg.brick) (out_of m msg q version false)
    request_owe m v msg (ToClient re reply) version failed = tt

    pub torn_owe : (m : Net) (v : View) (o : Option Message) (count : ℕ) (version : Option ℕ) → AllOweShape R.form n k (deeds_torn R plans n k g m v o count version) f
    torn_owe m v None count version = tt
    torn_owe m v (Some msg) count version = body msg.body
      where
        body : (z : Body) → AllOweShape R.form n k (deeds_of_torn R plans n k g m v msg z count version) f
        body (ToBrick q) = failed_owe (v.of msg.no) msg.brick q version (m.brick msg.brick) (torn_out m msg q count version).brick
        body (ToClient re reply) = tt
