-- How the bytes of a stripe are read has no part in what a log does to the machine of a file.
use Rattle.std.proofs.Common.{◌≡◌, ℕ, Bool, true, false, cond, ◌&&◌, Option, Some, None, List, [], ◌∷◌, ◌++◌, map, refl, ◌∙◌, ap}
use Rattle.ec_brick.specs.State.{State as Brick}
use Rattle.ec_brick.specs.Step.{Out}
use Rattle.ec_history.specs.Run.{Net, out_of, torn_out}
use Rattle.ec_history.specs.Story.{is_done}
use Rattle.ec_store.specs.Records.{Record}
use Rattle.ec_wire.specs.declared.entry.Entry.{Entry}
use Rattle.ec_wire.specs.declared.entry.Entry.TheVariants.{Sent, Executed, Torn}
use Rattle.ec_wire.specs.declared.message.Body.{Body}
use Rattle.ec_wire.specs.declared.message.Body.TheVariants.{ToBrick, ToClient}
use Rattle.ec_wire.specs.declared.message.Message.{Message}
use Rattle.ec_wire.specs.declared.request.Request.{Request}
use Rattle.ec_law_ballots.specs.Act.{Act}
use Rattle.ec_law_ballots.specs.Act.Act.{See, Choose, Choose_kept, Post, Sink_post, Mark, Unmark, Make}
use Rattle.ec_law_pieces.specs.Deed.{Deed, after as after_deeds, step}
use Rattle.ec_law_pieces.specs.Deed.Deed.{Do, Look, Take, Take_kept, Read, Intend, Write, Tear, Copy, Spoil, Commit, Follow, Begin, Finish, Create}
use Rattle.ec_law_pieces.specs.File.{File}
use Rattle.ec_law_net.specs.Turns.{View, acts, turn_of}
use Rattle.ec_law_data.specs.Deeds.{data_deeds, deeds, deeds_answered, deeds_executed, deeds_failed, deeds_of_request, deeds_of_torn, deeds_sent, deeds_torn, dressed, file_after, is_at_base, is_granted, is_partial, pieces_of, shows}
use Rattle.ec_law_data.specs.Forms.{Coder, Piece, Shape, is_chunk_read, is_data, of_file, stripes_read, stripes_written}
use Rattle.ec_law_data.specs.Link.{BodyCoded, EntryCoded, IsCoded, MessageCoded, MessageWhole}
use Rattle.ec_law_data.specs.Reading.{Plans, Reading}
use Rattle.ec_law_reads.specs.Units.{of_units}

abbrev StripeDeed : Type 0
StripeDeed = Deed ℕ (List (List ℕ)) Piece ℕ Shape

abbrev StripeFile : Type 0
StripeFile = File ℕ (List (List ℕ)) Piece ℕ Shape

module _ (unit : List (List ℕ) → ℕ → ℕ) (kk : ℕ) (coder : Coder) (plans : Plans ℕ (List (List ℕ)) ℕ Shape) (n k g : ℕ) where
  abbrev R : Reading ℕ (List (List ℕ)) Piece ℕ Shape
  R = of_units unit kk coder

  abbrev S : Reading ℕ (List (List ℕ)) Piece ℕ Shape
  S = of_file kk coder

  pieces_same : (o : Option Record) → pieces_of (of_units unit kk coder) plans n k g o ≡ pieces_of (of_file kk coder) plans n k g o
  pieces_same None = refl
  pieces_same (Some r) = refl

  dressed_same : (e : Act) → dressed (of_units unit kk coder) plans n k g e ≡ dressed (of_file kk coder) plans n k g e
  dressed_same (See a b) = refl
  dressed_same (Choose a p) = refl
  dressed_same (Choose_kept x a p) = refl
  dressed_same (Post a b) = refl
  dressed_same (Sink_post a b) = refl
  dressed_same (Mark a b) = refl
  dressed_same (Unmark a b) = refl
  dressed_same (Make b) = refl
  dressed_same e = refl

  acts_same : (es : List Act) → map (dressed (of_units unit kk coder) plans n k g) es ≡ map (dressed (of_file kk coder) plans n k g) es
  acts_same [] = refl
  acts_same (e ∷ es) = λ i. dressed_same e i ∷ acts_same es i

  failed_same : (a b : ℕ) (q : Request) (version : Option ℕ) (old now : Brick) → deeds_failed (of_units unit kk coder) plans n k g a b q version old now ≡ deeds_failed (of_file kk coder) plans n k g a b q version old now
  failed_same a b q None old now = refl
  failed_same a b q (Some version) old now = ap (λ (z : ℕ → Piece). cond (is_data g q && is_partial q) (cond (is_granted old q) (Tear a b (stripes_written q) z) (Spoil b (stripes_written q) z) ∷ []) []) (pieces_same (now.records g))

  answered_same : (f : StripeFile) (a b : ℕ) (q : Request) (old : Brick) (out : Out) → deeds_answered (of_units unit kk coder) plans n k g f a b q old out ≡ deeds_answered (of_file kk coder) plans n k g f a b q old out
  answered_same f a b q old out = ap (λ (z : ℕ → Piece). cond (is_done out.says) (cond (is_data g q) (cond (is_granted old q) (Write a b (stripes_written q)) (Spoil b (stripes_written q) z) ∷ []) []) (cond (shows out.says && is_chunk_read g q && is_at_base f.heads a b) (Read a b (stripes_read q) ∷ []) [])) (pieces_same (out.brick.records g))

  data_same : (m : Net) (v : View) (f : StripeFile) (e : Entry) → data_deeds (of_units unit kk coder) plans n k g m v f e ≡ data_deeds (of_file kk coder) plans n k g m v f e
  data_same m v f (Sent msg) = by msg.body
    where
      by : (z : Body) → deeds_sent (of_units unit kk coder) plans n k g f (turn_of g v msg) z ≡ deeds_sent (of_file kk coder) plans n k g f (turn_of g v msg) z
      by (ToBrick q) = refl
      by (ToClient re reply) = refl
  data_same m v f (Executed i version failed) = by (m.said i)
    where
      body : (msg : Message) (z : Body) (failed : Bool) → deeds_of_request (of_units unit kk coder) plans n k g m v f msg z version failed ≡ deeds_of_request (of_file kk coder) plans n k g m v f msg z version failed
      body msg (ToBrick q) true = failed_same (v.of msg.no) msg.brick q version (m.brick msg.brick) (out_of m msg q version true).brick
      body msg (ToBrick q) false = answered_same f (v.of msg.no) msg.brick q (m.brick msg.brick) (out_of m msg q version false)
      body msg (ToClient re reply) failed = refl

      by : (o : Option Message) → deeds_executed (of_units unit kk coder) plans n k g m v f o version failed ≡ deeds_executed (of_file kk coder) plans n k g m v f o version failed
      by None = refl
      by (Some msg) = body msg msg.body failed
  data_same m v f (Torn i count version) = by (m.said i)
    where
      body : (msg : Message) (z : Body) → deeds_of_torn (of_units unit kk coder) plans n k g m v msg z count version ≡ deeds_of_torn (of_file kk coder) plans n k g m v msg z count version
      body msg (ToBrick q) = failed_same (v.of msg.no) msg.brick q version (m.brick msg.brick) (torn_out m msg q count version).brick
      body msg (ToClient re reply) = refl

      by : (o : Option Message) → deeds_torn (of_units unit kk coder) plans n k g m v o count version ≡ deeds_torn (of_file kk coder) plans n k g m v o count version
      by None = refl
      by (Some msg) = body msg msg.body
  data_same m v f e = refl

  deeds_same : (m : Net) (v : View) (f : StripeFile) (e : Entry) → deeds (of_units unit kk coder) plans n k g m v f e ≡ deeds (of_file kk coder) plans n k g m v f e
  deeds_same m v f e = λ i. data_same m v f e i ++ acts_same (acts g m v e) i

  step_same : (f : StripeFile) (d : StripeDeed) → step (of_units unit kk coder).form n k f d ≡ step (of_file kk coder).form n k f d
  step_same f (Do e) = refl
  step_same f (Look a b) = refl
  step_same f (Take a p shape) = refl
  step_same f (Take_kept x a p) = refl
  step_same f (Read a b places) = refl
  step_same f (Intend a plan) = refl
  step_same f (Write a b places) = refl
  step_same f (Tear a b places pieces) = refl
  step_same f (Copy a b places pieces) = refl
  step_same f (Spoil b places pieces) = refl
  step_same f (Commit a b) = refl
  step_same f (Follow a b) = refl
  step_same f (Begin a b) = refl
  step_same f (Finish a b) = refl
  step_same f (Create b shape) = refl

  steps_same : (ds : List StripeDeed) (f : StripeFile) → after_deeds (of_units unit kk coder).form n k ds f ≡ after_deeds (of_file kk coder).form n k ds f
  steps_same [] f = refl
  steps_same (d ∷ ds) f = ap (after_deeds (of_units unit kk coder).form n k ds) (step_same f d) ∙ steps_same ds (step (of_file kk coder).form n k f d)

  pub after_same : (m : Net) (v : View) (f : StripeFile) (e : Entry) → file_after (of_units unit kk coder) plans n k g m v f e ≡ file_after (of_file kk coder) plans n k g m v f e
  after_same m v f e = ap (λ (ds : List StripeDeed). after_deeds (of_units unit kk coder).form n k ds f) (deeds_same m v f e) ∙ steps_same (deeds (of_file kk coder) plans n k g m v f e) f

module _ (unit : List (List ℕ) → ℕ → ℕ) (kk : ℕ) (coder : Coder) where
  -- what an entry puts is the code of what was planned, whatever reads the bytes
  pub coded_same : (g : ℕ) (m : Net) (v : View) (f : StripeFile) (e : Entry) → EntryCoded (of_file kk coder) g m v f e → EntryCoded (of_units unit kk coder) g m v f e
  coded_same g m v f (Executed i version failed) h = by (m.said i) h
    where
      body : (msg : Message) (z : Body) → BodyCoded (of_file kk coder) g m v f msg z version failed → BodyCoded (of_units unit kk coder) g m v f msg z version failed
      body msg (ToBrick q) h = record { whole = h.whole; codes = h.codes }
      body msg (ToClient re reply) h = tt

      by : (o : Option Message) → MessageCoded (of_file kk coder) g m v f o version failed → MessageCoded (of_units unit kk coder) g m v f o version failed
      by None h = tt
      by (Some msg) h = body msg msg.body h
  coded_same g m v f (Torn i count version) h = by (m.said i) h
    where
      body : (z : Body) → Rattle.ec_law_data.specs.Link.BodyWhole (of_file kk coder) z → Rattle.ec_law_data.specs.Link.BodyWhole (of_units unit kk coder) z
      body (ToBrick q) h = h
      body (ToClient re reply) h = tt

      by : (o : Option Message) → MessageWhole (of_file kk coder) o → MessageWhole (of_units unit kk coder) o
      by None h = tt
      by (Some msg) h = body msg.body h
  coded_same g m v f e h = tt
