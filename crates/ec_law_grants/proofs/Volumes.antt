-- A brick keeps its config.
use Rattle.std.proofs.Common.{◌≡◌, ℕ, Bool, true, false, cond, ◌==◌, Option, Some, None, [], take, refl, sym, ◌∙◌, ap}
use Rattle.ec_attr.specs.declared.head.Head.{Head}
use Rattle.ec_brick.specs.Meets.{failing_at}
use Rattle.ec_brick.specs.Replies.{Nothing, Says, own_of}
use Rattle.ec_brick.specs.Rows.{fence, row_of}
use Rattle.ec_brick.specs.State.{State as Brick}
use Rattle.ec_brick.specs.Step.{Failing, Fine, Before, Within, Out, Work, by_row, cut_off, executed, fenced, head_read, judged, part_work, refusal_of, started, step, stopped, torn as torn_step, torn_off as torn_at, unguarded, version_of, work, worked}
use Rattle.ec_brick.specs.Work.{bytes_of}
use Rattle.ec_brick.specs.declared.row.Row.{Row}
use Rattle.ec_store.specs.Put.{put}
use Rattle.ec_store.specs.Records.{head_at}
use Rattle.ec_history.specs.Run.{Net, after, executed as executed_net, executed_by, failing, heard, heard_by, out_of, torn_by, torn_off, torn_out, wiped}
use Rattle.ec_wire.specs.declared.entry.Entry.{Entry}
use Rattle.ec_wire.specs.declared.entry.Entry.TheVariants.{Called, Sent, Executed, Heard, Lost, GivenUp, Stopped, Returned, Cut, Died, Yielded, Torn, Answered, Replaced}
use Rattle.ec_wire.specs.declared.message.Body.{Body}
use Rattle.ec_wire.specs.declared.message.Body.TheVariants.{ToBrick, ToClient}
use Rattle.ec_wire.specs.declared.message.Message.{Message}
use Rattle.ec_wire.specs.declared.reply.Reply.{Reply}
use Rattle.ec_wire.specs.declared.request.Request.{Request}
use Rattle.ec_wire.specs.declared.request.Request.TheVariants.{Ask, Release, WriteChunks, GfidsAfter}
use Rattle.ec_law_turns.proofs.Basics.{equal}

module _ (s : Brick) where
  abbrev Keeps : Out → Type 0
  Keeps o = o.brick.config ≡ s.config

  module _ (w : Work) (done : w.done.config ≡ s.config) (broken : w.broken.config ≡ s.config) where
    keeps_worked : (f : Failing) (v : Option ℕ) → Keeps (worked s f w v)
    keeps_worked Fine v = done
    keeps_worked Before v = refl
    keeps_worked Within v = broken

    keeps_judged : (f : Failing) (v : Option ℕ) (o : Option Reply) → Keeps (judged s f w v o)
    keeps_judged f v None = keeps_worked f v
    keeps_judged f v (Some y) = refl

    keeps_read : (f : Failing) (r : Row) (h : Option Head) → Keeps (head_read s f w r h)
    keeps_read Fine r h = keeps_judged Fine (version_of h) (refusal_of s r h)
    keeps_read Before r h = refl
    keeps_read Within r h = keeps_judged Within (version_of h) (refusal_of s r h)

    keeps_fenced : (f : Failing) (r : Row) (o : Option Reply) → Keeps (fenced s f w r o)
    keeps_fenced f r None = keeps_read f r (head_at s.records r.subject.0)
    keeps_fenced f r (Some y) = refl

    keeps_row : (f : Failing) (o : Option Row) → Keeps (by_row s f w o)
    keeps_row f None = refl
    keeps_row f (Some r) = keeps_fenced f r (fence s.asks r)

  keeps_free : (f : Failing) (own : Says) → Keeps (unguarded s f own)
  keeps_free Fine own = refl
  keeps_free Before own = refl
  keeps_free Within own = refl

  keeps_executed : (f : Failing) (client number : ℕ) (q : Request) → Keeps (executed s f client number q)
  keeps_executed f client number (Ask x domain kind) = refl
  keeps_executed f client number (Release x n) = refl
  keeps_executed f client number (GfidsAfter start dirty) = keeps_free f (own_of (GfidsAfter start dirty) s.records)
  keeps_executed f client number q = keeps_row (work s q) refl refl f (row_of q)

  keeps_step : (f : Failing) (client number : ℕ) (q : Request) → Keeps (step s f client number q)
  keeps_step f client number q = at s.up
    where
      at : (t : Bool) → (cond t (executed s f client number q) (record { brick = s; says = Nothing; version = None; lets_in = [] })).brick.config ≡ s.config
      at true = keeps_executed f client number q
      at false = refl

  keeps_torn : (f : Failing) (count : ℕ) (q : Request) → Keeps (torn_step s f q count)
  keeps_torn f count q = at s.up
    where
      off : (q : Request) → (torn_at s f q count).brick.config ≡ s.config
      off (WriteChunks x n first chunks) = keeps_row (part_work s x first (take count (bytes_of chunks))) refl refl f (row_of (WriteChunks x n first chunks))
      off q = refl

      at : (t : Bool) → (cond t (torn_at s f q count) (record { brick = s; says = Nothing; version = None; lets_in = [] })).brick.config ≡ s.config
      at true = off q
      at false = refl

-- ## Entries

module _ (m : Net) (b : ℕ) where
  -- one brick is another with the same config
  placed : (c : ℕ) (new : Brick) → new.config ≡ (m.brick c).config → (put m.brick c new b).config ≡ (m.brick b).config
  placed c new same = at (b == c) refl
    where
      at : (t : Bool) → (b == c) ≡ t → (cond t new (m.brick b)).config ≡ (m.brick b).config
      at true u = same ∙ ap (λ (y : ℕ). (m.brick y).config) (sym (equal b c u))
      at false u = refl

  executed_config : (o : Option Message) (version : Option ℕ) (failed : Bool) → ((executed_net m o version failed).brick b).config ≡ (m.brick b).config
  executed_config None version failed = refl
  executed_config (Some msg) version failed = by msg.body
    where
      by : (z : Body) → ((executed_by m msg z version failed).brick b).config ≡ (m.brick b).config
      by (ToBrick q) = placed msg.brick (out_of m msg q version failed).brick (keeps_step (m.brick msg.brick) (failing failed version) msg.client msg.no q)
      by (ToClient re reply) = refl

  torn_config : (o : Option Message) (count : ℕ) (version : Option ℕ) → ((torn_off m o count version).brick b).config ≡ (m.brick b).config
  torn_config None count version = refl
  torn_config (Some msg) count version = by msg.body
    where
      by : (z : Body) → ((torn_by m msg z count version).brick b).config ≡ (m.brick b).config
      by (ToBrick q) = placed msg.brick (torn_out m msg q count version).brick (keeps_torn (m.brick msg.brick) (failing_at version) count q)
      by (ToClient re reply) = refl

  pub entry_config : (e : Entry) → ((after m e).brick b).config ≡ (m.brick b).config
  entry_config (Called a client op) = refl
  entry_config (Sent msg) = refl
  entry_config (Executed i version failed) = executed_config (m.said i) version failed
  entry_config (Heard i) = by (m.said i)
    where
      by : (o : Option Message) → ((heard m o).brick b).config ≡ (m.brick b).config
      by None = refl
      by (Some msg) = body msg.body
        where
          body : (z : Body) → ((heard_by m msg z).brick b).config ≡ (m.brick b).config
          body (ToBrick q) = refl
          body (ToClient re reply) = refl
  entry_config (Lost i) = refl
  entry_config (GivenUp client brick i) = refl
  entry_config (Stopped c) = placed c (stopped (m.brick c)) refl
  entry_config (Returned c) = placed c (started (m.brick c)) refl
  entry_config (Cut client c) = placed c (cut_off (m.brick c) client).brick refl
  entry_config (Died client) = refl
  entry_config (Yielded client) = refl
  entry_config (Torn i count version) = torn_config (m.said i) count version
  entry_config (Answered a answer) = refl
  entry_config (Replaced c removed all) = placed c (record (m.brick c) { records = wiped removed all (m.brick c).records }) refl
