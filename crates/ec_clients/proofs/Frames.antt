-- What an entry leaves as it is.
use Rattle.std.proofs.Common.{◌≡◌, ℕ, Bool, true, false, not, cond, Option, Some, None, refl, ap}
use Rattle.ec_attr.specs.declared.geometry.Geometry.{Geometry}
use Rattle.ec_wire.specs.Lanes.{is_to_brick}
use Rattle.ec_wire.specs.declared.entry.Entry.{Entry}
use Rattle.ec_wire.specs.declared.entry.Entry.TheVariants.{Called, Sent, Executed, Heard, Lost, GivenUp, Stopped, Returned, Cut, Died, Yielded, Torn, Answered, Replaced}
use Rattle.ec_wire.specs.declared.message.Body.{Body}
use Rattle.ec_wire.specs.declared.message.Body.TheVariants.{ToBrick, ToClient}
use Rattle.ec_wire.specs.declared.message.Message.{Message}
use Rattle.ec_wire.specs.declared.request.Request.{Request}
use Rattle.ec_wire.specs.declared.request.Request.TheVariants.{Ask, Release, Query, PreOp, ReadChunks, WriteChunks, SetLength, PostOp, Clear, NameGet, NamesAfter, NameSet, NamesPut, Make, Made, Unmake, Mark, Unmark, GfidsAfter}
use Rattle.ec_cluster.specs.Said.{said_with}
use Rattle.ec_history.specs.Run.{Net, executed, executed_by, heard, heard_by, torn_off, torn_by as net_torn}
use Rattle.ec_history.specs.Story.{Story, done_by, executes, failed_by, outcome, request_of, said_by, tears, told_executed, told_torn, torn_by}
use Rattle.ec_clients.specs.Come.{Come, come_after}
use Rattle.ec_clients.specs.Frames.{is_of_bricks}
use Rattle.ec_clients.specs.Ledger.{ledger}

-- a story that is one of two has the gfid that both have
one_of : (u : Bool) (s t : Story) (n : ℕ) → s.next_gfid ≡ n → t.next_gfid ≡ n → (cond u s t).next_gfid ≡ n
one_of true s t n a b = a
one_of false s t n a b = b

module _ (g : Geometry) (m : Net) (t : Story) where
  done_same : (msg : Message) (q : Request) → (done_by g m t msg q).next_gfid ≡ t.next_gfid
  done_same msg (WriteChunks f n first chunks) = one_of _ _ _ _ refl refl
  done_same msg (SetLength f n keep count) = one_of _ _ _ _ refl refl
  done_same msg (NameSet f n name child) = one_of _ _ _ _ refl refl
  done_same msg (Make f n child) = refl
  done_same msg (PostOp f n at version size attr) = search one_of
  done_same msg (Ask f domain kind) = refl
  done_same msg (Release f n) = refl
  done_same msg (Query f n) = refl
  done_same msg (PreOp f n at dirty) = refl
  done_same msg (ReadChunks f n first count) = refl
  done_same msg (Clear f n at) = refl
  done_same msg (NameGet f n name) = refl
  done_same msg (NamesAfter f n start) = refl
  done_same msg (NamesPut f n start upto list) = refl
  done_same msg (Made f n child) = refl
  done_same msg (Unmake f n child) = refl
  done_same msg (Mark f n heal head) = refl
  done_same msg (Unmark f n at dirty) = refl
  done_same msg (GfidsAfter start dirty) = refl

  failed_same : (msg : Message) (q : Request) (v : Option ℕ) → (failed_by m t msg q v).next_gfid ≡ t.next_gfid
  failed_same msg (WriteChunks f n first chunks) (Some v) = one_of _ _ _ _ refl refl
  failed_same msg (WriteChunks f n first chunks) None = refl
  failed_same msg (SetLength f n keep count) v = refl
  failed_same msg (NameSet f n name child) v = refl
  failed_same msg (Make f n child) v = refl
  failed_same msg (PostOp f n at version size attr) v = refl
  failed_same msg (Ask f domain kind) v = refl
  failed_same msg (Release f n) v = refl
  failed_same msg (Query f n) v = refl
  failed_same msg (PreOp f n at dirty) v = refl
  failed_same msg (ReadChunks f n first count) v = refl
  failed_same msg (Clear f n at) v = refl
  failed_same msg (NameGet f n name) v = refl
  failed_same msg (NamesAfter f n start) v = refl
  failed_same msg (NamesPut f n start upto list) v = refl
  failed_same msg (Made f n child) v = refl
  failed_same msg (Unmake f n child) v = refl
  failed_same msg (Mark f n heal head) v = refl
  failed_same msg (Unmark f n at dirty) v = refl
  failed_same msg (GfidsAfter start dirty) v = refl

  torn_same : (msg : Message) (q : Request) (v : Option ℕ) → (torn_by m t msg q v).next_gfid ≡ t.next_gfid
  torn_same msg (WriteChunks f n first chunks) (Some v) = search one_of
  torn_same msg (WriteChunks f n first chunks) None = refl
  torn_same msg (SetLength f n keep count) v = refl
  torn_same msg (NameSet f n name child) v = refl
  torn_same msg (Make f n child) v = refl
  torn_same msg (PostOp f n at version size attr) v = refl
  torn_same msg (Ask f domain kind) v = refl
  torn_same msg (Release f n) v = refl
  torn_same msg (Query f n) v = refl
  torn_same msg (PreOp f n at dirty) v = refl
  torn_same msg (ReadChunks f n first count) v = refl
  torn_same msg (Clear f n at) v = refl
  torn_same msg (NameGet f n name) v = refl
  torn_same msg (NamesAfter f n start) v = refl
  torn_same msg (NamesPut f n start upto list) v = refl
  torn_same msg (Made f n child) v = refl
  torn_same msg (Unmake f n child) v = refl
  torn_same msg (Mark f n heal head) v = refl
  torn_same msg (Unmark f n at dirty) v = refl
  torn_same msg (GfidsAfter start dirty) v = refl

  pub said_same : (a : ℕ) (q : Request) → (said_by t a (ToBrick q)).next_gfid ≡ t.next_gfid
  said_same a (NameSet f n name (Some child)) = refl
  said_same a (NameSet f n name None) = refl
  said_same a (WriteChunks f n first chunks) = refl
  said_same a (SetLength f n keep count) = refl
  said_same a (Make f n child) = refl
  said_same a (PostOp f n at version size attr) = refl
  said_same a (Ask f domain kind) = refl
  said_same a (Release f n) = refl
  said_same a (Query f n) = refl
  said_same a (PreOp f n at dirty) = refl
  said_same a (ReadChunks f n first count) = refl
  said_same a (Clear f n at) = refl
  said_same a (NameGet f n name) = refl
  said_same a (NamesAfter f n start) = refl
  said_same a (NamesPut f n start upto list) = refl
  said_same a (Made f n child) = refl
  said_same a (Unmake f n child) = refl
  said_same a (Mark f n heal head) = refl
  said_same a (Unmark f n at dirty) = refl
  said_same a (GfidsAfter start dirty) = refl

  outcome_same : (msg : Message) (q : Request) (v : Option ℕ) (failed : Bool) → (outcome g m t msg q v failed).next_gfid ≡ t.next_gfid
  outcome_same msg q v true = failed_same msg q v
  outcome_same msg q v false = one_of _ _ _ _ (done_same msg q) refl

  executed_same : (msg : Message) (q : Option Request) (v : Option ℕ) (failed : Bool) → (executes g m t msg q v failed).next_gfid ≡ t.next_gfid
  executed_same msg None v failed = refl
  executed_same msg (Some q) v failed = outcome_same msg q v failed

  tears_same : (msg : Message) (q : Option Request) (v : Option ℕ) → (tears m t msg q v).next_gfid ≡ t.next_gfid
  tears_same msg None v = refl
  tears_same msg (Some q) v = torn_same msg q v

module _ (g : Geometry) (p : Come) where
  brick_executed : (o : Option Message) (v : Option ℕ) (failed : Bool) → ledger (record { net = executed p.net o v failed; story = told_executed g p.net p.story o v failed; books = p.books }) ≡ ledger p
  brick_executed None v failed = refl
  brick_executed (Some msg) v failed = by_body msg.body (told_executed g p.net p.story (Some msg) v failed) (executed_same g p.net p.story msg (request_of msg.body) v failed)
    where
      by_body : (b : Body) (t : Story) → t.next_gfid ≡ p.story.next_gfid → ledger (record { net = executed_by p.net msg b v failed; story = t; books = p.books }) ≡ ledger p
      by_body (ToBrick q) t e = ap (λ (n : ℕ). record (ledger p) { next_gfid = n }) e
      by_body (ToClient re reply) t e = ap (λ (n : ℕ). record (ledger p) { next_gfid = n }) e

  brick_torn : (o : Option Message) (count : ℕ) (v : Option ℕ) → ledger (record { net = torn_off p.net o count v; story = told_torn p.net p.story o v; books = p.books }) ≡ ledger p
  brick_torn None count v = refl
  brick_torn (Some msg) count v = by_body msg.body (told_torn p.net p.story (Some msg) v) (tears_same g p.net p.story msg (request_of msg.body) v)
    where
      by_body : (b : Body) (t : Story) → t.next_gfid ≡ p.story.next_gfid → ledger (record { net = net_torn p.net msg b count v; story = t; books = p.books }) ≡ ledger p
      by_body (ToBrick q) t e = ap (λ (n : ℕ). record (ledger p) { next_gfid = n }) e
      by_body (ToClient re reply) t e = ap (λ (n : ℕ). record (ledger p) { next_gfid = n }) e

  brick_sent : (msg : Message) (b : Body) → not (is_to_brick b) ≡ true → ledger (come_after g p (Sent (record msg { body = b }))) ≡ ledger p
  brick_sent msg (ToBrick q) e = absurd (cc)
  brick_sent msg (ToClient re reply) e = refl

  -- what bricks do changes nothing of calls and clients
  pub brick_entry : (e : Entry) → is_of_bricks e ≡ true → ledger (come_after g p e) ≡ ledger p
  brick_entry (Executed i v failed) h = brick_executed (p.net.said i) v failed
  brick_entry (Torn i count v) h = brick_torn (p.net.said i) count v
  brick_entry (Sent msg) h = brick_sent msg msg.body h
  brick_entry (Lost i) h = refl
  brick_entry (Stopped b) h = refl
  brick_entry (Returned b) h = refl
  brick_entry (Cut client b) h = refl
  brick_entry (Replaced b removed all) h = refl
  brick_entry (Called call client op) h = absurd (cc)
  brick_entry (Heard i) h = absurd (cc)
  brick_entry (GivenUp client b i) h = absurd (cc)
  brick_entry (Died client) h = absurd (cc)
  brick_entry (Yielded client) h = absurd (cc)
  brick_entry (Answered call answer) h = absurd (cc)

-- which messages were sent
pub said_is : (g : Geometry) (p : Come) (e : Entry) → (come_after g p e).net.said ≡ said_with p.net.said e
said_is g p (Executed i v failed) = by (p.net.said i)
  where
    by : (o : Option Message) → (executed p.net o v failed).said ≡ p.net.said
    by None = refl
    by (Some msg) = body msg.body
      where
        body : (b : Body) → (executed_by p.net msg b v failed).said ≡ p.net.said
        body (ToBrick q) = refl
        body (ToClient re reply) = refl
said_is g p (Torn i count v) = by (p.net.said i)
  where
    by : (o : Option Message) → (torn_off p.net o count v).said ≡ p.net.said
    by None = refl
    by (Some msg) = body msg.body
      where
        body : (b : Body) → (net_torn p.net msg b count v).said ≡ p.net.said
        body (ToBrick q) = refl
        body (ToClient re reply) = refl
said_is g p (Heard i) = by (p.net.said i)
  where
    by : (o : Option Message) → (heard p.net o).said ≡ p.net.said
    by None = refl
    by (Some msg) = body msg.body
      where
        body : (b : Body) → (heard_by p.net msg b).said ≡ p.net.said
        body (ToBrick q) = refl
        body (ToClient re reply) = refl
said_is g p (Sent msg) = refl
said_is g p (Lost i) = refl
said_is g p (Stopped b) = refl
said_is g p (Returned b) = refl
said_is g p (Cut client b) = refl
said_is g p (Replaced b removed all) = refl
said_is g p (Called call client op) = refl
said_is g p (GivenUp client b i) = refl
said_is g p (Died client) = refl
said_is g p (Yielded client) = refl
said_is g p (Answered call answer) = refl
