-- The gfid that the next child takes, entry by entry.
use Rattle.std.proofs.Common.{◌≡◌, ℕ, ◌+◌, Bool, true, false, cond, nat_le, Option, Some, None, length, refl}
use Rattle.ec_attr.specs.declared.geometry.Geometry.{Geometry}
use Rattle.ec_attr.specs.declared.kind.Domain.TheVariants.{Inode}
use Rattle.ec_attr.specs.declared.kind.LockKind.TheVariants.{Exclusive}
use Rattle.ec_locks.specs.Table.{holds}
use Rattle.ec_store.specs.Records.{head_at}
use Rattle.ec_wire.specs.declared.entry.Entry.{Entry}
use Rattle.ec_wire.specs.declared.entry.Entry.TheVariants.{Called, Sent, Executed, Torn}
use Rattle.ec_wire.specs.declared.message.Body.{Body}
use Rattle.ec_wire.specs.declared.message.Body.TheVariants.{ToBrick, ToClient}
use Rattle.ec_wire.specs.declared.message.Message.{Message}
use Rattle.ec_wire.specs.declared.request.Request.{Request}
use Rattle.ec_wire.specs.declared.request.Request.TheVariants.{WriteChunks, SetLength, PostOp, NameSet, Make}
use Rattle.ec_history.specs.Run.{Net}
use Rattle.ec_history.specs.Story.{Story, done_by, executes, failed_by, is_among, is_commit, is_unmarked, makes_a_child, opens, request_of, said_by, tears, told, told_executed, told_torn, torn_by, with_post}

abbrev pub next_after : ℕ → Entry → ℕ
next_after next (Called a client op) = cond (makes_a_child op) (next + 1) next
next_after next e = next

same : (u : Bool) (s t : Story) → s.next_gfid ≡ t.next_gfid → (cond u s t).next_gfid ≡ t.next_gfid
same true s t e = e
same false s t e = refl

said_next : (t : Story) (a : ℕ) (body : Body) → (said_by t a body).next_gfid ≡ t.next_gfid
said_next t a (ToBrick (WriteChunks g n first chunks)) = refl
said_next t a (ToBrick (NameSet g n name (Some child))) = refl
said_next t a body = refl

opens_next : (m : Net) (t : Story) (msg : Message) (g : ℕ) (stripes : ℕ → Bool) → (opens m t msg g stripes).next_gfid ≡ t.next_gfid
opens_next m t msg g stripes = same _ _ t refl

done_next : (geometry : Geometry) (m : Net) (t : Story) (msg : Message) (q : Request) → (done_by geometry m t msg q).next_gfid ≡ t.next_gfid
done_next geometry m t msg (WriteChunks g n first chunks) = opens_next m t msg g.0 (is_among first (length chunks))
done_next geometry m t msg (SetLength g n keep count) = opens_next m t msg g.0 (λ s. nat_le keep s)
done_next geometry m t msg (NameSet g n name child) = same _ _ t refl
done_next geometry m t msg (Make g n child) = refl
done_next geometry m t msg (PostOp g n at version size attr) = posted (is_unmarked (head_at (m.brick msg.brick).records g.0)) (is_commit geometry t msg.call g.0 msg.brick) _ refl
  where
    posted : (u w : Bool) (s : Story) → s.next_gfid ≡ t.next_gfid → (cond u (cond w s (with_post t msg.call g.0 msg.brick)) t).next_gfid ≡ t.next_gfid
    posted true true s e = e
    posted true false s e = refl
    posted false w s e = refl
done_next geometry m t msg q = refl

failed_next : (m : Net) (t : Story) (msg : Message) (q : Request) (version : Option ℕ) → (failed_by m t msg q version).next_gfid ≡ t.next_gfid
failed_next m t msg (WriteChunks g n first chunks) (Some version) = opens_next m t msg g.0 (is_among first (length chunks))
failed_next m t msg q version = refl

executed_next : (geometry : Geometry) (m : Net) (t : Story) (o : Option Message) (version : Option ℕ) (failed : Bool) → (told_executed geometry m t o version failed).next_gfid ≡ t.next_gfid
executed_next geometry m t None version failed = refl
executed_next geometry m t (Some msg) version failed = by_body msg.body failed
  where
    by_body : (z : Body) (failed : Bool) → (executes geometry m t msg (request_of z) version failed).next_gfid ≡ t.next_gfid
    by_body (ToBrick q) true = failed_next m t msg q version
    by_body (ToBrick q) false = same _ _ t (done_next geometry m t msg q)
    by_body (ToClient re reply) failed = refl

torn_request : (m : Net) (t : Story) (msg : Message) (q : Request) (version : Option ℕ) → (torn_by m t msg q version).next_gfid ≡ t.next_gfid
torn_request m t msg (WriteChunks g n first chunks) (Some version) = same (holds (m.brick msg.brick).asks n g Inode Exclusive) (opens m t msg g.0 (is_among first (length chunks))) t (opens_next m t msg g.0 (is_among first (length chunks)))
torn_request m t msg q version = refl

torn_next : (m : Net) (t : Story) (o : Option Message) (version : Option ℕ) → (told_torn m t o version).next_gfid ≡ t.next_gfid
torn_next m t None version = refl
torn_next m t (Some msg) version = by_body msg.body
  where
    by_body : (z : Body) → (tears m t msg (request_of z) version).next_gfid ≡ t.next_gfid
    by_body (ToBrick q) = torn_request m t msg q version
    by_body (ToClient re reply) = refl

pub told_next : (geometry : Geometry) (m : Net) (t : Story) (e : Entry) → (told geometry m t e).next_gfid ≡ next_after t.next_gfid e
told_next geometry m t (Called a client op) = at (makes_a_child op) _ refl
  where
    at : (u : Bool) (s : Story) → s.next_gfid ≡ t.next_gfid + 1 → (cond u s t).next_gfid ≡ cond u (t.next_gfid + 1) t.next_gfid
    at true s e = e
    at false s e = refl
told_next geometry m t (Sent msg) = said_next t msg.call msg.body
told_next geometry m t (Executed i version failed) = executed_next geometry m t (m.said i) version failed
told_next geometry m t (Torn i bytes version) = torn_next m t (m.said i) version
told_next geometry m t e = refl
