-- What a call asked for, and the child that it took, stay as they are once it was made.
use Rattle.std.proofs.Common.{◌≡◌, ℕ, ◌+◌, ◌≤◌, Bool, true, false, cond, ◌==◌, ◌||◌, Option, Some, None, List, ◌∷◌, length, refl, sym, ◌∙◌, ap, arith, subst}
use Rattle.ec_attr.specs.declared.geometry.Geometry.{Geometry}
use Rattle.ec_history.specs.Changes.{Found, change}
use Rattle.ec_history.specs.IsRun.{May as MayEnter}
use Rattle.ec_history.specs.Run.{Asker, Net, after as net_after, executed, executed_by, heard, heard_by, torn_by as net_torn_by, torn_off}
use Rattle.ec_history.specs.Story.{Story, asked_for, began, done_by, executes, failed_by, found_by, is_among, is_commit, is_done, is_heal, is_unmarked, makes_a_child, op_of, opens, post_done, request_of, said_by, tears, told, told_executed, told_torn, torn_by, with_flat, with_post}
use Rattle.ec_history.specs.Run.{out_of}
use Rattle.ec_history.specs.Flat.{committed}
use Rattle.ec_conduct.specs.Given.{quorum}
use Rattle.ec_store.specs.Records.{head_at}
use Rattle.ec_locks.specs.Table.{holds}
use Rattle.ec_attr.specs.declared.kind.Domain.TheVariants.{Inode}
use Rattle.ec_attr.specs.declared.kind.LockKind.TheVariants.{Exclusive}
use Rattle.ec_wire.specs.declared.entry.Entry.{Entry}
use Rattle.ec_wire.specs.declared.entry.Entry.TheVariants.{Called, Sent, Executed, Heard, Lost, GivenUp, Stopped, Returned, Cut, Died, Yielded, Torn, Answered, Replaced}
use Rattle.ec_wire.specs.declared.message.Body.{Body}
use Rattle.ec_wire.specs.declared.message.Body.TheVariants.{ToBrick, ToClient}
use Rattle.ec_wire.specs.declared.message.Message.{Message}
use Rattle.ec_wire.specs.declared.op.Op.{Op}
use Rattle.ec_wire.specs.declared.request.Request.{Request}
use Rattle.ec_wire.specs.declared.request.Request.TheVariants.{Ask, Release, Query, PreOp, ReadChunks, WriteChunks, SetLength, PostOp, Clear, NameGet, NamesAfter, NameSet, NamesPut, Make, Made, Unmake, Mark, Unmark, GfidsAfter}
use Rattle.ec_law_turns.proofs.Basics.{equal, put_there}
use Rattle.ec_law_turns.proofs.Numbered.{IsPlainEntry}
use Rattle.ec_law_flats.specs.Plans.{AreBuilt, is_unbuilt}

-- the calls that were made stay as they are
pub record CallsStay (m m' : Net) (t t' : Story) : Type 0 where
  pub op : (c : ℕ) → c ≤ m.calls → op_of m' c ≡ op_of m c
  pub took : (c : ℕ) → c ≤ m.calls → (t'.found c).took ≡ (t.found c).took

-- what each call has found stays
kept_if : (c : Bool) (t u w : Story) → u.found ≡ t.found → w.found ≡ t.found → (cond c u w).found ≡ t.found
kept_if true t u w h i = h
kept_if false t u w h i = i

post_found : (geometry : Geometry) (m : Net) (t : Story) (a g b version : ℕ) → (post_done geometry m t a g b version).found ≡ t.found
post_found geometry m t a g b version = by (is_unmarked (head_at (m.brick b).records g)) (is_commit geometry t a g b)
  where
    by : (u c : Bool) → (cond u (cond c (with_flat (with_post t a g b) g (λ flat. committed (quorum geometry) a version (change (quorum geometry) (op_of m a) (t.found a) g flat) flat)) (with_post t a g b)) t).found ≡ t.found
    by true true = refl
    by true false = refl
    by false c = refl

done_found : (geometry : Geometry) (m : Net) (t : Story) (msg : Message) (q : Request) → (done_by geometry m t msg q).found ≡ t.found
done_found geometry m t msg (WriteChunks x n first chunks) = kept_if _ t _ t refl refl
done_found geometry m t msg (SetLength x n keep count) = kept_if _ t _ t refl refl
done_found geometry m t msg (NameSet x n name child) = kept_if _ t _ t refl refl
done_found geometry m t msg (PostOp x n at version size attr) = post_found geometry m t msg.call x.0 msg.brick version
done_found geometry m t msg (Ask x domain kind) = refl
done_found geometry m t msg (Release x n) = refl
done_found geometry m t msg (Query x n) = refl
done_found geometry m t msg (PreOp x n at dirty) = refl
done_found geometry m t msg (ReadChunks x n first count) = refl
done_found geometry m t msg (Clear x n at) = refl
done_found geometry m t msg (NameGet x n name) = refl
done_found geometry m t msg (NamesAfter x n start) = refl
done_found geometry m t msg (NamesPut x n start upto list) = refl
done_found geometry m t msg (Make x n child) = refl
done_found geometry m t msg (Made x n child) = refl
done_found geometry m t msg (Unmake x n child) = refl
done_found geometry m t msg (Mark x n heal head) = refl
done_found geometry m t msg (Unmark x n at dirty) = refl
done_found geometry m t msg (GfidsAfter start dirty) = refl

failed_found : (m : Net) (t : Story) (msg : Message) (q : Request) (o : Option ℕ) → (failed_by m t msg q o).found ≡ t.found
failed_found m t msg (WriteChunks x n first chunks) (Some v) = kept_if _ t _ t refl refl
failed_found m t msg (Ask x domain kind) (Some v) = refl
failed_found m t msg (Release x n) (Some v) = refl
failed_found m t msg (Query x n) (Some v) = refl
failed_found m t msg (PreOp x n at dirty) (Some v) = refl
failed_found m t msg (ReadChunks x n first count) (Some v) = refl
failed_found m t msg (SetLength x n keep count) (Some v) = refl
failed_found m t msg (PostOp x n at version size attr) (Some v) = refl
failed_found m t msg (Clear x n at) (Some v) = refl
failed_found m t msg (NameGet x n name) (Some v) = refl
failed_found m t msg (NamesAfter x n start) (Some v) = refl
failed_found m t msg (NameSet x n name child) (Some v) = refl
failed_found m t msg (NamesPut x n start upto list) (Some v) = refl
failed_found m t msg (Make x n child) (Some v) = refl
failed_found m t msg (Made x n child) (Some v) = refl
failed_found m t msg (Unmake x n child) (Some v) = refl
failed_found m t msg (Mark x n heal head) (Some v) = refl
failed_found m t msg (Unmark x n at dirty) (Some v) = refl
failed_found m t msg (GfidsAfter start dirty) (Some v) = refl
failed_found m t msg (Ask x domain kind) None = refl
failed_found m t msg (Release x n) None = refl
failed_found m t msg (Query x n) None = refl
failed_found m t msg (PreOp x n at dirty) None = refl
failed_found m t msg (ReadChunks x n first count) None = refl
failed_found m t msg (WriteChunks x n first chunks) None = refl
failed_found m t msg (SetLength x n keep count) None = refl
failed_found m t msg (PostOp x n at version size attr) None = refl
failed_found m t msg (Clear x n at) None = refl
failed_found m t msg (NameGet x n name) None = refl
failed_found m t msg (NamesAfter x n start) None = refl
failed_found m t msg (NameSet x n name child) None = refl
failed_found m t msg (NamesPut x n start upto list) None = refl
failed_found m t msg (Make x n child) None = refl
failed_found m t msg (Made x n child) None = refl
failed_found m t msg (Unmake x n child) None = refl
failed_found m t msg (Mark x n heal head) None = refl
failed_found m t msg (Unmark x n at dirty) None = refl
failed_found m t msg (GfidsAfter start dirty) None = refl

torn_found : (m : Net) (t : Story) (msg : Message) (q : Request) (o : Option ℕ) → (torn_by m t msg q o).found ≡ t.found
torn_found m t msg (WriteChunks x n first chunks) (Some v) = kept_if (holds (m.brick msg.brick).asks n x Inode Exclusive) t (opens m t msg x.0 (is_among first (length chunks))) t (kept_if _ t _ t refl refl) refl
torn_found m t msg (Ask x domain kind) (Some v) = refl
torn_found m t msg (Release x n) (Some v) = refl
torn_found m t msg (Query x n) (Some v) = refl
torn_found m t msg (PreOp x n at dirty) (Some v) = refl
torn_found m t msg (ReadChunks x n first count) (Some v) = refl
torn_found m t msg (SetLength x n keep count) (Some v) = refl
torn_found m t msg (PostOp x n at version size attr) (Some v) = refl
torn_found m t msg (Clear x n at) (Some v) = refl
torn_found m t msg (NameGet x n name) (Some v) = refl
torn_found m t msg (NamesAfter x n start) (Some v) = refl
torn_found m t msg (NameSet x n name child) (Some v) = refl
torn_found m t msg (NamesPut x n start upto list) (Some v) = refl
torn_found m t msg (Make x n child) (Some v) = refl
torn_found m t msg (Made x n child) (Some v) = refl
torn_found m t msg (Unmake x n child) (Some v) = refl
torn_found m t msg (Mark x n heal head) (Some v) = refl
torn_found m t msg (Unmark x n at dirty) (Some v) = refl
torn_found m t msg (GfidsAfter start dirty) (Some v) = refl
torn_found m t msg (Ask x domain kind) None = refl
torn_found m t msg (Release x n) None = refl
torn_found m t msg (Query x n) None = refl
torn_found m t msg (PreOp x n at dirty) None = refl
torn_found m t msg (ReadChunks x n first count) None = refl
torn_found m t msg (WriteChunks x n first chunks) None = refl
torn_found m t msg (SetLength x n keep count) None = refl
torn_found m t msg (PostOp x n at version size attr) None = refl
torn_found m t msg (Clear x n at) None = refl
torn_found m t msg (NameGet x n name) None = refl
torn_found m t msg (NamesAfter x n start) None = refl
torn_found m t msg (NameSet x n name child) None = refl
torn_found m t msg (NamesPut x n start upto list) None = refl
torn_found m t msg (Make x n child) None = refl
torn_found m t msg (Made x n child) None = refl
torn_found m t msg (Unmake x n child) None = refl
torn_found m t msg (Mark x n heal head) None = refl
torn_found m t msg (Unmark x n at dirty) None = refl
torn_found m t msg (GfidsAfter start dirty) None = refl

executed_found : (geometry : Geometry) (m : Net) (t : Story) (o : Option Message) (version : Option ℕ) (failed : Bool) → (told_executed geometry m t o version failed).found ≡ t.found
executed_found geometry m t None version failed = refl
executed_found geometry m t (Some msg) version failed = body msg.body failed
  where
    body : (z : Body) (failed : Bool) → (executes geometry m t msg (request_of z) version failed).found ≡ t.found
    body (ToClient re reply) failed = refl
    body (ToBrick q) true = failed_found m t msg q version
    body (ToBrick q) false = kept_if (is_done (out_of m msg q version false).says) t (done_by geometry m t msg q) t (done_found geometry m t msg q) refl

told_torn_found : (m : Net) (t : Story) (o : Option Message) (version : Option ℕ) → (told_torn m t o version).found ≡ t.found
told_torn_found m t None version = refl
told_torn_found m t (Some msg) version = body msg.body
  where
    body : (z : Body) → (tears m t msg (request_of z) version).found ≡ t.found
    body (ToClient re reply) = refl
    body (ToBrick q) = torn_found m t msg q version

-- what a call says of its commit leaves the child that it took
found_took : (t : Story) (a : ℕ) (f : Found → Found) → ((x : Found) → (f x).took ≡ x.took) → (c : ℕ) → ((found_by t a f).found c).took ≡ (t.found c).took
found_took t a f keeps c = by (c == a) refl
  where
    by : (d : Bool) → (c == a) ≡ d → (cond (c == a) (f (t.found a)) (t.found c)).took ≡ (t.found c).took
    by true e = ap (λ (d : Bool). (cond d (f (t.found a)) (t.found c)).took) e ∙ (keeps (t.found a) ∙ ap (λ (z : ℕ). (t.found z).took) (sym (equal c a e)))
    by false e = ap (λ (d : Bool). (cond d (f (t.found a)) (t.found c)).took) e

said_took : (t : Story) (a : ℕ) (z : Body) (c : ℕ) → ((said_by t a z).found c).took ≡ (t.found c).took
said_took t a (ToClient re reply) c = refl
said_took t a (ToBrick (WriteChunks x n first chunks)) c = found_took t a (λ f. record f { rewrote = λ s. f.rewrote s || is_among first (length chunks) s }) (λ x. refl) c
said_took t a (ToBrick (NameSet x n name (Some child))) c = found_took t a (λ f. record f { renames = Some child }) (λ x. refl) c
said_took t a (ToBrick (NameSet x n name None)) c = refl
said_took t a (ToBrick (Ask x domain kind)) c = refl
said_took t a (ToBrick (Release x n)) c = refl
said_took t a (ToBrick (Query x n)) c = refl
said_took t a (ToBrick (PreOp x n at dirty)) c = refl
said_took t a (ToBrick (ReadChunks x n first count)) c = refl
said_took t a (ToBrick (SetLength x n keep count)) c = refl
said_took t a (ToBrick (PostOp x n at version size attr)) c = refl
said_took t a (ToBrick (Clear x n at)) c = refl
said_took t a (ToBrick (NameGet x n name)) c = refl
said_took t a (ToBrick (NamesAfter x n start)) c = refl
said_took t a (ToBrick (NamesPut x n start upto list)) c = refl
said_took t a (ToBrick (Make x n child)) c = refl
said_took t a (ToBrick (Made x n child)) c = refl
said_took t a (ToBrick (Unmake x n child)) c = refl
said_took t a (ToBrick (Mark x n heal head)) c = refl
said_took t a (ToBrick (Unmark x n at dirty)) c = refl
said_took t a (ToBrick (GfidsAfter start dirty)) c = refl

-- the askers stay by entries that are no call
heard_asker : (m : Net) (o : Option Message) → (heard m o).asker ≡ m.asker
heard_asker m None = refl
heard_asker m (Some msg) = body msg.body
  where
    body : (z : Body) → (heard_by m msg z).asker ≡ m.asker
    body (ToBrick q) = refl
    body (ToClient re reply) = refl

executed_asker : (m : Net) (o : Option Message) (version : Option ℕ) (failed : Bool) → (executed m o version failed).asker ≡ m.asker
executed_asker m None version failed = refl
executed_asker m (Some msg) version failed = body msg.body
  where
    body : (z : Body) → (executed_by m msg z version failed).asker ≡ m.asker
    body (ToBrick q) = refl
    body (ToClient re reply) = refl

torn_asker : (m : Net) (o : Option Message) (count : ℕ) (version : Option ℕ) → (torn_off m o count version).asker ≡ m.asker
torn_asker m None count version = refl
torn_asker m (Some msg) count version = body msg.body
  where
    body : (z : Body) → (net_torn_by m msg z count version).asker ≡ m.asker
    body (ToBrick q) = refl
    body (ToClient re reply) = refl

stay_by : (m m' : Net) (t t' : Story) → m'.asker ≡ m.asker → ((c : ℕ) → (t'.found c).took ≡ (t.found c).took) → CallsStay m m' t t'
stay_by m m' t t' e h = record { op = λ c le. ap (λ (f : ℕ → Option Asker). asked_for (f c)) e; took = λ c le. h c }

same_found : (t t' : Story) → t'.found ≡ t.found → (c : ℕ) → (t'.found c).took ≡ (t.found c).took
same_found t t' e c = ap (λ (f : ℕ → Found). (f c).took) e

began_took : (t : Story) (a : ℕ) (op : Op) (c : ℕ) → (c ≡ a → ⊥) → ((began t a op).found c).took ≡ (t.found c).took
began_took t a op c ne = by (makes_a_child op)
  where
    by : (d : Bool) → ((cond d (record (found_by t a (λ f. record f { took = t.next_gfid })) { next_gfid = t.next_gfid + 1 }) t).found c).took ≡ (t.found c).took
    by true = ap (λ (f : Found). f.took) (put_there t.found a (record (t.found a) { took = t.next_gfid }) c ne)
    by false = refl

pub calls_stay : (geometry : Geometry) (m : Net) (t : Story) (e : Entry) → MayEnter geometry.n m e → CallsStay m (net_after m e) t (told geometry m t e)
calls_stay geometry m t (Called a client op) may = record {
  op = λ c le. ap asked_for (put_there m.asker a (Some (record { client = client; op = op })) c (λ z. earlier c le z));
  took = λ c le. began_took t a op c (λ z. earlier c le z);
}
  where
    earlier : (c : ℕ) → c ≤ m.calls → c ≡ a → ⊥
    earlier c le z = let n = may.0 in absurd (omega (arith, le, z, n))
calls_stay geometry m t (Sent msg) may = stay_by m _ t _ refl (said_took t msg.call msg.body)
calls_stay geometry m t (Executed i version failed) may = stay_by m (executed m (m.said i) version failed) t (told_executed geometry m t (m.said i) version failed) (executed_asker m (m.said i) version failed) (same_found t (told_executed geometry m t (m.said i) version failed) (executed_found geometry m t (m.said i) version failed))
calls_stay geometry m t (Heard i) may = stay_by m (heard m (m.said i)) t t (heard_asker m (m.said i)) (λ c. refl)
calls_stay geometry m t (Torn i count version) may = stay_by m (torn_off m (m.said i) count version) t (told_torn m t (m.said i) version) (torn_asker m (m.said i) count version) (same_found t (told_torn m t (m.said i) version) (told_torn_found m t (m.said i) version))
calls_stay geometry m t (Lost i) may = stay_by m _ t t refl (λ c. refl)
calls_stay geometry m t (GivenUp client brick i) may = stay_by m _ t t refl (λ c. refl)
calls_stay geometry m t (Stopped b) may = stay_by m _ t t refl (λ c. refl)
calls_stay geometry m t (Returned b) may = stay_by m _ t t refl (λ c. refl)
calls_stay geometry m t (Cut client b) may = stay_by m _ t t refl (λ c. refl)
calls_stay geometry m t (Died client) may = stay_by m _ t t refl (λ c. refl)
calls_stay geometry m t (Yielded client) may = stay_by m _ t t refl (λ c. refl)
calls_stay geometry m t (Answered a answer) may = stay_by m _ t t refl (λ c. refl)
calls_stay geometry m t (Replaced b removed all) may = stay_by m _ t t refl (λ c. refl)

-- ## Built calls

abbrev pub IsBuiltEntry : Entry → Type 0
IsBuiltEntry (Called a client op) = is_unbuilt op ≡ false
IsBuiltEntry e = Unit {0}

pub built_first : (e : Entry) (es : List Entry) → AreBuilt (e ∷ es) → IsBuiltEntry e × AreBuilt es
built_first (Called a client op) es h = h
built_first (Sent msg) es h = (tt, h)
built_first (Executed i version failed) es h = (tt, h)
built_first (Heard i) es h = (tt, h)
built_first (Lost i) es h = (tt, h)
built_first (GivenUp client brick i) es h = (tt, h)
built_first (Stopped b) es h = (tt, h)
built_first (Returned b) es h = (tt, h)
built_first (Cut client b) es h = (tt, h)
built_first (Died client) es h = (tt, h)
built_first (Yielded client) es h = (tt, h)
built_first (Torn i count version) es h = (tt, h)
built_first (Answered a answer) es h = (tt, h)
built_first (Replaced b removed all) es h = (tt, h)

-- what no call asks for is asked for by none after the entry
ops_by : (P : Op → Bool) (m m' : Net) → m'.asker ≡ m.asker → ((c : ℕ) → P (op_of m c) ≡ false) → (c : ℕ) → P (op_of m' c) ≡ false
ops_by P m m' e h c = ap (λ (f : ℕ → Option Asker). P (asked_for (f c))) e ∙ h c

pub ops_then : (P : Op → Bool) (m : Net) (e : Entry) → ((a client : ℕ) (op : Op) → e ≡ Called a client op → P op ≡ false) → ((c : ℕ) → P (op_of m c) ≡ false) → (c : ℕ) → P (op_of (net_after m e) c) ≡ false
ops_then P m (Called a client op) new h = λ c. by c (c == a)
  where
    by : (c : ℕ) (d : Bool) → P (asked_for (cond d (Some (record { client = client; op = op })) (m.asker c))) ≡ false
    by c true = new a client op refl
    by c false = h c
ops_then P m (Sent msg) new h = h
ops_then P m (Executed i version failed) new h = ops_by P m (executed m (m.said i) version failed) (executed_asker m (m.said i) version failed) h
ops_then P m (Heard i) new h = ops_by P m (heard m (m.said i)) (heard_asker m (m.said i)) h
ops_then P m (Torn i count version) new h = ops_by P m (torn_off m (m.said i) count version) (torn_asker m (m.said i) count version) h
ops_then P m (Lost i) new h = h
ops_then P m (GivenUp client brick i) new h = h
ops_then P m (Stopped b) new h = h
ops_then P m (Returned b) new h = h
ops_then P m (Cut client b) new h = h
ops_then P m (Died client) new h = h
ops_then P m (Yielded client) new h = h
ops_then P m (Answered a answer) new h = h
ops_then P m (Replaced b removed all) new h = h

-- no call is unbuilt
abbrev pub AllBuilt : Net → Type 0
AllBuilt m = (c : ℕ) → is_unbuilt (op_of m c) ≡ false

pub built_then : (m : Net) (e : Entry) → IsBuiltEntry e → AllBuilt m → AllBuilt (net_after m e)
built_then m e new h = ops_then is_unbuilt m e (λ a client op is. subst IsBuiltEntry is new) h

-- nor is one a heal or a sweep
abbrev pub AllPlain : Net → Type 0
AllPlain m = (c : ℕ) → is_heal (op_of m c) ≡ false

pub plain_then : (m : Net) (e : Entry) → IsPlainEntry e → AllPlain m → AllPlain (net_after m e)
plain_then m e new h = ops_then is_heal m e (λ a client op is. subst IsPlainEntry is new) h
