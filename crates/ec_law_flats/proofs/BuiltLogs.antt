-- A log whose calls are built in the end is one of built calls.
use Rattle.std.proofs.Common.{◌≡◌, ℕ, ◌≤◌, Bool, false, Option, Some, None, List, [], ◌∷◌, refl, ◌∙◌, ap, subst, arith}
use Rattle.ec_attr.specs.declared.geometry.Geometry.{Geometry}
use Rattle.ec_history.specs.Flat.{blank}
use Rattle.ec_history.specs.IsRun.{IsRun, May as MayEnter}
use Rattle.ec_history.specs.Run.{Net, after as net_after, executed, executed_by, heard, heard_by, run, torn_by, torn_off}
use Rattle.ec_history.specs.Story.{asked_for, op_of, opening}
use Rattle.ec_wire.specs.declared.entry.Entry.{Entry}
use Rattle.ec_wire.specs.declared.entry.Entry.TheVariants.{Called, Sent, Executed, Heard, Lost, GivenUp, Stopped, Returned, Cut, Died, Yielded, Torn, Answered, Replaced}
use Rattle.ec_wire.specs.declared.message.Body.{Body}
use Rattle.ec_wire.specs.declared.message.Body.TheVariants.{ToBrick, ToClient}
use Rattle.ec_wire.specs.declared.message.Message.{Message}
use Rattle.ec_wire.specs.declared.op.Op.{Op}
use Rattle.ec_law_turns.proofs.Basics.{put_here}
use Rattle.ec_law_flats.specs.Plans.{AreBuilt, is_unbuilt}
use Rattle.ec_law_flats.proofs.Calls.{AllBuilt, calls_stay}

heard_calls : (m : Net) (o : Option Message) → (heard m o).calls ≡ m.calls
heard_calls m None = refl
heard_calls m (Some msg) = body msg.body
  where
    body : (z : Body) → (heard_by m msg z).calls ≡ m.calls
    body (ToBrick q) = refl
    body (ToClient re reply) = refl

executed_calls : (m : Net) (o : Option Message) (version : Option ℕ) (failed : Bool) → (executed m o version failed).calls ≡ m.calls
executed_calls m None version failed = refl
executed_calls m (Some msg) version failed = body msg.body
  where
    body : (z : Body) → (executed_by m msg z version failed).calls ≡ m.calls
    body (ToBrick q) = refl
    body (ToClient re reply) = refl

torn_calls : (m : Net) (o : Option Message) (count : ℕ) (version : Option ℕ) → (torn_off m o count version).calls ≡ m.calls
torn_calls m None count version = refl
torn_calls m (Some msg) count version = body msg.body
  where
    body : (z : Body) → (torn_by m msg z count version).calls ≡ m.calls
    body (ToBrick q) = refl
    body (ToClient re reply) = refl

same_bound : (c x y : ℕ) → y ≡ x → c ≤ x → c ≤ y
same_bound c x y e le = omega (arith, e, le)

-- calls are numbered upwards
later : (n : ℕ) (m : Net) (e : Entry) (c : ℕ) → MayEnter n m e → c ≤ m.calls → c ≤ (net_after m e).calls
later n m (Called a client op) c may le = let z = may.0 in omega (arith, z, le)
later n m (Sent msg) c may le = le
later n m (Executed i version failed) c may le = same_bound c m.calls (executed m (m.said i) version failed).calls (executed_calls m (m.said i) version failed) le
later n m (Heard i) c may le = same_bound c m.calls (heard m (m.said i)).calls (heard_calls m (m.said i)) le
later n m (Torn i count version) c may le = same_bound c m.calls (torn_off m (m.said i) count version).calls (torn_calls m (m.said i) count version) le
later n m (Lost i) c may le = le
later n m (GivenUp client brick i) c may le = le
later n m (Stopped b) c may le = le
later n m (Returned b) c may le = le
later n m (Cut client b) c may le = le
later n m (Died client) c may le = le
later n m (Yielded client) c may le = le
later n m (Answered a answer) c may le = le
later n m (Replaced b removed all) c may le = le

-- so what a call asked for stays
ops_stay : (geometry : Geometry) (es : List Entry) (m : Net) (c : ℕ) → IsRun geometry.n es m → c ≤ m.calls → op_of (run es m) c ≡ op_of m c
ops_stay geometry [] m c runs le = refl
ops_stay geometry (e ∷ es) m c runs le = ops_stay geometry es (net_after m e) c runs.1 (later geometry.n m e c runs.0 le) ∙ (calls_stay geometry m (opening (λ g. blank) 0) e runs.0).op c le

pub built_log : (geometry : Geometry) (es : List Entry) (m : Net) → IsRun geometry.n es m → AllBuilt (run es m) → AreBuilt es
built_log geometry [] m runs h = tt
built_log geometry (Called a client op ∷ es) m runs h = (
  subst (λ (o : Op). is_unbuilt o ≡ false) (ops_stay geometry es (net_after m (Called a client op)) a runs.1 (omega arith) ∙ ap asked_for (put_here m.asker a (Some (record { client = client; op = op })) a refl)) (h a),
  built_log geometry es (net_after m (Called a client op)) runs.1 h,
)
built_log geometry (Sent msg ∷ es) m runs h = built_log geometry es (net_after m (Sent msg)) runs.1 h
built_log geometry (Executed i version failed ∷ es) m runs h = built_log geometry es (net_after m (Executed i version failed)) runs.1 h
built_log geometry (Heard i ∷ es) m runs h = built_log geometry es (net_after m (Heard i)) runs.1 h
built_log geometry (Torn i count version ∷ es) m runs h = built_log geometry es (net_after m (Torn i count version)) runs.1 h
built_log geometry (Lost i ∷ es) m runs h = built_log geometry es (net_after m (Lost i)) runs.1 h
built_log geometry (GivenUp client brick i ∷ es) m runs h = built_log geometry es (net_after m (GivenUp client brick i)) runs.1 h
built_log geometry (Stopped b ∷ es) m runs h = built_log geometry es (net_after m (Stopped b)) runs.1 h
built_log geometry (Returned b ∷ es) m runs h = built_log geometry es (net_after m (Returned b)) runs.1 h
built_log geometry (Cut client b ∷ es) m runs h = built_log geometry es (net_after m (Cut client b)) runs.1 h
built_log geometry (Died client ∷ es) m runs h = built_log geometry es (net_after m (Died client)) runs.1 h
built_log geometry (Yielded client ∷ es) m runs h = built_log geometry es (net_after m (Yielded client)) runs.1 h
built_log geometry (Answered a answer ∷ es) m runs h = built_log geometry es (net_after m (Answered a answer)) runs.1 h
built_log geometry (Replaced b removed all ∷ es) m runs h = built_log geometry es (net_after m (Replaced b removed all)) runs.1 h
