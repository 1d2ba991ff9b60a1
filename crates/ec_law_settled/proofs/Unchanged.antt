-- Requests that alter no records leave them, and leave the flat files.
use Rattle.std.proofs.Common.{◌≡◌, inl, inr, ℕ, ◌+◌, Bool, true, false, cond, Option, Some, None, List, [], ◌∷◌, ◌++◌, refl, sym, ap, ◌∙◌}
use Rattle.ec_attr.specs.declared.geometry.Geometry.{Geometry}
use Rattle.ec_brick.proofs.Steps.{row_keeps}
use Rattle.ec_brick.specs.Rows.{row_of}
use Rattle.ec_brick.specs.State.{State}
use Rattle.ec_brick.specs.Step.{Before, Failing, Fine, Within, executed as executed_at, quiet, step, work}
use Rattle.ec_history.proofs.Runs.{rest}
use Rattle.ec_history.specs.Run.{Net, after, executed, executed_by, failing, fresh, heard, heard_by, out_of, run}
use Rattle.ec_history.specs.Script.{entries_of}
use Rattle.ec_history.specs.Story.{Story, began, executes, is_done, makes_a_child, outcome, request_of, said_by, story, told, told_executed}
use Rattle.ec_wire.specs.declared.entry.Entry.{Entry}
use Rattle.ec_wire.specs.declared.entry.Entry.TheVariants.{Called, Sent, Executed, Heard, Lost, GivenUp, Answered}
use Rattle.ec_wire.specs.declared.message.Body.{Body}
use Rattle.ec_wire.specs.declared.message.Body.TheVariants.{ToBrick, ToClient}
use Rattle.ec_wire.specs.declared.message.Message.{Message}
use Rattle.ec_wire.specs.declared.op.Op.{Op}
use Rattle.ec_wire.specs.declared.request.Request.{Request}
use Rattle.ec_wire.specs.declared.request.Request.TheVariants.{Ask, Release, Query, ReadChunks, NameGet, NamesAfter, NameSet, WriteChunks, GfidsAfter}
use Rattle.ec_law_settled.specs.Calm.{IsCalmEntry}
use Rattle.ec_law_settled.specs.Laws.{GoesCalmly, OfEverySettledCall}
use Rattle.ec_law_settled.specs.Unchanged.{FlatsStay, NoneAlters, RecordsStay, alters, body_alters, entry_alters, message_alters}
use Rattle.ec_law_settled.proofs.Places.{put_at}

-- ## A brick

executed_leaves : (s : State) (f : Failing) (client number : ℕ) (q : Request) → alters q ≡ false → (executed_at s f client number q).brick.records ≡ s.records
executed_leaves s f client number (Ask g domain kind) e = refl
executed_leaves s f client number (Release g grant) e = refl
executed_leaves s Fine client number (GfidsAfter past dirty) e = refl
executed_leaves s Before client number (GfidsAfter past dirty) e = refl
executed_leaves s Within client number (GfidsAfter past dirty) e = refl
executed_leaves s f client number (Query g grant) e = row_keeps (λ (x : State). x.records ≡ s.records) s f (work s (Query g grant)) (row_of (Query g grant)) refl refl refl
executed_leaves s f client number (ReadChunks g grant first count) e = row_keeps (λ (x : State). x.records ≡ s.records) s f (work s (ReadChunks g grant first count)) (row_of (ReadChunks g grant first count)) refl refl refl
executed_leaves s f client number (NameGet g grant name) e = row_keeps (λ (x : State). x.records ≡ s.records) s f (work s (NameGet g grant name)) (row_of (NameGet g grant name)) refl refl refl
executed_leaves s f client number (NamesAfter g grant past) e = row_keeps (λ (x : State). x.records ≡ s.records) s f (work s (NamesAfter g grant past)) (row_of (NamesAfter g grant past)) refl refl refl
executed_leaves s f client number q e = absurd (cc)

pub step_leaves : (s : State) (f : Failing) (client number : ℕ) (q : Request) → alters q ≡ false → (step s f client number q).brick.records ≡ s.records
step_leaves s f client number q e = by s.up
  where
    by : (t : Bool) → (cond t (executed_at s f client number q) (quiet s)).brick.records ≡ s.records
    by true = executed_leaves s f client number q e
    by false = refl

-- ## The bricks after an entry

by_body : (m : Net) (msg : Message) (body : Body) (version : Option ℕ) (failed : Bool) (b : ℕ) → body_alters body ≡ false → ((executed_by m msg body version failed).brick b).records ≡ (m.brick b).records
by_body m msg (ToBrick q) version failed b e = elim (put_at m.brick msg.brick (out_of m msg q version failed).brick b) [
  | inl w ↦ ap (λ (s : State). s.records) w.1 ∙ (step_leaves (m.brick msg.brick) (failing failed version) msg.client msg.no q e ∙ ap (λ (z : ℕ). (m.brick z).records) (sym w.0))
  | inr w ↦ ap (λ (s : State). s.records) w.1
]
by_body m msg (ToClient re reply) version failed b e = refl

by_message : (m : Net) (o : Option Message) (version : Option ℕ) (failed : Bool) (b : ℕ) → message_alters o ≡ false → ((executed m o version failed).brick b).records ≡ (m.brick b).records
by_message m None version failed b e = refl
by_message m (Some msg) version failed b e = by_body m msg msg.body version failed b e

heard_leaves : (m : Net) (msg : Message) (body : Body) → (heard_by m msg body).brick ≡ m.brick
heard_leaves m msg (ToBrick q) = refl
heard_leaves m msg (ToClient re reply) = refl

heard_brick : (m : Net) (o : Option Message) → (heard m o).brick ≡ m.brick
heard_brick m None = refl
heard_brick m (Some msg) = heard_leaves m msg msg.body

entry_leaves : (m : Net) (e : Entry) (b : ℕ) → IsCalmEntry m e → entry_alters m e ≡ false → ((after m e).brick b).records ≡ (m.brick b).records
entry_leaves m (Called call client op) b calm still = refl
entry_leaves m (Sent msg) b calm still = refl
entry_leaves m (Executed i version failed) b calm still = by_message m (m.said i) version failed b still
entry_leaves m (Heard i) b calm still = ap (λ (f : ℕ → State). (f b).records) (heard_brick m (m.said i))
entry_leaves m (Lost i) b calm still = refl
entry_leaves m (GivenUp client brick i) b calm still = refl
entry_leaves m (Answered call answer) b calm still = refl
entry_leaves m e b calm still = absurd calm

-- ## The flat files after it

same_cond : (t : Bool) (x : Story) → cond t x x ≡ x
same_cond true x = refl
same_cond false x = refl

outcome_leaves : (geometry : Geometry) (m : Net) (t : Story) (msg : Message) (q : Request) (version : Option ℕ) (failed : Bool) → alters q ≡ false → outcome geometry m t msg q version failed ≡ t
outcome_leaves geometry m t msg (Ask g domain kind) version true e = refl
outcome_leaves geometry m t msg (Ask g domain kind) version false e = same_cond (is_done (out_of m msg (Ask g domain kind) version false).says) t
outcome_leaves geometry m t msg (Release g grant) version true e = refl
outcome_leaves geometry m t msg (Release g grant) version false e = same_cond (is_done (out_of m msg (Release g grant) version false).says) t
outcome_leaves geometry m t msg (Query g grant) version true e = refl
outcome_leaves geometry m t msg (Query g grant) version false e = same_cond (is_done (out_of m msg (Query g grant) version false).says) t
outcome_leaves geometry m t msg (ReadChunks g grant first count) version true e = refl
outcome_leaves geometry m t msg (ReadChunks g grant first count) version false e = same_cond (is_done (out_of m msg (ReadChunks g grant first count) version false).says) t
outcome_leaves geometry m t msg (NameGet g grant name) version true e = refl
outcome_leaves geometry m t msg (NameGet g grant name) version false e = same_cond (is_done (out_of m msg (NameGet g grant name) version false).says) t
outcome_leaves geometry m t msg (NamesAfter g grant past) version true e = refl
outcome_leaves geometry m t msg (NamesAfter g grant past) version false e = same_cond (is_done (out_of m msg (NamesAfter g grant past) version false).says) t
outcome_leaves geometry m t msg (GfidsAfter past dirty) version true e = refl
outcome_leaves geometry m t msg (GfidsAfter past dirty) version false e = same_cond (is_done (out_of m msg (GfidsAfter past dirty) version false).says) t
outcome_leaves geometry m t msg q version failed e = absurd (cc)

executes_leaves : (geometry : Geometry) (m : Net) (t : Story) (msg : Message) (body : Body) (version : Option ℕ) (failed : Bool) → body_alters body ≡ false → executes geometry m t msg (request_of body) version failed ≡ t
executes_leaves geometry m t msg (ToBrick q) version failed e = outcome_leaves geometry m t msg q version failed e
executes_leaves geometry m t msg (ToClient re reply) version failed e = refl

told_leaves : (geometry : Geometry) (m : Net) (t : Story) (o : Option Message) (version : Option ℕ) (failed : Bool) → message_alters o ≡ false → told_executed geometry m t o version failed ≡ t
told_leaves geometry m t None version failed e = refl
told_leaves geometry m t (Some msg) version failed e = executes_leaves geometry m t msg msg.body version failed e

-- the trees of two moments are the same, and so is what was posted
abbrev Same : Story → Story → Type 0
Same t u = (u.tree ≡ t.tree) × (u.posted ≡ t.posted)

same_then : (t u v : Story) → Same t u → Same u v → Same t v
same_then t u v x y = (y.0 ∙ x.0, y.1 ∙ x.1)

equal_same : (t u : Story) → u ≡ t → Same t u
equal_same t u e = (ap (λ (z : Story). z.tree) e, ap (λ (z : Story). z.posted) e)

began_same : (t : Story) (call : ℕ) (op : Op) → Same t (began t call op)
began_same t call op = by (makes_a_child op)
  where
    by : (b : Bool) → Same t (cond b (record (Rattle.ec_history.specs.Story.found_by t call (λ f. record f { took = t.next_gfid })) { next_gfid = t.next_gfid + 1 }) t)
    by true = (refl, refl)
    by false = (refl, refl)

said_same : (t : Story) (a : ℕ) (body : Body) → Same t (said_by t a body)
said_same t a (ToBrick (WriteChunks g n first chunks)) = (refl, refl)
said_same t a (ToBrick (NameSet g n name (Some child))) = (refl, refl)
said_same t a (ToBrick (NameSet g n name None)) = (refl, refl)
said_same t a (ToBrick q) = (refl, refl)
said_same t a (ToClient re reply) = (refl, refl)

entry_same : (geometry : Geometry) (m : Net) (t : Story) (e : Entry) → IsCalmEntry m e → entry_alters m e ≡ false → Same t (told geometry m t e)
entry_same geometry m t (Called call client op) calm still = began_same t call op
entry_same geometry m t (Sent msg) calm still = said_same t msg.call msg.body
entry_same geometry m t (Executed i version failed) calm still = equal_same t (told_executed geometry m t (m.said i) version failed) (told_leaves geometry m t (m.said i) version failed still)
entry_same geometry m t (Heard i) calm still = (refl, refl)
entry_same geometry m t (Lost i) calm still = (refl, refl)
entry_same geometry m t (GivenUp client brick i) calm still = (refl, refl)
entry_same geometry m t (Answered call answer) calm still = (refl, refl)
entry_same geometry m t e calm still = absurd calm

-- ## Along calm entries

-- each of these is calm, by the net before it
abbrev AllCalm : List Entry → Net → Type 0
AllCalm [] m = Unit {0}
AllCalm (e ∷ es) m = IsCalmEntry m e × AllCalm es (after m e)

all_calm : (n call : ℕ) (front rest : List Entry) (m : Net) (es : List Entry) → es ≡ front ++ rest → GoesCalmly n m call es → AllCalm front m
all_calm n call [] rest m es parts calm = tt
all_calm n call (e ∷ front) rest m es parts calm = (calm [] (front ++ rest) e parts, all_calm n call front rest (after m e) (front ++ rest) refl (λ f r x p. calm (e ∷ f) r x (parts ∙ ap (λ (l : List Entry). e ∷ l) p)))

records_along : (front : List Entry) (m : Net) (b : ℕ) → AllCalm front m → NoneAlters front m → ((run front m).brick b).records ≡ (m.brick b).records
records_along [] m b calm none = refl
records_along (e ∷ front) m b calm none = records_along front (after m e) b calm.1 none.1 ∙ entry_leaves m e b calm.0 none.0

flats_along : (geometry : Geometry) (front : List Entry) (m : Net) (t : Story) → AllCalm front m → NoneAlters front m → Same t (story geometry front m t)
flats_along geometry [] m t calm none = (refl, refl)
flats_along geometry (e ∷ front) m t calm none = same_then t (told geometry m t e) (story geometry front (after m e) (told geometry m t e)) (entry_same geometry m t e calm.0 none.0) (flats_along geometry front (after m e) (told geometry m t e) calm.1 none.1)

records_stay : (n : ℕ) (m : Net) (call : ℕ) (es : List Entry) → GoesCalmly n m call es → RecordsStay n m call es
records_stay n m call es calm front rest b parts none = records_along front m b (all_calm n call front rest m es parts calm) none

flats_stay : (n : ℕ) (m : Net) (call : ℕ) (es : List Entry) → GoesCalmly n m call es → FlatsStay n m call es
flats_stay n m call es calm geometry t front rest parts none = flats_along geometry front m t (all_calm n call front rest m es parts calm) none

pub records_law : OfEverySettledCall GoesCalmly → OfEverySettledCall RecordsStay
records_law calm n bricks earlier call client op called steps runs settled sends once = records_stay n (run earlier (fresh bricks)) call (entries_of (called ∷ steps)) (calm n bricks earlier call client op called steps runs settled sends once)

pub flats_law : OfEverySettledCall GoesCalmly → OfEverySettledCall FlatsStay
flats_law calm n bricks earlier call client op called steps runs settled sends once = flats_stay n (run earlier (fresh bricks)) call (entries_of (called ∷ steps)) (calm n bricks earlier call client op called steps runs settled sends once)
