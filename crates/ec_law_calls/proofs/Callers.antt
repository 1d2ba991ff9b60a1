-- A log whose calls are plain in the end is one of plain calls.
use Rattle.std.proofs.Common.{◌≡◌, ℕ, ◌≤◌, refl, ◌∙◌, ap, arith, Bool, List, [], ◌∷◌, Option, Some, None}
use Rattle.ec_wire.specs.declared.entry.Entry.{Entry}
use Rattle.ec_wire.specs.declared.entry.Entry.TheVariants.{Called, Sent, Executed, Heard, Lost, GivenUp, Stopped, Returned, Cut, Died, Yielded, Torn, Answered, Replaced}
use Rattle.ec_wire.specs.declared.message.Body.{Body}
use Rattle.ec_wire.specs.declared.message.Body.TheVariants.{ToBrick, ToClient}
use Rattle.ec_wire.specs.declared.message.Message.{Message}
use Rattle.ec_history.specs.IsRun.{IsRun, May}
use Rattle.ec_history.specs.Run.{Asker, Net, after, executed, executed_by, heard, heard_by, run, torn_by, torn_off}
use Rattle.ec_law_turns.specs.Orderly.{ArePlain, IsPlain}
use Rattle.ec_law_turns.proofs.Basics.{put_here, put_there}

-- the calls that were made stay, and no number is used again
pub record Stay (m k : Net) : Type 0 where
  pub grows : m.calls ≤ k.calls
  pub same : (a : ℕ) → a ≤ m.calls → k.asker a ≡ m.asker a

as_before : (m k : Net) → k.calls ≡ m.calls → k.asker ≡ m.asker → Stay m k
as_before m k calls asker = record { grows = omega (arith, calls); same = λ a le. ap (λ (f : ℕ → Option Asker). f a) asker }

executed_callers : (m : Net) (o : Option Message) (version : Option ℕ) (failed : Bool) → ((executed m o version failed).calls ≡ m.calls) × ((executed m o version failed).asker ≡ m.asker)
executed_callers m None version failed = (refl, refl)
executed_callers m (Some msg) version failed = by_body msg.body
  where
    by_body : (z : Body) → ((executed_by m msg z version failed).calls ≡ m.calls) × ((executed_by m msg z version failed).asker ≡ m.asker)
    by_body (ToBrick q) = (refl, refl)
    by_body (ToClient re reply) = (refl, refl)

heard_callers : (m : Net) (o : Option Message) → ((heard m o).calls ≡ m.calls) × ((heard m o).asker ≡ m.asker)
heard_callers m None = (refl, refl)
heard_callers m (Some msg) = by_body msg.body
  where
    by_body : (z : Body) → ((heard_by m msg z).calls ≡ m.calls) × ((heard_by m msg z).asker ≡ m.asker)
    by_body (ToBrick q) = (refl, refl)
    by_body (ToClient re reply) = (refl, refl)

torn_callers : (m : Net) (o : Option Message) (bytes : ℕ) (version : Option ℕ) → ((torn_off m o bytes version).calls ≡ m.calls) × ((torn_off m o bytes version).asker ≡ m.asker)
torn_callers m None bytes version = (refl, refl)
torn_callers m (Some msg) bytes version = by_body msg.body
  where
    by_body : (z : Body) → ((torn_by m msg z bytes version).calls ≡ m.calls) × ((torn_by m msg z bytes version).asker ≡ m.asker)
    by_body (ToBrick q) = (refl, refl)
    by_body (ToClient re reply) = (refl, refl)

pub stays : (n : ℕ) (m : Net) (e : Entry) → May n m e → Stay m (after m e)
stays n m (Called a client op) may = record {
  grows = let e = may.0 in omega (arith, e);
  same = λ b le. put_there m.asker a (Some (record { client = client; op = op })) b (λ z. let e = may.0 in omega (arith, le, z, e));
}
stays n m (Executed i version failed) may = let o = executed_callers m (m.said i) version failed in as_before m (after m (Executed i version failed)) o.0 o.1
stays n m (Heard i) may = let o = heard_callers m (m.said i) in as_before m (after m (Heard i)) o.0 o.1
stays n m (Torn i bytes version) may = let o = torn_callers m (m.said i) bytes version in as_before m (after m (Torn i bytes version)) o.0 o.1
stays n m e may = as_before m (after m e) refl refl

all_stay : (n : ℕ) (es : List Entry) (m : Net) → IsRun n es m → Stay m (run es m)
all_stay n [] m runs = as_before m m refl refl
all_stay n (e ∷ es) m runs =
    let first = stays n m e runs.0 in
    let rest = all_stay n es (after m e) runs.1 in
    record {
      grows = let x = first.grows in let y = rest.grows in omega (arith, x, y);
      same = λ a le. rest.same a (let x = first.grows in omega (arith, x, le)) ∙ first.same a le;
    }

-- each call that was made is plain
abbrev pub PlainCallers : (ℕ → Option Asker) → Type 0
PlainCallers askers = (a : ℕ) (asker : Asker) → askers a ≡ Some asker → IsPlain asker.op

pub plain_log : (n : ℕ) (es : List Entry) (m : Net) → IsRun n es m → PlainCallers (run es m).asker → ArePlain es
plain_log n [] m runs plain = tt
plain_log n (Called a client op ∷ es) m runs plain =
    let k = after m (Called a client op) in
    let asker : Asker = record { client = client; op = op } in
    let stay = all_stay n es k runs.1 in
    (plain a asker (stay.same a (omega arith) ∙ put_here m.asker a (Some asker) a refl), plain_log n es k runs.1 plain)
plain_log n (Sent msg ∷ es) m runs plain = plain_log n es (after m (Sent msg)) runs.1 plain
plain_log n (Executed i version failed ∷ es) m runs plain = plain_log n es (after m (Executed i version failed)) runs.1 plain
plain_log n (Heard i ∷ es) m runs plain = plain_log n es (after m (Heard i)) runs.1 plain
plain_log n (Lost i ∷ es) m runs plain = plain_log n es (after m (Lost i)) runs.1 plain
plain_log n (GivenUp client brick i ∷ es) m runs plain = plain_log n es (after m (GivenUp client brick i)) runs.1 plain
plain_log n (Stopped b ∷ es) m runs plain = plain_log n es (after m (Stopped b)) runs.1 plain
plain_log n (Returned b ∷ es) m runs plain = plain_log n es (after m (Returned b)) runs.1 plain
plain_log n (Cut client b ∷ es) m runs plain = plain_log n es (after m (Cut client b)) runs.1 plain
plain_log n (Died client ∷ es) m runs plain = plain_log n es (after m (Died client)) runs.1 plain
plain_log n (Yielded client ∷ es) m runs plain = plain_log n es (after m (Yielded client)) runs.1 plain
plain_log n (Torn i bytes version ∷ es) m runs plain = plain_log n es (after m (Torn i bytes version)) runs.1 plain
plain_log n (Answered a answer ∷ es) m runs plain = plain_log n es (after m (Answered a answer)) runs.1 plain
plain_log n (Replaced b removed all ∷ es) m runs plain = plain_log n es (after m (Replaced b removed all)) runs.1 plain
