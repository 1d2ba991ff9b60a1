-- What is known at the end of a log, and of what was said before.
use Rattle.std.proofs.Common.{◌≡◌, ℕ, ◌≤◌, Option, Some, None, List, [], ◌∷◌, refl, ◌∙◌, ap}
use Rattle.ec_attr.specs.declared.geometry.Geometry.{Geometry}
use Rattle.ec_history.specs.Accounts.{Books, Leaving, booked, books}
use Rattle.ec_history.specs.IsRun.{IsRun, May as MayEnter}
use Rattle.ec_history.specs.Run.{Net, after as net_after, run}
use Rattle.ec_history.specs.Story.{Story, story, told}
use Rattle.ec_wire.specs.declared.entry.Entry.{Entry}
use Rattle.ec_wire.specs.declared.entry.Entry.TheVariants.{Called, Sent, Executed, Heard, Torn}
use Rattle.ec_wire.specs.declared.message.Message.{Message}
use Rattle.ec_law_net.specs.Turns.{View, seen_after, view}
use Rattle.ec_law_turns.specs.Follows.{Messages}
use Rattle.ec_law_turns.specs.Orderly.{ArePlain}
use Rattle.ec_law_turns.proofs.Runs.{Kept, kept_there, plain_first}
use Rattle.ec_law_turns.proofs.Sends.{adds}
use Rattle.ec_law_turns.proofs.Steps.{executed_same, heard_same, made_same, torn_same}
use Rattle.ec_law_data.proofs.Reaching.{Reaches, reaches_then}

-- what was said stays said, for the same turn
abbrev pub StaysSaid : (ℕ → Option Message) → (ℕ → ℕ) → (ℕ → Option Message) → (ℕ → ℕ) → Type 0
StaysSaid said of said' of' = (i : ℕ) (x : Message) → said i ≡ Some x → (said' i ≡ Some x) × (of' i ≡ of i)

by_parts : (said said' : ℕ → Option Message) (of of' : ℕ → ℕ) → said' ≡ said → of' ≡ of → StaysSaid said of said' of'
by_parts said said' of of' s o i x is = (ap (λ (f : ℕ → Option Message). f i) s ∙ is, ap (λ (f : ℕ → ℕ). f i) o)

entry_stays : (n g : ℕ) (m : Net) (v : View) (e : Entry) → MayEnter n m e → Messages n m.said m.next v.turn v.of → StaysSaid m.said v.of (net_after m e).said (seen_after g m v e).of
entry_stays n g m v (Called a client op) may k = by_parts m.said _ v.of _ refl (made_same g v a op).1
entry_stays n g m v (Sent msg) may k = (adds n g m v msg may.0 k).still
entry_stays n g m v (Executed i version failed) may k = by_parts m.said _ v.of _ (executed_same m (m.said i) version failed).0 refl
entry_stays n g m v (Heard i) may k = by_parts m.said _ v.of _ (heard_same m (m.said i)).0 refl
entry_stays n g m v (Torn i count version) may k = by_parts m.said _ v.of _ (torn_same m (m.said i) count version).0 refl
entry_stays n g m v e may k = by_parts m.said _ v.of _ refl refl

module _ (geometry : Geometry) (left : ℕ → Leaving) (none : (a : ℕ) → (left a).kept ≡ None) (first : ℕ) (origins : ℕ → ℕ) (new : (h : ℕ) → first ≤ h → origins h ≡ 0) where
  pub reaches_end : (es : List Entry) (m : Net) (vs : ℕ → View) (t : Story) (b : Books) → IsRun geometry.n es m → ArePlain es → Kept geometry left none (books geometry left es m t b) → Reaches geometry first origins m vs t b → Reaches geometry first origins (run es m) (λ h. view h es m (vs h)) (story geometry es m t) (books geometry left es m t b)
  reaches_end [] m vs t b runs plain kept k = k
  reaches_end (e ∷ es) m vs t b runs plain kept k =
      let p = plain_first e es plain in
      let may = kept_there geometry left none e es m t b runs plain (k.reached 0).known.numbers kept in
      reaches_end es (net_after m e) (λ h. seen_after h m (vs h) e) (told geometry m t e) (booked geometry left m t b e) runs.1 p.1 kept (reaches_then geometry left none first origins new m vs t b e p.0 runs.0 may k)

  pub said_end : (g : ℕ) (es : List Entry) (m : Net) (vs : ℕ → View) (t : Story) (b : Books) → IsRun geometry.n es m → ArePlain es → Kept geometry left none (books geometry left es m t b) → Reaches geometry first origins m vs t b → StaysSaid m.said (vs g).of (run es m).said (view g es m (vs g)).of
  said_end g [] m vs t b runs plain kept k i x is = (is, refl)
  said_end g (e ∷ es) m vs t b runs plain kept k i x is =
      let p = plain_first e es plain in
      let may = kept_there geometry left none e es m t b runs plain (k.reached 0).known.numbers kept in
      let now = entry_stays geometry.n g m (vs g) e runs.0 (k.reached g).known.messages i x is in
      let rest = said_end g es (net_after m e) (λ h. seen_after h m (vs h) e) (told geometry m t e) (booked geometry left m t b e) runs.1 p.1 kept (reaches_then geometry left none first origins new m vs t b e p.0 runs.0 may k) i x now.0 in
      (rest.0, rest.1 ∙ now.1)
