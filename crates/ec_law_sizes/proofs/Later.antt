-- Messages stay, with their turns and what their calls asked for, to the end of a log.
use Rattle.std.proofs.Common.{◌≡◌, ℕ, ◌≤◌, Option, Some, None, List, [], ◌∷◌, refl, ◌∙◌, ap}
use Rattle.ec_attr.specs.declared.geometry.Geometry.{Geometry}
use Rattle.ec_history.specs.Accounts.{Books, Leaving, booked, books}
use Rattle.ec_history.specs.IsRun.{IsRun, May as MayEnter}
use Rattle.ec_history.specs.Run.{Net, after as net_after, run}
use Rattle.ec_history.specs.Story.{Story, op_of, told}
use Rattle.ec_wire.specs.declared.entry.Entry.{Entry}
use Rattle.ec_wire.specs.declared.entry.Entry.TheVariants.{Called, Sent, Executed, Heard, Torn}
use Rattle.ec_wire.specs.declared.message.Message.{Message}
use Rattle.ec_law_net.specs.Turns.{View, seen_after, view}
use Rattle.ec_law_turns.specs.Known.{Known}
use Rattle.ec_law_turns.specs.Orderly.{ArePlain}
use Rattle.ec_law_turns.proofs.Runs.{Kept, kept_there, plain_first}
use Rattle.ec_law_turns.proofs.Sends.{adds}
use Rattle.ec_law_turns.proofs.Steps.{executed_same, heard_same, made_same, torn_same}
use Rattle.ec_law_data.proofs.Reaching.{Reaches, reaches_then}
use Rattle.ec_law_flats.proofs.Calls.{calls_stay}

pub still_entry : (geometry : Geometry) (g : ℕ) (m : Net) (v : View) (b : Books) (e : Entry) → MayEnter geometry.n m e → Known geometry g m v b → (i : ℕ) (x : Message) → m.said i ≡ Some x → ((net_after m e).said i ≡ Some x) × ((seen_after g m v e).of i ≡ v.of i)
still_entry geometry g m v b (Called a client op) may r i x is = (is, ap (λ (f : ℕ → ℕ). f i) (made_same g v a op).1)
still_entry geometry g m v b (Sent msg) may r i x is = (adds geometry.n g m v msg may.0 r.messages).still i x is
still_entry geometry g m v b (Executed j version failed) may r i x is = (ap (λ (f : ℕ → Option Message). f i) (executed_same m (m.said j) version failed).0 ∙ is, refl)
still_entry geometry g m v b (Heard j) may r i x is = (ap (λ (f : ℕ → Option Message). f i) (heard_same m (m.said j)).0 ∙ is, refl)
still_entry geometry g m v b (Torn j bytes version) may r i x is = (ap (λ (f : ℕ → Option Message). f i) (torn_same m (m.said j) bytes version).0 ∙ is, refl)
still_entry geometry g m v b e may r i x is = (is, refl)

module _ (geometry : Geometry) (left : ℕ → Leaving) (none : (a : ℕ) → (left a).kept ≡ None) (first : ℕ) (origins : ℕ → ℕ) (new : (h : ℕ) → first ≤ h → origins h ≡ 0) (g : ℕ) where
  -- messages stay, with their turns
  pub still_log : (es : List Entry) (m : Net) (vs : ℕ → View) (t : Story) (b : Books) → IsRun geometry.n es m → ArePlain es → Kept geometry left none (books geometry left es m t b) → Reaches geometry first origins m vs t b → (i : ℕ) (x : Message) → m.said i ≡ Some x → ((run es m).said i ≡ Some x) × ((view g es m (vs g)).of i ≡ (vs g).of i)
  still_log [] m vs t b runs plain kept k i x is = (is, refl)
  still_log (e ∷ es) m vs t b runs plain kept k i x is =
      let p = plain_first e es plain in
      let may = kept_there geometry left none e es m t b runs plain (k.reached g).known.numbers kept in
      let o = still_entry geometry g m (vs g) b e runs.0 (k.reached g).known i x is in
      let l = still_log es (net_after m e) (λ h. seen_after h m (vs h) e) (told geometry m t e) (booked geometry left m t b e) runs.1 p.1 kept (reaches_then geometry left none first origins new m vs t b e p.0 runs.0 may k) i x o.0 in
      (l.0, l.1 ∙ o.1)

  pub ops_log : (es : List Entry) (m : Net) (vs : ℕ → View) (t : Story) (b : Books) → IsRun geometry.n es m → ArePlain es → Kept geometry left none (books geometry left es m t b) → Reaches geometry first origins m vs t b → (i : ℕ) (x : Message) → m.said i ≡ Some x → op_of (run es m) x.call ≡ op_of m x.call
  ops_log [] m vs t b runs plain kept k i x is = refl
  ops_log (e ∷ es) m vs t b runs plain kept k i x is =
      let p = plain_first e es plain in
      let may = kept_there geometry left none e es m t b runs plain (k.reached g).known.numbers kept in
      let o = still_entry geometry g m (vs g) b e runs.0 (k.reached g).known i x is in
      ops_log es (net_after m e) (λ h. seen_after h m (vs h) e) (told geometry m t e) (booked geometry left m t b e) runs.1 p.1 kept (reaches_then geometry left none first origins new m vs t b e p.0 runs.0 may k) i x o.0 ∙ (calls_stay geometry m t e runs.0).op x.call ((k.reached g).known.numbers.said_below i x is)
