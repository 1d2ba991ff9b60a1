-- A brick does a Make or Made only where the maker has the directory there.
use Rattle.std.proofs.Common.{◌≡◌, ◌⊎◌, ℕ, Bool, true, cond, ◌==◌, Option, Some, None, List, [], ◌∷◌, sym, ◌∙◌, ap, ⊎_elim}
use Rattle.ec_attr.specs.declared.gfid.Gfid.{Gfid}
use Rattle.ec_attr.specs.declared.kind.Domain.TheVariants.{Inode}
use Rattle.ec_wire.specs.declared.entry.Entry.{Entry}
use Rattle.ec_wire.specs.declared.message.Message.{Message}
use Rattle.ec_wire.specs.declared.request.Request.{Request}
use Rattle.ec_wire.specs.declared.request.Request.TheVariants.{Make, Made}
use Rattle.ec_brick.specs.State.{State as Brick}
use Rattle.ec_brick.specs.Step.{Out, executed, quiet}
use Rattle.ec_brick.specs.declared.row.Check.{Check}
use Rattle.ec_brick.specs.declared.row.Check.TheVariants.{Absent, Fresh}
use Rattle.ec_brick.specs.declared.row.Need.TheVariants.{Writing}
use Rattle.ec_brick.specs.declared.row.Row.{Row}
use Rattle.ec_history.specs.IsRun.{IsAt}
use Rattle.ec_history.specs.Run.{Net, after, call_of, failing, out_of}
use Rattle.ec_history.specs.Story.{is_done}
use Rattle.ec_law_net.specs.Turns.{Maker, View, exclusive, has_directory, is_ask_of, seen_after}
use Rattle.ec_law_net.proofs.Locks.{held}
use Rattle.ec_law_net.proofs.Outcomes.{IsDone, IsNot, outcome}
use Rattle.ec_law_net.proofs.Requests.{fence_meets}
use Rattle.ec_law_turns.specs.Laws.{Always}
use Rattle.ec_law_turns.specs.Makers.{DoneUnderDirectory, IsByMaker, MadeByMaker, UnderDirectory}
use Rattle.ec_law_turns.proofs.Basics.{itself}

abbrev of_child : Gfid → ℕ → Gfid → Check → Row
of_child x n child check = record { gfid = x; grant = n; need = Writing; heal = None; subject = child; check = check }

-- a request that was done passed the fence
under_fence : (s : Brick) (q : Request) (x : Gfid) (n : ℕ) (child : Gfid) (check : Check) (o : Out) → is_done o.says ≡ true → IsDone s q (of_child x n child check) o ⊎ IsNot s o → exclusive x.0 Inode s.asks ≡ Some n
under_fence s q x n child check o done h = ⊎_elim (λ d. held x Inode s.asks n (fence_meets s.asks (of_child x n child check) d.passed).0) (λ d. absurd (let e = sym d.says ∙ done in cc)) h

module _ (g : ℕ) (m : Net) (v : View) (made : MadeByMaker g m v) (i : ℕ) (version : Option ℕ) (failed : Bool) (msg : Message) where
  abbrev s : Brick
  s = m.brick msg.brick

  -- the maker's ask is the one that stands
  has_it : (x n : ℕ) → IsByMaker m.said v.maker msg.call msg.brick x n → exclusive x Inode s.asks ≡ Some n → has_directory m.said v.maker s.asks ≡ true
  has_it x n h e =
      ap (λ (o : Option Maker). has_directory m.said o s.asks) h.maker_is
      ∙ (ap (is_ask_of m.said msg.call) e
      ∙ (ap (λ (o : Option Message). call_of o == msg.call) h.lock.asks.is
      ∙ (ap (λ (y : ℕ). y == msg.call) h.lock.asks.call ∙ itself msg.call)))

  -- the brick is up
  works : (q : Request) → s.up ≡ true → is_done (out_of m msg q version failed).says ≡ true → is_done (executed s (failing failed version) msg.client msg.no q).says ≡ true
  works q up done = sym (ap (λ (t : Bool). is_done (cond t (executed s (failing failed version) msg.client msg.no q) (quiet s)).says) up) ∙ done

  under : (q : Request) → IsAt m i msg q → is_done (out_of m msg q version failed).says ≡ true → UnderDirectory g m v msg.brick q
  under (Make x n child) at done = λ on. has_it x.0 n (made i msg (Make x n child) at.said at.body on) (under_fence s (Make x n child) x n child.gfid Absent (executed s (failing failed version) msg.client msg.no (Make x n child)) (works (Make x n child) at.up done) (outcome s (Make x n child) (of_child x n child.gfid Absent) (failing failed version)))
  under (Made x n child) at done = λ on. has_it x.0 n (made i msg (Made x n child) at.said at.body on) (under_fence s (Made x n child) x n child Fresh (executed s (failing failed version) msg.client msg.no (Made x n child)) (works (Made x n child) at.up done) (outcome s (Made x n child) (of_child x n child Fresh) (failing failed version)))
  under q at done = tt

pub under_directory : (g : ℕ) (m : Net) (v : View) → MadeByMaker g m v → DoneUnderDirectory g m v
under_directory g m v made i version failed may done = under g m v made i version failed may.message may.request may.at done

-- a law that follows from another holds as often
pub always_so : (law so : Net → View → Type 0) → ((m : Net) (v : View) → law m v → so m v) → (g : ℕ) (es : List Entry) (m : Net) (v : View) → Always law g es m v → Always so g es m v
always_so law so f g [] m v h = f m v h
always_so law so f g (e ∷ es) m v h = (f m v h.0, always_so law so f g es (after m e) (seen_after g m v e) h.1)
