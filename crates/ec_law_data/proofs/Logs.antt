-- The machine of pieces follows the bricks through every log.
use Rattle.std.proofs.Common.{◌≡◌, ℕ, ◌<◌, Bool, true, false, cond, ◌==◌, Option, Some, [], ◌∷◌, sym, ◌∙◌, ap, subst}
use Rattle.ec_history.specs.IsRun.{May as MayEnter, MaySay}
use Rattle.ec_history.specs.Run.{Net, after as net_after}
use Rattle.ec_wire.specs.declared.entry.Entry.{Entry}
use Rattle.ec_wire.specs.declared.entry.Entry.TheVariants.{Called, Sent, Executed, Heard, Lost, GivenUp, Stopped, Returned, Cut, Died, Yielded, Torn, Answered, Replaced}
use Rattle.ec_wire.specs.declared.message.Body.{Body}
use Rattle.ec_wire.specs.declared.message.Message.{Message}
use Rattle.ec_law_net.specs.Turns.{seen_after}
use Rattle.ec_law_net.proofs.Logs.{heard_same}
use Rattle.ec_law_turns.proofs.Steps.{executed_same, torn_same}
use Rattle.ec_law_data.specs.Deeds.{file_after}
use Rattle.ec_law_data.specs.Laws.{DataLaws, PiecesFollow}
use Rattle.ec_law_data.specs.Link.{Fits, GoToBricks}
use Rattle.ec_law_data.specs.Reading.{Reading}
use Rattle.ec_law_data.specs.Forms.{of_directory, of_file}
use Rattle.ec_law_data.proofs.Entries.{on_entry}
use Rattle.ec_law_data.proofs.Forms.{directory_fits, file_fits}

to_same : (n : ℕ) (m t : Net) → t.said ≡ m.said → GoToBricks n m → GoToBricks n t
to_same n m t e h i x q is body = h i x q (sym (ap (λ (f : ℕ → Option Message). f i) e) ∙ is) body

to_sent : (n : ℕ) (m : Net) (msg : Message) → MaySay n m msg msg.body → GoToBricks n m → GoToBricks n (net_after m (Sent msg))
to_sent n m msg may h i x q is body = at (i == msg.no) is
  where
    at : (t : Bool) → cond t (Some msg) (m.said i) ≡ Some x → x.brick < n
    at true e = let is = some_same msg x e in subst (λ (y : Message). y.brick < n) is (subst (λ (z : Body). MaySay n m msg z) (ap (λ (y : Message). y.body) is ∙ body) may).to
      where
        some_same : (x y : Message) → Some x ≡ Some y → x ≡ y
        some_same x y e = cc
    at false e = h i x q e body

pub to_entry : (n : ℕ) (m : Net) (e : Entry) → MayEnter n m e → GoToBricks n m → GoToBricks n (net_after m e)
to_entry n m (Called a client op) may h = h
to_entry n m (Sent msg) may h = to_sent n m msg may.1 h
to_entry n m (Executed i version failed) may h = to_same n m (net_after m (Executed i version failed)) (executed_same m (m.said i) version failed).0 h
to_entry n m (Heard i) may h = to_same n m (net_after m (Heard i)) (heard_same m (m.said i)).1 h
to_entry n m (Lost i) may h = h
to_entry n m (GivenUp client brick i) may h = h
to_entry n m (Stopped b) may h = h
to_entry n m (Returned b) may h = h
to_entry n m (Cut client b) may h = h
to_entry n m (Died client) may h = h
to_entry n m (Yielded client) may h = h
to_entry n m (Torn i count version) may h = to_same n m (net_after m (Torn i count version)) (torn_same m (m.said i) count version).0 h
to_entry n m (Answered a answer) may h = h
to_entry n m (Replaced b removed all) may h = h

pub pieces_follow : {P V C U S : Type 0} (R : Reading P V C U S) → Fits R → PiecesFollow R
pieces_follow R fits plans n k g [] m v f runs to has unmarked coded = has
pieces_follow R fits plans n k g (e ∷ es) m v f runs to has unmarked coded = pieces_follow R fits plans n k g es (net_after m e) (seen_after g m v e) (file_after R plans n k g m v f e) runs.1 (to_entry n m e runs.0 to) (on_entry R fits plans n k g m f has v e runs.0 to unmarked.0 coded.0) unmarked.1 coded.1

pub data_laws : DataLaws
data_laws = record { of_files = λ k coder zeros. pieces_follow (of_file k coder) (file_fits k coder zeros); of_directories = pieces_follow of_directory directory_fits }
