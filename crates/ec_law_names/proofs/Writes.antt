-- What the plans of names take of writes, by the laws of writes.
use Rattle.std.proofs.Common.{ℕ, Bool, true, false, Option, Some, None, List, [], ◌∷◌, refl}
use Rattle.ec_attr.specs.declared.geometry.Geometry.{Geometry}
use Rattle.ec_history.specs.Accounts.{Books, Leaving, booked}
use Rattle.ec_history.specs.Run.{Net, after as net_after}
use Rattle.ec_history.specs.Story.{Story, told}
use Rattle.ec_conduct.specs.Account.{at}
use Rattle.ec_conduct.specs.Opened.{account}
use Rattle.ec_conduct.specs.Standing.{changes_at}
use Rattle.ec_wire.specs.declared.entry.Entry.{Entry}
use Rattle.ec_wire.specs.declared.entry.Entry.TheVariants.{Executed}
use Rattle.ec_wire.specs.declared.message.Body.{Body}
use Rattle.ec_wire.specs.declared.message.Body.TheVariants.{ToBrick, ToClient}
use Rattle.ec_wire.specs.declared.message.Message.{Message}
use Rattle.ec_wire.specs.declared.request.Request.{Request}
use Rattle.ec_wire.specs.declared.request.Request.TheVariants.{NameSet}
use Rattle.ec_law_net.specs.Turns.{View, seen_after}
use Rattle.ec_law_data.specs.Deeds.{file_after}
use Rattle.ec_law_data.specs.Forms.{of_directory}
use Rattle.ec_law_data.proofs.Forms.{directory_fits}
use Rattle.ec_law_base.specs.State.{State}
use Rattle.ec_law_plans.specs.Given as given
use Rattle.ec_law_plans.specs.Given.{WriteLaws}
use Rattle.ec_law_plans.specs.Naming.{NameFile, NamePlans}
use Rattle.ec_law_writes.specs.Guarding as guarding
use Rattle.ec_law_writes.specs.Laws.{TakesWriters, WriteGuardLaws, WrittenLaws}
use Rattle.ec_law_writes.specs.Writing as writing

pub takes_names : TakesWriters of_directory
takes_names g q on = directory_fits.writers g q on

-- ## What a brick sets

guard_as : (s : State) (a b : ℕ) → guarding.IsGuarded s a b → given.IsGuarded s a b
guard_as s a b h = record { before = h.before; holds = h.holds; present = h.present; version = h.version; number = h.number; met = h.met }

body_guarded : (g : ℕ) (m : Net) (v : View) (msg : Message) (z : Body) (version : Option ℕ) (failed : Bool) → guarding.BodyGuarded g m v msg z version failed → given.BodyGuarded g m v msg z version failed
body_guarded g m v msg (ToBrick (NameSet x n name child)) version false h = λ on done. guard_as v.core (v.of msg.no) msg.brick (h on refl done)
body_guarded g m v msg (ToBrick (NameSet x n name child)) version true h = tt
body_guarded g m v msg z version failed h = tt

message_guarded : (g : ℕ) (m : Net) (v : View) (o : Option Message) (version : Option ℕ) (failed : Bool) → guarding.MessageGuarded g m v o version failed → given.MessageGuarded g m v o version failed
message_guarded g m v None version failed h = tt
message_guarded g m v (Some msg) version failed h = body_guarded g m v msg msg.body version failed h

entry_guarded : (g : ℕ) (m : Net) (v : View) (e : Entry) → guarding.EntryGuarded g m v e → given.EntryGuarded g m v e
entry_guarded g m v (Executed i version failed) h = message_guarded g m v (m.said i) version failed h
entry_guarded g m v e h = tt

all_guarded : (g : ℕ) (es : List Entry) (m : Net) (v : View) → guarding.AllGuarded g es m v → given.AllGuarded g es m v
all_guarded g [] m v h = tt
all_guarded g (e ∷ es) m v h = (entry_guarded g m v e h.0, all_guarded g es (net_after m e) (seen_after g m v e) h.1)

-- ## What a brick has written as it does a PostOp

are_written : (g : ℕ) (f : NameFile) (a b : ℕ) (qs : List Request) → writing.AreWritten of_directory g f a b qs → given.AreWritten of_directory g f a b qs
are_written g f a b [] h = tt
are_written g f a b (q ∷ qs) h = (h.0, are_written g f a b qs h.1)

body_writes : (g : ℕ) (m : Net) (v : View) (b : Books) (f : NameFile) (msg : Message) (z : Body) (version : Option ℕ) (failed : Bool) → writing.BodyWrites of_directory g m v b f msg z version failed → given.BodyWrites of_directory g m v b f msg z version failed
body_writes g m v b f msg (ToBrick q) version failed h = λ on done. let w = h on in record {
  given = w.given;
  made = w.made;
  own = w.front;
  head = w.head;
  all = w.all;
  written = are_written g f (v.of msg.no) msg.brick (changes_at (at (account w.given w.front) g msg.brick)) w.written;
}
body_writes g m v b f msg (ToClient re reply) version failed h = tt

message_writes : (g : ℕ) (m : Net) (v : View) (b : Books) (f : NameFile) (o : Option Message) (version : Option ℕ) (failed : Bool) → writing.MessageWrites of_directory g m v b f o version failed → given.MessageWrites of_directory g m v b f o version failed
message_writes g m v b f None version failed h = tt
message_writes g m v b f (Some msg) version failed h = body_writes g m v b f msg msg.body version failed h

entry_writes : (g : ℕ) (m : Net) (v : View) (b : Books) (f : NameFile) (e : Entry) → writing.EntryWrites of_directory g m v b f e → given.EntryWrites of_directory g m v b f e
entry_writes g m v b f (Executed i version failed) h = message_writes g m v b f (m.said i) version failed h
entry_writes g m v b f e h = tt

all_write : (plans : NamePlans) (geometry : Geometry) (left : ℕ → Leaving) (n k g : ℕ) (es : List Entry) (m : Net) (v : View) (t : Story) (b : Books) (f : NameFile) → writing.AllWrite of_directory plans geometry left n k g es m v t b f → given.AllWrite of_directory plans geometry left n k g es m v t b f
all_write plans geometry left n k g [] m v t b f h = tt
all_write plans geometry left n k g (e ∷ es) m v t b f h = (entry_writes g m v b f e h.0, all_write plans geometry left n k g es (net_after m e) (seen_after g m v e) (told geometry m t e) (booked geometry left m t b e) (file_after of_directory plans n k g m v f e) h.1)

pub write_law : WriteGuardLaws → WrittenLaws of_directory → WriteLaws
write_law guards writes = record {
  guarded = λ config records bricks tree next g es start runs plain orderly data_first. all_guarded g es _ _ (guards.guarded config records bricks tree next g es start runs plain orderly data_first);
  written = λ plans config records bricks tree next g es f start runs plain orderly data_first. all_write plans config.geometry orderly.left config.geometry.n _ g es _ _ _ _ f (writes.written plans config records bricks tree next g es f start runs plain orderly data_first);
}
