-- What the plans of names take of shapes, by the laws of shapes.
use Rattle.std.proofs.Common.{ℕ, Option, Some, None, List, [], ◌∷◌, refl}
use Rattle.ec_attr.specs.declared.config.Config.{Config}
use Rattle.ec_attr.specs.declared.kind.Child.{Child}
use Rattle.ec_brick.specs.State.{State as Brick}
use Rattle.ec_history.specs.Accounts.{Books, Leaving, books, no_books}
use Rattle.ec_history.specs.Flat.{Tree}
use Rattle.ec_history.specs.Run.{Net, fresh, run}
use Rattle.ec_history.specs.Story.{opening}
use Rattle.ec_store.specs.Records.{Records}
use Rattle.ec_conduct.specs.Given.{quorum}
use Rattle.ec_wire.specs.declared.entry.Entry.{Entry}
use Rattle.ec_wire.specs.declared.entry.Entry.TheVariants.{Executed, Sent}
use Rattle.ec_wire.specs.declared.message.Body.{Body}
use Rattle.ec_wire.specs.declared.message.Body.TheVariants.{ToBrick, ToClient}
use Rattle.ec_wire.specs.declared.message.Message.{Message}
use Rattle.ec_wire.specs.declared.request.Request.{Request}
use Rattle.ec_wire.specs.declared.request.Request.TheVariants.{Make, PreOp}
use Rattle.ec_law_pieces.specs.Deed.{Deed, step}
use Rattle.ec_law_pieces.specs.Deed.Deed.{Create, Take}
use Rattle.ec_law_net.specs.Turns.{View, view}
use Rattle.ec_law_data.specs.Deeds.{deeds, file}
use Rattle.ec_law_data.specs.Forms.{Shape, of_directory}
use Rattle.ec_law_data.specs.Laws.{begun, directory_begun}
use Rattle.ec_law_data.specs.Forms.{child_in, directory_flat}
use Rattle.ec_law_data.proofs.Directories.{directory_stands}
use Rattle.ec_law_plans.specs.Given as given
use Rattle.ec_law_plans.specs.Given.{ShapeLaw}
use Rattle.ec_law_plans.specs.Naming.{NameFile, NamePlans}
use Rattle.ec_law_plans.proofs.Shaping.{Begins, Steps, shapes_by}
use Rattle.ec_law_shapes.specs.Fitting as fitting
use Rattle.ec_law_shapes.specs.Laws.{ShapeLaws, ShapesAfter}

-- ## What is asked of the plans

took_fits : (plans : NamePlans) (g : ℕ) (v : View) (b : Books) (msg : Message) (q : Request) → given.TookFits of_directory plans g v b msg q → fitting.TookFits of_directory plans g v b msg q
took_fits plans g v b msg (PreOp x n at number) h = h
took_fits plans g v b msg q h = tt

child_fits : (plans : NamePlans) (g : ℕ) (q : Request) → given.ChildFits of_directory plans g q → fitting.ChildFits of_directory plans g q
child_fits plans g (Make x n child) h = h
child_fits plans g q h = tt

sent_fits : (plans : NamePlans) (g : ℕ) (v : View) (b : Books) (f : NameFile) (msg : Message) (z : Body) → given.SentFits of_directory plans g v b f msg z → fitting.SentFits of_directory plans g v b f msg z
sent_fits plans g v b f msg (ToBrick q) h = (took_fits plans g v b msg q h.0, h.1)
sent_fits plans g v b f msg (ToClient re reply) h = tt

body_fits : (plans : NamePlans) (g : ℕ) (z : Body) → given.BodyFits of_directory plans g z → fitting.BodyFits of_directory plans g z
body_fits plans g (ToBrick q) h = child_fits plans g q h
body_fits plans g (ToClient re reply) h = tt

message_fits : (plans : NamePlans) (g : ℕ) (o : Option Message) → given.MessageFits of_directory plans g o → fitting.MessageFits of_directory plans g o
message_fits plans g None h = tt
message_fits plans g (Some msg) h = body_fits plans g msg.body h

entry_fits : (plans : NamePlans) (g : ℕ) (m : Net) (v : View) (b : Books) (f : NameFile) (e : Entry) → given.EntryFits of_directory plans g m v b f e → fitting.EntryFits of_directory plans g m v b f e
entry_fits plans g m v b f (Sent msg) h = sent_fits plans g v b f msg msg.body h
entry_fits plans g m v b f (Executed i version failed) h = message_fits plans g (m.said i) h
entry_fits plans g m v b f e h = tt

-- ## What is owed

abbrev NameDeed : Type 0
NameDeed = Deed (List ℕ) (Option Child) (Option Child) (Option Child) Shape

owes_shape : (n k : ℕ) (f : NameFile) (d : NameDeed) → fitting.OwesShape of_directory.form n k f d → given.OwesShape of_directory.form n k f d
owes_shape n k f (Take a p shape) h = h
owes_shape n k f (Create b shape) h = h
owes_shape n k f d h = tt

all_owe : (n k : ℕ) (ds : List NameDeed) (f : NameFile) → fitting.AllOweShape of_directory.form n k ds f → given.AllOweShape of_directory.form n k ds f
all_owe n k [] f h = tt
all_owe n k (d ∷ ds) f h = (owes_shape n k f d h.0, all_owe n k ds (step of_directory.form n k f d) h.1)

-- ## The law

abbrev Has : NamePlans → Config → (ℕ → Records) → (ℕ → Brick) → Tree → ℕ → ℕ → (ℕ → Leaving) → List Entry → Type 0
Has plans config records bricks tree next g left es = ShapesAfter of_directory plans config records bricks tree next g left (directory_begun config records tree g) es

abbrev machine : NamePlans → Config → (ℕ → Records) → (ℕ → Brick) → Tree → ℕ → ℕ → List Entry → NameFile
machine plans config records bricks tree next g es = file of_directory plans config.geometry.n (quorum config.geometry) g es (fresh bricks) (begun config records tree next g) (directory_begun config records tree g)

module _ (laws : ShapeLaws of_directory) where
  begins : Begins Has
  begins plans config records bricks tree next g left start = laws.begin plans config records bricks tree next g left start (directory_flat (tree g)) (λ b. child_in (records b g)) (directory_stands config records bricks tree next g start) refl

  steps : Steps Has
  steps plans config records bricks tree next g es e start runs plain orderly has fits =
      let o = laws.step plans config records bricks tree next g es e start runs plain orderly (directory_begun config records tree g) has (entry_fits plans g (run es (fresh bricks)) (view g es (fresh bricks) (begun config records tree next g)) (books config.geometry orderly.left es (fresh bricks) (opening tree next) no_books) (machine plans config records bricks tree next g es) e fits) in
      (all_owe config.geometry.n (quorum config.geometry) (deeds of_directory plans config.geometry.n (quorum config.geometry) g (run es (fresh bricks)) (view g es (fresh bricks) (begun config records tree next g)) (machine plans config records bricks tree next g es) e) (machine plans config records bricks tree next g es) o.0, o.1)

  pub shape_law : ShapeLaw
  shape_law = shapes_by Has begins steps
