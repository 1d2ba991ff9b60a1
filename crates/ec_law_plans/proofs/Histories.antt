-- What turns plan is what the history of the flat files says of their calls' commits.
use Rattle.std.proofs.Common.{◌≡◌, Bool, true, false, cond, Option, Some, None, refl}
use Rattle.std.specs.Prelude.{is_some}
use Rattle.ec_attr.specs.declared.kind.Child.{Child}
use Rattle.ec_store.specs.Records.{same_name}
use Rattle.ec_wire.specs.declared.op.Op.TheVariants.{Create, Mkdir, Rename, Rmdir, Unlink}
use Rattle.ec_law_plans.specs.Naming.{PlansAreHistory}

one_there : (t : Bool) (x : Option Child) → t ≡ is_some (cond t (Some x) None)
one_there true x = refl
one_there false x = refl

one_is : (t : Bool) (x y : Option Child) → cond t (Some x) None ≡ Some y → Some x ≡ Some y
one_is true x y e = e
one_is false x y e = absurd (cc)

pub plans_are_history : PlansAreHistory
plans_are_history k g (Create dir own) found built = record { covers = λ name. one_there (same_name own name) _; sets = λ name child is. one_is (same_name own name) _ child is }
plans_are_history k g (Mkdir dir own) found built = record { covers = λ name. one_there (same_name own name) _; sets = λ name child is. one_is (same_name own name) _ child is }
plans_are_history k g (Unlink dir own) found built = record { covers = λ name. one_there (same_name own name) _; sets = λ name child is. one_is (same_name own name) _ child is }
plans_are_history k g (Rename from_dir from_name to_dir to_name) found built = absurd (cc)
plans_are_history k g (Rmdir dir own) found built = absurd (cc)
plans_are_history k g op found built = record { covers = λ name. refl; sets = λ name child is. absurd (cc) }
