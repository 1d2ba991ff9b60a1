-- What is consistent after the log of a run, by its status.
use Rattle.std.proofs.Common.{◌≡◌, ◌⊎◌, inl, inr, ℕ, Bool, List, Option, sym, subst, ap, ◌∙◌}
use Rattle.ec_attr.specs.declared.geometry.Geometry.{Geometry}
use Rattle.ec_calls.specs.declared.any.AnyCall.{AnyCall}
use Rattle.ec_cluster.specs.Open.{opened}
use Rattle.ec_cluster.specs.Views.{log_of}
use Rattle.ec_conduct.specs.Given.{Given}
use Rattle.ec_conduct.specs.Own.{Own}
use Rattle.ec_history.specs.Flat.{Tree}
use Rattle.ec_history.specs.IsRun.{IsRun}
use Rattle.ec_history.specs.Run.{Net, fresh}
use Rattle.ec_history.specs.Starts.{IsStart}
use Rattle.ec_play.specs.Ends.{Ends}
use Rattle.ec_play.specs.Meaning.{Meaning}
use Rattle.ec_play.specs.Statuses.{ButForMemoryIn}
use Rattle.ec_play.specs.World.{meaning_of}
use Rattle.ec_play.specs.declared.status.Status.{Status}
use Rattle.ec_play.specs.declared.status.Status.TheVariants as status
use Rattle.ec_run.specs.Consistency.{IsLogSince, IsConsistentSince}
use Rattle.ec_store.specs.Records.{Records}
use Rattle.ec_txn.specs.declared.ctx.Ctx.{Ctx}
use Rattle.ec_volfile.specs.declared.volume.Volume.{Volume}
use Rattle.ec_wire.specs.declared.entry.Entry.{Entry}
use Rattle.ec_world.specs.Consistency.{AreAllOfVolume, IsConsistent, BeganWith, ConsistencyLaws}
use Rattle.ec_world.specs.Whole.{config_of}
use Rattle.ec_world.specs.declared.world.World.{World}

-- the log of a run is one, but for want of memory
pub ends_run : {W : Type 0} (M : Meaning W) (Told : Type 0) (n : ℕ) (logs : Bool) (start : Net) (how : Status) (input : List ℕ) (old new : Option (List ℕ)) (log : List Entry) (stores : List Records) → Ends M Told n logs start how input old new log stores → Told → ButForMemoryIn how (IsRun n log start)
ends_run M Told n logs start status.Done input old new log stores h told = h.played.is_run told
ends_run M Told n logs start (status.BadScript line because) input old new log stores h told = h.obeyed.played.is_run told
ends_run M Told n logs start (status.BadVolume line because) input old new log stores h told = absurd h
ends_run M Told n logs start status.BadWords input old new log stores h told = absurd h
ends_run M Told n logs start status.ReadFault input old new log stores h told = h.obeyed.played.is_run told
ends_run M Told n logs start status.WriteFault input old new log stores (inl h) told = h.played.is_run told
ends_run M Told n logs start status.WriteFault input old new log stores (inr h) told = h.played.is_run told
ends_run M Told n logs start (status.WrongBricks because) input old new log stores h told = absurd h
ends_run M Told n logs start (status.StoreFault b) input old new log stores h told = absurd h
ends_run M Told n logs start status.NoMemory input old new log stores h told = tt

-- what follows of two things that hold but for want of memory
both : (how : Status) (P Q R : Type 0) → (P → Q → R) → ButForMemoryIn how P → ButForMemoryIn how Q → ButForMemoryIn how R
both status.Done P Q R f p q = f p q
both (status.BadScript line because) P Q R f p q = f p q
both (status.BadVolume line because) P Q R f p q = f p q
both status.BadWords P Q R f p q = f p q
both status.ReadFault P Q R f p q = f p q
both status.WriteFault P Q R f p q = f p q
both (status.WrongBricks because) P Q R f p q = f p q
both (status.StoreFault b) P Q R f p q = f p q
both status.NoMemory P Q R f p q = tt

from : (how : Status) (P R : Type 0) → (P → R) → ButForMemoryIn how P → ButForMemoryIn how R
from how P R f p = both how P P R (λ x y. f x) p p

module _ (stands : Ctx → Given → AnyCall → List Own → Type 0) (by_table : Ctx → Given → List Own → Type 0) (laws : ConsistencyLaws stands by_table) (volume : Volume) (started : List Records) (first : ℕ) (log : List Entry)
    (unique : (tree : Tree) (next : ℕ) → IsStart (config_of volume) (λ b. (opened (config_of volume) started b).records) (opened (config_of volume) started) tree next → next ≡ first)
    (of_volume : (tree : Tree) → AreAllOfVolume (config_of volume) (λ b. (opened (config_of volume) started b).records) tree) where
  consistent : IsLogSince (meaning_of stands by_table) volume.geometry first log → IsRun volume.geometry.n log (fresh (opened (config_of volume) started)) → IsConsistentSince volume started log
  consistent (w, is, from) runs tree next start =
      let config = config_of volume in
      let records : ℕ → Records = λ b. (opened config started b).records in
      subst (λ (es : List Entry). IsConsistent config records (opened config started) tree next es) is
      (laws config records (opened config started) tree next w start (of_volume tree) (subst (λ (f : ℕ). BeganWith stands by_table w volume.geometry f) (sym (unique tree next start)) from) (subst (λ (es : List Entry). IsRun volume.geometry.n es (fresh (opened config started))) (sym is) runs))

  pub run_consistent : (how : Status) → ButForMemoryIn how (IsLogSince (meaning_of stands by_table) volume.geometry first log) → ButForMemoryIn how (IsRun volume.geometry.n log (fresh (opened (config_of volume) started))) → ButForMemoryIn how (IsConsistentSince volume started log)
  run_consistent how since runs = both how (IsLogSince (meaning_of stands by_table) volume.geometry first log) (IsRun volume.geometry.n log (fresh (opened (config_of volume) started))) (IsConsistentSince volume started log) consistent since runs

-- a world that is finished leaves its log
pub log_since : {W : Type 0} (M : Meaning W) (first now : W) (log : List Entry) (how : Status) → M.log now ≡ log → ButForMemoryIn how ((geometry : Geometry) (next : ℕ) → M.since first geometry next → M.since now geometry next)
    → ButForMemoryIn how ((geometry : Geometry) (next : ℕ) → M.since first geometry next → IsLogSince M geometry next log)
log_since M first now log how is since =
    from how ((geometry : Geometry) (next : ℕ) → M.since first geometry next → M.since now geometry next) ((geometry : Geometry) (next : ℕ) → M.since first geometry next → IsLogSince M geometry next log) (λ f geometry next h. (now, is, f geometry next h)) since

-- with what the world of the run was begun
pub since_begun : {W : Type 0} (M : Meaning W) (first : W) (log : List Entry) (how : Status) (geometry : Geometry) (next : ℕ) → M.since first geometry next → ButForMemoryIn how ((geometry : Geometry) (next : ℕ) → M.since first geometry next → IsLogSince M geometry next log) → ButForMemoryIn how (IsLogSince M geometry next log)
since_begun M first log how geometry next h since = from how ((geometry : Geometry) (next : ℕ) → M.since first geometry next → IsLogSince M geometry next log) (IsLogSince M geometry next log) (λ f. f geometry next h) since
