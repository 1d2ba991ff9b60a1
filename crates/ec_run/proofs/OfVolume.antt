-- The records of the stores of a run, as they were opened, are of the volume.
use Rattle.std.proofs.Common.{◌≡◌, ⊎_elim, ℕ, ◌<◌, get_or, List, length, Option, Some, sym, ap, subst, arith}
use Rattle.std.specs.Option.{option_map}
use Rattle.std.specs.Prelude.{slice_get}
use Rattle.ec_attr.specs.declared.config.Config.{Config}
use Rattle.ec_brick.specs.Opening.{AcceptsAll, rooted}
use Rattle.ec_cluster.specs.Open.{AreRooted, opened, or_none}
use Rattle.ec_history.specs.Flat.{Tree}
use Rattle.ec_law_heads.specs.Restart.{RestartLaws}
use Rattle.ec_run.proofs.NextLemmas.{its_records, no_records}
use Rattle.ec_run.specs.Starts.{AreStarted}
use Rattle.ec_store.specs.Records.{Record, Records}
use Rattle.ec_world.specs.Consistency.{AreAllOfVolume}

module _ (laws : RestartLaws) (config : Config) (before started : List Records) (there : length before ≡ config.geometry.n) (many : length started ≡ config.geometry.n) (are : AreStarted config config.geometry.n before started) where
  abbrev store : ℕ → Records
  store b = or_none (slice_get before b)

  was : (b : ℕ) → b < config.geometry.n → slice_get before b ≡ Some (get_or before b no_records)
  was b lt = its_records before b (omega (arith, lt, there))

  accepts : (b : ℕ) → b < config.geometry.n → AcceptsAll config (store b)
  accepts b lt = subst (λ (o : Option Records). AcceptsAll config (or_none o)) (sym (was b lt)) (are.accepted b (get_or before b no_records) lt (was b lt))

  pub are_of_volume : (tree : Tree) → AreAllOfVolume config (λ b. (opened config started b).records) tree
  are_of_volume tree g b r lt is = ⊎_elim same new are.kept
    where
      same : started ≡ before → r.head.config ≡ config
      same e =
          let has : store b g ≡ Some r = subst (λ (s : List Records). or_none (slice_get s b) g ≡ Some r) e is in
          (accepts b lt g r.head (ap (option_map (λ (x : Record). x.head)) has)).0

      new : AreRooted config config.geometry.n before started → r.head.config ≡ config
      new x =
          let now = its_records started b (omega (arith, lt, many)) in
          let has : get_or started b no_records g ≡ Some r = subst (λ (o : Option Records). or_none o g ≡ Some r) now is in
          let put : rooted config (get_or before b no_records) g ≡ Some r = subst (λ (m : Records). m g ≡ Some r) (x.first b (get_or before b no_records) (get_or started b no_records) lt (was b lt) now) has in
          laws.opened config store g (tree g) accepts b r lt (subst (λ (o : Option Records). rooted config (or_none o) g ≡ Some r) (sym (was b lt)) put)
