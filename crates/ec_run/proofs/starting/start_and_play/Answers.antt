use Rattle.std.proofs.Common.{◌≡◌, ◌<◌, ◌∙◌, ℕ, length, map, subst, sym, true}
use Rattle.std.proofs.KnownBytes.{Keeps-refl}
use Rattle.std.proofs.lemmas.List.{length-map}
use Rattle.std.specs.List.{list_all}
use Rattle.ec_cluster.specs.Open.{AreUnused, opened}
use Rattle.ec_play.proofs.TakenLemmas.{takes_none}
use Rattle.ec_play.specs.Taken.{most_of_script}
use Rattle.ec_play.proofs.LooksLemmas.{looks_at_none}
use Rattle.ec_run.proofs.StartLemmas.{stops_unopened}
use Rattle.ec_run.specs.Starts.{AreStarted, start_status}
use Rattle.ec_run.proofs.EndsLemmas.{are_started, played_from, unopened}
use Rattle.ec_world.specs.Whole.{config_of}
use Rattle.ec_run.proofs.Fresh.{stand_fresh}
use Rattle.ec_run.proofs.NextLemmas.{next_of_start}
use Rattle.ec_run.proofs.OfVolume.{are_of_volume}
use Rattle.ec_play.specs.contracts.world.WorldMeans.TheImpl.{ghosts as world}
use Rattle.ec_run.proofs.ConsistencyLemmas.{run_consistent, since_begun}
use Rattle.ec_run.proofs.starting.start_and_play.Goals as goal

pub returns-in-Err-clause-ends : goal.returns-in-Err-clause-ends
returns-in-Err-clause-ends g c =
    let before = map g.B.BrickStore.records c.args.stores.now in
    let config = config_of c.args.volume.now in
    rw c.status_of_start.ensures.status
    (unopened _ (list_all g.B.BrickStore.told c.args.stores.now ≡ true) c.args.volume.now c.args.logs before (map g.B.BrickStore.records c.start.new.stores) (g.S.Source.left c.args.script.now) c.in-Err.brick c.in-Err.fault (g.O.Sink.written c.args.out.now) (g.O.Sink.written c.args.out.now) c.args.log.now
    (record {
      there = subst (λ (n : ℕ). c.in-Err.brick < n) c.requires.count c.in-Err.ensures.refused.0;
      foreign = c.in-Err.ensures.refused.1;
      first = c.in-Err.ensures.head;
      earlier = c.in-Err.ensures.first;
      part = c.in-Err.ensures.part;
      kept = λ told. subst (λ (n : ℕ). ¬ (AreUnused config n before) → map g.B.BrickStore.records c.start.new.stores ≡ before) c.requires.count (c.in-Err.ensures.kept told);
      text = Keeps-refl (g.O.Sink.written c.args.out.now);
      unlogged = c.requires.empty;
    }))

pub returns-in-Plain-clause-ends : goal.returns-in-Plain-clause-ends
returns-in-Plain-clause-ends g c =
    let before = map g.B.BrickStore.records c.args.stores.now in
    let started = map g.B.BrickStore.records c.start.new.stores in
    let config = config_of c.args.volume.now in
    let are : list_all g.B.BrickStore.told c.args.stores.now ≡ true → AreStarted config c.args.volume.now.geometry.n before started = λ told. are_started config c.args.volume.now.geometry.n (length c.args.stores.now) before started c.requires.count (c.in-Ok.ensures.accepted told) (c.in-Ok.ensures.records told) (c.in-Ok.ensures.roots told) (c.in-Ok.ensures.kept told) in
    played_from _ c.args.volume.now c.args.logs before (map g.B.BrickStore.records c.play_world.new.stores) (list_all g.B.BrickStore.told c.start.new.stores) (list_all g.B.BrickStore.told c.args.stores.now) (length c.start.new.stores) started (g.S.Source.left c.args.script.now) c.play_world.result (g.O.Sink.written c.args.out.now) (g.O.Sink.written c.play_world.new.out) c.play_world.new.log
    c.start.ensures.tells (c.start.auto.stores ∙ c.requires.count)
    are (λ told none. stand_fresh c.start_laws.ensures c.stripe_laws.ensures c.restart_laws.ensures c.world_stand_laws.ensures.fresh_bricks config before started (length-map c.args.stores.now g.B.BrickStore.records ∙ c.requires.count) (length-map c.start.new.stores g.B.BrickStore.records ∙ (c.start.auto.stores ∙ c.requires.count)) (are told) none)
    (λ told. run_consistent _ _ c.consistency_laws.ensures c.args.volume.now started c.in-Ok.world.clients.next_gfid c.play_world.new.log
    (λ tree next at. next_of_start config c.args.volume.now.geometry.n (length c.args.stores.now) before started c.requires.count (length-map c.args.stores.now g.B.BrickStore.records) (length-map c.start.new.stores g.B.BrickStore.records ∙ c.start.auto.stores) (c.in-Ok.ensures.records told) (list_all g.B.BrickStore.told c.args.stores.now ≡ true) told c.in-Ok.world.clients.next_gfid next c.in-Ok.ensures.next (c.in-Ok.ensures.after told) at.next_gfid)
    (are_of_volume c.restart_laws.ensures config before started (length-map c.args.stores.now g.B.BrickStore.records ∙ c.requires.count) (length-map c.start.new.stores g.B.BrickStore.records ∙ (c.start.auto.stores ∙ c.requires.count)) (are told))
    c.play_world.result (since_begun world.meaning c.in-Ok.world c.play_world.new.log c.play_world.result c.args.volume.now.geometry c.in-Ok.world.clients.next_gfid c.in-Ok.ensures.from c.play_world.ensures.since))
    (c.play_world.ensures.script (opened config started) (λ told. record { size = c.in-Ok.ensures.open.size; is_as = c.in-Ok.ensures.stands (sym c.start.ensures.tells ∙ told) }))

pub returns-in-Fused-clause-ends : goal.returns-in-Fused-clause-ends
returns-in-Fused-clause-ends g c =
    let before = map g.B.BrickStore.records c.args.stores.now in
    let started = map g.B.BrickStore.records c.start.new.stores in
    let config = config_of c.args.volume.now in
    let are : list_all g.B.BrickStore.told c.args.stores.now ≡ true → AreStarted config c.args.volume.now.geometry.n before started = λ told. are_started config c.args.volume.now.geometry.n (length c.args.stores.now) before started c.requires.count (c.in-Ok.ensures.accepted told) (c.in-Ok.ensures.records told) (c.in-Ok.ensures.roots told) (c.in-Ok.ensures.kept told) in
    played_from _ c.args.volume.now c.args.logs before (map g.B.BrickStore.records c.play_world-in-Fused.new.stores) (list_all g.B.BrickStore.told c.start.new.stores) (list_all g.B.BrickStore.told c.args.stores.now) (length c.start.new.stores) started (g.S.Source.left c.args.script.now) c.play_world-in-Fused.result (g.O.Sink.written c.args.out.now) (g.O.Sink.written c.play_world-in-Fused.new.out) c.play_world-in-Fused.new.log
    c.start.ensures.tells (c.start.auto.stores ∙ c.requires.count)
    are (λ told none. stand_fresh c.start_laws.ensures c.stripe_laws.ensures c.restart_laws.ensures c.world_stand_laws.ensures.fresh_bricks config before started (length-map c.args.stores.now g.B.BrickStore.records ∙ c.requires.count) (length-map c.start.new.stores g.B.BrickStore.records ∙ (c.start.auto.stores ∙ c.requires.count)) (are told) none)
    (λ told. run_consistent _ _ c.consistency_laws.ensures c.args.volume.now started c.in-Ok.world.clients.next_gfid c.play_world-in-Fused.new.log
    (λ tree next at. next_of_start config c.args.volume.now.geometry.n (length c.args.stores.now) before started c.requires.count (length-map c.args.stores.now g.B.BrickStore.records) (length-map c.start.new.stores g.B.BrickStore.records ∙ c.start.auto.stores) (c.in-Ok.ensures.records told) (list_all g.B.BrickStore.told c.args.stores.now ≡ true) told c.in-Ok.world.clients.next_gfid next c.in-Ok.ensures.next (c.in-Ok.ensures.after told) at.next_gfid)
    (are_of_volume c.restart_laws.ensures config before started (length-map c.args.stores.now g.B.BrickStore.records ∙ c.requires.count) (length-map c.start.new.stores g.B.BrickStore.records ∙ (c.start.auto.stores ∙ c.requires.count)) (are told))
    c.play_world-in-Fused.result (since_begun world.meaning c.in-Ok.world c.play_world-in-Fused.new.log c.play_world-in-Fused.result c.args.volume.now.geometry c.in-Ok.world.clients.next_gfid c.in-Ok.ensures.from c.play_world-in-Fused.ensures.since))
    (c.play_world-in-Fused.ensures.script (opened config started) (λ told. record { size = c.in-Ok.ensures.open.size; is_as = c.in-Ok.ensures.stands (sym c.start.ensures.tells ∙ told) }))

pub returns-in-Err-clause-taken : goal.returns-in-Err-clause-taken
returns-in-Err-clause-taken g c = takes_none most_of_script (g.S.Source.left c.args.script.now) (g.S.Source.left c.args.script.now) (Keeps-refl (g.S.Source.left c.args.script.now))

pub returns-in-Err-clause-looks : goal.returns-in-Err-clause-looks
returns-in-Err-clause-looks g c = rw c.status_of_start.ensures.status (looks_at_none (start_status c.in-Err.brick c.in-Err.fault) (g.S.Source.left c.args.script.now) (stops_unopened c.in-Err.brick c.in-Err.fault))
