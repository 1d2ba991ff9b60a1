use Rattle.std.proofs.Common.{arith, ◌≡◌, ◌∙◌, ap, subst, sym, map, length, true, List}
use Rattle.std.specs.List.{list_all}
use Rattle.ec_attr.specs.declared.config.Config.{Config}
use Rattle.ec_calls.specs.declared.any.AnyCall.{AnyCall}
use Rattle.ec_clients.specs.Beginning.{HasClients}
use Rattle.ec_clients.specs.declared.clients.Clients.{Clients}
use Rattle.ec_clients.specs.declared.options.Options.{Options}
use Rattle.ec_cluster.specs.Matches.{Matches}
use Rattle.ec_cluster.specs.Open.{AreAccepted, AreRooted, AreUnused, IsAfterTaken, opened}
use Rattle.ec_history.specs.Run.{fresh}
use Rattle.ec_store.specs.Records.{Records}
use Rattle.ec_world.proofs.Whole.{begun_as, begun_world}
use Rattle.ec_world.specs.Whole.{config_of, options_of}
use Rattle.ec_world.proofs.Consistency.{from_beginning}
use Rattle.ec_world.proofs.world.World.start.Goals as goal

pub returns-in-Ok-open-clause-open : goal.returns-in-Ok-open-clause-open
returns-in-Ok-open-clause-open g c =
    let same = c.set_next_gfid.ensures.same in
    let empty = c.in-Ok-open.ensures.empty in
    let options : c.set_next_gfid.new.clients.options ≡ options_of c.args.volume.now = ap (λ (d : Clients AnyCall). d.options) same ∙ (c.in-Ok.ensures.options ∙ c.options_of.ensures) in
    record {
      world = begun_world _ _ c.in-Ok-open.cluster c.set_next_gfid.new.clients c.in-Ok-open.next c.in-Ok-open.ensures.sound empty
          (c.in-Ok-open.ensures.size ∙ (c.requires.stores ∙ sym (ap (λ (o : Options). o.geometry.n) options)))
          (subst (λ (d : Clients AnyCall). HasClients d) (sym same) (record { slots = c.in-Ok.ensures.many.slots; lives = c.in-Ok.ensures.many.lives }))
          (λ bricks tree. c.set_next_gfid.ensures.sees c.in-Ok-open.cluster bricks tree 2 (c.in-Ok.ensures.sees c.in-Ok-open.cluster bricks tree empty.log));
      size = c.in-Ok-open.ensures.size ∙ c.requires.stores;
    }

pub returns-in-Ok-open-clause-stands : goal.returns-in-Ok-open-clause-stands
returns-in-Ok-open-clause-stands g c = λ told.
    let records = map g.S.BrickStore.records c.open.new.stores in
    begun_as _ _ (record { clients = c.set_next_gfid.new.clients; cluster = c.in-Ok-open.cluster; bricks = c.args.volume.now.geometry.n; alloc = c.args.alloc }) (opened (config_of c.args.volume.now) records) c.in-Ok-open.next records
    (λ bricks tree. c.set_next_gfid.ensures.sees c.in-Ok-open.cluster bricks tree 2 (c.in-Ok.ensures.sees c.in-Ok-open.cluster bricks tree c.in-Ok-open.ensures.empty.log))
    (subst (λ (k : Config). Matches c.in-Ok-open.cluster records (fresh (opened k records))) c.config_of.ensures (c.in-Ok-open.ensures.matches told))

pub returns-in-Ok-open-clause-after : goal.returns-in-Ok-open-clause-after
returns-in-Ok-open-clause-after g c = λ told. rw (ap (λ (d : Clients AnyCall). d.next_gfid) c.set_next_gfid.ensures.same) (c.in-Ok-open.ensures.after told)

pub returns-in-Ok-open-clause-roots : goal.returns-in-Ok-open-clause-roots
returns-in-Ok-open-clause-roots g c = λ told.
    let before = map g.S.BrickStore.records c.args.stores.now in
    let after = map g.S.BrickStore.records c.open.new.stores in
    subst (λ (k : Config). AreUnused k (length c.args.stores.now) before → AreRooted k (length c.args.stores.now) before after) c.config_of.ensures (c.in-Ok-open.ensures.roots told)

pub returns-in-Ok-open-clause-kept : goal.returns-in-Ok-open-clause-kept
returns-in-Ok-open-clause-kept g c = λ told.
    let before = map g.S.BrickStore.records c.args.stores.now in
    let after = map g.S.BrickStore.records c.open.new.stores in
    subst (λ (k : Config). ¬ (AreUnused k (length c.args.stores.now) before) → after ≡ before) c.config_of.ensures (c.in-Ok-open.ensures.kept told)

pub returns-in-Err-open-clause-kept : goal.returns-in-Err-open-clause-kept
returns-in-Err-open-clause-kept g c = λ told.
    let before = map g.S.BrickStore.records c.args.stores.now in
    let after = map g.S.BrickStore.records c.open.new.stores in
    subst (λ (k : Config). ¬ (AreUnused k (length c.args.stores.now) before) → after ≡ before) c.config_of.ensures (c.in-Err-open.ensures.kept told)

pub returns-in-Err-clause-first : goal.returns-in-Err-clause-first
returns-in-Err-clause-first g c = λ told b r lt at. absurd (omega (arith, lt))

pub returns-in-Err-open-clause-first : goal.returns-in-Err-open-clause-first
returns-in-Err-open-clause-first g c = λ told. subst (λ (k : Config). AreAccepted k c.in-Err-open.e.0 (map g.S.BrickStore.records c.args.stores.now)) c.config_of.ensures (c.in-Err-open.ensures.first told)

pub returns-in-Ok-open-clause-accepted : goal.returns-in-Ok-open-clause-accepted
returns-in-Ok-open-clause-accepted g c = λ told. subst (λ (k : Config). AreAccepted k (length c.args.stores.now) (map g.S.BrickStore.records c.args.stores.now)) c.config_of.ensures (c.in-Ok-open.ensures.accepted told)

pub returns-in-Ok-open-clause-from : goal.returns-in-Ok-open-clause-from
returns-in-Ok-open-clause-from g c =
    let same = c.set_next_gfid.ensures.same in
    let empty = c.in-Ok-open.ensures.empty in
    let options : c.set_next_gfid.new.clients.options ≡ options_of c.args.volume.now = ap (λ (d : Clients AnyCall). d.options) same ∙ (c.in-Ok.ensures.options ∙ c.options_of.ensures) in
    from_beginning _ _ (record { clients = c.set_next_gfid.new.clients; cluster = c.in-Ok-open.cluster; bricks = c.args.volume.now.geometry.n; alloc = c.args.alloc }) c.args.volume.now.geometry c.in-Ok-open.next c.set_next_gfid.new.clients.next_gfid (ap (λ (o : Options). o.geometry) options) (ap (λ (d : Clients AnyCall). d.next_gfid) same) empty.log
    (λ bricks tree. c.set_next_gfid.ensures.sees c.in-Ok-open.cluster bricks tree 2 (c.in-Ok.ensures.sees c.in-Ok-open.cluster bricks tree empty.log))
