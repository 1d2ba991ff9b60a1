-- A cluster at its beginning.
use Rattle.std.proofs.Common.{arith, ◌<◌, ◌≡◌, ◌∙◌, true, length, map, sym}
use Rattle.std.proofs.lemmas.List.{length-map}
use Rattle.std.specs.List.{list_all}
use Rattle.ec_cluster.proofs.Empty.{empty_matches, empty_sound, opened_as}
use Rattle.ec_cluster.proofs.Risen.{later_then, risen_before}
use Rattle.ec_cluster.proofs.cluster.Cluster.open.Goals as goal

pub returns-then-not-all-clause-sound : goal.returns-then-not-all-clause-sound
returns-then-not-all-clause-sound g c = empty_sound _ c.cluster_of.result c.args.config c.in-Ok.all.bricks.items (map g.S.BrickStore.records c.args.stores.now) c.cluster_of.ensures.empty c.cluster_of.ensures.bricks c.in-Ok.ensures.opened

pub returns-then-not-all-clause-matches : goal.returns-then-not-all-clause-matches
returns-then-not-all-clause-matches g c = λ told.
    let n : length c.open_all.new.stores ≡ length c.args.stores.now = c.open_all.auto.stores in
    let len : length (map g.S.BrickStore.records c.open_all.new.stores) ≡ length c.in-Ok.all.bricks.items = length-map c.open_all.new.stores g.S.BrickStore.records ∙ (n ∙ sym c.in-Ok.ensures.many) in
    empty_matches (list_all g.S.BrickStore.told c.args.stores.now ≡ true) c.known_laws.ensures c.cluster_of.result c.args.config c.in-Ok.all.bricks.items (map g.S.BrickStore.records c.open_all.new.stores) told c.cluster_of.ensures.empty c.cluster_of.ensures.bricks (opened_as (list_all g.S.BrickStore.told c.args.stores.now ≡ true) (list_all g.S.BrickStore.told c.args.stores.now ≡ true) c.args.config c.in-Ok.all.bricks.items (map g.S.BrickStore.records c.args.stores.now) (map g.S.BrickStore.records c.open_all.new.stores) c.in-Ok.ensures.opened (λ u. u) c.open_all.ensures.same) len

pub returns-in-Ok-put_roots-clause-sound : goal.returns-in-Ok-put_roots-clause-sound
returns-in-Ok-put_roots-clause-sound g c = empty_sound _ c.cluster_of-in-Ok-put_roots.result c.args.config c.put_roots.new.bricks.items (map g.S.BrickStore.records c.put_roots.new.stores) c.cluster_of-in-Ok-put_roots.ensures.empty c.cluster_of-in-Ok-put_roots.ensures.bricks c.in-Ok-put_roots.ensures.opened

pub returns-in-Ok-put_roots-clause-matches : goal.returns-in-Ok-put_roots-clause-matches
returns-in-Ok-put_roots-clause-matches g c = λ told.
    let n : length c.open_all.new.stores ≡ length c.args.stores.now = c.open_all.auto.stores in
    let m : length c.put_roots.new.stores ≡ length c.open_all.new.stores = c.put_roots.auto.stores in
    let len : length (map g.S.BrickStore.records c.put_roots.new.stores) ≡ length c.put_roots.new.bricks.items = length-map c.put_roots.new.stores g.S.BrickStore.records ∙ (m ∙ (n ∙ (sym c.in-Ok.ensures.many ∙ sym c.put_roots.ensures.many))) in
    empty_matches (list_all g.S.BrickStore.told c.open_all.new.stores ≡ true) c.known_laws.ensures c.cluster_of-in-Ok-put_roots.result c.args.config c.put_roots.new.bricks.items (map g.S.BrickStore.records c.put_roots.new.stores) (c.open_all.ensures.tells ∙ told) c.cluster_of-in-Ok-put_roots.ensures.empty c.cluster_of-in-Ok-put_roots.ensures.bricks c.in-Ok-put_roots.ensures.opened len

pub returns-in-Ok-put_roots-clause-kept : goal.returns-in-Ok-put_roots-clause-kept
returns-in-Ok-put_roots-clause-kept g c = λ told used. absurd (used ((c.in-Ok.ensures.unused told).all c.if-not-all.false))

pub returns-in-Err-put_roots-clause-kept : goal.returns-in-Err-put_roots-clause-kept
returns-in-Err-put_roots-clause-kept g c = λ told used. absurd (used ((c.in-Ok.ensures.unused told).all c.if-not-all.false))

pub returns-in-Err-put_roots-clause-cause : goal.returns-in-Err-put_roots-clause-cause
returns-in-Err-put_roots-clause-cause g c = risen_before (map g.S.BrickStore.faults c.args.stores.now) (map g.S.BrickStore.faults c.open_all.new.stores) (map g.S.BrickStore.faults c.put_roots.new.stores) c.in-Err-put_roots.e c.open_all.ensures.later c.in-Err-put_roots.ensures.cause

pub returns-in-Err-put_roots-clause-first : goal.returns-in-Err-put_roots-clause-first
returns-in-Err-put_roots-clause-first g c = λ told b r lt at.
    let n : length c.open_all.new.stores ≡ length c.args.stores.now = c.open_all.auto.stores in
    let low : c.in-Err-put_roots.e.0 < length c.open_all.new.stores = c.in-Err-put_roots.ensures.refused.0 in
    c.in-Ok.ensures.accepted told b r (omega (arith, lt, low, n)) at

pub returns-in-Ok-put_roots-clause-later : goal.returns-in-Ok-put_roots-clause-later
returns-in-Ok-put_roots-clause-later g c = later_then (map g.S.BrickStore.faults c.args.stores.now) (map g.S.BrickStore.faults c.open_all.new.stores) (map g.S.BrickStore.faults c.put_roots.new.stores) c.open_all.ensures.later c.put_roots.ensures.later

pub returns-in-Err-put_roots-clause-later : goal.returns-in-Err-put_roots-clause-later
returns-in-Err-put_roots-clause-later g c = later_then (map g.S.BrickStore.faults c.args.stores.now) (map g.S.BrickStore.faults c.open_all.new.stores) (map g.S.BrickStore.faults c.put_roots.new.stores) c.open_all.ensures.later c.put_roots.ensures.later
