use Rattle.std.proofs.Common.{◌∙◌, ap, option_copied, refl}
use Rattle.ec_store.specs.Records.{with_names}
use Rattle.ec_wire.specs.declared.request.Request.TheVariants.{SetLength, NameSet, NamesPut}
use Rattle.ec_brick.proofs.Done.{from_does, from_part}
use Rattle.ec_brick.proofs.work.write_work.Goals as goal

pub returns-in-WriteChunks-Some-clause-does : goal.returns-in-WriteChunks-Some-clause-does
returns-in-WriteChunks-Some-clause-does g c = λ config. rw (c.done.ensures, c.in-WriteChunks-Some.is-0) (from_part config c.in-WriteChunks-Some.gfid c.in-WriteChunks-Some.grant-0 c.in-WriteChunks-Some.first c.in-WriteChunks-Some.chunks _ _ _ _ _ c.write_chunks.ensures.does)

pub returns-in-SetLength-Some-clause-does : goal.returns-in-SetLength-Some-clause-does
returns-in-SetLength-Some-clause-does g c = λ config. rw (c.done-in-SetLength-Some.ensures, c.in-SetLength-Some.is-0) (from_does config (SetLength c.in-SetLength-Some.gfid c.in-SetLength-Some.grant-0 c.in-SetLength-Some.keep c.in-SetLength-Some.length) _ _ _ _ _ _ c.set_length.ensures.does (λ _. refl) refl refl)

pub returns-in-NameSet-Some-clause-does : goal.returns-in-NameSet-Some-clause-does
returns-in-NameSet-Some-clause-does g c = λ config. rw (c.done-in-NameSet-Some.ensures, c.in-NameSet-Some.is-0) (from_does config (NameSet c.in-NameSet-Some.gfid c.in-NameSet-Some.grant-0 c.in-NameSet-Some.name c.in-NameSet-Some.child) _ _ _ _ _ _ c.set_name.ensures.does (λ _. refl) refl refl)

pub returns-in-NamesPut-Some-clause-does : goal.returns-in-NamesPut-Some-clause-does
returns-in-NamesPut-Some-clause-does g c = λ config.
    let records = g.S.BrickStore.records in
    rw (c.done-in-NamesPut-Some.ensures, c.in-NamesPut-Some.is-0)
    (from_does config (NamesPut c.in-NamesPut-Some.gfid c.in-NamesPut-Some.grant-0 c.in-NamesPut-Some.after c.in-NamesPut-Some.upto c.in-NamesPut-Some.list) _ _ _ _ _ _ c.put_names.ensures.does
    (λ _. ap (λ a. with_names (records c.args.store.now) c.in-NamesPut-Some.gfid.0 a (option_copied c.as_ref-in-NamesPut-Some.result) c.in-NamesPut-Some.list) c.as_ref.ensures.value
    ∙ ap (λ u. with_names (records c.args.store.now) c.in-NamesPut-Some.gfid.0 c.in-NamesPut-Some.after u c.in-NamesPut-Some.list) c.as_ref-in-NamesPut-Some.ensures.value)
    refl refl)
