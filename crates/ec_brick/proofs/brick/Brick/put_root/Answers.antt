use Rattle.std.proofs.Common.{◌≡◌, ◌∙◌, ap, sym}
use Rattle.ec_store.specs.Records.{Records, with_head}
use Rattle.ec_brick.specs.Opening.{first_root}
use Rattle.ec_brick.specs.Index.{dirty_of}
use Rattle.ec_brick.proofs.Seeing.{root_dirty}
use Rattle.ec_brick.proofs.brick.Brick.put_root.Goals as goal

pub returns-in-Ok-clause-index : goal.returns-in-Ok-clause-index
returns-in-Ok-clause-index g c told right h = let m = g.S.BrickStore.records c.args.store.now in let e = c.in-Ok-None.ensures in
    let now : g.S.BrickStore.records c.put_head.new.self ≡ with_head m 1 (first_root c.args.self.now.config) = c.in-Ok.ensures.does.ok (e.does.tells ∙ told) ∙ ap (λ (x : Records). with_head x 1 c.first_root.result) (e.does.ok told) ∙ ap (with_head m 1) c.first_root.ensures in
    right h ∙ root_dirty c.args.self.now.config m (sym (e.value told) ∙ c.in-Ok-None.field-0-is) h ∙ sym (ap (λ (x : Records). dirty_of x h) now)
