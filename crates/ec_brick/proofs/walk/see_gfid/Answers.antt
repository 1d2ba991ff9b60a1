use Rattle.std.proofs.Common.{◌≡◌, ◌∙◌, ap, sym, None}
use Rattle.ec_attr.specs.declared.head.Head.{Head}
use Rattle.ec_store.specs.Records.{Records}
use Rattle.ec_brick.proofs.Seeing.{file_names}
use Rattle.ec_brick.proofs.Walking.{head_is}
use Rattle.ec_brick.proofs.walk.see_gfid.Goals as goal

pub returns-in-File-clause-sees : goal.returns-in-File-clause-sees
returns-in-File-clause-sees g c told m r is absent sees = let same : r.head ≡ c.in-Ok-Some.head = head_is (g.S.BrickStore.records c.args.store.now) c.args.g.0 r c.in-Ok-Some.head (sym (c.in-Ok-Some.ensures.value told) ∙ c.in-Ok-Some.field-0-is) is in
    file_names c.args.config m c.args.g.0 r c.see_head.new.self (λ n. None) r.names (ap (λ (h : Head). h.kind) same ∙ c.in-File.is) (c.in_default-see_head.ensures.sees m r same absent sees)

pub returns-in-Ok-clause-sees : goal.returns-in-Ok-clause-sees
returns-in-Ok-clause-sees g c told m r is absent sees = let e = c.in-Ok-Some.ensures in let same : r.head ≡ c.in-Ok-Some.head = head_is (g.S.BrickStore.records c.args.store.now) c.args.g.0 r c.in-Ok-Some.head (sym (e.value told) ∙ c.in-Ok-Some.field-0-is) is in
    c.in-Ok.ensures.sees (e.does.tells ∙ told) c.args.config m r (ap (λ (f : Records). f c.args.g.0) (e.does.ok told) ∙ is) (c.in_default-see_head.ensures.sees m r same absent sees)
