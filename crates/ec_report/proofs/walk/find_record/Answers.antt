use Rattle.std.proofs.Common.{◌≡◌, ◌∙◌, ap, sym}
use Rattle.ec_attr.specs.declared.head.Head.{Head}
use Rattle.ec_index.specs.Members.{members}
use Rattle.ec_store.specs.Records.{Records}
use Rattle.ec_brick.proofs.Walking.{head_is}
use Rattle.ec_report.proofs.Growing.{dir_names, file_names, put_grows}
use Rattle.ec_report.proofs.walk.find_record.Goals as goal

pub returns-in-File-clause-kept : goal.returns-in-File-clause-kept
returns-in-File-clause-kept g c told r is = put_grows (members c.args.found.now.kept) (members c.set.new.self) c.args.g.0 c.in_default.ensures.ok

pub returns-in-Ok-clause-kept : goal.returns-in-Ok-clause-kept
returns-in-Ok-clause-kept g c told r is = put_grows (members c.args.found.now.kept) (members c.set.new.self) c.args.g.0 c.in_default.ensures.ok

pub returns-in-File-clause-named : goal.returns-in-File-clause-named
returns-in-File-clause-named g c told r is =
    let same : r.head ≡ c.in-Ok-Some.head = head_is (g.S.BrickStore.records c.args.store.now) c.args.g.0 r c.in-Ok-Some.head (sym (c.in-Ok-Some.ensures.value told) ∙ c.in-Ok-Some.field-0-is) is in
    file_names r (members c.args.found.now.named) (ap (λ (h : Head). h.kind) same ∙ c.in-File.is)

pub returns-in-Ok-clause-named : goal.returns-in-Ok-clause-named
returns-in-Ok-clause-named g c told r is =
    let e = c.in-Ok-Some.ensures in
    let same : r.head ≡ c.in-Ok-Some.head = head_is (g.S.BrickStore.records c.args.store.now) c.args.g.0 r c.in-Ok-Some.head (sym (e.value told) ∙ c.in-Ok-Some.field-0-is) is in
    dir_names r (members c.args.found.now.named) (members c.name_all.new.named) (ap (λ (h : Head). h.kind) same ∙ c.in-Dir.is) (c.in-Ok.ensures.grows (e.does.tells ∙ told) r (ap (λ (f : Records). f c.args.g.0) (e.does.ok told) ∙ is))
