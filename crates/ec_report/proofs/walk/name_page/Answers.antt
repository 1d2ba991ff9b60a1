use Rattle.std.proofs.Common.{◌∙◌, ◌||◌, ap, option_copied}
use Rattle.ec_index.specs.Members.{members}
use Rattle.ec_brick.proofs.Walking.{page_past}
use Rattle.ec_store.specs.Pages.{Page}
use Rattle.ec_report.proofs.Naming.{leads, page_grows}
use Rattle.ec_report.proofs.walk.name_page.Goals as goal

pub returns-in-Ok-next_page-clause-grows : goal.returns-in-Ok-next_page-clause-grows
returns-in-Ok-next_page-clause-grows g c told set r is grows = page_grows (option_copied c.args.after) c.in-Ok-next_page.next r.names c.in-Ok.page set (members c.args.named.now) (members c.put_children.new.named) (c.in-Ok.ensures.value told r is) c.in-Ok.ensures.rising (c.in-Ok-next_page.ensures.value (option_copied c.args.after)) (λ h. c.in_default.ensures h ∙ ap (λ (p : Page). members c.args.named.now h || leads p h) c.items.ensures) grows

pub returns-in-Ok-next_page-clause-past : goal.returns-in-Ok-next_page-clause-past
returns-in-Ok-next_page-clause-past g c = page_past (option_copied c.args.after) c.in-Ok.page c.in-Ok-next_page.next (c.in-Ok-next_page.ensures.value (option_copied c.args.after)) c.in-Ok.ensures.rising
