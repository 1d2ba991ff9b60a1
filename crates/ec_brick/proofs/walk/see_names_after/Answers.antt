use Rattle.std.proofs.Common.{◌≡◌, sym, subst, option_copied, Some, Option, List, ℕ}
use Rattle.ec_attr.specs.declared.kind.Kind.TheVariants.{Dir}
use Rattle.ec_store.specs.Put.{put}
use Rattle.ec_brick.specs.Walk.{Sees, reached, renamed}
use Rattle.ec_brick.proofs.Walking.{kind_of, page_past}
use Rattle.ec_brick.proofs.walk.see_names_after.Goals as goal

pub returns-in-Ok-next_page-clause-sees : goal.returns-in-Ok-next_page-clause-sees
returns-in-Ok-next_page-clause-sees g c told config m r is sees = let dir : r.head.kind ≡ Dir = kind_of (g.S.BrickStore.records c.args.store.now) c.args.g.0 r Dir (c.requires.dir told) is in let seen = c.see_page.ensures.sees config m c.args.g.0 r (option_copied c.args.after) dir (c.in-Ok.ensures.value told r is) c.in-Ok.ensures.rising sees in subst (λ (o : Option (List ℕ)). Sees config (put m c.args.g.0 (Some (renamed r (reached o r.names)))) c.see_page.new.self) (sym (c.in-Ok-next_page.ensures.value (option_copied c.args.after))) seen

pub returns-in-Ok-next_page-clause-past : goal.returns-in-Ok-next_page-clause-past
returns-in-Ok-next_page-clause-past g c = page_past (option_copied c.args.after) c.in-Ok.page c.in-Ok-next_page.next (c.in-Ok-next_page.ensures.value (option_copied c.args.after)) c.in-Ok.ensures.rising
