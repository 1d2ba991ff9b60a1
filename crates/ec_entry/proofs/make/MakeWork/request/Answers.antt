use Rattle.std.proofs.Common.{sym, ◌∙◌, ap, Some}
use Rattle.ec_txn.proofs.Turns.{if_more}
use Rattle.ec_wire.specs.declared.request.Request.TheVariants.{Made as MadeOf, Make as MakeOf, NameSet}
use Rattle.ec_entry.specs.Make.{entry_request, made_request, make_asks, make_request}
use Rattle.ec_entry.proofs.Makes.{entry_is, made_is, make_is, members_by}
use Rattle.ec_entry.proofs.make.MakeWork.request.Goals as goal

pub returns-in-Makes : goal.returns-in-Makes
returns-in-Makes g c = λ a sees. c.make_of.ensures
    ∙ (members_by c.args.ctx.now c.args.known.now a c.in-Makes.group c.args.brick (λ grant. MakeOf c.args.self.now.parent grant (record { kind = c.args.self.now.kind; gfid = c.args.ctx.now.child })) (make_request a.given) sees.of sees.shows
    (make_is c.args.ctx.now a.given c.args.self.now.kind c.args.self.now.parent c.args.self.now.name sees.of sees.fit)
    ∙ ap (λ s. make_asks s a c.args.brick) (sym c.in-Makes.is))

pub returns-in-Enters : goal.returns-in-Enters
returns-in-Enters g c = if_more c.entry_of.result _ _ (λ request h. λ a sees. h
    ∙ (members_by c.args.ctx.now c.args.known.now a c.in-Enters.group c.args.brick (λ grant. NameSet c.args.self.now.parent grant c.args.self.now.name (Some (record { kind = c.args.self.now.kind; gfid = c.args.ctx.now.child }))) (entry_request a.given) sees.of sees.shows
    (entry_is c.args.ctx.now a.given c.args.self.now.kind c.args.self.now.parent c.args.self.now.name sees.of sees.fit)
    ∙ ap (λ s. make_asks s a c.args.brick) (sym c.in-Enters.is))) c.entry_of.ensures

pub returns-in-Made : goal.returns-in-Made
returns-in-Made g c = λ a sees. c.made_of.ensures
    ∙ (members_by c.args.ctx.now c.args.known.now a c.in-Made.group c.args.brick (λ grant. MadeOf c.args.self.now.parent grant c.args.ctx.now.child) (made_request a.given) sees.of sees.shows
    (made_is c.args.ctx.now a.given c.args.self.now.kind c.args.self.now.parent c.args.self.now.name sees.of sees.fit)
    ∙ ap (λ s. make_asks s a c.args.brick) (sym c.in-Made.is))
