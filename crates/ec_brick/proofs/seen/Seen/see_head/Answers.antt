use Rattle.std.proofs.Common.{rules, ◌≡◌, inl, inr, sym, ◌∙◌, subst, true, false}
use Rattle.ec_brick.specs.Opening.{Accepts, first_root}
use Rattle.ec_brick.proofs.Seeing.{new_record}
use Rattle.ec_brick.proofs.seen.Seen.see_head.Goals as goal

pub returns-then-not-is_first_root-clause-sees : goal.returns-then-not-is_first_root-clause-sees
returns-then-not-is_first_root-clause-sees c m r is absent sees = new_record c.args.config m c.args.g.0 r c.args.self.now _ (subst (Accepts c.args.config c.args.g.0) (sym is) c.requires) absent sees (rw is (search rules)) (search rules) (λ u. absurd (search rules)) (λ u. inr (λ w. let wrong : false ≡ true = c.if-not-is_first_root.ensures.1 (w.0, sym is ∙ w.1) in cc))

pub returns-else-not-is_first_root-clause-sees : goal.returns-else-not-is_first_root-clause-sees
returns-else-not-is_first_root-clause-sees c m r is absent sees = new_record c.args.config m c.args.g.0 r c.args.self.now _ (subst (Accepts c.args.config c.args.g.0) (sym is) c.requires) absent sees (rw is (search rules)) (search rules) (λ u. let first : (c.args.g.0 ≡ 1) × (c.args.h.now ≡ first_root c.args.config) = c.if-not-is_first_root.ensures.0 (search rules) in (u, first.0, is ∙ first.1)) (λ u. inl u)
