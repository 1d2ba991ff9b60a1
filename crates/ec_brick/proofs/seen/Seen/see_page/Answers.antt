use Rattle.std.proofs.Common.{rules, ◌≡◌, ◌≢◌, inl, inr, ℕ, [], ◌∷◌, ◌<◌, length, refl, arith, ◌≤◌}
use Rattle.ec_store.specs.Pages.{Page}
use Rattle.ec_brick.specs.Walk.{next_page, passed, reached}
use Rattle.ec_brick.proofs.NamePages.{extends}
use Rattle.ec_brick.proofs.Seeing.{more_names}
use Rattle.ec_brick.proofs.seen.Seen.see_page.Goals as goal

not_empty : (page : Page) → 0 < length page → page ≢ []
not_empty [] lt = absurd (omega (arith, lt))
not_empty (x ∷ xs) lt = λ e. cc

empty : (page : Page) (n : ℕ) → n ≡ length page → n ≤ 0 → page ≡ []
empty [] n e le = refl
empty (x ∷ xs) n e le = absurd (omega (arith, e, le))

pub returns-then-len-gt0-clause-sees : goal.returns-then-len-gt0-clause-sees
returns-then-len-gt0-clause-sees c config m g r after dir is rise sees = more_names config m g r c.args.self.now _ c.args.page.now (passed after r.names) (reached (next_page after c.args.page.now) r.names) dir (extends after r.names c.args.page.now is rise) sees refl (search rules) (λ u. absurd (search rules)) (λ u. inr (not_empty c.args.page.now (omega (arith, c.if-len-gt0.true, c.len.ensures))))

pub returns-else-len-gt0-clause-sees : goal.returns-else-len-gt0-clause-sees
returns-else-len-gt0-clause-sees c config m g r after dir is rise sees = more_names config m g r c.args.self.now _ c.args.page.now (passed after r.names) (reached (next_page after c.args.page.now) r.names) dir (extends after r.names c.args.page.now is rise) sees refl (search rules) (λ u. (u, empty c.args.page.now c.len.result c.len.ensures c.if-len-gt0.false)) (λ u. inl u)
