-- The worked run, happening by happening.
use Rattle.std.proofs.Common.{true, false, refl, arith, inl, inr}
use Rattle.std.proofs.lemmas.Bool.Decides.{nat_tests}
use Rattle.ec_attr.specs.Bricks.{count_below}
use Rattle.ec_law_pieces.specs.WorkedDeeds.{numbers}
use Rattle.ec_law_moments.specs.Reads.{Runs}
use Rattle.ec_law_moments.specs.WorkedSinks.{WorkedSinks, beginning, reading, first_window, beside, last_window, ending, after_reading, after_first, after_beside, after_last}

reading_runs : Runs numbers 3 2 reading beginning
unfolding count_below
reading_runs = (((((refl, refl, refl, refl, refl, λ c e. grind (arith, nat_tests)), refl)), refl), (((((refl, refl, refl, refl, refl, λ c e. grind (arith, nat_tests)), refl)), refl), (((((refl, refl), refl)), refl), (((inr refl, refl, refl, refl, refl, refl), refl), (((inr refl, refl, refl, refl, refl, refl), refl), ((inl refl, refl, refl, refl, refl), ((inl refl, refl, refl, refl, refl), ((((refl, refl)), refl), ((((refl, refl)), refl), refl)))))))))

first_window_runs : Runs numbers 3 2 first_window after_reading
unfolding count_below
first_window_runs = (((((refl, λ a e. grind (arith, nat_tests)), refl)), refl), (((((refl, λ a e. grind (arith, nat_tests)), refl)), refl), (((((refl, λ a e. grind (arith, nat_tests)), refl)), refl), (((((refl, refl, refl, refl, refl, λ x. grind (arith, nat_tests)), refl)), refl), (((((refl, refl, refl, refl, refl, λ x. grind (arith, nat_tests)), refl)), refl), (((((refl, refl, refl, refl, refl, λ x. grind (arith, nat_tests)), refl)), refl), (((((refl, refl), refl)), refl), (((inl refl, refl, refl, refl, refl, refl), refl), (((inl refl, refl, refl, refl, refl, refl), refl), (((inl refl, refl, refl, refl, refl, refl), refl), ((((refl, omega arith, omega arith, refl, refl, refl), λ b e. grind (arith, nat_tests)), (0, record { present = true; version = 1; dirty = 1; marked = false }, refl, refl, refl)), ((((refl, refl, record { real = refl; number = omega arith }, refl, refl, refl, refl, refl, refl, (λ x e ne. grind (arith, nat_tests)), inr (inr (λ e. cc))), refl), refl), (((refl, (refl, refl, omega arith), refl, λ p e. inr (e, refl)), (refl, refl, refl)), ((((refl, refl, omega arith), refl), (refl, refl)), ((((refl, refl, omega arith), refl), (refl, refl)), (((refl, (refl, refl, omega arith), refl, λ p e. inl (λ x r. r 0 5 (grind (arith, nat_tests)))), (refl, refl, refl)), ((((refl, refl)), refl), ((((refl, refl)), refl), ((((refl, refl)), refl), refl)))))))))))))))))))

beside_runs : Runs numbers 3 2 beside after_first
unfolding count_below
beside_runs = (((((refl, refl, refl, refl, refl, λ x. grind (arith, nat_tests)), refl)), refl), (((((refl, refl, refl, refl, refl, λ x. grind (arith, nat_tests)), refl)), refl), (((((refl, refl, refl, refl, refl, λ x. grind (arith, nat_tests)), refl)), refl), (((((refl, refl), refl)), refl), (((inl refl, refl, refl, refl, refl, refl), refl), (((inl refl, refl, refl, refl, refl, refl), refl), (((inl refl, refl, refl, refl, refl, refl), refl), ((((refl, omega arith, omega arith, refl, refl, refl), λ b e. grind (arith, nat_tests)), (0, record { present = true; version = 1; dirty = 1; marked = false }, refl, refl, refl)), (((((refl, (refl, refl, refl), record { real = refl; number = omega arith }, inl refl, refl), refl)), refl), (((((refl, (refl, refl, refl), record { real = refl; number = omega arith }, inl refl, refl), refl)), refl), (((((refl, (refl, refl, refl), record { real = refl; number = omega arith }, refl, refl), refl)), refl), (((omega arith, refl, refl, refl, record { sets = λ p i u e g. cc; keeps = λ p i e g. absurd (cc); zero = λ p e g. absurd (grind (arith, nat_tests)); grows = λ p e g. g }), refl), (((refl, (refl, refl, omega arith), refl, refl, refl, λ p e. e), refl), (((refl, (refl, refl, omega arith), refl, refl, refl, λ p e. e), refl), (((refl, (refl, refl, omega arith), refl, refl, refl, λ p e. e), refl), ((((refl, refl)), refl), ((((refl, refl)), refl), ((((refl, refl)), refl), refl))))))))))))))))))

last_window_runs : Runs numbers 3 2 last_window after_beside
unfolding count_below
last_window_runs = (((((refl, refl, refl, refl, refl, λ x. grind (arith, nat_tests)), refl)), refl), (((((refl, refl, refl, refl, refl, λ x. grind (arith, nat_tests)), refl)), refl), (((((refl, refl, refl, refl, refl, λ x. grind (arith, nat_tests)), refl)), refl), (((((refl, refl), refl)), refl), (((inl refl, refl, refl, refl, refl, refl), refl), (((inl refl, refl, refl, refl, refl, refl), refl), (((inl refl, refl, refl, refl, refl, refl), refl), ((((refl, omega arith, omega arith, refl, refl, refl), λ b e. grind (arith, nat_tests)), (0, record { present = true; version = 1; dirty = 2; marked = false }, refl, refl, refl)), ((((refl, refl, omega arith), refl), (refl, refl)), ((((refl, refl, omega arith), refl), (refl, refl)), (((refl, (refl, refl, omega arith), refl, λ p e. inl (λ x r. r 0 5 (grind (arith, nat_tests)))), (refl, refl, refl)), refl)))))))))))

ending_runs : Runs numbers 3 2 ending after_last
unfolding count_below
ending_runs = ((((refl, (refl, refl, refl), record { real = refl; number = omega arith }, refl, refl, refl, refl, refl), (λ p. grind (arith, nat_tests)), refl), ((λ x e m ne. grind (arith, nat_tests)), (21, refl, refl), refl)), (((((refl, (refl, refl, refl), record { real = refl; number = omega arith }, inl refl, refl), refl)), refl), (((((refl, (refl, refl, refl), record { real = refl; number = omega arith }, inl refl, refl), refl)), refl), (((((refl, (refl, refl, refl), record { real = refl; number = omega arith }, inr refl, refl), refl)), refl), (((omega arith, refl, refl, refl, record { sets = λ p i u e g. absurd (cc); keeps = λ p i e g. absurd (cc); zero = λ p e g. absurd (cc); grows = λ p e g. g }), refl), ((((refl, (refl, refl, refl), record { real = refl; number = omega arith }, refl, refl, omega arith), refl, refl, λ p e. grind (arith, nat_tests)), refl), ((((refl, (refl, refl, refl), record { real = refl; number = omega arith }, refl, refl, omega arith), refl, refl, λ p e. grind (arith, nat_tests)), refl), ((((refl, (refl, refl, refl), record { real = refl; number = omega arith }, refl, refl, omega arith), refl, refl, λ p e. grind (arith, nat_tests)), refl), (((((refl, (refl, refl, refl), refl, refl, λ c lt. grind (arith, nat_tests)), refl)), refl), (((((refl, (refl, refl, refl), refl, refl, λ c lt. grind (arith, nat_tests)), refl)), refl), (((((refl, (refl, refl, refl), refl, refl, λ c lt. grind (arith, nat_tests)), refl)), refl), ((((refl, refl)), refl), ((((refl, refl)), refl), ((((refl, refl)), refl), ((((refl, refl)), refl), ((((refl, refl)), refl), ((((refl, refl)), refl), refl)))))))))))))))))

pub worked : WorkedSinks
worked = record {
  reading = reading_runs;
  first_window = first_window_runs;
  beside = beside_runs;
  last_window = last_window_runs;
  ending = ending_runs;
  opened = (refl, refl);
  stirred = (refl, refl, refl);
  closed = (refl, refl, refl);
}
