-- The worked run, deed by deed.
use Rattle.std.proofs.Common.{◌≡◌, ℕ, refl, arith, inl, inr}
use Rattle.std.proofs.lemmas.Bool.Decides.{nat_tests}
use Rattle.ec_attr.specs.Bricks.{count_below}
use Rattle.ec_law_pieces.specs.File.{File}
use Rattle.ec_law_pieces.specs.Deed.{Runs, IsPlan}
use Rattle.ec_law_pieces.specs.WorkedDeeds.{numbers, nothing, five, WorkedDeeds, creation, writing, copying, beside, touching, after_creation, after_writing, after_copying, after_beside}

five_is_plan : {f : File ℕ ℕ ℕ ℕ ℕ} {a : ℕ} → f.took a ≡ 0 → IsPlan numbers 3 2 f a five
five_is_plan {f} {a} t = record {
  sets = λ p i u e g. cc;
  keeps = λ p i e g. absurd (cc);
  zero = λ p e g. absurd (grind (arith, nat_tests));
  grows = λ p e g. rw t (grind (arith, nat_tests));
}

creation_runs : Runs numbers 3 2 creation nothing
unfolding count_below
creation_runs = (
  (refl, refl),
  (
    (refl, refl),
    (
      (refl, refl),
      (
        ((refl, refl, refl, refl, refl), inl refl),
        (
          ((refl, refl, refl, refl, refl), inr refl),
          (
            ((refl, refl, refl, refl, refl), inr refl),
            (
              ((refl, refl, refl, refl, (refl, refl, refl), refl), refl),
              (((refl, refl, refl, refl, (refl, refl, refl), refl), refl), refl),
            ),
          ),
        ),
      ),
    ),
  ),
)

writing_runs : Runs numbers 3 2 writing after_creation
unfolding count_below
writing_runs = (
  ((refl, refl, refl, refl, refl, λ x. grind (arith, nat_tests)), refl),
  (
    ((refl, refl, refl, refl, refl, λ x. grind (arith, nat_tests)), refl),
    (
      ((refl, refl), refl),
      (
        (inl refl, refl, refl, refl, refl, refl),
        (
          (inl refl, refl, refl, refl, refl, refl),
          (
            ((refl, omega arith, omega arith, refl, refl, refl), λ b e. grind (arith, nat_tests)),
            (
              ((refl, (refl, refl, refl), record { real = refl; number = omega arith }, inl refl, refl), refl),
              (
                ((refl, (refl, refl, refl), record { real = refl; number = omega arith }, inl refl, refl), refl),
                (
                  (omega arith, refl, refl, refl, five_is_plan refl),
                  (
                    (refl, (refl, refl, omega arith), refl, refl, refl, λ p e. e),
                    (
                      (refl, (refl, refl, omega arith), refl, refl, refl, λ p e. e),
                      (
                        ((refl, (refl, refl, refl), record { real = refl; number = omega arith }, refl, refl, omega arith), refl, refl, λ p e. grind (arith, nat_tests)),
                        (
                          ((refl, (refl, refl, refl), record { real = refl; number = omega arith }, refl, refl, omega arith), refl, refl, λ p e. grind (arith, nat_tests)),
                          (
                            (refl, refl),
                            ((refl, refl), refl),
                          ),
                        ),
                      ),
                    ),
                  ),
                ),
              ),
            ),
          ),
        ),
      ),
    ),
  ),
)

copying_runs : Runs numbers 3 2 copying after_writing
unfolding count_below
copying_runs = (
  ((refl, λ a e. grind (arith, nat_tests)), refl),
  (
    ((refl, λ a e. grind (arith, nat_tests)), refl),
    (
      ((refl, λ a e. grind (arith, nat_tests)), refl),
      (
        ((refl, refl, refl, refl, refl, λ x. grind (arith, nat_tests)), refl),
        (
          ((refl, refl, refl, refl, refl, λ x. grind (arith, nat_tests)), refl),
          (
            ((refl, refl, refl, refl, refl, λ x. grind (arith, nat_tests)), refl),
            (
              ((refl, refl), refl),
              (
                (inl refl, refl, refl, refl, refl, refl),
                (
                  (inl refl, refl, refl, refl, refl, refl),
                  (
                    (inl refl, refl, refl, refl, refl, refl),
                    (
                      ((refl, omega arith, omega arith, refl, refl, refl), λ b e. grind (arith, nat_tests)),
                      (
                        ((refl, refl, record { real = refl; number = omega arith }, refl, refl, refl, refl, refl, refl, (λ x e ne. grind (arith, nat_tests)), inr (inr (λ e. cc))), refl),
                        (
                          (refl, (refl, refl, omega arith), refl, λ p e. inr (e, refl)),
                          (
                            ((refl, refl, omega arith), refl),
                            (
                              ((refl, refl, omega arith), refl),
                              (
                                (refl, refl),
                                (
                                  (refl, (refl, refl, omega arith), refl, λ p e. inl (λ x r. r 0 5 (grind (arith, nat_tests)))),
                                  (
                                    (refl, refl),
                                    (
                                      (refl, refl),
                                      ((refl, refl), refl),
                                    ),
                                  ),
                                ),
                              ),
                            ),
                          ),
                        ),
                      ),
                    ),
                  ),
                ),
              ),
            ),
          ),
        ),
      ),
    ),
  ),
)

beside_runs : Runs numbers 3 2 beside after_copying
unfolding count_below
beside_runs = (
  ((refl, refl, refl, refl, refl, λ x. grind (arith, nat_tests)), refl),
  (
    ((refl, refl, refl, refl, refl, λ x. grind (arith, nat_tests)), refl),
    (
      ((refl, refl, refl, refl, refl, λ x. grind (arith, nat_tests)), refl),
      (
        ((refl, refl), refl),
        (
          (inl refl, refl, refl, refl, refl, refl),
          (
            (inl refl, refl, refl, refl, refl, refl),
            (
              (inl refl, refl, refl, refl, refl, refl),
              (
                ((refl, omega arith, omega arith, refl, refl, refl), λ b e. grind (arith, nat_tests)),
                (
                  ((refl, (refl, refl, refl), record { real = refl; number = omega arith }, inl refl, refl), refl),
                  (
                    ((refl, (refl, refl, refl), record { real = refl; number = omega arith }, inl refl, refl), refl),
                    (
                      ((refl, (refl, refl, refl), record { real = refl; number = omega arith }, refl, refl), refl),
                      (
                        ((refl, refl, omega arith), refl),
                        (
                          ((refl, refl, omega arith), refl),
                          (
                            (omega arith, refl, refl, refl, record { sets = λ p i u e g. absurd (cc); keeps = λ p i e g. inl (λ x r. r 0 5 (grind (arith, nat_tests))); zero = λ p e g. absurd (grind (arith, nat_tests)); grows = λ p e g. g }),
                            (
                              (refl, (refl, refl, omega arith), refl, refl, refl, λ p e. e),
                              (
                                (refl, (refl, refl, omega arith), refl, refl, refl, λ p e. e),
                                (
                                  (refl, (refl, refl, omega arith), refl, refl, refl, λ p e. e),
                                  (
                                    (refl, (refl, refl, omega arith), refl, refl, refl, λ p e. e),
                                    (
                                      ((refl, (refl, refl, refl), record { real = refl; number = omega arith }, refl, refl, omega arith), refl, refl, λ p e. grind (arith, nat_tests)),
                                      (
                                        ((refl, (refl, refl, refl), record { real = refl; number = omega arith }, refl, refl, omega arith), refl, refl, λ p e. grind (arith, nat_tests)),
                                        (
                                          ((refl, (refl, refl, refl), record { real = refl; number = omega arith }, refl, refl, omega arith), refl, refl, λ p e. grind (arith, nat_tests)),
                                          (
                                            (refl, refl),
                                            (
                                              (refl, refl),
                                              ((refl, refl), refl),
                                            ),
                                          ),
                                        ),
                                      ),
                                    ),
                                  ),
                                ),
                              ),
                            ),
                          ),
                        ),
                      ),
                    ),
                  ),
                ),
              ),
            ),
          ),
        ),
      ),
    ),
  ),
)

touching_runs : Runs numbers 3 2 touching after_beside
unfolding count_below
touching_runs = (
  ((refl, refl, refl, refl, refl, λ x. grind (arith, nat_tests)), refl),
  (
    ((refl, refl, refl, refl, refl, λ x. grind (arith, nat_tests)), refl),
    (
      ((refl, refl, refl, refl, refl, λ x. grind (arith, nat_tests)), refl),
      (
        ((refl, refl), refl),
        (
          (inl refl, refl, refl, refl, refl, refl),
          (
            (inl refl, refl, refl, refl, refl, refl),
            (
              (inl refl, refl, refl, refl, refl, refl),
              (
                ((refl, omega arith, omega arith, refl, refl, refl), λ b e. grind (arith, nat_tests)),
                (
                  ((refl, (refl, refl, refl), record { real = refl; number = omega arith }, refl, refl, refl, refl, refl), (λ p. grind (arith, nat_tests)), refl),
                  (
                    ((refl, (refl, refl, refl), record { real = refl; number = omega arith }, inl refl, refl), refl),
                    (
                      ((refl, (refl, refl, refl), record { real = refl; number = omega arith }, inl refl, refl), refl),
                      (
                        ((refl, (refl, refl, refl), record { real = refl; number = omega arith }, inr refl, refl), refl),
                        (
                          (omega arith, refl, refl, refl, record { sets = λ p i u e g. absurd (cc); keeps = λ p i e g. absurd (cc); zero = λ p e g. absurd (cc); grows = λ p e g. g }),
                          (
                            ((refl, (refl, refl, refl), record { real = refl; number = omega arith }, refl, refl, omega arith), refl, refl, λ p e. grind (arith, nat_tests)),
                            (
                              ((refl, (refl, refl, refl), record { real = refl; number = omega arith }, refl, refl, omega arith), refl, refl, λ p e. grind (arith, nat_tests)),
                              (
                                ((refl, (refl, refl, refl), record { real = refl; number = omega arith }, refl, refl, omega arith), refl, refl, λ p e. grind (arith, nat_tests)),
                                (
                                  ((refl, (refl, refl, refl), refl, refl, λ c lt. grind (arith, nat_tests)), refl),
                                  (
                                    ((refl, (refl, refl, refl), refl, refl, λ c lt. grind (arith, nat_tests)), refl),
                                    (
                                      ((refl, (refl, refl, refl), refl, refl, λ c lt. grind (arith, nat_tests)), refl),
                                      (
                                        ((refl, refl, refl, (λ b. refl), omega arith), refl),
                                        (
                                          ((refl, refl, refl, refl, refl, refl), refl),
                                          (
                                            ((refl, refl, refl, refl, refl, refl), refl),
                                            (
                                              ((refl, refl, refl, refl, refl, refl), refl),
                                              (
                                                ((refl, refl), refl),
                                                (
                                                  (inl refl, refl, refl, refl, refl, refl),
                                                  (
                                                    (inl refl, refl, refl, refl, refl, refl),
                                                    (
                                                      (inl refl, refl, refl, refl, refl, refl),
                                                      (
                                                        (refl, omega arith, refl, refl, refl, refl),
                                                        (
                                                          (refl, refl),
                                                          (
                                                            (refl, refl),
                                                            (
                                                              (refl, refl),
                                                              (
                                                                (refl, refl),
                                                                (
                                                                  (refl, refl),
                                                                  ((refl, refl), refl),
                                                                ),
                                                              ),
                                                            ),
                                                          ),
                                                        ),
                                                      ),
                                                    ),
                                                  ),
                                                ),
                                              ),
                                            ),
                                          ),
                                        ),
                                      ),
                                    ),
                                  ),
                                ),
                              ),
                            ),
                          ),
                        ),
                      ),
                    ),
                  ),
                ),
              ),
            ),
          ),
        ),
      ),
    ),
  ),
)

pub worked : WorkedDeeds
worked = record { creation = creation_runs; writing = writing_runs; copying = copying_runs; beside = beside_runs; touching = touching_runs }
