-- The worked run, act by act.
use Rattle.std.proofs.Common.{◌≡◌, ℕ, zero, suc, ◌<◌, true, false, refl, arith, inl, inr}
use Rattle.std.proofs.lemmas.Bool.Decides.{nat_tests}
use Rattle.ec_attr.specs.Bricks.{count_below}
use Rattle.ec_law_ballots.specs.Words.{head}
use Rattle.ec_law_ballots.specs.Guard.{Runs}
use Rattle.ec_law_ballots.specs.WorkedRun.{nothing, WorkedRun, creation, writes, reading, marking, beside, touching, ending, after_creation, after_writes, after_reading, after_marking, after_beside, after_touching}

creation_runs : Runs 3 2 creation nothing
unfolding count_below
creation_runs = (
  refl,
  (
    refl,
    (
      refl,
      (
        (refl, refl, refl, refl, refl),
        (
          (refl, refl, refl, refl, refl),
          (
            (refl, refl, refl, refl, refl),
            (
              (refl, refl, refl, refl, (refl, refl, refl), refl),
              (
                (refl, refl, refl, refl, (refl, refl, refl), refl),
                (
                  refl,
                  (
                    refl,
                    (refl, refl),
                  ),
                ),
              ),
            ),
          ),
        ),
      ),
    ),
  ),
)

writes_runs : Runs 3 2 writes after_creation
unfolding count_below
writes_runs = (
  (refl, refl, refl, refl, refl, λ x. grind (arith, nat_tests)),
  (
    (refl, refl, refl, refl, refl, λ x. grind (arith, nat_tests)),
    (
      (refl, refl),
      (
        (inl refl, refl, refl, refl, refl, refl),
        (
          (inl refl, refl, refl, refl, refl, refl),
          (
            (refl, omega arith, omega arith, refl, refl, refl),
            (
              (refl, (refl, refl, refl), record { real = refl; number = omega arith }, inl refl, refl),
              (
                (refl, (refl, refl, refl), record { real = refl; number = omega arith }, inl refl, refl),
                (
                  (refl, (refl, refl, refl), record { real = refl; number = omega arith }, refl, refl, omega arith),
                  (
                    (refl, (refl, refl, refl), record { real = refl; number = omega arith }, refl, refl, omega arith),
                    (
                      (refl, refl, refl, λ b. refl, omega arith),
                      (
                        (refl, refl, refl, refl, refl, refl),
                        (
                          (refl, refl, refl, refl, refl, refl),
                          (
                            (refl, refl),
                            (
                              (inl refl, refl, refl, refl, refl, refl),
                              (
                                (inl refl, refl, refl, refl, refl, refl),
                                (
                                  (refl, omega arith, refl, refl, refl, refl),
                                  (
                                    (refl, (refl, refl, refl), record { real = refl; number = omega arith }, inl refl, refl),
                                    (
                                      (refl, (refl, refl, refl), record { real = refl; number = omega arith }, inl refl, refl),
                                      (
                                        (refl, (refl, refl, refl), record { real = refl; number = omega arith }, refl, refl, omega arith),
                                        (
                                          (refl, (refl, refl, refl), record { real = refl; number = omega arith }, refl, refl, omega arith),
                                          (
                                            refl,
                                            (refl, refl),
                                          ),
                                        ),
                                      ),
                                    ),
                                  ),
                                ),
                              ),
                            ),
                          ),
                        ),
                      ),
                    ),
                  ),
                ),
              ),
            ),
          ),
        ),
      ),
    ),
  ),
)

reading_runs : Runs 3 2 reading after_writes
unfolding count_below
reading_runs = (
  (refl, refl, refl, refl, refl, λ c e. grind (arith, nat_tests)),
  (
    (refl, refl, refl, refl, refl, λ c e. grind (arith, nat_tests)),
    (
      (refl, refl),
      (
        (inr refl, refl, refl, refl, refl, refl),
        (
          (inr refl, refl, refl, refl, refl, refl),
          (
            refl,
            (refl, refl),
          ),
        ),
      ),
    ),
  ),
)

marking_runs : Runs 3 2 marking after_reading
unfolding count_below
marking_runs = (
  (refl, λ a e. grind (arith, nat_tests)),
  (
    (refl, λ a e. grind (arith, nat_tests)),
    (
      (refl, λ a e. grind (arith, nat_tests)),
      (
        (refl, refl, refl, refl, refl, λ x. grind (arith, nat_tests)),
        (
          (refl, refl, refl, refl, refl, λ x. grind (arith, nat_tests)),
          (
            (refl, refl, refl, refl, refl, λ x. grind (arith, nat_tests)),
            (
              (refl, refl),
              (
                (inl refl, refl, refl, refl, refl, refl),
                (
                  (inl refl, refl, refl, refl, refl, refl),
                  (
                    (inl refl, refl, refl, refl, refl, refl),
                    (
                      (refl, omega arith, omega arith, refl, refl, refl),
                      (
                        (refl, refl, record { real = refl; number = omega arith }, refl, refl, refl, refl, refl, refl, (λ x e ne. grind (arith, nat_tests)), inr (inr (λ e. cc))),
                        (
                          refl,
                          (
                            refl,
                            (refl, refl),
                          ),
                        ),
                      ),
                    ),
                  ),
                ),
              ),
            ),
          ),
        ),
      ),
    ),
  ),
)

beside_runs : Runs 3 2 beside after_marking
unfolding count_below
beside_runs = (
  (refl, refl, refl, refl, refl, λ x. grind (arith, nat_tests)),
  (
    (refl, refl, refl, refl, refl, λ x. grind (arith, nat_tests)),
    (
      (refl, refl, refl, refl, refl, λ x. grind (arith, nat_tests)),
      (
        (refl, refl),
        (
          (inl refl, refl, refl, refl, refl, refl),
          (
            (inl refl, refl, refl, refl, refl, refl),
            (
              (inl refl, refl, refl, refl, refl, refl),
              (
                (refl, omega arith, omega arith, refl, refl, refl),
                (
                  (refl, (refl, refl, refl), record { real = refl; number = omega arith }, inl refl, refl),
                  (
                    (refl, (refl, refl, refl), record { real = refl; number = omega arith }, inl refl, refl),
                    (
                      (refl, (refl, refl, refl), record { real = refl; number = omega arith }, refl, refl),
                      (
                        (refl, (refl, refl, refl), record { real = refl; number = omega arith }, refl, refl, omega arith),
                        (
                          (refl, (refl, refl, refl), record { real = refl; number = omega arith }, refl, refl, omega arith),
                          (
                            (refl, (refl, refl, refl), record { real = refl; number = omega arith }, refl, refl, omega arith),
                            (
                              refl,
                              (
                                refl,
                                (refl, refl),
                              ),
                            ),
                          ),
                        ),
                      ),
                    ),
                  ),
                ),
              ),
            ),
          ),
        ),
      ),
    ),
  ),
)

touching_runs : Runs 3 2 touching after_beside
unfolding count_below
touching_runs = (
  (refl, refl, refl, refl, refl, λ x. grind (arith, nat_tests)),
  (
    (refl, refl, refl, refl, refl, λ x. grind (arith, nat_tests)),
    (
      (refl, refl, refl, refl, refl, λ x. grind (arith, nat_tests)),
      (
        (refl, refl),
        (
          (inl refl, refl, refl, refl, refl, refl),
          (
            (inl refl, refl, refl, refl, refl, refl),
            (
              (inl refl, refl, refl, refl, refl, refl),
              (
                (refl, omega arith, omega arith, refl, refl, refl),
                (
                  (refl, (refl, refl, refl), record { real = refl; number = omega arith }, refl, refl, refl, refl, refl),
                  (
                    (refl, (refl, refl, refl), record { real = refl; number = omega arith }, inl refl, refl),
                    (
                      (refl, (refl, refl, refl), record { real = refl; number = omega arith }, inl refl, refl),
                      (
                        (refl, (refl, refl, refl), record { real = refl; number = omega arith }, inr refl, refl),
                        (
                          (refl, (refl, refl, refl), record { real = refl; number = omega arith }, refl, refl, omega arith),
                          (
                            (refl, (refl, refl, refl), record { real = refl; number = omega arith }, refl, refl, omega arith),
                            (
                              (refl, (refl, refl, refl), record { real = refl; number = omega arith }, refl, refl, omega arith),
                              (
                                (refl, (refl, refl, refl), refl, refl, λ c lt. grind (arith, nat_tests)),
                                (
                                  (refl, (refl, refl, refl), refl, refl, λ c lt. grind (arith, nat_tests)),
                                  (
                                    (refl, (refl, refl, refl), refl, refl, λ c lt. grind (arith, nat_tests)),
                                    (
                                      refl,
                                      (
                                        refl,
                                        (
                                          refl,
                                          (
                                            refl,
                                            (
                                              refl,
                                              (refl, refl),
                                            ),
                                          ),
                                        ),
                                      ),
                                    ),
                                  ),
                                ),
                              ),
                            ),
                          ),
                        ),
                      ),
                    ),
                  ),
                ),
              ),
            ),
          ),
        ),
      ),
    ),
  ),
)

ending_runs : Runs 3 2 ending after_touching
unfolding count_below
ending_runs = (
  refl,
  (
    refl,
    ((refl, (λ x. grind (arith, nat_tests)), refl, refl, refl), refl),
  ),
)

alike : (b : ℕ) → b < 3 → head after_touching b ≡ record { present = true; version = 7; dirty = 0; marked = false }
alike zero lt = refl
alike (suc zero) lt = refl
alike (suc (suc zero)) lt = refl
alike (suc (suc (suc b))) lt = absurd (omega arith)

pub worked_run : WorkedRun
worked_run = record { creation = creation_runs; writes = writes_runs; reading = reading_runs; marking = marking_runs; beside = beside_runs; touching = touching_runs; ending = ending_runs; all_alike = alike; left = (refl, refl, refl) }
