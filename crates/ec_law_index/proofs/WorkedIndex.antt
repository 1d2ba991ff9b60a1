-- The worked run, act by act.
use Rattle.std.proofs.Common.{refl, arith}
use Rattle.std.proofs.lemmas.Bool.Decides.{nat_tests}
use Rattle.ec_law_base.proofs.Counts.{some}
use Rattle.ec_law_ballots.specs.Begin.{is_plain}
use Rattle.ec_law_ballots.specs.WorkedRun.{nothing}
use Rattle.ec_law_index.specs.Index.{InIndex}
use Rattle.ec_law_index.specs.WorkedIndex.{WorkedIndex}

none_there : InIndex 3 2 nothing.began
none_there v members b here out = let c = some (λ c. is_plain v (nothing.began c)) 3 (omega arith) in absurd (let e = c.1 in cc)

pub worked : WorkedIndex
worked = record {
  start = none_there;
  creation = (refl, (refl, (refl, (refl, (refl, (refl, (λ c lt. grind (arith, nat_tests), (λ c lt. grind (arith, nat_tests), (refl, (refl, (refl, refl)))))))))));
  writes = (refl, (refl, (refl, (refl, (refl, (refl, (refl, (refl, (refl, (refl, (refl, (refl, (refl, (refl, (refl, (refl, (refl, (refl, (refl, (refl, (refl, (refl, (refl, refl)))))))))))))))))))))));
  reading = (refl, (refl, (refl, (refl, (refl, (refl, (refl, refl)))))));
  marking = (refl, (refl, (refl, (refl, (refl, (refl, (refl, (refl, (refl, (refl, (refl, (refl, (refl, (refl, (refl, refl)))))))))))))));
  beside = (refl, (refl, (refl, (refl, (refl, (refl, (refl, (refl, (refl, (refl, (refl, (refl, (refl, (refl, (refl, (refl, (refl, refl)))))))))))))))));
  touching = (refl, (refl, (refl, (refl, (refl, (refl, (refl, (refl, (refl, (refl, (refl, (refl, (refl, (refl, (refl, (refl, (refl, (refl, (refl, (refl, (refl, (refl, (refl, (refl, refl))))))))))))))))))))))));
}
