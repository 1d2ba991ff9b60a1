-- Each act keeps each clause at each brick, where several bricks together say what the act needs.
use Rattle.std.specs.Prelude.{◌≡◌, ℕ}
use Rattle.ec_law_base.specs.State.{State}
use Rattle.ec_law_ballots.specs.Act.{Act, step}
use Rattle.ec_law_ballots.specs.Act.Act.{Grant, Free, Share, Unshare, Moment, See, Keep, Carry, Choose, Choose_kept, Pre, Sink_pre, Post, Sink_post, Clear, Heal_grant, Heal_free, Mark, Unmark, Maker_grant, Maker_free, Make, Made, Unmake, Stop, Replace}
use Rattle.ec_law_ballots.specs.Guard.{May}
use Rattle.ec_law_ballots.specs.Clauses.{Local}
use Rattle.ec_law_ballots.specs.Facts.{BegunMoment, NumberMoment, NumberMaking, CarriesNumber, OriginLe, PostBelow, PreBelow, NumberBelow, MarkBelow, Alive}

-- what an act needs to know of other bricks
abbrev pub Needs : State → Act → Type 0
Needs s (Grant t d) = BegunMoment s
Needs s (Free d) = s ≡ s
Needs s (Share t d) = s ≡ s
Needs s (Unshare t d) = s ≡ s
Needs s (Moment t) = BegunMoment s
Needs s (See t d) = s ≡ s
Needs s (Keep t u) = s ≡ s
Needs s (Carry u t d) = BegunMoment s
Needs s (Choose t p) = CarriesNumber s
Needs s (Choose_kept t u p) = CarriesNumber s
Needs s (Pre t d) = NumberMoment s
Needs s (Sink_pre t d) = s ≡ s
Needs s (Post t d) = OriginLe s × Alive s t
Needs s (Sink_post t d) = PreBelow s d t × OriginLe s
Needs s (Clear t d) = s ≡ s
Needs s (Heal_grant h d) = s ≡ s
Needs s (Heal_free d) = s ≡ s
Needs s (Mark t d) = PreBelow s d t × PostBelow s × OriginLe s × NumberMaking s
Needs s (Unmark t d) = OriginLe s × NumberBelow s d t × MarkBelow s d t
Needs s (Maker_grant d) = s ≡ s
Needs s (Maker_free d) = s ≡ s
Needs s (Make d) = s ≡ s
Needs s (Made d) = s ≡ s
Needs s (Unmake d) = s ≡ s
Needs s (Stop d) = s ≡ s
Needs s (Replace d) = s ≡ s

abbrev pub ClausesKept : Type 0
ClausesKept = (n k : ℕ) (s : State) (e : Act) (b : ℕ) → May n k s e → Needs s e → Local s b → Local (step s e) b

pub record ClauseLaws : Type 0 where
  pub kept : ClausesKept
