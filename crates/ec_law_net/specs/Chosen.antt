-- The ballot over a good group: what a call takes for the group among the heads that it heard is a quorum for the machine.
use Rattle.std.specs.Prelude.{◌≡◌, ℕ, ◌<◌, ◌≤◌, Some}
use Rattle.std.specs.Option.{option_map}
use Rattle.ec_attr.specs.Bricks.{count_below}
use Rattle.ec_attr.specs.declared.head.Head.{Head}
use Rattle.ec_conduct.specs.Group.{Heads, group_head}
use Rattle.ec_law_ballots.specs.Words.{at_base}
use Rattle.ec_law_net.specs.Start.{seen_head}

-- Of heads that n bricks answered: where they have a good group of this head, at least k of them are ones on which a ballot
-- on the group's version with a higher number than its dirty ones may stand.
abbrev pub GroupIsQuorum : Type 0
GroupIsQuorum = (n k : ℕ) (heads : Heads) (q : Head) (number : ℕ) → n ≤ 31 → group_head n k heads ≡ Some q → q.dirty.content < number → k ≤ count_below n (λ b. at_base (record { base = q.version.content; number = number }) (option_map (λ h. seen_head (Some h)) (heads b)))
