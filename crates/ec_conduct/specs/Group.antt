-- The good group among the heads that n bricks answered, and the sinks beside it.
use Rattle.std.specs.Prelude.{ℕ, Bool, false, nat_le, Option, Some, None, List, [], ◌∷◌}
use Rattle.std.specs.Option.{option_map}
use Rattle.ec_attr.specs.Bricks.{bricks_below, count_below}
use Rattle.ec_attr.specs.GoodGroup.{alike, greatest_dirty, is_sink as is_sink_beside}
use Rattle.ec_attr.specs.Head.{with_dirty}
use Rattle.ec_attr.specs.declared.head.Head.{Head}

-- whether there is a value, and it passes the test
abbrev pub has : {A : Type 0} → (A → Bool) → Option A → Bool
has test None = false
has test (Some x) = test x

-- heads by brick, None where a brick has no record or hasn't answered, and where there is no such brick
abbrev pub Heads : Type 0
Heads = ℕ → Option Head

-- A brick of the good group has a head that is unmarked and agrees with those of at least k of n bricks.
abbrev pub is_good : ℕ → ℕ → Heads → ℕ → Bool
is_good n k heads b = nat_le k (count_below n (alike heads b))

abbrev pub good_group : ℕ → ℕ → Heads → List ℕ
good_group n k heads = bricks_below n (is_good n k heads)

abbrev pub first_head : Heads → List ℕ → Option Head
first_head heads [] = None
first_head heads (b ∷ bs) = heads b

-- the group's head, with the greatest dirty number in the group
abbrev pub group_head : ℕ → ℕ → Heads → Option Head
group_head n k heads = option_map (with_dirty (greatest_dirty heads (is_good n k heads))) (first_head heads (good_group n k heads))

-- a sink for a writer: its head is marked and else agrees with the group's
abbrev pub is_sink : ℕ → ℕ → Heads → ℕ → Bool
is_sink n k heads b = has (λ q. is_sink_beside q (heads b)) (group_head n k heads)
