-- What bricks answered, and what follows of it.
use Rattle.std.specs.Prelude.{◌≡◌, ℕ, ◌<◌, ◌≤◌, max, Bool, true, false, Option, Some, None, slice_index_or}
use Rattle.ec_attr.specs.Bricks.{count_below, is_in}
use Rattle.ec_attr.specs.GoodGroup.{IsGoodGroup, greatest_dirty, is_sink, most_alike}
use Rattle.ec_attr.specs.Head.{with_dirty}
use Rattle.ec_attr.specs.declared.head.Head.{Head}
use Rattle.ec_answers.specs.declared.answers.Answers.{Answers}
use Rattle.ec_answers.specs.declared.answers.Given.{Given}
use Rattle.ec_answers.specs.declared.answers.Given.TheVariants.{Head as HeadGiven, NoInode, Other}
use Rattle.ec_answers.specs.declared.grouped.Grouped.{Grouped}
use Rattle.ec_answers.specs.declared.grouped.Grouped.TheVariants.{Group as Found, Gone, Fewer}

-- what brick b answered
abbrev pub given_by : Answers → ℕ → Option Given
given_by a b = slice_index_or a.given b None

abbrev pub head_in : Option Given → Option Head
head_in None = None
head_in (Some (HeadGiven h)) = Some h
head_in (Some NoInode) = None
head_in (Some Other) = None

-- the heads that were answered
abbrev pub heads_of : Answers → ℕ → Option Head
heads_of a b = head_in (given_by a b)

abbrev pub is_no_inode : Option Given → Bool
is_no_inode None = false
is_no_inode (Some (HeadGiven h)) = false
is_no_inode (Some NoInode) = true
is_no_inode (Some Other) = false

-- the bricks that answered that they have no record
abbrev pub absent : Answers → ℕ → Bool
absent a b = is_no_inode (given_by a b)

-- the size of the largest set that answered alike: unmarked heads that agree, or that there is no record
abbrev pub largest_alike : Answers → ℕ
largest_alike a = max (most_alike (heads_of a)) (count_below 31 (absent a))

-- the head is that of the first brick of the group, with the greatest dirty number of the group
abbrev pub IsHeadOf : (ℕ → Option Head) → (ℕ → Bool) → Head → Type 0
IsHeadOf heads group head =
    (b : ℕ) × (h : Head) × (group b ≡ true) × (heads b ≡ Some h) × (head ≡ with_dirty (greatest_dirty heads group) h) × ((c : ℕ) → c < b → group c ≡ false)

-- What k bricks say that answered alike: the good group among them, with its sinks and its head, or that there is no
-- record. Else no k of them are alike.
abbrev pub IsGrouped : ℕ → Answers → Grouped → Type 0
IsGrouped k a (Found g) =
    IsGoodGroup k (heads_of a) (is_in g.bricks)
    × ((b : ℕ) → is_in g.sinks b ≡ is_sink g.head (heads_of a b))
    × IsHeadOf (heads_of a) (is_in g.bricks) g.head
IsGrouped k a (Gone bricks) = (k ≤ count_below 31 (absent a)) × ((b : ℕ) → is_in bricks b ≡ absent a b)
IsGrouped k a (Fewer most) = (most ≡ largest_alike a) × (most < k)

-- the answer is the group of these bricks
abbrev pub IsGroupOf : (ℕ → Bool) → Grouped → Type 0
IsGroupOf group (Found g) = (b : ℕ) → is_in g.bricks b ≡ group b
IsGroupOf group (Gone bricks) = ⊥
IsGroupOf group (Fewer most) = ⊥

abbrev pub IsGone : Grouped → Type 0
IsGone (Found g) = ⊥
IsGone (Gone bricks) = Unit {0}
IsGone (Fewer most) = ⊥
