-- What follows from how the table grants, for every list of asks.
use Rattle.std.specs.Prelude.{◌≡◌, ℕ, Bool, true, false, not, ◌&&◌, ◌||◌, List, [], ◌∷◌, ◌++◌, filter}
use Rattle.std.specs.List.{list_any}
use Rattle.ec_attr.specs.declared.gfid.Gfid.{Gfid}
use Rattle.ec_attr.specs.declared.kind.Domain.{Domain}
use Rattle.ec_attr.specs.declared.kind.LockKind.{LockKind}
use Rattle.ec_attr.specs.declared.kind.LockKind.TheVariants.{Exclusive}
use Rattle.ec_locks.specs.declared.ask.Ask.{Ask}
use Rattle.ec_locks.specs.declared.ask.Leaving.{Leaving}
use Rattle.ec_locks.specs.Table.{by_queue, conflicts, free, holds, is_behind, let_in, same_queue, some_grant, stays}

-- no queue stands after one that comes behind it
abbrev pub rises : List Ask → Bool
rises [] = true
rises (a ∷ rest) = not (list_any (is_behind a) rest) && rises rest

pub record LockLaws : Type 0 where
  -- two asks that conflict are not both granted
  pub apart : (before between : List Ask) (a b : Ask) → free (before ++ a ∷ between) b ≡ true → conflicts a b ≡ false
  -- beside an exclusive grant no other grant of its gfid and domain stands
  pub alone : (asks : List Ask) (n m : ℕ) (g : Gfid) (d : Domain) (k : LockKind) → holds asks n g d Exclusive ≡ true → holds asks m g d k ≡ true → m ≡ n
  -- first come, first served: behind one that waits all of its queue wait
  pub in_turn : (before between : List Ask) (a b : Ask) → free before a ≡ false → same_queue a b ≡ true → free (before ++ a ∷ between) b ≡ false
  -- a grant stays when another asks
  pub kept : (asks : List Ask) (e : Ask) (n : ℕ) (g : Gfid) (d : Domain) (k : LockKind) → holds asks n g d k ≡ true → holds (asks ++ e ∷ []) n g d k ≡ true
  -- after others left, exactly those are granted who were and stay, and those that were let in
  pub granted_after : (l : Leaving) (asks : List Ask) (p : Ask → Bool) → some_grant p [] (filter (stays l) asks) ≡ (some_grant (λ a. stays l a && p a) [] asks || list_any p (let_in l [] asks))
  -- a cut lets the queues in in their order, and of each queue in the order of asking
  pub in_order : (asks : List Ask) → rises (by_queue [] asks) ≡ true
  pub in_queue : (asks : List Ask) (a : Ask) → filter (same_queue a) (by_queue [] asks) ≡ filter (same_queue a) asks
