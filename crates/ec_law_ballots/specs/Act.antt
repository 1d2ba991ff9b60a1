-- What bricks and turns do, and what comes of it.
use Rattle.std.specs.Prelude.{ℕ, ◌-◌, Bool, true, false, not, cond, ◌==◌, ◌&&◌, ◌||◌, nat_lt, nat_le, Some, None, List, [], ◌∷◌}
use Rattle.ec_law_base.specs.State.{State, Ballot, target, put, put2}
use Rattle.ec_law_ballots.specs.Words.{head}

pub data Act : Type 0 where
  -- the Inode grant is given, and ends
  Grant : (turn brick : ℕ) → Act
  Free : (brick : ℕ) → Act
  -- a shared one
  Share : (turn brick : ℕ) → Act
  Unshare : (turn brick : ℕ) → Act
  -- the last grant is heard before the first Query; a Query is executed
  Moment : (turn : ℕ) → Act
  See : (turn brick : ℕ) → Act
  -- a turn goes on under the kept grants of another: it names it, and takes over a grant that still stands
  Keep : (turn other : ℕ) → Act
  Carry : (other turn brick : ℕ) → Act
  -- a turn takes its ballot, over a group that it saw or on the commit whose grants it carries over
  Choose : (turn : ℕ) (ballot : Ballot) → Act
  Choose_kept : (turn other : ℕ) (ballot : Ballot) → Act
  -- PreOp, PostOp on an unmarked record and on a marked one, and Clear
  Pre : (turn brick : ℕ) → Act
  Sink_pre : (turn brick : ℕ) → Act
  Post : (turn brick : ℕ) → Act
  Sink_post : (turn brick : ℕ) → Act
  Clear : (turn brick : ℕ) → Act
  -- the Heal grant is given to a call, and ends; a window marks a record, and takes a mark away
  Heal_grant : (call brick : ℕ) → Act
  Heal_free : (brick : ℕ) → Act
  Mark : (turn brick : ℕ) → Act
  Unmark : (turn brick : ℕ) → Act
  -- the maker has the directory's grant, and loses it; Make, Made, Unmake
  Maker_grant : (brick : ℕ) → Act
  Maker_free : (brick : ℕ) → Act
  Make : (brick : ℕ) → Act
  Made : (brick : ℕ) → Act
  Unmake : (brick : ℕ) → Act
  -- a brick stops; a stopped brick is replaced by an empty one
  Stop : (brick : ℕ) → Act
  Replace : (brick : ℕ) → Act

-- the dirty numbers after the PreOp of turn a at brick b
abbrev pub raised : State → ℕ → ℕ → ℕ → ℕ
raised s a b = put s.dirty b (s.ballot a).number

-- the greatest dirty number of the group on which a turn chose its number
abbrev pub group_dirty : Ballot → ℕ
group_dirty p = p.number - 1

-- Turn a sets the dirty number of a brick below its own number: on its base, whoever has a PreOp there with a number that
-- high gets no K PreOps any more.
abbrev pub overtakes : State → ℕ → ℕ → ℕ → Bool
overtakes s a b e = s.pre e b && ((s.ballot e).base == (s.ballot a).base) && nat_le (s.ballot a).number (s.ballot e).number

-- Turn a brings a brick back to its base: whoever did a PostOp there on that base commits no more.
abbrev pub brings_back : State → ℕ → ℕ → ℕ → Bool
brings_back s a b e = s.post e b && ((s.ballot e).base == (s.ballot a).base)

abbrev pub first_risen : State → ℕ → ℕ → ℕ → ℕ
first_risen s a b = put s.risen_by b (cond ((s.version b == 0) && not (s.marked b)) a (s.risen_by b))

abbrev pub step : State → Act → State
step s (Grant a b) = record s {
  holder = put s.holder b (Some a);
  granted = put2 s.granted a b true;
  early = put2 s.early a b (not (s.moment a));
}
step s (Free b) = record s { holder = put s.holder b None }
step s (Share a b) = record s {
  shares = put2 s.shares a b true;
  granted = put2 s.granted a b true;
  early = put2 s.early a b (not (s.moment a));
  reads = put s.reads a true;
}
step s (Unshare a b) = record s { shares = put2 s.shares a b false }
step s (Moment a) = record s {
  moment = put s.moment a true;
  at_pre = λ x e c. cond (x == a) (s.pre e c) (s.at_pre x e c);
  at_post = λ x e c. cond (x == a) (s.post e c) (s.at_post x e c);
  begun = λ x e. cond (x == a) (s.moment e) (s.begun x e);
  had = λ x e. cond (x == a) (nat_lt 0 (s.ballot e).number) (s.had x e);
}
step s (See a b) = record s { seen = put2 s.seen a b (Some (head s b)) }
step s (Keep x a) = record s { carries = put s.carries x (Some a) }
step s (Carry a x b) = record s {
  holder = put s.holder b (Some x);
  granted = put2 s.granted x b true;
  early = put2 s.early x b true;
}
step s (Choose a p) = record s { ballot = put s.ballot a p }
step s (Choose_kept x a p) = record s { ballot = put s.ballot x p }
step s (Pre a b) = record s {
  dirty = raised s a b;
  pre = put2 s.pre a b true;
}
step s (Sink_pre a b) = record s {
  dirty = raised s a b;
  dead = λ e. s.dead e || overtakes s a b e;
  killer = λ e. cond (not (s.dead e) && overtakes s a b e) a (s.killer e);
}
step s (Post a b) = record s {
  version = put s.version b (target (s.ballot a));
  dirty = put s.dirty b 1;
  post = put2 s.post a b true;
  risen_by = first_risen s a b;
}
step s (Sink_post a b) = record s {
  version = put s.version b (target (s.ballot a));
  dirty = put s.dirty b 1;
  spost = put2 s.spost a b true;
}
step s (Clear a b) = record s { dirty = put s.dirty b 0 }
step s (Heal_grant h b) = record s { healer = put s.healer b (Some h) }
step s (Heal_free b) = record s { healer = put s.healer b None }
step s (Mark a b) = record s {
  present = put s.present b true;
  version = put s.version b (s.ballot a).base;
  dirty = put s.dirty b (group_dirty (s.ballot a));
  marked = put s.marked b true;
  mark = put2 s.mark a b true;
  voided = λ e. s.voided e || brings_back s a b e;
  voider = λ e. cond (not (s.voided e) && brings_back s a b e) a (s.voider e);
  dead = λ e. s.dead e || overtakes s a b e;
  killer = λ e. cond (not (s.dead e) && overtakes s a b e) a (s.killer e);
  risen_by = first_risen s a b;
}
step s (Unmark a b) = record s {
  dirty = put s.dirty b (group_dirty (s.ballot a));
  marked = put s.marked b false;
  fixed = put2 s.fixed a b true;
  stripped_by = put2 s.stripped_by (s.call a) b true;
  dead = λ e. s.dead e || overtakes s a b e;
  killer = λ e. cond (not (s.dead e) && overtakes s a b e) a (s.killer e);
}
step s (Maker_grant b) = record s { maker = put s.maker b true }
step s (Maker_free b) = record s { maker = put s.maker b false }
step s (Make b) = record s {
  present = put s.present b true;
  version = put s.version b 0;
  dirty = put s.dirty b 1;
  marked = put s.marked b false;
  born = put s.born b true;
  making = true;
}
step s (Made b) = record s {
  dirty = put s.dirty b 0;
  grown = put s.grown b true;
}
step s (Unmake b) = record s {
  present = put s.present b false;
  removed = put s.removed b true;
}
step s (Stop b) = record s {
  holder = put s.holder b None;
  shares = λ a c. cond (c == b) false (s.shares a c);
  healer = put s.healer b None;
  maker = put s.maker b false;
  removed = put s.removed b false;
}
step s (Replace b) = record s { present = put s.present b false }

-- oldest first
abbrev pub after : List Act → State → State
after [] s = s
after (e ∷ es) s = after es (step s e)
