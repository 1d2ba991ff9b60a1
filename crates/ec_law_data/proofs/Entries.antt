-- The machine of pieces follows the bricks, entry by entry.
use Rattle.std.proofs.Common.{◌≡◌, ◌⊎◌, ℕ, ◌<◌, Bool, true, false, not, cond, ◌==◌, ◌&&◌, ◌||◌, Option, Some, None, List, [], ◌∷◌, ◌++◌, map, length, take, refl, sym, ◌∙◌, ap, subst, arith, inl, inr}
use Rattle.std.specs.Prelude.{is_some, nat_lt}
use Rattle.std.proofs.lemmas.Bool.Decides.{nat_tests}
use Rattle.std.proofs.lemmas.List.{length-take}
use Rattle.ec_attr.specs.Bricks.{count_below}
use Rattle.ec_attr.specs.declared.kind.Domain.TheVariants.{Inode}
use Rattle.ec_store.specs.Put.{put}
use Rattle.ec_store.specs.Records.{Record, Records}
use Rattle.ec_brick.specs.Meets.{failing_at}
use Rattle.ec_brick.specs.Replies.{Says, Nothing, Is, ShowsChunks, ShowsGfids, ShowsNames}
use Rattle.ec_brick.specs.State.{State as Brick}
use Rattle.ec_brick.specs.Step.{Fine, Out, cut_off, executed as executed_at, quiet as quiet_out, started, stopped, torn_off as torn_at}
use Rattle.ec_brick.specs.Work.{broken_of, bytes_of}
use Rattle.ec_history.specs.IsRun.{HasBytes, May as MayEnter, MayExecute, MayTear, is_fault}
use Rattle.ec_history.specs.Run.{Net, after as net_after, executed, executed_as, executed_by, failing, out_of, torn_by, torn_off, torn_out, wiped}
use Rattle.ec_history.specs.Story.{is_done}
use Rattle.ec_wire.specs.declared.entry.Entry.{Entry}
use Rattle.ec_wire.specs.declared.entry.Entry.TheVariants.{Called, Sent, Executed, Heard, Lost, GivenUp, Stopped, Returned, Cut, Died, Yielded, Torn, Answered, Replaced}
use Rattle.ec_wire.specs.declared.message.Body.{Body}
use Rattle.ec_wire.specs.declared.message.Body.TheVariants.{ToBrick, ToClient}
use Rattle.ec_wire.specs.declared.message.Message.{Message}
use Rattle.ec_wire.specs.declared.reply.Reply.TheVariants.{Granted, Head as HeadIs, Chunks, Child, Names, Done, NoGrant, NoInode, IsInode, OtherKind, NotAt, Fault, Gfids}
use Rattle.ec_wire.specs.declared.request.Request.{Request}
use Rattle.ec_wire.specs.declared.request.Request.TheVariants.{Ask, Release, Query, PreOp, ReadChunks, WriteChunks, SetLength, PostOp, Clear, NameGet, NamesAfter, NameSet, NamesPut, Make, Made, Unmake, Mark, Unmark, GfidsAfter}
use Rattle.ec_law_ballots.specs.Act.{Act}
use Rattle.ec_law_ballots.specs.Act.Act.{Replace, Stop}
use Rattle.ec_law_pieces.specs.Deed.{after as after_deeds}
use Rattle.ec_law_pieces.specs.Deed.Deed.{Intend}
use Rattle.ec_law_pieces.specs.File.{File}
use Rattle.ec_law_turns.specs.Once.{is_make_of}
use Rattle.ec_law_net.specs.Turns.{View, acts, acts_executed, acts_locks, acts_of_request, acts_replaced, acts_torn, acts_worked, counted, exclusive, turn_of}
use Rattle.ec_law_net.proofs.Logs.{heard_same}
use Rattle.ec_law_data.specs.Deeds.{deeds_answered, deeds_executed, deeds_failed, deeds_of_request, deeds_of_torn, deeds_partly, deeds_sent, deeds_torn, dressed, file_after, is_granted, is_partial, is_post_on}
use Rattle.ec_law_data.specs.Link.{BodyCoded, BodyWhole, Codes, EntryCoded, Fits, HasPieces, IsCoded, IsWhole, MessageCoded, MessageWhole, NoMark, BodyUnmarked, EntryUnmarked, MessageUnmarked}
use Rattle.ec_law_data.specs.Reading.{Plans, Reading}
use Rattle.ec_law_data.proofs.Following.{Follows, after_data, answered, follows_as, follows_same, partly_follows}
use Rattle.ec_law_data.proofs.Leaving.{NoMake, makes_both, makes_if, no_locks, no_sent, no_worked, worked_make}
use Rattle.ec_law_data.proofs.Outs.{Broken, Rests, Torn as TornOff, Works, broken, fine, torn, unread, untorn}
use Rattle.ec_law_data.proofs.Recording.{broken_beside, changed_none, unset_beside}

-- a fault says that nothing was done
pub fault_not_done : (says : Says) → is_fault says ≡ true → is_done says ≡ false
fault_not_done Nothing e = refl
fault_not_done (ShowsChunks piece first count) e = refl
fault_not_done (ShowsNames start names) e = refl
fault_not_done (ShowsGfids start set) e = refl
fault_not_done (Is Granted) e = refl
fault_not_done (Is (HeadIs h)) e = refl
fault_not_done (Is (Chunks list)) e = refl
fault_not_done (Is (Child child)) e = refl
fault_not_done (Is (Names list)) e = refl
fault_not_done (Is Done) e = absurd (cc)
fault_not_done (Is (NoGrant n)) e = refl
fault_not_done (Is NoInode) e = refl
fault_not_done (Is IsInode) e = refl
fault_not_done (Is OtherKind) e = refl
fault_not_done (Is (NotAt v)) e = refl
fault_not_done (Is Fault) e = refl
fault_not_done (Is (Gfids list)) e = refl

-- where the store fails in its work no record is made
broken_none : (q : Request) (m : Records) (g : ℕ) (r' : Record) → m g ≡ None → broken_of q m g ≡ Some r' → ⊥
broken_none (WriteChunks x n first chunks) m g r' e h = changed_none m x.0 g _ r' e h
broken_none (Ask x domain kind) m g r' e h = let y = sym e ∙ h in absurd (cc)
broken_none (Release x n) m g r' e h = let y = sym e ∙ h in absurd (cc)
broken_none (Query x n) m g r' e h = let y = sym e ∙ h in absurd (cc)
broken_none (PreOp x n at dirty) m g r' e h = let y = sym e ∙ h in absurd (cc)
broken_none (ReadChunks x n first count) m g r' e h = let y = sym e ∙ h in absurd (cc)
broken_none (SetLength x n keep count) m g r' e h = let y = sym e ∙ h in absurd (cc)
broken_none (PostOp x n at version size attr) m g r' e h = let y = sym e ∙ h in absurd (cc)
broken_none (Clear x n at) m g r' e h = let y = sym e ∙ h in absurd (cc)
broken_none (NameGet x n name) m g r' e h = let y = sym e ∙ h in absurd (cc)
broken_none (NamesAfter x n start) m g r' e h = let y = sym e ∙ h in absurd (cc)
broken_none (NameSet x n name child) m g r' e h = let y = sym e ∙ h in absurd (cc)
broken_none (NamesPut x n start upto list) m g r' e h = let y = sym e ∙ h in absurd (cc)
broken_none (Make x n child) m g r' e h = let y = sym e ∙ h in absurd (cc)
broken_none (Made x n child) m g r' e h = let y = sym e ∙ h in absurd (cc)
broken_none (Unmake x n child) m g r' e h = let y = sym e ∙ h in absurd (cc)
broken_none (Mark x n heal head) m g r' e h = let y = sym e ∙ h in absurd (cc)
broken_none (Unmark x n at dirty) m g r' e h = let y = sym e ∙ h in absurd (cc)
broken_none (GfidsAfter start dirty) m g r' e h = let y = sym e ∙ h in absurd (cc)

torn_none : (s : Brick) (q : Request) (count : ℕ) (m : Records) (g : ℕ) (r' : Record) → TornOff s q count m → s.records g ≡ None → m g ≡ Some r' → ⊥
torn_none s (WriteChunks x n first chunks) most m g r' t e h = changed_none s.records x.0 g _ r' e (sym (ap (λ (z : Records). z g) t) ∙ h)
torn_none s (Ask x domain kind) most m g r' t e h = let y = sym e ∙ (sym (ap (λ (z : Records). z g) t) ∙ h) in absurd (cc)
torn_none s (Release x n) most m g r' t e h = let y = sym e ∙ (sym (ap (λ (z : Records). z g) t) ∙ h) in absurd (cc)
torn_none s (Query x n) most m g r' t e h = let y = sym e ∙ (sym (ap (λ (z : Records). z g) t) ∙ h) in absurd (cc)
torn_none s (PreOp x n at dirty) most m g r' t e h = let y = sym e ∙ (sym (ap (λ (z : Records). z g) t) ∙ h) in absurd (cc)
torn_none s (ReadChunks x n first count) most m g r' t e h = let y = sym e ∙ (sym (ap (λ (z : Records). z g) t) ∙ h) in absurd (cc)
torn_none s (SetLength x n keep count) most m g r' t e h = let y = sym e ∙ (sym (ap (λ (z : Records). z g) t) ∙ h) in absurd (cc)
torn_none s (PostOp x n at version size attr) most m g r' t e h = let y = sym e ∙ (sym (ap (λ (z : Records). z g) t) ∙ h) in absurd (cc)
torn_none s (Clear x n at) most m g r' t e h = let y = sym e ∙ (sym (ap (λ (z : Records). z g) t) ∙ h) in absurd (cc)
torn_none s (NameGet x n name) most m g r' t e h = let y = sym e ∙ (sym (ap (λ (z : Records). z g) t) ∙ h) in absurd (cc)
torn_none s (NamesAfter x n start) most m g r' t e h = let y = sym e ∙ (sym (ap (λ (z : Records). z g) t) ∙ h) in absurd (cc)
torn_none s (NameSet x n name child) most m g r' t e h = let y = sym e ∙ (sym (ap (λ (z : Records). z g) t) ∙ h) in absurd (cc)
torn_none s (NamesPut x n start upto list) most m g r' t e h = let y = sym e ∙ (sym (ap (λ (z : Records). z g) t) ∙ h) in absurd (cc)
torn_none s (Make x n child) most m g r' t e h = let y = sym e ∙ (sym (ap (λ (z : Records). z g) t) ∙ h) in absurd (cc)
torn_none s (Made x n child) most m g r' t e h = let y = sym e ∙ (sym (ap (λ (z : Records). z g) t) ∙ h) in absurd (cc)
torn_none s (Unmake x n child) most m g r' t e h = let y = sym e ∙ (sym (ap (λ (z : Records). z g) t) ∙ h) in absurd (cc)
torn_none s (Mark x n heal head) most m g r' t e h = let y = sym e ∙ (sym (ap (λ (z : Records). z g) t) ∙ h) in absurd (cc)
torn_none s (Unmark x n at dirty) most m g r' t e h = let y = sym e ∙ (sym (ap (λ (z : Records). z g) t) ∙ h) in absurd (cc)
torn_none s (GfidsAfter start dirty) most m g r' t e h = let y = sym e ∙ (sym (ap (λ (z : Records). z g) t) ∙ h) in absurd (cc)

found : (o : Option Record) → (o ≡ None → ⊥) → (r : Record) × (o ≡ Some r)
found None h = absurd (h refl)
found (Some r) h = (r, refl)

third : (t u w : Bool) → w ≡ false → (t && u && w) ≡ false
third true true w e = e
third true false w e = refl
third false u w e = refl

first_two : (t u w : Bool) → (t && u) ≡ false → (t && u && w) ≡ false
first_two t u w e = ap (λ (z : Bool). z && w) e

same_held : {P C : Type 0} (held : Record → P → C) (old now : Records) (g : ℕ) (r r' : Record) (p : P) → now ≡ old → old g ≡ Some r → now g ≡ Some r' → held r' p ≡ held r p
same_held held old now g r r' p e is is' = ap (λ (z : Record). held z p) (some_same (sym is ∙ (sym (ap (λ (z : Records). z g) e) ∙ is')))
  where
    some_same : Some r ≡ Some r' → r' ≡ r
    some_same h = sym (cc)

-- only writes are torn
torn_unmarked : {P V C U S : Type 0} (R : Reading P V C U S) (g : ℕ) (q : Request) (most : ℕ) → HasBytes q most → NoMark R g q
torn_unmarked R g (Ask x domain kind) most h = tt
torn_unmarked R g (Release x n) most h = tt
torn_unmarked R g (Query x n) most h = tt
torn_unmarked R g (PreOp x n at dirty) most h = tt
torn_unmarked R g (ReadChunks x n first count) most h = tt
torn_unmarked R g (WriteChunks x n first chunks) most h = tt
torn_unmarked R g (SetLength x n keep count) most h = tt
torn_unmarked R g (PostOp x n at version size attr) most h = tt
torn_unmarked R g (Clear x n at) most h = tt
torn_unmarked R g (NameGet x n name) most h = tt
torn_unmarked R g (NamesAfter x n start) most h = tt
torn_unmarked R g (NameSet x n name child) most h = tt
torn_unmarked R g (NamesPut x n start upto list) most h = tt
torn_unmarked R g (Make x n child) most h = tt
torn_unmarked R g (Made x n child) most h = tt
torn_unmarked R g (Unmake x n child) most h = tt
torn_unmarked R g (Mark x n heal head) most h = absurd h
torn_unmarked R g (Unmark x n at dirty) most h = tt
torn_unmarked R g (GfidsAfter start dirty) most h = tt

module _ {P V C U S : Type 0} (R : Reading P V C U S) (fits : Fits R) (plans : Plans P V U S) (n k g : ℕ) where
  torn_beside : (s : Brick) (q : Request) (count : ℕ) (m : Records) (r r' : Record) (p : P) → IsWhole q → TornOff s q count m → (R.is_write g q && is_partial q && R.writes g q p) ≡ false → s.records g ≡ Some r → m g ≡ Some r' → R.held r' p ≡ R.held r p
  torn_beside s (WriteChunks x i first chunks) most m r r' p w t e is is' = unset_beside R fits g x i first (length (take most (bytes_of chunks))) chunks s.records r r' p (let l = length-take most (bytes_of chunks) in omega (arith, l, w)) (without_true (R.is_write g (WriteChunks x i first chunks)) (R.writes g (WriteChunks x i first chunks) p) e) is (sym (ap (λ (z : Records). z g) t) ∙ is')
    where
      without_true : (t u : Bool) → (t && true && u) ≡ false → (t && u) ≡ false
      without_true true u e = e
      without_true false u e = refl
  torn_beside s (Ask x domain kind) most m r r' p w t e is is' = same_held R.held s.records m g r r' p t is is'
  torn_beside s (Release x n) most m r r' p w t e is is' = same_held R.held s.records m g r r' p t is is'
  torn_beside s (Query x n) most m r r' p w t e is is' = same_held R.held s.records m g r r' p t is is'
  torn_beside s (PreOp x n at dirty) most m r r' p w t e is is' = same_held R.held s.records m g r r' p t is is'
  torn_beside s (ReadChunks x n first count) most m r r' p w t e is is' = same_held R.held s.records m g r r' p t is is'
  torn_beside s (SetLength x n keep count) most m r r' p w t e is is' = same_held R.held s.records m g r r' p t is is'
  torn_beside s (PostOp x n at version size attr) most m r r' p w t e is is' = same_held R.held s.records m g r r' p t is is'
  torn_beside s (Clear x n at) most m r r' p w t e is is' = same_held R.held s.records m g r r' p t is is'
  torn_beside s (NameGet x n name) most m r r' p w t e is is' = same_held R.held s.records m g r r' p t is is'
  torn_beside s (NamesAfter x n start) most m r r' p w t e is is' = same_held R.held s.records m g r r' p t is is'
  torn_beside s (NameSet x n name child) most m r r' p w t e is is' = same_held R.held s.records m g r r' p t is is'
  torn_beside s (NamesPut x n start upto list) most m r r' p w t e is is' = same_held R.held s.records m g r r' p t is is'
  torn_beside s (Make x n child) most m r r' p w t e is is' = same_held R.held s.records m g r r' p t is is'
  torn_beside s (Made x n child) most m r r' p w t e is is' = same_held R.held s.records m g r r' p t is is'
  torn_beside s (Unmake x n child) most m r r' p w t e is is' = same_held R.held s.records m g r r' p t is is'
  torn_beside s (Mark x n heal head) most m r r' p w t e is is' = same_held R.held s.records m g r r' p t is is'
  torn_beside s (Unmark x n at dirty) most m r r' p w t e is is' = same_held R.held s.records m g r r' p t is is'
  torn_beside s (GfidsAfter start dirty) most m r r' p w t e is is' = same_held R.held s.records m g r r' p t is is'

  module _ (m : Net) (f : File P V C U S) (has : HasPieces R n g m f) where
    -- one brick is another, and the machine follows it
    glue : (t : Net) (f' : File P V C U S) (b : ℕ) (new : Brick) → ((c : ℕ) → t.brick c ≡ put m.brick b new c) → Follows R fits plans n k g f f' b new.records → HasPieces R n g t f'
    glue t f' b new same l c r lt is p = at (c == b) refl
      where
        at : (u : Bool) → (c == b) ≡ u → f'.piece c p ≡ R.held r p
        at true e = subst (λ (z : ℕ). f'.piece z p ≡ R.held r p) (sym (equal c b e)) (l.here r (sym (ap (λ (z : Brick). z.records g) (same c ∙ ap (λ (u : Bool). cond u new (m.brick c)) e)) ∙ is) p)
          where
            equal : (x y : ℕ) → (x == y) ≡ true → x ≡ y
            equal x y e = grind (arith, nat_tests)
        at false e = l.there c p (λ z. differ c b e z) ∙ has c r lt (sym (ap (λ (z : Brick). z.records g) (same c ∙ ap (λ (u : Bool). cond u new (m.brick c)) e)) ∙ is) p
          where
            differ : (x y : ℕ) → (x == y) ≡ false → x ≡ y → ⊥
            differ x y e z = grind (arith, nat_tests)

    -- no brick changes, nor any piece
    still : (t : Net) (f' : File P V C U S) → t.brick ≡ m.brick → f'.piece ≡ f.piece → HasPieces R n g t f'
    still t f' same e c r lt is p = ap (λ (z : ℕ → P → C). z c p) e ∙ has c r lt (sym (ap (λ (z : ℕ → Brick). (z c).records g) same) ∙ is) p

    -- a brick whose records stay, and acts that make no record
    rests : (t : Net) (b : ℕ) (new : Brick) (es : List Act) → b < n → ((c : ℕ) → t.brick c ≡ put m.brick b new c) → ((r : Record) → new.records g ≡ Some r → (m.brick b).records g ≡ Some r) → NoMake es → HasPieces R n g t (after_deeds R.form n k ([] ++ map (dressed R plans n k g) es) f)
    rests t b new es lt same keeps none = glue t (after_deeds R.form n k ([] ++ map (dressed R plans n k g) es) f) b new same (follows_as R fits plans n k g f f _ b new.records (after_data R fits plans n k g [] es f none) (record { here = λ r is p. has b r lt (keeps r is) p; there = λ c p ne. refl }))

    module _ (v : View) (msg : Message) (q : Request) (lt : msg.brick < n) where
      abbrev s : Brick
      s = m.brick msg.brick

      -- the store failed, or the write was cut short
      failed_follows : (version : Option ℕ) (now : Brick) (es : List Act) → IsWhole q → NoMark R g q → NoMake es
          → (version ≡ None → now.records ≡ s.records)
          → ((r' : Record) → now.records g ≡ Some r' → (r : Record) × (s.records g ≡ Some r))
          → ((r r' : Record) (p : P) → s.records g ≡ Some r → now.records g ≡ Some r' → (R.is_write g q && is_partial q && R.writes g q p) ≡ false → R.held r' p ≡ R.held r p)
          → Follows R fits plans n k g f (after_deeds R.form n k (deeds_failed R plans n k g (v.of msg.no) msg.brick q version s now ++ map (dressed R plans n k g) es) f) msg.brick now.records
      failed_follows None now es whole unmarked none unread was outside = follows_as R fits plans n k g f f _ msg.brick now.records (after_data R fits plans n k g [] es f none) (follows_same R fits plans n k g f msg.brick s.records now.records (λ r is p. has msg.brick r lt is p) (unread refl))
      failed_follows (Some version) now es whole unmarked none unread was outside = by (R.is_write g q && is_partial q) refl
        where
          by : (t : Bool) → (R.is_write g q && is_partial q) ≡ t → Follows R fits plans n k g f (after_deeds R.form n k (cond (R.is_write g q && is_partial q) (deeds_partly R plans n k g (v.of msg.no) msg.brick q s now) [] ++ map (dressed R plans n k g) es) f) msg.brick now.records
          by true e = subst (λ (t : Bool). Follows R fits plans n k g f (after_deeds R.form n k (cond t (deeds_partly R plans n k g (v.of msg.no) msg.brick q s now) [] ++ map (dressed R plans n k g) es) f) msg.brick now.records) (sym e) (follows_as R fits plans n k g f (after_deeds R.form n k (deeds_partly R plans n k g (v.of msg.no) msg.brick q s now) f) _ msg.brick now.records (after_data R fits plans n k g (deeds_partly R plans n k g (v.of msg.no) msg.brick q s now) es f none) (partly_follows R fits plans n k g f (v.of msg.no) msg.brick s q (λ r is p. has msg.brick r lt is p) whole unmarked now was (λ r r' p is is' w. outside r r' p is is' (third (R.is_write g q) (is_partial q) (R.writes g q p) w))))
          by false e = subst (λ (t : Bool). Follows R fits plans n k g f (after_deeds R.form n k (cond t (deeds_partly R plans n k g (v.of msg.no) msg.brick q s now) [] ++ map (dressed R plans n k g) es) f) msg.brick now.records) (sym e) (follows_as R fits plans n k g f f _ msg.brick now.records (after_data R fits plans n k g [] es f none) (record {
            here = λ r' is' p. let w = was r' is' in has msg.brick w.0 lt w.1 p ∙ sym (outside w.0 r' p w.1 is' (first_two (R.is_write g q) (is_partial q) (R.writes g q p) e));
            there = λ c p ne. refl;
          }))

      abbrev worked_acts : Out → List Act
      worked_acts o = acts_worked g (v.of msg.no) msg.brick (counted v.core (v.of msg.no) (exclusive g Inode s.asks)) q o.says

      abbrev lock_acts : Out → List Act
      lock_acts o = acts_locks g m v msg.brick s.asks o.brick.asks

      answered_follows : (o : Out) → o ≡ executed_at s Fine msg.client msg.no q → IsWhole q → NoMark R g q → (R.is_write g q ≡ true → is_granted s q ≡ true → is_done o.says ≡ true → Codes R f g (v.of msg.no) msg.brick q) → Follows R fits plans n k g f (after_deeds R.form n k (deeds_answered R plans n k g f (v.of msg.no) msg.brick q s o ++ map (dressed R plans n k g) (worked_acts o ++ lock_acts o)) f) msg.brick o.brick.records
      answered_follows o e whole unmarked codes = answered R fits plans n k g f (v.of msg.no) msg.brick s q (λ r is p. has msg.brick r lt is p) whole unmarked o codes (worked_acts o ++ lock_acts o) (lock_acts o)
          (λ h. makes_both (worked_acts o) (lock_acts o) (no_worked g (v.of msg.no) msg.brick _ q o.says h) (no_locks g m v msg.brick s.asks o.brick.asks))
          (no_locks g m v msg.brick s.asks o.brick.asks)
          (λ d h. ap (λ (z : List Act). z ++ lock_acts o) (worked_make g (v.of msg.no) msg.brick _ q o.says d h))
          (subst (λ (z : Out). Works g s q z ⊎ Rests s z) (sym e) (fine g s msg.client msg.no q))

      faulted_follows : (version : Option ℕ) (o : Out) → o ≡ executed_at s (failing_at version) msg.client msg.no q → is_done o.says ≡ false → IsWhole q → NoMark R g q → Follows R fits plans n k g f (after_deeds R.form n k (deeds_failed R plans n k g (v.of msg.no) msg.brick q version s o.brick ++ map (dressed R plans n k g) (worked_acts o ++ lock_acts o)) f) msg.brick o.brick.records
      faulted_follows None o e d whole unmarked =
          failed_follows None o.brick (worked_acts o ++ lock_acts o) whole unmarked none (λ z. same) (λ r' is. (r', sym (ap (λ (z : Records). z g) same) ∙ is)) (λ r r' p is is' w. same_held R.held s.records o.brick.records g r r' p same is is')
        where
          same : o.brick.records ≡ s.records
          same = ap (λ (z : Out). z.brick.records) e ∙ unread g s msg.client msg.no q

          none : NoMake (worked_acts o ++ lock_acts o)
          none = makes_both (worked_acts o) (lock_acts o) (no_worked g (v.of msg.no) msg.brick _ q o.says (ap (λ (t : Bool). t && is_make_of g q) d)) (no_locks g m v msg.brick s.asks o.brick.asks)
      faulted_follows (Some version) o e d whole unmarked =
          failed_follows (Some version) o.brick (worked_acts o ++ lock_acts o) whole unmarked none (λ z. absurd (cc)) (was ends) (outside ends)
        where
          none : NoMake (worked_acts o ++ lock_acts o)
          none = makes_both (worked_acts o) (lock_acts o) (no_worked g (v.of msg.no) msg.brick _ q o.says (ap (λ (t : Bool). t && is_make_of g q) d)) (no_locks g m v msg.brick s.asks o.brick.asks)

          ends : Broken g s msg.client msg.no q o
          ends = subst (λ (z : Out). Broken g s msg.client msg.no q z) (sym e) (broken g s msg.client msg.no q)

          was : Broken g s msg.client msg.no q o → (r' : Record) → o.brick.records g ≡ Some r' → (r : Record) × (s.records g ≡ Some r)
          was (inl same) r' is = (r', sym (ap (λ (z : Records). z g) same) ∙ is)
          was (inr part) r' is = found (s.records g) (λ gone. broken_none q s.records g r' gone (sym (ap (λ (z : Records). z g) part) ∙ is))

          outside : Broken g s msg.client msg.no q o → (r r' : Record) (p : P) → s.records g ≡ Some r → o.brick.records g ≡ Some r' → (R.is_write g q && is_partial q && R.writes g q p) ≡ false → R.held r' p ≡ R.held r p
          outside (inl same) r r' p is is' w = same_held R.held s.records o.brick.records g r r' p same is is'
          outside (inr part) r r' p is is' w = broken_beside R fits g q s.records r r' p whole w is (sym (ap (λ (z : Records). z g) part) ∙ is')

      torn_follows : (count : ℕ) (version : Option ℕ) (o : Out) → o ≡ torn_at s (failing_at version) q count → IsWhole q → NoMark R g q → Follows R fits plans n k g f (after_deeds R.form n k (deeds_failed R plans n k g (v.of msg.no) msg.brick q version s o.brick ++ map (dressed R plans n k g) (Stop msg.brick ∷ [])) f) msg.brick o.brick.records
      torn_follows count None o e whole unmarked =
          failed_follows None o.brick (Stop msg.brick ∷ []) whole unmarked (refl, tt) (λ z. same) (λ r' is. (r', sym (ap (λ (z : Records). z g) same) ∙ is)) (λ r r' p is is' w. same_held R.held s.records o.brick.records g r r' p same is is')
        where
          same : o.brick.records ≡ s.records
          same = ap (λ (z : Out). z.brick.records) e ∙ untorn g s count q
      torn_follows count (Some version) o e whole unmarked =
          failed_follows (Some version) o.brick (Stop msg.brick ∷ []) whole unmarked (refl, tt) (λ z. absurd (cc)) (was ends) (outside ends)
        where
          ends : (o.brick.records ≡ s.records) ⊎ TornOff s q count o.brick.records
          ends = subst (λ (z : Out). (z.brick.records ≡ s.records) ⊎ TornOff s q count z.brick.records) (sym e) (torn g s count q)

          was : (o.brick.records ≡ s.records) ⊎ TornOff s q count o.brick.records → (r' : Record) → o.brick.records g ≡ Some r' → (r : Record) × (s.records g ≡ Some r)
          was (inl same) r' is = (r', sym (ap (λ (z : Records). z g) same) ∙ is)
          was (inr part) r' is = found (s.records g) (λ gone. torn_none s q count o.brick.records g r' part gone is)

          outside : (o.brick.records ≡ s.records) ⊎ TornOff s q count o.brick.records → (r r' : Record) (p : P) → s.records g ≡ Some r → o.brick.records g ≡ Some r' → (R.is_write g q && is_partial q && R.writes g q p) ≡ false → R.held r' p ≡ R.held r p
          outside (inl same) r r' p is is' w = same_held R.held s.records o.brick.records g r r' p same is is'
          outside (inr part) r r' p is is' w = torn_beside s q count o.brick.records r r' p whole part w is is'

    module _ (v : View) where
      on_request : (i : ℕ) (msg : Message) (q : Request) (version : Option ℕ) (failed : Bool) → msg.body ≡ ToBrick q → msg.brick < n → (m.brick msg.brick).up ≡ true → (failed ≡ is_fault (out_of m msg q version failed).says) → NoMark R g q → IsCoded R g m v f msg q version failed → HasPieces R n g (executed m (Some msg) version failed) (after_deeds R.form n k (deeds_executed R plans n k g m v f (Some msg) version failed ++ map (dressed R plans n k g) (acts_executed g m v (Some msg) version failed)) f)
      on_request i msg q version failed body lt up fault unmarked coded = subst (λ (z : Body). HasPieces R n g (executed_by m msg z version failed) (after_deeds R.form n k (deeds_of_request R plans n k g m v f msg z version failed ++ map (dressed R plans n k g) (acts_of_request g m v msg z version failed)) f)) (sym body) (by failed fault coded)
        where
          went : (failed : Bool) → out_of m msg q version failed ≡ executed_at (m.brick msg.brick) (failing failed version) msg.client msg.no q
          went failed = ap (λ (t : Bool). cond t (executed_at (m.brick msg.brick) (failing failed version) msg.client msg.no q) (quiet_out (m.brick msg.brick))) up

          by : (failed : Bool) → (failed ≡ is_fault (out_of m msg q version failed).says) → IsCoded R g m v f msg q version failed → HasPieces R n g (executed_as m msg (out_of m msg q version failed)) (after_deeds R.form n k (deeds_of_request R plans n k g m v f msg (ToBrick q) version failed ++ map (dressed R plans n k g) (acts_of_request g m v msg (ToBrick q) version failed)) f)
          by true fault coded = glue (executed_as m msg (out_of m msg q version true)) _ msg.brick (out_of m msg q version true).brick (λ c. refl) (faulted_follows v msg q lt version (out_of m msg q version true) (went true) (fault_not_done (out_of m msg q version true).says (sym fault)) coded.whole unmarked)
          by false fault coded = glue (executed_as m msg (out_of m msg q version false)) _ msg.brick (out_of m msg q version false).brick (λ c. refl) (answered_follows v msg q lt (out_of m msg q version false) (went false) coded.whole unmarked (λ w t d. coded.codes refl w t d))

      on_executed : (i : ℕ) (version : Option ℕ) (failed : Bool) (may : MayExecute m i version failed) → may.message.brick < n → MessageUnmarked R g (m.said i) → MessageCoded R g m v f (m.said i) version failed → HasPieces R n g (net_after m (Executed i version failed)) (file_after R plans n k g m v f (Executed i version failed))
      on_executed i version failed may lt unmarked coded = subst (λ (o : Option Message). HasPieces R n g (executed m o version failed) (after_deeds R.form n k (deeds_executed R plans n k g m v f o version failed ++ map (dressed R plans n k g) (acts_executed g m v o version failed)) f)) (sym may.at.said) (on_request i may.message may.request version failed may.at.body lt may.at.up may.fault (subst (λ (z : Body). BodyUnmarked R g z) may.at.body (subst (λ (o : Option Message). MessageUnmarked R g o) may.at.said unmarked)) (subst (λ (z : Body). BodyCoded R g m v f may.message z version failed) may.at.body (subst (λ (o : Option Message). MessageCoded R g m v f o version failed) may.at.said coded)))

      on_torn : (i count : ℕ) (version : Option ℕ) (may : MayTear m i count version) → may.message.brick < n → MessageWhole R (m.said i) → HasPieces R n g (net_after m (Torn i count version)) (file_after R plans n k g m v f (Torn i count version))
      on_torn i count version may lt whole = subst (λ (o : Option Message). HasPieces R n g (torn_off m o count version) (after_deeds R.form n k (deeds_torn R plans n k g m v o count version ++ map (dressed R plans n k g) (acts_torn o)) f)) (sym may.at.said)
          (subst (λ (z : Body). HasPieces R n g (torn_by m may.message z count version) (after_deeds R.form n k (deeds_of_torn R plans n k g m v may.message z count version ++ map (dressed R plans n k g) (Stop may.message.brick ∷ [])) f)) (sym may.at.body)
          (glue (torn_by m may.message (ToBrick may.request) count version) _ may.message.brick (torn_out m may.message may.request count version).brick (λ c. refl) (torn_follows v may.message may.request lt count version (torn_out m may.message may.request count version) went (subst (λ (z : Body). BodyWhole R z) may.at.body (subst (λ (o : Option Message). MessageWhole R o) may.at.said whole)) (torn_unmarked R g may.request count may.bytes))))
        where
          went : torn_out m may.message may.request count version ≡ torn_at (m.brick may.message.brick) (failing_at version) may.request count
          went = ap (λ (t : Bool). cond t (torn_at (m.brick may.message.brick) (failing_at version) may.request count) (quiet_out (m.brick may.message.brick))) may.at.up

      on_sent : (msg : Message) → HasPieces R n g (net_after m (Sent msg)) (file_after R plans n k g m v f (Sent msg))
      on_sent msg = still (net_after m (Sent msg)) (file_after R plans n k g m v f (Sent msg)) refl (after_data R fits plans n k g (deeds_sent R plans n k g f (turn_of g v msg) msg.body) (acts g m v (Sent msg)) f (no_sent g v.core (turn_of g v msg) msg.body) ∙ plans_leave msg.body)
        where
          plans_leave : (z : Body) → (after_deeds R.form n k (deeds_sent R plans n k g f (turn_of g v msg) z) f).piece ≡ f.piece
          plans_leave (ToClient re reply) = refl
          plans_leave (ToBrick q) = at ((R.is_write g q || is_post_on g q) && not (f.planned (turn_of g v msg)))
            where
              at : (t : Bool) → (after_deeds R.form n k (cond t (Intend (turn_of g v msg) (plans.plan (turn_of g v msg)) ∷ []) []) f).piece ≡ f.piece
              at true = refl
              at false = refl

      wiped_keeps : (removed : ℕ) (all : Bool) (records : Records) (r : Record) → wiped removed all records g ≡ Some r → records g ≡ Some r
      wiped_keeps removed true records r e = absurd (cc)
      wiped_keeps removed false records r e = at (nat_lt (count_below g (λ x. is_some (records x))) removed) e
        where
          at : (t : Bool) → cond t None (records g) ≡ Some r → records g ≡ Some r
          at true e = absurd (cc)
          at false e = e

      no_replaced : (b : ℕ) (old new : Records) → NoMake (acts_replaced g b old new)
      no_replaced b old new = makes_if (is_some (old g) && not (is_some (new g))) (Replace b ∷ []) [] (refl, tt) tt

      pub on_entry : (e : Entry) → MayEnter n m e → ((i : ℕ) (x : Message) (q : Request) → m.said i ≡ Some x → x.body ≡ ToBrick q → x.brick < n) → EntryUnmarked R g m e → EntryCoded R g m v f e → HasPieces R n g (net_after m e) (file_after R plans n k g m v f e)
      on_entry (Called a client op) may to unmarked coded = still (net_after m (Called a client op)) f refl refl
      on_entry (Sent msg) may to unmarked coded = on_sent msg
      on_entry (Executed i version failed) may to unmarked coded = on_executed i version failed may (to i may.message may.request may.at.said may.at.body) unmarked coded
      on_entry (Heard i) may to unmarked coded = still (net_after m (Heard i)) f (heard_same m (m.said i)).0 refl
      on_entry (Lost i) may to unmarked coded = still (net_after m (Lost i)) f refl refl
      on_entry (GivenUp client brick i) may to unmarked coded = still (net_after m (GivenUp client brick i)) f refl refl
      on_entry (Stopped b) may to unmarked coded = rests (net_after m (Stopped b)) b (stopped (m.brick b)) (Stop b ∷ []) may.0 (λ c. refl) (λ r is. is) (refl, tt)
      on_entry (Returned b) may to unmarked coded = rests (net_after m (Returned b)) b (started (m.brick b)) [] may.0 (λ c. refl) (λ r is. is) tt
      on_entry (Cut client b) may to unmarked coded = rests (net_after m (Cut client b)) b (cut_off (m.brick b) client).brick (acts g m v (Cut client b)) may.0 (λ c. refl) (λ r is. is) (no_locks g m v b (m.brick b).asks (cut_off (m.brick b) client).brick.asks)
      on_entry (Died client) may to unmarked coded = still (net_after m (Died client)) f refl refl
      on_entry (Yielded client) may to unmarked coded = still (net_after m (Yielded client)) f refl refl
      on_entry (Torn i count version) may to unmarked coded = on_torn i count version may (to i may.message may.request may.at.said may.at.body) coded
      on_entry (Answered a answer) may to unmarked coded = still (net_after m (Answered a answer)) f refl refl
      on_entry (Replaced b removed all) may to unmarked coded = rests (net_after m (Replaced b removed all)) b (record (m.brick b) { records = wiped removed all (m.brick b).records }) (acts g m v (Replaced b removed all)) may.0 (λ c. refl) (wiped_keeps removed all (m.brick b).records) (no_replaced b (m.brick b).records (wiped removed all (m.brick b).records))
