-- What an entry that sends nothing leaves: fewer messages in flight, and fewer that are waited for.
use Rattle.std.proofs.Common.{◌≡◌, ℕ, ◌+◌, ◌*◌, ◌-◌, ◌<◌, ◌≤◌, Bool, true, false, ◌==◌, Option, Some, None, refl, sym, ap, subst, ◌∙◌, arith}
use Rattle.ec_attr.proofs.Sets.{part}
use Rattle.ec_attr.specs.Bricks.{count_below}
use Rattle.ec_history.specs.Run.{Net, is_number}
use Rattle.ec_law_rank.specs.Rank.{is_waited, is_waited_in, rank}
use Rattle.ec_law_rank.proofs.Counting.{equal, fewer, itself}
use Rattle.ec_law_rank.proofs.Numbered.{IsNumbered, IsWait}
use Rattle.ec_wire.specs.declared.message.Message.{Message}

pub record Shrinks (m k : Net) : Type 0 where
  pub next : k.next ≡ m.next
  pub said : k.said ≡ m.said
  pub flying : (i : ℕ) → k.flying i ≡ true → m.flying i ≡ true
  pub awaits : (a b i : ℕ) → k.awaits a b ≡ Some i → m.awaits a b ≡ Some i

pub same : (m : Net) → Shrinks m m
same m = record { next = refl; said = refl; flying = λ i e. e; awaits = λ a b i e. e }

pub shrunk_numbered : (m k : Net) → Shrinks m k → IsNumbered m → IsNumbered k
shrunk_numbered m k s h = record {
  numbers = λ i msg e. h.numbers i msg (ap (λ (f : ℕ → Option Message). f i) (sym s.said) ∙ e);
  flies = λ i e. subst (λ (n : ℕ). i < n) (sym s.next) (h.flies i (s.flying i e));
  waits = λ a b i e. let w : IsWait m a b i = h.waits a b i (s.awaits a b i e) in record {
    message = w.message;
    said = ap (λ (f : ℕ → Option Message). f i) s.said ∙ w.said;
    of_call = w.of_call;
    of_brick = w.of_brick;
    below = subst (λ (n : ℕ). i < n) (sym s.next) w.below;
  };
}

-- a number that is the one that is waited for
pub is_the_number : (i : ℕ) (o : Option ℕ) → is_number i o ≡ true → o ≡ Some i
is_the_number i None e = absurd (cc)
is_the_number i (Some j) e = ap (λ (x : ℕ). Some x) (equal j i e)

pub waited_in_less : (f h : ℕ → ℕ → Option ℕ) → ((a b i : ℕ) → f a b ≡ Some i → h a b ≡ Some i) → (i : ℕ) (o : Option Message) → is_waited_in f i o ≡ true → is_waited_in h i o ≡ true
waited_in_less f h less i None e = e
waited_in_less f h less i (Some msg) e = rw (less msg.call msg.brick i (is_the_number i (f msg.call msg.brick) e)) (itself i)

waited_less : (m k : Net) → Shrinks m k → (i : ℕ) → is_waited k i ≡ true → is_waited m i ≡ true
waited_less m k s i e =
    waited_in_less k.awaits m.awaits s.awaits i (m.said i) (ap (λ (f : ℕ → Option Message). is_waited_in k.awaits i (f i)) (sym s.said) ∙ e)

flights : (m k : Net) → Shrinks m k → count_below m.next k.flying ≤ count_below m.next m.flying
flights m k s = part m.next k.flying m.flying (λ i l e. s.flying i e)

waiting : (m k : Net) → Shrinks m k → count_below m.next (is_waited k) ≤ count_below m.next (is_waited m)
waiting m k s = part m.next (is_waited k) (is_waited m) (λ i l e. waited_less m k s i e)

pub rank_kept : (most : ℕ) (m k : Net) → Shrinks m k → rank most k ≤ rank most m
rank_kept most m k s = rw s.next (let f : count_below m.next k.flying ≤ count_below m.next m.flying = flights m k s in let w : count_below m.next (is_waited k) ≤ count_below m.next (is_waited m) = waiting m k s in omega (arith, f, w))

-- a message lands
pub rank_landed : (most : ℕ) (m k : Net) (i : ℕ) → Shrinks m k → IsNumbered m → m.flying i ≡ true → k.flying i ≡ false → rank most k + 1 ≤ rank most m
rank_landed most m k i s h flies landed = rw s.next (let f : count_below m.next k.flying + 1 ≤ count_below m.next m.flying = fewer m.next i k.flying m.flying (h.flies i flies) landed flies (λ j l e. s.flying j e) in let w : count_below m.next (is_waited k) ≤ count_below m.next (is_waited m) = waiting m k s in omega (arith, f, w))

-- a message is waited for no longer
pub rank_left : (most : ℕ) (m k : Net) (i : ℕ) → Shrinks m k → i < m.next → is_waited m i ≡ true → is_waited k i ≡ false → rank most k + 1 ≤ rank most m
rank_left most m k i s below waits left = rw s.next (let f : count_below m.next k.flying ≤ count_below m.next m.flying = flights m k s in let w : count_below m.next (is_waited k) + 1 ≤ count_below m.next (is_waited m) = fewer m.next i (is_waited k) (is_waited m) below left waits (λ j l e. waited_less m k s j e) in omega (arith, f, w))
