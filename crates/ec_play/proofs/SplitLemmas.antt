-- Places in a text.
use Rattle.std.proofs.Common.{◌≡◌, ℕ, ◌<◌, ◌≤◌, Bool, true, false, List, length, get_or, sym, arith}
use Rattle.std.specs.List.{position_or_len}
use Rattle.std.proofs.lemmas.List.Sums.{position_or_len_is}

pub found_at : (p : ℕ → Bool) (xs : List ℕ) (i : ℕ) → i < length xs → ((k : ℕ) → k < i → p (get_or xs k 0) ≡ false) → p (get_or xs i 0) ≡ true → i ≡ position_or_len p xs
found_at p xs i h before here = sym (position_or_len_is p xs i 0 (omega arith) before (λ l. here))

pub found_nowhere : (p : ℕ → Bool) (xs : List ℕ) (i : ℕ) → length xs ≤ i → ((k : ℕ) → k < i → p (get_or xs k 0) ≡ false) → length xs ≡ position_or_len p xs
found_nowhere p xs i h before = sym (position_or_len_is p xs (length xs) 0 (omega arith) (λ k l. before k (omega arith)) (λ l. absurd (omega (arith, l))))
