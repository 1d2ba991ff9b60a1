-- Who waits in vain, one brick and one client more.
use Rattle.std.proofs.Common.{◌≡◌, ◌⊎◌, ⊎_elim, ℕ, ◌+◌, ◌<◌, ◌≤◌, arith, subst, sym}

last_or : (x n : ℕ) → x < n + 1 → (x ≡ n) ⊎ (x < n)
last_or x n lt = grind arith

-- what holds below n and at n holds below n + 1
pub one_more : (P : ℕ → Type 0) (n : ℕ) → ((x : ℕ) → x < n → P x) → P n → (x : ℕ) → x < n + 1 → P x
one_more P n low here x lt = ⊎_elim (λ e. subst P (sym e) here) (λ l. low x l) (last_or x n lt)

pub none_below : (P : ℕ → Type 0) (x : ℕ) → x < 0 → P x
none_below P x lt = absurd (omega arith)
