-- A list from a place on, of which a front part is taken.
use Rattle.std.proofs.Common.{◌≡◌, ℕ, ◌+◌, ◌-◌, ◌<◌, min, List, [], ◌++◌, length, take, drop, sym, ap, ◌∙◌, arith}
use Rattle.std.proofs.lemmas.List.{take_all, drop-drop, length-drop, drop_all}

whole : (xs : List ℕ) (start : ℕ) → take (length xs - start) (drop start xs) ≡ drop start xs
whole xs start = let e = length-drop start xs in take_all (length xs - start) (drop start xs) (omega arith)

pub rest_splits : (xs to : List ℕ) (start n : ℕ) → take (length xs - start) (drop start xs) ≡ take n to ++ drop n (take (length xs - start) (drop start xs)) → drop start xs ≡ take n to ++ drop (start + n) xs
rest_splits xs to start n e = sym (whole xs start) ∙ e ∙ ap (λ l. take n to ++ drop n l) (whole xs start) ∙ ap (λ l. take n to ++ l) (drop-drop n start xs)

pub rest_ends : (xs : List ℕ) (start n room : ℕ) → n ≡ min room (length (take (length xs - start) (drop start xs))) → n ≡ 0 → 0 < room → drop (start + n) xs ≡ []
rest_ends xs start n room e z r = let k = ap length (whole xs start) in let h = length-drop start xs in drop_all (start + n) xs (omega arith)
