-- Lists of sends.
use Rattle.std.proofs.Common.{◌≡◌, ℕ, zero, suc, ◌+◌, ◌<◌, ◌≤◌, refl, sym, ◌∙◌, ap, List, [], ◌∷◌, ◌++◌, length, arith, append_assoc, append-nil, Option, Some, None, rules}
use Rattle.std.specs.Prelude.{map, All}
use Rattle.std.proofs.Math.Path.{fun_ext}
use Rattle.std.proofs.lemmas.List.Elements.{All-nil, All-cons, All-append}
use Rattle.ec_wire.specs.declared.request.Request.{Request}
use Rattle.ec_conduct.specs.Account.{Account, sent}
use Rattle.ec_conduct.specs.Conduct.{MaySend}
use Rattle.ec_conduct.specs.Table.{AllMay, Send, sent_all, to_bricks}

pub sent_append : (c : Account) (i : ℕ) (xs ys : List Send) → sent_all c i (xs ++ ys) ≡ sent_all (sent_all c i xs) (i + length xs) ys
sent_append c i [] ys = ap (λ (j : ℕ). sent_all c j ys) (omega arith)
sent_append c i (x ∷ xs) ys = sent_append (sent c x.0 i x.1) (i + 1) xs ys ∙ ap (λ (j : ℕ). sent_all (sent_all (sent c x.0 i x.1) (i + 1) xs) j ys) (omega arith)

pub may_append : (c : Account) (i : ℕ) (xs ys : List Send) → AllMay c i xs → AllMay (sent_all c i xs) (i + length xs) ys → AllMay c i (xs ++ ys)
may_append c i [] ys m n = let e : i + length {A = Send} [] ≡ i = omega arith in rw e at n
may_append c i (x ∷ xs) ys m n =
    let e : i + length (x ∷ xs) ≡ (i + 1) + length xs = omega arith in
    (m.0, may_append (sent c x.0 i x.1) (i + 1) xs ys m.1 (rw e at n))

pub bricks_same : (n : ℕ) (f g : ℕ → List Request) → ((x : ℕ) → f x ≡ g x) → to_bricks n f ≡ to_bricks n g
bricks_same n f g e = ap (to_bricks n) (fun_ext e)

pub bricks_none : (n : ℕ) → to_bricks n (λ x. []) ≡ []
bricks_none zero = refl
bricks_none (suc n) = rw (bricks_none n) refl
