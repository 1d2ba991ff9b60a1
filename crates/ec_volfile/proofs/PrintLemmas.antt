-- Lines that are printed one after another.
use Rattle.std.proofs.Common.{◌≡◌, List, ℕ, ◌∷◌, ◌++◌, ap, ◌∙◌, append_assoc}
use Rattle.std.specs.List.{flat_map}
use Rattle.ec_volfile.specs.Printed.{ended_line}

-- a line more
pub line_more : (t u m l : List ℕ) (ls : List (List ℕ)) → u ≡ t ++ ended_line m → m ≡ l → u ++ flat_map ended_line ls ≡ t ++ flat_map ended_line (l ∷ ls)
line_more t u m l ls e f =
    ap (λ (x : List ℕ). x ++ flat_map ended_line ls) e
    ∙ (append_assoc t (ended_line m) (flat_map ended_line ls) ∙ ap (λ (x : List ℕ). t ++ (ended_line x ++ flat_map ended_line ls)) f)
