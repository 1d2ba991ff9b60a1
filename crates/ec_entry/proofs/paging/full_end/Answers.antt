use Rattle.std.proofs.Common.{◌≡◌, length, arith, sym, ◌∙◌, ap, Some, List, ℕ}
use Rattle.ec_entry.specs.Paging.{full_end}
use Rattle.ec_entry.proofs.Gathering.{last_of_full}
use Rattle.ec_entry.proofs.paging.full_end.Goals as goal

pub returns-in_ok-copy-in-len1-up : goal.returns-in_ok-copy-in-len1-up
returns-in_ok-copy-in-len1-up c =
    let len : length c.items.result.now ≡ 64 = ap length c.items.ensures ∙ (sym c.len.ensures ∙ c.if-len-ne64.false) in
    ap (λ (n : List ℕ). Some n) c.in_ok-copy-in-len1-up.ensures
    ∙ (sym (last_of_full c.items.result.now _ c.last-item.result len c.last-item.is (omega (arith, len))) ∙ ap full_end c.items.ensures)
