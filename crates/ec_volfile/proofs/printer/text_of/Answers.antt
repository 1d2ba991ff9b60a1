use Rattle.std.proofs.Common.{◌∙◌, List, ℕ, ◌++◌, refl, sym, ap, drop}
use Rattle.std.specs.Prelude.{codes}
use Rattle.std.specs.List.{flat_map}
use Rattle.std.proofs.lemmas.List.{append-nil}
use Rattle.ec_volfile.specs.Printed.{ended_line, option_line, printed_lines, spaced_names, text_of}
use Rattle.ec_volfile.specs.Outline.{outline}
use Rattle.ec_volfile.proofs.PrintLemmas.{line_more}
use Rattle.ec_volfile.proofs.printer.text_of.Goals as goal

pub returns : goal.returns
unfolding text_of
returns c =
    let ls : List (List ℕ) = printed_lines (outline c.args.v.now) in
    let l1 = line_more c.new-text.result c.put_line.new.text _ _ (drop 1 ls) (c.in_ok-put_line.ensures) (ap (λ (x : List ℕ). codes "volume " ++ x) c.items.ensures) in
    let l2 = line_more c.put_line.new.text c.put_line-2.new.text _ _ (drop 2 ls) (c.in_ok-put_line-2.ensures) (append-nil (codes "    type cluster/disperse")) in
    let l3 = line_more c.put_line-2.new.text c.put_option.new.text _ _ (drop 3 ls) (c.in_ok-put_option.ensures) (ap (option_line (codes "redundancy")) (c.as_bytes.ensures.value ∙ c.format.ensures.text)) in
    let l4 = line_more c.put_option.new.text c.put_option-2.new.text _ _ (drop 4 ls) (c.in_ok-put_option-2.ensures) (ap (option_line (codes "read-policy")) c.policy_text.ensures) in
    let l5 = line_more c.put_option-2.new.text c.put_option-3.new.text _ _ (drop 5 ls) (c.in_ok-put_option-3.ensures) (ap (option_line (codes "eager-lock")) c.eager_text.ensures) in
    let l6 = line_more c.put_option-3.new.text c.put_option-4.new.text _ _ (drop 6 ls) (c.in_ok-put_option-4.ensures) (ap (option_line (codes "stripe-cache")) (c.as_bytes-2.ensures.value ∙ c.format-2.ensures.text)) in
    let l7 = line_more c.put_option-4.new.text c.put_option-5.new.text _ _ (drop 7 ls) (c.in_ok-put_option-5.ensures) (ap (option_line (codes "self-heal-window-size")) (c.as_bytes-3.ensures.value ∙ c.format-3.ensures.text)) in
    let l8 = line_more c.put_option-5.new.text c.put_option-6.new.text _ _ (drop 8 ls) (c.in_ok-put_option-6.ensures) (ap (option_line (codes "cpu-extensions")) c.kernel_text.ensures) in
    let l9 = line_more c.put_option-6.new.text c.put_option-7.new.text _ _ (drop 9 ls) (c.in_ok-put_option-7.ensures) (ap (option_line (codes "code-rows")) c.rows_text.ensures) in
    let l10 = line_more c.put_option-7.new.text c.put_subvolumes.new.text (codes "    subvolumes" ++ spaced_names c.args.v.now.bricks) (codes "    subvolumes" ++ spaced_names c.args.v.now.bricks) (drop 10 ls) (c.in_ok-put_subvolumes.ensures) refl in
    let l11 = line_more c.put_subvolumes.new.text c.put_line-3.new.text _ _ (drop 11 ls) (c.in_ok-put_line-3.ensures) (append-nil (codes "end-volume")) in
    sym (append-nil c.put_line-3.new.text) ∙ (l11 ∙ (l10 ∙ (l9 ∙ (l8 ∙ (l7 ∙ (l6 ∙ (l5 ∙ (l4 ∙ (l3 ∙ (l2 ∙ (l1 ∙ ap (λ (x : List ℕ). x ++ flat_map ended_line (printed_lines (outline c.args.v.now))) c.new-text.ensures)))))))))))
