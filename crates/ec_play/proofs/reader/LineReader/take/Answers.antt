use Rattle.std.proofs.Common.{◌≡◌, ◌+◌, ◌-◌, ◌≤◌, List, ℕ, length, take, drop, ap, sym, ◌∙◌, arith}
use Rattle.std.proofs.lemmas.List.{drop-take, drop-drop, length-take}
use Rattle.ec_play.proofs.reader.LineReader.take.Goals as goal

-- the range without its first n
later_range : (xs : List ℕ) (start end n : ℕ) → start + n ≤ end → take (end - (start + n)) (drop (start + n) xs) ≡ drop n (take (end - start) (drop start xs))
later_range xs start end n h =
    let size : end - start ≡ n + (end - (start + n)) = omega arith in
    sym (ap (λ m. drop n (take m (drop start xs))) size
    ∙ drop-take n (end - (start + n)) (drop start xs)
    ∙ ap (take (end - (start + n))) (drop-drop n start xs))

pub returns : goal.returns
returns c =
    later_range c.self.inside.bytes c.self.inside.start c.self.inside.end c.args.count
    (let held : length (take (c.self.inside.end - c.self.inside.start) (drop c.self.inside.start c.self.inside.bytes)) ≡ length c.args.self.now = ap length c.self.view_is in
    let least : c.args.count ≤ length c.args.self.now = c.requires in
    omega (arith, length-take {A = ℕ}, c.self.invariant.0))
    ∙ ap (drop c.args.count) c.self.view_is
