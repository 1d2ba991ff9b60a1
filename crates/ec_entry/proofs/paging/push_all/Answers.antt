use Rattle.std.proofs.Common.{◌≡◌, sym, ◌∙◌, ap, ◌++◌, [], ◌∷◌, List, ℕ, append_assoc, append-nil}
use Rattle.std.specs.Map.Iter.{deref_pair}
use Rattle.std.proofs.lemmas.Map.Iter.{rest_more}
use Rattle.ec_entry.specs.Paging.{Entries}
use Rattle.ec_entry.proofs.paging.push_all.Goals as goal

pub loop-name-preserved : goal.loop-name-preserved
loop-name-preserved c =
    let left : c.loop-name.name-iterator ≡ (c.in-Some.name.now, c.in-Some.entry.now) ∷ c.next.new.self = rest_more deref_pair c.loop-name.name-iterator c.next.new.self c.next.result (c.in-Some.name, c.in-Some.entry) c.in-Some.is c.next.ensures.steps in
    ap (λ (es : Entries). es ++ c.next.new.self) c.in_ok-push.ensures.ok
    ∙ (append_assoc c.loop-name.list ((c.in_ok-copy.field-0, c.in-Some.entry.now) ∷ []) c.next.new.self
    ∙ (ap (λ (n : List ℕ). c.loop-name.list ++ (n, c.in-Some.entry.now) ∷ c.next.new.self) c.in_ok-copy.ensures
    ∙ (ap (λ (es : Entries). c.loop-name.list ++ es) (sym left) ∙ c.loop-name.invariant)))

pub returns-clause-all : goal.returns-clause-all
returns-clause-all c =
    let none : c.loop-name.name-iterator ≡ [] = c.in-None.ensures.steps.0 in
    sym (append-nil c.loop-name.list) ∙ (ap (λ (es : Entries). c.loop-name.list ++ es) (sym none) ∙ c.loop-name.invariant)
