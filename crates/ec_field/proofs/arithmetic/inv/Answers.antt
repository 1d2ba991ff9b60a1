use Rattle.std.proofs.Common.{◌≡◌, ◌∙◌, sym, Option, Some, None}
use Rattle.std.specs.Prelude.{MatchOption, IsSome}
use Rattle.std.proofs.Common.{rules}
use Rattle.std.proofs.lemmas.Option.{MatchOption-at_some}
use Rattle.std.specs.Int.NonZero.{non_zero_u8_get}
use Rattle.ec_field.proofs.Powers.{power_inverts, power_not_zero}
use Rattle.ec_field.proofs.arithmetic.inv.Goals as goal

some_unless : {X : Type 0} (o : Option X) (P : Type 0) (Q : X → Type 0) → MatchOption o P Q → (P → ⊥) → IsSome o
some_unless None P Q m not_P = absurd (not_P m)
some_unless (Some x) P Q m not_P = search rules

pub unwrap-requires : goal.unwrap-requires
unwrap-requires c =
    some_unless c.new.result (c.pow.result ≡ 0) (λ x. non_zero_u8_get x ≡ c.pow.result) c.new.ensures
    (λ none. power_not_zero c.get.result c.get.ensures.nonzero c.get.type_inv (sym c.pow.ensures ∙ none))

pub returns : goal.returns
returns c =
    let is : non_zero_u8_get c.unwrap.result ≡ c.pow.result =
    MatchOption-at_some (c.pow.result ≡ 0) (λ x. non_zero_u8_get x ≡ c.pow.result) c.unwrap.result c.unwrap.ensures c.new.ensures in
    rw (is, c.pow.ensures, ← c.get.ensures.value) (power_inverts c.get.result c.get.ensures.nonzero c.get.type_inv)
