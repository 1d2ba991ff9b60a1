-- The chunks that the bricks of a set gave, in their order.
use Rattle.std.proofs.Common.{◌≡◌, inl, inr, ℕ, ◌+◌, ◌<◌, Bool, true, false, List, [], length, get_or, refl, sym, ◌∙◌, ap, subst, arith}
use Rattle.std.specs.Prelude.{slice_set}
use Rattle.std.proofs.lemmas.Bool.{cases_eq}
use Rattle.std.proofs.lemmas.List.{get_or-set_same, get_or-set_other}
use Rattle.ec_attr.specs.Bricks.{bricks, bricks_below, count_below, is_in}
use Rattle.ec_attr.proofs.Sets.{bricks_more_out, count_more_in, count_more_out, count_grows, entry_at, entry_before, len, place}
use Rattle.ec_field.specs.Code.{IsCode, IsStripe, chunk_at}
use Rattle.ec_stripe.specs.Codes.{AreCodes}
use Rattle.ec_read.specs.Decoded.{IsDecoded, chunk_given}
use Rattle.ec_wire.specs.declared.reply.Reply.{Reply}
use Rattle.std.specs.declared.option.Option.{Option}

-- the chunks of the bricks below m that pass a test stand in their places
abbrev pub AreGathered : ℕ → (ℕ → Bool) → (ℕ → Option Reply) → ℕ → List (List ℕ) → Type 0
AreGathered m test replies at pieces = (i : ℕ) → i < count_below m test → chunk_at pieces i ≡ chunk_given (replies (get_or (bricks_below m test) i 0)) at

pub gathered_in : (m at to : ℕ) (test : ℕ → Bool) (replies : ℕ → Option Reply) (old new : List (List ℕ)) (chunk : List ℕ)
    → AreGathered m test replies at old → test m ≡ true → to ≡ count_below m test → to < length old → chunk ≡ chunk_given (replies m) at → new ≡ slice_set old to chunk
    → AreGathered (m + 1) test replies at new
gathered_in m at to test replies old new chunk before passes place room is set i l =
    elim (cases_eq i to) [
      | inl e ↦
          let brick : get_or (bricks_below (m + 1) test) i 0 ≡ m = ap (λ x. get_or (bricks_below (m + 1) test) x 0) (e ∙ place) ∙ entry_at m m test refl passes in
          ap (λ x. chunk_at x i) set ∙ ap (λ x. chunk_at (slice_set old to chunk) x) e ∙ get_or-set_same old to chunk [] room ∙ is
          ∙ sym (ap (λ x. chunk_given (replies x) at) brick)
      | inr d ↦
          let below : i < count_below m test = omega (arith, count_more_in m test passes) in
          ap (λ x. chunk_at x i) set ∙ get_or-set_other old to i chunk [] d ∙ before i below
          ∙ sym (ap (λ x. chunk_given (replies x) at) (entry_before m m test refl passes i below))
    ]

pub gathered_out : (m at : ℕ) (test : ℕ → Bool) (replies : ℕ → Option Reply) (pieces : List (List ℕ))
    → AreGathered m test replies at pieces → test m ≡ false → AreGathered (m + 1) test replies at pieces
gathered_out m at test replies pieces before fails i l =
    rw (bricks_more_out m test fails) (before i (rw (count_more_out m test fails) at l))

-- a brick that passes is counted among those below any later one
pub counted : (m n : ℕ) (test : ℕ → Bool) → test m ≡ true → m < n → count_below m test < count_below n test
counted m n test passes l = omega (arith, count_more_in m test passes, count_grows (m + 1) n test (omega arith))

-- what decodes these chunks is decoded of what the bricks gave
pub decoded_by : (k algorithm bits at : ℕ) (replies : ℕ → Option Reply) (pieces stripe : List (List ℕ)) → length pieces ≡ k → k ≡ length (bricks bits)
    → ((i : ℕ) → i < k → chunk_at pieces i ≡ chunk_given (replies (get_or (bricks bits) i 0)) at)
    → IsStripe (length pieces) stripe → AreCodes algorithm bits stripe pieces → IsDecoded k algorithm bits replies at stripe
decoded_by k algorithm bits at replies pieces stripe same count gathered is_stripe codes = record {
  is_stripe = subst (λ (n : ℕ). IsStripe n stripe) same is_stripe;
  codes = λ b below t.
      (let w = place 31 (is_in bits) b below t in
      let l : w.0 < k = omega (arith, w.1, count, len 31 (is_in bits)) in
      let code : IsCode (length pieces) algorithm (get_or (bricks bits) w.0 0) stripe (chunk_at pieces w.0) = codes w.0 (omega (arith, same, l)) in
      let brick : IsCode (length pieces) algorithm b stripe (chunk_at pieces w.0) = subst (λ (n : ℕ). IsCode (length pieces) algorithm n stripe (chunk_at pieces w.0)) w.2 code in
      let here : IsCode (length pieces) algorithm b stripe (chunk_given (replies b) at) = subst (IsCode (length pieces) algorithm b stripe) (gathered w.0 l ∙ ap (λ (n : ℕ). chunk_given (replies n) at) w.2) brick in
      subst (λ (n : ℕ). IsCode n algorithm b stripe (chunk_given (replies b) at)) same here);
}
