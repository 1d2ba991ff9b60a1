-- The chunks that the bricks of a set gave, in their order.
use Rattle.std.proofs.Common.{◌++◌, take, ◌∷◌, ◌≡◌, inl, inr, ℕ, ◌+◌, ◌<◌, Bool, true, false, List, [], length, get_or, refl, sym, ◌∙◌, ap, subst, arith}
use Rattle.std.specs.Prelude.{slice_set}
use Rattle.std.proofs.lemmas.Bool.{cases_eq}
use Rattle.std.proofs.lemmas.List.{get_or-set_same, get_or-set_other}
use Rattle.ec_attr.specs.Bricks.{bricks, bricks_below, count_below, is_in}
use Rattle.ec_attr.proofs.Sets.{bricks_more_out, count_more_in, count_more_out, count_grows, entry_at, entry_before, place}
use Rattle.ec_field.specs.Code.{IsCode, IsStripe, chunk_at}
use Rattle.ec_attr.specs.declared.geometry.Geometry.{Geometry}
use Rattle.ec_write.specs.Stripes.{IsDecoded, first_chunk, gave, has_chunk}
use Rattle.ec_txn.specs.declared.known.Place.{Place}
use Rattle.ec_txn.specs.declared.reading.Reading.{Reading}
use Rattle.ec_txn.specs.ReadPhase.{is_done}
use Rattle.ec_wire.specs.declared.reply.Reply.TheVariants.{Granted, Head as HeadIs, Chunks, Child, Names, Done, NoGrant, NoInode, IsInode, OtherKind, NotAt, Fault, Gfids}
use Rattle.ec_conduct.specs.Given.{quorum}
use Rattle.std.specs.declared.option.Option.TheVariants.{Some, None}
use Rattle.std.proofs.lemmas.Bool.{and_parts}
use Rattle.ec_stripe.specs.Codes.{AreCodes}
use Rattle.ec_write.specs.Stripes.{chunk_given}
use Rattle.ec_wire.specs.declared.reply.Reply.{Reply}
use Rattle.std.specs.declared.option.Option.{Option}

-- the chunks of the bricks below m that pass a test stand in their places
abbrev pub AreGathered : ℕ → (ℕ → Bool) → (ℕ → Option Reply) → List (List ℕ) → Type 0
AreGathered m test replies pieces = (i : ℕ) → i < count_below m test → chunk_at pieces i ≡ chunk_given (replies (get_or (bricks_below m test) i 0))

pub gathered_in : (m to : ℕ) (test : ℕ → Bool) (replies : ℕ → Option Reply) (old new : List (List ℕ)) (chunk : List ℕ)
    → AreGathered m test replies old → test m ≡ true → to ≡ count_below m test → to < length old → chunk ≡ chunk_given (replies m) → new ≡ slice_set old to chunk
    → AreGathered (m + 1) test replies new
gathered_in m to test replies old new chunk before passes place room is set i l =
    elim (cases_eq i to) [
      | inl e ↦
          let brick : get_or (bricks_below (m + 1) test) i 0 ≡ m = ap (λ x. get_or (bricks_below (m + 1) test) x 0) (e ∙ place) ∙ entry_at m m test refl passes in
          ap (λ x. chunk_at x i) set ∙ ap (λ x. chunk_at (slice_set old to chunk) x) e ∙ get_or-set_same old to chunk [] room ∙ is
          ∙ sym (ap (λ x. chunk_given (replies x)) brick)
      | inr d ↦
          let below : i < count_below m test = omega (arith, count_more_in m test passes) in
          ap (λ x. chunk_at x i) set ∙ get_or-set_other old to i chunk [] d ∙ before i below
          ∙ sym (ap (λ x. chunk_given (replies x)) (entry_before m m test refl passes i below))
    ]

pub gathered_out : (m : ℕ) (test : ℕ → Bool) (replies : ℕ → Option Reply) (pieces : List (List ℕ))
    → AreGathered m test replies pieces → test m ≡ false → AreGathered (m + 1) test replies pieces
gathered_out m test replies pieces before fails i l =
    rw (bricks_more_out m test fails) (before i (rw (count_more_out m test fails) at l))

-- a brick that passes is counted among those below any later one
pub counted : (m n : ℕ) (test : ℕ → Bool) → test m ≡ true → m < n → count_below m test < count_below n test
counted m n test passes l = omega (arith, count_more_in m test passes, count_grows (m + 1) n test (omega arith))

-- the chunk that a brick gave
given_first : (o : Option Reply) → has_chunk o ≡ true → first_chunk o ≡ Some (chunk_given o)
given_first None e = absurd (cc)
given_first (Some (Chunks [])) e = absurd (cc)
given_first (Some (Chunks (x ∷ xs))) e = refl
given_first (Some Granted) e = absurd (cc)
given_first (Some (HeadIs h)) e = absurd (cc)
given_first (Some (Child h)) e = absurd (cc)
given_first (Some (Names h)) e = absurd (cc)
given_first (Some Done) e = absurd (cc)
given_first (Some (NoGrant h)) e = absurd (cc)
given_first (Some NoInode) e = absurd (cc)
given_first (Some IsInode) e = absurd (cc)
given_first (Some OtherKind) e = absurd (cc)
given_first (Some (NotAt h)) e = absurd (cc)
given_first (Some Fault) e = absurd (cc)
given_first (Some (Gfids h)) e = absurd (cc)

-- what decodes these chunks is decoded of what the bricks gave
pub decoded_by : (geometry : Geometry) (r : Reading) (ps : ℕ → Place) (rs : ℕ → Option Reply) (bits k : ℕ) (pieces stripe : List (List ℕ)) → k ≡ quorum geometry → k ≡ count_below 31 (is_in bits) → length pieces ≡ k
    → ((x : ℕ) → is_in bits x ≡ true → gave r ps rs x ≡ true)
    → ((x : ℕ) → is_in bits x ≡ true → x < 31)
    → ((i : ℕ) → i < k → chunk_at pieces i ≡ chunk_given (rs (get_or (bricks bits) i 0)))
    → IsStripe (length pieces) stripe → AreCodes geometry.algorithm bits stripe pieces → IsDecoded geometry r ps rs stripe
decoded_by geometry r ps rs bits k pieces stripe quorum_is count same given below gathered is_stripe codes =
    let many : length pieces ≡ quorum geometry = same ∙ quorum_is in
    record {
      stripe_is = subst (λ (n : ℕ). IsStripe n stripe) many is_stripe;
      which = is_in bits;
      enough = (let q = quorum_is in omega (arith, count, q));
      each = λ x t.
          (let w = place 31 (is_in bits) x (below x t) t in
          let l : w.0 < k = omega (arith, w.1, count) in
          let code : IsCode (length pieces) geometry.algorithm (get_or (bricks bits) w.0 0) stripe (chunk_at pieces w.0) = codes w.0 (omega (arith, same, l)) in
          let brick : IsCode (length pieces) geometry.algorithm x stripe (chunk_at pieces w.0) = subst (λ (n : ℕ). IsCode (length pieces) geometry.algorithm n stripe (chunk_at pieces w.0)) w.2 code in
          let here : IsCode (length pieces) geometry.algorithm x stripe (chunk_given (rs x)) = subst (IsCode (length pieces) geometry.algorithm x stripe) (gathered w.0 l ∙ ap (λ (n : ℕ). chunk_given (rs n)) w.2) brick in
          let gives = given x t in
          let has = (and_parts (is_done r ps rs x) (has_chunk (rs x)) gives).1 in
          (gives, chunk_given (rs x), given_first (rs x) has, subst (λ (n : ℕ). IsCode n geometry.algorithm x stripe (chunk_given (rs x))) many here));
    }

-- the front of a list
pub front_of : {X : Type 0} (n : ℕ) (xs ys : List X) → length xs ≡ n → take n (xs ++ ys) ≡ xs
front_of {X} n xs ys e = ap (λ (m : ℕ). take m (xs ++ ys)) (sym e) ∙ go xs
  where
    go : (zs : List X) → take (length zs) (zs ++ ys) ≡ zs
    go [] = refl
    go (z ∷ zs) = ap (λ (l : List X). z ∷ l) (go zs)
