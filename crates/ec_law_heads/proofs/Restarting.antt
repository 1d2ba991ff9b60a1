-- What bricks leave is a beginning again, but for what they have forgotten.
use Rattle.std.proofs.Common.{◌≡◌, ◌∙◌, ℕ, zero, suc, ◌/◌, ◌%◌, ◌<◌, ◌==◌, cond, Bool, true, false, Option, refl, sym, ap, subst, arith, replicate, slice_index, List, [], Some, None}
use Rattle.std.proofs.lemmas.List.{get_or-replicate, length-replicate}
use Rattle.std.specs.Prelude.{is_some}
use Rattle.std.specs.Option.{option_map}
use Rattle.ec_attr.proofs.Sets.{count_none, count_out, place}
use Rattle.ec_attr.specs.Bricks.{count_below}
use Rattle.ec_attr.specs.declared.config.Config.{Config}
use Rattle.ec_brick.specs.Opening.{AcceptsAll, first_root, rooted}
use Rattle.ec_conduct.specs.Data.{stripe_byte}
use Rattle.ec_conduct.specs.Given.{quorum}
use Rattle.ec_field.proofs.Elements.{zero_is_chunk}
use Rattle.ec_field.specs.Chunk.{IsChunk, zero_chunk}
use Rattle.ec_field.specs.Code.{IsStripe, chunk_at}
use Rattle.ec_stripe.specs.Span.{stripe_bytes}
use Rattle.ec_store.specs.Records.{Record, Records, headed}
use Rattle.ec_history.specs.Flat.{Flat, Tree, blank}
use Rattle.ec_history.specs.Holds.{Copies, Stands, is_at_version}
use Rattle.ec_law_turns.proofs.Basics.{equal, some_is}
use Rattle.ec_law_heads.specs.Heads.{AreOfVolume}
use Rattle.ec_law_heads.specs.Restart.{RestartLaws, remembered, remembered_tree}
use Rattle.ec_law_heads.proofs.Agreeing.{within}

-- ## Zeros

zero_byte : (i : ℕ) → i < 512 → slice_index zero_chunk i ≡ 0
unfolding zero_chunk
zero_byte i l = get_or-replicate {A = ℕ} 512 i 0 0 l

abbrev zeros : ℕ → List (List ℕ)
zeros k = replicate k zero_chunk

zero_chunk_at : (k j : ℕ) → j < k → chunk_at (zeros k) j ≡ zero_chunk
zero_chunk_at k j l = get_or-replicate {A = List ℕ} k j zero_chunk [] l

zero_stripe : (k : ℕ) → IsStripe k (zeros k)
zero_stripe k = record { len = length-replicate {A = List ℕ} k zero_chunk; chunks = λ j l. subst IsChunk (sym (zero_chunk_at k j l)) zero_is_chunk }

zero_stripe_byte : (k i : ℕ) → i < stripe_bytes k → stripe_byte (zeros k) i ≡ 0
zero_stripe_byte k i l =
    let inside : i / 512 < k = omega (arith, l) in
    let below : i % 512 < 512 = omega arith in
    ap (λ c. slice_index c (i % 512)) (zero_chunk_at k (i / 512) inside) ∙ zero_byte (i % 512) below

-- ## A gfid that no brick has

some_number : (a b : ℕ) → Some a ≡ Some b → a ≡ b
some_number a b e = cc

module _ (config : Config) (copies : Copies) where
  -- how many bricks have a record
  abbrev having : ℕ
  having = count_below config.geometry.n (λ b. is_some (copies b))

  none_has : having ≡ 0 → (b : ℕ) (r : Record) → b < config.geometry.n → copies b ≡ Some r → ⊥
  none_has e b r lt is = let x = place config.geometry.n (λ c. is_some (copies c)) b lt (ap is_some is) in let y = x.1 in absurd (omega (arith, y, e))

  few : having ≡ 0 → (v : ℕ) → count_below config.geometry.n (λ b. is_at_version v (copies b)) < quorum config.geometry
  few e v =
      let le = within (λ b. is_at_version v (copies b)) (λ b. is_some (copies b)) config.geometry.n (λ c lt is. there (copies c) is) in
      let majority = config.geometry.majority in
      omega (arith, le, e, majority)
    where
      there : (o : Option Record) → is_at_version v o ≡ true → is_some o ≡ true
      there None is = absurd (cc)
      there (Some r) is = refl

  stands_blank : having ≡ 0 → Stands config copies blank
  stands_blank e = record {
    heads = λ b r l is v. absurd (none_has e b r l is);
    content = record {
      stripes = λ s closed. record { stripe = zeros (quorum config.geometry); is_stripe = zero_stripe (quorum config.geometry); bytes = λ i v l is. zero_stripe_byte (quorum config.geometry) i l ∙ some_number 0 v is; codes = λ b r l is h. absurd (none_has e b r l is) };
      names = λ b r n l is h o. absurd (none_has e b r l is);
    };
    alone = λ v u o. few e v;
    promised = λ b r l is a. absurd (none_has e b r l is);
    bounded = λ b r l is. absurd (none_has e b r l is);
    kinds = λ b r l is. absurd (none_has e b r l is);
  }

stand : (config : Config) (copies : Copies) (flat : Flat) → Stands config copies flat → Stands config copies (remembered config copies flat)
stand config copies flat h = at (having config copies == 0) refl
  where
    at : (t : Bool) → (having config copies == 0) ≡ t → Stands config copies (cond t blank flat)
    at true e = stands_blank config copies (equal (having config copies) 0 e)
    at false e = h

-- none of the first n passes
none_pass : (p : ℕ → Bool) (n : ℕ) → ((b : ℕ) → b < n → p b ≡ false) → count_below n p ≡ 0
none_pass p zero h = count_none p
none_pass p (suc n) h = count_out n p (h n (omega arith)) ∙ none_pass p n (λ b lt. h b (omega (arith, lt)))

elsewhere : (config : Config) (records : ℕ → Records) (tree : Tree) (g : ℕ) → ((b : ℕ) → b < config.geometry.n → records b g ≡ None) → remembered_tree config records tree g ≡ blank
elsewhere config records tree g none =
    ap (λ (x : ℕ). cond (x == 0) blank (tree g)) (none_pass (λ b. is_some (records b g)) config.geometry.n (λ b lt. ap (λ (o : Option Record). is_some o) (none b lt)))

-- ## Stores that were opened

opened : (config : Config) (stores : ℕ → Records) (g : ℕ) (flat : Flat) → ((b : ℕ) → b < config.geometry.n → AcceptsAll config (stores b)) → AreOfVolume config (λ b. rooted config (stores b) g) flat
opened config stores g flat accepts b r lt is = at (is_some (stores b 1)) is
  where
    own : stores b g ≡ Some r → r.head.config ≡ config
    own e = (accepts b lt g r.head (ap (option_map (λ (r : Record). r.head)) e)).0

    made : (o : Option Record) → Some (headed o (first_root config)) ≡ Some r → r.head.config ≡ config
    made o e = ap (λ (z : Record). z.head.config) (sym (some_is (headed o (first_root config)) r e)) ∙ root o
      where
        root : (o : Option Record) → (headed o (first_root config)).head.config ≡ config
        root None = refl
        root (Some r) = refl

    at : (t : Bool) → cond t (stores b) (λ x. cond (x == 1) (Some (headed (stores b 1) (first_root config))) (stores b x)) g ≡ Some r → r.head.config ≡ config
    at true e = own e
    at false e = root (g == 1) e
      where
        root : (u : Bool) → cond u (Some (headed (stores b 1) (first_root config))) (stores b g) ≡ Some r → r.head.config ≡ config
        root true e = made (stores b 1) e
        root false e = own e

pub restart_laws : RestartLaws
restart_laws = record { stand = stand; elsewhere = elsewhere; opened = opened }
