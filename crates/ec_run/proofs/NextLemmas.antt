-- Which gfid is the next one once the stores of a volume are opened.
use Rattle.std.proofs.Common.{◌≡◌, ◌≢◌, ◌⊎◌, inl, inr, ⊎_elim, ℕ, ◌+◌, ◌<◌, ◌≤◌, Bool, true, false, cond, ◌==◌, get_or, List, length, Option, Some, None, refl, sym, ap, subst, ◌∙◌, arith}
use Rattle.std.proofs.lemmas.Bool.Decides.{nat_tests}
use Rattle.std.proofs.lemmas.Option.{slice_get-get_or}
use Rattle.std.specs.Option.{is_some}
use Rattle.std.specs.Prelude.{slice_get}
use Rattle.ec_attr.specs.declared.config.Config.{Config}
use Rattle.ec_attr.specs.declared.head.Head.{Head}
use Rattle.ec_attr.specs.declared.kind.Child.{Child}
use Rattle.ec_brick.specs.Opening.{IsNamed, IsTaken, first_root, rooted}
use Rattle.ec_cluster.specs.Open.{AreKept, AreRooted, IsAfterTaken, IsNextGfid, opened, or_none}
use Rattle.ec_history.specs.Starts.{IsNextGfid as IsNextIn}
use Rattle.ec_store.specs.Put.{put}
use Rattle.ec_store.specs.Records.{Record, Records, headed, with_head}

equal : (x y : ℕ) → (x == y) ≡ true → x ≡ y
equal x y e = grind (arith, nat_tests)

-- what is taken stays so where a root is put
put_taken : (m : Records) (h : Head) (g : ℕ) → is_some (m 1) ≡ false → IsTaken m g → IsTaken (with_head m 1 h) g
put_taken m h g none (inl there) = inl (at (g == 1))
  where
    at : (t : Bool) → cond t (Some (headed (m 1) h)) (m g) ≢ None
    at true = λ e. absurd (cc)
    at false = there
put_taken m h g none (inr (low, (d, r, n, c, is, kind, named, gfid))) = inr (low, (d, r, n, c, at (d == 1) refl, kind, named, gfid))
  where
    at : (t : Bool) → (d == 1) ≡ t → cond t (Some (headed (m 1) h)) (m d) ≡ Some r
    at true e = let x : m 1 ≡ Some r = subst (λ (z : ℕ). m z ≡ Some r) (equal d 1 e) is in let y : is_some (m 1) ≡ true = ap is_some x in absurd (cc)
    at false e = is

taken_rooted : (config : Config) (m : Records) (g : ℕ) → IsTaken m g → IsTaken (rooted config m) g
taken_rooted config m g taken = at (is_some (m 1)) refl
  where
    at : (t : Bool) → is_some (m 1) ≡ t → IsTaken (cond t m (with_head m 1 (first_root config))) g
    at true e = taken
    at false e = put_taken m (first_root config) g e taken

-- what is taken then was so before, or is the root
no_names : (o : Option Record) (h : Head) (r : Record) (n : List ℕ) (c : Child) → is_some o ≡ false → Some (headed o h) ≡ Some r → r.names n ≡ Some c → ⊥
no_names None h r n c none e named = let x : headed None h ≡ r = cc in let y : None ≡ Some c = ap (λ (z : Record). z.names n) x ∙ named in absurd (cc)
no_names (Some q) h r n c none e named = absurd (cc)

put_was_taken : (m : Records) (h : Head) (g : ℕ) → is_some (m 1) ≡ false → IsTaken (with_head m 1 h) g → IsTaken m g ⊎ (g ≡ 1)
put_was_taken m h g none (inl there) = at (g == 1) refl there
  where
    at : (t : Bool) → (g == 1) ≡ t → cond t (Some (headed (m 1) h)) (m g) ≢ None → IsTaken m g ⊎ (g ≡ 1)
    at true e x = inr (equal g 1 e)
    at false e x = inl (inl x)
put_was_taken m h g none (inr (low, (d, r, n, c, is, kind, named, gfid))) = at (d == 1) refl is
  where
    at : (t : Bool) → (d == 1) ≡ t → cond t (Some (headed (m 1) h)) (m d) ≡ Some r → IsTaken m g ⊎ (g ≡ 1)
    at true e x = absurd (no_names (m 1) h r n c none x named)
    at false e x = inl (inr (low, (d, r, n, c, x, kind, named, gfid)))

was_taken : (config : Config) (m : Records) (g : ℕ) → IsTaken (rooted config m) g → IsTaken m g ⊎ (g ≡ 1)
was_taken config m g taken = at (is_some (m 1)) refl taken
  where
    at : (t : Bool) → is_some (m 1) ≡ t → IsTaken (cond t m (with_head m 1 (first_root config))) g → IsTaken m g ⊎ (g ≡ 1)
    at true e x = inl x
    at false e x = put_was_taken m (first_root config) g e x

pub no_records : Records
no_records g = None

-- of a store that there is
pub its_records : (stores : List Records) (b : ℕ) → b < length stores → slice_get stores b ≡ Some (get_or stores b no_records)
its_records stores b there = slice_get-get_or stores b no_records there

module _ (config : Config) (n : ℕ) (before started : List Records) (there : length before ≡ n) (many : length started ≡ n) (kept : AreKept config n before started) where
  stays_taken : (b : ℕ) (r : Records) (g : ℕ) → b < n → slice_get before b ≡ Some r → IsTaken r g → IsTaken (opened config started b).records g
  stays_taken b r g lt is taken = ⊎_elim same new kept
    where
      same : started ≡ before → IsTaken (or_none (slice_get started b)) g
      same e = rw e (rw is taken)

      new : AreRooted config n before started → IsTaken (or_none (slice_get started b)) g
      new x =
          let now = its_records started b (omega (arith, lt, many)) in
          rw now (rw (x.first b r (get_or started b no_records) lt is now) (taken_rooted config r g taken))

  came_taken : (b g : ℕ) → b < n → IsTaken (opened config started b).records g → ((r : Records) × (slice_get before b ≡ Some r) × IsTaken r g) ⊎ (g ≡ 1)
  came_taken b g lt taken = ⊎_elim same new kept
    where
      was : slice_get before b ≡ Some (get_or before b no_records)
      was = its_records before b (omega (arith, lt, there))

      same : started ≡ before → ((r : Records) × (slice_get before b ≡ Some r) × IsTaken r g) ⊎ (g ≡ 1)
      same e = inl (get_or before b no_records, was, subst (λ (o : Option Records). IsTaken (or_none o) g) was (subst (λ (l : List Records). IsTaken (or_none (slice_get l b)) g) e taken))

      new : AreRooted config n before started → ((r : Records) × (slice_get before b ≡ Some r) × IsTaken r g) ⊎ (g ≡ 1)
      new x =
          let now = its_records started b (omega (arith, lt, many)) in
          let is : get_or started b no_records ≡ rooted config (get_or before b no_records) = x.first b (get_or before b no_records) (get_or started b no_records) lt was now in
          ⊎_elim (λ (y : IsTaken (get_or before b no_records) g). inl (get_or before b no_records, was, y)) (λ y. inr y)
          (was_taken config (get_or before b no_records) g (subst (λ (r : Records). IsTaken r g) is (subst (λ (o : Option Records). IsTaken (or_none o) g) now taken)))

  -- the next gfid of the world is the one that the bricks begin with
  pub next_is : (Told : Type 0) → Told → (first next : ℕ) → IsNextGfid Told n before first → IsAfterTaken n before first → IsNextIn n (λ b. (opened config started b).records) next → next ≡ first
  next_is Told told first next is after in_run =
      let low : first ≤ next = ⊎_elim (λ (e : first ≡ 2). let two : 2 ≤ next = in_run.not_root in omega (arith, e, two)) (λ x. let above : x.2 < next = in_run.above x.0 x.2 x.3 (stays_taken x.0 x.1 x.2 x.3 x.4 x.5) in let e : first ≡ x.2 + 1 = x.6 in omega (arith, above, e)) after in
      let high : next ≤ first = ⊎_elim (λ (e : next ≡ 2). let two : 2 ≤ first = is.least in omega (arith, e, two)) (λ x. let e : next ≡ x.1 + 1 = x.4 in ⊎_elim (λ y. let above : x.1 < first = is.above told x.0 y.0 x.1 x.2 y.1 y.2 in omega (arith, above, e)) (λ (one : x.1 ≡ 1). let two : 2 ≤ first = is.least in omega (arith, one, two, e)) (came_taken x.0 x.1 x.2 x.3)) in_run.least in
      omega (arith, low, high)

-- the same, of as many stores as the volume has bricks
pub next_of_start : (config : Config) (n count : ℕ) (before started : List Records) → count ≡ n → length before ≡ count → length started ≡ count → AreKept config count before started → (Told : Type 0) → Told → (first next : ℕ) → IsNextGfid Told count before first → IsAfterTaken count before first → IsNextIn n (λ b. (opened config started b).records) next → next ≡ first
next_of_start config n count before started same there many kept Told told first next is after in_run =
    next_is config count before started there many kept Told told first next is after (subst (λ (m : ℕ). IsNextIn m (λ b. (opened config started b).records) next) (sym same) in_run)
