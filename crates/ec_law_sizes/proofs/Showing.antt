-- What acts make of the flat version and the flat shape of the machine without data. Until a record is first made, it counts as having
-- the shape of a new one.
use Rattle.std.proofs.Common.{◌≡◌, ℕ, Bool, true, false, cond, List, [], ◌∷◌, map, refl, ◌∙◌}
use Rattle.ec_law_base.specs.State.{target}
use Rattle.ec_law_ballots.specs.Act.{Act}
use Rattle.ec_law_ballots.specs.Act.Act.{Post, Sink_post}
use Rattle.ec_law_pieces.specs.Deed.{after as after_deeds, commits, flat_after, step}
use Rattle.ec_law_pieces.specs.Deed.Deed.{Commit}
use Rattle.ec_law_data.specs.Deeds.{dressed}
use Rattle.ec_law_data.specs.Forms.{Shape}
use Rattle.ec_law_data.specs.Reading.{Plans}
use Rattle.ec_law_data.proofs.Guards.{Easy, is_easy}
use Rattle.ec_law_shapes.specs.Shadows.{Bare, bare_form, of_shapes}

abbrev pub shown_flat : Shape → Bare → Shape
shown_flat new s = cond s.heads.making s.flat.shape new

module _ (new : Shape) where
  -- the flat version and the flat shape stay
  pub record Stays (s h : Bare) : Type 0 where
    pub version : h.flat.version ≡ s.flat.version
    pub shape : shown_flat new h ≡ shown_flat new s

  pub stays : (s : Bare) → Stays s s
  stays s = record { version = refl; shape = refl }

  pub stays_then : (s h j : Bare) → Stays s h → Stays h j → Stays s j
  stays_then s h j x y = record { version = y.version ∙ x.version; shape = y.shape ∙ x.shape }

  -- turn a commits
  pub record Becomes (s h : Bare) (a : ℕ) : Type 0 where
    pub version : h.flat.version ≡ target (s.heads.ballot a)
    pub shape : shown_flat new h ≡ cond s.heads.making (s.becomes a) new

  becomes_then : (s h j : Bare) (a : ℕ) → Becomes s h a → Stays h j → Becomes s j a
  becomes_then s h j a x y = record { version = y.version ∙ x.version; shape = y.shape ∙ x.shape }

  module _ (plans : Plans ⊥ (Unit {0}) (Unit {0}) Shape) (n k g : ℕ) where
    abbrev pub acted : List Act → Bare → Bare
    acted es s = after_deeds bare_form n k (map (dressed (of_shapes new) plans n k g) es) s

    easy_step : (e : Act) (s : Bare) → is_easy e ≡ true → Stays s (step bare_form n k s (dressed (of_shapes new) plans n k g e))
    easy_step (Post a b) s easy = absurd (cc)
    easy_step (Sink_post a b) s easy = absurd (cc)
    easy_step e s easy = record { version = refl; shape = refl }

    -- acts that are no PostOp
    pub easy_stays : (es : List Act) (s : Bare) → Easy es → Stays s (acted es s)
    easy_stays [] s easy = stays s
    easy_stays (e ∷ es) s easy = let h = step bare_form n k s (dressed (of_shapes new) plans n k g e) in stays_then s h (acted es h) (easy_step e s easy.0) (easy_stays es h easy.1)

    -- a PostOp on a marked record
    pub sunk_stays : (a b : ℕ) (rest : List Act) (s : Bare) → Easy rest → Stays s (acted (Sink_post a b ∷ rest) s)
    sunk_stays a b rest s easy = let h = step bare_form n k s (dressed (of_shapes new) plans n k g (Sink_post a b)) in stays_then s h (acted rest h) (record { version = refl; shape = refl }) (easy_stays rest h easy)

    -- on another one it may commit
    pub posted_stays : (a b : ℕ) (rest : List Act) (s : Bare) → Easy rest → commits n k s.heads a b ≡ false → Stays s (acted (Post a b ∷ rest) s)
    posted_stays a b rest s easy e = let h = step bare_form n k s (Commit a b) in stays_then s h (acted rest h) (none (commits n k s.heads a b) e) (easy_stays rest h easy)
      where
        none : (c : Bool) → c ≡ false → Stays s (record (step bare_form n k s (Commit a b)) { flat = cond c (flat_after s a) s.flat })
        none true e = absurd (cc)
        none false e = record { version = refl; shape = refl }

    pub posted_becomes : (a b : ℕ) (rest : List Act) (s : Bare) → Easy rest → commits n k s.heads a b ≡ true → Becomes s (acted (Post a b ∷ rest) s) a
    posted_becomes a b rest s easy e = let h = step bare_form n k s (Commit a b) in becomes_then s h (acted rest h) a (made (commits n k s.heads a b) e) (easy_stays rest h easy)
      where
        made : (c : Bool) → c ≡ true → Becomes s (record (step bare_form n k s (Commit a b)) { flat = cond c (flat_after s a) s.flat }) a
        made true e = record { version = refl; shape = refl }
        made false e = absurd (cc)
