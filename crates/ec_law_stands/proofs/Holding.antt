-- What the bricks hold after every log of what the kind of a gfid has none of.
use Rattle.std.proofs.Common.{◌≡◌, ◌≢◌, ◌⊎◌, ℕ, ◌+◌, ◌*◌, ◌<◌, Bool, true, false, Option, Some, None, List, refl, sym, ◌∙◌, ap, arith, inl, inr}
use Rattle.ec_attr.specs.declared.config.Config.{Config}
use Rattle.ec_attr.specs.declared.kind.Kind.TheVariants.{Dir, File}
use Rattle.ec_brick.specs.State.{State as Brick}
use Rattle.ec_conduct.specs.Given.{quorum}
use Rattle.ec_field.proofs.Elements.{zero_is_chunk}
use Rattle.ec_field.specs.Chunk.{zero_chunk}
use Rattle.ec_history.specs.Flat.{Flat, Opener, Tree, blank, from_before, opened_before}
use Rattle.ec_history.specs.Flat.Opener.{Nobody, One, Several}
use Rattle.ec_history.specs.Holds.{HoldsCode, HoldsStripe}
use Rattle.ec_history.specs.IsRun.{IsRun}
use Rattle.ec_history.specs.Run.{fresh}
use Rattle.ec_history.specs.Starts.{IsStart}
use Rattle.ec_history.specs.Story.{opening}
use Rattle.ec_store.specs.Records.{Record, Records}
use Rattle.ec_stripe.specs.Span.{stripe_bytes}
use Rattle.ec_wire.specs.declared.entry.Entry.{Entry}
use Rattle.ec_law_net.specs.Start.{is_new}
use Rattle.ec_law_net.proofs.Starting.{starts_linked}
use Rattle.ec_law_turns.specs.Orderly.{ArePlain, IsOrderly}
use Rattle.ec_law_data.specs.Forms.{is_data, is_naming, zero_stripe}
use Rattle.ec_law_data.proofs.Directories.{no_record, positive}
use Rattle.ec_law_flats.specs.Plans.{AreBuilt}
use Rattle.ec_law_flats.specs.StripeLaws.{IsUnmarkedAt}
use Rattle.ec_law_heads.specs.Laws.{AlwaysOneKind, copies_after, flat_after}
use Rattle.ec_law_parts.specs.Laws.{AlwaysInOneTurn}
use Rattle.ec_law_reads.specs.Rows.{row_at}
use Rattle.ec_law_reads.proofs.Stripes.{stripe_laws}
use Rattle.ec_law_stands.specs.Others.{CodeStripes, HoldOthers, LeadNames}
use Rattle.ec_law_stands.proofs.Origins.{stood_there}
use Rattle.ec_law_stands.proofs.Sides.{Names, NamesKept, Pieces, StripesKept, names_of, names_side, no_names, pieces_of, stripes_side, touches_names, touches_stripes, zero_pieces}
use Rattle.ec_law_stands.proofs.Still.{part_in, still_after}
use Rattle.ec_law_stands.proofs.Zeros.{zero_byte, zero_code, zero_is_stripe, zero_stripe_byte}

some_number : (x y : ℕ) → Some x ≡ Some y → x ≡ y
some_number x y e = cc

-- what an opening leaves closed was closed
shut_before : (o : Opener) → opened_before o ≡ Nobody → o ≡ Nobody
shut_before Nobody e = refl
shut_before (One a) e = absurd (cc)
shut_before Several e = absurd (cc)

module _ (config : Config) (records : ℕ → Records) (bricks : ℕ → Brick) (tree : Tree) (next g : ℕ) (es : List Entry) (start : IsStart config records bricks tree next) (runs : IsRun config.geometry.n es (fresh bricks)) (plain : ArePlain es) (are_built : AreBuilt es) (orderly : IsOrderly config.geometry es (fresh bricks) (opening tree next)) (one_kind : AlwaysOneKind config records bricks tree next g es) (one_turn : AlwaysInOneTurn config records bricks tree next g es) where
  abbrev flat : Flat
  flat = flat_after config es bricks tree next g

  -- of a new gfid no brick had a record, and its flat file was blank
  none_had : is_new config.geometry.n records g ≡ true → (b : ℕ) → b < config.geometry.n → records b g ≡ None
  none_had e b lt = no_record config.geometry.n records g b lt (((starts_linked config records bricks tree next g (λ a. a) (positive config records bricks tree next g start) start).standing.none e).1 b)

  was_blank : is_new config.geometry.n records g ≡ true → tree g ≡ blank
  was_blank e = start.elsewhere g (none_had e)

  -- where an unmarked record at the flat version comes from
  abbrev Stood : ℕ → Type 0
  Stood b = (is_new config.geometry.n records g ≡ true) ⊎ ((r0 : Record) × (records b g ≡ Some r0) × (r0.head.version.content ≡ (tree g).version))

  -- ## Names

  abbrev first_names : Option Record → Names
  first_names o = part_in names_of no_names is_naming Dir touches_names NamesKept names_side o

  module _ (other : flat.kind ≢ Some Dir) where
    same_names : (b : ℕ) (r : Record) → b < config.geometry.n → copies_after es bricks g b ≡ Some r → r.names ≡ first_names (records b g)
    same_names b r lt is = (still_after names_of no_names is_naming Dir touches_names NamesKept names_side config records bricks tree next g es start runs plain are_built orderly one_kind other).parts_are b r lt is

    kept_names : NamesKept (from_before (tree g)) flat
    kept_names = (still_after names_of no_names is_naming Dir touches_names NamesKept names_side config records bricks tree next g es start runs plain are_built orderly one_kind other).flat_is

    lead_names : LeadNames config (copies_after es bricks g) flat
    lead_names b r name lt is unmarked at shut = ap (λ (f : Names). f name) (same_names b r lt is) ∙ by (stood_there config records bricks tree next g es start runs plain orderly one_turn b r lt is unmarked at)
      where
        by : Stood b → first_names (records b g) name ≡ flat.child name
        by (inl new) = ap (λ (o : Option Record). first_names o name) (none_had new b lt) ∙ (sym (ap (λ (y : Flat). y.child name) (was_blank new)) ∙ sym (kept_names.child name))
        by (inr z) = ap (λ (o : Option Record). first_names o name) z.1 ∙ ((start.stand g).content.names b z.0 name lt z.1 z.2 (kept_names.shut name shut) ∙ sym (kept_names.child name))

  -- ## Stripes

  abbrev first_pieces : Option Record → Pieces
  first_pieces o = part_in pieces_of zero_pieces is_data File touches_stripes StripesKept stripes_side o

  module _ (other : flat.kind ≢ Some File) where
    same_pieces : (b : ℕ) (r : Record) → b < config.geometry.n → copies_after es bricks g b ≡ Some r → r.piece ≡ first_pieces (records b g)
    same_pieces b r lt is = (still_after pieces_of zero_pieces is_data File touches_stripes StripesKept stripes_side config records bricks tree next g es start runs plain are_built orderly one_kind other).parts_are b r lt is

    kept_stripes : StripesKept (from_before (tree g)) flat
    kept_stripes = (still_after pieces_of zero_pieces is_data File touches_stripes StripesKept stripes_side config records bricks tree next g es start runs plain are_built orderly one_kind other).flat_is

    -- of a new gfid all is zero
    new_stripe : is_new config.geometry.n records g ≡ true → (s : ℕ) → HoldsStripe config.geometry (copies_after es bricks g) (IsUnmarkedAt flat.version) flat s
    new_stripe new s = record {
      stripe = zero_stripe (quorum config.geometry);
      is_stripe = zero_is_stripe (quorum config.geometry);
      bytes = λ i v lt known. zero_stripe_byte (quorum config.geometry) i lt ∙ some_number 0 v (sym (kept_stripes.byte (stripe_bytes (quorum config.geometry) * s + i) ∙ ap (λ (y : Flat). y.byte (stripe_bytes (quorum config.geometry) * s + i)) (was_blank new)) ∙ known);
      codes = λ b r lt is h. record {
        chunk = zero_chunk;
        piece = record { is_chunk = zero_is_chunk; bytes = λ i l. ap (λ (f : Pieces). f s i) (same_pieces b r lt is) ∙ (ap (λ (o : Option Record). first_pieces o s i) (none_had new b lt) ∙ ap {B = Option ℕ} (λ (x : ℕ). Some x) (sym (zero_byte i l))) };
        code = zero_code (quorum config.geometry) config.geometry.algorithm b (row_at (quorum config.geometry) config.geometry.algorithm b) (stripe_laws.row (quorum config.geometry) config.geometry.algorithm b (let h = config.geometry.most in omega (arith, h)) (let h = config.geometry.bricks in omega (arith, h, lt)));
      };
    }

    -- of another what the bricks held as the log began
    old_stripe : is_new config.geometry.n records g ≡ false → (s : ℕ) → (tree g).opener s ≡ Nobody → HoldsStripe config.geometry (copies_after es bricks g) (IsUnmarkedAt flat.version) flat s
    old_stripe old s closed =
        let x = (start.stand g).content.stripes s closed in record {
          stripe = x.stripe;
          is_stripe = x.is_stripe;
          bytes = λ i v lt known. x.bytes i v lt (sym (kept_stripes.byte (stripe_bytes (quorum config.geometry) * s + i)) ∙ known);
          codes = λ b r lt is h. by b r lt is (stood_there config records bricks tree next g es start runs plain orderly one_turn b r lt is h.0 h.1);
        }
      where
        by : (b : ℕ) (r : Record) → b < config.geometry.n → copies_after es bricks g b ≡ Some r → Stood b → HoldsCode config.geometry b r s ((start.stand g).content.stripes s closed).stripe
        by b r lt is (inl new) = absurd (let z = sym old ∙ new in cc)
        by b r lt is (inr z) =
            let c = ((start.stand g).content.stripes s closed).codes b z.0 lt z.1 z.2 in
            record { chunk = c.chunk; piece = record { is_chunk = c.piece.is_chunk; bytes = λ i l. ap (λ (f : Pieces). f s i) (same_pieces b r lt is ∙ ap first_pieces z.1) ∙ c.piece.bytes i l }; code = c.code }

    code_stripes : CodeStripes config (copies_after es bricks g) flat
    code_stripes s closed = by (is_new config.geometry.n records g) refl
      where
        by : (t : Bool) → is_new config.geometry.n records g ≡ t → HoldsStripe config.geometry (copies_after es bricks g) (IsUnmarkedAt flat.version) flat s
        by true e = new_stripe e s
        by false e = old_stripe e s (shut_before ((tree g).opener s) (kept_stripes.shut s closed))

  pub hold_others : HoldOthers config (copies_after es bricks g) (flat_after config es bricks tree next g)
  hold_others = record { names = lead_names; stripes = code_stripes }
