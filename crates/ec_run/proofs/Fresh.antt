-- Stores without a record stand for an empty root as they were opened.
use Rattle.std.proofs.Common.{◌≡◌, ◌∙◌, inl, ℕ, ◌<◌, get_or, List, length, None, Option, Some, refl, sym, ap, subst, arith}
use Rattle.std.specs.Prelude.{slice_get}
use Rattle.ec_attr.proofs.Sets.{same_count}
use Rattle.ec_attr.specs.Marks.{stripped}
use Rattle.ec_attr.specs.declared.config.Config.{Config}
use Rattle.ec_brick.specs.Opening.{IsTaken, rooted}
use Rattle.ec_cluster.specs.Open.{AreUnused, opened, or_none}
use Rattle.ec_conduct.specs.Given.{quorum}
use Rattle.ec_history.specs.Flat.{Flat}
use Rattle.ec_history.specs.Holds.{Copies, Stands, is_at_version, is_low}
use Rattle.ec_history.specs.Laws.{HasRows, StartLaws}
use Rattle.ec_history.specs.Starts.{IsStart, fresh_records, root_tree}
use Rattle.ec_law_heads.specs.Restart.{RestartLaws}
use Rattle.ec_law_reads.specs.Rows.{row_at}
use Rattle.ec_law_reads.specs.Stripes.{StripeLaws}
use Rattle.ec_law_stands.specs.Laws.{BeginsWell, MayBegin}
use Rattle.ec_run.proofs.NextLemmas.{its_records, no_records}
use Rattle.ec_run.proofs.OfVolume.{are_of_volume}
use Rattle.ec_run.specs.Starts.{AreStarted}
use Rattle.ec_store.specs.Records.{Record, Records}

-- bricks stand as those do that have the same records
stands_same : (config : Config) (copies more : Copies) (flat : Flat) → ((b : ℕ) → b < config.geometry.n → more b ≡ copies b) → Stands config copies flat → Stands config more flat
stands_same config copies more flat same s = record {
  heads = λ b r lt is at. s.heads b r lt (sym (same b lt) ∙ is) at;
  content = record {
    stripes = λ p closed. let h = s.content.stripes p closed in record { stripe = h.stripe; is_stripe = h.is_stripe; bytes = h.bytes; codes = λ b r lt is at. h.codes b r lt (sym (same b lt) ∙ is) at };
    names = λ b r name lt is at closed. s.content.names b r name lt (sym (same b lt) ∙ is) at closed;
  };
  alone = λ v plain other. subst (λ (z : ℕ). z < quorum config.geometry) (sym (same_count config.geometry.n (λ b. is_at_version v (more b)) (λ b. is_at_version v (copies b)) (λ b lt. ap (is_at_version v) (same b lt)))) (s.alone v plain other);
  promised = λ b r lt is above.
      let y = stripped r.head.version.content in
      subst (λ (z : ℕ). z < quorum config.geometry) (sym (same_count config.geometry.n (λ c. is_low flat.version y (more c)) (λ c. is_low flat.version y (copies c)) (λ c l. ap (is_low flat.version y) (same c l)))) (s.promised b r lt (sym (same b lt) ∙ is) above);
  bounded = λ b r lt is. s.bounded b r lt (sym (same b lt) ∙ is);
  kinds = λ b r lt is. s.kinds b r lt (sym (same b lt) ∙ is);
}

module _ (starts : StartLaws) (stripes : StripeLaws) (restart : RestartLaws) (fresh_well : (config : Config) → BeginsWell config (fresh_records config) root_tree) (config : Config) (before started : List Records) (there : length before ≡ config.geometry.n) (many : length started ≡ config.geometry.n) (are : AreStarted config config.geometry.n before started) (none : (b g : ℕ) (m : Records) → b < config.geometry.n → slice_get before b ≡ Some m → m g ≡ None) where
  rows : HasRows config.geometry
  rows b lt =
      let row = stripes.row (quorum config.geometry) config.geometry.algorithm b (let h = config.geometry.most in omega (arith, h)) (let h = config.geometry.bricks in omega (arith, h, lt)) in
      (row_at (quorum config.geometry) config.geometry.algorithm b, row.bytes, row.is_row)

  no_record : (r : Record) → None ≡ Some r → ⊥
  no_record r e = absurd (cc)

  unused : AreUnused config config.geometry.n before
  unused b m lt is g r has = absurd (no_record r (sym (none b g m lt is) ∙ has))

  rooted_none : (m : Records) → ((g : ℕ) → m g ≡ None) → rooted config m ≡ rooted config (λ g. None)
  rooted_none m e = ap (rooted config) (λ k g. e g k)

  abbrev records : ℕ → Records
  records b = (opened config started b).records

  are_fresh : (b : ℕ) → b < config.geometry.n → records b ≡ fresh_records config b
  are_fresh b lt =
      let was = its_records before b (omega (arith, lt, there)) in
      let now = its_records started b (omega (arith, lt, many)) in
      ap or_none now ∙ ((are.roots unused).first b (get_or before b no_records) (get_or started b no_records) lt was now ∙ rooted_none (get_or before b no_records) (λ g. none b g (get_or before b no_records) lt was))

  begins : IsStart config (fresh_records config) (opened config started) root_tree 2
  begins = starts.starts config (opened config started) rows (λ b lt. record { of_volume = refl; kept = are_fresh b lt; up = refl; unlocked = refl; removed = λ g. refl })

  start : IsStart config records (opened config started) root_tree 2
  start = record {
    opened = λ b lt. record { of_volume = refl; kept = refl; up = refl; unlocked = refl; removed = λ g. refl };
    stand = λ g. stands_same config (λ b. fresh_records config b g) (λ b. records b g) (root_tree g) (λ b lt. ap (λ (m : Records). m g) (are_fresh b lt)) (begins.stand g);
    elsewhere = λ g nowhere. begins.elsewhere g (λ b lt. sym (ap (λ (m : Records). m g) (are_fresh b lt)) ∙ nowhere b lt);
    next_gfid = record {
      above = λ b g lt taken. begins.next_gfid.above b g lt (subst (λ (m : Records). IsTaken m g) (are_fresh b lt) taken);
      least = inl refl;
      not_root = begins.next_gfid.not_root;
    };
  }

  pub stand_fresh : MayBegin config records (opened config started) root_tree 2
  stand_fresh = record {
    start = start;
    well = record {
      of_volume = are_of_volume restart config before started there many are root_tree;
      zeros = (fresh_well config).zeros;
      unmarked = (fresh_well config).unmarked;
    };
  }
