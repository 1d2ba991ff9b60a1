-- Roots that are put one after another.
use Rattle.std.proofs.Common.{◌≡◌, ◌≢◌, ⊎_elim, ℕ, ◌+◌, Bool, true, Some, None, List, map, sym, ◌∙◌, ap, subst, arith}
use Rattle.std.proofs.Math.ListN.{set}
use Rattle.std.proofs.lemmas.Option.{slice_get-map, slice_get_within}
use Rattle.std.specs.List.{list_all}
use Rattle.std.specs.Option.{option_map}
use Rattle.std.specs.Prelude.{slice_get}
use Rattle.ec_attr.specs.declared.config.Config.{Config}
use Rattle.ec_brick.specs.Index.{IndexIs}
use Rattle.ec_brick.specs.Opening.{rooted}
use Rattle.ec_brick.specs.State.{State, config_of, indexed, state}
use Rattle.ec_brick.specs.declared.brick.Brick.{Brick}
use Rattle.ec_store.specs.Records.{Records}
use Rattle.ec_cluster.proofs.Asking.{all_at, all_set, map_at}
use Rattle.ec_cluster.proofs.Saying.{either, set_at, set_get, set_off}
use Rattle.ec_cluster.specs.Open.{AreOpened, AreRooted, IsOpened}

module _ {S : Type 0} (told : S → Bool) (records : S → Records) (config : Config) (first stores : List S) (bricks : List Brick) (b : ℕ) (x y z : S) (old new : Brick) (is : slice_get stores b ≡ Some x) (start : slice_get first b ≡ Some z) (was : slice_get bricks b ≡ Some old) (tells : list_all told stores ≡ list_all told first) (told_same : told y ≡ told x) (now : (m : Records) → state new m ≡ state old m) (index : told x ≡ true → IndexIs (indexed old) (records x) → IndexIs (indexed new) (records y)) (put : told x ≡ true → records y ≡ rooted (config_of old) (records x)) where
  pub tells_rooted : list_all told (set stores b y) ≡ list_all told first
  tells_rooted = all_set told stores b x y is told_same ∙ tells

  told_at : list_all told first ≡ true → told x ≡ true
  told_at t = all_at told stores b x (tells ∙ t) is

  other : (c : ℕ) → c ≢ b → slice_get (map records (set stores b y)) c ≡ slice_get (map records stores) c
  other c n = slice_get-map records (set stores b y) c ∙ (ap (option_map records) (set_off stores b c y n) ∙ sym (slice_get-map records stores c))

  here : (r : Records) → slice_get (map records (set stores b y)) b ≡ Some r → r ≡ records y
  here r e = map_at records (set stores b y) b y r (set_at stores b y (slice_get_within stores b x is)) e

  pub opened_rooted : AreOpened (list_all told first ≡ true) config bricks (map records stores) → AreOpened (list_all told first ≡ true) config (set bricks b new) (map records (set stores b y))
  opened_rooted h = record {
    states = λ c k e. ⊎_elim
        (λ (p : (c ≡ b) × (k ≡ new)). subst (IsOpened config) (sym p.1) (λ m. now m ∙ h.states b old was m))
        (λ p. h.states c k p.1)
        (set_get bricks b c new k e);
    index = λ t c k r e stored. ⊎_elim
        (λ (p : (c ≡ b) × (k ≡ new)).
        let r_is : r ≡ records y = here r (ap (slice_get (map records (set stores b y))) (sym p.0) ∙ stored) in
        let before : IndexIs (indexed old) (records x) = h.index t b old (records x) was (slice_get-map records stores b ∙ ap (option_map records) is) in
        subst (λ (i : Brick). IndexIs (indexed i) r) (sym p.1) (subst (IndexIs (indexed new)) (sym r_is) (index (told_at t) before)))
        (λ p. h.index t c k r p.1 (sym (other c p.0) ∙ stored))
        (set_get bricks b c new k e);
  }

  config_is : AreOpened (list_all told first ≡ true) config bricks (map records stores) → config_of old ≡ config
  config_is h = ap (λ (s : State). s.config) (h.states b old was (λ g. None))

  pub roots_more : AreOpened (list_all told first ≡ true) config bricks (map records stores) → list_all told first ≡ true → AreRooted config b (map records first) (map records stores) → AreRooted config (b + 1) (map records first) (map records (set stores b y))
  roots_more o t h = record {
    first = λ c r q lt before after. ⊎_elim
        (λ (p : c ≡ b).
        let q_is : q ≡ records y = here q (ap (slice_get (map records (set stores b y))) (sym p) ∙ after) in
        let x_is : records x ≡ r = h.others b r (records x) (omega arith) (ap (slice_get (map records first)) (sym p) ∙ before) (slice_get-map records stores b ∙ ap (option_map records) is) in
        q_is ∙ (put (told_at t) ∙ (λ i. rooted (config_is o i) (x_is i))))
        (λ (p : c ≢ b). h.first c r q (omega arith) before (sym (other c p) ∙ after))
        (either c b);
    others = λ c r q le before after. let n : c ≢ b = (λ e. absurd (omega arith)) in h.others c r q (omega arith) before (sym (other c n) ∙ after);
  }

-- before the first root is put
pub roots_none : (config : Config) (records : List Records) → AreRooted config 0 records records
roots_none config records = record { first = λ c r q lt before after. absurd (omega arith); others = λ c r q le before after. (let h : Some q ≡ Some r = sym after ∙ before in cc) }
