-- Which records agree, and what is promised of those above the flat version, as the machine of versions has it at the end of a log.
use Rattle.std.proofs.Common.{◌≡◌, ◌⊎◌, ℕ, zero, suc, ◌+◌, ◌<◌, ◌≤◌, Bool, true, false, cond, ◌==◌, ◌&&◌, Option, Some, None, refl, sym, ◌∙◌, ap, subst, arith, ⊎_elim}
use Rattle.std.proofs.lemmas.Bool.Decides.{nat_tests}
use Rattle.std.specs.Prelude.{nat_lt}
use Rattle.std.specs.Option.{option_map}
use Rattle.ec_attr.proofs.Sets.{count_in, count_none, count_out}
use Rattle.ec_attr.specs.Bricks.{count_below}
use Rattle.ec_attr.specs.Marks.{is_marked, stripped}
use Rattle.ec_conduct.specs.Given.{quorum}
use Rattle.ec_store.specs.Records.{Record}
use Rattle.ec_history.specs.Holds.{Copies, is_at_version, is_low as is_low_record}
use Rattle.ec_history.specs.Run.{fresh}
use Rattle.ec_law_base.specs.State.{Head as Seen, State}
use Rattle.ec_law_ballots.specs.Begin.{Standing, is_low}
use Rattle.ec_law_ballots.specs.Words.{head}
use Rattle.ec_law_pieces.specs.Laws.{first_heads}
use Rattle.ec_law_net.specs.Link.{IsHead}
use Rattle.ec_law_net.specs.Turns.{view}
use Rattle.ec_law_data.specs.Deeds.{file}
use Rattle.ec_law_data.specs.Laws.{begun, versions_begun}
use Rattle.ec_law_data.specs.Versions.{no_plans, of_versions}
use Rattle.ec_law_data.proofs.Cores.{log_heads}
use Rattle.ec_law_data.proofs.OrderlyDeeds.{linked_end}
use Rattle.ec_law_data.proofs.Versions.{commit_laws, flat_laws}
use Rattle.ec_law_parts.specs.Laws.{AlwaysInOneTurn}
use Rattle.ec_law_heads.specs.Laws.{AfterEveryLog, copies_after, flat_after}
use Rattle.ec_law_heads.specs.Heads.{ArePromised, NoOthersAgree}

split : (x y : ℕ) → (x < y) ⊎ (y ≤ x)
split x y = grind arith

pub alone : AfterEveryLog AlwaysInOneTurn NoOthersAgree
alone config records bricks tree next g es start runs plain orderly one v unmarked other =
    ⊎_elim (λ lt. lt) (λ enough. absurd (other (flat_laws.agree config records bricks tree next g es start runs plain orderly one v unmarked enough))) (split (count_below config.geometry.n (λ b. is_at_version v (copies_after es bricks g b))) (quorum config.geometry))

-- one set holds another among the first bricks
pub within : (p q : ℕ → Bool) (n : ℕ) → ((c : ℕ) → c < n → p c ≡ true → q c ≡ true) → count_below n p ≤ count_below n q
within p q zero h = rw (count_none, count_none) (omega arith)
within p q (suc n) h = pick (p n) (q n) refl refl (within p q n (λ c lt e. h c (omega (arith, lt)) e))
  where
    pick : (t u : Bool) → p n ≡ t → q n ≡ u → count_below n p ≤ count_below n q → count_below (suc n) p ≤ count_below (suc n) q
    pick true true e f le = rw (count_in n p e, count_in n q f) (omega (arith, le))
    pick true false e f le = let g = h n (omega arith) e in absurd (cc)
    pick false true e f le = rw (count_out n p e, count_in n q f) (omega (arith, le))
    pick false false e f le = rw (count_out n p e, count_out n q f) le

-- the machine has the heads of the bricks
module _ (n : ℕ) (copies : Copies) (s : State) (linked : (b : ℕ) → b < n → IsHead (option_map (λ r. r.head) (copies b)) s b) where
  seen_first : (b : ℕ) (r : Record) → b < n → copies b ≡ Some r → first_heads n s b ≡ record { present = true; version = stripped r.head.version.content; dirty = r.head.dirty.content; marked = is_marked r.head.version.content }
  seen_first b r lt is =
      let l = subst (λ (o : Option Record). IsHead (option_map (λ r. r.head) o) s b) is (linked b lt) in
      ap (λ (t : Bool). cond t (head s b) (record { present = false; version = 0; dirty = 0; marked = false })) (below (nat_lt b n) refl) ∙ same (s.present b) (s.version b) (s.dirty b) (s.marked b) l.0 l.1 l.3 l.2
    where
      below : (t : Bool) → nat_lt b n ≡ t → nat_lt b n ≡ true
      below true e = e
      below false e = absurd (grind (arith, nat_tests))

      same : (p : Bool) (v d : ℕ) (m : Bool) → p ≡ true → v ≡ stripped r.head.version.content → d ≡ r.head.dirty.content → m ≡ is_marked r.head.version.content → ◌≡◌ {A = Seen} (record { present = p; version = v; dirty = d; marked = m }) (record { present = true; version = stripped r.head.version.content; dirty = r.head.dirty.content; marked = is_marked r.head.version.content })
      same p v d m e f h i = rw (e, f, h, i) refl

  low : (v y b : ℕ) → b < n → is_low_record v y (copies b) ≡ true → is_low v y (first_heads n s b) ≡ true
  low v y b lt e = at (copies b) refl e
    where
      tests : (t u : Bool) → (t && u) ≡ true → (true && t && u) ≡ true
      tests t u h = h

      at : (o : Option Record) → copies b ≡ o → is_low_record v y o ≡ true → is_low v y (first_heads n s b) ≡ true
      at None h e = absurd (cc)
      at (Some r) h e = ap (λ (x : Seen). is_low v y x) (seen_first b r lt h) ∙ tests (stripped r.head.version.content == v) (nat_lt (v + r.head.dirty.content) y) e

  promised_by : (k v : ℕ) (fresh : Bool) → Standing n k v (first_heads n s) fresh → (b : ℕ) (r : Record) → b < n → copies b ≡ Some r → v < stripped r.head.version.content → count_below n (λ c. is_low_record v (stripped r.head.version.content) (copies c)) < k
  promised_by k v fresh stands b r lt is above =
      let here = seen_first b r lt is in
      let y = stripped r.head.version.content in
      let version = ap (λ (x : Seen). x.version) here in
      let few : count_below n (λ c. is_low v y (first_heads n s c)) < k = subst (λ (x : ℕ). count_below n (λ c. is_low v x (first_heads n s c)) < k) version (stands.few_low b (ap (λ (x : Seen). x.present) here) (subst (λ (x : ℕ). v < x) (sym version) above)) in
      let more = within (λ c. is_low_record v y (copies c)) (λ c. is_low v y (first_heads n s c)) n (λ c lt e. low v y c lt e) in
      below (count_below n (λ c. is_low_record v y (copies c))) (count_below n (λ c. is_low v y (first_heads n s c))) k more few
    where
      below : (x y z : ℕ) → x ≤ y → y < z → x < z
      below x y z le lt = omega (arith, le, lt)

pub promised : AfterEveryLog AlwaysInOneTurn ArePromised
promised config records bricks tree next g es start runs plain orderly one =
    let v = view g es (fresh bricks) (begun config records tree next g) in
    let f = file of_versions no_plans config.geometry.n (quorum config.geometry) g es (fresh bricks) (begun config records tree next g) (versions_begun config records tree g) in
    let heads = log_heads of_versions no_plans config.geometry.n (quorum config.geometry) g es (fresh bricks) (begun config records tree next g) (versions_begun config records tree g) refl in
    let linked = linked_end config records bricks tree next g es start runs plain orderly in
    let stand = (commit_laws.stand config records bricks tree next g es start runs plain orderly).standing in
    let same = flat_laws.same_version config records bricks tree next g es start runs plain orderly one in
    promised_by config.geometry.n (copies_after es bricks g) v.core linked.heads (quorum config.geometry) (flat_after config es bricks tree next g).version false
    (subst (λ (x : ℕ). Standing config.geometry.n (quorum config.geometry) x (first_heads config.geometry.n v.core) false) same (subst (λ (s : State). Standing config.geometry.n (quorum config.geometry) f.flat.version (first_heads config.geometry.n s) false) heads stand))
