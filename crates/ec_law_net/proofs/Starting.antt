-- Bricks that stand for a tree, and the machine that begins with them.
use Rattle.std.proofs.Common.{◌≡◌, ◌≢◌, ◌⊎◌, ℕ, ◌+◌, ◌<◌, ◌≤◌, Bool, true, false, not, cond, ◌==◌, ◌&&◌, nat_lt, Option, Some, None, List, refl, sym, ◌∙◌, ap, subst, arith, ⊎_elim}
use Rattle.std.proofs.lemmas.Bool.Decides.{nat_tests}
use Rattle.std.specs.Prelude.{is_some}
use Rattle.std.specs.Option.{option_map}
use Rattle.ec_conduct.specs.Given.{quorum}
use Rattle.ec_attr.specs.Bricks.{count_below}
use Rattle.ec_attr.specs.Marks.{is_marked, stripped}
use Rattle.ec_attr.specs.declared.config.Config.{Config}
use Rattle.ec_attr.specs.declared.head.Head.{Head}
use Rattle.ec_brick.specs.State.{State as Brick}
use Rattle.ec_history.specs.Flat.{Flat, Tree}
use Rattle.ec_history.specs.Holds.{Stands, is_at_version, is_low as is_low_record}
use Rattle.ec_history.specs.Run.{call_of, fresh}
use Rattle.ec_history.specs.Starts.{IsStart}
use Rattle.ec_law_base.specs.State.{Head as Seen}
use Rattle.ec_attr.specs.declared.kind.Domain.TheVariants.{Inode, Heal}
use Rattle.ec_attr.proofs.Sets.{place}
use Rattle.ec_locks.specs.declared.ask.Ask.{Ask as Asking}
use Rattle.ec_law_net.specs.Turns.{exclusive}
use Rattle.ec_law_base.proofs.Counts.{mono, some}
use Rattle.ec_law_ballots.specs.Begin.{begin, is_low, is_plain}
use Rattle.ec_store.specs.Records.{Record, Records, head_at}
use Rattle.ec_law_net.specs.Laws.{StartsLinked}
use Rattle.ec_law_net.specs.Link.{Below, IsHead, Linked}
use Rattle.ec_law_net.specs.Start.{BeginsLinked, first_heads, first_view, is_new, seen_head}

module _ (n : ℕ) (records : ℕ → Records) (g : ℕ) where
  -- a record that the machine begins with is a brick's
  pub found : (b : ℕ) → (first_heads n records g b).present ≡ true → (r : Record) × (b < n) × (records b g ≡ Some r) × (first_heads n records g b ≡ seen_head (Some r.head))
  found b e = at (nat_lt b n) refl (records b g) refl e
    where
      at : (t : Bool) → nat_lt b n ≡ t → (o : Option Record) → records b g ≡ o → (cond t (seen_head (option_map (λ r. r.head) o)) (seen_head None)).present ≡ true → (r : Record) × (b < n) × (records b g ≡ Some r) × (first_heads n records g b ≡ seen_head (Some r.head))
      at false f o h e = absurd (cc)
      at true f None h e = absurd (cc)
      at true f (Some r) h e = (r, grind (arith, nat_tests), h, rw (f, h) refl)

  few : (k : ℕ) (p : ℕ → Bool) → 0 < k → ((b : ℕ) → p b ≡ true → ⊥) → count_below n p < k
  few k p pos h = ⊎_elim (λ lt. lt) (λ le. let x = some p n (omega (arith, pos, le)) in absurd (h x.0 x.1)) (split (count_below n p) k)
    where
      split : (x y : ℕ) → (x < y) ⊎ (y ≤ x)
      split x y = grind arith

  -- an unmarked record that the machine begins with at version v
  plain : (b v : ℕ) → is_plain v (first_heads n records g b) ≡ true → (r : Record) × (b < n) × (records b g ≡ Some r) × (is_marked r.head.version.content ≡ false) × (r.head.version.content ≡ v)
  plain b v e =
      let o = found b (grind (arith, nat_tests)) in
      let f = subst (λ (x : Seen). is_plain v x ≡ true) o.3 e in
      (o.0, o.1, o.2, unmarked o.0.head.version.content v f, at o.0.head.version.content v (unmarked o.0.head.version.content v f) f)
    where
      unmarked : (x v : ℕ) → (not (is_marked x) && (stripped x == v)) ≡ true → is_marked x ≡ false
      unmarked x v e = grind (arith, nat_tests)

      same : (x : ℕ) → is_marked x ≡ false → stripped x ≡ x
      same x u = rw u refl

      at : (x v : ℕ) → is_marked x ≡ false → (not (is_marked x) && (stripped x == v)) ≡ true → x ≡ v
      at x v u e = sym (same x u) ∙ equal (stripped x) v (is_marked x) e
        where
          equal : (y v : ℕ) (t : Bool) → (not t && (y == v)) ≡ true → y ≡ v
          equal y v t e = grind (arith, nat_tests)

  low : (b v y : ℕ) → is_low v y (first_heads n records g b) ≡ true → is_low_record v y (records b g) ≡ true
  low b v y e =
      let o = found b (grind (arith, nat_tests)) in
      let f = subst (λ (x : Seen). is_low v y x ≡ true) o.3 e in
      subst (λ (x : Option Record). is_low_record v y x ≡ true) (sym o.2) (same (stripped o.0.head.version.content == v) (nat_lt (v + o.0.head.dirty.content) y) f)
    where
      same : (t u : Bool) → (true && t && u) ≡ true → (t && u) ≡ true
      same t u h = grind (arith, nat_tests)

  none_new : is_new n records g ≡ true → (b : ℕ) → b < n → records b g ≡ None
  none_new e b lt = at (records b g) refl
    where
      at : (o : Option Record) → records b g ≡ o → records b g ≡ None
      at None h = h
      at (Some r) h = absurd (let x = place n (λ c. is_some (records c g)) b lt (ap is_some h) in let y = x.1 in let z = zero_of (count_below n (λ c. is_some (records c g))) e in omega (arith, y, z))
        where
          zero_of : (x : ℕ) → (x == 0) ≡ true → x ≡ 0
          zero_of x e = grind (arith, nat_tests)

  absent_new : is_new n records g ≡ true → (b : ℕ) → (first_heads n records g b).present ≡ false
  absent_new e b = at (first_heads n records g b).present refl
    where
      at : (t : Bool) → (first_heads n records g b).present ≡ t → (first_heads n records g b).present ≡ false
      at false h = h
      at true h = absurd (let o = found b h in let x = sym o.2 ∙ none_new e b o.1 in cc)

  begun_head : (origin : ℕ) (new : Bool) (call : ℕ → ℕ) (b : ℕ) (o : Option Head) → first_heads n records g b ≡ seen_head o → IsHead o (begin n origin (first_heads n records g) new call) b
  begun_head origin new call b None e = ap (λ (x : Seen). x.present) e
  begun_head origin new call b (Some h) e = (ap (λ (x : Seen). x.present) e, ap (λ (x : Seen). x.version) e, ap (λ (x : Seen). x.marked) e, ap (λ (x : Seen). x.dirty) e)

  below_heads : (b : ℕ) → b < n → first_heads n records g b ≡ seen_head (head_at (records b) g)
  below_heads b lt = rw (is_below (nat_lt b n) refl) refl
    where
      is_below : (t : Bool) → nat_lt b n ≡ t → nat_lt b n ≡ true
      is_below true e = e
      is_below false e = absurd (grind (arith, nat_tests))

module _ (config : Config) (records : ℕ → Records) (bricks : ℕ → Brick) (tree : Tree) (next g : ℕ) (call : ℕ → ℕ) (pos : 0 < quorum config.geometry) (start : IsStart config records bricks tree next) where
  stands : Stands config (λ b. records b g) (tree g)
  stands = start.stand g

  few_alike : (v : ℕ) → v ≢ (tree g).version → count_below config.geometry.n (λ b. is_plain v (first_heads config.geometry.n records g b)) < quorum config.geometry
  few_alike v ne = at (is_marked v) refl
    where
      at : (t : Bool) → is_marked v ≡ t → count_below config.geometry.n (λ b. is_plain v (first_heads config.geometry.n records g b)) < quorum config.geometry
      at true e = few config.geometry.n records g (quorum config.geometry) (λ b. is_plain v (first_heads config.geometry.n records g b)) pos (λ b h. let o = plain config.geometry.n records g b v h in let x = sym o.3 ∙ (ap is_marked o.4 ∙ e) in absurd (cc))
      at false e =
          let more = mono (λ b. is_plain v (first_heads config.geometry.n records g b)) (λ b. is_at_version v (records b g)) config.geometry.n (λ b h. let o = plain config.geometry.n records g b v h in subst (λ (x : Option Record). is_at_version v x ≡ true) (sym o.2) (rw o.4 (same v))) in
          let fewer = stands.alone v e ne in
          omega (arith, more, fewer)
        where
          same : (x : ℕ) → (x == x) ≡ true
          same x = grind (arith, nat_tests)

  few_low : (b : ℕ) → (first_heads config.geometry.n records g b).present ≡ true → (tree g).version < (first_heads config.geometry.n records g b).version → count_below config.geometry.n (λ c. is_low (tree g).version (first_heads config.geometry.n records g b).version (first_heads config.geometry.n records g c)) < quorum config.geometry
  few_low b there above =
      let o = found config.geometry.n records g b there in
      let v = ap (λ (x : Seen). x.version) o.3 in
      let y = stripped o.0.head.version.content in
      let fewer = stands.promised b o.0 o.1 o.2 (subst (λ (x : ℕ). (tree g).version < x) v above) in
      let more = mono (λ c. is_low (tree g).version y (first_heads config.geometry.n records g c)) (λ c. is_low_record (tree g).version y (records c g)) config.geometry.n (λ c h. low config.geometry.n records g c (tree g).version y h) in
      subst (λ (x : ℕ). count_below config.geometry.n (λ c. is_low (tree g).version x (first_heads config.geometry.n records g c)) < quorum config.geometry) (sym v) (let f : count_below config.geometry.n (λ c. is_low (tree g).version y (first_heads config.geometry.n records g c)) < quorum config.geometry = omega (arith, more, fewer) in f)

  beyond : (b : ℕ) → config.geometry.n ≤ b → (first_heads config.geometry.n records g b).present ≡ false
  beyond b le = at (nat_lt b config.geometry.n) refl
    where
      at : (t : Bool) → nat_lt b config.geometry.n ≡ t → (first_heads config.geometry.n records g b).present ≡ false
      at false e = rw e refl
      at true e = absurd (grind (arith, nat_tests))

  linked_start : Linked config.geometry.n g (fresh bricks) (first_view config.geometry.n (tree g).version records g call next)
  linked_start = record {
    heads = λ b lt. subst (λ (m : Records). IsHead (head_at m g) (begin config.geometry.n (tree g).version (first_heads config.geometry.n records g) (is_new config.geometry.n records g) call) b) (sym (start.opened b lt).kept) (begun_head config.geometry.n records g (tree g).version (is_new config.geometry.n records g) call b (head_at (records b) g) (below_heads config.geometry.n records g b lt));
    removed = λ b lt. sym ((start.opened b lt).removed g);
    holders = λ b lt. subst (λ (asks : List Asking). ◌≡◌ {A = Option ℕ} None (option_map {T = ℕ} {U = ℕ} (λ i. 0) (exclusive g Inode asks))) (sym (start.opened b lt).unlocked) refl;
    healers = λ b lt. subst (λ (asks : List Asking). ◌≡◌ {A = Option ℕ} None (option_map {T = ℕ} {U = ℕ} (λ i. call_of None) (exclusive g Heal asks))) (sym (start.opened b lt).unlocked) refl;
    makers = λ b lt e. absurd (cc);
    kept = λ a. refl;
    shared = λ a b. refl;
    reading = λ a. refl;
    said = λ i msg e. absurd (cc);
    to = λ i msg q e. absurd (cc);
    asked = λ b lt. subst (Below 1) (sym (start.opened b lt).unlocked) tt;
    down = λ b lt e. record { asks = (start.opened b lt).unlocked; removed = (start.opened b lt).removed g };
  }

  begins : BeginsLinked config records bricks tree next g call
  begins = record {
    standing = record {
      few_alike = few_alike;
      few_low = few_low;
      beyond = beyond;
      none = λ e. (ap (λ (f : Flat). f.version) (start.elsewhere g (none_new config.geometry.n records g e)), absent_new config.geometry.n records g e);
    };
    linked = linked_start;
  }

pub starts_linked : StartsLinked
starts_linked config records bricks tree next g call pos start = begins config records bricks tree next g call pos start
