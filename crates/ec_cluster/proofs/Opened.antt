-- Stores that are opened one after another.
use Rattle.std.proofs.Common.{◌≡◌, ◌≢◌, ◌⊎◌, inl, inr, ⊎_elim, ℕ, ◌+◌, ◌<◌, ◌≤◌, ◌^◌, Bool, true, false, ◌&&◌, Option, Some, None, List, [], ◌∷◌, ◌++◌, length, map, refl, sym, ◌∙◌, ap, subst, arith}
use Rattle.std.proofs.Math.ListN.{set}
use Rattle.std.proofs.lemmas.Option.{slice_get-map}
use Rattle.std.specs.List.{list_all}
use Rattle.std.specs.Option.{is_none, option_map}
use Rattle.std.specs.Prelude.{slice_get, IfSome, Result, Ok, Err, if◌then◌else◌}
use Rattle.std.specs.Result.{is_err, is_ok}
use Rattle.ec_attr.specs.declared.config.Config.{Config}
use Rattle.ec_attr.specs.declared.gfid.Gfid.{Gfid}
use Rattle.ec_brick.specs.Index.{IndexIs}
use Rattle.ec_brick.specs.Opening.{AcceptsAll, IsStartFault, IsTaken, IsUnused, Opens}
use Rattle.ec_brick.specs.State.{fresh, indexed, state}
use Rattle.ec_brick.specs.declared.brick.Brick.{Brick}
use Rattle.ec_store.specs.Records.{Record, Records}
use Rattle.ec_cluster.proofs.Asking.{all_at, all_set, map_set}
use Rattle.ec_cluster.proofs.Saying.{either, got}
use Rattle.ec_brick.specs.declared.start_fault.StartFault.{StartFault}
use Rattle.ec_cluster.proofs.Unused.{after_more, unused_more}
use Rattle.ec_cluster.specs.Open.{AreAccepted, AreOpened, IsAfterTaken, IsFaultOf, IsOpened, IsNextGfid, TellsUnused}

pub state_of : (k : Brick) (config : Config) → state k (λ g. None) ≡ fresh config → IsOpened config k
state_of k config e m = (λ i. record { config = (e i).config; records = m; up = (e i).up; asks = (e i).asks; removed = (e i).removed })

-- one brick more
pub opened_more : (Told : Type 0) (config : Config) (bricks : List Brick) (records : List Records) (k : Brick) (r : Records) → AreOpened Told config bricks records → slice_get records (length bricks) ≡ Some r → IsOpened config k → (Told → IndexIs (indexed k) r) → AreOpened Told config (bricks ++ k ∷ []) records
opened_more Told config bricks records k r h at is index = record {
  states = λ b x e. ⊎_elim (λ p. h.states b x p) (λ (p : (b ≡ length bricks) × (x ≡ k)). subst (IsOpened config) (sym p.1) is) (got bricks k b x e);
  index = λ told b x q e stored. ⊎_elim
      (λ p. h.index told b x q p stored)
      (λ (p : (b ≡ length bricks) × (x ≡ k)). let q_is : r ≡ q = (let w : Some r ≡ Some q = sym at ∙ (ap (slice_get records) (sym p.0) ∙ stored) in cc) in subst (λ (y : Brick). IndexIs (indexed y) q) (sym p.1) (subst (IndexIs (indexed k)) q_is (index told)))
      (got bricks k b x e);
}

-- the next gfid, after a store in which no gfid at or above it is taken
pub next_more : (Told : Type 0) (n : ℕ) (records : List Records) (next more : ℕ) (r : Records) → IsNextGfid Told n records next → slice_get records n ≡ Some r → next ≤ more → more ≤ 2 ^ 96 + 1 → (Told → (g : ℕ) → IsTaken r g → g < more) → IsNextGfid Told (n + 1) records more
next_more Told n records next more r h at le most below = record {
  least = (let l = h.least in omega arith);
  most = most;
  above = λ told b x g lt stored taken. ⊎_elim
      (λ (p : b ≡ n). let x_is : x ≡ r = (let w : Some x ≡ Some r = sym stored ∙ (ap (slice_get records) p ∙ at) in cc) in below told g (subst (λ (y : Records). IsTaken y g) x_is taken))
      (λ (p : b ≢ n). let k = h.above told b x g (omega arith) stored taken in omega arith)
      (either b n);
}

-- an unused store has the root alone, and names lead nowhere
unused_taken : (config : Config) (r : Records) → IsUnused config r → (g : ℕ) → IsTaken r g → g ≡ 1
unused_taken config r u g (inl x) = go (r g) refl
  where
    go : (o : Option Record) → r g ≡ o → g ≡ 1
    go None e = absurd (x e)
    go (Some q) e = (u g q e).0
unused_taken config r u g (inr x) = absurd (let none = (u x.1.0 x.1.1 x.1.4).2 x.1.2 in let some = x.1.6 in cc)

pub taken_below : (config : Config) (r : Records) (last : Option Gfid) (more : ℕ) → Opens config r last → 2 ≤ more → IfSome last (λ g. g.0 < more) → (g : ℕ) → IsTaken r g → g < more
taken_below config r None more u two lt g t = (let e = unused_taken config r u g t in omega arith)
taken_below config r (Some last) more o two lt g t = (let h = o.2 g t in omega arith)

accepted_more : (config : Config) (n : ℕ) (records : List Records) (r : Records) → slice_get records n ≡ Some r → AcceptsAll config r → AreAccepted config n records → AreAccepted config (n + 1) records
accepted_more config n records r at a h b q lt stored = ⊎_elim
    (λ (p : b ≡ n). let q_is : r ≡ q = (let w : Some r ≡ Some q = sym at ∙ (ap (slice_get records) (sym p) ∙ stored) in cc) in subst (AcceptsAll config) q_is a)
    (λ (p : b ≢ n). h b q (omega arith) stored)
    (either b n)

-- one store more
module _ {S : Type 0} (told : S → Bool) (records : S → Records) (config : Config) (first stores : List S) (b : ℕ) (x y z : S) (is : slice_get stores b ≡ Some x) (was : slice_get first b ≡ Some z) (tells : list_all told stores ≡ list_all told first) (same : list_all told first ≡ true → map records stores ≡ map records first) (told_same : told y ≡ told x) (kept : told x ≡ true → records y ≡ records x) where
  pub tells_more : list_all told (set stores b y) ≡ list_all told first
  tells_more = all_set told stores b x y is told_same ∙ tells

  pub told_at : list_all told first ≡ true → told x ≡ true
  told_at t = all_at told stores b x (tells ∙ t) is

  pub same_more : list_all told first ≡ true → map records (set stores b y) ≡ map records first
  same_more t = map_set records stores b x y is (kept (told_at t)) ∙ same t

  at_first : slice_get (map records first) b ≡ Some (records z)
  at_first = slice_get-map records first b ∙ ap (option_map records) was

  records_same : list_all told first ≡ true → records x ≡ records z
  records_same t = (let h : Some (records x) ≡ Some (records z) = sym (slice_get-map records stores b ∙ ap (option_map records) is) ∙ (ap (λ l. slice_get l b) (same t) ∙ at_first) in cc)

  pub opened_one : (bricks : List Brick) (k : Brick) → length bricks ≡ b → AreOpened (list_all told first ≡ true) config bricks (map records first) → IsOpened config k → (told x ≡ true → IndexIs (indexed k) (records x)) → AreOpened (list_all told first ≡ true) config (bricks ++ k ∷ []) (map records first)
  opened_one bricks k n h o index = opened_more (list_all told first ≡ true) config bricks (map records first) k (records z) h (ap (slice_get (map records first)) n ∙ at_first) o (λ t. subst (IndexIs (indexed k)) (records_same t) (index (told_at t)))

  pub next_one : (next more : ℕ) (last : Option Gfid) → IsNextGfid (list_all told first ≡ true) b (map records first) next → next ≤ more → more ≤ 2 ^ 96 + 1 → IfSome last (λ g. g.0 < more) → (told x ≡ true → Opens config (records x) last) → IsNextGfid (list_all told first ≡ true) (b + 1) (map records first) more
  next_one next more last h le most above o = next_more (list_all told first ≡ true) b (map records first) next more (records z) h at_first le most (λ t g k. let two : 2 ≤ more = (let l = h.least in omega arith) in taken_below config (records z) last more (subst (λ (r : Records). Opens config r last) (records_same t) (o (told_at t))) two above g k)

  pub after_one : (next more : ℕ) (last : Option Gfid) → (told x ≡ true → Opens config (records x) last) → (last ≡ None → more ≡ next) → IfSome last (λ g. (more ≡ next) ⊎ (more ≡ g.0 + 1)) → (list_all told first ≡ true → IsAfterTaken b (map records first) next) → list_all told first ≡ true → IsAfterTaken (b + 1) (map records first) more
  after_one next more last o none step h t = after_more config b (map records first) next more (records z) last at_first (subst (λ (r : Records). Opens config r last) (records_same t) (o (told_at t))) none step (h t)

  pub unused_one : (flag : Bool) (last : Option Gfid) → (told x ≡ true → Opens config (records x) last) → (list_all told first ≡ true → TellsUnused config b (map records first) flag) → list_all told first ≡ true → TellsUnused config (b + 1) (map records first) (flag && is_none last)
  unused_one flag last o h t = unused_more config b (map records first) flag (records z) last at_first (subst (λ (r : Records). Opens config r last) (records_same t) (o (told_at t))) (h t)

  pub accepted_one : (told x ≡ true → AcceptsAll config (records x)) → (list_all told first ≡ true → AreAccepted config b (map records first)) → list_all told first ≡ true → AreAccepted config (b + 1) (map records first)
  accepted_one a h t = accepted_more config b (map records first) (records z) at_first (subst (AcceptsAll config) (records_same t) (a (told_at t))) (h t)

  pub fault_one : (fault : StartFault) → (told x ≡ true → IsStartFault config (records x) fault) → list_all told first ≡ true → IsFaultOf config (map records first) (b, fault)
  fault_one fault h t r at = let r_is : r ≡ records z = (let w : Some r ≡ Some (records z) = sym at ∙ at_first in cc) in subst (λ (q : Records). IsStartFault config q fault) (records_same t ∙ sym r_is) (h (told_at t))

pub pushed : {T E X : Type 0} (r : Result T E) (new a b : X) → new ≡ (if is_ok r then a else b) → is_err r ≡ false → new ≡ a
pushed (Ok x) new a b e h = e
pushed (Err x) new a b e h = absurd cc
