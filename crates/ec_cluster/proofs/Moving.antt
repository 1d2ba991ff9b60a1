-- A step in which one brick changes and asks no store.
use Rattle.std.proofs.Common.{◌≡◌, ⊎_elim, ℕ, ◌<◌, Bool, true, false, Option, Some, None, List, [], ◌∷◌, ◌++◌, length, refl, sym, ◌∙◌, ap, subst, arith, length-set}
use Rattle.std.proofs.Math.ListN.{get_or, set}
use Rattle.std.proofs.lemmas.Option.{slice_get_cases, slice_get_read, slice_get_within}
use Rattle.std.specs.List.{All}
use Rattle.std.specs.Prelude.{slice_get}
use Rattle.ec_brick.specs.Known.{IsKnownState}
use Rattle.ec_brick.specs.KnownLaws.{KnownLaws}
use Rattle.ec_brick.specs.State.{State, asks_of, indexed, is_up, state}
use Rattle.ec_brick.specs.Step.{started, stopped}
use Rattle.ec_brick.specs.declared.brick.Brick.{Brick}
use Rattle.ec_history.specs.Run.{Net, Owed, with_brick}
use Rattle.ec_store.specs.Records.{Records}
use Rattle.ec_wire.specs.declared.entry.Entry.{Entry}
use Rattle.ec_wire.specs.declared.entry.Entry.TheVariants.{Stopped, Returned}
use Rattle.ec_wire.specs.declared.message.Message.{Message}
use Rattle.ec_cluster.proofs.Advancing.{matches_as, sound_as}
use Rattle.ec_cluster.proofs.Matching.{matches_brick, records_at}
use Rattle.ec_cluster.proofs.Saying.{said_more, set_at, set_get, set_off}
use Rattle.ec_cluster.proofs.Soundness.{sound_bricks, sound_quiet}
use Rattle.ec_cluster.specs.Matches.{IsBrick, Matches, MatchesOf}
use Rattle.ec_cluster.specs.Said.{said_in}
use Rattle.ec_cluster.specs.Sound.{IsAsked, IsSound}
use Rattle.ec_cluster.specs.Steps.{Advances, Always, Keeps}
use Rattle.ec_cluster.specs.Views.{bricks_of, flight, is_brick_up, is_up_at, log_of, next_of, places_of, size_of}
use Rattle.ec_cluster.specs.declared.cluster.Cluster.{Cluster}

-- one brick is another, and there is an entry more
pub record Moves (s t : Cluster) (b : ℕ) (new : Brick) (e : Entry) : Type 0 where
  pub bricks : bricks_of t ≡ set (bricks_of s) b new
  pub flies : flight t ≡ flight s
  pub next : next_of t ≡ next_of s
  pub log : log_of t ≡ log_of s ++ e ∷ []
  pub places : places_of t ≡ places_of s

pub size_moved : (s t : Cluster) (b : ℕ) (new : Brick) (e : Entry) → Moves s t b new e → size_of t ≡ size_of s
size_moved s t b new e h = ap (λ (l : List Brick). length l) h.bricks ∙ length-set (bricks_of s) b new

pub moved : (s t : Cluster) (b : ℕ) (new : Brick) (e : Entry) → Moves s t b new e → Keeps s t b
moved s t b new e h = record { next = h.next; flies = h.flies; others = λ x n. (λ i. slice_get (h.bricks i) x) ∙ set_off (bricks_of s) b x new n }

-- the lock tables stay of asks that were sent
asks_moved : (all : List Brick) (said : ℕ → Option Message) (b : ℕ) (new : Brick) → ((c : ℕ) (k : Brick) → slice_get all c ≡ Some k → All (IsAsked said c) (asks_of k)) → All (IsAsked said b) (asks_of new) → (c : ℕ) (k : Brick) → slice_get (set all b new) c ≡ Some k → All (IsAsked said c) (asks_of k)
asks_moved all said b new h a c k e = ⊎_elim (λ (p : (c ≡ b) × (k ≡ new)). subst (λ x. All (IsAsked said x) (asks_of k)) (sym p.0) (subst (λ (x : Brick). All (IsAsked said b) (asks_of x)) (sym p.1) a)) (λ p. h c k p.1) (set_get all b c new k e)

pub sound_moved : (s t : Cluster) (b : ℕ) (new : Brick) (e : Entry) → IsSound s → Moves s t b new e → said_in (log_of s ++ e ∷ []) ≡ said_in (log_of s) → All (IsAsked (said_in (log_of s)) b) (asks_of new) → IsSound t
sound_moved s t b new e h v q a = sound_as _ _ _ _ _ _ _ _ _ _ v.bricks v.flies v.next v.log v.places (sound_quiet (set (bricks_of s) b new) (flight s) (next_of s) (log_of s) (places_of s) e (sound_bricks (bricks_of s) (flight s) (next_of s) (log_of s) (places_of s) (set (bricks_of s) b new) h (length-set (bricks_of s) b new) (asks_moved (bricks_of s) (said_in (log_of s)) b new h.asks a)) q)

-- the records stay, and the brick's state is another, also where less is known
module _ (s t : Cluster) (b : ℕ) (old new : Brick) (e : Entry) (f : State → State) (sound : IsSound s) (was : slice_get (bricks_of s) b ≡ Some old) (v : Moves s t b new e) (q : said_in (log_of s ++ e ∷ []) ≡ said_in (log_of s)) (now : (r : Records) → state new r ≡ f (state old r)) (index : indexed new ≡ indexed old) (keeps : (x y : State) → IsKnownState x y → IsKnownState (f x) (f y)) where
  pub same_up : (records : List Records) (m : Net) → Matches s records m → (m.brick b).up ≡ is_up old
  same_up records m k = let r = records_at (bricks_of s) (flight s) (next_of s) (log_of s) records [] m b old k was in sym (k.bricks b old r.0 was r.1).known.same_up

  pub matches_moved : (records : List Records) (owed left : List Owed) (m : Net) → Matches s records m → left ≡ owed → MatchesOf (bricks_of t) (flight t) (next_of t) (log_of t) records owed (record (with_brick m b (f (m.brick b))) { owed = left })
  matches_moved records owed left m k same = matches_as _ _ _ _ _ _ _ _ records owed _ v.bricks v.flies v.next v.log
      (matches_brick (bricks_of s) (flight s) (next_of s) (log_of s) records (set (bricks_of s) b new) records m (record (with_brick m b (f (m.brick b))) { owed = left }) b (f (m.brick b)) (flight s) e owed k q
      (λ c n. (set_off (bricks_of s) b c new n, refl))
      (λ x r at stored.
      let is : x ≡ new = (let h = sym at ∙ set_at (bricks_of s) b new (slice_get_within (bricks_of s) b old was) in cc) in
      let old_is = k.bricks b old r was stored in
      subst (λ (y : Brick). IsBrick (f (m.brick b)) y r) (sym is) (record { known = subst (IsKnownState (f (m.brick b))) (sym (now r)) (keeps (m.brick b) (state old r) old_is.known); index = λ g. (λ i. index i g) ∙ old_is.index g }))
      refl refl k.flies refl same (k.stores ∙ sym (length-set (bricks_of s) b new)))

none_asked : (said : ℕ → Option Message) (b : ℕ) → All (IsAsked said b) []
none_asked said b = λ i a lt. absurd (omega arith)

pub stops : (laws : KnownLaws) (s t : Cluster) (b : ℕ) (old new : Brick) → IsSound s → slice_get (bricks_of s) b ≡ Some old → is_up old ≡ true → ((r : Records) → state new r ≡ stopped (state old r)) → indexed new ≡ indexed old → Moves s t b new (Stopped b) → Advances Always s t (Stopped b ∷ [])
stops laws s t b old new sound was up now index v =
    let q = said_more (log_of s) (Stopped b) in
    let asks : asks_of new ≡ [] = ap (λ (x : State). x.asks) (now (λ g. None)) in record {
      log = v.log;
      size = size_moved s t b new (Stopped b) v;
      sound = sound_moved s t b new (Stopped b) sound v q (subst (All (IsAsked (said_in (log_of s)) b)) (sym asks) (none_asked (said_in (log_of s)) b));
      runs = λ records m k given. (
        ((slice_get_within (bricks_of s) b old was, same_up s t b old new (Stopped b) stopped sound was v q now index laws.stops records m k ∙ up, k.owes), tt),
        matches_moved s t b old new (Stopped b) stopped sound was v q now index laws.stops records [] m.owed m k k.owes,
      );
    }

pub starts : (laws : KnownLaws) (s t : Cluster) (b : ℕ) (old new : Brick) → IsSound s → slice_get (bricks_of s) b ≡ Some old → is_up old ≡ false → ((r : Records) → state new r ≡ started (state old r)) → indexed new ≡ indexed old → Moves s t b new (Returned b) → Advances Always s t (Returned b ∷ [])
starts laws s t b old new sound was up now index v =
    let q = said_more (log_of s) (Returned b) in
    let asks : asks_of new ≡ asks_of old = ap (λ (x : State). x.asks) (now (λ g. None)) in record {
      log = v.log;
      size = size_moved s t b new (Returned b) v;
      sound = sound_moved s t b new (Returned b) sound v q (subst (All (IsAsked (said_in (log_of s)) b)) (sym asks) (sound.asks b old was));
      runs = λ records m k given. (
        ((slice_get_within (bricks_of s) b old was, same_up s t b old new (Returned b) started sound was v q now index laws.starts records m k ∙ up, k.owes), tt),
        matches_moved s t b old new (Returned b) started sound was v q now index laws.starts records [] m.owed m k k.owes,
      );
    }

-- whether the brick is up after it
pub up_after : (s : Cluster) (i b : ℕ) (old new : Brick) (up : Bool) → i ≡ b → slice_get (bricks_of s) b ≡ Some old → is_up new ≡ up → is_brick_up (slice_get (set (bricks_of s) i new) b) ≡ up
up_after s i b old new up e was is = ap is_brick_up ((λ k. slice_get (set (bricks_of s) (e k) new) b) ∙ set_at (bricks_of s) b new (slice_get_within (bricks_of s) b old was)) ∙ is

pub there : (s : Cluster) (b : ℕ) → is_up_at s b ≡ true → b < size_of s
there s b up = ⊎_elim (λ p. p.1) (λ p. absurd (let h : false ≡ true = sym (ap is_brick_up p.1) ∙ up in cc)) (slice_get_cases (bricks_of s) b).1

pub brick_is : (s : Cluster) (i b : ℕ) (old : Brick) → b < size_of s → i ≡ b → old ≡ get_or (bricks_of s) i old → slice_get (bricks_of s) b ≡ Some old
brick_is s i b old lt e is = slice_get_read (bricks_of s) (length (bricks_of s)) b old refl lt (is ∙ ap (λ j. get_or (bricks_of s) j old) e)

pub up_is : (s : Cluster) (b : ℕ) (old : Brick) (up : Bool) → slice_get (bricks_of s) b ≡ Some old → is_up_at s b ≡ up → is_up old ≡ up
up_is s b old up was e = sym (ap is_brick_up was) ∙ e
