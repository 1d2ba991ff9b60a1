-- A brick executes a request over its store, and the others are as before.
use Rattle.std.proofs.Common.{◌≡◌, ◌≢◌, ℕ, zero, suc, Bool, true, false, ◌&&◌, Some, List, [], ◌∷◌, length, map, refl, sym, ◌∙◌, ap, subst, length-set}
use Rattle.std.proofs.Math.ListN.{set}
use Rattle.std.proofs.lemmas.List.{length-map}
use Rattle.std.proofs.lemmas.Option.{slice_get-map, slice_get_within}
use Rattle.std.specs.List.{list_all}
use Rattle.std.specs.Option.{option_map}
use Rattle.std.specs.Prelude.{slice_get, slice_index, Result, Ok, Err, IfOk, IfSome, OnErr}
use Rattle.std.specs.declared.alloc.AllocError.{AllocError}
use Rattle.ec_brick.specs.Fit.{IsFitReply}
use Rattle.ec_brick.specs.Index.{IndexIs}
use Rattle.ec_brick.specs.Meets.{IsFencedOff, Meets, MeetsLocks, failing_of, is_fault}
use Rattle.ec_brick.specs.Rows.{fence, row_of}
use Rattle.ec_brick.specs.State.{asks_of, indexed, state}
use Rattle.ec_brick.specs.Step.{Failing, step}
use Rattle.ec_brick.specs.declared.brick.Brick.{Brick}
use Rattle.ec_brick.specs.declared.effects.Effects.{Effects}
use Rattle.ec_brick.specs.declared.row.Row.{Row}
use Rattle.ec_store.specs.Causes.{Rose}
use Rattle.ec_store.specs.Records.{Records}
use Rattle.ec_wire.specs.declared.message.Message.{Message}
use Rattle.ec_wire.specs.declared.reply.Reply.{Reply}
use Rattle.ec_wire.specs.declared.request.Request.{Request}
use Rattle.ec_cluster.proofs.Saying.{set_at, set_off}
use Rattle.ec_cluster.specs.Inner.{AsksBrick}
use Rattle.ec_cluster.specs.Views.{bricks_of}
use Rattle.ec_cluster.specs.declared.cluster.Cluster.{Cluster}

pub all_set : {X : Type 0} (p : X → Bool) (xs : List X) (i : ℕ) (x y : X) → slice_get xs i ≡ Some x → p y ≡ p x → list_all p (set xs i y) ≡ list_all p xs
all_set p [] i x y e h = refl
all_set p (z ∷ xs) zero x y e h = let z_is : z ≡ x = cc in ap (λ b. b && list_all p xs) (h ∙ ap p (sym z_is))
all_set p (z ∷ xs) (suc i) x y e h = ap (λ b. p z && b) (all_set p xs i x y e h)

pub map_set : {X Y : Type 0} (f : X → Y) (xs : List X) (i : ℕ) (x y : X) → slice_get xs i ≡ Some x → f y ≡ f x → map f (set xs i y) ≡ map f xs
map_set f [] i x y e h = refl
map_set f (z ∷ xs) zero x y e h = let z_is : z ≡ x = cc in ap (λ b. b ∷ map f xs) (h ∙ ap f (sym z_is))
map_set f (z ∷ xs) (suc i) x y e h = ap (λ b. f z ∷ b) (map_set f xs i x y e h)

and_left : (a b : Bool) → (a && b) ≡ true → a ≡ true
and_left true b e = refl
and_left false b e = e

pub and_right : (a b : Bool) → (a && b) ≡ true → b ≡ true
and_right true b e = e
and_right false b e = absurd cc

pub all_at : {X : Type 0} (p : X → Bool) (xs : List X) (i : ℕ) (x : X) → list_all p xs ≡ true → slice_get xs i ≡ Some x → p x ≡ true
all_at p [] i x h e = absurd cc
all_at p (z ∷ xs) zero x h e = let z_is : z ≡ x = cc in ap p (sym z_is) ∙ and_left (p z) (list_all p xs) h
all_at p (z ∷ xs) (suc i) x h e = all_at p xs i x (and_right (p z) (list_all p xs) h) e

pub map_at : {X Y : Type 0} (f : X → Y) (xs : List X) (i : ℕ) (x : X) (y : Y) → slice_get xs i ≡ Some x → slice_get (map f xs) i ≡ Some y → y ≡ f x
map_at f xs i x y e h = (let k : Some y ≡ Some (f x) = sym h ∙ (slice_get-map f xs i ∙ ap (option_map f) e) in cc)

pub map_index : {X : Type 0} (f : X → ℕ) (xs : List X) (i : ℕ) (x : X) → slice_get xs i ≡ Some x → slice_index (map f xs) i ≡ f x
map_index f [] i x e = absurd cc
map_index f (z ∷ xs) zero x e = let z_is : z ≡ x = cc in ap f z_is
map_index f (z ∷ xs) (suc i) x e = map_index f xs i x e

-- what a call of a brick over its store ensures
pub record Ran {S : Type 0} (told : S → Bool) (records : S → Records) (faults : S → ℕ) (old new : Brick) (x y : S) (client number : ℕ) (q : Request) (r : Result Effects AllocError) : Type 0 where
  pub tells : told y ≡ told x
  pub does : IfOk r (λ e. told x ≡ true → IndexIs (indexed old) (records x) → Meets (step (state old (records x)) (failing_of e.reply e.version) client number q) e (state new (records y)))
  pub fenced : (w : Row) (z : Reply) → row_of q ≡ Some w → fence (asks_of old) w ≡ Some z → IsFencedOff z old new x y r
  pub locks : IfOk r (λ e. (m : Records) (f : Failing) → MeetsLocks (step (state old m) f client number q) q e (state new m))
  pub fits : IfOk r (λ e. IfSome e.reply (λ z. IsFitReply q z))
  pub index : told x ≡ true → IndexIs (indexed old) (records x) → IndexIs (indexed new) (records y)
  pub fault : IfOk r (λ e. is_fault e.reply ≡ true → Rose (faults x) (faults y))

module _ {S : Type 0} (told : S → Bool) (records : S → Records) (faults : S → ℕ) (s t : Cluster) (stores : List S) (i : ℕ) (old new : Brick) (x y : S) (message : Message) (q : Request) (kept : t ≡ record s { bricks = t.bricks }) (at : i ≡ message.brick) (bricks : bricks_of t ≡ set (bricks_of s) i new) (was : slice_get (bricks_of s) message.brick ≡ Some old) (is : slice_get stores message.brick ≡ Some x) where
  pub bricks_set : bricks_of t ≡ set (bricks_of s) message.brick new
  bricks_set = bricks ∙ ap (λ j. set (bricks_of s) j new) at

  pub stores_set : set stores i y ≡ set stores message.brick y
  stores_set = ap (λ j. set stores j y) at

  pub new_store : slice_get (set stores i y) message.brick ≡ Some y
  new_store = (λ k. slice_get (stores_set k) message.brick) ∙ set_at stores message.brick y (slice_get_within stores message.brick x is)

  -- the others
  pub other_stores : (b : ℕ) → b ≢ message.brick → slice_get (map records (set stores i y)) b ≡ slice_get (map records stores) b
  other_stores b n = slice_get-map records (set stores i y) b ∙ (ap (option_map records) ((λ k. slice_get (stores_set k) b) ∙ set_off stores message.brick b y n) ∙ sym (slice_get-map records stores b))

  asks_ok : (e : Effects) → Ran told records faults old new x y message.client message.no q (Ok e) → AsksBrick (list_all told stores ≡ true) s t (map records stores) (map records (set stores i y)) (map faults stores) (map faults (set stores i y)) message q e
  asks_ok e ran = record {
    kept = kept;
    old = old;
    new = new;
    was = was;
    is = (λ k. slice_get (bricks_set k) message.brick) ∙ set_at (bricks_of s) message.brick new (slice_get_within (bricks_of s) message.brick old was);
    others = λ b n. ((λ k. slice_get (bricks_set k) b) ∙ set_off (bricks_of s) message.brick b new n, other_stores b n);
    size = ap (λ (l : List Brick). length l) bricks ∙ length-set (bricks_of s) i new;
    stores = length-map (set stores i y) records ∙ (length-set stores i y ∙ sym (length-map stores records));
    locks = ran.locks;
    fence = λ w z row f. let k = ran.fenced w z row f in (let h = k.refused in cc, k.same_brick);
    fits = ran.fits;
    cause = λ f. let a = map_index faults stores message.brick x is in let b = map_index faults (set stores i y) message.brick y new_store in subst (λ n. Rose n (slice_index (map faults (set stores i y)) message.brick)) (sym a) (subst (λ n. Rose (faults x) n) (sym b) (ran.fault f));
    meets = λ tells r z before after index.
        let r_is : r ≡ records x = map_at records stores message.brick x r is before in
        let z_is : z ≡ records y = map_at records (set stores i y) message.brick y z new_store after in
        let tell : told x ≡ true = all_at told stores message.brick x tells is in
        let idx : IndexIs (indexed old) (records x) = subst (IndexIs (indexed old)) r_is index in
        subst (λ (a : Records). Meets (step (state old a) (failing_of e.reply e.version) message.client message.no q) e (state new z) × IndexIs (indexed new) z) (sym r_is) (subst (λ (b : Records). Meets (step (state old (records x)) (failing_of e.reply e.version) message.client message.no q) e (state new b) × IndexIs (indexed new) b) (sym z_is) (ran.does tell idx, ran.index tell idx));
  }

  pub asks_brick : (r : Result Effects AllocError) → Ran told records faults old new x y message.client message.no q r → IfOk r (AsksBrick (list_all told stores ≡ true) s t (map records stores) (map records (set stores i y)) (map faults stores) (map faults (set stores i y)) message q)
  asks_brick (Ok e) ran = asks_ok e ran
  asks_brick (Err e) ran = tt

  -- where there is no memory the records are as before
  pub asks_none : {X : Type 0} (r : Result X AllocError) → OnErr r (told x ≡ true → records y ≡ records x) → OnErr r (list_all told stores ≡ true → map records (set stores i y) ≡ map records stores)
  asks_none (Ok e) h = tt
  asks_none (Err e) h = λ tells. ap (map records) stores_set ∙ map_set records stores message.brick x y is (h (all_at told stores message.brick x tells is))
