-- Bricks that cut a client off, one after the other.
use Rattle.std.proofs.Common.{◌≡◌, ℕ, ◌+◌, ◌<◌, ◌≤◌, Bool, true, false, cond, Option, Some, None, List, [], ◌∷◌, ◌++◌, map, length, refl, sym, ◌∙◌, ap, subst, arith, zero, suc, ⊎_elim, append-nil, append_assoc, ◌-◌}
use Rattle.std.proofs.lemmas.List.{map-append}
use Rattle.std.specs.Prelude.{slice_get}
use Rattle.std.specs.List.{list_all}
use Rattle.ec_attr.specs.Bricks.{bricks_below}
use Rattle.ec_attr.specs.declared.geometry.Geometry.{Geometry}
use Rattle.ec_attr.proofs.Sets.{bricks_more_in, bricks_more_out, bricks_none}
use Rattle.ec_brick.specs.State.{State}
use Rattle.ec_brick.specs.Step.{cut_off}
use Rattle.ec_brick.specs.declared.brick.Brick.{Brick}
use Rattle.ec_clients.specs.Come.{Come, come}
use Rattle.ec_clients.specs.Owned.{Sees}
use Rattle.ec_clients.specs.declared.clients.Clients.{Clients}
use Rattle.ec_clients.proofs.Goings.{net_is}
use Rattle.ec_clients.proofs.Places.{put_is}
use Rattle.ec_cluster.specs.Matches.{Matches}
use Rattle.ec_cluster.specs.Views.{bricks_of, is_brick_up, is_up_at, size_of}
use Rattle.ec_cluster.specs.declared.cluster.Cluster.{Cluster}
use Rattle.ec_conduct.specs.Given.{Given}
use Rattle.ec_conduct.specs.Own.{Own}
use Rattle.ec_history.specs.Run.{Net, after, run}
use Rattle.ec_history.specs.Script.{AllFollow, AllFollowAll, CutsAll, IsOneStep, Names, Step, entries_of, is_of_course}
use Rattle.ec_store.specs.Records.{Records}
use Rattle.ec_txn.specs.declared.ctx.Ctx.{Ctx}
use Rattle.ec_wire.specs.declared.entry.Entry.{Entry}
use Rattle.ec_wire.specs.declared.entry.Entry.TheVariants.{Called, Sent, Executed, Heard, Lost, GivenUp, Stopped, Returned, Cut as CutOff, Died, Yielded, Torn, Answered, Replaced}
use Rattle.ec_wire.specs.declared.event.Event.TheVariants.{Cut}
use Rattle.ec_world.specs.Events.{Advances, Breaks, FirstCuts, FirstOfEvent}
use Rattle.ec_world.specs.Steps.{NoneOr}
use Rattle.ec_world.proofs.Becoming.{advances_as, one_breaks_as}
use Rattle.ec_world.proofs.Chaining.{chain_breaks, chained, no_steps, run_append}

-- what follows of course leaves the bricks as they are
follow_kept : (es : List Entry) (m : Net) → list_all is_of_course es ≡ true → (run es m).brick ≡ m.brick
follow_kept [] m h = refl
follow_kept (Sent msg ∷ es) m h = follow_kept es (after m (Sent msg)) h
follow_kept (Answered call answer ∷ es) m h = follow_kept es (after m (Answered call answer)) h
follow_kept (Called call client op ∷ es) m h = absurd (cc)
follow_kept (Executed i version failed ∷ es) m h = absurd (cc)
follow_kept (Heard i ∷ es) m h = absurd (cc)
follow_kept (Lost i ∷ es) m h = absurd (cc)
follow_kept (GivenUp client b i ∷ es) m h = absurd (cc)
follow_kept (Stopped b ∷ es) m h = absurd (cc)
follow_kept (Returned b ∷ es) m h = absurd (cc)
follow_kept (CutOff client b ∷ es) m h = absurd (cc)
follow_kept (Died client ∷ es) m h = absurd (cc)
follow_kept (Yielded client ∷ es) m h = absurd (cc)
follow_kept (Torn i bytes version ∷ es) m h = absurd (cc)
follow_kept (Replaced b removed all ∷ es) m h = absurd (cc)

-- a brick that cuts a client off stays up, or down
cut_kept : (m : Net) (client b x : ℕ) → ((after m (CutOff client b)).brick x).up ≡ (m.brick x).up
cut_kept m client b x = ⊎_elim
    (λ p. ap (λ (s : State). s.up) p.1 ∙ ap (λ (y : ℕ). (m.brick y).up) (sym p.0))
    (λ p. ap (λ (s : State). s.up) p.1)
    (put_is m.brick b (cut_off (m.brick b) client).brick x)

up_kept : (client : ℕ) (bs : List ℕ) (xs : List Step) (m : Net) (x : ℕ) → map (λ (s : Step). s.named) xs ≡ map (CutOff client) bs → AllFollowAll xs → ((run (entries_of xs) m).brick x).up ≡ (m.brick x).up
up_kept client bs [] m x e h = refl
up_kept client [] (s ∷ xs) m x e h = absurd (cc)
up_kept client (b ∷ bs) (s ∷ xs) m x e h =
    let first : s.named ≡ CutOff client b = cc in
    let others : map (λ (s : Step). s.named) xs ≡ map (CutOff client) bs = cc in
    ap (λ (n : Net). (n.brick x).up) (run_append (s.named ∷ s.follow) (entries_of xs) m)
    ∙ (up_kept client bs xs (run s.follow (after m s.named)) x others h.1
    ∙ (ap (λ (f : ℕ → State). (f x).up) (follow_kept s.follow (after m s.named) h.0)
    ∙ (ap (λ (n : Entry). ((after m n).brick x).up) first ∙ cut_kept m client b x)))

-- brick b cut the client off, where it is up
abbrev pub CutsAt : ℕ → ℕ → Net → List Step → Type 0
CutsAt b client m steps = (map (λ s. s.named) steps ≡ map (CutOff client) (cond (m.brick b).up (b ∷ []) [])) × AllFollowAll steps

all_append : (xs ys : List Step) → AllFollowAll xs → AllFollowAll ys → AllFollowAll (xs ++ ys)
all_append [] ys h k = k
all_append (x ∷ xs) ys h k = (h.0, all_append xs ys h.1 k)

one_more : (n : ℕ) (f : ℕ → Bool) → bricks_below n f ++ cond (f n) (n ∷ []) [] ≡ bricks_below (n + 1) f
one_more n f = test (f n) refl
  where
    test : (u : Bool) → f n ≡ u → bricks_below n f ++ cond (f n) (n ∷ []) [] ≡ bricks_below (n + 1) f
    test true e = ap (λ (u : Bool). bricks_below n f ++ cond u (n ∷ []) []) e ∙ sym (bricks_more_in n f e)
    test false e = ap (λ (u : Bool). bricks_below n f ++ cond u (n ∷ []) []) e ∙ (append-nil _ ∙ sym (bricks_more_out n f e))

pub cuts_none : (client : ℕ) (m : Net) → CutsAll 0 m client [] × AllFollowAll []
cuts_none client m = (sym (ap (map (CutOff client)) (bricks_none (λ b. (m.brick b).up))), tt)

-- and the next brick
pub cuts_more : (g : Geometry) (client b : ℕ) (p : Come) (xs ys : List Step) → CutsAll b p.net client xs × AllFollowAll xs → CutsAt b client (come g (entries_of xs) p).net ys → CutsAll (b + 1) p.net client (xs ++ ys) × AllFollowAll (xs ++ ys)
cuts_more g client b p xs ys h k = (
  map-append (λ (s : Step). s.named) xs ys
      ∙ (ap (λ (l : List Entry). l ++ map (λ (s : Step). s.named) ys) h.0
      ∙ (ap (λ (l : List Entry). map (CutOff client) (bricks_below b up) ++ l) (k.0 ∙ ap (λ (u : Bool). map (CutOff client) (cond u (b ∷ []) [])) same)
      ∙ (sym (map-append (CutOff client) (bricks_below b up) (cond (up b) (b ∷ []) []))
      ∙ ap (map (CutOff client)) (one_more b up)))),
  all_append xs ys h.1 k.1,
)
  where
    up : ℕ → Bool
    up x = (p.net.brick x).up

    same : ((come g (entries_of xs) p).net.brick b).up ≡ (p.net.brick b).up
    same = ap (λ (n : Net). (n.brick b).up) (net_is g (entries_of xs) p) ∙ up_kept client (bricks_below b up) xs p.net b h.0 h.1

-- the bricks below a number are the first ones
below_front : (b k : ℕ) (f : ℕ → Bool) → (more : List ℕ) × (bricks_below (b + k) f ≡ bricks_below b f ++ more)
below_front b zero f = ([], ap (λ (n : ℕ). bricks_below n f) (omega arith) ∙ sym (append-nil (bricks_below b f)))
below_front b (suc k) f =
    let r = below_front b k f in
    let n : b + suc k ≡ b + k + 1 = omega arith in
    (r.0 ++ cond (f (b + k)) ((b + k) ∷ []) [], ap (λ (x : ℕ). bricks_below x f) n ∙ (sym (one_more (b + k) f) ∙ (ap (λ (l : List ℕ). l ++ cond (f (b + k)) ((b + k) ∷ []) []) r.1 ∙ append_assoc (bricks_below b f) r.0 (cond (f (b + k)) ((b + k) ∷ []) []))))

pub first_cuts : (n client b : ℕ) (m : Net) (steps : List Step) → b ≤ n → CutsAll b m client steps × AllFollowAll steps → FirstCuts n m client steps
first_cuts n client b m steps le h =
    let up : ℕ → Bool = λ x. (m.brick x).up in
    let r = below_front b (n - b) up in
    let is : b + (n - b) ≡ n = omega (arith, le) in
    let all : bricks_below n up ≡ bricks_below b up ++ r.0 = ap (λ (x : ℕ). bricks_below x up) (sym is) ∙ r.1 in
    (r.0, ap (map (CutOff client)) all ∙ (map-append (CutOff client) (bricks_below b up) r.0 ∙ ap (λ (l : List Entry). l ++ map (CutOff client) r.0) (sym h.0)), h.1)

-- or the first entries of the next brick's
pub cuts_part : (g : Geometry) (n client b : ℕ) (p : Come) (xs ys : List Step) → b + 1 ≤ n → CutsAll b p.net client xs × AllFollowAll xs → NoneOr (λ q. CutsAt b client q.net) (come g (entries_of xs) p) ys → FirstCuts n p.net client (xs ++ ys)
cuts_part g n client b p xs [] le h k = subst (FirstCuts n p.net client) (sym (append-nil xs)) (first_cuts n client b p.net xs (omega arith) h)
cuts_part g n client b p xs (y ∷ ys) le h k = first_cuts n client (b + 1) p.net (xs ++ y ∷ ys) le (cuts_more g client b p xs (y ∷ ys) h k)

has_place : {X : Type 0} (xs : List X) (b : ℕ) → b < length xs → (x : X) × (slice_get xs b ≡ Some x)
has_place [] b lt = absurd (omega arith)
has_place (x ∷ xs) zero lt = (x, refl)
has_place (x ∷ xs) (suc b) lt = has_place xs b (omega arith)

-- the net has the bricks up that are up
pub up_is : (s : Cluster) (records : List Records) (m : Net) (b : ℕ) → b < size_of s → Matches s records m → (m.brick b).up ≡ is_up_at s b
up_is s records m b lt k =
    let x = has_place (bricks_of s) b lt in
    let r = has_place records b (subst (λ (n : ℕ). b < n) (sym k.stores) lt) in
    sym (k.bricks b x.0 r.0 x.1 r.1).known.same_up ∙ sym (ap is_brick_up x.1)

pub there : (b n m k : ℕ) → b < n → n ≡ m → k ≡ m → b < k
there b n m k lt e f = subst (λ (x : ℕ). b < x) (e ∙ sym f) lt

pub ends : (b n m : ℕ) → n ≤ b → b ≤ n → n ≡ m → b ≡ m
ends b n m x y e = omega arith

is_cut : (m : Net) (client b : ℕ) (e : Entry) → Names m (Cut client (Some b)) e → e ≡ CutOff client b
is_cut m client b (CutOff who at) h = (λ i. CutOff (h.0 i) (h.1 i))
is_cut m client b (Called call who op) h = absurd h
is_cut m client b (Sent msg) h = absurd h
is_cut m client b (Executed i version failed) h = absurd h
is_cut m client b (Heard i) h = absurd h
is_cut m client b (Lost i) h = absurd h
is_cut m client b (GivenUp who at i) h = absurd h
is_cut m client b (Stopped x) h = absurd h
is_cut m client b (Returned x) h = absurd h
is_cut m client b (Died who) h = absurd h
is_cut m client b (Yielded who) h = absurd h
is_cut m client b (Torn i bytes version) h = absurd h
is_cut m client b (Answered call answer) h = absurd h
is_cut m client b (Replaced x removed all) h = absurd h

-- a brick that is up cuts the client off
pub cuts_up : (m : Net) (client b : ℕ) (steps : List Step) → (m.brick b).up ≡ true → IsOneStep m (Cut client (Some b)) steps → CutsAt b client m steps
cuts_up m client b [] up h = absurd h
cuts_up m client b (s ∷ []) up h = (ap (λ (e : Entry). e ∷ []) (is_cut m client b s.named h.0) ∙ sym (ap (λ (u : Bool). map (CutOff client) (cond u (b ∷ []) [])) up), (h.1, tt))
cuts_up m client b (s ∷ r ∷ steps) up h = absurd h

-- a stopped one doesn't
pub cuts_down : (m : Net) (client b : ℕ) → (m.brick b).up ≡ false → CutsAt b client m []
cuts_down m client b down = (sym (ap (λ (u : Bool). map (CutOff client) (cond u (b ∷ []) [])) down), tt)

module _ {C : Type 0} (stands : Ctx → Given → C → List Own → Type 0) (by_table : Ctx → Given → List Own → Type 0) (s t : Cluster) (c : Clients C) (records : List Records) (client b : ℕ) where
  -- the next brick is up, and cuts the client off
  pub cut_next : (u : Cluster) → Advances stands by_table (Unit {0}) (λ p steps. CutsAll b p.net client steps × AllFollowAll steps) s t c c records records → b < size_of t → is_up_at t b ≡ true → Advances stands by_table (Unit {0}) (λ p steps. IsOneStep p.net (Cut client (Some b)) steps) t u c c records records → Advances stands by_table (Unit {0}) (λ p steps. CutsAll (b + 1) p.net client steps × AllFollowAll steps) s u c c records records
  cut_next u x lt up y = chained stands by_table (Unit {0}) (λ p steps. CutsAll b p.net client steps × AllFollowAll steps) (λ p steps. CutsAt b client p.net steps) (λ p steps. CutsAll (b + 1) p.net client steps × AllFollowAll steps) s t u c c c records records records x
      (advances_as stands by_table (Unit {0}) (Unit {0}) (λ p steps. IsOneStep p.net (Cut client (Some b)) steps) (λ p steps. CutsAt b client p.net steps) t u c c records records (λ told. told) (λ p steps h m z. cuts_up p.net client b steps (up_is t records p.net b lt m ∙ up) z) y)
      (λ p xs ys h k. cuts_more c.options.geometry client b p xs ys h k)

  -- or is stopped
  pub cut_past : Advances stands by_table (Unit {0}) (λ p steps. CutsAll b p.net client steps × AllFollowAll steps) s t c c records records → b < size_of t → is_up_at t b ≡ false → Advances stands by_table (Unit {0}) (λ p steps. CutsAll (b + 1) p.net client steps × AllFollowAll steps) s t c c records records
  cut_past x lt down = chained stands by_table (Unit {0}) (λ p steps. CutsAll b p.net client steps × AllFollowAll steps) (λ p steps. CutsAt b client p.net steps) (λ p steps. CutsAll (b + 1) p.net client steps × AllFollowAll steps) s t t c c c records records records x
      (advances_as stands by_table (Unit {0}) (Unit {0}) (λ p steps. steps ≡ []) (λ p steps. CutsAt b client p.net steps) t t c c records records (λ told. told) (λ p steps h m e. subst (λ (l : List Step). CutsAt b client p.net l) (sym e) (cuts_down p.net client b (up_is t records p.net b lt m ∙ down))) (no_steps stands by_table (Unit {0}) (λ p steps. steps ≡ []) t c records x.sound (λ p. refl)))
      (λ p xs ys h k. cuts_more c.options.geometry client b p xs ys h k)

  -- or there is no memory
  pub cut_off_breaks : (u : Cluster) → Advances stands by_table (Unit {0}) (λ p steps. CutsAll b p.net client steps × AllFollowAll steps) s t c c records records → b < size_of s → b < size_of t → is_up_at t b ≡ true → Breaks stands by_table (Unit {0}) (NoneOr (λ p. IsOneStep p.net (Cut client (Some b)))) t u c records records → Breaks stands by_table (Unit {0}) (FirstOfEvent (size_of s) (Cut client None)) s u c records records
  cut_off_breaks u x low lt up y = chain_breaks stands by_table (Unit {0}) (λ p steps. CutsAll b p.net client steps × AllFollowAll steps) (NoneOr (λ p. CutsAt b client p.net)) (FirstOfEvent (size_of s) (Cut client None)) s t u c c records records records x
      (one_breaks_as stands by_table (Unit {0}) (Unit {0}) (λ p steps. IsOneStep p.net (Cut client (Some b)) steps) (λ p steps. CutsAt b client p.net steps) t u c c records records (λ told. told) (λ p steps h m z. cuts_up p.net client b steps (up_is t records p.net b lt m ∙ up) z) y)
      (λ p xs ys h k. cuts_part c.options.geometry (size_of s) client b p xs ys (omega arith) h k)
