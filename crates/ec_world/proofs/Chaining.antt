-- Steps one after the other.
use Rattle.std.proofs.Common.{◌≡◌, ℕ, List, [], ◌∷◌, ◌++◌, Option, Some, None, refl, sym, ◌∙◌, ap, subst, append-nil, append_assoc}
use Rattle.ec_attr.specs.declared.geometry.Geometry.{Geometry}
use Rattle.ec_clients.specs.Beginning.{AreAsMany, HasClients, beginning}
use Rattle.ec_clients.specs.Come.{Come, come}
use Rattle.ec_clients.specs.Owned.{Sees}
use Rattle.ec_clients.specs.Views.{running_at}
use Rattle.ec_clients.specs.declared.clients.Clients.{Clients}
use Rattle.ec_clients.specs.declared.clients.Running.{Running}
use Rattle.ec_clients.proofs.Goings.{come_append, is_run_append, net_is}
use Rattle.ec_clients.proofs.Places.{some_is}
use Rattle.ec_cluster.specs.Matches.{Matches, StandsAs}
use Rattle.ec_cluster.specs.Sound.{IsSound}
use Rattle.ec_cluster.specs.Views.{log_of, size_of}
use Rattle.ec_cluster.specs.declared.cluster.Cluster.{Cluster}
use Rattle.ec_conduct.specs.Given.{Given}
use Rattle.ec_conduct.specs.Own.{Own}
use Rattle.ec_history.specs.IsRun.{IsRun}
use Rattle.ec_history.specs.Run.{Net, run}
use Rattle.ec_history.specs.Script.{IsSettled, IsSettling, Settles, Step, entries_of}
use Rattle.ec_store.specs.Records.{Records}
use Rattle.ec_txn.specs.declared.ctx.Ctx.{Ctx}
use Rattle.ec_wire.specs.declared.entry.Entry.{Entry}
use Rattle.ec_wire.specs.declared.event.Event.TheVariants.{Settle}
use Rattle.ec_wire.specs.declared.phase.Phase.{Phase}
use Rattle.ec_world.specs.Events.{Advances, Breaks, OfEvent}
use Rattle.ec_world.specs.UnderWay.{EachBefore, IsUnderWay}
use Rattle.ec_world.specs.Resting.{Rests}
use Rattle.ec_world.specs.Steps.{NoneOr, OneStep}
use Rattle.ec_world.specs.World.{IsCallOf, OfUntil}
use Rattle.ec_world.proofs.InNet.{ReleasesAll, settled_is}

pub entries_append : (xs ys : List Step) → entries_of (xs ++ ys) ≡ entries_of xs ++ entries_of ys
entries_append [] ys = refl
entries_append (x ∷ xs) ys = ap (λ (l : List Entry). (x.named ∷ x.follow) ++ l) (entries_append xs ys) ∙ sym (append_assoc (x.named ∷ x.follow) (entries_of xs) (entries_of ys))

pub run_append : (xs ys : List Entry) (m : Net) → run (xs ++ ys) m ≡ run ys (run xs m)
run_append [] ys m = refl
run_append (x ∷ xs) ys m = run_append xs ys _

module _ {C : Type 0} (stands : Ctx → Given → C → List Own → Type 0) (by_table : Ctx → Given → List Own → Type 0) (Told : Type 0) where
  -- nothing yet
  pub no_steps : (Of : Come → List Step → Type 0) (s : Cluster) (c : Clients C) (records : List Records) → IsSound s → ((p : Come) → Of p []) → Advances stands by_table Told Of s s c c records records
  no_steps Of s c records sound of = record {
    steps = [];
    log = sym (append-nil _);
    size = refl;
    options = refl;
    many = record { slots = refl; lives = refl };
    sound = sound;
    leads = λ p h. h;
    runs = λ told p h m. (tt, m, of p);
  }

  -- these steps, and then those
  pub chained : (A B D : Come → List Step → Type 0) (s t u : Cluster) (c d e : Clients C) (before mid after : List Records) → Advances stands by_table Told A s t c d before mid → Advances stands by_table Told B t u d e mid after → ((p : Come) (xs ys : List Step) → A p xs → B (come c.options.geometry (entries_of xs) p) ys → D p (xs ++ ys)) → Advances stands by_table Told D s u c e before after
  chained A B D s t u c d e before mid after x y join = record {
    steps = x.steps ++ y.steps;
    log = y.log ∙ (ap (λ (l : List Entry). l ++ entries_of y.steps) x.log ∙ (append_assoc (log_of s) (entries_of x.steps) (entries_of y.steps) ∙ ap (λ (l : List Entry). log_of s ++ l) (sym (entries_append x.steps y.steps))));
    size = y.size ∙ x.size;
    options = y.options ∙ x.options;
    many = record { slots = y.many.slots ∙ x.many.slots; lives = y.many.lives ∙ x.many.lives };
    sound = y.sound;
    leads = λ p h. subst (λ (z : Come). Sees stands by_table u e z) (sym (joined_come p)) (subst (λ (g : Geometry). Sees stands by_table u e (come g (entries_of y.steps) (come c.options.geometry (entries_of x.steps) p))) same (y.leads (come c.options.geometry (entries_of x.steps) p) (x.leads p h)));
    runs = λ told p h m.
        let one = x.runs told p h m in
        let two = y.runs told (come c.options.geometry (entries_of x.steps) p) (x.leads p h) one.1 in (
          subst (λ (l : List Entry). IsRun (size_of s) l p.net) (sym (entries_append x.steps y.steps)) (is_run_append (size_of s) c.options.geometry (entries_of x.steps) (entries_of y.steps) p one.0 (subst (λ (n : ℕ). IsRun n (entries_of y.steps) (come c.options.geometry (entries_of x.steps) p).net) x.size two.0)),
          subst (λ (z : Come). Matches u after z.net) (sym (joined_come p)) (subst (λ (g : Geometry). Matches u after (come g (entries_of y.steps) (come c.options.geometry (entries_of x.steps) p)).net) same two.1),
          join p x.steps y.steps one.2 two.2,
        );
  }
    where
      same : d.options.geometry ≡ c.options.geometry
      same = (λ i. (x.options i).geometry)

      joined_come : (p : Come) → come c.options.geometry (entries_of (x.steps ++ y.steps)) p ≡ come c.options.geometry (entries_of y.steps) (come c.options.geometry (entries_of x.steps) p)
      joined_come p = (λ i. come c.options.geometry (entries_append x.steps y.steps i) p) ∙ come_append c.options.geometry (entries_of x.steps) (entries_of y.steps) p

  -- these steps, and then no memory
  pub chain_breaks : (A B D : Come → List Step → Type 0) (s t u : Cluster) (c d : Clients C) (before mid after : List Records) → Advances stands by_table Told A s t c d before mid → Breaks stands by_table Told B t u d mid after → ((p : Come) (xs ys : List Step) → A p xs → B (come c.options.geometry (entries_of xs) p) ys → D p (xs ++ ys)) → Breaks stands by_table Told D s u c before after
  chain_breaks A B D s t u c d before mid after x y join = record {
    steps = x.steps ++ y.steps;
    log = y.log ∙ (ap (λ (l : List Entry). l ++ entries_of y.steps) x.log ∙ (append_assoc (log_of s) (entries_of x.steps) (entries_of y.steps) ∙ ap (λ (l : List Entry). log_of s ++ l) (sym (entries_append x.steps y.steps))));
    runs = λ told p h m.
        let one = x.runs told p h m in
        let two = y.runs told (come c.options.geometry (entries_of x.steps) p) (x.leads p h) one.1 in
        let both = subst (λ (l : List Entry). IsRun (size_of s) l p.net × StandsAs (size_of s) after (come c.options.geometry l p).net) (sym (entries_append x.steps y.steps)) (
          is_run_append (size_of s) c.options.geometry (entries_of x.steps) (entries_of y.steps) p one.0 (subst (λ (n : ℕ). IsRun n (entries_of y.steps) (come c.options.geometry (entries_of x.steps) p).net) x.size two.0),
          subst (λ (z : Come). StandsAs (size_of s) after z.net) (sym (come_append c.options.geometry (entries_of x.steps) (entries_of y.steps) p)) (subst (λ (g : Geometry). StandsAs (size_of s) after (come g (entries_of y.steps) (come c.options.geometry (entries_of x.steps) p)).net) same (subst (λ (n : ℕ). StandsAs n after (come d.options.geometry (entries_of y.steps) (come c.options.geometry (entries_of x.steps) p)).net) x.size two.1)),
        ) in
        (both.0, both.1, join p x.steps y.steps one.2 two.2);
  }
    where
      same : d.options.geometry ≡ c.options.geometry
      same = (λ i. (x.options i).geometry)

-- one step of settling more
pub settles_more : (g : Geometry) (p : Come) (xs ys : List Step) → Settles p.net xs → OneStep IsSettling (come g (entries_of xs) p) ys → Settles p.net (xs ++ ys)
settles_more g p xs ys x y = by xs p.net x (subst (λ (m : Net). Settles m ys) (net_is g (entries_of xs) p) (one_at ys y))
  where
    one_at : (ys : List Step) → OneStep IsSettling (come g (entries_of xs) p) ys → Settles (come g (entries_of xs) p).net ys
    one_at [] h = absurd h
    one_at (s ∷ []) h = (h.0, h.1, tt)
    one_at (s ∷ r ∷ steps) h = absurd h

    by : (xs : List Step) (m : Net) → Settles m xs → Settles (run (entries_of xs) m) ys → Settles m (xs ++ ys)
    by [] m h k = k
    by (s ∷ xs) m h k = (h.0, h.1, by xs (run (s.named ∷ s.follow) m) h.2 (subst (λ (z : Net). Settles z ys) (run_append (s.named ∷ s.follow) (entries_of xs) m) k))

-- or the first entries of one
pub settles_part : (g : Geometry) (p : Come) (xs ys : List Step) → Settles p.net xs → NoneOr (OneStep IsSettling) (come g (entries_of xs) p) ys → Settles p.net (xs ++ ys)
settles_part g p xs [] h k = subst (Settles p.net) (sym (append-nil xs)) h
settles_part g p xs (y ∷ ys) h k = settles_more g p xs (y ∷ ys) h k

-- one step more, before which what has come is so
pub before_more : (Is : Come → Type 0) (By : Net → Entry → Type 0) (g : Geometry) (xs ys : List Step) (p : Come) → EachBefore Is g p xs → Is (come g (entries_of xs) p) → OneStep By (come g (entries_of xs) p) ys → EachBefore Is g p (xs ++ ys)
before_more Is By g [] [] p x is one = absurd one
before_more Is By g [] (s ∷ []) p x is one = (is, tt)
before_more Is By g [] (s ∷ r ∷ steps) p x is one = absurd one
before_more Is By g (s ∷ xs) ys p x is one =
    let same : come g (entries_of (s ∷ xs)) p ≡ come g (entries_of xs) (come g (s.named ∷ s.follow) p) = come_append g (s.named ∷ s.follow) (entries_of xs) p in
    (x.0, before_more Is By g xs ys (come g (s.named ∷ s.follow) p) x.1 (subst Is same is) (subst (λ (z : Come). OneStep By z ys) same one))

pub before_part : (Is : Come → Type 0) (By : Net → Entry → Type 0) (g : Geometry) (xs ys : List Step) (p : Come) → EachBefore Is g p xs → Is (come g (entries_of xs) p) → NoneOr (OneStep By) (come g (entries_of xs) p) ys → EachBefore Is g p (xs ++ ys)
before_part Is By g xs [] p h is k = subst (EachBefore Is g p) (sym (append-nil xs)) h
before_part Is By g xs (y ∷ ys) p h is k = before_more Is By g xs (y ∷ ys) p h is k

module _ {C : Type 0} (stands : Ctx → Given → C → List Own → Type 0) (by_table : Ctx → Given → List Own → Type 0) (Told : Type 0) where
  -- nothing more is done
  pub same_end : (Of : Come → List Step → Type 0) (s t u : Cluster) (c d e : Clients C) (before mid after : List Records) → u ≡ t → e ≡ d → after ≡ mid → Advances stands by_table Told Of s t c d before mid → Advances stands by_table Told Of s u c e before after
  same_end Of s t u c d e before mid after f g k x = subst (λ (z : Cluster). Advances stands by_table Told Of s z c e before after) (sym f) (subst (λ (z : Clients C). Advances stands by_table Told Of s t c z before after) (sym g) (subst (λ (z : List Records). Advances stands by_table Told Of s t c d before z) (sym k) x))

  -- steps of settling until the volume rests
  pub rested : ReleasesAll stands → (n : ℕ) (s t : Cluster) (c d : Clients C) (before after : List Records) → HasClients c → Rests stands t d → Advances stands by_table Told (λ p steps. Settles p.net steps) s t c d before after → Advances stands by_table Told (OfEvent n Settle) s t c d before after
  rested all n s t c d before after many rests x = record {
    steps = x.steps;
    log = x.log;
    size = x.size;
    options = x.options;
    many = x.many;
    sound = x.sound;
    leads = x.leads;
    runs = λ told p h m.
        let r = x.runs told p h m in
        (r.0, r.1, (r.2, subst IsSettled (net_is c.options.geometry (entries_of x.steps) p) (settled_is stands by_table t d after (come c.options.geometry (entries_of x.steps) p) x.sound (x.leads p h) r.1 all (record { slots = x.many.slots ∙ many.slots; lives = x.many.lives ∙ many.lives }) rests)));
  }

-- the call is under way, which the client runs
pub call_is : {C : Type 0} (c : Clients C) (j : ℕ) (r : Running C) (number : ℕ) → running_at c j ≡ Some r → IsCallOf c j number → r.number ≡ number
call_is c j r number e k = ap (λ (z : Running _). z.number) (some_is r k.0 (sym e ∙ k.1)) ∙ k.2

module _ {C P : Type 0} (stands : Ctx → Given → C → List Own → Type 0) (by_table : Ctx → Given → List Own → Type 0) (stage : C → Option P) (phase_of : P → Phase) where
  pub until_is : (n : ℕ) (c : Clients C) (j : ℕ) (phase : Phase) (r : Running C) (p : Come) (steps : List Step) → running_at c j ≡ Some r → Settles p.net steps × EachBefore (IsUnderWay stands by_table stage phase_of j r.number phase) c.options.geometry p steps → OfUntil stands by_table stage phase_of n c j phase p steps
  until_is n c j phase r p steps e x = (x.0, λ number k. subst (λ (z : ℕ). EachBefore (IsUnderWay stands by_table stage phase_of j z phase) c.options.geometry p steps) (call_is c j r number e k) x.1)
