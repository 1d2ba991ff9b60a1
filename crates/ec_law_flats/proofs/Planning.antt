-- What turns have planned is what their calls commit, entry by entry.
use Rattle.std.proofs.Common.{◌≡◌, ℕ, ◌≤◌, Bool, true, false, not, cond, ◌==◌, ◌&&◌, Option, Some, refl, sym, ◌∙◌, ap, subst, ⊎_elim}
use Rattle.ec_attr.specs.declared.geometry.Geometry.{Geometry}
use Rattle.ec_history.specs.Changes.{Found}
use Rattle.ec_history.specs.Run.{Net, after as net_after}
use Rattle.ec_history.specs.Story.{Story, op_of, told}
use Rattle.ec_wire.specs.declared.entry.Entry.TheVariants.{Sent}
use Rattle.ec_wire.specs.declared.message.Message.{Message}
use Rattle.ec_wire.specs.declared.op.Op.{Op}
use Rattle.ec_law_pieces.specs.File.{File}
use Rattle.ec_law_net.specs.Turns.{View, seen_after, turn_of}
use Rattle.ec_law_turns.proofs.Basics.{equal, itself, put_here}
use Rattle.ec_law_turns.proofs.Tracks.{Adds}
use Rattle.ec_law_data.specs.Deeds.{file_after}
use Rattle.ec_law_data.specs.Reading.{Plans, Reading}
use Rattle.ec_conduct.specs.Given.{quorum}
use Rattle.ec_law_flats.specs.Plans.{is_unbuilt, plans_on}
use Rattle.ec_law_flats.proofs.Calls.{AllBuilt, CallsStay}
use Rattle.ec_law_flats.proofs.MachineSteps.{Intends, PlansKept, Same, SentAs, sent_as}

module _ {P V C U S : Type 0} (R : Reading P V C U S) (Fits : ℕ → Op → Found → (P → Bool) → (P → ℕ → Option U) → Type 0) (g : ℕ) where
  -- what has been found later makes no difference
  abbrev pub Stable : Type 0
  Stable = (a : ℕ) (op : Op) (found found' : Found) (covers : P → Bool) (sets : P → ℕ → Option U) → is_unbuilt op ≡ false → found'.took ≡ found.took → Fits a op found covers sets → Fits a op found' covers sets

  -- turn a has planned for a message of its that was said
  pub record HasPlan (said : ℕ → Option Message) (of : ℕ → ℕ) (m : Net) (t : Story) (f : File P V C U S) (a : ℕ) : Type 0 where
    pub number : ℕ
    pub message : Message
    pub is : said number ≡ Some message
    pub turn : of number ≡ a
    pub fits : Fits a (op_of m message.call) (t.found message.call) (f.covers a) (f.sets a)

  pub record ArePlanned (said : ℕ → Option Message) (of : ℕ → ℕ) (m : Net) (t : Story) (f : File P V C U S) : Type 0 where
    pub asked : (i : ℕ) (x : Message) → said i ≡ Some x → plans_on R g x.body ≡ true → f.planned (of i) ≡ true
    pub plan : (a : ℕ) → f.planned a ≡ true → HasPlan said of m t f a

  module _ (stable : Stable) (said : ℕ → Option Message) (of : ℕ → ℕ) (m m' : Net) (t t' : Story) (f h : File P V C U S) (built : AllBuilt m) (stay : CallsStay m m' t t') (below : (i : ℕ) (x : Message) → said i ≡ Some x → x.call ≤ m.calls) where
    still_fits : (a c : ℕ) (covers covers' : P → Bool) (sets sets' : P → ℕ → Option U) → c ≤ m.calls → covers' ≡ covers → sets' ≡ sets → Fits a (op_of m c) (t.found c) covers sets → Fits a (op_of m' c) (t'.found c) covers' sets'
    still_fits a c covers covers' sets sets' le e d x =
        subst (λ (o : Op). Fits a o (t'.found c) covers' sets') (sym (stay.op c le))
        (subst (λ (z : P → Bool). Fits a (op_of m c) (t'.found c) z sets') (sym e)
        (subst (λ (z : P → ℕ → Option U). Fits a (op_of m c) (t'.found c) covers z) (sym d)
        (stable a (op_of m c) (t.found c) (t'.found c) covers sets (built c) (stay.took c le) x)))

    has_still : (said' : ℕ → Option Message) (of' : ℕ → ℕ) (a : ℕ) → ((i : ℕ) (x : Message) → said i ≡ Some x → (said' i ≡ Some x) × (of' i ≡ of i)) → h.covers a ≡ f.covers a → h.sets a ≡ f.sets a → HasPlan said of m t f a → HasPlan said' of' m' t' h a
    has_still said' of' a more e d k = let o = more k.number k.message k.is in record {
      number = k.number;
      message = k.message;
      is = o.0;
      turn = o.1 ∙ k.turn;
      fits = still_fits a k.message.call (f.covers a) (h.covers a) (f.sets a) (h.sets a) (below k.number k.message k.is) e d k.fits;
    }

    -- no message is added, and no turn plans
    pub planned_still : PlansKept f h → ArePlanned said of m t f → ArePlanned said of m' t' h
    planned_still s k = record {
      asked = λ i x is on. ap (λ (z : ℕ → Bool). z (of i)) s.planned ∙ k.asked i x is on;
      plan = λ a e. has_still said of a (λ i x is. (is, refl)) (ap (λ (z : ℕ → P → Bool). z a) s.covers) (ap (λ (z : ℕ → P → ℕ → Option U). z a) s.sets) (k.plan a (sym (ap (λ (z : ℕ → Bool). z a) s.planned) ∙ e));
    }

  -- a message is sent
  module _ (stable : Stable) (plans : Plans P V U S) (geometry : Geometry) (m : Net) (v : View) (t : Story) (f : File P V C U S) (msg : Message) (built : AllBuilt m) (below : (i : ℕ) (x : Message) → m.said i ≡ Some x → x.call ≤ m.calls) (mine : msg.call ≤ m.calls) (stay : CallsStay m (net_after m (Sent msg)) t (told geometry m t (Sent msg))) (more : Adds m.said (net_after m (Sent msg)).said v.of (seen_after g m v (Sent msg)).of msg.no msg) (fits : plans_on R g msg.body ≡ true → f.planned (turn_of g v msg) ≡ false → Fits (turn_of g v msg) (op_of m msg.call) (t.found msg.call) (plans.plan (turn_of g v msg)).covers (plans.plan (turn_of g v msg)).sets) where
    abbrev m' : Net
    m' = net_after m (Sent msg)

    abbrev t' : Story
    t' = told geometry m t (Sent msg)

    abbrev v' : View
    v' = seen_after g m v (Sent msg)

    abbrev h : File P V C U S
    h = file_after R plans geometry.n (quorum geometry) g m v f (Sent msg)

    abbrev turn : ℕ
    turn = turn_of g v msg

    said_mine : m'.said msg.no ≡ Some msg
    said_mine = put_here m.said msg.no (Some msg) msg.no refl

    of_mine : v'.of msg.no ≡ turn
    of_mine = put_here v.of msg.no turn msg.no refl

    asked_then : ArePlanned m.said v.of m t f → ((a : ℕ) → f.planned a ≡ true → h.planned a ≡ true) → (plans_on R g msg.body ≡ true → h.planned turn ≡ true) → (i : ℕ) (x : Message) → m'.said i ≡ Some x → plans_on R g x.body ≡ true → h.planned (v'.of i) ≡ true
    asked_then k grows here i x is on = ⊎_elim
        (λ z. ap (λ (j : ℕ). h.planned (v'.of j)) z.0 ∙ (ap h.planned of_mine ∙ here (subst (λ (y : Message). plans_on R g y.body ≡ true) (sym z.1) on)))
        (λ z. ap h.planned (more.still i x z).1 ∙ grows (v.of i) (k.asked i x z on))
        (more.newest i x is)

    same_sent : Same f h → (plans_on R g msg.body ≡ true → f.planned turn ≡ true) → ArePlanned m.said v.of m t f → ArePlanned m'.said v'.of m' t' h
    same_sent s has k = record {
      asked = asked_then k (λ a e. ap (λ (z : ℕ → Bool). z a) s.plans.planned ∙ e) (λ on. ap (λ (z : ℕ → Bool). z turn) s.plans.planned ∙ has on);
      plan = λ a e. has_still stable m.said v.of m m' t t' f h built stay below m'.said v'.of a more.still (ap (λ (z : ℕ → P → Bool). z a) s.plans.covers) (ap (λ (z : ℕ → P → ℕ → Option U). z a) s.plans.sets) (k.plan a (sym (ap (λ (z : ℕ → Bool). z a) s.plans.planned) ∙ e));
    }

    newly_sent : Intends R plans geometry g f h turn → plans_on R g msg.body ≡ true → f.planned turn ≡ false → ArePlanned m.said v.of m t f → ArePlanned m'.said v'.of m' t' h
    newly_sent s on free k = record {
      asked = asked_then k (λ a e. ap (λ (z : ℕ → Bool). z a) s.planned ∙ grown a e (a == turn)) (λ o. ap (λ (z : ℕ → Bool). z turn) s.planned ∙ ap (λ (c : Bool). cond c true (f.planned turn)) (itself turn));
      plan = λ a e. by a (a == turn) refl (sym (ap (λ (z : ℕ → Bool). z a) s.planned) ∙ e);
    }
      where
        grown : (a : ℕ) → f.planned a ≡ true → (c : Bool) → cond c true (f.planned a) ≡ true
        grown a e true = refl
        grown a e false = e

        covers_at : (a : ℕ) (c : Bool) → (a == turn) ≡ c → h.covers a ≡ (λ p. cond c ((plans.plan turn).covers p) (f.covers a p))
        covers_at a c e = ap (λ (z : ℕ → P → Bool). z a) s.covers ∙ ap {B = P → Bool} (λ (d : Bool). λ p. cond d ((plans.plan turn).covers p) (f.covers a p)) e

        sets_at : (a : ℕ) (c : Bool) → (a == turn) ≡ c → h.sets a ≡ (λ p i. cond c ((plans.plan turn).sets p i) (f.sets a p i))
        sets_at a c e = ap (λ (z : ℕ → P → ℕ → Option U). z a) s.sets ∙ ap {B = P → ℕ → Option U} (λ (d : Bool). λ p i. cond d ((plans.plan turn).sets p i) (f.sets a p i)) e

        by : (a : ℕ) (c : Bool) → (a == turn) ≡ c → cond (a == turn) true (f.planned a) ≡ true → HasPlan m'.said v'.of m' t' h a
        by a true e p = subst (λ (x : ℕ). HasPlan m'.said v'.of m' t' h x) (sym (equal a turn e)) (record {
          number = msg.no;
          message = msg;
          is = said_mine;
          turn = of_mine;
          fits = still_fits stable m.said v.of m m' t t' f h built stay below turn msg.call (plans.plan turn).covers (h.covers turn) (plans.plan turn).sets (h.sets turn) mine (covers_at turn true (itself turn)) (sets_at turn true (itself turn)) (fits on free);
        })
        by a false e p = has_still stable m.said v.of m m' t t' f h built stay below m'.said v'.of a more.still (covers_at a false e) (sets_at a false e) (k.plan a (sym (ap (λ (c : Bool). cond c true (f.planned a)) e) ∙ p))

    pub planned_sent : ArePlanned m.said v.of m t f → ArePlanned m'.said v'.of m' t' h
    planned_sent k = by (plans_on R g msg.body) (f.planned turn) refl refl (sent_as R plans geometry g m v f msg)
      where
        by : (c d : Bool) → plans_on R g msg.body ≡ c → f.planned turn ≡ d → SentAs R plans geometry g m v f msg (plans_on R g msg.body && not (f.planned turn)) h → ArePlanned m'.said v'.of m' t' h
        by false d on free s = same_sent (subst (λ (z : Bool). SentAs R plans geometry g m v f msg z h) (ap (λ (z : Bool). z && not (f.planned turn)) on) s) (λ o. absurd (let z = sym on ∙ o in cc)) k
        by true true on free s = same_sent (subst (λ (z : Bool). SentAs R plans geometry g m v f msg z h) (ap (λ (z : Bool). z && not (f.planned turn)) on ∙ ap not free) s) (λ o. free) k
        by true false on free s = newly_sent (subst (λ (z : Bool). SentAs R plans geometry g m v f msg z h) (ap (λ (z : Bool). z && not (f.planned turn)) on ∙ ap not free) s) on free k
