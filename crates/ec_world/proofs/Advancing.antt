-- Single steps, as events.
use Rattle.std.proofs.Common.{◌≡◌, ℕ, ◌<◌, Bool, true, Option, Some, None, List, Result, Ok, Err, [], ◌∷◌, ◌++◌, refl, sym, ◌∙◌, ap, subst, arith, append-nil, length, zero, suc}
use Rattle.std.specs.Prelude.{slice_get}
use Rattle.std.specs.List.{list_all}
use Rattle.ec_attr.specs.declared.geometry.Geometry.{Geometry}
use Rattle.ec_brick.specs.Meets.{is_fault}
use Rattle.ec_clients.specs.Beginning.{AreAsMany}
use Rattle.ec_clients.specs.Come.{Come, come}
use Rattle.ec_clients.specs.Frames.{AreFrom, AreOfBricks, AreWithin}
use Rattle.ec_clients.specs.Owned.{Sees}
use Rattle.ec_clients.specs.Steps.{Seen}
use Rattle.ec_clients.specs.declared.clients.Clients.{Clients}
use Rattle.ec_clients.proofs.Goings.{net_is}
use Rattle.ec_clients.proofs.Booking.{sees_come}
use Rattle.ec_clients.proofs.Owning.{bricks_fit}
use Rattle.ec_cluster.specs.Entries.{reply_entries}
use Rattle.ec_cluster.specs.Matches.{Matches, StandsAs}
use Rattle.ec_cluster.specs.Said.{said_in}
use Rattle.ec_cluster.specs.Sound.{IsSound}
use Rattle.ec_cluster.specs.Steps.{Advances as ClusterAdvances, Always, Breaks as ClusterBreaks, Executes, IsBegun}
use Rattle.ec_cluster.specs.Tears.{Tears}
use Rattle.ec_cluster.specs.Views.{bricks_of, log_of, next_of, size_of}
use Rattle.ec_cluster.specs.declared.cluster.Cluster.{Cluster}
use Rattle.ec_conduct.specs.Given.{Given}
use Rattle.ec_conduct.specs.Own.{Own}
use Rattle.ec_history.specs.IsRun.{IsRun}
use Rattle.ec_history.specs.Run.{Net, run}
use Rattle.ec_history.specs.Script.{Step, entries_of, is_of_course}
use Rattle.ec_locks.specs.declared.waiters.Waiter.{Waiter}
use Rattle.ec_store.specs.Records.{Records}
use Rattle.ec_txn.specs.declared.ctx.Ctx.{Ctx}
use Rattle.ec_wire.specs.declared.entry.Entry.{Entry}
use Rattle.ec_wire.specs.declared.entry.Entry.TheVariants.{Executed, Torn}
use Rattle.ec_wire.specs.declared.message.Message.{Message}
use Rattle.ec_wire.specs.declared.reply.Reply.{Reply}
use Rattle.ec_world.specs.Events.{Advances, Breaks}
use Rattle.ec_world.specs.Steps.{IsTear, NoneOr, OneStep}
use Rattle.ec_cluster.proofs.Following.{replies_follow}
use Rattle.ec_world.proofs.Following.{replies_within}

-- what the law of the clients says of bricks
abbrev pub BrickLaw : {C : Type 0} → (Ctx → Given → C → List Own → Type 0) → (Ctx → Given → List Own → Type 0) → Type 0
BrickLaw {C} stands by_table = (s t : Cluster) (c : Clients C) (es : List Entry) → IsSound s → log_of t ≡ log_of s ++ es → AreOfBricks es → AreFrom (next_of s) es → (p : Come) → Seen stands by_table s c None p → Seen stands by_table t c None (come c.options.geometry es p)

abbrev pub step_of : Entry → List Entry → Step
step_of e es = record { named = e; follow = es }

pub one : (e : Entry) (es : List Entry) → entries_of (step_of e es ∷ []) ≡ e ∷ es
one e es = ap (λ (l : List Entry). e ∷ l) (append-nil es)

-- entries so far, as a step
abbrev pub so_far : List Entry → List Step
so_far [] = []
so_far (e ∷ es) = step_of e es ∷ []

pub so_far_is : (es : List Entry) → entries_of (so_far es) ≡ es
so_far_is [] = refl
so_far_is (e ∷ es) = one e es

pub so_far_named : (Named : Entry → Type 0) (Is : Net → Entry → Type 0) (p : Come) (es : List Entry) → ((e : Entry) → Named e → Is p.net e) → IsBegun Named es → NoneOr (OneStep Is) p (so_far es)
so_far_named Named Is p [] f h = tt
so_far_named Named Is p (e ∷ es) f h = (f e h.0, h.1)

pub as_many : {C : Type 0} (c : Clients C) → AreAsMany c c
as_many c = record { slots = refl; lives = refl }

pub has_place : {X : Type 0} (xs : List X) (b : ℕ) → b < length xs → (x : X) × (slice_get xs b ≡ Some x)
has_place [] b lt = absurd (omega arith)
has_place (x ∷ xs) zero lt = (x, refl)
has_place (x ∷ xs) (suc b) lt = has_place xs b (omega arith)

module _ {C : Type 0} (stands : Ctx → Given → C → List Own → Type 0) (by_table : Ctx → Given → List Own → Type 0) where
  -- what a step is
  pub one_step : (Told : Type 0) (Is : Net → Entry → Type 0) (s t : Cluster) (c d : Clients C) (before after : List Records) (e : Entry) (es : List Entry)
      → list_all is_of_course es ≡ true
      → log_of t ≡ log_of s ++ e ∷ es → size_of t ≡ size_of s → d.options ≡ c.options → AreAsMany c d → IsSound t
      → ((p : Come) → Sees stands by_table s c p → Sees stands by_table t d (come c.options.geometry (e ∷ es) p))
      → (Told → (p : Come) → Sees stands by_table s c p → Matches s before p.net → IsRun (size_of s) (e ∷ es) p.net × Matches t after (come c.options.geometry (e ∷ es) p).net × Is p.net e)
      → Advances stands by_table Told (OneStep Is) s t c d before after
  one_step Told Is s t c d before after e es follow log size options many sound leads runs = record {
    steps = step_of e es ∷ [];
    log = log ∙ ap (λ (l : List Entry). log_of s ++ l) (sym (one e es));
    size = size;
    options = options;
    many = many;
    sound = sound;
    leads = λ p h. subst (λ (l : List Entry). Sees stands by_table t d (come c.options.geometry l p)) (sym (one e es)) (leads p h);
    runs = λ told p h m.
        let r = runs told p h m in
        subst (λ (l : List Entry). IsRun (size_of s) l p.net × Matches t after (come c.options.geometry l p).net × OneStep Is p (step_of e es ∷ [])) (sym (one e es)) (r.0, r.1, (r.2, follow));
  }

  pub brick_sees : (law : BrickLaw stands by_table) (s t : Cluster) (c : Clients C) (es : List Entry) → IsSound s → log_of t ≡ log_of s ++ es → size_of t ≡ size_of s → AreOfBricks es → AreFrom (next_of s) es → AreWithin (size_of s) es → (p : Come) → Sees stands by_table s c p → Sees stands by_table t c (come c.options.geometry es p)
  brick_sees law s t c es sound log size bricks from within p h = sees_come stands by_table s t c c c.options.geometry es p size (bricks_fit es p.net bricks) within (law s t c es sound log bricks from p h.seen) h

  -- a step of bricks
  pub brick_advances : (law : BrickLaw stands by_table) (Told : Type 0) (Is : Net → Entry → Type 0) (s t : Cluster) (c : Clients C) (records : List Records) (e : Entry) (es : List Entry) → IsSound s → ClusterAdvances Always s t (e ∷ es) → AreOfBricks (e ∷ es) → AreFrom (next_of s) (e ∷ es) → AreWithin (size_of s) (e ∷ es) → list_all is_of_course es ≡ true → ((m : Net) → Is m e) → Advances stands by_table Told (OneStep Is) s t c c records records
  brick_advances law Told Is s t c records e es sound adv bricks from within follow is =
      one_step Told Is s t c c records records e es follow adv.log adv.size refl (as_many c) adv.sound
      (λ p h. brick_sees law s t c (e ∷ es) sound adv.log adv.size bricks from within p h)
      (λ told p h m. let r = adv.runs records p.net m tt in (r.0, subst (Matches t records) (sym (net_is c.options.geometry (e ∷ es) p)) r.1, is p.net))

  -- an execution
  pub executes_advances : (law : BrickLaw stands by_table) (replies : (said : ℕ → Option Message) (q : Message) (i : ℕ) (reply : Option Reply) (ws : List Waiter) → AreOfBricks (reply_entries said q i reply ws) × AreFrom i (reply_entries said q i reply ws)) (Told : Type 0) (Is : Net → Entry → Type 0) (s t : Cluster) (c : Clients C) (before after : List Records) (faults_before faults_after : List ℕ) (num : ℕ) → IsSound s → Executes Told s t before after faults_before faults_after num → ((m : Net) (version : Option ℕ) (failed : Bool) → Is m (Executed num version failed)) → Advances stands by_table Told (OneStep Is) s t c c before after
  executes_advances law replies Told Is s t c before after fb fa num sound x is =
      let es : List Entry = reply_entries (said_in (log_of s)) x.message (next_of s) x.effects.reply x.effects.granted in
      let e : Entry = Executed num x.effects.version (is_fault x.effects.reply) in
      let r = replies (said_in (log_of s)) x.message (next_of s) x.effects.reply x.effects.granted in
      one_step Told Is s t c c before after e es (replies_follow (said_in (log_of s)) x.message (next_of s) x.effects.reply x.effects.granted) x.log x.size refl (as_many c) x.sound
      (λ p h. brick_sees law s t c (e ∷ es) sound x.log x.size (refl, r.0) (tt, r.1) (tt, replies_within (size_of s) (said_in (log_of s)) x.message (next_of s) x.effects.reply x.effects.granted (sound.flies num x.message x.sent).brick) p h)
      (λ told p h m. let y = x.runs told p.net m tt in (y.0, subst (Matches t after) (sym (net_is c.options.geometry (e ∷ es) p)) y.1, is p.net x.effects.version (is_fault x.effects.reply)))

  -- where there is no memory
  pub begun_breaks : (Told : Type 0) (Named : Entry → Type 0) (Is : Net → Entry → Type 0) (s t : Cluster) (c : Clients C) (before after : List Records) (es : List Entry) → log_of t ≡ log_of s ++ es → IsBegun Named es → ((p : Come) → Sees stands by_table s c p → (e : Entry) → Named e → Is p.net e) → (Told → (p : Come) → Sees stands by_table s c p → Matches s before p.net → IsRun (size_of s) es p.net × StandsAs (size_of s) after (come c.options.geometry es p).net) → Breaks stands by_table Told (NoneOr (OneStep Is)) s t c before after
  begun_breaks Told Named Is s t c before after es log begun is runs = record {
    steps = so_far es;
    log = log ∙ ap (λ (l : List Entry). log_of s ++ l) (sym (so_far_is es));
    runs = λ told p h m.
        let r = subst (λ (l : List Entry). IsRun (size_of s) l p.net × StandsAs (size_of s) after (come c.options.geometry l p).net) (sym (so_far_is es)) (runs told p h m) in
        (r.0, r.1, so_far_named Named Is p es (is p h) begun);
  }

  pub cluster_breaks : (Told : Type 0) (Named : Entry → Type 0) (Is : Net → Entry → Type 0) (s t : Cluster) (c : Clients C) (before after : List Records) → ((m : Net) (e : Entry) → Named e → Is m e) → ClusterBreaks Named Told s t before after → Breaks stands by_table Told (NoneOr (OneStep Is)) s t c before after
  cluster_breaks Told Named Is s t c before after is b = begun_breaks Told Named Is s t c before after b.entries b.log b.begun (λ p h e n. is p.net e n)
      (λ told p h m. let r = b.runs told p.net m in (r.0, subst (StandsAs (size_of s) after) (sym (net_is c.options.geometry b.entries p)) r.1))

  -- nothing was done
  pub same_breaks : (Told : Type 0) (First : Come → List Step → Type 0) (s t : Cluster) (c : Clients C) (records : List Records) → ((p : Come) → First p []) → log_of t ≡ log_of s → Breaks stands by_table Told First s t c records records
  same_breaks Told First s t c records none e = record {
    steps = [];
    log = e ∙ sym (append-nil _);
    runs = λ told p h m. (tt, λ b r lt is. let k = has_place (bricks_of s) b lt in (m.bricks b k.0 r k.1 is).known.known, none p);
  }

-- a write that is cut short
module _ {C : Type 0} (stands : Ctx → Given → C → List Own → Type 0) (by_table : Ctx → Given → List Own → Type 0) where
  pub tears_advances : (law : BrickLaw stands by_table) (Told : Type 0) (s t : Cluster) (c : Clients C) (before after : List Records) (faults_before faults_after : List ℕ) (num count : ℕ) → IsSound s → Tears Told s t before after faults_before faults_after num count → Advances stands by_table Told (OneStep (IsTear num count)) s t c c before after
  tears_advances law Told s t c before after fb fa num count sound x =
      one_step stands by_table Told (IsTear num count) s t c c before after (Torn num count x.version) [] refl x.log x.size refl (as_many c) x.sound
      (λ p h. brick_sees stands by_table law s t c (Torn num count x.version ∷ []) sound x.log x.size (refl, tt) (tt, tt) (tt, tt) p h)
      (λ told p h m. let y = x.runs told p.net m tt in (y.0, subst (Matches t after) (sym (net_is c.options.geometry (Torn num count x.version ∷ []) p)) y.1, (x.version, refl)))
