-- A record is made at most once at a brick, and not where one was as the log began.
use Rattle.std.proofs.Common.{◌≡◌, ◌⊎◌, ℕ, ◌<◌, ◌≤◌, Bool, true, false, cond, ◌==◌, Option, Some, List, [], ◌∷◌, ◌++◌, refl, sym, ◌∙◌, ap, subst, arith, inl, inr, ⊎_elim}
use Rattle.ec_attr.specs.declared.geometry.Geometry.{Geometry}
use Rattle.ec_attr.specs.declared.gfid.Gfid.{Gfid}
use Rattle.ec_attr.specs.declared.kind.Child.{Child}
use Rattle.ec_attr.specs.declared.kind.Domain.TheVariants.{Inode}
use Rattle.ec_store.specs.Records.{Record}
use Rattle.ec_wire.specs.declared.entry.Entry.{Entry}
use Rattle.ec_wire.specs.declared.message.Body.{Body}
use Rattle.ec_wire.specs.declared.message.Body.TheVariants.{ToBrick}
use Rattle.ec_wire.specs.declared.message.Message.{Message}
use Rattle.ec_wire.specs.declared.request.Request.{Request}
use Rattle.ec_wire.specs.declared.request.Request.TheVariants.{Make}
use Rattle.ec_history.specs.Accounts.{Books}
use Rattle.ec_history.specs.Run.{Net, out_of}
use Rattle.ec_history.specs.Story.{Story, is_done}
use Rattle.ec_law_base.specs.State.{State}
use Rattle.ec_law_ballots.specs.Act.{Act, after as after_acts, step}
use Rattle.ec_law_ballots.specs.Act.Act.{Make as Makes}
use Rattle.ec_law_net.specs.Turns.{Maker, View, acts, acts_executed, acts_locks, acts_of_request, exclusive, seen_after}
use Rattle.ec_law_net.proofs.Locks.{held}
use Rattle.ec_law_turns.proofs.Basics.{itself, some_none}
use Rattle.ec_law_turns.proofs.MakesReady.{makes_ready}
use Rattle.ec_law_data.proofs.Reaching.{Reaches}
use Rattle.ec_law_grants.proofs.Changing.{IsBorn}
use Rattle.ec_law_grants.proofs.Entries.{Does}

-- A record of the gfid was made at brick b; or gfids are taken above it, so nobody makes one.
abbrev pub Had : ℕ → ℕ → View → ℕ → Type 0
Had first g v b = (v.core.born b ≡ true) ⊎ (g < first)

-- ## It stays so

set_one : (f : ℕ → Bool) (b : ℕ) (t : Bool) → f b ≡ true → cond t true (f b) ≡ true
set_one f b true h = refl
set_one f b false h = h

step_born : (s : State) (e : Act) (b : ℕ) → s.born b ≡ true → (step s e).born b ≡ true
step_born s (Makes c) b h = set_one s.born b (b == c) h
step_born s e b h = h

born_stays : (es : List Act) (s : State) (b : ℕ) → s.born b ≡ true → (after_acts es s).born b ≡ true
born_stays [] s b h = h
born_stays (e ∷ es) s b h = born_stays es (step s e) b (step_born s e b h)

pub had_then : (first g : ℕ) (m : Net) (v : View) (e : Entry) (b : ℕ) → Had first g v b → Had first g (seen_after g m v e) b
had_then first g m v e b (inl h) = inl (born_stays (acts g m v e) v.core b h)
had_then first g m v e b (inr lt) = inr lt

-- ## A Make that is done

born_now : (g : ℕ) (m : Net) (v : View) (i : ℕ) (version : Option ℕ) (failed : Bool) (msg : Message) (x : Gfid) (n : ℕ) (child : Child) → m.said i ≡ Some msg → msg.body ≡ ToBrick (Make x n child) → is_done (out_of m msg (Make x n child) version failed).says ≡ true → child.gfid.0 ≡ g → (after_acts (acts_executed g m v (m.said i) version failed) v.core).born msg.brick ≡ true
born_now g m v i version failed msg x n child said body done on =
    subst (λ (o : Option Message). (after_acts (acts_executed g m v o version failed) v.core).born msg.brick ≡ true) (sym said)
    (subst (λ (z : Body). (after_acts (acts_of_request g m v msg z version failed) v.core).born msg.brick ≡ true) (sym body)
    (by (is_done (out_of m msg (Make x n child) version failed).says) done (child.gfid.0 == g) (subst (λ (y : ℕ). (child.gfid.0 == y) ≡ true) on (itself child.gfid.0)) _))
  where
    locks : List Act
    locks = acts_locks g m v msg.brick (m.brick msg.brick).asks (out_of m msg (Make x n child) version failed).brick.asks

    by : (t : Bool) → t ≡ true → (u : Bool) → u ≡ true → (others : List Act) → (after_acts (cond t (cond u (Makes msg.brick ∷ []) []) others ++ locks) v.core).born msg.brick ≡ true
    by true e true f others = born_stays locks (step v.core (Makes msg.brick)) msg.brick (ap (λ (t : Bool). cond t true (v.core.born msg.brick)) (itself msg.brick))
    by true e false f others = absurd (cc)
    by false e u f others = absurd (cc)

pub born_then : (g : ℕ) (m : Net) (v : View) (e : Entry) (b : ℕ) (d : Does m e b) (was now : Option Record) → IsBorn (m.brick b) g d.request d.done was now → (seen_after g m v e).core.born b ≡ true
born_then g m v e b d was now h =
    let o = d.by h.is_done in
    let body = d.body ∙ ap (λ (q : Request). ToBrick q) h.is in
    let done = subst (λ (q : Request). is_done (out_of m d.message q o.0 o.1).says ≡ true) h.is o.3 in
    subst (λ (y : ℕ). (seen_after g m v e).core.born y ≡ true) d.brick
    (subst (λ (z : Entry). (after_acts (acts g m v z) v.core).born d.message.brick ≡ true) (sym o.2)
    (born_now g m v d.number o.0 o.1 d.message h.dir h.grant h.child d.said body done h.on))

-- It is of a gfid from the first one on that calls take, and no record was made there before.
module _ (geometry : Geometry) (first : ℕ) (origins : ℕ → ℕ) (new : (h : ℕ) → first ≤ h → origins h ≡ 0) (m : Net) (vs : ℕ → View) (t : Story) (books : Books) (k : Reaches geometry first origins m vs t books) (g : ℕ) (e : Entry) (b : ℕ) (d : Does m e b) (was now : Option Record) (h : IsBorn (m.brick b) g d.request d.done was now) where
  taken : (x : Maker) → (vs g).maker ≡ Some x → first ≤ g
  taken x is = ⊎_elim (λ none. absurd (some_none x (sym is ∙ none))) (λ le. le) (k.fresh g).taken

  body_is : d.message.body ≡ ToBrick (Make h.dir h.grant h.child)
  body_is = d.body ∙ ap (λ (q : Request). ToBrick q) h.is

  pub is_new : first ≤ g
  is_new = taken (record { call = d.message.call; dir = h.dir.0 }) ((k.reached g).by_maker d.number d.message (Make h.dir h.grant h.child) d.said body_is h.on).maker_is

  unborn : (vs g).core.born b ≡ false
  unborn =
      let ready = makes_ready geometry m vs books k.reached k.births g first (k.has g) (λ x is. (k.fresh g).same ∙ new g (taken x is)) in
      let made = ready d.number d.message (Make h.dir h.grant h.child) d.said body_is d.flying h.on (ap (λ (y : ℕ). exclusive h.dir.0 Inode (m.brick y).asks) d.brick ∙ held h.dir Inode (m.brick b).asks h.grant h.stands) in
      subst (λ (y : ℕ). (vs g).core.born y ≡ false) d.brick made.once

  pub had_not : Had first g (vs g) b → ⊥
  had_not (inl z) = let u = unborn in cc
  had_not (inr lt) = let le = is_new in omega (arith, le, lt)
