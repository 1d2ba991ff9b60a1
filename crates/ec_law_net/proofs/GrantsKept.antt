-- What a log keeps of locks, where one brick changes; and that a grant is given once.
use Rattle.std.proofs.Common.{◌≡◌, ◌≢◌, ◌⊎◌, ℕ, ◌<◌, Bool, true, false, cond, ◌==◌, Some, List, [], ◌∷◌, ◌++◌, refl, sym, ◌∙◌, ap, subst, arith, inl, inr, ⊎_elim}
use Rattle.std.proofs.lemmas.Bool.Decides.{nat_tests}
use Rattle.std.specs.Prelude.{filter}
use Rattle.ec_attr.specs.declared.kind.Domain.{Domain}
use Rattle.ec_attr.specs.declared.kind.Domain.TheVariants.{Inode, Heal}
use Rattle.ec_locks.specs.Table.{has, same_domain, stays}
use Rattle.ec_locks.specs.declared.ask.Ask.{Ask as Asking}
use Rattle.ec_locks.specs.declared.ask.Leaving.{Leaving}
use Rattle.ec_store.specs.Put.{put}
use Rattle.ec_wire.specs.declared.message.Body.TheVariants.{ToBrick}
use Rattle.ec_wire.specs.declared.message.Message.{Message}
use Rattle.ec_wire.specs.declared.request.Request.TheVariants.{Ask}
use Rattle.ec_brick.specs.State.{State as Brick}
use Rattle.ec_history.specs.Run.{Net, Owed}
use Rattle.ec_law_base.specs.State.{State}
use Rattle.ec_law_net.specs.Turns.{View, exclusive}
use Rattle.ec_law_net.specs.Link.{GrantsReady}
use Rattle.ec_law_net.specs.Grants.{AreAsks, AsksIn, AsksOnce, Granted, HealsReady, IsAskOf, LocksStand}
use Rattle.ec_law_net.proofs.GrantActs.{Newly}
use Rattle.ec_law_net.proofs.Tables.{as_one, asked, gone_filter, kept_append, kept_filter, missing_append, missing_filter}

domain_is : (d : Domain) → same_domain d Inode ≡ true → d ≡ Inode
domain_is Inode e = refl
domain_is Heal e = absurd (cc)

-- who has the content asked for it
pub asks_in : (g : ℕ) (m : Net) (v : View) (b i : ℕ) (asks : List Asking) → AreAsks m b asks → exclusive g Inode asks ≡ Some i → AsksIn g m v i b (v.of i)
asks_in g m v b i asks are e =
    let o = asked m b g Inode [] asks i are e in
    record {
      message = o.1.message;
      gfid = o.0.gfid;
      kind = o.0.kind;
      said = ap m.said (sym o.2) ∙ o.1.said;
      brick = o.1.brick;
      body = o.1.body ∙ ap (λ (d : Domain). ToBrick (Ask o.0.gfid d o.0.kind)) (domain_is o.0.domain o.4);
      on = o.3;
      turn = refl;
    }

pub in_table : (g : ℕ) (m : Net) (b i : ℕ) (asks : List Asking) → AreAsks m b asks → exclusive g Inode asks ≡ Some i → (has asks i ≡ true) × (m.flying i ≡ false)
in_table g m b i asks are e = let o = asked m b g Inode [] asks i are e in (o.5, ap m.flying (sym o.2) ∙ o.1.landed)

-- A turn is granted once: of new asks among which only one in flight was not there before.
pub granted_once : (n g : ℕ) (m : Net) (v : View) (b : ℕ) (lt : b < n) (new : List Asking) → LocksStand n g m v → AsksOnce g m v → ((i : ℕ) → exclusive g Inode new ≡ Some i → AsksIn g m v i b (v.of i)) → ((i : ℕ) → exclusive g Inode new ≡ Some i → has (m.brick b).asks i ≡ false → m.flying i ≡ true) → HealsReady g m v b (m.brick b).asks new → GrantsReady g m v b (m.brick b).asks new
granted_once n g m v b lt new l once asks comes heals = record {
  content = λ i e ne. (never i (v.core.granted (v.of i) b) refl e ne, real i (v.core.old (v.of i)) refl e);
  heal = heals;
}
  where
    never : (i : ℕ) (t : Bool) → v.core.granted (v.of i) b ≡ t → exclusive g Inode new ≡ Some i → exclusive g Inode (m.brick b).asks ≢ Some i → v.core.granted (v.of i) b ≡ false
    never i false h e ne = h
    never i true h e ne =
        let o = l.once (v.of i) b lt h in
        let same = once o.number i b (v.of i) o.asked (asks i e) in
        absurd (⊎_elim (λ gone. let f = comes i e (subst (λ (j : ℕ). has (m.brick b).asks j ≡ false) same gone) in let x = subst (λ (j : ℕ). m.flying j ≡ false) same o.landed in cc) (λ has_it. ne (has_it ∙ ap (λ (j : ℕ). Some j) same)) o.stands)

    real : (i : ℕ) (t : Bool) → v.core.old (v.of i) ≡ t → exclusive g Inode new ≡ Some i → v.core.old (v.of i) ≡ false
    real i false h e = h
    real i true h e = absurd (let x = l.old (v.of i) h in let y = l.turns i b (v.of i) (asks i e) in omega arith)

-- the net with another brick, and messages that have landed
abbrev pub changed : Net → ℕ → Brick → (ℕ → Bool) → List Owed → Net
changed m b new flying owed = record m { flying = flying; owed = owed; brick = put m.brick b new }

abbrev pub Lands : Net → (ℕ → Bool) → Type 0
Lands m flying = (i : ℕ) → m.flying i ≡ false → flying i ≡ false

-- what stands of an ask that was granted
abbrev pub Stays : ℕ → Net → List Asking → List Asking → Type 0
Stays g m old new = (i : ℕ) (msg : Message) → m.said i ≡ Some msg → m.flying i ≡ false → (has old i ≡ false) ⊎ (exclusive g Inode old ≡ Some i) → (has new i ≡ false) ⊎ (exclusive g Inode new ≡ Some i)

module _ (m t : Net) (said : (i : ℕ) (msg : Message) → m.said i ≡ Some msg → t.said i ≡ Some msg) (lands : (i : ℕ) (msg : Message) → m.said i ≡ Some msg → m.flying i ≡ false → t.flying i ≡ false) where
  pub is_ask_later : (b : ℕ) (a : Asking) → IsAskOf m b a → IsAskOf t b a
  is_ask_later b a h = record { message = h.message; said = said a.number h.message h.said; brick = h.brick; client = h.client; body = h.body; landed = lands a.number h.message h.said h.landed }

  pub are_asks_later : (b : ℕ) (asks : List Asking) → AreAsks m b asks → AreAsks t b asks
  are_asks_later b [] h = tt
  are_asks_later b (a ∷ asks) h = (is_ask_later b a h.0, are_asks_later b asks h.1)

pub are_filter : (m : Net) (b : ℕ) (p : Asking → Bool) (asks : List Asking) → AreAsks m b asks → AreAsks m b (filter p asks)
are_filter m b p [] h = tt
are_filter m b p (a ∷ asks) h = at (p a) (are_filter m b p asks h.1)
  where
    at : (t : Bool) → AreAsks m b (filter p asks) → AreAsks m b (cond t (a ∷ filter p asks) (filter p asks))
    at true r = (h.0, r)
    at false r = r

pub are_append : (m : Net) (b : ℕ) (asks : List Asking) (e : Asking) → AreAsks m b asks → IsAskOf m b e → AreAsks m b (asks ++ e ∷ [])
are_append m b [] e h i = (i, tt)
are_append m b (a ∷ asks) e h i = (h.0, are_append m b asks e h.1 i)

-- who leaves loses the grant, who stays keeps it
pub stays_filter : (g : ℕ) (m : Net) (b : ℕ) (l : Leaving) (asks : List Asking) → AreAsks m b asks → Stays g m asks (filter (stays l) asks)
stays_filter g m b l asks are i msg said landed (inl e) = inl (missing_filter (stays l) asks i e)
stays_filter g m b l asks are i msg said landed (inr e) = ⊎_elim (λ stay. inr (kept_filter g Inode l asks i stay e)) (λ go. inl (gone_filter (stays l) asks i go)) (as_one m b l asks i msg said are)

pub stays_append : (g : ℕ) (m : Net) (asks : List Asking) (e : Asking) → m.flying e.number ≡ true → Stays g m asks (asks ++ e ∷ [])
stays_append g m asks e flies i msg said landed (inl h) = inl (missing_append asks e i h (λ (q : e.number ≡ i). let x = sym flies ∙ (ap m.flying q ∙ landed) in cc))
stays_append g m asks e flies i msg said landed (inr h) = inr (kept_append g Inode asks e i h)

-- where one brick changes
pub locks_brick : (n g : ℕ) (m : Net) (v : View) (b : ℕ) (new : Brick) (flying : ℕ → Bool) (owed : List Owed) (s : State) → LocksStand n g m v → Lands m flying → (b < n → AreAsks (changed m b new flying owed) b new.asks) → Stays g m (m.brick b).asks new.asks → Newly v.of b (exclusive g Inode new.asks) v.core s → ((a : ℕ) → s.old a ≡ v.core.old a) → LocksStand n g (changed m b new flying owed) (record v { core = s })
locks_brick n g m v b new flying owed s l lands are stays newly old = record {
  asks = λ c lt. at c (λ (z : Brick). AreAsks (changed m b new flying owed) c z.asks) (λ e. subst (λ (x : ℕ). AreAsks (changed m b new flying owed) x new.asks) (sym e) (are (subst (λ (x : ℕ). x < n) e lt))) (λ ne. are_asks_later m (changed m b new flying owed) (λ i msg e. e) (λ i msg e f. lands i f) c (m.brick c).asks (l.asks c lt));
  once = λ a c lt e. ⊎_elim (λ h. before a c (l.once a c lt h)) (λ h. fresh a c lt h.0 h.1 h.2 h.3) (newly a c e);
  begun = l.begun;
  turns = λ i c a h. l.turns i c a (record { message = h.message; gfid = h.gfid; kind = h.kind; said = h.said; brick = h.brick; body = h.body; on = h.on; turn = h.turn });
  old = λ a e. l.old a (sym (old a) ∙ e);
  none = old 0 ∙ l.none;
}
  where
    at : (c : ℕ) (P : Brick → Type 0) → (c ≡ b → P new) → (c ≢ b → P (m.brick c)) → P (put m.brick b new c)
    at c P one other = either (c == b) refl
      where
        either : (u : Bool) → (c == b) ≡ u → P (cond u new (m.brick c))
        either true e = one (grind (arith, nat_tests))
        either false e = other (λ (z : c ≡ b). grind (arith, nat_tests))

    before : (a c : ℕ) → Granted g m v a c → Granted g (changed m b new flying owed) (record v { core = s }) a c
    before a c o = record {
      number = o.number;
      asked = record { message = o.asked.message; gfid = o.asked.gfid; kind = o.asked.kind; said = o.asked.said; brick = o.asked.brick; body = o.asked.body; on = o.asked.on; turn = o.asked.turn };
      landed = lands o.number o.landed;
      stands = at c (λ (z : Brick). (has z.asks o.number ≡ false) ⊎ (exclusive g Inode z.asks ≡ Some o.number)) (λ e. stays o.number o.asked.message o.asked.said o.landed (subst (λ (x : ℕ). (has (m.brick x).asks o.number ≡ false) ⊎ (exclusive g Inode (m.brick x).asks ≡ Some o.number)) e o.stands)) (λ ne. o.stands);
    }

    fresh : (a c : ℕ) → c < n → c ≡ b → (i : ℕ) → exclusive g Inode new.asks ≡ Some i → a ≡ v.of i → Granted g (changed m b new flying owed) (record v { core = s }) a c
    fresh a c lt e i h turn =
        let there = are (subst (λ (x : ℕ). x < n) e lt) in
        let o = asks_in g (changed m b new flying owed) (record v { core = s }) b i new.asks there h in
        record {
          number = i;
          asked = record { message = o.message; gfid = o.gfid; kind = o.kind; said = o.said; brick = o.brick ∙ sym e; body = o.body; on = o.on; turn = sym turn };
          landed = (in_table g (changed m b new flying owed) b i new.asks there h).1;
          stands = inr (at c (λ (z : Brick). exclusive g Inode z.asks ≡ Some i) (λ q. h) (λ ne. absurd (ne e)));
        }
