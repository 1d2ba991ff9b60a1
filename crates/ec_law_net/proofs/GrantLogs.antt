-- Every log keeps what it keeps of locks, and so grants were in order where each turn asks a brick once.
use Rattle.std.proofs.Common.{◌≡◌, ℕ, ◌<◌, Bool, true, false, cond, ◌==◌, Option, Some, List, [], ◌∷◌, ◌++◌, refl, sym, ◌∙◌, ap, subst, arith, inl, inr, ⊎_elim}
use Rattle.std.proofs.lemmas.Bool.Decides.{nat_tests}
use Rattle.std.specs.Prelude.{filter}
use Rattle.ec_attr.specs.declared.kind.Domain.TheVariants.{Inode}
use Rattle.ec_locks.specs.Table.{has, stays}
use Rattle.ec_locks.specs.declared.ask.Ask.{Ask as Asking}
use Rattle.ec_locks.specs.declared.ask.Leaving.{Leaving}
use Rattle.ec_store.specs.Put.{put}
use Rattle.ec_wire.specs.declared.message.Body.TheVariants.{ToBrick}
use Rattle.ec_wire.specs.declared.message.Message.{Message}
use Rattle.ec_wire.specs.declared.request.Request.{Request}
use Rattle.ec_brick.specs.State.{State as Brick}
use Rattle.ec_brick.specs.Step.{Out, executed}
use Rattle.ec_law_base.specs.State.{State}
use Rattle.ec_law_net.proofs.Tables.{missing_append, missing_filter}
use Rattle.ec_brick.specs.Step.{quiet as quiet_out}
use Rattle.ec_history.specs.Run.{Net, Owed, executed_by, failing, let_in_owed, out_of, own_owed}
use Rattle.ec_law_ballots.specs.Act.{after}
use Rattle.ec_law_net.specs.Turns.{View, acts_locks, acts_of_request, acts_worked, counted, exclusive}
use Rattle.ec_law_net.specs.Link.{GrantsReady, Linked}
use Rattle.ec_law_net.specs.Grants.{AreAsks, AsksOnce, HealsReady, IsAskOf, LocksStand}
use Rattle.ec_law_net.proofs.Changed.{after_both}
use Rattle.ec_law_net.proofs.GrantActs.{after_old, locks_newly, worked_keeps}
use Rattle.ec_law_net.proofs.GrantEntries.{Longer, Same_table, Shorter, Table_is, table}
use Rattle.ec_law_net.proofs.GrantsKept.{Lands, Stays, are_append, are_asks_later, are_filter, asks_in, changed, granted_once, in_table, locks_brick, stays_append, stays_filter}

landed_put : (f : ℕ → Bool) (j i : ℕ) → f i ≡ false → put f j false i ≡ false
landed_put f j i e = at (i == j)
  where
    at : (t : Bool) → cond t false (f i) ≡ false
    at true = refl
    at false = e

put_itself : (f : ℕ → Bool) (j : ℕ) → put f j false j ≡ false
put_itself f j = at (j == j) (grind (arith, nat_tests))
  where
    at : (t : Bool) → t ≡ true → cond t false (f j) ≡ false
    at true e = refl
    at false e = absurd (cc)

-- the new table of a brick: its asks have arrived, and of them only one in flight was not there before
pub record Tabled (g : ℕ) (m t : Net) (b : ℕ) (old new : List Asking) : Type 0 where
  pub are : AreAsks t b new
  pub stays : Stays g m old new
  pub comes : (i : ℕ) → exclusive g Inode new ≡ Some i → has old i ≡ false → m.flying i ≡ true

module _ (n g : ℕ) (m : Net) (v : View) (b : ℕ) (lt : b < n) (l : LocksStand n g m v) (nb : Brick) (flying : ℕ → Bool) (owed : List Owed) (lands : Lands m flying) where
  old_are : AreAsks (changed m b nb flying owed) b (m.brick b).asks
  old_are = are_asks_later m (changed m b nb flying owed) (λ i msg e. e) (λ i msg e f. lands i f) b (m.brick b).asks (l.asks b lt)

  there : (new : List Asking) → AreAsks (changed m b nb flying owed) b new → (i : ℕ) → exclusive g Inode new ≡ Some i → has new i ≡ true
  there new are i e = (in_table g (changed m b nb flying owed) b i new are e).0

  pub tabled_same : (new : List Asking) → new ≡ (m.brick b).asks → Tabled g m (changed m b nb flying owed) b (m.brick b).asks new
  tabled_same new e = record {
    are = subst (AreAsks (changed m b nb flying owed) b) (sym e) old_are;
    stays = subst (Stays g m (m.brick b).asks) (sym e) (λ i msg said landed h. h);
    comes = λ i h f. absurd (let x = there (m.brick b).asks old_are i (ap (exclusive g Inode) (sym e) ∙ h) in cc);
  }

  pub tabled_shorter : (k : Leaving) (new : List Asking) → new ≡ filter (stays k) (m.brick b).asks → Tabled g m (changed m b nb flying owed) b (m.brick b).asks new
  tabled_shorter k new e = record {
    are = subst (AreAsks (changed m b nb flying owed) b) (sym e) rest;
    stays = subst (Stays g m (m.brick b).asks) (sym e) (stays_filter g m b k (m.brick b).asks (l.asks b lt));
    comes = λ i h f. absurd (let x = there (filter (stays k) (m.brick b).asks) rest i (ap (exclusive g Inode) (sym e) ∙ h) in let y = missing_filter (stays k) (m.brick b).asks i f in cc);
  }
    where
      rest : AreAsks (changed m b nb flying owed) b (filter (stays k) (m.brick b).asks)
      rest = are_filter (changed m b nb flying owed) b (stays k) (m.brick b).asks old_are

  pub tabled_longer : (a : Asking) (new : List Asking) → IsAskOf (changed m b nb flying owed) b a → m.flying a.number ≡ true → new ≡ (m.brick b).asks ++ a ∷ [] → Tabled g m (changed m b nb flying owed) b (m.brick b).asks new
  tabled_longer a new is flies e = record {
    are = subst (AreAsks (changed m b nb flying owed) b) (sym e) more;
    stays = subst (Stays g m (m.brick b).asks) (sym e) (stays_append g m (m.brick b).asks a flies);
    comes = λ i h f. either i f (there ((m.brick b).asks ++ a ∷ []) more i (ap (exclusive g Inode) (sym e) ∙ h)) (a.number == i) refl;
  }
    where
      more : AreAsks (changed m b nb flying owed) b ((m.brick b).asks ++ a ∷ [])
      more = are_append (changed m b nb flying owed) b (m.brick b).asks a old_are is

      either : (i : ℕ) → has (m.brick b).asks i ≡ false → has ((m.brick b).asks ++ a ∷ []) i ≡ true → (t : Bool) → (a.number == i) ≡ t → m.flying i ≡ true
      either i f h true e = ap m.flying (equal i a.number e) ∙ flies
        where
          equal : (x y : ℕ) → (y == x) ≡ true → x ≡ y
          equal x y q = grind (arith, nat_tests)
      either i f h false e = absurd (let x = missing_append (m.brick b).asks a i f (λ (q : a.number ≡ i). differ a.number i e q) in cc)
        where
          differ : (x y : ℕ) → (x == y) ≡ false → x ≡ y → ⊥
          differ x y f e = grind (arith, nat_tests)

  pub ready_of : (new : List Asking) → AsksOnce g m v → Tabled g m (changed m b nb flying owed) b (m.brick b).asks new → HealsReady g m v b (m.brick b).asks new → GrantsReady g m v b (m.brick b).asks new
  ready_of new once tab heals = granted_once n g m v b lt new l once (λ i e. let h = asks_in g (changed m b nb flying owed) v b i new tab.are e in record { message = h.message; gfid = h.gfid; kind = h.kind; said = h.said; brick = h.brick; body = h.body; on = h.on; turn = h.turn }) tab.comes heals

module _ (n g : ℕ) (m : Net) (v : View) (link : Linked n g m v) (l : LocksStand n g m v) where
  -- a request that is executed
  module _ (i : ℕ) (msg : Message) (q : Request) (said : m.said i ≡ Some msg) (body : msg.body ≡ ToBrick q) (flies : m.flying i ≡ true) where
    lt : msg.brick < n
    lt = link.to i msg q said body

    tabled : (o : Out) (owed : List Owed) → Table_is (m.brick msg.brick).asks o.brick.asks msg.client msg.no q → Tabled g m (changed m msg.brick o.brick (put m.flying msg.no false) owed) msg.brick (m.brick msg.brick).asks o.brick.asks
    tabled o owed (Same_table e) = tabled_same n g m v msg.brick lt l o.brick (put m.flying msg.no false) owed (landed_put m.flying msg.no) o.brick.asks e
    tabled o owed (Shorter k e) = tabled_shorter n g m v msg.brick lt l o.brick (put m.flying msg.no false) owed (landed_put m.flying msg.no) k o.brick.asks e
    tabled o owed (Longer a number client is e) = tabled_longer n g m v msg.brick lt l o.brick (put m.flying msg.no false) owed (landed_put m.flying msg.no) a o.brick.asks (record {
      message = msg;
      said = ap m.said (number ∙ (link.said i msg said).0) ∙ said;
      brick = refl;
      client = sym client;
      body = body ∙ ap ToBrick is;
      landed = ap (put m.flying msg.no false) number ∙ put_itself m.flying msg.no;
    }) (ap m.flying (number ∙ (link.said i msg said).0) ∙ flies) e

    went : (version : Option ℕ) (failed : Bool) → (m.brick msg.brick).up ≡ true → out_of m msg q version failed ≡ executed (m.brick msg.brick) (failing failed version) msg.client msg.no q
    went version failed up = ap (λ (t : Bool). cond t (executed (m.brick msg.brick) (failing failed version) msg.client msg.no q) (quiet_out (m.brick msg.brick))) up

    table_of : (version : Option ℕ) (failed : Bool) → (m.brick msg.brick).up ≡ true → Table_is (m.brick msg.brick).asks (out_of m msg q version failed).brick.asks msg.client msg.no q
    table_of version failed up = subst (λ (o : Out). Table_is (m.brick msg.brick).asks o.brick.asks msg.client msg.no q) (sym (went version failed up)) (table (m.brick msg.brick) (failing failed version) msg.client msg.no q)

    pub ready_request : (version : Option ℕ) (failed : Bool) → (m.brick msg.brick).up ≡ true → AsksOnce g m v → HealsReady g m v msg.brick (m.brick msg.brick).asks (out_of m msg q version failed).brick.asks → GrantsReady g m v msg.brick (m.brick msg.brick).asks (out_of m msg q version failed).brick.asks
    ready_request version failed up once heals = ready_of n g m v msg.brick lt l (out_of m msg q version failed).brick (put m.flying msg.no false) [] (landed_put m.flying msg.no) (out_of m msg q version failed).brick.asks once (tabled (out_of m msg q version failed) [] (table_of version failed up)) heals

    pub locks_request : (version : Option ℕ) (failed : Bool) → (m.brick msg.brick).up ≡ true → LocksStand n g (executed_by m msg (ToBrick q) version failed) (record v { core = after (acts_of_request g m v msg (ToBrick q) version failed) v.core })
    locks_request version failed up =
        let o = out_of m msg q version failed in
        let owed = own_owed msg o.says ++ let_in_owed m msg.brick o in
        let tab = tabled o owed (table_of version failed up) in
        let xs = acts_worked g (v.of msg.no) msg.brick (counted v.core (v.of msg.no) (exclusive g Inode (m.brick msg.brick).asks)) q o.says in
        let ys = acts_locks g m v msg.brick (m.brick msg.brick).asks o.brick.asks in
        locks_brick n g m v msg.brick o.brick (put m.flying msg.no false) owed (after (xs ++ ys) v.core) l (landed_put m.flying msg.no) (λ h. tab.are) tab.stays
        (λ a c e. ⊎_elim (λ h. inl (sym (worked_keeps g (v.of msg.no) msg.brick (counted v.core (v.of msg.no) (exclusive g Inode (m.brick msg.brick).asks)) q o.says v.core a c) ∙ h)) (λ h. inr h) (locks_newly g m v msg.brick (m.brick msg.brick).asks o.brick.asks (after xs v.core) a c (subst (λ (s : State). s.granted a c ≡ true) (after_both xs ys v.core) e)))
        (after_old (xs ++ ys) v.core)
