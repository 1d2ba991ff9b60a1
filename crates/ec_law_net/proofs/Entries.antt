-- Each entry of a run: its acts may come, and the link stands after them.
use Rattle.std.proofs.Common.{◌≡◌, ◌⊎◌, ℕ, ◌<◌, Bool, true, false, not, cond, ◌&&◌, Option, Some, None, List, [], ◌∷◌, ◌++◌, refl, sym, ◌∙◌, ap, subst, arith, inl, inr}
use Rattle.std.proofs.lemmas.Bool.Decides.{nat_tests}
use Rattle.std.specs.Option.{option_map}
use Rattle.ec_law_ballots.specs.Act.{Act, after}
use Rattle.ec_law_ballots.specs.Act.Act.{Stop, Replace}
use Rattle.ec_law_ballots.specs.Guard.{Runs}
use Rattle.ec_law_net.specs.Turns.{View}
use Rattle.std.specs.Prelude.{is_some, nat_lt}
use Rattle.ec_attr.specs.Bricks.{count_below}
use Rattle.ec_attr.specs.declared.kind.Domain.TheVariants.{Inode}
use Rattle.ec_locks.specs.Table.{stays}
use Rattle.ec_locks.specs.declared.ask.Leaving.TheVariants.{Client}
use Rattle.ec_store.specs.Put.{put}
use Rattle.ec_store.specs.Records.{Record, head_at}
use Rattle.ec_wire.specs.declared.entry.Entry.TheVariants.{Sent, Executed, Stopped, Returned, Cut, Torn, Replaced}
use Rattle.ec_wire.specs.declared.message.Body.{Body}
use Rattle.ec_wire.specs.declared.message.Body.TheVariants.{ToBrick}
use Rattle.ec_wire.specs.declared.message.Message.{Message}
use Rattle.ec_wire.specs.declared.request.Request.{Request}
use Rattle.ec_brick.specs.State.{State as Brick}
use Rattle.ec_brick.specs.Meets.{failing_at}
use Rattle.ec_brick.specs.Step.{Out, cut_off, executed as executed_at, quiet as quiet_out, started, stopped, torn_off as torn_at}
use Rattle.ec_history.specs.IsRun.{MayExecute, MaySay, MayTear}
use Rattle.ec_history.specs.Run.{Net, after as net_after, executed, executed_as, executed_by, failing, out_of, torn_by, torn_off, torn_out, wiped}
use Rattle.ec_law_net.specs.Turns.{acts, acts_executed, acts_of_request, acts_torn, acts_locks, acts_worked, counted, exclusive, noted, turn_after, turn_of}
use Rattle.ec_law_net.specs.Link.{Below, BodyReady, GrantsReady, Linked, MessageReady}
use Rattle.ec_law_net.proofs.AtBrick.{Does, below_filter, does, loses, rests, stops, torn_down, torn_heads}
use Rattle.ec_law_net.proofs.Linking.{Replaces, linked_brick, linked_same}
use Rattle.ec_law_net.proofs.Sending.{linked_sent, sent_alike}
use Rattle.ec_law_net.proofs.Standing.{Stepped, own_grants, stepped_locks}

-- what an entry leaves
pub record Goes (n k g : ℕ) (m t : Net) (v w : View) (xs : List Act) : Type 0 where
  pub runs : Runs n k xs v.core
  pub linked : Linked n g t (record w { core = after xs v.core })

module _ (n k g : ℕ) (m : Net) (v : View) (l : Linked n g m v) where
  -- one brick is another after it
  at_brick : (b : ℕ) (new : Brick) (t : Net) (xs : List Act) → b < n → Replaces m t b new → Below m.next new.asks → (new.up ≡ false → (new.asks ≡ []) × (new.removed g ≡ false)) → Stepped n k g m v b xs new → Goes n k g m t v v xs
  at_brick b new t xs lt r below down st = record { runs = st.runs; linked = linked_brick n g m t v b new (after xs v.core) l r st.stands (λ h. below) down }

  pub on_stopped : (b : ℕ) → b < n → Goes n k g m (net_after m (Stopped b)) v v (Stop b ∷ [])
  on_stopped b lt = at_brick b (stopped (m.brick b)) (net_after m (Stopped b)) (Stop b ∷ []) lt (record { brick = λ c. refl; said = refl; next = refl }) tt (λ e. (refl, refl)) (stops n k g m v b lt l (stopped (m.brick b)) refl refl refl)

  pub on_returned : (b : ℕ) → b < n → Goes n k g m (net_after m (Returned b)) v v []
  on_returned b lt = at_brick b (started (m.brick b)) (net_after m (Returned b)) [] lt (record { brick = λ c. refl; said = refl; next = refl }) (l.asked b lt) (λ e. absurd (cc)) (rests n k g m v b lt l (started (m.brick b)) refl refl refl)

  pub on_cut : (client b : ℕ) → b < n → (m.brick b).up ≡ true → GrantsReady g m v b (m.brick b).asks (cut_off (m.brick b) client).brick.asks → Goes n k g m (net_after m (Cut client b)) v v (acts g m v (Cut client b))
  on_cut client b lt up ready = at_brick b (cut_off (m.brick b) client).brick (net_after m (Cut client b)) (acts g m v (Cut client b)) lt (record { brick = λ c. refl; said = refl; next = refl }) (below_filter m.next (stays (Client client)) (m.brick b).asks (l.asked b lt)) (λ e. absurd (let f = sym e ∙ up in cc)) (stepped_locks n k g m v b (l.heads b lt) (l.removed b lt) (l.holders b lt) (l.healers b lt) (l.makers b lt) (own_grants n g m v l) (cut_off (m.brick b) client).brick refl refl ready)

  pub on_replaced : (b removed : ℕ) (all : Bool) → b < n → (m.brick b).up ≡ false → Goes n k g m (net_after m (Replaced b removed all)) v v (acts g m v (Replaced b removed all))
  on_replaced b removed all lt down = at_brick b (record (m.brick b) { records = wiped removed all (m.brick b).records }) (net_after m (Replaced b removed all)) (acts g m v (Replaced b removed all)) lt (record { brick = λ c. refl; said = refl; next = refl }) (l.asked b lt) (λ e. let d = l.down b lt down in (d.asks, d.removed)) (either (is_some ((m.brick b).records g) && not (is_some (wiped removed all (m.brick b).records g))) refl)
    where
      gone : (o : Option Record) → is_some o ≡ false → option_map (λ (r : Record). r.head) o ≡ None
      gone None e = refl
      gone (Some r) e = absurd (cc)

      kept : (all : Bool) → (wiped removed all (m.brick b).records g ≡ None) ⊎ (wiped removed all (m.brick b).records g ≡ (m.brick b).records g)
      kept true = inl refl
      kept false = below (nat_lt (count_below g (λ x. is_some ((m.brick b).records x))) removed)
        where
          below : (t : Bool) → (cond t None ((m.brick b).records g) ≡ None) ⊎ (cond t None ((m.brick b).records g) ≡ (m.brick b).records g)
          below true = inl refl
          below false = inr refl

      alike : (is_some ((m.brick b).records g) && not (is_some (wiped removed all (m.brick b).records g))) ≡ false → (wiped removed all (m.brick b).records g ≡ None) ⊎ (wiped removed all (m.brick b).records g ≡ (m.brick b).records g) → head_at (wiped removed all (m.brick b).records) g ≡ head_at (m.brick b).records g
      alike f (inr e) = ap (option_map (λ (r : Record). r.head)) e
      alike f (inl e) = ap (option_map (λ (r : Record). r.head)) e ∙ sym (gone ((m.brick b).records g) (let h = rw e at f in grind (arith, nat_tests)))

      either : (t : Bool) → (is_some ((m.brick b).records g) && not (is_some (wiped removed all (m.brick b).records g))) ≡ t → Stepped n k g m v b (cond t (Replace b ∷ []) []) (record (m.brick b) { records = wiped removed all (m.brick b).records })
      either true e = loses n k g m v b lt l (record (m.brick b) { records = wiped removed all (m.brick b).records }) down (gone (wiped removed all (m.brick b).records g) (grind (arith, nat_tests))) refl refl
      either false e = rests n k g m v b lt l (record (m.brick b) { records = wiped removed all (m.brick b).records }) (alike e (kept all)) refl refl

  -- a request that is executed at a brick that is up
  pub on_request : (i : ℕ) (msg : Message) (q : Request) (version : Option ℕ) (failed : Bool) → m.said i ≡ Some msg → msg.body ≡ ToBrick q → (m.brick msg.brick).up ≡ true → BodyReady n k g m v msg (ToBrick q) version failed → Goes n k g m (executed m (Some msg) version failed) v v (acts_executed g m v (Some msg) version failed)
  on_request i msg q version failed said body up ready = subst (λ (z : Body). Goes n k g m (executed_body z) v v (acts_of_request g m v msg z version failed)) (sym body) (run_it (out_of m msg q version failed) went ready.1)
    where
      executed_body : Body → Net
      executed_body z = executed_by m msg z version failed

      went : out_of m msg q version failed ≡ executed_at (m.brick msg.brick) (failing failed version) msg.client msg.no q
      went = ap (λ (t : Bool). cond t (executed_at (m.brick msg.brick) (failing failed version) msg.client msg.no q) (quiet_out (m.brick msg.brick))) up

      run_it : (o : Out) → o ≡ executed_at (m.brick msg.brick) (failing failed version) msg.client msg.no q → GrantsReady g m v msg.brick (m.brick msg.brick).asks o.brick.asks → Goes n k g m (executed_as m msg o) v v (acts_worked g (v.of msg.no) msg.brick (counted v.core (v.of msg.no) (exclusive g Inode (m.brick msg.brick).asks)) q o.says ++ acts_locks g m v msg.brick (m.brick msg.brick).asks o.brick.asks)
      run_it o e grants =
          let d = subst (Does n k g m v msg.brick (l.to i msg q said body) l (v.of msg.no) q) (sym e) (does n k g m v msg.brick (l.to i msg q said body) l q (v.of msg.no) msg.client msg.no (failing failed version) (let x = l.said i msg said in let y = x.1 in omega (arith, x.0)) ready.0 (subst (λ (z : Out). GrantsReady g m v msg.brick (m.brick msg.brick).asks z.brick.asks) e grants)) in
          at_brick msg.brick o.brick (executed_as m msg o) (acts_worked g (v.of msg.no) msg.brick (counted v.core (v.of msg.no) (exclusive g Inode (m.brick msg.brick).asks)) q o.says ++ acts_locks g m v msg.brick (m.brick msg.brick).asks o.brick.asks) (l.to i msg q said body) (record { brick = λ c. refl; said = refl; next = refl }) d.below (λ f. absurd (let x = sym f ∙ (d.up ∙ up) in cc)) d.stepped

  pub on_executed : (i : ℕ) (version : Option ℕ) (failed : Bool) → MayExecute m i version failed → MessageReady n k g m v (m.said i) version failed → Goes n k g m (net_after m (Executed i version failed)) v v (acts g m v (Executed i version failed))
  on_executed i version failed may ready = subst (λ (o : Option Message). Goes n k g m (executed m o version failed) v v (acts_executed g m v o version failed)) (sym may.at.said) (on_request i may.message may.request version failed may.at.said may.at.body may.at.up (subst (λ (z : Body). BodyReady n k g m v may.message z version failed) may.at.body (subst (λ (o : Option Message). MessageReady n k g m v o version failed) may.at.said ready)))

  on_torn_request : (i : ℕ) (msg : Message) (q : Request) (bytes : ℕ) (version : Option ℕ) → m.said i ≡ Some msg → msg.body ≡ ToBrick q → (m.brick msg.brick).up ≡ true → Goes n k g m (torn_off m (Some msg) bytes version) v v (Stop msg.brick ∷ [])
  on_torn_request i msg q bytes version said body up = subst (λ (z : Body). Goes n k g m (torn_by m msg z bytes version) v v (Stop msg.brick ∷ [])) (sym body) (stop_it (torn_out m msg q bytes version) went)
    where
      went : torn_out m msg q bytes version ≡ torn_at (m.brick msg.brick) (failing_at version) q bytes
      went = ap (λ (t : Bool). cond t (torn_at (m.brick msg.brick) (failing_at version) q bytes) (quiet_out (m.brick msg.brick))) up

      stop_it : (o : Out) → o ≡ torn_at (m.brick msg.brick) (failing_at version) q bytes → Goes n k g m (record m { flying = put m.flying msg.no false; brick = put m.brick msg.brick o.brick }) v v (Stop msg.brick ∷ [])
      stop_it o e =
          let d = torn_down g (m.brick msg.brick) (failing_at version) q bytes in
          let asks = ap (λ (z : Out). z.brick.asks) e ∙ d.1 in
          let gone = ap (λ (z : Out). z.brick.removed g) e ∙ d.2 in
          at_brick msg.brick o.brick (record m { flying = put m.flying msg.no false; brick = put m.brick msg.brick o.brick }) (Stop msg.brick ∷ []) (l.to i msg q said body) (record { brick = λ c. refl; said = refl; next = refl }) (subst (Below m.next) (sym asks) tt) (λ f. (asks, gone)) (stops n k g m v msg.brick (l.to i msg q said body) l o.brick (ap (λ (z : Out). head_at z.brick.records g) e ∙ torn_heads g (m.brick msg.brick) (failing_at version) q bytes) asks gone)

  pub on_torn : (i bytes : ℕ) (version : Option ℕ) → MayTear m i bytes version → Goes n k g m (net_after m (Torn i bytes version)) v v (acts g m v (Torn i bytes version))
  on_torn i bytes version may = subst (λ (o : Option Message). Goes n k g m (torn_off m o bytes version) v v (acts_torn o)) (sym may.at.said) (on_torn_request i may.message may.request bytes version may.at.said may.at.body may.at.up)

  -- an entry that touches no brick
  pub on_quiet : (t : Net) → t.brick ≡ m.brick → t.said ≡ m.said → t.next ≡ m.next → Goes n k g m t v v []
  on_quiet t brick said next = record { runs = refl; linked = linked_same n g m t v l brick said next }

  -- a message that is sent
  pub on_sent : (msg : Message) → (msg.no ≡ m.next) × MaySay n m msg msg.body → Runs n k (acts g m v (Sent msg)) v.core → Goes n k g m (net_after m (Sent msg)) v (noted g v (Sent msg)) (acts g m v (Sent msg))
  on_sent msg may runs = record { runs = runs; linked = linked_sent n g m v msg (after (acts g m v (Sent msg)) v.core) (turn_after g v msg) (turn_of g v msg) l (sent_alike g v.core (turn_of g v msg) msg.body) may.0 may.1 }
