-- The requests of a call that change data have lower numbers than its PostOps, where none goes out once it has sent a PostOp.
use Rattle.std.proofs.Common.{◌≡◌, ⊎_elim, ℕ, ◌+◌, ◌<◌, true, false, refl, sym, ◌∙◌, ap, subst, arith, List, [], ◌∷◌, ◌++◌, Option, Some}
use Rattle.std.specs.Prelude.{is_some}
use Rattle.ec_attr.specs.declared.geometry.Geometry.{Geometry}
use Rattle.ec_conduct.specs.Done.{is_post}
use Rattle.ec_conduct.specs.Own.{Own, Sends}
use Rattle.ec_history.specs.Accounts.{Books, Leaving, booked, books, sender}
use Rattle.ec_history.specs.IsRun.{IsRun, May, MaySay}
use Rattle.ec_history.specs.Run.{Asker, Net, after, run}
use Rattle.ec_history.specs.Story.{Story, told}
use Rattle.ec_store.specs.Put.{put}
use Rattle.ec_wire.specs.declared.entry.Entry.{Entry}
use Rattle.ec_wire.specs.declared.entry.Entry.TheVariants.{Called, Sent, Executed, Heard, Lost, GivenUp, Stopped, Returned, Cut, Died, Yielded, Torn, Answered, Replaced}
use Rattle.ec_wire.specs.declared.message.Body.{Body}
use Rattle.ec_wire.specs.declared.message.Body.TheVariants.{ToBrick}
use Rattle.ec_wire.specs.declared.message.Message.{Message}
use Rattle.ec_wire.specs.declared.request.Request.{Request}
use Rattle.ec_wire.specs.declared.request.Request.TheVariants.{Release, PostOp}
use Rattle.ec_law_net.specs.Turns.{View, seen_after}
use Rattle.ec_law_net.proofs.Conducts.{Grows, log_grows, sent_own, together}
use Rattle.ec_law_turns.specs.Laws.{Always}
use Rattle.ec_law_turns.proofs.Basics.{put_some, some_is}
use Rattle.ec_law_turns.proofs.Steps.{executed_same, heard_same, torn_same}
use Rattle.ec_law_parts.specs.LeavesOff.{DataBeforePosts, LeavesOff, has_posted, puts_data}
use Rattle.ec_law_parts.proofs.OneTurn.{asker_stays, askers_stay, both_ways, post_sender}
use Rattle.ec_law_parts.proofs.Scans.{off_there, posted_last, posted_more}

-- Messages have numbers below the next one; a call that sent a PostOp has it among its own entries, and its data came before.
pub record Ahead (said : ℕ → Option Message) (next : ℕ) (own : ℕ → List Own) : Type 0 where
  pub below : (i : ℕ) (x : Message) → said i ≡ Some x → i < next
  pub own_is : (i : ℕ) (x : Message) (q : Request) → said i ≡ Some x → x.body ≡ ToBrick q → is_post q ≡ true → has_posted (own x.call) ≡ true
  pub in_turn : (i j : ℕ) (x y : Message) (q r : Request) → said i ≡ Some x → said j ≡ Some y → x.body ≡ ToBrick q → y.body ≡ ToBrick r → puts_data q ≡ true → is_post r ≡ true → x.call ≡ y.call → i < j

data_sender : (m : Net) (b : Books) (msg : Message) (q : Request) → puts_data q ≡ true → sender m b msg q ≡ Some msg.call
data_sender m b msg (Release g grant) on = absurd (cc)
data_sender m b msg q on = refl

not_both : (q : Request) → puts_data q ≡ true → is_post q ≡ true → ⊥
not_both (PostOp g grant old new size attr) d p = absurd (cc)
not_both q d p = absurd (cc)

body_is : (q r : Request) → ToBrick q ≡ ToBrick r → q ≡ r
body_is q r e = cc

module _ (geometry : Geometry) (left : ℕ → Leaving) where
  -- each call that was made by the end of these entries changes, in the whole, no data after a PostOp
  abbrev LeaveOff : List Entry → Net → Story → Books → Type 0
  LeaveOff es m t b = (a : ℕ) → is_some ((run es m).asker a) ≡ true → LeavesOff puts_data ((books geometry left es m t b).own a)

  module _ (m : Net) (t : Story) (b : Books) (h : Ahead m.said m.next b.own) where
    grown : (e : Entry) (a : ℕ) → Grows (b.own a) ((booked geometry left m t b e).own a)
    grown e a = log_grows geometry left (e ∷ []) m t b a

    own_more : (e : Entry) (a : ℕ) → has_posted (b.own a) ≡ true → has_posted ((booked geometry left m t b e).own a) ≡ true
    own_more e a is = let k = grown e a in ap has_posted k.1 ∙ posted_more (b.own a) k.0 is

    module _ (msg : Message) (may : May geometry.n m (Sent msg)) (es : List Entry) (off : LeaveOff (Sent msg ∷ es) m t b) where
      -- no data comes after a PostOp
      no_data : (q : Request) → msg.body ≡ ToBrick q → puts_data q ≡ true → has_posted (b.own msg.call) ≡ true → ⊥
      no_data q body puts posted =
          let asker = subst (λ (z : Body). MaySay geometry.n m msg z) body may.1 in
          let made : is_some (m.asker msg.call) ≡ true = ap (λ (o : Option Asker). is_some o) asker.made in
          let more = log_grows geometry left es (after m (Sent msg)) (told geometry m t (Sent msg)) (booked geometry left m t b (Sent msg)) msg.call in
          let own = more.1 ∙ (ap (λ (xs : List Own). xs ++ more.0) (sent_own m b msg q msg.body msg.call body (data_sender m b msg q puts)) ∙ together (b.own msg.call) (Sends msg.brick msg.no q ∷ []) more.0) in
          let none = off_there puts_data false (b.own msg.call) (Sends msg.brick msg.no q) more.0 (subst (LeavesOff puts_data) own (off msg.call (askers_stay es (after m (Sent msg)) msg.call (asker_stays m (Sent msg) msg.call made)))) posted in
          both_ways (puts_data q) puts none

      sent_below : (i : ℕ) (x : Message) → put m.said msg.no (Some msg) i ≡ Some x → i < m.next + 1
      sent_below i x is = ⊎_elim
          (λ z. let e = z.0 in let n = may.0 in omega (arith, e, n))
          (λ z. let lt = h.below i x z.1 in omega (arith, lt))
          (put_some m.said msg.no (Some msg) i x is)

      own_posted : (q : Request) → msg.body ≡ ToBrick q → is_post q ≡ true → has_posted ((booked geometry left m t b (Sent msg)).own msg.call) ≡ true
      own_posted q body is = ap has_posted (sent_own m b msg q msg.body msg.call body (post_sender m b msg q is)) ∙ posted_last (b.own msg.call) (Sends msg.brick msg.no q) is

      sent_posted : (i : ℕ) (x : Message) (q : Request) → put m.said msg.no (Some msg) i ≡ Some x → x.body ≡ ToBrick q → is_post q ≡ true → has_posted ((booked geometry left m t b (Sent msg)).own x.call) ≡ true
      sent_posted i x q is body on = ⊎_elim
          (λ z. let same = some_is msg x z.1 in subst (λ (y : Message). has_posted ((booked geometry left m t b (Sent msg)).own y.call) ≡ true) same (own_posted q (ap (λ (y : Message). y.body) same ∙ body) on))
          (λ z. own_more (Sent msg) x.call (h.own_is i x q z.1 body on))
          (put_some m.said msg.no (Some msg) i x is)

      sent_data : (i j : ℕ) (x y : Message) (q r : Request) → put m.said msg.no (Some msg) i ≡ Some x → put m.said msg.no (Some msg) j ≡ Some y → x.body ≡ ToBrick q → y.body ≡ ToBrick r → puts_data q ≡ true → is_post r ≡ true → x.call ≡ y.call → i < j
      sent_data i j x y q r is its body its_body puts posts same = ⊎_elim
          (λ z. ⊎_elim
          (λ w. absurd (not_both q puts (subst (λ (u : Request). is_post u ≡ true) (body_is r q (sym its_body ∙ (ap (λ (u : Message). u.body) (sym (some_is msg y w.1) ∙ some_is msg x z.1) ∙ body))) posts)))
          (λ w. let new = some_is msg x z.1 in absurd (no_data q (ap (λ (u : Message). u.body) new ∙ body) puts (subst (λ (a : ℕ). has_posted (b.own a) ≡ true) (sym same ∙ sym (ap (λ (u : Message). u.call) new)) (h.own_is j y r w.1 its_body posts))))
          (put_some m.said msg.no (Some msg) j y its))
          (λ z. ⊎_elim
          (λ w. let lt = h.below i x z.1 in let e = w.0 in let n = may.0 in omega (arith, lt, e, n))
          (λ w. h.in_turn i j x y q r z.1 w.1 body its_body puts posts same)
          (put_some m.said msg.no (Some msg) j y its))
          (put_some m.said msg.no (Some msg) i x is)

      sent_after : Ahead (after m (Sent msg)).said (after m (Sent msg)).next (booked geometry left m t b (Sent msg)).own
      sent_after = record { below = sent_below; own_is = sent_posted; in_turn = sent_data }

    same : (e : Entry) → (after m e).said ≡ m.said → (after m e).next ≡ m.next → Ahead (after m e).said (after m e).next (booked geometry left m t b e).own
    same e said next =
        let at : (i : ℕ) (x : Message) → (after m e).said i ≡ Some x → m.said i ≡ Some x = λ i x is. sym (ap (λ (f : ℕ → Option Message). f i) said) ∙ is in
        record {
          below = λ i x is. subst (λ (n : ℕ). i < n) (sym next) (h.below i x (at i x is));
          own_is = λ i x q is body on. own_more e x.call (h.own_is i x q (at i x is) body on);
          in_turn = λ i j x y q r is its body its_body puts posts call. h.in_turn i j x y q r (at i x is) (at j y its) body its_body puts posts call;
        }

    entry_after : (e : Entry) (es : List Entry) → May geometry.n m e → LeaveOff (e ∷ es) m t b → Ahead (after m e).said (after m e).next (booked geometry left m t b e).own
    entry_after (Sent msg) es may off = sent_after msg may es off
    entry_after (Executed i version failed) es may off = same (Executed i version failed) (executed_same m (m.said i) version failed).0 (executed_same m (m.said i) version failed).1
    entry_after (Heard i) es may off = same (Heard i) (heard_same m (m.said i)).0 (heard_same m (m.said i)).1
    entry_after (Torn i bytes version) es may off = same (Torn i bytes version) (torn_same m (m.said i) bytes version).0 (torn_same m (m.said i) bytes version).1
    entry_after (Called a client op) es may off = same (Called a client op) refl refl
    entry_after (Lost i) es may off = same (Lost i) refl refl
    entry_after (GivenUp client brick i) es may off = same (GivenUp client brick i) refl refl
    entry_after (Stopped x) es may off = same (Stopped x) refl refl
    entry_after (Returned x) es may off = same (Returned x) refl refl
    entry_after (Cut client x) es may off = same (Cut client x) refl refl
    entry_after (Died client) es may off = same (Died client) refl refl
    entry_after (Yielded client) es may off = same (Yielded client) refl refl
    entry_after (Answered a answer) es may off = same (Answered a answer) refl refl
    entry_after (Replaced x removed all) es may off = same (Replaced x removed all) refl refl

  pub always_first : (g : ℕ) (es : List Entry) (m : Net) (v : View) (t : Story) (b : Books) → IsRun geometry.n es m → LeaveOff es m t b → Ahead m.said m.next b.own → Always DataBeforePosts g es m v
  always_first g [] m v t b runs off h = h.in_turn
  always_first g (e ∷ es) m v t b runs off h = (h.in_turn, always_first g es (after m e) (seen_after g m v e) (told geometry m t e) (booked geometry left m t b e) runs.1 off (entry_after m t b h e es runs.0 off))
