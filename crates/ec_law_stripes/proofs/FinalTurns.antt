-- The data requests and PostOps of a call on a gfid are of one turn, where no call asks for content once it has sent one of them.
use Rattle.std.proofs.Common.{◌≡◌, ⊎_elim, inl, inr, ℕ, Bool, true, false, ◌==◌, ◌&&◌, refl, sym, ◌∙◌, ap, subst, List, [], ◌∷◌, ◌++◌, Option, Some}
use Rattle.std.specs.Prelude.{is_some, unwrap_or}
use Rattle.ec_attr.specs.declared.geometry.Geometry.{Geometry}
use Rattle.ec_attr.specs.declared.kind.Domain.TheVariants.{Inode}
use Rattle.ec_conduct.specs.Done.{is_lock}
use Rattle.ec_conduct.specs.Own.{Own, Sends}
use Rattle.ec_history.specs.Accounts.{Books, Leaving, booked, books, sender}
use Rattle.ec_history.specs.IsRun.{IsRun, May, MaySay}
use Rattle.ec_history.specs.Run.{Asker, Net, after, run}
use Rattle.ec_history.specs.Story.{Story, told}
use Rattle.ec_store.specs.Put.{put}
use Rattle.ec_wire.specs.declared.entry.Entry.{Entry}
use Rattle.ec_wire.specs.declared.entry.Entry.TheVariants.{Called, Sent, Executed, Heard, Lost, GivenUp, Stopped, Returned, Cut, Died, Yielded, Torn, Answered, Replaced}
use Rattle.ec_wire.specs.declared.message.Body.{Body}
use Rattle.ec_wire.specs.declared.message.Body.TheVariants.{ToBrick}
use Rattle.ec_wire.specs.declared.message.Message.{Message}
use Rattle.ec_wire.specs.declared.request.Request.{Request}
use Rattle.ec_wire.specs.declared.request.Request.TheVariants.{Ask, NameSet, NamesPut, PostOp, SetLength, WriteChunks}
use Rattle.ec_law_net.specs.Turns.{View, is_lock_on, is_over, seen_after, turn_after, turn_of, view}
use Rattle.ec_law_net.proofs.Conducts.{Grows, log_grows, sent_own, together}
use Rattle.ec_law_turns.specs.Laws.{Always}
use Rattle.ec_law_turns.proofs.Basics.{differ, equal, put_here, put_some, put_there, some_is}
use Rattle.ec_law_turns.proofs.Steps.{executed_same, heard_same, made_same, torn_same}
use Rattle.ec_law_turns.proofs.Turned.{turn_kept, turn_other}
use Rattle.ec_law_flats.specs.Stripes.{DataInOneTurn}
use Rattle.ec_law_stripes.specs.Finals.{AsksOff, IsFinalOn, has_final, is_final}
use Rattle.ec_law_parts.proofs.OneTurn.{asker_stays, askers_stay}
use Rattle.ec_law_stripes.proofs.FinalScans.{final_last, final_more, off_there}

-- ## Requests of the present turn

-- Each such request on the gfid that was sent is of the present turn of its call, which has sent one.
pub record Posted (g : ℕ) (said : ℕ → Option Message) (turn : ℕ → Option ℕ) (of : ℕ → ℕ) (own : ℕ → List Own) : Type 0 where
  pub turn_is : (i : ℕ) (x : Message) (q : Request) → said i ≡ Some x → x.body ≡ ToBrick q → IsFinalOn g q → of i ≡ unwrap_or (turn x.call) 0
  pub own_is : (i : ℕ) (x : Message) (q : Request) → said i ≡ Some x → x.body ≡ ToBrick q → IsFinalOn g q → has_final (own x.call) ≡ true

one_turn : (g : ℕ) (m : Net) (v : View) (own : ℕ → List Own) → Posted g m.said v.turn v.of own → DataInOneTurn g m v
one_turn g m v own h i j x y q r is its body its_body on its_on same = h.turn_is i x q is body on ∙ (ap (λ (a : ℕ). unwrap_or (v.turn a) 0) same ∙ sym (h.turn_is j y r its its_body its_on))

post_is : (g : ℕ) (q : Request) → IsFinalOn g q → is_final q ≡ true
post_is g (WriteChunks x n first chunks) on = refl
post_is g (SetLength x n keep count) on = refl
post_is g (PostOp x n at version size attr) on = refl
post_is g q (inl on) = absurd (cc)
post_is g q (inr on) = absurd (cc)

post_sender : (m : Net) (b : Books) (msg : Message) (q : Request) → is_final q ≡ true → sender m b msg q ≡ Some msg.call
post_sender m b msg (WriteChunks x n first chunks) on = refl
post_sender m b msg (SetLength x n keep count) on = refl
post_sender m b msg (NameSet x n name child) on = refl
post_sender m b msg (NamesPut x n start upto list) on = refl
post_sender m b msg (PostOp x n at version size attr) on = refl
post_sender m b msg q on = absurd (cc)

lock_is : (g : ℕ) (z : Body) → is_lock_on g z ≡ true → (q : Request) × (z ≡ ToBrick q) × (is_lock q ≡ true)
lock_is g (ToBrick (Ask x Inode kind)) e = (Ask x Inode kind, refl, refl)
lock_is g z e = absurd (cc)

lock_sender : (m : Net) (b : Books) (msg : Message) (q : Request) → is_lock q ≡ true → sender m b msg q ≡ Some msg.call
lock_sender m b msg (Ask x domain kind) on = refl
lock_sender m b msg q on = absurd (cc)

both_ways : (u : Bool) → u ≡ true → u ≡ false → ⊥
both_ways u e f = absurd (let x = sym e ∙ f in cc)

module _ (geometry : Geometry) (left : ℕ → Leaving) (g : ℕ) where
  -- each call that was made by the end of these entries sends, in the whole, no ask for content after data or a PostOp
  abbrev pub LeaveOff : List Entry → Net → Story → Books → Type 0
  LeaveOff es m t b = (a : ℕ) → is_some ((run es m).asker a) ≡ true → AsksOff is_lock ((books geometry left es m t b).own a)

  keep : (m k : Net) (v w : View) (b c : Books) → k.said ≡ m.said → w.turn ≡ v.turn → w.of ≡ v.of → ((a : ℕ) → Grows (b.own a) (c.own a)) → Posted g m.said v.turn v.of b.own → Posted g k.said w.turn w.of c.own
  keep m k v w b c said turn of grows h = record {
    turn_is = λ i x q is body on. ap (λ (f : ℕ → ℕ). f i) of ∙ (h.turn_is i x q (sym (ap (λ (f : ℕ → Option Message). f i) said) ∙ is) body on ∙ sym (ap (λ (f : ℕ → Option ℕ). unwrap_or (f x.call) 0) turn));
    own_is = λ i x q is body on. ap has_final (grows x.call).1 ∙ final_more (b.own x.call) (grows x.call).0 (h.own_is i x q (sym (ap (λ (f : ℕ → Option Message). f i) said) ∙ is) body on);
  }

  module _ (m : Net) (v : View) (t : Story) (b : Books) (h : Posted g m.said v.turn v.of b.own) where
    grown : (e : Entry) (a : ℕ) → Grows (b.own a) ((booked geometry left m t b e).own a)
    grown e a = log_grows geometry left (e ∷ []) m t b a

    module _ (msg : Message) (may : May geometry.n m (Sent msg)) (es : List Entry) (off : LeaveOff (Sent msg ∷ es) m t b) where
      now : Books
      now = booked geometry left m t b (Sent msg)

      -- no ask comes after one
      no_ask : is_lock_on g msg.body ≡ true → has_final (b.own msg.call) ≡ true → ⊥
      no_ask asks posted =
          let q = lock_is g msg.body asks in
          let asker = subst (λ (z : Body). MaySay geometry.n m msg z) q.1 may.1 in
          let made : is_some (m.asker msg.call) ≡ true = ap (λ (o : Option Asker). is_some o) asker.made in
          let more = log_grows geometry left es (after m (Sent msg)) (told geometry m t (Sent msg)) (booked geometry left m t b (Sent msg)) msg.call in
          let own = more.1 ∙ (ap (λ (xs : List Own). xs ++ more.0) (sent_own m b msg q.0 msg.body msg.call q.1 (lock_sender m b msg q.0 q.2)) ∙ together (b.own msg.call) (Sends msg.brick msg.no q.0 ∷ []) more.0) in
          let none = off_there is_lock false (b.own msg.call) (Sends msg.brick msg.no q.0) more.0 (subst (AsksOff is_lock) own (off msg.call (askers_stay es (after m (Sent msg)) msg.call (asker_stays m (Sent msg) msg.call made)))) posted in
          both_ways (is_lock q.0) q.2 none

      turn_same : (a : ℕ) → has_final (b.own a) ≡ true → turn_after g v msg a ≡ v.turn a
      turn_same a posted = at (a == msg.call) refl
        where
          asked : (u : Bool) → is_lock_on g msg.body ≡ u → a ≡ msg.call → turn_after g v msg a ≡ v.turn a
          asked true e same = absurd (no_ask e (subst (λ (z : ℕ). has_final (b.own z) ≡ true) same posted))
          asked false e same = turn_kept g v msg a (ap (λ (u : Bool). u && is_over v.core (v.turn msg.call)) e)

          at : (u : Bool) → (a == msg.call) ≡ u → turn_after g v msg a ≡ v.turn a
          at true e = asked (is_lock_on g msg.body) refl (equal a msg.call e)
          at false e = turn_other g v msg a (differ a msg.call e)

      sent_turn : (i : ℕ) (x : Message) (q : Request) → put m.said msg.no (Some msg) i ≡ Some x → x.body ≡ ToBrick q → IsFinalOn g q → put v.of msg.no (turn_of g v msg) i ≡ unwrap_or (turn_after g v msg x.call) 0
      sent_turn i x q is body on = ⊎_elim
          (λ z. put_here v.of msg.no (turn_of g v msg) i (sym z.0) ∙ ap (λ (y : Message). unwrap_or (turn_after g v msg y.call) 0) (some_is msg x z.1))
          (λ z. put_there v.of msg.no (turn_of g v msg) i z.0 ∙ (h.turn_is i x q z.1 body on ∙ sym (ap (λ (o : Option ℕ). unwrap_or o 0) (turn_same x.call (h.own_is i x q z.1 body on)))))
          (put_some m.said msg.no (Some msg) i x is)

      own_posted : (q : Request) → msg.body ≡ ToBrick q → IsFinalOn g q → has_final ((booked geometry left m t b (Sent msg)).own msg.call) ≡ true
      own_posted q body on =
          let is = post_is g q on in
          ap has_final (sent_own m b msg q msg.body msg.call body (post_sender m b msg q is)) ∙ final_last (b.own msg.call) (Sends msg.brick msg.no q) is

      sent_posted : (i : ℕ) (x : Message) (q : Request) → put m.said msg.no (Some msg) i ≡ Some x → x.body ≡ ToBrick q → IsFinalOn g q → has_final ((booked geometry left m t b (Sent msg)).own x.call) ≡ true
      sent_posted i x q is body on = ⊎_elim
          (λ z. let same = some_is msg x z.1 in subst (λ (y : Message). has_final ((booked geometry left m t b (Sent msg)).own y.call) ≡ true) same (own_posted q (ap (λ (y : Message). y.body) same ∙ body) on))
          (λ z. let k = grown (Sent msg) x.call in ap has_final k.1 ∙ final_more (b.own x.call) k.0 (h.own_is i x q z.1 body on))
          (put_some m.said msg.no (Some msg) i x is)

      sent_after : Posted g (after m (Sent msg)).said (seen_after g m v (Sent msg)).turn (seen_after g m v (Sent msg)).of (booked geometry left m t b (Sent msg)).own
      sent_after = record { turn_is = sent_turn; own_is = sent_posted }

    same : (e : Entry) → (after m e).said ≡ m.said → (seen_after g m v e).turn ≡ v.turn → (seen_after g m v e).of ≡ v.of → Posted g (after m e).said (seen_after g m v e).turn (seen_after g m v e).of (booked geometry left m t b e).own
    same e said turn of = keep m (after m e) v (seen_after g m v e) b (booked geometry left m t b e) said turn of (grown e) h

    entry_after : (e : Entry) (es : List Entry) → May geometry.n m e → LeaveOff (e ∷ es) m t b → Posted g (after m e).said (seen_after g m v e).turn (seen_after g m v e).of (booked geometry left m t b e).own
    entry_after (Called a client op) es may off = same (Called a client op) refl (made_same g v a op).0 (made_same g v a op).1
    entry_after (Sent msg) es may off = sent_after msg may es off
    entry_after (Executed i version failed) es may off = same (Executed i version failed) (executed_same m (m.said i) version failed).0 refl refl
    entry_after (Heard i) es may off = same (Heard i) (heard_same m (m.said i)).0 refl refl
    entry_after (Torn i bytes version) es may off = same (Torn i bytes version) (torn_same m (m.said i) bytes version).0 refl refl
    entry_after (Lost i) es may off = same (Lost i) refl refl refl
    entry_after (GivenUp client brick i) es may off = same (GivenUp client brick i) refl refl refl
    entry_after (Stopped x) es may off = same (Stopped x) refl refl refl
    entry_after (Returned x) es may off = same (Returned x) refl refl refl
    entry_after (Cut client x) es may off = same (Cut client x) refl refl refl
    entry_after (Died client) es may off = same (Died client) refl refl refl
    entry_after (Yielded client) es may off = same (Yielded client) refl refl refl
    entry_after (Answered a answer) es may off = same (Answered a answer) refl refl refl
    entry_after (Replaced x removed all) es may off = same (Replaced x removed all) refl refl refl

  pub always_one : (es : List Entry) (m : Net) (v : View) (t : Story) (b : Books) → IsRun geometry.n es m → LeaveOff es m t b → Posted g m.said v.turn v.of b.own → Always (DataInOneTurn g) g es m v
  always_one [] m v t b runs off h = one_turn g m v b.own h
  always_one (e ∷ es) m v t b runs off h = (one_turn g m v b.own h, always_one es (after m e) (seen_after g m v e) (told geometry m t e) (booked geometry left m t b e) runs.1 off (entry_after m v t b h e es runs.0 off))

  -- which is so at each front of a log
  pub posted_at : (es rest : List Entry) (m : Net) (v : View) (t : Story) (b : Books) → IsRun geometry.n (es ++ rest) m → LeaveOff (es ++ rest) m t b → Posted g m.said v.turn v.of b.own
      → Posted g (run es m).said (view g es m v).turn (view g es m v).of (books geometry left es m t b).own
  posted_at [] rest m v t b runs off h = h
  posted_at (e ∷ es) rest m v t b runs off h = posted_at es rest (after m e) (seen_after g m v e) (told geometry m t e) (booked geometry left m t b e) runs.1 off (entry_after m v t b h e (es ++ rest) runs.0 off)
