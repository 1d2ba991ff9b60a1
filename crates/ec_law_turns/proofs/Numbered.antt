-- Only calls that were made send, hear and answer, entry by entry.
use Rattle.std.proofs.Common.{◌≡◌, ◌⊎◌, ℕ, ◌+◌, ◌≤◌, Bool, true, false, not, cond, ◌==◌, ◌&&◌, Option, Some, None, List, [], ◌∷◌, ◌++◌, refl, sym, ◌∙◌, ap, subst, arith, inl, inr, ⊎_elim}
use Rattle.std.specs.Prelude.{map}
use Rattle.ec_attr.specs.declared.geometry.Geometry.{Geometry}
use Rattle.ec_locks.specs.declared.waiters.Waiter.{Waiter}
use Rattle.ec_store.specs.Put.{put}
use Rattle.ec_wire.specs.declared.entry.Entry.{Entry}
use Rattle.ec_wire.specs.declared.entry.Entry.TheVariants.{Called, Sent, Executed, Heard, Lost, GivenUp, Stopped, Returned, Cut, Died, Yielded, Torn, Answered, Replaced}
use Rattle.ec_wire.specs.declared.message.Body.{Body}
use Rattle.ec_wire.specs.declared.message.Body.TheVariants.{ToBrick, ToClient}
use Rattle.ec_wire.specs.declared.message.Message.{Message}
use Rattle.ec_wire.specs.declared.op.Op.{Op}
use Rattle.ec_wire.specs.declared.reply.Reply.{Reply}
use Rattle.ec_wire.specs.declared.request.Request.{Request}
use Rattle.ec_wire.specs.declared.request.Request.TheVariants.{Release}
use Rattle.ec_brick.specs.Replies.{Says, Nothing}
use Rattle.ec_brick.specs.Step.{cut_off}
use Rattle.ec_conduct.specs.Given.{Given}
use Rattle.ec_conduct.specs.Own.{Own, Sends, Hears, GivesUp, Answers}
use Rattle.ec_conduct.specs.declared.kept.Kept.{Kept}
use Rattle.ec_history.specs.Accounts.{Books, Leaving, begins, booked, given_to, has_kept, hears, hears_body, is_at_once, own_of, sender, sends, taken_over, under_kept, with_own}
use Rattle.ec_history.specs.IsRun.{IsFirstOwed, May as MayEnter, MaySay}
use Rattle.ec_history.specs.Run.{Net, Owed, after, call_of, executed, executed_by, granted_owed, heard, heard_by, is_number, let_in_owed, out_of, own_owed, owed_after, torn_by, torn_off}
use Rattle.ec_history.specs.Story.{Story}
use Rattle.ec_law_turns.specs.Follows.{Begun, Numbers, OwedBelow}
use Rattle.ec_law_turns.specs.Orderly.{IsPlain}
use Rattle.ec_law_turns.proofs.Basics.{put_here, put_some, put_there, some_is}

owed_both : (c : ℕ) (xs ys : List Owed) → OwedBelow c xs → OwedBelow c ys → OwedBelow c (xs ++ ys)
owed_both c [] ys h i = i
owed_both c (x ∷ xs) ys h i = (h.0, owed_both c xs ys h.1 i)

module _ (geometry : Geometry) (m : Net) (b : Books) (k : Numbers geometry m.said m.owed m.calls m.asker b) where
  call_below : (i : ℕ) → call_of (m.said i) ≤ m.calls
  call_below i = at (m.said i) refl
    where
      at : (o : Option Message) → m.said i ≡ o → call_of o ≤ m.calls
      at None e = omega arith
      at (Some x) e = k.said_below i x e

  let_in : (brick : ℕ) (ws : List Waiter) → OwedBelow m.calls (map (granted_owed m brick) ws)
  let_in brick [] = tt
  let_in brick (w ∷ ws) = (call_below w.number, let_in brick ws)

  own_is : (msg : Message) (says : Says) → msg.call ≤ m.calls → OwedBelow m.calls (own_owed msg says)
  own_is msg Nothing le = tt
  own_is msg says le = (le, tt)

  -- one own entry more
  pub with_one : (owed : List Owed) → OwedBelow m.calls owed → (x : ℕ) (e : Own) → x ≤ m.calls → Numbers geometry m.said owed m.calls m.asker (with_own b x e)
  with_one owed below x e le = record { said_below = k.said_below; owed_below = below; made = k.made; given_below = k.given_below; unsaid = λ a lt. put_there b.own x (b.own x ++ e ∷ []) a (λ h. omega (arith, lt, le, h)) ∙ k.unsaid a lt; kept = k.kept }

  same_books : (owed : List Owed) → OwedBelow m.calls owed → Numbers geometry m.said owed m.calls m.asker b
  same_books owed below = record { said_below = k.said_below; owed_below = below; made = k.made; given_below = k.given_below; unsaid = k.unsaid; kept = k.kept }

  called : (t : Story) (a client : ℕ) (op : Op) → a ≡ m.calls + 1 → m.owed ≡ [] → IsPlain op → Numbers geometry m.said m.owed a (put m.asker a (Some (record { client = client; op = op }))) (begins geometry t b a client op)
  called t a client op e none plain = record {
    said_below = λ i x h. let o = k.said_below i x h in omega (arith, o, e);
    owed_below = subst (OwedBelow a) (sym none) tt;
    made = λ c x h. ⊎_elim (λ z. (let y = z.0 in omega (arith, y), given_to geometry t b client op, put_here b.given a (Some (given_to geometry t b client op)) c (sym z.0))) (λ z. let o = k.made c x z.1 in (let y = o.0 in omega (arith, y, e), o.1, put_there b.given a (Some (given_to geometry t b client op)) c z.0 ∙ o.2)) (put_some m.asker a (Some (record { client = client; op = op })) c x h);
    given_below = λ c given h. ⊎_elim (λ z. (let y = z.0 in omega (arith, y), subst (Begun geometry) (some_is (given_to geometry t b client op) given z.1) (record { geometry_is = refl; none_kept = ap (λ (o : Option Kept). taken_over o op) (k.kept client); plain = plain }))) (λ z. let o = k.given_below c given z.1 in (let y = o.0 in omega (arith, y, e), o.1)) (put_some b.given a (Some (given_to geometry t b client op)) c given h);
    unsaid = λ c lt. k.unsaid c (omega (arith, lt, e));
    kept = k.kept;
  }

  -- whose a request is: its call's, or nobody's
  pub sender_is : (msg : Message) (q : Request) → (sender m b msg q ≡ None) ⊎ (sender m b msg q ≡ Some msg.call)
  sender_is msg (Release x n) = at (m.let_go n) (m.answered msg.call)
    where
      not_kept : (o : Option ℕ) → under_kept b o ≡ None
      not_kept None = refl
      not_kept (Some c) = given (b.given c) refl
        where
          given : (o : Option Given) → b.given c ≡ o → cond (has_kept o) (Some c) None ≡ None
          given None e = refl
          given (Some y) e = subst (λ (z : Option Kept). cond (has_kept (Some (record y { kept = z }))) (Some c) None ≡ None) (sym (k.given_below c y e).1.none_kept) refl

      at : (t u : Bool) → (cond t None (cond u (under_kept b (b.running msg.client)) (Some msg.call)) ≡ None) ⊎ (cond t None (cond u (under_kept b (b.running msg.client)) (Some msg.call)) ≡ Some msg.call)
      at true u = inl refl
      at false true = inl (not_kept (b.running msg.client))
      at false false = inr refl
  sender_is msg q = inr refl

  -- who sends was made
  pub said_made : (n : ℕ) (msg : Message) → MaySay n m msg msg.body → msg.call ≤ m.calls
  said_made n msg may = by_body msg.body may
    where
      first : (owed : List Owed) (re : ℕ) (reply : Reply) → OwedBelow m.calls owed → IsFirstOwed owed msg re reply → msg.call ≤ m.calls
      first [] re reply below h = absurd h
      first (o ∷ owed) re reply below h = let e = h.call in let le = below.0 in omega (arith, e, le)

      by_body : (z : Body) → MaySay n m msg z → msg.call ≤ m.calls
      by_body (ToBrick q) may = (k.made msg.call may.asker may.made).0
      by_body (ToClient re reply) may = first m.owed re reply k.owed_below may

  pub heard_given : (o : Option Message) → (hears m b o).given ≡ b.given
  heard_given None = refl
  heard_given (Some msg) = by_body msg.body
    where
      by_body : (z : Body) → (hears_body m b msg z).given ≡ b.given
      by_body (ToBrick q) = refl
      by_body (ToClient re reply) = at (is_number re (m.awaits msg.call msg.brick) && not (m.answered msg.call))
        where
          at : (t : Bool) → (cond t (with_own b msg.call (Hears msg.brick re reply)) b).given ≡ b.given
          at true = refl
          at false = refl

  pub sent_same : (msg : Message) (body : Body) → ((sends m b msg body).given ≡ b.given) × ((sends m b msg body).kept ≡ b.kept)
  sent_same msg (ToBrick q) = at (sender m b msg q)
    where
      at : (o : Option ℕ) → ((own_of b o (Sends msg.brick msg.no q)).given ≡ b.given) × ((own_of b o (Sends msg.brick msg.no q)).kept ≡ b.kept)
      at None = (refl, refl)
      at (Some a) = (refl, refl)
  sent_same msg (ToClient re reply) = (refl, refl)

  -- by the books after a message that is sent
  sent_books : (msg : Message) → msg.call ≤ m.calls → (body : Body) → (owed : List Owed) → OwedBelow m.calls owed → Numbers geometry m.said owed m.calls m.asker (sends m b msg body)
  sent_books msg le (ToClient re reply) owed below = same_books owed below
  sent_books msg le (ToBrick q) owed below = ⊎_elim (λ e. subst (λ (o : Option ℕ). Numbers geometry m.said owed m.calls m.asker (own_of b o (Sends msg.brick msg.no q))) (sym e) (same_books owed below)) (λ e. subst (λ (o : Option ℕ). Numbers geometry m.said owed m.calls m.asker (own_of b o (Sends msg.brick msg.no q))) (sym e) (with_one owed below msg.call (Sends msg.brick msg.no q) le)) (sender_is msg q)

  owed_later : (body : Body) (owed : List Owed) → OwedBelow m.calls owed → OwedBelow m.calls (owed_after owed body)
  owed_later (ToBrick q) owed h = h
  owed_later (ToClient re reply) [] h = tt
  owed_later (ToClient re reply) (o ∷ owed) h = h.1

  heard_books : (o : Option Message) → ((x : Message) → o ≡ Some x → x.call ≤ m.calls) → Numbers geometry m.said m.owed m.calls m.asker (hears m b o)
  heard_books None le = k
  heard_books (Some msg) le = by_body msg.body
    where
      by_body : (z : Body) → Numbers geometry m.said m.owed m.calls m.asker (hears_body m b msg z)
      by_body (ToBrick q) = k
      by_body (ToClient re reply) = at (is_number re (m.awaits msg.call msg.brick) && not (m.answered msg.call))
        where
          at : (t : Bool) → Numbers geometry m.said m.owed m.calls m.asker (cond t (with_own b msg.call (Hears msg.brick re reply)) b)
          at true = with_one m.owed k.owed_below msg.call (Hears msg.brick re reply) (le msg refl)
          at false = k

  heard_net : (o : Option Message) (b' : Books) → Numbers geometry m.said m.owed m.calls m.asker b' → Numbers geometry (heard m o).said (heard m o).owed (heard m o).calls (heard m o).asker b'
  heard_net None b' h = h
  heard_net (Some msg) b' h = by_body msg.body
    where
      by_body : (z : Body) → Numbers geometry (heard_by m msg z).said (heard_by m msg z).owed (heard_by m msg z).calls (heard_by m msg z).asker b'
      by_body (ToBrick q) = h
      by_body (ToClient re reply) = h

  executed_net : (o : Option Message) → ((x : Message) → o ≡ Some x → x.call ≤ m.calls) → (version : Option ℕ) (failed : Bool) → Numbers geometry (executed m o version failed).said (executed m o version failed).owed (executed m o version failed).calls (executed m o version failed).asker b
  executed_net None le version failed = k
  executed_net (Some msg) le version failed = by_body msg.body
    where
      by_body : (z : Body) → Numbers geometry (executed_by m msg z version failed).said (executed_by m msg z version failed).owed (executed_by m msg z version failed).calls (executed_by m msg z version failed).asker b
      by_body (ToBrick q) = let o = out_of m msg q version failed in same_books (own_owed msg o.says ++ let_in_owed m msg.brick o) (owed_both m.calls (own_owed msg o.says) (let_in_owed m msg.brick o) (own_is msg o.says (le msg refl)) (let_in msg.brick o.lets_in))
      by_body (ToClient re reply) = k

  torn_net : (o : Option Message) (bytes : ℕ) (version : Option ℕ) → Numbers geometry (torn_off m o bytes version).said (torn_off m o bytes version).owed (torn_off m o bytes version).calls (torn_off m o bytes version).asker b
  torn_net None bytes version = k
  torn_net (Some msg) bytes version = by_body msg.body
    where
      by_body : (z : Body) → Numbers geometry (torn_by m msg z bytes version).said (torn_by m msg z bytes version).owed (torn_by m msg z bytes version).calls (torn_by m msg z bytes version).asker b
      by_body (ToBrick q) = k
      by_body (ToClient re reply) = k

  none_at : (t : Bool) (client : ℕ) (o : Option Kept) → o ≡ None → (c : ℕ) → cond {A = ℕ → Option Kept} t b.kept (put b.kept client o) c ≡ None
  none_at true client o none c = k.kept c
  none_at false client o none c = at (c == client)
    where
      at : (u : Bool) → cond u o (b.kept c) ≡ None
      at true = none
      at false = k.kept c

-- a call to make is plain
abbrev pub IsPlainEntry : Entry → Type 0
IsPlainEntry (Called a client op) = IsPlain op
IsPlainEntry e = Unit {0}

pub numbered : (geometry : Geometry) (left : ℕ → Leaving) (n : ℕ) (m : Net) (t : Story) (b : Books) (e : Entry) → ((a : ℕ) → (left a).kept ≡ None) → IsPlainEntry e → MayEnter n m e → Numbers geometry m.said m.owed m.calls m.asker b → Numbers geometry (after m e).said (after m e).owed (after m e).calls (after m e).asker (booked geometry left m t b e)
numbered geometry left n m t b (Called a client op) none plain may k = called geometry m b k t a client op may.0 may.2 plain
numbered geometry left n m t b (Sent msg) none plain may k =
    let le = said_made geometry m b k n msg may.1 in
    let o = sent_books geometry m b k msg le msg.body (owed_after m.owed msg.body) (owed_later geometry m b k msg.body m.owed k.owed_below) in
    record {
      said_below = λ i x h. ⊎_elim (λ z. subst (λ (y : Message). y.call ≤ m.calls) (some_is msg x z.1) le) (λ z. k.said_below i x z.1) (put_some m.said msg.no (Some msg) i x h);
      owed_below = o.owed_below;
      made = o.made;
      given_below = o.given_below;
      unsaid = o.unsaid;
      kept = o.kept;
    }
numbered geometry left n m t b (Executed i version failed) none plain may k = executed_net geometry m b k (m.said i) (λ x e. k.said_below i x e) version failed
numbered geometry left n m t b (Heard i) none plain may k = heard_net geometry m b k (m.said i) (hears m b (m.said i)) (heard_books geometry m b k (m.said i) (λ x e. k.said_below i x e))
numbered geometry left n m t b (Lost i) none plain may k = k
numbered geometry left n m t b (GivenUp client brick i) none plain may k = with_one geometry m b k m.owed k.owed_below (call_of (m.said i)) (GivesUp brick i) (call_below geometry m b k i)
numbered geometry left n m t b (Stopped x) none plain may k = k
numbered geometry left n m t b (Returned x) none plain may k = k
numbered geometry left n m t b (Cut client x) none plain may k = let o = cut_off (m.brick x) client in same_books geometry m b k (let_in_owed m x o) (let_in geometry m b k x o.lets_in)
numbered geometry left n m t b (Died client) none plain may k = k
numbered geometry left n m t b (Yielded client) none plain may k = record { said_below = k.said_below; owed_below = k.owed_below; made = k.made; given_below = k.given_below; unsaid = k.unsaid; kept = none_at geometry m b k false client None refl }
numbered geometry left n m t b (Torn i bytes version) none plain may k = torn_net geometry m b k (m.said i) bytes version
numbered geometry left n m t b (Answered a answer) none plain may k =
    let o = with_one geometry m b k m.owed k.owed_below a (Answers answer) (k.made a may.1.asker may.1.made).0 in
    record { said_below = k.said_below; owed_below = k.owed_below; made = o.made; given_below = o.given_below; unsaid = o.unsaid; kept = none_at geometry m b k (is_at_once answer) _ (left a).kept (none a) }
numbered geometry left n m t b (Replaced x removed all) none plain may k = k
