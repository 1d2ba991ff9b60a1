-- A message that is sent: messages, turns and all accounts go on, and a turn has asked each brick once.
use Rattle.std.proofs.Common.{◌≡◌, ◌≢◌, ◌⊎◌, ℕ, ◌+◌, ◌-◌, ◌^◌, ◌<◌, ◌≤◌, Bool, true, false, cond, ◌==◌, ◌&&◌, Option, Some, None, [], ◌∷◌, ◌++◌, refl, sym, ◌∙◌, ap, subst, arith, inl, inr, ⊎_elim}
use Rattle.std.specs.Prelude.{unwrap_or}
use Rattle.ec_attr.specs.declared.geometry.Geometry.{Geometry}
use Rattle.ec_attr.specs.declared.kind.Domain.TheVariants.{Inode}
use Rattle.ec_wire.specs.declared.message.Body.{Body}
use Rattle.ec_wire.specs.declared.message.Body.TheVariants.{ToBrick, ToClient}
use Rattle.ec_wire.specs.declared.message.Message.{Message}
use Rattle.ec_wire.specs.declared.request.Request.{Request}
use Rattle.ec_wire.specs.declared.request.Request.TheVariants.{Ask, Release}
use Rattle.ec_conduct.specs.Account.{Account}
use Rattle.ec_conduct.specs.Conduct.{MaySend, is_release}
use Rattle.ec_conduct.specs.Done.{is_lock, is_query, tried}
use Rattle.ec_conduct.specs.Given.{Given}
use Rattle.ec_conduct.specs.Opened.{account, opened}
use Rattle.ec_conduct.specs.Own.{Sends}
use Rattle.ec_conduct.proofs.Fronts.{account_append}
use Rattle.ec_history.specs.Accounts.{Books, own_of, sender, sends}
use Rattle.ec_history.specs.IsRun.{MaySay}
use Rattle.ec_history.specs.Run.{Net, call_of, sent as sent_net}
use Rattle.ec_law_ballots.specs.Act.{after}
use Rattle.ec_law_net.specs.Grants.{AsksIn, AsksOnce}
use Rattle.ec_law_net.specs.Turns.{View, acts_sent, is_lock_on, is_over, turn_after, turn_from, turn_of}
use Rattle.ec_law_turns.specs.Known.{Known}
use Rattle.ec_law_turns.specs.Follows.{Follows, IsSaid, Messages}
use Rattle.ec_law_turns.specs.Orderly.{InOrder, IsPlain}
use Rattle.ec_law_turns.proofs.Allowed.{account_given, free}
use Rattle.ec_law_turns.proofs.Basics.{differ, equal, has_tried, itself, put_here, put_there, some_is, some_none, wait_of}
use Rattle.ec_law_turns.proofs.Makes.{MadeThere}
use Rattle.ec_law_turns.proofs.Numbered.{sender_is}
use Rattle.ec_law_turns.proofs.Sends.{adds, moment_after, of_after, own_sends, said_after}
use Rattle.ec_law_turns.proofs.Tracks.{Adds, others_send, request_is}
use Rattle.ec_law_turns.proofs.Turned.{moment_other, moment_same, turn_kept, turn_new, turn_other}

minus : (y x : ℕ) → y + x - y ≡ x
minus y x = grind (arith)

less : (y t x : ℕ) → y ≤ t → t < y + x → t - y < x
less y t x h i = omega (arith, h, i)

-- what a call may send, by its account
abbrev pub BodyKept : Net → Books → Message → Body → Type 0
BodyKept m b msg (ToBrick q) = (given : Given) → b.given msg.call ≡ Some given → sender m b msg q ≡ Some msg.call → MaySend (account given (b.own msg.call)) msg.brick q × InOrder (account given (b.own msg.call)) msg.brick q × MadeThere (account given (b.own msg.call)) q
BodyKept m b msg (ToClient re reply) = Unit {0}

module _ (geometry : Geometry) (g : ℕ) (m : Net) (v : View) (b : Books) (msg : Message) (next_no : msg.no ≡ m.next) (may : MaySay geometry.n m msg msg.body) (k : Known geometry g m v b) where
  more : Adds m.said (said_after m msg) v.of (of_after g v msg) msg.no msg
  more = adds geometry.n g m v msg next_no k.messages

  abbrev renewed : Bool
  renewed = is_lock_on g msg.body && is_over v.core (v.turn msg.call)

  turns_after : (a t : ℕ) → turn_after g v msg a ≡ Some t → (2 ^ 61 ≤ t) × (t < 2 ^ 61 + (m.next + 1)) × (call_of (said_after m msg (t - 2 ^ 61)) ≡ a)
  turns_after a t e = at renewed refl
    where
      old : v.turn a ≡ Some t → (2 ^ 61 ≤ t) × (t < 2 ^ 61 + (m.next + 1)) × (call_of (said_after m msg (t - 2 ^ 61)) ≡ a)
      old h = let o = k.messages.turns a t h in (o.0, omega (arith, o.1), ap call_of (put_there m.said msg.no (Some msg) (t - 2 ^ 61) (λ z. let l = less (2 ^ 61) t m.next o.0 o.1 in omega (arith, z, l, next_no))) ∙ o.2)

      new : a ≡ msg.call → turn_from msg.no ≡ t → (2 ^ 61 ≤ t) × (t < 2 ^ 61 + (m.next + 1)) × (call_of (said_after m msg (t - 2 ^ 61)) ≡ a)
      new h z = (omega (arith, z), omega (arith, z, next_no), ap (λ (x : ℕ). call_of (said_after m msg (x - 2 ^ 61))) (sym z) ∙ (ap call_of (put_here m.said msg.no (Some msg) (turn_from msg.no - 2 ^ 61) (sym (minus (2 ^ 61) msg.no))) ∙ sym h))

      at : (u : Bool) → renewed ≡ u → (2 ^ 61 ≤ t) × (t < 2 ^ 61 + (m.next + 1)) × (call_of (said_after m msg (t - 2 ^ 61)) ≡ a)
      at false h = old (sym (turn_kept g v msg a h) ∙ e)
      at true h = own (a == msg.call) refl
        where
          own : (w : Bool) → (a == msg.call) ≡ w → (2 ^ 61 ≤ t) × (t < 2 ^ 61 + (m.next + 1)) × (call_of (said_after m msg (t - 2 ^ 61)) ≡ a)
          own true i = let same = equal a msg.call i in new same (some_is (turn_from msg.no) t (sym (turn_new g v msg h) ∙ (ap (turn_after g v msg) (sym same) ∙ e)))
          own false i = old (sym (turn_other g v msg a (differ a msg.call i)) ∙ e)

  -- the turn of the message
  turn_is : (turn_of g v msg ≡ 0) ⊎ ((t : ℕ) × (turn_after g v msg msg.call ≡ Some t) × (turn_of g v msg ≡ t))
  turn_is = at (turn_after g v msg msg.call) refl
    where
      at : (o : Option ℕ) → turn_after g v msg msg.call ≡ o → (turn_of g v msg ≡ 0) ⊎ ((t : ℕ) × (turn_after g v msg msg.call ≡ Some t) × (turn_of g v msg ≡ t))
      at None e = inl (ap (λ (o : Option ℕ). unwrap_or o 0) e)
      at (Some t) e = inr (t, e, ap (λ (o : Option ℕ). unwrap_or o 0) e)

  pub turn_below : turn_of g v msg < 2 ^ 61 + (m.next + 1)
  turn_below = ⊎_elim (λ z. omega (arith, z)) (λ o. let h = (turns_after msg.call o.0 o.1).1 in let e = o.2 in omega (arith, h, e)) turn_is

  turn_mine : 2 ^ 61 ≤ turn_of g v msg → call_of (said_after m msg (turn_of g v msg - 2 ^ 61)) ≡ msg.call
  turn_mine le = ⊎_elim (λ z. absurd (omega (arith, z, le))) (λ o. ap (λ (x : ℕ). call_of (said_after m msg (x - 2 ^ 61))) o.2 ∙ (turns_after msg.call o.0 o.1).2) turn_is

  pub messages_sent : Messages geometry.n (said_after m msg) (m.next + 1) (turn_after g v msg) (of_after g v msg)
  messages_sent = record {
    number = λ i x e. ⊎_elim (λ h. (ap (λ (z : Message). z.no) (sym h.1) ∙ sym h.0, let z = h.0 in omega (arith, z, next_no))) (λ h. let o = k.messages.number i x h in (o.0, let z = o.1 in omega (arith, z))) (more.newest i x e);
    to = λ i x q e body. ⊎_elim (λ h. subst (λ (z : Message). z.brick < geometry.n) h.1 (subst (λ (z : Body). MaySay geometry.n m msg z) (ap (λ (z : Message). z.body) h.1 ∙ body) may).to) (λ h. k.messages.to i x q h body) (more.newest i x e);
    below = λ i x e. ⊎_elim (λ h. subst (λ (t : ℕ). t < 2 ^ 61 + (m.next + 1)) (sym (put_here v.of msg.no (turn_of g v msg) i (sym h.0))) turn_below) (λ h. subst (λ (t : ℕ). t < 2 ^ 61 + (m.next + 1)) (sym (more.still i x h).1) (let o = k.messages.below i x h in omega (arith, o))) (more.newest i x e);
    caller = λ i x e le. ⊎_elim (λ h. let same = put_here v.of msg.no (turn_of g v msg) i (sym h.0) in ap (λ (t : ℕ). call_of (said_after m msg (t - 2 ^ 61))) same ∙ (turn_mine (subst (λ (t : ℕ). 2 ^ 61 ≤ t) same le) ∙ ap (λ (z : Message). z.call) h.1)) (λ h. old i x h le) (more.newest i x e);
    turns = turns_after;
  }
    where
      old : (i : ℕ) (x : Message) → m.said i ≡ Some x → 2 ^ 61 ≤ of_after g v msg i → call_of (said_after m msg (of_after g v msg i - 2 ^ 61)) ≡ x.call
      old i x h le =
          let same = (more.still i x h).1 in
          let up = subst (λ (t : ℕ). 2 ^ 61 ≤ t) same le in
          let l = less (2 ^ 61) (v.of i) m.next up (k.messages.below i x h) in
          ap (λ (t : ℕ). call_of (said_after m msg (t - 2 ^ 61))) same ∙ (ap call_of (put_there m.said msg.no (Some msg) (v.of i - 2 ^ 61) (λ z. omega (arith, z, l, next_no))) ∙ k.messages.caller i x h up)

  pub fresh_sent : (t : ℕ) → 2 ^ 61 + (m.next + 1) ≤ t → moment_after g v msg t ≡ false
  fresh_sent t h = moment_other g v.core (turn_of g v msg) msg.body t (λ z. let l = turn_below in omega (arith, h, z, l)) ∙ k.fresh t (omega (arith, h))

  -- another call's turn is none of the message
  pub others_turn : (a t : ℕ) → a ≢ msg.call → v.turn a ≡ Some t → t ≢ turn_of g v msg
  others_turn a t ne e h =
      let now = turn_other g v msg a ne ∙ e in
      let o = turns_after a t now in
      let le = o.0 in
      let mine = turn_mine (subst (λ (x : ℕ). 2 ^ 61 ≤ x) h le) in
      ne (sym o.2 ∙ (ap (λ (x : ℕ). call_of (said_after m msg (x - 2 ^ 61))) h ∙ mine))

  newest_is : (a x : ℕ) (q : Request) → (s : IsSaid (said_after m msg) a x msg.no q) → msg ≡ s.message
  newest_is a x q s = some_is msg s.message (sym (put_here m.said msg.no (Some msg) msg.no refl) ∙ s.is)

  abbrev Goes : ℕ → Account → Type 0
  Goes a c = Follows g (said_after m msg) (turn_after g v msg) (of_after g v msg) (moment_after g v msg) a c

  of_others : (a : ℕ) (given : Given) → b.given a ≡ Some given → a ≢ msg.call → Goes a (account given (b.own a))
  of_others a given h ne =
      let c = account given (b.own a) in
      others_send g m.said (said_after m msg) v.turn (turn_after g v msg) v.of (of_after g v msg) v.core.moment (moment_after g v msg) a c.waits c.steps (c.on g) msg.no msg more (k.calls a given h) (turn_other g v msg a ne) (λ x q s rel. ne (sym s.call ∙ ap (λ (z : Message). z.call) (sym (newest_is a x q s)))) (λ t e. moment_other g v.core (turn_of g v msg) msg.body t (others_turn a t ne e))

  -- no request of a call's own
  foreign : is_lock_on g msg.body ≡ false → ((t : ℕ) → moment_after g v msg t ≡ v.core.moment t) → ((a x : ℕ) (q : Request) → IsSaid (said_after m msg) a x msg.no q → is_release q ≡ false → ⊥) → (a : ℕ) (given : Given) → b.given a ≡ Some given → Goes a (account given (b.own a))
  foreign lock moments none a given h =
      let c = account given (b.own a) in
      others_send g m.said (said_after m msg) v.turn (turn_after g v msg) v.of (of_after g v msg) v.core.moment (moment_after g v msg) a c.waits c.steps (c.on g) msg.no msg more (k.calls a given h) (turn_kept g v msg a (shut (is_lock_on g msg.body) (is_over v.core (v.turn msg.call)) lock)) (λ x q s rel. none a x q s rel) (λ t e. moments t)
    where
      shut : (t u : Bool) → t ≡ false → (t && u) ≡ false
      shut false u e = refl
      shut true u e = absurd (cc)

  sender_none : (q : Request) → sender m b msg q ≡ None → (is_release q ≡ true) × (is_query q ≡ false) × (is_lock_on g (ToBrick q) ≡ false)
  sender_none (Release x n) e = (refl, refl, refl)
  sender_none q e = absurd (cc)

  pub calls_sent : BodyKept m b msg msg.body → (a : ℕ) (given : Given) → (sends m b msg msg.body).given a ≡ Some given → Goes a (account given ((sends m b msg msg.body).own a))
  calls_sent kept = by_body msg.body refl kept
    where
      by_body : (z : Body) → msg.body ≡ z → BodyKept m b msg z → (a : ℕ) (given : Given) → (sends m b msg z).given a ≡ Some given → Goes a (account given ((sends m b msg z).own a))
      by_body (ToClient re reply) e kept a given h = foreign (ap (is_lock_on g) e) (λ t. ap (λ (z : Body). (after (acts_sent g v.core (turn_of g v msg) z) v.core).moment t) e) (λ a x q s rel. let y = sym e ∙ (ap (λ (z : Message). z.body) (newest_is a x q s) ∙ s.body) in cc) a given h
      by_body (ToBrick q) e kept a given h = ⊎_elim (λ none. nobody none a given h) (λ mine. somebody mine a given h) (sender_is geometry m b k.numbers msg q)
        where
          nobody : sender m b msg q ≡ None → (a : ℕ) (given : Given) → (sends m b msg (ToBrick q)).given a ≡ Some given → Goes a (account given ((sends m b msg (ToBrick q)).own a))
          nobody none a given =
              let o = sender_none q none in
              subst (λ (s : Option ℕ). (own_of b s (Sends msg.brick msg.no q)).given a ≡ Some given → Goes a (account given ((own_of b s (Sends msg.brick msg.no q)).own a))) (sym none)
              (foreign (ap (is_lock_on g) e ∙ o.2) (λ t. ap (λ (z : Body). (after (acts_sent g v.core (turn_of g v msg) z) v.core).moment t) e ∙ moment_same g v.core (turn_of g v msg) q t o.1) (λ a x r s rel. let same = request_is q r (sym e ∙ (ap (λ (z : Message). z.body) (newest_is a x r s) ∙ s.body)) in let y = sym o.0 ∙ (ap is_release same ∙ rel) in cc) a given)

          somebody : sender m b msg q ≡ Some msg.call → (a : ℕ) (given : Given) → (sends m b msg (ToBrick q)).given a ≡ Some given → Goes a (account given ((sends m b msg (ToBrick q)).own a))
          somebody mine a given =
              subst (λ (s : Option ℕ). (own_of b s (Sends msg.brick msg.no q)).given a ≡ Some given → Goes a (account given ((own_of b s (Sends msg.brick msg.no q)).own a))) (sym mine)
              (λ h. at h (a == msg.call) refl)
            where
              own : (given : Given) → b.given msg.call ≡ Some given → Goes msg.call (account given (b.own msg.call ++ Sends msg.brick msg.no q ∷ []))
              own given h =
                  let c = account given (b.own msg.call) in
                  let same = account_given given (b.own msg.call) in
                  let begun = (k.numbers.given_below msg.call given h).1 in
                  subst (Goes msg.call) (sym (account_append (opened given) (b.own msg.call) (Sends msg.brick msg.no q ∷ [])))
                  (own_sends geometry.n g m v msg q c e next_no k.messages k.fresh (k.calls msg.call given h) (kept given h mine).0 (subst (λ (y : Given). IsPlain y.op) (sym same) begun.plain) (ap (λ (y : Given). y.geometry.n) same ∙ ap (λ (y : Geometry). y.n) begun.geometry_is))

              at : b.given a ≡ Some given → (t : Bool) → (a == msg.call) ≡ t → Goes a (account given (cond t (b.own msg.call ++ Sends msg.brick msg.no q ∷ []) (b.own a)))
              at h true i = let same = equal a msg.call i in subst (λ (y : ℕ). Goes y (account given (b.own msg.call ++ Sends msg.brick msg.no q ∷ []))) (sym same) (own given (subst (λ (y : ℕ). b.given y ≡ Some given) same h))
              at h false i = of_others a given h (differ a msg.call i)

  -- ## A turn asks a brick once

  abbrev View_after : View
  View_after = record v { turn = turn_after g v msg; of = of_after g v msg; core = after (acts_sent g v.core (turn_of g v msg) msg.body) v.core }

  abbrev Asks : ℕ → ℕ → ℕ → Type 0
  Asks i x a = AsksIn g (sent_net m msg) View_after i x a

  before : (i x a : ℕ) → Asks i x a → i ≢ msg.no → AsksIn g m v i x a
  before i x a h ne = let said = ⊎_elim (λ z. absurd (ne z.0)) (λ z. z) (more.newest i h.message h.said) in record { message = h.message; gfid = h.gfid; kind = h.kind; said = said; brick = h.brick; body = h.body; on = h.on; turn = sym (more.still i h.message said).1 ∙ h.turn }

  -- the new ask is the first of its turn there
  clash : BodyKept m b msg msg.body → (j x a : ℕ) → Asks msg.no x a → AsksIn g m v j x a → ⊥
  clash kept j x a new old =
      let is = some_is msg new.message (sym (put_here m.said msg.no (Some msg) msg.no refl) ∙ new.said) in
      let body = ap (λ (z : Message). z.body) is ∙ new.body in
      let brick = ap (λ (z : Message). z.brick) is ∙ new.brick in
      let turn = sym (put_here v.of msg.no (turn_of g v msg) msg.no refl) ∙ new.turn in
      at body brick turn renewed refl
    where
      over_none : msg.body ≡ ToBrick (Ask new.gfid Inode new.kind) → v.turn msg.call ≡ None → renewed ≡ true
      over_none body e = lock (is_lock_on g msg.body) (is_over v.core (v.turn msg.call)) (ap (is_lock_on g) body ∙ (ap (λ (y : ℕ). y == g) new.on ∙ itself g)) (ap (is_over v.core) e)
        where
          lock : (t u : Bool) → t ≡ true → u ≡ true → (t && u) ≡ true
          lock true u e f = f
          lock false u e f = absurd (cc)

      -- in the turn that the call has
      joined : msg.body ≡ ToBrick (Ask new.gfid Inode new.kind) → msg.brick ≡ x → turn_of g v msg ≡ a → renewed ≡ false → (t : ℕ) → v.turn msg.call ≡ Some t → ⊥
      joined body brick turn h t e =
          let now = turn_kept g v msg msg.call h ∙ e in
          let number = sym (ap (λ (o : Option ℕ). unwrap_or o 0) now) ∙ turn in
          let of = old.turn ∙ sym number in
          let up = (k.messages.turns msg.call t e).0 in
          let call = sym (k.messages.caller j old.message old.said (subst (λ (y : ℕ). 2 ^ 61 ≤ y) (sym of) up)) ∙ (ap (λ (y : ℕ). call_of (m.said (y - 2 ^ 61))) of ∙ (k.messages.turns msg.call t e).2) in
          let asker = subst (λ (z : Body). MaySay geometry.n m msg z) body may in
          let made = k.numbers.made msg.call asker.asker asker.made in
          let c = account made.1 (b.own msg.call) in
          let allowed = subst (BodyKept m b msg) body kept made.1 made.2 refl in
          let f = k.calls msg.call made.1 made.2 in
          let q = Ask old.gfid Inode old.kind in
          let is : IsSaid m.said msg.call msg.brick j q = record { message = old.message; is = old.said; call = call; brick = old.brick ∙ sym brick; body = old.body } in
          ⊎_elim (λ z. some_none (wait_of j q) (sym z ∙ free c msg.brick (Ask new.gfid Inode new.kind) allowed.0 refl)) (λ z. let so = has_tried is_lock j q refl ((c.on g).place msg.brick).window z in let none = subst (λ (y : ℕ). tried is_lock ((c.on y).place msg.brick).window ≡ false) new.on allowed.1.0 in let y = sym so ∙ none in cc) (f.sent msg.brick j q is (ap (λ (y : ℕ). Some y) old.on) refl (e ∙ ap (λ (y : ℕ). Some y) (sym of)))

      at : msg.body ≡ ToBrick (Ask new.gfid Inode new.kind) → msg.brick ≡ x → turn_of g v msg ≡ a → (t : Bool) → renewed ≡ t → ⊥
      at body brick turn true h =
          let e = ap (λ (o : Option ℕ). unwrap_or o 0) (turn_new g v msg h) in
          let o = k.messages.below j old.message old.said in
          let p = old.turn in
          omega (arith, e, o, p, turn, next_no)
      at body brick turn false h = has (v.turn msg.call) refl
        where
          has : (o : Option ℕ) → v.turn msg.call ≡ o → ⊥
          has None e = let y = sym (over_none body e) ∙ h in cc
          has (Some t) e = joined body brick turn h t e

  pub once_sent : BodyKept m b msg msg.body → AsksOnce g m v → AsksOnce g (sent_net m msg) View_after
  once_sent kept once i j x a hi hj = at (i == msg.no) (j == msg.no) refl refl
    where
      at : (t u : Bool) → (i == msg.no) ≡ t → (j == msg.no) ≡ u → i ≡ j
      at true true e f = equal i msg.no e ∙ sym (equal j msg.no f)
      at true false e f = absurd (clash kept j x a (subst (λ (y : ℕ). Asks y x a) (equal i msg.no e) hi) (before j x a hj (differ j msg.no f)))
      at false true e f = absurd (clash kept i x a (subst (λ (y : ℕ). Asks y x a) (equal j msg.no f) hj) (before i x a hi (differ i msg.no e)))
      at false false e f = once i j x a (before i x a hi (differ i msg.no e)) (before j x a hj (differ j msg.no f))
