-- A property of replies goes on by each entry: of those that are owed, that were sent, and that calls have heard.
use Rattle.std.proofs.Common.{◌≡◌, ℕ, Option, Some, List, [], ◌∷◌, ◌++◌, map, refl, sym, ◌∙◌, ap, subst, ⊎_elim}
use Rattle.ec_attr.specs.declared.geometry.Geometry.{Geometry}
use Rattle.ec_locks.specs.Asked.{granted}
use Rattle.ec_locks.specs.Table.{by_queue, let_in, waiter_of}
use Rattle.ec_locks.specs.declared.ask.Ask.{Ask as Asking}
use Rattle.ec_locks.specs.declared.ask.Leaving.{Leaving as Leaves}
use Rattle.ec_locks.specs.declared.ask.Leaving.TheVariants.{Client}
use Rattle.ec_locks.specs.declared.waiters.Waiter.{Waiter}
use Rattle.ec_wire.specs.declared.entry.Entry.{Entry}
use Rattle.ec_wire.specs.declared.entry.Entry.TheVariants.{Sent, Executed, Heard, Torn}
use Rattle.ec_wire.specs.declared.message.Body.{Body}
use Rattle.ec_wire.specs.declared.message.Body.TheVariants.{ToBrick, ToClient}
use Rattle.ec_wire.specs.declared.message.Message.{Message}
use Rattle.ec_wire.specs.declared.reply.Reply.{Reply}
use Rattle.ec_wire.specs.declared.request.Request.{Request}
use Rattle.ec_brick.specs.Replies.{Says, Nothing, Is, ShowsChunks, ShowsNames, ShowsGfids, Replies}
use Rattle.ec_brick.specs.State.{State as Brick}
use Rattle.ec_brick.specs.Step.{Failing, cut_off, executed}
use Rattle.ec_history.specs.Accounts.{Books, Leaving, booked}
use Rattle.ec_history.specs.IsRun.{IsFirstOwed, May as MayEnter, MaySay}
use Rattle.ec_history.specs.Run.{Net, Owed, after, granted_owed, let_in_owed, owed_after, own_owed}
use Rattle.ec_history.specs.Story.{Story}
use Rattle.ec_law_net.specs.Grants.{AreAsks, IsAskOf}
use Rattle.ec_law_net.proofs.Tables.{Each}
use Rattle.ec_law_turns.specs.Follows.{Numbers}
use Rattle.ec_law_turns.proofs.Basics.{put_some, some_is, some_none}
use Rattle.ec_law_turns.proofs.Filed.{filed_entry, in_books_map}
use Rattle.ec_law_turns.proofs.Granting.{LetsIn, Nobody, Some_leave, each_asks, lets_in}
use Rattle.ec_law_turns.proofs.Letting.{each_by_queue, each_let_in}
use Rattle.ec_law_turns.proofs.Steps.{executed_same, heard_same, torn_same}
use Rattle.ec_law_shapes.specs.Shapes.{OwedAre, ReplyIs, Spread}

pub owed_both : (P : ℕ → Reply → Type 0) (xs ys : List Owed) → OwedAre P xs → OwedAre P ys → OwedAre P (xs ++ ys)
owed_both P [] ys h i = i
owed_both P (x ∷ xs) ys h i = (h.0, owed_both P xs ys h.1 i)

pub own_are : (P : ℕ → Reply → Type 0) (msg : Message) (says : Says) → ((reply : Reply) → Replies says (Some reply) → P msg.no reply) → OwedAre P (own_owed msg says)
own_are P msg Nothing h = tt
own_are P msg (Is reply) h = (h, tt)
own_are P msg (ShowsChunks piece first count) h = (h, tt)
own_are P msg (ShowsNames start names) h = (h, tt)
own_are P msg (ShowsGfids start set) h = (h, tt)

-- Whoever is let in is told of an ask.
module _ (P : ℕ → Reply → Type 0) (m : Net) (b : ℕ) (asks : (a : Asking) → IsAskOf m b a → (reply : Reply) → P a.number reply) where
  waiters : (xs : List Asking) → Each (IsAskOf m b) xs → OwedAre P (map (granted_owed m b) (map waiter_of xs))
  waiters [] are = tt
  waiters (a ∷ xs) are = (λ reply h. asks a are.0 reply, waiters xs are.1)

  pub cut_are : (client : ℕ) (old : Brick) → AreAsks m b old.asks → OwedAre P (let_in_owed m b (cut_off old client))
  cut_are client old are =
      let xs = let_in (Client client) [] old.asks in
      waiters (by_queue [] xs) (each_by_queue (IsAskOf m b) [] xs tt (each_let_in (IsAskOf m b) (Client client) [] old.asks (each_asks m b old.asks are)))

  pub lets_in_are : (old : Brick) (f : Failing) (client number : ℕ) (q : Request) → AreAsks m b old.asks → OwedAre P (let_in_owed m b (executed old f client number q))
  lets_in_are old f client number q are = at (lets_in old f client number q)
    where
      leaving : (l : Leaves) (ws : List Waiter) → ws ≡ granted l old.asks → OwedAre P (map (granted_owed m b) ws)
      leaving l ws is = subst (λ (y : List Waiter). OwedAre P (map (granted_owed m b) y)) (sym is) (waiters (let_in l [] old.asks) (each_let_in (IsAskOf m b) l [] old.asks (each_asks m b old.asks are)))

      at : LetsIn old.asks (executed old f client number q).brick.asks (executed old f client number q).lets_in → OwedAre P (let_in_owed m b (executed old f client number q))
      at (Nobody is) = subst (λ (ws : List Waiter). OwedAre P (map (granted_owed m b) ws)) (sym is) tt
      at (Some_leave l is shorter) = leaving l (executed old f client number q).lets_in is

module _ (P Q : ℕ → Reply → Type 0) (later : (i : ℕ) (reply : Reply) → P i reply → Q i reply) where
  pub owed_later : (owed : List Owed) → OwedAre P owed → OwedAre Q owed
  owed_later [] h = tt
  owed_later (o ∷ owed) h = (λ reply e. later o.re reply (h.0 reply e), owed_later owed h.1)

  pub owed_left : (owed : List Owed) (z : Body) → OwedAre P owed → OwedAre Q (owed_after owed z)
  owed_left owed (ToBrick q) h = owed_later owed h
  owed_left [] (ToClient re reply) h = tt
  owed_left (o ∷ owed) (ToClient re reply) h = owed_later owed h.1

  first_owed : (msg : Message) (re : ℕ) (reply : Reply) (owed : List Owed) → OwedAre P owed → IsFirstOwed owed msg re reply → P re reply
  first_owed msg re reply [] h is = absurd is
  first_owed msg re reply (o ∷ owed) h is = subst (λ (y : ℕ). P y reply) (sym is.to) (h.0 reply is.says)

  module _ (geometry : Geometry) (left : ℕ → Leaving) (m : Net) (t : Story) (b : Books) (numbers : Numbers geometry m.said m.owed m.calls m.asker b) (h : Spread P m b) where
    abbrev Said : (ℕ → Option Message) → Type 0
    Said said = (i : ℕ) (x : Message) (re : ℕ) (reply : Reply) → said i ≡ Some x → x.body ≡ ToClient re reply → Q re reply

    said_same : (said : ℕ → Option Message) → said ≡ m.said → Said said
    said_same said e i x re reply is body = later re reply (h.sent i x re reply (sym (ap (λ (f : ℕ → Option Message). f i) e) ∙ is) body)

    said_then : (e : Entry) → MayEnter geometry.n m e → Said (after m e).said
    said_then (Sent msg) may = λ i x re reply is body. ⊎_elim
        (λ z. later re reply (first_owed msg re reply m.owed h.to_say (subst (λ (y : Body). MaySay geometry.n m msg y) (ap (λ (y : Message). y.body) (some_is msg x z.1) ∙ body) may.1)))
        (λ z. later re reply (h.sent i x re reply z.1 body))
        (put_some m.said msg.no (Some msg) i x is)
    said_then (Executed i version failed) may = said_same (after m (Executed i version failed)).said (executed_same m (m.said i) version failed).0
    said_then (Heard i) may = said_same (after m (Heard i)).said (heard_same m (m.said i)).0
    said_then (Torn i count version) may = said_same (after m (Torn i count version)).said (torn_same m (m.said i) count version).0
    said_then e may = said_same m.said refl

    -- what is owed then is given
    pub spread_entry : (e : Entry) → MayEnter geometry.n m e → OwedAre Q (after m e).owed → Spread Q (after m e) (booked geometry left m t b e)
    spread_entry e may owed = record {
      to_say = owed;
      sent = said_then e may;
      heard = in_books_map (ReplyIs P) (ReplyIs Q) (λ x k reply is. later x.number reply (k reply is)) (booked geometry left m t b e)
          (filed_entry (ReplyIs P) geometry m b numbers (λ j q reply is. absurd (some_none reply (sym is))) h.heard left t e may (λ i x re reply is body q r same. subst (λ (y : Reply). P re y) (some_is reply r same) (h.sent i x re reply is body)));
    }
