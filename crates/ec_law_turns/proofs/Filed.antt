-- What holds of every exchange in the windows of a call's account goes on, if it holds of each that is filed there.
use Rattle.std.proofs.Common.{◌≡◌, ℕ, ◌+◌, Bool, true, false, not, cond, ◌==◌, ◌&&◌, Option, Some, None, List, refl, sym, ◌∙◌, ap, subst, arith, ⊎_elim}
use Rattle.ec_attr.specs.declared.geometry.Geometry.{Geometry}
use Rattle.ec_attr.specs.declared.kind.Domain.TheVariants.{Inode, Heal}
use Rattle.ec_store.specs.Put.{put}
use Rattle.ec_wire.specs.declared.entry.Entry.{Entry}
use Rattle.ec_wire.specs.declared.entry.Entry.TheVariants.{Called, Sent, Heard, GivenUp, Yielded, Answered}
use Rattle.ec_wire.specs.declared.message.Body.{Body}
use Rattle.ec_wire.specs.declared.message.Body.TheVariants.{ToBrick, ToClient}
use Rattle.ec_wire.specs.declared.message.Message.{Message}
use Rattle.ec_wire.specs.declared.op.Op.{Op}
use Rattle.ec_wire.specs.declared.reply.Reply.{Reply}
use Rattle.ec_wire.specs.declared.request.Request.{Request}
use Rattle.ec_wire.specs.declared.request.Request.TheVariants.{Ask, Release, Query, PreOp}
use Rattle.ec_conduct.specs.Account.{Account, Dealings, Exchange, Place, Wait, after as after_own, asked, at, begun, filed, gave_up, gfid_of, heard_by, left_by, noted, over, released, renewed, sent, told, with_place}
use Rattle.ec_conduct.specs.Given.{Given}
use Rattle.ec_conduct.specs.Opened.{account, kept_dealings, opened}
use Rattle.ec_conduct.specs.Own.{Own, Sends, Hears, GivesUp, Answers}
use Rattle.ec_conduct.specs.declared.kept.Kept.{Kept}
use Rattle.ec_history.specs.Accounts.{Books, Leaving, booked, given_to, hears as hears_books, hears_body, own_of, sender, sends as sends_books, taken_over, with_own}
use Rattle.ec_history.specs.IsRun.{May as MayEnter}
use Rattle.ec_history.specs.Run.{Net, call_of, is_number}
use Rattle.ec_history.specs.Story.{Story}
use Rattle.ec_law_turns.specs.Follows.{All, Numbers}
use Rattle.ec_law_turns.proofs.Basics.{all_map, differ, equal, put_here, put_some, put_there, some_is}
use Rattle.ec_law_turns.proofs.Hearing.{one_more}

-- of each exchange in a window of the account
abbrev pub InWindows : (Exchange → Type 0) → Account → Type 0
InWindows P c = (h b : ℕ) → All P ((c.on h).place b).window

module _ (P : Exchange → Type 0) where
  abbrev Each : Dealings → Type 0
  Each d = (b : ℕ) → All P (d.place b).window

  placed : (d : Dealings) (x : ℕ) (p : Place) → Each d → All P p.window → Each (with_place d x p)
  placed d x p all now b = either (b == x) refl
    where
      either : (t : Bool) → (b == x) ≡ t → All P ((with_place d x p).place b).window
      either true h = subst (λ (y : Place). All P y.window) (sym (put_here d.place x p b (sym (equal b x h)))) now
      either false h = subst (λ (y : Place). All P y.window) (sym (put_there d.place x p b (differ b x h))) (all b)

  dealt : (on : ℕ → Dealings) (x : ℕ) (d : Dealings) → ((h : ℕ) → Each (on h)) → Each d → (h : ℕ) → Each (put on x d h)
  dealt on x d all now h = either (h == x) refl
    where
      either : (t : Bool) → (h == x) ≡ t → Each (put on x d h)
      either true e = subst Each (sym (put_here on x d h (sym (equal h x e)))) now
      either false e = subst Each (sym (put_there on x d h (differ h x e))) (all h)

  asks : (d : Dealings) (b i : ℕ) → Each d → Each (asked d b i Inode)
  asks d b i all = by d.queried
    where
      by : (o : Option ℕ) → Each (with_place (begun d o) b (record ((begun d o).place b) { inode = Some (record { number = i; granted = false }) }))
      by None = placed d b (record (d.place b) { inode = Some (record { number = i; granted = false }) }) all (all b)
      by (Some s) = placed (renewed d) b (record ((renewed d).place b) { inode = Some (record { number = i; granted = false }) }) (λ y. tt) tt

  sends : (c : Account) (b i : ℕ) (q : Request) → InWindows P c → InWindows P (sent c b i q)
  sends c b i (Ask x Inode kind) all = dealt c.on x.0 (asked (c.on x.0) b i Inode) all (asks (c.on x.0) b i (all x.0))
  sends c b i (Ask x Heal kind) all = dealt c.on x.0 (asked (c.on x.0) b i Heal) all (placed (c.on x.0) b (record ((c.on x.0).place b) { heal = Some (record { number = i; granted = false }) }) (all x.0) (all x.0 b))
  sends c b i (Release x n) all = dealt c.on x.0 (with_place (c.on x.0) b (released (at c x.0 b) n)) all (placed (c.on x.0) b (released (at c x.0 b) n) (all x.0) (all x.0 b))
  sends c b i (Query x n) all = dealt c.on x.0 (record (c.on x.0) { queried = Some c.steps }) all (all x.0)
  sends c b i (PreOp x n version dirty) all = dealt c.on x.0 (record (c.on x.0) { dirty = Some dirty }) all (all x.0)
  sends c b i q all = all

  ends : (c : Account) (b : ℕ) (e : Exchange) → P e → InWindows P c → InWindows P (over c b e)
  ends c b e now all = by (gfid_of e.request)
    where
      by : (o : Option ℕ) → InWindows P (filed (record c { waits = put c.waits b None; steps = c.steps + 1 }) b e o)
      by None = all
      by (Some x) = dealt c.on x (with_place (c.on x) b (noted (at c x b) e)) all (placed (c.on x) b (noted (at c x b) e) (all x) (now, all x b))

  hears : (c : Account) (b i : ℕ) (reply : Reply) → ((q : Request) → P (record { number = i; request = q; reply = Some reply })) → InWindows P c → InWindows P (heard_by c b (c.waits b) i reply)
  hears c b i reply now all = by (c.waits b)
    where
      by : (o : Option Wait) → InWindows P (heard_by c b o i reply)
      by None = all
      by (Some w) = either (w.number == i) refl
        where
          either : (t : Bool) → (w.number == i) ≡ t → InWindows P (cond t (told c b w reply) c)
          either true h = ends c b (record { number = w.number; request = w.request; reply = Some reply }) (subst (λ (j : ℕ). P (record { number = j; request = w.request; reply = Some reply })) (sym (equal w.number i h)) (now w.request)) all
          either false h = all

  gives_up : (c : Account) (b i : ℕ) → ((j : ℕ) (q : Request) → P (record { number = j; request = q; reply = None })) → InWindows P c → InWindows P (left_by c b (c.waits b) i)
  gives_up c b i now all = by (c.waits b)
    where
      by : (o : Option Wait) → InWindows P (left_by c b o i)
      by None = all
      by (Some w) = either (w.number == i)
        where
          either : (t : Bool) → InWindows P (cond t (gave_up c b w) c)
          either true = ends c b (record { number = w.number; request = w.request; reply = None }) (now w.number w.request) all
          either false = all

  opens : (given : Given) → given.kept ≡ None → InWindows P (opened given)
  opens given none h b = subst (λ (o : Option Kept). All P ((kept_dealings o h).place b).window) (sym none) tt

  -- ## The books of a log

  abbrev pub InBooks : Books → Type 0
  InBooks b = (a : ℕ) (given : Given) → b.given a ≡ Some given → InWindows P (account given (b.own a))

  module _ (geometry : Geometry) (m : Net) (b : Books) (numbers : Numbers geometry m.said m.owed m.calls m.asker b) (left_ones : (j : ℕ) (q : Request) → P (record { number = j; request = q; reply = None })) (all : InBooks b) where
    own_more : (x : ℕ) (e : Own) → ((c : Account) → InWindows P c → InWindows P (after_own c e)) → InBooks (with_own b x e)
    own_more x e goes = one_more (λ a c. InWindows P c) b x e (λ given is c. goes (account given (b.own x)) c) all

    sent_by : (z : Body) (msg : Message) → InBooks (sends_books m b msg z)
    sent_by (ToClient re reply) msg = all
    sent_by (ToBrick q) msg = by (sender m b msg q)
      where
        by : (o : Option ℕ) → InBooks (own_of b o (Sends msg.brick msg.no q))
        by None = all
        by (Some x) = own_more x (Sends msg.brick msg.no q) (λ c k. sends c msg.brick msg.no q k)

    heard_one : (o : Option Message) → ((x : Message) (re : ℕ) (reply : Reply) → o ≡ Some x → x.body ≡ ToClient re reply → (q : Request) → P (record { number = re; request = q; reply = Some reply })) → InBooks (hears_books m b o)
    heard_one None says = all
    heard_one (Some msg) says = by_body msg.body refl
      where
        by_body : (z : Body) → msg.body ≡ z → InBooks (hears_body m b msg z)
        by_body (ToBrick q) e = all
        by_body (ToClient re reply) e = by (is_number re (m.awaits msg.call msg.brick) && not (m.answered msg.call))
          where
            by : (t : Bool) → InBooks (cond t (with_own b msg.call (Hears msg.brick re reply)) b)
            by true = own_more msg.call (Hears msg.brick re reply) (λ c k. hears c msg.brick re reply (says msg re reply refl e) k)
            by false = all

    new_call : (x client : ℕ) (op : Op) (t : Story) → x ≡ m.calls + 1 → (a : ℕ) (given : Given) → put b.given x (Some (given_to geometry t b client op)) a ≡ Some given → InWindows P (account given (b.own a))
    new_call x client op t e a given is = ⊎_elim (λ z. fresh z.0 (some_is (given_to geometry t b client op) given z.1)) (λ z. all a given z.1) (put_some b.given x (Some (given_to geometry t b client op)) a given is)
      where
        fresh : a ≡ x → given_to geometry t b client op ≡ given → InWindows P (account given (b.own a))
        fresh z same = subst (λ (es : List Own). InWindows P (account given es)) (sym (numbers.unsaid a (omega (arith, z, e)))) (opens given (ap (λ (y : Given). y.kept) (sym same) ∙ ap (λ (o : Option Kept). taken_over o op) (numbers.kept client)))

    pub filed_entry : (left : ℕ → Leaving) (t : Story) (e : Entry) → MayEnter geometry.n m e → ((i : ℕ) (x : Message) (re : ℕ) (reply : Reply) → m.said i ≡ Some x → x.body ≡ ToClient re reply → (q : Request) → P (record { number = re; request = q; reply = Some reply })) → InBooks (booked geometry left m t b e)
    filed_entry left t (Called a client op) may says = new_call a client op t may.0
    filed_entry left t (Sent msg) may says = sent_by msg.body msg
    filed_entry left t (Heard i) may says = heard_one (m.said i) (λ x re reply is body. says i x re reply is body)
    filed_entry left t (GivenUp client brick i) may says = own_more (call_of (m.said i)) (GivesUp brick i) (λ c k. gives_up c brick i left_ones k)
    filed_entry left t (Yielded client) may says = all
    filed_entry left t (Answered a answer) may says = own_more a (Answers answer) (λ c k. k)
    filed_entry left t e may says = all

pub in_books_map : (P Q : Exchange → Type 0) → ((e : Exchange) → P e → Q e) → (b : Books) → InBooks P b → InBooks Q b
in_books_map P Q f b all a given is h x = all_map P Q f (((account given (b.own a)).on h).place x).window (all a given is h x)
