-- Each Granted that an execution or a cut owes is of a grant that stands then.
use Rattle.std.proofs.Common.{◌≡◌, ℕ, Bool, true, false, cond, Option, Some, List, [], ◌∷◌, ◌++◌, refl, sym, ◌∙◌, ap, subst}
use Rattle.std.specs.Prelude.{filter, map}
use Rattle.ec_attr.specs.declared.gfid.Gfid.{Gfid}
use Rattle.ec_attr.specs.declared.kind.Domain.{Domain}
use Rattle.ec_attr.specs.declared.kind.Domain.TheVariants.{Inode}
use Rattle.ec_attr.specs.declared.kind.LockKind.{LockKind}
use Rattle.ec_attr.specs.declared.kind.LockKind.TheVariants.{Exclusive}
use Rattle.ec_locks.specs.Asked.{granted, has_to_wait}
use Rattle.ec_locks.specs.Table.{by_queue, let_in, stays, waiter_of}
use Rattle.ec_locks.specs.declared.ask.Ask.{Ask as Asking}
use Rattle.ec_locks.specs.declared.ask.Leaving.{Leaving}
use Rattle.ec_locks.specs.declared.ask.Leaving.TheVariants.{Client, Number}
use Rattle.ec_locks.specs.declared.waiters.Waiter.{Waiter}
use Rattle.ec_wire.specs.declared.message.Body.TheVariants.{ToBrick}
use Rattle.ec_wire.specs.declared.message.Message.{Message}
use Rattle.ec_wire.specs.declared.reply.Reply.TheVariants.{Granted}
use Rattle.ec_wire.specs.declared.request.Request.{Request}
use Rattle.ec_wire.specs.declared.request.Request.TheVariants.{Ask, Release, Query, PreOp, ReadChunks, WriteChunks, SetLength, PostOp, Clear, NameGet, NamesAfter, NameSet, NamesPut, Make, Made, Unmake, Mark, Unmark, GfidsAfter}
use Rattle.ec_brick.specs.Replies.{Says, Nothing, Is, ShowsChunks, ShowsNames, ShowsGfids}
use Rattle.ec_brick.specs.Rows.{row_of}
use Rattle.ec_brick.specs.State.{State as Brick}
use Rattle.ec_brick.specs.Step.{Failing, Fine, Before, Within, cut_off, executed, work}
use Rattle.ec_brick.proofs.Steps.{row_lets_in}
use Rattle.ec_history.specs.Run.{Net, Owed, granted_owed, let_in_owed, own_owed}
use Rattle.ec_law_base.specs.State.{State}
use Rattle.ec_law_net.specs.Grants.{AreAsks, IsAskOf}
use Rattle.ec_law_net.specs.Turns.{exclusive}
use Rattle.ec_law_net.proofs.Tables.{Each, each_map}
use Rattle.ec_law_turns.specs.Replied.{GrantTold, OwedTold, is_early_yet}
use Rattle.ec_law_turns.proofs.Letting.{IsIn, IsOwnAsk, each_by_queue, each_in, each_let_in, has_it, let_in_has}
use Rattle.ec_law_turns.proofs.Tracks.{request_is}

-- ## Who is let in by an execution

pub data LetsIn (old new : List Asking) (ws : List Waiter) : Type 0 where
  Nobody : ws ≡ [] → LetsIn old new ws
  Some_leave : (l : Leaving) → ws ≡ granted l old → new ≡ filter (stays l) old → LetsIn old new ws

pub lets_in : (s : Brick) (f : Failing) (client number : ℕ) (q : Request) → LetsIn s.asks (executed s f client number q).brick.asks (executed s f client number q).lets_in
lets_in s f client number (Ask x domain kind) = Nobody refl
lets_in s f client number (Release x n) = Some_leave (Number n) refl refl
lets_in s Fine client number (GfidsAfter start dirty) = Nobody refl
lets_in s Before client number (GfidsAfter start dirty) = Nobody refl
lets_in s Within client number (GfidsAfter start dirty) = Nobody refl
lets_in s f client number (Query x i) = Nobody (row_lets_in s f (work s (Query x i)) (row_of (Query x i)))
lets_in s f client number (PreOp x i at pre) = Nobody (row_lets_in s f (work s (PreOp x i at pre)) (row_of (PreOp x i at pre)))
lets_in s f client number (ReadChunks x i first count) = Nobody (row_lets_in s f (work s (ReadChunks x i first count)) (row_of (ReadChunks x i first count)))
lets_in s f client number (WriteChunks x i first chunks) = Nobody (row_lets_in s f (work s (WriteChunks x i first chunks)) (row_of (WriteChunks x i first chunks)))
lets_in s f client number (SetLength x i keep count) = Nobody (row_lets_in s f (work s (SetLength x i keep count)) (row_of (SetLength x i keep count)))
lets_in s f client number (PostOp x i at version size attr) = Nobody (row_lets_in s f (work s (PostOp x i at version size attr)) (row_of (PostOp x i at version size attr)))
lets_in s f client number (Clear x i at) = Nobody (row_lets_in s f (work s (Clear x i at)) (row_of (Clear x i at)))
lets_in s f client number (NameGet x i name) = Nobody (row_lets_in s f (work s (NameGet x i name)) (row_of (NameGet x i name)))
lets_in s f client number (NamesAfter x i start) = Nobody (row_lets_in s f (work s (NamesAfter x i start)) (row_of (NamesAfter x i start)))
lets_in s f client number (NameSet x i name child) = Nobody (row_lets_in s f (work s (NameSet x i name child)) (row_of (NameSet x i name child)))
lets_in s f client number (NamesPut x i start upto list) = Nobody (row_lets_in s f (work s (NamesPut x i start upto list)) (row_of (NamesPut x i start upto list)))
lets_in s f client number (Make x i child) = Nobody (row_lets_in s f (work s (Make x i child)) (row_of (Make x i child)))
lets_in s f client number (Made x i child) = Nobody (row_lets_in s f (work s (Made x i child)) (row_of (Made x i child)))
lets_in s f client number (Unmake x i child) = Nobody (row_lets_in s f (work s (Unmake x i child)) (row_of (Unmake x i child)))
lets_in s f client number (Mark x i heal head) = Nobody (row_lets_in s f (work s (Mark x i heal head)) (row_of (Mark x i heal head)))
lets_in s f client number (Unmark x i at dirty) = Nobody (row_lets_in s f (work s (Unmark x i at dirty)) (row_of (Unmark x i at dirty)))

-- ## What is owed

pub each_asks : (m : Net) (b : ℕ) (asks : List Asking) → AreAsks m b asks → Each (IsAskOf m b) asks
each_asks m b [] h = tt
each_asks m b (a ∷ asks) h = (h.0, each_asks m b asks h.1)

same_ask : (g : ℕ) (a : Asking) (x : Gfid) → ToBrick (Ask a.gfid a.domain a.kind) ≡ ToBrick (Ask x Inode Exclusive) → x.0 ≡ g → IsOwnAsk g a
same_ask g a x e on = record { on = ap (λ (y : Gfid). y.0) (first a.gfid x a.domain a.kind e) ∙ on; domain = second a.gfid x a.domain a.kind e; kind = third a.gfid x a.domain a.kind e }
  where
    first : (y x : Gfid) (d : Domain) (k : LockKind) → ToBrick (Ask y d k) ≡ ToBrick (Ask x Inode Exclusive) → y ≡ x
    first y x d k e = cc

    second : (y x : Gfid) (d : Domain) (k : LockKind) → ToBrick (Ask y d k) ≡ ToBrick (Ask x Inode Exclusive) → d ≡ Inode
    second y x d k e = cc

    third : (y x : Gfid) (d : Domain) (k : LockKind) → ToBrick (Ask y d k) ≡ ToBrick (Ask x Inode Exclusive) → k ≡ Exclusive
    third y x d k e = cc

pub both_told : (g : ℕ) (said : ℕ → Option Message) (of : ℕ → ℕ) (s : State) (xs ys : List Owed) → OwedTold g said of s xs → OwedTold g said of s ys → OwedTold g said of s (xs ++ ys)
both_told g said of s [] ys h i = i
both_told g said of s (x ∷ xs) ys h i = (h.0, both_told g said of s xs ys h.1 i)

-- Of each: where it is for the content of the gfid, for one client alone, it has the grant by this table.
abbrev pub HasGrant : ℕ → List Asking → Asking → Type 0
HasGrant g new a = IsOwnAsk g a → exclusive g Inode new ≡ Some a.number

let_in_grants : (g : ℕ) (l : Leaving) (asks xs : List Asking) → Each (IsIn g (let_in l [] asks)) xs → Each (HasGrant g (filter (stays l) asks)) xs
let_in_grants g l asks xs h = each_map (IsIn g (let_in l [] asks)) (HasGrant g (filter (stays l) asks)) (λ a is own. let_in_has g l asks a own (is.found own)) xs h

-- `stands` says of the new table that who has the content exclusively was granted early, or its turn's moment is over.
module _ (g : ℕ) (m : Net) (of : ℕ → ℕ) (s : State) (b : ℕ) (new : List Asking) (stands : (i : ℕ) → exclusive g Inode new ≡ Some i → is_early_yet s (of i) b ≡ true) where
  told : (a : Asking) → IsAskOf m b a → HasGrant g new a → GrantTold g m.said of s a.number
  told a is has = record { message = is.message; is = is.said; at = λ x body on. subst (λ (y : ℕ). is_early_yet s (of a.number) y ≡ true) (sym is.brick) (stands a.number (has (same_ask g a x (sym is.body ∙ body) on))) }

  waiters : (xs : List Asking) → Each (IsAskOf m b) xs → Each (HasGrant g new) xs → OwedTold g m.said of s (map (granted_owed m b) (map waiter_of xs))
  waiters [] are has = tt
  waiters (a ∷ xs) are has = (λ e. told a are.0 has.0, waiters xs are.1 has.1)

  leaving : (l : Leaving) (old : List Asking) → AreAsks m b old → new ≡ filter (stays l) old → (ws : List Waiter) → ws ≡ granted l old → OwedTold g m.said of s (map (granted_owed m b) ws)
  leaving l old are e ws is =
      let each = each_let_in (IsAskOf m b) l [] old (each_asks m b old are) in
      let has = let_in_grants g l old (let_in l [] old) (each_in g (let_in l [] old) (let_in l [] old) (λ p h. h)) in
      subst (λ (y : List Waiter). OwedTold g m.said of s (map (granted_owed m b) y)) (sym is) (waiters (let_in l [] old) each (subst (λ (y : List Asking). Each (HasGrant g y) (let_in l [] old)) (sym e) has))

  pub cut_told : (client : ℕ) (old : Brick) → AreAsks m b old.asks → new ≡ (cut_off old client).brick.asks → OwedTold g m.said of s (let_in_owed m b (cut_off old client))
  cut_told client old are e =
      let l = Client client in
      let xs = let_in l [] old.asks in
      let each = each_let_in (IsAskOf m b) l [] old.asks (each_asks m b old.asks are) in
      let has = let_in_grants g l old.asks xs (each_in g xs xs (λ p h. h)) in
      waiters (by_queue [] xs) (each_by_queue (IsAskOf m b) [] xs tt each) (each_by_queue (HasGrant g new) [] xs tt (subst (λ (y : List Asking). Each (HasGrant g y) xs) (sym e) has))

  own_told : (msg : Message) (says : Says) → (says ≡ Is Granted → GrantTold g m.said of s msg.no) → OwedTold g m.said of s (own_owed msg says)
  own_told msg Nothing h = tt
  own_told msg (Is reply) h = (h, tt)
  own_told msg (ShowsChunks piece first count) h = (h, tt)
  own_told msg (ShowsNames after names) h = (h, tt)
  own_told msg (ShowsGfids after set) h = (h, tt)

  waits_not : (t : Bool) → cond t Nothing (Is Granted) ≡ Is Granted → t ≡ false
  waits_not true e = absurd (cc)
  waits_not false e = refl

  asked_told : (msg : Message) (old : Brick) (f : Failing) (q : Request) → m.said msg.no ≡ Some msg → msg.brick ≡ b → msg.body ≡ ToBrick q → new ≡ (executed old f msg.client msg.no q).brick.asks → (executed old f msg.client msg.no q).says ≡ Is Granted → GrantTold g m.said of s msg.no
  asked_told msg old f q said brick body e says = record { message = msg; is = said; at = λ x ask on. subst (λ (y : ℕ). is_early_yet s (of msg.no) y ≡ true) (sym brick) (granted_now x on (request_is q (Ask x Inode Exclusive) (sym body ∙ ask))) }
    where
      granted_now : (x : Gfid) → x.0 ≡ g → q ≡ Ask x Inode Exclusive → is_early_yet s (of msg.no) b ≡ true
      granted_now x on is =
          let ask : Asking = record { number = msg.no; client = msg.client; gfid = x; domain = Inode; kind = Exclusive } in
          let free = waits_not (has_to_wait old.asks ask) (sym (ap (λ (r : Request). (executed old f msg.client msg.no r).says) is) ∙ says) in
          let table = e ∙ ap (λ (r : Request). (executed old f msg.client msg.no r).brick.asks) is in
          stands msg.no (ap (λ (y : List Asking). exclusive g Inode y) table ∙ has_it g old.asks ask (record { on = on; domain = refl; kind = refl }) free)

  pub executed_told : (msg : Message) (old : Brick) (f : Failing) (q : Request) → m.said msg.no ≡ Some msg → msg.brick ≡ b → msg.body ≡ ToBrick q → AreAsks m b old.asks → new ≡ (executed old f msg.client msg.no q).brick.asks → OwedTold g m.said of s (own_owed msg (executed old f msg.client msg.no q).says ++ let_in_owed m b (executed old f msg.client msg.no q))
  executed_told msg old f q said brick body are e =
      let out = executed old f msg.client msg.no q in
      both_told g m.said of s (own_owed msg out.says) (let_in_owed m b out) (own_told msg out.says (asked_told msg old f q said brick body e)) (at (lets_in old f msg.client msg.no q))
    where
      at : LetsIn old.asks (executed old f msg.client msg.no q).brick.asks (executed old f msg.client msg.no q).lets_in → OwedTold g m.said of s (let_in_owed m b (executed old f msg.client msg.no q))
      at (Nobody is) = subst (λ (ws : List Waiter). OwedTold g m.said of s (map (granted_owed m b) ws)) (sym is) tt
      at (Some_leave l is shorter) = leaving l old.asks are (e ∙ shorter) (executed old f msg.client msg.no q).lets_in is
