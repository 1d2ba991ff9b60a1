-- What a brick tells by its reply is so by the machine of versions after the execution.
use Rattle.std.proofs.Common.{◌≡◌, ◌⊎◌, ℕ, ◌<◌, Bool, true, false, cond, ◌==◌, ◌&&◌, ◌||◌, Option, Some, None, List, [], ◌∷◌, ◌++◌, refl, sym, ◌∙◌, ap, subst, arith, inl, inr, ⊎_elim}
use Rattle.std.proofs.lemmas.Bool.Decides.{nat_tests}
use Rattle.std.specs.Prelude.{map}
use Rattle.ec_attr.specs.Marks.{is_marked, stripped}
use Rattle.ec_attr.specs.declared.attr.Attr.{Attr}
use Rattle.ec_attr.specs.declared.gfid.Gfid.{Gfid}
use Rattle.ec_attr.specs.declared.head.Head.{Head}
use Rattle.ec_attr.specs.declared.kind.Child.{Child}
use Rattle.ec_attr.specs.declared.kind.Domain.{Domain}
use Rattle.ec_attr.specs.declared.kind.Domain.TheVariants.{Inode}
use Rattle.ec_attr.specs.declared.kind.LockKind.{LockKind}
use Rattle.ec_attr.specs.declared.kind.LockKind.TheVariants.{Exclusive, Shared}
use Rattle.ec_locks.specs.Asked.{granted}
use Rattle.ec_locks.specs.Table.{by_queue, covers, free, holds, is_exclusive, let_in, same_domain, some_grant, waiter_of}
use Rattle.ec_locks.specs.declared.ask.Ask.{Ask as Asking}
use Rattle.ec_locks.specs.declared.ask.Leaving.{Leaving}
use Rattle.ec_locks.specs.declared.ask.Leaving.TheVariants.{Client}
use Rattle.ec_locks.specs.declared.waiters.Waiter.{Waiter}
use Rattle.ec_store.specs.Records.{head_at}
use Rattle.ec_wire.specs.declared.message.Body.TheVariants.{ToBrick}
use Rattle.ec_wire.specs.declared.message.Message.{Message}
use Rattle.ec_wire.specs.declared.reply.Reply.{Reply}
use Rattle.ec_wire.specs.declared.reply.Reply.TheVariants.{Done, Head as HeadIs}
use Rattle.ec_wire.specs.declared.request.Request.{Request}
use Rattle.ec_wire.specs.declared.request.Request.TheVariants.{Ask, Query, PreOp, PostOp, Make}
use Rattle.ec_brick.specs.Replies.{Says, Nothing, Is, ShowsChunks, ShowsNames, ShowsGfids, Replies}
use Rattle.ec_brick.specs.State.{State as Brick}
use Rattle.ec_brick.specs.Step.{Failing, Out, cut_off, executed}
use Rattle.ec_history.specs.Run.{Net, Owed, failing, granted_owed, let_in_owed, own_owed}
use Rattle.ec_law_base.specs.State.{Ballot, Head as Seen, State, put2}
use Rattle.ec_law_ballots.specs.Act.{after}
use Rattle.ec_law_ballots.specs.Act.Act.{Make as Makes, Post, Pre, See, Sink_post, Sink_pre}
use Rattle.ec_law_ballots.specs.Words.{head}
use Rattle.ec_law_net.specs.Grants.{AreAsks, IsAskOf, LocksStand}
use Rattle.ec_law_net.specs.Link.{IsHead, Linked}
use Rattle.ec_law_net.specs.Start.{seen_head}
use Rattle.ec_law_net.specs.Turns.{View, acts_locks, acts_worked, counted, exclusive}
use Rattle.ec_law_net.proofs.Locks.{held}
use Rattle.ec_law_net.proofs.Tables.{Each}
use Rattle.ec_law_turns.specs.Follows.{IsLock}
use Rattle.ec_law_turns.specs.Shown.{IsTold, OwedShown, Tells}
use Rattle.ec_law_turns.proofs.Basics.{itself, put_here, some_is}
use Rattle.ec_law_turns.proofs.Did.{Same, locks as locks_same}
use Rattle.ec_law_turns.proofs.Granting.{LetsIn, Nobody, Some_leave, each_asks, lets_in}
use Rattle.ec_law_turns.proofs.Letting.{each_by_queue, each_let_in}
use Rattle.ec_law_turns.proofs.Says.{says_head, says_make, says_post, says_pre}
use Rattle.ec_law_turns.proofs.Still.{locks as locks_still, worked as worked_still}
use Rattle.ec_law_turns.proofs.Tracks.{request_is}

-- ## A grant that is told as shared and was asked for exclusively

some_more : (p q : Asking → Bool) (before rest : List Asking) → Each (λ a. p a ≡ true → q a ≡ true) rest → some_grant p before rest ≡ true → some_grant q before rest ≡ true
some_more p q before [] h e = e
some_more p q before (a ∷ rest) h e = of (free before a) (p a) (q a) (some_grant p (before ++ a ∷ []) rest) (some_grant q (before ++ a ∷ []) rest) h.0 (some_more p q (before ++ a ∷ []) rest h.1) e
  where
    of : (t u w x y : Bool) → (u ≡ true → w ≡ true) → (x ≡ true → y ≡ true) → ((t && u) || x) ≡ true → ((t && w) || y) ≡ true
    of t u w x y f h e = grind (arith)

-- message i is an ask for the content of the gfid, for one client alone
pub record IsAlone (g : ℕ) (said : ℕ → Option Message) (i : ℕ) : Type 0 where
  pub message : Message
  pub gfid : Gfid
  pub is : said i ≡ Some message
  pub body : message.body ≡ ToBrick (Ask gfid Inode Exclusive)
  pub on : gfid.0 ≡ g

kind_is : (y x : Gfid) (d e : Domain) (k j : LockKind) → ToBrick (Ask y d k) ≡ ToBrick (Ask x e j) → k ≡ j
kind_is y x d e k j h = cc

alone_in : (m : Net) (b g n : ℕ) (x : Gfid) (asks : List Asking) → AreAsks m b asks → IsAlone g m.said n → Each (λ a. covers a n x Inode Shared ≡ true → covers a n x Inode Exclusive ≡ true) asks
alone_in m b g n x [] are alone = tt
alone_in m b g n x (a ∷ asks) are alone = (one, alone_in m b g n x asks are.1 alone)
  where
    exclusively : (t u w e : Bool) → e ≡ true → (t && u && w && (e || true)) ≡ true → (t && u && w && (e || false)) ≡ true
    exclusively t u w e h i = grind (arith)

    numbered : (y : ℕ) (u w e : Bool) → ((y == n) && u && w && e) ≡ true → y ≡ n
    numbered y u w e h = grind (arith, nat_tests)

    one : covers a n x Inode Shared ≡ true → covers a n x Inode Exclusive ≡ true
    one h =
        let no = numbered a.number (a.gfid.0 == x.0) (same_domain a.domain Inode) (is_exclusive a.kind || true) h in
        let same = some_is are.0.message alone.message (sym are.0.said ∙ (ap m.said no ∙ alone.is)) in
        let kind = kind_is a.gfid alone.gfid a.domain Inode a.kind Exclusive (sym are.0.body ∙ (ap (λ (y : Message). y.body) same ∙ alone.body)) in
        exclusively (a.number == n) (a.gfid.0 == x.0) (same_domain a.domain Inode) (is_exclusive a.kind) (ap is_exclusive kind) h

pub grant_alone : (m : Net) (b g n : ℕ) (x : Gfid) (asks : List Asking) → x.0 ≡ g → AreAsks m b asks → IsAlone g m.said n → holds asks n x Inode Shared ≡ true → exclusive g Inode asks ≡ Some n
grant_alone m b g n x asks on are alone h = subst (λ (y : ℕ). exclusive y Inode asks ≡ Some n) on (held x Inode asks n (some_more (λ a. covers a n x Inode Shared) (λ a. covers a n x Inode Exclusive) [] asks (alone_in m b g n x asks are alone) h))

-- ## What the acts of the work make

put2_here : {X : Type 0} (f : ℕ → ℕ → X) (a b : ℕ) (x : X) → put2 f a b x a b ≡ x
put2_here f a b x = at (a == a) (b == b) (itself a) (itself b)
  where
    at : (t u : Bool) → t ≡ true → u ≡ true → cond (t && u) x (f a b) ≡ x
    at true true h i = refl
    at true false h i = absurd (cc)
    at false u h i = absurd (cc)

is_itself : (x g : ℕ) → x ≡ g → (x == g) ≡ true
is_itself x g e = grind (arith, nat_tests)

module _ (g a b : ℕ) (holder : Option ℕ) (s : State) where
  pre_done : (x : Gfid) (n at dirty : ℕ) (says : Says) → x.0 ≡ g → is_marked at ≡ false → says ≡ Is Done → (after (acts_worked g a b holder (PreOp x n at dirty) says) s).pre a b ≡ true
  pre_done x n at dirty says on plain e = subst (λ (z : Says). (after (acts_worked g a b holder (PreOp x n at dirty) z) s).pre a b ≡ true) (sym e) (by (x.0 == g) (is_marked at) (is_itself x.0 g on) plain)
    where
      by : (t u : Bool) → t ≡ true → u ≡ false → (after (cond t (cond u (Sink_pre a b) (Pre a b) ∷ []) []) s).pre a b ≡ true
      by true false h i = put2_here s.pre a b true
      by true true h i = absurd (cc)
      by false u h i = absurd (cc)

  post_done : (x : Gfid) (n at version size : ℕ) (attr : Option Attr) (says : Says) → x.0 ≡ g → is_marked at ≡ false → says ≡ Is Done → (after (acts_worked g a b holder (PostOp x n at version size attr) says) s).post a b ≡ true
  post_done x n at version size attr says on plain e = subst (λ (z : Says). (after (acts_worked g a b holder (PostOp x n at version size attr) z) s).post a b ≡ true) (sym e) (by (x.0 == g) (is_marked at) (is_itself x.0 g on) plain)
    where
      by : (t u : Bool) → t ≡ true → u ≡ false → (after (cond t (cond u (Sink_post a b) (Post a b) ∷ []) []) s).post a b ≡ true
      by true false h i = put2_here s.post a b true
      by true true h i = absurd (cc)
      by false u h i = absurd (cc)

  make_done : (x : Gfid) (n : ℕ) (child : Child) (says : Says) → child.gfid.0 ≡ g → says ≡ Is Done → (after (acts_worked g a b holder (Make x n child) says) s).born b ≡ true
  make_done x n child says on e = subst (λ (z : Says). (after (acts_worked g a b holder (Make x n child) z) s).born b ≡ true) (sym e) (by (child.gfid.0 == g) (is_itself child.gfid.0 g on))
    where
      by : (t : Bool) → t ≡ true → (after (cond t (Makes b ∷ []) []) s).born b ≡ true
      by true h = put_here s.born b true b refl
      by false h = absurd (cc)

  head_shown : (x : Gfid) (n : ℕ) (h : Head) (says : Says) → x.0 ≡ g → holder ≡ Some n → says ≡ Is (HeadIs h) → (after (acts_worked g a b holder (Query x n) says) s).seen a b ≡ Some (head s b)
  head_shown x n h says on holds e = subst (λ (z : Says). (after (acts_worked g a b holder (Query x n) z) s).seen a b ≡ Some (head s b)) (sym e) (subst (λ (o : Option ℕ). (after (acts_worked g a b o (Query x n) (Is (HeadIs h))) s).seen a b ≡ Some (head s b)) (sym holds) (by (x.0 == g) (n == n) (is_itself x.0 g on) (itself n)))
    where
      by : (t u : Bool) → t ≡ true → u ≡ true → (after (cond (t && u) (See a b ∷ []) []) s).seen a b ≡ Some (head s b)
      by true true f i = put2_here s.seen a b (Some (head s b))
      by true false f i = absurd (cc)
      by false u f i = absurd (cc)

head_is : (s : State) (b : ℕ) (h : Head) → IsHead (Some h) s b → head s b ≡ seen_head (Some h)
head_is s b h is = four (s.present b) true (s.version b) (stripped h.version.content) (s.dirty b) h.dirty.content (s.marked b) (is_marked h.version.content) is.0 is.1 is.3 is.2
  where
    made : Bool → ℕ → ℕ → Bool → Seen
    made p v d t = record { present = p; version = v; dirty = d; marked = t }

    four : (p q : Bool) (v w : ℕ) (d e : ℕ) (t u : Bool) → p ≡ q → v ≡ w → d ≡ e → t ≡ u → made p v d t ≡ made q w e u
    four p q v w d e t u i j k l = rw (i, j, k, l) refl

-- ## An execution

module _ (n g : ℕ) (m : Net) (v : View) (link : Linked n g m v) (l : LocksStand n g m v) (msg : Message) (below : msg.brick < n) (version : Option ℕ) (failed : Bool) (client number : ℕ) where
  abbrev pub brick : Brick
  brick = m.brick msg.brick

  abbrev pub out : Request → Out
  out q = executed brick (failing failed version) client number q

  abbrev pub holder_of : Option ℕ
  holder_of = counted v.core (v.of msg.no) (exclusive g Inode brick.asks)

  abbrev pub worked : Request → State
  worked q = after (acts_worked g (v.of msg.no) msg.brick holder_of q (out q).says) v.core

  abbrev pub let_go : Request → State
  let_go q = after (acts_locks g m v msg.brick brick.asks (out q).brick.asks) (worked q)

  same : (q : Request) → Same (worked q) (let_go q)
  same q = locks_same g m v msg.brick brick.asks (out q).brick.asks (worked q)

  ballots : (q : Request) (t : ℕ) → (let_go q).ballot t ≡ v.core.ballot t
  ballots q t = (locks_still g m v msg.brick brick.asks (out q).brick.asks (worked q) t).1 ∙ (worked_still g (v.of msg.no) msg.brick holder_of q (out q).says v.core t).1

  zero_or : (x : ℕ) → (x ≡ 0) ⊎ (0 < x)
  zero_or x = grind (arith)

  pub tells : (q : Request) (reply : Reply) → ((x : Gfid) (i : ℕ) → q ≡ Query x i → x.0 ≡ g → IsLock g m.said msg.call msg.brick i) → Replies (out q).says (Some reply) → Tells g m.said (let_go q) (v.of msg.no) msg.brick q reply
  tells (PreOp x i at dirty) reply locked h = λ on so plain. ap (λ (f : ℕ → ℕ → Bool). f (v.of msg.no) msg.brick) (same (PreOp x i at dirty)).pre ∙ pre_done g (v.of msg.no) msg.brick holder_of v.core x i at dirty (out (PreOp x i at dirty)).says on plain (says_pre brick (failing failed version) client number x i at dirty reply h so)
  tells (PostOp x i at new size attr) reply locked h = λ on so plain. ap (λ (f : ℕ → ℕ → Bool). f (v.of msg.no) msg.brick) (same (PostOp x i at new size attr)).post ∙ post_done g (v.of msg.no) msg.brick holder_of v.core x i at new size attr (out (PostOp x i at new size attr)).says on plain (says_post brick (failing failed version) client number x i at new size attr reply h so)
  tells (Query x i) (HeadIs y) locked h = λ on. let lock = locked x i refl on in record { message = lock.asks.message; is = lock.asks.is; at = λ z body same. seen on (record { message = lock.asks.message; gfid = z; is = lock.asks.is; body = body; on = same }) }
    where
      counts : (v.core.ballot (v.of msg.no)).number ≡ 0 → exclusive g Inode brick.asks ≡ Some i → holder_of ≡ Some i
      counts none has = by ((v.core.ballot (v.of msg.no)).number == 0) (is_itself (v.core.ballot (v.of msg.no)).number 0 none)
        where
          by : (t : Bool) → t ≡ true → cond t (exclusive g Inode brick.asks) None ≡ Some i
          by true e = has
          by false e = absurd (cc)

      seen : x.0 ≡ g → IsAlone g m.said i → ((let_go (Query x i)).seen (v.of msg.no) msg.brick ≡ Some (seen_head (Some y))) ⊎ (0 < ((let_go (Query x i)).ballot (v.of msg.no)).number)
      seen on alone =
          let o = says_head brick (failing failed version) client number x i y h in
          let has = grant_alone m msg.brick g i x brick.asks on (l.asks msg.brick below) alone o.2 in
          let is = subst (λ (z : Option Head). IsHead z v.core msg.brick) (subst (λ (z : ℕ). head_at brick.records z ≡ Some y) on o.1) (link.heads msg.brick below) in
          ⊎_elim
          (λ none. inl (ap (λ (f : ℕ → ℕ → Option Seen). f (v.of msg.no) msg.brick) (same (Query x i)).seen ∙ (head_shown g (v.of msg.no) msg.brick holder_of v.core x i y (out (Query x i)).says on (counts none has) o.0 ∙ ap (λ (z : Seen). Some z) (head_is v.core msg.brick y is))))
          (λ lt. inr (subst (λ (z : Ballot). 0 < z.number) (sym (ballots (Query x i) (v.of msg.no))) lt))
          (zero_or (v.core.ballot (v.of msg.no)).number)
  tells (Make x i child) reply locked h = λ on so. ap (λ (f : ℕ → Bool). f msg.brick) (same (Make x i child)).born ∙ make_done g (v.of msg.no) msg.brick holder_of v.core x i child (out (Make x i child)).says on (says_make brick (failing failed version) client number x i child reply h so)
  tells q reply locked h = tt

-- ## What is owed

pub both_shown : (g : ℕ) (said : ℕ → Option Message) (of : ℕ → ℕ) (s : State) (xs ys : List Owed) → OwedShown g said of s xs → OwedShown g said of s ys → OwedShown g said of s (xs ++ ys)
both_shown g said of s [] ys h i = i
both_shown g said of s (x ∷ xs) ys h i = (h.0, both_shown g said of s xs ys h.1 i)

pub own_shown : (g : ℕ) (said : ℕ → Option Message) (of : ℕ → ℕ) (s : State) (msg : Message) (says : Says) → ((reply : Reply) → Replies says (Some reply) → IsTold g said of s msg.no reply) → OwedShown g said of s (own_owed msg says)
own_shown g said of s msg Nothing h = tt
own_shown g said of s msg (Is reply) h = (h, tt)
own_shown g said of s msg (ShowsChunks piece first count) h = (h, tt)
own_shown g said of s msg (ShowsNames start names) h = (h, tt)
own_shown g said of s msg (ShowsGfids start set) h = (h, tt)

module _ (g : ℕ) (m : Net) (of : ℕ → ℕ) (s : State) (b : ℕ) where
  ask_tells : (q : Request) (x : Gfid) (d : Domain) (k : LockKind) (a c : ℕ) (reply : Reply) → q ≡ Ask x d k → Tells g m.said s a c q reply
  ask_tells q x d k a c reply e = subst (λ (r : Request). Tells g m.said s a c r reply) (sym e) tt

  told : (a : Asking) → IsAskOf m b a → (reply : Reply) → IsTold g m.said of s a.number reply
  told a is reply = record { message = is.message; is = is.said; at = λ q body. ask_tells q a.gfid a.domain a.kind (of a.number) is.message.brick reply (request_is q (Ask a.gfid a.domain a.kind) (sym body ∙ is.body)) }

  waiters : (xs : List Asking) → Each (IsAskOf m b) xs → OwedShown g m.said of s (map (granted_owed m b) (map waiter_of xs))
  waiters [] are = tt
  waiters (a ∷ xs) are = (λ reply h. told a are.0 reply, waiters xs are.1)

  pub cut_shown : (client : ℕ) (old : Brick) → AreAsks m b old.asks → OwedShown g m.said of s (let_in_owed m b (cut_off old client))
  cut_shown client old are =
      let xs = let_in (Client client) [] old.asks in
      waiters (by_queue [] xs) (each_by_queue (IsAskOf m b) [] xs tt (each_let_in (IsAskOf m b) (Client client) [] old.asks (each_asks m b old.asks are)))

  pub lets_in_shown : (old : Brick) (f : Failing) (client number : ℕ) (q : Request) → AreAsks m b old.asks → OwedShown g m.said of s (let_in_owed m b (executed old f client number q))
  lets_in_shown old f client number q are = at (lets_in old f client number q)
    where
      leaving : (l : Leaving) (ws : List Waiter) → ws ≡ granted l old.asks → OwedShown g m.said of s (map (granted_owed m b) ws)
      leaving l ws is = subst (λ (y : List Waiter). OwedShown g m.said of s (map (granted_owed m b) y)) (sym is) (waiters (let_in l [] old.asks) (each_let_in (IsAskOf m b) l [] old.asks (each_asks m b old.asks are)))

      at : LetsIn old.asks (executed old f client number q).brick.asks (executed old f client number q).lets_in → OwedShown g m.said of s (let_in_owed m b (executed old f client number q))
      at (Nobody is) = subst (λ (ws : List Waiter). OwedShown g m.said of s (map (granted_owed m b) ws)) (sym is) tt
      at (Some_leave l is shorter) = leaving l (executed old f client number q).lets_in is
