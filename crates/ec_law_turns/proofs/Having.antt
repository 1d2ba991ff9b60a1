-- What an entry makes of a brick at which the maker counts as having the directory, and of whether a record was made.
use Rattle.std.proofs.Common.{◌≡◌, ◌≢◌, ◌⊎◌, ℕ, ◌≤◌, ◌<◌, Bool, true, false, not, cond, ◌==◌, ◌&&◌, Option, Some, None, List, [], ◌∷◌, ◌++◌, refl, sym, ◌∙◌, ap, subst, arith, inl, inr, ⊎_elim}
use Rattle.std.specs.Prelude.{is_some}
use Rattle.ec_attr.specs.Marks.{is_marked}
use Rattle.ec_attr.specs.declared.geometry.Geometry.{Geometry}
use Rattle.ec_attr.specs.declared.kind.Domain.TheVariants.{Inode, Heal}
use Rattle.ec_locks.specs.declared.ask.Ask.{Ask as Asking}
use Rattle.ec_store.specs.Put.{put}
use Rattle.ec_wire.specs.declared.entry.Entry.{Entry}
use Rattle.ec_wire.specs.declared.entry.Entry.TheVariants.{Called, Sent, Executed, Heard, Stopped, Returned, Cut, Torn, Replaced}
use Rattle.ec_wire.specs.declared.message.Body.{Body}
use Rattle.ec_wire.specs.declared.message.Body.TheVariants.{ToBrick, ToClient}
use Rattle.ec_wire.specs.declared.message.Message.{Message}
use Rattle.ec_wire.specs.declared.op.Op.{Op}
use Rattle.ec_wire.specs.declared.op.Op.TheVariants.{Create, Mkdir}
use Rattle.ec_wire.specs.declared.request.Request.{Request}
use Rattle.ec_wire.specs.declared.request.Request.TheVariants.{Query, PreOp, PostOp, Clear, Make, Made, Unmake, Mark, Unmark}
use Rattle.ec_brick.specs.Replies.{Says}
use Rattle.ec_brick.specs.State.{State as Brick}
use Rattle.ec_brick.specs.Step.{Out, cut_off, quiet, started, stopped, torn_off as torn_at}
use Rattle.ec_brick.specs.Meets.{failing_at}
use Rattle.ec_conduct.specs.Done.{or_else}
use Rattle.ec_history.specs.IsRun.{May as MayEnter}
use Rattle.ec_history.specs.Run.{Net, after as net_after, call_of, executed, executed_by, heard, is_number, out_of, torn_by, torn_off, torn_out, wiped}
use Rattle.ec_history.specs.Story.{is_done}
use Rattle.ec_law_base.specs.State.{State}
use Rattle.ec_law_ballots.specs.Act.{Act, after}
use Rattle.ec_law_ballots.specs.Act.Act.{Choose, Grant, Free, Moment, See, Pre, Sink_pre, Post, Sink_post, Clear as Clears, Heal_grant, Heal_free, Mark as Marks, Unmark as Unmarks, Maker_grant, Make as Makes, Made as Mades, Unmake as Unmakes, Replace, Stop}
use Rattle.ec_law_net.specs.Link.{Linked}
use Rattle.ec_law_net.specs.Turns.{Maker, View, acts_changed, acts_done, acts_executed, acts_locks, acts_maker, acts_of_request, acts_sent, acts_shown, acts_torn, acts_worked, counted, exclusive, freed, granted, has_directory, is_ask_of, is_shown, made_by, moment_of, seen_after, turn_of}
use Rattle.ec_law_net.proofs.AtBrick.{torn_down}
use Rattle.ec_law_net.proofs.Changed.{after_both}
use Rattle.ec_law_net.proofs.Linking.{below_some}
use Rattle.ec_law_net.proofs.Logs.{heard_same}
use Rattle.ec_law_turns.specs.Births.{WasAsked}
use Rattle.ec_law_turns.specs.Once.{is_make_of}
use Rattle.ec_law_turns.proofs.Basics.{differ, equal, put_here, put_there}
use Rattle.ec_law_turns.proofs.Did.{executes, locks as locks_same, replaced as replaced_same, sent as sent_same, torn as torn_same}

-- ## Acts that leave makers alone

abbrev Spares : List Act → Type 0
Spares xs = (s : State) (c : ℕ) → (after xs s).maker c ≡ s.maker c

nil : Spares []
nil s c = refl

either : (u : Bool) (xs ys : List Act) → Spares xs → Spares ys → Spares (cond u xs ys)
either true xs ys h i = h
either false xs ys h i = i

both : (xs ys : List Act) → Spares xs → Spares ys → Spares (xs ++ ys)
both xs ys h i s c = ap (λ (z : State). z.maker c) (after_both xs ys s) ∙ (i (after xs s) c ∙ h s c)

done : (g a b : ℕ) (q : Request) → Spares (acts_done g a b q)
done g a b (PreOp x n at number) = either (x.0 == g) (cond (is_marked at) (Sink_pre a b) (Pre a b) ∷ []) [] (one (is_marked at)) nil
  where
    one : (u : Bool) → Spares (cond u (Sink_pre a b) (Pre a b) ∷ [])
    one true s c = refl
    one false s c = refl
done g a b (PostOp x n at version size attr) = either (x.0 == g) (cond (is_marked at) (Sink_post a b) (Post a b) ∷ []) [] (one (is_marked at)) nil
  where
    one : (u : Bool) → Spares (cond u (Sink_post a b) (Post a b) ∷ [])
    one true s c = refl
    one false s c = refl
done g a b (Clear x n at) = either (x.0 == g) (Clears a b ∷ []) [] (λ s c. refl) nil
done g a b (Mark x n heal head) = either (x.0 == g) (Marks a b ∷ []) [] (λ s c. refl) nil
done g a b (Unmark x n at dirty) = either (x.0 == g) (Unmarks a b ∷ []) [] (λ s c. refl) nil
done g a b (Make x n child) = either (child.gfid.0 == g) (Makes b ∷ []) [] (λ s c. refl) nil
done g a b (Made x n child) = either (child.0 == g) (Mades b ∷ []) [] (λ s c. refl) nil
done g a b (Unmake x n child) = either (child.0 == g) (Unmakes b ∷ []) [] (λ s c. refl) nil
done g a b q = nil

shown : (g a b : ℕ) (holder : Option ℕ) (q : Request) → Spares (acts_shown g a b holder q)
shown g a b holder (Query x n) = either ((x.0 == g) && is_number n holder) (See a b ∷ []) [] (λ s c. refl) nil
shown g a b holder q = nil

worked : (g a b : ℕ) (holder : Option ℕ) (q : Request) (says : Says) → Spares (acts_worked g a b holder q says)
worked g a b holder q says = either (is_done says) (acts_done g a b q) (cond (is_shown says) (acts_shown g a b holder q) []) (done g a b q) (either (is_shown says) (acts_shown g a b holder q) [] (shown g a b holder q) nil)

content : (of : ℕ → ℕ) (b : ℕ) (old new : Option ℕ) → Spares (acts_changed (Free b) (λ i. Grant (of i) b) old new)
content of b None None = nil
content of b None (Some j) = λ s c. refl
content of b (Some i) None = λ s c. refl
content of b (Some i) (Some j) = either (i == j) [] (freed (Free b) (Some i) ++ granted (λ i. Grant (of i) b) (Some j)) nil (λ s c. refl)

heal : (of : ℕ → ℕ) (b : ℕ) (old new : Option ℕ) → Spares (acts_changed (Heal_free b) (λ i. Heal_grant (of i) b) old new)
heal of b None None = nil
heal of b None (Some j) = λ s c. refl
heal of b (Some i) None = λ s c. refl
heal of b (Some i) (Some j) = either (i == j) [] (freed (Heal_free b) (Some i) ++ granted (λ i. Heal_grant (of i) b) (Some j)) nil (λ s c. refl)

sent : (g : ℕ) (r : State) (a : ℕ) (body : Body) → Spares (acts_sent g r a body)
sent g r a (ToClient re reply) = nil
sent g r a (ToBrick (Query x n)) = either (x.0 == g) (moment_of r a) [] (either (r.moment a) [] (Moment a ∷ []) nil (λ s c. refl)) nil
sent g r a (ToBrick (PreOp x n at number)) = either (x.0 == g) _ [] (either ((r.ballot a).number == 0) (Choose a _ ∷ []) [] (λ s c. refl) nil) nil
sent g r a (ToBrick (Mark x n hl head)) = either (x.0 == g) _ [] (either ((r.ballot a).number == 0) (Choose a _ ∷ []) [] (λ s c. refl) nil) nil
sent g r a (ToBrick (Unmark x n at dirty)) = either (x.0 == g) _ [] (either ((r.ballot a).number == 0) (Choose a _ ∷ []) [] (λ s c. refl) nil) nil
sent g r a (ToBrick q) = nil

replaced : (u : Bool) (b : ℕ) → Spares (cond u (Replace b ∷ []) [])
replaced true b = λ s c. refl
replaced false b = nil

-- ## One brick

-- Whether the maker counts at a brick, before and after an entry: it goes on counting where it has the directory, and begins
-- to where it gets it before any record was made.
pub record Goes (making was has is now : Bool) : Type 0 where
  pub keeps : is ≡ true → now ≡ true → has ≡ true
  pub comes : making ≡ false → (was ≡ true → is ≡ true) → now ≡ true → has ≡ true

same_goes : (making was has is now : Bool) → has ≡ is → (now ≡ true → was ≡ true) → Goes making was has is now
same_goes making was has is now e back = record { keeps = λ h k. e ∙ h; comes = λ z f k. e ∙ f (back k) }

gone_goes : (making was has is now : Bool) → now ≡ false → Goes making was has is now
gone_goes making was has is now e = record { keeps = λ h k. absurd (let z = sym k ∙ e in cc); comes = λ z f k. absurd (let w = sym k ∙ e in cc) }

-- the acts of a maker at its brick, and at others
maker_here : (r s : State) (b : ℕ) (old new : Bool) → Goes r.making old ((after (acts_maker r b old new) s).maker b) (s.maker b) new
maker_here r s b true true = record { keeps = λ h k. h; comes = λ z f k. f refl }
maker_here r s b true false = gone_goes r.making true _ (s.maker b) false refl
maker_here r s b false false = gone_goes r.making false (s.maker b) (s.maker b) false refl
maker_here r s b false true = by r.making refl
  where
    by : (t : Bool) → r.making ≡ t → Goes r.making false ((after (cond t [] (Maker_grant b ∷ [])) s).maker b) (s.maker b) true
    by true e = record { keeps = λ h k. h; comes = λ z f k. absurd (let w = sym e ∙ z in cc) }
    by false e = record { keeps = λ h k. put_here s.maker b true b refl; comes = λ z f k. put_here s.maker b true b refl }

maker_there : (r s : State) (b : ℕ) (old new : Bool) (c : ℕ) → c ≢ b → (after (acts_maker r b old new) s).maker c ≡ s.maker c
maker_there r s b true true c ne = refl
maker_there r s b true false c ne = put_there s.maker b false c ne
maker_there r s b false false c ne = refl
maker_there r s b false true c ne = by r.making
  where
    by : (t : Bool) → (after (cond t [] (Maker_grant b ∷ [])) s).maker c ≡ s.maker c
    by true = refl
    by false = put_there s.maker b true c ne

module _ (g : ℕ) (m : Net) (v : View) (b : ℕ) (old new : List Asking) (s : State) where
  abbrev p : List Act
  p = acts_changed (Heal_free b) (λ i. Heal_grant (call_of (m.said i)) b) (exclusive g Heal old) (exclusive g Heal new)

  abbrev q : List Act
  q = acts_changed (Free b) (λ i. Grant (v.of i) b) (exclusive g Inode old) (exclusive g Inode new)

  abbrev r : List Act
  r = acts_maker v.core b (has_directory m.said v.maker old) (has_directory m.said v.maker new)

  parts : after (acts_locks g m v b old new) s ≡ after r (after q (after p s))
  parts = after_both p (q ++ r) s ∙ after_both q r (after p s)

  before_maker : (c : ℕ) → (after q (after p s)).maker c ≡ s.maker c
  before_maker c = content v.of b (exclusive g Inode old) (exclusive g Inode new) (after p s) c ∙ heal (λ i. call_of (m.said i)) b (exclusive g Heal old) (exclusive g Heal new) s c

  locks_here : Goes v.core.making (has_directory m.said v.maker old) ((after (acts_locks g m v b old new) s).maker b) (s.maker b) (has_directory m.said v.maker new)
  locks_here = subst (λ (z : State). Goes v.core.making (has_directory m.said v.maker old) (z.maker b) (s.maker b) (has_directory m.said v.maker new)) (sym parts) (subst (λ (t : Bool). Goes v.core.making (has_directory m.said v.maker old) ((after r (after q (after p s))).maker b) t (has_directory m.said v.maker new)) (before_maker b) (maker_here v.core (after q (after p s)) b (has_directory m.said v.maker old) (has_directory m.said v.maker new)))

  locks_there : (c : ℕ) → c ≢ b → (after (acts_locks g m v b old new) s).maker c ≡ s.maker c
  locks_there c ne = ap (λ (z : State). z.maker c) parts ∙ (maker_there v.core (after q (after p s)) b (has_directory m.said v.maker old) (has_directory m.said v.maker new) c ne ∙ before_maker c)

-- ## Every entry

nobody : (said : ℕ → Option Message) (o : Option Maker) → has_directory said o [] ≡ false
nobody said None = refl
nobody said (Some x) = refl

-- what a message adds asks nobody yet
asked_same : (said said' : ℕ → Option Message) (call : ℕ) (o : Option ℕ) → ((i : ℕ) → o ≡ Some i → said' i ≡ said i) → is_ask_of said' call o ≡ is_ask_of said call o
asked_same said said' call None h = refl
asked_same said said' call (Some i) h = ap (λ (z : Option Message). call_of z == call) (h i refl)

-- a call that begins has no ask
no_ask : (said : ℕ → Option Message) (calls call : ℕ) → calls < call → ((i : ℕ) (x : Message) → said i ≡ Some x → x.call ≤ calls) → (o : Option ℕ) → is_ask_of said call o ≡ false
no_ask said calls call lt below None = refl
no_ask said calls call lt below (Some i) = by (said i) refl
  where
    low : (o : Option Message) → said i ≡ o → call_of o ≤ calls
    low None e = omega arith
    low (Some x) e = below i x e

    by : (o : Option Message) → said i ≡ o → (call_of (said i) == call) ≡ false
    by o e = at (call_of (said i) == call) refl
      where
        at : (t : Bool) → (call_of (said i) == call) ≡ t → t ≡ false
        at false z = refl
        at true z = absurd (let same = equal (call_of (said i)) call z in let le = subst (λ (y : Option Message). call_of y ≤ calls) (sym e) (low o e) in omega (arith, same, le, lt))

called_has : (said : ℕ → Option Message) (asks : List Asking) (o : Option Maker) (u : Bool) (x : Maker) → ((d : ℕ) → is_ask_of said x.call (exclusive d Inode asks) ≡ false) → has_directory said (or_else o (cond u (Some x) None)) asks ≡ true → has_directory said o asks ≡ true
called_has said asks (Some y) u x none h = h
called_has said asks None true x none h = absurd (let z = sym h ∙ none x.dir in cc)
called_has said asks None false x none h = absurd (cc)

module _ (geometry : Geometry) (g : ℕ) (m : Net) (v : View) (link : Linked geometry.n g m v) (below : (i : ℕ) (x : Message) → m.said i ≡ Some x → x.call ≤ m.calls) (numbers : (i : ℕ) (x : Message) → m.said i ≡ Some x → x.no ≡ i) where
  abbrev Had : ℕ → Bool
  Had c = has_directory m.said v.maker (m.brick c).asks

  abbrev pub Keeps : Entry → ℕ → Type 0
  Keeps e c = Goes v.core.making (has_directory m.said v.maker (m.brick c).asks) ((seen_after g m v e).core.maker c) (v.core.maker c) (has_directory (net_after m e).said (seen_after g m v e).maker ((net_after m e).brick c).asks)

  made_goes : (a : ℕ) (op : Op) → m.calls < a → (asks : List Asking) → has_directory m.said (made_by g v a op).maker asks ≡ true → has_directory m.said v.maker asks ≡ true
  made_goes a (Create parent name) lt asks h = called_has m.said asks v.maker (v.next_gfid == g) (record { call = a; dir = parent.0 }) (λ d. no_ask m.said m.calls a lt below (exclusive d Inode asks)) h
  made_goes a (Mkdir parent name) lt asks h = called_has m.said asks v.maker (v.next_gfid == g) (record { call = a; dir = parent.0 }) (λ d. no_ask m.said m.calls a lt below (exclusive d Inode asks)) h
  made_goes a op lt asks h = h

  -- one brick has these asks now, and its maker is as said
  at_brick : (b : ℕ) (new : Brick) (s : State) → Goes v.core.making (has_directory m.said v.maker (m.brick b).asks) (s.maker b) (v.core.maker b) (has_directory m.said v.maker new.asks) → ((c : ℕ) → c ≢ b → s.maker c ≡ v.core.maker c) → (c : ℕ) → Goes v.core.making (has_directory m.said v.maker (m.brick c).asks) (s.maker c) (v.core.maker c) (has_directory m.said v.maker (put m.brick b new c).asks)
  at_brick b new s here there c = by (c == b) refl
    where
      by : (t : Bool) → (c == b) ≡ t → Goes v.core.making (has_directory m.said v.maker (m.brick c).asks) (s.maker c) (v.core.maker c) (has_directory m.said v.maker (put m.brick b new c).asks)
      by true e = subst (λ (y : ℕ). Goes v.core.making (has_directory m.said v.maker (m.brick y).asks) (s.maker y) (v.core.maker y) (has_directory m.said v.maker (put m.brick b new y).asks)) (sym (equal c b e)) (subst (λ (z : Brick). Goes v.core.making (has_directory m.said v.maker (m.brick b).asks) (s.maker b) (v.core.maker b) (has_directory m.said v.maker z.asks)) (sym (put_here m.brick b new b refl)) here)
      by false e = subst (λ (z : Brick). Goes v.core.making (has_directory m.said v.maker (m.brick c).asks) (s.maker c) (v.core.maker c) (has_directory m.said v.maker z.asks)) (sym (put_there m.brick b new c (differ c b e))) (same_goes v.core.making (has_directory m.said v.maker (m.brick c).asks) (s.maker c) (v.core.maker c) (has_directory m.said v.maker (m.brick c).asks) (there c (differ c b e)) (λ h. h))

  stops : (b : ℕ) (new : Brick) → new.asks ≡ [] → (c : ℕ) → Goes v.core.making (has_directory m.said v.maker (m.brick c).asks) ((after (Stop b ∷ []) v.core).maker c) (v.core.maker c) (has_directory m.said v.maker (put m.brick b new c).asks)
  stops b new none = at_brick b new (after (Stop b ∷ []) v.core) (gone_goes v.core.making (has_directory m.said v.maker (m.brick b).asks) ((after (Stop b ∷ []) v.core).maker b) (v.core.maker b) (has_directory m.said v.maker new.asks) (ap (has_directory m.said v.maker) none ∙ nobody m.said v.maker)) (λ c ne. put_there v.core.maker b false c ne)

  quiet_goes : (b : ℕ) (new : Brick) (xs : List Act) → Spares xs → new.asks ≡ (m.brick b).asks → (c : ℕ) → Goes v.core.making (has_directory m.said v.maker (m.brick c).asks) ((after xs v.core).maker c) (v.core.maker c) (has_directory m.said v.maker (put m.brick b new c).asks)
  quiet_goes b new xs spares asks = at_brick b new (after xs v.core) (same_goes v.core.making (has_directory m.said v.maker (m.brick b).asks) ((after xs v.core).maker b) (v.core.maker b) (has_directory m.said v.maker new.asks) (spares v.core b) (λ h. ap (has_directory m.said v.maker) (sym asks) ∙ h)) (λ c ne. spares v.core c)

  runs_one : (msg : Message) (q : Request) (version : Option ℕ) (failed : Bool) (c : ℕ) → Goes v.core.making (has_directory m.said v.maker (m.brick c).asks) ((after (acts_of_request g m v msg (ToBrick q) version failed) v.core).maker c) (v.core.maker c) (has_directory m.said v.maker (put m.brick msg.brick (out_of m msg q version failed).brick c).asks)
  runs_one msg q version failed = at_brick msg.brick out.brick (after (xs ++ ys) v.core)
      (subst (λ (z : State). Goes v.core.making (has_directory m.said v.maker old) (z.maker msg.brick) (v.core.maker msg.brick) (has_directory m.said v.maker out.brick.asks)) (sym (after_both xs ys v.core)) (subst (λ (t : Bool). Goes v.core.making (has_directory m.said v.maker old) ((after ys (after xs v.core)).maker msg.brick) t (has_directory m.said v.maker out.brick.asks)) (spares v.core msg.brick) (locks_here g m v msg.brick old out.brick.asks (after xs v.core))))
      (λ c ne. ap (λ (z : State). z.maker c) (after_both xs ys v.core) ∙ (locks_there g m v msg.brick old out.brick.asks (after xs v.core) c ne ∙ spares v.core c))
    where
      old : List Asking
      old = (m.brick msg.brick).asks

      out : Out
      out = out_of m msg q version failed

      xs : List Act
      xs = acts_worked g (v.of msg.no) msg.brick (counted v.core (v.of msg.no) (exclusive g Inode (m.brick msg.brick).asks)) q (out_of m msg q version failed).says

      ys : List Act
      ys = acts_locks g m v msg.brick (m.brick msg.brick).asks (out_of m msg q version failed).brick.asks

      spares : Spares (acts_worked g (v.of msg.no) msg.brick (counted v.core (v.of msg.no) (exclusive g Inode (m.brick msg.brick).asks)) q (out_of m msg q version failed).says)
      spares = worked g (v.of msg.no) msg.brick (counted v.core (v.of msg.no) (exclusive g Inode (m.brick msg.brick).asks)) q (out_of m msg q version failed).says

  pub maker_entry : (e : Entry) → MayEnter geometry.n m e → (c : ℕ) → c < geometry.n → Keeps e c
  maker_entry (Called a client op) may c lt = same_goes v.core.making (has_directory m.said v.maker (m.brick c).asks) (v.core.maker c) (v.core.maker c) (has_directory m.said (made_by g v a op).maker (m.brick c).asks) refl (made_goes a op (let e = may.0 in omega (arith, e)) (m.brick c).asks)
  maker_entry (Sent msg) may c lt = same_goes v.core.making (has_directory m.said v.maker (m.brick c).asks) ((after (acts_sent g v.core (turn_of g v msg) msg.body) v.core).maker c) (v.core.maker c) (has_directory (put m.said msg.no (Some msg)) v.maker (m.brick c).asks) (sent g v.core (turn_of g v msg) msg.body v.core c) (λ h. sym (has_same v.maker) ∙ h)
    where
      has_same : (o : Option Maker) → has_directory (put m.said msg.no (Some msg)) o (m.brick c).asks ≡ has_directory m.said o (m.brick c).asks
      has_same None = refl
      has_same (Some x) = asked_same m.said (put m.said msg.no (Some msg)) x.call (exclusive x.dir Inode (m.brick c).asks) (λ i e. put_there m.said msg.no (Some msg) i (λ z. let low = below_some m.next x.dir Inode [] (m.brick c).asks i (link.asked c lt) e in let no = may.0 in omega (arith, z, low, no)))
  maker_entry (Executed i version failed) may c lt = subst (λ (o : Option Message). Goes v.core.making (has_directory m.said v.maker (m.brick c).asks) ((after (acts_executed g m v o version failed) v.core).maker c) (v.core.maker c) (has_directory (executed m o version failed).said v.maker ((executed m o version failed).brick c).asks)) (sym may.at.said) (subst (λ (z : Body). Goes v.core.making (has_directory m.said v.maker (m.brick c).asks) ((after (acts_of_request g m v may.message z version failed) v.core).maker c) (v.core.maker c) (has_directory (executed_by m may.message z version failed).said v.maker ((executed_by m may.message z version failed).brick c).asks)) (sym may.at.body) (runs_one may.message may.request version failed c))
  maker_entry (Heard i) may c lt = let o = heard_same m (m.said i) in same_goes v.core.making (has_directory m.said v.maker (m.brick c).asks) (v.core.maker c) (v.core.maker c) (has_directory (heard m (m.said i)).said v.maker ((heard m (m.said i)).brick c).asks) refl (λ h. sym (ap (λ (f : ℕ → Option Message). has_directory f v.maker ((heard m (m.said i)).brick c).asks) o.1 ∙ ap (λ (f : ℕ → Brick). has_directory m.said v.maker (f c).asks) o.0) ∙ h)
  maker_entry (Stopped b) may c lt = stops b (stopped (m.brick b)) refl c
  maker_entry (Returned b) may c lt = quiet_goes b (started (m.brick b)) [] nil refl c
  maker_entry (Cut client b) may c lt = at_brick b (cut_off (m.brick b) client).brick (after (acts_locks g m v b (m.brick b).asks (cut_off (m.brick b) client).brick.asks) v.core) (locks_here g m v b (m.brick b).asks (cut_off (m.brick b) client).brick.asks v.core) (λ c ne. locks_there g m v b (m.brick b).asks (cut_off (m.brick b) client).brick.asks v.core c ne) c
  maker_entry (Torn i bytes version) may c lt = subst (λ (o : Option Message). Goes v.core.making (has_directory m.said v.maker (m.brick c).asks) ((after (acts_torn o) v.core).maker c) (v.core.maker c) (has_directory (torn_off m o bytes version).said v.maker ((torn_off m o bytes version).brick c).asks)) (sym may.at.said) (subst (λ (z : Body). Goes v.core.making (has_directory m.said v.maker (m.brick c).asks) ((after (Stop may.message.brick ∷ []) v.core).maker c) (v.core.maker c) (has_directory (torn_by m may.message z bytes version).said v.maker ((torn_by m may.message z bytes version).brick c).asks)) (sym may.at.body) (stops may.message.brick (torn_out m may.message may.request bytes version).brick (ap (λ (t : Bool). (cond t (torn_at (m.brick may.message.brick) (failing_at version) may.request bytes) (quiet (m.brick may.message.brick))).brick.asks) may.at.up ∙ (torn_down g (m.brick may.message.brick) (failing_at version) may.request bytes).1) c))
  maker_entry (Replaced b removed all) may c lt = quiet_goes b (record (m.brick b) { records = wiped removed all (m.brick b).records }) (cond (is_some ((m.brick b).records g) && not (is_some (wiped removed all (m.brick b).records g))) (Replace b ∷ []) []) (replaced (is_some ((m.brick b).records g) && not (is_some (wiped removed all (m.brick b).records g))) b) refl c
  maker_entry e may c lt = same_goes v.core.making (has_directory m.said v.maker (m.brick c).asks) (v.core.maker c) (v.core.maker c) (has_directory m.said v.maker (m.brick c).asks) refl (λ h. h)

  -- a record is made by a Make
  pub making_entry : (e : Entry) → MayEnter geometry.n m e → (seen_after g m v e).core.making ≡ true → (v.core.making ≡ true) ⊎ WasAsked m.said (is_make_of g)
  making_entry (Called a client op) may h = inl h
  making_entry (Sent msg) may h = inl (sym (sent_same g v.core (turn_of g v msg) msg.body v.core).making ∙ h)
  making_entry (Executed i version failed) may h =
      let msg = may.message in
      let no = numbers i msg may.at.said in
      ⊎_elim (λ z. inl z) (λ z. inr (record { number = i; message = msg; request = may.request; is = may.at.said; body = may.at.body; passes = z })) ((executes g m v msg may.request version failed).making (sym (ap (λ (o : Option Message). (after (acts_executed g m v o version failed) v.core).making) may.at.said ∙ ap (λ (z : Body). (after (acts_of_request g m v msg z version failed) v.core).making) may.at.body) ∙ h))
  making_entry (Cut client b) may h = inl (sym (locks_same g m v b (m.brick b).asks (cut_off (m.brick b) client).brick.asks v.core).making ∙ h)
  making_entry (Torn i bytes version) may h = inl (sym (torn_same (m.said i) v.core).making ∙ h)
  making_entry (Replaced b removed all) may h = inl (sym (replaced_same (is_some ((m.brick b).records g) && not (is_some (wiped removed all (m.brick b).records g))) b v.core).making ∙ h)
  making_entry e may h = inl h
