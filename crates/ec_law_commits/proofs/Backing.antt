-- Each PostOp that the machine of versions has for a turn was counted for the turn's call, and only calls that were made are
-- counted.
use Rattle.std.proofs.Common.{◌≡◌, ◌⊎◌, ℕ, ◌-◌, ◌^◌, ◌<◌, ◌≤◌, Bool, true, false, not, cond, ◌==◌, ◌&&◌, Option, Some, None, [], ◌∷◌, refl, sym, ◌∙◌, ap, subst, arith, inl, inr, ⊎_elim}
use Rattle.std.proofs.lemmas.Bool.Decides.{nat_tests}
use Rattle.std.specs.Prelude.{is_some}
use Rattle.ec_attr.specs.Marks.{is_marked}
use Rattle.ec_attr.specs.declared.attr.Attr.{Attr}
use Rattle.ec_attr.specs.declared.geometry.Geometry.{Geometry}
use Rattle.ec_attr.specs.declared.gfid.Gfid.{Gfid}
use Rattle.ec_attr.specs.declared.head.Head.{Head}
use Rattle.ec_attr.specs.declared.kind.Domain.TheVariants.{Inode}
use Rattle.ec_store.specs.Records.{head_at}
use Rattle.ec_brick.specs.Replies.{Says, Is}
use Rattle.ec_brick.specs.Rows.{refusal}
use Rattle.ec_brick.specs.State.{State as Brick}
use Rattle.ec_brick.specs.Step.{Failing, Out, executed as executed_at, quiet as quiet_out}
use Rattle.ec_brick.specs.declared.row.Check.TheVariants.{At}
use Rattle.ec_brick.specs.declared.row.Need.TheVariants.{Writing}
use Rattle.ec_wire.specs.declared.entry.Entry.{Entry}
use Rattle.ec_wire.specs.declared.entry.Entry.TheVariants.{Called, Sent, Executed, Heard, Cut, Torn, Replaced}
use Rattle.ec_wire.specs.declared.message.Body.{Body}
use Rattle.ec_wire.specs.declared.message.Body.TheVariants.{ToBrick, ToClient}
use Rattle.ec_wire.specs.declared.message.Message.{Message}
use Rattle.ec_wire.specs.declared.reply.Reply.{Reply}
use Rattle.ec_wire.specs.declared.reply.Reply.TheVariants.{Done, NotAt}
use Rattle.ec_wire.specs.declared.request.Request.{Request}
use Rattle.ec_wire.specs.declared.request.Request.TheVariants.{PostOp}
use Rattle.ec_history.specs.Accounts.{Books}
use Rattle.ec_history.specs.IsRun.{May as MayEnter, is_fault}
use Rattle.ec_history.specs.Run.{Asker, Net, after as net_after, call_of, executed, executed_by, failing, heard, heard_by, out_of, torn_by, torn_off, wiped}
use Rattle.ec_history.specs.Story.{Story, executes, is_commit, is_done, is_unmarked, op_of, request_of, told, told_executed, with_flat, with_post}
use Rattle.ec_history.specs.Flat.{Flat, committed}
use Rattle.ec_history.specs.Changes.{change}
use Rattle.ec_conduct.specs.Given.{quorum}
use Rattle.ec_brick.specs.Step.{cut_off}
use Rattle.ec_law_base.specs.State.{State, put2}
use Rattle.ec_law_ballots.specs.Act.{after}
use Rattle.ec_law_ballots.specs.Act.Act.{Post, Sink_post}
use Rattle.ec_law_net.specs.Turns.{View, acts_executed, acts_locks, acts_of_request, acts_worked, counted, exclusive, is_shown, seen_after, turn_of}
use Rattle.ec_law_net.proofs.Changed.{after_both}
use Rattle.ec_law_net.proofs.Guarded.{own_row}
use Rattle.ec_law_net.proofs.Outcomes.{outcome as by_outcome}
use Rattle.ec_law_turns.specs.Known.{Known}
use Rattle.ec_law_turns.specs.Once.{Once}
use Rattle.ec_law_turns.proofs.Basics.{equal, itself, put_there}
use Rattle.ec_law_turns.proofs.Did.{Same, executes as grown, locks as locks_same, replaced, sent as sent_same, torn}
use Rattle.ec_law_turns.proofs.Steps.{executed_same}
use Rattle.ec_law_commits.specs.Commits.{commits_on}
use Rattle.ec_law_commits.proofs.Counting.{Counts, No, counts, entry_goes}

abbrev pub Backed : ℕ → Net → View → Story → Type 0
Backed g m v t = (x y : ℕ) → 2 ^ 61 ≤ x → v.core.post x y ≡ true → t.posted (call_of (m.said (x - 2 ^ 61))) g y ≡ true

abbrev pub Made : Net → Story → Type 0
Made m t = (a g b : ℕ) → t.posted a g b ≡ true → a ≤ m.calls

-- ## A PostOp that is done on an unmarked record

no_fault : (says : Says) → is_done says ≡ true → is_fault says ≡ false
no_fault says e = by says e
  where
    by : (z : Says) → is_done z ≡ true → is_fault z ≡ false
    by (Is y) e = reply y e
      where
        reply : (y : Reply) → is_done (Is y) ≡ true → is_fault (Is y) ≡ false
        reply Done e = refl
        reply y e = absurd (cc)
    by z e = refl

-- the version that a request names is the record's
at_version : (at i : ℕ) (w u : Bool) (o : Option Head) → refusal (At at) i w u o ≡ None → (h : Head) × (o ≡ Some h) × (h.version.content ≡ at)
at_version at i w u None e = absurd (cc)
at_version at i w u (Some h) e = (h, refl, is (h.version.content == at) refl e)
  where
    is : (t : Bool) → (h.version.content == at) ≡ t → cond {A = Option Reply} t None (Some (NotAt h.version.content)) ≡ None → h.version.content ≡ at
    is true f e = grind (arith, nat_tests)
    is false f e = absurd (cc)

unmarked : (s : Brick) (f : Failing) (client number : ℕ) (x : Gfid) (n at version size : ℕ) (attr : Option Attr) → is_marked at ≡ false → is_done (executed_at s f client number (PostOp x n at version size attr)).says ≡ true → is_unmarked (head_at s.records x.0) ≡ true
unmarked s f client number x n at version size attr plain done = ⊎_elim
    (λ d. let h = at_version at n true (s.removed x.0) (head_at s.records x.0) d.allowed in ap is_unmarked h.1 ∙ (ap (λ (z : ℕ). not (is_marked z)) h.2 ∙ ap not plain))
    (λ d. absurd (let e = sym done ∙ d.says in cc))
    (by_outcome s (PostOp x n at version size attr) (own_row x n Writing (At at)) f)

-- of turn a at brick b
record Did (x : Gfid) (a b at : ℕ) (says : Says) (g y z : ℕ) : Type 0 where
  turn : y ≡ a
  brick : z ≡ b
  done : is_done says ≡ true
  on : x.0 ≡ g
  plain : is_marked at ≡ false

hit : (f : ℕ → ℕ → Bool) (a b x c : ℕ) → put2 f a b true x c ≡ true → (f x c ≡ true) ⊎ ((x ≡ a) × (c ≡ b))
hit f a b x c e = at (x == a) (c == b) refl refl e
  where
    at : (t u : Bool) → (x == a) ≡ t → (c == b) ≡ u → cond (t && u) true (f x c) ≡ true → (f x c ≡ true) ⊎ ((x ≡ a) × (c ≡ b))
    at true true h k e = inr (equal x a h, equal c b k)
    at true false h k e = inl e
    at false u h k e = inl e

did : (g a b : ℕ) (s : State) (holder : Option ℕ) (x : Gfid) (n at version size : ℕ) (attr : Option Attr) (says : Says) (y z : ℕ) → (after (acts_worked g a b holder (PostOp x n at version size attr) says) s).post y z ≡ true → (s.post y z ≡ true) ⊎ Did x a b at says g y z
did g a b s holder x n at version size attr says y z e = by (is_done says) (x.0 == g) (is_marked at) (is_shown says) refl refl refl e
  where
    by : (d o k w : Bool) → is_done says ≡ d → (x.0 == g) ≡ o → is_marked at ≡ k → (after (cond d (cond o (cond k (Sink_post a b) (Post a b) ∷ []) []) (cond w [] [])) s).post y z ≡ true → (s.post y z ≡ true) ⊎ Did x a b at says g y z
    by false o k true d_is o_is k_is e = inl e
    by false o k false d_is o_is k_is e = inl e
    by true false k w d_is o_is k_is e = inl e
    by true true true w d_is o_is k_is e = inl e
    by true true false w d_is o_is k_is e = ⊎_elim (λ h. inl h) (λ h. inr (record { turn = h.0; brick = h.1; done = d_is; on = equal x.0 g o_is; plain = k_is })) (hit s.post a b y z e)

-- ## An execution

module _ (geometry : Geometry) (g : ℕ) (m : Net) (v : View) (t : Story) (msg : Message) (version : Option ℕ) (failed : Bool) (said : m.said msg.no ≡ Some msg) (caller : 2 ^ 61 ≤ v.of msg.no → call_of (m.said (v.of msg.no - 2 ^ 61)) ≡ msg.call) (up : (m.brick msg.brick).up ≡ true) where
  abbrev Had : Request → ℕ → ℕ → Type 0
  Had q y z = (v.core.post y z ≡ true) ⊎ ((executes geometry m t msg (Some q) version failed).posted (call_of (m.said (y - 2 ^ 61))) g z ≡ true)

  abbrev says_of : Request → Says
  says_of q = (out_of m msg q version failed).says

  abbrev holder : Option ℕ
  holder = counted v.core (v.of msg.no) (exclusive g Inode (m.brick msg.brick).asks)

  went : (q : Request) → out_of m msg q version failed ≡ executed_at (m.brick msg.brick) (failing failed version) msg.client msg.no q
  went q = ap (λ (u : Bool). cond u (executed_at (m.brick msg.brick) (failing failed version) msg.client msg.no q) (quiet_out (m.brick msg.brick))) up

  counted_here : (a b c : ℕ) → (with_post t a b c).posted a b c ≡ true
  counted_here a b c = by (a == a) (b == b) (c == c) (itself a) (itself b) (itself c)
    where
      by : (u w k : Bool) → u ≡ true → w ≡ true → k ≡ true → cond (u && w && k) true (t.posted a b c) ≡ true
      by true true true e f h = refl
      by false w k e f h = absurd (cc)
      by true false k e f h = absurd (cc)
      by true true false e f h = absurd (cc)

  whole : (y : ℕ) (f : Flat → Flat) (u w k : Bool) → u ≡ true → w ≡ true → (cond u (cond w (cond k (with_flat (with_post t msg.call y msg.brick) y f) (with_post t msg.call y msg.brick)) t) t).posted msg.call y msg.brick ≡ true
  whole y f true true true e h = counted_here msg.call y msg.brick
  whole y f true true false e h = counted_here msg.call y msg.brick
  whole y f true false k e h = absurd (cc)
  whole y f false w k e h = absurd (cc)

  fine : (x : Gfid) (n at new size : ℕ) (attr : Option Attr) (k : Bool) → is_fault (out_of m msg (PostOp x n at new size attr) version k).says ≡ k → is_done (out_of m msg (PostOp x n at new size attr) version k).says ≡ true → is_unmarked (head_at (m.brick msg.brick).records x.0) ≡ true → (executes geometry m t msg (Some (PostOp x n at new size attr)) version k).posted msg.call x.0 msg.brick ≡ true
  fine x n at new size attr true fault done head = absurd (let z = sym (no_fault (out_of m msg (PostOp x n at new size attr) version true).says done) ∙ fault in cc)
  fine x n at new size attr false fault done head = whole x.0 (λ flat. committed (quorum geometry) msg.call new (change (quorum geometry) (op_of m msg.call) (t.found msg.call) x.0 flat) flat) (is_done (out_of m msg (PostOp x n at new size attr) version false).says) (is_unmarked (head_at (m.brick msg.brick).records x.0)) (is_commit geometry t msg.call x.0 msg.brick) done head

  posts_one : (x : Gfid) (n at new size : ℕ) (attr : Option Attr) → is_fault (says_of (PostOp x n at new size attr)) ≡ failed → is_done (says_of (PostOp x n at new size attr)) ≡ true → is_marked at ≡ false → (executes geometry m t msg (Some (PostOp x n at new size attr)) version failed).posted msg.call x.0 msg.brick ≡ true
  posts_one x n at new size attr fault done plain = fine x n at new size attr failed fault done (unmarked (m.brick msg.brick) (failing failed version) msg.client msg.no x n at new size attr plain (sym (ap (λ (o : Out). is_done o.says) (went (PostOp x n at new size attr))) ∙ done))

  pub did_executed : (q : Request) → is_fault (says_of q) ≡ failed → (y z : ℕ) → 2 ^ 61 ≤ y → (after (acts_of_request g m v msg (ToBrick q) version failed) v.core).post y z ≡ true → Had q y z
  did_executed (PostOp x n at new size attr) fault y z le e =
      let q : Request = PostOp x n at new size attr in
      let xs = acts_worked g (v.of msg.no) msg.brick holder q (says_of q) in
      let ys = acts_locks g m v msg.brick (m.brick msg.brick).asks (out_of m msg q version failed).brick.asks in
      let same = locks_same g m v msg.brick (m.brick msg.brick).asks (out_of m msg q version failed).brick.asks (after xs v.core) in
      let before : (after xs v.core).post y z ≡ true = sym (ap (λ (f : ℕ → ℕ → Bool). f y z) same.post) ∙ (ap (λ (s : State). s.post y z) (sym (after_both xs ys v.core)) ∙ e) in
      ⊎_elim (λ h. inl h) (λ d. inr (newly d)) (did g (v.of msg.no) msg.brick v.core holder x n at new size attr (says_of q) y z before)
    where
      newly : Did x (v.of msg.no) msg.brick at (says_of (PostOp x n at new size attr)) g y z → (executes geometry m t msg (Some (PostOp x n at new size attr)) version failed).posted (call_of (m.said (y - 2 ^ 61))) g z ≡ true
      newly d =
          let here = posts_one x n at new size attr fault d.done d.plain in
          let call = ap (λ (u : ℕ). call_of (m.said (u - 2 ^ 61))) d.turn ∙ caller (subst (λ (u : ℕ). 2 ^ 61 ≤ u) d.turn le) in
          subst (λ (u : ℕ). (executes geometry m t msg (Some (PostOp x n at new size attr)) version failed).posted u g z ≡ true) (sym call)
          (subst (λ (u : ℕ). (executes geometry m t msg (Some (PostOp x n at new size attr)) version failed).posted msg.call u z ≡ true) d.on
          (subst (λ (u : ℕ). (executes geometry m t msg (Some (PostOp x n at new size attr)) version failed).posted msg.call x.0 u ≡ true) (sym d.brick) here))
  did_executed q fault y z le e = ⊎_elim (λ h. inl h) (λ h. absurd (let w = h.2 in cc)) ((grown g m v msg q version failed).post y z e)

-- ## Each entry

module _ (geometry : Geometry) (g : ℕ) (m : Net) (v : View) (t : Story) (b : Books) (k : Known geometry g m v b) where
  abbrev Then : Entry → ℕ → ℕ → Type 0
  Then e y z = (seen_after g m v e).core.post y z ≡ true → (v.core.post y z ≡ true) ⊎ ((told geometry m t e).posted (call_of ((net_after m e).said (y - 2 ^ 61))) g z ≡ true)

  by_same : (s : State) (y z : ℕ) → Same v.core s → s.post y z ≡ true → v.core.post y z ≡ true
  by_same s y z same e = sym (ap (λ (f : ℕ → ℕ → Bool). f y z) same.post) ∙ e

  by_execution : (i : ℕ) (version : Option ℕ) (failed : Bool) (may : MayEnter geometry.n m (Executed i version failed)) (y z : ℕ) → 2 ^ 61 ≤ y
      → (after (acts_executed g m v (m.said i) version failed) v.core).post y z ≡ true → (v.core.post y z ≡ true) ⊎ ((told_executed geometry m t (m.said i) version failed).posted (call_of (m.said (y - 2 ^ 61))) g z ≡ true)
  by_execution i version failed may y z le =
      let msg = may.message in
      let no = (k.messages.number i msg may.at.said).0 in
      let said = ap m.said no ∙ may.at.said in
      subst (λ (o : Option Message). (after (acts_executed g m v o version failed) v.core).post y z ≡ true → (v.core.post y z ≡ true) ⊎ ((told_executed geometry m t o version failed).posted (call_of (m.said (y - 2 ^ 61))) g z ≡ true)) (sym may.at.said)
      (subst (λ (w : Body). (after (acts_of_request g m v msg w version failed) v.core).post y z ≡ true → (v.core.post y z ≡ true) ⊎ ((executes geometry m t msg (request_of w) version failed).posted (call_of (m.said (y - 2 ^ 61))) g z ≡ true)) (sym may.at.body)
      (did_executed geometry g m v t msg version failed said (k.messages.caller msg.no msg said) may.at.up may.request (sym may.fault) y z le))

  pub post_then : (e : Entry) → MayEnter geometry.n m e → (y z : ℕ) → 2 ^ 61 ≤ y → Then e y z
  post_then (Sent msg) may y z le is = inl (by_same _ y z (sent_same g v.core (turn_of g v msg) msg.body v.core) is)
  post_then (Executed i version failed) may y z le is =
      let same = (executed_same m (m.said i) version failed).0 in
      ⊎_elim (λ h. inl h) (λ h. inr (subst (λ (f : ℕ → Option Message). (told geometry m t (Executed i version failed)).posted (call_of (f (y - 2 ^ 61))) g z ≡ true) (sym same) h)) (by_execution i version failed may y z le is)
  post_then (Cut client x) may y z le is = inl (by_same _ y z (locks_same g m v x (m.brick x).asks (cut_off (m.brick x) client).brick.asks v.core) is)
  post_then (Torn i bytes version) may y z le is = inl (by_same _ y z (torn (m.said i) v.core) is)
  post_then (Replaced x removed all) may y z le is = inl (by_same _ y z (replaced (is_some ((m.brick x).records g) && not (is_some (wiped removed all (m.brick x).records g))) x v.core) is)
  post_then e may y z le is = inl is

  pub backed_entry : (e : Entry) → MayEnter geometry.n m e → Once g m.said m.flying v.of v.core → ((i : ℕ) → i < m.next → (net_after m e).said i ≡ m.said i) → Backed g m v t → Backed g (net_after m e) (seen_after g m v e) (told geometry m t e)
  backed_entry e may once stays backed x y le is = ⊎_elim old (λ h. h) (post_then e may x y le is)
    where
      old : v.core.post x y ≡ true → (told geometry m t e).posted (call_of ((net_after m e).said (x - 2 ^ 61))) g y ≡ true
      old h =
          let first = once.post x y le h in
          let less = k.messages.below first.number first.asked.message first.asked.is in
          let of = first.asked.turn in
          let same = stays (x - 2 ^ 61) (omega (arith, le, less, of)) in
          subst (λ (o : Option Message). (told geometry m t e).posted (call_of o) g y ≡ true) (sym same) ((entry_goes geometry (call_of (m.said (x - 2 ^ 61))) g m t e).before y (backed x y le h))

-- ## Calls

-- calls that were made stay what they are
pub record CallsStay (m n : Net) : Type 0 where
  pub grows : m.calls ≤ n.calls
  pub asker : (a : ℕ) → a ≤ m.calls → n.asker a ≡ m.asker a

as_before : (m n : Net) → n.calls ≡ m.calls → n.asker ≡ m.asker → CallsStay m n
as_before m n calls asker = record { grows = omega (arith, calls); asker = λ a le. ap (λ (f : ℕ → Option Asker). f a) asker }

executed_stay : (m : Net) (o : Option Message) (version : Option ℕ) (failed : Bool) → CallsStay m (executed m o version failed)
executed_stay m None version failed = as_before m m refl refl
executed_stay m (Some msg) version failed = by msg.body
  where
    by : (z : Body) → CallsStay m (executed_by m msg z version failed)
    by (ToBrick q) = as_before m (executed_by m msg (ToBrick q) version failed) refl refl
    by (ToClient re reply) = as_before m m refl refl

heard_stay : (m : Net) (o : Option Message) → CallsStay m (heard m o)
heard_stay m None = as_before m m refl refl
heard_stay m (Some msg) = by msg.body
  where
    by : (z : Body) → CallsStay m (heard_by m msg z)
    by (ToBrick q) = as_before m m refl refl
    by (ToClient re reply) = as_before m (heard_by m msg (ToClient re reply)) refl refl

torn_stay : (m : Net) (o : Option Message) (bytes : ℕ) (version : Option ℕ) → CallsStay m (torn_off m o bytes version)
torn_stay m None bytes version = as_before m m refl refl
torn_stay m (Some msg) bytes version = by msg.body
  where
    by : (z : Body) → CallsStay m (torn_by m msg z bytes version)
    by (ToBrick q) = as_before m (torn_by m msg (ToBrick q) bytes version) refl refl
    by (ToClient re reply) = as_before m m refl refl

pub calls_stay : (n : ℕ) (m : Net) (e : Entry) → MayEnter n m e → CallsStay m (net_after m e)
calls_stay n m (Called a client op) may = record {
  grows = (let next = may.0 in omega (arith, next));
  asker = λ x le. put_there m.asker a (Some (record { client = client; op = op })) x (λ z. let next = may.0 in omega (arith, next, le, z));
}
calls_stay n m (Executed i version failed) may = executed_stay m (m.said i) version failed
calls_stay n m (Heard i) may = heard_stay m (m.said i)
calls_stay n m (Torn i bytes version) may = torn_stay m (m.said i) bytes version
calls_stay n m e may = as_before m (net_after m e) refl refl

pub made_entry : (geometry : Geometry) (m : Net) (t : Story) (e : Entry) → MayEnter geometry.n m e → ((i : ℕ) (x : Message) → m.said i ≡ Some x → x.call ≤ m.calls) → Made m t → Made (net_after m e) (told geometry m t e)
made_entry geometry m t e may below made a g b is = ⊎_elim same one (counts geometry m t e)
  where
    up : a ≤ m.calls → a ≤ (net_after m e).calls
    up le = let grows = (calls_stay geometry.n m e may).grows in omega (arith, le, grows)

    same : No t (told geometry m t e) (λ x y. commits_on geometry m t x y e) → a ≤ (net_after m e).calls
    same still = up (made a g b (sym (ap (λ (f : ℕ → ℕ → ℕ → Bool). f a g b) still.posted) ∙ is))

    one : Counts geometry m t e → a ≤ (net_after m e).calls
    one c = at (a == c.message.call) (g == c.one.gfid) (b == c.one.brick) refl (sym (ap (λ (f : ℕ → ℕ → ℕ → Bool). f a g b) c.one.posted) ∙ is)
      where
        at : (u w k : Bool) → (a == c.message.call) ≡ u → cond (u && w && k) true (t.posted a g b) ≡ true → a ≤ (net_after m e).calls
        at true w k h f = up (subst (λ (y : ℕ). y ≤ m.calls) (sym (equal a c.message.call h)) (below c.number c.message c.is))
        at false w k h f = up (made a g b f)
