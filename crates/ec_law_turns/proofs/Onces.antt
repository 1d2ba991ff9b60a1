-- A Query, a PreOp, a PostOp, a Make and a Made go to a brick once in a turn, and the machine did only what a message asked
-- for.
use Rattle.std.proofs.Common.{◌≡◌, ◌≢◌, ◌⊎◌, ℕ, ◌-◌, ◌^◌, ◌≤◌, Bool, true, false, not, cond, ◌==◌, ◌&&◌, Option, Some, None, refl, sym, ◌∙◌, ap, subst, arith, ⊎_elim}
use Rattle.std.specs.Prelude.{is_some, unwrap_or}
use Rattle.ec_attr.specs.Marks.{is_marked}
use Rattle.ec_attr.specs.declared.geometry.Geometry.{Geometry}
use Rattle.ec_store.specs.Put.{put}
use Rattle.ec_wire.specs.declared.entry.Entry.{Entry}
use Rattle.ec_wire.specs.declared.entry.Entry.TheVariants.{Called, Sent, Executed, Heard, Lost, GivenUp, Stopped, Returned, Cut, Died, Yielded, Torn, Answered, Replaced}
use Rattle.ec_wire.specs.declared.message.Body.{Body}
use Rattle.ec_wire.specs.declared.message.Body.TheVariants.{ToBrick, ToClient}
use Rattle.ec_wire.specs.declared.message.Message.{Message}
use Rattle.ec_wire.specs.declared.request.Request.{Request}
use Rattle.ec_wire.specs.declared.request.Request.TheVariants.{Ask, Release, Query, PreOp, PostOp, Make, Made}
use Rattle.ec_brick.specs.Step.{cut_off}
use Rattle.ec_conduct.specs.Account.{Account, Lock, gfid_of}
use Rattle.ec_conduct.specs.Conduct.{MaySend, is_release}
use Rattle.ec_conduct.specs.Done.{is_made, is_make, is_post, is_pre, is_query, tried}
use Rattle.ec_conduct.specs.Opened.{account}
use Rattle.ec_history.specs.Accounts.{Books}
use Rattle.ec_history.specs.IsRun.{May as MayEnter, MaySay}
use Rattle.ec_history.specs.Run.{Net, after as net_after, call_of, executed as executed_net, executed_by, heard, heard_by, torn_by, torn_off, wiped}
use Rattle.ec_law_base.specs.State.{Head, State}
use Rattle.ec_law_ballots.specs.Act.{after}
use Rattle.ec_law_net.specs.Turns.{View, acts_executed, acts_of_request, acts_sent, is_lock_on, is_over, seen_after, turn_of}
use Rattle.ec_law_net.proofs.Guarded.{IsGuarded}
use Rattle.ec_law_turns.specs.Follows.{Follows, IsSaid}
use Rattle.ec_law_turns.specs.Known.{Known}
use Rattle.ec_law_turns.specs.Once.{IsIn, Landed, LandedAt, Once, OnceOf, is_made_of, is_make_of, is_plain_pre, is_sink_pre}
use Rattle.ec_law_turns.specs.Orderly.{InOrder}
use Rattle.ec_law_turns.proofs.Allowed.{free, locked}
use Rattle.ec_law_turns.proofs.Basics.{differ, equal, has_tried, put_here, put_there, some_is, some_none, wait_of}
use Rattle.ec_law_turns.proofs.Did.{Grows, Same, executes, locks as locks_same, replaced, sent as sent_same, torn}
use Rattle.ec_law_turns.proofs.Sends.{adds, of_after, said_after}
use Rattle.ec_law_turns.proofs.SentKnown.{BodyKept}
use Rattle.ec_law_turns.proofs.SentSound.{own_sender}
use Rattle.ec_law_turns.proofs.Steps.{EntryKept, heard_same, made_same, torn_same}
use Rattle.ec_law_turns.proofs.Tracks.{Adds, request_is}
use Rattle.ec_law_turns.proofs.Turned.{turn_kept}

-- ## Tests

guarded_lock : (g : ℕ) (q : Request) → IsGuarded q → is_lock_on g (ToBrick q) ≡ false
guarded_lock g (Ask x d kind) w = absurd w
guarded_lock g q w = refl

guarded_release : (q : Request) → IsGuarded q → is_release q ≡ false
guarded_release (Release x n) w = absurd w
guarded_release q w = refl

-- what a test passes goes under a grant, and the conduct sends it to a brick once
pub record SentOnce (g : ℕ) (test : Request → Bool) : Type 0 where
  pub guarded : (q : Request) → test q ≡ true → IsGuarded q
  pub once : (q : Request) → test q ≡ true → gfid_of q ≡ Some g → (said : ℕ → Option Message) (turn : ℕ → Option ℕ) (of : ℕ → ℕ) (moment : ℕ → Bool) (a b : ℕ) (c : Account) → Follows g said turn of moment a c → MaySend c b q → InOrder c b q → tried test ((c.on g).place b).window ≡ false

query_guarded : (q : Request) → is_query q ≡ true → IsGuarded q
query_guarded (Query x n) h = tt
query_guarded q h = absurd (cc)

pre_guarded : (q : Request) → is_pre q ≡ true → IsGuarded q
pre_guarded (PreOp x n at dirty) h = tt
pre_guarded q h = absurd (cc)

post_guarded : (q : Request) → is_post q ≡ true → IsGuarded q
post_guarded (PostOp x n at version size attr) h = tt
post_guarded q h = absurd (cc)

query_once : (g : ℕ) (q : Request) → is_query q ≡ true → gfid_of q ≡ Some g → (said : ℕ → Option Message) (turn : ℕ → Option ℕ) (of : ℕ → ℕ) (moment : ℕ → Bool) (a b : ℕ) (c : Account) → Follows g said turn of moment a c → MaySend c b q → InOrder c b q → tried is_query ((c.on g).place b).window ≡ false
query_once g (Query x n) h on said turn of moment a b c f may order = at (tried is_query ((c.on g).place b).window) refl
  where
    at : (t : Bool) → tried is_query ((c.on g).place b).window ≡ t → t ≡ false
    at false e = refl
    at true e =
        let o = f.looked b e in
        let together = subst (λ (z : ℕ). ((c.on z).queried ≡ None) ⊎ ((c.on z).queried ≡ Some c.steps)) (some_is x.0 g on) may.1.together in
        absurd (⊎_elim (λ z. some_none o.0 (sym o.1 ∙ z)) (λ z. let same = some_is o.0 c.steps (sym o.1 ∙ z) in let lt = o.2 in omega (arith, same, lt)) together)
query_once g q h on said turn of moment a b c f may order = absurd (cc)

pre_once : (g : ℕ) (q : Request) → is_pre q ≡ true → gfid_of q ≡ Some g → (said : ℕ → Option Message) (turn : ℕ → Option ℕ) (of : ℕ → ℕ) (moment : ℕ → Bool) (a b : ℕ) (c : Account) → Follows g said turn of moment a c → MaySend c b q → InOrder c b q → tried is_pre ((c.on g).place b).window ≡ false
pre_once g (PreOp x n at dirty) h on said turn of moment a b c f may order = subst (λ (z : ℕ). tried is_pre ((c.on z).place b).window ≡ false) (some_is x.0 g on) may.1.once
pre_once g q h on said turn of moment a b c f may order = absurd (cc)

post_once : (g : ℕ) (q : Request) → is_post q ≡ true → gfid_of q ≡ Some g → (said : ℕ → Option Message) (turn : ℕ → Option ℕ) (of : ℕ → ℕ) (moment : ℕ → Bool) (a b : ℕ) (c : Account) → Follows g said turn of moment a c → MaySend c b q → InOrder c b q → tried is_post ((c.on g).place b).window ≡ false
post_once g (PostOp x n at version size attr) h on said turn of moment a b c f may order = subst (λ (z : ℕ). tried is_post ((c.on z).place b).window ≡ false) (some_is x.0 g on) order
post_once g q h on said turn of moment a b c f may order = absurd (cc)

make_guarded : (q : Request) → is_make q ≡ true → IsGuarded q
make_guarded (Make x n child) h = tt
make_guarded q h = absurd (cc)

made_guarded : (q : Request) → is_made q ≡ true → IsGuarded q
made_guarded (Made x n child) h = tt
made_guarded q h = absurd (cc)

make_once : (g : ℕ) (q : Request) → is_make q ≡ true → gfid_of q ≡ Some g → (said : ℕ → Option Message) (turn : ℕ → Option ℕ) (of : ℕ → ℕ) (moment : ℕ → Bool) (a b : ℕ) (c : Account) → Follows g said turn of moment a c → MaySend c b q → InOrder c b q → tried is_make ((c.on g).place b).window ≡ false
make_once g (Make x n child) h on said turn of moment a b c f may order = subst (λ (z : ℕ). tried is_make ((c.on z).place b).window ≡ false) (some_is x.0 g on) order
make_once g q h on said turn of moment a b c f may order = absurd (cc)

made_once : (g : ℕ) (q : Request) → is_made q ≡ true → gfid_of q ≡ Some g → (said : ℕ → Option Message) (turn : ℕ → Option ℕ) (of : ℕ → ℕ) (moment : ℕ → Bool) (a b : ℕ) (c : Account) → Follows g said turn of moment a c → MaySend c b q → InOrder c b q → tried is_made ((c.on g).place b).window ≡ false
made_once g (Made x n child) h on said turn of moment a b c f may order = subst (λ (z : ℕ). tried is_made ((c.on z).place b).window ≡ false) (some_is x.0 g on) may.1.once
made_once g q h on said turn of moment a b c f may order = absurd (cc)

queries_once : (g : ℕ) → SentOnce g is_query
queries_once g = record { guarded = query_guarded; once = query_once g }

preops_once : (g : ℕ) → SentOnce g is_pre
preops_once g = record { guarded = pre_guarded; once = pre_once g }

posts_once : (g : ℕ) → SentOnce g is_post
posts_once g = record { guarded = post_guarded; once = post_once g }

makes_once : (g : ℕ) → SentOnce g is_make
makes_once g = record { guarded = make_guarded; once = make_once g }

mades_once : (g : ℕ) → SentOnce g is_made
mades_once g = record { guarded = made_guarded; once = made_once g }

-- ## A message is sent

module _ (geometry : Geometry) (g : ℕ) (m : Net) (v : View) (b : Books) (msg : Message) (next_no : msg.no ≡ m.next) (may : MaySay geometry.n m msg msg.body) (k : Known geometry g m v b) (kept : BodyKept m b msg msg.body) where
  more : Adds m.said (said_after m msg) v.of (of_after g v msg) msg.no msg
  more = adds geometry.n g m v msg next_no k.messages

  module _ (test : Request → Bool) (rule : SentOnce g test) where
    clash : (q : Request) → msg.body ≡ ToBrick q → test q ≡ true → gfid_of q ≡ Some g → (j t : ℕ) → turn_of g v msg ≡ t → IsIn g m.said v.of test j msg.brick t → ⊥
    clash q body passes on j t turn old =
        let guarded = rule.guarded q passes in
        let asker = subst (λ (z : Body). MaySay geometry.n m msg z) body may in
        let made = k.numbers.made msg.call asker.asker asker.made in
        let c = account made.1 (b.own msg.call) in
        let f = k.calls msg.call made.1 made.2 in
        let rel = guarded_release q guarded in
        let allowed = subst (BodyKept m b msg) body kept made.1 made.2 (own_sender m b msg q rel) in
        has c f allowed.0 (rule.once q passes on m.said v.turn v.of v.core.moment msg.call msg.brick c f allowed.0 allowed.1) rel guarded ((c.on g).place msg.brick).inode refl
      where
        has : (c : Account) → Follows g m.said v.turn v.of v.core.moment msg.call c → MaySend c msg.brick q → tried test ((c.on g).place msg.brick).window ≡ false → is_release q ≡ false → IsGuarded q → (o : Option Lock) → ((c.on g).place msg.brick).inode ≡ o → ⊥
        has c f allowed none rel guarded None e = locked c msg.brick q g guarded on allowed e
        has c f allowed none rel guarded (Some l) e =
            let mine = (f.lock msg.brick l e).0 in
            let now = turn_kept g v msg msg.call (shut (is_lock_on g msg.body) (is_over v.core (v.turn msg.call)) (ap (is_lock_on g) body ∙ guarded_lock g q guarded)) ∙ mine in
            let number = sym (ap (λ (o : Option ℕ). unwrap_or o 0) now) ∙ turn in
            let of = old.turn ∙ sym number in
            let turns = k.messages.turns msg.call (v.of l.number) mine in
            let call = sym (k.messages.caller j old.message old.is (subst (λ (y : ℕ). 2 ^ 61 ≤ y) (sym of) turns.0)) ∙ (ap (λ (y : ℕ). call_of (m.said (y - 2 ^ 61))) of ∙ turns.2) in
            let is : IsSaid m.said msg.call msg.brick j old.request = record { message = old.message; is = old.is; call = call; brick = old.brick; body = old.body } in
            ⊎_elim (λ z. some_none (wait_of j old.request) (sym z ∙ free c msg.brick q allowed rel)) (λ z. let so = has_tried test j old.request old.passes ((c.on g).place msg.brick).window z in let y = sym so ∙ none in cc) (f.sent msg.brick j old.request is old.on (guarded_release old.request (rule.guarded old.request old.passes)) (mine ∙ ap (λ (y : ℕ). Some y) (sym of)))
          where
            shut : (t u : Bool) → t ≡ false → (t && u) ≡ false
            shut false u e = refl
            shut true u e = absurd (cc)

    In_after : ℕ → ℕ → ℕ → Type 0
    In_after i x t = IsIn g (said_after m msg) (of_after g v msg) test i x t

    before : (i x t : ℕ) → IsIn g (said_after m msg) (of_after g v msg) test i x t → i ≢ msg.no → IsIn g m.said v.of test i x t
    before i x t h ne = let is = ⊎_elim (λ z. absurd (ne z.0)) (λ z. z) (more.newest i h.message h.is) in record { message = h.message; request = h.request; is = is; brick = h.brick; body = h.body; on = h.on; passes = h.passes; turn = sym (more.still i h.message is).1 ∙ h.turn }

    apart : (j x t : ℕ) → IsIn g (said_after m msg) (of_after g v msg) test msg.no x t → IsIn g m.said v.of test j x t → ⊥
    apart j x t new old =
        let is = some_is msg new.message (sym (put_here m.said msg.no (Some msg) msg.no refl) ∙ new.is) in
        let brick = ap (λ (z : Message). z.brick) is ∙ new.brick in
        clash new.request (ap (λ (z : Message). z.body) is ∙ new.body) new.passes new.on j t (sym (put_here v.of msg.no (turn_of g v msg) msg.no refl) ∙ new.turn) (subst (λ (y : ℕ). IsIn g m.said v.of test j y t) (sym brick) old)

    once_later : OnceOf g m.said v.of test → OnceOf g (said_after m msg) (of_after g v msg) test
    once_later once i j x t le hi hj = at (i == msg.no) (j == msg.no) refl refl
      where
        at : (u w : Bool) → (i == msg.no) ≡ u → (j == msg.no) ≡ w → i ≡ j
        at true true e f = equal i msg.no e ∙ sym (equal j msg.no f)
        at true false e f = absurd (apart j x t (subst (λ (y : ℕ). IsIn g (said_after m msg) (of_after g v msg) test y x t) (equal i msg.no e) hi) (before j x t hj (differ j msg.no f)))
        at false true e f = absurd (apart i x t (subst (λ (y : ℕ). IsIn g (said_after m msg) (of_after g v msg) test y x t) (equal j msg.no f) hj) (before i x t hi (differ i msg.no e)))
        at false false e f = once i j x t le (before i x t hi (differ i msg.no e)) (before j x t hj (differ j msg.no f))

-- ## Other entries

landed_later : (g : ℕ) (said said' : ℕ → Option Message) (flying flying' : ℕ → Bool) (of of' : ℕ → ℕ) (test : Request → Bool) (b t : ℕ) → ((i : ℕ) (x : Message) → said i ≡ Some x → (said' i ≡ Some x) × (of' i ≡ of i)) → ((i : ℕ) (x : Message) → said i ≡ Some x → flying i ≡ false → flying' i ≡ false) → Landed g said flying of test b t → Landed g said' flying' of' test b t
landed_later g said said' flying flying' of of' test b t still lands h =
    let o = h.asked in
    record { number = h.number; asked = record { message = o.message; request = o.request; is = (still h.number o.message o.is).0; brick = o.brick; body = o.body; on = o.on; passes = o.passes; turn = (still h.number o.message o.is).1 ∙ o.turn }; landed = lands h.number o.message o.is h.landed }

landed_at_later : (said said' : ℕ → Option Message) (flying flying' : ℕ → Bool) (test : Request → Bool) (b : ℕ) → ((i : ℕ) (x : Message) → said i ≡ Some x → said' i ≡ Some x) → ((i : ℕ) (x : Message) → said i ≡ Some x → flying i ≡ false → flying' i ≡ false) → LandedAt said flying test b → LandedAt said' flying' test b
landed_at_later said said' flying flying' test b still lands h = record { number = h.number; message = h.message; request = h.request; is = still h.number h.message h.is; brick = h.brick; body = h.body; passes = h.passes; landed = lands h.number h.message h.is h.landed }

module _ (g : ℕ) (said : ℕ → Option Message) (flying : ℕ → Bool) (of : ℕ → ℕ) (core : State) (o : Once g said flying of core) where
  -- nothing is said, messages may land, and nothing more was executed
  stays : (said' : ℕ → Option Message) (flying' : ℕ → Bool) (of' : ℕ → ℕ) (core' : State) → said' ≡ said → of' ≡ of → ((i : ℕ) → flying i ≡ false → flying' i ≡ false) → Same core core' → Once g said' flying' of' core'
  stays said' flying' of' core' said_is of_is lands same = subst (λ (f : ℕ → Option Message). Once g f flying' of' core') (sym said_is) (subst (λ (f : ℕ → ℕ). Once g said flying' f core') (sym of_is) (record {
    queries = o.queries;
    preops = o.preops;
    posts = o.posts;
    makes = o.makes;
    mades = o.mades;
    seen = λ t b le e. landed_later g said said flying flying' of of is_query b t (λ i x h. (h, refl)) (λ i x h f. lands i f) (o.seen t b le (sym (ap (λ (f : ℕ → ℕ → Option Head). is_some (f t b)) same.seen) ∙ e));
    pre = λ t b le e. landed_later g said said flying flying' of of is_plain_pre b t (λ i x h. (h, refl)) (λ i x h f. lands i f) (o.pre t b le (sym (ap (λ (f : ℕ → ℕ → Bool). f t b) same.pre) ∙ e));
    post = λ t b le e. landed_later g said said flying flying' of of is_post b t (λ i x h. (h, refl)) (λ i x h f. lands i f) (o.post t b le (sym (ap (λ (f : ℕ → ℕ → Bool). f t b) same.post) ∙ e));
    born = λ b e. landed_at_later said said flying flying' (is_make_of g) b (λ i x h. h) (λ i x h f. lands i f) (o.born b (sym (ap (λ (f : ℕ → Bool). f b) same.born) ∙ e));
    grown = λ b e. landed_at_later said said flying flying' (is_made_of g) b (λ i x h. h) (λ i x h f. lands i f) (o.grown b (sym (ap (λ (f : ℕ → Bool). f b) same.grown) ∙ e));
  }))

lands_put : (f : ℕ → Bool) (j i : ℕ) → f i ≡ false → put f j false i ≡ false
lands_put f j i e = at (i == j)
  where
    at : (t : Bool) → cond t false (f i) ≡ false
    at true = refl
    at false = e

heard_lands : (m : Net) (o : Option Message) (i : ℕ) → m.flying i ≡ false → (heard m o).flying i ≡ false
heard_lands m None i e = e
heard_lands m (Some msg) i e = by_body msg.body
  where
    by_body : (z : Body) → (heard_by m msg z).flying i ≡ false
    by_body (ToBrick q) = e
    by_body (ToClient re reply) = lands_put m.flying msg.no i e

torn_lands : (m : Net) (o : Option Message) (bytes : ℕ) (version : Option ℕ) (i : ℕ) → m.flying i ≡ false → (torn_off m o bytes version).flying i ≡ false
torn_lands m None bytes version i e = e
torn_lands m (Some msg) bytes version i e = by_body msg.body
  where
    by_body : (z : Body) → (torn_by m msg z bytes version).flying i ≡ false
    by_body (ToBrick q) = lands_put m.flying msg.no i e
    by_body (ToClient re reply) = e

nothing_more : (s : State) → Same s s
nothing_more s = record { seen = refl; pre = refl; post = refl; born = refl; grown = refl; making = refl }

module _ (geometry : Geometry) (g : ℕ) (m : Net) (v : View) (b : Books) (k : Known geometry g m v b) (o : Once g m.said m.flying v.of v.core) where
  sent_once : (msg : Message) → msg.no ≡ m.next → MaySay geometry.n m msg msg.body → BodyKept m b msg msg.body → Once g (said_after m msg) (put m.flying msg.no true) (of_after g v msg) (after (acts_sent g v.core (turn_of g v msg) msg.body) v.core)
  sent_once msg next_no may kept =
      let more = adds geometry.n g m v msg next_no k.messages in
      let same = sent_same g v.core (turn_of g v msg) msg.body v.core in
      record {
        queries = once_later geometry g m v b msg next_no may k kept is_query (queries_once g) o.queries;
        preops = once_later geometry g m v b msg next_no may k kept is_pre (preops_once g) o.preops;
        posts = once_later geometry g m v b msg next_no may k kept is_post (posts_once g) o.posts;
        makes = once_later geometry g m v b msg next_no may k kept is_make (makes_once g) o.makes;
        mades = once_later geometry g m v b msg next_no may k kept is_made (mades_once g) o.mades;
        seen = λ t c le e. landed_later g m.said (said_after m msg) m.flying (put m.flying msg.no true) v.of (of_after g v msg) is_query c t more.still (λ i x h f. put_there m.flying msg.no true i (more.before i x h) ∙ f) (o.seen t c le (sym (ap (λ (f : ℕ → ℕ → Option Head). is_some (f t c)) same.seen) ∙ e));
        pre = λ t c le e. landed_later g m.said (said_after m msg) m.flying (put m.flying msg.no true) v.of (of_after g v msg) is_plain_pre c t more.still (λ i x h f. put_there m.flying msg.no true i (more.before i x h) ∙ f) (o.pre t c le (sym (ap (λ (f : ℕ → ℕ → Bool). f t c) same.pre) ∙ e));
        post = λ t c le e. landed_later g m.said (said_after m msg) m.flying (put m.flying msg.no true) v.of (of_after g v msg) is_post c t more.still (λ i x h f. put_there m.flying msg.no true i (more.before i x h) ∙ f) (o.post t c le (sym (ap (λ (f : ℕ → ℕ → Bool). f t c) same.post) ∙ e));
        born = λ c e. landed_at_later m.said (said_after m msg) m.flying (put m.flying msg.no true) (is_make_of g) c (λ i x h. (more.still i x h).0) (λ i x h f. put_there m.flying msg.no true i (more.before i x h) ∙ f) (o.born c (sym (ap (λ (f : ℕ → Bool). f c) same.born) ∙ e));
        grown = λ c e. landed_at_later m.said (said_after m msg) m.flying (put m.flying msg.no true) (is_made_of g) c (λ i x h. (more.still i x h).0) (λ i x h f. put_there m.flying msg.no true i (more.before i x h) ∙ f) (o.grown c (sym (ap (λ (f : ℕ → Bool). f c) same.grown) ∙ e));
      }

  executed_once : (msg : Message) (q : Request) (version : Option ℕ) (failed : Bool) → m.said msg.no ≡ Some msg → msg.body ≡ ToBrick q → Once g m.said (put m.flying msg.no false) v.of (after (acts_of_request g m v msg (ToBrick q) version failed) v.core)
  executed_once msg q version failed is body = record {
    queries = o.queries;
    preops = o.preops;
    posts = o.posts;
    makes = o.makes;
    mades = o.mades;
    seen = λ t c le e. ⊎_elim (λ h. old is_query c t (o.seen t c le h)) (λ h. new is_query c t h.0 h.1 h.2 h.3) (grown.seen t c e);
    pre = λ t c le e. ⊎_elim (λ h. old is_plain_pre c t (o.pre t c le h)) (λ h. new is_plain_pre c t h.0 h.1 h.2 h.3) (grown.pre t c e);
    post = λ t c le e. ⊎_elim (λ h. old is_post c t (o.post t c le h)) (λ h. new is_post c t h.0 h.1 h.2 h.3) (grown.post t c e);
    born = λ c e. ⊎_elim (λ h. old_at (is_make_of g) c (o.born c h)) (λ h. new_at (is_make_of g) c h.0 h.1) (grown.born c e);
    grown = λ c e. ⊎_elim (λ h. old_at (is_made_of g) c (o.grown c h)) (λ h. new_at (is_made_of g) c h.0 h.1) (grown.grown c e);
  }
    where
      grown : Grows g (v.of msg.no) msg.brick q v.core (after (acts_of_request g m v msg (ToBrick q) version failed) v.core)
      grown = executes g m v msg q version failed

      old : (test : Request → Bool) (c t : ℕ) → Landed g m.said m.flying v.of test c t → Landed g m.said (put m.flying msg.no false) v.of test c t
      old test c t h = landed_later g m.said m.said m.flying (put m.flying msg.no false) v.of v.of test c t (λ i x h. (h, refl)) (λ i x h f. lands_put m.flying msg.no i f) h

      new : (test : Request → Bool) (c t : ℕ) → t ≡ v.of msg.no → c ≡ msg.brick → test q ≡ true → gfid_of q ≡ Some g → Landed g m.said (put m.flying msg.no false) v.of test c t
      new test c t turn brick passes on = record { number = msg.no; asked = record { message = msg; request = q; is = is; brick = sym brick; body = body; on = on; passes = passes; turn = sym turn }; landed = put_here m.flying msg.no false msg.no refl }

      old_at : (test : Request → Bool) (c : ℕ) → LandedAt m.said m.flying test c → LandedAt m.said (put m.flying msg.no false) test c
      old_at test c h = landed_at_later m.said m.said m.flying (put m.flying msg.no false) test c (λ i x h. h) (λ i x h f. lands_put m.flying msg.no i f) h

      new_at : (test : Request → Bool) (c : ℕ) → c ≡ msg.brick → test q ≡ true → LandedAt m.said (put m.flying msg.no false) test c
      new_at test c brick passes = record { number = msg.no; message = msg; request = q; is = is; brick = sym brick; body = body; passes = passes; landed = put_here m.flying msg.no false msg.no refl }

pub did_entry : (geometry : Geometry) (g : ℕ) (m : Net) (v : View) (b : Books) (e : Entry) → MayEnter geometry.n m e → EntryKept m b e → Known geometry g m v b → Once g m.said m.flying v.of v.core → Once g (net_after m e).said (net_after m e).flying (seen_after g m v e).of (seen_after g m v e).core
did_entry geometry g m v b (Called a client op) may kept k o = stays g m.said m.flying v.of v.core o m.said m.flying (seen_after g m v (Called a client op)).of v.core refl (made_same g v a op).1 (λ i f. f) (nothing_more v.core)
did_entry geometry g m v b (Sent msg) may kept k o = sent_once geometry g m v b k o msg may.0 may.1 kept
did_entry geometry g m v b (Executed i version failed) may kept k o =
    let msg = may.message in
    let no = (k.messages.number i msg may.at.said).0 in
    subst (λ (x : Option Message). Once g (executed_net m x version failed).said (executed_net m x version failed).flying v.of (after (acts_executed g m v x version failed) v.core)) (sym may.at.said)
    (subst (λ (z : Body). Once g (executed_by m msg z version failed).said (executed_by m msg z version failed).flying v.of (after (acts_of_request g m v msg z version failed) v.core)) (sym may.at.body)
    (executed_once geometry g m v b k o msg may.request version failed (ap m.said no ∙ may.at.said) may.at.body))
did_entry geometry g m v b (Heard i) may kept k o = stays g m.said m.flying v.of v.core o (heard m (m.said i)).said (heard m (m.said i)).flying v.of v.core (heard_same m (m.said i)).0 refl (heard_lands m (m.said i)) (nothing_more v.core)
did_entry geometry g m v b (Lost i) may kept k o = stays g m.said m.flying v.of v.core o m.said (put m.flying i false) v.of v.core refl refl (lands_put m.flying i) (nothing_more v.core)
did_entry geometry g m v b (GivenUp client brick i) may kept k o = o
did_entry geometry g m v b (Stopped x) may kept k o = stays g m.said m.flying v.of v.core o m.said m.flying v.of (seen_after g m v (Stopped x)).core refl refl (λ i f. f) (record { seen = refl; pre = refl; post = refl; born = refl; grown = refl; making = refl })
did_entry geometry g m v b (Returned x) may kept k o = o
did_entry geometry g m v b (Cut client x) may kept k o = stays g m.said m.flying v.of v.core o m.said m.flying v.of (seen_after g m v (Cut client x)).core refl refl (λ i f. f) (locks_same g m v x (m.brick x).asks (cut_off (m.brick x) client).brick.asks v.core)
did_entry geometry g m v b (Died client) may kept k o = o
did_entry geometry g m v b (Yielded client) may kept k o = o
did_entry geometry g m v b (Torn i bytes version) may kept k o = stays g m.said m.flying v.of v.core o (torn_off m (m.said i) bytes version).said (torn_off m (m.said i) bytes version).flying v.of (seen_after g m v (Torn i bytes version)).core (torn_same m (m.said i) bytes version).0 refl (torn_lands m (m.said i) bytes version) (torn (m.said i) v.core)
did_entry geometry g m v b (Answered a answer) may kept k o = o
did_entry geometry g m v b (Replaced x removed all) may kept k o = stays g m.said m.flying v.of v.core o m.said m.flying v.of (seen_after g m v (Replaced x removed all)).core refl refl (λ i f. f) (replaced (is_some ((m.brick x).records g) && not (is_some (wiped removed all (m.brick x).records g))) x v.core)

-- ## What is in flight wasn't done

pub not_done : (g : ℕ) (said : ℕ → Option Message) (flying : ℕ → Bool) (of : ℕ → ℕ) (test : Request → Bool) (i b : ℕ) (x : Message) (q : Request) → OnceOf g said of test → 2 ^ 61 ≤ of i → said i ≡ Some x → x.body ≡ ToBrick q → x.brick ≡ b → gfid_of q ≡ Some g → test q ≡ true → flying i ≡ true → Landed g said flying of test b (of i) → ⊥
not_done g said flying of test i b x q once le is body brick on passes flies h =
    let same = once i h.number b (of i) le (record { message = x; request = q; is = is; brick = brick; body = body; on = on; passes = passes; turn = refl }) h.asked in
    let z = sym flies ∙ (ap flying same ∙ h.landed) in cc

-- ## A PreOp on a marked record is none that counts

plain_pre : (q : Request) → is_plain_pre q ≡ true → is_pre q ≡ true
plain_pre (PreOp x n at dirty) h = refl
plain_pre q h = absurd (cc)

sink_pre : (q : Request) → is_sink_pre q ≡ true → is_pre q ≡ true
sink_pre (PreOp x n at dirty) h = refl
sink_pre q h = absurd (cc)

not_both : (q : Request) → is_sink_pre q ≡ true → is_plain_pre q ≡ true → ⊥
not_both (PreOp x n v dirty) h i = at (is_marked v) h i
  where
    at : (t : Bool) → t ≡ true → not t ≡ true → ⊥
    at true h i = absurd (cc)
    at false h i = absurd (cc)
not_both q h i = absurd (cc)

module _ (g : ℕ) (said : ℕ → Option Message) (flying : ℕ → Bool) (of : ℕ → ℕ) (b t : ℕ) where
  weaker : (test test' : Request → Bool) → ((q : Request) → test q ≡ true → test' q ≡ true) → (i : ℕ) → IsIn g said of test i b t → IsIn g said of test' i b t
  weaker test test' f i h = record { message = h.message; request = h.request; is = h.is; brick = h.brick; body = h.body; on = h.on; passes = f h.request h.passes; turn = h.turn }

  pub landed_pre : Landed g said flying of is_plain_pre b t → Landed g said flying of is_pre b t
  landed_pre h = record { number = h.number; asked = weaker is_plain_pre is_pre plain_pre h.number h.asked; landed = h.landed }

  -- a turn sends a brick one PreOp, so none is done on the unmarked record where it went to a marked one
  pub sunk : OnceOf g said of is_pre → 2 ^ 61 ≤ t → (i : ℕ) → IsIn g said of is_sink_pre i b t → Landed g said flying of is_plain_pre b t → ⊥
  sunk once le i sink h =
      let same = once i h.number b t le (weaker is_sink_pre is_pre sink_pre i sink) (weaker is_plain_pre is_pre plain_pre h.number h.asked) in
      let message = some_is sink.message h.asked.message (sym sink.is ∙ (ap said same ∙ h.asked.is)) in
      let request = request_is sink.request h.asked.request (sym sink.body ∙ (ap (λ (y : Message). y.body) message ∙ h.asked.body)) in
      not_both sink.request sink.passes (ap is_plain_pre request ∙ h.asked.passes)
