-- What each entry of calls and clients makes of the ledger.
use Rattle.std.proofs.Common.{◌≡◌, ◌≢◌, ◌⊎◌, inl, inr, ⊎_elim, ℕ, ◌+◌, Bool, true, false, not, cond, ◌==◌, ◌&&◌, Option, Some, None, List, [], ◌∷◌, ◌++◌, refl, sym, ◌∙◌, ap, subst, arith, eqb-true, eq-eqb}
use Rattle.std.proofs.lemmas.Bool.Decides.{nat_tests}
use Rattle.ec_attr.specs.declared.geometry.Geometry.{Geometry}
use Rattle.ec_attr.specs.declared.gfid.Gfid.{Gfid}
use Rattle.std.specs.Prelude.{is_some}
use Rattle.ec_store.specs.Put.{put}
use Rattle.ec_wire.specs.declared.answer.Answer.{Answer}
use Rattle.ec_wire.specs.declared.entry.Entry.TheVariants.{Called, Sent, GivenUp, Answered}
use Rattle.ec_wire.specs.declared.message.Body.TheVariants.{ToBrick, ToClient}
use Rattle.ec_wire.specs.declared.message.Message.{Message}
use Rattle.ec_wire.specs.declared.op.Op.{Op}
use Rattle.ec_wire.specs.declared.reply.Reply.{Reply}
use Rattle.ec_wire.specs.declared.request.Request.{Request}
use Rattle.ec_wire.specs.declared.request.Request.TheVariants.{Ask, Release, Query, PreOp, ReadChunks, WriteChunks, SetLength, PostOp, Clear, NameGet, NamesAfter, NameSet, NamesPut, Make, Made, Unmake, Mark, Unmark, GfidsAfter}
use Rattle.ec_conduct.specs.Account.{Account, Wait, sent}
use Rattle.ec_conduct.specs.Conduct.{Keeps}
use Rattle.ec_conduct.specs.Opened.{account}
use Rattle.ec_conduct.specs.Own.{Own, Sends, Hears, GivesUp, Answers}
use Rattle.ec_history.specs.Accounts.{Books, client_of, hears, is_at_once, is_write, own_of, sender, taken_over, under_kept, with_own}
use Rattle.ec_history.specs.Run.{Asker, Net, call_of, heard, is_number, let_go_after, put2}
use Rattle.ec_history.specs.Story.{found_by, makes_a_child, op_of}
use Rattle.ec_txn.specs.Steps.{number_of}
use Rattle.ec_clients.specs.Calls.{IsMade, IsUnmade, OfCalls, Waits, begun_with, request_message}
use Rattle.ec_clients.specs.Come.{Come, come_after}
use Rattle.ec_clients.specs.Frames.{Grows, released_by, with_released}
use Rattle.ec_clients.specs.Ledger.{Ledger, ledger}
use Rattle.ec_clients.specs.declared.options.Options.{Options}
use Rattle.ec_clients.proofs.Frames.{said_same}
use Rattle.ec_clients.proofs.Moves.{Moved, SameBut, awaits_sent, has_reply, made_as_before, own_more, put2_here, put2_other, put2_row, waits_heard, waits_left, waits_less, waits_more, waits_same, waits_sent}
use Rattle.ec_clients.proofs.Places.{either, put_is, put_here, put_other, some_is}

-- a request

-- Whose a request is: the call's that sends it, where it doesn't release an ask once more.
pub sender_is : (m : Net) (books : Books) (msg : Message) (q : Request) → ((n : ℕ) → released_by q ≡ Some n → m.let_go n ≡ false) → m.answered msg.call ≡ false → sender m books msg q ≡ Some msg.call
sender_is m books msg (Release g n) h un = test (m.let_go n) (m.answered msg.call) (h n refl) un
  where
    test : (u v : Bool) → u ≡ false → v ≡ false → cond u None (cond v (under_kept books (books.running msg.client)) (Some msg.call)) ≡ Some msg.call
    test true v e f = absurd (cc)
    test false true e f = absurd (cc)
    test false false e f = refl
sender_is m books msg (Ask g domain kind) h un = refl
sender_is m books msg (Query g n) h un = refl
sender_is m books msg (PreOp g n at dirty) h un = refl
sender_is m books msg (ReadChunks g n first count) h un = refl
sender_is m books msg (WriteChunks g n first chunks) h un = refl
sender_is m books msg (SetLength g n keep length) h un = refl
sender_is m books msg (PostOp g n at version size attr) h un = refl
sender_is m books msg (Clear g n at) h un = refl
sender_is m books msg (NameGet g n name) h un = refl
sender_is m books msg (NamesAfter g n start) h un = refl
sender_is m books msg (NameSet g n name child) h un = refl
sender_is m books msg (NamesPut g n start upto list) h un = refl
sender_is m books msg (Make g n child) h un = refl
sender_is m books msg (Made g n child) h un = refl
sender_is m books msg (Unmake g n child) h un = refl
sender_is m books msg (Mark g n heal head) h un = refl
sender_is m books msg (Unmark g n at dirty) h un = refl
sender_is m books msg (GfidsAfter start dirty) h un = refl

-- the asks that are released after it
pub let_go_is : (f : ℕ → Bool) (q : Request) (i : ℕ) → let_go_after f (ToBrick q) i ≡ with_released f (released_by q) i
let_go_is f (Release g n) i = refl
let_go_is f (Ask g domain kind) i = refl
let_go_is f (Query g n) i = refl
let_go_is f (PreOp g n at dirty) i = refl
let_go_is f (ReadChunks g n first count) i = refl
let_go_is f (WriteChunks g n first chunks) i = refl
let_go_is f (SetLength g n keep length) i = refl
let_go_is f (PostOp g n at version size attr) i = refl
let_go_is f (Clear g n at) i = refl
let_go_is f (NameGet g n name) i = refl
let_go_is f (NamesAfter g n start) i = refl
let_go_is f (NameSet g n name child) i = refl
let_go_is f (NamesPut g n start upto list) i = refl
let_go_is f (Make g n child) i = refl
let_go_is f (Made g n child) i = refl
let_go_is f (Unmake g n child) i = refl
let_go_is f (Mark g n heal head) i = refl
let_go_is f (Unmark g n at dirty) i = refl
let_go_is f (GfidsAfter start dirty) i = refl

module _ (g : Geometry) (p : Come) (i a j b : ℕ) (q : Request) where
  abbrev msg : Message
  msg = request_message i a j b q

  abbrev asked : Ledger
  asked = ledger (come_after g p (Sent msg))

  module _ (by : sender p.net p.books msg q ≡ Some a) where
    pub asked_own : (x : ℕ) → asked.own x ≡ put p.books.own a (p.books.own a ++ Sends b i q ∷ []) x
    asked_own x = λ k. (own_of p.books (by k) (Sends b i q)).own x

    books_are : (o : Option ℕ) (e : Own) → ((own_of p.books o e).given ≡ p.books.given) × ((own_of p.books o e).kept ≡ p.books.kept) × ((own_of p.books o e).cache ≡ p.books.cache)
    books_are None e = (refl, refl, refl)
    books_are (Some x) e = (refl, refl, refl)

    awaits_other : (x y : ℕ) → x ≢ a → asked.awaits x y ≡ p.net.awaits x y
    awaits_other x y ne = (λ k. awaits_sent p.net.awaits msg q k x y) ∙ test (has_reply q)
      where
        test : (u : Bool) → cond u (put2 p.net.awaits a b (Some i)) p.net.awaits x y ≡ p.net.awaits x y
        test true = put2_other p.net.awaits a b (Some i) x y ne
        test false = refl

    pub asked_moves : Moved (ledger p) asked a
    asked_moves =
        let o : Option ℕ = sender p.net p.books msg q in
        record {
          calls = refl;
          asker = refl;
          answered = refl;
          dead = refl;
          gfid = said_same g p.net p.story a q;
          given = (books_are o (Sends b i q)).0;
          kept = (books_are o (Sends b i q)).1;
          cache = (books_are o (Sends b i q)).2;
          own = λ x ne. asked_own x ∙ put_other p.books.own a _ x ne;
          awaits = λ x y ne. awaits_other x y ne;
        }

    pub asked_waits : (said more : ℕ → Option Message) (c : Account) → Waits said (p.net.awaits a) a j c → Grows said more → more i ≡ Some msg → Waits more (asked.awaits a) a j (sent c b i q)
    asked_waits said more c w grows at = test (has_reply q) refl
      where
        test : (u : Bool) → has_reply q ≡ u → Waits more (asked.awaits a) a j (sent c b i q)
        test true e = waits_more said more (p.net.awaits a) (asked.awaits a) a j b i q c (sent c b i q) w grows at
            (waits_sent c b i q ∙ (λ k. cond (e k) (put c.waits b (Some (record { number = i; request = q }))) c.waits))
            ((λ k. awaits_sent p.net.awaits msg q k a b) ∙ ((λ k. cond (e k) (put2 p.net.awaits a b (Some i)) p.net.awaits a b) ∙ put2_here p.net.awaits a b (Some i)))
            (λ x ne. (λ k. awaits_sent p.net.awaits msg q k a x) ∙ ((λ k. cond (e k) (put2 p.net.awaits a b (Some i)) p.net.awaits a x) ∙ put2_row p.net.awaits a b (Some i) x ne))
        test false e = waits_same said more (p.net.awaits a) (asked.awaits a) a j c (sent c b i q) w grows
            (waits_sent c b i q ∙ (λ k. cond (e k) (put c.waits b (Some (record { number = i; request = q }))) c.waits))
            (λ x. (λ k. awaits_sent p.net.awaits msg q k a x) ∙ (λ k. cond (e k) (put2 p.net.awaits a b (Some i)) p.net.awaits a x))

    -- the call after it
    pub asked_made : (o : Options) (asker : Asker) (said more : ℕ → Option Message) (made : IsMade o said (ledger p) a asker) → asker.client ≡ j → p.net.answered a ≡ false → Grows said more → more i ≡ Some msg → Keeps (begun_with o asker.op made.child) (p.books.own a ++ Sends b i q ∷ []) → IsMade o more asked a asker
    asked_made o asker said more made client un grows at keeps =
        own_more o (ledger p) asked a asker said more (Sends b i q) made asked_moves.given (asked_own a ∙ put_here p.books.own a _) keeps
        (λ un2. subst (λ (z : ℕ). Waits more (asked.awaits a) a z (sent (account (begun_with o asker.op made.child) (p.books.own a)) b i q)) (sym client)
        (asked_waits said more (account (begun_with o asker.op made.child) (p.books.own a)) (subst (λ (z : ℕ). Waits said (p.net.awaits a) a z (account (begun_with o asker.op made.child) (p.books.own a))) client (made.waits un)) grows at))

-- A Release of an ask that was released already is no call's own.
pub again : (g : Geometry) (p : Come) (i a j b grant : ℕ) (gf : Gfid) → p.net.let_go grant ≡ true → SameBut (ledger p) (ledger (come_after g p (Sent (request_message i a j b (Release gf grant)))))
again g p i a j b grant gf gone =
    let none : sender p.net p.books (request_message i a j b (Release gf grant)) (Release gf grant) ≡ None = (λ k. cond (gone k) None (cond (p.net.answered a) (under_kept p.books (p.books.running j)) (Some a))) in
    record {
      calls = refl;
      asker = refl;
      answered = refl;
      gfid = refl;
      given = (λ k. (own_of p.books (none k) (Sends b i (Release gf grant))).given);
      kept = (λ k. (own_of p.books (none k) (Sends b i (Release gf grant))).kept);
      cache = (λ k. (own_of p.books (none k) (Sends b i (Release gf grant))).cache);
      own = (λ k. (own_of p.books (none k) (Sends b i (Release gf grant))).own);
      let_go = λ x. ⊎_elim (λ q. q.1 ∙ (sym gone ∙ ap p.net.let_go (sym q.0))) (λ q. q.1) (put_is p.net.let_go grant true x);
      awaits = λ x y un. refl;
      unmade = λ x none y e. e;
    }

-- a reply

is_number_of : (re : ℕ) (o : Option ℕ) → o ≡ Some re → is_number re o ≡ true
is_number_of re o e = (λ k. is_number re (e k)) ∙ eq-eqb re re refl

module _ (g : Geometry) (p : Come) (i a j b re : ℕ) (reply : Reply) where
  abbrev reply_is : Message
  reply_is = record { no = i; call = a; client = j; brick = b; body = ToClient re reply }

  -- what it makes of it, by the message
  abbrev heard_come : Option Message → Come
  heard_come o = record { net = heard p.net o; story = p.story; books = hears p.net p.books o }

  -- the call waits for it
  module _ (w : p.net.awaits a b ≡ Some re) (un : p.net.answered a ≡ false) where
    pub heard_own : (x : ℕ) → (hears p.net p.books (Some reply_is)).own x ≡ put p.books.own a (p.books.own a ++ Hears b re reply ∷ []) x
    heard_own x = test (is_number re (p.net.awaits a b)) (p.net.answered a) (is_number_of re (p.net.awaits a b) w) un
      where
        test : (u v : Bool) → u ≡ true → v ≡ false → (cond (u && not v) (with_own p.books a (Hears b re reply)) p.books).own x ≡ put p.books.own a (p.books.own a ++ Hears b re reply ∷ []) x
        test true false e f = refl
        test true true e f = absurd (cc)
        test false v e f = absurd (cc)

    heard_books : (u : Bool) → ((cond u (with_own p.books a (Hears b re reply)) p.books).given ≡ p.books.given) × ((cond u (with_own p.books a (Hears b re reply)) p.books).kept ≡ p.books.kept) × ((cond u (with_own p.books a (Hears b re reply)) p.books).cache ≡ p.books.cache)
    heard_books true = (refl, refl, refl)
    heard_books false = (refl, refl, refl)

    heard_other : (x y : ℕ) → (x ≢ a) ⊎ (y ≢ b) → (heard p.net (Some reply_is)).awaits x y ≡ p.net.awaits x y
    heard_other x y ne = test (x == a) (y == b) (is_number re (p.net.awaits x y)) (⊎_elim (λ q. inl (grind (arith, nat_tests))) (λ q. inr (grind (arith, nat_tests))) ne)
      where
        test : (u v z : Bool) → (u ≡ false) ⊎ (v ≡ false) → cond (u && v && z) None (p.net.awaits x y) ≡ p.net.awaits x y
        test true true z e = absurd (⊎_elim (λ q. let bad : true ≡ false = q in cc) (λ q. let bad : true ≡ false = q in cc) e)
        test true false z e = refl
        test false v z e = refl

    heard_here : (heard p.net (Some reply_is)).awaits a b ≡ None
    heard_here = test (a == a) (b == b) (is_number re (p.net.awaits a b)) (eq-eqb a a refl) (eq-eqb b b refl) (is_number_of re (p.net.awaits a b) w)
      where
        test : (u v z : Bool) → u ≡ true → v ≡ true → z ≡ true → cond (u && v && z) None (p.net.awaits a b) ≡ None
        test true true true e f h = refl
        test true true false e f h = absurd (cc)
        test true false z e f h = absurd (cc)
        test false v z e f h = absurd (cc)

    pub heard_moves : Moved (ledger p) (ledger (heard_come (Some reply_is))) a
    heard_moves = record {
      calls = refl;
      asker = refl;
      answered = refl;
      dead = refl;
      gfid = refl;
      given = (heard_books (is_number re (p.net.awaits a b) && not (p.net.answered a))).0;
      kept = (heard_books (is_number re (p.net.awaits a b) && not (p.net.answered a))).1;
      cache = (heard_books (is_number re (p.net.awaits a b) && not (p.net.answered a))).2;
      own = λ x ne. heard_own x ∙ put_other p.books.own a _ x ne;
      awaits = λ x y ne. heard_other x y (inl ne);
    }

    pub heard_made : (o : Options) (asker : Asker) (said : ℕ → Option Message) (made : IsMade o said (ledger p) a asker) (wait : Wait) → (account (begun_with o asker.op made.child) (p.books.own a)).waits b ≡ Some wait → Keeps (begun_with o asker.op made.child) (p.books.own a ++ Hears b re reply ∷ []) → IsMade o said (ledger (heard_come (Some reply_is))) a asker
    heard_made o asker said made wait is keeps =
        let c : Account = account (begun_with o asker.op made.child) (p.books.own a) in
        let num : wait.number ≡ re = some_is _ _ (sym (ap number_of is) ∙ (sym ((made.waits un).same b) ∙ w)) in
        own_more o (ledger p) (ledger (heard_come (Some reply_is))) a asker said said (Hears b re reply) made heard_moves.given (heard_own a ∙ put_here p.books.own a _) keeps
        (λ un2. waits_less said said (p.net.awaits a) ((heard p.net (Some reply_is)).awaits a) a asker.client b c _ (made.waits un) (λ x m e. e) (waits_heard c b re wait reply is num) heard_here (λ x ne. heard_other a x (inr ne)))

  -- or it doesn't, or is answered
  pub heard_idle : (is_number re (p.net.awaits a b) ≡ false) ⊎ (p.net.answered a ≡ true) → SameBut (ledger p) (ledger (heard_come (Some reply_is)))
  heard_idle idle = record {
    calls = refl;
    asker = refl;
    answered = refl;
    gfid = refl;
    given = (λ k. (books_same k).given);
    kept = (λ k. (books_same k).kept);
    cache = (λ k. (books_same k).cache);
    own = (λ k. (books_same k).own);
    let_go = λ x. refl;
    awaits = λ x y un. waits_as_before x y un;
    unmade = λ x none y e. test_none (x == a) (y == b) (is_number re (p.net.awaits x y)) (p.net.awaits x y) e;
  }
    where
      test : (u v : Bool) → (u ≡ false) ⊎ (v ≡ true) → cond (u && not v) (with_own p.books a (Hears b re reply)) p.books ≡ p.books
      test true true e = refl
      test true false e = absurd (⊎_elim (λ q. let bad : true ≡ false = q in cc) (λ q. let bad : false ≡ true = q in cc) e)
      test false v e = refl

      books_same : hears p.net p.books (Some reply_is) ≡ p.books
      books_same = test (is_number re (p.net.awaits a b)) (p.net.answered a) idle

      test_none : (u v z : Bool) (o : Option ℕ) → o ≡ None → cond (u && v && z) None o ≡ None
      test_none true true true o e = refl
      test_none true true false o e = e
      test_none true false z o e = e
      test_none false v z o e = e

      waits_as_before : (x y : ℕ) → p.net.answered x ≡ false → (heard p.net (Some reply_is)).awaits x y ≡ p.net.awaits x y
      waits_as_before x y un = go (x == a) refl (y == b) refl
        where
          go : (u : Bool) → (x == a) ≡ u → (v : Bool) → (y == b) ≡ v → cond (u && v && is_number re (p.net.awaits x y)) None (p.net.awaits x y) ≡ p.net.awaits x y
          go false e v f = refl
          go true e false f = refl
          go true e true f =
              let xa : x ≡ a = eqb-true x a e in
              let yb : y ≡ b = eqb-true y b f in
              let off : is_number re (p.net.awaits x y) ≡ false = ⊎_elim
              (λ (q : is_number re (p.net.awaits a b) ≡ false). (λ k. is_number re (p.net.awaits (xa k) (yb k))) ∙ q)
              (λ q. absurd (let bad : false ≡ true = sym un ∙ (ap p.net.answered xa ∙ q) in cc))
              idle in
              (λ k. cond (off k) None (p.net.awaits x y))

-- a giving up
module _ (g : Geometry) (p : Come) (i a j b : ℕ) (q : Request) (at : p.net.said i ≡ Some (request_message i a j b q)) where
  abbrev left : Ledger
  left = ledger (come_after g p (GivenUp j b i))

  pub left_own : (x : ℕ) → left.own x ≡ put p.books.own a (p.books.own a ++ GivesUp b i ∷ []) x
  left_own x = λ k. put p.books.own (call_of (at k)) (p.books.own (call_of (at k)) ++ GivesUp b i ∷ []) x

  awaits_left : (x y : ℕ) → left.awaits x y ≡ put2 p.net.awaits a b None x y
  awaits_left x y = λ k. put2 p.net.awaits (call_of (at k)) b None x y

  pub left_moves : Moved (ledger p) left a
  left_moves = record {
    calls = refl;
    asker = refl;
    answered = refl;
    dead = refl;
    gfid = refl;
    given = refl;
    kept = refl;
    cache = refl;
    own = λ x ne. left_own x ∙ put_other p.books.own a _ x ne;
    awaits = λ x y ne. awaits_left x y ∙ put2_other p.net.awaits a b None x y ne;
  }

  pub left_made : (o : Options) (asker : Asker) (said : ℕ → Option Message) (made : IsMade o said (ledger p) a asker) (wait : Wait) → p.net.answered a ≡ false → (account (begun_with o asker.op made.child) (p.books.own a)).waits b ≡ Some wait → wait.number ≡ i → Keeps (begun_with o asker.op made.child) (p.books.own a ++ GivesUp b i ∷ []) → IsMade o said left a asker
  left_made o asker said made wait un is num keeps =
      let c : Account = account (begun_with o asker.op made.child) (p.books.own a) in
      own_more o (ledger p) left a asker said said (GivesUp b i) made refl (left_own a ∙ put_here p.books.own a _) keeps
      (λ un2. waits_less said said (p.net.awaits a) (left.awaits a) a asker.client b c _ (made.waits un) (λ x m e. e) (waits_left c b i wait is num) (awaits_left a b ∙ put2_here p.net.awaits a b None) (λ x ne. awaits_left a x ∙ put2_row p.net.awaits a b None x ne))

-- an answer
module _ (g : Geometry) (p : Come) (a : ℕ) (answer : Answer) (no_grants : (j : ℕ) → p.books.kept j ≡ None) (no_stripes : (j : ℕ) → p.books.cache j ≡ []) where
  abbrev ended : Ledger
  ended = ledger (come_after g p (Answered a answer))

  pub ended_own : (x : ℕ) → ended.own x ≡ put p.books.own a (p.books.own a ++ Answers answer ∷ []) x
  ended_own x = refl

  pub ended_grants : (j : ℕ) → ended.kept j ≡ None
  ended_grants j = test (is_at_once answer)
    where
      test : (u : Bool) → cond u p.books.kept (put p.books.kept (client_of (p.net.asker a)) None) j ≡ None
      test true = no_grants j
      test false = ⊎_elim (λ q. q.1) (λ q. q.1 ∙ no_grants j) (put_is p.books.kept (client_of (p.net.asker a)) None j)

  pub ended_stripes : (j : ℕ) → ended.cache j ≡ []
  ended_stripes j = test (is_write (op_of p.net a) && not (is_at_once answer))
    where
      test : (u : Bool) → cond u (put p.books.cache (client_of (p.net.asker a)) []) p.books.cache j ≡ []
      test false = no_stripes j
      test true = ⊎_elim (λ q. q.1) (λ q. q.1 ∙ no_stripes j) (put_is p.books.cache (client_of (p.net.asker a)) [] j)

-- a call that is answered
pub calls_end : (g : Geometry) (o : Options) (p : Come) (said : ℕ → Option Message) (a : ℕ) (answer : Answer) (asker : Asker) → OfCalls o said (ledger p) → p.net.asker a ≡ Some asker → (made : IsMade o said (ledger p) a asker) → Keeps (begun_with o asker.op made.child) (p.books.own a ++ Answers answer ∷ []) → OfCalls o said (ledger (come_after g p (Answered a answer)))
calls_end g o p said a answer asker h is made keeps = record {
  made = λ x w e. ⊎_elim
      (λ (f : x ≡ a).
      let same : Some asker ≡ Some w = sym is ∙ (ap p.net.asker (sym f) ∙ e) in
      subst (λ (z : ℕ). IsMade o said (ledger (come_after g p (Answered a answer))) z w) (sym f) (subst (λ (z : Asker). IsMade o said (ledger (come_after g p (Answered a answer))) a z) (some_is asker w same) (record {
        child = made.child;
        begun = made.begun;
        conduct = subst (Keeps (begun_with o asker.op made.child)) (sym (put_here p.books.own a _)) keeps;
        waits = λ un. absurd (let bad : true ≡ false = sym (put_here p.net.answered a true) ∙ un in cc);
      })))
      (λ ne. made_as_before o said said (ledger p) (ledger (come_after g p (Answered a answer))) x w (h.made x w e) (λ i m s. s) refl (put_other p.net.answered a true x ne) (put_other p.books.own a _ x ne) (λ b un. refl))
      (either x a);
  given = h.given;
  range = h.range;
  later = λ x none.
      let old : IsUnmade (ledger p) x = h.later x none in
      let ne : x ≢ a = λ f. absurd (let bad : None ≡ Some asker = sym old.asker ∙ (ap p.net.asker f ∙ is) in cc) in
      record { asker = old.asker; given = old.given; answered = put_other p.net.answered a true x ne ∙ old.answered; own = put_other p.books.own a _ x ne ∙ old.own; awaits = old.awaits };
  no_grants = ended_grants g p a answer h.no_grants h.no_stripes;
  no_stripes = ended_stripes g p a answer h.no_grants h.no_stripes;
}

-- a call that begins
module _ (o : Options) (p : Come) (said : ℕ → Option Message) (client : ℕ) (op : Op) (h : OfCalls o said (ledger p)) where
  abbrev number : ℕ
  number = p.net.calls + 1

  abbrev begun : Ledger
  begun = ledger (come_after o.geometry p (Called number client op))

  unmade : IsUnmade (ledger p) number
  unmade = h.later number (h.range number (omega arith))

  -- what it begins with
  pub given_is : begun.given number ≡ Some (begun_with o op p.story.next_gfid)
  given_is = put_here p.books.given number _ ∙ ap Some (λ k. record { geometry = o.geometry; op = op; child = p.story.next_gfid; kept = taken_over (h.no_grants client k) op; cache = stripes (is_write op) k })
    where
      stripes : (u : Bool) → cond u (p.books.cache client) [] ≡ []
      stripes true = h.no_stripes client
      stripes false = refl

  pub gfid_is : begun.next_gfid ≡ cond (makes_a_child op) (p.story.next_gfid + 1) p.story.next_gfid
  gfid_is = test (makes_a_child op)
    where
      test : (u : Bool) → (cond u (record (found_by p.story number (λ f. record f { took = p.story.next_gfid })) { next_gfid = p.story.next_gfid + 1 }) p.story).next_gfid ≡ cond u (p.story.next_gfid + 1) p.story.next_gfid
      test true = refl
      test false = refl

  pub made_is : IsMade o said begun number (record { client = client; op = op })
  made_is = record {
    child = p.story.next_gfid;
    begun = given_is;
    conduct = subst (Keeps (begun_with o op p.story.next_gfid)) (sym unmade.own) tt;
    waits = λ un. subst (λ (es : List Own). Waits said (p.net.awaits number) number client (account (begun_with o op p.story.next_gfid) es)) (sym unmade.own) (record {
      same = λ b. unmade.awaits b;
      sent = λ b w e. absurd (cc);
    });
  }

  pub calls_begin : OfCalls o said begun
  calls_begin = record {
    made = λ x w e. ⊎_elim
        (λ (f : x ≡ number).
        let same : Some (record { client = client; op = op }) ≡ Some w = sym (put_here p.net.asker number _) ∙ (ap begun.asker (sym f) ∙ e) in
        subst (λ (z : ℕ). IsMade o said begun z w) (sym f) (subst (λ (z : Asker). IsMade o said begun number z) (some_is _ w same) made_is))
        (λ ne. made_other x w (h.made x w (sym (put_other p.net.asker number _ x ne) ∙ e)) ne)
        (either x number);
    given = λ x gv e. ⊎_elim (λ (f : x ≡ number). ap is_some (ap begun.asker f ∙ put_here p.net.asker number _)) (λ ne. ap is_some (put_other p.net.asker number _ x ne) ∙ h.given x gv (sym (put_other p.books.given number _ x ne) ∙ e)) (either x number);
    range = λ x lt.
        let ne : x ≢ number = λ f. absurd (omega arith) in
        put_other p.net.asker number _ x ne ∙ h.range x (omega arith);
    later = λ x none.
        let ne : x ≢ number = λ f. absurd (let bad : Some (record { client = client; op = op }) ≡ None = sym (put_here p.net.asker number _) ∙ (ap begun.asker (sym f) ∙ none) in cc) in
        let old : IsUnmade (ledger p) x = h.later x (sym (put_other p.net.asker number _ x ne) ∙ none) in
        record { asker = put_other p.net.asker number _ x ne ∙ old.asker; given = put_other p.books.given number _ x ne ∙ old.given; answered = old.answered; own = old.own; awaits = old.awaits };
    no_grants = h.no_grants;
    no_stripes = h.no_stripes;
  }
    where
      made_other : (x : ℕ) (w : Asker) → IsMade o said (ledger p) x w → x ≢ number → IsMade o said begun x w
      made_other x w old ne = record {
        child = old.child;
        begun = put_other p.books.given number _ x ne ∙ old.begun;
        conduct = old.conduct;
        waits = old.waits;
      }
