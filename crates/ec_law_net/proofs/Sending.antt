-- A message that is sent: the moment or the ballot that it is, and the link after it.
use Rattle.std.proofs.Common.{◌≡◌, ◌⊎◌, ℕ, ◌+◌, ◌<◌, Bool, true, false, cond, ◌==◌, Option, Some, None, List, [], ◌∷◌, refl, sym, ◌∙◌, ap, subst, arith, inl, inr, ⊎_elim}
use Rattle.std.proofs.lemmas.Bool.Decides.{nat_tests}
use Rattle.std.specs.Option.{option_map}
use Rattle.ec_attr.specs.Marks.{stripped}
use Rattle.ec_law_base.specs.State.{State}
use Rattle.ec_law_ballots.specs.Act.{after}
use Rattle.ec_law_net.specs.Turns.{View}
use Rattle.ec_attr.specs.declared.kind.Domain.TheVariants.{Inode, Heal}
use Rattle.ec_locks.specs.declared.ask.Ask.{Ask as Asking}
use Rattle.ec_store.specs.Put.{put}
use Rattle.ec_store.specs.Records.{head_at}
use Rattle.ec_wire.specs.declared.message.Body.{Body}
use Rattle.ec_wire.specs.declared.message.Body.TheVariants.{ToBrick, ToClient}
use Rattle.ec_wire.specs.declared.message.Message.{Message}
use Rattle.ec_wire.specs.declared.request.Request.TheVariants.{Ask, Release, Query, PreOp, ReadChunks, WriteChunks, SetLength, PostOp, Clear, NameGet, NamesAfter, NameSet, NamesPut, Make, Made, Unmake, Mark, Unmark, GfidsAfter}
use Rattle.ec_history.specs.IsRun.{MaySay}
use Rattle.ec_history.specs.Run.{Net, call_of, sent}
use Rattle.ec_law_ballots.specs.Act.Act.{Choose, Moment}
use Rattle.ec_law_net.specs.Turns.{Maker, acts_sent, exclusive, has_directory, is_ask_of}
use Rattle.ec_law_net.specs.Link.{Below, Linked}
use Rattle.ec_law_net.proofs.Linking.{below_more, below_some}
use Rattle.ec_law_net.proofs.Standing.{head_moves}

-- heads and grants are the same
pub record Alike (s t : State) : Type 0 where
  pub present : (c : ℕ) → t.present c ≡ s.present c
  pub version : (c : ℕ) → t.version c ≡ s.version c
  pub dirty : (c : ℕ) → t.dirty c ≡ s.dirty c
  pub marked : (c : ℕ) → t.marked c ≡ s.marked c
  pub removed : (c : ℕ) → t.removed c ≡ s.removed c
  pub holder : (c : ℕ) → t.holder c ≡ s.holder c
  pub healer : (c : ℕ) → t.healer c ≡ s.healer c
  pub maker : (c : ℕ) → t.maker c ≡ s.maker c
  pub carries : (a : ℕ) → t.carries a ≡ s.carries a
  pub shares : (a d : ℕ) → t.shares a d ≡ s.shares a d
  pub reads : (a : ℕ) → t.reads a ≡ s.reads a

alike : (s : State) → Alike s s
alike s = record { present = λ c. refl; version = λ c. refl; dirty = λ c. refl; marked = λ c. refl; removed = λ c. refl; holder = λ c. refl; healer = λ c. refl; maker = λ c. refl; carries = λ a. refl; shares = λ a d. refl; reads = λ a. refl }

moments : (s : State) (a : ℕ) (hit t : Bool) → Alike s (after (cond hit (cond t [] (Moment a ∷ [])) []) s)
moments s a true true = alike s
moments s a true false = record { present = λ c. refl; version = λ c. refl; dirty = λ c. refl; marked = λ c. refl; removed = λ c. refl; holder = λ c. refl; healer = λ c. refl; maker = λ c. refl; carries = λ a. refl; shares = λ a d. refl; reads = λ a. refl }
moments s a false t = alike s

choices : (s : State) (a base number : ℕ) (hit t : Bool) → Alike s (after (cond hit (cond t (Choose a (record { base = base; number = number }) ∷ []) []) []) s)
choices s a base number true false = alike s
choices s a base number true true = record { present = λ c. refl; version = λ c. refl; dirty = λ c. refl; marked = λ c. refl; removed = λ c. refl; holder = λ c. refl; healer = λ c. refl; maker = λ c. refl; carries = λ a. refl; shares = λ a d. refl; reads = λ a. refl }
choices s a base number false t = alike s

pub sent_alike : (g : ℕ) (s : State) (a : ℕ) (body : Body) → Alike s (after (acts_sent g s a body) s)
sent_alike g s a (ToClient re reply) = alike s
sent_alike g s a (ToBrick (Query x n)) = moments s a (x.0 == g) (s.moment a)
sent_alike g s a (ToBrick (PreOp x n at number)) = choices s a (stripped at) number (x.0 == g) ((s.ballot a).number == 0)
sent_alike g s a (ToBrick (Mark x n heal head)) = choices s a (stripped head.version.content) (head.dirty.content + 1) (x.0 == g) ((s.ballot a).number == 0)
sent_alike g s a (ToBrick (Unmark x n at dirty)) = choices s a (stripped at) (dirty + 1) (x.0 == g) ((s.ballot a).number == 0)
sent_alike g s a (ToBrick (Ask x domain kind)) = alike s
sent_alike g s a (ToBrick (Release x n)) = alike s
sent_alike g s a (ToBrick (ReadChunks x n first count)) = alike s
sent_alike g s a (ToBrick (WriteChunks x n first chunks)) = alike s
sent_alike g s a (ToBrick (SetLength x n keep count)) = alike s
sent_alike g s a (ToBrick (PostOp x n at version size attr)) = alike s
sent_alike g s a (ToBrick (Clear x n at)) = alike s
sent_alike g s a (ToBrick (NameGet x n name)) = alike s
sent_alike g s a (ToBrick (NamesAfter x n start)) = alike s
sent_alike g s a (ToBrick (NameSet x n name child)) = alike s
sent_alike g s a (ToBrick (NamesPut x n start upto list)) = alike s
sent_alike g s a (ToBrick (Make x n child)) = alike s
sent_alike g s a (ToBrick (Made x n child)) = alike s
sent_alike g s a (ToBrick (Unmake x n child)) = alike s
sent_alike g s a (ToBrick (GfidsAfter start dirty)) = alike s

-- what is said of earlier numbers stays said
mapped : (o : Option ℕ) (j : ℕ) (f h : ℕ → ℕ) → ((i : ℕ) → o ≡ Some i → i < j) → ((i : ℕ) → i < j → f i ≡ h i) → option_map f o ≡ option_map h o
mapped None j f h below same = refl
mapped (Some i) j f h below same = ap (λ (x : ℕ). Some x) (same i (below i refl))

asked_by : (o : Option ℕ) (j call : ℕ) (f h : ℕ → Option Message) → ((i : ℕ) → o ≡ Some i → i < j) → ((i : ℕ) → i < j → call_of (f i) ≡ call_of (h i)) → is_ask_of f call o ≡ is_ask_of h call o
asked_by None j call f h below same = refl
asked_by (Some i) j call f h below same = rw (same i (below i refl)) refl

directory : (o : Option Maker) (asks : List Asking) (j : ℕ) (f h : ℕ → Option Message) → Below j asks → ((i : ℕ) → i < j → call_of (f i) ≡ call_of (h i)) → has_directory f o asks ≡ has_directory h o asks
directory None asks j f h below same = refl
directory (Some x) asks j f h below same = asked_by (exclusive x.dir Inode asks) j x.call f h (λ i. below_some j x.dir Inode [] asks i below) same

pub put_below : {X : Type 0} (f : ℕ → X) (j : ℕ) (x : X) (i : ℕ) → i < j → put f j x i ≡ f i
put_below f j x i lt = at (i == j) (grind (arith, nat_tests))
  where
    at : (t : Bool) → t ≡ false → cond t x (f i) ≡ f i
    at true e = absurd (cc)
    at false e = refl

module _ (n g : ℕ) (m : Net) (v : View) (msg : Message) (s : State) (turn : ℕ → Option ℕ) (a : ℕ) (l : Linked n g m v) (same : Alike v.core s) (no : msg.no ≡ m.next) (may : MaySay n m msg msg.body) where
  earlier : (i : ℕ) → i < m.next → i < msg.no
  earlier i lt = omega (arith, no)

  calls : (i : ℕ) → i < m.next → call_of (m.said i) ≡ call_of (put m.said msg.no (Some msg) i)
  calls i lt = ap call_of (sym (put_below m.said msg.no (Some msg) i (earlier i lt)))

  pub newest : (i : ℕ) (t : Message) → put m.said msg.no (Some msg) i ≡ Some t → ((i ≡ msg.no) × (msg ≡ t)) ⊎ (m.said i ≡ Some t)
  newest i t e = at (i == msg.no) refl e
    where
      some : (x y : Message) → Some x ≡ Some y → x ≡ y
      some x y f = cc

      at : (u : Bool) → (i == msg.no) ≡ u → cond u (Some msg) (m.said i) ≡ Some t → ((i ≡ msg.no) × (msg ≡ t)) ⊎ (m.said i ≡ Some t)
      at true f h = inl (grind (arith, nat_tests), some msg t h)
      at false f h = inr h

  pub linked_sent : Linked n g (sent m msg) (record v { turn = turn; of = put v.of msg.no a; core = s })
  linked_sent = record {
    heads = λ b lt. head_moves (head_at (m.brick b).records g) v.core s b (l.heads b lt) (same.present b) (same.version b) (same.marked b) (same.dirty b);
    removed = λ b lt. same.removed b ∙ l.removed b lt;
    holders = λ b lt. same.holder b ∙ (l.holders b lt ∙ mapped (exclusive g Inode (m.brick b).asks) m.next v.of (put v.of msg.no a) (λ i. below_some m.next g Inode [] (m.brick b).asks i (l.asked b lt)) (λ i le. sym (put_below v.of msg.no a i (earlier i le))));
    healers = λ b lt. same.healer b ∙ (l.healers b lt ∙ mapped (exclusive g Heal (m.brick b).asks) m.next (λ i. call_of (m.said i)) (λ i. call_of (put m.said msg.no (Some msg) i)) (λ i. below_some m.next g Heal [] (m.brick b).asks i (l.asked b lt)) calls);
    makers = λ b lt e. sym (directory v.maker (m.brick b).asks m.next m.said (put m.said msg.no (Some msg)) (l.asked b lt) calls) ∙ l.makers b lt (sym (same.maker b) ∙ e);
    kept = λ x. same.carries x ∙ l.kept x;
    shared = λ x b. same.shares x b ∙ l.shared x b;
    reading = λ x. same.reads x ∙ l.reading x;
    said = λ i t e. ⊎_elim (λ h. (sym (ap (λ (z : Message). z.no) h.1) ∙ sym h.0, let x = h.0 in omega (arith, no))) (λ h. let o = l.said i t h in (o.0, let x = o.1 in omega arith)) (newest i t e);
    to = λ i t q e body. ⊎_elim (λ h. subst (λ (z : Message). z.brick < n) h.1 (subst (λ (z : Body). MaySay n m msg z) (ap (λ (z : Message). z.body) h.1 ∙ body) may).to) (λ h. l.to i t q h body) (newest i t e);
    asked = λ b lt. below_more m.next (m.next + 1) (omega arith) (m.brick b).asks (l.asked b lt);
    down = λ b lt up. let o = l.down b lt up in record { asks = o.asks; removed = o.removed };
  }
