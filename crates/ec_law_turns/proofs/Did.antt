-- What the acts of an entry make of Queries, PreOps, PostOps, Makes and Mades that were executed.
use Rattle.std.proofs.Common.{◌≡◌, ◌⊎◌, ℕ, Bool, true, false, not, cond, ◌==◌, ◌&&◌, Option, Some, None, List, [], ◌∷◌, ◌++◌, refl, sym, ◌∙◌, ap, subst, inl, inr}
use Rattle.std.specs.Prelude.{is_some}
use Rattle.ec_attr.specs.Marks.{is_marked}
use Rattle.ec_attr.specs.declared.kind.Domain.TheVariants.{Inode, Heal}
use Rattle.ec_locks.specs.declared.ask.Ask.{Ask as Asking}
use Rattle.ec_wire.specs.declared.message.Body.{Body}
use Rattle.ec_wire.specs.declared.message.Body.TheVariants.{ToBrick, ToClient}
use Rattle.ec_wire.specs.declared.message.Message.{Message}
use Rattle.ec_wire.specs.declared.request.Request.{Request}
use Rattle.ec_wire.specs.declared.request.Request.TheVariants.{Query, PreOp, PostOp, Clear, Make, Made, Unmake, Mark, Unmark}
use Rattle.ec_brick.specs.Replies.{Says}
use Rattle.ec_conduct.specs.Account.{gfid_of}
use Rattle.ec_conduct.specs.Done.{is_post, is_query}
use Rattle.ec_history.specs.Run.{Net, call_of, is_number, out_of}
use Rattle.ec_history.specs.Story.{is_done}
use Rattle.ec_law_base.specs.State.{Head, State, put, put2}
use Rattle.ec_law_ballots.specs.Act.{Act, after, step}
use Rattle.ec_law_ballots.specs.Act.Act.{Choose, Grant, Free, Moment, See, Pre, Sink_pre, Post, Sink_post, Clear as Clears, Heal_grant, Heal_free, Mark as Marks, Unmark as Unmarks, Maker_grant, Make as Makes, Made as Mades, Unmake as Unmakes, Replace}
use Rattle.ec_law_ballots.specs.Words.{saw}
use Rattle.ec_law_net.specs.Turns.{View, acts_changed, acts_done, acts_locks, acts_maker, acts_of_request, acts_sent, acts_shown, acts_torn, acts_worked, counted, exclusive, freed, granted, has_directory, is_shown, moment_of}
use Rattle.ec_law_net.proofs.Changed.{after_both}
use Rattle.ec_law_turns.specs.Once.{is_made_of, is_make_of, is_plain_pre}
use Rattle.ec_law_turns.proofs.Basics.{equal}

-- nothing more was executed
pub record Same (s t : State) : Type 0 where
  pub seen : t.seen ≡ s.seen
  pub pre : t.pre ≡ s.pre
  pub post : t.post ≡ s.post
  pub born : t.born ≡ s.born
  pub grown : t.grown ≡ s.grown
  pub making : t.making ≡ s.making

abbrev Quiet : List Act → Type 0
Quiet xs = (s : State) → Same s (after xs s)

same : (s : State) → Same s s
same s = record { seen = refl; pre = refl; post = refl; born = refl; grown = refl; making = refl }

either : (u : Bool) (xs ys : List Act) → Quiet xs → Quiet ys → Quiet (cond u xs ys)
either true xs ys h i = h
either false xs ys h i = i

then_same : (r s t : State) → Same r s → Same s t → Same r t
then_same r s t h i = record { seen = i.seen ∙ h.seen; pre = i.pre ∙ h.pre; post = i.post ∙ h.post; born = i.born ∙ h.born; grown = i.grown ∙ h.grown; making = i.making ∙ h.making }

both : (xs ys : List Act) → Quiet xs → Quiet ys → Quiet (xs ++ ys)
both xs ys h i s = subst (Same s) (sym (after_both xs ys s)) (then_same s (after xs s) (after ys (after xs s)) (h s) (i (after xs s)))

content : (of : ℕ → ℕ) (b : ℕ) (old new : Option ℕ) → Quiet (acts_changed (Free b) (λ i. Grant (of i) b) old new)
content of b None None s = same s
content of b None (Some j) s = record { seen = refl; pre = refl; post = refl; born = refl; grown = refl; making = refl }
content of b (Some i) None s = record { seen = refl; pre = refl; post = refl; born = refl; grown = refl; making = refl }
content of b (Some i) (Some j) s = either (i == j) [] (freed (Free b) (Some i) ++ granted (λ i. Grant (of i) b) (Some j)) same (λ s. record { seen = refl; pre = refl; post = refl; born = refl; grown = refl; making = refl }) s

heal : (of : ℕ → ℕ) (b : ℕ) (old new : Option ℕ) → Quiet (acts_changed (Heal_free b) (λ i. Heal_grant (of i) b) old new)
heal of b None None s = same s
heal of b None (Some j) s = record { seen = refl; pre = refl; post = refl; born = refl; grown = refl; making = refl }
heal of b (Some i) None s = record { seen = refl; pre = refl; post = refl; born = refl; grown = refl; making = refl }
heal of b (Some i) (Some j) s = either (i == j) [] (freed (Heal_free b) (Some i) ++ granted (λ i. Heal_grant (of i) b) (Some j)) same (λ s. record { seen = refl; pre = refl; post = refl; born = refl; grown = refl; making = refl }) s

maker : (r : State) (b : ℕ) (old new : Bool) → Quiet (acts_maker r b old new)
maker r b false true s = either r.making [] (Maker_grant b ∷ []) same (λ s. record { seen = refl; pre = refl; post = refl; born = refl; grown = refl; making = refl }) s
maker r b true false s = record { seen = refl; pre = refl; post = refl; born = refl; grown = refl; making = refl }
maker r b true true s = same s
maker r b false false s = same s

pub locks : (g : ℕ) (m : Net) (v : View) (b : ℕ) (old new : List Asking) → Quiet (acts_locks g m v b old new)
locks g m v b old new =
    let p = acts_changed (Heal_free b) (λ i. Heal_grant (call_of (m.said i)) b) (exclusive g Heal old) (exclusive g Heal new) in
    let q = acts_changed (Free b) (λ i. Grant (v.of i) b) (exclusive g Inode old) (exclusive g Inode new) in
    let r = acts_maker v.core b (has_directory m.said v.maker old) (has_directory m.said v.maker new) in
    both p (q ++ r) (heal (λ i. call_of (m.said i)) b (exclusive g Heal old) (exclusive g Heal new)) (both q r (content v.of b (exclusive g Inode old) (exclusive g Inode new)) (maker v.core b (has_directory m.said v.maker old) (has_directory m.said v.maker new)))

pub sent : (g : ℕ) (r : State) (a : ℕ) (body : Body) → Quiet (acts_sent g r a body)
sent g r a (ToClient re reply) = same
sent g r a (ToBrick (Query x n)) = either (x.0 == g) (moment_of r a) [] (either (r.moment a) [] (Moment a ∷ []) same (λ s. record { seen = refl; pre = refl; post = refl; born = refl; grown = refl; making = refl })) same
sent g r a (ToBrick (PreOp x n at number)) = either (x.0 == g) _ [] (either ((r.ballot a).number == 0) (Choose a _ ∷ []) [] (λ s. record { seen = refl; pre = refl; post = refl; born = refl; grown = refl; making = refl }) same) same
sent g r a (ToBrick (Mark x n hl head)) = either (x.0 == g) _ [] (either ((r.ballot a).number == 0) (Choose a _ ∷ []) [] (λ s. record { seen = refl; pre = refl; post = refl; born = refl; grown = refl; making = refl }) same) same
sent g r a (ToBrick (Unmark x n at dirty)) = either (x.0 == g) _ [] (either ((r.ballot a).number == 0) (Choose a _ ∷ []) [] (λ s. record { seen = refl; pre = refl; post = refl; born = refl; grown = refl; making = refl }) same) same
sent g r a (ToBrick q) = same

pub torn : (o : Option Message) → Quiet (acts_torn o)
torn None = same
torn (Some msg) = λ s. record { seen = refl; pre = refl; post = refl; born = refl; grown = refl; making = refl }

pub replaced : (u : Bool) (b : ℕ) → Quiet (cond u (Replace b ∷ []) [])
replaced true b = λ s. record { seen = refl; pre = refl; post = refl; born = refl; grown = refl; making = refl }
replaced false b = same

-- ## What a brick works

-- one more was executed at most: that of turn a at brick b, by a request of the gfid
pub record Grows (g a b : ℕ) (q : Request) (s t : State) : Type 0 where
  pub seen : (x c : ℕ) → saw t x c ≡ true → (saw s x c ≡ true) ⊎ ((x ≡ a) × (c ≡ b) × (is_query q ≡ true) × (gfid_of q ≡ Some g))
  pub pre : (x c : ℕ) → t.pre x c ≡ true → (s.pre x c ≡ true) ⊎ ((x ≡ a) × (c ≡ b) × (is_plain_pre q ≡ true) × (gfid_of q ≡ Some g))
  pub post : (x c : ℕ) → t.post x c ≡ true → (s.post x c ≡ true) ⊎ ((x ≡ a) × (c ≡ b) × (is_post q ≡ true) × (gfid_of q ≡ Some g))
  pub born : (c : ℕ) → t.born c ≡ true → (s.born c ≡ true) ⊎ ((c ≡ b) × (is_make_of g q ≡ true))
  pub grown : (c : ℕ) → t.grown c ≡ true → (s.grown c ≡ true) ⊎ ((c ≡ b) × (is_made_of g q ≡ true))
  pub making : t.making ≡ true → (s.making ≡ true) ⊎ (is_make_of g q ≡ true)

by_same : (g a b : ℕ) (q : Request) (s t : State) → Same s t → Grows g a b q s t
by_same g a b q s t h = record {
  seen = λ x c e. inl (sym (ap (λ (f : ℕ → ℕ → Option Head). is_some (f x c)) h.seen) ∙ e);
  pre = λ x c e. inl (sym (ap (λ (f : ℕ → ℕ → Bool). f x c) h.pre) ∙ e);
  post = λ x c e. inl (sym (ap (λ (f : ℕ → ℕ → Bool). f x c) h.post) ∙ e);
  born = λ c e. inl (sym (ap (λ (f : ℕ → Bool). f c) h.born) ∙ e);
  grown = λ c e. inl (sym (ap (λ (f : ℕ → Bool). f c) h.grown) ∙ e);
  making = λ e. inl (sym h.making ∙ e);
}

hit : (f : ℕ → ℕ → Bool) (a b x c : ℕ) → put2 f a b true x c ≡ true → (f x c ≡ true) ⊎ ((x ≡ a) × (c ≡ b))
hit f a b x c e = at (x == a) (c == b) refl refl e
  where
    at : (t u : Bool) → (x == a) ≡ t → (c == b) ≡ u → cond (t && u) true (f x c) ≡ true → (f x c ≡ true) ⊎ ((x ≡ a) × (c ≡ b))
    at true true h k e = inr (equal x a h, equal c b k)
    at true false h k e = inl e
    at false u h k e = inl e

hit_one : (f : ℕ → Bool) (b c : ℕ) → put f b true c ≡ true → (f c ≡ true) ⊎ (c ≡ b)
hit_one f b c e = at (c == b) refl e
  where
    at : (t : Bool) → (c == b) ≡ t → cond t true (f c) ≡ true → (f c ≡ true) ⊎ (c ≡ b)
    at true h e = inr (equal c b h)
    at false h e = inl e

hit_seen : (f : ℕ → ℕ → Option Head) (y : Head) (a b x c : ℕ) → is_some (put2 f a b (Some y) x c) ≡ true → (is_some (f x c) ≡ true) ⊎ ((x ≡ a) × (c ≡ b))
hit_seen f y a b x c e = at (x == a) (c == b) refl refl e
  where
    at : (t u : Bool) → (x == a) ≡ t → (c == b) ≡ u → is_some (cond (t && u) (Some y) (f x c)) ≡ true → (is_some (f x c) ≡ true) ⊎ ((x ≡ a) × (c ≡ b))
    at true true h k e = inr (equal x a h, equal c b k)
    at true false h k e = inl e
    at false u h k e = inl e

module _ (g a b : ℕ) (s : State) where
  gfid_is : (x : ℕ) → (x == g) ≡ true → Some x ≡ Some g
  gfid_is x e = ap (λ (y : ℕ). Some y) (equal x g e)

  done : (q : Request) → Grows g a b q s (after (acts_done g a b q) s)
  done (PreOp x n at number) = here (x.0 == g) (is_marked at) refl refl
    where
      here : (t u : Bool) → (x.0 == g) ≡ t → is_marked at ≡ u → Grows g a b (PreOp x n at number) s (after (cond t (cond u (Sink_pre a b) (Pre a b) ∷ []) []) s)
      here false u e f = by_same g a b (PreOp x n at number) s s (same s)
      here true true e f = by_same g a b (PreOp x n at number) s (step s (Sink_pre a b)) (record { seen = refl; pre = refl; post = refl; born = refl; grown = refl; making = refl })
      here true false e f = record { seen = λ y c h. inl h; pre = λ y c h. more (hit s.pre a b y c h); post = λ y c h. inl h; born = λ c h. inl h; grown = λ c h. inl h; making = λ h. inl h }
        where
          more : {P : Type 0} → {y c : ℕ} → P ⊎ ((y ≡ a) × (c ≡ b)) → P ⊎ ((y ≡ a) × (c ≡ b) × (not (is_marked at) ≡ true) × (Some x.0 ≡ Some g))
          more (inl h) = inl h
          more (inr h) = inr (h.0, h.1, ap not f, gfid_is x.0 e)
  done (PostOp x n at version size attr) = here (x.0 == g) (is_marked at) refl
    where
      here : (t u : Bool) → (x.0 == g) ≡ t → Grows g a b (PostOp x n at version size attr) s (after (cond t (cond u (Sink_post a b) (Post a b) ∷ []) []) s)
      here false u e = by_same g a b (PostOp x n at version size attr) s s (same s)
      here true true e = by_same g a b (PostOp x n at version size attr) s (step s (Sink_post a b)) (record { seen = refl; pre = refl; post = refl; born = refl; grown = refl; making = refl })
      here true false e = record { seen = λ y c h. inl h; pre = λ y c h. inl h; post = λ y c h. more (hit s.post a b y c h); born = λ c h. inl h; grown = λ c h. inl h; making = λ h. inl h }
        where
          more : {P : Type 0} → {y c : ℕ} → P ⊎ ((y ≡ a) × (c ≡ b)) → P ⊎ ((y ≡ a) × (c ≡ b) × (true ≡ true) × (Some x.0 ≡ Some g))
          more (inl h) = inl h
          more (inr h) = inr (h.0, h.1, refl, gfid_is x.0 e)
  done (Clear x n at) = by_same g a b (Clear x n at) s _ (either (x.0 == g) (Clears a b ∷ []) [] (λ s. record { seen = refl; pre = refl; post = refl; born = refl; grown = refl; making = refl }) same s)
  done (Mark x n hl head) = by_same g a b (Mark x n hl head) s _ (either (x.0 == g) (Marks a b ∷ []) [] (λ s. record { seen = refl; pre = refl; post = refl; born = refl; grown = refl; making = refl }) same s)
  done (Unmark x n at dirty) = by_same g a b (Unmark x n at dirty) s _ (either (x.0 == g) (Unmarks a b ∷ []) [] (λ s. record { seen = refl; pre = refl; post = refl; born = refl; grown = refl; making = refl }) same s)
  done (Make x n child) = here (child.gfid.0 == g) refl
    where
      here : (t : Bool) → (child.gfid.0 == g) ≡ t → Grows g a b (Make x n child) s (after (cond t (Makes b ∷ []) []) s)
      here false e = by_same g a b (Make x n child) s s (same s)
      here true e = record { seen = λ y c h. inl h; pre = λ y c h. inl h; post = λ y c h. inl h; born = λ c h. more (hit_one s.born b c h); grown = λ c h. inl h; making = λ h. inr e }
        where
          more : {P : Type 0} → {c : ℕ} → P ⊎ (c ≡ b) → P ⊎ ((c ≡ b) × ((child.gfid.0 == g) ≡ true))
          more (inl h) = inl h
          more (inr h) = inr (h, e)
  done (Made x n child) = here (child.0 == g) refl
    where
      here : (t : Bool) → (child.0 == g) ≡ t → Grows g a b (Made x n child) s (after (cond t (Mades b ∷ []) []) s)
      here false e = by_same g a b (Made x n child) s s (same s)
      here true e = record { seen = λ y c h. inl h; pre = λ y c h. inl h; post = λ y c h. inl h; born = λ c h. inl h; grown = λ c h. more (hit_one s.grown b c h); making = λ h. inl h }
        where
          more : {P : Type 0} → {c : ℕ} → P ⊎ (c ≡ b) → P ⊎ ((c ≡ b) × ((child.0 == g) ≡ true))
          more (inl h) = inl h
          more (inr h) = inr (h, e)
  done (Unmake x n child) = by_same g a b (Unmake x n child) s _ (either (child.0 == g) (Unmakes b ∷ []) [] (λ s. record { seen = refl; pre = refl; post = refl; born = refl; grown = refl; making = refl }) same s)
  done q = by_same g a b q s s (same s)

  shown : (holder : Option ℕ) (q : Request) → Grows g a b q s (after (acts_shown g a b holder q) s)
  shown holder (Query x n) = here (x.0 == g) (is_number n holder) refl
    where
      here : (t u : Bool) → (x.0 == g) ≡ t → Grows g a b (Query x n) s (after (cond (t && u) (See a b ∷ []) []) s)
      here false u e = by_same g a b (Query x n) s s (same s)
      here true false e = by_same g a b (Query x n) s s (same s)
      here true true e = record { seen = λ y c h. more (hit_seen s.seen _ a b y c h); pre = λ y c h. inl h; post = λ y c h. inl h; born = λ c h. inl h; grown = λ c h. inl h; making = λ h. inl h }
        where
          more : {P : Type 0} → {y c : ℕ} → P ⊎ ((y ≡ a) × (c ≡ b)) → P ⊎ ((y ≡ a) × (c ≡ b) × (true ≡ true) × (Some x.0 ≡ Some g))
          more (inl h) = inl h
          more (inr h) = inr (h.0, h.1, refl, gfid_is x.0 e)
  shown holder q = by_same g a b q s s (same s)

  pub worked : (holder : Option ℕ) (q : Request) (says : Says) → Grows g a b q s (after (acts_worked g a b holder q says) s)
  worked holder q says = here (is_done says) (is_shown says)
    where
      here : (t u : Bool) → Grows g a b q s (after (cond t (acts_done g a b q) (cond u (acts_shown g a b holder q) [])) s)
      here true u = done q
      here false true = shown holder q
      here false false = by_same g a b q s s (same s)

-- of an execution
pub executes : (g : ℕ) (m : Net) (v : View) (msg : Message) (q : Request) (version : Option ℕ) (failed : Bool) → Grows g (v.of msg.no) msg.brick q v.core (after (acts_of_request g m v msg (ToBrick q) version failed) v.core)
executes g m v msg q version failed =
    let xs = acts_worked g (v.of msg.no) msg.brick (counted v.core (v.of msg.no) (exclusive g Inode (m.brick msg.brick).asks)) q (out_of m msg q version failed).says in
    let ys = acts_locks g m v msg.brick (m.brick msg.brick).asks (out_of m msg q version failed).brick.asks in
    let h = worked g (v.of msg.no) msg.brick v.core (counted v.core (v.of msg.no) (exclusive g Inode (m.brick msg.brick).asks)) q (out_of m msg q version failed).says in
    let i = by_same g (v.of msg.no) msg.brick q (after xs v.core) (after ys (after xs v.core)) (locks g m v msg.brick (m.brick msg.brick).asks (out_of m msg q version failed).brick.asks (after xs v.core)) in
    subst (Grows g (v.of msg.no) msg.brick q v.core) (sym (after_both xs ys v.core)) (record {
      seen = λ x c e. follow (i.seen x c e) (λ z. h.seen x c z);
      pre = λ x c e. follow (i.pre x c e) (λ z. h.pre x c z);
      post = λ x c e. follow (i.post x c e) (λ z. h.post x c z);
      born = λ c e. follow (i.born c e) (λ z. h.born c z);
      grown = λ c e. follow (i.grown c e) (λ z. h.grown c z);
      making = λ e. follow (i.making e) (λ z. h.making z);
    })
  where
    follow : {P Q R : Type 0} → P ⊎ Q → (P → R ⊎ Q) → R ⊎ Q
    follow (inl p) f = f p
    follow (inr q) f = inr q
