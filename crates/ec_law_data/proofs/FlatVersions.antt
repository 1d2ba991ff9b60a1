-- The flat version of the machine is that of the story, entry by entry, where the PostOps of a call are of one turn.
use Rattle.ec_wire.specs.declared.reply.Reply.TheVariants.{NotAt}
use Rattle.ec_wire.specs.declared.reply.Reply.{Reply}
use Rattle.std.proofs.Common.{◌≡◌, ◌≢◌, ◌⊎◌, ℕ, Bool, true, false, cond, ◌==◌, ◌&&◌, Option, Some, None, [], ◌∷◌, refl, sym, ◌∙◌, ap, subst, arith, inl, inr}
use Rattle.std.specs.Prelude.{nat_le, nat_lt}
use Rattle.std.proofs.lemmas.Bool.Decides.{nat_tests}
use Rattle.ec_attr.proofs.Sets.{same_count}
use Rattle.ec_attr.specs.Bricks.{count_below}
use Rattle.ec_attr.specs.Marks.{is_marked}
use Rattle.ec_attr.specs.declared.geometry.Geometry.{Geometry}
use Rattle.ec_attr.specs.declared.gfid.Gfid.{Gfid}
use Rattle.ec_attr.specs.declared.attr.Attr.{Attr}
use Rattle.ec_attr.specs.declared.head.Head.{Head}
use Rattle.ec_brick.specs.Replies.{Says}
use Rattle.ec_brick.specs.Rows.{refusal}
use Rattle.ec_brick.specs.State.{State as Brick}
use Rattle.ec_brick.specs.Step.{Fine, executed as executed_at}
use Rattle.ec_brick.specs.declared.row.Need.TheVariants.{Writing}
use Rattle.ec_brick.specs.declared.row.Check.TheVariants.{At}
use Rattle.ec_conduct.specs.Given.{quorum}
use Rattle.ec_history.specs.Changes.{change}
use Rattle.ec_history.specs.Flat.{Flat as FlatFile, committed}
use Rattle.ec_history.specs.Run.{Net}
use Rattle.ec_history.specs.Story.{Story, is_commit, is_done, is_unmarked, op_of, post_done, posts, with_flat, with_post}
use Rattle.ec_store.specs.Records.{head_at}
use Rattle.ec_wire.specs.declared.message.Body.TheVariants.{ToBrick}
use Rattle.ec_wire.specs.declared.message.Message.{Message}
use Rattle.ec_wire.specs.declared.request.Request.{Request}
use Rattle.ec_wire.specs.declared.request.Request.TheVariants.{PostOp}
use Rattle.ec_law_base.specs.State.{State}
use Rattle.ec_law_ballots.specs.Act.{step as act_step}
use Rattle.ec_law_ballots.specs.Act.Act.{Post, Sink_post}
use Rattle.ec_law_pieces.specs.Deed.{commits}
use Rattle.ec_law_net.specs.Turns.{acts_done, acts_shown, acts_worked, is_shown}
use Rattle.ec_law_net.proofs.Guarded.{own_row}
use Rattle.ec_law_net.proofs.Outcomes.{IsDone, IsNot, outcome as outcome_of}
use Rattle.ec_law_data.specs.Deeds.{is_post_on}
use Rattle.ec_law_data.proofs.Stories.{SameStory}

equal : (x y : ℕ) → (x == y) ≡ true → x ≡ y
equal x y e = grind (arith, nat_tests)

itself : (x : ℕ) → (x == x) ≡ true
itself x = grind (arith, nat_tests)

unequal : (x y : ℕ) → x ≢ y → (x == y) ≡ false
unequal x y ne = pick (x == y) refl
  where
    pick : (t : Bool) → (x == y) ≡ t → (x == y) ≡ false
    pick false e = e
    pick true e = absurd (ne (equal x y e))

-- a PostOp that is done names the version of the record
pub post_head : (s : Brick) (client number : ℕ) (x : Gfid) (n at version size : ℕ) (attr : Option Attr) → is_done (executed_at s Fine client number (PostOp x n at version size attr)).says ≡ true → (h : Head) × (head_at s.records x.0 ≡ Some h) × (h.version.content ≡ at)
post_head s client number x n at version size attr done = by (outcome_of s (PostOp x n at version size attr) (own_row x n Writing (At at)) Fine)
  where
    version_is : (i : ℕ) (w u : Bool) (o : Option Head) → refusal (At at) i w u o ≡ None → (h : Head) × (o ≡ Some h) × (h.version.content ≡ at)
    version_is i w u None e = absurd (cc)
    version_is i w u (Some h) e = (h, refl, pick (h.version.content == at) refl e)
      where
        pick : (t : Bool) → (h.version.content == at) ≡ t → cond {A = Option Reply} t None (Some (NotAt h.version.content)) ≡ None → h.version.content ≡ at
        pick true f e = equal h.version.content at f
        pick false f e = absurd (cc)

    by : IsDone s (PostOp x n at version size attr) (own_row x n Writing (At at)) (executed_at s Fine client number (PostOp x n at version size attr)) ⊎ IsNot s (executed_at s Fine client number (PostOp x n at version size attr)) → (h : Head) × (head_at s.records x.0 ≡ Some h) × (h.version.content ≡ at)
    by (inl d) = version_is n true (s.removed x.0) (head_at s.records x.0) d.allowed
    by (inr d) = absurd (let e = sym d.says ∙ done in cc)

pub worked_is : (g a b : ℕ) (holder : Option ℕ) (x : Gfid) (n at version size : ℕ) (attr : Option Attr) (says : Says) → is_done says ≡ true → x.0 ≡ g → acts_worked g a b holder (PostOp x n at version size attr) says ≡ cond (is_marked at) (Sink_post a b) (Post a b) ∷ []
worked_is g a b holder x n at version size attr says done on =
    ap (λ (t : Bool). cond t (acts_done g a b (PostOp x n at version size attr)) (cond (is_shown says) (acts_shown g a b holder (PostOp x n at version size attr)) [])) done
    ∙ ap (λ (t : Bool). cond t (cond (is_marked at) (Sink_post a b) (Post a b) ∷ []) []) (subst (λ (y : ℕ). (x.0 == y) ≡ true) on (itself x.0))

-- Which bricks did a PostOp, for the story and for the machine: each message that is one has its turn, and there is none for which
-- there is no message.
pub record SamePosts (g : ℕ) (said : ℕ → Option Message) (of : ℕ → ℕ) (t : Story) (s : State) : Type 0 where
  pub posted : (i : ℕ) (x : Message) (q : Request) → said i ≡ Some x → x.body ≡ ToBrick q → is_post_on g q ≡ true → (b : ℕ) → t.posted x.call g b ≡ s.post (of i) b
  pub from : (a b : ℕ) → t.posted a g b ≡ true → (i : ℕ) × (x : Message) × (q : Request) × (said i ≡ Some x) × (x.body ≡ ToBrick q) × (is_post_on g q ≡ true) × (x.call ≡ a)

module _ (g : ℕ) (said : ℕ → Option Message) (of : ℕ → ℕ) (t : Story) (s : State) (h : SamePosts g said of t s) where
  pub posts_same : (u : Story) (r : State) → SameStory g t u → r.post ≡ s.post → SamePosts g said of u r
  posts_same u r k e = record {
    posted = λ i x q is body on b. k.posted x.call b ∙ (h.posted i x q is body on b ∙ sym (ap (λ (z : ℕ → ℕ → Bool). z (of i) b) e));
    from = λ a b p. h.from a b (sym (k.posted a b) ∙ p);
  }

  -- a PostOp that is done on an unmarked record
  module _ (geometry : Geometry) (m : Net) (i : ℕ) (msg : Message) (q : Request) (is : said i ≡ Some msg) (body : msg.body ≡ ToBrick q) (on : is_post_on g q ≡ true) (one : (j : ℕ) (x : Message) (r : Request) → said j ≡ Some x → x.body ≡ ToBrick r → is_post_on g r ≡ true → (x.call ≡ msg.call → of j ≡ of i) × (of j ≡ of i → x.call ≡ msg.call)) (b0 : ℕ) where
    abbrev now : Story
    now = with_post t msg.call g b0

    now_at : (y z : ℕ) → now.posted y g z ≡ cond ((y == msg.call) && (z == b0)) true (t.posted y g z)
    now_at y z = ap (λ (c : Bool). cond ((y == msg.call) && c && (z == b0)) true (t.posted y g z)) (itself g) ∙ drop (y == msg.call)
      where
        drop : (c : Bool) → cond (c && true && (z == b0)) true (t.posted y g z) ≡ cond (c && (z == b0)) true (t.posted y g z)
        drop true = refl
        drop false = refl

    pub posts_done : (u : Story) (r : State) → ((y z : ℕ) → u.posted y g z ≡ now.posted y g z) → r.post ≡ (act_step s (Post (of i) b0)).post → SamePosts g said of u r
    posts_done u r same e = record {
      posted = λ j x w its its_body its_on z. same x.call z ∙ (now_at x.call z ∙ (pick j x w its its_body its_on z (x.call == msg.call) refl ∙ sym (ap (λ (p : ℕ → ℕ → Bool). p (of j) z) e)));
      from = λ y z p. find y z (y == msg.call) refl (sym (same y z ∙ now_at y z) ∙ p);
    }
      where
        pick : (j : ℕ) (x : Message) (w : Request) → said j ≡ Some x → x.body ≡ ToBrick w → is_post_on g w ≡ true → (z : ℕ) (c : Bool) → (x.call == msg.call) ≡ c → cond ((x.call == msg.call) && (z == b0)) true (t.posted x.call g z) ≡ cond ((of j == of i) && (z == b0)) true (s.post (of j) z)
        pick j x w its its_body its_on z true c = ap (λ (d : Bool). cond (d && (z == b0)) true (t.posted x.call g z)) (c ∙ sym (subst (λ (k : ℕ). (of j == k) ≡ true) ((one j x w its its_body its_on).0 (equal x.call msg.call c)) (itself (of j)))) ∙ ap (λ (d : Bool). cond ((of j == of i) && (z == b0)) true d) (h.posted j x w its its_body its_on z)
        pick j x w its its_body its_on z false c = ap (λ (d : Bool). cond (d && (z == b0)) true (t.posted x.call g z)) (c ∙ sym (unequal (of j) (of i) (λ k. differ x.call msg.call c ((one j x w its its_body its_on).1 k)))) ∙ ap (λ (d : Bool). cond ((of j == of i) && (z == b0)) true d) (h.posted j x w its its_body its_on z)
          where
            differ : (x y : ℕ) → (x == y) ≡ false → x ≡ y → ⊥
            differ x y e k = grind (arith, nat_tests)

        find : (y z : ℕ) (c : Bool) → (y == msg.call) ≡ c → cond ((y == msg.call) && (z == b0)) true (t.posted y g z) ≡ true → (i : ℕ) × (x : Message) × (q : Request) × (said i ≡ Some x) × (x.body ≡ ToBrick q) × (is_post_on g q ≡ true) × (x.call ≡ y)
        find y z true c p = (i, msg, q, is, body, on, sym (equal y msg.call c))
        find y z false c p = h.from y z (sym (ap (λ (d : Bool). cond (d && (z == b0)) true (t.posted y g z)) c) ∙ p)

    -- the story says that it commits where the machine does
    pub commits_same : is_commit geometry t msg.call g b0 ≡ commits geometry.n (quorum geometry) s (of i) b0
    commits_same = ap (λ (c : ℕ). nat_lt c (quorum geometry) && nat_le (quorum geometry) (posts geometry now msg.call g)) (same_count geometry.n (t.posted msg.call g) (s.post (of i)) (λ z lt. h.posted i msg q is body on z))
        ∙ ap (λ (c : ℕ). nat_lt (count_below geometry.n (s.post (of i))) (quorum geometry) && nat_le (quorum geometry) c) (same_count geometry.n (now.posted msg.call g) ((act_step s (Post (of i) b0)).post (of i)) (λ z lt. now_at msg.call z ∙ (ap (λ (d : Bool). cond (d && (z == b0)) true (t.posted msg.call g z)) (itself msg.call ∙ sym (itself (of i))) ∙ ap (λ (d : Bool). cond ((of i == of i) && (z == b0)) true d) (h.posted i msg q is body on z))))

    -- the version that it leaves
    commit : ℕ → FlatFile → FlatFile
    commit version flat = committed (quorum geometry) msg.call version (change (quorum geometry) (op_of m msg.call) (t.found msg.call) g flat) flat

    pub done_version : (version : ℕ) → is_unmarked (head_at (m.brick b0).records g) ≡ true → ((post_done geometry m t msg.call g b0 version).tree g).version ≡ cond (commits geometry.n (quorum geometry) s (of i) b0) version (t.tree g).version
    done_version version unmarked =
        ap (λ (c : Bool). ((cond c (cond (is_commit geometry t msg.call g b0) (with_flat now g (λ flat. committed (quorum geometry) msg.call version (change (quorum geometry) (op_of m msg.call) (t.found msg.call) g flat) flat)) now) t).tree g).version) unmarked
        ∙ (ap (λ (c : Bool). ((cond c (with_flat now g (λ flat. committed (quorum geometry) msg.call version (change (quorum geometry) (op_of m msg.call) (t.found msg.call) g flat) flat)) now).tree g).version) commits_same
        ∙ by (commits geometry.n (quorum geometry) s (of i) b0))
      where
        by : (c : Bool) → ((cond c (with_flat now g (λ flat. committed (quorum geometry) msg.call version (change (quorum geometry) (op_of m msg.call) (t.found msg.call) g flat) flat)) now).tree g).version ≡ cond c version (t.tree g).version
        by true = ap (λ (c : Bool). (cond c (committed (quorum geometry) msg.call version (change (quorum geometry) (op_of m msg.call) (t.found msg.call) g (t.tree g)) (t.tree g)) (t.tree g)).version) (itself g)
        by false = refl

    pub done_posted : (version : ℕ) → is_unmarked (head_at (m.brick b0).records g) ≡ true → (y z : ℕ) → (post_done geometry m t msg.call g b0 version).posted y g z ≡ now.posted y g z
    done_posted version unmarked y z = ap (λ (c : Bool). (cond c (cond (is_commit geometry t msg.call g b0) (with_flat now g (λ flat. committed (quorum geometry) msg.call version (change (quorum geometry) (op_of m msg.call) (t.found msg.call) g flat) flat)) now) t).posted y g z) unmarked ∙ by (is_commit geometry t msg.call g b0)
      where
        by : (c : Bool) → (cond c (with_flat now g (λ flat. committed (quorum geometry) msg.call version (change (quorum geometry) (op_of m msg.call) (t.found msg.call) g flat) flat)) now).posted y g z ≡ now.posted y g z
        by true = refl
        by false = refl
