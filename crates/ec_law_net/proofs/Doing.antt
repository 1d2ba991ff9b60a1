-- What each act of a brick makes of the heads of the machine.
use Rattle.std.proofs.Common.{◌≡◌, ◌≢◌, ℕ, Bool, true, false, cond, Option, Some, None, refl, sym, ◌∙◌, ap, subst, arith, inl}
use Rattle.std.proofs.lemmas.Bool.Decides.{nat_tests}
use Rattle.ec_attr.specs.Marks.{is_marked, stripped}
use Rattle.ec_attr.specs.declared.attr.Attr.{Attr}
use Rattle.ec_attr.specs.declared.head.Head.{Head}
use Rattle.ec_law_base.specs.State.{State, target}
use Rattle.ec_law_ballots.specs.Act.{Act, step}
use Rattle.ec_law_ballots.specs.Act.Act.{Pre, Sink_pre, Post, Sink_post, Clear as Clears, See}
use Rattle.ec_law_ballots.specs.Guard.{May, IsMarkedAt, IsPlainAt}
use Rattle.ec_law_net.specs.Turns.{View}
use Rattle.ec_law_net.specs.Link.{IsHead, IsQuery, IsPreOp, IsPostOp, IsClear, PreReady, PostReady}
use Rattle.ec_brick.specs.Work.{committed, unmarked}
use Rattle.ec_attr.specs.Head.{with_dirty}

-- one act that may come, after which brick b has this head and all else stands
pub record Did (n k : ℕ) (e : Act) (s : State) (b : ℕ) (now : Option Head) (gone : Bool) : Type 0 where
  pub may : May n k s e
  pub head : IsHead now (step s e) b
  pub unmade : (step s e).removed b ≡ gone
  pub present : (c : ℕ) → c ≢ b → (step s e).present c ≡ s.present c
  pub version : (c : ℕ) → c ≢ b → (step s e).version c ≡ s.version c
  pub dirty : (c : ℕ) → c ≢ b → (step s e).dirty c ≡ s.dirty c
  pub marked : (c : ℕ) → c ≢ b → (step s e).marked c ≡ s.marked c
  pub removed : (c : ℕ) → c ≢ b → (step s e).removed c ≡ s.removed c
  pub holder : (c : ℕ) → (step s e).holder c ≡ s.holder c
  pub healer : (c : ℕ) → (step s e).healer c ≡ s.healer c
  pub maker : (c : ℕ) → (step s e).maker c ≡ s.maker c
  pub carries : (a : ℕ) → (step s e).carries a ≡ s.carries a
  pub shares : (a d : ℕ) → (step s e).shares a d ≡ s.shares a d
  pub reads : (a : ℕ) → (step s e).reads a ≡ s.reads a

module _ (n k : ℕ) (v : View) (a b : ℕ) (h : Head) (is : IsHead (Some h) v.core b) (holds : v.core.holder b ≡ Some a) where
  plain_at : (at : ℕ) → h.version.content ≡ at → is_marked at ≡ false → (base : ℕ) → base ≡ stripped at → IsPlainAt v.core b base
  plain_at at e unmarked base p = (is.0, is.1 ∙ (ap stripped e ∙ sym p), is.2 ∙ (ap is_marked e ∙ unmarked))

  marked_at : (at : ℕ) → h.version.content ≡ at → is_marked at ≡ true → (base : ℕ) → base ≡ stripped at → IsMarkedAt v.core b base
  marked_at at e mark base p = (is.0, is.1 ∙ (ap stripped e ∙ sym p), is.2 ∙ (ap is_marked e ∙ mark))

  pub pre : (grant at number : ℕ) → h.version.content ≡ at → IsPreOp v a b grant at number → (t : Bool) → is_marked at ≡ t → Did n k (cond t (Sink_pre a b) (Pre a b)) v.core b (Some (with_dirty number h)) (v.core.removed b)
  pre grant at number e r false m = let ready = subst (PreReady v.core a b) m r.ready in record {
    may = (holds, plain_at at e m (v.core.ballot a).base r.base, r.ballot, ready.0, ready.1);
    head = (is.0, is.1, is.2, let x = r.raised in grind (arith, nat_tests));
    unmade = refl;
    present = λ c ne. refl;
    version = λ c ne. refl;
    dirty = λ c ne. grind (arith, nat_tests);
    marked = λ c ne. refl;
    removed = λ c ne. refl;
    holder = λ c. refl;
    healer = λ c. refl;
    maker = λ c. refl;
    carries = λ x. refl;
    shares = λ a d. refl;
    reads = λ a. refl;
  }
  pre grant at number e r true m = let ready = subst (PreReady v.core a b) m r.ready in record {
    may = (holds, marked_at at e m (v.core.ballot a).base r.base, r.ballot, ready.0, ready.1);
    head = (is.0, is.1, is.2, let x = r.raised in grind (arith, nat_tests));
    unmade = refl;
    present = λ c ne. refl;
    version = λ c ne. refl;
    dirty = λ c ne. grind (arith, nat_tests);
    marked = λ c ne. refl;
    removed = λ c ne. refl;
    holder = λ c. refl;
    healer = λ c. refl;
    maker = λ c. refl;
    carries = λ x. refl;
    shares = λ a d. refl;
    reads = λ a. refl;
  }

  pub post : (grant at version size : ℕ) (attr : Option Attr) → h.version.content ≡ at → IsPostOp n k v a b grant at version → (t : Bool) → is_marked at ≡ t → Did n k (cond t (Sink_post a b) (Post a b)) v.core b (Some (committed version size attr h)) (v.core.removed b)
  post grant at version size attr e r false m = let ready = subst (PostReady v.core a b) m r.ready in record {
    may = (holds, plain_at at e m (v.core.ballot a).base r.base, r.ballot, ready.0, ready.1, r.quorum);
    head = (is.0, (let x = r.target in grind (arith, nat_tests)), is.2 ∙ (ap is_marked e ∙ sym r.mark), grind (arith, nat_tests));
    unmade = refl;
    present = λ c ne. refl;
    version = λ c ne. grind (arith, nat_tests);
    dirty = λ c ne. grind (arith, nat_tests);
    marked = λ c ne. refl;
    removed = λ c ne. refl;
    holder = λ c. refl;
    healer = λ c. refl;
    maker = λ c. refl;
    carries = λ x. refl;
    shares = λ a d. refl;
    reads = λ a. refl;
  }
  post grant at version size attr e r true m = let ready = subst (PostReady v.core a b) m r.ready in record {
    may = (holds, marked_at at e m (v.core.ballot a).base r.base, r.ballot, ready.0, ready.1, r.quorum);
    head = (is.0, (let x = r.target in grind (arith, nat_tests)), is.2 ∙ (ap is_marked e ∙ sym r.mark), grind (arith, nat_tests));
    unmade = refl;
    present = λ c ne. refl;
    version = λ c ne. grind (arith, nat_tests);
    dirty = λ c ne. grind (arith, nat_tests);
    marked = λ c ne. refl;
    removed = λ c ne. refl;
    holder = λ c. refl;
    healer = λ c. refl;
    maker = λ c. refl;
    carries = λ x. refl;
    shares = λ a d. refl;
    reads = λ a. refl;
  }

  pub clear : (grant at : ℕ) → h.version.content ≡ at → IsClear n v a b grant at → Did n k (Clears a b) v.core b (Some (with_dirty 0 h)) (v.core.removed b)
  clear grant at e r = record {
    may = (holds, plain_at at e r.unmarked (target (v.core.ballot a)) (r.target ∙ sym (plain at r.unmarked)), r.here, r.real, r.all);
    head = (is.0, is.1, is.2, grind (arith, nat_tests));
    unmade = refl;
    present = λ c ne. refl;
    version = λ c ne. refl;
    dirty = λ c ne. grind (arith, nat_tests);
    marked = λ c ne. refl;
    removed = λ c ne. refl;
    holder = λ c. refl;
    healer = λ c. refl;
    maker = λ c. refl;
    carries = λ x. refl;
    shares = λ a d. refl;
    reads = λ a. refl;
  }
    where
      plain : (y : ℕ) → is_marked y ≡ false → stripped y ≡ y
      plain y f = rw f refl

pub see : (n k : ℕ) (v : View) (a b grant : ℕ) (o : Option Head) → IsHead o v.core b → v.core.holder b ≡ Some a → IsQuery v a b grant → Did n k (See a b) v.core b o (v.core.removed b)
see n k v a b grant o is holds r = record {
  may = (inl holds, r.early, r.moment, r.once, r.first, r.real);
  head = same o is;
  unmade = refl;
  present = λ c ne. refl;
  version = λ c ne. refl;
  dirty = λ c ne. refl;
  marked = λ c ne. refl;
  removed = λ c ne. refl;
  holder = λ c. refl;
  healer = λ c. refl;
  maker = λ c. refl;
  carries = λ x. refl;
  shares = λ a d. refl;
  reads = λ a. refl;
}
  where
    same : (o : Option Head) → IsHead o v.core b → IsHead o (step v.core (See a b)) b
    same None h = h
    same (Some x) h = h
