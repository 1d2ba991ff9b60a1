-- What the acts on marks and of makers make of the heads of the machine.
use Rattle.std.proofs.Common.{◌≡◌, ◌≢◌, ◌⊎◌, ℕ, ◌-◌, ◌^◌, Bool, true, false, cond, Some, None, refl, sym, ◌∙◌, ap, arith}
use Rattle.std.proofs.lemmas.Bool.Decides.{nat_tests}
use Rattle.ec_attr.specs.Marks.{is_marked, stripped}
use Rattle.ec_attr.specs.declared.head.Head.{Head}
use Rattle.ec_law_ballots.specs.Act.Act.{Mark as Marks, Unmark as Unmarks, Make as Makes, Made as Mades, Unmake as Unmakes}
use Rattle.ec_law_net.specs.Turns.{View}
use Rattle.ec_law_net.specs.Link.{IsHead, IsMark, IsUnmark, IsMake, IsMade}
use Rattle.ec_attr.specs.declared.config.Config.{Config}
use Rattle.ec_attr.specs.declared.kind.Kind.{Kind}
use Rattle.ec_brick.specs.Work.{new_head, unmarked}
use Rattle.ec_history.specs.Run.{Net, call_of}
use Rattle.ec_law_net.proofs.Doing.{Did}
use Rattle.ec_attr.specs.Head.{with_dirty}

marked_by : (t : Bool) (y : ℕ) → is_marked y ≡ t → is_marked (cond t (y - 2 ^ 62) y) ≡ false
marked_by true y e = unmarks
  where
    unmarks : is_marked (y - 2 ^ 62) ≡ false
    unmarks = grind (arith, nat_tests)
marked_by false y e = e

pub plain : (y : ℕ) → is_marked (stripped y) ≡ false
plain y = marked_by (is_marked y) y refl

pub stripped_twice : (y : ℕ) → stripped (stripped y) ≡ stripped y
stripped_twice y = once (stripped y) (plain y)
  where
    once : (x : ℕ) → is_marked x ≡ false → stripped x ≡ x
    once x e = rw e refl

module _ (n k : ℕ) (m : Net) (v : View) (a b : ℕ) where
  pub mark : (grant heal : ℕ) (head : Head) → v.core.holder b ≡ Some a → v.core.healer b ≡ Some (call_of (m.said heal)) → v.core.carries a ≡ None → IsMark m v a b grant heal head → (v.core.present b ≡ false) ⊎ ((v.core.marked b ≡ true) ⊎ (v.core.version b ≢ (v.core.ballot a).base)) → Did n k (Marks a b) v.core b (Some head) (v.core.removed b)
  mark grant heal head holds heals kept r other = record {
    may = (holds, heals ∙ ap (λ (x : ℕ). Some x) r.healer, r.ballot, kept, r.seen, r.outside, r.pre, r.once, r.fixed, r.first, other);
    head = (grind (arith, nat_tests), (let x = r.base in grind (arith, nat_tests)), (let x = r.mark in grind (arith, nat_tests)), (let x = r.left in grind (arith, nat_tests)));
    unmade = refl;
    present = λ c ne. grind (arith, nat_tests);
    version = λ c ne. grind (arith, nat_tests);
    dirty = λ c ne. grind (arith, nat_tests);
    marked = λ c ne. grind (arith, nat_tests);
    removed = λ c ne. refl;
    holder = λ c. refl;
    healer = λ c. refl;
    maker = λ c. refl;
    carries = λ x. refl;
    shares = λ a d. refl;
    reads = λ a. refl;
  }

  pub unmark : (grant at dirty : ℕ) (h : Head) → IsHead (Some h) v.core b → h.version.content ≡ at → v.core.healer b ≡ Some (call_of (m.said grant)) → v.core.carries a ≡ None → v.core.reads a ≡ false → IsUnmark m v a b grant at dirty → Did n k (Unmarks a b) v.core b (Some (unmarked dirty h)) (v.core.removed b)
  unmark grant at dirty h is e heals kept reading r = record {
    may = (heals ∙ ap (λ (x : ℕ). Some x) r.healer, (is.0, is.1 ∙ (ap stripped e ∙ sym r.base), is.2 ∙ (ap is_marked e ∙ r.mark)), r.ballot, kept, r.tied, r.once, r.pre, reading);
    head = (is.0, is.1 ∙ sym (stripped_twice h.version.content), (let x = plain h.version.content in grind (arith, nat_tests)), (let x = r.left in grind (arith, nat_tests)));
    unmade = refl;
    present = λ c ne. refl;
    version = λ c ne. refl;
    dirty = λ c ne. grind (arith, nat_tests);
    marked = λ c ne. grind (arith, nat_tests);
    removed = λ c ne. refl;
    holder = λ c. refl;
    healer = λ c. refl;
    maker = λ c. refl;
    carries = λ x. refl;
    shares = λ a d. refl;
    reads = λ a. refl;
  }

  pub make : (config : Config) (kind : Kind) → v.core.present b ≡ false → v.core.removed b ≡ false → IsMake v b → Did n k (Makes b) v.core b (Some (new_head config kind)) (v.core.removed b)
  make config kind none gone r = record {
    may = (r.maker, gone, none, r.once, r.fresh);
    head = (grind (arith, nat_tests), grind (arith, nat_tests), grind (arith, nat_tests), grind (arith, nat_tests));
    unmade = refl;
    present = λ c ne. grind (arith, nat_tests);
    version = λ c ne. grind (arith, nat_tests);
    dirty = λ c ne. grind (arith, nat_tests);
    marked = λ c ne. grind (arith, nat_tests);
    removed = λ c ne. refl;
    holder = λ c. refl;
    healer = λ c. refl;
    maker = λ c. refl;
    carries = λ x. refl;
    shares = λ a d. refl;
    reads = λ a. refl;
  }

  pub made : (h : Head) → IsHead (Some h) v.core b → h.version.content ≡ 0 → h.dirty.content ≡ 1 → v.core.removed b ≡ false → IsMade v b → Did n k (Mades b) v.core b (Some (with_dirty 0 h)) (v.core.removed b)
  made h is version dirty gone r = record {
    may = (r.maker, gone, r.born, r.once, (is.0, is.1 ∙ ap stripped version, is.2 ∙ ap is_marked version), is.3 ∙ dirty);
    head = (is.0, is.1, is.2, grind (arith, nat_tests));
    unmade = refl;
    present = λ c ne. refl;
    version = λ c ne. refl;
    dirty = λ c ne. grind (arith, nat_tests);
    marked = λ c ne. refl;
    removed = λ c ne. refl;
    holder = λ c. refl;
    healer = λ c. refl;
    maker = λ c. refl;
    carries = λ x. refl;
    shares = λ a d. refl;
    reads = λ a. refl;
  }

  pub unmake : Did n k (Unmakes b) v.core b None true
  unmake = record {
    may = refl;
    head = grind (arith, nat_tests);
    unmade = grind (arith, nat_tests);
    present = λ c ne. grind (arith, nat_tests);
    version = λ c ne. refl;
    dirty = λ c ne. refl;
    marked = λ c ne. refl;
    removed = λ c ne. grind (arith, nat_tests);
    holder = λ c. refl;
    healer = λ c. refl;
    maker = λ c. refl;
    carries = λ x. refl;
    shares = λ a d. refl;
    reads = λ a. refl;
  }
