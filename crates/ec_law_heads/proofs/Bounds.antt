-- The numbers of heads stay in their ranges.
use Rattle.std.proofs.Common.{◌≡◌, ◌⊎◌, ℕ, ◌+◌, ◌-◌, ◌^◌, ◌<◌, Bool, true, false, Option, Some, refl, sym, ◌∙◌, ap, subst, arith, inl, inr}
use Rattle.ec_attr.specs.Head.{with_dirty}
use Rattle.ec_attr.specs.Marks.{is_marked, stripped}
use Rattle.ec_attr.specs.declared.attr.Attr.{Attr}
use Rattle.ec_attr.specs.declared.config.Config.{Config}
use Rattle.ec_attr.specs.declared.geometry.Geometry.{Geometry}
use Rattle.ec_attr.specs.declared.head.Head.{Head}
use Rattle.ec_attr.specs.declared.kind.Kind.{Kind}
use Rattle.ec_brick.specs.Work.{committed, new_head}
use Rattle.ec_conduct.specs.Account.{gfid_of}
use Rattle.ec_store.specs.Records.{head_at}
use Rattle.ec_history.specs.Accounts.{Books}
use Rattle.ec_history.specs.Holds.{IsBounded}
use Rattle.ec_history.specs.IsRun.{May as MayEnter}
use Rattle.ec_history.specs.Run.{Net, after}
use Rattle.ec_wire.specs.declared.entry.Entry.{Entry}
use Rattle.ec_wire.specs.declared.message.Body.TheVariants.{ToBrick}
use Rattle.ec_wire.specs.declared.message.Message.{Message}
use Rattle.ec_wire.specs.declared.request.Request.{Request}
use Rattle.ec_wire.specs.declared.request.Request.TheVariants.{PreOp, PostOp, Clear, Make, Made, Mark, Unmark}
use Rattle.ec_law_base.specs.State.{target}
use Rattle.ec_law_base.proofs.Counts.{some}
use Rattle.ec_law_net.specs.Turns.{View}
use Rattle.ec_law_turns.specs.Once.{Landed, is_plain_pre}
use Rattle.ec_law_turns.specs.Reached.{Reached}
use Rattle.ec_law_heads.proofs.Changing.{Changed, Did, Leaves, entry_head}

-- ## Numbers

below_bits : (v : ℕ) → stripped v < 2 ^ 61 → v < 2 ^ 63
below_bits v lt = at (is_marked v) refl
  where
    at : (t : Bool) → is_marked v ≡ t → v < 2 ^ 63
    at false e = let same : stripped v ≡ v = rw e refl in omega (arith, same, lt)
    at true e = let same : stripped v ≡ v - 2 ^ 62 = rw e refl in omega (arith, same, lt)

right_below : (x y z : ℕ) → x + y < z → y < z
right_below x y z lt = omega (arith, lt)

-- ## Requests

-- The numbers that a request sets in a head of the gfid, which no heal does.
abbrev pub HasLimit : ℕ → Request → Type 0
HasLimit g (PreOp x n at dirty) = x.0 ≡ g → dirty < 2 ^ 61
HasLimit g (PostOp x n at version size attr) = x.0 ≡ g → stripped version < 2 ^ 61
HasLimit g (Mark x n heal head) = x.0 ≡ g → ⊥
HasLimit g (Unmark x n at dirty) = x.0 ≡ g → ⊥
HasLimit g q = Unit {0}

module _ (geometry : Geometry) (g : ℕ) (m : Net) (v : View) (b : Books) (r : Reached geometry g m v b) where
  -- the ballot of a turn that did a PreOp
  ballot_limit : (a c : ℕ) → Landed g m.said m.flying v.of is_plain_pre c a → target (v.core.ballot a) < 2 ^ 61
  ballot_limit a c l = by l.asked.request l.asked.body l.asked.on l.asked.passes
    where
      by : (q : Request) → l.asked.message.body ≡ ToBrick q → gfid_of q ≡ Some g → is_plain_pre q ≡ true → target (v.core.ballot a) < 2 ^ 61
      by (PreOp x n at number) body on passes =
          let told = r.shown.asked l.number l.asked.message (PreOp x n at number) l.asked.is body (some_same x.0 g on) in
          let limit = told.limit in
          let same : target (v.core.ballot a) ≡ stripped at + number = ap (λ (t : ℕ). target (v.core.ballot t)) (sym l.asked.turn) ∙ ap target told.ballot in
          subst (λ (z : ℕ). z < 2 ^ 61) (sym same) limit
        where
          some_same : (x y : ℕ) → Some x ≡ Some y → x ≡ y
          some_same x y e = cc
      by q body on passes = absurd (cc)

  pub has_limit : (i : ℕ) (x : Message) (q : Request) → m.said i ≡ Some x → x.body ≡ ToBrick q → HasLimit g q
  has_limit i x (PreOp y n at number) said body = λ on. right_below (stripped at) number (2 ^ 61) (r.shown.asked i x (PreOp y n at number) said body on).limit
  has_limit i x (PostOp y n at version size attr) said body = λ on.
      let told = r.shown.asked i x (PostOp y n at version size attr) said body on in
      let names = r.known.sound i x (PostOp y n at version size attr) said body on in
      let least = geometry.least in
      let quorum = told.quorum in
      let c = some (v.core.pre (v.of i)) geometry.n (omega (arith, least, quorum)) in
      subst (λ (z : ℕ). z < 2 ^ 61) told.target (ballot_limit (v.of i) c.0 (r.once.pre (v.of i) c.0 names.begun c.1))
  has_limit i x (Mark y n heal head) said body = λ on. r.known.sound i x (Mark y n heal head) said body on
  has_limit i x (Unmark y n at dirty) said body = λ on. r.known.sound i x (Unmark y n at dirty) said body on
  has_limit i x q said body = tt

-- ## Heads

dirty_bounded : (h now : Head) (dirty : ℕ) → dirty < 2 ^ 61 → IsBounded h → now ≡ with_dirty dirty h → IsBounded now
dirty_bounded h now dirty lt k is = subst IsBounded (sym is) (record { version = k.version; bits = k.bits; dirty = lt; version_meta = k.version_meta; dirty_meta = k.dirty_meta })

posted_bounded : (h now : Head) (version size : ℕ) (attr : Option Attr) → stripped version < 2 ^ 61 → IsBounded h → now ≡ committed version size attr h → IsBounded now
posted_bounded h now version size attr lt k is = subst IsBounded (sym is) (record { version = lt; bits = below_bits version lt; dirty = omega arith; version_meta = k.version_meta; dirty_meta = k.dirty_meta })

new_bounded : (config : Config) (kind : Kind) (now : Head) → now ≡ new_head config kind → IsBounded now
new_bounded config kind now is = subst IsBounded (sym is) (record { version = omega arith; bits = omega arith; dirty = omega arith; version_meta = refl; dirty_meta = refl })

change_bounded : (old : Option Head) (now : Head) (f : Head → Head) → ((h : Head) → old ≡ Some h → IsBounded h) → ((h : Head) → IsBounded h → now ≡ f h → IsBounded now) → Changed f old now → IsBounded now
change_bounded old now f before by c = by c.0 (before c.0 c.1) c.2

leaves_bounded : (config : Config) (g : ℕ) (q : Request) (old : Option Head) (now : Head) → HasLimit g q → ((h : Head) → old ≡ Some h → IsBounded h) → Leaves config g q old now → IsBounded now
leaves_bounded config g (PreOp x n at dirty) old now limit before l = change_bounded old now (with_dirty dirty) before (λ h k is. dirty_bounded h now dirty (limit l.0) k is) l.1
leaves_bounded config g (PostOp x n at version size attr) old now limit before l = change_bounded old now (committed version size attr) before (λ h k is. posted_bounded h now version size attr (limit l.0) k is) l.1
leaves_bounded config g (Clear x n at) old now limit before l = change_bounded old now (with_dirty 0) before (λ h k is. dirty_bounded h now 0 (omega arith) k is) l.1
leaves_bounded config g (Made x n child) old now limit before l = change_bounded old now (with_dirty 0) before (λ h k is. dirty_bounded h now 0 (omega arith) k is) l.1
leaves_bounded config g (Make x n child) old now limit before l = new_bounded config child.kind now l.2
leaves_bounded config g (Mark x n heal head) old now limit before l = absurd (limit l)
leaves_bounded config g (Unmark x n at dirty) old now limit before l = absurd (limit l)
leaves_bounded config g q old now limit before l = absurd l

-- the heads of the first n bricks
abbrev pub Heads : ℕ → ℕ → Net → (Head → Type 0) → Type 0
Heads n g m law = (b : ℕ) (h : Head) → b < n → head_at (m.brick b).records g ≡ Some h → law h

pub bounded_entry : (geometry : Geometry) (g : ℕ) (m : Net) (v : View) (books : Books) (e : Entry) → MayEnter geometry.n m e → Reached geometry g m v books → Heads geometry.n g m IsBounded → Heads geometry.n g (after m e) IsBounded
bounded_entry geometry g m v books e may r k b now lt is = at (entry_head g m b now geometry.n e may is)
  where
    at : (head_at (m.brick b).records g ≡ Some now) ⊎ Did g m e b now → IsBounded now
    at (inl h) = k b now lt h
    at (inr d) = leaves_bounded (m.brick b).config g d.request (head_at (m.brick b).records g) now (has_limit geometry g m v books r d.number d.message d.request d.said d.body) (λ h e. k b h lt e) d.leaves
