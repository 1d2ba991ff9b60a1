-- Past the size of each file stand zeros after every log.
use Rattle.std.proofs.Common.{◌≡◌, ℕ, ◌+◌, ◌-◌, ◌*◌, ◌/◌, ◌<◌, ◌≤◌, Bool, true, false, not, cond, ◌==◌, ◌&&◌, Option, Some, None, List, [], ◌∷◌, length, refl, sym, ◌∙◌, ap, subst, arith, inl, inr}
use Rattle.std.specs.Prelude.{nat_lt, nat_le, min, max}
use Rattle.std.proofs.lemmas.Bool.Decides.{nat_tests}
use Rattle.std.proofs.Math.Nat.{div-le_of_le-mul, le-div_iff_mul-le, mul_comm}
use Rattle.std.proofs.lemmas.Bool.{cases_lt}
use Rattle.std.proofs.lemmas.Nat.{div-mul-add}
use Rattle.ec_attr.specs.declared.geometry.Geometry.{Geometry}
use Rattle.ec_attr.specs.declared.kind.Kind.{Kind}
use Rattle.ec_conduct.specs.Given.{quorum}
use Rattle.ec_attr.specs.declared.kind.Domain.TheVariants.{Inode}
use Rattle.ec_attr.specs.declared.kind.LockKind.TheVariants.{Exclusive}
use Rattle.ec_history.specs.Changes.{Found, change, truncates, writes, zeros_from}
use Rattle.ec_history.specs.Flat.{Change, Flat, Opener, Tree, blank, carried, committed, is_open_to_it_alone, made, made_from, name_opened, opened, opened_before, opened_by, stripe_of}
use Rattle.ec_history.specs.Flat.Opener.{Nobody, One, Several}
use Rattle.ec_history.specs.Run.{Net, after as net_after, out_of}
use Rattle.ec_history.specs.Starts.{empty_root, root_tree}
use Rattle.ec_history.specs.Story.{Story, done_by, executes, failed_by, is_among, is_at_flat, is_commit, is_done, is_heal, is_unmarked, makes_a_child, op_of, opening, opens, post_done, request_of, said_by, story, tears, told, told_executed, told_torn, torn_by, with_flat, with_post}
use Rattle.ec_locks.specs.Table.{holds}
use Rattle.ec_store.specs.Put.{put}
use Rattle.ec_store.specs.Records.{head_at}
use Rattle.ec_stripe.specs.Span.{stripe_bytes}
use Rattle.ec_wire.specs.declared.entry.Entry.{Entry}
use Rattle.ec_wire.specs.declared.entry.Entry.TheVariants.{Called, Sent, Executed, Torn}
use Rattle.ec_wire.specs.declared.message.Body.{Body}
use Rattle.ec_wire.specs.declared.message.Body.TheVariants.{ToBrick}
use Rattle.ec_wire.specs.declared.message.Message.{Message}
use Rattle.ec_wire.specs.declared.op.Op.{Op}
use Rattle.ec_wire.specs.declared.op.Op.TheVariants.{Write, Truncate, Scrub}
use Rattle.ec_wire.specs.declared.request.Request.{Request}
use Rattle.ec_wire.specs.declared.request.Request.TheVariants.{WriteChunks, SetLength, PostOp, NameSet, Make}
use Rattle.ec_law_stripes.specs.Begins.{ZeroPastSize, ZerosPastSizes}

-- ## A commit

-- Of a change: what it covers past the new size it sets to 0, and what it doesn't cover there lay past the old size.
record KeepsZeros (k : ℕ) (c : Change) (x : Flat) : Type 0 where
  pub covered : (s i : ℕ) → c.size ≤ stripe_bytes k * s → i < stripe_bytes k → c.covers s ≡ true → c.sets (stripe_bytes k * s + i) ≡ Some 0
  pub beside : (s i : ℕ) → c.size ≤ stripe_bytes k * s → i < stripe_bytes k → c.covers s ≡ false → x.size ≤ stripe_bytes k * s

place : (k s i : ℕ) → i < stripe_bytes k → stripe_of k (stripe_bytes k * s + i) ≡ s
place k s i lt = ap (λ (z : ℕ). (z + i) / stripe_bytes k) (mul_comm (stripe_bytes k) s) ∙ div-mul-add s (stripe_bytes k) i lt

zero_committed : (k a version : ℕ) (c : Change) (x : Flat) → KeepsZeros k c x → ZeroPastSize k x → ZeroPastSize k (committed k a version c x)
zero_committed k a version c x keeps z s i e le lt = ap {B = Option ℕ} (λ (q : ℕ). cond (c.covers q) (carried (c.sets (stripe_bytes k * s + i)) (is_open_to_it_alone a (x.opener q)) (x.byte (stripe_bytes k * s + i))) (x.byte (stripe_bytes k * s + i))) (place k s i lt) ∙ at (c.covers s) refl
  where
    at : (t : Bool) → c.covers s ≡ t → cond (c.covers s) (carried (c.sets (stripe_bytes k * s + i)) (is_open_to_it_alone a (x.opener s)) (x.byte (stripe_bytes k * s + i))) (x.byte (stripe_bytes k * s + i)) ≡ Some 0
    at true u = ap (λ (t : Bool). cond t (carried (c.sets (stripe_bytes k * s + i)) (is_open_to_it_alone a (x.opener s)) (x.byte (stripe_bytes k * s + i))) (x.byte (stripe_bytes k * s + i))) u ∙ ap (λ (o : Option ℕ). carried o (is_open_to_it_alone a (x.opener s)) (x.byte (stripe_bytes k * s + i))) (keeps.covered s i le lt u)
    at false u = ap (λ (t : Bool). cond t (carried (c.sets (stripe_bytes k * s + i)) (is_open_to_it_alone a (x.opener s)) (x.byte (stripe_bytes k * s + i))) (x.byte (stripe_bytes k * s + i))) u ∙ z s i (sym (ap (λ (t : Bool). cond t Nobody (x.opener s)) u) ∙ e) (keeps.beside s i le lt u) lt

true_false : {X : Type 0} → true ≡ false → X
true_false e = absurd (cc)

-- a change of no stripe, which leaves the size
keeps_none : (k : ℕ) (c : Change) (x : Flat) → ((s : ℕ) → c.covers s ≡ false) → c.size ≡ x.size → KeepsZeros k c x
keeps_none k c x none same = record {
  covered = λ s i le lt u. true_false (sym u ∙ none s);
  beside = λ s i le lt u. subst (λ (z : ℕ). z ≤ stripe_bytes k * s) same le;
}

zeros_there : (c p : ℕ) → c ≤ p → zeros_from c p ≡ Some 0
zeros_there c p le = ap (λ (t : Bool). cond {A = Option ℕ} t (Some 0) None) (yes c p le)
  where
    yes : (x y : ℕ) → x ≤ y → nat_le x y ≡ true
    yes x y h = grind (arith, nat_tests)

keeps_write : (k off : ℕ) (bytes : List ℕ) (x : Flat) → KeepsZeros k (writes k off bytes x) x
keeps_write k off bytes x = record {
  covered = λ s i le lt u. true_false (sym u ∙ none s i le lt);
  beside = λ s i le lt u. greater x.size (off + length bytes) (stripe_bytes k * s) le;
}
  where
    greater : (a b c : ℕ) → max a b ≤ c → a ≤ c
    greater a b c h = omega (arith, h)

    other : (a b c : ℕ) → max a b ≤ c → b ≤ c
    other a b c h = omega (arith, h)

    none : (s i : ℕ) → max x.size (off + length bytes) ≤ stripe_bytes k * s → i < stripe_bytes k → (nat_lt 0 (length bytes) && nat_le (off / stripe_bytes k) s && nat_le s ((off + length bytes - 1) / stripe_bytes k)) ≡ false
    none s i le lt = elim (cases_lt 0 (length bytes)) [
      | inl some ↦ let h : (off + length bytes - 1) / stripe_bytes k < s = less s i le lt some in tests (length bytes) (off / stripe_bytes k) s ((off + length bytes - 1) / stripe_bytes k) h
      | inr z ↦ empty (length bytes) (off / stripe_bytes k) s ((off + length bytes - 1) / stripe_bytes k) z
    ]
      where
        tests : (n a s b : ℕ) → b < s → (nat_lt 0 n && nat_le a s && nat_le s b) ≡ false
        tests n a s b h = grind (arith, nat_tests)

        empty : (n a s b : ℕ) → n ≤ 0 → (nat_lt 0 n && nat_le a s && nat_le s b) ≡ false
        empty n a s b h = grind (arith, nat_tests)

        less : (s i : ℕ) → max x.size (off + length bytes) ≤ stripe_bytes k * s → i < stripe_bytes k → 0 < length bytes → (off + length bytes - 1) / stripe_bytes k < s
        less s i le lt some = elim (cases_lt ((off + length bytes - 1) / stripe_bytes k) s) [
          | inl h ↦ h
          | inr h ↦
              let pos : 0 < stripe_bytes k = omega (arith, lt) in
              let under : s * stripe_bytes k ≤ off + length bytes - 1 = (le-div_iff_mul-le {k = stripe_bytes k} {x = s} {y = off + length bytes - 1} pos).0 h in
              let above : off + length bytes ≤ stripe_bytes k * s = other x.size (off + length bytes) (stripe_bytes k * s) le in
              let same : s * stripe_bytes k ≡ stripe_bytes k * s = mul_comm s (stripe_bytes k) in
              absurd (omega (arith, under, above, same, some))
        ]

keeps_truncate : (k to : ℕ) (x : Flat) → KeepsZeros k (truncates k to x) x
keeps_truncate k to x = record {
  covered = λ s i le lt u. zeros_there (min to x.size) (stripe_bytes k * s + i) (omega (arith, le));
  beside = λ s i le lt u. true_false (sym (yes (min to x.size / stripe_bytes k) s (div-le_of_le-mul (stripe_bytes k) {m = min to x.size} {n = s} (omega (arith, le)))) ∙ u);
}
  where
    yes : (x y : ℕ) → x ≤ y → nat_le x y ≡ true
    yes x y h = grind (arith, nat_tests)

keeps_change : (k : ℕ) (op : Op) (found : Found) (g : ℕ) (x : Flat) → KeepsZeros k (change k op found g x) x
keeps_change k (Write gfid off bytes) found g x = keeps_write k off bytes x
keeps_change k (Truncate gfid size) found g x = keeps_truncate k size x
keeps_change k (Scrub gfid settle) found g x = record {
  covered = λ s i le lt u. zeros_there x.size (stripe_bytes k * s + i) (omega (arith, le));
  beside = λ s i le lt u. le;
}
keeps_change k op found g x = keeps_none k (change k op found g x) x (λ s. refl) refl

-- ## What else is done to a file

zero_opened : (k a : ℕ) (test : ℕ → Bool) (x : Flat) → ZeroPastSize k x → ZeroPastSize k (opened a test x)
zero_opened k a test x z s i e le lt = z s i (shut (test s) e) le lt
  where
    never : (o : Opener) → opened_by a o ≡ Nobody → ⊥
    never Nobody e = cc
    never (One b) e = by (b == a) e
      where
        by : (t : Bool) → cond t (One b) Several ≡ Nobody → ⊥
        by true e = cc
        by false e = cc
    never Several e = cc

    shut : (t : Bool) → cond t (opened_by a (x.opener s)) (x.opener s) ≡ Nobody → x.opener s ≡ Nobody
    shut true e = absurd (never (x.opener s) e)
    shut false e = e

zero_made : (k : ℕ) (kind : Kind) (x : Flat) → ZeroPastSize k x → ZeroPastSize k (made kind x)
zero_made k kind x z = by x.kind refl
  where
    by : (o : Option Kind) → x.kind ≡ o → ZeroPastSize k (made kind x)
    by None is = subst (λ (o : Option Kind). ZeroPastSize k (made_from o kind x)) (sym is) z
    by (Some other) is = subst (λ (o : Option Kind). ZeroPastSize k (made_from o kind x)) (sym is) z

-- ## A story

module _ (geometry : Geometry) where
  abbrev k : ℕ
  k = quorum geometry

  abbrev Zeros : Story → Type 0
  Zeros t = ZerosPastSizes (quorum geometry) t.tree

  zeros_put : (tree : Tree) (g : ℕ) (x : Flat) → ZerosPastSizes (quorum geometry) tree → ZeroPastSize (quorum geometry) x → ZerosPastSizes (quorum geometry) (put tree g x)
  zeros_put tree g x z here h = by (h == g)
    where
      by : (t : Bool) → ZeroPastSize (quorum geometry) (cond t x (tree h))
      by true = here
      by false = z h

  zeros_cond : (t : Bool) (x y : Story) → Zeros x → Zeros y → Zeros (cond t x y)
  zeros_cond true x y a b = a
  zeros_cond false x y a b = b

  zeros_flat : (t : Story) (g : ℕ) (f : Flat → Flat) → Zeros t → ZeroPastSize (quorum geometry) (f (t.tree g)) → Zeros (with_flat t g f)
  zeros_flat t g f z here = zeros_put t.tree g (f (t.tree g)) z here

  zeros_opens : (m : Net) (t : Story) (msg : Message) (g : ℕ) (test : ℕ → Bool) → Zeros t → Zeros (opens m t msg g test)
  zeros_opens m t msg g test z = zeros_cond (not (is_heal (op_of m msg.call)) && is_at_flat m t msg.brick g) (with_flat t g (opened msg.call test)) t (zeros_flat t g (opened msg.call test) z (zero_opened (quorum geometry) msg.call test (t.tree g) (z g))) z

  zeros_post : (m : Net) (t : Story) (a g b version : ℕ) → Zeros t → Zeros (post_done geometry m t a g b version)
  zeros_post m t a g b version z =
      zeros_cond (is_unmarked (head_at (m.brick b).records g))
      (cond (is_commit geometry t a g b) (with_flat (with_post t a g b) g (λ flat. committed (quorum geometry) a version (change (quorum geometry) (op_of m a) (t.found a) g flat) flat)) (with_post t a g b))
      t
      (zeros_cond (is_commit geometry t a g b) (with_flat (with_post t a g b) g (λ flat. committed (quorum geometry) a version (change (quorum geometry) (op_of m a) (t.found a) g flat) flat)) (with_post t a g b)
      (zeros_flat (with_post t a g b) g (λ flat. committed (quorum geometry) a version (change (quorum geometry) (op_of m a) (t.found a) g flat) flat) z
      (zero_committed (quorum geometry) a version (change (quorum geometry) (op_of m a) (t.found a) g (t.tree g)) (t.tree g) (keeps_change (quorum geometry) (op_of m a) (t.found a) g (t.tree g)) (z g)))
      z)
      z

  zeros_done : (m : Net) (t : Story) (msg : Message) (q : Request) → Zeros t → Zeros (done_by geometry m t msg q)
  zeros_done m t msg (WriteChunks g n first chunks) z = zeros_opens m t msg g.0 (is_among first (length chunks)) z
  zeros_done m t msg (SetLength g n keep count) z = zeros_opens m t msg g.0 (λ s. nat_le keep s) z
  zeros_done m t msg (NameSet g n name child) z = zeros_cond (is_at_flat m t msg.brick g.0) (with_flat t g.0 (name_opened name)) t (zeros_flat t g.0 (name_opened name) z (z g.0)) z
  zeros_done m t msg (Make g n child) z = zeros_flat t child.gfid.0 (made child.kind) z (zero_made (quorum geometry) child.kind (t.tree child.gfid.0) (z child.gfid.0))
  zeros_done m t msg (PostOp g n at version size attr) z = zeros_post m t msg.call g.0 msg.brick version z
  zeros_done m t msg q z = z

  zeros_failed : (m : Net) (t : Story) (msg : Message) (q : Request) (version : Option ℕ) → Zeros t → Zeros (failed_by m t msg q version)
  zeros_failed m t msg (WriteChunks g n first chunks) (Some version) z = zeros_opens m t msg g.0 (is_among first (length chunks)) z
  zeros_failed m t msg q version z = z

  zeros_torn : (m : Net) (t : Story) (msg : Message) (q : Request) (version : Option ℕ) → Zeros t → Zeros (torn_by m t msg q version)
  zeros_torn m t msg (WriteChunks g n first chunks) (Some version) z = zeros_cond (holds (m.brick msg.brick).asks n g Inode Exclusive) (opens m t msg g.0 (is_among first (length chunks))) t (zeros_opens m t msg g.0 (is_among first (length chunks)) z) z
  zeros_torn m t msg q version z = z

  zeros_executed : (m : Net) (t : Story) (o : Option Message) (version : Option ℕ) (failed : Bool) → Zeros t → Zeros (told_executed geometry m t o version failed)
  zeros_executed m t None version failed z = z
  zeros_executed m t (Some msg) version failed z = by (request_of msg.body) failed
    where
      by : (o : Option Request) (failed : Bool) → Zeros (executes geometry m t msg o version failed)
      by None failed = z
      by (Some q) true = zeros_failed m t msg q version z
      by (Some q) false = zeros_cond (is_done (out_of m msg q version false).says) (done_by geometry m t msg q) t (zeros_done m t msg q z) z

  zeros_tears : (m : Net) (t : Story) (o : Option Message) (version : Option ℕ) → Zeros t → Zeros (told_torn m t o version)
  zeros_tears m t None version z = z
  zeros_tears m t (Some msg) version z = by (request_of msg.body)
    where
      by : (o : Option Request) → Zeros (tears m t msg o version)
      by None = z
      by (Some q) = zeros_torn m t msg q version z

  zeros_said : (t : Story) (a : ℕ) (body : Body) → Zeros t → Zeros (said_by t a body)
  zeros_said t a (ToBrick (WriteChunks g n first chunks)) z = z
  zeros_said t a (ToBrick (NameSet g n name (Some child))) z = z
  zeros_said t a (ToBrick (NameSet g n name None)) z = z
  zeros_said t a body z = z

  zeros_told : (m : Net) (t : Story) (e : Entry) → Zeros t → Zeros (told geometry m t e)
  zeros_told m t (Called call client op) z = zeros_cond (makes_a_child op) _ t z z
  zeros_told m t (Sent msg) z = zeros_said t msg.call msg.body z
  zeros_told m t (Executed i version failed) z = zeros_executed m t (m.said i) version failed z
  zeros_told m t (Torn i bytes version) z = zeros_tears m t (m.said i) version z
  zeros_told m t e z = z

  zeros_after : (es : List Entry) (m : Net) (t : Story) → Zeros t → Zeros (story geometry es m t)
  zeros_after [] m t z = z
  zeros_after (e ∷ es) m t z = zeros_after es (net_after m e) (told geometry m t e) (zeros_told m t e z)

  from_tree : (tree : Tree) (next : ℕ) → ZerosPastSizes (quorum geometry) tree → Zeros (opening tree next)
  from_tree tree next z g s i e le lt = z g s i (shut ((tree g).opener s) e) le lt
    where
      shut : (o : Opener) → opened_before o ≡ Nobody → o ≡ Nobody
      shut Nobody e = refl
      shut (One c) e = absurd (cc)
      shut Several e = absurd (cc)

pub again : (geometry : Geometry) (tree : Tree) (next : ℕ) (es : List Entry) (m : Net) → ZerosPastSizes (quorum geometry) tree → ZerosPastSizes (quorum geometry) (story geometry es m (opening tree next)).tree
again geometry tree next es m z = zeros_after geometry es m (opening tree next) (from_tree geometry tree next z)

pub fresh_tree : (k : ℕ) → ZerosPastSizes k root_tree
fresh_tree k g = by (g == 1)
  where
    by : (t : Bool) → ZeroPastSize k (cond t empty_root blank)
    by true s i e le lt = refl
    by false s i e le lt = refl
