-- The changes that a commit is made of, by the call.
use Rattle.std.specs.Prelude.{◌≡◌, ◌↔◌, ℕ, ◌+◌, ◌-◌, ◌/◌, ◌%◌, ◌<◌, ◌≤◌, Bool, true, false, cond, ◌==◌, ◌&&◌, ◌||◌, nat_lt, min, Option, Some, None, List, [], ◌∷◌, ◌++◌, length, bytes_eq}
use Rattle.std.specs.List.{list_any}
use Rattle.ec_attr.specs.Bricks.{count_below}
use Rattle.ec_attr.specs.GoodGroup.{same_kind}
use Rattle.ec_attr.specs.declared.head.Head.{Head}
use Rattle.ec_attr.specs.declared.kind.Child.{Child}
use Rattle.ec_attr.specs.declared.kind.Kind.{Kind}
use Rattle.ec_attr.specs.declared.kind.Kind.TheVariants.{File, Dir}
use Rattle.ec_field.specs.Code.{IsCode, IsStripe}
use Rattle.ec_stripe.specs.Span.{stripe_bytes}
use Rattle.ec_wire.specs.declared.op.Op.{Op}
use Rattle.ec_wire.specs.declared.op.Op.TheVariants.{Write, Truncate, Create, Mkdir, Unlink, SetAttr, Rename, Rmdir, Heal, Scrub, Sweep}
use Rattle.ec_wire.specs.declared.reply.Reply.{Reply}
use Rattle.ec_wire.specs.declared.reply.Reply.TheVariants.{Child as ChildIs}
use Rattle.ec_wire.specs.declared.request.Request.{Request}
use Rattle.ec_wire.specs.declared.request.Request.TheVariants.{WriteChunks, SetLength, NameGet, NameSet, Make}
use Rattle.ec_conduct.specs.Account.{Account, Exchange, at}
use Rattle.ec_conduct.specs.Done.{chunk_read, is_pre, reply_to, tried}
use Rattle.ec_conduct.specs.Given.{bricks_of, quorum_of}
use Rattle.ec_conduct.specs.Group.{has}
use Rattle.ec_conduct.specs.Standing.{Every, is_grouped}

-- how many stripes of k chunks hold so many bytes
abbrev pub stripes_of : ℕ → ℕ → ℕ
stripes_of k size = (size + (stripe_bytes k - 1)) / stripe_bytes k

-- a request writes so many chunks from stripe `first` on
abbrev pub writes : ℕ → ℕ → Request → Bool
writes first count (WriteChunks g grant from chunks) = (from == first) && (length chunks == count)
writes first count r = false

abbrev pub cuts : ℕ → ℕ → Request → Bool
cuts keep count (SetLength g grant from length) = (from == keep) && (length == count)
cuts keep count r = false

-- it sets the name to what the test says
abbrev pub sets : List ℕ → (Option Child → Bool) → Request → Bool
sets name test (NameSet g grant entry child) = bytes_eq entry name && test child
sets name test r = false

abbrev pub makes : (Option Child → Bool) → Request → Bool
makes test (Make g grant child) = test (Some child)
makes test r = false

abbrev pub is_child : Kind → ℕ → Option Child → Bool
is_child kind g child = has (λ (x : Child). same_kind x.kind kind && (x.gfid.0 == g)) child

abbrev pub is_nothing : Option Child → Bool
is_nothing None = true
is_nothing (Some child) = false

abbrev pub same_child : Option Child → Option Child → Bool
same_child None other = is_nothing other
same_child (Some child) other = is_child child.kind child.gfid.0 other

-- each request passes the test in its place
abbrev pub are : List (Request → Bool) → List Request → Bool
are [] [] = true
are (test ∷ tests) (r ∷ rs) = test r && are tests rs
are tests rs = false

-- of a write of these bytes
abbrev pub write_tests : ℕ → ℕ → ℕ → List (Request → Bool)
write_tests k off len = writes (off / stripe_bytes k) (stripes_of k (off + len) - off / stripe_bytes k) ∷ []

-- of a truncate: `low` is the lesser of the old and the new size; its stripe is written where it lies within one
abbrev pub truncate_tests : ℕ → ℕ → ℕ → List (Request → Bool)
truncate_tests k low to = cuts (stripes_of k low) (stripes_of k to) ∷ cond (low % stripe_bytes k == 0) [] (writes (low / stripe_bytes k) 1 ∷ [])

-- of a create or mkdir
abbrev pub child_tests : Kind → ℕ → List ℕ → List (Request → Bool)
child_tests kind g name = sets name (is_child kind g) ∷ makes (is_child kind g) ∷ []

-- of a rename at directory g, the removal last
abbrev pub rename_tests : ℕ → ℕ → List ℕ → ℕ → List ℕ → Child → List (Request → Bool)
rename_tests g old name new to child = cond (g == old) (sets name is_nothing ∷ []) [] ++ cond (g == new) (sets to (is_child child.kind child.gfid.0) ∷ []) []

-- a request for this name
abbrev pub is_name_of : List ℕ → Request → Bool
is_name_of name (NameGet g grant entry) = bytes_eq entry name
is_name_of name r = false

abbrev pub gives_child : Option Child → Option Reply → Bool
gives_child child (Some (ChildIs other)) = same_child child other
gives_child child reply = false

-- a quorum of the group answered that the name leads there
abbrev pub IsNamed : Account → ℕ → List ℕ → Option Child → Type 0
IsNamed c g name child = quorum_of c.given ≤ count_below (bricks_of c.given) (λ x. is_grouped c g x && gives_child child (reply_to (is_name_of name) (at c g x).window))

-- what was over before the last such request; all, where there is none
abbrev pub past : (Request → Bool) → List Exchange → List Exchange
past p [] = []
past p (e ∷ es) = cond (p e.request) es (past p es)

abbrev pub before : (Request → Bool) → List Exchange → List Exchange
before p es = cond (tried p es) (past p es) es

-- A stripe is bad where no one stripe has all the chunks that a scrub was given of it as its codes.
abbrev pub IsBad : Account → ℕ → ℕ → Type 0
IsBad c g s = (stripe : List (List ℕ)) → IsStripe (quorum_of c.given) stripe → Every c (λ x. (chunk : List ℕ) → chunk_read s (before is_pre (at c g x).window) ≡ Some chunk → IsCode (quorum_of c.given) c.given.geometry.algorithm x stripe chunk) → ⊥

-- stripes below this one, each written by a request of its own, falling
abbrev pub falls : ℕ → List Request → Bool
falls above [] = true
falls above (WriteChunks g grant s chunks ∷ rs) = nat_lt s above && (length chunks == 1) && falls s rs
falls above rs = false

-- a scrub rewrites each bad stripe of the size and no other, in rising order
pub record IsSettling (c : Account) (g size : ℕ) (rs : List Request) : Type 0 where
  pub rising : falls (stripes_of (quorum_of c.given) size) rs ≡ true
  pub bad : (s : ℕ) → s < stripes_of (quorum_of c.given) size → (list_any (writes s 1) rs ≡ true) ↔ IsBad c g s

-- The changes that a commit of the call on gfid g is made of, the last first; `head` is the group's.
abbrev pub IsAllOf : Account → ℕ → Head → Op → List Request → Type 0
IsAllOf c g head (Write h off bytes) rs = (h.0 ≡ g) × (0 < length bytes) × (are (write_tests (quorum_of c.given) off (length bytes)) rs ≡ true)
IsAllOf c g head (Truncate h to) rs = (h.0 ≡ g) × (are (truncate_tests (quorum_of c.given) (min head.size to) to) rs ≡ true)
IsAllOf c g head (Create h name) rs = (h.0 ≡ g) × (are (child_tests File c.given.child name) rs ≡ true)
IsAllOf c g head (Mkdir h name) rs = (h.0 ≡ g) × (are (child_tests Dir c.given.child name) rs ≡ true)
IsAllOf c g head (Unlink h name) rs = (h.0 ≡ g) × (are (sets name is_nothing ∷ []) rs ≡ true)
IsAllOf c g head (Rmdir h name) rs = (h.0 ≡ g) × (are (sets name is_nothing ∷ []) rs ≡ true)
IsAllOf c g head (Rename old name new to) rs = (((old.0 == g) || (new.0 == g)) ≡ true) × (child : Child) × IsNamed c old.0 name (Some child) × (are (rename_tests g old.0 name new.0 to child) rs ≡ true)
IsAllOf c g head (SetAttr h attr) rs = (h.0 ≡ g) × (rs ≡ [])
IsAllOf c g head (Scrub h settle) rs = (h.0 ≡ g) × (settle ≡ true) × IsSettling c g head.size rs
IsAllOf c g head (Heal h) rs = (h.0 ≡ g) × (rs ≡ [])
IsAllOf c g head (Sweep full) rs = rs ≡ []
IsAllOf c g head op rs = ⊥
