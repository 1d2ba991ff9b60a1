-- A create or mkdir by its kind, and what its members are asked by what is known.
use Rattle.std.proofs.Common.{◌≡◌, ℕ, ◌&&◌, ◌||◌, not, nat_lt, Bool, true, false, cond, refl, sym, ◌∙◌, ap, Option, Some, None, List}
use Rattle.ec_answers.specs.declared.grouped.Group.{Group}
use Rattle.ec_attr.specs.Bricks.{is_in}
use Rattle.ec_attr.specs.Marks.{marked}
use Rattle.ec_attr.specs.declared.geometry.Geometry.{Geometry}
use Rattle.ec_attr.specs.declared.gfid.Gfid.{Gfid}
use Rattle.ec_attr.specs.declared.kind.Kind.{Kind}
use Rattle.ec_attr.specs.declared.kind.Kind.TheVariants.{File, Dir}
use Rattle.ec_conduct.specs.Account.{Account, Lock, Place as PlaceOf, Wait, at}
use Rattle.ec_conduct.specs.Ballots.{attr_after, size_after}
use Rattle.ec_conduct.specs.Done.{failed_none, is_any}
use Rattle.ec_conduct.specs.Given.{Given, bricks_of}
use Rattle.ec_conduct.specs.Locks.{is_heal}
use Rattle.ec_txn.specs.Ballot.{grant_by, grant_of, is_within, serving, serving_by, to_members, under}
use Rattle.ec_txn.specs.Digest.{Shows, digest, held, place_at}
use Rattle.ec_txn.specs.Rounds.{subject}
use Rattle.ec_txn.specs.Tables.{IsOf}
use Rattle.ec_txn.specs.declared.ctx.Ctx.{Ctx}
use Rattle.ec_txn.specs.declared.known.Known.{Known}
use Rattle.ec_wire.specs.declared.request.Request.{Request}
use Rattle.ec_wire.specs.declared.request.Request.TheVariants.{Make as MakeOf, Made as MadeOf, NameSet}
use Rattle.ec_entry.specs.Make.{IsMake, child_of, entry_request, kind_in, made_request, make_op, make_request, name_in}
use Rattle.ec_entry.specs.Members.{grant_in, under_grant}

-- the call by its kind

pub subject_of : (kind : Kind) (g : ℕ) (name : List ℕ) → subject (make_op kind g name) ≡ g
subject_of File g name = refl
subject_of Dir g name = refl

pub name_of : (kind : Kind) (g : ℕ) (name : List ℕ) → name_in (make_op kind g name) ≡ name
name_of File g name = refl
name_of Dir g name = refl

pub kind_of : (kind : Kind) (g : ℕ) (name : List ℕ) → kind_in (make_op kind g name) ≡ kind
kind_of File g name = refl
kind_of Dir g name = refl

pub size_of : (kind : Kind) (g : ℕ) (name : List ℕ) (size : ℕ) → size_after (make_op kind g name) size ≡ size
size_of File g name size = refl
size_of Dir g name size = refl

pub attr_of : (kind : Kind) (g : ℕ) (name : List ℕ) → attr_after (make_op kind g name) ≡ None
attr_of File g name = refl
attr_of Dir g name = refl

pub is_make_of : (kind : Kind) (g : ℕ) (name : List ℕ) → IsMake (make_op kind g name)
is_make_of File g name = tt
is_make_of Dir g name = tt

pub unhealed_of : (kind : Kind) (g : ℕ) (name : List ℕ) → is_heal (make_op kind g name) ≡ false
unhealed_of File g name = refl
unhealed_of Dir g name = refl

-- what members are asked

granted_held : (o : Option Lock) → grant_by (held o) ≡ grant_of o
granted_held None = refl
granted_held (Some lock) = refl

not_so : (t : Bool) (o : Option ℕ) → cond (not t) None o ≡ cond t o None
not_so true o = refl
not_so false o = refl

pub serves : (w : Option Wait) (p : PlaceOf) → serving_by (digest w p) ≡ serving p
serves w p = not_so (failed_none is_any p.window) (grant_by (held p.inode)) ∙ ap (λ (o : Option ℕ). cond (failed_none is_any p.window) o None) (granted_held p.inode)

none_under : (s : Option ℕ) (q : ℕ → ℕ → Request) → None ≡ under s None q
none_under None q = refl
none_under (Some i) q = refl

some_under : (s : Option ℕ) (v : ℕ) (f : ℕ → Request) (q : ℕ → ℕ → Request) → ((i v : ℕ) → f i ≡ q i v) → under_grant s f ≡ under s (Some v) q
some_under None v f q h = refl
some_under (Some i) v f q h = ap (λ (r : Request). Some r) (h i v)

by_tests : (t l a b : Bool) (s : Option ℕ) (v w : ℕ) (f : ℕ → Request) (q : ℕ → ℕ → Request) → ((i v : ℕ) → f i ≡ q i v)
    → under_grant (cond (t && l && (a || b)) s None) f ≡ cond (t && l) (under s (cond a (Some v) (cond b (Some w) None)) q) None
by_tests true true true b s v w f q h = some_under s v f q h
by_tests true true false true s v w f q h = some_under s w f q h
by_tests true true false false s v w f q h = none_under s q
by_tests true false a b s v w f q h = refl
by_tests false l a b s v w f q h = refl

pub members_by : (x : Ctx) (known : Known) (c : Account) (group : Group) (brick : ℕ) (f : ℕ → Request) (q : ℕ → ℕ → Request) → IsOf x c.given → Shows (subject c.given.op) (bricks_of c.given) known c → ((i v : ℕ) → f i ≡ q i v)
    → under_grant (grant_in group x.geometry.n (place_at known.places.items brick) brick) f ≡ to_members group q c brick
members_by x known c group brick f q of shows h =
    let n : x.geometry.n ≡ bricks_of c.given = ap (λ (v : Geometry). v.n) (sym of.geometry) in
    let p : serving_by (place_at known.places.items brick) ≡ serving (at c (subject c.given.op) brick) = ap serving_by (shows.each brick) ∙ serves (c.waits brick) (at c (subject c.given.op) brick) in
    (λ j. under_grant (cond (is_within group.head && nat_lt brick (n j) && (is_in group.bricks brick || is_in group.sinks brick)) (p j) None) f)
    ∙ by_tests (is_within group.head) (nat_lt brick (bricks_of c.given)) (is_in group.bricks brick) (is_in group.sinks brick) (serving (at c (subject c.given.op) brick)) group.head.version.content (marked group.head.version.content) f q h

-- what is known of the call tells what its requests are

module _ (x : Ctx) (given : Given) (kind : Kind) (parent : Gfid) (name : List ℕ) (of : IsOf x given) (fit : given.op ≡ make_op kind parent.0 name) where
  pub subject_is : subject given.op ≡ parent.0
  subject_is = ap subject fit ∙ subject_of kind parent.0 name

  pub name_is : name_in given.op ≡ name
  name_is = ap name_in fit ∙ name_of kind parent.0 name

  pub kind_is : kind_in given.op ≡ kind
  kind_is = ap kind_in fit ∙ kind_of kind parent.0 name

  pub size_is : (size : ℕ) → size_after given.op size ≡ size
  size_is size = ap (λ op. size_after op size) fit ∙ size_of kind parent.0 name size

  pub attr_is : attr_after given.op ≡ None
  attr_is = ap attr_after fit ∙ attr_of kind parent.0 name

  pub child_is : record { kind = kind; gfid = x.child } ≡ child_of given
  child_is = λ j. record { kind = sym kind_is j; gfid = record { 0 = sym of.child j } }

  pub make_is : (i v : ℕ) → MakeOf parent i (record { kind = kind; gfid = x.child }) ≡ make_request given i v
  make_is i v = λ j. MakeOf (record { 0 = sym subject_is j }) i (child_is j)

  pub entry_is : (i v : ℕ) → NameSet parent i name (Some (record { kind = kind; gfid = x.child })) ≡ entry_request given i v
  entry_is i v = λ j. NameSet (record { 0 = sym subject_is j }) i (sym name_is j) (Some (child_is j))

  pub made_is : (i v : ℕ) → MadeOf parent i x.child ≡ made_request given i v
  made_is i v = λ j. MadeOf (record { 0 = sym subject_is j }) i (record { 0 = sym of.child j })
