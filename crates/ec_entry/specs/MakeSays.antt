-- What the conduct says of a create or mkdir.
use Rattle.std.proofs.Common.{◌≡◌, refl, subst, sym, ℕ, true, List, [], ◌∷◌, Option, Some, eq-eqb}
use Rattle.std.proofs.lemmas.Slice.Eq.{bytes_eq-Decides}
use Rattle.ec_attr.specs.declared.head.Head.{Head}
use Rattle.ec_attr.specs.declared.kind.Child.{Child as ChildOf}
use Rattle.ec_attr.specs.declared.kind.Kind.TheVariants.{File, Dir}
use Rattle.ec_conduct.specs.Account.{Account}
use Rattle.ec_conduct.specs.Ballots.{size_after}
use Rattle.ec_conduct.specs.Changes.{IsAllOf, are, child_tests}
use Rattle.ec_conduct.specs.Children.{IsPosted}
use Rattle.ec_conduct.specs.Conduct.{IsEarned, IsNamedAnew}
use Rattle.ec_conduct.specs.Data.{changes_names, makes_child}
use Rattle.ec_txn.specs.Rounds.{subject}
use Rattle.ec_wire.specs.declared.answer.Answer.TheVariants.{Child, Exists, Limit, NoQuorum, NoSuch, NotDir, Spent, Split}
use Rattle.ec_wire.specs.declared.op.Op.{Op}
use Rattle.ec_wire.specs.declared.op.Op.TheVariants.{Write, Truncate, Read, Stat, Create, Mkdir, Unlink, Lookup, Readdir, Heal, SetAttr, GetAttr, Rename, Rmdir, Scrub, Sweep}
use Rattle.ec_wire.specs.declared.phase.Phase.{Phase}
use Rattle.ec_wire.specs.declared.request.Request.{Request}
use Rattle.ec_wire.specs.declared.request.Request.TheVariants.{Make as MakeOf, NameSet}
use Rattle.ec_entry.specs.Make.{IsMake, kind_in, name_in}

-- the child of a call that took this gfid
abbrev pub child_by : Op → ℕ → ChildOf
child_by op child = record { kind = kind_in op; gfid = record { 0 = child } }

-- the changes of its commit, the last first
abbrev pub commit_of : Op → ℕ → ℕ → List Request
commit_of op child grant = NameSet (record { 0 = subject op }) grant (name_in op) (Some (child_by op child)) ∷ MakeOf (record { 0 = subject op }) grant (child_by op child) ∷ []

-- It is answered with the child only where a quorum has committed; its commit is the child's record and the name.
pub record SaysMake (op : Op) : Type 0 where
  pub no_quorum : (e : Account) (phase : Phase) (most : ℕ) → IsEarned e op (NoQuorum phase most)
  pub no_such : (e : Account) → IsEarned e op NoSuch
  pub not_dir : (e : Account) → IsEarned e op NotDir
  pub split : (e : Account) (a b : Option ChildOf) → IsEarned e op (Split a b)
  pub exists : (e : Account) (child : ChildOf) → IsEarned e op (Exists child)
  pub limit : (e : Account) (version : ℕ) → IsEarned e op (Limit version)
  pub spent : (e : Account) → IsEarned e op Spent
  pub made : (e : Account) (child : ChildOf) → IsPosted e (subject op) → IsEarned e op (Child child)
  pub size : (size : ℕ) → size_after op size ≡ size
  pub makes : makes_child op (subject op) ≡ true
  pub names : changes_names op (subject op) ≡ true
  pub anew : (c : Account) (g : ℕ) → IsNamedAnew c op g
  pub all : (c : Account) (grant : ℕ) (head : Head) → IsAllOf c (subject op) head op (commit_of op c.given.child grant)
  pub steady : (c d : Account) (g : ℕ) (head : Head) (rs : List Request) → d.given.child ≡ c.given.child → IsAllOf c g head op rs → IsAllOf d g head op rs

pub says_make : (op : Op) → IsMake op → SaysMake op
says_make (Create g name) i = record {
  no_quorum = λ e phase most. tt;
  no_such = λ e. tt;
  not_dir = λ e. tt;
  split = λ e a b. tt;
  exists = λ e child. tt;
  limit = λ e version. tt;
  spent = λ e. tt;
  made = λ e child posted. posted;
  size = λ size. refl;
  makes = eq-eqb g.0 g.0 refl;
  names = eq-eqb g.0 g.0 refl;
  anew = λ c h. tt;
  all = λ c grant head. (refl, (let a = (bytes_eq-Decides name name).1 refl in let b = eq-eqb c.given.child c.given.child refl in rw (a, b) refl));
  steady = λ c d h head rs e w. (w.0, subst (λ (n : ℕ). are (child_tests File n name) rs ≡ true) (sym e) w.1);
}
says_make (Mkdir g name) i = record {
  no_quorum = λ e phase most. tt;
  no_such = λ e. tt;
  not_dir = λ e. tt;
  split = λ e a b. tt;
  exists = λ e child. tt;
  limit = λ e version. tt;
  spent = λ e. tt;
  made = λ e child posted. posted;
  size = λ size. refl;
  makes = eq-eqb g.0 g.0 refl;
  names = eq-eqb g.0 g.0 refl;
  anew = λ c h. tt;
  all = λ c grant head. (refl, (let a = (bytes_eq-Decides name name).1 refl in let b = eq-eqb c.given.child c.given.child refl in rw (a, b) refl));
  steady = λ c d h head rs e w. (w.0, subst (λ (n : ℕ). are (child_tests Dir n name) rs ≡ true) (sym e) w.1);
}
says_make (Write g off bytes) i = absurd i
says_make (Truncate g size) i = absurd i
says_make (Read g off len via) i = absurd i
says_make (Stat g) i = absurd i
says_make (Unlink g name) i = absurd i
says_make (Lookup g name) i = absurd i
says_make (Readdir g) i = absurd i
says_make (Heal g) i = absurd i
says_make (SetAttr g attr) i = absurd i
says_make (GetAttr g) i = absurd i
says_make (Rename old name new to) i = absurd i
says_make (Rmdir g name) i = absurd i
says_make (Scrub g settle) i = absurd i
says_make (Sweep full) i = absurd i
