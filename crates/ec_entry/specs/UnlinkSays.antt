-- What the conduct says of an unlink.
use Rattle.std.proofs.Common.{◌≡◌, refl, true, ℕ, List, [], ◌∷◌, None, eq-eqb}
use Rattle.std.proofs.lemmas.Slice.Eq.{bytes_eq-Decides}
use Rattle.ec_attr.specs.declared.head.Head.{Head}
use Rattle.ec_conduct.specs.Account.{Account}
use Rattle.ec_conduct.specs.Ballots.{size_after}
use Rattle.ec_conduct.specs.Changes.{IsAllOf}
use Rattle.ec_conduct.specs.Children.{IsPosted, MayRemove, MayUnmake}
use Rattle.ec_conduct.specs.Conduct.{IsEarned, IsNamedAnew}
use Rattle.ec_conduct.specs.Data.{changes_names, removes_child}
use Rattle.ec_txn.specs.Rounds.{subject}
use Rattle.ec_wire.specs.declared.answer.Answer.TheVariants.{Gone, IsDir, Limit, NoName, NoQuorum, NoSuch, NotDir}
use Rattle.ec_wire.specs.declared.op.Op.{Op}
use Rattle.ec_wire.specs.declared.op.Op.TheVariants.{Write, Truncate, Read, Stat, Create, Mkdir, Unlink, Lookup, Readdir, Heal, SetAttr, GetAttr, Rename, Rmdir, Scrub, Sweep}
use Rattle.ec_wire.specs.declared.phase.Phase.{Phase}
use Rattle.ec_wire.specs.declared.request.Request.{Request}
use Rattle.ec_wire.specs.declared.request.Request.TheVariants.{NameSet}
use Rattle.ec_entry.specs.Unlink.{IsUnlink, name_in}

-- It is answered that the name is gone only where a quorum has committed; its commit sets the name to none.
pub record SaysUnlink (op : Op) : Type 0 where
  pub no_quorum : (e : Account) (phase : Phase) (most : ℕ) → IsEarned e op (NoQuorum phase most)
  pub no_such : (e : Account) → IsEarned e op NoSuch
  pub not_dir : (e : Account) → IsEarned e op NotDir
  pub is_dir : (e : Account) → IsEarned e op IsDir
  pub no_name : (e : Account) → IsEarned e op NoName
  pub limit : (e : Account) (version : ℕ) → IsEarned e op (Limit version)
  pub gone : (e : Account) → IsPosted e (subject op) → IsEarned e op Gone
  pub size : (size : ℕ) → size_after op size ≡ size
  pub names : changes_names op (subject op) ≡ true
  pub removes : removes_child op (subject op) ≡ true
  pub unmakes : (d : Account) (b g grant child : ℕ) → MayUnmake d b g grant child → MayRemove op d b g grant child
  pub anew : (c : Account) (g : ℕ) → IsNamedAnew c op g
  pub all : (c : Account) (grant : ℕ) (head : Head) → IsAllOf c (subject op) head op (NameSet (record { 0 = subject op }) grant (name_in op) None ∷ [])
  pub steady : (c d : Account) (g : ℕ) (head : Head) (rs : List Request) → IsAllOf c g head op rs → IsAllOf d g head op rs

pub says_unlink : (op : Op) → IsUnlink op → SaysUnlink op
says_unlink (Unlink g name) i = record {
  no_quorum = λ e phase most. tt;
  no_such = λ e. tt;
  not_dir = λ e. tt;
  is_dir = λ e. tt;
  no_name = λ e. tt;
  limit = λ e version. tt;
  gone = λ e posted. posted;
  size = λ size. refl;
  names = eq-eqb g.0 g.0 refl;
  removes = eq-eqb g.0 g.0 refl;
  unmakes = λ d b h grant child m. m;
  anew = λ c h. tt;
  all = λ c grant head. (refl, (let a = (bytes_eq-Decides name name).1 refl in rw a refl));
  steady = λ c d h head rs w. w;
}
says_unlink (Write g off bytes) i = absurd i
says_unlink (Truncate g size) i = absurd i
says_unlink (Read g off len via) i = absurd i
says_unlink (Stat g) i = absurd i
says_unlink (Create g name) i = absurd i
says_unlink (Mkdir g name) i = absurd i
says_unlink (Lookup g name) i = absurd i
says_unlink (Readdir g) i = absurd i
says_unlink (Heal g) i = absurd i
says_unlink (SetAttr g attr) i = absurd i
says_unlink (GetAttr g) i = absurd i
says_unlink (Rename old name new to) i = absurd i
says_unlink (Rmdir g name) i = absurd i
says_unlink (Scrub g settle) i = absurd i
says_unlink (Sweep full) i = absurd i
