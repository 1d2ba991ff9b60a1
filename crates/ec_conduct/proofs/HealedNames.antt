-- A heal of a directory: the names that its sink gets.
use Rattle.std.proofs.Common.{◌≡◌, inl, inr, ℕ, ◌+◌, ◌≤◌, ◌==◌, cond, not, Bool, true, false, refl, sym, subst, lit≤, arith, List, [], Option, Some, None}
use Rattle.std.proofs.lemmas.Bool.Decides.{nat_tests}
use Rattle.ec_attr.specs.Bricks.{bricks_below, count_below}
use Rattle.ec_attr.specs.GoodGroup.{agree, greatest_below, same_kind}
use Rattle.ec_attr.specs.Marks.{marked}
use Rattle.ec_attr.specs.declared.head.Head.{Head}
use Rattle.ec_attr.specs.declared.kind.Child.{Child}
use Rattle.ec_attr.specs.declared.kind.Kind.{Kind}
use Rattle.ec_attr.specs.declared.kind.Kind.TheVariants.{File, Dir}
use Rattle.ec_store.specs.Pages.{Page}
use Rattle.ec_store.specs.Records.{listed}
use Rattle.ec_wire.specs.declared.op.Op.TheVariants.{Heal}
use Rattle.ec_wire.specs.declared.request.Request.TheVariants.{NamesPut, Unmark}
use Rattle.ec_conduct.specs.Account.{Account}
use Rattle.ec_conduct.specs.Changes.{same_child}
use Rattle.ec_conduct.specs.Conduct.{MaySend}
use Rattle.ec_conduct.specs.Copies.{IsCopied, page_at, tells}
use Rattle.ec_conduct.specs.Examples.{begun, file, later_directory, listed_heal, name_f, new_child, page_f, put_heal}
use Rattle.ec_conduct.specs.Group.{has}
use Rattle.ec_conduct.specs.Opened.{account}
use Rattle.ec_conduct.proofs.Examples.{each, free}
use Rattle.ec_conduct.proofs.Refusals.{differ, some_head}

abbrev listed_account : Account
listed_account = account (begun (Heal file)) (listed_heal page_f)

abbrev put_account : Account
put_account = account (begun (Heal file)) put_heal

kind_self : (k : Kind) → same_kind k k ≡ true
kind_self File = refl
kind_self Dir = refl

number_self : (a : ℕ) → (a == a) ≡ true
number_self a = grind (arith, nat_tests)

child_self : (o : Option Child) → same_child o o ≡ true
child_self None = refl
child_self (Some child) = rw (kind_self child.kind, number_self child.gfid.0) refl

two_of : (f : ℕ → Bool) → f 0 ≡ true → f 1 ≡ true → 2 ≤ count_below 3 f
unfolding count_below
two_of f a b = rw (a, b) (two (f 2))
  where
    two : (u : Bool) → 2 ≤ 0 + 1 + 1 + cond u 1 0
    two true = lit≤ tt
    two false = lit≤ tt

one_page : (page : Page) (name : List ℕ) → Some page_f ≡ Some page → tells None page name ≡ true
one_page page name e = subst (λ p. tells None p name ≡ true) (some_page page e) refl
  where
    some_page : (page : Page) → Some page_f ≡ Some page → page_f ≡ page
    some_page page e = cc

no_page : (page : Page) (name : List ℕ) → None ≡ Some page → tells None page name ≡ true
no_page page name e = absurd (cc)

pub names_allowed : MaySend listed_account 2 (NamesPut file 5 None None page_f)
unfolding bricks_below count_below agree greatest_below
names_allowed = (
  free _ _ _ (refl, lit≤ tt, refl, refl),
  record {
    rebuild = record { heal_held = refl; locked = refl; answered = each _ refl refl refl; marked = refl };
    quorum = record { which = λ x. not (x == 2); enough = lit≤ tt; each = each _ (λ e. refl) (λ e. refl) (λ e. absurd (differ e)) };
    told = each _ (λ page e name i. one_page page name e) (λ page e name i. one_page page name e) (λ page e name i. no_page page name e);
    names = λ name i. inl (two_of (λ x. has (λ page. same_child (listed page name) (listed page_f name)) (page_at listed_account 2 None x)) (child_self (listed page_f name)) (child_self (listed page_f name)));
  },
)

pub other_names_refused : MaySend listed_account 2 (NamesPut file 5 None None []) → ⊥
unfolding bricks_below count_below agree greatest_below
other_names_refused m = elim (m.1.names name_f refl) [ inl e ↦ absurd (omega (arith, e)) | inr e ↦ (let f = e.0 (Some new_child) in absurd (omega (arith, f))) ]

directory_copied : (c : Account) (head : Head) → later_directory ≡ head → IsCopied c 2 2 head head.kind → IsCopied c 2 2 later_directory Dir
directory_copied c head e k = subst (λ (h : Head). IsCopied c 2 2 h h.kind) (sym e) k

pub unput_refused : MaySend listed_account 2 (Unmark file 5 (marked 1) 1) → ⊥
unfolding bricks_below count_below agree greatest_below
unput_refused m = differ (directory_copied listed_account m.1.head (some_head later_directory m.1.head m.1.group) m.1.copied name_f)

pub put_allowed : MaySend put_account 2 (Unmark file 5 (marked 1) 1)
unfolding bricks_below count_below agree greatest_below
put_allowed = (free _ _ _ (refl, lit≤ tt, refl, refl), record { rebuild = record { heal_held = refl; locked = refl; answered = each _ refl refl refl; marked = refl }; once = refl; head = later_directory; group = refl; version_is = refl; dirty_is = refl; following = refl; copied = λ name. refl })
