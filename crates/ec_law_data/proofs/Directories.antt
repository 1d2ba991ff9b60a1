-- Bricks that stand for a tree stand for each directory of it.
use Rattle.std.specs.Option.{option_map}
use Rattle.std.proofs.Common.{◌≡◌, ℕ, ◌<◌, Bool, true, false, not, cond, ◌==◌, ◌&&◌, Option, Some, None, refl, sym, ◌∙◌, ap, subst, arith}
use Rattle.std.specs.Prelude.{nat_lt}
use Rattle.std.proofs.lemmas.Bool.Decides.{nat_tests}
use Rattle.ec_attr.specs.Marks.{is_marked, stripped}
use Rattle.ec_attr.specs.declared.attr.Attr.{Attr}
use Rattle.ec_attr.specs.declared.config.Config.{Config}
use Rattle.ec_attr.specs.declared.kind.Child.{Child}
use Rattle.ec_brick.specs.State.{State as Brick}
use Rattle.ec_conduct.specs.Given.{quorum}
use Rattle.ec_history.specs.Flat.{Flat as FlatFile, Tree}
use Rattle.ec_history.specs.Flat.Opener.{Nobody, One, Several}
use Rattle.ec_history.specs.Run.{fresh}
use Rattle.ec_history.specs.Starts.{IsStart}
use Rattle.ec_store.specs.Records.{Record, Records, head_at}
use Rattle.ec_law_base.specs.State.{Head as Seen}
use Rattle.ec_law_ballots.specs.Begin.{is_plain}
use Rattle.ec_law_pieces.specs.Laws.{Stands}
use Rattle.ec_law_net.specs.Start.{first_heads, is_new, seen_head}
use Rattle.ec_law_net.proofs.Starting.{found, starts_linked}
use Rattle.ec_law_turns.proofs.Groups.{plain}
use Rattle.ec_law_data.specs.Forms.{Shape, child_in, directory_flat, of_directory, shape_in}
use Rattle.ec_law_data.specs.Laws.{directory_begun}
use Rattle.ec_law_data.specs.Link.{HasPieces}

-- an unmarked record that the machine begins with at a version
pub at_version : (n : ℕ) (records : ℕ → Records) (g b v : ℕ) → is_plain v (first_heads n records g b) ≡ true → (r : Record) × (b < n) × (records b g ≡ Some r) × (r.head.version.content ≡ v)
at_version n records g b v e =
    let o = found n records g b (first (first_heads n records g b) e) in
    let f = subst (λ (x : Seen). is_plain v x ≡ true) o.3 e in
    (o.0, o.1, o.2, same o.0.head.version.content (unmarked (is_marked o.0.head.version.content) (stripped o.0.head.version.content) f) (version (is_marked o.0.head.version.content) (stripped o.0.head.version.content) f))
  where
    first : (h : Seen) → is_plain v h ≡ true → h.present ≡ true
    first h e = by h.present h.marked (h.version == v) e
      where
        by : (t u w : Bool) → (t && not u && w) ≡ true → t ≡ true
        by true u w e = refl
        by false u w e = absurd (cc)

    unmarked : (t : Bool) (x : ℕ) → (true && not t && (x == v)) ≡ true → t ≡ false
    unmarked t x e = grind (arith, nat_tests)

    version : (t : Bool) (x : ℕ) → (true && not t && (x == v)) ≡ true → x ≡ v
    version t x e = grind (arith, nat_tests)

    same : (x : ℕ) → is_marked x ≡ false → stripped x ≡ v → x ≡ v
    same x u e = sym (plain x u) ∙ e

-- a brick without a head has no record
pub no_record : (n : ℕ) (records : ℕ → Records) (g b : ℕ) → b < n → (first_heads n records g b).present ≡ false → records b g ≡ None
no_record n records g b lt e = by (records b g) refl (nat_lt b n) refl e
  where
    by : (o : Option Record) → records b g ≡ o → (t : Bool) → nat_lt b n ≡ t → (first_heads n records g b).present ≡ false → records b g ≡ None
    by None is t u e = is
    by (Some r) is true u e = absurd (let x = sym (ap (λ (t : Bool). (cond t (seen_head (head_at (records b) g)) (seen_head None)).present) u ∙ ap (λ (o : Option Record). (seen_head (option_map (λ (r : Record). r.head) o)).present) is) ∙ e in cc)
    by (Some r) is false u e = absurd (grind (arith, nat_tests))

module _ (config : Config) (records : ℕ → Records) (bricks : ℕ → Brick) (tree : Tree) (next g : ℕ) (start : IsStart config records bricks tree next) where
  pub positive : 0 < quorum config.geometry
  positive = let h = config.geometry.least in omega (arith, h)

  pub shut : (t : Bool) → cond t Several Nobody ≡ Nobody → t ≡ false
  shut false e = refl
  shut true e = absurd (cc)

  pub no_one : (t : Bool) (c : ℕ) → cond t Several Nobody ≡ One c → ⊥
  no_one true c e = cc
  no_one false c e = cc

  abbrev pub shape : ℕ → Attr → Shape
  shape x a = record { size = x; attr = a }

  pub alike : (x y : ℕ) (a b : Attr) → x ≡ y → a ≡ b → shape x a ≡ shape y b
  alike x y a b e h = ap (λ (z : ℕ). shape z a) e ∙ ap (λ (z : Attr). shape y z) h

  abbrev pub directory_stands : Stands of_directory.form config.geometry.n (quorum config.geometry) (directory_flat (tree g)) (first_heads config.geometry.n records g) (is_new config.geometry.n records g) (λ b. shape_in (records b g)) (λ b. child_in (records b g))
  directory_stands = record {
    standing = (starts_linked config records bricks tree next g (λ a. a) positive start).standing;
    shapes = λ b e. let o = at_version config.geometry.n records g b (tree g).version e in let h = (start.stand g).heads b o.0 o.1 o.2 o.3 in ap shape_in o.2 ∙ alike o.0.head.size (tree g).size o.0.head.attr (tree g).attr h.size h.attr;
    value = λ n. (tree g).child n;
    closed = λ n e. record {
      codes = λ b h. let o = at_version config.geometry.n records g b (tree g).version h in ap (λ (x : Option Record). child_in x n) o.2 ∙ (start.stand g).content.names b o.0 n o.1 o.2 o.3 (shut ((tree g).is_name_open n) e);
      units = λ i u h. some_same ((tree g).child n) u h;
    };
    past = λ n e h. absurd (cc);
    blank = λ e n. ap (λ (f : FlatFile). f.child n) (start.elsewhere g (λ b lt. no_record config.geometry.n records g b lt (((starts_linked config records bricks tree next g (λ a. a) positive start).standing.none e).1 b)));
    unopened = λ n c e. no_one ((tree g).is_name_open n) c e;
  }
    where
      some_same : (x y : Option Child) → Some x ≡ Some y → x ≡ y
      some_same x y e = cc

  pub directory_pieces : HasPieces of_directory config.geometry.n g (fresh bricks) (directory_begun config records tree g)
  directory_pieces b r lt is n = ap (λ (o : Option Record). child_in o n) (sym (ap (λ (z : Records). z g) (start.opened b lt).kept) ∙ is)
