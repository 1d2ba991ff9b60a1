-- Each record at the flat version has the flat size and the flat attribute, after every log.
use Rattle.std.proofs.Common.{◌≡◌, ℕ, ◌+◌, ◌^◌, ◌<◌, ◌≤◌, Bool, true, false, not, cond, ◌==◌, ◌&&◌, Option, Some, None, List, [], ◌∷◌, refl, sym, ◌∙◌, ap, subst, arith}
use Rattle.std.proofs.lemmas.Bool.Decides.{nat_tests}
use Rattle.std.specs.Option.{option_map}
use Rattle.ec_attr.specs.Marks.{is_marked, stripped}
use Rattle.ec_attr.specs.declared.attr.Attr.{Attr}
use Rattle.ec_attr.specs.declared.config.Config.{Config}
use Rattle.ec_attr.specs.declared.head.Head.{Head}
use Rattle.ec_attr.specs.declared.kind.Kind.{Kind}
use Rattle.ec_brick.specs.State.{State as Brick}
use Rattle.ec_conduct.specs.Given.{quorum}
use Rattle.ec_history.specs.Accounts.{books, no_books}
use Rattle.ec_history.specs.Flat.{Flat as FlatFile, Tree, from_before}
use Rattle.ec_history.specs.Flat.Opener.{Nobody}
use Rattle.ec_history.specs.IsRun.{IsRun}
use Rattle.ec_history.specs.Run.{Net, after as net_after, fresh, run}
use Rattle.ec_history.specs.Starts.{IsStart}
use Rattle.ec_history.specs.Story.{opening, story}
use Rattle.ec_store.specs.Records.{Record, Records, head_at}
use Rattle.ec_wire.specs.declared.entry.Entry.{Entry}
use Rattle.ec_wire.specs.declared.message.Body.TheVariants.{ToBrick}
use Rattle.ec_wire.specs.declared.request.Request.{Request}
use Rattle.ec_wire.specs.declared.request.Request.TheVariants.{PostOp}
use Rattle.ec_law_base.specs.State.{State}
use Rattle.ec_law_ballots.specs.Begin.{is_plain}
use Rattle.ec_law_ballots.specs.Words.{head}
use Rattle.ec_law_pieces.specs.File.{Flat}
use Rattle.ec_law_pieces.specs.Laws.{Stands}
use Rattle.ec_law_pieces.proofs.Standing.{one_shape_at}
use Rattle.ec_law_net.specs.Link.{IsHead, Linked}
use Rattle.ec_law_net.specs.Start.{first_heads, is_new}
use Rattle.ec_law_net.specs.Turns.{View, seen_after, view}
use Rattle.ec_law_net.proofs.Starting.{starts_linked}
use Rattle.ec_law_turns.specs.Laws.{Always}
use Rattle.ec_law_turns.specs.Orderly.{ArePlain, IsOrderly}
use Rattle.ec_law_turns.proofs.Basics.{some_is, some_none}
use Rattle.ec_law_turns.proofs.Groups.{plain as plain_version}
use Rattle.ec_law_turns.proofs.Origins.{unversioned}
use Rattle.ec_law_data.specs.Deeds.{file}
use Rattle.ec_law_data.specs.Forms.{Shape, shape_in}
use Rattle.ec_law_data.specs.Laws.{begun, begun_file}
use Rattle.ec_law_data.proofs.Directories.{at_version}
use Rattle.ec_law_data.proofs.OrderlyDeeds.{all_reach}
use Rattle.ec_law_data.proofs.Reaching.{Reaches, reaches_start}
use Rattle.ec_law_heads.specs.Laws.{MakesOneKind, copies_after, flat_after}
use Rattle.ec_law_heads.proofs.Bounds.{has_limit}
use Rattle.ec_law_heads.proofs.Logs.{head_laws}
use Rattle.ec_law_shapes.specs.Shadows.{Bare, bare_form, of_shapes}
use Rattle.ec_law_shapes.specs.Shapes.{head_shape, shape_after}
use Rattle.ec_law_shapes.proofs.Logs.{laws as shape_laws}
use Rattle.ec_law_sizes.specs.Records.{OneKindAndTurn, RecordSizeLaws}
use Rattle.ec_law_sizes.specs.Sizes.{tree_shape}
use Rattle.ec_law_sizes.proofs.Choosing.{ShapePlans}
use Rattle.ec_law_sizes.proofs.Extending.{Extends, Has, extended, post_is, shapes_fit, whole}
use Rattle.ec_law_sizes.proofs.NewShapes.{makes_are, new_shape}
use Rattle.ec_law_sizes.proofs.Logs.{part_log}
use Rattle.ec_law_sizes.proofs.Beginning.{first_unmade, no_ballot}
use Rattle.ec_law_sizes.proofs.Marked.{Frozen, NoPosts, frozen}
use Rattle.ec_law_sizes.proofs.Steps.{IsPart}
use Rattle.ec_law_sizes.proofs.Telling.{shown_of}
use Rattle.ec_law_sizes.proofs.Walking.{Ends, MakesAre}

-- an unmarked record at a version, as the machine of versions has it
plain_there : (n g : ℕ) (m : Net) (v : View) → Linked n g m v → (b version : ℕ) (r : Record) → b < n → (m.brick b).records g ≡ Some r → is_marked r.head.version.content ≡ false → r.head.version.content ≡ version → is_plain version (head v.core b) ≡ true
plain_there n g m v l b version r lt is unmarked at =
    let h = subst (λ (o : Option Record). IsHead (option_map (λ (r : Record). r.head) o) v.core b) is (l.heads b lt) in
    tests (v.core.present b) (v.core.marked b) (v.core.version b) version h.0 (h.2 ∙ unmarked) (h.1 ∙ (plain_version r.head.version.content unmarked ∙ at))
  where
    tests : (t u : Bool) (x y : ℕ) → t ≡ true → u ≡ false → x ≡ y → (t && not u && (x == y)) ≡ true
    tests t u x y e f h = grind (arith, nat_tests)

plain_present : (v : ℕ) (s : State) (b : ℕ) → is_plain v (head s b) ≡ true → s.present b ≡ true
plain_present v s b e = by (s.present b) (s.marked b) (s.version b == v) e
  where
    by : (t u w : Bool) → (t && not u && w) ≡ true → t ≡ true
    by true u w e = refl
    by false u w e = absurd (cc)

whole_part : IsPart whole
whole_part op s h e = ap (λ (z : Shape). shape_after op z) e

module _ (config : Config) (records : ℕ → Records) (bricks : ℕ → Brick) (tree : Tree) (next g : ℕ) (es : List Entry) (start : IsStart config records bricks tree next) (runs : IsRun config.geometry.n es (fresh bricks)) (plain : ArePlain es) (orderly : IsOrderly config.geometry es (fresh bricks) (opening tree next)) (steady : OneKindAndTurn config records bricks tree next g es) where
  abbrev n : ℕ
  n = config.geometry.n

  abbrev q' : ℕ
  q' = quorum config.geometry

  abbrev m : Net
  m = run es (fresh bricks)

  abbrev v : View
  v = view g es (fresh bricks) (begun config records tree next g)

  abbrev new : Shape
  new = new_shape g (run es (fresh bricks))

  most : config.geometry.n < quorum config.geometry + quorum config.geometry
  most = let h = config.geometry.majority in omega (arith, h)

  positive : 0 < quorum config.geometry
  positive = let h = config.geometry.least in omega (arith, h)

  abbrev first_flat : Flat ⊥ (Unit {0}) Shape
  first_flat = record { version = (tree g).version; shape = tree_shape (tree g); unit = λ p i. None; opener = λ p. Nobody }

  alike : (x y : ℕ) (a b : Attr) → x ≡ y → a ≡ b → ◌≡◌ {A = Shape} (record { size = x; attr = a }) (record { size = y; attr = b })
  alike x y a b e h = ap (λ (z : ℕ). record { size = z; attr = a }) e ∙ ap (λ (z : Attr). record { size = y; attr = z }) h

  stands : Stands bare_form n q' first_flat (first_heads config.geometry.n records g) (is_new config.geometry.n records g) (λ b. shape_in (records b g)) (λ b p. tt)
  stands = record {
    standing = (starts_linked config records bricks tree next g (λ a. a) positive start).standing;
    shapes = λ b e. let o = at_version config.geometry.n records g b (tree g).version e in let h = (start.stand g).heads b o.0 o.1 o.2 o.3 in ap shape_in o.2 ∙ alike o.0.head.size (tree g).size o.0.head.attr (tree g).attr h.size h.attr;
    value = λ p. tt;
    closed = λ p. absurd p;
    past = λ p. absurd p;
    blank = λ e p. refl;
    unopened = λ p. absurd p;
  }

  abbrev f0 : Bare
  f0 = begun_file (of_shapes new) config records g first_flat (λ b. shape_in (records b g)) (λ b p. tt) stands.value

  begin_reaches : Reaches config.geometry next (λ h. (tree h).version) (fresh bricks) (λ h. begun config records tree next h) (opening tree next) no_books
  begin_reaches = reaches_start config records bricks tree next (λ a. a) most start

  end_reaches : Reaches config.geometry next (λ h. (tree h).version) m (λ h. view h es (fresh bricks) (begun config records tree next h)) (story config.geometry es (fresh bricks) (opening tree next)) (books config.geometry orderly.left es (fresh bricks) (opening tree next) no_books)
  end_reaches = all_reach config.geometry orderly.left orderly.none_kept next (λ h. (tree h).version) (λ h le. unversioned config records bricks tree next h start le) es (fresh bricks) (λ h. begun config records tree next h) (opening tree next) no_books runs plain (λ a given h. (orderly.conduct a given h, orderly.order a given h)) begin_reaches

  at_end : (law : Net → View → Type 0) (es : List Entry) (m : Net) (v : View) → Always law g es m v → law (run es m) (view g es m v)
  at_end law [] m v h = h
  at_end law (e ∷ es) m v h = at_end law es (net_after m e) (seen_after g m v e) h.1

  makes : MakesAre whole new g m
  makes = makes_are config.geometry g m v (books config.geometry orderly.left es (fresh bricks) (opening tree next) no_books) (end_reaches.reached g) (at_end (MakesOneKind g) es (fresh bricks) (begun config records tree next g) steady.one_kind)

  first_plans : ShapePlans
  first_plans = record { took = λ a. new; plan = λ a. record { covers = λ p. false; sets = λ p i. None; value = λ p. tt; becomes = new } }

  has : Has new config.geometry orderly.left orderly.none_kept next (λ h. (tree h).version) (λ h le. unversioned config records bricks tree next h start le) g first_plans (fresh bricks) (λ h. begun config records tree next h) no_books f0
  has = record {
    heads = refl;
    shapes = (shape_laws (of_shapes new) (shapes_fit new)).begin first_plans config records bricks tree next g orderly.left start first_flat (λ b p. tt) stands refl;
    parts = λ i x q is body on. absurd (some_none x (sym is));
    ops = λ a given is. absurd (some_none given (sym is));
    becomes = λ a h. absurd (cc);
    took = no_ballot whole (of_shapes new) first_plans config records bricks tree next g start first_flat (λ b p. tt) stands refl refl;
  }

  planned : Extends new config.geometry orderly.left orderly.none_kept next (λ h. (tree h).version) (λ h le. unversioned config records bricks tree next h start le) g first_plans es (fresh bricks) (begun config records tree next g) (opening tree next) no_books f0
  planned = extended new config.geometry orderly.left orderly.none_kept next (λ h. (tree h).version) (λ h le. unversioned config records bricks tree next h start le) g es (fresh bricks) (λ h. begun config records tree next h) (opening tree next) no_books f0 first_plans runs plain (λ a given h. (orderly.conduct a given h, orderly.order a given h)) begin_reaches has makes

  ends : Ends (tree g).version whole (of_shapes new) planned.plans config.geometry g m v (story config.geometry es (fresh bricks) (opening tree next)) (file (of_shapes new) planned.plans n q' g es (fresh bricks) (begun config records tree next g) f0)
  ends = (part_log whole whole_part (of_shapes new) planned.plans config records bricks tree next g es start runs plain orderly steady.one_turn first_flat (λ b p. tt) stands refl refl planned.owe makes planned.parts).1

  abbrev x : FlatFile
  x = (story config.geometry es (fresh bricks) (opening tree next)).tree g

  abbrev z : Bare
  z = ends.machine

  -- the machine has the heads of the bricks
  core : z.heads ≡ v.core
  core = ends.beside.is.heads ∙ planned.shapes.follow.heads

  pub record_sized : (b : ℕ) (r : Record) → b < config.geometry.n → copies_after es bricks g b ≡ Some r → is_marked r.head.version.content ≡ false → r.head.version.content ≡ (flat_after config es bricks tree next g).version → head_shape r.head ≡ tree_shape (flat_after config es bricks tree next g)
  record_sized b r lt is unmarked at =
      sym here ∙ (sym (ap (λ (s : ℕ → Shape). s b) ends.beside.is.shape) ∙ (one_shape_at bare_form n q' most (omega arith) z ends.beside.inv ends.beside.good b there ∙ (sym (ap (λ (t : Bool). cond t z.flat.shape new) making) ∙ (ends.track.shape ∙ kind x.kind refl))))
    where
      plainly : is_plain x.version (head v.core b) ≡ true
      plainly = plain_there n g m v (end_reaches.reached g).linked b x.version r lt is unmarked at

      there : is_plain z.flat.version (head z.heads b) ≡ true
      there = subst (λ (s : State). is_plain z.flat.version (head s b) ≡ true) (sym core) (subst (λ (y : ℕ). is_plain y (head v.core b) ≡ true) (sym ends.track.version) plainly)

      here : (file (of_shapes new) planned.plans n q' g es (fresh bricks) (begun config records tree next g) f0).shape b ≡ head_shape r.head
      here = planned.shapes.follow.here b r.head lt (ap (option_map (λ (r : Record). r.head)) is) unmarked

      making : z.heads.making ≡ true
      making = by z.heads.making refl
        where
          by : (t : Bool) → z.heads.making ≡ t → z.heads.making ≡ true
          by true e = e
          by false e = absurd (let absent = ((ends.beside.inv.local b).not_made e).0 in let w = sym absent ∙ plain_present z.flat.version z.heads b there in cc)

      no_record : None ≡ Some r → ⊥
      no_record e = some_none r (sym e)

      kind : (o : Option Kind) → x.kind ≡ o → shown_of x.kind new (tree_shape x) ≡ tree_shape x
      kind (Some k) e = ap (λ (o : Option Kind). shown_of o new (tree_shape x)) e
      kind None e = absurd (no_record (sym ((head_laws.unmade config records bricks tree next g es start runs plain orderly tt e).1 b lt) ∙ is))

  -- ## From a marked flat version

  least : (y : ℕ) → y < 2 ^ 61 → is_marked y ≡ false
  least y lt = grind (arith, nat_tests)

  raised : (y number z : ℕ) → y + number ≡ z → z < 2 ^ 61 → y < 2 ^ 61
  raised y number z e lt = omega (arith, e, lt)

  at_most : (y z : ℕ) → y ≤ z → z < 2 ^ 61 → y < 2 ^ 61
  at_most y z le lt = omega (arith, le, lt)

  -- no turn stands on it
  no_posts : is_marked (tree g).version ≡ true → NoPosts g m
  no_posts marked i msg q said body on = post_is g q on (λ y j at to size attr same here.
      let own = body ∙ ap (λ (r : Request). ToBrick r) same in
      let told = (end_reaches.reached g).shown.asked i msg (PostOp y j at to size attr) said own here in
      let limit = has_limit config.geometry g m v (books config.geometry orderly.left es (fresh bricks) (opening tree next) no_books) (end_reaches.reached g) i msg (PostOp y j at to size attr) said own here in
      let low = raised (v.core.ballot (v.of i)).base (v.core.ballot (v.of i)).number (stripped to) told.target limit in
      let le = (ends.beside.inv.wide.origin_le (v.of i) (subst (λ (s : State). 0 < (s.ballot (v.of i)).number) (sym core) told.ballot)).0 in
      let le' = subst (λ (s : State). s.origin ≤ (s.ballot (v.of i)).base) core le in
      let origin = at_most v.core.origin (v.core.ballot (v.of i)).base le' low in
      let unmarked = least (tree g).version (subst (λ (y : ℕ). y < 2 ^ 61) (end_reaches.fresh g).same origin) in
      absurd (let w = sym unmarked ∙ marked in cc))

  record_of : (records : Records) (h : Head) → head_at records g ≡ Some h → (r : Record) × (records g ≡ Some r) × (r.head ≡ h)
  record_of records h e = by (records g) refl e
    where
      by : (o : Option Record) → records g ≡ o → option_map (λ r. r.head) o ≡ Some h → (r : Record) × (records g ≡ Some r) × (r.head ≡ h)
      by None is z = absurd (cc)
      by (Some r) is z = (r, is, some_is r.head h z)

  first_frozen : Frozen config.geometry.n g (tree g).version (tree_shape (tree g)) (fresh bricks) (from_before (tree g))
  first_frozen = record {
    at = refl;
    shown = by (tree g).kind;
    unmade = first_unmade whole (of_shapes new) first_plans config records bricks tree next g start first_flat (λ b p. tt) stands refl refl;
    heads = λ b h lt is at.
        let r = record_of (bricks b).records h is in
        let hd = (start.stand g).heads b r.0 lt (sym (ap (λ (z : Records). z g) (start.opened b lt).kept) ∙ r.1) (ap (λ (z : Head). z.version.content) r.2 ∙ at) in
        ap head_shape (sym r.2) ∙ alike r.0.head.size (tree g).size r.0.head.attr (tree g).attr hd.size hd.attr;
  }
    where
      by : (o : Option Kind) → shown_of o (tree_shape (tree g)) (tree_shape (tree g)) ≡ tree_shape (tree g)
      by None = refl
      by (Some kind) = refl

  end_frozen : is_marked (tree g).version ≡ true → Frozen config.geometry.n g (tree g).version (tree_shape (tree g)) m x
  end_frozen marked = frozen config.geometry orderly.left orderly.none_kept next (λ h. (tree h).version) (λ h le. unversioned config records bricks tree next h start le) g (tree g).version marked (tree_shape (tree g)) es (fresh bricks) (λ h. begun config records tree next h) (opening tree next) no_books runs plain (λ a given h. (orderly.conduct a given h, orderly.order a given h)) begin_reaches (no_posts marked) first_frozen

  pub each_sized : (b : ℕ) (r : Record) → b < config.geometry.n → copies_after es bricks g b ≡ Some r → r.head.version.content ≡ (flat_after config es bricks tree next g).version → head_shape r.head ≡ tree_shape (flat_after config es bricks tree next g)
  each_sized b r lt is at = by (is_marked (tree g).version) refl
    where
      kind : (shape : Shape) (o : Option Kind) → x.kind ≡ o → shown_of x.kind shape (tree_shape x) ≡ tree_shape x
      kind shape (Some k) e = ap (λ (o : Option Kind). shown_of o shape (tree_shape x)) e
      kind shape None e = absurd (some_none r (sym is ∙ (head_laws.unmade config records bricks tree next g es start runs plain orderly tt e).1 b lt))

      by : (t : Bool) → is_marked (tree g).version ≡ t → head_shape r.head ≡ tree_shape x
      by false e = record_sized b r lt is (ap is_marked at ∙ ends.track.unmarked e) at
      by true e =
          let f = end_frozen e in
          f.heads b r.head lt (ap (option_map (λ (r : Record). r.head)) is) (at ∙ f.at) ∙ (sym f.shown ∙ kind (tree_shape (tree g)) x.kind refl)

pub record_size_laws : RecordSizeLaws
record_size_laws = record {
  sized = λ config records bricks tree next g es start runs plain orderly steady b r lt is at.
      let same = each_sized config records bricks tree next g es start runs plain orderly steady b r lt is at in
      (ap (λ (s : Shape). s.size) same, ap (λ (s : Shape). s.attr) same);
}
