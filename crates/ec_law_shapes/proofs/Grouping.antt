-- The shape of a turn's group: a version has one shape, so what one brick of the group told is that of all, and what the turn took.
use Rattle.std.proofs.Common.{◌≡◌, ◌⊎◌, ℕ, zero, suc, ◌+◌, ◌*◌, ◌<◌, ◌≤◌, Bool, true, false, Option, Some, None, List, [], ◌∷◌, ◌++◌, refl, sym, ◌∙◌, ap, subst, arith, inl, inr, ⊎_elim}
use Rattle.std.proofs.lemmas.Bool.Decides.{nat_tests}
use Rattle.std.specs.Option.{option_map}
use Rattle.ec_attr.proofs.Sets.{bricks_in, bricks_none, bricks_out}
use Rattle.ec_attr.specs.Bricks.{bricks_below}
use Rattle.ec_attr.specs.GoodGroup.{greatest_dirty}
use Rattle.ec_attr.specs.Head.{with_dirty}
use Rattle.ec_attr.specs.Marks.{is_marked}
use Rattle.ec_attr.specs.declared.geometry.Geometry.{Geometry}
use Rattle.ec_attr.specs.declared.gfid.Gfid.{Gfid}
use Rattle.ec_attr.specs.declared.head.Head.{Head}
use Rattle.ec_wire.specs.declared.message.Message.{Message}
use Rattle.ec_wire.specs.declared.reply.Reply.TheVariants.{Head as HeadIs}
use Rattle.ec_wire.specs.declared.request.Request.{Request}
use Rattle.ec_wire.specs.declared.request.Request.TheVariants.{Query}
use Rattle.ec_conduct.specs.Account.{Account, Exchange, gfid_of}
use Rattle.ec_conduct.specs.Done.{is_query}
use Rattle.ec_conduct.specs.Given.{Given, quorum}
use Rattle.ec_conduct.specs.Group.{Heads, first_head, good_group, group_head, is_good}
use Rattle.ec_conduct.specs.Opened.{account}
use Rattle.ec_history.specs.Accounts.{Books}
use Rattle.ec_history.specs.Run.{Net}
use Rattle.ec_law_base.specs.State.{Ballot, Head as Seen, State, target}
use Rattle.ec_law_ballots.specs.Act.{step as act_step}
use Rattle.ec_law_ballots.specs.Act.Act.{Choose}
use Rattle.ec_law_ballots.specs.Guard.{IsCommitted, May}
use Rattle.ec_law_ballots.specs.Words.{group}
use Rattle.ec_law_quorum.specs.Wide.{Inv, Promised}
use Rattle.ec_law_quorum.proofs.Laws.{inv_step}
use Rattle.ec_law_pieces.specs.Clauses.{Good}
use Rattle.ec_law_pieces.specs.File.{File, Form}
use Rattle.ec_law_pieces.proofs.Known.{commit_number, commit_promised, number_of, one_turn, real_commit}
use Rattle.ec_law_net.specs.Start.{seen_head}
use Rattle.ec_law_net.specs.Turns.{View}
use Rattle.ec_law_turns.specs.Follows.{All, IsOfTurn}
use Rattle.ec_law_turns.specs.Known.{Known}
use Rattle.ec_law_turns.specs.Shown.{IsOver, Shown, group_in, heads_in}
use Rattle.ec_law_turns.proofs.Basics.{some_is}
use Rattle.ec_law_turns.proofs.Groups.{plain, unmarked}
use Rattle.ec_law_turns.proofs.Windows.{all_both, head_one}
use Rattle.ec_law_data.specs.Forms.{Shape}
use Rattle.ec_law_shapes.specs.Shapes.{IsShape, ReplyIs, Spread, TellsShape, head_shape}

-- ## A version has one shape

module _ {P V C U S : Type 0} (form : Form P V C U S) (n k : ℕ) (most : n < k + k) (fits : k ≤ n) (f : File P V C U S) (i : Inv n k f.heads) (g : Good form n k f) where
  -- a version on which a ballot may stand is that of no head that is stale
  pub not_stale : (v : ℕ) → (v ≡ f.heads.origin) ⊎ ((c : ℕ) × IsCommitted n k f.heads c × (target (f.heads.ballot c) ≡ v)) → (f.heads.old v ≡ true) ⊎ (v < f.heads.origin) → ⊥
  not_stale v known (inr low) = ⊎_elim (λ z. omega (arith, z, low)) (λ c. let o = (i.wide.origin_le c.0 (commit_number form n k most fits f i g c.0 c.1)).0 in let t = c.2 in omega (arith, o, t, low)) known
  not_stale v known (inl was_old) = ⊎_elim high committed known
    where
      target_is : target (f.heads.ballot v) ≡ v
      target_is = i.wide.old_target v was_old

      promised_old : Promised n k f.heads v
      promised_old = (i.wide.old_promised v was_old, λ r. absurd (cc))

      high : v ≡ f.heads.origin → ⊥
      high z = let q = number_of form n k most fits f i g v promised_old in let o = (i.wide.origin_le v q).1 was_old in let t = target_is in omega (arith, q, o, t, z)

      committed : (c : ℕ) × IsCommitted n k f.heads c × (target (f.heads.ballot c) ≡ v) → ⊥
      committed c =
          let q = one_turn form n k most fits f i g c.0 v (commit_promised form n k most fits f i g c.0 c.1) promised_old (c.2 ∙ sym target_is) in
          let r = real_commit form n k most fits f i g c.0 c.1 in
          let w = subst (λ (z : ℕ). f.heads.old z ≡ true) (sym q) was_old in
          cc

  -- what was told of such a version
  pub told_shape : (a b : ℕ) (h : Seen) → f.heads.seen a b ≡ Some h → h.present ≡ true → h.marked ≡ false → (v : ℕ) → h.version ≡ v → (v ≡ f.heads.origin) ⊎ ((c : ℕ) × IsCommitted n k f.heads c × (target (f.heads.ballot c) ≡ v)) → f.told a b ≡ f.shape_of v
  told_shape a b h seen there clear v is known = ⊎_elim (λ e. e ∙ ap f.shape_of is) (λ bad. absurd (not_stale v known (subst (λ (z : ℕ). (f.heads.old z ≡ true) ⊎ (z < f.heads.origin)) is bad))) (g.told_is a b h seen there clear)

  -- and the shape of a record at the base of a turn
  pub base_shape : (a b : ℕ) → 0 < (f.heads.ballot a).number → f.heads.old a ≡ false → f.heads.present b ≡ true → f.heads.marked b ≡ false → f.heads.version b ≡ (f.heads.ballot a).base → f.shape b ≡ f.took a
  base_shape a b number real there clear at = by (f.stale b) refl
    where
      by : (t : Bool) → f.stale b ≡ t → f.shape b ≡ f.took a
      by false e = g.shape_here b there e ∙ (ap f.shape_of at ∙ sym (g.took_is a number real))
      by true e = absurd (not_stale (f.heads.ballot a).base (i.wide.chosen a number) (subst (λ (z : ℕ). (f.heads.old z ≡ true) ⊎ (z < f.heads.origin)) at (g.stale_is b there e clear)))

  -- the base of a ballot that may be taken
  pub base_then : (x : ℕ) (p : Ballot) → May n k f.heads (Choose x p) → (p.base ≡ f.heads.origin) ⊎ ((c : ℕ) × IsCommitted n k f.heads c × (target (f.heads.ballot c) ≡ p.base))
  base_then x p may = ⊎_elim (λ z. inl (sym mine ∙ z)) (λ c. inr (c.0, c.1, ap target (kept_ballot f.heads x p c.0 (commit_number form n k most fits f i g c.0 c.1) may.0) ∙ (c.2 ∙ mine))) (j.wide.chosen x numbered')
    where
      j : Inv n k (act_step f.heads (Choose x p))
      j = inv_step n k most fits f.heads (Choose x p) may i

      mine : ((act_step f.heads (Choose x p)).ballot x).base ≡ p.base
      mine = own f.heads x p
        where
          own : (s : State) (x : ℕ) (p : Ballot) → ((act_step s (Choose x p)).ballot x).base ≡ p.base
          own s x p = grind (arith, nat_tests)

      numbered' : 0 < ((act_step f.heads (Choose x p)).ballot x).number
      numbered' = own f.heads x p may.1
        where
          own : (s : State) (x : ℕ) (p : Ballot) → 0 < p.number → 0 < ((act_step s (Choose x p)).ballot x).number
          own s x p h = grind (arith, nat_tests)

      kept_ballot : (s : State) (x : ℕ) (p : Ballot) (c : ℕ) → 0 < (s.ballot c).number → (s.ballot x).number ≡ 0 → s.ballot c ≡ (act_step s (Choose x p)).ballot c
      kept_ballot s x p c h z = grind (arith, nat_tests)

-- ## The head of a group

first_in : (n : ℕ) (p : ℕ → Bool) (heads : Heads) (h : Head) → first_head heads (bricks_below n p) ≡ Some h → (b : ℕ) × (p b ≡ true) × (heads b ≡ Some h)
first_in zero p heads h e = absurd (let x = subst (λ (bs : List ℕ). first_head heads bs ≡ Some h) (bricks_none p) e in cc)
first_in (suc n) p heads h e = at (p n) refl (first_in n p heads h)
  where
    ends : (bs : List ℕ) → first_head heads (bs ++ n ∷ []) ≡ Some h → (first_head heads bs ≡ Some h) ⊎ (heads n ≡ Some h)
    ends [] f = inr f
    ends (b ∷ bs) f = inl f

    at : (t : Bool) → p n ≡ t → (first_head heads (bricks_below n p) ≡ Some h → (b : ℕ) × (p b ≡ true) × (heads b ≡ Some h)) → (b : ℕ) × (p b ≡ true) × (heads b ≡ Some h)
    at false f rest = rest (subst (λ (xs : List ℕ). first_head heads xs ≡ Some h) (bricks_out n p f) e)
    at true f rest = ⊎_elim (λ x. rest x) (λ x. (n, f, x)) (ends (bricks_below n p) (subst (λ (xs : List ℕ). first_head heads xs ≡ Some h) (bricks_in n p f) e))

-- a brick of the group, with an unmarked head of the group's version and shape
pub record OfGroup (heads : Heads) (q : Head) : Type 0 where
  pub brick : ℕ
  pub head : Head
  pub is : heads brick ≡ Some head
  pub clear : is_marked head.version.content ≡ false
  pub version : q.version.content ≡ head.version.content
  pub shape : head_shape q ≡ head_shape head

pub of_group : (geometry : Geometry) (heads : Heads) (q : Head) → group_head geometry.n (quorum geometry) heads ≡ Some q → OfGroup heads q
of_group geometry heads q group = at (first_head heads (good_group geometry.n (quorum geometry) heads)) refl group
  where
    positive : 0 < quorum geometry
    positive = let h = geometry.least in omega (arith, h)

    half : geometry.n < 2 * quorum geometry
    half = let h = geometry.majority in omega (arith, h)

    at : (o : Option Head) → first_head heads (good_group geometry.n (quorum geometry) heads) ≡ o → option_map (with_dirty (greatest_dirty heads (is_good geometry.n (quorum geometry) heads))) o ≡ Some q → OfGroup heads q
    at None f e = absurd (cc)
    at (Some h) f e =
        let o = first_in geometry.n (is_good geometry.n (quorum geometry) heads) heads h f in
        let same = sym (some_is (with_dirty (greatest_dirty heads (is_good geometry.n (quorum geometry) heads)) h) q e) in
        let u = unmarked geometry.n (quorum geometry) heads geometry.bricks positive half o.0 o.1 in
        record {
          brick = o.0;
          head = h;
          is = o.2;
          clear = ap (λ (x : Head). is_marked x.version.content) (some_is h u.0 (sym o.2 ∙ u.1)) ∙ u.2;
          version = ap (λ (x : Head). x.version.content) same;
          shape = ap head_shape same;
        }

-- ## What a call has heard

query_is : (q : Request) → is_query q ≡ true → (x : Gfid) × (n : ℕ) × (q ≡ Query x n)
query_is (Query x n) e = (x, n, refl)
query_is q e = absurd (cc)

module _ (geometry : Geometry) (g : ℕ) (m : Net) (v : View) (b : Books) (known : Known geometry g m v b) (shown : Shown geometry g m.said m.next v.turn v.of m.owed v.core b) (s : State) (told : ℕ → ℕ → Shape) (spread : Spread (IsShape g m.said m.flying v.of s told) m b) (a : ℕ) (given : Given) (is : b.given a ≡ Some given) where
  abbrev c : Account
  c = account given (b.own a)

  abbrev Past : ℕ → Exchange → Type 0
  Past x e = (IsOfTurn m.said v.turn v.of a x e.number e.request × IsOver g m.said v.of v.core e) × ReplyIs (IsShape g m.said m.flying v.of s told) e

  past : (x : ℕ) → All (Past x) ((c.on g).place x).window
  past x = all_both (λ e. IsOfTurn m.said v.turn v.of a x e.number e.request × IsOver g m.said v.of v.core e) (ReplyIs (IsShape g m.said m.flying v.of s told)) ((c.on g).place x).window
      (all_both (λ e. IsOfTurn m.said v.turn v.of a x e.number e.request) (IsOver g m.said v.of v.core) ((c.on g).place x).window ((known.calls a given is).window x) ((shown.calls a given is).window x))
      (spread.heard a given is g x)

  -- a head that was heard has the shape that the turn was told
  pub heard_shape : (x t : ℕ) (h : Head) (seen : Seen) → heads_in (c.on g) x ≡ Some h → v.turn a ≡ Some t → s.seen t x ≡ Some seen → is_marked h.version.content ≡ false → told t x ≡ head_shape h
  heard_shape x t h seen e has saw clear =
      let o = head_one (Past x) is_query h ((c.on g).place x).window (past x) e in
      let u = query_is o.e.request o.so.0 in
      let on = some_is u.0.0 g (sym (ap gfid_of u.2) ∙ o.all.0.1.on) in
      let said = o.all.0.0.0 in
      let r = o.all.1 (HeadIs h) o.so.1 in
      let same = some_is r.message said.message (sym r.is ∙ said.is) in
      let turn = some_is (v.of o.e.number) t (sym o.all.0.0.1 ∙ has) in
      let tells = subst (λ (z : Request). TellsShape g s told (v.of o.e.number) r.message.brick z (HeadIs h)) u.2 (r.at o.e.request (ap (λ (y : Message). y.body) same ∙ said.body)) on in
      by (subst (λ (z : ℕ). (s.seen t z ≡ None) ⊎ (is_marked h.version.content ≡ false → told t z ≡ head_shape h)) (ap (λ (y : Message). y.brick) same ∙ said.brick) (subst (λ (z : ℕ). (s.seen z r.message.brick ≡ None) ⊎ (is_marked h.version.content ≡ false → told z r.message.brick ≡ head_shape h)) turn tells))
    where
      by : (s.seen t x ≡ None) ⊎ (is_marked h.version.content ≡ false → told t x ≡ head_shape h) → told t x ≡ head_shape h
      by (inl none) = absurd (let z = sym saw ∙ none in cc)
      by (inr k) = k clear

  -- one brick of the group that the turn took showed the machine the group's version, and told the group's shape
  pub record Shows (t : ℕ) (head : Head) : Type 0 where
    pub brick : ℕ
    pub seen : Seen
    pub saw : s.seen t brick ≡ Some seen
    pub there : seen.present ≡ true
    pub clear : seen.marked ≡ false
    pub version : seen.version ≡ head.version.content
    pub told_it : told t brick ≡ head_shape head

  pub group_shows : (t : ℕ) (head : Head) → v.turn a ≡ Some t → group_in geometry (c.on g) ≡ Some head → ((x : ℕ) (h : Head) → heads_in (c.on g) x ≡ Some h → s.seen t x ≡ Some (seen_head (Some h))) → Shows t head
  group_shows t head has group seen =
      let o = of_group geometry (heads_in (c.on g)) head group in
      let saw = seen o.brick o.head o.is in
      record {
        brick = o.brick;
        seen = seen_head (Some o.head);
        saw = saw;
        there = refl;
        clear = o.clear;
        version = plain o.head.version.content o.clear ∙ sym o.version;
        told_it = heard_shape o.brick t o.head (seen_head (Some o.head)) o.is has saw o.clear ∙ sym o.shape;
      }
