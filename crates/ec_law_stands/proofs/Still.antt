-- What no call changes of a gfid of another kind stays through every log: the part of the records, and that of the flat file.
use Rattle.std.proofs.Common.{◌≡◌, ◌≢◌, ◌⊎◌, ⊎_elim, ℕ, ◌+◌, ◌<◌, ◌≤◌, Bool, true, false, ◌==◌, Option, Some, None, List, [], ◌∷◌, refl, sym, ◌∙◌, ap, subst, arith, inl, inr}
use Rattle.std.specs.Option.{option_map}
use Rattle.ec_attr.specs.declared.config.Config.{Config}
use Rattle.ec_attr.specs.declared.geometry.Geometry.{Geometry}
use Rattle.ec_attr.specs.declared.head.Head.{Head}
use Rattle.ec_attr.specs.declared.kind.Kind.{Kind}
use Rattle.ec_brick.specs.State.{State as Brick}
use Rattle.ec_conduct.specs.Given.{quorum}
use Rattle.ec_store.specs.Records.{Record, Records, head_at}
use Rattle.ec_history.specs.Accounts.{Books, Leaving, booked, books, no_books}
use Rattle.ec_history.specs.Changes.{Found, change}
use Rattle.ec_history.specs.Flat.{Flat, Tree, committed, from_before}
use Rattle.ec_history.specs.IsRun.{IsRun, May as MayEnter}
use Rattle.ec_history.specs.Run.{Net, after, fresh, run}
use Rattle.ec_history.specs.Starts.{IsStart}
use Rattle.ec_history.specs.Story.{Story, op_of, opening, story, told}
use Rattle.ec_wire.specs.declared.entry.Entry.{Entry}
use Rattle.ec_wire.specs.declared.message.Body.TheVariants.{ToBrick}
use Rattle.ec_wire.specs.declared.message.Message.{Message}
use Rattle.ec_wire.specs.declared.op.Op.{Op}
use Rattle.ec_wire.specs.declared.request.Request.{Request}
use Rattle.ec_wire.specs.declared.request.Request.TheVariants.{Make, Mark, PostOp}
use Rattle.ec_law_net.specs.Turns.{View, seen_after}
use Rattle.ec_law_turns.specs.Laws.{Always}
use Rattle.ec_law_turns.specs.Once.{is_make_of}
use Rattle.ec_law_turns.specs.Orderly.{ArePlain, IsOrderly}
use Rattle.ec_law_turns.proofs.Basics.{equal, itself, some_is, some_none}
use Rattle.ec_law_turns.proofs.Origins.{unrecorded, unversioned}
use Rattle.ec_law_turns.proofs.Runs.{Kept, kept_there, plain_first}
use Rattle.ec_law_data.specs.Laws.{begun}
use Rattle.ec_law_data.proofs.Reaching.{Reaches, reaches_start, reaches_then}
use Rattle.ec_law_flats.specs.Plans.{AreBuilt}
use Rattle.ec_law_flats.proofs.Calls.{AllBuilt, built_first, built_then}
use Rattle.ec_law_heads.specs.Laws.{AlwaysOneKind, MakesOneKind}
use Rattle.ec_law_heads.proofs.Bounds.{HasLimit, Heads, has_limit}
use Rattle.ec_law_heads.proofs.Making.{HasKinds, kinds_entry}
use Rattle.ec_law_names.proofs.Givens.{AreGiven, given_then}
use Rattle.ec_law_writes.proofs.Answering.{done_after}
use Rattle.ec_law_writes.proofs.Watching.{Watched, watched_entry, watched_start}
use Rattle.ec_law_stands.proofs.Changes.{DoneOfKind, IsTouched, done_entry, kind_stays, post_of_kind}
use Rattle.ec_law_stands.proofs.Flats.{IsKept, Posts, entry_goes}
use Rattle.ec_law_stands.proofs.Parts.{From, IsNew, IsPart, NoMark, entry_part}

-- A side of a gfid: a part of its records, the requests and ops that change it, of one kind of gfid, and how a flat file keeps it.
pub record IsSide {X : Type 0} (part : Record → X) (blank : X) (changes : ℕ → Request → Bool) (kind : Kind) (touches : Op → Bool) (rel : Flat → Flat → Type 0) : Type 0 where
  pub is_part : IsPart part blank changes kind
  pub touch : IsTouched changes touches
  pub kept : IsKept rel
  pub joined : (x y z : Flat) → rel x y → rel y z → rel x z
  pub commits : (k a version g : ℕ) (op : Op) (found : Found) (flat : Flat) → touches op ≡ false → rel flat (committed k a version (change k op found g flat) flat)

module _ {X : Type 0} (part : Record → X) (blank : X) (changes : ℕ → Request → Bool) (kind : Kind) (touches : Op → Bool) (rel : Flat → Flat → Type 0) (side : IsSide part blank changes kind touches rel) where
  -- the part of a record as the log begins
  abbrev pub part_in : Option Record → X
  part_in None = blank
  part_in (Some r) = part r

  module _ (geometry : Geometry) (left : ℕ → Leaving) (unkept : (a : ℕ) → (left a).kept ≡ None) (first : ℕ) (origins : ℕ → ℕ) (new : (h : ℕ) → first ≤ h → origins h ≡ 0) (g : ℕ) (origin : Option Kind) (new_kind : first ≤ g → origin ≡ None) (parts : ℕ → X) (new_parts : first ≤ g → (b : ℕ) → b < geometry.n → parts b ≡ blank) (before : Flat) where
    -- the records have the parts that they had, and the flat file keeps what it had
    pub record IsStill (m : Net) (flat : Flat) : Type 0 where
      pub parts_are : (b : ℕ) (r : Record) → b < geometry.n → (m.brick b).records g ≡ Some r → part r ≡ parts b
      pub flat_is : rel before flat

    abbrev pub Still : Net → Story → Type 0
    Still m t = (t.tree g).kind ≢ Some kind → IsStill m (t.tree g)

    module _ (m : Net) (vs : ℕ → View) (t : Story) (b : Books) (done : ℕ → Bool) (e : Entry) (may : MayEnter geometry.n m e) (k : Reaches geometry first origins m vs t b) (w : Watched geometry g m (vs g) b done) (kinds : HasKinds geometry.n g origin m t) (given : AreGiven m t b) (built : AllBuilt m) (dones : DoneOfKind changes kind g m.said done (t.tree g).kind) (still : Still m t) where
      taken : (i : ℕ) (x : Message) (q : Request) → m.said i ≡ Some x → x.body ≡ ToBrick q → is_make_of g q ≡ true → first ≤ g
      taken i x (Make d n child) is body makes = let by = (k.reached g).by_maker i x (Make d n child) is body (equal child.gfid.0 g makes) in ⊎_elim (λ none. absurd (some_none _ (sym by.maker_is ∙ none))) (λ le. le) (k.fresh g).taken
      taken i x q is body makes = absurd (cc)

      no_mark : (q : Request) → HasLimit g q → NoMark part blank changes kind side.is_part g q
      no_mark (Mark x n heal head) limit = limit
      no_mark q limit = tt

      module _ (other : ((told geometry m t e).tree g).kind ≢ Some kind) where
        was_other : (t.tree g).kind ≢ Some kind
        was_other was = other (kind_stays g geometry m t geometry.n e may kind was)

        untouched : (version a : ℕ) → Posts g m version a → touches (op_of m a) ≡ false
        untouched version a p = at (touches (op_of m a)) refl
          where
            of_kind : touches (op_of m p.message.call) ≡ true → (t.tree g).kind ≡ Some kind
            of_kind = post_of_kind changes kind side.is_part.checked g geometry m (vs g) b done (k.reached g) w t kinds.heads dones touches side.touch p.number p.message (PostOp p.gfid p.grant p.at version p.size p.attr) p.said p.body (subst (λ (y : ℕ). (p.gfid.0 == y) ≡ true) p.on (itself p.gfid.0)) (λ d made. (given p.message.call d made).op) (built p.message.call)

            at : (c : Bool) → touches (op_of m a) ≡ c → touches (op_of m a) ≡ false
            at false e = e
            at true e = absurd (was_other (of_kind (ap (λ (y : ℕ). touches (op_of m y)) p.caller ∙ e)))

        part_is : (c : ℕ) (r : Record) → c < geometry.n → ((after m e).brick c).records g ≡ Some r → part r ≡ parts c
        part_is c r lt is = at (entry_part part blank changes kind side.is_part g m c r
            (λ i x q said body. no_mark q (has_limit geometry g m (vs g) b (k.reached g) i x q said body))
            (λ h was same. was_other (sym (kinds.heads c h lt was) ∙ ap {B = Option Kind} (λ (y : Kind). Some y) same))
            geometry.n e may is)
          where
            at : From part blank changes kind side.is_part g (m.brick c).records r ⊎ IsNew part blank changes kind side.is_part g m r → part r ≡ parts c
            at (inl z) = z.2 ∙ (still was_other).parts_are c z.0 lt z.1
            at (inr d) = d.part_is ∙ sym (new_parts (taken d.number d.message d.request d.said d.body d.makes) c lt)

      still_entry : Still (after m e) (told geometry m t e)
      still_entry other = record {
        parts_are = λ c r lt is. part_is other c r lt is;
        flat_is = side.joined before (t.tree g) ((told geometry m t e).tree g) (still (was_other other)).flat_is (entry_goes rel side.kept g geometry m t (λ version a p. side.commits (quorum geometry) a version g (op_of m a) (t.found a) (t.tree g) (untouched other version a p)) geometry.n e may);
      }

    first_moment : (es : List Entry) (m : Net) (v : View) → Always (MakesOneKind g) g es m v → MakesOneKind g m v
    first_moment [] m v h = h
    first_moment (e ∷ es) m v h = h.0

    still_log : (es : List Entry) (m : Net) (vs : ℕ → View) (t : Story) (b : Books) (done : ℕ → Bool) → IsRun geometry.n es m → ArePlain es → AreBuilt es → Kept geometry left unkept (books geometry left es m t b) → Reaches geometry first origins m vs t b → Watched geometry g m (vs g) b done → Always (MakesOneKind g) g es m (vs g) → HasKinds geometry.n g origin m t → AreGiven m t b → AllBuilt m → DoneOfKind changes kind g m.said done (t.tree g).kind → Still m t → Still (run es m) (story geometry es m t)
    still_log [] m vs t b done runs plain are_built kept k w one kinds given built dones still = still
    still_log (e ∷ es) m vs t b done runs plain are_built kept k w one kinds given built dones still =
        let p = plain_first e es plain in
        let c = built_first e es are_built in
        let may = kept_there geometry left unkept e es m t b runs plain (k.reached 0).known.numbers kept in
        still_log es (after m e) (λ h. seen_after h m (vs h) e) (told geometry m t e) (booked geometry left m t b e) (done_after m e done) runs.1 p.1 c.1 kept
        (reaches_then geometry left unkept first origins new m vs t b e p.0 runs.0 may k)
        (watched_entry geometry left unkept first origins new g m vs t b e p.0 runs.0 may k done w)
        one.1
        (kinds_entry geometry first origins g origin new_kind m vs t b k (first_moment (e ∷ es) m (vs g) one) kinds e runs.0)
        (given_then geometry left m t b (k.reached 0).known.numbers given e runs.0)
        (built_then m e c.0 built)
        (done_entry changes kind side.is_part.checked g geometry m (vs g) b done (k.reached g) w t kinds.heads dones e runs.0)
        (still_entry m vs t b done e runs.0 k w kinds given built dones still)

  -- ## After every log

  record_of : (m : Records) (g : ℕ) (h : Head) → head_at m g ≡ Some h → (r : Record) × (m g ≡ Some r) × (r.head ≡ h)
  record_of m g h e = at (m g) refl e
    where
      at : (o : Option Record) → m g ≡ o → option_map (λ r. r.head) o ≡ Some h → (r : Record) × (m g ≡ Some r) × (r.head ≡ h)
      at None is z = absurd (cc)
      at (Some r) is z = (r, is, some_is r.head h z)

  module _ (config : Config) (records : ℕ → Records) (bricks : ℕ → Brick) (tree : Tree) (next g : ℕ) (es : List Entry) (start : IsStart config records bricks tree next) (runs : IsRun config.geometry.n es (fresh bricks)) (plain : ArePlain es) (are_built : AreBuilt es) (orderly : IsOrderly config.geometry es (fresh bricks) (opening tree next)) (one : AlwaysOneKind config records bricks tree next g es) where
    most : config.geometry.n < quorum config.geometry + quorum config.geometry
    most = let h = config.geometry.majority in omega (arith, h)

    pub new_kind : next ≤ g → (tree g).kind ≡ None
    new_kind le = ap (λ (y : Flat). y.kind) (start.elsewhere g (unrecorded config records bricks tree next g start le))

    abbrev pub parts : ℕ → X
    parts b = part_in (records b g)

    pub new_parts : next ≤ g → (b : ℕ) → b < config.geometry.n → parts b ≡ blank
    new_parts le b lt = ap part_in (unrecorded config records bricks tree next g start le b lt)

    found_there : (b : ℕ) (r : Record) → b < config.geometry.n → (bricks b).records g ≡ Some r → records b g ≡ Some r
    found_there b r lt is = sym (ap (λ (m : Records). m g) (start.opened b lt).kept) ∙ is

    first_heads : Heads config.geometry.n g (fresh bricks) (λ h. Some h.kind ≡ (tree g).kind)
    first_heads b h lt is =
        let r = record_of (bricks b).records g h is in
        subst (λ (z : Head). Some z.kind ≡ (tree g).kind) r.2 ((start.stand g).kinds b r.0 lt (found_there b r.0 lt r.1))

    pub still_after : Still config.geometry orderly.left orderly.none_kept next (λ h. (tree h).version) (λ h le. unversioned config records bricks tree next h start le) g (tree g).kind new_kind parts new_parts (from_before (tree g)) (run es (fresh bricks)) (story config.geometry es (fresh bricks) (opening tree next))
    still_after = still_log config.geometry orderly.left orderly.none_kept next (λ h. (tree h).version) (λ h le. unversioned config records bricks tree next h start le) g (tree g).kind new_kind parts new_parts (from_before (tree g)) es (fresh bricks) (λ h. begun config records tree next h) (opening tree next) no_books (λ i. false) runs plain are_built (λ a given h. (orderly.conduct a given h, orderly.order a given h))
        (reaches_start config records bricks tree next (λ a. a) most start) (watched_start config records bricks tree next g start) one
        (record { heads = first_heads; from = λ k is. inl is })
        (λ a given is. absurd (some_none given (sym is)))
        (λ c. refl)
        (λ i x q d is body c. absurd (cc))
        (λ other. record { parts_are = λ b r lt is. sym (ap part_in (found_there b r lt is)); flat_is = side.kept.same (from_before (tree g)) })
