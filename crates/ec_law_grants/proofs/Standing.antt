-- What holds after every log of the grants that calls heard, of records that are there or were, of PostOps and of commits.
use Rattle.std.proofs.Common.{◌≡◌, ◌≢◌, ◌⊎◌, ℕ, ◌+◌, ◌<◌, ◌≤◌, Bool, true, false, cond, ◌==◌, ◌&&◌, Option, Some, None, refl, sym, ◌∙◌, ap, subst, arith, inl, inr}
use Rattle.std.proofs.lemmas.Bool.Decides.{nat_tests}
use Rattle.std.specs.Prelude.{nat_le, nat_lt}
use Rattle.std.specs.Option.{option_map}
use Rattle.ec_attr.proofs.Sets.{part, same_count}
use Rattle.ec_attr.specs.Head.{with_dirty}
use Rattle.ec_attr.specs.Marks.{stripped}
use Rattle.ec_attr.specs.declared.geometry.Geometry.{Geometry}
use Rattle.ec_attr.specs.declared.head.Head.{Head}
use Rattle.ec_brick.specs.State.{State as Brick}
use Rattle.ec_brick.specs.Step.{Fine, Out, executed as executed_at}
use Rattle.ec_conduct.specs.Given.{quorum}
use Rattle.ec_store.specs.Records.{Record, Records, head_at}
use Rattle.ec_history.specs.Accounts.{Books}
use Rattle.ec_history.specs.Changes.{change}
use Rattle.ec_history.specs.Flat.{Flat, committed}
use Rattle.ec_history.specs.IsRun.{May as MayEnter}
use Rattle.ec_history.specs.Run.{Net, after, out_of}
use Rattle.ec_history.specs.Story.{Story, is_commit, is_done, is_unmarked, op_of, post_done, posts, told, with_flat, with_post}
use Rattle.ec_wire.specs.declared.entry.Entry.{Entry}
use Rattle.ec_wire.specs.declared.message.Body.TheVariants.{ToBrick}
use Rattle.ec_wire.specs.declared.message.Message.{Message}
use Rattle.ec_wire.specs.declared.request.Request.{Request}
use Rattle.ec_wire.specs.declared.request.Request.TheVariants.{PostOp}
use Rattle.ec_law_net.specs.Turns.{View, seen_after}
use Rattle.ec_law_turns.proofs.Basics.{equal, put_here, some_is, some_none}
use Rattle.ec_law_data.proofs.FlatVersions.{post_head}
use Rattle.ec_law_data.proofs.Reaching.{Reaches}
use Rattle.ec_law_grants.proofs.Changing.{Altered, Born, Change, Gone, Grown, HasVersion, Same, post_done_version}
use Rattle.ec_law_grants.proofs.Entries.{Did, Does, EntryChange, Removed, Unchanged, entry_change, unhealed}
use Rattle.ec_law_grants.proofs.Granted.{Grants, grants_entry}
use Rattle.ec_law_grants.proofs.Lasting.{executed_is, went}
use Rattle.ec_law_grants.proofs.Making.{Had, born_then, had_not, had_then}
use Rattle.ec_law_grants.proofs.Storying.{IsPost, Posts, StoryChange, Unmoved, story_change}

-- no record is there of version 0, marked or not
abbrev pub IsRaised : Net → ℕ → ℕ → Type 0
IsRaised m g b = (r : Record) → (m.brick b).records g ≡ Some r → r.head.version.content ≢ 0

-- a call of which K bricks did the PostOp
pub record HasCommitter (geometry : Geometry) (t : Story) (g : ℕ) : Type 0 where
  pub call : ℕ
  pub enough : quorum geometry ≤ posts geometry t call g

-- `origin` is the version of the flat file as the log began.
pub record Stands (geometry : Geometry) (first origin g : ℕ) (m : Net) (v : View) (t : Story) : Type 0 where
  pub grants : Grants m
  pub had : (b : ℕ) (r : Record) → b < geometry.n → (m.brick b).records g ≡ Some r → Had first g v b
  pub posted : (a b : ℕ) → b < geometry.n → t.posted a g b ≡ true → Had first g v b × IsRaised m g b
  pub committed : (t.tree g).version ≢ origin → HasCommitter geometry t g

-- ## Versions

at_zero : stripped 0 ≡ 0
at_zero = refl

-- what a PostOp sets is above 0
above_zero : (base number version : ℕ) → 0 < number → base + number ≡ stripped version → version ≢ 0
above_zero base number version lt e z = let s = e ∙ (ap stripped z ∙ at_zero) in omega (arith, lt, s)

-- ## PostOps

record_of : (m : Records) (g : ℕ) (h : Head) → head_at m g ≡ Some h → (r : Record) × (m g ≡ Some r)
record_of m g h e = at (m g) refl e
  where
    at : (o : Option Record) → m g ≡ o → option_map (λ r. r.head) o ≡ Some h → (r : Record) × (m g ≡ Some r)
    at None is z = absurd (cc)
    at (Some r) is z = (r, is)

-- of whom a PostOp was counted before, or at this brick
post_posted : (geometry : Geometry) (m : Net) (t : Story) (a g b version x y : ℕ) → (post_done geometry m t a g b version).posted x g y ≡ true → (t.posted x g y ≡ true) ⊎ (y ≡ b)
post_posted geometry m t a g b version x y p = unmarked (is_unmarked (head_at (m.brick b).records g)) p
  where
    commit : Flat → Flat
    commit flat = committed (quorum geometry) a version (change (quorum geometry) (op_of m a) (t.found a) g flat) flat

    counted : (w c : Bool) → (y == b) ≡ c → cond (w && c) true (t.posted x g y) ≡ true → (t.posted x g y ≡ true) ⊎ (y ≡ b)
    counted w true f e = inr (equal y b f)
    counted true false f e = inl e
    counted false false f e = inl e

    either : (c : Bool) → (cond c (with_flat (with_post t a g b) g commit) (with_post t a g b)).posted x g y ≡ true → (t.posted x g y ≡ true) ⊎ (y ≡ b)
    either true e = counted ((x == a) && (g == g)) (y == b) refl e
    either false e = counted ((x == a) && (g == g)) (y == b) refl e

    unmarked : (c : Bool) → (cond c (cond (is_commit geometry t a g b) (with_flat (with_post t a g b) g commit) (with_post t a g b)) t).posted x g y ≡ true → (t.posted x g y ≡ true) ⊎ (y ≡ b)
    unmarked true e = either (is_commit geometry t a g b) e
    unmarked false e = inl e

-- a version that it leaves is that of before, or of a call that commits now
post_committer : (geometry : Geometry) (m : Net) (t : Story) (a g b version origin : ℕ) → is_unmarked (head_at (m.brick b).records g) ≡ true → ((t.tree g).version ≢ origin → HasCommitter geometry t g) → ((post_done geometry m t a g b version).tree g).version ≢ origin → HasCommitter geometry (post_done geometry m t a g b version) g
post_committer geometry m t a g b version origin unmarked before ne =
    subst (λ (u : Story). HasCommitter geometry u g) (sym is) (either (is_commit geometry t a g b) refl (λ z. ne (ap (λ (u : Story). (u.tree g).version) is ∙ z)))
  where
    commit : Flat → Flat
    commit flat = committed (quorum geometry) a version (change (quorum geometry) (op_of m a) (t.found a) g flat) flat

    is : post_done geometry m t a g b version ≡ cond (is_commit geometry t a g b) (with_flat (with_post t a g b) g commit) (with_post t a g b)
    is = ap (λ (c : Bool). cond c (cond (is_commit geometry t a g b) (with_flat (with_post t a g b) g commit) (with_post t a g b)) t) unmarked

    second : (t u : Bool) → (t && u) ≡ true → u ≡ true
    second true u e = e
    second false u e = absurd (cc)

    below : (x y : ℕ) → nat_le x y ≡ true → x ≤ y
    below x y e = grind (arith, nat_tests)

    stays_set : (c u : Bool) → u ≡ true → cond c true u ≡ true
    stays_set true u e = refl
    stays_set false u e = e

    either : (c : Bool) → is_commit geometry t a g b ≡ c → ((cond c (with_flat (with_post t a g b) g commit) (with_post t a g b)).tree g).version ≢ origin → HasCommitter geometry (cond c (with_flat (with_post t a g b) g commit) (with_post t a g b)) g
    either true e ne = record { call = a; enough = below (quorum geometry) (posts geometry (with_post t a g b) a g) (second (nat_lt (posts geometry t a g) (quorum geometry)) (nat_le (quorum geometry) (posts geometry (with_post t a g b) a g)) e) }
    either false e ne =
        let c = before ne in
        record { call = c.call; enough = let le = part geometry.n (t.posted c.call g) ((with_post t a g b).posted c.call g) (λ y lt h. stays_set ((c.call == a) && (g == g) && (y == b)) (t.posted c.call g y) h) in let most = c.enough in omega (arith, le, most) }

module _ (geometry : Geometry) (first : ℕ) (origins : ℕ → ℕ) (new : (h : ℕ) → first ≤ h → origins h ≡ 0) (origin g : ℕ) (m : Net) (vs : ℕ → View) (t : Story) (books : Books) (e : Entry) (may : MayEnter geometry.n m e) (k : Reaches geometry first origins m vs t books) where
  -- a PostOp on the gfid sets a version above 0
  raises : (i : ℕ) (x : Message) (q : Request) → m.said i ≡ Some x → x.body ≡ ToBrick q → (old now : Record) → HasVersion g q old now → old.head.version.content ≢ 0 → now.head.version.content ≢ 0
  raises i x (PostOp y n at version size attr) said body old now h ne =
      let told_post = (k.reached g).shown.asked i x (PostOp y n at version size attr) said body h.0 in
      λ z. above_zero ((vs g).core.ballot ((vs g).of i)).base ((vs g).core.ballot ((vs g).of i)).number version told_post.ballot told_post.target (sym h.1 ∙ z)
  raises i x q said body old now h ne = λ z. ne (sym h ∙ z)

  -- what becomes of the record of brick b
  changes : (b : ℕ) → EntryChange m g e b ((m.brick b).records g) (((after m e).brick b).records g)
  changes b = entry_change geometry.n g m (k.reached g).linked.to (unhealed geometry g m (vs g) books (k.reached g)) b e may

  module _ (h : Stands geometry first origin g m (vs g) t) where
    had_entry : (b : ℕ) (r : Record) → b < geometry.n → ((after m e).brick b).records g ≡ Some r → Had first g (seen_after g m (vs g) e) b
    had_entry b r lt is = at (changes b)
      where
        was : (o : Record) → (m.brick b).records g ≡ Some o → Had first g (seen_after g m (vs g) e) b
        was o is = had_then first g m (vs g) e b (h.had b o lt is)

        by : (d : Does m e b) → Change (m.brick b) g d.request d.done ((m.brick b).records g) (((after m e).brick b).records g) → Had first g (seen_after g m (vs g) e) b
        by d (Same s) = was r (sym s ∙ is)
        by d (Gone s) = absurd (some_none r (sym is ∙ s))
        by d (Born s) = inl (born_then g m (vs g) e b d ((m.brick b).records g) (((after m e).brick b).records g) s)
        by d (Grown s) = was s.before s.was_is
        by d (Altered s) = was s.before s.was_is

        at : EntryChange m g e b ((m.brick b).records g) (((after m e).brick b).records g) → Had first g (seen_after g m (vs g) e) b
        at (Unchanged s) = was r (sym s ∙ is)
        at (Removed s) = absurd (some_none r (sym is ∙ s))
        at (Did d c) = by d c

    -- where a brick did a PostOp before
    raised_entry : (a b : ℕ) → b < geometry.n → t.posted a g b ≡ true → IsRaised (after m e) g b
    raised_entry a b lt p r is = at (changes b)
      where
        before : Had first g (vs g) b × IsRaised m g b
        before = h.posted a b lt p

        by : (d : Does m e b) → Change (m.brick b) g d.request d.done ((m.brick b).records g) (((after m e).brick b).records g) → r.head.version.content ≢ 0
        by d (Same s) = before.1 r (sym s ∙ is)
        by d (Gone s) = absurd (some_none r (sym is ∙ s))
        by d (Born s) = absurd (had_not geometry first origins new m vs t books k g e b d ((m.brick b).records g) (((after m e).brick b).records g) s before.0)
        by d (Grown s) = let same = some_is (record s.before { head = with_dirty 0 s.before.head }) r (sym s.now_is ∙ is) in subst (λ (z : Record). z.head.version.content ≢ 0) same (before.1 s.before s.was_is)
        by d (Altered s) = let same = some_is s.after r (sym s.now_is ∙ is) in subst (λ (z : Record). z.head.version.content ≢ 0) same (raises d.number d.message d.request d.said d.body s.before s.after s.version (before.1 s.before s.was_is))

        at : EntryChange m g e b ((m.brick b).records g) (((after m e).brick b).records g) → r.head.version.content ≢ 0
        at (Unchanged s) = before.1 r (sym s ∙ is)
        at (Removed s) = absurd (some_none r (sym is ∙ s))
        at (Did d c) = by d c

    older : (a b : ℕ) → b < geometry.n → t.posted a g b ≡ true → Had first g (seen_after g m (vs g) e) b × IsRaised (after m e) g b
    older a b lt p = (had_then first g m (vs g) e b (h.posted a b lt p).0, raised_entry a b lt p)

    -- where it does one now
    newer : (p : IsPost geometry g m t e) → Had first g (seen_after g m (vs g) e) p.may.message.brick × IsRaised (after m e) g p.may.message.brick
    newer p = (had_then first g m (vs g) e p.may.message.brick (h.had p.may.message.brick here.0 lt here.1), raised)
      where
        s : Brick
        s = m.brick p.may.message.brick

        body : p.may.message.body ≡ ToBrick (PostOp p.gfid p.grant p.old p.new p.size p.attr)
        body = p.may.at.body ∙ ap (λ (q : Request). ToBrick q) p.asks

        lt : p.may.message.brick < geometry.n
        lt = (k.reached g).linked.to p.number p.may.message (PostOp p.gfid p.grant p.old p.new p.size p.attr) p.may.at.said body

        out : Out
        out = executed_at (m.brick p.may.message.brick) Fine p.may.message.client p.may.message.no (PostOp p.gfid p.grant p.old p.new p.size p.attr)

        out_is : out_of m p.may.message (PostOp p.gfid p.grant p.old p.new p.size p.attr) p.read false ≡ out
        out_is = subst (λ (q : Request). out_of m p.may.message q p.read false ≡ executed_at (m.brick p.may.message.brick) Fine p.may.message.client p.may.message.no q) p.asks (went m p.number p.read false p.may false)

        done : is_done out.says ≡ true
        done = sym (ap (λ (o : Out). is_done o.says) out_is) ∙ p.done

        here : (r : Record) × ((m.brick p.may.message.brick).records g ≡ Some r)
        here =
            let o = post_head s p.may.message.client p.may.message.no p.gfid p.grant p.old p.new p.size p.attr done in
            record_of s.records g o.0 (subst (λ (y : ℕ). head_at s.records y ≡ Some o.0) p.on o.1)

        brick_is : (after m e).brick p.may.message.brick ≡ out.brick
        brick_is =
            ap (λ (z : Entry). (after m z).brick p.may.message.brick) p.entry
            ∙ (ap (λ (t : Net). t.brick p.may.message.brick) (executed_is m p.number p.read false p.may)
            ∙ (put_here m.brick p.may.message.brick (out_of m p.may.message p.may.request p.read false).brick p.may.message.brick refl
            ∙ (ap (λ (q : Request). (out_of m p.may.message q p.read false).brick) p.asks ∙ ap (λ (o : Out). o.brick) out_is)))

        raised : IsRaised (after m e) g p.may.message.brick
        raised r is =
            let there = subst (λ (y : ℕ). out.brick.records y ≡ Some r) (sym p.on) (sym (ap (λ (z : Brick). z.records g) brick_is) ∙ is) in
            let version = post_done_version s p.may.message.client p.may.message.no p.gfid p.grant p.old p.new p.size p.attr done r there in
            let told_post = (k.reached g).shown.asked p.number p.may.message (PostOp p.gfid p.grant p.old p.new p.size p.attr) p.may.at.said body p.on in
            λ z. above_zero ((vs g).core.ballot ((vs g).of p.number)).base ((vs g).core.ballot ((vs g).of p.number)).number p.new told_post.ballot told_post.target (sym version ∙ z)

    posted_entry : (a b : ℕ) → b < geometry.n → (told geometry m t e).posted a g b ≡ true → Had first g (seen_after g m (vs g) e) b × IsRaised (after m e) g b
    posted_entry a b lt p = by (story_change geometry g m t e may)
      where
        by : StoryChange geometry g m t e → Had first g (seen_after g m (vs g) e) b × IsRaised (after m e) g b
        by (Unmoved s) = older a b lt (sym (s.posted a b) ∙ p)
        by (Posts s) = at (post_posted geometry m t s.may.message.call g s.may.message.brick s.new a b (sym (ap (λ (u : Story). u.posted a g b) s.is) ∙ p))
          where
            at : (t.posted a g b ≡ true) ⊎ (b ≡ s.may.message.brick) → Had first g (seen_after g m (vs g) e) b × IsRaised (after m e) g b
            at (inl old) = older a b lt old
            at (inr now) = subst (λ (y : ℕ). Had first g (seen_after g m (vs g) e) y × IsRaised (after m e) g y) (sym now) (newer s)

    committed_entry : ((told geometry m t e).tree g).version ≢ origin → HasCommitter geometry (told geometry m t e) g
    committed_entry ne = by (story_change geometry g m t e may)
      where
        by : StoryChange geometry g m t e → HasCommitter geometry (told geometry m t e) g
        by (Unmoved s) =
            let c = h.committed (λ z. ne (s.version ∙ z)) in
            record { call = c.call; enough = let same = same_count geometry.n ((told geometry m t e).posted c.call g) (t.posted c.call g) (λ b lt. s.posted c.call b) in let le = c.enough in subst (λ (y : ℕ). quorum geometry ≤ y) (sym same) le }
        by (Posts s) = subst (λ (u : Story). HasCommitter geometry u g) (sym s.is) (post_committer geometry m t s.may.message.call g s.may.message.brick s.new origin s.unmarked h.committed (λ z. ne (ap (λ (u : Story). (u.tree g).version) s.is ∙ z)))

    pub stands_entry : Stands geometry first origin g (after m e) (seen_after g m (vs g) e) (told geometry m t e)
    stands_entry = record {
      grants = grants_entry geometry.n m (k.reached g).linked.said (k.reached g).linked.to (k.reached g).locks.asks h.grants e may;
      had = had_entry;
      posted = posted_entry;
      committed = committed_entry;
    }
