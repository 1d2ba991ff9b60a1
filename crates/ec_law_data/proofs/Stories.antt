-- The flat version of the machine is that of the story of a log.
use Rattle.ec_store.specs.Records.{head_at}
use Rattle.std.proofs.Common.{◌≡◌, ◌≢◌, ℕ, Bool, true, false, cond, ◌==◌, ◌&&◌, Option, Some, None, List, [], ◌∷◌, ◌++◌, map, refl, sym, ◌∙◌, ap, arith}
use Rattle.std.proofs.lemmas.Bool.Decides.{nat_tests}
use Rattle.ec_attr.specs.declared.geometry.Geometry.{Geometry}
use Rattle.ec_attr.specs.declared.kind.Kind.{Kind}
use Rattle.ec_conduct.specs.Given.{quorum}
use Rattle.ec_history.specs.Changes.{change}
use Rattle.ec_history.specs.Flat.{Flat as FlatFile, committed, made, made_from, name_opened, opened}
use Rattle.ec_history.specs.Run.{Net}
use Rattle.ec_history.specs.Story.{Story, done_by, failed_by, is_commit, is_unmarked, opens, post_done, said_by, with_flat, with_post, op_of}
use Rattle.ec_wire.specs.declared.message.Body.{Body}
use Rattle.ec_wire.specs.declared.message.Body.TheVariants.{ToBrick, ToClient}
use Rattle.ec_wire.specs.declared.message.Message.{Message}
use Rattle.ec_wire.specs.declared.request.Request.{Request}
use Rattle.ec_wire.specs.declared.request.Request.TheVariants.{Ask, Release, Query, PreOp, ReadChunks, WriteChunks, SetLength, PostOp, Clear as ClearOf, NameGet, NamesAfter, NameSet, NamesPut, Make as MakeOf, Made as MadeOf, Unmake as UnmakeOf, Mark as MarkOf, Unmark as UnmarkOf, GfidsAfter}
use Rattle.ec_law_base.specs.State.{State, target}
use Rattle.ec_law_ballots.specs.Act.{Act, after as after_acts, step as act_step}
use Rattle.ec_law_ballots.specs.Act.Act.{Grant, Free, Share, Unshare, Moment, See, Keep, Carry, Choose, Choose_kept, Pre, Sink_pre, Post, Sink_post, Clear, Heal_grant, Heal_free, Mark, Unmark, Maker_grant, Maker_free, Make, Made, Unmake, Stop, Replace}
use Rattle.ec_law_pieces.specs.Deed.{Deed, after as after_deeds, commits, flat_after, step}
use Rattle.ec_law_pieces.specs.Deed.Deed.{Commit}
use Rattle.ec_law_pieces.specs.File.{File, Flat}
use Rattle.ec_law_data.specs.Deeds.{dressed, is_post_on}
use Rattle.ec_law_data.specs.Reading.{Plans, Reading}
use Rattle.ec_law_data.proofs.Cores.{deeds_both}
use Rattle.ec_law_data.proofs.Guards.{Easy, is_easy}
use Rattle.ec_law_data.proofs.Settling.{Settled}

-- ## The machine

-- easy acts leave who did a PostOp
pub easy_posts : (es : List Act) (s : State) → Easy es → (after_acts es s).post ≡ s.post
easy_posts [] s h = refl
easy_posts (e ∷ es) s h = easy_posts es (act_step s e) h.1 ∙ one e h.0
  where
    one : (e : Act) → is_easy e ≡ true → (act_step s e).post ≡ s.post
    one (Grant a b) easy = refl
    one (Free b) easy = refl
    one (Share a b) easy = refl
    one (Unshare a b) easy = refl
    one (Moment a) easy = refl
    one (See a b) easy = refl
    one (Keep x a) easy = refl
    one (Carry a x b) easy = refl
    one (Choose a p) easy = refl
    one (Choose_kept x a p) easy = refl
    one (Pre a b) easy = refl
    one (Sink_pre a b) easy = refl
    one (Post a b) easy = absurd (cc)
    one (Sink_post a b) easy = refl
    one (Clear a b) easy = refl
    one (Heal_grant h b) easy = refl
    one (Heal_free b) easy = refl
    one (Mark a b) easy = refl
    one (Unmark a b) easy = refl
    one (Maker_grant b) easy = refl
    one (Maker_free b) easy = refl
    one (Make b) easy = refl
    one (Made b) easy = refl
    one (Unmake b) easy = refl
    one (Stop b) easy = refl
    one (Replace b) easy = refl

module _ {P V C U S : Type 0} (R : Reading P V C U S) (plans : Plans P V U S) (n k g : ℕ) where
  pub easy_version : (es : List Act) (f : File P V C U S) → Easy es → (after_deeds R.form n k (map (dressed R plans n k g) es) f).flat.version ≡ f.flat.version
  easy_version [] f h = refl
  easy_version (e ∷ es) f h = easy_version es (step R.form n k f (dressed R plans n k g e)) h.1 ∙ one e h.0
    where
      one : (e : Act) → is_easy e ≡ true → (step R.form n k f (dressed R plans n k g e)).flat.version ≡ f.flat.version
      one (Grant a b) easy = refl
      one (Free b) easy = refl
      one (Share a b) easy = refl
      one (Unshare a b) easy = refl
      one (Moment a) easy = refl
      one (See a b) easy = refl
      one (Keep x a) easy = refl
      one (Carry a x b) easy = refl
      one (Choose a p) easy = refl
      one (Choose_kept x a p) easy = refl
      one (Pre a b) easy = refl
      one (Sink_pre a b) easy = refl
      one (Post a b) easy = absurd (cc)
      one (Sink_post a b) easy = refl
      one (Clear a b) easy = refl
      one (Heal_grant h b) easy = refl
      one (Heal_free b) easy = refl
      one (Mark a b) easy = refl
      one (Unmark a b) easy = refl
      one (Maker_grant b) easy = refl
      one (Maker_free b) easy = refl
      one (Make b) easy = refl
      one (Made b) easy = refl
      one (Unmake b) easy = refl
      one (Stop b) easy = refl
      one (Replace b) easy = refl

  module _ (f : File P V C U S) (ds : List (Deed P V C U S)) (s : Settled R.form n k f ds) where
    pub version_easily : (es : List Act) → Easy es → (after_deeds R.form n k (ds ++ map (dressed R plans n k g) es) f).flat.version ≡ f.flat.version
    version_easily es easy = ap (λ (z : File P V C U S). z.flat.version) (deeds_both R.form n k ds (map (dressed R plans n k g) es) f) ∙ (easy_version es (after_deeds R.form n k ds f) easy ∙ s.version)

    -- a PostOp may commit
    pub version_posted : (rest : List Act) (a b : ℕ) → Easy rest → (after_deeds R.form n k (ds ++ map (dressed R plans n k g) (Post a b ∷ rest)) f).flat.version ≡ cond (commits n k f.heads a b) (target (f.heads.ballot a)) f.flat.version
    version_posted rest a b easy =
        ap (λ (z : File P V C U S). z.flat.version) (deeds_both R.form n k ds (map (dressed R plans n k g) (Post a b ∷ rest)) f)
        ∙ (easy_version rest (step R.form n k (after_deeds R.form n k ds f) (Commit a b)) easy
        ∙ (by (after_deeds R.form n k ds f) (commits n k (after_deeds R.form n k ds f).heads a b)
        ∙ (ap (λ (z : State). cond (commits n k z a b) (target (z.ballot a)) (after_deeds R.form n k ds f).flat.version) s.heads ∙ ap (λ (z : ℕ). cond (commits n k f.heads a b) (target (f.heads.ballot a)) z) s.version)))
      where
        by : (f : File P V C U S) (t : Bool) → (cond {A = Flat P U S} t (flat_after f a) f.flat).version ≡ cond t (target (f.heads.ballot a)) f.flat.version
        by f true = refl
        by f false = refl

    pub version_sunk : (rest : List Act) (a b : ℕ) → Easy rest → (after_deeds R.form n k (ds ++ map (dressed R plans n k g) (Sink_post a b ∷ rest)) f).flat.version ≡ f.flat.version
    version_sunk rest a b easy = ap (λ (z : File P V C U S). z.flat.version) (deeds_both R.form n k ds (map (dressed R plans n k g) (Sink_post a b ∷ rest)) f) ∙ (easy_version rest (step R.form n k (after_deeds R.form n k ds f) (dressed R plans n k g (Sink_post a b))) easy ∙ s.version)

-- ## The story

-- who did a PostOp on the gfid, and its version, are as they were
pub record SameStory (g : ℕ) (t u : Story) : Type 0 where
  pub posted : (a b : ℕ) → u.posted a g b ≡ t.posted a g b
  pub version : (u.tree g).version ≡ (t.tree g).version

pub same_story : (g : ℕ) (t : Story) → SameStory g t t
same_story g t = record { posted = λ a b. refl; version = refl }

pub same_if : (g : ℕ) (t u w : Story) (c : Bool) → SameStory g t u → SameStory g t w → SameStory g t (cond c u w)
same_if g t u w true h i = h
same_if g t u w false h i = i

-- what leaves the version of a flat file
flat_kept : (g : ℕ) (t : Story) (x : ℕ) (f : FlatFile → FlatFile) → ((flat : FlatFile) → (f flat).version ≡ flat.version) → SameStory g t (with_flat t x f)
flat_kept g t x f keeps = record { posted = λ a b. refl; version = at (g == x) refl }
  where
    equal : (x y : ℕ) → (x == y) ≡ true → x ≡ y
    equal x y e = grind (arith, nat_tests)

    at : (c : Bool) → (g == x) ≡ c → (cond (g == x) (f (t.tree x)) (t.tree g)).version ≡ (t.tree g).version
    at true e = ap (λ (c : Bool). (cond c (f (t.tree x)) (t.tree g)).version) e ∙ (keeps (t.tree x) ∙ ap (λ (z : ℕ). (t.tree z).version) (sym (equal g x e)))
    at false e = ap (λ (c : Bool). (cond c (f (t.tree x)) (t.tree g)).version) e

pub opens_same : (g : ℕ) (m : Net) (t : Story) (msg : Message) (x : ℕ) (stripes : ℕ → Bool) → SameStory g t (opens m t msg x stripes)
opens_same g m t msg x stripes = same_if g t _ t _ (flat_kept g t x (opened msg.call stripes) (λ flat. refl)) (same_story g t)

-- the commit of another gfid
other_flat : (g : ℕ) (t : Story) (x : ℕ) (f : FlatFile → FlatFile) → g ≢ x → ((with_flat t x f).tree g).version ≡ (t.tree g).version
other_flat g t x f ne = at (g == x) refl
  where
    equal : (x y : ℕ) → (x == y) ≡ true → x ≡ y
    equal x y e = grind (arith, nat_tests)

    at : (c : Bool) → (g == x) ≡ c → (cond (g == x) (f (t.tree x)) (t.tree g)).version ≡ (t.tree g).version
    at true e = absurd (ne (equal g x e))
    at false e = ap (λ (c : Bool). (cond c (f (t.tree x)) (t.tree g)).version) e

made_version : (kind : Kind) (flat : FlatFile) → (made kind flat).version ≡ flat.version
made_version kind flat = at flat.kind
  where
    at : (o : Option Kind) → (made_from o kind flat).version ≡ flat.version
    at None = refl
    at (Some k) = refl

-- a PostOp on another gfid
post_other : (geometry : Geometry) (g : ℕ) (m : Net) (t : Story) (a x b version : ℕ) → g ≢ x → SameStory g t (post_done geometry m t a x b version)
post_other geometry g m t a x b version ne = same_if g t (cond (is_commit geometry t a x b) (with_flat (with_post t a x b) x commit) (with_post t a x b)) t (is_unmarked (head_at (m.brick b).records x)) (same_if g t (with_flat (with_post t a x b) x commit) (with_post t a x b) (is_commit geometry t a x b) (record { posted = posted; version = other_flat g (with_post t a x b) x commit ne }) (record { posted = posted; version = refl })) (same_story g t)
  where
    commit : FlatFile → FlatFile
    commit flat = committed (quorum geometry) a version (change (quorum geometry) (op_of m a) (t.found a) x flat) flat

    differ : (x y : ℕ) → x ≢ y → (x == y) ≡ false
    differ x y ne = pick (x == y) refl
      where
        pick : (c : Bool) → (x == y) ≡ c → (x == y) ≡ false
        pick false e = e
        pick true e = absurd (ne (equal x y e))
          where
            equal : (x y : ℕ) → (x == y) ≡ true → x ≡ y
            equal x y e = grind (arith, nat_tests)

    posted : (y z : ℕ) → (with_post t a x b).posted y g z ≡ t.posted y g z
    posted y z = ap (λ (c : Bool). cond ((y == a) && c && (z == b)) true (t.posted y g z)) (differ g x ne) ∙ none (y == a)
      where
        none : (c : Bool) → cond (c && false && (z == b)) true (t.posted y g z) ≡ t.posted y g z
        none true = refl
        none false = refl

-- a request that is no PostOp on the gfid
pub done_same : (geometry : Geometry) (g : ℕ) (m : Net) (t : Story) (msg : Message) (q : Request) → is_post_on g q ≡ false → SameStory g t (done_by geometry m t msg q)
done_same geometry g m t msg (Ask x domain kind) e = same_story g t
done_same geometry g m t msg (Release x n) e = same_story g t
done_same geometry g m t msg (Query x n) e = same_story g t
done_same geometry g m t msg (PreOp x n at dirty) e = same_story g t
done_same geometry g m t msg (ReadChunks x n first count) e = same_story g t
done_same geometry g m t msg (WriteChunks x n first chunks) e = opens_same g m t msg x.0 _
done_same geometry g m t msg (SetLength x n keep count) e = opens_same g m t msg x.0 _
done_same geometry g m t msg (PostOp x n at version size attr) e = post_other geometry g m t msg.call x.0 msg.brick version (λ z. differ x.0 g e (sym z))
  where
    differ : (x y : ℕ) → (x == y) ≡ false → x ≡ y → ⊥
    differ x y e z = grind (arith, nat_tests)
done_same geometry g m t msg (ClearOf x n at) e = same_story g t
done_same geometry g m t msg (NameGet x n name) e = same_story g t
done_same geometry g m t msg (NamesAfter x n start) e = same_story g t
done_same geometry g m t msg (NameSet x n name child) e = same_if g t _ t _ (flat_kept g t x.0 (name_opened name) (λ flat. refl)) (same_story g t)
done_same geometry g m t msg (NamesPut x n start upto list) e = same_story g t
done_same geometry g m t msg (MakeOf x n child) e = flat_kept g t child.gfid.0 (made child.kind) (made_version child.kind)
done_same geometry g m t msg (MadeOf x n child) e = same_story g t
done_same geometry g m t msg (UnmakeOf x n child) e = same_story g t
done_same geometry g m t msg (MarkOf x n heal head) e = same_story g t
done_same geometry g m t msg (UnmarkOf x n at dirty) e = same_story g t
done_same geometry g m t msg (GfidsAfter start dirty) e = same_story g t

-- one in whose work the store failed
pub failed_same : (g : ℕ) (m : Net) (t : Story) (msg : Message) (q : Request) (version : Option ℕ) → SameStory g t (failed_by m t msg q version)
failed_same g m t msg q None = none q
  where
    none : (q : Request) → SameStory g t (failed_by m t msg q None)
    none (Ask x domain kind) = same_story g t
    none (Release x n) = same_story g t
    none (Query x n) = same_story g t
    none (PreOp x n at dirty) = same_story g t
    none (ReadChunks x n first count) = same_story g t
    none (WriteChunks x n first chunks) = same_story g t
    none (SetLength x n keep count) = same_story g t
    none (PostOp x n at version size attr) = same_story g t
    none (ClearOf x n at) = same_story g t
    none (NameGet x n name) = same_story g t
    none (NamesAfter x n start) = same_story g t
    none (NameSet x n name child) = same_story g t
    none (NamesPut x n start upto list) = same_story g t
    none (MakeOf x n child) = same_story g t
    none (MadeOf x n child) = same_story g t
    none (UnmakeOf x n child) = same_story g t
    none (MarkOf x n heal head) = same_story g t
    none (UnmarkOf x n at dirty) = same_story g t
    none (GfidsAfter start dirty) = same_story g t
failed_same g m t msg q (Some version) = some q
  where
    some : (q : Request) → SameStory g t (failed_by m t msg q (Some version))
    some (Ask x domain kind) = same_story g t
    some (Release x n) = same_story g t
    some (Query x n) = same_story g t
    some (PreOp x n at dirty) = same_story g t
    some (ReadChunks x n first count) = same_story g t
    some (WriteChunks x n first chunks) = opens_same g m t msg x.0 _
    some (SetLength x n keep count) = same_story g t
    some (PostOp x n at version size attr) = same_story g t
    some (ClearOf x n at) = same_story g t
    some (NameGet x n name) = same_story g t
    some (NamesAfter x n start) = same_story g t
    some (NameSet x n name child) = same_story g t
    some (NamesPut x n start upto list) = same_story g t
    some (MakeOf x n child) = same_story g t
    some (MadeOf x n child) = same_story g t
    some (UnmakeOf x n child) = same_story g t
    some (MarkOf x n heal head) = same_story g t
    some (UnmarkOf x n at dirty) = same_story g t
    some (GfidsAfter start dirty) = same_story g t

-- what is sent
pub said_same : (t : Story) (a : ℕ) (z : Body) → ((said_by t a z).posted ≡ t.posted) × ((said_by t a z).tree ≡ t.tree)
said_same t a (ToClient re reply) = (refl, refl)
said_same t a (ToBrick (Ask x domain kind)) = (refl, refl)
said_same t a (ToBrick (Release x n)) = (refl, refl)
said_same t a (ToBrick (Query x n)) = (refl, refl)
said_same t a (ToBrick (PreOp x n at dirty)) = (refl, refl)
said_same t a (ToBrick (ReadChunks x n first count)) = (refl, refl)
said_same t a (ToBrick (WriteChunks x n first chunks)) = (refl, refl)
said_same t a (ToBrick (SetLength x n keep count)) = (refl, refl)
said_same t a (ToBrick (PostOp x n at version size attr)) = (refl, refl)
said_same t a (ToBrick (ClearOf x n at)) = (refl, refl)
said_same t a (ToBrick (NameGet x n name)) = (refl, refl)
said_same t a (ToBrick (NamesAfter x n start)) = (refl, refl)
said_same t a (ToBrick (NameSet x n name None)) = (refl, refl)
said_same t a (ToBrick (NameSet x n name (Some child))) = (refl, refl)
said_same t a (ToBrick (NamesPut x n start upto list)) = (refl, refl)
said_same t a (ToBrick (MakeOf x n child)) = (refl, refl)
said_same t a (ToBrick (MadeOf x n child)) = (refl, refl)
said_same t a (ToBrick (UnmakeOf x n child)) = (refl, refl)
said_same t a (ToBrick (MarkOf x n heal head)) = (refl, refl)
said_same t a (ToBrick (UnmarkOf x n at dirty)) = (refl, refl)
said_same t a (ToBrick (GfidsAfter start dirty)) = (refl, refl)
