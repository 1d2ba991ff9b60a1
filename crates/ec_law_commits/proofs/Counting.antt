-- What the entries of a log make of the PostOps that were counted: a call commits where their number reaches the quorum.
use Rattle.std.proofs.Common.{◌≡◌, ◌⊎◌, ℕ, ◌+◌, ◌<◌, ◌≤◌, Bool, true, false, cond, ◌==◌, ◌&&◌, nat_le, nat_lt, Option, Some, None, List, [], ◌∷◌, ◌++◌, length, refl, sym, ◌∙◌, ap, subst, arith, inl, inr, ⊎_elim}
use Rattle.std.proofs.lemmas.Bool.Decides.{nat_tests}
use Rattle.ec_attr.proofs.Sets.{part}
use Rattle.ec_attr.specs.Bricks.{count_below}
use Rattle.ec_attr.specs.declared.geometry.Geometry.{Geometry}
use Rattle.ec_attr.specs.declared.kind.Domain.TheVariants.{Inode}
use Rattle.ec_attr.specs.declared.kind.LockKind.TheVariants.{Exclusive}
use Rattle.ec_conduct.specs.Given.{quorum}
use Rattle.ec_locks.specs.Table.{holds}
use Rattle.ec_store.specs.Put.{put}
use Rattle.ec_store.specs.Records.{head_at}
use Rattle.ec_wire.specs.declared.entry.Entry.{Entry}
use Rattle.ec_wire.specs.declared.entry.Entry.TheVariants.{Called, Sent, Executed, Torn}
use Rattle.ec_wire.specs.declared.message.Body.{Body}
use Rattle.ec_wire.specs.declared.message.Body.TheVariants.{ToBrick, ToClient}
use Rattle.ec_wire.specs.declared.message.Message.{Message}
use Rattle.ec_wire.specs.declared.request.Request.{Request}
use Rattle.ec_wire.specs.declared.request.Request.TheVariants.{WriteChunks, SetLength, PostOp, NameSet, Make}
use Rattle.ec_history.specs.Changes.{change}
use Rattle.ec_history.specs.Flat.{committed}
use Rattle.ec_history.specs.Run.{Net, after, out_of, run}
use Rattle.ec_history.specs.Story.{Story, commits, commits_of, commits_with, executes, failed_by, is_among, is_commit, is_done, is_unmarked, makes_a_child, op_of, opens, outcome, posts, request_of, said_by, story, tears, told, told_executed, told_torn, torn_by, with_flat, with_post}
use Rattle.ec_law_turns.proofs.Basics.{itself}
use Rattle.ec_law_commits.specs.Commits.{IsCommit, commits_on, is_post_of, is_post_on, times}

-- no PostOp more is counted, and none commits
pub record No (t s : Story) (commits : ℕ → ℕ → Bool) : Type 0 where
  pub posted : s.posted ≡ t.posted
  pub none : (a g : ℕ) → commits a g ≡ false

-- one of call x is
pub record One (geometry : Geometry) (t s : Story) (commits : ℕ → ℕ → Bool) (x : ℕ) : Type 0 where
  pub gfid : ℕ
  pub brick : ℕ
  pub posted : s.posted ≡ (with_post t x gfid brick).posted
  pub by_count : (a g : ℕ) → commits a g ≡ (is_commit geometry t x gfid brick && ((a == x) && (g == gfid)))

-- ## Each entry

either : (u : Bool) (s t : Story) → s.posted ≡ t.posted → (cond u s t).posted ≡ t.posted
either true s t e = e
either false s t e = refl

never : (u w : Bool) → ((u && false) && w) ≡ false
never true w = refl
never false w = refl

said_same : (t : Story) (a : ℕ) (body : Body) → (said_by t a body).posted ≡ t.posted
said_same t a (ToBrick (WriteChunks g n first chunks)) = refl
said_same t a (ToBrick (NameSet g n name (Some child))) = refl
said_same t a body = refl

opens_same : (m : Net) (t : Story) (msg : Message) (g : ℕ) (stripes : ℕ → Bool) → (opens m t msg g stripes).posted ≡ t.posted
opens_same m t msg g stripes = either _ _ t refl

failed_same : (m : Net) (t : Story) (msg : Message) (q : Request) (version : Option ℕ) → (failed_by m t msg q version).posted ≡ t.posted
failed_same m t msg (WriteChunks g n first chunks) (Some version) = opens_same m t msg g.0 (is_among first (length chunks))
failed_same m t msg q version = refl

torn_request : (m : Net) (t : Story) (msg : Message) (q : Request) (version : Option ℕ) → (torn_by m t msg q version).posted ≡ t.posted
torn_request m t msg (WriteChunks g n first chunks) (Some version) = either (holds (m.brick msg.brick).asks n g Inode Exclusive) (opens m t msg g.0 (is_among first (length chunks))) t (opens_same m t msg g.0 (is_among first (length chunks)))
torn_request m t msg q version = refl

torn_same : (m : Net) (t : Story) (o : Option Message) (version : Option ℕ) → (told_torn m t o version).posted ≡ t.posted
torn_same m t None version = refl
torn_same m t (Some msg) version = by_body msg.body
  where
    by_body : (z : Body) → (tears m t msg (request_of z) version).posted ≡ t.posted
    by_body (ToBrick q) = torn_request m t msg q version
    by_body (ToClient re reply) = refl

pub called_same : (t s : Story) (u : Bool) → s.posted ≡ t.posted → (cond u s t).posted ≡ t.posted
called_same t s u e = either u s t e

module _ (geometry : Geometry) (m : Net) (t : Story) (msg : Message) (version : Option ℕ) where
  abbrev Goes : Story → (ℕ → ℕ → Bool) → Type 0
  Goes s commits = No t s commits ⊎ One geometry t s commits msg.call

  abbrev done : Request → Bool
  done q = is_done (out_of m msg q version false).says

  quiet : (q : Request) (s : Story) → s.posted ≡ t.posted → Goes (cond (done q) s t) (λ a g. (done q && false) && ((a == msg.call) && false))
  quiet q s e = inl (record { posted = either (done q) s t e; none = λ a g. never (done q) ((a == msg.call) && false) })

  abbrev more : ℕ → Story
  more g = with_post t msg.call g msg.brick

  abbrev all : ℕ → ℕ → Story
  all g new = with_flat (more g) g (λ flat. committed (quorum geometry) msg.call new (change (quorum geometry) (op_of m msg.call) (t.found msg.call) g flat) flat)

  post_counts : (y new : ℕ) (u v w : Bool) → is_commit geometry t msg.call y msg.brick ≡ w → Goes (cond u (cond v (cond w (all y new) (more y)) t) t) (λ a g. (u && (v && w)) && ((a == msg.call) && (g == y)))
  post_counts y new true true true e = inr (record { gfid = y; brick = msg.brick; posted = refl; by_count = λ a g. ap (λ (c : Bool). c && ((a == msg.call) && (g == y))) (sym e) })
  post_counts y new true true false e = inr (record { gfid = y; brick = msg.brick; posted = refl; by_count = λ a g. ap (λ (c : Bool). c && ((a == msg.call) && (g == y))) (sym e) })
  post_counts y new true false w e = inl (record { posted = refl; none = λ a g. refl })
  post_counts y new false v w e = inl (record { posted = refl; none = λ a g. refl })

  outcome_counts : (q : Request) → Goes (outcome geometry m t msg q version false) (λ a g. commits_with geometry m t msg (Some q) version false && ((a == msg.call) && is_post_on g (Some q)))
  outcome_counts (WriteChunks x n first chunks) = quiet (WriteChunks x n first chunks) _ (opens_same m t msg x.0 (is_among first (length chunks)))
  outcome_counts (SetLength x n keep count) = quiet (SetLength x n keep count) _ (opens_same m t msg x.0 (λ s. nat_le keep s))
  outcome_counts (NameSet x n name child) = quiet (NameSet x n name child) _ (either _ _ t refl)
  outcome_counts (Make x n child) = quiet (Make x n child) _ refl
  outcome_counts (PostOp x n at new size attr) = post_counts x.0 new (done (PostOp x n at new size attr)) (is_unmarked (head_at (m.brick msg.brick).records x.0)) (is_commit geometry t msg.call x.0 msg.brick) refl
  outcome_counts q = quiet q t refl

  executes_counts : (o : Option Request) (failed : Bool) → Goes (executes geometry m t msg o version failed) (λ a g. commits_with geometry m t msg o version failed && ((a == msg.call) && is_post_on g o))
  executes_counts None failed = inl (record { posted = refl; none = λ a g. refl })
  executes_counts (Some q) true = inl (record { posted = failed_same m t msg q version; none = λ a g. refl })
  executes_counts (Some q) false = outcome_counts q

-- a message of the log that the entry executes
pub record Counts (geometry : Geometry) (m : Net) (t : Story) (e : Entry) : Type 0 where
  pub number : ℕ
  pub message : Message
  pub is : m.said number ≡ Some message
  pub one : One geometry t (told geometry m t e) (λ a g. commits_on geometry m t a g e) message.call

abbrev pub Any : Geometry → Net → Story → Entry → Type 0
Any geometry m t e = No t (told geometry m t e) (λ a g. commits_on geometry m t a g e) ⊎ Counts geometry m t e

pub counts : (geometry : Geometry) (m : Net) (t : Story) (e : Entry) → Any geometry m t e
counts geometry m t (Called a client op) = inl (record { posted = either (makes_a_child op) _ t refl; none = λ x g. refl })
counts geometry m t (Sent msg) = inl (record { posted = said_same t msg.call msg.body; none = λ a g. refl })
counts geometry m t (Executed i version failed) = by (m.said i) refl
  where
    Here : Option Message → (ℕ → ℕ → Bool)
    Here o = λ a g. commits_of geometry m t o version failed && is_post_of a g o

    by : (o : Option Message) → m.said i ≡ o → No t (told_executed geometry m t (m.said i) version failed) (λ a g. commits_of geometry m t (m.said i) version failed && is_post_of a g (m.said i)) ⊎ Counts geometry m t (Executed i version failed)
    by None e = inl (subst (λ (o : Option Message). No t (told_executed geometry m t o version failed) (λ a g. commits_of geometry m t o version failed && is_post_of a g o)) (sym e) (record { posted = refl; none = λ a g. refl }))
    by (Some msg) e = ⊎_elim
        (λ still. inl (subst (λ (o : Option Message). No t (told_executed geometry m t o version failed) (λ a g. commits_of geometry m t o version failed && is_post_of a g o)) (sym e) still))
        (λ one. inr (record { number = i; message = msg; is = e; one = subst (λ (o : Option Message). One geometry t (told_executed geometry m t o version failed) (λ a g. commits_of geometry m t o version failed && is_post_of a g o) msg.call) (sym e) one }))
        (executes_counts geometry m t msg version (request_of msg.body) failed)
counts geometry m t (Torn i bytes version) = inl (record { posted = torn_same m t (m.said i) version; none = λ a g. refl })
counts geometry m t e = inl (record { posted = refl; none = λ a g. refl })

-- ## The count of a call on a gfid

module _ (geometry : Geometry) (a g : ℕ) where
  abbrev Before : Net → Story → Entry → Type 0
  Before m t e = (y : ℕ) → t.posted a g y ≡ true → (told geometry m t e).posted a g y ≡ true

  -- one PostOp more at most, and that of this call on this gfid counts
  stays_true : (u : Bool) (x : Bool) → x ≡ true → cond u true x ≡ true
  stays_true true x e = refl
  stays_true false x e = e

  same_count : (p q : ℕ → Bool) → p ≡ q → count_below geometry.n p ≡ count_below geometry.n q
  same_count p q e = ap (count_below geometry.n) e

  apart : (u w v x : Bool) → (u && w) ≡ false → cond (u && w && v) true x ≡ x
  apart true true v x e = absurd (cc)
  apart true false v x e = refl
  apart false w v x e = refl

  -- an entry by which the count goes from below the quorum to it
  abbrev reaches : ℕ → ℕ → Bool
  reaches x y = nat_lt x (quorum geometry) && nat_le (quorum geometry) y

  none_reached : (x : ℕ) → reaches x x ≡ false
  none_reached x = grind (arith, nat_tests)

  pub record Goes_on (m : Net) (t : Story) (e : Entry) : Type 0 where
    pub before : Before m t e
    pub commit : commits_on geometry m t a g e ≡ reaches (posts geometry t a g) (posts geometry (told geometry m t e) a g)

  by_one : (m : Net) (t : Story) (e : Entry) → Counts geometry m t e → Goes_on m t e
  by_one m t e c = record {
    before = λ y h. ap (λ (f : ℕ → ℕ → ℕ → Bool). f a g y) c.one.posted ∙ stays_true ((a == x) && (g == c.one.gfid) && (y == c.one.brick)) (t.posted a g y) h;
    commit = by ((a == x) && (g == c.one.gfid)) refl;
  }
    where
      x : ℕ
      x = c.message.call

      by : (u : Bool) → ((a == c.message.call) && (g == c.one.gfid)) ≡ u → commits_on geometry m t a g e ≡ reaches (posts geometry t a g) (posts geometry (told geometry m t e) a g)
      by true h =
          let same : a ≡ c.message.call = grind (arith, nat_tests) in
          let on : g ≡ c.one.gfid = grind (arith, nat_tests) in
          let new : posts geometry (told geometry m t e) a g ≡ posts geometry (with_post t a g c.one.brick) a g = ap (λ (f : ℕ → ℕ → ℕ → Bool). count_below geometry.n (f a g)) c.one.posted ∙ (ap (λ (z : ℕ). count_below geometry.n ((with_post t z c.one.gfid c.one.brick).posted a g)) (sym same) ∙ ap (λ (z : ℕ). count_below geometry.n ((with_post t a z c.one.brick).posted a g)) (sym on)) in
          let told_it = c.one.by_count a g in
          let here : is_commit geometry t c.message.call c.one.gfid c.one.brick ≡ is_commit geometry t a g c.one.brick = ap (λ (z : ℕ). is_commit geometry t z c.one.gfid c.one.brick) (sym same) ∙ ap (λ (z : ℕ). is_commit geometry t a z c.one.brick) (sym on) in
          told_it ∙ (both (is_commit geometry t c.message.call c.one.gfid c.one.brick) _ h ∙ (here ∙ ap (λ (z : ℕ). reaches (posts geometry t a g) z) (sym new)))
        where
          both : (p q : Bool) → q ≡ true → (p && q) ≡ p
          both true q e = e
          both false q e = refl
      by false h =
          let old : posts geometry (told geometry m t e) a g ≡ posts geometry t a g = ap (λ (f : ℕ → ℕ → ℕ → Bool). count_below geometry.n (f a g)) c.one.posted ∙ same_each in
          c.one.by_count a g ∙ (none (is_commit geometry t c.message.call c.one.gfid c.one.brick) _ h ∙ sym (ap (λ (z : ℕ). reaches (posts geometry t a g) z) old ∙ none_reached (posts geometry t a g)))
        where
          none : (p q : Bool) → q ≡ false → (p && q) ≡ false
          none true q e = e
          none false q e = refl

          each : (y : ℕ) → (with_post t c.message.call c.one.gfid c.one.brick).posted a g y ≡ t.posted a g y
          each y = apart (a == c.message.call) (g == c.one.gfid) (y == c.one.brick) (t.posted a g y) h

          same_each : count_below geometry.n ((with_post t c.message.call c.one.gfid c.one.brick).posted a g) ≡ count_below geometry.n (t.posted a g)
          same_each =
              let le = part geometry.n ((with_post t c.message.call c.one.gfid c.one.brick).posted a g) (t.posted a g) (λ y lt z. sym (each y) ∙ z) in
              let ge = part geometry.n (t.posted a g) ((with_post t c.message.call c.one.gfid c.one.brick).posted a g) (λ y lt z. each y ∙ z) in
              omega (arith, le, ge)

  by_none : (m : Net) (t : Story) (e : Entry) → No t (told geometry m t e) (λ x y. commits_on geometry m t x y e) → Goes_on m t e
  by_none m t e still = record {
    before = λ y h. ap (λ (f : ℕ → ℕ → ℕ → Bool). f a g y) still.posted ∙ h;
    commit = still.none a g ∙ sym (ap (λ (f : ℕ → ℕ → ℕ → Bool). reaches (posts geometry t a g) (count_below geometry.n (f a g))) still.posted ∙ none_reached (posts geometry t a g));
  }

  pub entry_goes : (m : Net) (t : Story) (e : Entry) → Goes_on m t e
  entry_goes m t e = ⊎_elim (λ still. by_none m t e still) (λ c. by_one m t e c) (counts geometry m t e)

  pub rises : (m : Net) (t : Story) (e : Entry) → posts geometry t a g ≤ posts geometry (told geometry m t e) a g
  rises m t e = part geometry.n (t.posted a g) ((told geometry m t e).posted a g) (λ y lt h. (entry_goes m t e).before y h)

  -- ## Over a log

  pub all_rise : (es : List Entry) (m : Net) (t : Story) → posts geometry t a g ≤ posts geometry (story geometry es m t) a g
  all_rise [] m t = omega arith
  all_rise (e ∷ es) m t = let one = rises m t e in let more = all_rise es (after m e) (told geometry m t e) in omega (arith, one, more)

  no_commit : (u : Bool) (x : ℕ) → u ≡ false → x ≡ 0 → cond u 1 0 + x ≡ 0
  no_commit true x e f = absurd (cc)
  no_commit false x e f = omega (arith, f)

  not_past : (x y : ℕ) → quorum geometry ≤ x → reaches x y ≡ false
  not_past x y le = grind (arith, nat_tests)

  not_there : (x y : ℕ) → y < quorum geometry → reaches x y ≡ false
  not_there x y lt = grind (arith, nat_tests)

  reached : (x y : ℕ) → x < quorum geometry → quorum geometry ≤ y → reaches x y ≡ true
  reached x y lt le = grind (arith, nat_tests)

  -- past the quorum none commits, nor below it
  pub none_past : (es : List Entry) (m : Net) (t : Story) → quorum geometry ≤ posts geometry t a g → times geometry a g es m t ≡ 0
  none_past [] m t le = refl
  none_past (e ∷ es) m t le = no_commit (commits_on geometry m t a g e) _ ((entry_goes m t e).commit ∙ not_past (posts geometry t a g) (posts geometry (told geometry m t e) a g) le) (none_past es (after m e) (told geometry m t e) (let up = rises m t e in omega (arith, le, up)))

  pub none_below : (es : List Entry) (m : Net) (t : Story) → posts geometry (story geometry es m t) a g < quorum geometry → times geometry a g es m t ≡ 0
  none_below [] m t lt = refl
  none_below (e ∷ es) m t lt = no_commit (commits_on geometry m t a g e) _ ((entry_goes m t e).commit ∙ not_there (posts geometry t a g) (posts geometry (told geometry m t e) a g) (let up = all_rise es (after m e) (told geometry m t e) in omega (arith, lt, up))) (none_below es (after m e) (told geometry m t e) lt)

  -- where it goes from below the quorum to it, one does and no other
  pub record IsOnce (es : List Entry) (m : Net) (t : Story) : Type 0 where
    pub front : List Entry
    pub commit : Entry
    pub back : List Entry
    pub parts : es ≡ front ++ commit ∷ back
    pub commits : commits_on geometry (run front m) (story geometry front m t) a g commit ≡ true
    pub once : times geometry a g es m t ≡ 1

  pub just_one : (es : List Entry) (m : Net) (t : Story) → posts geometry t a g < quorum geometry → quorum geometry ≤ posts geometry (story geometry es m t) a g → IsOnce es m t
  just_one [] m t lt le = absurd (omega (arith, lt, le))
  just_one (e ∷ es) m t lt le = by (nat_le (quorum geometry) (posts geometry (told geometry m t e) a g)) refl (λ low. just_one es (after m e) (told geometry m t e) low le)
    where
      first : (u : Bool) (x : ℕ) → u ≡ true → x ≡ 0 → cond u 1 0 + x ≡ 1
      first true x e f = omega (arith, f)
      first false x e f = absurd (cc)

      later : (u : Bool) (x : ℕ) → u ≡ false → x ≡ 1 → cond u 1 0 + x ≡ 1
      later true x e f = absurd (cc)
      later false x e f = omega (arith, f)

      by : (u : Bool) → nat_le (quorum geometry) (posts geometry (told geometry m t e) a g) ≡ u → (posts geometry (told geometry m t e) a g < quorum geometry → IsOnce es (after m e) (told geometry m t e)) → IsOnce (e ∷ es) m t
      by true h next =
          let up : quorum geometry ≤ posts geometry (told geometry m t e) a g = grind (arith, nat_tests) in
          let is = (entry_goes m t e).commit ∙ reached (posts geometry t a g) (posts geometry (told geometry m t e) a g) lt up in
          record { front = []; commit = e; back = es; parts = refl; commits = is; once = first (commits_on geometry m t a g e) (times geometry a g es (after m e) (told geometry m t e)) is (none_past es (after m e) (told geometry m t e) up) }
      by false h next =
          let low : posts geometry (told geometry m t e) a g < quorum geometry = grind (arith, nat_tests) in
          let is = (entry_goes m t e).commit ∙ not_there (posts geometry t a g) (posts geometry (told geometry m t e) a g) low in
          let more = next low in
          record { front = e ∷ more.front; commit = more.commit; back = more.back; parts = ap (λ (xs : List Entry). e ∷ xs) more.parts; commits = more.commits; once = later (commits_on geometry m t a g e) (times geometry a g es (after m e) (told geometry m t e)) is more.once }

  -- so none does twice
  pub at_most_once : (es : List Entry) (m : Net) (t : Story) → times geometry a g es m t ≤ 1
  at_most_once es m t = by (nat_le (quorum geometry) (posts geometry t a g)) (nat_le (quorum geometry) (posts geometry (story geometry es m t) a g)) refl refl
    where
      by : (u w : Bool) → nat_le (quorum geometry) (posts geometry t a g) ≡ u → nat_le (quorum geometry) (posts geometry (story geometry es m t) a g) ≡ w → times geometry a g es m t ≤ 1
      by true w e f =
          let past : quorum geometry ≤ posts geometry t a g = grind (arith, nat_tests) in
          let none = none_past es m t past in
          omega (arith, none)
      by false true e f =
          let low : posts geometry t a g < quorum geometry = grind (arith, nat_tests) in
          let there : quorum geometry ≤ posts geometry (story geometry es m t) a g = grind (arith, nat_tests) in
          let one = (just_one es m t low there).once in
          omega (arith, one)
      by false false e f =
          let low : posts geometry (story geometry es m t) a g < quorum geometry = grind (arith, nat_tests) in
          let none = none_below es m t low in
          omega (arith, none)

  -- of two parts
  pub times_both : (es fs : List Entry) (m : Net) (t : Story) → times geometry a g (es ++ fs) m t ≡ times geometry a g es m t + times geometry a g fs (run es m) (story geometry es m t)
  times_both [] fs m t = omega arith
  times_both (e ∷ es) fs m t = let more = times_both es fs (after m e) (told geometry m t e) in omega (arith, more)

pub story_both : (geometry : Geometry) (es fs : List Entry) (m : Net) (t : Story) → story geometry (es ++ fs) m t ≡ story geometry fs (run es m) (story geometry es m t)
story_both geometry [] fs m t = refl
story_both geometry (e ∷ es) fs m t = story_both geometry es fs (after m e) (told geometry m t e)

-- ## What a commit makes of the flat files

module _ (geometry : Geometry) (m : Net) (t : Story) (a g : ℕ) where
  truly : (u w : Bool) → (u && w) ≡ true → (u ≡ true) × (w ≡ true)
  truly true w e = (refl, e)
  truly false w e = absurd (cc)

  -- a commit of call a on gfid g, at a version
  abbrev pub Is_change : Story → Type 0
  Is_change s = (version : ℕ) × (s.tree ≡ put t.tree g (committed (quorum geometry) a version (change (quorum geometry) (op_of m a) (t.found a) g (t.tree g)) (t.tree g)))

  by_post : (x b new : ℕ) (u v w : Bool) → a ≡ x → ((u && (v && w)) ≡ true)
      → (y : ℕ) → g ≡ y
      → Is_change (cond u (cond v (cond w (with_flat (with_post t x y b) y (λ flat. committed (quorum geometry) x new (change (quorum geometry) (op_of m x) (t.found x) y flat) flat)) (with_post t x y b)) t) t)
  by_post x b new true true true same e y on = (new, ap (λ (z : ℕ). put t.tree z (committed (quorum geometry) x new (change (quorum geometry) (op_of m x) (t.found x) z (t.tree z)) (t.tree z))) (sym on) ∙ ap (λ (z : ℕ). put t.tree g (committed (quorum geometry) z new (change (quorum geometry) (op_of m z) (t.found z) g (t.tree g)) (t.tree g))) (sym same))
  by_post x b new true true false same e y on = absurd (cc)
  by_post x b new true false w same e y on = absurd (cc)
  by_post x b new false v w same e y on = absurd (cc)

  by_request : (msg : Message) (version : Option ℕ) (o : Option Request) (failed : Bool) → (commits_with geometry m t msg o version failed && ((a == msg.call) && is_post_on g o)) ≡ true → Is_change (executes geometry m t msg o version failed)
  by_request msg version None failed e = absurd (cc)
  by_request msg version (Some q) true e = absurd (cc)
  by_request msg version (Some q) false e = of q e
    where
      of : (q : Request) → (commits_with geometry m t msg (Some q) version false && ((a == msg.call) && is_post_on g (Some q))) ≡ true → Is_change (outcome geometry m t msg q version false)
      of (PostOp x n at new size attr) e =
          let p = truly (commits_with geometry m t msg (Some (PostOp x n at new size attr)) version false) ((a == msg.call) && (g == x.0)) e in
          let k = truly (a == msg.call) (g == x.0) p.1 in
          by_post msg.call msg.brick new (is_done (out_of m msg (PostOp x n at new size attr) version false).says) (is_unmarked (head_at (m.brick msg.brick).records x.0)) (is_commit geometry t msg.call x.0 msg.brick) (grind (arith, nat_tests)) p.0 x.0 (grind (arith, nat_tests))
      of q e = absurd (let k : false ≡ true = sym (never (is_done (out_of m msg q version false).says) ((a == msg.call) && false)) ∙ e in cc)

  by_message : (o : Option Message) (version : Option ℕ) (failed : Bool) → (commits_of geometry m t o version failed && is_post_of a g o) ≡ true → Is_change (told_executed geometry m t o version failed)
  by_message None version failed e = absurd (cc)
  by_message (Some msg) version failed e = by_request msg version (request_of msg.body) failed e

  pub changes : (e : Entry) → commits_on geometry m t a g e ≡ true → Is_change (told geometry m t e)
  changes (Executed i version failed) is = by_message (m.said i) version failed is
  changes e is = absurd (cc)

-- ## Whose commit an entry is

module _ (geometry : Geometry) (m : Net) (t : Story) where
  all_three : (u w k : Bool) → u ≡ true → w ≡ true → k ≡ true → (u && (w && k)) ≡ true
  all_three true true true e f h = refl
  all_three true true false e f h = absurd (cc)
  all_three true false k e f h = absurd (cc)
  all_three false w k e f h = absurd (cc)

  no_post : (u : Bool) → (u && false) ≡ true → ⊥
  no_post true e = absurd (cc)
  no_post false e = absurd (cc)

  of_request : (msg : Message) (version : Option ℕ) (o : Option Request) (failed : Bool) → commits_with geometry m t msg o version failed ≡ true → (y : ℕ) × ((commits_with geometry m t msg o version failed && ((msg.call == msg.call) && is_post_on y o)) ≡ true)
  of_request msg version None failed e = absurd (cc)
  of_request msg version (Some q) true e = absurd (cc)
  of_request msg version (Some q) false e = of q e
    where
      of : (q : Request) → commits_with geometry m t msg (Some q) version false ≡ true → (y : ℕ) × ((commits_with geometry m t msg (Some q) version false && ((msg.call == msg.call) && is_post_on y (Some q))) ≡ true)
      of (PostOp x n at new size attr) e = (x.0, all_three (commits_with geometry m t msg (Some (PostOp x n at new size attr)) version false) (msg.call == msg.call) (x.0 == x.0) e (itself msg.call) (itself x.0))
      of q e = absurd (no_post (is_done (out_of m msg q version false).says) e)

  of_message : (o : Option Message) (version : Option ℕ) (failed : Bool) → commits_of geometry m t o version failed ≡ true → (a : ℕ) × (y : ℕ) × ((commits_of geometry m t o version failed && is_post_of a y o) ≡ true)
  of_message None version failed e = absurd (cc)
  of_message (Some msg) version failed e = let r = of_request msg version (request_of msg.body) failed e in (msg.call, r.0, r.1)

  pub of_call : (e : Entry) → commits geometry m t e ≡ true → IsCommit geometry m t e
  of_call (Executed i version failed) is =
      let o = of_message (m.said i) version failed is in
      let c = changes geometry m t o.0 o.1 (Executed i version failed) o.2 in
      record { call = o.0; gfid = o.1; commits = o.2; version = c.0; changes = c.1 }
  of_call e is = absurd (cc)
