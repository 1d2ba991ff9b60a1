-- A brick that stops, returns, cuts a client off or is replaced, and a request that is executed or torn: its acts may come,
-- and the link stands after them.
use Rattle.std.proofs.Common.{◌≡◌, ℕ, ◌*◌, ◌<◌, Bool, true, false, cond, Option, Some, None, List, [], ◌∷◌, ◌++◌, length, refl, sym, ◌∙◌, subst, arith}
use Rattle.std.proofs.lemmas.Bool.Decides.{nat_tests}
use Rattle.std.specs.Option.{option_map}
use Rattle.ec_attr.specs.declared.gfid.Gfid.{Gfid}
use Rattle.ec_attr.specs.declared.head.Head.{Head}
use Rattle.ec_law_ballots.specs.Act.{Act, step}
use Rattle.ec_law_ballots.specs.Act.Act.{Stop, Replace}
use Rattle.ec_law_net.specs.Turns.{View}
use Rattle.ec_law_net.specs.Link.{IsHead}
use Rattle.std.specs.Prelude.{filter, take}
use Rattle.ec_attr.specs.declared.kind.Domain.TheVariants.{Inode, Heal}
use Rattle.ec_locks.specs.Table.{stays}
use Rattle.ec_locks.specs.declared.ask.Ask.{Ask as Asking}
use Rattle.ec_locks.specs.declared.ask.Leaving.TheVariants.{Number}
use Rattle.ec_store.specs.Records.{head_at, with_bytes}
use Rattle.ec_wire.specs.declared.reply.Reply.{Reply}
use Rattle.ec_wire.specs.declared.request.Request.{Request}
use Rattle.ec_wire.specs.declared.request.Request.TheVariants.{Ask, Release, Query, PreOp, ReadChunks, WriteChunks, SetLength, PostOp, Clear, NameGet, NamesAfter, NameSet, NamesPut, Make, Made, Unmake, Mark, Unmark, GfidsAfter}
use Rattle.ec_brick.specs.Rows.{fence, row_of}
use Rattle.ec_brick.specs.State.{State as Brick}
use Rattle.ec_brick.specs.Step.{Failing, Fine, Before, Within, Out, Work, by_row, executed, fenced, head_read, judged, part_work, refusal_of, torn_off, version_of, work, worked}
use Rattle.ec_brick.specs.Work.{bytes_of, with_unset}
use Rattle.ec_brick.specs.declared.row.Row.{Row}
use Rattle.ec_brick.specs.declared.row.Need.TheVariants.{Either}
use Rattle.ec_brick.specs.declared.row.Check.TheVariants.{Content}
use Rattle.ec_attr.specs.declared.kind.Kind.TheVariants.{File}
use Rattle.ec_history.specs.Story.{is_done}
use Rattle.ec_history.specs.Run.{Net, call_of}
use Rattle.ec_law_net.specs.Turns.{acts_locks, acts_worked, counted, exclusive, has_directory, is_shown, Maker}
use Rattle.ec_law_net.specs.Link.{Below, GrantsReady, Linked, Ready}
use Rattle.ec_law_net.proofs.Guarded.{IsGuarded, own_row, works}
use Rattle.ec_law_net.proofs.Outcomes.{head_kept}
use Rattle.ec_law_net.proofs.Standing.{Stepped, head_moves, own_grants, stepped_locks, stepped_work}

pub below_both : (j : ℕ) (xs ys : List Asking) → Below j xs → Below j ys → Below j (xs ++ ys)
below_both j [] ys h i = i
below_both j (x ∷ xs) ys h i = (h.0, below_both j xs ys h.1 i)

pub below_filter : (j : ℕ) (p : Asking → Bool) (xs : List Asking) → Below j xs → Below j (filter p xs)
below_filter j p [] h = tt
below_filter j p (x ∷ xs) h = at (below_filter j p xs h.1) (p x)
  where
    at : Below j (filter p xs) → (t : Bool) → Below j (cond t (x ∷ filter p xs) (filter p xs))
    at i true = (h.0, i)
    at i false = i

-- the head of gfid g after a piece of work, whatever came of it
fenced_heads : (g : ℕ) (s : Brick) (f : Failing) (w : Work) (r : Row) → head_at w.done.records g ≡ head_at s.records g → head_at w.broken.records g ≡ head_at s.records g → (o : Option Reply) → head_at (fenced s f w r o).brick.records g ≡ head_at s.records g
fenced_heads g s f w r done broken (Some y) = refl
fenced_heads g s f w r done broken None = read f
  where
    works : (f : Failing) (v : Option ℕ) → head_at (worked s f w v).brick.records g ≡ head_at s.records g
    works Fine v = done
    works Before v = refl
    works Within v = broken

    judges : (f : Failing) (v : Option ℕ) (o : Option Reply) → head_at (judged s f w v o).brick.records g ≡ head_at s.records g
    judges f v None = works f v
    judges f v (Some y) = refl

    read : (f : Failing) → head_at (head_read s f w r (head_at s.records r.subject.0)).brick.records g ≡ head_at s.records g
    read Fine = judges Fine (version_of (head_at s.records r.subject.0)) (refusal_of s r (head_at s.records r.subject.0))
    read Before = refl
    read Within = judges Within (version_of (head_at s.records r.subject.0)) (refusal_of s r (head_at s.records r.subject.0))

-- a torn write leaves heads as they were, and the brick stops
pub torn_heads : (g : ℕ) (s : Brick) (f : Failing) (q : Request) (count : ℕ) → head_at (torn_off s f q count).brick.records g ≡ head_at s.records g
torn_heads g s f (WriteChunks x n first chunks) count = fenced_heads g s f (part_work s x first (take count (bytes_of chunks))) (own_row x n Either (Content File)) (head_kept s.records x.0 (λ r. with_bytes r (512 * first) (take count (bytes_of chunks))) (λ r. refl) g) (head_kept s.records x.0 (λ r. with_unset r (512 * first) (length (take count (bytes_of chunks)))) (λ r. refl) g) (fence s.asks (own_row x n Either (Content File)))
torn_heads g s f (Ask x domain kind) count = refl
torn_heads g s f (Release x n) count = refl
torn_heads g s f (Query x n) count = refl
torn_heads g s f (PreOp x n at dirty) count = refl
torn_heads g s f (ReadChunks x n first k) count = refl
torn_heads g s f (SetLength x n keep k) count = refl
torn_heads g s f (PostOp x n at version size attr) count = refl
torn_heads g s f (Clear x n at) count = refl
torn_heads g s f (NameGet x n name) count = refl
torn_heads g s f (NamesAfter x n start) count = refl
torn_heads g s f (NameSet x n name child) count = refl
torn_heads g s f (NamesPut x n start upto list) count = refl
torn_heads g s f (Make x n child) count = refl
torn_heads g s f (Made x n child) count = refl
torn_heads g s f (Unmake x n child) count = refl
torn_heads g s f (Mark x n heal head) count = refl
torn_heads g s f (Unmark x n at dirty) count = refl
torn_heads g s f (GfidsAfter start dirty) count = refl

-- it is down then, with no asks and nothing removed
pub torn_down : (g : ℕ) (s : Brick) (f : Failing) (q : Request) (count : ℕ) → ((torn_off s f q count).brick.up ≡ false) × ((torn_off s f q count).brick.asks ≡ []) × ((torn_off s f q count).brick.removed g ≡ false)
torn_down g s f (WriteChunks x n first chunks) count = (refl, refl, refl)
torn_down g s f (Ask x domain kind) count = (refl, refl, refl)
torn_down g s f (Release x n) count = (refl, refl, refl)
torn_down g s f (Query x n) count = (refl, refl, refl)
torn_down g s f (PreOp x n at dirty) count = (refl, refl, refl)
torn_down g s f (ReadChunks x n first k) count = (refl, refl, refl)
torn_down g s f (SetLength x n keep k) count = (refl, refl, refl)
torn_down g s f (PostOp x n at version size attr) count = (refl, refl, refl)
torn_down g s f (Clear x n at) count = (refl, refl, refl)
torn_down g s f (NameGet x n name) count = (refl, refl, refl)
torn_down g s f (NamesAfter x n start) count = (refl, refl, refl)
torn_down g s f (NameSet x n name child) count = (refl, refl, refl)
torn_down g s f (NamesPut x n start upto list) count = (refl, refl, refl)
torn_down g s f (Make x n child) count = (refl, refl, refl)
torn_down g s f (Made x n child) count = (refl, refl, refl)
torn_down g s f (Unmake x n child) count = (refl, refl, refl)
torn_down g s f (Mark x n heal head) count = (refl, refl, refl)
torn_down g s f (Unmark x n at dirty) count = (refl, refl, refl)
torn_down g s f (GfidsAfter start dirty) count = (refl, refl, refl)

module _ (n k g : ℕ) (m : Net) (v : View) (b : ℕ) (lt : b < n) (l : Linked n g m v) where
  -- a brick that stops, with the heads that it had
  pub stops : (new : Brick) → head_at new.records g ≡ head_at (m.brick b).records g → new.asks ≡ [] → new.removed g ≡ false → Stepped n k g m v b (Stop b ∷ []) new
  stops new f asks gone = record {
    runs = (refl, refl);
    stands = record {
      head = subst (λ (z : Option Head). IsHead z (step v.core (Stop b)) b) (sym f) (head_moves (head_at (m.brick b).records g) v.core (step v.core (Stop b)) b (l.heads b lt) refl refl refl refl);
      unmade = grind (arith, nat_tests);
      holds = subst (λ (z : List Asking). (step v.core (Stop b)).holder b ≡ option_map v.of (exclusive g Inode z)) (sym asks) (grind (arith, nat_tests));
      heals = subst (λ (z : List Asking). (step v.core (Stop b)).healer b ≡ option_map (λ i. call_of (m.said i)) (exclusive g Heal z)) (sym asks) (grind (arith, nat_tests));
      makes = λ e. absurd (grind (arith, nat_tests));
      present = λ c ne. refl;
      version = λ c ne. refl;
      dirty = λ c ne. refl;
      marked = λ c ne. refl;
      removed = λ c ne. grind (arith, nat_tests);
      holder = λ c ne. grind (arith, nat_tests);
      healer = λ c ne. grind (arith, nat_tests);
      maker = λ c ne. grind (arith, nat_tests);
      carries = l.kept;
      shares = λ x c. let e = l.shared x c in grind (arith, nat_tests);
      reads = l.reading;
    };
  }

  -- a brick of which only up and other gfids' records change
  pub rests : (new : Brick) → head_at new.records g ≡ head_at (m.brick b).records g → new.asks ≡ (m.brick b).asks → new.removed g ≡ (m.brick b).removed g → Stepped n k g m v b [] new
  rests new f asks gone = record {
    runs = refl;
    stands = record {
      head = subst (λ (z : Option Head). IsHead z v.core b) (sym f) (l.heads b lt);
      unmade = l.removed b lt ∙ sym gone;
      holds = subst (λ (z : List Asking). v.core.holder b ≡ option_map v.of (exclusive g Inode z)) (sym asks) (l.holders b lt);
      heals = subst (λ (z : List Asking). v.core.healer b ≡ option_map (λ i. call_of (m.said i)) (exclusive g Heal z)) (sym asks) (l.healers b lt);
      makes = subst (λ (z : List Asking). v.core.maker b ≡ true → has_directory m.said v.maker z ≡ true) (sym asks) (l.makers b lt);
      present = λ c ne. refl;
      version = λ c ne. refl;
      dirty = λ c ne. refl;
      marked = λ c ne. refl;
      removed = λ c ne. refl;
      holder = λ c ne. refl;
      healer = λ c ne. refl;
      maker = λ c ne. refl;
      carries = l.kept;
      shares = l.shared;
      reads = l.reading;
    };
  }

  -- a brick that is down and has lost the record
  pub loses : (new : Brick) → (m.brick b).up ≡ false → head_at new.records g ≡ None → new.asks ≡ (m.brick b).asks → new.removed g ≡ (m.brick b).removed g → Stepped n k g m v b (Replace b ∷ []) new
  loses new down f asks gone =
      let d = l.down b lt down in
      record {
        runs = ((holds_none, λ x. l.shared x b, heals_none, makes_none (v.core.maker b) refl, l.removed b lt ∙ d.removed), refl);
        stands = record {
          head = subst (λ (z : Option Head). IsHead z (step v.core (Replace b)) b) (sym f) (grind (arith, nat_tests));
          unmade = l.removed b lt ∙ sym gone;
          holds = subst (λ (z : List Asking). v.core.holder b ≡ option_map v.of (exclusive g Inode z)) (sym asks) (l.holders b lt);
          heals = subst (λ (z : List Asking). v.core.healer b ≡ option_map (λ i. call_of (m.said i)) (exclusive g Heal z)) (sym asks) (l.healers b lt);
          makes = subst (λ (z : List Asking). v.core.maker b ≡ true → has_directory m.said v.maker z ≡ true) (sym asks) (l.makers b lt);
          present = λ c ne. grind (arith, nat_tests);
          version = λ c ne. refl;
          dirty = λ c ne. refl;
          marked = λ c ne. refl;
          removed = λ c ne. refl;
          holder = λ c ne. refl;
          healer = λ c ne. refl;
          maker = λ c ne. refl;
          carries = l.kept;
          shares = l.shared;
          reads = l.reading;
        };
      }
    where
      holds_none : v.core.holder b ≡ None
      holds_none = subst (λ (z : List Asking). v.core.holder b ≡ option_map v.of (exclusive g Inode z)) (l.down b lt down).asks (l.holders b lt)

      heals_none : v.core.healer b ≡ None
      heals_none = subst (λ (z : List Asking). v.core.healer b ≡ option_map (λ i. call_of (m.said i)) (exclusive g Heal z)) (l.down b lt down).asks (l.healers b lt)

      nobody : (o : Option Maker) → has_directory m.said o [] ≡ false
      nobody None = refl
      nobody (Some x) = refl

      makes_none : (t : Bool) → v.core.maker b ≡ t → v.core.maker b ≡ false
      makes_none false e = e
      makes_none true e = absurd (let h = subst (λ (z : List Asking). has_directory m.said v.maker z ≡ true) (l.down b lt down).asks (l.makers b lt e) in let o = nobody v.maker in cc)

  -- what an execution is, by the brick's step
  abbrev pub Executes : ℕ → Request → Out → Type 0
  Executes a q o = Stepped n k g m v b (acts_worked g a b (counted v.core a (exclusive g Inode (m.brick b).asks)) q o.says ++ acts_locks g m v b (m.brick b).asks o.brick.asks) o.brick

  no_work : (t u : Bool) → cond {A = List Act} t [] (cond u [] []) ≡ []
  no_work true u = refl
  no_work false true = refl
  no_work false false = refl

  -- an Ask or a Release
  locks : (q : Request) (a : ℕ) (o : Out) → acts_worked g a b (counted v.core a (exclusive g Inode (m.brick b).asks)) q o.says ≡ [] → head_at o.brick.records g ≡ head_at (m.brick b).records g → o.brick.removed g ≡ (m.brick b).removed g → GrantsReady g m v b (m.brick b).asks o.brick.asks → Executes a q o
  locks q a o e f u ready = subst (λ (xs : List Act). Stepped n k g m v b (xs ++ acts_locks g m v b (m.brick b).asks o.brick.asks) o.brick) (sym e) (stepped_locks n k g m v b (l.heads b lt) (l.removed b lt) (l.holders b lt) (l.healers b lt) (l.makers b lt) (own_grants n g m v l) o.brick f u ready)

  -- the acts of an execution, and that its brick's asks came before and that it stays up
  pub record Does (a : ℕ) (q : Request) (o : Out) : Type 0 where
    pub stepped : Executes a q o
    pub below : Below m.next o.brick.asks
    pub up : o.brick.up ≡ (m.brick b).up

  guarded : (q : Request) (a client number : ℕ) (f : Failing) → IsGuarded q → executed (m.brick b) f client number q ≡ by_row (m.brick b) f (work (m.brick b) q) (row_of q) → Ready n k g m v a b q → Does a q (executed (m.brick b) f client number q)
  guarded q a client number f w e ready =
      let d = works n k g m v b a (l.heads b lt) (l.removed b lt) (l.holders b lt) (l.healers b lt) (own_grants n g m v l) q f w ready in
      subst (Does a q) (sym e) (record {
        stepped = stepped_work n k g m v b (l.heads b lt) (l.removed b lt) (l.holders b lt) (l.healers b lt) (l.makers b lt) (own_grants n g m v l) (acts_worked g a b (counted v.core a (exclusive g Inode (m.brick b).asks)) q (by_row (m.brick b) f (work (m.brick b) q) (row_of q)).says) (by_row (m.brick b) f (work (m.brick b) q) (row_of q)).brick d;
        below = subst (Below m.next) (sym d.asks) (l.asked b lt);
        up = d.up;
      })

  gfids : (a : ℕ) (start : Option Gfid) (dirty : Bool) (client number : ℕ) (f : Failing) → GrantsReady g m v b (m.brick b).asks (m.brick b).asks → Does a (GfidsAfter start dirty) (executed (m.brick b) f client number (GfidsAfter start dirty))
  gfids a start dirty client number Fine r = record { stepped = locks (GfidsAfter start dirty) a (executed (m.brick b) Fine client number (GfidsAfter start dirty)) refl refl refl r; below = l.asked b lt; up = refl }
  gfids a start dirty client number Before r = record { stepped = locks (GfidsAfter start dirty) a (executed (m.brick b) Before client number (GfidsAfter start dirty)) refl refl refl r; below = l.asked b lt; up = refl }
  gfids a start dirty client number Within r = record { stepped = locks (GfidsAfter start dirty) a (executed (m.brick b) Within client number (GfidsAfter start dirty)) refl refl refl r; below = l.asked b lt; up = refl }

  pub does : (q : Request) (a client number : ℕ) (f : Failing) → number < m.next → Ready n k g m v a b q → GrantsReady g m v b (m.brick b).asks (executed (m.brick b) f client number q).brick.asks → Does a q (executed (m.brick b) f client number q)
  does (Ask x domain kind) a client number f lt' ready r = record { stepped = locks (Ask x domain kind) a (executed (m.brick b) f client number (Ask x domain kind)) (no_work (is_done (executed (m.brick b) f client number (Ask x domain kind)).says) (is_shown (executed (m.brick b) f client number (Ask x domain kind)).says)) refl refl r; below = below_both m.next (m.brick b).asks _ (l.asked b lt) (lt', tt); up = refl }
  does (Release x i) a client number f lt' ready r = record { stepped = locks (Release x i) a (executed (m.brick b) f client number (Release x i)) refl refl refl r; below = below_filter m.next (stays (Number i)) (m.brick b).asks (l.asked b lt); up = refl }
  does (Query x i) a client number f lt' ready r = guarded (Query x i) a client number f tt refl ready
  does (PreOp x i at pre) a client number f lt' ready r = guarded (PreOp x i at pre) a client number f tt refl ready
  does (ReadChunks x i first count) a client number f lt' ready r = guarded (ReadChunks x i first count) a client number f tt refl ready
  does (WriteChunks x i first chunks) a client number f lt' ready r = guarded (WriteChunks x i first chunks) a client number f tt refl ready
  does (SetLength x i keep count) a client number f lt' ready r = guarded (SetLength x i keep count) a client number f tt refl ready
  does (PostOp x i at version size attr) a client number f lt' ready r = guarded (PostOp x i at version size attr) a client number f tt refl ready
  does (Clear x i at) a client number f lt' ready r = guarded (Clear x i at) a client number f tt refl ready
  does (NameGet x i name) a client number f lt' ready r = guarded (NameGet x i name) a client number f tt refl ready
  does (NamesAfter x i start) a client number f lt' ready r = guarded (NamesAfter x i start) a client number f tt refl ready
  does (NameSet x i name child) a client number f lt' ready r = guarded (NameSet x i name child) a client number f tt refl ready
  does (NamesPut x i start upto list) a client number f lt' ready r = guarded (NamesPut x i start upto list) a client number f tt refl ready
  does (Make x i child) a client number f lt' ready r = guarded (Make x i child) a client number f tt refl ready
  does (Made x i child) a client number f lt' ready r = guarded (Made x i child) a client number f tt refl ready
  does (Unmake x i child) a client number f lt' ready r = guarded (Unmake x i child) a client number f tt refl ready
  does (Mark x i heal head) a client number f lt' ready r = guarded (Mark x i heal head) a client number f tt refl ready
  does (Unmark x i at dirty) a client number f lt' ready r = guarded (Unmark x i at dirty) a client number f tt refl ready
  does (GfidsAfter start dirty) a client number f lt' ready r = gfids a start dirty client number f (same_ready f r)
    where
      same_ready : (f : Failing) → GrantsReady g m v b (m.brick b).asks (executed (m.brick b) f client number (GfidsAfter start dirty)).brick.asks → GrantsReady g m v b (m.brick b).asks (m.brick b).asks
      same_ready Fine h = h
      same_ready Before h = h
      same_ready Within h = h
