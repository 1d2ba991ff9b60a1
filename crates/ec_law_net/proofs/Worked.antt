-- What a guarded request makes of the machine's heads: its act where it was done, and else nothing.
use Rattle.std.proofs.Common.{◌≡◌, ◌≢◌, ◌⊎◌, ℕ, Bool, true, false, cond, ◌==◌, Option, Some, None, List, [], ◌∷◌, refl, sym, ◌∙◌, subst, arith, inl, inr, ⊎_elim}
use Rattle.std.proofs.lemmas.Bool.Decides.{nat_tests}
use Rattle.std.specs.Option.{option_map}
use Rattle.ec_attr.specs.declared.head.Head.{Head}
use Rattle.ec_law_base.specs.State.{State}
use Rattle.ec_law_ballots.specs.Act.{Act, after, step}
use Rattle.ec_law_ballots.specs.Act.Act.{See}
use Rattle.ec_law_ballots.specs.Guard.{Runs}
use Rattle.ec_law_net.specs.Turns.{View}
use Rattle.ec_law_net.specs.Link.{IsHead, IsQuery}
use Rattle.ec_store.specs.Put.{put}
use Rattle.ec_store.specs.Records.{Record, Records, head_at}
use Rattle.ec_wire.specs.declared.reply.Reply.TheVariants.{Done}
use Rattle.ec_wire.specs.declared.request.Request.{Request}
use Rattle.ec_brick.specs.Replies.{Says, Is, own_of}
use Rattle.ec_brick.specs.State.{State as Brick}
use Rattle.ec_brick.specs.Step.{Out, work}
use Rattle.ec_brick.specs.Work.{with_head_by}
use Rattle.ec_brick.specs.declared.row.Row.{Row}
use Rattle.ec_history.specs.Story.{is_done}
use Rattle.ec_law_net.specs.Turns.{is_shown}
use Rattle.ec_law_net.proofs.Doing.{Did, see}
use Rattle.ec_law_net.proofs.Outcomes.{IsDone, IsNot}

-- Acts that may come, after which brick b has the heads that it is left with; the locks are as they were.
pub record Worked (n k g b : ℕ) (acts : List Act) (s : State) (old new : Brick) : Type 0 where
  pub runs : Runs n k acts s
  pub head : IsHead (head_at new.records g) (after acts s) b
  pub unmade : (after acts s).removed b ≡ new.removed g
  pub present : (c : ℕ) → c ≢ b → (after acts s).present c ≡ s.present c
  pub version : (c : ℕ) → c ≢ b → (after acts s).version c ≡ s.version c
  pub dirty : (c : ℕ) → c ≢ b → (after acts s).dirty c ≡ s.dirty c
  pub marked : (c : ℕ) → c ≢ b → (after acts s).marked c ≡ s.marked c
  pub removed : (c : ℕ) → c ≢ b → (after acts s).removed c ≡ s.removed c
  pub holder : (c : ℕ) → (after acts s).holder c ≡ s.holder c
  pub healer : (c : ℕ) → (after acts s).healer c ≡ s.healer c
  pub maker : (c : ℕ) → (after acts s).maker c ≡ s.maker c
  pub carries : (a : ℕ) → (after acts s).carries a ≡ s.carries a
  pub shares : (a d : ℕ) → (after acts s).shares a d ≡ s.shares a d
  pub reads : (a : ℕ) → (after acts s).reads a ≡ s.reads a
  pub asks : new.asks ≡ old.asks
  pub up : new.up ≡ old.up

pub worked_by : (n k g b : ℕ) (e : Act) (s : State) (old new : Brick) (o : Option Head) (gone : Bool) → Did n k e s b o gone → head_at new.records g ≡ o → gone ≡ new.removed g → new.asks ≡ old.asks → new.up ≡ old.up → Worked n k g b (e ∷ []) s old new
worked_by n k g b e s old new o gone d h f asks up = record {
  runs = (d.may, refl);
  head = subst (λ (x : Option Head). IsHead x (step s e) b) (sym h) d.head;
  unmade = d.unmade ∙ f;
  present = d.present;
  version = d.version;
  dirty = d.dirty;
  marked = d.marked;
  removed = d.removed;
  holder = d.holder;
  healer = d.healer;
  maker = d.maker;
  carries = d.carries;
  shares = d.shares;
  reads = d.reads;
  asks = asks;
  up = up;
}

nils : (t u : Bool) → cond {A = List Act} t [] (cond u [] []) ≡ []
nils true u = refl
nils false true = refl
nils false false = refl

abbrev anew : (Head → Head) → Record → Record
anew f r = record r { head = f r.head }

-- the record of gfid g after its head was changed, and after another one's was
pub head_here : (m : Records) (x g : ℕ) (f : Head → Head) → x ≡ g → head_at (with_head_by m x f) g ≡ option_map f (head_at m g)
head_here m x g f e = subst (λ (y : ℕ). head_at (with_head_by m x f) y ≡ option_map f (head_at m y)) e (here (x == x) (grind (arith, nat_tests)))
  where
    mapped : (o : Option Record) → option_map (λ r. r.head) (option_map (anew f) o) ≡ option_map f (option_map (λ r. r.head) o)
    mapped None = refl
    mapped (Some r) = refl

    here : (t : Bool) → t ≡ true → option_map (λ r. r.head) (cond t (option_map (anew f) (m x)) (m x)) ≡ option_map f (head_at m x)
    here true e = mapped (m x)
    here false e = absurd (cc)

pub head_apart : (m : Records) (x g : ℕ) (o : Option Record) → (x == g) ≡ false → head_at (put m x o) g ≡ head_at m g
head_apart m x g o e = apart (g == x) (grind (arith, nat_tests))
  where
    apart : (t : Bool) → t ≡ false → option_map (λ r. r.head) (cond t o (m g)) ≡ head_at m g
    apart true e = absurd (cc)
    apart false e = refl

pub head_put : (m : Records) (x g : ℕ) (r : Record) → x ≡ g → head_at (put m x (Some r)) g ≡ Some r.head
head_put m x g r e = at (g == x) (grind (arith, nat_tests))
  where
    at : (t : Bool) → t ≡ true → option_map (λ r. r.head) (cond t (Some r) (m g)) ≡ Some r.head
    at true e = refl
    at false e = absurd (cc)

module _ (n k g b : ℕ) (v : View) (s : Brick) (is : IsHead (head_at s.records g) v.core b) (gone : v.core.removed b ≡ s.removed g) where
  -- the heads are as they were
  pub nothing : (new : Brick) → head_at new.records g ≡ head_at s.records g → new.removed g ≡ s.removed g → new.asks ≡ s.asks → new.up ≡ s.up → Worked n k g b [] v.core s new
  nothing new h f asks up = record {
    runs = refl;
    head = subst (λ (x : Option Head). IsHead x v.core b) (sym h) is;
    unmade = gone ∙ sym f;
    present = λ c ne. refl;
    version = λ c ne. refl;
    dirty = λ c ne. refl;
    marked = λ c ne. refl;
    removed = λ c ne. refl;
    holder = λ c. refl;
    healer = λ c. refl;
    maker = λ c. refl;
    carries = λ a. refl;
    shares = λ a d. refl;
    reads = λ a. refl;
    asks = asks;
    up = up;
  }

  pub not_done : (o : Out) → IsNot s o → Worked n k g b [] v.core s o.brick
  not_done o d = nothing o.brick (d.heads g) (d.removed g) d.asks d.up

  -- a request that is no act, whatever comes of it
  pub quiet : (q : Request) (r : Row) (o : Out) → head_at (work s q).done.records g ≡ head_at s.records g → (work s q).done.removed g ≡ s.removed g → IsDone s q r o ⊎ IsNot s o → Worked n k g b (cond (is_done o.says) [] (cond (is_shown o.says) [] [])) v.core s o.brick
  quiet q r o h f e = rw (nils (is_done o.says) (is_shown o.says)) (⊎_elim (λ d. subst (λ (z : Brick). Worked n k g b [] v.core s z) (sym d.brick) (nothing (work s q).done h f refl refl)) (not_done o) e)

  -- a request that is this act on gfid x where it is done
  pub doer : (q : Request) (r : Row) (x : ℕ) (act : Act) (o : Out) → own_of q s.records ≡ Is Done → ((x == g) ≡ false → (head_at (work s q).done.records g ≡ head_at s.records g) × ((work s q).done.removed g ≡ s.removed g)) → (x ≡ g → IsDone s q r o → Worked n k g b (act ∷ []) v.core s (work s q).done) → IsDone s q r o ⊎ IsNot s o → Worked n k g b (cond (is_done o.says) (cond (x == g) (act ∷ []) []) (cond (is_shown o.says) [] [])) v.core s o.brick
  doer q r x act o own apart here (inl d) = subst (λ (y : Says). Worked n k g b (cond (is_done y) (cond (x == g) (act ∷ []) []) (cond (is_shown y) [] [])) v.core s o.brick) (sym (d.says ∙ own)) (subst (λ (z : Brick). Worked n k g b (cond (x == g) (act ∷ []) []) v.core s z) (sym d.brick) (either (x == g) refl))
    where
      either : (t : Bool) → (x == g) ≡ t → Worked n k g b (cond t (act ∷ []) []) v.core s (work s q).done
      either true e = here (grind (arith, nat_tests)) d
      either false e = nothing (work s q).done (apart e).0 (apart e).1 refl refl
  doer q r x act o own apart here (inr d) = left (is_done o.says) (is_shown o.says) d.says
    where
      left : (t u : Bool) → t ≡ false → Worked n k g b (cond t (cond (x == g) (act ∷ []) []) (cond u [] [])) v.core s o.brick
      left true u e = absurd (cc)
      left false true e = not_done o d
      left false false e = not_done o d

  -- a Query shows the head as it stands, also where it is refused
  pub shown : (a grant : ℕ) (hit t u : Bool) (new : Brick) → head_at new.records g ≡ head_at s.records g → new.removed g ≡ s.removed g → new.asks ≡ s.asks → new.up ≡ s.up → (hit ≡ true → (v.core.holder b ≡ Some a) × IsQuery v a b grant) → Worked n k g b (cond t [] (cond u (cond hit (See a b ∷ []) []) [])) v.core s new
  shown a grant hit true u new h f asks up ready = nothing new h f asks up
  shown a grant hit false false new h f asks up ready = nothing new h f asks up
  shown a grant false false true new h f asks up ready = nothing new h f asks up
  shown a grant true false true new h f asks up ready = let r = ready refl in worked_by n k g b (See a b) v.core s new (head_at s.records g) (v.core.removed b) (see n k v a b grant (head_at s.records g) is r.0 r.1) h (gone ∙ sym f) asks up
