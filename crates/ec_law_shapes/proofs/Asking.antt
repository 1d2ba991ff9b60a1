-- A message is sent: a turn may take its ballot and plan its commit by it.
use Rattle.std.proofs.Common.{◌≡◌, ◌≢◌, ◌⊎◌, ℕ, ◌<◌, Bool, true, false, not, cond, ◌==◌, ◌&&◌, ◌||◌, Option, Some, None, List, [], ◌∷◌, ◌++◌, map, refl, sym, ◌∙◌, ap, subst, arith, inl, inr, ⊎_elim}
use Rattle.std.specs.Prelude.{nat_lt, unwrap_or}
use Rattle.std.proofs.lemmas.Bool.Decides.{nat_tests}
use Rattle.ec_attr.specs.Marks.{is_marked, stripped}
use Rattle.ec_attr.specs.declared.attr.Attr.{Attr}
use Rattle.ec_attr.specs.declared.geometry.Geometry.{Geometry}
use Rattle.ec_attr.specs.declared.gfid.Gfid.{Gfid}
use Rattle.ec_attr.specs.declared.head.Head.{Head}
use Rattle.ec_wire.specs.declared.entry.Entry.TheVariants.{Sent}
use Rattle.ec_wire.specs.declared.message.Body.{Body}
use Rattle.ec_wire.specs.declared.message.Body.TheVariants.{ToBrick, ToClient}
use Rattle.ec_wire.specs.declared.message.Message.{Message}
use Rattle.ec_wire.specs.declared.op.Op.{Op}
use Rattle.ec_wire.specs.declared.request.Request.{Request}
use Rattle.ec_wire.specs.declared.request.Request.TheVariants.{Ask, Release, Query, PreOp, PostOp, Mark, Unmark}
use Rattle.ec_conduct.specs.Account.{Account}
use Rattle.ec_conduct.specs.Ballots.{MayPostOp, attr_after, size_after}
use Rattle.ec_conduct.specs.Conduct.{is_release}
use Rattle.ec_conduct.specs.Given.{Given, quorum}
use Rattle.ec_conduct.specs.Group.{group_head}
use Rattle.ec_conduct.specs.Opened.{account}
use Rattle.ec_conduct.specs.Standing.{group_of, heads_at}
use Rattle.ec_history.specs.Accounts.{Books, Leaving, booked, sender}
use Rattle.ec_history.specs.IsRun.{MaySay}
use Rattle.ec_history.specs.Run.{Net, after as net_after}
use Rattle.ec_history.specs.Story.{Story}
use Rattle.ec_store.specs.Put.{put}
use Rattle.ec_wire.specs.declared.reply.Reply.{Reply}
use Rattle.ec_law_base.specs.State.{Ballot, Head as Seen, State}
use Rattle.ec_law_ballots.specs.Act.{Act, after as after_acts, step as act_step}
use Rattle.ec_law_ballots.specs.Act.Act.{Choose, Moment}
use Rattle.ec_law_ballots.specs.Guard.{May, Runs}
use Rattle.ec_law_ballots.specs.Words.{at_base, group}
use Rattle.ec_law_pieces.specs.Deed.{after as after_deeds}
use Rattle.ec_law_pieces.specs.Deed.Deed.{Intend}
use Rattle.ec_law_pieces.specs.File.{File}
use Rattle.ec_law_shapes.proofs.Facts.{Facts}
use Rattle.ec_law_net.specs.Start.{seen_head}
use Rattle.ec_law_net.specs.Turns.{View, acts_sent, is_lock_on, is_over, seen_after, turn_after, turn_from, turn_of}
use Rattle.ec_law_turns.specs.Reached.{Reached}
use Rattle.ec_law_turns.specs.Shown.{IsRaised, group_in}
use Rattle.ec_law_turns.specs.Told.{Told, ToldPostOp}
use Rattle.ec_law_turns.proofs.Allowed.{account_given}
use Rattle.ec_law_turns.proofs.Basics.{differ, equal, itself, put_here, put_there, some_is}
use Rattle.ec_law_turns.proofs.Later.{after_later}
use Rattle.ec_law_turns.proofs.Numbered.{sent_same}
use Rattle.ec_law_turns.proofs.Raising.{told_post}
use Rattle.ec_law_turns.proofs.Sending.{number_is, raises_it}
use Rattle.ec_law_turns.proofs.Sends.{adds, of_after, said_after}
use Rattle.ec_law_turns.proofs.SentKnown.{BodyKept, others_turn, turn_below}
use Rattle.ec_law_turns.proofs.SentSound.{own_sender}
use Rattle.ec_law_turns.proofs.Tracks.{Adds}
use Rattle.ec_law_turns.proofs.Turned.{turn_kept, turn_new, turn_other}
use Rattle.ec_law_data.specs.Deeds.{deeds_sent, dressed, is_post_on}
use Rattle.ec_law_data.specs.Forms.{Shape}
use Rattle.ec_law_data.specs.Link.{Fits}
use Rattle.ec_law_data.specs.Reading.{Plans, Reading}
use Rattle.ec_law_data.proofs.Cores.{deeds_both}
use Rattle.ec_law_data.proofs.Guards.{is_marking}
use Rattle.ec_law_data.proofs.Planning.{writer_number}
use Rattle.ec_law_shapes.specs.Fitting.{AllOweShape, PlanFits, SentFits}
use Rattle.ec_law_shapes.specs.Shapes.{ShapesFollow, IsShape, head_shape, posted_shape, shape_after}
use Rattle.ec_law_shapes.proofs.Grouping.{group_shows, heard_shape}
use Rattle.ec_law_shapes.proofs.Owing.{owe_both, owe_if}
use Rattle.ec_law_shapes.proofs.Replying.{owed_left, spread_entry}
use Rattle.ec_law_shapes.proofs.Telling.{is_shape_later}

-- ## The acts of a message

-- only turn a may take a shape, if it has no ballot
record Acted {P V C U S : Type 0} (a number : ℕ) (f f' : File P V C U S) : Type 0 where
  shape : f'.shape ≡ f.shape
  shape_of : f'.shape_of ≡ f.shape_of
  told : f'.told ≡ f.told
  planned : f'.planned ≡ f.planned
  becomes : f'.becomes ≡ f.becomes
  seen : f'.heads.seen ≡ f.heads.seen
  making : f'.heads.making ≡ f.heads.making
  took : (t : ℕ) → t ≢ a → f'.took t ≡ f.took t
  had : 0 < number → f'.took a ≡ f.took a

module _ {P V C U S : Type 0} (R : Reading P V C U S) (plans : Plans P V U S) (n k g : ℕ) (s : State) (a : ℕ) (f : File P V C U S) where
  abbrev Now : List Act → Type 0
  Now es = Acted a (s.ballot a).number f (after_deeds R.form n k (map (dressed R plans n k g) es) f)

  nothing : Now []
  nothing = record { shape = refl; shape_of = refl; told = refl; planned = refl; becomes = refl; seen = refl; making = refl; took = λ t ne. refl; had = λ lt. refl }

  chooses : (p : Ballot) (hit u : Bool) → ((s.ballot a).number == 0) ≡ u → Now (cond hit (cond u (Choose a p ∷ []) []) [])
  chooses p true true e = record { shape = refl; shape_of = refl; told = refl; planned = refl; becomes = refl; seen = refl; making = refl; took = λ t ne. put_there f.took a (plans.took a) t ne; had = λ lt. absurd (let z = equal (s.ballot a).number 0 e in omega (arith, z, lt)) }
  chooses p true false e = nothing
  chooses p false u e = nothing

  begins : (hit u : Bool) → Now (cond hit (cond u [] (Moment a ∷ [])) [])
  begins true true = nothing
  begins true false = record { shape = refl; shape_of = refl; told = refl; planned = refl; becomes = refl; seen = refl; making = refl; took = λ t ne. refl; had = λ lt. refl }
  begins false u = nothing

  acted : (z : Body) → Now (acts_sent g s a z)
  acted (ToBrick (Query x i)) = begins (x.0 == g) (s.moment a)
  acted (ToBrick (PreOp x i at number)) = chooses _ (x.0 == g) ((s.ballot a).number == 0) refl
  acted (ToBrick (Mark x i heal head)) = chooses _ (x.0 == g) ((s.ballot a).number == 0) refl
  acted (ToBrick (Unmark x i at dirty)) = chooses _ (x.0 == g) ((s.ballot a).number == 0) refl
  acted z = nothing

-- ## Plans

-- What becomes of turn a, which plans where it writes and has not planned; of others nothing.
pub record Asked {P V C U S : Type 0} (a number : ℕ) (writes : Bool) (becomes_now : S) (f f' : File P V C U S) : Type 0 where
  pub shape : f'.shape ≡ f.shape
  pub shape_of : f'.shape_of ≡ f.shape_of
  pub told : f'.told ≡ f.told
  pub seen : f'.heads.seen ≡ f.heads.seen
  pub making : f'.heads.making ≡ f.heads.making
  pub planned : (t : ℕ) → t ≢ a → f'.planned t ≡ f.planned t
  pub becomes : (t : ℕ) → t ≢ a → f'.becomes t ≡ f.becomes t
  pub took : (t : ℕ) → t ≢ a → f'.took t ≡ f.took t
  pub had : 0 < number → f'.took a ≡ f.took a
  pub old : f.planned a ≡ true → (f'.planned a ≡ true) × (f'.becomes a ≡ f.becomes a)
  pub new : writes ≡ true → f.planned a ≡ false → (f'.planned a ≡ true) × (f'.becomes a ≡ becomes_now)
  pub never : writes ≡ false → f'.planned a ≡ f.planned a

module _ {P V C U S : Type 0} (R : Reading P V C U S) (plans : Plans P V U S) (n k g : ℕ) (s : State) (a : ℕ) (f : File P V C U S) where
  -- does the message plan a commit
  abbrev pub writes : Body → Bool
  writes (ToBrick q) = R.is_write g q || is_post_on g q
  writes (ToClient re reply) = false

  abbrev pub sent_file : Body → File P V C U S
  sent_file z = after_deeds R.form n k (deeds_sent R plans n k g f a z ++ map (dressed R plans n k g) (acts_sent g s a z)) f

  abbrev planned_file : Body → File P V C U S
  planned_file z = after_deeds R.form n k (deeds_sent R plans n k g f a z) f

  abbrev acted_file : Body → File P V C U S
  acted_file z = after_deeds R.form n k (map (dressed R plans n k g) (acts_sent g s a z)) (planned_file z)

  abbrev Goes : Body → File P V C U S → Type 0
  Goes z f' = Asked a (s.ballot a).number (writes z) (plans.plan a).becomes f f'

  -- the plan
  goes_planned : (z : Body) → Goes z (planned_file z)
  goes_planned (ToClient re reply) = record { shape = refl; shape_of = refl; told = refl; seen = refl; making = refl; planned = λ t ne. refl; becomes = λ t ne. refl; took = λ t ne. refl; had = λ lt. refl; old = λ e. (e, refl); new = λ e h. absurd (cc); never = λ e. refl }
  goes_planned (ToBrick q) = by (R.is_write g q || is_post_on g q) (f.planned a) refl refl
    where
      by : (t u : Bool) → (R.is_write g q || is_post_on g q) ≡ t → f.planned a ≡ u → Asked a (s.ballot a).number (R.is_write g q || is_post_on g q) (plans.plan a).becomes f (after_deeds R.form n k (cond (t && not u) (Intend a (plans.plan a) ∷ []) []) f)
      by true false w e = record {
        shape = refl;
        shape_of = refl;
        told = refl;
        seen = refl;
        making = refl;
        planned = λ t ne. put_there f.planned a true t ne;
        becomes = λ t ne. put_there f.becomes a (plans.plan a).becomes t ne;
        took = λ t ne. refl;
        had = λ lt. refl;
        old = λ h. absurd (let z = sym e ∙ h in cc);
        new = λ h i. (put_here f.planned a true a refl, put_here f.becomes a (plans.plan a).becomes a refl);
        never = λ h. absurd (let z = sym w ∙ h in cc);
      }
      by true true w e = record { shape = refl; shape_of = refl; told = refl; seen = refl; making = refl; planned = λ t ne. refl; becomes = λ t ne. refl; took = λ t ne. refl; had = λ lt. refl; old = λ h. (h, refl); new = λ h i. absurd (let z = sym e ∙ i in cc); never = λ h. refl }
      by false u w e = record { shape = refl; shape_of = refl; told = refl; seen = refl; making = refl; planned = λ t ne. refl; becomes = λ t ne. refl; took = λ t ne. refl; had = λ lt. refl; old = λ h. (h, refl); new = λ h i. absurd (let z = sym w ∙ h in cc); never = λ h. refl }

  goes_acted : (z : Body) → Goes z (acted_file z)
  goes_acted z =
      let p = goes_planned z in
      let o = acted R plans n k g s a (planned_file z) z in
      record {
        shape = o.shape ∙ p.shape;
        shape_of = o.shape_of ∙ p.shape_of;
        told = o.told ∙ p.told;
        seen = o.seen ∙ p.seen;
        making = o.making ∙ p.making;
        planned = λ t ne. ap (λ (y : ℕ → Bool). y t) o.planned ∙ p.planned t ne;
        becomes = λ t ne. ap (λ (y : ℕ → S). y t) o.becomes ∙ p.becomes t ne;
        took = λ t ne. o.took t ne ∙ p.took t ne;
        had = λ lt. o.had lt ∙ p.had lt;
        old = λ h. let q = p.old h in (ap (λ (y : ℕ → Bool). y a) o.planned ∙ q.0, ap (λ (y : ℕ → S). y a) o.becomes ∙ q.1);
        new = λ h i. let q = p.new h i in (ap (λ (y : ℕ → Bool). y a) o.planned ∙ q.0, ap (λ (y : ℕ → S). y a) o.becomes ∙ q.1);
        never = λ h. ap (λ (y : ℕ → Bool). y a) o.planned ∙ p.never h;
      }

  pub goes : (z : Body) → Goes z (sent_file z)
  goes z = subst (λ (f' : File P V C U S). Goes z f') (sym (deeds_both R.form n k (deeds_sent R plans n k g f a z) (map (dressed R plans n k g) (acts_sent g s a z)) f)) (goes_acted z)

-- ## What the call knew

writes_no_lock : {P V C U S : Type 0} (R : Reading P V C U S) → Fits R → (g : ℕ) (q : Request) → is_lock_on g (ToBrick q) ≡ true → (R.is_write g q || is_post_on g q) ≡ false
writes_no_lock R fits g (Ask x domain kind) e = at (R.is_write g (Ask x domain kind)) refl
  where
    at : (t : Bool) → R.is_write g (Ask x domain kind) ≡ t → (t || false) ≡ false
    at true h = absurd (fits.writers g (Ask x domain kind) h)
    at false h = refl
writes_no_lock R fits g q e = absurd (cc)

post_is : (g : ℕ) (q : Request) → is_post_on g q ≡ true → (x : Gfid) × (n : ℕ) × (at : ℕ) × (version : ℕ) × (size : ℕ) × (attr : Option Attr) × (q ≡ PostOp x n at version size attr) × (x.0 ≡ g)
post_is g (PostOp x n at version size attr) e = (x, n, at, version, size, attr, refl, equal x.0 g e)
post_is g q e = absurd (cc)

post_number : (n k g : ℕ) (said : ℕ → Option Message) (of : ℕ → ℕ) (s : State) (a b : ℕ) (x : Gfid) (i at version size : ℕ) (attr : Option Attr) → x.0 ≡ g → Told n k g said of s a b (PostOp x i at version size attr) → 0 < (s.ballot a).number
post_number n k g said of s a b x i at version size attr on told = (told on).ballot

either_true : (t u : Bool) → (t || u) ≡ true → (t ≡ true) ⊎ (u ≡ true)
either_true true u e = inl refl
either_true false u e = inr e

module _ {P V C U : Type 0} (R : Reading P V C U Shape) (fits : Fits R) (plans : Plans P V U Shape) (geometry : Geometry) (g first : ℕ) (m : Net) (v : View) (b : Books) (f : File P V C U Shape) (r : Reached geometry g m v b) (h : ShapesFollow geometry.n first g R.new m v b f) (both : Facts geometry.n (quorum geometry) f) where
  abbrev n : ℕ
  n = geometry.n

  abbrev k' : ℕ
  k' = quorum geometry

  pub real : (a t : ℕ) → v.turn a ≡ Some t → v.core.old t ≡ false
  real a t has = at (v.core.old t) refl
    where
      at : (u : Bool) → v.core.old t ≡ u → u ≡ false
      at false e = refl
      at true e = absurd (let low = r.locks.old t e in let high = r.locks.begun a t has in omega (arith, low, high))

  abbrev c : ℕ → Given → Account
  c a given = account given (b.own a)

  given_is : (a : ℕ) (given : Given) → b.given a ≡ Some given → (c a given).given.geometry ≡ geometry
  given_is a given is = ap (λ (y : Given). y.geometry) (account_given given (b.own a)) ∙ (r.known.numbers.given_below a given is).1.geometry_is

  same_group : (a : ℕ) (given : Given) → b.given a ≡ Some given → group_of (c a given) g ≡ group_in geometry ((c a given).on g)
  same_group a given is = ap (λ (z : Geometry). group_head z.n (quorum z) (heads_at (c a given) g)) (given_is a given is)

  -- a call whose turn has a ballot has sent a PreOp
  raised : (a t : ℕ) (given : Given) → b.given a ≡ Some given → v.turn a ≡ Some t → 0 < (v.core.ballot t).number → (y : ℕ) × IsRaised geometry g v.turn v.core a (c a given).waits (c a given).steps ((c a given).on g) y
  raised a t given is has number = by ((c a given).on g).dirty refl
    where
      by : (o : Option ℕ) → ((c a given).on g).dirty ≡ o → (y : ℕ) × IsRaised geometry g v.turn v.core a (c a given).waits (c a given).steps ((c a given).on g) y
      by None e = absurd (let z = (r.shown.calls a given is).free e t has in omega (arith, z, number))
      by (Some y) e = (y, (r.shown.calls a given is).raised y e)

  pub has_group : (a t : ℕ) (given : Given) → b.given a ≡ Some given → v.turn a ≡ Some t → 0 < (v.core.ballot t).number → (head : Head) × (group_of (c a given) g ≡ Some head)
  has_group a t given is has number = let o = (raised a t given is has number).1 in (o.head, same_group a given is ∙ o.group)

  -- a turn with a ballot was told the shape of each head that its call has heard
  pub told_heard : (a t x : ℕ) (given : Given) (hd : Head) → b.given a ≡ Some given → v.turn a ≡ Some t → 0 < (v.core.ballot t).number → heads_at (c a given) g x ≡ Some hd → is_marked hd.version.content ≡ false → f.told t x ≡ head_shape hd
  told_heard a t x given hd is has number heard clear =
      let o = (raised a t given is has number).1 in
      let same = some_is o.t t (sym o.has ∙ has) in
      heard_shape geometry g m v b r.known r.shown f.heads f.told h.told a given is x t hd (seen_head (Some hd)) heard has (ap (λ (s : State). s.seen t x) h.heads ∙ subst (λ (z : ℕ). v.core.seen z x ≡ Some (seen_head (Some hd))) same (o.seen x hd heard)) clear

  -- a turn with a ballot took the shape of its call's group
  pub took_group : (a t : ℕ) (given : Given) (head : Head) → b.given a ≡ Some given → v.turn a ≡ Some t → 0 < (v.core.ballot t).number → group_of (c a given) g ≡ Some head → f.took t ≡ head_shape head
  took_group a t given head is has number group_is =
      let y = (raised a t given is has number).0 in
      let raised' = (raised a t given is has number).1 in
      let same = some_is raised'.t t (sym raised'.has ∙ has) in
      let heads_same = some_is raised'.head head (sym raised'.group ∙ (sym (same_group a given is) ∙ group_is)) in
      let o = group_shows geometry g m v b r.known r.shown f.heads f.told h.told a given is t head has (subst (λ (z : Head). group_in geometry ((c a given).on g) ≡ Some z) heads_same raised'.group)
      (λ x y e. ap (λ (s : State). s.seen t x) h.heads ∙ subst (λ (z : ℕ). v.core.seen z x ≡ Some (seen_head (Some y))) same (raised'.seen x y e)) in
      let base = ap (λ (z : Ballot). z.base) (subst (λ (z : ℕ). v.core.ballot z ≡ record { base = raised'.head.version.content; number = y }) same raised'.ballot) ∙ ap (λ (z : Head). z.version.content) heads_same in
      let base' = ap (λ (s : State). (s.ballot t).base) h.heads ∙ base in
      let number' = subst (λ (s : State). 0 < (s.ballot t).number) (sym h.heads) number in
      let real' = ap (λ (s : State). s.old t) h.heads ∙ real a t has in
      let took = both.took_is t number' real' in
      let told = both.told_is t o.brick o.seen o.saw o.there o.clear (f.heads.ballot t).base (o.version ∙ sym base') (both.chosen t number') in
      took ∙ (sym told ∙ o.told_it)

  module _ (msg : Message) (next_no : msg.no ≡ m.next) (may : MaySay geometry.n m msg msg.body) (kept : BodyKept m b msg msg.body) (runs : Runs geometry.n (quorum geometry) (acts_sent g v.core (turn_of g v msg) msg.body) v.core) (told_then : (q : Request) → msg.body ≡ ToBrick q → Told geometry.n (quorum geometry) g (said_after m msg) (of_after g v msg) (after_acts (acts_sent g v.core (turn_of g v msg) msg.body) v.core) (turn_of g v msg) msg.brick q) (fitting : SentFits R plans g v b f msg msg.body) where
    abbrev a : ℕ
    a = turn_of g v msg

    abbrev f' : File P V C U Shape
    f' = sent_file R plans n k' g v.core a f msg.body

    asked : Asked a (v.core.ballot a).number (writes R plans n k' g v.core a f msg.body) (plans.plan a).becomes f f'
    asked = goes R plans n k' g v.core a f msg.body

    abbrev turn' : ℕ → Option ℕ
    turn' = turn_after g v msg

    -- a message that plans finds its turn with a ballot
    pub writes_number : (q : Request) → msg.body ≡ ToBrick q → (R.is_write g q || is_post_on g q) ≡ true → 0 < (v.core.ballot a).number
    writes_number q body w = by (either_true (R.is_write g q) (is_post_on g q) w)
      where
        by : (R.is_write g q ≡ true) ⊎ (is_post_on g q ≡ true) → 0 < (v.core.ballot a).number
        by (inl e) = writer_number geometry g m v b msg next_no may kept r.known r.shown q body (fits.writers g q e)
        by (inr e) =
            let o = post_is g q e in
            let t = subst (λ (z : Request). Told n k' g (said_after m msg) (of_after g v msg) (after_acts (acts_sent g v.core a msg.body) v.core) a msg.brick z) o.6 (told_then q body) in
            subst (λ (z : Body). 0 < ((after_acts (acts_sent g v.core a z) v.core).ballot a).number) (body ∙ ap (λ (z : Request). ToBrick z) o.6) (post_number n k' g (said_after m msg) (of_after g v msg) (after_acts (acts_sent g v.core a msg.body) v.core) a msg.brick o.0 o.1 o.2 o.3 o.4 o.5 o.7 t)

    planned_number : (t : ℕ) → f.planned t ≡ true → 0 < (v.core.ballot t).number
    planned_number t e = h.numbered t e

    none_release : (q : Request) → (R.is_write g q || is_post_on g q) ≡ true → is_release q ≡ false
    none_release q w = at (is_release q) refl
      where
        not_written : (q : Request) → is_release q ≡ true → (R.is_write g q ≡ true) ⊎ (is_post_on g q ≡ true) → ⊥
        not_written (Release x i) e (inl o) = fits.writers g (Release x i) o
        not_written (Release x i) e (inr o) = absurd (cc)
        not_written q e o = absurd (cc)

        at : (t : Bool) → is_release q ≡ t → t ≡ false
        at false e = refl
        at true e = absurd (not_written q e (either_true (R.is_write g q) (is_post_on g q) w))

    -- the turn of a call that plans or is asked for
    turn_now : (t : ℕ) → (is_lock_on g msg.body && is_over v.core (v.turn msg.call)) ≡ false → turn' msg.call ≡ Some t → (v.turn msg.call ≡ Some t) × (a ≡ t)
    turn_now t e has = let kept_turn = turn_kept g v msg msg.call e in (sym kept_turn ∙ has, ap (λ (o : Option ℕ). unwrap_or o 0) has)

    body_plan : (q : Request) → msg.body ≡ ToBrick q → PlanFits R plans g v b f msg q
    body_plan q body = (subst (SentFits R plans g v b f msg) body fitting).1

    -- ## Plans

    -- of a turn that its call has as it had before
    own_plan : (given : Given) (t : ℕ) → b.given msg.call ≡ Some given → v.turn msg.call ≡ Some t → a ≡ t → f'.planned a ≡ true → f'.becomes a ≡ shape_after given.op (f'.took a)
    own_plan given t is has same now = by (f.planned a) refl
      where
        has' : v.turn msg.call ≡ Some a
        has' = has ∙ ap (λ (y : ℕ). Some y) (sym same)

        body : (z : Body) → msg.body ≡ z → f.planned a ≡ false → f'.becomes a ≡ shape_after given.op (f'.took a)
        body (ToClient re reply) e none = absurd (let z = asked.never (ap (writes R plans n k' g v.core a f) e) in let w = sym now ∙ (z ∙ none) in cc)
        body (ToBrick q) e none = wrote (R.is_write g q || is_post_on g q) refl
          where
            wrote : (u : Bool) → (R.is_write g q || is_post_on g q) ≡ u → f'.becomes a ≡ shape_after given.op (f'.took a)
            wrote false w = absurd (let z = asked.never (ap (writes R plans n k' g v.core a f) e ∙ w) in let y = sym now ∙ (z ∙ none) in cc)
            wrote true w =
                let number = writes_number q e w in
                let o = has_group msg.call a given is has' number in
                let took = took_group msg.call a given o.0 is has' number o.1 in
                (asked.new (ap (writes R plans n k' g v.core a f) e ∙ w) none).1 ∙ (body_plan q e w none given o.0 is o.1 ∙ ap (shape_after given.op) (sym (asked.had number ∙ took)))

        by : (u : Bool) → f.planned a ≡ u → f'.becomes a ≡ shape_after given.op (f'.took a)
        by true e = (asked.old e).1 ∙ (h.plans msg.call given a is has' e ∙ ap (shape_after given.op) (sym (asked.had (planned_number a e))))
        by false e = body msg.body refl e

    pub plans_then : (x : ℕ) (given : Given) (t : ℕ) → b.given x ≡ Some given → turn' x ≡ Some t → f'.planned t ≡ true → f'.becomes t ≡ shape_after given.op (f'.took t)
    plans_then x given t is has now = either (x == msg.call) refl
      where
        other : x ≢ msg.call → f'.becomes t ≡ shape_after given.op (f'.took t)
        other ne =
            let old = sym (turn_other g v msg x ne) ∙ has in
            let apart = others_turn geometry g m v b msg next_no may r.known x t ne old in
            asked.becomes t apart ∙ (h.plans x given t is old (sym (asked.planned t apart) ∙ now) ∙ ap (shape_after given.op) (sym (asked.took t apart)))

        locks : (is_lock_on g msg.body && is_over v.core (v.turn msg.call)) ≡ true → turn' msg.call ≡ Some t → ⊥
        locks e has' = body msg.body refl
          where
            same : turn_from msg.no ≡ t
            same = some_is (turn_from msg.no) t (sym (turn_new g v msg e) ∙ has')

            fresh : f.planned t ≡ false
            fresh = h.fresh t (omega (arith, same, next_no))

            first_true : (t u : Bool) → (t && u) ≡ true → t ≡ true
            first_true true u e = refl
            first_true false u e = absurd (cc)

            body : (z : Body) → msg.body ≡ z → ⊥
            body (ToClient re reply) z = let y = first_true (is_lock_on g msg.body) (is_over v.core (v.turn msg.call)) e in let w = ap (is_lock_on g) z in absurd (cc)
            body (ToBrick q) z =
                let lock = sym (ap (is_lock_on g) z) ∙ first_true (is_lock_on g msg.body) (is_over v.core (v.turn msg.call)) e in
                let never = asked.never (ap (writes R plans n k' g v.core a f) z ∙ writes_no_lock R fits g q lock) in
                let mine = ap (λ (o : Option ℕ). unwrap_or o 0) has' in
                let y = sym now ∙ (ap f'.planned (sym mine) ∙ (never ∙ (ap f.planned mine ∙ fresh))) in absurd (cc)

        own : turn' msg.call ≡ Some t → b.given msg.call ≡ Some given → f'.becomes t ≡ shape_after given.op (f'.took t)
        own has' is' = renew (is_lock_on g msg.body && is_over v.core (v.turn msg.call)) refl
          where
            renew : (u : Bool) → (is_lock_on g msg.body && is_over v.core (v.turn msg.call)) ≡ u → f'.becomes t ≡ shape_after given.op (f'.took t)
            renew true e = absurd (locks e has')
            renew false e =
                let o = turn_now t e has' in
                subst (λ (y : ℕ). f'.becomes y ≡ shape_after given.op (f'.took y)) o.1 (own_plan given t is' o.0 o.1 (ap f'.planned o.1 ∙ now))

        either : (u : Bool) → (x == msg.call) ≡ u → f'.becomes t ≡ shape_after given.op (f'.took t)
        either true e = let same = equal x msg.call e in own (ap turn' (sym same) ∙ has) (ap b.given (sym same) ∙ is)
        either false e = other (differ x msg.call e)

    -- ## PostOps

    more : Adds m.said (said_after m msg) v.of (of_after g v msg) msg.no msg
    more = adds n g m v msg next_no r.known.messages

    abbrev Posts : ℕ → ℕ → Option Attr → Type 0
    Posts t size attr = (f'.planned t ≡ true) × (f'.becomes t ≡ posted_shape size attr (f'.took t).attr)

    -- of a turn that has planned
    old_post : (t size : ℕ) (attr : Option Attr) → 0 < (v.core.ballot t).number → (f.planned t ≡ true) × (f.becomes t ≡ posted_shape size attr (f.took t).attr) → Posts t size attr
    old_post t size attr number o = either (t == a) refl
      where
        at_a : 0 < (v.core.ballot a).number → (f.planned a ≡ true) × (f.becomes a ≡ posted_shape size attr (f.took a).attr) → Posts a size attr
        at_a number o = let z = asked.old o.0 in (z.0, z.1 ∙ (o.1 ∙ ap (λ (y : Shape). posted_shape size attr y.attr) (sym (asked.had number))))

        either : (u : Bool) → (t == a) ≡ u → Posts t size attr
        either true e = let same = equal t a e in subst (λ (y : ℕ). Posts y size attr) (sym same) (at_a (subst (λ (y : ℕ). 0 < (v.core.ballot y).number) same number) (subst (λ (y : ℕ). (f.planned y ≡ true) × (f.becomes y ≡ posted_shape size attr (f.took y).attr)) same o))
        either false e = let ne = differ t a e in (asked.planned t ne ∙ o.0, asked.becomes t ne ∙ (o.1 ∙ ap (λ (y : Shape). posted_shape size attr y.attr) (sym (asked.took t ne))))

    new_post : (y : Gfid) (i at version size : ℕ) (attr : Option Attr) → msg.body ≡ ToBrick (PostOp y i at version size attr) → y.0 ≡ g → Posts a size attr
    new_post y i at version size attr body on = (now, becomes)
      where
        w : (R.is_write g (PostOp y i at version size attr) || is_post_on g (PostOp y i at version size attr)) ≡ true
        w = last (R.is_write g (PostOp y i at version size attr)) (y.0 == g) (subst (λ (z : ℕ). (z == g) ≡ true) (sym on) (itself g))
          where
            last : (t u : Bool) → u ≡ true → (t || u) ≡ true
            last true u e = refl
            last false u e = e

        now : f'.planned a ≡ true
        now = by (f.planned a) refl
          where
            by : (u : Bool) → f.planned a ≡ u → f'.planned a ≡ true
            by true e = (asked.old e).0
            by false e = (asked.new (ap (writes R plans n k' g v.core a f) body ∙ w) e).0

        made : (given : Given) × (b.given msg.call ≡ Some given)
        made = let asker = subst (λ (z : Body). MaySay geometry.n m msg z) body may in let o = r.known.numbers.made msg.call asker.asker asker.made in (o.1, o.2)

        mine : sender m b msg (PostOp y i at version size attr) ≡ Some msg.call
        mine = own_sender m b msg (PostOp y i at version size attr) refl

        number : 0 < (v.core.ballot a).number
        number = writes_number (PostOp y i at version size attr) body w

        may_post : MayPostOp (c msg.call made.0) msg.brick y i at version size attr
        may_post = (subst (BodyKept m b msg) body kept made.0 made.1 mine).0.1

        -- its turn is the call's
        turn_is : v.turn msg.call ≡ Some a
        turn_is = told.1 ∙ ap (λ (z : ℕ). Some z) (sym (ap (λ (o : Option ℕ). unwrap_or o 0) (kept_turn ∙ told.1)))
          where
            kept_turn : turn' msg.call ≡ v.turn msg.call
            kept_turn = turn_kept g v msg msg.call (ap (λ (z : Body). is_lock_on g z && is_over v.core (v.turn msg.call)) body)

            told : (t : ℕ) × (v.turn msg.call ≡ Some t) × ToldPostOp n k' g m.said v.of v.core t msg.brick at version
            told = told_post geometry g m.said v.turn v.of v.core msg.call msg.brick (subst (λ (z : Body). MaySay geometry.n m msg z) body may).to (c msg.call made.0) (given_is msg.call made.0 made.1) (r.known.calls msg.call made.0 made.1) (r.shown.calls msg.call made.0 made.1) r.known.sound r.known.messages.to r.shown.asked y i at version size attr on may_post

        becomes : f'.becomes a ≡ posted_shape size attr (f'.took a).attr
        becomes =
            let given = made.0 in
            let group_is = subst (λ (z : ℕ). group_of (c msg.call given) z ≡ Some may_post.head) on may_post.group in
            let took = asked.had number ∙ took_group msg.call a given may_post.head made.1 turn_is number group_is in
            let own = own_plan given a made.1 turn_is refl now in
            let op = ap (λ (z : Given). z.op) (account_given given (b.own msg.call)) in
            own ∙ parts given.op op took
          where
            parts : (op : Op) → (c msg.call made.0).given.op ≡ op → f'.took a ≡ head_shape may_post.head → shape_after op (f'.took a) ≡ posted_shape size attr (f'.took a).attr
            parts op e took =
                let s1 = may_post.size_is ∙ (ap (λ (z : Op). size_after z may_post.head.size) e ∙ ap (λ (z : Shape). size_after op z.size) (sym took)) in
                let s2 = may_post.attr_is ∙ ap attr_after e in
                ap (λ (z : ℕ). posted_shape z (attr_after op) (f'.took a).attr) (sym s1) ∙ ap (λ (z : Option Attr). posted_shape size z (f'.took a).attr) (sym s2)

    -- ## A ballot

    Runs_of : Body → Type 0
    Runs_of z = Runs n k' (acts_sent g v.core a z) v.core

    -- what a Take owes
    take_owes : (x : Gfid) (i at number : ℕ) → msg.body ≡ ToBrick (PreOp x i at number) → x.0 ≡ g → (v.core.ballot a).number ≡ 0 → May n k' v.core (Choose a (record { base = stripped at; number = number })) → (d : ℕ) → group (act_step v.core (Choose a (record { base = stripped at; number = number }))) a d ≡ true → f.told a d ≡ plans.took a
    take_owes x i at number body on none may_choose d in_group =
        let raises = raises_it geometry g m v b msg next_no may kept r.known r.shown (PreOp x i at number) body given is mine x i at number refl on in
        let turn = number_is geometry g m v b msg next_no may kept r.known r.shown (PreOp x i at number) body given is mine refl raises.t raises.has in
        let has = raises.has ∙ ap (λ (y : ℕ). Some y) (sym turn) in
        let o = group_shows geometry g m v b r.known r.shown f.heads f.told h.told msg.call given is a raises.head has raises.group (λ y z e. ap (λ (s : State). s.seen a y) h.heads ∙ subst (λ (w : ℕ). v.core.seen w y ≡ Some (seen_head (Some z))) (sym turn) (raises.seen y z e)) in
        let base = both.base_is a (record { base = stripped at; number = number }) (subst (λ (s : State). May n k' s (Choose a (record { base = stripped at; number = number }))) (sym h.heads) may_choose) in
        let first = both.told_is a o.brick o.seen o.saw o.there o.clear (stripped at) (o.version ∙ sym raises.base) base in
        let w = seen_in (f.heads.seen a d) refl in
        both.told_is a d w.0 w.1 w.2 w.3 (stripped at) w.4 base ∙ (sym first ∙ (o.told_it ∙ sym (fits_took raises.head (same_group msg.call given is ∙ raises.group))))
      where
        made : (given : Given) × (b.given msg.call ≡ Some given)
        made = let asker = subst (λ (z : Body). MaySay geometry.n m msg z) body may in let o = r.known.numbers.made msg.call asker.asker asker.made in (o.1, o.2)

        given : Given
        given = made.0

        is : b.given msg.call ≡ Some given
        is = made.1

        mine : sender m b msg (PreOp x i at number) ≡ Some msg.call
        mine = own_sender m b msg (PreOp x i at number) refl

        fits_took : (head : Head) → group_of (c msg.call given) g ≡ Some head → plans.took a ≡ head_shape head
        fits_took head e = (subst (SentFits R plans g v b f msg) body fitting).0 on none given head is e

        member : (s : State) (p : Ballot) → group (act_step s (Choose a p)) a d ≡ true → at_base p (s.seen a d) ≡ true
        member s p e = grind (arith, nat_tests)

        at_it : at_base (record { base = stripped at; number = number }) (f.heads.seen a d) ≡ true
        at_it = ap (λ (s : State). at_base (record { base = stripped at; number = number }) (s.seen a d)) h.heads ∙ member v.core (record { base = stripped at; number = number }) in_group

        four : (t u w y : Bool) → (t && not u && w && y) ≡ true → (t ≡ true) × (u ≡ false) × (w ≡ true)
        four true false true y e = (refl, refl, refl)
        four true false false y e = absurd (cc)
        four true true w y e = absurd (cc)
        four false u w y e = absurd (cc)

        seen_in : (o : Option Seen) → f.heads.seen a d ≡ o → (z : Seen) × (f.heads.seen a d ≡ Some z) × (z.present ≡ true) × (z.marked ≡ false) × (z.version ≡ stripped at)
        seen_in None e = absurd (let z = sym at_it ∙ ap (at_base (record { base = stripped at; number = number })) e in cc)
        seen_in (Some z) e = let o = four z.present z.marked (z.version == stripped at) (nat_lt z.dirty number) (sym (ap (at_base (record { base = stripped at; number = number })) e) ∙ at_it) in (z, e, o.0, o.1, equal z.version (stripped at) o.2)

    -- what the message's deeds owe
    pub owes_then : ((q : Request) → msg.body ≡ ToBrick q → is_marking g q ≡ false) → AllOweShape R.form n k' (deeds_sent R plans n k' g f a msg.body ++ map (dressed R plans n k' g) (acts_sent g v.core a msg.body)) f
    owes_then unmarked = owe_both R.form n k' (deeds_sent R plans n k' g f a msg.body) (map (dressed R plans n k' g) (acts_sent g v.core a msg.body)) f (plan_owes msg.body) (acts_owe msg.body refl)
      where
        plan_owes : (z : Body) → AllOweShape R.form n k' (deeds_sent R plans n k' g f a z) f
        plan_owes (ToClient re reply) = tt
        plan_owes (ToBrick q) = owe_if R plans n k' g f ((R.is_write g q || is_post_on g q) && not (f.planned a)) (Intend a (plans.plan a) ∷ []) [] (tt, tt) tt

        f1 : File P V C U Shape
        f1 = after_deeds R.form n k' (deeds_sent R plans n k' g f a msg.body) f

        planned_keeps : (z : Body) → ((after_deeds R.form n k' (deeds_sent R plans n k' g f a z) f).heads ≡ f.heads) × ((after_deeds R.form n k' (deeds_sent R plans n k' g f a z) f).told ≡ f.told)
        planned_keeps (ToClient re reply) = (refl, refl)
        planned_keeps (ToBrick q) = by ((R.is_write g q || is_post_on g q) && not (f.planned a))
          where
            by : (t : Bool) → ((after_deeds R.form n k' (cond t (Intend a (plans.plan a) ∷ []) []) f).heads ≡ f.heads) × ((after_deeds R.form n k' (cond t (Intend a (plans.plan a) ∷ []) []) f).told ≡ f.told)
            by true = (refl, refl)
            by false = (refl, refl)

        heads1 : f1.heads ≡ v.core
        heads1 = (planned_keeps msg.body).0 ∙ h.heads

        chosen_owes : (x : Gfid) (i at number : ℕ) → msg.body ≡ ToBrick (PreOp x i at number) → (t u : Bool) → (x.0 == g) ≡ t → ((v.core.ballot a).number == 0) ≡ u → Runs n k' (cond t (cond u (Choose a (record { base = stripped at; number = number }) ∷ []) []) []) v.core → AllOweShape R.form n k' (map (dressed R plans n k' g) (cond t (cond u (Choose a (record { base = stripped at; number = number }) ∷ []) []) [])) f1
        chosen_owes x i at number body true true on none runs' = (
          (λ d in_group. ap (λ (z : ℕ → ℕ → Shape). z a d) (planned_keeps msg.body).1 ∙ take_owes x i at number body (equal x.0 g on) (equal (v.core.ballot a).number 0 none) runs'.0 d (subst (λ (s : State). group (act_step s (Choose a (record { base = stripped at; number = number }))) a d ≡ true) heads1 in_group)),
          tt,
        )
        chosen_owes x i at number body true false on none runs' = tt
        chosen_owes x i at number body false u on none runs' = tt

        shut : (t : Bool) (es : List Act) → t ≡ false → AllOweShape R.form n k' (map (dressed R plans n k' g) (cond t es [])) f1
        shut true es e = absurd (cc)
        shut false es e = tt

        calm_moment : (t u : Bool) → AllOweShape R.form n k' (map (dressed R plans n k' g) (cond t (cond u [] (Moment a ∷ [])) [])) f1
        calm_moment true true = tt
        calm_moment true false = (tt, tt)
        calm_moment false u = tt

        acts_owe : (z : Body) → msg.body ≡ z → AllOweShape R.form n k' (map (dressed R plans n k' g) (acts_sent g v.core a z)) f1
        acts_owe (ToBrick (Query x i)) e = calm_moment (x.0 == g) (v.core.moment a)
        acts_owe (ToBrick (PreOp x i at number)) e = chosen_owes x i at number e (x.0 == g) ((v.core.ballot a).number == 0) refl refl (subst (λ (z : Body). Runs n k' (acts_sent g v.core a z) v.core) e runs)
        acts_owe (ToBrick (Mark x i heal head)) e = shut (x.0 == g) _ (unmarked (Mark x i heal head) e)
        acts_owe (ToBrick (Unmark x i at dirty)) e = shut (x.0 == g) _ (unmarked (Unmark x i at dirty) e)
        acts_owe z e = tt

    -- ## The machine after it

    abbrev Old : ℕ → Reply → Type 0
    Old = IsShape g m.said m.flying v.of f.heads f.told

    abbrev Now' : ℕ → Reply → Type 0
    Now' = IsShape g (said_after m msg) (put m.flying msg.no true) (of_after g v msg) f'.heads f'.told

    later : (i : ℕ) (reply : Reply) → Old i reply → Now' i reply
    later = is_shape_later g m.said (said_after m msg) m.flying (put m.flying msg.no true) v.of (of_after g v msg) f.heads f'.heads f.told f'.told
        (λ i x is landed. ((more.still i x is).0, put_there m.flying msg.no true i (more.before i x is) ∙ landed, (more.still i x is).1))
        (λ i x y l is landed body on. (ap (λ (z : ℕ → ℕ → Option Seen). z (v.of i) x.brick) asked.seen, ap (λ (z : ℕ → ℕ → Shape). z (v.of i) x.brick) asked.told))

    posts_then : (i : ℕ) (x : Message) (y : Gfid) (j at version size : ℕ) (attr : Option Attr) → said_after m msg i ≡ Some x → x.body ≡ ToBrick (PostOp y j at version size attr) → y.0 ≡ g → Posts (of_after g v msg i) size attr
    posts_then i x y j at version size attr is body on = ⊎_elim
        (λ z. subst (λ (t : ℕ). Posts (of_after g v msg t) size attr) (sym z.0) (subst (λ (t : ℕ). Posts t size attr) (sym (put_here v.of msg.no a msg.no refl)) (new_post y j at version size attr (ap (λ (w : Message). w.body) z.1 ∙ body) on)))
        (λ z. subst (λ (t : ℕ). Posts t size attr) (sym (more.still i x z).1) (old_post (v.of i) size attr (r.shown.asked i x (PostOp y j at version size attr) z body on).ballot (h.posts i x y j at version size attr z body on)))
        (more.newest i x is)

    -- a turn that has planned has a ballot
    numbered_then : (u : ℕ) → f'.planned u ≡ true → 0 < (v.core.ballot u).number
    numbered_then u now = either (u == a) refl
      where
        at_a : f'.planned a ≡ true → 0 < (v.core.ballot a).number
        at_a now = by (f.planned a) refl
          where
            body : (z : Body) → msg.body ≡ z → f.planned a ≡ false → 0 < (v.core.ballot a).number
            body (ToClient re reply) e none = absurd (let z = asked.never (ap (writes R plans n k' g v.core a f) e) in let w = sym now ∙ (z ∙ none) in cc)
            body (ToBrick q) e none = wrote (R.is_write g q || is_post_on g q) refl
              where
                wrote : (w : Bool) → (R.is_write g q || is_post_on g q) ≡ w → 0 < (v.core.ballot a).number
                wrote false w = absurd (let z = asked.never (ap (writes R plans n k' g v.core a f) e ∙ w) in let y = sym now ∙ (z ∙ none) in cc)
                wrote true w = writes_number q e w

            by : (w : Bool) → f.planned a ≡ w → 0 < (v.core.ballot a).number
            by true e = h.numbered a e
            by false e = body msg.body refl e

        either : (w : Bool) → (u == a) ≡ w → 0 < (v.core.ballot u).number
        either true e = let same = equal u a e in subst (λ (y : ℕ). 0 < (v.core.ballot y).number) (sym same) (at_a (ap f'.planned (sym same) ∙ now))
        either false e = h.numbered u (sym (asked.planned u (differ u a e)) ∙ now)

    pub has_then : (left : ℕ → Leaving) (t : Story) → (f'.heads ≡ (seen_after g m v (Sent msg)).core) → ShapesFollow geometry.n first g R.new (net_after m (Sent msg)) (seen_after g m v (Sent msg)) (booked geometry left m t b (Sent msg)) f'
    has_then left t heads = record {
      heads = heads;
      here = λ d hd lt e clear. ap (λ (z : ℕ → Shape). z d) asked.shape ∙ h.here d hd lt e clear;
      told = spread_entry Old Now' later geometry left m t b r.known.numbers h.told (Sent msg) (next_no, may) (owed_left Old Now' later m.owed msg.body h.told.to_say);
      plans = λ x given u is has now. plans_then x given u (sym (ap (λ (z : ℕ → Option Given). z x) (sent_same geometry m b r.known.numbers msg msg.body).0) ∙ is) has now;
      posts = posts_then;
      numbered = λ u now. let lt = numbered_then u now in subst (λ (p : Ballot). 0 < p.number) (sym ((after_later n k' (acts_sent g v.core a msg.body) v.core runs).ballot u lt)) lt;
      fresh = λ u le. asked.planned u (λ e. let lt = turn_below geometry g m v b msg next_no may r.known in omega (arith, e, lt, le)) ∙ h.fresh u (omega (arith, le));
      made = λ le making. ap (λ (z : ℕ → Shape). z 0) asked.shape_of ∙ h.made le (sym (sym (ap (λ (s : State). s.making) heads) ∙ (asked.making ∙ ap (λ (s : State). s.making) h.heads)) ∙ making);
    }
