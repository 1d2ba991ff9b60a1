-- The machine has of each turn with a ballot the shape that the plans have for it.
use Rattle.std.proofs.Common.{◌≡◌, ℕ, ◌^◌, ◌<◌, ◌≤◌, Bool, true, false, not, cond, ◌==◌, ◌&&◌, ◌||◌, Option, Some, None, List, [], ◌∷◌, ◌++◌, map, refl, sym, ◌∙◌, ap, subst}
use Rattle.std.specs.Prelude.{is_some}
use Rattle.ec_attr.specs.Marks.{is_marked}
use Rattle.ec_attr.specs.declared.kind.Domain.TheVariants.{Heal, Inode}
use Rattle.ec_locks.specs.declared.ask.Ask.{Ask as Asking}
use Rattle.ec_brick.specs.Replies.{Says}
use Rattle.ec_brick.specs.State.{State as Brick}
use Rattle.ec_brick.specs.Step.{Out, cut_off}
use Rattle.ec_history.specs.Run.{Net, after as net_after, call_of, is_number, out_of, torn_out, wiped}
use Rattle.ec_history.specs.Story.{is_done}
use Rattle.ec_wire.specs.declared.entry.Entry.{Entry}
use Rattle.ec_wire.specs.declared.entry.Entry.TheVariants.{Sent, Executed, Stopped, Cut, Torn, Replaced}
use Rattle.ec_wire.specs.declared.message.Body.{Body}
use Rattle.ec_wire.specs.declared.message.Body.TheVariants.{ToBrick, ToClient}
use Rattle.ec_wire.specs.declared.message.Message.{Message}
use Rattle.ec_wire.specs.declared.request.Request.{Request}
use Rattle.ec_wire.specs.declared.request.Request.TheVariants.{Clear as ClearOf, Made as MadeOf, Make as MakeOf, Mark as MarkOf, PostOp, PreOp, Query, Unmake as UnmakeOf, Unmark as UnmarkOf}
use Rattle.ec_law_base.specs.State.{State}
use Rattle.ec_law_ballots.specs.Act.{Act}
use Rattle.ec_law_ballots.specs.Act.Act.{Choose, Choose_kept, Free, Grant, Heal_free, Heal_grant, Make, Maker_grant, Mark, Moment, Post, Pre, Replace, See, Sink_post, Sink_pre, Unmark}
use Rattle.ec_law_pieces.specs.Deed.{Deed, after as after_deeds, step}
use Rattle.ec_law_pieces.specs.Deed.Deed.{Intend, Read, Spoil, Tear, Write}
use Rattle.ec_law_pieces.specs.File.{File}
use Rattle.ec_law_net.specs.Turns.{View, acts, acts_changed, acts_done, acts_executed, acts_locks, acts_maker, acts_of_request, acts_sent, acts_shown, acts_torn, acts_worked, counted, exclusive, freed, granted, has_directory, is_shown, same, seen_after, turn_of}
use Rattle.ec_law_turns.proofs.Basics.{equal}
use Rattle.ec_law_data.specs.Deeds.{data_deeds, deeds_answered, deeds_done, deeds_executed, deeds_failed, deeds_of_request, deeds_of_torn, deeds_partly, deeds_sent, deeds_torn, dressed, file, file_after, is_at_base, is_granted, is_partial, is_post_on, pieces_of, shows}
use Rattle.ec_law_data.specs.Reading.{Plans, Reading}
use Rattle.ec_law_data.proofs.Cores.{deeds_both}

-- ## Acts on kept grants

abbrev is_fresh : Act → Bool
is_fresh (Choose_kept x a p) = false
is_fresh e = true

abbrev Fresh : List Act → Type 0
Fresh [] = Unit {0}
Fresh (e ∷ es) = (is_fresh e ≡ true) × Fresh es

fresh_both : (xs ys : List Act) → Fresh xs → Fresh ys → Fresh (xs ++ ys)
fresh_both [] ys h i = i
fresh_both (x ∷ xs) ys h i = (h.0, fresh_both xs ys h.1 i)

fresh_if : (t : Bool) (xs ys : List Act) → Fresh xs → Fresh ys → Fresh (cond t xs ys)
fresh_if true xs ys h i = h
fresh_if false xs ys h i = i

fresh_either : (t : Bool) (x y : Act) → is_fresh x ≡ true → is_fresh y ≡ true → is_fresh (cond t x y) ≡ true
fresh_either true x y h i = h
fresh_either false x y h i = i

fresh_changed : (free : Act) (grant : ℕ → Act) → is_fresh free ≡ true → ((i : ℕ) → is_fresh (grant i) ≡ true) → (old new : Option ℕ) → Fresh (acts_changed free grant old new)
fresh_changed free grant h i old new = fresh_if (same old new) [] (freed free old ++ granted grant new) tt (fresh_both (freed free old) (granted grant new) (frees old) (grants new))
  where
    frees : (o : Option ℕ) → Fresh (freed free o)
    frees None = tt
    frees (Some x) = (h, tt)

    grants : (o : Option ℕ) → Fresh (granted grant o)
    grants None = tt
    grants (Some x) = (i x, tt)

fresh_maker : (s : State) (b : ℕ) (old new : Bool) → Fresh (acts_maker s b old new)
fresh_maker s b false true = fresh_if s.making [] (Maker_grant b ∷ []) tt (refl, tt)
fresh_maker s b true false = (refl, tt)
fresh_maker s b true true = tt
fresh_maker s b false false = tt

fresh_locks : (g : ℕ) (m : Net) (v : View) (b : ℕ) (old new : List Asking) → Fresh (acts_locks g m v b old new)
fresh_locks g m v b old new =
    fresh_both (acts_changed (Heal_free b) (λ i. Heal_grant (call_of (m.said i)) b) (exclusive g Heal old) (exclusive g Heal new)) _ (fresh_changed (Heal_free b) (λ i. Heal_grant (call_of (m.said i)) b) refl (λ i. refl) (exclusive g Heal old) (exclusive g Heal new))
    (fresh_both (acts_changed (Free b) (λ i. Grant (v.of i) b) (exclusive g Inode old) (exclusive g Inode new)) _ (fresh_changed (Free b) (λ i. Grant (v.of i) b) refl (λ i. refl) (exclusive g Inode old) (exclusive g Inode new))
    (fresh_maker v.core b (has_directory m.said v.maker old) (has_directory m.said v.maker new)))

fresh_sent : (g : ℕ) (s : State) (a : ℕ) (body : Body) → Fresh (acts_sent g s a body)
fresh_sent g s a (ToBrick (Query x n)) = fresh_if (x.0 == g) _ [] (fresh_if (s.moment a) [] (Moment a ∷ []) tt (refl, tt)) tt
fresh_sent g s a (ToBrick (PreOp x n at dirty)) = fresh_if (x.0 == g) _ [] (fresh_if ((s.ballot a).number == 0) _ [] (refl, tt) tt) tt
fresh_sent g s a (ToBrick (MarkOf x n heal head)) = fresh_if (x.0 == g) _ [] (fresh_if ((s.ballot a).number == 0) _ [] (refl, tt) tt) tt
fresh_sent g s a (ToBrick (UnmarkOf x n at dirty)) = fresh_if (x.0 == g) _ [] (fresh_if ((s.ballot a).number == 0) _ [] (refl, tt) tt) tt
fresh_sent g s a body = tt

fresh_shown : (g a b : ℕ) (holder : Option ℕ) (q : Request) → Fresh (acts_shown g a b holder q)
fresh_shown g a b holder (Query x n) = fresh_if ((x.0 == g) && is_number n holder) _ [] (refl, tt) tt
fresh_shown g a b holder q = tt

fresh_done : (g a b : ℕ) (q : Request) → Fresh (acts_done g a b q)
fresh_done g a b (PreOp x n at dirty) = fresh_if (x.0 == g) _ [] (fresh_either (is_marked at) (Sink_pre a b) (Pre a b) refl refl, tt) tt
fresh_done g a b (PostOp x n at version size attr) = fresh_if (x.0 == g) _ [] (fresh_either (is_marked at) (Sink_post a b) (Post a b) refl refl, tt) tt
fresh_done g a b (ClearOf x n at) = fresh_if (x.0 == g) _ [] (refl, tt) tt
fresh_done g a b (MarkOf x n heal head) = fresh_if (x.0 == g) _ [] (refl, tt) tt
fresh_done g a b (UnmarkOf x n at dirty) = fresh_if (x.0 == g) _ [] (refl, tt) tt
fresh_done g a b (MakeOf x n child) = fresh_if (child.gfid.0 == g) _ [] (refl, tt) tt
fresh_done g a b (MadeOf x n child) = fresh_if (child.0 == g) _ [] (refl, tt) tt
fresh_done g a b (UnmakeOf x n child) = fresh_if (child.0 == g) _ [] (refl, tt) tt
fresh_done g a b q = tt

fresh_executed : (g : ℕ) (m : Net) (v : View) (o : Option Message) (version : Option ℕ) (failed : Bool) → Fresh (acts_executed g m v o version failed)
fresh_executed g m v None version failed = tt
fresh_executed g m v (Some msg) version failed = by msg.body
  where
    by : (z : Body) → Fresh (acts_of_request g m v msg z version failed)
    by (ToClient re reply) = tt
    by (ToBrick q) =
        let says : Says = (out_of m msg q version failed).says in
        fresh_both (acts_worked g (v.of msg.no) msg.brick (counted v.core (v.of msg.no) (exclusive g Inode (m.brick msg.brick).asks)) q says) _
        (fresh_if (is_done says) (acts_done g (v.of msg.no) msg.brick q) (cond (is_shown says) (acts_shown g (v.of msg.no) msg.brick (counted v.core (v.of msg.no) (exclusive g Inode (m.brick msg.brick).asks)) q) []) (fresh_done g (v.of msg.no) msg.brick q)
        (fresh_if (is_shown says) (acts_shown g (v.of msg.no) msg.brick (counted v.core (v.of msg.no) (exclusive g Inode (m.brick msg.brick).asks)) q) [] (fresh_shown g (v.of msg.no) msg.brick (counted v.core (v.of msg.no) (exclusive g Inode (m.brick msg.brick).asks)) q) tt))
        (fresh_locks g m v msg.brick (m.brick msg.brick).asks (out_of m msg q version failed).brick.asks)

fresh_acts : (g : ℕ) (m : Net) (v : View) (e : Entry) → Fresh (acts g m v e)
fresh_acts g m v (Sent msg) = fresh_sent g v.core (turn_of g v msg) msg.body
fresh_acts g m v (Executed i version failed) = fresh_executed g m v (m.said i) version failed
fresh_acts g m v (Stopped b) = (refl, tt)
fresh_acts g m v (Cut client b) = fresh_locks g m v b (m.brick b).asks (cut_off (m.brick b) client).brick.asks
fresh_acts g m v (Torn i bytes version) = by (m.said i)
  where
    by : (o : Option Message) → Fresh (acts_torn o)
    by None = tt
    by (Some msg) = (refl, tt)
fresh_acts g m v (Replaced b removed all) = fresh_if (is_some ((m.brick b).records g) && not (is_some (wiped removed all (m.brick b).records g))) (Replace b ∷ []) [] (refl, tt) tt
fresh_acts g m v e = tt

-- ## Shapes

module _ {P V C U S : Type 0} (R : Reading P V C U S) (plans : Plans P V U S) (n k g : ℕ) where
  -- of each turn of the log that has a ballot
  abbrev pub AsTook : File P V C U S → Type 0
  AsTook f = (a : ℕ) → 2 ^ 61 ≤ a → 0 < (f.heads.ballot a).number → f.took a ≡ plans.took a

  -- deeds that keep it so
  abbrev Takes : List (Deed P V C U S) → Type 0
  Takes ds = (f : File P V C U S) → AsTook f → AsTook (after_deeds R.form n k ds f)

  takes_none : Takes []
  takes_none f h = h

  takes_if : (t : Bool) (xs ys : List (Deed P V C U S)) → Takes xs → Takes ys → Takes (cond t xs ys)
  takes_if true xs ys h i = h
  takes_if false xs ys h i = i

  takes_either : (t : Bool) (x y : Deed P V C U S) → Takes (x ∷ []) → Takes (y ∷ []) → Takes (cond t x y ∷ [])
  takes_either true x y h i = h
  takes_either false x y h i = i

  act_takes : (e : Act) (f : File P V C U S) → is_fresh e ≡ true → AsTook f → AsTook (step R.form n k f (dressed R plans n k g e))
  act_takes (Choose a p) f fresh h = λ x begun number. by x begun (x == a) refl number
    where
      by : (x : ℕ) → 2 ^ 61 ≤ x → (t : Bool) → (x == a) ≡ t → 0 < (cond (x == a) p (f.heads.ballot x)).number → cond (x == a) (plans.took a) (f.took x) ≡ plans.took x
      by x begun true e z = ap (λ (t : Bool). cond t (plans.took a) (f.took x)) e ∙ ap plans.took (sym (equal x a e))
      by x begun false e z = ap (λ (t : Bool). cond t (plans.took a) (f.took x)) e ∙ h x begun (subst (λ (t : Bool). 0 < (cond t p (f.heads.ballot x)).number) e z)
  act_takes (Choose_kept x a p) f fresh h = absurd (cc)
  act_takes (See a b) f fresh h = h
  act_takes (Post a b) f fresh h = h
  act_takes (Sink_post a b) f fresh h = h
  act_takes (Mark a b) f fresh h = h
  act_takes (Unmark a b) f fresh h = h
  act_takes (Make b) f fresh h = h
  act_takes e f fresh h = h

  acts_take : (es : List Act) → Fresh es → Takes (map (dressed R plans n k g) es)
  acts_take [] fresh f h = h
  acts_take (e ∷ es) fresh f h = acts_take es fresh.1 (step R.form n k f (dressed R plans n k g e)) (act_takes e f fresh.0 h)

  failed_takes : (a b : ℕ) (q : Request) (version : Option ℕ) (old now : Brick) → Takes (deeds_failed R plans n k g a b q version old now)
  failed_takes a b q None old now = takes_none
  failed_takes a b q (Some version) old now = takes_if (R.is_write g q && is_partial q) (deeds_partly R plans n k g a b q old now) [] (takes_either (is_granted old q) (Tear a b (R.writes g q) (pieces_of R plans n k g (now.records g))) (Spoil b (R.writes g q) (pieces_of R plans n k g (now.records g))) (λ f h. h) (λ f h. h)) takes_none

  answered_takes : (f' : File P V C U S) (a b : ℕ) (q : Request) (old : Brick) (out : Out) → Takes (deeds_answered R plans n k g f' a b q old out)
  answered_takes f' a b q old out = takes_if (is_done out.says) (cond (R.is_write g q) (deeds_done R plans n k g a b q old out.brick) []) (cond (shows out.says && R.is_read g q && is_at_base f'.heads a b) (Read a b (R.reads g q) ∷ []) [])
      (takes_if (R.is_write g q) (deeds_done R plans n k g a b q old out.brick) [] (takes_either (is_granted old q) (Write a b (R.writes g q)) (Spoil b (R.writes g q) (pieces_of R plans n k g (out.brick.records g))) (λ f h. h) (λ f h. h)) takes_none)
      (takes_if (shows out.says && R.is_read g q && is_at_base f'.heads a b) (Read a b (R.reads g q) ∷ []) [] (λ f h. h) takes_none)

  data_takes : (m : Net) (v : View) (f' : File P V C U S) (e : Entry) → Takes (data_deeds R plans n k g m v f' e)
  data_takes m v f' (Sent msg) = by msg.body
    where
      by : (z : Body) → Takes (deeds_sent R plans n k g f' (turn_of g v msg) z)
      by (ToClient re reply) = takes_none
      by (ToBrick q) = takes_if ((R.is_write g q || is_post_on g q) && not (f'.planned (turn_of g v msg))) (Intend (turn_of g v msg) (plans.plan (turn_of g v msg)) ∷ []) [] (λ f h. h) takes_none
  data_takes m v f' (Executed i version failed) = by (m.said i)
    where
      body : (msg : Message) (z : Body) (failed : Bool) → Takes (deeds_of_request R plans n k g m v f' msg z version failed)
      body msg (ToBrick q) true = failed_takes (v.of msg.no) msg.brick q version (m.brick msg.brick) (out_of m msg q version true).brick
      body msg (ToBrick q) false = answered_takes f' (v.of msg.no) msg.brick q (m.brick msg.brick) (out_of m msg q version false)
      body msg (ToClient re reply) failed = takes_none

      by : (o : Option Message) → Takes (deeds_executed R plans n k g m v f' o version failed)
      by None = takes_none
      by (Some msg) = body msg msg.body failed
  data_takes m v f' (Torn i count version) = by (m.said i)
    where
      body : (msg : Message) (z : Body) → Takes (deeds_of_torn R plans n k g m v msg z count version)
      body msg (ToBrick q) = failed_takes (v.of msg.no) msg.brick q version (m.brick msg.brick) (torn_out m msg q count version).brick
      body msg (ToClient re reply) = takes_none

      by : (o : Option Message) → Takes (deeds_torn R plans n k g m v o count version)
      by None = takes_none
      by (Some msg) = body msg msg.body
  data_takes m v f' e = takes_none

  pub entry_takes : (m : Net) (v : View) (f : File P V C U S) (e : Entry) → AsTook f → AsTook (file_after R plans n k g m v f e)
  entry_takes m v f e h = subst AsTook (sym (deeds_both R.form n k (data_deeds R plans n k g m v f e) (map (dressed R plans n k g) (acts g m v e)) f)) (acts_take (acts g m v e) (fresh_acts g m v e) (after_deeds R.form n k (data_deeds R plans n k g m v f e) f) (data_takes m v f e f h))

  pub as_took : (es : List Entry) (m : Net) (v : View) (f : File P V C U S) → AsTook f → AsTook (file R plans n k g es m v f)
  as_took [] m v f h = h
  as_took (e ∷ es) m v f h = as_took es (net_after m e) (seen_after g m v e) (file_after R plans n k g m v f e) (entry_takes m v f e h)
