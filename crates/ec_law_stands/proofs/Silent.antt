-- A reading that takes no request for data: its deeds touch no piece, and its machine has the flat version that each such machine has.
use Rattle.std.proofs.Common.{◌≡◌, ℕ, Bool, true, false, not, cond, ◌&&◌, ◌||◌, Option, Some, None, List, [], ◌∷◌, ◌++◌, map, refl, sym, ◌∙◌, ap}
use Rattle.ec_history.specs.Run.{Net, after as net_after, out_of}
use Rattle.ec_history.specs.Story.{is_done}
use Rattle.ec_wire.specs.declared.entry.Entry.{Entry}
use Rattle.ec_wire.specs.declared.entry.Entry.TheVariants.{Called, Sent, Executed, Heard, Lost, GivenUp, Stopped, Returned, Cut, Died, Yielded, Torn, Answered, Replaced}
use Rattle.ec_wire.specs.declared.message.Body.{Body}
use Rattle.ec_wire.specs.declared.message.Body.TheVariants.{ToBrick, ToClient}
use Rattle.ec_wire.specs.declared.message.Message.{Message}
use Rattle.ec_law_base.specs.State.{State, target}
use Rattle.ec_law_ballots.specs.Act.{Act, step as act_step}
use Rattle.ec_law_ballots.specs.Act.Act.{Grant, Free, Share, Unshare, Moment, See, Keep, Carry, Choose, Choose_kept, Pre, Sink_pre, Post, Sink_post, Clear, Heal_grant, Heal_free, Mark, Unmark, Maker_grant, Maker_free, Make, Made, Unmake, Stop, Replace}
use Rattle.ec_law_pieces.specs.Deed.{Deed, after as after_deeds, commits, flat_after, step}
use Rattle.ec_law_pieces.specs.Deed.Deed.{Do, Look, Take, Take_kept, Read, Intend, Write, Tear, Copy, Spoil, Commit, Follow, Begin, Finish, Create}
use Rattle.ec_law_pieces.specs.File.{File, Form}
use Rattle.ec_law_net.specs.Turns.{View, acts, all_acts, seen_after, turn_of}
use Rattle.ec_law_data.specs.Deeds.{all_deeds, core_of, cores, data_deeds, deeds, deeds_done, deeds_executed, deeds_of_request, deeds_of_torn, deeds_partly, deeds_sent, deeds_torn, dressed, file, file_after, is_at_base, is_partial, is_post_on, shows}
use Rattle.ec_law_data.specs.Reading.{Plans, Reading}
use Rattle.ec_law_data.proofs.Cores.{core_laws}

-- ## The flat version

-- after an act
abbrev version_step : ℕ → ℕ → State → Act → ℕ → ℕ
version_step n k s (Post a b) v = cond (commits n k s a b) (target (s.ballot a)) v
version_step n k s e v = v

-- after these acts, the first one first
abbrev pub version_after : ℕ → ℕ → List Act → State → ℕ → ℕ
version_after n k [] s v = v
version_after n k (e ∷ es) s v = version_after n k es (act_step s e) (version_step n k s e v)

abbrev is_posting : Act → Bool
is_posting (Post a b) = true
is_posting e = false

unposted : (n k : ℕ) (s : State) (e : Act) (v : ℕ) → is_posting e ≡ false → version_step n k s e v ≡ v
unposted n k s (Post a b) v h = absurd (cc)
unposted n k s e v h = refl

-- ## Deeds

module _ {P V C U S : Type 0} where
  -- a deed that touches no piece, unless a record is made, and plans to cover nothing
  abbrev pub Silent : Deed P V C U S → Type 0
  Silent (Do e) = is_posting e ≡ false
  Silent (Intend a plan) = (p : P) → plan.covers p ≡ false
  Silent (Write a b places) = ⊥
  Silent (Tear a b places pieces) = ⊥
  Silent (Copy a b places pieces) = ⊥
  Silent (Spoil b places pieces) = ⊥
  Silent d = Unit {0}

  abbrev pub Silents : List (Deed P V C U S) → Type 0
  Silents [] = Unit {0}
  Silents (d ∷ ds) = Silent d × Silents ds

  silents_both : (xs ys : List (Deed P V C U S)) → Silents xs → Silents ys → Silents (xs ++ ys)
  silents_both [] ys h i = i
  silents_both (x ∷ xs) ys h i = (h.0, silents_both xs ys h.1 i)

  silents_if : (t : Bool) (xs ys : List (Deed P V C U S)) → Silents xs → Silents ys → Silents (cond t xs ys)
  silents_if true xs ys h i = h
  silents_if false xs ys h i = i

  silents_never : (t : Bool) (xs : List (Deed P V C U S)) → t ≡ false → Silents (cond t xs [])
  silents_never true xs h = absurd (cc)
  silents_never false xs h = tt

  module _ (form : Form P V C U S) (n k : ℕ) where
    one_version : (d : Deed P V C U S) (f : File P V C U S) (es : List Act) → Silent d → version_after n k es (step form n k f d).heads (step form n k f d).flat.version ≡ version_after n k (core_of d ++ es) f.heads f.flat.version
    one_version (Do e) f es h = ap (λ (v : ℕ). version_after n k es (act_step f.heads e) v) (sym (unposted n k f.heads e f.flat.version h))
    one_version (Look a b) f es h = refl
    one_version (Take a p shape) f es h = refl
    one_version (Take_kept x a p) f es h = refl
    one_version (Read a b places) f es h = refl
    one_version (Intend a plan) f es h = refl
    one_version (Write a b places) f es h = absurd h
    one_version (Tear a b places pieces) f es h = absurd h
    one_version (Copy a b places pieces) f es h = absurd h
    one_version (Spoil b places pieces) f es h = absurd h
    one_version (Commit a b) f es h = ap (λ (v : ℕ). version_after n k es (act_step f.heads (Post a b)) v) (by (commits n k f.heads a b))
      where
        by : (c : Bool) → (cond c (flat_after f a) f.flat).version ≡ cond c (target (f.heads.ballot a)) f.flat.version
        by true = refl
        by false = refl
    one_version (Follow a b) f es h = refl
    one_version (Begin a b) f es h = refl
    one_version (Finish a b) f es h = refl
    one_version (Create b shape) f es h = refl

    deeds_version : (ds : List (Deed P V C U S)) (f : File P V C U S) → Silents ds → (after_deeds form n k ds f).flat.version ≡ version_after n k (cores ds) f.heads f.flat.version
    deeds_version [] f h = refl
    deeds_version (d ∷ ds) f h = deeds_version ds (step form n k f d) h.1 ∙ one_version d f (cores ds) h.0

-- ## A log

module _ {P V C U S : Type 0} (R : Reading P V C U S) (never : (g : ℕ) (q : _) → R.is_write g q ≡ false) (plans : Plans P V U S) (covers : (a : ℕ) (p : P) → (plans.plan a).covers p ≡ false) (n k g : ℕ) where
  silent_act : (e : Act) → Silent (dressed R plans n k g e)
  silent_act (See a b) = tt
  silent_act (Choose a p) = tt
  silent_act (Choose_kept x a p) = tt
  silent_act (Post a b) = tt
  silent_act (Sink_post a b) = tt
  silent_act (Mark a b) = tt
  silent_act (Unmark a b) = tt
  silent_act (Make b) = tt
  silent_act (Grant a b) = refl
  silent_act (Free b) = refl
  silent_act (Share a b) = refl
  silent_act (Unshare a b) = refl
  silent_act (Moment a) = refl
  silent_act (Keep x a) = refl
  silent_act (Carry a x b) = refl
  silent_act (Pre a b) = refl
  silent_act (Sink_pre a b) = refl
  silent_act (Clear a b) = refl
  silent_act (Heal_grant h b) = refl
  silent_act (Heal_free b) = refl
  silent_act (Maker_grant b) = refl
  silent_act (Maker_free b) = refl
  silent_act (Made b) = refl
  silent_act (Unmake b) = refl
  silent_act (Stop b) = refl
  silent_act (Replace b) = refl

  silent_acts : (es : List Act) → Silents (map (dressed R plans n k g) es)
  silent_acts [] = tt
  silent_acts (e ∷ es) = (silent_act e, silent_acts es)

  module _ (m : Net) (v : View) (f : File P V C U S) where
    silent_sent : (a : ℕ) (z : Body) → Silents (deeds_sent R plans n k g f a z)
    silent_sent a (ToBrick q) = silents_if ((R.is_write g q || is_post_on g q) && not (f.planned a)) (Intend a (plans.plan a) ∷ []) [] ((λ p. covers a p), tt) tt
    silent_sent a (ToClient re reply) = tt

    silent_executed : (o : Option Message) (version : Option ℕ) (failed : Bool) → Silents (deeds_executed R plans n k g m v f o version failed)
    silent_executed None version failed = tt
    silent_executed (Some msg) version failed = body msg.body version failed
      where
        body : (z : Body) (version : Option ℕ) (failed : Bool) → Silents (deeds_of_request R plans n k g m v f msg z version failed)
        body (ToClient re reply) version failed = tt
        body (ToBrick q) None true = tt
        body (ToBrick q) (Some x) true = silents_never (R.is_write g q && is_partial q) (deeds_partly R plans n k g (v.of msg.no) msg.brick q (m.brick msg.brick) (out_of m msg q (Some x) true).brick) (ap (λ (t : Bool). t && is_partial q) (never g q))
        body (ToBrick q) version false =
            silents_if (is_done (out_of m msg q version false).says) (cond (R.is_write g q) (deeds_done R plans n k g (v.of msg.no) msg.brick q (m.brick msg.brick) (out_of m msg q version false).brick) []) (cond (shows (out_of m msg q version false).says && R.is_read g q && is_at_base f.heads (v.of msg.no) msg.brick) (Read (v.of msg.no) msg.brick (R.reads g q) ∷ []) [])
            (silents_never (R.is_write g q) (deeds_done R plans n k g (v.of msg.no) msg.brick q (m.brick msg.brick) (out_of m msg q version false).brick) (never g q))
            (silents_if (shows (out_of m msg q version false).says && R.is_read g q && is_at_base f.heads (v.of msg.no) msg.brick) (Read (v.of msg.no) msg.brick (R.reads g q) ∷ []) [] (tt, tt) tt)

    silent_torn : (o : Option Message) (count : ℕ) (version : Option ℕ) → Silents (deeds_torn R plans n k g m v o count version)
    silent_torn None count version = tt
    silent_torn (Some msg) count version = body msg.body version
      where
        body : (z : Body) (version : Option ℕ) → Silents (deeds_of_torn R plans n k g m v msg z count version)
        body (ToClient re reply) version = tt
        body (ToBrick q) None = tt
        body (ToBrick q) (Some x) = silents_never (R.is_write g q && is_partial q) _ (ap (λ (t : Bool). t && is_partial q) (never g q))

    silent_data : (e : Entry) → Silents (data_deeds R plans n k g m v f e)
    silent_data (Sent msg) = silent_sent (turn_of g v msg) msg.body
    silent_data (Executed i version failed) = silent_executed (m.said i) version failed
    silent_data (Torn i count version) = silent_torn (m.said i) count version
    silent_data (Called a client op) = tt
    silent_data (Heard i) = tt
    silent_data (Lost i) = tt
    silent_data (GivenUp client brick i) = tt
    silent_data (Stopped b) = tt
    silent_data (Returned b) = tt
    silent_data (Cut client b) = tt
    silent_data (Died client) = tt
    silent_data (Yielded client) = tt
    silent_data (Answered a answer) = tt
    silent_data (Replaced b removed all) = tt

  pub silent_log : (es : List Entry) (m : Net) (v : View) (f : File P V C U S) → Silents (all_deeds R plans n k g es m v f)
  silent_log [] m v f = tt
  silent_log (e ∷ es) m v f =
      silents_both (deeds R plans n k g m v f e) (all_deeds R plans n k g es (net_after m e) (seen_after g m v e) (file_after R plans n k g m v f e))
      (silents_both (data_deeds R plans n k g m v f e) (map (dressed R plans n k g) (acts g m v e)) (silent_data m v f e) (silent_acts (acts g m v e)))
      (silent_log es (net_after m e) (seen_after g m v e) (file_after R plans n k g m v f e))

  -- the flat version is told by the acts alone
  pub log_version : (es : List Entry) (m : Net) (v : View) (f : File P V C U S) → (file R plans n k g es m v f).flat.version ≡ version_after n k (all_acts g es m v) f.heads f.flat.version
  log_version es m v f =
      ap (λ (z : File P V C U S). z.flat.version) ((core_laws R plans).lead_on n k g es m v f)
      ∙ (deeds_version R.form n k (all_deeds R plans n k g es m v f) f (silent_log es m v f)
      ∙ ap (λ (cs : List Act). version_after n k cs f.heads f.flat.version) ((core_laws R plans).log n k g es m v f))
