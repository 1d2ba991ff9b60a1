-- What an entry makes of the machine's flat value and of its plans, read in any way.
use Rattle.std.proofs.Common.{◌≡◌, ℕ, Bool, true, false, not, cond, ◌==◌, ◌&&◌, ◌||◌, Option, Some, None, List, [], ◌∷◌, ◌++◌, map, refl, sym, ◌∙◌, ap, subst}
use Rattle.ec_attr.specs.Marks.{is_marked}
use Rattle.ec_attr.specs.declared.geometry.Geometry.{Geometry}
use Rattle.ec_conduct.specs.Given.{quorum}
use Rattle.ec_brick.specs.State.{State as Brick}
use Rattle.ec_brick.specs.Step.{Out}
use Rattle.ec_history.specs.Flat.{Opener, is_open_to_it_alone, opened_by}
use Rattle.ec_history.specs.Flat.Opener.{Nobody}
use Rattle.ec_history.specs.Run.{Net, out_of, torn_out}
use Rattle.ec_history.specs.Story.{is_done}
use Rattle.ec_store.specs.Put.{put}
use Rattle.ec_wire.specs.declared.entry.Entry.TheVariants.{Sent}
use Rattle.ec_wire.specs.declared.message.Body.TheVariants.{ToBrick, ToClient}
use Rattle.ec_wire.specs.declared.message.Body.{Body}
use Rattle.ec_wire.specs.declared.message.Message.{Message}
use Rattle.ec_wire.specs.declared.request.Request.{Request}
use Rattle.ec_law_base.specs.State.{target}
use Rattle.ec_law_ballots.specs.Act.{Act}
use Rattle.ec_law_ballots.specs.Act.Act.{Grant, Free, Share, Unshare, Moment, See, Keep, Carry, Choose, Choose_kept, Pre, Sink_pre, Post, Sink_post, Clear, Heal_grant, Heal_free, Mark, Unmark, Maker_grant, Maker_free, Make, Made, Unmake, Stop, Replace}
use Rattle.ec_law_pieces.specs.Deed.{Deed, after as after_deeds, carried_unit, commits, flat_after, step}
use Rattle.ec_law_pieces.specs.Deed.Deed.{Commit, Intend, Read, Write, Tear, Spoil}
use Rattle.ec_law_pieces.specs.File.{File}
use Rattle.ec_law_net.specs.Turns.{View, acts, turn_of}
use Rattle.ec_law_data.specs.Deeds.{deeds_answered, deeds_done, deeds_failed, deeds_of_request, deeds_of_torn, deeds_partly, deeds_sent, dressed, file_after, is_at_base, is_granted, is_partial, is_post_on, pieces_of, shows}
use Rattle.ec_law_data.specs.Reading.{Plans, Reading}
use Rattle.ec_law_data.proofs.Cores.{deeds_both}
use Rattle.ec_law_data.proofs.Guards.{Easy, easy_sent, is_easy}
use Rattle.ec_law_flats.specs.Plans.{plans_on}
use Rattle.ec_law_flats.proofs.PostKinds.{IsPost, its_acts}

module _ {P V C U S : Type 0} where
  -- the plans are as they were
  pub record PlansKept (f h : File P V C U S) : Type 0 where
    pub planned : h.planned ≡ f.planned
    pub covers : h.covers ≡ f.covers
    pub sets : h.sets ≡ f.sets

  -- the flat value is as it was, but for its shape
  pub record FlatKept (f h : File P V C U S) : Type 0 where
    pub version : h.flat.version ≡ f.flat.version
    pub unit : h.flat.unit ≡ f.flat.unit
    pub opener : h.flat.opener ≡ f.flat.opener

  pub record Same (f h : File P V C U S) : Type 0 where
    pub plans : PlansKept f h
    pub flat : FlatKept f h

  pub same : (f : File P V C U S) → Same f f
  same f = record { plans = record { planned = refl; covers = refl; sets = refl }; flat = record { version = refl; unit = refl; opener = refl } }

  -- turn a has opened these places, if it was a write, where brick b is at the flat version
  pub record Opens (f h : File P V C U S) (a b : ℕ) (places : P → Bool) (w : Bool) : Type 0 where
    pub plans : PlansKept f h
    pub version : h.flat.version ≡ f.flat.version
    pub unit : h.flat.unit ≡ f.flat.unit
    pub opener : (p : P) → h.flat.opener p ≡ cond (w && (places p && (f.heads.version b == f.flat.version))) (opened_by (f.heads.call a) (f.flat.opener p)) (f.flat.opener p)

  pub opens_nothing : (f h : File P V C U S) (a b : ℕ) (places : P → Bool) (w : Bool) → w ≡ false → Same f h → Opens f h a b places w
  opens_nothing f h a b places w e s = record {
    plans = s.plans;
    version = s.flat.version;
    unit = s.flat.unit;
    opener = λ p. ap (λ (o : P → Opener). o p) s.flat.opener ∙ sym (ap (λ (c : Bool). cond (c && (places p && (f.heads.version b == f.flat.version))) (opened_by (f.heads.call a) (f.flat.opener p)) (f.flat.opener p)) e);
  }

  -- the commit of turn a
  pub record Commits (f h : File P V C U S) (a : ℕ) : Type 0 where
    pub plans : PlansKept f h
    pub version : h.flat.version ≡ target (f.heads.ballot a)
    pub unit : (p : P) (i : ℕ) → h.flat.unit p i ≡ cond (f.covers a p) (carried_unit (f.sets a p i) (is_open_to_it_alone (f.heads.call a) (f.flat.opener p)) (f.flat.unit p i)) (f.flat.unit p i)
    pub opener : (p : P) → h.flat.opener p ≡ cond (f.covers a p) Nobody (f.flat.opener p)

  plans_then : (f h j : File P V C U S) → PlansKept f h → PlansKept h j → PlansKept f j
  plans_then f h j x y = record { planned = y.planned ∙ x.planned; covers = y.covers ∙ x.covers; sets = y.sets ∙ x.sets }

  opens_then : (f h j : File P V C U S) (a b : ℕ) (places : P → Bool) (w : Bool) → Opens f h a b places w → Same h j → Opens f j a b places w
  opens_then f h j a b places w x y = record {
    plans = plans_then f h j x.plans y.plans;
    version = y.flat.version ∙ x.version;
    unit = y.flat.unit ∙ x.unit;
    opener = λ p. ap (λ (o : P → Opener). o p) y.flat.opener ∙ x.opener p;
  }

  commits_then : (f h j : File P V C U S) (a : ℕ) → Commits f h a → Same h j → Commits f j a
  commits_then f h j a x y = record {
    plans = plans_then f h j x.plans y.plans;
    version = y.flat.version ∙ x.version;
    unit = λ p i. ap (λ (o : P → ℕ → Option U). o p i) y.flat.unit ∙ x.unit p i;
    opener = λ p. ap (λ (o : P → Opener). o p) y.flat.opener ∙ x.opener p;
  }

  same_then : (f h j : File P V C U S) → Same f h → Same h j → Same f j
  same_then f h j x y = record {
    plans = plans_then f h j x.plans y.plans;
    flat = record { version = y.flat.version ∙ x.flat.version; unit = y.flat.unit ∙ x.flat.unit; opener = y.flat.opener ∙ x.flat.opener };
  }

module _ {P V C U S : Type 0} (R : Reading P V C U S) (plans : Plans P V U S) (n k g : ℕ) where
  -- acts that are no PostOp leave both
  pub same_acts : (es : List Act) (f : File P V C U S) → Easy es → Same f (after_deeds R.form n k (map (dressed R plans n k g) es) f)
  same_acts [] f h = same f
  same_acts (e ∷ es) f h = same_then f (step R.form n k f (dressed R plans n k g e)) _ (one e h.0) (same_acts es (step R.form n k f (dressed R plans n k g e)) h.1)
    where
      one : (e : Act) → is_easy e ≡ true → Same f (step R.form n k f (dressed R plans n k g e))
      one (Grant a b) easy = record { plans = record { planned = refl; covers = refl; sets = refl }; flat = record { version = refl; unit = refl; opener = refl } }
      one (Free b) easy = record { plans = record { planned = refl; covers = refl; sets = refl }; flat = record { version = refl; unit = refl; opener = refl } }
      one (Share a b) easy = record { plans = record { planned = refl; covers = refl; sets = refl }; flat = record { version = refl; unit = refl; opener = refl } }
      one (Unshare a b) easy = record { plans = record { planned = refl; covers = refl; sets = refl }; flat = record { version = refl; unit = refl; opener = refl } }
      one (Moment a) easy = record { plans = record { planned = refl; covers = refl; sets = refl }; flat = record { version = refl; unit = refl; opener = refl } }
      one (See a b) easy = record { plans = record { planned = refl; covers = refl; sets = refl }; flat = record { version = refl; unit = refl; opener = refl } }
      one (Keep x a) easy = record { plans = record { planned = refl; covers = refl; sets = refl }; flat = record { version = refl; unit = refl; opener = refl } }
      one (Carry a x b) easy = record { plans = record { planned = refl; covers = refl; sets = refl }; flat = record { version = refl; unit = refl; opener = refl } }
      one (Choose a p) easy = record { plans = record { planned = refl; covers = refl; sets = refl }; flat = record { version = refl; unit = refl; opener = refl } }
      one (Choose_kept x a p) easy = record { plans = record { planned = refl; covers = refl; sets = refl }; flat = record { version = refl; unit = refl; opener = refl } }
      one (Pre a b) easy = record { plans = record { planned = refl; covers = refl; sets = refl }; flat = record { version = refl; unit = refl; opener = refl } }
      one (Sink_pre a b) easy = record { plans = record { planned = refl; covers = refl; sets = refl }; flat = record { version = refl; unit = refl; opener = refl } }
      one (Post a b) easy = absurd (cc)
      one (Sink_post a b) easy = absurd (cc)
      one (Clear a b) easy = record { plans = record { planned = refl; covers = refl; sets = refl }; flat = record { version = refl; unit = refl; opener = refl } }
      one (Heal_grant h b) easy = record { plans = record { planned = refl; covers = refl; sets = refl }; flat = record { version = refl; unit = refl; opener = refl } }
      one (Heal_free b) easy = record { plans = record { planned = refl; covers = refl; sets = refl }; flat = record { version = refl; unit = refl; opener = refl } }
      one (Mark a b) easy = absurd (cc)
      one (Unmark a b) easy = absurd (cc)
      one (Maker_grant b) easy = record { plans = record { planned = refl; covers = refl; sets = refl }; flat = record { version = refl; unit = refl; opener = refl } }
      one (Maker_free b) easy = record { plans = record { planned = refl; covers = refl; sets = refl }; flat = record { version = refl; unit = refl; opener = refl } }
      one (Make b) easy = record { plans = record { planned = refl; covers = refl; sets = refl }; flat = record { version = refl; unit = refl; opener = refl } }
      one (Made b) easy = record { plans = record { planned = refl; covers = refl; sets = refl }; flat = record { version = refl; unit = refl; opener = refl } }
      one (Unmake b) easy = record { plans = record { planned = refl; covers = refl; sets = refl }; flat = record { version = refl; unit = refl; opener = refl } }
      one (Stop b) easy = record { plans = record { planned = refl; covers = refl; sets = refl }; flat = record { version = refl; unit = refl; opener = refl } }
      one (Replace b) easy = record { plans = record { planned = refl; covers = refl; sets = refl }; flat = record { version = refl; unit = refl; opener = refl } }

  -- ## Data

  module _ (f : File P V C U S) (a b : ℕ) (q : Request) (old : Brick) where
    -- under the grant of the content a write opens what it writes
    opens_done : (now : Brick) → Opens f (after_deeds R.form n k (deeds_done R plans n k g a b q old now) f) a b (R.writes g q) (is_granted old q)
    opens_done now = by (is_granted old q)
      where
        by : (c : Bool) → Opens f (after_deeds R.form n k (cond {A = Deed P V C U S} c (Write a b (R.writes g q)) (Spoil b (R.writes g q) (pieces_of R plans n k g (now.records g))) ∷ []) f) a b (R.writes g q) c
        by true = record { plans = record { planned = refl; covers = refl; sets = refl }; version = refl; unit = refl; opener = λ p. refl }
        by false = record { plans = record { planned = refl; covers = refl; sets = refl }; version = refl; unit = refl; opener = λ p. refl }

    opens_partly : (now : Brick) → Opens f (after_deeds R.form n k (deeds_partly R plans n k g a b q old now) f) a b (R.writes g q) (is_granted old q)
    opens_partly now = by (is_granted old q)
      where
        by : (c : Bool) → Opens f (after_deeds R.form n k (cond {A = Deed P V C U S} c (Tear a b (R.writes g q) (pieces_of R plans n k g (now.records g))) (Spoil b (R.writes g q) (pieces_of R plans n k g (now.records g))) ∷ []) f) a b (R.writes g q) c
        by true = record { plans = record { planned = refl; covers = refl; sets = refl }; version = refl; unit = refl; opener = λ p. refl }
        by false = record { plans = record { planned = refl; covers = refl; sets = refl }; version = refl; unit = refl; opener = λ p. refl }

    -- whether the machine has a write of data there
    abbrev pub wrote : Bool → Bool
    wrote done = done && (R.is_write g q && is_granted old q)

    abbrev pub wrote_part : Option ℕ → Bool
    wrote_part None = false
    wrote_part (Some version) = (R.is_write g q && is_partial q) && is_granted old q

    pub opens_failed : (version : Option ℕ) (now : Brick) → Opens f (after_deeds R.form n k (deeds_failed R plans n k g a b q version old now) f) a b (R.writes g q) (wrote_part version)
    opens_failed None now = opens_nothing f f a b (R.writes g q) false refl (same f)
    opens_failed (Some version) now = by (R.is_write g q && is_partial q)
      where
        by : (c : Bool) → Opens f (after_deeds R.form n k (cond c (deeds_partly R plans n k g a b q old now) []) f) a b (R.writes g q) (c && is_granted old q)
        by true = opens_partly now
        by false = opens_nothing f f a b (R.writes g q) false refl (same f)

    pub opens_answered : (o : Out) → Opens f (after_deeds R.form n k (deeds_answered R plans n k g f a b q old o) f) a b (R.writes g q) (wrote (is_done o.says))
    opens_answered o = by (is_done o.says) (R.is_write g q) (shows o.says && R.is_read g q && is_at_base f.heads a b)
      where
        by : (d w r : Bool) → Opens f (after_deeds R.form n k (cond d (cond w (deeds_done R plans n k g a b q old o.brick) []) (cond r (Read a b (R.reads g q) ∷ []) [])) f) a b (R.writes g q) (d && (w && is_granted old q))
        by true true r = opens_done o.brick
        by true false r = opens_nothing f f a b (R.writes g q) false refl (same f)
        by false w true = opens_nothing f _ a b (R.writes g q) false refl (record { plans = record { planned = refl; covers = refl; sets = refl }; flat = record { version = refl; unit = refl; opener = refl } })
        by false w false = opens_nothing f f a b (R.writes g q) false refl (same f)

  -- ## A request that is executed

  module _ (m : Net) (v : View) (f : File P V C U S) (msg : Message) (q : Request) (version : Option ℕ) where
    abbrev pub opening : Bool → Bool
    opening true = wrote_part f (v.of msg.no) msg.brick q (m.brick msg.brick) version
    opening false = wrote f (v.of msg.no) msg.brick q (m.brick msg.brick) (is_done (out_of m msg q version false).says)

    pub opens_request : (failed : Bool) → Opens f (after_deeds R.form n k (deeds_of_request R plans n k g m v f msg (ToBrick q) version failed) f) (v.of msg.no) msg.brick (R.writes g q) (opening failed)
    opens_request true = opens_failed f (v.of msg.no) msg.brick q (m.brick msg.brick) version (out_of m msg q version true).brick
    opens_request false = opens_answered f (v.of msg.no) msg.brick q (m.brick msg.brick) (out_of m msg q version false)

    -- data, and then acts that are no PostOp
    pub opens_easily : (failed : Bool) (es : List Act) → Easy es → Opens f (after_deeds R.form n k (deeds_of_request R plans n k g m v f msg (ToBrick q) version failed ++ map (dressed R plans n k g) es) f) (v.of msg.no) msg.brick (R.writes g q) (opening failed)
    opens_easily failed es easy =
        subst (λ (h : File P V C U S). Opens f h (v.of msg.no) msg.brick (R.writes g q) (opening failed)) (sym (deeds_both R.form n k (deeds_of_request R plans n k g m v f msg (ToBrick q) version failed) (map (dressed R plans n k g) es) f))
        (opens_then f (after_deeds R.form n k (deeds_of_request R plans n k g m v f msg (ToBrick q) version failed) f) _ (v.of msg.no) msg.brick (R.writes g q) (opening failed) (opens_request failed) (same_acts es (after_deeds R.form n k (deeds_of_request R plans n k g m v f msg (ToBrick q) version failed) f) easy))

    pub opens_torn : (count : ℕ) (es : List Act) → Easy es → Opens f (after_deeds R.form n k (deeds_of_torn R plans n k g m v msg (ToBrick q) count version ++ map (dressed R plans n k g) es) f) (v.of msg.no) msg.brick (R.writes g q) (opening true)
    opens_torn count es easy =
        subst (λ (h : File P V C U S). Opens f h (v.of msg.no) msg.brick (R.writes g q) (opening true)) (sym (deeds_both R.form n k (deeds_of_torn R plans n k g m v msg (ToBrick q) count version) (map (dressed R plans n k g) es) f))
        (opens_then f (after_deeds R.form n k (deeds_of_torn R plans n k g m v msg (ToBrick q) count version) f) _ (v.of msg.no) msg.brick (R.writes g q) (opening true) (opens_failed f (v.of msg.no) msg.brick q (m.brick msg.brick) version (torn_out m msg q count version).brick) (same_acts es (after_deeds R.form n k (deeds_of_torn R plans n k g m v msg (ToBrick q) count version) f) easy))

  -- ## A PostOp

  -- on an unmarked record it may commit
  posts : (f : File P V C U S) (a b : ℕ) (rest : List Act) → Easy rest → (commits n k f.heads a b ≡ true → Commits f (after_deeds R.form n k (map (dressed R plans n k g) (Post a b ∷ rest)) f) a) × (commits n k f.heads a b ≡ false → Same f (after_deeds R.form n k (map (dressed R plans n k g) (Post a b ∷ rest)) f))
  posts f a b rest easy = (
    λ e. commits_then f (step R.form n k f (Commit a b)) _ a (made (commits n k f.heads a b) e) (same_acts rest (step R.form n k f (Commit a b)) easy),
    λ e. same_then f (step R.form n k f (Commit a b)) _ (none (commits n k f.heads a b) e) (same_acts rest (step R.form n k f (Commit a b)) easy),
  )
    where
      made : (c : Bool) → c ≡ true → Commits f (record (step R.form n k f (Commit a b)) { flat = cond c (flat_after f a) f.flat }) a
      made true e = record { plans = record { planned = refl; covers = refl; sets = refl }; version = refl; unit = λ p i. refl; opener = λ p. refl }
      made false e = absurd (cc)

      none : (c : Bool) → c ≡ false → Same f (record (step R.form n k f (Commit a b)) { flat = cond c (flat_after f a) f.flat })
      none true e = absurd (cc)
      none false e = record { plans = record { planned = refl; covers = refl; sets = refl }; flat = record { version = refl; unit = refl; opener = refl } }

  sinks : (f : File P V C U S) (a b : ℕ) (rest : List Act) → Easy rest → Same f (after_deeds R.form n k (map (dressed R plans n k g) (Sink_post a b ∷ rest)) f)
  sinks f a b rest easy = same_then f (step R.form n k f (dressed R plans n k g (Sink_post a b))) _ (record { plans = record { planned = refl; covers = refl; sets = refl }; flat = record { version = refl; unit = refl; opener = refl } }) (same_acts rest (step R.form n k f (dressed R plans n k g (Sink_post a b))) easy)

module _ {P V C U S : Type 0} (R : Reading P V C U S) (plans : Plans P V U S) (geometry : Geometry) (g : ℕ) where
  abbrev n : ℕ
  n = geometry.n

  abbrev k : ℕ
  k = quorum geometry

  -- a PostOp is no data request
  module _ (no_write : (x : Request) → is_post_on g x ≡ true → R.is_write g x ≡ false) (m : Net) (v : View) (f : File P V C U S) (msg : Message) (q : Request) (version : Option ℕ) (failed : Bool) (p : IsPost geometry g m v msg q version failed) (on : is_post_on g q ≡ true) where
    abbrev its_file : File P V C U S
    its_file = after_deeds R.form n k (deeds_of_request R plans n k g m v f msg (ToBrick q) version failed ++ map (dressed R plans n k g) (its_acts geometry g m v msg q version failed)) f

    nothing : deeds_of_request R plans n k g m v f msg (ToBrick q) version failed ≡ []
    nothing =
        ap (λ (c : Bool). deeds_of_request R plans n k g m v f msg (ToBrick q) version c) p.fine
        ∙ (ap (λ (d : Bool). cond {A = List (Deed P V C U S)} d (cond (R.is_write g q) (deeds_done R plans n k g (v.of msg.no) msg.brick q (m.brick msg.brick) (out_of m msg q version false).brick) []) (cond (shows (out_of m msg q version false).says && R.is_read g q && is_at_base f.heads (v.of msg.no) msg.brick) (Read (v.of msg.no) msg.brick (R.reads g q) ∷ []) [])) (subst (λ (c : Bool). is_done (out_of m msg q version c).says ≡ true) p.fine p.done)
        ∙ ap (λ (w : Bool). cond {A = List (Deed P V C U S)} w (deeds_done R plans n k g (v.of msg.no) msg.brick q (m.brick msg.brick) (out_of m msg q version false).brick) []) (no_write q on))

    acts_are : (c : Bool) → is_marked p.old ≡ c → after_deeds R.form n k (map (dressed R plans n k g) (cond c (Sink_post (v.of msg.no) msg.brick) (Post (v.of msg.no) msg.brick) ∷ p.rest)) f ≡ its_file
    acts_are c e = sym (ap (λ (ds : List (Deed P V C U S)). after_deeds R.form n k (ds ++ map (dressed R plans n k g) (its_acts geometry g m v msg q version failed)) f) nothing ∙ ap (λ (es : List Act). after_deeds R.form n k (map (dressed R plans n k g) es) f) (p.acts ∙ ap (λ (c : Bool). cond c (Sink_post (v.of msg.no) msg.brick) (Post (v.of msg.no) msg.brick) ∷ p.rest) e))

    pub sunk_file : is_marked p.old ≡ true → Same f its_file
    sunk_file e = subst (λ (h : File P V C U S). Same f h) (acts_are true e) (sinks R plans n k g f (v.of msg.no) msg.brick p.rest p.easy)

    pub committed_file : is_marked p.old ≡ false → commits n k f.heads (v.of msg.no) msg.brick ≡ true → Commits f its_file (v.of msg.no)
    committed_file e c = subst (λ (h : File P V C U S). Commits f h (v.of msg.no)) (acts_are false e) ((posts R plans n k g f (v.of msg.no) msg.brick p.rest p.easy).0 c)

    pub posted_file : is_marked p.old ≡ false → commits n k f.heads (v.of msg.no) msg.brick ≡ false → Same f its_file
    posted_file e c = subst (λ (h : File P V C U S). Same f h) (acts_are false e) ((posts R plans n k g f (v.of msg.no) msg.brick p.rest p.easy).1 c)

  -- ## What is sent

  -- turn a has planned
  pub record Intends (f h : File P V C U S) (a : ℕ) : Type 0 where
    pub flat : FlatKept f h
    pub planned : h.planned ≡ put f.planned a true
    pub covers : h.covers ≡ (λ x p. cond (x == a) ((plans.plan a).covers p) (f.covers x p))
    pub sets : h.sets ≡ (λ x p i. cond (x == a) ((plans.plan a).sets p i) (f.sets x p i))

  module _ (m : Net) (v : View) (f : File P V C U S) (msg : Message) where
    abbrev pub sent_file : File P V C U S
    sent_file = file_after R plans n k g m v f (Sent msg)

    easy : Easy (acts g m v (Sent msg))
    easy = easy_sent g v.core (turn_of g v msg) msg.body

    abbrev pub SentAs : Bool → File P V C U S → Type 0
    SentAs true h = Intends f h (turn_of g v msg)
    SentAs false h = Same f h

    pub sent_as : SentAs (plans_on R g msg.body && not (f.planned (turn_of g v msg))) sent_file
    sent_as = body msg.body
      where
        by : (c : Bool) → SentAs c (after_deeds R.form n k (cond c (Intend (turn_of g v msg) (plans.plan (turn_of g v msg)) ∷ []) [] ++ map (dressed R plans n k g) (acts g m v (Sent msg))) f)
        by false = same_acts R plans n k g (acts g m v (Sent msg)) f easy
        by true =
            let s = same_acts R plans n k g (acts g m v (Sent msg)) (step R.form n k f (Intend (turn_of g v msg) (plans.plan (turn_of g v msg)))) easy in
            record { flat = record { version = s.flat.version; unit = s.flat.unit; opener = s.flat.opener }; planned = s.plans.planned; covers = s.plans.covers; sets = s.plans.sets }

        body : (z : Body) → SentAs (plans_on R g z && not (f.planned (turn_of g v msg))) (after_deeds R.form n k (deeds_sent R plans n k g f (turn_of g v msg) z ++ map (dressed R plans n k g) (acts g m v (Sent msg))) f)
        body (ToClient re reply) = by false
        body (ToBrick q) = by ((R.is_write g q || is_post_on g q) && not (f.planned (turn_of g v msg)))
