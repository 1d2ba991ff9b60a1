-- The laws of versions and commits: of no data nothing is owed.
use Rattle.ec_brick.specs.State.{State as Brick}
use Rattle.ec_history.specs.Starts.{IsStart}
use Rattle.ec_history.specs.Flat.{Tree}
use Rattle.ec_store.specs.Records.{Records}
use Rattle.ec_attr.specs.declared.config.Config.{Config}
use Rattle.ec_law_turns.proofs.Basics.{some_none}
use Rattle.ec_law_data.proofs.Reaching.{reaches_start}
use Rattle.ec_history.specs.Accounts.{no_books}
use Rattle.ec_law_turns.proofs.Origins.{unversioned}
use Rattle.ec_law_data.proofs.StoryRuns.{versions_agree}
use Rattle.ec_law_turns.specs.Laws.{Always}
use Rattle.ec_law_turns.specs.Orderly.{ArePlain, IsOrderly}
use Rattle.ec_history.specs.IsRun.{IsRun}
use Rattle.std.proofs.Common.{◌≡◌, ℕ, ◌<◌, Bool, true, false, not, cond, ◌&&◌, Option, Some, None, List, [], ◌∷◌, ◌++◌, map, refl, arith, inr, ◌+◌, ◌∙◌, sym}
use Rattle.ec_conduct.specs.Given.{quorum}
use Rattle.ec_history.specs.Run.{Net, after as net_after, fresh, out_of, run}
use Rattle.ec_history.specs.Story.{is_done, opening, story}
use Rattle.ec_wire.specs.declared.entry.Entry.{Entry}
use Rattle.ec_wire.specs.declared.entry.Entry.TheVariants.{Called, Sent, Executed, Heard, Lost, GivenUp, Stopped, Returned, Cut, Died, Yielded, Torn, Answered, Replaced}
use Rattle.ec_wire.specs.declared.message.Body.{Body}
use Rattle.ec_wire.specs.declared.message.Body.TheVariants.{ToBrick, ToClient}
use Rattle.ec_wire.specs.declared.message.Message.{Message}
use Rattle.ec_law_ballots.specs.Act.{Act}
use Rattle.ec_law_ballots.specs.Act.Act.{Grant, Free, Share, Unshare, Moment, See, Keep, Carry, Choose, Choose_kept, Pre, Sink_pre, Post, Sink_post, Clear, Heal_grant, Heal_free, Mark, Unmark, Maker_grant, Maker_free, Make, Made, Unmake, Stop, Replace}
use Rattle.ec_law_pieces.specs.Deed.{Deed, step}
use Rattle.ec_law_pieces.specs.Deed.Deed.{Do, Look, Take, Take_kept, Read, Intend, Write, Tear, Copy, Spoil, Commit, Follow, Begin, Finish, Create}
use Rattle.ec_law_pieces.specs.File.{File}
use Rattle.ec_law_pieces.specs.Laws.{Alike, InOrder, StandAgain, Stands}
use Rattle.ec_law_net.specs.Start.{first_heads, is_new}
use Rattle.ec_law_net.specs.Turns.{View, acts, seen_after, turn_of, view}
use Rattle.ec_law_net.proofs.Starting.{starts_linked}
use Rattle.ec_law_data.specs.Deeds.{all_deeds, data_deeds, deeds, deeds_executed, deeds_of_request, deeds_of_torn, deeds_sent, deeds_torn, dressed, file, file_after, is_post_on, shows}
use Rattle.ec_law_data.specs.Laws.{AfterEveryOrderlyLog, AfterEveryOwedLog, CommitLaws, bare, begun, versions_begun, FlatLaws}
use Rattle.ec_law_data.specs.Link.{Fits}
use Rattle.ec_law_data.specs.Owing.{AllOwe, Owes}
use Rattle.ec_law_data.specs.Versions.{no_plans, of_versions, PostsInOneTurn}
use Rattle.ec_law_data.proofs.OrderlyDeeds.{linked_end, owed_laws}
use Rattle.ec_law_data.proofs.Cores.{log_heads}
use Rattle.ec_law_data.proofs.Holding.{agree}

pub versions_fit : Fits of_versions
versions_fit = record {
  writers = λ g q e. absurd (cc);
  headed = λ r h p. refl;
  made = λ h p b. refl;
  bytes = λ x n first chunks r p w. absurd p;
  unset = λ x n first count chunks r p le e. refl;
  cut = λ x n keep count r p. absurd p;
  name = λ x n name child r p. absurd p;
  names = λ x n start upto list r p e. refl;
}

abbrev Bare : Type 0
Bare = Deed ⊥ (Unit {0}) (Unit {0}) (Unit {0}) (Unit {0})

-- a deed that writes no data
abbrev is_bare : Bare → Bool
is_bare (Write a b places) = false
is_bare (Tear a b places pieces) = false
is_bare (Copy a b places pieces) = false
is_bare (Spoil b places pieces) = false
is_bare d = true

abbrev Bares : List Bare → Type 0
Bares [] = Unit {0}
Bares (d ∷ ds) = (is_bare d ≡ true) × Bares ds

same_unit : (x y : Unit {0}) → x ≡ y
same_unit x y = refl

module _ (n k : ℕ) where
  owes_nothing : (d : Bare) (f : File ⊥ (Unit {0}) (Unit {0}) (Unit {0}) (Unit {0})) → is_bare d ≡ true → Owes of_versions.form n k f d
  owes_nothing (Do e) f h = tt
  owes_nothing (Look a b) f h = tt
  owes_nothing (Take a p shape) f h = λ b e. same_unit (f.told a b) shape
  owes_nothing (Take_kept x a p) f h = tt
  owes_nothing (Read a b places) f h = tt
  owes_nothing (Intend a plan) f h = record { sets = λ p i u c e. absurd p; keeps = λ p i c e. absurd p; zero = λ p c e. absurd p; grows = λ p c e. absurd p }
  owes_nothing (Write a b places) f h = absurd (cc)
  owes_nothing (Tear a b places pieces) f h = absurd (cc)
  owes_nothing (Copy a b places pieces) f h = absurd (cc)
  owes_nothing (Spoil b places pieces) f h = absurd (cc)
  owes_nothing (Commit a b) f h = λ p e. absurd p
  owes_nothing (Follow a b) f h = λ p e. absurd p
  owes_nothing (Begin a b) f h = tt
  owes_nothing (Finish a b) f h = tt
  owes_nothing (Create b shape) f h = inr (same_unit shape (f.shape_of 0))

  all_owe_nothing : (ds : List Bare) (f : File ⊥ (Unit {0}) (Unit {0}) (Unit {0}) (Unit {0})) → Bares ds → AllOwe of_versions.form n k ds f
  all_owe_nothing [] f h = tt
  all_owe_nothing (d ∷ ds) f h = (owes_nothing d f h.0, all_owe_nothing ds (step of_versions.form n k f d) h.1)

bares_both : (xs ys : List Bare) → Bares xs → Bares ys → Bares (xs ++ ys)
bares_both [] ys h i = i
bares_both (x ∷ xs) ys h i = (h.0, bares_both xs ys h.1 i)

bares_if : (t : Bool) (xs ys : List Bare) → Bares xs → Bares ys → Bares (cond t xs ys)
bares_if true xs ys h i = h
bares_if false xs ys h i = i

module _ (n k g : ℕ) where
  bare_act : (e : Act) → is_bare (dressed of_versions no_plans n k g e) ≡ true
  bare_act (Grant a b) = refl
  bare_act (Free b) = refl
  bare_act (Share a b) = refl
  bare_act (Unshare a b) = refl
  bare_act (Moment a) = refl
  bare_act (See a b) = refl
  bare_act (Keep x a) = refl
  bare_act (Carry a x b) = refl
  bare_act (Choose a p) = refl
  bare_act (Choose_kept x a p) = refl
  bare_act (Pre a b) = refl
  bare_act (Sink_pre a b) = refl
  bare_act (Post a b) = refl
  bare_act (Sink_post a b) = refl
  bare_act (Clear a b) = refl
  bare_act (Heal_grant h b) = refl
  bare_act (Heal_free b) = refl
  bare_act (Mark a b) = refl
  bare_act (Unmark a b) = refl
  bare_act (Maker_grant b) = refl
  bare_act (Maker_free b) = refl
  bare_act (Make b) = refl
  bare_act (Made b) = refl
  bare_act (Unmake b) = refl
  bare_act (Stop b) = refl
  bare_act (Replace b) = refl

  bare_acts : (es : List Act) → Bares (map (dressed of_versions no_plans n k g) es)
  bare_acts [] = tt
  bare_acts (e ∷ es) = (bare_act e, bare_acts es)

  module _ (m : Net) (v : View) (f : File ⊥ (Unit {0}) (Unit {0}) (Unit {0}) (Unit {0})) where
    bare_sent : (a : ℕ) (z : Body) → Bares (deeds_sent of_versions no_plans n k g f a z)
    bare_sent a (ToBrick q) = bares_if (is_post_on g q && not (f.planned a)) _ [] (refl, tt) tt
    bare_sent a (ToClient re reply) = tt

    bare_executed : (o : Option Message) (version : Option ℕ) (failed : Bool) → Bares (deeds_executed of_versions no_plans n k g m v f o version failed)
    bare_executed None version failed = tt
    bare_executed (Some msg) version failed = body msg.body version failed
      where
        body : (z : Body) (version : Option ℕ) (failed : Bool) → Bares (deeds_of_request of_versions no_plans n k g m v f msg z version failed)
        body (ToClient re reply) version failed = tt
        body (ToBrick q) None true = tt
        body (ToBrick q) (Some x) true = tt
        body (ToBrick q) version false = bares_if (is_done (out_of m msg q version false).says) [] _ tt (bares_if (shows (out_of m msg q version false).says && false && _) _ [] (refl, tt) tt)

    bare_torn : (o : Option Message) (count : ℕ) (version : Option ℕ) → Bares (deeds_torn of_versions no_plans n k g m v o count version)
    bare_torn None count version = tt
    bare_torn (Some msg) count version = body msg.body version
      where
        body : (z : Body) (version : Option ℕ) → Bares (deeds_of_torn of_versions no_plans n k g m v msg z count version)
        body (ToClient re reply) version = tt
        body (ToBrick q) None = tt
        body (ToBrick q) (Some x) = tt

    bare_data : (e : Entry) → Bares (data_deeds of_versions no_plans n k g m v f e)
    bare_data (Sent msg) = bare_sent (turn_of g v msg) msg.body
    bare_data (Executed i version failed) = bare_executed (m.said i) version failed
    bare_data (Torn i count version) = bare_torn (m.said i) count version
    bare_data (Called a client op) = tt
    bare_data (Heard i) = tt
    bare_data (Lost i) = tt
    bare_data (GivenUp client brick i) = tt
    bare_data (Stopped b) = tt
    bare_data (Returned b) = tt
    bare_data (Cut client b) = tt
    bare_data (Died client) = tt
    bare_data (Yielded client) = tt
    bare_data (Answered a answer) = tt
    bare_data (Replaced b removed all) = tt

  bare_log : (es : List Entry) (m : Net) (v : View) (f : File ⊥ (Unit {0}) (Unit {0}) (Unit {0}) (Unit {0})) → Bares (all_deeds of_versions no_plans n k g es m v f)
  bare_log [] m v f = tt
  bare_log (e ∷ es) m v f = bares_both (deeds of_versions no_plans n k g m v f e) _ (bares_both (data_deeds of_versions no_plans n k g m v f e) _ (bare_data m v f e) (bare_acts (acts g m v e))) (bare_log es (net_after m e) (seen_after g m v e) (file_after of_versions no_plans n k g m v f e))

pub by_log : (law : ℕ → ℕ → File ⊥ (Unit {0}) (Unit {0}) (Unit {0}) (Unit {0}) → Type 0) → AfterEveryOwedLog of_versions law → AfterEveryOrderlyLog law
by_log law holds config records bricks tree next g es start runs plain orderly =
    holds no_plans config records bricks tree next g es start runs plain orderly (bare (tree g).version) (λ b. tt) (λ b p. tt) stands refl
    (all_owe_nothing config.geometry.n (quorum config.geometry) (all_deeds of_versions no_plans config.geometry.n (quorum config.geometry) g es (fresh bricks) _ (versions_begun config records tree g)) (versions_begun config records tree g) (bare_log config.geometry.n (quorum config.geometry) g es (fresh bricks) _ (versions_begun config records tree g)))
  where
    positive : 0 < quorum config.geometry
    positive = let h = config.geometry.least in omega (arith, h)

    stands : Stands of_versions.form config.geometry.n (quorum config.geometry) (bare (tree g).version) (first_heads config.geometry.n records g) (is_new config.geometry.n records g) (λ b. tt) (λ b p. tt)
    stands = record {
      standing = (starts_linked config records bricks tree next g (λ a. a) positive start).standing;
      shapes = λ b e. refl;
      value = λ p. tt;
      closed = λ p e. absurd p;
      past = λ p e h. absurd p;
      blank = λ e p. absurd p;
      unopened = λ p c e. absurd p;
    }

pub commit_laws : CommitLaws
commit_laws = record {
  alike = by_log (Alike of_versions.form) (owed_laws of_versions versions_fit).alike;
  in_order = by_log (InOrder of_versions.form) (owed_laws of_versions versions_fit).in_order;
  agree = λ config records bricks tree next g es start runs plain orderly. agree of_versions config.geometry.n (quorum config.geometry) g (run es (fresh bricks)) (view g es (fresh bricks) (begun config records tree next g)) (linked_end config records bricks tree next g es start runs plain orderly)
      (file of_versions no_plans config.geometry.n (quorum config.geometry) g es (fresh bricks) (begun config records tree next g) (versions_begun config records tree g))
      (log_heads of_versions no_plans config.geometry.n (quorum config.geometry) g es (fresh bricks) (begun config records tree next g) (versions_begun config records tree g) refl)
      (by_log (Alike of_versions.form) (owed_laws of_versions versions_fit).alike config records bricks tree next g es start runs plain orderly);
  stand = by_log (StandAgain of_versions.form) (owed_laws of_versions versions_fit).stand;
}

same_version : (config : Config) (records : ℕ → Records) (bricks : ℕ → Brick) (tree : Tree) (next g : ℕ) (es : List Entry) → IsStart config records bricks tree next → IsRun config.geometry.n es (fresh bricks) → ArePlain es → IsOrderly config.geometry es (fresh bricks) (opening tree next) → Always (PostsInOneTurn g) g es (fresh bricks) (begun config records tree next g) → (file of_versions no_plans config.geometry.n (quorum config.geometry) g es (fresh bricks) (begun config records tree next g) (versions_begun config records tree g)).flat.version ≡ ((story config.geometry es (fresh bricks) (opening tree next)).tree g).version
same_version config records bricks tree next g es start runs plain orderly one =
    versions_agree config.geometry orderly.left orderly.none_kept next (λ h. (tree h).version) (λ h le. unversioned config records bricks tree next h start le) g es (fresh bricks) (λ h. begun config records tree next h) (opening tree next) no_books (versions_begun config records tree g) runs plain (λ a given h. (orderly.conduct a given h, orderly.order a given h)) (reaches_start config records bricks tree next (λ a. a) most start) refl
    (record { same = record { posted = λ i x q e body on b. absurd (some_none x (sym e)); from = λ a b e. absurd (cc) }; version_is = refl }) one
  where
    most : config.geometry.n < quorum config.geometry + quorum config.geometry
    most = let h = config.geometry.majority in omega (arith, h)

pub flat_laws : FlatLaws
flat_laws = record {
  same_version = same_version;
  agree = λ config records bricks tree next g es start runs plain orderly one version unmarked enough. commit_laws.agree config records bricks tree next g es start runs plain orderly version unmarked enough ∙ same_version config records bricks tree next g es start runs plain orderly one;
}
