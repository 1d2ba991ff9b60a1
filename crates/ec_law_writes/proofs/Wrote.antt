-- As long as each change of a turn that has come to a brick was done there, the brick has written for the turn each place of these.
use Rattle.std.proofs.Common.{◌≡◌, ◌≢◌, ℕ, Bool, true, false, not, cond, ◌==◌, ◌&&◌, ◌||◌, Option, Some, None, List, [], ◌∷◌, map, refl, sym, ◌∙◌, ap, subst, arith}
use Rattle.std.proofs.lemmas.Bool.Decides.{nat_tests}
use Rattle.ec_store.specs.Put.{put}
use Rattle.ec_brick.specs.Replies.{Says, Is}
use Rattle.ec_wire.specs.declared.reply.Reply.TheVariants.{Done}
use Rattle.ec_brick.specs.State.{State as Brick}
use Rattle.ec_brick.specs.Step.{Out}
use Rattle.ec_history.specs.IsRun.{MayExecute, MayTear, is_fault}
use Rattle.ec_history.specs.Run.{Net, out_of, torn_out}
use Rattle.ec_history.specs.Story.{is_done}
use Rattle.ec_wire.specs.declared.entry.Entry.{Entry}
use Rattle.ec_wire.specs.declared.entry.Entry.TheVariants.{Executed}
use Rattle.ec_wire.specs.declared.message.Body.{Body}
use Rattle.ec_wire.specs.declared.message.Body.TheVariants.{ToBrick, ToClient}
use Rattle.ec_wire.specs.declared.message.Message.{Message}
use Rattle.ec_wire.specs.declared.request.Request.{Request}
use Rattle.ec_wire.specs.declared.request.Request.TheVariants.{WriteChunks, SetLength, NameSet, NamesPut}
use Rattle.ec_law_ballots.specs.Act.{Act}
use Rattle.ec_law_ballots.specs.Act.Act.{Grant, Free, Share, Unshare, Moment, See, Keep, Carry, Choose, Choose_kept, Pre, Sink_pre, Post, Sink_post, Clear, Heal_grant, Heal_free, Mark, Unmark, Maker_grant, Maker_free, Make, Made, Unmake, Stop, Replace}
use Rattle.ec_law_pieces.specs.Deed.{Deed, after as after_deeds, step}
use Rattle.ec_law_pieces.specs.Deed.Deed.{Intend, Read, Write, Tear, Spoil}
use Rattle.ec_law_pieces.specs.File.{File}
use Rattle.ec_law_net.specs.Turns.{View, acts}
use Rattle.ec_law_turns.proofs.Basics.{differ, equal, put_here, some_is}
use Rattle.ec_law_turns.proofs.Tracks.{request_is}
use Rattle.ec_law_data.specs.Deeds.{data_deeds, deeds_answered, deeds_done, deeds_failed, deeds_of_request, deeds_of_torn, deeds_partly, deeds_sent, dressed, file_after, is_at_base, is_granted, is_partial, is_post_on, pieces_of, shows}
use Rattle.ec_law_data.specs.Link.{IsWriter}
use Rattle.ec_law_data.specs.Reading.{Plans, Reading}
use Rattle.ec_law_data.proofs.Cores.{deeds_both}
use Rattle.ec_law_writes.specs.Guarding.{changes_on}
use Rattle.ec_law_writes.specs.Laws.{TakesWriters}
use Rattle.ec_law_writes.proofs.Answering.{body_done, done_after, said_done}

-- each change of turn a that has come to brick b was done
abbrev pub AllDone : ℕ → (ℕ → Option Message) → (ℕ → Bool) → (ℕ → ℕ) → (ℕ → Bool) → ℕ → ℕ → Type 0
AllDone g said flying of done a b = (i : ℕ) (x : Message) (q : Request) → said i ≡ Some x → x.body ≡ ToBrick q → changes_on g q ≡ true → of i ≡ a → x.brick ≡ b → flying i ≡ false → done i ≡ true

pub granted_change : (g : ℕ) (s : Brick) (q : Request) → IsWriter g q → is_granted s q ≡ true → changes_on g q ≡ true
granted_change g s (WriteChunks x n first chunks) w h = let e : x.0 ≡ g = w in grind (arith, nat_tests)
granted_change g s (SetLength x n keep count) w h = let e : x.0 ≡ g = w in grind (arith, nat_tests)
granted_change g s (NameSet x n name child) w h = let e : x.0 ≡ g = w in grind (arith, nat_tests)
granted_change g s (NamesPut x n start upto list) w h = absurd (cc)
granted_change g s q w h = absurd w

module _ {P V C U S : Type 0} (R : Reading P V C U S) (takes : TakesWriters R) (plans : Plans P V U S) (n k g : ℕ) where
  abbrev pub HasWrote : (ℕ → Option Message) → (ℕ → Bool) → (ℕ → ℕ) → (ℕ → Bool) → File P V C U S → Type 0
  HasWrote said flying of done f = (a b : ℕ) → AllDone g said flying of done a b → (i : ℕ) (x : Message) (q : Request) → said i ≡ Some x → x.body ≡ ToBrick q → changes_on g q ≡ true → of i ≡ a → x.brick ≡ b → done i ≡ true → (p : P) → R.is_write g q ≡ true → R.writes g q p ≡ true → f.wrote a b p ≡ true

  -- ## What acts and deeds make of what was written

  dressed_wrote : (e : Act) (f : File P V C U S) → (step R.form n k f (dressed R plans n k g e)).wrote ≡ f.wrote
  dressed_wrote (Grant a b) f = refl
  dressed_wrote (Free b) f = refl
  dressed_wrote (Share a b) f = refl
  dressed_wrote (Unshare a b) f = refl
  dressed_wrote (Moment a) f = refl
  dressed_wrote (See a b) f = refl
  dressed_wrote (Keep x a) f = refl
  dressed_wrote (Carry a x b) f = refl
  dressed_wrote (Choose a p) f = refl
  dressed_wrote (Choose_kept x a p) f = refl
  dressed_wrote (Pre a b) f = refl
  dressed_wrote (Sink_pre a b) f = refl
  dressed_wrote (Post a b) f = refl
  dressed_wrote (Sink_post a b) f = refl
  dressed_wrote (Clear a b) f = refl
  dressed_wrote (Heal_grant h b) f = refl
  dressed_wrote (Heal_free b) f = refl
  dressed_wrote (Mark a b) f = refl
  dressed_wrote (Unmark a b) f = refl
  dressed_wrote (Maker_grant b) f = refl
  dressed_wrote (Maker_free b) f = refl
  dressed_wrote (Make b) f = refl
  dressed_wrote (Made b) f = refl
  dressed_wrote (Unmake b) f = refl
  dressed_wrote (Stop b) f = refl
  dressed_wrote (Replace b) f = refl

  acts_wrote : (es : List Act) (f : File P V C U S) → (after_deeds R.form n k (map (dressed R plans n k g) es) f).wrote ≡ f.wrote
  acts_wrote [] f = refl
  acts_wrote (e ∷ es) f = acts_wrote es (step R.form n k f (dressed R plans n k g e)) ∙ dressed_wrote e f

  -- so it is what the entry does to data
  pub data_wrote : (m : Net) (v : View) (f : File P V C U S) (e : Entry) → (file_after R plans n k g m v f e).wrote ≡ (after_deeds R.form n k (data_deeds R plans n k g m v f e) f).wrote
  data_wrote m v f e =
      ap (λ (z : File P V C U S). z.wrote) (deeds_both R.form n k (data_deeds R plans n k g m v f e) (map (dressed R plans n k g) (acts g m v e)) f)
      ∙ acts_wrote (acts g m v e) (after_deeds R.form n k (data_deeds R plans n k g m v f e) f)

  -- these leave what brick b has written for turn a
  abbrev Leaves : ℕ → ℕ → File P V C U S → List (Deed P V C U S) → Type 0
  Leaves a b f ds = (p : P) → (after_deeds R.form n k ds f).wrote a b p ≡ f.wrote a b p

  if_leaves : (a b : ℕ) (f : File P V C U S) (t : Bool) (xs ys : List (Deed P V C U S)) → (t ≡ true → Leaves a b f xs) → Leaves a b f ys → Leaves a b f (cond t xs ys)
  if_leaves a b f true xs ys h i = h refl
  if_leaves a b f false xs ys h i = i

  either_leaves : (a b : ℕ) (f : File P V C U S) (t : Bool) (x y : Deed P V C U S) → (t ≡ true → Leaves a b f (x ∷ [])) → Leaves a b f (y ∷ []) → Leaves a b f (cond t x y ∷ [])
  either_leaves a b f true x y h i = h refl
  either_leaves a b f false x y h i = i

  apart : (t u w : Bool) (x y : Bool) → (t && u) ≡ false → cond (t && u && w) x y ≡ y
  apart true true w x y e = absurd (cc)
  apart true false w x y e = refl
  apart false u w x y e = refl

  pub sent_leaves : (a b : ℕ) (f : File P V C U S) (t : ℕ) (z : Body) → Leaves a b f (deeds_sent R plans n k g f t z)
  sent_leaves a b f t (ToClient re reply) = λ p. refl
  sent_leaves a b f t (ToBrick q) = if_leaves a b f ((R.is_write g q || is_post_on g q) && not (f.planned t)) (Intend t (plans.plan t) ∷ []) [] (λ e p. refl) (λ p. refl)

  module _ (a b : ℕ) (f : File P V C U S) (a0 b0 : ℕ) (q : Request) (old : Brick) (else : R.is_write g q ≡ true → is_granted old q ≡ true → ((a == a0) && (b == b0)) ≡ false) where
    pub failed_leaves : (version : Option ℕ) (now : Brick) → Leaves a b f (deeds_failed R plans n k g a0 b0 q version old now)
    failed_leaves None now = λ p. refl
    failed_leaves (Some version) now = if_leaves a b f (R.is_write g q && is_partial q) (deeds_partly R plans n k g a0 b0 q old now) [] (λ e. either_leaves a b f (is_granted old q) (Tear a0 b0 (R.writes g q) (pieces_of R plans n k g (now.records g))) (Spoil b0 (R.writes g q) (pieces_of R plans n k g (now.records g))) (λ granted p. apart (a == a0) (b == b0) (R.writes g q p) false (f.wrote a b p) (else (first (R.is_write g q) (is_partial q) e) granted)) (λ p. refl)) (λ p. refl)
      where
        first : (t u : Bool) → (t && u) ≡ true → t ≡ true
        first true u e = refl
        first false u e = absurd (cc)

    pub answered_leaves : (f' : File P V C U S) (out : Out) → Leaves a b f (deeds_answered R plans n k g f' a0 b0 q old out)
    answered_leaves f' out = by (is_done out.says)
      where
        by : (t : Bool) → Leaves a b f (cond t (cond (R.is_write g q) (deeds_done R plans n k g a0 b0 q old out.brick) []) (cond (shows out.says && R.is_read g q && is_at_base f'.heads a0 b0) (Read a0 b0 (R.reads g q) ∷ []) []))
        by true = if_leaves a b f (R.is_write g q) (deeds_done R plans n k g a0 b0 q old out.brick) [] (λ e. either_leaves a b f (is_granted old q) (Write a0 b0 (R.writes g q)) (Spoil b0 (R.writes g q) (pieces_of R plans n k g (out.brick.records g))) (λ granted p. apart (a == a0) (b == b0) (R.writes g q p) true (f.wrote a b p) (else e granted)) (λ p. refl)) (λ p. refl)
        by false = if_leaves a b f (shows out.says && R.is_read g q && is_at_base f'.heads a0 b0) (Read a0 b0 (R.reads g q) ∷ []) [] (λ e p. refl) (λ p. refl)

  -- ## Entries that do nothing to data

  pub wrote_stays : (said said' : ℕ → Option Message) (flying flying' : ℕ → Bool) (of of' : ℕ → ℕ) (done done' : ℕ → Bool) (f f' : File P V C U S)
      → ((a b : ℕ) (p : P) → f'.wrote a b p ≡ f.wrote a b p)
      → ((i : ℕ) (x : Message) → said i ≡ Some x → (said' i ≡ Some x) × (of' i ≡ of i) × (flying i ≡ false → flying' i ≡ false))
      → ((i : ℕ) (x : Message) → said' i ≡ Some x → done i ≡ true → said i ≡ Some x)
      → ((i : ℕ) → done' i ≡ done i)
      → HasWrote said flying of done f → HasWrote said' flying' of' done' f'
  wrote_stays said said' flying flying' of of' done done' f f' same still old dones h a b all i x q is body on turn brick did p write writes =
      let d = sym (dones i) ∙ did in
      let o = old i x is d in
      same a b p ∙ h a b (λ j y r e asks change mine there lands. let s = still j y e in sym (dones j) ∙ all j y r s.0 asks change (s.1 ∙ mine) there (s.2 lands)) i x q o body on (sym (still i x o).1 ∙ turn) brick d p write writes

  -- ## A request is executed

  module _ (m : Net) (v : View) (f : File P V C U S) (done : ℕ → Bool) (numbers : (i : ℕ) (x : Message) → m.said i ≡ Some x → x.no ≡ i) (landed : (i : ℕ) → done i ≡ true → m.flying i ≡ false) (h : HasWrote m.said m.flying v.of done f) where
    -- what is in flight was not done
    undone : (i : ℕ) → m.flying i ≡ true → done i ≡ true → ⊥
    undone i flies e = let z = sym flies ∙ landed i e in cc

    module _ (i : ℕ) (version : Option ℕ) (failed : Bool) (may : MayExecute m i version failed) (granted : changes_on g may.request ≡ true → is_done (out_of m may.message may.request version failed).says ≡ true → is_granted (m.brick may.message.brick) may.request ≡ true) where
      abbrev msg : Message
      msg = may.message

      abbrev q : Request
      q = may.request

      abbrev out : Out
      out = out_of m may.message may.request version failed

      abbrev ds : List (Deed P V C U S)
      ds = deeds_of_request R plans n k g m v f may.message (ToBrick may.request) version failed

      no : may.message.no ≡ i
      no = numbers i may.message may.at.said

      done_is : (j : ℕ) → done_after m (Executed i version failed) done j ≡ (done j || ((j == i) && is_done (out_of m may.message may.request version failed).says))
      done_is j = at (m.said i) may.at.said
        where
          at : (o : Option Message) → o ≡ Some may.message → (done j || ((j == i) && said_done m o version failed)) ≡ (done j || ((j == i) && is_done (out_of m may.message may.request version failed).says))
          at o e = subst (λ (z : Option Message). (done j || ((j == i) && said_done m z version failed)) ≡ (done j || ((j == i) && is_done (out_of m may.message may.request version failed).says))) (sym e) (ap (λ (z : Body). done j || ((j == i) && body_done m may.message z version failed)) may.at.body)

      lands : (j : ℕ) → m.flying j ≡ false → put m.flying may.message.no false j ≡ false
      lands j e = at (j == may.message.no)
        where
          at : (t : Bool) → cond t false (m.flying j) ≡ false
          at true = refl
          at false = e

      -- of another message
      other : (j : ℕ) → j ≢ i → done_after m (Executed i version failed) done j ≡ true → done j ≡ true
      other j ne d = at (j == i) (done j) refl (sym (done_is j) ∙ d)
        where
          at : (t u : Bool) → (j == i) ≡ t → (u || (t && is_done (out_of m may.message may.request version failed).says)) ≡ true → u ≡ true
          at true u e z = absurd (ne (equal j i e))
          at false true e z = refl
          at false false e z = absurd (cc)

      itself_done : done_after m (Executed i version failed) done i ≡ true → is_done (out_of m may.message may.request version failed).says ≡ true
      itself_done d = at (done i) (i == i) refl (sym (done_is i) ∙ d)
        where
          at : (u t : Bool) → done i ≡ u → (u || (t && is_done (out_of m may.message may.request version failed).says)) ≡ true → is_done (out_of m may.message may.request version failed).says ≡ true
          at true t e z = absurd (undone i may.at.flying e)
          at false true e z = z
          at false false e z = absurd (cc)

      no_fault : (says : Says) → is_done says ≡ true → is_fault says ≡ false
      no_fault (Is Done) e = refl
      no_fault says e = absurd (cc)

      module _ (a b : ℕ) (all : AllDone g m.said (put m.flying may.message.no false) v.of (done_after m (Executed i version failed) done) a b) where
        before : AllDone g m.said m.flying v.of done a b
        before j y r e asks change mine there falls = other j (λ (z : j ≡ i). let w = sym may.at.flying ∙ (ap m.flying (sym z) ∙ falls) in cc) (all j y r e asks change mine there (lands j falls))

        -- it is another's, or changes nothing
        leaves : ((a == v.of may.message.no) && (b == may.message.brick) && changes_on g may.request) ≡ false → Leaves a b f (deeds_of_request R plans n k g m v f may.message (ToBrick may.request) version failed)
        leaves none = by failed
          where
            else : R.is_write g may.request ≡ true → is_granted (m.brick may.message.brick) may.request ≡ true → ((a == v.of may.message.no) && (b == may.message.brick)) ≡ false
            else write held = shut (a == v.of may.message.no) (b == may.message.brick) (changes_on g may.request) (granted_change g (m.brick may.message.brick) may.request (takes g may.request write) held) none
              where
                shut : (t u w : Bool) → w ≡ true → (t && u && w) ≡ false → (t && u) ≡ false
                shut true true true e z = z
                shut true true false e z = absurd (cc)
                shut true false w e z = refl
                shut false u w e z = refl

            by : (t : Bool) → Leaves a b f (deeds_of_request R plans n k g m v f may.message (ToBrick may.request) version t)
            by true = failed_leaves a b f (v.of may.message.no) may.message.brick may.request (m.brick may.message.brick) else version (out_of m may.message may.request version true).brick
            by false = answered_leaves a b f (v.of may.message.no) may.message.brick may.request (m.brick may.message.brick) else f (out_of m may.message may.request version false)

        -- what was written stays so where the request is done
        keeps : failed ≡ false → (p : P) → f.wrote a b p ≡ true → (after_deeds R.form n k (deeds_of_request R plans n k g m v f may.message (ToBrick may.request) version failed) f).wrote a b p ≡ true
        keeps fine p w = subst (λ (t : Bool). (after_deeds R.form n k (deeds_of_request R plans n k g m v f may.message (ToBrick may.request) version t) f).wrote a b p ≡ true) (sym fine) (by (is_done (out_of m may.message may.request version false).says) (R.is_write g may.request) (is_granted (m.brick may.message.brick) may.request))
          where
            by : (t u w' : Bool) → (after_deeds R.form n k (cond t (cond u (cond w' (Write (v.of may.message.no) may.message.brick (R.writes g may.request)) (Spoil may.message.brick (R.writes g may.request) (pieces_of R plans n k g ((out_of m may.message may.request version false).brick.records g))) ∷ []) []) (cond (shows (out_of m may.message may.request version false).says && R.is_read g may.request && is_at_base f.heads (v.of may.message.no) may.message.brick) (Read (v.of may.message.no) may.message.brick (R.reads g may.request) ∷ []) [])) f).wrote a b p ≡ true
            by true true true = put_true ((a == v.of may.message.no) && (b == may.message.brick) && R.writes g may.request p)
              where
                put_true : (t : Bool) → cond t true (f.wrote a b p) ≡ true
                put_true true = refl
                put_true false = w
            by true true false = w
            by true false w' = w
            by false u w' = reads (shows (out_of m may.message may.request version false).says && R.is_read g may.request && is_at_base f.heads (v.of may.message.no) may.message.brick)
              where
                reads : (t : Bool) → (after_deeds R.form n k (cond t (Read (v.of may.message.no) may.message.brick (R.reads g may.request) ∷ []) []) f).wrote a b p ≡ true
                reads true = w
                reads false = w

        -- and the request writes its places
        writes_it : failed ≡ false → is_done (out_of m may.message may.request version failed).says ≡ true → is_granted (m.brick may.message.brick) may.request ≡ true → a ≡ v.of may.message.no → b ≡ may.message.brick → (p : P) → R.is_write g may.request ≡ true → R.writes g may.request p ≡ true → (after_deeds R.form n k (deeds_of_request R plans n k g m v f may.message (ToBrick may.request) version failed) f).wrote a b p ≡ true
        writes_it fine did held turn there p write places = subst (λ (t : Bool). (after_deeds R.form n k (deeds_of_request R plans n k g m v f may.message (ToBrick may.request) version t) f).wrote a b p ≡ true) (sym fine) (by (is_done (out_of m may.message may.request version false).says) (R.is_write g may.request) (is_granted (m.brick may.message.brick) may.request) (ap (λ (t : Bool). is_done (out_of m may.message may.request version t).says) (sym fine) ∙ did) write held)
          where
            by : (t u w' : Bool) → t ≡ true → u ≡ true → w' ≡ true → (after_deeds R.form n k (cond t (cond u (cond w' (Write (v.of may.message.no) may.message.brick (R.writes g may.request)) (Spoil may.message.brick (R.writes g may.request) (pieces_of R plans n k g ((out_of m may.message may.request version false).brick.records g))) ∷ []) []) (cond (shows (out_of m may.message may.request version false).says && R.is_read g may.request && is_at_base f.heads (v.of may.message.no) may.message.brick) (Read (v.of may.message.no) may.message.brick (R.reads g may.request) ∷ []) [])) f).wrote a b p ≡ true
            by true true true d e h = sets (a == v.of may.message.no) (b == may.message.brick) (R.writes g may.request p) (same a (v.of may.message.no) turn) (same b may.message.brick there) places
              where
                same : (x y : ℕ) → x ≡ y → (x == y) ≡ true
                same x y e = grind (arith, nat_tests)

                sets : (t u w : Bool) → t ≡ true → u ≡ true → w ≡ true → cond (t && u && w) true (f.wrote a b p) ≡ true
                sets true true true x y z = refl
                sets true true false x y z = absurd (cc)
                sets true false w x y z = absurd (cc)
                sets false u w x y z = absurd (cc)
            by true true false d e h = absurd (cc)
            by true false w' d e h = absurd (cc)
            by false u w' d e h = absurd (cc)

      pub executed_wrote : HasWrote m.said (put m.flying may.message.no false) v.of (done_after m (Executed i version failed) done) (after_deeds R.form n k (deeds_of_request R plans n k g m v f may.message (ToBrick may.request) version failed) f)
      executed_wrote a b all j x r is body on turn brick did p write writes = by ((a == v.of may.message.no) && (b == may.message.brick) && changes_on g may.request) refl (j == i) refl
        where
          of_no : v.of may.message.no ≡ v.of i
          of_no = ap v.of no

          three : (t u w : Bool) → (t && u && w) ≡ true → (t ≡ true) × (u ≡ true) × (w ≡ true)
          three true true true e = (refl, refl, refl)
          three true true false e = absurd (cc)
          three true false w e = absurd (cc)
          three false u w e = absurd (cc)

          all_true : (t u w : Bool) → t ≡ true → u ≡ true → w ≡ true → (t && u && w) ≡ true
          all_true true true true x y z = refl
          all_true true true false x y z = absurd (cc)
          all_true true false w x y z = absurd (cc)
          all_true false u w x y z = absurd (cc)

          same : (x y : ℕ) → x ≡ y → (x == y) ≡ true
          same x y e = grind (arith, nat_tests)

          message : j ≡ i → may.message ≡ x
          message e = some_is may.message x (sym may.at.said ∙ (ap m.said (sym e) ∙ is))

          request : j ≡ i → may.request ≡ r
          request e = request_is may.request r (sym may.at.body ∙ (ap (λ (y : Message). y.body) (message e) ∙ body))

          earlier : j ≢ i → f.wrote a b p ≡ true
          earlier ne = h a b (before a b all) j x r is body on turn brick (other j ne did) p write writes

          by : (t : Bool) → ((a == v.of may.message.no) && (b == may.message.brick) && changes_on g may.request) ≡ t → (u : Bool) → (j == i) ≡ u → (after_deeds R.form n k (deeds_of_request R plans n k g m v f may.message (ToBrick may.request) version failed) f).wrote a b p ≡ true
          by false e true z = absurd (let same_j = equal j i z in let w = all_true (a == v.of may.message.no) (b == may.message.brick) (changes_on g may.request) (same a (v.of may.message.no) (sym turn ∙ (ap v.of same_j ∙ sym of_no))) (same b may.message.brick (sym brick ∙ ap (λ (y : Message). y.brick) (sym (message same_j)))) (ap (changes_on g) (request same_j) ∙ on) in let y = sym w ∙ e in cc)
          by false e false z = leaves a b all e p ∙ earlier (differ j i z)
          by true e u z = mine u z
            where
              parts : ((a == v.of may.message.no) ≡ true) × ((b == may.message.brick) ≡ true) × (changes_on g may.request ≡ true)
              parts = three (a == v.of may.message.no) (b == may.message.brick) (changes_on g may.request) e

              at_turn : a ≡ v.of may.message.no
              at_turn = equal a (v.of may.message.no) parts.0

              at_brick : b ≡ may.message.brick
              at_brick = equal b may.message.brick parts.1

              ran : is_done (out_of m may.message may.request version failed).says ≡ true
              ran = itself_done (all i may.message may.request may.at.said may.at.body parts.2 (sym of_no ∙ sym at_turn) (sym at_brick) (put_here m.flying may.message.no false i no))

              fine : failed ≡ false
              fine = may.fault ∙ no_fault (out_of m may.message may.request version failed).says ran

              mine : (u : Bool) → (j == i) ≡ u → (after_deeds R.form n k (deeds_of_request R plans n k g m v f may.message (ToBrick may.request) version failed) f).wrote a b p ≡ true
              mine false z = keeps a b all fine p (earlier (differ j i z))
              mine true z = let same_j = equal j i z in writes_it a b all fine ran (granted parts.2 ran) at_turn at_brick p (ap (R.is_write g) (request same_j) ∙ write) (ap (λ (y : Request). R.writes g y p) (request same_j) ∙ writes)

    -- ## One is torn

    module _ (i count : ℕ) (version : Option ℕ) (may : MayTear m i count version) where
      torn_no : may.message.no ≡ i
      torn_no = numbers i may.message may.at.said

      torn_lands : (j : ℕ) → m.flying j ≡ false → put m.flying may.message.no false j ≡ false
      torn_lands j e = at (j == may.message.no)
        where
          at : (t : Bool) → cond t false (m.flying j) ≡ false
          at true = refl
          at false = e

      pub torn_wrote : HasWrote m.said (put m.flying may.message.no false) v.of done (after_deeds R.form n k (deeds_of_torn R plans n k g m v may.message (ToBrick may.request) count version) f)
      torn_wrote a b all j x r is body on turn brick did p write writes =
          failed_leaves a b f (v.of may.message.no) may.message.brick may.request (m.brick may.message.brick) else version (torn_out m may.message may.request count version).brick p
          ∙ h a b (λ l y s e asks change mine there falls. all l y s e asks change mine there (torn_lands l falls)) j x r is body on turn brick did p write writes
        where
          else : R.is_write g may.request ≡ true → is_granted (m.brick may.message.brick) may.request ≡ true → ((a == v.of may.message.no) && (b == may.message.brick)) ≡ false
          else write held = at (a == v.of may.message.no) (b == may.message.brick) refl refl
            where
              at : (t u : Bool) → (a == v.of may.message.no) ≡ t → (b == may.message.brick) ≡ u → (t && u) ≡ false
              at true true e z = absurd (undone i may.at.flying (all i may.message may.request may.at.said may.at.body (granted_change g (m.brick may.message.brick) may.request (takes g may.request write) held) (ap v.of (sym torn_no) ∙ sym (equal a (v.of may.message.no) e)) (sym (equal b may.message.brick z)) (put_here m.flying may.message.no false i torn_no)))
              at true false e z = refl
              at false u e z = refl
