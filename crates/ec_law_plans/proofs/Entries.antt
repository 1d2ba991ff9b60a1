-- What an entry of a directory's log owes, and that its data requests put what was planned.
use Rattle.std.proofs.Common.{◌≡◌, ◌⊎◌, ℕ, Bool, true, false, not, cond, ◌==◌, ◌&&◌, ◌||◌, Option, Some, None, List, [], ◌∷◌, ◌++◌, map, refl, sym, ◌∙◌, ap, subst, inl, inr}
use Rattle.std.specs.Prelude.{is_some}
use Rattle.ec_attr.specs.declared.kind.Child.{Child}
use Rattle.ec_attr.specs.declared.kind.Domain.TheVariants.{Inode}
use Rattle.ec_brick.specs.State.{State as Brick}
use Rattle.ec_brick.specs.Step.{Out, cut_off}
use Rattle.ec_conduct.specs.Account.{at}
use Rattle.ec_conduct.specs.Given.{Given}
use Rattle.ec_conduct.specs.Opened.{account}
use Rattle.ec_conduct.specs.Standing.{changes_at}
use Rattle.ec_history.specs.Accounts.{Books}
use Rattle.ec_history.specs.Run.{Net, out_of, torn_out, wiped}
use Rattle.ec_history.specs.Story.{is_done}
use Rattle.ec_wire.specs.declared.entry.Entry.{Entry}
use Rattle.ec_wire.specs.declared.entry.Entry.TheVariants.{Sent, Executed, Stopped, Cut, Torn, Replaced}
use Rattle.ec_wire.specs.declared.message.Body.{Body}
use Rattle.ec_wire.specs.declared.message.Body.TheVariants.{ToBrick, ToClient}
use Rattle.ec_wire.specs.declared.message.Message.{Message}
use Rattle.ec_wire.specs.declared.request.Request.{Request}
use Rattle.ec_wire.specs.declared.request.Request.TheVariants.{NameSet, NamesPut, PostOp}
use Rattle.ec_law_base.specs.State.{State}
use Rattle.ec_law_ballots.specs.Act.{Act}
use Rattle.ec_law_ballots.specs.Act.Act.{Post, Replace, Sink_post, Stop}
use Rattle.ec_law_pieces.specs.Deed.{IsPlan, Plan}
use Rattle.ec_law_pieces.specs.Deed.Deed.{Intend, Read, Write}
use Rattle.ec_law_net.specs.Turns.{View, acts, acts_executed, acts_locks, acts_of_request, acts_torn, acts_worked, counted, exclusive, turn_of}
use Rattle.ec_law_data.specs.Deeds.{data_deeds, deeds, deeds_answered, deeds_executed, deeds_failed, deeds_of_request, deeds_of_torn, deeds_sent, deeds_torn, dressed, is_partial, is_post_on}
use Rattle.ec_law_data.specs.Forms.{Shape, child_put, is_naming, names_written, of_directory}
use Rattle.ec_law_data.specs.Link.{BodyCoded, EntryCoded, IsWhole, MessageCoded, MessageWhole}
use Rattle.ec_law_data.specs.Owing.{AllOwe, OwesWrite}
use Rattle.ec_law_data.proofs.Guards.{Easy, easy_both, easy_if, easy_locks, easy_sent, easy_worked, is_marking, worked_post}
use Rattle.ec_law_turns.proofs.Basics.{equal, some_is}
use Rattle.ec_law_plans.specs.Given.{AllOweShape, BodyGuarded, BodyWrites, EntryGuarded, EntryWrites, HasWritten, IsGuarded, MessageGuarded, MessageWrites}
use Rattle.ec_law_plans.specs.Naming.{HasPlan, NameFile, NamePlans, covers_name, name_plan}
use Rattle.ec_law_parts.specs.Names.{SetsItsName}
use Rattle.ec_law_plans.proofs.Windows.{sent_changes}
use Rattle.ec_law_plans.proofs.Owing.{NameDeeds, all_written, easily, form, names_plan, own_name, posted}

-- no page of names is put on the gfid
abbrev pub NoPage : ℕ → Request → Type 0
NoPage g (NamesPut x i start upto list) = x.0 ≡ g → ⊥
NoPage g q = Unit {0}

first_true : (t u : Bool) → (t && u) ≡ true → t ≡ true
first_true true u e = refl
first_true false u e = absurd (cc)

second_true : (t u : Bool) → (t && u) ≡ true → u ≡ true
second_true true u e = e
second_true false u e = absurd (cc)

no_second : (t : Bool) → (t && false) ≡ false
no_second true = refl
no_second false = refl

naming_whole : (g : ℕ) (q : Request) → (is_naming g q && is_partial q) ≡ false
naming_whole g (NameSet x i name child) = no_second (x.0 == g)
naming_whole g (NamesPut x i start upto list) = no_second (x.0 == g)
naming_whole g q = refl

module _ (plans : NamePlans) (n k g : ℕ) (m : Net) (v : View) (b : Books) (f : NameFile) (heads : f.heads ≡ v.core) where
  -- What is known of a request that a brick executes.
  pub record IsKnown (msg : Message) (q : Request) : Type 0 where
    pub whole : IsWhole q
    pub unmarking : is_marking g q ≡ false
    pub no_page : NoPage g q
    pub has : (is_naming g q || is_post_on g q) ≡ true → HasPlan g m b f (v.of msg.no)
    pub planned : (is_naming g q || is_post_on g q) ≡ true → f.planned (v.of msg.no) ≡ true
    pub made : (w : (is_naming g q || is_post_on g q) ≡ true) → b.given msg.call ≡ Some (has w).given
    pub names : (given : Given) → b.given msg.call ≡ Some given → SetsItsName given q
    pub fresh : (given : Given) → b.given msg.call ≡ Some given → given.kept ≡ None

  abbrev pub BodyKnown : Message → Body → Type 0
  BodyKnown msg (ToBrick q) = IsKnown msg q
  BodyKnown msg (ToClient re reply) = Unit {0}

  abbrev pub MessageKnown : Option Message → Type 0
  MessageKnown None = Unit {0}
  MessageKnown (Some msg) = BodyKnown msg msg.body

  -- ## Data

  or_left : (t u : Bool) → t ≡ true → (t || u) ≡ true
  or_left true u e = refl
  or_left false u e = absurd (cc)

  or_right : (t u : Bool) → u ≡ true → (t || u) ≡ true
  or_right true u e = refl
  or_right false u e = e

  owes_write : (msg : Message) (q : Request) → IsKnown msg q → is_naming g q ≡ true → ((p : List ℕ) → names_written q p ≡ true → f.covers (v.of msg.no) p ≡ true) → IsGuarded v.core (v.of msg.no) msg.brick → OwesWrite form n k f (v.of msg.no) msg.brick (names_written q) (Write (v.of msg.no) msg.brick (names_written q))
  owes_write msg q known naming covered guarded =
      let s = subst (λ (s : State). IsGuarded s (v.of msg.no) msg.brick) (sym heads) guarded in
      record {
        before = s.before;
        covered = covered;
        sink = λ pre. (s.holds, (s.present, s.version, s.number), known.planned (or_left (is_naming g q) (is_post_on g q) naming), s.met, s.before, covered);
      }

  read_owes : (t : Bool) (a c : ℕ) (places : List ℕ → Bool) → AllOwe form n k (cond t (Read a c places ∷ []) []) f
  read_owes true a c places = (tt, tt)
  read_owes false a c places = tt

  none_owes : (t : Bool) (xs : NameDeeds) → t ≡ false → AllOwe form n k (cond t xs []) f
  none_owes true xs e = absurd (cc)
  none_owes false xs e = tt

  both_owe : (t : Bool) (xs ys : NameDeeds) → (t ≡ true → AllOwe form n k xs f) → AllOwe form n k ys f → AllOwe form n k (cond t xs ys) f
  both_owe true xs ys h i = h refl
  both_owe false xs ys h i = i

  failed_owes : (a c : ℕ) (q : Request) (version : Option ℕ) (old now : Brick) → AllOwe form n k (deeds_failed of_directory plans n k g a c q version old now) f
  failed_owes a c q None old now = tt
  failed_owes a c q (Some version) old now = none_owes (is_naming g q && is_partial q) _ (naming_whole g q)

  -- the places that a NameSet of the call writes, and what it puts there
  set_is : (msg : Message) (q : Request) → IsKnown msg q → is_naming g q ≡ true → ((p : List ℕ) → names_written q p ≡ true → (f.covers (v.of msg.no) p ≡ true) × (child_put q p ≡ f.value (v.of msg.no) p))
  set_is msg (NameSet x i name child) known naming p is =
      let w = or_left (x.0 == g) false naming in
      let h = known.has w in
      let o = own_name h.given.op h.given.child x.0 name child (known.names h.given (known.made w)) in
      (h.covers p ∙ o.1 p is, o.0 ∙ sym (h.value p))
  set_is msg (NamesPut x i start upto list) known naming p is = absurd (known.no_page (equal x.0 g naming))
  set_is msg q known naming p is = absurd (cc)

  answered_owes : (msg : Message) (q : Request) (out : Out) → IsKnown msg q → (is_naming g q ≡ true → is_done out.says ≡ true → IsGuarded v.core (v.of msg.no) msg.brick) → AllOwe form n k (deeds_answered of_directory plans n k g f (v.of msg.no) msg.brick q (m.brick msg.brick) out) f
  answered_owes msg (NameSet x i name child) out known guarded = both_owe (is_done out.says) _ _
      (λ done. both_owe (x.0 == g) _ [] (λ on. (owes_write msg (NameSet x i name child) known on (λ p is. (set_is msg (NameSet x i name child) known on p is).0) (guarded on done), tt)) tt)
      (read_owes _ (v.of msg.no) msg.brick _)
  answered_owes msg (NamesPut x i start upto list) out known guarded = both_owe (is_done out.says) _ _
      (λ done. both_owe (x.0 == g) _ [] (λ on. absurd (known.no_page (equal x.0 g on))) tt)
      (read_owes _ (v.of msg.no) msg.brick _)
  answered_owes msg q out known guarded = both_owe (is_done out.says) _ _ (λ done. tt) (read_owes _ (v.of msg.no) msg.brick _)

  guarded_there : (msg : Message) (q : Request) (version : Option ℕ) → IsKnown msg q → BodyGuarded g m v msg (ToBrick q) version false → is_naming g q ≡ true → is_done (out_of m msg q version false).says ≡ true → IsGuarded v.core (v.of msg.no) msg.brick
  guarded_there msg (NameSet x i name child) version known h on done = h on done
  guarded_there msg (NamesPut x i start upto list) version known h on done = absurd (known.no_page (equal x.0 g on))
  guarded_there msg q version known h on done = absurd (cc)

  request_owes : (msg : Message) (q : Request) (version : Option ℕ) (failed : Bool) → IsKnown msg q → BodyGuarded g m v msg (ToBrick q) version failed → AllOwe form n k (deeds_of_request of_directory plans n k g m v f msg (ToBrick q) version failed) f
  request_owes msg q version true known guarded = failed_owes (v.of msg.no) msg.brick q version (m.brick msg.brick) (out_of m msg q version true).brick
  request_owes msg q version false known guarded = answered_owes msg q (out_of m msg q version false) known (guarded_there msg q version known guarded)

  -- ## PostOps

  post_only : (msg : Message) (q : Request) (version : Option ℕ) (failed : Bool) → is_post_on g q ≡ true → is_done (out_of m msg q version failed).says ≡ true → deeds_of_request of_directory plans n k g m v f msg (ToBrick q) version failed ≡ []
  post_only msg (PostOp x i at to size attr) None true on done = refl
  post_only msg (PostOp x i at to size attr) (Some version) true on done = refl
  post_only msg (PostOp x i at to size attr) version false on done = none (is_done (out_of m msg (PostOp x i at to size attr) version false).says) _ done
    where
      none : (t : Bool) (ys : NameDeeds) → t ≡ true → cond t [] ys ≡ []
      none true ys e = refl
      none false ys e = absurd (cc)
  post_only msg q version failed on done = absurd (cc)

  wrote_all : (msg : Message) (q : Request) → IsKnown msg q → is_post_on g q ≡ true → HasWritten of_directory g b f (v.of msg.no) msg.call msg.brick → (p : List ℕ) → f.covers (v.of msg.no) p ≡ true → f.wrote (v.of msg.no) msg.brick p ≡ true
  wrote_all msg q known on w p is =
      let h = known.has (or_right (is_naming g q) (is_post_on g q) on) in
      let same = some_is h.given w.given (sym (known.made (or_right (is_naming g q) (is_post_on g q) on)) ∙ w.made) in
      all_written w.given.op (account w.given w.own) g (v.of msg.no) msg.brick w.head (changes_at (at (account w.given w.own) g msg.brick)) f w.all (sent_changes w.given (known.fresh w.given w.made) w.own g msg.brick) w.written p (ap (λ (x : Given). covers_name x.op p) (sym same) ∙ (sym (h.covers p) ∙ is))

  -- ## A request that is executed

  executed_owes : (o : Option Message) (version : Option ℕ) (failed : Bool) → MessageKnown o → MessageGuarded g m v o version failed → MessageWrites of_directory g m v b f o version failed → AllOweShape form n k (deeds_executed of_directory plans n k g m v f o version failed ++ map (dressed of_directory plans n k g) (acts_executed g m v o version failed)) f → AllOwe form n k (deeds_executed of_directory plans n k g m v f o version failed ++ map (dressed of_directory plans n k g) (acts_executed g m v o version failed)) f
  executed_owes None version failed known guarded writes shape = tt
  executed_owes (Some msg) version failed known guarded writes shape = body msg.body known guarded writes shape
    where
      body : (z : Body) → BodyKnown msg z → BodyGuarded g m v msg z version failed → BodyWrites of_directory g m v b f msg z version failed → AllOweShape form n k (deeds_of_request of_directory plans n k g m v f msg z version failed ++ map (dressed of_directory plans n k g) (acts_of_request g m v msg z version failed)) f → AllOwe form n k (deeds_of_request of_directory plans n k g m v f msg z version failed ++ map (dressed of_directory plans n k g) (acts_of_request g m v msg z version failed)) f
      body (ToClient re reply) known guarded writes shape = tt
      body (ToBrick q) known guarded writes shape = by (is_done out.says && is_post_on g q) refl
        where
          out : Out
          out = out_of m msg q version failed

          locks : List Act
          locks = acts_locks g m v msg.brick (m.brick msg.brick).asks (out_of m msg q version failed).brick.asks

          worked : List Act
          worked = acts_worked g (v.of msg.no) msg.brick (counted v.core (v.of msg.no) (exclusive g Inode (m.brick msg.brick).asks)) q (out_of m msg q version failed).says

          after_post : (worked ≡ Post (v.of msg.no) msg.brick ∷ []) ⊎ (worked ≡ Sink_post (v.of msg.no) msg.brick ∷ []) → (acts_of_request g m v msg (ToBrick q) version failed ≡ Post (v.of msg.no) msg.brick ∷ locks) ⊎ (acts_of_request g m v msg (ToBrick q) version failed ≡ Sink_post (v.of msg.no) msg.brick ∷ locks)
          after_post (inl e) = inl (ap (λ (z : List Act). z ++ locks) e)
          after_post (inr e) = inr (ap (λ (z : List Act). z ++ locks) e)

          by : (t : Bool) → (is_done out.says && is_post_on g q) ≡ t → AllOwe form n k (deeds_of_request of_directory plans n k g m v f msg (ToBrick q) version failed ++ map (dressed of_directory plans n k g) (acts_of_request g m v msg (ToBrick q) version failed)) f
          by false e = easily plans n k g (deeds_of_request of_directory plans n k g m v f msg (ToBrick q) version failed) (acts_of_request g m v msg (ToBrick q) version failed) f (request_owes msg q version failed known guarded)
              (easy_both worked locks (easy_worked g (v.of msg.no) msg.brick (counted v.core (v.of msg.no) (exclusive g Inode (m.brick msg.brick).asks)) q (out_of m msg q version failed).says e known.unmarking) (easy_locks g m v msg.brick (m.brick msg.brick).asks (out_of m msg q version failed).brick.asks)) shape
          by true e =
              let done = first_true (is_done out.says) (is_post_on g q) e in
              let on = second_true (is_done out.says) (is_post_on g q) e in
              let none = post_only msg q version failed on done in
              subst (λ (ds : NameDeeds). AllOweShape form n k (ds ++ map (dressed of_directory plans n k g) (acts_of_request g m v msg (ToBrick q) version failed)) f → AllOwe form n k (ds ++ map (dressed of_directory plans n k g) (acts_of_request g m v msg (ToBrick q) version failed)) f) (sym none)
              (posted plans n k g (v.of msg.no) msg.brick (acts_of_request g m v msg (ToBrick q) version failed) locks f (after_post (worked_post g (v.of msg.no) msg.brick (counted v.core (v.of msg.no) (exclusive g Inode (m.brick msg.brick).asks)) q (out_of m msg q version failed).says done on)) (easy_locks g m v msg.brick (m.brick msg.brick).asks (out_of m msg q version failed).brick.asks) (wrote_all msg q known on (writes on done)))
              shape

  torn_owes : (o : Option Message) (count : ℕ) (version : Option ℕ) → AllOwe form n k (deeds_torn of_directory plans n k g m v o count version) f
  torn_owes None count version = tt
  torn_owes (Some msg) count version = body msg.body
    where
      body : (z : Body) → AllOwe form n k (deeds_of_torn of_directory plans n k g m v msg z count version) f
      body (ToBrick q) = failed_owes (v.of msg.no) msg.brick q version (m.brick msg.brick) (torn_out m msg q count version).brick
      body (ToClient re reply) = tt

  torn_easy : (o : Option Message) → Easy (acts_torn o)
  torn_easy None = tt
  torn_easy (Some msg) = (refl, tt)

  -- ## A message that is sent

  -- a turn that plans has its call's plan
  abbrev pub SentKnown : Message → Body → Type 0
  SentKnown msg (ToBrick q) = (is_naming g q || is_post_on g q) ≡ true → f.planned (turn_of g v msg) ≡ false → (given : Given) × (shape : Shape) × (plans.plan (turn_of g v msg) ≡ name_plan given shape)
  SentKnown msg (ToClient re reply) = Unit {0}

  sent_owes : (msg : Message) (z : Body) → SentKnown msg z → AllOwe form n k (deeds_sent of_directory plans n k g f (turn_of g v msg) z) f
  sent_owes msg (ToClient re reply) known = tt
  sent_owes msg (ToBrick q) known = by (is_naming g q || is_post_on g q) (f.planned (turn_of g v msg)) refl refl
    where
      by : (t u : Bool) → (is_naming g q || is_post_on g q) ≡ t → f.planned (turn_of g v msg) ≡ u → AllOwe form n k (cond (t && not u) (Intend (turn_of g v msg) (plans.plan (turn_of g v msg)) ∷ []) []) f
      by false u e h = tt
      by true true e h = tt
      by true false e h = let o = known e h in (subst (λ (p : Plan (List ℕ) (Option Child) (Option Child) Shape). IsPlan form n k f (turn_of g v msg) p) (sym o.2) (names_plan n k f (turn_of g v msg) o.0 o.1), tt)

  -- ## Entries

  abbrev pub EntryKnown : Entry → Type 0
  EntryKnown (Sent msg) = SentKnown msg msg.body
  EntryKnown (Executed i version failed) = MessageKnown (m.said i)
  EntryKnown (Torn i count version) = MessageWhole of_directory (m.said i)
  EntryKnown e = Unit {0}

  pub entry_owes : (e : Entry) → EntryKnown e → EntryGuarded g m v e → EntryWrites of_directory g m v b f e → AllOweShape form n k (deeds of_directory plans n k g m v f e) f → AllOwe form n k (deeds of_directory plans n k g m v f e) f
  entry_owes (Sent msg) known guarded writes shape = easily plans n k g (data_deeds of_directory plans n k g m v f (Sent msg)) (acts g m v (Sent msg)) f (sent_owes msg msg.body known) (easy_sent g v.core (turn_of g v msg) msg.body) shape
  entry_owes (Executed i version failed) known guarded writes shape = executed_owes (m.said i) version failed known guarded writes shape
  entry_owes (Torn i count version) known guarded writes shape = easily plans n k g (deeds_torn of_directory plans n k g m v (m.said i) count version) (acts_torn (m.said i)) f (torn_owes (m.said i) count version) (torn_easy (m.said i)) shape
  entry_owes (Stopped c) known guarded writes shape = easily plans n k g [] (Stop c ∷ []) f tt (refl, tt) shape
  entry_owes (Cut client c) known guarded writes shape = easily plans n k g [] (acts g m v (Cut client c)) f tt (easy_locks g m v c (m.brick c).asks (cut_off (m.brick c) client).brick.asks) shape
  entry_owes (Replaced c removed all) known guarded writes shape = easily plans n k g [] (acts g m v (Replaced c removed all)) f tt (easy_if (is_some ((m.brick c).records g) && not (is_some (wiped removed all (m.brick c).records g))) (Replace c ∷ []) [] (refl, tt) tt) shape
  entry_owes e known guarded writes shape = tt

  -- each data request that is done puts what its turn planned
  message_coded : (o : Option Message) (version : Option ℕ) (failed : Bool) → MessageKnown o → MessageCoded of_directory g m v f o version failed
  message_coded None version failed known = tt
  message_coded (Some msg) version failed known = body msg.body known
    where
      body : (z : Body) → BodyKnown msg z → BodyCoded of_directory g m v f msg z version failed
      body (ToClient re reply) known = tt
      body (ToBrick q) known = record { whole = known.whole; codes = λ fine naming granted done p is. (set_is msg q known naming p is).1 }

  pub entry_coded : (e : Entry) → EntryKnown e → EntryCoded of_directory g m v f e
  entry_coded (Executed i version failed) known = message_coded (m.said i) version failed known
  entry_coded (Torn i count version) known = known
  entry_coded e known = tt
