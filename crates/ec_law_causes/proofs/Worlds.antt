-- In the log of a world each answer has its cause.
use Rattle.std.proofs.Common.{◌≡◌, ℕ, ◌+◌, ◌==◌, Bool, true, false, cond, refl, sym, ◌∙◌, ap, subst, List, [], ◌∷◌, ◌++◌, Option, Some, None, ◌⊎◌}
use Rattle.ec_attr.specs.declared.config.Config.{Config}
use Rattle.ec_attr.specs.declared.geometry.Geometry.{Geometry}
use Rattle.ec_attr.specs.declared.kind.Domain.TheVariants.{Inode, Heal}
use Rattle.ec_brick.specs.State.{State as Brick}
use Rattle.ec_calls.specs.declared.any.AnyCall.{AnyCall}
use Rattle.ec_clients.specs.Beginning.{beginning}
use Rattle.ec_clients.specs.Calls.{OfClients, begun_with, ctx_of}
use Rattle.ec_clients.specs.Come.{Come, come, come_after, nothing_left}
use Rattle.ec_clients.specs.Ledger.{Ledger, ledger}
use Rattle.ec_clients.specs.declared.clients.Clients.{Clients}
use Rattle.ec_cluster.specs.Said.{said_in}
use Rattle.ec_cluster.specs.Views.{log_of}
use Rattle.ec_cluster.specs.declared.cluster.Cluster.{Cluster}
use Rattle.ec_conduct.specs.Account.{Account, Exchange, Wait, account_from, after, filed, gave_up, gfid_of, heard_by, left_by, over, sent, told}
use Rattle.ec_conduct.specs.Conduct.{Keeps, KeepsFrom}
use Rattle.ec_conduct.specs.Given.{Given}
use Rattle.ec_conduct.specs.Opened.{account, opened}
use Rattle.ec_conduct.specs.Own.{Own, Sends, Hears, GivesUp, Answers}
use Rattle.ec_conduct.proofs.Fronts.{account_append, rest_from}
use Rattle.ec_history.specs.Accounts.{Books, booked, books, no_books}
use Rattle.ec_history.specs.Flat.{Tree}
use Rattle.ec_history.specs.Run.{Asker, Net, after as net_after, fresh, run}
use Rattle.ec_history.specs.Story.{Story, opening, story, told as told_story}
use Rattle.ec_store.specs.Put.{put}
use Rattle.ec_txn.specs.declared.ctx.Ctx.{Ctx}
use Rattle.ec_wire.specs.declared.answer.Answer.{Answer}
use Rattle.ec_wire.specs.declared.entry.Entry.{Entry}
use Rattle.ec_wire.specs.declared.entry.Entry.TheVariants.{Answered}
use Rattle.ec_wire.specs.declared.message.Message.{Message}
use Rattle.ec_wire.specs.declared.request.Request.{Request}
use Rattle.ec_wire.specs.declared.request.Request.TheVariants.{Ask, Release, Query, PreOp}
use Rattle.ec_law_calls.specs.World.{IsLogged}
use Rattle.ec_law_net.proofs.Conducts.{log_grows, together}
use Rattle.ec_law_parts.proofs.Worlds.{logged_sees}
use Rattle.ec_law_turns.proofs.Basics.{put_here}
use Rattle.ec_law_causes.specs.Causes.{HasCause, IsSuccess}
use Rattle.ec_law_causes.specs.Laws.{CallCauseLaws, HasCauseInLog, WorldCauseLaws}

some_is : {X : Type 0} (x y : X) → Some x ≡ Some y → x ≡ y
some_is x y e = cc

-- ## An answer stays

sent_answer : (c : Account) (b i : ℕ) (q : Request) → (sent c b i q).answer ≡ c.answer
sent_answer c b i (Ask x Inode kind) = refl
sent_answer c b i (Ask x Heal kind) = refl
sent_answer c b i (Release x n) = refl
sent_answer c b i (Query x n) = refl
sent_answer c b i (PreOp x n v dirty) = refl
sent_answer c b i q = refl

over_answer : (c : Account) (b : ℕ) (e : Exchange) → (over c b e).answer ≡ c.answer
over_answer c b e = at (gfid_of e.request)
  where
    at : (o : Option ℕ) → (filed (record c { waits = put c.waits b None; steps = c.steps + 1 }) b e o).answer ≡ c.answer
    at None = refl
    at (Some x) = refl

heard_answer : (c : Account) (b i : ℕ) (o : Option Wait) (reply : Rattle.ec_wire.specs.declared.reply.Reply.Reply) → (heard_by c b o i reply).answer ≡ c.answer
heard_answer c b i None reply = refl
heard_answer c b i (Some w) reply = either (w.number == i)
  where
    either : (t : Bool) → (cond t (told c b w reply) c).answer ≡ c.answer
    either true = over_answer c b (record { number = w.number; request = w.request; reply = Some reply })
    either false = refl

left_answer : (c : Account) (b i : ℕ) (o : Option Wait) → (left_by c b o i).answer ≡ c.answer
left_answer c b i None = refl
left_answer c b i (Some w) = either (w.number == i)
  where
    either : (t : Bool) → (cond t (gave_up c b w) c).answer ≡ c.answer
    either true = over_answer c b (record { number = w.number; request = w.request; reply = None })
    either false = refl

answer_stays : (c : Account) (answer : Answer) (es : List Own) → c.answer ≡ Some answer → KeepsFrom c es → (account_from c es).answer ≡ Some answer
answer_stays c answer [] e keeps = e
answer_stays c answer (Sends b i q ∷ es) e keeps = answer_stays (sent c b i q) answer es (sent_answer c b i q ∙ e) keeps.1
answer_stays c answer (Hears b i reply ∷ es) e keeps = answer_stays (heard_by c b (c.waits b) i reply) answer es (heard_answer c b i (c.waits b) reply ∙ e) keeps.1
answer_stays c answer (GivesUp b i ∷ es) e keeps = answer_stays (left_by c b (c.waits b) i) answer es (left_answer c b i (c.waits b) ∙ e) keeps.1
answer_stays c answer (Answers other ∷ es) e keeps = absurd (let v = sym keeps.0.0 ∙ e in cc)

-- so a call that was answered in its own entries has that answer
pub has_answer : (given : Given) (xs ys : List Own) (answer : Answer) → Keeps given (xs ++ Answers answer ∷ ys) → (account given (xs ++ Answers answer ∷ ys)).answer ≡ Some answer
has_answer given xs ys answer keeps =
    ap (λ (c : Account). c.answer) (account_append (opened given) xs (Answers answer ∷ ys))
    ∙ answer_stays (after (account given xs) (Answers answer)) answer ys refl (rest_from (opened given) xs (Answers answer ∷ ys) keeps).1

-- ## The log of a world

come_books : (geometry : Geometry) (es : List Entry) (p : Come) → (come geometry es p).books ≡ books geometry nothing_left es p.net p.story p.books
come_books geometry [] p = refl
come_books geometry (e ∷ es) p = come_books geometry es (come_after geometry p e)

books_both : (geometry : Geometry) (es fs : List Entry) (m : Net) (t : Story) (b : Books) → books geometry nothing_left (es ++ fs) m t b ≡ books geometry nothing_left fs (run es m) (story geometry es m t) (books geometry nothing_left es m t b)
books_both geometry [] fs m t b = refl
books_both geometry (e ∷ es) fs m t b = books_both geometry es fs (net_after m e) (told_story geometry m t e) (booked geometry nothing_left m t b e)

-- the own entries of a call that was answered in a log
own_answered : (geometry : Geometry) (es rest : List Entry) (m : Net) (t : Story) (a : ℕ) (answer : Answer)
    → (xs ys : List Own) × ((books geometry nothing_left (es ++ Answered a answer ∷ rest) m t no_books).own a ≡ xs ++ Answers answer ∷ ys)
own_answered geometry es rest m t a answer =
    let b = books geometry nothing_left es m t no_books in
    let n = run es m in
    let u = story geometry es m t in
    let e : Entry = Answered a answer in
    let next = booked geometry nothing_left n u b e in
    let more = log_grows geometry nothing_left rest (net_after n e) (told_story geometry n u e) next a in
    (b.own a, more.0, ap (λ (x : Books). x.own a) (books_both geometry es (e ∷ rest) m t no_books) ∙ (more.1 ∙ (ap (λ (zs : List Own). zs ++ more.0) (put_here b.own a (b.own a ++ Answers answer ∷ []) a refl) ∙ together (b.own a) (Answers answer ∷ []) more.0)))

not_empty : (xs ys : List Own) (e : Own) → xs ++ e ∷ ys ≡ [] → ⊥
not_empty [] ys e w = absurd (cc)
not_empty (x ∷ xs) ys e w = absurd (cc)

module _ (stands : Ctx → Given → AnyCall → List Own → Type 0) (by_table : Ctx → Given → List Own → Type 0) (laws : CallCauseLaws stands) where
  -- a call stands for its own entries, and keeps the conduct
  record IsOf (l : Ledger) (a : ℕ) : Type 0 where
    pub given : Given
    pub begun : l.given a ≡ Some given
    pub x : Ctx
    pub call : AnyCall
    pub meets : stands x given call (l.own a)
    pub keeps : Keeps given (l.own a)

  module _ (c : Clients AnyCall) (said : ℕ → Option Message) (l : Ledger) (h : OfClients stands by_table c None said l) where
    made_call : (a : ℕ) (asker : Asker) → l.asker a ≡ Some asker → IsOf l a
    made_call a asker e = at (l.answered a) refl
      where
        no_one : None ≡ Some a → ⊥
        no_one z = cc

        keeps_by : (given : Given) → l.given a ≡ Some given → Keeps given (l.own a)
        keeps_by given begun = let made = h.calls.made a asker e in subst (λ (v : Given). Keeps v (l.own a)) (some_is (begun_with c.options asker.op made.child) given (sym made.begun ∙ begun)) made.conduct

        at : (t : Bool) → l.answered a ≡ t → IsOf l a
        at true t = let ended = h.slots.ended a asker e t in record { given = begun_with c.options asker.op ended.child; begun = ended.begun; x = ctx_of c.options a asker.client ended.child; call = ended.call; meets = ended.stood; keeps = keeps_by (begun_with c.options asker.op ended.child) ended.begun }
        at false t =
            let slot = h.slots.unanswered a asker e t no_one in
            let runs = (h.slots.runs asker.client slot.0 slot.1).0 in
            let given = begun_with c.options runs.asker.op runs.child in
            let begun : l.given a ≡ Some given = ap l.given (sym slot.2) ∙ runs.begun in
            record { given = given; begun = begun; x = ctx_of c.options slot.0.number asker.client runs.child; call = slot.0.call; meets = subst (λ (n : ℕ). stands (ctx_of c.options slot.0.number asker.client runs.child) given slot.0.call (l.own n)) slot.2 runs.meets; keeps = keeps_by given begun }

    -- a call with own entries was made
    call_of : (a : ℕ) (xs ys : List Own) (e : Own) → l.own a ≡ xs ++ e ∷ ys → IsOf l a
    call_of a xs ys e own = at (l.asker a) refl
      where
        at : (o : Option Asker) → l.asker a ≡ o → IsOf l a
        at None none = absurd (not_empty xs ys e (sym own ∙ (h.calls.later a none).own))
        at (Some asker) made = made_call a asker made

  cause : (config : Config) (bricks : ℕ → Brick) (tree : Tree) (next : ℕ) (s : Cluster) (c : Clients AnyCall) → IsLogged stands by_table config bricks tree next s c
      → (es rest : List Entry) (call : ℕ) (answer : Answer) → log_of s ≡ es ++ Answered call answer ∷ rest → HasCauseInLog config bricks tree next (log_of s) call answer
  cause config bricks tree next s c logged es rest call answer parts =
      let p = come config.geometry (log_of s) (beginning bricks tree next) in
      let same = come_books config.geometry (log_of s) (beginning bricks tree next) in
      let clients = (logged_sees stands by_table config bricks tree next s c logged).seen.clients in
      let own = own_answered config.geometry es rest (fresh bricks) (opening tree next) call answer in
      let own_log : (ledger p).own call ≡ own.0 ++ Answers answer ∷ own.1 = ap (λ (b : Books). b.own call) same ∙ (ap (λ (log : List Entry). (books config.geometry nothing_left log (fresh bricks) (opening tree next) no_books).own call) parts ∙ own.2) in
      let k = call_of c (said_in (log_of s)) (ledger p) clients call own.0 own.1 (Answers answer) own_log in
      let told : (account k.given ((ledger p).own call)).answer ≡ Some answer = subst (λ (xs : List Own). (account k.given xs).answer ≡ Some answer) (sym own_log) (has_answer k.given own.0 own.1 answer (subst (Keeps k.given) own_log k.keeps)) in
      record {
        given = k.given;
        begun = ap (λ (b : Books). b.given call) (sym same) ∙ k.begun;
        answered = subst (λ (b : Books). (account k.given (b.own call)).answer ≡ Some answer) same told;
        cause = subst (λ (b : Books). HasCause (account k.given (b.own call)) answer) same (laws.cause k.x k.given k.call ((ledger p).own call) answer k.meets told);
        only = subst (λ (b : Books). (other : Answer) → HasCause (account k.given (b.own call)) other → (other ≡ answer) ⊎ (IsSuccess other × IsSuccess answer)) same (λ other has. laws.only k.x k.given k.call ((ledger p).own call) answer other k.meets told has);
      }

  pub cause_laws : WorldCauseLaws stands by_table
  cause_laws = record { cause = cause }
