-- What a log has come to for changes and PostOps, entry by entry.
use Rattle.std.proofs.Common.{◌≡◌, ◌⊎◌, ℕ, ◌+◌, ◌^◌, ◌<◌, ◌≤◌, Bool, true, false, not, cond, ◌==◌, ◌&&◌, ◌||◌, Option, Some, None, List, [], ◌∷◌, ◌++◌, refl, sym, ◌∙◌, ap, subst, arith, inl, inr, ⊎_elim}
use Rattle.std.specs.Prelude.{is_some}
use Rattle.ec_attr.specs.Marks.{is_marked, stripped}
use Rattle.ec_attr.specs.declared.config.Config.{Config}
use Rattle.ec_attr.specs.declared.geometry.Geometry.{Geometry}
use Rattle.ec_attr.specs.declared.gfid.Gfid.{Gfid}
use Rattle.ec_attr.specs.declared.kind.Domain.TheVariants.{Inode}
use Rattle.ec_brick.specs.State.{State as Brick}
use Rattle.ec_brick.specs.Step.{cut_off}
use Rattle.ec_conduct.specs.Account.{gfid_of}
use Rattle.ec_conduct.specs.Done.{is_post}
use Rattle.ec_conduct.specs.Given.{Given, quorum}
use Rattle.ec_conduct.specs.Own.{Own}
use Rattle.ec_history.specs.Accounts.{Books, Leaving, booked, no_books}
use Rattle.ec_history.specs.Flat.{Tree}
use Rattle.ec_history.specs.IsRun.{May as MayEnter, MayExecute, MayTear}
use Rattle.ec_history.specs.Run.{Net, after as net_after, executed, executed_by, fresh, heard, heard_by, out_of, torn_by, torn_off, wiped}
use Rattle.ec_history.specs.Starts.{IsStart}
use Rattle.ec_history.specs.Story.{Story, is_done}
use Rattle.ec_store.specs.Put.{put}
use Rattle.ec_store.specs.Records.{Records}
use Rattle.ec_wire.specs.declared.entry.Entry.{Entry}
use Rattle.ec_wire.specs.declared.entry.Entry.TheVariants.{Called, Sent, Executed, Heard, Lost, GivenUp, Stopped, Returned, Cut, Died, Yielded, Torn, Answered, Replaced}
use Rattle.ec_wire.specs.declared.message.Body.{Body}
use Rattle.ec_wire.specs.declared.message.Body.TheVariants.{ToBrick, ToClient}
use Rattle.ec_wire.specs.declared.message.Message.{Message}
use Rattle.ec_wire.specs.declared.request.Request.{Request}
use Rattle.ec_wire.specs.declared.request.Request.TheVariants.{PreOp, PostOp}
use Rattle.ec_law_base.specs.State.{put2}
use Rattle.ec_law_ballots.specs.Act.{Act, after}
use Rattle.ec_law_ballots.specs.Act.Act.{Post, Replace, Sink_post, Stop}
use Rattle.ec_law_ballots.specs.Guard.{Runs}
use Rattle.ec_law_quorum.proofs.Begins.{inv_begin}
use Rattle.ec_law_quorum.proofs.Laws.{inv_after}
use Rattle.ec_law_quorum.specs.Wide.{Inv}
use Rattle.ec_law_net.specs.Start.{first_heads, is_new}
use Rattle.ec_law_net.specs.Turns.{View, acts, acts_executed, acts_locks, acts_of_request, acts_torn, acts_worked, counted, exclusive, seen_after, turn_of}
use Rattle.ec_law_net.proofs.Conducts.{log_grows, together}
use Rattle.ec_law_net.proofs.Starting.{starts_linked}
use Rattle.ec_law_turns.specs.Known.{Known}
use Rattle.ec_law_turns.specs.Once.{Landed}
use Rattle.ec_law_turns.specs.Reached.{Reached}
use Rattle.ec_law_turns.proofs.Basics.{equal, put_here, put_there, some_none}
use Rattle.ec_law_turns.proofs.Later.{Later, after_later}
use Rattle.ec_law_turns.proofs.Numbered.{IsPlainEntry}
use Rattle.ec_law_turns.proofs.Runs.{first_moment, given_stays}
use Rattle.ec_law_turns.proofs.Sends.{adds, of_after, said_after}
use Rattle.ec_law_turns.proofs.Steps.{EntryKept, executed_same, heard_same, made_same, torn_same}
use Rattle.ec_law_turns.proofs.Tracks.{Adds}
use Rattle.ec_law_data.specs.Deeds.{is_post_on}
use Rattle.ec_law_data.specs.Laws.{begun}
use Rattle.ec_law_data.proofs.Guards.{Easy, easy_both, easy_if, easy_locks, easy_sent, easy_worked, worked_post}
use Rattle.ec_law_data.proofs.OrderlyDeeds.{unmarking}
use Rattle.ec_law_data.proofs.Reaching.{Reaches, gone}
use Rattle.ec_law_writes.specs.Guarding.{changes_on}
use Rattle.ec_law_writes.specs.Sinks.{StillMarked}
use Rattle.ec_law_writes.proofs.Answering.{HasAnswered, answered_entry, done_after, done_more, said_done}
use Rattle.ec_law_writes.proofs.Changing.{IsChange, IsPost, SawSink, change_later, new_change, new_post, new_sink, post_later, saw_later}
use Rattle.ec_law_writes.proofs.Sinking.{SpareMarks, all_easy_spare, easy_posts, still_after}

-- By message whether it was done: what calls heard, what is known of each change, of each PreOp on a marked record and of each
-- PostOp, and what the machine has of sinks.
pub record Watched (geometry : Geometry) (g : ℕ) (m : Net) (v : View) (b : Books) (done : ℕ → Bool) : Type 0 where
  pub answered : HasAnswered g m.said m.owed done b
  pub landed : (i : ℕ) → done i ≡ true → m.flying i ≡ false
  pub below : (i : ℕ) → done i ≡ true → i < m.next
  pub changes : (i : ℕ) (x : Message) (q : Request) → m.said i ≡ Some x → x.body ≡ ToBrick q → changes_on g q ≡ true → IsChange g m.said v.of v.core x.call x.brick i q
  pub sinks : (i : ℕ) (x : Message) (y : Gfid) (n version dirty : ℕ) → m.said i ≡ Some x → x.body ≡ ToBrick (PreOp y n version dirty) → y.0 ≡ g → is_marked version ≡ true → SawSink v.core (v.of i) x.brick (stripped version)
  pub posts : (i : ℕ) (x : Message) (q : Request) → m.said i ≡ Some x → x.body ≡ ToBrick q → is_post_on g q ≡ true → IsPost g m.said v.of done b x.call x.brick i q
  pub sink_posts : (t c : ℕ) → 2 ^ 61 ≤ t → v.core.spost t c ≡ true → Landed g m.said m.flying v.of is_post c t
  pub still : (c : ℕ) → StillMarked v.core c
  pub inv : Inv geometry.n (quorum geometry) v.core

pub post_is : (g : ℕ) (q : Request) → is_post_on g q ≡ true → (x : Gfid) × (is_post q ≡ true) × (gfid_of q ≡ Some g)
post_is g (PostOp x n at version size attr) on = (x, refl, ap (λ (y : ℕ). Some y) (equal x.0 g on))
post_is g q on = absurd (cc)

-- ## Messages in flight

put_lands : (f : ℕ → Bool) (j i : ℕ) → f i ≡ false → put f j false i ≡ false
put_lands f j i e = at (i == j)
  where
    at : (t : Bool) → cond t false (f i) ≡ false
    at true = refl
    at false = e

pub executed_flying : (m : Net) (i : ℕ) (version : Option ℕ) (failed : Bool) (may : MayExecute m i version failed) → (net_after m (Executed i version failed)).flying ≡ put m.flying may.message.no false
executed_flying m i version failed may = ap (λ (o : Option Message). (executed m o version failed).flying) may.at.said ∙ ap (λ (z : Body). (executed_by m may.message z version failed).flying) may.at.body

pub torn_flying : (m : Net) (i count : ℕ) (version : Option ℕ) (may : MayTear m i count version) → (net_after m (Torn i count version)).flying ≡ put m.flying may.message.no false
torn_flying m i count version may = ap (λ (o : Option Message). (torn_off m o count version).flying) may.at.said ∙ ap (λ (z : Body). (torn_by m may.message z count version).flying) may.at.body

heard_lands : (m : Net) (o : Option Message) (i : ℕ) → m.flying i ≡ false → (heard m o).flying i ≡ false
heard_lands m None i e = e
heard_lands m (Some msg) i e = by_body msg.body
  where
    by_body : (z : Body) → (heard_by m msg z).flying i ≡ false
    by_body (ToBrick q) = e
    by_body (ToClient re reply) = put_lands m.flying msg.no i e

-- what has arrived has
pub lands : (n : ℕ) (m : Net) (e : Entry) → MayEnter n m e → (i : ℕ) → i < m.next → m.flying i ≡ false → (net_after m e).flying i ≡ false
lands n m (Called a client op) may i lt f = f
lands n m (Sent msg) may i lt f = put_there m.flying msg.no true i (λ z. let e = may.0 in omega (arith, z, e, lt)) ∙ f
lands n m (Executed j version failed) may i lt f = ap (λ (z : ℕ → Bool). z i) (executed_flying m j version failed may) ∙ put_lands m.flying may.message.no i f
lands n m (Heard j) may i lt f = heard_lands m (m.said j) i f
lands n m (Lost j) may i lt f = put_lands m.flying j i f
lands n m (GivenUp client brick j) may i lt f = f
lands n m (Stopped x) may i lt f = f
lands n m (Returned x) may i lt f = f
lands n m (Cut client x) may i lt f = f
lands n m (Died client) may i lt f = f
lands n m (Yielded client) may i lt f = f
lands n m (Torn j count version) may i lt f = ap (λ (z : ℕ → Bool). z i) (torn_flying m j count version may) ∙ put_lands m.flying may.message.no i f
lands n m (Answered a answer) may i lt f = f
lands n m (Replaced x removed all) may i lt f = f

-- ## What an entry says

-- a message is sent, or messages and their turns stay
pub data Says (g : ℕ) (m : Net) (v : View) (e : Entry) : Type 0 where
  SaysOne : (msg : Message) → e ≡ Sent msg → Says g m v e
  SaysNone : (net_after m e).said ≡ m.said → (seen_after g m v e).of ≡ v.of → (net_after m e).next ≡ m.next → Says g m v e

pub says_of : (g : ℕ) (m : Net) (v : View) (e : Entry) → Says g m v e
says_of g m v (Called a client op) = SaysNone refl (made_same g v a op).1 refl
says_of g m v (Sent msg) = SaysOne msg refl
says_of g m v (Executed i version failed) = SaysNone (executed_same m (m.said i) version failed).0 refl (executed_same m (m.said i) version failed).1
says_of g m v (Heard i) = SaysNone (heard_same m (m.said i)).0 refl (heard_same m (m.said i)).1
says_of g m v (Lost i) = SaysNone refl refl refl
says_of g m v (GivenUp client brick i) = SaysNone refl refl refl
says_of g m v (Stopped x) = SaysNone refl refl refl
says_of g m v (Returned x) = SaysNone refl refl refl
says_of g m v (Cut client x) = SaysNone refl refl refl
says_of g m v (Died client) = SaysNone refl refl refl
says_of g m v (Yielded client) = SaysNone refl refl refl
says_of g m v (Torn i count version) = SaysNone (torn_same m (m.said i) count version).0 refl (torn_same m (m.said i) count version).1
says_of g m v (Answered a answer) = SaysNone refl refl refl
says_of g m v (Replaced x removed all) = SaysNone refl refl refl

-- ## What an entry does to sinks

-- the acts of an entry mark no record, and a PostOp on a marked record is one that has come
pub record Spares (g : ℕ) (m : Net) (v : View) (flying : ℕ → Bool) (es : List Act) : Type 0 where
  pub marks : SpareMarks es
  pub posts : (t c : ℕ) → (after es v.core).spost t c ≡ true → (v.core.spost t c ≡ true) ⊎ Landed g m.said flying v.of is_post c t

easy_spares : (g : ℕ) (m : Net) (v : View) (flying : ℕ → Bool) (es : List Act) → Easy es → Spares g m v flying es
easy_spares g m v flying es h = record { marks = all_easy_spare es h; posts = λ t c e. inl (sym (ap (λ (f : ℕ → ℕ → Bool). f t c) (easy_posts es v.core h)) ∙ e) }

hit : (f : ℕ → ℕ → Bool) (a b x c : ℕ) → put2 f a b true x c ≡ true → (f x c ≡ true) ⊎ ((x ≡ a) × (c ≡ b))
hit f a b x c e = at (x == a) (c == b) refl refl e
  where
    at : (t u : Bool) → (x == a) ≡ t → (c == b) ≡ u → cond (t && u) true (f x c) ≡ true → (f x c ≡ true) ⊎ ((x ≡ a) × (c ≡ b))
    at true true h k e = inr (equal x a h, equal c b k)
    at true false h k e = inl e
    at false u h k e = inl e

module _ (geometry : Geometry) (g : ℕ) (m : Net) (v : View) (b' : Books) (known : Known geometry g m v b') where
  executed_spares : (i : ℕ) (version : Option ℕ) (failed : Bool) (may : MayExecute m i version failed) → Spares g m v (net_after m (Executed i version failed)).flying (acts g m v (Executed i version failed))
  executed_spares i version failed may = subst (λ (o : Option Message). Spares g m v (net_after m (Executed i version failed)).flying (acts_executed g m v o version failed)) (sym may.at.said) (subst (λ (z : Body). Spares g m v (net_after m (Executed i version failed)).flying (acts_of_request g m v may.message z version failed)) (sym may.at.body) (by (is_done (out_of m may.message may.request version failed).says && is_post_on g may.request) refl))
    where
      no : may.message.no ≡ i
      no = (known.messages.number i may.message may.at.said).0

      easy : Easy (acts_locks g m v may.message.brick (m.brick may.message.brick).asks (out_of m may.message may.request version failed).brick.asks)
      easy = easy_locks g m v may.message.brick (m.brick may.message.brick).asks (out_of m may.message may.request version failed).brick.asks

      parts : (t u : Bool) → (t && u) ≡ true → (t ≡ true) × (u ≡ true)
      parts true u e = (refl, e)
      parts false u e = absurd (cc)

      posted : (es : List Act) → is_post_on g may.request ≡ true → (es ≡ Post (v.of may.message.no) may.message.brick ∷ []) ⊎ (es ≡ Sink_post (v.of may.message.no) may.message.brick ∷ []) → Spares g m v (net_after m (Executed i version failed)).flying (es ++ acts_locks g m v may.message.brick (m.brick may.message.brick).asks (out_of m may.message may.request version failed).brick.asks)
      posted es on (inl e) = subst (λ (xs : List Act). Spares g m v (net_after m (Executed i version failed)).flying (xs ++ acts_locks g m v may.message.brick (m.brick may.message.brick).asks (out_of m may.message may.request version failed).brick.asks)) (sym e) (record {
        marks = (refl, all_easy_spare (acts_locks g m v may.message.brick (m.brick may.message.brick).asks (out_of m may.message may.request version failed).brick.asks) easy);
        posts = λ t c k. inl (sym (ap (λ (f : ℕ → ℕ → Bool). f t c) (easy_posts (acts_locks g m v may.message.brick (m.brick may.message.brick).asks (out_of m may.message may.request version failed).brick.asks) (after (Post (v.of may.message.no) may.message.brick ∷ []) v.core) easy)) ∙ k);
      })
      posted es on (inr e) = subst (λ (xs : List Act). Spares g m v (net_after m (Executed i version failed)).flying (xs ++ acts_locks g m v may.message.brick (m.brick may.message.brick).asks (out_of m may.message may.request version failed).brick.asks)) (sym e) (record {
        marks = (refl, all_easy_spare (acts_locks g m v may.message.brick (m.brick may.message.brick).asks (out_of m may.message may.request version failed).brick.asks) easy);
        posts = λ t c k. ⊎_elim (λ z. inl z) (λ z. inr (came t c z.0 z.1)) (hit v.core.spost (v.of may.message.no) may.message.brick t c (sym (ap (λ (f : ℕ → ℕ → Bool). f t c) (easy_posts (acts_locks g m v may.message.brick (m.brick may.message.brick).asks (out_of m may.message may.request version failed).brick.asks) (after (Sink_post (v.of may.message.no) may.message.brick ∷ []) v.core) easy)) ∙ k));
      })
        where
          came : (t c : ℕ) → t ≡ v.of may.message.no → c ≡ may.message.brick → Landed g m.said (net_after m (Executed i version failed)).flying v.of is_post c t
          came t c turn brick =
              let o = post_is g may.request on in
              record {
                number = i;
                asked = record { message = may.message; request = may.request; is = may.at.said; brick = sym brick; body = may.at.body; on = o.2; passes = o.1; turn = ap v.of (sym no) ∙ sym turn };
                landed = ap (λ (z : ℕ → Bool). z i) (executed_flying m i version failed may) ∙ put_here m.flying may.message.no false i no;
              }

      by : (t : Bool) → (is_done (out_of m may.message may.request version failed).says && is_post_on g may.request) ≡ t → Spares g m v (net_after m (Executed i version failed)).flying (acts_of_request g m v may.message (ToBrick may.request) version failed)
      by false e = easy_spares g m v (net_after m (Executed i version failed)).flying (acts_of_request g m v may.message (ToBrick may.request) version failed) (easy_both (acts_worked g (v.of may.message.no) may.message.brick (counted v.core (v.of may.message.no) (exclusive g Inode (m.brick may.message.brick).asks)) may.request (out_of m may.message may.request version failed).says) _ (easy_worked g (v.of may.message.no) may.message.brick (counted v.core (v.of may.message.no) (exclusive g Inode (m.brick may.message.brick).asks)) may.request (out_of m may.message may.request version failed).says e (unmarking g m.said v.of v.core.moment may.message.call may.message.brick i may.request (known.sound i may.message may.request may.at.said may.at.body))) easy)
      by true e = let o = parts (is_done (out_of m may.message may.request version failed).says) (is_post_on g may.request) e in posted (acts_worked g (v.of may.message.no) may.message.brick (counted v.core (v.of may.message.no) (exclusive g Inode (m.brick may.message.brick).asks)) may.request (out_of m may.message may.request version failed).says) o.1 (worked_post g (v.of may.message.no) may.message.brick (counted v.core (v.of may.message.no) (exclusive g Inode (m.brick may.message.brick).asks)) may.request (out_of m may.message may.request version failed).says o.0 o.1)

  pub spares_of : (e : Entry) → MayEnter geometry.n m e → Spares g m v (net_after m e).flying (acts g m v e)
  spares_of (Called a client op) may = easy_spares g m v m.flying [] tt
  spares_of (Sent msg) may = easy_spares g m v (net_after m (Sent msg)).flying (acts g m v (Sent msg)) (easy_sent g v.core (turn_of g v msg) msg.body)
  spares_of (Executed i version failed) may = executed_spares i version failed may
  spares_of (Heard i) may = easy_spares g m v (net_after m (Heard i)).flying [] tt
  spares_of (Lost i) may = easy_spares g m v (net_after m (Lost i)).flying [] tt
  spares_of (GivenUp client brick i) may = easy_spares g m v m.flying [] tt
  spares_of (Stopped x) may = easy_spares g m v m.flying (Stop x ∷ []) (refl, tt)
  spares_of (Returned x) may = easy_spares g m v m.flying [] tt
  spares_of (Cut client x) may = easy_spares g m v m.flying (acts g m v (Cut client x)) (easy_locks g m v x (m.brick x).asks (cut_off (m.brick x) client).brick.asks)
  spares_of (Died client) may = easy_spares g m v m.flying [] tt
  spares_of (Yielded client) may = easy_spares g m v m.flying [] tt
  spares_of (Torn i count version) may = easy_spares g m v (net_after m (Torn i count version)).flying (acts_torn (m.said i)) (stops (m.said i))
    where
      stops : (o : Option Message) → Easy (acts_torn o)
      stops None = tt
      stops (Some msg) = (refl, tt)
  spares_of (Answered a answer) may = easy_spares g m v m.flying [] tt
  spares_of (Replaced x removed all) may = easy_spares g m v m.flying (acts g m v (Replaced x removed all)) (easy_if (is_some ((m.brick x).records g) && not (is_some (wiped removed all (m.brick x).records g))) (Replace x ∷ []) [] (refl, tt) tt)

-- ## Each entry

landed_later : (g : ℕ) (said said' : ℕ → Option Message) (flying flying' : ℕ → Bool) (of of' : ℕ → ℕ) (b t : ℕ) → ((i : ℕ) (x : Message) → said i ≡ Some x → (said' i ≡ Some x) × (of' i ≡ of i)) → ((i : ℕ) (x : Message) → said i ≡ Some x → flying i ≡ false → flying' i ≡ false) → Landed g said flying of is_post b t → Landed g said' flying' of' is_post b t
landed_later g said said' flying flying' of of' b t still lands h =
    let o = h.asked in
    record { number = h.number; asked = record { message = o.message; request = o.request; is = (still h.number o.message o.is).0; brick = o.brick; body = o.body; on = o.on; passes = o.passes; turn = (still h.number o.message o.is).1 ∙ o.turn }; landed = lands h.number o.message o.is h.landed }

module _ (geometry : Geometry) (left : ℕ → Leaving) (none : (a : ℕ) → (left a).kept ≡ None) (first : ℕ) (origins : ℕ → ℕ) (new : (h : ℕ) → first ≤ h → origins h ≡ 0) (g : ℕ) (m : Net) (vs : ℕ → View) (t : Story) (b : Books) (e : Entry) (plain : IsPlainEntry e) (may : MayEnter geometry.n m e) (kept : EntryKept m b e) (k : Reaches geometry first origins m vs t b) (done : ℕ → Bool) (h : Watched geometry g m (vs g) b done) where
  abbrev v : View
  v = vs g

  r : Reached geometry g m (vs g) b
  r = k.reached g

  runs : Runs geometry.n (quorum geometry) (acts g m (vs g) e) (vs g).core
  runs = (gone geometry left none first origins new m vs t b e plain may kept k g).runs

  later : Later (vs g).core (seen_after g m (vs g) e).core
  later = after_later geometry.n (quorum geometry) (acts g m (vs g) e) (vs g).core runs

  most : geometry.n < quorum geometry + quorum geometry
  most = let z = geometry.majority in omega (arith, z)

  spares : Spares g m (vs g) (net_after m e).flying (acts g m (vs g) e)
  spares = spares_of geometry g m (vs g) b r.known e may

  made_more : (a : ℕ) (given : Given) → b.given a ≡ Some given → (booked geometry left m t b e).given a ≡ Some given
  made_more = given_stays geometry left none m t b e may r.known.numbers

  own_more : (a : ℕ) → (more : List Own) × ((booked geometry left m t b e).own a ≡ b.own a ++ more)
  own_more a = log_grows geometry left (e ∷ []) m t b a

  -- what is said of messages, once it is said of those of this entry
  module _ (still : (i : ℕ) (x : Message) → m.said i ≡ Some x → ((net_after m e).said i ≡ Some x) × ((seen_after g m (vs g) e).of i ≡ (vs g).of i)) (next_more : m.next ≤ (net_after m e).next) where
    landed_then : (i : ℕ) (x : Message) → m.said i ≡ Some x → m.flying i ≡ false → (net_after m e).flying i ≡ false
    landed_then i x is f = lands geometry.n m e may i (r.known.messages.number i x is).1 f

    old_change : (i : ℕ) (x : Message) (q : Request) → m.said i ≡ Some x → x.body ≡ ToBrick q → changes_on g q ≡ true → IsChange g (net_after m e).said (seen_after g m (vs g) e).of (seen_after g m (vs g) e).core x.call x.brick i q
    old_change i x q is body on = change_later g m.said (net_after m e).said (vs g).of (seen_after g m (vs g) e).of (vs g).core (seen_after g m (vs g) e).core still later x.call x.brick i x is q (h.changes i x q is body on)

    old_sink : (i : ℕ) (x : Message) (y : Gfid) (n version dirty : ℕ) → m.said i ≡ Some x → x.body ≡ ToBrick (PreOp y n version dirty) → y.0 ≡ g → is_marked version ≡ true → SawSink (seen_after g m (vs g) e).core ((seen_after g m (vs g) e).of i) x.brick (stripped version)
    old_sink i x y n version dirty is body on marks = subst (λ (u : ℕ). SawSink (seen_after g m (vs g) e).core u x.brick (stripped version)) (sym (still i x is).1) (saw_later (vs g).core (seen_after g m (vs g) e).core later ((vs g).of i) x.brick (stripped version) (h.sinks i x y n version dirty is body on marks))

    old_post : ((i j : ℕ) (x y : Message) → (net_after m e).said i ≡ Some x → m.said j ≡ Some y → i < j → m.said i ≡ Some x) → (j : ℕ) (y : Message) (q : Request) → m.said j ≡ Some y → y.body ≡ ToBrick q → is_post_on g q ≡ true → IsPost g (net_after m e).said (seen_after g m (vs g) e).of (done_after m e done) (booked geometry left m t b e) y.call y.brick j q
    old_post old j y q is body on = post_later g m.said (net_after m e).said (vs g).of (seen_after g m (vs g) e).of done (done_after m e done) b (booked geometry left m t b e) still (done_more m e done) y.call y.brick j y is (λ i x s lt. old i j x y s is lt) (made_more y.call) (own_more y.call).0 (own_more y.call).1 together q (h.posts j y q is body on)

    done_landed : (i : ℕ) → done_after m e done i ≡ true → ((net_after m e).flying i ≡ false) × (i < (net_after m e).next)
    done_landed i d = at e refl d
      where
        old : done i ≡ true → ((net_after m e).flying i ≡ false) × (i < (net_after m e).next)
        old d = (lands geometry.n m e may i (h.below i d) (h.landed i d), let lt = h.below i d in omega (arith, lt, next_more))

        executes : (j : ℕ) (version : Option ℕ) (failed : Bool) → e ≡ Executed j version failed → (u : Bool) → done i ≡ u → (w : Bool) → (i == j) ≡ w → (u || (w && said_done m (m.said j) version failed)) ≡ true → ((net_after m e).flying i ≡ false) × (i < (net_after m e).next)
        executes j version failed is true d w z all = old d
        executes j version failed is false d false z all = absurd (cc)
        executes j version failed is false d true z all =
            let may' = subst (λ (y : Entry). MayEnter geometry.n m y) is may in
            let same = equal i j z in
            let number = r.known.messages.number j may'.message may'.at.said in
            (ap (λ (y : Entry). (net_after m y).flying i) is ∙ (ap (λ (f : ℕ → Bool). f i) (executed_flying m j version failed may') ∙ put_here m.flying may'.message.no false i (number.0 ∙ sym same)), let lt = number.1 in omega (arith, lt, same, next_more))

        at : (x : Entry) → e ≡ x → done_after m x done i ≡ true → ((net_after m e).flying i ≡ false) × (i < (net_after m e).next)
        at (Executed j version failed) is d = executes j version failed is (done i) refl (i == j) refl d
        at (Called a client op) is d = old d
        at (Sent msg) is d = old d
        at (Heard j) is d = old d
        at (Lost j) is d = old d
        at (GivenUp client brick j) is d = old d
        at (Stopped c) is d = old d
        at (Returned c) is d = old d
        at (Cut client c) is d = old d
        at (Died client) is d = old d
        at (Yielded client) is d = old d
        at (Torn j count version) is d = old d
        at (Answered a answer) is d = old d
        at (Replaced c removed all) is d = old d

    watched_by : ((i : ℕ) (x : Message) (q : Request) → (net_after m e).said i ≡ Some x → x.body ≡ ToBrick q → changes_on g q ≡ true → IsChange g (net_after m e).said (seen_after g m (vs g) e).of (seen_after g m (vs g) e).core x.call x.brick i q)
        → ((i : ℕ) (x : Message) (y : Gfid) (n version dirty : ℕ) → (net_after m e).said i ≡ Some x → x.body ≡ ToBrick (PreOp y n version dirty) → y.0 ≡ g → is_marked version ≡ true → SawSink (seen_after g m (vs g) e).core ((seen_after g m (vs g) e).of i) x.brick (stripped version))
        → ((i : ℕ) (x : Message) (q : Request) → (net_after m e).said i ≡ Some x → x.body ≡ ToBrick q → is_post_on g q ≡ true → IsPost g (net_after m e).said (seen_after g m (vs g) e).of (done_after m e done) (booked geometry left m t b e) x.call x.brick i q)
        → Watched geometry g (net_after m e) (seen_after g m (vs g) e) (booked geometry left m t b e) (done_after m e done)
    watched_by changes sinks posts = record {
      answered = answered_entry geometry g left m (vs g) t b done e may kept r.known r.locks h.answered;
      landed = λ i d. (done_landed i d).0;
      below = λ i d. (done_landed i d).1;
      changes = changes;
      sinks = sinks;
      posts = posts;
      sink_posts = λ u c le s. ⊎_elim (λ z. came c u (h.sink_posts u c le z)) (λ z. arrived c u z) (spares.posts u c s);
      still = λ c. still_after geometry.n (quorum geometry) most (omega arith) c (acts g m (vs g) e) (vs g).core runs spares.marks h.inv (h.still c);
      inv = inv_after geometry.n (quorum geometry) most (omega arith) (acts g m (vs g) e) (vs g).core runs h.inv;
    }
      where
        came : (c u : ℕ) → Landed g m.said m.flying (vs g).of is_post c u → Landed g (net_after m e).said (net_after m e).flying (seen_after g m (vs g) e).of is_post c u
        came c u = landed_later g m.said (net_after m e).said m.flying (net_after m e).flying (vs g).of (seen_after g m (vs g) e).of c u still landed_then

        arrived : (c u : ℕ) → Landed g m.said (net_after m e).flying (vs g).of is_post c u → Landed g (net_after m e).said (net_after m e).flying (seen_after g m (vs g) e).of is_post c u
        arrived c u = landed_later g m.said (net_after m e).said (net_after m e).flying (net_after m e).flying (vs g).of (seen_after g m (vs g) e).of c u still (λ i x is f. f)

  -- where nothing is said
  watched_same : (net_after m e).said ≡ m.said → (seen_after g m (vs g) e).of ≡ (vs g).of → (net_after m e).next ≡ m.next → Watched geometry g (net_after m e) (seen_after g m (vs g) e) (booked geometry left m t b e) (done_after m e done)
  watched_same said of next = watched_by still more (λ i x q is. old_change still more i x q (back i x is)) (λ i x y n version dirty is. old_sink still more i x y n version dirty (back i x is)) (λ i x q is. old_post still more (λ j l z y s u lt. back j z s) i x q (back i x is))
    where
      back : (i : ℕ) (x : Message) → (net_after m e).said i ≡ Some x → m.said i ≡ Some x
      back i x is = sym (ap (λ (f : ℕ → Option Message). f i) said) ∙ is

      still : (i : ℕ) (x : Message) → m.said i ≡ Some x → ((net_after m e).said i ≡ Some x) × ((seen_after g m (vs g) e).of i ≡ (vs g).of i)
      still i x is = (ap (λ (f : ℕ → Option Message). f i) said ∙ is, ap (λ (f : ℕ → ℕ). f i) of)

      more : m.next ≤ (net_after m e).next
      more = omega (arith, next)

  watched_sent : (msg : Message) → e ≡ Sent msg → Watched geometry g (net_after m e) (seen_after g m (vs g) e) (booked geometry left m t b e) (done_after m e done)
  watched_sent msg is = watched_by still next_more changes sinks posts
    where
      may' : MayEnter geometry.n m (Sent msg)
      may' = subst (λ (z : Entry). MayEnter geometry.n m z) is may

      kept' : EntryKept m b (Sent msg)
      kept' = subst (λ (z : Entry). EntryKept m b z) is kept

      runs' : Runs geometry.n (quorum geometry) (acts g m (vs g) (Sent msg)) (vs g).core
      runs' = subst (λ (z : Entry). Runs geometry.n (quorum geometry) (acts g m (vs g) z) (vs g).core) is runs

      more : Adds m.said (said_after m msg) (vs g).of (of_after g (vs g) msg) msg.no msg
      more = adds geometry.n g m (vs g) msg may'.0 r.known.messages

      still : (i : ℕ) (x : Message) → m.said i ≡ Some x → ((net_after m e).said i ≡ Some x) × ((seen_after g m (vs g) e).of i ≡ (vs g).of i)
      still i x s = subst (λ (z : Entry). ((net_after m z).said i ≡ Some x) × ((seen_after g m (vs g) z).of i ≡ (vs g).of i)) (sym is) (more.still i x s)

      next_more : m.next ≤ (net_after m e).next
      next_more = subst (λ (z : Entry). m.next ≤ (net_after m z).next) (sym is) (omega arith)

      newest : (i : ℕ) (x : Message) → (net_after m e).said i ≡ Some x → ((i ≡ msg.no) × (msg ≡ x)) ⊎ (m.said i ≡ Some x)
      newest i x s = more.newest i x (sym (ap (λ (z : Entry). (net_after m z).said i) is) ∙ s)

      changes : (i : ℕ) (x : Message) (q : Request) → (net_after m e).said i ≡ Some x → x.body ≡ ToBrick q → changes_on g q ≡ true → IsChange g (net_after m e).said (seen_after g m (vs g) e).of (seen_after g m (vs g) e).core x.call x.brick i q
      changes i x q s body on = ⊎_elim
          (λ z. subst (λ (y : Entry). IsChange g (net_after m y).said (seen_after g m (vs g) y).of (seen_after g m (vs g) y).core x.call x.brick i q) (sym is) (subst (λ (y : Message). IsChange g (net_after m (Sent msg)).said (seen_after g m (vs g) (Sent msg)).of (seen_after g m (vs g) (Sent msg)).core y.call y.brick i q) z.1 (subst (λ (j : ℕ). IsChange g (net_after m (Sent msg)).said (seen_after g m (vs g) (Sent msg)).of (seen_after g m (vs g) (Sent msg)).core msg.call msg.brick j q) (sym z.0) (new_change geometry g m (vs g) b done msg may'.0 may'.1 kept' r.known r.shown h.answered runs' q (ap (λ (y : Message). y.body) z.1 ∙ body) on))))
          (λ z. old_change still next_more i x q z body on)
          (newest i x s)

      sinks : (i : ℕ) (x : Message) (y : Gfid) (n version dirty : ℕ) → (net_after m e).said i ≡ Some x → x.body ≡ ToBrick (PreOp y n version dirty) → y.0 ≡ g → is_marked version ≡ true → SawSink (seen_after g m (vs g) e).core ((seen_after g m (vs g) e).of i) x.brick (stripped version)
      sinks i x y n version dirty s body on marks = ⊎_elim
          (λ z. subst (λ (u : Entry). SawSink (seen_after g m (vs g) u).core ((seen_after g m (vs g) u).of i) x.brick (stripped version)) (sym is) (subst (λ (u : Message). SawSink (seen_after g m (vs g) (Sent msg)).core ((seen_after g m (vs g) (Sent msg)).of i) u.brick (stripped version)) z.1 (subst (λ (j : ℕ). SawSink (seen_after g m (vs g) (Sent msg)).core ((seen_after g m (vs g) (Sent msg)).of j) msg.brick (stripped version)) (sym z.0) (new_sink geometry g m (vs g) b done msg may'.0 may'.1 kept' r.known r.shown h.answered runs' y n version dirty (ap (λ (u : Message). u.body) z.1 ∙ body) on marks))))
          (λ z. old_sink still next_more i x y n version dirty z body on marks)
          (newest i x s)

      posts : (i : ℕ) (x : Message) (q : Request) → (net_after m e).said i ≡ Some x → x.body ≡ ToBrick q → is_post_on g q ≡ true → IsPost g (net_after m e).said (seen_after g m (vs g) e).of (done_after m e done) (booked geometry left m t b e) x.call x.brick i q
      posts i x q s body on = ⊎_elim
          (λ z. subst (λ (y : Entry). IsPost g (net_after m y).said (seen_after g m (vs g) y).of (done_after m y done) (booked geometry left m t b y) x.call x.brick i q) (sym is) (subst (λ (y : Message). IsPost g (net_after m (Sent msg)).said (seen_after g m (vs g) (Sent msg)).of done (booked geometry left m t b (Sent msg)) y.call y.brick i q) z.1 (subst (λ (j : ℕ). IsPost g (net_after m (Sent msg)).said (seen_after g m (vs g) (Sent msg)).of done (booked geometry left m t b (Sent msg)) msg.call msg.brick j q) (sym z.0) (mine q (ap (λ (y : Message). y.body) z.1 ∙ body) on))))
          (λ z. old_post still next_more (λ j l y u c d lt. ⊎_elim (λ w. absurd (let f = w.0 in let n = may'.0 in let below = (r.known.messages.number l u d).1 in omega (arith, f, n, below, lt))) (λ w. w) (newest j y c)) i x q z body on)
          (newest i x s)
        where
          mine : (q : Request) → msg.body ≡ ToBrick q → is_post_on g q ≡ true → IsPost g (net_after m (Sent msg)).said (seen_after g m (vs g) (Sent msg)).of done (booked geometry left m t b (Sent msg)) msg.call msg.brick msg.no q
          mine (PostOp x n old new size attr) body on = new_post geometry g m (vs g) b done msg may'.0 may'.1 kept' r.known r.shown h.answered runs' x n old new size attr body (equal x.0 g on)
          mine q body on = absurd (cc)

  pub watched_entry : Watched geometry g (net_after m e) (seen_after g m (vs g) e) (booked geometry left m t b e) (done_after m e done)
  watched_entry = by (says_of g m (vs g) e)
    where
      by : Says g m (vs g) e → Watched geometry g (net_after m e) (seen_after g m (vs g) e) (booked geometry left m t b e) (done_after m e done)
      by (SaysOne msg is) = watched_sent msg is
      by (SaysNone said of next) = watched_same said of next

-- ## As a log begins

pub watched_start : (config : Config) (records : ℕ → Records) (bricks : ℕ → Brick) (tree : Tree) (next g : ℕ) → IsStart config records bricks tree next → Watched config.geometry g (fresh bricks) (begun config records tree next g) no_books (λ i. false)
watched_start config records bricks tree next g start = record {
  answered = record { to_say = tt; sent = λ i x re reply e body. absurd (some_none x (sym e)); calls = λ a given e. absurd (some_none given (sym e)) };
  landed = λ i e. refl;
  below = λ i e. absurd (cc);
  changes = λ i x q e body on. absurd (some_none x (sym e));
  sinks = λ i x y n version dirty e body on marks. absurd (some_none x (sym e));
  posts = λ i x q e body on. absurd (some_none x (sym e));
  sink_posts = λ t c le e. absurd (let lt = first_moment config records bricks tree next g (λ a. a) start t (leftover ((begun config records tree next g).core.moment t) (first_heads config.geometry.n records g c).present (first_heads config.geometry.n records g c).marked ((first_heads config.geometry.n records g c).version == t) e) in omega (arith, lt, le));
  still = λ c a h holds. absurd (some_none a (sym holds));
  inv = inv_begin config.geometry.n (quorum config.geometry) most (omega arith) (tree g).version (first_heads config.geometry.n records g) (is_new config.geometry.n records g) (λ a. a) (starts_linked config records bricks tree next g (λ a. a) positive start).standing;
}
  where
    leftover : (t u w x : Bool) → (t && u && w && x) ≡ true → t ≡ true
    leftover true u w x e = refl
    leftover false u w x e = absurd (cc)

    most : config.geometry.n < quorum config.geometry + quorum config.geometry
    most = let h = config.geometry.majority in omega (arith, h)

    positive : 0 < quorum config.geometry
    positive = let h = config.geometry.least in omega (arith, h)
