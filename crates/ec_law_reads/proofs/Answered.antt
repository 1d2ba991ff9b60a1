-- Replies with chunks tell of what the machine has, entry by entry.
use Rattle.std.proofs.Common.{◌≡◌, ◌≢◌, ◌+◌, ℕ, Bool, true, Option, Some, List, [], ◌∷◌, ◌++◌, map, refl, sym, ◌∙◌, ap, subst, ⊎_elim}
use Rattle.ec_attr.specs.declared.geometry.Geometry.{Geometry}
use Rattle.ec_locks.specs.declared.waiters.Waiter.{Waiter}
use Rattle.ec_store.specs.Put.{put}
use Rattle.ec_brick.specs.Replies.{Replies, Says, Nothing, Is, ShowsChunks, ShowsNames, ShowsGfids}
use Rattle.ec_brick.specs.Step.{cut_off}
use Rattle.ec_conduct.specs.Given.{quorum}
use Rattle.ec_history.specs.Accounts.{Books}
use Rattle.ec_history.specs.IsRun.{IsFirstOwed, May as MayEnter, MayExecute, MaySay}
use Rattle.ec_history.specs.Run.{Net, Owed, after as net_after, executed, executed_by, granted_owed, heard, let_in_owed, out_of, own_owed, owed_after, torn_off}
use Rattle.ec_wire.specs.declared.entry.Entry.{Entry}
use Rattle.ec_wire.specs.declared.entry.Entry.TheVariants.{Answered, Called, Cut, Died, Executed, GivenUp, Heard, Lost, Replaced, Returned, Sent, Stopped, Torn, Yielded}
use Rattle.ec_wire.specs.declared.message.Body.{Body}
use Rattle.ec_wire.specs.declared.message.Body.TheVariants.{ToBrick, ToClient}
use Rattle.ec_wire.specs.declared.message.Message.{Message}
use Rattle.ec_wire.specs.declared.reply.Reply.{Reply}
use Rattle.ec_wire.specs.declared.reply.Reply.TheVariants.{Chunks, Granted}
use Rattle.ec_law_ballots.specs.Guard.{Runs}
use Rattle.ec_law_pieces.specs.File.{File}
use Rattle.ec_law_net.specs.Turns.{View, acts, seen_after, turn_of}
use Rattle.ec_law_turns.specs.Reached.{Reached}
use Rattle.ec_law_turns.specs.Shown.{IsTold, OwedShown}
use Rattle.ec_law_turns.proofs.Basics.{put_there}
use Rattle.ec_law_turns.proofs.Replies.{heard_owed, torn_owed}
use Rattle.ec_law_turns.proofs.Sends.{adds, of_after, said_after}
use Rattle.ec_law_turns.proofs.Steps.{executed_same, heard_same, made_same, torn_same}
use Rattle.ec_law_turns.proofs.Tracks.{Adds}
use Rattle.ec_law_data.specs.Deeds.{file_after}
use Rattle.ec_law_data.specs.Forms.{Coder, Piece, Shape}
use Rattle.ec_law_data.specs.Link.{HasPieces}
use Rattle.ec_law_reads.specs.Units.{of_units}
use Rattle.ec_law_data.specs.Reading.{Plans, Reading}
use Rattle.ec_law_reads.proofs.Giving.{AllGiven, IsRead, given_later, own_read}
use Rattle.ec_law_reads.proofs.Leading.{IsBeside, Leads}

abbrev pub FragmentFile : Type 0
FragmentFile = File ℕ (List (List ℕ)) Piece ℕ Shape

-- which messages were sent to a brick where their turn's PreOp had been done on an unmarked record
abbrev pub late_after : ℕ → View → (ℕ → Bool) → Entry → ℕ → Bool
late_after g v late (Sent msg) = put late msg.no (v.core.pre (turn_of g v msg) msg.brick)
late_after g v late e = late

-- of each reply that is owed
abbrev pub OwedRead : ℕ → (ℕ → Option Message) → (ℕ → ℕ) → (ℕ → Bool) → FragmentFile → List Owed → Type 0
OwedRead g said of late f [] = Unit {0}
OwedRead g said of late f (o ∷ owed) = ((reply : Reply) → Replies o.says (Some reply) → IsRead g said of late f o.re reply) × OwedRead g said of late f owed

-- and of each that was sent
abbrev pub SentRead : ℕ → (ℕ → Option Message) → (ℕ → ℕ) → (ℕ → Bool) → FragmentFile → Type 0
SentRead g said of late f = (i : ℕ) (x : Message) (re : ℕ) (reply : Reply) → said i ≡ Some x → x.body ≡ ToClient re reply → IsRead g said of late f re reply

module _ (g : ℕ) (said : ℕ → Option Message) (of : ℕ → ℕ) (late : ℕ → Bool) (f f' : FragmentFile) (leads : Leads f f') where
  read_later : (re : ℕ) (reply : Reply) → IsRead g said of late f re reply → IsRead g said of late f' re reply
  read_later re reply h x y n first count chunks is body on same so j less = given_later f f' leads (of re) x.brick (first + j) _ (h x y n first count chunks is body on same so j less)

  owed_later : (owed : List Owed) → OwedRead g said of late f owed → OwedRead g said of late f' owed
  owed_later [] h = tt
  owed_later (o ∷ owed) h = (λ reply r. read_later o.re reply (h.0 reply r), owed_later owed h.1)

module _ (g : ℕ) (said : ℕ → Option Message) (of : ℕ → ℕ) (late : ℕ → Bool) (f : FragmentFile) where
  owed_both : (xs ys : List Owed) → OwedRead g said of late f xs → OwedRead g said of late f ys → OwedRead g said of late f (xs ++ ys)
  owed_both [] ys h i = i
  owed_both (x ∷ xs) ys h i = (h.0, owed_both xs ys h.1 i)

  own_owed_read : (msg : Message) (says : Says) → ((reply : Reply) → Replies says (Some reply) → IsRead g said of late f msg.no reply) → OwedRead g said of late f (own_owed msg says)
  own_owed_read msg Nothing h = tt
  own_owed_read msg (Is reply) h = (h, tt)
  own_owed_read msg (ShowsChunks piece first count) h = (h, tt)
  own_owed_read msg (ShowsNames start names) h = (h, tt)
  own_owed_read msg (ShowsGfids start set) h = (h, tt)

  -- who is let in is told so, and no chunks
  let_in_read : (m : Net) (b : ℕ) (ws : List Waiter) → OwedRead g said of late f (map (granted_owed m b) ws)
  let_in_read m b [] = tt
  let_in_read m b (w ∷ ws) = (λ reply granted x y n first count chunks is body on same. absurd (chunks_granted reply chunks granted same), let_in_read m b ws)
    where
      chunks_granted : (reply : Reply) (chunks : List (List ℕ)) → Some reply ≡ Some Granted → reply ≡ Chunks chunks → ⊥
      chunks_granted reply chunks e h = cc

module _ (unit : List (List ℕ) → ℕ → ℕ) (kk : ℕ) (coder : Coder) (plans : Plans ℕ (List (List ℕ)) ℕ Shape) (geometry : Geometry) (g : ℕ) (m : Net) (v : View) (b : Books) (r : Reached geometry g m v b) (f : FragmentFile) (known : IsBeside (of_units unit kk coder) geometry.n (quorum geometry) g m v f) (pieces : HasPieces (of_units unit kk coder) geometry.n g m f) (late : ℕ → Bool) (sure : (i : ℕ) (x : Message) → m.said i ≡ Some x → late i ≡ true → v.core.pre (v.of i) x.brick ≡ true) (owed : OwedRead g m.said v.of late f m.owed) (sent : SentRead g m.said v.of late f) where
  abbrev R : Reading ℕ (List (List ℕ)) Piece ℕ Shape
  R = of_units unit kk coder

  abbrev later : Entry → FragmentFile
  later e = file_after (of_units unit kk coder) plans geometry.n (quorum geometry) g m v f e

  abbrev Goes : Entry → Type 0
  Goes e = Leads f (file_after (of_units unit kk coder) plans geometry.n (quorum geometry) g m v f e)

  -- ## Messages stay

  abbrev OwedThen : Entry → Type 0
  OwedThen e = OwedRead g (net_after m e).said (seen_after g m v e).of (late_after g v late e) (later e) (net_after m e).owed

  abbrev SentThen : Entry → Type 0
  SentThen e = SentRead g (net_after m e).said (seen_after g m v e).of (late_after g v late e) (later e)

  owed_same : (f' : FragmentFile) → Leads f f' → (said : ℕ → Option Message) (of : ℕ → ℕ) (owed' : List Owed) → said ≡ m.said → of ≡ v.of → owed' ≡ m.owed → OwedRead g said of late f' owed'
  owed_same f' leads said of owed' e h i = subst (λ (z : ℕ → Option Message). OwedRead g z of late f' owed') (sym e) (subst (λ (z : ℕ → ℕ). OwedRead g m.said z late f' owed') (sym h) (subst (λ (z : List Owed). OwedRead g m.said v.of late f' z) (sym i) (owed_later g m.said v.of late f f' leads m.owed owed)))

  sent_same : (f' : FragmentFile) → Leads f f' → (said : ℕ → Option Message) (of : ℕ → ℕ) → said ≡ m.said → of ≡ v.of → SentRead g said of late f'
  sent_same f' leads said of e h = subst (λ (z : ℕ → Option Message). SentRead g z of late f') (sym e) (subst (λ (z : ℕ → ℕ). SentRead g m.said z late f') (sym h) (λ i x re reply is body. read_later g m.said v.of late f f' leads re reply (sent i x re reply is body)))

  -- ## A message is sent

  module _ (msg : Message) (next_no : msg.no ≡ m.next) (leads : Leads f (file_after (of_units unit kk coder) plans geometry.n (quorum geometry) g m v f (Sent msg))) where
    more : Adds m.said (said_after m msg) v.of (of_after g v msg) msg.no msg
    more = adds geometry.n g m v msg next_no r.known.messages

    -- of a request that was sent before
    read_then : (re : ℕ) (reply : Reply) → re ≢ msg.no → IsRead g m.said v.of late f re reply → IsRead g (said_after m msg) (of_after g v msg) (late_after g v late (Sent msg)) (later (Sent msg)) re reply
    read_then re reply ne h x y n first count chunks is body on same so =
        subst (λ (t : ℕ). AllGiven (later (Sent msg)) t x.brick first chunks) (sym (put_there v.of msg.no (turn_of g v msg) re ne))
        (read_later g m.said v.of late f (later (Sent msg)) leads re reply h x y n first count chunks (sym (put_there m.said msg.no (Some msg) re ne) ∙ is) body on same (sym (put_there late msg.no (v.core.pre (turn_of g v msg) msg.brick) re ne) ∙ so))

    before : (re : ℕ) (reply : Reply) → IsTold g m.said v.of v.core re reply → re ≢ msg.no
    before re reply told = more.before re told.message told.is

    owed_left : (xs : List Owed) → OwedShown g m.said v.of v.core xs → OwedRead g m.said v.of late f xs → OwedRead g (said_after m msg) (of_after g v msg) (late_after g v late (Sent msg)) (later (Sent msg)) xs
    owed_left [] shown h = tt
    owed_left (o ∷ xs) shown h = (λ reply says. read_then o.re reply (before o.re reply (shown.0 reply says)) (h.0 reply says), owed_left xs shown.1 h.1)

    owed_sent : (z : Body) → MaySay geometry.n m msg z → OwedRead g (said_after m msg) (of_after g v msg) (late_after g v late (Sent msg)) (later (Sent msg)) (owed_after m.owed z)
    owed_sent (ToBrick q) may = owed_left m.owed r.shown.to_say owed
    owed_sent (ToClient re reply) may = by m.owed r.shown.to_say owed
      where
        by : (xs : List Owed) → OwedShown g m.said v.of v.core xs → OwedRead g m.said v.of late f xs → OwedRead g (said_after m msg) (of_after g v msg) (late_after g v late (Sent msg)) (later (Sent msg)) (owed_after xs (ToClient re reply))
        by [] shown h = tt
        by (o ∷ xs) shown h = owed_left xs shown.1 h.1

    first_read : (re : ℕ) (reply : Reply) (xs : List Owed) → OwedShown g m.said v.of v.core xs → OwedRead g m.said v.of late f xs → IsFirstOwed xs msg re reply → IsRead g (said_after m msg) (of_after g v msg) (late_after g v late (Sent msg)) (later (Sent msg)) re reply
    first_read re reply [] shown h is = absurd is
    first_read re reply (o ∷ xs) shown h is = read_then re reply (before re reply (subst (λ (y : ℕ). IsTold g m.said v.of v.core y reply) (sym is.to) (shown.0 reply is.says))) (subst (λ (y : ℕ). IsRead g m.said v.of late f y reply) (sym is.to) (h.0 reply is.says))

    sent_sent : MaySay geometry.n m msg msg.body → SentRead g (said_after m msg) (of_after g v msg) (late_after g v late (Sent msg)) (later (Sent msg))
    sent_sent may i x re reply is body = ⊎_elim
        (λ z. first_read re reply m.owed r.shown.to_say owed (subst (λ (y : Body). MaySay geometry.n m msg y) (ap (λ (y : Message). y.body) z.1 ∙ body) may))
        (λ z. read_then re reply (before re reply (r.shown.sent i x re reply z body)) (sent i x re reply z body))
        (more.newest i x is)

  -- ## A brick executes

  owed_executed : (i : ℕ) (version : Option ℕ) (failed : Bool) → MayExecute m i version failed → Goes (Executed i version failed) → Runs geometry.n (quorum geometry) (acts g m v (Executed i version failed)) v.core → OwedRead g m.said v.of late (later (Executed i version failed)) (executed m (m.said i) version failed).owed
  owed_executed i version failed may leads runs =
      subst (λ (o : Option Message). OwedRead g m.said v.of late (later (Executed i version failed)) (executed m o version failed).owed) (sym may.at.said)
      (subst (λ (z : Body). OwedRead g m.said v.of late (later (Executed i version failed)) (executed_by m may.message z version failed).owed) (sym may.at.body)
      (owed_both g m.said v.of late (later (Executed i version failed)) (own_owed may.message (out_of m may.message may.request version failed).says) (let_in_owed m may.message.brick (out_of m may.message may.request version failed))
      (own_owed_read g m.said v.of late (later (Executed i version failed)) may.message (out_of m may.message may.request version failed).says
      (own_read unit kk coder plans geometry g m v r.linked r.locks r.asks f known r.once pieces late sure i version failed leads runs may))
      (let_in_read g m.said v.of late (later (Executed i version failed)) m may.message.brick (out_of m may.message may.request version failed).lets_in)))

  -- ## Entries

  pub owed_then : (e : Entry) → MayEnter geometry.n m e → Goes e → Runs geometry.n (quorum geometry) (acts g m v e) v.core → OwedThen e
  owed_then (Called a client op) may leads runs = owed_same (later (Called a client op)) leads m.said (seen_after g m v (Called a client op)).of m.owed refl (made_same g v a op).1 refl
  owed_then (Sent msg) may leads runs = owed_sent msg may.0 leads msg.body may.1
  owed_then (Executed i version failed) may leads runs = subst (λ (z : ℕ → Option Message). OwedRead g z v.of late (later (Executed i version failed)) (executed m (m.said i) version failed).owed) (sym (executed_same m (m.said i) version failed).0) (owed_executed i version failed may leads runs)
  owed_then (Heard i) may leads runs = owed_same (later (Heard i)) leads (heard m (m.said i)).said v.of (heard m (m.said i)).owed (heard_same m (m.said i)).0 refl (heard_owed m (m.said i))
  owed_then (Torn i count version) may leads runs = owed_same (later (Torn i count version)) leads (torn_off m (m.said i) count version).said v.of (torn_off m (m.said i) count version).owed (torn_same m (m.said i) count version).0 refl (torn_owed m (m.said i) count version)
  owed_then (Cut client c) may leads runs = let_in_read g m.said v.of late (later (Cut client c)) m c (cut_off (m.brick c) client).lets_in
  owed_then (Lost i) may leads runs = owed_same (later (Lost i)) leads m.said v.of m.owed refl refl refl
  owed_then (GivenUp client brick i) may leads runs = owed_same (later (GivenUp client brick i)) leads m.said v.of m.owed refl refl refl
  owed_then (Stopped c) may leads runs = owed_same (later (Stopped c)) leads m.said v.of m.owed refl refl refl
  owed_then (Returned c) may leads runs = owed_same (later (Returned c)) leads m.said v.of m.owed refl refl refl
  owed_then (Died client) may leads runs = owed_same (later (Died client)) leads m.said v.of m.owed refl refl refl
  owed_then (Yielded client) may leads runs = owed_same (later (Yielded client)) leads m.said v.of m.owed refl refl refl
  owed_then (Answered a answer) may leads runs = owed_same (later (Answered a answer)) leads m.said v.of m.owed refl refl refl
  owed_then (Replaced c removed all) may leads runs = owed_same (later (Replaced c removed all)) leads m.said v.of m.owed refl refl refl

  pub sent_then : (e : Entry) → MayEnter geometry.n m e → Goes e → SentThen e
  sent_then (Called a client op) may leads = sent_same (later (Called a client op)) leads m.said (seen_after g m v (Called a client op)).of refl (made_same g v a op).1
  sent_then (Sent msg) may leads = sent_sent msg may.0 leads may.1
  sent_then (Executed i version failed) may leads = sent_same (later (Executed i version failed)) leads (executed m (m.said i) version failed).said v.of (executed_same m (m.said i) version failed).0 refl
  sent_then (Heard i) may leads = sent_same (later (Heard i)) leads (heard m (m.said i)).said v.of (heard_same m (m.said i)).0 refl
  sent_then (Torn i count version) may leads = sent_same (later (Torn i count version)) leads (torn_off m (m.said i) count version).said v.of (torn_same m (m.said i) count version).0 refl
  sent_then (Cut client c) may leads = sent_same (later (Cut client c)) leads m.said v.of refl refl
  sent_then (Lost i) may leads = sent_same (later (Lost i)) leads m.said v.of refl refl
  sent_then (GivenUp client brick i) may leads = sent_same (later (GivenUp client brick i)) leads m.said v.of refl refl
  sent_then (Stopped c) may leads = sent_same (later (Stopped c)) leads m.said v.of refl refl
  sent_then (Returned c) may leads = sent_same (later (Returned c)) leads m.said v.of refl refl
  sent_then (Died client) may leads = sent_same (later (Died client)) leads m.said v.of refl refl
  sent_then (Yielded client) may leads = sent_same (later (Yielded client)) leads m.said v.of refl refl
  sent_then (Answered a answer) may leads = sent_same (later (Answered a answer)) leads m.said v.of refl refl
  sent_then (Replaced c removed all) may leads = sent_same (later (Replaced c removed all)) leads m.said v.of refl refl
