-- Shapes go on by each entry, and its Takes and Creates owe nothing.
use Rattle.std.proofs.Common.{◌≡◌, ℕ, ◌+◌, ◌^◌, ◌<◌, ◌≤◌, Bool, true, false, not, cond, ◌==◌, ◌&&◌, Option, Some, None, List, [], ◌∷◌, ◌++◌, map, refl, sym, ◌∙◌, ap, subst, arith, ⊎_elim}
use Rattle.std.specs.Prelude.{is_some, nat_lt}
use Rattle.std.specs.Option.{option_map}
use Rattle.ec_attr.specs.Bricks.{count_below}
use Rattle.ec_attr.specs.Marks.{is_marked}
use Rattle.ec_attr.specs.declared.geometry.Geometry.{Geometry}
use Rattle.ec_attr.specs.declared.head.Head.{Head}
use Rattle.ec_store.specs.Put.{put}
use Rattle.ec_store.specs.Records.{Record, head_at}
use Rattle.ec_wire.specs.declared.entry.Entry.{Entry}
use Rattle.ec_wire.specs.declared.entry.Entry.TheVariants.{Called, Sent, Executed, Heard, Lost, GivenUp, Stopped, Returned, Cut, Died, Yielded, Torn, Answered, Replaced}
use Rattle.ec_wire.specs.declared.message.Body.{Body}
use Rattle.ec_wire.specs.declared.message.Body.TheVariants.{ToBrick, ToClient}
use Rattle.ec_wire.specs.declared.message.Message.{Message}
use Rattle.ec_wire.specs.declared.op.Op.{Op}
use Rattle.ec_wire.specs.declared.reply.Reply.{Reply}
use Rattle.ec_wire.specs.declared.request.Request.{Request}
use Rattle.ec_wire.specs.declared.request.Request.TheVariants.{Ask}
use Rattle.ec_locks.specs.declared.ask.Ask.{Ask as Asking}
use Rattle.ec_brick.specs.State.{State as Brick}
use Rattle.ec_brick.specs.Meets.{failing_at}
use Rattle.ec_brick.specs.Step.{cut_off, quiet, started, stopped, torn_off as torn_at}
use Rattle.ec_conduct.specs.Account.{Exchange}
use Rattle.ec_conduct.specs.Given.{Given, quorum}
use Rattle.ec_conduct.specs.Opened.{account}
use Rattle.ec_history.specs.Accounts.{Books, Leaving, booked, given_to}
use Rattle.ec_history.specs.IsRun.{May as MayEnter, MayExecute}
use Rattle.ec_history.specs.Run.{Net, after as net_after, executed, executed_by, heard, heard_by, torn_by, torn_off, torn_out, wiped}
use Rattle.ec_history.specs.Story.{Story}
use Rattle.ec_law_base.specs.State.{Ballot, Head as Seen, State}
use Rattle.ec_law_ballots.specs.Act.{Act, after as after_acts}
use Rattle.ec_law_ballots.specs.Act.Act.{Replace, Stop}
use Rattle.ec_law_ballots.specs.Guard.{Runs}
use Rattle.ec_law_pieces.specs.Deed.{after as after_deeds}
use Rattle.ec_law_pieces.specs.File.{File}
use Rattle.ec_law_shapes.proofs.Facts.{Facts}
use Rattle.ec_law_net.specs.Grants.{IsAskOf}
use Rattle.ec_law_net.specs.Turns.{Maker, View, acts, acts_executed, acts_locks, acts_of_request, acts_torn, seen_after, turn_of}
use Rattle.ec_law_net.proofs.AtBrick.{torn_heads}
use Rattle.ec_law_turns.specs.Follows.{All}
use Rattle.ec_law_turns.specs.Reached.{Reached}
use Rattle.ec_law_turns.specs.Told.{Told}
use Rattle.ec_law_turns.proofs.Basics.{all_map, equal, put_here, put_some, some_none}
use Rattle.ec_law_turns.proofs.Later.{after_later}
use Rattle.ec_law_turns.proofs.Numbered.{heard_given}
use Rattle.ec_law_turns.proofs.Replies.{heard_owed, torn_owed}
use Rattle.ec_law_turns.proofs.Steps.{EntryKept, heard_same, made_same, new_turn, torn_same}
use Rattle.ec_law_turns.proofs.Tracks.{request_is}
use Rattle.ec_law_data.specs.Deeds.{deeds, deeds_executed, deeds_of_request, deeds_torn, dressed, file_after}
use Rattle.ec_law_data.specs.Forms.{Shape}
use Rattle.ec_law_data.specs.Link.{Fits}
use Rattle.ec_law_data.specs.Reading.{Plans, Reading}
use Rattle.ec_law_data.proofs.Cores.{deeds_both, entry_heads}
use Rattle.ec_law_data.proofs.OrderlyDeeds.{unmarking}
use Rattle.ec_law_shapes.specs.Fitting.{AllOweShape, BodyFits, EntryFits, MessageFits}
use Rattle.ec_law_shapes.specs.Shapes.{ShapesFollow, IsShape, OwedAre, ReplyIs, Spread, TellsShape, head_shape, posted_shape, shape_after}
use Rattle.ec_law_shapes.proofs.Asking.{has_then, owes_then}
use Rattle.ec_law_shapes.proofs.Executing.{heres, later as told_later, made_then, owed_then, owes_executed, stayed}
use Rattle.ec_law_shapes.proofs.Owing.{calm_owe, owe_both, torn_owe}
use Rattle.ec_law_shapes.proofs.Quiet.{Calm, Same, calm_acts, calm_if, calm_locks, same_itself, same_then, torn_keeps}
use Rattle.ec_law_shapes.proofs.Replying.{cut_are, owed_later, spread_entry}
use Rattle.ec_law_shapes.proofs.Telling.{is_shape_later, landed_still}

module _ {P V C U : Type 0} (n first g : ℕ) (new : Shape) (m : Net) (v : View) (b : Books) (f : File P V C U Shape) (h : ShapesFollow n first g new m v b f) where
  -- messages, turns and plans stay
  stays : (m' : Net) (v' : View) (b' : Books) (f' : File P V C U Shape) → m'.said ≡ m.said → m'.next ≡ m.next → v'.turn ≡ v.turn → v'.of ≡ v.of → f'.took ≡ f.took → f'.planned ≡ f.planned → f'.becomes ≡ f.becomes → f'.heads ≡ v'.core
      → ((c : ℕ) (hd : Head) → c < n → head_at (m'.brick c).records g ≡ Some hd → is_marked hd.version.content ≡ false → f'.shape c ≡ head_shape hd)
      → Spread (IsShape g m'.said m'.flying v'.of f'.heads f'.told) m' b'
      → ((a : ℕ) (given : Given) (t : ℕ) → b'.given a ≡ Some given → v.turn a ≡ Some t → b.given a ≡ Some given)
      → (first ≤ g → f'.heads.making ≡ true → f'.shape_of 0 ≡ new)
      → ((t : ℕ) → 0 < (v.core.ballot t).number → 0 < (v'.core.ballot t).number)
      → ShapesFollow n first g new m' v' b' f'
  stays m' v' b' f' said next turn of took planned becomes heads here told given made grows = record {
    heads = heads;
    here = here;
    told = told;
    plans = λ a x t is has now.
        let old = sym (ap (λ (z : ℕ → Option ℕ). z a) turn) ∙ has in
        ap (λ (z : ℕ → Shape). z t) becomes ∙ (h.plans a x t (given a x t is old) old (sym (ap (λ (z : ℕ → Bool). z t) planned) ∙ now) ∙ ap (λ (z : ℕ → Shape). shape_after x.op (z t)) (sym took));
    posts = λ i x y k at version size attr is body on.
        let o = h.posts i x y k at version size attr (sym (ap (λ (z : ℕ → Option Message). z i) said) ∙ is) body on in
        subst (λ (t : ℕ). (f'.planned t ≡ true) × (f'.becomes t ≡ posted_shape size attr (f'.took t).attr)) (sym (ap (λ (z : ℕ → ℕ). z i) of)) (ap (λ (z : ℕ → Bool). z (v.of i)) planned ∙ o.0, ap (λ (z : ℕ → Shape). z (v.of i)) becomes ∙ (o.1 ∙ ap (λ (z : ℕ → Shape). posted_shape size attr (z (v.of i)).attr) (sym took)));
    numbered = λ t now. grows t (h.numbered t (sym (ap (λ (z : ℕ → Bool). z t) planned) ∙ now));
    fresh = λ t le. ap (λ (z : ℕ → Bool). z t) planned ∙ h.fresh t (subst (λ (z : ℕ). 2 ^ 61 + z ≤ t) next le);
    made = λ le making. made le (ap (λ (s : State). s.making) heads ∙ making);
  }

-- the head of a brick of which the records of other gfids alone change, or some are lost
put_heads : (g : ℕ) (brick : ℕ → Brick) (c : ℕ) (new : Brick) → ((hd : Head) → head_at new.records g ≡ Some hd → head_at (brick c).records g ≡ Some hd) → (d : ℕ) (hd : Head) → head_at (put brick c new d).records g ≡ Some hd → head_at (brick d).records g ≡ Some hd
put_heads g brick c new old d hd e = at (d == c) refl e
  where
    at : (t : Bool) → (d == c) ≡ t → head_at (cond t new (brick d)).records g ≡ Some hd → head_at (brick d).records g ≡ Some hd
    at true z w = ap (λ (y : ℕ). head_at (brick y).records g) (equal d c z) ∙ old hd w
    at false z w = w

wiped_heads : (g removed : ℕ) (all : Bool) (s : Brick) (hd : Head) → head_at (wiped removed all s.records) g ≡ Some hd → head_at s.records g ≡ Some hd
wiped_heads g removed true s hd e = absurd (cc)
wiped_heads g removed false s hd e = at (nat_lt (count_below g (λ x. is_some (s.records x))) removed) e
  where
    at : (t : Bool) → option_map (λ (r : Record). r.head) (cond t None (s.records g)) ≡ Some hd → head_at s.records g ≡ Some hd
    at true w = absurd (cc)
    at false w = w

module _ {P V C U : Type 0} (R : Reading P V C U Shape) (fits : Fits R) (plans : Plans P V U Shape) (geometry : Geometry) (g first : ℕ) (left : ℕ → Leaving) (m : Net) (v : View) (t : Story) (b : Books) (f : File P V C U Shape) (r : Reached geometry g m v b) (h : ShapesFollow geometry.n first g R.new m v b f) (both : Facts geometry.n (quorum geometry) f) where
  abbrev n : ℕ
  n = geometry.n

  abbrev k' : ℕ
  k' = quorum geometry

  abbrev After : Entry → File P V C U Shape
  After e = file_after R plans n k' g m v f e

  abbrev Has : Entry → Type 0
  Has e = ShapesFollow geometry.n first g R.new (net_after m e) (seen_after g m v e) (booked geometry left m t b e) (After e)

  abbrev Owe : Entry → Type 0
  Owe e = AllOweShape R.form n k' (deeds R plans n k' g m v f e) f

  -- ## Entries that leave shapes

  abbrev Old : ℕ → Reply → Type 0
  Old = IsShape g m.said m.flying v.of f.heads f.told

  abbrev Now : Entry → ℕ → Reply → Type 0
  Now e = IsShape g (net_after m e).said (net_after m e).flying (seen_after g m v e).of (After e).heads (After e).told

  -- a ballot stays
  grows : (es : List Act) → Runs n k' es v.core → (u : ℕ) → 0 < (v.core.ballot u).number → 0 < ((after_acts es v.core).ballot u).number
  grows es runs u lt = subst (λ (p : Ballot). 0 < p.number) (sym ((after_later n k' es v.core runs).ballot u lt)) lt

  module _ (e : Entry) (may : MayEnter geometry.n m e) (runs : Runs n k' (acts g m v e) v.core) (same : Same f (After e)) (said : (net_after m e).said ≡ m.said) (next : (net_after m e).next ≡ m.next) (turn : (seen_after g m v e).turn ≡ v.turn) (of : (seen_after g m v e).of ≡ v.of) (landed : (i : ℕ) → m.flying i ≡ false → (net_after m e).flying i ≡ false) (bricks : (c : ℕ) (hd : Head) → head_at ((net_after m e).brick c).records g ≡ Some hd → head_at (m.brick c).records g ≡ Some hd) where
    later : (i : ℕ) (reply : Reply) → Old i reply → Now e i reply
    later = is_shape_later g m.said (net_after m e).said m.flying (net_after m e).flying v.of (seen_after g m v e).of f.heads (After e).heads f.told (After e).told
        (λ i x is down. (ap (λ (z : ℕ → Option Message). z i) said ∙ is, landed i down, ap (λ (z : ℕ → ℕ). z i) of))
        (λ i x y l is down body on. (ap (λ (z : ℕ → ℕ → Option Seen). z (v.of i) x.brick) same.seen, ap (λ (z : ℕ → ℕ → Shape). z (v.of i) x.brick) same.told))

    still_owed : (net_after m e).owed ≡ m.owed → OwedAre (Now e) (net_after m e).owed
    still_owed z = subst (OwedAre (Now e)) (sym z) (owed_later Old (Now e) later m.owed h.told.to_say)

    quietly : OwedAre (Now e) (net_after m e).owed → ((a : ℕ) (given : Given) (u : ℕ) → (booked geometry left m t b e).given a ≡ Some given → v.turn a ≡ Some u → b.given a ≡ Some given) → Has e
    quietly owed given = stays geometry.n first g R.new m v b f h (net_after m e) (seen_after g m v e) (booked geometry left m t b e) (After e) said next turn of same.took same.planned same.becomes (entry_heads R plans n k' g m v f e h.heads)
        (λ c hd lt z clear. ap (λ (y : ℕ → Shape). y c) same.shape ∙ h.here c hd lt (bricks c hd z) clear)
        (spread_entry Old (Now e) later geometry left m t b r.known.numbers h.told e may owed)
        given
        (λ le making. ap (λ (y : ℕ → Shape). y 0) same.shape_of ∙ h.made le (ap (λ (s : State). s.making) (sym h.heads) ∙ (sym same.making ∙ making)))
        (grows (acts g m v e) runs)

  -- acts that are calm, after no data
  calmly : (es : List Act) → Calm es → Same f (after_deeds R.form n k' ([] ++ map (dressed R plans n k' g) es) f)
  calmly es calm = calm_acts R plans n k' g es f calm

  calm_torn : (o : Option Message) → Calm (acts_torn o)
  calm_torn None = tt
  calm_torn (Some msg) = (refl, tt)

  torn_file : (i count : ℕ) (version : Option ℕ) → Same f (After (Torn i count version))
  torn_file i count version =
      let keeps = torn_keeps R plans n k' g f m v (m.said i) count version in
      subst (λ (x : File P V C U Shape). Same f x) (sym (deeds_both R.form n k' (deeds_torn R plans n k' g m v (m.said i) count version) (map (dressed R plans n k' g) (acts_torn (m.said i))) f))
      (same_then f (after_deeds R.form n k' (deeds_torn R plans n k' g m v (m.said i) count version) f) (after_deeds R.form n k' (map (dressed R plans n k' g) (acts_torn (m.said i))) (after_deeds R.form n k' (deeds_torn R plans n k' g m v (m.said i) count version) f)) keeps.0 (calm_acts R plans n k' g (acts_torn (m.said i)) (after_deeds R.form n k' (deeds_torn R plans n k' g m v (m.said i) count version) f) (calm_torn (m.said i))))

  heard_flying : (o : Option Message) (i : ℕ) → m.flying i ≡ false → (heard m o).flying i ≡ false
  heard_flying None i e = e
  heard_flying (Some msg) i e = body msg.body
    where
      body : (z : Body) → (heard_by m msg z).flying i ≡ false
      body (ToBrick q) = e
      body (ToClient re reply) = landed_still m.flying msg.no i e

  heard_brick : (o : Option Message) → (heard m o).brick ≡ m.brick
  heard_brick None = refl
  heard_brick (Some msg) = body msg.body
    where
      body : (z : Body) → (heard_by m msg z).brick ≡ m.brick
      body (ToBrick q) = refl
      body (ToClient re reply) = refl

  torn_flying : (o : Option Message) (count : ℕ) (version : Option ℕ) (i : ℕ) → m.flying i ≡ false → (torn_off m o count version).flying i ≡ false
  torn_flying None count version i e = e
  torn_flying (Some msg) count version i e = body msg.body
    where
      body : (z : Body) → (torn_by m msg z count version).flying i ≡ false
      body (ToBrick q) = landed_still m.flying msg.no i e
      body (ToClient re reply) = e

  torn_brick : (o : Option Message) (count : ℕ) (version : Option ℕ) (c : ℕ) (hd : Head) → head_at ((torn_off m o count version).brick c).records g ≡ Some hd → head_at (m.brick c).records g ≡ Some hd
  torn_brick None count version c hd e = e
  torn_brick (Some msg) count version c hd e = body msg.body e
    where
      kept : (q : Request) (up : Bool) → (y : Head) → head_at (cond up (torn_at (m.brick msg.brick) (failing_at version) q count) (quiet (m.brick msg.brick))).brick.records g ≡ Some y → head_at (m.brick msg.brick).records g ≡ Some y
      kept q true y w = sym (torn_heads g (m.brick msg.brick) (failing_at version) q count) ∙ w
      kept q false y w = w

      body : (z : Body) → head_at ((torn_by m msg z count version).brick c).records g ≡ Some hd → head_at (m.brick c).records g ≡ Some hd
      body (ToBrick q) w = put_heads g m.brick msg.brick (torn_out m msg q count version).brick (λ y z. kept q (m.brick msg.brick).up y z) c hd w
      body (ToClient re reply) w = w

  -- an ask tells nothing of shapes
  ask_told : (e : Entry) (c : ℕ) → (net_after m e).said ≡ m.said → ((i : ℕ) → m.flying i ≡ false → (net_after m e).flying i ≡ false) → (s : Asking) → IsAskOf m c s → (reply : Reply) → Now e s.number reply
  ask_told e c said landed s is reply = record { message = is.message; is = ap (λ (z : ℕ → Option Message). z s.number) said ∙ is.said; landed = landed s.number is.landed; at = λ z body. by z (request_is z (Ask s.gfid s.domain s.kind) (sym body ∙ is.body)) }
    where
      by : (z : Request) → z ≡ Ask s.gfid s.domain s.kind → TellsShape g (After e).heads (After e).told ((seen_after g m v e).of s.number) is.message.brick z reply
      by z w = subst (λ (y : Request). TellsShape g (After e).heads (After e).told ((seen_after g m v e).of s.number) is.message.brick y reply) (sym w) tt

  -- ## A call that begins

  called_given : (x client : ℕ) (op : Op) → x ≡ m.calls + 1 → (a : ℕ) (given : Given) (u : ℕ) → put b.given x (Some (given_to geometry t b client op)) a ≡ Some given → v.turn a ≡ Some u → b.given a ≡ Some given
  called_given x client op e a given u is has = ⊎_elim (λ z. absurd (let none = new_turn geometry g m v b r.known a (let w = z.0 in omega (arith, w, e)) in some_none u (sym has ∙ none))) (λ z. z.1) (put_some b.given x (Some (given_to geometry t b client op)) a given is)

  called_heads : (a client : ℕ) (op : Op) (c : ℕ) (hd : Head) → head_at ((net_after m (Called a client op)).brick c).records g ≡ Some hd → head_at (m.brick c).records g ≡ Some hd
  called_heads a client op c hd e = e

  -- ## An execution

  module _ (i : ℕ) (version : Option ℕ) (failed : Bool) (may : MayExecute m i version failed) (new_gfid : (x : Maker) → v.maker ≡ Some x → first ≤ g) (fitting : MessageFits R plans g (m.said i)) (runs : Runs n k' (acts g m v (Executed i version failed)) v.core) where
    fitting' : BodyFits R plans g (ToBrick may.request)
    fitting' = subst (BodyFits R plans g) may.at.body (subst (MessageFits R plans g) may.at.said fitting)

    runs' : Runs n k' (acts_of_request g m v may.message (ToBrick may.request) version failed) v.core
    runs' = subst (λ (z : Body). Runs n k' (acts_of_request g m v may.message z version failed) v.core) may.at.body (subst (λ (o : Option Message). Runs n k' (acts_executed g m v o version failed) v.core) may.at.said runs)

    abbrev file_of : Option Message → File P V C U Shape
    file_of o = after_deeds R.form n k' (deeds_executed R plans n k' g m v f o version failed ++ map (dressed R plans n k' g) (acts_executed g m v o version failed)) f

    abbrev file_by : Body → File P V C U Shape
    file_by z = after_deeds R.form n k' (deeds_of_request R plans n k' g m v f may.message z version failed ++ map (dressed R plans n k' g) (acts_of_request g m v may.message z version failed)) f

    abbrev HasOf : Option Message → Type 0
    HasOf o = ShapesFollow geometry.n first g R.new (executed m o version failed) (record v { core = after_acts (acts_executed g m v o version failed) v.core }) b (file_of o)

    abbrev HasBy : Body → Type 0
    HasBy z = ShapesFollow geometry.n first g R.new (executed_by m may.message z version failed) (record v { core = after_acts (acts_of_request g m v may.message z version failed) v.core }) b (file_by z)

    heads_by : (file_by (ToBrick may.request)).heads ≡ after_acts (acts_of_request g m v may.message (ToBrick may.request) version failed) v.core
    heads_by = subst (λ (z : Body). (file_by z).heads ≡ after_acts (acts_of_request g m v may.message z version failed) v.core) may.at.body (subst (λ (o : Option Message). (file_of o).heads ≡ after_acts (acts_executed g m v o version failed) v.core) may.at.said (entry_heads R plans n k' g m v f (Executed i version failed) h.heads))

    abbrev NowBy : ℕ → Reply → Type 0
    NowBy = IsShape g m.said (executed_by m may.message (ToBrick may.request) version failed).flying v.of (file_by (ToBrick may.request)).heads (file_by (ToBrick may.request)).told

    spread_by : Spread NowBy (executed_by m may.message (ToBrick may.request) version failed) b
    spread_by = record {
      to_say = owed_then R plans geometry g first m v b f r h both i version failed may new_gfid fitting';
      sent = λ j x re reply is body. told_later R plans geometry g first m v b f r h both i version failed may new_gfid fitting' re reply (h.told.sent j x re reply is body);
      heard = λ a given is y c. heard_later (((account given (b.own a)).on y).place c).window (h.told.heard a given is y c);
    }
      where
        heard_later : (es : List Exchange) → All (ReplyIs Old) es → All (ReplyIs NowBy) es
        heard_later es k = all_map (ReplyIs Old) (ReplyIs NowBy) (λ x z reply is. told_later R plans geometry g first m v b f r h both i version failed may new_gfid fitting' x.number reply (z reply is)) es k

    has_by : HasBy (ToBrick may.request)
    has_by =
        let s = stayed R plans geometry g first m v b f r h both i version failed may new_gfid fitting' in
        stays geometry.n first g R.new m v b f h (executed_by m may.message (ToBrick may.request) version failed) (record v { core = after_acts (acts_of_request g m v may.message (ToBrick may.request) version failed) v.core }) b (file_by (ToBrick may.request)) refl refl refl refl s.took s.planned s.becomes heads_by
        (λ c hd lt e clear. heres R plans geometry g first m v b f r h both i version failed may new_gfid fitting' runs' c hd lt e clear)
        spread_by
        (λ a given u is has. is)
        (made_then R plans geometry g first m v b f r h both i version failed may new_gfid fitting')
        (grows (acts_of_request g m v may.message (ToBrick may.request) version failed) runs')

    has_executed : Has (Executed i version failed)
    has_executed = subst HasOf (sym may.at.said) (subst HasBy (sym may.at.body) has_by)

    owe_executed : Owe (Executed i version failed)
    owe_executed =
        subst (λ (o : Option Message). AllOweShape R.form n k' (deeds_executed R plans n k' g m v f o version failed ++ map (dressed R plans n k' g) (acts_executed g m v o version failed)) f) (sym may.at.said)
        (subst (λ (z : Body). AllOweShape R.form n k' (deeds_of_request R plans n k' g m v f may.message z version failed ++ map (dressed R plans n k' g) (acts_of_request g m v may.message z version failed)) f) (sym may.at.body)
        (owes_executed R plans geometry g first m v b f r h both i version failed may new_gfid fitting'))

  -- ## Every entry

  pub has_entry : (e : Entry) → MayEnter geometry.n m e → EntryKept m b e → Runs n k' (acts g m v e) v.core → Reached geometry g (net_after m e) (seen_after g m v e) (booked geometry left m t b e) → ((x : Maker) → v.maker ≡ Some x → first ≤ g) → EntryFits R plans g m v b f e → Has e
  has_entry (Called a client op) may kept runs r' new_gfid fitting = let o = made_same g v a op in quietly (Called a client op) may runs (same_itself f) refl refl o.0 o.1 (λ i e. e) (λ c hd e. e) (still_owed (Called a client op) may runs (same_itself f) refl refl o.0 o.1 (λ i e. e) (λ c hd e. e) refl) (called_given a client op may.0)
  has_entry (Sent msg) may kept runs r' new_gfid fitting = has_then R fits plans geometry g first m v b f r h both msg may.0 may.1 kept runs
      (λ q body. subst (λ (u : ℕ). Told geometry.n (quorum geometry) g (net_after m (Sent msg)).said (seen_after g m v (Sent msg)).of (seen_after g m v (Sent msg)).core u msg.brick q) (put_here v.of msg.no (turn_of g v msg) msg.no refl) (r'.shown.asked msg.no msg q (put_here m.said msg.no (Some msg) msg.no refl) body))
      fitting left t (entry_heads R plans n k' g m v f (Sent msg) h.heads)
  has_entry (Executed i version failed) may kept runs r' new_gfid fitting = has_executed i version failed may new_gfid fitting runs
  has_entry (Heard i) may kept runs r' new_gfid fitting =
      let o = heard_same m (m.said i) in
      let bricks = λ (c : ℕ) (hd : Head) (e : head_at ((heard m (m.said i)).brick c).records g ≡ Some hd). ap (λ (z : ℕ → Brick). head_at (z c).records g) (sym (heard_brick (m.said i))) ∙ e in
      quietly (Heard i) may runs (same_itself f) o.0 o.1 refl refl (heard_flying (m.said i)) bricks (still_owed (Heard i) may runs (same_itself f) o.0 o.1 refl refl (heard_flying (m.said i)) bricks (heard_owed m (m.said i))) (λ a given u is has. sym (ap (λ (z : ℕ → Option Given). z a) (heard_given geometry m b r.known.numbers (m.said i))) ∙ is)
  has_entry (Lost i) may kept runs r' new_gfid fitting = quietly (Lost i) may runs (same_itself f) refl refl refl refl (landed_still m.flying i) (λ c hd e. e) (still_owed (Lost i) may runs (same_itself f) refl refl refl refl (landed_still m.flying i) (λ c hd e. e) refl) (λ a given u is has. is)
  has_entry (GivenUp client brick i) may kept runs r' new_gfid fitting = quietly (GivenUp client brick i) may runs (same_itself f) refl refl refl refl (λ i e. e) (λ c hd e. e) (still_owed (GivenUp client brick i) may runs (same_itself f) refl refl refl refl (λ i e. e) (λ c hd e. e) refl) (λ a given u is has. is)
  has_entry (Stopped x) may kept runs r' new_gfid fitting =
      let same = calmly (Stop x ∷ []) (refl, tt) in
      let bricks = put_heads g m.brick x (stopped (m.brick x)) (λ hd e. e) in
      quietly (Stopped x) may runs same refl refl refl refl (λ i e. e) bricks (still_owed (Stopped x) may runs same refl refl refl refl (λ i e. e) bricks refl) (λ a given u is has. is)
  has_entry (Returned x) may kept runs r' new_gfid fitting =
      let bricks = put_heads g m.brick x (started (m.brick x)) (λ hd e. e) in
      quietly (Returned x) may runs (same_itself f) refl refl refl refl (λ i e. e) bricks (still_owed (Returned x) may runs (same_itself f) refl refl refl refl (λ i e. e) bricks refl) (λ a given u is has. is)
  has_entry (Cut client x) may kept runs r' new_gfid fitting =
      let same = calmly (acts_locks g m v x (m.brick x).asks (cut_off (m.brick x) client).brick.asks) (calm_locks g m v x (m.brick x).asks (cut_off (m.brick x) client).brick.asks) in
      let bricks = put_heads g m.brick x (cut_off (m.brick x) client).brick (λ hd e. e) in
      quietly (Cut client x) may runs same refl refl refl refl (λ i e. e) bricks (cut_are (Now (Cut client x)) m x (ask_told (Cut client x) x refl (λ i e. e)) client (m.brick x) (r.locks.asks x may.0)) (λ a given u is has. is)
  has_entry (Died client) may kept runs r' new_gfid fitting = quietly (Died client) may runs (same_itself f) refl refl refl refl (λ i e. e) (λ c hd e. e) (still_owed (Died client) may runs (same_itself f) refl refl refl refl (λ i e. e) (λ c hd e. e) refl) (λ a given u is has. is)
  has_entry (Yielded client) may kept runs r' new_gfid fitting = quietly (Yielded client) may runs (same_itself f) refl refl refl refl (λ i e. e) (λ c hd e. e) (still_owed (Yielded client) may runs (same_itself f) refl refl refl refl (λ i e. e) (λ c hd e. e) refl) (λ a given u is has. is)
  has_entry (Torn i count version) may kept runs r' new_gfid fitting =
      let o = torn_same m (m.said i) count version in
      quietly (Torn i count version) may runs (torn_file i count version) o.0 o.1 refl refl (torn_flying (m.said i) count version) (torn_brick (m.said i) count version) (still_owed (Torn i count version) may runs (torn_file i count version) o.0 o.1 refl refl (torn_flying (m.said i) count version) (torn_brick (m.said i) count version) (torn_owed m (m.said i) count version)) (λ a given u is has. is)
  has_entry (Answered x answer) may kept runs r' new_gfid fitting = quietly (Answered x answer) may runs (same_itself f) refl refl refl refl (λ i e. e) (λ c hd e. e) (still_owed (Answered x answer) may runs (same_itself f) refl refl refl refl (λ i e. e) (λ c hd e. e) refl) (λ a given u is has. is)
  has_entry (Replaced x removed all) may kept runs r' new_gfid fitting =
      let same = calmly (acts g m v (Replaced x removed all)) (calm_if (is_some ((m.brick x).records g) && not (is_some (wiped removed all (m.brick x).records g))) (Replace x ∷ []) [] (refl, tt) tt) in
      let bricks = put_heads g m.brick x (record (m.brick x) { records = wiped removed all (m.brick x).records }) (λ hd e. wiped_heads g removed all (m.brick x) hd e) in
      quietly (Replaced x removed all) may runs same refl refl refl refl (λ i e. e) bricks (still_owed (Replaced x removed all) may runs same refl refl refl refl (λ i e. e) bricks refl) (λ a given u is has. is)

  pub owe_entry : (e : Entry) → MayEnter geometry.n m e → EntryKept m b e → Runs n k' (acts g m v e) v.core → Reached geometry g (net_after m e) (seen_after g m v e) (booked geometry left m t b e) → ((x : Maker) → v.maker ≡ Some x → first ≤ g) → EntryFits R plans g m v b f e → Owe e
  owe_entry (Sent msg) may kept runs r' new_gfid fitting = owes_then R fits plans geometry g first m v b f r h both msg may.0 may.1 kept runs
      (λ q body. subst (λ (u : ℕ). Told geometry.n (quorum geometry) g (net_after m (Sent msg)).said (seen_after g m v (Sent msg)).of (seen_after g m v (Sent msg)).core u msg.brick q) (put_here v.of msg.no (turn_of g v msg) msg.no refl) (r'.shown.asked msg.no msg q (put_here m.said msg.no (Some msg) msg.no refl) body))
      fitting
      (λ q body. unmarking g (net_after m (Sent msg)).said (seen_after g m v (Sent msg)).of (seen_after g m v (Sent msg)).core.moment msg.call msg.brick msg.no q (r'.known.sound msg.no msg q (put_here m.said msg.no (Some msg) msg.no refl) body))
  owe_entry (Executed i version failed) may kept runs r' new_gfid fitting = owe_executed i version failed may new_gfid fitting runs
  owe_entry (Called a client op) may kept runs r' new_gfid fitting = tt
  owe_entry (Heard i) may kept runs r' new_gfid fitting = tt
  owe_entry (Lost i) may kept runs r' new_gfid fitting = tt
  owe_entry (GivenUp client brick i) may kept runs r' new_gfid fitting = tt
  owe_entry (Stopped x) may kept runs r' new_gfid fitting = (tt, tt)
  owe_entry (Returned x) may kept runs r' new_gfid fitting = tt
  owe_entry (Cut client x) may kept runs r' new_gfid fitting = calm_owe R plans n k' g (acts_locks g m v x (m.brick x).asks (cut_off (m.brick x) client).brick.asks) f (calm_locks g m v x (m.brick x).asks (cut_off (m.brick x) client).brick.asks)
  owe_entry (Died client) may kept runs r' new_gfid fitting = tt
  owe_entry (Yielded client) may kept runs r' new_gfid fitting = tt
  owe_entry (Torn i count version) may kept runs r' new_gfid fitting = owe_both R.form n k' (deeds_torn R plans n k' g m v (m.said i) count version) (map (dressed R plans n k' g) (acts_torn (m.said i))) f (torn_owe R plans n k' g f m v (m.said i) count version) (calm_owe R plans n k' g (acts_torn (m.said i)) (after_deeds R.form n k' (deeds_torn R plans n k' g m v (m.said i) count version) f) (calm_torn (m.said i)))
  owe_entry (Answered x answer) may kept runs r' new_gfid fitting = tt
  owe_entry (Replaced x removed all) may kept runs r' new_gfid fitting = calm_owe R plans n k' g (acts g m v (Replaced x removed all)) f (calm_if (is_some ((m.brick x).records g) && not (is_some (wiped removed all (m.brick x).records g))) (Replace x ∷ []) [] (refl, tt) tt)
