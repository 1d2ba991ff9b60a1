-- A write is cut short: its entry, and the cluster after it.
use Rattle.std.proofs.Common.{◌≡◌, ◌≢◌, ⊎_elim, ℕ, true, false, Option, Some, None, List, [], ◌∷◌, ◌++◌, length, refl, sym, ◌∙◌, ap, subst, arith}
use Rattle.std.proofs.lemmas.Option.{slice_get_cases, slice_get_within}
use Rattle.std.specs.List.{All}
use Rattle.std.specs.Prelude.{is_some, slice_get, slice_index}
use Rattle.ec_brick.specs.KnownLaws.{IsTornLess, KnownLaws, torn_at}
use Rattle.ec_brick.specs.State.{State, asks_of, state}
use Rattle.ec_brick.specs.declared.brick.Brick.{Brick}
use Rattle.ec_history.specs.IsRun.{HasBytes, IsAt, May, MayTear}
use Rattle.ec_history.specs.Run.{Net, after, torn_by, torn_off}
use Rattle.ec_store.specs.Put.{put}
use Rattle.ec_store.specs.Records.{Records}
use Rattle.ec_wire.specs.Flight.{in_flight, next_number}
use Rattle.ec_wire.specs.Lanes.{with_message}
use Rattle.ec_wire.specs.declared.entry.Entry.{Entry}
use Rattle.ec_wire.specs.declared.entry.Entry.TheVariants.{Torn}
use Rattle.ec_wire.specs.declared.message.Body.TheVariants.{ToBrick}
use Rattle.ec_wire.specs.declared.message.Message.{Message}
use Rattle.ec_wire.specs.declared.request.Request.{Request}
use Rattle.ec_wire.specs.declared.wire.Wire.{Wire}
use Rattle.ec_cluster.proofs.Advancing.{matches_as, sound_as}
use Rattle.ec_cluster.proofs.Matching.{flies_taken, matches_brick, records_at}
use Rattle.ec_cluster.proofs.Saying.{either, said_more}
use Rattle.ec_cluster.proofs.Soundness.{sound_bricks, sound_quiet, sound_taken}
use Rattle.ec_cluster.specs.Matches.{IsBrick, Matches}
use Rattle.ec_cluster.specs.Said.{said_in}
use Rattle.ec_cluster.specs.Sound.{IsAsked, IsSound}
use Rattle.ec_cluster.specs.Tears.{Tears, TearsBrick}
use Rattle.ec_cluster.specs.Views.{bricks_of, flight, is_brick_up, is_up_at, log_of, next_of, places_of, size_of}
use Rattle.ec_cluster.specs.declared.cluster.Cluster.{Cluster}

none_asked : (said : ℕ → Option Message) (b : ℕ) → All (IsAsked said b) []
none_asked said b = λ i a lt. absurd (omega arith)

-- s before, t after the brick has written the first bytes of message `num` and stopped, and the entry is in the log
module _ (Told : Type 0) (laws : KnownLaws) (s t : Cluster) (wire : Wire) (log : List Entry) (u : Cluster) (before now : List Records) (fb fa : List ℕ) (num count : ℕ) (message : Message) (q : Request) (version : Option ℕ) (sound : IsSound s) (there : flight s num ≡ Some message) (body : message.body ≡ ToBrick q) (up : is_up_at s message.brick ≡ true) (has : HasBytes q count) (gone : in_flight wire ≡ with_message (flight s) num None) (number : next_number wire ≡ next_of s) (a : TearsBrick Told (record s { wire = wire; log = log }) u before now fb fa message q count version) (is : t ≡ record u { log = log_of s ++ Torn num count version ∷ [] }) where
  abbrev entry : Entry
  entry = Torn num count version

  quiet_entry : said_in (log_of s ++ entry ∷ []) ≡ said_in (log_of s)
  quiet_entry = said_more (log_of s) entry

  own : message.no ≡ num
  own = (sound.flies num message there).own

  bricks_are : bricks_of t ≡ bricks_of u
  bricks_are = ap bricks_of is

  flight_is : flight t ≡ with_message (flight s) num None
  flight_is = ap flight is ∙ (ap (λ (x : Cluster). in_flight x.wire) a.kept ∙ gone)

  next_is : next_of t ≡ next_of s
  next_is = ap next_of is ∙ (ap (λ (x : Cluster). next_number x.wire) a.kept ∙ number)

  log_is : log_of t ≡ log_of s ++ entry ∷ []
  log_is = ap log_of is

  places_are : places_of t ≡ places_of s
  places_are = ap places_of is ∙ ap (λ (x : Cluster). places_of x) a.kept

  no_asks : asks_of a.new ≡ []
  no_asks = ap (λ (x : State). x.asks) (a.stops (λ g. None))

  asks_now : (b : ℕ) (k : Brick) → slice_get (bricks_of u) b ≡ Some k → All (IsAsked (said_in (log_of s)) b) (asks_of k)
  asks_now b k at = ⊎_elim
      (λ (z : b ≡ message.brick). let k_is : k ≡ a.new = (let h : Some k ≡ Some a.new = sym at ∙ (ap (slice_get (bricks_of u)) z ∙ a.is) in cc) in subst (All (IsAsked (said_in (log_of s)) b)) (sym (ap asks_of k_is ∙ no_asks)) (none_asked (said_in (log_of s)) b))
      (λ (z : b ≢ message.brick). sound.asks b k (sym (a.others b z).0 ∙ at))
      (either b message.brick)

  sound_then : IsSound t
  sound_then = sound_as _ _ _ _ _ _ _ _ _ _ bricks_are flight_is next_is log_is places_are
      (sound_quiet (bricks_of u) (with_message (flight s) num None) (next_of s) (log_of s) (places_of s) entry
      (sound_bricks (bricks_of s) (with_message (flight s) num None) (next_of s) (log_of s) (places_of s) (bricks_of u) (sound_taken (bricks_of s) (flight s) (next_of s) (log_of s) (places_of s) num sound) a.size asks_now)
      quiet_entry)

  module _ (told : Told) (m : Net) (k : Matches s before m) where
    said_num : m.said num ≡ Some message
    said_num = (λ i. k.said i num) ∙ (sound.flies num message there).sent

    old_at : (r : Records) × (slice_get before message.brick ≡ Some r)
    old_at = records_at (bricks_of s) (flight s) (next_of s) (log_of s) before [] m message.brick a.old k a.was

    old_brick : IsBrick (m.brick message.brick) a.old old_at.0
    old_brick = k.bricks message.brick a.old old_at.0 a.was old_at.1

    new_at : (z : Records) × (slice_get now message.brick ≡ Some z)
    new_at = ⊎_elim (λ p. (p.0, p.2)) (λ p. absurd (let w = slice_get_within before message.brick old_at.0 old_at.1 in omega (arith, a.stores, p.0))) (slice_get_cases now message.brick).1

    torn_less : (z : Records) → slice_get now message.brick ≡ Some z → IsTornLess (m.brick message.brick) q count version (state a.new z)
    torn_less z at = laws.torn_off (m.brick message.brick) (state a.old old_at.0) q count (slice_index fb message.brick) (slice_index fa message.brick) version (state a.new z) old_brick.known (a.tears told old_at.0 z old_at.1 at)

    up_then : (m.brick message.brick).up ≡ true
    up_then = sym old_brick.known.same_up ∙ (sym (ap is_brick_up a.was) ∙ up)

    may_tear : May (size_of s) m entry
    may_tear =
        let is_at : IsAt m num message q = record { said = said_num; body = body; flying = k.flies num ∙ ap is_some there; up = up_then; nothing_owed = k.owes } in
        let may : MayTear m num count version = record { message = message; request = q; at = is_at; bytes = has; read = (torn_less new_at.0 new_at.1).same_version } in
        may

    abbrev net : Net
    net = torn_by m message (ToBrick q) count version

    same_net : net ≡ after m entry
    same_net = (λ i. torn_by m message (sym body i) count version) ∙ (λ i. torn_off m (sym said_num i) count version)

    matches_then : Matches t now (after m entry)
    matches_then = subst (Matches t now) same_net
        (matches_as _ _ _ _ _ _ _ _ now [] net bricks_are flight_is next_is log_is
        (matches_brick (bricks_of s) (flight s) (next_of s) (log_of s) before (bricks_of u) now m net message.brick (torn_at (m.brick message.brick) q count version) (with_message (flight s) num None) entry [] k quiet_entry a.others
        (λ x z at stored.
        let x_is : x ≡ a.new = (let h : Some x ≡ Some a.new = sym at ∙ a.is in cc) in
        subst (λ (y : Brick). IsBrick (torn_at (m.brick message.brick) q count version) y z) (sym x_is) (record { known = (torn_less z stored).state; index = a.index told old_at.0 z old_at.1 stored old_brick.index }))
        refl refl (λ i. (λ j. put m.flying (own j) false i) ∙ flies_taken (bricks_of s) (flight s) (next_of s) (log_of s) before num m i k.flies) refl k.owes (a.stores ∙ (k.stores ∙ sym a.size))))

  pub torn : Tears Told s t before now fb fa num count
  torn = record {
    message = message;
    request = q;
    old = a.old;
    new = a.new;
    version = version;
    sent = there;
    body = body;
    was = a.was;
    is = (λ j. slice_get (bricks_are j) message.brick) ∙ a.is;
    log = log_is;
    flies = flight_is;
    next = next_is;
    stops = a.stops;
    fence = a.fence;
    unread = a.unread;
    tears = a.tears;
    others = λ b n. ((λ j. slice_get (bricks_are j) b) ∙ (a.others b n).0, (a.others b n).1);
    size = ap (λ (l : List Brick). length l) bricks_are ∙ a.size;
    sound = sound_then;
    runs = λ told m k given. ((may_tear told m k, tt), matches_then told m k);
  }
