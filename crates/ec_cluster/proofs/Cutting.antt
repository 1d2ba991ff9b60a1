-- A client is cut off from a brick.
use Rattle.std.proofs.Common.{◌≡◌, ℕ, ◌<◌, true, Option, Some, None, List, [], ◌∷◌, ◌++◌, length, map, refl, sym, ◌∙◌, ap, subst, append_assoc, append-nil}
use Rattle.std.proofs.lemmas.Option.{slice_get_within}
use Rattle.std.specs.List.{All}
use Rattle.std.specs.Prelude.{slice_get}
use Rattle.ec_brick.specs.KnownLaws.{KnownLaws}
use Rattle.ec_brick.specs.State.{State, asks_of, indexed, is_up, state}
use Rattle.ec_brick.specs.Step.{cut_off}
use Rattle.ec_brick.specs.declared.brick.Brick.{Brick}
use Rattle.ec_history.specs.IsRun.{IsRun}
use Rattle.ec_history.specs.Run.{Net, after, let_in_owed, run}
use Rattle.ec_locks.specs.Asked.{granted_by_queue}
use Rattle.ec_locks.specs.declared.ask.Leaving.TheVariants.{Client}
use Rattle.ec_locks.specs.declared.waiters.Waiter.{Waiter}
use Rattle.ec_store.specs.Records.{Records}
use Rattle.ec_wire.specs.declared.entry.Entry.{Entry}
use Rattle.ec_wire.specs.declared.entry.Entry.TheVariants.{Cut}
use Rattle.ec_wire.specs.declared.message.Message.{Message}
use Rattle.ec_cluster.proofs.LettingIn.{cut_asked, left_asked}
use Rattle.ec_cluster.proofs.Matching.{records_at}
use Rattle.ec_cluster.proofs.Moving.{Moves, matches_moved, same_up, size_moved, sound_moved}
use Rattle.ec_cluster.proofs.Saying.{said_more}
use Rattle.ec_cluster.specs.Entries.{granted_entries}
use Rattle.ec_cluster.specs.Inner.{Grants, GrantsPart, Owes, WasAsked, owed_to}
use Rattle.ec_cluster.specs.Matches.{Matches, StandsAs}
use Rattle.ec_cluster.specs.Said.{said_in}
use Rattle.ec_cluster.specs.Sound.{IsAsked, IsSound}
use Rattle.ec_cluster.specs.Steps.{Advances, Always, Breaks}
use Rattle.ec_cluster.specs.Views.{asks_at, bricks_of, brick_asks, flight, log_of, next_of, size_of}
use Rattle.ec_cluster.specs.declared.cluster.Cluster.{Cluster}

module _ (laws : KnownLaws) (s t : Cluster) (client b : ℕ) (old new : Brick) (ws : List Waiter) (sound : IsSound s) (was : slice_get (bricks_of s) b ≡ Some old) (up : is_up old ≡ true) (now : (r : Records) → state new r ≡ (cut_off (state old r) client).brick) (index : indexed new ≡ indexed old) (granted : ws ≡ granted_by_queue (Client client) (asks_of old)) (v : Moves s t b new (Cut client b)) where
  abbrev entry : Entry
  entry = Cut client b

  quiet_entry : said_in (log_of s ++ entry ∷ []) ≡ said_in (log_of s)
  quiet_entry = said_more (log_of s) entry

  said_then : said_in (log_of t) ≡ said_in (log_of s)
  said_then = ap said_in v.log ∙ quiet_entry

  pub cut_sound : IsSound t
  cut_sound =
      let asks = ap (λ (x : State). x.asks) (now (λ g. None)) in
      sound_moved s t b new entry sound v quiet_entry (subst (All (IsAsked (said_in (log_of s)) b)) (sym asks) (left_asked (said_in (log_of s)) b (Client client) (asks_of old) (sound.asks b old was)))

  pub cut_waiters : All (WasAsked (said_in (log_of t)) b) ws
  cut_waiters = subst (λ (f : ℕ → Option Message). All (WasAsked f b) ws) (sym said_then) (subst (All (WasAsked (said_in (log_of s)) b)) (sym granted) (cut_asked (said_in (log_of s)) b (Client client) (asks_of old) (sound.asks b old was)))

  pub cut_to : b < size_of t
  cut_to = subst (λ n. b < n) (sym (size_moved s t b new entry v)) (slice_get_within (bricks_of s) b old was)

  abbrev cut_of : State → State
  cut_of x = (cut_off x client).brick

  module _ (records : List Records) (m : Net) (k : Matches s records m) where
    may_cut : (b < size_of s) × ((m.brick b).up ≡ true) × (m.owed ≡ [])
    may_cut = (slice_get_within (bricks_of s) b old was, same_up s t b old new entry cut_of sound was v quiet_entry now index (λ x y h. (laws.cuts x y client h).state) records m k ∙ up, k.owes)

    owed_is : let_in_owed m b (cut_off (m.brick b) client) ≡ map (owed_to (said_in (log_of t)) b) ws
    owed_is =
        let r = records_at (bricks_of s) (flight s) (next_of s) (log_of s) records [] m b old k was in
        let known = laws.cuts (m.brick b) (state old r.0) client (k.bricks b old r.0 was r.1).known in
        let said_path : m.said ≡ said_in (log_of t) = k.said ∙ sym said_then in
        let lets : (cut_off (m.brick b) client).lets_in ≡ ws = sym known.same_lets_in ∙ sym granted in
        (λ j. map (owed_to (said_path j) b) (lets j))

    owes_cut : Owes t records (map (owed_to (said_in (log_of t)) b) ws) (after m entry)
    owes_cut = matches_moved s t b old new entry cut_of sound was v quiet_entry now index (λ x y h. (laws.cuts x y client h).state) records (map (owed_to (said_in (log_of t)) b) ws) (let_in_owed m b (cut_off (m.brick b) client)) m k owed_is

  module _ (u : Cluster) where
    longer : (es : List Entry) → log_of u ≡ log_of t ++ es → log_of u ≡ log_of s ++ entry ∷ es
    longer es h = h ∙ (ap (λ l. l ++ es) v.log ∙ append_assoc (log_of s) (entry ∷ []) es)

    size_then : size_of t ≡ size_of s
    size_then = size_moved s t b new entry v

    entries_are : granted_entries (said_in (log_of t)) b (next_of t) ws ≡ granted_entries (said_in (log_of s)) b (next_of s) (granted_by_queue (Client client) (asks_at s b))
    entries_are = let asks : granted_by_queue (Client client) (asks_of old) ≡ granted_by_queue (Client client) (asks_at s b) = ap (λ o. granted_by_queue (Client client) (brick_asks o)) (sym was) in (λ j. granted_entries (said_then j) b (v.next j) ((granted ∙ asks) j))

    pub cuts : Grants t u b ws → Advances Always s u (Cut client b ∷ granted_entries (said_in (log_of s)) b (next_of s) (granted_by_queue (Client client) (asks_at s b)))
    cuts g = record {
      log = longer _ g.log ∙ ap (λ l. log_of s ++ entry ∷ l) entries_are;
      size = ap (λ (l : List Brick). length l) g.bricks ∙ size_then;
      sound = g.sound;
      runs = λ records m k given.
          let rest = g.runs records (after m entry) (subst (λ (l : List Waiter). Owes t records (map (owed_to (said_in (log_of t)) b) l) (after m entry)) (sym (append-nil ws)) (owes_cut records m k)) in
          subst (λ (l : List Entry). IsRun (size_of s) (entry ∷ l) m × Owes u records [] (run (entry ∷ l) m)) entries_are ((may_cut records m k, subst (λ n. IsRun n (granted_entries (said_in (log_of t)) b (next_of t) ws) (after m entry)) size_then rest.0), rest.1);
    }

    pub cuts_part : GrantsPart t u b ws → (records : List Records) → Breaks (λ e. e ≡ entry) (Unit {0}) s u records records
    cuts_part g records = record {
      entries = entry ∷ g.entries;
      log = longer g.entries g.log;
      begun = (refl, g.follow);
      runs = λ told m k.
          let rest = g.runs records (after m entry) (owes_cut records m k) in
          ((may_cut records m k, subst (λ n. IsRun n g.entries (after m entry)) size_then rest.0), subst (λ n. StandsAs n records (run g.entries (after m entry))) size_then rest.1);
    }
