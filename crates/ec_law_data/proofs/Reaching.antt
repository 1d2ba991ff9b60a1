-- All that a log in which the calls keep the conduct in order has come to, seen from every gfid, entry by entry. These are the
-- steps by which the laws of versions are shown, which keep them to themselves.
use Rattle.ec_history.specs.Starts.{IsStart}
use Rattle.ec_history.specs.Flat.{Tree}
use Rattle.ec_store.specs.Records.{Record, Records}
use Rattle.ec_brick.specs.State.{State as Brick}
use Rattle.ec_attr.specs.declared.config.Config.{Config}
use Rattle.std.proofs.Common.{Bool, true, false, not, cond, ◌&&◌, ◌^◌, ◌+◌, ◌-◌, ◌<◌, ◌≤◌, ◌==◌, refl, ◌≡◌, ◌∙◌, ℕ, zero, suc, Option, Some, None, ap, subst, arith, inl, sym, ⊎_elim}
use Rattle.std.specs.Prelude.{is_some}
use Rattle.ec_attr.proofs.Sets.{count_none, count_out}
use Rattle.ec_attr.specs.Bricks.{count_below}
use Rattle.ec_attr.specs.declared.geometry.Geometry.{Geometry}
use Rattle.ec_conduct.specs.Given.{quorum}
use Rattle.ec_wire.specs.declared.entry.Entry.{Entry}
use Rattle.ec_history.specs.Accounts.{Books, Leaving, booked, no_books}
use Rattle.ec_history.specs.IsRun.{May as MayEnter}
use Rattle.ec_history.specs.Run.{Net, after, fresh}
use Rattle.ec_history.specs.Story.{Story, opening, told}
use Rattle.ec_law_base.specs.State.{Ballot}
use Rattle.ec_law_net.specs.Grants.{EntryKnown, LocksStand}
use Rattle.ec_law_net.specs.Start.{first_view}
use Rattle.ec_law_net.specs.Turns.{Maker, View, acts, noted, seen_after}
use Rattle.ec_law_net.proofs.GrantRuns.{entry_ready, locks_entry, locks_start}
use Rattle.ec_law_net.proofs.Entries.{Goes}
use Rattle.ec_law_net.proofs.Logs.{goes}
use Rattle.ec_law_net.proofs.Starting.{starts_linked}
use Rattle.ec_law_turns.specs.Known.{Known}
use Rattle.ec_law_turns.specs.Births.{AreBirths, HasBirths}
use Rattle.ec_law_turns.specs.Reached.{Reached}
use Rattle.ec_law_turns.specs.Once.{Once}
use Rattle.ec_law_turns.specs.Shown.{Shown}
use Rattle.ec_law_turns.proofs.Showing.{shown_entry}
use Rattle.ec_law_turns.proofs.Replies.{replied_entry}
use Rattle.ec_law_turns.proofs.Onces.{did_entry}
use Rattle.ec_law_turns.proofs.BirthRuns.{births_entry, has_births_entry}
use Rattle.ec_law_turns.proofs.MakerRuns.{made_entry}
use Rattle.ec_law_turns.proofs.MakesReady.{MakesReady, makes_ready}
use Rattle.ec_law_turns.proofs.Numbered.{IsPlainEntry}
use Rattle.ec_law_turns.proofs.Origins.{IsFresh, as_begun, fresh_entry, unrecorded}
use Rattle.ec_law_turns.proofs.Takes.{Taken, taken_entry}
use Rattle.ec_law_turns.proofs.Basics.{some_none}
use Rattle.ec_law_turns.proofs.Ready.{known_of}
use Rattle.ec_law_turns.proofs.Runs.{first_moment, known_start, once_entry}
use Rattle.ec_law_turns.proofs.Steps.{EntryKept, known_entry}

-- as a log begins nothing was executed for a turn of it
once_start : (config : Config) (records : ℕ → Records) (bricks : ℕ → Brick) (tree : Tree) (next g : ℕ) (call : ℕ → ℕ) → IsStart config records bricks tree next → Once g (fresh bricks).said (fresh bricks).flying (first_view config.geometry.n (tree g).version records g call next).of (first_view config.geometry.n (tree g).version records g call next).core
once_start config records bricks tree next g call start = record {
  queries = λ i j b t le h k. absurd (some_none h.message (sym h.is));
  preops = λ i j b t le h k. absurd (some_none h.message (sym h.is));
  posts = λ i j b t le h k. absurd (some_none h.message (sym h.is));
  makes = λ i j b t le h k. absurd (some_none h.message (sym h.is));
  mades = λ i j b t le h k. absurd (some_none h.message (sym h.is));
  seen = λ t b le e. absurd (cc);
  pre = λ t b le e. absurd (old t le (first ((first_view config.geometry.n (tree g).version records g call next).core.moment t) _ e));
  born = λ b e. absurd (cc);
  grown = λ b e. absurd (cc);
  post = λ t b le e. absurd (old t le (first ((first_view config.geometry.n (tree g).version records g call next).core.moment t) _ e));
}
  where
    first : (t u : Bool) → (t && u) ≡ true → t ≡ true
    first true u e = refl
    first false u e = absurd (cc)

    old : (t : ℕ) → 2 ^ 61 ≤ t → (first_view config.geometry.n (tree g).version records g call next).core.moment t ≡ true → ⊥
    old t le e = let lt = first_moment config records bricks tree next g call start t e in omega (arith, lt, le)

-- All that a log has come to, seen from every gfid; `origins` are the flat versions of the beginning, when `first` was the next
-- gfid.
pub record Reaches (geometry : Geometry) (first : ℕ) (origins : ℕ → ℕ) (m : Net) (vs : ℕ → View) (t : Story) (b : Books) : Type 0 where
  pub reached : (h : ℕ) → Reached geometry h m (vs h) b
  pub births : AreBirths m vs b
  pub has : (h : ℕ) → HasBirths geometry.n first h m vs b
  pub taken : (h : ℕ) → Taken h (vs h) t b
  pub fresh : (h : ℕ) → IsFresh first (origins h) h (vs h)

-- a gfid with a maker is one of those from the first on
is_child : (first origin g : ℕ) (v : View) → IsFresh first origin g v → (x : Maker) → v.maker ≡ Some x → first ≤ g
is_child first origin g v k x is = ⊎_elim (λ none. absurd (some_none x (sym is ∙ none))) (λ le. le) k.taken

module _ (geometry : Geometry) (left : ℕ → Leaving) (none : (a : ℕ) → (left a).kept ≡ None) (first : ℕ) (origins : ℕ → ℕ) (new : (h : ℕ) → first ≤ h → origins h ≡ 0) where
  module _ (m : Net) (vs : ℕ → View) (t : Story) (b : Books) (e : Entry) (plain : IsPlainEntry e) (may : MayEnter geometry.n m e) (kept : EntryKept m b e) (k : Reaches geometry first origins m vs t b) where
    abbrev b' : Books
    b' = booked geometry left m t b e

    known_then : (h : ℕ) → Known geometry h (after m e) (seen_after h m (vs h) e) (booked geometry left m t b e)
    known_then h = known_entry geometry h left m (vs h) t b e none plain may kept (k.reached h).known

    locks_then : (h : ℕ) → LocksStand geometry.n h (after m e) (seen_after h m (vs h) e)
    locks_then h = locks_entry geometry.n h m (vs h) e may (k.reached h).linked (k.reached h).locks

    ready : (h : ℕ) → MakesReady h m (vs h)
    ready h = makes_ready geometry m vs b k.reached k.births h first (k.has h) (λ x is. (k.fresh h).same ∙ new h (is_child first (origins h) h (vs h) (k.fresh h) x is))

    entry_known : (h : ℕ) → EntryKnown geometry.n (quorum geometry) h m (vs h) e
    entry_known h = let r = k.reached h in known_of geometry h m (vs h) b b' e may kept r.linked r.locks (locks_then h) r.once r.replied (ready h) r.known (known_then h) r.shown

    pub gone : (h : ℕ) → Goes geometry.n (quorum geometry) h m (after m e) (vs h) (noted h (vs h) e) (acts h m (vs h) e)
    gone h = let r = k.reached h in goes geometry.n (quorum geometry) h m (vs h) e may r.linked (entry_ready geometry.n (quorum geometry) h m (vs h) e may r.linked r.locks r.asks (entry_known h))

    pub reached_then : (h : ℕ) → Reached geometry h (after m e) (seen_after h m (vs h) e) (booked geometry left m t b e)
    reached_then h =
        let r = k.reached h in
        record {
          known = known_then h;
          linked = (gone h).linked;
          locks = locks_then h;
          asks = once_entry geometry h m (vs h) b e may kept r.known r.asks;
          once = did_entry geometry h m (vs h) b e may kept r.known r.once;
          replied = replied_entry geometry (quorum geometry) h left m (vs h) t b e may kept r.known r.linked (gone h).linked r.locks (gone h).runs r.replied;
          shown = shown_entry geometry h left m (vs h) t b e may kept r.known (known_then h).sound r.linked r.locks (gone h).runs r.shown;
          by_maker = made_entry geometry h m vs t b e may kept (λ x. (k.reached x).known) (k.taken h) r.by_maker;
        }

    births_then : AreBirths (after m e) (λ h. seen_after h m (vs h) e) (booked geometry left m t b e)
    births_then = births_entry geometry left none m vs t b e may kept k.reached (λ h. (gone h).runs) k.births

    fresh_then : (h : ℕ) → IsFresh first (origins h) h (seen_after h m (vs h) e)
    fresh_then h = fresh_entry first (origins h) h m (vs h) e (k.fresh h)

    pub reaches_then : Reaches geometry first origins (after m e) (λ h. seen_after h m (vs h) e) (told geometry m t e) (booked geometry left m t b e)
    reaches_then = record {
      reached = reached_then;
      births = births_then;
      has = λ h. has_births_entry geometry left none m vs t b e may kept k.reached (λ x. (gone x).runs) k.births h first (k.has h) births_then reached_then (is_child first (origins h) h (seen_after h m (vs h) e) (fresh_then h));
      taken = λ h. taken_entry geometry h left m (vs h) t b e (k.reached h).known.numbers (k.taken h);
      fresh = fresh_then;
    }

-- the number of a turn's ballot as a log begins
abbrev ballot_of : Bool → ℕ → ℕ → ℕ
ballot_of u origin t = (cond {A = Ballot} u (record { base = origin; number = t - origin }) (record { base = 0; number = 0 })).number

-- as a log begins nothing was told, and no turn of it has a ballot
shown_start : (config : Config) (records : ℕ → Records) (bricks : ℕ → Brick) (tree : Tree) (next g : ℕ) (call : ℕ → ℕ) → IsStart config records bricks tree next → Shown config.geometry g (fresh bricks).said (fresh bricks).next (first_view config.geometry.n (tree g).version records g call next).turn (first_view config.geometry.n (tree g).version records g call next).of (fresh bricks).owed (first_view config.geometry.n (tree g).version records g call next).core no_books
shown_start config records bricks tree next g call start = record {
  to_say = tt;
  sent = λ i x re reply e body. absurd (some_none x (sym e));
  asked = λ i x q e body. absurd (some_none x (sym e));
  calls = λ a given e. absurd (some_none given (sym e));
  fresh = λ t le. none t le ((first_view config.geometry.n (tree g).version records g call next).core.moment t) refl;
}
  where
    none : (t : ℕ) → 2 ^ 61 + 1 ≤ t → (u : Bool) → (first_view config.geometry.n (tree g).version records g call next).core.moment t ≡ u → ballot_of u (tree g).version t ≡ 0
    none t le false e = refl
    none t le true e = absurd (let lt = first_moment config records bricks tree next g call start t e in omega (arith, lt, le))

-- as a log begins no record of a child was made
none_of : (p : ℕ → Bool) (n : ℕ) → ((b : ℕ) → b < n → p b ≡ false) → count_below n p ≡ 0
none_of p zero h = count_none p
none_of p (suc n) h = count_out n p (h n (omega arith)) ∙ none_of p n (λ b lt. h b (omega (arith, lt)))

unmade_start : (config : Config) (records : ℕ → Records) (bricks : ℕ → Brick) (tree : Tree) (next g : ℕ) (call : ℕ → ℕ) → IsStart config records bricks tree next → next ≤ g → (first_view config.geometry.n (tree g).version records g call next).core.making ≡ false
unmade_start config records bricks tree next g call start le = by (count_below config.geometry.n (λ b. is_some (records b g))) (none_of (λ b. is_some (records b g)) config.geometry.n (λ b lt. ap (λ (o : Option Record). is_some o) (unrecorded config records bricks tree next g start le b lt)))
  where
    by : (x : ℕ) → x ≡ 0 → not (x == 0) ≡ false
    by x e = ap not (subst (λ (y : ℕ). (y == 0) ≡ true) (sym e) refl)

pub reaches_start : (config : Config) (records : ℕ → Records) (bricks : ℕ → Brick) (tree : Tree) (next : ℕ) (call : ℕ → ℕ) → config.geometry.n < quorum config.geometry + quorum config.geometry → IsStart config records bricks tree next → Reaches config.geometry next (λ h. (tree h).version) (fresh bricks) (λ h. first_view config.geometry.n (tree h).version records h call next) (opening tree next) no_books
reaches_start config records bricks tree next call most start = record {
  reached = λ h. record {
    known = known_start config records bricks tree next h call start;
    linked = (starts_linked config records bricks tree next h call (omega (arith, most)) start).linked;
    locks = locks_start config records bricks tree next h call start;
    asks = λ i j b a x y. absurd (some_none x.message (sym x.said));
    once = once_start config records bricks tree next h call start;
    replied = record { holders = λ x a e. absurd (cc); to_say = tt; sent = λ i x re e body. absurd (some_none x (sym e)); calls = λ a given e. absurd (some_none given (sym e)); queries = λ i x y j e body on. absurd (some_none x (sym e)) };
    shown = shown_start config records bricks tree next h call start;
    by_maker = λ i x q e body. absurd (some_none x (sym e));
  };
  births = λ i x q e body. absurd (some_none x (sym e));
  has = λ h. record {
    heard = λ a given e. absurd (some_none given (sym e));
    mades = λ i x y k child e body on. absurd (some_none x (sym e));
    made = λ le e. absurd (let z = sym (unmade_start config records bricks tree next h call start le) ∙ e in cc);
    before = λ c lt z e. absurd (cc);
    since = λ x e. absurd (some_none x (sym e));
  };
  taken = λ h. record { next = refl; untaken = inl refl; below = λ a y e one. absurd (some_none y (sym e)); takes = λ a y e is x so. absurd (some_none y (sym e)) };
  fresh = λ h. as_begun next (tree h).version h (first_view config.geometry.n (tree h).version records h call next) refl refl refl;
}
