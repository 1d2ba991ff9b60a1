-- Every log: what it has come to after each entry.
use Rattle.std.proofs.Common.{nat_lt, ◌&&◌, ◌≡◌, ℕ, ◌+◌, ◌^◌, ◌<◌, ◌≤◌, Bool, true, false, ◌==◌, Option, Some, None, List, [], ◌∷◌, ◌++◌, refl, sym, ◌∙◌, ap, subst, arith}
use Rattle.std.proofs.lemmas.Bool.Decides.{nat_tests}
use Rattle.ec_attr.specs.Bricks.{count_below}
use Rattle.ec_attr.specs.declared.config.Config.{Config}
use Rattle.ec_attr.specs.declared.geometry.Geometry.{Geometry}
use Rattle.ec_brick.specs.State.{State as Brick}
use Rattle.ec_store.specs.Records.{Records}
use Rattle.ec_wire.specs.declared.entry.Entry.{Entry}
use Rattle.ec_wire.specs.declared.entry.Entry.TheVariants.{Called, Sent, Executed, Heard, Lost, GivenUp, Stopped, Returned, Cut, Died, Yielded, Torn, Answered, Replaced}
use Rattle.ec_wire.specs.declared.message.Body.{Body}
use Rattle.ec_wire.specs.declared.message.Body.TheVariants.{ToBrick, ToClient}
use Rattle.ec_wire.specs.declared.message.Message.{Message}
use Rattle.ec_conduct.specs.Account.{Account, account_from, after as account_after}
use Rattle.ec_conduct.specs.Conduct.{Keeps}
use Rattle.ec_conduct.specs.Given.{Given}
use Rattle.ec_conduct.specs.Opened.{opened}
use Rattle.ec_conduct.specs.Own.{Own, Sends}
use Rattle.ec_history.specs.Accounts.{Books, Leaving, booked, books, given_to, no_books}
use Rattle.ec_history.specs.Flat.{Tree}
use Rattle.ec_history.specs.IsRun.{IsRun, May as MayEnter}
use Rattle.ec_history.specs.Run.{Net, after, fresh}
use Rattle.ec_history.specs.Starts.{IsStart}
use Rattle.ec_history.specs.Story.{Story, opening, told}
use Rattle.ec_law_net.specs.Grants.{AsksIn, AsksOnce}
use Rattle.ec_law_base.proofs.Counts.{some}
use Rattle.ec_law_base.specs.State.{Head as Seen}
use Rattle.ec_law_net.specs.Start.{first_heads, first_view}
use Rattle.ec_law_net.specs.Turns.{View, seen_after}
use Rattle.ec_law_net.proofs.Conducts.{keeps_there, log_grows, sent_own, together}
use Rattle.ec_law_net.proofs.Starting.{found}
use Rattle.ec_law_turns.specs.Known.{Known}
use Rattle.ec_law_turns.specs.Follows.{Numbers}
use Rattle.ec_law_turns.specs.Laws.{Always, InEveryLog, TurnLaws}
use Rattle.ec_law_turns.specs.Orderly.{ArePlain, KeepsOrder, Ordered, OrderedFrom}
use Rattle.ec_law_turns.proofs.Basics.{put_there, some_none}
use Rattle.ec_law_turns.proofs.Numbered.{IsPlainEntry, heard_given, numbered, sent_same}
use Rattle.ec_law_turns.proofs.SentKnown.{BodyKept, once_sent}
use Rattle.ec_conduct.proofs.Fronts.{front_from}
use Rattle.ec_history.specs.IsRun.{MaySay}
use Rattle.ec_law_turns.proofs.Allowed.{account_given}
use Rattle.ec_law_turns.proofs.Makes.{made_there}
use Rattle.ec_law_turns.proofs.Steps.{EntryKept, executed_same, heard_same, known_entry, made_same, torn_same}

-- ## The conduct, where an entry comes

ordered_there : (c : Account) (xs : List Own) (e : Own) (ys : List Own) → OrderedFrom c (xs ++ e ∷ ys) → Ordered (account_from c xs) e
ordered_there c [] e ys h = h.0
ordered_there c (x ∷ xs) e ys h = ordered_there (account_after c x) xs e ys h.1

pub plain_first : (e : Entry) (es : List Entry) → ArePlain (e ∷ es) → IsPlainEntry e × ArePlain es
plain_first (Called a client op) es h = h
plain_first (Sent msg) es h = (tt, h)
plain_first (Executed i version failed) es h = (tt, h)
plain_first (Heard i) es h = (tt, h)
plain_first (Lost i) es h = (tt, h)
plain_first (GivenUp client brick i) es h = (tt, h)
plain_first (Stopped b) es h = (tt, h)
plain_first (Returned b) es h = (tt, h)
plain_first (Cut client b) es h = (tt, h)
plain_first (Died client) es h = (tt, h)
plain_first (Yielded client) es h = (tt, h)
plain_first (Torn i bytes version) es h = (tt, h)
plain_first (Answered a answer) es h = (tt, h)
plain_first (Replaced b removed all) es h = (tt, h)

module _ (geometry : Geometry) (left : ℕ → Leaving) (none : (a : ℕ) → (left a).kept ≡ None) where
  -- what a call begins with stays
  pub given_stays : (m : Net) (t : Story) (b : Books) (e : Entry) → MayEnter geometry.n m e → Numbers geometry m.said m.owed m.calls m.asker b → (a : ℕ) (given : Given) → b.given a ≡ Some given → (booked geometry left m t b e).given a ≡ Some given
  given_stays m t b (Called x client op) may k a given h = put_there b.given x (Some (given_to geometry t b client op)) a (λ z. let le = (k.given_below a given h).0 in let e = may.0 in omega (arith, z, le, e)) ∙ h
  given_stays m t b (Sent msg) may k a given h = ap (λ (f : ℕ → Option Given). f a) (sent_same geometry m b k msg msg.body).0 ∙ h
  given_stays m t b (Heard i) may k a given h = ap (λ (f : ℕ → Option Given). f a) (heard_given geometry m b k (m.said i)) ∙ h
  given_stays m t b e may k a given h = h

  given_later : (es : List Entry) (m : Net) (t : Story) (b : Books) → IsRun geometry.n es m → ArePlain es → Numbers geometry m.said m.owed m.calls m.asker b → (a : ℕ) (given : Given) → b.given a ≡ Some given → (books geometry left es m t b).given a ≡ Some given
  given_later [] m t b runs plain k a given h = h
  given_later (e ∷ es) m t b runs plain k a given h = let p = plain_first e es plain in given_later es (after m e) (told geometry m t e) (booked geometry left m t b e) runs.1 p.1 (numbered geometry left geometry.n m t b e none p.0 runs.0 k) a given (given_stays m t b e runs.0 k a given h)

  -- the call's own entries in the whole log keep the conduct in order
  abbrev pub Kept : Books → Type 0
  Kept last = (a : ℕ) (given : Given) → last.given a ≡ Some given → Keeps given (last.own a) × KeepsOrder given (last.own a)

  pub kept_there : (e : Entry) (es : List Entry) (m : Net) (t : Story) (b : Books) → IsRun geometry.n (e ∷ es) m → ArePlain (e ∷ es) → Numbers geometry m.said m.owed m.calls m.asker b → Kept (books geometry left (e ∷ es) m t b) → EntryKept m b e
  kept_there (Sent msg) es m t b runs plain k kept = by_body msg.body refl
    where
      by_body : (z : Body) → msg.body ≡ z → BodyKept m b msg z
      by_body (ToClient re reply) e = tt
      by_body (ToBrick q) e = λ given h mine.
          let all = kept msg.call given (given_later (Sent msg ∷ es) m t b runs plain k msg.call given h) in
          let rest = log_grows geometry left es (after m (Sent msg)) (told geometry m t (Sent msg)) (booked geometry left m t b (Sent msg)) msg.call in
          let own = rest.1 ∙ (ap (λ (xs : List Own). xs ++ rest.0) (sent_own m b msg q msg.body msg.call e mine) ∙ together (b.own msg.call) (Sends msg.brick msg.no q ∷ []) rest.0) in
          let keeps = subst (Keeps given) own all.0 in
          let there = keeps_there (opened given) (b.own msg.call) (Sends msg.brick msg.no q) rest.0 keeps in
          let begun = (k.given_below msg.call given h).1 in
          (there, ordered_there (opened given) (b.own msg.call) (Sends msg.brick msg.no q) rest.0 (subst (KeepsOrder given) own all.1), made_there given (b.own msg.call) msg.brick q begun.none_kept begun.plain (front_from (opened given) (b.own msg.call) (Sends msg.brick msg.no q ∷ rest.0) keeps) (subst (λ (y : ℕ). msg.brick < y) (sym (ap (λ (y : Given). y.geometry.n) (account_given given (b.own msg.call)) ∙ ap (λ (y : Geometry). y.n) begun.geometry_is)) (subst (λ (z : Body). MaySay geometry.n m msg z) e runs.0.1).to) there)
  kept_there e es m t b runs plain k kept = tt

-- ## Asks

once_same : (g : ℕ) (m m' : Net) (v v' : View) → m'.said ≡ m.said → v'.of ≡ v.of → AsksOnce g m v → AsksOnce g m' v'
once_same g m m' v v' said of once i j b a h k = once i j b a (before i h) (before j k)
  where
    before : (i : ℕ) → AsksIn g m' v' i b a → AsksIn g m v i b a
    before i h = record { message = h.message; gfid = h.gfid; kind = h.kind; said = sym (ap (λ (f : ℕ → Option Message). f i) said) ∙ h.said; brick = h.brick; body = h.body; on = h.on; turn = sym (ap (λ (f : ℕ → ℕ). f i) of) ∙ h.turn }

pub once_entry : (geometry : Geometry) (g : ℕ) (m : Net) (v : View) (b : Books) (e : Entry) → MayEnter geometry.n m e → EntryKept m b e → Known geometry g m v b → AsksOnce g m v → AsksOnce g (after m e) (seen_after g m v e)
once_entry geometry g m v b (Called a client op) may kept k once = once_same g m (after m (Called a client op)) v (seen_after g m v (Called a client op)) refl (made_same g v a op).1 once
once_entry geometry g m v b (Sent msg) may kept k once = once_sent geometry g m v b msg may.0 may.1 k kept once
once_entry geometry g m v b (Executed i version failed) may kept k once = once_same g m (after m (Executed i version failed)) v (seen_after g m v (Executed i version failed)) (executed_same m (m.said i) version failed).0 refl once
once_entry geometry g m v b (Heard i) may kept k once = once_same g m (after m (Heard i)) v (seen_after g m v (Heard i)) (heard_same m (m.said i)).0 refl once
once_entry geometry g m v b (Torn i bytes version) may kept k once = once_same g m (after m (Torn i bytes version)) v (seen_after g m v (Torn i bytes version)) (torn_same m (m.said i) bytes version).0 refl once
once_entry geometry g m v b e may kept k once = once_same g m (after m e) v (seen_after g m v e) refl refl once

-- ## From the beginning

always : (geometry : Geometry) (left : ℕ → Leaving) (none : (a : ℕ) → (left a).kept ≡ None) (g : ℕ) (es : List Entry) (m : Net) (v : View) (t : Story) (b : Books) → IsRun geometry.n es m → ArePlain es → Known geometry g m v b → Kept geometry left none (books geometry left es m t b) → AsksOnce g m v → Always (AsksOnce g) g es m v
always geometry left none g [] m v t b runs plain k kept once = once
always geometry left none g (e ∷ es) m v t b runs plain k kept once =
    let p = plain_first e es plain in
    let may = kept_there geometry left none e es m t b runs plain k.numbers kept in
    (once, always geometry left none g es (after m e) (seen_after g m v e) (told geometry m t e) (booked geometry left m t b e) runs.1 p.1 (known_entry geometry g left m v t b e none p.0 runs.0 may k) kept (once_entry geometry g m v b e runs.0 may k once))

-- a turn of before the run is a version
module _ (config : Config) (records : ℕ → Records) (bricks : ℕ → Brick) (tree : Tree) (next g : ℕ) (call : ℕ → ℕ) (start : IsStart config records bricks tree next) where
  pub first_moment : (a : ℕ) → (first_view config.geometry.n (tree g).version records g call next).core.moment a ≡ true → a < 2 ^ 61
  first_moment a e = bound (some (λ b. (first_heads config.geometry.n records g b).present && ((first_heads config.geometry.n records g b).version == a)) config.geometry.n (counted (nat_lt (tree g).version a) (count_below config.geometry.n (λ b. (first_heads config.geometry.n records g b).present && ((first_heads config.geometry.n records g b).version == a))) e))
    where
      counted : (t : Bool) (x : ℕ) → (t && nat_lt 0 x) ≡ true → 0 < x
      counted t x e = grind (arith, nat_tests)

      first_part : (t u : Bool) → (t && u) ≡ true → t ≡ true
      first_part t u e = grind (arith)

      second_part : (t : Bool) (x y : ℕ) → (t && (x == y)) ≡ true → x ≡ y
      second_part t x y e = grind (arith, nat_tests)

      bound : (b : ℕ) × (((first_heads config.geometry.n records g b).present && ((first_heads config.geometry.n records g b).version == a)) ≡ true) → a < 2 ^ 61
      bound h =
          let o = found config.geometry.n records g h.0 (first_part (first_heads config.geometry.n records g h.0).present _ h.1) in
          let v = second_part (first_heads config.geometry.n records g h.0).present (first_heads config.geometry.n records g h.0).version a h.1 in
          let w = ap (λ (x : Seen). x.version) o.3 in
          subst (λ (x : ℕ). x < 2 ^ 61) (sym w ∙ v) ((start.stand g).bounded h.0 o.0 o.1 o.2).version

  pub known_start : Known config.geometry g (fresh bricks) (first_view config.geometry.n (tree g).version records g call next) no_books
  known_start = record {
    numbers = record { said_below = λ i x e. absurd (some_none x (sym e)); owed_below = tt; made = λ a x e. absurd (some_none x (sym e)); given_below = λ a given e. absurd (some_none given (sym e)); unsaid = λ a lt. refl; kept = λ c. refl };
    messages = record { number = λ i x e. absurd (some_none x (sym e)); to = λ i x q e body. absurd (some_none x (sym e)); below = λ i x e. absurd (some_none x (sym e)); caller = λ i x e le. absurd (some_none x (sym e)); turns = λ a t e. absurd (some_none t (sym e)) };
    fresh = λ t h. never t h ((first_view config.geometry.n (tree g).version records g call next).core.moment t) refl;
    sound = λ i x q e body. absurd (some_none x (sym e));
    calls = λ a given e. absurd (some_none given (sym e));
  }
    where
      never : (t : ℕ) → 2 ^ 61 + 1 ≤ t → (u : Bool) → (first_view config.geometry.n (tree g).version records g call next).core.moment t ≡ u → u ≡ false
      never t h false e = refl
      never t h true e = absurd (let l = first_moment t e in omega (arith, l, h))

asks_once : InEveryLog AsksOnce
asks_once config records bricks tree next g call es start runs plain orderly = always config.geometry orderly.left orderly.none_kept g es (fresh bricks) (first_view config.geometry.n (tree g).version records g call next) (opening tree next) no_books runs plain (known_start config records bricks tree next g call start) (λ a given h. (orderly.conduct a given h, orderly.order a given h)) (λ i j b a h k. absurd (some_none h.message (sym h.said)))

pub laws : TurnLaws
laws = record { asks_once = asks_once }
