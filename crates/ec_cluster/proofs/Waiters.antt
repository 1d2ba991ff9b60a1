-- The Granted of waiters, one after another.
use Rattle.std.proofs.Common.{◌≡◌, ⊎_elim, ℕ, suc, ◌+◌, ◌<◌, Option, Some, None, List, [], ◌∷◌, ◌++◌, length, take, drop, get_or, map, refl, sym, ◌∙◌, ap, subst, arith, append_assoc, append-nil, length-append, add-one, drop-cons}
use Rattle.std.proofs.lemmas.List.{take_more}
use Rattle.std.proofs.lemmas.Option.{slice_get_cases}
use Rattle.std.specs.List.{All}
use Rattle.std.specs.Prelude.{Result, Ok, Err, OnErr}
use Rattle.ec_brick.specs.Replies.{Says, Nothing, Is, ShowsChunks, ShowsNames, ShowsGfids, Replies}
use Rattle.ec_brick.specs.declared.brick.Brick.{Brick}
use Rattle.ec_history.specs.IsRun.{IsOwed, IsRun, May}
use Rattle.ec_history.specs.Run.{Net, Owed, after, call_of, own_owed, run}
use Rattle.ec_locks.specs.declared.waiters.Waiter.{Waiter}
use Rattle.ec_store.specs.Records.{Records}
use Rattle.ec_wire.specs.declared.entry.Entry.{Entry}
use Rattle.ec_wire.specs.declared.entry.Entry.TheVariants.{Sent}
use Rattle.ec_wire.specs.declared.message.Body.TheVariants.{ToClient}
use Rattle.ec_wire.specs.declared.message.Message.{Message}
use Rattle.ec_wire.specs.declared.reply.Reply.{Reply}
use Rattle.ec_wire.specs.declared.reply.Reply.TheVariants.{Granted}
use Rattle.ec_cluster.proofs.Advancing.{matches_as, sound_as}
use Rattle.ec_cluster.proofs.Following.{granted_follow}
use Rattle.ec_cluster.proofs.Matching.{matches_reply, may_reply}
use Rattle.ec_cluster.proofs.Saying.{said_grows}
use Rattle.ec_cluster.proofs.Soundness.{sound_sent}
use Rattle.ec_cluster.specs.Entries.{granted_entries, granted_message}
use Rattle.ec_cluster.specs.Inner.{Answers, AnswersPart, Granting, Grants, GrantsPart, IsAnswer, Owes, WasAsked, owed_to}
use Rattle.ec_cluster.specs.Matches.{MatchesOf, StandsAs}
use Rattle.ec_cluster.specs.Said.{said_in}
use Rattle.ec_cluster.specs.Sound.{IsReplyTo, IsSound}
use Rattle.ec_cluster.specs.Steps.{IsUnmoved, Sends}
use Rattle.ec_cluster.specs.Views.{bricks_of, flight, log_of, next_of, places_of, size_of}
use Rattle.ec_cluster.specs.declared.cluster.Cluster.{Cluster}

pub run_join : (es fs : List Entry) (m : Net) → run (es ++ fs) m ≡ run fs (run es m)
run_join [] fs m = refl
run_join (e ∷ es) fs m = run_join es fs (after m e)

pub is_run_join : (n : ℕ) (es fs : List Entry) (m : Net) → IsRun n es m → IsRun n fs (run es m) → IsRun n (es ++ fs) m
is_run_join n [] fs m h k = k
is_run_join n (e ∷ es) fs m h k = (h.0, is_run_join n es fs (after m e) h.1 k)

granted_more : (said : ℕ → Option Message) (b i : ℕ) (ws : List Waiter) (w : Waiter) → granted_entries said b i (ws ++ w ∷ []) ≡ granted_entries said b i ws ++ Sent (granted_message said b (i + length ws) w) ∷ []
granted_more said b i [] w = let e : i ≡ i + 0 = omega arith in ap (λ k. Sent (granted_message said b k w) ∷ []) e
granted_more said b i (x ∷ ws) w = let e : i + 1 + length ws ≡ i + length (x ∷ ws) = omega arith in ap (λ es. Sent (granted_message said b i x) ∷ es) (granted_more said b (i + 1) ws w ∙ ap (λ k. granted_entries said b (i + 1) ws ++ Sent (granted_message said b k w) ∷ []) e)

-- the records of a cluster that a net says are those of the net
pub stands : (all : List Brick) (flying : ℕ → Option Message) (number : ℕ) (log : List Entry) (records : List Records) (owed : List Owed) (m : Net) → MatchesOf all flying number log records owed m → StandsAs (length all) records m
stands all flying number log records owed m h b r lt e = ⊎_elim (λ p. (h.bricks b p.0 r p.2 e).known.known) (λ p. absurd (omega (arith, p.0))) (slice_get_cases all b).1

pub granting_none : (s : Cluster) (b : ℕ) (ws : List Waiter) → IsSound s → Granting s s b [] ws
granting_none s b ws h = record { log = sym (append-nil (log_of s)); bricks = refl; sound = h; next = omega arith; grows = λ i m e. e; runs = λ records m k. (tt, k) }

-- the Granted of w, as message i
module _ (s t u : Cluster) (b call : ℕ) (ws rest : List Waiter) (w : Waiter) (to : b < size_of s) (so : Granting s t b ws (w ∷ rest)) (asked : WasAsked (said_in (log_of s)) b w) (is : call ≡ call_of (said_in (log_of t) w.number)) (k : Sends t u (record { no = next_of t; call = call; client = w.client; brick = b; body = ToClient w.number Granted })) where
  abbrev said : ℕ → Option Message
  said = said_in (log_of s)

  abbrev x : Message
  x = record { no = next_of t; call = call; client = w.client; brick = b; body = ToClient w.number Granted }

  abbrev front : List Entry
  front = granted_entries said b (next_of s) ws

  sent_now : said_in (log_of t) w.number ≡ Some asked.message
  sent_now = so.grows w.number asked.message asked.sent

  call_is : call ≡ call_of (said w.number)
  call_is = is ∙ ap call_of (sent_now ∙ sym asked.sent)

  message_is : x ≡ granted_message said b (next_of s + length ws) w
  message_is = (λ i. record { no = so.next i; call = call_is i; client = w.client; brick = b; body = ToClient w.number Granted })

  entries_are : front ++ Sent x ∷ [] ≡ granted_entries said b (next_of s) (ws ++ w ∷ [])
  entries_are = ap (λ (y : Message). front ++ Sent y ∷ []) message_is ∙ sym (granted_more said b (next_of s) ws w)

  log_is : log_of u ≡ log_of s ++ granted_entries said b (next_of s) (ws ++ w ∷ [])
  log_is = k.log ∙ (ap (λ l. l ++ Sent x ∷ []) so.log ∙ (append_assoc (log_of s) front (Sent x ∷ []) ∙ ap (λ l. log_of s ++ l) entries_are))

  reply_to : IsReplyTo (said_in (log_of t)) x w.number Granted
  reply_to = record { asked = asked.message; request = asked.request; sent = sent_now; body = asked.body; call = is ∙ ap call_of sent_now; client = sym asked.client; brick = sym asked.brick; fits = tt }

  size_is : size_of t ≡ size_of s
  size_is = ap (λ (l : List Brick). length l) so.bricks

  sound_now : IsSound u
  sound_now = sound_as _ _ _ _ _ _ _ _ _ _ k.bricks k.flies k.next k.log k.places (sound_sent (bricks_of t) (flight t) (next_of t) (log_of t) (places_of t) x so.sound k.limit refl (subst (λ n. b < n) (sym size_is) to) reply_to)

  owed_is : IsOwed (owed_to said b w) x w.number Granted
  owed_is = record { call = call_is; client = refl; brick = refl; to = refl; says = refl }

  runs_now : (records : List Records) (m : Net) → Owes s records (map (owed_to said b) ((ws ++ w ∷ []) ++ rest)) m → IsRun (size_of s) (granted_entries said b (next_of s) (ws ++ w ∷ [])) m × Owes u records (map (owed_to said b) rest) (run (granted_entries said b (next_of s) (ws ++ w ∷ [])) m)
  runs_now records m h =
      let before = so.runs records m (subst (λ (l : List Waiter). Owes s records (map (owed_to said b) l) m) (append_assoc ws (w ∷ []) rest) h) in
      let may : May (size_of s) (run front m) (Sent x) = may_reply (bricks_of t) (flight t) (next_of t) (log_of t) records (size_of s) (owed_to said b w) (map (owed_to said b) rest) (run front m) x w.number Granted before.1 refl refl owed_is in
      let now : Owes u records (map (owed_to said b) rest) (after (run front m) (Sent x)) = matches_as _ _ _ _ _ _ _ _ records (map (owed_to said b) rest) (after (run front m) (Sent x)) k.bricks k.flies k.next k.log (matches_reply (bricks_of t) (flight t) (next_of t) (log_of t) records (owed_to said b w) (map (owed_to said b) rest) (run front m) x w.number Granted before.1 refl refl) in
      subst (λ (es : List Entry). IsRun (size_of s) es m × Owes u records (map (owed_to said b) rest) (run es m)) entries_are (is_run_join (size_of s) front (Sent x ∷ []) m before.0 (may, tt), subst (Owes u records (map (owed_to said b) rest)) (sym (run_join front (Sent x ∷ []) m)) now)

  pub granting_more : Granting s u b (ws ++ w ∷ []) rest
  granting_more = record {
    log = log_is;
    bricks = k.bricks ∙ so.bricks;
    sound = sound_now;
    next = (let n = k.next in let o = so.next in omega (arith, length-append ws (w ∷ [])));
    grows = λ i m e. (λ j. said_in (k.log j) i) ∙ said_grows (log_of t) (places_of t) (next_of t) i m x so.sound.placed refl (so.grows i m e);
    runs = runs_now;
  }

-- where a Granted isn't sent, those before it are in the log
pub granting_part : (s t u : Cluster) (b : ℕ) (ws rest : List Waiter) → Granting s t b ws rest → IsUnmoved t u → GrantsPart s u b (ws ++ rest)
granting_part s t u b ws rest so k = record {
  entries = granted_entries (said_in (log_of s)) b (next_of s) ws;
  log = k.same_log ∙ so.log;
  follow = granted_follow (said_in (log_of s)) b (next_of s) ws;
  bricks = k.same_bricks ∙ so.bricks;
  runs = λ records m h. let r = so.runs records m h in (r.0, subst (λ n. StandsAs n records (run (granted_entries (said_in (log_of s)) b (next_of s) ws) m)) (ap (λ (l : List Brick). length l) so.bricks) (stands (bricks_of t) (flight t) (next_of t) (log_of t) records _ _ r.1));
}

pub granting_next : (s t u : Cluster) (b call i : ℕ) (ws : List Waiter) (d : Waiter) → b < size_of s → i < length ws → All (WasAsked (said_in (log_of s)) b) ws → Granting s t b (take i ws) (drop i ws) → call ≡ call_of (said_in (log_of t) (get_or ws i d).number) → Sends t u (record { no = next_of t; call = call; client = (get_or ws i d).client; brick = b; body = ToClient (get_or ws i d).number Granted }) → Granting s u b (take (i + 1) ws) (drop (i + 1) ws)
granting_next s t u b call i ws d to lt asked so call_is k =
    let more : take (i + 1) ws ≡ take i ws ++ get_or ws i d ∷ [] = take_more ws i d lt in
    let left : drop i ws ≡ get_or ws i d ∷ drop (i + 1) ws = drop-cons ws i d lt ∙ ap (λ n. get_or ws i d ∷ drop n ws) (sym (add-one i)) in
    subst (λ (l : List Waiter). Granting s u b l (drop (i + 1) ws)) (sym more) (granting_more s t u b call (take i ws) (drop (i + 1) ws) (get_or ws i d) to (subst (Granting s t b (take i ws)) left so) (asked i d lt) call_is k)

pub err_any : {T E : Type 0} (r : Result T E) (P : Type 0) → P → OnErr r P
err_any (Ok x) P h = tt
err_any (Err e) P h = h

-- the own reply is sent first
module _ (s t : Cluster) (q : Message) (y : Reply) (ws : List Waiter) (sound : IsSound s) (a : IsAnswer s q (Some y) ws) (k : Sends s t (record { no = next_of s; call = q.call; client = q.client; brick = q.brick; body = ToClient q.no y })) where
  abbrev own : Message
  own = record { no = next_of s; call = q.call; client = q.client; brick = q.brick; body = ToClient q.no y }

  own_reply : IsReplyTo (said_in (log_of s)) own q.no y
  own_reply = record { asked = q; request = a.request; sent = a.sent; body = a.body; call = refl; client = refl; brick = refl; fits = a.fits }

  pub own_sound : IsSound t
  own_sound = sound_as _ _ _ _ _ _ _ _ _ _ k.bricks k.flies k.next k.log k.places (sound_sent (bricks_of s) (flight s) (next_of s) (log_of s) (places_of s) own sound k.limit refl a.to own_reply)

  pub own_grows : (i : ℕ) (m : Message) → said_in (log_of s) i ≡ Some m → said_in (log_of t) i ≡ Some m
  own_grows i m e = (λ j. said_in (k.log j) i) ∙ said_grows (log_of s) (places_of s) (next_of s) i m own sound.placed refl e

  pub own_asked : All (WasAsked (said_in (log_of t)) q.brick) ws
  own_asked = λ i d lt. let h = a.waiters i d lt in record { message = h.message; request = h.request; sent = own_grows (get_or ws i d).number h.message h.sent; client = h.client; brick = h.brick; body = h.body }

  pub own_runs : (records : List Records) (says : Says) (owed : List Owed) (m : Net) → Replies says (Some y) → Owes s records (own_owed q says ++ owed) m → May (size_of s) m (Sent own) × Owes t records owed (after m (Sent own))
  own_runs records says owed m r h = go says r h
    where
      one : (says : Says) → Replies says (Some y) → Owes s records (record { call = q.call; client = q.client; brick = q.brick; re = q.no; says = says } ∷ owed) m → May (size_of s) m (Sent own) × Owes t records owed (after m (Sent own))
      one says r h =
          let o : Owed = record { call = q.call; client = q.client; brick = q.brick; re = q.no; says = says } in
          let is : IsOwed o own q.no y = record { call = refl; client = refl; brick = refl; to = refl; says = r } in (
            may_reply (bricks_of s) (flight s) (next_of s) (log_of s) records (size_of s) o owed m own q.no y h refl refl is,
            matches_as _ _ _ _ _ _ _ _ records owed (after m (Sent own)) k.bricks k.flies k.next k.log (matches_reply (bricks_of s) (flight s) (next_of s) (log_of s) records o owed m own q.no y h refl refl),
          )

      go : (says : Says) → Replies says (Some y) → Owes s records (own_owed q says ++ owed) m → May (size_of s) m (Sent own) × Owes t records owed (after m (Sent own))
      go Nothing r h = absurd cc
      go (Is x) r h = one (Is x) r h
      go (ShowsChunks piece first count) r h = one (ShowsChunks piece first count) r h
      go (ShowsNames past names) r h = one (ShowsNames past names) r h
      go (ShowsGfids past set) r h = one (ShowsGfids past set) r h

-- the Granted of the same waiters, after the own reply
same_entries : (f g : ℕ → Option Message) (b i : ℕ) (ws : List Waiter) → ((i : ℕ) (m : Message) → f i ≡ Some m → g i ≡ Some m) → All (WasAsked f b) ws → granted_entries g b i ws ≡ granted_entries f b i ws
same_entries f g b i [] grows a = refl
same_entries f g b i (w ∷ ws) grows a =
    let h = a 0 w (omega arith) in
    let e : g w.number ≡ f w.number = grows w.number h.message h.sent ∙ sym h.sent in
    (λ j. Sent (record { no = i; call = call_of (e j); client = w.client; brick = b; body = ToClient w.number Granted }) ∷ same_entries f g b (i + 1) ws grows (λ n d lt. a (suc n) d (omega arith)) j)

same_owed : (f g : ℕ → Option Message) (b : ℕ) (ws : List Waiter) → ((i : ℕ) (m : Message) → f i ≡ Some m → g i ≡ Some m) → All (WasAsked f b) ws → map (owed_to g b) ws ≡ map (owed_to f b) ws
same_owed f g b [] grows a = refl
same_owed f g b (w ∷ ws) grows a =
    let h = a 0 w (omega arith) in
    let e : g w.number ≡ f w.number = grows w.number h.message h.sent ∙ sym h.sent in
    (λ j. record { call = call_of (e j); client = w.client; brick = b; re = w.number; says = Is Granted } ∷ same_owed f g b ws grows (λ n d lt. a (suc n) d (omega arith)) j)

none_owed : (q : Message) (says : Says) (owed : List Owed) → Replies says None → own_owed q says ++ owed ≡ owed
none_owed q Nothing owed r = refl
none_owed q (Is x) owed r = absurd cc
none_owed q (ShowsChunks piece first count) owed r = absurd r
none_owed q (ShowsNames past names) owed r = absurd r
none_owed q (ShowsGfids past set) owed r = absurd r

pub answers_none : (s t : Cluster) (q : Message) (ws : List Waiter) → Grants s t q.brick ws → Answers s t q None ws
answers_none s t q ws g = record {
  log = g.log;
  bricks = g.bricks;
  sound = g.sound;
  runs = λ records says m r h. g.runs records m (subst (λ (l : List Owed). Owes s records l m) (none_owed q says _ r ∙ ap (map (owed_to (said_in (log_of s)) q.brick)) (sym (append-nil ws))) h);
}

pub answers_none_part : (s t : Cluster) (q : Message) (ws : List Waiter) → GrantsPart s t q.brick ws → AnswersPart s t q None ws
answers_none_part s t q ws g = record {
  entries = g.entries;
  log = g.log;
  follow = g.follow;
  bricks = g.bricks;
  runs = λ records says m r h. g.runs records m (subst (λ (l : List Owed). Owes s records l m) (none_owed q says _ r) h);
}

pub answers_unsent : (s t : Cluster) (q : Message) (reply : Option Reply) (ws : List Waiter) → IsUnmoved s t → AnswersPart s t q reply ws
answers_unsent s t q reply ws k = record {
  entries = [];
  log = k.same_log ∙ sym (append-nil (log_of s));
  follow = refl;
  bricks = k.same_bricks;
  runs = λ records says m r h. (tt, stands (bricks_of s) (flight s) (next_of s) (log_of s) records _ m h);
}

module _ (s t u : Cluster) (q : Message) (y : Reply) (ws : List Waiter) (sound : IsSound s) (a : IsAnswer s q (Some y) ws) (k : Sends s t (record { no = next_of s; call = q.call; client = q.client; brick = q.brick; body = ToClient q.no y })) where
  abbrev first : Message
  first = record { no = next_of s; call = q.call; client = q.client; brick = q.brick; body = ToClient q.no y }

  abbrev owed_now : List Owed
  owed_now = map (owed_to (said_in (log_of s)) q.brick) ws

  size_same : size_of t ≡ size_of s
  size_same = ap (λ (l : List Brick). length l) k.bricks

  owed_then : map (owed_to (said_in (log_of t)) q.brick) ws ≡ owed_now
  owed_then = same_owed (said_in (log_of s)) (said_in (log_of t)) q.brick ws (own_grows s t q y ws sound a k) a.waiters

  longer : (es : List Entry) → log_of u ≡ log_of t ++ es → log_of u ≡ log_of s ++ Sent first ∷ es
  longer es e = e ∙ (ap (λ l. l ++ es) k.log ∙ append_assoc (log_of s) (Sent first ∷ []) es)

  pub answers_some : Grants t u q.brick ws → Answers s u q (Some y) ws
  answers_some g =
      let es : List Entry = granted_entries (said_in (log_of t)) q.brick (next_of t) ws in
      let same : es ≡ granted_entries (said_in (log_of s)) q.brick (next_of s + 1) ws = ap (λ i. granted_entries (said_in (log_of t)) q.brick i ws) k.next ∙ same_entries (said_in (log_of s)) (said_in (log_of t)) q.brick (next_of s + 1) ws (own_grows s t q y ws sound a k) a.waiters in record {
        log = longer es g.log ∙ ap (λ l. log_of s ++ Sent first ∷ l) same;
        bricks = g.bricks ∙ k.bricks;
        sound = g.sound;
        runs = λ records says m r h.
            let o = own_runs s t q y ws sound a k records says owed_now m r h in
            let rest = g.runs records (after m (Sent first)) (subst (λ (l : List Owed). Owes t records l (after m (Sent first))) (sym owed_then ∙ ap (map (owed_to (said_in (log_of t)) q.brick)) (sym (append-nil ws))) o.1) in
            subst (λ (l : List Entry). IsRun (size_of s) (Sent first ∷ l) m × Owes u records [] (run (Sent first ∷ l) m)) same ((o.0, subst (λ n. IsRun n es (after m (Sent first))) size_same rest.0), rest.1);
      }

  pub answers_some_part : GrantsPart t u q.brick ws → AnswersPart s u q (Some y) ws
  answers_some_part g = record {
    entries = Sent first ∷ g.entries;
    log = longer g.entries g.log;
    follow = g.follow;
    bricks = g.bricks ∙ k.bricks;
    runs = λ records says m r h.
        let o = own_runs s t q y ws sound a k records says owed_now m r h in
        let rest = g.runs records (after m (Sent first)) (subst (λ (l : List Owed). Owes t records l (after m (Sent first))) (sym owed_then) o.1) in
        ((o.0, subst (λ n. IsRun n g.entries (after m (Sent first))) size_same rest.0), subst (λ n. StandsAs n records (run g.entries (after m (Sent first)))) size_same rest.1);
  }
