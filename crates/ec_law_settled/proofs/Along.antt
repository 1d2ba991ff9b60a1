-- Along the entries of a settled call.
use Rattle.std.proofs.Common.{◌≡◌, inl, inr, ℕ, true, false, Some, List, [], ◌∷◌, ◌++◌, refl, sym, ap, subst, ◌∙◌}
use Rattle.std.specs.List.{list_all}
use Rattle.ec_history.specs.IsRun.{IsRun, May}
use Rattle.ec_history.specs.Run.{Net, after, run}
use Rattle.ec_history.specs.Script.{IsSettling, Settles, Step, entries_of, is_of_course}
use Rattle.ec_wire.specs.declared.entry.Entry.{Entry}
use Rattle.ec_wire.specs.declared.entry.Entry.TheVariants.{Sent, Heard, Lost, Answered}
use Rattle.ec_wire.specs.declared.message.Body.TheVariants.{ToBrick, ToClient}
use Rattle.ec_wire.specs.declared.message.Message.{Message}
use Rattle.ec_wire.specs.declared.reply.Reply.{Reply}
use Rattle.ec_wire.specs.declared.request.Request.{Request}
use Rattle.ec_law_settled.specs.Calm.{AllSend, AsksLock, AsksOnce, GoesToStopped}
use Rattle.ec_law_settled.specs.Laws.{IsExecuted}
use Rattle.ec_law_settled.specs.Settled.{Has}
use Rattle.ec_law_settled.proofs.Calm.{IsCalm, MayCome}
use Rattle.ec_law_settled.proofs.Counted.{IsCounted, comes, said_along, some_message}
use Rattle.ec_law_settled.proofs.Entries.{Lands, calm_after, entry_is, flight, still_dead, still_said, still_up}
use Rattle.ec_law_settled.proofs.Executes.{differ, no_reply}

abbrev pub AllCome : List Entry → Net → Type 0
AllCome [] m = Unit {0}
AllCome (e ∷ es) m = MayCome m e × AllCome es (after m e)

pub come_join : (es fs : List Entry) (m : Net) → AllCome es m → AllCome fs (run es m) → AllCome (es ++ fs) m
come_join [] fs m x y = y
come_join (e ∷ es) fs m x y = (x.0, come_join es fs (after m e) x.1 y)

pub come_front : (es fs : List Entry) (m : Net) → AllCome (es ++ fs) m → AllCome es m
come_front [] fs m x = tt
come_front (e ∷ es) fs m x = (x.0, come_front es fs (after m e) x.1)

pub come_rest : (es fs : List Entry) (m : Net) → AllCome (es ++ fs) m → AllCome fs (run es m)
come_rest [] fs m x = x
come_rest (e ∷ es) fs m x = come_rest es fs (after m e) x.1

pub send_front : (es fs : List Entry) (m : Net) → AllSend (es ++ fs) m → AllSend es m
send_front [] fs m x = tt
send_front (e ∷ es) fs m x = (x.0, send_front es fs (after m e) x.1)

pub send_rest : (es fs : List Entry) (m : Net) → AllSend (es ++ fs) m → AllSend fs (run es m)
send_rest [] fs m x = x
send_rest (e ∷ es) fs m x = send_rest es fs (after m e) x.1

-- ## The entries of the steps of settling

pub come_follow : (es : List Entry) (m : Net) → list_all is_of_course es ≡ true → AllCome es m
come_follow [] m e = tt
come_follow (Sent msg ∷ es) m e = (tt, come_follow es (after m (Sent msg)) e)
come_follow (Answered a answer ∷ es) m e = (tt, come_follow es (after m (Answered a answer)) e)
come_follow (x ∷ es) m e = absurd (cc)

named_comes : (m : Net) (e : Entry) → IsSettling m e → MayCome m e
named_comes m (Sent msg) s = tt
named_comes m (Answered a answer) s = tt
named_comes m e s = s

pub steps_come : (steps : List Step) (m : Net) → Settles m steps → AllCome (entries_of steps) m
steps_come [] m s = tt
steps_come (x ∷ steps) m s =
    (named_comes m x.named s.0, come_join x.follow (entries_of steps) (after m x.named) (come_follow x.follow (after m x.named) s.1) (steps_come steps (run x.follow (after m x.named)) s.2))

-- ## What was asked once by the end

pub once_before : (n : ℕ) (es : List Entry) (m : Net) → IsRun n es m → IsCounted n m → AsksOnce (run es m) → AsksOnce m
once_before n es m runs counted once a b i j x y = once a b i j (later i x) (later j y)
  where
    later : (i : ℕ) → AsksLock m.said a b i → AsksLock (run es m).said a b i
    later i x = record { message = x.message; is = said_along n es m runs counted i x.message x.is; of_call = x.of_call; of_brick = x.of_brick; asks = x.asks }

-- ## What stays

pub calm_along : (n call client : ℕ) (es : List Entry) (m : Net) → IsRun n es m → AllCome es m → AllSend es m → IsCounted n m → AsksOnce (run es m) → IsCalm n m call client → IsCalm n (run es m) call client
calm_along n call client [] m runs come sends counted once h = h
calm_along n call client (e ∷ es) m runs come sends counted once h = calm_along n call client es (after m e) runs.1 come.1 sends.1 (comes n m e runs.0 counted) once (calm_after n call client m counted h (once_before n (e ∷ es) m runs counted once) e runs.0 come.0 sends.0)

pub up_along : (n call client : ℕ) (es : List Entry) (m : Net) → IsRun n es m → AllCome es m → AllSend es m → IsCounted n m → AsksOnce (run es m) → IsCalm n m call client → (b : ℕ) → ((run es m).brick b).up ≡ (m.brick b).up
up_along n call client [] m runs come sends counted once h b = refl
up_along n call client (e ∷ es) m runs come sends counted once h b =
    up_along n call client es (after m e) runs.1 come.1 sends.1 (comes n m e runs.0 counted) once (calm_after n call client m counted h (once_before n (e ∷ es) m runs counted once) e runs.0 come.0 sends.0) b ∙ still_up n call client m counted h (once_before n (e ∷ es) m runs counted once) e runs.0 come.0 b

pub dead_along : (n call client : ℕ) (es : List Entry) (m : Net) → IsRun n es m → AllCome es m → AllSend es m → IsCounted n m → AsksOnce (run es m) → IsCalm n m call client → (c : ℕ) → (run es m).dead c ≡ m.dead c
dead_along n call client [] m runs come sends counted once h c = refl
dead_along n call client (e ∷ es) m runs come sends counted once h c =
    dead_along n call client es (after m e) runs.1 come.1 sends.1 (comes n m e runs.0 counted) once (calm_after n call client m counted h (once_before n (e ∷ es) m runs counted once) e runs.0 come.0 sends.0) c ∙ still_dead n call client m counted h (once_before n (e ∷ es) m runs counted once) e runs.0 come.0 c

-- ## What lands

-- a request to a brick that is up isn't lost, and no request is heard
module _ (n call client : ℕ) (m : Net) (counted : IsCounted n m) (h : IsCalm n m call client) (once : AsksOnce m) (e : Entry) (may : May n m e) (come : MayCome m e) (x : Message) (said : m.said x.no ≡ Some x) where
  lands_request : (q : Request) → x.body ≡ ToBrick q → (m.brick x.brick).up ≡ true → Lands x.no e → IsExecuted x.no e
  lands_request q body up (inl w) = w
  lands_request q body up (inr (inl w)) =
      let hears = subst (May n m) w may in
      let it : x ≡ hears.message = some_message x hears.message (sym said ∙ hears.said) in
      no_reply q hears.re hears.reply _ (sym body ∙ (ap (λ (z : Message). z.body) it ∙ hears.body))
  lands_request q body up (inr (inr w)) =
      let lost : GoesToStopped m x.no = entry_is n call client m counted h once (Lost x.no) (subst (May n m) w may) (subst (MayCome m) w come) in
      let it : x ≡ lost.message = some_message x lost.message (sym said ∙ lost.said) in
      differ (m.brick x.brick).up _ up (ap (λ (z : Message). (m.brick z.brick).up) it ∙ lost.stopped)

  lands_reply : (re : ℕ) (reply : Reply) → x.body ≡ ToClient re reply → Lands x.no e → e ≡ Heard x.no
  lands_reply re reply body (inl w) =
      let runs = subst (May n m) w.2 may in
      let it : x ≡ runs.message = some_message x runs.message (sym said ∙ runs.at.said) in
      no_reply runs.request re reply _ (sym runs.at.body ∙ (ap (λ (z : Message). z.body) (sym it) ∙ body))
  lands_reply re reply body (inr (inl w)) = w
  lands_reply re reply body (inr (inr w)) =
      let lost : GoesToStopped m x.no = entry_is n call client m counted h once (Lost x.no) (subst (May n m) w may) (subst (MayCome m) w come) in
      let it : x ≡ lost.message = some_message x lost.message (sym said ∙ lost.said) in
      no_reply lost.request re reply _ (sym lost.body ∙ (ap (λ (z : Message). z.body) (sym it) ∙ body))

pub executed_along : (n call client : ℕ) (es : List Entry) (m : Net) → IsRun n es m → AllCome es m → AllSend es m → IsCounted n m → AsksOnce (run es m) → IsCalm n m call client
    → (x : Message) (q : Request) → m.said x.no ≡ Some x → x.body ≡ ToBrick q → (m.brick x.brick).up ≡ true → m.flying x.no ≡ true → (run es m).flying x.no ≡ false → Has (IsExecuted x.no) es
executed_along n call client [] m runs come sends counted once h x q said body up flies landed = differ (m.flying x.no) _ flies landed
executed_along n call client (e ∷ es) m runs come sends counted once h x q said body up flies landed = elim (flight n call client m counted h (once_before n (e ∷ es) m runs counted once) e runs.0 come.0 x.no flies) [
  | inl f ↦ inr (executed_along n call client es (after m e) runs.1 come.1 sends.1 (comes n m e runs.0 counted) once (calm_after n call client m counted h (once_before n (e ∷ es) m runs counted once) e runs.0 come.0 sends.0) x q
      (still_said n call client m counted h (once_before n (e ∷ es) m runs counted once) e runs.0 come.0 x.no x said) body (still_up n call client m counted h (once_before n (e ∷ es) m runs counted once) e runs.0 come.0 x.brick ∙ up) f landed)
  | inr w ↦ inl (lands_request n call client m counted h (once_before n (e ∷ es) m runs counted once) e runs.0 come.0 x said q body up w)
]

pub heard_along : (n call client : ℕ) (es : List Entry) (m : Net) → IsRun n es m → AllCome es m → AllSend es m → IsCounted n m → AsksOnce (run es m) → IsCalm n m call client
    → (x : Message) (re : ℕ) (reply : Reply) → m.said x.no ≡ Some x → x.body ≡ ToClient re reply → m.flying x.no ≡ true → (run es m).flying x.no ≡ false → Has (λ e. e ≡ Heard x.no) es
heard_along n call client [] m runs come sends counted once h x re reply said body flies landed = differ (m.flying x.no) _ flies landed
heard_along n call client (e ∷ es) m runs come sends counted once h x re reply said body flies landed = elim (flight n call client m counted h (once_before n (e ∷ es) m runs counted once) e runs.0 come.0 x.no flies) [
  | inl f ↦ inr (heard_along n call client es (after m e) runs.1 come.1 sends.1 (comes n m e runs.0 counted) once (calm_after n call client m counted h (once_before n (e ∷ es) m runs counted once) e runs.0 come.0 sends.0) x re reply
      (still_said n call client m counted h (once_before n (e ∷ es) m runs counted once) e runs.0 come.0 x.no x said) body f landed)
  | inr w ↦ inl (lands_reply n call client m counted h (once_before n (e ∷ es) m runs counted once) e runs.0 come.0 x said re reply body w)
]
