-- What calls have heard of grants: their accounts, as they hear, give up and send.
use Rattle.std.proofs.Common.{◌≡◌, ◌≢◌, ◌⊎◌, ℕ, ◌+◌, ◌<◌, Bool, true, false, cond, ◌==◌, ◌&&◌, ◌||◌, Option, Some, None, List, [], ◌∷◌, refl, sym, ◌∙◌, ap, subst, arith, inl, inr, ⊎_elim}
use Rattle.ec_attr.specs.declared.gfid.Gfid.{Gfid}
use Rattle.ec_attr.specs.declared.kind.Domain.TheVariants.{Inode}
use Rattle.ec_attr.specs.declared.kind.LockKind.{LockKind}
use Rattle.ec_wire.specs.declared.message.Message.{Message}
use Rattle.ec_wire.specs.declared.reply.Reply.{Reply}
use Rattle.ec_wire.specs.declared.reply.Reply.TheVariants.{Granted}
use Rattle.ec_wire.specs.declared.request.Request.{Request}
use Rattle.ec_wire.specs.declared.request.Request.TheVariants.{Ask, Query}
use Rattle.ec_conduct.specs.Account.{Account, Dealings, Exchange, Lock, Place, Wait, begun, gave_up, gfid_of, granted, heard_by, is_granted, left_by, noted, over, released, sent, told, with_place, without}
use Rattle.ec_conduct.specs.Conduct.{MaySend}
use Rattle.ec_conduct.specs.Locks.{MayLock}
use Rattle.ec_conduct.specs.Standing.{holds}
use Rattle.ec_history.specs.Run.{Owed}
use Rattle.ec_law_base.specs.State.{State}
use Rattle.ec_law_turns.specs.Follows.{Follows, IsLock, Tracks}
use Rattle.ec_law_turns.specs.Orderly.{IsPlain}
use Rattle.ec_law_turns.specs.Replied.{AreTold, CallTold, GrantTold, LockTold, OwedTold, QueryTold, is_early, is_early_yet}
use Rattle.ec_law_turns.proofs.Allowed.{no_heal}
use Rattle.ec_law_turns.proofs.Basics.{differ, equal, put_here, put_there, some_is, some_none}
use Rattle.ec_law_turns.proofs.Sorts.{Sort, Apart, Locks, Looks, Raises, Unlocks, Works, over_apart as on_apart, over_here as on_here, over_steps, sort, steps_sent}

-- ## Later

module _ (g : ℕ) (said said' : ℕ → Option Message) (of of' : ℕ → ℕ) (s s' : State) (still : (i : ℕ) (x : Message) → said i ≡ Some x → (said' i ≡ Some x) × (of' i ≡ of i)) (yet : (a b : ℕ) → is_early_yet s a b ≡ true → is_early_yet s' a b ≡ true) (early : (a b : ℕ) → is_early s a b ≡ true → is_early s' a b ≡ true) where
  pub grant_later : (i : ℕ) → GrantTold g said of s i → GrantTold g said' of' s' i
  grant_later i h = let o = still i h.message h.is in record { message = h.message; is = o.0; at = λ x body on. subst (λ (t : ℕ). is_early_yet s' t h.message.brick ≡ true) (sym o.1) (yet (of i) h.message.brick (h.at x body on)) }

  pub query_later : (i : ℕ) → QueryTold g said of s i → QueryTold g said' of' s' i
  query_later i h = let o = still i h.message h.is in record { message = h.message; is = o.0; at = λ x body on. subst (λ (t : ℕ). is_early s' t h.message.brick ≡ true) (sym o.1) (early (of i) h.message.brick (h.at x body on)) }

  pub told_later : (steps : ℕ) (d : Dealings) → AreTold g said of s steps d → AreTold g said' of' s' steps d
  told_later steps d all b l is granted =
      let h = all b l is granted in
      let o = still l.number h.message h.is in
      record { message = h.message; is = o.0; at = λ x body on. ⊎_elim (λ e. inl (subst (λ (t : ℕ). is_early s' t h.message.brick ≡ true) (sym o.1) (early (of l.number) h.message.brick e))) (λ z. inr z) (h.at x body on) }

  pub owed_later : (owed : List Owed) → OwedTold g said of s owed → OwedTold g said' of' s' owed
  owed_later [] h = tt
  owed_later (o ∷ owed) h = (λ e. grant_later o.re (h.0 e), owed_later owed h.1)

-- ## A request is over

granted_by : (o : Option Lock) (e : Exchange) (l : Lock) → granted o e ≡ Some l → l.granted ≡ true → (k : Lock) × (o ≡ Some k) × (k.number ≡ l.number) × ((k.granted ≡ true) ⊎ ((k.number ≡ e.number) × (is_granted e.reply ≡ true)))
granted_by None e l h so = absurd (cc)
granted_by (Some k) e l h so =
    let same = some_is _ l h in
    (k, refl, ap (λ (x : Lock). x.number) same, at k.granted (k.number == e.number) (is_granted e.reply) refl refl refl (ap (λ (x : Lock). x.granted) same ∙ so))
  where
    at : (t u w : Bool) → k.granted ≡ t → (k.number == e.number) ≡ u → is_granted e.reply ≡ w → (t || (u && w)) ≡ true → (k.granted ≡ true) ⊎ ((k.number ≡ e.number) × (is_granted e.reply ≡ true))
    at true u w i j y z = inl i
    at false true true i j y z = inr (equal k.number e.number j, y)
    at false true false i j y z = absurd (cc)
    at false false w i j y z = absurd (cc)

was_granted : (reply : Reply) → is_granted (Some reply) ≡ true → reply ≡ Granted
was_granted Granted e = refl
was_granted reply e = absurd (cc)

module _ (g : ℕ) (said : ℕ → Option Message) (of : ℕ → ℕ) (s : State) where
  step_later : (steps : ℕ) (queried : Option ℕ) (i : ℕ) → LockTold g said of s steps queried i → LockTold g said of s (steps + 1) queried i
  step_later steps queried i h = record { message = h.message; is = h.is; at = λ x body on. ⊎_elim (λ e. inl e) (λ o. inr (o.0, o.1, let z = o.2 in omega (arith, z))) (h.at x body on) }

  over_told : (steps : ℕ) (d : Dealings) → AreTold g said of s steps d → (b : ℕ) (e : Exchange) → ((l : Lock) → (d.place b).inode ≡ Some l → l.number ≡ e.number → is_granted e.reply ≡ true → LockTold g said of s (steps + 1) d.queried l.number) → AreTold g said of s (steps + 1) (with_place d b (noted (d.place b) e))
  over_told steps d all b e new y l is so = at (y == b) refl
    where
      at : (t : Bool) → (y == b) ≡ t → LockTold g said of s (steps + 1) d.queried l.number
      at false h = step_later steps d.queried l.number (all y l (sym (ap (λ (p : Place). p.inode) (put_there d.place b (noted (d.place b) e) y (differ y b h))) ∙ is) so)
      at true h =
          let o = granted_by (d.place b).inode e l (sym (ap (λ (p : Place). p.inode) (put_here d.place b (noted (d.place b) e) y (sym (equal y b h)))) ∙ is) so in
          subst (λ (i : ℕ). LockTold g said of s (steps + 1) d.queried i) o.2 (⊎_elim (λ z. step_later steps d.queried o.0.number (all b o.0 o.1 z)) (λ z. new o.0 o.1 z.0 z.1) o.3)

  -- a grant that is heard came before the Queries, or after their step
  heard_now : (turn : ℕ → Option ℕ) (a : ℕ) (waits : ℕ → Option Wait) (steps : ℕ) (d : Dealings) → Tracks g said turn of s.moment a waits steps d → (b : ℕ) (l : Lock) → (d.place b).inode ≡ Some l → GrantTold g said of s l.number → LockTold g said of s (steps + 1) d.queried l.number
  heard_now turn a waits steps d f b l is h = record { message = h.message; is = h.is; at = λ x body on. by (is_early s (of l.number) h.message.brick) (s.moment (of l.number)) refl refl (h.at x body on) }
    where
      after_it : s.moment (of l.number) ≡ true → (o : Option ℕ) → d.queried ≡ o → (t : ℕ) × (d.queried ≡ Some t) × (t < steps + 1)
      after_it come None e = absurd (let z = sym come ∙ f.begins e (of l.number) (f.lock b l is).0 in cc)
      after_it come (Some t) e = (t, e, let z = (f.over t e).0 in omega (arith, z))

      by : (t u : Bool) → is_early s (of l.number) h.message.brick ≡ t → s.moment (of l.number) ≡ u → (t || u) ≡ true → (is_early s (of l.number) h.message.brick ≡ true) ⊎ ((t : ℕ) × (d.queried ≡ Some t) × (t < steps + 1))
      by true u i j z = inl i
      by false true i j z = inr (after_it j d.queried refl)
      by false false i j z = absurd (cc)

  parts : (c : Account) (steps : ℕ) (d : Dealings) → c.steps ≡ steps → c.on g ≡ d → AreTold g said of s steps d → CallTold g said of s c
  parts c steps d e f h = subst (λ (x : ℕ). AreTold g said of s x (c.on g)) (sym e) (subst (AreTold g said of s steps) (sym f) h)

  module _ (turn : ℕ → Option ℕ) (a : ℕ) (c : Account) (f : Follows g said turn of s.moment a c) (all : CallTold g said of s c) where
    ends : (b : ℕ) (e : Exchange) → (is_granted e.reply ≡ true → GrantTold g said of s e.number) → CallTold g said of s (over c b e)
    ends b e heard = at (gfid_of e.request) refl
      where
        apart : gfid_of e.request ≢ Some g → CallTold g said of s (over c b e)
        apart ne = parts (over c b e) (c.steps + 1) (c.on g) (over_steps g c b e) (on_apart g c b e ne) (λ y l is so. step_later c.steps (c.on g).queried l.number (all y l is so))

        here : gfid_of e.request ≡ Some g → CallTold g said of s (over c b e)
        here on = parts (over c b e) (c.steps + 1) (with_place (c.on g) b (noted ((c.on g).place b) e)) (over_steps g c b e) (on_here g c b e on) (over_told c.steps (c.on g) all b e (λ l is same so. heard_now turn a c.waits c.steps (c.on g) f b l is (subst (GrantTold g said of s) (sym same) (heard so))))

        at : (o : Option ℕ) → gfid_of e.request ≡ o → CallTold g said of s (over c b e)
        at None h = apart (λ z. let y = sym h ∙ z in cc)
        at (Some x) h = either (x == g) refl
          where
            either : (t : Bool) → (x == g) ≡ t → CallTold g said of s (over c b e)
            either true k = here (h ∙ ap (λ (y : ℕ). Some y) (equal x g k))
            either false k = apart (λ z. differ x g k (some_is x g (sym h ∙ z)))

    pub hears_told : (b i : ℕ) (reply : Reply) → (reply ≡ Granted → GrantTold g said of s i) → CallTold g said of s (heard_by c b (c.waits b) i reply)
    hears_told b i reply heard = at (c.waits b)
      where
        at : (o : Option Wait) → CallTold g said of s (heard_by c b o i reply)
        at None = all
        at (Some w) = either (w.number == i) refl
          where
            either : (t : Bool) → (w.number == i) ≡ t → CallTold g said of s (cond t (told c b w reply) c)
            either true h = ends b (record { number = w.number; request = w.request; reply = Some reply }) (λ so. subst (GrantTold g said of s) (sym (equal w.number i h)) (heard (was_granted reply so)))
            either false h = all

    pub gives_up_told : (b i : ℕ) → CallTold g said of s (left_by c b (c.waits b) i)
    gives_up_told b i = at (c.waits b)
      where
        at : (o : Option Wait) → CallTold g said of s (left_by c b o i)
        at None = all
        at (Some w) = either (w.number == i)
          where
            either : (t : Bool) → CallTold g said of s (cond t (gave_up c b w) c)
            either true = ends b (record { number = w.number; request = w.request; reply = None }) (λ so. absurd (cc))
            either false = all

    -- ## A request is sent

    abbrev new_ask : ℕ → Lock
    new_ask i = record { number = i; granted = false }

    module _ (b i : ℕ) (q : Request) (may : MaySend c b q) (plain : IsPlain c.given.op) (below : (y j : ℕ) → IsLock g said a y j → y < c.given.geometry.n) where
      held_lock : (o : Option Lock) (n : ℕ) → holds o n ≡ true → (l : Lock) × (o ≡ Some l) × (l.granted ≡ true) × (l.number ≡ n)
      held_lock None n h = absurd (cc)
      held_lock (Some l) n h = at l.granted (l.number == n) refl refl h
        where
          at : (t u : Bool) → l.granted ≡ t → (l.number == n) ≡ u → (t && u) ≡ true → (k : Lock) × (Some l ≡ Some k) × (k.granted ≡ true) × (k.number ≡ n)
          at true true e f h = (l, refl, e, equal l.number n f)
          at true false e f h = absurd (cc)
          at false u e f h = absurd (cc)

      -- what a Query goes under was told before the Queries
      before_queries : (x : Gfid) (n : ℕ) → q ≡ Query x n → x.0 ≡ g → (j : ℕ) → LockTold g said of s c.steps (c.on g).queried j → QueryTold g said of s j
      before_queries x n e on j h =
          let together = subst (λ (z : ℕ). ((c.on z).queried ≡ None) ⊎ ((c.on z).queried ≡ Some c.steps)) on (subst (MaySend c b) e may).1.together in
          record { message = h.message; is = h.is; at = λ y body is. ⊎_elim (λ z. z) (λ o. absurd (⊎_elim (λ z. some_none o.0 (sym o.1 ∙ z)) (λ z. let same = some_is o.0 c.steps (sym o.1 ∙ z) in let lt = o.2 in omega (arith, same, lt)) together)) (h.at y body is) }

      pub query_told : (x : Gfid) (n : ℕ) → q ≡ Query x n → x.0 ≡ g → QueryTold g said of s n
      query_told x n e on =
          let o = held_lock ((c.on g).place b).inode n (subst (λ (z : ℕ). holds ((c.on z).place b).inode n ≡ true) on (subst (MaySend c b) e may).1.grant_held) in
          before_queries x n e on n (subst (LockTold g said of s c.steps (c.on g).queried) o.3 (all b o.0 o.1 o.2))

      pub sends_told : CallTold g said of s (sent c b i q)
      sends_told = by_sort (sort g c b i q (λ x kind e h. no_heal c b q plain may x kind e))
        where
          done : (d : Dealings) → (sent c b i q).on g ≡ d → AreTold g said of s c.steps d → CallTold g said of s (sent c b i q)
          done d e h = parts (sent c b i q) c.steps d (steps_sent g c b i q) e h

          without_some : (o : Option Lock) (n : ℕ) (l : Lock) → without o n ≡ Some l → o ≡ Some l
          without_some None n l h = h
          without_some (Some y) n l h = at (y.number == n) h
            where
              at : (t : Bool) → cond t None (Some y) ≡ Some l → Some y ≡ Some l
              at true h = absurd (cc)
              at false h = h

          releases : (n : ℕ) → AreTold g said of s c.steps (with_place (c.on g) b (released ((c.on g).place b) n))
          releases n y l is so = at (y == b) refl
            where
              at : (t : Bool) → (y == b) ≡ t → LockTold g said of s c.steps (c.on g).queried l.number
              at true h = all b l (without_some ((c.on g).place b).inode n l (sym (ap (λ (p : Place). p.inode) (put_here (c.on g).place b (released ((c.on g).place b) n) y (sym (equal y b h)))) ∙ is)) so
              at false h = all y l (sym (ap (λ (p : Place). p.inode) (put_there (c.on g).place b (released ((c.on g).place b) n) y (differ y b h))) ∙ is) so

          joins : (d : Dealings) → AreTold g said of s c.steps d → AreTold g said of s c.steps (with_place d b (record (d.place b) { inode = Some (new_ask i) }))
          joins d h y l is so = at (y == b) refl
            where
              at : (t : Bool) → (y == b) ≡ t → LockTold g said of s c.steps d.queried l.number
              at true e = absurd (let z = ap (λ (k : Lock). k.granted) (some_is (new_ask i) l (sym (ap (λ (p : Place). p.inode) (put_here d.place b (record (d.place b) { inode = Some (new_ask i) }) y (sym (equal y b e)))) ∙ is)) ∙ so in cc)
              at false e = h y l (sym (ap (λ (p : Place). p.inode) (put_there d.place b (record (d.place b) { inode = Some (new_ask i) }) y (differ y b e))) ∙ is) so

          anew : (x : Gfid) (kind : LockKind) → q ≡ Ask x Inode kind → x.0 ≡ g → (o : Option ℕ) → (c.on g).queried ≡ o → AreTold g said of s c.steps (begun (c.on g) o)
          anew x kind e on None h y l is so = all y l is so
          anew x kind e on (Some t) h y l is so =
              let allowed : MayLock c b g = subst (MayLock c b) on (subst (MaySend c b) e may).1 in
              absurd (⊎_elim (λ z. some_none t (sym h ∙ z)) (λ z. some_none l (sym is ∙ z.0 y (below y l.number (f.lock y l is).1))) allowed.window)

          by_sort : Sort g c b i q → CallTold g said of s (sent c b i q)
          by_sort (Locks x kind e on d) = done (with_place (begun (c.on g) (c.on g).queried) b (record ((begun (c.on g) (c.on g).queried).place b) { inode = Some (new_ask i) })) d (joins (begun (c.on g) (c.on g).queried) (anew x kind e on (c.on g).queried refl))
          by_sort (Unlocks x n e on d) = done (with_place (c.on g) b (released ((c.on g).place b) n)) d (releases n)
          by_sort (Looks x n e on d) = done (record (c.on g) { queried = Some c.steps }) d (λ y l is so. let h = before_queries x n e on l.number (all y l is so) in record { message = h.message; is = h.is; at = λ z body o. inl (h.at z body o) })
          by_sort (Raises x n at dirty e on d) = done (record (c.on g) { dirty = Some dirty }) d all
          by_sort (Works on guarded unlooked rel other moments d) = done (c.on g) d all
          by_sort (Apart ne other moments d) = done (c.on g) d all
