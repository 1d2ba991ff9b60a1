-- What becomes of the asks that a call sent: each stands, or is released.
use Rattle.std.proofs.Common.{◌≡◌, ◌⊎◌, inl, inr, ⊎_elim, ℕ, ◌+◌, Bool, true, false, cond, ◌==◌, Option, Some, None, List, [], ◌∷◌, length, refl, sym, ◌∙◌, ap, subst, arith, eqb-true}
use Rattle.std.specs.List.{Contains}
use Rattle.std.proofs.lemmas.Bool.{cases_Bool}
use Rattle.std.proofs.lemmas.List.Elements.{Contains-append_cases, Contains-append_right, Contains-push_cases}
use Rattle.ec_attr.specs.declared.gfid.Gfid.{Gfid}
use Rattle.ec_attr.specs.declared.kind.Domain.{Domain}
use Rattle.ec_attr.specs.declared.kind.Domain.TheVariants.{Inode, Heal}
use Rattle.ec_attr.specs.declared.kind.LockKind.{LockKind}
use Rattle.ec_store.specs.Put.{put}
use Rattle.ec_conduct.specs.Account.{Account, Dealings, Exchange, Lock, Place, Wait, account_from, after, asked, at, begun, filed, gave_up, gfid_of, granted, heard_by, left_by, noted, over, released, sent, told, with_place, without}
use Rattle.ec_conduct.specs.Conduct.{KeepsFrom, May, MaySend}
use Rattle.ec_conduct.specs.Locks.{MayAsk}
use Rattle.ec_conduct.specs.Own.{Own, Answers, GivesUp, Hears, Sends}
use Rattle.ec_wire.specs.declared.reply.Reply.{Reply}
use Rattle.ec_wire.specs.declared.request.Request.{Request}
use Rattle.ec_wire.specs.declared.request.Request.TheVariants.{Ask, Release, Query, PreOp, ReadChunks, WriteChunks, SetLength, PostOp, Clear, NameGet, NamesAfter, NameSet, NamesPut, Make, Made, Unmake, Mark, Unmark, GfidsAfter}
use Rattle.ec_clients.proofs.Places.{put_here, put_is}

-- the ask that isn't released
abbrev pub lock_of : Domain → Place → Option Lock
lock_of Inode p = p.inode
lock_of Heal p = p.heal

-- ask i isn't released
pub record Stands (domain : Domain) (i : ℕ) (p : Place) : Type 0 where
  pub lock : Lock
  pub here : lock_of domain p ≡ Some lock
  pub number : lock.number ≡ i

-- own entries release ask i
pub record Lets (es : List Own) (i : ℕ) : Type 0 where
  pub brick : ℕ
  pub number : ℕ
  pub gfid : Gfid
  pub has : Contains es (Sends brick number (Release gfid i))

-- what stands where it stood, where one place is another
on_dealings : (P : Place → Type 0) (f : ℕ → Dealings) (x : ℕ) (d : Dealings) (g b : ℕ) → (g ≡ x → P (d.place b)) → P ((f g).place b) → P ((put f x d g).place b)
on_dealings P f x d g b here other = ⊎_elim (λ p. subst (λ (z : Dealings). P (z.place b)) (sym p.1) (here p.0)) (λ p. subst (λ (z : Dealings). P (z.place b)) (sym p.1) other) (put_is f x d g)

on_place : (P : Place → Type 0) (d : Dealings) (y : ℕ) (q : Place) (b : ℕ) → (b ≡ y → P q) → P (d.place b) → P ((with_place d y q).place b)
on_place P d y q b here other = ⊎_elim (λ p. subst P (sym p.1) (here p.0)) (λ p. subst P (sym p.1) other) (put_is d.place y q b)

both_there : (c : Account) (P : Place → Type 0) (g b x y : ℕ) → g ≡ x → b ≡ y → P (at c g b) → P (at c x y)
both_there c P g b x y e f h = subst (λ (z : ℕ). P (at c x z)) f (subst (λ (z : ℕ). P (at c z b)) e h)

-- a grant leaves an ask as it is
granted_stands : (domain : Domain) (i : ℕ) (p : Place) (e : Exchange) → Stands domain i p → Stands domain i (noted p e)
granted_stands Inode i p e h = record { lock = _; here = ap (λ (o : Option Lock). granted o e) h.here; number = h.number }
granted_stands Heal i p e h = record { lock = _; here = ap (λ (o : Option Lock). granted o e) h.here; number = h.number }

filed_stands : (c : Account) (b' : ℕ) (e : Exchange) (o : Option ℕ) (domain : Domain) (i g b : ℕ) → Stands domain i (at c g b) → Stands domain i (at (filed c b' e o) g b)
filed_stands c b' e None domain i g b h = h
filed_stands c b' e (Some x) domain i g b h = on_dealings (Stands domain i) c.on x (with_place (c.on x) b' (noted (at c x b') e)) g b
    (λ p. on_place (Stands domain i) (c.on x) b' (noted (at c x b') e) b
    (λ q. granted_stands domain i (at c x b') e (both_there c (Stands domain i) g b x b' p q h))
    (subst (λ (z : ℕ). Stands domain i (at c z b)) p h))
    h

over_stands : (c : Account) (b' : ℕ) (e : Exchange) (domain : Domain) (i g b : ℕ) → Stands domain i (at c g b) → Stands domain i (at (over c b' e) g b)
over_stands c b' e domain i g b h = filed_stands (record c { waits = put c.waits b' None; steps = c.steps + 1 }) b' e (gfid_of e.request) domain i g b h

heard_stands : (c : Account) (b' : ℕ) (o : Option Wait) (n : ℕ) (reply : Reply) (domain : Domain) (i g b : ℕ) → Stands domain i (at c g b) → Stands domain i (at (heard_by c b' o n reply) g b)
heard_stands c b' None n reply domain i g b h = h
heard_stands c b' (Some w) n reply domain i g b h = by (w.number == n)
  where
    by : (u : Bool) → Stands domain i (at (cond u (told c b' w reply) c) g b)
    by true = over_stands c b' (record { number = w.number; request = w.request; reply = Some reply }) domain i g b h
    by false = h

left_stands : (c : Account) (b' : ℕ) (o : Option Wait) (n : ℕ) (domain : Domain) (i g b : ℕ) → Stands domain i (at c g b) → Stands domain i (at (left_by c b' o n) g b)
left_stands c b' None n domain i g b h = h
left_stands c b' (Some w) n domain i g b h = by (w.number == n)
  where
    by : (u : Bool) → Stands domain i (at (cond u (gave_up c b' w) c) g b)
    by true = over_stands c b' (record { number = w.number; request = w.request; reply = None }) domain i g b h
    by false = h

-- a new window leaves the asks as they are
begun_stands : (d : Dealings) (o : Option ℕ) (domain : Domain) (i b : ℕ) → Stands domain i (d.place b) → Stands domain i ((begun d o).place b)
begun_stands d None domain i b h = h
begun_stands d (Some step) Inode i b h = record { lock = h.lock; here = h.here; number = h.number }
begun_stands d (Some step) Heal i b h = record { lock = h.lock; here = h.here; number = h.number }

-- where a brick is asked, no ask stands
no_lock : (domain : Domain) (i : ℕ) (p : Place) → lock_of domain p ≡ None → Stands domain i p → ⊥
no_lock domain i p e h = absurd (let bad : None ≡ Some h.lock = sym e ∙ h.here in cc)

asked_stands : (c : Account) (b' n : ℕ) (x : ℕ) (new domain : Domain) (i g b : ℕ) → MayAsk c b' x new → Stands domain i (at c g b) → Stands domain i ((put c.on x (asked (c.on x) b' n new) g).place b)
asked_stands c b' n x Inode domain i g b may h = on_dealings (Stands domain i) c.on x (asked (c.on x) b' n Inode) g b
    (λ p. on_place (Stands domain i) (begun (c.on x) (c.on x).queried) b' (record ((begun (c.on x) (c.on x).queried).place b') { inode = Some (record { number = n; granted = false }) }) b
    (λ q. here domain (both_there c (Stands domain i) g b x b' p q h))
    (begun_stands (c.on x) (c.on x).queried domain i b (subst (λ (z : ℕ). Stands domain i (at c z b)) p h)))
    h
  where
    here : (domain : Domain) → Stands domain i (at c x b') → Stands domain i (record ((begun (c.on x) (c.on x).queried).place b') { inode = Some (record { number = n; granted = false }) })
    here Inode k = absurd (no_lock Inode i (at c x b') may.once k)
    here Heal k = let y = begun_stands (c.on x) (c.on x).queried Heal i b' k in record { lock = y.lock; here = y.here; number = y.number }
asked_stands c b' n x Heal domain i g b may h = on_dealings (Stands domain i) c.on x (asked (c.on x) b' n Heal) g b
    (λ p. on_place (Stands domain i) (c.on x) b' (record ((c.on x).place b') { heal = Some (record { number = n; granted = false }) }) b
    (λ q. here domain (both_there c (Stands domain i) g b x b' p q h))
    (subst (λ (z : ℕ). Stands domain i (at c z b)) p h))
    h
  where
    here : (domain : Domain) → Stands domain i (at c x b') → Stands domain i (record ((c.on x).place b') { heal = Some (record { number = n; granted = false }) })
    here Heal k = absurd (no_lock Heal i (at c x b') may.once.0 k)
    here Inode k = record { lock = k.lock; here = k.here; number = k.number }

-- an ask stands, or it is this one that is released
abbrev pub OrIs : Domain → ℕ → ℕ → Place → Type 0
OrIs domain i n p = Stands domain i p ⊎ (n ≡ i)

without_stands : (domain : Domain) (i n : ℕ) (p : Place) → Stands domain i p → OrIs domain i n (released p n)
without_stands domain i n p h = by (cases_Bool (h.lock.number == n))
  where
    gone : lock_of domain (released p n) ≡ without (Some h.lock) n
    gone = each domain h.here
      where
        each : (x : Domain) → lock_of x p ≡ Some h.lock → lock_of x (released p n) ≡ without (Some h.lock) n
        each Inode e = ap (λ (o : Option Lock). without o n) e
        each Heal e = ap (λ (o : Option Lock). without o n) e

    by : ((h.lock.number == n) ≡ true) ⊎ ((h.lock.number == n) ≡ false) → OrIs domain i n (released p n)
    by (inl e) = inr (sym (eqb-true h.lock.number n e) ∙ h.number)
    by (inr e) = inl (record { lock = h.lock; here = gone ∙ ap (λ (u : Bool). cond u None (Some h.lock)) e; number = h.number })

released_stands : (c : Account) (b' n x : ℕ) (domain : Domain) (i g b : ℕ) → Stands domain i (at c g b) → OrIs domain i n ((put c.on x (with_place (c.on x) b' (released (at c x b') n)) g).place b)
released_stands c b' n x domain i g b h = on_dealings (OrIs domain i n) c.on x (with_place (c.on x) b' (released (at c x b') n)) g b
    (λ p. on_place (OrIs domain i n) (c.on x) b' (released (at c x b') n) b
    (λ q. without_stands domain i n (at c x b') (both_there c (Stands domain i) g b x b' p q h))
    (inl (subst (λ (z : ℕ). Stands domain i (at c z b)) p h)))
    (inl h)

-- other requests leave the places as they are
other_stands : (c : Account) (x : ℕ) (d : Dealings) (domain : Domain) (i g b : ℕ) → d.place ≡ (c.on x).place → Stands domain i (at c g b) → Stands domain i ((put c.on x d g).place b)
other_stands c x d domain i g b same h = on_dealings (Stands domain i) c.on x d g b (λ p. subst (λ (f : ℕ → Place). Stands domain i (f b)) (sym same) (subst (λ (z : ℕ). Stands domain i (at c z b)) p h)) h

-- the own entry that releases ask i
pub record IsReleaseOf (e : Own) (i : ℕ) : Type 0 where
  pub brick : ℕ
  pub number : ℕ
  pub gfid : Gfid
  pub is : e ≡ Sends brick number (Release gfid i)

sent_stands : (c : Account) (b' n : ℕ) (q : Request) (domain : Domain) (i g b : ℕ) → MaySend c b' q → Stands domain i (at c g b) → Stands domain i (at (sent c b' n q) g b) ⊎ IsReleaseOf (Sends b' n q) i
sent_stands c b' n (Ask h new kind) domain i g b may k = inl (asked_stands c b' n h.0 new domain i g b may.1 k)
sent_stands c b' n (Release h grant) domain i g b may k = ⊎_elim (λ s. inl s) (λ e. inr (record { brick = b'; number = n; gfid = h; is = ap (λ (z : ℕ). Sends b' n (Release h z)) e })) (released_stands c b' grant h.0 domain i g b k)
sent_stands c b' n (Query h grant) domain i g b may k = inl (other_stands c h.0 (record (c.on h.0) { queried = Some c.steps }) domain i g b refl k)
sent_stands c b' n (PreOp h grant version dirty) domain i g b may k = inl (other_stands c h.0 (record (c.on h.0) { dirty = Some dirty }) domain i g b refl k)
sent_stands c b' n (ReadChunks h grant first count) domain i g b may k = inl k
sent_stands c b' n (WriteChunks h grant first chunks) domain i g b may k = inl k
sent_stands c b' n (SetLength h grant keep length) domain i g b may k = inl k
sent_stands c b' n (PostOp h grant old new size attr) domain i g b may k = inl k
sent_stands c b' n (Clear h grant version) domain i g b may k = inl k
sent_stands c b' n (NameGet h grant name) domain i g b may k = inl k
sent_stands c b' n (NamesAfter h grant start) domain i g b may k = inl k
sent_stands c b' n (NameSet h grant name child) domain i g b may k = inl k
sent_stands c b' n (NamesPut h grant start upto list) domain i g b may k = inl k
sent_stands c b' n (Make h grant child) domain i g b may k = inl k
sent_stands c b' n (Made h grant child) domain i g b may k = inl k
sent_stands c b' n (Unmake h grant child) domain i g b may k = inl k
sent_stands c b' n (Mark h grant heal head) domain i g b may k = inl k
sent_stands c b' n (Unmark h grant version dirty) domain i g b may k = inl k
sent_stands c b' n (GfidsAfter start dirty) domain i g b may k = inl k

-- after an own entry an ask stands, or the entry releases it
one_stands : (c : Account) (e : Own) (domain : Domain) (i g b : ℕ) → May c e → Stands domain i (at c g b) → Stands domain i (at (after c e) g b) ⊎ IsReleaseOf e i
one_stands c (Sends b' n q) domain i g b may h = sent_stands c b' n q domain i g b may h
one_stands c (Hears b' n reply) domain i g b may h = inl (heard_stands c b' (c.waits b') n reply domain i g b h)
one_stands c (GivesUp b' n) domain i g b may h = inl (left_stands c b' (c.waits b') n domain i g b h)
one_stands c (Answers answer) domain i g b may h = inl h

lets_here : (e : Own) (es : List Own) (i : ℕ) → IsReleaseOf e i → Lets (e ∷ es) i
lets_here e es i r = record { brick = r.brick; number = r.number; gfid = r.gfid; has = (0, omega arith, r.is) }

lets_later : (e : Own) (es : List Own) (i : ℕ) → Lets es i → Lets (e ∷ es) i
lets_later e es i l = record { brick = l.brick; number = l.number; gfid = l.gfid; has = Contains-append_right (e ∷ []) es _ l.has }

all_stand : (c : Account) (es : List Own) (domain : Domain) (i g b : ℕ) → KeepsFrom c es → Stands domain i (at c g b) → Stands domain i (at (account_from c es) g b) ⊎ Lets es i
all_stand c [] domain i g b k h = inl h
all_stand c (e ∷ es) domain i g b k h = ⊎_elim
    (λ s. ⊎_elim (λ t. inl t) (λ l. inr (lets_later e es i l)) (all_stand (after c e) es domain i g b k.1 s))
    (λ r. inr (lets_here e es i r))
    (one_stands c e domain i g b k.0 h)

-- the first own entry, or a later one
first_or : (e : Own) (es : List Own) (x : Own) → Contains (e ∷ es) x → (e ≡ x) ⊎ Contains es x
first_or e es x h = ⊎_elim (λ a. ⊎_elim (λ n. absurd (let lt = n.1 in omega arith)) (λ s. inl s) (Contains-push_cases [] e x a)) (λ b. inr b) (Contains-append_cases (e ∷ []) es x h)

ask_stands : (c : Account) (b i : ℕ) (g : Gfid) (domain : Domain) (kind : LockKind) → Stands domain i (at (sent c b i (Ask g domain kind)) g.0 b)
ask_stands c b i g Inode kind = subst (λ (d : Dealings). Stands Inode i (d.place b)) (sym (put_here c.on g.0 (asked (c.on g.0) b i Inode)))
    (subst (Stands Inode i) (sym (put_here (begun (c.on g.0) (c.on g.0).queried).place b (record ((begun (c.on g.0) (c.on g.0).queried).place b) { inode = Some (record { number = i; granted = false }) }))) (record { lock = record { number = i; granted = false }; here = refl; number = refl }))
ask_stands c b i g Heal kind = subst (λ (d : Dealings). Stands Heal i (d.place b)) (sym (put_here c.on g.0 (asked (c.on g.0) b i Heal)))
    (subst (Stands Heal i) (sym (put_here (c.on g.0).place b (record ((c.on g.0).place b) { heal = Some (record { number = i; granted = false }) }))) (record { lock = record { number = i; granted = false }; here = refl; number = refl }))

-- an ask among own entries that keep the conduct stands in the end, or they release it
pub asks_end : (c : Account) (es : List Own) (b i : ℕ) (g : Gfid) (domain : Domain) (kind : LockKind) → KeepsFrom c es → Contains es (Sends b i (Ask g domain kind)) → Stands domain i (at (account_from c es) g.0 b) ⊎ Lets es i
asks_end c [] b i g domain kind k h = absurd (let lt = h.1 in omega arith)
asks_end c (e ∷ es) b i g domain kind k h = ⊎_elim
    (λ s. ⊎_elim (λ t. inl t) (λ l. inr (lets_later e es i l)) (all_stand (after c e) es domain i g.0 b k.1 (subst (λ (x : Own). Stands domain i (at (after c x) g.0 b)) (sym s) (ask_stands c b i g domain kind))))
    (λ later. ⊎_elim (λ t. inl t) (λ l. inr (lets_later e es i l)) (asks_end (after c e) es b i g domain kind k.1 later))
    (first_or e es (Sends b i (Ask g domain kind)) h)
