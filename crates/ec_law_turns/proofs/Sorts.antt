-- What a request that is sent, and one that is over, makes of an account's dealings with one gfid.
use Rattle.std.proofs.Common.{◌≡◌, ◌≢◌, ℕ, ◌+◌, Bool, true, false, ◌==◌, Option, Some, None, refl, sym, ◌∙◌, ap, subst}
use Rattle.ec_attr.specs.declared.gfid.Gfid.{Gfid}
use Rattle.ec_attr.specs.declared.kind.Domain.TheVariants.{Inode, Heal}
use Rattle.ec_attr.specs.declared.kind.LockKind.{LockKind}
use Rattle.ec_store.specs.Put.{put}
use Rattle.ec_wire.specs.declared.message.Body.TheVariants.{ToBrick}
use Rattle.ec_wire.specs.declared.request.Request.{Request}
use Rattle.ec_wire.specs.declared.request.Request.TheVariants.{Ask, Release, Query, PreOp, ReadChunks, WriteChunks, SetLength, PostOp, Clear, NameGet, NamesAfter, NameSet, NamesPut, Make, Made, Unmake, Mark, Unmark, GfidsAfter}
use Rattle.ec_conduct.specs.Account.{Account, Dealings, Exchange, asked, filed, gfid_of, noted, over, released, sent, with_place}
use Rattle.ec_conduct.specs.Conduct.{is_release}
use Rattle.ec_conduct.specs.Done.{is_query}
use Rattle.ec_law_base.specs.State.{State}
use Rattle.ec_law_ballots.specs.Act.{after}
use Rattle.ec_law_net.specs.Turns.{acts_sent, is_lock_on}
use Rattle.ec_law_net.proofs.Guarded.{IsGuarded}
use Rattle.ec_law_turns.proofs.Turned.{moment_apart, moment_same}
use Rattle.ec_law_turns.proofs.Basics.{differ, equal, put_here, put_there, some_is}

-- the request of a sort on the gfid, and the dealings after it
pub data Sort (g : ℕ) (c : Account) (b i : ℕ) (q : Request) : Type 0 where
  Locks : (x : Gfid) (kind : LockKind) → q ≡ Ask x Inode kind → x.0 ≡ g → (sent c b i q).on g ≡ asked (c.on g) b i Inode → Sort g c b i q
  Unlocks : (x : Gfid) (n : ℕ) → q ≡ Release x n → x.0 ≡ g → (sent c b i q).on g ≡ with_place (c.on g) b (released ((c.on g).place b) n) → Sort g c b i q
  Looks : (x : Gfid) (n : ℕ) → q ≡ Query x n → x.0 ≡ g → (sent c b i q).on g ≡ record (c.on g) { queried = Some c.steps } → Sort g c b i q
  Raises : (x : Gfid) (n at dirty : ℕ) → q ≡ PreOp x n at dirty → x.0 ≡ g → (sent c b i q).on g ≡ record (c.on g) { dirty = Some dirty } → Sort g c b i q
  Works : gfid_of q ≡ Some g → IsGuarded q → is_query q ≡ false → is_release q ≡ false → is_lock_on g (ToBrick q) ≡ false → ((s : State) (a t : ℕ) → (after (acts_sent g s a (ToBrick q)) s).moment t ≡ s.moment t) → (sent c b i q).on g ≡ c.on g → Sort g c b i q
  Apart : gfid_of q ≢ Some g → is_lock_on g (ToBrick q) ≡ false → ((s : State) (a t : ℕ) → (after (acts_sent g s a (ToBrick q)) s).moment t ≡ s.moment t) → (sent c b i q).on g ≡ c.on g → Sort g c b i q

apart : (x g : ℕ) → (x == g) ≡ false → Some x ≢ Some g
apart x g e h = differ x g e (some_is x g h)

other : (x g : ℕ) → (x == g) ≡ false → g ≢ x
other x g e h = differ x g e (sym h)

module _ (g : ℕ) (c : Account) (b i : ℕ) where
  locking : (x : Gfid) (kind : LockKind) → Sort g c b i (Ask x Inode kind)
  locking x kind = at (x.0 == g) refl
    where
      at : (t : Bool) → (x.0 == g) ≡ t → Sort g c b i (Ask x Inode kind)
      at true e = let f = equal x.0 g e in Locks x kind refl f (put_here c.on x.0 (asked (c.on x.0) b i Inode) g f ∙ ap (λ (y : ℕ). asked (c.on y) b i Inode) f)
      at false e = Apart (apart x.0 g e) e (λ s a t. moment_same g s a (Ask x Inode kind) t refl) (put_there c.on x.0 (asked (c.on x.0) b i Inode) g (other x.0 g e))

  healing : (x : Gfid) (kind : LockKind) → x.0 ≢ g → Sort g c b i (Ask x Heal kind)
  healing x kind ne = Apart (λ h. ne (some_is x.0 g h)) refl (λ s a t. moment_same g s a (Ask x Heal kind) t refl) (put_there c.on x.0 (asked (c.on x.0) b i Heal) g (λ h. ne (sym h)))

  releasing : (x : Gfid) (n : ℕ) → Sort g c b i (Release x n)
  releasing x n = at (x.0 == g) refl
    where
      dealt : ℕ → Dealings
      dealt y = with_place (c.on y) b (released ((c.on y).place b) n)

      at : (t : Bool) → (x.0 == g) ≡ t → Sort g c b i (Release x n)
      at true e = let f = equal x.0 g e in Unlocks x n refl f (put_here c.on x.0 (dealt x.0) g f ∙ ap dealt f)
      at false e = Apart (apart x.0 g e) refl (λ s a t. moment_same g s a (Release x n) t refl) (put_there c.on x.0 (dealt x.0) g (other x.0 g e))

  querying : (x : Gfid) (n : ℕ) → Sort g c b i (Query x n)
  querying x n = at (x.0 == g) refl
    where
      dealt : ℕ → Dealings
      dealt y = record (c.on y) { queried = Some c.steps }

      at : (t : Bool) → (x.0 == g) ≡ t → Sort g c b i (Query x n)
      at true e = let f = equal x.0 g e in Looks x n refl f (put_here c.on x.0 (dealt x.0) g f ∙ ap dealt f)
      at false e = Apart (apart x.0 g e) refl (λ s a t. moment_apart g s a x n t e) (put_there c.on x.0 (dealt x.0) g (other x.0 g e))

  raising : (x : Gfid) (n v dirty : ℕ) → Sort g c b i (PreOp x n v dirty)
  raising x n v dirty = at (x.0 == g) refl
    where
      dealt : ℕ → Dealings
      dealt y = record (c.on y) { dirty = Some dirty }

      at : (t : Bool) → (x.0 == g) ≡ t → Sort g c b i (PreOp x n v dirty)
      at true e = let f = equal x.0 g e in Raises x n v dirty refl f (put_here c.on x.0 (dealt x.0) g f ∙ ap dealt f)
      at false e = Apart (apart x.0 g e) refl (λ s a t. moment_same g s a (PreOp x n v dirty) t refl) (put_there c.on x.0 (dealt x.0) g (other x.0 g e))

  working : (q : Request) (x : ℕ) → gfid_of q ≡ Some x → IsGuarded q → is_release q ≡ false → is_lock_on g (ToBrick q) ≡ false → is_query q ≡ false → (sent c b i q).on g ≡ c.on g → Sort g c b i q
  working q x is guarded isnt lock look e = at (x == g) refl
    where
      at : (t : Bool) → (x == g) ≡ t → Sort g c b i q
      at true h = Works (is ∙ ap (λ (y : ℕ). Some y) (equal x g h)) guarded look isnt lock (λ s a t. moment_same g s a q t look) e
      at false h = Apart (λ k. apart x g h (sym is ∙ k)) lock (λ s a t. moment_same g s a q t look) e

  -- a call that doesn't ask for the Heal lock of the gfid
  pub sort : (q : Request) → ((x : Gfid) (kind : LockKind) → q ≡ Ask x Heal kind → x.0 ≢ g) → Sort g c b i q
  sort (Ask x Inode kind) isnt = locking x kind
  sort (Ask x Heal kind) isnt = healing x kind (isnt x kind refl)
  sort (Release x n) isnt = releasing x n
  sort (Query x n) isnt = querying x n
  sort (PreOp x n v dirty) isnt = raising x n v dirty
  sort (ReadChunks x n first count) isnt = working (ReadChunks x n first count) x.0 refl tt refl refl refl refl
  sort (WriteChunks x n first chunks) isnt = working (WriteChunks x n first chunks) x.0 refl tt refl refl refl refl
  sort (SetLength x n keep length) isnt = working (SetLength x n keep length) x.0 refl tt refl refl refl refl
  sort (PostOp x n old new size attr) isnt = working (PostOp x n old new size attr) x.0 refl tt refl refl refl refl
  sort (Clear x n version) isnt = working (Clear x n version) x.0 refl tt refl refl refl refl
  sort (NameGet x n name) isnt = working (NameGet x n name) x.0 refl tt refl refl refl refl
  sort (NamesAfter x n start) isnt = working (NamesAfter x n start) x.0 refl tt refl refl refl refl
  sort (NameSet x n name child) isnt = working (NameSet x n name child) x.0 refl tt refl refl refl refl
  sort (NamesPut x n start upto list) isnt = working (NamesPut x n start upto list) x.0 refl tt refl refl refl refl
  sort (Make x n child) isnt = working (Make x n child) x.0 refl tt refl refl refl refl
  sort (Made x n child) isnt = working (Made x n child) x.0 refl tt refl refl refl refl
  sort (Unmake x n child) isnt = working (Unmake x n child) x.0 refl tt refl refl refl refl
  sort (Mark x n heal head) isnt = working (Mark x n heal head) x.0 refl tt refl refl refl refl
  sort (Unmark x n version dirty) isnt = working (Unmark x n version dirty) x.0 refl tt refl refl refl refl
  sort (GfidsAfter start dirty) isnt = Apart (λ h. absurd (cc)) refl (λ s a t. refl) refl

  pub waits_sent : (q : Request) → is_release q ≡ false → (sent c b i q).waits ≡ put c.waits b (Some (record { number = i; request = q }))
  waits_sent (Ask x Inode kind) isnt = refl
  waits_sent (Ask x Heal kind) isnt = refl
  waits_sent (Release x n) isnt = absurd (cc)
  waits_sent (Query x n) isnt = refl
  waits_sent (PreOp x n v dirty) isnt = refl
  waits_sent q isnt = refl

  pub waits_kept : (q : Request) → is_release q ≡ true → (sent c b i q).waits ≡ c.waits
  waits_kept (Release x n) so = refl
  waits_kept q so = absurd (cc)

  pub steps_sent : (q : Request) → (sent c b i q).steps ≡ c.steps
  steps_sent (Ask x Inode kind) = refl
  steps_sent (Ask x Heal kind) = refl
  steps_sent (Release x n) = refl
  steps_sent (Query x n) = refl
  steps_sent (PreOp x n v dirty) = refl
  steps_sent q = refl

-- a request that is over
module _ (g : ℕ) (c : Account) (b : ℕ) (e : Exchange) where
  pub over_waits : (over c b e).waits ≡ put c.waits b None
  over_waits = at (gfid_of e.request)
    where
      at : (o : Option ℕ) → (filed (record c { waits = put c.waits b None; steps = c.steps + 1 }) b e o).waits ≡ put c.waits b None
      at None = refl
      at (Some x) = refl

  pub over_steps : (over c b e).steps ≡ c.steps + 1
  over_steps = at (gfid_of e.request)
    where
      at : (o : Option ℕ) → (filed (record c { waits = put c.waits b None; steps = c.steps + 1 }) b e o).steps ≡ c.steps + 1
      at None = refl
      at (Some x) = refl

  pub over_here : gfid_of e.request ≡ Some g → (over c b e).on g ≡ with_place (c.on g) b (noted ((c.on g).place b) e)
  over_here is = subst (λ (o : Option ℕ). (filed (record c { waits = put c.waits b None; steps = c.steps + 1 }) b e o).on g ≡ with_place (c.on g) b (noted ((c.on g).place b) e)) (sym is) (put_here c.on g (with_place (c.on g) b (noted ((c.on g).place b) e)) g refl)

  pub over_apart : gfid_of e.request ≢ Some g → (over c b e).on g ≡ c.on g
  over_apart = at (gfid_of e.request)
    where
      at : (o : Option ℕ) → o ≢ Some g → (filed (record c { waits = put c.waits b None; steps = c.steps + 1 }) b e o).on g ≡ c.on g
      at None ne = refl
      at (Some x) ne = put_there c.on x (with_place (c.on x) b (noted ((c.on x).place b) e)) g (λ h. ne (ap (λ (y : ℕ). Some y) (sym h)))
