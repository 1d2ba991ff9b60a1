-- What the conduct gives of a request that a call sends: no reply is awaited there, its lock is held, and no Heal lock is
-- asked for by a call that heals nothing.
use Rattle.std.proofs.Common.{◌≡◌, ◌≢◌, ℕ, Bool, true, false, cond, ◌==◌, ◌+◌, Option, Some, None, List, [], ◌∷◌, refl, ◌∙◌, subst, ⊎_elim}
use Rattle.ec_attr.specs.declared.gfid.Gfid.{Gfid}
use Rattle.ec_attr.specs.declared.kind.Domain.TheVariants.{Inode, Heal}
use Rattle.ec_attr.specs.declared.kind.LockKind.{LockKind}
use Rattle.ec_store.specs.Put.{put}
use Rattle.ec_wire.specs.declared.op.Op.{Op}
use Rattle.ec_wire.specs.declared.op.Op.TheVariants.{Heal as HealOp, Sweep}
use Rattle.ec_wire.specs.declared.request.Request.{Request}
use Rattle.ec_wire.specs.declared.request.Request.TheVariants.{Ask, Release, Query, PreOp, ReadChunks, WriteChunks, SetLength, PostOp, Clear, NameGet, NamesAfter, NameSet, NamesPut, Make, Made, Unmake, Mark, Unmark, GfidsAfter}
use Rattle.ec_conduct.specs.Account.{Account, Exchange, Lock, Wait, account_from, after, at, filed, gave_up, gfid_of, heard_by, left_by, over, sent, told}
use Rattle.ec_conduct.specs.Children.{MayRemove}
use Rattle.ec_conduct.specs.Conduct.{MaySend, is_release}
use Rattle.ec_conduct.specs.Given.{Given}
use Rattle.ec_conduct.specs.Locks.{heals}
use Rattle.ec_conduct.specs.Opened.{account, opened}
use Rattle.ec_conduct.specs.Own.{Own, Sends, Hears, GivesUp, Answers}
use Rattle.ec_conduct.specs.Standing.{holds, is_held}
use Rattle.ec_history.specs.Story.{is_heal}
use Rattle.ec_law_net.proofs.Guarded.{IsGuarded}
use Rattle.ec_law_turns.specs.Orderly.{IsPlain}
use Rattle.ec_law_turns.proofs.Basics.{some_is}

pub free : (c : Account) (b : ℕ) (q : Request) → MaySend c b q → is_release q ≡ false → c.waits b ≡ None
free c b (Ask x domain kind) h isnt = h.0.idle
free c b (Release x n) h isnt = absurd (cc)
free c b (Query x n) h isnt = h.0.idle
free c b (PreOp x n v dirty) h isnt = h.0.idle
free c b (ReadChunks x n first count) h isnt = h.0.idle
free c b (WriteChunks x n first chunks) h isnt = h.0.idle
free c b (SetLength x n keep length) h isnt = h.0.idle
free c b (PostOp x n old new size attr) h isnt = h.0.idle
free c b (Clear x n version) h isnt = h.0.idle
free c b (NameGet x n name) h isnt = h.0.idle
free c b (NamesAfter x n start) h isnt = h.0.idle
free c b (NameSet x n name child) h isnt = h.0.idle
free c b (NamesPut x n start upto list) h isnt = h.0.idle
free c b (Make x n child) h isnt = h.0.idle
free c b (Made x n child) h isnt = h.0.idle
free c b (Unmake x n child) h isnt = h.0.idle
free c b (Mark x n heal head) h isnt = h.0.idle
free c b (Unmark x n version dirty) h isnt = h.0.idle
free c b (GfidsAfter start dirty) h isnt = h.1

pub holds_some : (o : Option Lock) (n : ℕ) → holds o n ≡ true → o ≢ None
holds_some None n h e = absurd (cc)
holds_some (Some l) n h e = absurd (cc)

pub held_some : (o : Option Lock) → is_held o ≡ true → o ≢ None
held_some None h e = absurd (cc)
held_some (Some l) h e = absurd (cc)

removes : (op : Op) (c : Account) (b x n child : ℕ) → MayRemove op c b x n child → holds (at c x b).inode n ≡ true
removes (Sweep true) c b x n child h = h.grant_held
removes (Sweep false) c b x n child h = absurd h
removes op c b x n child h = h.grant_held

-- what a grant guards goes where the call has the content
module _ (c : Account) (b : ℕ) where
  by_grant : (x n y : ℕ) → Some x ≡ Some y → holds (at c x b).inode n ≡ true → (at c y b).inode ≢ None
  by_grant x n y e h = subst (λ (z : ℕ). (at c z b).inode ≢ None) (some_is x y e) (holds_some (at c x b).inode n h)

  by_lock : (x y : ℕ) → Some x ≡ Some y → is_held (at c x b).inode ≡ true → (at c y b).inode ≢ None
  by_lock x y e h = subst (λ (z : ℕ). (at c z b).inode ≢ None) (some_is x y e) (held_some (at c x b).inode h)

  pub locked : (q : Request) (y : ℕ) → IsGuarded q → gfid_of q ≡ Some y → MaySend c b q → (at c y b).inode ≢ None
  locked (Ask x domain kind) y w e h = absurd w
  locked (Release x n) y w e h = absurd w
  locked (Query x n) y w e h = by_grant x.0 n y e h.1.grant_held
  locked (PreOp x n v dirty) y w e h = by_grant x.0 n y e h.1.grant_held
  locked (ReadChunks x n first count) y w e h = by_grant x.0 n y e h.1
  locked (WriteChunks x n first chunks) y w e h = ⊎_elim (λ k. by_grant x.0 n y e k.change.grant_held) (λ k. by_lock x.0 y e k.rebuild.locked) h.1
  locked (SetLength x n keep length) y w e h = ⊎_elim (λ k. by_grant x.0 n y e k.change.grant_held) (λ k. by_lock x.0 y e k.rebuild.locked) h.1
  locked (PostOp x n old new size attr) y w e h = by_grant x.0 n y e h.1.grant_held
  locked (Clear x n version) y w e h = by_grant x.0 n y e h.1.grant_held
  locked (NameGet x n name) y w e h = by_grant x.0 n y e h.1
  locked (NamesAfter x n start) y w e h = by_grant x.0 n y e h.1
  locked (NameSet x n name child) y w e h = by_grant x.0 n y e h.1.change.grant_held
  locked (NamesPut x n start upto list) y w e h = by_lock x.0 y e h.1.rebuild.locked
  locked (Make x n child) y w e h = by_grant x.0 n y e h.1.change.grant_held
  locked (Made x n child) y w e h = by_grant x.0 n y e h.1.grant_held
  locked (Unmake x n child) y w e h = by_grant x.0 n y e (removes c.given.op c b x.0 n child.0 h.1)
  locked (Mark x n heal head) y w e h = by_grant x.0 n y e h.1.grant_held
  locked (Unmark x n version dirty) y w e h = by_lock x.0 y e h.1.rebuild.locked
  locked (GfidsAfter start dirty) y w e h = absurd w

heals_none : (op : Op) (g : ℕ) → is_heal op ≡ false → heals op g ≡ true → ⊥
heals_none (HealOp h) g isnt so = cc
heals_none (Sweep full) g isnt so = cc
heals_none op g isnt so = cc

pub no_heal : (c : Account) (b : ℕ) (q : Request) → IsPlain c.given.op → MaySend c b q → (x : Gfid) (kind : LockKind) → q ≡ Ask x Heal kind → ⊥
no_heal c b q plain may x kind e = heals_none c.given.op x.0 plain (subst (MaySend c b) e may).1.heals

-- ## What a call begins with stays

sent_given : (c : Account) (b i : ℕ) (q : Request) → (sent c b i q).given ≡ c.given
sent_given c b i (Ask x Inode kind) = refl
sent_given c b i (Ask x Heal kind) = refl
sent_given c b i (Release x n) = refl
sent_given c b i (Query x n) = refl
sent_given c b i (PreOp x n v dirty) = refl
sent_given c b i q = refl

over_given : (c : Account) (b : ℕ) (e : Exchange) → (over c b e).given ≡ c.given
over_given c b e = at (gfid_of e.request)
  where
    at : (o : Option ℕ) → (filed (record c { waits = put c.waits b None; steps = c.steps + 1 }) b e o).given ≡ c.given
    at None = refl
    at (Some x) = refl

pub after_given : (c : Account) (e : Own) → (after c e).given ≡ c.given
after_given c (Sends b i q) = sent_given c b i q
after_given c (Hears b i reply) = at (c.waits b)
  where
    at : (o : Option Wait) → (heard_by c b o i reply).given ≡ c.given
    at None = refl
    at (Some w) = either (w.number == i)
      where
        either : (t : Bool) → (cond t (told c b w reply) c).given ≡ c.given
        either true = over_given c b (record { number = w.number; request = w.request; reply = Some reply })
        either false = refl
after_given c (GivesUp b i) = at (c.waits b)
  where
    at : (o : Option Wait) → (left_by c b o i).given ≡ c.given
    at None = refl
    at (Some w) = either (w.number == i)
      where
        either : (t : Bool) → (cond t (gave_up c b w) c).given ≡ c.given
        either true = over_given c b (record { number = w.number; request = w.request; reply = None })
        either false = refl
after_given c (Answers answer) = refl

from_given : (c : Account) (es : List Own) → (account_from c es).given ≡ c.given
from_given c [] = refl
from_given c (e ∷ es) = from_given (after c e) es ∙ after_given c e

pub account_given : (given : Given) (es : List Own) → (account given es).given ≡ given
account_given given es = from_given (opened given) es
