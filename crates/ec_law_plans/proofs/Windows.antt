-- What is over in a call's window on a gfid was asked of that gfid.
use Rattle.std.proofs.Common.{◌≡◌, ℕ, ◌+◌, Bool, true, false, cond, ◌==◌, Option, Some, None, List, [], ◌∷◌, refl, sym, subst}
use Rattle.ec_attr.specs.declared.kind.Domain.{Domain}
use Rattle.ec_attr.specs.declared.kind.Domain.TheVariants.{Heal, Inode}
use Rattle.ec_store.specs.Put.{put}
use Rattle.ec_wire.specs.declared.reply.Reply.{Reply}
use Rattle.ec_wire.specs.declared.request.Request.{Request}
use Rattle.ec_wire.specs.declared.request.Request.TheVariants.{Ask, PreOp, Query, Release}
use Rattle.ec_conduct.specs.Account.{Account, Dealings, Exchange, Place, Wait, account_from, after, asked, at, begun, filed, gfid_of, heard_by, left_by, noted, over, released, sent, with_place}
use Rattle.ec_conduct.specs.Done.{changes, is_change, is_pre, since}
use Rattle.ec_conduct.specs.Given.{Given}
use Rattle.ec_conduct.specs.Opened.{account, kept_dealings, opened}
use Rattle.ec_conduct.specs.Own.{Answers, GivesUp, Hears, Own, Sends}
use Rattle.ec_conduct.specs.Standing.{changes_at}
use Rattle.ec_conduct.specs.declared.kept.Kept.{Kept}
use Rattle.ec_law_turns.specs.Follows.{All}
use Rattle.ec_law_turns.proofs.Basics.{equal}

-- exchanges on gfid g
abbrev AreOn : ℕ → List Exchange → Type 0
AreOn g es = All (λ e. gfid_of e.request ≡ Some g) es

abbrev DealingsOn : ℕ → Dealings → Type 0
DealingsOn g d = (x : ℕ) → AreOn g (d.place x).window

abbrev AllOn : (ℕ → Dealings) → Type 0
AllOn on = (g : ℕ) → DealingsOn g (on g)

place_on : (g : ℕ) (d : Dealings) (b : ℕ) (p : Place) → DealingsOn g d → AreOn g p.window → DealingsOn g (with_place d b p)
place_on g d b p all h x = by (x == b)
  where
    by : (t : Bool) → AreOn g (cond t p (d.place x)).window
    by true = h
    by false = all x

put_on : (on : ℕ → Dealings) (h : ℕ) (d : Dealings) → DealingsOn h d → AllOn on → AllOn (put on h d)
put_on on h d own all g = by (g == h) refl
  where
    by : (t : Bool) → (g == h) ≡ t → DealingsOn g (cond t d (on g))
    by true e = subst (λ (y : ℕ). DealingsOn y d) (sym (equal g h e)) own
    by false e = all g

begun_on : (g : ℕ) (d : Dealings) (o : Option ℕ) → DealingsOn g d → DealingsOn g (begun d o)
begun_on g d None h = h
begun_on g d (Some step) h = λ x. tt

asked_on : (g : ℕ) (d : Dealings) (b i : ℕ) (domain : Domain) → DealingsOn g d → DealingsOn g (asked d b i domain)
asked_on g d b i Inode h = place_on g (begun d d.queried) b _ (begun_on g d d.queried h) (begun_on g d d.queried h b)
asked_on g d b i Heal h = place_on g d b _ h (h b)

sent_on : (c : Account) (b i : ℕ) (r : Request) → AllOn c.on → AllOn (sent c b i r).on
sent_on c b i (Ask g domain kind) all = put_on c.on g.0 (asked (c.on g.0) b i domain) (asked_on g.0 (c.on g.0) b i domain (all g.0)) all
sent_on c b i (Release g grant) all = put_on c.on g.0 (with_place (c.on g.0) b (released (at c g.0 b) grant)) (place_on g.0 (c.on g.0) b (released (at c g.0 b) grant) (all g.0) (all g.0 b)) all
sent_on c b i (Query g grant) all = put_on c.on g.0 (record (c.on g.0) { queried = Some c.steps }) (all g.0) all
sent_on c b i (PreOp g grant version dirty) all = put_on c.on g.0 (record (c.on g.0) { dirty = Some dirty }) (all g.0) all
sent_on c b i r all = all

filed_on : (c : Account) (b : ℕ) (e : Exchange) (o : Option ℕ) → gfid_of e.request ≡ o → AllOn c.on → AllOn (filed c b e o).on
filed_on c b e None is all = all
filed_on c b e (Some g) is all = put_on c.on g (with_place (c.on g) b (noted (at c g b) e)) (place_on g (c.on g) b (noted (at c g b) e) (all g) (is, all g b)) all

over_on : (c : Account) (b : ℕ) (e : Exchange) → AllOn c.on → AllOn (over c b e).on
over_on c b e all = filed_on (record c { waits = put c.waits b None; steps = c.steps + 1 }) b e (gfid_of e.request) refl all

heard_on : (c : Account) (b : ℕ) (w : Option Wait) (i : ℕ) (reply : Reply) → AllOn c.on → AllOn (heard_by c b w i reply).on
heard_on c b None i reply all = all
heard_on c b (Some w) i reply all = by (w.number == i)
  where
    by : (t : Bool) → AllOn (cond t (over c b (record { number = w.number; request = w.request; reply = Some reply })) c).on
    by true = over_on c b (record { number = w.number; request = w.request; reply = Some reply }) all
    by false = all

left_on : (c : Account) (b : ℕ) (w : Option Wait) (i : ℕ) → AllOn c.on → AllOn (left_by c b w i).on
left_on c b None i all = all
left_on c b (Some w) i all = by (w.number == i)
  where
    by : (t : Bool) → AllOn (cond t (over c b (record { number = w.number; request = w.request; reply = None })) c).on
    by true = over_on c b (record { number = w.number; request = w.request; reply = None }) all
    by false = all

after_on : (c : Account) (e : Own) → AllOn c.on → AllOn (after c e).on
after_on c (Sends b i r) all = sent_on c b i r all
after_on c (Hears b i reply) all = heard_on c b (c.waits b) i reply all
after_on c (GivesUp b i) all = left_on c b (c.waits b) i all
after_on c (Answers answer) all = all

from_on : (es : List Own) (c : Account) → AllOn c.on → AllOn (account_from c es).on
from_on [] c all = all
from_on (e ∷ es) c all = from_on es (after c e) (after_on c e all)

opened_on : (o : Option Kept) → o ≡ None → AllOn (kept_dealings o)
opened_on None none = λ g x. tt
opened_on (Some kept) none = absurd (cc)

account_on : (given : Given) → given.kept ≡ None → (es : List Own) → AllOn (account given es).on
account_on given none es = from_on es (opened given) (opened_on given.kept none)

-- ## Changes

-- requests on gfid g
abbrev pub RequestsOn : ℕ → List Request → Type 0
RequestsOn g [] = Unit {0}
RequestsOn g (r ∷ rs) = (gfid_of r ≡ Some g) × RequestsOn g rs

since_on : (g : ℕ) (p : Request → Bool) (es : List Exchange) → AreOn g es → AreOn g (since p es)
since_on g p [] h = tt
since_on g p (e ∷ es) h = by (p e.request) (since_on g p es h.1)
  where
    by : (t : Bool) → AreOn g (since p es) → AreOn g (cond t [] (e ∷ since p es))
    by true more = tt
    by false more = (h.0, more)

changes_on : (g : ℕ) (es : List Exchange) → AreOn g es → RequestsOn g (changes es)
changes_on g [] h = tt
changes_on g (e ∷ es) h = by (is_change e.request) (changes_on g es h.1)
  where
    by : (t : Bool) → RequestsOn g (changes es) → RequestsOn g (cond t (e.request ∷ changes es) (changes es))
    by true more = (h.0, more)
    by false more = more

-- the changes that a call sent a brick are on the gfid
pub sent_changes : (given : Given) → given.kept ≡ None → (own : List Own) (g b : ℕ) → RequestsOn g (changes_at (at (account given own) g b))
sent_changes given none own g b = changes_on g (since is_pre (at (account given own) g b).window) (since_on g is_pre (at (account given own) g b).window (account_on given none own g b))
