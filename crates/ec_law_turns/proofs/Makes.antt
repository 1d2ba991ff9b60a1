-- Where a call sends Makes and Mades: under the directory in which it makes its child.
use Rattle.std.proofs.Common.{◌≡◌, ◌≢◌, ℕ, ◌<◌, Bool, true, false, cond, ◌==◌, ◌&&◌, ◌||◌, Option, Some, None, List, [], ◌∷◌, refl, sym, ◌∙◌, ap, subst, ⊎_elim}
use Rattle.ec_attr.specs.declared.gfid.Gfid.{Gfid}
use Rattle.ec_attr.specs.declared.kind.Domain.TheVariants.{Inode}
use Rattle.ec_wire.specs.declared.op.Op.{Op}
use Rattle.ec_wire.specs.declared.reply.Reply.{Reply}
use Rattle.ec_wire.specs.declared.request.Request.{Request}
use Rattle.ec_wire.specs.declared.request.Request.TheVariants.{Make, Made}
use Rattle.ec_conduct.specs.Account.{Account, Dealings, Exchange, Place, Wait, account_from, after, asked, at, begun, gave_up, gfid_of, heard_by, left_by, noted, over, released, renewed, sent, told, with_place}
use Rattle.ec_conduct.specs.Conduct.{Keeps, KeepsFrom, MaySend, is_release}
use Rattle.ec_conduct.specs.Data.{makes_child}
use Rattle.ec_conduct.specs.Done.{did, is_done, is_make, tried}
use Rattle.ec_conduct.specs.Given.{Given}
use Rattle.ec_conduct.specs.Opened.{account, kept_dealings, opened}
use Rattle.ec_conduct.specs.Own.{Own, Sends, Hears, GivesUp, Answers}
use Rattle.ec_conduct.specs.declared.kept.Kept.{Kept}
use Rattle.ec_law_turns.specs.Orderly.{IsPlain}
use Rattle.ec_law_turns.proofs.Allowed.{account_given, after_given, no_heal}
use Rattle.ec_law_turns.proofs.Basics.{differ, equal, put_here, put_some, put_there, some_is, some_none, wait_of}
use Rattle.ec_law_turns.proofs.Sorts.{Sort, over_apart, over_here, over_waits, sort, waits_kept, waits_sent}
use Rattle.ec_law_turns.proofs.Sorts.Sort.{Locks, Unlocks, Looks, Raises, Works, Apart}

-- Makes are waited for, and are over in this window, only of the directory in which the call makes its child.
record MakesThere (op : Op) (c : Account) : Type 0 where
  waits : (h b : ℕ) (w : Wait) → makes_child op h ≡ false → c.waits b ≡ Some w → gfid_of w.request ≡ Some h → is_make w.request ≡ false
  windows : (h b : ℕ) → makes_child op h ≡ false → tried is_make ((c.on h).place b).window ≡ false

no_make : (op : Op) (c : Account) (b h : ℕ) (q : Request) → c.given.op ≡ op → makes_child op h ≡ false → gfid_of q ≡ Some h → MaySend c b q → is_make q ≡ false
no_make op c b h (Make x n child) same isnt on may = let o = sym (ap (λ (y : ℕ). makes_child op y) (some_is x.0 h on)) ∙ (ap (λ (y : Op). makes_child y x.0) (sym same) ∙ may.1.op) in let y = sym isnt ∙ o in absurd (cc)
no_make op c b h q same isnt on may = refl

-- ## A request is sent

-- the windows at a place, where another one changes but for its window, or all are emptied
module _ (d : Dealings) (none : (b : ℕ) → tried is_make (d.place b).window ≡ false) where
  placed : (x : ℕ) (p : Place) → p.window ≡ (d.place x).window → (b : ℕ) → tried is_make ((with_place d x p).place b).window ≡ false
  placed x p e b = either (b == x) refl
    where
      either : (t : Bool) → (b == x) ≡ t → tried is_make ((with_place d x p).place b).window ≡ false
      either true h = ap (λ (y : Place). tried is_make y.window) (put_here d.place x p b (sym (equal b x h))) ∙ (ap (tried is_make) e ∙ none x)
      either false h = ap (λ (y : Place). tried is_make y.window) (put_there d.place x p b (differ b x h)) ∙ none b

asked_none : (d : Dealings) (x i : ℕ) → ((b : ℕ) → tried is_make (d.place b).window ≡ false) → (o : Option ℕ) (b : ℕ) → tried is_make ((with_place (begun d o) x (record ((begun d o).place x) { inode = Some (record { number = i; granted = false }) })).place b).window ≡ false
asked_none d x i none None b = placed d none x (record (d.place x) { inode = Some (record { number = i; granted = false }) }) refl b
asked_none d x i none (Some s) b = placed (renewed d) (λ b. refl) x (record ((renewed d).place x) { inode = Some (record { number = i; granted = false }) }) refl b

sends : (op : Op) (c : Account) (b i : ℕ) (q : Request) → c.given.op ≡ op → IsPlain op → MaySend c b q → MakesThere op c → MakesThere op (sent c b i q)
sends op c b i q same plain may k = record { waits = waits; windows = λ h x isnt. by_sort h x isnt (sort h c b i q (λ y kind e u. no_heal c b q (subst IsPlain (sym same) plain) may y kind e)) }
  where
    waits : (y x : ℕ) (w : Wait) → makes_child op y ≡ false → (sent c b i q).waits x ≡ Some w → gfid_of w.request ≡ Some y → is_make w.request ≡ false
    waits y x w isnt h on = either (is_release q) refl
      where
        either : (t : Bool) → is_release q ≡ t → is_make w.request ≡ false
        either true rel = k.waits y x w isnt (sym (ap (λ (f : ℕ → Option Wait). f x) (waits_kept x c b i q rel)) ∙ h) on
        either false rel = ⊎_elim (λ z. let is = some_is (wait_of i q) w z.1 in ap (λ (u : Wait). is_make u.request) (sym is) ∙ no_make op c b y q same isnt (ap (λ (u : Wait). gfid_of u.request) is ∙ on) may) (λ z. k.waits y x w isnt z.1 on) (put_some c.waits b (Some (wait_of i q)) x w (sym (ap (λ (f : ℕ → Option Wait). f x) (waits_sent x c b i q rel)) ∙ h))

    by_dealings : (h x : ℕ) (d : Dealings) → (sent c b i q).on h ≡ d → tried is_make (d.place x).window ≡ false → tried is_make (((sent c b i q).on h).place x).window ≡ false
    by_dealings h x d e u = ap (λ (y : Dealings). tried is_make (y.place x).window) e ∙ u

    by_sort : (h x : ℕ) → makes_child op h ≡ false → Sort h c b i q → tried is_make (((sent c b i q).on h).place x).window ≡ false
    by_sort h x isnt (Locks y kind e on d) = by_dealings h x (asked (c.on h) b i Inode) d (asked_none (c.on h) b i (λ y. k.windows h y isnt) (c.on h).queried x)
    by_sort h x isnt (Unlocks y n e on d) = by_dealings h x (with_place (c.on h) b (released ((c.on h).place b) n)) d (placed (c.on h) (λ y. k.windows h y isnt) b (released ((c.on h).place b) n) refl x)
    by_sort h x isnt (Looks y n e on d) = by_dealings h x (record (c.on h) { queried = Some c.steps }) d (k.windows h x isnt)
    by_sort h x isnt (Raises y n at dirty e on d) = by_dealings h x (record (c.on h) { dirty = Some dirty }) d (k.windows h x isnt)
    by_sort h x isnt (Works on guarded look rel other moments d) = by_dealings h x (c.on h) d (k.windows h x isnt)
    by_sort h x isnt (Apart on other moments d) = by_dealings h x (c.on h) d (k.windows h x isnt)

-- ## A request is over

ends : (op : Op) (c : Account) (b : ℕ) (w : Wait) (e : Exchange) → c.waits b ≡ Some w → e.request ≡ w.request → MakesThere op c → MakesThere op (over c b e)
ends op c b w e is request k = record {
  waits = λ h x y isnt z on. ⊎_elim (λ u. absurd (some_none y (sym u.1))) (λ u. k.waits h x y isnt u.1 on) (put_some c.waits b None x y (sym (ap (λ (f : ℕ → Option Wait). f x) (over_waits x c b e)) ∙ z));
  windows = λ h x isnt. at h x isnt (gfid_of e.request) refl;
}
  where
    one : (h : ℕ) → makes_child op h ≡ false → gfid_of e.request ≡ Some h → is_make e.request ≡ false
    one h isnt on = ap is_make request ∙ k.waits h b w isnt is (ap gfid_of (sym request) ∙ on)

    first : (t u : Bool) → t ≡ false → u ≡ false → (t || u) ≡ false
    first false u e f = f
    first true u e f = absurd (cc)

    here : (h x : ℕ) → makes_child op h ≡ false → gfid_of e.request ≡ Some h → tried is_make (((over c b e).on h).place x).window ≡ false
    here h x isnt on = ap (λ (y : Dealings). tried is_make (y.place x).window) (over_here h c b e on) ∙ either (x == b) refl
      where
        either : (t : Bool) → (x == b) ≡ t → tried is_make ((with_place (c.on h) b (noted ((c.on h).place b) e)).place x).window ≡ false
        either true z = ap (λ (y : Place). tried is_make y.window) (put_here (c.on h).place b (noted ((c.on h).place b) e) x (sym (equal x b z))) ∙ first (is_make e.request) (tried is_make ((c.on h).place b).window) (one h isnt on) (k.windows h b isnt)
        either false z = ap (λ (y : Place). tried is_make y.window) (put_there (c.on h).place b (noted ((c.on h).place b) e) x (differ x b z)) ∙ k.windows h x isnt

    there : (h x : ℕ) → makes_child op h ≡ false → gfid_of e.request ≢ Some h → tried is_make (((over c b e).on h).place x).window ≡ false
    there h x isnt ne = ap (λ (y : Dealings). tried is_make (y.place x).window) (over_apart h c b e ne) ∙ k.windows h x isnt

    at : (h x : ℕ) → makes_child op h ≡ false → (o : Option ℕ) → gfid_of e.request ≡ o → tried is_make (((over c b e).on h).place x).window ≡ false
    at h x isnt None z = there h x isnt (λ u. let y = sym z ∙ u in cc)
    at h x isnt (Some y) z = either (y == h) refl
      where
        either : (t : Bool) → (y == h) ≡ t → tried is_make (((over c b e).on h).place x).window ≡ false
        either true u = here h x isnt (z ∙ ap (λ (r : ℕ). Some r) (equal y h u))
        either false u = there h x isnt (λ r. differ y h u (some_is y h (sym z ∙ r)))

hears : (op : Op) (c : Account) (b i : ℕ) (reply : Reply) → MakesThere op c → MakesThere op (heard_by c b (c.waits b) i reply)
hears op c b i reply k = at (c.waits b) refl
  where
    at : (o : Option Wait) → c.waits b ≡ o → MakesThere op (heard_by c b o i reply)
    at None e = k
    at (Some w) e = either (w.number == i)
      where
        either : (t : Bool) → MakesThere op (cond t (told c b w reply) c)
        either true = ends op c b w (record { number = w.number; request = w.request; reply = Some reply }) e refl k
        either false = k

gives_up : (op : Op) (c : Account) (b i : ℕ) → MakesThere op c → MakesThere op (left_by c b (c.waits b) i)
gives_up op c b i k = at (c.waits b) refl
  where
    at : (o : Option Wait) → c.waits b ≡ o → MakesThere op (left_by c b o i)
    at None e = k
    at (Some w) e = either (w.number == i)
      where
        either : (t : Bool) → MakesThere op (cond t (gave_up c b w) c)
        either true = ends op c b w (record { number = w.number; request = w.request; reply = None }) e refl k
        either false = k

-- ## All own entries

goes : (op : Op) (c : Account) (es : List Own) → c.given.op ≡ op → IsPlain op → KeepsFrom c es → MakesThere op c → MakesThere op (account_from c es)
goes op c [] same plain keeps k = k
goes op c (Sends b i q ∷ es) same plain keeps k = goes op (after c (Sends b i q)) es (ap (λ (g : Given). g.op) (after_given c (Sends b i q)) ∙ same) plain keeps.1 (sends op c b i q same plain keeps.0 k)
goes op c (Hears b i reply ∷ es) same plain keeps k = goes op (after c (Hears b i reply)) es (ap (λ (g : Given). g.op) (after_given c (Hears b i reply)) ∙ same) plain keeps.1 (hears op c b i reply k)
goes op c (GivesUp b i ∷ es) same plain keeps k = goes op (after c (GivesUp b i)) es (ap (λ (g : Given). g.op) (after_given c (GivesUp b i)) ∙ same) plain keeps.1 (gives_up op c b i k)
goes op c (Answers answer ∷ es) same plain keeps k = goes op (after c (Answers answer)) es same plain keeps.1 (record { waits = k.waits; windows = k.windows })

opens : (given : Given) → given.kept ≡ None → MakesThere given.op (opened given)
opens given none = record { waits = λ h b w isnt z on. absurd (some_none w (sym z)); windows = λ h b isnt. ap (λ (o : Option Kept). tried is_make ((kept_dealings o h).place b).window) none }

did_tried : (p : Request → Bool) (es : List Exchange) → did p es ≡ true → tried p es ≡ true
did_tried p [] h = h
did_tried p (e ∷ es) h = at (p e.request) (is_done e.reply) (λ k. did_tried p es k) h
  where
    at : (t u : Bool) → (did p es ≡ true → tried p es ≡ true) → ((t && u) || did p es) ≡ true → (t || tried p es) ≡ true
    at true u f k = refl
    at false u f k = f k

-- a Made is of the directory in which the call makes its child
abbrev pub MadeThere : Account → Request → Type 0
MadeThere c q = (x : Gfid) (n : ℕ) (child : Gfid) → q ≡ Made x n child → makes_child c.given.op x.0 ≡ true

pub made_there : (given : Given) (es : List Own) (b : ℕ) (q : Request) → given.kept ≡ None → IsPlain given.op → Keeps given es → b < (account given es).given.geometry.n → MaySend (account given es) b q → MadeThere (account given es) q
made_there given es b q none plain keeps lt may x n child e = ap (λ (y : Given). makes_child y.op x.0) (account_given given es) ∙ at (makes_child given.op x.0) refl
  where
    at : (t : Bool) → makes_child given.op x.0 ≡ t → makes_child given.op x.0 ≡ true
    at true h = h
    at false h =
        let k = goes given.op (opened given) es refl plain keeps (opens given none) in
        let m = subst (MaySend (account given es) b) e may in
        let made = did_tried is_make (((account given es).on x.0).place b).window (m.1.all b lt).0 in
        let none = k.windows x.0 b h in
        let y = sym made ∙ none in absurd (cc)
