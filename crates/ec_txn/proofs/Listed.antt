-- A call that began with no kept grants has asks only on gfids that are listed.
use Rattle.std.proofs.Common.{◌≡◌, inl, inr, ⊎_elim, ℕ, ◌+◌, ◌==◌, ◌||◌, nat_lt, Bool, true, false, cond, refl, sym, ◌∙◌, ap, subst, List, [], ◌∷◌, Option, Some, None, eqb-true}
use Rattle.std.proofs.lemmas.Bool.{cases_Bool}
use Rattle.ec_conduct.specs.Account.{Account, Dealings, Exchange, Lock, Place, Wait, account_from, after, asked, at, filed, gave_up, gfid_of, granted, heard_by, inserted, left_by, noted, over, released, sent, told, with_place, without}
use Rattle.ec_conduct.specs.Given.{Given}
use Rattle.ec_conduct.specs.Opened.{account, kept_dealings, no_place, opened}
use Rattle.ec_conduct.specs.Own.{Own, Sends, Hears, GivesUp, Answers}
use Rattle.ec_store.specs.Put.{put}
use Rattle.ec_wire.specs.declared.reply.Reply.{Reply}
use Rattle.ec_wire.specs.declared.request.Request.{Request}
use Rattle.ec_wire.specs.declared.request.Request.TheVariants.{Ask, Release, Query, PreOp, ReadChunks, WriteChunks, SetLength, PostOp, Clear, NameGet, NamesAfter, NameSet, NamesPut, Make, Made, Unmake, Mark, Unmark, GfidsAfter}
use Rattle.ec_txn.specs.Released.{HoldsNothing}
use Rattle.ec_txn.specs.Rounds.{IsListed}

abbrev is_listed : ℕ → List ℕ → Bool
is_listed g [] = false
is_listed g (h ∷ hs) = (g == h) || is_listed g hs

-- no ask stands at the place
abbrev IsBare : Place → Type 0
IsBare p = (p.inode ≡ None) × (p.heal ≡ None)

abbrev OnlyListed : Account → Type 0
OnlyListed c = (g b : ℕ) → is_listed g c.gfids ≡ false → IsBare (at c g b)

or_false : (a b : Bool) → (a || b) ≡ false → (a ≡ false) × (b ≡ false)
or_false true b e = absurd (let x : true ≡ false = e in cc)
or_false false b e = (refl, e)

both_false : (a b : Bool) → a ≡ false → b ≡ false → (a || b) ≡ false
both_false a b e f = rw (e, f) refl

not_inserted : (g h : ℕ) (gs : List ℕ) → is_listed g (inserted h gs) ≡ false → ((g == h) ≡ false) × (is_listed g gs ≡ false)
not_inserted g h [] e = or_false (g == h) false e
not_inserted g h (k ∷ ks) e = elim (cases_Bool (nat_lt h k)) [
  | inl t ↦ or_false (g == h) ((g == k) || is_listed g ks) (subst (λ (v : Bool). is_listed g (cond v (h ∷ k ∷ ks) (cond (h == k) (k ∷ ks) (k ∷ inserted h ks))) ≡ false) t e)
  | inr t ↦ let f : is_listed g (cond (h == k) (k ∷ ks) (k ∷ inserted h ks)) ≡ false = subst (λ (v : Bool). is_listed g (cond v (h ∷ k ∷ ks) (cond (h == k) (k ∷ ks) (k ∷ inserted h ks))) ≡ false) t e in elim (cases_Bool (h == k)) [
    | inl u ↦ let m : ((g == k) || is_listed g ks) ≡ false = subst (λ (v : Bool). is_listed g (cond v (k ∷ ks) (k ∷ inserted h ks)) ≡ false) u f in (ap (λ (z : ℕ). g == z) (eqb-true h k u) ∙ (or_false (g == k) (is_listed g ks) m).0, m)
    | inr u ↦
        let m : ((g == k) || is_listed g (inserted h ks)) ≡ false = subst (λ (v : Bool). is_listed g (cond v (k ∷ ks) (k ∷ inserted h ks)) ≡ false) u f in
        let p = or_false (g == k) (is_listed g (inserted h ks)) m in
        let q = not_inserted g h ks p.1 in
        (q.0, both_false (g == k) (is_listed g ks) p.0 q.1)
  ]
]

elsewhere : (f : ℕ → Dealings) (g h : ℕ) (d : Dealings) → (g == h) ≡ false → put f h d g ≡ f g
elsewhere f g h d t = rw t refl

-- the dealings with one gfid change
changed : (c d : Account) (h : ℕ) (w : Dealings) → d.on ≡ put c.on h w → d.gfids ≡ c.gfids → ((y : ℕ) → is_listed h c.gfids ≡ false → IsBare (w.place y)) → OnlyListed c → OnlyListed d
changed c d h w on gfids bare o g y n =
    let m : is_listed g c.gfids ≡ false = subst (λ (gs : List ℕ). is_listed g gs ≡ false) gfids n in
    subst (λ (f : ℕ → Dealings). IsBare ((f g).place y)) (sym on) (elim (cases_Bool (g == h)) [
      | inl t ↦ rw t (bare y (subst (λ (z : ℕ). is_listed z c.gfids ≡ false) (eqb-true g h t) m))
      | inr t ↦ rw t (o g y m)
    ])

put_bare : (f : ℕ → Place) (b : ℕ) (p : Place) (y : ℕ) → IsBare p → IsBare (f y) → IsBare (put f b p y)
put_bare f b p y here there = elim (cases_Bool (y == b)) [ inl t ↦ rw t here | inr t ↦ rw t there ]

released_bare : (p : Place) (grant : ℕ) → IsBare p → IsBare (released p grant)
released_bare p grant h = (ap (λ (o : Option Lock). without o grant) h.0, ap (λ (o : Option Lock). without o grant) h.1)

noted_bare : (p : Place) (e : Exchange) → IsBare p → IsBare (noted p e)
noted_bare p e h = (ap (λ (o : Option Lock). granted o e) h.0, ap (λ (o : Option Lock). granted o e) h.1)

sent_listed : (c : Account) (b i : ℕ) (r : Request) → OnlyListed c → OnlyListed (sent c b i r)
sent_listed c b i (Ask h domain kind) o = λ g y n.
    let m = not_inserted g h.0 c.gfids n in
    let same : at (sent c b i (Ask h domain kind)) g y ≡ at c g y = ap (λ (x : Dealings). x.place y) (elsewhere c.on g h.0 (asked (c.on h.0) b i domain) m.0) in
    subst IsBare (sym same) (o g y m.1)
sent_listed c b i (Release h grant) o = changed c (sent c b i (Release h grant)) h.0 (with_place (c.on h.0) b (released (at c h.0 b) grant)) refl refl (λ y m. put_bare (c.on h.0).place b (released (at c h.0 b) grant) y (released_bare (at c h.0 b) grant (o h.0 b m)) (o h.0 y m)) o
sent_listed c b i (Query h grant) o = changed c (sent c b i (Query h grant)) h.0 (record (c.on h.0) { queried = Some c.steps }) refl refl (λ y m. o h.0 y m) o
sent_listed c b i (PreOp h grant version dirty) o = changed c (sent c b i (PreOp h grant version dirty)) h.0 (record (c.on h.0) { dirty = Some dirty }) refl refl (λ y m. o h.0 y m) o
sent_listed c b i (ReadChunks h grant first count) o = o
sent_listed c b i (WriteChunks h grant first chunks) o = o
sent_listed c b i (SetLength h grant keep len) o = o
sent_listed c b i (PostOp h grant old new size attr) o = o
sent_listed c b i (Clear h grant version) o = o
sent_listed c b i (NameGet h grant name) o = o
sent_listed c b i (NamesAfter h grant start) o = o
sent_listed c b i (NameSet h grant name child) o = o
sent_listed c b i (NamesPut h grant after upto list) o = o
sent_listed c b i (Make h grant child) o = o
sent_listed c b i (Made h grant child) o = o
sent_listed c b i (Unmake h grant child) o = o
sent_listed c b i (Mark h grant heal head) o = o
sent_listed c b i (Unmark h grant version dirty) o = o
sent_listed c b i (GfidsAfter start dirty) o = o

filed_listed : (c : Account) (b : ℕ) (e : Exchange) (of : Option ℕ) → OnlyListed c → OnlyListed (filed c b e of)
filed_listed c b e None o = o
filed_listed c b e (Some h) o = changed c (filed c b e (Some h)) h (with_place (c.on h) b (noted (at c h b) e)) refl refl (λ y m. put_bare (c.on h).place b (noted (at c h b) e) y (noted_bare (at c h b) e (o h b m)) (o h y m)) o

over_listed : (c : Account) (b : ℕ) (e : Exchange) → OnlyListed c → OnlyListed (over c b e)
over_listed c b e o = filed_listed (record c { waits = put c.waits b None; steps = c.steps + 1 }) b e (gfid_of e.request) o

heard_listed : (c : Account) (b i : ℕ) (reply : Reply) (w : Option Wait) → OnlyListed c → OnlyListed (heard_by c b w i reply)
heard_listed c b i reply None o = o
heard_listed c b i reply (Some w) o = elim (cases_Bool (w.number == i)) [ inl t ↦ rw t (over_listed c b (record { number = w.number; request = w.request; reply = Some reply }) o) | inr t ↦ rw t o ]

left_listed : (c : Account) (b i : ℕ) (w : Option Wait) → OnlyListed c → OnlyListed (left_by c b w i)
left_listed c b i None o = o
left_listed c b i (Some w) o = elim (cases_Bool (w.number == i)) [ inl t ↦ rw t (over_listed c b (record { number = w.number; request = w.request; reply = None }) o) | inr t ↦ rw t o ]

after_listed : (c : Account) (e : Own) → OnlyListed c → OnlyListed (after c e)
after_listed c (Sends b i r) o = sent_listed c b i r o
after_listed c (Hears b i reply) o = heard_listed c b i reply (c.waits b) o
after_listed c (GivesUp b i) o = left_listed c b i (c.waits b) o
after_listed c (Answers answer) o = o

from_listed : (c : Account) (es : List Own) → OnlyListed c → OnlyListed (account_from c es)
from_listed c [] o = o
from_listed c (e ∷ es) o = from_listed (after c e) es (after_listed c e o)

opened_listed : (given : Given) → given.kept ≡ None → OnlyListed (opened given)
opened_listed given kept = λ g b n. let same : at (opened given) g b ≡ no_place = ap (λ k. (kept_dealings k g).place b) kept in (ap (λ (p : Place). p.inode) same, ap (λ (p : Place). p.heal) same)

-- all asks on the gfid are released
pub record IsLetGo (g : ℕ) (c : Account) : Type 0 where
  pub gfids : IsListed g c
  pub inode : (x : ℕ) → (at c g x).inode ≡ None
  pub heal : (x : ℕ) → (at c g x).heal ≡ None

not_listed : (g h : ℕ) (c : Account) → IsListed g c → (h == g) ≡ false → is_listed h c.gfids ≡ false
not_listed g h c l t = ⊎_elim
    (λ e. subst (λ (gs : List ℕ). is_listed h gs ≡ false) (sym e) (both_false (h == g) false t refl))
    (λ e. subst (λ (gs : List ℕ). is_listed h gs ≡ false) (sym e.0) refl)
    l

-- where those on the one gfid that may be listed are released, all are
pub holds_nothing : (given : Given) (es : List Own) (g : ℕ) → given.kept ≡ None → IsLetGo g (account given es) → HoldsNothing (account given es)
holds_nothing given es g kept w h b = elim (cases_Bool (h == g)) [
  | inl t ↦ let e : h ≡ g = eqb-true h g t in (ap (λ (z : ℕ). (at (account given es) z b).inode) e ∙ w.inode b, ap (λ (z : ℕ). (at (account given es) z b).heal) e ∙ w.heal b)
  | inr t ↦ from_listed (opened given) es (opened_listed given kept) h b (not_listed g h (account given es) w.gfids t)
]
