-- What is known is what the account has.
use Rattle.std.proofs.Common.{◌≡◌, ◌⊎◌, inl, inr, ⊎_elim, ℕ, zero, suc, ◌+◌, ◌<◌, ◌≤◌, ◌==◌, ◌&&◌, ◌||◌, not, is_some, Bool, true, false, cond, refl, sym, ◌∙◌, ap, subst, List, [], ◌∷◌, length, arith, Option, Some, None, eqb-true, eq-eqb, get_or, vec_len}
use Rattle.std.proofs.Math.ListN.{set}
use Rattle.std.proofs.Math.Path.{fun_ext}
use Rattle.std.proofs.lemmas.List.{get_or-set_same, get_or-set_other}
use Rattle.std.proofs.lemmas.Bool.{cases_Bool, cases_eq, cases_lt}
use Rattle.std.proofs.lemmas.Bool.Decides.{nat_tests}
use Rattle.ec_attr.specs.declared.kind.Domain.TheVariants.{Inode, Heal}
use Rattle.ec_conduct.specs.Account.{Account, Dealings, Exchange, Lock, Place as PlaceOf, Wait, at, gave_up, gfid_of, is_granted, noted, over, released, sent, told}
use Rattle.ec_conduct.specs.Conduct.{is_release}
use Rattle.ec_conduct.specs.Done.{failed_none, is_any, is_done, is_lock, is_query, reply_to}
use Rattle.ec_conduct.specs.Table.{Send, sent_all}
use Rattle.ec_store.specs.Put.{put}
use Rattle.ec_wire.specs.declared.reply.Reply.{Reply}
use Rattle.ec_wire.specs.declared.request.Request.{Request}
use Rattle.ec_wire.specs.declared.request.Request.TheVariants.{Ask, Release, Query, PreOp, ReadChunks, WriteChunks, SetLength, PostOp, Clear, NameGet, NamesAfter, NameSet, NamesPut, Make, Made, Unmake, Mark, Unmark, GfidsAfter}
use Rattle.ec_txn.specs.declared.known.Held.{Held}
use Rattle.ec_txn.specs.declared.known.Known.{Known}
use Rattle.ec_txn.specs.declared.known.Pending.{Pending}
use Rattle.ec_txn.specs.declared.known.Place.{Place}
use Rattle.ec_txn.specs.Digest.{Shows, all_sent, any_waits, digest, given, given_by, given_up, granted, heard, heard_by, held, left_by, no_place, pending, place_at, read_of, sent_place, without}
use Rattle.ec_txn.specs.Replies.{TellsAll, last_reply}
use Rattle.ec_txn.specs.Rounds.{AllGood, IsGood, IsIdle, IsWaiting, asked_place, is_plain}
use Rattle.ec_txn.proofs.Hearing.{over_does}
use Rattle.ec_txn.proofs.Releasing.{release_on}
use Rattle.ec_txn.proofs.Rounds.{each_put}
use Rattle.ec_txn.proofs.Sending.{places, put_at, put_other, send_does, send_keeps}

plain_sent : (w : Option Wait) (p : PlaceOf) (i : ℕ) (r : Request) → is_plain r ≡ true → sent_place (digest w p) i r ≡ digest (Some (record { number = i; request = r })) (asked_place p i r)
plain_sent w p i (Ask g Inode kind) e = refl
plain_sent w p i (Ask g Heal kind) e = absurd (cc)
plain_sent w p i (Release g grant) e = absurd (cc)
plain_sent w p i (Query g grant) e = refl
plain_sent w p i (PreOp g grant version dirty) e = refl
plain_sent w p i (ReadChunks g grant first count) e = refl
plain_sent w p i (WriteChunks g grant first chunks) e = refl
plain_sent w p i (SetLength g grant keep len) e = refl
plain_sent w p i (PostOp g grant old new size attr) e = refl
plain_sent w p i (Clear g grant version) e = refl
plain_sent w p i (NameGet g grant name) e = refl
plain_sent w p i (NamesAfter g grant after) e = refl
plain_sent w p i (NameSet g grant name child) e = refl
plain_sent w p i (NamesPut g grant after upto list) e = refl
plain_sent w p i (Make g grant child) e = refl
plain_sent w p i (Made g grant child) e = refl
plain_sent w p i (Unmake g grant child) e = refl
plain_sent w p i (Mark g grant heal head) e = refl
plain_sent w p i (Unmark g grant version dirty) e = refl
plain_sent w p i (GfidsAfter after dirty) e = refl

without_held : (o : Option Lock) (grant : ℕ) → without (held o) grant ≡ held (Rattle.ec_conduct.specs.Account.without o grant)
without_held None grant = refl
without_held (Some lock) grant = elim (cases_Bool (lock.number == grant)) [ inl t ↦ rw t refl | inr f ↦ rw f refl ]

release_sent : (w : Option Wait) (p : PlaceOf) (i grant : ℕ) (g : Rattle.ec_attr.specs.declared.gfid.Gfid.Gfid) → sent_place (digest w p) i (Release g grant) ≡ digest w (released p grant)
release_sent w p i grant g = ap (λ (o : Option Held). record (digest w p) { lock = o }) (without_held p.inode grant)

abbrev pub ShowsAll : ℕ → (ℕ → Place) → Account → Type 0
ShowsAll g f c = (x : ℕ) → f x ≡ digest (c.waits x) (at c g x)

-- both sides change at one brick
both_put : (g b : ℕ) (f : ℕ → Place) (p : Place) (q : PlaceOf) (w : Option Wait) (c d : Account) → ShowsAll g f c → d.waits ≡ put c.waits b w → ((y : ℕ) → at d g y ≡ put (places c g) b q y) → p ≡ digest w q → ShowsAll g (put f b p) d
both_put g b f p q w c d s ws ps e x =
    subst (λ (v : ℕ → Option Wait). put f b p x ≡ digest (v x) (at d g x)) (sym ws)
    (subst (λ (z : PlaceOf). put f b p x ≡ digest (put c.waits b w x) z) (sym (ps x))
    (elim (cases_Bool (x == b)) [ inl t ↦ rw t e | inr t ↦ rw t (s x) ]))

put_id : {X : Type 0} (f : ℕ → X) (b : ℕ) (x : X) → f b ≡ x → f ≡ put f b x
put_id f b x e = fun_ext (λ y. each_put (λ (z : ℕ) v. f z ≡ v) f b x e (λ z ne. refl) y)

same_gfid : (a b : ℕ) → Some a ≡ Some b → a ≡ b
same_gfid a b e = cc

released_shows : (g b i : ℕ) (f : ℕ → Place) (c : Account) (r : Request) → gfid_of r ≡ Some g → is_release r ≡ true → ShowsAll g f c → ShowsAll g (put f b (sent_place (f b) i r)) (sent c b i r)
released_shows g b i f c (Release h grant) of e s =
    let t : h.0 ≡ g = same_gfid h.0 g of in
    subst (λ (x : ℕ). ShowsAll x f c → ShowsAll x (put f b (sent_place (f b) i (Release h grant))) (sent c b i (Release h grant))) t
    (λ (s : ShowsAll h.0 f c).
    both_put h.0 b f (sent_place (f b) i (Release h grant)) (released (at c h.0 b) grant) (c.waits b) c (sent c b i (Release h grant)) s
    (put_id c.waits b (c.waits b) refl) (λ y. ap (λ (x : Dealings). x.place y) (release_on c h.0 b i grant))
    (ap (λ (p : Place). sent_place p i (Release h grant)) (s b) ∙ release_sent (c.waits b) (at c h.0 b) i grant h)) s
released_shows g b i f c (Ask h domain kind) of e s = absurd (cc)
released_shows g b i f c (Query h grant) of e s = absurd (cc)
released_shows g b i f c (PreOp h grant version dirty) of e s = absurd (cc)
released_shows g b i f c (ReadChunks h grant first count) of e s = absurd (cc)
released_shows g b i f c (WriteChunks h grant first chunks) of e s = absurd (cc)
released_shows g b i f c (SetLength h grant keep len) of e s = absurd (cc)
released_shows g b i f c (PostOp h grant old new size attr) of e s = absurd (cc)
released_shows g b i f c (Clear h grant version) of e s = absurd (cc)
released_shows g b i f c (NameGet h grant name) of e s = absurd (cc)
released_shows g b i f c (NamesAfter h grant after) of e s = absurd (cc)
released_shows g b i f c (NameSet h grant name child) of e s = absurd (cc)
released_shows g b i f c (NamesPut h grant after upto list) of e s = absurd (cc)
released_shows g b i f c (Make h grant child) of e s = absurd (cc)
released_shows g b i f c (Made h grant child) of e s = absurd (cc)
released_shows g b i f c (Unmake h grant child) of e s = absurd (cc)
released_shows g b i f c (Mark h grant heal head) of e s = absurd (cc)
released_shows g b i f c (Unmark h grant version dirty) of e s = absurd (cc)
released_shows g b i f c (GfidsAfter after dirty) of e s = absurd (cc)

sent_shows : (g b i : ℕ) (f : ℕ → Place) (c : Account) (r : Request) → IsGood g c b r → ShowsAll g f c → ShowsAll g (put f b (sent_place (f b) i r)) (sent c b i r)
sent_shows g b i f c r good s = ⊎_elim
    (λ plain. let k = send_keeps c b i r plain in let d = send_does c g b i r good.of plain good.first in
    both_put g b f (sent_place (f b) i r) (asked_place (at c g b) i r) (Some (record { number = i; request = r })) c (sent c b i r) s k.waits d.place
    (ap (λ (p : Place). sent_place p i r) (s b) ∙ plain_sent (c.waits b) (at c g b) i r plain))
    (λ released. released_shows g b i f c r good.of released s)
    good.plain

pub all_shows : (g i : ℕ) (f : ℕ → Place) (c : Account) (ss : List Send) → AllGood g c i ss → ShowsAll g f c → ShowsAll g (all_sent f i ss) (sent_all c i ss)
all_shows g i f c [] good s = s
all_shows g i f c (x ∷ xs) good s = all_shows g (i + 1) (put f x.0 (sent_place (f x.0) i x.1)) (sent c x.0 i x.1) xs good.1 (sent_shows g x.0 i f c x.1 good.0 s)

-- replies

granted_held : (o : Option Lock) (w : Wait) (reply : Reply) → granted (held o) w.number reply ≡ held (Rattle.ec_conduct.specs.Account.granted o (record { number = w.number; request = w.request; reply = Some reply }))
granted_held None w reply = refl
granted_held (Some lock) w reply = refl

left_bool : (a b : Bool) → (a || (b && false)) ≡ a
left_bool true b = refl
left_bool false true = refl
left_bool false false = refl

left_held : (o : Option Lock) (w : Wait) → held o ≡ held (Rattle.ec_conduct.specs.Account.granted o (record { number = w.number; request = w.request; reply = None }))
left_held None w = refl
left_held (Some lock) w = ap (λ (u : Bool). Some (record { number = lock.number; granted = u })) (sym (left_bool lock.granted (lock.number == w.number)))

given_heard : (q : Bool) (reply : Reply) (o : Option Reply) → cond q (Some (given reply)) (given_by o) ≡ given_by (cond q (Some reply) o)
given_heard true reply o = refl
given_heard false reply o = refl

given_left : (q : Bool) (o : Option Reply) → cond q None (given_by o) ≡ given_by (cond q None o)
given_left true o = refl
given_left false o = refl

failed_heard : (a b : Bool) → (not a || not b) ≡ not (b && a)
failed_heard true true = refl
failed_heard true false = refl
failed_heard false true = refl
failed_heard false false = refl

heard_digest : (w : Wait) (p : PlaceOf) (reply : Reply) → heard (digest (Some w) p) reply ≡ digest None (noted p (record { number = w.number; request = w.request; reply = Some reply }))
heard_digest w p reply = λ i. record {
  waits = None;
  lock = granted_held p.inode w reply i;
  given = given_heard (is_query w.request) reply (reply_to is_query p.window) i;
  failed = failed_heard (failed_none is_any p.window) (is_done (Some reply)) i;
  read = read_of w.request;
}

left_digest : (w : Wait) (p : PlaceOf) → given_up (digest (Some w) p) ≡ digest None (noted p (record { number = w.number; request = w.request; reply = None }))
left_digest w p = λ i. record {
  waits = None;
  lock = left_held p.inode w i;
  given = given_left (is_query w.request) (reply_to is_query p.window) i;
  failed = true;
  read = read_of w.request;
}

pub told_shows : (g b : ℕ) (f : ℕ → Place) (c : Account) (w : Wait) (reply : Reply) → c.waits b ≡ Some w → gfid_of w.request ≡ Some g → ShowsAll g f c → ShowsAll g (put f b (heard (f b) reply)) (told c b w reply)
told_shows g b f c w reply e of s =
    let x : Exchange = record { number = w.number; request = w.request; reply = Some reply } in
    let o = over_does c g b x of in
    both_put g b f (heard (f b) reply) (noted (at c g b) x) None c (told c b w reply) s o.waits o.place
    (ap (λ (p : Place). heard p reply) (s b ∙ ap (λ (v : Option Wait). digest v (at c g b)) e) ∙ heard_digest w (at c g b) reply)

pub left_shows : (g b : ℕ) (f : ℕ → Place) (c : Account) (w : Wait) → c.waits b ≡ Some w → gfid_of w.request ≡ Some g → ShowsAll g f c → ShowsAll g (put f b (given_up (f b))) (gave_up c b w)
left_shows g b f c w e of s =
    let x : Exchange = record { number = w.number; request = w.request; reply = None } in
    let o = over_does c g b x of in
    both_put g b f (given_up (f b)) (noted (at c g b) x) None c (gave_up c b w) s o.waits o.place
    (ap given_up (s b ∙ ap (λ (v : Option Wait). digest v (at c g b)) e) ∙ left_digest w (at c g b))

pub release_given : (c : Account) (b i : ℕ) (r : Request) → is_release r ≡ true → (sent c b i r).given ≡ c.given
release_given c b i (Release h grant) e = refl
release_given c b i (Ask h domain kind) e = absurd (cc)
release_given c b i (Query h grant) e = absurd (cc)
release_given c b i (PreOp h grant version dirty) e = absurd (cc)
release_given c b i (ReadChunks h grant first count) e = absurd (cc)
release_given c b i (WriteChunks h grant first chunks) e = absurd (cc)
release_given c b i (SetLength h grant keep len) e = absurd (cc)
release_given c b i (PostOp h grant old new size attr) e = absurd (cc)
release_given c b i (Clear h grant version) e = absurd (cc)
release_given c b i (NameGet h grant name) e = absurd (cc)
release_given c b i (NamesAfter h grant after) e = absurd (cc)
release_given c b i (NameSet h grant name child) e = absurd (cc)
release_given c b i (NamesPut h grant after upto list) e = absurd (cc)
release_given c b i (Make h grant child) e = absurd (cc)
release_given c b i (Made h grant child) e = absurd (cc)
release_given c b i (Unmake h grant child) e = absurd (cc)
release_given c b i (Mark h grant heal head) e = absurd (cc)
release_given c b i (Unmark h grant version dirty) e = absurd (cc)
release_given c b i (GfidsAfter after dirty) e = absurd (cc)

-- what bricks replied

window_asked : (p : PlaceOf) (i : ℕ) (r : Request) → is_plain r ≡ true → (asked_place p i r).window ≡ p.window
window_asked p i (Ask g Inode kind) e = refl
window_asked p i (Ask g Heal kind) e = refl
window_asked p i (Release g grant) e = refl
window_asked p i (Query g grant) e = refl
window_asked p i (PreOp g grant version dirty) e = refl
window_asked p i (ReadChunks g grant first count) e = refl
window_asked p i (WriteChunks g grant first chunks) e = refl
window_asked p i (SetLength g grant keep len) e = refl
window_asked p i (PostOp g grant old new size attr) e = refl
window_asked p i (Clear g grant version) e = refl
window_asked p i (NameGet g grant name) e = refl
window_asked p i (NamesAfter g grant after) e = refl
window_asked p i (NameSet g grant name child) e = refl
window_asked p i (NamesPut g grant after upto list) e = refl
window_asked p i (Make g grant child) e = refl
window_asked p i (Made g grant child) e = refl
window_asked p i (Unmake g grant child) e = refl
window_asked p i (Mark g grant heal head) e = refl
window_asked p i (Unmark g grant version dirty) e = refl
window_asked p i (GfidsAfter after dirty) e = refl

released_window : (g b i : ℕ) (c : Account) (r : Request) → gfid_of r ≡ Some g → is_release r ≡ true → (y : ℕ) → (at (sent c b i r) g y).window ≡ (at c g y).window
released_window g b i c (Release h grant) of e y =
    let t : h.0 ≡ g = same_gfid h.0 g of in
    subst (λ (x : ℕ). (at (sent c b i (Release h grant)) x y).window ≡ (at c x y).window) t
    (ap (λ (x : Dealings). (x.place y).window) (release_on c h.0 b i grant)
    ∙ each_put (λ (z : ℕ) (p : PlaceOf). p.window ≡ (at c h.0 z).window) (places c h.0) b (released (at c h.0 b) grant) refl (λ z ne. refl) y)
released_window g b i c (Ask h domain kind) of e y = absurd (cc)
released_window g b i c (Query h grant) of e y = absurd (cc)
released_window g b i c (PreOp h grant version dirty) of e y = absurd (cc)
released_window g b i c (ReadChunks h grant first count) of e y = absurd (cc)
released_window g b i c (WriteChunks h grant first chunks) of e y = absurd (cc)
released_window g b i c (SetLength h grant keep len) of e y = absurd (cc)
released_window g b i c (PostOp h grant old new size attr) of e y = absurd (cc)
released_window g b i c (Clear h grant version) of e y = absurd (cc)
released_window g b i c (NameGet h grant name) of e y = absurd (cc)
released_window g b i c (NamesAfter h grant after) of e y = absurd (cc)
released_window g b i c (NameSet h grant name child) of e y = absurd (cc)
released_window g b i c (NamesPut h grant after upto list) of e y = absurd (cc)
released_window g b i c (Make h grant child) of e y = absurd (cc)
released_window g b i c (Made h grant child) of e y = absurd (cc)
released_window g b i c (Unmake h grant child) of e y = absurd (cc)
released_window g b i c (Mark h grant heal head) of e y = absurd (cc)
released_window g b i c (Unmark h grant version dirty) of e y = absurd (cc)
released_window g b i c (GfidsAfter after dirty) of e y = absurd (cc)

sent_window : (g b i : ℕ) (c : Account) (r : Request) → IsGood g c b r → (y : ℕ) → (at (sent c b i r) g y).window ≡ (at c g y).window
sent_window g b i c r good y = ⊎_elim
    (λ plain. let d = send_does c g b i r good.of plain good.first in
    ap (λ (p : PlaceOf). p.window) (d.place y) ∙ each_put (λ (z : ℕ) (p : PlaceOf). p.window ≡ (at c g z).window) (places c g) b (asked_place (at c g b) i r) (window_asked (at c g b) i r plain) (λ z ne. refl) y)
    (λ released. released_window g b i c r good.of released y)
    good.plain

-- sends leave them
pub all_tell : (g i : ℕ) (f : ℕ → Option Reply) (c : Account) (ss : List Send) → AllGood g c i ss → TellsAll g f c → TellsAll g f (sent_all c i ss)
all_tell g i f c [] good s = s
all_tell g i f c (x ∷ xs) good s = all_tell g (i + 1) f (sent c x.0 i x.1) xs good.1 (λ y. s y ∙ sym (ap last_reply (sent_window g x.0 i c x.1 good.0 y)))

-- a reply is noted, or that it was given up
pub over_tells : (g b : ℕ) (f : ℕ → Option Reply) (c : Account) (x : Exchange) → gfid_of x.request ≡ Some g → TellsAll g f c → TellsAll g (put f b x.reply) (over c b x)
over_tells g b f c x of s y =
    let o = over_does c g b x of in
    subst (λ (p : PlaceOf). put f b x.reply y ≡ last_reply p.window) (sym (o.place y))
    (elim (cases_Bool (y == b)) [ inl t ↦ rw t refl | inr t ↦ rw t (s y) ])
