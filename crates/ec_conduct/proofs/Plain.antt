-- What the rules say of one request.
use Rattle.std.proofs.Common.{◌≡◌, ◌≢◌, ℕ, ◌+◌, ◌==◌, cond, List, Bool, true, false, refl, ap, ◌∙◌, subst, arith, Option, Some, None}
use Rattle.std.proofs.lemmas.Bool.Decides.{nat_tests}
use Rattle.ec_attr.specs.declared.gfid.Gfid.{Gfid}
use Rattle.ec_attr.specs.declared.kind.Child.{Child}
use Rattle.ec_store.specs.Put.{put}
use Rattle.ec_wire.specs.declared.answer.Answer.{Answer}
use Rattle.ec_wire.specs.declared.op.Op.TheVariants.{Rename}
use Rattle.ec_wire.specs.declared.reply.Reply.{Reply}
use Rattle.ec_wire.specs.declared.request.Request.{Request}
use Rattle.ec_wire.specs.declared.request.Request.TheVariants.{Ask, Release, Query, PreOp, ReadChunks, WriteChunks, SetLength, PostOp, Clear, NameGet, NamesAfter, NameSet, NamesPut, Make, Made, Unmake, Mark, Unmark, GfidsAfter}
use Rattle.ec_conduct.specs.Account.{Account, Exchange, Wait, after, at, filed, gave_up, gfid_of, heard_by, left_by, over, told}
use Rattle.ec_conduct.specs.Children.{IsPosted}
use Rattle.ec_conduct.specs.Conduct.{IsFree, IsNamedAnew, MaySend, is_release}
use Rattle.ec_conduct.specs.Own.{Hears, GivesUp, Answers}
use Rattle.ec_conduct.specs.Standing.{is_lost}
use Rattle.ec_conduct.proofs.Grants.{put_here}

pub unanswered : (c : Account) (b : ℕ) (r : Request) → MaySend c b r → c.answer ≡ None
unanswered c b (Ask h domain kind) m = m.0.running.unanswered
unanswered c b (Release h n) m = m.0.unanswered
unanswered c b (Query h n) m = m.0.running.unanswered
unanswered c b (PreOp h n version dirty) m = m.0.running.unanswered
unanswered c b (ReadChunks h n first count) m = m.0.running.unanswered
unanswered c b (WriteChunks h n first chunks) m = m.0.running.unanswered
unanswered c b (SetLength h n keep length) m = m.0.running.unanswered
unanswered c b (PostOp h n old new size attr) m = m.0.running.unanswered
unanswered c b (Clear h n version) m = m.0.running.unanswered
unanswered c b (NameGet h n name) m = m.0.running.unanswered
unanswered c b (NamesAfter h n start) m = m.0.running.unanswered
unanswered c b (NameSet h n name child) m = m.0.running.unanswered
unanswered c b (NamesPut h n start upto list) m = m.0.running.unanswered
unanswered c b (Make h n child) m = m.0.running.unanswered
unanswered c b (Made h n child) m = m.0.running.unanswered
unanswered c b (Unmake h n child) m = m.0.running.unanswered
unanswered c b (Mark h n heal head) m = m.0.running.unanswered
unanswered c b (Unmark h n version dirty) m = m.0.running.unanswered
unanswered c b (GfidsAfter start dirty) m = m.0.unanswered

pub silent : (c : Account) (answer : Answer) (b : ℕ) (r : Request) → MaySend (after c (Answers answer)) b r → ⊥
silent c answer b r m = let e = unanswered (after c (Answers answer)) b r m in absurd (cc)

filed_waits : (c : Account) (b : ℕ) (e : Exchange) (o : Option ℕ) → (filed c b e o).waits ≡ c.waits
filed_waits c b e None = refl
filed_waits c b e (Some g) = refl

over_waits : (c : Account) (b : ℕ) (e : Exchange) → (over c b e).waits b ≡ None
over_waits c b e = ap (λ f. f b) (filed_waits (record c { waits = put c.waits b None; steps = c.steps + 1 }) b e (gfid_of e.request)) ∙ put_here c.waits b None

matches : (w : Wait) (i : ℕ) (c d : Account) → w.number ≡ i → cond (w.number == i) d c ≡ d
matches w i c d e = go (w.number == i) (grind (arith, nat_tests))
  where
    go : (u : Bool) → u ≡ true → cond u d c ≡ d
    go true h = refl
    go false h = absurd (cc)

-- a reply to a request that was given up counts for nothing
pub late : (c : Account) (b i : ℕ) (w : Wait) (reply : Reply) → c.waits b ≡ Some w → w.number ≡ i → after (after c (GivesUp b i)) (Hears b i reply) ≡ after c (GivesUp b i)
late c b i w reply e f =
    let left : after c (GivesUp b i) ≡ gave_up c b w = ap (λ o. left_by c b o i) e ∙ matches w i c (gave_up c b w) f in
    let none : (after c (GivesUp b i)).waits b ≡ None = ap (λ (d : Account). d.waits b) left ∙ over_waits c b _ in
    ap (λ o. heard_by (after c (GivesUp b i)) b o i reply) none

apart : (w : Wait) (i : ℕ) (c d : Account) → w.number ≢ i → cond (w.number == i) d c ≡ c
apart w i c d e = go (w.number == i) (grind (arith, nat_tests))
  where
    go : (u : Bool) → u ≡ false → cond u d c ≡ c
    go true h = absurd (cc)
    go false h = refl

-- a reply to another request than the one waited for counts for nothing
pub other : (c : Account) (b i : ℕ) (w : Wait) (reply : Reply) → c.waits b ≡ Some w → w.number ≢ i → after c (Hears b i reply) ≡ c
other c b i w reply e f = ap (λ o. heard_by c b o i reply) e ∙ apart w i c (told c b w reply) f

of_gfid : (c : Account) (b h g : ℕ) → Some h ≡ Some g → IsFree c b h → (c.waits b ≡ None) × (is_lost (at c g b) ≡ false)
of_gfid c b h g e f = let same : h ≡ g = cc in (f.idle, subst (λ x. is_lost (at c x b) ≡ false) same f.kept)

pub alone : (c : Account) (b g : ℕ) (r : Request) → gfid_of r ≡ Some g → is_release r ≡ false → MaySend c b r → (c.waits b ≡ None) × (is_lost (at c g b) ≡ false)
alone c b g (Ask h domain kind) e n_is m = of_gfid c b h.0 g e m.0
alone c b g (Query h n) e n_is m = of_gfid c b h.0 g e m.0
alone c b g (PreOp h n version dirty) e n_is m = of_gfid c b h.0 g e m.0
alone c b g (ReadChunks h n first count) e n_is m = of_gfid c b h.0 g e m.0
alone c b g (WriteChunks h n first chunks) e n_is m = of_gfid c b h.0 g e m.0
alone c b g (SetLength h n keep length) e n_is m = of_gfid c b h.0 g e m.0
alone c b g (PostOp h n old new size attr) e n_is m = of_gfid c b h.0 g e m.0
alone c b g (Clear h n version) e n_is m = of_gfid c b h.0 g e m.0
alone c b g (NameGet h n name) e n_is m = of_gfid c b h.0 g e m.0
alone c b g (NamesAfter h n start) e n_is m = of_gfid c b h.0 g e m.0
alone c b g (NameSet h n name child) e n_is m = of_gfid c b h.0 g e m.0
alone c b g (NamesPut h n start upto list) e n_is m = of_gfid c b h.0 g e m.0
alone c b g (Make h n child) e n_is m = of_gfid c b h.0 g e m.0
alone c b g (Made h n child) e n_is m = of_gfid c b h.0 g e m.0
alone c b g (Unmake h n child) e n_is m = of_gfid c b h.0 g e m.0
alone c b g (Mark h n heal head) e n_is m = of_gfid c b h.0 g e m.0
alone c b g (Unmark h n version dirty) e n_is m = of_gfid c b h.0 g e m.0
alone c b g (Release h n) e n_is m = absurd (cc)
alone c b g (GfidsAfter start dirty) e n_is m = absurd (cc)

-- a rename removes a name only after its commit in the other directory
pub renamed : (c : Account) (b grant : ℕ) (old new : Gfid) (name to : List ℕ) (child : Option Child) → c.given.op ≡ Rename old name new to → old.0 ≢ new.0 → MaySend c b (NameSet old grant name child) → IsPosted c new.0
renamed c b grant old new name to child e apart m =
    let after_it : IsNamedAnew c (Rename old name new to) old.0 = subst (λ op. IsNamedAnew c op old.0) e m.1.anew in
    after_it apart refl
