-- What a send does to the account of one gfid.
use Rattle.std.proofs.Common.{◌≡◌, ◌≢◌, ◌⊎◌, inl, inr, ℕ, zero, suc, ◌+◌, ◌<◌, ◌≤◌, ◌==◌, Bool, true, false, cond, refl, sym, ◌∙◌, ap, subst, List, [], ◌∷◌, ◌++◌, length, arith, Option, Some, None, eqb-true, eq-eqb}
use Rattle.std.proofs.lemmas.Bool.{cases_Bool, cases_eq}
use Rattle.std.proofs.lemmas.Bool.Decides.{nat_tests}
use Rattle.ec_attr.specs.declared.kind.Domain.{Domain}
use Rattle.ec_attr.specs.declared.kind.Domain.TheVariants.{Inode, Heal}
use Rattle.ec_conduct.specs.Account.{Account, Dealings, Lock, Place, Wait, asked, at, begun, gfid_of, inserted, sent, with_dealings, with_place}
use Rattle.ec_conduct.specs.Done.{is_lock, is_pre, is_query}
use Rattle.ec_store.specs.Put.{put}
use Rattle.ec_wire.specs.declared.request.Request.{Request}
use Rattle.ec_wire.specs.declared.request.Request.TheVariants.{Ask, Release, Query, PreOp, ReadChunks, WriteChunks, SetLength, PostOp, Clear, NameGet, NamesAfter, NameSet, NamesPut, Make, Made, Unmake, Mark, Unmark, GfidsAfter}
use Rattle.ec_txn.specs.Rounds.{asked_place, dirty_of, is_plain}

pub put_at : {X : Type 0} (f : ℕ → X) (b : ℕ) (x : X) → put f b x b ≡ x
put_at f b x = rw (eq-eqb b b refl) refl

pub put_other : {X : Type 0} (f : ℕ → X) (b y : ℕ) (x : X) → (y ≡ b → ⊥) → put f b x y ≡ f y
put_other f b y x ne = elim (cases_Bool (y == b)) [ inl t ↦ absurd (ne (eqb-true y b t)) | inr e ↦ rw e refl ]

pub put_same : {X : Type 0} (f : ℕ → X) (b y : ℕ) → put f b (f b) y ≡ f y
put_same f b y = elim (cases_Bool (y == b)) [ inl t ↦ rw t (ap f (sym (eqb-true y b t))) | inr e ↦ rw e refl ]

-- the dealings with the gfid, where the request names it
pub on_at : (c : Account) (h g : ℕ) (d : Dealings) → h ≡ g → put c.on h d g ≡ d
on_at c h g d e = rw (← e) (put_at c.on h d)

abbrev pub places : Account → ℕ → ℕ → Place
places c g x = at c g x

-- what does not change in any send
pub record SendKeeps (c d : Account) (b i : ℕ) (r : Request) : Type 0 where
  pub given : d.given ≡ c.given
  pub answer : d.answer ≡ c.answer
  pub steps : d.steps ≡ c.steps
  pub waits : d.waits ≡ put c.waits b (Some (record { number = i; request = r }))

pub send_keeps : (c : Account) (b i : ℕ) (r : Request) → is_plain r ≡ true → SendKeeps c (sent c b i r) b i r
send_keeps c b i (Ask g Inode kind) p = record { given = refl; answer = refl; steps = refl; waits = refl }
send_keeps c b i (Ask g Heal kind) p = absurd (cc)
send_keeps c b i (Release g grant) p = absurd (cc)
send_keeps c b i (Query g grant) p = record { given = refl; answer = refl; steps = refl; waits = refl }
send_keeps c b i (PreOp g grant version dirty) p = record { given = refl; answer = refl; steps = refl; waits = refl }
send_keeps c b i (ReadChunks g grant first count) p = record { given = refl; answer = refl; steps = refl; waits = refl }
send_keeps c b i (WriteChunks g grant first chunks) p = record { given = refl; answer = refl; steps = refl; waits = refl }
send_keeps c b i (SetLength g grant keep len) p = record { given = refl; answer = refl; steps = refl; waits = refl }
send_keeps c b i (PostOp g grant old new size attr) p = record { given = refl; answer = refl; steps = refl; waits = refl }
send_keeps c b i (Clear g grant version) p = record { given = refl; answer = refl; steps = refl; waits = refl }
send_keeps c b i (NameGet g grant name) p = record { given = refl; answer = refl; steps = refl; waits = refl }
send_keeps c b i (NamesAfter g grant after) p = record { given = refl; answer = refl; steps = refl; waits = refl }
send_keeps c b i (NameSet g grant name child) p = record { given = refl; answer = refl; steps = refl; waits = refl }
send_keeps c b i (NamesPut g grant after upto list) p = record { given = refl; answer = refl; steps = refl; waits = refl }
send_keeps c b i (Make g grant child) p = record { given = refl; answer = refl; steps = refl; waits = refl }
send_keeps c b i (Made g grant child) p = record { given = refl; answer = refl; steps = refl; waits = refl }
send_keeps c b i (Unmake g grant child) p = record { given = refl; answer = refl; steps = refl; waits = refl }
send_keeps c b i (Mark g grant heal head) p = record { given = refl; answer = refl; steps = refl; waits = refl }
send_keeps c b i (Unmark g grant version dirty) p = record { given = refl; answer = refl; steps = refl; waits = refl }
send_keeps c b i (GfidsAfter after dirty) p = record { given = refl; answer = refl; steps = refl; waits = refl }

-- and what does, on gfid g
pub record SendDoes (c d : Account) (g b i : ℕ) (r : Request) : Type 0 where
  pub place : (y : ℕ) → at d g y ≡ put (places c g) b (asked_place (at c g b) i r) y
  pub queried : (is_query r ≡ true → (d.on g).queried ≡ Some c.steps) × (is_query r ≡ false → (d.on g).queried ≡ (c.on g).queried)
  pub dirty : ((d.on g).dirty ≡ (c.on g).dirty) ⊎ (dirty_of r ≡ (d.on g).dirty)
  pub clean : is_pre r ≡ false → (d.on g).dirty ≡ (c.on g).dirty
  pub gfids : (is_lock r ≡ true → d.gfids ≡ inserted g c.gfids) × (is_lock r ≡ false → d.gfids ≡ c.gfids)

quiet : (c d : Account) (g b i : ℕ) (r : Request) → (d.on g) ≡ (c.on g) → asked_place (at c g b) i r ≡ at c g b → is_query r ≡ false → is_lock r ≡ false → d.gfids ≡ c.gfids → SendDoes c d g b i r
quiet c d g b i r e p q l f = record {
  place = λ y. ap (λ (x : Dealings). x.place y) e ∙ (sym (put_same (places c g) b y) ∙ ap (λ (q : Place). put (places c g) b q y) (sym p));
  queried = (λ t. absurd (cc), λ t. ap (λ (x : Dealings). x.queried) e);
  dirty = inl (ap (λ (x : Dealings). x.dirty) e);
  clean = λ t. ap (λ (x : Dealings). x.dirty) e;
  gfids = (λ t. absurd (cc), λ t. f);
}

same_gfid : (a b : ℕ) → Some a ≡ Some b → a ≡ b
same_gfid a b e = cc

pub send_does : (c : Account) (g b i : ℕ) (r : Request) → gfid_of r ≡ Some g → is_plain r ≡ true → (is_lock r ≡ true → (c.on g).queried ≡ None) → SendDoes c (sent c b i r) g b i r
send_does c g b i (Ask h Inode kind) e p q =
    let s : h.0 ≡ g = same_gfid h.0 g e in
    subst (λ (x : ℕ). SendDoes c (sent c b i (Ask h Inode kind)) x b i (Ask h Inode kind)) s
    (let u : (c.on h.0).queried ≡ None = subst (λ (x : ℕ). (c.on x).queried ≡ None) (sym s) (q refl) in
    let w : (sent c b i (Ask h Inode kind)).on h.0 ≡ asked (c.on h.0) b i Inode = put_at c.on h.0 _ in
    let e : (sent c b i (Ask h Inode kind)).on h.0 ≡ with_place (c.on h.0) b (record (at c h.0 b) { inode = Some (record { number = i; granted = false }) }) =
    w ∙ ap (λ (o : Option ℕ). with_place (begun (c.on h.0) o) b (record ((begun (c.on h.0) o).place b) { inode = Some (record { number = i; granted = false }) })) u in
    record {
      place = λ y. ap (λ (x : Dealings). x.place y) e;
      queried = (λ t. absurd (cc), λ t. ap (λ (x : Dealings). x.queried) e);
      dirty = inl (ap (λ (x : Dealings). x.dirty) e);
      clean = λ t. ap (λ (x : Dealings). x.dirty) e;
      gfids = (λ t. refl, λ t. absurd (cc));
    })
send_does c g b i (Ask h Heal kind) e p q = absurd (cc)
send_does c g b i (Release h grant) e p q = absurd (cc)
send_does c g b i (Query h grant) e p q =
    let s : h.0 ≡ g = same_gfid h.0 g e in
    subst (λ (x : ℕ). SendDoes c (sent c b i (Query h grant)) x b i (Query h grant)) s
    (let w : (sent c b i (Query h grant)).on h.0 ≡ record (c.on h.0) { queried = Some c.steps } = put_at c.on h.0 _ in
    record {
      place = λ y. ap (λ (x : Dealings). x.place y) w ∙ sym (put_same (places c h.0) b y);
      queried = (λ t. ap (λ (x : Dealings). x.queried) w, λ t. absurd (cc));
      dirty = inl (ap (λ (x : Dealings). x.dirty) w);
      clean = λ t. ap (λ (x : Dealings). x.dirty) w;
      gfids = (λ t. absurd (cc), λ t. refl);
    })
send_does c g b i (PreOp h grant version dirty) e p q =
    let s : h.0 ≡ g = same_gfid h.0 g e in
    subst (λ (x : ℕ). SendDoes c (sent c b i (PreOp h grant version dirty)) x b i (PreOp h grant version dirty)) s
    (let w : (sent c b i (PreOp h grant version dirty)).on h.0 ≡ record (c.on h.0) { dirty = Some dirty } = put_at c.on h.0 _ in
    record {
      place = λ y. ap (λ (x : Dealings). x.place y) w ∙ sym (put_same (places c h.0) b y);
      queried = (λ t. absurd (cc), λ t. ap (λ (x : Dealings). x.queried) w);
      dirty = inr (sym (ap (λ (x : Dealings). x.dirty) w));
      clean = λ t. absurd (cc);
      gfids = (λ t. absurd (cc), λ t. refl);
    })
send_does c g b i (ReadChunks h grant first count) e p q = quiet c _ g b i (ReadChunks h grant first count) refl refl refl refl refl
send_does c g b i (WriteChunks h grant first chunks) e p q = quiet c _ g b i (WriteChunks h grant first chunks) refl refl refl refl refl
send_does c g b i (SetLength h grant keep len) e p q = quiet c _ g b i (SetLength h grant keep len) refl refl refl refl refl
send_does c g b i (PostOp h grant old new size attr) e p q = quiet c _ g b i (PostOp h grant old new size attr) refl refl refl refl refl
send_does c g b i (Clear h grant version) e p q = quiet c _ g b i (Clear h grant version) refl refl refl refl refl
send_does c g b i (NameGet h grant name) e p q = quiet c _ g b i (NameGet h grant name) refl refl refl refl refl
send_does c g b i (NamesAfter h grant after) e p q = quiet c _ g b i (NamesAfter h grant after) refl refl refl refl refl
send_does c g b i (NameSet h grant name child) e p q = quiet c _ g b i (NameSet h grant name child) refl refl refl refl refl
send_does c g b i (NamesPut h grant after upto list) e p q = quiet c _ g b i (NamesPut h grant after upto list) refl refl refl refl refl
send_does c g b i (Make h grant child) e p q = quiet c _ g b i (Make h grant child) refl refl refl refl refl
send_does c g b i (Made h grant child) e p q = quiet c _ g b i (Made h grant child) refl refl refl refl refl
send_does c g b i (Unmake h grant child) e p q = quiet c _ g b i (Unmake h grant child) refl refl refl refl refl
send_does c g b i (Mark h grant heal head) e p q = quiet c _ g b i (Mark h grant heal head) refl refl refl refl refl
send_does c g b i (Unmark h grant version dirty) e p q = quiet c _ g b i (Unmark h grant version dirty) refl refl refl refl refl
send_does c g b i (GfidsAfter after dirty) e p q = absurd (cc)
