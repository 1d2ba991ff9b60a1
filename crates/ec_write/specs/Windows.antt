-- What rounds of data leave at the bricks.
use Rattle.std.proofs.Common.{◌≡◌, ◌⊎◌, inl, inr, ℕ, ◌||◌, Bool, true, false, refl, sym, ◌∙◌, ap, List, ◌∷◌, Option, Some, None}
use Rattle.ec_answers.specs.declared.grouped.Group.{Group}
use Rattle.ec_attr.specs.declared.kind.Domain.TheVariants.{Inode}
use Rattle.ec_attr.specs.declared.kind.LockKind.{LockKind}
use Rattle.ec_conduct.specs.Account.{Account, Exchange, Place, at, noted}
use Rattle.ec_conduct.specs.Done.{is_change, is_done, is_pre, is_query, tried}
use Rattle.ec_wire.specs.declared.request.Request.{Request}
use Rattle.ec_wire.specs.declared.request.Request.TheVariants.{Ask, Query, ReadChunks, SetLength, WriteChunks}
use Rattle.ec_txn.specs.Ballot.{IsGroupAt, serving}
use Rattle.ec_txn.specs.Rounds.{Asks, IsIdle, IsIn, IsRound, IsSent, IsSentTo, asked_place}
use Rattle.ec_txn.proofs.Ballots.{group_stays, still_serves}
use Rattle.ec_txn.proofs.BallotGoes.{Grows, reply_same}
use Rattle.ec_txn.proofs.Openings.{over_in}
use Rattle.ec_write.specs.During.{HasChanged}

-- a brick as a round is over: it was asked nothing, or it was asked and that is over
abbrev pub Grown : Option Request → Place → Place → Type 0
Grown o p q = ((o ≡ None) × (q ≡ p)) ⊎ ((e : Exchange) × (o ≡ Some e.request) × (q ≡ noted (asked_place p e.number e.request) e))

pub grown : (g : ℕ) (c : Account) (f : Asks) (d : Account) → IsRound g c f d → IsIdle d → (x : ℕ) → Grown (f x) (at c g x) (at d g x)
grown g c f d r idle x = go (f x) (r.each x)
  where
    go : (o : Option Request) → IsIn o (at c g x) (d.waits x) (at d g x) → Grown o (at c g x) (at d g x)
    go None t = inl (refl, t.1)
    go (Some q) t =
        let w = over_in q (at c g x) (d.waits x) (at d g x) t (idle x) in
        inr (record { number = w.0; request = q; reply = w.1 }, refl, w.2)

or_off : (a b : Bool) → a ≡ false → b ≡ false → (a || b) ≡ false
or_off true b e f = absurd (cc)
or_off false b e f = f

-- a request that fails a test, and leaves the window as it goes out
pub record IsMild (p : Request → Bool) (r : Request) : Type 0 where
  pub off : p r ≡ false
  pub window : (q : Place) (i : ℕ) → (asked_place q i r).window ≡ q.window

pub mild_ask : (p : Request → Bool) (g : ℕ) (kind : LockKind) → p (Ask (record { 0 = g }) Inode kind) ≡ false → IsMild p (Ask (record { 0 = g }) Inode kind)
mild_ask p g kind e = record { off = e; window = λ q i. refl }

pub mild_query : (p : Request → Bool) (g grant : ℕ) → p (Query (record { 0 = g }) grant) ≡ false → IsMild p (Query (record { 0 = g }) grant)
mild_query p g grant e = record { off = e; window = λ q i. refl }

pub never : (p : Request → Bool) (g : ℕ) (c : Account) (f : Asks) (d : Account) → IsRound g c f d → IsIdle d → ((x : ℕ) (r : Request) → f x ≡ Some r → IsMild p r)
    → (x : ℕ) → tried p (at c g x).window ≡ false → tried p (at d g x).window ≡ false
never p g c f d r idle mild x before = go (f x) refl (grown g c f d r idle x)
  where
    go : (o : Option Request) → f x ≡ o → Grown o (at c g x) (at d g x) → tried p (at d g x).window ≡ false
    go o same (inl (n, e)) = ap (λ (q : Place). tried p q.window) e ∙ before
    go o same (inr (e, asked, is)) =
        let m = mild x e.request (same ∙ asked) in
        ap (λ (q : Place). tried p q.window) is ∙ (ap (λ (es : List Exchange). p e.request || tried p es) (m.window (at c g x) e.number) ∙ or_off (p e.request) (tried p (at c g x).window) m.off before)

-- a request of data asks for no lock, no head and no PreOp
pub record IsData (r : Request) : Type 0 where
  pub locks : (p : Place) (i : ℕ) → asked_place p i r ≡ p
  pub query : is_query r ≡ false
  pub pre : is_pre r ≡ false

pub data_read : (g grant first count : ℕ) → IsData (ReadChunks (record { 0 = g }) grant first count)
data_read g grant first count = record { locks = λ p i. refl; query = refl; pre = refl }

pub data_write : (g grant first : ℕ) (chunks : List (List ℕ)) → IsData (WriteChunks (record { 0 = g }) grant first chunks)
data_write g grant first chunks = record { locks = λ p i. refl; query = refl; pre = refl }

pub data_cut : (g grant keep count : ℕ) → IsData (SetLength (record { 0 = g }) grant keep count)
data_cut g grant keep count = record { locks = λ p i. refl; query = refl; pre = refl }

pub data_mild : (p : Request → Bool) (r : Request) → IsData r → p r ≡ false → IsMild p r
data_mild p r k e = record { off = e; window = λ q i. ap (λ (z : Place). z.window) (k.locks q i) }

-- a round that asks bricks which serve for data
abbrev pub AsksData : ℕ → Account → Asks → Type 0
AsksData g c f = (x : ℕ) (r : Request) → f x ≡ Some r → IsData r × (i : ℕ) × (serving (at c g x) ≡ Some i)

-- what is over is the same all through such a round
pub data_same : (g : ℕ) (c : Account) (f h : Asks) (d : Account) → AsksData g c f → IsSent g c h d → ((y : ℕ) (r : Request) → h y ≡ Some r → f y ≡ Some r) → (y : ℕ) → at d g y ≡ at c g y
data_same g c f h d data_is s part y = go (h y) refl (s.each y)
  where
    go : (o : Option Request) → h y ≡ o → IsSentTo o (at c g y) (d.waits y) (at d g y) → at d g y ≡ at c g y
    go None e t = t.1
    go (Some r) e t = t.2 ∙ (data_is y r (part y r e)).0.locks (at c g y) t.0

-- what a brick that serves after it did in it
abbrev pub Went : Option Request → List Exchange → List Exchange → Type 0
Went o old new = ((o ≡ None) × (new ≡ old)) ⊎ ((e : Exchange) × (o ≡ Some e.request) × (is_done e.reply ≡ true) × (new ≡ e ∷ old))

module _ (g : ℕ) (c : Account) (f : Asks) (d : Account) (r : IsRound g c f d) (idle : IsIdle d) (asks : AsksData g c f) where
  pub served : (x j : ℕ) → serving (at d g x) ≡ Some j → (serving (at c g x) ≡ Some j) × Went (f x) (at c g x).window (at d g x).window
  served x j s = go (f x) refl (grown g c f d r idle x)
    where
      go : (o : Option Request) → f x ≡ o → Grown o (at c g x) (at d g x) → (serving (at c g x) ≡ Some j) × Went o (at c g x).window (at d g x).window
      go o same (inl (n, e)) = (sym (ap serving e) ∙ s, inl (n, ap (λ (p : Place). p.window) e))
      go o same (inr (e, asked, is)) =
          let m = asks x e.request (same ∙ asked) in
          let here : at d g x ≡ noted (at c g x) e = is ∙ ap (λ (p : Place). noted p e) (m.0.locks (at c g x) e.number) in
          let w = still_serves (at c g x) e m.1 j m.2 (sym (ap serving here) ∙ s) in
          (m.2 ∙ ap (λ (n : ℕ). Some n) (sym w.0), inr (e, asked, w.1, ap (λ (p : Place). p.window) here))

  pub data_grows : (x : ℕ) → Grows (at c g x).window (at d g x).window
  data_grows x = go (f x) refl (grown g c f d r idle x)
    where
      go : (o : Option Request) → f x ≡ o → Grown o (at c g x) (at d g x) → Grows (at c g x).window (at d g x).window
      go o same (inl (n, e)) = inl (ap (λ (p : Place). p.window) e)
      go o same (inr (e, asked, is)) =
          let m = asks x e.request (same ∙ asked) in
          inr (e, m.0.query, ap (λ (p : Place). p.window) (is ∙ ap (λ (p : Place). noted p e) (m.0.locks (at c g x) e.number)))

  pub group_kept : (group : Group) → IsGroupAt c g group → IsGroupAt d g group
  group_kept group i = group_stays c d g group r.given (λ x. ap Rattle.ec_conduct.specs.Standing.head_of (reply_same (at c g x).window (at d g x).window (data_grows x))) i

-- a brick that did the PreOp and maybe changes, and was read since
pub changed_read : (g : ℕ) (group : Group) (i v : ℕ) (rs : List Request) (e : Exchange) (old : List Exchange) → is_pre e.request ≡ false → is_change e.request ≡ false → HasChanged g group i v rs old → HasChanged g group i v rs (e ∷ old)
changed_read g group i v rs e old p q k = record {
  pre = rw p k.pre;
  done = rw (p, q) k.done;
  sent = rw (p, q) k.sent;
}

-- and one that did a change more
pub changed_more : (g : ℕ) (group : Group) (i v : ℕ) (rs : List Request) (e : Exchange) (old : List Exchange) → is_pre e.request ≡ false → is_change e.request ≡ true → is_done e.reply ≡ true → HasChanged g group i v rs old → HasChanged g group i v (e.request ∷ rs) (e ∷ old)
changed_more g group i v rs e old p q done k = record {
  pre = rw p k.pre;
  done = rw (p, q, done) k.done;
  sent = rw (p, q) (ap (λ (xs : List Request). e.request ∷ xs) k.sent);
}
