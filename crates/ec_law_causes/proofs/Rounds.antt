-- What a round that is over adds to the windows of its bricks.
use Rattle.std.proofs.Common.{◌≡◌, inl, inr, ℕ, ◌==◌, ◌||◌, Bool, false, cond, refl, ◌∙◌, ap, List, ◌∷◌, Option, Some, None}
use Rattle.std.proofs.Math.Path.{fun_ext}
use Rattle.std.proofs.lemmas.Bool.{cases_Bool}
use Rattle.ec_attr.specs.declared.kind.Domain.TheVariants.{Inode, Heal}
use Rattle.ec_conduct.specs.Account.{Account, Exchange, Place, Wait, after, at, heard_by, left_by}
use Rattle.ec_conduct.specs.Done.{reply_to, tried}
use Rattle.ec_conduct.specs.Given.{bricks_of}
use Rattle.ec_conduct.specs.Own.{Own, Sends, Hears, GivesUp, Answers}
use Rattle.ec_conduct.specs.Table.{IsFromOutside}
use Rattle.ec_wire.specs.declared.reply.Reply.{Reply}
use Rattle.ec_wire.specs.declared.request.Request.{Request}
use Rattle.ec_wire.specs.declared.request.Request.TheVariants.{Ask, Release, Query, PreOp, ReadChunks, WriteChunks, SetLength, PostOp, Clear, NameGet, NamesAfter, NameSet, NamesPut, Make, Made, Unmake, Mark, Unmark, GfidsAfter}
use Rattle.ec_txn.specs.Rounds.{Asks, IsIdle, IsIn, IsOn, IsRound, asked_place}
use Rattle.ec_txn.proofs.Hearing.{round_over}
use Rattle.ec_txn.proofs.Openings.{over_in}

pub asked_window : (p : Place) (i : ℕ) (r : Request) → (asked_place p i r).window ≡ p.window
asked_window p i (Ask g Inode kind) = refl
asked_window p i (Ask g Heal kind) = refl
asked_window p i (Release g grant) = refl
asked_window p i (Query g grant) = refl
asked_window p i (PreOp g grant version dirty) = refl
asked_window p i (ReadChunks g grant first count) = refl
asked_window p i (WriteChunks g grant first chunks) = refl
asked_window p i (SetLength g grant keep len) = refl
asked_window p i (PostOp g grant old new size attr) = refl
asked_window p i (Clear g grant version) = refl
asked_window p i (NameGet g grant name) = refl
asked_window p i (NamesAfter g grant after) = refl
asked_window p i (NameSet g grant name child) = refl
asked_window p i (NamesPut g grant after upto list) = refl
asked_window p i (Make g grant child) = refl
asked_window p i (Made g grant child) = refl
asked_window p i (Unmake g grant child) = refl
asked_window p i (Mark g grant heal head) = refl
asked_window p i (Unmark g grant version dirty) = refl
asked_window p i (GfidsAfter after dirty) = refl

-- a brick that wasn't asked has the same window, and one that was has one request more
abbrev pub IsOver : Option Request → List Exchange → List Exchange → Type 0
IsOver None old new = new ≡ old
IsOver (Some r) old new = (i : ℕ) × (reply : Option Reply) × (new ≡ record { number = i; request = r; reply = reply } ∷ old)

pub window_over : (o : Option Request) (p : Place) (w : Option Wait) (q : Place) → IsIn o p w q → w ≡ None → IsOver o p.window q.window
window_over None p w q t idle = ap (λ (z : Place). z.window) t.1
window_over (Some r) p w q t idle =
    let v = over_in r p w q t idle in
    (v.0, v.1, ap (λ (z : Place). z.window) v.2 ∙ ap (λ (es : List Exchange). record { number = v.0; request = r; reply = v.1 } ∷ es) (asked_window p v.0 r))

pub reply_over : (p : Request → Bool) (o : Option Request) (old new : List Exchange) → IsOver o old new → ((r : Request) → o ≡ Some r → p r ≡ false) → reply_to p new ≡ reply_to p old
reply_over p None old new w other = ap (reply_to p) w
reply_over p (Some r) old new w other = ap (reply_to p) w.2 ∙ ap (λ (t : Bool). cond t w.1 (reply_to p old)) (other r refl)

pub tried_over : (p : Request → Bool) (o : Option Request) (old new : List Exchange) → IsOver o old new → ((r : Request) → o ≡ Some r → p r ≡ false) → tried p new ≡ tried p old
tried_over p None old new w other = ap (tried p) w
tried_over p (Some r) old new w other = ap (tried p) w.2 ∙ ap (λ (t : Bool). t || tried p old) (other r refl)

-- what each brick replied last, and whether it was asked
abbrev pub replies_at : (Request → Bool) → Account → ℕ → ℕ → Option Reply
replies_at p c g x = reply_to p (at c g x).window

abbrev pub tries_at : (Request → Bool) → Account → ℕ → ℕ → Bool
tries_at p c g x = tried p (at c g x).window

module _ (g : ℕ) (c : Account) (f : Asks) (d : Account) (r : IsRound g c f d) (idle : IsIdle d) where
  pub over_at : (x : ℕ) → IsOver (f x) (at c g x).window (at d g x).window
  over_at x = window_over (f x) (at c g x) (d.waits x) (at d g x) (r.each x) (idle x)

  -- what a round doesn't ask for is as before
  pub replies_same : (p : Request → Bool) → ((x : ℕ) (q : Request) → f x ≡ Some q → p q ≡ false) → replies_at p d g ≡ replies_at p c g
  replies_same p other = fun_ext (λ x. reply_over p (f x) (at c g x).window (at d g x).window (over_at x) (other x))

  pub tried_same : (p : Request → Bool) → ((x : ℕ) (q : Request) → f x ≡ Some q → p q ≡ false) → tries_at p d g ≡ tries_at p c g
  tried_same p other = fun_ext (λ x. tried_over p (f x) (at c g x).window (at d g x).window (over_at x) (other x))

-- a reply or a giving up leaves a round a round
pub outside_round : (g : ℕ) (c d : Account) (f : Asks) (what : Own) → IsOn g (bricks_of c.given) (c.on g).queried f → IsRound g c f d → IsFromOutside what → IsRound g c f (after d what)
outside_round g c d f (Sends b i q) on r out = absurd out
outside_round g c d f (Hears b i reply) on r out = heard (d.waits b) refl
  where
    heard : (o : Option Wait) → d.waits b ≡ o → IsRound g c f (heard_by d b o i reply)
    heard None e = r
    heard (Some w) e = elim (cases_Bool (w.number == i)) [
      | inl t ↦ rw t (round_over g b c d f w (Some reply) on r e)
      | inr t ↦ rw t r
    ]
outside_round g c d f (GivesUp b i) on r out = left (d.waits b) refl
  where
    left : (o : Option Wait) → d.waits b ≡ o → IsRound g c f (left_by d b o i)
    left None e = r
    left (Some w) e = elim (cases_Bool (w.number == i)) [
      | inl t ↦ rw t (round_over g b c d f w None on r e)
      | inr t ↦ rw t r
    ]
outside_round g c d f (Answers answer) on r out = absurd out
