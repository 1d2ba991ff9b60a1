-- What was told stays told, and what a request stands on stays so.
use Rattle.std.proofs.Common.{◌≡◌, ℕ, ◌<◌, Bool, true, false, Option, Some, List, [], ◌∷◌, sym, ◌∙◌, ap, subst, arith, inl, inr, ⊎_elim}
use Rattle.ec_attr.proofs.Sets.{part}
use Rattle.ec_attr.specs.Marks.{is_marked}
use Rattle.ec_wire.specs.declared.message.Message.{Message}
use Rattle.ec_wire.specs.declared.reply.Reply.{Reply}
use Rattle.ec_wire.specs.declared.reply.Reply.TheVariants.{Head as HeadIs}
use Rattle.ec_wire.specs.declared.request.Request.{Request}
use Rattle.ec_wire.specs.declared.request.Request.TheVariants.{Query, PreOp, PostOp, Clear, Make}
use Rattle.ec_conduct.specs.Account.{Exchange}
use Rattle.ec_history.specs.Run.{Owed}
use Rattle.ec_law_base.specs.State.{Ballot, Head as Seen, State, target}
use Rattle.ec_law_ballots.specs.Words.{at_base, is_marked_head}
use Rattle.ec_law_turns.specs.Once.{IsIn, is_sink_pre}
use Rattle.ec_law_turns.specs.Shown.{IsOver, IsTold, OwedShown, Tells}
use Rattle.ec_law_turns.specs.Told.{PostTold, PreTold, Saw, Told}
use Rattle.ec_law_turns.proofs.Later.{Later}

module _ (g : ℕ) (said said' : ℕ → Option Message) (of of' : ℕ → ℕ) (s s' : State) (still : (i : ℕ) (x : Message) → said i ≡ Some x → (said' i ≡ Some x) × (of' i ≡ of i)) (later : Later s s') where
  more : (t : ℕ) → 0 < (s.ballot t).number → 0 < (s'.ballot t).number
  more t lt = subst (λ (p : Ballot). 0 < p.number) (sym (later.ballot t lt)) lt

  tells_later : (q : Request) (reply : Reply) (t b : ℕ) → Tells g said s t b q reply → Tells g said' s' t b q reply
  tells_later (Query x n) (HeadIs y) t b h = λ on. let o = h on in record { message = o.message; is = (still n o.message o.is).0; at = λ z body same. ⊎_elim (λ e. inl (later.seen t b _ e)) (λ lt. inr (more t lt)) (o.at z body same) }
  tells_later (PreOp x n at dirty) reply t b h = λ on so plain. later.pre t b (h on so plain)
  tells_later (PostOp x n at version size attr) reply t b h = λ on so plain. later.post t b (h on so plain)
  tells_later (Make x n child) reply t b h = λ on so. later.born b (h on so)
  tells_later q reply t b h = tt

  pub is_told_later : (i : ℕ) (reply : Reply) → IsTold g said of s i reply → IsTold g said' of' s' i reply
  is_told_later i reply h = let o = still i h.message h.is in record { message = h.message; is = o.0; at = λ q body. subst (λ (t : ℕ). Tells g said' s' t h.message.brick q reply) (sym o.1) (tells_later q reply (of i) h.message.brick (h.at q body)) }

  pub owed_shown_later : (owed : List Owed) → OwedShown g said of s owed → OwedShown g said' of' s' owed
  owed_shown_later [] h = tt
  owed_shown_later (o ∷ owed) h = (λ reply e. is_told_later o.re reply (h.0 reply e), owed_shown_later owed h.1)

  pub is_over_later : (e : Exchange) → IsOver g said of s e → IsOver g said' of' s' e
  is_over_later e h = record { on = h.on; told = λ reply z. is_told_later e.number reply (h.told reply z) }

  saw_later : (a b : ℕ) (P Q : Option Seen → Type 0) → ((h : Seen) → P (Some h) → Q (Some h)) → Saw s a b P → Saw s' a b Q
  saw_later a b P Q f h = record { head = h.head; seen = later.seen a b h.head h.seen; so = f h.head h.so }

  in_later : (test : Request → Bool) (i b t : ℕ) → IsIn g said of test i b t → IsIn g said' of' test i b t
  in_later test i b t h = let o = still i h.message h.is in record { message = h.message; request = h.request; is = o.0; brick = h.brick; body = h.body; on = h.on; passes = h.passes; turn = o.1 ∙ h.turn }

  pre_told_later : (a b : ℕ) (t : Bool) → s'.ballot a ≡ s.ballot a → PreTold s a b t → PreTold s' a b t
  pre_told_later a b false same h = saw_later a b (λ h. at_base (s.ballot a) h ≡ true) (λ h. at_base (s'.ballot a) h ≡ true) (λ y e. ap (λ (p : Ballot). at_base p (Some y)) same ∙ e) h
  pre_told_later a b true same h = saw_later a b (λ h. is_marked_head h ≡ true) (λ h. is_marked_head h ≡ true) (λ y e. e) h

  post_told_later : (a b : ℕ) (t : Bool) → PostTold g said of s a b t → PostTold g said' of' s' a b t
  post_told_later a b false h = later.pre a b h
  post_told_later a b true h = (saw_later a b (λ h. is_marked_head h ≡ true) (λ h. is_marked_head h ≡ true) (λ y e. e) h.0, (h.1.0, in_later is_sink_pre h.1.0 b a h.1.1))

  pub asked_later : (n k a b : ℕ) (q : Request) → Told n k g said of s a b q → Told n k g said' of' s' a b q
  asked_later n k a b (PreOp x i at number) h = λ on.
      let o = h on in
      let same = later.ballot a (let e = ap (λ (p : Ballot). p.number) o.ballot in let lt = o.above in omega (arith, e, lt)) in
      record { ballot = same ∙ o.ballot; above = o.above; limit = o.limit; ready = pre_told_later a b (is_marked at) same o.ready }
  asked_later n k a b (PostOp x i at version size attr) h = λ on.
      let o = h on in
      let same = later.ballot a o.ballot in
      record {
        ballot = more a o.ballot;
        base = ap (λ (p : Ballot). p.base) same ∙ o.base;
        target = ap target same ∙ o.target;
        mark = o.mark;
        quorum = let x = o.quorum in let y = part n (s.pre a) (s'.pre a) (λ c lt e. later.pre a c e) in omega (arith, x, y);
        ready = post_told_later a b (is_marked at) o.ready;
      }
  asked_later n k a b (Clear x i at) h = λ on. let o = h on in record { ballot = more a o.ballot; target = ap target (later.ballot a o.ballot) ∙ o.target; all = λ c lt. later.post a c (o.all c lt) }
  asked_later n k a b q h = tt
