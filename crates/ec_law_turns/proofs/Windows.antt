-- What is found in a list of exchanges.
use Rattle.std.proofs.Common.{◌≡◌, Bool, true, false, cond, ◌&&◌, ◌||◌, Option, Some, None, List, [], ◌∷◌, refl, ap}
use Rattle.ec_attr.specs.declared.head.Head.{Head}
use Rattle.ec_wire.specs.declared.reply.Reply.{Reply}
use Rattle.ec_wire.specs.declared.reply.Reply.TheVariants.{Head as HeadIs}
use Rattle.ec_wire.specs.declared.request.Request.{Request}
use Rattle.ec_conduct.specs.Account.{Exchange}
use Rattle.ec_conduct.specs.Done.{did, is_done, last_done, reply_to, tried}
use Rattle.ec_conduct.specs.Standing.{head_of}
use Rattle.ec_law_turns.specs.Follows.{All}
use Rattle.ec_law_turns.proofs.Basics.{some_is}

-- an exchange of the list, of which this holds as of all there
pub record Found (P : Exchange → Type 0) (Q : Exchange → Type 0) : Type 0 where
  pub e : Exchange
  pub all : P e
  pub so : Q e

pub all_both : (P Q : Exchange → Type 0) (es : List Exchange) → All P es → All Q es → All (λ e. P e × Q e) es
all_both P Q [] h i = tt
all_both P Q (e ∷ es) h i = ((h.0, i.0), all_both P Q es h.1 i.1)

both_true : (t u : Bool) → (t && u) ≡ true → (t ≡ true) × (u ≡ true)
both_true true u e = (refl, e)
both_true false u e = absurd (cc)

abbrev pub WasDone : (Request → Bool) → Exchange → Type 0
WasDone test e = (test e.request ≡ true) × (is_done e.reply ≡ true)

pub did_one : (P : Exchange → Type 0) (test : Request → Bool) (es : List Exchange) → All P es → did test es ≡ true → Found P (WasDone test)
did_one P test [] all h = absurd (cc)
did_one P test (e ∷ es) all h = at (test e.request && is_done e.reply) refl h (λ k. did_one P test es all.1 k)
  where
    at : (t : Bool) → (test e.request && is_done e.reply) ≡ t → (t || did test es) ≡ true → (did test es ≡ true → Found P (WasDone test)) → Found P (WasDone test)
    at true i k rest = record { e = e; all = all.0; so = both_true (test e.request) (is_done e.reply) i }
    at false i k rest = rest k

pub last_one : (P : Exchange → Type 0) (test : Request → Bool) (q : Request) (es : List Exchange) → All P es → last_done test es ≡ Some q → Found P (λ e. (e.request ≡ q) × (is_done e.reply ≡ true))
last_one P test q [] all h = absurd (cc)
last_one P test q (e ∷ es) all h = at (test e.request && is_done e.reply) refl h (λ k. last_one P test q es all.1 k)
  where
    at : (t : Bool) → (test e.request && is_done e.reply) ≡ t → cond t (Some e.request) (last_done test es) ≡ Some q → (last_done test es ≡ Some q → Found P (λ e. (e.request ≡ q) × (is_done e.reply ≡ true))) → Found P (λ e. (e.request ≡ q) × (is_done e.reply ≡ true))
    at true i k rest = record { e = e; all = all.0; so = (some_is e.request q k, (both_true (test e.request) (is_done e.reply) i).1) }
    at false i k rest = rest k

head_is : (o : Option Reply) (h : Head) → head_of o ≡ Some h → o ≡ Some (HeadIs h)
head_is (Some (HeadIs x)) h e = ap (λ (y : Head). Some (HeadIs y)) (some_is x h e)
head_is o h e = absurd (cc)

pub head_one : (P : Exchange → Type 0) (test : Request → Bool) (h : Head) (es : List Exchange) → All P es → head_of (reply_to test es) ≡ Some h → Found P (λ e. (test e.request ≡ true) × (e.reply ≡ Some (HeadIs h)))
head_one P test h [] all k = absurd (cc)
head_one P test h (e ∷ es) all k = at (test e.request) refl k (λ i. head_one P test h es all.1 i)
  where
    at : (t : Bool) → test e.request ≡ t → head_of (cond t e.reply (reply_to test es)) ≡ Some h → (head_of (reply_to test es) ≡ Some h → Found P (λ e. (test e.request ≡ true) × (e.reply ≡ Some (HeadIs h)))) → Found P (λ e. (test e.request ≡ true) × (e.reply ≡ Some (HeadIs h)))
    at true i j rest = record { e = e; all = all.0; so = (i, head_is e.reply h j) }
    at false i j rest = rest j

-- a reply that was done is one
pub reply_of : (o : Option Reply) → is_done o ≡ true → (reply : Reply) × (o ≡ Some reply) × (is_done (Some reply) ≡ true)
reply_of None e = absurd (cc)
reply_of (Some reply) e = (reply, refl, e)

-- where a head was heard the request had been sent
pub was_tried : (test : Request → Bool) (h : Head) (es : List Exchange) → head_of (reply_to test es) ≡ Some h → tried test es ≡ true
was_tried test h [] k = absurd (cc)
was_tried test h (e ∷ es) k = at (test e.request) k (λ i. was_tried test h es i)
  where
    at : (t : Bool) → head_of (cond t e.reply (reply_to test es)) ≡ Some h → (head_of (reply_to test es) ≡ Some h → tried test es ≡ true) → (t || tried test es) ≡ true
    at true i rest = refl
    at false i rest = rest i
