-- What a message that is sent makes of ballots.
use Rattle.std.proofs.Common.{◌≡◌, ◌≢◌, ◌⊎◌, ℕ, ◌<◌, Bool, true, false, cond, ◌==◌, Option, Some, [], ◌∷◌, refl, ap, arith, inl, inr}
use Rattle.std.proofs.lemmas.Bool.Decides.{nat_tests}
use Rattle.ec_attr.specs.Marks.{stripped}
use Rattle.ec_attr.specs.declared.gfid.Gfid.{Gfid}
use Rattle.ec_wire.specs.declared.message.Body.{Body}
use Rattle.ec_wire.specs.declared.message.Body.TheVariants.{ToBrick, ToClient}
use Rattle.ec_wire.specs.declared.message.Message.{Message}
use Rattle.ec_wire.specs.declared.request.Request.{Request}
use Rattle.ec_wire.specs.declared.request.Request.TheVariants.{Query, PreOp, Mark, Unmark}
use Rattle.ec_conduct.specs.Account.{gfid_of}
use Rattle.ec_conduct.specs.Done.{is_pre}
use Rattle.ec_law_base.specs.State.{Ballot, State}
use Rattle.ec_law_ballots.specs.Act.{after}
use Rattle.ec_law_ballots.specs.Act.Act.{Choose, Moment}
use Rattle.ec_law_net.specs.Turns.{acts_sent}
use Rattle.ec_law_turns.specs.Sound.{IsSound}
use Rattle.ec_law_turns.proofs.Basics.{put_here, put_there}

moments : (s : State) (a t : ℕ) (hit u : Bool) → (after (cond hit (cond u [] (Moment a ∷ [])) []) s).ballot t ≡ s.ballot t
moments s a t true true = refl
moments s a t true false = refl
moments s a t false u = refl

choices : (s : State) (a : ℕ) (p : Ballot) (t : ℕ) → t ≢ a → (hit u : Bool) → (after (cond hit (cond u (Choose a p ∷ []) []) []) s).ballot t ≡ s.ballot t
choices s a p t ne true true = put_there s.ballot a p t ne
choices s a p t ne true false = refl
choices s a p t ne false u = refl

missed : (s : State) (a : ℕ) (p : Ballot) (t : ℕ) (hit u : Bool) → hit ≡ false → (after (cond hit (cond u (Choose a p ∷ []) []) []) s).ballot t ≡ s.ballot t
missed s a p t true u e = absurd (cc)
missed s a p t false u e = refl

-- only of the turn of the message
pub ballot_other : (g : ℕ) (s : State) (a : ℕ) (body : Body) (t : ℕ) → t ≢ a → (after (acts_sent g s a body) s).ballot t ≡ s.ballot t
ballot_other g s a (ToClient re reply) t ne = refl
ballot_other g s a (ToBrick (Query x n)) t ne = moments s a t (x.0 == g) (s.moment a)
ballot_other g s a (ToBrick (PreOp x n v number)) t ne = choices s a _ t ne (x.0 == g) ((s.ballot a).number == 0)
ballot_other g s a (ToBrick (Mark x n heal head)) t ne = choices s a _ t ne (x.0 == g) ((s.ballot a).number == 0)
ballot_other g s a (ToBrick (Unmark x n v dirty)) t ne = choices s a _ t ne (x.0 == g) ((s.ballot a).number == 0)
ballot_other g s a (ToBrick q) t ne = refl

unequal_is : (x g : ℕ) → (x ≡ g → ⊥) → (x == g) ≡ false
unequal_is x g ne = at (x == g) refl
  where
    at : (t : Bool) → (x == g) ≡ t → t ≡ false
    at false e = refl
    at true e = absurd (ne (grind (arith, nat_tests)))

-- of a PreOp alone, where no record is marked
pub ballot_same : (g : ℕ) (s : State) (a : ℕ) (q : Request) (t : ℕ) → is_pre q ≡ false → (said : ℕ → Option Message) (of : ℕ → ℕ) (moment : ℕ → Bool) (c b i : ℕ) → IsSound g said of moment c b i q → (after (acts_sent g s a (ToBrick q)) s).ballot t ≡ s.ballot t
ballot_same g s a (Query x n) t isnt said of moment c b i sound = moments s a t (x.0 == g) (s.moment a)
ballot_same g s a (PreOp x n v number) t isnt said of moment c b i sound = absurd (cc)
ballot_same g s a (Mark x n heal head) t isnt said of moment c b i sound = missed s a _ t (x.0 == g) ((s.ballot a).number == 0) (unequal_is x.0 g sound)
ballot_same g s a (Unmark x n v dirty) t isnt said of moment c b i sound = missed s a _ t (x.0 == g) ((s.ballot a).number == 0) (unequal_is x.0 g sound)
ballot_same g s a q t isnt said of moment c b i sound = refl

-- of a request on the gfid
pub ballot_apart : (g : ℕ) (s : State) (a : ℕ) (q : Request) (t : ℕ) → gfid_of q ≢ Some g → (after (acts_sent g s a (ToBrick q)) s).ballot t ≡ s.ballot t
ballot_apart g s a (Query x n) t ne = moments s a t (x.0 == g) (s.moment a)
ballot_apart g s a (PreOp x n v number) t ne = missed s a _ t (x.0 == g) ((s.ballot a).number == 0) (unequal_is x.0 g (λ e. ne (ap (λ (y : ℕ). Some y) e)))
ballot_apart g s a (Mark x n heal head) t ne = missed s a _ t (x.0 == g) ((s.ballot a).number == 0) (unequal_is x.0 g (λ e. ne (ap (λ (y : ℕ). Some y) e)))
ballot_apart g s a (Unmark x n v dirty) t ne = missed s a _ t (x.0 == g) ((s.ballot a).number == 0) (unequal_is x.0 g (λ e. ne (ap (λ (y : ℕ). Some y) e)))
ballot_apart g s a q t ne = refl

-- a PreOp takes its turn's ballot, or has it
pub ballot_taken : (g : ℕ) (s : State) (a : ℕ) (x : Gfid) (n v number : ℕ) → x.0 ≡ g → 0 < number → ((s.ballot a).number ≡ 0) ⊎ (s.ballot a ≡ record { base = stripped v; number = number }) → (after (acts_sent g s a (ToBrick (PreOp x n v number))) s).ballot a ≡ record { base = stripped v; number = number }
ballot_taken g s a x n v number on lt either = at (x.0 == g) ((s.ballot a).number == 0) (is_it x.0 on) refl either
  where
    is_it : (y : ℕ) → y ≡ g → (y == g) ≡ true
    is_it y e = grind (arith, nat_tests)

    zero_of : (y : ℕ) → (y == 0) ≡ false → y ≡ 0 → ⊥
    zero_of y e h = grind (arith, nat_tests)

    zero_is : (y : ℕ) → (y == 0) ≡ true → y ≡ 0
    zero_is y e = grind (arith, nat_tests)

    at : (hit u : Bool) → hit ≡ true → ((s.ballot a).number == 0) ≡ u → ((s.ballot a).number ≡ 0) ⊎ (s.ballot a ≡ record { base = stripped v; number = number }) → (after (cond hit (cond u (Choose a (record { base = stripped v; number = number }) ∷ []) []) []) s).ballot a ≡ record { base = stripped v; number = number }
    at true true e f o = put_here s.ballot a (record { base = stripped v; number = number }) a refl
    at true false e f (inl z) = absurd (zero_of (s.ballot a).number f z)
    at true false e f (inr z) = z
    at false u e f o = absurd (cc)
