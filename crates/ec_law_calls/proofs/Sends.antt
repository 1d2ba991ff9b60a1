-- Lists of sends, brick by brick.
use Rattle.std.proofs.Common.{◌≡◌, ℕ, zero, suc, ◌+◌, ◌<◌, refl, arith, List, [], ◌∷◌, ◌++◌, length, Option, Some, None, Bool, true, false, cond}
use Rattle.std.specs.Prelude.{map}
use Rattle.ec_conduct.specs.Account.{Account, Lock, account_from, after, at, sent}
use Rattle.ec_conduct.specs.Conduct.{is_release}
use Rattle.ec_conduct.specs.Given.{bricks_of}
use Rattle.ec_conduct.specs.Own.{Own}
use Rattle.ec_conduct.specs.Table.{Send, entries_of, sent_all, to_bricks}
use Rattle.ec_wire.specs.declared.answer.Answer.{Answer}
use Rattle.ec_wire.specs.declared.request.Request.{Request}
use Rattle.ec_txn.specs.Rounds.{Asks, give_back, given_back, one, refused, round, unlock}
use Rattle.ec_law_turns.specs.Orderly.{InOrder, OrderedFrom}
use Rattle.ec_law_calls.proofs.Clean.{Each}

-- each may be sent where it is sent, by the rules of order
abbrev pub AllInOrder : Account → ℕ → List Send → Type 0
AllInOrder c i [] = Unit {0}
AllInOrder c i (s ∷ ss) = InOrder c s.0 s.1 × AllInOrder (sent c s.0 i s.1) (i + 1) ss

pub order_append : (c : Account) (i : ℕ) (xs ys : List Send) → AllInOrder c i xs → AllInOrder (sent_all c i xs) (i + length xs) ys → AllInOrder c i (xs ++ ys)
order_append c i [] ys m n = let e : i + length {A = Send} [] ≡ i = omega arith in rw e at n
order_append c i (x ∷ xs) ys m n =
    let e : i + length (x ∷ xs) ≡ (i + 1) + length xs = omega arith in
    (m.0, order_append (sent c x.0 i x.1) (i + 1) xs ys m.1 (rw e at n))

pub order_entries : (c : Account) (i : ℕ) (ss : List Send) (answer : Option Answer) → AllInOrder c i ss → OrderedFrom c (entries_of i ss answer)
order_entries c i [] None m = tt
order_entries c i [] (Some answer) m = (tt, tt)
order_entries c i (s ∷ ss) answer m = (m.0, order_entries (sent c s.0 i s.1) (i + 1) ss answer m.1)

pub ordered_append : (c : Account) (xs ys : List Own) → OrderedFrom c xs → OrderedFrom (account_from c xs) ys → OrderedFrom c (xs ++ ys)
ordered_append c [] ys m n = n
ordered_append c (x ∷ xs) ys m n = (m.0, ordered_append (after c x) xs ys m.1 n)

-- ## What holds of each send

pub each_append : (P : ℕ → Request → Type 0) (xs ys : List Send) → Each P xs → Each P ys → Each P (xs ++ ys)
each_append P [] ys h k = k
each_append P (x ∷ xs) ys h k = (h.0, each_append P xs ys h.1 k)

pub each_weaker : (P Q : ℕ → Request → Type 0) → ((x : ℕ) (r : Request) → P x r → Q x r) → (ss : List Send) → Each P ss → Each Q ss
each_weaker P Q f [] h = tt
each_weaker P Q f (s ∷ ss) h = (f s.0 s.1 h.0, each_weaker P Q f ss h.1)

abbrev EachAt : (ℕ → Request → Type 0) → ℕ → List Request → Type 0
EachAt P x [] = Unit {0}
EachAt P x (r ∷ rs) = P x r × EachAt P x rs

at_brick : (P : ℕ → Request → Type 0) (x : ℕ) (rs : List Request) → EachAt P x rs → Each P (map (λ (r : Request). (x, r)) rs)
at_brick P x [] h = tt
at_brick P x (r ∷ rs) h = (h.0, at_brick P x rs h.1)

each_bricks : (P : ℕ → Request → Type 0) (n : ℕ) (f : ℕ → List Request) → ((x : ℕ) → x < n → EachAt P x (f x)) → Each P (to_bricks n f)
each_bricks P zero f h = tt
each_bricks P (suc n) f h = each_append P (to_bricks n f) (map (λ (r : Request). (n, r)) (f n)) (each_bricks P n f (λ x lt. h x (omega (arith, lt)))) (at_brick P n (f n) (h n (omega arith)))

one_at : (P : ℕ → Request → Type 0) (x : ℕ) (o : Option Request) → ((r : Request) → o ≡ Some r → P x r) → EachAt P x (one o)
one_at P x None h = tt
one_at P x (Some r) h = (h r refl, tt)

pub each_round : (P : ℕ → Request → Type 0) (n : ℕ) (f : Asks) → ((x : ℕ) (r : Request) → x < n → f x ≡ Some r → P x r) → Each P (round n f)
each_round P n f h = each_bricks P n (λ x. one (f x)) (λ x lt. one_at P x (f x) (λ r e. h x r lt e))

-- ## Releases

abbrev pub IsRelease : ℕ → Request → Type 0
IsRelease x r = is_release r ≡ true

refused_at : (x g : ℕ) (o : Option Lock) → EachAt IsRelease x (refused g o)
refused_at x g None = tt
refused_at x g (Some lock) = go lock.granted
  where
    go : (t : Bool) → EachAt IsRelease x (cond t [] (Rattle.ec_wire.specs.declared.request.Request.TheVariants.Release (record { 0 = g }) lock.number ∷ []))
    go true = tt
    go false = (refl, tt)

given_back_at : (x g : ℕ) (o : Option Lock) → EachAt IsRelease x (given_back g o)
given_back_at x g None = tt
given_back_at x g (Some lock) = go lock.granted
  where
    go : (t : Bool) → EachAt IsRelease x (cond t (Rattle.ec_wire.specs.declared.request.Request.TheVariants.Release (record { 0 = g }) lock.number ∷ []) [])
    go true = (refl, tt)
    go false = tt

pub unlock_releases : (c : Account) (g : ℕ) → Each IsRelease (unlock c g)
unlock_releases c g = each_bricks IsRelease (bricks_of c.given) (λ x. refused g (at c g x).inode) (λ x lt. refused_at x g (at c g x).inode)

pub give_back_releases : (c : Account) (g : ℕ) → Each IsRelease (give_back c g)
give_back_releases c g = each_bricks IsRelease (bricks_of c.given) (λ x. given_back g (at c g x).inode) (λ x lt. given_back_at x g (at c g x).inode)

release_in_order : (c : Account) (x : ℕ) (r : Request) → is_release r ≡ true → InOrder c x r
release_in_order c x (Rattle.ec_wire.specs.declared.request.Request.TheVariants.Release g grant) e = tt
release_in_order c x r e = absurd (cc)

pub releases_in_order : (c : Account) (i : ℕ) (ss : List Send) → Each IsRelease ss → AllInOrder c i ss
releases_in_order c i [] h = tt
releases_in_order c i (s ∷ ss) h = (release_in_order c s.0 s.1 h.0, releases_in_order (sent c s.0 i s.1) (i + 1) ss h.1)

-- ## A round

-- A round is in order where each request is as the account stands once the bricks below were asked.
pub round_in_order : (c : Account) (i n : ℕ) (f : Asks) → ((x : ℕ) (r : Request) → x < n → f x ≡ Some r → InOrder (sent_all c i (round x f)) x r) → AllInOrder c i (round n f)
round_in_order c i zero f h = tt
round_in_order c i (suc n) f h =
    order_append c i (round n f) (map (λ (r : Request). (n, r)) (one (f n))) (round_in_order c i n f (λ x r lt e. h x r (omega (arith, lt)) e)) (last (f n) (λ r e. h n r (omega arith) e))
  where
    last : (o : Option Request) → ((r : Request) → o ≡ Some r → InOrder (sent_all c i (round n f)) n r) → AllInOrder (sent_all c i (round n f)) (i + length (round n f)) (map (λ (r : Request). (n, r)) (one o))
    last None k = tt
    last (Some r) k = (k r refl, tt)
