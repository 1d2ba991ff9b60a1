-- What holds of each request that own entries send, list by list.
use Rattle.std.proofs.Common.{◌≡◌, ℕ, ◌+◌, Bool, true, false, ◌||◌, refl, sym, ◌∙◌, List, [], ◌∷◌, ◌++◌, Option, Some, None}
use Rattle.ec_conduct.specs.Account.{Account, account_from, after, sent}
use Rattle.ec_conduct.specs.Done.{is_post}
use Rattle.ec_conduct.specs.Given.{Given}
use Rattle.ec_conduct.specs.Own.{Own, Sends, Hears, GivesUp, Answers}
use Rattle.ec_conduct.specs.Table.{IsFromOutside, Send, entries_of, sent_all}
use Rattle.ec_wire.specs.declared.answer.Answer.{Answer}
use Rattle.ec_wire.specs.declared.request.Request.{Request}
use Rattle.ec_wire.specs.declared.request.Request.TheVariants.{Ask, Release, Query, PreOp, WriteChunks, SetLength, PostOp}
use Rattle.ec_law_calls.proofs.Clean.{Each}
use Rattle.ec_law_files.specs.Stripes.{EachSent, IsOwn, Making, makes_stripes, puts_stripes}

-- a request of which something is said
abbrev pub is_told : Request → Bool
is_told r = puts_stripes r || is_post r

-- any other is free
pub untold : (w : Making) (c : Account) (b : ℕ) (r : Request) → is_told r ≡ false → IsOwn w c b r
untold w c b (WriteChunks g grant first chunks) e = absurd (cc)
untold w c b (SetLength g grant keep count) e = absurd (cc)
untold w c b (PostOp g grant old new size attr) e = absurd (cc)
untold w c b r e = tt

-- and so is each that puts no stripes, of a call that makes none
pub quiet_own : (w : Making) (c : Account) (b : ℕ) (r : Request) → makes_stripes c.given.op ≡ false → puts_stripes r ≡ false → IsOwn w c b r
quiet_own w c b (WriteChunks g grant first chunks) none e = absurd (cc)
quiet_own w c b (SetLength g grant keep count) none e = absurd (cc)
quiet_own w c b (PostOp g grant old new size attr) none e = λ makes. absurd (let z = sym makes ∙ none in cc)
quiet_own w c b r none e = tt

-- one of which something is said leaves what is over
pub told_on : (c : Account) (b i : ℕ) (r : Request) → is_told r ≡ true → ((sent c b i r).on ≡ c.on) × ((sent c b i r).given ≡ c.given)
told_on c b i (WriteChunks g grant first chunks) e = (refl, refl)
told_on c b i (SetLength g grant keep count) e = (refl, refl)
told_on c b i (PostOp g grant old new size attr) e = (refl, refl)
told_on c b i r e = absurd (cc)

pub sent_given : (c : Account) (b i : ℕ) (r : Request) → (sent c b i r).given ≡ c.given
sent_given c b i (Ask g domain kind) = refl
sent_given c b i (Release g grant) = refl
sent_given c b i (Query g grant) = refl
sent_given c b i (PreOp g grant version dirty) = refl
sent_given c b i r = refl

pub all_given : (c : Account) (i : ℕ) (ss : List Send) → (sent_all c i ss).given ≡ c.given
all_given c i [] = refl
all_given c i (s ∷ ss) = all_given (sent c s.0 i s.1) (i + 1) ss ∙ sent_given c s.0 i s.1

module _ (P : Account → ℕ → Request → Type 0) where
  pub sent_both : (c : Account) (xs ys : List Own) → EachSent P c xs → EachSent P (account_from c xs) ys → EachSent P c (xs ++ ys)
  sent_both c [] ys h k = k
  sent_both c (Sends b i r ∷ xs) ys h k = (h.0, sent_both (after c (Sends b i r)) xs ys h.1 k)
  sent_both c (Hears b i reply ∷ xs) ys h k = sent_both (after c (Hears b i reply)) xs ys h k
  sent_both c (GivesUp b i ∷ xs) ys h k = sent_both (after c (GivesUp b i)) xs ys h k
  sent_both c (Answers answer ∷ xs) ys h k = sent_both (after c (Answers answer)) xs ys h k

  pub sent_outside : (c : Account) (e : Own) (es : List Own) → IsFromOutside e → EachSent P (after c e) es → EachSent P c (e ∷ es)
  sent_outside c (Sends b i r) es out h = absurd out
  sent_outside c (Hears b i reply) es out h = h
  sent_outside c (GivesUp b i) es out h = h
  sent_outside c (Answers answer) es out h = absurd out

  -- the sends of a step, in two parts
  pub sent_parts : (c : Account) (i : ℕ) (xs ys : List Send) (answer : Option Answer) → EachSent P c (entries_of i xs None) → ((j : ℕ) → EachSent P (sent_all c i xs) (entries_of j ys answer)) → EachSent P c (entries_of i (xs ++ ys) answer)
  sent_parts c i [] ys answer h k = k i
  sent_parts c i (s ∷ xs) ys answer h k = (h.0, sent_parts (sent c s.0 i s.1) (i + 1) xs ys answer h.1 k)

  -- where each is so at whatever account of the call
  pub sent_any : (given : Given) (c : Account) (i : ℕ) (ss : List Send) (answer : Option Answer) → c.given ≡ given → Each (λ x r. (c : Account) → c.given ≡ given → P c x r) ss → EachSent P c (entries_of i ss answer)
  sent_any given c i [] None is h = tt
  sent_any given c i [] (Some answer) is h = tt
  sent_any given c i (s ∷ ss) answer is h = (h.0 c is, sent_any given (sent c s.0 i s.1) (i + 1) ss answer (sent_given c s.0 i s.1 ∙ is) h.1)

  -- it is so at each account that has the same of what is over
  abbrev pub IsSo : Account → ℕ → Request → Type 0
  IsSo d x r = (e : Account) → e.on ≡ d.on → e.given ≡ d.given → P e x r

  -- where something is said of each, and is so at the first account
  pub sent_stripes : (d c : Account) (i : ℕ) (ss : List Send) (answer : Option Answer) → c.on ≡ d.on → c.given ≡ d.given → Each (λ x r. (is_told r ≡ true) × IsSo d x r) ss → EachSent P c (entries_of i ss answer)
  sent_stripes d c i [] None on given h = tt
  sent_stripes d c i [] (Some answer) on given h = tt
  sent_stripes d c i (s ∷ ss) answer on given h =
      let same = told_on c s.0 i s.1 h.0.0 in
      (h.0.1 c on given, sent_stripes d (sent c s.0 i s.1) (i + 1) ss answer (same.0 ∙ on) (same.1 ∙ given) h.1)
