-- Only a read is answered bytes, and only a readdir names, by the causes of answers.
use Rattle.std.proofs.Common.{◌≡◌, ◌⊎◌, inl, inr, ℕ, refl, ◌∙◌, ap}
use Rattle.ec_conduct.specs.Given.{Given}
use Rattle.ec_wire.specs.declared.answer.Answer.{Answer}
use Rattle.ec_wire.specs.declared.answer.Answer.TheVariants.{Bytes, Names}
use Rattle.ec_wire.specs.declared.op.Op.{Op}
use Rattle.ec_wire.specs.declared.op.Op.TheVariants.{Create, GetAttr, Lookup, Mkdir, Read, Readdir, SetAttr, Stat, Truncate, Unlink, Write}
use Rattle.ec_wire.specs.declared.phase.Phase.TheVariants.{Lock as LockPhase, Query as QueryPhase}
use Rattle.ec_law_causes.specs.Causes.{HasNoRecord, IsBytes, IsNames, causes, getattr_causes, lookup_causes, make_causes, read_causes, readdir_causes, setattr_causes, stat_causes, truncate_causes, unlink_causes, write_causes}
use Rattle.ec_law_causes.specs.Counted.{FallsShort, Windows}

-- what an answer gives, and what a call may: 1 is bytes, 2 is names
abbrev pub content : Answer → ℕ
content (Bytes bytes) = 1
content (Names list) = 2
content answer = 0

abbrev pub content_of : Op → ℕ
content_of (Read g off len via) = 1
content_of (Readdir g) = 2
content_of op = 0

module _ (k : ℕ) (given : Given) (w : Windows) (answer : Answer) where
  abbrev Fits : Type 0
  Fits = (content answer ≡ 0) ⊎ (content answer ≡ k)

  plain : (other : Answer) → content other ≡ 0 → answer ≡ other → Fits
  plain other none e = inl (ap content e ∙ none)

  either : {A B C : Type 0} → A ⊎ (C × B) → (A → Fits) → (B → Fits) → Fits
  either (inl a) f g = f a
  either (inr b) f g = g b.1

  -- the causes of the opening
  opening : {L C D E : Type 0} → FallsShort given w LockPhase answer ⊎ (C × (FallsShort given w QueryPhase answer ⊎ (D × (HasNoRecord given w answer ⊎ (E × L))))) → (L → Fits) → Fits
  opening h f = either h (λ c. plain _ refl c.answer_is) (λ a. either a (λ c. plain _ refl c.answer_is) (λ b. either b (λ c. plain _ refl c.1) f))

  stat : stat_causes given w answer → Fits
  stat h =
      opening h (λ l0. either l0 (λ c. plain _ refl c.3) (λ c. plain _ refl c.2))

  getattr : getattr_causes given w answer → Fits
  getattr h =
      opening h (λ c. plain _ refl c.2)

  setattr : setattr_causes given w answer → Fits
  setattr h =
      opening h (λ l0. either l0 (λ c. plain _ refl c.3) (λ l1. either l1 (λ c. plain _ refl c.answer_is) (λ l2.
      either l2 (λ c. plain _ refl c.answer_is) (λ c. plain _ refl c.1))))

  read : (op : Op) → read_causes op given w answer → (IsBytes answer → Fits) → Fits
  read op h bytes =
      either h (λ c. plain _ refl c.1) (λ b1. opening b1 (λ l0. either l0 (λ c. plain _ refl c.3) (λ l1.
      either l1 (λ c. plain _ refl c.3.answer_is) (λ c. bytes c))))

  write : (op : Op) → write_causes op given w answer → Fits
  write op h =
      either h (λ c. plain _ refl c.1) (λ b1. either b1 (λ c. plain _ refl c.1) (λ b2. opening b2 (λ l0. either l0 (λ c. plain _ refl c.3) (λ l1.
      either l1 (λ c. plain _ refl c.1.2) (λ l2. either l2 (λ c. plain _ refl c.3) (λ l3. either l3 (λ c. plain _ refl c.answer_is) (λ l4.
      either l4 (λ c. plain _ refl c.3.answer_is) (λ l5. either l5 (λ c. plain _ refl c.3.answer_is) (λ l6. either l6 (λ c. plain _ refl c.answer_is) (λ l7.
      either l7 (λ c. plain _ refl c.answer_is) (λ c. plain _ refl c.1)))))))))))

  truncate : (op : Op) → truncate_causes op given w answer → Fits
  truncate op h =
      either h (λ c. plain _ refl c.1) (λ b1. opening b1 (λ l0. either l0 (λ c. plain _ refl c.3) (λ l1. either l1 (λ c. plain _ refl c.3) (λ l2.
      either l2 (λ c. plain _ refl c.answer_is) (λ l3. either l3 (λ c. plain _ refl c.3.answer_is) (λ l4. either l4 (λ c. plain _ refl c.3.answer_is) (λ l5.
      either l5 (λ c. plain _ refl c.answer_is) (λ l6. either l6 (λ c. plain _ refl c.answer_is) (λ c. plain _ refl c.1)))))))))

  lookup : lookup_causes given w answer → Fits
  lookup h =
      opening h (λ l0. either l0 (λ c. plain _ refl c.3) (λ l1. either l1 (λ c. plain _ refl c.answer_is) (λ l2. either l2 (λ c. plain _ refl c.5) (λ l3.
      either l3 (λ c. plain _ refl c.1) (λ c. plain _ refl c.2)))))

  make : make_causes given w answer → Fits
  make h =
      either h (λ c. plain _ refl c.1) (λ b1. opening b1 (λ l0. either l0 (λ c. plain _ refl c.3) (λ l1. either l1 (λ c. plain _ refl c.answer_is) (λ l2.
      either l2 (λ c. plain _ refl c.5) (λ l3. either l3 (λ c. plain _ refl c.2) (λ l4. either l4 (λ c. plain _ refl c.3) (λ l5.
      either l5 (λ c. plain _ refl c.answer_is) (λ l6. either l6 (λ c. plain _ refl c.answer_is) (λ l7. either l7 (λ c. plain _ refl c.answer_is) (λ l8.
      either l8 (λ c. plain _ refl c.answer_is) (λ c. plain _ refl c)))))))))))

  unlink : unlink_causes given w answer → Fits
  unlink h =
      opening h (λ l0. either l0 (λ c. plain _ refl c.3) (λ l1. either l1 (λ c. plain _ refl c.answer_is) (λ l2. either l2 (λ c. plain _ refl c.3) (λ l3.
      either l3 (λ c. plain _ refl c.1) (λ l4. either l4 (λ c. plain _ refl c.3) (λ l5. either l5 (λ c. plain _ refl c.answer_is) (λ l6.
      either l6 (λ c. plain _ refl c.answer_is) (λ l7. either l7 (λ c. plain _ refl c.answer_is) (λ c. plain _ refl c)))))))))

  readdir : readdir_causes given w answer → (IsNames answer → Fits) → Fits
  readdir h names =
      opening h (λ l0. either l0 (λ c. plain _ refl c.3) (λ l1. either l1 (λ c. plain _ refl c.short.answer_is) (λ c. names c)))

-- an answer that has a cause gives nothing but what the call may give
pub fits : (op : Op) (given : Given) (w : Windows) (answer : Answer) → causes op given w answer → (content answer ≡ 0) ⊎ (content answer ≡ content_of op)
fits (Stat g) given w answer h = stat 0 given w answer h
fits (GetAttr g) given w answer h = getattr 0 given w answer h
fits (SetAttr g attr) given w answer h = setattr 0 given w answer h
fits (Read g off len via) given w answer h = read 1 given w answer (Read g off len via) h (λ c. inr (ap content c.1))
fits (Write g off bytes) given w answer h = write 0 given w answer (Write g off bytes) h
fits (Truncate g to) given w answer h = truncate 0 given w answer (Truncate g to) h
fits (Lookup g name) given w answer h = lookup 0 given w answer h
fits (Create g name) given w answer h = make 0 given w answer h
fits (Mkdir g name) given w answer h = make 0 given w answer h
fits (Unlink g name) given w answer h = unlink 0 given w answer h
fits (Readdir g) given w answer h = readdir 2 given w answer h (λ c. inr (ap content c.1))
fits op given w answer h = absurd h
