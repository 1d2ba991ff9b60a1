-- What the phases count that change a directory: a child's record and a name.
use Rattle.std.proofs.Common.{◌≡◌, ◌≤◌, false, true, refl, sym, ◌∙◌, subst, arith, ℕ, suc, Some}
use Rattle.ec_answers.specs.declared.grouped.Group.{Group}
use Rattle.ec_conduct.specs.Account.{Account}
use Rattle.ec_conduct.specs.Done.{is_entry, is_make}
use Rattle.ec_conduct.specs.Given.{Given, quorum_of}
use Rattle.ec_txn.specs.Ballot.{IfQuorum, is_within, to_members}
use Rattle.ec_txn.specs.Rounds.{Asks, IsIdle, IsRound, subject}
use Rattle.ec_txn.specs.declared.stage.Next.{Next}
use Rattle.ec_wire.specs.declared.phase.Phase.TheVariants.{Entry as EntryPhase, Make as MakePhase}
use Rattle.ec_wire.specs.declared.request.Request.{Request}
use Rattle.ec_wire.specs.declared.request.Request.TheVariants.{Make, NameSet}
use Rattle.ec_law_causes.specs.Counted.{number}
use Rattle.ec_law_causes.proofs.Members.{HasMembers, PhaseOver, between_members, by_members, done_stays, ends, late_members, members_over}
use Rattle.ec_law_causes.proofs.Ranks.{OnlyLate, late_query, rank}
use Rattle.ec_law_causes.proofs.Along.{windows}

only_make : OnlyLate 5 is_make
only_make (Make g grant child) e = omega arith
only_make r e = absurd (cc)

only_entry : OnlyLate 8 is_entry
only_entry (NameSet g grant name child) e = omega arith
only_entry r e = absurd (cc)

late_make : (r : Request) → 6 ≤ rank r → is_make r ≡ false
late_make (Make g grant child) le = absurd (omega arith)
late_make r le = refl

late_entry : (r : Request) → 9 ≤ rank r → is_entry r ≡ false
late_entry (NameSet g grant name child) le = absurd (omega arith)
late_entry r le = refl

-- what the members are asked at once, requests of one rank
module _ (given : Given) (group : Group) (change : ℕ → ℕ → Request) (c : Account) (f : Asks) (d : Account) (cg : c.given ≡ given) (r : IsRound (subject given.op) c f d) (idle : IsIdle d) (asks : (x : ℕ) → f x ≡ to_members group change c x) where
  pub change_members : (m : ℕ) → 2 ≤ m → ((i v : ℕ) → rank (change i v) ≡ m) → HasMembers given group m c → HasMembers given group (suc m) d
  change_members m low is h = members_over given group m (suc m) c f d h r idle (omega arith) (between_members group change c f m (suc m) asks is low (omega arith))

  pub change_late : (m : ℕ) → ((i v : ℕ) → rank (change i v) ≡ m) → (x : ℕ) (q : Request) → f x ≡ Some q → m ≤ rank q
  change_late m is = late_members group change c f m asks is

  pub make_ends : {P : Type 0} → (goes_on : Next P → Type 0) (next : Next P) → is_within group.head ≡ true → ((i v : ℕ) → is_make (change i v) ≡ true) → ((i v : ℕ) → rank (change i v) ≡ 5) → HasMembers given group 5 c → IfQuorum d group MakePhase goes_on next
      → PhaseOver given (windows given d) MakePhase goes_on next
  make_ends goes_on next within fits is h i =
      ends given group 5 is_make c f d h r idle (by_members given group is_make (λ y. change) c f cg asks (λ y. fits) (λ y i v. let k = is i v in omega (arith, k)) within) only_make MakePhase goes_on next
      (change_members 5 (omega arith) is h).group_is (r.given ∙ cg) (λ x. refl) (λ x. refl) refl i

  pub entry_ends : {P : Type 0} → (goes_on : Next P → Type 0) (next : Next P) → is_within group.head ≡ true → ((i v : ℕ) → is_entry (change i v) ≡ true) → ((i v : ℕ) → rank (change i v) ≡ 8) → HasMembers given group 8 c → IfQuorum d group EntryPhase goes_on next
      → PhaseOver given (windows given d) EntryPhase goes_on next
  entry_ends goes_on next within fits is h i =
      ends given group 8 is_entry c f d h r idle (by_members given group is_entry (λ y. change) c f cg asks (λ y. fits) (λ y i v. let k = is i v in omega (arith, k)) within) only_entry EntryPhase goes_on next
      (change_members 8 (omega arith) is h).group_is (r.given ∙ cg) (λ x. refl) (λ x. refl) refl i

-- what was done stays done
pub makes_stay : (given : Given) (c : Account) (f : Asks) (d : Account) → IsRound (subject given.op) c f d → IsIdle d → ((x : ℕ) (q : Request) → f x ≡ Some q → 6 ≤ rank q) → quorum_of given ≤ number given (windows given c) MakePhase → quorum_of given ≤ number given (windows given d) MakePhase
makes_stay given c f d r idle late le = subst (λ (m : ℕ). quorum_of given ≤ m) (sym (done_stays given is_make c f d r idle (λ x q e. (let l = late x q e in late_query q (omega (arith, l)), late_make q (late x q e))))) le

pub entries_stay : (given : Given) (c : Account) (f : Asks) (d : Account) → IsRound (subject given.op) c f d → IsIdle d → ((x : ℕ) (q : Request) → f x ≡ Some q → 9 ≤ rank q) → quorum_of given ≤ number given (windows given c) EntryPhase → quorum_of given ≤ number given (windows given d) EntryPhase
entries_stay given c f d r idle late le = subst (λ (m : ℕ). quorum_of given ≤ m) (sym (done_stays given is_entry c f d r idle (λ x q e. (let l = late x q e in late_query q (omega (arith, l)), late_entry q (late x q e))))) le
