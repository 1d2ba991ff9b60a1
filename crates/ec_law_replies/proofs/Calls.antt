-- Call by call: what was replied, and that nothing was changed.
use Rattle.std.proofs.Common.{◌≡◌, ◌⊎◌, inl, inr, ℕ, true, false, refl, sym, ◌∙◌, ap, subst, arith, List, Some}
use Rattle.ec_attr.specs.declared.kind.Kind.{Kind}
use Rattle.ec_attr.specs.declared.kind.Kind.TheVariants.{File, Dir}
use Rattle.ec_calls.specs.contracts.any.AnyCallConduct.TheImpl.{ghosts as impl}
use Rattle.ec_calls.specs.declared.any.AnyCall.{AnyCall}
use Rattle.ec_calls.specs.declared.any.AnyCall.TheVariants.{GetAttr, Lookup, Make, Read, Readdir, SetAttr, Stat, Truncate, Unlink, Write}
use Rattle.ec_conduct.specs.Account.{at}
use Rattle.ec_conduct.specs.Given.{Given}
use Rattle.ec_conduct.specs.Opened.{account}
use Rattle.ec_conduct.specs.Own.{Own}
use Rattle.ec_entry.specs.GetAttr.{getattr_table}
use Rattle.ec_entry.specs.Lookup.{lookup_table}
use Rattle.ec_entry.specs.Make.{make_op, make_table}
use Rattle.ec_entry.specs.Paging.{Entries}
use Rattle.ec_entry.specs.Readdir.{DuringReaddir, readdir_table}
use Rattle.ec_entry.specs.ReaddirSound.{readdir_sound}
use Rattle.ec_entry.specs.SetAttr.{setattr_table}
use Rattle.ec_entry.specs.Unlink.{unlink_table}
use Rattle.ec_read.specs.Read.{DuringRead, read_table}
use Rattle.ec_read.specs.ReadSound.{read_sound}
use Rattle.ec_read.specs.Stat.{stat_table}
use Rattle.ec_txn.specs.Rounds.{subject}
use Rattle.ec_txn.specs.declared.ctx.Ctx.{Ctx}
use Rattle.ec_wire.specs.declared.answer.Answer.{Answer}
use Rattle.ec_wire.specs.declared.answer.Answer.TheVariants.{Bytes, Names}
use Rattle.ec_wire.specs.declared.op.Op.{Op}
use Rattle.ec_write.specs.Truncate.{truncate_table}
use Rattle.ec_write.specs.Write.{write_table}
use Rattle.ec_law_causes.specs.Causes.{HasCause}
use Rattle.ec_law_causes.specs.Counted.{windows_of}
use Rattle.ec_law_causes.proofs.Along.{by_table}
use Rattle.ec_law_causes.proofs.Read.{HereRead, read_kept}
use Rattle.ec_law_grants.specs.Alters.{has_altered}
use Rattle.ec_law_replies.specs.Laws.{comes_before_changes, only_reads}
use Rattle.ec_law_replies.specs.Replies.{GivesBytes, GivesNames}
use Rattle.ec_law_replies.proofs.Bytes.{BytesCome, read_comes}
use Rattle.ec_law_replies.proofs.Changing.{make_late, make_quiet, setattr_late, setattr_quiet, truncate_late, truncate_quiet, unlink_late, unlink_quiet, write_late, write_quiet}
use Rattle.ec_law_replies.proofs.Contents.{content, content_of, fits}
use Rattle.ec_law_replies.proofs.Names.{HereListing, NamesCome, listing_kept, readdir_comes}
use Rattle.ec_law_replies.proofs.OnlyReads.{any, getattr_quiet, lookup_quiet, never, read_quiet, readdir_quiet, stat_quiet}
use Rattle.ec_law_replies.proofs.Quiet.{always_quiet, early_quiet}
use Rattle.ec_law_turns.proofs.Allowed.{account_given}

-- ## What was replied

-- a call of no such content has no such answer
other_content : {Z : Type 0} (given : Given) (es : List Own) (answer : Answer) (m : ℕ) (op : Op) → HasCause (account given es) answer → content answer ≡ m → given.op ≡ op → (0 ≡ m → ⊥) → (content_of op ≡ m → ⊥) → Z
other_content given es answer m op cause is e some not = absurd (by (fits (account given es).given.op (account given es).given (windows_of (account given es)) answer cause))
  where
    same : content_of (account given es).given.op ≡ content_of op
    same = ap (λ (v : Given). content_of v.op) (account_given given es) ∙ ap content_of e

    by : (content answer ≡ 0) ⊎ (content answer ≡ content_of (account given es).given.op) → ⊥
    by (inl v) = some (sym v ∙ is)
    by (inr v) = not (sym same ∙ (sym v ∙ is))

zero_one : (a b : ℕ) → a ≡ 0 → b ≡ 1 → a ≡ b → ⊥
zero_one a b e f v = absurd (omega (arith, e, f, v))

zero_two : (a b : ℕ) → a ≡ 0 → b ≡ 2 → a ≡ b → ⊥
zero_two a b e f v = absurd (omega (arith, e, f, v))

one_two : (a b : ℕ) → a ≡ 1 → b ≡ 2 → a ≡ b → ⊥
one_two a b e f v = absurd (omega (arith, e, f, v))

made_none : (kind : Kind) (g : ℕ) (name : List ℕ) → content_of (make_op kind g name) ≡ 0
made_none File g name = refl
made_none Dir g name = refl

module _ (cause : (x : Ctx) (given : Given) (call : AnyCall) (es : List Own) (answer : Answer) → impl.stands x given call es → (account given es).answer ≡ Some answer → HasCause (account given es) answer) where
  not_bytes : {Z : Type 0} (x : Ctx) (given : Given) (call : AnyCall) (es : List Own) (bytes : List ℕ) (op : Op) → impl.stands x given call es → (account given es).answer ≡ Some (Bytes bytes) → given.op ≡ op → content_of op ≡ 0 → Z
  not_bytes x given call es bytes op s told e none = other_content given es (Bytes bytes) 1 op (cause x given call es (Bytes bytes) s told) refl e (zero_one 0 1 refl refl) (zero_one (content_of op) 1 none refl)

  not_names : {Z : Type 0} (x : Ctx) (given : Given) (call : AnyCall) (es : List Own) (list : Entries) (op : Op) → impl.stands x given call es → (account given es).answer ≡ Some (Names list) → given.op ≡ op → content_of op ≡ 0 → Z
  not_names x given call es list op s told e none = other_content given es (Names list) 2 op (cause x given call es (Names list) s told) refl e (zero_two 0 2 refl refl) (zero_two (content_of op) 2 none refl)

  pub bytes_of : (x : Ctx) (given : Given) (call : AnyCall) (es : List Own) (bytes : List ℕ) → impl.stands x given call es → (account given es).answer ≡ Some (Bytes bytes) → GivesBytes given (windows_of (account given es)) bytes
  bytes_of x given (Stat own) es bytes s told = not_bytes x given (Stat own) es bytes _ s told s.fit refl
  bytes_of x given (GetAttr own) es bytes s told = not_bytes x given (GetAttr own) es bytes _ s told s.fit refl
  bytes_of x given (SetAttr own) es bytes s told = not_bytes x given (SetAttr own) es bytes _ s told s.fit refl
  bytes_of x given (Lookup own) es bytes s told = not_bytes x given (Lookup own) es bytes _ s told s.fit refl
  bytes_of x given (Read own) es bytes s told =
      subst (λ (v : Given). GivesBytes given (λ y. (at (account given es) (subject v.op) y).window) bytes) (sym (account_given given es))
      (by_table x (read_table x) (DuringRead x) (HereRead x) BytesCome (read_sound x) (read_kept x) (read_comes x) given es own.stage s.of s.by_table (Bytes bytes) told bytes refl)
  bytes_of x given (Write own) es bytes s told = not_bytes x given (Write own) es bytes _ s told s.fit refl
  bytes_of x given (Make own) es bytes s told = not_bytes x given (Make own) es bytes _ s told s.fit (made_none own.plan.kind own.plan.parent.0 own.plan.name)
  bytes_of x given (Readdir own) es bytes s told = other_content given es (Bytes bytes) 1 _ (cause x given (Readdir own) es (Bytes bytes) s told) refl s.fit (zero_one 0 1 refl refl) (λ v. one_two 1 2 refl refl (sym v))
  bytes_of x given (Unlink own) es bytes s told = not_bytes x given (Unlink own) es bytes _ s told s.fit refl
  bytes_of x given (Truncate own) es bytes s told = not_bytes x given (Truncate own) es bytes _ s told s.fit refl

  pub names_of : (x : Ctx) (given : Given) (call : AnyCall) (es : List Own) (list : Entries) → impl.stands x given call es → (account given es).answer ≡ Some (Names list) → GivesNames given (windows_of (account given es)) list
  names_of x given (Stat own) es list s told = not_names x given (Stat own) es list _ s told s.fit refl
  names_of x given (GetAttr own) es list s told = not_names x given (GetAttr own) es list _ s told s.fit refl
  names_of x given (SetAttr own) es list s told = not_names x given (SetAttr own) es list _ s told s.fit refl
  names_of x given (Lookup own) es list s told = not_names x given (Lookup own) es list _ s told s.fit refl
  names_of x given (Read own) es list s told = other_content given es (Names list) 2 _ (cause x given (Read own) es (Names list) s told) refl s.fit (zero_two 0 2 refl refl) (one_two 1 2 refl refl)
  names_of x given (Write own) es list s told = not_names x given (Write own) es list _ s told s.fit refl
  names_of x given (Make own) es list s told = not_names x given (Make own) es list _ s told s.fit (made_none own.plan.kind own.plan.parent.0 own.plan.name)
  names_of x given (Readdir own) es list s told =
      subst (λ (v : Given). GivesNames given (λ y. (at (account given es) (subject v.op) y).window) list) (sym (account_given given es))
      (by_table x readdir_table DuringReaddir HereListing NamesCome (readdir_sound x) (listing_kept x) (readdir_comes x) given es own.stage s.of s.by_table (Names list) told list refl)
  names_of x given (Unlink own) es list s told = not_names x given (Unlink own) es list _ s told s.fit refl
  names_of x given (Truncate own) es list s told = not_names x given (Truncate own) es list _ s told s.fit refl

-- ## What changes nothing

not_read : {Z : Type 0} (given : Given) (op : Op) → given.op ≡ op → only_reads op ≡ false → only_reads given.op ≡ true → Z
not_read given op e none is = absurd (let v : true ≡ false = sym is ∙ (ap only_reads e ∙ none) in cc)

made_reads : (kind : Kind) (g : ℕ) (name : List ℕ) → only_reads (make_op kind g name) ≡ false
made_reads File g name = refl
made_reads Dir g name = refl

pub reads_quiet : (x : Ctx) (given : Given) (call : AnyCall) (es : List Own) → impl.stands x given call es → only_reads given.op ≡ true → has_altered es ≡ false
reads_quiet x given (Stat own) es s is = always_quiet given stat_table never any (stat_quiet given) es own.stage s.by_table (λ p. refl) (λ a. refl)
reads_quiet x given (GetAttr own) es s is = always_quiet given getattr_table never any (getattr_quiet given) es own.stage s.by_table (λ p. refl) (λ a. refl)
reads_quiet x given (SetAttr own) es s is = not_read given _ s.fit refl is
reads_quiet x given (Lookup own) es s is = always_quiet given lookup_table never any (lookup_quiet given) es own.stage s.by_table (λ p. refl) (λ a. refl)
reads_quiet x given (Read own) es s is = always_quiet given (read_table x) never any (read_quiet x given) es own.stage s.by_table (λ p. refl) (λ a. refl)
reads_quiet x given (Write own) es s is = not_read given _ s.fit refl is
reads_quiet x given (Make own) es s is = not_read given _ s.fit (made_reads own.plan.kind own.plan.parent.0 own.plan.name) is
reads_quiet x given (Readdir own) es s is = always_quiet given readdir_table never any (readdir_quiet given) es own.stage s.by_table (λ p. refl) (λ a. refl)
reads_quiet x given (Unlink own) es s is = not_read given _ s.fit refl is
reads_quiet x given (Truncate own) es s is = not_read given _ s.fit refl is

pub unchanged : (x : Ctx) (given : Given) (call : AnyCall) (es : List Own) (answer : Answer) → impl.stands x given call es → (account given es).answer ≡ Some answer → comes_before_changes answer ≡ true → has_altered es ≡ false
unchanged x given (Stat own) es answer s told is = always_quiet given stat_table never any (stat_quiet given) es own.stage s.by_table (λ p. refl) (λ a. refl)
unchanged x given (GetAttr own) es answer s told is = always_quiet given getattr_table never any (getattr_quiet given) es own.stage s.by_table (λ p. refl) (λ a. refl)
unchanged x given (SetAttr own) es answer s told is = early_quiet given setattr_table setattr_late comes_before_changes (setattr_quiet given _ _ s.fit) es own.stage answer s.by_table told is
unchanged x given (Lookup own) es answer s told is = always_quiet given lookup_table never any (lookup_quiet given) es own.stage s.by_table (λ p. refl) (λ a. refl)
unchanged x given (Read own) es answer s told is = always_quiet given (read_table x) never any (read_quiet x given) es own.stage s.by_table (λ p. refl) (λ a. refl)
unchanged x given (Write own) es answer s told is = early_quiet given (write_table x) write_late comes_before_changes (write_quiet x given) es own.stage answer s.by_table told is
unchanged x given (Make own) es answer s told is = early_quiet given make_table make_late comes_before_changes (make_quiet given) es own.stage answer s.by_table told is
unchanged x given (Readdir own) es answer s told is = always_quiet given readdir_table never any (readdir_quiet given) es own.stage s.by_table (λ p. refl) (λ a. refl)
unchanged x given (Unlink own) es answer s told is = early_quiet given unlink_table unlink_late comes_before_changes (unlink_quiet given) es own.stage answer s.by_table told is
unchanged x given (Truncate own) es answer s told is = early_quiet given (truncate_table x) truncate_late comes_before_changes (truncate_quiet x given) es own.stage answer s.by_table told is
