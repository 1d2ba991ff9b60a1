-- The account of a phase, and when a call may say that no quorum answered.
use Rattle.std.specs.Prelude.{◌≡◌, ◌⊎◌, ℕ, zero, ◌<◌, Bool, true, false, not, ◌==◌, ◌&&◌, max, min, Option, Some, None, List}
use Rattle.ec_attr.specs.Bricks.{count_below, is_in}
use Rattle.ec_attr.specs.GoodGroup.{most_alike as most_heads_alike}
use Rattle.ec_attr.specs.declared.kind.Child.{Child}
use Rattle.ec_wire.specs.declared.op.Op.{Op}
use Rattle.ec_wire.specs.declared.op.Op.TheVariants.{Write, Truncate, Read as ReadOp, Stat, Create, Mkdir, Unlink, Lookup, Readdir, Heal as HealOp, SetAttr, GetAttr, Rename, Rmdir, Scrub, Sweep}
use Rattle.ec_wire.specs.declared.phase.Phase.{Phase}
use Rattle.ec_wire.specs.declared.phase.Phase.TheVariants.{Heal, Lock, Query, Name, Names, Pre, Read, Make, Write as WritePhase, Trim, Entry, Post, Clear, Made, Unmake, Mark, Copy, Unmark, Lock2, Query2, Name2, Pre2, Entry2, Post2, Clear2, Scan, List as ListPhase, Dirs, Kinds, Walk, Asks, Probe, Shed}
use Rattle.ec_wire.specs.declared.reply.Reply.{Reply}
use Rattle.ec_wire.specs.declared.request.Request.{Request}
use Rattle.ec_wire.specs.declared.request.Request.TheVariants.{ReadChunks}
use Rattle.ec_conduct.specs.Account.{Account, Place, at}
use Rattle.ec_conduct.specs.Changes.{IsNamed}
use Rattle.ec_conduct.specs.Children.{is_absent}
use Rattle.ec_conduct.specs.Copies.{is_names_from}
use Rattle.ec_conduct.specs.Done.{failed_none, is_any, is_done, is_entry, is_heal_ask, is_lock, is_make, is_name, is_names, is_post, is_pre, is_query, is_read, is_trim, is_write, reply_to, tried}
use Rattle.ec_conduct.specs.Given.{bricks_of, quorum_of}
use Rattle.ec_conduct.specs.Standing.{Every, head_of, is_grouped, is_member}

-- what a phase asks for
abbrev pub is_of : Phase → Request → Bool
is_of Heal r = is_heal_ask r
is_of Lock r = is_lock r
is_of Lock2 r = is_lock r
is_of Query r = is_query r
is_of Query2 r = is_query r
is_of Name r = is_name r
is_of Name2 r = is_name r
is_of Names r = is_names r
is_of Pre r = is_pre r
is_of Pre2 r = is_pre r
is_of Read r = is_read r
is_of Scan r = is_read r
is_of Make r = is_make r
is_of WritePhase r = is_write r
is_of Trim r = is_trim r
is_of Entry r = is_entry r
is_of Entry2 r = is_entry r
is_of Post r = is_post r
is_of Post2 r = is_post r
is_of phase r = false

-- Which round of a phase: the one round, or that of the chunks from a stripe on or of the names past a name.
pub data Round : Type 0 where
  Once : Round
  ChunksFrom : (first : ℕ) → Round
  NamesPast : (after : Option (List ℕ)) → Round

abbrev pub is_read_from : ℕ → Request → Bool
is_read_from first (ReadChunks g grant at count) = at == first
is_read_from first r = false

abbrev pub asks : Phase → Round → Request → Bool
asks phase Once r = is_of phase r
asks phase (ChunksFrom first) r = is_of phase r && is_read_from first r
asks phase (NamesPast after) r = is_of phase r && is_names_from after r

-- the phases that go in rounds
abbrev pub has_round : Phase → Round → Bool
has_round Read (ChunksFrom first) = true
has_round Scan (ChunksFrom first) = true
has_round Names (NamesPast after) = true
has_round Read round = false
has_round Scan round = false
has_round Names round = false
has_round phase Once = true
has_round phase round = false

-- Which bricks a phase asked on a gfid, and what each replied last: None where it was given up.
pub record PhaseAccount : Type 0 where
  pub asked : ℕ → Bool
  pub reply : ℕ → Option Reply

abbrev pub phase_account : Account → ℕ → Phase → Round → PhaseAccount
phase_account c g phase round = record {
  asked = λ x. tried (asks phase round) (at c g x).window;
  reply = λ x. reply_to (asks phase round) (at c g x).window;
}

-- the largest set alike among replies to Queries: heads that agree, or bricks without a record
abbrev pub most_alike : ℕ → (ℕ → Option Reply) → ℕ
most_alike n replies = max (most_heads_alike (λ x. head_of (replies x))) (count_below n (λ x. is_absent (replies x)))

abbrev pub count_done : ℕ → (ℕ → Bool) → (ℕ → Option Reply) → ℕ
count_done n counts replies = count_below n (λ x. counts x && is_done (replies x))

-- the number that a phase counts: the largest set alike, all that did it, or the bricks of the group that did it
abbrev pub most : Account → ℕ → Phase → (ℕ → Option Reply) → ℕ
most c g Query replies = most_alike (bricks_of c.given) replies
most c g Query2 replies = most_alike (bricks_of c.given) replies
most c g Heal replies = count_done (bricks_of c.given) (λ x. true) replies
most c g Lock replies = count_done (bricks_of c.given) (λ x. true) replies
most c g Lock2 replies = count_done (bricks_of c.given) (λ x. true) replies
most c g phase replies = count_done (bricks_of c.given) (is_member c g) replies

-- phases that count no number
abbrev pub is_counting : Op → Phase → Bool
is_counting op Clear = false
is_counting op Clear2 = false
is_counting op Made = false
is_counting op Unmake = false
is_counting op Mark = false
is_counting op Copy = false
is_counting op Unmark = false
is_counting op ListPhase = false
is_counting op Dirs = false
is_counting op Kinds = false
is_counting op Walk = false
is_counting op Asks = false
is_counting op Probe = false
is_counting op Shed = false
is_counting (HealOp g) Trim = false
is_counting (HealOp g) Pre = false
is_counting (HealOp g) Post = false
is_counting (Sweep full) phase = false
is_counting op phase = true

abbrev pub is_via : Option ℕ → ℕ → Bool
is_via None x = true
is_via (Some bits) x = is_in bits x

abbrev pub via_of : Op → Option ℕ
via_of (ReadOp g off len via) = via
via_of op = None

-- the bricks that a phase is to ask, unless they failed before
abbrev pub belongs : Account → ℕ → Phase → ℕ → Bool
belongs c g Heal x = true
belongs c g Lock x = true
belongs c g Lock2 x = true
belongs c g Query x = true
belongs c g Query2 x = true
belongs c g Read x = is_grouped c g x && is_via (via_of c.given.op) x
belongs c g phase x = is_grouped c g x

-- a brick did not do some request of the window, or didn't grant the Heal lock
abbrev pub has_failed : Place → Bool
has_failed p = not (failed_none is_any p.window && failed_none is_heal_ask p.earlier)

-- the gfid that a phase of a rename is about
abbrev pub renamed_gfid : ℕ → ℕ → Phase → ℕ
renamed_gfid old new Lock = min old new
renamed_gfid old new Query = min old new
renamed_gfid old new Lock2 = max old new
renamed_gfid old new Query2 = max old new
renamed_gfid old new Name2 = new
renamed_gfid old new Pre2 = new
renamed_gfid old new Entry2 = new
renamed_gfid old new Post2 = new
renamed_gfid old new phase = old

abbrev pub IsChildOf : Account → ℕ → List ℕ → ℕ → Type 0
IsChildOf c parent name g = (child : Child) × IsNamed c parent name (Some child) × (child.gfid.0 ≡ g)

-- the gfid that a phase is about
abbrev pub IsAbout : Account → Op → Phase → ℕ → Type 0
IsAbout c (Write h off bytes) phase g = h.0 ≡ g
IsAbout c (Truncate h size) phase g = h.0 ≡ g
IsAbout c (ReadOp h off len via) phase g = h.0 ≡ g
IsAbout c (Stat h) phase g = h.0 ≡ g
IsAbout c (Create h name) phase g = h.0 ≡ g
IsAbout c (Mkdir h name) phase g = h.0 ≡ g
IsAbout c (Unlink h name) phase g = h.0 ≡ g
IsAbout c (Lookup h name) phase g = h.0 ≡ g
IsAbout c (Readdir h) phase g = h.0 ≡ g
IsAbout c (HealOp h) phase g = h.0 ≡ g
IsAbout c (SetAttr h attr) phase g = h.0 ≡ g
IsAbout c (GetAttr h) phase g = h.0 ≡ g
IsAbout c (Scrub h settle) phase g = h.0 ≡ g
IsAbout c (Rename old name new to) phase g = renamed_gfid old.0 new.0 phase ≡ g
IsAbout c (Rmdir h name) Lock2 g = IsChildOf c h.0 name g
IsAbout c (Rmdir h name) Query2 g = IsChildOf c h.0 name g
IsAbout c (Rmdir h name) Names g = IsChildOf c h.0 name g
IsAbout c (Rmdir h name) phase g = h.0 ≡ g
IsAbout c (Sweep full) phase g = ⊥

-- The first phase of a call that goes on under kept grants: where it falls short the call begins anew.
abbrev pub is_first_on_kept : Op → Phase → Option ℕ → Bool
is_first_on_kept (Write g off bytes) Pre (Some zero) = true
is_first_on_kept (Truncate g size) Pre (Some zero) = true
is_first_on_kept (ReadOp g off len via) Read (Some zero) = true
is_first_on_kept op phase queried = false

-- Every brick of the phase was asked, and what it didn't reply was given up; of the replies fewer than a quorum are alike.
pub record HasNoQuorum (c : Account) (phase : Phase) (number : ℕ) : Type 0 where
  pub gfid : ℕ
  pub about : IsAbout c c.given.op phase gfid
  pub round : Round
  pub of_phase : has_round phase round ≡ true
  pub counting : is_counting c.given.op phase ≡ true
  pub anew : is_first_on_kept c.given.op phase (c.on gfid).queried ≡ false
  pub asked : Every c (λ x. belongs c gfid phase x ≡ true → ((phase_account c gfid phase round).asked x ≡ true) ⊎ (has_failed (at c gfid x) ≡ true))
  pub counted : number ≡ most c gfid phase (phase_account c gfid phase round).reply
  pub few : number < quorum_of c.given
