-- The table of a readdir.
use Rattle.std.specs.Prelude.{◌≡◌, ◌⊎◌, false, ℕ, ◌<◌, ◌≤◌, cond, ◌&&◌, nat_lt, Option, Some, None, List, [], ◌++◌}
use Rattle.ec_answers.specs.declared.grouped.Grouped.{Grouped}
use Rattle.ec_answers.specs.declared.grouped.Grouped.TheVariants.{Group as Found, Gone, Fewer}
use Rattle.ec_attr.specs.Bricks.{is_in}
use Rattle.ec_attr.specs.declared.kind.Kind.{Kind}
use Rattle.ec_attr.specs.declared.kind.Kind.TheVariants.{File, Dir}
use Rattle.ec_attr.specs.declared.kind.LockKind.TheVariants.{Shared}
use Rattle.ec_conduct.specs.Account.{Account, at}
use Rattle.ec_conduct.specs.Given.{bricks_of, quorum_of}
use Rattle.ec_store.specs.Pages.{Page}
use Rattle.ec_txn.specs.declared.known.Place.{Place}
use Rattle.ec_txn.specs.declared.opening.Opening.TheVariants.{Lock}
use Rattle.ec_txn.specs.declared.stage.Next.{Next}
use Rattle.ec_txn.specs.declared.stage.Next.TheVariants.{Go, Say}
use Rattle.ec_txn.specs.Ballot.{serving, serving_by}
use Rattle.ec_txn.specs.Fetching.{IsFetching}
use Rattle.ec_txn.specs.Opening.{InOpening, OpeningFollows, opening_asks, opening_phase}
use Rattle.ec_txn.specs.Replies.{replied}
use Rattle.ec_txn.specs.Rounds.{Asks, subject}
use Rattle.ec_txn.specs.Tables.{Table}
use Rattle.ec_wire.specs.declared.answer.Answer.TheVariants.{Names as NamesAre, NoQuorum, NoSuch, NotDir}
use Rattle.ec_wire.specs.declared.op.Op.{Op}
use Rattle.ec_wire.specs.declared.op.Op.TheVariants.{Readdir}
use Rattle.ec_wire.specs.declared.phase.Phase.{Phase}
use Rattle.ec_wire.specs.declared.phase.Phase.TheVariants.{Query as QueryPhase, Names as NamesPhase}
use Rattle.ec_wire.specs.declared.request.Request.{Request}
use Rattle.ec_wire.specs.declared.request.Request.TheVariants.{NamesAfter}
use Rattle.ec_entry.specs.declared.readdir.ReaddirStage.{ReaddirStage}
use Rattle.ec_entry.specs.declared.readdir.ReaddirStage.TheVariants.{Opens, Names}
use Rattle.ec_entry.specs.Members.{under_grant}
use Rattle.ec_entry.specs.Paging.{Entries, IsPart, IsUpto, count_paged, paged}

abbrev pub readdir_phase : ReaddirStage → Phase
readdir_phase (Opens opening) = opening_phase opening
readdir_phase (Names bricks past list) = NamesPhase

abbrev pub IsReaddir : Op → Type 0
IsReaddir (Readdir g) = Unit {0}
IsReaddir op = ⊥

-- the good group of a directory is asked for its names, from the first on
abbrev pub of_kind : Kind → ℕ → Next ReaddirStage
of_kind File bricks = Say NotDir
of_kind Dir bricks = Go (Names bricks None [])

abbrev pub readdir_next : Grouped → Next ReaddirStage
readdir_next (Found group) = of_kind group.head.kind group.bricks
readdir_next (Gone bricks) = Say NoSuch
readdir_next (Fewer most) = Say (NoQuorum QueryPhase most)

abbrev pub ReaddirJudges : Account → Grouped → Next ReaddirStage → Type 0
ReaddirJudges c grouped next = next ≡ readdir_next grouped

-- the bricks of a set that did all they were sent are asked for the names past a name
abbrev pub names_asks : ℕ → Option (List ℕ) → Account → Asks
names_asks bits past c x = cond (is_in bits x && nat_lt x (bricks_of c.given)) (under_grant (serving (at c (subject c.given.op) x)) (λ grant. NamesAfter (record { 0 = subject c.given.op }) grant past)) None

-- the same by what is known of a brick of n
abbrev pub asked_names : ℕ → Option (List ℕ) → ℕ → ℕ → Place → ℕ → Option Request
asked_names bits past n g p x = cond (is_in bits x && nat_lt x n) (under_grant (serving_by p) (λ grant. NamesAfter (record { 0 = g }) grant past)) None

abbrev pub readdir_asks : ReaddirStage → Account → Asks
readdir_asks (Opens opening) c = opening_asks Shared opening c
readdir_asks (Names bricks past list) c = names_asks bricks past c

-- a round that doesn't tell to the end is followed by the next, past the name to which it tells
abbrev pub goes_on : ℕ → Option (List ℕ) → Entries → Next ReaddirStage
goes_on bricks None list = Say (NamesAre list)
goes_on bricks (Some upto) list = Go (Names bricks (Some upto) list)

-- A round to which fewer than k bricks replied a page ends the call; else what it lists is added.
abbrev pub PageFollows : ℕ → ℕ → Option (List ℕ) → Entries → (ℕ → Option Page) → Next ReaddirStage → Type 0
PageFollows k bricks past list pages next =
    ((count_paged pages < k) × (next ≡ Say (NoQuorum NamesPhase (count_paged pages))))
    ⊎ ((k ≤ count_paged pages) × (upto : Option (List ℕ)) × (part : Entries) × IsUpto pages upto × IsPart k pages past upto part × (next ≡ goes_on bricks upto (list ++ part)))

abbrev pub ReaddirFollows : ReaddirStage → Account → Next ReaddirStage → Type 0
ReaddirFollows (Opens opening) c next = OpeningFollows (λ o. Opens o) ReaddirJudges opening c next
ReaddirFollows (Names bricks past list) c next = PageFollows (quorum_of c.given) bricks past list (paged bricks (replied c (subject c.given.op))) next

-- a shared lock at each brick, the Queries, the names of the good group page by page, the answer
abbrev pub readdir_table : Table ReaddirStage
readdir_table = record {
  starts = λ given next. IsReaddir given.op × (next ≡ Go (Opens (Lock 0)));
  asks = readdir_asks;
  again = λ stage. false;
  follows = ReaddirFollows;
}

abbrev pub InReaddir : ReaddirStage → Account → Asks → Type 0
InReaddir (Opens opening) c f = InOpening Shared opening c f
InReaddir (Names bricks past list) c f = IsFetching (subject c.given.op) (bricks_of c.given) c f

abbrev pub DuringReaddir : ReaddirStage → Account → Asks → Type 0
DuringReaddir stage c f = IsReaddir c.given.op × InReaddir stage c f
