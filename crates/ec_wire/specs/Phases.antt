-- The words of phases.
use Rattle.std.specs.Prelude.{ℕ, Option, Some, None, List, [], ◌∷◌, bytes_eq, codes, if◌then◌else◌}
use Rattle.ec_wire.specs.declared.phase.Phase.{Phase}
use Rattle.ec_wire.specs.declared.phase.Phase.TheVariants.{Heal, Lock, Query, Name, Names, Pre, Read, Make, Write, Trim, Entry, Post, Clear, Made, Unmake, Mark, Copy, Unmark, Lock2, Query2, Name2, Pre2, Entry2, Post2, Clear2, Scan, List as Listing, Dirs, Kinds, Walk, Asks, Probe, Shed}

abbrev pub phase_word : Phase → List ℕ
phase_word Heal = codes "heal"
phase_word Lock = codes "lock"
phase_word Query = codes "query"
phase_word Name = codes "name"
phase_word Names = codes "names"
phase_word Pre = codes "pre"
phase_word Read = codes "read"
phase_word Make = codes "make"
phase_word Write = codes "write"
phase_word Trim = codes "trim"
phase_word Entry = codes "entry"
phase_word Post = codes "post"
phase_word Clear = codes "clear"
phase_word Made = codes "made"
phase_word Unmake = codes "unmake"
phase_word Mark = codes "mark"
phase_word Copy = codes "copy"
phase_word Unmark = codes "unmark"
phase_word Lock2 = codes "lock2"
phase_word Query2 = codes "query2"
phase_word Name2 = codes "name2"
phase_word Pre2 = codes "pre2"
phase_word Entry2 = codes "entry2"
phase_word Post2 = codes "post2"
phase_word Clear2 = codes "clear2"
phase_word Scan = codes "scan"
phase_word Listing = codes "list"
phase_word Dirs = codes "dirs"
phase_word Kinds = codes "kinds"
phase_word Walk = codes "walk"
phase_word Asks = codes "asks"
phase_word Probe = codes "probe"
phase_word Shed = codes "shed"

-- each phase once
abbrev pub phases : List Phase
phases = Heal ∷ Lock ∷ Query ∷ Name ∷ Names ∷ Pre ∷ Read ∷ Make ∷ Write ∷ Trim ∷ Entry ∷ Post ∷ Clear ∷ Made ∷ Unmake ∷ Mark ∷ Copy ∷ Unmark ∷ Lock2 ∷ Query2 ∷ Name2 ∷ Pre2 ∷ Entry2 ∷ Post2 ∷ Clear2 ∷ Scan ∷ Listing ∷ Dirs ∷ Kinds ∷ Walk ∷ Asks ∷ Probe ∷ Shed ∷ []

-- the first of these phases that has this word
unfoldable pub phase_among : List Phase → List ℕ → Option Phase
phase_among [] word = None
phase_among (p ∷ ps) word = if bytes_eq (phase_word p) word then Some p else phase_among ps word
