-- What a brick forgets.
use Rattle.std.specs.Prelude.{ℕ, Bool, true, not, ◌&&◌, nat_le, nat_lt, Option, Some, None}
use Rattle.ec_attr.specs.declared.gfid.Gfid.{Gfid}

-- whether a gfid is not above `upto`, any where that is none
abbrev pub is_upto : Option Gfid → ℕ → Bool
is_upto None g = true
is_upto (Some last) g = nat_le g last.0

-- while gfids are dropped: those that are left below the next one are above the last
abbrev pub remains : Option Gfid → Gfid → (ℕ → Bool) → ℕ → Bool
remains None last set g = set g && not (is_upto (Some last) g)
remains (Some next) last set g = set g && not (is_upto (Some last) g && nat_lt g next.0)
