-- The account of a call that begins.
use Rattle.std.specs.Prelude.{ℕ, Bool, true, cond, ◌==◌, ◌||◌, Option, Some, None, List, [], ◌∷◌, slice_index_or}
use Rattle.ec_attr.specs.Bricks.{is_in}
use Rattle.ec_attr.specs.Marks.{marked}
use Rattle.ec_attr.specs.declared.head.Head.{Head}
use Rattle.ec_wire.specs.declared.reply.Reply.TheVariants.{Head as HeadIs}
use Rattle.ec_wire.specs.declared.request.Request.TheVariants.{Query}
use Rattle.ec_conduct.specs.Account.{Account, Dealings, Place, account_from}
use Rattle.ec_conduct.specs.Given.{Given}
use Rattle.ec_conduct.specs.Own.{Own}
use Rattle.ec_conduct.specs.declared.kept.Kept.{Kept}

abbrev pub no_place : Place
no_place = record { inode = None; heal = None; window = []; earlier = [] }

abbrev pub no_dealings : Dealings
no_dealings = record { queried = None; dirty = None; place = λ b. no_place }

-- the head that a kept brick has, and that a kept sink has
abbrev pub kept_head : Kept → Bool → Head
kept_head kept sink = record kept.head {
  version = record kept.head.version { content = cond sink (marked kept.head.version.content) kept.head.version.content };
  dirty = record kept.head.dirty { content = kept.dirty };
}

-- Kept grants stand in the place of a Query that each of their bricks has answered. No message has the number 0.
abbrev pub kept_place : Kept → ℕ → Place
kept_place kept b = cond (is_in kept.bricks b || is_in kept.sinks b)
    (record {
      inode = Some (record { number = slice_index_or kept.grants b 0; granted = true });
      heal = None;
      window = record { number = 0; request = Query kept.gfid (slice_index_or kept.grants b 0); reply = Some (HeadIs (kept_head kept (is_in kept.sinks b))) } ∷ [];
      earlier = [];
    })
    no_place

abbrev pub kept_dealings : Option Kept → ℕ → Dealings
kept_dealings None g = no_dealings
kept_dealings (Some kept) g = cond (g == kept.gfid.0) (record { queried = Some 0; dirty = None; place = kept_place kept }) no_dealings

abbrev pub kept_gfids : Option Kept → List ℕ
kept_gfids None = []
kept_gfids (Some kept) = kept.gfid.0 ∷ []

-- Its first step is step 1; the Query of kept grants counts as of a step before.
abbrev pub opened : Given → Account
opened given = record {
  given = given;
  steps = 1;
  waits = λ b. None;
  on = kept_dealings given.kept;
  gfids = kept_gfids given.kept;
  pages = λ b. [];
  answer = None;
}

-- the account after these own entries
abbrev pub account : Given → List Own → Account
account given es = account_from (opened given) es
