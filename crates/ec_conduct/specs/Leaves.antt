-- What a call leaves to its client's next call: grants and stripes.
use Rattle.std.specs.Prelude.{◌≡◌, ◌⊎◌, ℕ, ◌<◌, ◌≤◌, Bool, true, false, ◌||◌, Option, Some, None, List, [], ◌∷◌, slice_index_or}
use Rattle.std.specs.List.{Contains, list_all}
use Rattle.ec_attr.specs.Bricks.{count_below, is_in}
use Rattle.ec_attr.specs.declared.attr.Attr.{Attr}
use Rattle.ec_attr.specs.declared.head.Head.{Head}
use Rattle.ec_field.specs.Code.{IsCode, IsStripe}
use Rattle.ec_wire.specs.declared.answer.Answer.{Answer}
use Rattle.ec_wire.specs.declared.answer.Answer.TheVariants.{Size}
use Rattle.ec_wire.specs.declared.request.Request.{Request}
use Rattle.ec_wire.specs.declared.request.Request.TheVariants.{PostOp}
use Rattle.ec_conduct.specs.Account.{Account, Exchange, at}
use Rattle.ec_conduct.specs.Data.{changes_data}
use Rattle.ec_conduct.specs.Done.{chunk_of, did, is_answered, is_any, is_clear, is_post, is_post_to, last_done, or_else}
use Rattle.ec_conduct.specs.Given.{CachedStripe, bricks_of, quorum_of}
use Rattle.ec_conduct.specs.Standing.{Quorum, group_of, holds, is_member, is_sink_of, waits_on}
use Rattle.ec_conduct.specs.declared.kept.Kept.{Kept}
use Rattle.ec_attr.specs.Head.{with_dirty, with_version}

abbrev pub is_kept : Kept → ℕ → Bool
is_kept kept x = is_in kept.bricks x || is_in kept.sinks x

abbrev pub attr_or : Option Attr → Attr → Attr
attr_or None attr = attr
attr_or (Some new) attr = new

-- the head that a PostOp leaves where this one was
abbrev pub posted_head : Head → Option Request → Option Head
posted_head head (Some (PostOp g grant old new size attr)) = Some (record (with_dirty 1 (with_version new head)) { size = size; attr = attr_or attr head.attr })
posted_head head r = None

abbrev pub is_size : Option Answer → Bool
is_size (Some (Size size)) = true
is_size answer = false

-- A brick whose grant is kept did the PostOp under it; the grant isn't released, and every request under it is answered.
pub record IsKeptAt (c : Account) (kept : Kept) (x : ℕ) : Type 0 where
  pub brick : x < bricks_of c.given
  pub grant : holds (at c kept.gfid.0 x).inode (slice_index_or kept.grants x 0) ≡ true
  pub posted : did is_post (at c kept.gfid.0 x).window ≡ true
  pub answered : list_all is_answered (at c kept.gfid.0 x).window ≡ true
  pub idle : waits_on c kept.gfid.0 is_any x ≡ false

-- What a write or truncate keeps, after it is answered. The head is what the PostOp left at the bricks of the group.
pub record IsKept (c : Account) (kept : Kept) : Type 0 where
  pub answer : is_size c.answer ≡ true
  pub op : changes_data c.given.op kept.gfid.0 ≡ true
  pub head : Head
  pub group : group_of c kept.gfid.0 ≡ Some head
  pub enough : quorum_of c.given ≤ count_below (bricks_of c.given) (is_in kept.bricks)
  pub bricks : (x : ℕ) → is_in kept.bricks x ≡ true → is_member c kept.gfid.0 x ≡ true
  pub sinks : (x : ℕ) → is_in kept.sinks x ≡ true → is_sink_of c kept.gfid.0 x ≡ true
  pub each : (x : ℕ) → is_kept kept x ≡ true → IsKeptAt c kept x
  pub others : (x : ℕ) → is_kept kept x ≡ false → slice_index_or kept.grants x 0 ≡ 0
  pub head_is : (x : ℕ) → is_in kept.bricks x ≡ true → posted_head head (last_done is_post (at c kept.gfid.0 x).window) ≡ Some kept.head
  pub dirty : ((kept.dirty ≡ 0) × ((x : ℕ) → is_kept kept x ≡ true → did is_clear (at c kept.gfid.0 x).window ≡ true)) ⊎ (kept.dirty ≡ 1)

abbrev pub KeepsGrants : Account → Option Kept → Type 0
KeepsGrants c None = Unit {0}
KeepsGrants c (Some kept) = IsKept c kept

-- the chunk of stripe s that a brick was sent last
abbrev pub chunk_sent : ℕ → List Exchange → Option (List ℕ)
chunk_sent s [] = None
chunk_sent s (e ∷ es) = or_else (chunk_of s e.request) (chunk_sent s es)

-- a stripe whose codes the call sent, under the version that a quorum of the group posted
pub record IsOwnStripe (c : Account) (x : CachedStripe) : Type 0 where
  pub op : changes_data c.given.op x.gfid ≡ true
  pub stripe : IsStripe (quorum_of c.given) x.chunks
  pub posted : Quorum c (λ b. (is_member c x.gfid b ≡ true) × (did (is_post_to x.version) (at c x.gfid b).window ≡ true) × (chunk : List ℕ) × (chunk_sent x.stripe (at c x.gfid b).window ≡ Some chunk) × IsCode (quorum_of c.given) c.given.geometry.algorithm b x.chunks chunk)

-- Each stripe that is cached was cached before, or is the call's own.
abbrev pub KeepsCache : Account → List CachedStripe → Type 0
KeepsCache c cache = (x : CachedStripe) → Contains cache x → Contains c.given.cache x ⊎ IsOwnStripe c x
