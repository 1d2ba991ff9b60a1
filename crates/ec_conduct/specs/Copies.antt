-- When a heal may mark a sink, copy to it, and unmark it.
use Rattle.std.specs.Prelude.{◌≡◌, ◌⊎◌, ℕ, ◌+◌, ◌<◌, ◌≤◌, Bool, true, false, not, ◌&&◌, nat_lt, is_some, bytes_eq, cond, ◌||◌, Option, Some, None, List, [], ◌∷◌, length}
use Rattle.std.specs.Option.{option_map}
use Rattle.ec_attr.specs.Bricks.{bricks_below, count_below}
use Rattle.ec_attr.specs.Marks.{marked}
use Rattle.ec_attr.specs.declared.head.Head.{Head}
use Rattle.ec_attr.specs.declared.kind.Child.{Child}
use Rattle.ec_attr.specs.declared.kind.Kind.{Kind}
use Rattle.ec_attr.specs.declared.kind.Kind.TheVariants.{File, Dir}
use Rattle.ec_field.specs.Code.{IsCode, IsStripe, chunk_at}
use Rattle.ec_store.specs.Pages.{Page, end_of}
use Rattle.ec_store.specs.Records.{is_inside, is_within, listed}
use Rattle.ec_wire.specs.declared.reply.Reply.{Reply}
use Rattle.ec_wire.specs.declared.reply.Reply.TheVariants.{Head as HeadIs, Names, NoInode}
use Rattle.ec_wire.specs.declared.request.Request.{Request}
use Rattle.ec_wire.specs.declared.request.Request.TheVariants.{Mark, NamesAfter, NamesPut}
use Rattle.ec_conduct.specs.Account.{Account, at}
use Rattle.ec_conduct.specs.Changes.{same_child, stripes_of}
use Rattle.ec_conduct.specs.Data.{Decodes}
use Rattle.ec_conduct.specs.Done.{chunk_of, did, history, is_mark, is_query, is_trim, is_unmark, last_done, reply_to, tried}
use Rattle.ec_conduct.specs.Given.{bricks_of, quorum_of}
use Rattle.ec_conduct.specs.Group.{has}
use Rattle.ec_conduct.specs.Locks.{follows}
use Rattle.ec_conduct.specs.Standing.{Every, NoneWaits, Quorum, group_of, holds, is_grouped, is_held, keeps_mark}
use Rattle.ec_attr.specs.Head.{with_version}

-- a brick answered with a head, or that it has none
abbrev pub gives_head : Option Reply → Bool
gives_head (Some (HeadIs h)) = true
gives_head (Some NoInode) = true
gives_head reply = false

-- a sink for a heal: it answered the Query and isn't in the group
abbrev pub is_heal_sink : Account → ℕ → ℕ → Bool
is_heal_sink c g x = gives_head (reply_to is_query (at c g x).window) && not (is_grouped c g x)

-- A Mark goes once to a sink of the heal's first Query, under both its grants, with the group's head, marked.
pub record MayMark (c : Account) (b g grant heal : ℕ) (head : Head) : Type 0 where
  pub grant_held : holds (at c g b).inode grant ≡ true
  pub heal_held : holds (at c g b).heal heal ≡ true
  pub answered : NoneWaits c g is_query
  pub first : Every c (λ x. (at c g x).earlier ≡ [])
  pub once : tried is_mark (at c g b).window ≡ false
  pub sink : is_heal_sink c g b ≡ true
  pub group : option_map (λ q. with_version (marked q.version.content) q) (group_of c g) ≡ Some head

-- What goes under the Heal grant goes to a sink that did the Mark and every later request, while its window's locks
-- are held.
pub record MayRebuild (c : Account) (b g grant : ℕ) : Type 0 where
  pub heal_held : holds (at c g b).heal grant ≡ true
  pub locked : is_held (at c g b).inode ≡ true
  pub answered : NoneWaits c g is_query
  pub marked : keeps_mark (at c g b) ≡ true

-- the head of the last Mark
abbrev pub mark_head : Option Request → Option Head
mark_head (Some (Mark g grant heal head)) = Some head
mark_head r = None

abbrev pub marked_size : Account → ℕ → ℕ → Option ℕ
marked_size c g x = option_map (λ h. h.size) (mark_head (last_done is_mark (history (at c g x))))

-- A file's sink gets its length once, that of the size in its Mark.
pub record MayTrim (c : Account) (b g grant keep length : ℕ) : Type 0 where
  pub rebuild : MayRebuild c b g grant
  pub once : tried is_trim (history (at c g b)) ≡ false
  pub size : ℕ
  pub of_mark : marked_size c g b ≡ Some size
  pub keep_is : keep ≡ stripes_of (quorum_of c.given) size
  pub length_is : length ≡ stripes_of (quorum_of c.given) size

-- the chunk for brick b is the code of what a quorum of the group gave in this window
pub record IsCopy (c : Account) (b g s : ℕ) (chunk : List ℕ) : Type 0 where
  pub stripe : List (List ℕ)
  pub stripe_is : IsStripe (quorum_of c.given) stripe
  pub decoded : Decodes c g s (λ p. true) (λ es. es) stripe
  pub code : IsCode (quorum_of c.given) c.given.geometry.algorithm b stripe chunk

-- After that it gets copies, of stripes that the group's size holds.
pub record MayCopy (c : Account) (b g grant first : ℕ) (chunks : List (List ℕ)) : Type 0 where
  pub rebuild : MayRebuild c b g grant
  pub trimmed : did is_trim (history (at c g b)) ≡ true
  pub head : Head
  pub group : group_of c g ≡ Some head
  pub within : first + length chunks ≤ stripes_of (quorum_of c.given) head.size
  pub codes : (i : ℕ) → i < length chunks → IsCopy c b g (first + i) (chunk_at chunks i)

abbrev pub same_start : Option (List ℕ) → Option (List ℕ) → Bool
same_start None None = true
same_start (Some a) (Some b) = bytes_eq a b
same_start a b = false

abbrev pub is_names_from : Option (List ℕ) → Request → Bool
is_names_from after (NamesAfter g grant start) = same_start start after
is_names_from after r = false

abbrev pub page_in : Option Reply → Option Page
page_in (Some (Names page)) = Some page
page_in reply = None

-- the page that a brick of the group gave of the names past `after`
abbrev pub page_at : Account → ℕ → Option (List ℕ) → ℕ → Option Page
page_at c g after x = page_in (cond (is_grouped c g x) (reply_to (is_names_from after) (at c g x).window) None)

-- a page tells of a name: it isn't full, or the name is not past its last
abbrev pub tells : Option (List ℕ) → Page → List ℕ → Bool
tells after page name = nat_lt (length page) 64 || is_within (end_of after page) name

-- how many pages have this child, or none, at the name
abbrev pub pages_with : Account → ℕ → Option (List ℕ) → List ℕ → Option Child → ℕ
pages_with c g after name child = count_below (bricks_of c.given) (λ x. has (λ page. same_child (listed page name) child) (page_at c g after x))

abbrev pub first_page : Account → ℕ → Option (List ℕ) → List ℕ → Option Page
first_page c g after [] = None
first_page c g after (x ∷ xs) = page_at c g after x

-- the page of the lowest brick that gave one
abbrev pub lowest_page : Account → ℕ → Option (List ℕ) → Option Page
lowest_page c g after = first_page c g after (bricks_below (bricks_of c.given) (λ x. is_some (page_at c g after x)))

-- What a heal takes a name to lead to: what a quorum says alike, else what the lowest brick says.
abbrev pub IsHealed : Account → ℕ → Option (List ℕ) → List ℕ → Option Child → Type 0
IsHealed c g after name child = (quorum_of c.given ≤ pages_with c g after name child) ⊎ (((other : Option Child) → pages_with c g after name other < quorum_of c.given) × (option_map (λ page. listed page name) (lowest_page c g after) ≡ Some child))

-- A directory's sink gets the names of a range of which every page heard tells.
pub record MayPutNames (c : Account) (b g grant : ℕ) (after upto : Option (List ℕ)) (list : Page) : Type 0 where
  pub rebuild : MayRebuild c b g grant
  pub quorum : Quorum c (λ x. is_some (page_at c g after x) ≡ true)
  pub told : Every c (λ x. (page : Page) → page_at c g after x ≡ Some page → (name : List ℕ) → is_inside after upto name ≡ true → tells after page name ≡ true)
  pub names : (name : List ℕ) → is_inside after upto name ≡ true → IsHealed c g after name (listed list name)

-- the request puts this name
abbrev pub puts : List ℕ → Request → Bool
puts name (NamesPut g grant after upto list) = is_inside after upto name
puts name r = false

-- a sink did a copy of every stripe that the size holds, or of every name
abbrev pub IsCopied : Account → ℕ → ℕ → Head → Kind → Type 0
IsCopied c g x head File = (did is_trim (history (at c g x)) ≡ true) × ((s : ℕ) → s < stripes_of (quorum_of c.given) head.size → did (λ r. is_some (chunk_of s r)) (history (at c g x)) ≡ true)
IsCopied c g x head Dir = (name : List ℕ) → did (puts name) (history (at c g x)) ≡ true

-- An Unmark goes once to a sink that has everything and still follows. It names the group's version, marked, and the
-- group's greatest dirty number.
pub record MayUnmark (c : Account) (b g grant version dirty : ℕ) : Type 0 where
  pub rebuild : MayRebuild c b g grant
  pub once : tried is_unmark (history (at c g b)) ≡ false
  pub head : Head
  pub group : group_of c g ≡ Some head
  pub version_is : version ≡ marked head.version.content
  pub dirty_is : dirty ≡ head.dirty.content
  pub following : follows c g b ≡ true
  pub copied : IsCopied c g b head head.kind
