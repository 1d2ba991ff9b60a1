-- What bricks did of what a call sent.
use Rattle.std.specs.Prelude.{ℕ, ◌+◌, ◌-◌, Bool, true, false, not, cond, ◌==◌, ◌&&◌, ◌||◌, nat_le, nat_lt, Option, Some, None, List, [], ◌∷◌, ◌++◌, filter, map, length}
use Rattle.std.specs.List.{list_any, list_all}
use Rattle.ec_attr.specs.declared.kind.Domain.TheVariants.{Inode, Heal}
use Rattle.ec_attr.specs.declared.kind.LockKind.TheVariants.{Exclusive}
use Rattle.ec_field.specs.Code.{chunk_at}
use Rattle.ec_wire.specs.declared.reply.Reply.{Reply}
use Rattle.ec_wire.specs.declared.reply.Reply.TheVariants.{Chunks, NoGrant, NoInode, IsInode, OtherKind, NotAt, Fault}
use Rattle.ec_wire.specs.declared.request.Request.{Request}
use Rattle.ec_wire.specs.declared.request.Request.TheVariants.{Ask, Query, PreOp, ReadChunks, WriteChunks, SetLength, PostOp, Clear, NameGet, NamesAfter, NameSet, Make, Made, Mark, Unmark}
use Rattle.ec_conduct.specs.Account.{Exchange, Place}

-- a reply that is no refusal: the request was done
abbrev pub is_done : Option Reply → Bool
is_done None = false
is_done (Some (NoGrant grant)) = false
is_done (Some NoInode) = false
is_done (Some IsInode) = false
is_done (Some OtherKind) = false
is_done (Some (NotAt version)) = false
is_done (Some Fault) = false
is_done (Some reply) = true

-- kinds of requests
abbrev pub is_any : Request → Bool
is_any r = true

abbrev pub is_ask : Request → Bool
is_ask (Ask g domain kind) = true
is_ask r = false

abbrev pub is_heal_ask : Request → Bool
is_heal_ask (Ask g Heal kind) = true
is_heal_ask r = false

abbrev pub is_lock : Request → Bool
is_lock (Ask g Inode kind) = true
is_lock r = false

-- for the content, and for one client alone
abbrev pub is_exclusive : Request → Bool
is_exclusive (Ask g Inode Exclusive) = true
is_exclusive r = false

abbrev pub is_query : Request → Bool
is_query (Query g grant) = true
is_query r = false

abbrev pub is_pre : Request → Bool
is_pre (PreOp g grant version dirty) = true
is_pre r = false

abbrev pub is_read : Request → Bool
is_read (ReadChunks g grant first count) = true
is_read r = false

abbrev pub is_write : Request → Bool
is_write (WriteChunks g grant first chunks) = true
is_write r = false

abbrev pub is_trim : Request → Bool
is_trim (SetLength g grant keep length) = true
is_trim r = false

abbrev pub is_entry : Request → Bool
is_entry (NameSet g grant name child) = true
is_entry r = false

abbrev pub is_make : Request → Bool
is_make (Make g grant child) = true
is_make r = false

-- what is between PreOp and PostOp
abbrev pub is_change : Request → Bool
is_change r = is_write r || is_trim r || is_entry r || is_make r

abbrev pub is_post : Request → Bool
is_post (PostOp g grant old new size attr) = true
is_post r = false

-- a PostOp that sets this version
abbrev pub is_post_to : ℕ → Request → Bool
is_post_to version (PostOp g grant old new size attr) = new == version
is_post_to version r = false

abbrev pub is_clear : Request → Bool
is_clear (Clear g grant version) = true
is_clear r = false

abbrev pub is_made : Request → Bool
is_made (Made g grant child) = true
is_made r = false

abbrev pub is_name : Request → Bool
is_name (NameGet g grant name) = true
is_name r = false

abbrev pub is_names : Request → Bool
is_names (NamesAfter g grant after) = true
is_names r = false

abbrev pub is_mark : Request → Bool
is_mark (Mark g grant heal head) = true
is_mark r = false

abbrev pub is_unmark : Request → Bool
is_unmark (Unmark g grant version dirty) = true
is_unmark r = false

-- such a request is over, whatever came of it
abbrev pub tried : (Request → Bool) → List Exchange → Bool
tried p es = list_any (λ e. p e.request) es

abbrev pub did : (Request → Bool) → List Exchange → Bool
did p es = list_any (λ e. p e.request && is_done e.reply) es

-- each such request was done
abbrev pub failed_none : (Request → Bool) → List Exchange → Bool
failed_none p es = list_all (λ e. not (p e.request) || is_done e.reply) es

-- each was answered, by whatever reply
abbrev pub is_answered : Exchange → Bool
is_answered e = has_reply e.reply
  where
    has_reply : Option Reply → Bool
    has_reply None = false
    has_reply (Some reply) = true

-- the reply to the last such request
abbrev pub reply_to : (Request → Bool) → List Exchange → Option Reply
reply_to p [] = None
reply_to p (e ∷ es) = cond (p e.request) e.reply (reply_to p es)

-- the last such request that was done
abbrev pub last_done : (Request → Bool) → List Exchange → Option Request
last_done p [] = None
last_done p (e ∷ es) = cond (p e.request && is_done e.reply) (Some e.request) (last_done p es)

-- what came after the last such request, and with it
abbrev pub since : (Request → Bool) → List Exchange → List Exchange
since p [] = []
since p (e ∷ es) = cond (p e.request) [] (e ∷ since p es)

abbrev pub from : (Request → Bool) → List Exchange → List Exchange
from p [] = []
from p (e ∷ es) = cond (p e.request) (e ∷ []) (e ∷ from p es)

-- the changes that were sent, the last first
abbrev pub changes : List Exchange → List Request
changes es = filter is_change (map (λ e. e.request) es)

-- of this window and the earlier ones
abbrev pub history : Place → List Exchange
history p = p.window ++ p.earlier

-- item s of a list of which the first is item `first`
abbrev pub item_at : ℕ → List (List ℕ) → ℕ → Option (List ℕ)
item_at first chunks s = cond (nat_le first s && nat_lt s (first + length chunks)) (Some (chunk_at chunks (s - first))) None

-- the chunk of stripe s that a request writes
abbrev pub chunk_of : ℕ → Request → Option (List ℕ)
chunk_of s (WriteChunks g grant first chunks) = item_at first chunks s
chunk_of s r = None

-- the chunk of stripe s that a brick gave
abbrev pub chunk_in : ℕ → Request → Option Reply → Option (List ℕ)
chunk_in s (ReadChunks g grant first count) (Some (Chunks chunks)) = item_at first chunks s
chunk_in s r reply = None

abbrev pub or_else : {X : Type 0} → Option X → Option X → Option X
or_else None o = o
or_else (Some x) o = Some x

-- the chunk of stripe s that a brick gave last
abbrev pub chunk_read : ℕ → List Exchange → Option (List ℕ)
chunk_read s [] = None
chunk_read s (e ∷ es) = or_else (chunk_in s e.request e.reply) (chunk_read s es)
