-- The texts of requests and replies in the log: the name in lower case, then the fields. A list prints as its length.
use Rattle.std.specs.Prelude.{ℕ, Option, Some, None, List, [], ◌∷◌, codes, decimal, length}
use Rattle.hex.specs.Hex.{encode_lower}
use Rattle.ec_attr.specs.declared.attr.Attr.{Attr}
use Rattle.ec_attr.specs.declared.kind.Domain.{Domain}
use Rattle.ec_attr.specs.declared.kind.Domain.TheVariants.{Inode, Heal}
use Rattle.ec_attr.specs.declared.kind.LockKind.{LockKind}
use Rattle.ec_attr.specs.declared.kind.LockKind.TheVariants.{Shared, Exclusive}
use Rattle.ec_wire.specs.Words.{attr_words, child_or, child_word, dash, either, gfid_or_dash, gfid_word, head_words, name_or_dash}
use Rattle.ec_wire.specs.declared.reply.Reply.{Reply}
use Rattle.ec_wire.specs.declared.reply.Reply.TheVariants.{Granted, Head, Chunks, Child, Names, Done, NoGrant, NoInode, IsInode, OtherKind, NotAt, Fault, Gfids}
use Rattle.ec_wire.specs.declared.request.Request.{Request}
use Rattle.ec_wire.specs.declared.request.Request.TheVariants.{Ask, Release, Query, PreOp, ReadChunks, WriteChunks, SetLength, PostOp, Clear, NameGet, NamesAfter, NameSet, NamesPut, Make, Made, Unmake, Mark, Unmark, GfidsAfter}

abbrev pub domain_word : Domain → List ℕ
domain_word Inode = codes "inode"
domain_word Heal = codes "heal"

abbrev pub lock_word : LockKind → List ℕ
lock_word Shared = codes "shared"
lock_word Exclusive = codes "exclusive"

abbrev pub attr_or_dash : Option Attr → List (List ℕ)
attr_or_dash None = dash ∷ []
attr_or_dash (Some a) = attr_words a

abbrev pub request_words : Request → List (List ℕ)
request_words (Ask g domain kind) = codes "ask" ∷ gfid_word g ∷ domain_word domain ∷ lock_word kind ∷ []
request_words (Release g grant) = codes "release" ∷ gfid_word g ∷ decimal grant ∷ []
request_words (Query g grant) = codes "query" ∷ gfid_word g ∷ decimal grant ∷ []
request_words (PreOp g grant at dirty) = codes "preop" ∷ gfid_word g ∷ decimal grant ∷ decimal at ∷ decimal dirty ∷ []
request_words (ReadChunks g grant first count) = codes "readchunks" ∷ gfid_word g ∷ decimal grant ∷ decimal first ∷ decimal count ∷ []
request_words (WriteChunks g grant first chunks) = codes "writechunks" ∷ gfid_word g ∷ decimal grant ∷ decimal first ∷ decimal (length chunks) ∷ []
request_words (SetLength g grant keep length) = codes "setlength" ∷ gfid_word g ∷ decimal grant ∷ decimal keep ∷ decimal length ∷ []
request_words (PostOp g grant at version size a) = codes "postop" ∷ gfid_word g ∷ decimal grant ∷ decimal at ∷ decimal version ∷ decimal size ∷ attr_or_dash a
request_words (Clear g grant at) = codes "clear" ∷ gfid_word g ∷ decimal grant ∷ decimal at ∷ []
request_words (NameGet g grant name) = codes "nameget" ∷ gfid_word g ∷ decimal grant ∷ encode_lower name ∷ []
request_words (NamesAfter g grant after) = codes "namesafter" ∷ gfid_word g ∷ decimal grant ∷ name_or_dash after ∷ []
request_words (NameSet g grant name child) = codes "nameset" ∷ gfid_word g ∷ decimal grant ∷ encode_lower name ∷ child_or dash child ∷ []
request_words (NamesPut g grant after upto list) = codes "namesput" ∷ gfid_word g ∷ decimal grant ∷ name_or_dash after ∷ name_or_dash upto ∷ decimal (length list) ∷ []
request_words (Make g grant child) = codes "make" ∷ gfid_word g ∷ decimal grant ∷ child_word child ∷ []
request_words (Made g grant child) = codes "made" ∷ gfid_word g ∷ decimal grant ∷ gfid_word child ∷ []
request_words (Unmake g grant child) = codes "unmake" ∷ gfid_word g ∷ decimal grant ∷ gfid_word child ∷ []
request_words (Mark g grant heal head) = codes "mark" ∷ gfid_word g ∷ decimal grant ∷ decimal heal ∷ head_words head
request_words (Unmark g grant at dirty) = codes "unmark" ∷ gfid_word g ∷ decimal grant ∷ decimal at ∷ decimal dirty ∷ []
request_words (GfidsAfter after dirty) = codes "gfidsafter" ∷ gfid_or_dash after ∷ either dirty (codes "true") (codes "false") ∷ []

abbrev pub reply_words : Reply → List (List ℕ)
reply_words Granted = codes "granted" ∷ []
reply_words (Head h) = codes "head" ∷ head_words h
reply_words (Chunks chunks) = codes "chunks" ∷ decimal (length chunks) ∷ []
reply_words (Child child) = codes "child" ∷ child_or dash child ∷ []
reply_words (Names list) = codes "names" ∷ decimal (length list) ∷ []
reply_words Done = codes "done" ∷ []
reply_words (NoGrant grant) = codes "nogrant" ∷ decimal grant ∷ []
reply_words NoInode = codes "noinode" ∷ []
reply_words IsInode = codes "isinode" ∷ []
reply_words OtherKind = codes "otherkind" ∷ []
reply_words (NotAt version) = codes "notat" ∷ decimal version ∷ []
reply_words Fault = codes "fault" ∷ []
reply_words (Gfids list) = codes "gfids" ∷ decimal (length list) ∷ []
