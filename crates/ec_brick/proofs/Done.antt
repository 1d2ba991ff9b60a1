-- What the calls of a store make of a request.
use Rattle.std.proofs.Common.{rules, ◌≡◌, ℕ, ◌*◌, Bool, true, Option, Some, None, Result, Ok, Err, OnOk, List, refl, sym, ◌∙◌, ap, subst, arith, option_map}
use Rattle.ec_attr.specs.declared.config.Config.{Config}
use Rattle.ec_attr.specs.declared.gfid.Gfid.{Gfid}
use Rattle.ec_attr.specs.declared.head.Head.{Head}
use Rattle.ec_store.specs.Does.{Does, WritesPart}
use Rattle.ec_store.specs.Put.{put}
use Rattle.ec_store.specs.Records.{Record, Records, head_at, headed, with_head}
use Rattle.ec_store.specs.declared.store.StoreFault.{StoreFault}
use Rattle.ec_store.specs.declared.store.StoreFault.TheVariants.{Failed, NoMemory}
use Rattle.ec_wire.specs.declared.request.Request.{Request}
use Rattle.ec_wire.specs.declared.request.Request.TheVariants.{Query, PreOp, ReadChunks, WriteChunks, PostOp, Clear, NameGet, NamesAfter, Make, Made, Mark, Unmark}
use Rattle.ec_wire.specs.declared.reply.Reply.TheVariants.{Done}
use Rattle.ec_brick.specs.Inner.{DoesWork, done_of, head_after, subject_of, is_reading}
use Rattle.ec_brick.specs.Known.{AreKnown}
use Rattle.ec_brick.specs.Replies.{Is, own_of}
use Rattle.ec_brick.specs.Work.{broken_of, bytes_of, committed, new_head, unmarked, with_head_by, work_of, removed_of}
use Rattle.ec_brick.proofs.Known.{front_known, known_equal}
use Rattle.ec_attr.specs.Head.{with_dirty}

known_after : (m n b : Records) → n ≡ m → b ≡ m → AreKnown b n
known_after m n b e k = subst (λ x. AreKnown x n) (sym k) (known_equal m n e)

-- an error that leaves all as it was
pub unchanged : (config : Config) (q : Request) (t t' : Bool) (m n : Records) (e : StoreFault) → t' ≡ t → (t ≡ true → n ≡ m) → broken_of q m ≡ m → DoesWork config q t t' m n (Err e)
unchanged config q t t' m n e same stay whole = record { tells = same; ok = tt; own = tt; failed = λ is told. known_after m n _ (stay told) whole; memory = λ is told. stay told }

-- a call that does the whole work or nothing
pub from_does : {T : Type 0} (config : Config) (q : Request) (t t' : Bool) (m n after : Records) (r : Result T StoreFault) → Does t t' m n after r → (t ≡ true → after ≡ work_of config q m) → own_of q m ≡ Is Done → broken_of q m ≡ m → DoesWork config q t t' m n (done_of r)
from_does config q t t' m n after (Ok x) d w o b = record { tells = d.tells; ok = λ told. d.ok told ∙ w told; own = λ told. search (rules, o); failed = λ is told. cc; memory = λ is told. cc }
from_does config q t t' m n after (Err e) d w o b = unchanged config q t t' m n e d.tells d.err b

-- a write, of which a front part may stand
pub from_part : {T : Type 0} (config : Config) (g : Gfid) (k first : ℕ) (chunks : List (List ℕ)) (t t' : Bool) (m n : Records) (r : Result T StoreFault) → WritesPart t t' m n g.0 (512 * first) (bytes_of chunks) r → DoesWork config (WriteChunks g k first chunks) t t' m n (done_of r)
from_part config g k first chunks t t' m n (Ok x) d = record { tells = d.tells; ok = d.ok; own = λ told. refl; failed = λ is told. cc; memory = λ is told. cc }
from_part config g k first chunks t t' m n (Err e) d = record { tells = d.tells; ok = tt; own = tt; failed = λ is told. let same : e ≡ Failed = grind arith in let f = d.failed (ap Err same) told in subst (AreKnown _) (sym f.2) (front_known m g.0 (512 * first) f.0 (bytes_of chunks) f.1); memory = λ is told. let same : e ≡ NoMemory = grind arith in d.memory (ap Err same) told }

-- the head that is put is the record's with a change
at_some : (o : Option Record) (h : Head) (f : Head → Head) → ◌≡◌ {A = Option Head} (Some h) (option_map {T = Record} (λ r. r.head) o) → ◌≡◌ {A = Option Record} (Some (headed o (f h))) (option_map {T = Record} (λ r. record r { head = f r.head }) o)
at_some None h f e = cc
at_some (Some r) h f e = let k : h ≡ r.head = grind arith in ap (λ x. Some (record r { head = f x })) k

put_at : (m : Records) (g : ℕ) (f : Head → Head) (h : Head) (o : Option Head) → o ≡ head_at m g → Some h ≡ option_map f o → with_head m g h ≡ with_head_by m g f
put_at m g f h None e k = cc
put_at m g f h (Some x) e k = let same : h ≡ f x = grind arith in ap (with_head m g) same ∙ ap (put m g) (at_some (m g) x f e)

-- the head that a request puts is its work
head_work : (config : Config) (q : Request) (m : Records) (h : Head) → Some h ≡ head_after config q (head_at m (subject_of q)) → with_head m (subject_of q) h ≡ work_of config q m
head_work config (PreOp g n at d) m h e = put_at m g.0 (with_dirty d) h _ refl e
head_work config (PostOp g n at v size a) m h e = put_at m g.0 (committed v size a) h _ refl e
head_work config (Clear g n at) m h e = put_at m g.0 (with_dirty 0) h _ refl e
head_work config (Make g n c) m h e = let same : h ≡ new_head config c.kind = grind arith in ap (with_head m c.gfid.0) same
head_work config (Made g n c) m h e = put_at m c.0 (with_dirty 0) h _ refl e
head_work config (Mark g n heal x) m h e = let same : h ≡ x = grind arith in ap (with_head m g.0) same
head_work config (Unmark g n at d) m h e = put_at m g.0 (unmarked d) h _ refl e
head_work config q m h e = cc

-- a request that puts a head replies Done, and has no half work
head_done : (config : Config) (q : Request) (h : Option Head) (x : Head) (m : Records) → Some x ≡ head_after config q h → (own_of q m ≡ Is Done) × (broken_of q m ≡ m)
head_done config (PreOp g n at d) h x m e = (refl, refl)
head_done config (PostOp g n at v size a) h x m e = (refl, refl)
head_done config (Clear g n at) h x m e = (refl, refl)
head_done config (Make g n c) h x m e = (refl, refl)
head_done config (Made g n c) h x m e = (refl, refl)
head_done config (Mark g n heal y) h x m e = (refl, refl)
head_done config (Unmark g n at d) h x m e = (refl, refl)
head_done config q h x m e = cc

-- a request that puts a head
pub from_head : {T : Type 0} (config : Config) (q : Request) (t t' : Bool) (m n : Records) (s : ℕ) (o : Option Head) (h : Head) (r : Result T StoreFault) → s ≡ subject_of q → (t ≡ true → o ≡ head_at m s) → Some h ≡ head_after config q o → Does t t' m n (with_head m s h) r → DoesWork config q t t' m n (done_of r)
from_head config q t t' m n s o h r same there e d =
    let both = head_done config q o h m e in
    from_does config q t t' m n (with_head m s h) r d (λ told. ap (λ x. with_head m x h) same ∙ head_work config q m h (e ∙ ap (head_after config q) (there told ∙ ap (head_at m) same))) both.0 both.1

pub always : {T E : Type 0} (P : Type 0) (r : Result T E) → P → OnOk r P
always P (Ok x) p = p
always P (Err e) p = tt

-- what reads removes nothing
pub reading_removes : (q : Request) (s : ℕ → Bool) → is_reading q ≡ true → s ≡ removed_of q s
reading_removes (Query g n) s e = refl
reading_removes (ReadChunks g n first count) s e = refl
reading_removes (NameGet g n name) s e = refl
reading_removes (NamesAfter g n after) s e = refl
reading_removes q s e = cc

pub when_done : {T : Type 0} (P : Type 0) (r : Result T StoreFault) → OnOk r P → OnOk (done_of r) P
when_done P (Ok x) p = p
when_done P (Err e) p = tt
