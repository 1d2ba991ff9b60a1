-- The index follows the heads of the records.
use Rattle.std.proofs.Common.{◌≡◌, ℕ, Bool, true, false, cond, ◌==◌, Option, Some, None, Result, Ok, Err, OnOk, OnErr, refl, sym, ◌∙◌, ap, arith, option_map}
use Rattle.std.proofs.lemmas.Bool.Decides.{nat_tests}
use Rattle.ec_attr.specs.declared.config.Config.{Config}
use Rattle.ec_attr.specs.declared.head.Head.{Head}
use Rattle.ec_index.specs.Members.{with_member}
use Rattle.ec_store.specs.Does.{Does}
use Rattle.ec_store.specs.Put.{put}
use Rattle.ec_store.specs.Records.{Record, Records, changed, headed, with_head, without}
use Rattle.ec_store.specs.declared.store.StoreFault.{StoreFault}
use Rattle.ec_store.specs.declared.store.StoreFault.TheVariants.{Failed, NoMemory}
use Rattle.ec_wire.specs.declared.reply.Reply.{Reply}
use Rattle.ec_wire.specs.declared.request.Request.{Request}
use Rattle.ec_wire.specs.declared.request.Request.TheVariants.{WriteChunks, SetLength, NameSet, NamesPut}
use Rattle.ec_brick.specs.Index.{IndexIs, dirty_of, is_dirty, is_dirty_record}
use Rattle.ec_brick.specs.Inner.{DoesWork, is_writing}
use Rattle.ec_brick.specs.Work.{broken_of, work_of}
use Rattle.ec_brick.proofs.Known.{same_dirty}

-- an index that stays, over records that stay
pub index_same : (old new : ℕ → Bool) (m n : Records) → new ≡ old → n ≡ m → IndexIs old m → IndexIs new n
index_same old new m n e k i g = ap (λ s. s g) e ∙ i g ∙ ap (λ x. dirty_of x g) (sym k)

dirty_put : (m : Records) (g q : ℕ) (o : Option Record) (b : Bool) → is_dirty_record o ≡ b → dirty_of (put m g o) q ≡ cond (g == q) b (dirty_of m q)
dirty_put m g q o b e = elim (q == g) as (λ t. ((q == g) ≡ t) → is_dirty_record (cond t o (m q)) ≡ cond (g == q) b (dirty_of m q)) [ true ↦ λ same. (let here : (g == q) ≡ true = grind (arith, nat_tests) in e ∙ ap (λ t. cond t b (dirty_of m q)) (sym here)) | false ↦ λ other. (let here : (g == q) ≡ false = grind (arith, nat_tests) in ap (λ t. cond t b (dirty_of m q)) (sym here)) ] refl

dirty_headed : (o : Option Record) (h : Head) → is_dirty_record (Some (headed o h)) ≡ is_dirty h
dirty_headed None h = refl
dirty_headed (Some r) h = refl

-- a head is put
pub index_put : {T E : Type 0} (old new : ℕ → Bool) (t t' : Bool) (m n : Records) (g : ℕ) (h : Head) (r : Result T E) → Does t t' m n (with_head m g h) r → OnOk r (new ≡ with_member old g (is_dirty h)) → OnErr r (new ≡ old) → t ≡ true → IndexIs old m → IndexIs new n
index_put old new t t' m n g h (Ok x) d on off told i q = ap (λ s. s q) on ∙ ap (cond (g == q) (is_dirty h)) (i q) ∙ sym (dirty_put m g q (Some (headed (m g) h)) (is_dirty h) (dirty_headed (m g) h)) ∙ ap (λ x. dirty_of x q) (sym (d.ok told))
index_put old new t t' m n g h (Err e) d on off told i q = index_same old new m n off (d.err told) i q

-- a record is removed
pub index_removed : {T E : Type 0} (old new : ℕ → Bool) (t t' : Bool) (m n : Records) (g : ℕ) (r : Result T E) → Does t t' m n (without m g) r → OnOk r (new ≡ with_member old g false) → OnErr r (new ≡ old) → t ≡ true → IndexIs old m → IndexIs new n
index_removed old new t t' m n g (Ok x) d on off told i q = ap (λ s. s q) on ∙ ap (cond (g == q) false) (i q) ∙ sym (dirty_put m g q None false refl) ∙ ap (λ x. dirty_of x q) (sym (d.ok told))
index_removed old new t t' m n g (Err e) d on off told i q = index_same old new m n off (d.err told) i q

-- a change that keeps the head
dirty_kept : (o : Option Record) (f : Record → Record) → ((r : Record) → (f r).head ≡ r.head) → is_dirty_record (option_map f o) ≡ is_dirty_record o
dirty_kept None f k = refl
dirty_kept (Some r) f k = ap is_dirty (k r)

pub dirty_changed : (m : Records) (g q : ℕ) (f : Record → Record) → ((r : Record) → (f r).head ≡ r.head) → dirty_of (changed m g f) q ≡ dirty_of m q
dirty_changed m g q f k = elim (q == g) as (λ b. ((q == g) ≡ b) → is_dirty_record (cond b (option_map f (m g)) (m q)) ≡ dirty_of m q) [ true ↦ λ e. dirty_kept (m g) f k ∙ ap (λ x. is_dirty_record (m x)) (sym (here q g e)) | false ↦ λ e. refl ] refl where
  here : (q g : ℕ) → (q == g) ≡ true → q ≡ g
  here q g e = grind (arith, nat_tests)

dirty_work : (config : Config) (q : Request) (m : Records) (g : ℕ) → is_writing q ≡ true → dirty_of (work_of config q m) g ≡ dirty_of m g
dirty_work config (WriteChunks x n first chunks) m g w = dirty_changed m x.0 g _ (λ r. refl)
dirty_work config (SetLength x n keep count) m g w = dirty_changed m x.0 g _ (λ r. refl)
dirty_work config (NameSet x n name child) m g w = dirty_changed m x.0 g _ (λ r. refl)
dirty_work config (NamesPut x n after upto list) m g w = dirty_changed m x.0 g _ (λ r. refl)
dirty_work config q m g w = cc

dirty_broken : (q : Request) (m : Records) (g : ℕ) → dirty_of (broken_of q m) g ≡ dirty_of m g
dirty_broken (WriteChunks x n first chunks) m g = dirty_changed m x.0 g _ (λ r. refl)
dirty_broken q m g = refl

-- a change of content
pub index_written : (config : Config) (q : Request) (old new : ℕ → Bool) (t t' : Bool) (m n : Records) (r : Result Reply StoreFault) → DoesWork config q t t' m n r → is_writing q ≡ true → new ≡ old → t ≡ true → IndexIs old m → IndexIs new n
index_written config q old new t t' m n (Ok x) d w same told i g = ap (λ s. s g) same ∙ i g ∙ sym (dirty_work config q m g w) ∙ ap (λ x. dirty_of x g) (sym (d.ok told))
index_written config q old new t t' m n (Err Failed) d w same told i g = ap (λ s. s g) same ∙ i g ∙ sym (dirty_broken q m g) ∙ sym (same_dirty (broken_of q m) n g (d.failed refl told))
index_written config q old new t t' m n (Err NoMemory) d w same told i g = index_same old new m n same (d.memory refl told) i g
