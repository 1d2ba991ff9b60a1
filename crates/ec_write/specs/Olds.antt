-- A stripe that was decoded is the one that was there, and stays so while other stripes are read and written.
use Rattle.std.proofs.Common.{◌≡◌, ◌⊎◌, inl, inr, ⊎_elim, ℕ, ◌+◌, ◌-◌, ◌<◌, ◌≤◌, ◌&&◌, ◌||◌, nat_lt, nat_le, Bool, true, false, cond, refl, sym, ◌∙◌, ap, subst, List, [], ◌∷◌, length, arith, Option, Some, None}
use Rattle.std.specs.List.{Contains}
use Rattle.std.proofs.Math.Path.{fun_ext}
use Rattle.std.proofs.lemmas.Bool.{and_parts, cases_Bool}
use Rattle.std.proofs.lemmas.Bool.Decides.{nat_tests}
use Rattle.ec_answers.specs.declared.grouped.Group.{Group}
use Rattle.ec_answers.proofs.GoodGroups.{counted_below}
use Rattle.ec_attr.specs.Bricks.{count_below, is_in}
use Rattle.ec_attr.specs.declared.head.Head.{Head}
use Rattle.ec_conduct.specs.Account.{Account, Exchange, Place, at, noted}
use Rattle.ec_conduct.specs.Data.{IsOld}
use Rattle.ec_conduct.specs.Done.{chunk_in, chunk_read, did, failed_none, is_change, is_done, is_pre, is_query, or_else, since, tried}
use Rattle.ec_conduct.specs.Given.{Given, bricks_of, quorum_of}
use Rattle.ec_conduct.specs.Group.{is_good}
use Rattle.ec_conduct.specs.Phases.{is_read_from}
use Rattle.ec_conduct.specs.Standing.{heads_at, is_grouped}
use Rattle.ec_field.specs.Code.{IsCode, IsStripe}
use Rattle.ec_wire.specs.declared.reply.Reply.{Reply}
use Rattle.ec_wire.specs.declared.reply.Reply.TheVariants.{Granted, Head as HeadIs, Chunks, Child, Names, Done, NoGrant, NoInode, IsInode, OtherKind, NotAt, Fault, Gfids}
use Rattle.ec_wire.specs.declared.request.Request.{Request}
use Rattle.ec_wire.specs.declared.request.Request.TheVariants.{Ask, Release, Query, PreOp, ReadChunks, WriteChunks, SetLength, PostOp, Clear, NameGet, NamesAfter, NameSet, NamesPut, Make, Made, Unmake, Mark, Unmark, GfidsAfter}
use Rattle.ec_txn.specs.declared.ctx.Ctx.{Ctx}
use Rattle.ec_txn.specs.declared.reading.Reading.{Reading}
use Rattle.ec_txn.specs.Digest.{last_read, read_of}
use Rattle.ec_txn.specs.ReadPhase.{chunks_of, has_chunks, is_first, places_of}
use Rattle.ec_txn.specs.Replies.{last_reply, replied}
use Rattle.ec_txn.specs.Rounds.{Asks, IsIdle, IsRound, subject}
use Rattle.ec_txn.proofs.BallotGoes.{Grows, reply_same}
use Rattle.ec_txn.proofs.BallotSends.{quorum_stays, version_in}
use Rattle.ec_write.specs.During.{IsReadingOne}
use Rattle.ec_write.specs.Stripes.{IsDecoded, first_chunk, gave, has_chunk}
use Rattle.ec_write.specs.Windows.{AsksData, Grown, data_read, group_kept, grown}

-- a window is the same, or has one request more, which isn't for a head and gave nothing of stripe s
abbrev pub Stays : ℕ → List Exchange → List Exchange → Type 0
Stays s old new = (new ≡ old) ⊎ ((e : Exchange) × (is_pre e.request ≡ false) × (is_query e.request ≡ false) × (chunk_in s e.request e.reply ≡ None) × (new ≡ e ∷ old))

or_more : (a b : Bool) → b ≡ true → (a || b) ≡ true
or_more true b e = refl
or_more false b e = e

stays_grows : (s : ℕ) (old new : List Exchange) → Stays s old new → Grows old new
stays_grows s old new (inl e) = inl e
stays_grows s old new (inr (e, p, q, n, is)) = inr (e, q, is)

stays_did : (s : ℕ) (old new : List Exchange) → Stays s old new → did is_pre old ≡ true → did is_pre new ≡ true
stays_did s old new (inl e) t = ap (did is_pre) e ∙ t
stays_did s old new (inr (e, p, q, n, is)) t = ap (did is_pre) is ∙ or_more (is_pre e.request && is_done e.reply) (did is_pre old) t

abbrev or_chunk : Option (List ℕ) → Option (List ℕ) → Option (List ℕ)
or_chunk a b = or_else a b

stays_read : (s : ℕ) (old new : List Exchange) → Stays s old new → chunk_read s (since is_pre new) ≡ chunk_read s (since is_pre old)
stays_read s old new (inl e) = ap (λ (es : List Exchange). chunk_read s (since is_pre es)) e
stays_read s old new (inr (e, p, q, n, is)) =
    ap (λ (es : List Exchange). chunk_read s (since is_pre es)) is
    ∙ (ap (λ (t : Bool). chunk_read s (cond t [] (e ∷ since is_pre old))) p ∙ ap (λ (o : Option (List ℕ)). or_chunk o (chunk_read s (since is_pre old))) n)

pub old_stays : (g s : ℕ) (head : Head) (stripe : List (List ℕ)) (c d : Account) → d.given ≡ c.given → ((x : ℕ) → Stays s (at c g x).window (at d g x).window) → IsOld c g s head stripe → IsOld d g s head stripe
old_stays g s head stripe c d eg stays o =
    let hs : heads_at d g ≡ heads_at c g = fun_ext (λ x. ap Rattle.ec_conduct.specs.Standing.head_of (reply_same (at c g x).window (at d g x).window (stays_grows s (at c g x).window (at d g x).window (stays x)))) in
    record {
      stripe_is = subst (λ (v : Given). IsStripe (quorum_of v) stripe) (sym eg) o.stripe_is;
      known = ⊎_elim
          (λ q. inl (quorum_stays c d
          (λ x. (is_grouped c g x ≡ true) × (did is_pre (at c g x).window ≡ true) × (chunk : List ℕ) × (chunk_read s (since is_pre (at c g x).window) ≡ Some chunk) × IsCode (quorum_of c.given) c.given.geometry.algorithm x stripe chunk)
          (λ x. (is_grouped d g x ≡ true) × (did is_pre (at d g x).window ≡ true) × (chunk : List ℕ) × (chunk_read s (since is_pre (at d g x).window) ≡ Some chunk) × IsCode (quorum_of d.given) d.given.geometry.algorithm x stripe chunk)
          eg
          (λ x p. (
            (λ j. is_good (bricks_of (eg j)) (quorum_of (eg j)) (hs j) x) ∙ p.0,
            stays_did s (at c g x).window (at d g x).window (stays x) p.1,
            p.2,
            stays_read s (at c g x).window (at d g x).window (stays x) ∙ p.3,
            subst (λ (v : Given). IsCode (quorum_of v) v.geometry.algorithm x stripe p.2) (sym eg) p.4,
          ))
          q))
          (λ k. inr (subst (λ (v : Given). Contains v.cache (record { gfid = g; stripe = s; version = head.version.content; chunks = stripe })) (sym eg) k))
          o.known;
    }

-- the first chunk that was asked for

first_read_is : (s : ℕ) (r : Request) → is_first (read_of r) s ≡ is_read_from s r
first_read_is s (ReadChunks g grant first count) = refl
first_read_is s (Ask g domain kind) = refl
first_read_is s (Release g grant) = refl
first_read_is s (Query g grant) = refl
first_read_is s (PreOp g grant version dirty) = refl
first_read_is s (WriteChunks g grant first chunks) = refl
first_read_is s (SetLength g grant keep len) = refl
first_read_is s (PostOp g grant old new size attr) = refl
first_read_is s (Clear g grant version) = refl
first_read_is s (NameGet g grant name) = refl
first_read_is s (NamesAfter g grant after) = refl
first_read_is s (NameSet g grant name child) = refl
first_read_is s (NamesPut g grant after upto list) = refl
first_read_is s (Make g grant child) = refl
first_read_is s (Made g grant child) = refl
first_read_is s (Unmake g grant child) = refl
first_read_is s (Mark g grant heal head) = refl
first_read_is s (Unmark g grant version dirty) = refl
first_read_is s (GfidsAfter after dirty) = refl

or_one : (a b : Bool) → a ≡ true → (a || b) ≡ true
or_one true b e = refl
or_one false b e = absurd (cc)

last_tried : (s : ℕ) (es : List Exchange) → is_first (last_read es) s ≡ true → tried (is_read_from s) es ≡ true
last_tried s [] e = absurd (cc)
last_tried s (x ∷ es) e = or_one (is_read_from s x.request) (tried (is_read_from s) es) (sym (first_read_is s x.request) ∙ e)

-- the chunk of a stripe that was read

item_first : (s : ℕ) (chunk : List ℕ) (chunks : List (List ℕ)) → Rattle.ec_conduct.specs.Done.item_at s (chunk ∷ chunks) s ≡ Some chunk
item_first s chunk chunks =
    let a : nat_le s s ≡ true = grind (arith, nat_tests) in
    let b : nat_lt s (s + length (chunk ∷ chunks)) ≡ true = grind (arith, nat_tests) in
    let z : s - s ≡ 0 = omega arith in
    rw (a, b, z) refl

some_same : {A : Type 0} (a b : A) → Some a ≡ Some b → a ≡ b
some_same a b e = cc

read_gives : (g grant s count : ℕ) (o : Option Reply) (chunk : List ℕ) → first_chunk o ≡ Some chunk → chunk_in s (ReadChunks (record { 0 = g }) grant s count) o ≡ Some chunk
read_gives g grant s count None chunk e = absurd (cc)
read_gives g grant s count (Some (Chunks [])) chunk e = absurd (cc)
read_gives g grant s count (Some (Chunks (x ∷ xs))) chunk e = item_first s x xs ∙ e
read_gives g grant s count (Some Granted) chunk e = absurd (cc)
read_gives g grant s count (Some (HeadIs h)) chunk e = absurd (cc)
read_gives g grant s count (Some (Child h)) chunk e = absurd (cc)
read_gives g grant s count (Some (Names h)) chunk e = absurd (cc)
read_gives g grant s count (Some Done) chunk e = absurd (cc)
read_gives g grant s count (Some (NoGrant h)) chunk e = absurd (cc)
read_gives g grant s count (Some NoInode) chunk e = absurd (cc)
read_gives g grant s count (Some IsInode) chunk e = absurd (cc)
read_gives g grant s count (Some OtherKind) chunk e = absurd (cc)
read_gives g grant s count (Some (NotAt h)) chunk e = absurd (cc)
read_gives g grant s count (Some Fault) chunk e = absurd (cc)
read_gives g grant s count (Some (Gfids h)) chunk e = absurd (cc)

-- a read of a later stripe gives nothing of this one
item_before : (s t : ℕ) (chunks : List (List ℕ)) → s < t → Rattle.ec_conduct.specs.Done.item_at t chunks s ≡ None
item_before s t chunks l = let a : nat_le t s ≡ false = grind (arith, nat_tests) in rw a refl

pub read_other : (g grant s t count : ℕ) (o : Option Reply) → s < t → chunk_in s (ReadChunks (record { 0 = g }) grant t count) o ≡ None
read_other g grant s t count None l = refl
read_other g grant s t count (Some (Chunks chunks)) l = item_before s t chunks l
read_other g grant s t count (Some Granted) l = refl
read_other g grant s t count (Some (HeadIs h)) l = refl
read_other g grant s t count (Some (Child h)) l = refl
read_other g grant s t count (Some (Names h)) l = refl
read_other g grant s t count (Some Done) l = refl
read_other g grant s t count (Some (NoGrant h)) l = refl
read_other g grant s t count (Some NoInode) l = refl
read_other g grant s t count (Some IsInode) l = refl
read_other g grant s t count (Some OtherKind) l = refl
read_other g grant s t count (Some (NotAt h)) l = refl
read_other g grant s t count (Some Fault) l = refl
read_other g grant s t count (Some (Gfids h)) l = refl

module _ (x : Ctx) (v : Given) (group : Group) (reading : Reading) (c : Account) (f : Asks) (d : Account) (l : IsReadingOne x v c group reading f) (cg : c.given ≡ v) (r : IsRound (subject v.op) c f d) (idle : IsIdle d) where
  g : ℕ
  g = subject v.op

  pub asks_data : AsksData (subject v.op) c f
  asks_data y q e = (let w = l.asks.asks y q e in subst Rattle.ec_write.specs.Windows.IsData (sym w.4) (data_read (subject v.op) w.1.number reading.first reading.count), (l.serves y q e).1, (l.serves y q e).2)

  -- what a brick that gave its chunk did in the round
  pub record Given_it (y : ℕ) (chunk : List ℕ) : Type 0 where
    pub member : is_in group.bricks y ≡ true
    pub below : y < bricks_of v
    pub did_pre : did is_pre (at d (subject v.op) y).window ≡ true
    pub chunk_is : chunk_read reading.first (since is_pre (at d (subject v.op) y).window) ≡ Some chunk

  among_is : (y : ℕ) → is_in reading.among y ≡ is_in group.bricks y
  among_is y = ap (λ (z : Reading). is_in z.among y) l.reading_is

  gave_parts : (y : ℕ) → gave reading (places_of d (subject v.op)) (replied d (subject v.op)) y ≡ true
      → (is_in group.bricks y ≡ true) × (is_first (last_read (at d (subject v.op) y).window) reading.first ≡ true)
  gave_parts y t =
      let first : Bool = is_first (last_read (at d (subject v.op) y).window) reading.first in
      let reply : Option Reply = replied d (subject v.op) y in
      let a = and_parts (is_in reading.among y && (first && has_chunks reply)) (has_chunk reply) t in
      let b = and_parts (is_in reading.among y) (first && has_chunks reply) a.0 in
      (sym (among_is y) ∙ b.0, (and_parts first (has_chunks reply) b.1).0)

  given_it : (y : ℕ) (chunk : List ℕ) → gave reading (places_of d (subject v.op)) (replied d (subject v.op)) y ≡ true → first_chunk (replied d (subject v.op) y) ≡ Some chunk → Given_it y chunk
  given_it y chunk t e = go (f y) refl (grown (subject v.op) c f d r idle y)
    where
      parts : (is_in group.bricks y ≡ true) × (is_first (last_read (at d (subject v.op) y).window) reading.first ≡ true)
      parts = gave_parts y t

      go : (o : Option Request) → f y ≡ o → Grown o (at c (subject v.op) y) (at d (subject v.op) y) → Given_it y chunk
      go o same (inl (n, is)) =
          let first : is_first (last_read (at c (subject v.op) y).window) reading.first ≡ true = ap (λ (p : Place). is_first (last_read p.window) reading.first) (sym is) ∙ parts.1 in
          let u = last_tried reading.first (at c (subject v.op) y).window first in
          let w = l.unread y reading.first (omega arith) in
          absurd (cc)
      go o same (inr (x, asked, is)) =
          let k = l.asks.asks y x.request (same ∙ asked) in
          let s = l.serves y x.request (same ∙ asked) in
          let asked_for = asks_data y x.request (same ∙ asked) in
          let here : at d (subject v.op) y ≡ noted (at c (subject v.op) y) x = is ∙ ap (λ (p : Place). noted p x) (asked_for.0.locks (at c (subject v.op) y) x.number) in
          let win : (at d (subject v.op) y).window ≡ x ∷ (at c (subject v.op) y).window = ap (λ (p : Place). p.window) here in
          let ready = l.between.readied y s.1 group.head.version.content k.0 s.2 (version_in group y parts.0) in
          let old : List Exchange = (at c (subject v.op) y).window in
          let did_old = (and_parts (did is_pre old) (failed_none is_change (since is_pre old)) ready.done).0 in
          let chunk_there : first_chunk x.reply ≡ Some chunk = ap (λ (es : List Exchange). first_chunk (last_reply es)) (sym win) ∙ e in
          let request : x.request ≡ chunks_of (subject v.op) reading k.1.number = k.4 in
          let gives : chunk_in reading.first x.request x.reply ≡ Some chunk = ap (λ (q : Request). chunk_in reading.first q x.reply) request ∙ read_gives (subject v.op) k.1.number reading.first reading.count x.reply chunk chunk_there in
          record {
            member = parts.0;
            below = k.0;
            did_pre = ap (did is_pre) win ∙ or_more (is_pre x.request && is_done x.reply) (did is_pre old) did_old;
            chunk_is = ap (λ (es : List Exchange). chunk_read reading.first (since is_pre es)) win
                ∙ (ap (λ (t : Bool). chunk_read reading.first (cond t [] (x ∷ since is_pre old))) asked_for.0.pre ∙ ap (λ (o : Option (List ℕ)). or_chunk o (chunk_read reading.first (since is_pre old))) gives);
          }

  pub decoded_old : (stripe : List (List ℕ)) → IsDecoded v.geometry reading (places_of d (subject v.op)) (replied d (subject v.op)) stripe → IsOld d (subject v.op) reading.first group.head stripe
  decoded_old stripe k =
      let dg : d.given ≡ v = r.given ∙ cg in
      let kept = group_kept (subject v.op) c f d r idle asks_data group l.between.group_is in
      record {
        stripe_is = subst (λ (z : Given). IsStripe (quorum_of z) stripe) (sym dg) k.stripe_is;
        known = inl (record {
          which = k.which;
          enough = subst (λ (z : Given). quorum_of z ≤ count_below (bricks_of z) k.which) (sym dg) (counted_below (bricks_of v) (quorum_of v) k.which none_past k.enough);
          each = λ y less t.
              (let w = k.each y t in
              let u = given_it y w.1 w.0 w.2 in
              (kept.bricks y ∙ u.member, u.did_pre, w.1, u.chunk_is, subst (λ (z : Given). IsCode (quorum_of z) z.geometry.algorithm y stripe w.1) (sym dg) w.3));
        });
      }
    where
      none_past : (y : ℕ) → bricks_of v ≤ y → k.which y ≡ false
      none_past y past = elim (cases_Bool (k.which y)) [
        | inl t ↦ absurd (let w = k.each y t in let u = (given_it y w.1 w.0 w.2).below in omega arith)
        | inr t ↦ t
      ]
