-- A stripe that is read for a write or a truncate, and how many bricks gave its chunk.
use Rattle.std.proofs.Common.{◌≡◌, ℕ, ◌<◌, ◌≤◌, ◌&&◌, nat_lt, Bool, false, true, refl, sym, ◌∙◌, ap, subst, arith, [], ◌∷◌, Option, Some, None}
use Rattle.std.proofs.Math.Path.{fun_ext}
use Rattle.std.proofs.lemmas.Bool.{and_parts}
use Rattle.ec_answers.specs.declared.grouped.Group.{Group}
use Rattle.ec_attr.specs.Bricks.{count_below, is_in}
use Rattle.ec_conduct.specs.Account.{Account, at}
use Rattle.ec_conduct.specs.Done.{is_query, reply_to}
use Rattle.ec_conduct.specs.Given.{Given, bricks_of, quorum_of}
use Rattle.ec_conduct.specs.Group.{is_good}
use Rattle.ec_conduct.specs.Phases.{is_read_from, is_via, via_of}
use Rattle.ec_conduct.specs.Standing.{head_of, is_held}
use Rattle.ec_txn.specs.ReadPhase.{IsReading, asked_if, chunks_of, has_chunks, is_chosen, is_first, places_of, reading_asks}
use Rattle.ec_txn.specs.Digest.{last_read}
use Rattle.ec_txn.specs.Replies.{last_reply, replied}
use Rattle.ec_txn.specs.Rounds.{Asks, IsIdle, IsRound, subject}
use Rattle.ec_txn.specs.declared.reading.Reading.{Reading}
use Rattle.ec_wire.specs.declared.answer.Answer.TheVariants.{NoQuorum}
use Rattle.ec_wire.specs.declared.phase.Phase.TheVariants.{Read as ReadPhase}
use Rattle.ec_wire.specs.declared.reply.Reply.{Reply}
use Rattle.ec_wire.specs.declared.reply.Reply.TheVariants.{Chunks}
use Rattle.ec_wire.specs.declared.request.Request.{Request}
use Rattle.ec_wire.specs.declared.request.Request.TheVariants.{ReadChunks}
use Rattle.ec_write.specs.Stripes.{count_gave as count_given, has_chunk}
use Rattle.ec_law_causes.specs.Counted.{LacksChunks, gives, is_grouped, number_read}
use Rattle.ec_law_causes.proofs.Along.{NonePast}
use Rattle.ec_law_causes.proofs.Members.{HasMembers, grouped_below}
use Rattle.ec_law_causes.proofs.Ranks.{rank}
use Rattle.ec_law_causes.proofs.Reading.{HereReading, count_gave, gave_at, none_left, reading_members}
use Rattle.ec_law_causes.proofs.Rounds.{replies_same}

chunk_is : (o : Option Reply) → (has_chunks o && has_chunk o) ≡ has_chunk o
chunk_is (Some (Chunks (chunk ∷ chunks))) = refl
chunk_is (Some (Chunks [])) = refl
chunk_is o = refl

and_order : (a b c d : Bool) → ((a && (b && c)) && d) ≡ (a && (b && (c && d)))
and_order true true c d = refl
and_order true false c d = refl
and_order false b c d = refl

and_true : (a : Bool) → (a && true) ≡ a
and_true true = refl
and_true false = refl

module _ (given : Given) (group : Group) (m : ℕ) (reading : Reading) (c : Account) (f : Asks) (d : Account) (cg : c.given ≡ given) (none : NonePast (subject given.op) (bricks_of given) d) (h : HereReading given group m reading c f)
    (l : IsReading (subject given.op) (bricks_of given) reading c f) (r : IsRound (subject given.op) c f d) (idle : IsIdle d) (among : reading.among ≡ group.bricks) (fits : m ≤ 5) (free : (y : ℕ) → is_via (via_of given.op) y ≡ true) (counts : (o : Option Reply) → gives given.op o ≡ has_chunk o) where
  pub lacking_members : HasMembers given group 5 d
  lacking_members = reading_members given group m reading c f d cg h l r idle 5 (omega arith) fits

  among_is : (y : ℕ) → is_in reading.among y ≡ is_grouped given (λ x. (at d (subject given.op) x).window) y
  among_is y = ap (λ (bits : ℕ). is_in bits y) among ∙ sym (lacking_members.group_is.bricks y)

  read_as_counted : (has : Option Reply → Bool) → has None ≡ false → count_below 31 (λ y. is_in reading.among y && has (reply_to (is_read_from reading.first) (at d (subject given.op) y).window)) ≡ count_below (bricks_of given) (λ y. is_grouped given (λ x. (at d (subject given.op) x).window) y && has (reply_to (is_read_from reading.first) (at d (subject given.op) y).window))
  read_as_counted has nothing = count_gave given group m reading c f d cg h l r idle has nothing (λ y less t. sym (among_is y) ∙ t)

  -- so many gave the chunk as the phase counts
  pub given_count : count_given reading (places_of d (subject given.op)) (replied d (subject given.op)) ≡ number_read given (λ x. (at d (subject given.op) x).window) reading.first
  given_count =
      ap (count_below 31) (fun_ext (λ y. and_order (is_in reading.among y) (is_first (last_read (at d (subject given.op) y).window) reading.first) (has_chunks (last_reply (at d (subject given.op) y).window)) (has_chunk (last_reply (at d (subject given.op) y).window))
      ∙ (ap (λ (u : Bool). is_in reading.among y && (is_first (last_read (at d (subject given.op) y).window) reading.first && u)) (chunk_is (last_reply (at d (subject given.op) y).window))
      ∙ ap (λ (u : Bool). is_in reading.among y && u) (gave_at given group m reading c f d cg h l r idle has_chunk refl y))))
      ∙ (read_as_counted has_chunk refl ∙ ap (count_below (bricks_of given)) (fun_ext (λ y. ap (λ (u : Bool). is_grouped given (λ x. (at d (subject given.op) x).window) y && u) (sym (counts (reply_to (is_read_from reading.first) (at d (subject given.op) y).window))))))

  pub lacks : d.given ≡ given → ((y : ℕ) → y < bricks_of given → reading_asks reading d y ≡ None) → count_given reading (places_of d (subject given.op)) (replied d (subject given.op)) < quorum_of given
      → LacksChunks given (λ x. (at d (subject given.op) x).window) reading.first (NoQuorum ReadPhase (count_given reading (places_of d (subject given.op)) (replied d (subject given.op))))
  lacks dg quiet few = record {
    asked = λ wants y less t. none_left given group m reading c f d cg h l r idle (subst (λ (n : ℕ). n < quorum_of given) (sym (read_as_counted has_chunks refl)) wants) held nobody y less (among_is y ∙ (and_parts (is_grouped given (λ x. (at d (subject given.op) x).window) y) (is_via (via_of given.op) y) t).0);
    few = subst (λ (n : ℕ). n < quorum_of given) given_count few;
    answer_is = ap (NoQuorum ReadPhase) given_count;
  }
    where
      held : (y : ℕ) → y < 31 → is_in reading.among y ≡ true → (y < bricks_of given) × (is_held (at d (subject given.op) y).inode ≡ true)
      held y less t = (grouped_below given (λ x. (at d (subject given.op) x).window) y (λ x le. (none x le).1) (sym (among_is y) ∙ t), lacking_members.locked y (sym (lacking_members.group_is.bricks y) ∙ (sym (among_is y) ∙ t)))

      nobody : (y : ℕ) → y < bricks_of given → asked_if (is_chosen (quorum_of given) reading (places_of d (subject given.op)) (replied d (subject given.op)) y && nat_lt y (bricks_of given)) (at d (subject given.op) y).inode (chunks_of (subject given.op) reading) ≡ None
      nobody y less = subst (λ (v : Given). asked_if (is_chosen (quorum_of v) reading (places_of d (subject v.op)) (replied d (subject v.op)) y && nat_lt y (bricks_of v)) (at d (subject v.op) y).inode (chunks_of (subject v.op) reading) ≡ None) dg (quiet y less)

-- What was read stays so, where neither heads nor these chunks are asked for.
pub read_stays : (given : Given) (first : ℕ) (c : Account) (f : Asks) (d : Account) → IsRound (subject given.op) c f d → IsIdle d → ((x : ℕ) (q : Request) → f x ≡ Some q → (is_query q ≡ false) × (is_read_from first q ≡ false))
    → number_read given (λ x. (at d (subject given.op) x).window) first ≡ number_read given (λ x. (at c (subject given.op) x).window) first
read_stays given first c f d r idle other =
    let queries = replies_same (subject given.op) c f d r idle is_query (λ x q e. (other x q e).0) in
    let ps = replies_same (subject given.op) c f d r idle (is_read_from first) (λ x q e. (other x q e).1) in
    λ i. count_below (bricks_of given) (λ x. is_good (bricks_of given) (quorum_of given) (λ y. head_of (queries i y)) x && gives given.op (ps i x))

pub late_read : (first : ℕ) (r : Request) → 5 ≤ rank r → is_read_from first r ≡ false
late_read first (ReadChunks g grant at count) le = absurd (omega arith)
late_read first r le = refl
