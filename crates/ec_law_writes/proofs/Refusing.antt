-- A brick that replies to a change refuses it, or has done it, and then under the grant of the content.
use Rattle.std.proofs.Common.{◌≡◌, ◌⊎◌, ℕ, Bool, true, false, cond, ◌||◌, Option, Some, None, [], refl, sym, ◌∙◌, ap, subst, inl, inr}
use Rattle.ec_attr.specs.GoodGroup.{same_kind}
use Rattle.ec_attr.specs.Marks.{is_marked}
use Rattle.ec_attr.specs.declared.gfid.Gfid.{Gfid}
use Rattle.ec_attr.specs.declared.head.Head.{Head}
use Rattle.ec_attr.specs.declared.kind.Domain.{Domain}
use Rattle.ec_attr.specs.declared.kind.Domain.TheVariants.{Inode, Heal}
use Rattle.ec_attr.specs.declared.kind.Kind.{Kind}
use Rattle.ec_attr.specs.declared.kind.Kind.TheVariants.{File, Dir}
use Rattle.ec_attr.specs.declared.kind.LockKind.{LockKind}
use Rattle.ec_attr.specs.declared.kind.LockKind.TheVariants.{Exclusive}
use Rattle.ec_locks.specs.Table.{holds, same_domain}
use Rattle.ec_store.specs.Records.{head_at}
use Rattle.ec_wire.specs.declared.message.Message.{Message}
use Rattle.ec_wire.specs.declared.reply.Reply.{Reply}
use Rattle.ec_wire.specs.declared.reply.Reply.TheVariants.{Done, Fault, NoGrant}
use Rattle.ec_wire.specs.declared.request.Request.{Request}
use Rattle.ec_wire.specs.declared.request.Request.TheVariants.{Ask, WriteChunks, SetLength, NameSet}
use Rattle.ec_brick.specs.Replies.{Says, Is, Replies, own_of}
use Rattle.ec_brick.specs.Rows.{fence, heal_fence, is_writers, meets, other_kind, refusal}
use Rattle.ec_brick.specs.State.{State as Brick}
use Rattle.ec_brick.specs.Step.{Failing, Fine, Before, Within, executed, fenced, head_read, judged, refusal_of, version_of, work}
use Rattle.ec_brick.specs.declared.row.Check.TheVariants.{OfKind, Content}
use Rattle.ec_brick.specs.declared.row.Need.TheVariants.{Writing, Either}
use Rattle.ec_brick.specs.declared.row.Row.{Row}
use Rattle.ec_conduct.specs.Done.{is_done as is_reply_done}
use Rattle.ec_history.specs.Run.{Net}
use Rattle.ec_history.specs.Story.{is_done}
use Rattle.ec_law_net.specs.Grants.{AreAsks}
use Rattle.ec_law_net.proofs.Guarded.{own_row}
use Rattle.ec_law_net.proofs.Locks.{held}
use Rattle.ec_law_net.proofs.Outcomes.{IsDone, IsNot, outcome}
use Rattle.ec_law_net.proofs.Requests.{fence_meets}
use Rattle.ec_law_net.proofs.Tables.{asked}
use Rattle.ec_law_turns.specs.Sound.{AreSound, IsSound}
use Rattle.ec_law_turns.proofs.Says.{IsRefused}
use Rattle.ec_law_data.specs.Deeds.{is_granted}
use Rattle.ec_law_writes.specs.Guarding.{changes_on}

-- ## Refused or done

abbrev Refuses : Option Reply → Type 0
Refuses None = Unit {0}
Refuses (Some y) = is_reply_done (Some y) ≡ false

if_refuses : (t : Bool) (o p : Option Reply) → Refuses o → Refuses p → Refuses (cond t o p)
if_refuses true o p h i = h
if_refuses false o p h i = i

kind_refuses : (k : Kind) (h : Head) → Refuses (other_kind k h)
kind_refuses k h = if_refuses (same_kind h.kind k) None _ tt refl

content_refuses : (k : Kind) (n : ℕ) (w u : Bool) (o : Option Head) → Refuses (refusal (Content k) n w u o)
content_refuses k n w u None = refl
content_refuses k n w u (Some h) = if_refuses (w || is_marked h.version.content) (other_kind k h) (Some (NoGrant n)) (kind_refuses k h) refl

name_refuses : (k : Kind) (n : ℕ) (w u : Bool) (o : Option Head) → Refuses (refusal (OfKind k) n w u o)
name_refuses k n w u None = refl
name_refuses k n w u (Some h) = kind_refuses k h

module _ (s : Brick) (q : Request) (r : Row) (fences : Refuses (fence s.asks r)) (refuses : Refuses (refusal_of s r (head_at s.records r.subject.0))) where
  judges : (f : Failing) (v : Option ℕ) (o : Option Reply) → Refuses o → ((judged s f (work s q) v o).says ≡ own_of q s.records) ⊎ IsRefused (judged s f (work s q) v o).says
  judges Fine v None d = inl refl
  judges Before v None d = inr (Fault, refl, refl)
  judges Within v None d = inr (Fault, refl, refl)
  judges f v (Some y) d = inr (y, refl, d)

  reads : (f : Failing) → ((head_read s f (work s q) r (head_at s.records r.subject.0)).says ≡ own_of q s.records) ⊎ IsRefused (head_read s f (work s q) r (head_at s.records r.subject.0)).says
  reads Fine = judges Fine (version_of (head_at s.records r.subject.0)) (refusal_of s r (head_at s.records r.subject.0)) refuses
  reads Before = inr (Fault, refl, refl)
  reads Within = judges Within (version_of (head_at s.records r.subject.0)) (refusal_of s r (head_at s.records r.subject.0)) refuses

  says : (f : Failing) → ((fenced s f (work s q) r (fence s.asks r)).says ≡ own_of q s.records) ⊎ IsRefused (fenced s f (work s q) r (fence s.asks r)).says
  says f = go (fence s.asks r) fences
    where
      go : (o : Option Reply) → Refuses o → ((fenced s f (work s q) r o).says ≡ own_of q s.records) ⊎ IsRefused (fenced s f (work s q) r o).says
      go None d = reads f
      go (Some y) d = inr (y, refl, d)

some_is : (x y : Reply) → Some x ≡ Some y → x ≡ y
some_is x y e = cc

-- what was refused is no reply that the request was done
refused_not : (says : Says) → IsRefused says → (reply : Reply) → Replies says (Some reply) → is_reply_done (Some reply) ≡ true → ⊥
refused_not says o reply h so = let e = some_is reply o.0 (subst (λ (z : Says). Replies z (Some reply)) o.1 h) in let z = sym so ∙ (ap (λ (y : Reply). is_reply_done (Some y)) e ∙ o.2) in cc

module _ (g : ℕ) (s : Brick) (f : Failing) (client number : ℕ) where
  fence_refuses : (r : Row) → Refuses (fence s.asks r)
  fence_refuses r = if_refuses (meets r.need s.asks r.grant r.gfid) (heal_fence s.asks r.gfid r.heal) (Some (NoGrant r.grant)) (heals r.heal) refl
    where
      heals : (o : Option ℕ) → Refuses (heal_fence s.asks r.gfid o)
      heals None = tt
      heals (Some n) = if_refuses (holds s.asks n r.gfid Heal Exclusive) None (Some (NoGrant n)) tt refl

  by : (says : Says) → (says ≡ Is Done) ⊎ IsRefused says → (reply : Reply) → Replies says (Some reply) → is_reply_done (Some reply) ≡ true → is_done says ≡ true
  by says (inl e) reply h so = ap is_done e
  by says (inr o) reply h so = absurd (refused_not says o reply h so)

  -- a change that is replied Done was done
  pub was_done : (q : Request) → changes_on g q ≡ true → (reply : Reply) → Replies (executed s f client number q).says (Some reply) → is_reply_done (Some reply) ≡ true → is_done (executed s f client number q).says ≡ true
  was_done (WriteChunks x n first chunks) on = let r = own_row x n Either (Content File) in by (executed s f client number (WriteChunks x n first chunks)).says (says s (WriteChunks x n first chunks) r (fence_refuses r) (content_refuses File n (is_writers Either s.asks n x) (s.removed x.0) (head_at s.records x.0)) f)
  was_done (SetLength x n keep count) on = let r = own_row x n Either (Content File) in by (executed s f client number (SetLength x n keep count)).says (says s (SetLength x n keep count) r (fence_refuses r) (content_refuses File n (is_writers Either s.asks n x) (s.removed x.0) (head_at s.records x.0)) f)
  was_done (NameSet x n name child) on = let r = own_row x n Writing (OfKind Dir) in by (executed s f client number (NameSet x n name child)).says (says s (NameSet x n name child) r (fence_refuses r) (name_refuses Dir n (is_writers Writing s.asks n x) (s.removed x.0) (head_at s.records x.0)) f)
  was_done q on = absurd (cc)

-- ## The grant

no_heal_ask : (g : ℕ) (said : ℕ → Option Message) (of : ℕ → ℕ) (moment : ℕ → Bool) (a b i : ℕ) (x : Gfid) (d : Domain) (kind : LockKind) → same_domain d Heal ≡ true → IsSound g said of moment a b i (Ask x d kind) → ⊥
no_heal_ask g said of moment a b i x Heal kind h s = s
no_heal_ask g said of moment a b i x Inode kind h s = cc

module _ (g : ℕ) (m : Net) (of : ℕ → ℕ) (moment : ℕ → Bool) (sound : AreSound g m.said of moment) (b : ℕ) (are : AreAsks m b (m.brick b).asks) where
  no_heal : (x : Gfid) (n : ℕ) → holds (m.brick b).asks n x Heal Exclusive ≡ true → ⊥
  no_heal x n h =
      let o = asked m b x.0 Heal [] (m.brick b).asks n are (held x Heal (m.brick b).asks n h) in
      no_heal_ask g m.said of moment o.1.message.call o.1.message.brick o.0.number o.0.gfid o.0.domain o.0.kind o.4 (sound o.0.number o.1.message (Ask o.0.gfid o.0.domain o.0.kind) o.1.said o.1.body)

  or_left : (t u : Bool) → (t || u) ≡ true → (u ≡ true → ⊥) → t ≡ true
  or_left true u e ne = refl
  or_left false u e ne = absurd (ne e)

  -- a change that is done goes under the grant of the content
  pub done_granted : (f : Failing) (client number : ℕ) (q : Request) → changes_on g q ≡ true → is_done (executed (m.brick b) f client number q).says ≡ true → is_granted (m.brick b) q ≡ true
  done_granted f client number (WriteChunks x n first chunks) on done = at (outcome (m.brick b) (WriteChunks x n first chunks) (own_row x n Either (Content File)) f)
    where
      at : IsDone (m.brick b) (WriteChunks x n first chunks) (own_row x n Either (Content File)) (executed (m.brick b) f client number (WriteChunks x n first chunks)) ⊎ IsNot (m.brick b) (executed (m.brick b) f client number (WriteChunks x n first chunks)) → is_granted (m.brick b) (WriteChunks x n first chunks) ≡ true
      at (inl d) = or_left (holds (m.brick b).asks n x Inode Exclusive) (holds (m.brick b).asks n x Heal Exclusive) (fence_meets (m.brick b).asks (own_row x n Either (Content File)) d.passed).0 (no_heal x n)
      at (inr d) = absurd (let z = sym done ∙ d.says in cc)
  done_granted f client number (SetLength x n keep count) on done = at (outcome (m.brick b) (SetLength x n keep count) (own_row x n Either (Content File)) f)
    where
      at : IsDone (m.brick b) (SetLength x n keep count) (own_row x n Either (Content File)) (executed (m.brick b) f client number (SetLength x n keep count)) ⊎ IsNot (m.brick b) (executed (m.brick b) f client number (SetLength x n keep count)) → is_granted (m.brick b) (SetLength x n keep count) ≡ true
      at (inl d) = or_left (holds (m.brick b).asks n x Inode Exclusive) (holds (m.brick b).asks n x Heal Exclusive) (fence_meets (m.brick b).asks (own_row x n Either (Content File)) d.passed).0 (no_heal x n)
      at (inr d) = absurd (let z = sym done ∙ d.says in cc)
  done_granted f client number (NameSet x n name child) on done = refl
  done_granted f client number q on done = absurd (cc)
