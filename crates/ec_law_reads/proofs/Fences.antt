-- What a brick that gave chunks has, and that no write goes under the grant of a heal.
use Rattle.std.proofs.Common.{◌≡◌, ◌⊎◌, ℕ, Bool, true, false, not, cond, ◌==◌, ◌&&◌, ◌||◌, Option, Some, None, List, [], ◌∷◌, ◌++◌, take, refl, sym, ◌∙◌, ap, inl, inr, arith}
use Rattle.std.proofs.lemmas.Bool.Decides.{nat_tests}
use Rattle.std.specs.Option.{option_map}
use Rattle.ec_attr.specs.declared.gfid.Gfid.{Gfid}
use Rattle.ec_attr.specs.declared.kind.Domain.{Domain}
use Rattle.ec_attr.specs.declared.kind.Domain.TheVariants.{Heal, Inode}
use Rattle.ec_attr.specs.declared.kind.Kind.TheVariants.{File}
use Rattle.ec_attr.specs.declared.kind.LockKind.{LockKind}
use Rattle.ec_attr.specs.declared.kind.LockKind.TheVariants.{Exclusive, Shared}
use Rattle.ec_locks.specs.Table.{covers, free, has, holds, is_exclusive, same_domain, some_grant}
use Rattle.ec_locks.specs.declared.ask.Ask.{Ask as Asking}
use Rattle.ec_store.specs.Records.{Record}
use Rattle.ec_attr.specs.GoodGroup.{same_kind}
use Rattle.ec_brick.specs.Replies.{Replies, Says, Is, ShowsChunks, of_record}
use Rattle.ec_brick.specs.Rows.{fence}
use Rattle.ec_brick.specs.State.{State as Brick}
use Rattle.ec_brick.specs.Step.{Before, Failing, Fine, Out, Within, Work, by_row, executed, fenced, head_read, judged, part_work, torn_off, work}
use Rattle.ec_brick.specs.Work.{bytes_of}
use Rattle.ec_brick.specs.declared.row.Check.TheVariants.{Content, OfKind}
use Rattle.ec_brick.specs.declared.row.Need.TheVariants.{Either, Reading}
use Rattle.ec_brick.specs.declared.row.Row.{Row}
use Rattle.ec_history.specs.Story.{is_done}
use Rattle.ec_law_data.specs.Deeds.{is_granted, shows}
use Rattle.ec_law_net.proofs.Guarded.{own_row}
use Rattle.ec_law_net.proofs.Outcomes.{IsDone, IsNot, outcome}
use Rattle.ec_law_net.proofs.Requests.{fence_meets}
use Rattle.ec_law_net.specs.Grants.{AreAsks}
use Rattle.ec_history.specs.Run.{Net}
use Rattle.ec_wire.specs.declared.message.Body.TheVariants.{ToBrick}
use Rattle.ec_wire.specs.declared.message.Message.{Message}
use Rattle.ec_wire.specs.declared.reply.Reply.{Reply}
use Rattle.ec_wire.specs.declared.reply.Reply.TheVariants.{Chunks, Fault, NoGrant, NoInode, OtherKind}
use Rattle.ec_wire.specs.declared.request.Request.{Request}
use Rattle.ec_wire.specs.declared.request.Request.TheVariants.{Ask, ReadChunks, SetLength, WriteChunks}

-- ## Grants

-- a grant is an ask that stands
pub grant_has : (x : Gfid) (d : Domain) (k : LockKind) (n : ℕ) (before asks : List Asking) → some_grant (λ a. covers a n x d k) before asks ≡ true → has asks n ≡ true
grant_has x d k n before [] e = absurd (cc)
grant_has x d k n before (a ∷ rest) e = at (a.number == n) (free before a) (a.gfid.0 == x.0) (same_domain a.domain d) (is_exclusive a.kind || not (is_exclusive k)) e (grant_has x d k n (before ++ a ∷ []) rest)
  where
    at : (t u w o p : Bool) → ((u && (t && w && o && p)) || some_grant (λ a. covers a n x d k) (before ++ a ∷ []) rest) ≡ true → (some_grant (λ a. covers a n x d k) (before ++ a ∷ []) rest ≡ true → has rest n ≡ true) → (t || has rest n) ≡ true
    at true u w o p e later = refl
    at false true w o p e later = later e
    at false false w o p e later = later e

asked_domain : (x y : Gfid) (d e : Domain) (k l : LockKind) → ToBrick (Ask x d k) ≡ ToBrick (Ask y e l) → d ≡ e
asked_domain x y d e k l h = cc

-- an ask for the content is no grant of a heal
pub no_heal_grant : (m : Net) (b n : ℕ) (x y : Gfid) (kind : LockKind) (msg : Message) → m.said n ≡ Some msg → msg.body ≡ ToBrick (Ask y Inode kind) → (before asks : List Asking) → AreAsks m b asks → some_grant (λ a. covers a n x Heal Exclusive) before asks ≡ true → ⊥
no_heal_grant m b n x y kind msg said body before [] are e = cc
no_heal_grant m b n x y kind msg said body before (a ∷ rest) are e = at (free before a) (a.number == n) (a.gfid.0 == x.0) (same_domain a.domain Heal) (is_exclusive a.kind) refl refl e (no_heal_grant m b n x y kind msg said body (before ++ a ∷ []) rest are.1)
  where
    messages : (u w : Message) → Some u ≡ Some w → u ≡ w
    messages u w h = cc

    numbers : (y : ℕ) → (y == n) ≡ true → y ≡ n
    numbers y h = grind (arith, nat_tests)

    other : (a.number == n) ≡ true → same_domain a.domain Heal ≡ true → ⊥
    other number domain =
        let no : a.number ≡ n = numbers a.number number in
        let same = messages are.0.message msg (sym are.0.said ∙ (ap m.said no ∙ said)) in
        let content = asked_domain a.gfid y a.domain Inode a.kind kind (sym are.0.body ∙ (ap (λ (z : Message). z.body) same ∙ body)) in
        let z : same_domain Inode Heal ≡ true = ap (λ (d : Domain). same_domain d Heal) (sym content) ∙ domain in
        cc

    at : (t u w o p : Bool) → (a.number == n) ≡ u → same_domain a.domain Heal ≡ o → ((t && (u && w && o && (p || false))) || some_grant (λ a. covers a n x Heal Exclusive) (before ++ a ∷ []) rest) ≡ true → (some_grant (λ a. covers a n x Heal Exclusive) (before ++ a ∷ []) rest ≡ true → ⊥) → ⊥
    at true true true true true h i e later = other h i
    at true true true true false h i e later = later e
    at true true true false p h i e later = later e
    at true true false o p h i e later = later e
    at true false w o p h i e later = later e
    at false u w o p h i e later = later e

-- ## Writes

-- the request names this grant, and would go under the grant of a heal
abbrev pub GoesHealing : Brick → Request → Type 0
GoesHealing s (WriteChunks x n first chunks) = holds s.asks n x Heal Exclusive ≡ true
GoesHealing s (SetLength x n keep count) = holds s.asks n x Heal Exclusive ≡ true
GoesHealing s q = Unit {0}

other_grant : (t u : Bool) → (t || u) ≡ true → t ≡ false → u ≡ true
other_grant true u e f = absurd (cc)
other_grant false u e f = e

module _ (s : Brick) where
  healing : (x : Gfid) (n : ℕ) → fence s.asks (own_row x n Either (Content File)) ≡ None → holds s.asks n x Inode Exclusive ≡ false → holds s.asks n x Heal Exclusive ≡ true
  healing x n passed e = other_grant (holds s.asks n x Inode Exclusive) (holds s.asks n x Heal Exclusive) (fence_meets s.asks (own_row x n Either (Content File)) passed).0 e

  not_done : (q : Request) (o : Out) → is_done o.says ≡ true → IsNot s o → ⊥
  not_done q o done d = let e = sym d.says ∙ done in cc

  pub done_healing : (client number : ℕ) (q : Request) → is_granted s q ≡ false → is_done (executed s Fine client number q).says ≡ true → GoesHealing s q
  done_healing client number (WriteChunks x n first chunks) e done = by (outcome s (WriteChunks x n first chunks) (own_row x n Either (Content File)) Fine)
    where
      by : IsDone s (WriteChunks x n first chunks) (own_row x n Either (Content File)) (executed s Fine client number (WriteChunks x n first chunks)) ⊎ IsNot s (executed s Fine client number (WriteChunks x n first chunks)) → holds s.asks n x Heal Exclusive ≡ true
      by (inl d) = healing x n d.passed e
      by (inr d) = absurd (not_done (WriteChunks x n first chunks) (executed s Fine client number (WriteChunks x n first chunks)) done d)
  done_healing client number (SetLength x n keep count) e done = by (outcome s (SetLength x n keep count) (own_row x n Either (Content File)) Fine)
    where
      by : IsDone s (SetLength x n keep count) (own_row x n Either (Content File)) (executed s Fine client number (SetLength x n keep count)) ⊎ IsNot s (executed s Fine client number (SetLength x n keep count)) → holds s.asks n x Heal Exclusive ≡ true
      by (inl d) = healing x n d.passed e
      by (inr d) = absurd (not_done (SetLength x n keep count) (executed s Fine client number (SetLength x n keep count)) done d)
  done_healing client number q e done = tt

  -- where a version was read the fence let the request through
  let_through : (f : Failing) (w : Work) (r : Row) (v : ℕ) → (by_row s f w (Some r)).version ≡ Some v → fence s.asks r ≡ None
  let_through f w r v e = at (fence s.asks r) e
    where
      at : (o : Option Reply) → (fenced s f w r o).version ≡ Some v → o ≡ None
      at None e = refl
      at (Some y) e = absurd (cc)

  pub part_healing : (client number v : ℕ) (q : Request) → is_granted s q ≡ false → (executed s Within client number q).version ≡ Some v → GoesHealing s q
  part_healing client number v (WriteChunks x n first chunks) e read = healing x n (let_through Within (work s (WriteChunks x n first chunks)) (own_row x n Either (Content File)) v read) e
  part_healing client number v (SetLength x n keep count) e read = healing x n (let_through Within (work s (SetLength x n keep count)) (own_row x n Either (Content File)) v read) e
  part_healing client number v q e read = tt

  pub torn_healing : (most v : ℕ) (q : Request) → is_granted s q ≡ false → (torn_off s Within q most).version ≡ Some v → GoesHealing s q
  torn_healing most v (WriteChunks x n first chunks) e read = healing x n (let_through Within (part_work s x first (take most (bytes_of chunks))) (own_row x n Either (Content File)) v read) e
  torn_healing most v (SetLength x n keep count) e read = absurd (cc)
  torn_healing most v q e read = tt

  -- ## Reads

  -- chunks were given, and by this as a reply
  abbrev pub Gives : Says → Type 0
  Gives says = (shows says ≡ true) ⊎ ((chunks : List (List ℕ)) × Replies says (Some (Chunks chunks)))

  -- the brick has a grant of this number, and the chunks are those of its record
  pub record IsShown (x : Gfid) (n first count : ℕ) (says : Says) : Type 0 where
    pub granted : holds s.asks n x Inode Shared ≡ true
    pub held : Record
    pub there : s.records x.0 ≡ Some held
    pub says_is : says ≡ ShowsChunks held.piece first count

  refused : (y : Reply) → shows (Is y) ≡ false → ((chunks : List (List ℕ)) → Some (Chunks chunks) ≡ Some y → ⊥) → Gives (Is y) → ⊥
  refused y e other (inl h) = let z = sym e ∙ h in cc
  refused y e other (inr h) = other h.0 h.1

  no_grant : (n : ℕ) → Gives (Is (NoGrant n)) → ⊥
  no_grant n = refused (NoGrant n) refl (λ chunks e. cc)

  no_inode : Gives (Is NoInode) → ⊥
  no_inode = refused NoInode refl (λ chunks e. cc)

  other : Gives (Is OtherKind) → ⊥
  other = refused OtherKind refl (λ chunks e. cc)

  faulty : Gives (Is Fault) → ⊥
  faulty = refused Fault refl (λ chunks e. cc)

  module _ (x : Gfid) (n first count : ℕ) where
    by_kind : holds s.asks n x Inode Shared ≡ true → (held : Record) → s.records x.0 ≡ Some held → (f : Failing) (v : Option ℕ) (t : Bool) → Gives (judged s f (work s (ReadChunks x n first count)) v (cond t None (Some OtherKind))).says → IsShown x n first count (judged s f (work s (ReadChunks x n first count)) v (cond t None (Some OtherKind))).says
    by_kind granted held there Fine v true h = record { granted = granted; held = held; there = there; says_is = ap (λ (o : Option Record). of_record o (λ z. ShowsChunks z.piece first count)) there }
    by_kind granted held there Before v true h = absurd (faulty h)
    by_kind granted held there Within v true h = absurd (faulty h)
    by_kind granted held there f v false h = absurd (other h)

    by_record : holds s.asks n x Inode Shared ≡ true → (o : Option Record) → s.records x.0 ≡ o → (f : Failing) → Gives (head_read s f (work s (ReadChunks x n first count)) (own_row x n Reading (OfKind File)) (option_map (λ z. z.head) o)).says → IsShown x n first count (head_read s f (work s (ReadChunks x n first count)) (own_row x n Reading (OfKind File)) (option_map (λ z. z.head) o)).says
    by_record granted o there Before h = absurd (faulty h)
    by_record granted None there Fine h = absurd (no_inode h)
    by_record granted None there Within h = absurd (no_inode h)
    by_record granted (Some held) there Fine h = by_kind granted held there Fine (Some held.head.version.content) (same_kind held.head.kind File) h
    by_record granted (Some held) there Within h = by_kind granted held there Within (Some held.head.version.content) (same_kind held.head.kind File) h

    by_grant : (f : Failing) (t : Bool) → holds s.asks n x Inode Shared ≡ t → Gives (fenced s f (work s (ReadChunks x n first count)) (own_row x n Reading (OfKind File)) (cond t None (Some (NoGrant n)))).says → IsShown x n first count (fenced s f (work s (ReadChunks x n first count)) (own_row x n Reading (OfKind File)) (cond t None (Some (NoGrant n)))).says
    by_grant f true e h = by_record e (s.records x.0) refl f h
    by_grant f false e h = absurd (no_grant n h)

    pub shown_read : (f : Failing) (client number : ℕ) → Gives (executed s f client number (ReadChunks x n first count)).says → IsShown x n first count (executed s f client number (ReadChunks x n first count)).says
    shown_read f client number h = by_grant f (holds s.asks n x Inode Shared) refl h
