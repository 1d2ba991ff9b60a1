-- What an entry of a log makes of a flat file, by a relation that openings and makes keep, and those commits that come.
use Rattle.std.proofs.Common.{◌≡◌, ℕ, ◌+◌, Bool, true, false, not, cond, ◌==◌, ◌&&◌, Option, Some, None, List, refl, sym, ◌∙◌, ap, subst}
use Rattle.ec_attr.specs.declared.geometry.Geometry.{Geometry}
use Rattle.ec_attr.specs.declared.attr.Attr.{Attr}
use Rattle.ec_attr.specs.declared.gfid.Gfid.{Gfid}
use Rattle.ec_attr.specs.declared.kind.Kind.{Kind}
use Rattle.ec_conduct.specs.Given.{quorum}
use Rattle.ec_store.specs.Records.{head_at}
use Rattle.ec_history.specs.Changes.{change}
use Rattle.ec_history.specs.Flat.{Flat, committed, made, name_opened, opened}
use Rattle.ec_history.specs.IsRun.{May as MayEnter, MayExecute}
use Rattle.ec_history.specs.Run.{Net, out_of}
use Rattle.ec_history.specs.Story.{Story, done_by, executes, failed_by, found_by, is_at_flat, is_commit, is_done, is_heal, is_unmarked, makes_a_child, op_of, opens, outcome, post_done, request_of, said_by, tears, told, told_executed, told_torn, torn_by, with_flat, with_post}
use Rattle.ec_locks.specs.Table.{holds}
use Rattle.ec_attr.specs.declared.kind.Domain.TheVariants.{Inode}
use Rattle.ec_attr.specs.declared.kind.LockKind.TheVariants.{Exclusive}
use Rattle.ec_wire.specs.declared.entry.Entry.{Entry}
use Rattle.ec_wire.specs.declared.entry.Entry.TheVariants.{Called, Sent, Executed, Torn}
use Rattle.ec_wire.specs.declared.message.Body.{Body}
use Rattle.ec_wire.specs.declared.message.Body.TheVariants.{ToBrick}
use Rattle.ec_wire.specs.declared.message.Message.{Message}
use Rattle.ec_wire.specs.declared.request.Request.{Request}
use Rattle.ec_wire.specs.declared.request.Request.TheVariants.{WriteChunks, SetLength, NameSet, Make, PostOp}
use Rattle.ec_law_turns.proofs.Basics.{equal}

-- openings and makes keep the relation of a flat file as it was to what it is
pub record IsKept (rel : Flat → Flat → Type 0) : Type 0 where
  pub same : (flat : Flat) → rel flat flat
  pub opening : (a : ℕ) (test : ℕ → Bool) (flat : Flat) → rel flat (opened a test flat)
  pub naming : (n : List ℕ) (flat : Flat) → rel flat (name_opened n flat)
  pub making : (kind : Kind) (flat : Flat) → rel flat (made kind flat)

-- Message `number` is a PostOp on the gfid, which a brick does that has the record, without a mark.
pub record Posts (g : ℕ) (m : Net) (version : ℕ) (a : ℕ) : Type 0 where
  pub number : ℕ
  pub message : Message
  pub gfid : Gfid
  pub grant : ℕ
  pub at : ℕ
  pub size : ℕ
  pub attr : Option Attr
  pub said : m.said number ≡ Some message
  pub body : message.body ≡ ToBrick (PostOp gfid grant at version size attr)
  pub on : gfid.0 ≡ g
  pub caller : message.call ≡ a
  pub read : Option ℕ
  pub done : is_done (out_of m message (PostOp gfid grant at version size attr) read false).says ≡ true
  pub unmarked : is_unmarked (head_at (m.brick message.brick).records g) ≡ true

module _ (rel : Flat → Flat → Type 0) (kept : IsKept rel) (g : ℕ) where
  -- the flat file is so as it was
  record Goes (t u : Story) : Type 0 where
    pub goes : rel (t.tree g) (u.tree g)

  same_flat : (t : Story) → Goes t t
  same_flat t = record { goes = kept.same (t.tree g) }

  goes_if : (t : Story) (c : Bool) (u w : Story) → Goes t u → Goes t w → Goes t (cond c u w)
  goes_if t true u w h k = h
  goes_if t false u w h k = k

  -- a change of one flat file
  with_one : (t : Story) (x : ℕ) (f : Flat → Flat) → (x ≡ g → rel (t.tree g) (f (t.tree g))) → Goes t (with_flat t x f)
  with_one t x f h = record { goes = at (g == x) refl }
    where
      at : (c : Bool) → (g == x) ≡ c → rel (t.tree g) (cond c (f (t.tree x)) (t.tree g))
      at true u = subst (λ (y : ℕ). rel (t.tree g) (f (t.tree y))) (equal g x u) (h (sym (equal g x u)))
      at false u = kept.same (t.tree g)

  module _ (geometry : Geometry) (m : Net) (t : Story) (commits : (version a : ℕ) → Posts g m version a → rel (t.tree g) (committed (quorum geometry) a version (change (quorum geometry) (op_of m a) (t.found a) g (t.tree g)) (t.tree g))) where
    module _ (msg : Message) where
      opens_goes : (x : ℕ) (stripes : ℕ → Bool) → Goes t (opens m t msg x stripes)
      opens_goes x stripes = goes_if t (not (is_heal (op_of m msg.call)) && is_at_flat m t msg.brick x) (with_flat t x (opened msg.call stripes)) t (with_one t x (opened msg.call stripes) (λ on. kept.opening msg.call stripes (t.tree g))) (same_flat t)

      posted_goes : (x version : ℕ) → (is_unmarked (head_at (m.brick msg.brick).records x) ≡ true → x ≡ g → Posts g m version msg.call) → Goes t (post_done geometry m t msg.call x msg.brick version)
      posted_goes x version posts = at (is_unmarked (head_at (m.brick msg.brick).records x)) refl
        where
          posting : Story
          posting = with_post t msg.call x msg.brick

          commit : Flat → Flat
          commit flat = committed (quorum geometry) msg.call version (change (quorum geometry) (op_of m msg.call) (t.found msg.call) x flat) flat

          committing : is_unmarked (head_at (m.brick msg.brick).records x) ≡ true → Goes t (with_flat posting x commit)
          committing e = record { goes = (with_one posting x commit (λ on. subst (λ (y : ℕ). rel (t.tree g) (committed (quorum geometry) msg.call version (change (quorum geometry) (op_of m msg.call) (t.found msg.call) y (t.tree g)) (t.tree g))) (sym on) (commits version msg.call (posts e on)))).goes }

          at : (c : Bool) → is_unmarked (head_at (m.brick msg.brick).records x) ≡ c → Goes t (cond c (cond (is_commit geometry t msg.call x msg.brick) (with_flat posting x commit) posting) t)
          at true e = goes_if t (is_commit geometry t msg.call x msg.brick) (with_flat posting x commit) posting (committing e) (record { goes = kept.same (t.tree g) })
          at false e = same_flat t

      done_goes : (i : ℕ) (version : Option ℕ) (q : Request) → m.said i ≡ Some msg → msg.body ≡ ToBrick q → is_done (out_of m msg q version false).says ≡ true → Goes t (done_by geometry m t msg q)
      done_goes i version (WriteChunks x n first chunks) said body done = opens_goes x.0 _
      done_goes i version (SetLength x n keep count) said body done = opens_goes x.0 _
      done_goes i version (NameSet x n name child) said body done = goes_if t (is_at_flat m t msg.brick x.0) (with_flat t x.0 (name_opened name)) t (with_one t x.0 (name_opened name) (λ on. kept.naming name (t.tree g))) (same_flat t)
      done_goes i version (Make x n child) said body done = with_one t child.gfid.0 (made child.kind) (λ on. kept.making child.kind (t.tree g))
      done_goes i version (PostOp x n at to size attr) said body done = posted_goes x.0 to (λ unmarked on. record {
        number = i;
        message = msg;
        gfid = x;
        grant = n;
        at = at;
        size = size;
        attr = attr;
        said = said;
        body = body;
        on = on;
        caller = refl;
        read = version;
        done = done;
        unmarked = subst (λ (y : ℕ). is_unmarked (head_at (m.brick msg.brick).records y) ≡ true) on unmarked;
      })
      done_goes i version q said body done = same_flat t

      failed_goes : (q : Request) (version : Option ℕ) → Goes t (failed_by m t msg q version)
      failed_goes (WriteChunks x n first chunks) (Some version) = opens_goes x.0 _
      failed_goes (WriteChunks x n first chunks) None = same_flat t
      failed_goes q version = same_flat t

      cut_goes : (q : Request) (version : Option ℕ) → Goes t (torn_by m t msg q version)
      cut_goes (WriteChunks x n first chunks) (Some version) = goes_if t (holds (m.brick msg.brick).asks n x Inode Exclusive) _ t (opens_goes x.0 _) (same_flat t)
      cut_goes (WriteChunks x n first chunks) None = same_flat t
      cut_goes q version = same_flat t

    torn_goes : (o : Option Message) (version : Option ℕ) → Goes t (told_torn m t o version)
    torn_goes None version = same_flat t
    torn_goes (Some msg) version = by (request_of msg.body)
      where
        by : (o : Option Request) → Goes t (tears m t msg o version)
        by None = same_flat t
        by (Some q) = cut_goes msg q version

    executed_goes : (i : ℕ) (version : Option ℕ) (failed : Bool) → MayExecute m i version failed → Goes t (told geometry m t (Executed i version failed))
    executed_goes i version failed may = subst (λ (u : Story). Goes t u) (sym is) (by failed)
      where
        msg : Message
        msg = may.message

        is : told geometry m t (Executed i version failed) ≡ outcome geometry m t msg may.request version failed
        is = ap (λ (o : Option Message). told_executed geometry m t o version failed) may.at.said ∙ ap (λ (z : Body). executes geometry m t msg (request_of z) version failed) may.at.body

        by : (failed : Bool) → Goes t (outcome geometry m t msg may.request version failed)
        by true = failed_goes msg may.request version
        by false = answered (is_done (out_of m msg may.request version false).says) refl
          where
            answered : (d : Bool) → is_done (out_of m msg may.request version false).says ≡ d → Goes t (cond d (done_by geometry m t msg may.request) t)
            answered true e = done_goes msg i version may.request may.at.said may.at.body e
            answered false e = same_flat t

    pub entry_goes : (n : ℕ) (e : Entry) → MayEnter n m e → rel (t.tree g) ((told geometry m t e).tree g)
    entry_goes n (Called a client op) may = by (makes_a_child op)
      where
        by : (c : Bool) → rel (t.tree g) ((cond c (record (found_by t a (λ f. record f { took = t.next_gfid })) { next_gfid = t.next_gfid + 1 }) t).tree g)
        by true = kept.same (t.tree g)
        by false = kept.same (t.tree g)
    entry_goes n (Sent msg) may = by msg.body
      where
        by : (z : Body) → rel (t.tree g) ((said_by t msg.call z).tree g)
        by (ToBrick (WriteChunks x n first chunks)) = kept.same (t.tree g)
        by (ToBrick (NameSet x n name (Some child))) = kept.same (t.tree g)
        by z = kept.same (t.tree g)
    entry_goes n (Executed i version failed) may = (executed_goes i version failed may).goes
    entry_goes n (Torn i count version) may = (torn_goes (m.said i) version).goes
    entry_goes n e may = kept.same (t.tree g)
