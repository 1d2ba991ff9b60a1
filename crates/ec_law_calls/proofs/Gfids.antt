-- Where the gfids of children begin is told by the next one and by how many the calls of the log take.
use Rattle.std.proofs.Common.{◌≡◌, ℕ, ◌+◌, Bool, true, false, cond, refl, sym, ◌∙◌, ap, subst, arith, List, [], ◌∷◌, ◌++◌}
use Rattle.ec_attr.specs.declared.geometry.Geometry.{Geometry}
use Rattle.ec_brick.specs.State.{State as Brick}
use Rattle.ec_calls.specs.declared.any.AnyCall.{AnyCall}
use Rattle.ec_clients.specs.Beginning.{beginning}
use Rattle.ec_clients.specs.Come.{Come, come, come_after}
use Rattle.ec_clients.specs.Ledger.{Ledger}
use Rattle.ec_clients.specs.Owned.{Sees}
use Rattle.ec_clients.specs.declared.clients.Clients.{Clients}
use Rattle.ec_clients.proofs.Frames.{brick_entry, said_same}
use Rattle.ec_clients.proofs.Goings.{come_append}
use Rattle.ec_cluster.specs.Views.{log_of}
use Rattle.ec_cluster.specs.declared.cluster.Cluster.{Cluster}
use Rattle.ec_conduct.specs.Given.{Given}
use Rattle.ec_conduct.specs.Own.{Own}
use Rattle.ec_history.specs.Flat.{Tree}
use Rattle.ec_history.specs.Story.{Story, began, makes_a_child, said_by}
use Rattle.ec_txn.specs.declared.ctx.Ctx.{Ctx}
use Rattle.ec_wire.specs.declared.entry.Entry.{Entry}
use Rattle.ec_wire.specs.declared.entry.Entry.TheVariants.{Called, Sent, Executed, Torn}
use Rattle.ec_wire.specs.declared.message.Body.{Body}
use Rattle.ec_wire.specs.declared.message.Body.TheVariants.{ToBrick, ToClient}
use Rattle.ec_wire.specs.declared.op.Op.{Op}
use Rattle.ec_law_calls.specs.World.{taken, taken_by}

none_taken : (m n : ℕ) → m ≡ n → m ≡ n + 0
none_taken m n e = omega (arith, e)

began_next : (t : Story) (a : ℕ) (op : Op) → (began t a op).next_gfid ≡ t.next_gfid + cond (makes_a_child op) 1 0
began_next t a op = at (makes_a_child op)
  where
    at : (u : Bool) → (cond u (record (Rattle.ec_history.specs.Story.found_by t a (λ f. record f { took = t.next_gfid })) { next_gfid = t.next_gfid + 1 }) t).next_gfid ≡ t.next_gfid + cond u 1 0
    at true = refl
    at false = none_taken t.next_gfid t.next_gfid refl

module _ (g : Geometry) (p : Come) where
  said_next : (a : ℕ) (z : Body) → (said_by p.story a z).next_gfid ≡ p.story.next_gfid
  said_next a (ToBrick q) = said_same g p.net p.story a q
  said_next a (ToClient re reply) = refl

  next_after : (e : Entry) → (come_after g p e).story.next_gfid ≡ p.story.next_gfid + taken_by e
  next_after (Called a client op) = began_next p.story a op
  next_after (Sent msg) = none_taken (said_by p.story msg.call msg.body).next_gfid p.story.next_gfid (said_next msg.call msg.body)
  next_after (Executed i version failed) = none_taken _ p.story.next_gfid (ap (λ (l : Ledger). l.next_gfid) (brick_entry g p (Executed i version failed) refl))
  next_after (Torn i bytes version) = none_taken _ p.story.next_gfid (ap (λ (l : Ledger). l.next_gfid) (brick_entry g p (Torn i bytes version) refl))
  next_after e = none_taken p.story.next_gfid p.story.next_gfid refl

next_then : (g : Geometry) (es : List Entry) (p : Come) → (come g es p).story.next_gfid ≡ p.story.next_gfid + taken es
next_then g [] p = none_taken p.story.next_gfid p.story.next_gfid refl
next_then g (e ∷ es) p = let first = next_after g p e in let rest = next_then g es (come_after g p e) in omega (arith, first, rest)

pub first_gfid : (stands : Ctx → Given → AnyCall → List Own → Type 0) (by_table : Ctx → Given → List Own → Type 0) (geometry : Geometry) (bricks : ℕ → Brick) (tree : Tree) (next : ℕ) (s : Cluster) (c : Clients AnyCall)
    → Sees stands by_table s c (come geometry (log_of s) (beginning bricks tree next)) → next + taken (log_of s) ≡ c.next_gfid
first_gfid stands by_table geometry bricks tree next s c h = sym (next_then geometry (log_of s) (beginning bricks tree next)) ∙ h.seen.clients.gfid

cancel : (first next n m z y : ℕ) → first + n ≡ z → first + m ≡ y → next + n ≡ z → next + m ≡ y
cancel first next n m z y a b e = omega (arith, a, b, e)

pub goes_on : (stands : Ctx → Given → AnyCall → List Own → Type 0) (by_table : Ctx → Given → List Own → Type 0) (bricks : ℕ → Brick) (tree : Tree) (first next : ℕ) (s t : Cluster) (c d : Clients AnyCall) (entries : List Entry)
    → Sees stands by_table s c (come c.options.geometry (log_of s) (beginning bricks tree first))
    → ((p : Come) → Sees stands by_table s c p → Sees stands by_table t d (come c.options.geometry entries p))
    → log_of t ≡ log_of s ++ entries
    → next + taken (log_of s) ≡ c.next_gfid → next + taken (log_of t) ≡ d.next_gfid
goes_on stands by_table bricks tree first next s t c d entries h leads log e =
    let g = c.options.geometry in
    let b = beginning bricks tree first in
    let after : come g entries (come g (log_of s) b) ≡ come g (log_of t) b = sym (come_append g (log_of s) entries b) ∙ ap (λ (es : List Entry). come g es b) (sym log) in
    let k : Sees stands by_table t d (come g (log_of t) b) = subst (λ (p : Come). Sees stands by_table t d p) after (leads (come g (log_of s) b) h) in
    cancel first next (taken (log_of s)) (taken (log_of t)) c.next_gfid d.next_gfid (first_gfid stands by_table g bricks tree first s c h) (first_gfid stands by_table g bricks tree first t d k) e
