-- Every log: its acts are a run of the machine of versions, which stands with the bricks after it; and so the laws of versions.
use Rattle.std.proofs.Common.{◌≡◌, ℕ, ◌<◌, true, cond, ◌==◌, Option, Some, None, List, [], ◌∷◌, refl, sym, ◌∙◌, subst}
use Rattle.std.specs.Option.{option_map}
use Rattle.ec_law_net.specs.Turns.{View}
use Rattle.ec_attr.specs.declared.kind.Domain.TheVariants.{Inode}
use Rattle.ec_locks.specs.declared.ask.Ask.{Ask as Asking}
use Rattle.ec_wire.specs.declared.entry.Entry.{Entry}
use Rattle.ec_wire.specs.declared.entry.Entry.TheVariants.{Called, Sent, Executed, Heard, Lost, GivenUp, Stopped, Returned, Cut, Died, Yielded, Torn, Answered, Replaced}
use Rattle.ec_wire.specs.declared.message.Body.{Body}
use Rattle.ec_wire.specs.declared.message.Body.TheVariants.{ToBrick, ToClient}
use Rattle.ec_wire.specs.declared.message.Message.{Message}
use Rattle.ec_wire.specs.declared.op.Op.{Op}
use Rattle.ec_wire.specs.declared.op.Op.TheVariants.{Create, Mkdir}
use Rattle.ec_conduct.specs.Done.{or_else}
use Rattle.ec_history.specs.IsRun.{May as MayEnter}
use Rattle.ec_history.specs.Run.{Net, after as net_after, heard, heard_by}
use Rattle.ec_law_net.specs.Turns.{Maker, acts, all_acts, exclusive, has_directory, made_by, noted, seen_after}
use Rattle.ec_law_net.specs.Link.{EntryReady, Linked}
use Rattle.ec_law_net.specs.Laws.{ActsLeadOn, ActsMayCome}
use Rattle.ec_law_net.proofs.Changed.{after_both, runs_both}
use Rattle.ec_law_net.proofs.Entries.{Goes, on_cut, on_executed, on_quiet, on_replaced, on_returned, on_sent, on_stopped, on_torn}

-- a create or mkdir may make the gfid's maker known, and nothing else changes
record MakerKnown (v w : View) : Type 0 where
  core : w.core ≡ v.core
  of : w.of ≡ v.of
  maker : (said : ℕ → Option Message) (asks : List Asking) → has_directory said v.maker asks ≡ true → has_directory said w.maker asks ≡ true

unknown : (v w : View) → w.core ≡ v.core → w.of ≡ v.of → w.maker ≡ v.maker → MakerKnown v w
unknown v w c o e = record { core = c; of = o; maker = λ said asks h. subst (λ (z : Option Maker). has_directory said z asks ≡ true) (sym e) h }

known : (said : ℕ → Option Message) (o p : Option Maker) (asks : List Asking) → has_directory said o asks ≡ true → has_directory said (or_else o p) asks ≡ true
known said None p asks h = absurd (cc)
known said (Some x) p asks h = h

makers : (g : ℕ) (v : View) (a : ℕ) (op : Op) → MakerKnown v (made_by g v a op)
makers g v a (Create parent name) = record { core = refl; of = refl; maker = λ said asks h. known said v.maker (cond (v.next_gfid == g) (Some (record { call = a; dir = parent.0 })) None) asks h }
makers g v a (Mkdir parent name) = record { core = refl; of = refl; maker = λ said asks h. known said v.maker (cond (v.next_gfid == g) (Some (record { call = a; dir = parent.0 })) None) asks h }
makers g v a op = unknown v (made_by g v a op) refl refl refl

called : (n k g : ℕ) (m t : Net) (v w : View) → t.brick ≡ m.brick → t.said ≡ m.said → t.next ≡ m.next → Linked n g m v → MakerKnown v w → Goes n k g m t v w []
called n k g m t v w brick said next l h =
    let o = on_quiet n k g m v l t brick said next in
    let q = o.linked in
    record {
      runs = refl;
      linked = record {
        heads = q.heads;
        removed = q.removed;
        holders = subst (λ (f : ℕ → ℕ). (b : ℕ) → b < n → v.core.holder b ≡ option_map f (exclusive g Inode (t.brick b).asks)) (sym h.of) q.holders;
        healers = q.healers;
        makers = λ b lt e. h.maker t.said (t.brick b).asks (q.makers b lt e);
        kept = q.kept;
        shared = q.shared;
        reading = q.reading;
        said = q.said;
        to = q.to;
        asked = q.asked;
        down = q.down;
      };
    }

pub heard_same : (m : Net) (o : Option Message) → ((heard m o).brick ≡ m.brick) × ((heard m o).said ≡ m.said) × ((heard m o).next ≡ m.next)
heard_same m None = (refl, refl, refl)
heard_same m (Some msg) = body msg.body
  where
    body : (z : Body) → ((heard_by m msg z).brick ≡ m.brick) × ((heard_by m msg z).said ≡ m.said) × ((heard_by m msg z).next ≡ m.next)
    body (ToBrick q) = (refl, refl, refl)
    body (ToClient re reply) = (refl, refl, refl)

pub goes : (n k g : ℕ) (m : Net) (v : View) (e : Entry) → MayEnter n m e → Linked n g m v → EntryReady n k g m v e → Goes n k g m (net_after m e) v (noted g v e) (acts g m v e)
goes n k g m v (Called a client op) may l r = called n k g m (net_after m (Called a client op)) v (made_by g v a op) refl refl refl l (makers g v a op)
goes n k g m v (Sent msg) may l r = on_sent n k g m v l msg may r
goes n k g m v (Executed i version failed) may l r = on_executed n k g m v l i version failed may r
goes n k g m v (Heard i) may l r = let h = heard_same m (m.said i) in on_quiet n k g m v l (heard m (m.said i)) h.0 h.1 h.2
goes n k g m v (Lost i) may l r = on_quiet n k g m v l (net_after m (Lost i)) refl refl refl
goes n k g m v (GivenUp client brick i) may l r = on_quiet n k g m v l (net_after m (GivenUp client brick i)) refl refl refl
goes n k g m v (Stopped b) may l r = on_stopped n k g m v l b may.0
goes n k g m v (Returned b) may l r = on_returned n k g m v l b may.0
goes n k g m v (Cut client b) may l r = on_cut n k g m v l client b may.0 may.1 r
goes n k g m v (Died client) may l r = on_quiet n k g m v l (net_after m (Died client)) refl refl refl
goes n k g m v (Yielded client) may l r = on_quiet n k g m v l m refl refl refl
goes n k g m v (Torn i bytes version) may l r = on_torn n k g m v l i bytes version may
goes n k g m v (Answered a answer) may l r = on_quiet n k g m v l (net_after m (Answered a answer)) refl refl refl
goes n k g m v (Replaced b removed all) may l r = on_replaced n k g m v l b removed all may.0 may.1

pub acts_may_come : ActsMayCome
acts_may_come n k g [] m v runs l r = (refl, l)
acts_may_come n k g (e ∷ es) m v runs l r =
    let h = goes n k g m v e runs.0 l r.0 in
    let more = acts_may_come n k g es (net_after m e) (seen_after g m v e) runs.1 h.linked r.1 in
    (runs_both n k (acts g m v e) (all_acts g es (net_after m e) (seen_after g m v e)) v.core h.runs more.0, more.1)

pub acts_lead_on : ActsLeadOn
acts_lead_on g [] m v = refl
acts_lead_on g (e ∷ es) m v = acts_lead_on g es (net_after m e) (seen_after g m v e) ∙ sym (after_both (acts g m v e) (all_acts g es (net_after m e) (seen_after g m v e)) v.core)
