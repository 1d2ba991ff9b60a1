-- A gfid that a call of the log takes is a new one.
use Rattle.std.proofs.Common.{◌≡◌, ◌⊎◌, ℕ, ◌<◌, ◌≤◌, Bool, true, false, cond, ◌==◌, Option, Some, None, List, [], ◌∷◌, refl, sym, ◌∙◌, ap, arith, inl, inr, ⊎_elim}
use Rattle.ec_attr.specs.declared.config.Config.{Config}
use Rattle.ec_brick.specs.State.{State as Brick}
use Rattle.ec_store.specs.Records.{Record, Records}
use Rattle.ec_wire.specs.declared.entry.Entry.{Entry}
use Rattle.ec_wire.specs.declared.entry.Entry.TheVariants.{Called}
use Rattle.ec_wire.specs.declared.op.Op.{Op}
use Rattle.ec_wire.specs.declared.op.Op.TheVariants.{Create, Mkdir}
use Rattle.ec_conduct.specs.Done.{or_else}
use Rattle.ec_history.specs.Flat.{Flat, Tree}
use Rattle.ec_history.specs.Run.{Net, after}
use Rattle.ec_history.specs.Starts.{IsStart}
use Rattle.ec_law_base.specs.State.{State}
use Rattle.ec_law_ballots.specs.Act.{Act, after as after_acts, step}
use Rattle.ec_law_ballots.specs.Act.Act.{Grant, Free, Share, Unshare, Moment, See, Keep, Carry, Choose, Choose_kept, Pre, Sink_pre, Post, Sink_post, Clear, Heal_grant, Heal_free, Mark, Unmark, Maker_grant, Maker_free, Make, Made, Unmake, Stop, Replace}
use Rattle.ec_law_net.specs.Turns.{Maker, View, acts, made_by, noted, seen_after}
use Rattle.ec_law_turns.specs.Laws.{Always}
use Rattle.ec_law_turns.specs.Makers.{NewWhereMade}
use Rattle.ec_law_turns.proofs.Basics.{equal, some_none}

-- ## The flat version of the beginning

step_origin : (s : State) (e : Act) → (step s e).origin ≡ s.origin
step_origin s (Grant a b) = refl
step_origin s (Free b) = refl
step_origin s (Share a b) = refl
step_origin s (Unshare a b) = refl
step_origin s (Moment a) = refl
step_origin s (See a b) = refl
step_origin s (Keep x a) = refl
step_origin s (Carry a x b) = refl
step_origin s (Choose a p) = refl
step_origin s (Choose_kept x a p) = refl
step_origin s (Pre a b) = refl
step_origin s (Sink_pre a b) = refl
step_origin s (Post a b) = refl
step_origin s (Sink_post a b) = refl
step_origin s (Clear a b) = refl
step_origin s (Heal_grant h b) = refl
step_origin s (Heal_free b) = refl
step_origin s (Mark a b) = refl
step_origin s (Unmark a b) = refl
step_origin s (Maker_grant b) = refl
step_origin s (Maker_free b) = refl
step_origin s (Make b) = refl
step_origin s (Made b) = refl
step_origin s (Unmake b) = refl
step_origin s (Stop b) = refl
step_origin s (Replace b) = refl

origin_stays : (es : List Act) (s : State) → (after_acts es s).origin ≡ s.origin
origin_stays [] s = refl
origin_stays (e ∷ es) s = origin_stays es (step s e) ∙ step_origin s e

-- from the next gfid on no brick has one
pub unrecorded : (config : Config) (records : ℕ → Records) (bricks : ℕ → Brick) (tree : Tree) (next g : ℕ) → IsStart config records bricks tree next → next ≤ g → (b : ℕ) → b < config.geometry.n → records b g ≡ None
unrecorded config records bricks tree next g start le b lt = absent b lt (records b g) refl
  where
    absent : (b : ℕ) → b < config.geometry.n → (o : Option Record) → records b g ≡ o → records b g ≡ None
    absent b lt None e = e
    absent b lt (Some r) e = absurd (let below = start.next_gfid.above b g lt (inl (λ z. some_none r (sym e ∙ z))) in omega (arith, below, le))

-- and so it had no version
pub unversioned : (config : Config) (records : ℕ → Records) (bricks : ℕ → Brick) (tree : Tree) (next g : ℕ) → IsStart config records bricks tree next → next ≤ g → (tree g).version ≡ 0
unversioned config records bricks tree next g start le = ap (λ (y : Flat). y.version) (start.elsewhere g (unrecorded config records bricks tree next g start le))

-- ## Entries

-- From `next` on gfids are taken, and the flat version of the beginning is this one.
pub record IsFresh (next origin g : ℕ) (v : View) : Type 0 where
  pub same : v.core.origin ≡ origin
  pub rises : next ≤ v.next_gfid
  pub taken : (v.maker ≡ None) ⊎ (next ≤ g)

module _ (next origin g : ℕ) (v : View) (k : IsFresh next origin g v) where
  takes : (x : Maker) → (or_else v.maker (cond (v.next_gfid == g) (Some x) None) ≡ None) ⊎ (next ≤ g)
  takes x = ⊎_elim (λ none. at none (v.next_gfid == g) refl) (λ le. inr le) k.taken
    where
      at : v.maker ≡ None → (u : Bool) → (v.next_gfid == g) ≡ u → (or_else v.maker (cond u (Some x) None) ≡ None) ⊎ (next ≤ g)
      at none true e = let is = equal v.next_gfid g e in let le = k.rises in inr (omega (arith, is, le))
      at none false e = inl (ap (λ (o : Option Maker). or_else o None) none)

  called : (a : ℕ) (op : Op) → IsFresh next origin g (made_by g v a op)
  called a (Create parent name) = record { same = k.same; rises = (let le = k.rises in omega (arith, le)); taken = takes (record { call = a; dir = parent.0 }) }
  called a (Mkdir parent name) = record { same = k.same; rises = (let le = k.rises in omega (arith, le)); taken = takes (record { call = a; dir = parent.0 }) }
  called a op = k

  fresh_noted : (e : Entry) → IsFresh next origin g (noted g v e)
  fresh_noted (Called a client op) = called a op
  fresh_noted e = record { same = k.same; rises = k.rises; taken = k.taken }

pub fresh_entry : (next origin g : ℕ) (m : Net) (v : View) (e : Entry) → IsFresh next origin g v → IsFresh next origin g (seen_after g m v e)
fresh_entry next origin g m v e k =
    let o = fresh_noted next origin g v k e in
    record { same = origin_stays (acts g m v e) v.core ∙ k.same; rises = o.rises; taken = o.taken }

pub fresh_always : (next origin g : ℕ) → (next ≤ g → origin ≡ 0) → (es : List Entry) (m : Net) (v : View) → IsFresh next origin g v → Always (NewWhereMade g) g es m v
fresh_always next origin g new [] m v k = λ x e. k.same ∙ new (⊎_elim (λ none. absurd (some_none x (sym e ∙ none))) (λ le. le) k.taken)
fresh_always next origin g new (e ∷ es) m v k = (λ x e. k.same ∙ new (⊎_elim (λ none. absurd (some_none x (sym e ∙ none))) (λ le. le) k.taken), fresh_always next origin g new es (after m e) (seen_after g m v e) (fresh_entry next origin g m v e k))

pub as_begun : (next origin g : ℕ) (v : View) → v.core.origin ≡ origin → v.next_gfid ≡ next → v.maker ≡ None → IsFresh next origin g v
as_begun next origin g v same is none = record { same = same; rises = omega (arith, is); taken = inl none }
