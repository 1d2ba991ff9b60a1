-- The version of a flat file has no mark after every log, where it had none as the log began.
use Rattle.std.proofs.Common.{◌≡◌, ℕ, Bool, true, false, not, cond, Option, Some, None, List, refl, sym, ◌∙◌, ap, subst}
use Rattle.ec_attr.specs.Marks.{is_marked}
use Rattle.ec_attr.specs.declared.config.Config.{Config}
use Rattle.ec_attr.specs.declared.geometry.Geometry.{Geometry}
use Rattle.ec_attr.specs.declared.head.Head.{Head}
use Rattle.ec_attr.specs.declared.kind.Kind.{Kind}
use Rattle.ec_brick.specs.State.{State as Brick}
use Rattle.ec_brick.specs.Step.{Fine, executed as executed_at, quiet as quiet_out}
use Rattle.ec_store.specs.Records.{Records, head_at}
use Rattle.ec_history.specs.Accounts.{Books}
use Rattle.ec_history.specs.Flat.{Flat, Tree, made_from}
use Rattle.ec_history.specs.IsRun.{IsRun}
use Rattle.ec_history.specs.Run.{Net, fresh}
use Rattle.ec_history.specs.Starts.{IsStart}
use Rattle.ec_history.specs.Story.{is_done, is_unmarked, opening}
use Rattle.ec_wire.specs.declared.entry.Entry.{Entry}
use Rattle.ec_wire.specs.declared.request.Request.TheVariants.{PostOp}
use Rattle.ec_law_net.specs.Turns.{View}
use Rattle.ec_law_turns.specs.Orderly.{ArePlain, IsOrderly}
use Rattle.ec_law_turns.specs.Reached.{Reached}
use Rattle.ec_law_data.specs.Laws.{begun}
use Rattle.ec_law_data.proofs.FlatVersions.{post_head}
use Rattle.ec_law_heads.specs.Laws.{flat_after}
use Rattle.ec_law_heads.proofs.Walking.{anything, by_log}
use Rattle.ec_law_stands.proofs.Flats.{IsKept, Posts, entry_goes}

-- a version without a mark stays one
abbrev StaysUnmarked : Flat → Flat → Type 0
StaysUnmarked old now = is_marked old.version ≡ false → is_marked now.version ≡ false

stays_unmarked : IsKept StaysUnmarked
stays_unmarked = record { same = λ flat e. e; opening = λ a test flat e. e; naming = λ n flat e. e; making = λ kind flat e. made flat.kind kind flat e }
  where
    made : (o : Option Kind) (kind : Kind) (flat : Flat) → is_marked flat.version ≡ false → is_marked (made_from o kind flat).version ≡ false
    made None kind flat e = e
    made (Some k) kind flat e = e

-- a PostOp on a record without a mark leaves none
post_unmarked : (geometry : Geometry) (g : ℕ) (m : Net) (v : View) (b : Books) → Reached geometry g m v b → (version a : ℕ) → Posts g m version a → is_marked version ≡ false
post_unmarked geometry g m v b r version a p =
    (r.shown.asked p.number p.message (PostOp p.gfid p.grant p.at version p.size p.attr) p.said p.body p.on).mark
    ∙ (ap is_marked (sym h.2) ∙ unmarked h.0 (subst (λ (o : Option Head). is_unmarked o ≡ true) (ap (head_at (m.brick p.message.brick).records) (sym p.on) ∙ h.1) p.unmarked))
  where
    s : Brick
    s = m.brick p.message.brick

    ran : (t : Bool) → s.up ≡ t → is_done (executed_at s Fine p.message.client p.message.no (PostOp p.gfid p.grant p.at version p.size p.attr)).says ≡ true
    ran true e = sym (ap (λ (u : Bool). is_done (cond u (executed_at s Fine p.message.client p.message.no (PostOp p.gfid p.grant p.at version p.size p.attr)) (quiet_out s)).says) e) ∙ p.done
    ran false e = absurd (let z = sym (ap (λ (u : Bool). is_done (cond u (executed_at s Fine p.message.client p.message.no (PostOp p.gfid p.grant p.at version p.size p.attr)) (quiet_out s)).says) e) ∙ p.done in cc)

    h : (h : Head) × (head_at s.records p.gfid.0 ≡ Some h) × (h.version.content ≡ p.at)
    h = post_head s p.message.client p.message.no p.gfid p.grant p.at version p.size p.attr (ran s.up refl)

    unmarked : (h : Head) → is_unmarked (Some h) ≡ true → is_marked h.version.content ≡ false
    unmarked h e = at (is_marked h.version.content) e
      where
        at : (t : Bool) → not t ≡ true → t ≡ false
        at true e = absurd (cc)
        at false e = refl

pub unmarked_after : (config : Config) (records : ℕ → Records) (bricks : ℕ → Brick) (tree : Tree) (next g : ℕ) (es : List Entry) → IsStart config records bricks tree next → IsRun config.geometry.n es (fresh bricks) → ArePlain es → IsOrderly config.geometry es (fresh bricks) (opening tree next) → is_marked (tree g).version ≡ false → is_marked (flat_after config es bricks tree next g).version ≡ false
unmarked_after config records bricks tree next g es start runs plain orderly unmarked =
    by_log (λ m v. Unit {0}) (λ m vs t. is_marked (t.tree g).version ≡ false) config records bricks tree next g es start runs plain orderly
    (λ m vs t books e may k premise h. entry_goes StaysUnmarked stays_unmarked g config.geometry m t (λ version a p e. post_unmarked config.geometry g m (vs g) books (k.reached g) version a p) config.geometry.n e may h)
    (anything g es (fresh bricks) (begun config records tree next g))
    unmarked
