-- Each turn plans the size that its call makes of that of its group; and PostOps of one turn are among data requests and PostOps of one.
use Rattle.std.proofs.Common.{◌≡◌, inr, ℕ, ◌-◌, ◌^◌, ◌≤◌, Bool, true, false, ◌||◌, Some, List, [], ◌∷◌, refl, sym, ◌∙◌, ap}
use Rattle.ec_conduct.specs.Ballots.{size_after}
use Rattle.ec_history.specs.Accounts.{Books}
use Rattle.ec_history.specs.Run.{Net, after, call_of}
use Rattle.ec_history.specs.Story.{op_of}
use Rattle.ec_wire.specs.declared.entry.Entry.{Entry}
use Rattle.ec_wire.specs.declared.message.Message.{Message}
use Rattle.ec_wire.specs.declared.op.Op.{Op}
use Rattle.ec_law_pieces.specs.Deed.{Plan}
use Rattle.ec_law_net.specs.Turns.{View, seen_after}
use Rattle.ec_law_turns.specs.Laws.{Always}
use Rattle.ec_law_data.specs.Deeds.{is_post_on}
use Rattle.ec_law_data.specs.Forms.{Shape, is_data}
use Rattle.ec_law_data.specs.Versions.{PostsInOneTurn}
use Rattle.ec_law_files.specs.Filing.{FilePlans, HaveFilePlans, StripeFile}
use Rattle.ec_law_files.specs.Stripes.{Making}
use Rattle.ec_law_flats.specs.Stripes.{DataInOneTurn}
use Rattle.ec_law_sizes.specs.Sizes.{PlanSizes}
use Rattle.ec_law_stripes.specs.Striped.{HaveOps, HavePlanned}

or_right : (t u : Bool) → u ≡ true → (t || u) ≡ true
or_right true u e = refl
or_right false u e = e

pub plan_sizes : (makings : ℕ → Making) (plans : FilePlans) (g : ℕ) (m : Net) (v : View) (b : Books) (f : StripeFile) → HaveFilePlans makings g m v b f → HavePlanned makings plans m b f → HaveOps m b → ((i : ℕ) (x : Message) → m.said i ≡ Some x → 2 ^ 61 ≤ v.of i → call_of (m.said (v.of i - 2 ^ 61)) ≡ x.call) → PlanSizes plans g m v
plan_sizes makings plans g m v b f have planned ops callers i x q is body on =
    let w = have.sent i x q is body (or_right (is_data g q) (is_post_on g q) on) in
    let p = planned (v.of i) w.0 in
    let op = ops (call_of (m.said (v.of i - 2 ^ 61))) p.given p.made ∙ ap (λ (a : ℕ). op_of m a) (callers i x is w.1) in
    ap (λ (y : Plan ℕ (List (List ℕ)) ℕ Shape). y.becomes.size) p.plan
    ∙ (ap (λ (o : Op). size_after o p.head.size) op ∙ ap (λ (size : ℕ). size_after (op_of m x.call) size) (sym p.size))

pub posts_in_one : (g : ℕ) (es : List Entry) (m : Net) (v : View) → Always (DataInOneTurn g) g es m v → Always (PostsInOneTurn g) g es m v
posts_in_one g [] m v h = λ i j x y q r is its body its_body on its_on same. h i j x y q r is its body its_body (inr on) (inr its_on) same
posts_in_one g (e ∷ es) m v h = (
  λ i j x y q r is its body its_body on its_on same. h.0 i j x y q r is its body its_body (inr on) (inr its_on) same,
  posts_in_one g es (after m e) (seen_after g m v e) h.1,
)
