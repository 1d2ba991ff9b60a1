-- The plans of a log's turns are those of the history's commits, if they are what the calls make.
use Rattle.std.proofs.Common.{◌≡◌, ℕ, ◌-◌, ◌^◌, ◌<◌, ◌≤◌, true, ◌||◌, Some, None, List, [], ◌∷◌, refl, sym, ◌∙◌, ap, subst, arith}
use Rattle.ec_attr.specs.declared.geometry.Geometry.{Geometry}
use Rattle.ec_conduct.specs.Given.{Given, quorum, quorum_of}
use Rattle.ec_history.specs.Accounts.{Books, Leaving, booked, books}
use Rattle.ec_history.specs.IsRun.{IsRun, May as MayEnter, MaySay}
use Rattle.ec_history.specs.Run.{Net, after as net_after, call_of, run}
use Rattle.ec_history.specs.Story.{Story, op_of, told}
use Rattle.ec_stripe.specs.Span.{stripe_bytes}
use Rattle.ec_wire.specs.declared.entry.Entry.{Entry}
use Rattle.ec_wire.specs.declared.entry.Entry.TheVariants.{Sent}
use Rattle.ec_wire.specs.declared.message.Body.{Body}
use Rattle.ec_wire.specs.declared.message.Body.TheVariants.{ToBrick, ToClient}
use Rattle.ec_wire.specs.declared.message.Message.{Message}
use Rattle.ec_wire.specs.declared.op.Op.{Op}
use Rattle.ec_wire.specs.declared.op.Op.TheVariants.{Truncate}
use Rattle.ec_wire.specs.declared.request.Request.{Request}
use Rattle.ec_wire.specs.declared.request.Request.TheVariants.{SetLength}
use Rattle.ec_law_net.specs.Turns.{View, seen_after, turn_of, view}
use Rattle.ec_law_pieces.specs.Deed.{Plan}
use Rattle.ec_law_turns.specs.Laws.{Always}
use Rattle.ec_law_turns.specs.Orderly.{ArePlain}
use Rattle.ec_law_turns.proofs.Basics.{put_here, some_is}
use Rattle.ec_law_turns.proofs.Runs.{Kept, kept_there, plain_first}
use Rattle.ec_law_data.specs.Deeds.{file, file_after, is_post_on}
use Rattle.ec_law_data.specs.Forms.{Coder, Shape, is_data}
use Rattle.ec_law_data.proofs.Reaching.{Reaches, reaches_then}
use Rattle.ec_law_files.specs.Filing.{FilePlans, HaveFilePlans, StripeFile}
use Rattle.ec_law_files.specs.Stripes.{CutsStripes, Making}
use Rattle.ec_law_flats.specs.Plans.{AllPlans, EntryPlans, is_unbuilt, plans_on}
use Rattle.ec_law_flats.specs.Stripes.{CutsKeep, FitsStripes, StripePlan}
use Rattle.ec_law_plans.proofs.Saying.{given_last}
use Rattle.ec_law_reads.specs.Units.{of_units}
use Rattle.ec_law_stripes.specs.Bytes.{low_byte}
use Rattle.ec_law_stripes.specs.Given.{WritesSome}
use Rattle.ec_law_stripes.specs.HeldStripes.{AllWriteSome, AreBuiltCalls}
use Rattle.ec_law_stripes.specs.Striped.{HaveOps, HavePlanned}
use Rattle.ec_law_stripes.proofs.HistoryPlans.{plan_fits, rising}
use Rattle.ec_law_stripes.proofs.Later.{still_log}
use Rattle.ec_law_stripes.proofs.Ops.{ops_then}

-- What is known at the end of a log.
pub record AtEnd (makings : ℕ → Making) (plans : FilePlans) (g : ℕ) (m : Net) (v : View) (b : Books) (f : StripeFile) : Type 0 where
  pub have : HaveFilePlans makings g m v b f
  pub planned : HavePlanned makings plans m b f
  pub ops : HaveOps m b
  pub callers : (i : ℕ) (x : Message) → m.said i ≡ Some x → 2 ^ 61 ≤ v.of i → call_of (m.said (v.of i - 2 ^ 61)) ≡ x.call
  pub some : AllWriteSome g m
  pub built : AreBuiltCalls m

module _ (makings : ℕ → Making) (coder : Coder) (plans : FilePlans) (geometry : Geometry) (left : ℕ → Leaving) (none : (a : ℕ) → (left a).kept ≡ None) (first : ℕ) (origins : ℕ → ℕ) (new : (h : ℕ) → first ≤ h → origins h ≡ 0) (g : ℕ) where
  pub fit_log : (es : List Entry) (m : Net) (vs : ℕ → View) (t : Story) (b : Books) (f : StripeFile) → IsRun geometry.n es m → ArePlain es → Kept geometry left none (books geometry left es m t b) → Reaches geometry first origins m vs t b → HaveOps m b
      → AtEnd makings plans g (run es m) (view g es m (vs g)) (books geometry left es m t b) (file (of_units low_byte (quorum geometry) coder) plans geometry.n (quorum geometry) g es m (vs g) f)
      → AllPlans (of_units low_byte (quorum geometry) coder) (StripePlan (quorum geometry) g plans.took) plans geometry g es m (vs g) t f
  fit_log [] m vs t b f runs plain kept k ops end = tt
  fit_log (e ∷ es) m vs t b f runs plain kept k ops end = (entry e refl, fit_log es (net_after m e) (λ h. seen_after h m (vs h) e) (told geometry m t e) (booked geometry left m t b e) (file_after (of_units low_byte (quorum geometry) coder) plans geometry.n (quorum geometry) g m (vs g) f e) runs.1 (plain_first e es plain).1 kept reaches (ops_then geometry left m t b (k.reached g).known.numbers ops e runs.0) end)
    where
      reaches : Reaches geometry first origins (net_after m e) (λ h. seen_after h m (vs h) e) (told geometry m t e) (booked geometry left m t b e)
      reaches = reaches_then geometry left none first origins new m vs t b e (plain_first e es plain).0 runs.0 (kept_there geometry left none e es m t b runs plain (k.reached g).known.numbers kept) k

      planning : (msg : Message) → e ≡ Sent msg → (q : Request) → msg.body ≡ ToBrick q → (is_data g q || is_post_on g q) ≡ true → FitsStripes (quorum geometry) g (plans.took (turn_of g (vs g) msg)).size (op_of m msg.call) (t.found msg.call) (plans.plan (turn_of g (vs g) msg)).covers (plans.plan (turn_of g (vs g) msg)).sets
      planning msg is q own on =
          let turn : ℕ = turn_of g (vs g) msg in
          let size : ℕ = (plans.took turn).size in
          let may = subst (λ (x : Entry). MayEnter geometry.n m x) is runs.0 in
          let said = subst (λ (x : Entry). (net_after m x).said msg.no ≡ Some msg) (sym is) (put_here m.said msg.no (Some msg) msg.no refl) in
          let of = subst (λ (x : Entry). (seen_after g m (vs g) x).of msg.no ≡ turn_of g (vs g) msg) (sym is) (put_here (vs g).of msg.no (turn_of g (vs g) msg) msg.no refl) in
          let s = still_log geometry left none first origins new g es (net_after m e) (λ h. seen_after h m (vs h) e) (told geometry m t e) (booked geometry left m t b e) runs.1 (plain_first e es plain).1 kept reaches msg.no msg said in
          let last = s.1 ∙ of in
          let w = end.have.sent msg.no msg q s.0 own on in
          let p = end.planned turn (subst (λ (a : ℕ). (file (of_units low_byte (quorum geometry) coder) plans geometry.n (quorum geometry) g (e ∷ es) m (vs g) f).planned a ≡ true) last w.0) in
          let call = subst (λ (a : ℕ). call_of ((run (e ∷ es) m).said (a - 2 ^ 61)) ≡ msg.call) last (end.callers msg.no msg s.0 w.1) in
          let asker = subst (λ (z : Body). MaySay geometry.n m msg z) own may.1 in
          let begun = (k.reached g).known.numbers.made msg.call asker.asker asker.made in
          let later = given_last geometry left none (e ∷ es) m t b runs plain (k.reached g).known.numbers msg.call begun.1 begun.2 in
          let same = some_is p.given begun.1 (sym (subst (λ (c : ℕ). (books geometry left (e ∷ es) m t b).given c ≡ Some p.given) call p.made) ∙ later) in
          let op = ap (λ (x : Given). x.op) same ∙ ops msg.call begun.1 begun.2 in
          let final = ap (λ (x : Given). x.op) same ∙ end.ops msg.call begun.1 later in
          let wide = ap (λ (x : Given). x.geometry) same ∙ ((k.reached g).known.numbers.given_below msg.call begun.1 begun.2).1.geometry_is in
          subst (λ (z : Geometry). FitsStripes (quorum z) g (plans.took (turn_of g (vs g) msg)).size (op_of m msg.call) (t.found msg.call) (plans.plan (turn_of g (vs g) msg)).covers (plans.plan (turn_of g (vs g) msg)).sets) wide
          (subst (λ (o : Op). FitsStripes (quorum_of p.given) g (plans.took (turn_of g (vs g) msg)).size o (t.found msg.call) (plans.plan (turn_of g (vs g) msg)).covers (plans.plan (turn_of g (vs g) msg)).sets) op
          (subst (λ (y : Plan ℕ (List (List ℕ)) ℕ Shape). FitsStripes (quorum_of p.given) g (plans.took (turn_of g (vs g) msg)).size p.given.op (t.found msg.call) y.covers y.sets) (sym p.plan)
          (plan_fits (quorum_of p.given) g (let z = p.given.geometry.least in omega (arith, z)) size p.given.op (t.found msg.call) (record (makings (call_of ((run (e ∷ es) m).said (turn - 2 ^ 61)))) { head = p.head })
          (ap is_unbuilt final ∙ end.built msg.call) (subst WritesSome (sym final) (end.some msg.no msg q s.0 own on)) (sym p.size))))

      sent : (msg : Message) → e ≡ Sent msg → (z : Body) → msg.body ≡ z → plans_on (of_units low_byte (quorum geometry) coder) g z ≡ true → FitsStripes (quorum geometry) g (plans.took (turn_of g (vs g) msg)).size (op_of m msg.call) (t.found msg.call) (plans.plan (turn_of g (vs g) msg)).covers (plans.plan (turn_of g (vs g) msg)).sets
      sent msg is (ToClient re reply) own on = absurd (cc)
      sent msg is (ToBrick q) own on = planning msg is q own on

      entry : (x : Entry) → e ≡ x → EntryPlans (of_units low_byte (quorum geometry) coder) (StripePlan (quorum geometry) g plans.took) plans geometry g m (vs g) t f x
      entry (Sent msg) is = λ on free. sent msg is msg.body refl on
      entry x is = tt

  -- cuts keep no more than they leave
  cuts_end : (m : Net) (v : View) (b : Books) (f : StripeFile) → HaveFilePlans makings g m v b f → CutsKeep g m v
  cuts_end m v b f have i x gfid n keep count is body on =
      let o = have.put i x (SetLength gfid n keep count) is body (itself gfid.0 g on) in
      by o.0.op (quorum_of o.0) (makings x.call).head.size (let z = o.0.geometry.least in omega (arith, z)) o.2
    where
      itself : (x y : ℕ) → x ≡ y → Rattle.std.specs.Prelude.nat_eq x y ≡ true
      itself x y e = grind (arith, Rattle.std.proofs.lemmas.Bool.Decides.nat_tests)

      by : (op : Op) (k size : ℕ) → 0 < stripe_bytes k → CutsStripes op k size keep count → keep ≤ count
      by (Truncate h to) k size pos c = let z = rising k (Rattle.std.specs.Prelude.min size to) to pos (omega arith) in let a = c.0 in let d = c.1 in omega (arith, z, a, d)
      by op k size pos c = absurd c

  pub cuts_before : (es : List Entry) (m : Net) (vs : ℕ → View) (t : Story) (b : Books) → IsRun geometry.n es m → ArePlain es → Kept geometry left none (books geometry left es m t b) → Reaches geometry first origins m vs t b → CutsKeep g (run es m) (view g es m (vs g)) → Always (CutsKeep g) g es m (vs g)
  cuts_before [] m vs t b runs plain kept k h = h
  cuts_before (e ∷ es) m vs t b runs plain kept k h =
      let p = plain_first e es plain in
      let may = kept_there geometry left none e es m t b runs plain (k.reached g).known.numbers kept in (
        λ i x gfid n keep count is body on. h i x gfid n keep count (still_log geometry left none first origins new g (e ∷ es) m vs t b runs plain kept k i x is).0 body on,
        cuts_before es (net_after m e) (λ h. seen_after h m (vs h) e) (told geometry m t e) (booked geometry left m t b e) runs.1 p.1 kept (reaches_then geometry left none first origins new m vs t b e p.0 runs.0 may k) h,
      )

  pub cuts_keep : (es : List Entry) (m : Net) (vs : ℕ → View) (t : Story) (b : Books) (f : StripeFile) → IsRun geometry.n es m → ArePlain es → Kept geometry left none (books geometry left es m t b) → Reaches geometry first origins m vs t b → HaveFilePlans makings g (run es m) (view g es m (vs g)) (books geometry left es m t b) f → Always (CutsKeep g) g es m (vs g)
  cuts_keep es m vs t b f runs plain kept k have = cuts_before es m vs t b runs plain kept k (cuts_end (run es m) (view g es m (vs g)) (books geometry left es m t b) f have)
