-- What calls began with is what the history has that they asked for.
use Rattle.std.proofs.Common.{◌≡◌, ℕ, Bool, true, false, cond, ◌==◌, ◌&&◌, not, Option, Some, None, refl, sym, ◌∙◌, ap}
use Rattle.ec_attr.specs.declared.geometry.Geometry.{Geometry}
use Rattle.ec_conduct.specs.Given.{Given}
use Rattle.ec_conduct.specs.Own.{Own, Sends, Hears}
use Rattle.ec_history.specs.Accounts.{Books, Leaving, booked, given_to, hears, hears_body, own_of, sender, sends, with_own}
use Rattle.ec_history.specs.IsRun.{May as MayEnter}
use Rattle.ec_history.specs.Run.{Net, after as net_after, is_number}
use Rattle.ec_history.specs.Story.{Story, asked_for, op_of}
use Rattle.ec_wire.specs.declared.entry.Entry.{Entry}
use Rattle.ec_wire.specs.declared.entry.Entry.TheVariants.{Called, Sent, Heard}
use Rattle.ec_wire.specs.declared.message.Body.{Body}
use Rattle.ec_wire.specs.declared.message.Body.TheVariants.{ToBrick, ToClient}
use Rattle.ec_wire.specs.declared.message.Message.{Message}
use Rattle.ec_law_flats.proofs.Calls.{calls_stay}
use Rattle.ec_law_turns.specs.Follows.{Numbers}
use Rattle.ec_law_turns.proofs.Basics.{equal, put_here, some_is}

abbrev pub HaveOps : Net → Books → Type 0
HaveOps m b = (a : ℕ) (given : Given) → b.given a ≡ Some given → given.op ≡ op_of m a

own_given : (b : Books) (o : Option ℕ) (e : Own) → (own_of b o e).given ≡ b.given
own_given b None e = refl
own_given b (Some a) e = refl

sends_given : (m : Net) (b : Books) (msg : Message) (z : Body) → (sends m b msg z).given ≡ b.given
sends_given m b msg (ToBrick q) = own_given b (sender m b msg q) (Sends msg.brick msg.no q)
sends_given m b msg (ToClient re reply) = refl

hears_given : (m : Net) (b : Books) (o : Option Message) → (hears m b o).given ≡ b.given
hears_given m b None = refl
hears_given m b (Some msg) = by msg.body
  where
    either : (t : Bool) (x : Own) → (cond t (with_own b msg.call x) b).given ≡ b.given
    either true x = refl
    either false x = refl

    by : (z : Body) → (hears_body m b msg z).given ≡ b.given
    by (ToBrick q) = refl
    by (ToClient re reply) = either (is_number re (m.awaits msg.call msg.brick) && not (m.answered msg.call)) (Hears msg.brick re reply)

module _ (geometry : Geometry) (left : ℕ → Leaving) (m : Net) (t : Story) (b : Books) (numbers : Numbers geometry m.said m.owed m.calls m.asker b) (h : HaveOps m b) where
  still : (e : Entry) → MayEnter geometry.n m e → (booked geometry left m t b e).given ≡ b.given → HaveOps (net_after m e) (booked geometry left m t b e)
  still e may same a given is =
      let was = sym (ap (λ (z : ℕ → Option Given). z a) same) ∙ is in
      h a given was ∙ sym ((calls_stay geometry m t e may).op a (numbers.given_below a given was).0)

  pub ops_then : (e : Entry) → MayEnter geometry.n m e → HaveOps (net_after m e) (booked geometry left m t b e)
  ops_then (Called x client op) may = λ a given is. by a given (a == x) refl is
    where
      by : (a : ℕ) (given : Given) (u : Bool) → (a == x) ≡ u → cond u (Some (given_to geometry t b client op)) (b.given a) ≡ Some given → given.op ≡ op_of (net_after m (Called x client op)) a
      by a given true e is = ap (λ (z : Given). z.op) (sym (some_is (given_to geometry t b client op) given is)) ∙ sym (ap asked_for (put_here m.asker x (Some (record { client = client; op = op })) a (sym (equal a x e))))
      by a given false e is = h a given is ∙ sym ((calls_stay geometry m t (Called x client op) may).op a (numbers.given_below a given is).0)
  ops_then (Sent msg) may = still (Sent msg) may (sends_given m b msg msg.body)
  ops_then (Heard i) may = still (Heard i) may (hears_given m b (m.said i))
  ops_then e may = still e may refl
