-- What a call began with is what the log and the history of the flat files have of it.
use Rattle.std.proofs.Common.{◌≡◌, ℕ, ◌+◌, Bool, true, cond, Option, Some, refl, sym, ◌∙◌, ap, subst, ⊎_elim}
use Rattle.ec_attr.specs.declared.geometry.Geometry.{Geometry}
use Rattle.ec_conduct.specs.Given.{Given}
use Rattle.ec_history.specs.Accounts.{Books, Leaving, booked, given_to}
use Rattle.ec_history.specs.Changes.{Found}
use Rattle.ec_history.specs.IsRun.{May as MayEnter}
use Rattle.ec_history.specs.Run.{Net, after as net_after}
use Rattle.ec_history.specs.Story.{Story, asked_for, began, found_by, makes_a_child, op_of, told}
use Rattle.ec_wire.specs.declared.entry.Entry.{Entry}
use Rattle.ec_wire.specs.declared.entry.Entry.TheVariants.{Called, Sent, Heard}
use Rattle.ec_wire.specs.declared.op.Op.{Op}
use Rattle.ec_law_turns.specs.Follows.{Numbers}
use Rattle.ec_law_turns.proofs.Basics.{put_here, put_some, some_is}
use Rattle.ec_law_turns.proofs.Numbered.{heard_given, sent_same}
use Rattle.ec_law_flats.proofs.Calls.{calls_stay}

-- What the call asked for, and the gfid that it took, if it makes a child.
pub record IsGiven (m : Net) (t : Story) (a : ℕ) (given : Given) : Type 0 where
  pub op : op_of m a ≡ given.op
  pub took : makes_a_child given.op ≡ true → (t.found a).took ≡ given.child

abbrev pub AreGiven : Net → Story → Books → Type 0
AreGiven m t b = (a : ℕ) (given : Given) → b.given a ≡ Some given → IsGiven m t a given

module _ (geometry : Geometry) (left : ℕ → Leaving) (m : Net) (t : Story) (b : Books) (numbers : Numbers geometry m.said m.owed m.calls m.asker b) (h : AreGiven m t b) where
  still : (e : Entry) → MayEnter geometry.n m e → (a : ℕ) (given : Given) → b.given a ≡ Some given → IsGiven (net_after m e) (told geometry m t e) a given
  still e may a given is =
      let le = (numbers.given_below a given is).0 in
      let stay = calls_stay geometry m t e may in
      let o = h a given is in
      record { op = stay.op a le ∙ o.op; took = λ makes. stay.took a le ∙ o.took makes }

  same : (e : Entry) → MayEnter geometry.n m e → (booked geometry left m t b e).given ≡ b.given → AreGiven (net_after m e) (told geometry m t e) (booked geometry left m t b e)
  same e may unchanged a given is = still e may a given (sym (ap (λ (f : ℕ → Option Given). f a) unchanged) ∙ is)

  took_now : (a : ℕ) (op : Op) → makes_a_child op ≡ true → ((began t a op).found a).took ≡ t.next_gfid
  took_now a op makes =
      ap (λ (c : Bool). ((cond c (record (found_by t a (λ f. record f { took = t.next_gfid })) { next_gfid = t.next_gfid + 1 }) t).found a).took) makes
      ∙ ap (λ (f : Found). f.took) (put_here t.found a (record (t.found a) { took = t.next_gfid }) a refl)

  pub given_then : (e : Entry) → MayEnter geometry.n m e → AreGiven (net_after m e) (told geometry m t e) (booked geometry left m t b e)
  given_then (Called a client op) may c given is = ⊎_elim
      (λ z. let same = some_is (given_to geometry t b client op) given z.1 in
      subst (λ (y : ℕ). IsGiven (net_after m (Called a client op)) (told geometry m t (Called a client op)) y given) (sym z.0)
      (record {
        op = ap asked_for (put_here m.asker a (Some (record { client = client; op = op })) a refl) ∙ ap (λ (y : Given). y.op) same;
        took = λ makes. took_now a op (ap (λ (y : Given). makes_a_child y.op) same ∙ makes) ∙ ap (λ (y : Given). y.child) same;
      }))
      (λ z. still (Called a client op) may c given z.1)
      (put_some b.given a (Some (given_to geometry t b client op)) c given is)
  given_then (Sent msg) may c given is = same (Sent msg) may (sent_same geometry m b numbers msg msg.body).0 c given is
  given_then (Heard i) may c given is = same (Heard i) may (heard_given geometry m b numbers (m.said i)) c given is
  given_then e may c given is = same e may refl c given is
