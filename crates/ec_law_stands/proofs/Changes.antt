-- A commit that changes names is of a directory, and one that changes stripes is of a file: as a brick does the PostOp it has done all
-- changes that the commit is made of, and a brick refuses these of a record of another kind.
use Rattle.std.proofs.Common.{◌≡◌, ◌⊎◌, ⊎_elim, ℕ, Bool, true, false, cond, ◌==◌, ◌&&◌, ◌||◌, Option, Some, List, ◌∷◌, refl, sym, ◌∙◌, ap, subst, arith, inl, inr}
use Rattle.ec_attr.specs.declared.geometry.Geometry.{Geometry}
use Rattle.ec_attr.specs.declared.head.Head.{Head}
use Rattle.ec_attr.specs.declared.kind.Kind.{Kind}
use Rattle.ec_brick.specs.State.{State as Brick}
use Rattle.ec_brick.specs.Step.{Out, by_row, executed as executed_at, quiet as quiet_out, work}
use Rattle.ec_brick.specs.declared.row.Row.{Row}
use Rattle.ec_conduct.specs.Account.{Account, at as place_of}
use Rattle.ec_conduct.specs.Changes.{IsAllOf}
use Rattle.ec_conduct.specs.Done.{is_change}
use Rattle.ec_conduct.specs.Given.{Given}
use Rattle.ec_conduct.specs.Opened.{account}
use Rattle.ec_conduct.specs.Standing.{changes_at}
use Rattle.ec_store.specs.Records.{head_at}
use Rattle.ec_history.specs.Accounts.{Books}
use Rattle.ec_history.specs.Flat.{Flat, made, made_from}
use Rattle.ec_history.specs.IsRun.{May as MayEnter, MayExecute}
use Rattle.ec_history.specs.Run.{Net, after, failing, out_of}
use Rattle.ec_history.specs.Story.{Story, is_done, op_of, told}
use Rattle.ec_wire.specs.declared.entry.Entry.{Entry}
use Rattle.ec_wire.specs.declared.entry.Entry.TheVariants.{Sent, Executed}
use Rattle.ec_wire.specs.declared.message.Body.{Body}
use Rattle.ec_wire.specs.declared.message.Body.TheVariants.{ToBrick}
use Rattle.ec_wire.specs.declared.message.Message.{Message}
use Rattle.ec_wire.specs.declared.op.Op.{Op}
use Rattle.ec_wire.specs.declared.request.Request.{Request}
use Rattle.ec_law_net.specs.Turns.{View}
use Rattle.ec_law_net.proofs.Outcomes.{IsDone, IsNot, outcome}
use Rattle.ec_law_turns.specs.Reached.{Reached}
use Rattle.ec_law_turns.proofs.Basics.{equal, some_is}
use Rattle.ec_law_turns.proofs.Sends.{adds}
use Rattle.ec_law_turns.proofs.Tracks.{request_is}
use Rattle.ec_law_data.specs.Deeds.{is_post_on}
use Rattle.ec_law_flats.specs.Plans.{is_unbuilt}
use Rattle.ec_law_plans.proofs.Windows.{RequestsOn, sent_changes}
use Rattle.ec_law_writes.specs.Guarding.{changes_on}
use Rattle.ec_law_writes.proofs.Answering.{body_done, done_after, said_done}
use Rattle.ec_law_writes.proofs.Changing.{AllSent}
use Rattle.ec_law_writes.proofs.Watching.{Says, SaysNone, SaysOne, Watched, says_of}
use Rattle.ec_law_heads.proofs.Bounds.{Heads}
use Rattle.ec_law_heads.proofs.Making.{MadeNow, told_kind}
use Rattle.ec_law_stands.proofs.Parts.{IsChecked, let_through}

-- The ops whose commits change the part, and the first change that such a commit is made of.
pub record IsTouched (changes : ℕ → Request → Bool) (touches : Op → Bool) : Type 0 where
  pub first : (op : Op) (c : Account) (g : ℕ) (head : Head) (rs : List Request) → is_unbuilt op ≡ false → touches op ≡ true → IsAllOf c g head op rs → RequestsOn g rs → (q : Request) × (qs : List Request) × (rs ≡ q ∷ qs) × (changes g q ≡ true)
  pub change : (g : ℕ) (q : Request) → is_change q ≡ true → changes g q ≡ true → changes_on g q ≡ true

-- each change of the gfid that a brick did is of a record of the kind
abbrev pub DoneOfKind : (ℕ → Request → Bool) → Kind → ℕ → (ℕ → Option Message) → (ℕ → Bool) → Option Kind → Type 0
DoneOfKind changes kind g said done now = (i : ℕ) (x : Message) (q : Request) → done i ≡ true → said i ≡ Some x → x.body ≡ ToBrick q → changes g q ≡ true → now ≡ Some kind

-- a kind that a flat file has stays
made_stays : (made_kind kind : Kind) (flat : Flat) → flat.kind ≡ Some kind → (made made_kind flat).kind ≡ Some kind
made_stays made_kind kind flat e = ap (λ (o : Option Kind). (made_from o made_kind flat).kind) e ∙ e

pub kind_stays : (g : ℕ) (geometry : Geometry) (m : Net) (t : Story) (n : ℕ) (e : Entry) → MayEnter n m e → (kind : Kind) → (t.tree g).kind ≡ Some kind → ((told geometry m t e).tree g).kind ≡ Some kind
kind_stays g geometry m t n e may kind is = at (told_kind g geometry m t n e may)
  where
    at : (((told geometry m t e).tree g).kind ≡ (t.tree g).kind) ⊎ MadeNow g geometry m t e → ((told geometry m t e).tree g).kind ≡ Some kind
    at (inl same) = same ∙ is
    at (inr d) = d.kind ∙ made_stays d.child.kind kind (t.tree g) is

module _ (changes : ℕ → Request → Bool) (kind : Kind) (checked : (g : ℕ) (q : Request) → changes g q ≡ true → IsChecked kind g q) (g : ℕ) (geometry : Geometry) (m : Net) (v : View) (b : Books) (done : ℕ → Bool) (r : Reached geometry g m v b) (w : Watched geometry g m v b done) (t : Story) (heads : Heads geometry.n g m (λ h. Some h.kind ≡ (t.tree g).kind)) (h : DoneOfKind changes kind g m.said done (t.tree g).kind) where
  -- a change that a brick does
  now_done : (i : ℕ) (version : Option ℕ) (failed : Bool) (may : MayExecute m i version failed) → changes g may.request ≡ true → is_done (out_of m may.message may.request version failed).says ≡ true → (t.tree g).kind ≡ Some kind
  now_done i version failed may c did = by (outcome s may.request k.row (failing failed version))
    where
      k : IsChecked kind g may.request
      k = checked g may.request c

      s : Brick
      s = m.brick may.message.brick

      went : out_of m may.message may.request version failed ≡ by_row s (failing failed version) (work s may.request) (Some k.row)
      went = ap (λ (u : Bool). cond u (executed_at s (failing failed version) may.message.client may.message.no may.request) (quiet_out s)) may.at.up
          ∙ (k.runs s (failing failed version) may.message.client may.message.no ∙ ap (λ (o : Option Row). by_row s (failing failed version) (work s may.request) o) k.row_is)

      by : IsDone s may.request k.row (by_row s (failing failed version) (work s may.request) (Some k.row)) ⊎ IsNot s (by_row s (failing failed version) (work s may.request) (Some k.row)) → (t.tree g).kind ≡ Some kind
      by (inl d) =
          let o = let_through kind k.row.check k.row.grant _ (s.removed k.row.subject.0) (head_at s.records k.row.subject.0) k.needs d.allowed in
          sym (heads may.message.brick o.0 (r.known.messages.to i may.message may.request may.at.said may.at.body) (ap (head_at s.records) (sym k.subject) ∙ o.1)) ∙ ap {B = Option Kind} (λ (x : Kind). Some x) o.2
      by (inr d) = absurd (let z = sym d.says ∙ (ap (λ (o : Out). is_done o.says) (sym went) ∙ did) in cc)

  done_now : (e : Entry) → MayEnter geometry.n m e → (after m e).said ≡ m.said → DoneOfKind changes kind g (after m e).said (done_after m e done) (t.tree g).kind
  done_now (Executed j version failed) may said i x q d is body c = by (done i) refl d
    where
      was : m.said i ≡ Some x
      was = sym (ap (λ (f : ℕ → Option Message). f i) said) ∙ is

      first_true : (u w : Bool) → (u && w) ≡ true → u ≡ true
      first_true true u e = refl
      first_true false u e = absurd (cc)

      last_true : (u w : Bool) → (u && w) ≡ true → w ≡ true
      last_true true u e = e
      last_true false u e = absurd (cc)

      by : (u : Bool) → done i ≡ u → (u || ((i == j) && said_done m (m.said j) version failed)) ≡ true → (t.tree g).kind ≡ Some kind
      by true e z = h i x q e was body c
      by false e z = now_done j version failed may (ap (changes g) (sym same) ∙ c) (sym (ap (λ (o : Option Message). said_done m o version failed) may.at.said ∙ ap (λ (y : Body). body_done m may.message y version failed) may.at.body) ∙ last_true (i == j) (said_done m (m.said j) version failed) z)
        where
          here : i ≡ j
          here = equal i j (first_true (i == j) (said_done m (m.said j) version failed) z)

          message : x ≡ may.message
          message = some_is x may.message (sym was ∙ (ap m.said here ∙ may.at.said))

          same : q ≡ may.request
          same = request_is q may.request (sym body ∙ (ap (λ (y : Message). y.body) message ∙ may.at.body))
  done_now e may said i x q d is body c = h i x q d (sym (ap (λ (f : ℕ → Option Message). f i) said) ∙ is) body c

  pub done_entry : (e : Entry) → MayEnter geometry.n m e → DoneOfKind changes kind g (after m e).said (done_after m e done) ((told geometry m t e).tree g).kind
  done_entry e may i x q d is body c = kind_stays g geometry m t geometry.n e may kind (by (says_of g m v e))
    where
      by : Says g m v e → (t.tree g).kind ≡ Some kind
      by (SaysNone said of next) = done_now e may said i x q d is body c
      by (SaysOne msg sent) = at (subst (λ (y : Entry). MayEnter geometry.n m y) sent may) (subst (λ (y : Entry). (after m y).said i ≡ Some x) sent is) (subst (λ (y : Entry). done_after m y done i ≡ true) sent d)
        where
          at : MayEnter geometry.n m (Sent msg) → (after m (Sent msg)).said i ≡ Some x → done i ≡ true → (t.tree g).kind ≡ Some kind
          at may' is' d' = h i x q d' (⊎_elim (λ y. absurd (let lt = w.below i d' in let z = y.0 in let n = may'.0 in omega (arith, lt, z, n))) (λ y. y) ((adds geometry.n g m v msg may'.0 r.known.messages).newest i x is')) body c

  -- ## A PostOp of a call that changes the part

  pub post_of_kind : (touches : Op → Bool) → IsTouched changes touches → (i : ℕ) (x : Message) (q : Request) → m.said i ≡ Some x → x.body ≡ ToBrick q → is_post_on g q ≡ true → ((given : Given) → b.given x.call ≡ Some given → op_of m x.call ≡ given.op) → is_unbuilt (op_of m x.call) ≡ false → touches (op_of m x.call) ≡ true → (t.tree g).kind ≡ Some kind
  post_of_kind touches touch i x q said body on ops built changing =
      let p = w.posts i x q said body on in
      let same : op_of m x.call ≡ p.given.op = ops p.given p.made in
      let f = touch.first p.given.op (account p.given p.front) g p.head (changes_at (place_of (account p.given p.front) g x.brick)) (ap is_unbuilt (sym same) ∙ built) (ap touches (sym same) ∙ changing) p.all (sent_changes p.given (r.known.numbers.given_below x.call p.given p.made).1.none_kept p.front g x.brick) in
      let sent = (subst (AllSent m.said v.of (v.of i) x.brick i) f.2 p.sent).0 in
      let o = sent.1 in
      h o.number o.message f.0 (p.dones o.number o.message f.0 o.is o.body (touch.change g f.0 sent.0 f.3) o.turn o.brick_is o.below) o.is o.body f.3
