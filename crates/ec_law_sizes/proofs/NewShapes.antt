-- Where the Makes of a gfid are of one kind, each of them makes a record of one shape.
use Rattle.std.proofs.Common.{◌≡◌, ⊎_elim, ◌⊎◌, ℕ, zero, suc, ◌<◌, Bool, true, false, cond, ◌==◌, Option, Some, None, refl, sym, ◌∙◌, ap, subst, arith}
use Rattle.std.specs.Option.{unwrap_or}
use Rattle.ec_attr.specs.Head.{new_attr}
use Rattle.ec_attr.specs.declared.geometry.Geometry.{Geometry}
use Rattle.ec_attr.specs.declared.gfid.Gfid.{Gfid}
use Rattle.ec_attr.specs.declared.kind.Child.{Child}
use Rattle.ec_attr.specs.declared.kind.Kind.{Kind}
use Rattle.ec_attr.specs.declared.kind.Kind.TheVariants.{File}
use Rattle.ec_conduct.specs.Done.{or_else}
use Rattle.ec_history.specs.Accounts.{Books}
use Rattle.ec_history.specs.Run.{Net}
use Rattle.ec_wire.specs.declared.message.Body.{Body}
use Rattle.ec_wire.specs.declared.message.Body.TheVariants.{ToBrick, ToClient}
use Rattle.ec_wire.specs.declared.message.Message.{Message}
use Rattle.ec_wire.specs.declared.request.Request.{Request}
use Rattle.ec_wire.specs.declared.request.Request.TheVariants.{Make}
use Rattle.ec_law_net.specs.Turns.{Maker, View}
use Rattle.ec_law_turns.specs.Reached.{Reached}
use Rattle.ec_law_turns.proofs.Basics.{equal, itself, some_is}
use Rattle.ec_law_data.specs.Forms.{Shape}
use Rattle.ec_law_heads.specs.Laws.{MakesOneKind}
use Rattle.ec_law_sizes.proofs.Telling.{MakesNew}
use Rattle.ec_law_sizes.proofs.Walking.{MakesAre}
use Rattle.ec_law_sizes.proofs.Extending.{whole}

abbrev kind_of_request : ℕ → Request → Option Kind
kind_of_request g (Make x n child) = cond (child.gfid.0 == g) (Some child.kind) None
kind_of_request g q = None

abbrev kind_of_body : ℕ → Body → Option Kind
kind_of_body g (ToBrick q) = kind_of_request g q
kind_of_body g (ToClient re reply) = None

-- the kind of which a message makes the gfid
abbrev pub kind_of : ℕ → Option Message → Option Kind
kind_of g None = None
kind_of g (Some msg) = kind_of_body g msg.body

-- the last one of the first n
abbrev pub last_kind : (ℕ → Option Kind) → ℕ → Option Kind
last_kind f zero = None
last_kind f (suc n) = or_else (f n) (last_kind f n)

one_of : (f : ℕ → Option Kind) → ((i j : ℕ) (c d : Kind) → f i ≡ Some c → f j ≡ Some d → c ≡ d) → (n i : ℕ) (c : Kind) → i < n → f i ≡ Some c → last_kind f n ≡ Some c
one_of f same zero i c lt is = absurd (omega (arith, lt))
one_of f same (suc n) i c lt is = by (f n) refl (λ below. one_of f same n i c below is)
  where
    some_none : (c : Kind) → Some c ≡ None → ⊥
    some_none c e = cc

    before : f n ≡ None → i < n
    before e = ⊎_elim (λ z. z) (λ z. absurd (some_none c (sym is ∙ (ap f z ∙ e)))) (order i n lt)
      where
        order : (i n : ℕ) → i < suc n → (i < n) ⊎ (i ≡ n)
        order i n lt = grind (arith, lt)

    by : (o : Option Kind) → f n ≡ o → (i < n → last_kind f n ≡ Some c) → or_else o (last_kind f n) ≡ Some c
    by None e rest = rest (before e)
    by (Some d) e rest = ap (λ (x : Kind). Some x) (same n i d c e is)

-- a Make of the gfid
record IsMake (g : ℕ) (o : Option Message) (kind : Kind) : Type 0 where
  message : Message
  dir : Gfid
  grant : ℕ
  child : Child
  is : o ≡ Some message
  body : message.body ≡ ToBrick (Make dir grant child)
  on : child.gfid.0 ≡ g
  kind_is : child.kind ≡ kind

made_of : (g : ℕ) (o : Option Message) (kind : Kind) → kind_of g o ≡ Some kind → IsMake g o kind
made_of g None kind e = absurd (cc)
made_of g (Some msg) kind e = body msg.body refl e
  where
    made : (q : Request) → msg.body ≡ ToBrick q → kind_of_request g q ≡ Some kind → IsMake g (Some msg) kind
    made (Make x n child) own e = by (child.gfid.0 == g) refl e
      where
        by : (t : Bool) → (child.gfid.0 == g) ≡ t → cond t (Some child.kind) None ≡ Some kind → IsMake g (Some msg) kind
        by true on e = record { message = msg; dir = x; grant = n; child = child; is = refl; body = own; on = equal child.gfid.0 g on; kind_is = some_is child.kind kind e }
        by false on e = absurd (cc)
    made q own e = absurd (cc)

    body : (z : Body) → msg.body ≡ z → kind_of_body g z ≡ Some kind → IsMake g (Some msg) kind
    body (ToClient re reply) own e = absurd (cc)
    body (ToBrick q) own e = made q own e

-- the shape of a new record of the gfid, by the messages that were sent
abbrev pub new_shape : ℕ → Net → Shape
new_shape g m = record { size = 0; attr = new_attr (unwrap_or (last_kind (λ i. kind_of g (m.said i)) m.next) File) }

module _ (geometry : Geometry) (g : ℕ) (m : Net) (v : View) (b : Books) (r : Reached geometry g m v b) (one : MakesOneKind g m v) where
  -- two Makes of the gfid are of one call
  same_call : (i j : ℕ) (x y : Message) (d e : Gfid) (n l : ℕ) (child other : Child) → m.said i ≡ Some x → m.said j ≡ Some y → x.body ≡ ToBrick (Make d n child) → y.body ≡ ToBrick (Make e l other) → child.gfid.0 ≡ g → other.gfid.0 ≡ g → x.call ≡ y.call
  same_call i j x y d e n l child other is its body its_body on its_on =
      let a = r.by_maker i x (Make d n child) is body on in
      let c = r.by_maker j y (Make e l other) its its_body its_on in
      ap (λ (z : Maker). z.call) (some_is (record { call = x.call; dir = d.0 }) (record { call = y.call; dir = e.0 }) (sym a.maker_is ∙ c.maker_is))

  same_kinds : (i j : ℕ) (c d : Kind) → kind_of g (m.said i) ≡ Some c → kind_of g (m.said j) ≡ Some d → c ≡ d
  same_kinds i j c d e f =
      let x = made_of g (m.said i) c e in
      let y = made_of g (m.said j) d f in
      sym x.kind_is ∙ (one i j x.message y.message x.dir y.dir x.grant y.grant x.child y.child x.is y.is x.body y.body x.on y.on (same_call i j x.message y.message x.dir y.dir x.grant y.grant x.child y.child x.is y.is x.body y.body x.on y.on) ∙ y.kind_is)

  pub makes_are : MakesAre whole (new_shape g m) g m
  makes_are i msg q is body = by q refl
    where
      by : (r : Request) → q ≡ r → MakesNew whole (new_shape g m) g r
      by (Make x n child) same = λ on.
          let kind : kind_of g (m.said i) ≡ Some child.kind = ap (kind_of g) is ∙ (ap (kind_of_body g) (body ∙ ap (λ (y : Request). ToBrick y) same) ∙ ap (λ (t : Bool). cond t (Some child.kind) None) (subst (λ (y : ℕ). (child.gfid.0 == y) ≡ true) on (itself child.gfid.0))) in
          let found = one_of (λ i. kind_of g (m.said i)) same_kinds m.next i child.kind (r.known.messages.number i msg is).1 kind in
          ap (λ (o : Option Kind). record { size = 0; attr = new_attr (unwrap_or o File) }) found
      by y same = tt
