-- Which call takes a gfid for its child, entry by entry.
use Rattle.std.proofs.Common.{◌≡◌, ◌⊎◌, ℕ, ◌+◌, ◌<◌, Bool, true, false, cond, ◌==◌, Option, Some, None, refl, sym, ◌∙◌, ap, arith, inl, inr, ⊎_elim}
use Rattle.ec_attr.specs.declared.geometry.Geometry.{Geometry}
use Rattle.ec_wire.specs.declared.entry.Entry.{Entry}
use Rattle.ec_wire.specs.declared.entry.Entry.TheVariants.{Called, Sent, Executed, Heard, Torn}
use Rattle.ec_wire.specs.declared.op.Op.{Op}
use Rattle.ec_wire.specs.declared.op.Op.TheVariants.{Create, Mkdir}
use Rattle.ec_conduct.specs.Data.{makes_child}
use Rattle.ec_conduct.specs.Done.{or_else}
use Rattle.ec_conduct.specs.Given.{Given}
use Rattle.ec_history.specs.Accounts.{Books, Leaving, begins, booked, given_to}
use Rattle.ec_history.specs.Run.{Net}
use Rattle.ec_history.specs.Story.{Story, began, makes_a_child, told}
use Rattle.ec_law_net.specs.Turns.{Maker, View, made_by, seen_after}
use Rattle.ec_law_turns.specs.Follows.{Numbers}
use Rattle.ec_law_turns.proofs.Basics.{equal, itself, put_some, some_is}
use Rattle.ec_law_turns.proofs.Children.{told_next}
use Rattle.ec_law_turns.proofs.Numbered.{heard_given, sent_same}

-- The view knows the maker of g: the call that began with g as its child. No gfid is taken before it is the next one.
pub record Taken (g : ℕ) (v : View) (t : Story) (b : Books) : Type 0 where
  pub next : v.next_gfid ≡ t.next_gfid
  pub untaken : (v.maker ≡ None) ⊎ (g < t.next_gfid)
  pub below : (a : ℕ) (given : Given) → b.given a ≡ Some given → makes_a_child given.op ≡ true → given.child < t.next_gfid
  pub takes : (a : ℕ) (given : Given) → b.given a ≡ Some given → given.child ≡ g → (x : ℕ) → makes_child given.op x ≡ true → v.maker ≡ Some (record { call = a; dir = x })

pub makes_one : (op : Op) (x : ℕ) → makes_child op x ≡ true → makes_a_child op ≡ true
makes_one (Create h name) x so = refl
makes_one (Mkdir h name) x so = refl
makes_one op x so = absurd (cc)

-- a maker that is known stays known
pub or_else_keeps : (o p : Option Maker) (x : Maker) → o ≡ Some x → or_else o p ≡ Some x
or_else_keeps o p x e = ap (λ (y : Option Maker). or_else y p) e

module _ (geometry : Geometry) (g : ℕ) (v : View) (t : Story) (b : Books) (k : Taken g v t b) where
  taken_same : (v' : View) (t' : Story) (b' : Books) → v'.next_gfid ≡ v.next_gfid → v'.maker ≡ v.maker → t'.next_gfid ≡ t.next_gfid → b'.given ≡ b.given → Taken g v' t' b'
  taken_same v' t' b' next maker story given = record {
    next = next ∙ (k.next ∙ sym story);
    untaken = ⊎_elim (λ e. inl (maker ∙ e)) (λ lt. inr (omega (arith, lt, story))) k.untaken;
    below = λ a y e one. let lt = k.below a y (sym (ap (λ (f : ℕ → Option Given). f a) given) ∙ e) one in omega (arith, lt, story);
    takes = λ a y e is x so. maker ∙ k.takes a y (sym (ap (λ (f : ℕ → Option Given). f a) given) ∙ e) is x so;
  }

  abbrev known : ℕ → ℕ → Option Maker
  known a dir = or_else v.maker (cond (v.next_gfid == g) (Some (record { call = a; dir = dir })) None)

  new_maker : (a dir : ℕ) → t.next_gfid ≡ g → known a dir ≡ Some (record { call = a; dir = dir })
  new_maker a dir e = at (v.next_gfid == g) (ap (λ (y : ℕ). y == g) (k.next ∙ e) ∙ itself g)
    where
      none : v.maker ≡ None
      none = ⊎_elim (λ h. h) (λ lt. absurd (omega (arith, lt, e))) k.untaken

      at : (u : Bool) → u ≡ true → or_else v.maker (cond u (Some (record { call = a; dir = dir })) None) ≡ Some (record { call = a; dir = dir })
      at true h = ap (λ (o : Option Maker). or_else o (Some (record { call = a; dir = dir }))) none
      at false h = absurd (cc)

  still_untaken : (a dir : ℕ) → (known a dir ≡ None) ⊎ (g < t.next_gfid + 1)
  still_untaken a dir = at (v.next_gfid == g) refl
    where
      at : (u : Bool) → (v.next_gfid == g) ≡ u → (or_else v.maker (cond u (Some (record { call = a; dir = dir })) None) ≡ None) ⊎ (g < t.next_gfid + 1)
      at true h = let e = equal v.next_gfid g h in let same = k.next in inr (omega (arith, e, same))
      at false h = ⊎_elim (λ e. inl (ap (λ (o : Option Maker). or_else o None) e)) (λ lt. inr (omega (arith, lt))) k.untaken

  -- a call that makes its child in directory dir
  one_more : (a client dir : ℕ) (op : Op) (v' : View) (t' : Story) → ((x : ℕ) → makes_child op x ≡ true → dir ≡ x) → v'.next_gfid ≡ v.next_gfid + 1 → v'.maker ≡ known a dir → t'.next_gfid ≡ t.next_gfid + 1 → Taken g v' t' (begins geometry t b a client op)
  one_more a client dir op v' t' only next maker story = record {
    next = (let same = k.next in omega (arith, next, same, story));
    untaken = ⊎_elim (λ e. inl (maker ∙ e)) (λ lt. inr (omega (arith, lt, story))) (still_untaken a dir);
    below = λ c y e one. ⊎_elim (λ z. let child = ap (λ (w : Given). w.child) (some_is (given_to geometry t b client op) y z.1) in omega (arith, child, story)) (λ z. let lt = k.below c y z.1 one in omega (arith, lt, story)) (put_some b.given a (Some (given_to geometry t b client op)) c y e);
    takes = λ c y e is x so. ⊎_elim (λ z. new c y z.0 (some_is (given_to geometry t b client op) y z.1) is x so) (λ z. maker ∙ or_else_keeps v.maker _ (record { call = c; dir = x }) (k.takes c y z.1 is x so)) (put_some b.given a (Some (given_to geometry t b client op)) c y e);
  }
    where
      new : (c : ℕ) (y : Given) → c ≡ a → given_to geometry t b client op ≡ y → y.child ≡ g → (x : ℕ) → makes_child y.op x ≡ true → v'.maker ≡ Some (record { call = c; dir = x })
      new c y call same is x so =
          let dir_is = only x (ap (λ (w : Given). makes_child w.op x) same ∙ so) in
          maker ∙ (new_maker a dir (ap (λ (w : Given). w.child) same ∙ is) ∙ (ap (λ (z : ℕ). Some (record { call = a; dir = z })) dir_is ∙ ap (λ (z : ℕ). Some (record { call = z; dir = x })) (sym call)))

  -- a call that makes none
  no_more : (a client : ℕ) (op : Op) (t' : Story) → makes_a_child op ≡ false → ((x : ℕ) → makes_child op x ≡ true → ⊥) → t'.next_gfid ≡ t.next_gfid → Taken g v t' (begins geometry t b a client op)
  no_more a client op t' isnt none story = record {
    next = k.next ∙ sym story;
    untaken = ⊎_elim (λ e. inl e) (λ lt. inr (omega (arith, lt, story))) k.untaken;
    below = λ c y e one. ⊎_elim (λ z. absurd (let same = ap (λ (w : Given). makes_a_child w.op) (some_is (given_to geometry t b client op) y z.1) in let u = sym isnt ∙ (same ∙ one) in cc)) (λ z. let lt = k.below c y z.1 one in omega (arith, lt, story)) (put_some b.given a (Some (given_to geometry t b client op)) c y e);
    takes = λ c y e is x so. ⊎_elim (λ z. absurd (none x (ap (λ (w : Given). makes_child w.op x) (some_is (given_to geometry t b client op) y z.1) ∙ so))) (λ z. k.takes c y z.1 is x so) (put_some b.given a (Some (given_to geometry t b client op)) c y e);
  }

  called : (a client : ℕ) (op : Op) → Taken g (made_by g v a op) (began t a op) (begins geometry t b a client op)
  called a client (Create parent name) = one_more a client parent.0 (Create parent name) _ _ (λ x so. equal parent.0 x so) refl refl refl
  called a client (Mkdir parent name) = one_more a client parent.0 (Mkdir parent name) _ _ (λ x so. equal parent.0 x so) refl refl refl
  called a client op = no_more a client op t refl (λ x so. absurd (cc)) refl

pub taken_entry : (geometry : Geometry) (g : ℕ) (left : ℕ → Leaving) (m : Net) (v : View) (t : Story) (b : Books) (e : Entry) → Numbers geometry m.said m.owed m.calls m.asker b → Taken g v t b → Taken g (seen_after g m v e) (told geometry m t e) (booked geometry left m t b e)
taken_entry geometry g left m v t b (Called a client op) n k =
    let o = called geometry g v t b k a client op in
    record { next = o.next; untaken = o.untaken; below = o.below; takes = o.takes }
taken_entry geometry g left m v t b (Sent msg) n k = taken_same geometry g v t b k (seen_after g m v (Sent msg)) (told geometry m t (Sent msg)) (booked geometry left m t b (Sent msg)) refl refl (told_next geometry m t (Sent msg)) (sent_same geometry m b n msg msg.body).0
taken_entry geometry g left m v t b (Executed i version failed) n k = taken_same geometry g v t b k (seen_after g m v (Executed i version failed)) (told geometry m t (Executed i version failed)) b refl refl (told_next geometry m t (Executed i version failed)) refl
taken_entry geometry g left m v t b (Heard i) n k = taken_same geometry g v t b k (seen_after g m v (Heard i)) t (booked geometry left m t b (Heard i)) refl refl refl (heard_given geometry m b n (m.said i))
taken_entry geometry g left m v t b (Torn i bytes version) n k = taken_same geometry g v t b k (seen_after g m v (Torn i bytes version)) (told geometry m t (Torn i bytes version)) b refl refl (told_next geometry m t (Torn i bytes version)) refl
taken_entry geometry g left m v t b e n k = taken_same geometry g v t b k (seen_after g m v e) t (booked geometry left m t b e) refl refl refl refl
