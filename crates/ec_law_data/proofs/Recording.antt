-- What a request makes of one record, read by a reading that fits.
use Rattle.std.proofs.Common.{◌≡◌, ◌≢◌, ◌⊎◌, ℕ, ◌*◌, ◌≤◌, Bool, true, false, cond, ◌==◌, ◌&&◌, Option, Some, None, List, length, refl, sym, ◌∙◌, ap, subst, arith, inl, inr}
use Rattle.std.proofs.lemmas.Bool.Decides.{nat_tests}
use Rattle.std.specs.Option.{option_map}
use Rattle.ec_attr.specs.declared.config.Config.{Config}
use Rattle.ec_attr.specs.declared.gfid.Gfid.{Gfid}
use Rattle.ec_attr.specs.declared.head.Head.{Head}
use Rattle.ec_attr.specs.Head.{with_dirty}
use Rattle.ec_store.specs.Put.{put}
use Rattle.ec_store.specs.Records.{Record, Records, changed, empty, headed, named, replaced, with_bytes, with_length}
use Rattle.ec_wire.specs.declared.request.Request.{Request}
use Rattle.ec_wire.specs.declared.request.Request.TheVariants.{Ask, Release, Query, PreOp, ReadChunks, WriteChunks, SetLength, PostOp, Clear, NameGet, NamesAfter, NameSet, NamesPut, Make, Made, Unmake, Mark, Unmark, GfidsAfter}
use Rattle.ec_brick.specs.State.{State as Brick}
use Rattle.ec_brick.specs.Work.{broken_of, bytes_of, committed, new_head, unmarked, unset_at, with_unset, work_of}
use Rattle.ec_law_turns.specs.Once.{is_make_of}
use Rattle.ec_law_data.specs.Deeds.{is_granted, is_partial}
use Rattle.ec_law_data.specs.Link.{Fits, IsBeside, IsWhole, IsWriter, left_by}
use Rattle.ec_law_data.specs.Reading.{Reading}

equals : (x y : ℕ) → (x == y) ≡ true → x ≡ y
equals x y e = grind (arith, nat_tests)

differs : (x y : ℕ) → (x == y) ≡ false → x ≢ y
differs x y e z = grind (arith, nat_tests)

without_true : (t u : Bool) → (t && true && u) ≡ false → (t && u) ≡ false
without_true true u e = e
without_true false u e = refl

some_same : {X : Type 0} (x y : X) → Some x ≡ Some y → y ≡ x
some_same x y e = sym (cc)

-- a record after a change of record x
pub changed_at : (m : Records) (x g : ℕ) (f : Record → Record) (r r' : Record) → m g ≡ Some r → changed m x f g ≡ Some r' → ((x ≡ g) × (r' ≡ f r)) ⊎ ((x ≢ g) × (r' ≡ r))
changed_at m x g f r r' e h = at (g == x) refl
  where
    at : (t : Bool) → (g == x) ≡ t → ((x ≡ g) × (r' ≡ f r)) ⊎ ((x ≢ g) × (r' ≡ r))
    at true u = inl (sym (equals g x u), some_same (f r) r' (sym (ap (option_map f) (ap m (sym (equals g x u)) ∙ e)) ∙ (here ∙ h)))
      where
        here : option_map f (m x) ≡ changed m x f g
        here = ap (λ (t : Bool). cond t (option_map f (m x)) (m g)) (sym u)
    at false u = inr ((λ (z : x ≡ g). differs g x u (sym z)), some_same r r' (sym e ∙ (there ∙ h)))
      where
        there : m g ≡ changed m x f g
        there = ap (λ (t : Bool). cond t (option_map f (m x)) (m g)) (sym u)

-- none is made by a change
pub changed_none : (m : Records) (x g : ℕ) (f : Record → Record) (r' : Record) → m g ≡ None → changed m x f g ≡ Some r' → ⊥
changed_none m x g f r' e h = at (g == x) refl
  where
    at : (t : Bool) → (g == x) ≡ t → ⊥
    at true u = let y = ap (option_map f) (ap m (sym (equals g x u)) ∙ e) in let z = ap (λ (t : Bool). cond t (option_map f (m x)) (m g)) u in let w = sym h ∙ (z ∙ y) in absurd (cc)
    at false u = let z = ap (λ (t : Bool). cond t (option_map f (m x)) (m g)) u in let w = sym h ∙ (z ∙ e) in absurd (cc)

-- what is put somewhere
put_at : (m : Records) (x g : ℕ) (o : Option Record) → ((x ≡ g) × (put m x o g ≡ o)) ⊎ ((x ≢ g) × (put m x o g ≡ m g))
put_at m x g o = at (g == x) refl
  where
    at : (t : Bool) → (g == x) ≡ t → ((x ≡ g) × (put m x o g ≡ o)) ⊎ ((x ≢ g) × (put m x o g ≡ m g))
    at true u = inl (sym (equals g x u), ap (λ (t : Bool). cond t o (m g)) u)
    at false u = inr ((λ (z : x ≡ g). differs g x u (sym z)), ap (λ (t : Bool). cond t o (m g)) u)

module _ {P V C U S : Type 0} (R : Reading P V C U S) (fits : Fits R) (g : ℕ) where
  -- nothing is left but what stood there
  beside : (q : Request) (p : P) (y : C) → IsBeside R g q p → left_by R g q p y ≡ y
  beside q p y e = ap (λ (t : Bool). cond t (R.puts q p) y) e

  unwritten : (q : Request) (p : P) → (IsWriter g q → ⊥) → IsBeside R g q p
  unwritten q p never = at (R.is_write g q) refl
    where
      at : (t : Bool) → R.is_write g q ≡ t → (t && R.writes g q p) ≡ false
      at true e = absurd (never (fits.writers g q e))
      at false e = refl

  -- the change of a head
  head_change : (q : Request) (m : Records) (x : ℕ) (f : Head → Head) (r r' : Record) (p : P) → (IsWriter g q → ⊥) → m g ≡ Some r → changed m x (λ r. record r { head = f r.head }) g ≡ Some r' → R.held r' p ≡ left_by R g q p (R.held r p)
  head_change q m x f r r' p never e h = at (changed_at m x g (λ r. record r { head = f r.head }) r r' e h) ∙ sym (beside q p (R.held r p) (unwritten q p never))
    where
      at : ((x ≡ g) × (r' ≡ record r { head = f r.head })) ⊎ ((x ≢ g) × (r' ≡ r)) → R.held r' p ≡ R.held r p
      at (inl k) = ap (λ (z : Record). R.held z p) k.1 ∙ fits.headed r (f r.head) p
      at (inr k) = ap (λ (z : Record). R.held z p) k.1

  -- the change of data
  data_change : (q : Request) (m : Records) (x : ℕ) (f : Record → Record) (r r' : Record) (p : P) → (IsWriter g q → x ≡ g) → (x ≡ g → R.held (f r) p ≡ left_by R g q p (R.held r p)) → m g ≡ Some r → changed m x f g ≡ Some r' → R.held r' p ≡ left_by R g q p (R.held r p)
  data_change q m x f r r' p of law e h = at (changed_at m x g f r r' e h)
    where
      at : ((x ≡ g) × (r' ≡ f r)) ⊎ ((x ≢ g) × (r' ≡ r)) → R.held r' p ≡ left_by R g q p (R.held r p)
      at (inl k) = ap (λ (z : Record). R.held z p) k.1 ∙ law k.0
      at (inr k) = ap (λ (z : Record). R.held z p) k.1 ∙ sym (beside q p (R.held r p) (unwritten q p (λ w. k.0 (of w))))

  kept : (q : Request) (m : Records) (r r' : Record) (p : P) → (IsWriter g q → ⊥) → m g ≡ Some r → m g ≡ Some r' → R.held r' p ≡ left_by R g q p (R.held r p)
  kept q m r r' p never e h = ap (λ (z : Record). R.held z p) (some_same r r' (sym e ∙ h)) ∙ sym (beside q p (R.held r p) (unwritten q p never))

  head_put : (q : Request) (m : Records) (x : ℕ) (head : Head) (r r' : Record) (p : P) → (IsWriter g q → ⊥) → m g ≡ Some r → put m x (Some (headed (m x) head)) g ≡ Some r' → R.held r' p ≡ left_by R g q p (R.held r p)
  head_put q m x head r r' p never e h = at (put_at m x g (Some (headed (m x) head)))
    where
      had : x ≡ g → m x ≡ Some r
      had z = ap m z ∙ e

      at : ((x ≡ g) × (put m x (Some (headed (m x) head)) g ≡ Some (headed (m x) head))) ⊎ ((x ≢ g) × (put m x (Some (headed (m x) head)) g ≡ m g)) → R.held r' p ≡ left_by R g q p (R.held r p)
      at (inl k) = ap (λ (z : Record). R.held z p) (some_same (record r { head = head }) r' (sym (ap (λ (o : Option Record). Some (headed o head)) (had k.0)) ∙ (sym k.1 ∙ h))) ∙ (fits.headed r head p ∙ sym (beside q p (R.held r p) (unwritten q p never)))
      at (inr k) = kept q m r r' p never e (sym k.1 ∙ h)

  gone : (q : Request) (m : Records) (x : ℕ) (r r' : Record) (p : P) → (IsWriter g q → ⊥) → m g ≡ Some r → put m x None g ≡ Some r' → R.held r' p ≡ left_by R g q p (R.held r p)
  gone q m x r r' p never e h = at (put_at m x g None)
    where
      at : ((x ≡ g) × (put m x None g ≡ None)) ⊎ ((x ≢ g) × (put m x None g ≡ m g)) → R.held r' p ≡ left_by R g q p (R.held r p)
      at (inl k) = absurd (let y = sym k.1 ∙ h in cc)
      at (inr k) = kept q m r r' p never e (sym k.1 ∙ h)

  -- a request that was done, under the grant of the content
  pub work_held : (config : Config) (s : Brick) (q : Request) (m : Records) (r r' : Record) (p : P) → IsWhole q → is_granted s q ≡ true → m g ≡ Some r → work_of config q m g ≡ Some r' → R.held r' p ≡ left_by R g q p (R.held r p)
  work_held config s (Ask x domain kind) m r r' p w t e h = kept (Ask x domain kind) m r r' p (λ z. z) e h
  work_held config s (Release x n) m r r' p w t e h = kept (Release x n) m r r' p (λ z. z) e h
  work_held config s (Query x n) m r r' p w t e h = kept (Query x n) m r r' p (λ z. z) e h
  work_held config s (PreOp x n at dirty) m r r' p w t e h = head_change (PreOp x n at dirty) m x.0 (with_dirty dirty) r r' p (λ z. z) e h
  work_held config s (ReadChunks x n first count) m r r' p w t e h = kept (ReadChunks x n first count) m r r' p (λ z. z) e h
  work_held config s (WriteChunks x n first chunks) m r r' p w t e h = data_change (WriteChunks x n first chunks) m x.0 (λ r. with_bytes r (512 * first) (bytes_of chunks)) r r' p (λ z. z) (λ z. subst (λ (y : ℕ). R.held (with_bytes r (512 * first) (bytes_of chunks)) p ≡ left_by R y (WriteChunks x n first chunks) p (R.held r p)) z (fits.bytes x n first chunks r p w)) e h
  work_held config s (SetLength x n keep count) m r r' p w t e h = data_change (SetLength x n keep count) m x.0 (λ r. with_length r keep count) r r' p (λ z. z) (λ z. subst (λ (y : ℕ). R.held (with_length r keep count) p ≡ left_by R y (SetLength x n keep count) p (R.held r p)) z (fits.cut x n keep count r p)) e h
  work_held config s (PostOp x n at version size attr) m r r' p w t e h = head_change (PostOp x n at version size attr) m x.0 (committed version size attr) r r' p (λ z. z) e h
  work_held config s (Clear x n at) m r r' p w t e h = head_change (Clear x n at) m x.0 (with_dirty 0) r r' p (λ z. z) e h
  work_held config s (NameGet x n name) m r r' p w t e h = kept (NameGet x n name) m r r' p (λ z. z) e h
  work_held config s (NamesAfter x n start) m r r' p w t e h = kept (NamesAfter x n start) m r r' p (λ z. z) e h
  work_held config s (NameSet x n name child) m r r' p w t e h = data_change (NameSet x n name child) m x.0 (λ r. record r { names = named r.names name child }) r r' p (λ z. z) (λ z. subst (λ (y : ℕ). R.held (record r { names = named r.names name child }) p ≡ left_by R y (NameSet x n name child) p (R.held r p)) z (fits.name x n name child r p)) e h
  work_held config s (NamesPut x n start upto list) m r r' p w t e h = absurd (cc)
  work_held config s (Make x n child) m r r' p w t e h = head_put (Make x n child) m child.gfid.0 (new_head config child.kind) r r' p (λ z. z) e h
  work_held config s (Made x n child) m r r' p w t e h = head_change (Made x n child) m child.0 (with_dirty 0) r r' p (λ z. z) e h
  work_held config s (Unmake x n child) m r r' p w t e h = gone (Unmake x n child) m child.0 r r' p (λ z. z) e h
  work_held config s (Mark x n heal head) m r r' p w t e h = head_put (Mark x n heal head) m x.0 head r r' p (λ z. z) e h
  work_held config s (Unmark x n at dirty) m r r' p w t e h = head_change (Unmark x n at dirty) m x.0 (unmarked dirty) r r' p (λ z. z) e h
  work_held config s (GfidsAfter start dirty) m r r' p w t e h = kept (GfidsAfter start dirty) m r r' p (λ z. z) e h

  -- where it writes nothing, under whichever grant
  pub work_beside : (config : Config) (s : Brick) (q : Request) (m : Records) (r r' : Record) (p : P) → IsWhole q → IsBeside R g q p → m g ≡ Some r → work_of config q m g ≡ Some r' → R.held r' p ≡ R.held r p
  work_beside config s (NamesPut x n start upto list) m r r' p w t e h = at (changed_at m x.0 g (λ r. record r { names = replaced r.names start upto list }) r r' e h)
    where
      at : ((x.0 ≡ g) × (r' ≡ record r { names = replaced r.names start upto list })) ⊎ ((x.0 ≢ g) × (r' ≡ r)) → R.held r' p ≡ R.held r p
      at (inl k) = ap (λ (z : Record). R.held z p) k.1 ∙ fits.names x n start upto list r p (subst (λ (y : ℕ). IsBeside R y (NamesPut x n start upto list) p) (sym k.0) t)
      at (inr k) = ap (λ (z : Record). R.held z p) k.1
  work_beside config s (WriteChunks x n first chunks) m r r' p w t e h = at (changed_at m x.0 g (λ r. with_bytes r (512 * first) (bytes_of chunks)) r r' e h)
    where
      at : ((x.0 ≡ g) × (r' ≡ with_bytes r (512 * first) (bytes_of chunks))) ⊎ ((x.0 ≢ g) × (r' ≡ r)) → R.held r' p ≡ R.held r p
      at (inl k) = ap (λ (z : Record). R.held z p) k.1 ∙ (subst (λ (y : ℕ). R.held (with_bytes r (512 * first) (bytes_of chunks)) p ≡ left_by R y (WriteChunks x n first chunks) p (R.held r p)) k.0 (fits.bytes x n first chunks r p w) ∙ beside (WriteChunks x n first chunks) p (R.held r p) t)
      at (inr k) = ap (λ (z : Record). R.held z p) k.1
  work_beside config s (SetLength x n keep count) m r r' p w t e h = at (changed_at m x.0 g (λ r. with_length r keep count) r r' e h)
    where
      at : ((x.0 ≡ g) × (r' ≡ with_length r keep count)) ⊎ ((x.0 ≢ g) × (r' ≡ r)) → R.held r' p ≡ R.held r p
      at (inl k) = ap (λ (z : Record). R.held z p) k.1 ∙ (subst (λ (y : ℕ). R.held (with_length r keep count) p ≡ left_by R y (SetLength x n keep count) p (R.held r p)) k.0 (fits.cut x n keep count r p) ∙ beside (SetLength x n keep count) p (R.held r p) t)
      at (inr k) = ap (λ (z : Record). R.held z p) k.1
  work_beside config s (Ask x domain kind) m r r' p w t e h = work_held config s (Ask x domain kind) m r r' p w refl e h ∙ beside (Ask x domain kind) p (R.held r p) t
  work_beside config s (Release x n) m r r' p w t e h = work_held config s (Release x n) m r r' p w refl e h ∙ beside (Release x n) p (R.held r p) t
  work_beside config s (Query x n) m r r' p w t e h = work_held config s (Query x n) m r r' p w refl e h ∙ beside (Query x n) p (R.held r p) t
  work_beside config s (PreOp x n at dirty) m r r' p w t e h = work_held config s (PreOp x n at dirty) m r r' p w refl e h ∙ beside (PreOp x n at dirty) p (R.held r p) t
  work_beside config s (ReadChunks x n first count) m r r' p w t e h = work_held config s (ReadChunks x n first count) m r r' p w refl e h ∙ beside (ReadChunks x n first count) p (R.held r p) t
  work_beside config s (PostOp x n at version size attr) m r r' p w t e h = work_held config s (PostOp x n at version size attr) m r r' p w refl e h ∙ beside (PostOp x n at version size attr) p (R.held r p) t
  work_beside config s (Clear x n at) m r r' p w t e h = work_held config s (Clear x n at) m r r' p w refl e h ∙ beside (Clear x n at) p (R.held r p) t
  work_beside config s (NameGet x n name) m r r' p w t e h = work_held config s (NameGet x n name) m r r' p w refl e h ∙ beside (NameGet x n name) p (R.held r p) t
  work_beside config s (NamesAfter x n start) m r r' p w t e h = work_held config s (NamesAfter x n start) m r r' p w refl e h ∙ beside (NamesAfter x n start) p (R.held r p) t
  work_beside config s (NameSet x n name child) m r r' p w t e h = work_held config s (NameSet x n name child) m r r' p w refl e h ∙ beside (NameSet x n name child) p (R.held r p) t
  work_beside config s (Make x n child) m r r' p w t e h = work_held config s (Make x n child) m r r' p w refl e h ∙ beside (Make x n child) p (R.held r p) t
  work_beside config s (Made x n child) m r r' p w t e h = work_held config s (Made x n child) m r r' p w refl e h ∙ beside (Made x n child) p (R.held r p) t
  work_beside config s (Unmake x n child) m r r' p w t e h = work_held config s (Unmake x n child) m r r' p w refl e h ∙ beside (Unmake x n child) p (R.held r p) t
  work_beside config s (Mark x n heal head) m r r' p w t e h = work_held config s (Mark x n heal head) m r r' p w refl e h ∙ beside (Mark x n heal head) p (R.held r p) t
  work_beside config s (Unmark x n at dirty) m r r' p w t e h = work_held config s (Unmark x n at dirty) m r r' p w refl e h ∙ beside (Unmark x n at dirty) p (R.held r p) t
  work_beside config s (GfidsAfter start dirty) m r r' p w t e h = work_held config s (GfidsAfter start dirty) m r r' p w refl e h ∙ beside (GfidsAfter start dirty) p (R.held r p) t

  -- a piece of work that leaves bytes unset
  pub unset_beside : (x : Gfid) (n first count : ℕ) (chunks : List (List ℕ)) (m : Records) (r r' : Record) (p : P) → count ≤ 512 * length chunks → IsBeside R g (WriteChunks x n first chunks) p → m g ≡ Some r → unset_at m x.0 (512 * first) count g ≡ Some r' → R.held r' p ≡ R.held r p
  unset_beside x n first count chunks m r r' p le t e h = at (changed_at m x.0 g (λ r. with_unset r (512 * first) count) r r' e h)
    where
      at : ((x.0 ≡ g) × (r' ≡ with_unset r (512 * first) count)) ⊎ ((x.0 ≢ g) × (r' ≡ r)) → R.held r' p ≡ R.held r p
      at (inl k) = ap (λ (z : Record). R.held z p) k.1 ∙ fits.unset x n first count chunks r p le (subst (λ (y : ℕ). IsBeside R y (WriteChunks x n first chunks) p) (sym k.0) t)
      at (inr k) = ap (λ (z : Record). R.held z p) k.1

  same_held : (m : Records) (r r' : Record) (p : P) → m g ≡ Some r → m g ≡ Some r' → R.held r' p ≡ R.held r p
  same_held m r r' p e h = ap (λ (z : Record). R.held z p) (some_same r r' (sym e ∙ h))

  -- one in whose work the store failed
  pub broken_beside : (q : Request) (m : Records) (r r' : Record) (p : P) → IsWhole q → (R.is_write g q && is_partial q && R.writes g q p) ≡ false → m g ≡ Some r → broken_of q m g ≡ Some r' → R.held r' p ≡ R.held r p
  broken_beside (WriteChunks x n first chunks) m r r' p w t e h = unset_beside x n first (length (bytes_of chunks)) chunks m r r' p (omega (arith, w)) (without_true (R.is_write g (WriteChunks x n first chunks)) (R.writes g (WriteChunks x n first chunks) p) t) e h
  broken_beside (Ask x domain kind) m r r' p w t e h = same_held m r r' p e h
  broken_beside (Release x n) m r r' p w t e h = same_held m r r' p e h
  broken_beside (Query x n) m r r' p w t e h = same_held m r r' p e h
  broken_beside (PreOp x n at dirty) m r r' p w t e h = same_held m r r' p e h
  broken_beside (ReadChunks x n first count) m r r' p w t e h = same_held m r r' p e h
  broken_beside (PostOp x n at version size attr) m r r' p w t e h = same_held m r r' p e h
  broken_beside (Clear x n at) m r r' p w t e h = same_held m r r' p e h
  broken_beside (NameGet x n name) m r r' p w t e h = same_held m r r' p e h
  broken_beside (NamesAfter x n start) m r r' p w t e h = same_held m r r' p e h
  broken_beside (NameSet x n name child) m r r' p w t e h = same_held m r r' p e h
  broken_beside (Make x n child) m r r' p w t e h = same_held m r r' p e h
  broken_beside (Made x n child) m r r' p w t e h = same_held m r r' p e h
  broken_beside (Unmake x n child) m r r' p w t e h = same_held m r r' p e h
  broken_beside (Mark x n heal head) m r r' p w t e h = same_held m r r' p e h
  broken_beside (Unmark x n at dirty) m r r' p w t e h = same_held m r r' p e h
  broken_beside (GfidsAfter start dirty) m r r' p w t e h = same_held m r r' p e h
  broken_beside (SetLength x n keep count) m r r' p w t e h = same_held m r r' p e h
  broken_beside (NamesPut x n start upto list) m r r' p w t e h = same_held m r r' p e h

-- a record that wasn't there is a new one
pub made_empty : (config : Config) (g : ℕ) (q : Request) (m : Records) (r' : Record) → ((x : Gfid) (n heal : ℕ) (head : Head) → q ≡ Mark x n heal head → x.0 ≢ g) → m g ≡ None → work_of config q m g ≡ Some r' → (is_make_of g q ≡ true) × (head : Head) × (r' ≡ empty head)
made_empty config g (Ask x domain kind) m r' never e h = absurd (let y = sym e ∙ h in cc)
made_empty config g (Release x n) m r' never e h = absurd (let y = sym e ∙ h in cc)
made_empty config g (Query x n) m r' never e h = absurd (let y = sym e ∙ h in cc)
made_empty config g (PreOp x n at dirty) m r' never e h = absurd (changed_none m x.0 g (λ r. record r { head = with_dirty dirty r.head }) r' e h)
made_empty config g (ReadChunks x n first count) m r' never e h = absurd (let y = sym e ∙ h in cc)
made_empty config g (PostOp x n at version size attr) m r' never e h = absurd (changed_none m x.0 g (λ r. record r { head = committed version size attr r.head }) r' e h)
made_empty config g (Clear x n at) m r' never e h = absurd (changed_none m x.0 g (λ r. record r { head = with_dirty 0 r.head }) r' e h)
made_empty config g (NameGet x n name) m r' never e h = absurd (let y = sym e ∙ h in cc)
made_empty config g (NamesAfter x n start) m r' never e h = absurd (let y = sym e ∙ h in cc)
made_empty config g (NameSet x n name child) m r' never e h = absurd (changed_none m x.0 g (λ r. record r { names = named r.names name child }) r' e h)
made_empty config g (Made x n child) m r' never e h = absurd (changed_none m child.0 g (λ r. record r { head = with_dirty 0 r.head }) r' e h)
made_empty config g (Unmark x n at dirty) m r' never e h = absurd (changed_none m x.0 g (λ r. record r { head = unmarked dirty r.head }) r' e h)
made_empty config g (GfidsAfter start dirty) m r' never e h = absurd (let y = sym e ∙ h in cc)
made_empty config g (SetLength x n keep count) m r' never e h = absurd (changed_none m x.0 g (λ r. with_length r keep count) r' e h)
made_empty config g (NamesPut x n start upto list) m r' never e h = absurd (changed_none m x.0 g (λ r. record r { names = replaced r.names start upto list }) r' e h)
made_empty config g (WriteChunks x n first chunks) m r' never e h = absurd (changed_none m x.0 g (λ r. with_bytes r (512 * first) (bytes_of chunks)) r' e h)
made_empty config g (Unmake x n child) m r' never e h = at (put_at m child.0 g None)
  where
    at : ((child.0 ≡ g) × (put m child.0 None g ≡ None)) ⊎ ((child.0 ≢ g) × (put m child.0 None g ≡ m g)) → (false ≡ true) × (head : Head) × (r' ≡ empty head)
    at (inl k) = absurd (let y = sym k.1 ∙ h in cc)
    at (inr k) = absurd (let y = sym e ∙ (sym k.1 ∙ h) in cc)
made_empty config g (Mark x n heal head) m r' never e h = at (put_at m x.0 g (Some (headed (m x.0) head)))
  where
    at : ((x.0 ≡ g) × (put m x.0 (Some (headed (m x.0) head)) g ≡ Some (headed (m x.0) head))) ⊎ ((x.0 ≢ g) × (put m x.0 (Some (headed (m x.0) head)) g ≡ m g)) → (false ≡ true) × (head : Head) × (r' ≡ empty head)
    at (inl k) = absurd (never x n heal head refl k.0)
    at (inr k) = absurd (let y = sym e ∙ (sym k.1 ∙ h) in cc)
made_empty config g (Make x n child) m r' never e h = at (put_at m child.gfid.0 g (Some (headed (m child.gfid.0) (new_head config child.kind))))
  where
    at : ((child.gfid.0 ≡ g) × (put m child.gfid.0 (Some (headed (m child.gfid.0) (new_head config child.kind))) g ≡ Some (headed (m child.gfid.0) (new_head config child.kind)))) ⊎ ((child.gfid.0 ≢ g) × (put m child.gfid.0 (Some (headed (m child.gfid.0) (new_head config child.kind))) g ≡ m g)) → ((child.gfid.0 == g) ≡ true) × (head : Head) × (r' ≡ empty head)
    at (inl k) = (grind (arith, nat_tests), new_head config child.kind, some_same (empty (new_head config child.kind)) r' (sym (ap (λ (o : Option Record). Some (headed o (new_head config child.kind))) (ap m k.0 ∙ e)) ∙ (sym k.1 ∙ h)))
    at (inr k) = absurd (let y = sym e ∙ (sym k.1 ∙ h) in cc)
