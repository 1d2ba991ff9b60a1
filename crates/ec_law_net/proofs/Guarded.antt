-- Requests of makers, those that are no act, and Queries; then every request that a grant guards.
use Rattle.std.proofs.Common.{◌≡◌, ◌⊎◌, ℕ, ◌*◌, Bool, true, false, cond, ◌==◌, ◌&&◌, Option, Some, None, List, [], ◌∷◌, refl, ◌∙◌, ap, subst, arith, inl, inr}
use Rattle.std.proofs.lemmas.Bool.Decides.{nat_tests}
use Rattle.std.specs.Option.{option_map}
use Rattle.ec_attr.specs.declared.gfid.Gfid.{Gfid}
use Rattle.ec_attr.specs.declared.head.Head.{Head}
use Rattle.ec_law_ballots.specs.Act.Act.{Make as Makes, Made as Mades, Unmake as Unmakes}
use Rattle.ec_law_net.specs.Turns.{View}
use Rattle.ec_law_net.specs.Link.{IsHead, IsQuery, IsMake, IsMade}
use Rattle.ec_attr.specs.declared.kind.Child.{Child}
use Rattle.ec_attr.specs.declared.kind.Domain.TheVariants.{Inode, Heal}
use Rattle.ec_attr.specs.declared.kind.Kind.TheVariants.{File, Dir}
use Rattle.ec_store.specs.Put.{put}
use Rattle.ec_store.specs.Records.{Record, head_at, headed, with_bytes, with_length, named}
use Rattle.ec_wire.specs.declared.request.Request.{Request}
use Rattle.ec_wire.specs.declared.request.Request.TheVariants.{Ask, Release, Query, PreOp, ReadChunks, WriteChunks, SetLength, PostOp, Clear, NameGet, NamesAfter, NameSet, NamesPut, Make, Made, Unmake, Mark, Unmark, GfidsAfter}
use Rattle.ec_brick.specs.State.{State as Brick}
use Rattle.ec_brick.specs.Step.{Failing, Out, by_row, work}
use Rattle.ec_brick.specs.Work.{bytes_of, new_head}
use Rattle.ec_brick.specs.declared.row.Row.{Row}
use Rattle.ec_brick.specs.declared.row.Need.TheVariants.{Reading, Writing, Healing, Either}
use Rattle.ec_brick.specs.declared.row.Check.TheVariants.{Present, OfKind, Content, Absent, Fresh}
use Rattle.ec_history.specs.Story.{is_done}
use Rattle.ec_history.specs.Run.{Net, call_of, is_number}
use Rattle.ec_law_net.specs.Turns.{counted, exclusive, is_shown}
use Rattle.ec_law_net.specs.Link.{Ready}
use Rattle.ec_law_net.proofs.Changed.{OwnGrants}
use Rattle.ec_law_net.proofs.Making.{made, make, unmake}
use Rattle.ec_law_net.proofs.Outcomes.{IsDone, IsNot, head_kept, outcome}
use Rattle.ec_law_net.proofs.Worked.{Worked, doer, head_apart, head_here, head_put, quiet, shown, worked_by}
use Rattle.ec_brick.specs.declared.row.Need.{Need}
use Rattle.ec_brick.specs.declared.row.Check.{Check}
use Rattle.ec_store.specs.Records.{replaced}
use Rattle.ec_law_net.proofs.Locks.{held}
use Rattle.ec_law_net.proofs.Requests.{fence_meets, on_pre, on_post, on_clear, on_mark, on_unmark, Works, absent, fresh}
use Rattle.ec_attr.specs.Head.{with_dirty}

abbrev of_child : Gfid → ℕ → Gfid → Check → Row
of_child x i child check = record { gfid = x; grant = i; need = Writing; heal = None; subject = child; check = check }

abbrev pub own_row : Gfid → ℕ → Need → Check → Row
own_row x i need check = record { gfid = x; grant = i; need = need; heal = None; subject = x; check = check }

member_apart : (set : ℕ → Bool) (x g : ℕ) → (x == g) ≡ false → cond (x == g) true (set g) ≡ set g
member_apart set x g e = rw e refl

module _ (n k g : ℕ) (m : Net) (v : View) (b a : ℕ) (s : Brick) (is : IsHead (head_at s.records g) v.core b) (gone : v.core.removed b ≡ s.removed g) (holder : v.core.holder b ≡ option_map v.of (exclusive g Inode s.asks)) (healer : v.core.healer b ≡ option_map (λ i. call_of (m.said i)) (exclusive g Heal s.asks)) (own : OwnGrants v.core) where
  on_make : (x : Gfid) (i : ℕ) (child : Child) (f : Failing) → (child.gfid.0 ≡ g → exclusive x.0 Inode s.asks ≡ Some i → v.core.present b ≡ false → v.core.removed b ≡ false → IsMake v b) → Works n k g m v b a s is gone holder healer own (Make x i child) f
  on_make x i child f ready = doer n k g b v s is gone (Make x i child) (of_child x i child.gfid Absent) child.gfid.0 (Makes b) (by_row s f (work s (Make x i child)) (Some (of_child x i child.gfid Absent))) refl (λ e. (head_apart s.records child.gfid.0 g _ e, refl)) done (outcome s (Make x i child) (of_child x i child.gfid Absent) f)
    where
      done : child.gfid.0 ≡ g → IsDone s (Make x i child) (of_child x i child.gfid Absent) (by_row s f (work s (Make x i child)) (Some (of_child x i child.gfid Absent))) → Worked n k g b (Makes b ∷ []) v.core s (work s (Make x i child)).done
      done e d =
          let h = absent i true (s.removed child.gfid.0) (head_at s.records child.gfid.0) d.allowed in
          let none = subst (λ (y : ℕ). head_at s.records y ≡ None) e h.0 in
          let missing = subst (λ (z : Option Head). IsHead z v.core b) none is in
          let kept = gone ∙ subst (λ (y : ℕ). s.removed y ≡ false) e h.1 in
          let grant = held x Inode s.asks i (fence_meets s.asks (of_child x i child.gfid Absent) d.passed).0 in
          worked_by n k g b (Makes b) v.core s (work s (Make x i child)).done (Some (new_head s.config child.kind)) (v.core.removed b) (make n k m v a b s.config child.kind missing kept (ready e grant missing kept)) (head_put s.records child.gfid.0 g (headed (s.records child.gfid.0) (new_head s.config child.kind)) e ∙ ap (λ (z : Head). Some z) (headed_is (s.records child.gfid.0))) gone refl refl
        where
          headed_is : (o : Option Record) → (headed o (new_head s.config child.kind)).head ≡ new_head s.config child.kind
          headed_is None = refl
          headed_is (Some y) = refl

  on_made : (x : Gfid) (i : ℕ) (child : Gfid) (f : Failing) → (child.0 ≡ g → exclusive x.0 Inode s.asks ≡ Some i → v.core.removed b ≡ false → IsMade v b) → Works n k g m v b a s is gone holder healer own (Made x i child) f
  on_made x i child f ready = doer n k g b v s is gone (Made x i child) (of_child x i child Fresh) child.0 (Mades b) (by_row s f (work s (Made x i child)) (Some (of_child x i child Fresh))) refl (λ e. (head_apart s.records child.0 g _ e, refl)) done (outcome s (Made x i child) (of_child x i child Fresh) f)
    where
      done : child.0 ≡ g → IsDone s (Made x i child) (of_child x i child Fresh) (by_row s f (work s (Made x i child)) (Some (of_child x i child Fresh))) → Worked n k g b (Mades b ∷ []) v.core s (work s (Made x i child)).done
      done e d =
          let h = fresh i true (s.removed child.0) (head_at s.records child.0) d.allowed in
          let now = subst (λ (y : ℕ). head_at s.records y ≡ Some h.0) e h.1 in
          let kept = gone ∙ subst (λ (y : ℕ). s.removed y ≡ false) e h.4 in
          let grant = held x Inode s.asks i (fence_meets s.asks (of_child x i child Fresh) d.passed).0 in
          worked_by n k g b (Mades b) v.core s (work s (Made x i child)).done (Some (with_dirty 0 h.0)) (v.core.removed b) (made n k m v a b h.0 (subst (λ (z : Option Head). IsHead z v.core b) now is) h.2 h.3 kept (ready e grant kept)) (head_here s.records child.0 g (with_dirty 0) e ∙ ap (option_map (with_dirty 0)) now) gone refl refl

  on_unmake : (x : Gfid) (i : ℕ) (child : Gfid) (f : Failing) → Works n k g m v b a s is gone holder healer own (Unmake x i child) f
  on_unmake x i child f = doer n k g b v s is gone (Unmake x i child) (of_child x i child Present) child.0 (Unmakes b) (by_row s f (work s (Unmake x i child)) (Some (of_child x i child Present))) refl (λ e. (head_apart s.records child.0 g None e, member_apart s.removed child.0 g e)) done (outcome s (Unmake x i child) (of_child x i child Present) f)
    where
      none : child.0 ≡ g → head_at (put s.records child.0 None) g ≡ None
      none e = at (g == child.0) (grind (arith, nat_tests))
        where
          at : (t : Bool) → t ≡ true → option_map (λ r. r.head) (cond t None (s.records g)) ≡ None
          at true f = refl
          at false f = absurd (cc)

      done : child.0 ≡ g → IsDone s (Unmake x i child) (of_child x i child Present) (by_row s f (work s (Unmake x i child)) (Some (of_child x i child Present))) → Worked n k g b (Unmakes b ∷ []) v.core s (work s (Unmake x i child)).done
      done e d = worked_by n k g b (Unmakes b) v.core s (work s (Unmake x i child)).done None true (unmake n k m v a b) (none e) (grind (arith, nat_tests)) refl refl

  unchanged : (q : Request) (r : Row) (o : Out) → head_at (work s q).done.records g ≡ head_at s.records g → (work s q).done.removed g ≡ s.removed g → IsDone s q r o ⊎ IsNot s o → (head_at o.brick.records g ≡ head_at s.records g) × (o.brick.removed g ≡ s.removed g) × (o.brick.asks ≡ s.asks) × (o.brick.up ≡ s.up)
  unchanged q r o h f (inl d) = (ap (λ (z : Brick). head_at z.records g) d.brick ∙ h, ap (λ (z : Brick). z.removed g) d.brick ∙ f, ap (λ (z : Brick). z.asks) d.brick, ap (λ (z : Brick). z.up) d.brick)
  unchanged q r o h f (inr d) = (d.heads g, d.removed g, d.asks, d.up)

  on_query : (x : Gfid) (i : ℕ) (f : Failing) → (x.0 ≡ g → exclusive g Inode s.asks ≡ Some i → (v.core.ballot a).number ≡ 0 → IsQuery v a b i) → Works n k g m v b a s is gone holder healer own (Query x i) f
  on_query x i f ready =
      let o = by_row s f (work s (Query x i)) (Some (own_row x i Reading Present)) in
      let u = unchanged (Query x i) (own_row x i Reading Present) o refl refl (outcome s (Query x i) (own_row x i Reading Present) f) in
      shown n k g b v s is gone a i ((x.0 == g) && is_number i (counted v.core a (exclusive g Inode s.asks))) (is_done o.says) (is_shown o.says) o.brick u.0 u.1 u.2 u.3 (λ h. let e = hit (exclusive g Inode s.asks) ((v.core.ballot a).number == 0) refl h in let r = ready e.0 e.1 e.2 in (holder ∙ (ap (option_map v.of) e.1 ∙ ap (λ (z : ℕ). Some z) r.own), r))
    where
      hit : (o : Option ℕ) (t : Bool) → ((v.core.ballot a).number == 0) ≡ t → ((x.0 == g) && is_number i (cond t o None)) ≡ true → (x.0 ≡ g) × (o ≡ Some i) × ((v.core.ballot a).number ≡ 0)
      hit o false e h = absurd (grind (arith, nat_tests))
      hit None true e h = absurd (grind (arith, nat_tests))
      hit (Some j) true e h = (grind (arith, nat_tests), ap (λ (z : ℕ). Some z) (grind (arith, nat_tests)), grind (arith, nat_tests))

  on_read : (x : Gfid) (i first count : ℕ) (f : Failing) → Works n k g m v b a s is gone holder healer own (ReadChunks x i first count) f
  on_read x i first count f = quiet n k g b v s is gone (ReadChunks x i first count) (own_row x i Reading (OfKind File)) _ refl refl (outcome s (ReadChunks x i first count) (own_row x i Reading (OfKind File)) f)

  on_write : (x : Gfid) (i first : ℕ) (chunks : List (List ℕ)) (f : Failing) → Works n k g m v b a s is gone holder healer own (WriteChunks x i first chunks) f
  on_write x i first chunks f = quiet n k g b v s is gone (WriteChunks x i first chunks) (own_row x i Either (Content File)) _ (head_kept s.records x.0 (λ r. with_bytes r (512 * first) (bytes_of chunks)) (λ r. refl) g) refl (outcome s (WriteChunks x i first chunks) (own_row x i Either (Content File)) f)

  on_length : (x : Gfid) (i keep count : ℕ) (f : Failing) → Works n k g m v b a s is gone holder healer own (SetLength x i keep count) f
  on_length x i keep count f = quiet n k g b v s is gone (SetLength x i keep count) (own_row x i Either (Content File)) _ (head_kept s.records x.0 (λ r. with_length r keep count) (λ r. refl) g) refl (outcome s (SetLength x i keep count) (own_row x i Either (Content File)) f)

  on_name : (x : Gfid) (i : ℕ) (name : List ℕ) (f : Failing) → Works n k g m v b a s is gone holder healer own (NameGet x i name) f
  on_name x i name f = quiet n k g b v s is gone (NameGet x i name) (own_row x i Reading (OfKind Dir)) _ refl refl (outcome s (NameGet x i name) (own_row x i Reading (OfKind Dir)) f)

  on_names : (x : Gfid) (i : ℕ) (start : Option (List ℕ)) (f : Failing) → Works n k g m v b a s is gone holder healer own (NamesAfter x i start) f
  on_names x i start f = quiet n k g b v s is gone (NamesAfter x i start) (own_row x i Reading (OfKind Dir)) _ refl refl (outcome s (NamesAfter x i start) (own_row x i Reading (OfKind Dir)) f)

  on_set : (x : Gfid) (i : ℕ) (name : List ℕ) (child : Option Child) (f : Failing) → Works n k g m v b a s is gone holder healer own (NameSet x i name child) f
  on_set x i name child f = quiet n k g b v s is gone (NameSet x i name child) (own_row x i Writing (OfKind Dir)) _ (head_kept s.records x.0 (λ r. record r { names = named r.names name child }) (λ r. refl) g) refl (outcome s (NameSet x i name child) (own_row x i Writing (OfKind Dir)) f)

  on_put : (x : Gfid) (i : ℕ) (start upto : Option (List ℕ)) (list : List (List ℕ × Child)) (f : Failing) → Works n k g m v b a s is gone holder healer own (NamesPut x i start upto list) f
  on_put x i start upto list f = quiet n k g b v s is gone (NamesPut x i start upto list) (own_row x i Healing (Content Dir)) _ (head_kept s.records x.0 (λ r. record r { names = replaced r.names start upto list }) (λ r. refl) g) refl (outcome s (NamesPut x i start upto list) (own_row x i Healing (Content Dir)) f)

-- a grant guards the request
abbrev pub IsGuarded : Request → Type 0
IsGuarded (Ask x domain kind) = ⊥
IsGuarded (Release x i) = ⊥
IsGuarded (GfidsAfter start dirty) = ⊥
IsGuarded q = Unit {0}

module _ (n k g : ℕ) (m : Net) (v : View) (b a : ℕ) (is : IsHead (head_at (m.brick b).records g) v.core b) (gone : v.core.removed b ≡ (m.brick b).removed g) (holder : v.core.holder b ≡ option_map v.of (exclusive g Inode (m.brick b).asks)) (healer : v.core.healer b ≡ option_map (λ i. call_of (m.said i)) (exclusive g Heal (m.brick b).asks)) (own : OwnGrants v.core) where
  pub works : (q : Request) (f : Failing) → IsGuarded q → Ready n k g m v a b q → Works n k g m v b a (m.brick b) is gone holder healer own q f
  works (Ask x domain kind) f w r = absurd w
  works (Release x i) f w r = absurd w
  works (Query x i) f w r = on_query n k g m v b a (m.brick b) is gone holder healer own x i f r
  works (PreOp x i at number) f w r = on_pre n k g m v b a (m.brick b) is gone holder healer own x i at number f r
  works (ReadChunks x i first count) f w r = on_read n k g m v b a (m.brick b) is gone holder healer own x i first count f
  works (WriteChunks x i first chunks) f w r = on_write n k g m v b a (m.brick b) is gone holder healer own x i first chunks f
  works (SetLength x i keep count) f w r = on_length n k g m v b a (m.brick b) is gone holder healer own x i keep count f
  works (PostOp x i at version size attr) f w r = on_post n k g m v b a (m.brick b) is gone holder healer own x i at version size attr f r
  works (Clear x i at) f w r = on_clear n k g m v b a (m.brick b) is gone holder healer own x i at f r
  works (NameGet x i name) f w r = on_name n k g m v b a (m.brick b) is gone holder healer own x i name f
  works (NamesAfter x i start) f w r = on_names n k g m v b a (m.brick b) is gone holder healer own x i start f
  works (NameSet x i name child) f w r = on_set n k g m v b a (m.brick b) is gone holder healer own x i name child f
  works (NamesPut x i start upto list) f w r = on_put n k g m v b a (m.brick b) is gone holder healer own x i start upto list f
  works (Make x i child) f w r = on_make n k g m v b a (m.brick b) is gone holder healer own x i child f r
  works (Made x i child) f w r = on_made n k g m v b a (m.brick b) is gone holder healer own x i child f r
  works (Unmake x i child) f w r = on_unmake n k g m v b a (m.brick b) is gone holder healer own x i child f
  works (Mark x i heal head) f w r = on_mark n k g m v b a (m.brick b) is gone holder healer own x i heal head f r
  works (Unmark x i at dirty) f w r = on_unmark n k g m v b a (m.brick b) is gone holder healer own x i at dirty f r
  works (GfidsAfter start dirty) f w r = absurd w
