-- Sets that grow, record after record and brick after brick.
use Rattle.std.proofs.Common.{◌≡◌, ◌≢◌, ◌⊎◌, inl, inr, ℕ, zero, suc, ◌+◌, ◌<◌, ◌≤◌, ◌==◌, Bool, true, false, cond, Option, Some, None, List, [], ◌∷◌, length, refl, sym, ap, subst, ◌∙◌, eq-eqb, arith}
use Rattle.std.proofs.lemmas.Bool.{cases_eq}
use Rattle.std.proofs.lemmas.Bool.Decides.{eqb_tells}
use Rattle.std.proofs.lemmas.Option.{slice_get_within}
use Rattle.std.specs.Prelude.{slice_get}
use Rattle.ec_attr.specs.declared.gfid.Gfid.{Gfid}
use Rattle.ec_attr.specs.declared.kind.Kind.TheVariants.{Dir, File}
use Rattle.ec_brick.specs.Opening.{IsNamed}
use Rattle.ec_brick.specs.Walk.{before}
use Rattle.ec_brick.proofs.Seeing.{where_put}
use Rattle.ec_brick.proofs.Walking.{before_first}
use Rattle.ec_index.specs.Members.{with_member}
use Rattle.ec_store.specs.Put.{put}
use Rattle.ec_store.specs.Reads.{NextIs}
use Rattle.ec_store.specs.Records.{Record, Records}
use Rattle.ec_report.specs.Reading.{GrowsBy, IsSetOf, LeadsTo, OfFirst}
use Rattle.ec_report.specs.Records.{HasRecord, OfAny}

pub false_true : false ≡ true → ⊥
false_true e = cc

none_some : (o : Option Record) (r : Record) → o ≡ None → o ≡ Some r → ⊥
none_some o r e f = let k : ◌≡◌ {A = Option Record} None (Some r) = sym e ∙ f in cc

same_record : (o : Option Record) (r q : Record) → o ≡ Some r → o ≡ Some q → r ≡ q
same_record o r q e f = let k : ◌≡◌ {A = Option Record} (Some r) (Some q) = sym e ∙ f in cc

pub grows_none : (P : ℕ → Type 0) (set : ℕ → Bool) → ((g : ℕ) → P g → ⊥) → GrowsBy P set set
grows_none P set none = record { kept = λ g e. e; added = λ g p. absurd (none g p); only = λ g e. inl e }

pub grows_then : (P Q R : ℕ → Type 0) (a b c : ℕ → Bool) → GrowsBy P a b → GrowsBy Q b c → ((g : ℕ) → P g ⊎ Q g → R g) → ((g : ℕ) → R g → P g ⊎ Q g) → GrowsBy R a c
grows_then P Q R a b c x y to from = record {
  kept = λ g e. y.kept g (x.kept g e);
  added = λ g r. elim (from g r) [ inl p ↦ y.kept g (x.added g p) | inr q ↦ y.added g q ];
  only = λ g e. elim (y.only g e) [ inl f ↦ elim (x.only g f) [ inl h ↦ inl h | inr p ↦ inr (to g (inl p)) ] | inr q ↦ inr (to g (inr q)) ];
}

-- from nothing on
pub set_of : (P : ℕ → Type 0) (a b : ℕ → Bool) → ((g : ℕ) → a g ≡ false) → GrowsBy P a b → IsSetOf P b
set_of P a b none x = record { all = x.added; only = λ g e. elim (x.only g e) [ inl h ↦ absurd (false_true (sym (none g) ∙ h)) | inr p ↦ p ] }

put_here : (m : Records) (g : ℕ) (r : Record) → put m g (Some r) g ≡ Some r
put_here m g r = elim (where_put m g (Some r) g) [ inl w ↦ w.1 | inr w ↦ absurd (w.0 refl) ]

put_there : (m : Records) (g d : ℕ) (r q : Record) → m g ≡ None → m d ≡ Some q → put m g (Some r) d ≡ Some q
put_there m g d r q absent is = elim (where_put m g (Some r) d) [ inl w ↦ absurd (none_some (m d) q (ap m w.0 ∙ absent) is) | inr w ↦ w.1 ∙ is ]

-- one record more
pub kept_more : (m : Records) (g : ℕ) (r : Record) (a b c : ℕ → Bool) → m g ≡ None → GrowsBy (HasRecord m) a b → GrowsBy (λ h. h ≡ g) b c → GrowsBy (HasRecord (put m g (Some r))) a c
kept_more m g r a b c absent x y = grows_then (HasRecord m) (λ h. h ≡ g) (HasRecord (put m g (Some r))) a b c x y to from where
  to : (h : ℕ) → HasRecord m h ⊎ (h ≡ g) → HasRecord (put m g (Some r)) h
  to h (inl w) e = elim (where_put m g (Some r) h) [ inl k ↦ w (ap m k.0 ∙ absent) | inr k ↦ w (sym k.1 ∙ e) ]
  to h (inr w) e = none_some (put m g (Some r) g) r (ap (put m g (Some r)) (sym w) ∙ e) (put_here m g r)

  from : (h : ℕ) → HasRecord (put m g (Some r)) h → HasRecord m h ⊎ (h ≡ g)
  from h w = elim (where_put m g (Some r) h) [ inl k ↦ inr k.0 | inr k ↦ inl (λ e. w (k.1 ∙ e)) ]

pub named_more : (m : Records) (g : ℕ) (r : Record) (a b c : ℕ → Bool) → m g ≡ None → GrowsBy (IsNamed m) a b → GrowsBy (λ h. (r.head.kind ≡ Dir) × LeadsTo r.names h) b c → GrowsBy (IsNamed (put m g (Some r))) a c
named_more m g r a b c absent x y = grows_then (IsNamed m) (λ h. (r.head.kind ≡ Dir) × LeadsTo r.names h) (IsNamed (put m g (Some r))) a b c x y to from where
  to : (h : ℕ) → IsNamed m h ⊎ ((r.head.kind ≡ Dir) × LeadsTo r.names h) → IsNamed (put m g (Some r)) h
  to h (inl (d, q, n, c, is, dir, leads, at)) = (d, q, n, c, put_there m g d r q absent is, dir, leads, at)
  to h (inr (dir, (n, c, leads, at))) = (g, r, n, c, put_here m g r, dir, leads, at)

  from : (h : ℕ) → IsNamed (put m g (Some r)) h → IsNamed m h ⊎ ((r.head.kind ≡ Dir) × LeadsTo r.names h)
  from h (d, q, n, c, is, dir, leads, at) = elim (where_put m g (Some r) d) [
    | inl k ↦ (let e : q ≡ r = same_record (put m g (Some r) d) q r is k.1 in inr (ap (λ (x : Record). x.head.kind) (sym e) ∙ dir, (n, c, ap (λ (x : Record). x.names n) (sym e) ∙ leads, at)))
    | inr k ↦ inl (d, q, n, c, sym k.1 ∙ is, dir, leads, at)
  ]

-- before the first record
pub kept_first : (m : Records) (next : Option Gfid) (set : ℕ → Bool) → NextIs m None next → GrowsBy (HasRecord (before next m)) set set
kept_first m next set is = grows_none (HasRecord (before next m)) set (λ g w. w (before_first m next is g))

pub named_first : (m : Records) (next : Option Gfid) (set : ℕ → Bool) → NextIs m None next → GrowsBy (IsNamed (before next m)) set set
named_first m next set is = grows_none (IsNamed (before next m)) set none where
  none : (g : ℕ) → IsNamed (before next m) g → ⊥
  none g (d, q, n, c, at, dir, leads, to) = none_some (before next m d) q (before_first m next is d) at

-- what is found goes by what each gfid has
pub grows_same : (P : Records → ℕ → Type 0) (m n : Records) (a b : ℕ → Bool) → ((h : ℕ) → m h ≡ n h) → GrowsBy (P m) a b → GrowsBy (P n) a b
grows_same P m n a b same x = let e : m ≡ n = λ i h. same h i in subst (λ (r : Records). GrowsBy (P r) a b) e x

-- of no brick
pub first_none : (P : Records → ℕ → Type 0) (records : List Records) (set : ℕ → Bool) → GrowsBy (OfFirst 0 P records) set set
first_none P records set = grows_none (OfFirst 0 P records) set none where
  none : (g : ℕ) → OfFirst 0 P records g → ⊥
  none g (b, m, lt, is, p) = absurd (omega (arith, lt))

same_records : (o : Option Records) (m n : Records) → o ≡ Some m → o ≡ Some n → m ≡ n
same_records o m n e f = let k : ◌≡◌ {A = Option Records} (Some m) (Some n) = sym e ∙ f in cc

-- one brick more
pub first_more : (P : Records → ℕ → Type 0) (records : List Records) (n : ℕ) (m : Records) (a b c : ℕ → Bool) → slice_get records n ≡ Some m → GrowsBy (OfFirst n P records) a b → GrowsBy (P m) b c → GrowsBy (OfFirst (n + 1) P records) a c
first_more P records n m a b c is x y = grows_then (OfFirst n P records) (P m) (OfFirst (n + 1) P records) a b c x y to from where
  to : (g : ℕ) → OfFirst n P records g ⊎ P m g → OfFirst (n + 1) P records g
  to g (inl (d, q, lt, at, p)) = (d, q, omega (arith, lt), at, p)
  to g (inr p) = (n, m, omega arith, is, p)

  from : (g : ℕ) → OfFirst (n + 1) P records g → OfFirst n P records g ⊎ P m g
  from g (d, q, lt, at, p) = elim (cases_eq d n) [
    | inl e ↦ inr (subst (λ (r : Records). P r g) (same_records (slice_get records n) q m (ap (slice_get records) (sym e) ∙ at) is) p)
    | inr e ↦ inl (d, q, omega (arith, lt, e), at, p)
  ]

cond_true : (t b : Bool) → b ≡ true → cond t true b ≡ true
cond_true true b e = refl
cond_true false b e = e

-- one gfid is put in
pub put_grows : (set new : ℕ → Bool) (g : ℕ) → new ≡ with_member set g true → GrowsBy (λ h. h ≡ g) set new
put_grows set new g is = record {
  kept = λ h e. ap (λ f. f h) is ∙ cond_true (g == h) (set h) e;
  added = λ h e. ap (λ f. f h) is ∙ ap (λ t. cond t true (set h)) (eq-eqb g h (sym e));
  only = λ h e. at h (eqb_tells g h) e;
} where
  at : (h : ℕ) → (((g == h) ≡ true) × (g ≡ h)) ⊎ (((g == h) ≡ false) × (g ≢ h)) → new h ≡ true → (set h ≡ true) ⊎ (h ≡ g)
  at h (inl w) e = inr (sym w.1)
  at h (inr w) e = inl (sym (ap (λ t. cond t true (set h)) w.0) ∙ (sym (ap (λ f. f h) is) ∙ e))

-- the names of a record count where it is a directory's
pub file_names : (r : Record) (set : ℕ → Bool) → r.head.kind ≡ File → GrowsBy (λ h. (r.head.kind ≡ Dir) × LeadsTo r.names h) set set
file_names r set file = grows_none (λ h. (r.head.kind ≡ Dir) × LeadsTo r.names h) set (λ g w. no_file (sym file ∙ w.0)) where
  no_file : File ≡ Dir → ⊥
  no_file e = cc

pub dir_names : (r : Record) (a b : ℕ → Bool) → r.head.kind ≡ Dir → GrowsBy (LeadsTo r.names) a b → GrowsBy (λ h. (r.head.kind ≡ Dir) × LeadsTo r.names h) a b
dir_names r a b dir x = record {
  kept = x.kept;
  added = λ g w. x.added g w.1;
  only = λ g e. elim (x.only g e) [ inl h ↦ inl h | inr l ↦ inr (dir, l) ];
}

-- the bricks of a list are all of them, where there are no more
pub set_any : (P : Records → ℕ → Type 0) (records : List Records) (n : ℕ) (set : ℕ → Bool) → length records ≤ n → GrowsBy (OfFirst n P records) (λ g. false) set → IsSetOf (OfAny P records) set
set_any P records n set few x = record {
  all = λ g w. x.added g (w.0, w.1, within w.0 w.1 w.2, w.2, w.3);
  only = λ g e. elim (x.only g e) [ inl h ↦ absurd (false_true h) | inr w ↦ (w.0, w.1, w.3, w.4) ];
} where
  within : (b : ℕ) (m : Records) → slice_get records b ≡ Some m → b < n
  within b m is = let lt = slice_get_within records b m is in omega (arith, few, lt)

-- a set without a gfid
pub first_empty : (P : Records → ℕ → Type 0) (records : List Records) (set : ℕ → Bool) → ((g : ℕ) → set g ≡ false) → GrowsBy (OfFirst 0 P records) (λ g. false) set
first_empty P records set none = record { kept = λ g e. absurd (false_true e); added = λ g w. absurd (omega (arith, w.2)); only = λ g e. inl (sym (none g) ∙ e) }

-- the records of brick b
pub some_at : (records : List Records) (b : ℕ) → b < length records → (m : Records) × (slice_get records b ≡ Some m)
some_at [] b lt = absurd (omega (arith, lt))
some_at (r ∷ records) zero lt = (r, refl)
some_at (r ∷ records) (suc b) lt = some_at records b (omega (arith, lt))
