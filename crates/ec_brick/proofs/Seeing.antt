-- What is seen after one record more, and after one page of names more.
use Rattle.std.proofs.Common.{◌≡◌, ◌≢◌, ◌⊎◌, inl, inr, ℕ, ◌≤◌, ◌^◌, Bool, true, false, cond, max, ◌==◌, nat_le, fold, Option, Some, None, List, [], ◌∷◌, refl, sym, ap, subst, ◌∙◌, arith}
use Rattle.std.specs.Option.{option_map}
use Rattle.std.proofs.lemmas.Bool.{eq-eqb}
use Rattle.std.proofs.lemmas.Bool.Decides.{nat_tests, eqb_tells}
use Rattle.std.specs.List.{AllByRecursion}
use Rattle.std.specs.BTreeMap.{is_at}
use Rattle.std.specs.Ordering.{nat_cmp}
use Rattle.std.specs.Cmp.Lexicographic.{slice_cmp}
use Rattle.ec_attr.specs.declared.config.Config.{Config}
use Rattle.ec_attr.specs.declared.head.Head.{Head}
use Rattle.ec_attr.specs.declared.kind.Child.{Child}
use Rattle.ec_attr.specs.declared.kind.Kind.TheVariants.{Dir, File}
use Rattle.ec_index.specs.declared.index.Index.{Index}
use Rattle.ec_index.specs.Members.{members, with_member}
use Rattle.ec_store.specs.Put.{put}
use Rattle.ec_store.specs.Records.{Record, Records, head_at, headed, listed, with_head}
use Rattle.ec_store.specs.Pages.{Page}
use Rattle.ec_brick.specs.Opening.{Accepts, AcceptsAll, IsNamed, IsTaken, IsUnused, first_root}
use Rattle.ec_brick.specs.Walk.{Sees, raised, renamed}
use Rattle.ec_brick.specs.declared.seen.Seen.{Seen}
use Rattle.ec_brick.proofs.NamePages.{Extends}
use Rattle.ec_brick.specs.Index.{dirty_of, is_dirty, is_dirty_record}

-- what stands at a gfid where one record was put
pub where_put : (m : Records) (g : ℕ) (x : Option Record) (h : ℕ) → ((h ≡ g) × (put m g x h ≡ x)) ⊎ ((h ≢ g) × (put m g x h ≡ m h))
where_put m g x h = at (eqb_tells h g) where
  at : (((h == g) ≡ true) × (h ≡ g)) ⊎ (((h == g) ≡ false) × (h ≢ g)) → ((h ≡ g) × (put m g x h ≡ x)) ⊎ ((h ≢ g) × (put m g x h ≡ m h))
  at (inl w) = inl (w.1, ap (λ b. cond b x (m h)) w.0)
  at (inr w) = inr (w.1, ap (λ b. cond b x (m h)) w.0)

same_record : (o : Option Record) (r q : Record) → o ≡ Some r → o ≡ Some q → q ≡ r
same_record o r q e f = cc

head_of : (o : Option Record) (r : Record) (h : Head) → o ≡ Some r → option_map (λ (r : Record). r.head) o ≡ Some h → h ≡ r.head
head_of o r h e f = let k : ◌≡◌ {A = Option Head} (Some r.head) (Some h) = rw e at f in cc

pub accepts_put : (config : Config) (m : Records) (g : ℕ) (r : Record) → Accepts config g r.head → ((h : ℕ) (q : Head) → h ≢ g → head_at m h ≡ Some q → Accepts config h q) → AcceptsAll config (put m g (Some r))
accepts_put config m g r a others h q e = at (where_put m g (Some r) h) where
  at : ((h ≡ g) × (put m g (Some r) h ≡ Some r)) ⊎ ((h ≢ g) × (put m g (Some r) h ≡ m h)) → Accepts config h q
  at (inl w) = subst (λ x. Accepts config x q) (sym w.0) (subst (Accepts config g) (sym (head_of (put m g (Some r) h) r q w.1 e)) a)
  at (inr w) = others h q w.0 (sym (ap (option_map (λ (r : Record). r.head)) w.1) ∙ e)

pub dirty_put : (set : ℕ → Bool) (m : Records) (g : ℕ) (r : Record) → ((h : ℕ) → set h ≡ dirty_of m h) → (h : ℕ) → with_member set g (is_dirty r.head) h ≡ dirty_of (put m g (Some r)) h
dirty_put set m g r same h = elim (where_put m g (Some r) h) [ inl w ↦ ap (λ b. cond b (is_dirty r.head) (set h)) (eq-eqb g h (sym w.0)) ∙ sym (ap is_dirty_record w.1) | inr w ↦ ap (λ b. cond b (is_dirty r.head) (set h)) (apart (eqb_tells g h) w.0) ∙ same h ∙ sym (ap is_dirty_record w.1) ] where
  apart : (((g == h) ≡ true) × (g ≡ h)) ⊎ (((g == h) ≡ false) × (g ≢ h)) → h ≢ g → (g == h) ≡ false
  apart (inl k) w = absurd (w (sym k.1))
  apart (inr k) w = k.0

-- what was taken stays so, where each record keeps its kind and its names
pub record Keeps (m n : Records) : Type 0 where
  pub each : (d : ℕ) (r : Record) → m d ≡ Some r → (q : Record) × (n d ≡ Some q) × (q.head ≡ r.head) × ((name : List ℕ) (c : Child) → r.names name ≡ Some c → q.names name ≡ Some c)

pub some_of : (o : Option Record) → o ≢ None → (r : Record) × (o ≡ Some r)
some_of None w = absurd (w refl)
some_of (Some r) w = (r, refl)

not_none : (o : Option Record) (r : Record) → o ≡ Some r → o ≢ None
not_none o r e f = let k : ◌≡◌ {A = Option Record} (Some r) None = rw e at f in cc

pub keeps_taken : (m n : Records) → Keeps m n → (g : ℕ) → IsTaken m g → IsTaken n g
keeps_taken m n keeps g (inl w) = let r = some_of (m g) w in let q = keeps.each g r.0 r.1 in inl (not_none (n g) q.0 q.1)
keeps_taken m n keeps g (inr w) = inr (w.0, named w.1) where
  named : IsNamed m g → IsNamed n g
  named (d, r, name, c, at, dir, leads, is) = let q = keeps.each d r at in (d, q.0, name, c, q.1, ap (λ (h : Head). h.kind) q.2 ∙ dir, q.3 name c leads, is)

put_here : (m : Records) (g : ℕ) (x : Option Record) → put m g x g ≡ x
put_here m g x = elim (where_put m g x g) [ inl w ↦ w.1 | inr w ↦ absurd (w.0 refl) ]

none_some : (o : Option Record) (r : Record) → o ≡ None → o ≡ Some r → ⊥
none_some o r e f = not_none o r f e

no_child : (o : Option Child) (c : Child) → o ≡ None → o ≡ Some c → ⊥
no_child o c e f = let k : ◌≡◌ {A = Option Child} None (Some c) = sym e ∙ f in cc

keeps_new : (m : Records) (g : ℕ) (x : Record) → m g ≡ None → Keeps m (put m g (Some x))
keeps_new m g x absent = record { each = λ d r e. elim (where_put m g (Some x) d) [ inl w ↦ absurd (none_some (m d) r (ap m w.0 ∙ absent) e) | inr w ↦ (r, w.1 ∙ e, refl, λ name c leads. leads) ] }

max_cases : (a b : ℕ) → (max a b ≡ a) ⊎ (max a b ≡ b)
max_cases a b = elim (nat_le_cases a b) [ inl w ↦ inr (omega (arith, w)) | inr w ↦ inl (omega (arith, w)) ] where
  nat_le_cases : (a b : ℕ) → (a ≤ b) ⊎ (b ≤ a)
  nat_le_cases a b = grind arith

pub new_record : (config : Config) (m : Records) (g : ℕ) (r : Record) (s t : Seen) → Accepts config g r.head → m g ≡ None → Sees config m s
    → members t.index ≡ with_member (members s.index) g (is_dirty r.head) → t.greatest ≡ max s.greatest g
    → (t.used ≡ false → (s.used ≡ false) × (g ≡ 1) × (r.head ≡ first_root config))
    → (t.used ≡ true → (s.used ≡ true) ⊎ ¬ ((g ≡ 1) × (r.head ≡ first_root config)))
    → Sees config (put m g (Some (renamed r (λ n. None)))) t
new_record config m g r s t accepted absent sees index greatest unused used = record {
  accepts = accepts_put config m g fresh accepted (λ h q _ e. sees.accepts h q e);
  index = λ h. ap (λ (f : ℕ → Bool). f h) index ∙ dirty_put (members s.index) m g fresh sees.index h;
  most = most;
  taken = elim (max_cases s.greatest g) [ inl w ↦ elim sees.taken [ inl z ↦ inl (greatest ∙ w ∙ z) | inr k ↦ inr (subst (IsTaken now) (sym (greatest ∙ w)) (keeps_taken m now (keeps_new m g fresh absent) s.greatest k)) ] | inr w ↦ inr (subst (IsTaken now) (sym (greatest ∙ w)) (inl (not_none (now g) fresh (put_here m g (Some fresh))))) ];
  unused = λ u h q e. elim (where_put m g (Some fresh) h) [ inl w ↦ first u h q w.0 (same_record (now h) fresh q w.1 e) | inr w ↦ sees.unused (unused u).0 h q (sym w.1 ∙ e) ];
  used = λ u w. elim (used u) [ inl v ↦ sees.used v (λ h q e. elim (where_put m g (Some fresh) h) [ inl k ↦ absurd (none_some (m h) q (ap m k.0 ∙ absent) e) | inr k ↦ w h q (k.1 ∙ e) ]) | inr v ↦ v ((w g fresh (put_here m g (Some fresh))).0, (w g fresh (put_here m g (Some fresh))).1) ];
} where
  fresh : Record
  fresh = renamed r (λ n. None)

  now : Records
  now = put m g (Some fresh)

  first : t.used ≡ false → (h : ℕ) (q : Record) → h ≡ g → q ≡ fresh → (h ≡ 1) × (q.head ≡ first_root config) × ((n : List ℕ) → q.names n ≡ None)
  first u h q e f = (e ∙ (unused u).1, ap (λ (x : Record). x.head) f ∙ (unused u).2, λ n. ap (λ (x : Record). x.names n) f)

  named : (h : ℕ) → h ≤ 2 ^ 96 → IsNamed now h → IsNamed m h
  named h le (d, q, name, c, at, dir, leads, is) = elim (where_put m g (Some fresh) d) [ inl w ↦ absurd (no_child (q.names name) c (ap (λ (x : Record). x.names name) (same_record (now d) fresh q w.1 at)) leads) | inr w ↦ (d, q, name, c, sym w.1 ∙ at, dir, leads, is) ]

  most : (h : ℕ) → IsTaken now h → h ≤ t.greatest
  most h (inl w) = elim (where_put m g (Some fresh) h) [ inl k ↦ omega (arith, k.0, greatest) | inr k ↦ (let b = sees.most h (inl (λ e. w (k.1 ∙ e))) in omega (arith, b, greatest)) ]
  most h (inr w) = let b = sees.most h (inr (w.0, named h w.0 w.1)) in omega (arith, b, greatest)

raised_above : (g : ℕ) (e : List ℕ × Child) → g ≤ raised g e
raised_above g e = elim (nat_le e.1.gfid.0 (2 ^ 96)) as (λ b. g ≤ cond b (max g e.1.gfid.0) g) [ true ↦ omega arith | false ↦ omega arith ]

fold_above : (page : Page) (g : ℕ) → g ≤ fold raised g page
fold_above [] g = omega arith
fold_above (e ∷ es) g = let a = raised_above g e in let b = fold_above es (raised g e) in omega (arith, a, b)

-- each child that a page lists and that counts is no greater
fold_listed : (page : Page) (g : ℕ) (n : List ℕ) (c : Child) → listed page n ≡ Some c → c.gfid.0 ≤ 2 ^ 96 → c.gfid.0 ≤ fold raised g page
fold_listed [] g n c l le = absurd (no_child None c refl l)
fold_listed (e ∷ es) g n c l le = at (is_at (slice_cmp nat_cmp n) e.0) l (λ k. fold_listed es (raised g e) n c k le) where
  at : (b : Bool) → cond b (Some e.1) (listed es n) ≡ Some c → (listed es n ≡ Some c → c.gfid.0 ≤ fold raised (raised g e) es) → c.gfid.0 ≤ fold raised (raised g e) es
  at false k rest = rest k
  at true k rest = let same : e.1 ≡ c = cc in let x : e.1.gfid.0 ≡ c.gfid.0 = ap (λ (y : Child). y.gfid.0) same in let b = fold_above es (raised g e) in let a : c.gfid.0 ≤ raised g e = counted (nat_le e.1.gfid.0 (2 ^ 96)) refl x in omega (arith, a, b) where
    counted : (b : Bool) → nat_le e.1.gfid.0 (2 ^ 96) ≡ b → e.1.gfid.0 ≡ c.gfid.0 → c.gfid.0 ≤ cond b (max g e.1.gfid.0) g
    counted true w x = omega (arith, x)
    counted false w x = absurd (grind (arith, nat_tests))

abbrev FromName : (List ℕ → Option Child) → ℕ → Type 0
FromName new g = (n : List ℕ) × (c : Child) × (new n ≡ Some c) × (c.gfid.0 ≤ 2 ^ 96) × (g ≡ c.gfid.0)

raised_from : (new : List ℕ → Option Child) (g : ℕ) (e : List ℕ × Child) → new e.0 ≡ Some e.1 → (raised g e ≡ g) ⊎ FromName new (raised g e)
raised_from new g e is = at (nat_le e.1.gfid.0 (2 ^ 96)) refl where
  at : (b : Bool) → nat_le e.1.gfid.0 (2 ^ 96) ≡ b → (cond b (max g e.1.gfid.0) g ≡ g) ⊎ FromName new (cond b (max g e.1.gfid.0) g)
  at false w = inl refl
  at true w = let le : e.1.gfid.0 ≤ 2 ^ 96 = grind (arith, nat_tests) in elim (max_cases g e.1.gfid.0) [ inl k ↦ inl k | inr k ↦ inr (e.0, e.1, is, le, k) ]

fold_from : (new : List ℕ → Option Child) (page : Page) (g : ℕ) → AllByRecursion (λ (e : List ℕ × Child). new e.0 ≡ Some e.1) page → (fold raised g page ≡ g) ⊎ FromName new (fold raised g page)
fold_from new [] g all = inl refl
fold_from new (e ∷ es) g all = elim (fold_from new es (raised g e) all.1) [ inl w ↦ elim (raised_from new g e all.0) [ inl k ↦ inl (w ∙ k) | inr k ↦ inr (subst (FromName new) (sym w) k) ] | inr w ↦ inr w ]

-- more names of one record
keeps_names : (m : Records) (g : ℕ) (r : Record) (old new : List ℕ → Option Child) → ((n : List ℕ) (c : Child) → old n ≡ Some c → new n ≡ Some c) → Keeps (put m g (Some (renamed r old))) (put m g (Some (renamed r new)))
keeps_names m g r old new kept = record { each = λ d q e. elim (where_put m g (Some (renamed r old)) d) [ inl w ↦ here d q w.0 (same_record (put m g (Some (renamed r old)) d) (renamed r old) q w.1 e) | inr w ↦ (q, other d w.0 ∙ sym w.1 ∙ e, refl, λ name c leads. leads) ] } where
  other : (d : ℕ) → d ≢ g → put m g (Some (renamed r new)) d ≡ m d
  other d apart = elim (where_put m g (Some (renamed r new)) d) [ inl w ↦ absurd (apart w.0) | inr w ↦ w.1 ]

  here : (d : ℕ) (q : Record) → d ≡ g → q ≡ renamed r old → (p : Record) × (put m g (Some (renamed r new)) d ≡ Some p) × (p.head ≡ q.head) × ((name : List ℕ) (c : Child) → q.names name ≡ Some c → p.names name ≡ Some c)
  here d q e f = (renamed r new, ap (put m g (Some (renamed r new))) e ∙ put_here m g (Some (renamed r new)), sym (ap (λ (x : Record). x.head) f), λ name c leads. kept name c (sym (ap (λ (x : Record). x.names name) f) ∙ leads))

put_other : (m : Records) (g : ℕ) (x : Option Record) (d : ℕ) → d ≢ g → put m g x d ≡ m d
put_other m g x d apart = elim (where_put m g x d) [ inl w ↦ absurd (apart w.0) | inr w ↦ w.1 ]

no_names : (o : Option Child) → ((c : Child) → o ≡ Some c → ⊥) → o ≡ None
no_names None f = refl
no_names (Some c) f = absurd (f c refl)

pub more_names : (config : Config) (m : Records) (g : ℕ) (r : Record) (s t : Seen) (page : Page) (old new : List ℕ → Option Child) → r.head.kind ≡ Dir → Extends old new page
    → Sees config (put m g (Some (renamed r old))) s → t.index ≡ s.index → t.greatest ≡ fold raised s.greatest page
    → (t.used ≡ false → (s.used ≡ false) × (page ≡ [])) → (t.used ≡ true → (s.used ≡ true) ⊎ (page ≢ []))
    → Sees config (put m g (Some (renamed r new))) t
more_names config m g r s t page old new dir ext sees index greatest unused used = record {
  accepts = accepts_put config m g after (sees.accepts g r.head (ap (option_map (λ (x : Record). x.head)) (put_here m g (Some before)))) (λ h q w e. sees.accepts h q (ap (option_map (λ (x : Record). x.head)) (put_other m g (Some before) h w) ∙ e));
  index = λ h. ap (λ (i : Index). members i h) index ∙ sees.index h ∙ same_dirty h;
  most = most;
  taken = elim (fold_from new page s.greatest ext.shown) [ inl w ↦ elim sees.taken [ inl z ↦ inl (greatest ∙ w ∙ z) | inr k ↦ inr (subst (IsTaken now) (sym (greatest ∙ w)) (keeps_taken was now (keeps_names m g r old new ext.kept) s.greatest k)) ] | inr w ↦ inr (subst (IsTaken now) (sym greatest) (inr (subst (λ (x : ℕ). x ≤ 2 ^ 96) (sym w.4) w.3, (g, after, w.0, w.1, put_here m g (Some after), dir, w.2, sym w.4)))) ];
  unused = λ u h q e. elim (where_put m g (Some after) h) [ inl w ↦ first u h q w.0 (same_record (now h) after q w.1 e) | inr w ↦ sees.unused (unused u).0 h q (put_other m g (Some before) h w.0 ∙ sym w.1 ∙ e) ];
  used = λ u w. elim (used u) [ inl v ↦ sees.used v (λ h q e. elim (where_put m g (Some before) h) [ inl k ↦ second w h q k.0 (same_record (was h) before q k.1 e) | inr k ↦ w h q (put_other m g (Some after) h k.0 ∙ sym k.1 ∙ e) ]) | inr v ↦ v (empty page ext.shown (w g after (put_here m g (Some after))).2) ];
} where
  before : Record
  before = renamed r old

  after : Record
  after = renamed r new

  was : Records
  was = put m g (Some (renamed r old))

  now : Records
  now = put m g (Some (renamed r new))

  same_dirty : (h : ℕ) → dirty_of (put m g (Some (renamed r old))) h ≡ dirty_of (put m g (Some (renamed r new))) h
  same_dirty h = elim (h == g) as (λ b. is_dirty_record (cond b (Some (renamed r old)) (m h)) ≡ is_dirty_record (cond b (Some (renamed r new)) (m h))) [ true ↦ refl | false ↦ refl ]

  first : t.used ≡ false → (h : ℕ) (q : Record) → h ≡ g → q ≡ renamed r new → (h ≡ 1) × (q.head ≡ first_root config) × ((n : List ℕ) → q.names n ≡ None)
  first u h q e f = let k = sees.unused (unused u).0 g (renamed r old) (put_here m g (Some (renamed r old))) in (e ∙ k.0, ap (λ (x : Record). x.head) f ∙ k.1, λ n. ap (λ (x : Record). x.names n) f ∙ no_names (new n) (λ c is. elim (ext.all n c is) [ inl o ↦ no_child (old n) c (k.2 n) o | inr l ↦ no_child (listed page n) c (ap (λ (p : Page). listed p n) (unused u).1) l ]))

  second : IsUnused config (put m g (Some (renamed r new))) → (h : ℕ) (q : Record) → h ≡ g → q ≡ renamed r old → (h ≡ 1) × (q.head ≡ first_root config) × ((n : List ℕ) → q.names n ≡ None)
  second w h q e f = let k = w g (renamed r new) (put_here m g (Some (renamed r new))) in (e ∙ k.0, ap (λ (x : Record). x.head) f ∙ k.1, λ n. ap (λ (x : Record). x.names n) f ∙ no_names (old n) (λ c is. no_child (new n) c (k.2 n) (ext.kept n c is)))

  empty : (page : Page) → AllByRecursion (λ (e : List ℕ × Child). new e.0 ≡ Some e.1) page → ((n : List ℕ) → new n ≡ None) → page ≡ []
  empty [] all none = refl
  empty (e ∷ es) all none = absurd (no_child (new e.0) e.1 (none e.0) all.0)

  named : (h : ℕ) → h ≤ 2 ^ 96 → IsNamed (put m g (Some (renamed r new))) h → h ≤ t.greatest
  named h le (d, q, name, c, at, is_dir, leads, is) = elim (where_put m g (Some (renamed r new)) d) [ inl w ↦ of_page h le name c (sym (ap (λ (x : Record). x.names name) (same_record (now d) (renamed r new) q w.1 at)) ∙ leads) is | inr w ↦ (let b = sees.most h (inr (le, (d, q, name, c, put_other m g (Some (renamed r old)) d w.0 ∙ sym w.1 ∙ at, is_dir, leads, is))) in let k = fold_above page s.greatest in omega (arith, b, k, greatest)) ] where
    of_page : (h : ℕ) → h ≤ 2 ^ 96 → (name : List ℕ) (c : Child) → new name ≡ Some c → c.gfid.0 ≡ h → h ≤ t.greatest
    of_page h le name c leads is = elim (ext.all name c leads) [ inl o ↦ (let b = sees.most h (inr (le, (g, renamed r old, name, c, put_here m g (Some (renamed r old)), dir, o, is))) in let k = fold_above page s.greatest in omega (arith, b, k, greatest)) | inr l ↦ (let b = fold_listed page s.greatest name c l (omega (arith, is, le)) in omega (arith, b, is, greatest)) ]

  most : (h : ℕ) → IsTaken (put m g (Some (renamed r new))) h → h ≤ t.greatest
  most h (inl w) = let b = sees.most h (inl (λ e. w (elim (where_put m g (Some (renamed r old)) h) [ inl k ↦ absurd (none_some (was h) (renamed r old) e k.1) | inr k ↦ put_other m g (Some (renamed r new)) h k.0 ∙ sym k.1 ∙ e ]))) in let k = fold_above page s.greatest in omega (arith, b, k, greatest)
  most h (inr w) = named h w.0 w.1

-- the names of a file's record are none that anything leads by
abbrev as_file : Records → ℕ → Record → (List ℕ → Option Child) → Records
as_file m g r names = put m g (Some (renamed r names))

file_taken : (m : Records) (g : ℕ) (r : Record) (a b : List ℕ → Option Child) → r.head.kind ≡ File → (h : ℕ) → IsTaken (as_file m g r a) h → IsTaken (as_file m g r b) h
file_taken m g r a b file h (inl w) = inl (λ e. w (elim (where_put m g (Some (renamed r a)) h) [ inl k ↦ absurd (none_some (as_file m g r b h) (renamed r b) e (ap (as_file m g r b) k.0 ∙ put_here m g (Some (renamed r b)))) | inr k ↦ k.1 ∙ sym (put_other m g (Some (renamed r b)) h k.0) ∙ e ]))
file_taken m g r a b file h (inr w) = inr (w.0, named w.1) where
  named : IsNamed (as_file m g r a) h → IsNamed (as_file m g r b) h
  named (d, q, name, c, at, dir, leads, is) = elim (where_put m g (Some (renamed r a)) d) [ inl k ↦ absurd (apart (sym (ap (λ (x : Record). x.head.kind) (same_record (as_file m g r a d) (renamed r a) q k.1 at)) ∙ dir)) | inr k ↦ (d, q, name, c, put_other m g (Some (renamed r b)) d k.0 ∙ sym k.1 ∙ at, dir, leads, is) ] where
    apart : r.head.kind ≡ Dir → ⊥
    apart e = let k : File ≡ Dir = sym file ∙ e in cc

file_unused : (config : Config) (m : Records) (g : ℕ) (r : Record) (a b : List ℕ → Option Child) → r.head.kind ≡ File → IsUnused config (as_file m g r a) → IsUnused config (as_file m g r b)
file_unused config m g r a b file w h q e = elim (where_put m g (Some (renamed r b)) h) [ inl k ↦ absurd (apart (w g (renamed r a) (put_here m g (Some (renamed r a)))).1) | inr k ↦ w h q (put_other m g (Some (renamed r a)) h k.0 ∙ sym k.1 ∙ e) ] where
  apart : r.head ≡ first_root config → ⊥
  apart e = let k : File ≡ Dir = sym file ∙ ap (λ (x : Head). x.kind) e in cc

pub file_names : (config : Config) (m : Records) (g : ℕ) (r : Record) (s : Seen) (a b : List ℕ → Option Child) → r.head.kind ≡ File → Sees config (put m g (Some (renamed r a))) s → Sees config (put m g (Some (renamed r b))) s
file_names config m g r s a b file sees = record {
  accepts = accepts_put config m g (renamed r b) (sees.accepts g r.head (ap (option_map (λ (x : Record). x.head)) (put_here m g (Some (renamed r a))))) (λ h q w e. sees.accepts h q (ap (option_map (λ (x : Record). x.head)) (put_other m g (Some (renamed r a)) h w) ∙ e));
  index = λ h. sees.index h ∙ same_dirty h;
  most = λ h w. sees.most h (file_taken m g r b a file h w);
  taken = elim sees.taken [ inl z ↦ inl z | inr k ↦ inr (file_taken m g r a b file s.greatest k) ];
  unused = λ u. file_unused config m g r a b file (sees.unused u);
  used = λ u w. sees.used u (file_unused config m g r b a file w);
} where
  same_dirty : (h : ℕ) → dirty_of (put m g (Some (renamed r a))) h ≡ dirty_of (put m g (Some (renamed r b))) h
  same_dirty h = elim (h == g) as (λ t. is_dirty_record (cond t (Some (renamed r a)) (m h)) ≡ is_dirty_record (cond t (Some (renamed r b)) (m h))) [ true ↦ refl | false ↦ refl ]

-- the root's first record is not dirty
pub root_dirty : (config : Config) (m : Records) → head_at m 1 ≡ None → (h : ℕ) → dirty_of m h ≡ dirty_of (with_head m 1 (first_root config)) h
root_dirty config m absent h = elim (where_put m 1 (Some (headed (m 1) (first_root config))) h) [ inl w ↦ ap (λ (x : ℕ). dirty_of m x) w.0 ∙ none (m 1) absent ∙ sym (ap is_dirty_record w.1 ∙ clean (m 1)) | inr w ↦ sym (ap is_dirty_record w.1) ] where
  clean : (o : Option Record) → is_dirty_record (Some (headed o (first_root config))) ≡ false
  clean None = refl
  clean (Some r) = refl

  none : (o : Option Record) → option_map (λ (r : Record). r.head) o ≡ None → is_dirty_record o ≡ false
  none None e = refl
  none (Some r) e = absurd (some_head r.head e) where
    some_head : (x : Head) → ◌≡◌ {A = Option Head} (Some x) None → ⊥
    some_head x e = cc
