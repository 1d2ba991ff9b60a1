-- Lines, gfid after gfid.
use Rattle.std.proofs.Common.{◌≡◌, ◌≢◌, ◌⊎◌, inl, inr, ℕ, zero, suc, ◌+◌, ◌<◌, ◌≤◌, ◌==◌, ◌&&◌, not, Bool, true, false, Option, Some, None, List, [], ◌∷◌, ◌++◌, length, map, get_or, take, drop, codes, refl, sym, ap, subst, ◌∙◌, append_assoc, add-one, arith}
use Rattle.std.proofs.Math.Seq.{drop-cons}
use Rattle.std.proofs.lemmas.List.{append-nil, drop_all, length-map, take_all, take_more}
use Rattle.std.proofs.lemmas.Option.{slice_get_within}
use Rattle.std.proofs.lemmas.Grind.{flat_map-append}
use Rattle.std.proofs.lemmas.Bool.Decides.{eqb_tells}
use Rattle.std.specs.Prelude.{slice_get, ◌↔◌}
use Rattle.ec_attr.specs.declared.gfid.Gfid.{Gfid}
use Rattle.ec_attr.specs.declared.head.Head.{Head}
use Rattle.ec_brick.specs.Opening.{IsNamed}
use Rattle.ec_store.specs.Records.{Records, head_at}
use Rattle.ec_wire.specs.Words.{behind, divided, numbers_word}
use Rattle.ec_report.specs.Lines.{check_line, id_text, lowest_kind, orphan_words, state_word}
use Rattle.ec_report.specs.Reading.{IsSetOf}
use Rattle.ec_report.specs.Records.{AreLines, IsLine, IsOrphan, OfAny, heads_at}
use Rattle.ec_report.proofs.Growing.{false_true, some_at}

same_records : (m r : Records) → ◌≡◌ {A = Option Records} (Some m) (Some r) → m ≡ r
same_records m r e = cc

heads_get : (records : List Records) (g b : ℕ) (m : Records) → slice_get records b ≡ Some m → get_or (heads_at records g) b None ≡ head_at m g
heads_get [] g b m is = absurd (none b is) where
  none : (b : ℕ) → slice_get {X = Records} [] b ≡ Some m → ⊥
  none zero e = cc
  none (suc b) e = cc
heads_get (r ∷ records) g zero m is = ap (λ (x : Records). head_at x g) (same_records r m is)
heads_get (r ∷ records) g (suc b) m is = heads_get records g b m is

take_heads : (records : List Records) (g b : ℕ) (m : Records) → slice_get records b ≡ Some m → take (b + 1) (heads_at records g) ≡ take b (heads_at records g) ++ head_at m g ∷ []
take_heads records g b m is =
    let within = slice_get_within records b m is in
    let lt : b < length (heads_at records g) = omega (arith, length-map records (λ (m : Records). head_at m g), within) in
    take_more (heads_at records g) b None lt ∙ ap (λ (h : Option Head). take b (heads_at records g) ++ h ∷ []) (heads_get records g b m is)

-- the head of one brick more
pub heads_more : (records : List Records) (g b : ℕ) (items new : List (Option Head)) (head : Option Head) → new ≡ items ++ head ∷ [] → items ≡ take b (heads_at records g) → b < length records → ((m : Records) → slice_get records b ≡ Some m → head ≡ head_at m g) → new ≡ take (b + 1) (heads_at records g)
heads_more records g b items new head put so_far lt is =
    let m = some_at records b lt in
    put ∙ (ap (λ (xs : List (Option Head)). xs ++ head ∷ []) so_far ∙ (ap (λ (h : Option Head). take b (heads_at records g) ++ h ∷ []) (is m.0 m.1) ∙ sym (take_heads records g b m.0 m.1)))

-- the line of one gfid more
pub lines_more : (k : ℕ) (records : List Records) (gfids : List Gfid) (i : ℕ) (d : Gfid) (text new line : List ℕ) → i < length gfids → IsLine k records (get_or gfids i d).0 line → new ≡ text ++ line → ((rest : List ℕ) → AreLines k records (drop i gfids) rest → AreLines k records gfids (text ++ rest)) → (rest : List ℕ) → AreLines k records (drop (i + 1) gfids) rest → AreLines k records gfids (new ++ rest)
lines_more k records gfids i d text new line lt is put so_far rest lines =
    subst (λ (xs : List ℕ). AreLines k records gfids xs) (sym (append_assoc text line rest) ∙ ap (λ (xs : List ℕ). xs ++ rest) (sym put))
    (so_far (line ++ rest) (subst (λ (gs : List Gfid). AreLines k records gs (line ++ rest)) (sym (drop-cons gfids i d lt)) (line, rest, is, refl, subst (λ (n : ℕ). AreLines k records (drop n gfids) rest) (add-one i) lines)))

-- the lines of all gfids
pub lines_all : (k : ℕ) (records : List Records) (gfids : List Gfid) (i : ℕ) (text : List ℕ) → length gfids ≤ i → ((rest : List ℕ) → AreLines k records (drop i gfids) rest → AreLines k records gfids (text ++ rest)) → AreLines k records gfids text
lines_all k records gfids i text all so_far = subst (λ (xs : List ℕ). AreLines k records gfids xs) (append-nil text) (so_far [] (subst (λ (gs : List Gfid). AreLines k records gs []) (sym (drop_all i gfids all)) refl))

-- before the first gfid
pub lines_none : (k : ℕ) (records : List Records) (gfids : List Gfid) (text : List ℕ) → text ≡ [] → (rest : List ℕ) → AreLines k records gfids rest → AreLines k records gfids (text ++ rest)
lines_none k records gfids text none rest lines = subst (λ (xs : List ℕ). AreLines k records gfids (xs ++ rest)) (sym none) lines

-- an orphan
pub orphan_is : (records : List Records) (named : ℕ → Bool) (g : ℕ) (orphan : Bool) → IsSetOf (OfAny IsNamed records) named → orphan ≡ (not (named g) && not (g == 1)) → (orphan ≡ true) ↔ IsOrphan records g
orphan_is records named g orphan set is = (λ e. to (named g) refl (eqb_tells g 1) (sym is ∙ e), λ w. is ∙ from (named g) refl (eqb_tells g 1) w) where
  to : (n : Bool) → named g ≡ n → (((g == 1) ≡ true) × (g ≡ 1)) ⊎ (((g == 1) ≡ false) × (g ≢ 1)) → (not (named g) && not (g == 1)) ≡ true → IsOrphan records g
  to true e t h = absurd (false_true (sym (ap (λ b. not b && not (g == 1)) e) ∙ h))
  to false e (inl t) h = absurd (false_true (sym (ap (λ b. not b && not (g == 1)) e ∙ ap not t.0) ∙ h))
  to false e (inr t) h = (t.1, λ w. false_true (sym e ∙ set.all g w))

  from : (n : Bool) → named g ≡ n → (((g == 1) ≡ true) × (g ≡ 1)) ⊎ (((g == 1) ≡ false) × (g ≢ 1)) → IsOrphan records g → (not (named g) && not (g == 1)) ≡ true
  from true e t w = absurd (w.1 (set.only g e))
  from false e (inl t) w = absurd (w.0 t.1)
  from false e (inr t) w = ap (λ b. not b && not (g == 1)) e ∙ ap not t.0

three : (id kind : List ℕ) (s r : List (List ℕ)) → ((id ++ behind 32 (kind ∷ [])) ++ behind 32 s) ++ behind 32 r ≡ id ++ behind 32 (kind ∷ (s ++ r))
unfolding behind
three id kind s r = rw (flat_map-append (λ (w : List ℕ). 32 ∷ w) s r) (simp (append_assoc, append-nil) refl)

-- the line of its parts
pub line_parts : (g : ℕ) (heads : List (Option Head)) (group : List ℕ) (orphan : Bool) (a b c d e : List ℕ) → a ≡ id_text g → b ≡ a ++ behind 32 (lowest_kind heads ∷ []) → c ≡ b ++ behind 32 (map state_word heads) → d ≡ c ++ behind 32 (codes "group" ∷ numbers_word group ∷ orphan_words orphan) → e ≡ d ++ 10 ∷ [] → e ≡ check_line g heads group orphan
unfolding check_line divided
line_parts g heads group orphan a b c d e pa pb pc pd pe =
    let r = codes "group" ∷ numbers_word group ∷ orphan_words orphan in
    pe ∙ ap (λ (x : List ℕ). x ++ 10 ∷ []) (pd ∙ (ap (λ (x : List ℕ). x ++ behind 32 r) (pc ∙ ap (λ (x : List ℕ). x ++ behind 32 (map state_word heads)) (pb ∙ ap (λ (x : List ℕ). x ++ behind 32 (lowest_kind heads ∷ [])) pa)) ∙ three (id_text g) (lowest_kind heads) (map state_word heads) r))

-- a line goes by what the stores keep
pub line_same : {k g : ℕ} {line : List ℕ} {before now : List Records} → now ≡ before → IsLine k now g line → IsLine k before g line
line_same {k} {g} {line} {before} {now} e is = subst (λ (rs : List Records). IsLine k rs g line) e is

-- the heads of all bricks
pub heads_all : (records : List Records) (g n : ℕ) (items : List (Option Head)) → length records ≤ n → items ≡ take n (heads_at records g) → items ≡ heads_at records g
heads_all records g n items few is = is ∙ take_all n (heads_at records g) (omega (arith, length-map records (λ (m : Records). head_at m g), few))
