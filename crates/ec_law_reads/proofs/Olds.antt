-- A stripe that a call knows as it was, from what it read, has the bytes of each one of which its turn was given the codes.
use Rattle.std.proofs.Common.{◌≡◌, ◌+◌, ◌<◌, ◌≤◌, ℕ, zero, suc, Bool, true, false, Option, Some, None, List, [], ◌∷◌, ◌++◌, refl, sym, ◌∙◌, ap, subst, inl, inr, arith, get_or, length, length-append}
use Rattle.std.specs.Prelude.{slice_index}
use Rattle.std.proofs.lemmas.Bool.{cases_lt}
use Rattle.std.proofs.lemmas.List.{get_or_append_left}
use Rattle.std.proofs.Math.Seq.{get_or-append_seam}
use Rattle.ec_attr.specs.Bricks.{count_below}
use Rattle.ec_attr.specs.declared.geometry.Geometry.{Geometry}
use Rattle.ec_conduct.specs.Account.{Account, at}
use Rattle.ec_conduct.specs.Data.{Decodes}
use Rattle.ec_conduct.specs.Done.{chunk_read, did, is_pre, since}
use Rattle.ec_conduct.specs.Given.{Given, quorum}
use Rattle.ec_conduct.specs.Opened.{account}
use Rattle.ec_conduct.specs.Standing.{is_grouped}
use Rattle.ec_field.specs.Code.{IsCode}
use Rattle.ec_history.specs.Accounts.{Books}
use Rattle.ec_history.specs.Run.{Net}
use Rattle.ec_law_net.specs.Turns.{View}
use Rattle.ec_law_pieces.specs.Deed.{AreCodes}
use Rattle.ec_law_data.specs.Coding.{by_rows}
use Rattle.ec_law_data.specs.Forms.{first_bytes, piece_of}
use Rattle.ec_law_reads.specs.Rows.{AreRows}
use Rattle.ec_law_reads.specs.Stripes.{AtSomeBricks, HaveOnePiece, HaveSameLowBytes}
use Rattle.ec_law_reads.specs.Units.{of_units}
use Rattle.ec_law_reads.proofs.Answered.{FragmentFile}
use Rattle.ec_law_reads.proofs.Reading.{ReadsEnd, given_as_read, geometry_is}
use Rattle.ec_law_reads.proofs.Stripes.{stripe_laws}

-- ## Pieces

firsts_length : (n : ℕ) (f : ℕ → Option ℕ) → length (first_bytes n f) ≡ n
unfolding first_bytes
firsts_length zero f = refl
firsts_length (suc n) f = length-append (first_bytes n f) (f n ∷ []) ∙ (ap (λ (m : ℕ). m + 1) (firsts_length n f) ∙ omega arith)

first_at : (n : ℕ) (f : ℕ → Option ℕ) (i : ℕ) → i < n → get_or (first_bytes n f) i None ≡ f i
unfolding first_bytes
first_at zero f i l = absurd (omega arith)
first_at (suc n) f i l = elim (cases_lt i n) [
  | inl below ↦ get_or_append_left (first_bytes n f) (f n ∷ []) None i (let e = firsts_length n f in omega (arith, e, below)) ∙ first_at n f i below
  | inr past ↦ let here : i ≡ length (first_bytes n f) = (let e = firsts_length n f in omega (arith, e, past, l)) in let same : i ≡ n = omega (arith, past, l) in
      ap (λ (j : ℕ). get_or (first_bytes n f ++ f n ∷ []) j None) here ∙ (get_or-append_seam (first_bytes n f) (f n) [] None ∙ ap f (sym same))
]

firsts_same : (n : ℕ) (f h : ℕ → Option ℕ) → first_bytes n f ≡ first_bytes n h → (i : ℕ) → i < n → f i ≡ h i
firsts_same n f h e i l = sym (first_at n f i l) ∙ (ap (λ (xs : List (Option ℕ)). get_or xs i None) e ∙ first_at n h i l)

-- a chunk whose known bytes the turn was given has those of the code that it was given
code_bytes : (chunk : List ℕ) (bytes : ℕ → Option ℕ) (code : ℕ → ℕ) → ((i u : ℕ) → i < 512 → bytes i ≡ Some u → slice_index chunk i ≡ u) → piece_of bytes ≡ piece_of (λ i. Some (code i)) → (i : ℕ) → i < 512 → slice_index chunk i ≡ code i
code_bytes chunk bytes code told same i l = told i (code i) l (firsts_same 512 bytes (λ i. Some (code i)) same i l)

-- ## The stripe as it was

module _ (unit : List (List ℕ) → ℕ → ℕ) (k : ℕ) (rows : ℕ → ℕ → ℕ) (geometry : Geometry) (g : ℕ) (m : Net) (v : View) (b : Books) (f : FragmentFile) (end : ReadsEnd unit (quorum geometry) (by_rows k rows) geometry g m v b f) (same : k ≡ quorum geometry) (are : AreRows geometry.n k geometry.algorithm rows) (a : ℕ) (given : Given) (is : b.given a ≡ Some given) (t : ℕ) (turn : v.turn a ≡ Some t) (free : f.planned t ≡ false) (s : ℕ) (old value : List (List ℕ)) (codes : AreCodes (of_units unit k (by_rows k rows)).form geometry.n k f t s value) where
  abbrev c : Account
  c = account given (b.own a)

  one_piece : (x : ℕ) → is_grouped (account given (b.own a)) g x ≡ true → did is_pre (at (account given (b.own a)) g x).window ≡ true → (chunk : List ℕ) → chunk_read s (since is_pre (at (account given (b.own a)) g x).window) ≡ Some chunk → IsCode k geometry.algorithm x old chunk → HaveOnePiece k geometry.algorithm x rows old value
  one_piece x grouped done chunk read code =
      let o = given_as_read unit (quorum geometry) (by_rows k rows) geometry g m v b f end a given is t turn free x s chunk grouped done read in
      record { chunk = chunk; code = code; bytes = code_bytes chunk o.bytes (by_rows k rows value x) o.told (codes x (piece_of o.bytes) o.got) }

  -- whatever the geometry is called
  pieces_by : (other : Geometry) → other ≡ geometry → (which : ℕ → Bool) → quorum other ≤ count_below other.n which → ((x : ℕ) → x < other.n → which x ≡ true → (is_grouped (account given (b.own a)) g x ≡ true) × (did is_pre (at (account given (b.own a)) g x).window ≡ true) × (chunk : List ℕ) × (chunk_read s (since is_pre (at (account given (b.own a)) g x).window) ≡ Some chunk) × IsCode (quorum other) other.algorithm x old chunk) → AtSomeBricks geometry.n k (λ x. HaveOnePiece k geometry.algorithm x rows old value)
  pieces_by other called which enough each =
      let e' = subst (λ (z : Geometry). quorum z ≤ count_below z.n which) called enough in
      let each' = subst (λ (z : Geometry). (x : ℕ) → x < z.n → which x ≡ true → (is_grouped (account given (b.own a)) g x ≡ true) × (did is_pre (at (account given (b.own a)) g x).window ≡ true) × (chunk : List ℕ) × (chunk_read s (since is_pre (at (account given (b.own a)) g x).window) ≡ Some chunk) × IsCode (quorum z) z.algorithm x old chunk) called each in
      (which, subst (λ (z : ℕ). z ≤ count_below geometry.n which) (sym same) e', λ x less so. let o = each' x less so in one_piece x o.0 o.1 o.2 o.3 (subst (λ (z : ℕ). IsCode z geometry.algorithm x old o.2) (sym same) o.4))

  pub old_as_read : Decodes (account given (b.own a)) g s (λ p. did is_pre p.window) (since is_pre) old → HaveSameLowBytes k old value
  old_as_read d = stripe_laws.decoded geometry.n k geometry.algorithm rows old value geometry.bricks (let h = geometry.most in omega (arith, h, same)) are (pieces_by (account given (b.own a)).given.geometry (geometry_is unit (quorum geometry) (by_rows k rows) geometry g m v b f end a given is) d.which d.enough d.each)
