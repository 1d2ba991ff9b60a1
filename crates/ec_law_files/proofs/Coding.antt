-- What a call sends is the code of what it planned.
use Rattle.std.proofs.Common.{◌≡◌, ℕ, zero, suc, ◌+◌, ◌-◌, ◌*◌, ◌/◌, ◌<◌, ◌≤◌, ◌==◌, ◌&&◌, ◌||◌, not, nat_lt, min, Bool, true, false, cond, refl, sym, ◌∙◌, ap, subst, arith, Some, List, [], ◌∷◌, ◌++◌, length, slice_index}
use Rattle.std.proofs.lemmas.Bool.Decides.{nat_tests}
use Rattle.std.proofs.lemmas.List.{get_or_append_left, get_or-append_right}
use Rattle.ec_brick.specs.Work.{bytes_of}
use Rattle.ec_conduct.specs.Account.{Account}
use Rattle.ec_conduct.specs.Given.{Given, quorum_of}
use Rattle.ec_field.specs.Chunk.{IsChunk, element}
use Rattle.ec_field.specs.Code.{IsCode, chunk_at, combined_element}
use Rattle.ec_field.specs.Field.{product}
use Rattle.ec_field.proofs.Sums.{sum_ext}
use Rattle.ec_history.specs.IsRun.{AreChunks}
use Rattle.ec_history.specs.Story.{is_among}
use Rattle.ec_law_data.specs.Coding.{by_rows, code_byte}
use Rattle.ec_law_data.specs.Forms.{byte_put, piece_of, stripes_written, zero_stripe}
use Rattle.ec_law_data.proofs.Coding.{coding_laws}
use Rattle.ec_law_data.proofs.Forms.{alike}
use Rattle.ec_matrix.specs.Inverse.{IsByteRow}
use Rattle.ec_matrix.proofs.Algorithms.{systematic_entry, systematic_row_only}
use Rattle.ec_stripe.specs.Span.{stripe_bytes}
use Rattle.ec_wire.specs.declared.op.Op.{Op}
use Rattle.ec_wire.specs.declared.op.Op.TheVariants.{Write, Truncate}
use Rattle.ec_wire.specs.declared.request.Request.{Request}
use Rattle.ec_wire.specs.declared.request.Request.TheVariants.{WriteChunks, SetLength}
use Rattle.ec_law_files.specs.Plans.{is_cut, is_written, value_of}
use Rattle.ec_law_files.specs.Stripes.{CutsStripes, IsOwn, IsPut, Making, WritesStripes}
use Rattle.ec_law_files.proofs.Planning.{cut_unwritten}

-- ## Rows

-- a brick has one row
pub one_row : (k algorithm b : ℕ) (row other : ℕ → ℕ) → k ≤ 16 → b < 31 → IsByteRow k algorithm b row → IsByteRow k algorithm b other → (j : ℕ) → j < k → row j ≡ other j
one_row k zero b row other few below is its j lt = is.is_row j lt ∙ sym (its.is_row j lt)
one_row k (suc n) b row other few below is its j lt =
    systematic_row_only (suc n) k b (systematic_entry k b) (λ e. absurd (omega (arith, e))) few below (λ i h. refl) row is j lt
    ∙ sym (systematic_row_only (suc n) k b (systematic_entry k b) (λ e. absurd (omega (arith, e))) few below (λ i h. refl) other its j lt)

same_element : (k : ℕ) (row other : ℕ → ℕ) (stripe : List (List ℕ)) (e : ℕ) → ((j : ℕ) → j < k → row j ≡ other j) → combined_element k row stripe e ≡ combined_element k other stripe e
same_element k row other stripe e same = sum_ext k (λ j. product (row j) (element (chunk_at stripe j) e)) (λ j. product (other j) (element (chunk_at stripe j) e)) (λ j lt. ap (λ (x : ℕ). product x (element (chunk_at stripe j) e)) (same j lt))

-- a chunk that is the code has its bytes
pub code_bytes : (k algorithm b : ℕ) (row : ℕ → ℕ) (stripe : List (List ℕ)) (chunk : List ℕ) → k ≤ 16 → b < 31 → IsByteRow k algorithm b row → IsChunk chunk → IsCode k algorithm b stripe chunk → (i : ℕ) → i < 512 → slice_index chunk i ≡ code_byte k row stripe i
code_bytes k algorithm b row stripe chunk few below is whole code i lt =
    coding_laws.bytes k row stripe chunk whole (λ e h. code.elements e h ∙ same_element k code.row row stripe e (one_row k algorithm b code.row row few below (record { bytes = code.bytes; is_row = code.is_row }) is)) i lt

-- ## The bytes of chunks

chunk_byte : (chunks : List (List ℕ)) (j i : ℕ) → ((j : ℕ) → j < length chunks → IsChunk (chunk_at chunks j)) → j < length chunks → i < 512 → slice_index (bytes_of chunks) (512 * j + i) ≡ slice_index (chunk_at chunks j) i
chunk_byte [] j i whole lt below = absurd (let z : j < 0 = lt in omega (arith, z))
chunk_byte (c ∷ cs) zero i whole lt below =
    let len : length c ≡ 512 = (whole 0 (omega arith)).len in
    ap (λ (n : ℕ). slice_index (c ++ bytes_of cs) n) (let z : 512 * 0 + i ≡ i = omega arith in z) ∙ get_or_append_left c (bytes_of cs) 0 i (omega (arith, len, below))
chunk_byte (c ∷ cs) (suc j) i whole lt below =
    let len : length c ≡ 512 = (whole 0 (omega arith)).len in
    let at : 512 * suc j + i - 512 ≡ 512 * j + i = omega arith in
    get_or-append_right c (bytes_of cs) 512 (512 * suc j + i) 0 len (omega arith)
    ∙ (ap (slice_index (bytes_of cs)) at
    ∙ chunk_byte cs j i (λ m h. whole (suc m) (omega (arith, h))) (omega (arith, lt)) below)

-- ## Places

among_is : (first count s : ℕ) → is_among first count s ≡ true → (first ≤ s) × (s - first < count) × (first + (s - first) ≡ s)
among_is first count s e = let le : first ≤ s = grind (arith, nat_tests) in let lt : s < first + count = grind (arith, nat_tests) in (le, omega (arith, le, lt), omega (arith, le))

-- what a write of the call writes is what it plans to write
range_written : (k : ℕ) (op : Op) (size first count s : ℕ) → WritesStripes op k size first count → is_among first count s ≡ true → is_written k op size s ≡ true
range_written k (Write h off bytes) size first count s (at, many) e = sym (λ j. is_among (at j) (many j) s) ∙ e
range_written k (Truncate h to) size first count s (inside, at, one) e =
    let p = among_is first count s e in
    let is : s ≡ min size to / stripe_bytes k = (let le = p.0 in let lt = p.1 in omega (arith, at, one, le, lt)) in
    let same : (s == min size to / stripe_bytes k) ≡ true = grind (arith, nat_tests) in
    rw (inside, same) refl
range_written k op size first count s range e = absurd range

range_cut : (k : ℕ) (op : Op) (size keep count s : ℕ) → CutsStripes op k size keep count → not (nat_lt s keep && nat_lt s count) ≡ true → is_cut k op size s ≡ true
range_cut k (Truncate h to) size keep count s (at, many) e = rw (sym at, sym many) e
range_cut k op size keep count s range e = absurd range

or_left : (t u : Bool) → t ≡ true → (t || u) ≡ true
or_left true u e = refl
or_left false u e = absurd (cc)

or_right : (t u : Bool) → u ≡ true → (t || u) ≡ true
or_right true u e = refl
or_right false u e = e

-- ## What a call sends

pub covers_put : (v : Given) (b : ℕ) (w : Making) (r : Request) → IsPut w v b r → (s : ℕ) → stripes_written r s ≡ true → (is_written (quorum_of v) v.op w.head.size s || is_cut (quorum_of v) v.op w.head.size s) ≡ true
covers_put v b w (WriteChunks x grant first chunks) own s e = or_left (is_written (quorum_of v) v.op w.head.size s) (is_cut (quorum_of v) v.op w.head.size s) (range_written (quorum_of v) v.op w.head.size first (length chunks) s own.0 e)
covers_put v b w (SetLength x grant keep count) own s e = or_right (is_written (quorum_of v) v.op w.head.size s) (is_cut (quorum_of v) v.op w.head.size s) (range_cut (quorum_of v) v.op w.head.size keep count s own e)
covers_put v b w r own s e = absurd (cc)

pub put_own : (w : Making) (c : Account) (b : ℕ) (r : Request) → IsOwn w c b r → IsPut w c.given b r
put_own w c b (WriteChunks x grant first chunks) own = (own.range, own.codes)
put_own w c b (SetLength x grant keep count) own = own.range
put_own w c b r own = tt

module _ (rows : ℕ → ℕ → ℕ) (v : Given) (b : ℕ) (w : Making) (below : b < v.geometry.n) (row : IsByteRow (quorum_of v) v.geometry.algorithm b (rows b)) where
  few : (v : Given) → quorum_of v ≤ 16
  few v = let most = v.geometry.most in omega (arith, most)

  bricks : b < 31
  bricks = let all = v.geometry.bricks in omega (arith, all, below)

  pos : 0 < stripe_bytes (quorum_of v)
  pos = let least = v.geometry.least in omega (arith, least)

  pub codes_put : (r : Request) → IsPut w v b r → AreChunks r → (s : ℕ) → stripes_written r s ≡ true → piece_of (byte_put r s) ≡ piece_of (λ i. Some (by_rows (quorum_of v) rows (value_of (quorum_of v) v.op w s) b i))
  codes_put (WriteChunks x grant first chunks) own whole s e =
      let p = among_is first (length chunks) s e in
      let value : value_of (quorum_of v) v.op w s ≡ w.stripe s = ap (λ (t : Bool). cond t (w.stripe s) (zero_stripe (quorum_of v))) (range_written (quorum_of v) v.op w.head.size first (length chunks) s own.0 e) in
      let code : IsCode (quorum_of v) v.geometry.algorithm b (w.stripe s) (chunk_at chunks (s - first)) = subst (λ (z : ℕ). IsCode (quorum_of v) v.geometry.algorithm b (w.stripe z) (chunk_at chunks (s - first))) p.2 (own.1 (s - first) p.1) in
      alike (byte_put (WriteChunks x grant first chunks) s) (λ i. Some (by_rows (quorum_of v) rows (value_of (quorum_of v) v.op w s) b i)) (λ i lt.
      (let at : 512 * s + i - 512 * first ≡ 512 * (s - first) + i = (let le = p.0 in omega (arith, le)) in
      ap (λ (z : ℕ). Some z)
      (ap (slice_index (bytes_of chunks)) at
      ∙ (chunk_byte chunks (s - first) i whole p.1 lt
      ∙ (code_bytes (quorum_of v) v.geometry.algorithm b (rows b) (w.stripe s) (chunk_at chunks (s - first)) (few v) bricks row (whole (s - first) p.1) code i lt
      ∙ ap (λ (z : List (List ℕ)). code_byte (quorum_of v) (rows b) z i) (sym value))))))
  codes_put (SetLength x grant keep count) own whole s e =
      let cut = range_cut (quorum_of v) v.op w.head.size keep count s own e in
      let value : value_of (quorum_of v) v.op w s ≡ zero_stripe (quorum_of v) = ap (λ (t : Bool). cond t (w.stripe s) (zero_stripe (quorum_of v))) (cut_unwritten (quorum_of v) v.op w.head.size s pos cut) in
      alike (λ i. Some 0) (λ i. Some (by_rows (quorum_of v) rows (value_of (quorum_of v) v.op w s) b i)) (λ i lt.
      ap (λ (z : ℕ). Some z) (sym (coding_laws.zeros (quorum_of v) rows b i lt) ∙ ap (λ (z : List (List ℕ)). by_rows (quorum_of v) rows z b i) (sym value)))
  codes_put r own whole s e = absurd (cc)
