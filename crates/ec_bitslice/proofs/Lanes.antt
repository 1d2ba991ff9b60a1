-- Vectors of lanes.
use Rattle.std.proofs.Common.{◌≡◌, ℕ, zero, suc, ◌+◌, ◌≤◌, List, [], ◌∷◌, length, get_or, refl, ap, sym, ◌∙◌, subst, arith}
use Rattle.std.specs.Prelude.{replicate}
use Rattle.std.proofs.lemmas.Simd.{length-put_chunk, get_or-put_chunk_at, get_or-put_chunk_below, get_or-put_chunk_above}
use lib.Lanes.{zip2, put_chunk}
use Rattle.ec_field.specs.Chunk.{IsChunk}
use Rattle.ec_bitslice.specs.Column.{StoresLanes}

-- an operator that gives 0 of zeros, at any lane
pub lane-zip2 : (f : ℕ → ℕ → ℕ) → f 0 0 ≡ 0 → (a b : List ℕ) → length a ≡ length b → (x : ℕ) → get_or (zip2 f a b) x 0 ≡ f (get_or a x 0) (get_or b x 0)
lane-zip2 f none [] [] same x = rw none refl
lane-zip2 f none [] (v ∷ b) same x = absurd (omega arith)
lane-zip2 f none (u ∷ a) [] same x = absurd (omega arith)
lane-zip2 f none (u ∷ a) (v ∷ b) same zero = refl
lane-zip2 f none (u ∷ a) (v ∷ b) same (suc x) = lane-zip2 f none a b (omega arith) x

pub lane-zeros : (n x : ℕ) → get_or {A = ℕ} (replicate n 0) x 0 ≡ 0
lane-zeros zero x = refl
lane-zeros (suc n) zero = refl
lane-zeros (suc n) (suc x) = lane-zeros n x

stores_lanes : (lanes : List ℕ) (at : ℕ) (old : List ℕ) → length lanes ≡ 16 → at + 16 ≤ length old → IsChunk (put_chunk at old lanes) → StoresLanes lanes at old (put_chunk at old lanes)
stores_lanes lanes at old long room chunk = record {
  len = length-put_chunk at old lanes;
  within = λ x h. get_or-put_chunk_at at old lanes x 0 (omega arith) (omega arith);
  below = λ n h. get_or-put_chunk_below at old lanes n 0 h;
  above = λ n h. get_or-put_chunk_above at old lanes n 0 (omega arith);
  chunk = chunk;
}

pub stores_chunk : (lanes : List ℕ) (at : ℕ) (old new : List ℕ) → length lanes ≡ 16 → at + 16 ≤ 512 → new ≡ put_chunk at old lanes → IsChunk new → StoresLanes lanes at old new
stores_chunk lanes at old new long room is chunk =
    let len : length old ≡ 512 = sym (length-put_chunk at old lanes) ∙ ap length (sym is) ∙ chunk.len in
    subst (StoresLanes lanes at old) (sym is) (stores_lanes lanes at old long (omega arith) (subst IsChunk is chunk))
