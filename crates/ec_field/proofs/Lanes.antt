-- Chunks into which lanes are written.
use Rattle.std.proofs.Common.{◌≡◌, ℕ, ◌+◌, ◌-◌, ◌^◌, ◌<◌, ◌≤◌, List, length, get_or, Fits, w8, inl, inr, ap, sym, ◌∙◌, arith, subst}
use Rattle.std.proofs.lemmas.Bool.{cases_lt}
use Rattle.std.proofs.lemmas.Simd.{length-put_chunk, get_or-put_chunk_below, get_or-put_chunk_at, get_or-put_chunk_above, Each1-get_or}
use lib.Lanes.{Each1, put_chunk}
use Rattle.ec_field.specs.Chunk.{IsChunk}

-- bytes that are written into bytes
put_byte : (at : ℕ) (old lanes : List ℕ) → length lanes ≡ 16 → Each1 (Fits w8) lanes → at + 16 ≤ length old → ((i : ℕ) → get_or old i 0 < 2 ^ 8) → (i : ℕ) → get_or (put_chunk at old lanes) i 0 < 2 ^ 8
put_byte at old lanes long fits room bytes i =
    let P : ℕ → Type 0 = λ n. n < 2 ^ 8 in
    elim (cases_lt i at) [
      | inl below ↦ subst P (sym (get_or-put_chunk_below at old lanes i 0 below)) (bytes i)
      | inr from ↦
          elim (cases_lt i (at + 16)) [
            | inl within ↦
                let place : at + (i - at) ≡ i = omega arith in
                let read = get_or-put_chunk_at at old lanes (i - at) 0 (omega arith) (omega arith) in
                let lane : Fits w8 (get_or lanes (i - at) 0) = Each1-get_or (Fits w8) lanes (i - at) 0 (omega arith) fits in
                subst P (sym (ap (λ n. get_or (put_chunk at old lanes) n 0) (sym place) ∙ read)) lane.fits
            | inr above ↦ subst P (sym (get_or-put_chunk_above at old lanes i 0 (omega arith))) (bytes i)
          ]
    ]

pub put_is_chunk : (at : ℕ) (old lanes new : List ℕ) → length lanes ≡ 16 → Each1 (Fits w8) lanes → at + 16 ≤ 512 → IsChunk old → new ≡ put_chunk at old lanes → IsChunk new
put_is_chunk at old lanes new long fits room chunk is =
    let put : IsChunk (put_chunk at old lanes) = record {
      len = length-put_chunk at old lanes ∙ chunk.len;
      bytes = put_byte at old lanes long fits (let len = chunk.len in omega arith) chunk.bytes;
    } in
    subst IsChunk (sym is) put
