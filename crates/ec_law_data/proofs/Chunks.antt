-- The chunks of a write have 512 bytes each.
use Rattle.std.proofs.Common.{◌≡◌, ℕ, suc, ◌+◌, ◌*◌, ◌<◌, List, [], ◌∷◌, ◌++◌, length, refl, arith, length-append}
use Rattle.ec_field.specs.Chunk.{IsChunk}
use Rattle.ec_field.specs.Code.{chunk_at}
use Rattle.ec_brick.specs.Work.{bytes_of}
use Rattle.ec_history.specs.IsRun.{AreChunks}
use Rattle.ec_wire.specs.declared.request.Request.{Request}
use Rattle.ec_wire.specs.declared.request.Request.TheVariants.{WriteChunks}
use Rattle.ec_law_data.specs.Link.{IsWhole}

whole_chunks : (cs : List (List ℕ)) → ((i : ℕ) → i < length cs → IsChunk (chunk_at cs i)) → length (bytes_of cs) ≡ 512 * length cs
whole_chunks [] each = refl
whole_chunks (c ∷ cs) each =
    let len : length c ≡ 512 = (each 0 (omega arith)).len in
    let rest = whole_chunks cs (λ i lt. each (suc i) (omega (arith, lt))) in
    let both : length (c ++ bytes_of cs) ≡ length c + length (bytes_of cs) = length-append c (bytes_of cs) in
    omega (arith, len, rest, both)

pub whole_request : (q : Request) → AreChunks q → IsWhole q
whole_request (WriteChunks x n first cs) each = whole_chunks cs each
whole_request q each = tt
