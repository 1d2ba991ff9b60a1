-- The chunk of zeros.
use Rattle.std.proofs.Common.{◌≡◌, ℕ, ◌<◌, get_or}
use Rattle.std.proofs.lemmas.List.{get_or-replicate}
use Rattle.ec_field.specs.Chunk.{element, zero_chunk}
use Rattle.ec_field.proofs.Elements.{element-zeros}

zero_byte : (p : ℕ) → p < 512 → get_or zero_chunk p 0 ≡ 0
unfolding zero_chunk
zero_byte p h = get_or-replicate {A = ℕ} 512 p 0 0 h

-- each element of it is 0
pub zero_element : (e : ℕ) → e < 512 → element zero_chunk e ≡ 0
zero_element e h = element-zeros zero_chunk zero_byte e h
