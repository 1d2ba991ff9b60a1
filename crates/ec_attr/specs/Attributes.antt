-- The bytes of a record's attributes. Every number has its highest byte first.
use Rattle.std.specs.Prelude.{◌≡◌, ◌≢◌, ℕ, ◌<◌, List, [], ◌∷◌, ◌++◌, length, drop, slice_index}
use Rattle.byteorder.specs.Endian.{big_bytes, big_number}
use Rattle.ec_attr.specs.Geometry.{IsGeometry}
use Rattle.ec_attr.specs.declared.config.Config.{Config}
use Rattle.ec_attr.specs.declared.fault.AttrFault.{AttrFault}
use Rattle.ec_attr.specs.declared.fault.AttrFault.TheVariants.{BadLength, BadVersion, BadAlgorithm, BadWord, BadGeometry, BadChunk}

-- `trusted.ec.config`: the version 0, the algorithm, the bits of a word, the bricks and the redundancy in a byte
-- each, and the size of a chunk, 512, in three
abbrev pub config_bytes : Config → List ℕ
config_bytes c = 0 ∷ c.geometry.algorithm ∷ 8 ∷ c.geometry.n ∷ c.geometry.r ∷ 0 ∷ 2 ∷ 0 ∷ []

-- the size of a chunk that these bytes name
abbrev pub chunk_size : List ℕ → ℕ
chunk_size bytes = big_number 3 (drop 5 bytes)

-- What is right of a config up to each of its fields: the length and the version; the algorithm, 0 or 1; the bits of
-- a word; the bricks and the redundancy.
abbrev pub IsVersioned : List ℕ → Type 0
IsVersioned bytes = (length bytes ≡ 8) × (slice_index bytes 0 ≡ 0)

abbrev pub HasAlgorithm : List ℕ → Type 0
HasAlgorithm bytes = IsVersioned bytes × (slice_index bytes 1 < 2)

abbrev pub HasWord : List ℕ → Type 0
HasWord bytes = HasAlgorithm bytes × (slice_index bytes 2 ≡ 8)

abbrev pub HasGeometry : List ℕ → Type 0
HasGeometry bytes = HasWord bytes × IsGeometry (slice_index bytes 3) (slice_index bytes 4) 0

-- Bytes that are no config have this fault: what stands before it is right, and it is not.
abbrev pub HasConfigFault : List ℕ → AttrFault → Type 0
HasConfigFault bytes (BadLength n) = (n ≡ length bytes) × (n ≢ 8)
HasConfigFault bytes (BadVersion v) = (length bytes ≡ 8) × (v ≡ slice_index bytes 0) × (v ≢ 0)
HasConfigFault bytes (BadAlgorithm a) = IsVersioned bytes × (a ≡ slice_index bytes 1) × (1 < a)
HasConfigFault bytes (BadWord w) = HasAlgorithm bytes × (w ≡ slice_index bytes 2) × (w ≢ 8)
HasConfigFault bytes (BadGeometry n r) = HasWord bytes × (n ≡ slice_index bytes 3) × (r ≡ slice_index bytes 4) × ¬ (IsGeometry n r 0)
HasConfigFault bytes (BadChunk size) = HasGeometry bytes × (size ≡ chunk_size bytes) × (size ≢ 512)

-- `trusted.ec.version` and `trusted.ec.dirty`: the numbers of the content and of the metadata, eight bytes each
abbrev pub pair_bytes : ℕ → ℕ → List ℕ
pair_bytes content meta = big_bytes 8 content ++ big_bytes 8 meta
