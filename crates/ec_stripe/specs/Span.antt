-- Which stripes hold which bytes of a file.
use Rattle.std.specs.Prelude.{◌≡◌, ℕ, ◌+◌, ◌-◌, ◌*◌, ◌<◌, ◌≤◌}

-- the bytes of a stripe of k chunks
abbrev pub stripe_bytes : ℕ → ℕ
stripe_bytes k = 512 * k

-- Byte `at` of a file is in stripe s.
pub record IsInStripe (k at s : ℕ) : Type 0 where
  pub from : stripe_bytes k * s ≤ at
  pub below : at < stripe_bytes k * (s + 1)

-- The range of len bytes from off on begins in the stripe `first`, with `head` bytes of it before the range, and ends in
-- the stripe `last`, with `tail` bytes of it past the range.
pub record IsSpan (k off len first last head tail : ℕ) : Type 0 where
  pub begins : IsInStripe k off first
  pub ends : IsInStripe k (off + len - 1) last
  pub before : stripe_bytes k * first + head ≡ off
  pub past : off + len + tail ≡ stripe_bytes k * (last + 1)

-- So many stripes hold size bytes, and no fewer do.
pub record HoldsJust (k size stripes : ℕ) : Type 0 where
  pub enough : size ≤ stripe_bytes k * stripes
  pub least : (fewer : ℕ) → size ≤ stripe_bytes k * fewer → stripes ≤ fewer

-- A fragment has one chunk of each stripe that the file's bytes need.
pub record IsFragmentLen (k size len : ℕ) : Type 0 where
  pub stripes : ℕ
  pub hold : HoldsJust k size stripes
  pub chunks : len ≡ 512 * stripes
