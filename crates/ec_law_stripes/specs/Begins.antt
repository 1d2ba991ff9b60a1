-- With what the machine of a file begins: the tree's file, and the pieces of the records of bricks that stand for it.
use Rattle.std.specs.Prelude.{◌≡◌, ℕ, ◌+◌, ◌*◌, ◌<◌, ◌≤◌, Option, Some, None, List}
use Rattle.ec_attr.specs.declared.config.Config.{Config}
use Rattle.ec_conduct.specs.Given.{quorum}
use Rattle.ec_history.specs.Flat.{Flat as FlatFile, Tree}
use Rattle.ec_history.specs.Flat.Opener.{Nobody}
use Rattle.ec_store.specs.Records.{Record, Records}
use Rattle.ec_stripe.specs.Span.{stripe_bytes}
use Rattle.ec_law_data.specs.Forms.{Piece, Shape, piece_of, shape_in}
use Rattle.ec_law_data.specs.Laws.{begun_file}
use Rattle.ec_law_flats.specs.Stripes.{file_flat}
use Rattle.ec_law_net.specs.Start.{first_heads, is_new}
use Rattle.ec_law_pieces.specs.File.{File}
use Rattle.ec_law_pieces.specs.Laws.{Stands}
use Rattle.ec_law_stripes.specs.Bytes.{of_volume}

-- Past the size stand zeros: each byte of a closed stripe that lies wholly past it is known to be 0.
abbrev pub ZeroPastSize : ℕ → FlatFile → Type 0
ZeroPastSize k x = (s i : ℕ) → x.opener s ≡ Nobody → x.size ≤ stripe_bytes k * s → i < stripe_bytes k → x.byte (stripe_bytes k * s + i) ≡ Some 0

-- so it is of each file of a tree
abbrev pub ZerosPastSizes : ℕ → Tree → Type 0
ZerosPastSizes k tree = (g : ℕ) → ZeroPastSize k (tree g)

-- what the bricks' records have as a log begins
abbrev pub piece_in : Option Record → ℕ → Piece
piece_in None s = piece_of (λ i. None)
piece_in (Some r) s = piece_of (r.piece s)

-- the machine of pieces of gfid g stands for the tree's file
abbrev pub StandsForFile : Config → (ℕ → Records) → Tree → ℕ → Type 0
StandsForFile config records tree g = Stands (of_volume config.geometry).form config.geometry.n (quorum config.geometry) (file_flat (quorum config.geometry) (tree g)) (first_heads config.geometry.n records g) (is_new config.geometry.n records g) (λ b. shape_in (records b g)) (λ b. piece_in (records b g))

-- and begins so
abbrev pub stripes_begun : (config : Config) (records : ℕ → Records) (tree : Tree) (g : ℕ) → StandsForFile config records tree g → File ℕ (List (List ℕ)) Piece ℕ Shape
stripes_begun config records tree g st = begun_file (of_volume config.geometry) config records g (file_flat (quorum config.geometry) (tree g)) (λ b. shape_in (records b g)) (λ b. piece_in (records b g)) st.value
