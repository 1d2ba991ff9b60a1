-- The text of a volume.
use Rattle.std.specs.Prelude.{ℕ, Bool, List, [], ◌∷◌, ◌++◌, codes, decimal, nat_eq, if◌then◌else◌}
use Rattle.std.specs.List.{flat_map}
use Rattle.ec_attr.specs.declared.policy.Policy.{Policy}
use Rattle.ec_attr.specs.declared.policy.Policy.TheVariants.{RoundRobin, GfidHash}
use Rattle.ec_volfile.specs.declared.volume.Kernel.{Kernel}
use Rattle.ec_volfile.specs.declared.volume.Kernel.TheVariants.{Plain, Fused}
use Rattle.ec_volfile.specs.Outline.{Outline}

-- the values as they are printed

abbrev pub policy_text : Policy → List ℕ
policy_text RoundRobin = codes "round-robin"
policy_text GfidHash = codes "gfid-hash"

abbrev pub eager_text : Bool → List ℕ
eager_text eager = if eager then codes "on" else codes "off"

abbrev pub kernel_text : Kernel → List ℕ
kernel_text Plain = codes "none"
kernel_text Fused = codes "auto"

abbrev pub rows_text : ℕ → List ℕ
rows_text algorithm = if nat_eq algorithm 1 then codes "systematic" else codes "plain"

abbrev pub option_line : List ℕ → List ℕ → List ℕ
option_line key value = codes "    option " ++ (key ++ 32 ∷ value)

-- each name behind a space
abbrev pub spaced_names : List (List ℕ) → List ℕ
spaced_names [] = []
spaced_names (name ∷ names) = 32 ∷ (name ++ spaced_names names)

-- the lines of the one section
abbrev pub printed_lines : Outline → List (List ℕ)
printed_lines o =
    (codes "volume " ++ o.name)
    ∷ codes "    type cluster/disperse"
    ∷ option_line (codes "redundancy") (decimal o.r)
    ∷ option_line (codes "read-policy") (policy_text o.policy)
    ∷ option_line (codes "eager-lock") (eager_text o.eager)
    ∷ option_line (codes "stripe-cache") (decimal o.cache)
    ∷ option_line (codes "self-heal-window-size") (decimal o.window)
    ∷ option_line (codes "cpu-extensions") (kernel_text o.kernel)
    ∷ option_line (codes "code-rows") (rows_text o.algorithm)
    ∷ (codes "    subvolumes" ++ spaced_names o.bricks)
    ∷ codes "end-volume"
    ∷ []

-- a line with its newline
abbrev pub ended_line : List ℕ → List ℕ
ended_line line = line ++ 10 ∷ []

unfoldable pub text_of : Outline → List ℕ
text_of o = flat_map ended_line (printed_lines o)
