-- The text of a call, as a script and the log have it: its word, then its fields.
use Rattle.std.specs.Prelude.{ℕ, Bool, true, false, Option, Some, None, List, [], ◌∷◌, codes, decimal}
use Rattle.hex.specs.Hex.{encode_lower}
use Rattle.ec_wire.specs.Words.{attr_words, bricks_word, bytes_word, either, gfid_word}
use Rattle.ec_wire.specs.declared.op.Op.{Op}
use Rattle.ec_wire.specs.declared.op.Op.TheVariants.{Write, Truncate, Read, Stat, Create, Mkdir, Unlink, Lookup, Readdir, Heal, SetAttr, GetAttr, Rename, Rmdir, Scrub, Sweep}

abbrev pub via_words : Option ℕ → List (List ℕ)
via_words None = []
via_words (Some bits) = codes "via" ∷ bricks_word bits ∷ []

abbrev pub settle_words : Bool → List (List ℕ)
settle_words false = []
settle_words true = codes "settle" ∷ []

abbrev pub op_words : Op → List (List ℕ)
op_words (Write g off bytes) = codes "write" ∷ gfid_word g ∷ decimal off ∷ bytes_word bytes ∷ []
op_words (Truncate g size) = codes "truncate" ∷ gfid_word g ∷ decimal size ∷ []
op_words (Read g off len via) = codes "read" ∷ gfid_word g ∷ decimal off ∷ decimal len ∷ via_words via
op_words (Stat g) = codes "stat" ∷ gfid_word g ∷ []
op_words (Create g name) = codes "create" ∷ gfid_word g ∷ encode_lower name ∷ []
op_words (Mkdir g name) = codes "mkdir" ∷ gfid_word g ∷ encode_lower name ∷ []
op_words (Unlink g name) = codes "unlink" ∷ gfid_word g ∷ encode_lower name ∷ []
op_words (Lookup g name) = codes "lookup" ∷ gfid_word g ∷ encode_lower name ∷ []
op_words (Readdir g) = codes "readdir" ∷ gfid_word g ∷ []
op_words (Heal g) = codes "heal" ∷ gfid_word g ∷ []
op_words (SetAttr g a) = codes "setattr" ∷ gfid_word g ∷ attr_words a
op_words (GetAttr g) = codes "getattr" ∷ gfid_word g ∷ []
op_words (Rename from_dir from_name to_dir to_name) = codes "rename" ∷ gfid_word from_dir ∷ encode_lower from_name ∷ gfid_word to_dir ∷ encode_lower to_name ∷ []
op_words (Rmdir g name) = codes "rmdir" ∷ gfid_word g ∷ encode_lower name ∷ []
op_words (Scrub g settle) = codes "scrub" ∷ gfid_word g ∷ settle_words settle
op_words (Sweep full) = codes "sweep" ∷ either full (codes "full") (codes "index") ∷ []
