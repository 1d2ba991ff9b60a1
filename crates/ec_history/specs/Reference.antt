-- What a heal makes of a sink, as it takes the mark away: the record that the good group's bricks would have given it at
-- the heal's moment. Of a stripe that was open then, what the heal had read of it, in whichever of its windows.
use Rattle.std.specs.Prelude.{◌≡◌, ◌⊎◌, ℕ, ◌+◌, ◌-◌, ◌*◌, ◌/◌, ◌<◌, ◌≤◌, Bool, true, false, is_some, Option, Some, List}
use Rattle.ec_conduct.specs.Given.{quorum}
use Rattle.ec_attr.specs.Bricks.{count_below}
use Rattle.ec_attr.specs.declared.config.Config.{Config}
use Rattle.ec_attr.specs.declared.geometry.Geometry.{Geometry}
use Rattle.ec_field.specs.Code.{IsCode, IsStripe}
use Rattle.ec_stripe.specs.Span.{IsFragmentLen, stripe_bytes}
use Rattle.ec_store.specs.Records.{Record}
use Rattle.ec_history.specs.Flat.{Flat, is_open, made}
use Rattle.ec_history.specs.Holds.{Copies, HoldsCode, HoldsStripe, IsAtVersion, IsHeadOf}
use Rattle.ec_history.specs.Moments.{Moments}

-- What the reference is made from: the flat file and the records of all bricks at the moment, the greatest dirty number
-- that the group answered, on which of the sink's stripes and names a data request was executed since, the chunks that the
-- heal has read, by brick and stripe, and on which of the sink's stripes a data request was executed since it read them.
pub record Healing : Type 0 where
  pub flat : Flat
  pub copies : Copies
  pub dirty : ℕ
  pub stirred : ℕ → Bool
  pub stirred_name : List ℕ → Bool
  pub read : ℕ → ℕ → Option (List ℕ)
  pub rewritten : ℕ → Bool

-- of call a, a heal of gfid g with a sink b
abbrev pub healing : Moments → ℕ → ℕ → ℕ → ℕ → Healing
healing w a g b dirty = record {
  flat = (w.moment a g).tree g;
  copies = λ c. ((w.moment a g).brick c).records g;
  dirty = dirty;
  stirred = (w.moment a g).stirred g b;
  stirred_name = (w.moment a g).stirred_name g b;
  read = w.read a g;
  rewritten = w.rewritten a g b;
}

-- the stripe that the good group codes at the moment, at the sink too
abbrev pub HasGroupsStripe : Geometry → Healing → ℕ → Record → ℕ → Type 0
HasGroupsStripe g h b r s = (stripes : HoldsStripe g h.copies (IsAtVersion h.flat.version) h.flat s) × HoldsCode g b r s stripes.stripe

-- the stripe that K chunks decode which the heal has read, at the sink too
pub record HasReadStripe (g : Geometry) (h : Healing) (b : ℕ) (r : Record) (s : ℕ) : Type 0 where
  pub stripe : List (List ℕ)
  pub is_stripe : IsStripe (quorum g) stripe
  pub enough : quorum g ≤ count_below g.n (λ c. is_some (h.read c s))
  pub chunks : (c : ℕ) (chunk : List ℕ) → c < g.n → h.read c s ≡ Some chunk → IsCode (quorum g) g.algorithm c stripe chunk
  pub code : HoldsCode g b r s stripe

-- a stripe of which nothing is promised by the end of the heal
abbrev pub IsUnsettled : Healing → ℕ → Type 0
IsUnsettled h s = (is_open (h.flat.opener s) ≡ true) ⊎ (h.stirred s ≡ true)

-- The fragment ends where the file's size has it end: earlier only by chunks of open stripes, later only with a chunk of
-- an open one.
pub record EndsRight (g : Geometry) (h : Healing) (r : Record) : Type 0 where
  pub length : ℕ
  pub of_size : IsFragmentLen (quorum g) h.flat.size length
  pub earlier : (s : ℕ) → r.shortest < 512 * (s + 1) → 512 * (s + 1) ≤ length → IsUnsettled h s
  pub later : length < r.longest → IsUnsettled h ((r.longest - 1) / 512)

-- The record of sink b as its mark is taken away. On closed stripes and names on which a data request was executed there
-- since the moment nothing is said, and on open stripes on which one was since the heal read them: a client may be writing
-- an open stripe between two windows of the heal. Where the gfid's first record is made after the moment, the head has the
-- attribute of a new record.
pub record IsReference (config : Config) (h : Healing) (b : ℕ) (r : Record) : Type 0 where
  pub heads : IsHeadOf config (made r.head.kind h.flat) r.head
  pub version : r.head.version.content ≡ h.flat.version
  pub dirty : r.head.dirty.content ≡ h.dirty
  pub closed : (s : ℕ) → is_open (h.flat.opener s) ≡ false → h.stirred s ≡ false → HasGroupsStripe config.geometry h b r s
  pub opened : (s : ℕ) → is_open (h.flat.opener s) ≡ true → h.rewritten s ≡ false → stripe_bytes (quorum config.geometry) * s < h.flat.size → HasReadStripe config.geometry h b r s
  pub end : EndsRight config.geometry h r
  pub names : (n : List ℕ) → h.flat.is_name_open n ≡ false → h.stirred_name n ≡ false → r.names n ≡ h.flat.child n

-- A heal that is answered Healed has no such closed stripe and name: it would have found the sink fallen behind.
abbrev pub IsWholeReference : Config → Healing → ℕ → Record → Type 0
IsWholeReference config h b r = IsReference config (record h { stirred = λ s. false; stirred_name = λ n. false }) b r
