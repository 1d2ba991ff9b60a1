-- Worked examples of plain answers: a file with one byte 65 everywhere below its size of 3072, and a directory in which
-- `a` leads to it.
use Rattle.std.specs.Prelude.{Some, None, [], ◌∷◌}
use Rattle.ec_attr.specs.declared.gfid.Gfid.{Gfid}
use Rattle.ec_attr.specs.declared.kind.Kind.TheVariants.{File, Dir}
use Rattle.ec_store.specs.Put.{put}
use Rattle.ec_wire.specs.declared.answer.Answer.TheVariants.{Bytes, Child, Exists, Gone, IsDir, Names, NoName, Size, Split}
use Rattle.ec_wire.specs.declared.op.Op.TheVariants.{Create, Lookup, Read, Readdir, Stat, Unlink, Write}
use Rattle.ec_conduct.specs.Examples.{three}
use Rattle.ec_history.specs.Answers.{IsPlain, Scene}
use Rattle.ec_history.specs.Flat.{Flat, blank}
use Rattle.ec_history.specs.NameExamples.{a, file_three}
use Rattle.ec_history.specs.Short.{flat_of, two}

abbrev pub the_file : Gfid
the_file = record { 0 = 3 }

abbrev pub the_directory : Flat
the_directory = record (flat_of Dir 1 0 0) { child = λ n. Some file_three }

abbrev pub scene : Scene
scene = record { geometry = three; tree = put (put (λ g. blank) 2 the_directory) 3 (flat_of File 1 3072 65); copies = λ g x. None; took = 4 }

pub record PlainAnswers : Type 0 where
  pub stat : IsPlain scene (Stat the_file) (Size 3072)
  pub other_size : IsPlain scene (Stat the_file) (Size 3073) → ⊥
  pub write : IsPlain scene (Write the_file 3070 (66 ∷ 66 ∷ 66 ∷ [])) (Size 3073)
  pub nothing_written : IsPlain scene (Write the_file 5000 []) (Size 3072)
  -- a read ends at the size, and gives the known bytes
  pub long_read : IsPlain scene (Read the_file 3071 10 None) (Bytes (65 ∷ 65 ∷ [])) → ⊥
  pub other_byte : IsPlain scene (Read the_file 3071 10 None) (Bytes (66 ∷ [])) → ⊥
  -- a name that is taken is made by nobody, found, and not left out
  pub exists : IsPlain scene (Create two a) (Exists file_three)
  pub made : IsPlain scene (Create two a) (Child (record { kind = File; gfid = record { 0 = 4 } })) → ⊥
  pub missing : IsPlain scene (Lookup two a) NoName → ⊥
  pub split : IsPlain scene (Lookup two a) (Split None (Some file_three)) → ⊥
  pub unlisted : IsPlain scene (Readdir two) (Names []) → ⊥
  -- and removed as a file
  pub gone : IsPlain scene (Unlink two a) Gone
  pub directory : IsPlain scene (Unlink two a) IsDir → ⊥
