-- Where the files of a brick folder are.
use Rattle.std.specs.Prelude.{ℕ, List, ◌++◌, codes}
use Rattle.ec_folder.specs.declared.paths.Part.{Part}
use Rattle.ec_folder.specs.declared.paths.Part.TheVariants.{Heads, Fragments, Names}

abbrev pub part_word : Part → List ℕ
part_word Heads = codes "/heads"
part_word Fragments = codes "/fragments"
part_word Names = codes "/names"

-- one of the three folders of a brick folder
abbrev pub part_path : List ℕ → Part → List ℕ
part_path root part = root ++ part_word part
