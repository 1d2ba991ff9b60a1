-- The texts of answers: the number of the call, then what it is answered.
use Rattle.std.specs.Prelude.{ℕ, Option, List, [], ◌∷◌, ◌++◌, codes, decimal, map}
use Rattle.hex.specs.Hex.{encode_lower}
use Rattle.ec_attr.specs.declared.kind.Child.{Child as NamedChild}
use Rattle.ec_wire.specs.Phases.{phase_word}
use Rattle.ec_wire.specs.Words.{attr_words, bricks_word, bytes_word, child_or, child_words, either, gfid_word, numbers_word, spaced}
use Rattle.ec_wire.specs.declared.answer.Answer.{Answer}
use Rattle.ec_wire.specs.declared.answer.Answer.TheVariants.{Size, Bytes, Child, Gone, Names, Healed, Nothing, NoQuorum, NoSuch, IsDir, NotDir, NoName, Exists, Split, TooLong, TooBig, Lost, Moved, Limit, Spent, Attr, NotEmpty, Scrubbed, Settled, Left, Swept}

-- a name of a directory with what it leads to
abbrev pub listed_word : List ℕ × Option NamedChild → List ℕ
listed_word e = encode_lower e.0 ++ 58 ∷ child_or (codes "open") e.1

abbrev pub answer_words : Answer → List (List ℕ)
answer_words (Size n) = codes "ok" ∷ decimal n ∷ []
answer_words (Bytes bytes) = codes "data" ∷ bytes_word bytes ∷ []
answer_words (Child c) = codes "child" ∷ child_words c
answer_words Gone = codes "gone" ∷ []
answer_words (Names list) = codes "names" ∷ map listed_word list
answer_words (Healed sinks all) = codes "healed" ∷ bricks_word sinks ∷ either all (codes "all") (codes "part") ∷ []
answer_words Nothing = codes "nothing" ∷ []
answer_words (NoQuorum phase most) = codes "noquorum" ∷ phase_word phase ∷ decimal most ∷ []
answer_words NoSuch = codes "nosuch" ∷ []
answer_words IsDir = codes "isdir" ∷ []
answer_words NotDir = codes "notdir" ∷ []
answer_words NoName = codes "noname" ∷ []
answer_words (Exists c) = codes "exists" ∷ child_words c
answer_words (Split a b) = codes "split" ∷ child_or (codes "none") a ∷ child_or (codes "none") b ∷ []
answer_words (TooLong n) = codes "toolong" ∷ decimal n ∷ []
answer_words (TooBig n) = codes "toobig" ∷ decimal n ∷ []
answer_words (Lost b) = codes "lost" ∷ decimal b ∷ []
answer_words (Moved mark group) = codes "moved" ∷ decimal mark ∷ decimal group ∷ []
answer_words (Limit version) = codes "limit" ∷ decimal version ∷ []
answer_words Spent = codes "spent" ∷ []
answer_words (Attr a) = codes "attr" ∷ attr_words a
answer_words (NotEmpty name) = codes "notempty" ∷ encode_lower name ∷ []
answer_words (Scrubbed seen bad) = codes "scrubbed" ∷ decimal seen ∷ numbers_word bad ∷ []
answer_words (Settled seen bad) = codes "settled" ∷ decimal seen ∷ numbers_word bad ∷ []
answer_words (Left g) = codes "left" ∷ gfid_word g ∷ []
answer_words (Swept healed given) = codes "swept" ∷ decimal healed ∷ decimal given ∷ []

abbrev pub answer_text : ℕ → Answer → List ℕ
answer_text call a = spaced (decimal call ∷ answer_words a)
