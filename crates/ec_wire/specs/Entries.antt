-- The texts of the log's entries.
use Rattle.std.specs.Prelude.{ℕ, List, [], ◌∷◌, ◌++◌, codes, decimal}
use Rattle.ec_wire.specs.Answers.{answer_words}
use Rattle.ec_wire.specs.Calls.{op_words}
use Rattle.ec_wire.specs.Requests.{reply_words, request_words}
use Rattle.ec_wire.specs.Words.{either, number_or_dash, spaced}
use Rattle.ec_wire.specs.declared.entry.Entry.{Entry}
use Rattle.ec_wire.specs.declared.entry.Entry.TheVariants.{Called, Sent, Executed, Heard, Lost, GivenUp, Stopped, Returned, Cut, Died, Yielded, Torn, Answered, Replaced}
use Rattle.ec_wire.specs.declared.message.Body.{Body}
use Rattle.ec_wire.specs.declared.message.Body.TheVariants.{ToBrick, ToClient}

abbrev pub client_word : ℕ → List ℕ
client_word c = codes "c" ++ decimal c

abbrev pub brick_word : ℕ → List ℕ
brick_word b = codes "b" ++ decimal b

-- who sends, who is to get it, and what
abbrev pub body_words : ℕ → ℕ → Body → List (List ℕ)
body_words client brick (ToBrick request) = client_word client ∷ brick_word brick ∷ request_words request
body_words client brick (ToClient re reply) = brick_word brick ∷ client_word client ∷ codes "re" ∷ decimal re ∷ reply_words reply

abbrev pub entry_words : Entry → List (List ℕ)
entry_words (Called call client op) = codes "called" ∷ decimal call ∷ decimal client ∷ op_words op
entry_words (Sent m) = codes "sent" ∷ decimal m.no ∷ body_words m.client m.brick m.body
entry_words (Executed number version failed) = codes "executed" ∷ decimal number ∷ number_or_dash version ∷ []
entry_words (Heard number) = codes "heard" ∷ decimal number ∷ []
entry_words (Lost number) = codes "lost" ∷ decimal number ∷ []
entry_words (GivenUp client brick number) = codes "givenup" ∷ decimal client ∷ decimal brick ∷ decimal number ∷ []
entry_words (Stopped brick) = codes "stopped" ∷ decimal brick ∷ []
entry_words (Returned brick) = codes "returned" ∷ decimal brick ∷ []
entry_words (Cut client brick) = codes "cut" ∷ decimal client ∷ decimal brick ∷ []
entry_words (Died client) = codes "died" ∷ decimal client ∷ []
entry_words (Yielded client) = codes "yielded" ∷ decimal client ∷ []
entry_words (Torn number bytes version) = codes "torn" ∷ decimal number ∷ decimal bytes ∷ number_or_dash version ∷ []
entry_words (Answered call answer) = decimal call ∷ answer_words answer
entry_words (Replaced brick removed all) = codes "replaced" ∷ decimal brick ∷ decimal removed ∷ either all (codes "all") (codes "part") ∷ []

abbrev pub entry_text : Entry → List ℕ
entry_text e = spaced (entry_words e)
