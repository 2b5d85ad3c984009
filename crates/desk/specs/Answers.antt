-- What a call answers: 0 and the descriptor's size, or a refusal's number and 0.
use Rattle.std.specs.Prelude.{◌≡◌, List, ℕ, length}
use Rattle.wire.specs.Reading.{Reading, refused}
use Rattle.writing.specs.Written.{Told, wrote, refused_with, answer, roomAfter, into}
use Rattle.desk.specs.declared.answers.WriteAnswer.{WriteAnswer}

-- in numbers; no refusal has a place
abbrev pub says : Told → WriteAnswer
says (wrote n) = record { number = 0; size = n }
says (refused_with k p) = record { number = k; size = 0 }

-- what is said of a field that no reading gives, where the room has n bytes
abbrev pub saysOutside : ℕ → WriteAnswer
saysOutside n = says (answer (into n (refused 112)))

-- what a call that writes the descriptor d promises, with a room o: the answer, and the room after it
abbrev pub Called : Reading (List ℕ) → List ℕ → WriteAnswer → List ℕ → Type 0
Called d o r o' = (r ≡ says (answer (into (length o) d))) × (o' ≡ roomAfter o (into (length o) d))
