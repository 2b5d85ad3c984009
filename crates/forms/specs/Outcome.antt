-- What a writer answers: "Success writes the first n bytes and tells n; later bytes stay." A refusal alters nothing.
use Rattle.std.specs.Prelude.{ℕ, ◌≤◌, ◌≡◌, List, length, take, drop}
use Rattle.forms.specs.Room.{put}

-- how a call ends: the bytes that it gives, or a refusal's number and place
pub data Outcome : Type 0 where
  gives : List ℕ → Outcome
  refuses : ℕ → ℕ → Outcome

-- what the caller is told: how many bytes were written, or a refusal's number and place
pub data Told : Type 0 where
  wrote : ℕ → Told
  refused_with : ℕ → ℕ → Told

-- "tells n"
abbrev pub answer : Outcome → Told
answer (gives l) = wrote (length l)
answer (refuses k p) = refused_with k p

-- "Success writes the first n bytes ..; later bytes stay."; a refusal writes nothing
abbrev pub roomAfter : List ℕ → Outcome → List ℕ
roomAfter o (gives l) = put o 0 l
roomAfter o (refuses k p) = o

-- a room o has the bytes l at its start, and its later bytes are those that it had
pub record Begins (l o o' : List ℕ) : Type 0 where
  pub first : take (length l) o' ≡ l
  pub later : drop (length l) o' ≡ drop (length l) o
  pub same_length : length o' ≡ length o

-- "Success writes the first n bytes and tells n; later bytes stay.", where the room has so many
abbrev pub SuccessWrites : Type 0
SuccessWrites = (o l : List ℕ) → length l ≤ length o → (answer (gives l) ≡ wrote (length l)) × Begins l o (roomAfter o (gives l))

-- a refusal alters nothing
abbrev pub RefusalAltersNothing : Type 0
RefusalAltersNothing = (o : List ℕ) (k p : ℕ) → (answer (refuses k p) ≡ refused_with k p) × (roomAfter o (refuses k p) ≡ o)
