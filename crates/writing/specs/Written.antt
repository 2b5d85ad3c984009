-- What a writer of descriptors makes and answers: "fields in, tag, length, body out."
-- "Refusals: 111 room under 257; 112 a field outside its layout; 113 body over 255 bytes; in that order."
use Rattle.std.specs.Prelude.{ℕ, ◌≡◌, Bool, List, ◌∷◌, ltb, length, if◌then◌else◌, Result, Ok, Err}
use Rattle.wire.specs.Reading.{Reading, value, refused}
pub use Rattle.forms.specs.Outcome.{Outcome, gives, refuses, Told, wrote, refused_with, answer, roomAfter}
use Rattle.writing.specs.declared.Refusal.{Refusal}
use Rattle.writing.specs.declared.Refusal.TheVariants.{Room, Field, Long}

-- "112 a field outside its layout": a body, where each field is inside
abbrev pub inside : Bool → List ℕ → Reading (List ℕ)
inside ok body = if ok then value body else refused 112

-- "tag, length, body"; "113 body over 255 bytes"
abbrev pub headed : ℕ → List ℕ → Reading (List ℕ)
headed tag body = if ltb 255 (length body) then refused 113 else value (tag ∷ length body ∷ body)

-- the descriptor, or its refusal
abbrev pub outcome : Reading (List ℕ) → Outcome
outcome (value s) = gives s
outcome (refused k) = refuses k 0

-- "111 room under 257"; the room has n bytes
unfoldable pub into : ℕ → Reading (List ℕ) → Outcome
into n d = if ltb n 257 then refuses 111 0 else outcome d

-- document 02's number for every answer
abbrev pub told : Result ℕ Refusal → Told
told (Ok n) = wrote n
told (Err Room) = refused_with 111 0
told (Err Field) = refused_with 112 0
told (Err Long) = refused_with 113 0

-- what a writer of the descriptor d promises of a call with a room o: the answer, and the room after it
abbrev pub Writes : Reading (List ℕ) → List ℕ → Result ℕ Refusal → List ℕ → Type 0
Writes d o r o' = (told r ≡ answer (into (length o) d)) × (o' ≡ roomAfter o (into (length o) d))
