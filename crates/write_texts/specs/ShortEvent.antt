-- 0x4D short event, written: EN 300 468, clause 6.2.37. The layout is that of the reading.
use Rattle.std.specs.Prelude.{List, [], ◌∷◌, ◌++◌, ℕ}
use Rattle.wire.specs.Bytes.{Bytes}
use Rattle.wire.specs.Reading.{Reading, value, ◌>>=◌}
use Rattle.clock.specs.Fault.{Answered}
use Rattle.layout.specs.Refusal.{bytes_of}
use Rattle.texts.specs.ShortEvent.{layout, short_event}
use Rattle.writing.specs.Fill.{ones, made, below, capacities}
use Rattle.writing.specs.Written.{inside, headed}
use Rattle.write_texts.specs.Texts.{two_texts}

-- what is written: the number, and the bytes of the name and the text
pub record Fields : Type 0 where
  pub language_code : ℕ
  pub event_name : List ℕ
  pub text : List ℕ

-- a caller lends bytes
abbrev pub Lent : Fields → Type 0
Lent f = Bytes f.event_name × Bytes f.text

-- what stands in front of the texts, as numbers
abbrev pub numbers : Fields → List ℕ
numbers f = f.language_code ∷ []

-- the tag 0x4D, the length, and the body
unfoldable pub short_event_written : Fields → Reading (List ℕ)
short_event_written f =
    inside (below (numbers f) (capacities layout)) (made ones layout (numbers f) ++ two_texts f.event_name f.text) >>= headed 0x4D

-- what a descriptor is read as
unfoldable pub short_event_read : List ℕ → Answered Fields
short_event_read s = short_event s >>= λ f. value (record {
  language_code = f.language_code;
  event_name = bytes_of s f.event_name;
  text = bytes_of s f.text;
})
