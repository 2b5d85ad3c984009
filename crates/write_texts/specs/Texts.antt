-- Texts in a body.
use Rattle.std.specs.Prelude.{◌≡◌, true, List, ◌∷◌, ◌++◌, ℕ, ◌+◌, ◌<◌, length}
use Rattle.wire.specs.Reading.{value, ◌>>=◌}
use Rattle.forms.specs.Fields.{Field}
use Rattle.clock.specs.Fault.{Answered}
use Rattle.layout.specs.Refusal.{bytes_of}
use Rattle.layout.specs.Widths.{size}
use Rattle.layout.specs.declared.Part.{Part}
use Rattle.writing.specs.Fill.{below, capacities}

-- a text after the byte that gives its length
abbrev pub lengthed : List ℕ → List ℕ
lengthed text = length text ∷ text

-- two of them
unfoldable pub two_texts : List ℕ → List ℕ → List ℕ
two_texts first second = lengthed first ++ lengthed second

-- the bytes of a part that is read
abbrev pub text_of : List ℕ → Answered Part → Answered (List ℕ)
text_of s r = r >>= λ p. value (bytes_of s p)

-- "113 body over 255 bytes": the numbers are inside the layout, and with the texts behind them, each after its length, the body is too long
abbrev pub TooLong : List Field → List ℕ → List ℕ → List ℕ → Type 0
TooLong layout numbers first second =
    (below numbers (capacities layout) ≡ true) × (255 < size layout + (1 + length first) + (1 + length second))
