-- Lists of values: after the number of their items, as sheets have them; in so many bytes, as sections have them.
use Rattle.std.specs.Prelude.{ℕ, zero, suc, ◌+◌, ◌*◌, ◌/◌, ◌%◌, ◌<◌, ◌≡◌, List, [], ◌∷◌, ◌++◌, length, get_or}
use Rattle.wire.specs.Bytes.{len12_at}
use Rattle.wire.specs.Number.{number}
use Rattle.wire.specs.Reading.{Reading, value, refused, ◌>>=◌}
use Rattle.forms.specs.Form.{Front, Form, raw_read}
use Rattle.forms.specs.Fields.{Field, pack, unpack, Fit}

module _ {A : Type 0} (c : Form A) where
  -- k items, one behind the other
  unfoldable pub times_read : ℕ → List ℕ → Front (List A)
  times_read zero s = value ([], s)
  times_read (suc k) s = c.read s >>= λ a. times_read k a.1 >>= λ l. value (a.0 ∷ l.0, l.1)

  -- shown one behind the other
  unfoldable pub all : List A → List ℕ
  all [] = []
  all (a ∷ l) = c.show a ++ all l

  -- each can be shown
  pub data All : List A → Type 0 where
    none : All []
    one : {a : A} {l : List A} → c.Ok a → All l → All (a ∷ l)

  -- the form of k items
  abbrev pub times : ℕ → Form (List A)
  times k = record { read = times_read k; show = all; Ok = λ l. (length l ≡ k) × All l }

  -- "each list after the two-byte number of its items"
  unfoldable pub counted_read : List ℕ → Front (List A)
  counted_read s = raw_read 2 s >>= λ n. times_read (number n.0) n.1

  -- the number of the items in two bytes, and the items
  unfoldable pub counted_show : List A → List ℕ
  counted_show l = length l / 256 ∷ length l % 256 ∷ all l

  -- the form of such a list
  abbrev pub counted : Form (List A)
  counted = record { read = counted_read; show = counted_show; Ok = λ l. (length l < 65536) × All l }

  -- items up to the end of the bytes, of which there are at most k; 10 where bytes are left
  unfoldable pub until_read : ℕ → List ℕ → Reading (List A)
  until_read zero [] = value []
  until_read zero (b ∷ s) = refused 10
  until_read (suc k) [] = value []
  until_read (suc k) (b ∷ s) = c.read (b ∷ s) >>= λ a. until_read k a.1 >>= λ l. value (a.0 ∷ l)

  -- items that fill n bytes
  unfoldable pub filling_read : ℕ → List ℕ → Front (List A)
  filling_read n s = raw_read n s >>= λ b. until_read n b.0 >>= λ l. value (l, b.1)

  -- the form of items that fill n bytes
  abbrev pub filling : ℕ → Form (List A)
  filling n = record { read = filling_read n; show = all; Ok = λ l. (length (all l) ≡ n) × All l }

  -- "A loop is a 12-bit length in the low bits of two bytes, then" its items; fields stand in the four high bits
  module _ (fs : List Field) where
    unfoldable pub loop_read : List ℕ → Front (List ℕ × List A)
    loop_read s = raw_read 2 s >>= λ h. filling_read (len12_at h.0 0) h.1 >>= λ l. value ((unpack fs (get_or h.0 0 0 / 16), l.0), l.1)

    -- the fields and the length in two bytes, and the items
    unfoldable pub loop_show : List ℕ × List A → List ℕ
    loop_show p = (pack fs p.0 * 16 + length (all p.1) / 256) ∷ length (all p.1) % 256 ∷ all p.1

    -- the form of such a loop
    abbrev pub loop : Form (List ℕ × List A)
    loop = record { read = loop_read; show = loop_show; Ok = λ p. Fit fs p.0 × (length (all p.1) < 4096) × All p.1 }
