-- What document 02 says of a writer and of the reading whose reverse it is.
use Rattle.std.specs.Prelude.{ℕ, ◌≡◌, ◌⊎◌, ◌↔◌, List, get_or}
use Rattle.wire.specs.Bytes.{Bytes}
use Rattle.wire.specs.Reading.{Reading, value, refused}
use Rattle.clock.specs.Fault.{Answered}

-- The fields are an F, of which a caller can lend those that are Lent; `read` says what a descriptor is read as, `write` what is written.
-- Usual says of a descriptor's bits "reserved bits were ones .. and no polarity 1 stood over two zero offsets".
pub record Reverse {F : Type 0} (Lent : F → Type 0) (read : List ℕ → Answered F) (write : F → Reading (List ℕ)) (Usual : List ℕ → Type 0) : Type 0 where
  -- "Reading back gives the fields"
  pub reads_back : (f : F) (s : List ℕ) → Lent f → write f ≡ value s → read s ≡ value f
  -- "writing what was read gives the bytes where" they are usual
  pub writes_back : (s : List ℕ) (f : F) → Bytes s → Usual s → read s ≡ value f → write f ≡ value s
  -- and nowhere else: what was written is so
  pub usual : (f : F) (s : List ℕ) → Lent f → write f ≡ value s → Usual s
  -- what is written are bytes
  pub bytes : (f : F) (s : List ℕ) → Lent f → write f ≡ value s → Bytes s
  -- "no other input is refused": whatever any descriptor is read as can be lent and can be written
  pub lent : (s : List ℕ) (f : F) → Bytes s → read s ≡ value f → Lent f
  pub written : (s : List ℕ) (f : F) → Bytes s → read s ≡ value f → (t : List ℕ) × (write f ≡ value t)
  -- a refusal is 112 or 113
  pub numbers : (f : F) (k : ℕ) → write f ≡ refused k → (k ≡ 112) ⊎ (k ≡ 113)

-- no descriptor at all is read as these fields
abbrev pub NoDescriptor : {F : Type 0} → (List ℕ → Answered F) → F → Type 0
NoDescriptor read f = (s : List ℕ) → Bytes s → read s ≡ value f → ⊥

-- no descriptor at all has this number in the field of an index; `numbers` are the fields as numbers
abbrev pub NoField : {F : Type 0} → (List ℕ → Answered F) → (F → List ℕ) → ℕ → ℕ → Type 0
NoField read numbers i v = (s : List ℕ) (g : _) → Bytes s → read s ≡ value g → get_or (numbers g) i 0 ≡ v → ⊥

-- "112 a field outside its layout": exactly if one field, by itself, is such that no descriptor has it
abbrev pub FieldExactly : {F : Type 0} → (F → Type 0) → (List ℕ → Answered F) → (F → Reading (List ℕ)) → (F → List ℕ) → Type 0
FieldExactly Lent read write numbers = (f : _) → Lent f → write f ≡ refused 112 ↔ ((i : ℕ) × NoField read numbers i (get_or (numbers f) i 0))
