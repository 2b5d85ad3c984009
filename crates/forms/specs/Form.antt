-- A form of a value in bytes: how it is read from the front of a list, and how it is shown; Ok says which values it can show.
use Prim.{Unit}
use Rattle.std.specs.Prelude.{ℕ, ◌≡◌, List, [], ◌∷◌, ◌++◌, Bool, true, length, take, drop, leb, if◌then◌else◌}
use Rattle.wire.specs.Reading.{Reading, value, refused, ◌>>=◌}

-- what a reading from the front gives: a value and the bytes behind it, or a refusal
abbrev pub Front : Type 0 → Type 0
Front A = Reading (A × List ℕ)

-- a form of the values of A
pub record Form (A : Type 0) : Type 1 where
  pub read : List ℕ → Front A
  pub show : A → List ℕ
  pub Ok : A → Type 0

-- no byte shows it: the value is v
abbrev pub mute : {A : Type 0} → A → Form A
mute v = record { read = λ s. value (v, s); show = λ a. []; Ok = λ a. a ≡ v }

-- n bytes as they are. "22 sheet ends early"
unfoldable pub raw_read : ℕ → List ℕ → Front (List ℕ)
raw_read n s = if leb n (length s) then value (take n s, drop n s) else refused 22

-- the form of n bytes
abbrev pub raw : ℕ → Form (List ℕ)
raw n = record { read = raw_read n; show = λ a. a; Ok = λ a. length a ≡ n }

-- one form, and behind it another
module _ {A B : Type 0} where
  unfoldable pub both_read : Form A → Form B → List ℕ → Front (A × B)
  both_read c d s = c.read s >>= λ a. d.read a.1 >>= λ b. value ((a.0, b.0), b.1)

  -- their form
  infixr 4 ◌then◌
  abbrev pub ◌then◌ : Form A → Form B → Form (A × B)
  c then d = record { read = both_read c d; show = λ p. c.show p.0 ++ d.show p.1; Ok = λ p. c.Ok p.0 × d.Ok p.1 }

-- a form with a test; k is the refusal where it fails
module _ {A : Type 0} (c : Form A) (k : ℕ) (test : A → Bool) where
  unfoldable pub such_read : List ℕ → Front A
  such_read s = c.read s >>= λ a. if test a.0 then value a else refused k

  -- its form
  abbrev pub such : Form A
  such = record { read = such_read; show = c.show; Ok = λ a. c.Ok a × (test a ≡ true) }

-- a value for each x of a list, in the form that f has for x
module _ {X A : Type 0} (f : X → Form A) where
  unfoldable pub each_read : List X → List ℕ → Front (List A)
  each_read [] s = value ([], s)
  each_read (x ∷ xs) s = (f x).read s >>= λ a. each_read xs a.1 >>= λ l. value (a.0 ∷ l.0, l.1)

  -- shown one behind the other
  unfoldable pub each_show : List X → List A → List ℕ
  each_show [] l = []
  each_show (x ∷ xs) [] = []
  each_show (x ∷ xs) (a ∷ l) = (f x).show a ++ each_show xs l

  -- there are as many values as x, and each can be shown
  unfoldable pub EachOk : List X → List A → Type 0
  EachOk [] [] = Unit {0}
  EachOk [] (a ∷ l) = ⊥
  EachOk (x ∷ xs) [] = ⊥
  EachOk (x ∷ xs) (a ∷ l) = (f x).Ok a × EachOk xs l

  -- their form
  abbrev pub each : List X → Form (List A)
  each xs = record { read = each_read xs; show = each_show xs; Ok = EachOk xs }
