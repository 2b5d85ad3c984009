-- The three bodies as the code puts them, by what they have alike.
use mathlib.Core.Path.{◌≡◌, sym, ap, ap₂, ◌∙◌}
use mathlib.Core.Bool.{Bool, true, false, not}
use mathlib.Core.List.{List, ◌∷◌, ◌++◌}
use Prim.Native.Nat.{ℕ, ◌+◌, ◌*◌, ◌^◌, ◌<◌, ◌≤◌}
use native.Mathlib.Omega.{arith}
use borrow.Author.Tests.{not-false, not-true}
use lib.ListN.{length}
use Rattle.wire.specs.Digits.{bcd_show}
use Rattle.std.specs.Prelude.{Ok}
use Rattle.wire.specs.Reading.{Reading, value, refused, ◌>>=◌}
use Rattle.wire.proofs.Shown.{show_below}
use Rattle.forms.specs.Room.{put}
use Rattle.forms.proofs.Puts.{put_put}
use Rattle.writing.specs.Number.{ofNumber}
use Rattle.writing.specs.Written.{inside, headed, Writes}
use Rattle.writing.proofs.NumberBytes.{of_join, head_bytes}
use Rattle.writing.proofs.Tens.{show_short}
use Rattle.writing.proofs.Answers.{written}

-- ---- numbers

-- a number of at most n digits, shown in eight
pub fewer_digits : {x a : ℕ} → x ≡ bcd_show 8 a → (n : ℕ) → n ≤ 8 → a < 10 ^ n → (x ≡ bcd_show n a) × (x < 2 ^ (4 * n))
fewer_digits {x} {a} e n l h =
    let s : x ≡ bcd_show n a = e ∙ show_short 8 n a l h in
    (s, omega (arith, show_below n a))

-- numbers of 4, 3 and 4 bytes
abbrev pub body : ℕ → ℕ → ℕ → List ℕ
body first middle last = ofNumber 4 first ++ (ofNumber 3 middle ++ ofNumber 4 last)

-- as the bytes of one number
pub joined : (first middle last : ℕ) → middle < 2 ^ 24 → last < 2 ^ 32
    → ofNumber 11 (first * 2 ^ 56 + (middle * 2 ^ 32 + last)) ≡ body first middle last
joined first middle last m l =
    of_join 4 7 first (middle * 2 ^ 32 + last) (omega arith)
    ∙ ap (λ b. ofNumber 4 first ++ b) (of_join 3 4 middle last l)

-- ---- put into a room

module _ (o : List ℕ) (tag first middle last : ℕ) (room : 13 ≤ length o) where
  pub two_puts : {r r' : List ℕ} → tag < 256 → first < 2 ^ 32 → last < 2 ^ 32
      → r ≡ put o 0 (ofNumber 6 ((tag * 256 + 11) * 2 ^ 32 + first))
      → r' ≡ put r 6 (ofNumber 7 (middle * 2 ^ 32 + last))
      → r' ≡ put o 0 (tag ∷ 11 ∷ body first middle last)
  unfolding ofNumber
  two_puts t f l e d =
      let x : List ℕ = ofNumber 6 ((tag * 256 + 11) * 2 ^ 32 + first) in
      let y : List ℕ = ofNumber 7 (middle * 2 ^ 32 + last) in
      d
      ∙ ap (λ r. put r 6 y) e
      ∙ put_put o 0 x (omega arith) y (omega arith)
      ∙ ap₂ (λ x y. put o 0 (x ++ y))
      (of_join 2 4 (tag * 256 + 11) first f ∙ ap (λ h. h ++ ofNumber 4 first) (head_bytes tag 11 t (omega arith)))
      (of_join 3 4 middle last l)

-- ---- answers: r is what the code's test of the fields says

-- where the test refused nothing, what the code put is the descriptor d, if its three numbers are these
abbrev pub WritesBody : Reading (List ℕ) → Bool → ℕ → ℕ → ℕ → ℕ → Type 0
WritesBody d r tag first middle last =
    (o o' : List ℕ) (x y z : ℕ) → not r ≡ false → 257 ≤ length o → o' ≡ put o 0 (tag ∷ 11 ∷ body x y z)
    → x ≡ first → y ≡ middle → z ≡ last
    → Writes d o (Ok 13) o'

module _ (tag : ℕ) (ok : Bool) (b : List ℕ) where
  abbrev descriptor : Reading (List ℕ)
  descriptor = inside ok b >>= headed tag

  module _ {r : Bool} (e : r ≡ ok) where
    pub refuses : not r ≡ true → descriptor ≡ refused 112
    refuses h = rw (sym e ∙ not-true r h)

    module _ (first middle last : ℕ) (is : ok ≡ true → b ≡ body first middle last) where
      value_is : not r ≡ false → descriptor ≡ value (tag ∷ 11 ∷ body first middle last)
      unfolding ofNumber
      value_is h = let yes = sym e ∙ not-false r h in ap₂ (λ k l. inside k l >>= headed tag) yes (is yes)

      pub wrote : WritesBody descriptor r tag first middle last
      unfolding ofNumber
      wrote o o' x y z h room p f m l =
          written descriptor o room (tag ∷ 11 ∷ body first middle last) o' (value_is h) (rw (← f, ← m, ← l) p)
