-- `writing::numbers::put_number` meets its contract.
use mathlib.Core.Path.{◌≡◌, sym, ap, ap₂, ◌∙◌}
use mathlib.Core.Bool.{Bool, true, false}
use mathlib.Core.List.{List, [], ◌∷◌, ◌++◌}
use Prim.Native.Nat.{ℕ, zero, suc, ◌+◌, ◌-◌, ◌*◌, ◌/◌, ◌%◌, ◌^◌, ◌≤◌, ◌<◌}
use native.Mathlib.Numerals.{add-one}
use native.Mathlib.Omega.{arith}
use borrow.Author.Tests.{ltb-true, ltb-false}
use lib.Dec.{ltb}
use lib.ListN.{length, take, get_or, set}
use lib.Seq.{length-take-le, take_all, take-suc}
use Rattle.forms.specs.Room.{put}
use Rattle.forms.proofs.Puts.{put_one, put_none, put_out, put_put, length_put}
use Rattle.writing.specs.Number.{ofNumber}
use Rattle.writing.proofs.NumberBytes.{length_of}
use Rattle.writing.proofs.numbers.put_number.Goals as goal

module _ (o : List ℕ) (to n : ℕ) {lacking : Bool} (e : lacking ≡ ltb (length o) (to + n)) where
  stays : (x : ℕ) → lacking ≡ true → o ≡ put o to (ofNumber n x)
  stays x y =
      let short = ltb-true (length o) (to + n) (sym e ∙ y) in
      sym (put_out o to (ofNumber n x) (omega (arith, length_of n x)))

  begins : lacking ≡ false → (to + n ≤ length o) × (o ≡ put o to [])
  begins y =
      let room = ltb-false (length o) (to + n) (sym e ∙ y) in
      (room, sym (put_none o to (omega arith)))

-- a byte put next to others is put with them
put-more : (o : List ℕ) (to : ℕ) (l : List ℕ) (b : ℕ) → to + length l < length o
    → set (put o to l) (to + length l) b ≡ put o to (l ++ (b ∷ []))
put-more o to l b h =
    put_one (put o to l) (to + length l) b (omega (arith, length_put o to l (omega arith)))
    ∙ put_put o to l (omega arith) (b ∷ []) (omega arith)

-- the byte of a number at a place has those behind it below it
byte_at : (n x i : ℕ) → i < n → get_or (ofNumber n x) i 0 ≡ x / 2 ^ (8 * (n - 1 - i)) % 256
unfolding ofNumber
byte_at zero x i h = absurd (omega arith)
byte_at (suc n) x zero h =
    let e : n ≡ suc n - 1 - 0 = omega arith in ap (λ k. x / 2 ^ (8 * k) % 256) e
byte_at (suc n) x (suc i) h =
    let e : n - 1 - i ≡ suc n - 1 - suc i = omega arith in
    byte_at n x i (omega arith) ∙ ap (λ k. x / 2 ^ (8 * k) % 256) e

-- one store more
more : (o : List ℕ) (to n x i : ℕ) {r : List ℕ} {b : ℕ} → to + n ≤ length o → i < n
    → r ≡ put o to (take i (ofNumber n x))
    → b ≡ x / 2 ^ (8 * (n - 1 - i)) % 256
    → set r (to + i) b ≡ put o to (take (i + 1) (ofNumber n x))
more o to n x i {r} {b} room h e byte =
    let l : List ℕ = ofNumber n x in
    let all : length l ≡ n = length_of n x in
    let k : length (take i l) ≡ i = length-take-le i l (omega arith) in
    ap₂ (λ s j. set s (to + j) b) e (sym k)
    ∙ put-more o to (take i l) b (omega arith)
    ∙ ap (λ d. put o to (take i l ++ (d ∷ []))) (byte ∙ sym (byte_at n x i h))
    ∙ ap (put o to) (sym (take-suc l i 0 (omega arith)) ∙ ap (λ j. take j l) (sym (add-one i)))

-- all of it is stored
whole : (n x i : ℕ) → n ≤ i → take i (ofNumber n x) ≡ ofNumber n x
whole n x i h = take_all i (ofNumber n x) (omega (arith, length_of n x))

pub returns-then-lacks : goal.returns-then-lacks
returns-then-lacks c = stays _ _ _ c.lacks.ensures _ c.if-lacks.true

pub loop-i-init : goal.loop-i-init
loop-i-init c = begins _ _ _ c.lacks.ensures c.if-lacks.false

pub loop-i-preserved : goal.loop-i-preserved
loop-i-preserved c =
    let inv = c.loop-i.invariant in (inv.0, more _ _ _ _ _ inv.0 c.loop-i-test.true inv.1 c.byte_of.ensures)

pub returns : goal.returns
returns c = c.loop-i.invariant.1 ∙ ap (put _ _) (whole _ _ _ c.loop-i-test.false)
