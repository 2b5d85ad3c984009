-- The smallest number that has not come, from one number on: it is this one, or it is among those that follow, or all have come.
use Prim.Native.Nat.{ℕ, zero, suc, ◌+◌, ◌-◌, ◌<◌, ◌≤◌}
use mathlib.Core.Path.{◌≡◌, refl, sym, ◌∙◌}
use mathlib.Core.Bool.{Bool, true, false}
use native.Mathlib.Omega.{arith}
use lib.Dec.{ltb}
use borrow.Author.Tests.{ltb-true, ltb-false}
use Rattle.std.specs.Prelude.{if◌then◌else◌}
use Rattle.roll.specs.Answer.{missing, complete}
use Rattle.roll.specs.Marks.{smallest}

pub smallest-start : (came : ℕ → Bool) (last : ℕ) → smallest came (last + 1 - 0) 0 ≡ smallest came (last + 1) 0
smallest-start came last =
    let e : last + 1 - 0 ≡ last + 1 = omega arith in
    rw e

module _ (came : ℕ → Bool) (last n : ℕ) where
  turn : n ≤ last → smallest came (last + 1 - n) n ≡ (if came n then smallest came (last + 1 - (n + 1)) (n + 1) else missing n)
  unfolding smallest
  turn h =
      let e : last + 1 - n ≡ suc (last + 1 - (n + 1)) = omega arith in
      rw e

  on : n ≤ last → came n ≡ true → smallest came (last + 1 - n) n ≡ smallest came (last + 1 - (n + 1)) (n + 1)
  on h q = turn h ∙ rw q

  pub smallest_here : n ≤ last → came n ≡ false → smallest came (last + 1 - n) n ≡ missing n
  smallest_here h q = turn h ∙ rw q

  pub smallest_end : last + 1 ≤ n → smallest came (last + 1 - n) n ≡ complete
  unfolding smallest
  smallest_end h =
      let e : last + 1 - n ≡ 0 = omega arith in
      rw e

module _ (came : ℕ → Bool) (last : ℕ) where
  -- a number that has come, or lies above the last, is passed over
  past : (n : ℕ) → (n ≤ last → came n ≡ true) → smallest came (last + 1 - n) n ≡ smallest came (last + 1 - (n + 1)) (n + 1)
  past n h = go (ltb last n) refl
    where
      go : (b : Bool) → ltb last n ≡ b → smallest came (last + 1 - n) n ≡ smallest came (last + 1 - (n + 1)) (n + 1)
      go true e =
          let above = ltb-true last n e in
          smallest_end came last n (omega arith) ∙ sym (smallest_end came last (n + 1) (omega arith))
      go false e = on came last n (ltb-false last n e) (h (ltb-false last n e))

  -- and so are j of them
  pub smallest_over : (j n : ℕ) → ((i : ℕ) → i < j → n + i ≤ last → came (n + i) ≡ true)
      → smallest came (last + 1 - n) n ≡ smallest came (last + 1 - (n + j)) (n + j)
  smallest_over zero n h =
      let e : n + 0 ≡ n = omega arith in
      rw e
  smallest_over (suc j) n h =
      let e : n + 0 ≡ n = omega arith in
      let f : n + suc j ≡ n + 1 + j = omega arith in
      rw f (past n (rw e at (h 0 (omega arith)))
      ∙ smallest_over j (n + 1) (λ i l k. let g : n + 1 + i ≡ n + suc i = omega arith in
      rw g (h (suc i) (omega arith) (omega arith))))
