-- The smallest number that has not come, or complete, is what "It answers" asks.
use Prim.Native.Nat.{ℕ, zero, suc, ◌+◌, ◌<◌}
use mathlib.Core.Path.{◌≡◌, refl, sym, ◌∙◌, subst}
use mathlib.Core.Bool.{Bool, true, false, false≢true}
use native.Mathlib.Omega.{arith}
use lib.Dec.{ltb}
use borrow.Author.Tests.{ltb-true, ltb-false}
use Rattle.wire.proofs.IfLaws.{if-case}
use Rattle.roll.specs.Marks.{smallest}
use Rattle.sequence.specs.Step.{Answers, all, least}

-- the smallest number that has not come, or complete, says what the marks say
module _ (came : ℕ → Bool) (come : ℕ → Type 0) (sound : (n : ℕ) → came n ≡ true → come n)
    (whole : (n : ℕ) → come n → came n ≡ true) (last : ℕ) where
  answers_from : (k n : ℕ) → n + k ≡ last + 1 → ((j : ℕ) → j < n → come j) → Answers come last (smallest came k n)
  unfolding smallest
  answers_from zero n e below = all (λ j h. below j (omega arith))
  answers_from (suc k) n e below =
      if-case (Answers come last) (came n)
      (λ t. answers_from k (n + 1) (omega arith) (more t))
      (λ f. least n (omega arith) (λ c. false≢true (sym f ∙ whole n c)) below)
    where
      more : came n ≡ true → (j : ℕ) → j < n + 1 → come j
      more t j h = go (ltb j n) refl
        where
          go : (b : Bool) → ltb j n ≡ b → come j
          go true p = below j (ltb-true j n p)
          go false p =
              let l = ltb-false j n p in
              let same : n ≡ j = omega arith in
              subst come same (sound n t)

  pub smallest_answers : Answers come last (smallest came (last + 1) 0)
  smallest_answers = answers_from (last + 1) 0 (omega arith) (λ j h. absurd (omega arith))
