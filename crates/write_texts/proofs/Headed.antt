-- A body behind its tag and its length.
use mathlib.Core.Path.{◌≡◌, sym, ap, ◌∙◌, subst}
use mathlib.Core.List.{List, ◌∷◌}
use Prim.Native.Nat.{ℕ, ◌<◌, ◌≤◌}
use native.Mathlib.Omega.{arith}
use borrow.Author.Tests.{ltb-true, ltb-false}
use lib.Dec.{ltb}
use lib.ListN.{length, get_or}
use Rattle.wire.specs.Bytes.{Bytes}
use Rattle.wire.specs.Reading.{Reading, value, refused}
use Rattle.wire.proofs.IfLaws.{if-case}
use Rattle.wire.proofs.ReadingLaws.{value_is, never}
use Rattle.layout.specs.Shapes.{Framed}
use Rattle.writing.specs.Written.{headed}
use Rattle.writing.proofs.Answers.{headed-value}
use Rattle.writing.proofs.Bodies.{headed_bytes}

module _ (tag : ℕ) (body : List ℕ) where
  -- what holds of a short body written and of a long one refused, holds of what is written
  pub headed_case : (P : Reading (List ℕ) → Type 0) → (length body ≤ 255 → P (value (tag ∷ length body ∷ body)))
      → (255 < length body → P (refused 113)) → P (headed tag body)
  headed_case P short long =
      if-case P (ltb 255 (length body)) (λ h. long (ltb-true 255 (length body) h))
      (λ h. short (ltb-false 255 (length body) h))

  pub headed_framed : (s : List ℕ) → headed tag body ≡ value s → Framed tag s body × (length body ≤ 255)
  headed_framed s =
      headed_case (λ r. r ≡ value s → Framed tag s body × (length body ≤ 255)) (λ h e. (sym (value_is e), h))
      (λ _ e. absurd (never (sym e)))

  module _ (s : List ℕ) (framed : Framed tag s body) where
    -- a length that is a byte is at most 255
    pub framed_headed : Bytes s → headed tag body ≡ value s
    framed_headed bytes =
        let short : length body < 256 = subst (λ l. get_or l 1 0 < 256) framed (bytes 1) in
        headed-value tag body (omega arith) ∙ ap value (sym framed)

    pub framed_bytes : tag < 256 → length body ≤ 255 → Bytes body → Bytes s
    framed_bytes byte short bytes = subst Bytes (sym framed) (headed_bytes tag body byte short bytes)
