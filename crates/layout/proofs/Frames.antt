-- The tag and the length byte, by the tests that the code makes.
use mathlib.Core.Path.{◌≡◌, refl, sym, ap, ◌∙◌}
use mathlib.Core.List.{List, [], ◌∷◌}
use Prim.Native.Nat.{ℕ, ◌-◌, ◌<◌, ◌≤◌}
use native.Mathlib.Omega.{arith}
use borrow.Author.Tests.{eq-eqb, ne_eqb}
use lib.ListN.{length, get_or, take, drop}
use lib.Seq.{take-length}
use Rattle.wire.specs.Reading.{value, refused}
use Rattle.clock.specs.Fault.{plain}
use Rattle.layout.specs.Body.{framed}

module _ (tag : ℕ) where
  pub no_byte : (s : List ℕ) → length s < 1 → framed s tag ≡ refused (plain 61)
  unfolding framed
  no_byte [] h = refl
  no_byte (t ∷ r) h = absurd (omega arith)

  pub other_tag : (s : List ℕ) → (get_or s 0 0 ≡ tag → ⊥) → framed s tag ≡ refused (plain 61)
  unfolding framed
  other_tag [] h = refl
  other_tag (t ∷ r) h = rw (ne_eqb t tag h)

  pub no_length : (s : List ℕ) → get_or s 0 0 ≡ tag → 1 ≤ length s → length s < 2 → framed s tag ≡ refused (plain 62)
  unfolding framed
  no_length [] h l m = absurd (omega arith)
  no_length (t ∷ []) h l m = rw (eq-eqb t tag h)
  no_length (t ∷ n ∷ b) h l m = absurd (omega arith)

  pub other_length : (s : List ℕ) → get_or s 0 0 ≡ tag → 2 ≤ length s → (get_or s 1 0 ≡ length s - 2 → ⊥)
      → framed s tag ≡ refused (plain 62)
  unfolding framed
  other_length [] h l e = absurd (omega arith)
  other_length (t ∷ []) h l e = absurd (omega arith)
  other_length (t ∷ n ∷ b) h l e = rw (eq-eqb t tag h, ne_eqb n (length b) (λ q. e (omega arith)))

  pub whole : (s : List ℕ) → get_or s 0 0 ≡ tag → 2 ≤ length s → get_or s 1 0 ≡ length s - 2
      → framed s tag ≡ value (take (length s - 2) (drop 2 s))
  unfolding framed
  whole [] h l e = absurd (omega arith)
  whole (t ∷ []) h l e = absurd (omega arith)
  whole (t ∷ n ∷ b) h l e =
      let q : n ≡ length b = omega arith in
      let l : length b ≡ length (t ∷ n ∷ b) - 2 = omega arith in
      rw (eq-eqb t tag h, eq-eqb n (length b) q) (ap value (sym (take-length b) ∙ ap (λ k. take k b) l))

pub ruleset frames = (no_byte, other_tag, no_length, other_length, whole)
