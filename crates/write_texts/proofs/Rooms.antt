-- What is put into a room piece by piece, and a descriptor that is put there behind its tag and its length.
use mathlib.Core.Path.{◌≡◌, ap, ◌∙◌, subst}
use mathlib.Core.List.{List, [], ◌∷◌, ◌++◌}
use Prim.Native.Nat.{ℕ, ◌+◌, ◌*◌, ◌<◌, ◌≤◌}
use native.Mathlib.Omega.{arith}
use lib.ListN.{length}
use lib.Seq.{take-length}
use Rattle.std.specs.Prelude.{Ok}
use Rattle.copy.specs.Copy.{copied}
use Rattle.forms.specs.Room.{put}
use Rattle.forms.proofs.Puts.{copied_put, put_put}
use Rattle.writing.specs.Number.{ofNumber}
use Rattle.writing.specs.Written.{headed, Writes}
use Rattle.writing.proofs.NumberBytes.{head_bytes}
use Rattle.writing.proofs.Answers.{headed-value, written}

-- a copy of a whole list
pub copied_whole : (s o : List ℕ) (to : ℕ) → to + length s ≤ length o → copied s 0 (length s) o to ≡ put o to s
copied_whole s o to h = copied_put s 0 (length s) o to (omega arith) h ∙ ap (put o to) (take-length s)

-- a piece that is put behind another
pub put_next : (o : List ℕ) (to : ℕ) (l m : List ℕ) (at : ℕ) → at ≡ to + length l → at + length m ≤ length o
    → {o₁ o₂ : List ℕ} → o₁ ≡ put o to l → o₂ ≡ put o₁ at m → o₂ ≡ put o to (l ++ m)
put_next o to l m at e h f g =
    g
    ∙ ap (λ x. put x at m) f
    ∙ ap (λ k. put (put o to l) k m) e
    ∙ put_put o to l (omega arith) m (omega arith)

module _ (tag n : ℕ) (byte : tag < 256) (most : n ≤ 255) where
  -- the tag and the length as one number, and the body behind them
  pub behind : (body o : List ℕ) → n ≡ length body → 257 ≤ length o → {o₁ o₂ : List ℕ}
      → o₁ ≡ put o 0 (ofNumber 2 (tag * 256 + n)) → o₂ ≡ put o₁ 2 body → Writes (headed tag body) o (Ok (n + 2)) o₂
  behind body o e room {o₁} {o₂} f g =
      let s : List ℕ = tag ∷ length body ∷ body in
      let size : length s ≡ n + 2 = omega arith in
      let all : o₂ ≡ put o 0 s =
      put_next o 0 (tag ∷ n ∷ []) body 2 (omega arith) (omega arith) (f ∙ ap (put o 0) (head_bytes tag n byte (omega arith))) g
      ∙ ap (λ k. put o 0 (tag ∷ k ∷ body)) e in
      subst (λ k. Writes (headed tag body) o (Ok k) o₂) size
      (written (headed tag body) o room s o₂ (headed-value tag body (omega arith)) all)
