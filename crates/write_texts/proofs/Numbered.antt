-- A number of n bytes in front of two texts, each after the byte that gives its length: put into a room, and as fields.
use mathlib.Core.Path.{◌≡◌, refl, sym, ap, ap₂, ◌∙◌, subst}
use mathlib.Core.Bool.{Bool, true, false}
use mathlib.Core.List.{List, [], ◌∷◌, ◌++◌, append_assoc}
use Prim.Native.Nat.{ℕ, ◌+◌, ◌*◌, ◌/◌, ◌^◌, ◌<◌, ◌≤◌, min}
use native.Mathlib.Omega.{arith}
use borrow.Author.Tests.{lt-ltb, le-ltb, ltb-true, ltb-false}
use lib.Dec.{ltb}
use lib.ListN.{length, length-append}
use Rattle.std.specs.Prelude.{Result, Ok, Err}
use Rattle.wire.specs.Reading.{Reading, value, refused, ◌>>=◌}
use Rattle.forms.specs.Fields.{Field, kept, room, pack}
use Rattle.forms.specs.Room.{put}
use Rattle.writing.specs.Number.{ofNumber}
use Rattle.writing.specs.Fill.{ones, filled, made, below, capacities}
use Rattle.writing.specs.Written.{inside, headed, Writes}
use Rattle.writing.specs.declared.Refusal.{Refusal}
use Rattle.writing.specs.declared.Refusal.TheVariants.{Long}
use Rattle.writing.proofs.NumberBytes.{length_of}
use Rattle.writing.proofs.Answers.{headed_long, body-long}
use Rattle.write_texts.specs.Texts.{lengthed, two_texts}
use Rattle.write_texts.proofs.Rooms.{put_next, behind}
use Rattle.write_texts.proofs.Headed.{headed_case}

-- how many bytes that are
abbrev pub size_of : ℕ → List ℕ → List ℕ → ℕ
size_of n first second = n + (1 + length first) + (1 + length second)

module _ (n v : ℕ) (first second : List ℕ) where
  abbrev pub numbered : List ℕ
  numbered = ofNumber n v ++ two_texts first second

  pub numbered_length : length numbered ≡ size_of n first second
  unfolding two_texts
  numbered_length =
      length-append (ofNumber n v) (two_texts first second)
      ∙ (let h = length_of n v in let t = length-append (lengthed first) (lengthed second) in omega arith)

  -- piece by piece
  pub numbered_put : (o : List ℕ) (to : ℕ) {o₁ o₂ o₃ : List ℕ} → o₁ ≡ put o to (ofNumber n v)
      → o₂ ≡ put o₁ (to + n) (lengthed first) → o₃ ≡ put o₂ (to + 1 + n + length first) (lengthed second)
      → to + size_of n first second ≤ length o → o₃ ≡ put o to numbered
  unfolding two_texts
  numbered_put o to f g h room =
      let l = length_of n v in
      let head : List ℕ = ofNumber n v ++ lengthed first in
      let m : length head ≡ n + (1 + length first) = length-append (ofNumber n v) (lengthed first) ∙ omega arith in
      put_next o to head (lengthed second) (to + 1 + n + length first) (omega arith) (omega arith)
      (put_next o to (ofNumber n v) (lengthed first) (to + n) (omega arith) (omega arith) f g) h
      ∙ ap (put o to) (append_assoc (ofNumber n v) (lengthed first) (lengthed second))

  -- by the size that the code finds
  module _ (tag s : ℕ) (o : List ℕ) (found : s ≡ min (size_of n first second) 256) (room : 257 ≤ length o) where
    pub numbered_long : 255 < s → Writes (headed tag numbered) o (Err Long) o
    numbered_long h = body-long (headed tag numbered) o room (headed_long tag numbered (omega (arith, numbered_length)))

    pub numbered_written : s ≤ 255 → tag < 256 → {o₁ o₂ : List ℕ} → o₁ ≡ put o 0 (ofNumber 2 (tag * 256 + s))
        → o₂ ≡ put o₁ 2 numbered → Writes (headed tag numbered) o (Ok (s + 2)) o₂
    numbered_written h byte = behind tag s byte h numbered o (omega (arith, numbered_length)) room

-- ---- as the fields of a layout

-- the layout of a number of n bytes
abbrev pub one_number : ℕ → List Field
one_number n = kept (8 * n) ∷ []

made_one : (n v : ℕ) → made ones (one_number n) (v ∷ []) ≡ ofNumber n v
unfolding made filled pack room
made_one n v =
    let all : (8 * n + 0) / 8 ≡ n = omega arith in let alone : v * 1 + 0 ≡ v = omega arith in ap₂ ofNumber all alone

module _ (tag n v : ℕ) (first second : List ℕ) where
  -- what is written of the fields
  abbrev pub fields_written : Reading (List ℕ)
  fields_written =
      inside (below (v ∷ []) (capacities (one_number n))) (made ones (one_number n) (v ∷ []) ++ two_texts first second)
      >>= headed tag

  pub written_inside : v < 2 ^ (8 * n) → fields_written ≡ headed tag (numbered n v first second)
  unfolding below
  written_inside h = rw (lt-ltb v (2 ^ (8 * n)) h) (ap (λ b. headed tag (b ++ two_texts first second)) (made_one n v))

  pub written_outside : 2 ^ (8 * n) ≤ v → fields_written ≡ refused 112
  unfolding below
  written_outside h = rw (le-ltb v (2 ^ (8 * n)) h)

  pub writes_inside : (o : List ℕ) (r : Result ℕ Refusal) (o' : List ℕ) → Writes (headed tag (numbered n v first second)) o r o'
      → v < 2 ^ (8 * n) → Writes fields_written o r o'
  writes_inside o r o' w h = subst (λ d. Writes d o r o') (sym (written_inside h)) w

  -- a number inside its layout before texts that are short enough, one outside it, and texts that are too long
  pub fields_case : (P : Reading (List ℕ) → Type 0) → let body = numbered n v first second in
      (v < 2 ^ (8 * n) → size_of n first second ≤ 255 → P (value (tag ∷ length body ∷ body)))
      → (2 ^ (8 * n) ≤ v → P (refused 112)) → (v < 2 ^ (8 * n) → 255 < size_of n first second → P (refused 113))
      → P fields_written
  fields_case P short outside long = go (ltb v (2 ^ (8 * n))) refl
    where
      same : length (numbered n v first second) ≡ size_of n first second
      same = numbered_length n v first second

      go : (b : Bool) → ltb v (2 ^ (8 * n)) ≡ b → P fields_written
      go true e =
          let h = ltb-true v (2 ^ (8 * n)) e in
          subst P (sym (written_inside h)) (headed_case tag (numbered n v first second) P
          (λ l. short h (subst (λ k. k ≤ 255) same l)) (λ l. long h (subst (λ k. 255 < k) same l)))
      go false e = let h = ltb-false v (2 ^ (8 * n)) e in subst P (sym (written_outside h)) (outside h)
