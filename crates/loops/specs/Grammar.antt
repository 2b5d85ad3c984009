-- What a loop of descriptors is, and what is wrong first with bytes that are none.
use Rattle.std.specs.Prelude.{ℕ, ◌+◌, ◌<◌, List, [], ◌∷◌, ◌++◌, length}
use Rattle.loops.specs.Descriptors.{Placed, placed}

-- "descriptors (tag, length, body)", from the place p on
pub data Descriptors : ℕ → List ℕ → List Placed → Type 0 where
  none : {p : ℕ} → Descriptors p [] []
  one : {p : ℕ} (tag : ℕ) (body : List ℕ) {l : List ℕ} {ds : List Placed} → Descriptors (p + 2 + length body) l ds
      → Descriptors p (tag ∷ length body ∷ (body ++ l)) (placed p tag body ∷ ds)

-- "a descriptor reaches past its loop, or one byte is left"
pub data Unreadable : List ℕ → Type 0 where
  lone : (tag : ℕ) → Unreadable (tag ∷ [])
  past : (tag size : ℕ) (l : List ℕ) → length l < size → Unreadable (tag ∷ size ∷ l)

-- 9, "place of its tag": it is the first descriptor, or a whole descriptor stands before it
pub data DescriptorFault : ℕ → List ℕ → ℕ → Type 0 where
  here : {p : ℕ} {l : List ℕ} → Unreadable l → DescriptorFault p l p
  later : {p q : ℕ} (tag : ℕ) (body : List ℕ) {l : List ℕ} → DescriptorFault (p + 2 + length body) l q
      → DescriptorFault p (tag ∷ length body ∷ (body ++ l)) q
