-- Numbers in what is left of a list.
use mathlib.Core.Path.{◌≡◌, refl, ap, ap₂, ◌∙◌}
use mathlib.Core.List.{List, ◌∷◌, ◌++◌}
use Prim.Native.Nat.{ℕ, zero, suc, ◌+◌, ◌≤◌}
use native.Mathlib.Nat.{add_assoc, add-zero, zero-add}
use native.Mathlib.Omega.{arith}
use lib.ListN.{length, drop, get_or-append}
use lib.Seq.{get_or-drop}
use Rattle.wire.specs.Number.{number, bytes_at, number_at}

-- the bytes at a place of what follows the first k
pub bytes_after : (n : ℕ) (s : List ℕ) (k i : ℕ) → bytes_at n (drop k s) i ≡ bytes_at n s (k + i)
bytes_after zero s k i = refl
bytes_after (suc n) s k i = ap₂ ◌∷◌ (get_or-drop k s i 0) (bytes_after n s k (i + 1) ∙ rw add_assoc)

-- the number in the first bytes of what follows the first k is the number at place k
number_after_lem : (n : ℕ) (s : List ℕ) (k : ℕ) → number (bytes_at n (drop k s) 0) ≡ number_at n s k
unfolding number_at
number_after_lem n s k = ap number (bytes_after n s k 0) ∙ rw add-zero

-- so a number r of the n bytes that are first in t is the number at place k of s, where t is what follows the first k
pub read_after : (n : ℕ) (s : List ℕ) (k : ℕ) {t bs : List ℕ} {r : ℕ} → t ≡ drop k s → bs ≡ bytes_at n t 0 → r ≡ number bs
    → r ≡ number_at n s k
read_after n s k rest first read =
    read ∙ ap number (first ∙ ap (λ (t : List ℕ). bytes_at n t 0) rest) ∙ number_after_lem n s k

-- the number in the first n bytes of a list is theirs, whatever follows
pub number_in_front : (n : ℕ) (x y : List ℕ) → n ≤ length x → number_at n (x ++ y) 0 ≡ number_at n x 0
unfolding number_at
number_in_front n x y h = ap number (go n 0 (rw zero-add h))
  where
    go : (n i : ℕ) → i + n ≤ length x → bytes_at n (x ++ y) i ≡ bytes_at n x i
    go zero i h = refl
    go (suc n) i h = ap₂ ◌∷◌ (get_or-append x y 0 i (omega arith)) (go n (i + 1) (omega arith))
