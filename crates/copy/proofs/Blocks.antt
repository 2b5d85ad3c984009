-- A copy, block by block.
use mathlib.Core.Path.{◌≡◌, sym, ap, ◌∙◌}
use mathlib.Core.List.{List, ◌++◌, append_assoc}
use Prim.Native.Nat.{ℕ, ◌+◌, ◌-◌, ◌≤◌, ◌<◌}
use native.Mathlib.Nat.{add_assoc}
use native.Mathlib.Numerals.{add-one}
use native.Mathlib.Omega.{arith}
use lib.ListN.{length, take, drop, get_or, set, length-drop}
use lib.Seq.{paste, paste-suc, get_or-drop, take-paste, drop-paste, take-take, take-add, take-append-add, drop-drop, length-take-le}

-- one byte more
pub one_more : (d dst src : List ℕ) (from at i : ℕ) → dst ≡ paste d at (drop from src) i → at + i < length d
    → from + i < length src
    → set dst (at + i) (get_or src (from + i) 0) ≡ paste d at (drop from src) (i + 1)
one_more d dst src from at i e hd hs =
    ap (λ (l : List ℕ). set l (at + i) (get_or src (from + i) 0)) e
    ∙ ap (λ (v : ℕ). set (paste d at (drop from src) i) (at + i) v) (sym (get_or-drop from src i 0))
    ∙ paste-suc d at (drop from src) i 0 hd (omega (arith, length-drop from src))
    ∙ ap (paste d at (drop from src)) (sym (add-one i))

-- of a copy of i bytes, what stands before its byte j
pub front : (d s : List ℕ) (at i j : ℕ) → at ≤ length d → i ≤ length s → j ≤ i
    → take (at + j) (paste d at s i) ≡ take at d ++ take j s
front d s at i j hd hs le =
    sym (take-take (at + j) (at + i) (paste d at s i) (omega arith))
    ∙ ap (take (at + j)) (take-paste d at s i hd hs)
    ∙ sym (ap (λ (k : ℕ). take k (take at d ++ take i s)) (ap (λ (k : ℕ). k + j) (length-take-le at d hd)))
    ∙ take-append-add (take at d) (take i s) j
    ∙ ap (λ (l : List ℕ). take at d ++ l) (take-take j i s le)

-- and what stands behind it
pub behind : (d s : List ℕ) (at i m : ℕ) → at ≤ length d → i ≤ length s → i ≤ m
    → drop (at + m) (paste d at s i) ≡ drop (at + m) d
behind d s at i m hd hs le =
    let e : at + i + (m - i) ≡ at + m = omega arith in
    ap (λ (k : ℕ). drop k (paste d at s i)) (sym e)
    ∙ sym (drop-drop (m - i) (at + i) (paste d at s i))
    ∙ ap (drop (m - i)) (drop-paste d at s i hd hs)
    ∙ drop-drop (m - i) (at + i) d
    ∙ ap (λ (k : ℕ). drop k d) e

-- bytes that begin in a copy or at its end and go on past it make it longer
pub over : (d s : List ℕ) (at i j k : ℕ) → at ≤ length d → i ≤ length s → j ≤ i → i ≤ j + k
    → paste (paste d at s i) (at + j) (drop j s) k ≡ paste d at s (j + k)
over d s at i j k hd hs low high =
    ap (λ (l : List ℕ). l ++ take k (drop j s) ++ drop (at + j + k) (paste d at s i)) (front d s at i j hd hs low)
    ∙ ap (λ (l : List ℕ). l ++ drop (at + j + k) (paste d at s i))
    (append_assoc (take at d) (take j s) (take k (drop j s))
    ∙ ap (λ (l : List ℕ). take at d ++ l) (sym (take-add j k s)))
    ∙ ap (λ (m : ℕ). take at d ++ take (j + k) s ++ drop m (paste d at s i)) (add_assoc at j k)
    ∙ ap (λ (l : List ℕ). take at d ++ take (j + k) s ++ l) (behind d s at i (j + k) hd hs high)

-- and with a block behind those that are copied, or over their end, there are m
pub block_more : (d dst src : List ℕ) (from at i j k m : ℕ) → dst ≡ paste d at (drop from src) i → at ≤ length d
    → from + i ≤ length src → j ≤ i → i ≤ j + k → m ≡ j + k
    → paste dst (at + j) (drop (from + j) src) k ≡ paste d at (drop from src) m
block_more d dst src from at i j k m e hd hs low high p =
    ap (λ (l : List ℕ). paste l (at + j) (drop (from + j) src) k) e
    ∙ ap (λ (l : List ℕ). paste (paste d at (drop from src) i) (at + j) l k) (sym (drop-drop j from src))
    ∙ over d (drop from src) at i j k hd (omega (arith, length-drop from src)) low high
    ∙ ap (paste d at (drop from src)) (sym p)
