-- Bytes moved within one list, block by block: down from the first block on, up from the last.
use mathlib.Core.Path.{◌≡◌, refl, sym, ap, ◌∙◌}
use mathlib.Core.List.{List, ◌++◌, append_assoc, append-nil}
use Prim.Native.Nat.{ℕ, ◌+◌, ◌-◌, ◌≤◌}
use native.Mathlib.Nat.{add_assoc}
use native.Mathlib.Omega.{arith}
use lib.ListN.{length, take, drop, replicate, length-drop, take-append-drop}
use lib.Seq.{paste, take-paste, take-take, take-add, drop-drop, drop_at, drop-append-add, drop-append-le, length-take-le}
use Rattle.copy.proofs.Blocks.{front, behind, block_more}

-- ---- through a room of their own: n bytes, read to its start and written from there

held : (src b : List ℕ) (from n m : ℕ) → from + n ≤ length src → b ≡ paste (replicate m 0) 0 (drop from src) n
    → take n b ≡ take n (drop from src)
held src b from n m fits e =
    let s = drop from src in
    let long : n ≤ length s = omega (arith, length-drop from src) in
    let z : 0 + n ≡ n = omega arith in
    ap (take n) e
    ∙ ap (λ (k : ℕ). take k (paste (replicate m 0) 0 s n)) (sym z)
    ∙ take-paste (replicate m 0) 0 s n (omega arith) long

pub through_held : (src d b : List ℕ) (from at n m : ℕ) → from + n ≤ length src
    → b ≡ paste (replicate m 0) 0 (drop from src) n → paste d at (drop 0 b) n ≡ paste d at (drop from src) n
through_held src d b from at n m fits e =
    ap (λ (l : List ℕ). take at d ++ l ++ drop (at + n) d) (held src b from n m fits e)

-- ---- down

module _ (o : List ℕ) (from to : ℕ) (low : to ≤ from) where
  -- where the first i are moved, those behind them are as they were
  still_behind : (i : ℕ) → from + i ≤ length o → drop (from + i) (paste o to (drop from o) i) ≡ drop (from + i) o
  still_behind i fits =
      let s = drop from o in
      let e : to + (from + i - to) ≡ from + i = omega arith in
      let long : i ≤ length s = omega (arith, length-drop from o) in
      ap (λ (k : ℕ). drop k (paste o to s i)) (sym e)
      ∙ behind o s to i (from + i - to) (omega arith) long (omega arith)
      ∙ ap (λ (k : ℕ). drop k o) e

  -- one block more
  pub down_on : (room : List ℕ) (i : ℕ) → from + i + 32 ≤ length o → room ≡ paste o to (drop from o) i
      → paste room (to + i) (drop (from + i) room) 32 ≡ paste o to (drop from o) (i + 32)
  down_on room i fits is =
      ap (λ (l : List ℕ). paste room (to + i) l 32) (ap (drop (from + i)) is ∙ still_behind i (omega arith))
      ∙ block_more o room o from to i i 32 (i + 32) is (omega arith) (omega arith) (omega arith) (omega arith) refl

  -- and the last one, which was read before any was written
  pub down_ends : (room last : List ℕ) (i n : ℕ) → 32 ≤ n → from + n ≤ length o → i ≤ n → n - i ≤ 32
      → room ≡ paste o to (drop from o) i → last ≡ paste (replicate 32 0) 0 (drop (from + (n - 32)) o) 32
      → paste room (to + (n - 32)) (drop 0 last) 32 ≡ paste o to (drop from o) n
  down_ends room last i n large fits le near is e =
      through_held o room last (from + (n - 32)) (to + (n - 32)) 32 32 (omega arith) e
      ∙ block_more o room o from to i (n - 32) 32 n is (omega arith) (omega arith) (omega arith) (omega arith) (omega arith)

-- ---- up

-- of bytes that are pasted, what stands before their place
pub before : (d s : List ℕ) (at n k : ℕ) → at ≤ length d → n ≤ length s → k ≤ at → take k (paste d at s n) ≡ take k d
before d s at n k hd hs le =
    let e : at + 0 ≡ at = omega arith in
    sym (take-take k at (paste d at s n) le)
    ∙ ap (take k)
    (ap (λ (i : ℕ). take i (paste d at s n)) (sym e)
    ∙ front d s at n 0 hd hs (omega arith)
    ∙ append-nil (take at d))
    ∙ take-take k at d le

-- of bytes that are pasted, what stands behind the first e of them
within : (d s : List ℕ) (at n e : ℕ) → at ≤ length d → n ≤ length s → e ≤ n
    → drop (at + e) (paste d at s n) ≡ drop e (take n s) ++ drop (at + n) d
within d s at n e hd hs le =
    let p = take n s in
    let q = drop (at + n) d in
    let size : e ≤ length p = omega (arith, length-take-le n s hs) in
    ap (λ (k : ℕ). drop (k + e) (take at d ++ p ++ q)) (sym (length-take-le at d hd))
    ∙ ap (drop (length (take at d) + e)) (append_assoc (take at d) p q)
    ∙ drop-append-add (take at d) (p ++ q) e
    ∙ drop-append-le e p q size

-- the first j of s, and those of its next k to k + m that are behind them
rest : (s : List ℕ) (k m j : ℕ) → k ≤ j → j ≤ k + m → take j s ++ drop (j - k) (take m (drop k s)) ≡ take (k + m) s
rest s k m j low high =
    let e : k + (j - k) ≡ j = omega arith in
    let b = take m (drop k s) in
    ap (λ (i : ℕ). take i s ++ drop (j - k) b) (sym e)
    ∙ ap (λ (l : List ℕ). l ++ drop (j - k) b)
    (take-add k (j - k) s ∙ ap (λ (l : List ℕ). take k s ++ l) (sym (take-take (j - k) m (drop k s) (omega arith))))
    ∙ append_assoc (take k s) (take (j - k) b) (drop (j - k) b)
    ∙ ap (λ (l : List ℕ). take k s ++ l) (take-append-drop (j - k) b)
    ∙ sym (take-add k m s)

-- bytes that end in a copy of what follows them, or at its start, make it longer to the front
under : (d s : List ℕ) (at k m j : ℕ) → at + k + m ≤ length d → k + m ≤ length s → k ≤ j → j ≤ k + m
    → paste (paste d (at + k) (drop k s) m) at s j ≡ paste d at s (k + m)
under d s at k m j hd hs low high =
    let p = paste d (at + k) (drop k s) m in
    let b = take m (drop k s) in
    let long : m ≤ length (drop k s) = omega (arith, length-drop k s) in
    let e : at + k + (j - k) ≡ at + j = omega arith in
    let behind-j : drop (at + j) p ≡ drop (j - k) b ++ drop (at + k + m) d =
    ap (λ (i : ℕ). drop i p) (sym e) ∙ within d (drop k s) (at + k) m (j - k) (omega arith) long (omega arith) in
    ap (λ (l : List ℕ). l ++ take j s ++ drop (at + j) p)
    (before d (drop k s) (at + k) m at (omega arith) long (omega arith))
    ∙ ap (λ (l : List ℕ). take at d ++ take j s ++ l) behind-j
    ∙ sym (append_assoc (take at d ++ take j s) (drop (j - k) b) (drop (at + k + m) d))
    ∙ ap (λ (l : List ℕ). l ++ drop (at + k + m) d)
    (append_assoc (take at d) (take j s) (drop (j - k) b)
    ∙ ap (λ (l : List ℕ). take at d ++ l) (rest s k m j low high))
    ∙ ap (λ (i : ℕ). take at d ++ take (k + m) s ++ drop i d) (add_assoc at k m)

pub part : (l : List ℕ) (a k : ℕ) → a ≤ length l → drop a (take (a + k) l) ≡ take k (drop a l)
part l a k h = ap (drop a) (take-add a k l) ∙ drop_at (take a l) (take k (drop a l)) a (length-take-le a l h)

-- lists that begin alike have the same bytes in what is alike
alike : (x y : List ℕ) (m a k : ℕ) → take m x ≡ take m y → a ≤ length x → a ≤ length y → a + k ≤ m
    → take k (drop a x) ≡ take k (drop a y)
alike x y m a k e hx hy le = sym (part x a k hx) ∙ ap (drop a) both ∙ part y a k hy
  where
    both : take (a + k) x ≡ take (a + k) y
    both = sym (take-take (a + k) m x le) ∙ ap (take (a + k)) e ∙ take-take (a + k) m y le

module _ (o : List ℕ) (from to n : ℕ) (high : from ≤ to) (fits : to + n ≤ length o) where
  -- those from i on are moved, and a block from j on that ends in them or at them
  up_more : (room : List ℕ) (i j : ℕ) → j ≤ i → i ≤ j + 32 → j + 32 ≤ n → i ≤ n
      → room ≡ paste o (to + i) (drop (from + i) o) (n - i)
      → paste room (to + j) (drop (from + j) o) 32 ≡ paste o (to + j) (drop (from + j) o) (n - j)
  up_more room i j le near within-n i-n is =
      let s = drop (from + j) o in
      let e : to + j + (i - j) ≡ to + i = omega arith in
      let g : from + j + (i - j) ≡ from + i = omega arith in
      let all : i - j + (n - i) ≡ n - j = omega arith in
      let long : i - j + (n - i) ≤ length s = omega (arith, length-drop (from + j) o) in
      let moved : room ≡ paste o (to + j + (i - j)) (drop (i - j) s) (n - i) =
      is
      ∙ ap (λ (k : ℕ). paste o k (drop (from + i) o) (n - i)) (sym e)
      ∙ ap (λ (l : List ℕ). paste o (to + j + (i - j)) l (n - i))
      (sym (drop-drop (i - j) (from + j) o ∙ ap (λ (k : ℕ). drop k o) g)) in
      ap (λ (l : List ℕ). paste l (to + j) s 32) moved
      ∙ under o s (to + j) (i - j) (n - i) 32 (omega arith) long (omega arith) (omega arith)
      ∙ ap (paste o (to + j) s) all

  -- one block more
  pub up_on : (room : List ℕ) (i j : ℕ) → j + 32 ≡ i → i ≤ n → length room ≡ length o
      → room ≡ paste o (to + i) (drop (from + i) o) (n - i)
      → paste room (to + j) (drop (from + j) room) 32 ≡ paste o (to + j) (drop (from + j) o) (n - j)
  up_on room i j e le same is =
      let long : n - i ≤ length (drop (from + i) o) = omega (arith, length-drop (from + i) o) in
      let front-stays : take (to + i) room ≡ take (to + i) o =
      ap (take (to + i)) is
      ∙ before o (drop (from + i) o) (to + i) (n - i) (to + i) (omega arith) long (omega arith) in
      ap (λ (l : List ℕ). take (to + j) room ++ l ++ drop (to + j + 32) room)
      (alike room o (to + i) (from + j) 32 front-stays (omega arith) (omega arith) (omega arith))
      ∙ up_more room i j (omega arith) (omega arith) (omega arith) le is

  -- and the first one, which was read before any was written
  pub up_ends : (room first : List ℕ) (i : ℕ) → 32 ≤ n → i ≤ 32 → room ≡ paste o (to + i) (drop (from + i) o) (n - i)
      → first ≡ paste (replicate 32 0) 0 (drop from o) 32
      → paste room to (drop 0 first) 32 ≡ paste o to (drop from o) n
  up_ends room first i large near is e =
      let z : to + 0 ≡ to = omega arith in
      let w : from + 0 ≡ from = omega arith in
      let all : n - 0 ≡ n = omega arith in
      through_held o room first from to 32 32 (omega arith) e
      ∙ ap (λ (j : ℕ). paste room j (drop from o) 32) (sym z)
      ∙ ap (λ (j : ℕ). paste room (to + 0) (drop j o) 32) (sym w)
      ∙ up_more room i 0 (omega arith) (omega arith) (omega arith) (omega arith) is
      ∙ ap (λ (j : ℕ). paste o j (drop (from + 0) o) (n - 0)) z
      ∙ ap (λ (j : ℕ). paste o to (drop j o) (n - 0)) w
      ∙ ap (paste o to (drop from o)) all
