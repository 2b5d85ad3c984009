-- Laws of bytes put into a room, and of sums of places.
use Prim.Native.Nat.{ℕ, suc, ◌+◌, ◌-◌, ◌≤◌, ◌<◌, ◌^◌}
use mathlib.Core.Path.{◌≡◌, sym, ap, ap₂, ◌∙◌}
use mathlib.Core.List.{List, [], ◌∷◌, ◌++◌, append_assoc}
use native.Mathlib.Omega.{arith}
use borrow.Author.Tests.{le-leb, lt-leb}
use lib.ListN.{length, take, drop, set, length-append, length-drop, take-append-drop}
use lib.Seq.{take_at, drop_at, drop-drop, length-take-le, set_split}
use Rattle.copy.specs.Copy.{copied}
use Rattle.copy.proofs.Copies.{copied_yes}
use Rattle.forms.specs.Room.{put, sum}

-- ---- places

pub sum_fits : (n k : ℕ) → n + k < 2 ^ 64 → sum n k ≡ n + k
unfolding sum
sum_fits n k h = rw (le-leb (n + k) (2 ^ 64 - 1) (omega arith))

pub sum_past : (n k : ℕ) → 2 ^ 64 - 1 < n + k → sum n k ≡ 2 ^ 64 - 1
unfolding sum
sum_past n k h = rw (lt-leb (n + k) (2 ^ 64 - 1) h)

-- ---- a room

pub put_out : (o : List ℕ) (to : ℕ) (l : List ℕ) → length o < to + length l → put o to l ≡ o
unfolding put
put_out o to l h = rw (lt-leb (to + length l) (length o) h)

pub put_fits : (o : List ℕ) (to : ℕ) (l : List ℕ) → to + length l ≤ length o → put o to l ≡ take to o ++ (l ++ drop (to + length l) o)
unfolding put
put_fits o to l h = rw (le-leb (to + length l) (length o) h)

pub put_one : (o : List ℕ) (to b : ℕ) → to < length o → set o to b ≡ put o to (b ∷ [])
put_one o to b h =
    let i : suc to ≡ to + 1 = omega arith in
    set_split o to b h ∙ ap (λ k. take to o ++ (b ∷ drop k o)) i ∙ sym (put_fits o to (b ∷ []) (omega arith))

pub put_none : (o : List ℕ) (to : ℕ) → to ≤ length o → put o to [] ≡ o
put_none o to h =
    let i : to + 0 ≡ to =
    omega arith in put_fits o to [] (omega arith) ∙ ap (λ k. take to o ++ drop k o) i ∙ take-append-drop to o

-- a copy that is made
pub copied_put : (s : List ℕ) (at n : ℕ) (o : List ℕ) (to : ℕ) → at + n ≤ length s → to + n ≤ length o
    → copied s at n o to ≡ put o to (take n (drop at s))
copied_put s at n o to h g =
    let e : length (take n (drop at s)) ≡ n = length-take-le n (drop at s) (omega (arith, length-drop at s)) in
    copied_yes s at n o to h g
    ∙ append_assoc (take to o) (take n (drop at s)) (drop (to + n) o)
    ∙ ap (λ k. take to o ++ (take n (drop at s) ++ drop (to + k) o)) (sym e)
    ∙ sym (put_fits o to (take n (drop at s)) (omega arith))

module _ (o : List ℕ) (to : ℕ) (l : List ℕ) (fits : to + length l ≤ length o) where
  abbrev front : List ℕ
  front = take to o ++ l

  front_length : length front ≡ to + length l
  front_length = length-append (take to o) l ∙ ap (λ n. n + length l) (length-take-le to o (omega arith))

  put_front : put o to l ≡ front ++ drop (to + length l) o
  put_front = put_fits o to l fits ∙ sym (append_assoc (take to o) l (drop (to + length l) o))

  pub length_put : length (put o to l) ≡ length o
  length_put =
      let a = length-append front (drop (to + length l) o) in
      let d = length-drop (to + length l) o in
      ap length put_front ∙ omega (arith, front_length)

  -- what is put next to it is put with it
  pub put_put : (m : List ℕ) → to + length l + length m ≤ length o → put (put o to l) (to + length l) m ≡ put o to (l ++ m)
  put_put m h =
      let n : ℕ = to + length l in
      let i : n + length m ≡ to + length (l ++ m) = omega (arith, length-append l m) in
      let t : take n (put o to l) ≡ front = ap (take n) put_front ∙ take_at front (drop n o) n front_length in
      let r : drop (n + length m) (put o to l) ≡ drop (to + length (l ++ m)) o =
      ap (drop (n + length m)) put_front
      ∙ sym (drop-drop (length m) n (front ++ drop n o))
      ∙ ap (drop (length m)) (drop_at front (drop n o) n front_length)
      ∙ drop-drop (length m) n o
      ∙ ap (λ k. drop k o) i in
      put_fits (put o to l) n m (omega (arith, length_put))
      ∙ ap₂ (λ x y. x ++ (m ++ y)) t r
      ∙ append_assoc (take to o) l (m ++ drop (to + length (l ++ m)) o)
      ∙ ap (λ x. take to o ++ x) (sym (append_assoc l m (drop (to + length (l ++ m)) o)))
      ∙ sym (put_fits o to (l ++ m) (omega (arith, i)))
