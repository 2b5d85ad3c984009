-- The bits of a number that bytes make, by their place among the bytes.
use mathlib.Core.Path.{◌≡◌, refl, sym, ap, ap₂, ◌∙◌, subst}
use mathlib.Core.List.{List, [], ◌∷◌, ◌++◌, append_assoc}
use Prim.Native.Nat.{ℕ, zero, suc, ◌+◌, ◌-◌, ◌*◌, ◌/◌, ◌%◌, ◌^◌, ◌<◌, ◌≤◌}
use native.Mathlib.Nat.{mul-le-mul_right, suc-mul, mul_assoc, add-mul, add_assoc}
use native.Mathlib.Numerals.{add-one}
use native.Mathlib.Omega.{arith}
use lib.ListN.{length, get_or, take, drop, take-append-drop, length-drop}
use lib.Seq.{drop-cons, get_or-drop}
use lib.Pow.{pow-add, high, low, shr-shr, field, mod-mod-pow}
use Rattle.wire.specs.Bytes.{Bytes}
use Rattle.wire.specs.Number.{number_after, number, bytes_at, number_at}
use Rattle.wire.proofs.PartLaws.{part_front}

-- ---- bytes one behind the other

byte_up : (a b p r : ℕ) → (a * 256 + b) * p + r ≡ a * (256 * p) + (b * p + r)
byte_up a b p r = rw (add-mul, mul_assoc, add_assoc)

-- one byte more is eight bits more
byte_more : (n : ℕ) → 2 ^ (8 * suc n) ≡ 256 * 2 ^ (8 * n)
byte_more n = let e : 8 * suc n ≡ 8 + 8 * n = omega arith in ap (λ k. 2 ^ k) e ∙ pow-add 2 8 (8 * n)

after_is : (a : ℕ) (l : List ℕ) → number_after a l ≡ a * 2 ^ (8 * length l) + number l
after_is a [] = omega arith
after_is a (b ∷ l) =
    after_is (a * 256 + b) l ∙ byte_up a b (2 ^ (8 * length l)) (number l)
    ∙ ap₂ (λ p r. a * p + r) (sym (byte_more (length l))) (sym (after_is b l))

after_zero : (l : List ℕ) → number l ≡ number_after 0 l
after_zero [] = refl
after_zero (b ∷ l) = ap (λ a. number_after a l) (omega arith)

after_join : (a : ℕ) (l m : List ℕ) → number_after a (l ++ m) ≡ number_after (number_after a l) m
after_join a [] m = refl
after_join a (b ∷ l) m = after_join (a * 256 + b) l m

-- the number that two lists of bytes make, one behind the other
pub number_join : (l m : List ℕ) → number (l ++ m) ≡ number l * 2 ^ (8 * length m) + number m
number_join l m =
    after_zero (l ++ m) ∙ after_join 0 l m ∙ ap (λ a. number_after a m) (sym (after_zero l)) ∙ after_is (number l) m

pub number_below : (l : List ℕ) → Bytes l → number l < 2 ^ (8 * length l)
number_below [] h = omega arith
number_below (b ∷ l) h =
    let p : ℕ = 2 ^ (8 * length l) in
    let r = number_below l (λ i. h (suc i)) in
    let m : suc b * p ≤ 256 * p = mul-le-mul_right p (h 0) in
    let e : suc b * p ≡ b * p + p = suc-mul b p in
    let g : b * p + number l < 256 * p = omega arith in
    subst (λ x. x < 2 ^ (8 * suc (length l))) (sym (after_is b l))
    (subst (λ y. b * p + number l < y) (sym (byte_more (length l))) g)

-- ---- bytes at a place

pub bytes_taken : (n : ℕ) (s : List ℕ) (i : ℕ) → i + n ≤ length s → bytes_at n s i ≡ take n (drop i s)
bytes_taken zero s i h = refl
bytes_taken (suc n) s i h =
    ap (λ l. get_or s i 0 ∷ l) (bytes_taken n s (i + 1) (omega arith) ∙ ap (λ k. take n (drop k s)) (add-one i))
    ∙ ap (take (suc n)) (sym (drop-cons s i 0 (omega arith)))

pub bytes_bytes : (n : ℕ) (s : List ℕ) (i : ℕ) → Bytes s → Bytes (bytes_at n s i)
bytes_bytes zero s i h j = omega arith
bytes_bytes (suc n) s i h zero = h i
bytes_bytes (suc n) s i h (suc j) = bytes_bytes n s (i + 1) h j

pub bytes_length : (n : ℕ) (s : List ℕ) (i : ℕ) → length (bytes_at n s i) ≡ n
bytes_length zero s i = refl
bytes_length (suc n) s i = ap suc (bytes_length n s (i + 1))

pub number_at_below : (n : ℕ) (s : List ℕ) (i : ℕ) → Bytes s → number_at n s i < 2 ^ (8 * n)
unfolding number_at
number_at_below n s i h =
    subst (λ k. number (bytes_at n s i) < 2 ^ (8 * k)) (bytes_length n s i)
    (number_below (bytes_at n s i) (bytes_bytes n s i h))

module _ (s : List ℕ) (bytes : Bytes s) (n i k : ℕ) (inside : length s ≡ i + n + k) where
  -- the n bytes at place i, with k bytes behind them
  pub bytes_in_number : number s / 2 ^ (8 * k) % 2 ^ (8 * n) ≡ number_at n s i
  unfolding number_at
  bytes_in_number =
      let u : List ℕ = take i s in
      let m : List ℕ = bytes_at n s i in
      let v : List ℕ = drop (i + n) s in
      let cut : s ≡ u ++ (m ++ v) =
      sym (take-append-drop i s)
      ∙ ap (λ l. u ++ l) (part_front s i n ∙ ap (λ l. l ++ v) (sym (bytes_taken n s i (omega arith)))) in
      let lv : length v ≡ k = length-drop (i + n) s ∙ omega arith in
      let bv : number v < 2 ^ (8 * k) =
      subst (λ j. number v < 2 ^ (8 * j)) lv (number_below v (λ j. rw get_or-drop (bytes (i + n + j)))) in
      let bm : number m < 2 ^ (8 * n) = number_at_below n s i bytes in
      let w : number s ≡ number (u ++ m) * 2 ^ (8 * k) + number v =
      ap number (cut ∙ sym (append_assoc u m v))
      ∙ number_join (u ++ m) v
      ∙ ap (λ j. number (u ++ m) * 2 ^ (8 * j) + number v) lv in
      let x : number (u ++ m) ≡ number u * 2 ^ (8 * n) + number m =
      number_join u m ∙ ap (λ j. number u * 2 ^ (8 * j) + number m) (bytes_length n s i) in
      ap (λ y. y / 2 ^ (8 * k) % 2 ^ (8 * n)) w
      ∙ ap (λ y. y % 2 ^ (8 * n)) (high (number (u ++ m)) (8 * k) bv ∙ x)
      ∙ low (number u) (8 * n) bm

  -- w bits of them, with r bits of them behind
  pub bits_in_number : (r w : ℕ) → r + w ≤ 8 * n → number s / 2 ^ (8 * k + r) % 2 ^ w ≡ number_at n s i / 2 ^ r % 2 ^ w
  bits_in_number r w h =
      let x : ℕ = number s / 2 ^ (8 * k) in
      let e : 8 * n ≡ 8 * n - r - w + w + r = omega arith in
      ap (λ y. y % 2 ^ w) (sym (shr-shr (number s) (8 * k) r))
      ∙ sym (mod-mod-pow (x / 2 ^ r) (8 * n - r - w) w)
      ∙ ap (λ y. y % 2 ^ w) (sym (field x (8 * n - r - w + w) r))
      ∙ ap (λ y. x % 2 ^ y / 2 ^ r % 2 ^ w) (sym e)
      ∙ ap (λ y. y / 2 ^ r % 2 ^ w) bytes_in_number
