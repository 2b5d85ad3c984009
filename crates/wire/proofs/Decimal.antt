-- What a number in BCD is, for any number of digits: the sum of its digits at their powers of ten, read exactly if none of them is above 9;
-- if one is, the first of them is told.
use mathlib.Core.Path.{◌≡◌, refl, sym, ap, ◌∙◌, subst}
use mathlib.Core.Logic.{⊎_elim, ◌↔◌}
use Prim.Native.Nat.{ℕ, zero, suc, ◌+◌, ◌-◌, ◌*◌, ◌^◌, ◌<◌, ◌≤◌}
use native.Mathlib.Nat.{mul-le-mul_right, one-mul, zero-mul, zero-add, lt_of_lt_of_le, mul_assoc, add-mul, add_assoc, pow-succ', eq-or-lt_of_le, le_of_suc-le-suc}
use native.Mathlib.Omega.{arith}
use borrow.Author.Tests.{ltb-true, ltb-false, le-ltb}
use lib.Dec.{ltb}
use Rattle.wire.specs.Reading.{value, refused}
use Rattle.wire.specs.Digits.{digit, bcd_after, bcd_of, digit_from, NoneBad, FirstBad, decimal}
use Rattle.wire.proofs.IfLaws.{if-case}
use Rattle.wire.proofs.ReadingLaws.{refused_is, never}

-- ten times a number and a digit, over k digits more
tenfold : (a d p r : ℕ) → (a * 10 + d) * p + r ≡ a * (10 * p) + (d * p + r)
tenfold a d p r = rw (add-mul, mul_assoc, add_assoc)

after_decimal : (k i a v : ℕ) → ((j : ℕ) → j < k → digit j v ≤ 9) → bcd_after i a k v ≡ value (a * 10 ^ k + decimal k v)
unfolding bcd_after
after_decimal zero i a v h = ap value (omega arith)
after_decimal (suc k) i a v h =
    rw (le-ltb 9 (digit k v) (h k (omega arith)))
    (after_decimal k (i + 1) (a * 10 + digit k v) v (λ j l. h j (omega arith))
    ∙ ap value (tenfold a (digit k v) (10 ^ k) (decimal k v) ∙ rw pow-succ'))

pub bcd_decimal : (n v : ℕ) → ((j : ℕ) → j < n → digit j v ≤ 9) → bcd_of v n ≡ value (decimal n v)
unfolding bcd_of
bcd_decimal n v h = after_decimal n 0 0 v h ∙ ap value (rw (zero-mul, zero-add))

-- one digit further on
next_from : (k v j : ℕ) → digit_from (suc k) v (suc j) ≡ digit_from k v j
next_from k v j = let e : suc k - 1 - suc j ≡ k - 1 - j = omega arith in ap (λ m. digit m v) e

module _ (k v : ℕ) where
  bad_here : 9 < digit k v → FirstBad (digit_from (suc k) v) (suc k) 0
  bad_here h =
      let e : suc k - 1 - 0 ≡ k = omega arith in
      record {
        inside = omega arith;
        bad = subst (λ m. 9 < digit m v) (sym e) h;
        before = λ i l. absurd (omega arith);
      }

  bad_further : digit k v ≤ 9 → (j : ℕ) → FirstBad (digit_from k v) k j → FirstBad (digit_from (suc k) v) (suc k) (suc j)
  bad_further h j f = record {
    inside = omega (arith, f.inside);
    bad = subst (λ d. 9 < d) (sym (next_from k v j)) f.bad;
    before = before;
  }
    where
      before : NoneBad (digit_from (suc k) v) (suc j)
      before zero l = let e : suc k - 1 - 0 ≡ k = omega arith in subst (λ m. digit m v ≤ 9) (sym e) h
      before (suc i) l = subst (λ d. d ≤ 9) (sym (next_from k v i)) (f.before i (omega arith))

-- what is refused tells the first digit above 9, i digits further on
after_first : (k i a v p : ℕ) → bcd_after i a k v ≡ refused p → (j : ℕ) × (p ≡ i + j) × FirstBad (digit_from k v) k j
unfolding bcd_after
after_first zero i a v p = λ e. absurd (never e)
after_first (suc k) i a v p =
    if-case (λ r. r ≡ refused p → (j : ℕ) × (p ≡ i + j) × FirstBad (digit_from (suc k) v) (suc k) j) (ltb 9 (digit k v))
    (λ h e. let q : i ≡ p = refused_is e in (0, omega arith, bad_here k v (ltb-true 9 (digit k v) h)))
    (λ h e.
    let (j, q, f) = after_first k (i + 1) (a * 10 + digit k v) v p e in
    (suc j, omega (arith, q), bad_further k v (ltb-false 9 (digit k v) h) j f))

-- a digit above 9 is refused, in whichever place
after_bad : (k i a v j : ℕ) → j < k → 9 < digit j v → (p : ℕ) × (bcd_after i a k v ≡ refused p)
unfolding bcd_after
after_bad zero i a v j h b = absurd (omega arith)
after_bad (suc k) i a v j h b =
    if-case (λ r. (p : ℕ) × (r ≡ refused p)) (ltb 9 (digit k v)) (λ _. (i, refl))
    (λ g. ⊎_elim (λ (e : j ≡ k). absurd (omega (arith, ltb-false 9 (digit k v) g, ap (λ m. digit m v) e)))
    (λ (l : j < k). after_bad k (i + 1) (a * 10 + digit k v) v j l b) (eq-or-lt_of_le (le_of_suc-le-suc h)))

-- "63 BCD digit above 9"
pub bcd_bad : (n v j : ℕ) → j < n → 9 < digit j v → (p : ℕ) × (bcd_of v n ≡ refused p)
unfolding bcd_of
bcd_bad n v j h b = after_bad n 0 0 v j h b

-- none stands in front of the first digit above 9, so that there is one
not_earlier : (digits : ℕ → ℕ) (n i j : ℕ) → FirstBad digits n i → FirstBad digits n j → i < j → ⊥
not_earlier digits n i j f g l = omega (arith, f.bad, g.before i l)

pub first_bad_once : (digits : ℕ → ℕ) (n i j : ℕ) → FirstBad digits n i → FirstBad digits n j → i ≡ j
first_bad_once digits n i j f g = omega (arith, not_earlier digits n i j f g, not_earlier digits n j i g f)

-- "the place of the first bad digit, counted in half bytes from the field's start", for any number of digits
pub bcd_first : (n v j : ℕ) → bcd_of v n ≡ refused j ↔ FirstBad (digit_from n v) n j
unfolding bcd_of
bcd_first n v j = (
  λ e.
      let (i, q, f) = after_first n 0 0 v j e in
      let s : i ≡ j = omega (arith, q) in
      subst (FirstBad (digit_from n v) n) s f,
  λ f.
      let (p, e) = after_bad n 0 0 v (n - 1 - j) (omega (arith, f.inside)) f.bad in
      let (i, q, g) = after_first n 0 0 v p e in
      let s : p ≡ j = omega (arith, q, first_bad_once (digit_from n v) n i j g f) in
      e ∙ ap refused s,
)

-- and a number is read exactly if there is none
pub bcd_none : (n v x : ℕ) → bcd_of v n ≡ value x → NoneBad (digit_from n v) n
bcd_none n v x e j l =
    let no : 9 < digit_from n v j → ⊥ = λ h.
    never (sym e ∙ (bcd_bad n v (n - 1 - j) (omega arith) h).1) in
    omega (arith, no)

-- what k more digits can make of a
after_below : (k i a v x : ℕ) → bcd_after i a k v ≡ value x → x < (a + 1) * 10 ^ k
unfolding bcd_after
after_below zero i a v x = λ e. let s : a ≡ x = cc in omega arith
after_below (suc k) i a v x =
    if-case (λ r. r ≡ value x → x < (a + 1) * 10 ^ suc k) (ltb 9 (digit k v))
    (λ _ e. let z : ◌≡◌ {A = ℕ} 0 1 = cc in absurd (omega arith))
    (λ h e.
    let l : digit k v ≤ 9 = ltb-false 9 (digit k v) h in
    let m : a * 10 + digit k v + 1 ≤ (a + 1) * 10 = omega arith in
    let i = after_below k (i + 1) (a * 10 + digit k v) v x e in
    rw (pow-succ', ← mul_assoc) (lt_of_lt_of_le i (mul-le-mul_right (10 ^ k) m)))

-- n digits make a number below 10 ^ n
pub bcd_below : (n v x : ℕ) → bcd_of v n ≡ value x → x < 10 ^ n
unfolding bcd_of
bcd_below n v x e = rw one-mul at (after_below n 0 0 v x e)
