-- Two functions that take sums to sums, and that agree at each power of two below 2 ^ n, agree at every number below it.
-- So a claim about all words of n bits is a test that antt computes at n of them.
use mathlib.Core.Path.{◌≡◌, sym, ap, ap₂, ◌∙◌, subst}
use mathlib.Core.Bool.{Bool, true, false}
use Prim.Native.Nat.{ℕ, zero, suc, ◌*◌, ◌/◌, ◌%◌, ◌^◌, ◌<◌, ◌≤◌}
use mathlib.Core.Logic.{⊎_elim}
use native.Mathlib.Nat.{mod-lt, zero-mul, one-mul, lt_of_lt_of_le, le_of_suc-le-suc, not-suc-le-zero, eq-or-lt_of_le}
use native.Mathlib.Numerals.{one-add}
use native.Mathlib.Omega.{arith}
use lib.Arith.{lt-one}
use lib.Dec.{T, eqb, eqb→eq}
use lib.Pow.{pow_pos, pow_mono, shl_lt, shr_lt, split}
use lib.Bits.{bit_xor, xor_shifted, xor_self}
use Rattle.moves.proofs.Xor.{◌⊕◌}

-- f takes sums of numbers below 2 ^ n to sums
pub record Additive (n : ℕ) (f : ℕ → ℕ) : Type 0 where
  pub sums : (a b : ℕ) → a < 2 ^ n → b < 2 ^ n → f (a ⊕ b) ≡ f a ⊕ f b

at_zero : {n : ℕ} {f : ℕ → ℕ} → Additive n f → f 0 ≡ 0
at_zero {n} {f} h = h.sums 0 0 (pow_pos n) (pow_pos n) ∙ xor_self (f 0)

fewer : {n : ℕ} {f : ℕ → ℕ} → Additive (suc n) f → Additive n f
fewer {n} h =
    let up : 2 ^ n ≤ 2 ^ suc n = pow_mono (omega arith) in
    record { sums = λ a b ha hb. h.sums a b (lt_of_lt_of_le ha up) (lt_of_lt_of_le hb up) }

-- a digit at place n
digit : (n t : ℕ) (f g : ℕ → ℕ) → t < 2 → f 0 ≡ g 0 → f (2 ^ n) ≡ g (2 ^ n) → f (t * 2 ^ n) ≡ g (t * 2 ^ n)
digit n zero f g h e0 e1 = rw zero-mul e0
digit n (suc zero) f g h e0 e1 = rw one-mul e1
digit n (suc (suc t)) f g h e0 e1 = absurd (omega arith)

highest : (n x : ℕ) → x < 2 ^ suc n → x / 2 ^ n < 2
highest n x h = shr_lt 1 n (subst (λ (k : ℕ). x < 2 ^ k) (sym (one-add n)) h)

-- the highest of n + 1 digits apart from the others
apart : {n : ℕ} {f : ℕ → ℕ} → Additive (suc n) f → (x : ℕ) → x < 2 ^ suc n → f x ≡ f (x / 2 ^ n * 2 ^ n) ⊕ f (x % 2 ^ n)
apart {n} {f} h x hx =
    let low : x % 2 ^ n < 2 ^ n = mod-lt x (pow_pos n) in
    ap f (sym (split x n) ∙ sym (xor_shifted (x / 2 ^ n) n (x % 2 ^ n) low))
    ∙ h.sums (x / 2 ^ n * 2 ^ n) (x % 2 ^ n) (subst (λ (k : ℕ). x / 2 ^ n * 2 ^ n < 2 ^ k) (one-add n) (shl_lt 1 n (highest n x hx)))
    (lt_of_lt_of_le low (pow_mono (omega arith)))

pub agree_at : (n : ℕ) {f g : ℕ → ℕ} → Additive n f → Additive n g → ((i : ℕ) → i < n → f (2 ^ i) ≡ g (2 ^ i)) → (x : ℕ)
    → x < 2 ^ n → f x ≡ g x
agree_at zero hf hg same x hx = rw (lt-one hx) (at_zero hf ∙ sym (at_zero hg))
agree_at (suc n) {f} {g} hf hg same x hx =
    apart hf x hx
    ∙ ap₂ bit_xor
    (digit n (x / 2 ^ n) f g (highest n x hx) (at_zero hf ∙ sym (at_zero hg)) (same n (omega arith)))
    (agree_at n (fewer hf) (fewer hg) (λ i h. same i (omega arith)) (x % 2 ^ n) (mod-lt x (pow_pos n)))
    ∙ sym (apart hg x hx)

abbrev both : Bool → Bool → Bool
both true b = b
both false b = false

both_left : (a b : Bool) → T (both a b) → T a
both_left true b t = tt
both_left false b t = t

both_right : (a b : Bool) → T (both a b) → T b
both_right true b t = t
both_right false b t = absurd t

-- p at 0, .., n - 1
abbrev pub tested : (ℕ → Bool) → ℕ → Bool
tested p zero = true
tested p (suc n) = both (p n) (tested p n)

pub passed : (p : ℕ → Bool) (n : ℕ) → T (tested p n) → (i : ℕ) → i < n → T (p i)
passed p zero t i h = absurd (not-suc-le-zero h)
passed p (suc n) t i h =
    ⊎_elim (λ e. subst (λ (k : ℕ). T (p k)) (sym e) (both_left (p n) (tested p n) t))
    (λ l. passed p n (both_right (p n) (tested p n) t) i l)
    (eq-or-lt_of_le (le_of_suc-le-suc h))

pub agree : (n : ℕ) {f g : ℕ → ℕ} → Additive n f → Additive n g → T (tested (λ i. eqb (f (2 ^ i)) (g (2 ^ i))) n)
    → (x : ℕ) → x < 2 ^ n → f x ≡ g x
agree n {f} {g} hf hg test = agree_at n hf hg
    (λ i h. eqb→eq (f (2 ^ i)) (g (2 ^ i)) (passed (λ i. eqb (f (2 ^ i)) (g (2 ^ i))) n test i h))
