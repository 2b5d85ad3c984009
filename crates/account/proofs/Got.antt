-- What a read's answer means.
use Rattle.std.proofs.Common.{◌≡◌, ℕ, zero, suc, min, Bool, true, false, eqb, ℤ, pos, negsuc, sym, refl, ap, ◌∙◌, subst, arith, to_z-of_z, w32, w64, SFits, to_z, of_z, lt-ltb, eq-eqb, ne_eqb}
use lib.Signed.{lt_z}
use Rattle.std.specs.Prelude.{if◌then◌else◌}
use Rattle.wire.proofs.IfLaws.{true_not_false}
use Rattle.account.specs.Heard.{got_as, failed_as, GotIn}
use Rattle.account.specs.declared.reading.Got.{Got}
use Rattle.account.specs.declared.reading.Got.TheVariants.{Bytes, Again, End, Failed}

-- of what `read` answered, how many bytes came
abbrev pub clamp_len : ℤ → ℕ → ℕ
clamp_len (pos n) size = min n size
clamp_len (negsuc n) size = 0

failed_in : (size : ℕ) (error : ℤ) → GotIn size (failed_as error)
failed_in size (pos n) = by (eqb n 4)
  where
    by : (t : Bool) → GotIn size (if t then Again else Failed)
    by true = omega arith
    by false = omega arith
failed_in size (negsuc n) = omega arith

-- no more bytes than there is room for
got_in : (answer error : ℤ) (size : ℕ) → GotIn size (got_as answer error size)
got_in (pos zero) error size = omega arith
got_in (pos (suc n)) error size = omega arith
got_in (negsuc n) error size = failed_in size error

pub got_in_by : (answer error : ℤ) {n : ℕ} {g : Got} (size : ℕ) → g ≡ got_as answer error n → n ≡ size → GotIn size g
got_in_by answer error {n} {g} size e k =
    subst (λ (m : ℕ). GotIn m g) k (subst (GotIn n) (sym e) (got_in answer error n))

-- ---- the tests by which the code tells them apart

-- a number as the machine has it
abbrev pub here : ℤ → ℤ
here z = to_z w64 (of_z w64 z)

module _ (answer error : ℤ) (size : ℕ) (f : SFits w64 answer) where
  is : here answer ≡ answer
  is = to_z-of_z f

  -- some bytes came
  bytes_if : (z : ℤ) (n : ℕ) → lt_z (pos 0) z ≡ true → n ≡ clamp_len z size → Bytes n ≡ got_as z error size
  bytes_if (pos zero) n k e = absurd (true_not_false (sym k))
  bytes_if (pos (suc m)) n k e = ap Bytes e
  bytes_if (negsuc m) n k e = absurd (true_not_false (sym k))

  pub got_bytes : (n : ℕ) → lt_z (pos 0) (here answer) ≡ true → n ≡ clamp_len (here answer) size
      → Bytes n ≡ got_as answer error size
  got_bytes n k e = bytes_if (here answer) n k e ∙ ap (λ (z : ℤ). got_as z error size) is

  end_if : (z : ℤ) → SFits w64 z → of_z w64 z ≡ 0 → End ≡ got_as z error size
  end_if (pos zero) x e = refl
  end_if (pos (suc m)) x e = absurd (omega arith)
  end_if (negsuc m) x e = absurd (omega (arith, x.sfits))

  pub got-end : of_z w64 answer ≡ 0 → End ≡ got_as answer error size
  got-end e = end_if answer f e

  failed_if : (z : ℤ) → lt_z (pos 0) z ≡ false → (of_z w64 z ≡ 0 → ⊥) → failed_as error ≡ got_as z error size
  failed_if (pos zero) k e = absurd (e refl)
  failed_if (pos (suc m)) k e = absurd (true_not_false (sym (lt-ltb 0 (suc m) (omega arith)) ∙ k))
  failed_if (negsuc m) k e = refl

  pub got_failed : lt_z (pos 0) (here answer) ≡ false → (of_z w64 answer ≡ 0 → ⊥)
      → failed_as error ≡ got_as answer error size
  got_failed k e = failed_if answer (subst (λ (z : ℤ). lt_z (pos 0) z ≡ false) is k) e

pub got_again : (error : ℤ) → SFits w32 error → of_z w32 error ≡ 4 → Again ≡ failed_as error
got_again (pos n) f e = ap (λ (t : Bool). if t then Again else Failed) (sym (eq-eqb n 4 e))
got_again (negsuc n) f e = absurd (omega (arith, f.sfits))

pub got_none : (error : ℤ) → (of_z w32 error ≡ 4 → ⊥) → Failed ≡ failed_as error
got_none (pos n) e = ap (λ (t : Bool). if t then Again else Failed) (sym (ne_eqb n 4 e))
got_none (negsuc n) e = refl
