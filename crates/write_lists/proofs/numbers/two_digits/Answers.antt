-- `write_lists::numbers::two_digits` meets its contract: of the eight digits of a number below 100 the two low ones.
use mathlib.Core.Path.{◌≡◌, refl, ap, ◌∙◌, subst}
use Prim.Native.Nat.{ℕ, ◌<◌}
use native.Mathlib.Omega.{arith}
use Rattle.std.specs.Prelude.{Option, Some, None}
use Rattle.wire.specs.Digits.{bcd_show}
use Rattle.wire.proofs.Shown.{show_below}
use Rattle.writing.proofs.Tens.{show_short}
use Rattle.write_lists.specs.Inner.Numbers.{bits_or, told_bits, digits, Within}
use Rattle.write_lists.proofs.numbers.two_digits.Goals as goal

none : {number r : Option ℕ} → number ≡ None → r ≡ None → Within 256 (digits (told_bits number)) r
unfolding digits
none e f = rw (e, f) (record { told = refl; small = omega arith })

shown : {number : Option ℕ} {n r : ℕ} → number ≡ Some n → bits_or number < 100 → r ≡ bcd_show 8 n
    → Within 256 (digits (told_bits number)) (Some r)
unfolding digits
shown {n = n} e required eight =
    let small : n < 100 = subst (λ b. bits_or b < 100) e required in
    let two = eight ∙ show_short 8 2 n (omega arith) small in
    rw e (record { told = ap (λ m. told_bits (Some m)) two; small = omega (arith, show_below 2 n) })

pub returns-in_err-number : goal.returns-in_err-number
returns-in_err-number c = none c.in_err-number.was c.from_residual.ensures

pub returns : goal.returns
returns c = shown c.in_ok-number.was c.requires c.to_bcd.ensures
