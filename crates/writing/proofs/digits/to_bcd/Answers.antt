-- `writing::digits::to_bcd` meets its contract.
use mathlib.Core.Path.{◌≡◌, sym, ap, ◌∙◌, subst}
use Prim.Native.Nat.{ℕ, ◌+◌, ◌-◌, ◌*◌, ◌/◌, ◌<◌, ◌≤◌, ◌^◌}
use native.Mathlib.Nat.{div-div-eq-div-mul, add-sub_cancel}
use native.Mathlib.Omega.{arith}
use Rattle.wire.specs.Digits.{bcd_show}
use Rattle.wire.proofs.Shown.{show_below}
use Rattle.writing.proofs.Tens.{show_tens}
use Rattle.writing.proofs.digits.to_bcd.Goals as goal

-- each place's tens by their own divisor
tens-seven : (t u v w x y z : ℕ) → t + 16 * u + 256 * v + 4096 * w + 65536 * x + 1048576 * y + 16777216 * z
    ≡ t + 16 * (u + 16 * (v + 16 * (w + 16 * (x + 16 * (y + 16 * (z + 16 * 0))))))
tens-seven t u v w x y z = omega arith

module _ (a : ℕ) where
  -- as the source sums it
  abbrev sum : ℕ
  sum =
      a + 6 * (a / 10 + 16 * (a / 100) + 256 * (a / 1000) + 4096 * (a / 10000) + 65536 * (a / 100000)
      + 1048576 * (a / 1000000) + 16777216 * (a / 10000000))

  -- what stands above the eighth digit
  abbrev above : ℕ
  above = 0xA000_0000 * (a / 100000000)

  sum_is : sum ≡ bcd_show 8 a + above
  sum_is =
      ap (λ y. a + 6 * y)
      (tens-seven (a / 10) (a / 100) (a / 1000) (a / 10000) (a / 100000) (a / 1000000) (a / 10000000)
      ∙ simp div-div-eq-div-mul)
      ∙ show_tens 7 a

  shown : sum - above ≡ bcd_show 8 a
  shown = ap (λ y. y - above) sum_is ∙ add-sub_cancel (bcd_show 8 a) above

pub overflow_add-result : goal.overflow_add-result
overflow_add-result c =
    let a = c.args.a in
    record { fits = subst (λ y. y < 2 ^ 64) (sym (sum_is a)) (omega (arith, show_below 8 a)) }

pub overflow_sub-result : goal.overflow_sub-result
overflow_sub-result c = let a = c.args.a in subst (λ y. above a ≤ y) (sym (sum_is a)) (omega arith)

pub overflow_cast-result : goal.overflow_cast-result
overflow_cast-result c = let a = c.args.a in record { fits = subst (λ y. y < 2 ^ 32) (sym (shown a)) (show_below 8 a) }

pub returns : goal.returns
returns c = shown c.args.a
