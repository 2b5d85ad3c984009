-- `wire::digits::bcd` reads as many digits as it is asked for, the first of those that v can have at its place among all n.
use mathlib.Core.Path.{◌≡◌, sym, ap, ◌∙◌}
use Prim.Native.Nat.{ℕ, ◌+◌, ◌-◌, ◌*◌}
use native.Mathlib.Omega.{arith}
use Rattle.wire.specs.Reading.{refused}
use Rattle.wire.specs.Digits.{digit, bcd_after}
use Rattle.wire.proofs.NextDigit.{digit_next, digit_bad, small, fits, first_left}
use Rattle.wire.proofs.digits.bcd.Goals as goal

pub loop-k-init : goal.loop-k-init
loop-k-init c = (omega arith, first_left c.args.n c.min-k.result c.args.v c.ranges.v.fits c.min-k.ensures)

pub returns-then-d-gt9 : goal.returns-then-d-gt9
returns-then-d-gt9 c =
    let l = c.loop-k in
    ap refused (omega arith) ∙ sym (digit_bad l.k _ c.loop-k-test.true _ l.a c.if-d-gt9.true) ∙ l.invariant.1

pub overflow_mul-a : goal.overflow_mul-a
overflow_mul-a c = omega (arith, fits c.loop-k.k c.args.v c.loop-k-test.true c.loop-k.a c.loop-k.invariant.0)

pub overflow_add-a : goal.overflow_add-a
overflow_add-a c = omega (arith, fits c.loop-k.k c.args.v c.loop-k-test.true c.loop-k.a c.loop-k.invariant.0)

pub loop-k-preserved : goal.loop-k-preserved
loop-k-preserved c =
    let v : ℕ = c.args.v in
    let l = c.loop-k in
    let h = c.loop-k-test.true in
    let i : ℕ = c.args.n - l.k in
    let e : c.args.n - (l.k - 1) ≡ i + 1 = omega (arith, l.auto.k, c.min-k.ensures) in (
      small l.k v h l.a l.invariant.0,
      ap (λ (j : ℕ). bcd_after j (l.a * 10 + digit (l.k - 1) v) (l.k - 1) v) e
          ∙ sym (digit_next l.k v h i l.a c.if-d-gt9.false)
          ∙ l.invariant.1,
    )

pub returns : goal.returns
unfolding bcd_after
returns c =
    let l = c.loop-k in
    let none : l.k ≡ 0 = omega arith in
    sym (ap (λ (m : ℕ). bcd_after (c.args.n - l.k) l.a m c.args.v) none) ∙ l.invariant.1
