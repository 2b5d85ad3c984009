-- `wire::digits::bcd` reads as many digits as it is asked for. The loop's invariant: the k low digits of v after a, the first of them at
-- place n - k, are what all n are, and a is at most v without its k low digits.
use mathlib.Core.Path.{◌≡◌}
use Prim.Native.Nat.{◌-◌, ◌≤◌, ◌*◌, ◌/◌, ◌^◌}
use Rattle.wire.specs.Digits.{bcd_after, bcd_of}
use Rattle.wire.proofs.digits.bcd.Given as goal

abbrev pub invariant-loop-k : goal.invariant-loop-k
invariant-loop-k l = (l.a ≤ l.v / 2 ^ (4 * l.k)) × (bcd_after (l.n - l.k) l.a l.k l.v ≡ bcd_of l.v l.n)
