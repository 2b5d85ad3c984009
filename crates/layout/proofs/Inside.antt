-- Items of k bytes, for any k.
use mathlib.Core.Path.{◌≡◌}
use Prim.Native.Nat.{ℕ, suc, ◌+◌, ◌*◌, ◌/◌, ◌<◌, ◌≤◌}
use native.Mathlib.Nat.{mul_comm, suc-mul, mul-le-mul_right, div-mul-le_self, le_trans}
use native.Mathlib.Omega.{arith}

-- an item whose index is below the number of items lies inside
pub inside : (k n i : ℕ) → i < n / k → k * i + k ≤ n
inside k n i h =
    let b = le_trans (mul-le-mul_right k h) (div-mul-le_self n k) in
    let e : suc i * k ≡ k * i + k = rw (suc-mul, mul_comm) in
    omega (arith, e)
