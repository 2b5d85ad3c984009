-- `write_lists::rows::put_both` meets its contract.
use mathlib.Core.Path.{◌≡◌, sym, ap, ◌∙◌}
use mathlib.Core.List.{List, ◌++◌}
use Prim.Native.Nat.{ℕ, ◌+◌, ◌≤◌}
use native.Mathlib.Omega.{arith}
use lib.ListN.{length}
use Rattle.forms.specs.Room.{put}
use Rattle.forms.proofs.Puts.{put_put}
use Rattle.writing.specs.Number.{ofNumber}
use Rattle.writing.proofs.NumberBytes.{length_of}
use Rattle.write_lists.specs.Inner.Kinds.{high_size, low_size}
use Rattle.write_lists.specs.declared.kinds.Kind.{Kind}
use Rattle.write_lists.proofs.rows.put_both.Goals as goal

-- numbers put next to each other
numbers-put : (o : List ℕ) (to n m high low : ℕ) → to + (n + m) ≤ length o
    → put (put o to (ofNumber n high)) (to + n) (ofNumber m low) ≡ put o to (ofNumber n high ++ ofNumber m low)
numbers-put o to n m high low h =
    let first : List ℕ = ofNumber n high in
    let long = length_of n high in
    ap (λ j. put (put o to first) (to + j) (ofNumber m low)) (sym long)
    ∙ put_put o to first (omega arith) (ofNumber m low) (omega (arith, length_of m low))

both-put : (k : Kind) (o : List ℕ) (to high low : ℕ) {n m : ℕ} {o1 o2 : List ℕ}
    → to + (high_size k + low_size k) ≤ length o
    → n ≡ high_size k
    → m ≡ low_size k
    → o1 ≡ put o to (ofNumber n high)
    → o2 ≡ put o1 (to + n) (ofNumber m low)
    → o2 ≡ put o to (ofNumber (high_size k) high ++ ofNumber (low_size k) low)
both-put k o to high low h e f first second =
    rw (second, first, e, f) (numbers-put o to (high_size k) (low_size k) high low h)

pub returns : goal.returns
returns c = search both-put
