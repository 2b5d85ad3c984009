-- A law of sizes: their sum is the bytes of the sections.
use mathlib.Core.Path.{◌≡◌, refl}
use mathlib.Core.List.{List, [], ◌∷◌, map, flatten}
use native.Mathlib.Omega.{arith}
use lib.ListN.{length, length-append}
use Rattle.writer.specs.Layout.{sum}

pub sum_long : {A : Type 0} (sections : List (List A)) → sum (map length sections) ≡ length (flatten sections)
unfolding flatten
sum_long [] = refl
sum_long (s ∷ sections) = omega (arith, sum_long sections, length-append s (flatten sections))
