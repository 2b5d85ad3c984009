-- What a step of the walk says in numbers.
use Rattle.std.specs.Prelude.{ℕ}
use Rattle.loops.specs.Descriptors.{Gives, descriptor, the_end, refusing, place_after}
use Rattle.cabinet.specs.declared.walk.WalkAnswer.{WalkAnswer}

-- from the place `at`: a descriptor of tag t, its body of n bytes at the place b; the end; or a refusal of number k with the place p
abbrev pub walk_says : ℕ → Gives → WalkAnswer
walk_says at (descriptor t b n) = record { number = 0; place = 0; descriptor = 1; tag = t; start = b; size = n; next = place_after at (descriptor t b n) }
walk_says at the_end = record { number = 0; place = 0; descriptor = 0; tag = 0; start = 0; size = 0; next = place_after at the_end }
walk_says at (refusing k p) = record { number = k; place = p; descriptor = 0; tag = 0; start = 0; size = 0; next = place_after at (refusing k p) }
