-- The code's sums of moves, in which a move serves several places, are the sums that the definitions list. Each is a
-- test at the powers of two.
use mathlib.Core.Path.{◌≡◌}
use mathlib.Core.List.{[], ◌∷◌}
use Prim.Native.Nat.{ℕ, ◌*◌, ◌%◌, ◌^◌, ◌<◌}
use Rattle.moves.specs.Inner.Moves.{rights, lefts, times_poly, quotient_of, times64, times96, times128, over, under}
use Rattle.moves.proofs.Basis.{Additive, agree}
use Rattle.moves.proofs.Shifts.{itself, up_of, rights_of, lefts_of, times_of, quotient-of, times64_of, times96_of, times128_of, over_of, under_of}

-- z, and z moved up by k
abbrev up : ℕ → ℕ → ℕ → ℕ
up n k z = lefts n (k ∷ []) z z

-- z, and z moved down by k
abbrev down : ℕ → ℕ → ℕ
down k z = rights (k ∷ []) z z

up_twice : {m : ℕ} {f : ℕ → ℕ} → Additive m f → (n k : ℕ) → Additive m (λ v. up n k (f v))
up_twice h n k = lefts_of h h n (k ∷ [])

down_twice : {m : ℕ} {f : ℕ → ℕ} → Additive m f → (k : ℕ) → Additive m (λ v. down k (f v))
down_twice h k = rights_of h h (k ∷ [])

pub times_shared : (q : ℕ) → q < 2 ^ 32
    → lefts 32 (16 ∷ 23 ∷ [])
    (lefts 32 (22 ∷ []) (lefts 32 (1 ∷ 2 ∷ []) (up 32 6 (up 32 4 q)) (up 32 6 (up 32 4 q))) (up 32 4 q)) q
    ≡ times_poly q
unfolding times_poly lefts
times_shared =
    let t = up_twice itself 32 4 in
    let u = up_twice t 32 6 in
    agree 32 (lefts_of (lefts_of (lefts_of u u 32 (1 ∷ 2 ∷ [])) t 32 (22 ∷ [])) itself 32 (16 ∷ 23 ∷ [])) (times_of itself) tt

pub quotient_shared : (z : ℕ) → z < 2 ^ 32 → rights (6 ∷ 24 ∷ 25 ∷ []) (rights (9 ∷ 26 ∷ []) z z) (down 6 (down 4 z)) ≡ quotient_of z
unfolding quotient_of rights
quotient_shared =
    let u = down_twice (down_twice itself 4) 6 in
    agree 32 (rights_of (rights_of itself itself (9 ∷ 26 ∷ [])) u (6 ∷ 24 ∷ 25 ∷ [])) (quotient-of itself) tt

pub times64_shared : (z : ℕ) → z < 2 ^ 32
    → lefts 64 (27 ∷ 30 ∷ [])
    (lefts 64 (2 ∷ 9 ∷ [])
    (lefts 64 (10 ∷ 16 ∷ []) (lefts 64 (3 ∷ []) z (up 64 5 z)) (lefts 64 (3 ∷ []) z (up 64 5 z))) (up 64 5 z))
    z
    ≡ times64 z
unfolding times64 lefts
times64_shared =
    let t = up_twice itself 64 5 in
    let u = lefts_of itself t 64 (3 ∷ []) in
    agree 32 (lefts_of (lefts_of (lefts_of u u 64 (10 ∷ 16 ∷ [])) t 64 (2 ∷ 9 ∷ [])) itself 64 (27 ∷ 30 ∷ [])) (times64_of itself) tt

pub times96_shared : (z : ℕ) → z < 2 ^ 32
    → lefts 64 (25 ∷ [])
    (lefts 64 (28 ∷ 30 ∷ []) (lefts 64 (9 ∷ 10 ∷ []) (up 64 4 (up 64 1 z) * 2 ^ 1 % 2 ^ 64) (up 64 4 (up 64 1 z)))
    (up 64 1 z))
    z
    ≡ times96 z
unfolding times96 lefts
times96_shared =
    let t = up_twice itself 64 1 in
    let u = up_twice t 64 4 in
    agree 32 (lefts_of (lefts_of (lefts_of (up_of u 64 1) u 64 (9 ∷ 10 ∷ [])) t 64 (28 ∷ 30 ∷ [])) itself 64 (25 ∷ []))
    (times96_of itself) tt

pub times128_shared : (z : ℕ) → z < 2 ^ 32
    → lefts 64 (9 ∷ 30 ∷ 31 ∷ [])
    (lefts 64 (10 ∷ 21 ∷ []) (lefts 64 (14 ∷ []) (up 64 2 z) (up 64 2 z)) (up 64 6 (up 64 2 z))) z
    ≡ times128 z
unfolding times128 lefts
times128_shared =
    let t = up_twice itself 64 2 in
    let u = up_twice t 64 6 in
    agree 32 (lefts_of (lefts_of (lefts_of t t 64 (14 ∷ [])) u 64 (10 ∷ 21 ∷ [])) itself 64 (9 ∷ 30 ∷ 31 ∷ [])) (times128_of itself) tt

pub over_shared : (a : ℕ) → a < 2 ^ 64 → rights (47 ∷ []) (rights (16 ∷ 23 ∷ 41 ∷ []) a a) (down 8 (down 1 a)) ≡ over a
unfolding over rights
over_shared =
    let u = down_twice (down_twice itself 1) 8 in
    agree 64 (rights_of (rights_of itself itself (16 ∷ 23 ∷ 41 ∷ [])) u (47 ∷ [])) (over_of itself) tt

pub under_shared : (a : ℕ) → a < 2 ^ 64 → lefts 64 (23 ∷ 41 ∷ 48 ∷ []) (up 64 8 (up 64 1 a) * 2 ^ 8 % 2 ^ 64) a ≡ under a
unfolding under lefts
under_shared =
    let u = up_twice (up_twice itself 64 1) 64 8 in
    agree 64 (lefts_of (up_of u 64 8) itself 64 (23 ∷ 41 ∷ 48 ∷ [])) (under_of itself) tt
