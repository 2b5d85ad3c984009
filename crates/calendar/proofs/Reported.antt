-- A date that is refused: its MJD, at the place 0 of its own two bytes, is below 15,079.
use Prim.{tt}
use Prim.Native.Nat.{ℕ, ◌+◌, ◌*◌, ◌/◌, ◌%◌, ◌<◌}
use mathlib.Core.Path.{◌≡◌, refl, subst}
use mathlib.Core.List.{List, [], ◌∷◌}
use native.Mathlib.Omega.{arith}
use Rattle.wire.specs.Number.{number_at}
use Rattle.wire.specs.Reading.{refused}
use Rattle.clock.specs.Fault.{too_early}
use Rattle.clock.specs.Reported.{mjd, Judged, RefusalTells}
use Rattle.clock.proofs.FirstWrong.{judged_value, judged_then, judged_tells}
use Rattle.clock.proofs.Reported.{day_judged, byte_more, no_bytes}
use Rattle.calendar.specs.Calendar.{date_of}

module _ (day : ℕ) (days : day < 65536) where
  abbrev Own : List ℕ
  Own = day / 256 ∷ day % 256 ∷ []

  pub date_alone : Judged Own (mjd 0 ∷ []) (date_of day)
  unfolding date_of number_at
  date_alone =
      let e : day / 256 * 256 + day % 256 ≡ day = omega arith in
      let bytes = byte_more (day / 256) (day % 256 ∷ []) (omega arith) (byte_more (day % 256) [] (omega arith) no_bytes) in
      subst (λ d. Judged Own (mjd 0 ∷ []) (date_of d)) e
      (judged_then Own (mjd 0 ∷ []) [] _ _ (day_judged Own bytes 0) (λ d. judged_value Own [] _ tt))

  pub date_tells : RefusalTells Own (mjd 0 ∷ []) (date_of day)
  date_tells = judged_tells Own (mjd 0 ∷ []) (date_of day) date_alone

pub date_told : date_of 0x3AE6 ≡ refused (too_early 0)
unfolding date_of
date_told = refl
