-- Times, days and clocks, by what their fields are.
use Prim.Native.Nat.{ℕ, ◌<◌, ◌≤◌}
use mathlib.Core.Path.{◌≡◌, refl, sym, ap, ◌∙◌}
use mathlib.Core.Bool.{false}
use mathlib.Core.List.{[], ◌∷◌}
use native.Mathlib.Omega.{arith}
use borrow.Author.Tests.{lt-ltb, le-ltb, ne_eqb}
use lib.Dec.{eqb}
use Rattle.std.specs.Prelude.{Some}
use Rattle.wire.specs.Reading.{value, refused}
use Rattle.wire.specs.Number.{number}
use Rattle.clock.specs.Fault.{Why, number_of}
use Rattle.clock.specs.Field.{hms}
use Rattle.clock.specs.Time.{time_at}
use Rattle.clock.specs.declared.Hms.{Hms}
use Rattle.clock.proofs.Exactly.{time_exactly}
use Rattle.wire.specs.Digits.{bcd_show}
use Rattle.wire.proofs.Shown.{show_below}
use Rattle.calendar.specs.Calendar.{gregorian, date_of}
use Rattle.calendar.specs.Dates.{mjd_of, Valid}
use Rattle.calendar.specs.declared.Date.{Date}
use Rattle.calendar.proofs.Dates.{of_date}
use Rattle.worked.specs.Worked.{holds, day, no_day, no_clock, Told}

-- no forty ones, where the second is none
not_ones : (mjd h m s : ℕ) → s < 255 → eqb (number (mjd ∷ h ∷ m ∷ s ∷ [])) 0xFF_FFFF_FFFF ≡ false
not_ones mjd h m s l = ne_eqb (number (mjd ∷ h ∷ m ∷ s ∷ [])) 0xFF_FFFF_FFFF (λ e. omega arith)

-- the date of a day is the date whose MJD, counted by years and months, is that day
pub date_is : (mjd : ℕ) (d : Date) → 15079 ≤ mjd → Valid d → mjd_of d ≡ mjd → date_of mjd ≡ value d
unfolding date_of
date_is mjd d low valid e =
    let is : gregorian mjd ≡ d = sym (ap gregorian e) ∙ of_date d valid (rw e low) in
    rw (le-ltb mjd 15079 low) (ap value is)

-- a day from 15,079 on, at one clock
pub told : (mjd h m s : ℕ) (d : Date) (t : Hms) → 15079 ≤ mjd → Valid d → mjd_of d ≡ mjd → s < 255
    → hms 2 24 h m s ≡ value t → Told mjd h m s d t
unfolding time_at
told mjd h m s d t low valid number l e =
    record {
      moment = rw (not_ones mjd h m s l, le-ltb mjd 15079 low, e);
      date = date_is mjd d low valid number;
    }

-- a day from 15,079 on, at every legal clock
pub every_clock : (mjd : ℕ) (d : Date) → 15079 ≤ mjd → mjd < 65536 → Valid d → mjd_of d ≡ mjd → holds (day mjd d)
every_clock mjd d low high valid number t right =
    let shown : ℕ → ℕ = bcd_show 2 in
    record {
      moment =
          (time_exactly mjd (shown t.hour) (shown t.minute) (shown t.second) high
          (show_below 2 t.hour) (show_below 2 t.minute) (show_below 2 t.second)
          (Some (record { mjd = mjd; clock = t }))).1
          ((low, right), refl);
      date = date_is mjd d low valid number;
    }

pub no_day_lem : (mjd : ℕ) → mjd < 15079 → holds (no_day mjd 65)
unfolding time_at date_of
no_day_lem mjd l = (
  rw (lt-ltb mjd 15079 l) refl,
  λ h m s i j k.
      let e : number (mjd ∷ h ∷ m ∷ s ∷ []) ≡ 0xFF_FFFF_FFFF → ⊥ = λ e. omega arith in
      rw (ne_eqb (number (mjd ∷ h ∷ m ∷ s ∷ [])) 0xFF_FFFF_FFFF e, lt-ltb mjd 15079 l) refl,
)

pub no_clock_lem : (h m s : ℕ) (w : Why) → s < 255 → hms 2 24 h m s ≡ refused w → holds (no_clock h m s (number_of w))
unfolding time_at
no_clock_lem h m s w l e mjd low = rw (not_ones mjd h m s l, le-ltb mjd 15079 low, e) refl
