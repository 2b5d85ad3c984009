-- Document 01, "Worked values (starred: proved, as a single list under a single statement)". Most of them the checker computes.
use mathlib.Core.Path.{refl}
use native.Mathlib.Omega.{arith}
use Rattle.wire.specs.Number.{number_at}
use Rattle.wire.specs.Digits.{bcd_after, bcd_of}
use Rattle.wire.specs.Trail.{run, trail}
use Rattle.tables.specs.Tables.{cell, holds, first, row_of}
use Rattle.loops.specs.Descriptors.{descriptors, step_at}
use Rattle.section.specs.Reading.{◌and_then◌, opening, wrong_syntax, length_outside, size_differs, crc_fails, above_last, header, plain, inside, read, judged}
use Rattle.clock.specs.Field.{field, hms}
use Rattle.calendar.specs.Calendar.{dated}
use Rattle.calendar.specs.Dates.{days_of_months, days_of_years, mjd_of, Valid}
use Rattle.layout.specs.Body.{framed, fixed}
use Rattle.layout.specs.Field.{digits_at}
use Rattle.delivery.specs.Cable.{fields as cable_fields, cable}
use Rattle.delivery.specs.Satellite.{system, fields as satellite_fields, satellite}
use Rattle.worked.specs.Worked.{All, none, ◌and◌, starred}
use Rattle.worked.proofs.Times.{told, every_clock, no_day_lem, no_clock_lem}
use Rattle.worked.proofs.Frequencies.{cable_holds, satellite_holds}

both : {A B : Type 0} → A → B → A × B
both a b = (a, b)

in-1900 : Valid (dated 1900 3 1)
in-1900 =
    record { year = omega arith; month = omega arith; twelve = omega arith; day = omega arith; inside = omega arith }

in-1993 : Valid (dated 1993 10 13)
in-1993 =
    record { year = omega arith; month = omega arith; twelve = omega arith; day = omega arith; inside = omega arith }

in-2038 : Valid (dated 2038 4 22)
in-2038 =
    record { year = omega arith; month = omega arith; twelve = omega arith; day = omega arith; inside = omega arith }

pub starred_hold : All starred
unfolding judged read opening ◌and_then◌ row_of first holds cell header wrong_syntax length_outside size_differs crc_fails
    above_last inside plain mjd_of days_of_years days_of_months number_at hms field bcd_of bcd_after
    fixed framed digits_at cable cable_fields satellite satellite_fields system descriptors trail run step_at
starred_hold =
    refl
    and both refl (told 0xC079 0x12 0x45 0x00 _ _ (omega arith) in-1993 refl (omega arith) refl)
    and refl
    and refl
    and refl
    and refl
    and no_day_lem 0x3AE6 (omega arith)
    and every_clock 0x3AE7 _ (omega arith) (omega arith) in-1900 refl
    and told 0xFFFF 0x00 0x00 0x00 _ _ (omega arith) in-2038 refl (omega arith) refl
    and no_clock_lem 0x24 0x00 0x00 _ (omega arith) refl
    and no_clock_lem 0x12 0x4A 0x00 _ (omega arith) refl
    and cable_holds _ _ (λ l. refl) refl
    and satellite_holds _ _ (λ l. refl) refl
    and both refl (both refl (both refl tt))
    and both refl (both refl (both refl tt))
    and none
