-- The bits of a local time offset.
use Rattle.std.specs.Prelude.{List, ℕ, ◌/◌, ◌%◌, ◌^◌, ltb, eqb, ℤ, drop, if◌then◌else◌}
use Rattle.wire.specs.Reading.{Reading, value, refused, ◌>>=◌}
use Rattle.clock.specs.Time.{Moment, time_shown}
use Rattle.writing.specs.Rows.{natural, sized}
use Rattle.writing.specs.declared.rows.Sized.{Sized}
use Rattle.write_lists.specs.LocalTimeOffset.{at, moment}
use Rattle.write_lists.specs.Inner.Numbers.{joint, digits}

-- ---- the time of change, which is the numbers from 3 on

-- a day from 15,079 on
unfoldable pub day_bits : List ℤ → Reading ℕ
day_bits zs = natural (2 ^ 16) (at zs 3) >>= λ mjd. if ltb mjd 15079 then refused 112 else value mjd

-- the six digits of an hour, a minute and a second
abbrev pub clock_bits : List ℤ → Reading ℕ
clock_bits zs = joint (joint (digits (natural 24 (at zs 4))) 256 (digits (natural 60 (at zs 5)))) 256 (digits (natural 60 (at zs 6)))

abbrev pub some_time_bits : List ℤ → Reading ℕ
some_time_bits zs = joint (day_bits zs) (2 ^ 24) (clock_bits zs)

-- forty ones, and four numbers that are 0
abbrev pub no_time_bits : List ℤ → Reading ℕ
no_time_bits zs =
    joint (joint (joint (natural 1 (at zs 3)) 1 (natural 1 (at zs 4))) 1 (joint (natural 1 (at zs 5)) 1 (natural 1 (at zs 6)))) 1
    (value 0xFF_FFFF_FFFF)

-- the forty bits of a time
unfoldable pub moment_bits : Reading Moment → Reading ℕ
moment_bits m = m >>= λ t. value (time_shown t)

-- ---- the offsets

-- hours and minutes of less than a day, two digits each
unfoldable pub hours_in : Sized → Reading ℕ
hours_in offset =
    if ltb offset.size 1440 then joint (digits (value (offset.size / 60))) 256 (digits (value (offset.size % 60))) else refused 112

-- a reserved bit, and the polarity of two offsets that are not of opposite sign
unfoldable pub signs : Sized → Sized → Reading ℕ
signs local next =
    if local.below_zero then (if next.below_zero then value 3 else if eqb next.size 0 then value 3 else refused 112)
    else if next.below_zero then (if eqb local.size 0 then value 3 else refused 112)
    else value 2

-- ---- the item, six bytes in front of seven

abbrev pub place_bits : List ℤ → Reading ℕ
place_bits zs = joint (natural (2 ^ 24) (at zs 0)) 64 (natural 64 (at zs 1))

abbrev pub front_bits : List ℤ → Reading ℕ
front_bits zs =
    joint (joint (place_bits zs) 4 (signs (sized (at zs 2)) (sized (at zs 8)))) (2 ^ 16) (hours_in (sized (at zs 2)))

abbrev pub back_bits : List ℤ → Reading ℕ
back_bits zs = joint (moment_bits (moment (drop 3 zs))) (2 ^ 16) (hours_in (sized (at zs 8)))
