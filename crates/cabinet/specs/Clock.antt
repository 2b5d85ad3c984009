-- What the readings of times, durations, offsets and dates say in numbers: 0 and the value, or the refusal and zeros.
use Rattle.std.specs.Prelude.{ℤ, pos, None, Some}
use Rattle.wire.specs.Reading.{value, refused}
use Rattle.clock.specs.Fault.{Answered}
use Rattle.clock.specs.declared.Hms.{Hms}
use Rattle.clock.specs.Time as clock
use Rattle.calendar.specs.declared.Date as calendar
use Rattle.cabinet.specs.declared.times.Moment.{Moment}
use Rattle.cabinet.specs.declared.times.TimeAnswer.{TimeAnswer}
use Rattle.cabinet.specs.declared.times.Duration.{Duration}
use Rattle.cabinet.specs.declared.times.DurationAnswer.{DurationAnswer}
use Rattle.cabinet.specs.declared.times.OffsetAnswer.{OffsetAnswer}
use Rattle.cabinet.specs.declared.times.Date.{Date}
use Rattle.cabinet.specs.declared.times.DateAnswer.{DateAnswer}

-- a time's fields; "Forty ones mean "undefined"": 1 in that field, and zeros
abbrev pub moment_says : clock.Moment → Moment
moment_says None = record { mjd = 0; hour = 0; minute = 0; second = 0; undefined = 1 }
moment_says (Some t) = record {
  mjd = t.mjd;
  hour = t.clock.hour;
  minute = t.clock.minute;
  second = t.clock.second;
  undefined = 0;
}

-- zeros, where there is no time
abbrev pub no_moment : Moment
no_moment = record { mjd = 0; hour = 0; minute = 0; second = 0; undefined = 0 }

-- the time, or the refusal
abbrev pub time_answer : Answered clock.Moment → TimeAnswer
time_answer (value t) = record { number = 0; place = 0; digit = 0; time = moment_says t }
time_answer (refused w) = record { number = w.number; place = w.place; digit = w.digit; time = no_moment }

-- a duration's fields
abbrev pub duration_says : Hms → Duration
duration_says t = record { hour = t.hour; minute = t.minute; second = t.second }

-- zeros, where there is no duration
abbrev pub no_duration : Duration
no_duration = record { hour = 0; minute = 0; second = 0 }

-- the duration, or the refusal
abbrev pub duration_answer : Answered Hms → DurationAnswer
duration_answer (value t) = record { number = 0; place = 0; digit = 0; duration = duration_says t }
duration_answer (refused w) = record { number = w.number; place = w.place; digit = w.digit; duration = no_duration }

-- "An offset is signed minutes"
abbrev pub offset_answer : Answered ℤ → OffsetAnswer
offset_answer (value n) = record { number = 0; place = 0; digit = 0; minutes = n }
offset_answer (refused w) = record { number = w.number; place = w.place; digit = w.digit; minutes = pos 0 }

-- a date's fields
abbrev pub date_says : calendar.Date → Date
date_says d = record { year = d.year; month = d.month; day = d.day }

-- zeros, where there is no date
abbrev pub no_date : Date
no_date = record { year = 0; month = 0; day = 0 }

-- the date, or the refusal
abbrev pub date_answer : Answered calendar.Date → DateAnswer
date_answer (value d) = record { number = 0; place = 0; digit = 0; date = date_says d }
date_answer (refused w) = record { number = w.number; place = w.place; digit = w.digit; date = no_date }
