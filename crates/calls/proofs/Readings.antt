-- What C is told of a wrong field is what the reading tells.
use Prim.Native.Nat.{ℕ, ◌*◌, ◌/◌, ◌%◌}
use mathlib.Core.Path.{◌≡◌, refl, sym, ap, ◌∙◌, subst}
use mathlib.Core.Logic.{inl}
use mathlib.Core.List.{List, [], ◌∷◌}
use native.Mathlib.Omega.{arith}
use lib.ListN.{drop}
use Rattle.wire.specs.Reading.{value, refused}
use Rattle.clock.specs.Fault.{Why, Answered, plain}
use Rattle.clock.specs.Time.{time_of}
use Rattle.clock.specs.Duration.{duration_of}
use Rattle.clock.specs.Offset.{offset_of}
use Rattle.clock.specs.Reported.{Checked, mjd, Tells, RefusalTells, offset_fields, duration_fields, time_fields}
use Rattle.clock.proofs.FirstWrong.{bare_tells, judged_tells}
use Rattle.clock.proofs.Reported as clock
use Rattle.calendar.specs.Calendar.{date_of}
use Rattle.calendar.proofs.Reported as calendar
use Rattle.parts.specs.Names.{time_from, duration_from}
use Rattle.lists.specs.LocalTimeOffset as offsets
use Rattle.lists.proofs.Reported.{offset_item_tells}
use Rattle.delivery.specs.Satellite as satellite
use Rattle.delivery.specs.Cable as cable
use Rattle.delivery.proofs.Reported as delivery
use Rattle.cabinet.specs.Numbers.{is_set}
use Rattle.cabinet.specs.Delivery.{satellite_answer, cable_answer}
use Rattle.cabinet.specs.Lists.{local_time_offset_answer}
use Rattle.cabinet.specs.Clock.{time_answer, duration_answer, offset_answer, date_answer}
use Rattle.cabinet.specs.declared.delivery_readings.SatelliteAnswer.{SatelliteAnswer}
use Rattle.cabinet.specs.declared.delivery_readings.CableAnswer.{CableAnswer}
use Rattle.cabinet.specs.declared.list_readings.LocalTimeOffsetAnswer.{LocalTimeOffsetAnswer}
use Rattle.cabinet.specs.declared.times.TimeAnswer.{TimeAnswer}
use Rattle.cabinet.specs.declared.times.DurationAnswer.{DurationAnswer}
use Rattle.cabinet.specs.declared.times.OffsetAnswer.{OffsetAnswer}
use Rattle.cabinet.specs.declared.times.DateAnswer.{DateAnswer}
use Rattle.calls.specs.Readings.{head, time_bytes, PromisedSatellite, SatelliteTells, PromisedCable, CableTells, PromisedItem, ItemTells, PromisedTimeFrom, TimeFromTells, PromisedDurationFrom, DurationFromTells, PromisedTime, TimeTells, PromisedDuration, DurationTells, PromisedOffset, OffsetTells, PromisedDate, DateTells}

-- an answer whose first fields are zeros with a value, and else the refusal's
module _ {A R : Type 0} (answer : Answered A → R) (first : R → Why) (is : (a : A) → first (answer (value a)) ≡ plain 0)
    (no : (w : Why) → first (answer (refused w)) ≡ w) (b : List ℕ) (fs : List Checked)
  where
    answer_tells : (r : Answered A) → RefusalTells b fs r → (x : R) → x ≡ answer r → Tells b fs (first x)
    answer_tells (value a) tells x e =
        subst (Tells b fs) (sym (ap first e ∙ is a)) (bare_tells b fs 0 (inl (omega arith)))
    answer_tells (refused w) tells x e = subst (Tells b fs) (sym (ap first e ∙ no w)) (tells w refl)

pub satellite_told : SatelliteTells PromisedSatellite
satellite_told s bytes =
    answer_tells satellite_answer (λ (a : SatelliteAnswer). head a.number a.place a.digit) (λ a. refl)
    (λ w. refl)
    (drop 2 s) satellite.checked (satellite.satellite s) (delivery.satellite_tells s bytes)

pub cable_told : CableTells PromisedCable
cable_told s bytes =
    answer_tells cable_answer (λ (a : CableAnswer). head a.number a.place a.digit) (λ a. refl) (λ w. refl)
    (drop 2 s) cable.checked (cable.cable s) (delivery.cable_tells s bytes)

pub item_told : ItemTells PromisedItem
item_told s bytes i =
    answer_tells local_time_offset_answer (λ (a : LocalTimeOffsetAnswer). head a.number a.place a.digit)
    (λ a. refl)
    (λ w. refl) (drop 2 s) (offsets.checked (drop 2 s) (13 * i)) (offsets.localTimeOffset s i)
    (offset_item_tells s bytes i)

-- ---- times

module _ (b : List ℕ) (fs : List Checked) where
  time_answer_lem : (r : Answered _) → RefusalTells b fs r → (x : TimeAnswer) → x ≡ time_answer r
      → Tells b fs (head x.number x.place x.digit)
  time_answer_lem =
      answer_tells time_answer (λ (a : TimeAnswer). head a.number a.place a.digit) (λ a. refl) (λ w. refl) b fs

  duration_answer_lem : (r : Answered _) → RefusalTells b fs r → (x : DurationAnswer) → x ≡ duration_answer r
      → Tells b fs (head x.number x.place x.digit)
  duration_answer_lem =
      answer_tells duration_answer (λ (a : DurationAnswer). head a.number a.place a.digit) (λ a. refl)
      (λ w. refl) b fs

pub time_told : TimeTells PromisedTime
time_told day h m s days hb mb sb =
    time_answer_lem (time_bytes day h m s) (time_fields (time_bytes day h m s) 0) (time_of day h m s)
    (clock.time_tells h m hb mb s sb day days)

pub time_from_told : TimeFromTells PromisedTimeFrom
time_from_told b bytes =
    time_answer_lem b (time_fields b 0) (time_from b)
    (judged_tells b (time_fields b 0) (time_from b) (clock.time_judged b bytes 0))

pub duration_told : DurationTells PromisedDuration
duration_told h m s hb mb sb =
    duration_answer_lem (h ∷ m ∷ s ∷ []) (duration_fields 0) (duration_of h m s) (clock.duration_tells h m hb mb s sb)

pub duration_from_told : DurationFromTells PromisedDurationFrom
unfolding duration_of
duration_from_told b bytes =
    duration_answer_lem b (duration_fields 0) (duration_from b)
    (judged_tells b (duration_fields 0) (duration_from b) (clock.hms_judged b bytes 0 100))

pub offset_told : OffsetTells PromisedOffset
offset_told behind h m hb mb =
    answer_tells offset_answer (λ (a : OffsetAnswer). head a.number a.place a.digit) (λ a. refl) (λ w. refl)
    (h ∷ m ∷ []) (offset_fields 0) (offset_of (is_set behind) h m) (clock.offset_tells h m hb mb (is_set behind))

pub date_told : DateTells PromisedDate
date_told day days =
    answer_tells date_answer (λ (a : DateAnswer). head a.number a.place a.digit) (λ a. refl) (λ w. refl)
    (day / 256 ∷ day % 256 ∷ []) (mjd 0 ∷ []) (date_of day) (calendar.date_tells day days)
