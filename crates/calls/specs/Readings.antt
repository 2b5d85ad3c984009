-- Request (v) over the readings' calls for C: what the first three fields of an answer tell, of the bytes that were lent or passed. A value tells
-- 0 in each of them, and of a number that is no field's the other two are 0 (`Tells`: `bare`).
use Rattle.std.specs.Prelude.{ℕ, ◌*◌, ◌/◌, ◌%◌, ◌<◌, ◌≡◌, List, [], ◌∷◌, drop}
use Rattle.wire.specs.Bytes.{Bytes}
use Rattle.clock.specs.Fault.{Why}
use Rattle.clock.specs.Time.{time_of}
use Rattle.clock.specs.Duration.{duration_of}
use Rattle.clock.specs.Offset.{offset_of}
use Rattle.clock.specs.Reported.{mjd, Tells, offset_fields, duration_fields, time_fields}
use Rattle.calendar.specs.Calendar.{date_of}
use Rattle.parts.specs.Names.{time_from, duration_from}
use Rattle.lists.specs.LocalTimeOffset as offsets
use Rattle.delivery.specs.Satellite as satellite
use Rattle.delivery.specs.Cable as cable
use Rattle.cabinet.specs.Numbers.{is_set}
use Rattle.cabinet.specs.Delivery.{satellite_answer, cable_answer}
use Rattle.cabinet.specs.Lists.{local_time_offset_answer}
use Rattle.cabinet.specs.Clock.{time_answer, duration_answer, offset_answer, date_answer}
use Rattle.cabinet.specs.declared.delivery_readings.SatelliteAnswer.{SatelliteAnswer}
use Rattle.cabinet.specs.declared.delivery_readings.CableAnswer.{CableAnswer}
use Rattle.cabinet.specs.declared.list_readings.LocalTimeOffsetAnswer.{LocalTimeOffsetAnswer}
use Rattle.cabinet.specs.declared.times.TimeAnswer.{TimeAnswer}
use Rattle.cabinet.specs.declared.times.DurationAnswer.{DurationAnswer}
use Rattle.cabinet.specs.declared.times.OffsetAnswer.{OffsetAnswer}
use Rattle.cabinet.specs.declared.times.DateAnswer.{DateAnswer}

-- the first three fields of an answer
abbrev pub head : ℕ → ℕ → ℕ → Why
head number place digit = record { number = number; place = place; digit = digit }

-- ---- a descriptor: the places count behind its tag and its length

abbrev pub PromisedSatellite : List ℕ → SatelliteAnswer → Type 0
PromisedSatellite s a = a ≡ satellite_answer (satellite.satellite s)

abbrev pub SatelliteTells : (List ℕ → SatelliteAnswer → Type 0) → Type 0
SatelliteTells call = (s : List ℕ) → Bytes s → (a : SatelliteAnswer) → call s a
    → Tells (drop 2 s) satellite.checked (head a.number a.place a.digit)

abbrev pub PromisedCable : List ℕ → CableAnswer → Type 0
PromisedCable s a = a ≡ cable_answer (cable.cable s)

abbrev pub CableTells : (List ℕ → CableAnswer → Type 0) → Type 0
CableTells call = (s : List ℕ) → Bytes s → (a : CableAnswer) → call s a
    → Tells (drop 2 s) cable.checked (head a.number a.place a.digit)

abbrev pub PromisedItem : List ℕ → ℕ → LocalTimeOffsetAnswer → Type 0
PromisedItem s i a = a ≡ local_time_offset_answer (offsets.localTimeOffset s i)

abbrev pub ItemTells : (List ℕ → ℕ → LocalTimeOffsetAnswer → Type 0) → Type 0
ItemTells call = (s : List ℕ) → Bytes s → (i : ℕ) (a : LocalTimeOffsetAnswer) → call s i a
    → Tells (drop 2 s) (offsets.checked (drop 2 s) (13 * i)) (head a.number a.place a.digit)

-- ---- bytes of a time or a duration: a byte that is not there counts as 0

abbrev pub PromisedTimeFrom : List ℕ → TimeAnswer → Type 0
PromisedTimeFrom b a = a ≡ time_answer (time_from b)

abbrev pub TimeFromTells : (List ℕ → TimeAnswer → Type 0) → Type 0
TimeFromTells call = (b : List ℕ) → Bytes b → (a : TimeAnswer) → call b a
    → Tells b (time_fields b 0) (head a.number a.place a.digit)

abbrev pub PromisedDurationFrom : List ℕ → DurationAnswer → Type 0
PromisedDurationFrom b a = a ≡ duration_answer (duration_from b)

abbrev pub DurationFromTells : (List ℕ → DurationAnswer → Type 0) → Type 0
DurationFromTells call = (b : List ℕ) → Bytes b → (a : DurationAnswer) → call b a
    → Tells b (duration_fields 0) (head a.number a.place a.digit)

-- ---- numbers: the places count in the bytes that they are

abbrev pub time_bytes : ℕ → ℕ → ℕ → ℕ → List ℕ
time_bytes day h m s = day / 256 ∷ day % 256 ∷ h ∷ m ∷ s ∷ []

abbrev pub PromisedTime : ℕ → ℕ → ℕ → ℕ → TimeAnswer → Type 0
PromisedTime day h m s a = a ≡ time_answer (time_of day h m s)

abbrev pub TimeTells : (ℕ → ℕ → ℕ → ℕ → TimeAnswer → Type 0) → Type 0
TimeTells call = (day h m s : ℕ) → day < 65536 → h < 256 → m < 256 → s < 256 → (a : TimeAnswer) → call day h m s a
    → Tells (time_bytes day h m s) (time_fields (time_bytes day h m s) 0) (head a.number a.place a.digit)

abbrev pub PromisedDuration : ℕ → ℕ → ℕ → DurationAnswer → Type 0
PromisedDuration h m s a = a ≡ duration_answer (duration_of h m s)

abbrev pub DurationTells : (ℕ → ℕ → ℕ → DurationAnswer → Type 0) → Type 0
DurationTells call = (h m s : ℕ) → h < 256 → m < 256 → s < 256 → (a : DurationAnswer) → call h m s a
    → Tells (h ∷ m ∷ s ∷ []) (duration_fields 0) (head a.number a.place a.digit)

abbrev pub PromisedOffset : ℕ → ℕ → ℕ → OffsetAnswer → Type 0
PromisedOffset behind h m a = a ≡ offset_answer (offset_of (is_set behind) h m)

abbrev pub OffsetTells : (ℕ → ℕ → ℕ → OffsetAnswer → Type 0) → Type 0
OffsetTells call = (behind h m : ℕ) → h < 256 → m < 256 → (a : OffsetAnswer) → call behind h m a
    → Tells (h ∷ m ∷ []) (offset_fields 0) (head a.number a.place a.digit)

abbrev pub PromisedDate : ℕ → DateAnswer → Type 0
PromisedDate day a = a ≡ date_answer (date_of day)

abbrev pub DateTells : (ℕ → DateAnswer → Type 0) → Type 0
DateTells call = (day : ℕ) → day < 65536 → (a : DateAnswer) → call day a
    → Tells (day / 256 ∷ day % 256 ∷ []) (mjd 0 ∷ []) (head a.number a.place a.digit)
