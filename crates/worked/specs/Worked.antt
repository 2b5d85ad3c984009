-- Document 01, "Worked values (starred: proved, as a single list under a single statement)": the starred ones, and what each of them says of the
-- definitions that the promises cite.
use Rattle.std.specs.Prelude.{ℕ, ◌<◌, ◌≤◌, ◌≡◌, List, [], ◌∷◌, ◌++◌, get_or, take, set, Some}
use Rattle.wire.specs.Reading.{value, ◌>>=◌}
use Rattle.wire.specs.Number.{number_at}
use Rattle.verdict.specs.Verdict.{Said, accepted, refused as refusedAt}
use Rattle.section.specs.Reading.{judged}
use Rattle.wire.specs.Digits.{bcd_show}
use Rattle.clock.specs.Fault.{Answered, RefusedAs}
use Rattle.clock.specs.Field.{InRange}
use Rattle.clock.specs.Time.{time_of}
use Rattle.clock.specs.declared.Hms.{Hms}
use Rattle.calendar.specs.Calendar.{dated, date_of}
use Rattle.calendar.specs.declared.Date.{Date}
use Rattle.delivery.specs.Cable.{cable}
use Rattle.delivery.specs.Satellite.{satellite}
use Rattle.delivery.specs.declared.cable.CableFrequency.{CableFrequency}
use Rattle.delivery.specs.declared.satellite.SatelliteFrequency.{SatelliteFrequency}
use Rattle.loops.specs.Descriptors.{Placed, placed, descriptors, Gives, descriptor, the_end, refusing, step_at, place_after}

-- a value that document 01 works out: what is given, and what it comes to
pub data Case : Type 0 where
  -- a section, and what the judge says
  judge : List ℕ → Said → Case
  -- a section, accepted, and the date and the clock of its UTC_time
  time : List ℕ → Date → Hms → Case
  -- an MJD that is refused with a number, whatever the clock
  no_day : ℕ → ℕ → Case
  -- an MJD and its date, at every legal clock
  day : ℕ → Date → Case
  -- an MJD with the digits of hour, minute and second, and the date and the clock
  day_at : ℕ → ℕ → ℕ → ℕ → Date → Hms → Case
  -- digits of hour, minute and second that are refused with a number, on whatever day
  no_clock : ℕ → ℕ → ℕ → ℕ → Case
  -- the four bytes of a frequency, and its steps
  cable_steps : List ℕ → CableFrequency → Case
  satellite_steps : List ℕ → SatelliteFrequency → Case
  -- a loop: its descriptors, the verdict, and what a walk gives, call after call
  loop : List ℕ → List Placed → Said → List Gives → Case

-- a clock
abbrev pub clock : ℕ → ℕ → ℕ → Hms
clock h m s = record { hour = h; minute = m; second = s }

-- a time that is read: its day and its clock, and the date of the day
pub record Told (mjd h m s : ℕ) (d : Date) (t : Hms) : Type 0 where
  pub moment : time_of mjd h m s ≡ value (Some (record { mjd = mjd; clock = t }))
  pub date : date_of mjd ≡ value d

-- the rest of a delivery system's eleven bytes, where each is 0
abbrev pub zeros : List ℕ
zeros = 0 ∷ 0 ∷ 0 ∷ 0 ∷ 0 ∷ 0 ∷ 0 ∷ []

-- a delivery system whose frequency has these four bytes: what follows them does not alter the count, and there is one that is read
pub record Counted {A F : Type 0} (tag : ℕ) (read : List ℕ → Answered A) (frequency : A → F) (bytes : List ℕ) (count : F)
    : Type 0 where
  pub always : (behind : List ℕ) (a : A) → read (tag ∷ 11 ∷ (bytes ++ behind)) ≡ value a → frequency a ≡ count
  pub once : (read (tag ∷ 11 ∷ (bytes ++ zeros)) >>= λ a. value (frequency a)) ≡ value count

-- what a walk over a loop gives from a place on, call after call
abbrev pub Gave : List ℕ → ℕ → List Gives → Type 0
Gave l at [] = Unit {0}
Gave l at (g ∷ gs) = (step_at l at ≡ g) × Gave l (place_after at g) gs

-- what a case claims
abbrev pub holds : Case → Type 0
holds (judge s v) = judged s ≡ v
holds (time s d t) = (judged s ≡ accepted) × Told (number_at 2 s 3) (get_or s 5 0) (get_or s 6 0) (get_or s 7 0) d t
holds (no_day mjd k) =
    RefusedAs k (date_of mjd) × ((h m s : ℕ) → h < 256 → m < 256 → s < 256 → RefusedAs k (time_of mjd h m s))
holds (day mjd d) =
    (t : Hms) → InRange 24 t → Told mjd (bcd_show 2 t.hour) (bcd_show 2 t.minute) (bcd_show 2 t.second) d t
holds (day_at mjd h m s d t) = Told mjd h m s d t
holds (no_clock h m s k) = (mjd : ℕ) → 15079 ≤ mjd → RefusedAs k (time_of mjd h m s)
holds (cable_steps f n) = Counted 0x44 cable (λ c. c.frequency) f n
holds (satellite_steps f n) = Counted 0x43 satellite (λ c. c.frequency) f n
holds (loop l ds v gs) = (descriptors 0 l ≡ record { items = ds; ends = v }) × Gave l 0 gs

-- each case of a list holds
infixr 2 ◌and◌
pub data All : List Case → Type 0 where
  none : All []
  ◌and◌ : {c : Case} {cs : List Case} → holds c → All cs → All (c ∷ cs)

-- "70 70 05 C0 79 12 45 00"
abbrev pub tdt : List ℕ
tdt = 0x70 ∷ 0x70 ∷ 0x05 ∷ 0xC0 ∷ 0x79 ∷ 0x12 ∷ 0x45 ∷ 0x00 ∷ []

-- THE LIST, in document 01's order
abbrev pub starred : List Case
starred =
    -- "empty: 1"
    judge [] (refusedAt 1 0)
    -- "70 70 05 C0 79 12 45 00: accepted, 1993-10-13 12:45:00"
    ∷ time tdt (dated 1993 10 13) (clock 12 45 0)
    -- "Its first 7 bytes: 5"
    ∷ judge (take 7 tdt) (refusedAt 5 0)
    -- "First byte 71: 2"
    ∷ judge (set tdt 0 0x71) (refusedAt 2 0)
    -- "Second F0: 3"
    ∷ judge (set tdt 1 0xF0) (refusedAt 3 0)
    -- "Third 04: 4"
    ∷ judge (set tdt 2 0x04) (refusedAt 4 0)
    -- "MJD 0x3AE6: 65"
    ∷ no_day 0x3AE6 65
    -- "0x3AE7: 1900-03-01"
    ∷ day 0x3AE7 (dated 1900 3 1)
    -- "0xFFFF at 000000: 2038-04-22"
    ∷ day_at 0xFFFF 0x00 0x00 0x00 (dated 2038 4 22) (clock 0 0 0)
    -- "Clock 24 00 00: 64"
    ∷ no_clock 0x24 0x00 0x00 64
    -- "12 4A 00: 63"
    ∷ no_clock 0x12 0x4A 0x00 63
    -- "Cable 03 12 00 00: 3,120,000 steps"
    ∷ cable_steps (0x03 ∷ 0x12 ∷ 0x00 ∷ 0x00 ∷ []) (record { 0 = 3120000 })
    -- "Satellite 01 17 57 25: 1,175,725 steps"
    ∷ satellite_steps (0x01 ∷ 0x17 ∷ 0x57 ∷ 0x25 ∷ []) (record { 0 = 1175725 })
    -- "Loop 42 00: one descriptor"
    ∷ loop (0x42 ∷ 0x00 ∷ []) (placed 0 0x42 [] ∷ []) accepted (descriptor 0x42 2 0 ∷ the_end ∷ [])
    -- "42: 9"
    ∷ loop (0x42 ∷ []) [] (refusedAt 9 0) (refusing 9 0 ∷ refusing 9 0 ∷ [])
    ∷ []
