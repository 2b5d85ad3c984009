-- The wrong collectors that document 01's last chapter names, four more, four that take no notice of the judge or of what it says last, and the
-- packets on which each shows itself.
use Rattle.std.specs.Prelude.{◌≡◌, false, ◌&&◌, ℕ, ◌+◌, ◌%◌, ◌^◌, length, take, drop, get_or, replicate, eqb, if◌then◌else◌, None, Some}
use mathlib.Core.List.{List, [], ◌∷◌, ◌++◌, flatten}
use Rattle.packet.specs.Header.{control, counter_of, discontinuity}
use Rattle.packet.specs.Ruling.{Ruling, ruling}
use Rattle.packet.specs.Ruling as Ruled
use Rattle.verdict.specs.Verdict.{number_of}
use Rattle.section.specs.Reading.{judged}
use Rattle.copy.specs.Laid.{over}
use Rattle.collector.specs.Rules.{Kind, accepted, rejected, filler, done, sameKind, Story, count_of, hand_of, holding, plain, story_after}
use Rattle.collector.specs.Judged.{by_judge, accepted_among, rejected_among, last_number}
use Rattle.collector.specs.Refusals.{before_of, cannot_stand, too_small, Last}
use Rattle.collector.specs.Answer.{Outcome, refused_with, repeated, taken}
use Rattle.collector.specs.Collected.{bytes_counted, record_with, unaltered, marked_by, collected}
use Rattle.collector.specs.declared.Record.{Record}
use Rattle.history.specs.Run.{Collector}

-- "one that refuses every packet"
abbrev pub RefusesEvery : ℕ → Collector
RefusesEvery n r hold out packet o = o ≡ unaltered r hold out (refused_with n)

-- ".. or calls it repeated"
abbrev pub CallsRepeated : Collector
CallsRepeated r hold out packet o = o ≡ unaltered r hold out repeated

-- "one that does nothing": each packet is said to be taken
abbrev pub DoesNothing : Collector
DoesNothing r hold out packet o = o ≡ unaltered r hold out (taken 0 0)

-- "one that works on the first packet and then pretends": it says that it takes what comes next, and leaves all as it
-- is
abbrev pub pretended : Last → Record → List ℕ → List ℕ → List ℕ → Outcome
pretended None r hold out packet = collected r hold out packet
pretended (Some c) r hold out packet = unaltered r hold out (taken 0 0)

abbrev pub Pretends : Collector
Pretends r hold out packet o = o ≡ pretended r.last r hold out packet

-- "one with invented counters": here one more byte of filler than there was
abbrev pub invented : Record → Record
invented r =
    record_with r.pid r.last r.mark r.rejection r.in_hand
    (λ k. if sameKind k filler then (bytes_counted (done k) r + 1) % 2 ^ 32 else bytes_counted (done k) r)

abbrev pub InventsCounters : Collector
InventsCounters r hold out packet o = o ≡ record {
  rec = invented (collected r hold out packet).rec;
  hold = (collected r hold out packet).hold;
  out = (collected r hold out packet).out;
  said = (collected r hold out packet).said;
}

-- one that says what it should and writes nothing into the out room
abbrev pub HandsOutOther : Collector
HandsOutOther r hold out packet o = o ≡ record {
  rec = (collected r hold out packet).rec;
  hold = (collected r hold out packet).hold;
  out = out;
  said = (collected r hold out packet).said;
}

-- one that takes no notice of a break: each packet is taken as if it followed the one before
abbrev pub followed : Record → List ℕ → Record
followed r packet =
    record_with r.pid (Some ((counter_of packet + 15) % 16)) r.mark r.rejection r.in_hand (λ k. bytes_counted (done k) r)

abbrev pub JoinsOverBreaks : Collector
JoinsOverBreaks r hold out packet o = o ≡ collected (followed r packet) hold out packet

-- one that overlooks discontinuity_indicator: each packet is taken as it would be without the bit
abbrev pub without_bit : List ℕ → List ℕ
without_bit packet = take 5 packet ++ (get_or packet 5 0 % 128 ∷ drop 6 packet)

abbrev pub OverlooksSplices : Collector
OverlooksSplices r hold out packet o = o ≡ collected r hold out (if discontinuity packet then without_bit packet else packet)

-- one that overlooks it in packets without payload
abbrev pub OverlooksBareSplices : Collector
OverlooksBareSplices r hold out packet o =
    o ≡ collected r hold out (if discontinuity packet && eqb (control packet) 2 then without_bit packet else packet)

-- ---- what comes whole: request (viii)

-- a collector by what a whole section comes to, which of the whole sections it hands out, and the number that it keeps after them
pub record Way : Type 0 where
  pub comes : List ℕ → Kind
  pub gives : List (List ℕ) → List (List ℕ)
  pub number : ℕ → List (List ℕ) → ℕ

abbrev pub after_by : Way → Record → List ℕ → List ℕ → ℕ → Story ℕ → Outcome
after_by way r hold out counter s = record {
  rec = record_with r.pid (Some counter) false (way.number r.rejection s.sections) (length (hand_of s))
      (λ k. (bytes_counted (done k) r + count_of (done k) s.marks) % 2 ^ 32);
  hold = over (hand_of s) hold;
  out = over (flatten (way.gives s.sections)) out;
  said = taken (length (way.gives s.sections)) (length (flatten (way.gives s.sections)));
}

abbrev pub outcome_by : Way → Record → List ℕ → List ℕ → Ruling → Outcome
outcome_by way r hold out (Ruled.refuses n) = unaltered r hold out (refused_with n)
outcome_by way r hold out Ruled.repeated = unaltered r hold out repeated
outcome_by way r hold out (Ruled.bare splice) = unaltered (marked_by splice r) hold out (taken 0 0)
outcome_by way r hold out (Ruled.takes q) =
    after_by way r hold out q.counter (story_after way.comes plain (before_of r).last (holding (take r.in_hand hold)) q)

abbrev pub collected_by : Way → Record → List ℕ → List ℕ → List ℕ → Outcome
collected_by way r hold out packet =
    outcome_by way r hold out (ruling (too_small (length hold) (length out)) (cannot_stand r hold) r.pid (before_of r) packet)

abbrev pub Goes : Way → Collector
Goes way r hold out packet o = o ≡ collected_by way r hold out packet

-- the right one
abbrev pub the_way : Way
the_way = record { comes = by_judge; gives = accepted_among; number = λ n secs. last_number n (rejected_among secs) }

-- one that accepts everything: it hands out and counts as accepted what the judge rejects too
abbrev pub accepts_all : Way
accepts_all = record { comes = λ s. accepted; gives = λ secs. secs; number = λ n secs. n }

abbrev pub AcceptsEverything : Collector
AcceptsEverything = Goes accepts_all

-- one that rejects everything
abbrev pub rejects_all : Way
rejects_all = record { comes = λ s. rejected; gives = λ secs. []; number = last_number }

abbrev pub RejectsEverything : Collector
RejectsEverything = Goes rejects_all

-- one that keeps the first number
abbrev pub first_number : ℕ → List (List ℕ) → ℕ
first_number n [] = n
first_number n (s ∷ secs) = if eqb n 0 then number_of (judged s) else n

abbrev pub keeps_first : Way
keeps_first = record { comes = by_judge; gives = accepted_among; number = λ n secs. first_number n (rejected_among secs) }

abbrev pub KeepsFirstNumber : Collector
KeepsFirstNumber = Goes keeps_first

-- one that hands out a rejected section, though it counts it as rejected and keeps its number
abbrev pub hands_all : Way
hands_all = record { comes = by_judge; gives = λ secs. secs; number = λ n secs. last_number n (rejected_among secs) }

abbrev pub HandsOutRejected : Collector
HandsOutRejected = Goes hands_all

-- ---- packets

-- document 01's worked packet, with a counter
abbrev pub worked : ℕ → List ℕ
worked counter =
    0x47 ∷ 0x40 ∷ 0x14 ∷ (0x10 + counter) ∷ 0x00 ∷ 0x70 ∷ 0x70 ∷ 0x05 ∷ 0xC0 ∷ 0x79 ∷ 0x12 ∷ 0x45 ∷ 0x00 ∷ replicate 175 0xFF

-- its section once more, in a packet whose payload is ten bytes, with a counter
abbrev pub short : ℕ → List ℕ
short counter =
    0x47 ∷ 0x40 ∷ 0x14 ∷ (0x30 + counter) ∷ 173 ∷ replicate 173 0
    ++ (0x00 ∷ 0x70 ∷ 0x70 ∷ 0x05 ∷ 0xC0 ∷ 0x79 ∷ 0x12 ∷ 0x45 ∷ 0x00 ∷ 0xFF ∷ [])

-- in its place two sections that the judge rejects: the first with 2, the second with 4
abbrev pub two_wrong : List ℕ
two_wrong =
    0x47 ∷ 0x40 ∷ 0x14 ∷ 0x30 ∷ 175 ∷ replicate 175 0
    ++ (0x00 ∷ 0x00 ∷ 0x00 ∷ 0x00 ∷ 0x70 ∷ 0x70 ∷ 0x00 ∷ 0xFF ∷ [])

-- one that it rejects with 3
abbrev pub one_wrong : List ℕ
one_wrong = 0x47 ∷ 0x40 ∷ 0x14 ∷ 0x30 ∷ 178 ∷ replicate 178 0 ++ (0x00 ∷ 0x70 ∷ 0xF0 ∷ 0x00 ∷ 0xFF ∷ [])

-- rooms as small as they may be
abbrev pub hold₀ : List ℕ
hold₀ = replicate 4096 0

abbrev pub out₀ : List ℕ
out₀ = replicate 4280 0

-- a TDT but its first byte
abbrev pub rest_of_it : List ℕ
rest_of_it = 0x60 ∷ 0x05 ∷ 0xC0 ∷ 0x79 ∷ 0x12 ∷ 0x45 ∷ 0x00 ∷ []

-- two packets with a break between them, of which the second goes on where the first stops
abbrev pub left_off : List ℕ
left_off = 0x47 ∷ 0x40 ∷ 0x14 ∷ 0x30 ∷ 181 ∷ replicate 181 0 ++ (0x00 ∷ 0x70 ∷ [])

abbrev pub gone_on : List ℕ
gone_on = 0x47 ∷ 0x00 ∷ 0x14 ∷ 0x32 ∷ 176 ∷ replicate 176 0 ++ rest_of_it

-- one that goes on without a break, the same with the bit, and a packet without payload with the bit
abbrev pub next_on : List ℕ
next_on = 0x47 ∷ 0x00 ∷ 0x14 ∷ 0x31 ∷ 176 ∷ replicate 176 0 ++ rest_of_it

abbrev pub spliced_on : List ℕ
spliced_on = 0x47 ∷ 0x00 ∷ 0x14 ∷ 0x31 ∷ 176 ∷ 0x80 ∷ replicate 175 0 ++ rest_of_it

abbrev pub bare_splice : List ℕ
bare_splice = 0x47 ∷ 0x00 ∷ 0x14 ∷ 0x20 ∷ 183 ∷ 0x80 ∷ replicate 182 0xFF
