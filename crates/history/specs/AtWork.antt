-- The collector at work: packets one after another, what is answered to each, and the record that they leave. That each
-- story goes so is computed.
use Rattle.std.specs.Prelude.{◌≡◌, Bool, true, false, ℕ, ◌+◌, ◌-◌, length, replicate, None, Some}
use mathlib.Core.List.{List, [], ◌∷◌, ◌++◌, map, flatten}
use Rattle.collector.specs.Answer.{Reply, refused_with, repeated, taken}
use Rattle.collector.specs.Collected.{fresh_record, unaltered, collected}
use Rattle.collector.specs.declared.Record.{Record}
use Rattle.collector.specs.Refusals.{Last}
use Rattle.history.specs.Run.{bytes_by}
use Rattle.history.specs.WrongCollectors.{worked, hold₀, out₀}

-- a packet, what is answered to it, and the bytes that it hands out
pub record Step : Type 0 where
  pub packet : List ℕ
  pub answer : Reply
  pub bytes : List ℕ

infix 70 ◌gives◌
abbrev pub ◌gives◌ : List ℕ → Reply → Step
packet gives answer = record { packet = packet; answer = answer; bytes = [] }

-- taken, with these sections
infix 70 ◌hands◌
abbrev pub ◌hands◌ : List ℕ → List (List ℕ) → Step
packet hands sections =
    record { packet = packet; answer = taken (length sections) (length (flatten sections)); bytes = flatten sections }

-- from a record, a hold and an out room, the same at each call, to a record
pub record Story : Type 0 where
  pub from : Record
  pub hold : List ℕ
  pub out : List ℕ
  pub steps : List Step
  pub left : Record

-- ---- what a story comes to

pub record Ending : Type 0 where
  pub answers : List Reply
  pub bytes : List (List ℕ)
  pub left : Record

-- the answers to the packets, the bytes handed out, and the record after them
abbrev pub answers_to : Record → List ℕ → List ℕ → List Step → List Reply
answers_to r hold out [] = []
answers_to r hold out (s ∷ ss) =
    (collected r hold out s.packet).said
    ∷ answers_to (collected r hold out s.packet).rec (collected r hold out s.packet).hold out ss

abbrev pub bytes_for : Record → List ℕ → List ℕ → List Step → List (List ℕ)
bytes_for r hold out [] = []
bytes_for r hold out (s ∷ ss) =
    bytes_by (collected r hold out s.packet).said (collected r hold out s.packet).out
    ∷ bytes_for (collected r hold out s.packet).rec (collected r hold out s.packet).hold out ss

abbrev pub leftBy : Record → List ℕ → List ℕ → List Step → Record
leftBy r hold out [] = r
leftBy r hold out (s ∷ ss) =
    leftBy (collected r hold out s.packet).rec (collected r hold out s.packet).hold out ss

abbrev pub ending_of : Story → Ending
ending_of s = record {
  answers = answers_to s.from s.hold s.out s.steps;
  bytes = bytes_for s.from s.hold s.out s.steps;
  left = leftBy s.from s.hold s.out s.steps;
}

abbrev pub told_of : Story → Ending
told_of s = record { answers = map (λ t. t.answer) s.steps; bytes = map (λ t. t.bytes) s.steps; left = s.left }

-- ---- records and packets of PID 20

-- a record by its mark, the number of the section rejected last, its PID, last counter, bytes in hand, and the bytes of
-- pointer, accepted, rejected, broken, filler and skipped: field by field, so that a counter that stands under the name of
-- another is seen
abbrev pub marked_of : Bool → ℕ → ℕ → Last → ℕ → ℕ → ℕ → ℕ → ℕ → ℕ → ℕ → Record
marked_of mark rejection pid last in-hand pointer accepted rejected broken filler skipped = record {
  pid = pid;
  last = last;
  in_hand = in-hand;
  pointer = pointer;
  accepted = accepted;
  rejected = rejected;
  broken = broken;
  filler = filler;
  skipped = skipped;
  mark = mark;
  rejection = rejection;
}

-- one without a mark
abbrev pub numbered_of : ℕ → ℕ → Last → ℕ → ℕ → ℕ → ℕ → ℕ → ℕ → ℕ → Record
numbered_of rejection pid last in-hand pointer accepted rejected broken filler skipped =
    marked_of false rejection pid last in-hand pointer accepted rejected broken filler skipped

-- and without a rejection
abbrev pub record_of : ℕ → Last → ℕ → ℕ → ℕ → ℕ → ℕ → ℕ → ℕ → Record
record_of pid last in-hand pointer accepted rejected broken filler skipped =
    numbered_of 0 pid last in-hand pointer accepted rejected broken filler skipped

-- with this payload behind an adaptation field that fills the rest, no bit of it set; with the start flag, and without it
abbrev pub packet_of : ℕ → ℕ → List ℕ → List ℕ
packet_of flags counter payload =
    0x47 ∷ flags ∷ 0x14 ∷ (0x30 + counter) ∷ (183 - length payload) ∷ replicate (183 - length payload) 0 ++ payload

abbrev pub starts : ℕ → List ℕ → List ℕ
starts counter payload = packet_of 0x40 counter payload

abbrev pub goesOn : ℕ → List ℕ → List ℕ
goesOn counter payload = packet_of 0x00 counter payload

-- without the start flag, with discontinuity_indicator
abbrev pub spliced : ℕ → List ℕ → List ℕ
spliced counter payload =
    0x47 ∷ 0x00 ∷ 0x14 ∷ (0x30 + counter) ∷ (183 - length payload) ∷ 0x80 ∷ replicate (182 - length payload) 0 ++ payload

-- document 01's section, a TDT
abbrev pub tdt : List ℕ
tdt = 0x70 ∷ 0x70 ∷ 0x05 ∷ 0xC0 ∷ 0x79 ∷ 0x12 ∷ 0x45 ∷ 0x00 ∷ []

-- one that ends in 0xFF
abbrev pub other_tdt : List ℕ
other_tdt = 0x70 ∷ 0x70 ∷ 0x05 ∷ 0xC0 ∷ 0x79 ∷ 0x12 ∷ 0x45 ∷ 0xFF ∷ []

-- whole sections that the judge rejects: with 2, "table_id not in the table"; with 3, "wrong syntax bit"; with 4,
-- "section_length outside its row"
abbrev pub rejected-2 : List ℕ
rejected-2 = 0x00 ∷ 0x00 ∷ 0x00 ∷ []

abbrev pub rejected-3 : List ℕ
rejected-3 = 0x70 ∷ 0xF0 ∷ 0x00 ∷ []

abbrev pub rejected-4 : List ℕ
rejected-4 = 0x70 ∷ 0x70 ∷ 0x00 ∷ []

-- a packet by its first bytes, the others 0xFF
abbrev pub filled : List ℕ → List ℕ
filled bytes = bytes ++ replicate (188 - length bytes) 0xFF

-- control 10, with these flags in the field's first byte
abbrev pub bare_with : ℕ → List ℕ
bare_with flags = filled (0x47 ∷ 0x00 ∷ 0x14 ∷ 0x29 ∷ 183 ∷ flags ∷ [])

abbrev pub from_fresh : ℕ → Record → List Step → Story
from_fresh pid left steps =
    record { from = fresh_record pid; hold = hold₀; out = out₀; steps = steps; left = left }

-- a record that a packet does not change
abbrev pub unchanged : Record → List ℕ → List ℕ → List Step → Story
unchanged r hold out steps = record { from = r; hold = hold; out = out; steps = steps; left = r }

-- ---- document 01's packet

abbrev pub the_worked_packet : Story
the_worked_packet = from_fresh 20 (record_of 20 (Some 0) 0 1 8 0 0 175 0) (worked 0 hands (tdt ∷ []) ∷ [])

-- ---- refusals

-- packets to which all of 44 to 49 apply, and one fewer each time
abbrev pub in_this_order : Story
in_this_order =
    from_fresh 20 (record_of 20 (Some 0) 0 0 0 0 0 0 184)
    (filled (0x46 ∷ 0xC0 ∷ 0x15 ∷ 0x40 ∷ []) gives refused_with 44
    ∷ filled (0x47 ∷ 0xC0 ∷ 0x15 ∷ 0x40 ∷ []) gives refused_with 45
    ∷ filled (0x47 ∷ 0x40 ∷ 0x15 ∷ 0x40 ∷ []) gives refused_with 46
    ∷ filled (0x47 ∷ 0x40 ∷ 0x14 ∷ 0x40 ∷ []) gives refused_with 47
    ∷ filled (0x47 ∷ 0x40 ∷ 0x14 ∷ 0x00 ∷ []) gives refused_with 48
    ∷ filled (0x47 ∷ 0x40 ∷ 0x14 ∷ 0x10 ∷ []) gives refused_with 49
    ∷ filled (0x47 ∷ 0x00 ∷ 0x14 ∷ 0x10 ∷ []) gives taken 0 0
    ∷ [])

-- 41, then 42, with a record that can't stand
abbrev pub a_small_hold : Story
a_small_hold =
    unchanged (fresh_record 8192) (replicate 4095 0) out₀
    ((0x46 ∷ []) gives refused_with 41
    ∷ filled (0x46 ∷ []) gives refused_with 42
    ∷ [])

abbrev pub a_small_out : Story
a_small_out = unchanged (fresh_record 20) hold₀ (replicate 4279 0) (worked 0 gives refused_with 42 ∷ [])

-- "record can't stand", with these bytes in hand at the start of its hold: 43 comes before 44
abbrev pub unfit : ℕ → Last → ℕ → List ℕ → Story
unfit pid last in-hand held =
    unchanged (record_of pid last in-hand 0 0 0 0 0 0) (held ++ hold₀) out₀ (filled (0x46 ∷ []) gives refused_with 43 ∷ [])

-- one that can stand
abbrev pub fit : ℕ → List ℕ → Story
fit in-hand held =
    unchanged (record_of 20 (Some 15) in-hand 0 0 0 0 0 0) (held ++ hold₀) out₀ (goesOn 15 (0 ∷ []) gives repeated ∷ [])

-- "another PID": all thirteen bits of it, and transport_priority is none of them
abbrev pub all_bits_of_the_pid : Story
all_bits_of_the_pid =
    from_fresh 8191 (record_of 8191 (Some 1) 0 2 0 0 0 366 0)
    (filled (0x47 ∷ 0x5F ∷ 0xFF ∷ 0x10 ∷ 0x00 ∷ []) gives taken 0 0
    ∷ filled (0x47 ∷ 0x7F ∷ 0xFF ∷ 0x11 ∷ 0x00 ∷ []) gives taken 0 0
    ∷ filled (0x47 ∷ 0x4F ∷ 0xFF ∷ 0x12 ∷ 0x00 ∷ []) gives refused_with 46
    ∷ filled (0x47 ∷ 0x5F ∷ 0x7F ∷ 0x12 ∷ 0x00 ∷ []) gives refused_with 46
    ∷ [])

-- transport_error_indicator without the start flag; scrambling control 01 and 10; "11 with length above 182; or 10 with
-- length other than 183"
abbrev pub each_control : Story
each_control =
    from_fresh 20 (record_of 20 (Some 0) 0 0 0 0 0 0 1)
    (filled (0x47 ∷ 0x80 ∷ 0x14 ∷ 0x10 ∷ []) gives refused_with 45
    ∷ filled (0x47 ∷ 0x00 ∷ 0x14 ∷ 0x50 ∷ []) gives refused_with 47
    ∷ filled (0x47 ∷ 0x00 ∷ 0x14 ∷ 0x90 ∷ []) gives refused_with 47
    ∷ filled (0x47 ∷ 0x00 ∷ 0x14 ∷ 0x30 ∷ 183 ∷ []) gives refused_with 48
    ∷ filled (0x47 ∷ 0x00 ∷ 0x14 ∷ 0x20 ∷ 182 ∷ []) gives refused_with 48
    ∷ filled (0x47 ∷ 0x00 ∷ 0x14 ∷ 0x20 ∷ 184 ∷ []) gives refused_with 48
    ∷ filled (0x47 ∷ 0x40 ∷ 0x14 ∷ 0x20 ∷ 183 ∷ []) gives taken 0 0
    ∷ filled (0x47 ∷ 0x00 ∷ 0x14 ∷ 0x30 ∷ 182 ∷ []) gives taken 0 0
    ∷ [])

-- "pointer above payload length minus 2 (a payload of 1: always)": at the limit, one above it, and a payload of 1
abbrev pub pointer_at_its_limit : Story
pointer_at_its_limit =
    from_fresh 20 (record_of 20 (Some 0) 0 1 0 0 0 1 2)
    (starts 0 (2 ∷ 1 ∷ 2 ∷ 0xFF ∷ []) gives taken 0 0
    ∷ starts 1 (3 ∷ 1 ∷ 2 ∷ 0xFF ∷ []) gives refused_with 49
    ∷ starts 1 (0 ∷ []) gives refused_with 49
    ∷ [])

-- ---- fates

-- "the last plus 1 modulo 16": 0 after 15 is no break, and the section goes on; "after its end, filler", whatever it is
abbrev pub zero_after_fifteen : Story
zero_after_fifteen =
    from_fresh 20 (record_of 20 (Some 0) 0 1 8 0 0 1 0)
    (starts 15 (0 ∷ 0x70 ∷ 0x70 ∷ 0x05 ∷ 0xC0 ∷ []) gives taken 0 0
    ∷ goesOn 0 (0x79 ∷ 0x12 ∷ 0x45 ∷ 0x00 ∷ 0x70 ∷ []) hands (tdt ∷ [])
    ∷ [])

-- 14 after 13 is no break, 0 after 14 is one: "what is in hand is broken off", and "Nothing in hand: skipped."
abbrev pub a_break : Story
a_break =
    from_fresh 20 (record_of 20 (Some 0) 0 1 0 0 3 0 2)
    (starts 13 (0 ∷ 0x70 ∷ 0x70 ∷ []) gives taken 0 0
    ∷ goesOn 14 (0x05 ∷ []) gives taken 0 0
    ∷ goesOn 0 (0xC0 ∷ 0x79 ∷ []) gives taken 0 0
    ∷ [])

-- "Control 10: taken, no payload, nothing changes. Else a counter equal to the last: "repeated", nothing changes.", where
-- no mark is set
abbrev pub nothing_changes : Story
nothing_changes =
    from_fresh 20 (record_of 20 (Some 5) 3 1 0 0 0 0 0)
    (starts 4 (0 ∷ 0x70 ∷ 0x70 ∷ []) gives taken 0 0
    ∷ filled (0x47 ∷ 0x00 ∷ 0x14 ∷ 0x29 ∷ 183 ∷ 0x7F ∷ []) gives taken 0 0
    ∷ filled (0x47 ∷ 0x00 ∷ 0x14 ∷ 0x24 ∷ 183 ∷ 0x00 ∷ []) gives taken 0 0
    ∷ goesOn 4 (0x05 ∷ []) gives repeated
    ∷ goesOn 5 (0x05 ∷ []) gives taken 0 0
    ∷ [])

-- "The next p bytes go as above; a section still unfinished after them is broken off. Then sections follow end to end
-- until 0xFF stands where one would begin (the rest is filler)"
abbrev pub the_pointer_followed : Story
the_pointer_followed =
    from_fresh 20 (record_of 20 (Some 1) 0 2 16 0 5 2 0)
    (starts 0 (0 ∷ 0x70 ∷ 0x70 ∷ 0x05 ∷ []) gives taken 0 0
    ∷ starts 1 (2 ∷ 0xC0 ∷ 0x79 ∷ tdt ++ (other_tdt ++ (0xFF ∷ 0x70 ∷ []))) hands (tdt ∷ other_tdt ∷ [])
    ∷ [])

-- the section in hand ends before the target: what is between is filler, and a new one stays in hand
abbrev pub ended_before_the_target : Story
ended_before_the_target =
    from_fresh 20 (record_of 20 (Some 1) 2 2 8 0 0 1 0)
    (starts 0 (0 ∷ 0x70 ∷ []) gives taken 0 0
    ∷ starts 1 (8 ∷ 0x70 ∷ 0x05 ∷ 0xC0 ∷ 0x79 ∷ 0x12 ∷ 0x45 ∷ 0x00 ∷ 0x00 ∷ 0x70 ∷ 0x70 ∷ []) hands (tdt ∷ [])
    ∷ [])

-- "A section_length above 4,093, known at its third byte: the section and the rest of its stretch (to the pointer's
-- target or payload end) are broken off."
abbrev pub section-length-4093 : Story
section-length-4093 =
    from_fresh 20 (record_of 20 (Some 0) 4 1 0 0 0 0 0)
    (starts 0 (0 ∷ 0x70 ∷ 0xFF ∷ 0xFD ∷ 0x01 ∷ []) gives taken 0 0 ∷ [])

abbrev pub section-length-4094 : Story
section-length-4094 =
    from_fresh 20 (record_of 20 (Some 1) 0 2 8 0 8 0 0)
    (starts 0 (0 ∷ 0x70 ∷ 0xFF ∷ []) gives taken 0 0
    ∷ starts 1 (2 ∷ 0xFE ∷ 0x01 ∷ tdt ++ (0x70 ∷ 0x7F ∷ 0xFE ∷ 0x01 ∷ [])) hands (tdt ∷ [])
    ∷ [])

-- six "32-bit counters that run round past 4,294,967,295 to 0"
abbrev pub counters_run_round : Story
counters_run_round = record {
  from = record_of 20 (Some 3) 2 4294967295 4294967288 4294967293 4294967294 4294967295 4294967294;
  hold = 0x70 ∷ 0x70 ∷ hold₀;
  out = out₀;
  steps =
      starts 5 (2 ∷ 0 ∷ 0 ∷ tdt ++ (rejected-4 ++ (0xFF ∷ []))) hands (tdt ∷ []) ∷ [];
  left = numbered_of 4 20 (Some 5) 0 0 0 0 0 0 0;
}

-- ---- the judge: request (viii)

-- "A rejected section's number is kept in the record, the last one only": of two in a packet that of the second, be it
-- the greater or the less
abbrev pub two_rejected : Story
two_rejected =
    from_fresh 20 (numbered_of 4 20 (Some 0) 0 1 0 6 0 1 0)
    (starts 0 (0 ∷ rejected-2 ++ (rejected-4 ++ (0xFF ∷ []))) gives taken 0 0 ∷ [])

abbrev pub two_rejected_turned : Story
two_rejected_turned =
    from_fresh 20 (numbered_of 3 20 (Some 0) 0 1 0 6 0 1 0)
    (starts 0 (0 ∷ rejected-4 ++ (rejected-3 ++ (0xFF ∷ []))) gives taken 0 0 ∷ [])

-- an acceptance leaves it, behind the rejected section and in the packet after
abbrev pub rejected_then_accepted : Story
rejected_then_accepted =
    from_fresh 20 (numbered_of 2 20 (Some 1) 0 2 24 3 0 2 0)
    (starts 0 (0 ∷ tdt ++ (rejected-2 ++ (other_tdt ++ (0xFF ∷ [])))) hands (tdt ∷ other_tdt ∷ [])
    ∷ starts 1 (0 ∷ tdt ++ (0xFF ∷ [])) hands (tdt ∷ [])
    ∷ [])

-- rejected before the pointer's target, accepted behind it
abbrev pub rejected_before_the_target : Story
rejected_before_the_target =
    from_fresh 20 (numbered_of 4 20 (Some 1) 0 2 8 3 0 1 0)
    (starts 0 (0 ∷ 0x70 ∷ 0x70 ∷ []) gives taken 0 0
    ∷ starts 1 (1 ∷ 0x00 ∷ tdt ++ (0xFF ∷ [])) hands (tdt ∷ [])
    ∷ [])

-- and the other way round
abbrev pub rejected_behind_the_target : Story
rejected_behind_the_target =
    from_fresh 20 (numbered_of 2 20 (Some 1) 0 2 8 3 0 1 0)
    (starts 0 (0 ∷ 0x70 ∷ 0x70 ∷ 0x05 ∷ 0xC0 ∷ []) gives taken 0 0
    ∷ starts 1 (4 ∷ 0x79 ∷ 0x12 ∷ 0x45 ∷ 0x00 ∷ rejected-2 ++ (0xFF ∷ [])) hands (tdt ∷ [])
    ∷ [])

-- the number stays where no section comes whole, with payload and without
abbrev pub the_number_stays : Story
the_number_stays = record {
  from = numbered_of 7 20 None 0 0 0 0 0 0 0;
  hold = hold₀;
  out = out₀;
  steps =
      starts 0 (0 ∷ 0x70 ∷ 0x70 ∷ []) gives taken 0 0
      ∷ filled (0x47 ∷ 0x00 ∷ 0x14 ∷ 0x29 ∷ 183 ∷ 0x00 ∷ []) gives taken 0 0
      ∷ [];
  left = numbered_of 7 20 (Some 0) 2 1 0 0 0 0 0;
}

-- "any number but 0 to 10 there is refused with 43", and 10 is not
abbrev pub unfit_number : ℕ → Story
unfit_number n =
    unchanged (numbered_of n 20 None 0 0 0 0 0 0 0) hold₀ out₀ (filled (0x46 ∷ []) gives refused_with 43 ∷ [])

abbrev pub fit_number : ℕ → Story
fit_number n =
    unchanged (numbered_of n 20 (Some 15) 0 0 0 0 0 0 0) hold₀ out₀ (goesOn 15 (0 ∷ []) gives repeated ∷ [])

-- "Bytes of either beyond that stay": a section of which a packet brings the end and which is rejected leaves every byte of
-- both rooms as it was
abbrev pub RejectedLeavesRooms : Type 0
RejectedLeavesRooms =
    let hold : List ℕ = 0x70 ∷ 0x70 ∷ replicate 4094 0xEE in
    let out : List ℕ = replicate 4280 0xEE in
    collected (record_of 20 (Some 0) 2 1 0 0 0 0 0) hold out (goesOn 1 (0x01 ∷ 0x55 ∷ 0xFF ∷ []))
    ≡ unaltered (numbered_of 4 20 (Some 1) 0 1 0 4 0 1 0) hold out (taken 0 0)

-- ---- splices: request (ix)

-- the two packets of a section
abbrev pub first_part : List ℕ
first_part = starts 0 (0 ∷ 0x70 ∷ 0x70 ∷ 0x05 ∷ 0xC0 ∷ [])

abbrev pub second_part : List ℕ
second_part = 0x79 ∷ 0x12 ∷ 0x45 ∷ 0x00 ∷ []

-- between them a packet without payload, with every flag but discontinuity_indicator: it is delivered
abbrev pub no_splice_between : Story
no_splice_between =
    from_fresh 20 (record_of 20 (Some 1) 0 1 8 0 0 0 0)
    (first_part gives taken 0 0
    ∷ bare_with 0x7F gives taken 0 0
    ∷ goesOn 1 second_part hands (tdt ∷ [])
    ∷ [])

-- with that bit: nothing is delivered, and the first bytes are broken off
abbrev pub a_splice_between : Story
a_splice_between =
    from_fresh 20 (record_of 20 (Some 1) 0 1 0 0 4 0 4)
    (first_part gives taken 0 0
    ∷ bare_with 0x80 gives taken 0 0
    ∷ goesOn 1 second_part gives taken 0 0
    ∷ [])

-- "sometimes the counter matches": the second packet again is repeated, and with the bit it is taken, each time it comes
abbrev pub an_equal_counter : Story
an_equal_counter =
    from_fresh 20 (record_of 20 (Some 1) 0 1 8 0 0 0 8)
    (first_part gives taken 0 0
    ∷ goesOn 1 second_part hands (tdt ∷ [])
    ∷ goesOn 1 second_part gives repeated
    ∷ spliced 1 second_part gives taken 0 0
    ∷ spliced 1 second_part gives taken 0 0
    ∷ goesOn 1 second_part gives repeated
    ∷ [])

-- "the marked one itself if it has any .. breaks off what is in hand", though its counter follows; behind it the mark is clear
abbrev pub its_own_bit : Story
its_own_bit =
    from_fresh 20 (record_of 20 (Some 3) 0 2 8 0 4 0 4)
    (first_part gives taken 0 0
    ∷ spliced 1 second_part gives taken 0 0
    ∷ starts 2 (0 ∷ 0x70 ∷ 0x70 ∷ 0x05 ∷ 0xC0 ∷ []) gives taken 0 0
    ∷ goesOn 3 second_part hands (tdt ∷ [])
    ∷ [])

-- the mark stands until a packet with payload is taken: over a refused packet, and over one without payload and without
-- the bit; with no counter, and with bytes in hand
abbrev pub the_mark_stands : Story
the_mark_stands =
    from_fresh 20 (marked_of true 0 20 (Some 5) 4 1 0 0 0 0 0)
    (bare_with 0x80 gives taken 0 0
    ∷ starts 5 (0 ∷ 0x70 ∷ 0x70 ∷ 0x05 ∷ 0xC0 ∷ []) gives taken 0 0
    ∷ bare_with 0xC0 gives taken 0 0
    ∷ filled (0x46 ∷ []) gives refused_with 44
    ∷ bare_with 0x00 gives taken 0 0
    ∷ [])

-- a refused packet sets nothing, though it has the bit
abbrev pub refused_sets_nothing : Story
refused_sets_nothing =
    from_fresh 20 (record_of 20 None 0 0 0 0 0 0 0)
    (filled (0x47 ∷ 0x00 ∷ 0x14 ∷ 0xA0 ∷ 183 ∷ 0x80 ∷ []) gives refused_with 47
    ∷ filled (0x47 ∷ 0x00 ∷ 0x14 ∷ 0x20 ∷ 182 ∷ 0x80 ∷ []) gives refused_with 48
    ∷ filled (0x47 ∷ 0x40 ∷ 0x14 ∷ 0x30 ∷ 182 ∷ 0x80 ∷ []) gives refused_with 49
    ∷ [])

-- "An adaptation field of at least one byte": none, an empty one, one of one byte without the bit, and with it
abbrev pub at_least_one_byte : Story
at_least_one_byte = record {
  from = record_of 20 (Some 1) 0 0 0 0 0 0 0;
  hold = hold₀;
  out = out₀;
  steps =
      filled (0x47 ∷ 0x00 ∷ 0x14 ∷ 0x11 ∷ []) gives repeated
      ∷ filled (0x47 ∷ 0x00 ∷ 0x14 ∷ 0x31 ∷ 0 ∷ []) gives repeated
      ∷ filled (0x47 ∷ 0x00 ∷ 0x14 ∷ 0x31 ∷ 1 ∷ 0x7F ∷ []) gives repeated
      ∷ filled (0x47 ∷ 0x00 ∷ 0x14 ∷ 0x31 ∷ 1 ∷ 0x80 ∷ []) gives taken 0 0
      ∷ [];
  left = record_of 20 (Some 1) 0 0 0 0 0 0 182;
}

abbrev pub stories : List Story
stories =
    the_worked_packet
    ∷ in_this_order
    ∷ a_small_hold
    ∷ a_small_out
    ∷ unfit 8192 (Some 0) 0 []
    ∷ unfit 20 (Some 16) 0 []
    ∷ unfit 20 (Some 0) 4096 (0x70 ∷ 0x7F ∷ 0xFF ∷ [])
    ∷ unfit 20 None 1 (0x70 ∷ [])
    ∷ unfit 20 (Some 0) 1 (0xFF ∷ [])
    ∷ unfit 20 (Some 0) 3 (0x70 ∷ 0x70 ∷ 0x00 ∷ [])
    ∷ unfit 20 (Some 0) 3 (0x70 ∷ 0x7F ∷ 0xFE ∷ [])
    ∷ fit 0 (0xFF ∷ [])
    ∷ fit 1 (0x70 ∷ [])
    ∷ fit 2 (0x70 ∷ 0xFF ∷ 0xFF ∷ [])
    ∷ fit 3 (0x70 ∷ 0x70 ∷ 0x01 ∷ [])
    ∷ fit 4095 (0x70 ∷ 0x7F ∷ 0xFD ∷ [])
    ∷ all_bits_of_the_pid
    ∷ each_control
    ∷ pointer_at_its_limit
    ∷ zero_after_fifteen
    ∷ a_break
    ∷ nothing_changes
    ∷ the_pointer_followed
    ∷ ended_before_the_target
    ∷ section-length-4093
    ∷ section-length-4094
    ∷ counters_run_round
    ∷ two_rejected
    ∷ two_rejected_turned
    ∷ rejected_then_accepted
    ∷ rejected_before_the_target
    ∷ rejected_behind_the_target
    ∷ the_number_stays
    ∷ unfit_number 11
    ∷ unfit_number 255
    ∷ fit_number 10
    ∷ no_splice_between
    ∷ a_splice_between
    ∷ an_equal_counter
    ∷ its_own_bit
    ∷ the_mark_stands
    ∷ refused_sets_nothing
    ∷ at_least_one_byte
    ∷ []

abbrev pub AtWork : Type 0
AtWork = map ending_of stories ≡ map told_of stories
