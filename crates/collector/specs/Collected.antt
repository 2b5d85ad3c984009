-- What one call of the collector comes to, for every record, hold, out room and packet.
use Rattle.std.specs.Prelude.{ℕ, ◌+◌, ◌%◌, ◌^◌, Bool, false, List, length, take, None, Some}
use mathlib.Core.List.{flatten}
use Rattle.copy.specs.Laid.{over}
use Rattle.collector.specs.Rules.{Kind, pointer, accepted, rejected, broken, filler, skipped, Fate, in-hand, done, Story, count_of, hand_of, holding, plain, story_after}
use Rattle.collector.specs.Judged.{by_judge, delivered_of, rejected_of, last_number}
use Rattle.packet.specs.Ruling.{mark_with, Ruling, refuses, repeated, bare, takes, ruling}
use Rattle.collector.specs.Refusals.{before_of, cannot_stand, too_small, Last}
use Rattle.collector.specs.Answer as Answer
use Rattle.collector.specs.Answer.{Reply, Outcome}
use Rattle.collector.specs.declared.Record.{Record}

-- the bytes that a record counts of each fate
abbrev pub bytes_counted : Fate → Record → ℕ
bytes_counted in-hand r = r.in_hand
bytes_counted (done pointer) r = r.pointer
bytes_counted (done accepted) r = r.accepted
bytes_counted (done rejected) r = r.rejected
bytes_counted (done broken) r = r.broken
bytes_counted (done filler) r = r.filler
bytes_counted (done skipped) r = r.skipped

-- a record by its PID, its last counter or none, its mark, the last rejected section's number, the bytes in hand, and its counter of each kind
abbrev pub record_with : ℕ → Last → Bool → ℕ → ℕ → (Kind → ℕ) → Record
record_with pid last mark rejection held n = record {
  pid = pid;
  last = last;
  in_hand = held;
  pointer = n pointer;
  accepted = n accepted;
  rejected = n rejected;
  broken = n broken;
  filler = n filler;
  skipped = n skipped;
  mark = mark;
  rejection = rejection;
}

-- "A fresh one: no counter, nothing in hand, zeros.", no mark, and of a rejection's number "0 at first"
abbrev pub fresh_record : ℕ → Record
fresh_record pid = record_with pid None false 0 0 (λ k. 0)

-- "the record and all lent room unaltered"
abbrev pub unaltered : Record → List ℕ → List ℕ → Reply → Outcome
unaltered r hold out said = record { rec = r; hold = hold; out = out; said = said }

-- "Control 10: taken, no payload, nothing changes", as amended: an adaptation field with the bit set sets the mark, and nothing else changes
abbrev pub marked_by : Bool → Record → Record
marked_by splice r =
    record_with r.pid r.last (mark_with (before_of r) splice) r.rejection r.in_hand (λ k. bytes_counted (done k) r)

-- "the counter then becomes the last"; the mark is cleared; six "32-bit counters that run round past 4,294,967,295 to 0"; the number of the
-- last rejected section
abbrev pub record_after : Record → ℕ → Story ℕ → Record
record_after r counter s =
    record_with r.pid (Some counter) false (last_number r.rejection (rejected_of s)) (length (hand_of s))
    (λ k. (bytes_counted (done k) r + count_of (done k) s.marks) % 2 ^ 32)

-- "Out gets the finished sections end to end", as amended those that are accepted, "the answer their number and bytes. Hold begins with the bytes
-- in hand. Bytes of either beyond that stay."
abbrev pub outcome_after : Record → List ℕ → List ℕ → ℕ → Story ℕ → Outcome
outcome_after r hold out counter s = record {
  rec = record_after r counter s;
  hold = over (hand_of s) hold;
  out = over (flatten (delivered_of s)) out;
  said = Answer.taken (length (delivered_of s)) (length (flatten (delivered_of s)));
}

abbrev pub outcome_of : Record → List ℕ → List ℕ → Ruling → Outcome
outcome_of r hold out (refuses n) = unaltered r hold out (Answer.refused_with n)
outcome_of r hold out repeated = unaltered r hold out Answer.repeated
outcome_of r hold out (bare splice) = unaltered (marked_by splice r) hold out (Answer.taken 0 0)
outcome_of r hold out (takes q) =
    outcome_after r hold out q.counter (story_after by_judge plain (before_of r).last (holding (take r.in_hand hold)) q)

abbrev pub collected : Record → List ℕ → List ℕ → List ℕ → Outcome
collected r hold out packet = outcome_of r hold out (ruling (too_small (length hold) (length out)) (cannot_stand r hold) r.pid (before_of r) packet)
