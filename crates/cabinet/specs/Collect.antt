-- The collector's record and answer in numbers.
use Rattle.std.specs.Prelude.{◌≡◌, Bool, true, false, not, ℕ, List, eqb, if◌then◌else◌, None, Some}
use Rattle.collector.specs.Rules.{Kind, pointer, accepted, rejected, broken, filler, skipped, done}
use Rattle.collector.specs.Answer.{Reply, refused_with, repeated, taken}
use Rattle.collector.specs.Answer as collector
use Rattle.collector.specs.Collected.{bytes_counted, record_with, collected}
use Rattle.collector.specs.Refusals.{Last}
use Rattle.collector.specs.declared.Record as of
use Rattle.cabinet.specs.declared.collect.Record.{Record}
use Rattle.cabinet.specs.declared.collect.CollectAnswer.{CollectAnswer}

-- "the last counter or none": 255 is none, and any other number is a counter, which 43 refuses above 15
abbrev pub last_in : ℕ → Last
last_in n = if eqb n 255 then None else Some n

-- and the number for each
abbrev pub last_says : Last → ℕ
last_says None = 255
last_says (Some n) = n

-- ---- the mark: any number but 0 is set

abbrev pub mark_in : ℕ → Bool
mark_in n = not (eqb n 0)

-- and the number for it, in the place of the number before, which is rewritten only where its meaning changes
abbrev pub mark_says : ℕ → Bool → ℕ
mark_says before true = if eqb before 0 then 1 else before
mark_says before false = 0

-- ---- the counters, each by the kind of the bytes that it counts

-- the bytes of a kind that the numbers count
abbrev pub counted_in : Kind → Record → ℕ
counted_in pointer r = r.pointer
counted_in accepted r = r.accepted
counted_in rejected r = r.rejected
counted_in broken r = r.broken
counted_in filler r = r.filler
counted_in skipped r = r.skipped

-- the numbers by the PID, the last counter or none, the mark, the last rejected section's number, the bytes in hand, and the counter of each kind
abbrev pub numbers_with : ℕ → ℕ → ℕ → ℕ → ℕ → (Kind → ℕ) → Record
numbers_with pid last mark rejection held n = record {
  pid = pid;
  last = last;
  mark = mark;
  rejection = rejection;
  in_hand = held;
  pointer = n pointer;
  accepted = n accepted;
  broken = n broken;
  filler = n filler;
  skipped = n skipped;
  rejected = n rejected;
}

-- a counter has the same name in the numbers and in the collector's record: told without the two definitions above, so that one that stands under
-- the name of another is seen
abbrev pub SameName : Record → of.Record → Kind → Type 0
SameName r x pointer = x.pointer ≡ r.pointer
SameName r x accepted = x.accepted ≡ r.accepted
SameName r x rejected = x.rejected ≡ r.rejected
SameName r x broken = x.broken ≡ r.broken
SameName r x filler = x.filler ≡ r.filler
SameName r x skipped = x.skipped ≡ r.skipped

-- ---- a record in numbers

-- the collector's record that the numbers stand for
abbrev pub record_in : Record → of.Record
record_in r = record_with r.pid (last_in r.last) (mark_in r.mark) r.rejection r.in_hand (λ k. counted_in k r)

-- the numbers for a record of the collector, in the place of the numbers before
abbrev pub record_after : Record → of.Record → Record
record_after before r =
    numbers_with r.pid (last_says r.last) (mark_says before.mark r.mark) r.rejection r.in_hand
    (λ k. bytes_counted (done k) r)

-- every byte 0
abbrev pub zeros : Record
zeros = numbers_with 0 0 0 0 0 (λ k. 0)

-- the numbers for a record of the collector where there were none before
abbrev pub record_says : of.Record → Record
record_says r = record_after zeros r

-- a refusal's number; "repeated"; or taken, with the number of accepted sections and of their bytes
abbrev pub collect_says : Reply → CollectAnswer
collect_says (refused_with k) = record { number = k; repeated = 0; sections = 0; size = 0 }
collect_says repeated = record { number = 0; repeated = 1; sections = 0; size = 0 }
collect_says (taken n b) = record { number = 0; repeated = 0; sections = n; size = b }

-- what a call leaves: the record, every byte of the hold and of the out room, and the answer
pub record Outcome : Type 0 where
  pub rec : Record
  pub hold : List ℕ
  pub out : List ℕ
  pub answer : CollectAnswer

-- the four put together
abbrev pub leaves : Record → List ℕ → List ℕ → CollectAnswer → Outcome
leaves r hold out answer = record { rec = r; hold = hold; out = out; answer = answer }

-- the collector's outcome in numbers, in the place of the numbers before
abbrev pub outcome_says : Record → collector.Outcome → Outcome
outcome_says before o = leaves (record_after before o.rec) o.hold o.out (collect_says o.said)

-- what `lohitunga_collect` makes of a record in numbers, a hold, an out room and a packet
unfoldable pub collecting : Record → List ℕ → List ℕ → List ℕ → Outcome
collecting r hold out packet = outcome_says r (collected (record_in r) hold out packet)
