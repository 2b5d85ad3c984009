-- What the functions of taking.rt say of their arguments and answers.
use Rattle.std.specs.Prelude.{ℕ, ◌+◌, ◌%◌, ◌^◌, Bool, true, false, if◌then◌else◌, Some}
use Rattle.collector.specs.Rules.{Kind, pointer, accepted, rejected, done, sameKind, filling, skipping, breaking, kind_of}
use Rattle.collector.specs.Collected.{bytes_counted, record_with}
use Rattle.collector.specs.declared.Record.{Record}
use Rattle.collector.specs.declared.stretch.Gain.{Gain}

-- what is left of n bytes in hand, which go on in the packet or are broken off
abbrev pub kept_of : Bool → ℕ → ℕ
kept_of true n = n
kept_of false n = 0

abbrev pub point_count : Bool → ℕ
point_count true = 1
point_count false = 0

-- the bytes of each kind that a packet adds; of those broken off some were in hand before it
abbrev pub added_by : Gain → ℕ → Bool → Kind → ℕ
added_by e lost start k =
    if sameKind k pointer then point_count start else
    (if sameKind k accepted then e.bytes else
    (if sameKind k rejected then e.rejected else
    (if sameKind k (kind_of breaking) then lost + e.breaking else
    (if sameKind k (kind_of filling) then e.filling else
    (if sameKind k (kind_of skipping) then e.skipping else 0)))))

abbrev pub counted_of : Record → ℕ → Gain → ℕ → Bool → Record
counted_of r counter e lost start =
    record_with r.pid (Some counter) false e.rejection e.in_hand
    (λ k. (bytes_counted (done k) r + added_by e lost start k) % 2 ^ 32)
