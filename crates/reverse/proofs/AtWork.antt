-- The writer at work, computed.
use mathlib.Core.Path.{◌≡◌, refl, sym, ap, ◌∙◌}
use mathlib.Core.Bool.{true, false, false≢true}
use mathlib.Core.List.{List, flatten}
use Prim.Native.Nat.{ℕ, ◌%◌, ◌^◌, ◌<◌}
use native.Mathlib.Omega.{arith}
use lib.ListN.{length}
use lib.Dec.{ltb}
use borrow.Author.Tests.{lt-ltb, le-ltb}
use Rattle.wire.specs.Trail.{run, trail}
use Rattle.tables.specs.Tables.{cell, holds, first, row_of}
use Rattle.section.specs.Reading.{◌and_then◌, opening, wrong_syntax, length_outside, size_differs, crc_fails, above_last, header, plain, inside, read, judged}
use Rattle.collector.specs.Refusals.{cannot_stand}
use Rattle.collector.specs.Rules.{Kind, done}
use Rattle.collector.specs.Collected.{bytes_counted, fresh_record}
use Rattle.collector.specs.declared.Record.{Record}
use Rattle.std.specs.Prelude.{None, Some}
use Rattle.collector.proofs.Counters.{counts_with}
use Rattle.history.specs.WrongCollectors.{hold₀}
use Rattle.wire.proofs.TestLaws.{or_none}
use Rattle.writer.specs.Cut.{fit}
use Rattle.writer.specs.Layout.{turns_from}
use Rattle.reverse.specs.AtWork.{SizesAtWork, PacketsAtWork, CallsAtWork, unmarked, marked, numbered, RecordsReady, mixed, MixedJudged, MixedBack}
use Rattle.reverse.proofs.SentLaws.{goes_sendable}
use Rattle.reverse.proofs.FedBack.{fed_back_fresh}

pub sizes_at_work : SizesAtWork
unfolding turns_from trail run
sizes_at_work = record {
  none = refl;
  of-3 = refl;
  of-183 = refl;
  of-184 = refl;
  of-365 = refl;
  of-366 = refl;
  of-367 = refl;
  of-4096 = refl;
  several = refl;
  last_byte = refl;
  one_byte_left = refl;
  none_left = refl;
}

pub packets_at_work : PacketsAtWork
unfolding turns_from trail run flatten
packets_at_work = record { the_worked_packet = refl; headers = refl; pointer = refl }

pub calls_at_work : CallsAtWork
unfolding turns_from trail run fit flatten
calls_at_work = record {
  room_after = refl;
  written_one = refl;
  pid_above = refl;
  counter_above = refl;
  other_length = refl;
  room_one_short = refl;
  bytes_behind = refl;
  size_past = refl;
  size-0 = refl;
  size-2 = refl;
  begins_ff = refl;
  largest = refl;
  one_larger = refl;
  nothing = refl;
}

-- a record that counts n bytes of each kind
small : (r : Record) (n : ℕ) → n < 2 ^ 32 → ((k : Kind) → bytes_counted (done k) r ≡ n) → (k : Kind)
    → bytes_counted (done k) r < 2 ^ 32
small r n few is k = omega (arith, is k)

stand_by : (n : ℕ) → cannot_stand (numbered n) hold₀ ≡ ltb 10 n
unfolding cannot_stand
stand_by n = or_none (ltb 10 n)

pub records_ready : RecordsReady
unfolding cannot_stand
records_ready = record {
  fresh = λ counter. record {
    stands = refl;
    pid_is = refl;
    none_in_hand = refl;
    next = refl;
    counters = small (fresh_record 20) 0 (omega arith) (counts_with 20 None false 0 0 (λ k. 0));
  };
  with_counter = record {
    stands = refl;
    pid_is = refl;
    none_in_hand = refl;
    next = refl;
    counters = small unmarked 5 (omega arith) (counts_with 20 (Some 15) false 0 0 (λ k. 5));
  };
  with_mark_lem = record {
    stands = refl;
    pid_is = refl;
    none_in_hand = refl;
    next = refl;
    counters = small marked 4294967295 (omega arith) (counts_with 20 (Some 15) true 0 0 (λ k. 4294967295));
  };
  with_number = λ n few. record {
    stands = stand_by n ∙ le-ltb 10 n few;
    pid_is = refl;
    none_in_hand = refl;
    next = refl;
    counters = small (numbered n) 5 (omega arith) (counts_with 20 (Some 15) false n 0 (λ k. 5));
  };
  no_other_number = λ n many x. false≢true (sym x.stands ∙ stand_by n ∙ lt-ltb 10 n many);
}

-- ---- sections, and what the judge says of them

pub mixed_judged : MixedJudged
unfolding judged read opening ◌and_then◌ row_of first holds cell header wrong_syntax length_outside size_differs crc_fails
    above_last inside plain
mixed_judged = record {
  sendable = (
    goes_sendable _ refl,
    (goes_sendable _ refl, (goes_sendable _ refl, (goes_sendable _ refl, (goes_sendable _ refl, tt)))),
  );
  accepted_are = refl;
  rejected_are = refl;
  numbers_are = refl;
  last_is_lem = refl;
  each_accepted = (refl, (refl, tt));
}

pub mixed_back : MixedBack
unfolding flatten
mixed_back calls r' hold' rooms run e =
    let d = fed_back_fresh 20 0 mixed hold₀ calls r' hold' (omega arith) (omega arith) mixed_judged.sendable
    (omega arith) rooms run e in (
      d.handed_are ∙ mixed_judged.accepted_are,
      d.accepted_are ∙ ap (λ (l : List (List ℕ)). length (flatten l) % 2 ^ 32) mixed_judged.accepted_are,
      d.rejected_are ∙ ap (λ (l : List (List ℕ)). length (flatten l) % 2 ^ 32) mixed_judged.rejected_are,
      d.number_is ∙ mixed_judged.last_is_lem,
    )
