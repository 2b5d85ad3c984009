-- Demand 3, sentence by sentence, as statements about any collector.
use Rattle.std.specs.Prelude.{◌≡◌, false, ◌↔◌, ℕ, ◌%◌, ◌^◌, ◌≤◌, length, take, ltb}
use mathlib.Core.List.{List, [], ◌∷◌, map, flatten}
use Rattle.wire.specs.Each.{Each}
use Rattle.packet.specs.Ruling.{Before, noneBefore, Carried}
use Rattle.collector.specs.Refusals.{too_small}
use Rattle.collector.specs.Rules.{Kind, accepted, rejected, in-hand, done, sum_of, Mark, Story, bytes_of, count_of, hand_of, sections_of}
use Rattle.collector.specs.Judged.{by_judge, last_number}
use Rattle.packet.specs.Refusals.{refusals}
use Rattle.collector.specs.Answer.{refused_with}
use Rattle.collector.specs.Collected.{bytes_counted, fresh_record}
use Rattle.collector.specs.declared.Record.{Record}
use Rattle.history.specs.History.{Byte, value_of, history_of, payloads_from, Unbroken, Unmarked, Among}
use Rattle.history.specs.Run.{Collector, Call, Run, taken, fare_of, said_taken, splices_from, lent_of, ruling_on, before_after, fares_from, ruled_taken, NotRefused, NotRepeated, handed_by, handed, bytes_by, told_by}
use Rattle.history.specs.Demand1.{First}

-- "A packet is taken exactly if it is neither refused nor, by document 01's rule, repeated." Each call is held against
-- the packets before it.
abbrev pub TakenCallByCall : ℕ → ℕ → Before → List Call → Type 0
TakenCallByCall pid size before [] = Unit {0}
TakenCallByCall pid size before (k ∷ ks) =
    ((fare_of k.said ≡ taken) ↔ (NotRefused pid size (lent_of k) × NotRepeated before k.packet))
    × TakenCallByCall pid size (before_after before (ruling_on pid size before (lent_of k))) ks

-- demand 1 of the packets of a run, whose record can stand exactly if its PID is one
abbrev pub RefusedIf : ℕ → ℕ → Call → Type 0
RefusedIf pid size k = (n : ℕ)
    → (k.said ≡ refused_with n) ↔ First n (refusals (too_small size (length k.out)) (ltb 8191 pid) pid k.packet)

-- the packets taken that have payload, by the packets alone, and their bytes' fates
abbrev pub taken_by_rule : ℕ → List ℕ → List Call → List (Carried ℕ)
taken_by_rule pid hold calls = ruled_taken pid (length hold) noneBefore (map lent_of calls)

abbrev pub story_by : ℕ → List ℕ → List Call → Story Byte
story_by pid hold calls = (history_of by_judge (taken_by_rule pid hold calls)).story

-- "Modulo 2^32 the six counters equal the bytes of each fate"; the bytes in hand are those whose fate this is, at the
-- start of the hold
pub record Counted (r : Record) (hold : List ℕ) (s : Story Byte) : Type 0 where
  pub counters_are : (k : Kind) → bytes_counted (done k) r ≡ count_of (done k) s.marks % 2 ^ 32
  pub in_hand_is : r.in_hand ≡ count_of in-hand s.marks
  pub hold_is : take r.in_hand hold ≡ map value_of (hand_of s)

-- "every payload byte of the packets taken so far has one fate": there is one mark for each, the accepted ones are the
-- bytes handed out, and those in hand stand in the hold
pub record Fated (calls : List Call) (r : Record) (hold : List ℕ) (marks : List (Mark Byte)) : Type 0 where
  pub one_each : map (λ m. m.byte) marks ≡ payloads_from 0 (said_taken false calls)
  pub handed_are : flatten (handed calls) ≡ map value_of (bytes_of (done accepted) marks)
  pub held_are : take r.in_hand hold ≡ map value_of (bytes_of in-hand marks)

-- the sections delivered, which the judge accepts, and those that it rejects
abbrev pub delivered_in : Story Byte → List (List Byte)
delivered_in s = sections_of by_judge value_of accepted s.sections

abbrev pub rejected_in : Story Byte → List (List Byte)
rejected_in s = sections_of by_judge value_of rejected s.sections

-- the number of the last section rejected, 0 where none was
abbrev pub number_in : Story Byte → ℕ
number_in s = last_number 0 (map (map value_of) (rejected_in s))

-- "Delivered bytes come out once, in order", and "delivered bytes are the accepted ones": what the calls hand out, cut at
-- the sections' own headers, are the delivered sections, and the bytes that each answer speaks of are those of its
-- sections, as many as it says
pub record HandedOut (calls : List Call) (s : Story Byte) : Type 0 where
  pub sections_are : handed calls ≡ map (map value_of) (delivered_in s)
  pub bytes_are : Each (λ k. flatten (handed_by k.said k.out') ≡ bytes_by k.said k.out') calls
  pub told_are : Each (λ k. length (flatten (handed_by k.said k.out')) ≡ told_by k.said) calls
  pub delivered_are : bytes_of (done accepted) s.marks ≡ flatten (delivered_in s)
  pub rejected_are : bytes_of (done rejected) s.marks ≡ flatten (rejected_in s)

-- "no delivered section spans a break .. or a mark": sections that are made of payload bytes of these packets, each byte
-- once and in order, and no two bytes of one section have a break or a splice between them
pub record MadeUnbroken (qs : List (Carried ℕ)) (splices : List ℕ) (sections : List (List ℕ)) : Type 0 where
  pub made_of : List (List Byte)
  pub values_are : map (map value_of) made_of ≡ sections
  pub once_in_order : Among (flatten made_of) (payloads_from 0 qs)
  pub unbroken : Each (Unbroken qs) made_of
  pub unmarked : Each (Unmarked splices) made_of

module _ (C : Collector) where
  -- "Start a fresh collector, feed it any packets, hand record and hold on untouched. .. After each packet, ..": of
  -- each run from a fresh record, which may stop after any packet, by its PID, its hold at the start, its calls, and
  -- its record and hold at the end
  abbrev pub OverRuns : (ℕ → List ℕ → List Call → Record → List ℕ → Type 0) → Type 0
  OverRuns P = (pid : ℕ) (hold : List ℕ) (calls : List Call) (r : Record) (hold' : List ℕ)
      → Run C (fresh_record pid) hold calls r hold' → P pid hold calls r hold'

  -- demand 1's "gets the first of them", of the packets of a run
  abbrev pub RefusedExactlyIf : Type 0
  RefusedExactlyIf = OverRuns (λ pid hold calls r hold'. Each (RefusedIf pid (length hold)) calls)

  abbrev pub TakenExactlyIf : Type 0
  TakenExactlyIf = OverRuns (λ pid hold calls r hold'. TakenCallByCall pid (length hold) noneBefore calls)

  -- which packets are taken, which are repeated, and which are refused with which number, depends on the packets and
  -- the rooms' sizes alone
  abbrev pub ByPacketsAlone : Type 0
  ByPacketsAlone = OverRuns (λ pid hold calls r hold'.
      map (λ k. fare_of k.said) calls ≡ fares_from pid (length hold) noneBefore (map lent_of calls))

  -- a run never leaves a record that can't stand
  abbrev pub NeverUnfit : Type 0
  NeverUnfit = OverRuns (λ pid hold calls r hold'. pid ≤ 8191 → Each (λ k. k.said ≡ refused_with 43 → ⊥) calls)

  -- "one fate, fixed by document 01's rules from those packets alone"
  abbrev pub OneFateEach : Type 0
  OneFateEach = OverRuns (λ pid hold calls r hold'. Fated calls r hold' (story_by pid hold calls).marks)

  abbrev pub CountersAreFates : Type 0
  CountersAreFates = OverRuns (λ pid hold calls r hold'. Counted r hold' (story_by pid hold calls))

  -- "and with those in hand they make up the payload taken"
  abbrev pub CountersMakeUp : Type 0
  CountersMakeUp = OverRuns (λ pid hold calls r hold'.
      sum_of (λ f. bytes_counted f r) % 2 ^ 32 ≡ length (payloads_from 0 (said_taken false calls)) % 2 ^ 32)

  abbrev pub DeliveredInOrder : Type 0
  DeliveredInOrder = OverRuns (λ pid hold calls r hold'. HandedOut calls (story_by pid hold calls))

  -- "no delivered section spans a break in the continuity counter from one taken packet with payload to the next, or a
  -- mark"
  abbrev pub NoSectionSpans : Type 0
  NoSectionSpans = OverRuns (λ pid hold calls r hold'. MadeUnbroken (said_taken false calls) (splices_from 0 calls) (handed calls))

  -- nor does one that is rejected
  abbrev pub RejectedSpanNothing : Type 0
  RejectedSpanNothing = OverRuns (λ pid hold calls r hold'.
      MadeUnbroken (said_taken false calls) (splices_from 0 calls) (map (map value_of) (rejected_in (story_by pid hold calls))))

  -- "A rejected section's number is kept in the record, the last one only, 0 at first"
  abbrev pub KeptNumber : Type 0
  KeptNumber = OverRuns (λ pid hold calls r hold'. r.rejection ≡ number_in (story_by pid hold calls))
