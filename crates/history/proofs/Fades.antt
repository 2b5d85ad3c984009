-- Each pair of histories of `specs/Fades.antt`, computed.
use mathlib.Core.Path.{◌≡◌, refl, ap}
use mathlib.Core.Bool.{true}
use mathlib.Core.Logic.{inl, inr}
use mathlib.Core.List.{List, [], ◌∷◌, flatten}
use Prim.Native.Nat.{ℕ, ◌+◌, ◌%◌, ◌^◌}
use native.Mathlib.Omega.{arith}
use lib.ListN.{length, drop, get_or, replicate}
use Rattle.std.specs.Prelude.{if◌then◌else◌, None, Some}
use Rattle.packet.specs.Header.{start_flag, control}
use Rattle.packet.specs.Ruling.{joins, repeats}
use Rattle.collector.specs.Rules.{size_of}
use Rattle.packet.specs.Refusals.{judged}
use Rattle.tables.specs.Tables.{row_of, cell, first, holds}
use Rattle.section.specs.Reading.{◌and_then◌, plain, inside, opening, wrong_syntax, length_outside, size_differs, crc_fails, above_last, header, read}
use Rattle.section.specs.Reading.{judged as verdict}
use Rattle.collector.specs.Refusals.{cannot_stand, Last}
use Rattle.collector.specs.Rules.{accepted, by_kind, done}
use Rattle.collector.specs.Collected.{bytes_counted, collected}
use Rattle.history.specs.Healing.{Starts, rejected_since, State, IsTaken, IsRepeated}
use Rattle.history.specs.WrongCollectors.{keeps_first, collected_by}
use Rattle.history.specs.AtWork as story
use Rattle.history.specs.AtWork.{tdt, starts}
use Rattle.history.specs.Fades.{tale, common, behind_it, begins, with-2, fresh, halfway, marked, busy, byHand, PremisesMet, LossOfSixteen, Stronger, forgets_to_break, counter_stays, first_byte_stays, mark_survives, counters_stop, falls_silent, ShutOut}

pub premises_met : PremisesMet
unfolding judged size_of joins repeats cannot_stand flatten verdict read opening ◌and_then◌ row_of first holds cell header
    wrong_syntax length_outside size_differs crc_fails above_last inside plain
premises_met = record {
  starts-11 = record { payload = inr refl; flag = refl };
  from_fresh_lem = record { takes_it = refl; follow = refl; hands_now = refl; hands_later = refl };
  from_halfway = record { takes_it = refl; follow = refl; hands_now = refl; hands_later = refl };
  from_marked = record { takes_it = refl; follow = refl; hands_now = refl; hands_later = refl };
  from_busy = record { takes_it = refl; follow = refl; hands_now = refl; hands_later = refl };
  from_hand = record { takes_it = refl; follow = refl; hands_now = refl; hands_later = refl };
  since_now = refl;
  since_later = refl;
  since_rejected = refl;
  fares = refl;
  starts-01 = record { payload = inl refl; flag = refl };
  takes-01 = (refl, refl);
}

pub loss_of_sixteen : LossOfSixteen
unfolding judged size_of joins repeats cannot_stand flatten verdict read opening ◌and_then◌ row_of first holds cell header
    wrong_syntax length_outside size_differs crc_fails above_last inside plain
loss_of_sixteen = record {
  as_many = refl;
  sent = refl;
  lost_sixteen = refl;
  lost_fifteen = refl;
  lost_seventeen = refl;
  each_takes = (refl, refl);
}

-- ---- what of a list of states is looked at: of the first, the bytes in hand, the first of them, the counter, the mark

abbrev held_first : List State → ℕ
held_first [] = 0
held_first (s ∷ more) = s.in-hand

abbrev byte_first : List State → ℕ
byte_first [] = 0
byte_first (s ∷ more) = get_or s.bytes 0 0

abbrev last_is : Last → ℕ
last_is None = 16
last_is (Some c) = c

abbrev counter_first : List State → ℕ
counter_first [] = 16
counter_first (s ∷ more) = last_is s.last

abbrev mark_first : List State → ℕ
mark_first [] = 0
mark_first (s ∷ more) = if s.mark then 1 else 0

-- how many sections the later calls hand out
abbrev sections_in : List (List (List ℕ)) → ℕ
sections_in calls = length (flatten calls)

-- ---- stronger statements

with-11 : (packet : List ℕ) → control packet ≡ 3 → start_flag packet ≡ true → Starts packet
with-11 packet control flag = record { payload = inr control; flag = flag }

-- a packet that goes on, between two; one without payload that has the flag
abbrev going_on : List ℕ
going_on = story.goesOn 5 (0x70 ∷ 0x05 ∷ [])

abbrev bare_flag : List ℕ
bare_flag = 0x47 ∷ 0x40 ∷ 0x14 ∷ 0x25 ∷ 183 ∷ replicate 183 0

-- a past whose counter is that of the packet to come
abbrev only_filler : List (List ℕ)
only_filler = starts 5 (0 ∷ 0xFF ∷ []) ∷ []

pub stronger : Stronger
unfolding judged size_of joins repeats cannot_stand flatten verdict read opening ◌and_then◌ row_of first holds cell header
    wrong_syntax length_outside size_differs crc_fails above_last inside plain
stronger = record {
  counters_may_differ = λ k h.
      let a = tale collected {F = IsTaken} fresh [] common [] refl in
      let b = tale collected {F = IsTaken} fresh busy common [] refl in
      by_kind (λ j. bytes_counted (done j) a.left ≡ bytes_counted (done j) b.left → ⊥)
      (λ e. let z : ◌≡◌ {A = ℕ} 1 3 = e in omega arith)
      (λ e. let z : ◌≡◌ {A = ℕ} 8 16 = e in omega arith)
      (λ e. let z : ◌≡◌ {A = ℕ} 0 3 = e in omega arith)
      (λ e. let z : ◌≡◌ {A = ℕ} 0 1 = e in omega arith)
      (λ e. let z : ◌≡◌ {A = ℕ} 0 1 = e in omega arith)
      (λ e. let z : ◌≡◌ {A = ℕ} 7 10 = e in omega arith)
      k (h common (with-11 common refl refl) a b refl);
  -- none was rejected in the one
  number_may_differ = λ h.
      let a = tale collected {F = IsTaken} fresh [] common [] refl in
      let b = tale collected {F = IsTaken} fresh busy common [] refl in
      let z : ◌≡◌ {A = ℕ} 0 4 = h common (with-11 common refl refl) a b refl in
      omega arith;
  before_target_may_differ = λ h.
      let a = tale collected {F = IsTaken} fresh [] common [] refl in
      let b = tale collected {F = IsTaken} fresh halfway common [] refl in
      let z : ◌≡◌ {A = ℕ} 1 2 = ap length (h common (with-11 common refl refl) a b refl) in
      omega arith;
  -- without each premise one history has bytes in hand that the other has not, and hands out a section then
  needs_start_flag = (
    λ h.
        let a = tale collected {F = IsTaken} fresh [] going_on [] refl in
        let b = tale collected {F = IsTaken} fresh halfway going_on [] refl in
        let z : ◌≡◌ {A = ℕ} 0 3 = ap held_first (h going_on (inr refl) a b refl) in
        omega arith,
    λ h.
        let rest : List (List ℕ) = story.goesOn 6 (drop 3 tdt) ∷ [] in
        let a = tale collected {F = IsTaken} fresh [] going_on rest refl in
        let b = tale collected {F = IsTaken} fresh halfway going_on rest refl in
        let z : ◌≡◌ {A = ℕ} 0 1 = ap sections_in (h going_on (inr refl) a b refl).sections in
        omega arith,
  );
  needs_payload = (
    λ h.
        let a = tale collected {F = IsTaken} fresh [] bare_flag [] refl in
        let b = tale collected {F = IsTaken} fresh halfway bare_flag [] refl in
        let z : ◌≡◌ {A = ℕ} 0 1 = ap held_first (h bare_flag refl a b refl) in
        omega arith,
    λ h.
        let rest : List (List ℕ) = story.goesOn 5 (drop 1 tdt) ∷ [] in
        let a = tale collected {F = IsTaken} fresh [] bare_flag rest refl in
        let b = tale collected {F = IsTaken} fresh halfway bare_flag rest refl in
        let z : ◌≡◌ {A = ℕ} 0 1 = ap sections_in (h bare_flag refl a b refl).sections in
        omega arith,
  );
  needs_taken = (
    λ h.
        let a = tale collected {F = IsTaken} fresh [] (begins 5) [] refl in
        let b = tale collected {F = IsRepeated} fresh only_filler (begins 5) [] refl in
        let z : ◌≡◌ {A = ℕ} 1 0 = ap held_first (h (begins 5) (with-11 (begins 5) refl refl) a b refl) in
        omega arith,
    λ h.
        let rest : List (List ℕ) = story.goesOn 6 (drop 1 tdt) ∷ [] in
        let a = tale collected {F = IsTaken} fresh [] (begins 5) rest refl in
        let b = tale collected {F = IsRepeated} fresh only_filler (begins 5) rest refl in
        let z : ◌≡◌ {A = ℕ} 1 0 = ap sections_in (h (begins 5) (with-11 (begins 5) refl refl) a b refl).sections in
        omega arith,
  );
}

-- ---- wrong collectors

pub shut_out : ShutOut
unfolding judged size_of joins repeats cannot_stand flatten verdict read opening ◌and_then◌ row_of first holds cell header
    wrong_syntax length_outside size_differs crc_fails above_last inside plain
shut_out = record {
  -- a section unfinished at the target, and behind it nothing but filler
  forgets_to_break_lem = λ h.
      let packet : List ℕ = starts 5 (0 ∷ 0xFF ∷ []) in
      let a = tale forgets_to_break {F = IsTaken} fresh [] packet [] refl in
      let b = tale forgets_to_break {F = IsTaken} fresh halfway packet [] refl in
      let z : ◌≡◌ {A = ℕ} 0 1 = ap held_first (h packet (with-11 packet refl refl) a b refl) in
      omega arith;
  counter_stays_lem = λ h.
      let a = tale counter_stays {F = IsTaken} fresh [] common [] refl in
      let b = tale counter_stays {F = IsTaken} fresh marked common [] refl in
      let z : ◌≡◌ {A = ℕ} 5 9 = ap counter_first (h common (with-11 common refl refl) a b refl) in
      omega arith;
  -- the byte in hand before was another
  first_byte_stays_lem = λ h.
      let a = tale first_byte_stays {F = IsTaken} fresh [] common [] refl in
      let b = tale first_byte_stays {F = IsTaken} fresh (starts 4 (0 ∷ 0x40 ∷ []) ∷ []) common [] refl in
      let z : ◌≡◌ {A = ℕ} 0x70 0x40 = ap byte_first (h common (with-11 common refl refl) a b refl) in
      omega arith;
  mark_survives_lem = λ h.
      let a = tale mark_survives {F = IsTaken} fresh [] common [] refl in
      let b = tale mark_survives {F = IsTaken} fresh marked common [] refl in
      let z : ◌≡◌ {A = ℕ} 0 1 = ap mark_first (h common (with-11 common refl refl) a b refl) in
      omega arith;
  -- a section was rejected with 4 before, and one beyond the target is with 2
  remembers_rejection = λ h.
      let a = tale (collected_by keeps_first) {F = IsTaken} fresh [] (with-2 5) [] refl in
      let b = tale (collected_by keeps_first) {F = IsTaken} fresh busy (with-2 5) [] refl in
      let some : rejected_since (with-2 5) [] ≡ [] → ⊥ = λ e. let z : ◌≡◌ {A = ℕ} 1 0 = ap length e in omega arith in
      let z : ◌≡◌ {A = ℕ} 2 4 = (h (with-2 5) (with-11 (with-2 5) refl refl) a b refl).since_then some in
      omega arith;
  -- eight bytes more are accepted, or none
  counters_stop_lem = λ h.
      let a = tale counters_stop {F = IsTaken} fresh [] common [] refl in
      let b = tale counters_stop {F = IsTaken} byHand [] common [] refl in
      let x = h common (with-11 common refl refl) a b refl accepted in
      let y : ◌≡◌ {A = ℕ} 8 ((0 + x.more) % 2 ^ 32) = x.one in
      let z : ◌≡◌ {A = ℕ} 4294967295 ((4294967295 + x.more) % 2 ^ 32) = x.other in
      omega arith;
  falls_silent_lem = (
    λ h.
        let a = tale falls_silent {F = IsTaken} fresh [] common [] refl in
        let b = tale falls_silent {F = IsTaken} fresh busy common [] refl in
        let z : ◌≡◌ {A = ℕ} 0 1 = ap length (h common (with-11 common refl refl) a b refl).1.sections_are in
        omega arith,
    λ h.
        let a = tale falls_silent {F = IsTaken} fresh [] common behind_it refl in
        let b = tale falls_silent {F = IsTaken} fresh busy common behind_it refl in
        let z : ◌≡◌ {A = ℕ} 1 0 = ap sections_in (h common (with-11 common refl refl) a b refl).sections in
        omega arith,
  );
}
