-- Each wrong collector is shut out by one of demand 3's statements or of request (viii)'s, on the worked packet, its
-- section, sections that the judge rejects, or two packets with a break or a splice between them.
use mathlib.Core.Path.{◌≡◌, refl, sym, ap, ◌∙◌}
use mathlib.Core.Bool.{false}
use mathlib.Core.Logic.{inr}
use mathlib.Core.List.{List, [], ◌∷◌, map, flatten}
use Prim.Native.Nat.{ℕ}
use native.Mathlib.Omega.{arith}
use lib.ListN.{length}
use Rattle.wire.specs.Each.{Each}
use Rattle.wire.proofs.IfLaws.{true_not_false}
use Rattle.packet.specs.Ruling.{noneBefore, joins, repeats, Ruling}
use Rattle.packet.specs.Ruling as Ruled
use Rattle.collector.specs.Rules.{filler, size_of}
use Rattle.packet.specs.Refusals.{judged}
use Rattle.tables.specs.Tables.{row_of, cell, first, holds}
use Rattle.verdict.specs.Verdict.{refused, is_accepted}
use Rattle.section.specs.Reading.{◌and_then◌, plain, inside, opening, wrong_syntax, length_outside, size_differs, crc_fails, above_last, header, read}
use Rattle.section.specs.Reading.{judged as verdict}
use Rattle.section.proofs.Exactly.{accepted_exactly_if}
use Rattle.collector.specs.Refusals.{cannot_stand}
use Rattle.collector.specs.Answer.{Outcome, refused_with, repeated, taken}
use Rattle.collector.specs.Collected.{fresh_record, outcome_of, collected}
use Rattle.collector.specs.declared.Record.{Record}
use Rattle.history.specs.History.{Byte, value_of, numbered, Unbroken, Unmarked, Among, none_left, left_out, had}
use Rattle.history.specs.Run.{Call, no_call, one_call, Fare, said_taken, splices_from, NotRefused, NotRepeated, handed}
use Rattle.history.specs.Run as R
use Rattle.history.specs.Demand3.{MadeUnbroken, TakenExactlyIf, OneFateEach, CountersAreFates, DeliveredInOrder, NoSectionSpans, KeptNumber}
use Rattle.history.specs.WrongCollectors.{RefusesEvery, CallsRepeated, DoesNothing, Pretends, InventsCounters, invented, HandsOutOther, followed, JoinsOverBreaks, without_bit, OverlooksSplices, OverlooksBareSplices, worked, short, two_wrong, one_wrong, rest_of_it, left_off, gone_on, next_on, spliced_on, bare_splice, outcome_by, collected_by, the_way, accepts_all, rejects_all, keeps_first, hands_all, AcceptsEverything, RejectsEverything, KeepsFirstNumber, HandsOutRejected, hold₀, out₀}
use Rattle.history.specs.Judging.{Legal, OnlyAccepted}

-- a call with a packet, as an outcome tells it
abbrev call_of : List ℕ → Outcome → Call
call_of packet o = record { packet = packet; out = out₀; out' = o.out; said = o.said }

-- the worked packet is neither refused nor repeated
not_refused : NotRefused 20 4096 (record { packet = worked 0; room = 4280 })
not_refused = (refl, (refl, (refl, (refl, (refl, (refl, (refl, (refl, (refl, tt)))))))))

not_repeated : NotRepeated noneBefore (worked 0)
not_repeated = inr (inr refl)

abbrev fare_number : Fare → ℕ
fare_number (R.refused_by n) = 0
fare_number R.repeated = 1
fare_number R.taken = 2

pub refuses_every_shut_out : (n : ℕ) → TakenExactlyIf (RefusesEvery n) → ⊥
refuses_every_shut_out n h =
    let o : Outcome = record { rec = fresh_record 20; hold = hold₀; out = out₀; said = refused_with n } in
    let x = h 20 hold₀ (call_of (worked 0) o ∷ []) (fresh_record 20) hold₀ (one_call refl no_call) in
    let z : ◌≡◌ {A = ℕ} 0 2 = ap fare_number (x.0.1 (not_refused, not_repeated)) in
    omega arith

pub calls_repeated_shut_out : TakenExactlyIf CallsRepeated → ⊥
calls_repeated_shut_out h =
    let o : Outcome = record { rec = fresh_record 20; hold = hold₀; out = out₀; said = repeated } in
    let x = h 20 hold₀ (call_of (worked 0) o ∷ []) (fresh_record 20) hold₀ (one_call refl no_call) in
    let z : ◌≡◌ {A = ℕ} 1 2 = ap fare_number (x.0.1 (not_refused, not_repeated)) in
    omega arith

-- one section was delivered
pub does_nothing_shut_out : DeliveredInOrder DoesNothing → ⊥
unfolding judged size_of joins repeats verdict read opening ◌and_then◌ row_of first holds cell header
    wrong_syntax length_outside size_differs crc_fails above_last inside plain
does_nothing_shut_out h =
    let o : Outcome = record { rec = fresh_record 20; hold = hold₀; out = out₀; said = taken 0 0 } in
    let x = h 20 hold₀ (call_of (worked 0) o ∷ []) (fresh_record 20) hold₀ (one_call refl no_call) in
    let z : ◌≡◌ {A = ℕ} 0 1 = ap length x.sections_are in
    omega arith

-- two sections were delivered
pub pretends_shut_out : DeliveredInOrder Pretends → ⊥
unfolding judged size_of joins repeats cannot_stand verdict read opening ◌and_then◌ row_of first holds cell header
    wrong_syntax length_outside size_differs crc_fails above_last inside plain
pretends_shut_out h =
    let o : Outcome = collected (fresh_record 20) hold₀ out₀ (short 0) in
    let o₂ : Outcome = record { rec = o.rec; hold = o.hold; out = out₀; said = taken 0 0 } in
    let x = h 20 hold₀ (call_of (short 0) o ∷ call_of (short 1) o₂ ∷ []) o.rec o.hold
    (one_call refl (one_call refl no_call)) in
    let z : ◌≡◌ {A = ℕ} 1 2 = ap length x.sections_are in
    omega arith

-- 175 bytes were filler
pub invents_counters_shut_out : CountersAreFates InventsCounters → ⊥
unfolding judged size_of joins repeats cannot_stand verdict read opening ◌and_then◌ row_of first holds cell header
    wrong_syntax length_outside size_differs crc_fails above_last inside plain
invents_counters_shut_out h =
    let o : Outcome = collected (fresh_record 20) hold₀ out₀ (worked 0) in
    let x = h 20 hold₀ (call_of (worked 0) o ∷ []) (invented o.rec) o.hold (one_call refl no_call) in
    let z : ◌≡◌ {A = ℕ} 176 175 = x.counters_are filler in
    omega arith

-- eight bytes were delivered, and what stands in the out room is cut as a section of three
pub hands_out_other_shut_out : OneFateEach HandsOutOther → ⊥
unfolding judged size_of joins repeats cannot_stand flatten verdict read opening ◌and_then◌ row_of first holds cell header
    wrong_syntax length_outside size_differs crc_fails above_last inside plain
hands_out_other_shut_out h =
    let o : Outcome = collected (fresh_record 20) hold₀ out₀ (worked 0) in
    let k : Call = record { packet = worked 0; out = out₀; out' = out₀; said = o.said } in
    let x = h 20 hold₀ (k ∷ []) o.rec o.hold (one_call refl no_call) in
    let z : ◌≡◌ {A = ℕ} 3 8 = ap length x.handed_are in
    omega arith

-- ---- a section that spans a break

among_each : {A : Type 0} (P : A → Type 0) {part whole : List A} → Among part whole → Each P whole → Each P part
among_each P none_left x = tt
among_each P (left_out a) x = among_each P a x.1
among_each P (had a) x = (x.0, among_each P a x.1)

-- the first byte of the section is the only 0x70, in the first packet, and the second the only 0x60, in the second
abbrev InPlace : Byte → Type 0
InPlace b = (b.value ≡ 0x70 → b.packet ≡ 0) × (b.value ≡ 0x60 → b.packet ≡ 1)

-- the section handed out has a byte of each
across : (P : List Byte → Type 0) (m : List (List Byte)) → map (map value_of) m ≡ (0x70 ∷ rest_of_it) ∷ []
    → Each InPlace (flatten m) → Each P m
    → ((x y : Byte) (l : List Byte) → x.packet ≡ 0 → y.packet ≡ 1 → P (x ∷ y ∷ l) → ⊥) → ⊥
unfolding flatten
across P [] e p u f = let z : ◌≡◌ {A = ℕ} 0 1 = cc in omega arith
across P ([] ∷ m) e p u f = let z : ◌≡◌ {A = ℕ} 0 1 = cc in omega arith
across P ((x ∷ []) ∷ m) e p u f = let z : ◌≡◌ {A = ℕ} 0 1 = cc in omega arith
across P ((x ∷ y ∷ l) ∷ m) e p u f =
    let first : x.value ≡ 0x70 = cc in
    let second : y.value ≡ 0x60 = cc in
    f x y l (p.0.0 first) (p.1.0.1 second) u.0

-- bytes of the second packet that are no 0x70
in_second : (l : List ℕ) → Each (λ v. v ≡ 0x70 → ⊥) l → Each InPlace (numbered 1 l)
in_second [] x = tt
in_second (v ∷ l) x = ((λ e. absurd (x.0 e), λ e. refl), in_second l x.1)

others : Each (λ v. v ≡ 0x70 → ⊥) rest_of_it
others = (
  λ e. omega arith,
  (
    λ e. omega arith,
    (λ e. omega arith, (λ e. omega arith, (λ e. omega arith, (λ e. omega arith, (λ e. omega arith, tt))))),
  ),
)

-- the payload bytes of the two packets, whatever stands between them
places : Each InPlace
    (record { packet = 0; value = 0x00 }
    ∷ record { packet = 0; value = 0x70 }
    ∷ numbered 1 rest_of_it)
places = (
  (λ e. refl, λ e. absurd (omega arith)),
  ((λ e. refl, λ e. absurd (omega arith)), in_second rest_of_it others),
)

pub joins_over_breaks_shut_out : NoSectionSpans JoinsOverBreaks → ⊥
unfolding judged size_of joins repeats cannot_stand flatten verdict read opening ◌and_then◌ row_of first holds cell header
    wrong_syntax length_outside size_differs crc_fails above_last inside plain
joins_over_breaks_shut_out h =
    let o : Outcome = collected (followed (fresh_record 20) left_off) hold₀ out₀ left_off in
    let o₂ : Outcome = collected (followed o.rec gone_on) o.hold out₀ gone_on in
    let calls : List Call = call_of left_off o ∷ call_of gone_on o₂ ∷ [] in
    let x : MadeUnbroken (said_taken false calls) (splices_from 0 calls) (handed calls) =
    h 20 hold₀ calls o₂.rec o₂.hold (one_call refl (one_call refl no_call)) in
    across (Unbroken (said_taken false calls)) x.made_of x.values_are
    (among_each InPlace x.once_in_order places)
    x.unbroken
    (λ a b l left right u. u.0.1.0 (record {
      at = 0;
      before = omega arith;
      behind = omega arith;
      broken = record { two = omega arith; break = λ e. omega arith };
    }))

-- ---- a section that spans a mark

-- the one splice that came is in front of the second packet
marked_between : (m : List (List Byte)) → map (map value_of) m ≡ (0x70 ∷ rest_of_it) ∷ [] → Each InPlace (flatten m)
    → Each (Unmarked (1 ∷ [])) m → ⊥
marked_between m e p u =
    across (Unmarked (1 ∷ [])) m e p u
    (λ a b l left right v. v.0.0.1.0 (omega (arith, left)) (omega (arith, right)))

pub overlooks_splices_shut_out : NoSectionSpans OverlooksSplices → ⊥
unfolding judged size_of joins repeats cannot_stand flatten verdict read opening ◌and_then◌ row_of first holds cell header
    wrong_syntax length_outside size_differs crc_fails above_last inside plain
overlooks_splices_shut_out h =
    let o : Outcome = collected (fresh_record 20) hold₀ out₀ left_off in
    let o₂ : Outcome = collected o.rec o.hold out₀ (without_bit spliced_on) in
    let calls : List Call = call_of left_off o ∷ call_of spliced_on o₂ ∷ [] in
    let x : MadeUnbroken (said_taken false calls) (splices_from 0 calls) (handed calls) =
    h 20 hold₀ calls o₂.rec o₂.hold (one_call refl (one_call refl no_call)) in
    marked_between x.made_of x.values_are (among_each InPlace x.once_in_order places) x.unmarked

pub overlooks_bare_splices_shut_out : NoSectionSpans OverlooksBareSplices → ⊥
unfolding judged size_of joins repeats cannot_stand flatten verdict read opening ◌and_then◌ row_of first holds cell header
    wrong_syntax length_outside size_differs crc_fails above_last inside plain
overlooks_bare_splices_shut_out h =
    let o : Outcome = collected (fresh_record 20) hold₀ out₀ left_off in
    let o₁ : Outcome = collected o.rec o.hold out₀ (without_bit bare_splice) in
    let o₂ : Outcome = collected o₁.rec o₁.hold out₀ next_on in
    let calls : List Call = call_of left_off o ∷ call_of bare_splice o₁ ∷ call_of next_on o₂ ∷ [] in
    let x : MadeUnbroken (said_taken false calls) (splices_from 0 calls) (handed calls) =
    h 20 hold₀ calls o₂.rec o₂.hold (one_call refl (one_call refl (one_call refl no_call))) in
    marked_between x.made_of x.values_are (among_each InPlace x.once_in_order places) x.unmarked

-- ---- what the judge rejects

-- with the right way the outcome is the promise's, so that each of the four differs from it in its own way alone
pub way_right : (r : Record) (hold out : List ℕ) (z : Ruling) → outcome_by the_way r hold out z ≡ outcome_of r hold out z
way_right r hold out (Ruled.refuses n) = refl
way_right r hold out Ruled.repeated = refl
way_right r hold out (Ruled.bare splice) = refl
way_right r hold out (Ruled.takes q) = refl

-- a section that is rejected is none of the grammar
not_legal : (s : List ℕ) (k q : ℕ) → verdict s ≡ refused k q → Legal s → ⊥
not_legal s k q e x = true_not_false (ap is_accepted (sym ((accepted_exactly_if s).1 x) ∙ e))

refused-with-3 : verdict (0x70 ∷ 0xF0 ∷ 0x00 ∷ []) ≡ refused 3 0
unfolding verdict read opening ◌and_then◌ row_of first holds cell header wrong_syntax
refused-with-3 = refl

pub accepts_everything_shut_out : OnlyAccepted AcceptsEverything → ⊥
unfolding judged size_of joins repeats cannot_stand flatten
accepts_everything_shut_out h =
    let o : Outcome = collected_by accepts_all (fresh_record 20) hold₀ out₀ one_wrong in
    let x = h 20 hold₀ (call_of one_wrong o ∷ []) o.rec o.hold (one_call refl no_call) in
    not_legal (0x70 ∷ 0xF0 ∷ 0x00 ∷ []) 3 0 refused-with-3 x.0

pub hands_out_rejected_shut_out : OnlyAccepted HandsOutRejected → ⊥
unfolding judged size_of joins repeats cannot_stand flatten
hands_out_rejected_shut_out h =
    let o : Outcome = collected_by hands_all (fresh_record 20) hold₀ out₀ one_wrong in
    let x = h 20 hold₀ (call_of one_wrong o ∷ []) o.rec o.hold (one_call refl no_call) in
    not_legal (0x70 ∷ 0xF0 ∷ 0x00 ∷ []) 3 0 refused-with-3 x.0

-- one section was accepted
pub rejects_everything_shut_out : DeliveredInOrder RejectsEverything → ⊥
unfolding judged size_of joins repeats cannot_stand flatten verdict read opening ◌and_then◌ row_of first holds cell header
    wrong_syntax length_outside size_differs crc_fails above_last inside plain
rejects_everything_shut_out h =
    let o : Outcome = collected_by rejects_all (fresh_record 20) hold₀ out₀ (worked 0) in
    let x = h 20 hold₀ (call_of (worked 0) o ∷ []) o.rec o.hold (one_call refl no_call) in
    let z : ◌≡◌ {A = ℕ} 0 1 = ap length x.sections_are in
    omega arith

-- the second was rejected with 4
pub keeps_first_number_shut_out : KeptNumber KeepsFirstNumber → ⊥
unfolding judged size_of joins repeats cannot_stand flatten verdict read opening ◌and_then◌ row_of first holds cell header
    wrong_syntax length_outside size_differs crc_fails above_last inside plain
keeps_first_number_shut_out h =
    let o : Outcome = collected_by keeps_first (fresh_record 20) hold₀ out₀ two_wrong in
    let x = h 20 hold₀ (call_of two_wrong o ∷ []) o.rec o.hold (one_call refl no_call) in
    let z : ◌≡◌ {A = ℕ} 2 4 = x in
    omega arith
