-- What a whole section comes to is a parameter of the rules: here a second value of it, by which sections of an even length are accepted and
-- the others rejected. A story that has both kinds, and what holds of any packets by the same laws.
use Rattle.std.specs.Prelude.{◌≡◌, true, false, ℕ, ◌%◌, length, replicate, eqb, if◌then◌else◌}
use mathlib.Core.List.{List, [], ◌∷◌, ◌++◌, map, flatten}
use Rattle.wire.specs.Each.{Each}
use Rattle.packet.specs.Ruling.{Carried}
use Rattle.collector.specs.Rules.{Kind, pointer, accepted, rejected, filler, done, sum_of, Story, bytes_of, count_of, sections_of}
use Rattle.history.specs.History.{Byte, value_of, history_of, payloads_from, Unbroken}
use Rattle.history.specs.AtWork.{tdt}

abbrev pub even_accepted : List ℕ → Kind
even_accepted s = if eqb (length s % 2) 0 then accepted else rejected

abbrev pub story_of : List (Carried ℕ) → Story Byte
story_of qs = (history_of even_accepted qs).story

-- the whole sections of a kind, by their bytes' values
abbrev pub values_of : Kind → Story Byte → List (List ℕ)
values_of k s = map (map value_of) (sections_of even_accepted value_of k s.sections)

-- ---- a story

-- a section of eight bytes, one of three, and one of four that goes on in the packet behind
abbrev pub two_packets : List (Carried ℕ)
two_packets =
    record { counter = 0; start = true; spliced = false; bytes = 0 ∷ tdt ++ (0x70 ∷ 0x70 ∷ 0x00 ∷ 0x70 ∷ 0x70 ∷ []) }
    ∷ record { counter = 1; start = false; spliced = false; bytes = 0x01 ∷ 0xAA ∷ 0xFF ∷ [] }
    ∷ []

pub record BothKinds : Type 0 where
  pub fates : map (λ m. m.fate) (story_of two_packets).marks
      ≡ done pointer
      ∷ replicate 8 (done accepted)
      ++ (replicate 3 (done rejected) ++ (replicate 4 (done accepted) ++ (done filler ∷ [])))
  pub even : values_of accepted (story_of two_packets) ≡ tdt ∷ (0x70 ∷ 0x70 ∷ 0x01 ∷ 0xAA ∷ []) ∷ []
  pub odd : values_of rejected (story_of two_packets) ≡ (0x70 ∷ 0x70 ∷ 0x00 ∷ []) ∷ []

-- ---- whatever the packets

pub record StillHolds (qs : List (Carried ℕ)) : Type 0 where
  pub one_each : map (λ m. m.byte) (story_of qs).marks ≡ payloads_from 0 qs
  pub make_up : sum_of (λ f. count_of f (story_of qs).marks) ≡ length (payloads_from 0 qs)
  pub in_order : bytes_of (done accepted) (story_of qs).marks
      ≡ flatten (sections_of even_accepted value_of accepted (story_of qs).sections)
  pub others_too : bytes_of (done rejected) (story_of qs).marks
      ≡ flatten (sections_of even_accepted value_of rejected (story_of qs).sections)
  pub unbroken : Each (Unbroken qs) (story_of qs).sections
