-- What a whole section comes to: "Merge the two: a taken packet gives out only accepted sections."
use Rattle.std.specs.Prelude.{ℕ, List, [], ◌∷◌}
use Rattle.verdict.specs.Verdict.{Said, number_of}
use Rattle.verdict.specs.Verdict as Verdict
use Rattle.section.specs.Reading.{judged}
use Rattle.collector.specs.Rules.{Kind, accepted, rejected, Story, plain, sections_of}

-- "The delivered counter splits into accepted and rejected": by what the judge says of the section's bytes
abbrev pub kind_said : Said → Kind
kind_said Verdict.accepted = accepted
kind_said (Verdict.refused k p) = rejected

abbrev pub by_judge : List ℕ → Kind
by_judge s = kind_said (judged s)

-- of whole sections those that the judge accepts, and those that it rejects, in order
abbrev pub accepted_among : List (List ℕ) → List (List ℕ)
accepted_among secs = sections_of by_judge plain accepted secs

abbrev pub rejected_among : List (List ℕ) → List (List ℕ)
rejected_among secs = sections_of by_judge plain rejected secs

-- the sections that are delivered, and those that are rejected
abbrev pub delivered_of : Story ℕ → List (List ℕ)
delivered_of s = accepted_among s.sections

abbrev pub rejected_of : Story ℕ → List (List ℕ)
rejected_of s = rejected_among s.sections

-- "A rejected section's number is kept in the record, the last one only": after these were rejected, in this order; the number before where
-- none was
abbrev pub last_number : ℕ → List (List ℕ) → ℕ
last_number before [] = before
last_number before (s ∷ secs) = last_number (number_of (judged s)) secs
