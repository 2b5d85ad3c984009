-- Request (viii), "The delivered counter splits into accepted and rejected": that the merge is "collect, then judge" and nothing else. Beside the
-- collector of document 01, on the same packets, every fate but delivered is the same, and accepted and rejected are the delivered ones, parted by
-- the judge.
use Rattle.std.specs.Prelude.{◌≡◌, false, List, map, ℕ, ◌+◌}
use Rattle.packet.specs.Ruling.{Carried}
use Rattle.collector.specs.Rules.{Kind, pointer, accepted, rejected, broken, filler, skipped, Fate, in-hand, done, Mark, Story, bytes_of, count_of, sections_of}
use Rattle.collector.specs.Judged.{by_judge}
use Rattle.history.specs.History.{Byte, value_of, history_of}
use Rattle.history.specs.Run.{Collector, said_taken}
use Rattle.history.specs.Demand3.{story_by, delivered_in, rejected_in, OverRuns}

-- document 01's collector: each whole section is delivered, which here has the name of accepted
abbrev pub delivers : List ℕ → Kind
delivers s = accepted

abbrev pub delivered_before : Story Byte → List (List Byte)
delivered_before s = sections_of delivers value_of accepted s.sections

-- the kind before the judge parted the delivered ones
abbrev pub undivided_kind : Kind → Kind
undivided_kind pointer = pointer
undivided_kind accepted = accepted
undivided_kind rejected = accepted
undivided_kind broken = broken
undivided_kind filler = filler
undivided_kind skipped = skipped

abbrev pub undivided : Fate → Fate
undivided in-hand = in-hand
undivided (done k) = done (undivided_kind k)

abbrev pub undivided_mark : {A : Type 0} → Mark A → Mark A
undivided_mark m = record { byte = m.byte; fate = undivided m.fate }

-- the story S beside the story B before the merge
pub record Splits (S B : Story Byte) : Type 0 where
  pub same_sections : S.sections ≡ B.sections
  pub same_marks : map undivided_mark S.marks ≡ B.marks
  pub same_bytes : (f : Fate) → (f ≡ done accepted → ⊥) → (f ≡ done rejected → ⊥) → bytes_of f S.marks ≡ bytes_of f B.marks
  pub counts_split : count_of (done accepted) S.marks + count_of (done rejected) S.marks ≡ count_of (done accepted) B.marks
  pub accepted_are : delivered_in S ≡ sections_of by_judge value_of accepted (delivered_before B)
  pub rejected_are : rejected_in S ≡ sections_of by_judge value_of rejected (delivered_before B)

-- for any packets
abbrev pub CollectThenJudge : Type 0
CollectThenJudge = (qs : List (Carried ℕ)) → Splits (history_of by_judge qs).story (history_of delivers qs).story

-- for those that the answers of a run call taken
abbrev pub CollectsThenJudges : Collector → Type 0
CollectsThenJudges C = OverRuns C (λ pid hold calls r hold'.
    Splits (story_by pid hold calls) (history_of delivers (said_taken false calls)).story)
