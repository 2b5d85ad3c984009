-- What an answer says, and all that a call leaves behind.
use Rattle.std.specs.Prelude.{ℕ, List, Result, Ok, Err}
use Rattle.packet.specs.Judgement.{number_of}
use Rattle.packet.specs.declared.Refusal.{Refusal}
use Rattle.collector.specs.declared.Record.{Record}
use Rattle.collector.specs.declared.Passed.{Passed}
use Rattle.collector.specs.declared.Passed.TheVariants.{Repeated, Taken}

-- a refusal has its number; a taken packet the number of finished sections, and their bytes
pub data Reply : Type 0 where
  refused_with : ℕ → Reply
  repeated : Reply
  taken : ℕ → ℕ → Reply

-- what a packet comes to, or why it is refused
abbrev pub Answer : Type 0
Answer = Result Passed Refusal

abbrev pub told_passed : Passed → Reply
told_passed Repeated = repeated
told_passed (Taken sections bytes) = taken sections bytes

abbrev pub told : Answer → Reply
told (Ok passed) = told_passed passed
told (Err refusal) = refused_with (number_of refusal)

-- a call's outcome: the record, every byte of the hold and of the out room, and what the answer says
pub record Outcome : Type 0 where
  pub rec : Record
  pub hold : List ℕ
  pub out : List ℕ
  pub said : Reply

abbrev pub came : Record → List ℕ → List ℕ → Answer → Outcome
came r hold out answer = record { rec = r; hold = hold; out = out; said = told answer }
