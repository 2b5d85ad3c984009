-- What an answer says, and all that a call leaves behind.
use Rattle.std.specs.Prelude.{List, ℕ, Result, Ok, Err}
use Rattle.writer.specs.declared.Refusal.{Refusal}
use Rattle.writer.specs.declared.Refusal.TheVariants.{BadStart, BadSection, Room}

-- how many packets there are, or a refusal's number
pub data Reply : Type 0 where
  wrote : ℕ → Reply
  refused_with : ℕ → Reply

abbrev pub number_of : Refusal → ℕ
number_of BadStart = 101
number_of BadSection = 102
number_of Room = 103

-- how many packets, or why none
abbrev pub Answer : Type 0
Answer = Result ℕ Refusal

abbrev pub told : Answer → Reply
told (Ok packets) = wrote packets
told (Err refusal) = refused_with (number_of refusal)

-- a call's outcome: every byte of the room, and what the answer says
pub record Outcome : Type 0 where
  pub room : List ℕ
  pub said : Reply

abbrev pub came : List ℕ → Answer → Outcome
came room answer = record { room = room; said = told answer }
