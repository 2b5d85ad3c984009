-- The refusals' numbers, and parts of the caller's bytes.
use Rattle.std.specs.Prelude.{List, ℕ, ◌+◌, take, drop, Result as Returned, Ok, Err}
use Rattle.std.specs.Borrow.{Bor}
use Rattle.wire.specs.Reading.{value, refused}
use Rattle.clock.specs.Fault as fault
use Rattle.layout.specs.declared.Refusal.{Refusal}
use Rattle.layout.specs.declared.Refusal.TheVariants.{WrongTag, DoesNotFit, PastEnd, Field}
use Rattle.layout.specs.declared.Part.{Part}

-- "61 no byte, or tag differs; 62 length byte missing or not the number of bytes after it, or body doesn't fit the layout exactly;
-- 66 index past the end"; 63 to 65 are a field's
abbrev pub numbered : Refusal → fault.Why
numbered WrongTag = fault.plain 61
numbered DoesNotFit = fault.plain 62
numbered PastEnd = fault.plain 66
numbered (Field f) = fault.numbered f

-- what a reading returns, as document 01 tells it
abbrev pub told : {A : Type 0} → Returned A Refusal → fault.Answered A
told (Ok a) = value a
told (Err why) = refused (numbered why)

-- the bytes that a reading lends
abbrev pub lent : Returned (Bor (List ℕ)) Refusal → Returned (List ℕ) Refusal
lent (Ok b) = Ok b.now
lent (Err why) = Err why

-- the n bytes of the body at a place, as a part of the descriptor, whose body follows two bytes
abbrev pub part_at : ℕ → ℕ → Part
part_at at n = record { start = 2 + at; length = n }

-- the part of s that p names, as much of it as there is
abbrev pub bytes_of : List ℕ → Part → List ℕ
bytes_of s p = take p.length (drop p.start s)
