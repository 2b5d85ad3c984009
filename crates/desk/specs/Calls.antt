-- What a call to a writer comes to: where it tells 0 the room begins with a descriptor, else it is as it was.
use Rattle.std.specs.Prelude.{ℕ, ◌<◌, ◌≤◌, ◌≡◌, List, length, take, drop}
use Rattle.wire.specs.Reading.{Reading, value, refused}
use Rattle.desk.specs.Answers.{Called}
use Rattle.desk.specs.declared.answers.WriteAnswer.{WriteAnswer}

-- a writer's refusals are 112 and 113, said of what it makes
pub data Refusals (d : Reading (List ℕ)) : Type 0 where
  made : (s : List ℕ) → d ≡ value s → length s ≤ 257 → Refusals d
  outside : d ≡ refused 112 → Refusals d
  long : d ≡ refused 113 → Refusals d

-- the number 0: the room's first bytes are the descriptor s, and its later bytes stay
pub record Wrote (d : Reading (List ℕ)) (o : List ℕ) (r : WriteAnswer) (o' : List ℕ) : Type 0 where
  pub descriptor : List ℕ
  pub made : d ≡ value descriptor
  pub tells : r.size ≡ length descriptor
  pub first : take r.size o' ≡ descriptor
  pub later : drop r.size o' ≡ drop r.size o
  pub same_length : length o' ≡ length o

-- "success writes the first n bytes and tells n; later bytes stay"
abbrev pub SuccessWrites : Type 0
SuccessWrites =
    (d : Reading (List ℕ)) (o o' : List ℕ) (r : WriteAnswer) → Refusals d → Called d o r o' → r.number ≡ 0 → Wrote d o r o'

-- "a refusal alters nothing"
abbrev pub RefusalLeaves : Type 0
RefusalLeaves =
    (d : Reading (List ℕ)) (o o' : List ℕ) (r : WriteAnswer) → Called d o r o' → (r.number ≡ 0 → ⊥) → (o' ≡ o) × (r.size ≡ 0)

-- "111 room under 257; 112 ..; 113 ..; in that order": 111 exactly if the room is short, whatever is asked for; then what is made decides
pub record InThatOrder (d : Reading (List ℕ)) (o : List ℕ) (r : WriteAnswer) : Type 0 where
  pub room_first : length o < 257 → r.number ≡ 111
  pub field_next : 257 ≤ length o → d ≡ refused 112 → r.number ≡ 112
  pub length_last : 257 ≤ length o → d ≡ refused 113 → r.number ≡ 113
  pub else-written : (s : List ℕ) → 257 ≤ length o → d ≡ value s → r.number ≡ 0

abbrev pub Ordered : Type 0
Ordered = (d : Reading (List ℕ)) (o o' : List ℕ) (r : WriteAnswer) → Called d o r o' → InThatOrder d o r
