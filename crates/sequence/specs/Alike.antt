-- "Marks above its last number mean nothing." And what else of a roll means nothing: all of an empty one, and ids that
-- do not count; the ends of a table that is no schedule; of a schedule, an end that is outside its segment or above the
-- last number, which "counts as unknown, its marks as unset", and marks above an end.
use Rattle.std.specs.Prelude.{ℕ, ◌≤◌, ◌≡◌, ◌↔◌, List, [], ◌∷◌, true, false}
use Rattle.wire.specs.Bytes.{Bytes}
use Rattle.roll.specs.Answer.{Says}
use Rattle.roll.specs.Marks.{has, Whole}
use Rattle.head.specs.SubTable.{compared}
use Rattle.roll.specs.Roll.{Outcome, taking}
use Rattle.sequence.specs.Step.{Schedule, Known, CameIn, LeftOut, Roller, RefusesExactlyIf, RefusalKeeps, TakesElse, TakesElseInSegments}
use Rattle.roll.specs.declared.Roll.{Roll}

-- two rolls that are begun and differ at most in their marks, and in ids that do not count
pub record SameBut (r q : Roll) : Type 0 where
  pub begun : (r.begun ≡ true) × (q.begun ≡ true)
  pub ids : compared r.sub_table ≡ compared q.sub_table
  pub version : r.version ≡ q.version
  pub last : r.last ≡ q.last
  pub whole : Whole r.marks × Whole q.marks

-- two rolls that differ only in what means nothing
pub data Alike : Roll → Roll → Type 0 where
  empty : {r q : Roll} → r.begun ≡ false → q.begun ≡ false → Alike r q
  begun : {r q : Roll} → SameBut r q → (Schedule r.sub_table.table_id → ⊥)
      → ((n : ℕ) → n ≤ r.last → has r.marks n ≡ has q.marks n) → Alike r q
  in_segments : {r q : Roll} → SameBut r q → Schedule r.sub_table.table_id
      → ((k e : ℕ) → Known r.marks r.last k e ↔ Known q.marks r.last k e)
      → ((n : ℕ) → (LeftOut (Known r.marks r.last) n → ⊥) → CameIn r.marks r.last n ↔ CameIn q.marks r.last n)
      → Alike r q

-- the answers to sections given one after the other, the first one first
abbrev pub answers_to : Roll → List (List ℕ) → List Says
answers_to r [] = []
answers_to r (s ∷ l) = (taking r s).says ∷ answers_to (taking r s).roll l

module _ (take : Roller) where
  -- two rolls that differ only in what means nothing say the same of any section, and then differ only in what means
  -- nothing
  abbrev pub StaysAlike : Type 0
  StaysAlike = (r q : Roll) → Alike r q → (s : List ℕ) → Bytes s → (o o' : Outcome) → take r s o → take q s o'
      → (o.says ≡ o'.says) × Alike o.roll o'.roll

  -- whatever keeps the statements about one section says what `roll::take` says, and leaves a roll that differs only in
  -- what means nothing
  abbrev pub Fixed : Type 0
  Fixed = RefusesExactlyIf take → RefusalKeeps take → TakesElse take → TakesElseInSegments take → (r : Roll) (s : List ℕ) (o : Outcome)
      → take r s o → Bytes s → Whole r.marks
      → Whole o.roll.marks → (o.says ≡ (taking r s).says) × Alike o.roll (taking r s).roll
