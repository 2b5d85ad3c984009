-- Sections in turn, which stand in a room end to end: three bytes, and as many as section_length says.
use Rattle.std.specs.Prelude.{ℕ, ◌+◌, ◌≤◌, ◌≡◌, Option, Some, None, List, [], ◌∷◌, length, leb, if◌then◌else◌}
use Rattle.wire.specs.Bytes.{len12_at}
use Rattle.parts.specs.Parts.{part, within, behind, Is}
use Rattle.parts.specs.declared.Part.{Part}
use Rattle.parts.specs.declared.room.Section.{Section}

-- one of n bytes at the front of r
abbrev pub one_section : ℕ → Part → Section
one_section n r = record { whole = part r.start n; rest = behind n r }

-- the first section of r, where r has all of it
unfoldable pub section_at : List ℕ → Part → Option Section
section_at s r =
    if leb (3 + len12_at s (r.start + 1)) r.size then Some (one_section (3 + len12_at s (r.start + 1)) r)
    else None

-- the same of a part that lies in the room s
unfoldable pub next_section : List ℕ → Part → Option Section
next_section s r = if within s r then section_at s r else None

-- bytes that are as long as their own header says
pub record Whole (l : List ℕ) : Type 0 where
  pub header : 3 ≤ length l
  pub size : length l ≡ 3 + len12_at l 1

-- all of them are
pub data AllWhole : List (List ℕ) → Type 0 where
  none : AllWhole []
  more : {l : List ℕ} {ls : List (List ℕ)} → Whole l → AllWhole ls → AllWhole (l ∷ ls)

-- the walk from r on hands out these lists of bytes, one a step, and then none
pub data HandsSections (s : List ℕ) : Part → List (List ℕ) → Type 0 where
  none : {r : Part} → next_section s r ≡ None → r.size ≡ 0 → HandsSections s r []
  one : {r : Part} (x : Section) (l : List ℕ) {ls : List (List ℕ)} → next_section s r ≡ Some x → Is s x.whole l
      → HandsSections s x.rest ls → HandsSections s r (l ∷ ls)
