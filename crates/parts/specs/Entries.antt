-- Entries in turn: "An entry's fixed bytes end in its own loop length."
use Rattle.std.specs.Prelude.{ℕ, ◌+◌, ◌-◌, Option, Some, None, List, leb, eqb, if◌then◌else◌}
use Rattle.wire.specs.Bytes.{len12_at}
use Rattle.section.specs.Reading.{row_for}
use Rattle.parts.specs.Parts.{part, within, behind}
use Rattle.parts.specs.declared.Part.{Part}
use Rattle.parts.specs.declared.entries.Entry.{Entry}

-- one of `fixed` bytes and a loop of n at the front of r
abbrev pub one_entry : ℕ → ℕ → Part → Entry
one_entry fixed n r = record { fixed = part r.start fixed; descriptors = part (r.start + fixed) n; rest = behind (fixed + n) r }

-- the place of the loop length of an entry at the front of r
abbrev pub loop_size : List ℕ → ℕ → Part → ℕ
loop_size s fixed r = len12_at s (r.start + (fixed - 2))

-- the first entry of r, where r has all of it; a table without entries has no fixed bytes
unfoldable pub entry_at : List ℕ → ℕ → Part → Option Entry
entry_at s fixed r =
    if eqb fixed 0 then None
    else if leb (fixed + loop_size s fixed r) r.size then Some (one_entry fixed (loop_size s fixed r) r)
    else None

-- the same of a part that lies in s; an entry's fixed bytes are as many as the row of the table says
unfoldable pub next_entry : List ℕ → Part → Option Entry
next_entry s r = if within s r then entry_at s (row_for s).fixed r else None
