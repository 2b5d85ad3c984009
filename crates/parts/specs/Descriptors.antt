-- Descriptors in turn: "descriptors (tag, length, body)".
use Rattle.std.specs.Prelude.{ℕ, ◌+◌, Option, Some, None, List, get_or, leb, if◌then◌else◌}
use Rattle.parts.specs.Parts.{part, within, behind}
use Rattle.parts.specs.declared.Part.{Part}
use Rattle.parts.specs.declared.descriptors.Descriptor.{Descriptor}

-- one with a tag t and a body of n at the front of r
abbrev pub one_descriptor : ℕ → ℕ → Part → Descriptor
one_descriptor t n r = record { tag = t; whole = part r.start (2 + n); body = part (r.start + 2) n; rest = behind (2 + n) r }

-- the first descriptor of r, where r has all of it
unfoldable pub descriptor_at : List ℕ → Part → Option Descriptor
descriptor_at s r =
    if leb (2 + get_or s (r.start + 1) 0) r.size then Some (one_descriptor (get_or s r.start 0) (get_or s (r.start + 1) 0) r)
    else None

-- the same of a part that lies in s
unfoldable pub next_descriptor : List ℕ → Part → Option Descriptor
next_descriptor s r = if within s r then descriptor_at s r else None
