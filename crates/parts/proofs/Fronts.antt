-- What is handed out at the front of a part, by the tests that the code makes.
use Prim.Native.Nat.{ℕ, zero, suc, ◌+◌, ◌<◌, ◌≤◌}
use mathlib.Core.Path.{◌≡◌, ◌∙◌, sym}
use mathlib.Core.Bool.{Bool, true, false}
use mathlib.Core.List.{List}
use native.Mathlib.Omega.{arith}
use borrow.Author.Tests.{le-leb, lt-leb, leb-true, eq-eqb, ne_eqb}
use lib.ListN.{length, get_or}
use Rattle.std.specs.Prelude.{Some, None}
use Rattle.wire.specs.Bytes.{len12_at}
use Rattle.tables.specs.Tables.{cell, row_at}
use Rattle.section.specs.Reading.{row_for}
use Rattle.parts.specs.Parts.{within}
use Rattle.parts.specs.Entries.{one_entry, loop_size, entry_at, next_entry}
use Rattle.parts.specs.Descriptors.{one_descriptor, descriptor_at, next_descriptor}
use Rattle.parts.specs.Room.{one_section, section_at, next_section}
use Rattle.parts.specs.declared.Part.{Part}

-- each row has few bytes before its first loop or entry
pub before_small : (i : ℕ) → (row_at i).before < 256
unfolding cell
before_small zero = omega arith
before_small (suc zero) = omega arith
before_small (suc (suc zero)) = omega arith
before_small (suc (suc (suc zero))) = omega arith
before_small (suc (suc (suc (suc zero)))) = omega arith
before_small (suc (suc (suc (suc (suc zero))))) = omega arith
before_small (suc (suc (suc (suc (suc (suc i)))))) = omega arith

module _ (s : List ℕ) (r : Part) where
  pub is_in : r.start + r.size ≤ length s → within s r ≡ true
  unfolding within
  is_in h = le-leb _ _ h

  pub is_out : length s < r.start + r.size → within s r ≡ false
  unfolding within
  is_out h = lt-leb _ _ h

  -- what `is_within` tells
  pub lies : {b : Bool} → b ≡ within s r → b ≡ true → r.start + r.size ≤ length s
  unfolding within
  lies e t = leb-true _ _ (sym e ∙ t)

  -- entries
  module _ (fixed : ℕ) where
    pub entry_none : fixed ≡ 0 → entry_at s fixed r ≡ None
    unfolding entry_at
    entry_none e = rw (eq-eqb fixed 0 e)

    pub entry_short : (fixed ≡ 0 → ⊥) → r.size < fixed + loop_size s fixed r → entry_at s fixed r ≡ None
    unfolding entry_at
    entry_short e h = rw (ne_eqb fixed 0 e, lt-leb (fixed + loop_size s fixed r) r.size h)

    pub entry_whole : (n : ℕ) → n ≡ loop_size s fixed r → (fixed ≡ 0 → ⊥) → fixed + n ≤ r.size
        → entry_at s fixed r ≡ Some (one_entry fixed n r)
    unfolding entry_at
    entry_whole n same e h =
        let g : fixed + loop_size s fixed r ≤ r.size = omega arith in
        rw (ne_eqb fixed 0 e, le-leb (fixed + loop_size s fixed r) r.size g, same)

  pub entry_in : {b : Bool} → b ≡ within s r → b ≡ true → next_entry s r ≡ entry_at s (row_for s).fixed r
  unfolding next_entry
  entry_in e t = rw (← e, t)

  pub entry_out : {b : Bool} → b ≡ within s r → b ≡ false → next_entry s r ≡ None
  unfolding next_entry
  entry_out e t = rw (← e, t)

  -- descriptors
  pub descriptor_short : r.size < 2 + get_or s (r.start + 1) 0 → descriptor_at s r ≡ None
  unfolding descriptor_at
  descriptor_short h = rw (lt-leb (2 + get_or s (r.start + 1) 0) r.size h)

  pub descriptor_whole : (n : ℕ) → n ≡ get_or s (r.start + 1) 0 → 2 + n ≤ r.size
      → descriptor_at s r ≡ Some (one_descriptor (get_or s r.start 0) n r)
  unfolding descriptor_at
  descriptor_whole n same h =
      let g : 2 + get_or s (r.start + 1) 0 ≤ r.size = omega arith in
      rw (le-leb (2 + get_or s (r.start + 1) 0) r.size g, same)

  pub descriptor_in : {b : Bool} → b ≡ within s r → b ≡ true → next_descriptor s r ≡ descriptor_at s r
  unfolding next_descriptor
  descriptor_in e t = rw (← e, t)

  pub descriptor_out : {b : Bool} → b ≡ within s r → b ≡ false → next_descriptor s r ≡ None
  unfolding next_descriptor
  descriptor_out e t = rw (← e, t)

  -- sections
  pub section_short : r.size < 3 + len12_at s (r.start + 1) → section_at s r ≡ None
  unfolding section_at
  section_short h = rw (lt-leb (3 + len12_at s (r.start + 1)) r.size h)

  pub section_whole : (n : ℕ) → n ≡ len12_at s (r.start + 1) → 3 + n ≤ r.size → section_at s r ≡ Some (one_section (3 + n) r)
  unfolding section_at
  section_whole n same h =
      let g : 3 + len12_at s (r.start + 1) ≤ r.size = omega arith in
      rw (le-leb (3 + len12_at s (r.start + 1)) r.size g, same)

  pub section_in : {b : Bool} → b ≡ within s r → b ≡ true → next_section s r ≡ section_at s r
  unfolding next_section
  section_in e t = rw (← e, t)

  pub section_out : {b : Bool} → b ≡ within s r → b ≡ false → next_section s r ≡ None
  unfolding next_section
  section_out e t = rw (← e, t)

pub ruleset section_laws = (section_short, section_whole)

pub ruleset descriptor_laws = (descriptor_short, descriptor_whole)

pub ruleset entry_laws = (entry_none, entry_short, entry_whole)
