-- Which parts an opened section has, by the tests that the code makes.
use Prim.Native.Nat.{ℕ, ◌+◌, ◌-◌, ◌<◌, ◌≤◌}
use mathlib.Core.Path.{◌≡◌, ◌∙◌, sym}
use mathlib.Core.Bool.{Bool, true, false}
use mathlib.Core.List.{List}
use native.Mathlib.Omega.{arith}
use native.Mathlib.Decide.{dec_le}
use borrow.Author.Tests.{le-leb, lt-leb, lt-ltb, le-ltb, eq-eqb, ne_eqb}
use lib.ListN.{length, get_or}
use lib.Dec.{leb}
use Rattle.wire.specs.Bytes.{len12_at}
use Rattle.wire.specs.Number.{number_at}
use Rattle.verdict.specs.Verdict.{Said, is_accepted}
use Rattle.tables.specs.Tables.{NIT, BAT, EIT, is_numbered, row_of}
use Rattle.section.specs.Reading.{body, judged}
use Rattle.parts.specs.Parts.{part, no_part, within, bytes_of}
use Rattle.parts.specs.Opening.{utc_of, top_of, entries_of, if_accepted}
use Rattle.parts.specs.Names.{network_in, event_at, event_part}
use Rattle.tables.specs.declared.Row.{Row}
use Rattle.parts.specs.declared.Part.{Part}
use Rattle.parts.proofs.Fronts.{is_in, is_out}

-- the test of `is_within` behind the first
pub is_left : (s : List ℕ) (r : Part) → r.start ≤ length s → leb r.size (length s - r.start) ≡ within s r
is_left s r h = go (dec_le (r.start + r.size) (length s))
  where
    go : Dec (r.start + r.size ≤ length s) → leb r.size (length s - r.start) ≡ within s r
    go (yes g) = le-leb r.size (length s - r.start) (omega arith) ∙ sym (is_in s r g)
    go (no g) = lt-leb r.size (length s - r.start) (omega arith) ∙ sym (is_out s r (omega arith))

module _ (row : ℕ) {b : Bool} (e : b ≡ is_numbered row) where
  pub utc_none : b ≡ true → utc_of row ≡ no_part
  unfolding utc_of
  utc_none t = rw (← e, t)

  pub utc_there : b ≡ false → utc_of row ≡ part 3 5
  unfolding utc_of
  utc_there t = rw (← e, t)

module _ (row : Row) (s : List ℕ) where
  pub top_there : (n : ℕ) → n ≡ len12_at s row.before → row.top ≡ 1 → top_of row s ≡ part (row.before + 2) n
  unfolding top_of
  top_there n same t = rw (eq-eqb row.top 1 t, same)

  pub top_none : (row.top ≡ 1 → ⊥) → top_of row s ≡ no_part
  unfolding top_of
  top_none t = rw (ne_eqb row.top 1 t)

  pub entries_none : row.fixed ≡ 0 → entries_of row s ≡ no_part
  unfolding entries_of
  entries_none f = rw (eq-eqb row.fixed 0 f)

  -- l is what stands before the CRC_32, and m what is left of it
  module _ (l : List ℕ) (whole : l ≡ body row s) (m : ℕ) (f : row.fixed ≡ 0 → ⊥) where
    pub entries_second : (n : ℕ) → n ≡ len12_at s row.before → m ≡ length l - (row.before + 2 + n + 2) → row.top ≡ 1
        → entries_of row s ≡ part (row.before + 2 + n + 2) m
    unfolding entries_of
    entries_second n same left t = rw (ne_eqb row.fixed 0 f, eq-eqb row.top 1 t, left, same, whole)

    pub entries_first : m ≡ length l - row.before → (row.top ≡ 1 → ⊥) → entries_of row s ≡ part row.before m
    unfolding entries_of
    entries_first left t = rw (ne_eqb row.fixed 0 f, ne_eqb row.top 1 t, left, whole)

-- the verdict v is that of the judge, and the test b says whether it is an acceptance
module _ (s : List ℕ) (p : Part) (v : Said) {b : Bool} (same : v ≡ judged s) (test : b ≡ is_accepted v) where
  pub part_there : b ≡ true → if_accepted s p ≡ p
  part_there t = rw (← same, ← test, t)

  pub part_none : b ≡ false → if_accepted s p ≡ no_part
  part_none t = rw (← same, ← test, t)

module _ (s : List ℕ) (f : Part) where
  pub network_nit : row_of (get_or s 0 0) ≡ NIT → network_in s f ≡ number_at 2 (bytes_of s f) 2
  unfolding network_in
  network_nit e = rw (eq-eqb (row_of (get_or s 0 0)) NIT e)

  pub network_bat : (row_of (get_or s 0 0) ≡ NIT → ⊥) → row_of (get_or s 0 0) ≡ BAT → network_in s f ≡ number_at 2 (bytes_of s f) 2
  unfolding network_in
  network_bat d e = rw (ne_eqb (row_of (get_or s 0 0)) NIT d, eq-eqb (row_of (get_or s 0 0)) BAT e)

  pub network_none : (row_of (get_or s 0 0) ≡ NIT → ⊥) → (row_of (get_or s 0 0) ≡ BAT → ⊥) → network_in s f ≡ 0
  unfolding network_in
  network_none d e = rw (ne_eqb (row_of (get_or s 0 0)) NIT d, ne_eqb (row_of (get_or s 0 0)) BAT e)

  module _ (k n : ℕ) where
    pub event_short : f.size < 12 → event_at s f k n ≡ no_part
    unfolding event_at
    event_short h = rw (lt-ltb f.size 12 h)

    pub event_there : 12 ≤ f.size → row_of (get_or s 0 0) ≡ EIT → event_at s f k n ≡ part (f.start + k) n
    unfolding event_at
    event_there h e = rw (le-ltb f.size 12 h, eq-eqb (row_of (get_or s 0 0)) EIT e)

    pub event_other : 12 ≤ f.size → (row_of (get_or s 0 0) ≡ EIT → ⊥) → event_at s f k n ≡ no_part
    unfolding event_at
    event_other h e = rw (le-ltb f.size 12 h, ne_eqb (row_of (get_or s 0 0)) EIT e)

    pub event_in : {b : Bool} → b ≡ within s f → b ≡ true → event_part s f k n ≡ event_at s f k n
    unfolding event_part
    event_in e t = rw (← e, t)

    pub event_out : {b : Bool} → b ≡ within s f → b ≡ false → event_part s f k n ≡ no_part
    unfolding event_part
    event_out e t = rw (← e, t)
