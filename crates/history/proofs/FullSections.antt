-- The two sections of the call that hands out most are accepted: that their CRC_32 holds is the law of `crc`, that a
-- sequence with its own behind it leaves zero; the rest is computed.
use mathlib.Core.Path.{◌≡◌, ap}
use mathlib.Core.Bool.{Bool, false, not}
use mathlib.Core.List.{List, flatten}
use Prim.Native.Nat.{ℕ}
use lib.ListN.{drop}
use lib.Dec.{eqb}
use Rattle.std.specs.Prelude.{if◌then◌else◌}
use Rattle.wire.specs.Trail.{trail, run}
use Rattle.crc.proofs.Closes.{closes}
use Rattle.tables.specs.Tables.{EIT, row_of, row_at, cell, first, holds}
use Rattle.verdict.specs.Verdict.{Said, accepted, refused}
use Rattle.loops.specs.Descriptors.{descriptors}
use Rattle.section.specs.Entries.{entries}
use Rattle.section.specs.Reading.{◌and_then◌, plain, inside, opening, wrong_syntax, length_outside, size_differs, crc_fails, above_last, header, read, judged}
use Rattle.history.specs.OutRoom.{closed, longest, shorter}

crc_holds : (s : List ℕ) → crc_fails (row_at EIT) (closed s) ≡ false
unfolding crc_fails cell
crc_holds s = ap (λ (n : ℕ). not (eqb n 0)) (closes s)

-- with this in the place of the test for 6
abbrev header_if : Bool → List ℕ → Said
header_if t s = if t then refused 6 0 else (if above_last (row_at EIT) s then refused 7 0 else accepted)

pub longest_accepted : judged (closed longest) ≡ accepted
unfolding judged read opening ◌and_then◌ row_of first holds cell header wrong_syntax length_outside size_differs above_last
    inside plain entries descriptors trail run flatten
longest_accepted =
    ap (λ (t : Bool). (header_if t (closed longest) and_then inside (row_at EIT) 14 (drop 14 longest)).ends)
    (crc_holds longest)

pub shorter_accepted : judged (closed shorter) ≡ accepted
unfolding judged read opening ◌and_then◌ row_of first holds cell header wrong_syntax length_outside size_differs above_last
    inside plain entries descriptors trail run
shorter_accepted =
    ap (λ (t : Bool). (header_if t (closed shorter) and_then inside (row_at EIT) 14 (drop 14 shorter)).ends)
    (crc_holds shorter)
