-- The six tables of `specs/AtWork`: each section is computed from its sheet, CRC_32 and all; the rest is demand 2's.
use Prim.Native.Nat.{ℕ, zero, suc}
use mathlib.Core.Path.{◌≡◌, refl}
use mathlib.Core.Bool.{Bool, true, false, ◌&&◌}
use mathlib.Core.List.{List, [], ◌∷◌}
use native.Mathlib.Omega.{arith}
use borrow.Author.Tests.{ltb-true}
use lib.Dec.{ltb}
use Rattle.wire.specs.Bytes.{Bytes}
use Rattle.crc.specs.Crc.{feed, feed_bits, feed_bytes, crc}
use Rattle.tables.specs.Tables.{cell, holds, first, row_of}
use Rattle.forms.specs.Form.{raw_read, both_read, such_read, each_read, each_show}
use Rattle.forms.specs.Fields.{below_read, room, pack, unpack}
use Rattle.forms.specs.Lists.{times_read, all, counted_read, loop_show}
use Rattle.sheet.specs.Content.{head_of, entry_of, shape_of, side_of}
use Rattle.sheet.specs.Sheet.{descriptor_read, read_for, shown_for}
use Rattle.sheet.specs.Section.{section_length, front, seal, section_of, content_of, read_sheet_for}
use Rattle.section.specs.Reading as section
use Rattle.section.specs.Reading.{judged, read, opening, header, wrong_syntax, length_outside, size_differs, crc_fails, above_last, inside, topped, ◌and_then◌}
use Rattle.turn.specs.Turn.{gives, to_section, to_sheet}
use Rattle.round_trips.specs.AtWork.{nit_sheet, nit_section, sdt_sheet, sdt_section, bat_sheet, bat_section, eit_sheet, eit_section, tdt_sheet, tdt_section, tot_sheet, tot_section, BothWays, AllSix, Unseen}
use Rattle.round_trips.proofs.RoundTrips.{sheet_and_back, made_ones}

small : List ℕ → Bool
small [] = true
small (b ∷ s) = ltb b 256 && small s

bytes : (s : List ℕ) → small s ≡ true → Bytes s
unfolding small
bytes [] e = λ i. omega arith
bytes (b ∷ s) e = go (ltb b 256) refl e (bytes s)
  where
    go : (x : Bool) → ltb b 256 ≡ x → x && small s ≡ true → (small s ≡ true → Bytes s) → Bytes (b ∷ s)
    go true p f h zero = ltb-true b 256 p
    go true p f h (suc i) = h f i
    go false p f h i = let z : ◌≡◌ {A = ℕ} 0 1 = cc in absurd (omega arith)

both_ways : (s t : List ℕ) → small s ≡ true → to_section 4096 s ≡ gives t → BothWays s t
both_ways s t b e =
    let w = bytes s b in
    let x = sheet_and_back 4096 5120 s t w (omega arith) e in
    record { forth = e; is_accepted_lem = x.0; ones = made_ones 4096 s t w e; back = x.1 }

-- the CRC_32 is computed bit by bit
made :
    (to_section 4096 nit_sheet ≡ gives nit_section) × (to_section 4096 sdt_sheet ≡ gives sdt_section)
    × (to_section 4096 bat_sheet ≡ gives bat_section)
    × (to_section 4096 eit_sheet ≡ gives eit_section) × (to_section 4096 tdt_sheet ≡ gives tdt_section)
    × (to_section 4096 tot_sheet ≡ gives tot_section)
unfolding to_section read_sheet_for read_for raw_read both_read such_read each_read each_show below_read times_read counted_read
    descriptor_read all loop_show room pack head_of entry_of shape_of side_of
    section_length front seal section_of feed feed_bits feed_bytes crc cell holds first row_of
made = (refl, refl, refl, refl, refl, refl)

pub all_six : AllSix
unfolding small
all_six = record {
  nit = both_ways nit_sheet nit_section refl made.0;
  sdt = both_ways sdt_sheet sdt_section refl made.1;
  bat = both_ways bat_sheet bat_section refl made.2;
  eit = both_ways eit_sheet eit_section refl made.3;
  tdt = both_ways tdt_sheet tdt_section refl made.4;
  tot = both_ways tot_sheet tot_section refl made.5;
}

pub unseen : Unseen
unfolding to_sheet content_of judged read opening header wrong_syntax length_outside size_differs crc_fails above_last inside
    topped section.plain ◌and_then◌ shown_for raw_read both_read such_read each_read each_show room unpack head_of
    shape_of cell holds first row_of
unseen = refl
