-- Both turns at work: for each of the six tables a sheet and its section, byte for byte. So the premises of demand
-- 2's theorems can be met, by a table with a top loop, with entries and with descriptors as by any other.
use Rattle.std.specs.Prelude.{ℕ, ◌≡◌, List, [], ◌∷◌}
use Rattle.verdict.specs.Verdict.{accepted}
use Rattle.section.specs.Reading.{judged}
use Rattle.turn.specs.Turn.{gives, to_section, to_sheet}
use Rattle.contents.specs.Ones.{ReservedWereOnes}

-- NIT: version 21; a top loop of two descriptors, two entries
abbrev pub nit_sheet : List ℕ
nit_sheet =
    0x40 ∷ 0x30 ∷ 1 ∷ 0x15 ∷ 1 ∷ 1 ∷ 2 ∷ 0 ∷ 2 ∷ 0x40 ∷ 2 ∷ 0x4C ∷ 0x41 ∷ 0x42 ∷ 0 ∷ 0 ∷ 2 ∷ 4 ∷ 5
    ∷ 0 ∷ 0x85 ∷ 0 ∷ 1 ∷ 0x41 ∷ 3 ∷ 0x12 ∷ 0x34 ∷ 1 ∷ 0 ∷ 1 ∷ 0 ∷ 2 ∷ 0 ∷ 0 ∷ []

-- its section
abbrev pub nit_section : List ℕ
nit_section =
    0x40 ∷ 0xF0 ∷ 0x24 ∷ 0x30 ∷ 1 ∷ 0xEB ∷ 1 ∷ 2 ∷ 0xF0 ∷ 6 ∷ 0x40 ∷ 2 ∷ 0x4C ∷ 0x41 ∷ 0x42 ∷ 0
    ∷ 0xF0 ∷ 0x11 ∷ 4 ∷ 5 ∷ 0 ∷ 0x85 ∷ 0xF0 ∷ 5 ∷ 0x41 ∷ 3 ∷ 0x12 ∷ 0x34 ∷ 1 ∷ 0 ∷ 1 ∷ 0 ∷ 2 ∷ 0xF0
    ∷ 0 ∷ 0x9C ∷ 0xA7 ∷ 0x63 ∷ 0x4B ∷ []

-- SDT: version 31; flags, running_status and free_CA_mode of two services
abbrev pub sdt_sheet : List ℕ
sdt_sheet =
    0x42 ∷ 4 ∷ 5 ∷ 0x1F ∷ 1 ∷ 0 ∷ 0 ∷ 0 ∷ 0x85 ∷ 0 ∷ 2 ∷ 0x12 ∷ 0x34 ∷ 1 ∷ 0 ∷ 4 ∷ 1 ∷ 0 ∷ 1 ∷ 0x48
    ∷ 3 ∷ 1 ∷ 0 ∷ 0 ∷ 0x12 ∷ 0x35 ∷ 0 ∷ 1 ∷ 7 ∷ 0 ∷ 0 ∷ 0 ∷ []

-- its section
abbrev pub sdt_section : List ℕ
sdt_section =
    0x42 ∷ 0xF0 ∷ 0x1B ∷ 4 ∷ 5 ∷ 0xFF ∷ 0 ∷ 0 ∷ 0 ∷ 0x85 ∷ 0xFF ∷ 0x12 ∷ 0x34 ∷ 0xFE ∷ 0x90 ∷ 5
    ∷ 0x48 ∷ 3 ∷ 1 ∷ 0 ∷ 0 ∷ 0x12 ∷ 0x35 ∷ 0xFD ∷ 0xE0 ∷ 0 ∷ 0xE6 ∷ 0x13 ∷ 0x6D ∷ 0xB8 ∷ []

-- BAT: the last section of four, not yet current
abbrev pub bat_sheet : List ℕ
bat_sheet =
    0x4A ∷ 0x70 ∷ 1 ∷ 0 ∷ 0 ∷ 3 ∷ 3 ∷ 0 ∷ 1 ∷ 0x42 ∷ 0 ∷ 0 ∷ 1 ∷ 4 ∷ 5 ∷ 0 ∷ 0x85 ∷ 0 ∷ 2 ∷ 0x42 ∷ 0
    ∷ 0x41 ∷ 3 ∷ 0x12 ∷ 0x34 ∷ 1 ∷ []

-- its section
abbrev pub bat_section : List ℕ
bat_section =
    0x4A ∷ 0xF0 ∷ 0x1C ∷ 0x70 ∷ 1 ∷ 0xC0 ∷ 3 ∷ 3 ∷ 0xF0 ∷ 2 ∷ 0x42 ∷ 0 ∷ 0xF0 ∷ 0x0D ∷ 4 ∷ 5 ∷ 0
    ∷ 0x85 ∷ 0xF0 ∷ 7 ∷ 0x42 ∷ 0 ∷ 0x41 ∷ 3 ∷ 0x12 ∷ 0x34 ∷ 1 ∷ 0x80 ∷ 0x25 ∷ 0x2B ∷ 0x3A ∷ []

-- EIT: two events
abbrev pub eit_sheet : List ℕ
eit_sheet =
    0x4E ∷ 0x12 ∷ 0x34 ∷ 0x0A ∷ 1 ∷ 0 ∷ 1 ∷ 4 ∷ 5 ∷ 0 ∷ 0x85 ∷ 1 ∷ 0x4E ∷ 0 ∷ 2 ∷ 0 ∷ 0x65 ∷ 0xC0
    ∷ 0x79 ∷ 0x12 ∷ 0x45 ∷ 0 ∷ 1 ∷ 0x30 ∷ 0 ∷ 1 ∷ 0 ∷ 0 ∷ 1 ∷ 0x4D ∷ 5 ∷ 0x66 ∷ 0x69 ∷ 0x6E ∷ 0 ∷ 0
    ∷ 0 ∷ 0x66 ∷ 0xC0 ∷ 0x79 ∷ 0x14 ∷ 0x15 ∷ 0 ∷ 0 ∷ 0x45 ∷ 0 ∷ 6 ∷ 1 ∷ 0 ∷ 0 ∷ []

-- its section
abbrev pub eit_section : List ℕ
eit_section =
    0x4E ∷ 0xF0 ∷ 0x2E ∷ 0x12 ∷ 0x34 ∷ 0xD5 ∷ 0 ∷ 1 ∷ 4 ∷ 5 ∷ 0 ∷ 0x85 ∷ 1 ∷ 0x4E ∷ 0 ∷ 0x65 ∷ 0xC0
    ∷ 0x79 ∷ 0x12 ∷ 0x45 ∷ 0 ∷ 1 ∷ 0x30 ∷ 0 ∷ 0x20 ∷ 7 ∷ 0x4D ∷ 5 ∷ 0x66 ∷ 0x69 ∷ 0x6E ∷ 0 ∷ 0 ∷ 0
    ∷ 0x66 ∷ 0xC0 ∷ 0x79 ∷ 0x14 ∷ 0x15 ∷ 0 ∷ 0 ∷ 0x45 ∷ 0 ∷ 0xD0 ∷ 0 ∷ 0xC1 ∷ 0x2C ∷ 6 ∷ 0x0C ∷ []

-- TDT: document 01's
abbrev pub tdt_sheet : List ℕ
tdt_sheet =
    0x70 ∷ 0xC0 ∷ 0x79 ∷ 0x12 ∷ 0x45 ∷ 0 ∷ []

-- its section
abbrev pub tdt_section : List ℕ
tdt_section =
    0x70 ∷ 0x70 ∷ 5 ∷ 0xC0 ∷ 0x79 ∷ 0x12 ∷ 0x45 ∷ 0 ∷ []

-- TOT: two descriptors
abbrev pub tot_sheet : List ℕ
tot_sheet =
    0x73 ∷ 0xC0 ∷ 0x79 ∷ 0x12 ∷ 0x45 ∷ 0 ∷ 0 ∷ 2 ∷ 0x42 ∷ 0 ∷ 0x58 ∷ 0 ∷ []

-- its section
abbrev pub tot_section : List ℕ
tot_section =
    0x73 ∷ 0x70 ∷ 0x0F ∷ 0xC0 ∷ 0x79 ∷ 0x12 ∷ 0x45 ∷ 0 ∷ 0xF0 ∷ 4 ∷ 0x42 ∷ 0 ∷ 0x58 ∷ 0 ∷ 0x60
    ∷ 0x82 ∷ 0xDE ∷ 0xC7 ∷ []

-- the sheet becomes the section, which is accepted and has its reserved bits as ones; and the section becomes the sheet
pub record BothWays (sheet section : List ℕ) : Type 0 where
  pub forth : to_section 4096 sheet ≡ gives section
  pub is_accepted_lem : judged section ≡ accepted
  pub ones : ReservedWereOnes section
  pub back : to_sheet 5120 section ≡ gives sheet

-- all six
pub record AllSix : Type 0 where
  pub nit : BothWays nit_sheet nit_section
  pub sdt : BothWays sdt_sheet sdt_section
  pub bat : BothWays bat_sheet bat_section
  pub eit : BothWays eit_sheet eit_section
  pub tdt : BothWays tdt_sheet tdt_section
  pub tot : BothWays tot_sheet tot_section

-- "Reserved bits are never judged", and are in no sheet: document 01's TDT with zeros in their place becomes the same
-- sheet
abbrev pub Unseen : Type 0
Unseen = to_sheet 5120 (0x70 ∷ 0 ∷ 5 ∷ 0xC0 ∷ 0x79 ∷ 0x12 ∷ 0x45 ∷ 0 ∷ []) ≡ gives tdt_sheet
