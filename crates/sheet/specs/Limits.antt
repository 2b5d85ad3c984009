-- Document 01's numbers for sheets, each tried at its limit: "24 version above 31, current, flag or free_CA_mode
-- above 1, running_status above 7, section number above last"; and the sheet of each kind, of which one byte less is
-- 22 and one more is 25.
use Rattle.std.specs.Prelude.{ℕ, ◌≡◌, List, [], ◌∷◌, ◌++◌, take}
use Rattle.wire.specs.Reading.{value, refused}
use Rattle.sheet.specs.Reads.{judged_sheet}

-- an SDT sheet of one service: version, current, section number, last, schedule flag, present/following flag,
-- running_status, free_CA_mode
abbrev pub sdt_with : ℕ → ℕ → ℕ → ℕ → ℕ → ℕ → ℕ → ℕ → List ℕ
sdt_with v c n l s p r f = 0x42 ∷ 4 ∷ 5 ∷ v ∷ c ∷ n ∷ l ∷ 0 ∷ 0x85 ∷ 0 ∷ 1 ∷ 0x12 ∷ 0x34 ∷ s ∷ p ∷ r ∷ f ∷ 0 ∷ 0 ∷ []

-- an EIT sheet of one event: version, current, section number, last, running_status, free_CA_mode
abbrev pub eit_with : ℕ → ℕ → ℕ → ℕ → ℕ → ℕ → List ℕ
eit_with v c n l r f =
    0x4E ∷ 0x12 ∷ 0x34 ∷ v ∷ c ∷ n ∷ l ∷ 4 ∷ 5 ∷ 0 ∷ 0x85 ∷ 1 ∷ 0x4E ∷ 0 ∷ 1
    ∷ 0 ∷ 0x65 ∷ 0xC0 ∷ 0x79 ∷ 0x12 ∷ 0x45 ∷ 0 ∷ 1 ∷ 0x30 ∷ 0 ∷ r ∷ f ∷ 0 ∷ 0 ∷ []

-- a NIT or BAT sheet of one empty entry: table_id, version, current, section number, last
abbrev pub nit_with : ℕ → ℕ → ℕ → ℕ → ℕ → List ℕ
nit_with id v c n l = id ∷ 0x30 ∷ 1 ∷ v ∷ c ∷ n ∷ l ∷ 0 ∷ 0 ∷ 0 ∷ 1 ∷ 4 ∷ 5 ∷ 0 ∷ 0x85 ∷ 0 ∷ 0 ∷ []

-- a TOT sheet with an empty descriptor
abbrev pub tot_sheet : List ℕ
tot_sheet = 0x73 ∷ 0xC0 ∷ 0x79 ∷ 0x12 ∷ 0x45 ∷ 0 ∷ 0 ∷ 1 ∷ 0x42 ∷ 0 ∷ []

-- document 01's TDT
abbrev pub tdt_sheet : List ℕ
tdt_sheet = 0x70 ∷ 0xC0 ∷ 0x79 ∷ 0x12 ∷ 0x45 ∷ 0 ∷ []

-- the fields of a service
pub record ServiceLimits : Type 0 where
  pub greatest : judged_sheet (sdt_with 31 1 255 255 1 1 7 1) ≡ value 17
  pub version : judged_sheet (sdt_with 32 1 255 255 1 1 7 1) ≡ refused 24
  pub current : judged_sheet (sdt_with 31 2 255 255 1 1 7 1) ≡ refused 24
  pub number : judged_sheet (sdt_with 31 1 255 254 1 1 7 1) ≡ refused 24
  pub schedule : judged_sheet (sdt_with 31 1 255 255 2 1 7 1) ≡ refused 24
  pub following : judged_sheet (sdt_with 31 1 255 255 1 2 7 1) ≡ refused 24
  pub running_status : judged_sheet (sdt_with 31 1 255 255 1 1 8 1) ≡ refused 24
  pub free_ca_mode : judged_sheet (sdt_with 31 1 255 255 1 1 7 2) ≡ refused 24

-- of an event
pub record EventLimits : Type 0 where
  pub greatest : judged_sheet (eit_with 31 1 255 255 7 1) ≡ value 27
  pub version : judged_sheet (eit_with 32 1 255 255 7 1) ≡ refused 24
  pub current : judged_sheet (eit_with 31 2 255 255 7 1) ≡ refused 24
  pub number : judged_sheet (eit_with 31 1 255 254 7 1) ≡ refused 24
  pub running_status : judged_sheet (eit_with 31 1 255 255 8 1) ≡ refused 24
  pub free_ca_mode : judged_sheet (eit_with 31 1 255 255 7 2) ≡ refused 24

-- of a network or a bouquet
pub record NetworkLimits (id : ℕ) : Type 0 where
  pub greatest : judged_sheet (nit_with id 31 1 255 255) ≡ value 19
  pub version : judged_sheet (nit_with id 32 1 255 255) ≡ refused 24
  pub current : judged_sheet (nit_with id 31 2 255 255) ≡ refused 24
  pub number : judged_sheet (nit_with id 31 1 255 254) ≡ refused 24

-- "22 sheet ends early", "25 bytes after the sheet": a byte less, and a byte more
pub record Whole (s : List ℕ) (k n : ℕ) : Type 0 where
  pub whole : judged_sheet s ≡ value n
  pub less : judged_sheet (take k s) ≡ refused 22
  pub more : judged_sheet (s ++ (0 ∷ [])) ≡ refused 25

-- "23 table_id unknown": the ids beside those that are known
pub record Ids : Type 0 where
  pub none : judged_sheet [] ≡ refused 22
  pub below : judged_sheet (0x3F ∷ []) ≡ refused 23
  pub beside : judged_sheet (0x43 ∷ []) ≡ refused 23
  pub above : judged_sheet (0x74 ∷ []) ≡ refused 23
  pub known : judged_sheet (0x73 ∷ []) ≡ refused 22

-- all of them
pub record Limits : Type 0 where
  pub service : ServiceLimits
  pub event : EventLimits
  pub network : NetworkLimits 0x40
  pub bouquet : NetworkLimits 0x4A
  pub services : Whole (sdt_with 31 1 255 255 1 1 7 1) 18 17
  pub events : Whole (eit_with 31 1 255 255 7 1) 28 27
  pub networks : Whole (nit_with 0x40 31 1 255 255) 16 19
  pub bouquets : Whole (nit_with 0x4A 31 1 255 255) 16 19
  pub time : Whole tdt_sheet 5 5
  pub offset : Whole tot_sheet 9 13
  pub ids : Ids
