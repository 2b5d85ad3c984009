-- How long a section is: section_length counts all behind it.
use Prim.Native.Nat.{ℕ, ◌+◌, ◌*◌, ◌/◌, ◌%◌, ◌<◌}
use mathlib.Core.Path.{◌≡◌, refl, ap, ◌∙◌}
use mathlib.Core.List.{[], ◌∷◌}
use mathlib.Core.Bool.{Bool, true, false}
use native.Mathlib.Omega.{arith}
use borrow.Author.Tests.{eqb-true, eqb-false}
use lib.ListN.{length, length-append}
use lib.Dec.{eqb}
use Rattle.std.specs.Prelude.{if◌then◌else◌}
use Rattle.crc.specs.Crc.{crc, bytes_of}
use Rattle.tables.specs.Tables.{row_at}
use Rattle.tables.proofs.RowLaws.{shape}
use Rattle.forms.specs.Fields.{pack}
use Rattle.sheet.specs.Content.{frame, Content, table_of, frame_of, row_in}
use Rattle.sheet.specs.Section.{bodyBytes, section_length, front, seal, section_of}

-- its second byte
abbrev pub second : Content → ℕ
second c = (row_at (row_in c)).syntax * 128 + pack frame (frame_of c) * 16 + section_length c / 256

pub front_is : (c : Content) → front c ≡ table_of c ∷ second c ∷ (section_length c % 256) ∷ bodyBytes c
unfolding front
front_is c = refl

pub front_length : (c : Content) → length (front c) ≡ 3 + length (bodyBytes c)
front_length c = ap length (front_is c) ∙ omega arith

pub seal_length : (c : Content) → row_in c < 6 → length (seal c) ≡ 4 * (row_at (row_in c)).crc
unfolding seal
seal_length c k = go (eqb (row_at (row_in c)).crc 1) refl
  where
    go : (b : Bool) → eqb (row_at (row_in c)).crc 1 ≡ b
        → length (if b then bytes_of (crc (front c)) else []) ≡ 4 * (row_at (row_in c)).crc
    go true e = let h = eqb-true (row_at (row_in c)).crc 1 e in omega arith
    go false e = let h = ((shape (row_in c) k).bare (eqb-false _ _ e)).0 in omega arith

pub section_length_lem : (c : Content) → row_in c < 6 → length (section_of c) ≡ 3 + section_length c
unfolding section_of section_length
section_length_lem c k =
    let a = length-append (front c) (seal c) in
    let b = front_length c in
    let d = seal_length c k in
    omega arith
