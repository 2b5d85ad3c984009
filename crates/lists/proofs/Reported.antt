-- What the refusal of a local time offset tells: which field of that item, and its place in the body.
use Prim.{tt}
use Prim.Native.Nat.{ℕ, ◌+◌, ◌*◌, ◌<◌}
use mathlib.Core.Path.{◌≡◌, refl, subst}
use mathlib.Core.List.{List, [], ◌++◌}
use native.Mathlib.Omega.{arith}
use lib.Dec.{eqb}
use lib.ListN.{length, get_or, drop}
use Rattle.wire.specs.Bytes.{Bytes}
use Rattle.wire.specs.Number.{number_at}
use Rattle.wire.specs.Reading.{◌>>=◌}
use Rattle.clock.specs.Reported.{offset_fields, time_fields, Judged, RefusalTells}
use Rattle.clock.proofs.FirstWrong.{judged_value, judged_then, judged_tells}
use Rattle.clock.proofs.Reported.{offset_judged, time_judged}
use Rattle.layout.specs.Items.{item}
use Rattle.layout.specs.Widths.{bits_of}
use Rattle.layout.specs.Shapes.{joined, Itemed}
use Rattle.layout.proofs.WidthLaws.{body_bytes}
use Rattle.layout.proofs.Accepts.{item_exactly}
use Rattle.layout.proofs.Reported.{item_judged, item_byte, front_tells, bare_item, body_is}
use Rattle.lists.specs.LocalTimeOffset.{layout, offset_in, time_in, fields, localTimeOffset, checked}

module _ (s : List ℕ) (bytes : Bytes s) (xs : List (List ℕ)) (are : Itemed 13 0x58 s xs) (i : ℕ) (there : i < length xs) where
  abbrev Body : List ℕ
  Body = joined xs

  abbrev Item : List ℕ
  Item = get_or xs i []

  abbrev From : ℕ
  From = 13 * i

  in_body : Bytes Body
  in_body = body_bytes Body are.framed bytes

  byte : (p q : ℕ) → p < 13 → q ≡ From + p → get_or Body q 0 ≡ get_or Item p 0
  byte = item_byte 13 0x58 (omega arith) s xs are i there

  offset : (p : ℕ) → p + 1 < 13 → Judged Body (offset_fields (From + p)) (offset_in Item From p)
  unfolding offset_in
  offset p l =
      rw (byte p (From + p) (omega arith) refl, byte (p + 1) (From + p + 1) l (omega arith))
      at (offset_judged Body in_body (From + p) (eqb (bits_of layout 3 Item) 1))

  day : number_at 2 Body (From + 6) ≡ number_at 2 Item 6
  unfolding number_at
  day = rw (byte 6 (From + 6) (omega arith) refl, byte 7 (From + 6 + 1) (omega arith) (omega arith))

  change : Judged Body (time_fields Body (From + 6)) (time_in Item From 6)
  unfolding time_in
  change =
      rw (
        day,
        byte 8 (From + 6 + 2) (omega arith) (omega arith),
        byte 9 (From + 6 + 3) (omega arith) (omega arith),
        byte 10 (From + 6 + 4) (omega arith) (omega arith),
      )
      at (time_judged Body in_body (From + 6))

  -- an item that is there is read exactly if its fields are right, and else the first wrong one is told
  pub offset_item_judged : Judged Body (checked Body From) (localTimeOffset s i)
  unfolding localTimeOffset fields
  offset_item_judged =
      item_judged 13 0x58 (omega arith) s xs are i there (fields From) (checked Body From)
      (judged_then Body (offset_fields (From + 4)) (time_fields Body (From + 6) ++ offset_fields (From + 11)) _ _ (offset 4 (omega arith))
      (λ l. judged_then Body (time_fields Body (From + 6)) (offset_fields (From + 11)) _ _ change
      (λ c. judged_then Body (offset_fields (From + 11)) [] _ _ (offset 11 (omega arith)) (λ n. judged_value Body [] _ tt))))

-- whatever the bytes and the index are
pub offset_item_tells : (s : List ℕ) → Bytes s → (i : ℕ)
    → RefusalTells (drop 2 s) (checked (drop 2 s) (13 * i)) (localTimeOffset s i)
unfolding localTimeOffset
offset_item_tells s bytes i =
    front_tells (drop 2 s) (checked (drop 2 s) (13 * i)) (item s 0x58 13 i) (fields (13 * i)) (bare_item s 0x58 13 i) (λ x e.
    let (xs, are, there, is) = (item_exactly 13 0x58 (omega arith) s i x).0 e in
    let told =
    judged_tells (joined xs) (checked (joined xs) (13 * i)) (localTimeOffset s i) (offset_item_judged s bytes xs are i there) in
    subst (λ b. RefusalTells b (checked b (13 * i)) (fields (13 * i) x)) (body_is 0x58 s (joined xs) are.framed)
    (subst (λ r. RefusalTells (joined xs) (checked (joined xs) (13 * i)) (r >>= fields (13 * i))) e told))
