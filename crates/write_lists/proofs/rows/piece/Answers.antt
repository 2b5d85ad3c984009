-- `write_lists::rows::piece` meets its contract.
use Rattle.std.specs.Prelude.{Option}
use mathlib.Core.Path.{◌≡◌, sym, ap, ap₂, ◌∙◌}
use mathlib.Core.List.{List}
use Prim.Native.Nat.{ℕ, ◌^◌}
use lib.IntN.{ℤ}
use Rattle.wire.specs.Reading.{Reading, value}
use Rattle.write_lists.specs.Inner.Numbers.{told_bits, Within}
use Rattle.write_lists.specs.Inner.Offsets.{front_bits, back_bits}
use Rattle.write_lists.specs.Inner.Kinds.{piece_of, service_bits, content_bits, rating_bits, item_of, told_piece}
use Rattle.write_lists.specs.declared.kinds.Kind.{Kind}
use Rattle.write_lists.specs.declared.kinds.Kind.TheVariants.{ServiceList, Content, ParentalRating, LocalTimeOffset}
use Rattle.write_lists.specs.declared.kinds.Piece.{Piece}
use Rattle.write_lists.proofs.ItemBytes.{service_piece, content_piece, rating_piece, offset_piece}
use Rattle.write_lists.proofs.rows.piece.Goals as goal

-- an answer tells the item of two numbers
abbrev Item : Option Piece → Reading ℕ → Reading ℕ → Type 0
Item p high low = (k : Kind) → told_piece k p ≡ item_of k high low

module _ (zs : List ℤ) (kind : Kind) (p : Option Piece) (b : Option ℕ) where
  -- an item of one number
  one : (k : Kind) → kind ≡ k → Item p (value 0) (told_bits b) → {low : Reading ℕ} → told_bits b ≡ low
      → piece_of k zs ≡ item_of k (value 0) low
      → told_piece kind p ≡ piece_of kind zs
  one k e item told is = rw e (item k ∙ ap (item_of k (value 0)) told ∙ sym is)

  service : kind ≡ ServiceList → Item p (value 0) (told_bits b) → Within (2 ^ 24) (service_bits zs) b
      → told_piece kind p ≡ piece_of kind zs
  service e item w = one ServiceList e item w.told (service_piece zs)

  content : kind ≡ Content → Item p (value 0) (told_bits b) → Within (2 ^ 16) (content_bits zs) b
      → told_piece kind p ≡ piece_of kind zs
  content e item w = one Content e item w.told (content_piece zs)

  rating : kind ≡ ParentalRating → Item p (value 0) (told_bits b) → Within (2 ^ 32) (rating_bits zs) b
      → told_piece kind p ≡ piece_of kind zs
  rating e item w = one ParentalRating e item w.told (rating_piece zs)

  offset : kind ≡ LocalTimeOffset → (a : Option ℕ) → Item p (told_bits a) (told_bits b) → Within (2 ^ 48) (front_bits zs) a
      → Within (2 ^ 56) (back_bits zs) b
      → told_piece kind p ≡ piece_of kind zs
  offset e a item front back =
      rw e
      (item LocalTimeOffset
      ∙ ap₂ (item_of LocalTimeOffset) front.told back.told
      ∙ sym (offset_piece zs b back))

pub returns-in-ServiceList : goal.returns-in-ServiceList
returns-in-ServiceList c = search service

pub returns-in-Content : goal.returns-in-Content
returns-in-Content c = search content

pub returns-in-ParentalRating : goal.returns-in-ParentalRating
returns-in-ParentalRating c = search rating

pub returns-in-LocalTimeOffset : goal.returns-in-LocalTimeOffset
returns-in-LocalTimeOffset c = search offset
