-- `write_lists::rows::put_piece` meets its contract.
use Rattle.std.specs.Prelude.{Option, Some, None}
use mathlib.Core.Path.{◌≡◌, refl, sym}
use mathlib.Core.List.{List, ◌++◌}
use Prim.Native.Nat.{ℕ, ◌+◌, ◌≤◌}
use native.Mathlib.Omega.{arith}
use lib.ListN.{length}
use Rattle.wire.specs.Reading.{Reading}
use Rattle.forms.specs.Room.{put}
use Rattle.forms.proofs.Puts.{put_none}
use Rattle.writing.specs.Number.{ofNumber}
use Rattle.write_lists.specs.Inner.Kinds.{high_size, low_size, item_size, told_piece, bytes_or}
use Rattle.write_lists.specs.declared.kinds.Kind.{Kind}
use Rattle.write_lists.specs.declared.kinds.Kind.TheVariants.{ServiceList, Content, ParentalRating, LocalTimeOffset}
use Rattle.write_lists.specs.declared.kinds.Piece.{Piece}
use Rattle.write_lists.proofs.rows.put_piece.Goals as goal

both-sizes : (k : Kind) → high_size k + low_size k ≡ item_size k
both-sizes ServiceList = refl
both-sizes Content = refl
both-sizes ParentalRating = refl
both-sizes LocalTimeOffset = refl

both-fit : (k : Kind) (to n : ℕ) → to + item_size k ≤ n → to + (high_size k + low_size k) ≤ n
both-fit k to n h = omega (arith, both-sizes k)

module _ (k : Kind) {p : Option Piece} {r : Reading (List ℕ)} (o : List ℕ) (to : ℕ) (told : told_piece k p ≡ r) where
  none : p ≡ None → to + item_size k ≤ length o → o ≡ put o to (bytes_or r)
  none e h = rw (← told, e) (sym (put_none o to (omega arith)))

  some : {q : Piece} → p ≡ Some q → {o' : List ℕ}
      → o' ≡ put o to (ofNumber (high_size k) q.high ++ ofNumber (low_size k) q.low)
      → o' ≡ put o to (bytes_or r)
  some e stored = rw (← told, e) stored

pub put_both-requires : goal.put_both-requires
put_both-requires c = search both-fit

pub returns-in_default : goal.returns-in_default
returns-in_default c = none _ _ _ c.piece.ensures c.in_default.is c.requires

pub returns-in-Some : goal.returns-in-Some
returns-in-Some c = search some
