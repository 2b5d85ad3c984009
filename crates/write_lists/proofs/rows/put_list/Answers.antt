-- `write_lists::rows::put_list` meets its contract.
use mathlib.Core.Path.{◌≡◌}
use mathlib.Core.List.{List, [], ◌∷◌}
use Prim.Native.Nat.{ℕ, ◌+◌, ◌*◌, ◌≤◌, ◌<◌}
use native.Mathlib.Omega.{arith}
use mir.Syntax.{w64}
use mir.Val.{Fits}
use lib.IntN.{ℤ}
use lib.ListN.{length}
use Rattle.forms.specs.Room.{put}
use Rattle.forms.proofs.Puts.{put_put}
use Rattle.writing.specs.Number.{ofNumber}
use Rattle.writing.specs.Rows.{rows}
use Rattle.writing.proofs.NumberBytes.{head_bytes}
use Rattle.write_lists.specs.Inner.Kinds.{tag_of, row_size, item_size, piece_of, joined_rows, list_bytes, Ready}
use Rattle.write_lists.specs.declared.kinds.Kind.{Kind}
use Rattle.write_lists.specs.declared.kinds.Kind.TheVariants.{ServiceList, Content, ParentalRating, LocalTimeOffset}
use Rattle.write_lists.proofs.RowLaws.{items_long}
use Rattle.write_lists.proofs.rows.put_list.Goals as goal

tag_small : (k : Kind) → tag_of k < 256
tag_small ServiceList = omega arith
tag_small Content = omega arith
tag_small ParentalRating = omega arith
tag_small LocalTimeOffset = omega arith

size_is : (k : Kind) (n : ℕ) {m : ℕ} → m ≡ item_size k → 2 + m * n ≡ 2 + item_size k * n
size_is k n e = rw e

module _ (k : Kind) (zs : List ℤ) (n : ℕ) (are : Ready k zs n) {m : ℕ} (e : m ≡ item_size k) where
  short : m * n ≤ 255
  short = rw e are.short

  body-fits : Fits w64 (m * n)
  body-fits = omega (arith, short)

  sum_fits : Fits w64 (2 + m * n)
  sum_fits = omega (arith, short)

  module _ {t : ℕ} (f : t ≡ tag_of k) where
    tag_fits : t < 256
    tag_fits = rw f (tag_small k)

    head-fits : Fits w64 (t * 256 + m * n)
    head-fits = omega (arith, short, tag_fits)

    list_put : (o : List ℕ) → 257 ≤ length o → {o1 o2 : List ℕ} → o1 ≡ put o 0 (ofNumber 2 (t * 256 + m * n))
        → o2 ≡ put o1 2 (joined_rows (rows (row_size k) (piece_of k) n zs))
        → o2 ≡ put o 0 (list_bytes k n zs)
    list_put o h first second =
        let body : List ℕ = joined_rows (rows (row_size k) (piece_of k) n zs) in
        let long = items_long k n zs are.are in
        let limit = are.short in
        rw (second, first, head_bytes t (m * n) tag_fits (omega (arith, short)), e, f)
        (put_put o 0 (tag_of k ∷ item_size k * n ∷ []) (omega arith) body (omega arith))

pub overflow_mul-body : goal.overflow_mul-body
overflow_mul-body c = search body-fits

pub overflow_add-sizes : goal.overflow_add-sizes
overflow_add-sizes c = search head-fits

pub overflow_add-result : goal.overflow_add-result
overflow_add-result c = search sum_fits

pub returns : goal.returns
returns c = search (size_is, list_put)
