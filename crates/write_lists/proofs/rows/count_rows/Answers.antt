-- `write_lists::rows::count_rows` meets its contract.
use mathlib.Core.Path.{◌≡◌, refl, sym, ap, ◌∙◌}
use mathlib.Core.Bool.{Bool, true, false, not}
use mathlib.Core.List.{List, ◌∷◌}
use Prim.Native.Nat.{ℕ, ◌*◌, ◌/◌, ◌%◌, ◌≤◌, ◌<◌}
use native.Mathlib.Nat.{mul_comm, mul-div-le, div-lt_iff_lt-mul, le-div_iff_mul-le}
use native.Mathlib.Omega.{arith}
use borrow.Author.Tests.{eq-eqb, ne_eqb, not-true, not-false}
use lib.IntN.{ℤ}
use lib.ListN.{length}
use Rattle.wire.specs.Reading.{Reading, value, refused, ◌>>=◌}
use Rattle.wire.proofs.ReadingLaws.{never, refused_is}
use Rattle.layout.specs.Shapes.{joined}
use Rattle.writing.specs.Rows.{rows, items_of}
use Rattle.writing.specs.Written.{headed}
use Rattle.writing.proofs.Answers.{headed-value, headed_long}
use Rattle.write_lists.specs.Inner.Kinds.{tag_of, row_size, item_size, piece_of, list_written, judged, Judged, passed, joined_rows, Ready}
use Rattle.write_lists.specs.declared.kinds.Kind.{Kind}
use Rattle.write_lists.proofs.RowLaws.{items_long}
use Rattle.write_lists.proofs.rows.count_rows.Goals as goal

judged_refused : {A : Type 0} (r : Reading A) → judged r ≡ refused 112 → r ≡ refused 112
unfolding judged
judged_refused (value a) e = absurd (never e)
judged_refused (refused k) e = ap refused (refused_is e)

list_of : (tag : ℕ) (r : Reading (List (List ℕ))) → Judged r
    → (r >>= λ l. headed tag (joined l)) ≡ headed tag (joined_rows r)
unfolding judged
list_of tag (value l) h = refl
list_of tag (refused k) h = absurd (never (sym h))

module _ (kind : Kind) (zs : List ℤ) {j : ℕ} (e : j ≡ row_size kind) where
  abbrev items : Reading (List (List ℕ))
  items = rows (row_size kind) (piece_of kind) (length zs / j) zs

  enough : row_size kind * (length zs / j) ≤ length zs
  enough = rw (← e) (mul-div-le (length zs) j)

  broken : (length zs % j ≡ 0 → ⊥) → list_written kind zs ≡ refused 112
  unfolding list_written items_of
  broken h = rw (ne_eqb (length zs % row_size kind) 0 (rw e at h))

  module _ (whole : length zs % j ≡ 0) where
    list-is : list_written kind zs ≡ (items >>= λ l. headed (tag_of kind) (joined l))
    unfolding list_written items_of
    list-is = rw (e, eq-eqb (length zs % row_size kind) 0 (rw e at whole))

    module _ (b : Bool) (all : passed b ≡ judged items) where
      unfit : not b ≡ true → list_written kind zs ≡ refused 112
      unfit h =
          let refusal : items ≡ refused 112 = judged_refused items (sym all ∙ ap passed (not-true b h)) in
          list-is ∙ ap (λ r. r >>= λ l. headed (tag_of kind) (joined l)) refusal

      module _ (fit : not b ≡ false) {m : ℕ} (size : m ≡ item_size kind) (some : 0 < m) where
        are : Judged items
        are = sym all ∙ ap passed (not-false b fit)

        list-headed : list_written kind zs ≡ headed (tag_of kind) (joined_rows items)
        list-headed = list-is ∙ list_of (tag_of kind) items are

        long : length (joined_rows items) ≡ length zs / j * m
        long =
            let n : ℕ = length zs / j in
            items_long kind n zs are ∙ ap (λ x. x * n) (sym size) ∙ mul_comm m n

        too_long : 255 / m < length zs / j → list_written kind zs ≡ refused 113
        too_long h =
            list-headed ∙ headed_long (tag_of kind) (joined_rows items) (omega (arith, long, (div-lt_iff_lt-mul some).0 h))

        ready : length zs / j ≤ 255 / m → Ready kind zs (length zs / j)
        ready h =
            let n : ℕ = length zs / j in
            let sized = items_long kind n zs are in
            let short : length (joined_rows items) ≤ 255 = omega (arith, long, (le-div_iff_mul-le some).0 h) in
            record {
              enough = enough;
              are = are;
              short = omega arith;
              is = list-headed
                  ∙ headed-value (tag_of kind) (joined_rows items) short
                  ∙ ap (λ x. value (tag_of kind ∷ x ∷ joined_rows items)) sized;
            }

pub returns-then-numbers-sizes-ne0 : goal.returns-then-numbers-sizes-ne0
returns-then-numbers-sizes-ne0 c = search broken

pub are_items-requires : goal.are_items-requires
are_items-requires c = search enough

pub returns-then-not-are_items : goal.returns-then-not-are_items
returns-then-not-are_items c = search unfit

pub returns-then-sizes-n : goal.returns-then-sizes-n
returns-then-sizes-n c = search too_long

pub returns : goal.returns
returns c = search ready
