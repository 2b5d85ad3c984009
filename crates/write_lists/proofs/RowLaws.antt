-- Rows, from one to the next: for any reading of an item, and for the four lists.
use Prim.{Unit}
use mathlib.Core.Path.{◌≡◌, refl, sym, ap, ap₂, ◌∙◌}
use mathlib.Core.Bool.{Bool, true, false}
use mathlib.Core.List.{List, [], ◌∷◌, ◌++◌}
use Prim.Native.Nat.{ℕ, zero, suc, ◌+◌, ◌-◌, ◌*◌, ◌≤◌, ◌<◌}
use native.Mathlib.Nat.{mul-suc, mul-zero, mul-add, mul-le-mul_left}
use native.Mathlib.Omega.{arith}
use lib.IntN.{ℤ}
use lib.ListN.{length, drop, length-append, length-drop}
use lib.Seq.{drop-drop}
use Rattle.wire.specs.Reading.{Reading, value, refused, ◌>>=◌}
use Rattle.wire.proofs.ReadingLaws.{never}
use Rattle.forms.specs.Room.{put}
use Rattle.forms.proofs.Puts.{put_put, put_none, length_put}
use Rattle.writing.specs.Rows.{rows}
use Rattle.write_lists.specs.Inner.Kinds.{row_size, item_size, piece_of, judged, Judged, passed, bytes_or, joined_rows}
use Rattle.write_lists.specs.declared.kinds.Kind.{Kind}
use Rattle.write_lists.proofs.ItemBytes.{piece_size}

-- ---- their numbers

times_first : (m n : ℕ) → 0 < n → m * n ≡ m + m * (n - 1)
times_first m zero h = absurd (omega arith)
times_first m (suc n) h = let e : suc n - 1 ≡ n = omega arith in rw e (omega (arith, mul-suc m n))

times_next : (m i : ℕ) → m * (i + 1) ≡ m * i + m
times_next m i = omega (arith, mul-add m i 1)

drop_none : (zs : List ℤ) → drop 0 zs ≡ zs
drop_none [] = refl
drop_none (z ∷ zs) = refl

-- one row more is left out
next_row : (k i : ℕ) (zs : List ℤ) → drop k (drop (k * i) zs) ≡ drop (k * (i + 1)) zs
next_row k i zs = drop-drop k (k * i) zs ∙ ap (λ m. drop m zs) (sym (times_next k i))

-- so many rows of k numbers are there
pub row_there : (k n i : ℕ) (zs : List ℤ) → k * n ≤ length zs → i < n → {j : ℕ} → j ≡ k → j * i ≤ length zs
row_there k n i zs enough some e = rw e (omega (arith, mul-le-mul_left {m = i} {n = n} k (omega arith)))

pub rows_behind : (k n : ℕ) (zs : List ℤ) → k * n ≤ length zs → 0 < n → k * (n - 1) ≤ length (drop k zs)
rows_behind k n zs enough some = omega (arith, times_first k n some, length-drop k zs)

-- ---- are they items?

judged_both : {A : Type 0} (r : Reading A) (s : Reading (List A))
    → judged (r >>= λ a. s >>= λ l. value (a ∷ l)) ≡ (judged r >>= λ _. judged s)
unfolding judged
judged_both (value a) (value l) = refl
judged_both (value a) (refused k) = refl
judged_both (refused k) s = refl

module _ {A : Type 0} (k : ℕ) (item : List ℤ → Reading A) where
  rows_first : (n : ℕ) (zs : List ℤ) → 0 < n
      → rows k item n zs ≡ (item zs >>= λ a. rows k item (n - 1) (drop k zs) >>= λ l. value (a ∷ l))
  unfolding rows
  rows_first zero zs h = absurd (omega arith)
  rows_first (suc n) zs h = let e : suc n - 1 ≡ n = omega arith in rw e

  rows_none : (n : ℕ) (zs : List ℤ) → n ≤ 0 → rows k item n zs ≡ value []
  unfolding rows
  rows_none n zs h = let e : n ≡ 0 = omega arith in rw e

  -- none is judged yet
  pub all_left : (n : ℕ) (zs : List ℤ) → judged (rows k item (n - 0) (drop (k * 0) zs)) ≡ judged (rows k item n zs)
  all_left n zs = let all : n - 0 ≡ n = omega arith in rw (mul-zero k, drop_none zs, all) refl

  module _ (n : ℕ) (zs : List ℤ) {all : Reading (Unit {0})} (so_far : judged (rows k item n zs) ≡ all) where
    -- no row is left
    pub none_left : n ≤ 0 → passed true ≡ all
    unfolding judged
    none_left h = sym (ap judged (rows_none n zs h)) ∙ so_far

    module _ (some : 0 < n) (b : Bool) (row : passed b ≡ judged (item zs)) where
      first : all ≡ (passed b >>= λ _. judged (rows k item (n - 1) (drop k zs)))
      first =
          sym so_far
          ∙ ap judged (rows_first n zs some)
          ∙ judged_both (item zs) (rows k item (n - 1) (drop k zs))
          ∙ ap (λ r. r >>= λ _. judged (rows k item (n - 1) (drop k zs))) (sym row)

      first_refused : b ≡ false → passed false ≡ all
      first_refused h = sym (rw h at first)

      first_passed : b ≡ true → judged (rows k item (n - 1) (drop k zs)) ≡ all
      first_passed h = sym (rw h at first)

  -- the row of an index
  module _ (n i : ℕ) (zs : List ℤ) {all : Reading (Unit {0})}
      (so_far : judged (rows k item (n - i) (drop (k * i) zs)) ≡ all) (some : i < n) {j : ℕ} (e : j ≡ k)
      {row : List ℤ} (f : row ≡ drop (j * i) zs) (b : Bool) (test : passed b ≡ judged (item row)) where
    tested : passed b ≡ judged (item (drop (k * i) zs))
    tested = test ∙ ap (λ r. judged (item r)) (f ∙ ap (λ x. drop (x * i) zs) e)

    -- is no item
    pub row_refused : b ≡ false → passed false ≡ all
    row_refused = first_refused (n - i) (drop (k * i) zs) so_far (omega arith) b tested

    -- is one
    pub row_passed : b ≡ true → judged (rows k item (n - (i + 1)) (drop (k * (i + 1)) zs)) ≡ all
    row_passed h =
        let less : n - i - 1 ≡ n - (i + 1) = omega arith in
        rw (less, next_row k i zs) at (first_passed (n - i) (drop (k * i) zs) so_far (omega arith) b tested h)

-- ---- their bytes

joined_both : (r : Reading (List ℕ)) (s : Reading (List (List ℕ))) → Judged (r >>= λ a. s >>= λ l. value (a ∷ l))
    → Judged r × Judged s × (joined_rows (r >>= λ a. s >>= λ l. value (a ∷ l)) ≡ bytes_or r ++ joined_rows s)
unfolding judged
joined_both (value a) (value l) h = (refl, refl, refl)
joined_both (value a) (refused k) h = absurd (never (sym h))
joined_both (refused k) s h = absurd (never (sym h))

bytes_size : (n : ℕ) (r : Reading (List ℕ)) → ((b : List ℕ) → r ≡ value b → length b ≡ n) → Judged r
    → length (bytes_or r) ≡ n
unfolding judged
bytes_size n (value b) sized h = sized b refl
bytes_size n (refused k) sized h = absurd (never (sym h))

module _ (kind : Kind) where
  abbrev items : ℕ → List ℤ → Reading (List (List ℕ))
  items n zs = rows (row_size kind) (piece_of kind) n zs

  piece_long : (zs : List ℤ) → Judged (piece_of kind zs) → length (bytes_or (piece_of kind zs)) ≡ item_size kind
  piece_long zs h = bytes_size (item_size kind) (piece_of kind zs) (piece_size kind zs) h

  -- items are as many bytes as their number says
  pub items_long : (n : ℕ) (zs : List ℤ) → Judged (items n zs) → length (joined_rows (items n zs)) ≡ item_size kind * n
  unfolding rows
  items_long zero zs h = sym (mul-zero (item_size kind))
  items_long (suc n) zs h =
      let t = joined_both (piece_of kind zs) (items n (drop (row_size kind) zs)) h in
      let rest = items_long n (drop (row_size kind) zs) t.1 in
      ap length t.2
      ∙ length-append (bytes_or (piece_of kind zs)) (joined_rows (items n (drop (row_size kind) zs)))
      ∙ ap₂ ◌+◌ (piece_long zs t.0) rest
      ∙ omega (arith, mul-suc (item_size kind) n)

  abbrev others : ℕ → List ℤ → Reading (List (List ℕ))
  others n zs = items (n - 1) (drop (row_size kind) zs)

  items_first : (n : ℕ) (zs : List ℤ) → 0 < n → Judged (items n zs)
      → Judged (piece_of kind zs)
      × Judged (others n zs)
      × (joined_rows (items n zs) ≡ bytes_or (piece_of kind zs) ++ joined_rows (others n zs))
  items_first n zs some h =
      let e = rows_first (row_size kind) (piece_of kind) n zs some in
      rw e (joined_both (piece_of kind zs) (others n zs) (rw e at h))

  -- the items that are left, put at a place, make all that is put
  pub record Ahead (start all room : List ℕ) (row : List ℤ) (left to : ℕ) : Type 0 where
    pub enough : row_size kind * left ≤ length row
    pub are : Judged (items left row)
    pub fits : to + item_size kind * left ≤ length room
    pub same : length room ≡ length start
    pub rest : put room to (joined_rows (items left row)) ≡ all

  pub all_ahead : (o : List ℕ) (zs : List ℤ) (n : ℕ)
      → (row_size kind * n ≤ length zs) × (2 + item_size kind * n ≤ length o) × Judged (items n zs)
      → Ahead o (put o 2 (joined_rows (items n zs))) o (drop (row_size kind * 0) zs) (n - 0) (2 + item_size kind * 0)
  all_ahead o zs n h =
      let all : n - 0 ≡ n = omega arith in
      rw (mul-zero (row_size kind), mul-zero (item_size kind), drop_none zs, all)
      (record { enough = h.0; are = h.2; fits = h.1; same = refl; rest = refl })

  module _ {o all room : List ℕ} {row : List ℤ} {left to : ℕ} (ahead : Ahead o all room row left to) where
    pub none_ahead : left ≤ 0 → room ≡ all
    none_ahead h =
        sym (put_none room to (omega (arith, ahead.fits)))
        ∙ ap (λ r. put room to (joined_rows r)) (sym (rows_none (row_size kind) (piece_of kind) left row h))
        ∙ ahead.rest

    module _ (some : 0 < left) where
      pub room_for : to + item_size kind ≤ length room
      room_for = omega (arith, ahead.fits, times_first (item_size kind) left some)

      pub next_ahead : {room' : List ℕ} → room' ≡ put room to (bytes_or (piece_of kind row))
          → Ahead o all room' (drop (row_size kind) row) (left - 1) (to + item_size kind)
      next_ahead stored =
          let piece : List ℕ = bytes_or (piece_of kind row) in
          let rest : List ℕ = joined_rows (others left row) in
          let t = items_first left row some ahead.are in
          let long = piece_long row t.0 in
          let rest-long = items_long (left - 1) (drop (row_size kind) row) t.1 in
          let all_fit = ahead.fits in
          let more = times_first (item_size kind) left some in
          let kept = length_put room to piece (omega arith) in
          rw stored (record {
            enough = rows_behind (row_size kind) left row ahead.enough some;
            are = t.1;
            fits = omega arith;
            same = kept ∙ ahead.same;
            rest = ap (λ j. put (put room to piece) (to + j) rest) (sym long)
                ∙ put_put room to piece (omega arith) rest (omega arith)
                ∙ ap (put room to) (sym t.2)
                ∙ ahead.rest;
          })

  -- the item of an index
  module _ {o all room : List ℕ} (zs : List ℤ) (n i : ℕ)
      (ahead : Ahead o all room (drop (row_size kind * i) zs) (n - i) (2 + item_size kind * i)) (some : i < n)
      {m : ℕ} (size : m ≡ item_size kind) where
    pub item_room : 2 + m * i + item_size kind ≤ length room
    item_room = rw size (room_for ahead (omega arith))

    pub item_put : {j : ℕ} {row : List ℤ} {room' : List ℕ} → j ≡ row_size kind → row ≡ drop (j * i) zs
        → room' ≡ put room (2 + m * i) (bytes_or (piece_of kind row))
        → Ahead o all room' (drop (row_size kind * (i + 1)) zs) (n - (i + 1)) (2 + item_size kind * (i + 1))
    item_put e f stored =
        let less : n - i - 1 ≡ n - (i + 1) = omega arith in
        let along : 2 + item_size kind * i + item_size kind ≡ 2 + item_size kind * (i + 1) =
        omega (arith, times_next (item_size kind) i) in
        rw (less, along, next_row (row_size kind) i zs) at (next_ahead ahead (omega arith) (rw (f, e, size) at stored))
