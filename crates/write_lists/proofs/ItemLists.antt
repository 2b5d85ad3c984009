-- A writer of a list of items is the reverse of its reading, and refuses exactly what no descriptor has: for any layout
-- and any rows.
use Prim.{Unit, tt}
use mathlib.Core.Path.{◌≡◌, refl, sym, ap, ◌∙◌, subst}
use mathlib.Core.Logic.{◌↔◌, ◌⊎◌, inl, inr, ⊎_elim}
use mathlib.Core.Bool.{true}
use mathlib.Core.List.{List, [], ◌∷◌, ◌++◌, map, append-nil}
use Prim.Native.Nat.{ℕ, suc, ◌+◌, ◌*◌, ◌/◌, ◌%◌, ◌<◌, ◌≤◌}
use native.Mathlib.Nat.{mul-div_right, mul-mod_right, mul-le-mul_left}
use native.Mathlib.Omega.{arith}
use borrow.Author.Tests.{ltb-true, ltb-false}
use lib.Dec.{ltb}
use lib.IntN.{ℤ}
use lib.ListN.{length, get_or, take, drop, take-append-drop}
use lib.Seq.{drop-drop}
use Rattle.wire.specs.Bytes.{Bytes}
use Rattle.wire.specs.Each.{Each}
use Rattle.wire.specs.Reading.{Reading, value, refused, ◌>>=◌}
use Rattle.wire.proofs.IfLaws.{if-case}
use Rattle.wire.proofs.ReadingLaws.{value_is, refused_is, never, through}
use Rattle.forms.specs.Fields.{Field}
use Rattle.clock.specs.Fault.{Answered}
use Rattle.layout.specs.Items.{count}
use Rattle.layout.specs.Shapes as shapes
use Rattle.layout.specs.Shapes.{joined, Itemed}
use Rattle.layout.specs.Widths.{bits, size, keptIn, HoldsItem}
use Rattle.layout.proofs.Accepts.{item-at, count_exactly, item_is, each_at}
use Rattle.layout.proofs.WidthLaws.{given_bytes}
use Rattle.writing.specs.Fill.{ones, made, ReservedIn, below, capacities}
use Rattle.writing.specs.Rows.{items_of, together, items_from}
use Rattle.writing.specs.Written.{headed}
use Rattle.writing.specs.Reverse.{Reverse}
use Rattle.writing.proofs.NumberBytes.{bytes_join}
use Rattle.writing.proofs.Answers.{headed-value}
use Rattle.writing.proofs.Bodies.{headed_bytes}
use Rattle.writing.proofs.Made.{ones_laid, made_length, made_bytes, made_kept, made_reserved, kept_inside, made_again}
use Rattle.write_lists.specs.Lists.{list_of, rows_read, item_at, EachItem, UsualItems, Item, row_at, ItemExactly, LongExactly}
use Rattle.write_lists.proofs.RowReadings.{Field112, numbers_from, first_numbers, together_length, Rowed, row_count, row-at, items_exactly, items_refused, joined_map, piece_of, items_made, Beside, beside_map, beside_length, beside_with, beside_at, items_from_lem, from_items, beside_same, beside_size}

-- Items of A by a layout, behind a tag, and their rows of k numbers. The bits can say more of an item than its fields
-- do (of offsets the polarity), a B: `shown` are the values with it, Right says which go together, `chosen` is what the
-- writer takes. Extra is what bits must have beside the reserved ones, so that they say what the writer takes.
pub record ItemRows {A B : Type 0} (tag k : ℕ) (fs : List Field) (item : List ℤ → Reading A) (row : A → List ℤ)
    (read : List ℕ → ℕ → Answered A) (Right : B → A → Type 0) (shown : B → A → List ℕ) (chosen : A → B)
    (Extra : List ℕ → Type 0) : Type 0 where
  pub tagged : tag < 256
  pub some : 0 < k
  pub filled : 0 < size fs
  pub short : size fs ≤ 255
  pub fills : bits fs ≡ 8 * size fs
  pub exactly : (s : List ℕ) → Bytes s → (i : ℕ) (a : A)
      → read s i ≡ value a ↔ ((p : B) × Right p a × HoldsItem tag fs s i (shown p a))
  pub sized : (a : A) → length (row a) ≡ k
  pub there : (p : B) (a : A) (zs : List ℤ) → Right p a → below (shown p a) (capacities fs) ≡ true
      → item (row a ++ zs) ≡ value a
  pub back : (zs : List ℤ) (a : A) → item zs ≡ value a
      → (numbers_from zs 0 k ≡ row a) × Right (chosen a) a × (below (shown (chosen a) a) (capacities fs) ≡ true)
  pub only : (zs : List ℤ) → Field112 (item zs)
  pub again : (p : B) (a : A) (b : List ℕ) → Bytes b → length b ≡ size fs → Right p a → keptIn fs b ≡ shown p a
      → Extra b → p ≡ chosen a
  pub extra : (a : A) (b : List ℕ) → Bytes b → length b ≡ size fs → Right (chosen a) a
      → keptIn fs b ≡ shown (chosen a) a → Extra b

-- of m rows of k numbers that descriptors have, n bytes each: so many are written, and any more are too long
abbrev pub Most : {A : Type 0} → ℕ → ℕ → ℕ → (List ℕ → ℕ → Answered A) → (A → List ℤ) → (List ℤ → Reading (List ℕ))
    → Type 0
Most k n most read row write =
    (m : ℕ) (zs : List ℤ) → length zs ≡ k * m → ((i : ℕ) → i < m → Item read row (row_at k zs i))
    → (m ≤ most → (s : List ℕ) × (write zs ≡ value s) × (length s ≡ 2 + n * m)) × (most < m → write zs ≡ refused 113)

module _ {A B : Type 0} {tag k : ℕ} {fs : List Field} {item : List ℤ → Reading A} {row : A → List ℤ}
    {read : List ℕ → ℕ → Answered A} {Right : B → A → Type 0} {shown : B → A → List ℕ} {chosen : A → B}
    {Extra : List ℕ → Type 0} (laws : ItemRows tag k fs item row read Right shown chosen Extra) where
  abbrev n : ℕ
  n = size fs

  -- the bytes of an item
  abbrev bytes_of : A → List ℕ
  bytes_of a = made ones fs (shown (chosen a) a)

  abbrev write : List ℤ → Reading (List ℕ)
  write = list_of tag k (piece_of bytes_of item)

  abbrev read_rows : List ℕ → Answered (List ℤ)
  read_rows s = rows_read row (count s tag n) (read s)

  abbrev Good : A → Type 0
  Good a = Right (chosen a) a × (below (shown (chosen a) a) (capacities fs) ≡ true)

  rowed : Rowed k item row Good
  rowed = record {
    some = laws.some;
    sized = laws.sized;
    there = λ a zs g. laws.there (chosen a) a zs g.0 g.1;
    back = λ zs a h e. let x = laws.back zs a e in (first_numbers k zs h ∙ x.0, (x.1, x.2));
    only = laws.only;
  }

  -- ---- bytes and items

  -- bytes that are read as an item
  abbrev Held : List ℕ → A → Type 0
  Held b a = (p : B) × Right p a × (keptIn fs b ≡ shown p a) × Bytes b × (length b ≡ n)

  -- bytes that are written of it
  abbrev Written : List ℕ → A → Type 0
  Written b a = Good a × (bytes_of a ≡ b)

  bytes_length : (a : A) → length (bytes_of a) ≡ n
  bytes_length a = made_length fs n laws.fills ones (shown (chosen a) a)

  bytes_bytes : (a : A) → Bytes (bytes_of a)
  bytes_bytes a = made_bytes fs n laws.fills ones (shown (chosen a) a)

  bytes_kept : (a : A) → Good a → keptIn fs (bytes_of a) ≡ shown (chosen a) a
  bytes_kept a g = made_kept fs n laws.fills ones (shown (chosen a) a) ones_laid g.1

  written_held : (b : List ℕ) (a : A) → Written b a → Held b a
  written_held b a w =
      subst (λ b. Held b a) w.1 (chosen a, w.0.0, bytes_kept a w.0, bytes_bytes a, bytes_length a)

  held_good : (b : List ℕ) (a : A) → Held b a → Good a
  held_good b a (p, right, kept, bytes, l) =
      let inside = subst (λ vs. below vs (capacities fs) ≡ true) kept (kept_inside fs n laws.fills b bytes l) in
      let size : length (row a ++ []) ≡ k = ap length (append-nil (row a)) ∙ laws.sized a in
      (rowed.back (row a ++ []) a (omega arith) (laws.there p a [] right inside)).1

  -- "writing what was read gives the bytes"
  held_same : (b : List ℕ) (a : A) → Held b a × (ReservedIn ones fs b × Extra b) → bytes_of a ≡ b
  held_same b a ((p, right, kept, bytes, l), (reserved, other)) =
      let same : p ≡ chosen a = laws.again p a b bytes l right kept other in
      ap (made ones fs) (sym (kept ∙ ap (λ q. shown q a) same)) ∙ made_again fs n laws.fills b bytes l ones reserved

  written_usual : (b : List ℕ) (a : A) → Written b a → ReservedIn ones fs b × Extra b
  written_usual b a (g, e) =
      subst (λ b. ReservedIn ones fs b × Extra b) e (
        made_reserved fs n laws.fills ones (shown (chosen a) a) ones_laid g.1,
        laws.extra a (bytes_of a) (bytes_bytes a) (bytes_length a) g.0 (bytes_kept a g),
      )

  -- ---- a descriptor of items

  module _ (s : List ℕ) (bytes : Bytes s) (xs : List (List ℕ)) (are : Itemed n tag s xs) (i : ℕ) (a : A)
      (l : i < length xs) where
    held_at : read s i ≡ value a → Held (get_or xs i []) a
    held_at e =
        let x = (laws.exactly s bytes i a).0 e in
        let h = x.2 in
        let there = item_is n tag laws.filled s xs are i l in
        let same : get_or h.items i [] ≡ get_or xs i [] =
        value_is (sym (item_is n tag laws.filled s h.items h.itemed i h.there) ∙ there) in (
          x.0,
          x.1,
          ap (keptIn fs) (sym same) ∙ h.fields,
          given_bytes tag n i laws.filled s bytes fs laws.fills (get_or xs i []) there,
          each_at n xs i are.each l,
        )

    read_at : Held (get_or xs i []) a → read s i ≡ value a
    read_at h = (laws.exactly s bytes i a).1 (h.0, h.1, record { items = xs; itemed = are; there = l; fields = h.2 })

  -- what is read are the rows of the items that its bytes are read as
  rows_of : (s : List ℕ) → Bytes s → (xs : List (List ℕ)) (l : List A) → Itemed n tag s xs → Beside Held xs l
      → read_rows s ≡ value (together row l)
  rows_of s bytes xs l are x =
      rw (
        (count_exactly n tag laws.filled s (length xs)).1 (xs, are, refl),
        items_from_lem Held [] (read s) xs l 0
            (λ j a h r. subst (λ i. read s i ≡ value a) (omega arith) (read_at s bytes xs are j a h r)) x,
      )

  of_rows : (s : List ℕ) → Bytes s → (zs : List ℤ) → read_rows s ≡ value zs
      → (xs : List (List ℕ)) × (l : List A) × Itemed n tag s xs × Beside Held xs l × (together row l ≡ zs)
  of_rows s bytes zs e =
      let t = through (count s tag n) _ zs e in
      let c = (count_exactly n tag laws.filled s t.0).0 t.1 in
      let u = through (items_from (read s) 0 t.0) _ zs t.2 in
      let from = subst (λ m. items_from (read s) 0 m ≡ value u.0) (sym c.2) u.1 in (
        c.0,
        u.0,
        c.1,
        from_items Held [] (read s) c.0 u.0 0
            (λ j a h r. held_at s bytes c.0 c.1 j a h (subst (λ i. read s i ≡ value a) (omega arith) r)) from,
        value_is u.2,
      )

  -- the items of a descriptor by their indices
  module _ (s : List ℕ) (xs : List (List ℕ)) (are : Itemed n tag s xs) (many : length (joined xs) ≡ n * length xs) where
    item_count : length (drop 2 s) / n ≡ length xs
    item_count =
        ap (λ t. length (drop 2 t) / n) are.framed
        ∙ ap (λ j. j / n) many
        ∙ mul-div_right (length xs) laws.filled

    item_there : (i : ℕ) → i < length xs → item_at fs s i ≡ get_or xs i []
    item_there i h =
        ap (take n) (sym (drop-drop (n * i) 2 s) ∙ ap (λ t. drop (n * i) (drop 2 t)) are.framed)
        ∙ item-at n xs i are.each h

    -- a property of each item's bytes
    each_item : (P : List ℕ → Type 0) → EachItem P fs s ↔ ((i : ℕ) → i < length xs → P (get_or xs i []))
    each_item P = (
      λ h i l. subst P (item_there i l) (h i (subst (λ m. i < m) (sym item_count) l)),
      λ h i l. let l' = subst (λ m. i < m) item_count l in subst P (sym (item_there i l')) (h i l'),
    )

  -- ---- what is written

  abbrev body : List A → List ℕ
  body l = together bytes_of l

  abbrev whole : List A → List ℕ
  whole l = tag ∷ length (body l) ∷ body l

  body_length : (l : List A) → length (body l) ≡ n * length l
  body_length = together_length n bytes_of bytes_length

  body_bytes : (l : List A) → Bytes (body l)
  unfolding together
  body_bytes [] i = omega arith
  body_bytes (a ∷ l) i = bytes_join (bytes_of a) (body l) (bytes_bytes a) (body_bytes l) i

  whole_bytes : (l : List A) → n * length l ≤ 255 → Bytes (whole l)
  whole_bytes l h = headed_bytes tag (body l) laws.tagged (let e = body_length l in omega arith) (body_bytes l)

  whole_items : (l : List A) → Itemed n tag (whole l) (map bytes_of l)
  whole_items l = record { framed = ap (λ b. tag ∷ length b ∷ b) (sym (joined_map bytes_of l)); each = each l }
    where
      each : (l : List A) → shapes.Each n (map bytes_of l)
      each [] = tt
      each (a ∷ l) = (bytes_length a, each l)

  written_beside : (l : List A) → Each Good l → Beside Written (map bytes_of l) l
  written_beside [] g = tt
  written_beside (a ∷ l) g = ((g.0, refl), written_beside l g.1)

  -- "Reading back gives the fields"
  whole_read : (l : List A) → Each Good l → n * length l ≤ 255 → read_rows (whole l) ≡ value (together row l)
  whole_read l g h =
      rows_of (whole l) (whole_bytes l h) (map bytes_of l) l (whole_items l)
      (beside_map Written Held written_held (map bytes_of l) l (written_beside l g))

  write_items : (zs : List ℤ) → write zs ≡ (items_of k item zs >>= λ l. headed tag (body l))
  write_items zs =
      ap (λ r. r >>= λ l. headed tag (joined l)) (items_made bytes_of k item zs) ∙ behind (items_of k item zs)
    where
      behind : (r : Reading (List A))
          → ((r >>= λ l. value (map bytes_of l)) >>= λ l. headed tag (joined l)) ≡ (r >>= λ l. headed tag (body l))
      behind (value l) = ap (headed tag) (joined_map bytes_of l)
      behind (refused j) = refl

  write_whole : (l : List A) → Each Good l → n * length l ≤ 255 → write (together row l) ≡ value (whole l)
  write_whole l g h =
      write_items (together row l)
      ∙ ap (λ r. r >>= λ l. headed tag (body l)) ((items_exactly rowed (together row l) l).1 (g, refl))
      ∙ headed-value tag (body l) (let e = body_length l in omega arith)

  -- ---- rows that some descriptor has

  item_good : (r : List ℤ) → Item read row r → (a : A) × Good a × (row a ≡ r)
  item_good r (s, j, a, bytes, e, q) =
      let h = ((laws.exactly s bytes j a).0 e).2 in
      (a, held_good _ a (held_at s bytes h.items h.itemed j a h.there e), q)

  good_item : (a : A) → Good a → Item read row (row a)
  good_item a g =
      let l : List A = a ∷ [] in
      let h : n * 1 ≤ 255 = let z = laws.short in omega arith in (
        whole l,
        0,
        a,
        whole_bytes l h,
        read_at (whole l) (whole_bytes l h) (map bytes_of l) (whole_items l) 0 a (omega arith)
            (written_held (bytes_of a) a (g, refl)),
        refl,
      )

  -- each row is such as some descriptor has
  abbrev Inside : List ℤ → Type 0
  Inside zs = (length zs % k ≡ 0) × ((i : ℕ) → i < length zs / k → Item read row (row_at k zs i))

  -- numbers are left that are no row, or one row is such that no descriptor has it
  abbrev Outside : List ℤ → Type 0
  Outside zs =
      (length zs % k ≡ 0 → ⊥) ⊎ ((i : ℕ) × (i < length zs / k) × (Item read row (row_at k zs i) → ⊥))

  not_outside : (zs : List ℤ) → Inside zs → Outside zs → ⊥
  not_outside zs x = ⊎_elim (λ h. h x.0) (λ y. y.2 (x.1 y.0 y.1))

  good_inside : (zs : List ℤ) (l : List A) → Each Good l → together row l ≡ zs → Inside zs × (length zs / k ≡ length l)
  good_inside zs l g e =
      let c = row_count rowed l in
      subst (λ zs. Inside zs × (length zs / k ≡ length l)) e (
        (
          c.0,
          λ i h.
              let x = row-at rowed l i (subst (λ m. i < m) c.1 h) g in
              subst (Item read row) (sym x.2) (good_item x.0 x.1),
        ),
        c.1,
      )

  refused_outside : (zs : List ℤ) (j : ℕ) → items_of k item zs ≡ refused j → (j ≡ 112) × Outside zs
  refused_outside zs j e =
      let x = items_refused rowed zs j e in (
        x.0,
        ⊎_elim (λ h. inl h) (λ (y : (i : ℕ) × (i < length zs / k) × _).
            inr (y.0, y.1, λ r. never (sym (accepted y.0 r) ∙ y.2))) x.1,
      )
    where
      accepted : (i : ℕ) (r : Item read row (row_at k zs i)) → item (drop (k * i) zs) ≡ value (item_good _ r).0
      accepted i r =
          let d : List ℤ = drop (k * i) zs in
          let x = item_good _ r in
          let same : row x.0 ++ drop k d ≡ d = ap (λ t. t ++ drop k d) x.2 ∙ take-append-drop k d in
          subst (λ t. item t ≡ value x.0) same (rowed.there x.0 (drop k d) x.1)

  -- the three answers
  by_cases : (zs : List ℤ) (P : Reading (List ℕ) → Type 0)
      → ((l : List A) → Each Good l → together row l ≡ zs → n * length l ≤ 255 → P (value (whole l)))
      → ((l : List A) → Each Good l → together row l ≡ zs → 255 < n * length l → P (refused 113))
      → (Outside zs → P (refused 112))
      → P (write zs)
  by_cases zs P some long outside = subst P (sym (write_items zs)) (cases (items_of k item zs) refl)
    where
      cases : (r : Reading (List A)) → items_of k item zs ≡ r → P (r >>= λ l. headed tag (body l))
      cases (value l) e =
          let x = (items_exactly rowed zs l).0 e in
          let b = body_length l in
          if-case P (ltb 255 (length (body l)))
          (λ h. long l x.0 x.1 (let g = ltb-true 255 (length (body l)) h in omega arith))
          (λ h. some l x.0 x.1 (let g = ltb-false 255 (length (body l)) h in omega arith))
      cases (refused j) e =
          let x = refused_outside zs j e in
          subst (λ i. P (refused i)) (sym x.0) (outside x.1)

  -- ---- the reverse of the reading

  abbrev Wrote : List ℤ → List ℕ → Type 0
  Wrote zs s = (l : List A) × Each Good l × (together row l ≡ zs) × (n * length l ≤ 255) × (whole l ≡ s)

  write_value : (zs : List ℤ) (s : List ℕ) → write zs ≡ value s → Wrote zs s
  write_value zs s =
      by_cases zs (λ r. r ≡ value s → Wrote zs s) (λ l g e h q. (l, g, e, h, value_is q))
      (λ _ _ _ _ q. absurd (never (sym q))) (λ _ q. absurd (never (sym q)))

  module _ (s : List ℕ) (bytes : Bytes s) (xs : List (List ℕ)) (l : List A) (are : Itemed n tag s xs)
      (x : Beside Held xs l) where
    beside_good : Each Good l
    beside_good = good xs l x
      where
        good : (xs : List (List ℕ)) (l : List A) → Beside Held xs l → Each Good l
        good xs [] x = tt
        good [] (a ∷ l) x = absurd x
        good (b ∷ xs) (a ∷ l) x = (held_good b a x.0, good xs l x.1)

    size_same : length (body l) ≡ length (joined xs)
    size_same = beside_size Held bytes_of (λ b a h. bytes_length a ∙ sym h.4) xs l x

    beside_short : n * length l ≤ 255
    beside_short =
        let e = body_length l in
        let q = size_same in
        let h : length (joined xs) < 256 = subst (λ t. get_or t 1 0 < 256) are.framed (bytes 1) in
        omega arith

    beside_many : length (joined xs) ≡ n * length xs
    beside_many = sym size_same ∙ body_length l ∙ ap (λ j. n * j) (sym (beside_length Held xs l x))

    beside_whole : UsualItems fs s × EachItem Extra fs s → whole l ≡ s
    beside_whole u =
        let reserved = (each_item s xs are beside_many (ReservedIn ones fs)).0 u.0 in
        let other = (each_item s xs are beside_many Extra).0 u.1 in
        let y = beside_with Held [] (λ b. ReservedIn ones fs b × Extra b) xs l x (λ i h. (reserved i h, other i h)) in
        ap (λ b. tag ∷ length b ∷ b) (beside_same _ bytes_of held_same xs l y) ∙ sym are.framed

  whole_usual : (l : List A) → Each Good l → UsualItems fs (whole l) × EachItem Extra fs (whole l)
  whole_usual l g =
      let bs : List (List ℕ) = map bytes_of l in
      let w = written_beside l g in
      let many : length (joined bs) ≡ n * length bs =
      ap length (joined_map bytes_of l) ∙ body_length l ∙ ap (λ j. n * j) (sym (beside_length Written bs l w)) in
      let usual : (i : ℕ) → i < length bs → ReservedIn ones fs (get_or bs i []) × Extra (get_or bs i []) =
      λ i h. let y = beside_at Written [] bs l w i h in written_usual _ y.0 y.1 in (
        (each_item (whole l) bs (whole_items l) many (ReservedIn ones fs)).1 (λ i h. (usual i h).0),
        (each_item (whole l) bs (whole_items l) many Extra).1 (λ i h. (usual i h).1),
      )

  pub reverse : Reverse (λ (zs : List ℤ). Unit {0}) read_rows write (λ s. UsualItems fs s × EachItem Extra fs s)
  reverse = record {
    reads_back = λ zs s _ e.
        let (l, g, q, h, w) = write_value zs s e in
        subst (λ t. read_rows t ≡ value zs) w (whole_read l g h ∙ ap value q);
    writes_back = λ s zs bytes u e.
        let (xs, l, are, x, q) = of_rows s bytes zs e in
        ap write (sym q)
        ∙ write_whole l (beside_good s bytes xs l are x) (beside_short s bytes xs l are x)
        ∙ ap value (beside_whole s bytes xs l are x u);
    usual = λ zs s _ e.
        let (l, g, q, h, w) = write_value zs s e in
        subst (λ s. UsualItems fs s × EachItem Extra fs s) w (whole_usual l g);
    bytes = λ zs s _ e. let (l, g, q, h, w) = write_value zs s e in subst Bytes w (whole_bytes l h);
    lent = λ _ _ _ _. tt;
    written = λ s zs bytes e.
        let (xs, l, are, x, q) = of_rows s bytes zs e in
        (whole l, ap write (sym q) ∙ write_whole l (beside_good s bytes xs l are x) (beside_short s bytes xs l are x));
    numbers = λ zs j.
        by_cases zs (λ r. r ≡ refused j → (j ≡ 112) ⊎ (j ≡ 113)) (λ _ _ _ _ e. absurd (never e))
        (λ _ _ _ _ e. inr (sym (refused_is e))) (λ _ e. inl (sym (refused_is e)));
  }

  -- ---- which lists are refused

  pub item_exactly : ItemExactly k read row write
  item_exactly zs = (
    by_cases zs (λ r. r ≡ refused 112 → Outside zs) (λ _ _ _ _ e. absurd (never e))
        (λ _ _ _ _ e. let z : ◌≡◌ {A = ℕ} 113 112 = refused_is e in absurd (omega arith)) (λ o _. o),
    λ o.
        by_cases zs (λ r. r ≡ refused 112) (λ l g e _. absurd (not_outside zs (good_inside zs l g e).0 o))
        (λ l g e _. absurd (not_outside zs (good_inside zs l g e).0 o)) (λ _. refl),
  )

  -- rows that descriptors have, by their number
  by_number : (zs : List ℤ) (P : Reading (List ℕ) → Type 0) → Inside zs
      → ((l : List A) → length zs / k ≡ length l → n * (length zs / k) ≤ 255 → P (value (whole l)))
      → (255 < n * (length zs / k) → P (refused 113))
      → P (write zs)
  by_number zs P x some long =
      by_cases zs P
      (λ l g e h. let c = (good_inside zs l g e).1 in some l c (subst (λ m. n * m ≤ 255) (sym c) h))
      (λ l g e h. long (subst (λ m. 255 < n * m) (sym (good_inside zs l g e).1) h))
      (λ o. absurd (not_outside zs x o))

  pub long_exactly : LongExactly k n read row write
  long_exactly zs = (
    by_cases zs (λ r. r ≡ refused 113 → Long) (λ _ _ _ _ e. absurd (never e))
        (λ l g e h _. let x = good_inside zs l g e in
        (x.0.0, x.0.1, subst (λ m. 255 < n * m) (sym x.1) h))
        (λ _ e. let z : ◌≡◌ {A = ℕ} 112 113 = refused_is e in absurd (omega arith)),
    λ x. by_number zs (λ r. r ≡ refused 113) (x.0, x.1) (λ _ _ h. absurd (omega (arith, h, x.2))) (λ _. refl),
  )
    where
      Long : Type 0
      Long =
          (length zs % k ≡ 0)
          × ((i : ℕ) → i < length zs / k → Item read row (row_at k zs i))
          × (255 < n * (length zs / k))

  module _ (m : ℕ) (zs : List ℤ) (many : length zs ≡ k * m)
      (each : (i : ℕ) → i < m → Item read row (row_at k zs i)) where
    rows_are : length zs / k ≡ m
    rows_are = ap (λ j. j / k) many ∙ mul-div_right m laws.some

    inside : Inside zs
    inside = (ap (λ j. j % k) many ∙ mul-mod_right k m, λ i h. each i (subst (λ j. i < j) rows_are h))

    fit_written : n * m ≤ 255 → (s : List ℕ) × (write zs ≡ value s) × (length s ≡ 2 + n * m)
    fit_written h =
        by_number zs (λ r. (s : List ℕ) × (r ≡ value s) × (length s ≡ 2 + n * m)) inside
        (λ l c _. (
          whole l,
          refl,
          let b = body_length l ∙ ap (λ j. n * j) (sym c ∙ rows_are) in omega arith,
        ))
        (λ g. absurd (let g' = subst (λ j. 255 < n * j) rows_are g in omega arith))

    past_long : 255 < n * m → write zs ≡ refused 113
    past_long h = (long_exactly zs).1 (inside.0, inside.1, subst (λ j. 255 < n * j) (sym rows_are) h)

  pub most_pass : (most : ℕ) → n * most ≤ 255 → 255 < n * suc most → Most k n most read row write
  most_pass most fits over m zs many each = (
    λ h. fit_written m zs many each (let g = mul-le-mul_left n h in omega arith),
    λ h. past_long m zs many each (let g = mul-le-mul_left n h in omega arith),
  )
