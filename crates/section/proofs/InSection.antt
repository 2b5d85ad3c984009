-- What stands between head and CRC is in the grammar or has a first fault, and the reading says which.
use Prim.Native.Nat.{ℕ, ◌+◌, ◌<◌, ◌≤◌}
use mathlib.Core.Path.{◌≡◌, ap, ap₂, ◌∙◌, sym, subst}
use mathlib.Core.Logic.{◌⊎◌, inl, inr}
use mathlib.Core.Bool.{false}
use mathlib.Core.List.{List, [], ◌∷◌, ◌++◌}
use native.Mathlib.Omega.{arith}
use native.Mathlib.Decide.{dec_le, ℕ_discrete}
use borrow.Author.Tests.{lt-ltb, le-ltb}
use lib.ListN.{length, take, drop, length-append, length-drop, take-append-drop}
use lib.Seq.{take-append_seam, drop-append_seam, drop-drop, length-take-le}
use lib.Dec.{ltb}
use Rattle.wire.specs.Bytes.{len12, len12_at}
use Rattle.wire.specs.Trail.{Trail, ended, before, answer}
use Rattle.tables.specs.Tables.{FixedTwo}
use Rattle.verdict.specs.Verdict.{Said, accepted, refused, is_accepted}
use Rattle.loops.specs.Descriptors.{Placed, descriptors}
use Rattle.section.specs.Entries.{entries}
use Rattle.section.specs.Reading.{LoopsRead, ◌and_then◌, size_of, fills, leaves_room, loop_then, one_loop, second_loop, two_loops, inside}
use Rattle.loops.specs.Grammar.{Descriptors, DescriptorFault}
use Rattle.section.specs.Grammar as grammar
use Rattle.section.specs.Grammar.{Inside, nothing, loop, loops}
use Rattle.section.specs.Faults as faults
use Rattle.section.specs.Faults.{FillFault, beyond, short, InsideFault, filling, no_room, top, second, behind}
use Rattle.tables.specs.declared.Row.{Row}
use Rattle.loops.proofs.InLoop as in_loop
use Rattle.section.proofs.InEntries as in_entries
use Rattle.section.proofs.Readings.{then-on, then-stop, inside_topped, inside_plain, topped_one, topped_two, plain_none, plain_entries}

-- ---- a loop that has to fill its container

fill_fault : {p : ℕ} {m : List ℕ} {k q : ℕ} → FillFault p m k q → fills p m ≡ refused k q
unfolding fills
fill_fault {m = m} (beyond h) = rw (lt-ltb (length m) (size_of m) h)
fill_fault {m = m} (short h) = rw (le-ltb (length m) (size_of m) (omega arith), lt-ltb (size_of m) (length m) h)

fill_just : (p : ℕ) (m : List ℕ) → length m ≡ size_of m → fills p m ≡ accepted
unfolding fills
fill_just p m e = rw (le-ltb (length m) (size_of m) (omega arith), le-ltb (size_of m) (length m) (omega arith))

fill_cases : (p : ℕ) (m : List ℕ) → (length m ≡ size_of m) ⊎ ((k : ℕ) × (q : ℕ) × FillFault p m k q)
fill_cases p m = go (dec_le (size_of m) (length m)) (dec_le (length m) (size_of m))
  where
    go : Dec (size_of m ≤ length m) → Dec (length m ≤ size_of m) → (length m ≡ size_of m) ⊎ ((k : ℕ) × (q : ℕ) × FillFault p m k q)
    go (yes a) (yes b) = inl (omega arith)
    go (yes a) (no b) = inr (10, p + size_of m, short (omega arith))
    go (no a) b = inr (8, p, beyond (omega arith))

then-refused : (v : Said) (x : LoopsRead) (k q : ℕ) → v ≡ refused k q → (v and_then x) ≡ ended (refused k q)
then-refused v x k q e = then-stop v x (ap is_accepted e) ∙ ap ended e

then-accepted : (v : Said) (x : LoopsRead) → v ≡ accepted → (v and_then x) ≡ x
then-accepted v x e = then-on v x (ap is_accepted e)

-- a loop's descriptors, and what is behind it
loop-on : (d : Trail Placed Said) (x : LoopsRead) (ds : List Placed) → d ≡ record { items = ds; ends = accepted }
    → loop_then d x ≡ before ds x
loop-on d x ds e = then-accepted d.ends _ (ap answer e) ∙ ap (λ (t : Trail Placed Said). before t.items x) e

-- ---- TOT

module _ (p high low : ℕ) (l : List ℕ) (size : len12 high low ≡ length l) where
  one_whole : (ds : List Placed) → Descriptors (p + 2) l ds → one_loop p (high ∷ low ∷ l) ≡ record { items = ds ∷ []; ends = accepted }
  unfolding one_loop
  one_whole ds d =
      then-accepted _ _ (fill_just p (high ∷ low ∷ l) (omega arith)) ∙ loop-on _ _ ds (in_loop.read_whole d)

  one_fault : (q : ℕ) → DescriptorFault (p + 2) l q → (one_loop p (high ∷ low ∷ l)).ends ≡ refused 9 q
  unfolding one_loop
  one_fault q f =
      ap answer (then-accepted _ _ (fill_just p (high ∷ low ∷ l) (omega arith)) ∙ then-refused _ _ 9 q (in_loop.read_fault f))

one_filling : (p k q : ℕ) (m : List ℕ) → FillFault p m k q → one_loop p m ≡ ended (refused k q)
unfolding one_loop
one_filling p k q m f = then-refused _ _ k q (fill_fault f)

-- ---- NIT, BAT

two_none : (fixed p : ℕ) (m : List ℕ) → length m < 2 + len12_at m 0 + 2 → two_loops fixed p m ≡ ended (refused 8 p)
unfolding two_loops leaves_room
two_none fixed p m h = then-refused _ _ 8 p (rw (lt-ltb (length m) (size_of m + 2) h))

module _ (fixed p high low : ℕ) (body l : List ℕ) (size : len12 high low ≡ length body) (room : 2 ≤ length l) where
  -- the top loop, and what stands behind it
  parts : two_loops fixed p (high ∷ low ∷ (body ++ l)) ≡ loop_then (descriptors (p + 2) body)
      (second_loop fixed (p + (2 + length body)) l)
  unfolding two_loops leaves_room
  parts =
      let n : ℕ = len12 high low in
      let m : List ℕ = high ∷ low ∷ (body ++ l) in
      let r : ltb (length m) (size_of m + 2) ≡ false = le-ltb (length m) (size_of m + 2) (omega (arith, length-append body l)) in
      let a : take n (body ++ l) ≡ body = ap (λ k. take k (body ++ l)) size ∙ take-append_seam body l in
      let b : drop (2 + n) m ≡ l = sym (drop-drop n 2 m) ∙ ap (λ k. drop k (body ++ l)) size ∙ drop-append_seam body l in
      then-accepted _ _ (rw r)
      ∙ ap₂ (λ x z. loop_then (descriptors (p + 2) x) (second_loop fixed (p + (2 + n)) z)) a b
      ∙ ap (λ k. loop_then (descriptors (p + 2) body) (second_loop fixed (p + (2 + k)) l)) size

  two_top : (q : ℕ) → DescriptorFault (p + 2) body q → (two_loops fixed p (high ∷ low ∷ (body ++ l))).ends ≡ refused 9 q
  two_top q f = ap answer (parts ∙ then-refused _ _ 9 q (in_loop.read_fault f))

  two_on : (ds : List Placed) → Descriptors (p + 2) body ds
      → two_loops fixed p (high ∷ low ∷ (body ++ l)) ≡ before ds (second_loop fixed (p + (2 + length body)) l)
  two_on ds d = parts ∙ loop-on _ _ ds (in_loop.read_whole d)

second_fault : (fixed p k q : ℕ) (m : List ℕ) → FillFault p m k q → second_loop fixed p m ≡ ended (refused k q)
unfolding second_loop
second_fault fixed p k q m f = then-refused _ _ k q (fill_fault f)

second_on : (fixed p high low : ℕ) (l : List ℕ) → len12 high low ≡ length l → second_loop fixed p (high ∷ low ∷ l)
    ≡ entries fixed (p + 2) l
unfolding second_loop
second_on fixed p high low l e = then-accepted _ _ (fill_just p (high ∷ low ∷ l) (omega arith))

-- ---- all shapes

module _ (row : Row) (p : ℕ) (two : FixedTwo row.fixed) where
  pub read_whole : {m : List ℕ} {ls : List (List Placed)} → Inside row p m ls → inside row p m ≡ record { items = ls; ends = accepted }
  read_whole (nothing t f) = inside_plain row p [] t ∙ plain_none row.fixed p [] f
  read_whole (loop t f high low {l = l} {ds = ds} e d) =
      inside_topped row p (high ∷ low ∷ l) t ∙ topped_one row.fixed p (high ∷ low ∷ l) f ∙ one_whole p high low l e ds d
  read_whole (loops t f high low body {ds = ds} e d high' low' {l = l} {rest = rest} e' r) =
      inside_topped row p (high ∷ low ∷ (body ++ (high' ∷ low' ∷ l))) t
      ∙ topped_two row.fixed p (high ∷ low ∷ (body ++ (high' ∷ low' ∷ l))) f
      ∙ two_on row.fixed p high low body (high' ∷ low' ∷ l) e (omega arith) ds d
      ∙ ap (before ds) (second_on row.fixed (p + (2 + length body)) high' low' l e' ∙ in_entries.read_whole row.fixed (two f) r)
  read_whole {m} (grammar.Inside.entries t f r) =
      inside_plain row p m t ∙ plain_entries row.fixed p m f ∙ ap (before []) (in_entries.read_whole row.fixed (two f) r)

  pub read_fault : {m : List ℕ} {k q : ℕ} → InsideFault row p m k q → (inside row p m).ends ≡ refused k q
  read_fault {m} {k} {q} (filling t f x) =
      ap answer (inside_topped row p m t ∙ topped_one row.fixed p m f ∙ one_filling p k q m x)
  read_fault (faults.InsideFault.loop t f high low {l = l} {q = q} e d) =
      ap answer (inside_topped row p (high ∷ low ∷ l) t ∙ topped_one row.fixed p (high ∷ low ∷ l) f) ∙ one_fault p high low l e q d
  read_fault {m} (no_room t f h) =
      ap answer (inside_topped row p m t ∙ topped_two row.fixed p m f ∙ two_none row.fixed p m h)
  read_fault {m} (top t f high low body l {q = q} e h d) =
      ap answer (inside_topped row p m t ∙ topped_two row.fixed p m f) ∙ two_top row.fixed p high low body l e h q d
  read_fault {m} (second t f high low body {l = l} {ds = ds} {k = k} {q = q} e h d x) =
      ap answer
      (inside_topped row p m t
      ∙ topped_two row.fixed p m f
      ∙ two_on row.fixed p high low body l e h ds d
      ∙ ap (before ds) (second_fault row.fixed (p + (2 + length body)) k q l x))
  read_fault {m} (behind t f high low body {ds = ds} e d high' low' {l = l} e' x) =
      ap answer
      (inside_topped row p m t
      ∙ topped_two row.fixed p m f
      ∙ two_on row.fixed p high low body (high' ∷ low' ∷ l) e (omega arith) ds d
      ∙ ap (before ds) (second_on row.fixed (p + (2 + length body)) high' low' l e'))
      ∙ in_entries.read_fault row.fixed (two f) x
  read_fault {m} (faults.InsideFault.entries t f x) =
      ap answer (inside_plain row p m t ∙ plain_entries row.fixed p m f) ∙ in_entries.read_fault row.fixed (two f) x

  -- there is no third case
  abbrev pub Either : List ℕ → Type 0
  Either m = ((ls : List (List Placed)) × Inside row p m ls) ⊎ ((k : ℕ) × (q : ℕ) × InsideFault row p m k q)

  one_cases : row.top ≡ 1 → row.fixed ≡ 0 → (m : List ℕ) → length m ≡ size_of m → Either m
  one_cases t f [] e = absurd (omega arith)
  one_cases t f (x ∷ []) e = absurd (omega arith)
  one_cases t f (high ∷ low ∷ l) e = go (in_loop.whole_or_fault (p + 2) l)
    where
      size : len12 high low ≡ length l
      size = omega arith

      go : in_loop.Either (p + 2) l → Either (high ∷ low ∷ l)
      go (inl (ds, d)) = inl (ds ∷ [], loop t f high low size d)
      go (inr (q, x)) = inr (9, q, faults.InsideFault.loop t f high low size x)

  entry_cases : row.top ≡ 1 → (g : row.fixed ≡ 0 → ⊥) → (high low : ℕ) (body l : List ℕ) (ds : List Placed) → len12 high low ≡ length body
      → Descriptors (p + 2) body ds → length l ≡ size_of l → Either (high ∷ low ∷ (body ++ l))
  entry_cases t g high low body [] ds e d s = absurd (omega arith)
  entry_cases t g high low body (x ∷ []) ds e d s = absurd (omega arith)
  entry_cases t g high low body (high' ∷ low' ∷ l) ds e d s =
      go (in_entries.whole_or_fault row.fixed (two g) (p + (2 + length body) + 2) l)
    where
      size : len12 high' low' ≡ length l
      size = omega arith

      go : in_entries.Either row.fixed (two g) (p + (2 + length body) + 2) l → Either (high ∷ low ∷ (body ++ (high' ∷ low' ∷ l)))
      go (inl (rest, r)) = inl (ds ∷ rest, loops t g high low body e d high' low' size r)
      go (inr (k, q, x)) = inr (k, q, behind t g high low body e d high' low' size x)

  top_cases : row.top ≡ 1 → (row.fixed ≡ 0 → ⊥) → (high low : ℕ) (body l : List ℕ) → len12 high low ≡ length body → 2 ≤ length l
      → Either (high ∷ low ∷ (body ++ l))
  top_cases t g high low body l e h = go (in_loop.whole_or_fault (p + 2) body)
    where
      next : (ds : List Placed) → Descriptors (p + 2) body ds
          → (length l ≡ size_of l) ⊎ ((k : ℕ) × (q : ℕ) × FillFault (p + (2 + length body)) l k q) → Either (high ∷ low ∷ (body ++ l))
      next ds d (inl s) = entry_cases t g high low body l ds e d s
      next ds d (inr (k, q, x)) = inr (k, q, second t g high low body e h d x)

      go : in_loop.Either (p + 2) body → Either (high ∷ low ∷ (body ++ l))
      go (inl (ds, d)) = next ds d (fill_cases (p + (2 + length body)) l)
      go (inr (q, x)) = inr (9, q, top t g high low body l e h x)

  two_cases : row.top ≡ 1 → (row.fixed ≡ 0 → ⊥) → (m : List ℕ) → Dec (2 + len12_at m 0 + 2 ≤ length m) → Either m
  two_cases t g m (no h) = inr (8, p, no_room t g {m = m} (omega arith))
  two_cases t g [] (yes h) = absurd (omega arith)
  two_cases t g (x ∷ []) (yes h) = absurd (omega arith)
  two_cases t g (high ∷ low ∷ r) (yes h) =
      let n : ℕ = len12 high low in
      subst (λ (x : List ℕ). Either (high ∷ low ∷ x)) (take-append-drop n r)
      (top_cases t g high low (take n r) (drop n r) (sym (length-take-le n r (omega arith))) (omega (arith, length-drop n r)))

  pub whole_or_fault : (m : List ℕ) → ((row.top ≡ 1 → ⊥) → row.fixed ≡ 0 → m ≡ []) → Either m
  whole_or_fault m empty = go (ℕ_discrete row.top 1) (ℕ_discrete row.fixed 0)
    where
      filled : row.top ≡ 1 → row.fixed ≡ 0 → (length m ≡ size_of m) ⊎ ((k : ℕ) × (q : ℕ) × FillFault p m k q) → Either m
      filled t f (inl s) = one_cases t f m s
      filled t f (inr (k, q, x)) = inr (k, q, filling t f x)

      listed : (row.top ≡ 1 → ⊥) → (g : row.fixed ≡ 0 → ⊥) → in_entries.Either row.fixed (two g) p m → Either m
      listed t g (inl (rest, r)) = inl ([] ∷ rest, grammar.Inside.entries t g r)
      listed t g (inr (k, q, x)) = inr (k, q, faults.InsideFault.entries t g x)

      go : Dec (row.top ≡ 1) → Dec (row.fixed ≡ 0) → Either m
      go (yes t) (yes f) = filled t f (fill_cases p m)
      go (yes t) (no g) = two_cases t g m (dec_le (2 + len12_at m 0 + 2) (length m))
      go (no t) (yes f) = subst Either (sym (empty t f)) (inl ([], nothing t f))
      go (no t) (no g) = listed t g (in_entries.whole_or_fault row.fixed (two g) p m)
