-- Laws of counting: items one behind the other, their number and their bytes, by what each says of its size.
use Prim.Native.Nat.{ℕ, suc, ◌+◌, ◌-◌, ◌*◌, ◌/◌, ◌%◌, ◌^◌, ◌<◌, ◌≤◌}
use mathlib.Core.Path.{◌≡◌, refl, sym, ap, ap₂, ◌∙◌, subst}
use mathlib.Core.List.{List, [], ◌∷◌, ◌++◌, append-nil}
use native.Mathlib.Omega.{arith}
use lib.ListN.{length, get_or, length-append}
use lib.Dec.{leb}
use Rattle.wire.specs.Bytes.{len12, len12_at}
use Rattle.wire.specs.Parts.{Part}
use Rattle.wire.specs.Number.{number_at}
use Rattle.wire.proofs.IfLaws.{if-case}
use Rattle.wire.proofs.PartLaws.{part_first, part_second}
use Rattle.tables.specs.Tables.{cell, row_at}
use Rattle.forms.specs.Form.{Form, each_show}
use Rattle.forms.specs.Fields.{pack}
use Rattle.forms.specs.Lists.{all, All, none, one, counted_show, loop_show}
use Rattle.forms.specs.Room.{sum}
use Rattle.forms.proofs.ListLaws.{Full}
use Rattle.forms.proofs.Puts.{sum_fits}
use Rattle.sheet.specs.Content.{Descriptor, entry_of, side_of}
use Rattle.sheet.specs.Sheet.{descriptor}
use Rattle.sheet.specs.Section.{section_item, section_entry}
use Rattle.turn.specs.Inner.Ways.{NumberIn, SizeAt, EntrySizes}
use Rattle.contents.proofs.SectionLaws.{no_more, half_side, section_items, sizes, numbers_of}
use Rattle.contents.proofs.Accepted.{says}
use Rattle.turn.proofs.PieceLaws.{part_within, part_byte, part_first_byte}
use Rattle.turn.proofs.HeadLaws.{four_rows}

pub sum_more : (n k m : ℕ) → n < m → m < 2 ^ 64 → 0 < k → n < sum n k
unfolding sum
sum_more n k m h g f =
    if-case (λ x. n < x) (leb (n + k) (2 ^ 64 - 1)) (λ _. omega arith) (λ _. omega arith)

-- so the place behind an item is nearer to the end
pub count_less : (m : ℕ) {p n size : ℕ} → n ≡ sum p size → 0 < size → p < m → m < 2 ^ 64 → m - n < m - p
count_less m {p} {size = size} hn some h b = omega (arith, sum_more p size m h b some)

-- ---- items that stand at the place `at` of s

module _ {A : Type 0} (c : Form A) (s : List ℕ) (at : ℕ) where
  -- what is left of the items m behind p of their bytes
  pub record Left (p : ℕ) (m : List A) : Type 0 where
    pub rest : List A
    pub ok : All c rest
    pub there : Part s (at + p) (all c rest)
    pub size : p + length (all c rest) ≡ length (all c m)

  all_left : (m : List A) → All c m → Part s at (all c m) → (x : Left 0 m) × (x.rest ≡ m)
  all_left m o t =
      let e : at ≡ at + 0 = omega arith in
      (record { rest = m; ok = o; there = subst (λ k. Part s k (all c m)) e t; size = omega arith }, refl)

  -- the item that stands there has so many bytes
  abbrev pub Says : ℕ → ℕ → Type 0
  Says p size = (a : A) → c.Ok a → Part s (at + p) (c.show a) → size ≡ length (c.show a)

  left_on : {p n size : ℕ} {m : List A} → length s < 2 ^ 64 → n ≡ sum p size → Says p size → (x : Left p m) → 0 < length x.rest
      → (y : Left n m) × (length x.rest ≡ suc (length y.rest))
  unfolding all
  left_on {p} {n} {size} {m} b hn says x = go x.rest x.ok x.there x.size
    where
      go : (r : List A) → All c r → Part s (at + p) (all c r) → p + length (all c r) ≡ length (all c m) → 0 < length r
          → (y : Left n m) × (length r ≡ suc (length y.rest))
      go [] none t z h = absurd (omega arith)
      go (a ∷ r) (one oa os) t z h =
          let w = length-append (c.show a) (all c r) in
          let within = part_within (c.show a ++ all c r) t in
          let own = says a oa (part_first (c.show a) (all c r) t) in
          let i : n ≡ p + length (c.show a) = hn ∙ ap (sum p) own ∙ sum_fits p (length (c.show a)) (omega arith) in
          let q : at + p + length (c.show a) ≡ at + n = omega arith in
          let u = subst (λ k. Part s k (all c r)) q (part_second (c.show a) (all c r) t) in
          (record { rest = r; ok = os; there = u; size = omega arith }, refl)

-- ---- items that fill bytes

module _ {A : Type 0} (c : Form A) (full : Full c) (l : List ℕ) where
  -- k items are behind the place p, and others fill what is left; there are no more items than bytes
  pub record Counting (p k : ℕ) : Type 0 where
    pub few : k ≤ p
    pub left : (m : List A) → All c m → all c m ≡ l → (x : Left c l 0 p m) × (k + length x.rest ≡ length m)

  pub count_begins : Counting 0 0
  count_begins = record {
    few = omega arith;
    left = λ m o e. let x = all_left c l 0 m o (whole (all c m) e) in (x.0, omega (arith, ap length x.1));
  }
    where
      whole : (m : List ℕ) → m ≡ l → Part l 0 m
      whole m e = record { front = []; back = []; whole = sym e ∙ sym (append-nil m); place = refl }

  -- one more, behind as many bytes as it says that it has
  pub count_on : {p k n size : ℕ} → n ≡ sum p size → 0 < size → Says c l 0 p size → p < length l → length l < 2 ^ 64
      → Counting p k → Counting n (k + 1)
  unfolding all
  count_on {p} {k} {n} {size} hn some says h b f =
      let more = sum_more p size (length l) h b some in
      let behind = f.few in
      record {
        few = omega arith;
        left = λ m o e.
            let x = f.left m o e in
            let y = left_on c l 0 b hn says x.0 (some_left x.0.rest (omega (arith, x.0.size, ap length e))) in
            (y.0, omega (arith, x.1, y.1));
      }
    where
      some_left : (r : List A) → 0 < length (all c r) → 0 < length r
      some_left [] h = absurd (omega arith)
      some_left (a ∷ r) h = omega arith

  -- none is left
  pub count_ends : {p k : ℕ} → length l ≤ p → Counting p k → NumberIn c l k
  count_ends {p} {k} h f m o e =
      let x = f.left m o e in
      omega (arith, x.1, x.0.size, ap length e, no_more c full x.0.rest x.0.ok)

-- ---- the bytes of so many descriptors

-- a descriptor says its size in its second byte
pub descriptor_says_lem : (s : List ℕ) (at p : ℕ) {b byte q : ℕ} → b ≡ byte → byte ≡ get_or s q 0 →
    (at + p + 1 < length s → q ≡ at + p + 1)
    → Says descriptor s at p (2 + b)
descriptor_says_lem s at p h hb e d o t =
    let within = part_within (descriptor.show d) t in
    let i = h ∙ hb ∙ ap (λ q. get_or s q 0) (e (omega arith)) ∙ part_byte (descriptor.show d) t 1 (omega arith) in
    omega arith

module _ (s : List ℕ) (at : ℕ) where
  -- n bytes are behind, and of so many descriptors i
  pub record Sizing (number n i : ℕ) : Type 0 where
    pub still : (m : List Descriptor) → All descriptor m → length m < 65536 → Part s at (counted_show descriptor m)
        → (x : Left descriptor s (at + 2) n m) × (length x.rest ≡ number - i)

  pub size_begins : {k : ℕ} → k ≡ number_at 2 s at → Sizing k 0 0
  unfolding counted_show number_at
  size_begins {k} hk = record {
    still = λ m o h w.
        let i : get_or s at 0 ≡ length m / 256 = part_first_byte (counted_show descriptor m) w (omega arith) in
        let j : get_or s (at + 1) 0 ≡ length m % 256 = part_byte (counted_show descriptor m) w 1 (omega arith) in
        let x = all_left descriptor s (at + 2) m o (part_second (length m / 256 ∷ length m % 256 ∷ []) (all descriptor m) w) in
        (x.0, omega (arith, ap length x.1));
  }

  pub size_on : {number n k next b byte first i : ℕ} → length s < 2 ^ 64 → k < number → first ≡ sum at 3
      → i ≡ sum first n → byte ≡ get_or s i 0
      → b ≡ byte → next ≡ sum n (2 + b) → Sizing number n k → Sizing number next (k + 1)
  size_on {n = n} {i = i} ls some hf hi hb h e f = record {
    still = λ m o small w.
        let x = f.still m o small w in
        let l = x.1 in
        let y = left_on descriptor s (at + 2) ls e (descriptor_says_lem s (at + 2) n h hb place) x.0 (omega arith) in
        (y.0, omega (arith, y.1));
  }
    where
      place : at + 2 + n + 1 < length s → i ≡ at + 2 + n + 1
      place h = hi ∙ ap (λ q. sum q n) (hf ∙ sum_fits at 3 (omega arith)) ∙ sum_fits (at + 3) n (omega arith) ∙ omega arith

  pub size_ends : {number n i : ℕ} → number ≤ i → Sizing number n i → SizeAt s at n
  unfolding all
  size_ends {number} {n} {i} ended f m o h w = let x = f.still m o h w in none_left x.0.rest x.1 x.0.size
    where
      none_left : (r : List Descriptor) → length r ≡ number - i → n + length (all descriptor r) ≡ length (all descriptor m)
          → n ≡ length (all descriptor m)
      none_left [] k z = omega arith
      none_left (d ∷ r) k z = absurd (omega arith)

-- ---- entries

pub fixed_small : (fixed row : ℕ) → EntrySizes fixed row → (2 ≤ fixed) × (fixed ≤ 12)
unfolding cell
fixed_small fixed row h =
    four_rows (λ r. fixed ≡ (row_at r).fixed → (2 ≤ fixed) × (fixed ≤ 12)) (λ e. (omega arith, omega arith))
    (λ e. (omega arith, omega arith)) (λ e. (omega arith, omega arith)) (λ e. (omega arith, omega arith)) row h.known h.has

-- an entry says the size of its loop at the end of its fixed bytes
pub entry_says_lem : (fixed row : ℕ) → EntrySizes fixed row → (l : List ℕ) (p : ℕ) → length l < 2 ^ 64
    → Says (section_entry row) l 0 p (fixed + len12_at l (sum p (fixed - 2)))
unfolding loop_show
entry_says_lem fixed row h l p b a o t =
    let items = each_show section_item (entry_of row) a.0 in
    let body = all descriptor a.1.1 in
    let n : ℕ = length body in
    let loop = (pack (side_of row) a.1.0 * 16 + n / 256) ∷ n % 256 ∷ body in
    let i = section_items (entry_of row) a.0 o.0 in
    let small = fixed_small fixed row h in
    let known = h.known in
    let has = h.has in
    let f : sizes (entry_of row) + 2 ≡ fixed = (numbers_of row (omega arith)).entry (λ z. omega arith) ∙ sym has in
    let w = length-append items loop in
    let within = part_within (items ++ loop) t in
    let k : fixed - 2 ≡ length items = omega arith in
    let at : sum p (fixed - 2) ≡ 0 + p + length items = ap (sum p) k ∙ sum_fits p (length items) (omega arith) ∙ omega arith in
    let u = part_second items loop t in
    let j : len12_at l (sum p (fixed - 2)) ≡ n =
    ap (len12_at l) at ∙ ap₂ len12 (part_first_byte loop u (omega arith)) (part_byte loop u 1 (omega arith))
    ∙ says descriptor (side_of row) (half_side row) a.1 o.1 in
    omega arith
