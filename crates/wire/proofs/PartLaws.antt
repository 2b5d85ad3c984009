-- Laws of parts of lists, for whatever reads a list from its front.
use mathlib.Core.Path.{◌≡◌, refl, sym, ap, ◌∙◌}
use mathlib.Core.List.{List, ◌∷◌, ◌++◌, append_assoc}
use Prim.Native.Nat.{ℕ, suc, ◌+◌, ◌<◌, ◌≤◌}
use native.Mathlib.Omega.{arith}
use native.Mathlib.Numerals.{add-one, add-two}
use lib.ListN.{length, get_or, take, drop, length-append, take-append-drop, get_or-append}
use lib.Seq.{drop-cons, drop-drop, take-add, take_at, drop_at, length-take-le, get_or-drop}
use Rattle.wire.specs.Bytes.{len12_at}
use Rattle.wire.specs.Parts.{Part}

-- the two bytes at a place, in front of what follows them
pub two_front : (l : List ℕ) (a : ℕ) → a + 2 ≤ length l → drop a l ≡ get_or l a 0 ∷ get_or l (a + 1) 0 ∷ drop (a + 2) l
two_front l a h =
    rw (add-one, add-two)
    (drop-cons l a 0 (omega arith) ∙ ap (λ x. get_or l a 0 ∷ x) (drop-cons l (suc a) 0 (omega arith)))

-- n elements from a place on, in front of what follows them
pub part_front : (l : List ℕ) (a n : ℕ) → drop a l ≡ take n (drop a l) ++ drop (a + n) l
part_front l a n = sym (take-append-drop n (drop a l)) ∙ ap (λ x. take n (drop a l) ++ x) (drop-drop n a l)

-- two joined lists whose first parts are as long as each other have the same parts
pub same_parts : (x y u v : List ℕ) → length x ≡ length u → x ++ y ≡ u ++ v → (x ≡ u) × (y ≡ v)
same_parts x y u v l e = (
  sym (take_at x y (length u) l) ∙ ap (take (length u)) e ∙ take_at u v (length u) refl,
  sym (drop_at x y (length u) l) ∙ ap (drop (length u)) e ∙ drop_at u v (length u) refl,
)

-- n elements from a place on: taken from there, or what is left of the front up to their end
pub part_of_front : (l : List ℕ) (a n : ℕ) → a ≤ length l → drop a (take (a + n) l) ≡ take n (drop a l)
part_of_front l a n h = ap (drop a) (take-add a n l) ∙ drop_at (take a l) (take n (drop a l)) a (length-take-le a l h)

-- a 12-bit length in what is left
pub len12_drop : (l : List ℕ) (a i : ℕ) → len12_at (drop a l) i ≡ len12_at l (a + i)
len12_drop l a i =
    let e : a + (i + 1) ≡ a + i + 1 = omega arith in
    cc (get_or-drop a l i 0, get_or-drop a l (i + 1) 0, ap (λ (k : ℕ). get_or l k 0) e)

-- a 12-bit length in the first of two joined lists
pub len12_front : (x y : List ℕ) (i : ℕ) → i + 1 < length x → len12_at (x ++ y) i ≡ len12_at x i
len12_front x y i h = cc (get_or-append x y 0 i (omega arith), get_or-append x y 0 (i + 1) h)

-- a part is what is taken at its place
pub part_taken : {s : List ℕ} {p : ℕ} {l : List ℕ} → Part s p l → take (length l) (drop p s) ≡ l
part_taken {s} {p} {l} h =
    ap (λ x. take (length l) (drop p x)) h.whole
    ∙ ap (take (length l)) (drop_at h.front (l ++ h.back) p h.place)
    ∙ take_at l h.back (length l) refl

-- a part of two parts
pub part_first : {s : List ℕ} {p : ℕ} (x y : List ℕ) → Part s p (x ++ y) → Part s p x
part_first x y h =
    record {
      front = h.front;
      back = y ++ h.back;
      whole = h.whole ∙ ap (λ z. h.front ++ z) (append_assoc x y h.back);
      place = h.place;
    }

pub part_second : {s : List ℕ} {p : ℕ} (x y : List ℕ) → Part s p (x ++ y) → Part s (p + length x) y
part_second x y h =
    record {
      front = h.front ++ x;
      back = h.back;
      whole = h.whole ∙ ap (λ z. h.front ++ z) (append_assoc x y h.back) ∙ sym (append_assoc h.front x (y ++ h.back));
      place = length-append h.front x ∙ ap (λ n. n + length x) h.place;
    }

-- the n elements of l at a place in it
pub part-at : (l : List ℕ) (a n : ℕ) → a ≤ length l → Part l a (take n (drop a l))
part-at l a n h =
    record {
      front = take a l;
      back = drop (a + n) l;
      whole = sym (take-append-drop a l) ∙ ap (λ x. take a l ++ x) (part_front l a n);
      place = length-take-le a l h;
    }

-- two parts, the second behind the first, are one
pub part_both : {s : List ℕ} {p : ℕ} (x y : List ℕ) → Part s p x → Part s (p + length x) y → Part s p (x ++ y)
part_both x y g h =
    let same =
    same_parts (g.front ++ x) g.back h.front (y ++ h.back)
    (length-append g.front x ∙ ap (λ n. n + length x) g.place ∙ sym h.place)
    (append_assoc g.front x g.back ∙ sym g.whole ∙ h.whole) in
    record {
      front = g.front;
      back = h.back;
      whole = g.whole ∙ ap (λ z. g.front ++ z) (ap (λ z. x ++ z) same.1 ∙ sym (append_assoc x y h.back));
      place = g.place;
    }
