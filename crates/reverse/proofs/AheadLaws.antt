-- What is ahead of a packet, said of the bytes themselves: the bytes left of the section begun, and the sections that
-- wait, each whole. So it is of all sections before the first packet, and stays so as bytes are laid. Then a byte tells
-- where it stands: a section's first byte is behind those left, and a section's last byte among those left is the last
-- of them.
use mathlib.Core.Path.{◌≡◌, refl, sym, ap, ◌∙◌, subst}
use mathlib.Core.Bool.{Bool, true, false}
use mathlib.Core.List.{List, [], ◌∷◌, ◌++◌, append_assoc, map, flatten, cons≢nil, head-eq_of_cons-eq, tail-eq_of_cons-eq}
use Prim.Native.Nat.{ℕ, zero, suc, ◌+◌, ◌-◌, ◌≤◌, ◌<◌}
use native.Mathlib.Omega.{arith}
use lib.ListN.{length, drop, length-append, length-drop}
use lib.Seq.{drop-append-le, drop-append-add}
use lib.Dec.{ltb}
use borrow.Author.Tests.{ltb-true, ltb-false}
use Rattle.std.specs.Prelude.{if◌then◌else◌}
use Rattle.wire.specs.Each.{Each}
use Rattle.writer.specs.Layout.{Ahead, sum, bytes_ahead, opened, waits, unbegun}
use Rattle.writer.proofs.SizeLaws.{sum_long}
use Rattle.reverse.specs.Places.{Place, places_of, placed_from, placed}
use Rattle.reverse.proofs.CellLaws.{NoBegin}

-- ---- what is left of a section, and a whole one

-- none of its bytes begins it, and each has as many behind it as follow
abbrev pub Tail : List Place → Type 0
Tail [] = Unit {0}
Tail (b ∷ bs) = NoBegin b × (b.behind ≡ length bs) × Tail bs

abbrev pub Whole : List Place → Type 0
Whole [] = ⊥
Whole (b ∷ bs) = (b.before ≡ 0) × (b.behind ≡ length bs) × Tail bs

pub record AheadOf (bytes : List Place) (a : Ahead) : Type 0 where
  pub rest : List Place
  pub wholes : List (List Place)
  pub are : bytes ≡ rest ++ flatten wholes
  pub is_tail : Tail rest
  pub are_whole : Each Whole wholes
  pub left_is : length rest ≡ a.left
  pub waiting_are : map length wholes ≡ a.waiting

tail_drop : (n : ℕ) (l : List Place) → Tail l → Tail (drop n l)
tail_drop zero l x = x
tail_drop (suc n) [] x = tt
tail_drop (suc n) (b ∷ l) x = tail_drop n l x.2

pub tail_begins_none : (l : List Place) → Tail l → Each NoBegin l
tail_begins_none [] x = tt
tail_begins_none (b ∷ l) x = (x.0, tail_begins_none l x.2)

pub ahead_length : (bytes : List Place) (a : Ahead) → AheadOf bytes a → length bytes ≡ bytes_ahead a
ahead_length bytes a h =
    ap length h.are
    ∙ length-append h.rest (flatten h.wholes)
    ∙ (λ i. h.left_is i + (sym (sum_long h.wholes) ∙ ap sum h.waiting_are) i)

-- ---- before the first packet

length_places : (i j : ℕ) (s : List ℕ) → length (places_of i j s) ≡ length s
length_places i j [] = refl
length_places i j (v ∷ vs) = ap suc (length_places i (j + 1) vs)

places_tail : (i j : ℕ) (s : List ℕ) → 0 < j → Tail (places_of i j s)
places_tail i j [] k = tt
places_tail i j (v ∷ vs) k =
    (λ e. omega arith, sym (length_places i (j + 1) vs), places_tail i (j + 1) vs (omega arith))

places_whole : (i : ℕ) (s : List ℕ) → 0 < length s → Whole (places_of i 0 s)
places_whole i [] k = absurd (omega arith)
places_whole i (v ∷ vs) k = (refl, sym (length_places i 1 vs), places_tail i 1 vs (omega arith))

placed_whole : (i : ℕ) (ss : List (List ℕ)) → Each (λ s. 0 < length s) ss → Each Whole (placed_from i ss)
placed_whole i [] x = tt
placed_whole i (s ∷ ss) x = (places_whole i s x.0, placed_whole (i + 1) ss x.1)

placed_lengths : (i : ℕ) (ss : List (List ℕ)) → map length (placed_from i ss) ≡ map length ss
placed_lengths i [] = refl
placed_lengths i (s ∷ ss) = λ k. length_places i 0 s k ∷ placed_lengths (i + 1) ss k

pub ahead_first : (ss : List (List ℕ)) → Each (λ s. 0 < length s) ss
    → AheadOf (flatten (placed ss)) (unbegun (map length ss))
ahead_first ss x = record {
  rest = [];
  wholes = placed ss;
  are = refl;
  is_tail = tt;
  are_whole = placed_whole 0 ss x;
  left_is = refl;
  waiting_are = placed_lengths 0 ss;
}

-- ---- once n bytes are laid

-- the bytes of one section more, where those before it are all laid
tail_more : (n : ℕ) (front w : List Place) → length front < n → Whole w → Tail (drop n (front ++ w))
tail_more n front [] k x = absurd x
tail_more n front (b ∷ bs) k x =
    let m : ℕ = n - suc (length front) in
    let e : n ≡ length front + suc m = omega arith in
    subst (λ (j : ℕ). Tail (drop j (front ++ (b ∷ bs)))) (sym e)
    (subst Tail (sym (drop-append-add front (b ∷ bs) (suc m))) (tail_drop m bs x.2))

opened_of : (n : ℕ) (front : List Place) (ws : List (List Place)) → Tail (drop n front) → Each Whole ws
    → n ≤ length front + sum (map length ws)
    → AheadOf (drop n (front ++ flatten ws)) (opened n (length front) (map length ws))
unfolding flatten
opened_of n front [] t x k = record {
  rest = drop n front;
  wholes = [];
  are = drop-append-le n front [] (omega arith);
  is_tail = t;
  are_whole = tt;
  left_is = length-drop n front;
  waiting_are = refl;
}
opened_of n front (w ∷ ws) t x k =
    at (λ v. opened_of n (front ++ w) ws (tail_more n front w v x.0) x.1 (omega (arith, length-append front w)))
    (ltb (length front) n) refl
  where
    at : (length front < n
        → AheadOf (drop n ((front ++ w) ++ flatten ws)) (opened n (length (front ++ w)) (map length ws)))
        → (b : Bool) → ltb (length front) n ≡ b
        → AheadOf (drop n (front ++ (w ++ flatten ws)))
        (if b then opened n (length front + length w) (map length ws)
        else record { left = length front - n; waiting = length w ∷ map length ws })
    at more true e =
        subst (λ (m : ℕ). AheadOf (drop n (front ++ (w ++ flatten ws))) (opened n m (map length ws)))
        (length-append front w)
        (subst (λ (l : List Place). AheadOf (drop n l) (opened n (length (front ++ w)) (map length ws)))
        (append_assoc front w (flatten ws)) (more (ltb-true (length front) n e)))
    at more false e = record {
      rest = drop n front;
      wholes = w ∷ ws;
      are = drop-append-le n front (w ++ flatten ws) (ltb-false (length front) n e);
      is_tail = t;
      are_whole = x;
      left_is = length-drop n front;
      waiting_are = refl;
    }

pub ahead_laid : (n : ℕ) (bytes : List Place) (a : Ahead) → AheadOf bytes a → n ≤ bytes_ahead a
    → AheadOf (drop n bytes) (opened n a.left a.waiting)
ahead_laid n bytes a h k =
    let all : List Place = h.rest ++ flatten h.wholes in
    let r : AheadOf (drop n all) (opened n (length h.rest) (map length h.wholes)) =
    opened_of n h.rest h.wholes (tail_drop n h.rest h.is_tail) h.are_whole
    (omega (arith, k, h.left_is, ap sum h.waiting_are)) in
    subst (λ (l : List Place). AheadOf (drop n l) (opened n a.left a.waiting)) (sym h.are)
    (subst (λ (m : ℕ). AheadOf (drop n all) (opened n m a.waiting)) h.left_is
    (subst (λ (m : List ℕ). AheadOf (drop n all) (opened n (length h.rest) m)) h.waiting_are r))

-- ---- where a byte stands

-- the last byte left is its section's last
pub record EndOf (l : List Place) : Type 0 where
  pub others : List Place
  pub end : Place
  pub is : l ≡ others ++ (end ∷ [])
  pub ends : end.behind ≡ 0

pub tail-end : (l : List Place) → Tail l → 0 < length l → EndOf l
tail-end [] x k = absurd (omega arith)
tail-end (b ∷ []) x k = record { others = []; end = b; is = refl; ends = x.1 }
tail-end (b ∷ (c ∷ l)) x k =
    let r = tail-end (c ∷ l) x.2 (omega arith) in
    record { others = b ∷ r.others; end = r.end; is = ap (λ (m : List Place). b ∷ m) r.is; ends = r.ends }

-- bytes with none of which a section begins are among those left
pub within_rest : (l more rest : List Place) (ws : List (List Place)) → Each Whole ws → Each NoBegin l
    → l ++ more ≡ rest ++ flatten ws → length l ≤ length rest
unfolding flatten
within_rest [] more rest ws x y e = omega arith
within_rest (b ∷ l) more [] [] x y e = absurd (cons≢nil e)
within_rest (b ∷ l) more [] ([] ∷ ws) x y e = absurd x.0
within_rest (b ∷ l) more [] ((c ∷ w) ∷ ws) x y e =
    absurd (y.0 (ap (λ (z : Place). z.before) (head-eq_of_cons-eq e) ∙ x.0.0))
within_rest (b ∷ l) more (c ∷ rest) ws x y e = omega (arith, within_rest l more rest ws x y.1 (tail-eq_of_cons-eq e))

-- the first byte with which a section begins stands behind those left, and one waits
pub begins_at : (l : List Place) (first : Place) (more rest : List Place) (ws : List (List Place)) → Tail rest
    → Each Whole ws → Each NoBegin l → first.before ≡ 0 → l ++ (first ∷ more) ≡ rest ++ flatten ws
    → (length l ≡ length rest) × (waits (map length ws) ≡ true)
unfolding flatten
begins_at [] first more [] [] t x y z e = absurd (cons≢nil e)
begins_at [] first more [] (w ∷ ws) t x y z e = (refl, refl)
begins_at [] first more (c ∷ rest) ws t x y z e =
    absurd (t.0 (ap (λ (b : Place). b.before) (head-eq_of_cons-eq (sym e)) ∙ z))
begins_at (b ∷ l) first more [] [] t x y z e = absurd (cons≢nil e)
begins_at (b ∷ l) first more [] ([] ∷ ws) t x y z e = absurd x.0
begins_at (b ∷ l) first more [] ((c ∷ w) ∷ ws) t x y z e =
    absurd (y.0 (ap (λ (z : Place). z.before) (head-eq_of_cons-eq e) ∙ x.0.0))
begins_at (b ∷ l) first more (c ∷ rest) ws t x y z e =
    let r = begins_at l first more rest ws t.2 x y.1 z (tail-eq_of_cons-eq e) in
    (ap suc r.0, r.1)

-- one of those left that is its section's last is the last of them
pub ends_at : (l : List Place) (end : Place) (more rest others : List Place) → Tail rest
    → (l ++ (end ∷ [])) ++ more ≡ rest ++ others → length l < length rest → end.behind ≡ 0
    → suc (length l) ≡ length rest
ends_at [] end more [] others t e k z = absurd (omega arith)
ends_at [] end more (c ∷ rest) others t e k z =
    let none : length rest ≡ 0 = sym t.1 ∙ ap (λ (b : Place). b.behind) (head-eq_of_cons-eq (sym e)) ∙ z in
    ap suc (sym none)
ends_at (b ∷ l) end more [] others t e k z = absurd (omega arith)
ends_at (b ∷ l) end more (c ∷ rest) others t e k z =
    ap suc (ends_at l end more rest others t.2 (tail-eq_of_cons-eq e) (omega arith) z)
