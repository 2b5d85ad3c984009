-- What fits a layout, said by the bytes themselves: each form is read exactly if the bytes have it.
use mathlib.Core.Path.{◌≡◌, refl, sym, ap, ap₂, ◌∙◌, subst}
use mathlib.Core.List.{List, [], ◌∷◌, ◌++◌, append_assoc}
use Prim.Native.Nat.{ℕ, ◌+◌, ◌*◌, ◌/◌, ◌%◌, ◌<◌, ◌≤◌}
use native.Mathlib.Numerals.{add-one}
use native.Mathlib.Omega.{arith}
use borrow.Author.Tests.{eqb-true, eq-eqb, ltb-true, lt-ltb, le-ltb}
use lib.Dec.{eqb, ltb}
use lib.ListN.{length, get_or, take, drop, length-append, length-drop, take-append-drop}
use lib.Seq.{drop-cons, drop-drop, take_all, take-length, get_or_at}
use Rattle.wire.specs.Reading.{value, refused}
use Rattle.wire.proofs.ReadingLaws.{value_is, never, through}
use Rattle.wire.proofs.IfLaws.{if-case}
use Rattle.wire.proofs.PartLaws.{part_front}
use Rattle.clock.specs.Fault.{plain}
use Rattle.layout.specs.Refusal.{part_at, bytes_of}
use Rattle.layout.specs.Body.{lengthed, framed}
use Rattle.layout.specs.Items.{items, count, place}
use Rattle.layout.specs.Texts.{two_texts, Filled}
use Rattle.layout.specs.declared.texts.TwoTexts.{TwoTexts}
use Rattle.layout.proofs.Inside.{inside}

-- ---- tag, length, body

lengthed_is : (s b : List ℕ) → lengthed s ≡ value b → s ≡ length b ∷ b
lengthed_is [] b = λ e. absurd (never (sym e))
lengthed_is (n ∷ r) b =
    if-case (λ x. x ≡ value b → n ∷ r ≡ length b ∷ b) (eqb n (length r))
    (λ h e. ap (λ k. k ∷ r) (eqb-true n (length r) h) ∙ ap (λ l. length l ∷ l) (value_is e))
    (λ h e. absurd (never (sym e)))

-- what is read as the body is all but the tag and the length, and they are right
pub framed_is : (tag : ℕ) (s b : List ℕ) → framed s tag ≡ value b → s ≡ tag ∷ length b ∷ b
unfolding framed
framed_is tag [] b = λ e. absurd (never (sym e))
framed_is tag (t ∷ r) b =
    if-case (λ x. x ≡ value b → t ∷ r ≡ tag ∷ length b ∷ b) (eqb t tag)
    (λ h e. ap₂ ◌∷◌ (eqb-true t tag h) (lengthed_is r b e))
    (λ h e. absurd (never (sym e)))

pub framed_if : (tag : ℕ) (b : List ℕ) → framed (tag ∷ length b ∷ b) tag ≡ value b
unfolding framed
framed_if tag b = rw (eq-eqb tag tag refl, eq-eqb (length b) (length b) refl)

-- the part that is the whole body
pub whole_part : (tag : ℕ) (s b : List ℕ) → framed s tag ≡ value b → bytes_of s (part_at 0 (length b)) ≡ b
whole_part tag s b e = ap (λ l. take (length b) (drop 2 l)) (framed_is tag s b e) ∙ take-length b

-- ---- two texts

pub cons_at : (l : List ℕ) (i : ℕ) → i < length l → drop i l ≡ get_or l i 0 ∷ drop (i + 1) l
cons_at l i h = rw add-one (drop-cons l i 0 h)

-- the part at a place of the body is that many bytes of it
pub part-at : (s : List ℕ) (at n : ℕ) → bytes_of s (part_at at n) ≡ take n (drop at (drop 2 s))
part-at s at n = ap (take n) (sym (drop-drop at 2 s))

module _ (h : ℕ) (s : List ℕ) where
  module _ (a n : ℕ) (first : get_or (drop 2 s) h 0 ≡ a) (second : get_or (drop 2 s) (h + 1 + a) 0 ≡ n)
      (fills : length (drop 2 s) ≡ h + 2 + a + n) where
    last : drop (h + 1 + a + 1) (drop 2 s) ≡ bytes_of s (part_at (h + 2 + a) n)
    last =
        let e : h + 1 + a + 1 ≡ h + 2 + a = omega arith in
        let l : length (drop (h + 2 + a) (drop 2 s)) ≤ n = simp length-drop (omega (arith, length-drop 2 s)) in
        ap (λ i. drop i (drop 2 s)) e ∙ sym (take_all n (drop (h + 2 + a) (drop 2 s)) l) ∙ sym (part-at s (h + 2 + a) n)

    filled : Filled h s (record { first = part_at (h + 1) a; second = part_at (h + 2 + a) n })
    filled =
        sym (take-append-drop h (drop 2 s))
        ∙ ap (λ x. take h (drop 2 s) ++ x)
        (cons_at (drop 2 s) h (omega arith)
        ∙ ap₂ ◌∷◌ first
        (part_front (drop 2 s) (h + 1) a
        ∙ ap₂ ◌++◌ (sym (part-at s (h + 1) a)) (cons_at (drop 2 s) (h + 1 + a) (omega arith) ∙ ap₂ ◌∷◌ second last)))

  pub texts_are : (t : TwoTexts) → two_texts (drop 2 s) h ≡ value t → Filled h s t
  unfolding two_texts
  texts_are t =
      let b : List ℕ = drop 2 s in
      let a : ℕ = get_or b h 0 in
      let n : ℕ = get_or b (h + 1 + a) 0 in
      if-case (λ x. x ≡ value t → Filled h s t) (eqb (length b) (h + 2 + a + n))
      (λ l e. subst (Filled h s) (value_is e) (filled a n refl refl (eqb-true (length b) (h + 2 + a + n) l)))
      (λ l e. absurd (never (sym e)))

-- such a body is read, and the texts are those
pub texts_if : (head x y : List ℕ)
    → two_texts (head ++ (length x ∷ (x ++ (length y ∷ y)))) (length head)
    ≡ value (record {
      first = part_at (length head + 1) (length x);
      second = part_at (length head + 2 + length x) (length y);
    })
unfolding two_texts
texts_if head x y =
    let b : List ℕ = head ++ (length x ∷ (x ++ (length y ∷ y))) in
    let p : get_or b (length head) 0 ≡ length x = get_or_at head (length x) (x ++ (length y ∷ y)) 0 (length head) refl in
    let m : length (head ++ (length x ∷ x)) ≡ length head + 1 + length x =
    length-append head (length x ∷ x) ∙ omega arith in
    let q : get_or b (length head + 1 + length x) 0 ≡ length y =
    ap (λ z. get_or z (length head + 1 + length x) 0) (sym (append_assoc head (length x ∷ x) (length y ∷ y)))
    ∙ get_or_at (head ++ (length x ∷ x)) (length y) y 0 (length head + 1 + length x) m in
    let l : length b ≡ length head + 2 + length x + length y = simp length-append (omega arith) in
    rw (p, q, eq-eqb _ _ l)

-- ---- items

module _ (k tag : ℕ) (s : List ℕ) (i : ℕ) where
  -- an index below the number of items is read, and any other is past the end
  pub index_below : (n : ℕ) → count s tag k ≡ value n → i < n → place s tag k i ≡ value (2 + k * i)
  unfolding count place
  index_below n e h =
      let t = through (items s tag k) _ n e in
      let q : length t.0 / k ≡ n = value_is t.2 in
      rw (t.1, q, lt-ltb i n h)

  pub index_past : (n : ℕ) → count s tag k ≡ value n → n ≤ i → place s tag k i ≡ refused (plain 66)
  unfolding count place
  index_past n e h =
      let t = through (items s tag k) _ n e in
      let q : length t.0 / k ≡ n = value_is t.2 in
      rw (t.1, q, le-ltb i n h)

  -- the body that items are read from is the descriptor's
  body_of : (b : List ℕ) → items s tag k ≡ value b → framed s tag ≡ value b
  unfolding items
  body_of b e =
      let t = through (framed s tag) _ b e in
      if-case (λ x. x ≡ value b → framed s tag ≡ value b) (eqb (length t.0 % k) 0) (λ _ q. t.1 ∙ q)
      (λ _ q. absurd (never (sym q))) t.2

  -- an item that is read lies whole inside the caller's bytes
  pub item_inside : (at : ℕ) → place s tag k i ≡ value at → at + k ≤ length s
  unfolding place
  item_inside at e =
      let t = through (items s tag k) _ at e in
      let b : List ℕ = t.0 in
      let l = ap length (framed_is tag s b (body_of b t.1)) in
      if-case (λ x. x ≡ value at → at + k ≤ length s) (ltb i (length b / k))
      (λ h q. omega (arith, inside k (length b) i (ltb-true i (length b / k) h), l, value_is q))
      (λ _ q. absurd (never (sym q))) t.2

  -- so that its place is no more than a slice can have
  pub item_fits : (n : ℕ) → count s tag k ≡ value n → i < n → 2 + k * i + k ≤ length s
  item_fits n e h = item_inside (2 + k * i) (index_below n e h)

  -- its place in the body is its offset in the list
  pub item_place : (at : ℕ) → place s tag k i ≡ value at → at ≡ 2 + k * i
  unfolding place
  item_place at e =
      let t = through (items s tag k) _ at e in
      if-case (λ x. x ≡ value at → at ≡ 2 + k * i) (ltb i (length t.0 / k)) (λ _ q. sym (value_is q))
      (λ _ q. absurd (never (sym q))) t.2

  -- and no more than the length byte can count
  pub item_low : get_or s 1 0 < 256 → (at : ℕ) → place s tag k i ≡ value at → at + k < 258
  unfolding place
  item_low low at e =
      let b = through (items s tag k) _ at e in
      let f = framed_is tag s b.0 (body_of b.0 b.1) in
      let l : length b.0 < 256 = subst (λ r. get_or r 1 0 < 256) f low in
      omega (arith, l, ap length f, item_inside at e)
