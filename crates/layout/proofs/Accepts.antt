-- Each form of a descriptor is read exactly if the bytes have it.
use Prim.{tt}
use mathlib.Core.Path.{◌≡◌, refl, sym, ap, ap₂, ◌∙◌, subst}
use mathlib.Core.Logic.{◌↔◌}
use mathlib.Core.Bool.{Bool, true}
use mathlib.Core.List.{List, [], ◌∷◌, ◌++◌}
use Prim.Native.Nat.{ℕ, zero, suc, ◌+◌, ◌*◌, ◌/◌, ◌%◌, ◌<◌, ◌≤◌}
use native.Mathlib.Nat.{mul-suc, mul_comm, mul-mod_right, mul-div_right, div-add-mod', mul-zero, add-zero}
use native.Mathlib.Omega.{arith}
use borrow.Author.Tests.{eqb-true, eq-eqb, ne_eqb, ltb-true, lt-ltb, le-ltb}
use lib.Dec.{eqb, ltb}
use lib.ListN.{length, get_or, take, drop, length-append, length-drop, take-append-drop}
use lib.Seq.{drop-drop, take_at, drop_at, length-take-le}
use Rattle.wire.specs.Reading.{value, refused, ◌>>=◌}
use Rattle.wire.proofs.ReadingLaws.{value_is, never, refused_is, through}
use Rattle.wire.proofs.IfLaws.{if-case, true_not_false}
use Rattle.wire.proofs.PartLaws.{part_front}
use Rattle.clock.specs.Fault.{plain, number_of}
use Rattle.layout.specs.Body.{framed, fixed, fit, lengthed}
use Rattle.layout.specs.Items.{items, count, place, item}
use Rattle.layout.specs.Texts.{two_texts}
use Rattle.layout.specs.Refusal.{part_at}
use Rattle.layout.specs.Shapes.{Framed, NoTag, NoBody, joined, Each, Itemed, Texted}
use Rattle.layout.specs.declared.texts.TwoTexts.{TwoTexts}
use Rattle.layout.proofs.Exactly.{framed_is, framed_if, texts_if, cons_at}

-- ---- tag, length, body

pub framed_exactly : (tag : ℕ) (s b : List ℕ) → framed s tag ≡ value b ↔ Framed tag s b
framed_exactly tag s b = (framed_is tag s b, λ e. ap (λ l. framed l tag) e ∙ framed_if tag b)

-- a body that fits
fit_is : (t : Bool) (b c : List ℕ) → fit t b ≡ value c → (t ≡ true) × (b ≡ c)
fit_is t b c =
    if-case (λ x. x ≡ value c → (t ≡ true) × (b ≡ c)) t (λ h e. (h, value_is e)) (λ _ e. absurd (never (sym e)))

-- 61 and 62 for the frame, each exactly where it is given
pub wrong_tag_exactly : (tag : ℕ) (s : List ℕ) → framed s tag ≡ refused (plain 61) ↔ NoTag tag s
unfolding framed
wrong_tag_exactly tag [] = (λ _. tt, λ _. refl)
wrong_tag_exactly tag (t ∷ rest) = (
  λ e h. let z : ◌≡◌ {A = ℕ} 61 62 = sixty_one rest (rw (eq-eqb t tag h) at e) in absurd (omega arith),
  λ h. rw (ne_eqb t tag h),
)
  where
    sixty_one : (r : List ℕ) → lengthed r ≡ refused (plain 61) → ◌≡◌ {A = ℕ} 61 62
    sixty_one [] = λ e. ap number_of (refused_is (sym e))
    sixty_one (n ∷ b) =
        if-case (λ x. x ≡ refused (plain 61) → ◌≡◌ {A = ℕ} 61 62) (eqb n (length b)) (λ _ e. absurd (never e))
        (λ _ e. ap number_of (refused_is (sym e)))

pub no_body_exactly : (tag : ℕ) (s : List ℕ) → framed s tag ≡ refused (plain 62) ↔ NoBody tag s
unfolding framed
no_body_exactly tag s = (
  λ e. (
    λ h.
        let z : ◌≡◌ {A = ℕ} 61 62 = ap number_of (refused_is (sym ((wrong_tag_exactly tag s).1 h) ∙ e)) in
        absurd (omega arith),
    λ b h. never (sym ((framed_exactly tag s b).1 h) ∙ e),
  ),
  back s,
)
  where
    back : (l : List ℕ) → NoBody tag l → framed l tag ≡ refused (plain 62)
    back [] h = absurd (h.0 tt)
    back (t ∷ []) h =
        if-case (λ x. x ≡ refused (plain 62)) (eqb t tag) (λ _. refl)
        (λ q. absurd (h.0 (λ e. true_not_false (sym (eq-eqb t tag e) ∙ q))))
    back (t ∷ n ∷ b) h =
        if-case (λ x. x ≡ refused (plain 62)) (eqb t tag)
        (λ p. if-case (λ x. x ≡ refused (plain 62)) (eqb n (length b))
        (λ q. absurd (h.1 b (ap₂ (λ x y. x ∷ y ∷ b) (eqb-true t tag p) (eqb-true n (length b) q)))) (λ _. refl))
        (λ q. absurd (h.0 (λ e. true_not_false (sym (eq-eqb t tag e) ∙ q))))

-- a body of n bytes
pub fixed_exactly : (n tag : ℕ) (s b : List ℕ) → fixed s tag n ≡ value b ↔ Framed tag s b × (length b ≡ n)
unfolding fixed
fixed_exactly n tag s b = (
  λ e.
      let t = through (framed s tag) _ b e in
      let f = fit_is (eqb (length t.0) n) t.0 b t.2 in
      (framed_is tag s b (t.1 ∙ ap value f.1), subst (λ l. length l ≡ n) f.1 (eqb-true _ _ f.0)),
  λ x. rw ((framed_exactly tag s b).1 x.0, eq-eqb (length b) n x.1),
)

-- ---- items

each_length : (k : ℕ) (xs : List (List ℕ)) → Each k xs → length (joined xs) ≡ k * length xs
each_length k [] h = sym (mul-zero k)
each_length k (x ∷ xs) h =
    length-append x (joined xs)
    ∙ ap₂ ◌+◌ h.0 (each_length k xs h.1)
    ∙ (let e = mul-suc k (length xs) in omega arith)

-- the item of an index, by its bytes
pub item-at : (k : ℕ) (xs : List (List ℕ)) (i : ℕ) → Each k xs → i < length xs
    → take k (drop (k * i) (joined xs)) ≡ get_or xs i []
item-at k [] i h l = absurd (omega arith)
item-at k (x ∷ xs) zero h l = ap (λ j. take k (drop j (x ++ joined xs))) (mul-zero k) ∙ take_at x (joined xs) k h.0
item-at k (x ∷ xs) (suc i) h l =
    let e : k * suc i ≡ k + k * i = let m = mul-suc k i in omega arith in
    ap (λ j. take k (drop j (x ++ joined xs))) e
    ∙ ap (take k) (sym (drop-drop (k * i) k (x ++ joined xs)) ∙ ap (drop (k * i)) (drop_at x (joined xs) k h.0))
    ∙ item-at k xs i h.1 (omega arith)

-- n pieces of k elements
pieces : ℕ → ℕ → List ℕ → List (List ℕ)
pieces k zero b = []
pieces k (suc n) b = take k b ∷ pieces k n (drop k b)

pieces_join : (k n : ℕ) (b : List ℕ) → length b ≡ k * n → joined (pieces k n b) ≡ b
unfolding pieces
pieces_join k zero [] h = refl
pieces_join k zero (x ∷ b) h = let z = mul-zero k in absurd (omega arith)
pieces_join k (suc n) b h =
    ap (λ l. take k b ++ l) (pieces_join k n (drop k b) (let e = mul-suc k n in length-drop k b ∙ omega arith))
    ∙ take-append-drop k b

pieces_each : (k n : ℕ) (b : List ℕ) → length b ≡ k * n → Each k (pieces k n b)
unfolding pieces
pieces_each k zero b h = tt
pieces_each k (suc n) b h =
    let e = mul-suc k n in
    (length-take-le k b (omega arith), pieces_each k n (drop k b) (length-drop k b ∙ omega arith))

pieces_number : (k n : ℕ) (b : List ℕ) → length (pieces k n b) ≡ n
unfolding pieces
pieces_number k zero b = refl
pieces_number k (suc n) b = ap suc (pieces_number k n (drop k b))

module _ (k tag : ℕ) (some : 0 < k) (s : List ℕ) where
  number-of : (xs : List (List ℕ)) → Itemed k tag s xs → length (joined xs) / k ≡ length xs
  number-of xs x = ap (λ j. j / k) (each_length k xs x.each) ∙ mul-div_right (length xs) some

  body_of : (xs : List (List ℕ)) → Itemed k tag s xs → items s tag k ≡ value (joined xs)
  unfolding items
  body_of xs x =
      let z : length (joined xs) % k ≡ 0 = ap (λ j. j % k) (each_length k xs x.each) ∙ mul-mod_right k (length xs) in
      rw ((framed_exactly tag s (joined xs)).1 x.framed, eq-eqb (length (joined xs) % k) 0 z)

  whole : (xs : List (List ℕ)) → Itemed k tag s xs → count s tag k ≡ value (length xs)
  unfolding count
  whole xs x = rw (body_of xs x) (ap value (number-of xs x))

  -- a list of n items is accepted exactly if its body is n items of k bytes, put together
  pub count_exactly : (n : ℕ) → count s tag k ≡ value n ↔ ((xs : List (List ℕ)) × Itemed k tag s xs × (length xs ≡ n))
  unfolding count items
  count_exactly n = (there, back)
    where
      there : count s tag k ≡ value n → (xs : List (List ℕ)) × Itemed k tag s xs × (length xs ≡ n)
      there e =
          let t = through (items s tag k) _ n e in
          let u = through (framed s tag) _ t.0 t.1 in
          let f = fit_is (eqb (length u.0 % k) 0) u.0 t.0 u.2 in
          let b : List ℕ = u.0 in
          let q : length b / k ≡ n = ap (λ l. length l / k) f.1 ∙ value_is t.2 in
          let d : length b / k * k + length b % k ≡ length b = div-add-mod' (length b) k in
          let z : length b % k ≡ 0 = eqb-true _ _ f.0 in
          let m : length b ≡ k * n =
          sym d ∙ ap₂ ◌+◌ (mul_comm (length b / k) k ∙ ap (λ j. k * j) q) z ∙ add-zero (k * n) in (
            pieces k n b,
            record {
              framed = framed_is tag s b u.1 ∙ ap (λ l. tag ∷ length l ∷ l) (sym (pieces_join k n b m));
              each = pieces_each k n b m;
            },
            pieces_number k n b,
          )

      back : (xs : List (List ℕ)) × Itemed k tag s xs × (length xs ≡ n) → count s tag k ≡ value n
      back (xs, x, l) = whole xs x ∙ ap value l

  module _ (xs : List (List ℕ)) (are : Itemed k tag s xs) (i : ℕ) where
    -- "66 index past the end"; each other index gives that item
    pub item_is : i < length xs → item s tag k i ≡ value (get_or xs i [])
    unfolding item place
    item_is h =
        rw (body_of xs are, number-of xs are, lt-ltb i (length xs) h)
        (ap value
        (ap (take k) (sym (drop-drop (k * i) 2 s) ∙ ap (λ l. drop (k * i) (drop 2 l)) are.framed)
        ∙ item-at k xs i are.each h))

    pub item_past : length xs ≤ i → item s tag k i ≡ refused (plain 66)
    unfolding item place
    item_past h = rw (body_of xs are, number-of xs are, le-ltb i (length xs) h)

pub each_at : (k : ℕ) (xs : List (List ℕ)) (i : ℕ) → Each k xs → i < length xs → length (get_or xs i []) ≡ k
each_at k [] i h l = absurd (omega arith)
each_at k (x ∷ xs) zero h l = h.0
each_at k (x ∷ xs) (suc i) h l = each_at k xs i h.1 (omega arith)

-- an item is handed out exactly if it is the one of that index
pub item_exactly : (k tag : ℕ) → 0 < k → (s : List ℕ) (i : ℕ) (b : List ℕ)
    → item s tag k i ≡ value b ↔ ((xs : List (List ℕ)) × Itemed k tag s xs × (i < length xs) × (get_or xs i [] ≡ b))
unfolding item place count
item_exactly k tag some s i b = (
  λ e.
      let t = through (place s tag k i) _ b e in
      let u = through (items s tag k) _ t.0 t.1 in
      let n : ℕ = length u.0 / k in
      let x = (count_exactly k tag some s n).0 (ap (λ r. r >>= λ body. value (length body / k)) u.1) in
      let g : i < n =
      if-case (λ y. y ≡ value t.0 → i < n) (ltb i n) (λ h _. ltb-true i n h) (λ _ q. absurd (never (sym q)))
      u.2 in
      let l : i < length x.0 = subst (λ j. i < j) (sym x.2) g in
      (x.0, x.1, l, value_is (sym (item_is k tag some s x.0 x.1 i l) ∙ e)),
  λ x. item_is k tag some s x.0 x.1 i x.2 ∙ ap value x.3,
)

-- ---- two texts

module _ (h : ℕ) (b : List ℕ) where
  module _ (a n : ℕ) (one : get_or b h 0 ≡ a) (two : get_or b (h + 1 + a) 0 ≡ n) (fills : length b ≡ h + 2 + a + n) where
    texted : Texted h b (record { first = part_at (h + 1) a; second = part_at (h + 2 + a) n })
    texted =
        let x : List ℕ = take a (drop (h + 1) b) in
        let y : List ℕ = drop (h + 1 + a + 1) b in
        let lx : length x ≡ a = length-take-le a (drop (h + 1) b) (let d = length-drop (h + 1) b in omega arith) in
        let ly : length y ≡ n = length-drop (h + 1 + a + 1) b ∙ omega arith in
        let rest : drop (h + 1 + a) b ≡ length y ∷ y =
        cons_at b (h + 1 + a) (omega arith) ∙ ap (λ j. j ∷ y) (two ∙ sym ly) in
        let from : drop h b ≡ length x ∷ (x ++ (length y ∷ y)) =
        cons_at b h (omega arith) ∙ ap₂ ◌∷◌ (one ∙ sym lx) (part_front b (h + 1) a ∙ ap (λ l. x ++ l) rest) in
        record {
          head = take h b;
          first = x;
          second = y;
          filled = sym (take-append-drop h b) ∙ ap (λ l. take h b ++ l) from;
          size = length-take-le h b (omega arith);
          places = ap₂ (λ i j. record { first = part_at (h + 1) i; second = part_at (h + 2 + i) j }) (sym lx) (sym ly);
        }

  -- two texts are read exactly if the body is h bytes and the two, each after its length
  pub texts_exactly : (t : TwoTexts) → two_texts b h ≡ value t ↔ Texted h b t
  unfolding two_texts
  texts_exactly t = (
    let a : ℕ = get_or b h 0 in
        let n : ℕ = get_or b (h + 1 + a) 0 in
        if-case (λ x. x ≡ value t → Texted h b t) (eqb (length b) (h + 2 + a + n))
        (λ l e. subst (Texted h b) (value_is e) (texted a n refl refl (eqb-true (length b) (h + 2 + a + n) l)))
        (λ l e. absurd (never (sym e))),
    λ x.
        ap₂ two_texts x.filled (sym x.size)
        ∙ texts_if x.head x.first x.second
        ∙ ap value
        (ap (λ j.
        record {
          first = part_at (j + 1) (length x.first);
          second = part_at (j + 2 + length x.first) (length x.second);
        })
        x.size
        ∙ sym x.places),
  )
