-- The items of local time offsets, and their rows: two offsets of one sign, a time of change, and the polarity that the
-- writer takes.
use Prim.{tt}
use mathlib.Core.Path.{◌≡◌, refl, sym, ap, ap₂, ◌∙◌, subst}
use mathlib.Core.Logic.{◌↔◌}
use mathlib.Core.Bool.{Bool, true, false, not}
use mathlib.Core.List.{List, [], ◌∷◌, ◌++◌}
use Prim.Native.Nat.{ℕ, zero, suc, ◌+◌, ◌*◌, ◌/◌, ◌%◌, ◌^◌, ◌<◌, ◌≤◌}
use native.Mathlib.Omega.{arith}
use borrow.Author.Tests.{eqb-true, eqb-false, ltb-true, ltb-false, lt-ltb, le-ltb}
use lib.Dec.{eqb, ltb}
use lib.IntN.{ℤ, pos, negsuc, nat_abs}
use lib.ListN.{length, get_or, drop}
use Rattle.wire.specs.Bytes.{Bytes}
use Rattle.wire.specs.Digits.{bcd_after, bcd_of, bcd_show}
use Rattle.std.specs.Prelude.{if◌then◌else◌, None, Some}
use Rattle.wire.specs.Number.{number_at, bits_at}
use Rattle.wire.specs.Reading.{Reading, value, refused}
use Rattle.wire.proofs.IfLaws.{if-case, true_not_false}
use Rattle.wire.proofs.ReadingLaws.{value_is, never, through}
use Rattle.wire.proofs.Shown.{show_below, bcd_of_shown}
use Rattle.clock.specs.Offset.{signed, offset_shown}
use Rattle.clock.specs.Time.{Moment, Defined, time_shown}
use Rattle.layout.specs.Widths.{kept_of, keptIn, bit, bits_of, number_of}
use Rattle.layout.proofs.WidthLaws.{spans, unpack_spans, whole_span}
use Rattle.lists.specs.LocalTimeOffset.{layout, shown, localTimeOffset, Right}
use Rattle.lists.specs.declared.local_time_offset.Item.{Item}
use Rattle.lists.proofs.Layouts.{offsets_exactly}
use Rattle.writing.specs.Fill.{below, capacities}
use Rattle.writing.specs.Rows.{natural}
use Rattle.writing.proofs.Below.{below_is, is_below}
use Rattle.write_lists.specs.LocalTimeOffset.{at, opposite, are_offsets, behind, no_moment, some_moment, moment, moment_row, item, row, NoIdlePolarity}
use Rattle.write_lists.proofs.RowReadings.{if-value, Field112, value-112, refused-112, then-112, natural_value, natural_then, natural-112, numbers_from, numbers_drop}
use Rattle.write_lists.proofs.ItemLists.{ItemRows}

-- ---- signs

-- what one polarity gives two offsets is not opposite, and what is not opposite one polarity gives
pub one_sign : (p : Bool) (m j : ℕ) → opposite (signed p m) (signed p j) ≡ false
one_sign true zero j = refl
one_sign true (suc m) zero = refl
one_sign true (suc m) (suc j) = refl
one_sign false zero j = refl
one_sign false (suc m) j = refl

signs : (l n : ℤ) → opposite l n ≡ false → (l ≡ signed (behind l n) (nat_abs l)) × (n ≡ signed (behind l n) (nat_abs n))
unfolding behind
signs (pos zero) (pos j) e = (refl, refl)
signs (pos zero) (negsuc j) e = (refl, refl)
signs (pos (suc m)) (pos j) e = (refl, refl)
signs (pos (suc m)) (negsuc j) e = absurd (true_not_false e)
signs (negsuc m) (pos zero) e = (refl, refl)
signs (negsuc m) (pos (suc j)) e = absurd (true_not_false e)
signs (negsuc m) (negsuc j) e = (refl, refl)

-- it is the one that the writer takes, but over two zero offsets
polarity : (p : Bool) (m j : ℕ) → (p ≡ true → m ≡ 0 → j ≡ 0 → ⊥) → p ≡ behind (signed p m) (signed p j)
unfolding behind
polarity true zero zero h = absurd (h refl refl refl)
polarity true zero (suc j) h = refl
polarity true (suc m) j h = refl
polarity false m j h = refl

no_size : (z : ℤ) → nat_abs z < 1 → z ≡ pos 0
no_size (pos n) h = ap pos (omega arith)
no_size (negsuc n) h = absurd (omega arith)

are_offsets_lem : (l n : ℤ) → are_offsets l n ≡ true ↔ (nat_abs l < 1440) × (nat_abs n < 1440) × (opposite l n ≡ false)
unfolding are_offsets
are_offsets_lem l n = (
  if-case (λ b. b ≡ true → Both) (ltb (nat_abs l) 1440)
      (λ h. if-case (λ b. b ≡ true → Both) (ltb (nat_abs n) 1440)
      (λ g e. (ltb-true (nat_abs l) 1440 h, ltb-true (nat_abs n) 1440 g, so (opposite l n) e))
      (λ _ e. absurd (true_not_false (sym e)))) (λ _ e. absurd (true_not_false (sym e))),
  λ x. rw (lt-ltb (nat_abs l) 1440 x.0, lt-ltb (nat_abs n) 1440 x.1, x.2),
)
  where
    Both : Type 0
    Both = (nat_abs l < 1440) × (nat_abs n < 1440) × (opposite l n ≡ false)

    so : (b : Bool) → not b ≡ true → b ≡ false
    so true e = absurd (true_not_false (sym e))
    so false e = refl

-- ---- the time of change

moment_there : (m : Moment) (zs : List ℤ) → Defined m → time_shown m < 2 ^ 40 → moment (moment_row m zs) ≡ value m
unfolding moment no_moment some_moment natural below
moment_there None zs d h = refl
moment_there (Some t) zs d h =
    rw (
      natural_value (2 ^ 16) t.mjd (omega (arith, h)),
      le-ltb t.mjd 15079 d.0,
      natural_value 24 t.clock.hour d.1.hour,
      natural_value 60 t.clock.minute d.1.minute,
      natural_value 60 t.clock.second d.1.second,
    )

abbrev day_of : ℕ → Reading ℕ
day_of n = if ltb n 15079 then refused 112 else value n

day_is : (n d : ℕ) → day_of n ≡ value d → (15079 ≤ d) × (n ≡ d)
day_is n d =
    if-case (λ r. r ≡ value d → (15079 ≤ d) × (n ≡ d)) (ltb n 15079) (λ _ e. absurd (never (sym e)))
    (λ h e. (subst (λ i. 15079 ≤ i) (value_is e) (ltb-false n 15079 h), value_is e))

-- the numbers of a moment, with others behind them
abbrev Numbered : List ℤ → Moment → Type 0
Numbered zs m = ((rest : List ℤ) → numbers_from zs 0 5 ++ rest ≡ moment_row m rest) × Defined m × (time_shown m < 2 ^ 40)

module _ (zs : List ℤ) (m : Moment) where
  undefined_back : at zs 4 ≡ pos 1 → no_moment zs ≡ value m → Numbered zs m
  unfolding no_moment
  undefined_back u e =
      let t = if-value (below _ (1 ∷ 1 ∷ 1 ∷ 1 ∷ [])) None m 112 e in
      let x = below_is _ (1 ∷ 1 ∷ 1 ∷ 1 ∷ []) t.0 in
      let a = no_size (at zs 0) x.0 in
      let b = no_size (at zs 1) x.1.0 in
      let c = no_size (at zs 2) x.1.1.0 in
      let d = no_size (at zs 3) x.1.1.1.0 in
      subst (Numbered zs) t.1 ((λ rest. rw (a, b, c, d, u)), tt, omega arith)

  defined_back : at zs 4 ≡ pos 0 → some_moment zs ≡ value m → Numbered zs m
  unfolding some_moment
  defined_back u e =
      let a = natural_then (2 ^ 16) (at zs 0) _ m e in
      let t = through (day_of a.0) _ m a.3 in
      let day = day_is a.0 t.0 t.1 in
      let b = natural_then 24 (at zs 1) _ m t.2 in
      let c = natural_then 60 (at zs 2) _ m b.3 in
      let d = natural_then 60 (at zs 3) _ m c.3 in
      let hs = show_below 2 b.0 in
      let ms = show_below 2 c.0 in
      let ss = show_below 2 d.0 in
      subst (Numbered zs) (value_is d.3) (
        (λ rest. ap₂ ◌∷◌ (a.1 ∙ ap pos day.1)
            (ap₂ ◌∷◌ b.1 (ap₂ ◌∷◌ c.1 (ap₂ ◌∷◌ d.1 (ap (λ z. z ∷ rest) u))))),
        (day.0, record { hour = b.2; minute = c.2; second = d.2 }),
        omega (arith, a.2, day.1),
      )

  moment_back : moment zs ≡ value m → Numbered zs m
  unfolding moment
  moment_back e =
      let x = natural_then 2 (at zs 4) _ m e in
      if-case (λ r. r ≡ value m → Numbered zs m) (eqb x.0 1)
      (λ h. undefined_back (x.1 ∙ ap pos (eqb-true x.0 1 h)))
      (λ h. defined_back (x.1 ∙ ap pos (let n = eqb-false x.0 1 h in omega (arith, n, x.2))))
      x.3

module _ (zs : List ℤ) where
  none_only : Field112 (no_moment zs)
  unfolding no_moment
  none_only = if-case Field112 (below _ (1 ∷ 1 ∷ 1 ∷ 1 ∷ [])) (λ _. value-112 None) (λ _. refused-112)

  some_only : Field112 (some_moment zs)
  unfolding some_moment
  some_only =
      then-112 _ _ (natural-112 (2 ^ 16) (at zs 0))
      (λ mjd. then-112 (day_of mjd) _ (if-case Field112 (ltb mjd 15079) (λ _. refused-112) (λ _. value-112 mjd))
      (λ _. then-112 _ _ (natural-112 24 (at zs 1))
      (λ _. then-112 _ _ (natural-112 60 (at zs 2)) (λ _. then-112 _ _ (natural-112 60 (at zs 3)) (λ _. value-112 _)))))

  moment_only : Field112 (moment zs)
  unfolding moment
  moment_only =
      then-112 _ _ (natural-112 2 (at zs 4)) (λ u. if-case Field112 (eqb u 1) (λ _. none_only) (λ _. some_only))

-- ---- an item

-- the numbers behind the five of a moment, and the first of them
row_behind : (m : Moment) (ns zs : List ℤ) → moment_row m ns ++ zs ≡ moment_row m (ns ++ zs)
row_behind None ns zs = refl
row_behind (Some t) ns zs = refl

pub sixth : (m : Moment) (zs : List ℤ) → at (moment_row m zs) 5 ≡ at zs 0
sixth None zs = refl
sixth (Some t) zs = refl

row_size_lem : (x : Item) → length (row x) ≡ 9
row_size_lem x = moment_size x.time_of_change
  where
    moment_size : (m : Moment) → suc (suc (suc (length (moment_row m (x.next_time_offset ∷ []))))) ≡ 9
    moment_size None = refl
    moment_size (Some t) = refl

offset_there : (p : Bool) (x : Item) (zs : List ℤ) → Right p x → below (shown p x) (capacities layout) ≡ true
    → item (row x ++ zs) ≡ value x
unfolding item
offset_there p x zs r h =
    let b = below_is (shown p x) (capacities layout) h in
    let l : ℤ = x.local_time_offset in
    let n : ℤ = x.next_time_offset in
    let m : Moment = x.time_of_change in
    let o = (are_offsets_lem l n).1
    (r.local.1, r.next.1, ap₂ opposite r.local.0 r.next.0 ∙ one_sign p (nat_abs l) (nat_abs n)) in
    rw (
      natural_value (2 ^ 24) x.country_code b.0,
      natural_value (2 ^ 6) x.country_region_id b.1.0,
      row_behind m (n ∷ []) zs,
      sixth m (n ∷ zs),
      moment_there m (n ∷ zs) r.change b.1.1.1.1.0,
      o,
    )

bit_below : (p : Bool) → bit p < 2
bit_below true = omega arith
bit_below false = omega arith

offset_below : (z : ℤ) → offset_shown z < 2 ^ 16
offset_below z = let h = show_below 2 (nat_abs z / 60) in let m = show_below 2 (nat_abs z % 60) in omega arith

-- the polarity that the writer takes; with it the values of an item are inside the layout
module _ (x : Item) where
  abbrev Taken : Bool
  Taken = behind x.local_time_offset x.next_time_offset

  taken_below : x.country_code < 2 ^ 24 → x.country_region_id < 2 ^ 6 → time_shown x.time_of_change < 2 ^ 40
      → below (shown Taken x) (capacities layout) ≡ true
  taken_below c r t =
      is_below (shown Taken x) (capacities layout)
      (let next = offset_below x.next_time_offset in
      (c, (r, (bit_below Taken, (offset_below x.local_time_offset, (t, (next, tt)))))))

-- what an item made of numbers has
abbrev Back : List ℤ → Item → Type 0
Back zs x =
    (numbers_from zs 0 9 ≡ row x) × Right (Taken x) x × (below (shown (Taken x) x) (capacities layout) ≡ true)

module _ (zs : List ℤ) (country region : ℕ) (change : Moment) where
  abbrev item_of : Item
  item_of = record {
    country_code = country;
    country_region_id = region;
    local_time_offset = at zs 2;
    time_of_change = change;
    next_time_offset = at zs 8;
  }

  back_of : at zs 0 ≡ pos country → country < 2 ^ 24 → at zs 1 ≡ pos region → region < 2 ^ 6
      → Numbered (drop 3 zs) change → are_offsets (at zs 2) (at zs 8) ≡ true
      → Back zs item_of
  back_of a c b r m h =
      let o = (are_offsets_lem (at zs 2) (at zs 8)).0 h in
      let s = signs (at zs 2) (at zs 8) o.2 in (
        ap₂ ◌∷◌ a (ap₂ ◌∷◌ b (ap (λ t. at zs 2 ∷ t)
            (ap (λ t. t ++ (at zs 8 ∷ [])) (sym (numbers_drop 5 0 3 zs)) ∙ m.0 (at zs 8 ∷ [])))),
        record { local = (s.0, o.0); change = m.1; next = (s.1, o.1) },
        taken_below item_of c r m.2,
      )

offset_back : (zs : List ℤ) (x : Item) → item zs ≡ value x → Back zs x
unfolding item
offset_back zs x e =
    let a = natural_then (2 ^ 24) (at zs 0) _ x e in
    let b = natural_then (2 ^ 6) (at zs 1) _ x a.3 in
    let c = through (moment (drop 3 zs)) _ x b.3 in
    let d = if-value (are_offsets (at zs 2) (at zs 8)) _ x 112 c.2 in
    subst (Back zs) d.1
    (back_of zs a.0 b.0 c.0 a.1 a.2 b.1 b.2 (moment_back (drop 3 zs) c.0 c.1) d.0)

offset_only : (zs : List ℤ) → Field112 (item zs)
unfolding item
offset_only zs =
    then-112 _ _ (natural-112 (2 ^ 24) (at zs 0)) (λ _. then-112 _ _ (natural-112 (2 ^ 6) (at zs 1))
    (λ _. then-112 _ _ (moment_only (drop 3 zs))
    (λ _. if-case Field112 (are_offsets (at zs 2) (at zs 8)) (λ _. value-112 _) (λ _. refused-112))))

-- ---- the polarity in the bits of an item

zero_digits : (n : ℕ) → n < 100 → bcd_show 2 n ≡ 0 → n ≡ 0
unfolding bcd_of bcd_after
zero_digits n h e = sym (value_is (ap (λ v. bcd_of v 2) (sym e) ∙ bcd_of_shown 2 n h))

zero_shown : (z : ℤ) → nat_abs z < 1440 → offset_shown z ≡ 0 → z ≡ pos 0
zero_shown z h e =
    let hours = zero_digits (nat_abs z / 60) (omega arith) (omega arith) in
    let minutes = zero_digits (nat_abs z % 60) (omega arith) (omega arith) in
    no_size z (omega arith)

shown_zero : (z : ℤ) → nat_abs z ≡ 0 → offset_shown z ≡ 0
unfolding bcd_show
shown_zero z e = ap (λ n. bcd_show 2 (n / 60) * 256 + bcd_show 2 (n % 60)) e

module _ (p : Bool) (x : Item) (b : List ℕ) (bytes : Bytes b) (l : length b ≡ 13)
    (e : keptIn layout b ≡ shown p x) where
  placed : kept_of layout (spans 0 layout b) ≡ shown p x
  unfolding keptIn
  placed = sym (ap (kept_of layout) (unpack_spans b bytes layout (ap (λ j. 8 * j) (sym l)))) ∙ e

  bit_is : bits_of layout 3 b ≡ bit p
  unfolding number_at bits_at
  bit_is = ap (λ vs. get_or vs 2 0) placed

  local_is : number_of layout 4 b ≡ offset_shown x.local_time_offset
  unfolding number_at
  local_is = sym (whole_span b bytes 2 4) ∙ ap (λ vs. get_or vs 3 0) placed

  next_is : number_of layout 6 b ≡ offset_shown x.next_time_offset
  unfolding number_at
  next_is = sym (whole_span b bytes 2 11) ∙ ap (λ vs. get_or vs 5 0) placed

  -- where no polarity is idle, it is the one that the writer takes
  offset_again : Right p x → NoIdlePolarity b → p ≡ Taken x
  offset_again r h =
      polarity p (nat_abs x.local_time_offset) (nat_abs x.next_time_offset)
      (λ one local next. h (bit_is ∙ ap bit one) (local_is ∙ shown_zero x.local_time_offset local)
      (next_is ∙ shown_zero x.next_time_offset next))
      ∙ ap₂ behind (sym r.local.0) (sym r.next.0)

-- and what the writer takes is not idle
offset_extra : (x : Item) (b : List ℕ) → Bytes b → length b ≡ 13 → Right (Taken x) x
    → keptIn layout b ≡ shown (Taken x) x → NoIdlePolarity b
unfolding behind
offset_extra x b bytes l r e one local next =
    let none : Taken x ≡ false =
    ap₂ behind
    (zero_shown x.local_time_offset r.local.1 (sym (local_is (Taken x) x b bytes l e) ∙ local))
    (zero_shown x.next_time_offset r.next.1 (sym (next_is (Taken x) x b bytes l e) ∙ next)) in
    let z : ◌≡◌ {A = ℕ} 0 1 = sym (bit_is (Taken x) x b bytes l e ∙ ap bit none) ∙ one in
    omega arith

pub offset_rows : ItemRows 0x58 9 layout item row localTimeOffset Right shown Taken NoIdlePolarity
offset_rows = record {
  tagged = omega arith;
  some = omega arith;
  filled = omega arith;
  short = omega arith;
  fills = refl;
  exactly = offsets_exactly;
  sized = row_size_lem;
  there = offset_there;
  back = offset_back;
  only = offset_only;
  again = λ p x b bytes l r e h. offset_again p x b bytes l e r h;
  extra = offset_extra;
}
