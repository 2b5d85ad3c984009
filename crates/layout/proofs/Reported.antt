-- What is told of a field of a body is told of the caller's bytes: its digits in half bytes from its place, and an item's fields where they
-- stand in the list.
use Prim.Native.Nat.{ℕ, ◌+◌, ◌-◌, ◌*◌, ◌/◌, ◌%◌, ◌^◌, ◌<◌, ◌≤◌}
use mathlib.Core.Path.{◌≡◌, refl, sym, ap, ◌∙◌, subst}
use mathlib.Core.Logic.{inl, inr}
use mathlib.Core.Bool.{Bool, true, false}
use mathlib.Core.List.{List, [], ◌∷◌}
use native.Mathlib.Omega.{arith}
use lib.Dec.{eqb, ltb}
use lib.ListN.{length, get_or, take, drop}
use lib.Seq.{get_or-drop, get_or-take}
use Rattle.wire.specs.Bytes.{Bytes}
use Rattle.wire.specs.Number.{number_at}
use Rattle.wire.specs.Digits.{bcd_of}
use Rattle.wire.specs.Reading.{value, refused, ◌>>=◌}
use Rattle.wire.proofs.IfLaws.{if-case}
use Rattle.wire.proofs.ReadingLaws.{refused_is, never}
use Rattle.wire.proofs.HalfBytes.{half_of}
use Rattle.clock.specs.Fault.{Why, Answered, plain, in_field}
use Rattle.clock.specs.Reported.{Checked, digits, Judged, Bare, Tells, RefusalTells}
use Rattle.clock.proofs.FirstWrong.{judged_tells, bare_tells}
use Rattle.clock.proofs.Reported.{digits_judged}
use Rattle.layout.specs.Body.{lengthed, framed, fit, fixed}
use Rattle.layout.specs.Items.{items, place, item}
use Rattle.layout.specs.Field.{digits_at}
use Rattle.layout.specs.Shapes.{Framed, joined, Itemed}
use Rattle.layout.proofs.Accepts.{fixed_exactly, item-at, item_is}

module _ (b : List ℕ) (bytes : Bytes b) (at : ℕ) where
  -- "counted in half bytes from the field's start"
  pub digits_at_judged : (n : ℕ) → n ≤ 8 → Judged b (digits at n ∷ []) (digits_at b at n)
  unfolding digits_at
  digits_at_judged n most =
      let v : ℕ = number_at 4 b at / 2 ^ (4 * (8 - n)) in
      let all : n ≡ 8 - (8 - n) = omega arith in
      digits_judged b at n v (λ j l. half_of b bytes 4 at n j most l) (bcd_of v (8 - (8 - n))) (ap (bcd_of v) all)

-- more than eight digits are eight
pub digits_eight : (b : List ℕ) (at n : ℕ) → 8 ≤ n → digits_at b at n ≡ digits_at b at 8
unfolding digits_at
digits_eight b at n h =
    let none : 8 - n ≡ 0 = omega arith in
    ap (λ out. in_field at (bcd_of (number_at 4 b at / 2 ^ (4 * out)) (8 - out))) none

-- ---- 61, 62 and 66

-- what is refused, is refused with a number that is no field's, and it carries nothing else
abbrev pub OnlyBare : {A : Type 0} → Answered A → Type 0
OnlyBare r = (w : Why) → r ≡ refused w → (k : ℕ) × Bare k × (plain k ≡ w)

module _ {A : Type 0} where
  bare_value : (a : A) → OnlyBare (value a)
  bare_value a w e = absurd (never e)

  bare_refused : (k : ℕ) → Bare k → OnlyBare {A = A} (refused (plain k))
  bare_refused k other w e = (k, other, refused_is e)

  bare_then : {B : Type 0} (r : Answered A) (f : A → Answered B) → OnlyBare r → ((a : A) → OnlyBare (f a)) → OnlyBare (r >>= f)
  bare_then (value a) f h g = g a
  bare_then (refused v) f h g = λ w e. h w (ap refused (refused_is e))

  -- what is refused so in front tells its number alone
  pub front_tells : {B : Type 0} (b : List ℕ) (fs : List Checked) (r : Answered A) (f : A → Answered B) → OnlyBare r
      → ((a : A) → r ≡ value a → RefusalTells b fs (f a)) → RefusalTells b fs (r >>= f)
  front_tells b fs (value a) f h g = g a refl
  front_tells b fs (refused v) f h g = λ w e.
      let (k, other, q) = h w (ap refused (refused_is e)) in subst (Tells b fs) q (bare_tells b fs k other)

bare_fit : (t : Bool) (b : List ℕ) → OnlyBare (fit t b)
bare_fit true b = bare_value b
bare_fit false b = bare_refused 62 (inl (omega arith))

bare_framed : (s : List ℕ) (tag : ℕ) → OnlyBare (framed s tag)
unfolding framed
bare_framed [] tag = bare_refused 61 (inl (omega arith))
bare_framed (t ∷ rest) tag =
    if-case OnlyBare (eqb t tag) (λ _. lengths rest) (λ _. bare_refused 61 (inl (omega arith)))
  where
    lengths : (r : List ℕ) → OnlyBare (lengthed r)
    lengths [] = bare_refused 62 (inl (omega arith))
    lengths (n ∷ body) =
        if-case OnlyBare (eqb n (length body)) (λ _. bare_value body) (λ _. bare_refused 62 (inl (omega arith)))

bare_fixed : (s : List ℕ) (tag n : ℕ) → OnlyBare (fixed s tag n)
unfolding fixed
bare_fixed s tag n = bare_then (framed s tag) _ (bare_framed s tag) (λ b. bare_fit (eqb (length b) n) b)

pub bare_item : (s : List ℕ) (tag k i : ℕ) → OnlyBare (item s tag k i)
unfolding item place items
bare_item s tag k i =
    bare_then (place s tag k i) _
    (bare_then (items s tag k) _ (bare_then (framed s tag) _ (bare_framed s tag) (λ b. bare_fit (eqb (length b % k) 0) b))
    (λ b. if-case OnlyBare (ltb i (length b / k)) (λ _. bare_value (2 + k * i)) (λ _. bare_refused 66 (inr (omega arith)))))
    (λ at. bare_value (take k (drop at s)))

-- ---- a body, and an item of a list

-- the body is what follows two bytes
pub body_is : (tag : ℕ) (s b : List ℕ) → Framed tag s b → b ≡ drop 2 s
body_is tag s b framed = sym (ap (drop 2) framed)

-- a body of n bytes, and what is read of it
pub fixed_judged : {A : Type 0} (f : List ℕ → Answered A) (n tag : ℕ) (s b : List ℕ) (fs : List Checked) → Framed tag s b
    → length b ≡ n → Judged b fs (f b) → Judged b fs (fixed s tag n >>= f)
fixed_judged f n tag s b fs framed l j =
    let e : fixed s tag n ≡ value b = (fixed_exactly n tag s b).1 (framed, l) in
    subst (Judged b fs) (sym (ap (λ r. r >>= f) e)) j

-- what its refusals tell, whatever the bytes
pub fixed_tells : {A : Type 0} (f : List ℕ → Answered A) (n tag : ℕ) (s : List ℕ) (fs : List Checked)
    → ((b : List ℕ) → Framed tag s b → length b ≡ n → Judged b fs (f b)) → RefusalTells (drop 2 s) fs (fixed s tag n >>= f)
fixed_tells f n tag s fs h =
    front_tells (drop 2 s) fs (fixed s tag n) f (bare_fixed s tag n) (λ b e.
    let x = (fixed_exactly n tag s b).0 e in
    subst (λ c. RefusalTells c fs (f b)) (body_is tag s b x.0) (judged_tells b fs (f b) (h b x.0 x.1)))

module _ (k tag : ℕ) (some : 0 < k) (s : List ℕ) (xs : List (List ℕ)) (are : Itemed k tag s xs) (i : ℕ) (there : i < length xs)
  where
    -- an item of a list, and what is read of it
    pub item_judged : {A : Type 0} (f : List ℕ → Answered A) (fs : List Checked)
        → Judged (joined xs) fs (f (get_or xs i [])) → Judged (joined xs) fs (item s tag k i >>= f)
    item_judged f fs j =
        let e : item s tag k i ≡ value (get_or xs i []) = item_is k tag some s xs are i there in
        subst (Judged (joined xs) fs) (sym (ap (λ r. r >>= f) e)) j

    -- its byte at a place stands in the body at that place behind its offset
    pub item_byte : (p q : ℕ) → p < k → q ≡ k * i + p → get_or (joined xs) q 0 ≡ get_or (get_or xs i []) p 0
    item_byte p q l e =
        ap (λ j. get_or (joined xs) j 0) e
        ∙ sym (get_or-drop (k * i) (joined xs) p 0)
        ∙ sym (get_or-take k (drop (k * i) (joined xs)) p 0 l)
        ∙ ap (λ x. get_or x p 0) (item-at k xs i are.each there)
