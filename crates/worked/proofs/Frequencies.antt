-- A delivery system's frequency is the number that the first eight digits of its body are.
use Prim.Native.Nat.{ℕ}
use mathlib.Core.Path.{◌≡◌, refl, sym, ap, ◌∙◌}
use mathlib.Core.List.{List, ◌∷◌, ◌++◌}
use lib.Dec.{eqb}
use lib.ListN.{length}
use Rattle.wire.specs.Reading.{value, refused, ◌>>=◌}
use Rattle.wire.proofs.ReadingLaws.{value_is, never, through}
use Rattle.wire.proofs.IfLaws.{if-case}
use Rattle.clock.specs.Fault.{Answered}
use Rattle.layout.specs.Body.{framed, fixed, fit}
use Rattle.layout.specs.Field.{digits_at}
use Rattle.layout.proofs.Exactly.{framed_is}
use Rattle.delivery.specs.Cable.{fields as cable_fields, cable}
use Rattle.delivery.specs.Satellite.{fields as satellite_fields, satellite}
use Rattle.delivery.specs.declared.cable.Cable.{Cable}
use Rattle.delivery.specs.declared.satellite.Satellite.{Satellite}
use Rattle.worked.specs.Worked.{zeros, holds, cable_steps, satellite_steps}

-- the body of a descriptor of eleven bytes
body_is : (tag : ℕ) (l b : List ℕ) → fixed (tag ∷ 11 ∷ l) tag 11 ≡ value b → l ≡ b
unfolding fixed
body_is tag l b e = go (through (framed (tag ∷ 11 ∷ l) tag) (λ body. fit (eqb (length body) 11) body) b e)
  where
    fits : (c : List ℕ) → fit (eqb (length c) 11) c ≡ value b → c ≡ b
    fits c = if-case (λ x. x ≡ value b → c ≡ b) (eqb (length c) 11) (λ h q. value_is q) (λ h q. absurd (never (sym q)))

    go : (c : List ℕ) × (framed (tag ∷ 11 ∷ l) tag ≡ value c) × (fit (eqb (length c) 11) c ≡ value b) → l ≡ b
    go (c, f, q) =
        let p : tag ∷ 11 ∷ l ≡ tag ∷ length c ∷ c = framed_is tag (tag ∷ 11 ∷ l) c f in
        let r : l ≡ c = cc in
        r ∙ fits c q

module _ {A : Type 0} (count : A → ℕ) where
  -- the number that is read first is the count of what is read in all
  first_is : (r : Answered ℕ) (k : ℕ → Answered A) → ((n : ℕ) (a : A) → k n ≡ value a → count a ≡ n) → (a : A)
      → (r >>= k) ≡ value a → r ≡ value (count a)
  first_is (value n) k h a e = ap value (sym (h n a e))
  first_is (refused m) k h a e = absurd (never (sym e))

  -- what is read behind it does not alter it
  stays : {n : ℕ} (r : Answered ℕ) (k : ℕ → Answered A) → ((m : ℕ) (a : A) → k m ≡ value a → count a ≡ n) → (a : A)
      → (r >>= k) ≡ value a → count a ≡ n
  stays (value m) k h a e = h m a e
  stays (refused m) k h a e = absurd (never (sym e))

  is_count : {n : ℕ} (c a : A) → count c ≡ n → ◌≡◌ {A = Answered A} (value c) (value a) → count a ≡ n
  is_count c a h e = sym (ap count (value_is e)) ∙ h

  module _ (tag : ℕ) (fields : List ℕ → Answered A)
      (first : (b : List ℕ) (a : A) → fields b ≡ value a → digits_at b 0 8 ≡ value (count a)) where
    by_digits : (l : List ℕ) (n : ℕ) → digits_at l 0 8 ≡ value n → (a : A)
        → (fixed (tag ∷ 11 ∷ l) tag 11 >>= fields) ≡ value a → count a ≡ n
    by_digits l n d a e = go (through (fixed (tag ∷ 11 ∷ l) tag 11) fields a e)
      where
        go : (b : List ℕ) × (fixed (tag ∷ 11 ∷ l) tag 11 ≡ value b) × (fields b ≡ value a) → count a ≡ n
        go (b, f, q) = value_is (sym (first l a (ap fields (body_is tag l b f) ∙ q)) ∙ d)

cable_first : (b : List ℕ) (a : Cable) → cable_fields b ≡ value a → digits_at b 0 8 ≡ value a.frequency.0
unfolding cable_fields
cable_first b =
    let count : Cable → ℕ = λ c. c.frequency.0 in
    first_is count (digits_at b 0 8) _ (λ n. stays count (digits_at b 7 7) _ (λ m a. is_count count _ a refl))

satellite_first : (b : List ℕ) (a : Satellite) → satellite_fields b ≡ value a → digits_at b 0 8 ≡ value a.frequency.0
unfolding satellite_fields
satellite_first b =
    let count : Satellite → ℕ = λ c. c.frequency.0 in
    first_is count (digits_at b 0 8) _
    (λ n. stays count (digits_at b 4 4) _ (λ o. stays count (digits_at b 7 7) _ (λ m a. is_count count _ a refl)))

-- four bytes that are eight digits, whatever follows them; and one descriptor that has them is read
module _ (f : List ℕ) (n : ℕ) (digits : (l : List ℕ) → digits_at (f ++ l) 0 8 ≡ value n) where
  pub cable_holds : (cable (0x44 ∷ 11 ∷ (f ++ zeros)) >>= λ c. value c.frequency) ≡ value (record { 0 = n })
      → holds (cable_steps f (record { 0 = n }))
  unfolding cable
  cable_holds e =
      record {
        always = λ l a q. ap (λ k. record { 0 = k })
            (by_digits (λ c. c.frequency.0) 0x44 cable_fields cable_first (f ++ l) n (digits l) a q);
        once = e;
      }

  pub satellite_holds : (satellite (0x43 ∷ 11 ∷ (f ++ zeros)) >>= λ c. value c.frequency) ≡ value (record { 0 = n })
      → holds (satellite_steps f (record { 0 = n }))
  unfolding satellite
  satellite_holds e =
      record {
        always = λ l a q. ap (λ k. record { 0 = k })
            (by_digits (λ c. c.frequency.0) 0x43 satellite_fields satellite_first (f ++ l) n (digits l) a q);
        once = e;
      }
