-- A list of fields of which the first wrong one is told: one refusal tells it, and the bytes show what that tells.
use Prim.{tt}
use Prim.Native.Nat.{ℕ, ◌+◌, ◌*◌, ◌<◌}
use mathlib.Core.Path.{◌≡◌, refl, sym, ap, ◌∙◌, subst}
use mathlib.Core.Logic.{inl, inr, ⊎_elim, ◌↔◌}
use mathlib.Core.List.{List, [], ◌∷◌, ◌++◌}
use native.Mathlib.Omega.{arith}
use Rattle.wire.specs.Each.{Each}
use Rattle.wire.specs.Reading.{value, refused, ◌>>=◌}
use Rattle.wire.specs.Number.{number_at, half_byte}
use Rattle.wire.specs.Digits.{NoneBad}
use Rattle.wire.proofs.ReadingLaws.{refused_is, never}
use Rattle.wire.proofs.Decimal.{first_bad_once}
use Rattle.clock.specs.Fault.{Why, Answered, plain, number_of, bad_digit}
use Rattle.clock.specs.Reported.{Checked, digits, clock, mjd, halves, Right, BadDigit, OutOfRange, TooEarly, Wrong, FirstWrong, Judged, Found, Bare, Tells, RefusalTells}

-- ---- a field is right, or wrong in one way

no_bad : (b : List ℕ) (at n : ℕ) (w : Why) → NoneBad (halves b at) n → BadDigit b at n w → ⊥
no_bad b at n w none (j, f, e) = omega (arith, none j f.inside, f.bad)

not_both : (b : List ℕ) (w : Why) (f : Checked) → Right b f → Wrong b w f → ⊥
not_both b w (digits at n) right wrong = no_bad b at n w right wrong
not_both b w (clock at limit) right (inl bad) = no_bad b at 2 w right.0 bad
not_both b w (clock at limit) right (inr out) = omega (arith, right.1, out.1)
not_both b w (mjd at) right wrong = omega (arith, right, wrong.0)

bad_once : (b : List ℕ) (v w : Why) (at n : ℕ) → BadDigit b at n v → BadDigit b at n w → v ≡ w
bad_once b v w at n (i, f, e) (j, g, q) = e ∙ ap (bad_digit at) (first_bad_once (halves b at) n i j f g) ∙ sym q

wrong_once : (b : List ℕ) (v w : Why) (f : Checked) → Wrong b v f → Wrong b w f → v ≡ w
wrong_once b v w (digits at n) p q = bad_once b v w at n p q
wrong_once b v w (clock at limit) (inl p) (inl q) = bad_once b v w at 2 p q
wrong_once b v w (clock at limit) (inl p) (inr q) = absurd (no_bad b at 2 v q.0 p)
wrong_once b v w (clock at limit) (inr p) (inl q) = absurd (no_bad b at 2 w p.0 q)
wrong_once b v w (clock at limit) (inr p) (inr q) = p.2 ∙ sym q.2
wrong_once b v w (mjd at) p q = p.1 ∙ sym q.1

none_wrong : (b : List ℕ) (w : Why) (fs : List Checked) → Each (Right b) fs → FirstWrong b w fs → ⊥
none_wrong b w [] right wrong = wrong
none_wrong b w (f ∷ fs) right (inl wrong) = not_both b w f right.0 wrong
none_wrong b w (f ∷ fs) right (inr further) = none_wrong b w fs right.1 further.1

first_once : (b : List ℕ) (v w : Why) (fs : List Checked) → FirstWrong b v fs → FirstWrong b w fs → v ≡ w
first_once b v w [] p q = absurd p
first_once b v w (f ∷ fs) (inl p) (inl q) = wrong_once b v w f p q
first_once b v w (f ∷ fs) (inl p) (inr q) = absurd (not_both b v f q.0 p)
first_once b v w (f ∷ fs) (inr p) (inl q) = absurd (not_both b w f p.0 q)
first_once b v w (f ∷ fs) (inr p) (inr q) = first_once b v w fs p.1 q.1

-- ---- a reading by its fields: exactly which refusal, and exactly when none

module _ {A : Type 0} (b : List ℕ) (fs : List Checked) where
  pub refused_exactly : (r : Answered A) → Judged b fs r → (w : Why) → r ≡ refused w ↔ FirstWrong b w fs
  refused_exactly (value a) j w = (j.told w, λ f. absurd (none_wrong b w fs (j.read a refl) f))
  refused_exactly (refused v) j w = (j.told w, λ f. ap refused (first_once b v w fs (j.told v refl) f))

  pub read_exactly : (r : Answered A) → Judged b fs r → ((a : A) × (r ≡ value a)) ↔ Each (Right b) fs
  read_exactly (value a) j = (λ e. j.read a refl, λ right. (a, refl))
  read_exactly (refused w) j = (λ e. absurd (never (sym e.1)), λ right. absurd (none_wrong b w fs right (j.told w refl)))

  -- with a value, and with a refusal
  pub judged_value : (a : A) → Each (Right b) fs → Judged b fs (value a)
  judged_value a right = record { read = λ c e. right; told = λ w e. absurd (never e) }

  pub judged_refusal : (w : Why) → FirstWrong b w fs → Judged {A = A} b fs (refused w)
  judged_refusal w wrong =
      record { read = λ a e. absurd (never (sym e)); told = λ v e. subst (λ x. FirstWrong b x fs) (refused_is e) wrong }

-- one reading after another
right_also : (b : List ℕ) (w : Why) (fs gs : List Checked) → Each (Right b) fs → FirstWrong b w gs → FirstWrong b w (fs ++ gs)
right_also b w [] gs right wrong = wrong
right_also b w (f ∷ fs) gs right wrong = inr (right.0, right_also b w fs gs right.1 wrong)

wrong_also : (b : List ℕ) (w : Why) (fs gs : List Checked) → FirstWrong b w fs → FirstWrong b w (fs ++ gs)
wrong_also b w [] gs wrong = absurd wrong
wrong_also b w (f ∷ fs) gs (inl wrong) = inl wrong
wrong_also b w (f ∷ fs) gs (inr further) = inr (further.0, wrong_also b w fs gs further.1)

both_right : (b : List ℕ) (fs gs : List Checked) → Each (Right b) fs → Each (Right b) gs → Each (Right b) (fs ++ gs)
both_right b [] gs p q = q
both_right b (f ∷ fs) gs p q = (p.0, both_right b fs gs p.1 q)

module _ (b : List ℕ) (fs gs : List Checked) where
  behind : {A : Type 0} → Each (Right b) fs → (r : Answered A) → Judged b gs r → Judged b (fs ++ gs) r
  behind right r j = record {
    read = λ a e. both_right b fs gs right (j.read a e);
    told = λ w e. right_also b w fs gs right (j.told w e);
  }

  pub judged_then : {A B : Type 0} (r : Answered A) (k : A → Answered B) → Judged b fs r → ((a : A) → Judged b gs (k a))
      → Judged b (fs ++ gs) (r >>= k)
  judged_then (value a) k j h = behind (j.read a refl) (k a) (h a)
  judged_then (refused w) k j h = judged_refusal b (fs ++ gs) w (wrong_also b w fs gs (j.told w refl))

-- ---- what a refusal tells

-- "fields left to right": every field in front of the one that is told is right
fields_before : (b : List ℕ) (w : Why) (fs : List Checked) → FirstWrong b w fs → (f : Checked) × Found b w fs f
fields_before b w [] wrong = absurd wrong
fields_before b w (f ∷ fs) (inl wrong) = (f, record { front = []; behind = fs; among = refl; right = tt; wrong = wrong })
fields_before b w (f ∷ fs) (inr (right, further)) =
    let (g, x) = fields_before b w fs further in (
      g,
      record {
        front = f ∷ x.front;
        behind = x.behind;
        among = ap (λ l. f ∷ l) x.among;
        right = (right, x.right);
        wrong = x.wrong;
      },
    )

module _ (b : List ℕ) (fs : List Checked) (w : Why) where
  -- a field's number
  not_bare : {A : Type 0} → 62 < number_of w → number_of w < 66 → Bare (number_of w) → A
  not_bare low high m = absurd (⊎_elim (λ (l : number_of w < 63). omega arith) (λ (l : 65 < number_of w). omega arith) m)

  digit_tells : (at n : ℕ) → BadDigit b at n w → (f : Checked) × Found b w fs f → Tells b fs w
  digit_tells at n (j, f, e) found =
      let k : number_of w ≡ 63 = ap number_of e in
      record {
        bad_digit_lem = λ _. subst (λ v. 9 < half_byte b (2 * v.place + v.digit)) (sym e) f.bad;
        out_of_range = λ m. absurd (omega arith);
        too_early_lem = λ m. absurd (omega arith);
        first = λ _ _. found;
        bare = not_bare (omega arith) (omega arith);
      }

  range_tells : (at limit : ℕ) → OutOfRange b at limit w → Found b w fs (clock at limit) → Tells b fs w
  range_tells at limit out found =
      let k : number_of w ≡ 64 = ap number_of out.2 in
      let place : at ≡ w.place = sym (ap (λ v. v.place) out.2) in
      record {
        bad_digit_lem = λ m. absurd (omega arith);
        out_of_range = λ _. (limit, subst (λ p. OutOfRange b p limit w × Found b w fs (clock p limit)) place (out, found));
        too_early_lem = λ m. absurd (omega arith);
        first = λ _ _. (clock at limit, found);
        bare = not_bare (omega arith) (omega arith);
      }

  day_tells : (at : ℕ) → TooEarly b at w → Found b w fs (mjd at) → Tells b fs w
  day_tells at (early, e) found =
      let k : number_of w ≡ 65 = ap number_of e in
      let place : at ≡ w.place = sym (ap (λ v. v.place) e) in
      record {
        bad_digit_lem = λ m. absurd (omega arith);
        out_of_range = λ m. absurd (omega arith);
        too_early_lem = λ _. subst (λ p. number_at 2 b p < 15079) place early;
        first = λ _ _. (mjd at, found);
        bare = not_bare (omega arith) (omega arith);
      }

  field_tells : (f : Checked) → Wrong b w f → Found b w fs f → Tells b fs w
  field_tells (digits at n) bad found = digit_tells at n bad (digits at n, found)
  field_tells (clock at limit) (inl bad) found = digit_tells at 2 bad (clock at limit, found)
  field_tells (clock at limit) (inr out) found = range_tells at limit out found
  field_tells (mjd at) early found = day_tells at early found

  first_tells : FirstWrong b w fs → Tells b fs w
  first_tells wrong = let (f, x) = fields_before b w fs wrong in field_tells f x.wrong x

-- a number that is no field's carries nothing else
pub bare_tells : (b : List ℕ) (fs : List Checked) (k : ℕ) → Bare k → Tells b fs (plain k)
bare_tells b fs k other = record {
  bad_digit_lem = λ m. not_bare b fs (plain k) (omega arith) (omega arith) other;
  out_of_range = λ m. not_bare b fs (plain k) (omega arith) (omega arith) other;
  too_early_lem = λ m. not_bare b fs (plain k) (omega arith) (omega arith) other;
  first = λ low high. not_bare b fs (plain k) low high other;
  bare = λ _. refl;
}

pub judged_tells : {A : Type 0} (b : List ℕ) (fs : List Checked) (r : Answered A) → Judged b fs r → RefusalTells b fs r
judged_tells b fs r j w e = first_tells b fs w (j.told w e)
