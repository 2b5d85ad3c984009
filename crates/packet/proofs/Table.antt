-- Laws of document 01's table of refusals: what is known of a packet that none of its rows meets.
use mathlib.Core.Path.{◌≡◌, refl, sym, ap, ◌∙◌}
use mathlib.Core.Bool.{Bool, true, false, ◌&&◌, ◌||◌}
use mathlib.Core.List.{List, [], ◌∷◌}
use mathlib.Core.Option.{Option, none, some}
use Prim.Native.Nat.{ℕ, ◌+◌, ◌-◌, ◌≤◌, ◌<◌}
use native.Mathlib.Omega.{arith}
use lib.Dec.{ltb, eqb}
use borrow.Author.Tests.{ltb-false, eqb-false, eq-eqb}
use Rattle.std.specs.Prelude.{if◌then◌else◌}
use Rattle.wire.specs.Each.{Each}
use Rattle.wire.proofs.IfLaws.{true_not_false}
use Rattle.packet.specs.Header.{start_flag, control, counter_of, adaptation, discontinuity, payload_from}
use Rattle.packet.specs.Refusals.{Row, refusals, first_of, bare, has_payload, judged_by, judged}

-- ---- what is known where no row applies

pub or_false : (a b : Bool) → (a || b) ≡ false → (a ≡ false) × (b ≡ false)
or_false true b e = absurd (true_not_false e)
or_false false b e = (refl, e)

pub and_false : (a b : Bool) → (a && b) ≡ false → a ≡ true → b ≡ false
and_false true b e h = e
and_false false b e h = absurd (true_not_false (sym h))

-- a row that does not apply
abbrev pub Passed : Row → Type 0
Passed r = r.applies ≡ false

none_at : (r : Row) (rows : List Row) (t : Bool) → r.applies ≡ t
    → (if t then some r.number else first_of rows) ≡ none → (t ≡ false) × (first_of rows ≡ none)
none_at r rows true e w = let z : ◌≡◌ {A = ℕ} 0 1 = cc in absurd (omega arith)
none_at r rows false e w = (refl, w)

pub none_of : (rows : List Row) → first_of rows ≡ none → Each Passed rows
none_of [] e = tt
none_of (r ∷ rows) e = let w = none_at r rows r.applies refl e in (w.0, none_of rows w.1)

pub all_passed : (rows : List Row) → Each Passed rows → first_of rows ≡ none
all_passed [] x = refl
all_passed (r ∷ rows) x = ap (λ (t : Bool). if t then some r.number else first_of rows) x.0 ∙ all_passed rows x.1

-- a packet with payload meets no row
pub record WithPayload (small unfit : Bool) (pid : ℕ) (p : List ℕ) (from : ℕ) (start : Bool) (counter : ℕ) (splice : Bool) : Type 0 where
  pub passed : Each Passed (refusals small unfit pid p)
  pub has : control p ≡ 2 → ⊥
  pub at : from ≡ payload_from p
  pub flag : start ≡ start_flag p
  pub count : counter ≡ counter_of p
  pub bit : splice ≡ discontinuity p

module _ (small unfit : Bool) (pid : ℕ) (p : List ℕ) (from : ℕ) (start : Bool) (counter : ℕ) (splice : Bool) where
  payload_by : (t : Bool) → eqb (control p) 2 ≡ t → first_of (refusals small unfit pid p) ≡ none
      → (if t then bare (discontinuity p) else has_payload (payload_from p) (start_flag p) (counter_of p) (discontinuity p))
      ≡ has_payload from start counter splice
      → WithPayload small unfit pid p from start counter splice
  payload_by true e w h = let z : ◌≡◌ {A = ℕ} 0 1 = cc in absurd (omega arith)
  payload_by false e w h = record {
    passed = none_of (refusals small unfit pid p) w;
    has = eqb-false (control p) 2 e;
    at = cc;
    flag = cc;
    count = cc;
    bit = cc;
  }

  payload_at : (o : Option ℕ) → first_of (refusals small unfit pid p) ≡ o → judged_by o p ≡ has_payload from start counter splice
      → WithPayload small unfit pid p from start counter splice
  payload_at (some n) w h = let z : ◌≡◌ {A = ℕ} 0 1 = cc in absurd (omega arith)
  payload_at none w h = payload_by (eqb (control p) 2) refl w h

  pub payload_of_lem : judged small unfit pid p ≡ has_payload from start counter splice
      → WithPayload small unfit pid p from start counter splice
  unfolding judged
  payload_of_lem h = payload_at (first_of (refusals small unfit pid p)) refl h

-- where the payload begins
pub payload_in : (p : List ℕ) (t : Bool) → eqb (control p) 1 ≡ t → (control p ≡ 0 → ⊥) → (control p ≡ 2 → ⊥)
    → (eqb (control p) 3 && ltb 182 (adaptation p)) ≡ false
    → (4 ≤ (if t then 4 else 5 + adaptation p)) × ((if t then 4 else 5 + adaptation p) < 188)
payload_in p true e n₀ n₂ l = (omega arith, omega arith)
payload_in p false e n₀ n₂ l =
    let n₁ = eqb-false (control p) 1 e in
    let three : control p ≡ 3 = omega arith in
    let few : adaptation p ≤ 182 = ltb-false _ _ (and_false (eqb (control p) 3) _ l (eq-eqb _ _ three)) in
    (omega arith, omega arith)
