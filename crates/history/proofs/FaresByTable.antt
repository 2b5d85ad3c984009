-- How a packet fares by document 01's table: taken exactly if no row applies and it is not repeated, refused exactly
-- with the first row that applies; and the packets that the answers call taken are those that are taken by the packets
-- alone.
use mathlib.Core.Path.{◌≡◌, refl, sym, ap, ◌∙◌}
use mathlib.Core.Bool.{Bool, true, false, not, ◌&&◌, ◌||◌}
use mathlib.Core.List.{List, [], ◌∷◌, ◌++◌, map}
use mathlib.Core.Logic.{◌⊎◌, ◌↔◌, inl, inr, ⊎_elim}
use mathlib.Core.Option.{Option, none, some}
use Prim.Native.Nat.{ℕ}
use native.Mathlib.Omega.{arith}
use lib.Dec.{ltb, eqb}
use borrow.Author.Tests.{eqb-true, eqb-false}
use Rattle.std.specs.Prelude.{if◌then◌else◌}
use Rattle.wire.specs.Each.{Each}
use Rattle.wire.proofs.IfLaws.{true_not_false}
use Rattle.packet.specs.Header.{start_flag, control, counter_of, discontinuity, payload_from}
use Rattle.packet.specs.Ruling.{Before, mark_with, equal_to, repeats, Carried, Ruling, takes, load_of, ruled_by, ruling}
use Rattle.packet.specs.Refusals.{Row, refusals, first_of, has_payload, judged_by, judged}
use Rattle.packet.specs.Refusals as Refusals
use Rattle.packet.specs.Ruling as Ruled
use Rattle.collector.specs.Refusals.{too_small}
use Rattle.packet.proofs.Table.{none_of, all_passed}
use Rattle.history.specs.Run.{Call, Fare, taken, fare_of, ruled_fare, if_said_taken, said_mark, said_taken, lent_of, ruling_on, before_after, ruled_in, fares_from, ruled_taken, NotRepeated}
use Rattle.history.specs.Run as R
use Rattle.history.specs.Demand1.{First}

abbrev pub fare_number : Fare → ℕ
fare_number (R.refused_by n) = 0
fare_number R.repeated = 1
fare_number taken = 2

abbrev number_in : Fare → ℕ
number_in (R.refused_by n) = n
number_in R.repeated = 0
number_in taken = 0

-- ---- the first row that applies

first_at : (n : ℕ) (row : Row) (rows : List Row) (t : Bool) → row.applies ≡ t → (first_of rows ≡ some n) ↔ First n rows
    → ((if t then some row.number else first_of rows) ≡ some n) ↔ First n (row ∷ rows)
first_at n row rows true e w = (
  λ v. inl (e, cc),
  λ v. ⊎_elim (λ u. ap some u.1) (λ u. let z : ◌≡◌ {A = ℕ} 0 1 = cc in absurd (omega arith)) v,
)
first_at n row rows false e w = (
  λ v. inr (e, w.0 v),
  λ v. ⊎_elim (λ u. let z : ◌≡◌ {A = ℕ} 0 1 = cc in absurd (omega arith)) (λ u. w.1 u.1) v,
)

pub first_exactly_if : (n : ℕ) (rows : List Row) → (first_of rows ≡ some n) ↔ First n rows
first_exactly_if n [] = (λ e. let z : ◌≡◌ {A = ℕ} 0 1 = cc in absurd (omega arith), λ x. absurd x)
first_exactly_if n (row ∷ rows) = first_at n row rows row.applies refl (first_exactly_if n rows)

-- a number that no row has where it applies is not the first
abbrev pub Never : ℕ → Row → Type 0
Never n row = row.applies ≡ true → row.number ≡ n → ⊥

pub never_first : (n : ℕ) (rows : List Row) → Each (Never n) rows → First n rows → ⊥
never_first n [] x f = f
never_first n (row ∷ rows) x f = ⊎_elim (λ u. x.0 u.0 u.1) (λ u. never_first n rows x.1 u.1) f

-- ---- of a packet that no row refuses

new_unrefused : (n : ℕ) (q : Carried ℕ) (t : Bool) → ruled_fare (if t then Ruled.repeated else takes q) ≡ R.refused_by n
    → ⊥
new_unrefused n q true e = let z : ◌≡◌ {A = ℕ} 1 0 = ap fare_number e in omega arith
new_unrefused n q false e = let z : ◌≡◌ {A = ℕ} 2 0 = ap fare_number e in omega arith

new_taken : (q : Carried ℕ) (t : Bool) → (ruled_fare (if t then Ruled.repeated else takes q) ≡ taken) ↔ (t ≡ false)
new_taken q true = (
  λ w. let z : ◌≡◌ {A = ℕ} 1 2 = ap fare_number w in absurd (omega arith),
  λ w. let z : ◌≡◌ {A = ℕ} 0 1 = cc in absurd (omega arith),
)
new_taken q false = (λ w. refl, λ w. refl)

-- "never "repeated"": not repeated exactly if the mark is set, by a packet before or by this one, or another counter comes
not_repeated : (mark splice again : Bool)
    → ((not (mark || splice) && again) ≡ false) ↔ (((mark ≡ true) ⊎ (splice ≡ true)) ⊎ (again ≡ false))
not_repeated true splice again = (λ e. inl (inl refl), λ v. refl)
not_repeated false true again = (λ e. inl (inr refl), λ v. refl)
not_repeated false false again = (
  λ e. inr e,
  λ v. ⊎_elim (λ u. ⊎_elim (λ w. absurd (true_not_false (sym w))) (λ w. absurd (true_not_false (sym w))) u) (λ u. u) v,
)

-- a packet that no row refuses, after the packets before
module _ (before : Before) (p : List ℕ) where
  -- its load, where it has payload
  abbrev pub here : Carried ℕ
  here = load_of (mark_with before (discontinuity p)) p (payload_from p) (start_flag p) (counter_of p)

  -- whether it is then a repeated one
  abbrev pub again : Bool
  again = repeats before.last (mark_with before (discontinuity p)) (counter_of p)

  -- the ruling, by its adaptation control
  abbrev pub passed_on : Bool → Ruling
  passed_on t =
      ruled_by before p
      (if t then Refusals.bare (discontinuity p)
      else has_payload (payload_from p) (start_flag p) (counter_of p) (discontinuity p))

module _ (small unfit : Bool) (pid : ℕ) (before : Before) (p : List ℕ) where
  abbrev rows : List Row
  rows = refusals small unfit pid p

  -- ---- refused exactly with the first row that applies

  unrefused : (n : ℕ) (t : Bool) → ruled_fare (passed_on before p t) ≡ R.refused_by n → ⊥
  unrefused n true e = let z : ◌≡◌ {A = ℕ} 2 0 = ap fare_number e in omega arith
  unrefused n false e = new_unrefused n (here before p) (again before p) e

  refused_at : (n : ℕ) (o : Option ℕ) → (ruled_fare (ruled_by before p (judged_by o p)) ≡ R.refused_by n) ↔ (o ≡ some n)
  refused_at n (some m) = (λ e. ap some (ap number_in e), λ e. let same : m ≡ n = cc in ap R.refused_by same)
  refused_at n none = (
    λ e. absurd (unrefused n (eqb (control p) 2) e),
    λ e. let z : ◌≡◌ {A = ℕ} 0 1 = cc in absurd (omega arith),
  )

  pub refused_exactly_if : (n : ℕ) → (ruled_fare (ruling small unfit pid before p) ≡ R.refused_by n) ↔ First n rows
  unfolding judged
  refused_exactly_if n =
      let a = refused_at n (first_of rows) in
      let b = first_exactly_if n rows in
      (λ e. b.0 (a.0 e), λ x. a.1 (b.1 x))

  -- ---- taken exactly if no row applies and it is not repeated

  abbrev Is : Ruling → Type 0
  Is z = (ruled_fare z ≡ taken)
      ↔ (Each (λ row. row.applies ≡ false) rows × NotRepeated before p)

  passed_if : (t : Bool) → eqb (control p) 2 ≡ t → Each (λ row. row.applies ≡ false) rows → Is (passed_on before p t)
  unfolding repeats
  passed_if true e w = (λ v. (w, inl (eqb-true _ _ e)), λ v. refl)
  passed_if false e w =
      let f = new_taken (here before p) (again before p) in
      let g = not_repeated before.mark (discontinuity p) (equal_to before.last (counter_of p)) in
      (λ v. (w, inr (g.0 (f.0 v))), λ v. ⊎_elim (λ u. absurd (eqb-false _ _ e u)) (λ u. f.1 (g.1 u)) v.1)

  taken_at : (o : Option ℕ) → first_of rows ≡ o → Is (ruled_by before p (judged_by o p))
  taken_at (some n) e = (
    λ v. let z : ◌≡◌ {A = ℕ} 0 2 = ap fare_number v in absurd (omega arith),
    λ v. let w = all_passed rows v.0 in let z : ◌≡◌ {A = ℕ} 0 1 = cc in absurd (omega arith),
  )
  taken_at none e = passed_if (eqb (control p) 2) refl (none_of rows e)

  pub taken_exactly_if : Is (ruling small unfit pid before p)
  unfolding judged
  taken_exactly_if = taken_at (first_of rows) refl

  -- ---- what the answer calls taken is what is taken, and the mark behind it is the mark behind it

  pub record Alike (z : Ruling) : Type 0 where
    pub carried : if_said_taken before.mark (ruled_fare z) p ≡ ruled_in z
    pub mark : said_mark before.mark (ruled_fare z) p ≡ (before_after before z).mark

  new_alike : (t : Bool) → eqb (control p) 2 ≡ false → Alike (if t then Ruled.repeated else takes (here before p))
  new_alike true e = record { carried = refl; mark = refl }
  new_alike false e = record {
    carried = ap (λ (t : Bool). if t then [] else here before p ∷ []) e;
    mark = ap (λ (t : Bool). if t then mark_with before (discontinuity p) else false) e;
  }

  alike_passed : (t : Bool) → eqb (control p) 2 ≡ t → Alike (passed_on before p t)
  alike_passed true e = record {
    carried = ap (λ (t : Bool). if t then [] else here before p ∷ []) e;
    mark = ap (λ (t : Bool). if t then mark_with before (discontinuity p) else false) e;
  }
  alike_passed false e = new_alike (again before p) e

  alike_at : (o : Option ℕ) → Alike (ruled_by before p (judged_by o p))
  alike_at (some n) = record { carried = refl; mark = refl }
  alike_at none = alike_passed (eqb (control p) 2) refl

  pub ruled_alike : Alike (ruling small unfit pid before p)
  unfolding judged
  ruled_alike = alike_at (first_of rows)

-- ---- over the calls of a run

-- calls that fare by the packets alone: the first of them, and the rest
pub fares_cut : (pid size : ℕ) (before : Before) (k : Call) (ks : List Call)
    → map (λ k. fare_of k.said) (k ∷ ks) ≡ fares_from pid size before (map lent_of (k ∷ ks))
    → (fare_of k.said ≡ ruled_fare (ruling_on pid size before (lent_of k)))
    × (map (λ k. fare_of k.said) ks
    ≡ fares_from pid size (before_after before (ruling_on pid size before (lent_of k))) (map lent_of ks))
fares_cut pid size before k ks e = (cc, cc)

pub taken_alike : (pid size : ℕ) (before : Before) (ks : List Call)
    → map (λ k. fare_of k.said) ks ≡ fares_from pid size before (map lent_of ks)
    → said_taken before.mark ks ≡ ruled_taken pid size before (map lent_of ks)
taken_alike pid size before [] e = refl
taken_alike pid size before (k ∷ ks) e =
    let w = fares_cut pid size before k ks e in
    let z = ruling_on pid size before (lent_of k) in
    let one = ruled_alike (too_small size (lent_of k).room) (ltb 8191 pid) pid before k.packet in
    ap (λ (f : Fare). if_said_taken before.mark f k.packet ++ said_taken (said_mark before.mark f k.packet) ks) w.0
    ∙ ap (λ (m : Bool). if_said_taken before.mark (ruled_fare z) k.packet ++ said_taken m ks) one.mark
    ∙ (λ i. one.carried i ++ taken_alike pid size (before_after before z) ks w.1 i)
