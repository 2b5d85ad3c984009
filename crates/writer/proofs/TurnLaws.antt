-- Laws of where each packet begins: the turns are what the first of them leads to; each has some of the bytes ahead,
-- no more than there are and no more than a payload takes; and as many fewer are ahead of the next.
use mathlib.Core.Path.{◌≡◌, refl, sym, ap, ◌∙◌, subst}
use mathlib.Core.Bool.{Bool, true, false, ◌&&◌, false≢true}
use mathlib.Core.List.{List, [], ◌∷◌}
use Prim.Native.Nat.{ℕ, zero, suc, ◌+◌, ◌-◌, ◌*◌, ◌≤◌, ◌<◌}
use native.Mathlib.Nat.{zero-add}
use native.Mathlib.Omega.{arith}
use lib.ListN.{length}
use lib.Dec.{ltb, leb, eqb}
use borrow.Author.Tests.{ltb-true, ltb-false, lt-ltb, le-ltb, leb-true, leb-false, eq-eqb, ne_eqb}
use Rattle.std.specs.Prelude.{if◌then◌else◌}
use Rattle.wire.specs.Trail.{Trail, Pace, on, stop, onward, trail}
use Rattle.wire.proofs.TrailLaws.{trail_by}
use Rattle.writer.specs.Layout.{Ahead, sum, bytes_ahead, opened, Turn, least, waits, turn_of, behind, pace, turns_from}

-- ---- the lesser of two numbers

pub record Least (m n k : ℕ) : Type 0 where
  pub first : k ≤ m
  pub second : k ≤ n
  pub is_first : m ≤ n → k ≡ m
  pub is_second : n ≤ m → k ≡ n

least_by : (m n : ℕ) (t : Bool) → leb m n ≡ t → Least m n (if t then m else n)
least_by m n true e =
    let le = leb-true m n e in
    record { first = omega arith; second = le; is_first = λ w. refl; is_second = λ w. omega arith }
least_by m n false e =
    let gt = leb-false m n e in
    record { first = omega arith; second = omega arith; is_first = λ w. omega arith; is_second = λ w. refl }

pub least_law : (m n : ℕ) → Least m n (least m n)
least_law m n = least_by m n (leb m n) refl

-- ---- what a turn is

-- with the flag: a section waits, and fewer than 183 bytes are left
pub record Flagged (a : Ahead) (t : Turn) : Type 0 where
  pub is : t ≡ record { start = true; left = a.left; bytes = least 183 (bytes_ahead a) }
  pub one_waits : waits a.waiting ≡ true
  pub few : a.left < 183

-- without it: none waits, or 183 bytes or more are left
pub record Unflagged (a : Ahead) (t : Turn) : Type 0 where
  pub is : t ≡ record { start = false; left = a.left; bytes = least 184 a.left }
  pub full : waits a.waiting ≡ true → 183 ≤ a.left

pub data TurnIs (a : Ahead) (t : Turn) : Type 0 where
  flagged : Flagged a t → TurnIs a t
  unflagged : Unflagged a t → TurnIs a t

module _ (a : Ahead) where
  abbrev with_flag : Turn
  with_flag = record { start = true; left = a.left; bytes = least 183 (bytes_ahead a) }

  abbrev without_flag : Turn
  without_flag = record { start = false; left = a.left; bytes = least 184 a.left }

  turn_by : (w l : Bool) → waits a.waiting ≡ w → ltb a.left 183 ≡ l
      → TurnIs a (if w && l then with_flag else without_flag)
  turn_by true true e f = flagged (record { is = refl; one_waits = e; few = ltb-true a.left 183 f })
  turn_by true false e f = unflagged (record { is = refl; full = λ w. ltb-false a.left 183 f })
  turn_by false true e f = unflagged (record { is = refl; full = λ w. absurd (false≢true (sym e ∙ w)) })
  turn_by false false e f = unflagged (record { is = refl; full = λ w. ltb-false a.left 183 f })

  pub turn_is : TurnIs a (turn_of a)
  turn_is = turn_by (waits a.waiting) (ltb a.left 183) refl refl

pub none_ahead : (sizes : List ℕ) → waits sizes ≡ false → sum sizes ≡ 0
none_ahead [] e = refl
none_ahead (size ∷ sizes) e = absurd (false≢true (sym e))

pub waits_or : (t : Bool) (A : Type 0) → (t ≡ true → A) → (t ≡ false → A) → A
waits_or true A f g = f refl
waits_or false A f g = g refl

-- ---- how many bytes it has

pub record Takes (a : Ahead) (t : Turn) : Type 0 where
  pub there : t.bytes ≤ bytes_ahead a
  pub some : 0 < bytes_ahead a → 0 < t.bytes
  pub in_payload : t.bytes + (if t.start then 1 else 0) ≤ 184
  pub left_is : t.left ≡ a.left
  pub pointer_small : t.start ≡ true → t.left < 183

takes_by : (a : Ahead) (t : Turn) → TurnIs a t → Takes a t
takes_by a t (flagged f) =
    let l = least_law 183 (bytes_ahead a) in
    subst (Takes a) (sym f.is) (record {
      there = l.second;
      some = λ w. more (bytes_ahead a) w;
      in_payload = omega (arith, l.first);
      left_is = refl;
      pointer_small = λ e. f.few;
    })
  where
    more : (n : ℕ) → 0 < n → 0 < least 183 n
    more n w = at (leb 183 n) refl
      where
        at : (t : Bool) → leb 183 n ≡ t → 0 < (if t then 183 else n)
        at true e = omega arith
        at false e = w
takes_by a t (unflagged u) =
    let l = least_law 184 a.left in
    subst (Takes a) (sym u.is) (record {
      there = omega (arith, l.second);
      some = λ w. waits_or (waits a.waiting) (0 < least 184 a.left)
          (λ e. more a.left (omega (arith, u.full e)))
          (λ e. more a.left (omega (arith, w, none_ahead a.waiting e)));
      in_payload = omega (arith, l.first);
      left_is = refl;
      pointer_small = λ e. absurd (false≢true e);
    })
  where
    more : (n : ℕ) → 0 < n → 0 < least 184 n
    more n w = at (leb 184 n) refl
      where
        at : (t : Bool) → leb 184 n ≡ t → 0 < (if t then 184 else n)
        at true e = omega arith
        at false e = w

pub turn_takes : (a : Ahead) → Takes a (turn_of a)
turn_takes a = takes_by a (turn_of a) (turn_is a)

-- ---- what is ahead of the next

-- no section is begun, where what is left has the bytes
pub opened_here : (n left : ℕ) (waiting : List ℕ) → n ≤ left
    → opened n left waiting ≡ record { left = left - n; waiting = waiting }
opened_here n left [] k = refl
opened_here n left (size ∷ waiting) k =
    ap (λ (t : Bool). if t then opened n (left + size) waiting else
    record { left = left - n; waiting = size ∷ waiting })
    (le-ltb left n k)

-- one is begun, where it has not
pub opened_next : (n left size : ℕ) (waiting : List ℕ) → left < n
    → opened n left (size ∷ waiting) ≡ opened n (left + size) waiting
opened_next n left size waiting k =
    ap (λ (t : Bool). if t then opened n (left + size) waiting else
    record { left = left - n; waiting = size ∷ waiting })
    (lt-ltb left n k)

-- so many fewer bytes, once n are laid
pub opened_ahead : (n left : ℕ) (waiting : List ℕ) → n ≤ left + sum waiting
    → bytes_ahead (opened n left waiting) + n ≡ left + sum waiting
opened_ahead n left [] k = omega arith
opened_ahead n left (size ∷ waiting) k = at (opened_ahead n (left + size) waiting (omega arith)) (ltb left n) refl
  where
    at : bytes_ahead (opened n (left + size) waiting) + n ≡ left + size + sum waiting → (t : Bool) → ltb left n ≡ t
        → bytes_ahead (if t then opened n (left + size) waiting else
        record { left = left - n; waiting = size ∷ waiting })
        + n
        ≡ left + (size + sum waiting)
    at more true e = omega (arith, more)
    at more false e = omega (arith, ltb-false left n e)

pub behind_ahead : (a : Ahead) → bytes_ahead (behind a) + (turn_of a).bytes ≡ bytes_ahead a
behind_ahead a = opened_ahead (turn_of a).bytes a.left a.waiting (turn_takes a).there

-- ---- packet after packet

abbrev paced : Ahead → Bool → Pace Ahead Turn (Unit {0})
paced a stops = if stops then stop tt else on (turn_of a) (behind a)

falls_by : (a b : Ahead) (t : Turn) (stops : Bool) → eqb (bytes_ahead a) 0 ≡ stops → paced a stops ≡ on t b
    → bytes_ahead b < bytes_ahead a
falls_by a b t true e f = absurd (subst Stops f tt)
  where
    Stops : Pace Ahead Turn (Unit {0}) → Type 0
    Stops (on t s) = ⊥
    Stops (stop r) = Unit {0}
falls_by a b t false e f =
    let some : 0 < bytes_ahead a = positive (bytes_ahead a) e in
    let is : behind a ≡ b = ap next f in
    subst (λ (z : Ahead). bytes_ahead z < bytes_ahead a) is
    (omega (arith, behind_ahead a, (turn_takes a).some some))
  where
    next : Pace Ahead Turn (Unit {0}) → Ahead
    next (on t s) = s
    next (stop r) = a

    positive : (n : ℕ) → eqb n 0 ≡ false → 0 < n
    positive zero g = absurd (false≢true (sym g))
    positive (suc n) g = omega arith

falls : (a b : Ahead) (t : Turn) → pace a ≡ on t b → bytes_ahead b < bytes_ahead a
falls a b t e = falls_by a b t (eqb (bytes_ahead a) 0) refl e

turns_by : (a : Ahead) (stops : Bool) → eqb (bytes_ahead a) 0 ≡ stops
    → turns_from a ≡ (onward (trail pace tt bytes_ahead) (paced a stops)).items
unfolding turns_from
turns_by a stops e =
    ap (λ (t : Trail Turn (Unit {0})). t.items) (trail_by pace tt bytes_ahead falls a)
    ∙ ap (λ (t : Bool). (onward (trail pace tt bytes_ahead) (paced a t)).items) e

pub turns_stop : (a : Ahead) → bytes_ahead a ≡ 0 → turns_from a ≡ []
turns_stop a e = turns_by a true (eq-eqb (bytes_ahead a) 0 e)

pub turns_on : (a : Ahead) → 0 < bytes_ahead a → turns_from a ≡ turn_of a ∷ turns_from (behind a)
unfolding turns_from
turns_on a k = turns_by a false (ne_eqb (bytes_ahead a) 0 (λ e. omega arith))

-- ---- packets that the section begun fills

module _ (left : ℕ) (waiting : List ℕ) (k : 184 ≤ left) where
  abbrev filling : Ahead
  filling = record { left = left; waiting = waiting }

  full_by : (t : Turn) → TurnIs filling t → t ≡ record { start = false; left = left; bytes = 184 }
  full_by t (flagged f) = let few = f.few in absurd (omega arith)
  full_by t (unflagged u) =
      u.is ∙ (λ i. record { start = false; left = left; bytes = (least_law 184 left).is_first k i })

  pub turn_full : turn_of filling ≡ record { start = false; left = left; bytes = 184 }
  turn_full = full_by (turn_of filling) (turn_is filling)

  pub behind_full : behind filling ≡ record { left = left - 184; waiting = waiting }
  behind_full = ap (λ (t : Turn). opened t.bytes left waiting) turn_full ∙ opened_here 184 left waiting k

  turns_full : turns_from filling
      ≡ record { start = false; left = left; bytes = 184 } ∷ turns_from (record { left = left - 184; waiting = waiting })
  turns_full = turns_on filling (omega arith) ∙ (λ i. turn_full i ∷ turns_from (behind_full i))

-- as many as its bytes take
pub turns_fill : (n left : ℕ) (waiting : List ℕ) → n * 184 ≤ left
    → length (turns_from (record { left = left; waiting = waiting }))
    ≡ n + length (turns_from (record { left = left - n * 184; waiting = waiting }))
turns_fill zero left waiting k =
    let same : left ≡ left - 0 * 184 = omega arith in
    ap (λ (m : ℕ). length (turns_from (record { left = m; waiting = waiting }))) same ∙ sym (zero-add _)
turns_fill (suc n) left waiting k =
    let next : left - 184 - n * 184 ≡ left - suc n * 184 = omega arith in
    let more = ap (λ (m : ℕ). length (turns_from (record { left = m; waiting = waiting }))) next in
    omega (
      arith,
      ap length (turns_full left waiting (omega arith)),
      turns_fill n (left - 184) waiting (omega arith),
      more,
    )
