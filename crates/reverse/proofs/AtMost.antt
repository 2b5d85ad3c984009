-- How many packets sections take at most: each but the last has 183 bytes of sections at least.
use mathlib.Core.Path.{◌≡◌, refl, ap, ◌∙◌}
use mathlib.Core.Bool.{Bool, true, false}
use mathlib.Core.Logic.{◌⊎◌, inl, inr, ⊎_elim}
use Prim.Native.Nat.{ℕ, zero, suc, ◌+◌, ◌*◌, ◌≤◌, ◌<◌}
use native.Mathlib.Omega.{arith}
use lib.ListN.{length}
use lib.Dec.{leb}
use borrow.Author.Tests.{leb-true, leb-false}
use Rattle.collector.proofs.ByteRuns.{lt_or_ge}
use Rattle.writer.specs.Layout.{Ahead, sum, bytes_ahead, Turn, least, waits, turn_of, behind, turns_from, unbegun}
use Rattle.writer.proofs.TurnLaws.{Least, least_law, TurnIs, flagged, unflagged, turn_is, turn_takes, none_ahead, waits_or, behind_ahead, turns_stop, turns_on}
use Rattle.reverse.specs.Packets.{AtMost}

-- a turn that leaves some bytes ahead has 183 at least
turn_most : (a : Ahead) (t : Turn) → TurnIs a t → (183 ≤ t.bytes) ⊎ (t.bytes ≡ bytes_ahead a)
turn_most a t (flagged f) =
    let l = least_law 183 (bytes_ahead a) in
    let is = ap (λ (u : Turn). u.bytes) f.is in
    by (leb 183 (bytes_ahead a)) refl l is
  where
    by : (s : Bool) → leb 183 (bytes_ahead a) ≡ s → Least 183 (bytes_ahead a) (least 183 (bytes_ahead a))
        → t.bytes ≡ least 183 (bytes_ahead a) → (183 ≤ t.bytes) ⊎ (t.bytes ≡ bytes_ahead a)
    by true e l is = inl (omega (arith, l.is_first (leb-true 183 (bytes_ahead a) e), is))
    by false e l is = inr (let gt = leb-false 183 (bytes_ahead a) e in is ∙ l.is_second (omega arith))
turn_most a t (unflagged u) =
    let l = least_law 184 a.left in
    let is = ap (λ (v : Turn). v.bytes) u.is in
    waits_or (waits a.waiting) ((183 ≤ t.bytes) ⊎ (t.bytes ≡ bytes_ahead a))
    (λ e. inl (many (u.full e) l is)) (λ e. few (none_ahead a.waiting e) (leb 184 a.left) refl l is)
  where
    many : 183 ≤ a.left → Least 184 a.left (least 184 a.left) → t.bytes ≡ least 184 a.left → 183 ≤ t.bytes
    many k l is = by (leb 184 a.left) refl
      where
        by : (s : Bool) → leb 184 a.left ≡ s → 183 ≤ t.bytes
        by true e = omega (arith, l.is_first (leb-true 184 a.left e), is)
        by false e = let gt = leb-false 184 a.left e in omega (arith, l.is_second (omega arith), is)

    few : sum a.waiting ≡ 0 → (s : Bool) → leb 184 a.left ≡ s → Least 184 a.left (least 184 a.left)
        → t.bytes ≡ least 184 a.left → (183 ≤ t.bytes) ⊎ (t.bytes ≡ bytes_ahead a)
    few z true e l is = inl (omega (arith, l.is_first (leb-true 184 a.left e), is))
    few z false e l is =
        inr (let gt = leb-false 184 a.left e in omega (arith, l.is_second (omega arith), is, z))

-- one turn, and those behind it
module _ (a : Ahead) (some : 0 < bytes_ahead a)
    (others : length (turns_from (behind a)) * 183 ≤ bytes_ahead (behind a) + 182) where
  first_of : (183 ≤ (turn_of a).bytes) ⊎ ((turn_of a).bytes ≡ bytes_ahead a)
      → length (turns_from a) * 183 ≤ bytes_ahead a + 182
  first_of (inl k) = omega (arith, ap length (turns_on a some), behind_ahead a, others)
  first_of (inr e) =
      let none = ap length (turns_stop (behind a) (omega (arith, behind_ahead a, e))) in
      omega (arith, ap length (turns_on a some), none)

most_by : (n : ℕ) (a : Ahead) → bytes_ahead a ≤ n → length (turns_from a) * 183 ≤ bytes_ahead a + 182
most_by zero a k = omega (arith, ap length (turns_stop a (omega arith)))
most_by (suc n) a k =
    ⊎_elim
    (λ w. first_of a w (most_by n (behind a) (less w)) (turn_most a (turn_of a) (turn_is a)))
    (λ w. omega (arith, ap length (turns_stop a (omega arith)))) (lt_or_ge 0 (bytes_ahead a))
  where
    less : 0 < bytes_ahead a → bytes_ahead (behind a) ≤ n
    less w = let bytes = (turn_takes a).some w in omega (arith, behind_ahead a, bytes)

pub at_most : AtMost
at_most sizes =
    let most = most_by (bytes_ahead (unbegun sizes)) (unbegun sizes) (omega arith) in
    omega (arith, most)
