-- The end of a segment that counts: it lies in the segment, and not above the last number.
use Prim.Native.Nat.{ℕ, ◌≤◌}
use mathlib.Core.Path.{◌≡◌, refl}
use mathlib.Core.Bool.{Bool, true, false, ◌&&◌}
use native.Mathlib.Omega.{arith}
use lib.Dec.{eqb, leb}
use borrow.Author.Tests.{eqb-true, leb-true, eq-eqb, le-leb}
use Rattle.std.specs.Prelude.{Option, None, Some, if◌then◌else◌}
use Rattle.roll.specs.Marks.{segment_of}
use Rattle.roll.specs.Segments.{counting}

-- e is the end that is kept, and it counts
pub record Counts (last k : ℕ) (kept : Option ℕ) (e : ℕ) : Type 0 where
  pub is : kept ≡ Some e
  pub inside : segment_of e ≡ k
  pub within : e ≤ last

pub at_once : {e f : ℕ} → Some e ≡ Some f → e ≡ f
at_once h = cc

pub never_known : {e : ℕ} → None ≡ Some e → ⊥
never_known h = let z : ◌≡◌ {A = ℕ} 0 1 = cc in omega arith

pub counting_counts : (last k : ℕ) (kept : Option ℕ) (e : ℕ) → counting last k kept ≡ Some e → Counts last k kept e
unfolding counting
counting_counts last k None e h = absurd (never_known h)
counting_counts last k (Some f) e h = go (eqb (segment_of f) k) (leb f last) refl refl h
  where
    go : (a b : Bool) → eqb (segment_of f) k ≡ a → leb f last ≡ b → (if a && b then Some f else None) ≡ Some e
        → Counts last k (Some f) e
    go true true p q h =
        let same = at_once h in
        record { is = h; inside = rw (← same) (eqb-true _ _ p); within = rw (← same) (leb-true _ _ q) }
    go true false p q h = absurd (never_known h)
    go false b p q h = absurd (never_known h)

pub counts_counting : (last k : ℕ) (kept : Option ℕ) (e : ℕ) → Counts last k kept e → counting last k kept ≡ Some e
unfolding counting
counts_counting last k kept e c = rw (c.is, eq-eqb _ _ c.inside, le-leb _ _ c.within)
