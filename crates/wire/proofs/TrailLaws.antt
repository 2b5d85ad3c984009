-- One law says all that a proof needs of a trail: it is what its first pace leads to.
use mathlib.Core.Path.{◌≡◌, refl, sym, ap, ◌∙◌}
use Prim.Native.Nat.{ℕ, zero, suc, ◌<◌}
use native.Mathlib.Omega.{arith}
use Rattle.wire.specs.Trail.{Pace, on, stop, before, onward, run, trail}

module _ {S A R : Type 0} (f : S → Pace S A R) (d : R) (m : S → ℕ) (falls : (s t : S) (a : A) → f s ≡ on a t → m t < m s) where
  -- one pace more
  run_by : (k : ℕ) (s : S) → run f d (suc k) s ≡ onward (run f d k) (f s)
  unfolding run
  run_by k s = go (f s) refl
    where
      go : (t : Pace S A R) → f s ≡ t → run f d (suc k) s ≡ onward (run f d k) t
      go (on a t) e = rw (e, run)
      go (stop r) e = rw (e, run)

  -- any two numbers of paces that suffice give the same
  enough : (k j : ℕ) (s : S) → m s < k → m s < j → run f d k s ≡ run f d j s
  enough zero j s h g = absurd (omega arith)
  enough (suc k) zero s h g = absurd (omega arith)
  enough (suc k) (suc j) s h g = run_by k s ∙ go (λ t l n. enough k j t l n) (f s) refl ∙ sym (run_by j s)
    where
      go : ((t : S) → m t < k → m t < j → run f d k t ≡ run f d j t) → (t : Pace S A R) → f s ≡ t
          → onward (run f d k) t ≡ onward (run f d j) t
      go ih (on a t) e = let l = falls s t a e in ap (before a) (ih t (omega arith) (omega arith))
      go ih (stop r) e = refl

  -- THE LAW: the trail is what its first pace leads to
  pub trail_by : (s : S) → trail f d m s ≡ onward (trail f d m) (f s)
  unfolding trail
  trail_by s = run_by (m s) s ∙ go (f s) refl
    where
      go : (t : Pace S A R) → f s ≡ t → onward (run f d (m s)) t ≡ onward (trail f d m) t
      go (on a t) e = let l = falls s t a e in ap (before a) (enough (m s) (suc (m t)) t (omega arith) (omega arith))
      go (stop r) e = refl
