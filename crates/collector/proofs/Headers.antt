-- What the header of a section says, once it is there, and bytes that stand in two runs.
use Rattle.std.proofs.Common.{◌≡◌, ℕ, ◌+◌, ◌-◌, ◌<◌, ◌≤◌, Bool, true, false, ltb, List, ◌++◌, length, get_or, sym, refl, ap, ◌∙◌, subst, inl, inr, arith, length-append, get_or-append-add, ltb-false, ltb-true}
use lib.ListN.{get_or-append}
use Rattle.std.specs.Prelude.{if◌then◌else◌}
use Rattle.wire.specs.Bytes.{len12}
use Rattle.wire.specs.Sections.{total_of}
use Rattle.collector.specs.Inner.Stretch.{LookSays, sized_as}
use Rattle.collector.specs.declared.stretch.Look.{Look}
use Rattle.collector.specs.declared.stretch.Look.TheVariants.{Going, Over, Whole}

pub in_second : (a c : List ℕ) (i : ℕ) → length a ≤ i → get_or c (i - length a) 0 ≡ get_or (a ++ c) i 0
in_second a c i k =
    sym (get_or-append-add a c (i - length a) 0)
    ∙ ap (λ (x : ℕ). get_or (a ++ c) x 0) (omega arith)

sized-says : (bs : List ℕ) (total size : ℕ) → 3 ≤ size → total ≡ total_of bs → size ≡ length bs → LookSays bs (sized_as total size)
sized-says bs total size h t z = by (ltb 4096 total) (ltb size total) refl refl
  where
    by : (a b : Bool) → ltb 4096 total ≡ a → ltb size total ≡ b
        → LookSays bs (if a then Over else (if b then Going else Whole total))
    by true b e w = (omega arith, omega (arith, ltb-true 4096 total e))
    by false true e w =
        inr (omega arith, omega (arith, ltb-false 4096 total e), omega (arith, ltb-true size total w))
    by false false e w = (omega arith, t, ltb-false 4096 total e, omega (arith, ltb-false size total w))

module _ (held part : List ℕ) (r : Look) where
  abbrev all : List ℕ
  all = held ++ part

  abbrev size : ℕ
  size = length held + length part

  -- fewer than three bytes
  pub says_short : size < 3 → LookSays all Going
  says_short w = inl (omega (arith, length-append held part))

  -- the header's bytes are those in hand
  pub says_held : 2 < length held → r ≡ sized_as (3 + len12 (get_or held 1 0) (get_or held 2 0)) size → LookSays all r
  says_held w e =
      subst (LookSays all) (sym e)
      (sized-says all _ _ (omega arith)
      (λ i. 3 + len12 (sym (get_or-append held part 0 1 (omega arith)) i) (sym (get_or-append held part 0 2 (omega arith)) i))
      (sym (length-append held part)))

  -- or wherever they are
  pub says_sized : 3 ≤ size → r ≡ sized_as (total_of all) size → LookSays all r
  says_sized w e = subst (LookSays all) (sym e) (sized-says all _ _ w refl (sym (length-append held part)))
