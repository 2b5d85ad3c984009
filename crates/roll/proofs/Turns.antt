-- One segment of the scan for the smallest number missing: of its first numbers, as many as must come, the marks tell; the
-- rest is left out, or lies above the last number; and where none must come, the end is unknown and the first is missing.
use Prim.Native.Nat.{ℕ, ◌+◌, ◌-◌, ◌*◌, ◌/◌, ◌%◌, ◌<◌, ◌≤◌}
use mathlib.Core.Path.{◌≡◌, refl, sym, ◌∙◌, subst}
use mathlib.Core.Bool.{Bool, true, false}
use mathlib.Core.Logic.{inr, ⊎_elim}
use native.Mathlib.Omega.{arith}
use lib.Dec.{eqb, ltb}
use lib.ListN.{get_or}
use borrow.Author.Tests.{eqb-true, eqb-false, ltb-true, ltb-false, lt-ltb, le-ltb}
use Rattle.std.specs.Prelude.{Option, None, Some, if◌then◌else◌}
use Rattle.wire.proofs.TestLaws.{or_none, or_exactly}
use Rattle.roll.specs.Answer.{Says, missing}
use Rattle.roll.specs.Marks.{segment_of, segment_at, has, smallest, smallest_missing}
use Rattle.roll.specs.Segments.{counting, end_at, came_by, left_out_by, come_or_left_out, smallest_in_segments}
use Rattle.roll.specs.Roll.{answered}
use Rattle.roll.specs.Gaps.{up_to, wanted_of, gap_of}
use Rattle.roll.proofs.Smallest.{smallest_here, smallest_over, smallest_end}
use Rattle.roll.proofs.Gaps.{Gap, gap_is, wanted_few}
use Rattle.roll.proofs.Ends.{counting_counts}
use Rattle.roll.specs.declared.Marks.{Marks}

-- what is asked of a number: whether it has come; of a schedule, whether it has come or was left out
abbrev pub counted : Bool → Marks → ℕ → ℕ → Bool
counted schedule m last n = if schedule then come_or_left_out m last n else has m n

-- the mark of number i of segment k
pub has_in : (m : Marks) (k i : ℕ) → i < 8 → has m (k * 8 + i) ≡ get_or (segment_at m k).came i false
unfolding has
has_in m k i h =
    let d : (k * 8 + i) / 8 ≡ k = omega arith in
    let r : (k * 8 + i) % 8 ≡ i = omega arith in
    rw (d, r)

-- what w numbers that must come of segment k mean
record Turn (schedule : Bool) (m : Marks) (last k w : ℕ) : Type 0 where
  few : (w ≤ 8) × (k * 8 + w ≤ last + 1)
  by_mark : (i : ℕ) → i < w → counted schedule m last (k * 8 + i) ≡ get_or (segment_at m k).came i false
  rest : 0 < w → (i : ℕ) → w ≤ i → i < 8 → k * 8 + i ≤ last → counted schedule m last (k * 8 + i) ≡ true
  unknown : w ≡ 0 → counted schedule m last (k * 8) ≡ false

module _ (m : Marks) (last k : ℕ) (reached : k * 8 ≤ last) where
  plain_turn : Turn false m last k (wanted_of false last k (segment_at m k).end)
  unfolding wanted_of
  plain_turn = go (eqb (last / 8) k) refl
    where
      go : (b : Bool) → eqb (last / 8) k ≡ b → Turn false m last k (if b then last % 8 + 1 else 8)
      go true e =
          let l = eqb-true (last / 8) k e in
          record {
            few = (omega arith, omega arith);
            by_mark = λ i h. has_in m k i (omega arith);
            rest = λ z i h g r. absurd (omega arith);
            unknown = λ z. absurd (omega arith);
          }
      go false e =
          let n = eqb-false (last / 8) k e in
          let l : k < last / 8 = omega (arith, n) in
          record {
            few = (omega arith, omega arith);
            by_mark = λ i h. has_in m k i h;
            rest = λ z i h g r. absurd (omega arith);
            unknown = λ z. absurd (omega arith);
          }

  schedule_turn : Turn true m last k (wanted_of true last k (segment_at m k).end)
  unfolding wanted_of up_to come_or_left_out end_at came_by left_out_by
  schedule_turn = go (counting last k (segment_at m k).end) refl
    where
      at : (i : ℕ) → i < 8 → segment_of (k * 8 + i) ≡ k
      at i h = omega arith

      go : (x : Option ℕ) → counting last k (segment_at m k).end ≡ x → Turn true m last k (up_to x)
      go None e =
          let first : segment_of (k * 8) ≡ k = omega arith in
          record {
            few = (omega arith, omega arith);
            by_mark = λ i h. absurd (omega arith);
            rest = λ z i h g r. absurd (omega arith);
            unknown = λ z. rw (first, e);
          }
      go (Some end) e =
          let c = counting_counts last k _ end e in
          let inside = c.inside in
          let within = c.within in
          record {
            few = (omega arith, omega arith);
            by_mark = λ i h.
                let below : i < 8 = omega arith in
                rw (at i below, e, le-ltb end (k * 8 + i) (omega arith)) (or_none (has m (k * 8 + i)) ∙ has_in m k i below);
            rest = λ z i h g r. rw (at i g, e, lt-ltb end (k * 8 + i) (omega arith)) ((or_exactly (has m (k * 8 + i)) true).1 (inr refl));
            unknown = λ z. absurd (omega arith);
          }

turn : (schedule : Bool) (m : Marks) (last k : ℕ) → k * 8 ≤ last
    → Turn schedule m last k (wanted_of schedule last k (segment_at m k).end)
turn true m last k reached = schedule_turn m last k reached
turn false m last k reached = plain_turn m last k reached

-- what the scan does at segment k, whose first number missing is g
module _ (schedule : Bool) (m : Marks) (last k g : ℕ) (reached : k * 8 ≤ last) (is : g ≡ gap_of schedule last k (segment_at m k)) where
  abbrev count : ℕ
  count = wanted_of schedule last k (segment_at m k).end

  turned : Turn schedule m last k count
  turned = turn schedule m last k reached

  gapped : Gap (segment_at m k).came count g
  unfolding gap_of
  gapped =
      subst (Gap (segment_at m k).came count) (sym is)
      (gap_is (segment_at m k).came count (wanted_few schedule last k (segment_at m k).end))

  -- the smallest missing from a number on
  abbrev from : ℕ → Says
  from n = smallest (counted schedule m last) (last + 1 - n) n

  -- the first where the end is unknown; else the gap
  abbrev Missing : Type 0
  Missing = (k * 8 + g ≤ last) × (from (k * 8) ≡ missing (k * 8 + g))

  at_first : count ≡ 0 → g ≡ 0 → Missing
  at_first c z =
      let same : k * 8 + g ≡ k * 8 = omega arith in
      rw same (reached, smallest_here (counted schedule m last) last (k * 8) reached (turned.unknown c))

  at_gap : g < count → ((i : ℕ) → i < g → get_or (segment_at m k).came i false ≡ true) → get_or (segment_at m k).came g false ≡ false
      → Missing
  at_gap l before there =
      let few = turned.few in
      let within : k * 8 + g ≤ last = omega arith in (
        within,
        smallest_over (counted schedule m last) last g (k * 8) (λ i h r. turned.by_mark i (omega arith) ∙ before i h)
            ∙ smallest_here (counted schedule m last) last (k * 8 + g) within (turned.by_mark g l ∙ there),
      )

  pub gap_missing : g < 8 → Missing
  gap_missing h = ⊎_elim (λ x. at_first x.0 x.1) (λ x. at_gap x.0 x.1 x.2) (gapped.missing h)

  -- a segment without a gap is passed over
  pub none_missing : 8 ≤ g → from (k * 8) ≡ from ((k + 1) * 8)
  none_missing h =
      let next : (k + 1) * 8 ≡ k * 8 + 8 = omega arith in
      rw next (smallest_over (counted schedule m last) last 8 (k * 8) each)
    where
      each : (i : ℕ) → i < 8 → k * 8 + i ≤ last → counted schedule m last (k * 8 + i) ≡ true
      each i l r = go (ltb i count) refl
        where
          go : (b : Bool) → ltb i count ≡ b → counted schedule m last (k * 8 + i) ≡ true
          go true e = let x = ltb-true i count e in turned.by_mark i x ∙ (gapped.whole h).1 i x
          go false e = turned.rest (gapped.whole h).0 i (ltb-false i count e) l r

-- the answer is what the scan finds from 0 on
pub scan_answers : (schedule : Bool) (m : Marks) (last : ℕ)
    → smallest (counted schedule m last) (last + 1) 0 ≡ answered schedule m last
unfolding answered smallest_in_segments smallest_missing
scan_answers true m last = refl
scan_answers false m last = refl

-- what a scan from segment to segment rests on
pub ruleset scan_laws = (gap_missing, none_missing, scan_answers, smallest_end)
