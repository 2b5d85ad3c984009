-- The two demands fix the judge, and shut out the wrong ones of document 01's last chapter.
use Prim.Native.Nat.{ℕ}
use mathlib.Core.Path.{◌≡◌, refl, sym, ◌∙◌}
use mathlib.Core.List.{List, [], ◌∷◌}
use native.Mathlib.Omega.{arith}
use Rattle.tables.specs.Tables.{cell, holds, first, row_of}
use Rattle.verdict.specs.Verdict.{Said, accepted, refused, told, Verdict}
use Rattle.section.specs.Reading.{◌and_then◌, opening, wrong_syntax, length_outside, size_differs, crc_fails, above_last, header, plain, inside, read, judged}
use Rattle.section.specs.Demands.{Claims, AcceptsExactlyIf, RefusesExactlyIf, RefusesEverything, SingleAnswer}
use Rattle.section.proofs.Exactly.{verdict_true, accepted_exactly_if, refused_exactly_if}

-- a TDT, which has no CRC_32 to compute
abbrev tdt : List ℕ
tdt = 0x70 ∷ 0x70 ∷ 0x05 ∷ 0xC0 ∷ 0x79 ∷ 0x12 ∷ 0x45 ∷ 0x00 ∷ []

tdt_accepted : judged tdt ≡ accepted
unfolding judged read opening ◌and_then◌ row_of first holds cell header wrong_syntax length_outside size_differs
    crc_fails above_last inside plain
tdt_accepted = refl

empty_refused : judged [] ≡ refused 1 0
unfolding judged read opening ◌and_then◌
empty_refused = refl

module _ (judge : List ℕ → Said) (accepts : AcceptsExactlyIf judge) where
  -- any two judges that keep both demands say the same of any bytes
  pub fixed : RefusesExactlyIf judge → (s : List ℕ) → judge s ≡ judged s
  fixed refuses s = go (judged s) (verdict_true s)
    where
      go : (v : Said) → Claims s v → judge s ≡ v
      go accepted x = (accepts s).1 x
      go (refused k q) x = (refuses s k q).1 x

  of_tdt : judge tdt ≡ accepted
  of_tdt = (accepts tdt).1 ((accepted_exactly_if tdt).0 tdt_accepted)

  pub refuses_everything_shut_out : RefusesEverything judge → ⊥
  refuses_everything_shut_out never = never tdt of_tdt

  pub single_answer_shut_out : SingleAnswer judge → ⊥
  single_answer_shut_out same =
      let e : judged [] ≡ accepted = (accepted_exactly_if []).1 ((accepts []).0 (same [] tdt ∙ of_tdt)) in
      let z : refused 1 0 ≡ accepted = sym empty_refused ∙ e in
      let n : ◌≡◌ {A = ℕ} 1 0 = cc in
      omega arith

-- `section::judge::judge` is such a judge: whatever answers keep its `ensures` (`Tied`: `judge-ensures`) keep both demands
module _ (judge : List ℕ → Verdict) (promised : (s : List ℕ) → told (judge s) ≡ judged s) where
  pub judge_accepts_exactly_if : AcceptsExactlyIf (λ s. told (judge s))
  judge_accepts_exactly_if s = rw (promised s) (accepted_exactly_if s)

  pub judge_refuses_exactly_if : RefusesExactlyIf (λ s. told (judge s))
  judge_refuses_exactly_if s k q = rw (promised s) (refused_exactly_if s k q)
