-- What a reading without a fault holds, part by part.
use Prim.Native.Nat.{ℕ, ◌+◌, ◌≤◌}
use mathlib.Core.Path.{◌≡◌, refl, ap, ap₂, ◌∙◌, sym}
use mathlib.Core.List.{List, [], ◌∷◌}
use mathlib.Core.Bool.{true}
use native.Mathlib.Omega.{arith}
use lib.ListN.{length, take, drop}
use lib.Seq.{take_all}
use lib.Dec.{eqb}
use native.Mathlib.Decide.{ℕ_discrete}
use borrow.Author.Tests.{eq-eqb, ne_eqb}
use Rattle.std.specs.Prelude.{if◌then◌else◌}
use Rattle.wire.specs.Bytes.{len12_at}
use Rattle.wire.specs.Trail.{ended, answer}
use Rattle.verdict.specs.Verdict.{Said, accepted, refused, is_accepted}
use Rattle.loops.specs.Descriptors.{Placed, descriptors}
use Rattle.section.specs.Entries.{entries}
use Rattle.section.specs.Reading.{LoopsRead, ◌and_then◌, fills, loop_then, second_loop, two_loops, topped, inside, opening, header, row_for, body, read, judged}
use Rattle.tables.specs.declared.Row.{Row}
use Rattle.section.proofs.Readings.{then-on, then-stop, fills_tells, room_tells, one_loop_lem, second_loop_lem, two_loops_lem, topped_one, topped_two}

-- no fault in two parts that are read one after the other: none in the first, and the second is what is read
pub then_ok : (v : Said) (x : LoopsRead) → (v and_then x).ends ≡ accepted → (is_accepted v ≡ true) × ((v and_then x) ≡ x)
then_ok v x e = go v refl
  where
    go : (w : Said) → v ≡ w → (is_accepted v ≡ true) × ((v and_then x) ≡ x)
    go accepted q = (ap is_accepted q, then-on v x (ap is_accepted q))
    go (refused k p) q =
        let r : v ≡ accepted = sym (ap answer (then-stop v x (ap is_accepted q))) ∙ e in
        let z : ◌≡◌ {A = ℕ} 0 1 = cc in
        absurd (omega arith)

abbrev items : LoopsRead → List (List Placed)
items t = t.items

-- n is the 12-bit length at the place p of l
module _ (l : List ℕ) (p n : ℕ) (same : n ≡ len12_at l p) where
  -- the loops behind it
  abbrev pub behind : ℕ → List (List Placed)
  behind fixed = if eqb fixed 0 then [] else (entries fixed (p + (2 + n) + 2) (drop (p + (2 + n) + 2) l)).items

  pub record Topped (fixed : ℕ) : Type 0 where
    pub ends_there : p + (2 + n) ≤ length l
    pub holds : (topped fixed p (drop p l)).items ≡ (descriptors (p + 2) (drop (p + 2) (take (p + (2 + n)) l))).items ∷ behind fixed
    pub room : (fixed ≡ 0 → ⊥) → p + (2 + n) + 2 ≤ length l
    pub onward : (fixed ≡ 0 → ⊥) → (entries fixed (p + (2 + n) + 2) (drop (p + (2 + n) + 2) l)).ends ≡ accepted

  one_ok : (fixed : ℕ) → fixed ≡ 0 → (topped fixed p (drop p l)).ends ≡ accepted → Topped fixed
  one_ok fixed f ok =
      let t : topped fixed p (drop p l) ≡
      (fills p (drop p l) and_then loop_then (descriptors (p + 2) (drop (p + 2) l)) (ended accepted)) =
      topped_one fixed p (drop p l) f ∙ one_loop_lem l p in
      let a = then_ok _ _ (sym (ap answer t) ∙ ok) in
      let e = fills_tells l p n same a.0 in
      let b = then_ok _ _ (sym (ap answer (t ∙ a.1)) ∙ ok) in
      record {
        ends_there = omega arith;
        holds =
            ap items (t ∙ a.1 ∙ b.1)
            ∙ ap₂ (λ x y. (descriptors (p + 2) (drop (p + 2) x)).items ∷ y)
            (sym (take_all (p + (2 + n)) l (omega arith))) (rw (eq-eqb fixed 0 f));
        room = λ g. absurd (g f);
        onward = λ g. absurd (g f);
      }

  two_ok : (fixed : ℕ) → (fixed ≡ 0 → ⊥) → (topped fixed p (drop p l)).ends ≡ accepted → Topped fixed
  unfolding two_loops
  two_ok fixed f ok =
      let u = topped_two fixed p (drop p l) f in
      let r = room_tells l p n same (then_ok _ _ (sym (ap answer u) ∙ ok)).0 in
      let t = u ∙ two_loops_lem l p fixed n same in
      let a = then_ok _ _ (sym (ap answer t) ∙ ok) in
      let b = then_ok _ _ (sym (ap answer (t ∙ a.1)) ∙ ok) in
      let s = second_loop_lem l (p + (2 + n)) fixed in
      let k : (second_loop fixed (p + (2 + n)) (drop (p + (2 + n)) l)).ends ≡ accepted = sym (ap answer (t ∙ a.1 ∙ b.1)) ∙ ok in
      let d = then_ok _ _ (sym (ap answer s) ∙ k) in
      record {
        ends_there = omega arith;
        holds =
            ap items (t ∙ a.1 ∙ b.1)
            ∙ ap (λ y. (descriptors (p + 2) (drop (p + 2) (take (p + (2 + n)) l))).items ∷ y)
            (ap items (s ∙ d.1) ∙ rw (ne_eqb fixed 0 f));
        room = λ _. r;
        onward = λ _. sym (ap answer (s ∙ d.1)) ∙ k;
      }

  pub topped_ok : (fixed : ℕ) → (topped fixed p (drop p l)).ends ≡ accepted → Topped fixed
  topped_ok fixed ok = elim (ℕ_discrete fixed 0) [ yes f ↦ one_ok fixed f ok | no f ↦ two_ok fixed f ok ]

-- of an accepted section all is read; with the row and the bytes before the CRC_32 as the code has them
pub read_inside : (s : List ℕ) (row : Row) (b : List ℕ) → row ≡ row_for s → b ≡ body row s → judged s ≡ accepted
    → read s ≡ inside row row.before (drop row.before b)
unfolding judged read
read_inside s row b r q ok =
    let o = then_ok (opening s) _ ok in
    let h = then_ok (header (row_for s) s) _ (sym (ap answer o.1) ∙ ok) in
    o.1
    ∙ h.1
    ∙ ap (λ (w : Row). inside w w.before (drop w.before (body w s))) (sym r)
    ∙ ap (λ (x : List ℕ). inside row row.before (drop row.before x)) (sym q)
