-- How the reading of entries goes, by what stands at their front.
use Prim.Native.Nat.{ℕ, suc, ◌+◌, ◌-◌, ◌<◌, ◌≤◌}
use mathlib.Core.Path.{◌≡◌, refl, ap, ap₂, ◌∙◌, sym}
use mathlib.Core.List.{List, [], ◌∷◌}
use native.Mathlib.Omega.{arith}
use borrow.Author.Tests.{lt-ltb, le-ltb}
use lib.ListN.{length, take, drop, length-drop, drop_of_length-le}
use lib.Seq.{drop-drop}
use mathlib.Core.Bool.{true, false}
use lib.Dec.{ltb}
use Rattle.wire.specs.Bytes.{len12_at}
use Rattle.wire.specs.Trail.{Pace, on, Trail, answer, ended, before, onward}
use Rattle.wire.proofs.IfLaws.{if-case}
use Rattle.wire.proofs.TrailLaws.{trail_by}
use Rattle.wire.proofs.PartLaws.{part_of_front, len12_drop}
use Rattle.verdict.specs.Verdict.{Said, accepted, refused, is_accepted}
use Rattle.verdict.proofs.FirstFault.{first_fault, fault_first}
use Rattle.loops.specs.Descriptors.{Placed, Rest, rest, descriptors}
use Rattle.section.specs.Entries.{past, whole, first_of, entries}

module _ (fixed : ℕ) (some : 1 ≤ fixed) where
  -- what is left behind an entry is shorter
  falls_from : (p : ℕ) (l : List ℕ) (a : List Placed) (t : Rest) → first_of fixed p l ≡ on a t → length t.bytes < length l
  falls_from p [] a t e = let z : ◌≡◌ {A = ℕ} 0 1 = cc in absurd (omega arith)
  falls_from p (b ∷ l) a t e = go e
    where
      n : ℕ
      n = len12_at (b ∷ l) (fixed - 2)

      P : Pace Rest (List Placed) Said → Type 0
      P r = r ≡ on a t → length t.bytes < suc (length l)

      never : ◌≡◌ {A = ℕ} 0 1 → length t.bytes < suc (length l)
      never z = absurd (omega arith)

      on_it : rest (p + fixed + n) (drop (fixed + n) (b ∷ l)) ≡ t → length t.bytes < suc (length l)
      on_it r = omega (arith, ap (λ (r : Rest). length r.bytes) r, length-drop (fixed + n) (b ∷ l))

      go : P (whole fixed n p (b ∷ l))
      go =
          if-case P (ltb (suc (length l)) fixed) (λ _ q. never (cc))
          (λ _. if-case P (ltb (suc (length l)) (fixed + n)) (λ _ q. never (cc))
          (λ _. if-case P (is_accepted (descriptors (p + fixed) (take n (drop fixed (b ∷ l)))).ends) (λ _ q. on_it (cc))
          (λ _ q. never (cc))))

  falls : (s t : Rest) (a : List Placed) → first_of fixed s.place s.bytes ≡ on a t → length t.bytes < length s.bytes
  falls s t a e = falls_from s.place s.bytes a t e

  pub entries_by : (p : ℕ) (l : List ℕ) → entries fixed p l ≡ onward (λ r. entries fixed r.place r.bytes) (first_of fixed p l)
  unfolding entries
  entries_by p l = trail_by _ (refused 10 0) _ falls (rest p l)

  pub entries_whole : (p : ℕ) (l : List ℕ) → 0 < length l
      → entries fixed p l ≡ onward (λ r. entries fixed r.place r.bytes) (whole fixed (len12_at l (fixed - 2)) p l)
  entries_whole p [] h = absurd (omega arith)
  entries_whole p (b ∷ l) h = entries_by p (b ∷ l)

pub at-end : (l : List ℕ) (fixed p : ℕ) → 2 ≤ fixed → length l ≤ p → entries fixed p (drop p l) ≡ ended accepted
at-end l fixed p two h = ap (entries fixed p) (drop_of_length-le l {i = p} h) ∙ entries_by fixed (omega arith) p []

-- an entry begins at the place p of l, and n is its loop length
pub record At (l : List ℕ) (fixed p n : ℕ) : Type 0 where
  pub two : 2 ≤ fixed
  pub here : p < length l
  pub same : n ≡ len12_at l (p + (fixed - 2))

-- the entries from there on, by the tests that the code makes
module _ {l : List ℕ} {fixed p n : ℕ} (a : At l fixed p n) where
  first_turn : entries fixed p (drop p l) ≡ onward (λ r. entries fixed r.place r.bytes) (whole fixed n p (drop p l))
  first_turn =
      entries_whole fixed (omega arith) p (drop p l) (simp length-drop (omega arith))
      ∙ ap (λ k. onward (λ r. entries fixed r.place r.bytes) (whole fixed k p (drop p l)))
      (len12_drop l p (fixed - 2) ∙ sym a.same)

  pub at_short : length l < p + fixed → entries fixed p (drop p l) ≡ ended (refused 10 p)
  at_short h = first_turn ∙ rw (lt-ltb (length (drop p l)) fixed (simp length-drop (omega arith)))

  module _ (head : p + fixed ≤ length l) where
    fits : ltb (length (drop p l)) fixed ≡ false
    fits = le-ltb (length (drop p l)) fixed (simp length-drop (omega arith))

    pub at_past : length l < p + fixed + n → entries fixed p (drop p l) ≡ ended (refused 8 (p + (fixed - 2)))
    at_past h = first_turn ∙ rw (fits, lt-ltb (length (drop p l)) (fixed + n) (simp length-drop (omega arith)))

    module _ (room : p + fixed + n ≤ length l) where
      -- the entry's own loop
      abbrev pub loop_at : Trail Placed Said
      loop_at = descriptors (p + fixed) (drop (p + fixed) (take (p + fixed + n) l))

      at_loop : entries fixed p (drop p l)
          ≡ onward (λ r. entries fixed r.place r.bytes) (past (p + fixed + n) (drop (p + fixed + n) l) loop_at)
      at_loop =
          let e : p + (fixed + n) ≡ p + fixed + n = omega arith in
          first_turn
          ∙ rw (fits, le-ltb (length (drop p l)) (fixed + n) (simp length-drop (omega arith)), part_of_front l (p + fixed) n head)
          (ap₂ (λ x y. onward (λ r. entries fixed r.place r.bytes) (past (p + fixed + n) x (descriptors (p + fixed) (take n y))))
          (drop-drop (fixed + n) p l ∙ ap (λ k. drop k l) e) (drop-drop fixed p l))

      pub at_fault : is_accepted loop_at.ends ≡ false → entries fixed p (drop p l) ≡ ended loop_at.ends
      at_fault q = at_loop ∙ rw q

      pub at_on : is_accepted loop_at.ends ≡ true
          → entries fixed p (drop p l) ≡ before loop_at.items (entries fixed (p + fixed + n) (drop (p + fixed + n) l))
      at_on q = at_loop ∙ rw q

-- and how they end
module _ (l : List ℕ) (fixed p : ℕ) (two : 2 ≤ fixed) where
  abbrev n : ℕ
  n = len12_at l (p + (fixed - 2))

  begins : p < length l → At l fixed p n
  begins here = record { two = two; here = here; same = refl }

  pub none_ends : length l ≤ p → (entries fixed p (drop p l)).ends ≡ accepted
  none_ends h = ap answer (at-end l fixed p two h)

  pub short_ends : p < length l → length l < p + fixed → (entries fixed p (drop p l)).ends ≡ refused 10 p
  short_ends here h = ap answer (at_short (begins here) h)

  pub past_ends : p < length l → p + fixed ≤ length l → length l < p + fixed + n
      → (entries fixed p (drop p l)).ends ≡ refused 8 (p + (fixed - 2))
  past_ends here head h = ap answer (at_past (begins here) head h)

  pub entry_ends : p < length l → p + fixed + n ≤ length l
      → (entries fixed p (drop p l)).ends
      ≡ first_fault (descriptors (p + fixed) (drop (p + fixed) (take (p + fixed + n) l))).ends
      (entries fixed (p + fixed + n) (drop (p + fixed + n) l)).ends
  entry_ends here room = go (loop_at a head room).ends refl
    where
      a : At l fixed p n
      a = begins here

      head : p + fixed ≤ length l
      head = omega arith

      behind : Said
      behind = (entries fixed (p + fixed + n) (drop (p + fixed + n) l)).ends

      go : (v : Said) → (loop_at a head room).ends ≡ v → (entries fixed p (drop p l)).ends ≡ first_fault (loop_at a head room).ends behind
      go accepted q = ap answer (at_on a head room (ap is_accepted q)) ∙ ap (λ v. first_fault v behind) (sym q)
      go (refused k q) e =
          ap answer (at_fault a head room (ap is_accepted e)) ∙ e ∙ ap (λ v. first_fault v behind) (sym e)

pub ruleset entry_laws = (none_ends, short_ends, past_ends, entry_ends, fault_first)
