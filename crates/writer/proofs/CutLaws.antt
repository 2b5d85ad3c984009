-- Laws of which sections can be sent: what each of the tests says by itself, one section more, and what is known of
-- sections that all can be.
use mathlib.Core.Path.{◌≡◌, refl, sym, ap, ◌∙◌}
use mathlib.Core.Bool.{Bool, true, false, not, ◌&&◌, false≢true}
use mathlib.Core.List.{List, [], ◌∷◌, ◌++◌, map, flatten}
use Prim.Native.Nat.{ℕ, ◌≤◌, ◌<◌}
use native.Mathlib.Omega.{arith}
use lib.ListN.{length, take, drop, get_or, length-drop, take-append-drop}
use lib.Seq.{length-take-le}
use lib.Dec.{leb, eqb}
use borrow.Author.Tests.{leb-true, eqb-true, le-leb, lt-leb, eq-eqb}
use Rattle.wire.specs.Sections.{total_of}
use Rattle.writer.specs.Cut.{sendable, cut_by, fit}
use Rattle.writer.specs.Layout.{sum}

-- ---- one section

pub by_first : (s : List ℕ) → 3 ≤ length s → length s ≡ total_of s → length s ≤ 4096
    → sendable s ≡ not (eqb (get_or s 0 0) 255)
by_first s k e w = simp (le-leb 3 (length s) k, eq-eqb (length s) (total_of s) e, le-leb (length s) 4096 w)

-- ---- one more

pub fit_short : (size : ℕ) (sizes bytes : List ℕ) → length bytes < size → fit (size ∷ sizes) bytes ≡ false
unfolding fit
fit_short size sizes bytes k = simp (lt-leb size (length bytes) k)

pub fit_stays : (size : ℕ) (sizes bytes : List ℕ) → size ≤ length bytes → sendable (take size bytes) ≡ false
    → fit (size ∷ sizes) bytes ≡ false
unfolding fit
fit_stays size sizes bytes k e =
    ap (λ (t : Bool). t && (sendable (take size bytes) && fit sizes (drop size bytes))) (le-leb size (length bytes) k)
    ∙ ap (λ (t : Bool). t && fit sizes (drop size bytes)) e

pub fit_goes : (size : ℕ) (sizes bytes : List ℕ) → size ≤ length bytes → sendable (take size bytes) ≡ true
    → fit (size ∷ sizes) bytes ≡ fit sizes (drop size bytes)
unfolding fit
fit_goes size sizes bytes k e =
    ap (λ (t : Bool). t && (sendable (take size bytes) && fit sizes (drop size bytes))) (le-leb size (length bytes) k)
    ∙ ap (λ (t : Bool). t && fit sizes (drop size bytes)) e

pub fit-end : (bytes : List ℕ) → fit [] bytes ≡ eqb (length bytes) 0
unfolding fit
fit-end bytes = refl

-- ---- what fits

and_both : (s t : Bool) → (s && t) ≡ true → (s ≡ true) × (t ≡ true)
and_both true t e = (refl, e)
and_both false t e = absurd (false≢true e)

-- of a section and those behind it
pub record Fit (size : ℕ) (sizes bytes : List ℕ) : Type 0 where
  pub there : size ≤ length bytes
  pub goes : sendable (take size bytes) ≡ true
  pub others : fit sizes (drop size bytes) ≡ true

pub fit_parts : (size : ℕ) (sizes bytes : List ℕ) → fit (size ∷ sizes) bytes ≡ true → Fit size sizes bytes
unfolding fit
fit_parts size sizes bytes e =
    let one = and_both (leb size (length bytes)) (sendable (take size bytes) && fit sizes (drop size bytes)) e in
    let two = and_both (sendable (take size bytes)) (fit sizes (drop size bytes)) one.1 in
    record { there = leb-true size (length bytes) one.0; goes = two.0; others = two.1 }

-- what one that can be sent is
pub record Goes (s : List ℕ) : Type 0 where
  pub header : 3 ≤ length s
  pub exact : length s ≡ total_of s
  pub limit : length s ≤ 4096
  pub first : not (eqb (get_or s 0 0) 255) ≡ true

pub goes_parts : (s : List ℕ) → sendable s ≡ true → Goes s
goes_parts s e =
    let rest₃ : Bool = not (eqb (get_or s 0 0) 255) in
    let rest₂ : Bool = leb (length s) 4096 && rest₃ in
    let one = and_both (leb 3 (length s)) (eqb (length s) (total_of s) && rest₂) e in
    let two = and_both (eqb (length s) (total_of s)) rest₂ one.1 in
    let three = and_both (leb (length s) 4096) rest₃ two.1 in
    record {
      header = leb-true 3 (length s) one.0;
      exact = eqb-true (length s) (total_of s) two.0;
      limit = leb-true (length s) 4096 three.0;
      first = three.1;
    }

no_bytes : (bytes : List ℕ) → fit [] bytes ≡ true → bytes ≡ []
unfolding fit
no_bytes bytes e = empty bytes (eqb-true (length bytes) 0 e)
  where
    empty : (l : List ℕ) → length l ≡ 0 → l ≡ []
    empty [] k = refl
    empty (b ∷ l) k = absurd (omega arith)

-- the sizes are those of the sections, and the bytes are theirs
pub cut_sizes : (sizes bytes : List ℕ) → fit sizes bytes ≡ true → map length (cut_by sizes bytes) ≡ sizes
cut_sizes [] bytes e = refl
cut_sizes (size ∷ sizes) bytes e =
    let f = fit_parts size sizes bytes e in
    let first = length-take-le size bytes f.there in
    let others = cut_sizes sizes (drop size bytes) f.others in
    λ i. first i ∷ others i

pub cut_bytes : (sizes bytes : List ℕ) → fit sizes bytes ≡ true → flatten (cut_by sizes bytes) ≡ bytes
unfolding flatten
cut_bytes [] bytes e = sym (no_bytes bytes e)
cut_bytes (size ∷ sizes) bytes e =
    ap (λ (l : List ℕ). take size bytes ++ l) (cut_bytes sizes (drop size bytes) (fit_parts size sizes bytes e).others)
    ∙ take-append-drop size bytes

pub fit_sum : (sizes bytes : List ℕ) → fit sizes bytes ≡ true → length bytes ≡ sum sizes
fit_sum [] bytes e = ap length (no_bytes bytes e)
fit_sum (size ∷ sizes) bytes e =
    let f = fit_parts size sizes bytes e in
    omega (arith, f.there, fit_sum sizes (drop size bytes) f.others, length-drop size bytes)
