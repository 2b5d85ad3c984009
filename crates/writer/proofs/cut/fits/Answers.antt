-- `writer::cut::fits` meets its contract: what is asked of all sections is asked of those that are left.
use Rattle.std.proofs.Common.{◌≡◌, ℕ, ◌+◌, ◌-◌, ◌<◌, ◌≤◌, false, true, List, ◌∷◌, length, take, drop, get_or, eqb, drop_of_length-le, length-drop, take_all, drop-cons, sym, ap, ◌∙◌, arith}
use native.Mathlib.Numerals.{add-one}
use Rattle.writer.specs.Cut.{sendable, fit}
use Rattle.writer.proofs.CutLaws.{fit_short, fit_stays, fit_goes, fit-end}
use Rattle.writer.proofs.cut.fits.Goals as goal
use Rattle.writer.proofs.cut.fits.Goals.{then-left-size-via-then-left-size, then-left-size-via-else-left-size+then-not-can_go}

module _ (bytes sizes left : List ℕ) (i : ℕ) (e : fit (drop i sizes) left ≡ fit sizes bytes) where
  -- the section with number i is the first of those that are left
  module _ (k : i < length sizes) where
    abbrev size : ℕ
    size = get_or sizes i 0

    one : fit (size ∷ drop (i + 1) sizes) left ≡ fit sizes bytes
    one =
        ap (λ (l : List ℕ). fit l left) (sym (drop-cons sizes i 0 k ∙ ap (λ (n : ℕ). size ∷ drop n sizes) (sym (add-one i))))
        ∙ e

    too_short : length left < size → false ≡ fit sizes bytes
    too_short w = sym (fit_short size (drop (i + 1) sizes) left w) ∙ one

    stays : size ≤ length left → sendable (take size left) ≡ false → false ≡ fit sizes bytes
    stays w f = sym (fit_stays size (drop (i + 1) sizes) left w f) ∙ one

    goes : size ≤ length left → sendable (take size left) ≡ true → fit (drop (i + 1) sizes) (drop size left) ≡ fit sizes bytes
    goes w f = sym (fit_goes size (drop (i + 1) sizes) left w f) ∙ one

  -- no section is left
  ended : length sizes ≤ i → eqb (length left) 0 ≡ fit sizes bytes
  ended k = sym (fit-end left) ∙ ap (λ (l : List ℕ). fit l left) (sym (drop_of_length-le sizes k)) ∙ e

pub returns-then-left-size : goal.returns-then-left-size
returns-then-left-size c =
    let l = c.loop-size in
    let a = c.args in
    elim c.then-left-size.branch [
      | then-left-size-via-then-left-size w ↦
          too_short a.bytes.now a.sizes.now l.left.now l.size-index l.invariant (omega arith) w.if-left-size.true
      | then-left-size-via-else-left-size+then-not-can_go w ↦
          stays a.bytes.now a.sizes.now l.left.now l.size-index l.invariant (omega arith) w.if-left-size.false
          (sym w.can_go.ensures ∙ w.if-not-can_go.true)
    ]

pub loop-size-preserved : goal.loop-size-preserved
loop-size-preserved c =
    let l = c.loop-size in
    let n : ℕ = get_or c.args.sizes.now l.size-index 0 in
    let all : take (length l.left.now - n) (drop n l.left.now) ≡ drop n l.left.now =
    take_all _ _ (omega (arith, length-drop n l.left.now)) in
    ap (fit (drop (l.size-index + 1) c.args.sizes.now)) all
    ∙ goes c.args.bytes.now c.args.sizes.now l.left.now l.size-index l.invariant (omega arith) (omega arith)
    (sym c.can_go.ensures ∙ c.if-not-can_go.false)

pub returns : goal.returns
returns c =
    let l = c.loop-size in
    c.is_empty.ensures ∙ ended c.args.bytes.now c.args.sizes.now l.left.now l.size-index l.invariant c.loop-size-test.false
