-- The writer's test of bytes and sizes says that they are sections to send, and which.
use mathlib.Core.Path.{◌≡◌, refl, sym, ap, ◌∙◌}
use mathlib.Core.Bool.{true, not}
use mathlib.Core.List.{List, [], ◌∷◌, ◌++◌, map, flatten}
use Prim.Native.Nat.{ℕ, ◌<◌}
use native.Mathlib.Omega.{arith}
use lib.ListN.{length, take, drop, get_or, length-append}
use lib.Seq.{take-append_seam, drop-append_seam}
use lib.Dec.{eqb}
use borrow.Author.Tests.{eqb-false, ne_eqb, not-true}
use Rattle.wire.specs.Each.{Each}
use Rattle.writer.specs.Cut.{sendable, cut_by, fit}
use Rattle.writer.proofs.CutLaws.{by_first, fit_goes, fit-end, fit_parts, goes_parts, cut_sizes, cut_bytes}
use Rattle.reverse.specs.Sent.{Sendable, Sent}

-- ---- one section

pub goes_sendable : (s : List ℕ) → sendable s ≡ true → Sendable s
goes_sendable s e =
    let g = goes_parts s e in
    record {
      whole = record { header = g.header; exact = g.exact; limit = omega (arith, g.limit, g.exact) };
      no_filler = eqb-false (get_or s 0 0) 255 (not-true (eqb (get_or s 0 0) 255) g.first);
    }

sendable_goes : (s : List ℕ) → Sendable s → sendable s ≡ true
sendable_goes s x =
    let w = x.whole in
    by_first s w.header w.exact (omega (arith, w.exact, w.limit))
    ∙ ap not (ne_eqb (get_or s 0 0) 255 x.no_filler)

-- ---- all of them

each_cut : (sizes bytes : List ℕ) → fit sizes bytes ≡ true → Each Sendable (cut_by sizes bytes)
each_cut [] bytes e = tt
each_cut (size ∷ sizes) bytes e =
    let f = fit_parts size sizes bytes e in
    (goes_sendable (take size bytes) f.goes, each_cut sizes (drop size bytes) f.others)

pub fit_sent : (sizes bytes : List ℕ) → fit sizes bytes ≡ true → Sent bytes sizes (cut_by sizes bytes)
fit_sent sizes bytes e = record {
  bytes_are = cut_bytes sizes bytes e;
  sizes_are = cut_sizes sizes bytes e;
  each = each_cut sizes bytes e;
}

-- sections end to end are cut where they end
pub cut_back : (sections : List (List ℕ)) → cut_by (map length sections) (flatten sections) ≡ sections
unfolding flatten
cut_back [] = refl
cut_back (s ∷ sections) =
    let first = take-append_seam s (flatten sections) in
    let others =
    ap (cut_by (map length sections)) (drop-append_seam s (flatten sections)) ∙ cut_back sections in
    λ i. first i ∷ others i

fit_back : (sections : List (List ℕ)) → Each Sendable sections → fit (map length sections) (flatten sections) ≡ true
unfolding flatten
fit_back [] x = fit-end []
fit_back (s ∷ sections) x =
    fit_goes (length s) (map length sections) (s ++ flatten sections)
    (omega (arith, length-append s (flatten sections)))
    (ap sendable (take-append_seam s (flatten sections)) ∙ sendable_goes s x.0)
    ∙ ap (fit (map length sections)) (drop-append_seam s (flatten sections))
    ∙ fit_back sections x.1

pub sent_fit : {bytes sizes : List ℕ} {sections : List (List ℕ)} → Sent bytes sizes sections → fit sizes bytes ≡ true
sent_fit {bytes} {sizes} {sections} x =
    sym (λ i. fit (x.sizes_are i) (x.bytes_are i)) ∙ fit_back sections x.each

-- there is one way to cut them
pub sent_once : {bytes sizes : List ℕ} {sections : List (List ℕ)} → Sent bytes sizes sections
    → cut_by sizes bytes ≡ sections
sent_once {bytes} {sizes} {sections} x = sym (λ i. cut_by (x.sizes_are i) (x.bytes_are i)) ∙ cut_back sections

-- a section that is sent has bytes
pub each_some : (sections : List (List ℕ)) → Each Sendable sections → Each (λ s. 0 < length s) sections
each_some [] x = tt
each_some (s ∷ sections) x = (let w = x.0.whole.header in omega (arith, w), each_some sections x.1)
