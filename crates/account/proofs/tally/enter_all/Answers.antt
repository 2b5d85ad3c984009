-- `account::tally::enter_all` meets its contract: what is still to be entered leads from here to where it led from the start.
use Rattle.std.proofs.Common.{◌≡◌, ℕ, zero, suc, ◌+◌, ◌/◌, ◌≤◌, List, ◌∷◌, length, take, drop, sym, refl, ap, ◌∙◌, arith, length-take-le, take-append-drop, drop_of_length-le}
use Rattle.std.proofs.lemmas.List.{drop_more}
use Rattle.std.specs.Simd.{first_chunks}
use Rattle.account.specs.Entered.{Kept, kept_as, entered_all, pieces}
use Rattle.account.proofs.Cuts.{pieces_front}
use Rattle.account.proofs.tally.enter_all.Goals as goal

chunks_are : (k : ℕ) (l : List ℕ) → first_chunks 188 k l ≡ pieces k l
chunks_are zero l = refl
chunks_are (suc k) l = ap (λ (ps : List (List ℕ)). take 188 l ∷ ps) (chunks_are k (drop 188 l))

-- the chunks of the first n bytes
whole : (n : ℕ) (bytes : List ℕ) → n ≤ length bytes
    → first_chunks 188 (length (take n bytes) / 188) (take n bytes) ≡ pieces (n / 188) bytes
whole n bytes k =
    let size : length (take n bytes) ≡ n = length-take-le n bytes k in
    chunks_are (length (take n bytes) / 188) (take n bytes)
    ∙ ap (λ (m : ℕ). pieces (m / 188) (take n bytes)) size
    ∙ sym (pieces_front (n / 188) (take n bytes) (drop n bytes) (omega (arith, size)))
    ∙ ap (pieces (n / 188)) (take-append-drop n bytes)

pub loop-packet-init : goal.loop-packet-init
loop-packet-init c =
    let a = c.args in
    ap (entered_all (kept_as a.a a.hold.now a.out.now))
    (sym (c.as_chunks.ensures.front ∙ whole a.n a.bytes.now c.requires))

pub loop-packet-preserved : goal.loop-packet-preserved
loop-packet-preserved c =
    let l = c.loop-packet in
    l.invariant
    ∙ ap (entered_all (kept_as l.b l.hold l.out)) (drop_more c.as_chunks.result.0.now l.packet-index _ c.loop-packet-test.true)
    ∙ ap (λ (k : Kept). entered_all k (drop (l.packet-index + 1) c.as_chunks.result.0.now)) (sym c.enter-b.ensures)

pub returns : goal.returns
returns c =
    let l = c.loop-packet in
    sym (l.invariant
    ∙ ap (entered_all (kept_as l.b l.hold l.out)) (drop_of_length-le c.as_chunks.result.0.now (omega (arith, c.loop-packet-test.false))))
