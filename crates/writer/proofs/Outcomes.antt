-- What a call comes to, by its three tests.
use mathlib.Core.Path.{◌≡◌, sym, ap, ◌∙◌}
use mathlib.Core.Bool.{Bool, true, false, not, ◌||◌}
use mathlib.Core.List.{List, [], ◌∷◌, flatten}
use Prim.Native.Nat.{ℕ, ◌*◌, ◌/◌, ◌≤◌}
use native.Mathlib.Omega.{arith}
use lib.ListN.{length}
use lib.Dec.{ltb}
use borrow.Author.Tests.{le-ltb}
use Rattle.copy.specs.Laid.{over}
use Rattle.packet.specs.Refusals.{◌when◌, first_of}
use Rattle.writer.specs.Cut.{fit, cut_by}
use Rattle.writer.specs.Layout.{unbegun, turns_from, laid_out}
use Rattle.writer.specs.Packets.{packets_from, packets_of}
use Rattle.writer.specs.Answer.{Outcome, Reply, wrote}
use Rattle.writer.specs.Written.{packet_count, outcome_by, written}
use Rattle.writer.proofs.CutLaws.{cut_sizes, cut_bytes}

abbrev pub outcome : List ℕ → Reply → Outcome
outcome room said = record { room = room; said = said }

module _ (pid counter : ℕ) (bytes sizes room : List ℕ) where
  abbrev by : Bool → Bool → Bool → Bool → Outcome
  by p c s r = outcome_by (first_of (101 when (p || c) ∷ 102 when s ∷ 103 when r ∷ [])) pid counter bytes sizes room

  written_by : (p c f r : Bool) → ltb 8191 pid ≡ p → ltb 15 counter ≡ c → fit sizes bytes ≡ f
      → ltb (length room) (packet_count sizes * 188) ≡ r → written pid counter bytes sizes room ≡ by p c (not f) r
  written_by p c f r e₁ e₂ e₃ e₄ = λ i. by (e₁ i) (e₂ i) (not (e₃ i)) (e₄ i)

  module _ (pid-ok : pid ≤ 8191) where
    module _ (counter-ok : counter ≤ 15) where
      module _ (fits : fit sizes bytes ≡ true) (n : ℕ) (e : n ≡ packet_count sizes) where
        pub room_enough : n ≤ length room / 188 → packet_count sizes * 188 ≤ length room
        room_enough k = omega (arith, e)

        -- the layout of the sections is that of their sizes
        same_packets : packets_from pid counter (laid_out (turns_from (unbegun sizes)) bytes)
            ≡ packets_of pid counter (cut_by sizes bytes)
        same_packets =
            sym (λ i. packets_from pid counter
            (laid_out (turns_from (unbegun (cut_sizes sizes bytes fits i))) (cut_bytes sizes bytes fits i)))

        pub all_written : n ≤ length room / 188 → (room' : List ℕ)
            → room' ≡ over (flatten (packets_from pid counter (laid_out (turns_from (unbegun sizes)) bytes))) room
            → outcome room' (wrote n) ≡ written pid counter bytes sizes room
        all_written k room' g =
            (λ i. outcome ((g ∙ ap (λ (ps : List (List ℕ)). over (flatten ps) room) same_packets) i) (wrote (e i)))
            ∙ sym (written_by false false true false (le-ltb 8191 pid pid-ok) (le-ltb 15 counter counter-ok) fits
            (le-ltb (length room) (packet_count sizes * 188) (room_enough k)))
