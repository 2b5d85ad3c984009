-- Demand 1 of a packet, as statements about any collector, with any record, hold, out room and packet: "Input to which
-- numbered refusals apply gets the first of them in document 01's order, the record and all lent room unaltered; no
-- other input is refused."
use Rattle.std.specs.Prelude.{◌≡◌, true, false, ◌⊎◌, ◌↔◌, List, [], ◌∷◌, ℕ, length}
use Rattle.packet.specs.Refusals.{Row, refusals}
use Rattle.collector.specs.Refusals.{cannot_stand, too_small}
use Rattle.collector.specs.Answer.{Outcome, refused_with}
use Rattle.collector.specs.Collected.{unaltered}
use Rattle.collector.specs.declared.Record.{Record}
use Rattle.history.specs.Run.{Collector}

-- "the first of them in document 01's order": its row applies, and none of the rows above it does
abbrev pub First : ℕ → List Row → Type 0
First n [] = ⊥
First n (row ∷ rows) = ((row.applies ≡ true) × (row.number ≡ n)) ⊎ ((row.applies ≡ false) × First n rows)

module _ (C : Collector) where
  -- "gets the first of them ..; no other input is refused"
  abbrev pub RefusesFirst : Type 0
  RefusesFirst = (r : Record) (hold out packet : List ℕ) (o : Outcome) → C r hold out packet o
      → (n : ℕ)
      → (o.said ≡ refused_with n) ↔ First n (refusals (too_small (length hold) (length out)) (cannot_stand r hold) r.pid packet)

  -- "the record and all lent room unaltered"
  abbrev pub RefusedUnaltered : Type 0
  RefusedUnaltered = (r : Record) (hold out packet : List ℕ) (o : Outcome) → C r hold out packet o
      → (n : ℕ) → o.said ≡ refused_with n → o ≡ unaltered r hold out (refused_with n)
