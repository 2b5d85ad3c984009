-- Contracts among this crate's own functions: nothing that a caller must believe.
use Rattle.std.specs.Prelude.{◌≡◌, Bool, false, List, ℕ, ◌<◌, length, drop}
use Rattle.packet.specs.Header.{control, discontinuity, payload_from}
use Rattle.packet.specs.Refusals.{Row, refusals}

-- the rows of the table from 44, from 48 and from 49 on
abbrev pub header_refusals : ℕ → List ℕ → List Row
header_refusals pid packet = drop 3 (refusals false false pid packet)

abbrev pub shape_refusals : List ℕ → List Row
shape_refusals packet = drop 7 (refusals false false 0 packet)

abbrev pub pointer_refusal : List ℕ → List Row
pointer_refusal packet = drop 8 (refusals false false 0 packet)

-- a packet whose payload begins at index from, with its discontinuity_indicator
pub record PayloadAt (packet : List ℕ) (from : ℕ) (splice : Bool) : Type 0 where
  pub long : length packet ≡ 188
  pub at : from ≡ payload_from packet
  pub within : from < 188
  pub has : control packet ≡ 2 → ⊥
  pub bit : splice ≡ discontinuity packet
