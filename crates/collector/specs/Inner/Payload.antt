-- What the functions of payload.rt say of their arguments and answers.
use Rattle.std.specs.Prelude.{◌≡◌, ℕ, ◌+◌, ◌<◌, ◌≤◌, Bool, true, false, List, length, take, drop, slice_index}
use Rattle.wire.specs.Sections.{Unfinished}

-- what is known once a packet is judged to carry payload, with n bytes in hand: the rooms are large enough, the payload is there from index from
-- on, what is in hand can stand, and the pointer leads to a byte of the packet
pub record Fit (n : ℕ) (hold out packet : List ℕ) (from : ℕ) (start : Bool) : Type 0 where
  pub few : n < 4096
  pub hold_big : 4096 ≤ length hold
  pub out_big : 4280 ≤ length out
  pub from_past : 4 ≤ from
  pub from_within : from < length packet
  pub long : length packet ≤ 188
  pub stands : Unfinished (take n hold)
  pub points : start ≡ true → from + 1 + slice_index packet from < length packet

-- the stretch that goes to the section in hand, before the pointer's target or all of the payload: the first so many bytes of a rest of it
abbrev pub front_rest : Bool → List ℕ → List ℕ
front_rest true bs = drop 1 bs
front_rest false bs = bs

abbrev pub front_bytes : Bool → List ℕ → ℕ
front_bytes true bs = slice_index bs 0
front_bytes false bs = length bs
