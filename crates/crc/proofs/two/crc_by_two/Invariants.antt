-- The invariant: the two words, and then the bytes behind them, give the CRC_32 of s.
use mathlib.Core.List.{[], ◌∷◌}
use Rattle.crc.specs.Inner.Windows.{Ahead}
use Rattle.crc.proofs.two.crc_by_two.Given as goal

abbrev pub invariant-loop-i : goal.invariant-loop-i
invariant-loop-i l = Ahead l.s (l.v.a ∷ l.v.b ∷ []) l.i
