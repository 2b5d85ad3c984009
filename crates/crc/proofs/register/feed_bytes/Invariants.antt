-- The invariant: what is left, into the register as it is, gives what all bytes give.
use mathlib.Core.Path.{◌≡◌}
use lib.ListN.{drop}
use Rattle.crc.specs.Crc.{feed_bytes}
use Rattle.crc.proofs.register.feed_bytes.Given as goal

abbrev pub invariant-loop-b : goal.invariant-loop-b
invariant-loop-b l = feed_bytes (drop l.b-index l.s) l.v ≡ feed_bytes l.s l.r
