-- `writer::cut::fits` meets its contract: what is asked of all sections is asked of those that are left.
use Rattle.std.proofs.Common.{◌≡◌, drop}
use Rattle.writer.specs.Cut.{fit}
use Rattle.writer.proofs.cut.fits.Given as goal

abbrev pub invariant-loop-size : goal.invariant-loop-size
invariant-loop-size l = fit (drop l.size-index l.sizes) l.left ≡ fit l.sizes l.bytes
