-- `collector::stretch::both` meets its contract.
use Rattle.std.proofs.Common.{arith}
use Rattle.collector.proofs.stretch.both.Goals as goal

pub overflow_add-result-6 : goal.overflow_add-result-6
overflow_add-result-6 c =
    let small = c.requires in
    omega (arith, small.0.skipping, small.1.skipping)
