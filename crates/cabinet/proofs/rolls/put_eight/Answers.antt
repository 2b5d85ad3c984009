-- One of the eight more is there.
use Prim.Native.Nat.{◌+◌, ◌*◌}
use mathlib.Core.Path.{sym, ap, ◌∙◌}
use mathlib.Core.Bool.{Bool, false}
use mathlib.Core.List.{List}
use native.Mathlib.Omega.{arith}
use native.Mathlib.Numerals.{add-one}
use lib.ListN.{get_or, set, length-set}
use lib.Seq.{paste, paste-suc}
use Rattle.cabinet.proofs.rolls.put_eight.Goals as goal

pub loop-i-preserved : goal.loop-i-preserved
loop-i-preserved c =
    let l = c.loop-i in
    let args = c.args in (
      length-set l.flags _ _ ∙ l.invariant.0,
      ap (λ (x : List Bool). set x (args.k * 8 + l.i) (get_or args.eight l.i false)) l.invariant.1
          ∙ paste-suc args.flags.now (args.k * 8) args.eight l.i false (omega arith) (omega arith)
          ∙ ap (paste args.flags.now (args.k * 8) args.eight) (sym (add-one l.i)),
    )
