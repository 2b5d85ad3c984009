-- `cabinet::packets::lohitunga_packets` meets its contract.
use mathlib.Core.Path.{ap, ap₂, ◌∙◌}
use Prim.Native.Nat.{ℕ}
use Rattle.writer.specs.Answer.{Outcome}
use Rattle.cabinet.specs.Packets.{packets_says}
use Rattle.cabinet.specs.declared.packets.PacketsAnswer.{PacketsAnswer}
use Rattle.cabinet.proofs.packets.lohitunga_packets.Goals as goal

answers : ℕ → ℕ → PacketsAnswer
answers k n = record { number = k; packets = n }

pub returns : goal.returns
unfolding answers
returns c =
    let write = c.write-a in (
      ap₂ answers c.packets_number.ensures c.packets_told.ensures
          ∙ ap (λ (o : Outcome). packets_says o.said) write.ensures,
      ap (λ (o : Outcome). o.room) write.ensures,
    )
