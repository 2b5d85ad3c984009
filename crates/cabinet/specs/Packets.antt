-- What the packet writer answers, in numbers.
use Rattle.writer.specs.Answer.{Reply, wrote, refused_with}
use Rattle.cabinet.specs.declared.packets.PacketsAnswer.{PacketsAnswer}

-- how many packets are written; or the refusal's number
abbrev pub packets_says : Reply → PacketsAnswer
packets_says (wrote n) = record { number = 0; packets = n }
packets_says (refused_with k) = record { number = k; packets = 0 }
