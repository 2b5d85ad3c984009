-- Document 01's number of each refusal, and what an answer of `judge` says.
use Rattle.std.specs.Prelude.{ℕ, Result, Ok, Err}
use Rattle.packet.specs.Refusals.{Judged, refuse, bare, has_payload}
use Rattle.packet.specs.declared.Refusal.{Refusal}
use Rattle.packet.specs.declared.Refusal.TheVariants.{NotAPacket, Room, Unfit, Sync, Error, OtherPid, Scrambled, Adaptation, Pointer}
use Rattle.packet.specs.declared.Load.{Load}
use Rattle.packet.specs.declared.Load.TheVariants.{Bare, Payload}

abbrev pub number_of : Refusal → ℕ
number_of NotAPacket = 41
number_of Room = 42
number_of Unfit = 43
number_of Sync = 44
number_of Error = 45
number_of OtherPid = 46
number_of Scrambled = 47
number_of Adaptation = 48
number_of Pointer = 49

-- what a packet carries, or why it is refused
abbrev pub Judgement : Type 0
Judgement = Result Load Refusal

abbrev pub meant_load : Load → Judged
meant_load (Bare splice) = bare splice
meant_load (Payload q) = has_payload q.from q.start q.counter q.splice

abbrev pub meant : Judgement → Judged
meant (Ok load) = meant_load load
meant (Err refusal) = refuse (number_of refusal)
