-- `account::tally::enter_all` meets its contract: what is still to be entered leads from here to where it led from the start.
use Rattle.std.proofs.Common.{◌≡◌, ◌/◌, drop}
use Rattle.account.specs.Entered.{kept_as, entered_all, pieces}
use Rattle.account.proofs.tally.enter_all.Given as goal

abbrev pub invariant-loop-packet : goal.invariant-loop-packet
invariant-loop-packet l =
    entered_all (kept_as l.fn.a l.initial.hold l.initial.out) (pieces (l.n / 188) l.bytes)
    ≡ entered_all (kept_as l.b l.hold l.out) (drop l.packet-index l.packets)
