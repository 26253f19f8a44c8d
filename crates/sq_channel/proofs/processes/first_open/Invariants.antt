use Rattle.std.proofs.Common.{◌≡◌, drop}
use Rattle.sq_machine.specs.Channels.{first_open}
use Rattle.sq_channel.proofs.processes.first_open.Given as goal

abbrev pub invariant-loop-slot : goal.invariant-loop-slot
invariant-loop-slot l = first_open (drop l.slot-index l.slots) ≡ first_open l.slots
