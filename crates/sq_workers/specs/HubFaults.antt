-- What a hub gives for what a desk gave.
use Rattle.std.specs.Prelude.{Result, Ok, Err}
use Rattle.sq_calls.specs.declared.faults.DeskFault.{DeskFault}
use Rattle.sq_calls.specs.declared.faults.DeskFault.TheVariants as fault
use Rattle.sq_turns.specs.declared.hub.HubFault.{HubFault}
use Rattle.sq_turns.specs.declared.hub.HubFault.TheVariants as hub

-- a desk that has stopped is a journal that failed
abbrev pub hub_fault : DeskFault → HubFault
hub_fault fault.Stopped = hub.JournalFault
hub_fault (fault.Engine refusal) = hub.Refused refusal
hub_fault fault.JournalFault = hub.JournalFault
hub_fault fault.WantOfMemory = hub.WantOfMemory

abbrev pub hub_gave : {T : Type 0} → Result T DeskFault → Result T HubFault
hub_gave (Ok a) = Ok a
hub_gave (Err f) = Err (hub_fault f)
