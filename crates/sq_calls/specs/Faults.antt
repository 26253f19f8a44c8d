-- Why a call of a desk was not made.
use Rattle.sq_machine.specs.declared.refusals.Refusal.{Refusal}
use Rattle.sq_machine.specs.declared.refusals.Refusal.TheVariants as refusal
use Rattle.sq_calls.specs.declared.faults.DeskFault.{DeskFault}
use Rattle.sq_calls.specs.declared.faults.DeskFault.TheVariants as fault

-- the fault of a refusal of the machine: want of memory is a fault of its own
abbrev pub fault_of : Refusal → DeskFault
fault_of refusal.WantOfMemory = fault.WantOfMemory
fault_of r = fault.Engine r
