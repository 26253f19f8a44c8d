-- In the statement: docs/STATEMENT.md lists which definitions.
-- How a run ends.
use Rattle.sq_replay.specs.declared.ends.RunEnd.{RunEnd}
use Rattle.sq_replay.specs.declared.ends.RunEnd.TheVariants.{Ok, Script, Config, Missing, ReadFault, WriteFault, WantOfMemory}

-- what ended a run from without: a read or a write that failed, or want of memory
pub data Fault : Type 0 where
  Reading : Fault
  Writing : Fault
  Lacking : Fault

-- how a run ends: its script was read to its end, the script was refused, or a fault ended it
pub data End : Type 0 where
  Done : End
  Refused : End
  Faulted : Fault → End

-- what kind of end each is
abbrev pub end_of : RunEnd → End
end_of Ok = Done
end_of (Script line) = Refused
end_of (Config e) = Refused
end_of (Missing name) = Refused
end_of ReadFault = Faulted Reading
end_of WriteFault = Faulted Writing
end_of WantOfMemory = Faulted Lacking

-- a run of a script ends by these alone, but for a fault from without
abbrev pub IsScriptEnd : RunEnd → Type 0
IsScriptEnd Ok = Unit {0}
IsScriptEnd (Script line) = Unit {0}
IsScriptEnd (Config e) = Unit {0}
IsScriptEnd (Missing name) = Unit {0}
IsScriptEnd end = ⊥
