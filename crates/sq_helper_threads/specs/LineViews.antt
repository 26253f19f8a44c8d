-- The desk and the clock of a keeper.
use Rattle.sq_helper_threads.specs.declared.lines.ServeLines.{ServeLines}

abbrev pub lines_desk : {K C : Type 0} → ServeLines K C → K
lines_desk s = s.desk

abbrev pub lines_clock : {K C : Type 0} → ServeLines K C → C
lines_clock s = s.clock
