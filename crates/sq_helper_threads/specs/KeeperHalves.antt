-- The number of the process whose half is read.
use Rattle.std.specs.Prelude.{ℕ}
use Rattle.sq_helper_threads.specs.ReaderViews.{reader_proc}
use Rattle.sq_helper_threads.specs.declared.keeper_halves.ProcOut.{ProcOut}
use Rattle.sq_helper_threads.specs.declared.keeper_halves.ProcOut.TheVariants.{Asker, Child}

abbrev pub out_proc : {P R : Type 0} → ProcOut P R → ℕ
out_proc (Child half) = reader_proc half
out_proc (Asker half) = reader_proc half
